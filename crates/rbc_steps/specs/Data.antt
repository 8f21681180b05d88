-- The bytes that INQUIRY and READ CAPACITY return.
use Rattle.std.specs.Prelude.{ℕ, ◌-◌, List, ◌∷◌, ◌++◌, codes}
use Rattle.store.specs.Bytes.{to_be32}

-- 36 bytes: eight of features, then vendor, product and revision in ASCII
abbrev pub inquiry_data : List ℕ
inquiry_data = 0x0e ∷ 0x80 ∷ 0x04 ∷ 0x02 ∷ 0x1f ∷ 0 ∷ 0 ∷ 0 ∷ codes "BERGBAHNBRAKE LOG MODULE0100"

-- the last block's number and the block size
abbrev pub capacity_data : ℕ → List ℕ
capacity_data count = to_be32 (count - 1) ++ to_be32 512
