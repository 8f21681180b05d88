-- Memory by what stands in it, one part after another.
use Rattle.std.specs.Prelude.{ℕ, List, [], ◌++◌, replicate, fold}
use Rattle.std.specs.List.{flat_map}
use Rattle.store.specs.Bytes.{to_be32}
use Rattle.store_examples.specs.declared.memory.Page.{Page}

-- for each byte a block that has it throughout
abbrev pub block_memory : List ℕ → List ℕ
block_memory bytes = flat_map (λ (byte : ℕ). replicate 512 byte) bytes

-- a page more: its owner, the highest byte first, and a content of one byte throughout
abbrev pub with_page : List ℕ → Page → List ℕ
with_page memory page = (memory ++ to_be32 page.owner) ++ replicate 512 page.byte

abbrev pub page_memory : List Page → List ℕ
page_memory pages = fold with_page [] pages
