-- The rows of a book, as the program keeps them.
use Rattle.std.specs.Prelude.{◌≡◌, ℕ, ◌<◌, cond, List, [], ◌∷◌, ◌++◌, length, map, ◌==◌, Option, None, Some, vec_items}
use Rattle.std.specs.Borrow.{Bor}
use Rattle.std.specs.List.{slice_get}
use Rattle.std.specs.declared.alloc.Global.{Global}
use Rattle.std.specs.declared.vec.Vec.{Vec}
use Rattle.store.specs.Steps.{Content}

abbrev pub Row : Type 0
Row = Vec (Bor (List ℕ)) Global

abbrev pub contents : Option Row → List Content
contents None = []
contents (Some v) = map (λ x. x.now) (vec_items v)

-- the row of block b, none past the last
abbrev pub row : List Row → ℕ → List Content
row rows b = contents (slice_get rows b)

-- one content, for block k alone
abbrev pub at_block : ℕ → Content → ℕ → List Content
at_block k x b = cond (b == k) (x ∷ []) []

-- no row is lost, and each is the row before with more contents at its end
abbrev pub Grown : List Row → List Row → (ℕ → List Content) → Type 0
Grown rows rows' more = (length rows' ≡ length rows) × ((b : ℕ) → b < length rows → row rows' b ≡ row rows b ++ more b)
