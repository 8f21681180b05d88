-- Rows as their list changes.
use Rattle.std.proofs.Common.{◌≡◌, ◌≢◌, ℕ, zero, suc, ◌<◌, Bool, true, false, cond, List, [], ◌∷◌, ◌++◌, map, length, eqb, set, refl, sym, ap, ◌∙◌, Some, vec_items, arith}
use Rattle.std.specs.Borrow.{Bor}
use Rattle.std.specs.List.{slice_get}
use Rattle.std.proofs.lemmas.List.{map-append, append-nil}
use Rattle.std.proofs.lemmas.Bool.{eqb-true, eqb-false}
use Rattle.store.specs.Steps.{Content}
use Rattle.book.specs.Rows.{Row, contents, row, at_block}

set_same : (rows : List Row) (k : ℕ) (v : Row) → k < length rows → slice_get (set rows k v) k ≡ Some v
set_same [] k v h = absurd (omega arith)
set_same (u ∷ us) zero v h = refl
set_same (u ∷ us) (suc k) v h = set_same us k v (omega arith)

set_other : (rows : List Row) (k b : ℕ) (v : Row) → b ≢ k → slice_get (set rows k v) b ≡ slice_get rows b
set_other [] k b v d = refl
set_other (u ∷ us) zero zero v d = absurd (d refl)
set_other (u ∷ us) zero (suc b) v d = refl
set_other (u ∷ us) (suc k) zero v d = refl
set_other (u ∷ us) (suc k) (suc b) v d = set_other us k b v (λ e. d (ap suc e))

-- a row with one more content in place of the row before
pub row_set :
    (rows : List Row) (k b : ℕ) (u v : Row) (x : Bor (List ℕ)) → k < length rows → slice_get rows k ≡ Some u → vec_items v ≡ vec_items u ++ (x ∷ [])
    → row (set rows k v) b ≡ row rows b ++ at_block k x.now b
row_set rows k b u v x h e p = go (eqb b k) refl
  where
    go : (same : Bool) → eqb b k ≡ same → row (set rows k v) b ≡ row rows b ++ cond same (x.now ∷ []) []
    go true q =
        let i : b ≡ k = eqb-true b k q in
        ap (row (set rows k v)) i
        ∙ ap contents (set_same rows k v h)
        ∙ ap (map (λ (y : Bor (List ℕ)). y.now)) p
        ∙ map-append (λ (y : Bor (List ℕ)). y.now) (vec_items u) (x ∷ [])
        ∙ ap (λ (xs : List Content). xs ++ (x.now ∷ [])) (sym (ap contents e))
        ∙ ap (λ (j : ℕ). row rows j ++ (x.now ∷ [])) (sym i)
    go false q = ap contents (set_other rows k b v (eqb-false b k q)) ∙ sym (append-nil (row rows b))
