-- The place where a search ended.
use Rattle.std.proofs.Common.{◌≡◌, ℕ, ◌<◌, ◌≤◌, Bool, true, false, cond, ltb, Some, None, sym, refl, ap, ◌∙◌, arith}
use Rattle.std.proofs.lemmas.Bool.{cond-true, cond-false, lt-ltb, le-ltb, ltb-true, ltb-false}
use Rattle.store.specs.Places.{if_below}

pub below_some : (n i j : ℕ) → Some i ≡ if_below n j → (i ≡ j) × (j < n)
below_some n i j e = go (ltb j n) refl e
  where
    go : (t : Bool) → ltb j n ≡ t → Some i ≡ cond t (Some j) None → (i ≡ j) × (j < n)
    go true l e = (cc, ltb-true j n l)
    go false l e = absurd (let z : ◌≡◌ {A = ℕ} 0 1 = cc in omega arith)

pub below_none : (n j : ℕ) → None ≡ if_below n j → n ≤ j
below_none n j e = go (ltb j n) refl e
  where
    go : (t : Bool) → ltb j n ≡ t → None ≡ cond t (Some j) None → n ≤ j
    go true l e = absurd (let z : ◌≡◌ {A = ℕ} 0 1 = cc in omega arith)
    go false l e = ltb-false j n l

pub below_is : (n i j : ℕ) → i < n → j ≡ i → Some i ≡ if_below n j
below_is n i j h e = sym (ap (if_below n) e ∙ cond-true (ltb i n) (Some i) None (lt-ltb i n h))

pub below_past : (n j : ℕ) → n ≤ j → None ≡ if_below n j
below_past n j h = sym (cond-false (ltb j n) (Some j) None (le-ltb j n h))
