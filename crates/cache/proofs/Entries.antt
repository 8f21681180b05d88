-- Tests that every entry of a cache passes.
use Rattle.std.proofs.Common.{◌≡◌, ℕ, zero, suc, ◌+◌, ◌<◌, ◌≤◌, Bool, true, false, cond, eqb, ltb, List, [], ◌∷◌, ◌++◌, length, Some, None, Option, refl, arith}
use Rattle.std.proofs.lemmas.Bool.{cond_both, and_parts, and_from, eq-eqb, eqb-true, ltb-true}
use Rattle.std.specs.List.{list_all}
use Rattle.store.specs.Meaning.{Meaning, Sized, sum_below, held}
use Rattle.store.proofs.Sums.{sum_plus, sum_same, sum_one, one_at}
use Rattle.cache.specs.declared.Entry.{Entry}
use Rattle.cache.specs.Entries.{waiting, over, sized, within}
use Rattle.cache.proofs.Over.{SizedEntry, held_on}

pub none_left : {A : Type 0} (xs : List A) → length xs ≤ 0 → xs ≡ []
none_left [] h = refl
none_left (x ∷ xs) h = absurd (omega arith)

module _ (test : Entry → Bool) where
  pub every_head : (e : Entry) (es : List Entry) → list_all test (e ∷ es) ≡ true → test e ≡ true
  every_head e es h = (and_parts (test e) (list_all test es) h).0

  pub every_tail : (e : Entry) (es : List Entry) → list_all test (e ∷ es) ≡ true → list_all test es ≡ true
  every_tail e es h = (and_parts (test e) (list_all test es) h).1

  pub every_cons : (e : Entry) (es : List Entry) → test e ≡ true → list_all test es ≡ true → list_all test (e ∷ es) ≡ true
  every_cons e es t h = and_from (test e) (list_all test es) t h

  pub every_push : (es : List Entry) (e : Entry) → list_all test es ≡ true → test e ≡ true → list_all test (es ++ (e ∷ [])) ≡ true
  every_push [] e h t = every_cons e [] t refl
  every_push (f ∷ es) e h t = every_cons f (es ++ (e ∷ [])) (every_head f es h) (every_push es e (every_tail f es h) t)

-- an empty slot passes every test
abbrev pub passes : (Entry → Bool) → Option Entry → Bool
passes test None = true
passes test (Some e) = test e

abbrev pub fits : Entry → Bool
fits e = eqb (length e.content) 512

pub fits_from : (e : Entry) → length e.content ≡ 512 → fits e ≡ true
fits_from e z = eq-eqb (length e.content) 512 z

pub sized_entry : (slot : Option Entry) → passes fits slot ≡ true → SizedEntry slot
sized_entry None h = tt
sized_entry (Some e) h = eqb-true (length e.content) 512 h

pub sized_head : (e : Entry) (es : List Entry) → sized (e ∷ es) ≡ true → length e.content ≡ 512
sized_head e es h = sized_entry (Some e) (every_head fits e es h)

pub sized_tail : (e : Entry) (es : List Entry) → sized (e ∷ es) ≡ true → sized es ≡ true
sized_tail e es h = every_tail fits e es h

pub sized_waiting : (es : List Entry) (k : ℕ) → sized es ≡ true → Sized (waiting es k)
sized_waiting [] k h = tt
sized_waiting (e ∷ es) k h =
    cond_both (eqb k e.block) (e.content ∷ waiting es k) (waiting es k) Sized
    (λ _. (sized_head e es h, sized_waiting es k (sized_tail e es h)))
    (λ _. sized_waiting es k (sized_tail e es h))

-- blocks below a count are below an equal one
pub within_same : (n n' : ℕ) (es : List Entry) → n' ≡ n → within n es ≡ true → within n' es ≡ true
within_same n n' es e h = rw e h

waiting_length : (e : Entry) (es : List Entry) (k : ℕ) → length (waiting (e ∷ es) k) ≡ one_at e.block k + length (waiting es k)
waiting_length e es k =
    elim (eqb k e.block) as (λ t. length (cond t (e.content ∷ waiting es k) (waiting es k)) ≡ cond t 1 0 + length (waiting es k))
    [ true ↦ omega arith | false ↦ omega arith ]

none_waiting : (n : ℕ) → sum_below n (λ k. length (waiting [] k)) ≡ 0
none_waiting zero = refl
none_waiting (suc n) = let h = none_waiting n in omega arith

-- each entry is one content of some block
all_waiting : (count : ℕ) (es : List Entry) → within count es ≡ true → sum_below count (λ k. length (waiting es k)) ≡ length es
all_waiting count [] h = none_waiting count
all_waiting count (e ∷ es) h =
    let b : e.block < count = ltb-true e.block count (every_head (λ e. ltb e.block count) e es h) in
    let s = sum_same count (λ k. length (waiting (e ∷ es) k)) (λ k. one_at e.block k + length (waiting es k)) (λ k _. waiting_length e es k) in
    let p = sum_plus count (one_at e.block) (λ k. length (waiting es k)) in
    let o = sum_one count e.block b in
    let i = all_waiting count es (every_tail (λ e. ltb e.block count) e es h) in
    omega arith

-- a cache with power holds its entries beside what is held below
pub held_over : (m : Meaning) (es : List Entry) → within m.count es ≡ true → 0 < m.grant → held (over m (waiting es)) ≡ held m + length es
held_over m es h g = let a = held_on m (waiting es) g in let b = all_waiting m.count es h in omega arith
