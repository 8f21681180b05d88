-- What a ladder of tests says, passed or not.
use Rattle.std.proofs.Common.{◌≡◌, ℕ, Bool, true, false, cond, eqb, List, [], ◌∷◌, ◌++◌, Ok, Err, Result, refl, ap, subst, arith}
use Rattle.std.proofs.lemmas.Bool.{eqb-false}
use Rattle.sense.specs.declared.CommandError.{CommandError}
use Rattle.sense.specs.Report.{Answer, number, Refused}
use Rattle.sense.specs.Ladder.{Rung, first_no, unless_refused}

-- the second, unless the first refuses
abbrev pub after : {A : Type 0} → Result (Unit {0}) CommandError → Result A CommandError → Result A CommandError
after (Ok u) r = r
after (Err e) r = Err e

pub first_no_append : (xs ys : List Rung) → first_no (xs ++ ys) ≡ after (first_no xs) (first_no ys)
first_no_append [] ys = refl
first_no_append (x ∷ xs) ys = go (first_no_append xs ys) x.holds
  where
    go : first_no (xs ++ ys) ≡ after (first_no xs) (first_no ys) → (v : Bool)
        → cond v (first_no (xs ++ ys)) (Err x.refusal) ≡ after (cond v (first_no xs) (Err x.refusal)) (first_no ys)
    go more true = more
    go more false = refl

-- every test holds
abbrev pub All : List Rung → Type 0
All [] = Unit {0}
All (r ∷ rs) = (r.holds ≡ true) × All rs

pub all_hold : (rs : List Rung) → first_no rs ≡ Ok tt → All rs
all_hold [] e = tt
all_hold (r ∷ rs) e = go (all_hold rs) r.holds refl e
  where
    go : (first_no rs ≡ Ok tt → All rs) → (v : Bool) → r.holds ≡ v → cond v (first_no rs) (Err r.refusal) ≡ Ok tt → (r.holds ≡ true) × All rs
    go more true h f = (h, more f)
    go more false h f = let z : ◌≡◌ {A = ℕ} 0 1 = cc in absurd (omega arith)

pub passed : {A : Type 0} (r : Result (Unit {0}) CommandError) (a b : A) → unless_refused r a ≡ Ok b → (r ≡ Ok tt) × (a ≡ b)
passed (Ok u) a b e = (refl, cc)
passed (Err x) a b e = let z : ◌≡◌ {A = ℕ} 0 1 = cc in absurd (omega arith)

pub stopped : {A : Type 0} (r : Result (Unit {0}) CommandError) (a : A) (x : CommandError) → unless_refused r a ≡ Err x → r ≡ Err x
stopped (Ok u) a x e = let z : ◌≡◌ {A = ℕ} 0 1 = cc in absurd (omega arith)
stopped (Err y) a x e = let h : y ≡ x = cc in ap Err h

-- each test that fails is answered by a refusal
abbrev pub Refusals : Bool → List Rung → Type 0
Refusals power [] = Unit {0}
Refusals power (r ∷ rs) = (r.holds ≡ false → Refused power (Err r.refusal)) × Refusals power rs

pub refuses : (power : Bool) (rs : List Rung) → Refusals power rs → (a : CommandError) → first_no rs ≡ Err a → Refused power (Err a)
refuses power [] h a e = let z : ◌≡◌ {A = ℕ} 0 1 = cc in absurd (omega arith)
refuses power (r ∷ rs) h a e = go (refuses power rs h.1 a) r.holds refl e
  where
    go : (first_no rs ≡ Err a → Refused power (Err a)) → (v : Bool) → r.holds ≡ v → cond v (first_no rs) (Err r.refusal) ≡ Err a → Refused power (Err a)
    go more true i f = more f
    go more false i f = let same : r.refusal ≡ a = cc in subst (λ (z : CommandError). Refused power (Err z)) same (h.0 i)

-- an answer that is neither good nor a loss of power is a refusal
pub ordinary : (power : Bool) (a : Answer) → eqb (number a) 0 ≡ false → eqb (number a) 2 ≡ false → Refused power a
ordinary power a d₀ d₂ = record { not_good = eqb-false (number a) 0 d₀; not_lost = λ e. absurd (eqb-false (number a) 2 d₂ e) }
