-- The first place that passes a test, and why some page is always free. A proof of the card's law, which is taken from specs/.
use Rattle.std.specs.Prelude.{◌≡◌, ℕ, zero, suc, ◌+◌, ◌-◌, ◌<◌, ◌≤◌, Bool, true, false, cond, ◌==◌, ◌≢◌}
use Rattle.std.proofs.Math.Path.{refl, ap}
use Rattle.std.proofs.Common.{sym, ◌∙◌}
use Rattle.std.proofs.Math.Logic.{⊎_elim}
use native.Mathlib.Omega.{arith}
use Rattle.std.proofs.lemmas.Bool.{cond-true, cond-false, cond_both, eq-eqb, ne_eqb, cases_eq, cases_lt, cases_order, true≢false}
use Rattle.flash_card.specs.Card.{first_from}

module _ (test : ℕ → Bool) where
  pub first_within : (i n : ℕ) → (i ≤ first_from test i n) × (first_from test i n ≤ i + n)
  unfolding first_from
  first_within i zero = (omega arith, omega arith)
  first_within i (suc n) =
      cond_both (test i) i (first_from test (suc i) n) (λ f. (i ≤ f) × (f ≤ i + suc n))
      (λ _. (omega arith, omega arith))
      (λ _. let h = first_within (suc i) n in (omega (arith, h.0), omega (arith, h.1)))

  pub first_passes : (i n : ℕ) → first_from test i n < i + n → test (first_from test i n) ≡ true
  unfolding first_from
  first_passes i zero h = absurd (omega arith)
  first_passes i (suc n) h = go (test i) refl (first_passes (suc i) n) h
    where
      go :
          (t : Bool) → test i ≡ t → (first_from test (suc i) n < suc i + n → test (first_from test (suc i) n) ≡ true)
          → cond t i (first_from test (suc i) n) < i + suc n → test (cond t i (first_from test (suc i) n)) ≡ true
      go true e ih l = e
      go false e ih l = ih (omega arith)

  pub first_least : (i n j : ℕ) → i ≤ j → j < first_from test i n → test j ≡ false
  unfolding first_from
  first_least i zero j a b = absurd (omega arith)
  first_least i (suc n) j a b = go (test i) refl (first_least (suc i) n j) b
    where
      go : (t : Bool) → test i ≡ t → (suc i ≤ j → j < first_from test (suc i) n → test j ≡ false) → j < cond t i (first_from test (suc i) n) → test j ≡ false
      go true e ih l = absurd (omega arith)
      go false e ih l = ⊎_elim (λ (o : j ≡ i). ap test o ∙ e) (λ (o : j ≡ i → ⊥). ih (omega arith) l) (cases_eq j i)

  pub first_is : (n f : ℕ) → f < n → test f ≡ true → ((j : ℕ) → j < f → test j ≡ false) → first_from test 0 n ≡ f
  first_is n f b t least =
      ⊎_elim
      (λ (e : q ≡ f). e)
      (⊎_elim
      (λ (l : q < f). absurd (true≢false (sym (first_passes 0 n (omega arith)) ∙ least q l)))
      (λ (l : f < q). absurd (true≢false (sym t ∙ first_least 0 n f (omega arith) l))))
      (cases_order q f)
    where
      q : ℕ
      q = first_from test 0 n

  pub first_none : (n : ℕ) → ((j : ℕ) → j < n → test j ≡ false) → first_from test 0 n ≡ n
  first_none n none =
      ⊎_elim
      (λ (l : q < n). absurd (true≢false (sym (first_passes 0 n (omega arith)) ∙ none q l)))
      (λ (l : n ≤ q). let h = (first_within 0 n).1 in omega arith)
      (cases_lt q n)
    where
      q : ℕ
      q = first_from test 0 n

-- the search of the places from i to n, one place on
module _ (test : ℕ → Bool) (n i : ℕ) where
  first_step : i < n → first_from test i (n - i) ≡ cond (test i) i (first_from test (i + 1) (n - (i + 1)))
  unfolding first_from
  first_step h =
      let a : n - i ≡ suc (n - (i + 1)) = omega arith in
      let b : suc i ≡ i + 1 = omega arith in
      ap (first_from test i) a ∙ ap (λ j. cond (test i) i (first_from test j (n - (i + 1)))) b

  pub first_hit : i < n → test i ≡ true → first_from test i (n - i) ≡ i
  first_hit h t = first_step h ∙ cond-true (test i) i (first_from test (i + 1) (n - (i + 1))) t

  pub first_miss : i < n → test i ≡ false → first_from test i (n - i) ≡ first_from test (i + 1) (n - (i + 1))
  first_miss h t = first_step h ∙ cond-false (test i) i (first_from test (i + 1) (n - (i + 1))) t

  pub first_end : n ≤ i → first_from test i (n - i) ≡ i
  unfolding first_from
  first_end h = let a : n - i ≡ 0 = omega arith in ap (first_from test i) a

-- more places than values: some value stands at two places
pub pigeons : (c n : ℕ) (f : ℕ → ℕ) → c < n → ((i : ℕ) → i < n → f i < c) → ((i j : ℕ) → i < j → j < n → f i ≢ f j) → ⊥
pigeons zero n f h below apart = let z = below 0 (omega arith) in omega arith
pigeons (suc c) n f h below apart = pigeons c m g (omega arith) below' apart'
  where
    m : ℕ
    m = n - 1

    -- the last place's value stands in for c
    g : ℕ → ℕ
    g i = cond (f i == c) (f m) (f i)

    top : (i : ℕ) → f i ≡ c → g i ≡ f m
    top i e = cond-true (f i == c) (f m) (f i) (eq-eqb (f i) c e)

    low : (i : ℕ) → (f i ≢ c) → g i ≡ f i
    low i e = cond-false (f i == c) (f m) (f i) (ne_eqb (f i) c e)

    below' : (i : ℕ) → i < m → g i < c
    below' i l =
        ⊎_elim
        (λ (e : f i ≡ c).
        let t = top i e in
        let b = below m (omega arith) in
        ⊎_elim (λ (z : f m ≡ c). absurd (apart i m l (omega arith) (e ∙ sym z))) (λ (z : f m ≡ c → ⊥). omega arith) (cases_eq (f m) c))
        (λ (e : f i ≡ c → ⊥). let t = low i e in let b = below i (omega arith) in omega arith)
        (cases_eq (f i) c)

    apart' : (i j : ℕ) → i < j → j < m → g i ≢ g j
    apart' i j a b e =
        ⊎_elim
        (λ (x : f i ≡ c).
        ⊎_elim
        (λ (y : f j ≡ c). apart i j a (omega arith) (x ∙ sym y))
        (λ (y : f j ≡ c → ⊥). apart j m b (omega arith) (sym (low j y) ∙ sym e ∙ top i x))
        (cases_eq (f j) c))
        (λ (x : f i ≡ c → ⊥).
        ⊎_elim
        (λ (y : f j ≡ c). apart i m (omega arith) (omega arith) (sym (low i x) ∙ e ∙ top j y))
        (λ (y : f j ≡ c → ⊥). apart i j a (omega arith) (sym (low i x) ∙ e ∙ low j y))
        (cases_eq (f j) c))
        (cases_eq (f i) c)
