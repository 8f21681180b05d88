-- How many seconds are recorded whole.
use Rattle.std.proofs.Common.{◌≡◌, ℕ, zero, suc, ◌+◌, ◌-◌, ◌<◌, Ok, Err, sym, refl, ap, ◌∙◌, suc-add, zero-add, arith}
use Rattle.store.specs.declared.StoreError.{StoreError}
use Rattle.store.specs.Steps.{Answer, Steps, Stepped, stepped}
use Rattle.store.proofs.InTurn.{past, stops}
use Rattle.shift_log.specs.Recording.{run, second_calls, seconds_steps, seconds_recorded}

module _ {M : Type 0} (steps : Steps M) (every : ℕ) (s : M) where
  -- how many are recorded whole, from the answer to the last of n + 1
  counted : ℕ → Answer (Unit {0}) → ℕ
  counted n a = elim a [ Ok _ ↦ suc n | Err _ ↦ seconds_recorded steps n every s ]

  pub all_recorded : {t : M} (n : ℕ) → stepped (Ok tt) t ≡ seconds_steps steps n every s → seconds_recorded steps n every s ≡ n
  unfolding seconds_recorded counted
  all_recorded zero e = refl
  all_recorded {t} (suc n) e = ap (λ (c : Stepped (Unit {0}) M). counted n c.answer) (sym e)

  one_failed : {t : M} {x : StoreError} (n : ℕ) → stepped (Err x) t ≡ seconds_steps steps (suc n) every s → seconds_recorded steps (suc n) every s ≡ seconds_recorded steps n every s
  unfolding seconds_recorded counted
  one_failed n e = ap (λ (c : Stepped (Unit {0}) M). counted n c.answer) (sym e)

  failed_on : {t : M} {x : StoreError} (i k : ℕ) → stepped (Err x) t ≡ seconds_steps steps (suc i) every s → seconds_recorded steps (k + suc i) every s ≡ seconds_recorded steps i every s
  unfolding seconds_steps
  failed_on i zero e = rw zero-add (one_failed i e)
  failed_on i (suc k) e =
      rw suc-add
      (one_failed (k + suc i) (rw suc-add at (past (λ second u. run steps (second_calls every second) u) s (suc i) (suc k) e))
      ∙ failed_on i k e)

  -- the seconds before the first that failed
  pub recorded_until : {t t' : M} {r : Answer (Unit {0})} {x : StoreError} (i n : ℕ) → i < n
      → stepped (Ok tt) t ≡ seconds_steps steps i every s → stepped r t' ≡ run steps (second_calls every i) t → r ≡ Err x
      → seconds_recorded steps n every s ≡ i
  unfolding seconds_steps
  recorded_until i n h p e q =
      let f : ℕ → M → Stepped (Unit {0}) M = λ second u. run steps (second_calls every second) u in
      let all : (n - suc i) + suc i ≡ n = omega arith in
      rw (← all) (failed_on i (n - suc i) (stops f s i (suc i) (omega arith) p e q)) ∙ all_recorded i p
