-- A loop that makes a call for each block from block a on, and returns at the first failure.
use Rattle.std.proofs.Common.{◌≡◌, ℕ, ◌+◌, ◌-◌, ◌<◌, ◌≤◌, Ok, Err, sym, subst, arith}
use Rattle.store.specs.declared.StoreError.{StoreError}
use Rattle.store.specs.Steps.{Answer, Stepped, stepped}
use Rattle.store.specs.Sequence.{in_turn}
use Rattle.store.proofs.InTurn.{goes_on, stops}

module _ {M : Type 0} (f : ℕ → M → Stepped (Unit {0}) M) (m : M) (a : ℕ) where
  at_block : {m₁ m₂ : M} {r : Answer (Unit {0})} (n : ℕ) → a ≤ n → stepped r m₂ ≡ f n m₁ → stepped r m₂ ≡ f (a + (n - a)) m₁
  at_block {m₁} {m₂} {r} n h e = let back : a + (n - a) ≡ n = omega arith in subst (λ k. stepped r m₂ ≡ f k m₁) (sym back) e

  pub goes_onward :
      {m₁ m₂ : M} {r : Answer (Unit {0})} (n : ℕ) → a ≤ n → stepped (Ok tt) m₁ ≡ in_turn (n - a) (λ i. f (a + i)) m → stepped r m₂ ≡ f n m₁ → r ≡ Ok tt
      → stepped (Ok tt) m₂ ≡ in_turn ((n + 1) - a) (λ i. f (a + i)) m
  goes_onward n h p e q =
      let more : (n + 1) - a ≡ (n - a) + 1 = omega arith in rw more (goes_on (λ i. f (a + i)) m (n - a) p (at_block n h e) q)

  pub stops_there :
      {m₁ m₂ : M} {r : Answer (Unit {0})} {x : StoreError} (n count : ℕ) → a ≤ n → n < a + count → stepped (Ok tt) m₁ ≡ in_turn (n - a) (λ i. f (a + i)) m
      → stepped r m₂ ≡ f n m₁ → r ≡ Err x → stepped (Err x) m₂ ≡ in_turn count (λ i. f (a + i)) m
  stops_there n count h h' p e q = stops (λ i. f (a + i)) m (n - a) count (omega arith) p (at_block n h e) q
