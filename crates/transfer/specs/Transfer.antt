-- Blocks and bytes moved between the host and the store.
use Rattle.std.specs.Prelude.{ℕ, ◌+◌, ◌*◌, Bool, cond, List, [], length, Ok, slice_index_or}
use Rattle.store.specs.Steps.{Content, Steps, Stepped, stepped, next}
use Rattle.store.specs.Bytes.{placed}
use Rattle.store.specs.Sequence.{in_turn}

-- a store, and the host's data-in
pub record Buffered (M : Type 0) : Type 0 where
  pub store : M
  pub data_in : List ℕ

abbrev pub buffered : {M : Type 0} → M → List ℕ → Buffered M
buffered m d = record { store = m; data_in = d }

abbrev pub delivered : {M : Type 0} → ℕ → List ℕ → Stepped Content M → Stepped (Unit {0}) (Buffered M)
delivered at d r = next {M = Buffered _} (stepped r.answer (buffered r.after d)) (λ x b. stepped (Ok tt) (buffered b.store (placed b.data_in at x)))

module _ {M : Type 0} (s : Steps M) where
  abbrev pub put_forced : Bool → ℕ → Content → M → Stepped (Unit {0}) M
  put_forced force b x m = next (s.put m b x) (λ _ m'. cond force (s.force m' b) (stepped (Ok tt) m'))

  abbrev pub write_blocks : Bool → ℕ → List Content → M → Stepped (Unit {0}) M
  write_blocks force b xs m = in_turn (length xs) (λ i. put_forced force (b + i) (slice_index_or xs i [])) m

  abbrev pub verify_block : ℕ → M → Stepped (Unit {0}) M
  verify_block b m = next (s.force m b) (λ _ m'. next (s.read m' b) (λ _ m''. stepped (Ok tt) m''))

  abbrev pub verify_blocks : ℕ → ℕ → M → Stepped (Unit {0}) M
  verify_blocks b n m = in_turn n (λ i. verify_block (b + i)) m

  -- block b + i at its place in data-in
  abbrev pub fetched : ℕ → ℕ → Buffered M → Stepped (Unit {0}) (Buffered M)
  fetched b i m = delivered (512 * i) m.data_in (s.read m.store (b + i))

  abbrev pub read_blocks : ℕ → ℕ → Buffered M → Stepped (Unit {0}) (Buffered M)
  read_blocks b n m = in_turn n (fetched b) m
