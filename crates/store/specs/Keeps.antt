-- The law of a store: each call's answer, and how its meaning may move.
use Rattle.std.specs.Prelude.{◌≡◌, ℕ, ◌+◌, ◌-◌, ◌<◌, ◌≤◌, [], length, Ok, nat_lt}
use Rattle.store.specs.Steps.{Content, Answer, Steps, number}
use Rattle.store.specs.Meaning.{Meaning, Line, newest, held, added, Thins, Survives, Sound, Same}

-- A call that may store blocks. `line` has a content just put counted in, `puts` is how many were put, and
-- the blocks of `clean` are left their last content alone.
pub record Moves (m : Meaning) (line : ℕ → Line) (puts : ℕ) (clean : ℕ → Type 0) (r : Answer (Unit {0})) (m' : Meaning) : Type 0 where
  pub count : m'.count ≡ m.count
  pub falls : m'.grant ≤ m.grant
  -- the stores made, and what is still held, are no more than what was held and put
  pub stores : (m.grant - m'.grant) + held m' ≤ held m + puts
  -- with power on at the end
  pub good : 0 < m'.grant → number r ≡ 0
  pub thins : 0 < m'.grant → (b : ℕ) → b < m.count → Thins (line b) (m'.line b)
  pub cleans : 0 < m'.grant → (b : ℕ) → b < m.count → clean b → (m'.line b).later ≡ []
  -- with power lost
  pub lost : m'.grant ≡ 0 → number r ≡ 1
  pub survives : m'.grant ≡ 0 → (b : ℕ) → b < m.count → Survives (line b) (m'.line b)

-- The refusals of a call on block b, in their order, and then what runs.
pub record Refuses {A : Type 0} (m : Meaning) (b : ℕ) (r : Answer A) (m' : Meaning) (runs : Type 0) : Type 0 where
  pub outside : m.count ≤ b → (number r ≡ 2) × Same m m'
  pub off : b < m.count → m.grant ≡ 0 → (number r ≡ 1) × Same m m'
  pub on : b < m.count → 0 < m.grant → runs

-- good, with the block's last content, and nothing changes
abbrev pub Reads : Meaning → ℕ → Answer Content → Meaning → Type 0
Reads m b r m' = Refuses m b r m' ((r ≡ Ok (newest (m.line b))) × Same m m')

abbrev pub Puts : Meaning → ℕ → Content → Answer (Unit {0}) → Meaning → Type 0
Puts m b x r m' = Refuses m b r m' (Moves m (added m.line b x) 1 (λ k. ⊥) r m')

abbrev pub Forces : Meaning → ℕ → Answer (Unit {0}) → Meaning → Type 0
Forces m b r m' = Refuses m b r m' (Moves m m.line 0 (λ k. k ≡ b) r m')

pub record Flushes (m : Meaning) (r : Answer (Unit {0})) (m' : Meaning) : Type 0 where
  pub off : m.grant ≡ 0 → (number r ≡ 1) × Same m m'
  pub on : 0 < m.grant → Moves m m.line 0 (λ k. Unit {0}) r m'

-- The steps keep the meaning of a store, from every model that is good, and leave a good one.
pub record Keeps {M : Type 0} (steps : Steps M) (meaning : M → Meaning) (good : M → Type 0) : Type 0 where
  pub counts : (s : M) → good s → steps.count s ≡ (meaning s).count
  pub powers : (s : M) → good s → steps.power s ≡ nat_lt 0 (meaning s).grant
  pub sound : (s : M) → good s → Sound (meaning s)
  pub reads : (s : M) (b : ℕ) → good s → Reads (meaning s) b (steps.read s b).answer (meaning (steps.read s b).after)
  pub puts : (s : M) (b : ℕ) (x : Content) → good s → length x ≡ 512 → Puts (meaning s) b x (steps.put s b x).answer (meaning (steps.put s b x).after)
  pub forces : (s : M) (b : ℕ) → good s → Forces (meaning s) b (steps.force s b).answer (meaning (steps.force s b).after)
  pub flushes : (s : M) → good s → Flushes (meaning s) (steps.flush s).answer (meaning (steps.flush s).after)
  pub read_good : (s : M) (b : ℕ) → good s → good (steps.read s b).after
  pub put_good : (s : M) (b : ℕ) (x : Content) → good s → length x ≡ 512 → good (steps.put s b x).after
  pub force_good : (s : M) (b : ℕ) → good s → good (steps.force s b).after
  pub flush_good : (s : M) → good s → good (steps.flush s).after
