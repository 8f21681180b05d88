-- Within which limits a call may have moved the store.
use Rattle.std.specs.Prelude.{◌≡◌, ℕ, suc, ◌+◌, ◌-◌, ◌<◌, ◌≤◌, ◌≢◌, true, [], ◌∷◌}
use Rattle.store.specs.Meaning.{Meaning, contents, newest, followed, held, Thins, Survives, Same}
use Rattle.sense.specs.Report.{Answer, number}
use Rattle.rbc_steps.specs.Work.{Work, one_flush}

-- From what the store meant to what it means, by this work: only what a store is free to choose is left open.
pub record Moved (m : Meaning) (w : Work) (m' : Meaning) : Type 0 where
  -- so many turns began, and so many ended well: all, unless power was lost in the last that began
  pub begun : ℕ
  pub ended : ℕ
  pub order : (ended ≤ begun) × ((begun ≤ suc ended) × (begun ≤ w.turns))
  pub all : 0 < m'.grant → ended ≡ w.turns
  -- before the first nothing has moved
  pub still : begun ≡ 0 → Same m m'
  pub count : m'.count ≡ m.count
  pub falls : m'.grant ≤ m.grant
  -- the block stores made, and what is still held, are no more than what was held and written
  pub stores : (m.grant - m'.grant) + held m' ≤ held m + w.puts begun
  -- with power at the end each line, what was written counted in, is thinned, and not by its last content
  pub thins : 0 < m'.grant → (b : ℕ) → b < m.count → Thins (followed (m.line b) (w.written begun b)) (m'.line b)
  -- without, one content of it is left
  pub survives : m'.grant ≡ 0 → (b : ℕ) → b < m.count → Survives (followed (m.line b) (w.written begun b)) (m'.line b)
  -- either way, a block that was forced or flushed has its latest content alone
  pub cleans : (b : ℕ) → b < m.count → w.clean ended b ≡ true → contents (m'.line b) ≡ newest (followed (m.line b) (w.written begun b)) ∷ []

-- COMMAND, with this answer
pub record Limits (m : Meaning) (w : Work) (a : Answer) (m' : Meaning) : Type 0 where
  pub moved : Moved m w m'
  -- the answer is 2 exactly where power is gone at the end; answer 1, to a host that is not known, tells nothing of it
  pub lost : number a ≡ 2 → m'.grant ≡ 0
  pub on : number a ≢ 1 → number a ≢ 2 → 0 < m'.grant

-- MAKE: the pile is flushed, so that each block has one content
pub record Flushed (m m' : Meaning) : Type 0 where
  pub moved : Moved m one_flush m'
  pub single : (b : ℕ) → b < m.count → (m'.line b).later ≡ []
