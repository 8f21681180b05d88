-- What a recording leaves on the medium, whatever the store and whenever the power goes.
use Rattle.std.specs.Prelude.{◌≡◌, ℕ, ◌+◌, ◌-◌, ◌<◌, ◌≤◌, [], ◌++◌}
use Rattle.store.specs.Steps.{Answer, number}
use Rattle.store.specs.Meaning.{Meaning, Among, contents, last_of, newest, held}
use Rattle.shift_log.specs.declared.kind.Kind.TheVariants.{BrakeCommand, BrakePressure}
use Rattle.shift_log.specs.Records.{encoded}
use Rattle.shift_log.specs.Recording.{shift_put_to, shift_puts}

-- A good brake action is on the medium, and nothing of it waits above.
abbrev pub BrakeOnMedium : ℕ → Answer (Unit {0}) → Meaning → Meaning → Type 0
BrakeOnMedium second r m m' =
    12 ≤ m.count → number r ≡ 0
    → (m'.line 10 ≡ record { first = encoded (record { kind = BrakeCommand; second = second }); later = [] })
    × (m'.line 11 ≡ record { first = encoded (record { kind = BrakePressure; second = second }); later = [] })

-- A shift of n seconds, from power on, on a store with the twelve blocks of the log.
pub record Outcomes (n every : ℕ) (r : Answer (Unit {0})) (m m' : Meaning) : Type 0 where
  -- if power lasts, each block is on the medium with the latest content that was put to it, and nothing is held
  pub good : 0 < m'.grant → number r ≡ 0
  pub latest : 0 < m'.grant → (b : ℕ) → b < m.count → m'.line b ≡ record { first = last_of (newest (m.line b)) (shift_put_to n every b); later = [] }
  -- if it goes, each block is on the medium with one of the contents that it had or that were put to it
  pub lost : m'.grant ≡ 0 → number r ≡ 1
  pub one_of : m'.grant ≡ 0 → (b : ℕ) → b < m.count → Among (m'.line b).first (contents (m.line b) ++ shift_put_to n every b)
  -- no more block stores are made than contents were held and put
  pub stores : m.grant - m'.grant ≤ held m + shift_puts n every

abbrev pub Recorded : ℕ → ℕ → Answer (Unit {0}) → Meaning → Meaning → Type 0
Recorded n every r m m' = 12 ≤ m.count → 0 < m.grant → Outcomes n every r m m'
