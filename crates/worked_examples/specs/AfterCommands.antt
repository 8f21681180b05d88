-- What the limits of COMMAND come to, command by command: what then stands on the medium, and what is shown.
use Rattle.std.specs.Prelude.{◌≡◌, ℕ, ◌+◌, ◌-◌, ◌<◌, ◌≤◌, Bool, true, false, ◌||◌, ◌⊎◌, List, [], ◌∷◌, Some, Ok}
use Rattle.store.specs.Steps.{Content}
use Rattle.store.specs.Meaning.{Meaning, Line, newest, followed, held, Survives, Same}
use Rattle.sense.specs.Report.{Answer, number}
use Rattle.commands.specs.Order.{Order, mode_select, start_stop, read, write, verify, synchronize_cache}
use Rattle.cdb.specs.Decoding.{decoded}
use Rattle.logical_unit.specs.declared.LogicalUnit.{LogicalUnit}
use Rattle.logical_unit.specs.declared.Settings.{Settings}
use Rattle.logical_unit.specs.ModePage.{selected}
use Rattle.rbc_steps.specs.Writes.{piece}
use Rattle.rbc_steps.specs.Work.{work_done}
use Rattle.rbc_steps.specs.Limits.{Limits}

-- a line of one content, which stands on the medium
abbrev pub standing : Content → Line
standing x = record { first = x; later = [] }

-- Command o within its limits, answered by this number with power on before it, on a module with logical unit u: its store
-- meant m before it, and means m' after it.
pub record Done (answered : ℕ) (o : Order) (u : LogicalUnit) (m m' : Meaning) : Type 0 where
  pub cdb : List ℕ
  pub data_out : List ℕ
  pub answer : Answer
  pub order : decoded cdb data_out ≡ Ok o
  pub answers : number answer ≡ answered
  pub limits : Limits m (work_done u cdb data_out answer true) answer m'

-- block b is none of n blocks from block a on
abbrev pub Outside : ℕ → ℕ → ℕ → Type 0
Outside b a n = (b < a) ⊎ (a + n ≤ b)

module _ (u : LogicalUnit) (m m' : Meaning) where
  -- each block stands with the latest content that it had
  abbrev pub AllStand : Type 0
  AllStand = (b : ℕ) → b < m.count → m'.line b ≡ standing (newest (m.line b))

  -- the block stores made, and what is held, are no more than what was held and n contents more
  abbrev pub StoresWithin : ℕ → Type 0
  StoresWithin n = (m.grant - m'.grant) + held m' ≤ held m + n

  -- after good commands that force or flush
  pub record StandAfter : Type 0 where
    -- WRITE with FUA or WCD: each of its blocks, with the content that was sent
    pub written :
        (relative fua : Bool) (a n : ℕ) (bytes : List ℕ) → Done 0 (write relative fua a n bytes) u m m' → (fua || u.settings.wcd) ≡ true
        → (i : ℕ) → i < n → a + i < m.count → m'.line (a + i) ≡ standing (piece bytes i)
    -- VERIFY: each of its blocks
    pub verified :
        (relative : Bool) (a n : ℕ) → Done 0 (verify relative a n) u m m' → (i : ℕ) → i < n → a + i < m.count
        → m'.line (a + i) ≡ standing (newest (m.line (a + i)))
    pub verify_stores : (relative : Bool) (a n : ℕ) → Done 0 (verify relative a n) u m m' → StoresWithin 0
    -- SYNCHRONIZE CACHE, START STOP UNIT into SLEEP and into STOPPED, and MODE SELECT with WCD from 0 to 1: every block
    pub synchronized : Done 0 synchronize_cache u m m' → AllStand
    pub synchronize_stores : Done 0 synchronize_cache u m m' → StoresWithin 0
    pub asleep : (start load_eject : Bool) → Done 0 (start_stop 5 start load_eject) u m m' → AllStand
    pub stopped : (load_eject : Bool) → Done 0 (start_stop 0 false load_eject) u m m' → AllStand
    pub uncached :
        (n : ℕ) (list : List ℕ) (settings : Settings) → Done 0 (mode_select n list) u m m' → selected list ≡ Some settings → settings.wcd ≡ true
        → u.settings.wcd ≡ false → AllStand
    -- READ moves nothing
    pub read_moves_nothing : (relative : Bool) (a n : ℕ) → Done 0 (read relative a n) u m m' → Same m m'

  -- after a WRITE, with FUA or without
  pub record WriteMoves (relative fua : Bool) (a n : ℕ) (bytes : List ℕ) : Type 0 where
    -- a good one: its blocks show what was sent, and the others what they showed
    pub shown : Done 0 (write relative fua a n bytes) u m m' → (i : ℕ) → i < n → a + i < m.count → newest (m'.line (a + i)) ≡ piece bytes i
    pub others_shown : Done 0 (write relative fua a n bytes) u m m' → (b : ℕ) → b < m.count → Outside b a n → newest (m'.line b) ≡ newest (m.line b)
    pub stores : Done 0 (write relative fua a n bytes) u m m' → StoresWithin n
    -- one that loses power: each of its blocks has a content that it had, or the one that was sent, and each other block one
    -- that it had
    pub lost :
        Done 2 (write relative fua a n bytes) u m m' → (i : ℕ) → i < n → a + i < m.count
        → Survives (followed (m.line (a + i)) (piece bytes i ∷ [])) (m'.line (a + i))
    pub others_lost : Done 2 (write relative fua a n bytes) u m m' → (b : ℕ) → b < m.count → Outside b a n → Survives (m.line b) (m'.line b)
    pub lost_stores : Done 2 (write relative fua a n bytes) u m m' → StoresWithin n

abbrev pub AfterCommands : Type 0
AfterCommands = (u : LogicalUnit) (m m' : Meaning) → StandAfter u m m' × ((relative fua : Bool) (a n : ℕ) (bytes : List ℕ) → WriteMoves u m m' relative fua a n bytes)
