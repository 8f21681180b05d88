-- What a command does to the store, in turns, in each of which power can be lost.
use Rattle.std.specs.Prelude.{ℕ, ◌+◌, Bool, true, false, cond, not, ◌&&◌, ◌||◌, List, [], Some, None, Ok, Err, Option, Result, nat_le, nat_lt}
use Rattle.store.specs.Steps.{Content}
use Rattle.sense.specs.declared.CommandError.{CommandError}
use Rattle.sense.specs.Report.{Answer}
use Rattle.logical_unit.specs.declared.LogicalUnit.{LogicalUnit}
use Rattle.logical_unit.specs.declared.Settings.{Settings}
use Rattle.logical_unit.specs.ModePage.{selected}
use Rattle.logical_unit.specs.State.{flushes_first}
use Rattle.commands.specs.Order.{Order, mode_select, start_stop, write, verify, synchronize_cache}
use Rattle.cdb.specs.Decoding.{decoded}
use Rattle.rbc_steps.specs.Writes.{added_to, carried_out}

-- one turn for each block of a WRITE or a VERIFY, or one flush
pub record Work : Type 0 where
  pub turns : ℕ
  -- how many blocks the first k turns write
  pub puts : ℕ → ℕ
  -- what the first k turns write to block b
  pub written : ℕ → ℕ → List Content
  -- are the first k turns to leave block b its last content alone?
  pub clean : ℕ → ℕ → Bool

abbrev pub no_work : Work
no_work = record { turns = 0; puts = λ k. 0; written = λ k b. []; clean = λ k b. false }

abbrev pub one_flush : Work
one_flush = record { turns = 1; puts = λ k. 0; written = λ k b. []; clean = λ k b. nat_lt 0 k }

abbrev pub flush_if : Bool → Work
flush_if v = cond v one_flush no_work

-- block b is one of n blocks from block a on
abbrev pub one_of_blocks : ℕ → ℕ → ℕ → Bool
one_of_blocks b a n = nat_le a b && nat_lt b (a + n)

-- n blocks from block a on, each forced once it is put if v says so
abbrev pub writing : Bool → ℕ → ℕ → List ℕ → Work
writing v a n bytes = record { turns = n; puts = λ k. k; written = λ k b. added_to b a k bytes; clean = λ k b. v && one_of_blocks b a k }

-- n blocks from block a on, each forced
abbrev pub verifying : ℕ → ℕ → Work
verifying a n = record { turns = n; puts = λ k. 0; written = λ k b. []; clean = λ k b. one_of_blocks b a k }

-- are these settings to set WCD from 0 to 1?
abbrev pub sets_wcd : LogicalUnit → Option Settings → Bool
sets_wcd u None = false
sets_wcd u (Some p) = p.wcd && not u.settings.wcd

-- A WRITE with FUA or WCD and a VERIFY force each of their blocks. SYNCHRONIZE CACHE flushes, and so do START STOP UNIT
-- into SLEEP or STOPPED or with an unload, and MODE SELECT with WCD from 0 to 1.
abbrev pub work : LogicalUnit → Order → Work
work u (mode_select n l) = flush_if (sets_wcd u (selected l))
work u (start_stop p s l) = flush_if (flushes_first p s)
work u (write r f a n d) = writing (f || u.settings.wcd) a n d
work u (verify r a n) = verifying a n
work u synchronize_cache = flush_if true
work u _ = no_work

abbrev pub work_of : LogicalUnit → Result Order CommandError → Work
work_of u (Ok o) = work u o
work_of u (Err e) = no_work

-- of a command that is carried out; a refused one does nothing
abbrev pub work_done : LogicalUnit → List ℕ → List ℕ → Answer → Bool → Work
work_done u cdb out a powered = cond (carried_out a powered) (work_of u (decoded cdb out)) no_work
