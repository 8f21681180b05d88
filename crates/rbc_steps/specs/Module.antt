-- What the module answers and leaves at each call.
use Rattle.std.specs.Prelude.{ℕ, ◌*◌, min, Bool, true, cond, not, ◌&&◌, ◌||◌, List, length, take, Some, None, Ok, Err, Option, Result, ◌==◌}
use Rattle.std.specs.Simd.{first_chunks}
use Rattle.store.specs.declared.StoreError.{StoreError}
use Rattle.store.specs.Bytes.{placed}
use Rattle.store.specs.Steps.{Steps, Stepped, stepped, next}
use Rattle.sense.specs.declared.CommandError.{CommandError}
use Rattle.sense.specs.declared.CommandError.TheVariants.{PowerOff}
use Rattle.sense.specs.Report.{Answer, number}
use Rattle.commands.specs.Order.{Order, test_unit_ready, inquiry, mode_select, reserve, release, mode_sense, start_stop, prevent_allow, read_capacity, read, write, verify, synchronize_cache}
use Rattle.logical_unit.specs.declared.LogicalUnit.{LogicalUnit}
use Rattle.logical_unit.specs.declared.Settings.{Settings}
use Rattle.logical_unit.specs.ModePage.{mode_data, selected}
use Rattle.logical_unit.specs.State.{new_unit, started, flushes_first, reserved, released, barred, shown_settings, settings_changed, cleared, unit_reset}
use Rattle.ladder.specs.Ladder.{judged}
use Rattle.transfer.specs.Transfer.{buffered, read_blocks, write_blocks, verify_blocks}
use Rattle.rbc_steps.specs.Data.{inquiry_data, capacity_data}

-- the module, by the model of its store and the state of its logical unit
pub record ModuleModel (M : Type 0) : Type 0 where
  pub store : M
  pub unit : LogicalUnit

abbrev pub joined : {M : Type 0} → M → LogicalUnit → ModuleModel M
joined m u = record { store = m; unit = u }

-- the module and the host's data-in
pub record Exchange (M : Type 0) : Type 0 where
  pub target : ModuleModel M
  pub data_in : List ℕ

abbrev pub exchange : {M : Type 0} → ModuleModel M → List ℕ → Exchange M
exchange w d = record { target = w; data_in = d }

-- a call on the store alone
abbrev pub on_store : {A M : Type 0} → Stepped A M → LogicalUnit → Stepped A (ModuleModel M)
on_store r u = stepped r.answer (joined r.after u)

-- a change of the logical unit alone
abbrev pub on_unit : {M : Type 0} → (LogicalUnit → LogicalUnit) → ModuleModel M → Stepped (Unit {0}) (ModuleModel M)
on_unit f w = stepped (Ok tt) (joined w.store (f w.unit))

-- the logical unit changes once the store has done its part
abbrev pub then_unit : {M : Type 0} → Stepped (Unit {0}) (ModuleModel M) → (LogicalUnit → LogicalUnit) → Stepped (Unit {0}) (ModuleModel M)
then_unit r f = next r (λ _ w. on_unit f w)

-- n bytes of data-in returned
abbrev pub returning : {M : Type 0} → ℕ → List ℕ → Stepped (Unit {0}) (ModuleModel M) → Stepped ℕ (Exchange M)
returning n d r = next {M = Exchange _} (stepped r.answer (exchange r.after d)) (λ _ x. stepped (Ok n) x)

-- at most `allocation` of the bytes put at the front of data-in
abbrev pub delivering : {M : Type 0} → ℕ → List ℕ → ℕ → Exchange M → Stepped ℕ (Exchange M)
delivering size bytes allocation x = stepped (Ok (min allocation size)) (exchange x.target (placed x.data_in 0 (take allocation bytes)))

module _ {M : Type 0} (s : Steps M) where
  abbrev pub flushed_if : Bool → ModuleModel M → Stepped (Unit {0}) (ModuleModel M)
  flushed_if b w = cond b (on_store (s.flush w.store) w.unit) (stepped (Ok tt) w)

  -- each block is forced after its put if FUA or WCD says so
  abbrev pub run_write : Bool → ℕ → ℕ → List ℕ → ModuleModel M → Stepped (Unit {0}) (ModuleModel M)
  run_write f a n x w = on_store (write_blocks s (f || w.unit.settings.wcd) a (first_chunks 512 n x) w.store) w.unit

  -- SLEEP, STOPPED and unloading flush first
  abbrev pub run_start_stop : ℕ → Bool → Bool → ModuleModel M → Stepped (Unit {0}) (ModuleModel M)
  run_start_stop p b l w = then_unit (flushed_if (flushes_first p b) w) (started p b l)

  -- WCD from 0 to 1 flushes first
  abbrev pub run_change : ℕ → Settings → ModuleModel M → Stepped (Unit {0}) (ModuleModel M)
  run_change h p w = then_unit (flushed_if (p.wcd && not w.unit.settings.wcd) w) (settings_changed h p)

  -- an empty list changes nothing
  abbrev pub run_select : ℕ → Option Settings → ModuleModel M → Stepped (Unit {0}) (ModuleModel M)
  run_select h None w = stepped (Ok tt) w
  run_select h (Some p) w = run_change h p w

  abbrev pub run_read : ℕ → ℕ → Exchange M → Stepped ℕ (Exchange M)
  run_read a n x =
      let r = read_blocks s a n (buffered x.target.store x.data_in) in
      returning (512 * n) r.after.data_in (stepped r.answer (joined r.after.store x.target.unit))

  -- what host h's command does once it has passed the ladder
  abbrev pub run : ℕ → Order → Exchange M → Stepped ℕ (Exchange M)
  run h test_unit_ready x = stepped (Ok 0) x
  run h (inquiry v p a) x = delivering 36 inquiry_data a x
  run h (mode_select n l) x = returning 0 x.data_in (run_select h (selected l) x.target)
  run h reserve x = returning 0 x.data_in (on_unit (reserved h) x.target)
  run h release x = returning 0 x.data_in (on_unit (released h) x.target)
  run h (mode_sense c p a) x = delivering 17 (mode_data (s.count x.target.store) (shown_settings c x.target.unit)) a x
  run h (start_stop p b l) x = returning 0 x.data_in (run_start_stop p b l x.target)
  run h (prevent_allow p) x = returning 0 x.data_in (on_unit (barred h (p == 1)) x.target)
  run h read_capacity x = delivering 8 (capacity_data (s.count x.target.store)) 8 x
  run h (read r a n) x = run_read a n x
  run h (write r f a n d) x = returning 0 x.data_in (run_write f a n d x.target)
  run h (verify r a n) x = returning 0 x.data_in (on_store (verify_blocks s a n x.target.store) x.target.unit)
  run h synchronize_cache x = returning 0 x.data_in (flushed_if true x.target)

-- what a call answers, and leaves
pub record Reply (X : Type 0) : Type 0 where
  pub answer : Answer
  pub after : X

abbrev pub replied : {X : Type 0} → Answer → X → Reply X
replied a x = record { answer = a; after = x }

-- the store answers no but for want of power
abbrev pub answer_of : Result ℕ StoreError → Answer
answer_of (Ok n) = Ok n
answer_of (Err e) = Err PowerOff

-- an attention that is told is cleared
abbrev pub refused : ℕ → Answer → LogicalUnit → LogicalUnit
refused h a u = cond (number a == 6) (cleared h u) u

abbrev pub replied_to : {M : Type 0} → Steps M → ℕ → Result Order CommandError → Exchange M → Reply (Exchange M)
replied_to s h (Ok o) x = let r = run s h o x in replied (answer_of r.answer) r.after
replied_to s h (Err e) x = replied (Err e) (exchange (joined x.target.store (refused h (Err e) x.target.unit)) x.data_in)

-- COMMAND
abbrev pub commanded : {M : Type 0} → Steps M → ℕ → List ℕ → List ℕ → Exchange M → Reply (Exchange M)
commanded s h cdb out x =
    replied_to s h (judged x.target.unit h (s.power x.target.store) (s.count x.target.store) cdb out (length x.data_in)) x

-- RESET
abbrev pub reset : {M : Type 0} → Steps M → ModuleModel M → Reply (ModuleModel M)
reset s w = cond (s.power w.store) (replied (Ok 0) (joined w.store (unit_reset w.unit))) (replied (Err PowerOff) w)

-- MAKE
abbrev pub made_over : {M : Type 0} → Steps M → M → ModuleModel M
made_over s m = joined (s.flush m).after new_unit
