-- What no reply shows of MAKE and of single commands.
use Rattle.std.specs.Prelude.{◌≡◌, ℕ, Bool, true, false, cond, List, [], ◌∷◌, ◌++◌, map, drop, replicate, Ok, Err, ◌==◌}
use Rattle.store.specs.declared.StoreError.TheVariants as store_error
use Rattle.store.specs.Steps.{Steps, stepped}
use Rattle.store.specs.Meaning.{Meaning, held}
use Rattle.medium.specs.Medium.{medium_meaning}
use Rattle.flat_medium.specs.Flat.{FlatModel, flat}
use Rattle.table_cache.specs.Table.{TableModel, table_steps, table_meaning}
use Rattle.sense.specs.declared.Attention.TheVariants.{PowerOnOrReset}
use Rattle.sense.specs.declared.CommandError.TheVariants.{PowerOff, UnitAttention, AddressOutOfRange}
use Rattle.sense.specs.Report.{Answer, without_sense}
use Rattle.logical_unit.specs.declared.Condition.TheVariants.{Active, Idle, Standby, Sleep, Stopped}
use Rattle.logical_unit.specs.declared.LogicalUnit.{LogicalUnit}
use Rattle.logical_unit.specs.State.{with_medium}
use Rattle.rbc_steps.specs.Module.{ModuleModel, joined, Exchange, exchange, Reply, replied, commanded, made_over}
use Rattle.rbc_steps.specs.Work.{Work, work_done}
use Rattle.rbc_steps.specs.Limits.{Flushed}
use Rattle.rbc_steps.specs.Refusals.{Unchanged}
use Rattle.worked_examples.specs.Examples.{flat_steps, zero_blocks, empty_table, six, ten, attended, ask, told, after, plain}
use Rattle.worked_examples.specs.StoreCalls.{StoreCall, reading, putting, forcing, flushing}

-- WRITE with FUA, by its address and length
abbrev pub forced_write : ℕ → ℕ → List ℕ
forced_write address length = 0x2a ∷ 0x08 ∷ 0 ∷ 0 ∷ 0 ∷ address ∷ 0 ∷ 0 ∷ length ∷ 0 ∷ []

-- START STOP UNIT, by its byte 4
abbrev pub start_stop : ℕ → List ℕ
start_stop byte4 = six 0x1b 0 byte4

-- every row of the table of START STOP UNIT: power condition 0 with each Start and LoEj, and power conditions 1, 2, 3, 5
-- and 7
abbrev pub each_start_stop : List (List ℕ)
each_start_stop = map start_stop (0x00 ∷ 0x01 ∷ 0x02 ∷ 0x03 ∷ 0x10 ∷ 0x20 ∷ 0x30 ∷ 0x50 ∷ 0x70 ∷ [])

-- a table cache that holds sevens for block 3
abbrev pub holding_sevens : ℕ → TableModel FlatModel
holding_sevens grant = ((table_steps flat_steps).put (empty_table grant) 3 (replicate 512 7)).after

abbrev pub pile_meaning : TableModel FlatModel → Meaning
pile_meaning = table_meaning (medium_meaning flat)

-- a module made over it
abbrev pub made_with_sevens : ℕ → ModuleModel (TableModel FlatModel)
made_with_sevens grant = made_over (table_steps flat_steps) (holding_sevens grant)

pub record FlushAtMaking : Type 0 where
  -- MAKE over a cache that holds a content flushes it: by one store the medium has it
  pub one_is_held : held (pile_meaning (holding_sevens 1000)) ≡ 1
  pub none_is_held_then : held (pile_meaning (made_with_sevens 1000).store) ≡ 0
  pub flushed_by_one_store : (made_with_sevens 1000).store.below.grant ≡ 999
  pub sevens_stand : (pile_meaning (made_with_sevens 1000).store).line 3 ≡ record { first = replicate 512 7; later = [] }
  -- where the flush loses power the module is made all the same, and answers 2
  pub sevens_stand_at_the_cut : (made_with_sevens 1).store.below.bytes ≡ replicate 1536 0 ++ (replicate 512 7 ++ replicate 3072 0)
  pub power_is_gone : (made_with_sevens 1).store.below.grant ≡ 0
  pub made_all_the_same : (made_with_sevens 1).unit.loaded ≡ true
  pub it_answers_power_off : told (table_steps flat_steps) 0 (six 0x00 0 0) (made_with_sevens 1) ≡ without_sense 2 0xff 0
  -- a pile that still holds a content is not flushed
  pub held_is_not_flushed : Flushed (pile_meaning (holding_sevens 1000)) (pile_meaning (holding_sevens 1000)) → ⊥

-- data-in, of 1024 bytes FFh, after host 0's command
abbrev pub data_in_after : List ℕ → List ℕ
data_in_after cdb = (ask flat_steps 0 cdb plain).after.data_in

-- a reply of number 11 to a command that found one byte FFh in data-in
abbrev pub refused_with : FlatModel → LogicalUnit → List ℕ → Reply (Exchange FlatModel)
refused_with m u d = replied (Err AddressOutOfRange) (exchange (joined m u) d)

abbrev pub IsUnchanged : Reply (Exchange FlatModel) → Type 0
IsUnchanged r = Unchanged 0 (exchange plain (0xff ∷ [])) r

-- a new module, whose hosts have an attention pending
abbrev pub unattended : Exchange FlatModel
unattended = exchange (made_over flat_steps (zero_blocks 1000)) []

pub record DataInKept : Type 0 where
  -- data-in past the count stays: INQUIRY with allocation lengths 0, 5 and FFh, MODE SENSE, READ CAPACITY and READ
  pub none_of_inquiry : data_in_after (six 0x12 0 0) ≡ replicate 1024 0xff
  pub five_of_inquiry : data_in_after (six 0x12 0 5) ≡ 0x0e ∷ 0x80 ∷ 0x04 ∷ 0x02 ∷ 0x1f ∷ replicate 1019 0xff
  pub past_inquiry : drop 36 (data_in_after (six 0x12 0 0xff)) ≡ replicate 988 0xff
  pub past_mode_sense : drop 17 (data_in_after (six 0x1a 0x06 0xff)) ≡ replicate 1007 0xff
  pub past_capacity : drop 8 (data_in_after (ten 0x25 0 0)) ≡ replicate 1016 0xff
  pub past_read : data_in_after (ten 0x28 3 1) ≡ replicate 512 0 ++ replicate 512 0xff
  -- so it does where no byte is returned: WRITE, VERIFY, and a READ that is refused
  pub write_returns_none : data_in_after (ten 0x2a 3 1) ≡ replicate 1024 0xff
  pub verify_returns_none : data_in_after (ten 0x2f 3 1) ≡ replicate 1024 0xff
  pub refused_read_returns_none : data_in_after (ten 0x28 9 2) ≡ replicate 1024 0xff
  -- a refusal that wrote into data-in, stored a block or moved the unit, or did not clear the attention that it tells,
  -- would not have left all else as it was
  pub byte_written_is_a_change : IsUnchanged (refused_with plain.store plain.unit (0 ∷ [])) → ⊥
  pub block_stored_is_a_change : IsUnchanged (refused_with (zero_blocks 999) plain.unit (0xff ∷ [])) → ⊥
  pub unit_moved_is_a_change : IsUnchanged (refused_with plain.store (with_medium false Active plain.unit) (0xff ∷ [])) → ⊥
  pub told_is_cleared : Unchanged 0 unattended (replied (Err (UnitAttention PowerOnOrReset)) unattended) → ⊥

-- a parameter list with WCD 1 and every other setting as it was, and the unit after its MODE SELECT
abbrev pub wcd_list : List ℕ
wcd_list = 0x10 ∷ 0x00 ∷ 0x00 ∷ 0x00 ∷ 0x86 ∷ 0x0b ∷ 0x01 ∷ 0x02 ∷ 0x00 ∷ 0x00 ∷ 0x00 ∷ 0x00 ∷ 0x00 ∷ 0x0a ∷ 0x80 ∷ 0x02 ∷ 0x00 ∷ []

abbrev pub wcd_unit : LogicalUnit
wcd_unit = (commanded flat_steps 0 (six 0x15 0 17) wcd_list (exchange plain [])).after.target.unit

-- the work of a command with two blocks of sevens as data-out, that was answered so with power on before it
abbrev pub done : LogicalUnit → List ℕ → Answer → Work
done u cdb a = work_done u cdb (replicate 1024 7) a true

-- which of blocks 2 to 5 the first k turns leave their last content alone
abbrev pub cleaned : Work → ℕ → List Bool
cleaned w k = map (w.clean k) (2 ∷ 3 ∷ 4 ∷ 5 ∷ [])

pub record CleanBlocks : Type 0 where
  -- WRITE with FUA of blocks 3 and 4: a turn for each, which puts it and leaves it its last content alone
  pub fua_turns : (done plain.unit (forced_write 3 2) (Ok 0)).turns ≡ 2
  pub fua_puts : map (done plain.unit (forced_write 3 2) (Ok 0)).puts (0 ∷ 1 ∷ 2 ∷ []) ≡ 0 ∷ 1 ∷ 2 ∷ []
  pub fua_at_first : cleaned (done plain.unit (forced_write 3 2) (Ok 0)) 0 ≡ false ∷ false ∷ false ∷ false ∷ []
  pub fua_after_one : cleaned (done plain.unit (forced_write 3 2) (Ok 0)) 1 ≡ false ∷ true ∷ false ∷ false ∷ []
  pub fua_after_both : cleaned (done plain.unit (forced_write 3 2) (Ok 0)) 2 ≡ false ∷ true ∷ true ∷ false ∷ []
  pub fua_writes_block_3 : (done plain.unit (forced_write 3 2) (Ok 0)).written 1 3 ≡ replicate 512 7 ∷ []
  pub fua_has_not_come_to_block_4 : (done plain.unit (forced_write 3 2) (Ok 0)).written 1 4 ≡ []
  -- without FUA: the same under WCD, and else no block is left so
  pub wcd_after_both : cleaned (done wcd_unit (ten 0x2a 3 2) (Ok 0)) 2 ≡ false ∷ true ∷ true ∷ false ∷ []
  pub plain_after_both : cleaned (done plain.unit (ten 0x2a 3 2) (Ok 0)) 2 ≡ false ∷ false ∷ false ∷ false ∷ []
  pub plain_puts : map (done plain.unit (ten 0x2a 3 2) (Ok 0)).puts (0 ∷ 1 ∷ 2 ∷ []) ≡ 0 ∷ 1 ∷ 2 ∷ []
  -- VERIFY of blocks 3 and 4 puts none
  pub verify_turns : (done plain.unit (ten 0x2f 3 2) (Ok 0)).turns ≡ 2
  pub verify_puts : map (done plain.unit (ten 0x2f 3 2) (Ok 0)).puts (0 ∷ 1 ∷ 2 ∷ []) ≡ 0 ∷ 0 ∷ 0 ∷ []
  pub verify_after_one : cleaned (done plain.unit (ten 0x2f 3 2) (Ok 0)) 1 ≡ false ∷ true ∷ false ∷ false ∷ []
  pub verify_after_both : cleaned (done plain.unit (ten 0x2f 3 2) (Ok 0)) 2 ≡ false ∷ true ∷ true ∷ false ∷ []
  -- a flush is one turn, after which every block is left so: SYNCHRONIZE CACHE, START STOP UNIT into STOPPED and SLEEP,
  -- and MODE SELECT with WCD from 0 to 1
  pub synchronize_turns : (done plain.unit (ten 0x35 0 0) (Ok 0)).turns ≡ 1
  pub synchronize_at_first : cleaned (done plain.unit (ten 0x35 0 0) (Ok 0)) 0 ≡ false ∷ false ∷ false ∷ false ∷ []
  pub synchronize_after : cleaned (done plain.unit (ten 0x35 0 0) (Ok 0)) 1 ≡ true ∷ true ∷ true ∷ true ∷ []
  pub start_stop_turns : map (λ (cdb : List ℕ). (done plain.unit cdb (Ok 0)).turns) each_start_stop ≡ 1 ∷ 0 ∷ 1 ∷ 0 ∷ 0 ∷ 0 ∷ 0 ∷ 1 ∷ 0 ∷ []
  pub wcd_set_turns : (work_done plain.unit (six 0x15 0 17) wcd_list (Ok 0) true).turns ≡ 1
  pub wcd_kept_turns : (work_done wcd_unit (six 0x15 0 17) wcd_list (Ok 0) true).turns ≡ 0
  -- READ has no turn, nor has a command that is refused
  pub read_turns : (done plain.unit (ten 0x28 3 2) (Ok 1024)).turns ≡ 0
  pub refused_turns : (done plain.unit (forced_write 3 2) (Err AddressOutOfRange)).turns ≡ 0
  -- one that lost power on the way has them all; one that found no power has none
  pub lost_turns : (done plain.unit (forced_write 3 2) (Err PowerOff)).turns ≡ 2
  pub unpowered_turns : (work_done plain.unit (forced_write 3 2) (replicate 1024 7) (Err PowerOff) false).turns ≡ 0

-- the module after an unload: START STOP UNIT with power condition 0, Start 0 and LoEj 1
abbrev pub unloaded : ModuleModel FlatModel
unloaded = after flat_steps 0 (start_stop 0x02) plain

pub record Unloaded : Type 0 where
  pub unloaded_condition : unloaded.unit.condition ≡ Stopped
  pub unloaded_medium : unloaded.unit.loaded ≡ false
  -- then each START STOP UNIT: the condition is as on a loaded medium, and only Start 1 with LoEj 1 loads
  pub conditions :
      map (λ (cdb : List ℕ). (after flat_steps 0 cdb unloaded).unit.condition) each_start_stop
      ≡ Stopped ∷ Active ∷ Stopped ∷ Active ∷ Active ∷ Idle ∷ Standby ∷ Sleep ∷ Active ∷ []
  pub media :
      map (λ (cdb : List ℕ). (after flat_steps 0 cdb unloaded).unit.loaded) each_start_stop
      ≡ false ∷ false ∷ false ∷ true ∷ false ∷ false ∷ false ∷ false ∷ false ∷ []

-- A store of ten blocks that notes each call, and loses power where block `bad` is forced.
abbrev pub noting : ℕ → Steps (List StoreCall)
noting bad =
    record {
      count = λ s. 10;
      power = λ s. true;
      read = λ s b. stepped (Ok (replicate 512 0)) (s ++ (reading b ∷ []));
      put = λ s b x. stepped (Ok tt) (s ++ (putting b x ∷ []));
      force = λ s b. stepped (cond (b == bad) (Err store_error.PowerOff) (Ok tt)) (s ++ (forcing b ∷ []));
      flush = λ s. stepped (Ok tt) (s ++ (flushing ∷ []));
    }

-- the calls that are noted of MAKE and host 0's command
abbrev pub noted : ℕ → List ℕ → List StoreCall
noted bad cdb = (after (noting bad) 0 cdb (attended (noting bad) [])).store

pub record NotedCalls : Type 0 where
  -- MAKE flushes. VERIFY forces each block and reads it, in rising order, until a call fails
  pub verify_calls : noted 9 (ten 0x2f 3 2) ≡ flushing ∷ forcing 3 ∷ reading 3 ∷ forcing 4 ∷ reading 4 ∷ []
  pub verify_calls_at_a_cut : noted 4 (ten 0x2f 3 2) ≡ flushing ∷ forcing 3 ∷ reading 3 ∷ forcing 4 ∷ []
  pub verify_answer_at_a_cut : told (noting 4) 0 (ten 0x2f 3 2) (attended (noting 4) []) ≡ without_sense 2 0xff 0
  -- READ reads each, WRITE with FUA puts and forces, SYNCHRONIZE CACHE flushes
  pub read_calls : noted 9 (ten 0x28 3 2) ≡ flushing ∷ reading 3 ∷ reading 4 ∷ []
  pub forced_write_calls : noted 9 (forced_write 3 1) ≡ flushing ∷ putting 3 (replicate 512 7) ∷ forcing 3 ∷ []
  pub synchronize_calls : noted 9 (ten 0x35 0 0) ≡ flushing ∷ flushing ∷ []
