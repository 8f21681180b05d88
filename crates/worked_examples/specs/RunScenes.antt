-- What the law over runs takes for granted, what it counts, and its times: scenes on a flat medium.
use Rattle.std.specs.Prelude.{◌≡◌, ℕ, ◌≢◌, Bool, true, false, List, [], ◌∷◌, map, take, replicate, Err}
use Rattle.store.specs.Meaning.{Meaning}
use Rattle.medium.specs.Medium.{medium_meaning}
use Rattle.flat_medium.specs.Flat.{FlatModel, flat}
use Rattle.table_cache.specs.Table.{table_steps, table_meaning}
use Rattle.sense.specs.declared.CommandError.{CommandError}
use Rattle.sense.specs.Report.{number, Refused}
use Rattle.commands.specs.Order.{Order, reserve, read, synchronize_cache}
use Rattle.rbc_steps.specs.Module.{ModuleModel, made_over}
use Rattle.rbc_steps.specs.Calls.{Request, Call, Command, Reset, Event, event, Good}
use Rattle.rbc_steps.specs.Writes.{cost}
use Rattle.run_law.specs.Runs.{run, meaning_at}
use Rattle.run_law.specs.Book.{written}
use Rattle.run_law.specs.Law.{Frees}
use Rattle.worked_examples.specs.Examples.{flat_steps, zero_blocks, empty_table, six, ten, attended, ask, after, plain}

abbrev pub flat_meaning : FlatModel → Meaning
flat_meaning = medium_meaning flat

-- a command that finds 512 bytes FFh in data-in
abbrev pub asking : ℕ → List ℕ → List ℕ → Request
asking h cdb out = record { host = h; cdb = cdb; data_out = out; data_in = replicate 512 0xff }

-- a call of COMMAND by host 0
abbrev pub by_host_0 : List ℕ → List ℕ → Call
by_host_0 cdb out = Command (asking 0 cdb out)

-- what is seen of a command on this module
abbrev pub seen_on : ModuleModel FlatModel → Request → Event
seen_on w q = event flat_steps flat_meaning w (Command q)

-- host 0 holds the reservation
abbrev pub held_by_0 : ModuleModel FlatModel
held_by_0 = after flat_steps 0 (six 0x16 0 0) plain

-- there is no power
abbrev pub unpowered : ModuleModel FlatModel
unpowered = attended flat_steps (zero_blocks 0)

abbrev pub IsGood : Order → ModuleModel FlatModel → List ℕ → Type 0
IsGood o w cdb = Good o (asking 0 cdb []) (seen_on w (asking 0 cdb []))

-- the command ends the reservation of host 0
abbrev pub Ends : ModuleModel FlatModel → Request → Type 0
Ends w q = Frees 0 (seen_on w q)

pub record Premises : Type 0 where
  -- host 0 reserves; then it reads block 0, and synchronizes: each is a good command
  pub reserve_is_good : IsGood reserve plain (six 0x16 0 0)
  pub read_is_good : IsGood (read false 0 1) held_by_0 (ten 0x28 0 1)
  pub synchronize_is_good : IsGood synchronize_cache held_by_0 (ten 0x35 0 0)
  -- its RELEASE ends the reservation, and so does a RESET
  pub own_release_ends_it : Ends held_by_0 (asking 0 (six 0x17 0 0) [])
  pub reset_ends_it : Frees 0 (event flat_steps flat_meaning held_by_0 Reset)
  -- its READ does not; nor does host 1, by a RELEASE, which is good without effect, or by a WRITE, which is held up
  pub read_does_not : Ends held_by_0 (asking 0 (ten 0x28 0 1) []) → ⊥
  pub other_release_does_not : Ends held_by_0 (asking 1 (six 0x17 0 0) []) → ⊥
  pub other_write_does_not : Ends held_by_0 (asking 1 (ten 0x2a 0 1) (replicate 512 7)) → ⊥
  -- nor a RELEASE that is refused, since an attention is pending, nor a RESET without power
  pub refused_release_does_not : Ends (made_over flat_steps (zero_blocks 1000)) (asking 0 (six 0x17 0 0) []) → ⊥
  pub reset_without_power_does_not : Frees 0 (event flat_steps flat_meaning unpowered Reset) → ⊥
  -- a READ past the end is refused, and a WRITE against a reservation, and any command of a host that is not known;
  -- without power each command is
  pub range_is_a_refusal : Refused true (ask flat_steps 0 (ten 0x28 9 2) plain).answer
  pub conflict_is_a_refusal : Refused true (ask flat_steps 1 (ten 0x2a 0 1) held_by_0).answer
  pub unknown_host_is_a_refusal : Refused true (ask flat_steps 4 (six 0x00 0 0) plain).answer
  pub no_power_is_a_refusal : Refused false (ask flat_steps 0 (six 0x00 0 0) unpowered).answer
  -- so every number but 0 and 2 tells a refusal, whether there is power or not
  pub each_number_is_a_refusal : (power : Bool) (e : CommandError) → number (Err e) ≢ 2 → Refused power (Err e)
  -- a good READ is no refusal, and no WRITE that loses power on the way
  pub good_is_none : Refused true (ask flat_steps 0 (ten 0x28 9 1) plain).answer → ⊥
  pub lost_write_is_none : Refused true (ask flat_steps 0 (ten 0x2a 0 1) (attended flat_steps (zero_blocks 1))).answer → ⊥

-- With a grant of 4, host 0 writes blocks 0 and 1, and then blocks 9 and 10, of which the second is past the end. After
-- a RESET it reads block 0 twice: the first READ is told the attention. It writes block 5. Its WRITE of blocks 7 and 8
-- loses power with the first of them, and its last WRITE finds no power.
abbrev pub counted : List Event
counted =
    run flat_steps flat_meaning (attended flat_steps (zero_blocks 4))
    (by_host_0 (ten 0x2a 0 2) (replicate 1024 7)
    ∷ by_host_0 (ten 0x2a 9 2) (replicate 1024 7)
    ∷ Reset
    ∷ by_host_0 (ten 0x28 0 1) []
    ∷ by_host_0 (ten 0x28 0 1) []
    ∷ by_host_0 (ten 0x2a 5 1) (replicate 512 7)
    ∷ by_host_0 (ten 0x2a 7 2) (replicate 1024 7)
    ∷ by_host_0 (ten 0x2a 0 1) (replicate 512 7)
    ∷ [])

pub record CountedContents : Type 0 where
  pub counted_answers : map (λ (e : Event). number e.answer) counted ≡ 0 ∷ 11 ∷ 0 ∷ 6 ∷ 0 ∷ 0 ∷ 2 ∷ 2 ∷ []
  -- only a WRITE that is not refused counts, by its length; one that loses power counts whole
  pub costs : map (λ (e : Event). cost e) counted ≡ 2 ∷ 0 ∷ 0 ∷ 0 ∷ 0 ∷ 1 ∷ 2 ∷ 0 ∷ []
  pub three_with_power : written (take 6 counted) ≡ 3
  pub five_in_all : written counted ≡ 5

-- Block 0 is written with ones, with twos and with threes, with a grant of 2: the second WRITE loses power once its
-- block is stored, and the third finds none.
abbrev pub rewrites : List Call
rewrites = map (λ (n : ℕ). by_host_0 (ten 0x2a 0 1) (replicate 512 n)) (1 ∷ 2 ∷ 3 ∷ [])

abbrev pub rewritten : List Event
rewritten = run flat_steps flat_meaning (attended flat_steps (zero_blocks 2)) rewrites

-- what the store means at a time
abbrev pub at_time : ℕ → Meaning
at_time k = meaning_at (flat_meaning (attended flat_steps (zero_blocks 2)).store) rewritten k

-- the same calls over a table cache, with a large grant, at time 1
abbrev pub table_at_time_1 : Meaning
table_at_time_1 =
    let steps = table_steps flat_steps in
    let w = attended steps (empty_table 1000) in
    meaning_at (table_meaning flat_meaning w.store) (run steps (table_meaning flat_meaning) w rewrites) 1

pub record Times : Type 0 where
  pub rewriting_answers : map (λ (e : Event). number e.answer) rewritten ≡ 0 ∷ 2 ∷ 2 ∷ []
  -- power is on before the first two
  pub power_before : map (λ (e : Event). e.powered) rewritten ≡ true ∷ true ∷ false ∷ []
  -- at time 0 no call was made; past the last call nothing changes
  pub grants : map (λ (k : ℕ). (at_time k).grant) (0 ∷ 1 ∷ 2 ∷ 3 ∷ 4 ∷ []) ≡ 2 ∷ 1 ∷ 0 ∷ 0 ∷ 0 ∷ []
  pub zeros_at_first : ((at_time 0).line 0).first ≡ replicate 512 0
  pub ones_at_1 : ((at_time 1).line 0).first ≡ replicate 512 1
  pub twos_at_2 : ((at_time 2).line 0).first ≡ replicate 512 2
  pub twos_at_3 : ((at_time 3).line 0).first ≡ replicate 512 2
  pub twos_past_the_last : ((at_time 4).line 0).first ≡ replicate 512 2
  -- what a cache holds is part of it
  pub ones_held_at_1 : table_at_time_1.line 0 ≡ record { first = replicate 512 0; later = replicate 512 1 ∷ [] }
