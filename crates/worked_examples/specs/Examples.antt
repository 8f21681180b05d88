-- The module at work. Unless said: ten zero blocks on a flat medium, a large grant, and hosts that were told their
-- attentions.
use Rattle.std.specs.Prelude.{◌≡◌, ℕ, zero, suc, true, List, [], ◌∷◌, ◌++◌, take, replicate, None}
use Rattle.store.specs.Steps.{Steps}
use Rattle.store.specs.Meaning.{held}
use Rattle.medium.specs.Medium.{medium_steps, medium_meaning}
use Rattle.flat_medium.specs.Flat.{FlatModel, flat}
use Rattle.flash_card.specs.Card.{owner, free}
use Rattle.flash_card.specs.Card.{CardModel, card}
use Rattle.table_cache.specs.Table.{TableModel, table_steps, table_meaning}
use Rattle.queue_cache.specs.Queue.{QueueModel, queued, queue_steps}
use Rattle.sense.specs.declared.Report.{Report}
use Rattle.sense.specs.Report.{report, without_sense, with_sense}
use Rattle.logical_unit.specs.State.{each_host, with_attentions}
use Rattle.rbc_steps.specs.Module.{ModuleModel, Exchange, exchange, Reply, joined, commanded, made_over}

abbrev pub flat_steps : Steps FlatModel
flat_steps = medium_steps flat

abbrev pub zero_blocks : ℕ → FlatModel
zero_blocks grant = record { bytes = replicate 5120 0; count = 10; grant = grant }

abbrev pub empty_table : ℕ → TableModel FlatModel
empty_table grant = record { below = zero_blocks grant; held = record { slots = replicate 8 None; hand = 0 } }

abbrev pub empty_queue : ℕ → QueueModel FlatModel
empty_queue grant = queued [] (zero_blocks grant)

abbrev pub blank_card : CardModel
blank_card = record { bytes = replicate 1548 0xff; count = 2; grant = 1000; hand = 0 }

-- a CDB of six bytes by its code, byte 2 and byte 4, and one of ten by its code, address and length
abbrev pub six : ℕ → ℕ → ℕ → List ℕ
six code byte2 byte4 = code ∷ 0 ∷ byte2 ∷ 0 ∷ byte4 ∷ 0 ∷ []

abbrev pub ten : ℕ → ℕ → ℕ → List ℕ
ten code address length = code ∷ 0 ∷ 0 ∷ 0 ∷ 0 ∷ address ∷ 0 ∷ 0 ∷ length ∷ 0 ∷ []

module _ {M : Type 0} (steps : Steps M) where
  -- a module over m whose hosts were told their attentions
  abbrev pub attended : M → ModuleModel M
  attended m = let w = made_over steps m in joined w.store (with_attentions (each_host (λ _. None)) w.unit)

  -- a host's command, with a block of sevens as data-out and room for two blocks
  abbrev pub ask : ℕ → List ℕ → ModuleModel M → Reply (Exchange M)
  ask h cdb w = commanded steps h cdb (replicate 512 7) (exchange w (replicate 1024 0xff))

  abbrev pub told : ℕ → List ℕ → ModuleModel M → Report
  told h cdb w = report (ask h cdb w).answer

  abbrev pub after : ℕ → List ℕ → ModuleModel M → ModuleModel M
  after h cdb w = (ask h cdb w).after.target

  -- the first n blocks written in turn
  abbrev pub wrote : ℕ → ModuleModel M → ModuleModel M
  wrote zero w = w
  wrote (suc n) w = after 0 (ten 0x2a n 1) (wrote n w)

  abbrev pub wrote_twice : ℕ → ModuleModel M → ModuleModel M
  wrote_twice b w = after 0 (ten 0x2a b 1) (after 0 (ten 0x2a b 1) w)

abbrev pub plain : ModuleModel FlatModel
plain = attended flat_steps (zero_blocks 1000)

abbrev pub over_table : ℕ → ModuleModel (TableModel FlatModel)
over_table grant = attended (table_steps flat_steps) (empty_table grant)

abbrev pub over_queue : ModuleModel (QueueModel FlatModel)
over_queue = attended (queue_steps flat_steps) (empty_queue 1000)

abbrev pub over_card : ModuleModel CardModel
over_card = attended (medium_steps card) blank_card

abbrev pub good : ℕ → Report
good count = without_sense 0 0x00 count

abbrev pub out_of_range : Report
out_of_range = with_sense 11 0x5 0x21 0x00

pub record Examples : Type 0 where
  -- a new module tells host 2 its attention once
  pub attention_is_told : told flat_steps 2 (six 0x00 0 0) (made_over flat_steps (zero_blocks 1000)) ≡ with_sense 6 0x6 0x29 0x00
  pub and_only_once : told flat_steps 2 (six 0x00 0 0) (after flat_steps 2 (six 0x00 0 0) (made_over flat_steps (zero_blocks 1000))) ≡ good 0
  -- READ of the last block, and past it
  pub last_block_is_read : told flat_steps 0 (ten 0x28 9 1) plain ≡ good 512
  pub past_the_end_is_refused : told flat_steps 0 (ten 0x28 9 2) plain ≡ out_of_range
  -- READ of no block at the end, and past it
  pub no_block_at_the_end : told flat_steps 0 (ten 0x28 10 0) plain ≡ good 0
  pub no_block_past_the_end : told flat_steps 0 (ten 0x28 11 0) plain ≡ out_of_range
  pub capacity_of_ten_blocks : take 8 (ask flat_steps 0 (ten 0x25 0 0) plain).after.data_in ≡ 0x00 ∷ 0x00 ∷ 0x00 ∷ 0x09 ∷ 0x00 ∷ 0x00 ∷ 0x02 ∷ 0x00 ∷ []
  pub mode_page_of_ten_blocks :
      take 17 (ask flat_steps 0 (six 0x1a 0x06 0xff) plain).after.data_in
      ≡ 0x10 ∷ 0x00 ∷ 0x00 ∷ 0x00 ∷ 0x86 ∷ 0x0b ∷ 0x00 ∷ 0x02 ∷ 0x00 ∷ 0x00 ∷ 0x00 ∷ 0x00 ∷ 0x00 ∷ 0x0a ∷ 0x80 ∷ 0x02 ∷ 0x00 ∷ []
  -- nine blocks written in turn under a table cache: block 0 is on the medium, by one store, and eight are held
  pub ninth_evicts_the_first : ((medium_meaning flat (wrote (table_steps flat_steps) 9 (over_table 1000)).store.below).line 0).first ≡ replicate 512 7
  pub by_one_store : (wrote (table_steps flat_steps) 9 (over_table 1000)).store.below.grant ≡ 999
  pub eight_are_held : held (table_meaning (medium_meaning flat) (wrote (table_steps flat_steps) 9 (over_table 1000)).store) ≡ 8
  -- the same with a grant of 1: the ninth WRITE loses power, and only block 0 is new
  pub ninth_loses_power : told (table_steps flat_steps) 0 (ten 0x2a 8 1) (wrote (table_steps flat_steps) 8 (over_table 1)) ≡ without_sense 2 0xff 0
  pub only_the_first_is_new : (wrote (table_steps flat_steps) 9 (over_table 1)).store.below.bytes ≡ replicate 512 7 ++ replicate 4608 0
  -- block 3 written twice, then SYNCHRONIZE CACHE: two stores under a queue cache, one under a table cache
  pub queue_stores_both : (after (queue_steps flat_steps) 0 (ten 0x35 0 0) (wrote_twice (queue_steps flat_steps) 3 over_queue)).store.below.grant ≡ 998
  pub table_stores_the_latest : (after (table_steps flat_steps) 0 (ten 0x35 0 0) (wrote_twice (table_steps flat_steps) 3 (over_table 1000))).store.below.grant ≡ 999
  -- host 0 reserves: host 1's RELEASE is good, and its WRITE is held up all the same
  pub other_release_is_good : told flat_steps 1 (six 0x17 0 0) (after flat_steps 0 (six 0x16 0 0) plain) ≡ good 0
  pub other_write_is_held_up :
      told flat_steps 1 (ten 0x2a 0 1) (after flat_steps 1 (six 0x17 0 0) (after flat_steps 0 (six 0x16 0 0) plain)) ≡ without_sense 7 0x18 0
  -- a flash card of two blocks on three blank pages: block 1 written twice owns page 1, and page 0 is free
  pub second_page_is_owned : owner (wrote_twice (medium_steps card) 1 over_card).store.bytes 1 ≡ 1
  pub first_page_is_free : free (wrote_twice (medium_steps card) 1 over_card).store.bytes 2 0 ≡ true
