-- MAKE and single commands.
use Rattle.std.proofs.Common.{ℕ, ◌<◌, List, length, get_or, is_some, sym, refl, ap, arith}
use Rattle.std.proofs.lemmas.Bool.{eqb-false, true≢false}
use Rattle.store.specs.Steps.{Content}
use Rattle.flat_medium.specs.Flat.{FlatModel}
use Rattle.table_cache.specs.Table.{evict_first}
use Rattle.logical_unit.specs.declared.LogicalUnit.{LogicalUnit}
use Rattle.logical_unit.specs.ModePage.{mode_data}
use Rattle.logical_unit.specs.State.{pending}
use Rattle.worked_examples.specs.CommandScenes.{FlushAtMaking, DataInKept, CleanBlocks, Unloaded, NotedCalls}

pub flush_at_making : FlushAtMaking
unfolding evict_first
flush_at_making =
    record {
      one_is_held = refl;
      none_is_held_then = refl;
      flushed_by_one_store = refl;
      sevens_stand = refl;
      sevens_stand_at_the_cut = refl;
      power_is_gone = refl;
      made_all_the_same = refl;
      it_answers_power_off = refl;
      held_is_not_flushed = λ f. let below : 3 < 10 = omega arith in eqb-false 1 0 refl (ap (λ (xs : List Content). length xs) (f.single 3 below));
    }

pub data_in_kept : DataInKept
unfolding mode_data
data_in_kept =
    record {
      none_of_inquiry = refl;
      five_of_inquiry = refl;
      past_inquiry = refl;
      past_mode_sense = refl;
      past_capacity = refl;
      past_read = refl;
      write_returns_none = refl;
      verify_returns_none = refl;
      refused_read_returns_none = refl;
      byte_written_is_a_change = λ u. eqb-false 0 0xff refl (ap (λ (d : List ℕ). get_or d 0 0) u.data_in);
      block_stored_is_a_change = λ u. eqb-false 999 1000 refl (ap (λ (m : FlatModel). m.grant) u.store);
      unit_moved_is_a_change = λ u. true≢false (sym (ap (λ (t : LogicalUnit). t.loaded) (u.unit (eqb-false 11 6 refl))));
      told_is_cleared = λ u. true≢false (ap (λ (t : LogicalUnit). is_some (pending t 0)) (u.told refl));
    }

pub clean_blocks : CleanBlocks
clean_blocks =
    record {
      fua_turns = refl;
      fua_puts = refl;
      fua_at_first = refl;
      fua_after_one = refl;
      fua_after_both = refl;
      fua_writes_block_3 = refl;
      fua_has_not_come_to_block_4 = refl;
      wcd_after_both = refl;
      plain_after_both = refl;
      plain_puts = refl;
      verify_turns = refl;
      verify_puts = refl;
      verify_after_one = refl;
      verify_after_both = refl;
      synchronize_turns = refl;
      synchronize_at_first = refl;
      synchronize_after = refl;
      start_stop_turns = refl;
      wcd_set_turns = refl;
      wcd_kept_turns = refl;
      read_turns = refl;
      refused_turns = refl;
      lost_turns = refl;
      unpowered_turns = refl;
    }

pub unloaded : Unloaded
unloaded = record { unloaded_condition = refl; unloaded_medium = refl; conditions = refl; media = refl }

pub noted_calls : NotedCalls
noted_calls =
    record {
      verify_calls = refl;
      verify_calls_at_a_cut = refl;
      verify_answer_at_a_cut = refl;
      read_calls = refl;
      forced_write_calls = refl;
      synchronize_calls = refl;
    }
