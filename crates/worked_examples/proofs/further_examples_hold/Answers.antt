use Rattle.worked_examples.proofs.Premises.{premises}
use Rattle.worked_examples.proofs.Runs.{counted_contents, times}
use Rattle.worked_examples.proofs.Commands.{flush_at_making, data_in_kept, clean_blocks, unloaded, noted_calls}
use Rattle.worked_examples.proofs.Shifts.{shift_counts}
use Rattle.worked_examples.proofs.Cards.{card_tables, never_met}
use Rattle.worked_examples.proofs.further_examples_hold.Goals as goal

pub returns : goal.returns
returns c =
    record {
      premises = premises;
      counted_contents = counted_contents;
      times = times;
      flush_at_making = flush_at_making;
      data_in_kept = data_in_kept;
      clean_blocks = clean_blocks;
      unloaded = unloaded;
      noted_calls = noted_calls;
      shift_counts = shift_counts;
      card_tables = card_tables;
      never_met = never_met;
    }
