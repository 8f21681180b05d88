-- What a run is counted to write, and its times.
use Rattle.std.proofs.Common.{refl}
use Rattle.table_cache.specs.Table.{evict_first}
use Rattle.worked_examples.specs.RunScenes.{CountedContents, Times}

pub counted_contents : CountedContents
counted_contents = record { counted_answers = refl; costs = refl; three_with_power = refl; five_in_all = refl }

pub times : Times
unfolding evict_first
times =
    record {
      rewriting_answers = refl;
      power_before = refl;
      grants = refl;
      zeros_at_first = refl;
      ones_at_1 = refl;
      twos_at_2 = refl;
      twos_at_3 = refl;
      twos_past_the_last = refl;
      ones_held_at_1 = refl;
    }
