use Rattle.std.proofs.Common.{refl}
use Rattle.flash_card.specs.Card.{owner, first_from, disown_first, page_content}
use Rattle.flash_card.specs.Card.{zeros}
use Rattle.table_cache.specs.Table.{evict_first}
use Rattle.queue_cache.specs.Queue.{drain}
use Rattle.logical_unit.specs.ModePage.{mode_data}
use Rattle.worked_examples.proofs.examples_hold.Goals as goal

pub returns : goal.returns
unfolding owner first_from disown_first page_content zeros evict_first drain mode_data
returns c =
    record {
      attention_is_told = refl;
      and_only_once = refl;
      last_block_is_read = refl;
      past_the_end_is_refused = refl;
      no_block_at_the_end = refl;
      no_block_past_the_end = refl;
      capacity_of_ten_blocks = refl;
      mode_page_of_ten_blocks = refl;
      ninth_evicts_the_first = refl;
      by_one_store = refl;
      eight_are_held = refl;
      ninth_loses_power = refl;
      only_the_first_is_new = refl;
      queue_stores_both = refl;
      table_stores_the_latest = refl;
      other_release_is_good = refl;
      other_write_is_held_up = refl;
      second_page_is_owned = refl;
      first_page_is_free = refl;
    }
