-- What a recording of a shift puts.
use Rattle.std.proofs.Common.{refl}
use Rattle.shift_log.specs.Recording.{shift_put_to, shift_puts}
use Rattle.worked_examples.specs.ShiftScenes.{ShiftCounts}

pub shift_counts : ShiftCounts
unfolding shift_put_to shift_puts
shift_counts =
    record {
      acts_every_8 = refl;
      acts_every_second = refl;
      acts_never = λ second. refl;
      brake_action = refl;
      thirty_puts = refl;
      encoder_goes_round = refl;
      commands_to_block_10 = refl;
      pressures_to_block_11 = refl;
      none_to_block_12 = refl;
      puts_to_each_encoder_block = refl;
      fifteen_puts = refl;
      five_puts = refl;
    }
