-- What a recording of a shift puts: an encoder record each second, and two records for each brake action.
use Rattle.std.specs.Prelude.{◌≡◌, ℕ, true, false, List, [], ◌∷◌, map, length}
use Rattle.store.specs.Steps.{Content}
use Rattle.shift_log.specs.declared.Kind.{Kind}
use Rattle.shift_log.specs.declared.Kind.TheVariants.{Encoder, BrakeCommand, BrakePressure}
use Rattle.shift_log.specs.Records.{brakes_at, encoded}
use Rattle.shift_log.specs.Recording.{put, force, brake_calls, shift_put_to, shift_puts}

-- the records of these seconds
abbrev pub records : Kind → List ℕ → List Content
records kind seconds = map (λ (second : ℕ). encoded (record { kind = kind; second = second })) seconds

pub record ShiftCounts : Type 0 where
  -- the brake acts in the last of every eight seconds; every second; never
  pub acts_every_8 : map (brakes_at 8) (0 ∷ 6 ∷ 7 ∷ 8 ∷ 15 ∷ 16 ∷ []) ≡ false ∷ false ∷ true ∷ false ∷ true ∷ false ∷ []
  pub acts_every_second : map (brakes_at 1) (0 ∷ 1 ∷ 2 ∷ []) ≡ true ∷ true ∷ true ∷ []
  pub acts_never : (second : ℕ) → brakes_at 0 second ≡ false
  -- a brake action puts command and pressure to blocks 10 and 11, and then forces both
  pub brake_action :
      brake_calls 7
      ≡ put 10 (encoded (record { kind = BrakeCommand; second = 7 }))
      ∷ put 11 (encoded (record { kind = BrakePressure; second = 7 }))
      ∷ force 10
      ∷ force 11
      ∷ []
  -- 24 seconds with a brake action in seconds 7, 15 and 23: 24 encoder records and three pairs
  pub thirty_puts : shift_puts 24 8 ≡ 30
  pub encoder_goes_round : shift_put_to 24 8 0 ≡ records Encoder (0 ∷ 10 ∷ 20 ∷ [])
  pub commands_to_block_10 : shift_put_to 24 8 10 ≡ records BrakeCommand (7 ∷ 15 ∷ 23 ∷ [])
  pub pressures_to_block_11 : shift_put_to 24 8 11 ≡ records BrakePressure (7 ∷ 15 ∷ 23 ∷ [])
  pub none_to_block_12 : shift_put_to 24 8 12 ≡ []
  pub puts_to_each_encoder_block : map (λ (b : ℕ). length (shift_put_to 24 8 b)) (1 ∷ 2 ∷ 3 ∷ 4 ∷ 5 ∷ 6 ∷ 7 ∷ 8 ∷ 9 ∷ []) ≡ 3 ∷ 3 ∷ 3 ∷ 2 ∷ 2 ∷ 2 ∷ 2 ∷ 2 ∷ 2 ∷ []
  -- five seconds with a brake action in each; without one
  pub fifteen_puts : shift_puts 5 1 ≡ 15
  pub five_puts : shift_puts 5 0 ≡ 5
