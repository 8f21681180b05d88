-- A recording: which calls it makes, and what they put to each block.
use Rattle.std.specs.Prelude.{ℕ, zero, suc, ◌+◌, cond, List, [], ◌∷◌, ◌++◌, Ok, Err, ◌==◌}
use Rattle.store.specs.Steps.{Content, Steps, Stepped, stepped, next}
use Rattle.store.specs.Sequence.{in_turn}
use Rattle.shift_log.specs.declared.kind.Kind.{Kind}
use Rattle.shift_log.specs.declared.kind.Kind.TheVariants.{Encoder, BrakeCommand, BrakePressure}
use Rattle.shift_log.specs.declared.record.Record.{Record}
use Rattle.shift_log.specs.Records.{brakes_at, block_of, encoded}

-- a call on a store that changes it
pub data Call : Type 0 where
  put : ℕ → Content → Call
  force : ℕ → Call

abbrev pub called : {M : Type 0} → Steps M → Call → M → Stepped (Unit {0}) M
called steps (put b x) s = steps.put s b x
called steps (force b) s = steps.force s b

-- calls one after the other, after what was done so far, until one fails
abbrev pub then_run : {M : Type 0} → Steps M → List Call → Stepped (Unit {0}) M → Stepped (Unit {0}) M
then_run steps [] done = done
then_run steps (c ∷ cs) done = then_run steps cs (next done (λ _ s. called steps c s))

abbrev pub run : {M : Type 0} → Steps M → List Call → M → Stepped (Unit {0}) M
run steps cs s = then_run steps cs (stepped (Ok tt) s)

-- what the calls put to block b, in order
abbrev pub put_to : List Call → ℕ → List Content
put_to [] b = []
put_to (put k x ∷ cs) b = cond (b == k) (x ∷ put_to cs b) (put_to cs b)
put_to (force k ∷ cs) b = put_to cs b

-- how many contents they put
abbrev pub puts : List Call → ℕ
puts [] = 0
puts (put k x ∷ cs) = 1 + puts cs
puts (force k ∷ cs) = puts cs

abbrev pub put_record : Kind → ℕ → Call
put_record kind second = let r : Record = record { kind = kind; second = second } in put (block_of r) (encoded r)

-- a brake action: command and pressure are put, and then forced
abbrev pub brake_calls : ℕ → List Call
brake_calls second = put_record BrakeCommand second ∷ put_record BrakePressure second ∷ force 10 ∷ force 11 ∷ []

-- a second: the encoder's record, and the brake action if there is one
abbrev pub second_calls : ℕ → ℕ → List Call
second_calls every second = put_record Encoder second ∷ cond (brakes_at every second) (brake_calls second) []

-- the first n seconds
unfoldable pub seconds_steps : {M : Type 0} → Steps M → ℕ → ℕ → M → Stepped (Unit {0}) M
seconds_steps steps n every s = in_turn n (λ second u. run steps (second_calls every second) u) s

-- the shift: n seconds, and a flush
abbrev pub shift_steps : {M : Type 0} → Steps M → ℕ → ℕ → M → Stepped (Unit {0}) M
shift_steps steps n every s = next (seconds_steps steps n every s) (λ _ u. steps.flush u)

-- how many of the first n seconds are recorded whole
unfoldable pub seconds_recorded : {M : Type 0} → Steps M → ℕ → ℕ → M → ℕ
seconds_recorded steps zero every s = 0
seconds_recorded steps (suc n) every s =
    elim (seconds_steps steps (suc n) every s).answer [ Ok _ ↦ suc n | Err _ ↦ seconds_recorded steps n every s ]

-- what the first n seconds put to block b, in order
unfoldable pub shift_put_to : ℕ → ℕ → ℕ → List Content
shift_put_to zero every b = []
shift_put_to (suc n) every b = shift_put_to n every b ++ put_to (second_calls every n) b

unfoldable pub shift_puts : ℕ → ℕ → ℕ
shift_puts zero every = 0
shift_puts (suc n) every = shift_puts n every + puts (second_calls every n)
