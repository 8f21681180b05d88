-- The tests that each command passes before it runs, in order. The first that fails gives the answer.
use Rattle.std.specs.Prelude.{◌≡◌, ℕ, Bool, true, false, not, ◌&&◌, ◌||◌, leb, List, [], ◌∷◌, ◌++◌, is_some, Some, None, Ok, Err, Option, Result, ◌==◌, nat_le, nat_lt, slice_index_or}
use Rattle.sense.specs.declared.CommandError.{CommandError}
use Rattle.sense.specs.declared.CommandError.TheVariants.{NoSuchHost, PowerOff, UnitAttention, ReservationConflict, InvalidField, MediumNotPresent, NotReady, AddressOutOfRange, WriteProtected, RemovalPrevented, ListLengthError, DataPhaseError, InvalidParameter}
use Rattle.sense.specs.declared.Attention.{Attention}
use Rattle.sense.specs.declared.Attention.TheVariants.{PowerOnOrReset}
use Rattle.sense.specs.Ladder.{Rung, rung, first_no, unless_refused}
use Rattle.commands.specs.declared.Command.{Command}
use Rattle.commands.specs.Order.{Order}
use Rattle.commands.specs.Carried.{order}
use Rattle.cdb.specs.Decoding.{opcode_of, order_by, cdb_rungs}
use Rattle.commands.specs.Requirements.{is_inquiry, passes_reservation, valid_fields, uses_medium, in_range, writes, unloads, valid_list_length, supplied, returned, valid_parameters}
use Rattle.logical_unit.specs.declared.Host.{Host}
use Rattle.logical_unit.specs.declared.Condition.{Condition}
use Rattle.logical_unit.specs.declared.Condition.TheVariants.{Active, Idle, Standby, Sleep, Stopped}
use Rattle.logical_unit.specs.declared.LogicalUnit.{LogicalUnit}
use Rattle.logical_unit.specs.State.{pending}

abbrev pub ready : Condition → Bool
ready Active = true
ready Idle = true
ready Standby = true
ready Sleep = false
ready Stopped = false

abbrev pub held_by_other : Option ℕ → ℕ → Bool
held_by_other None h = false
held_by_other (Some k) h = not (k == h)

abbrev pub any_bar : List Bool → Bool
any_bar xs = slice_index_or xs 0 false || (slice_index_or xs 1 false || (slice_index_or xs 2 false || slice_index_or xs 3 false))

-- the attention that is told, if one is pending
abbrev pub told : Option Attention → Attention
told None = PowerOnOrReset
told (Some a) = a

-- the tests of host h's standing with command o, and of the unit's state
abbrev pub standing_rungs : LogicalUnit → ℕ → Order → List Rung
standing_rungs u h o =
    rung (is_inquiry o || not (is_some (pending u h))) (UnitAttention (told (pending u h)))
    ∷ rung (not (held_by_other u.holder h) || passes_reservation o) ReservationConflict
    ∷ rung (valid_fields o) InvalidField
    ∷ rung (not (uses_medium o) || u.loaded) MediumNotPresent
    ∷ rung (not (uses_medium o) || ready u.condition) NotReady
    ∷ []

-- the tests of its blocks and its data, if data-in has room for so many bytes
abbrev pub data_rungs : LogicalUnit → ℕ → ℕ → Order → List Rung
data_rungs u count room o =
    rung (in_range count o) AddressOutOfRange
    ∷ rung (not (writes o && u.settings.writed)) WriteProtected
    ∷ rung (not (unloads o && any_bar u.bars)) RemovalPrevented
    ∷ rung (valid_list_length o) ListLengthError
    ∷ rung (supplied o && nat_le (returned o) room) DataPhaseError
    ∷ rung (valid_parameters o) InvalidParameter
    ∷ []

-- the tests of command o by host h
abbrev pub command_rungs : LogicalUnit → ℕ → ℕ → ℕ → Order → List Rung
command_rungs u h count room o = standing_rungs u h o ++ data_rungs u count room o

-- all tests: the host, power, the CDB's code, length and CONTROL, and those of the command
abbrev pub ladder : LogicalUnit → ℕ → Bool → ℕ → List ℕ → List ℕ → ℕ → List Rung
ladder u h power count cdb out room =
    rung (nat_lt h 4) NoSuchHost
    ∷ rung power PowerOff
    ∷ (cdb_rungs (opcode_of cdb) cdb ++ command_rungs u h count room (order_by (opcode_of cdb) cdb out))

-- the command that runs, or the first refusal
abbrev pub judged : LogicalUnit → ℕ → Bool → ℕ → List ℕ → List ℕ → ℕ → Result Order CommandError
judged u h power count cdb out room = unless_refused (first_no (ladder u h power count cdb out room)) (order_by (opcode_of cdb) cdb out)

-- what the code judges, by what its references point to
abbrev pub passed : Result (Host × Command) CommandError → Result Order CommandError
passed (Ok p) = Ok (order p.1)
passed (Err a) = Err a

-- what a command that runs can count on
pub record Runs (count room : ℕ) (o : Order) : Type 0 where
  pub ranged : in_range count o ≡ true
  pub sized : valid_list_length o ≡ true
  pub given : supplied o ≡ true
  pub fits : leb (returned o) room ≡ true
