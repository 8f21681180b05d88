-- Each answer's number, status, sense key, additional sense code and its qualifier, and its count of bytes in data-in.
use Rattle.std.specs.Prelude.{◌≡◌, ℕ, Bool, false, Ok, Err, Result}
use Rattle.sense.specs.declared.Attention.{Attention}
use Rattle.sense.specs.declared.Attention.TheVariants.{PowerOnOrReset, MediumChanged, ParametersChanged}
use Rattle.sense.specs.declared.CommandError.{CommandError}
use Rattle.sense.specs.declared.CommandError.TheVariants as error
use Rattle.sense.specs.declared.Report.{Report}

abbrev pub without_sense : ℕ → ℕ → ℕ → Report
without_sense number status count = record { number = number; status = status; key = 0; asc = 0; ascq = 0; count = count }

-- status CHECK CONDITION, with a sense key and its codes
abbrev pub with_sense : ℕ → ℕ → ℕ → ℕ → Report
with_sense number key asc ascq = record { number = number; status = 0x02; key = key; asc = asc; ascq = ascq; count = 0 }

abbrev pub attention_codes : Attention → ℕ × ℕ
attention_codes PowerOnOrReset = (0x29, 0x00)
attention_codes MediumChanged = (0x28, 0x00)
attention_codes ParametersChanged = (0x2a, 0x01)

abbrev pub error_report : CommandError → Report
error_report error.NoSuchHost = without_sense 1 0xff 0
error_report error.PowerOff = without_sense 2 0xff 0
error_report error.InvalidOpcode = with_sense 3 0x5 0x20 0x00
error_report error.ShortCdb = with_sense 4 0x5 0x24 0x00
error_report error.ControlSet = with_sense 5 0x5 0x24 0x00
error_report (error.UnitAttention a) = with_sense 6 0x6 (attention_codes a).0 (attention_codes a).1
error_report error.ReservationConflict = without_sense 7 0x18 0
error_report error.InvalidField = with_sense 8 0x5 0x24 0x00
error_report error.MediumNotPresent = with_sense 9 0x2 0x3a 0x00
error_report error.NotReady = with_sense 10 0x2 0x04 0x02
error_report error.AddressOutOfRange = with_sense 11 0x5 0x21 0x00
error_report error.WriteProtected = with_sense 12 0x7 0x27 0x00
error_report error.RemovalPrevented = with_sense 13 0x5 0x53 0x02
error_report error.ListLengthError = with_sense 14 0x5 0x1a 0x00
error_report error.DataPhaseError = with_sense 15 0xb 0x4b 0x00
error_report error.InvalidParameter = with_sense 16 0x5 0x26 0x00

-- good, with a count of bytes, or an error
abbrev pub Answer : Type 0
Answer = Result ℕ CommandError

abbrev pub report : Answer → Report
report (Ok count) = without_sense 0 0x00 count
report (Err e) = error_report e

abbrev pub number : Answer → ℕ
number a = (report a).number

-- A refusal: not good, and not a loss of power that was on before the call.
pub record Refused (power : Bool) (a : Answer) : Type 0 where
  pub not_good : number a ≡ 0 → ⊥
  pub not_lost : number a ≡ 2 → power ≡ false
