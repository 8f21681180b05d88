-- The codes of statuses and sense keys.
use Rattle.std.specs.Prelude.{ℕ}
use Rattle.sense.specs.declared.Status.{Status}
use Rattle.sense.specs.declared.Status.TheVariants as status
use Rattle.sense.specs.declared.SenseKey.{SenseKey}
use Rattle.sense.specs.declared.SenseKey.TheVariants as key

abbrev pub status_code : Status → ℕ
status_code status.Good = 0x00
status_code status.CheckCondition = 0x02
status_code status.ReservationConflict = 0x18
status_code status.NotReached = 0xff

abbrev pub key_code : SenseKey → ℕ
key_code key.NotReady = 0x2
key_code key.IllegalRequest = 0x5
key_code key.UnitAttention = 0x6
key_code key.DataProtect = 0x7
key_code key.AbortedCommand = 0xb
