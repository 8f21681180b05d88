-- How a CDB and the host's data-out give a command.
use Rattle.std.specs.Prelude.{ℕ, ◌-◌, ◌*◌, ◌/◌, cond, List, [], ◌∷◌, length, take, is_some, Some, None, Ok, Err, Option, Result, ◌==◌, bit_and, nat_le}
use Rattle.host_data.specs.Fields.{byte, bit, be16, be32}
use Rattle.sense.specs.declared.CommandError.{CommandError}
use Rattle.sense.specs.declared.CommandError.TheVariants.{InvalidOpcode, ShortCdb, ControlSet}
use Rattle.sense.specs.Ladder.{Rung, rung, first_no, unless_refused}
use Rattle.cdb.specs.declared.opcode.SixByte.{SixByte}
use Rattle.cdb.specs.declared.opcode.SixByte.TheVariants as six
use Rattle.cdb.specs.declared.opcode.TenByte.{TenByte}
use Rattle.cdb.specs.declared.opcode.TenByte.TheVariants as ten
use Rattle.cdb.specs.declared.opcode.Opcode.{Opcode}
use Rattle.cdb.specs.declared.opcode.Opcode.TheVariants.{Six, Ten}
use Rattle.commands.specs.declared.Command.{Command}
use Rattle.commands.specs.Order.{Order, test_unit_ready, inquiry, mode_select, reserve, release, mode_sense, start_stop, prevent_allow, read_capacity, read, write, verify, synchronize_cache}
use Rattle.commands.specs.Carried.{order}

abbrev pub opcode : ℕ → Option Opcode
opcode c =
    cond (c == 0x00) (Some (Six six.TestUnitReady))
    (cond (c == 0x12) (Some (Six six.Inquiry))
    (cond (c == 0x15) (Some (Six six.ModeSelect))
    (cond (c == 0x16) (Some (Six six.Reserve))
    (cond (c == 0x17) (Some (Six six.Release))
    (cond (c == 0x1a) (Some (Six six.ModeSense))
    (cond (c == 0x1b) (Some (Six six.StartStopUnit))
    (cond (c == 0x1e) (Some (Six six.PreventAllow))
    (cond (c == 0x25) (Some (Ten ten.ReadCapacity))
    (cond (c == 0x28) (Some (Ten ten.Read))
    (cond (c == 0x2a) (Some (Ten ten.Write))
    (cond (c == 0x2f) (Some (Ten ten.Verify))
    (cond (c == 0x35) (Some (Ten ten.SynchronizeCache)) None))))))))))))

-- the operation code, if it is known
abbrev pub known : Option Opcode → Result Opcode CommandError
known None = Err InvalidOpcode
known (Some o) = Ok o

abbrev pub order_six : SixByte → List ℕ → List ℕ → Order
order_six six.TestUnitReady cdb out = test_unit_ready
order_six six.Inquiry cdb out = inquiry (bit 1 (byte cdb 1)) (byte cdb 2) (byte cdb 4)
order_six six.ModeSelect cdb out = mode_select (byte cdb 4) (take (byte cdb 4) out)
order_six six.Reserve cdb out = reserve
order_six six.Release cdb out = release
order_six six.ModeSense cdb out = mode_sense (byte cdb 2 / 64) (bit_and (byte cdb 2) 0x3f) (byte cdb 4)
order_six six.StartStopUnit cdb out = start_stop (byte cdb 4 / 16) (bit 1 (byte cdb 4)) (bit 2 (byte cdb 4))
order_six six.PreventAllow cdb out = prevent_allow (bit_and (byte cdb 4) 3)

abbrev pub order_ten : TenByte → List ℕ → List ℕ → Order
order_ten ten.ReadCapacity cdb out = read_capacity
order_ten ten.Read cdb out = read (bit 1 (byte cdb 1)) (be32 cdb 2) (be16 cdb 7)
order_ten ten.Write cdb out = write (bit 1 (byte cdb 1)) (bit 8 (byte cdb 1)) (be32 cdb 2) (be16 cdb 7) (take (512 * be16 cdb 7) out)
order_ten ten.Verify cdb out = verify (bit 1 (byte cdb 1)) (be32 cdb 2) (be16 cdb 7)
order_ten ten.SynchronizeCache cdb out = synchronize_cache

abbrev pub order_by : Option Opcode → List ℕ → List ℕ → Order
order_by None cdb out = test_unit_ready
order_by (Some (Six s)) cdb out = order_six s cdb out
order_by (Some (Ten t)) cdb out = order_ten t cdb out

abbrev pub cdb_size : Option Opcode → ℕ
cdb_size None = 0
cdb_size (Some (Six s)) = 6
cdb_size (Some (Ten t)) = 10

abbrev pub opcode_of : List ℕ → Option Opcode
opcode_of [] = None
opcode_of (c ∷ cs) = opcode c

-- the code is known, the CDB long enough for it, and CONTROL, the last byte of its fields, zero
abbrev pub cdb_rungs : Option Opcode → List ℕ → List Rung
cdb_rungs code cdb =
    rung (is_some code) InvalidOpcode
    ∷ rung (nat_le (cdb_size code) (length cdb)) ShortCdb
    ∷ rung (byte cdb (cdb_size code - 1) == 0) ControlSet
    ∷ []

abbrev pub decoded_by : Option Opcode → List ℕ → List ℕ → Result Order CommandError
decoded_by code cdb out = unless_refused (first_no (cdb_rungs code cdb)) (order_by code cdb out)

abbrev pub decoded : List ℕ → List ℕ → Result Order CommandError
decoded cdb out = decoded_by (opcode_of cdb) cdb out

-- what the code decodes, by what its references point to
abbrev pub seen : Result Command CommandError → Result Order CommandError
seen (Ok c) = Ok (order c)
seen (Err a) = Err a
