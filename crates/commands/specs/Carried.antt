-- The command that the code holds, by what its references point to.
use Rattle.commands.specs.declared.command.Command.{Command}
use Rattle.commands.specs.declared.command.Command.TheVariants as command
use Rattle.commands.specs.Codes.{power_code, control_code, prevent_code}
use Rattle.commands.specs.Order.{Order, test_unit_ready, inquiry, mode_select, reserve, release, mode_sense, start_stop, prevent_allow, read_capacity, read, write, verify, synchronize_cache}

abbrev pub order : Command → Order
order command.TestUnitReady = test_unit_ready
order (command.Inquiry v p a) = inquiry v p a
order (command.ModeSelect n l) = mode_select n l.now
order command.Reserve = reserve
order command.Release = release
order (command.ModeSense c p a) = mode_sense (control_code c) p a
order (command.StartStopUnit r) = start_stop (power_code r.condition) r.start r.load_eject
order (command.PreventAllow r) = prevent_allow (prevent_code r)
order command.ReadCapacity = read_capacity
order (command.Read r e) = read r e.address e.length
order (command.Write r u e d) = write r u e.address e.length d.now
order (command.Verify r e) = verify r e.address e.length
order command.SynchronizeCache = synchronize_cache
