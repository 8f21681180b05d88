-- A host by its number, which is below 4.
use Rattle.std.specs.Prelude.{ℕ}
use Rattle.logical_unit.specs.declared.host.Host.{Host}

abbrev pub host_number : Host → ℕ
host_number host = host.number
