-- The caches of ORDER, one after another.
use Rattle.std.proofs.Common.{List, ◌++◌, Ok, Err, Result}
use Rattle.recorder_options.specs.Faults.{Fault}
use Rattle.recorder_options.specs.declared.kinds.CacheKind.{CacheKind}

-- the caches in front, before the others
abbrev pub with_front : List CacheKind → Result (List CacheKind) Fault → Result (List CacheKind) Fault
with_front front (Ok caches) = Ok (front ++ caches)
with_front front (Err f) = Err f
