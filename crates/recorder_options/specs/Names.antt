-- What each word names.
use Rattle.std.specs.Prelude.{ℕ, List, Option, Some, None, codes, if◌then◌else◌}
use Rattle.std.specs.Str.{bytes_eq}
use Rattle.recorder_options.specs.declared.kinds.Medium.{Medium}
use Rattle.recorder_options.specs.declared.kinds.Medium.TheVariants.{Flat, Card}
use Rattle.recorder_options.specs.declared.kinds.CacheKind.{CacheKind}
use Rattle.recorder_options.specs.declared.kinds.CacheKind.TheVariants.{Table, Queue}
use Rattle.recorder_options.specs.declared.kinds.Setting.TheVariants.{Blocks, Pages, Grant}
use Rattle.recorder_options.specs.declared.kinds.Name.{Name}
use Rattle.recorder_options.specs.declared.kinds.Name.TheVariants.{Number, Map, Serve}

abbrev pub medium_named : List ℕ → Option Medium
medium_named name =
    if bytes_eq name (codes "flat") then Some Flat
    else if bytes_eq name (codes "card") then Some Card
    else None

abbrev pub cache_named : List ℕ → Option CacheKind
cache_named name =
    if bytes_eq name (codes "table") then Some Table
    else if bytes_eq name (codes "queue") then Some Queue
    else None

abbrev pub option_named : List ℕ → Option Name
option_named name =
    if bytes_eq name (codes "--blocks") then Some (Number Blocks)
    else if bytes_eq name (codes "--pages") then Some (Number Pages)
    else if bytes_eq name (codes "--grant") then Some (Number Grant)
    else if bytes_eq name (codes "--map") then Some Map
    else if bytes_eq name (codes "--serve") then Some Serve
    else None
