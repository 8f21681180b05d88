-- ORDER: a medium, and the caches above it, joined by `+`.
use Rattle.std.specs.Prelude.{ℕ, List, [], ◌∷◌, length, nat_lt, if◌then◌else◌, Result, Ok, Err}
use Rattle.script.specs.Parts.{parts}
use Rattle.recorder_options.specs.Faults.{Fault, ended, too_many_caches, ◌>>=◌, meant}
use Rattle.recorder_options.specs.Names.{medium_named, cache_named}
use Rattle.recorder_options.specs.declared.kinds.Medium.{Medium}
use Rattle.recorder_options.specs.declared.kinds.CacheKind.{CacheKind}
use Rattle.recorder_options.specs.declared.error.Expected.TheVariants as expected
use Rattle.recorder_options.specs.declared.order.Order.{Order}

pub record Stack : Type 0 where
  pub medium : Medium
  -- from the bottom up
  pub caches : List CacheKind

abbrev pub stack : Order → Stack
stack order = record { medium = order.medium; caches = order.caches.items }

abbrev pub caches_of : List (List ℕ) → Result (List CacheKind) Fault
caches_of [] = Ok []
caches_of (name ∷ names) = do
  cache ← meant expected.Cache name (cache_named name)
  caches ← caches_of names
  Ok (cache ∷ caches)

abbrev pub at_most_three : List CacheKind → Result (List CacheKind) Fault
at_most_three caches = if nat_lt 3 (length caches) then Err too_many_caches else Ok caches

abbrev pub stack_of : List (List ℕ) → Result Stack Fault
stack_of [] = Err (ended expected.Order)
stack_of (name ∷ names) = do
  medium ← meant expected.Medium name (medium_named name)
  caches ← caches_of names >>= at_most_three
  Ok (record { medium = medium; caches = caches })

-- `+` is 43; a word has one part or more
abbrev pub order_of : List ℕ → Result Stack Fault
order_of word = stack_of (parts 43 word)
