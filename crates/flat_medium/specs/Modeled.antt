-- The flat medium's model, from its parts.
use Rattle.std.specs.Prelude.{ℕ, vec_items}
use Rattle.flat_medium.specs.declared.Flat.{Flat}
use Rattle.flat_medium.specs.Flat.{FlatModel}

abbrev pub flat_model : Flat → ℕ → ℕ → FlatModel
flat_model l count grant = record { bytes = vec_items l.memory; count = count; grant = grant }
