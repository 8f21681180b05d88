-- A cache's model, from that of what it holds and that of the store below.
use Rattle.cache.specs.declared.write_cache.Cache.{Cache}
use Rattle.cache.specs.Kinds.{CacheModel, holding}

abbrev pub cache_model : {S F B H : Type 0} → (F → H) → (S → B) → Cache S F → CacheModel H B
cache_model held model c = holding (held c.held) (model c.below)
