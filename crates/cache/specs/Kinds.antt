-- The kinds of cache: what one holds, how that is written back, and what the calls of a cache run.
use Rattle.std.specs.Prelude.{◌≡◌, ℕ, true, List, Some, None, Ok, Option}
use Rattle.store.specs.Steps.{Content, Steps, Stepped, stepped, next, guarding}
use Rattle.store.specs.Meaning.{Meaning}
use Rattle.cache.specs.declared.Entry.{Entry}
use Rattle.cache.specs.Entries.{waiting, over, within}
use Rattle.cache.specs.WriteBack.{raised}

-- a cache: the store below, and what is held above it
pub record CacheModel (H B : Type 0) : Type 0 where
  pub below : B
  pub held : H

-- what is held, over a state of the store below
abbrev pub holding : {H B : Type 0} → H → B → CacheModel H B
holding held s = record { below = s; held = held }

-- a kind of cache, the same over any store below
pub record CacheKind : Type 1 where
  pub Held : Type 0
  -- nothing held
  pub empty : Held
  -- the contents held; those of one block oldest first
  pub entries : Held → List Entry
  -- what is true of whatever is held
  pub fits : Held → Type 0
  -- the newest content held for a block
  pub lookup : Held → ℕ → Option Content
  -- an entry comes in
  pub put : {B : Type 0} → Steps B → CacheModel Held B → Entry → Stepped (Unit {0}) (CacheModel Held B)
  -- what is held for a block is written back
  pub evict : {B : Type 0} → Steps B → CacheModel Held B → ℕ → Stepped (Unit {0}) (CacheModel Held B)
  -- so is all that is held
  pub evict_all : {B : Type 0} → Steps B → CacheModel Held B → Stepped (Unit {0}) (CacheModel Held B)

module _ (kind : CacheKind) where
  -- what is held for the block, else the store below
  abbrev pub cache_read : {B : Type 0} → Steps B → CacheModel kind.Held B → ℕ → Stepped Content (CacheModel kind.Held B)
  cache_read steps c b =
      elim (kind.lookup c.held b) [
        | None ↦ raised (holding c.held) (steps.read c.below b)
        | Some x ↦ stepped (Ok x) c
      ]

  -- what is held for the block is written back, and the store below forced
  abbrev pub cache_force : {B : Type 0} → Steps B → CacheModel kind.Held B → ℕ → Stepped (Unit {0}) (CacheModel kind.Held B)
  cache_force steps c b = next (kind.evict steps c b) (λ _ u. raised (holding u.held) (steps.force u.below b))

  -- all that is held is written back, and the store below flushed
  abbrev pub cache_flush : {B : Type 0} → Steps B → CacheModel kind.Held B → Stepped (Unit {0}) (CacheModel kind.Held B)
  cache_flush steps c = next (kind.evict_all steps c) (λ _ u. raised (holding u.held) (steps.flush u.below))

  -- what the calls run once nothing refuses them
  abbrev pub cache_runs : {B : Type 0} → Steps B → Steps (CacheModel kind.Held B)
  cache_runs steps =
      record {
        count = λ c. steps.count c.below;
        power = λ c. steps.power c.below;
        read = cache_read steps;
        put = λ c b x. kind.put steps c (record { block = b; content = x });
        force = cache_force steps;
        flush = cache_flush steps;
      }

  abbrev pub cache_steps : {B : Type 0} → Steps B → Steps (CacheModel kind.Held B)
  cache_steps steps = guarding (cache_runs steps)

  abbrev pub cache_meaning : {B : Type 0} → (B → Meaning) → CacheModel kind.Held B → Meaning
  cache_meaning meaning c = over (meaning c.below) (waiting (kind.entries c.held))

  pub record CacheGood {B : Type 0} (good : B → Type 0) (c : CacheModel kind.Held B) : Type 0 where
    pub below : good c.below
    pub held : kind.fits c.held

  -- it holds only blocks below the count
  abbrev pub BlocksWithin : {B : Type 0} → (B → Meaning) → CacheModel kind.Held B → Type 0
  BlocksWithin meaning c = within (meaning c.below).count (kind.entries c.held) ≡ true
