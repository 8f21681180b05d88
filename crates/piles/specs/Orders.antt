-- Orders: which caches stand over a medium, and the pile that they make.
use Rattle.std.specs.Prelude.{◌≡◌, ℕ, List, [], ◌∷◌, length}
use Rattle.store.specs.Steps.{Steps}
use Rattle.store.specs.Meaning.{Meaning}
use Rattle.medium.specs.Medium.{medium_steps, medium_meaning}
use Rattle.flat_medium.specs.Flat.{flat}
use Rattle.flat_medium.specs.Modeled.{flat_model}
use Rattle.flash_card.specs.Card.{card}
use Rattle.flash_card.specs.Modeled.{card_model}
use Rattle.cache.specs.Kinds.{CacheKind, CacheModel, holding, cache_steps, cache_meaning}
use Rattle.table_cache.specs.Table.{table_kind}
use Rattle.queue_cache.specs.Queue.{queue_kind}
use Rattle.piles.specs.Bottoms.{sum_up}
use Rattle.piles.specs.declared.bottom.Bottom.{Bottom}
use Rattle.piles.specs.declared.bottom.Bottom.TheVariants.{Flat, Card}
use Rattle.recorder_options.specs.declared.kinds.CacheKind.{CacheKind as Kind}
use Rattle.recorder_options.specs.declared.kinds.CacheKind.TheVariants.{Table, Queue}

-- a pile by its steps, its meaning and how many contents its caches hold, and the state that it starts in
pub record Start : Type 1 where
  pub Model : Type 0
  pub steps : Steps Model
  pub meaning : Model → Meaning
  pub held : Model → ℕ
  pub state : Model

abbrev pub start : {M : Type 0} → Steps M → (M → Meaning) → (M → ℕ) → M → Start
start {M = M} steps meaning held state = record { Model = M; steps = steps; meaning = meaning; held = held; state = state }

-- how many contents a cache holds, together with the caches below it
abbrev pub held_over : (kind : CacheKind) {B : Type 0} → (B → ℕ) → CacheModel kind.Held B → ℕ
held_over kind held c = sum_up (length (kind.entries c.held)) (held c.below)

-- of every pile with this model, the state says so how many contents the caches hold
abbrev pub CountsHeld : {S M : Type 0} → (S → M) → (S → ℕ) → (M → ℕ) → Type 0
CountsHeld {S = S} model pending held = (pile : S) → pending pile ≡ held (model pile)

-- an empty cache over it
abbrev pub under_cache : CacheKind → Start → Start
under_cache kind below =
    start (cache_steps kind below.steps) (cache_meaning kind below.meaning) (held_over kind below.held) (holding kind.empty below.state)

-- empty caches, from the bottom up
abbrev pub under_caches : List Kind → Start → Start
under_caches [] below = below
under_caches (Table ∷ caches) below = under_caches caches (under_cache table_kind below)
under_caches (Queue ∷ caches) below = under_caches caches (under_cache queue_kind below)

abbrev pub bottom : Bottom → Start
bottom (Flat m) = start (medium_steps flat) (medium_meaning flat) (λ _. 0) (flat_model m.layout m.count m.grant)
bottom (Card c) = start (medium_steps card) (medium_meaning card) (λ _. 0) (card_model c.layout c.count c.grant)
