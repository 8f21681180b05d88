-- The flash card's model, from its parts.
use Rattle.std.specs.Prelude.{ℕ, vec_items}
use Rattle.flash_card.specs.declared.Card.{Card}
use Rattle.flash_card.specs.Card.{CardModel}

abbrev pub card_model : Card → ℕ → ℕ → CardModel
card_model l count grant = record { bytes = vec_items l.pages.memory; count = count; grant = grant; hand = l.hand }
