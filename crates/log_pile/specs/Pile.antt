-- The cards that the pile of the log starts and ends with, and the pile when it is new.
use Rattle.std.specs.Prelude.{ℕ, [], replicate}
use Rattle.cache.specs.Kinds.{holding}
use Rattle.flash_card.specs.Card.{CardModel}
use Rattle.queue_cache.specs.Queue.{QueueModel, queued}
use Rattle.table_cache.specs.Table.{TableModel, empty_table}

-- no slot and no place is taken
abbrev pub empty_over : CardModel → TableModel (QueueModel CardModel)
empty_over card = holding empty_table (queued [] card)

-- a new card: sixteen pages of FFh bytes, and twelve blocks
abbrev pub erased : ℕ → CardModel
erased grant = record { bytes = replicate 8256 0xff; count = 12; grant = grant; hand = 0 }

-- the card at the next power-on, with one store granted
abbrev pub reopened : CardModel → CardModel
reopened card = record { bytes = card.bytes; count = card.count; grant = 1; hand = 0 }
