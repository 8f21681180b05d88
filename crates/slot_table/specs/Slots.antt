-- The slots of a table: each is empty or holds an entry.
use Rattle.std.specs.Prelude.{ℕ, ◌≤◌, Bool, false, cond, List, [], ◌∷◌, length, is_none, Some, None, Option, ◌==◌, nat_lt}
use Rattle.std.specs.List.{position_or_len}
use Rattle.store.specs.Places.{if_below}
use Rattle.cache.specs.declared.Entry.{Entry}
use Rattle.cache.specs.Entries.{waiting}

abbrev pub Slots : Type 0
Slots = List (Option Entry)

-- the entries of the full slots, in order
abbrev pub full : Slots → List Entry
full [] = []
full (None ∷ slots) = full slots
full (Some e ∷ slots) = e ∷ full slots

-- place i, if the table has it
abbrev pub at_place : Slots → ℕ → Option ℕ
at_place slots i = if_below (length slots) i

abbrev pub has_block : ℕ → Option Entry → Bool
has_block b None = false
has_block b (Some e) = b == e.block

-- the place of block b's slot, or the number of slots
abbrev pub slot_of : Slots → ℕ → ℕ
slot_of slots b = position_or_len (has_block b) slots

-- the place of the first empty slot, or the number of slots
abbrev pub empty_slot : Slots → ℕ
empty_slot slots = position_or_len is_none slots

-- where a content for block b goes if no slot has to be written back: its own slot, else the first empty one
abbrev pub place_for : Slots → ℕ → ℕ
place_for slots b = cond (nat_lt (slot_of slots b) (length slots)) (slot_of slots b) (empty_slot slots)

-- no two slots hold one block
abbrev pub Apart : Slots → Type 0
Apart slots = (b : ℕ) → length (waiting (full slots) b) ≤ 1
