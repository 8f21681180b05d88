-- The table cache: eight slots over the store below, and a hand that goes round.
use Rattle.std.specs.Prelude.{◌≡◌, ℕ, suc, ◌<◌, true, cond, length, replicate, Some, None, Ok, Option, nat_lt, slice_index_or, slice_set}
use Rattle.std.specs.Option.{option_map}
use Rattle.store.specs.Steps.{Content, Steps, Stepped, stepped, next}
use Rattle.store.specs.Sequence.{in_turn}
use Rattle.store.specs.Meaning.{Meaning}
use Rattle.cache.specs.declared.Entry.{Entry}
use Rattle.cache.specs.Entries.{sized}
use Rattle.cache.specs.Kinds.{CacheModel, CacheKind, holding, cache_steps, cache_meaning, CacheGood}
use Rattle.cache.specs.WriteBack.{write_back, raised}
use Rattle.slot_table.specs.Slots.{Slots, full, slot_of, place_for, Apart}

pub record Table : Type 0 where
  pub slots : Slots
  pub hand : ℕ

abbrev pub TableModel : Type 0 → Type 0
TableModel B = CacheModel Table B

abbrev pub empty_table : Table
empty_table = record { slots = replicate 8 None; hand = 0 }

-- what is true of every table
pub record TableFits (t : Table) : Type 0 where
  pub eight : length t.slots ≡ 8
  pub apart : Apart t.slots
  pub sized : sized (full t.slots) ≡ true
  pub hand : t.hand < 8

-- the hand moved on, from 7 to 0
abbrev pub turned : ℕ → ℕ
turned hand = cond (nat_lt hand 7) (suc hand) 0

-- the table with the slot at place i replaced
abbrev pub with_slot : Table → ℕ → Option Entry → Table
with_slot t i slot = record { slots = slice_set t.slots i slot; hand = t.hand }

-- the table with an entry at the hand, and the hand moved on
abbrev pub replaced : Table → Entry → Table
replaced t e = record { slots = slice_set t.slots t.hand (Some e); hand = turned t.hand }

-- the content in the block's slot
abbrev pub table_lookup : Table → ℕ → Option Content
table_lookup t b = option_map (λ (e : Entry). e.content) (slice_index_or t.slots (slot_of t.slots b) None)

-- the slot at place i is written back and emptied
abbrev pub evict : {B : Type 0} → Steps B → TableModel B → ℕ → Stepped (Unit {0}) (TableModel B)
evict steps t i = raised (holding (with_slot t.held i None)) (write_back steps t.below (slice_index_or t.held.slots i None))

-- so are the first n slots, in order
unfoldable pub evict_first : {B : Type 0} → Steps B → ℕ → TableModel B → Stepped (Unit {0}) (TableModel B)
evict_first steps n t = in_turn n (λ i u. evict steps u i) t

-- into the block's own slot, else the first empty one, else the slot at the hand, which is written back first
abbrev pub table_put : {B : Type 0} → Steps B → TableModel B → Entry → Stepped (Unit {0}) (TableModel B)
table_put steps t e =
    let place = place_for t.held.slots e.block in
    cond (nat_lt place (length t.held.slots))
    (stepped (Ok tt) (holding (with_slot t.held place (Some e)) t.below))
    (next (evict steps t t.held.hand) (λ _ u. stepped (Ok tt) (holding (replaced u.held e) u.below)))

abbrev pub table_kind : CacheKind
table_kind =
    record {
      Held = Table;
      empty = empty_table;
      entries = λ t. full t.slots;
      fits = TableFits;
      lookup = table_lookup;
      put = table_put;
      evict = λ steps t b. evict steps t (slot_of t.held.slots b);
      evict_all = λ steps t. evict_first steps 8 t;
    }

abbrev pub table_steps : {B : Type 0} → Steps B → Steps (TableModel B)
table_steps steps = cache_steps table_kind steps

abbrev pub table_meaning : {B : Type 0} → (B → Meaning) → TableModel B → Meaning
table_meaning meaning t = cache_meaning table_kind meaning t

abbrev pub TableGood : {B : Type 0} → (B → Type 0) → TableModel B → Type 0
TableGood good t = CacheGood table_kind good t
