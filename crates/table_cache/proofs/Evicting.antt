-- There is nothing to evict past the slots.
use Rattle.std.proofs.Common.{◌≡◌, ℕ, ◌≤◌, length, None, Ok, ap, ◌∙◌}
use lib.ListN.{get_or-eq_default}
use Rattle.std.proofs.lemmas.List.{set_past}
use Rattle.store.specs.Steps.{Steps, stepped}
use Rattle.cache.specs.Kinds.{holding}
use Rattle.cache.specs.WriteBack.{write_back, raised}
use Rattle.table_cache.specs.Table.{TableModel, with_slot, evict}
use Rattle.slot_table.specs.Slots.{Slots}

pub evict_past : {B : Type 0} (steps : Steps B) (t : TableModel B) (i : ℕ) → length t.held.slots ≤ i → evict steps t i ≡ stepped (Ok tt) t
evict_past steps t i h =
    ap (λ slot. raised (holding (with_slot t.held i None)) (write_back steps t.below slot)) (get_or-eq_default t.held.slots None h)
    ∙ ap (λ (slots : Slots). stepped (Ok tt) (holding (record { slots = slots; hand = t.held.hand }) t.below)) (set_past t.held.slots i None h)
