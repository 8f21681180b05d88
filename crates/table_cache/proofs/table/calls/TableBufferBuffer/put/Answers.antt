use Rattle.std.proofs.Common.{◌≡◌, ◌<◌, length, get_or, set, None, sym, ap, subst, arith}
use Rattle.store.specs.Steps.{Stepped}
use Rattle.table_cache.specs.Table.{TableModel}
use Rattle.table_cache.specs.TableKeeps.{came_in}
use Rattle.table_cache.specs.Modeled.{table_held}
use Rattle.slot_table.specs.Slots.{Slots, place_for}
use Rattle.store.proofs.Places.{below_some, below_none}
use Rattle.slot_table.proofs.Slots.{found, Ready, place_ready, emptied_ready, placeless}
use Rattle.table_cache.proofs.table.calls.TableBufferBuffer.put.Goals as goal

pub invariant_of-self : goal.invariant_of-self
invariant_of-self g c =
    let t = table_held c.args.self.now in
    let fits = c.args.self.now.fits in
    let e = c.args.entry in
    let i = c.in-Some.place in
    let at = below_some (length t.slots) i (place_for t.slots e.block) c.in-Some.ensures in
    let l : i < length t.slots = let a = at.0 in let b = at.1 in omega arith in
    record { fits = (came_in t i t.hand e fits fits.hand l (rw at.0 (place_ready t.slots e.block))).fits (omega arith) }

pub invariant_of-self-2 : goal.invariant_of-self-2
invariant_of-self-2 g c =
    let t = table_held c.args.self.now in
    let u = table_held c.evict_slot.new.self in
    let fits = c.evict_slot.new.self.fits in
    let e = c.args.entry in
    let p = below_none (length t.slots) (place_for t.slots e.block) c.in_default.ensures in
    let v : u.slots ≡ set t.slots t.hand None =
    ap (λ (q : Stepped (Unit {0}) (TableModel g.S.Store.Model)). q.after.held.slots) c.in_ok-evict_slot.ensures in
    let hand = c.args.self.now.fits.hand in
    let l : t.hand < length u.slots = let n = fits.eight in omega arith in
    let ready : Ready (found u.slots e.block) e.block (get_or u.slots t.hand None) =
    subst (λ (slots : Slots). Ready (found slots e.block) e.block (get_or slots t.hand None)) (sym v)
    (emptied_ready t.slots t.hand e.block c.args.self.now.fits.apart (placeless t.slots e.block p)) in
    record { fits = (came_in u t.hand _ e fits (omega arith) l ready).fits (omega arith) }
