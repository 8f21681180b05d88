use Rattle.std.proofs.Common.{◌≡◌, ◌<◌, length, get_or, None, Option, ap, ◌∙◌, arith}
use Rattle.std.proofs.lemmas.List.{get_or_default}
use Rattle.store.specs.Steps.{stepped}
use Rattle.cache.specs.declared.Entry.{Entry}
use Rattle.cache.specs.Kinds.{holding}
use Rattle.cache.specs.WriteBack.{write_back, raised}
use Rattle.table_cache.specs.Table.{with_slot}
use Rattle.table_cache.specs.TableKeeps.{left_behind}
use Rattle.table_cache.specs.Modeled.{table_held}
use Rattle.table_cache.proofs.table.TableBuffer.evict_slot.Goals as goal

pub invariant_of-self : goal.invariant_of-self
invariant_of-self g c =
    let s = c.args.self.now in
    record { fits = rw c.take-entry.ensures.after (left_behind (table_held s) c.args.i s.fits).fits }

pub returns : goal.returns
returns g c =
    let s = c.args.self.now in
    let slots = s.table.slots.items in
    let l : c.args.i < length slots = omega (arith, s.table.slots.ok.0) in
    let t = table_held s in
    let v : c.take-entry.result ≡ get_or slots c.args.i None =
    c.take-entry.ensures.value ∙ c.slot.ensures.value ∙ get_or_default slots c.args.i c.slot.result.now None l in
    ap
    (λ (w : Option Entry).
    stepped c.write_back.result (holding (with_slot t c.args.i w) (g.S.Store.model c.write_back.new.below)))
    c.take-entry.ensures.after
    ∙ ap (raised (holding (with_slot t c.args.i None))) c.write_back.ensures
    ∙ ap (λ e. raised (holding (with_slot t c.args.i None)) (write_back g.S.Store.steps (g.S.Store.model c.args.below.now) e)) v
