use Rattle.std.proofs.Common.{◌+◌, sym, ap, ◌∙◌}
use Rattle.store.specs.Meaning.{held}
use Rattle.cache.proofs.Entries.{held_over}
use Rattle.cache.proofs.write_cache.Cache.pending.Goals as goal

pub returns-clause-held : goal.returns-clause-held
returns-clause-held g c w p =
    let s = c.args.self.now in
    let m = g.S.Store.meaning (g.S.Store.model s.below) in
    held_over m (g.B.Buffer.kind.entries (g.B.Buffer.model s.held)) w p ∙ ap (λ n. held m + n) (sym c.pending.ensures)
