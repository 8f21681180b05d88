use Rattle.std.proofs.Common.{◌≡◌, vec_len, sym, get_or, arith}
use Rattle.std.proofs.lemmas.List.{get_or_read_under}
use Rattle.flash_card.proofs.Entering.{entered_free, entered_first, entered_stale, further_first, further_stale}
use Rattle.flash_card.proofs.tables.Tables.enter.Goals as goal

pub returns-then-owner-len-clause-after : goal.returns-then-owner-len-clause-after
returns-then-owner-len-clause-after c =
    let t = c.args.self.now in
    rw c.insert.ensures
    (entered_free c.args.card.now.memory.items t.shown.items t.stale.items t.free.pages c.args.page c.owner-owner.result
    c.requires.before c.requires.inside (sym c.owner-owner.ensures) (omega arith))

pub returns-then-index-page-clause-after : goal.returns-then-index-page-clause-after
returns-then-index-page-clause-after c =
    let t = c.args.self.now in
    let read : c.index.result.now ≡ get_or t.shown.items c.owner-owner.result 0 =
    get_or_read_under t.shown.items c.owner-owner.result (vec_len t.shown) c.index.result.now 0 c.index.ensures (omega arith) (omega arith) in
    rw c.insert-then-index-page.ensures
    (entered_stale c.args.card.now.memory.items t.shown.items t.stale.items t.free.pages c.args.page c.owner-owner.result
    c.requires.before c.requires.inside (sym c.owner-owner.ensures) (omega arith) (omega arith))

pub returns-then-index-page-clause-further : goal.returns-then-index-page-clause-further
returns-then-index-page-clause-further c =
    let t = c.args.self.now in
    let read : c.index.result.now ≡ get_or t.shown.items c.owner-owner.result 0 =
    get_or_read_under t.shown.items c.owner-owner.result (vec_len t.shown) c.index.result.now 0 c.index.ensures (omega arith) (omega arith) in
    further_stale c.args.card.now.memory.items t.shown.items t.stale.items c.args.page c.owner-owner.result
    c.requires.further (sym c.owner-owner.ensures) (omega arith)

pub returns-else-index-page-clause-further : goal.returns-else-index-page-clause-further
returns-else-index-page-clause-further c =
    let t = c.args.self.now in
    let read : c.index.result.now ≡ get_or t.shown.items c.owner-owner.result 0 =
    get_or_read_under t.shown.items c.owner-owner.result (vec_len t.shown) c.index.result.now 0 c.index.ensures (omega arith) (omega arith) in
    further_first c.args.card.now.memory.items t.shown.items t.stale.items c.args.page c.owner-owner.result
    c.requires.further (omega arith)

pub returns-else-index-page-clause-after : goal.returns-else-index-page-clause-after
returns-else-index-page-clause-after c =
    let t = c.args.self.now in
    let read : c.index.result.now ≡ get_or t.shown.items c.owner-owner.result 0 =
    get_or_read_under t.shown.items c.owner-owner.result (vec_len t.shown) c.index.result.now 0 c.index.ensures (omega arith) (omega arith) in
    entered_first c.args.card.now.memory.items t.shown.items t.stale.items t.free.pages c.args.page c.owner-owner.result
    c.requires.before c.requires.inside (sym c.owner-owner.ensures) (omega arith) (omega arith) c.requires.later
