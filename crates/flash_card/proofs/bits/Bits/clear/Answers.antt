use Rattle.std.proofs.Common.{arith}
use Rattle.flash_card.proofs.Words.{word_within, row_cleared, holds_cleared}
use Rattle.flash_card.proofs.bits.Bits.clear.Goals as goal

pub index_mut-requires : goal.index_mut-requires
index_mut-requires c =
    let b = c.self.inside in
    omega (arith, word_within b.count b.words.items c.args.self.now c.args.place c.self.view_is c.self.invariant.room c.requires, b.words.ok.0)

pub returns : goal.returns
returns c =
    let b = c.self.inside in
    row_cleared b.count b.words.items c.args.self.now c.args.place c.self.view_is c.self.invariant.room c.requires c.index_mut.result.now c.index_mut.ensures.value

pub invariant_of-self : goal.invariant_of-self
invariant_of-self c =
    let b = c.self.inside in
    holds_cleared b.count b.words.items c.args.self.now c.args.place c.self.view_is c.self.invariant.room c.requires c.index_mut.result.now c.index_mut.ensures.value
    c.self.invariant
