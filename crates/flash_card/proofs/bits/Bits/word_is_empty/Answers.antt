use Rattle.std.proofs.Common.{arith, rules}
use Rattle.std.proofs.lemmas.Bool.{eqb-true, eqb-false}
use Rattle.flash_card.proofs.Words.{word_within, empty_word, some_in_word}
use Rattle.flash_card.proofs.bits.Bits.word_is_empty.Goals as goal

pub index-requires : goal.index-requires
index-requires c =
    let b = c.self.inside in
    omega (arith, word_within b.count b.words.items c.args.self.now c.args.place c.self.view_is c.self.invariant.room c.requires, b.words.ok.0)

pub returns-clause-empty : goal.returns-clause-empty
returns-clause-empty c empty =
    let b = c.self.inside in
    empty_word b.count b.words.items c.args.self.now c.args.place c.self.view_is c.self.invariant.room c.requires c.index.result.now c.index.ensures (eqb-true c.index.result.now 0 empty)

pub returns-clause-some : goal.returns-clause-some
returns-clause-some c some =
    let b = c.self.inside in
    some_in_word b.count b.words.items c.args.self.now c.args.place c.self.view_is c.self.invariant.room c.requires c.index.result.now c.index.ensures
    c.self.invariant (search rules) (eqb-false c.index.result.now 0 some)
