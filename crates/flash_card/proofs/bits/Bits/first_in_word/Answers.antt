use Rattle.std.proofs.Common.{◌<◌, length, arith, rules}
use Rattle.flash_card.proofs.Words.{word_within, none_in_word, in_word, found_in_word, found_past}
use Rattle.flash_card.proofs.bits.Bits.first_in_word.Goals as goal

pub index-requires : goal.index-requires
index-requires c =
    let b = c.self.inside in
    let l : c.args.start < length c.args.self.now = omega arith in
    omega (arith, word_within b.count b.words.items c.args.self.now c.args.start c.self.view_is c.self.invariant.room l, b.words.ok.0)

pub overflow_add-place : goal.overflow_add-place
overflow_add-place c =
    let b = c.self.inside in
    let low = in_word b.count b.words.items c.args.self.now c.args.start c.args.end c.index.result.now c.self.view_is c.self.invariant.room
    c.requires.some c.requires.within c.index.ensures (search rules) (omega arith) in
    omega arith

pub returns-then-rest-eq0 : goal.returns-then-rest-eq0
returns-then-rest-eq0 c =
    let b = c.self.inside in
    none_in_word b.count b.words.items c.args.self.now c.args.start c.args.end c.index.result.now c.self.view_is c.self.invariant.room
    c.requires.some c.requires.within c.index.ensures (search rules) c.if-rest-eq0.true

pub returns-then-place-end : goal.returns-then-place-end
returns-then-place-end c =
    let b = c.self.inside in
    found_in_word b.count b.words.items c.args.self.now c.args.start c.args.end c.index.result.now c.self.view_is c.self.invariant.room
    c.requires.some c.requires.within c.index.ensures (search rules) (omega arith) c.if-place-end.true

pub returns-else-place-end : goal.returns-else-place-end
returns-else-place-end c =
    let b = c.self.inside in
    found_past b.count b.words.items c.args.self.now c.args.start c.args.end c.index.result.now c.self.view_is c.self.invariant.room
    c.requires.some c.requires.within c.index.ensures (search rules) (omega arith) c.if-place-end.false
