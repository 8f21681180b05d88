use Rattle.std.proofs.Common.{rules}
use Rattle.flash_card.proofs.Grouped.{grouped_clear, grouped_empty}
use Rattle.flash_card.proofs.marks.Marks.clear.Goals as goal

pub invariant_of-self : goal.invariant_of-self
invariant_of-self c =
    let s = c.args.self.now in
    search (rules, grouped_empty s.marks s.words c.args.place s.grouped)

pub invariant_of-self-else-word_is_empty : goal.invariant_of-self-else-word_is_empty
invariant_of-self-else-word_is_empty c =
    let s = c.args.self.now in
    search (rules, grouped_clear s.marks s.words c.args.place s.grouped)
