use Rattle.std.proofs.Common.{rules}
use Rattle.flash_card.proofs.Grouped.{grouped_set}
use Rattle.flash_card.proofs.marks.Marks.set.Goals as goal

pub invariant_of-self : goal.invariant_of-self
invariant_of-self c =
    let s = c.args.self.now in
    search (rules, grouped_set s.marks s.words c.args.place s.grouped c.requires)
