use Rattle.std.proofs.Common.{rules}
use Rattle.flash_card.proofs.Grouped.{grouped_set}
use Rattle.flash_card.proofs.free_pages.FreePages.insert.Goals as goal

pub invariant_of-self : goal.invariant_of-self
invariant_of-self c =
    let s = c.args.self.now in
    search (rules, grouped_set s.pages s.words.marks c.args.page s.grouped c.requires)
