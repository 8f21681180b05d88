use Rattle.std.proofs.Common.{◌∙◌, is_some, rules, tests}
use Rattle.std.proofs.lemmas.Iterator.{YieldsList-from_slice}
use Rattle.std.proofs.lemmas.Iterator.Consumers.{YieldsList-from_filter, count_from_yields_List}
use Rattle.slot_table.proofs.Slots.{full_count}
use Rattle.slot_table.proofs.SlotTable.count_full.Goals as goal

pub returns : goal.returns
returns c =
    let slots = c.args.self.now.slots.items in
    count_from_yields_List c.filter.result c.count.result c.count.ensures.ran
    (YieldsList-from_filter _ is_some (YieldsList-from_slice slots cc) c.filter.ensures.closure (λ x b q k. search (rules, tests)))
    ∙ full_count slots
