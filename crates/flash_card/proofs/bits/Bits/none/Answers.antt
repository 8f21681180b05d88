use Rattle.std.proofs.Common.{◌≡◌, ◌+◌, ◌/◌, ◌∙◌, replicate, ap, rules}
use Rattle.flash_card.specs.Bits.{row}
use Rattle.flash_card.proofs.Words.{row_none}
use Rattle.flash_card.proofs.bits.Bits.none.Goals as goal

pub returns : goal.returns
returns c =
    let zeros : c.in_ok-words.words.items ≡ replicate (c.args.count / 64 + 1) 0 = search rules in
    ap (row c.args.count) zeros ∙ row_none c.args.count (c.args.count / 64 + 1)
