use Rattle.std.proofs.Common.{refl, ◌∙◌, arith}
use Rattle.flash_card.proofs.GivenUp.{given_up_none, given_up_more}
use Rattle.flash_card.proofs.pages.Pages.disown_each.Goals as goal

pub loop-page-init : goal.loop-page-init
loop-page-init c =
    (refl, given_up_none c.args.self.now.memory.items c.args.block c.args.taken c.args.free.now.pages)

pub loop-page-preserved : goal.loop-page-preserved
loop-page-preserved c =
    let l = c.args.self.now.memory.ok.0 in (
      c.disown_page.ensures.len ∙ c.loop-page.invariant.0,
      rw (c.disown_page.ensures.items, c.disown_page.ensures.free)
          (given_up_more c.args.self.now.memory.items c.loop-page.self.memory.items c.args.block c.args.taken c.loop-page.page
          c.args.free.now.pages c.loop-page.free.pages c.loop-page.invariant.1 (omega arith) (omega arith)),
    )
