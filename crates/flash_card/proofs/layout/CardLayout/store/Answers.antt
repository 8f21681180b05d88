use Rattle.std.proofs.Common.{◌≡◌, ℕ, ◌+◌, ◌*◌, ◌/◌, ◌<◌, ◌≤◌, true, false, length, vec_items, set, ap, ◌∙◌, arith}
use Rattle.std.proofs.lemmas.Bool.{eqb-true}
use Rattle.flash_card.specs.declared.Card.{Card}
use Rattle.flash_card.specs.Card.{pages, free, free_page, round, disown_first, write_page}
use Rattle.flash_card.specs.CardKeeps.{free_free}
use Rattle.flash_card.specs.Modeled.{card_model}
use Rattle.flash_card.proofs.Putting.{first_written, single_written, put_bytes, put_tables, put_model}
use Rattle.flash_card.proofs.layout.CardLayout.store.Goals as goal

module _ (card : Card) (count : ℕ) (made : length (vec_items card.tables.shown) ≡ count) where
  hand : card.hand < pages (vec_items card.pages.memory)
  hand = let l = card.pages.memory.ok.0 in let w = card.within in omega arith

  -- the page that the tables give is free
  taken_free :
      (p : ℕ) → (count + 1) * 516 ≤ length (vec_items card.pages.memory)
      → p ≡ free_page (card_model card (length (vec_items card.tables.shown)) 0)
      → free (vec_items card.pages.memory) (length (vec_items card.tables.shown)) p ≡ true
  taken_free p room at =
      ap (free (vec_items card.pages.memory) (length (vec_items card.tables.shown))) at
      ∙ free_free (card_model card (length (vec_items card.tables.shown)) 0) (omega arith) hand

pub disown_others-requires-clause-first : goal.disown_others-requires-clause-first
disown_others-requires-clause-first c =
    let s = c.args.self.now in
    let l = s.pages.memory.ok.0 in
    let n : length s.tables.shown.items ≡ c.args._count = eqb-true _ _ c.requires.made in
    let p = c.free_page-page.result in
    first_written s.pages.memory.items c.args.block p c.args.content.now c.told-content (omega arith)
    c.write.new.self.memory.items c.write.ensures.items
    s.tables.shown.items s.tables.stale.items s.tables.free.pages s.entered (omega arith) (omega arith)
    (taken_free s c.args._count n p (omega arith) c.free_page-page.ensures.page)

pub disown_others-requires-clause-single : goal.disown_others-requires-clause-single
disown_others-requires-clause-single c =
    let s = c.args.self.now in
    let l = s.pages.memory.ok.0 in
    let n : length s.tables.shown.items ≡ c.args._count = eqb-true _ _ c.requires.made in
    let p = c.free_page-page.result in
    single_written s.pages.memory.items c.args.block p c.args.content.now c.told-content (omega arith)
    c.write.new.self.memory.items c.write.ensures.items
    s.tables.shown.items s.tables.stale.items s.tables.free.pages s.entered (omega arith) (omega arith)
    (taken_free s c.args._count n p (omega arith) c.free_page-page.ensures.page)

pub invariant_of-self-clause-entered : goal.invariant_of-self-clause-entered
invariant_of-self-clause-entered c =
    let s = c.args.self.now in
    let l = s.pages.memory.ok.0 in
    let n : length s.tables.shown.items ≡ c.args._count = eqb-true _ _ c.requires.made in
    let p = c.free_page-page.result in
    let given = c.disown_others.new.tables in
    let same = c.disown_others.ensures.free_len in
    put_tables s.pages.memory.items c.args.block p c.args.content.now c.told-content (omega arith)
    c.write.new.self.memory.items c.write.ensures.items
    s.tables.shown.items s.tables.stale.items s.tables.free.pages s.entered (omega arith) (omega arith)
    (taken_free s c.args._count n p (omega arith) c.free_page-page.ensures.page)
    c.disown_others.new.self.memory.items c.take.new.self.shown.items c.take.new.self.stale.items given.free.pages
    c.take.new.self.free.pages c.disown_others.ensures.items
    (c.take.ensures.shown ∙ ap (λ v. set v c.args.block p) c.disown_others.ensures.shown)
    (c.take.ensures.stale ∙ ap (λ v. set v c.args.block false) c.disown_others.ensures.stale)
    c.take.ensures.free (omega arith) c.disown_others.ensures.free

pub returns-clause-puts : goal.returns-clause-puts
returns-clause-puts c = λ grant.
    let s = c.args.self.now in
    let l = s.pages.memory.ok.0 in
    let n : length s.tables.shown.items ≡ c.args._count = eqb-true _ _ c.requires.made in
    let p = c.free_page-page.result in
    let bytes : c.disown_others.new.self.memory.items ≡ disown_first (write_page s.pages.memory.items p c.args.block c.args.content.now) c.args.block p (pages s.pages.memory.items) =
    put_bytes s.pages.memory.items c.args.block p c.args.content.now c.told-content (omega arith)
    c.write.new.self.memory.items c.write.ensures.items c.disown_others.new.self.memory.items c.disown_others.ensures.items in
    let size : length c.disown_others.new.self.memory.items ≡ length s.pages.memory.items =
    (let a = c.disown_others.ensures.len in let b = c.write.ensures.len in let d = c.disown_others.new.self.memory.ok.0 in omega arith) in
    let next : c.round-self.result ≡ round (pages s.pages.memory.items) (p + 1) =
    c.round-self.ensures.place ∙ ap (λ k. round k (p + 1)) (c.count.ensures ∙ ap (λ k. k / 516) size) in
    put_model (card_model s c.args._count grant) c.args.block c.args.content.now c.disown_others.new.self.memory.items p c.round-self.result
    (c.free_page-page.ensures.page ∙ ap (λ k. free_page (card_model s k 0)) n)
    bytes next
