use Rattle.std.proofs.Common.{◌≡◌, ℕ, Bor, false, List, [], ◌∷◌, map, length, Ok, vec_items, sym, ap, ◌∙◌, arith, rules}
use Rattle.std.specs.Prelude.{◌==◌}
use Rattle.std.proofs.lemmas.List.{length-map, map-append}
use Rattle.store.specs.Meaning.{Meaning}
use Rattle.piles.specs.Bottoms.{bottom_meaning, granted, counted}
use Rattle.book.specs.Rows.{row}
use Rattle.outcomes.specs.Views.{found_view}
use Rattle.outcomes.proofs.Blocks.{found_next}
use Rattle.outcomes.proofs.block.FoundBlock.read_written.Goals as goal
use Rattle.outcomes.proofs.block.FoundBlock.read_written.Goals.{in-Ok+in_ok-push, in_default}

abbrev content : Bor (List ℕ) → List ℕ
content x = x.now

pub loop-block-preserved : goal.loop-block-preserved
loop-block-preserved c =
    let medium = bottom_meaning c.args.medium in
    let b = c.loop-block.block in
    let contents = map content c.row-row.result.now in
    let same : bottom_meaning c.loop-block.medium ≡ medium = c.loop-block.invariant.0 in
    let power : granted c.loop-block.medium ≡ granted c.args.medium = ap (λ (m : Meaning). m.grant) same in
    let count : counted c.loop-block.medium ≡ counted c.args.medium = ap (λ (m : Meaning). m.count) same in
    let read : c.read.result ≡ Ok (medium.line b).first =
    c.read.ensures.0 (omega (arith, power, c.requires)) (omega (arith, count, c.loop-block-test.true, c.count-block-end.ensures)) ∙ ap (λ (m : Meaning). Ok (m.line b).first) same in
    let long = length-map c.row-row.result.now content in
    let some : (length contents == 0) ≡ false = ap (λ (n : ℕ). n == 0) long ∙ sym c.is_empty.ensures ∙ c.if-is_empty.false in (
      c.read.ensures.1 ∙ same,
      elim c.match-read.branch [
        | in-Ok+in_ok-push w ↦
            let numbers = w.of-numbers.result in
            ap (λ v. map found_view (vec_items v)) w.found-is
            ∙ ap (map found_view) w.in_ok-push.ensures.items
            ∙ map-append found_view (vec_items c.loop-block.found) (record { block = b; content = w.in-Ok.content; numbers = numbers } ∷ [])
            ∙ found_next (λ x. (medium.line x).first) (row (vec_items c.args.book.now.rows)) b w.in-Ok.content contents numbers.found numbers.latest (map found_view (vec_items c.loop-block.found))
            (search (rules, sym w.in-Ok.is ∙ read)) c.row-row.ensures some w.of-numbers.ensures.found (w.of-numbers.ensures.latest ∙ sym long) c.loop-block.invariant.1
        | in_default w ↦ absurd (w.in_default.not-Ok (medium.line b).first read)
      ],
    )
