use Rattle.std.proofs.Common.{List, [], map, nat_lt, drop, vec_items, ap, ◌∙◌, arith, rules}
use Rattle.session.specs.declared.Reply.{Reply}
use Rattle.session.specs.Sessions.{call_of}
use Rattle.piles.specs.Bottoms.{bottom_meaning, counted}
use Rattle.piles.specs.Orders.{bottom, under_caches}
use Rattle.book.specs.Rows.{row}
use Rattle.outcomes.specs.Found.{rows_after}
use Rattle.outcomes.specs.Views.{answer_of_reply}
use Rattle.outcomes.specs.LawRows.{law_rows}
use Rattle.outcomes.proofs.Blocks.{found_alike}
use Rattle.outcomes.proofs.LawRows.{rows_by_law}
use Rattle.outcomes.proofs.outcome.Outcome.of.Goals as goal

pub returns : goal.returns
returns c =
    let run = c.args.run in
    let calls = map call_of c.args.calls.now in
    let rows = λ (replies : List Reply). rows_after (λ _. []) (nat_lt 0 c.args.grant) calls (map answer_of_reply replies) in
    let alike = found_alike (λ b. ((bottom_meaning run.bottom).line b).first) in
    let blocks =
    c.in_ok-blocks.ensures
    ∙ alike (row (vec_items c.in_ok-book.book.rows)) (rows (vec_items run.replies)) (counted run.bottom)
    (λ b h. c.in_ok-book.ensures.1 b (omega (arith, h, c.count.ensures)) ∙ ap (λ (replies : List Reply). rows replies b) c.deref.ensures.value) in
    record {
      outcome = record { replies = search rules; totals = search rules; blocks = blocks };
      numbers = record {
        numbered =
            λ options w.
            let p = under_caches (vec_items options.caches) (bottom w.0) in
            blocks
            ∙ alike (rows (vec_items run.replies)) (λ b. drop 1 (law_rows p.steps p.meaning p.state calls b)) (counted run.bottom)
            (λ b h. rows_by_law options c.args.grant calls run w b);
      };
    }
