use Rattle.std.proofs.Common.{◌≡◌, ℕ, ◌+◌, Bool, length, vec_items, sym, ap, ◌∙◌, arith, rules}
use Rattle.std.proofs.lemmas.List.{length_push}
use Rattle.std.proofs.lemmas.Slice.Zip.{zip_turn, zip_end}
use Rattle.book.specs.Rows.{row}
use Rattle.outcomes.proofs.Entries.{rows_after_rest, rows_more, rows_end}
use Rattle.outcomes.proofs.outcome.book_of.Goals as goal

pub loop-call-preserved : goal.loop-call-preserved
loop-call-preserved c =
    let calls = c.args.calls.now in
    let replies = c.args.replies.now in
    let turn = zip_turn calls replies c.loop-call.yielded c.into_iter-call-iterator.result c.loop-call.call-iterator c.next.new.self c.next.result (search rules) (search rules) c.loop-call.yielded_by (c.in-Some.call, c.in-Some.reply) (search rules) (search rules) in
    let rows = row (vec_items c.loop-call.book.rows) in
    let rows' = row (vec_items c.enter.new.self.rows) in
    let call = c.in-Some.call.now in
    let reply = c.in-Some.reply.now in
    let i = length c.loop-call.yielded in
    let grown = c.in_ok-enter.ensures in
    let long : length (vec_items c.loop-call.book.rows) ≡ c.args.blocks = c.loop-call.invariant.0 in (
      grown.0 ∙ long,
      λ b h.
          ap (λ (n : ℕ). rows_after_rest rows' c.power_after-power.result calls replies n b) (length_push c.loop-call.yielded (c.in-Some.call, c.in-Some.reply))
          ∙ ap (λ (p : Bool). rows_after_rest rows' p calls replies (i + 1) b) c.power_after-power.ensures
          ∙ rows_more rows rows' c.loop-call.power calls replies i b call reply turn.0 turn.1 (turn.2 call) (turn.3 reply) (grown.1 b (omega (arith, long)))
          ∙ c.loop-call.invariant.1 b h,
    )

pub returns : goal.returns
returns c =
    let ended = zip_end c.args.calls.now c.args.replies.now c.loop-call.yielded c.into_iter-call-iterator.result c.loop-call.call-iterator c.next.new.self c.next.result (search rules) (search rules) c.loop-call.yielded_by (search rules) (search rules) in
    (c.loop-call.invariant.0, λ b h. sym (rows_end (row (vec_items c.loop-call.book.rows)) c.loop-call.power c.args.calls.now c.args.replies.now (length c.loop-call.yielded) b (omega (arith, ended))) ∙ c.loop-call.invariant.1 b h)
