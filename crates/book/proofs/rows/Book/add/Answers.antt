use Rattle.std.proofs.Common.{◌≡◌, ◌<◌, Some, length, vec_items, refl, rules}
use Rattle.std.specs.List.{slice_get}
use Rattle.std.proofs.lemmas.List.{length-set}
use Rattle.std.proofs.lemmas.Option.{slice_get_read}
use Rattle.book.proofs.Lines.{row_set}
use Rattle.book.proofs.rows.Book.add.Goals as goal

pub returns-in_ok-push-in-Some : goal.returns-in_ok-push-in-Some
returns-in_ok-push-in-Some c =
    let rows = vec_items c.args.self.now.rows in
    let within : c.args.block < length rows = search rules in
    let stands : slice_get rows c.args.block ≡ Some c.in-Some.row.now = slice_get_read rows (length rows) c.args.block c.in-Some.row.now refl within c.in-Some.ensures.value in
    (length-set rows c.args.block c.push.new.self, λ b h. row_set rows c.args.block b c.in-Some.row.now c.push.new.self c.args.content within stands c.in_ok-push-in-Some.ensures.items)
