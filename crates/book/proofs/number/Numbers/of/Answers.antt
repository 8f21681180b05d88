use Rattle.std.proofs.Common.{◌≡◌, ℕ, ◌+◌, Bool, Bor, List, [], map, get_or, take, cond, refl, sym, ap, ◌∙◌, subst, arith}
use Rattle.std.specs.Str.{bytes_eq}
use Rattle.std.proofs.lemmas.List.{take_all, length-map, get_or-map}
use Rattle.book.specs.Numbers.{newest_equal, Newest}
use Rattle.book.proofs.Newest.{newest_more, newest_is}
use Rattle.book.proofs.number.Numbers.of.Goals as goal
use Rattle.book.proofs.number.Numbers.of.Goals.{then-eq, else-eq}

abbrev content : Bor (List ℕ) → List ℕ
content x = x.now

pub loop-i-init : goal.loop-i-init
unfolding newest_equal
loop-i-init c = refl

pub loop-i-preserved : goal.loop-i-preserved
loop-i-preserved c =
    let x = c.args.found.now in
    let row = map content c.args.row.now in
    let i = c.loop-i.i in
    let more = newest_more x row i (omega (arith, length-map c.args.row.now content)) in
    let same : c.eq.result ≡ bytes_eq (get_or row i []) x =
    c.eq.ensures ∙ ap (λ (y : List ℕ). bytes_eq y x) (sym (get_or-map content c.args.row.now i (record { ref_ptr = (0, 0); now = [] }) [] c.loop-i-test.true)) in
    let choice = λ (v : Bool). cond v (i + 1) (newest_equal x (take i row)) in
    elim c.if-eq.branch [
      | then-eq w ↦ w.newest-is ∙ ap choice (sym w.if-eq.true ∙ same) ∙ sym more
      | else-eq w ↦ w.newest-is ∙ c.loop-i.invariant ∙ ap choice (sym w.if-eq.false ∙ same) ∙ sym more
    ]

pub returns-clause-newest : goal.returns-clause-newest
returns-clause-newest c =
    let x = c.args.found.now in
    let row = map content c.args.row.now in
    let all : c.loop-i.newest ≡ newest_equal x row = c.loop-i.invariant ∙ ap (newest_equal x) (take_all c.loop-i.i row (omega (arith, length-map c.args.row.now content))) in
    subst (Newest x row) (sym all) (newest_is x row)
