-- Rows as calls are entered one by one.
use Rattle.std.proofs.Common.{◌≡◌, ℕ, zero, suc, ◌+◌, ◌<◌, ◌≤◌, min, Bool, List, [], ◌∷◌, ◌++◌, map, length, get_or, drop, refl, sym, ap, ap₂, ◌∙◌, arith}
use Rattle.std.specs.Prelude.{◌==◌, ◌&&◌, not}
use Rattle.std.proofs.lemmas.List.{drop_more}
use Rattle.sense.specs.Report.{Answer, number}
use Rattle.session.specs.declared.Call.{Call as Given}
use Rattle.session.specs.declared.Reply.{Reply}
use Rattle.session.specs.Sessions.{call_of}
use Rattle.rbc_steps.specs.Calls.{Call}
use Rattle.rbc_steps.specs.Writes.{Rows, added}
use Rattle.outcomes.specs.Found.{rows_after}
use Rattle.outcomes.specs.Views.{answer_of_reply}

-- block b's row follows from what it was before
rows_at : (cs : List Call) (answers : List Answer) (rows rows' : Rows) (power : Bool) (b : ℕ) → rows b ≡ rows' b → rows_after rows power cs answers b ≡ rows_after rows' power cs answers b
rows_at [] answers rows rows' power b e = e
rows_at (c ∷ cs) [] rows rows' power b e = e
rows_at (c ∷ cs) (a ∷ answers) rows rows' power b e = rows_at cs answers (λ x. rows x ++ added c a power x) (λ x. rows' x ++ added c a power x) (power && not (number a == 2)) b (ap (λ xs. xs ++ added c a power b) e)

abbrev pub rows_after_rest : Rows → Bool → List Given → List Reply → ℕ → Rows
rows_after_rest rows power calls replies i = rows_after rows power (map call_of (drop i calls)) (map answer_of_reply (drop i replies))

pub rows_more :
    (rows rows' : Rows) (power : Bool) (calls : List Given) (replies : List Reply) (i b : ℕ) (c : Given) (r : Reply) → i < length calls → i < length replies
    → c ≡ get_or calls i c → r ≡ get_or replies i r → rows' b ≡ rows b ++ added (call_of c) r.answer power b
    → rows_after_rest rows' (power && not (number r.answer == 2)) calls replies (i + 1) b ≡ rows_after_rest rows power calls replies i b
rows_more rows rows' power calls replies i b c r h k p q e =
    rows_at (map call_of (drop (i + 1) calls)) (map answer_of_reply (drop (i + 1) replies)) rows' (λ x. rows x ++ added (call_of c) r.answer power x) _ b e
    ∙ sym
    (ap₂ (λ (cs : List Given) (rs : List Reply). rows_after rows power (map call_of cs) (map answer_of_reply rs) b)
    (drop_more calls i c h ∙ ap (λ (x : Given). x ∷ drop (i + 1) calls) (sym p))
    (drop_more replies i r k ∙ ap (λ (x : Reply). x ∷ drop (i + 1) replies) (sym q)))

unanswered : (rows : Rows) (power : Bool) (cs : List Call) (b : ℕ) → rows_after rows power cs [] b ≡ rows b
unanswered rows power [] b = refl
unanswered rows power (c ∷ cs) b = refl

-- nothing is left of the calls or of the replies
pub rows_end : (rows : Rows) (power : Bool) (calls : List Given) (replies : List Reply) (i b : ℕ) → min (length calls) (length replies) ≤ i → rows_after_rest rows power calls replies i b ≡ rows b
rows_end rows power [] replies zero b h = refl
rows_end rows power [] replies (suc i) b h = refl
rows_end rows power (c ∷ calls) [] zero b h = refl
rows_end rows power (c ∷ calls) [] (suc i) b h = unanswered rows power (map call_of (drop i calls)) b
rows_end rows power (c ∷ calls) (r ∷ replies) zero b h = absurd (omega arith)
rows_end rows power (c ∷ calls) (r ∷ replies) (suc i) b h = rows_end rows power calls replies i b (omega arith)
