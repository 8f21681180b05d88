-- A loop that plays a list of calls.
use Rattle.std.proofs.Common.{◌≡◌, ℕ, ◌+◌, ◌<◌, ◌≤◌, List, [], ◌∷◌, ◌++◌, map, length, get_or, take, fold, sym, refl, ap, ◌∙◌, ap₂}
use Rattle.std.proofs.lemmas.List.{take_all, append-nil, append_assoc}
use Rattle.std.proofs.lemmas.List.Sums.{fold_more}
use Rattle.store.specs.Steps.{Steps}
use Rattle.store.specs.Meaning.{Meaning}
use Rattle.rbc_steps.specs.Module.{ModuleModel, Exchange, Reply}
use Rattle.rbc_steps.specs.Calls.{Call, called, event}
use Rattle.run_law.specs.Runs.{run, meaning_at}
use Rattle.session.specs.declared.Call.{Call as Given}
use Rattle.session.specs.declared.Call.TheVariants as given
use Rattle.session.specs.Sessions.{call_of, Told, told, told_of, Heard, left_by}

-- what was told so far, and the module that the calls left
pub record Progress (M : Type 0) : Type 0 where
  pub replies : List Told
  pub target : ModuleModel M

abbrev pub progress : {M : Type 0} → List Told → ModuleModel M → Progress M
progress xs w = record { replies = xs; target = w }

abbrev with_reply : {M : Type 0} → List Told → Reply (Exchange M) → Progress M
with_reply xs r = progress (xs ++ (told r.answer r.after.data_in ∷ [])) r.after.target

abbrev play_next : {M : Type 0} → Steps M → Progress M → Given → Progress M
play_next s p c = with_reply p.replies (called s p.target (call_of c))

abbrev pub played : {M : Type 0} → Steps M → List Given → Progress M → Progress M
played s cs p = fold (play_next s) p cs

pub played_more :
    {M : Type 0} (s : Steps M) (calls : List Given) (start : Progress M) (i : ℕ) {xs ys : List Told} {w w' : ModuleModel M} {t : Told} → i < length calls
    → progress xs w ≡ played s (take i calls) start → Heard s w (call_of (get_or calls i given.Reset)) t w'
    → ys ≡ xs ++ (t ∷ []) → progress ys w' ≡ played s (take (i + 1) calls) start
played_more s calls start i {xs} h p e q =
    ap₂ progress (q ∙ ap (λ (t : Told). xs ++ (t ∷ [])) e.reply) e.left
    ∙ ap (λ σ. play_next s σ (get_or calls i given.Reset)) p ∙ sym (fold_more (play_next s) start calls i given.Reset h)

module _ {M : Type 0} (s : Steps M) (meaning : M → Meaning) where
  played_run :
      (cs : List Given) (xs : List Told) (w : ModuleModel M)
      → played s cs (progress xs w) ≡ progress (xs ++ map told_of (run s meaning w (map call_of cs))) (left_by s w (map call_of cs))
  played_run [] xs w = ap (λ (ys : List Told). progress ys w) (sym (append-nil xs))
  played_run (c ∷ cs) xs w =
      let e = event s meaning w (call_of c) in
      let w' = (called s w (call_of c)).after.target in
      played_run cs (xs ++ (told_of e ∷ [])) w'
      ∙ ap (λ (ys : List Told). progress ys (left_by s w' (map call_of cs))) (append_assoc xs (told_of e ∷ []) (map told_of (run s meaning w' (map call_of cs))))

  pub played_all :
      (calls : List Given) (start : ModuleModel M) (i : ℕ) {xs : List Told} {w : ModuleModel M} → length calls ≤ i → progress xs w ≡ played s (take i calls) (progress [] start)
      → progress xs w ≡ progress (map told_of (run s meaning start (map call_of calls))) (left_by s start (map call_of calls))
  played_all calls start i h p = (rw (take_all i calls h) at p) ∙ played_run calls [] start

  -- the law's last time is the end
  pub ends : (w : ModuleModel M) (cs : List Call) → meaning (left_by s w cs).store ≡ meaning_at (meaning w.store) (run s meaning w cs) (length cs)
  ends w [] = refl
  ends w (c ∷ cs) = ends (called s w c).after.target cs
