-- The search for a block's newest content, and the draining of a queue.
use Rattle.std.proofs.Common.{◌≡◌, ℕ, Bool, true, false, cond, eqb, List, [], ◌∷◌, ◌++◌, reverse, find, option_map, is_some, Some, None, Ok, Err, Option, sym, refl, ap, ◌∙◌}
use Rattle.std.specs.Borrow.{Bor}
use Rattle.std.specs.Option.{option_or, option_copied}
use Rattle.std.proofs.lemmas.List.{reverse-append}
use Rattle.std.proofs.lemmas.List.Folds.{find-append}
use Rattle.std.proofs.lemmas.Bool.{cond-true, cond-false, true≢false}
use Rattle.store.specs.Steps.{Content, Steps, Stepped, stepped, next}
use Rattle.cache.specs.declared.Entry.{Entry}
use Rattle.queue_cache.specs.Queue.{QueueModel, queued, latest, evict_oldest, drain, drained}

pub some_copied : {A : Type 0} (found : Option (Bor A)) → is_some found ≡ is_some (option_copied found)
some_copied None = refl
some_copied (Some x) = refl

abbrev pub of_block : ℕ → Entry → Bool
of_block b e = eqb b e.block

abbrev pub content_of : Option Entry → Option Content
content_of found = option_map (λ (e : Entry). e.content) found

latest_from : (es : List Entry) (b : ℕ) (found : Option Content) → latest found es b ≡ option_or (content_of (find (of_block b) (reverse es))) found
latest_from [] b found = refl
latest_from (e ∷ es) b found =
    latest_from es b (cond (eqb b e.block) (Some e.content) found)
    ∙ one (find (of_block b) (reverse es)) (eqb b e.block)
    ∙ sym (ap (λ f. option_or (content_of f) found) (ap (find (of_block b)) (reverse-append (e ∷ []) es) ∙ find-append (of_block b) (reverse es) (e ∷ [])))
  where
    one : (a : Option Entry) (t : Bool) → option_or (content_of a) (cond t (Some e.content) found) ≡ option_or (content_of (option_or a (cond t (Some e) None))) found
    one None true = refl
    one None false = refl
    one (Some f) t = refl

pub latest_find : (es : List Entry) (b : ℕ) → latest None es b ≡ content_of (find (of_block b) (reverse es))
latest_find es b = latest_from es b None ∙ same (content_of (find (of_block b) (reverse es)))
  where
    same : (a : Option Content) → option_or a None ≡ a
    same None = refl
    same (Some x) = refl

latest_on : (es fs : List Entry) (b : ℕ) (found : Option Content) → latest found (es ++ fs) b ≡ latest (latest found es b) fs b
latest_on [] fs b found = refl
latest_on (e ∷ es) fs b found = latest_on es fs b (cond (eqb b e.block) (Some e.content) found)

-- of a queue in two parts the second has the newer entries
pub latest_parted : (es older newer : List Entry) (b : ℕ) → older ++ newer ≡ es → latest None es b ≡ option_or (latest None newer b) (latest None older b)
latest_parted es older newer b parts =
    ap (λ (xs : List Entry). latest None xs b) (sym parts)
    ∙ latest_on older newer b None
    ∙ latest_from newer b (latest None older b)
    ∙ ap (λ (a : Option Content). option_or a (latest None older b)) (sym (latest_find newer b))

module _ {B : Type 0} (steps : Steps B) (wanted : List Entry → Bool) where
  pub drain_next :
      (es : List Entry) (s : B) (c : Stepped (Unit {0}) (QueueModel B)) → wanted [] ≡ false → wanted es ≡ true → c ≡ evict_oldest steps s es
      → drained steps wanted (queued es s) ≡ next c (λ _ u. drained steps wanted u)
  unfolding drain
  drain_next [] s c none w p = absurd (true≢false (sym w ∙ none))
  drain_next (e ∷ es) s c none w p =
      let d = evict_oldest steps s (e ∷ es) in
      let go : Unit {0} → QueueModel B → Stepped (Unit {0}) (QueueModel B) = λ _ u. drain steps wanted u.below es in
      cond-true (wanted (e ∷ es)) (next d go) (stepped (Ok tt) (queued (e ∷ es) s)) w
      ∙ elim d.answer as (λ a. next (stepped a d.after) go ≡ next (stepped a d.after) (λ _ u. drained steps wanted u)) [ Ok u ↦ refl | Err x ↦ refl ]
      ∙ ap (λ d. next d (λ _ u. drained steps wanted u)) (sym p)

  pub drain_done : (es : List Entry) (s : B) → wanted es ≡ false → drained steps wanted (queued es s) ≡ stepped (Ok tt) (queued es s)
  unfolding drain
  drain_done [] s w = refl
  drain_done (e ∷ es) s w =
      cond-false (wanted (e ∷ es)) (next (evict_oldest steps s (e ∷ es)) (λ _ u. drain steps wanted u.below es)) (stepped (Ok tt) (queued (e ∷ es) s)) w
