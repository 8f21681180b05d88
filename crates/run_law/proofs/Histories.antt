-- The law over clean runs, call by call.
use Rattle.std.proofs.Common.{◌≡◌, ℕ, zero, suc, ◌+◌, ◌-◌, ◌*◌, ◌<◌, ◌≤◌, Bool, List, [], ◌∷◌, ◌++◌, length, take, drop, Some, Option, sym, refl, ap, ◌∙◌, subst, le_refl, arith}
use native.Mathlib.Decide.{dec_lt}
use Rattle.std.specs.List.{slice_get}
use Rattle.store.specs.Steps.{Content, Steps}
use Rattle.store.specs.Meaning.{Meaning, Line, sum_below, held}
use Rattle.store.specs.Keeps.{Keeps}
use Rattle.commands.specs.Order.{read, reserve, synchronize_cache}
use Rattle.rbc_steps.specs.Module.{ModuleModel, made_over}
use Rattle.rbc_steps.specs.Calls.{Request, Call, Command, Event, called, event, Good}
use Rattle.rbc_steps.specs.Writes.{Rows, entered, latest_of}
use Rattle.run_law.specs.Runs.{run, meaning_at}
use Rattle.run_law.specs.Book.{first_rows, rows_at, written}
use Rattle.run_law.specs.Law.{Frees, RunsSafely}
use Rattle.rbc_steps.proofs.Lines.{Picked, only}
use Rattle.rbc_steps.proofs.Stores.{Tracked}
use Rattle.rbc_steps.proofs.Turns.{Turn, turn}
use Rattle.run_law.proofs.Reservations.{stays_held, writes_nothing, reserves}

-- the law of a run that begins with rows that its lines are choices from
pub record Follows (n : ℕ) (rows : Rows) (m : Meaning) (t : Tracked n rows m) (events : List Event) : Type 0 where
  pub number : ℕ → ℕ → ℕ
  pub begins : (b : ℕ) → number zero b ≡ t.number b
  pub stands : (k b : ℕ) → b < n → slice_get (rows_at rows events k b) (number k b) ≡ Some ((meaning_at m events k).line b).first
  pub rises : (k b : ℕ) → b < n → number k b ≤ number (suc k) b
  pub synchronized :
      (k b : ℕ) (q : Request) (e : Event) → b < n → slice_get events k ≡ Some e → Good synchronize_cache q e
      → suc (number (suc k) b) ≡ length (rows_at rows events (suc k) b)
  pub shown :
      (k : ℕ) (relative : Bool) (a c : ℕ) (q : Request) (e : Event) → slice_get events k ≡ Some e → Good (read relative a c) q e
      → e.data_in ≡ latest_of (rows_at rows events k) a c ++ drop (512 * c) q.data_in
  pub falls : (k : ℕ) → (meaning_at m events k).grant ≤ m.grant
  pub stores : (k : ℕ) → (m.grant - (meaning_at m events k).grant) + held (meaning_at m events k) ≤ held m + written (take k events)

nowhere : {A : Type 0} {e : Event} (k : ℕ) → slice_get {X = Event} [] k ≡ Some e → A
nowhere k p = let z : ◌≡◌ {A = ℕ} 0 1 = cc in absurd (omega arith)

follows_none : (n : ℕ) (rows : Rows) (m : Meaning) (t : Tracked n rows m) → Follows n rows m t []
follows_none n rows m t =
    record {
      number = λ _. t.number;
      begins = λ b. refl;
      stands = stands;
      rises = λ k b h. le_refl (t.number b);
      synchronized = λ k b q e h p g. nowhere k p;
      shown = λ k r a c q e p g. nowhere k p;
      falls = falls;
      stores = paid;
    }
  where
    stands : (k b : ℕ) → b < n → slice_get (rows_at rows [] k b) (t.number b) ≡ Some ((meaning_at m [] k).line b).first
    stands zero b h = (t.tracks b h).stands
    stands (suc k) b h = (t.tracks b h).stands

    falls : (k : ℕ) → (meaning_at m [] k).grant ≤ m.grant
    falls zero = le_refl m.grant
    falls (suc k) = le_refl m.grant

    paid : (k : ℕ) → (m.grant - (meaning_at m [] k).grant) + held (meaning_at m [] k) ≤ held m + written (take k [])
    paid zero = omega arith
    paid (suc k) = omega arith

first_event : {e e' : Event} → ◌≡◌ {A = Option Event} (Some e) (Some e') → e ≡ e'
first_event p = cc

follows_more :
    {M : Type 0} {good : M → Type 0} (n : ℕ) (rows : Rows) (m : Meaning) (t : Tracked n rows m) (e : Event) (after : M) (es : List Event)
    (d : Turn good n rows m t e after) → Follows n (entered rows e) e.meaning d.carried.tracked es → Follows n rows m t (e ∷ es)
follows_more n rows m t e after es d f =
    record {
      number = number;
      begins = λ b. refl;
      stands = stands;
      rises = rises;
      synchronized = synchronized;
      shown = shown;
      falls = falls;
      stores = paid;
    }
  where
    number : ℕ → ℕ → ℕ
    number zero b = t.number b
    number (suc k) b = f.number k b

    stands : (k b : ℕ) → b < n → slice_get (rows_at rows (e ∷ es) k b) (number k b) ≡ Some ((meaning_at m (e ∷ es) k).line b).first
    stands zero b h = (t.tracks b h).stands
    stands (suc k) b h = f.stands k b h

    rises : (k b : ℕ) → b < n → number k b ≤ number (suc k) b
    rises zero b h = omega (arith, f.begins b, d.carried.rises b h)
    rises (suc k) b h = f.rises k b h

    synchronized :
        (k b : ℕ) (q : Request) (e' : Event) → b < n → slice_get (e ∷ es) k ≡ Some e' → Good synchronize_cache q e'
        → suc (number (suc k) b) ≡ length (rows_at rows (e ∷ es) (suc k) b)
    synchronized zero b q e' h p g = ap suc (f.begins b) ∙ d.synchronized q (subst (Good synchronize_cache q) (sym (first_event p)) g) b h
    synchronized (suc k) b q e' h p g = f.synchronized k b q e' h p g

    shown :
        (k : ℕ) (relative : Bool) (a c : ℕ) (q : Request) (e' : Event) → slice_get (e ∷ es) k ≡ Some e' → Good (read relative a c) q e'
        → e'.data_in ≡ latest_of (rows_at rows (e ∷ es) k) a c ++ drop (512 * c) q.data_in
    shown zero r a c q e' p g =
        ap (λ (x : Event). x.data_in) (sym (first_event p)) ∙ d.shown r a c q (subst (Good (read r a c) q) (sym (first_event p)) g)
    shown (suc k) r a c q e' p g = f.shown k r a c q e' p g

    falls : (k : ℕ) → (meaning_at m (e ∷ es) k).grant ≤ m.grant
    falls zero = le_refl m.grant
    falls (suc k) = omega (arith, f.falls k, d.carried.falls)

    paid : (k : ℕ) → (m.grant - (meaning_at m (e ∷ es) k).grant) + held (meaning_at m (e ∷ es) k) ≤ held m + written (take k (e ∷ es))
    paid zero = omega arith
    paid (suc k) = omega (arith, f.falls k, f.stores k, d.carried.falls, d.carried.stores)

begun : (m : Meaning) → ((b : ℕ) → b < m.count → (m.line b).later ≡ []) → Tracked m.count (first_rows m) m
begun m alone =
    record {
      number = λ b. 0;
      tracks =
          λ b h.
          record {
            stands = refl;
            picked = λ _. subst (λ (xs : List Content). Picked 0 ((m.line b).first ∷ []) ((m.line b).first ∷ xs)) (sym (alone b h)) only;
          };
    }

none_held : (n : ℕ) (line : ℕ → Line) → ((b : ℕ) → b < n → (line b).later ≡ []) → sum_below n (λ b. length (line b).later) ≡ 0
none_held zero line h = refl
none_held (suc n) line h =
    let i = none_held n line (λ b l. h b (omega arith)) in
    let j : length (line n).later ≡ 0 = ap length (h n (omega arith)) in
    omega arith

module _ {M : Type 0} (steps : Steps M) (meaning : M → Meaning) (good : M → Type 0) (K : Keeps steps meaning good) where
  follows :
      (n : ℕ) (calls : List Call) (s : ModuleModel M) (rows : Rows) (t : Tracked n rows (meaning s.store)) → good s.store → (meaning s.store).count ≡ n
      → Follows n rows (meaning s.store) t (run steps meaning s calls)
  follows n [] s rows t g i = follows_none n rows (meaning s.store) t
  follows n (c ∷ cs) s rows t g i =
      let d = turn steps meaning good K n rows s t g i c in
      follows_more n rows (meaning s.store) t (event steps meaning s c) (called steps s c).after.target.store (run steps meaning (called steps s c).after.target cs) d
      (follows n cs (called steps s c).after.target (entered rows (event steps meaning s c)) d.carried.tracked d.safe d.carried.count)

  -- while the reservation is held
  guarded :
      (calls : List Call) (s : ModuleModel M) (rows : Rows) (h : ℕ) → s.unit.holder ≡ Some h → (j : ℕ) (q : Request) (e : Event)
      → slice_get (run steps meaning s calls) j ≡ Some e
      → ((k : ℕ) (f : Event) → k < j → slice_get (run steps meaning s calls) k ≡ Some f → Frees h f → ⊥)
      → e.call ≡ Command q → (q.host ≡ h → ⊥)
      → (b : ℕ) → rows_at rows (run steps meaning s calls) (suc j) b ≡ rows_at rows (run steps meaning s calls) j b
  guarded [] s rows h i j q e p none c d b = nowhere j p
  guarded (c' ∷ cs) s rows h i zero q e p none c d b =
      let w : c' ≡ Command q = ap (λ (x : Event). x.call) (first_event p) ∙ c in
      subst (λ (x : Call). entered rows (event steps meaning s x) b ≡ rows b) (sym w) (writes_nothing steps meaning s h i rows q d b)
  guarded (c' ∷ cs) s rows h i (suc j) q e p none c d b =
      guarded cs (called steps s c').after.target (entered rows (event steps meaning s c')) h
      (stays_held steps meaning s h i c' (none zero (event steps meaning s c') (omega arith) refl)) j q e p
      (λ k f l. none (suc k) f (omega arith)) c d b

  reserved :
      (calls : List Call) (s : ModuleModel M) (rows : Rows) (i j : ℕ) (q q' : Request) (e e' : Event) → i < j
      → slice_get (run steps meaning s calls) i ≡ Some e → slice_get (run steps meaning s calls) j ≡ Some e' → Good reserve q e
      → ((k : ℕ) (f : Event) → i < k → k < j → slice_get (run steps meaning s calls) k ≡ Some f → Frees q.host f → ⊥)
      → e'.call ≡ Command q' → (q'.host ≡ q.host → ⊥)
      → (b : ℕ) → rows_at rows (run steps meaning s calls) (suc j) b ≡ rows_at rows (run steps meaning s calls) j b
  reserved [] s rows i j q q' e e' l p p' g none c d b = nowhere i p
  reserved (c' ∷ cs) s rows i zero q q' e e' l p p' g none c d b = absurd (omega arith)
  reserved (c' ∷ cs) s rows zero (suc j) q q' e e' l p p' g none c d b =
      guarded cs (called steps s c').after.target (entered rows (event steps meaning s c')) q.host
      (reserves steps meaning s c' q (subst (Good reserve q) (sym (first_event p)) g)) j q' e' p'
      (λ k f h. none (suc k) f (omega arith) (omega arith)) c d b
  reserved (c' ∷ cs) s rows (suc i) (suc j) q q' e e' l p p' g none c d b =
      reserved cs (called steps s c').after.target (entered rows (event steps meaning s c')) i j q q' e e' (omega arith) p p' g
      (λ k f h h'. none (suc k) f (omega arith) (omega arith)) c d b

  -- MAKE leaves each block one content
  made_alone : (s : M) → good s → (b : ℕ) → b < (meaning (steps.flush s).after).count → ((meaning (steps.flush s).after).line b).later ≡ []
  made_alone s g b h = go (dec_lt 0 (meaning (steps.flush s).after).grant) (dec_lt 0 (meaning s).grant)
    where
      go : Dec (0 < (meaning (steps.flush s).after).grant) → Dec (0 < (meaning s).grant) → ((meaning (steps.flush s).after).line b).later ≡ []
      go (no d) _ = (K.sound (steps.flush s).after (K.flush_good s g)).off (omega arith) b h
      go (yes l) (no d) = let x = ((K.flushes s g).off (omega arith)).1 in absurd (omega (arith, x.grant))
      go (yes l) (yes l') = let v = (K.flushes s g).on l' in v.cleans l b (omega (arith, v.count)) tt

  pub runs_safely : (s : M) → good s → RunsSafely steps meaning (made_over steps s)
  runs_safely s g calls =
      record {
        number_at = f.number;
        stands = f.stands;
        rises = f.rises;
        synchronized = f.synchronized;
        shown = f.shown;
        falls = f.falls;
        stores = λ k. omega (arith, f.stores k, none_held made.count made.line (made_alone s g));
        reserved = reserved calls (made_over steps s) (first_rows made);
      }
    where
      made : Meaning
      made = meaning (steps.flush s).after

      f : Follows (meaning (steps.flush s).after).count (first_rows (meaning (steps.flush s).after)) (meaning (steps.flush s).after) (begun (meaning (steps.flush s).after) (made_alone s g)) (run steps meaning (made_over steps s) calls)
      f = follows made.count calls (made_over steps s) (first_rows made) (begun made (made_alone s g)) (K.flush_good s g) refl
