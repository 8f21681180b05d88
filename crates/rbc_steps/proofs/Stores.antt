-- How the calls of a store carry the book's rows along.
use Rattle.std.proofs.Common.{◌≡◌, ℕ, zero, suc, ◌+◌, ◌-◌, ◌*◌, ◌<◌, ◌≤◌, Bool, true, false, cond, eqb, List, [], ◌∷◌, ◌++◌, length, get_or, drop, Some, Ok, Err, sym, refl, ap, ◌∙◌, subst, arith}
use mathlib.Core.Path.{fun_ext}
use native.Mathlib.Decide.{dec_lt}
use Rattle.std.proofs.lemmas.List.{append-nil, append_assoc, length-take, length-drop, length-append, take_at, drop_at, drop-drop}
use Rattle.std.specs.List.{slice_get}
use Rattle.store.specs.declared.StoreError.{StoreError}
use Rattle.store.specs.Steps.{Content, Steps, Stepped, stepped, next, Answer}
use Rattle.store.specs.Sequence.{in_turn}
use Rattle.store.specs.Meaning.{Meaning, Line, contents, newest, extended, last_of, Sized, held, Thins, Survives, Same}
use Rattle.store.specs.Keeps.{Keeps, Moves}
use Rattle.store.proofs.Answers.{good_answer, lost_answer}
use Rattle.store.proofs.Guards.{same_refl}
use Rattle.store.proofs.Moving.{held_same}
use Rattle.store.specs.Bytes.{placed}
use Rattle.transfer.specs.Transfer.{Buffered, buffered, put_forced, fetched, read_blocks, verify_block, verify_blocks}
use Rattle.rbc_steps.specs.Writes.{Rows, latest, latest_of, piece}
use Rattle.rbc_steps.proofs.Growth.{noted, noted_more, grown, grown_step, grown_none}
use Rattle.rbc_steps.proofs.Lines.{Picked, picked_stands, picked_latest, picked_more, picked_alone, picked_again, picked_of, picked_among, nth_more}

-- the content on the medium has number k in its row; with power, the line is a choice from its row that has the last
pub record Tracks (k : ℕ) (row : List Content) (l : Line) (grant : ℕ) : Type 0 where
  pub stands : slice_get row k ≡ Some l.first
  pub picked : 0 < grant → Picked k row (contents l)

pub record Tracked (n : ℕ) (rows : Rows) (m : Meaning) : Type 0 where
  pub number : ℕ → ℕ
  pub tracks : (b : ℕ) → b < n → Tracks (number b) (rows b) (m.line b) m.grant

-- from one meaning and its rows to others, with `puts` blocks written
pub record Carried (n : ℕ) (rows : Rows) (m : Meaning) (t : Tracked n rows m) (rows' : Rows) (m' : Meaning) (puts : ℕ) : Type 0 where
  pub count : m'.count ≡ n
  pub falls : m'.grant ≤ m.grant
  pub stores : (m.grant - m'.grant) + held m' ≤ held m + puts
  pub tracked : Tracked n rows' m'
  pub rises : (b : ℕ) → b < n → t.number b ≤ tracked.number b

pub shows : {k grant : ℕ} {row : List Content} {l : Line} → Tracks k row l grant → 0 < grant → latest row ≡ newest l
shows t h = picked_latest (t.picked h)

pub last_alone : {k grant : ℕ} {row : List Content} (l : Line) → Tracks k row l grant → 0 < grant → l.later ≡ [] → suc k ≡ length row
last_alone {k} {row} l t h e = picked_alone (subst (λ (ys : List Content). Picked k row (l.first ∷ ys)) e (t.picked h))

pub carried_same : {n : ℕ} {rows : Rows} {m m' : Meaning} (t : Tracked n rows m) → m.count ≡ n → Same m m' → Carried n rows m t rows m' 0
carried_same {n} {rows} {m} {m'} t c s =
    record {
      count = s.count ∙ c;
      falls = omega (arith, s.grant);
      stores = omega (arith, s.grant, held_same m m' s);
      tracked = record { number = t.number; tracks = λ b h. moved b (t.tracks b h) (s.line b (omega arith)) };
      rises = λ b h. omega arith;
    }
  where
    moved : {k : ℕ} (b : ℕ) → Tracks k (rows b) (m.line b) m.grant → m'.line b ≡ m.line b → Tracks k (rows b) (m'.line b) m'.grant
    moved {k} b t e =
        record {
          stands = t.stands ∙ ap (λ (l : Line). Some l.first) (sym e);
          picked = λ h. subst (λ (l : Line). Picked k (rows b) (contents l)) (sym e) (t.picked (omega (arith, s.grant)));
        }

same_then : {m m₁ m₂ : Meaning} → Same m m₁ → Same m₁ m₂ → Same m m₂
same_then s t = record { count = t.count ∙ s.count; grant = t.grant ∙ s.grant; line = λ b h. t.line b (omega (arith, s.count)) ∙ s.line b h }

choose : (n : ℕ) (P : ℕ → ℕ → Type 0) → ((b : ℕ) → b < n → (k : ℕ) × P b k) → (f : ℕ → ℕ) × ((b : ℕ) → b < n → P b (f b))
choose n P h = (λ b. pick b (dec_lt b n), λ b l. fits b (dec_lt b n) l)
  where
    pick : (b : ℕ) → Dec (b < n) → ℕ
    pick b (yes l) = (h b l).0
    pick b (no _) = 0

    fits : (b : ℕ) (d : Dec (b < n)) → b < n → P b (pick b d)
    fits b (yes l) _ = (h b l).1
    fits b (no r) l = absurd (r l)

-- a choice from a row of which the line is no further back than it was
Chosen : ℕ → List Content → Line → Type 0
Chosen low row l = (k : ℕ) × (low ≤ k) × Picked k row (contents l)

after_thinning : {low : ℕ} {row : List Content} {l l' : Line} (grant : ℕ) → Chosen low row l → Thins l l' → (k : ℕ) × ((low ≤ k) × Tracks k row l' grant)
unfolding Chosen
after_thinning grant p s =
    let r = picked_of s.thinned s.shown in
    let r' = picked_again p.2 r.1 in
    (r'.0, (omega (arith, p.1, r'.1), record { stands = picked_stands r'.2; picked = λ _. r'.2 }))

after_cut : {low : ℕ} {row : List Content} {l l' : Line} (grant : ℕ) → grant ≡ 0 → Chosen low row l → Survives l l' → (k : ℕ) × ((low ≤ k) × Tracks k row l' grant)
unfolding Chosen
after_cut grant e p s =
    let r = picked_among p.2 s.among in
    (r.0, (omega (arith, p.1, r.1), record { stands = r.2; picked = λ h. absurd (omega arith) }))

pub carried_moves :
    {n : ℕ} {rows rows' : Rows} {m m' : Meaning} {line : ℕ → Line} {puts : ℕ} {clean : ℕ → Type 0} {r : Answer (Unit {0})} (t : Tracked n rows m)
    → m.count ≡ n → ((b : ℕ) → b < n → (k : ℕ) × (t.number b ≤ k) × Picked k (rows' b) (contents (line b)))
    → Moves m line puts clean r m' → Carried n rows m t rows' m' puts
unfolding Chosen
carried_moves {n} {rows} {rows'} {m} {m'} {line} t c p v =
    record {
      count = v.count ∙ c;
      falls = v.falls;
      stores = v.stores;
      tracked = record { number = all.0; tracks = λ b h. (all.1 b h).1 };
      rises = λ b h. (all.1 b h).0;
    }
  where
    one : (b : ℕ) → b < n → Dec (0 < m'.grant) → (k : ℕ) × ((t.number b ≤ k) × Tracks k (rows' b) (m'.line b) m'.grant)
    one b h (yes l) = after_thinning m'.grant (p b h) (v.thins l b (omega arith))
    one b h (no d) = let e : m'.grant ≡ 0 = omega arith in after_cut m'.grant e (p b h) (v.survives e b (omega arith))

    all : (f : ℕ → ℕ) × ((b : ℕ) → b < n → (t.number b ≤ f b) × Tracks (f b) (rows' b) (m'.line b) m'.grant)
    all = choose n (λ b k. (t.number b ≤ k) × Tracks k (rows' b) (m'.line b) m'.grant) (λ b h. one b h (dec_lt 0 m'.grant))

pub carried_on :
    {n : ℕ} {rows rows' rows'' : Rows} {m m' m'' : Meaning} {puts puts' : ℕ} {t : Tracked n rows m}
    (c : Carried n rows m t rows' m' puts) → Carried n rows' m' c.tracked rows'' m'' puts' → Carried n rows m t rows'' m'' (puts + puts')
carried_on c d =
    record {
      count = d.count;
      falls = omega (arith, c.falls, d.falls);
      stores = omega (arith, c.falls, d.falls, c.stores, d.stores);
      tracked = d.tracked;
      rises = λ b h. omega (arith, c.rises b h, d.rises b h);
    }

pub carried_along :
    {n : ℕ} {rows rows' rows'' : Rows} {m m' : Meaning} {puts : ℕ} {t : Tracked n rows m} (puts' : ℕ)
    → ((b : ℕ) → rows' b ≡ rows'' b) → puts ≤ puts' → Carried n rows m t rows' m' puts → Carried n rows m t rows'' m' puts'
carried_along {n} {rows} {m} {m'} {puts} {t} puts' e h c =
    let d = subst (λ (x : Rows). Carried n rows m t x m' puts) (fun_ext e) c in
    record { count = d.count; falls = d.falls; stores = omega (arith, d.stores); tracked = d.tracked; rises = d.rises }

-- without power a row may grow past what the medium will ever hold
carried_off :
    {n : ℕ} {rows rows' : Rows} {m m' : Meaning} {puts : ℕ} {t : Tracked n rows m} (rows'' : Rows) (puts' : ℕ) → m'.grant ≡ 0
    → ((b : ℕ) → (more : List Content) × (rows'' b ≡ rows' b ++ more)) → Carried n rows m t rows' m' puts → Carried n rows m t rows'' m' (puts + puts')
carried_off {rows'} {m'} rows'' puts' e grows c =
    record {
      count = c.count;
      falls = c.falls;
      stores = omega (arith, c.stores);
      tracked =
          record {
            number = c.tracked.number;
            tracks =
                λ b h.
                record {
                  stands =
                      ap (λ (row : List Content). slice_get row (c.tracked.number b)) (grows b).1
                      ∙ nth_more (rows' b) (grows b).0 (c.tracked.number b) (c.tracked.tracks b h).stands;
                  picked = λ l. absurd (omega arith);
                };
          };
      rises = c.rises;
    }

-- a run of store calls, and how it ended
pub record Ran {A M : Type 0} (meaning : M → Meaning) (good : M → Type 0) (n : ℕ) (rows : Rows) (m : Meaning) (t : Tracked n rows m) (rows' : Rows) (puts : ℕ) (r : Stepped A M) : Type 0 where
  pub safe : good r.after
  pub carried : Carried n rows m t rows' (meaning r.after) puts
  pub on : (a : A) → r.answer ≡ Ok a → 0 < (meaning r.after).grant
  pub lost : (e : StoreError) → r.answer ≡ Err e → (meaning r.after).grant ≡ 0

pub ran_then :
    {A B M : Type 0} {meaning : M → Meaning} {good : M → Type 0} {n : ℕ} {rows : Rows} {m : Meaning} {t : Tracked n rows m} {rows' : Rows} {puts : ℕ}
    (rows'' : Rows) (puts' : ℕ) (r : Stepped A M) (f : A → M → Stepped B M)
    → ((b : ℕ) → (more : List Content) × (rows'' b ≡ rows' b ++ more))
    → (d : Ran meaning good n rows m t rows' puts r)
    → ((a : A) → r.answer ≡ Ok a → Ran meaning good n rows' (meaning r.after) d.carried.tracked rows'' puts' (f a r.after))
    → Ran meaning good n rows m t rows'' (puts + puts') (next r f)
ran_then {A} {B} {M} {meaning} {good} {n} {rows} {m} {t} {rows'} {puts} rows'' puts' r f grows = go r.answer
  where
    go :
        (o : Answer A) (d : Ran meaning good n rows m t rows' puts (stepped o r.after))
        → ((a : A) → o ≡ Ok a → Ran meaning good n rows' (meaning r.after) d.carried.tracked rows'' puts' (f a r.after))
        → Ran meaning good n rows m t rows'' (puts + puts') (next (stepped o r.after) f)
    go (Ok a) d next =
        let d' = next a refl in record { safe = d'.safe; carried = carried_on d.carried d'.carried; on = d'.on; lost = d'.lost }
    go (Err e) d next =
        record {
          safe = d.safe;
          carried = carried_off rows'' puts' (d.lost e refl) grows d.carried;
          on = λ a p. let z : ◌≡◌ {A = ℕ} 0 1 = cc in absurd (omega arith);
          lost = λ e' p. d.lost e refl;
        }

pub ran_along :
    {A M : Type 0} {meaning : M → Meaning} {good : M → Type 0} {n : ℕ} {rows : Rows} {m : Meaning} {t : Tracked n rows m} {rows' rows'' : Rows} {puts puts' : ℕ} {r : Stepped A M}
    → ((b : ℕ) → rows' b ≡ rows'' b) → puts ≡ puts' → Ran meaning good n rows m t rows' puts r → Ran meaning good n rows m t rows'' puts' r
ran_along {meaning} {good} {n} {rows} {m} {t} {rows''} {puts} {r} e e' d =
    subst (λ (k : ℕ). Ran meaning good n rows m t rows'' k r) e'
    (subst (λ (x : Rows). Ran meaning good n rows m t x puts r) (fun_ext e) d)

pub stays : (rows : Rows) (b : ℕ) → (more : List Content) × (rows b ≡ rows b ++ more)
stays rows b = ([], sym (append-nil (rows b)))

-- a good state with power, of a store with n blocks
pub record Live {M : Type 0} (meaning : M → Meaning) (good : M → Type 0) (n : ℕ) (s : M) : Type 0 where
  pub safe : good s
  pub count : (meaning s).count ≡ n
  pub on : 0 < (meaning s).grant

pub live_after :
    {A M : Type 0} {meaning : M → Meaning} {good : M → Type 0} {n : ℕ} {rows : Rows} {m : Meaning} {t : Tracked n rows m} {rows' : Rows} {puts : ℕ} {r : Stepped A M} (a : A)
    → r.answer ≡ Ok a → Ran meaning good n rows m t rows' puts r → Live meaning good n r.after
live_after a e d = record { safe = d.safe; count = d.carried.count; on = d.on a e }

next_ok : {A B M : Type 0} (r : Stepped A M) (f : A → M → Stepped B M) (a : A) → r.answer ≡ Ok a → next r f ≡ f a r.after
next_ok {A} r f a e = ap (λ (o : Answer A). next (stepped o r.after) f) e

last_sized : (x : Content) (xs : List Content) → Sized (x ∷ xs) → length (last_of x xs) ≡ 512
last_sized x [] h = h.0
last_sized x (y ∷ ys) h = last_sized y ys h.1

-- a call that answers a and changes nothing
pub ran_still :
    {A M : Type 0} {meaning : M → Meaning} {good : M → Type 0} {n : ℕ} {rows : Rows} {m : Meaning} (t : Tracked n rows m) (r : Stepped A M) (a : A)
    → m.count ≡ n → 0 < m.grant → good r.after → r.answer ≡ Ok a → Same m (meaning r.after) → Ran meaning good n rows m t rows 0 r
ran_still t r a c lit g e same =
    record {
      safe = g;
      carried = carried_same t c same;
      on = λ _ _. omega (arith, lit, same.grant);
      lost = λ e' p. let z : ◌≡◌ {A = ℕ} 0 1 = cc in absurd (omega arith);
    }

-- the bytes of one more block, after those that stand at the front
placed_more :
    (k : ℕ) (front x d : List ℕ) → length front ≡ 512 * k → length x ≡ 512
    → placed (front ++ drop (512 * k) d) (512 * k) x ≡ (front ++ x) ++ drop (512 * suc k) d
placed_more k front x d f e =
    let rest = drop (512 * k) d in
    let end : 512 * k + length x ≡ 512 * k + 512 = omega (arith, e) in
    let more : 512 * k + 512 ≡ 512 * suc k = omega arith in
    ap (λ (xs : List ℕ). xs ++ (x ++ drop (512 * k + length x) (front ++ rest))) (take_at front rest (512 * k) f)
    ∙ ap (λ (i : ℕ). front ++ (x ++ drop i (front ++ rest))) end
    ∙ ap (λ (xs : List ℕ). front ++ (x ++ xs))
    (sym (drop-drop 512 (512 * k) (front ++ rest)) ∙ ap (drop 512) (drop_at front rest (512 * k) f) ∙ drop-drop 512 (512 * k) d ∙ ap (λ (i : ℕ). drop i d) more)
    ∙ sym (append_assoc front x (drop (512 * suc k) d))

module _ {M : Type 0} (steps : Steps M) (meaning : M → Meaning) (good : M → Type 0) (K : Keeps steps meaning good) (n : ℕ) where
  -- a run from s
  abbrev pub Runs : {A : Type 0} (rows : Rows) (s : M) → Tracked n rows (meaning s) → Rows → ℕ → Stepped A M → Type 0
  Runs rows s t rows' puts r = Ran meaning good n rows (meaning s) t rows' puts r

  pub ran_none : {A : Type 0} {rows : Rows} {s : M} (t : Tracked n rows (meaning s)) (a : A) → Live meaning good n s → Runs rows s t rows 0 (stepped (Ok a) s)
  ran_none {s} t a l = ran_still t (stepped (Ok a) s) a l.count l.on l.safe refl (same_refl (meaning s))

  ran_moves :
      {rows rows' : Rows} {s : M} {line : ℕ → Line} {puts : ℕ} {clean : ℕ → Type 0} (t : Tracked n rows (meaning s)) (r : Stepped (Unit {0}) M)
      → Live meaning good n s → good r.after → ((b : ℕ) → b < n → (k : ℕ) × (t.number b ≤ k) × Picked k (rows' b) (contents (line b)))
      → Moves (meaning s) line puts clean r.answer (meaning r.after) → Runs rows s t rows' puts r
  ran_moves t r l g p v =
      record {
        safe = g;
        carried = carried_moves t l.count p v;
        on = λ a e. still_on a e (dec_lt 0 (meaning r.after).grant);
        lost = λ e p. gone e p (dec_lt 0 (meaning r.after).grant);
      }
    where
      still_on : (a : Unit {0}) → r.answer ≡ Ok a → Dec (0 < (meaning r.after).grant) → 0 < (meaning r.after).grant
      still_on a e (yes h) = h
      still_on a e (no d) = let c = lost_answer r.answer (v.lost (omega arith)) in let z : ◌≡◌ {A = ℕ} 0 1 = cc in absurd (omega arith)

      gone : (e : StoreError) → r.answer ≡ Err e → Dec (0 < (meaning r.after).grant) → (meaning r.after).grant ≡ 0
      gone e p (yes h) = let c = good_answer r.answer (v.good h) in let z : ◌≡◌ {A = ℕ} 0 1 = cc in absurd (omega arith)
      gone e p (no d) = omega arith

  picks : {rows : Rows} {s : M} (t : Tracked n rows (meaning s)) → Live meaning good n s → (b : ℕ) → b < n → (k : ℕ) × (t.number b ≤ k) × Picked k (rows b) (contents ((meaning s).line b))
  picks t l b h = (t.number b, omega arith, (t.tracks b h).picked l.on)

  pub ran_read : {rows : Rows} {s : M} (t : Tracked n rows (meaning s)) (b : ℕ) → b < n → Live meaning good n s → Runs rows s t rows 0 (steps.read s b)
  ran_read {s} t b h l =
      let r = (K.reads s b l.safe).on (omega (arith, l.count)) l.on in
      ran_still t (steps.read s b) _ l.count l.on (K.read_good s b l.safe) r.0 r.1

  pub ran_put :
      {rows : Rows} {s : M} (t : Tracked n rows (meaning s)) (b : ℕ) (x : Content) → b < n → length x ≡ 512 → Live meaning good n s
      → Runs rows s t (noted rows b x) 1 (steps.put s b x)
  ran_put {rows} {s} t b x h e l =
      ran_moves t (steps.put s b x) l (K.put_good s b x l.safe e) (λ k i. put k (eqb k b) (picks t l k i))
      ((K.puts s b x l.safe e).on (omega (arith, l.count)) l.on)
    where
      put : (k : ℕ) (same : Bool) → (j : ℕ) × (t.number k ≤ j) × Picked j (rows k) (contents ((meaning s).line k))
          → (j : ℕ) × (t.number k ≤ j) × Picked j (cond same (rows k ++ (x ∷ [])) (rows k)) (contents (cond same (extended ((meaning s).line k) x) ((meaning s).line k)))
      put k true p = (p.0, p.1, picked_more x p.2)
      put k false p = p

  pub ran_force : {rows : Rows} {s : M} (t : Tracked n rows (meaning s)) (b : ℕ) → b < n → Live meaning good n s → Runs rows s t rows 0 (steps.force s b)
  ran_force {s} t b h l =
      ran_moves t (steps.force s b) l (K.force_good s b l.safe) (picks t l) ((K.forces s b l.safe).on (omega (arith, l.count)) l.on)

  pub ran_flush : {rows : Rows} {s : M} (t : Tracked n rows (meaning s)) → Live meaning good n s → Runs rows s t rows 0 (steps.flush s)
  ran_flush {s} t l = ran_moves t (steps.flush s) l (K.flush_good s l.safe) (picks t l) ((K.flushes s l.safe).on l.on)

  force_run :
      {rows : Rows} {s : M} (t : Tracked n rows (meaning s)) (force : Bool) (b : ℕ) → b < n → Live meaning good n s
      → Runs rows s t rows 0 (cond force (steps.force s b) (stepped (Ok tt) s))
  force_run t true b h l = ran_force t b h l
  force_run t false b h l = ran_none t tt l

  write_run :
      {rows : Rows} {s : M} (t : Tracked n rows (meaning s)) (force : Bool) (b : ℕ) (x : Content) → b < n → length x ≡ 512 → Live meaning good n s
      → Runs rows s t (noted rows b x) 1 (put_forced steps force b x s)
  write_run {rows} {s} t force b x h e l =
      let r = ran_put t b x h e l in
      ran_then (noted rows b x) 0 (steps.put s b x) (λ _ s'. cond force (steps.force s' b) (stepped (Ok tt) s')) (stays (noted rows b x)) r
      (λ a p. force_run r.carried.tracked force b h (live_after a p r))

  verify_run : {rows : Rows} {s : M} (t : Tracked n rows (meaning s)) (b : ℕ) → b < n → Live meaning good n s → Runs rows s t rows 0 (verify_block steps b s)
  verify_run {rows} {s} t b h l =
      let r = ran_force t b h l in
      let s' = (steps.force s b).after in
      ran_then rows 0 (steps.force s b) (λ _ s'. next (steps.read s' b) (λ _ s''. stepped (Ok tt) s'')) (stays rows) r
      (λ a p.
      let r' = ran_read r.carried.tracked b h (live_after a p r) in
      ran_then rows 0 (steps.read s' b) (λ _ s''. stepped (Ok tt) s'') (stays rows) r' (λ x p'. ran_none r'.carried.tracked tt (live_after x p' r')))

  module _ (rows : Rows) (s : M) (t : Tracked n rows (meaning s)) (a : ℕ) (l : Live meaning good n s) where
    -- blocks xs, which are those of the bytes
    pub writes_run :
        (force : Bool) (bytes : List ℕ) (xs : List Content) (k : ℕ) → ((i : ℕ) → i < k → get_or xs i [] ≡ piece bytes i) → a + k ≤ n → 512 * k ≤ length bytes
        → Runs rows s t (grown rows a k bytes) k (in_turn k (λ i. put_forced steps force (a + i) (get_or xs i [])) s)
    writes_run force bytes xs zero same h i = ran_along (grown_none rows a bytes) refl (ran_none t tt l)
    writes_run force bytes xs (suc k) same h i =
        let x = piece bytes k in
        let before = in_turn k (λ i. put_forced steps force (a + i) (get_or xs i [])) s in
        let e : length x ≡ 512 = length-take 512 (drop (512 * k) bytes) ∙ omega (arith, length-drop (512 * k) bytes) in
        let r = writes_run force bytes xs k (λ i h. same i (omega arith)) (omega arith) (omega arith) in
        ran_along (grown_step rows a k bytes) (let z : k + 1 ≡ suc k = omega arith in z)
        (subst (λ (y : Content). Runs rows s t (noted (grown rows a k bytes) (a + k) x) (k + 1) (next before (λ _ s'. put_forced steps force (a + k) y s'))) (sym (same k (omega arith)))
        (ran_then (noted (grown rows a k bytes) (a + k) x) 1 before (λ _ s'. put_forced steps force (a + k) x s') (noted_more (grown rows a k bytes) (a + k) x) r
        (λ u p. write_run r.carried.tracked force (a + k) x (omega arith) e (live_after u p r))))

    -- k blocks read, with power, into data-in d
    pub record Reads (k : ℕ) (d : List ℕ) (r : Stepped (Unit {0}) (Buffered M)) : Type 0 where
      pub done : r.answer ≡ Ok tt
      pub runs : Runs {A = Unit {0}} rows s t rows 0 (stepped (Ok tt) r.after.store)
      pub same : Same (meaning s) (meaning r.after.store)
      pub bytes : r.after.data_in ≡ latest_of rows a k ++ drop (512 * k) d
      pub sized : length (latest_of rows a k) ≡ 512 * k

    pub reads_run : (k : ℕ) (d : List ℕ) → a + k ≤ n → Reads k d (read_blocks steps a k (buffered s d))
    reads_run zero d h = record { done = refl; runs = ran_none t tt l; same = same_refl (meaning s); bytes = refl; sized = refl }
    reads_run (suc k) d h =
        let i : a + k < n = omega arith in
        let r = reads_run k d (omega arith) in
        let m = (read_blocks steps a k (buffered s d)).after in
        let x = latest (rows (a + k)) in
        let live = live_after (tt {0}) refl r.runs in
        let t' = r.runs.carried.tracked in
        let e = shows (t'.tracks (a + k) i) live.on in
        let j : a + k < (meaning m.store).count = omega (arith, live.count) in
        let read = (K.reads m.store (a + k) live.safe).on j live.on in
        let line = (meaning m.store).line (a + k) in
        let size : length x ≡ 512 = ap length e ∙ last_sized line.first line.later ((K.sound m.store live.safe).sized (a + k) j) in
        let after = (steps.read m.store (a + k)).after in
        let is : read_blocks steps a (suc k) (buffered s d) ≡ stepped (Ok tt) (buffered after (placed m.data_in (512 * k) x)) =
        next_ok (read_blocks steps a k (buffered s d)) (λ _ m'. fetched steps a k m') tt r.done
        ∙ ap (λ (o : Answer Content). next {M = Buffered M} (stepped o (buffered after m.data_in)) (λ x b. stepped (Ok tt) (buffered b.store (placed b.data_in (512 * k) x))))
        (read.0 ∙ ap (λ (y : Content). Ok y) (sym e)) in
        subst (Reads (suc k) d) (sym is)
        (record {
          done = refl;
          runs =
              ran_then rows 0 (stepped {A = Unit {0}} (Ok tt) m.store) (λ _ s'. stepped {A = Unit {0}} (Ok tt) (steps.read s' (a + k)).after) (stays rows) r.runs
              (λ u p. ran_still t' (stepped (Ok tt) after) (tt {0}) live.count live.on (K.read_good m.store (a + k) live.safe) refl read.1);
          same = same_then r.same read.1;
          bytes = ap (λ (d' : List ℕ). placed d' (512 * k) x) r.bytes ∙ placed_more k (latest_of rows a k) x d r.sized size;
          sized = length-append (latest_of rows a k) x ∙ omega (arith, size, r.sized);
        })

    pub verifies_run : (k : ℕ) → a + k ≤ n → Runs rows s t rows 0 (verify_blocks steps a k s)
    verifies_run zero h = ran_none t tt l
    verifies_run (suc k) h =
        let r = verifies_run k (omega arith) in
        ran_then rows 0 (verify_blocks steps a k s) (λ _ s'. verify_block steps (a + k) s') (stays rows) r
        (λ u p. verify_run r.carried.tracked (a + k) (omega arith) (live_after u p r))
