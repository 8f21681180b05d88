-- What each command leaves, by its limits.
use Rattle.std.proofs.Common.{◌≡◌, ℕ, ◌+◌, ◌-◌, ◌<◌, ◌≤◌, Bool, true, false, cond, not, ◌&&◌, ◌||◌, eqb, ltb, leb, List, [], ◌∷◌, Option, Result, refl, ap, ap₂, ◌∙◌, subst, inl, inr, ⊎_elim, arith}
use Rattle.std.proofs.lemmas.Bool.{and_from, and_left, and_right, le-leb, lt-ltb, lt-leb, le-ltb, cases_lt}
use Rattle.store.specs.Steps.{Content}
use Rattle.store.specs.Meaning.{Meaning, Line, newest, followed, Survives}
use Rattle.store.proofs.Lines.{last_append, survives_followed}
use Rattle.sense.specs.declared.CommandError.{CommandError}
use Rattle.sense.specs.Report.{Answer, number}
use Rattle.commands.specs.Order.{Order, mode_select, start_stop, read, write, verify, synchronize_cache}
use Rattle.logical_unit.specs.declared.LogicalUnit.{LogicalUnit}
use Rattle.logical_unit.specs.declared.Settings.{Settings}
use Rattle.rbc_steps.specs.Writes.{piece, added_to, carried_out}
use Rattle.rbc_steps.specs.Work.{Work, no_work, one_flush, flush_if, one_of_blocks, writing, verifying, sets_wcd, work, work_of}
use Rattle.rbc_steps.specs.Limits.{Moved}
use Rattle.rbc_steps.proofs.Works.{followed_none}
use Rattle.worked_examples.specs.AfterCommands.{standing, Done, Outside, AllStand, StoresWithin, StandAfter, WriteMoves, AfterCommands}

abbrev line_of : List Content → Line
line_of [] = standing []
line_of (x ∷ xs) = record { first = x; later = xs }

newest_sent : (l : Line) (x : Content) → newest (followed l (x ∷ [])) ≡ x
newest_sent l x = last_append l.first l.later (x ∷ [])

newest_kept : (l : Line) → newest (followed l []) ≡ newest l
newest_kept l = last_append l.first l.later []

among : (a i n : ℕ) → i < n → one_of_blocks (a + i) a n ≡ true
among a i n h = and_from (leb a (a + i)) (ltb (a + i) (a + n)) (le-leb a (a + i) (omega arith)) (lt-ltb (a + i) (a + n) (omega arith))

not_among : (a b n : ℕ) → Outside b a n → one_of_blocks b a n ≡ false
not_among a b n (inl h) = and_left (leb a b) (ltb b (a + n)) (lt-leb a b h)
not_among a b n (inr h) = and_right (leb a b) (ltb b (a + n)) (le-ltb b (a + n) h)

sent : (a i n : ℕ) (bytes : List ℕ) → i < n → added_to (a + i) a n bytes ≡ piece bytes i ∷ []
sent a i n bytes h =
    let e : a + i - a ≡ i = omega arith in
    ap (λ (v : Bool). cond v (piece bytes (a + i - a) ∷ []) []) (among a i n h) ∙ ap (λ (k : ℕ). piece bytes k ∷ []) e

unsent : (a b n : ℕ) (bytes : List ℕ) → Outside b a n → added_to b a n bytes ≡ []
unsent a b n bytes h = ap (λ (v : Bool). cond v (piece bytes (b - a) ∷ []) []) (not_among a b n h)

carried : (a : Answer) (k : ℕ) → number a ≡ k → carried_out a true ≡ (eqb k 0 || (eqb k 2 && true))
carried a k e = ap (λ (i : ℕ). eqb i 0 || (eqb i 2 && true)) e

module _ (m m' : Meaning) where
  -- with power on at the end all turns began
  all_begun : (w : Work) (v : Moved m w m') → 0 < m'.grant → v.begun ≡ w.turns
  all_begun w v on = let k : v.ended ≡ w.turns = v.all on in omega (arith, v.order.0, v.order.1.1)

  -- a block that all turns together leave its last content alone
  left_alone :
      (w : Work) → Moved m w m' → 0 < m'.grant → (b : ℕ) → b < m.count → w.clean w.turns b ≡ true
      → m'.line b ≡ standing (newest (followed (m.line b) (w.written w.turns b)))
  left_alone w v on b h c =
      ap (λ (xs : List Content). line_of xs) (v.cleans b h (ap (λ (n : ℕ). w.clean n b) (v.all on) ∙ c))
      ∙ ap (λ (n : ℕ). standing (newest (followed (m.line b) (w.written n b)))) (all_begun w v on)

  -- what a block shows
  left_shown : (w : Work) → Moved m w m' → 0 < m'.grant → (b : ℕ) → b < m.count → newest (m'.line b) ≡ newest (followed (m.line b) (w.written w.turns b))
  left_shown w v on b h = (v.thins on b h).shown ∙ ap (λ (n : ℕ). newest (followed (m.line b) (w.written n b))) (all_begun w v on)

  flushed : Moved m one_flush m' → 0 < m'.grant → (b : ℕ) → b < m.count → m'.line b ≡ standing (newest (m.line b))
  flushed v on b h = left_alone one_flush v on b h refl ∙ ap (λ (x : Content). standing x) (newest_kept (m.line b))

module _ (u : LogicalUnit) (m m' : Meaning) where
  moved : (k : ℕ) (o : Order) → (eqb k 0 || (eqb k 2 && true)) ≡ true → Done k o u m m' → Moved m (work u o) m'
  moved k o e d =
      subst (λ (w : Work). Moved m w m')
      (ap₂ (λ (v : Bool) (j : Result Order CommandError). cond v (work_of u j) no_work) (carried d.answer k d.answers ∙ e) d.order)
      d.limits.moved

  moved_as : (o : Order) (w : Work) → work u o ≡ w → Done 0 o u m m' → Moved m w m'
  moved_as o w e d = subst (λ (v : Work). Moved m v m') e (moved 0 o refl d)

  on : (o : Order) → Done 0 o u m m' → 0 < m'.grant
  on o d = d.limits.on (λ e. omega (arith, d.answers, e)) (λ e. omega (arith, d.answers, e))

  off : (o : Order) → Done 2 o u m m' → m'.grant ≡ 0
  off o d = d.limits.lost d.answers

  stores_within : (w : Work) (n : ℕ) (v : Moved m w m') → w.puts v.begun ≤ n → StoresWithin u m m' n
  stores_within w n v h = let s = v.stores in omega arith

  all_stand : (o : Order) → work u o ≡ one_flush → Done 0 o u m m' → AllStand u m m'
  all_stand o e d = flushed m m' (moved_as o one_flush e d) (on o d)

  stand_after : StandAfter u m m'
  stand_after =
      record {
        written = λ relative fua a n bytes d v i h c.
            let o = write relative fua a n bytes in
            let w = writing true a n bytes in
            left_alone m m' w (moved_as o w (ap (λ (x : Bool). writing x a n bytes) v) d) (on o d) (a + i) c (among a i n h)
            ∙ ap (λ (xs : List Content). standing (newest (followed (m.line (a + i)) xs))) (sent a i n bytes h)
            ∙ ap (λ (x : Content). standing x) (newest_sent (m.line (a + i)) (piece bytes i));
        verified = λ relative a n d i h c.
            let o = verify relative a n in
            left_alone m m' (verifying a n) (moved 0 o refl d) (on o d) (a + i) c (among a i n h)
            ∙ ap (λ (x : Content). standing x) (newest_kept (m.line (a + i)));
        verify_stores = λ relative a n d. stores_within (verifying a n) 0 (moved 0 (verify relative a n) refl d) (omega arith);
        synchronized = λ d. all_stand synchronize_cache refl d;
        synchronize_stores = λ d. stores_within one_flush 0 (moved 0 synchronize_cache refl d) (omega arith);
        asleep = λ start load_eject d. all_stand (start_stop 5 start load_eject) refl d;
        stopped = λ load_eject d. all_stand (start_stop 0 false load_eject) refl d;
        uncached = λ n list settings d e set unset.
            all_stand (mode_select n list)
            (ap (λ (s : Option Settings). flush_if (sets_wcd u s)) e ∙ ap₂ (λ (x y : Bool). flush_if (x && not y)) set unset) d;
        read_moves_nothing = λ relative a n d.
            let v : Moved m no_work m' = moved 0 (read relative a n) refl d in
            let none : v.begun ≡ 0 = omega (arith, v.order.1.1) in
            v.still none;
      }

  module _ (relative fua : Bool) (a n : ℕ) (bytes : List ℕ) where
    abbrev own : Order
    own = write relative fua a n bytes

    abbrev own_work : Work
    own_work = writing (fua || u.settings.wcd) a n bytes

    in_turns : (v : Moved m own_work m') → v.begun ≤ n
    in_turns v = v.order.1.1

    -- without power, with what was written counted in
    left_over : (v : Moved m own_work m') → m'.grant ≡ 0 → (b : ℕ) → b < m.count → (xs : List Content) → added_to b a v.begun bytes ≡ xs → Survives (followed (m.line b) xs) (m'.line b)
    left_over v z b h xs e = subst (λ (ys : List Content). Survives (followed (m.line b) ys) (m'.line b)) e (v.survives z b h)

    none_left_over : (v : Moved m own_work m') → m'.grant ≡ 0 → (b : ℕ) → b < m.count → Outside b a v.begun → Survives (m.line b) (m'.line b)
    none_left_over v z b h out =
        subst (λ (l : Line). Survives l (m'.line b)) (followed_none (m.line b)) (left_over v z b h [] (unsent a b v.begun bytes out))

    outside_begun : (v : Moved m own_work m') (b : ℕ) → Outside b a n → Outside b a v.begun
    outside_begun v b (inl h) = inl h
    outside_begun v b (inr h) = inr (let k = in_turns v in omega arith)

    own_lost :
        (v : Moved m own_work m') → m'.grant ≡ 0 → (i : ℕ) → a + i < m.count
        → Survives (followed (m.line (a + i)) (piece bytes i ∷ [])) (m'.line (a + i))
    own_lost v z i c =
        ⊎_elim (λ (h : i < v.begun). left_over v z (a + i) c (piece bytes i ∷ []) (sent a i v.begun bytes h))
        (λ (h : v.begun ≤ i).
        survives_followed (m.line (a + i)) (m'.line (a + i)) (piece bytes i ∷ []) (none_left_over v z (a + i) c (inr (omega arith))))
        (cases_lt i v.begun)

    write_moves : WriteMoves u m m' relative fua a n bytes
    write_moves =
        record {
          shown = λ d i h c.
              left_shown m m' own_work (moved 0 own refl d) (on own d) (a + i) c
              ∙ ap (λ (xs : List Content). newest (followed (m.line (a + i)) xs)) (sent a i n bytes h)
              ∙ newest_sent (m.line (a + i)) (piece bytes i);
          others_shown = λ d b c out.
              left_shown m m' own_work (moved 0 own refl d) (on own d) b c
              ∙ ap (λ (xs : List Content). newest (followed (m.line b) xs)) (unsent a b n bytes out)
              ∙ newest_kept (m.line b);
          stores = λ d. let v = moved 0 own refl d in stores_within own_work n v (in_turns v);
          lost = λ d i h c. own_lost (moved 2 own refl d) (off own d) i c;
          others_lost = λ d b c out. let v = moved 2 own refl d in none_left_over v (off own d) b c (outside_begun v b out);
          lost_stores = λ d. let v = moved 2 own refl d in stores_within own_work n v (in_turns v);
        }

pub after_commands : AfterCommands
after_commands u m m' = (stand_after u m m', write_moves u m m')
