-- The queue cache keeps a store's meaning over every store that does, and its places hold only blocks below the count.
-- It stands in specs/ since the laws of an impl take their proofs from there.
use Rattle.std.specs.Prelude.{◌≡◌, ℕ, suc, ◌<◌, ◌≤◌, Bool, true, false, cond, ltb, List, [], ◌∷◌, ◌++◌, length, is_some, Some, None, Ok, Option, ◌==◌, nat_lt}
use Rattle.std.proofs.Math.Path.{refl}
use Rattle.std.proofs.Common.{ap, arith}
use Rattle.std.proofs.Math.ListN.{length-append}
use Rattle.std.proofs.lemmas.Bool.{cond_both, lt-ltb, ltb-true, ltb-false, true≢false}
use Rattle.store.specs.Steps.{Content, Steps, Stepped, stepped, next}
use Rattle.store.specs.Meaning.{Meaning, last_of, added}
use Rattle.store.specs.Keeps.{Keeps, Moves}
use Rattle.store.proofs.Answers.{good_answer}
use Rattle.store.proofs.Moving.{moves_next, next_keeps, next_ok}
use Rattle.cache.specs.declared.Entry.{Entry}
use Rattle.cache.specs.Entries.{waiting, over}
use Rattle.cache.specs.WriteBack.{raised}
use Rattle.cache.specs.Kinds.{BlocksWithin}
use Rattle.cache.specs.Preserves.{Preserves}
use Rattle.queue_cache.specs.Queue.{QueueModel, QueueFits, QueueGood, queued, latest, holds, any, evict_oldest, drain, drained, queue_put, queue_kind, queue_steps, queue_meaning}
use Rattle.cache.proofs.Entries.{none_left, within_same, every_push, every_tail, fits, fits_from, sized_head, sized_tail}
use Rattle.cache.proofs.Over.{Joined, struck_none}
use Rattle.cache.proofs.Working.{Newest, LeftBehind, CameIn, Evicts, Puts, Works, evicts_none, evicts_next, evicts_entry, puts_in, puts_next, works_keeps, works_preserve}

joined : (es : List Entry) (e : Entry) → Joined (waiting es) e.block e.content (waiting (es ++ (e ∷ [])))
joined [] e k = refl
joined (f ∷ es) e k =
    rw (joined es e k)
    (elim (k == f.block) as
    (λ t. cond t (f.content ∷ (waiting es k ++ cond (k == e.block) (e.content ∷ []) [])) (waiting es k ++ cond (k == e.block) (e.content ∷ []) [])
    ≡ cond t (f.content ∷ waiting es k) (waiting es k) ++ cond (k == e.block) (e.content ∷ []) [])
    [ true ↦ refl | false ↦ refl ])

latest_some : (y : Content) (es : List Entry) (b : ℕ) → latest (Some y) es b ≡ Some (last_of y (waiting es b))
latest_some y [] b = refl
latest_some y (e ∷ es) b =
    elim (b == e.block) as (λ t. latest (cond t (Some e.content) (Some y)) es b ≡ Some (last_of y (cond t (e.content ∷ waiting es b) (waiting es b))))
    [ true ↦ latest_some e.content es b | false ↦ latest_some y es b ]

latest_newest : (es : List Entry) (b : ℕ) → Newest (waiting es b) (latest None es b)
latest_newest [] b = refl
latest_newest (e ∷ es) b =
    elim (b == e.block) as (λ t. Newest (cond t (e.content ∷ waiting es b) (waiting es b)) (latest (cond t (Some e.content) None) es b))
    [ true ↦ rw (latest_some e.content es b) (λ x. refl) | false ↦ latest_newest es b ]

none_held : (b : ℕ) (es : List Entry) → holds b es ≡ false → waiting es b ≡ []
none_held b es h = none (latest None es b) (latest_newest es b) h
  where
    none : (found : Option Content) → Newest (waiting es b) found → is_some found ≡ false → waiting es b ≡ []
    none None n h = n
    none (Some x) n h = absurd (true≢false h)

none_any : (es : List Entry) → any es ≡ false → (k : ℕ) → waiting es k ≡ []
none_any es h k = ap (λ es. waiting es k) (none_left es (ltb-false 0 (length es) h))

left_behind : (e : Entry) (es : List Entry) → QueueFits (e ∷ es) → LeftBehind queue_kind (e ∷ es) (Some e) es
left_behind e es ok =
    record {
      fits = record { few = let h = ok.few in omega arith; sized = sized_tail e es ok.sized };
      entry = sized_head e es ok.sized;
      leaves = λ k. refl;
      within = λ count w. every_tail (λ e. ltb e.block count) e es w;
    }

came_in : (es : List Entry) (e : Entry) → QueueFits es → length es < 16 → CameIn queue_kind es e (es ++ (e ∷ []))
came_in es e ok l =
    record {
      fits = λ z. record { few = let a = length-append es (e ∷ []) in omega arith; sized = every_push fits es e ok.sized (fits_from e z) };
      kept = waiting es;
      struck = struck_none (waiting es) e.block;
      joined = joined es e;
      within = λ count h w. every_push (λ e. ltb e.block count) es e w (lt-ltb e.block count h);
    }

module _ {B : Type 0} (steps : Steps B) (meaning : B → Meaning) (good : B → Type 0) (K : Keeps steps meaning good) where
  evicts : (s : B) (es : List Entry) → QueueGood good (queued es s) → Evicts queue_kind meaning good (queued es s) (evict_oldest steps s es)
  evicts s [] ok = evicts_none queue_kind meaning good (queued [] s) ok
  evicts s (e ∷ es) ok = evicts_entry queue_kind meaning good steps K (queued (e ∷ es) s) (Some e) es ok (left_behind e es ok.held)

  pub evict_good : (s : B) (es : List Entry) → QueueGood good (queued es s) → QueueGood good (evict_oldest steps s es).after
  evict_good s es ok = (evicts s es ok).ends_good

  popped : (s : B) (es : List Entry) (n : ℕ) → length es ≤ suc n → length (evict_oldest steps s es).after.held ≤ n
  popped s [] n h = omega arith
  popped s (e ∷ es) n h = omega arith

  module _ (wanted : List Entry → Bool) where
    drains : (es : List Entry) (s : B) → QueueGood good (queued es s) → Evicts queue_kind meaning good (queued es s) (drain steps wanted s es)
    unfolding drain
    drains [] s ok = evicts_none queue_kind meaning good (queued [] s) ok
    drains (e ∷ es) s ok =
        let q = queued (e ∷ es) s in
        let c = evict_oldest steps s (e ∷ es) in
        let go : Unit {0} → QueueModel B → Stepped (Unit {0}) (QueueModel B) = λ _ u. drain steps wanted u.below es in
        let p = evicts s (e ∷ es) ok in
        cond_both (wanted (e ∷ es)) (next c go) (stepped (Ok tt) q) (Evicts queue_kind meaning good q)
        (λ _. evicts_next queue_kind meaning good q c go p (drains es c.after.below p.ends_good))
        (λ _. evicts_none queue_kind meaning good q ok)

    pub drain_good : (es : List Entry) (s : B) → QueueGood good (queued es s) → QueueGood good (drain steps wanted s es).after
    drain_good es s ok = (drains es s ok).ends_good

    drain_ends :
        (es : List Entry) (s : B) → wanted [] ≡ false → (drain steps wanted s es).answer ≡ Ok tt
        → wanted (drain steps wanted s es).after.held ≡ false
    unfolding drain
    drain_ends [] s none ok = none
    drain_ends (e ∷ es) s none ok = ends (wanted (e ∷ es)) refl (drain_ends es c.after.below none) ok
      where
        c : Stepped (Unit {0}) (QueueModel B)
        c = evict_oldest steps s (e ∷ es)

        go : Unit {0} → QueueModel B → Stepped (Unit {0}) (QueueModel B)
        go _ u = drain steps wanted u.below es

        rest : Bool → Stepped (Unit {0}) (QueueModel B)
        rest t = cond t (next c go) (stepped (Ok tt) (queued (e ∷ es) s))

        ends :
            (t : Bool) → wanted (e ∷ es) ≡ t
            → ((drain steps wanted c.after.below es).answer ≡ Ok tt → wanted (drain steps wanted c.after.below es).after.held ≡ false)
            → (rest t).answer ≡ Ok tt → wanted (rest t).after.held ≡ false
        ends true e ih ok = next_ok (λ u. wanted u.held ≡ false) c go (λ _. ih) ok
        ends false e ih ok = e

    -- a drained queue, and then a call on the store below
    drained_good :
        (q : QueueModel B) (go : QueueModel B → Stepped (Unit {0}) B) → QueueGood good q
        → ((u : QueueModel B) → QueueGood good u → good (go u).after)
        → QueueGood good (next (drained steps wanted q) (λ _ u. raised (queued u.held) (go u))).after
    drained_good q go ok h =
        let d = drained steps wanted q in
        let k = drain_good q.held q.below ok in
        next_keeps (QueueGood good) d (λ _ u. raised (queued u.held) (go u)) k (λ _. record { below = h d.after k; held = k.held })

    drained_moves :
        (q : QueueModel B) (go : QueueModel B → Stepped (Unit {0}) B) (clean : ℕ → Type 0) → QueueGood good q → 0 < (meaning q.below).grant → wanted [] ≡ false
        → ((u : QueueModel B) → QueueGood good u → (meaning u.below).count ≡ (meaning q.below).count → 0 < (meaning u.below).grant → wanted u.held ≡ false
        → let m = queue_meaning meaning u in
        Moves m m.line 0 clean (go u).answer (over (meaning (go u).after) (waiting u.held)))
        → let c = next (drained steps wanted q) (λ _ u. raised (queued u.held) (go u)) in let m = queue_meaning meaning q in
        Moves m m.line 0 clean c.answer (queue_meaning meaning c.after)
    drained_moves q go clean ok g none h =
        let m = queue_meaning meaning q in
        let d = drained steps wanted q in
        let p = (drains q.held q.below ok).moves g in
        moves_next (queue_meaning meaning) m m.line (queue_meaning meaning d.after).line 0 clean d (λ _ u. raised (queued u.held) (go u))
        p (λ k s. s) (λ k l s. s)
        (λ g'. h d.after (drain_good q.held q.below ok) p.count g' (drain_ends q.held q.below none (good_answer d.answer (p.good g'))))

    drained_within :
        (q : QueueModel B) (go : QueueModel B → Stepped (Unit {0}) B) → QueueGood good q → BlocksWithin queue_kind meaning q
        → ((u : QueueModel B) → QueueGood good u → (meaning (go u).after).count ≡ (meaning u.below).count)
        → BlocksWithin queue_kind meaning (next (drained steps wanted q) (λ _ u. raised (queued u.held) (go u))).after
    drained_within q go ok w h =
        let d = drained steps wanted q in
        let p = drains q.held q.below ok in
        next_keeps (BlocksWithin queue_kind meaning) d (λ _ u. raised (queued u.held) (go u)) (p.within w)
        (λ _. within_same (meaning d.after.below).count (meaning (go d.after).after).count d.after.held (h d.after p.ends_good) (p.within w))

  -- if all sixteen places are full, the oldest entry is put down first
  room : QueueModel B → Stepped (Unit {0}) (QueueModel B)
  room q = cond (nat_lt (length q.held) 16) (stepped (Ok tt) q) (evict_oldest steps q.below q.held)

  makes_room : (q : QueueModel B) → QueueGood good q → Evicts queue_kind meaning good q (room q)
  unfolding room
  makes_room q ok =
      cond_both (nat_lt (length q.held) 16) (stepped (Ok tt) q) (evict_oldest steps q.below q.held) (Evicts queue_kind meaning good q)
      (λ _. evicts_none queue_kind meaning good q ok)
      (λ _. evicts q.below q.held ok)

  room_good : (q : QueueModel B) → QueueGood good q → QueueGood good (room q).after × (length (room q).after.held < 16)
  unfolding room
  room_good q ok = (
    (makes_room q ok).ends_good,
    cond_both (nat_lt (length q.held) 16) (stepped (Ok tt) q) (evict_oldest steps q.below q.held) (λ c. length c.after.held < 16)
        (λ l. ltb-true (length q.held) 16 l)
        (λ _. let h = popped q.below q.held 15 ok.held.few in omega arith),
  )

  room_moves :
      (q : QueueModel B) → QueueGood good q → 0 < (meaning q.below).grant
      → let m = queue_meaning meaning q in
      Moves m m.line 0 (λ k. ⊥) (room q).answer (queue_meaning meaning (room q).after)
  room_moves q ok g = (makes_room q ok).moves g

  puts : (q : QueueModel B) (e : Entry) → QueueGood good q → Puts queue_kind meaning good q e (queue_put steps q e)
  unfolding room
  puts q e ok =
      let c = room q in
      let p = makes_room q ok in
      puts_next queue_kind meaning good q c (λ _ u. stepped (Ok tt) (queued (u.held ++ (e ∷ [])) u.below)) p e
      (puts_in queue_kind meaning good c.after e (c.after.held ++ (e ∷ [])) p.ends_good (came_in c.after.held e p.ends_good.held (room_good q ok).1))

  queue_put_moves :
      (q : QueueModel B) (e : Entry) → QueueGood good q → e.block < (meaning q.below).count → 0 < (meaning q.below).grant
      → let c = queue_put steps q e in let m = queue_meaning meaning q in
      Moves m (added m.line e.block e.content) 1 (λ k. ⊥) c.answer (queue_meaning meaning c.after)
  queue_put_moves q e ok h g = (puts q e ok).moves h g

  queue_put_good : (q : QueueModel B) (e : Entry) → QueueGood good q → length e.content ≡ 512 → QueueGood good (queue_put steps q e).after
  queue_put_good q e ok z = (puts q e ok).ends_good z

  works : Works queue_kind meaning good steps K
  works =
      record {
        sized = λ es ok. ok.sized;
        newest = λ es b _. latest_newest es b;
        puts = λ q e ok z. puts q e ok;
        evicts = λ q b ok. drains (holds b) q.held q.below ok;
        evicted = λ q b ok w. none_held b (drained steps (holds b) q).after.held (drain_ends (holds b) q.held q.below refl w);
        evicts_all = λ q ok. drains any q.held q.below ok;
        all_evicted = λ q ok w. none_any (drained steps any q).after.held (drain_ends any q.held q.below refl w);
      }

  pub queue_keeps : Keeps (queue_steps steps) (queue_meaning meaning) (QueueGood good)
  queue_keeps = works_keeps queue_kind meaning good steps K works

  pub queue_within : Preserves (queue_steps steps) (QueueGood good) (BlocksWithin queue_kind meaning)
  queue_within = works_preserve queue_kind meaning good steps K works
