-- What is to be shown of a kind of cache over one store, and what then holds of the cache.
use Rattle.std.proofs.Common.{◌≡◌, ℕ, ◌<◌, true, List, [], length, Some, None, Ok, Option, sym, refl, ap, ◌∙◌, arith}
use Rattle.store.specs.Steps.{Content, Steps, Stepped, stepped, next}
use Rattle.store.specs.Meaning.{Meaning, newest, last_of, added, Same}
use Rattle.store.specs.Keeps.{Keeps, Moves}
use Rattle.store.proofs.Answers.{good_answer}
use Rattle.store.proofs.Guards.{same_refl, Runs, guarding_keeps, guarded_keeps, powered_keeps, read_count, force_count, flush_count}
use Rattle.store.proofs.Lines.{added_thins, added_survives}
use Rattle.store.proofs.Moving.{stays, moves_next, next_keeps}
use Rattle.cache.specs.declared.Entry.{Entry}
use Rattle.cache.specs.Entries.{waiting, sized, within}
use Rattle.cache.specs.Kinds.{CacheModel, CacheKind, holding, cache_read, cache_force, cache_flush, cache_runs, cache_steps, cache_meaning, CacheGood, BlocksWithin}
use Rattle.cache.specs.Preserves.{Preserves}
use Rattle.cache.specs.WriteBack.{write_back, raised}
use Rattle.cache.proofs.Entries.{within_same, sized_waiting}
use Rattle.cache.proofs.Over.{Leaves, SizedEntry, Joined, Struck, over_on, newest_followed, sound_over, join_moves, back_moves, back_good, back_count, read_moves, force_moves, flush_moves}

-- what the newest content is, of a block with these contents
abbrev pub Newest : List Content → Option Content → Type 0
Newest xs None = xs ≡ []
Newest xs (Some y) = (x : Content) → last_of x xs ≡ y

module _ (kind : CacheKind) where
  -- once an entry has left, or none has
  pub record LeftBehind (held : kind.Held) (slot : Option Entry) (held' : kind.Held) : Type 0 where
    pub fits : kind.fits held'
    pub entry : SizedEntry slot
    pub leaves : Leaves (waiting (kind.entries held)) slot (waiting (kind.entries held'))
    pub within : (count : ℕ) → within count (kind.entries held) ≡ true → within count (kind.entries held') ≡ true

  -- once an entry has come in, perhaps in place of others of its block
  pub record CameIn (held : kind.Held) (e : Entry) (held' : kind.Held) : Type 0 where
    pub fits : length e.content ≡ 512 → kind.fits held'
    pub kept : ℕ → List Content
    pub struck : Struck (waiting (kind.entries held)) e.block kept
    pub joined : Joined kept e.block e.content (waiting (kind.entries held'))
    pub within : (count : ℕ) → e.block < count → within count (kind.entries held) ≡ true → within count (kind.entries held') ≡ true

  module _ {B : Type 0} (meaning : B → Meaning) (good : B → Type 0) where
    -- entries are written back
    pub record Evicts (c : CacheModel kind.Held B) (r : Stepped (Unit {0}) (CacheModel kind.Held B)) : Type 0 where
      pub ends_good : CacheGood kind good r.after
      pub moves :
          0 < (meaning c.below).grant
          → let m = cache_meaning kind meaning c in Moves m m.line 0 (λ k. ⊥) r.answer (cache_meaning kind meaning r.after)
      pub count : (meaning r.after.below).count ≡ (meaning c.below).count
      pub within : BlocksWithin kind meaning c → BlocksWithin kind meaning r.after

    -- an entry comes in
    pub record Puts (c : CacheModel kind.Held B) (e : Entry) (r : Stepped (Unit {0}) (CacheModel kind.Held B)) : Type 0 where
      pub ends_good : length e.content ≡ 512 → CacheGood kind good r.after
      pub moves :
          e.block < (meaning c.below).count → 0 < (meaning c.below).grant
          → let m = cache_meaning kind meaning c in
          Moves m (added m.line e.block e.content) 1 (λ k. ⊥) r.answer (cache_meaning kind meaning r.after)
      pub within : e.block < (meaning c.below).count → BlocksWithin kind meaning c → BlocksWithin kind meaning r.after

    pub evicts_none : (c : CacheModel kind.Held B) → CacheGood kind good c → Evicts c (stepped (Ok tt) c)
    evicts_none c ok =
        let m = cache_meaning kind meaning c in
        record { ends_good = ok; moves = stays m m (same_refl m); count = refl; within = λ w. w }

    pub puts_in : (c : CacheModel kind.Held B) (e : Entry) (held' : kind.Held) → CacheGood kind good c → CameIn c.held e held' → Puts c e (stepped (Ok tt) (holding held' c.below))
    puts_in c e held' ok came =
        record {
          ends_good = λ z. record { below = ok.below; held = came.fits z };
          moves = λ h g.
              join_moves (meaning c.below) (waiting (kind.entries c.held)) came.kept (waiting (kind.entries held')) e.block e.content g h came.struck came.joined;
          within = came.within (meaning c.below).count;
        }

    module _ (c : CacheModel kind.Held B) (r : Stepped (Unit {0}) (CacheModel kind.Held B)) (go : Unit {0} → CacheModel kind.Held B → Stepped (Unit {0}) (CacheModel kind.Held B)) (p : Evicts c r) where
      pub evicts_next : Evicts r.after (go tt r.after) → Evicts c (next r go)
      evicts_next q =
          let m = cache_meaning kind meaning c in
          record {
            ends_good = next_keeps (CacheGood kind good) r go p.ends_good (λ _. q.ends_good);
            moves = λ g.
                moves_next (cache_meaning kind meaning) m m.line (cache_meaning kind meaning r.after).line 0 (λ k. ⊥) r go
                (p.moves g) (λ k s. s) (λ k l s. s) q.moves;
            count = next_keeps (λ u. (meaning u.below).count ≡ (meaning c.below).count) r go p.count (λ _. q.count ∙ p.count);
            within = λ w. next_keeps (BlocksWithin kind meaning) r go (p.within w) (λ _. q.within (p.within w));
          }

      pub puts_next : (e : Entry) → Puts r.after e (go tt r.after) → Puts c e (next r go)
      puts_next e q =
          let m = cache_meaning kind meaning c in
          let m₁ = cache_meaning kind meaning r.after in
          record {
            ends_good = λ z. next_keeps (CacheGood kind good) r go p.ends_good (λ _. q.ends_good z);
            moves = λ h g.
                moves_next (cache_meaning kind meaning) m (added m.line e.block e.content) (added m₁.line e.block e.content) 1 (λ k. ⊥) r go
                (p.moves g)
                (λ k. added_thins m.line m₁.line e.block e.content k)
                (λ k. added_survives m.line e.block e.content k)
                (q.moves (let n = p.count in omega arith));
            within = λ h w.
                next_keeps (BlocksWithin kind meaning) r go (p.within w) (λ _. q.within (let n = p.count in omega arith) (p.within w));
          }

    module _ (steps : Steps B) (K : Keeps steps meaning good) where
      -- an entry, if there is one, leaves for the store below
      pub evicts_entry :
          (c : CacheModel kind.Held B) (slot : Option Entry) (held' : kind.Held) → CacheGood kind good c → LeftBehind c.held slot held'
          → Evicts c (raised (holding held') (write_back steps c.below slot))
      evicts_entry c slot held' ok left =
          let n = back_count steps meaning good K c.below slot ok.below left.entry in
          record {
            ends_good = record { below = back_good steps meaning good K c.below slot ok.below left.entry; held = left.fits };
            moves = λ g.
                back_moves steps meaning good K c.below slot (waiting (kind.entries c.held)) (waiting (kind.entries held')) ok.below g left.entry left.leaves;
            count = n;
            within = λ w.
                within_same (meaning c.below).count (meaning (write_back steps c.below slot).after).count (kind.entries held') n
                (left.within (meaning c.below).count w);
          }

      -- what is to be shown of the kind
      pub record Works : Type 0 where
        pub sized : (held : kind.Held) → kind.fits held → sized (kind.entries held) ≡ true
        pub newest : (held : kind.Held) (b : ℕ) → kind.fits held → Newest (waiting (kind.entries held) b) (kind.lookup held b)
        pub puts : (c : CacheModel kind.Held B) (e : Entry) → CacheGood kind good c → length e.content ≡ 512 → Puts c e (kind.put steps c e)
        pub evicts : (c : CacheModel kind.Held B) (b : ℕ) → CacheGood kind good c → Evicts c (kind.evict steps c b)
        pub evicted :
            (c : CacheModel kind.Held B) (b : ℕ) → CacheGood kind good c → (kind.evict steps c b).answer ≡ Ok tt
            → waiting (kind.entries (kind.evict steps c b).after.held) b ≡ []
        pub evicts_all : (c : CacheModel kind.Held B) → CacheGood kind good c → Evicts c (kind.evict_all steps c)
        pub all_evicted :
            (c : CacheModel kind.Held B) → CacheGood kind good c → (kind.evict_all steps c).answer ≡ Ok tt
            → (k : ℕ) → waiting (kind.entries (kind.evict_all steps c).after.held) k ≡ []

      module _ (works : Works) where
        read_moves_above :
            (c : CacheModel kind.Held B) (b : ℕ) → CacheGood kind good c → b < (meaning c.below).count → 0 < (meaning c.below).grant
            → let r = cache_read kind steps c b in let m = cache_meaning kind meaning c in
            (r.answer ≡ Ok (newest (m.line b))) × Same m (cache_meaning kind meaning r.after)
        read_moves_above c b ok h g = reads (kind.lookup c.held b) (works.newest c.held b ok.held)
          where
            m : Meaning
            m = cache_meaning kind meaning c

            extra : ℕ → List Content
            extra = waiting (kind.entries c.held)

            run : Option Content → Stepped Content (CacheModel kind.Held B)
            run found = elim found [ None ↦ raised (holding c.held) (steps.read c.below b) | Some x ↦ stepped (Ok x) c ]

            reads : (found : Option Content) → Newest (extra b) found → ((run found).answer ≡ Ok (newest (m.line b))) × Same m (cache_meaning kind meaning (run found).after)
            reads None none = read_moves steps meaning good K c.below b extra ok.below h g none
            reads (Some x) is = (
              ap Ok (sym (ap newest (over_on (meaning c.below) extra g b) ∙ newest_followed ((meaning c.below).line b) (extra b) ∙ is (newest ((meaning c.below).line b)))),
              same_refl m,
            )

        -- what holds of the store below after a read holds after one above
        read_keeps :
            (P : CacheModel kind.Held B → Type 0) (c : CacheModel kind.Held B) (b : ℕ) → P (holding c.held (steps.read c.below b).after) → P c
            → P (cache_read kind steps c b).after
        read_keeps P c b p q =
            elim (kind.lookup c.held b) as
            (λ found.
            let r : Stepped Content (CacheModel kind.Held B) =
            elim found [ None ↦ raised (holding c.held) (steps.read c.below b) | Some x ↦ stepped (Ok x) c ] in
            P r.after)
            [ None ↦ p | Some x ↦ q ]

        works_runs : Runs (cache_runs kind steps) (cache_meaning kind meaning) (CacheGood kind good)
        works_runs =
            record {
              counts = λ c ok. K.counts c.below ok.below;
              powers = λ c ok. K.powers c.below ok.below;
              sound = λ c ok.
                  sound_over (meaning c.below) (waiting (kind.entries c.held)) (K.sound c.below ok.below)
                  (λ k. sized_waiting (kind.entries c.held) k (works.sized c.held ok.held));
              reads = read_moves_above;
              puts = λ c b x ok z. (works.puts c (record { block = b; content = x }) ok z).moves;
              forces = λ c b ok h g.
                  let m = cache_meaning kind meaning c in
                  let r = kind.evict steps c b in
                  let p = works.evicts c b ok in
                  let q = p.moves g in
                  moves_next (cache_meaning kind meaning) m m.line (cache_meaning kind meaning r.after).line 0 (λ k. k ≡ b) r
                  (λ _ u. raised (holding u.held) (steps.force u.below b))
                  q (λ k s. s) (λ k l s. s)
                  (λ g'.
                  force_moves steps meaning good K r.after.below b (waiting (kind.entries r.after.held)) p.ends_good.below (let n = p.count in omega arith) g'
                  (works.evicted c b ok (good_answer r.answer (q.good g'))));
              flushes = λ c ok g.
                  let m = cache_meaning kind meaning c in
                  let r = kind.evict_all steps c in
                  let p = works.evicts_all c ok in
                  let q = p.moves g in
                  moves_next (cache_meaning kind meaning) m m.line (cache_meaning kind meaning r.after).line 0 (λ k. Unit {0}) r
                  (λ _ u. raised (holding u.held) (steps.flush u.below))
                  q (λ k s. s) (λ k l s. s)
                  (λ g'.
                  flush_moves steps meaning good K r.after.below (waiting (kind.entries r.after.held)) p.ends_good.below g'
                  (works.all_evicted c ok (good_answer r.answer (q.good g'))));
              read_good = λ c b ok.
                  read_keeps (CacheGood kind good) c b (record { below = K.read_good c.below b ok.below; held = ok.held }) ok;
              put_good = λ c b x ok z _. (works.puts c (record { block = b; content = x }) ok z).ends_good z;
              force_good = λ c b ok.
                  let p = works.evicts c b ok in
                  next_keeps (CacheGood kind good) (kind.evict steps c b) (λ _ u. raised (holding u.held) (steps.force u.below b)) p.ends_good
                  (λ _. record { below = K.force_good (kind.evict steps c b).after.below b p.ends_good.below; held = p.ends_good.held });
              flush_good = λ c ok.
                  let p = works.evicts_all c ok in
                  next_keeps (CacheGood kind good) (kind.evict_all steps c) (λ _ u. raised (holding u.held) (steps.flush u.below)) p.ends_good
                  (λ _. record { below = K.flush_good (kind.evict_all steps c).after.below p.ends_good.below; held = p.ends_good.held });
            }

        pub works_keeps : Keeps (cache_steps kind steps) (cache_meaning kind meaning) (CacheGood kind good)
        works_keeps = guarding_keeps (cache_runs kind steps) (cache_meaning kind meaning) (CacheGood kind good) works_runs

        -- a call below that keeps the count
        same_within :
            (c : CacheModel kind.Held B) (s : B) → (meaning s).count ≡ (meaning c.below).count → BlocksWithin kind meaning c
            → BlocksWithin kind meaning (holding c.held s)
        same_within c s e w = within_same (meaning c.below).count (meaning s).count (kind.entries c.held) e w

        pub works_preserve : Preserves (cache_steps kind steps) (CacheGood kind good) (BlocksWithin kind meaning)
        works_preserve =
            record {
              reads = λ c b ok w.
                  guarded_keeps (BlocksWithin kind meaning) (steps.count c.below) (steps.power c.below) b c (cache_read kind steps c b) w
                  (λ _.
                  read_keeps (BlocksWithin kind meaning) c b
                  (same_within c (steps.read c.below b).after (read_count steps meaning good K c.below b ok.below) w) w);
              puts = λ c b x ok z w.
                  let e : Entry = record { block = b; content = x } in
                  guarded_keeps (BlocksWithin kind meaning) (steps.count c.below) (steps.power c.below) b c (kind.put steps c e) w
                  (λ h. (works.puts c e ok z).within (let n = K.counts c.below ok.below in omega arith) w);
              forces = λ c b ok w.
                  let r = kind.evict steps c b in
                  let p = works.evicts c b ok in
                  guarded_keeps (BlocksWithin kind meaning) (steps.count c.below) (steps.power c.below) b c (cache_force kind steps c b) w
                  (λ _.
                  next_keeps (BlocksWithin kind meaning) r (λ _ u. raised (holding u.held) (steps.force u.below b)) (p.within w)
                  (λ _. same_within r.after (steps.force r.after.below b).after (force_count steps meaning good K r.after.below b p.ends_good.below) (p.within w)));
              flushes = λ c ok w.
                  let r = kind.evict_all steps c in
                  let p = works.evicts_all c ok in
                  powered_keeps (BlocksWithin kind meaning) (steps.power c.below) c (cache_flush kind steps c) w
                  (next_keeps (BlocksWithin kind meaning) r (λ _ u. raised (holding u.held) (steps.flush u.below)) (p.within w)
                  (λ _. same_within r.after (steps.flush r.after.below).after (flush_count steps meaning good K r.after.below p.ends_good.below) (p.within w)));
            }
