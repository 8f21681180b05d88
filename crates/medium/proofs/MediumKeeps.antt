-- A medium whose stores show what they should keeps a store's meaning.
use Rattle.std.proofs.Common.{◌≡◌, ℕ, zero, suc, ◌-◌, ◌<◌, ◌≤◌, true, false, cond, eqb, ltb, [], ◌∷◌, length, Ok, Err, refl, ap, inl, inr, arith}
use Rattle.std.proofs.lemmas.Bool.{cond-true, cond-false, lt-ltb, le-ltb}
use Rattle.store.specs.declared.StoreError.TheVariants.{PowerOff}
use Rattle.store.specs.Steps.{Content, number}
use Rattle.store.specs.Meaning.{Meaning, sum_below, added, Thins, Survives}
use Rattle.store.specs.Meaning.Thinned.{none, keep, strike}
use Rattle.store.specs.Keeps.{Moves, Keeps}
use Rattle.store.proofs.Lines.{thins_refl}
use Rattle.store.proofs.Guards.{same_refl, Runs, guarding_keeps}
use Rattle.store.proofs.Moving.{rests}
use Rattle.medium.specs.Medium.{Medium, Stores, stored, medium_runs, medium_steps, medium_meaning}

none_held : (n : ℕ) → sum_below n (λ b. 0) ≡ 0
none_held zero = refl
none_held (suc n) = let h = none_held n in omega arith

-- what a medium's implementation shows of its good states
pub record Sure {M : Type 0} (medium : Medium M) (good : M → Type 0) : Type 0 where
  pub some : (s : M) → good s → 1 ≤ medium.count s
  pub few : (s : M) → good s → medium.count s ≤ 16777216
  pub granted : (s : M) → good s → medium.grant s ≤ 4294967295
  pub sized : (s : M) (b : ℕ) → good s → b < medium.count s → length (medium.shown s b) ≡ 512
  pub stores : (s : M) (b : ℕ) (x : Content) → good s → length x ≡ 512 → b < medium.count s → Stores medium b x s (medium.put s b x)
  pub put_good : (s : M) (b : ℕ) (x : Content) → good s → length x ≡ 512 → b < medium.count s → good (medium.put s b x)

module _ {M : Type 0} (medium : Medium M) (good : M → Type 0) (sure : Sure medium good) where
  m : M → Meaning
  m = medium_meaning medium

  put_moves :
      (s : M) (b : ℕ) (x : Content) → good s → length x ≡ 512 → b < medium.count s → 0 < medium.grant s
      → Moves (m s) (added (m s).line b x) 1 (λ k. ⊥) (stored (medium.grant s - 1)) (m (medium.put s b x))
  unfolding m
  put_moves s b x ok z h g =
      let p = sure.stores s b x ok z h in
      let left = medium.grant s - 1 in
      record {
        count = p.count;
        falls = let e = p.grant in omega arith;
        stores =
            let e = p.grant in
            let a = none_held (medium.count s) in
            let c = none_held (medium.count (medium.put s b x)) in
            omega arith;
        good = λ l. let e = p.grant in ap number (cond-true (ltb 0 left) (Ok tt) (Err PowerOff) (lt-ltb 0 left (omega arith)));
        thins = λ _ k l.
            rw (p.shown k l)
            (elim (eqb k b) as
            (λ t. Thins (cond t (record { first = medium.shown s k; later = x ∷ [] }) (record { first = medium.shown s k; later = [] })) (record { first = cond t x (medium.shown s k); later = [] }))
            [ true ↦ record { thinned = strike (keep none); shown = refl } | false ↦ thins_refl (record { first = medium.shown s k; later = [] }) ]);
        cleans = λ _ k l w. absurd w;
        lost = λ o. let e = p.grant in ap number (cond-false (ltb 0 left) (Ok tt) (Err PowerOff) (le-ltb 0 left (omega arith)));
        survives = λ _ k l.
            rw (p.shown k l)
            (elim (eqb k b) as
            (λ t. Survives (cond t (record { first = medium.shown s k; later = x ∷ [] }) (record { first = medium.shown s k; later = [] })) (record { first = cond t x (medium.shown s k); later = [] }))
            [ true ↦ record { single = refl; among = inr (inl refl) } | false ↦ record { single = refl; among = inl refl } ]);
      }

  runs_well : Runs (medium_runs medium) (medium_meaning medium) good
  unfolding m
  runs_well =
      record {
        counts = λ s ok. refl;
        powers = λ s ok. refl;
        sound = λ s ok.
            record {
              some = sure.some s ok;
              few = sure.few s ok;
              bounded = sure.granted s ok;
              sized = λ b h. (sure.sized s b ok h, tt);
              off = λ _ b h. refl;
            };
        reads = λ s b ok h g. (refl, same_refl (m s));
        puts = put_moves;
        forces = λ s b ok h g. rests (m s) (m s) (λ k. k ≡ b) (same_refl (m s)) g (λ k _ _. refl);
        flushes = λ s ok g. rests (m s) (m s) (λ k. Unit {0}) (same_refl (m s)) g (λ k _ _. refl);
        read_good = λ s b ok. ok;
        put_good = sure.put_good;
        force_good = λ s b ok. ok;
        flush_good = λ s ok. ok;
      }

  pub medium_keeps : Keeps (medium_steps medium) (medium_meaning medium) good
  medium_keeps = guarding_keeps (medium_runs medium) (medium_meaning medium) good runs_well
