-- The flat medium keeps a store's meaning. It stands in specs/, since an impl takes the proof of a law from there.
use Rattle.std.specs.Prelude.{◌≡◌, ℕ, ◌+◌, ◌*◌, ◌<◌, ◌≤◌, cond, ◌⊎◌, length, ◌==◌, refl}
use Rattle.std.proofs.Common.{sym, inl, inr, ⊎_elim, arith}
use Rattle.std.proofs.lemmas.Bool.{eq-eqb, ne_eqb, cases_order}
use Rattle.store.specs.Steps.{Content}
use Rattle.store.specs.Keeps.{Keeps}
use Rattle.store.proofs.Bytes.{length_placed, length_part, part_here, part_elsewhere}
use Rattle.medium.specs.Medium.{Stores, medium_steps, medium_meaning}
use Rattle.medium.proofs.MediumKeeps.{medium_keeps}
use Rattle.flat_medium.specs.Flat.{FlatModel, FlatGood, flat}

module _ (s : FlatModel) (b : ℕ) (x : Content) (ok : FlatGood s) (z : length x ≡ 512) (h : b < s.count) where
  fits : b * 512 + length x ≤ length s.bytes
  fits = let room = ok.room in omega arith

  shown_put : (k : ℕ) → flat.shown (flat.put s b x) k ≡ cond (k == b) x (flat.shown s k)
  shown_put k =
      ⊎_elim
      (λ (e : k ≡ b). rw (eq-eqb k b e, e) (part_here s.bytes x (b * 512) fits 512 (sym z)))
      (λ (n : (k < b) ⊎ (b < k)).
      rw (ne_eqb k b (omega arith))
      (part_elsewhere s.bytes x (b * 512) fits (k * 512) 512
      (⊎_elim (λ (a : k < b). inl (omega arith)) (λ (a : b < k). inr (omega arith)) n)))
      (cases_order k b)

  put_good : FlatGood (flat.put s b x)
  put_good =
      record {
        some = ok.some;
        few = ok.few;
        granted = let g = ok.granted in omega arith;
        room = let r = ok.room in let l = length_placed s.bytes x (b * 512) fits in omega arith;
      }

pub flat_stores :
    (s : FlatModel) (b : ℕ) (x : Content) → FlatGood s → length x ≡ 512 → b < s.count → Stores flat b x s (flat.put s b x)
flat_stores s b x ok z h = record { count = refl; grant = refl; shown = λ k _. shown_put s b x ok z h k }

pub flat_keeps : Keeps (medium_steps flat) (medium_meaning flat) FlatGood
flat_keeps =
    medium_keeps flat FlatGood
    (record {
      some = λ s ok. ok.some;
      few = λ s ok. ok.few;
      granted = λ s ok. ok.granted;
      sized = λ s b ok h. length_part s.bytes (b * 512) 512 (let r = ok.room in omega arith);
      stores = flat_stores;
      put_good = put_good;
    })
