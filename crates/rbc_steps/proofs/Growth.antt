-- What a write of several blocks adds to the rows, block by block.
use Rattle.std.proofs.Common.{◌≡◌, ℕ, zero, suc, ◌+◌, ◌-◌, ◌*◌, ◌<◌, ◌≤◌, Bool, true, false, cond, ◌&&◌, eqb, ltb, leb, List, [], ◌∷◌, ◌++◌, length, get_or, take, drop, sym, refl, ap, ◌∙◌, arith}
use native.Mathlib.Decide.{dec_lt}
use Rattle.std.specs.Simd.{first_chunks}
use Rattle.std.proofs.lemmas.List.{append-nil, drop-drop}
use Rattle.std.proofs.lemmas.Bool.{eqb-true, eqb-false, le-leb, lt-leb, lt-ltb, le-ltb, and_left, and_right, and_from}
use Rattle.store.specs.Steps.{Content}
use Rattle.rbc_steps.specs.Writes.{Rows, piece, added_to}

-- the row of block b, with x at its end
abbrev pub noted : Rows → ℕ → Content → Rows
noted rows b x k = cond (eqb k b) (rows k ++ (x ∷ [])) (rows k)

pub noted_more : (rows : Rows) (b : ℕ) (x : Content) (k : ℕ) → (more : List Content) × (noted rows b x k ≡ rows k ++ more)
noted_more rows b x k = go (eqb k b)
  where
    go : (same : Bool) → (more : List Content) × (cond same (rows k ++ (x ∷ [])) (rows k) ≡ rows k ++ more)
    go true = (x ∷ [], refl)
    go false = ([], sym (append-nil (rows k)))

abbrev pub grown : Rows → ℕ → ℕ → List ℕ → Rows
grown rows b n bytes k = rows k ++ added_to k b n bytes

out_of_range : (k b n : ℕ) (bytes : List ℕ) → (leb b k && ltb k (b + n)) ≡ false → added_to k b n bytes ≡ []
out_of_range k b n bytes e = ap (λ (v : Bool). cond v (piece bytes (k - b) ∷ []) []) e

added_below : (k b n : ℕ) (bytes : List ℕ) → k < b → added_to k b n bytes ≡ []
added_below k b n bytes h = out_of_range k b n bytes (and_left (leb b k) (ltb k (b + n)) (lt-leb b k h))

added_past : (k b n : ℕ) (bytes : List ℕ) → b + n ≤ k → added_to k b n bytes ≡ []
added_past k b n bytes h = out_of_range k b n bytes (and_right (leb b k) (ltb k (b + n)) (le-ltb k (b + n) h))

added_within : (k b n : ℕ) (bytes : List ℕ) → b ≤ k → k < b + n → added_to k b n bytes ≡ piece bytes (k - b) ∷ []
added_within k b n bytes h h' =
    ap (λ (v : Bool). cond v (piece bytes (k - b) ∷ []) []) (and_from (leb b k) (ltb k (b + n)) (le-leb b k h) (lt-ltb k (b + n) h'))

added_elsewhere : (k b n : ℕ) (bytes : List ℕ) → (k ≡ b + n → ⊥) → Dec (k < b) → Dec (k < b + n) → added_to k b n bytes ≡ added_to k b (suc n) bytes
added_elsewhere k b n bytes d (yes h) _ = added_below k b n bytes h ∙ sym (added_below k b (suc n) bytes h)
added_elsewhere k b n bytes d (no h) (yes i) = added_within k b n bytes (omega arith) i ∙ sym (added_within k b (suc n) bytes (omega arith) (omega arith))
added_elsewhere k b n bytes d (no h) (no i) = added_past k b n bytes (omega arith) ∙ sym (added_past k b (suc n) bytes (omega arith))

-- the first n blocks, and then one more
pub grown_step : (rows : Rows) (b n : ℕ) (bytes : List ℕ) (k : ℕ) → noted (grown rows b n bytes) (b + n) (piece bytes n) k ≡ grown rows b (suc n) bytes k
grown_step rows b n bytes k = go (eqb k (b + n)) refl
  where
    go : (same : Bool) → eqb k (b + n) ≡ same → cond same (grown rows b n bytes k ++ (piece bytes n ∷ [])) (grown rows b n bytes k) ≡ grown rows b (suc n) bytes k
    go true e =
        let h : k ≡ b + n = eqb-true k (b + n) e in
        ap (λ (xs : List Content). (rows k ++ xs) ++ (piece bytes n ∷ [])) (added_past k b n bytes (omega arith))
        ∙ ap (λ (xs : List Content). xs ++ (piece bytes n ∷ [])) (append-nil (rows k))
        ∙ ap (λ (i : ℕ). rows k ++ (piece bytes i ∷ [])) (let i : n ≡ k - b = omega arith in i)
        ∙ ap (λ (xs : List Content). rows k ++ xs) (sym (added_within k b (suc n) bytes (omega arith) (omega arith)))
    go false e = ap (λ (xs : List Content). rows k ++ xs) (added_elsewhere k b n bytes (eqb-false k (b + n) e) (dec_lt k b) (dec_lt k (b + n)))

pub grown_none : (rows : Rows) (b : ℕ) (bytes : List ℕ) (k : ℕ) → rows k ≡ grown rows b 0 bytes k
grown_none rows b bytes k = sym (ap (λ (xs : List Content). rows k ++ xs) (none (dec_lt k b)) ∙ append-nil (rows k))
  where
    none : Dec (k < b) → added_to k b 0 bytes ≡ []
    none (yes h) = added_below k b 0 bytes h
    none (no h) = added_past k b 0 bytes (omega arith)

pub length_chunked : (n : ℕ) (bytes : List ℕ) → length (first_chunks 512 n bytes) ≡ n
length_chunked zero bytes = refl
length_chunked (suc n) bytes = ap suc (length_chunked n (drop 512 bytes))

pub chunk : (n i : ℕ) (bytes : List ℕ) → i < n → get_or (first_chunks 512 n bytes) i [] ≡ piece bytes i
chunk zero i bytes h = absurd (omega arith)
chunk (suc n) zero bytes h = refl
chunk (suc n) (suc i) bytes h =
    chunk n i (drop 512 bytes) (omega arith)
    ∙ ap (take 512) (drop-drop (512 * i) 512 bytes ∙ ap (λ (m : ℕ). drop m bytes) (let j : 512 + 512 * i ≡ 512 * suc i = omega arith in j))
