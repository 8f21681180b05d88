-- Parts of a list of bytes once some are placed in it, and numbers of four bytes.
use Rattle.std.proofs.Common.{◌≡◌, ℕ, ◌+◌, ◌-◌, ◌/◌, ◌<◌, ◌≤◌, ◌⊎◌, List, ◌++◌, length, take, drop, sym, refl, ap, ◌∙◌, ⊎_elim, arith, length-append, length-drop, length-take}
use native.Mathlib.Nat.{div-div-eq-div-mul}
use Rattle.std.proofs.lemmas.List.{take_at, drop_at, drop-drop, drop-append-le, take-append-le, drop-take, take-take}
use Rattle.store.specs.Bytes.{part, placed, from_be32, to_be32}

pub from_to_be32 : (n : ℕ) → n < 4294967296 → from_be32 (to_be32 n) ≡ n
from_to_be32 n h =
    let a : n / 65536 ≡ n / 256 / 256 = sym (div-div-eq-div-mul n 256 256) in
    let b : n / 16777216 ≡ n / 256 / 256 / 256 = sym (ap (λ q. q / 256) (div-div-eq-div-mul n 256 256) ∙ div-div-eq-div-mul n 65536 256) in
    rw (a, b) (omega arith)

pub length_part : (bytes : List ℕ) (at n : ℕ) → at + n ≤ length bytes → length (part bytes at n) ≡ n
length_part bytes at n h = simp (length-take, length-drop) (omega arith)

module _ (bytes xs : List ℕ) (at : ℕ) (fits : at + length xs ≤ length bytes) where
  pub length_placed : length (placed bytes at xs) ≡ length bytes
  length_placed = simp (length-append, length-take, length-drop) (omega arith)

  front_length : length (take at bytes) ≡ at
  front_length = simp length-take (omega arith)

  drop_front : drop at (placed bytes at xs) ≡ xs ++ drop (at + length xs) bytes
  drop_front = drop_at (take at bytes) (xs ++ drop (at + length xs) bytes) at front_length

  pub part_here : (n : ℕ) → n ≡ length xs → part (placed bytes at xs) at n ≡ xs
  part_here n e = ap (take n) drop_front ∙ take_at xs (drop (at + length xs) bytes) n (sym e)

  drop_back : drop (at + length xs) (placed bytes at xs) ≡ drop (at + length xs) bytes
  drop_back =
      sym (drop-drop (length xs) at (placed bytes at xs))
      ∙ ap (drop (length xs)) drop_front
      ∙ drop_at xs (drop (at + length xs) bytes) (length xs) refl

  before : (a n : ℕ) → a + n ≤ at → part (placed bytes at xs) a n ≡ part bytes a n
  before a n h =
      let front = take at bytes in
      let back = xs ++ drop (at + length xs) bytes in
      let l = front_length in
      let m = at - a in
      let e : a + m ≡ at = omega arith in
      ap (take n) (drop-append-le a front back (omega arith))
      ∙ take-append-le n (drop a front) back (simp length-drop (omega arith))
      ∙ ap (λ k. take n (drop a (take k bytes))) (sym e)
      ∙ ap (take n) (drop-take a m bytes)
      ∙ take-take n m (drop a bytes) (omega arith)

  -- what stands behind the placed bytes
  pub drop_behind : (a : ℕ) → at + length xs ≤ a → drop a (placed bytes at xs) ≡ drop a bytes
  drop_behind a h =
      let e = at + length xs in
      let r = a - e in
      let s : e + r ≡ a = omega arith in
      ap (λ k. drop k (placed bytes at xs)) (sym s)
      ∙ sym (drop-drop r e (placed bytes at xs))
      ∙ ap (drop r) drop_back
      ∙ drop-drop r e bytes
      ∙ ap (λ k. drop k bytes) s

  pub part_elsewhere : (a n : ℕ) → (a + n ≤ at) ⊎ (at + length xs ≤ a) → part (placed bytes at xs) a n ≡ part bytes a n
  part_elsewhere a n e = ⊎_elim (before a n) (λ (h : at + length xs ≤ a). ap (take n) (drop_behind a h)) e
