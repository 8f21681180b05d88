-- An answer from its number.
use Rattle.std.proofs.Common.{◌≡◌, Ok, Err, refl, arith}
use Rattle.store.specs.declared.StoreError.TheVariants.{PowerOff, NoSuchBlock}
use Rattle.store.specs.Steps.{Answer, number}

pub good_answer : (r : Answer (Unit {0})) → number r ≡ 0 → r ≡ Ok tt
good_answer (Ok u) e = refl
good_answer (Err PowerOff) e = absurd (omega arith)
good_answer (Err NoSuchBlock) e = absurd (omega arith)

pub lost_answer : {A : Type 0} (r : Answer A) → number r ≡ 1 → r ≡ Err PowerOff
lost_answer (Ok a) e = absurd (omega arith)
lost_answer (Err PowerOff) e = refl
lost_answer (Err NoSuchBlock) e = absurd (omega arith)

pub outside_answer : {A : Type 0} (r : Answer A) → number r ≡ 2 → r ≡ Err NoSuchBlock
outside_answer (Ok a) e = absurd (omega arith)
outside_answer (Err PowerOff) e = absurd (omega arith)
outside_answer (Err NoSuchBlock) e = refl
