-- What the ladder says of a command that passes it, and of a refusal.
use Rattle.std.proofs.Common.{◌≡◌, ℕ, ◌<◌, Bool, true, cond, not, ◌||◌, ltb, leb, List, ◌++◌, Ok, Err, Result, sym, refl, ap, ◌∙◌, subst, ap₂, arith}
use mathlib.Core.Path.{fun_ext}
use Rattle.std.proofs.lemmas.Bool.{and_parts, lt-ltb}
use Rattle.sense.specs.declared.CommandError.{CommandError}
use Rattle.sense.specs.declared.CommandError.TheVariants as error
use Rattle.sense.specs.declared.Attention.{Attention}
use Rattle.sense.specs.declared.Attention.TheVariants.{PowerOnOrReset, MediumChanged, ParametersChanged}
use Rattle.sense.specs.Report.{Refused}
use Rattle.sense.specs.Ladder.{Rung, first_no, unless_refused}
use Rattle.sense.proofs.Ladders.{after, first_no_append, all_hold, passed, stopped, Refusals, refuses, ordinary}
use Rattle.commands.specs.Order.{Order}
use Rattle.cdb.specs.Decoding.{opcode_of, order_by, cdb_rungs, decoded}
use Rattle.commands.specs.Requirements.{passes_reservation, in_range, supplied, returned}
use Rattle.logical_unit.specs.declared.LogicalUnit.{LogicalUnit}
use Rattle.logical_unit.specs.State.{pending}
use Rattle.ladder.specs.Ladder.{held_by_other, told, standing_rungs, data_rungs, command_rungs, ladder, judged}

-- a decoded command, and what it then goes through
abbrev bound : Result Order CommandError → (Order → Result Order CommandError) → Result Order CommandError
bound (Ok o) f = f o
bound (Err a) f = Err a

split : (c : Result (Unit {0}) CommandError) (r : Order → Result (Unit {0}) CommandError) (o : Order)
    → unless_refused (after c (r o)) o ≡ bound (unless_refused c o) (λ o'. unless_refused (r o') o')
split (Ok u) r o = refl
split (Err a) r o = refl

module _ (u : LogicalUnit) (h : ℕ) (power : Bool) (count : ℕ) (cdb out : List ℕ) (room : ℕ) where
  abbrev tests : Order → List Rung
  tests o = command_rungs u h count room o

  -- once the host is known and power is on: the CDB, then the two groups of the command's tests
  judged_on :
      ltb h 4 ≡ true → power ≡ true
      → judged u h power count cdb out room
      ≡ bound (decoded cdb out) (λ o. unless_refused (after (first_no (standing_rungs u h o)) (first_no (data_rungs u count room o))) o)
  judged_on known on =
      let o = order_by (opcode_of cdb) cdb out in
      ap₂ (λ (v w : Bool). unless_refused (cond v (cond w (first_no (cdb_rungs (opcode_of cdb) cdb ++ tests o)) (Err error.PowerOff)) (Err error.NoSuchHost)) o) known on
      ∙ ap (λ (r : Result (Unit {0}) CommandError). unless_refused r o) (first_no_append (cdb_rungs (opcode_of cdb) cdb) (tests o))
      ∙ split (first_no (cdb_rungs (opcode_of cdb) cdb)) (λ o'. first_no (tests o')) o
      ∙ ap (λ (f : Order → Result (Unit {0}) CommandError). bound (decoded cdb out) (λ o'. unless_refused (f o') o')) (fun_ext (λ o'. first_no_append (standing_rungs u h o') (data_rungs u count room o')))

  -- how the first refusal comes about, and how there is none
  module _ (known : h < 4) (on : power ≡ true) where
    pub no_command : {a : CommandError} → Err a ≡ decoded cdb out → Err a ≡ judged u h power count cdb out room
    no_command d =
        ap (λ (r : Result Order CommandError). bound r (λ o. unless_refused (after (first_no (standing_rungs u h o)) (first_no (data_rungs u count room o))) o)) d
        ∙ sym (judged_on (lt-ltb h 4 known) on)

    goes_on : {o : Order} (v w : Result (Unit {0}) CommandError) → Ok o ≡ decoded cdb out → v ≡ first_no (standing_rungs u h o) → w ≡ first_no (data_rungs u count room o)
        → unless_refused (after v w) o ≡ judged u h power count cdb out room
    goes_on {o} v w d i j =
        ap₂ (λ (r r' : Result (Unit {0}) CommandError). unless_refused (after r r') o) i j
        ∙ ap (λ (r : Result Order CommandError). bound r (λ o'. unless_refused (after (first_no (standing_rungs u h o')) (first_no (data_rungs u count room o'))) o')) d
        ∙ sym (judged_on (lt-ltb h 4 known) on)

    pub not_admitted : {o : Order} {a : CommandError} → Ok o ≡ decoded cdb out → Err a ≡ first_no (standing_rungs u h o) → Err a ≡ judged u h power count cdb out room
    not_admitted {o} {a} d i = goes_on (Err a) (first_no (data_rungs u count room o)) d i refl

    pub not_accepted : {o : Order} {a : CommandError} → Ok o ≡ decoded cdb out → Ok tt ≡ first_no (standing_rungs u h o) → Err a ≡ first_no (data_rungs u count room o)
        → Err a ≡ judged u h power count cdb out room
    not_accepted {a} d i j = goes_on (Ok tt) (Err a) d i j

    pub runs_on : {o : Order} → Ok o ≡ decoded cdb out → Ok tt ≡ first_no (standing_rungs u h o) → Ok tt ≡ first_no (data_rungs u count room o) → Ok o ≡ judged u h power count cdb out room
    runs_on d i j = goes_on (Ok tt) (Ok tt) d i j

  -- a command that passes every test
  pub record Passes (o : Order) : Type 0 where
    pub powered : power ≡ true
    pub decodes : decoded cdb out ≡ Ok o
    pub free : (not (held_by_other u.holder h) || passes_reservation o) ≡ true
    pub ranged : in_range count o ≡ true
    pub given : supplied o ≡ true

  pub judged_yes : (o : Order) → judged u h power count cdb out room ≡ Ok o → Passes o
  judged_yes o e =
      let k = opcode_of cdb in
      let p = passed (first_no (ladder u h power count cdb out room)) (order_by k cdb out) o e in
      let a = all_hold (ladder u h power count cdb out room) p.0 in
      let known = a.1.1.0 in
      let long = a.1.1.1.0 in
      let clear = a.1.1.1.1.0 in
      let rest = a.1.1.1.1.1 in
      subst Passes p.1
      (record {
        powered = a.1.0;
        decodes = rw (known, long, clear) refl;
        free = rest.1.0;
        ranged = rest.1.1.1.1.1.0;
        given = (and_parts (supplied (order_by k cdb out)) (leb (returned (order_by k cdb out)) room) rest.1.1.1.1.1.1.1.1.1.0).0;
      })

  attention_refused : (a : Attention) → Refused power (Err (error.UnitAttention a))
  attention_refused PowerOnOrReset = ordinary power (Err (error.UnitAttention PowerOnOrReset)) refl refl
  attention_refused MediumChanged = ordinary power (Err (error.UnitAttention MediumChanged)) refl refl
  attention_refused ParametersChanged = ordinary power (Err (error.UnitAttention ParametersChanged)) refl refl

  refusals : Refusals power (ladder u h power count cdb out room)
  refusals = (
    λ _. ordinary power (Err error.NoSuchHost) refl refl,
    (
      λ off. record { not_good = λ e. omega arith; not_lost = λ _. off },
      (
        λ _. ordinary power (Err error.InvalidOpcode) refl refl,
        (
          λ _. ordinary power (Err error.ShortCdb) refl refl,
          (
            λ _. ordinary power (Err error.ControlSet) refl refl,
            (
              λ _. attention_refused (told (pending u h)),
              (
                λ _. ordinary power (Err error.ReservationConflict) refl refl,
                (
                  λ _. ordinary power (Err error.InvalidField) refl refl,
                  (
                    λ _. ordinary power (Err error.MediumNotPresent) refl refl,
                    (
                      λ _. ordinary power (Err error.NotReady) refl refl,
                      (
                        λ _. ordinary power (Err error.AddressOutOfRange) refl refl,
                        (
                          λ _. ordinary power (Err error.WriteProtected) refl refl,
                          (
                            λ _. ordinary power (Err error.RemovalPrevented) refl refl,
                            (
                              λ _. ordinary power (Err error.ListLengthError) refl refl,
                              (
                                λ _. ordinary power (Err error.DataPhaseError) refl refl,
                                (λ _. ordinary power (Err error.InvalidParameter) refl refl, tt),
                              ),
                            ),
                          ),
                        ),
                      ),
                    ),
                  ),
                ),
              ),
            ),
          ),
        ),
      ),
    ),
  )

  -- the first no is a refusal
  pub judged_no : (a : CommandError) → judged u h power count cdb out room ≡ Err a → Refused power (Err a)
  judged_no a e =
      refuses power (ladder u h power count cdb out room) refusals a
      (stopped (first_no (ladder u h power count cdb out room)) (order_by (opcode_of cdb) cdb out) a e)
