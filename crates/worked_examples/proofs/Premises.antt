-- What stands in the premises of the law over runs.
use Rattle.std.proofs.Common.{◌≡◌, ℕ, Bool, true, false, eqb, [], replicate, Ok, Err, Result, refl, ap, ◌∙◌, inl, inr}
use Rattle.std.proofs.lemmas.Bool.{eqb-false, true≢false}
use Rattle.sense.specs.declared.CommandError.{CommandError}
use Rattle.sense.specs.declared.CommandError.TheVariants.{NoSuchHost, ReservationConflict, AddressOutOfRange}
use Rattle.sense.specs.Report.{number, Refused}
use Rattle.sense.proofs.Ladders.{ordinary}
use Rattle.commands.specs.Order.{Order, code}
use Rattle.cdb.specs.Decoding.{decoded}
use Rattle.rbc_steps.specs.Module.{made_over}
use Rattle.rbc_steps.specs.Calls.{Call, Command, Reset, Event, event}
use Rattle.run_law.specs.Law.{Frees}
use Rattle.worked_examples.specs.Examples.{flat_steps, zero_blocks, six, ten}
use Rattle.worked_examples.specs.RunScenes.{flat_meaning, asking, seen_on, held_by_0, unpowered, Premises}

abbrev order_code : Result Order CommandError → ℕ
order_code (Ok o) = code o
order_code (Err e) = 0xfe

-- the operation code of a call, and its host
abbrev call_code : Call → ℕ
call_code (Command q) = order_code (decoded q.cdb q.data_out)
call_code Reset = 0xff

abbrev call_host : Call → ℕ
call_host (Command q) = q.host
call_host Reset = 4

-- what ends a host's reservation is a good RELEASE of this host, or a good RESET
ends_by :
    (host : ℕ) (e : Event) → Frees host e → (number e.answer ≡ 0 → call_code e.call ≡ 0x17 → call_host e.call ≡ host → ⊥)
    → (number e.answer ≡ 0 → call_code e.call ≡ 0xff → ⊥) → ⊥
ends_by host e (inl w) release reset =
    release w.1.good (ap (λ (c : Call). call_code c) w.1.call ∙ ap (λ (r : Result Order CommandError). order_code r) w.1.order) (ap (λ (c : Call). call_host c) w.1.call ∙ w.2)
ends_by host e (inr w) release reset = reset w.1 (ap (λ (c : Call). call_code c) w.0)

not_zero : (e : CommandError) → eqb (number (Err e)) 0 ≡ false
not_zero NoSuchHost = refl
not_zero _ = refl

each_number : (power : Bool) (e : CommandError) → (number (Err e) ≡ 2 → ⊥) → Refused power (Err e)
each_number power e d = record { not_good = eqb-false (number (Err e)) 0 (not_zero e); not_lost = λ i. absurd (d i) }

pub premises : Premises
premises =
    record {
      reserve_is_good = record { call = refl; order = refl; good = refl };
      read_is_good = record { call = refl; order = refl; good = refl };
      synchronize_is_good = record { call = refl; order = refl; good = refl };
      own_release_ends_it = inl (asking 0 (six 0x17 0 0) [], record { call = refl; order = refl; good = refl }, refl);
      reset_ends_it = inr (refl, refl);
      read_does_not =
          λ w. ends_by 0 (seen_on held_by_0 (asking 0 (ten 0x28 0 1) [])) w (λ n c h. eqb-false 0x28 0x17 refl c) (λ n c. eqb-false 0x28 0xff refl c);
      other_release_does_not =
          λ w. ends_by 0 (seen_on held_by_0 (asking 1 (six 0x17 0 0) [])) w (λ n c h. eqb-false 1 0 refl h) (λ n c. eqb-false 0x17 0xff refl c);
      other_write_does_not =
          λ w. ends_by 0 (seen_on held_by_0 (asking 1 (ten 0x2a 0 1) (replicate 512 7))) w (λ n c h. eqb-false 7 0 refl n) (λ n c. eqb-false 7 0 refl n);
      refused_release_does_not =
          λ w. ends_by 0 (seen_on (made_over flat_steps (zero_blocks 1000)) (asking 0 (six 0x17 0 0) [])) w (λ n c h. eqb-false 6 0 refl n) (λ n c. eqb-false 6 0 refl n);
      reset_without_power_does_not =
          λ w. ends_by 0 (event flat_steps flat_meaning unpowered Reset) w (λ n c h. eqb-false 2 0 refl n) (λ n c. eqb-false 2 0 refl n);
      range_is_a_refusal = ordinary true (Err AddressOutOfRange) refl refl;
      conflict_is_a_refusal = ordinary true (Err ReservationConflict) refl refl;
      unknown_host_is_a_refusal = ordinary true (Err NoSuchHost) refl refl;
      no_power_is_a_refusal = record { not_good = eqb-false 2 0 refl; not_lost = λ i. refl };
      each_number_is_a_refusal = each_number;
      good_is_none = λ r. r.not_good refl;
      lost_write_is_none = λ r. true≢false (r.not_lost refl);
    }
