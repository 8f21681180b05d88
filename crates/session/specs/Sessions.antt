-- Sessions: the calls that a program makes on a new module, and the replies that it gets.
use Rattle.std.specs.Prelude.{◌≡◌, ℕ, List, [], ◌∷◌, map, length, take, vec_items}
use Rattle.store.specs.Steps.{Steps}
use Rattle.store.specs.Meaning.{Meaning}
use Rattle.sense.specs.Report.{Answer, report}
use Rattle.rbc_steps.specs.Module.{ModuleModel, made_over}
use Rattle.rbc_steps.specs.Calls.{Call, Command, Reset, Event, called}
use Rattle.run_law.specs.Runs.{run, meaning_at}
use Rattle.run_law.specs.Law.{Safe}
use Rattle.session.specs.declared.Call.{Call as Given}
use Rattle.session.specs.declared.Call.TheVariants as given
use Rattle.session.specs.declared.Reply.{Reply as Got}

-- the call, by what its references point to
abbrev pub call_of : Given → Call
call_of given.Reset = Reset
call_of (given.Command h cdb out into) = Command (record { host = h; cdb = cdb.now; data_out = out.now; data_in = into.now })

-- what the host gets to know: the answer, and the bytes that it counts
pub record Told : Type 0 where
  pub answer : Answer
  pub bytes : List ℕ

abbrev pub told : Answer → List ℕ → Told
told a data_in = record { answer = a; bytes = take (report a).count data_in }

abbrev pub told_by : Got → Told
told_by r = record { answer = r.answer; bytes = vec_items r.«data» }

abbrev pub told_of : Event → Told
told_of e = told e.answer e.data_in

-- The call c on the module w: the reply t, and the module that it leaves.
pub record Heard {M : Type 0} (steps : Steps M) (w : ModuleModel M) (c : Call) (t : Told) (after : ModuleModel M) : Type 0 where
  pub reply : t ≡ told (called steps w c).answer (called steps w c).after.data_in
  pub left : after ≡ (called steps w c).after.target

-- the module that a list of calls leaves
abbrev pub left_by : {M : Type 0} → Steps M → ModuleModel M → List Call → ModuleModel M
left_by steps w [] = w
left_by steps w (c ∷ cs) = left_by steps (called steps w c).after.target cs

-- The calls on a module made over m: their replies, the module at the end, and the law of their run.
pub record Played {M : Type 0} (steps : Steps M) (meaning : M → Meaning) (m : M) (calls : List Call) (got : List Told) (end : ModuleModel M) : Type 0 where
  pub replies : got ≡ map told_of (run steps meaning (made_over steps m) calls)
  pub left : end ≡ left_by steps (made_over steps m) calls
  pub safe : Safe (meaning (made_over steps m).store) (run steps meaning (made_over steps m) calls)
  -- the law's last time is the end
  pub ends : meaning end.store ≡ meaning_at (meaning (made_over steps m).store) (run steps meaning (made_over steps m) calls) (length calls)
