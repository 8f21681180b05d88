-- The module's calls, and what can be seen of each.
use Rattle.std.specs.Prelude.{◌≡◌, ℕ, Bool, List, [], Ok}
use Rattle.store.specs.Steps.{Steps}
use Rattle.store.specs.Meaning.{Meaning}
use Rattle.sense.specs.Report.{Answer, number}
use Rattle.commands.specs.Order.{Order}
use Rattle.cdb.specs.Decoding.{decoded}
use Rattle.rbc_steps.specs.Module.{ModuleModel, Exchange, exchange, Reply, replied, commanded, reset}

-- the arguments of COMMAND
pub record Request : Type 0 where
  pub host : ℕ
  pub cdb : List ℕ
  pub data_out : List ℕ
  -- as the command finds it
  pub data_in : List ℕ

pub data Call : Type 0 where
  Command : Request → Call
  Reset : Call

pub record Event : Type 0 where
  pub call : Call
  pub answer : Answer
  -- after the call
  pub data_in : List ℕ
  -- whether power was on before the call
  pub powered : Bool
  -- what the store means after the call
  pub meaning : Meaning

abbrev pub called : {M : Type 0} → Steps M → ModuleModel M → Call → Reply (Exchange M)
called steps w (Command q) = commanded steps q.host q.cdb q.data_out (exchange w q.data_in)
called steps w Reset = let r = reset steps w in replied r.answer (exchange r.after [])

-- what is seen of a call and its reply
abbrev pub seen : {M : Type 0} → (M → Meaning) → Call → Bool → Reply (Exchange M) → Event
seen meaning c powered r =
    record { call = c; answer = r.answer; data_in = r.after.data_in; powered = powered; meaning = meaning r.after.target.store }

abbrev pub event : {M : Type 0} → Steps M → (M → Meaning) → ModuleModel M → Call → Event
event steps meaning w c = seen meaning c (steps.power w.store) (called steps w c)

-- e is a good command o
pub record Good (o : Order) (q : Request) (e : Event) : Type 0 where
  pub call : e.call ≡ Command q
  pub order : decoded q.cdb q.data_out ≡ Ok o
  pub good : number e.answer ≡ 0
