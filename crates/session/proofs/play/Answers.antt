use Rattle.std.proofs.Common.{◌≡◌, [], ◌∷◌, ◌++◌, map, vec_items, ap, ◌∙◌, arith, rules}
use Rattle.std.proofs.lemmas.List.{map-append}
use Rattle.rbc_steps.specs.Module.{ModuleModel, made_over}
use Rattle.run_law.specs.Runs.{run}
use Rattle.run_law.proofs.Histories.{runs_safely}
use Rattle.rbc.specs.Modeled.{modeled}
use Rattle.session.specs.Sessions.{call_of, told_of, told_by, left_by}
use Rattle.session.proofs.Sessions.{Progress, played_more, played_all, ends}
use Rattle.session.proofs.play.Goals as goal

pub loop-call-preserved : goal.loop-call-preserved
loop-call-preserved g c =
    let reply = c.in_ok-reply.reply in
    let items : vec_items c.push.new.self ≡ vec_items c.loop-call.replies ++ (reply ∷ []) = search rules in
    played_more g.S.Store.steps c.args.calls.now _ c.loop-call.call-index {w' = modeled g.S.Store.model c.reply_to.new.module} (omega arith) c.loop-call.invariant c.in_ok-reply.ensures
    (ap (map told_by) items ∙ map-append told_by (vec_items c.loop-call.replies) (reply ∷ []))

pub returns : goal.returns
returns g c =
    let steps = g.S.Store.steps in
    let meaning = g.S.Store.meaning in
    let calls = map call_of c.args.calls.now in
    let start = made_over steps (g.S.Store.model c.args.store) in
    let all = played_all steps meaning c.args.calls.now _ c.loop-call.call-index (omega arith) c.loop-call.invariant in
    let made = c.make-module.ensures.value in
    let end : modeled g.S.Store.model c.loop-call.module ≡ left_by steps start calls =
    ap (λ (p : Progress g.S.Store.Model). p.target) all ∙ ap (λ (w : ModuleModel g.S.Store.Model). left_by steps w calls) made in
    record {
      replies = ap (λ (p : Progress g.S.Store.Model). p.replies) all ∙ ap (λ (w : ModuleModel g.S.Store.Model). map told_of (run steps meaning w calls)) made;
      left = end;
      safe = runs_safely steps meaning g.S.Store.good g.met.S.Store.keeps _ (g.met.S.Store.valid c.args.store) calls;
      ends = ap (λ (w : ModuleModel g.S.Store.Model). meaning w.store) end ∙ ends steps meaning start calls;
    }
