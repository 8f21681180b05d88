use Rattle.std.proofs.Common.{◌+◌, ◌-◌, drop, ◌∙◌, arith}
use Rattle.std.proofs.lemmas.List.{take-take}
use Rattle.std.proofs.lemmas.Option.{MatchOption-at_some}
use Rattle.medium.proofs.memory.array_at.Goals as goal

pub returns : goal.returns
returns g c =
    let memory = c.args.memory.now in
    let first = MatchOption-at_some _ _ c.unwrap.result c.unwrap.ensures c.first_chunk.ensures.cases in
    first.same ∙ take-take g.row.N (c.args.at + g.row.N - c.args.at) (drop c.args.at memory) (omega arith)
