use Rattle.cache.specs.Kinds.{cache_steps, cache_meaning, CacheGood, BlocksWithin}
use Rattle.worked_examples.proofs.StoreCalls.{preserved}
use Rattle.worked_examples.proofs.caches_stay_within.Goals as goal

pub returns : goal.returns
returns g c =
    let kind = g.B.Buffer.kind in
    let s = g.S.Store in
    preserved (cache_steps kind s.steps) (cache_meaning kind s.meaning) (CacheGood kind s.good) (BlocksWithin kind s.meaning) g.met.B.Buffer.keeps g.met.B.Buffer.preserves
