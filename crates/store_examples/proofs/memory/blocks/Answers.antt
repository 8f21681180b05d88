use Rattle.std.proofs.Common.{ℕ, List, [], replicate, take, get_or, sym, ap, ◌∙◌, arith, rules}
use Rattle.std.proofs.lemmas.List.{take_all, take_more, flat_map_more}
use Rattle.store_examples.specs.Memory.{block_memory}
use Rattle.store_examples.proofs.memory.blocks.Goals as goal

pub loop-byte-preserved : goal.loop-byte-preserved
loop-byte-preserved c =
    let bytes = c.args.bytes.now in
    let i = c.loop-byte.byte-index in
    let block : ℕ → List ℕ = λ byte. replicate 512 byte in
    rw (c.in_ok-extend_from_slice.ensures.items, c.filled.ensures, c.loop-byte.invariant)
    (flat_map_more block [] (take i bytes) (get_or bytes i 0) ∙ ap block_memory (sym (take_more bytes i 0 (omega arith))))

pub returns : goal.returns
returns c = search (rules, take_all)
