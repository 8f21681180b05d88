use Rattle.std.proofs.Common.{◌≡◌, take, vec_items}
use Rattle.store_examples.specs.Memory.{block_memory}
use Rattle.store_examples.proofs.memory.blocks.Given as goal

abbrev pub invariant-loop-byte : goal.invariant-loop-byte
invariant-loop-byte l = vec_items l.memory ≡ block_memory (take l.byte-index l.bytes)
