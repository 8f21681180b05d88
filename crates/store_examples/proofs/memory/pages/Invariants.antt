use Rattle.std.proofs.Common.{◌≡◌, take, vec_items}
use Rattle.store_examples.specs.Memory.{page_memory}
use Rattle.store_examples.proofs.memory.pages.Given as goal

abbrev pub invariant-loop-page : goal.invariant-loop-page
invariant-loop-page l = vec_items l.memory ≡ page_memory (take l.page-index l.pages)
