use Rattle.std.proofs.Common.{arith, rules}
use Rattle.transfer.specs.Transfer.{verify_block}
use Rattle.transfer.proofs.Onward.{goes_onward, stops_there}
use Rattle.transfer.proofs.verify_blocks.Goals as goal

pub loop-block-preserved : goal.loop-block-preserved
loop-block-preserved g c = goes_onward (verify_block g.S.Store.steps) _ c.args.extent.address c.loop-block.block (omega arith) c.loop-block.invariant c.verify_block.ensures c.in_ok-verify_block.was

pub returns-in_err-verify_block : goal.returns-in_err-verify_block
returns-in_err-verify_block g c =
    let h = stops_there (verify_block g.S.Store.steps) _ c.args.extent.address c.loop-block.block c.args.extent.length (omega arith) (omega arith) c.loop-block.invariant c.verify_block.ensures c.in_err-verify_block.was in search rules
