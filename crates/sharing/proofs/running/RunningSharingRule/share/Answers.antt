use Rattle.std.proofs.Common.{arith}
use Rattle.sharing.specs.Telescoping.{running_code, running_ordered}
use Rattle.sharing.proofs.running.RunningSharingRule.share.Goals as goal

pub overflow_sub-result : goal.overflow_sub-result
overflow_sub-result c =
    running_ordered c.of-counted.result c.args.fund c.args.party _ _ _ (omega arith) c.up_to.ensures c.up_to-2.ensures c.total-total.ensures.value c.total-total.ensures.some

pub returns : goal.returns
returns c =
    rw (← c.of-counted.ensures.value)
    (running_code c.of-counted.result c.args.fund c.args.party _ _ _ (omega arith) c.up_to.ensures c.up_to-2.ensures c.total-total.ensures.value)
