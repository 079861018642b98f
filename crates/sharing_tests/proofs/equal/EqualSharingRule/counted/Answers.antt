use Rattle.std.proofs.Common.{sym}
use Rattle.sharing_tests.specs.Equally.{ones_at}
use Rattle.sharing_tests.proofs.equal.EqualSharingRule.counted.Goals as goal

pub returns : goal.returns
returns c = sym (ones_at c.args.given.now c.args.party c.requires)
