use Rattle.partition_law.proofs.Agreement.{agree}
use Rattle.partition_law.proofs.law.partitions_agree.Goals as goal

pub returns : goal.returns
returns c = agree
