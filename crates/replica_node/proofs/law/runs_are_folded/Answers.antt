use Rattle.replica_node.proofs.Runs as runs
use Rattle.replica_node.proofs.law.runs_are_folded.Goals as goal

pub returns : goal.returns
returns c = runs.runs_are_folded
