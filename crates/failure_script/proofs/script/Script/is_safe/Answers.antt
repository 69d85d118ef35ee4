use Rattle.std.proofs.lemmas.Bool.Decides.{Decides-at}
use Rattle.std.proofs.Common.{rules}
use Rattle.failure_script.specs.Orders.{are_safe}
use Rattle.failure_script.proofs.SafeScripts.{are_safe_Decides}
use Rattle.failure_script.proofs.script.Script.is_safe.Goals as goal

pub returns : goal.returns
returns c = Decides-at c.are_safe.result (are_safe c.args.self.now) (search rules) (are_safe_Decides c.args.self.now)
