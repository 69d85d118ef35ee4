use Rattle.std.specs.Prelude.{string_bytes}
use Rattle.input_faults.proofs.AllFacts.{told_none, told_some}
use Rattle.input_faults.proofs.all.push_fault.Goals as goal

pub returns-in-None-clause-told : goal.returns-in-None-clause-told
returns-in-None-clause-told g c = λ before numbered so_far. rw c.in-None.is (told_none _ before _ _ so_far)

pub returns-in_ok-push_line-in-Some-clause-told : goal.returns-in_ok-push_line-in-Some-clause-told
returns-in_ok-push_line-in-Some-clause-told g c = λ before numbered so_far.
    rw c.in-Some.is (told_some _ before (string_bytes c.args.text.now) (string_bytes c.push_line.new.text) c.args.told c.args.number c.in-Some.error numbered c.in_ok-push_line-in-Some.ensures so_far)
