use Rattle.look_command.proofs.ended.ended.Goals as goal

pub returns-in-Stopped : goal.returns-in-Stopped
returns-in-Stopped c = λ old new lines h. rw c.in-Stopped.is at h
