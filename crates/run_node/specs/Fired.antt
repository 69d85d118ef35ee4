-- What the orders of a script have made a node do.
use Rattle.std.specs.Prelude.{Bool, true, false, ◌||◌}
use Rattle.node_tasks.specs.declared.task.Task.{Task}
use Rattle.node_tasks.specs.declared.task.Task.TheVariants as task
use Rattle.run_node.specs.declared.fired.Fired.{Fired}

-- the task stops the node, or asks for that
abbrev pub is_stop : Task → Bool
is_stop task.Kill = true
is_stop task.AskStop = true
is_stop t = false

-- the task asks for the partner
abbrev pub is_recall : Task → Bool
is_recall task.AskBack = true
is_recall t = false

-- the task would happen a second time
abbrev pub repeats : Fired → Task → Bool
repeats fired task.Kill = fired.stopped
repeats fired task.AskStop = fired.stopped
repeats fired task.AskBack = fired.recalled
repeats fired t = false

-- what has happened once the task has
abbrev pub fired_after : Fired → Task → Fired
fired_after fired t = record { stopped = fired.stopped || is_stop t; recalled = fired.recalled || is_recall t }
