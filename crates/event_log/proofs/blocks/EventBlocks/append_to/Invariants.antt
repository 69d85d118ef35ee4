use Rattle.std.proofs.Common.{◌≡◌, ◌++◌, take}
use Rattle.event_log.specs.Blocks.{events_in}
use Rattle.event_log.proofs.blocks.EventBlocks.append_to.Given as goal

abbrev pub invariant-loop-block : goal.invariant-loop-block
invariant-loop-block l = l.events.items ≡ l.fn.events.items ++ events_in (take l.block-index l.self-inside.blocks.items)
