use Rattle.std.proofs.Common.{◌≡◌, ◌++◌, take}
use Rattle.std.specs.Prelude.{string_bytes}
use Rattle.std.specs.List.{flat_map}
use Rattle.pair_machine.specs.Links.{link}
use Rattle.state_text.specs.Counted.{count_in}
use Rattle.state_text.specs.StateText.{sent_line}
use Rattle.state_text.proofs.links.push_counted.Given as goal

abbrev pub invariant-loop-to : goal.invariant-loop-to
invariant-loop-to l = string_bytes l.text ≡ string_bytes l.initial.text ++ flat_map (λ to. sent_line (link l.from to) (count_in l.counts to)) (take l.to-index l.nodes)
