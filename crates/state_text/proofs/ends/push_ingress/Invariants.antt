use Rattle.std.proofs.Common.{◌≡◌, ◌++◌}
use Rattle.std.specs.Prelude.{string_bytes}
use Rattle.std.specs.Prelude.{length}
use Rattle.ingress_egress.specs.IngressView.{producer_at}
use Rattle.state_text.specs.Shown.{out_edges_shown}
use Rattle.state_text.specs.StateText.{lines_below, source_name}
use Rattle.state_text.proofs.ends.push_ingress.Given as goal

abbrev pub invariant-loop-source : goal.invariant-loop-source
invariant-loop-source l = string_bytes l.text ≡ string_bytes l.initial.text
    ++ lines_below l.source (λ q. out_edges_shown (source_name (length l.ingress.producers) q) (producer_at l.ingress q))
