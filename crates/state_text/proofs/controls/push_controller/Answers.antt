use Rattle.std.proofs.Common.{◌≡◌, ◌∙◌, ◌++◌, ap, arith, string_bytes}
use Rattle.tuple_edge.specs.declared.node.Which.TheVariants as which
use Rattle.pair_control.specs.ControllerView.{numbers_of, watched_numbers}
use Rattle.state_text.specs.StateText.{lines_below, reports_line, term_line, watched_line}
use Rattle.state_text.proofs.Below.{joined_four}
use Rattle.state_text.proofs.controls.push_controller.Goals as goal

pub returns : goal.returns
returns c =
    let old = string_bytes c.args.text.now in
    let name = c.args.name.now in
    let it = c.args.control.now in
    let term = term_line name it.term it.leader in
    let a = watched_line name which.A (watched_numbers it.a) in
    let b = watched_line name which.B (watched_numbers it.b) in
    let reports = reports_line name (numbers_of it) in
    let all : c.loop-edge.edge ≡ c.args.edges = omega (arith, c.loop-edge-test.false, c.loop-edge.auto.edge-end) in
    c.loop-edge.invariant
    ∙ ap (λ t. t ++ lines_below c.loop-edge.edge reports) (c.in_ok-push_watched-2.ensures ∙ ap (λ t. t ++ b) (c.in_ok-push_watched.ensures ∙ ap (λ t. t ++ a) c.in_ok-push_term.ensures))
    ∙ joined_four old term a b (lines_below c.loop-edge.edge reports)
    ∙ ap (λ n. old ++ (term ++ a ++ b ++ lines_below n reports)) all
