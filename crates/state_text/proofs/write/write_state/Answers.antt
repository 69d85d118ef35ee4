use Rattle.std.proofs.Common.{◌∙◌, ◌++◌, ap}
use Rattle.std.specs.List.{flat_map}
use Rattle.flux_core.specs.CoreView.{emitted_by}
use Rattle.state_text.specs.StateText.{emitted_line, state_text}
use Rattle.state_text.proofs.write.write_state.Goals as goal

pub returns : goal.returns
unfolding state_text
returns c s stands =
    let symbols = c.args.trades.now.symbols in
    c.in_ok-push_rows.ensures
    ∙ ap (λ rows. c.into_bytes-out.result.items ++ flat_map (emitted_line symbols) rows) c.emitted.ensures.value
    ∙ ap (λ t. t ++ flat_map (emitted_line symbols) (emitted_by c.args.core.now)) (ap (λ v. v.items) c.into_bytes-out.ensures.value ∙ c.in_ok-text.ensures s stands)
