use Rattle.std.proofs.Common.{◌∙◌, ◌++◌, ap}
use Rattle.std.specs.List.{flat_map}
use Rattle.pair_machine.specs.Drain.{pairs_up_to}
use Rattle.trio_core.specs.CoreView.{flow_in}
use Rattle.trio_state.specs.GroupsText.{group_text, groups_text}
use Rattle.trio_state.proofs.groups.write_groups.Goals as goal

pub returns : goal.returns
unfolding groups_text
returns c s stands =
    let flow = flow_in c.args.core.now in
    ap (λ v. v.items) c.into_bytes.ensures.value ∙ c.in_ok-push_groups.ensures s stands ∙ ap (λ t. t ++ flat_map (group_text s) (pairs_up_to flow flow.stages)) c.new-text.ensures.bytes
