use Rattle.std.proofs.Common.{◌∙◌, ◌++◌, ap, sym}
use Rattle.std.specs.List.{flat_map}
use Rattle.std.proofs.lemmas.List.Folds.{flat_map-map}
use Rattle.look_json.specs.CheckJson.{check_line}
use Rattle.look_json.proofs.check.write_check_json.Goals as goal

pub returns : goal.returns
returns c =
    c.in_ok-push_lines.ensures
    ∙ (λ j. c.new-json.ensures.items j ++ flat_map (λ line. check_line c.args.faulty line.now) (c.deref.ensures.value j))
    ∙ sym (flat_map-map (check_line c.args.faulty) (λ line. line.now) c.in_ok-lines.lines.items) ∙ ap (flat_map (check_line c.args.faulty)) c.in_ok-lines.ensures
