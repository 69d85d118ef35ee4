use Rattle.std.proofs.Common.{rules, ◌≡◌, ◌++◌, ◌∷◌, ◌∙◌, [], ap, map}
use Rattle.std.proofs.lemmas.List.{map-append}
use Rattle.row_reach.specs.Reach.{Passage}
use Rattle.reach_finder.specs.Found.{passage_of}
use Rattle.reach_finder.specs.declared.walk.Passage.{Passage as FoundPassage}
use Rattle.reach_finder.proofs.Walking.{joined_is}
use Rattle.reach_finder.proofs.walk.put.Goals as goal

pub returns : goal.returns
returns c =
    let all = c.extend_from_slice.new.self in
    let p : FoundPassage = record { rows = all } in
    let pushed : c.push.new.self.items ≡ c.args.found.now.items ++ p ∷ [] = search rules in
    let joined : all.items ≡ c.args.rows.early.items ++ c.args.rows.late.items = search rules in
    ap (map passage_of) pushed ∙ (map-append passage_of c.args.found.now.items (p ∷ [])
    ∙ ap (λ (q : Passage). map passage_of c.args.found.now.items ++ q ∷ []) (joined_is c.args.rows.early.items c.args.rows.late.items all.items joined))
