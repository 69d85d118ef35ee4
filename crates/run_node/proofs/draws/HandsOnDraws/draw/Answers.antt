use Rattle.std.proofs.Common.{◌≡◌, ◌∙◌, ◌++◌, ◌∷◌, [], Bool, ap, subst, sym}
use Rattle.std.specs.Prelude.{MatchBool}
use mathlib.Core.List.{IsPrefix}
use Rattle.flux_link.proofs.Fronts.{grows_on}
use Rattle.run_node.proofs.Drawn.{IsNext, let_go_is}
use Rattle.run_node.proofs.draws.HandsOnDraws.draw.Goals as goal

pub loop-next-preserved : goal.loop-next-preserved
loop-next-preserved g c =
    let so_far = c.loop-next.invariant in
    let row = c.in-Some.row in
    let old = g.T.RowTap.given c.loop-next.self.tap in
    let new = g.T.RowTap.given c.offer.new.self in
    let gone = g.A.Acts.gone c.loop-next.state in
    let rows = g.A.Acts.rows c.loop-next.state in
    let went = c.let_go-row.ensures in
    let first : IsPrefix (gone ++ row ∷ []) rows = subst (λ next. IsNext next gone rows) c.in-Some.is so_far.next in
    let taken : new ≡ old ++ row ∷ [] = subst (λ (b : Bool). MatchBool b (new ≡ old ++ row ∷ []) (new ≡ old)) c.if-not-offer.false c.offer.ensures in
    let later = let_go_is gone rows (g.A.Acts.gone c.let_go-row.new.self) (g.A.Acts.rows c.let_go-row.new.self) row c.let_go-row.result c.first-next-in-Some.result first went.gone went.rows c.first-next-in-Some.ensures in
    record {
      given = taken ∙ ap (λ l. l ++ row ∷ []) so_far.given ∙ sym later;
      more = grows_on (g.T.RowTap.given c.args.self.now.tap) old new so_far.more (row ∷ [], sym taken);
      next = c.first-next-in-Some.ensures;
      rows = went.rows ∙ so_far.rows;
      stands = λ plan inputs x h. went.stands plan inputs x (so_far.stands plan inputs x h);
      inputs = λ inputs h. so_far.inputs inputs ((went.inputs inputs).0 h);
      id = went.id ∙ so_far.id;
      of_plan = λ plan h. went.of_plan plan (so_far.of_plan plan h);
    }
