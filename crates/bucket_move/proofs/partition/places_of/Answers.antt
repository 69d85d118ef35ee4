use Rattle.std.proofs.Common.{◌<◌, ◌++◌, ◌∷◌, [], List, ap, sym, subst, ◌∙◌, take}
use Rattle.std.specs.Prelude.{All}
use Rattle.std.proofs.lemmas.List.{map-append, take_more}
use Rattle.std.proofs.lemmas.List.Elements.{All-push}
use Rattle.tuple_edge.specs.declared.row.Row.{Row}
use Rattle.bucket_move.specs.Limits.{buckets}
use Rattle.bucket_move.specs.Working.{place_of, places_of}
use Rattle.bucket_move.specs.declared.partition.Place.{Place}
use Rattle.bucket_move.proofs.WorkSteps.{no_row}
use Rattle.bucket_move.proofs.partition.places_of.Goals as goal

pub loop-row-preserved : goal.loop-row-preserved
loop-row-preserved c =
    let rows = c.args.rows.now in
    let i = c.loop-row.row-index in
    let of_row = place_of c.args.by c.args.table.now in
    let place = c.place_of.result in
    let before = c.loop-row.places.items in
    record {
      value =
          c.in_ok-push.ensures.items ∙ ap (λ (ps : List Place). ps ++ place ∷ []) c.loop-row.invariant.value
          ∙ ap (λ (p : Place). places_of c.args.by c.args.table.now (take i rows) ++ p ∷ []) c.place_of.ensures.value
          ∙ sym (ap (λ (rs : List Row). places_of c.args.by c.args.table.now rs) (take_more rows i no_row c.loop-row-test.true) ∙ map-append of_row (take i rows) _);
      buckets = subst (λ (ps : List Place). All (λ p. p.bucket < buckets) ps) (sym c.in_ok-push.ensures.items) (All-push (λ (p : Place). p.bucket < buckets) before place c.loop-row.invariant.buckets c.place_of.ensures.below);
      there = λ parts all. subst (λ (ps : List Place). All (λ p. p.part < parts) ps) (sym c.in_ok-push.ensures.items)
          (All-push (λ (p : Place). p.part < parts) before place (c.loop-row.invariant.there parts all) (c.place_of.ensures.there parts all));
    }
