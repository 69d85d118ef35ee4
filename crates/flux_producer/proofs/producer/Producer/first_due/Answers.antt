use Rattle.std.proofs.Common.{◌≡◌, ◌<◌, ◌+◌, ◌∙◌, ℕ, List, length, ap, arith, subst, sym}
use Rattle.std.specs.Prelude.{slice_index_or}
use Rattle.std.proofs.lemmas.List.{get_or_default}
use Rattle.tuple_edge.specs.Limits.{number_limit}
use Rattle.flux_producer.specs.Due.{due_to, soonest_below}
use Rattle.flux_producer.specs.declared.due.Due.{Due}
use Rattle.flux_producer.specs.OutEdge.{IsLeastCursor, OutEdgeView, unused}
use Rattle.flux_producer.specs.ProducerView.{ProducerView, buffer_at, edge_at}
use Rattle.flux_producer.proofs.Dues.{finds_no_sooner, finds_sooner, found}
use Rattle.flux_producer.proofs.producer.Producer.first_due.Goals as goal
use Rattle.flux_producer.proofs.producer.Producer.first_due.Goals.{then-number-first+then-number-produced, else-number-first}

-- the edge that the code looks at is the producer's
edge_there : (p : ProducerView) (edges : List OutEdgeView) (t : ℕ) (e : OutEdgeView) → e ≡ slice_index_or edges t e → edges ≡ p.edges → t < length p.edges → e ≡ edge_at p t
edge_there p edges t e at same inside = at ∙ ap (λ es. slice_index_or es t e) same ∙ get_or_default p.edges t e unused inside

-- and so is its least cursor
least_there : (p : ProducerView) (t copies copy number : ℕ) (e : OutEdgeView) → e ≡ edge_at p t → copies ≡ p.copies → IsLeastCursor e copies copy number
    → IsLeastCursor (edge_at p t) p.copies copy number
least_there p t copies copy number e at same least = subst (λ (k : OutEdgeView). IsLeastCursor k p.copies copy number) at (subst (λ n. IsLeastCursor e n copy number) same least)

pub loop-to-preserved : goal.loop-to-preserved
loop-to-preserved c =
    let p : ProducerView = c.args.self.now in
    let t = c.loop-to.to in
    let (copy, number) = c.least_cursor-copy.result in
    let edge = edge_there p c.self.inside.edges.items t c.index-edge.result.now c.index-edge.ensures (ap (λ (q : ProducerView). q.edges) c.self.view_is) (omega (arith, ap (λ (q : ProducerView). length q.edges) c.self.view_is)) in
    let least = least_there p t c.self.inside.copies copy number c.index-edge.result.now edge (ap (λ (q : ProducerView). q.copies) c.self.view_is) c.least_cursor-copy.ensures in
    let produced : c.produced-produced.result ≡ (buffer_at p t).produced = c.produced-produced.ensures.value ∙ ap (λ b. b.produced) c.buffer.ensures ∙ ap (λ (e : OutEdgeView). e.buffer.produced) edge in
    let fits : (buffer_at p t).produced < number_limit = omega arith in
    elim c.if-number-first.branch [
      | then-number-first+then-number-produced w ↦
          subst (λ (d : Due). found d ≡ soonest_below (due_to p) (t + 1)) (sym w.first-is)
          (finds_sooner p t copy number c.loop-to.first least fits c.loop-to.invariant (omega arith) (omega arith))
      | else-number-first w ↦
          subst (λ (d : Due). found d ≡ soonest_below (due_to p) (t + 1)) (sym w.first-is)
          (finds_no_sooner p t copy number c.loop-to.first least fits c.loop-to.invariant (λ reached. omega arith))
    ]
