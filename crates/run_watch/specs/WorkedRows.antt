-- Rows worked by hand: what happens at an event by what is seen of its node, and how a list is cut.
use Rattle.std.specs.Prelude.{◌≡◌, ℕ, true, false, [], ◌∷◌, None, Some}
use Rattle.tuple_edge.specs.declared.event.Event.TheVariants as event
use Rattle.tuple_edge.specs.declared.node.NodeId.TheVariants as node
use Rattle.tuple_edge.specs.declared.node.Which.TheVariants.{A, B}
use Rattle.tuple_edge.specs.declared.status.Status.TheVariants as status
use Rattle.run_watch.specs.Columns.{cut}
use Rattle.run_watch.specs.Happenings.{happened, loss, named, no_fall, recalled, taken, worked}
use Rattle.run_watch.specs.declared.glimpse.Glimpse.TheVariants as glimpse
use Rattle.run_watch.specs.declared.happening.Fell.TheVariants as fell
use Rattle.run_watch.specs.declared.happening.Happening.TheVariants as happening

-- what happens at these events, by what is seen of their nodes; and what these lists are cut into
pub record WorkedRows : Type 0 where
  -- the leader of pair 1.0 fails
  pub failed : happened (event.Kill (node.Replica 1 0 A)) (glimpse.Running 1 true 1 None) (glimpse.Gone 1) ≡ Some (happening.Failed (node.Replica 1 0 A) 1)
  -- at event 12 its controller names its partner; it failed at event 5
  pub named_then : named 12 (λ n. record { place = 5; how = fell.Failed }) (node.Control 1 0) (glimpse.Control 1 (Some A) (record { status = status.Up; inc = 1 }) (record { status = status.Up; inc = 1 }))
      (glimpse.Control 2 (Some B) (record { status = status.Down; inc = 1 }) (record { status = status.Up; inc = 1 })) ≡ Some (happening.Named (node.Replica 1 0 B) 2 7 fell.Failed)
  -- no leader is named where the term stays
  pub not_named : named 12 (λ n. no_fall) (node.Control 1 0) (glimpse.Control 1 (Some A) (record { status = status.Up; inc = 1 }) (record { status = status.Up; inc = 1 }))
      (glimpse.Control 1 (Some A) (record { status = status.Up; inc = 1 }) (record { status = status.Down; inc = 1 })) ≡ None
  -- the partner hears that it leads
  pub leads : taken (node.Replica 1 0 B) (glimpse.Running 1 false 0 None) (glimpse.Running 1 true 2 None) ≡ Some (happening.Leads (node.Replica 1 0 B) 2)
  -- the one that fell is to begin in incarnation 2, begins, and catches up by 30 entries with 4 items held
  pub recalled_then : recalled (node.Control 1 0) A (glimpse.Control 2 (Some B) (record { status = status.Down; inc = 1 }) (record { status = status.Up; inc = 1 }))
      (glimpse.Control 2 (Some B) (record { status = status.Catching; inc = 2 }) (record { status = status.Up; inc = 1 })) ≡ Some (happening.Recalled (node.Replica 1 0 A) 2)
  pub begun : taken (node.Replica 1 0 A) (glimpse.Gone 1) (glimpse.Gathering 2 0 0) ≡ Some (happening.Begun (node.Replica 1 0 A) 2)
  pub moved : worked (node.Replica 1 0 B) (glimpse.Running 1 true 2 (Some (record { target = 2; sent = 30 }))) (glimpse.Running 1 true 2 None) ≡ Some (happening.Moved (node.Replica 1 0 B) 2 30)
  pub caught_up : taken (node.Replica 1 0 A) (glimpse.Gathering 2 30 4) (glimpse.Running 2 false 0 None) ≡ Some (happening.CaughtUp (node.Replica 1 0 A) 2 30 4)
  -- one more entry tells nothing
  pub one_more : taken (node.Replica 1 0 A) (glimpse.Gathering 2 29 4) (glimpse.Gathering 2 30 4) ≡ None
  -- a pair is lost once
  pub lost : loss 1 0 false true ≡ Some (happening.Lost 1 0)
  pub lost_still : loss 1 0 true true ≡ None
  -- seven events in three columns, two in one, none in none
  pub seven : cut {X = ℕ} 3 (1 ∷ 2 ∷ 3 ∷ 4 ∷ 5 ∷ 6 ∷ 7 ∷ []) ≡ (1 ∷ 2 ∷ 3 ∷ []) ∷ (4 ∷ 5 ∷ []) ∷ (6 ∷ 7 ∷ []) ∷ []
  pub two : cut {X = ℕ} 1 (1 ∷ 2 ∷ []) ≡ (1 ∷ 2 ∷ []) ∷ []
