-- What is always true of a replica that runs stays true.
use Rattle.std.proofs.Common.{All, ◌≡◌, ◌+◌, ◌∙◌, ℕ, Bool, true, false, List, Option, None, Some, Result, Ok, Err, length, map, refl, sym, ap, subst, if◌then◌else◌}
use Rattle.std.specs.Prelude.{◌==◌, IfOk, OnErr, OnOk}
use Rattle.std.proofs.Math.ListN.{length-set}
use Rattle.std.proofs.lemmas.List.{length-map}
use Rattle.tuple_edge.specs.declared.event.Worked.{Worked}
use Rattle.tuple_edge.specs.declared.item.Item.{Item}
use Rattle.tuple_edge.specs.declared.memory.OutOfMemory.{OutOfMemory}
use Rattle.merge_order.specs.MergeView.{MergeView, after_offer, item_of, least, mark_of, with_item}
use Rattle.merge_order.proofs.AfterNext.{after_next-marks}
use Rattle.flux_consumer.specs.ConsumerView.{ConsumerView, report_of}
use Rattle.flux_producer.specs.Due.{due_of}
use Rattle.flux_producer.specs.OutEdge.{sent}
use Rattle.flux_producer.specs.ProducerView.{edge_at, without_room}
use Rattle.flux_producer.specs.declared.due.Due.{Due}
use Rattle.op_spec.specs.Times.{IsTimely}
use Rattle.partition_step.specs.Merging.{Merges}
use Rattle.partition_step.proofs.TimelyNext.{all_offer, next_holds, next_keeps}
use Rattle.trio_machine.specs.declared.body.TrioBody.{TrioBody}
use Rattle.trio_machine.specs.declared.node.TrioNode.{TrioNode}
use Rattle.trio_nodes.specs.ReplicaView.{IsRunning, MergesOrSends, RunWorks, contents_of_run, parts_of_run, pulled_by, reporting, sending}
use Rattle.trio_nodes.specs.declared.role.TrioRole.{TrioRole}
use Rattle.trio_nodes.specs.declared.running.TrioRunning.{TrioRunning}

offer_marks : (m : MergeView) (q n : ℕ) (i : Item) → length (after_offer m q n i).marks ≡ length m.marks
offer_marks m q n i = by_test (n == mark_of m q + 1)
  where
    by_test : (b : Bool) → length (if b then with_item m q n i else m).marks ≡ length m.marks
    by_test true = length-set m.marks q n
    by_test false = refl

module _ (role : TrioRole) where
  pub pulled_kept : (q : ℕ) (i : Item) (r : TrioRunning) → IsTimely i → IsRunning role r → IsRunning role (pulled_by q i r)
  pulled_kept q i r timely is = record {
    sources = offer_marks r.consumer.merge q (mark_of r.consumer.merge q + 1) i ∙ is.sources;
    copies = is.copies;
    targets = is.targets;
    op = is.op;
    timely = all_offer IsTimely r.consumer.merge q (mark_of r.consumer.merge q + 1) i timely is.timely;
  }

  merged_kept : (i : Item) (r s : TrioRunning) → Merges role.task.next i (parts_of_run r) (parts_of_run s) → IsRunning role r → IsRunning role s
  merged_kept i r s m is = record {
    sources = ap (λ (c : ConsumerView). length c.merge.marks) m.consumer ∙ ap length (after_next-marks r.consumer.merge) ∙ is.sources;
    copies = m.made.copies ∙ is.copies;
    targets = m.made.targets ∙ is.targets;
    op = m.spec ∙ is.op;
    timely = subst (λ (c : ConsumerView). All (All IsTimely) c.merge.waiting) (sym m.consumer) (next_keeps IsTimely r.consumer.merge is.timely);
  }

  reported_kept : (r : TrioRunning) (o : Option (ℕ × ℕ)) → IsRunning role r → IsRunning role (reporting role r o).after
  reported_kept r None is = is
  reported_kept r (Some report) is = record { sources = is.sources; copies = is.copies; targets = is.targets; op = is.op; timely = is.timely }

  sent_kept : (r : TrioRunning) (o : Option Due) → IsRunning role r → IsRunning role (sending role r o).after
  sent_kept r None is = reported_kept r (report_of r.consumer) is
  sent_kept r (Some d) is = record {
    sources = is.sources;
    copies = is.copies;
    targets = length-set r.producer.edges d.to (sent (edge_at r.producer d.to) d.copy) ∙ is.targets;
    op = is.op;
    timely = is.timely;
  }

  works_kept : (r s : TrioRunning) (o : Option Item) (gave : List (TrioNode × TrioBody)) (did : Worked) → MergesOrSends role r o s gave did → IsRunning role r → IsRunning role s
  works_kept r s None gave did works is = subst (IsRunning role) (sym works.0) (sent_kept r (due_of r.producer) is)
  works_kept r s (Some i) gave did works is = merged_kept i r s works.0 is

  -- only the room of its edges changed
  contents_kept : (r s : TrioRunning) → contents_of_run s ≡ contents_of_run r → IsRunning role r → IsRunning role s
  contents_kept r s same is =
      let edges : map without_room s.producer.edges ≡ map without_room r.producer.edges = ap (λ (z : TrioRunning). z.producer.edges) same in
      record {
        sources = ap (λ (z : TrioRunning). length z.consumer.merge.marks) same ∙ is.sources;
        copies = ap (λ (z : TrioRunning). z.producer.copies) same ∙ is.copies;
        targets = sym (length-map s.producer.edges without_room) ∙ ap length edges ∙ length-map r.producer.edges without_room ∙ is.targets;
        op = ap (λ (z : TrioRunning). z.state.spec) same ∙ is.op;
        timely = subst (λ (z : TrioRunning). All (All IsTimely) z.consumer.merge.waiting) (sym same) is.timely;
      }

  pub work_kept : (result : Result Worked OutOfMemory) (r s : TrioRunning) (gave : List (TrioNode × TrioBody)) (Sent : Type 0) → IfOk result (RunWorks role r s gave) → OnErr result ((contents_of_run s ≡ contents_of_run r) × Sent)
      → IsRunning role r → IsRunning role s
  work_kept (Ok did) r s gave Sent works same is = works_kept r s (item_of (least r.consumer.merge.waiting)) gave did works is
  work_kept (Err e) r s gave Sent works same is = contents_kept r s same.0 is

  -- the next item is timely
  pub timely_next : (i : Item) (r : TrioRunning) → IsRunning role r → item_of (least r.consumer.merge.waiting) ≡ Some i → IsTimely i
  timely_next i r is found = next_holds IsTimely r.consumer.merge.waiting i is.timely found

  pub pull_kept : {X Y : Type 0} (result : Result X Y) (q : ℕ) (i : Item) (r s : TrioRunning) → OnOk result (s ≡ pulled_by q i r) → OnErr result (s ≡ r) → IsTimely i → IsRunning role r → IsRunning role s
  pull_kept (Ok x) q i r s taken same timely is = subst (IsRunning role) (sym taken) (pulled_kept q i r timely is)
  pull_kept (Err e) q i r s taken same timely is = subst (IsRunning role) (sym same) is
