use Rattle.std.proofs.Common.{◌≡◌, sym, subst}
use Rattle.tuple_edge.specs.declared.packet.Body.{Body}
use Rattle.replica_node.specs.Admitted.{IsAdmitted}
use Rattle.replica_node.specs.IsReplica.{IsPhase, IsRole}
use Rattle.replica_node.specs.ReplicaView.{ReplicaView}
use Rattle.replica_node.specs.declared.phase.Phase.{Phase}
use Rattle.replica_node.specs.declared.replica.Replica.TheInside.{Inside}
use Rattle.replica_node.proofs.Kept.{either, either_ended, keeps_ack, keeps_begin, keeps_chunk, keeps_lead, keeps_serve, keeps_stop, keeps_tuple, keeps_want, on_err}
use Rattle.replica_node.proofs.replica.Replica.take.Goals.{in-Tuple, in-Ack, in-Want, in-Lead, in-Serve, in-Begin, in-Stop, in-Chunk, in-ChunkEnd, in_default}
use Rattle.replica_node.proofs.replica.Replica.take.Goals as goal

-- what was asked, of what is inside
admitted : (c : goal.Joined-body) → IsAdmitted (record { role = c.self.inside.role; phase = c.self.inside.phase }) c.args.from c.args.body.now
admitted c = subst (λ (v : ReplicaView). IsAdmitted v c.args.from c.args.body.now) (sym c.self.view_is) c.requires.admitted

admitted_as : (c : goal.Joined-body) (b : Body) → c.args.body.now ≡ b → IsAdmitted (record { role = c.self.inside.role; phase = c.self.inside.phase }) c.args.from b
admitted_as c b is = subst (λ (z : Body). IsAdmitted (record { role = c.self.inside.role; phase = c.self.inside.phase }) c.args.from z) is (admitted c)

pub invariant_of-self : goal.invariant_of-self
invariant_of-self c =
    let role = c.self.inside.role in
    let old = c.self.inside.phase in
    let is : IsPhase role old = c.self.invariant.1 in
    let same : (new : Phase) → c.match-body.self-inside ≡ record { alloc = c.self.inside.alloc; role = c.self.inside.role; phase = new; rows = c.self.inside.rows } → IsPhase role new
    → IsRole c.match-body.self-inside.role × IsPhase c.match-body.self-inside.role c.match-body.self-inside.phase
    = λ new inside kept. subst (λ (z : Inside). IsRole z.role × IsPhase z.role z.phase) (sym inside) (c.self.invariant.0, kept) in
    elim c.match-body.branch [
      | in-Tuple w ↦ same w.take_tuple.new.self w.self-inside-is
          (either role w.take_tuple.result w.take_tuple.new.self _ old w.take_tuple.ensures.taken w.take_tuple.ensures.unchanged
          (keeps_tuple role w.in-Tuple.edge.from w.in-Tuple.number w.in-Tuple.item old (admitted_as c _ w.in-Tuple.is).3 is) is)
      | in-Ack w ↦ same w.take_ack.new.self w.self-inside-is (subst (IsPhase role) (sym w.take_ack.ensures) (keeps_ack role w.in-Ack.edge.to w.in-Ack.upto old is))
      | in-Want w ↦ same w.take_want.new.self w.self-inside-is (subst (IsPhase role) (sym w.take_want.ensures) (keeps_want role w.in-Want.edge.to w.copy_of.result w.in-Want.number old is))
      | in-Lead w ↦ same w.take_lead.new.self w.self-inside-is (subst (IsPhase role) (sym w.take_lead.ensures) (keeps_lead role w.in-Lead.inc w.in-Lead.term old is))
      | in-Serve w ↦ same w.take_serve.new.self w.self-inside-is
          (either role w.take_serve.result w.take_serve.new.self _ old w.take_serve.ensures.taken w.take_serve.ensures.unchanged (keeps_serve role w.in-Serve.inc w.in-Serve.target old is) is)
      | in-Begin w ↦ same w.take_begin.new.self w.self-inside-is
          (either role w.take_begin.result w.take_begin.new.self _ old w.take_begin.ensures.taken w.take_begin.ensures.unchanged (keeps_begin role w.in-Begin.inc old is) is)
      | in-Stop w ↦ same w.take_stop.new.self w.self-inside-is (subst (IsPhase role) (sym w.take_stop.ensures) (keeps_stop role w.in-Stop.inc old is))
      | in-Chunk w ↦ same w.take_chunk.new.self w.self-inside-is
          (either role w.take_chunk.result w.take_chunk.new.self _ old w.take_chunk.ensures.taken (on_err _ _ w.take_chunk.result w.take_chunk.ensures.unchanged)
          (keeps_chunk role w.in-Chunk.inc w.in-Chunk.number w.in-Chunk.entry old (admitted_as c _ w.in-Chunk.is).1 is) is)
      | in-ChunkEnd w ↦ same w.take_end.new.self w.self-inside-is
          (either_ended role w.in-ChunkEnd.inc w.in-ChunkEnd.count w.take_end.result old w.take_end.new.self _ w.take_end.ensures.ended (on_err _ _ w.take_end.result w.take_end.ensures.unchanged)
          (admitted_as c _ w.in-ChunkEnd.is).1 is)
      | in_default w ↦ same old w.self-inside-is is
    ]
