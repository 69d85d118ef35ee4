-- The laws, for each plan.
use Rattle.std.proofs.Common.{◌≡◌, ℕ, List, ◌++◌, Ok, refl, sym, subst}
use Rattle.tuple_edge.specs.declared.node.NodeId.TheVariants as node
use Rattle.tuple_edge.specs.Input.{Input}
use Rattle.plan_reader.specs.PlanView.{IsPlan, PlanView}
use Rattle.pair_machine.specs.declared.order.Order.{Order}
use Rattle.pair_machine.specs.Scripts.{AreWithin, IsSafe}
use Rattle.pair_machine.specs.Asked.{ActAsks, Asks, IsOfSameMove, IsOfSameMoveAt, TakenAsks}
use Rattle.pair_machine.specs.Contents.{BodyStands}
use Rattle.pair_machine.specs.Counts.{flow_of}
use Rattle.pair_machine.specs.Courses.{Agree, IsTrueCourse, Moment}
use Rattle.pair_machine.specs.Flow.{Flow}
use Rattle.pair_machine.specs.Joint.{IsJoint, IsLegalJoint, Stored}
use Rattle.pair_machine.specs.Legal.{AreServedThroughout, IsLegal, IsOwedThroughout}
use Rattle.pair_machine.specs.Lengths.{MessageBound}
use Rattle.pair_machine.specs.Links.{Carries, HasNode, IsThere, link}
use Rattle.pair_machine.specs.Lists.{Among}
use Rattle.pair_machine.specs.MachineLaws.{GivesWhatIsAsked}
use Rattle.pair_machine.specs.Machine.{State, opening, replica_in, step}
use Rattle.pair_machine.specs.Messages.{Act, Chunk, ChunkEnd, Message, Takes}
use Rattle.pair_machine.specs.Numbers.{Gathering, Gone, Partition, Replica, Running, other}
use Rattle.pair_machine.specs.Pairs.{IsOneMove, IsPairSound, Side, in_chunk, in_end, in_gatherer, side_of}
use Rattle.pair_machine.specs.Sound.{IsOwed, IsSound}
use Rattle.tuple_edge.specs.declared.event.Event.{Event}
use Rattle.tuple_edge.specs.declared.node.NodeId.{NodeId}
use Rattle.tuple_edge.specs.declared.node.Which.{Which}
use Rattle.tuple_edge.specs.declared.node.Which.TheVariants.{A, B}
use Rattle.pair_machine.proofs.Lists.{each_at}
use Rattle.pair_machine.proofs.StepTurns.{HoldsOnOk, WasSent, across_heard}
use Rattle.pair_machine.proofs.PlanFlow.{plan_is_flow}
use Rattle.pair_machine.proofs.SoundKept.{opening_sound, owed_always, sound_kept, sound_owed}
use Rattle.pair_machine.proofs.SafeRun.{never_lost}
use Rattle.pair_machine.proofs.CourseLaw.{law_of_courses}
use Rattle.pair_machine.proofs.Legal.{legal_front}
use Rattle.pair_machine.proofs.Within.{within_front}

pub steps_keep_sound : (plan : PlanView) (inputs : List Input) → IsPlan plan → (s t : State) (e : Event) → IsThere (flow_of plan inputs) e → IsSound (flow_of plan inputs) s → step (flow_of plan inputs) s e ≡ Ok t → IsSound (flow_of plan inputs) t
steps_keep_sound plan inputs h s t e there sound done = let f = flow_of plan inputs in subst (HoldsOnOk (IsSound f)) done (sound_kept f (plan_is_flow plan inputs h) s e there sound)

pub plan_opens_sound : (plan : PlanView) (inputs : List Input) → IsPlan plan → IsSound (flow_of plan inputs) opening
plan_opens_sound plan inputs h = opening_sound (flow_of plan inputs) (plan_is_flow plan inputs h)

pub plan_owed : (plan : PlanView) (inputs : List Input) → IsPlan plan → (es : List Event) (t : State) → IsLegal (flow_of plan inputs) es t → IsOwedThroughout (flow_of plan inputs) es
plan_owed plan inputs h es t legal front rest m e l = let f = flow_of plan inputs in owed_always f (plan_is_flow plan inputs h) front m (legal_front f opening t m es front rest legal e l).there l

-- a part of a move came from the partner
abbrev Partly : Side → Message → Type 0
Partly b (Chunk i k m) = Among (Chunk i k m) b.across
Partly b (ChunkEnd i k m) = Among (ChunkEnd i k m) b.across
Partly b m = Unit {0}

-- what a Gathering replica hears of moves
same_move : (f : Flow) (p : Partition) (r : Replica) (b : Side) (a : Side) → a.replica ≡ r → IsOneMove f p b a → (m : Message) → Partly b m → IsOfSameMove f p r m
same_move f p (Gone i) b a e h m c = tt
same_move f p (Running x) b a e h m c = tt
same_move f p (Gathering g) b a e h (Chunk i k m) c = λ is m_other at. h.same i m m_other (in_chunk k c) (in_gatherer (rw e (sym is, at)))
same_move f p (Gathering g) b a e h (ChunkEnd i k m) c = ((λ is m_other at. h.same i m m_other (in_end k c) (in_gatherer (rw e (sym is, at)))), h.whole i k m c)
same_move f p (Gathering g) b a e h message c = tt

pair_moved : (f : Flow) (s : State) (p : Partition) (w : Which) → IsPairSound f p (side_of s p A) (side_of s p B) → IsOneMove f p (side_of s p (other w)) (side_of s p w)
pair_moved f s p A h = h.second.moves
pair_moved f s p B h = h.first.moves

partly : (f : Flow) (s : State) (t q : ℕ) (w : Which) (from : NodeId) (m : Message) → Carries f (link from (node.Replica t q w)) m → Among m (s.sent (link from (node.Replica t q w))) → Partly (side_of s (record { stage = t; part = q }) (other w)) m
partly f s t q w from (Chunk i k m) h c = across_heard s (Chunk i k m) t q w from h c
partly f s t q w from (ChunkEnd i k m) h c = across_heard s (ChunkEnd i k m) t q w from h c
partly f s t q w from message h c = tt

move_at : (f : Flow) (s : State) (n from : NodeId) (m : Message) → HasNode f n → IsSound f s → Carries f (link from n) m → Among m (s.sent (link from n)) → IsOfSameMoveAt f n (s.nodes n) m
move_at f s node.Ingress from m h sound car c = tt
move_at f s node.Egress from m h sound car c = tt
move_at f s (node.Control t q) from m h sound car c = tt
move_at f s (node.Replica t q w) from m h sound car c =
    let p : Partition = record { stage = t; part = q } in
    same_move f p (replica_in (s.nodes (node.Replica t q w))) (side_of s p (other w)) (side_of s p w) refl (pair_moved f s p w (sound.pairs p h.0.0)) m (partly f s t q w from m car c)

-- what is asked of a message that was sent to a node
pub taken_asks : (f : Flow) (s : State) (n from : NodeId) (m : Message) → HasNode f n → IsSound f s → Among m (s.sent (link from n)) → TakenAsks f n (s.nodes n) from m
taken_asks f s n from m h sound c =
    let l = link from n in
    let car = each_at (Carries f l) m (s.sent l) c (sound.carried l) in
    record {
      sender = (each_at (λ k. HasNode f l.from × HasNode f l.to) m (s.sent l) c (sound.ends l)).0;
      carried = car;
      bound = each_at (MessageBound f l) m (s.sent l) c (sound.bound.sent l);
      same_move = move_at f s n from m h sound car c;
    }

act_asks : (f : Flow) (s : State) (n : NodeId) (a : Act) → HasNode f n → IsSound f s → WasSent f s n a → ActAsks f n (s.nodes n) a
act_asks f s n (Takes from m) h sound c = taken_asks f s n from m h sound c
act_asks f s n act h sound c = tt

pub sound_asks : (f : Flow) (s : State) (n : NodeId) (a : Act) → HasNode f n → IsSound f s → WasSent f s n a → Asks f n (s.nodes n) a
sound_asks f s n a h sound c = (sound.bound.nodes n, act_asks f s n a h sound c)

pub plan_courses : (plan : PlanView) (inputs : List Input) → IsPlan plan → (courses : NodeId → List Moment) →
    ((n : NodeId) → IsTrueCourse (flow_of plan inputs) (BodyStands plan inputs) (Asks (flow_of plan inputs)) n (courses n)) → Agree courses → (joint : List Stored) → IsJoint courses joint → (front rest : List Stored) → front ++ rest ≡ joint → IsLegalJoint plan inputs courses front rest
plan_courses plan inputs h courses truth agree joint j front rest e =
    let f = flow_of plan inputs in
    let r = law_of_courses f (plan_is_flow plan inputs h) (BodyStands plan inputs) (Asks f) (sound_asks f) courses truth agree joint j front rest e in
    record {
      reached = r.state;
      legal = r.legal;
      sound = r.stage.sound;
      replayed = λ n. record { before = r.so_far n; acts = r.acts n; sent = (r.stage.replays n).0; whole = r.stage.split n; acts_for = r.stage.acts_for n; asked = r.stage.asked n; replayed = (r.stage.replays n).1 };
    }

pub plan_safe : (plan : PlanView) (inputs : List Input) → IsPlan plan → (script : List Order) → IsSafe script → (es : List Event) (t : State) → IsLegal (flow_of plan inputs) es t → AreWithin (flow_of plan inputs) script es → AreServedThroughout (flow_of plan inputs) es
plan_safe plan inputs h script safe es t legal within front rest m e l p at =
    let f = flow_of plan inputs in
    never_lost f (plan_is_flow plan inputs h) script safe front m (legal_front f opening t m es front rest legal e l).there (within_front f script front rest (subst (AreWithin f script) (sym e) within)) l p at

pub sound_owes : (plan : PlanView) (inputs : List Input) → IsPlan plan → (s : State) → IsSound (flow_of plan inputs) s → IsOwed (flow_of plan inputs) s
sound_owes plan inputs h s sound = sound_owed (flow_of plan inputs) s sound

pub sound_gives : (plan : PlanView) (inputs : List Input) → IsPlan plan → (s : State) → IsSound (flow_of plan inputs) s → GivesWhatIsAsked plan inputs s
sound_gives plan inputs h s sound = record { nodes = sound.bound.nodes; messages = λ n from m at c. taken_asks (flow_of plan inputs) s n from m at sound c }
