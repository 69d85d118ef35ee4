use Rattle.std.proofs.Common.{◌≡◌, ◌+◌, ◌∙◌, true, List, Option, None, Some, ap, arith, length, refl, subst, rules}
use Rattle.std.specs.Prelude.{is_some}
use Rattle.std.proofs.lemmas.List.{length-append}
use Rattle.tuple_edge.specs.declared.node.NodeId.{NodeId}
use Rattle.tuple_edge.specs.declared.packet.Body.{Body}
use Rattle.tuple_edge.specs.declared.event.Worked.TheVariants as worked
use Rattle.pair_machine.specs.Receivers.{appended}
use Rattle.state_mover.specs.MoverView.{MoverView}
use Rattle.state_mover.specs.declared.mover.Moved.{Moved}
use Rattle.state_mover.specs.declared.mover.Moved.TheVariants as moved
use Rattle.replica_node.specs.Rules.{Moves, MovesOrSends, part_sent}
use Rattle.replica_node.specs.declared.phase.Phase.TheVariants as phase
use Rattle.replica_node.specs.declared.phase.Running.{Running}
use Rattle.replica_node.specs.declared.role.Role.{Role}
use Rattle.replica_node.proofs.phase.Running.move_or_send.Goals as goal

moves_some : (role : Role) (r s : Running) (sent : List (NodeId × Body)) (o : Option MoverView) → r.mover ≡ o → is_some o ≡ true
    → ((m : MoverView) → r.mover ≡ Some m → Moves role m r s sent) → MovesOrSends role r o (phase.Running s) sent worked.Did
moves_some role r s sent (Some m) is there moves = (s, refl, moves m is, refl)
moves_some role r s sent None is there moves = let z : ⊥ = cc there in absurd z

some_mover : (c : goal.After-move_on) → is_some c.args.self.now.mover ≡ true
some_mover c = search rules

pub returns-then-is_some-clause-moves : goal.returns-then-is_some-clause-moves
returns-then-is_some-clause-moves c = λ sure.
    let packets = c.in_ok-reserve.ensures.packets in
    moves_some c.args.role.now c.args.self.now c.move_on.new.self (appended c.args.out.now.packets c.move_on.new.out.packets) c.args.self.now.mover refl (some_mover c)
    (λ (m : MoverView) is. subst (λ (before : List (NodeId × Body)). Moves c.args.role.now m c.args.self.now c.move_on.new.self (appended before c.move_on.new.out.packets)) packets (c.move_on.ensures.moves m is))

-- ---- one packet

one_part : (role : Role) (m : MoverView) (part : Moved) → length (part_sent role m part) ≡ 1
one_part role m (moved.Chunk number e) = refl
one_part role m (moved.End count) = refl

moves_one : (role : Role) (r s : Running) (sent : List (NodeId × Body)) (o : Option MoverView) → r.mover ≡ o → is_some o ≡ true
    → ((m : MoverView) → r.mover ≡ Some m → Moves role m r s sent) → length sent ≡ 1
moves_one role r s sent (Some m) is there moves = let gives = moves m is in ap length gives.sent_is ∙ one_part role m gives.part
moves_one role r s sent None is there moves = let z : ⊥ = cc there in absurd z

pub returns-then-is_some-clause-one : goal.returns-then-is_some-clause-one
returns-then-is_some-clause-one c = λ did.
    let before = c.reserve.new.self.packets in
    let after = c.move_on.new.out.packets in
    let one : length (appended before after) ≡ 1 = moves_one c.args.role.now c.args.self.now c.move_on.new.self (appended before after) c.args.self.now.mover refl (some_mover c) c.move_on.ensures.moves in
    let all : length after ≡ length before + length (appended before after) = ap length c.move_on.ensures.packets ∙ length-append before (appended before after) in
    let same : length before ≡ length c.args.out.now.packets = ap length c.in_ok-reserve.ensures.packets in
    omega (arith, one, all, same)
