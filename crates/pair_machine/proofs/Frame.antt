-- What each node and each packet meets is kept where the node of the step and its letters meet it.
use Rattle.std.proofs.Common.{◌≡◌, Bool, true, false, List, [], ◌∷◌, ◌++◌, refl, sym, subst}
use Rattle.std.specs.Prelude.{if◌then◌else◌}
use Rattle.pair_machine.specs.Lengths.{Meets}
use Rattle.pair_machine.specs.Links.{link}
use Rattle.pair_machine.specs.Lists.{Each}
use Rattle.pair_machine.specs.Machine.{State, changed, messages_to, posted}
use Rattle.pair_machine.specs.Messages.{Envelope, Message}
use Rattle.pair_machine.specs.Numbers.{Node, is_node}
use Rattle.tuple_edge.specs.declared.node.LinkId.{LinkId}
use Rattle.tuple_edge.specs.declared.node.NodeId.{NodeId}
use Rattle.pair_machine.proofs.Lists.{each_append, each_map}
use Rattle.pair_machine.proofs.Names.{is_node-true}
use Rattle.pair_machine.proofs.Tests.{if_elim}

abbrev pub EnvelopesMeet : (LinkId → Message → Type 0) → NodeId → List Envelope → Type 0
EnvelopesMeet M n out = Each (λ l. M (link n l.to) l.message) out

envelopes_meet : (M : LinkId → Message → Type 0) (n to : NodeId) (out : List Envelope) → EnvelopesMeet M n out → Each (M (link n to)) (messages_to to out)
envelopes_meet M n to [] h = tt
envelopes_meet M n to (x ∷ xs) h = go (is_node x.to to) (is_node-true x.to to) (envelopes_meet M n to xs h.1)
  where
    go : (c : Bool) → (c ≡ true → x.to ≡ to) → Each (M (link n to)) (messages_to to xs) → Each (M (link n to)) (if c then x.message ∷ messages_to to xs else messages_to to xs)
    go true e k = (subst (λ t. M (link n t) x.message) (e refl) h.0, k)
    go false e k = k

pub framed : (N N_after : NodeId → Node → Type 0) (M M_after : LinkId → Message → Type 0) (s : State) (n : NodeId) (x : Node) (out : List Envelope) →
    ((m : NodeId) (y : Node) → N m y → N_after m y) → ((l : LinkId) (m : Message) → M l m → M_after l m) →
    Meets N M s → N_after n x → EnvelopesMeet M_after n out →
    Meets N_after M_after (record { nodes = changed n x s.nodes; sent = posted n out s.sent })
framed N N_after M M_after s n x out wider more old at envelopes = record {
  nodes = λ m. if_elim (N_after m) (is_node m n) x (s.nodes m) (λ e. subst (λ k. N_after k x) (sym (is_node-true m n e)) at) (λ e. wider m (s.nodes m) (old.nodes m));
  sent = λ l. if_elim (Each (M_after l)) (is_node l.from n) (s.sent l ++ messages_to l.to out) (s.sent l)
      (λ e. each_append (M_after l) (s.sent l) (messages_to l.to out) (each_map (M l) (M_after l) (more l) (s.sent l) (old.sent l))
      (let z = envelopes_meet M_after n l.to out envelopes in subst (λ k. Each (M_after (link k l.to)) (messages_to l.to out)) (sym (is_node-true l.from n e)) z))
      (λ e. each_map (M l) (M_after l) (more l) (s.sent l) (old.sent l));
}
