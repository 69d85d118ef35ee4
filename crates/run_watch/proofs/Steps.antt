-- A step changes its own node alone.
use Rattle.std.proofs.Common.{◌≡◌, ◌∙◌, Bool, true, false, List, Err, Ok, Result, refl, sym, ap}
use Rattle.std.specs.Prelude.{if◌then◌else◌}
use Rattle.tuple_edge.specs.declared.event.Event.{Event}
use Rattle.tuple_edge.specs.declared.node.NodeId.{NodeId}
use Rattle.pair_machine.specs.Flow.{Flow}
use Rattle.pair_machine.specs.Machine.{State, act_of, acted, after, at_node, does, step}
use Rattle.pair_machine.specs.Messages.{Act, Envelope, Refusal}
use Rattle.pair_machine.specs.Numbers.{Node, is_node}
use Rattle.pair_machine.proofs.Names.{is_node-true}
use Rattle.run_watch.specs.Pairs.{DifferAt}

state_or : State → Result State Refusal → State
state_or s (Ok t) = t
state_or s (Err why) = s

after_differs : (n : NodeId) (s t : State) (r : Result (Node × List Envelope) Refusal) → after n s r ≡ Ok t → DifferAt n s t
unfolding state_or
after_differs n s t (Err why) e m other = absurd (let z : ⊥ = cc e in z)
after_differs n s t (Ok d) e m other = ap (λ (u : State). u.nodes m) (sym (ap (state_or s) e)) ∙ go (is_node m n) refl
  where
    go : (b : Bool) → is_node m n ≡ b → (if b then d.0 else s.nodes m) ≡ s.nodes m
    go true same = absurd (other (is_node-true m n same))
    go false same = refl

acted_differs : (f : Flow) (n : NodeId) (s t : State) (r : Result Act Refusal) → acted f n s r ≡ Ok t → DifferAt n s t
acted_differs f n s t (Err why) e m other = absurd (let z : ⊥ = cc e in z)
acted_differs f n s t (Ok a) e m other = after_differs n s t (does f n a (s.nodes n)) e m other

pub steps_differ : (f : Flow) (s t : State) (e : Event) → step f s e ≡ Ok t → DifferAt (at_node e) s t
unfolding step
steps_differ f s t e done = acted_differs f (at_node e) s t (act_of f s e) done
