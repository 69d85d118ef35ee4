-- What is due at a node, an order of the script lets happen.
use Rattle.std.proofs.Common.{ℕ, ◌≡◌, Bool, true, false, List, [], ◌∷◌, Option, Some, None, refl, sym, ap, ◌∙◌, arith, inl, inr}
use Rattle.std.specs.Prelude.{nat_le, not}
use Rattle.std.proofs.lemmas.Bool.{cases_Bool, false≢true}
use Rattle.std.proofs.lemmas.Bool.Decides.{nat_tests}
use Rattle.text_words.proofs.LineFacts.{both_true}
use Rattle.tuple_edge.specs.declared.node.NodeId.{NodeId}
use Rattle.tuple_edge.specs.declared.node.NodeId.TheVariants as node
use Rattle.pair_machine.proofs.Names.{is_node-true}
use Rattle.pair_machine.specs.Lists.{Among}
use Rattle.pair_machine.specs.Numbers.{other}
use Rattle.pair_machine.specs.declared.order.Order.{Order}
use Rattle.failure_script.proofs.SafeScripts.{not_is_true}
use Rattle.failure_script.specs.Orders.{IsOrdered, IsOrderedBack, IsPartnerOrderedBack, due_for, is_back_due, is_due, is_for, is_reached, order_for}

-- ---- the order for a node

order_found : (n : NodeId) (script : List Order) (o : Order) → order_for script n ≡ Some o → Among o script × (o.node ≡ n)
order_found n [] o is = cc is
order_found n (x ∷ script) o is = elim (cases_Bool (is_for n x)) [
  | inl here ↦
      let same : x ≡ o = cc (rw here at is) in
      (inl (sym same), ap (λ (y : Order). y.node) (sym same) ∙ is_node-true x.node n here)
  | inr other ↦
      let later = order_found n script o (rw other at is) in
      (inr later.0, later.1)
]

-- ---- what is due

due_ordered : (script : List Order) (n : NodeId) (kill : Bool) (count : ℕ) (found : Option Order) → order_for script n ≡ found → is_due kill count found ≡ true → IsOrdered script n kill count
due_ordered script n kill count None is due = absurd (false≢true due)
due_ordered script n true count (Some o) is due =
    let (kills, reached) = both_true o.kill (nat_le o.at count) due in
    let (among, same) = order_found n script o is in
    (o, among, same, kills, grind (arith, nat_tests, reached))
due_ordered script n false count (Some o) is due =
    let (spares, reached) = both_true (not o.kill) (nat_le o.at count) due in
    let (among, same) = order_found n script o is in
    (o, among, same, not_is_true o.kill spares, grind (arith, nat_tests, reached))

pub stop_ordered : (script : List Order) (n : NodeId) (count : ℕ) → (due_for script n count).stop ≡ true → IsOrdered script n false count
stop_ordered script n count due = due_ordered script n false count (order_for script n) refl due

pub kill_ordered : (script : List Order) (n : NodeId) (count : ℕ) → (due_for script n count).kill ≡ true → IsOrdered script n true count
kill_ordered script n count due = due_ordered script n true count (order_for script n) refl due

back_reached : (script : List Order) (n : NodeId) (count : ℕ) (o : Order) (back : Option ℕ) → order_for script n ≡ Some o → o.back ≡ back → is_reached count back ≡ true → IsOrderedBack script n count
back_reached script n count o None is back_is due = absurd (false≢true due)
back_reached script n count o (Some back) is back_is due =
    let (among, same) = order_found n script o is in
    (o, among, same, back, back_is, grind (arith, nat_tests, due))

ordered_back : (script : List Order) (n : NodeId) (count : ℕ) (found : Option Order) → order_for script n ≡ found → is_back_due count found ≡ true → IsOrderedBack script n count
ordered_back script n count None is due = absurd (false≢true due)
ordered_back script n count (Some o) is due = back_reached script n count o o.back is refl due

pub back_ordered : (script : List Order) (n : NodeId) (count : ℕ) → (due_for script n count).back ≡ true → IsPartnerOrderedBack script n count
back_ordered script (node.Replica s p w) count due =
    (node.Replica s p (other w), refl, ordered_back script (node.Replica s p (other w)) count (order_for script (node.Replica s p (other w))) refl due)
back_ordered script node.Ingress count due = absurd (false≢true due)
back_ordered script (node.Control s p) count due = absurd (false≢true due)
back_ordered script node.Egress count due = absurd (false≢true due)
