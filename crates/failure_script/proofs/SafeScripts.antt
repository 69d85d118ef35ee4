-- The pairwise test of a script is true exactly where the script is safe.
use Rattle.std.proofs.Common.{ℕ, zero, suc, ◌≡◌, true, false, List, [], ◌∷◌, Some, refl, sym, ap, subst, arith, inl, inr}
use Rattle.std.specs.Prelude.{◌||◌, Bool, not, slice_get}
use Rattle.std.specs.Bool.{Decides}
use Rattle.std.specs.List.{list_any}
use Rattle.std.proofs.lemmas.Bool.{cases_Bool, false≢true}
use Rattle.std.proofs.lemmas.Bool.Decides.{nat_tests}
use Rattle.tuple_edge.specs.declared.node.NodeId.{NodeId}
use Rattle.tuple_edge.specs.declared.node.NodeId.TheVariants as node
use Rattle.pair_machine.specs.Scripts.{AreOfOnePair, IsSafe}
use Rattle.pair_machine.specs.declared.order.Order.{Order}
use Rattle.text_words.proofs.LineFacts.{both_true}
use Rattle.failure_script.specs.Orders.{are_of_one_pair, are_safe, are_unsafe}

-- ---- nodes of one pair

pub pair_tested : (m n : NodeId) → AreOfOnePair m n → are_of_one_pair m n ≡ true
pair_tested (node.Replica s p w) (node.Replica t q v) pair = grind (arith, nat_tests, pair.0, pair.1)
pair_tested (node.Replica s p w) node.Ingress pair = absurd pair
pair_tested (node.Replica s p w) (node.Control t q) pair = absurd pair
pair_tested (node.Replica s p w) node.Egress pair = absurd pair
pair_tested node.Ingress n pair = absurd pair
pair_tested (node.Control s p) n pair = absurd pair
pair_tested node.Egress n pair = absurd pair

pub tested_pair : (m n : NodeId) → are_of_one_pair m n ≡ true → AreOfOnePair m n
tested_pair (node.Replica s p w) (node.Replica t q v) test = (grind (arith, nat_tests, test), grind (arith, nat_tests, test))
tested_pair (node.Replica s p w) node.Ingress test = absurd (false≢true test)
tested_pair (node.Replica s p w) (node.Control t q) test = absurd (false≢true test)
tested_pair (node.Replica s p w) node.Egress test = absurd (false≢true test)
tested_pair node.Ingress n test = absurd (false≢true test)
tested_pair (node.Control s p) n test = absurd (false≢true test)
tested_pair node.Egress n test = absurd (false≢true test)

pub turned : (m n : NodeId) → AreOfOnePair m n → AreOfOnePair n m
turned (node.Replica s p w) (node.Replica t q v) pair = (sym pair.0, sym pair.1)
turned (node.Replica s p w) node.Ingress pair = absurd pair
turned (node.Replica s p w) (node.Control t q) pair = absurd pair
turned (node.Replica s p w) node.Egress pair = absurd pair
turned node.Ingress n pair = absurd pair
turned (node.Control s p) n pair = absurd pair
turned node.Egress n pair = absurd pair

-- ---- truth values

left_false : (a b : Bool) → (a || b) ≡ false → a ≡ false
left_false true b e = e
left_false false b e = refl

right_false : (a b : Bool) → (a || b) ≡ false → b ≡ false
right_false true b e = absurd (false≢true (sym e))
right_false false b e = e

pub not_is_true : (a : Bool) → not a ≡ true → a ≡ false
not_is_true true e = absurd (false≢true e)
not_is_true false e = refl

-- ---- two orders

-- of two orders of one pair that pass, neither is a kill
no_kill : (x y : Order) → are_unsafe x y ≡ false → AreOfOnePair x.node y.node → (x.kill ≡ false) × (y.kill ≡ false)
no_kill x y safe pair =
    let either : (x.kill || y.kill) ≡ false = rw (pair_tested x.node y.node pair) at safe in
    (left_false x.kill y.kill either, right_false x.kill y.kill either)

none_at : (x : Order) (orders : List Order) (i : ℕ) (y : Order) → list_any (are_unsafe x) orders ≡ false → slice_get orders i ≡ Some y → are_unsafe x y ≡ false
none_at x [] i y none at = cc at
none_at x (z ∷ orders) zero y none at =
    let same : z ≡ y = cc at in
    subst (λ (w : Order). are_unsafe x w ≡ false) same (left_false (are_unsafe x z) _ none)
none_at x (z ∷ orders) (suc i) y none at = none_at x orders i y (right_false (are_unsafe x z) _ none) at

-- an order that does not pass beside x stands at some place
some_at : (x : Order) (orders : List Order) → list_any (are_unsafe x) orders ≡ true → (i : ℕ) × (y : Order) × (slice_get orders i ≡ Some y) × (are_unsafe x y ≡ true)
some_at x [] some = absurd (false≢true some)
some_at x (z ∷ orders) some = elim (cases_Bool (are_unsafe x z)) [
  | inl here ↦ (zero, z, refl, here)
  | inr not_here ↦
      let (i, y, at, unsafe) = some_at x orders (rw not_here at some) in
      (suc i, y, at, unsafe)
]

-- ---- scripts

pub passes_safe : (orders : List Order) → are_safe orders ≡ true → IsSafe orders
unfolding are_safe
passes_safe [] passes i j x y x_at y_at differ pair = cc x_at
passes_safe (z ∷ orders) passes zero zero x y x_at y_at differ pair = absurd (differ refl)
passes_safe (z ∷ orders) passes zero (suc j) x y x_at y_at differ pair =
    let (none, later) = both_true (not (list_any (are_unsafe z) orders)) (are_safe orders) passes in
    let z_is : z ≡ x = cc x_at in
    let safe = none_at z orders j y (not_is_true _ none) y_at in
    (no_kill x y (subst (λ (w : Order). are_unsafe w y ≡ false) z_is safe) pair).0
passes_safe (z ∷ orders) passes (suc i) zero x y x_at y_at differ pair =
    let (none, later) = both_true (not (list_any (are_unsafe z) orders)) (are_safe orders) passes in
    let z_is : z ≡ y = cc y_at in
    let safe = none_at z orders i x (not_is_true _ none) x_at in
    (no_kill y x (subst (λ (w : Order). are_unsafe w x ≡ false) z_is safe) (turned x.node y.node pair)).1
passes_safe (z ∷ orders) passes (suc i) (suc j) x y x_at y_at differ pair =
    let (none, later) = both_true (not (list_any (are_unsafe z) orders)) (are_safe orders) passes in
    passes_safe orders later i j x y x_at y_at (λ same. differ (ap suc same)) pair

-- an unsafe pair in a safe script
no_pair : (x y : Order) → are_unsafe x y ≡ true → (AreOfOnePair x.node y.node → (x.kill ≡ false) × (y.kill ≡ false)) → ⊥
no_pair x y unsafe safe =
    let (pair, kills) = both_true (are_of_one_pair x.node y.node) (x.kill || y.kill) unsafe in
    let (x_no, y_no) = safe (tested_pair x.node y.node pair) in
    false≢true (rw (x_no, y_no) at kills)

pub safe_passes : (orders : List Order) → IsSafe orders → are_safe orders ≡ true
unfolding are_safe
safe_passes [] safe = refl
safe_passes (z ∷ orders) safe =
    let later : are_safe orders ≡ true = safe_passes orders (λ i j x y x_at y_at differ pair. safe (suc i) (suc j) x y x_at y_at (λ same. differ (cc same)) pair) in
    elim (cases_Bool (list_any (are_unsafe z) orders)) [
      | inl some ↦
          let (i, y, at, unsafe) = some_at z orders some in
          absurd (no_pair z y unsafe (λ pair. (
            safe zero (suc i) z y refl at (λ same. omega (arith, same)) pair,
            safe (suc i) zero y z at refl (λ same. omega (arith, same)) (turned z.node y.node pair),
          )))
      | inr none ↦ rw (none, later) refl
    ]

pub are_safe_Decides : (orders : List Order) → Decides (are_safe orders) (IsSafe orders)
are_safe_Decides orders = (passes_safe orders, safe_passes orders)
