-- What a partition sends after its first merged items is the front of its edge, and what ingress makes of an edge is its items up to a
-- stamp.
use Rattle.std.proofs.Common.{◌≡◌, ◌≤◌, ◌<◌, ℕ, Bool, List, [], ◌∷◌, ◌++◌, ◌+◌, Option, None, Some, refl, sym, ap, ◌∙◌, subst, arith, length, drop, take, append_assoc}
use Rattle.std.specs.Prelude.{count_by, filter, if◌then◌else◌, nat_le}
use Rattle.std.proofs.lemmas.Bool.{leb-false, leb-true, le-leb, lt-leb}
use Rattle.std.proofs.lemmas.List.{append-nil, length-append, take-append-drop, take-take, take_at}
use Rattle.std.proofs.lemmas.List.Elements.{filter-append}
use Rattle.std.proofs.lemmas.List.Sums.{sum_by-cons}
use Rattle.tuple_edge.specs.declared.item.Item.{Item}
use Rattle.tuple_edge.specs.declared.item.Item.TheVariants as item
use Rattle.tuple_edge.specs.Item.{stamp_of}
use Rattle.merge_order.specs.Edges.{AllFrom, IsEdge}
use Rattle.merge_order.proofs.Choices.{if_elim}
use Rattle.merge_order.proofs.Step.{weaken}
use Rattle.op_spec.specs.declared.spec.OpSpec.{OpSpec}
use Rattle.stream_ops.specs.Answers.{answer}
use Rattle.plan_reader.specs.declared.stage.Stage.{Stage}
use Rattle.pair_machine.specs.Counts.{sent_after}
use Rattle.pair_machine.specs.Edges.{answered, edge_to, goes_to, passed, stamped}

-- ---- what an operator answers to more items comes after what it answered before

pub answered-append : (op : OpSpec) (x is js : List Item) → answered op x (is ++ js) ≡ answered op x is ++ answered op (x ++ is) js
answered-append op x [] js = ap (λ y. answered op y js) (sym (append-nil x))
answered-append op x (i ∷ is) js =
    let head = stamped (stamp_of i) (answer op x i) ++ passed i in
    ap (λ y. head ++ y) (answered-append op (x ++ i ∷ []) is js ∙ ap (λ y. answered op (x ++ i ∷ []) is ++ answered op y js) (append_assoc x (i ∷ []) is))
    ∙ sym (append_assoc head (answered op (x ++ i ∷ []) is) (answered op (x ++ i ∷ is) js))

pub edge_to-append : (next : Option Stage) (t : ℕ) (xs ys : List Item) → edge_to next t (xs ++ ys) ≡ edge_to next t xs ++ edge_to next t ys
edge_to-append None t xs ys = refl
edge_to-append (Some stage) t xs ys = filter-append (goes_to stage t) xs ys

-- ---- fronts

-- a list goes on after another one
pub record GoesOn {X : Type 0} (front whole : List X) : Type 0 where
  pub rest : List X
  pub is : whole ≡ front ++ rest

pub front_most : {X : Type 0} (front whole : List X) → GoesOn front whole → length front ≤ length whole
front_most front whole g = omega (arith, ap length g.is, length-append front g.rest)

pub front_is : {X : Type 0} (front whole : List X) → GoesOn front whole → take (length front) whole ≡ front
front_is front whole g = ap (take (length front)) g.is ∙ take_at front g.rest (length front) refl

-- what is sent after more items goes on after what is sent after fewer
pub sent_goes_on : (stage next : Option Stage) (t : ℕ) (given more : List Item) → GoesOn given more → GoesOn (sent_after stage next t given) (sent_after stage next t more)
sent_goes_on None next t given more g = record { rest = []; is = refl }
sent_goes_on (Some stage) next t given more g = record {
  rest = edge_to next t (answered stage.op ([] ++ given) g.rest);
  is = ap (λ x. edge_to next t (answered stage.op [] x)) g.is
      ∙ (ap (edge_to next t) (answered-append stage.op [] given g.rest)
      ∙ edge_to-append next t (answered stage.op [] given) (answered stage.op ([] ++ given) g.rest));
}

pub take_goes_on : {X : Type 0} (c : ℕ) (xs : List X) → GoesOn (take c xs) xs
take_goes_on c xs = record { rest = drop c xs; is = sym (take-append-drop c xs) }

pub take_more_goes_on : {X : Type 0} (c d : ℕ) (xs : List X) → c ≤ d → GoesOn (take c xs) (take d xs)
take_more_goes_on c d xs l = record { rest = drop c (take d xs); is = sym (take-append-drop c (take d xs)) ∙ ap (λ y. y ++ drop c (take d xs)) (take-take c d xs l) }

-- ---- up to a stamp

-- whether the stamp of an item is at most n
abbrev pub is_upto : ℕ → Item → Bool
is_upto n i = nat_le (stamp_of i) n

pub none_upto : (n k : ℕ) (is : List Item) → n < k → AllFrom k is → filter (is_upto n) is ≡ []
none_upto n k [] l f = refl
none_upto n k (i ∷ is) l f = ap (λ b. if b then i ∷ filter (is_upto n) is else filter (is_upto n) is) (lt-leb (stamp_of i) n (omega (arith, f.0))) ∙ none_upto n k is l f.1

upto_cons : (n : ℕ) (i : Item) (is : List Item) → AllFrom (stamp_of i) is → GoesOn (filter (is_upto n) is) is → GoesOn (filter (is_upto n) (i ∷ is)) (i ∷ is)
upto_cons n i is f g =
    if_elim (λ front. GoesOn front (i ∷ is)) (nat_le (stamp_of i) n) (i ∷ filter (is_upto n) is) (filter (is_upto n) is)
    (λ b. record { rest = g.rest; is = ap (λ x. i ∷ x) g.is })
    (λ b. record { rest = i ∷ is; is = ap (λ x. x ++ i ∷ is) (sym (none_upto n (stamp_of i) is (leb-false (stamp_of i) n b) f)) })

-- the items of an edge up to a stamp are its front
pub upto_goes_on : (last n : ℕ) (is : List Item) → IsEdge last is → GoesOn (filter (is_upto n) is) is
upto_goes_on last n [] e = absurd e
upto_goes_on last n (item.Row s r ∷ is) e = upto_cons n (item.Row s r) is e.2 (upto_goes_on last n is e.3)
upto_goes_on last n (item.Mark s ∷ is) e = upto_cons n (item.Mark s) is (weaken s (s + 1) is (omega arith) e.2) (upto_goes_on last n is e.3)
upto_goes_on last n (item.End s ∷ is) e =
    upto_cons n (item.End s) is (subst (AllFrom s) (sym e.2) tt) (subst (λ x. GoesOn (filter (is_upto n) x) x) (sym e.2) (record { rest = []; is = refl }))

last_cons : (last : ℕ) (i : Item) (is : List Item) → stamp_of i ≤ last → filter (is_upto last) is ≡ is → filter (is_upto last) (i ∷ is) ≡ i ∷ is
last_cons last i is l e = ap (λ b. if b then i ∷ filter (is_upto last) is else filter (is_upto last) is) (le-leb (stamp_of i) last l) ∙ ap (λ x. i ∷ x) e

-- all items of an edge are up to its last stamp
pub upto_last : (last : ℕ) (is : List Item) → IsEdge last is → filter (is_upto last) is ≡ is
upto_last last [] e = absurd e
upto_last last (item.Row s r ∷ is) e = last_cons last (item.Row s r) is e.1 (upto_last last is e.3)
upto_last last (item.Mark s ∷ is) e = last_cons last (item.Mark s) is e.1 (upto_last last is e.3)
upto_last last (item.End s ∷ is) e = last_cons last (item.End s) is (let h = e.1 in omega arith) (ap (filter (is_upto last)) e.2 ∙ sym e.2)

-- the higher the stamp, the more items are up to it
pub upto_rising : (n m : ℕ) (is : List Item) → n ≤ m → count_by (is_upto n) is ≤ count_by (is_upto m) is
upto_rising n m [] l = omega arith
upto_rising n m (i ∷ is) l =
    let as_one : Bool → ℕ = λ b. if b then 1 else 0 in
    let one : as_one (nat_le (stamp_of i) n) ≤ as_one (nat_le (stamp_of i) m) =
    if_elim (λ k. k ≤ as_one (nat_le (stamp_of i) m)) (nat_le (stamp_of i) n) 1 0
    (λ b. let h = ap as_one (le-leb (stamp_of i) m (omega (arith, leb-true (stamp_of i) n b))) in omega arith) (λ b. omega arith) in
    omega (arith, sum_by-cons (λ x. as_one (is_upto n x)) i is, sum_by-cons (λ x. as_one (is_upto m x)) i is, one, upto_rising n m is l)
