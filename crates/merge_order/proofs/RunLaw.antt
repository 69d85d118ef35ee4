-- Any order of offers, and a merge that has taken all items of its edges.
use Rattle.std.proofs.Common.{◌≡◌, ◌<◌, ℕ, suc, List, [], ◌∷◌, ◌++◌, Option, None, Some, ◌+◌, refl, sym, ap, ◌∙◌, arith, length, take, get_or, add-one, append_assoc, replicate}
use Rattle.std.specs.Option.{option_to_list}
use Rattle.std.specs.Prelude.{◌==◌}
use Rattle.std.proofs.lemmas.List.{append-nil, get_or-replicate, length-append, length-replicate, length-take-le, nil_from_length}
use Rattle.tuple_edge.specs.declared.item.Item.{Item}
use Rattle.merge_order.specs.declared.head.Head.{Head}
use Rattle.merge_order.specs.Edges.{AreEdges}
use Rattle.merge_order.specs.Merged.{Place, items, merged}
use Rattle.merge_order.specs.MergeView.{MergeView, after_head, after_next, after_offer, item_of, least, mark_of, opening, with_item}
use Rattle.merge_order.specs.StandsFor.{AllTaken, StandsFor}
use Rattle.merge_order.specs.Runs.{AnyOrderMerges, GivesAFront, Nexts, Offers, given}
use Rattle.merge_order.proofs.AfterNext.{front_more}
use Rattle.merge_order.proofs.Choices.{if_elim}
use Rattle.merge_order.proofs.Step.{Done, IsRest, More}
use Rattle.merge_order.proofs.Rest.{EdgesLeft, LeftAt, has_least, left_at, left_done}
use Rattle.merge_order.proofs.Standing.{EdgesStand, StandsAt, next_in_order, next_stands, offer_stands, ready_is, split_same, stands_of, starting_stands}

count_kept : (m : MergeView) (edge number : ℕ) (i : Item) → (after_offer m edge number i).count ≡ m.count
count_kept m edge number i = if_elim (λ x. x.count ≡ m.count) (number == mark_of m edge + 1) (with_item m edge number i) m (λ e. refl) (λ e. refl)

given_more : (last : ℕ) (es : List (List Item)) (m : MergeView) (o : Option Head) → StandsAt last es m.count (item_of o)
    → take (after_head m o).count (items (merged last es)) ≡ take m.count (items (merged last es)) ++ option_to_list (item_of o)
given_more last es m None p = sym (append-nil (take m.count (items (merged last es))))
given_more last es m (Some head) p = rw add-one (front_more m.count (items (merged last es)) head.item p)

pub any_order : AnyOrderMerges
any_order last es m [] edges s t = record { front = sym (append-nil (take m.count (items (merged last es)))); stands = s; ready = ready_is last es m s }
any_order last es m (Offers edge number i ∷ calls) edges s t =
    let within : edge < length m.marks = omega (arith, s.marks, t.0) in
    let more = any_order last es (after_offer m edge number i) calls edges (offer_stands last es m edge number i s within (λ _. t.1)) t.2 in
    record {
      front = more.front ∙ ap (λ c. take c (items (merged last es)) ++ given (after_offer m edge number i) calls) (count_kept m edge number i);
      stands = more.stands;
      ready = more.ready;
    }
any_order last es m (Nexts ∷ calls) edges s t =
    let more = any_order last es (after_next m) calls edges (next_stands last es m edges s) t in
    let given_now = option_to_list (item_of (least m.waiting)) in
    record {
      front = more.front
          ∙ (ap (λ x. x ++ given (after_next m) calls) (given_more last es m (least m.waiting) (next_in_order last es m edges s))
          ∙ append_assoc (take m.count (items (merged last es))) given_now (given (after_next m) calls));
      stands = more.stands;
      ready = more.ready;
    }

-- a merge that has taken nothing --------------------------------------------------------

pub opening_stands : (last : ℕ) (es : List (List Item)) (n : ℕ) → AreEdges last es → length es ≡ n → StandsFor last es (opening n)
opening_stands last es n edges e =
    starting_stands last es (replicate n 0) 0 edges (length-replicate {A = ℕ} n 0 ∙ sym e) (omega arith) (λ q l. get_or-replicate {A = ℕ} n q 0 0 (omega (arith, e, l)))

pub gives_front : GivesAFront
gives_front last es calls edges t = sym (any_order last es (opening (length es)) calls edges (opening_stands last es (length es) edges refl) t).front

-- where all items were taken, the next one is known until the list ends --------------------

all_wait_here : (q : ℕ) (front : List Place) (es : List (List Item)) (ks : List ℕ) (ws rs : List (List Item)) → EdgesStand q front es ks ws → EdgesLeft q front es rs
    → ((k : ℕ) → k < length es → get_or ks k 0 ≡ length (get_or es k [])) → ws ≡ rs
all_wait_here q front [] [] [] [] s l m = refl
all_wait_here q front [] [] [] (r ∷ rs) s l m = absurd l
all_wait_here q front [] [] (w ∷ ws) rs s l m = absurd s
all_wait_here q front [] (k ∷ ks) ws rs s l m = absurd s
all_wait_here q front (e ∷ es) [] ws rs s l m = absurd s
all_wait_here q front (e ∷ es) (k ∷ ks) [] rs s l m = absurd s
all_wait_here q front (e ∷ es) (k ∷ ks) (w ∷ ws) [] s l m = absurd l
all_wait_here q front (e ∷ es) (k ∷ ks) (w ∷ ws) (r ∷ rs) s l m =
    let here : k ≡ length e = m 0 (omega arith) in
    let none : length s.0.ahead ≡ 0 =
    omega (arith, here, s.0.mark_is, ap length s.0.whole, length-append s.0.gone (w ++ s.0.ahead), length-append w s.0.ahead) in
    let same : r ≡ w ++ s.0.ahead = split_same l.0.gone s.0.gone r (w ++ s.0.ahead) (sym l.0.whole ∙ s.0.whole) (l.0.long ∙ sym s.0.used_is) in
    let first : w ≡ r = sym (same ∙ (ap (λ x. w ++ x) (nil_from_length s.0.ahead none) ∙ append-nil w)) in
    ap (λ x. x ∷ ws) first ∙ ap (λ x. r ∷ x) (all_wait_here (q + 1) front es ks ws rs s.1 l.1 (λ i h. m (suc i) (omega arith)))

pub all_given : (last : ℕ) (es : List (List Item)) (m : MergeView) → AreEdges last es → StandsFor last es m → AllTaken es m → item_of (least m.waiting) ≡ None → m.count ≡ length (merged last es)
all_given last es m edges s taken none = by_form l.form
  where
    front : List Place
    front = take m.count (merged last es)

    l : LeftAt last es m.count
    l = left_at last es edges m.count s.count

    same : m.waiting ≡ l.rest
    same = all_wait_here 0 front es m.marks m.waiting l.rest (stands_of last es m s).edges l.edges taken

    by_form : IsRest last l.rest → m.count ≡ length (merged last es)
    by_form (Done d) =
        let whole = ap length (l.goes_on ∙ ap (λ x. front ++ x) (left_done last l.rest d)) in
        omega (arith, whole, length-append front [], length-take-le m.count (merged last es) s.count)
    by_form (More carries a) =
        let h = has_least last carries l.rest l.some a in
        let f : item_of (least m.waiting) ≡ Some h.head.item = ap (λ x. item_of (least x)) same ∙ ap item_of h.is in
        let z : ⊥ = cc (none, f) in absurd z
