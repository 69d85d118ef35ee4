-- A merge goes on standing for its marks and its count, and gives the items of the merged list in order.
use Rattle.std.proofs.Common.{◌≡◌, ◌<◌, ◌≤◌, ℕ, zero, suc, Bool, true, false, List, [], ◌∷◌, ◌++◌, Option, None, Some, ◌+◌, ◌-◌, refl, sym, ap, ◌∙◌, subst, arith, drop, length, take, get_or, set, add-one, append_assoc, replicate}
use Rattle.std.specs.Prelude.{if◌then◌else◌, IfSome, IsTrue, slice_get, ◌↔◌, ◌==◌}
use Rattle.std.proofs.lemmas.List.{drop-drop, drop_at, length-append, length-drop, length-take-le, take-append-drop, take_at}
use Rattle.std.proofs.lemmas.Bool.{eqb-true}
use Rattle.tuple_edge.specs.declared.item.Item.{Item}
use Rattle.tuple_edge.specs.declared.item.Item.TheVariants as item
use Rattle.merge_order.specs.declared.head.Head.{Head}
use Rattle.merge_order.specs.Edges.{AreEdges, edge_of, item_at}
use Rattle.merge_order.specs.Merged.{Place, count_of, is_from, items, merged, used}
use Rattle.merge_order.specs.MergeView.{MergeView, after_head, after_next, after_offer, all_wait, item_of, least, lesser, mark_of, starting, taken_from, waiting_of, with_item}
use Rattle.merge_order.specs.StandsFor.{AllBelow, StandsFor, WaitsBetween}
use Rattle.merge_order.proofs.Choices.{if_elim, nat_self}
use Rattle.merge_order.proofs.Heads.{head_at, heads_of, least_from, least_is}
use Rattle.merge_order.proofs.Taken.{TakesIf, EdgesTake}
use Rattle.merge_order.proofs.Step.{AllDone, AllHead, IsRest, More, Done, left, place_from, row_takes, sign_takes, step}
use Rattle.merge_order.proofs.Rest.{EdgesLeft, LeftAt, count-push, take_next, left_at}

-- an edge in three parts: what was used, what waits, and what is ahead ------------------

pub record EdgeStands (edge : List Item) (used mark : ℕ) (waiting : List Item) : Type 0 where
  pub gone : List Item
  pub ahead : List Item
  pub whole : edge ≡ gone ++ (waiting ++ ahead)
  pub used_is : length gone ≡ used
  pub mark_is : length gone + length waiting ≡ mark

-- the same for each edge from source q on, where these items were merged
abbrev pub EdgesStand : ℕ → List Place → List (List Item) → List ℕ → List (List Item) → Type 0
EdgesStand q front [] [] [] = Unit {0}
EdgesStand q front [] [] (w ∷ ws) = ⊥
EdgesStand q front [] (k ∷ ks) ws = ⊥
EdgesStand q front (e ∷ es) [] ws = ⊥
EdgesStand q front (e ∷ es) (k ∷ ks) [] = ⊥
EdgesStand q front (e ∷ es) (k ∷ ks) (w ∷ ws) = EdgeStands e (count_of q front) k w × EdgesStand (q + 1) front es ks ws

in_parts : (edge : List Item) (used mark : ℕ) (waiting : List Item) → WaitsBetween edge used mark waiting → EdgeStands edge used mark waiting
in_parts edge used mark waiting w = record {
  gone = take used edge;
  ahead = drop mark edge;
  whole = sym (take-append-drop used edge) ∙ ap (λ x. take used edge ++ x) rest;
  used_is = length-take-le used edge (omega (arith, w.used_within, w.mark_within));
  mark_is = omega (arith, length-take-le used edge (omega (arith, w.used_within, w.mark_within)), long, w.used_within);
}
  where
    long : length waiting ≡ mark - used
    long = ap length w.waits ∙ length-take-le (mark - used) (drop used edge) (omega (arith, length-drop used edge, w.used_within, w.mark_within))

    there : used + (mark - used) ≡ mark
    there = omega (arith, w.used_within)

    rest : drop used edge ≡ waiting ++ drop mark edge
    rest = sym (take-append-drop (mark - used) (drop used edge))
        ∙ (ap (λ x. x ++ drop (mark - used) (drop used edge)) (sym w.waits) ∙ ap (λ x. waiting ++ x) (drop-drop (mark - used) used edge ∙ ap (λ n. drop n edge) there))

in_range : (edge : List Item) (used mark : ℕ) (waiting : List Item) → EdgeStands edge used mark waiting → WaitsBetween edge used mark waiting
in_range edge used mark waiting s = record {
  used_within = omega (arith, s.used_is, s.mark_is);
  mark_within = omega (arith, s.mark_is, ap length s.whole, length-append s.gone (waiting ++ s.ahead), length-append waiting s.ahead);
  waits = sym (ap (take (mark - used)) (ap (drop used) s.whole ∙ drop_at s.gone (waiting ++ s.ahead) used s.used_is)
      ∙ take_at waiting s.ahead (mark - used) (omega (arith, s.used_is, s.mark_is)));
}

edges_stand : (q : ℕ) (front : List Place) (es : List (List Item)) (ks : List ℕ) (ws : List (List Item)) → length ks ≡ length es → length ws ≡ length es
    → ((k : ℕ) → k < length es → WaitsBetween (get_or es k []) (count_of (q + k) front) (get_or ks k 0) (get_or ws k [])) → EdgesStand q front es ks ws
edges_stand q front [] [] [] a b h = tt
edges_stand q front [] [] (w ∷ ws) a b h = absurd (omega arith)
edges_stand q front [] (k ∷ ks) ws a b h = absurd (omega arith)
edges_stand q front (e ∷ es) [] ws a b h = absurd (omega arith)
edges_stand q front (e ∷ es) (k ∷ ks) [] a b h = absurd (omega arith)
edges_stand q front (e ∷ es) (k ∷ ks) (w ∷ ws) a b h = (
  in_parts e (count_of q front) k w (subst (λ n. WaitsBetween e (count_of n front) k w) (omega arith) (h 0 (omega arith))),
  edges_stand (q + 1) front es ks ws (omega arith) (omega arith)
      (λ i l. subst (λ n. WaitsBetween (get_or es i []) (count_of n front) (get_or ks i 0) (get_or ws i [])) (omega arith) (h (suc i) (omega arith))),
)

edges_wait : (q : ℕ) (front : List Place) (es : List (List Item)) (ks : List ℕ) (ws : List (List Item)) → EdgesStand q front es ks ws
    → (k : ℕ) → k < length es → WaitsBetween (get_or es k []) (count_of (q + k) front) (get_or ks k 0) (get_or ws k [])
edges_wait q front [] ks ws s k l = absurd (omega arith)
edges_wait q front (e ∷ es) [] ws s k l = absurd s
edges_wait q front (e ∷ es) (m ∷ ks) [] s k l = absurd s
edges_wait q front (e ∷ es) (m ∷ ks) (w ∷ ws) s zero l = subst (λ n. WaitsBetween e (count_of n front) m w) (omega arith) (in_range e (count_of q front) m w s.0)
edges_wait q front (e ∷ es) (m ∷ ks) (w ∷ ws) s (suc k) l =
    subst (λ n. WaitsBetween (get_or es k []) (count_of n front) (get_or ks k 0) (get_or ws k [])) (omega arith) (edges_wait (q + 1) front es ks ws s.1 k (omega arith))

pub marks_length : (q : ℕ) (front : List Place) (es : List (List Item)) (ks : List ℕ) (ws : List (List Item)) → EdgesStand q front es ks ws → length ks ≡ length es
marks_length q front [] [] [] s = refl
marks_length q front [] [] (w ∷ ws) s = absurd s
marks_length q front [] (k ∷ ks) ws s = absurd s
marks_length q front (e ∷ es) [] ws s = absurd s
marks_length q front (e ∷ es) (k ∷ ks) [] s = absurd s
marks_length q front (e ∷ es) (k ∷ ks) (w ∷ ws) s = ap suc (marks_length (q + 1) front es ks ws s.1)

waiting_length : (q : ℕ) (front : List Place) (es : List (List Item)) (ks : List ℕ) (ws : List (List Item)) → EdgesStand q front es ks ws → length ws ≡ length es
waiting_length q front [] [] [] s = refl
waiting_length q front [] [] (w ∷ ws) s = absurd s
waiting_length q front [] (k ∷ ks) ws s = absurd s
waiting_length q front (e ∷ es) [] ws s = absurd s
waiting_length q front (e ∷ es) (k ∷ ks) [] s = absurd s
waiting_length q front (e ∷ es) (k ∷ ks) (w ∷ ws) s = ap suc (waiting_length (q + 1) front es ks ws s.1)

-- a merge that stands for its marks and its count, edge by edge
pub record Stands (last : ℕ) (es : List (List Item)) (m : MergeView) : Type 0 where
  pub count : m.count ≤ length (merged last es)
  pub edges : EdgesStand 0 (take m.count (merged last es)) es m.marks m.waiting

none_added : (n : ℕ) → 0 + n ≡ n
none_added n = omega arith

pub stands_of : (last : ℕ) (es : List (List Item)) (m : MergeView) → StandsFor last es m → Stands last es m
stands_of last es m s = record {
  count = s.count;
  edges = edges_stand 0 (take m.count (merged last es)) es m.marks m.waiting s.marks s.waiting
      (λ k l. subst (λ n. WaitsBetween (get_or es k []) (used last es n m.count) (mark_of m k) (waiting_of m k)) (sym (none_added k)) (s.waits k l));
}

pub stands_for : (last : ℕ) (es : List (List Item)) (m : MergeView) → Stands last es m → StandsFor last es m
stands_for last es m s = record {
  count = s.count;
  marks = marks_length 0 (take m.count (merged last es)) es m.marks m.waiting s.edges;
  waiting = waiting_length 0 (take m.count (merged last es)) es m.marks m.waiting s.edges;
  waits = λ q l. subst (λ n. WaitsBetween (get_or es q []) (used last es n m.count) (mark_of m q) (waiting_of m q)) (none_added q)
      (edges_wait 0 (take m.count (merged last es)) es m.marks m.waiting s.edges q l);
}

-- what waits begins what is left ------------------------------------------------------

record IsPrefix (w r : List Item) : Type 0 where
  ahead : List Item
  is : r ≡ w ++ ahead

abbrev Prefixes : List (List Item) → List (List Item) → Type 0
Prefixes [] [] = Unit {0}
Prefixes [] (r ∷ rs) = ⊥
Prefixes (w ∷ ws) [] = ⊥
Prefixes (w ∷ ws) (r ∷ rs) = IsPrefix w r × Prefixes ws rs

pub split_same : (xs zs ys ws : List Item) → xs ++ ys ≡ zs ++ ws → length xs ≡ length zs → ys ≡ ws
split_same [] [] ys ws e l = e
split_same [] (z ∷ zs) ys ws e l = absurd (omega arith)
split_same (x ∷ xs) [] ys ws e l = absurd (omega arith)
split_same (x ∷ xs) (z ∷ zs) ys ws e l = split_same xs zs ys ws (cc e) (omega arith)

prefixes : (q : ℕ) (front : List Place) (es : List (List Item)) (ks : List ℕ) (ws rs : List (List Item)) → EdgesStand q front es ks ws → EdgesLeft q front es rs → Prefixes ws rs
prefixes q front [] [] [] [] s l = tt
prefixes q front [] [] [] (r ∷ rs) s l = absurd l
prefixes q front [] [] (w ∷ ws) rs s l = absurd s
prefixes q front [] (k ∷ ks) ws rs s l = absurd s
prefixes q front (e ∷ es) [] ws rs s l = absurd s
prefixes q front (e ∷ es) (k ∷ ks) [] rs s l = absurd s
prefixes q front (e ∷ es) (k ∷ ks) (w ∷ ws) [] s l = absurd l
prefixes q front (e ∷ es) (k ∷ ks) (w ∷ ws) (r ∷ rs) s l =
    (record { ahead = s.0.ahead; is = split_same l.0.gone s.0.gone r (w ++ s.0.ahead) (sym l.0.whole ∙ s.0.whole) (l.0.long ∙ sym s.0.used_is) }, prefixes (q + 1) front es ks ws rs s.1 l.1)

least_same : (q : ℕ) (best : Option Head) (ws rs : List (List Item)) (head : Head) → Prefixes ws rs → least_from q best ws ≡ Some head → least_from q best rs ≡ Some head
least_same q best [] [] head p e = e
least_same q best [] (r ∷ rs) head p e = absurd p
least_same q best (w ∷ ws) [] head p e = absurd p
least_same q best ([] ∷ ws) (r ∷ rs) head p e = let z : ⊥ = cc e in absurd z
least_same q best ((h ∷ w) ∷ ws) ([] ∷ rs) head p e = let z : ⊥ = cc (p.0.is) in absurd z
least_same q best ((h ∷ w) ∷ ws) ((x ∷ r) ∷ rs) head p e =
    let same : h ≡ x = cc (p.0.is) in
    subst (λ y. least_from (q + 1) (lesser best (head_at q y)) rs ≡ Some head) same (least_same (q + 1) (lesser best (head_at q h)) ws rs head p.1 e)

all_head_from : (q : ℕ) (best : Option Head) (head : Head) (i : Item) (ws rs news : List (List Item)) → Prefixes ws rs → least_from q best ws ≡ Some head
    → EdgesTake q (record { source = None; item = i }) rs news → AllHead i ws
all_head_from q best m i [] rs news p e t = tt
all_head_from q best m i ([] ∷ ws) rs news p e t = let z : ⊥ = cc e in absurd z
all_head_from q best m i ((h ∷ w) ∷ ws) [] news p e t = absurd p
all_head_from q best m i ((h ∷ w) ∷ ws) (r ∷ rs) [] p e t = absurd t
all_head_from q best m i ((h ∷ w) ∷ ws) (r ∷ rs) (new ∷ news) p e t =
    let both : (h ∷ w) ++ p.0.ahead ≡ i ∷ new = sym p.0.is ∙ t.0 in
    (cc both, all_head_from (q + 1) (lesser best (head_at q h)) m i ws rs news p.1 e t.1)

waiting_takes : (at : ℕ) (i : Item) (ws rs news : List (List Item)) → Prefixes ws rs → least_from 0 None ws ≡ Some (head_at at i) → EdgesTake 0 (place_from at i) rs news
    → EdgesTake 0 (place_from at i) ws (taken_from ws at i)
waiting_takes at (item.Row s row) ws rs news p e t = row_takes at (item.Row s row) 0 at ws (omega arith) (heads_of ws at (item.Row s row) e)
waiting_takes at (item.Mark s) ws rs news p e t = sign_takes (item.Mark s) 0 ws (nat_self s) (all_head_from 0 None (head_at at (item.Mark s)) (item.Mark s) ws rs news p e t)
waiting_takes at (item.End s) ws rs news p e t = sign_takes (item.End s) 0 ws (nat_self s) (all_head_from 0 None (head_at at (item.End s)) (item.End s) ws rs news p e t)

stand_advance : (q : ℕ) (j : Place) (front : List Place) (es : List (List Item)) (ks : List ℕ) (ws news : List (List Item)) → EdgesStand q front es ks ws → EdgesTake q j ws news
    → EdgesStand q (front ++ j ∷ []) es ks news
stand_advance q j front [] [] [] [] s t = tt
stand_advance q j front [] [] [] (new ∷ news) s t = absurd t
stand_advance q j front [] [] (w ∷ ws) news s t = absurd s
stand_advance q j front [] (k ∷ ks) ws news s t = absurd s
stand_advance q j front (e ∷ es) [] ws news s t = absurd s
stand_advance q j front (e ∷ es) (k ∷ ks) [] news s t = absurd s
stand_advance q j front (e ∷ es) (k ∷ ks) (w ∷ ws) [] s t = absurd t
stand_advance q j front (e ∷ es) (k ∷ ks) (w ∷ ws) (new ∷ news) s t = (one (is_from q j.source) t.0 (count-push q front j), stand_advance (q + 1) j front es ks ws news s.1 t.1)
  where
    one : (b : Bool) → TakesIf b j.item w new → count_of q (front ++ j ∷ []) ≡ count_of q front + (if b then 1 else 0) → EdgeStands e (count_of q (front ++ j ∷ [])) k new
    one true h n = record {
      gone = s.0.gone ++ j.item ∷ [];
      ahead = s.0.ahead;
      whole = s.0.whole ∙ (ap (λ x. s.0.gone ++ (x ++ s.0.ahead)) h ∙ sym (append_assoc s.0.gone (j.item ∷ []) (new ++ s.0.ahead)));
      used_is = omega (arith, length-append s.0.gone (j.item ∷ []), s.0.used_is, n);
      mark_is = omega (arith, length-append s.0.gone (j.item ∷ []), s.0.mark_is, ap length h);
    }
    one false h n = record {
      gone = s.0.gone;
      ahead = s.0.ahead;
      whole = s.0.whole ∙ ap (λ x. s.0.gone ++ (x ++ s.0.ahead)) (sym h);
      used_is = omega (arith, s.0.used_is, n);
      mark_is = omega (arith, s.0.mark_is, ap length h);
    }

-- the next item -----------------------------------------------------------------------

item_there : (c : ℕ) (xs : List Place) (j : Place) (ys : List Place) → c ≤ length xs → xs ≡ take c xs ++ j ∷ ys → slice_get (items xs) c ≡ Some j.item
item_there zero [] j ys l e = let z : ⊥ = cc e in absurd z
item_there zero (x ∷ xs) j ys l e = let same : x ≡ j = cc e in ap (λ k. Some k.item) same
item_there (suc c) [] j ys l e = absurd (omega arith)
item_there (suc c) (x ∷ xs) j ys l e = let tails : xs ≡ take c xs ++ j ∷ ys = cc e in item_there c xs j ys (omega arith) tails

placed : (at : ℕ) (i : Item) → (place_from at i).item ≡ i
placed at (item.Row s row) = refl
placed at (item.Mark s) = refl
placed at (item.End s) = refl

done_least : (rs : List (List Item)) (head : Head) → 1 ≤ length rs → AllDone rs → least rs ≡ Some head → ⊥
done_least [] head l d e = absurd (omega arith)
done_least (r ∷ rs) head l d e = let f : least ([] ∷ rs) ≡ Some head = subst (λ x. least (x ∷ rs) ≡ Some head) d.0 e in cc f

-- the item of a head stands at the next place of the merged list
abbrev pub StandsAt : ℕ → List (List Item) → ℕ → Option Item → Type 0
StandsAt last es count o = IfSome o (λ i. slice_get (items (merged last es)) count ≡ Some i)

record Next (last : ℕ) (es : List (List Item)) (m : MergeView) (o : Option Head) : Type 0 where
  pub stands : Stands last es (after_head m o)
  pub in_order : StandsAt last es m.count (item_of o)

next_at : (last : ℕ) (es : List (List Item)) (m : MergeView) (o : Option Head) → AreEdges last es → Stands last es m → least m.waiting ≡ o → Next last es m o
next_at last es m None edges s e = record { stands = s; in_order = tt }
next_at last es m (Some head) edges s e = by_form l.form
  where
    at : ℕ
    at = head.source

    i : Item
    i = head.item

    j : Place
    j = place_from at i

    l : LeftAt last es m.count
    l = left_at last es edges m.count s.count

    front : List Place
    front = take m.count (merged last es)

    p : Prefixes m.waiting l.rest
    p = prefixes 0 front es m.marks m.waiting l.rest s.edges l.edges

    found : least_from 0 None m.waiting ≡ Some head
    found = sym (least_is m.waiting) ∙ e

    f : least l.rest ≡ Some head
    f = least_is l.rest ∙ least_same 0 None m.waiting l.rest head p found

    by_form : IsRest last l.rest → Next last es m (Some head)
    by_form (Done d) = absurd (done_least l.rest head l.some d f)
    by_form (More carries a) =
        let st = step last carries l.rest at i l.some a f in
        let more = left last (taken_from l.rest at i) in
        let on : merged last es ≡ front ++ j ∷ more = l.goes_on ∙ ap (λ x. front ++ x) st.first in
        let next = take_next m.count (merged last es) j more s.count on in
        record {
          stands = record {
            count = omega (arith, ap length on, length-append front (j ∷ more), length-take-le m.count (merged last es) s.count);
            edges = rw add-one (subst (λ x. EdgesStand 0 x es m.marks (taken_from m.waiting at i)) (sym next)
                (stand_advance 0 j front es m.marks m.waiting (taken_from m.waiting at i) s.edges (waiting_takes at i m.waiting l.rest (taken_from l.rest at i) p found st.takes)));
          };
          in_order = item_there m.count (merged last es) j more s.count on ∙ ap Some (placed at i);
        }

pub next_stands : (last : ℕ) (es : List (List Item)) (m : MergeView) → AreEdges last es → StandsFor last es m → StandsFor last es (after_next m)
next_stands last es m edges s = stands_for last es (after_next m) (next_at last es m (least m.waiting) edges (stands_of last es m s) refl).stands

pub next_in_order : (last : ℕ) (es : List (List Item)) (m : MergeView) → AreEdges last es → StandsFor last es m → StandsAt last es m.count (item_of (least m.waiting))
next_in_order last es m edges s = (next_at last es m (least m.waiting) edges (stands_of last es m s) refl).in_order

-- an offer ------------------------------------------------------------------------------

ahead_is : (xs ys : List Item) (i : Item) → slice_get (xs ++ ys) (length xs) ≡ Some i → (zs : List Item) × (ys ≡ i ∷ zs)
ahead_is [] [] i e = let z : ⊥ = cc e in absurd z
ahead_is [] (y ∷ ys) i e = (ys, cc e)
ahead_is (x ∷ xs) ys i e = ahead_is xs ys i e

edge_takes : (e : List Item) (used mark : ℕ) (w : List Item) (i : Item) → EdgeStands e used mark w → slice_get e mark ≡ Some i → EdgeStands e used (mark + 1) (w ++ i ∷ [])
edge_takes e used mark w i s at =
    let all : e ≡ (s.gone ++ w) ++ s.ahead = s.whole ∙ sym (append_assoc s.gone w s.ahead) in
    let long : mark ≡ length (s.gone ++ w) = omega (arith, length-append s.gone w, s.mark_is) in
    let more = ahead_is (s.gone ++ w) s.ahead i (subst (λ x. slice_get x (length (s.gone ++ w)) ≡ Some i) all (subst (λ k. slice_get e k ≡ Some i) long at)) in
    record {
      gone = s.gone;
      ahead = more.0;
      whole = s.whole ∙ (ap (λ x. s.gone ++ (w ++ x)) more.1 ∙ ap (λ x. s.gone ++ x) (sym (append_assoc w (i ∷ []) more.0)));
      used_is = s.used_is;
      mark_is = omega (arith, length-append w (i ∷ []), s.mark_is);
    }

edges_take : (q : ℕ) (front : List Place) (es : List (List Item)) (ks : List ℕ) (ws : List (List Item)) (k number : ℕ) (i : Item) → EdgesStand q front es ks ws → k < length ks
    → number ≡ get_or ks k 0 + 1 → slice_get (get_or es k []) (get_or ks k 0) ≡ Some i → EdgesStand q front es (set ks k number) (set ws k (get_or ws k [] ++ i ∷ []))
edges_take q front [] [] [] k number i s l n at = absurd (omega arith)
edges_take q front [] [] (w ∷ ws) k number i s l n at = absurd s
edges_take q front [] (m ∷ ks) ws k number i s l n at = absurd s
edges_take q front (e ∷ es) [] ws k number i s l n at = absurd s
edges_take q front (e ∷ es) (m ∷ ks) [] k number i s l n at = absurd s
edges_take q front (e ∷ es) (m ∷ ks) (w ∷ ws) zero number i s l n at =
    (subst (λ x. EdgeStands e (count_of q front) x (w ++ i ∷ [])) (sym n) (edge_takes e (count_of q front) m w i s.0 at), s.1)
edges_take q front (e ∷ es) (m ∷ ks) (w ∷ ws) (suc k) number i s l n at = (s.0, edges_take (q + 1) front es ks ws k number i s.1 (omega arith) n at)

pub offer_stands : (last : ℕ) (es : List (List Item)) (m : MergeView) (edge number : ℕ) (i : Item) → StandsFor last es m → edge < length m.marks
    → (number ≡ mark_of m edge + 1 → item_at (edge_of es edge) number ≡ Some i) → StandsFor last es (after_offer m edge number i)
offer_stands last es m edge number i s within item_is =
    if_elim (StandsFor last es) (number == mark_of m edge + 1) (with_item m edge number i) m
    (λ e. taken (eqb-true number (mark_of m edge + 1) e))
    (λ e. s)
  where
    taken : number ≡ mark_of m edge + 1 → StandsFor last es (with_item m edge number i)
    taken n =
        let next : number ≡ suc (mark_of m edge) = n ∙ add-one (mark_of m edge) in
        let at : slice_get (edge_of es edge) (mark_of m edge) ≡ Some i = subst (λ k. item_at (edge_of es edge) k ≡ Some i) next (item_is n) in
        stands_for last es (with_item m edge number i)
        (record { count = s.count; edges = edges_take 0 (take m.count (merged last es)) es m.marks m.waiting edge number i (stands_of last es m s).edges within n at })

-- ready ---------------------------------------------------------------------------------

below_of : (q : ℕ) (front : List Place) (es : List (List Item)) (ks : List ℕ) (ws : List (List Item)) (k : ℕ) → EdgesStand q front es ks ws → all_wait ws ≡ true → k < length ks
    → count_of (q + k) front < get_or ks k 0
below_of q front [] [] [] k s a l = absurd (omega arith)
below_of q front [] [] (w ∷ ws) k s a l = absurd s
below_of q front [] (m ∷ ks) ws k s a l = absurd s
below_of q front (e ∷ es) [] ws k s a l = absurd s
below_of q front (e ∷ es) (m ∷ ks) [] k s a l = absurd s
below_of q front (e ∷ es) (m ∷ ks) ([] ∷ ws) k s a l = let z : ⊥ = cc a in absurd z
below_of q front (e ∷ es) (m ∷ ks) ((h ∷ w) ∷ ws) zero s a l = let here : count_of q front < m = omega (arith, s.0.used_is, s.0.mark_is) in subst (λ n. count_of n front < m) (omega arith) here
below_of q front (e ∷ es) (m ∷ ks) ((h ∷ w) ∷ ws) (suc k) s a l = subst (λ n. count_of n front < get_or ks k 0) (omega arith) (below_of (q + 1) front es ks ws k s.1 a (omega arith))

wait_of : (q : ℕ) (front : List Place) (es : List (List Item)) (ks : List ℕ) (ws : List (List Item)) → EdgesStand q front es ks ws
    → ((k : ℕ) → k < length ks → count_of (q + k) front < get_or ks k 0) → all_wait ws ≡ true
wait_of q front [] [] [] s b = refl
wait_of q front [] [] (w ∷ ws) s b = absurd s
wait_of q front [] (m ∷ ks) ws s b = absurd s
wait_of q front (e ∷ es) [] ws s b = absurd s
wait_of q front (e ∷ es) (m ∷ ks) [] s b = absurd s
wait_of q front (e ∷ es) (m ∷ ks) ([] ∷ ws) s b =
    let here : count_of q front < m = subst (λ n. count_of n front < m) (omega arith) (b 0 (omega arith)) in
    absurd (omega (arith, s.0.used_is, s.0.mark_is))
wait_of q front (e ∷ es) (m ∷ ks) ((h ∷ w) ∷ ws) s b = wait_of (q + 1) front es ks ws s.1 (λ k l. subst (λ n. count_of n front < get_or ks k 0) (omega arith) (b (suc k) (omega arith)))

pub ready_is : (last : ℕ) (es : List (List Item)) (m : MergeView) → StandsFor last es m → IsTrue (all_wait m.waiting) ↔ AllBelow last es m
ready_is last es m s = (
  λ a q l. subst (λ n. used last es n m.count < mark_of m q) (none_added q)
      (below_of 0 (take m.count (merged last es)) es m.marks m.waiting q (stands_of last es m s).edges a (omega (arith, s.marks))),
  λ b. wait_of 0 (take m.count (merged last es)) es m.marks m.waiting (stands_of last es m s).edges
      (λ k l. subst (λ n. used last es n m.count < mark_of m k) (sym (none_added k)) (b k (omega (arith, s.marks)))),
)

-- a beginning ------------------------------------------------------------------------------

starting_at : (q : ℕ) (front : List Place) (es rs : List (List Item)) (ks : List ℕ) → EdgesLeft q front es rs → length ks ≡ length es
    → ((k : ℕ) → k < length ks → get_or ks k 0 ≡ count_of (q + k) front) → EdgesStand q front es ks (replicate (length ks) [])
starting_at q front [] [] [] l n m = tt
starting_at q front [] [] (k ∷ ks) l n m = absurd (omega arith)
starting_at q front [] (r ∷ rs) ks l n m = absurd l
starting_at q front (e ∷ es) [] ks l n m = absurd l
starting_at q front (e ∷ es) (r ∷ rs) [] l n m = absurd (omega arith)
starting_at q front (e ∷ es) (r ∷ rs) (k ∷ ks) l n m =
    let here : k ≡ count_of q front = subst (λ x. k ≡ count_of x front) (omega arith) (m 0 (omega arith)) in (
      record { gone = l.0.gone; ahead = r; whole = l.0.whole; used_is = l.0.long; mark_is = omega (arith, l.0.long, here) },
      starting_at (q + 1) front es rs ks l.1 (omega arith) (λ i h. subst (λ x. get_or ks i 0 ≡ count_of x front) (omega arith) (m (suc i) (omega arith))),
    )

-- a merge that begins with the marks of a count stands for them
pub starting_stands : (last : ℕ) (es : List (List Item)) (marks : List ℕ) (count : ℕ) → AreEdges last es → length marks ≡ length es → count ≤ length (merged last es)
    → ((q : ℕ) → q < length es → get_or marks q 0 ≡ used last es q count) → StandsFor last es (starting marks count)
starting_stands last es marks count edges n l m =
    let at = left_at last es edges count l in
    stands_for last es (starting marks count) (record {
      count = l;
      edges = starting_at 0 (take count (merged last es)) es at.rest marks at.edges n
          (λ k h. subst (λ x. get_or marks k 0 ≡ used last es x count) (sym (none_added k)) (m k (omega (arith, n))));
    })
