-- A move gives the parts of its list, one after another, whatever steps are made among the calls of `next`.
use Rattle.std.proofs.Common.{◌≡◌, ◌≤◌, ℕ, zero, suc, ◌+◌, true, false, List, [], ◌∷◌, ◌++◌, Option, None, Some, refl, sym, ap, ◌∙◌, subst, arith, append_assoc, drop, length, length-append, slice_get, take}
use Rattle.std.specs.Prelude.{◌==◌, nat_lt}
use Rattle.std.specs.Option.{IfSome, option_to_list}
use Rattle.std.proofs.lemmas.Bool.Decides.{nat_tests}
use Rattle.std.proofs.lemmas.List.{append-nil, take_all}
use Rattle.std.proofs.lemmas.Option.{slice_get_past}
use Rattle.tuple_edge.specs.declared.item.Item.{Item}
use Rattle.tuple_edge.specs.declared.packet.Entry.{Entry}
use Rattle.op_spec.specs.declared.spec.OpSpec.{OpSpec}
use Rattle.merge_order.proofs.Choices.{if_elim}
use Rattle.stream_ops.specs.Entries.{entries, last_place}
use Rattle.move_list.specs.MoveList.{fixed_part, move_list}
use Rattle.move_list.proofs.Lists.{some_there}
use Rattle.state_mover.specs.MoverView.{IsMidway, MoverView, after_next, begun, keyed_among, moved_at, moved_from, total_of}
use Rattle.state_mover.specs.declared.mover.Moved.{Moved}
use Rattle.state_mover.specs.declared.mover.Moved.TheVariants as moved
use Rattle.state_mover.proofs.Turns.{midway_after}
use Rattle.state_laws.specs.Moves.{AnyOrderMoves, Begins, Call, Moving, Nexts, NoneBegins, Steps, after_call, after_calls, beginning, chunks_above, given, list_of, nexts, opening, parts_of, stepped}

-- ---- what stands at a place of the parts

part_above : (n count : ℕ) (es : List Entry) (k : ℕ) → n + length es ≡ count → moved_from (n + k) count (slice_get es k) ≡ slice_get (chunks_above n es ++ moved.End count ∷ []) k
part_above n count [] zero is = let e : (n + 0 == count) ≡ true = grind (arith, nat_tests, is) in rw e refl
part_above n count [] (suc k) is = let e : (n + suc k == count) ≡ false = grind (arith, nat_tests, is) in rw e refl
part_above n count (x ∷ es) zero is = let e : n + 0 ≡ n = omega arith in ap (λ m. Some (moved.Chunk (m + 1) x)) e
part_above n count (x ∷ es) (suc k) is =
    let e : n + suc k ≡ n + 1 + k = omega arith in
    ap (λ m. moved_from m count (slice_get es k)) e ∙ part_above (n + 1) count es k (omega arith)

part_at : (es : List Entry) (k : ℕ) → moved_at es k ≡ slice_get (parts_of es) k
part_at es k =
    let e : k ≡ 0 + k = omega arith in
    ap (λ m. moved_from m (length es) (slice_get es k)) e ∙ part_above 0 (length es) es k (omega arith)

length-chunks : (n : ℕ) (es : List Entry) → length (chunks_above n es) ≡ length es
length-chunks n [] = refl
length-chunks n (x ∷ es) = ap suc (length-chunks (n + 1) es)

length-parts : (es : List Entry) → length (parts_of es) ≡ length es + 1
length-parts es = length-append (chunks_above 0 es) (moved.End (length es) ∷ []) ∙ ap (λ n. n + 1) (length-chunks 0 es)

drop_at : {X : Type 0} (xs : List X) (k : ℕ) (x : X) → slice_get xs k ≡ Some x → drop k xs ≡ x ∷ drop (k + 1) xs
drop_at [] k x is = cc
drop_at (y ∷ ys) zero x is = let e : y ≡ x = cc in ap (λ z. z ∷ ys) e
drop_at (y ∷ ys) (suc k) x is =
    let e : suc (k + 1) ≡ suc k + 1 = omega arith in
    drop_at ys k x is ∙ ap (λ j. x ∷ drop j (y ∷ ys)) e

drop_past : {X : Type 0} (xs : List X) (k : ℕ) → length xs ≤ k → drop k xs ≡ []
drop_past [] zero past = refl
drop_past [] (suc k) past = refl
drop_past (y ∷ ys) zero past = absurd (omega arith)
drop_past (y ∷ ys) (suc k) past = drop_past ys k (omega arith)

-- ---- calls

-- a move in the midst of its list
abbrev moving : List Item → List Entry → MoverView → Moving
moving items old m = record { items = items; old = Some old; mover = Some m }

-- what it has still to give
abbrev rest_of : MoverView → List Entry → List Moved
rest_of m old = drop m.sent (parts_of (m.fixed ++ old))

many : (m : MoverView) (old : List Entry) → length old ≡ m.entries → length (parts_of (m.fixed ++ old)) ≡ total_of m
many m old count = length-parts (m.fixed ++ old) ∙ ap (λ n. n + 1) (length-append m.fixed old ∙ ap (λ n. length m.fixed + n) count)

-- one more call of `next` gives what is next of it
next_given : (spec : OpSpec) (items : List Item) (old : List Entry) (m : MoverView) (calls : List Call) → length old ≡ m.entries
    → ((n : MoverView) → n.fixed ≡ m.fixed → n.entries ≡ m.entries → given spec (moving items old n) calls ≡ take (nexts calls) (rest_of n old))
    → option_to_list (moved_at (m.fixed ++ old) m.sent) ++ given spec (moving items old (after_next m old)) calls ≡ take (nexts calls + 1) (rest_of m old)
next_given spec items old m calls count later =
    if_elim (λ n. option_to_list (moved_at (m.fixed ++ old) m.sent) ++ given spec (moving items old n) calls ≡ take (nexts calls + 1) (rest_of m old)) (nat_lt m.sent (total_of m)) next_one m within past
  where
    next_one : MoverView
    next_one = record m { sent = m.sent + 1; last = last_place (keyed_among m (m.sent + 1)) old }

    size : length (parts_of (m.fixed ++ old)) ≡ total_of m
    size = many m old count

    some : (o : Option Moved) → slice_get (parts_of (m.fixed ++ old)) m.sent ≡ o → (nat_lt m.sent (total_of m)) ≡ true
        → option_to_list o ++ take (nexts calls) (rest_of next_one old) ≡ take (nexts calls + 1) (rest_of m old)
    some None is less = absurd (some_there (parts_of (m.fixed ++ old)) m.sent (grind (arith, nat_tests, less, size)) is)
    some (Some x) is less =
        let one : suc (nexts calls) ≡ nexts calls + 1 = omega arith in
        ap (λ k. take k (x ∷ rest_of next_one old)) one ∙ ap (take (nexts calls + 1)) (sym (drop_at (parts_of (m.fixed ++ old)) m.sent x is))

    within : (nat_lt m.sent (total_of m)) ≡ true → option_to_list (moved_at (m.fixed ++ old) m.sent) ++ given spec (moving items old next_one) calls ≡ take (nexts calls + 1) (rest_of m old)
    within less =
        ap (λ front. front ++ given spec (moving items old next_one) calls) (ap option_to_list (part_at (m.fixed ++ old) m.sent))
        ∙ ap (λ xs. option_to_list (slice_get (parts_of (m.fixed ++ old)) m.sent) ++ xs) (later next_one refl refl)
        ∙ some (slice_get (parts_of (m.fixed ++ old)) m.sent) refl less

    past : (nat_lt m.sent (total_of m)) ≡ false → option_to_list (moved_at (m.fixed ++ old) m.sent) ++ given spec (moving items old m) calls ≡ take (nexts calls + 1) (rest_of m old)
    past more =
        let over : length (parts_of (m.fixed ++ old)) ≤ m.sent = grind (arith, nat_tests, more, size) in
        let none : rest_of m old ≡ [] = drop_past (parts_of (m.fixed ++ old)) m.sent over in
        ap (λ front. front ++ given spec (moving items old m) calls) (ap option_to_list (part_at (m.fixed ++ old) m.sent ∙ slice_get_past (parts_of (m.fixed ++ old)) m.sent over))
        ∙ later m refl refl
        ∙ ap (take (nexts calls)) none
        ∙ take_all (nexts calls) [] (omega arith)
        ∙ sym (ap (take (nexts calls + 1)) none ∙ take_all (nexts calls + 1) [] (omega arith))

gives : (spec : OpSpec) (items : List Item) (old : List Entry) (m : MoverView) (calls : List Call) → length old ≡ m.entries → NoneBegins calls
    → given spec (moving items old m) calls ≡ take (nexts calls) (rest_of m old)
gives spec items old m [] count none = refl
gives spec items old m (Begins target merge producer ∷ calls) count none = absurd none
gives spec items old m (Nexts ∷ calls) count none = next_given spec items old m calls count (λ n fixed entries. gives spec items old n calls (count ∙ sym entries) none)
gives spec items old m (Steps i ∷ calls) count none = gives spec (items ++ i ∷ []) old m calls count none

-- it stays watched, and in the midst
stays_watched : (spec : OpSpec) (items : List Item) (old : List Entry) (m : MoverView) (calls : List Call) → NoneBegins calls → (after_calls spec (moving items old m) calls).old ≡ Some old
stays_watched spec items old m [] none = refl
stays_watched spec items old m (Begins target merge producer ∷ calls) none = absurd none
stays_watched spec items old m (Nexts ∷ calls) none = stays_watched spec items old (after_next m old) calls none
stays_watched spec items old m (Steps i ∷ calls) none = stays_watched spec (items ++ i ∷ []) old m calls none

stays_midway : (spec : OpSpec) (items : List Item) (old : List Entry) (m : MoverView) (calls : List Call) → NoneBegins calls → IsMidway m old → IfSome (after_calls spec (moving items old m) calls).mover (λ m. IsMidway m old)
stays_midway spec items old m [] none midway = midway
stays_midway spec items old m (Begins target merge producer ∷ calls) none midway = absurd none
stays_midway spec items old m (Nexts ∷ calls) none midway = stays_midway spec items old (after_next m old) calls none (midway_after m old midway)
stays_midway spec items old m (Steps i ∷ calls) none midway = stays_midway spec (items ++ i ∷ []) old m calls none midway

-- the items are those of the steps
items_stepped : (spec : OpSpec) (x : Moving) (calls : List Call) → (after_calls spec x calls).items ≡ x.items ++ stepped calls
items_stepped spec x [] = sym (append-nil x.items)
items_stepped spec x (Begins target merge producer ∷ calls) = items_stepped spec (after_call spec x (Begins target merge producer)) calls
items_stepped spec x (Nexts ∷ calls) = items_stepped spec (after_call spec x Nexts) calls
items_stepped spec x (Steps i ∷ calls) = items_stepped spec (after_call spec x (Steps i)) calls ∙ append_assoc x.items (i ∷ []) (stepped calls)

-- ---- the law

begun_midway : (target : ℕ) (fixed old : List Entry) → IsMidway (begun target fixed (length old)) old
begun_midway target fixed old = record { count = refl; place = λ some. absurd (omega arith) }

pub any_order : AnyOrderMoves
any_order spec before target merge producer since none = record {
  front = front;
  whole = λ all. front ∙ take_all (nexts since) (parts_of (list_of spec before merge producer)) all;
  watched = stays_watched spec items (entries spec items) mover since none ∙ ap (λ items. Some (entries spec items)) same;
  midway = subst (λ items_before. IfSome (after_calls spec (beginning spec before target merge producer) since).mover (λ m. IsMidway m (entries spec items_before))) same
      (stays_midway spec items (entries spec items) mover since none (begun_midway target (fixed_part merge producer) (entries spec items)));
}
  where
    items : List Item
    items = (after_calls spec opening before).items

    same : items ≡ stepped before
    same = items_stepped spec opening before

    mover : MoverView
    mover = begun target (fixed_part merge producer) (length (entries spec items))

    front : given spec (beginning spec before target merge producer) since ≡ take (nexts since) (parts_of (list_of spec before merge producer))
    front = gives spec items (entries spec items) mover since refl none ∙ ap (λ items. take (nexts since) (parts_of (move_list merge producer (entries spec items)))) same
