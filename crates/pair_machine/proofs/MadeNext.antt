-- What one more merged item, or one more make, adds to an edge.
use Rattle.std.proofs.Common.{◌≡◌, ◌≤◌, ℕ, zero, suc, Bool, true, false, List, [], ◌∷◌, ◌++◌, ◌+◌, Option, None, Some, refl, sym, ap, ◌∙◌, subst, arith, length, take, append_assoc}
use Rattle.std.specs.Prelude.{filter, if◌then◌else◌, slice_get, ◌%◌, ◌==◌}
use Rattle.std.proofs.lemmas.Bool.{le-leb}
use Rattle.std.proofs.lemmas.List.{append-nil}
use Rattle.std.proofs.lemmas.List.Elements.{filter-append}
use Rattle.tuple_edge.specs.declared.item.Item.{Item}
use Rattle.tuple_edge.specs.declared.item.Item.TheVariants as item
use Rattle.tuple_edge.specs.Input.{Input}
use Rattle.tuple_edge.specs.Item.{stamp_of}
use Rattle.merge_order.proofs.AfterNext.{front_more}
use Rattle.merge_order.proofs.Choices.{if_elim}
use Rattle.stream_ops.specs.Answers.{answer}
use Rattle.plan_reader.specs.declared.stage.Stage.{Stage}
use Rattle.pair_machine.specs.CountLaws.{made_for, sent_for}
use Rattle.pair_machine.specs.Counts.{sent_after}
use Rattle.pair_machine.specs.Edges.{answered, edge_to, goes_to, passed, stamped}
use Rattle.pair_machine.specs.Ingress.{mark_after, row_of_source, sent_from}
use Rattle.pair_machine.proofs.Made.{answered-append, edge_to-append, is_upto, none_upto}
use Rattle.pair_machine.proofs.Sending.{source_from}

-- ---- one more merged item

pub sent_more : (stage next : Option Stage) (t : ℕ) (before : List Item) (i : Item) → sent_after stage next t (before ++ i ∷ []) ≡ sent_after stage next t before ++ sent_for stage next t before i
sent_more None next t before i = refl
sent_more (Some stage) next t before i =
    let one = stamped (stamp_of i) (answer stage.op before i) ++ passed i in
    ap (edge_to next t) (answered-append stage.op [] before (i ∷ []) ∙ ap (λ x. answered stage.op [] before ++ x) (append-nil one))
    ∙ edge_to-append next t (answered stage.op [] before) one

pub sent_next : (stage next : Option Stage) (t count : ℕ) (merged : List Item) (i : Item) → slice_get merged count ≡ Some i
    → sent_after stage next t (take (count + 1) merged) ≡ sent_after stage next t (take count merged) ++ sent_for stage next t (take count merged) i
sent_next stage next t count merged i e =
    let more : count + 1 ≡ suc count = omega arith in
    ap (λ n. sent_after stage next t (take n merged)) more ∙ (ap (sent_after stage next t) (front_more count merged i e) ∙ sent_more stage next t (take count merged) i)

-- ---- one more make

upto_yes : (n : ℕ) (i : Item) (is : List Item) → stamp_of i ≤ n → filter (is_upto n) (i ∷ is) ≡ i ∷ filter (is_upto n) is
upto_yes n i is l = ap (λ b. if b then i ∷ filter (is_upto n) is else filter (is_upto n) is) (le-leb (stamp_of i) n l)

-- the mark after a trade is up to each stamp that is not less
upto_mark : (mark stamp n : ℕ) → stamp ≤ n → filter (is_upto n) (mark_after mark stamp) ≡ mark_after mark stamp
upto_mark mark stamp n l = if_elim (λ is. filter (is_upto n) is ≡ is) (stamp % mark == 0) (item.Mark stamp ∷ []) [] (λ e. upto_yes n (item.Mark stamp) [] l) (λ e. refl)

-- so is the row of an input
upto_row : (q stamp n : ℕ) (r : Input) → stamp ≤ n → filter (is_upto n) (row_of_source q stamp r) ≡ row_of_source q stamp r
upto_row q stamp n r l = if_elim (λ is. filter (is_upto n) is ≡ is) (r.source == q) (item.Row stamp r.row ∷ []) [] (λ e. upto_yes n (item.Row stamp r.row) [] l) (λ e. refl)

-- what comes of an input stays whole
upto_input : (q mark stamp n : ℕ) (r : Input) (rest : List Item) → stamp ≤ n
    → filter (is_upto n) (row_of_source q stamp r ++ (mark_after mark stamp ++ rest)) ≡ (row_of_source q stamp r ++ mark_after mark stamp) ++ filter (is_upto n) rest
upto_input q mark stamp n r rest l =
    let row = row_of_source q stamp r in
    let sign = mark_after mark stamp in
    filter-append (is_upto n) row (sign ++ rest)
    ∙ (ap (λ x. x ++ filter (is_upto n) (sign ++ rest)) (upto_row q stamp n r l)
    ∙ (ap (λ x. row ++ x) (filter-append (is_upto n) sign rest ∙ ap (λ x. x ++ filter (is_upto n) rest) (upto_mark mark stamp n l))
    ∙ sym (append_assoc row sign (filter (is_upto n) rest))))

-- of what a source sends from stamp k + 1 on, the items up to one more stamp are those up to the stamp before and what the make gives
makes_more : (q mark k m : ℕ) (inputs : List Input) → m ≤ length inputs
    → filter (is_upto (k + m + 1)) (sent_from q mark (k + 1) inputs) ≡ filter (is_upto (k + m)) (sent_from q mark (k + 1) inputs) ++ made_for q mark (k + m + 1) (slice_get inputs m)
makes_more q mark k zero [] l =
    let here : k + 0 ≡ k = omega arith in
    subst (λ n. filter (is_upto (n + 1)) (item.End (k + 1) ∷ []) ≡ filter (is_upto n) (item.End (k + 1) ∷ []) ++ item.End (n + 1) ∷ []) (sym here)
    (upto_yes (k + 1) (item.End (k + 1)) [] (omega arith) ∙ ap (λ x. x ++ item.End (k + 1) ∷ []) (sym (none_upto k (k + 1) (item.End (k + 1) ∷ []) (omega arith) (omega arith, tt))))
makes_more q mark k (suc m) [] l = absurd (omega arith)
makes_more q mark k zero (r ∷ inputs) l =
    let here : k + 0 ≡ k = omega arith in
    let sent = sent_from q mark (k + 1) (r ∷ inputs) in
    let made = row_of_source q (k + 1) r ++ mark_after mark (k + 1) in
    let rest = sent_from q mark (k + 1 + 1) inputs in
    subst (λ n. filter (is_upto (n + 1)) sent ≡ filter (is_upto n) sent ++ (row_of_source q (n + 1) r ++ mark_after mark (n + 1))) (sym here)
    (upto_input q mark (k + 1) (k + 1) r rest (omega arith)
    ∙ (ap (λ x. made ++ x) (none_upto (k + 1) (k + 1 + 1) rest (omega arith) (source_from q mark (k + 1 + 1) inputs))
    ∙ (append-nil made ∙ ap (λ x. x ++ made) (sym (none_upto k (k + 1) sent (omega arith) (source_from q mark (k + 1) (r ∷ inputs)))))))
makes_more q mark k (suc m) (r ∷ inputs) l =
    let here : k + 1 + m ≡ k + suc m = omega arith in
    let rest = sent_from q mark (k + 1 + 1) inputs in
    let made = row_of_source q (k + 1) r ++ mark_after mark (k + 1) in
    let next = made_for q mark (k + suc m + 1) (slice_get inputs m) in
    let more : filter (is_upto (k + suc m + 1)) rest ≡ filter (is_upto (k + suc m)) rest ++ next =
    subst (λ n. filter (is_upto (n + 1)) rest ≡ filter (is_upto n) rest ++ made_for q mark (n + 1) (slice_get inputs m)) here (makes_more q mark (k + 1) m inputs (omega arith)) in
    upto_input q mark (k + 1) (k + suc m + 1) r rest (omega arith)
    ∙ (ap (λ x. made ++ x) more
    ∙ (sym (append_assoc made (filter (is_upto (k + suc m)) rest) next)
    ∙ ap (λ x. x ++ next) (sym (upto_input q mark (k + 1) (k + suc m) r rest (omega arith)))))

picked : (p : Item → Bool) (i : Item) (is : List Item) → p i ≡ true → filter p (i ∷ is) ≡ i ∷ filter p is
picked p i is e = ap (λ b. if b then i ∷ filter p is else filter p is) e

left_out : (p : Item → Bool) (i : Item) (is : List Item) → p i ≡ false → filter p (i ∷ is) ≡ filter p is
left_out p i is e = ap (λ b. if b then i ∷ filter p is else filter p is) e

-- two tests pick the same items in either order
tests_swap : (p q : Item → Bool) (is : List Item) → filter p (filter q is) ≡ filter q (filter p is)
tests_swap p q [] = refl
tests_swap p q (i ∷ is) = go (p i) (q i) refl refl (tests_swap p q is)
  where
    go : (a b : Bool) → p i ≡ a → q i ≡ b → filter p (filter q is) ≡ filter q (filter p is)
        → filter p (if b then i ∷ filter q is else filter q is) ≡ filter q (if a then i ∷ filter p is else filter p is)
    go true true x y old = picked p i (filter q is) x ∙ (ap (λ z. i ∷ z) old ∙ sym (picked q i (filter p is) y))
    go true false x y old = old ∙ sym (left_out q i (filter p is) y)
    go false true x y old = left_out p i (filter q is) x ∙ old
    go false false x y old = old

upto_edge : (next : Option Stage) (t n : ℕ) (is : List Item) → filter (is_upto n) (edge_to next t is) ≡ edge_to next t (filter (is_upto n) is)
upto_edge None t n is = refl
upto_edge (Some stage) t n is = tests_swap (is_upto n) (goes_to stage t) is

-- the same of what goes to a target, from the first make on
pub make_next : (next : Option Stage) (t q mark makes : ℕ) (inputs : List Input) → makes ≤ length inputs
    → filter (is_upto (makes + 1)) (edge_to next t (sent_from q mark 1 inputs))
    ≡ filter (is_upto makes) (edge_to next t (sent_from q mark 1 inputs)) ++ edge_to next t (made_for q mark (makes + 1) (slice_get inputs makes))
make_next next t q mark makes inputs l =
    let sent = sent_from q mark 1 inputs in
    let made = made_for q mark (makes + 1) (slice_get inputs makes) in
    let first : 0 + makes ≡ makes = omega arith in
    let more : filter (is_upto (makes + 1)) sent ≡ filter (is_upto makes) sent ++ made =
    subst (λ n. filter (is_upto (n + 1)) sent ≡ filter (is_upto n) sent ++ made_for q mark (n + 1) (slice_get inputs makes)) first (makes_more q mark 0 makes inputs l) in
    upto_edge next t (makes + 1) sent
    ∙ (ap (edge_to next t) more
    ∙ (edge_to-append next t (filter (is_upto makes) sent) made ∙ ap (λ x. x ++ edge_to next t made) (sym (upto_edge next t makes sent))))
