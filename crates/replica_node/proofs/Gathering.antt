-- What a replica that gathers takes: it holds tuples by rising numbers, and takes chunks in their order.
use Rattle.std.proofs.Common.{◌≡◌, ℕ, zero, suc, ◌+◌, ◌-◌, ◌<◌, ◌≤◌, Bool, true, false, if◌then◌else◌, List, [], ◌∷◌, ◌++◌, length, take, map, refl, sym, ap, ◌∙◌, subst, Option, Some, None, slice_index_or, slice_set, append_assoc, arith}
use Rattle.std.specs.Prelude.{◌==◌, ◌&&◌, is_some, nat_le, nat_lt, slice_get}
use Rattle.std.specs.List.{All}
use Rattle.std.proofs.lemmas.Bool.{eqb-true, eq-eqb}
use Rattle.std.proofs.lemmas.Bool.Decides.{nat_tests}
use Rattle.std.proofs.lemmas.List.{length-append, length-set, get_or-set_same, get_or-set_other}
use Rattle.std.specs.BTreeMap.{insert_entry}
use Rattle.std.specs.declared.cmp.Ordering.{Ordering}
use Rattle.std.specs.declared.cmp.Ordering.TheVariants.{Less, Equal, Greater}
use Rattle.std.specs.Ordering.{nat_cmp}
use Rattle.tuple_edge.specs.declared.item.Item.{Item}
use Rattle.tuple_edge.specs.declared.node.EdgeId.{EdgeId}
use Rattle.tuple_edge.specs.declared.node.NodeId.{NodeId}
use Rattle.tuple_edge.specs.declared.node.NodeId.TheVariants as node
use Rattle.tuple_edge.specs.declared.node.Which.TheVariants.{A, B}
use Rattle.tuple_edge.specs.declared.packet.Body.TheVariants as body
use Rattle.tuple_edge.specs.declared.packet.Entry.{Entry}
use Rattle.tuple_edge.specs.declared.packet.Entry.TheVariants as entry
use Rattle.tuple_edge.specs.Entries.{each_below, numbered}
use Rattle.tuple_edge.specs.Input.{Input}
use Rattle.merge_order.specs.Edges.{item_at}
use Rattle.stream_ops.specs.Entries.{entries}
use Rattle.plan_reader.specs.Nodes.{parts_of, sources_of}
use Rattle.plan_reader.specs.PlanView.{PlanView}
use Rattle.plan_reader.specs.declared.stage.Stage.{Stage}
use Rattle.pair_machine.specs.Contents.{BodyStands, kept, move_list, waiting}
use Rattle.pair_machine.specs.Counts.{entries_after, entries_by, flow_of, items_on, made_on, merged_first, used_of}
use Rattle.pair_machine.specs.Asked.{TakenAsks}
use Rattle.pair_machine.specs.Courses.{ArePacketsFor}
use Rattle.pair_machine.specs.Links.{link}
use Rattle.pair_machine.specs.Machine.{nth_from_one}
use Rattle.pair_machine.specs.Messages.{Chunk, Message, Want, envelope}
use Rattle.pair_machine.specs.Numbers as numbers
use Rattle.pair_machine.specs.Numbers.{GatheringNumbers, MoveNumbers, Partition, Replica, ReplicaNode, control_at, in_edge, out_edge}
use Rattle.pair_machine.specs.Producers.{to_producers}
use Rattle.pair_machine.specs.Replicas.{chunk_wants, insert_in, replica_takes, takes_chunk}
use Rattle.catch_up.specs.Fold.{AllAbove, IsRising}
use Rattle.catch_up.specs.NewcomerView.{NewcomerView, after_chunk, after_hold, held_at, held_of, is_held, taken_by, took_of, with_held}
use Rattle.catch_up.specs.declared.newcomer.Took.TheVariants as took
use Rattle.catch_up.proofs.Folds.{rising_kept}
use Rattle.catch_up.proofs.KeyedEntries.{entries_keyed}
use Rattle.catch_up.proofs.Steps.{AllKeyed}
use Rattle.replica_node.specs.Admitted.{IsIntoHere, IsPartner}
use Rattle.replica_node.specs.CaughtUp.{IsItemOf}
use Rattle.replica_node.specs.Phases.{chunk_taken, wants_by, wants_in, wants_of}
use Rattle.replica_node.specs.ReplicaView.{node_of, partition_of}
use Rattle.replica_node.specs.StandsFor.{GatheringStands, IsOfPlan, PhaseStands, TakenStands}
use Rattle.replica_node.specs.declared.phase.Phase.{Phase}
use Rattle.replica_node.specs.declared.phase.Phase.TheVariants as phase
use Rattle.replica_node.specs.declared.role.Role.{Role}
use Rattle.replica_node.proofs.AllItems.{all_put}
use Rattle.replica_node.proofs.Roles.{into_is, sources_at}
use Rattle.replica_node.proofs.Steps.{ComesTo}

-- ---- a number among those held

-- the numbers under which items are held
abbrev numbers_in : List (ℕ × Item) → List ℕ
numbers_in held = map (λ e. e.0) held

insert_less : (k x : ℕ) (xs : List ℕ) → k < x → insert_in k (x ∷ xs) ≡ k ∷ x ∷ xs
insert_less k x xs less =
    let other : (k == x) ≡ false = grind (arith, nat_tests, less) in
    let under : nat_lt k x ≡ true = grind (arith, nat_tests, less) in
    rw (other, under) refl

insert_same : (k x : ℕ) (xs : List ℕ) → k ≡ x → insert_in k (x ∷ xs) ≡ x ∷ xs
insert_same k x xs same =
    let here : (k == x) ≡ true = grind (arith, nat_tests, same) in
    rw here refl

insert_more : (k x : ℕ) (xs : List ℕ) → x < k → insert_in k (x ∷ xs) ≡ x ∷ insert_in k xs
insert_more k x xs more =
    let other : (k == x) ≡ false = grind (arith, nat_tests, more) in
    let past : nat_lt k x ≡ false = grind (arith, nat_tests, more) in
    rw (other, past) refl

-- an item put among those held puts its number among theirs
pub numbers_inserted : (k : ℕ) (i : Item) (es : List (ℕ × Item)) → map (λ e. e.0) (insert_entry nat_cmp es k i) ≡ insert_in k (map (λ e. e.0) es)
numbers_inserted k i [] = refl
numbers_inserted k i (e ∷ es) = by_order (nat_cmp k e.0) refl (numbers_inserted k i es)
  where
    by_order : (o : Ordering) → nat_cmp k e.0 ≡ o → numbers_in (insert_entry nat_cmp es k i) ≡ insert_in k (numbers_in es)
        → numbers_in (insert_entry nat_cmp (e ∷ es) k i) ≡ insert_in k (numbers_in (e ∷ es))
    by_order Less is later =
        let less : k < e.0 = grind (arith, nat_tests, is) in
        rw is (sym (insert_less k e.0 (numbers_in es) less))
    by_order Equal is later =
        let same : k ≡ e.0 = grind (arith, nat_tests, is) in
        rw is (sym (insert_same k e.0 (numbers_in es) same))
    by_order Greater is later =
        let more : e.0 < k = grind (arith, nat_tests, is) in
        rw is (ap (λ ks. e.0 ∷ ks) later ∙ sym (insert_more k e.0 (numbers_in es) more))

-- what is held above a number is not held under it
none_under : (n k : ℕ) (es : List (ℕ × Item)) → AllAbove n es → k ≤ n → is_some (held_at es k) ≡ false
none_under n k [] above under = refl
none_under n k (e ∷ es) above under =
    let less : k < e.0 = omega (arith, under, above.0) in
    let is : nat_cmp k e.0 ≡ Less = grind (arith, nat_tests, less) in
    rw is (none_under n k es above.1 under)

-- the number of an item that is held is among theirs
pub numbers_kept : (k : ℕ) (es : List (ℕ × Item)) → IsRising es → is_some (held_at es k) ≡ true → insert_in k (map (λ e. e.0) es) ≡ map (λ e. e.0) es
numbers_kept k [] rising held = let z : ⊥ = cc held in absurd z
numbers_kept k (e ∷ es) rising held = by_order (nat_cmp k e.0) refl (numbers_kept k es rising.1)
  where
    by_order : (o : Ordering) → nat_cmp k e.0 ≡ o → (is_some (held_at es k) ≡ true → insert_in k (numbers_in es) ≡ numbers_in es)
        → insert_in k (numbers_in (e ∷ es)) ≡ numbers_in (e ∷ es)
    by_order Less is later =
        let less : k < e.0 = grind (arith, nat_tests, is) in
        let none : is_some (held_at (e ∷ es) k) ≡ false = rw is (none_under e.0 k es rising.0 (omega (arith, less))) in
        let z : ⊥ = cc (held, none) in
        absurd z
    by_order Equal is later =
        let same : k ≡ e.0 = grind (arith, nat_tests, is) in
        insert_same k e.0 (numbers_in es) same
    by_order Greater is later =
        let more : e.0 < k = grind (arith, nat_tests, is) in
        let rest : is_some (held_at es k) ≡ true = rw is at held in
        insert_more k e.0 (numbers_in es) more ∙ ap (λ ks. e.0 ∷ ks) (later rest)

-- ---- a tuple is held

-- the numbers with one more put among those of an in-edge
abbrev pub with_number : (ℕ → List ℕ) → ℕ → ℕ → ℕ → List ℕ
with_number numbers q number j = if j == q then insert_in number (numbers q) else numbers j

module _ (plan : PlanView) (inputs : List Input) (role : Role) (g : NewcomerView) (x : GatheringNumbers) (stands : GatheringStands plan inputs (partition_of role) g x)
    (q number : ℕ) (i : Item) (inside : q < length g.held) (here : item_at (items_on plan inputs (in_edge (partition_of role) q)) number ≡ Some i) where
  rises : IsRising (held_of g q)
  rises = stands.rising q inside

  names : map (λ e. e.0) (held_of g q) ≡ x.held q
  names = stands.held.under q inside

  -- it is held already
  repeated : is_held g q number ≡ true → GatheringStands plan inputs (partition_of role) g (record { inc = x.inc; taken = x.taken; moved = x.moved; held = with_number x.held q number })
  repeated is = record {
    inc = stands.inc;
    count = stands.count;
    taken = stands.taken;
    held = record {
      sources = stands.held.sources;
      items = stands.held.items;
      under = λ j below. by_edge j below (j == q) refl;
    };
    rising = stands.rising;
  }
    where
      by_edge : (j : ℕ) → j < length g.held → (t : Bool) → (j == q) ≡ t → map (λ e. e.0) (slice_index_or g.held j []) ≡ with_number x.held q number j
      by_edge j below true same =
          rw same (ap (λ k. map (λ e. e.0) (slice_index_or g.held k [])) (eqb-true j q same) ∙ names
          ∙ (sym names ∙ sym (numbers_kept number (held_of g q) rises is) ∙ ap (insert_in number) names))
      by_edge j below false other = rw other (stands.held.under j below)

  -- it is held from now on
  newly : GatheringStands plan inputs (partition_of role) (record { inc = g.inc; taken = g.taken; held = slice_set g.held q (with_held (held_of g q) number i) })
      (record { inc = x.inc; taken = x.taken; moved = x.moved; held = with_number x.held q number })
  newly = record {
    inc = stands.inc;
    count = stands.count;
    taken = stands.taken;
    held = record {
      sources = long ∙ stands.held.sources;
      items = λ j below. items_by j (omega (arith, below, long)) (j == q) refl;
      under = λ j below. under_by j (omega (arith, below, long)) (j == q) refl;
    };
    rising = λ j below. rising_by j (omega (arith, below, long)) (j == q) refl;
  }
    where
      long : length (slice_set g.held q (with_held (held_of g q) number i)) ≡ length g.held
      long = length-set g.held q (with_held (held_of g q) number i)

      same_at : (j : ℕ) → (j == q) ≡ true → slice_index_or (slice_set g.held q (with_held (held_of g q) number i)) j [] ≡ with_held (held_of g q) number i
      same_at j same = ap (λ k. slice_index_or (slice_set g.held q (with_held (held_of g q) number i)) k []) (eqb-true j q same) ∙ get_or-set_same g.held q (with_held (held_of g q) number i) [] inside

      other_at : (j : ℕ) → (j == q) ≡ false → slice_index_or (slice_set g.held q (with_held (held_of g q) number i)) j [] ≡ slice_index_or g.held j []
      other_at j other = get_or-set_other g.held q j (with_held (held_of g q) number i) [] (λ at. let z : true ≡ false = sym (eq-eqb j q at) ∙ other in cc)

      items_by : (j : ℕ) → j < length g.held → (t : Bool) → (j == q) ≡ t
          → All (IsItemOf (items_on plan inputs (in_edge (partition_of role) j))) (slice_index_or (slice_set g.held q (with_held (held_of g q) number i)) j [])
      items_by j below true same =
          subst (λ es. All (IsItemOf (items_on plan inputs (in_edge (partition_of role) j))) es) (sym (same_at j same))
          (subst (λ k. All (IsItemOf (items_on plan inputs (in_edge (partition_of role) k))) (with_held (held_of g q) number i)) (sym (eqb-true j q same))
          (all_put (IsItemOf (items_on plan inputs (in_edge (partition_of role) q))) number i (held_of g q) here (stands.held.items q inside)))
      items_by j below false other =
          subst (λ es. All (IsItemOf (items_on plan inputs (in_edge (partition_of role) j))) es) (sym (other_at j other)) (stands.held.items j below)

      under_by : (j : ℕ) → j < length g.held → (t : Bool) → (j == q) ≡ t
          → map (λ e. e.0) (slice_index_or (slice_set g.held q (with_held (held_of g q) number i)) j []) ≡ with_number x.held q number j
      under_by j below true same =
          rw same (ap (λ es. map (λ e. e.0) es) (same_at j same) ∙ numbers_inserted number i (held_of g q) ∙ ap (insert_in number) names)
      under_by j below false other = rw other (ap (λ es. map (λ e. e.0) es) (other_at j other) ∙ stands.held.under j below)

      rising_by : (j : ℕ) → j < length g.held → (t : Bool) → (j == q) ≡ t → IsRising (slice_index_or (slice_set g.held q (with_held (held_of g q) number i)) j [])
      rising_by j below true same = subst (λ es. IsRising es) (sym (same_at j same)) (rising_kept number i (held_of g q) rises)
      rising_by j below false other = subst (λ es. IsRising es) (sym (other_at j other)) (stands.rising j below)

  pub held_stands : GatheringStands plan inputs (partition_of role) (after_hold g q number i) (record { inc = x.inc; taken = x.taken; moved = x.moved; held = with_number x.held q number })
  held_stands = by_test (is_held g q number) refl
    where
      by_test : (t : Bool) → is_held g q number ≡ t
          → GatheringStands plan inputs (partition_of role) (if t then g else record g { held = slice_set g.held q (with_held (held_of g q) number i) }) (record { inc = x.inc; taken = x.taken; moved = x.moved; held = with_number x.held q number })
      by_test true is = repeated is
      by_test false is = newly

-- a replica that gathers holds the items of the edges into its partition by their numbers
pub tuple_gathers : (plan : PlanView) (inputs : List Input) (role : Role) (e : EdgeId) (number : ℕ) (i : Item) (g : NewcomerView) (x : GatheringNumbers)
    → IsOfPlan plan role → IsIntoHere role e → item_at (items_on plan inputs e) number ≡ Some i → GatheringStands plan inputs (partition_of role) g x
    → GatheringStands plan inputs (partition_of role) (after_hold g e.from number i)
    (record { inc = x.inc; taken = x.taken; moved = x.moved; held = λ j. if j == e.from then insert_in number (x.held e.from) else x.held j })
tuple_gathers plan inputs role e number i g x of_plan into item stands =
    held_stands plan inputs role g x stands e.from number i there
    (subst (λ (edge : EdgeId). item_at (items_on plan inputs edge) number ≡ Some i) (sym (into_is role e into)) item)
  where
    there : e.from < length g.held
    there =
        let some : e.from < role.sources = into.2 in
        let held = stands.held.sources in
        let many = of_plan.sources in
        omega (arith, some, held, many)

-- ---- the marks in a move's list

abbrev is_mark : Entry → Bool
is_mark (entry.Mark q upto) = true
is_mark (entry.Count count) = false
is_mark (entry.Head q number i) = false
is_mark (entry.Low t low produced) = false
is_mark (entry.Kept t number i) = false
is_mark (entry.Keyed k slot a b c) = false

abbrev NoMarks : List Entry → Type 0
NoMarks [] = Unit {0}
NoMarks (e ∷ es) = (is_mark e ≡ false) × NoMarks es

no_mark_at : (es : List Entry) (k : ℕ) (e : Entry) → NoMarks es → slice_get es k ≡ Some e → is_mark e ≡ false
no_mark_at [] k e none is = let z : ⊥ = cc is in absurd z
no_mark_at (x ∷ es) zero e none is = let same : x ≡ e = cc is in subst (λ y. is_mark y ≡ false) same none.0
no_mark_at (x ∷ es) (suc k) e none is = no_mark_at es k e none.1 is

none_append : (xs ys : List Entry) → NoMarks xs → NoMarks ys → NoMarks (xs ++ ys)
none_append [] ys left right = right
none_append (x ∷ xs) ys left right = (left.0, none_append xs ys left.1 right)

none_below : (n : ℕ) (f : ℕ → List Entry) → ((q : ℕ) → NoMarks (f q)) → NoMarks (each_below n f)
none_below zero f each = tt
none_below (suc n) f each = none_append (each_below n f) (f n) (none_below n f each) (each n)

none_numbered : (f : ℕ → Item → Entry) → ((n : ℕ) (i : Item) → is_mark (f n i) ≡ false) → (n : ℕ) (xs : List Item) → NoMarks (numbered f n xs)
none_numbered f each n [] = tt
none_numbered f each n (x ∷ xs) = (each (n + 1) x, none_numbered f each (n + 1) xs)

none_keyed : (es : List Entry) → AllKeyed es → NoMarks es
none_keyed [] keyed = tt
none_keyed (entry.Keyed k slot a b c ∷ es) keyed = (refl, none_keyed es keyed.1)
none_keyed (entry.Mark q upto ∷ es) keyed = let h : false ≡ true = keyed.0 in cc
none_keyed (entry.Count count ∷ es) keyed = let h : false ≡ true = keyed.0 in cc
none_keyed (entry.Head q j x ∷ es) keyed = let h : false ≡ true = keyed.0 in cc
none_keyed (entry.Low t low produced ∷ es) keyed = let h : false ≡ true = keyed.0 in cc
none_keyed (entry.Kept t j x ∷ es) keyed = let h : false ≡ true = keyed.0 in cc

none_by : (stage : Option Stage) (given : List Item) → NoMarks (entries_by stage given)
none_by None given = tt
none_by (Some stage) given = none_keyed (entries stage.op given) (entries_keyed stage.op given)

-- the marks of n edges
abbrev marks_below : ℕ → (ℕ → ℕ) → List Entry
marks_below n marks = each_below n (λ q. entry.Mark q (marks q) ∷ [])

-- what follows them
past_marks : (n : ℕ) (marks : ℕ → ℕ) (rest : List Entry) (k : ℕ) → slice_get (marks_below n marks ++ rest) (n + k) ≡ slice_get rest k
past_marks zero marks rest k = let none : zero + k ≡ k = omega arith in ap (slice_get rest) none
past_marks (suc n) marks rest k =
    let on : suc n + k ≡ n + suc k = omega arith in
    ap (slice_get (marks_below (suc n) marks ++ rest)) on
    ∙ ap (λ es. slice_get es (n + suc k)) (append_assoc (marks_below n marks) (entry.Mark n (marks n) ∷ []) rest)
    ∙ past_marks n marks (entry.Mark n (marks n) ∷ rest) (suc k)

mark_within : (n : ℕ) (marks : ℕ → ℕ) (rest : List Entry) (k : ℕ) → k < n → slice_get (marks_below n marks ++ rest) k ≡ Some (entry.Mark k (marks k))
mark_within zero marks rest k below = absurd (omega (arith, below))
mark_within (suc n) marks rest k below =
    ap (λ es. slice_get es k) (append_assoc (marks_below n marks) (entry.Mark n (marks n) ∷ []) rest)
    ∙ by_last (nat_lt k n) refl (mark_within n marks (entry.Mark n (marks n) ∷ rest) k)
  where
    by_last : (t : Bool) → nat_lt k n ≡ t → (k < n → slice_get (marks_below n marks ++ entry.Mark n (marks n) ∷ rest) k ≡ Some (entry.Mark k (marks k)))
        → slice_get (marks_below n marks ++ entry.Mark n (marks n) ∷ rest) k ≡ Some (entry.Mark k (marks k))
    by_last true is before = let less : k < n = grind (arith, nat_tests, is) in before less
    by_last false is before =
        let same : k ≡ n = grind (arith, nat_tests, is, below) in
        let here : k ≡ n + 0 = omega (arith, same) in
        ap (slice_get (marks_below n marks ++ entry.Mark n (marks n) ∷ rest)) here
        ∙ past_marks n marks (entry.Mark n (marks n) ∷ rest) 0
        ∙ ap (λ j. Some (entry.Mark j (marks j))) (sym same)

-- six lists, the first before all others
first_of_six : (us bs cs ds es fs : List Entry) → us ++ bs ++ cs ++ ds ++ es ++ fs ≡ us ++ (bs ++ cs ++ ds ++ es ++ fs)
first_of_six us bs cs ds es fs =
    ap (λ xs. xs ++ fs) (ap (λ xs. xs ++ es) (ap (λ xs. xs ++ ds) (append_assoc us bs cs) ∙ append_assoc us (bs ++ cs) ds) ∙ append_assoc us (bs ++ cs ++ ds) es)
    ∙ append_assoc us (bs ++ cs ++ ds ++ es) fs

module _ (plan : PlanView) (inputs : List Input) (p : Partition) (m : MoveNumbers) where
  abbrev heads_of : ℕ → List Entry
  heads_of q = numbered (λ n i. entry.Head q n i) (used_of plan inputs p q m.count) (waiting plan inputs p m.count q (m.marks q))

  abbrev low_of : ℕ → List Entry
  low_of t = entry.Low t (m.lows t) (made_on plan inputs (out_edge p t) m.count) ∷ []

  abbrev kept_of : ℕ → List Entry
  kept_of t = numbered (λ n i. entry.Kept t n i) (m.lows t) (kept plan inputs p m.count t (m.lows t))

  -- a move's list after its marks
  abbrev after_marks : List Entry
  after_marks =
      (entry.Count m.count ∷ []) ++ each_below (sources_of plan p.stage) heads_of ++ each_below (parts_of plan (p.stage + 1)) low_of
      ++ each_below (parts_of plan (p.stage + 1)) kept_of ++ entries_after plan inputs p m.count

  marks_first : move_list plan inputs p m ≡ marks_below (sources_of plan p.stage) m.marks ++ after_marks
  marks_first =
      first_of_six (marks_below (sources_of plan p.stage) m.marks) (entry.Count m.count ∷ []) (each_below (sources_of plan p.stage) heads_of)
      (each_below (parts_of plan (p.stage + 1)) low_of) (each_below (parts_of plan (p.stage + 1)) kept_of) (entries_after plan inputs p m.count)

  no_marks_after : NoMarks after_marks
  no_marks_after =
      none_append ((entry.Count m.count ∷ []) ++ each_below (sources_of plan p.stage) heads_of ++ each_below (parts_of plan (p.stage + 1)) low_of ++ each_below (parts_of plan (p.stage + 1)) kept_of)
      (entries_after plan inputs p m.count)
      (none_append ((entry.Count m.count ∷ []) ++ each_below (sources_of plan p.stage) heads_of ++ each_below (parts_of plan (p.stage + 1)) low_of) (each_below (parts_of plan (p.stage + 1)) kept_of)
      (none_append ((entry.Count m.count ∷ []) ++ each_below (sources_of plan p.stage) heads_of) (each_below (parts_of plan (p.stage + 1)) low_of)
      (none_append (entry.Count m.count ∷ []) (each_below (sources_of plan p.stage) heads_of) (refl, tt)
      (none_below (sources_of plan p.stage) heads_of (λ q. none_numbered (λ n i. entry.Head q n i) (λ n i. refl) (used_of plan inputs p q m.count) (waiting plan inputs p m.count q (m.marks q)))))
      (none_below (parts_of plan (p.stage + 1)) low_of (λ t. (refl, tt))))
      (none_below (parts_of plan (p.stage + 1)) kept_of (λ t. none_numbered (λ n i. entry.Kept t n i) (λ n i. refl) (m.lows t) (kept plan inputs p m.count t (m.lows t)))))
      (none_by (slice_get plan.stages (p.stage - 1)) (merged_first plan inputs p m.count))

  -- the first entries of a move are the marks of the in-edges
  pub mark_at : (k : ℕ) → k < sources_of plan p.stage → slice_get (move_list plan inputs p m) k ≡ Some (entry.Mark k (m.marks k))
  mark_at k below = ap (λ es. slice_get es k) marks_first ∙ mark_within (sources_of plan p.stage) m.marks after_marks k below

  -- and no other entry is a mark
  no_more_marks : (k : ℕ) (e : Entry) → sources_of plan p.stage ≤ k → slice_get (move_list plan inputs p m) k ≡ Some e → is_mark e ≡ false
  no_more_marks k e past is =
      no_mark_at after_marks (k - sources_of plan p.stage) e no_marks_after
      (sym (past_marks (sources_of plan p.stage) m.marks after_marks (k - sources_of plan p.stage))
      ∙ (let all : sources_of plan p.stage + (k - sources_of plan p.stage) ≡ k = omega (arith, past) in ap (slice_get (marks_below (sources_of plan p.stage) m.marks ++ after_marks)) all)
      ∙ ap (λ es. slice_get es k) (sym marks_first) ∙ is)

-- ---- one more taken

front_grows : {X : Type 0} (k : ℕ) (xs : List X) (x : X) → slice_get xs k ≡ Some x → take (suc k) xs ≡ take k xs ++ x ∷ []
front_grows k [] x is = let z : ⊥ = cc is in absurd z
front_grows zero (y ∷ xs) x is = let same : y ≡ x = cc is in ap (λ z. z ∷ []) same
front_grows (suc k) (y ∷ xs) x is = ap (λ zs. y ∷ zs) (front_grows k xs x is)

-- the entry that stands at a place from 1
at_place : {X : Type 0} (xs : List X) (n k : ℕ) (x : X) → n ≡ k + 1 → nth_from_one xs n ≡ Some x → slice_get xs k ≡ Some x
at_place xs n k x next is =
    let place : n ≡ suc k = omega (arith, next) in
    subst (λ j. nth_from_one xs j ≡ Some x) place is

not_wanting : (p : Partition) (e : Entry) → is_mark e ≡ false → wants_by p took.Taken e ≡ []
not_wanting p (entry.Mark q upto) none = let z : ⊥ = cc none in absurd z
not_wanting p (entry.Count count) none = refl
not_wanting p (entry.Head q number i) none = refl
not_wanting p (entry.Low t low produced) none = refl
not_wanting p (entry.Kept t number i) none = refl
not_wanting p (entry.Keyed k slot a b c) none = refl

-- what a chunk's entry wants stands for what the machine's chunk wants
module _ (plan : PlanView) (inputs : List Input) (sender : NodeId) (p : Partition) where
  wants_stand : (q from : ℕ) → ArePacketsFor (BodyStands plan inputs) sender (wants_of p q from) (to_producers p q (Want (in_edge p q) from))
  wants_stand q from = by_first (p.stage == 1)
    where
      by_first : (t : Bool)
          → ArePacketsFor (BodyStands plan inputs) sender
          (if t then (node.Ingress, body.Want (in_edge p q) from) ∷ []
          else (node.Replica (p.stage - 1) q A, body.Want (in_edge p q) from) ∷ (node.Replica (p.stage - 1) q B, body.Want (in_edge p q) from) ∷ [])
          (if t then envelope node.Ingress (Want (in_edge p q) from) ∷ []
          else envelope (node.Replica (p.stage - 1) q A) (Want (in_edge p q) from) ∷ envelope (node.Replica (p.stage - 1) q B) (Want (in_edge p q) from) ∷ [])
      by_first true = ((refl, (refl, refl)), tt)
      by_first false = ((refl, (refl, refl)), ((refl, (refl, refl)), tt))

  chunk_wants_stand : (m : MoveNumbers) (n k : ℕ) (e : Entry) → n ≡ k + 1 → slice_get (move_list plan inputs p m) k ≡ Some e
      → ArePacketsFor (BodyStands plan inputs) sender (wants_by p took.Taken e) (chunk_wants (flow_of plan inputs) p n m)
  chunk_wants_stand m n k e next is = by_test (nat_le n ((flow_of plan inputs).sources p.stage)) refl
    where
      by_test : (t : Bool) → nat_le n ((flow_of plan inputs).sources p.stage) ≡ t
          → ArePacketsFor (BodyStands plan inputs) sender (wants_by p took.Taken e) (if t then to_producers p (n - 1) (Want (in_edge p (n - 1)) (m.marks (n - 1) + 1)) else [])
      by_test true within =
          let upto : n ≤ (flow_of plan inputs).sources p.stage = grind (arith, nat_tests, within) in
          let all = sources_at plan inputs p.stage in
          let here : k < sources_of plan p.stage = omega (arith, upto, all, next) in
          let place : k ≡ n - 1 = omega (arith, next) in
          let marks : Some (entry.Mark k (m.marks k)) ≡ Some e = sym (mark_at plan inputs p m k here) ∙ is in
          let same : entry.Mark k (m.marks k) ≡ e = cc marks in
          subst (λ d. ArePacketsFor (BodyStands plan inputs) sender (wants_by p took.Taken d) (to_producers p (n - 1) (Want (in_edge p (n - 1)) (m.marks (n - 1) + 1)))) same
          (subst (λ j. ArePacketsFor (BodyStands plan inputs) sender (wants_of p k (m.marks k + 1)) (to_producers p j (Want (in_edge p j) (m.marks j + 1)))) place
          (wants_stand k (m.marks k + 1)))
      by_test false past =
          let over : (flow_of plan inputs).sources p.stage < n = grind (arith, nat_tests, past) in
          let all = sources_at plan inputs p.stage in
          let there : sources_of plan p.stage ≤ k = omega (arith, over, all, next) in
          subst (λ ps. ArePacketsFor (BodyStands plan inputs) sender ps []) (sym (not_wanting p e (no_more_marks plan inputs p m k e there is))) tt

-- the entries that were taken are the first of this move's list, if it is the same move
pub taken_front : (plan : PlanView) (inputs : List Input) (p : Partition) (taken : List Entry) (count : ℕ) (moved : Option MoveNumbers) (m : MoveNumbers)
    → length taken ≡ count → TakenStands plan inputs p taken count moved → ((before : MoveNumbers) → moved ≡ Some before → m ≡ before) → taken ≡ take count (move_list plan inputs p m)
taken_front plan inputs p taken count None m long is same =
    let none : count ≡ 0 = sym long ∙ ap length is in
    is ∙ sym (ap (λ k. take k (move_list plan inputs p m)) none)
taken_front plan inputs p taken count (Some before) m long is same = is ∙ ap (λ n. take count (move_list plan inputs p n)) (sym (same before refl))

module _ (plan : PlanView) (inputs : List Input) (role : Role) (g : NewcomerView) (x : GatheringNumbers) (stands : GatheringStands plan inputs (partition_of role) g x) where
  chunk_added : (number : ℕ) (e : Entry) (m : MoveNumbers) → nth_from_one (move_list plan inputs (partition_of role) m) number ≡ Some e
      → ((before : MoveNumbers) → x.moved ≡ Some before → m ≡ before) → number ≡ length g.taken + 1
      → GatheringStands plan inputs (partition_of role) (record { inc = g.inc; taken = g.taken ++ e ∷ []; held = g.held }) (record { inc = x.inc; taken = number; moved = Some m; held = x.held })
  chunk_added number e m is same next = record {
    inc = stands.inc;
    count = let long : length (g.taken ++ e ∷ []) ≡ length g.taken + 1 = length-append g.taken (e ∷ []) in long ∙ sym next;
    taken =
        ap (λ es. es ++ e ∷ []) (taken_front plan inputs (partition_of role) g.taken x.taken x.moved m stands.count stands.taken same ∙ ap (λ k. take k (move_list plan inputs (partition_of role) m)) (sym stands.count))
        ∙ sym (front_grows (length g.taken) (move_list plan inputs (partition_of role) m) e (at_place (move_list plan inputs (partition_of role) m) number (length g.taken) e next is))
        ∙ ap (λ k. take k (move_list plan inputs (partition_of role) m)) (let place : suc (length g.taken) ≡ number = omega (arith, next) in place);
    held = stands.held;
    rising = stands.rising;
  }

  stays : ComesTo plan inputs role (phase.Gathering g) [] (numbers.Gathering x, [])
  stays = record { stands = stands; packets = tt }

  chunk_gathers : (inc number : ℕ) (e : Entry) (m : MoveNumbers) → nth_from_one (move_list plan inputs (partition_of role) m) number ≡ Some e
      → (inc ≡ x.inc → (before : MoveNumbers) → x.moved ≡ Some before → m ≡ before)
      → ComesTo plan inputs role (phase.Gathering (after_chunk g inc number e)) (wants_by (partition_of role) (took_of g inc number) e) (takes_chunk (flow_of plan inputs) (partition_of role) inc number m (numbers.Gathering x))
  chunk_gathers inc number e m is same =
      subst (λ t. ComesTo plan inputs role (phase.Gathering (after_chunk g inc number e)) (wants_by (partition_of role) (took_of g inc number) e)
      (if t then (numbers.Gathering (record x { taken = number; moved = Some m }), chunk_wants (flow_of plan inputs) (partition_of role) number m) else (numbers.Gathering x, [])))
      (λ j. (inc == stands.inc j) && (number == stands.count j + 1))
      (by_tests (inc == g.inc) (nat_le number (length g.taken)) (number == length g.taken + 1) refl refl refl)
    where
      by_tests : (own before next : Bool) → (inc == g.inc) ≡ own → nat_le number (length g.taken) ≡ before → (number == length g.taken + 1) ≡ next
          → ComesTo plan inputs role
          (phase.Gathering (taken_by (if own then (if before then took.Repeat else if next then took.Taken else took.Ahead) else took.OtherInc) g e))
          (wants_by (partition_of role) (if own then (if before then took.Repeat else if next then took.Taken else took.Ahead) else took.OtherInc) e)
          (if own && next then (numbers.Gathering (record x { taken = number; moved = Some m }), chunk_wants (flow_of plan inputs) (partition_of role) number m) else (numbers.Gathering x, []))
      by_tests true true true own before next =
          let under : number ≤ length g.taken = grind (arith, nat_tests, before) in
          let above : number ≡ length g.taken + 1 = grind (arith, nat_tests, next) in
          absurd (omega (arith, under, above))
      by_tests true true false own before next = stays
      by_tests true false true own before next =
          let above : number ≡ length g.taken + 1 = grind (arith, nat_tests, next) in
          let here : inc ≡ g.inc = grind (arith, nat_tests, own) in
          record {
            stands = chunk_added number e m is (same (here ∙ stands.inc)) above;
            packets =
                chunk_wants_stand plan inputs (node_of role) (partition_of role) m number (length g.taken) e above
                (at_place (move_list plan inputs (partition_of role) m) number (length g.taken) e above is);
          }
      by_tests true false false own before next = stays
      by_tests false before_it next_it own before next = stays

-- ---- a chunk's packet

pub from_partner : (role : Role) (stage part : ℕ) → stage ≡ role.stage → part ≡ role.part → record { stage = stage; part = part } ≡ partition_of role
from_partner role stage part same_stage same_part = λ j. record { stage = same_stage j; part = same_part j }

-- A chunk makes of a replica what it makes of the machine's.
pub chunk_comes : (plan : PlanView) (inputs : List Input) (role : Role) (from : NodeId) (inc number : ℕ) (e : Entry) (m : Message) (p : Phase) (x : Replica)
    → IsPartner role from → BodyStands plan inputs (link from (node_of role)) (body.Chunk inc number e) m → PhaseStands plan inputs (partition_of role) p x
    → TakenAsks (flow_of plan inputs) (node_of role) (ReplicaNode x) from m
    → ComesTo plan inputs role (chunk_taken inc number e p) (wants_in (partition_of role) inc number e p) (replica_takes (flow_of plan inputs) (partition_of role) from m x)
chunk_comes plan inputs role from inc number e (Chunk i n m) (phase.Running r) (numbers.Running x) partner st stands asks = record { stands = stands; packets = tt }
chunk_comes plan inputs role from inc number e (Chunk i n m) (phase.Gone own) (numbers.Gone there) partner st stands asks = record { stands = stands; packets = tt }
chunk_comes plan inputs role (node.Replica stage part which) inc number e (Chunk i n m) (phase.Gathering g) (numbers.Gathering x) partner st stands asks =
    subst (λ k. ComesTo plan inputs role (phase.Gathering (after_chunk g inc number e)) (wants_by (partition_of role) (took_of g inc number) e) (takes_chunk (flow_of plan inputs) (partition_of role) k n m (numbers.Gathering x))) st.0
    (subst (λ k. ComesTo plan inputs role (phase.Gathering (after_chunk g inc number e)) (wants_by (partition_of role) (took_of g inc number) e) (takes_chunk (flow_of plan inputs) (partition_of role) inc k m (numbers.Gathering x))) st.1
    (chunk_gathers plan inputs role g x stands inc number e m is (λ own. asks.same_move (sym st.0 ∙ own))))
  where
    is : nth_from_one (move_list plan inputs (partition_of role) m) number ≡ Some e
    is =
        subst (λ k. nth_from_one (move_list plan inputs (partition_of role) m) k ≡ Some e) (sym st.1)
        (subst (λ (p : Partition). nth_from_one (move_list plan inputs p m) n ≡ Some e) (from_partner role stage part partner.0 partner.1) st.2)
chunk_comes plan inputs role from inc number e (Chunk i n m) (phase.Gathering g) (numbers.Gathering x) partner st stands asks = absurd partner
chunk_comes plan inputs role from inc number e (Chunk i n m) p x partner st stands asks = absurd stands
chunk_comes plan inputs role from inc number e m p x partner st stands asks = absurd st
