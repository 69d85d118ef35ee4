-- What a sound machine has sent to a replica is admitted there.
use Rattle.std.proofs.Common.{◌≡◌, ◌<◌, ◌≤◌, ◌+◌, ◌-◌, ◌∙◌, ℕ, zero, suc, List, [], ◌∷◌, ◌++◌, Option, None, Some, IsTrue, length, take, drop, refl, sym, ap, subst, arith}
use Rattle.std.specs.Prelude.{All, slice_get}
use Rattle.std.specs.List.{range_with_len}
use Rattle.std.specs.Option.{IsSome}
use Rattle.std.proofs.lemmas.List.{append-nil, length-take, take_all}
use Rattle.std.proofs.lemmas.Option.{slice_get_past}
use Rattle.std.proofs.lemmas.List.Elements.{All-drop, All-take}
use Rattle.tuple_edge.specs.Limits.{number_limit}
use Rattle.tuple_edge.specs.Entries.{each_below, numbered}
use Rattle.tuple_edge.specs.declared.item.Item.{Item}
use Rattle.tuple_edge.specs.declared.node.EdgeId.{EdgeId}
use Rattle.tuple_edge.specs.declared.node.NodeId.{NodeId}
use Rattle.tuple_edge.specs.declared.node.NodeId.TheVariants as node
use Rattle.tuple_edge.specs.declared.packet.Body.{Body}
use Rattle.tuple_edge.specs.declared.packet.Body.TheVariants as body
use Rattle.tuple_edge.specs.declared.packet.Entry.{Entry}
use Rattle.tuple_edge.specs.declared.packet.Entry.TheVariants as entry
use Rattle.tuple_edge.specs.Input.{Input}
use Rattle.merge_order.specs.Edges.{item_at}
use Rattle.op_spec.specs.Times.{IsTimely}
use Rattle.plan_reader.specs.Nodes.{has_link, parts_of, sources_of}
use Rattle.plan_reader.specs.PlanView.{IsPlan, PlanView}
use Rattle.plan_reader.specs.declared.stage.Stage.{Stage}
use Rattle.pair_machine.specs.Asked.{IsOfSameMove, TakenAsks}
use Rattle.pair_machine.specs.Contents.{BodyStands, between, kept, move_list, waiting}
use Rattle.pair_machine.specs.CountLaws.{IsOfStage}
use Rattle.pair_machine.specs.Counts.{entries_after, entries_by, flow_of, items_on, made_on, used_of}
use Rattle.pair_machine.specs.Lengths.{MoveBound}
use Rattle.pair_machine.specs.Links.{Carries, HasNode, IsUp, link}
use Rattle.pair_machine.specs.Lists.{Among, Each}
use Rattle.pair_machine.specs.Machine.{State, nth_from_one, replica_in}
use Rattle.pair_machine.specs.Messages.{Ack, AskBack, AskStop, Begin, Caught, Chunk, ChunkEnd, Down, Lead, Message, Report, Serve, Stop, Tuple, Want}
use Rattle.pair_machine.specs.Numbers.{GatheringNumbers, Gone, MoveNumbers, Node, Partition, Replica, in_edge, out_edge}
use Rattle.pair_machine.specs.Numbers as numbers
use Rattle.pair_machine.specs.Replicas.{size}
use Rattle.pair_machine.specs.Small.{EachOfMessage, EachOfNumbers}
use Rattle.pair_machine.specs.Sound.{IsSound}
use Rattle.pair_machine.proofs.EdgeLaws.{get_of, times_stay}
use Rattle.pair_machine.proofs.Lists.{each_append, each_at}
use Rattle.pair_machine.proofs.MachineLaws.{taken_asks}
use Rattle.pair_machine.proofs.MoveSize.{have_their_size}
use Rattle.pair_machine.proofs.PlanNodes.{links_named}
use Rattle.catch_up.specs.Rebuild.{lows_in}
use Rattle.catch_up.proofs.KeyedEntries.{entries_keyed}
use Rattle.catch_up.proofs.Lows.{one_more}
use Rattle.catch_up.proofs.Steps.{AllKeyed}
use Rattle.replica_node.specs.Admitted.{IsAdmitted, IsController, IsEntryHere, IsWholeAt}
use Rattle.replica_node.specs.Course.{AreTimely}
use Rattle.replica_node.specs.ReplicaView.{ReplicaView, node_of, partition_of, targets_of}
use Rattle.replica_node.specs.StandsFor.{IsOfPlan, PhaseStands, StandsFor, TakenStands}
use Rattle.replica_node.specs.declared.phase.Phase.{Phase}
use Rattle.replica_node.specs.declared.phase.Phase.TheVariants as phase
use Rattle.replica_node.specs.declared.role.Role.{Role}
use Rattle.replica_node.proofs.Roles.{each_get, each_of, of_stage, sources_at, stages_are, targets_are}

-- ---- what holds of each of a list

each_nth : {X : Type 0} (P : X → Type 0) (xs : List X) → Each P xs → (n : ℕ) (x : X) → nth_from_one xs n ≡ Some x → P x
each_nth P xs all zero x e = let z : ⊥ = cc e in absurd z
each_nth P xs all (suc n) x e = each_get P xs all n x e

timely_at : (items : List Item) → All IsTimely items → (n : ℕ) (i : Item) → item_at items n ≡ Some i → IsTimely i
timely_at items all zero i e = let z : ⊥ = cc e in absurd z
timely_at items all (suc n) i e = each_get IsTimely items (each_of IsTimely items all) n i e

each_between : (low upto : ℕ) (items : List Item) → All IsTimely items → Each IsTimely (between low upto items)
each_between low upto items all =
    each_of IsTimely (between low upto items) (All-take IsTimely (upto - low) (drop low items) (All-drop IsTimely low items all))

below_each : (P : Entry → Type 0) (n : ℕ) (g : ℕ → List Entry) → ((q : ℕ) → q < n → Each P (g q)) → Each P (each_below n g)
below_each P zero g all = tt
below_each P (suc n) g all = each_append P (each_below n g) (g n) (below_each P n g (λ q l. all q (omega arith))) (all n (omega arith))

-- the numbers end at the greatest one, where there are no more items than are left to it
numbered_each : (P : Entry → Type 0) (Q : Item → Type 0) (g : ℕ → Item → Entry) (most : ℕ) → ((n : ℕ) (x : Item) → n ≤ most → Q x → P (g n x)) → (n : ℕ) (xs : List Item) → length xs ≤ most - n → Each Q xs
    → Each P (numbered g n xs)
numbered_each P Q g most one n [] few all = tt
numbered_each P Q g most one n (x ∷ xs) few all =
    let left : suc (length xs) ≤ most - n = few in
    (one (n + 1) x (omega (arith, left)) all.0, numbered_each P Q g most one (n + 1) xs (omega (arith, left)) all.1)

few_between : (low upto : ℕ) (items : List Item) → length (between low upto items) ≤ upto - low
few_between low upto items = omega (arith, length-take (upto - low) (drop low items))

-- ---- what an operator keeps

kept_keyed : (stage : Option Stage) (given : List Item) → AllKeyed (entries_by stage given)
kept_keyed None given = tt
kept_keyed (Some stage) given = entries_keyed stage.op given

keyed_here : (role : Role) (es : List Entry) → AllKeyed es → Each (IsEntryHere role) es
keyed_here role [] keyed = tt
keyed_here role (entry.Keyed k slot a b c ∷ es) keyed = (tt, keyed_here role es keyed.1)
keyed_here role (entry.Mark q upto ∷ es) keyed = let no = keyed.0 in let z : ⊥ = cc no in absurd z
keyed_here role (entry.Count count ∷ es) keyed = let no = keyed.0 in let z : ⊥ = cc no in absurd z
keyed_here role (entry.Head q n x ∷ es) keyed = let no = keyed.0 in let z : ⊥ = cc no in absurd z
keyed_here role (entry.Low t low produced ∷ es) keyed = let no = keyed.0 in let z : ⊥ = cc no in absurd z
keyed_here role (entry.Kept t n x ∷ es) keyed = let no = keyed.0 in let z : ⊥ = cc no in absurd z

-- ---- the lows that entries tell

lows_append : (xs ys : List Entry) → lows_in (xs ++ ys) ≡ lows_in xs ++ lows_in ys
lows_append [] ys = refl
lows_append (entry.Keyed k slot a b c ∷ xs) ys = lows_append xs ys
lows_append (entry.Mark q upto ∷ xs) ys = lows_append xs ys
lows_append (entry.Count count ∷ xs) ys = lows_append xs ys
lows_append (entry.Head q n x ∷ xs) ys = lows_append xs ys
lows_append (entry.Low t low produced ∷ xs) ys = ap (λ ts. t ∷ ts) (lows_append xs ys)
lows_append (entry.Kept t n x ∷ xs) ys = lows_append xs ys

-- entries without a low may stand before others, or after them
none_before : (xs ys : List Entry) → lows_in xs ≡ [] → lows_in (xs ++ ys) ≡ lows_in ys
none_before xs ys none = lows_append xs ys ∙ ap (λ ts. ts ++ lows_in ys) none

none_after : (xs ys : List Entry) → lows_in ys ≡ [] → lows_in (xs ++ ys) ≡ lows_in xs
none_after xs ys none = lows_append xs ys ∙ ap (λ ts. lows_in xs ++ ts) none ∙ append-nil (lows_in xs)

lows_keyed : (es : List Entry) → AllKeyed es → lows_in es ≡ []
lows_keyed [] keyed = refl
lows_keyed (entry.Keyed k slot a b c ∷ es) keyed = lows_keyed es keyed.1
lows_keyed (entry.Mark q upto ∷ es) keyed = let no = keyed.0 in let z : ⊥ = cc no in absurd z
lows_keyed (entry.Count count ∷ es) keyed = let no = keyed.0 in let z : ⊥ = cc no in absurd z
lows_keyed (entry.Head q n x ∷ es) keyed = let no = keyed.0 in let z : ⊥ = cc no in absurd z
lows_keyed (entry.Low t low produced ∷ es) keyed = let no = keyed.0 in let z : ⊥ = cc no in absurd z
lows_keyed (entry.Kept t n x ∷ es) keyed = let no = keyed.0 in let z : ⊥ = cc no in absurd z

lows_below : (n : ℕ) (g : ℕ → List Entry) → ((q : ℕ) → lows_in (g q) ≡ []) → lows_in (each_below n g) ≡ []
lows_below zero g none = refl
lows_below (suc n) g none = none_after (each_below n g) (g n) (none n) ∙ lows_below n g none

lows_of_lows : (n : ℕ) (low made : ℕ → ℕ) → lows_in (each_below n (λ t. entry.Low t (low t) (made t) ∷ [])) ≡ range_with_len 0 n
lows_of_lows zero low made = refl
lows_of_lows (suc n) low made =
    lows_append (each_below n (λ t. entry.Low t (low t) (made t) ∷ [])) (entry.Low n (low n) (made n) ∷ [])
    ∙ ap (λ ts. ts ++ n ∷ []) (lows_of_lows n low made) ∙ sym (one_more 0 n n (omega arith))

lows_of_heads : (q n : ℕ) (xs : List Item) → lows_in (numbered (λ k x. entry.Head q k x) n xs) ≡ []
lows_of_heads q n [] = refl
lows_of_heads q n (x ∷ xs) = lows_of_heads q (n + 1) xs

lows_of_kept : (t n : ℕ) (xs : List Item) → lows_in (numbered (λ k x. entry.Kept t k x) n xs) ≡ []
lows_of_kept t n [] = refl
lows_of_kept t n (x ∷ xs) = lows_of_kept t (n + 1) xs

-- the list of a move tells the lows of the out-edges, each once and in their order
lows_moved : (plan : PlanView) (inputs : List Input) (p : Partition) (m : MoveNumbers) → lows_in (move_list plan inputs p m) ≡ range_with_len 0 (parts_of plan (p.stage + 1))
lows_moved plan inputs p m =
    let sources = sources_of plan p.stage in
    let targets = parts_of plan (p.stage + 1) in
    let waits : ℕ → List Entry = λ q. numbered (λ n x. entry.Head q n x) (used_of plan inputs p q m.count) (waiting plan inputs p m.count q (m.marks q)) in
    let keeps : ℕ → List Entry = λ t. numbered (λ n x. entry.Kept t n x) (m.lows t) (kept plan inputs p m.count t (m.lows t)) in
    let marks = each_below sources (λ q. entry.Mark q (m.marks q) ∷ []) in
    let count = entry.Count m.count ∷ [] in
    let told = each_below targets (λ t. entry.Low t (m.lows t) (made_on plan inputs (out_edge p t) m.count) ∷ []) in
    let keyed = entries_after plan inputs p m.count in
    let before : lows_in (marks ++ count ++ each_below sources waits) ≡ [] =
    none_after (marks ++ count) (each_below sources waits)
    (lows_below sources waits (λ q. lows_of_heads q (used_of plan inputs p q m.count) (waiting plan inputs p m.count q (m.marks q))))
    ∙ none_after marks count refl ∙ lows_below sources (λ q. entry.Mark q (m.marks q) ∷ []) (λ q. refl) in
    none_after (marks ++ count ++ each_below sources waits ++ told ++ each_below targets keeps) keyed (lows_keyed keyed (kept_keyed (slice_get plan.stages (p.stage - 1)) _))
    ∙ none_after (marks ++ count ++ each_below sources waits ++ told) (each_below targets keeps)
    (lows_below targets keeps (λ t. lows_of_kept t (m.lows t) (kept plan inputs p m.count t (m.lows t))))
    ∙ none_before (marks ++ count ++ each_below sources waits) told before
    ∙ lows_of_lows targets m.lows (λ t. made_on plan inputs (out_edge p t) m.count)

-- ---- entries of a move

module _ (plan : PlanView) (inputs : List Input) (is : IsPlan plan) (times : AreTimely inputs) (role : Role) (here : IsOfPlan plan role) where
  entries_here : (m : MoveNumbers) → EachOfNumbers (λ n. n < number_limit) m → Each (IsEntryHere role) (move_list plan inputs (partition_of role) m)
  entries_here m small =
      let p = partition_of role in
      let sources = sources_of plan p.stage in
      let targets = parts_of plan (p.stage + 1) in
      let P : Entry → Type 0 = IsEntryHere role in
      let source : (q : ℕ) → q < sources → q < role.sources = λ q l. subst (λ n. q < n) (sym here.sources) l in
      let target : (t : ℕ) → t < targets → t < targets_of role.next = λ t l. subst (λ n. t < n) (targets_are plan role here) l in
      let waits : ℕ → List Entry = λ q. numbered (λ n x. entry.Head q n x) (used_of plan inputs p q m.count) (waiting plan inputs p m.count q (m.marks q)) in
      let keeps : ℕ → List Entry = λ t. numbered (λ n x. entry.Kept t n x) (m.lows t) (kept plan inputs p m.count t (m.lows t)) in
      let marks = each_below sources (λ q. entry.Mark q (m.marks q) ∷ []) in
      let count = entry.Count m.count ∷ [] in
      let told = each_below targets (λ t. entry.Low t (m.lows t) (made_on plan inputs (out_edge p t) m.count) ∷ []) in
      let keyed = entries_after plan inputs p m.count in
      let timely : (q : ℕ) → Each IsTimely (waiting plan inputs p m.count q (m.marks q)) = λ q.
      each_between (used_of plan inputs p q m.count) (m.marks q) (items_on plan inputs (in_edge p q)) ((times_stay plan inputs is times).edges (in_edge p q).stage (in_edge p q).from (in_edge p q).to) in
      let timely_kept : (t : ℕ) → Each IsTimely (kept plan inputs p m.count t (m.lows t)) = λ t.
      each_between (m.lows t) (made_on plan inputs (out_edge p t) m.count) (items_on plan inputs (out_edge p t)) ((times_stay plan inputs is times).edges (out_edge p t).stage (out_edge p t).from (out_edge p t).to) in
      let with_marks : Each P marks = below_each P sources (λ q. entry.Mark q (m.marks q) ∷ []) (λ q l. ((source q l, small.marks q), tt)) in
      let with_count : Each P (marks ++ count) = each_append P marks count with_marks (small.count, tt) in
      let with_waits : Each P (marks ++ count ++ each_below sources waits) =
      each_append P (marks ++ count) (each_below sources waits) with_count (below_each P sources waits (λ q l.
      let fits : (n : ℕ) → n ≤ m.marks q → n < number_limit = λ n most. omega (arith, most, small.marks q) in
      numbered_each P IsTimely (λ n x. entry.Head q n x) (m.marks q) (λ n x most i. (source q l, fits n most, i)) (used_of plan inputs p q m.count) (waiting plan inputs p m.count q (m.marks q))
      (few_between (used_of plan inputs p q m.count) (m.marks q) (items_on plan inputs (in_edge p q))) (timely q))) in
      let with_told : Each P (marks ++ count ++ each_below sources waits ++ told) =
      each_append P (marks ++ count ++ each_below sources waits) told with_waits
      (below_each P targets (λ t. entry.Low t (m.lows t) (made_on plan inputs (out_edge p t) m.count) ∷ []) (λ t l. ((target t l, small.lows t), tt))) in
      let with_keeps : Each P (marks ++ count ++ each_below sources waits ++ told ++ each_below targets keeps) =
      each_append P (marks ++ count ++ each_below sources waits ++ told) (each_below targets keeps) with_told (below_each P targets keeps (λ t l.
      numbered_each P IsTimely (λ n x. entry.Kept t n x) (made_on plan inputs (out_edge p t) m.count) (λ n x most i. (target t l, i)) (m.lows t) (kept plan inputs p m.count t (m.lows t))
      (few_between (m.lows t) (made_on plan inputs (out_edge p t) m.count) (items_on plan inputs (out_edge p t))) (timely_kept t))) in
      each_append P (marks ++ count ++ each_below sources waits ++ told ++ each_below targets keeps) keyed with_keeps
      (keyed_here role keyed (kept_keyed (slice_get plan.stages (p.stage - 1)) _))

  -- ---- the end of a move

  -- the entries taken are the whole list, which tells the lows of the out-edges
  whole_at : (taken : List Entry) (count : ℕ) (m : MoveNumbers) → IsOfStage (flow_of plan inputs) (partition_of role) → MoveBound (flow_of plan inputs) (partition_of role) m
      → taken ≡ take count (move_list plan inputs (partition_of role) m) → count ≡ size (flow_of plan inputs) (partition_of role) m → lows_in taken ≡ range_with_len 0 (targets_of role.next)
  whole_at taken count m stage bound same all =
      let es = move_list plan inputs (partition_of role) m in
      let sized : length es ≡ size (flow_of plan inputs) (partition_of role) m = have_their_size plan inputs is (partition_of role) m stage bound in
      let whole : take count es ≡ es = take_all count es (subst (λ n. length es ≤ n) (sym all) (subst (λ n. length es ≤ n) sized (omega arith))) in
      ap lows_in (same ∙ whole) ∙ lows_moved plan inputs (partition_of role) m ∙ ap (range_with_len 0) (targets_are plan role here)

  size_some : (m : MoveNumbers) → size (flow_of plan inputs) (partition_of role) m ≡ 0 → ⊥
  size_some m e = omega arith

  module _ (stage : IsOfStage (flow_of plan inputs) (partition_of role)) (m : MoveNumbers) (bound : MoveBound (flow_of plan inputs) (partition_of role) m) where
    taken_whole : (taken : List Entry) (count : ℕ) (moved : Option MoveNumbers) → TakenStands plan inputs (partition_of role) taken count moved → length taken ≡ count
        → ((t : MoveNumbers) → moved ≡ Some t → m ≡ t) → count ≡ size (flow_of plan inputs) (partition_of role) m → lows_in taken ≡ range_with_len 0 (targets_of role.next)
    taken_whole taken count None none many same all = absurd (size_some m (sym all ∙ sym many ∙ ap length none))
    taken_whole taken count (Some t) first many same all =
        whole_at taken count m stage bound (first ∙ ap (λ z. take count (move_list plan inputs (partition_of role) z)) (sym (same t refl))) all

    end_whole : (own : Phase) (r : Replica) → PhaseStands plan inputs (partition_of role) own r → (i c inc count : ℕ) → i ≡ inc → c ≡ count
        → IsOfSameMove (flow_of plan inputs) (partition_of role) r (ChunkEnd inc count m) → IsWholeAt role own i c
    end_whole (phase.Running x) r stands i c inc count at many same = tt
    end_whole (phase.Gone own) r stands i c inc count at many same = tt
    end_whole (phase.Gathering g) (Gone own) stands i c inc count at many same = absurd stands
    end_whole (phase.Gathering g) (numbers.Running x) stands i c inc count at many same = absurd stands
    end_whole (phase.Gathering g) (numbers.Gathering x) stands i c inc count at many same = λ here_now all.
        taken_whole g.taken x.taken x.moved stands.taken stands.count (same.0 (sym at ∙ here_now ∙ stands.inc)) (sym stands.count ∙ sym all ∙ many ∙ same.1)

-- ---- who sends what

module _ (plan : PlanView) (inputs : List Input) (is : IsPlan plan) (times : AreTimely inputs) (v : ReplicaView) (here : IsOfPlan plan v.role) where
  tuple_admitted : (from : NodeId) → HasNode (flow_of plan inputs) from → (edge named : EdgeId) (number at : ℕ) (i : Item) → Carries (flow_of plan inputs) (link from (node_of v.role)) (Tuple named at)
      → edge ≡ named → number ≡ at → item_at (items_on plan inputs named) at ≡ Some i → at < number_limit → IsAdmitted v from (body.Tuple edge number i)
  tuple_admitted (node.Replica s p w) there edge named number at i h at_edge at_number item small =
      let stage = ap (λ (z : EdgeId). z.stage) at_edge in
      let source = ap (λ (z : EdgeId). z.from) at_edge in
      let target = ap (λ (z : EdgeId). z.to) at_edge in
      let sender = h.0.1 in
      let taker = h.1.0 in
      let next : s + 1 ≡ v.role.stage = omega arith in
      let within : p < v.role.sources = subst (λ n. p < n) (sym here.sources) (subst (λ k. p < sources_of plan k) next (subst (λ n. p < n) (sources_at plan inputs (s + 1)) there.1)) in (
        (stage ∙ h.0.1, source ∙ h.0.2),
        (omega arith, target ∙ h.1.1, subst (λ k. k < v.role.sources) (sym (source ∙ h.0.2)) within),
        omega arith,
        timely_at (items_on plan inputs named) ((times_stay plan inputs is times).edges named.stage named.from named.to) at i item,
      )
  tuple_admitted node.Ingress there edge named number at i h at_edge at_number item small =
      let stage = ap (λ (z : EdgeId). z.stage) at_edge in
      let source = ap (λ (z : EdgeId). z.from) at_edge in
      let target = ap (λ (z : EdgeId). z.to) at_edge in
      let sender = h.0.0 in
      let taker = h.1.0 in
      let next : 1 ≡ v.role.stage = omega arith in
      let within : named.from < v.role.sources = subst (λ n. named.from < n) (sym here.sources) (subst (λ k. named.from < sources_of plan k) next (subst (λ n. named.from < n) (sources_at plan inputs 1) h.0.1)) in (
        stage ∙ h.0.0,
        (omega arith, target ∙ h.1.1, subst (λ k. k < v.role.sources) (sym source) within),
        omega arith,
        timely_at (items_on plan inputs named) ((times_stay plan inputs is times).edges named.stage named.from named.to) at i item,
      )
  tuple_admitted (node.Control s p) there edge named number at i h at_edge at_number item small = absurd h.0
  tuple_admitted node.Egress there edge named number at i h at_edge at_number item small = absurd h.0

  -- a partition of the next stage, or egress, is one of the targets
  target_there : (s p : ℕ) → s ≡ v.role.stage + 1 → p < (flow_of plan inputs).sources (s + 1) → p < targets_of v.role.next
  target_there s p next l =
      let there : p < sources_of plan (s + 1) = subst (λ n. p < n) (sources_at plan inputs (s + 1)) l in
      let before : s + 1 - 1 ≡ v.role.stage + 1 = omega arith in
      subst (λ n. p < n) (targets_are plan v.role here) (subst (λ k. p < parts_of plan k) before there)

  ack_admitted : (from : NodeId) → HasNode (flow_of plan inputs) from → (edge named : EdgeId) (k upto : ℕ) → Carries (flow_of plan inputs) (link from (node_of v.role)) (Ack named upto)
      → edge ≡ named → k ≡ upto → upto < number_limit → IsAdmitted v from (body.Ack edge k)
  ack_admitted (node.Control s p) there edge named k upto h at_edge at small =
      let stage = ap (λ (z : EdgeId). z.stage) at_edge in
      let source = ap (λ (z : EdgeId). z.from) at_edge in
      let target = ap (λ (z : EdgeId). z.to) at_edge in
      let sender = h.0.0 in
      let taker = h.1.1 in
      let to : edge.to ≡ p = target ∙ h.0.1 in
      ((omega arith, to), (stage ∙ h.1.1, source ∙ h.1.2, subst (λ n. n < targets_of v.role.next) (sym to) (target_there s p (omega arith) there.1)), omega arith)
  ack_admitted node.Egress there edge named k upto h at_edge at small =
      let stage = ap (λ (z : EdgeId). z.stage) at_edge in
      let source = ap (λ (z : EdgeId). z.from) at_edge in
      let target = ap (λ (z : EdgeId). z.to) at_edge in
      let sender = h.0.0 in
      let taker = h.1.1 in
      let last = stages_are plan inputs in
      let none : v.role.next ≡ None = sym here.next ∙ slice_get_past plan.stages v.role.stage (omega arith) in
      let to : edge.to ≡ 0 = target ∙ h.0.1 in
      (none, (stage ∙ h.1.1, source ∙ h.1.2, subst (λ n. n < targets_of v.role.next) (sym to) (subst (λ z. 0 < targets_of z) (sym none) (omega arith))), omega arith)
  ack_admitted node.Ingress there edge named k upto h at_edge at small = absurd h.0
  ack_admitted (node.Replica s p w) there edge named k upto h at_edge at small = absurd h.0

  want_admitted : (from : NodeId) → HasNode (flow_of plan inputs) from → (edge named : EdgeId) (k number : ℕ) → Carries (flow_of plan inputs) (link from (node_of v.role)) (Want named number)
      → edge ≡ named → IsAdmitted v from (body.Want edge k)
  want_admitted (node.Replica s p w) there edge named k number h at_edge =
      let stage = ap (λ (z : EdgeId). z.stage) at_edge in
      let source = ap (λ (z : EdgeId). z.from) at_edge in
      let target = ap (λ (z : EdgeId). z.to) at_edge in
      let sender = h.0.0 in
      let taker = h.1.1 in
      let last = stages_are plan inputs in
      let most = there.0.1 in
      let more = get_of plan.stages v.role.stage (omega arith) in
      let next : v.role.next ≡ Some more.0 = sym here.next ∙ more.1 in
      let to : edge.to ≡ p = target ∙ h.0.1 in
      ((subst (λ z. IsSome z) (sym next) refl, omega arith, to), (stage ∙ h.1.1, source ∙ h.1.2, subst (λ n. n < targets_of v.role.next) (sym to) (target_there s p (omega arith) there.1)))
  want_admitted node.Ingress there edge named k number h at_edge = absurd h.0
  want_admitted (node.Control s p) there edge named k number h at_edge = absurd h.0
  want_admitted node.Egress there edge named k number h at_edge = absurd h.0

  is_controller : (from : NodeId) → IsUp (node_of v.role) from → IsController v.role from
  is_controller (node.Control s p) h = (sym h.0, sym h.1)
  is_controller node.Ingress h = absurd h
  is_controller (node.Replica s p w) h = absurd h
  is_controller node.Egress h = absurd h

  none_up : (from : NodeId) → IsUp from (node_of v.role) → ⊥
  none_up node.Ingress h = h
  none_up (node.Replica s p w) h = h
  none_up (node.Control s p) h = h
  none_up node.Egress h = h

  -- ---- parts of a move

  chunk_admitted : (from : NodeId) (b : ℕ) (k inc number : ℕ) (e : Entry) (m : MoveNumbers) → Carries (flow_of plan inputs) (link from (node_of v.role)) (Chunk inc number m)
      → BodyStands plan inputs (link from (node_of v.role)) (body.Chunk b k e) (Chunk inc number m) → EachOfNumbers (λ n. n < number_limit) m → IsAdmitted v from (body.Chunk b k e)
  chunk_admitted (node.Replica s p w) b k inc number e m h st small =
      let same : record { stage = s; part = p } ≡ partition_of v.role = λ i. record { stage = h.0 i; part = h.1 i } in (
        h,
        each_nth (IsEntryHere v.role) (move_list plan inputs (partition_of v.role) m) (entries_here plan inputs is times v.role here m small) number e
            (subst (λ z. nth_from_one (move_list plan inputs z m) number ≡ Some e) same st.2),
      )
  chunk_admitted node.Ingress b k inc number e m h st small = absurd h
  chunk_admitted (node.Control s p) b k inc number e m h st small = absurd h
  chunk_admitted node.Egress b k inc number e m h st small = absurd h

  end_admitted : (n : Node) → PhaseStands plan inputs (partition_of v.role) v.phase (replica_in n) → (from : NodeId) (i c inc count : ℕ) (m : MoveNumbers)
      → TakenAsks (flow_of plan inputs) (node_of v.role) n from (ChunkEnd inc count m) → i ≡ inc → c ≡ count → IsAdmitted v from (body.ChunkEnd i c)
  end_admitted n stands (node.Replica s p w) i c inc count m asks at many =
      let h = asks.carried in
      let same : record { stage = s; part = p } ≡ partition_of v.role = λ i. record { stage = h.0 i; part = h.1 i } in
      let bound : MoveBound (flow_of plan inputs) (partition_of v.role) m = subst (λ z. MoveBound (flow_of plan inputs) z m) same asks.bound in
      (h, end_whole plan inputs is times v.role here (of_stage plan inputs v.role here) m bound v.phase (replica_in n) stands i c inc count at many asks.same_move)
  end_admitted n stands node.Ingress i c inc count m asks at many = absurd asks.carried
  end_admitted n stands (node.Control s p) i c inc count m asks at many = absurd asks.carried
  end_admitted n stands node.Egress i c inc count m asks at many = absurd asks.carried

  to_replica : (n : Node) → PhaseStands plan inputs (partition_of v.role) v.phase (replica_in n) → (from : NodeId) (b : Body) (m : Message) → TakenAsks (flow_of plan inputs) (node_of v.role) n from m
      → BodyStands plan inputs (link from (node_of v.role)) b m → EachOfMessage (λ k. k < number_limit) m → IsAdmitted v from b
  to_replica n stands from (body.Tuple edge number i) (Tuple named at) asks st small = tuple_admitted from asks.sender edge named number at i asks.carried st.0 st.1 st.2 small
  to_replica n stands from (body.Ack edge k) (Ack named upto) asks st small = ack_admitted from asks.sender edge named k upto asks.carried st.0 st.1 small
  to_replica n stands from (body.Want edge k) (Want named number) asks st small = want_admitted from asks.sender edge named k number asks.carried st.0
  to_replica n stands from (body.Lead i t) (Lead inc term) asks st small = (is_controller from asks.carried, omega (arith, st.1, small.1))
  to_replica n stands from (body.Serve i t) (Serve inc target) asks st small = (is_controller from asks.carried, omega (arith, st.1, small.1))
  to_replica n stands from (body.Begin i) (Begin inc) asks st small = (is_controller from asks.carried, omega (arith, st, small))
  to_replica n stands from (body.Stop i) (Stop inc) asks st small = is_controller from asks.carried
  to_replica n stands from (body.Chunk i k e) (Chunk inc number m) asks st small = chunk_admitted from i k inc number e m asks.carried st small.2
  to_replica n stands from (body.ChunkEnd i c) (ChunkEnd inc count m) asks st small = end_admitted n stands from i c inc count m asks st.0 st.1
  to_replica n stands from (body.Report i edge k) (Report inc named upto) asks st small = absurd (none_up from asks.carried.0)
  to_replica n stands from (body.Down i) (Down inc) asks st small = absurd (none_up from asks.carried)
  to_replica n stands from (body.AskStop i) (AskStop inc) asks st small = absurd (none_up from asks.carried)
  to_replica n stands from body.AskBack AskBack asks st small = absurd (none_up from asks.carried)
  to_replica n stands from (body.Caught i) (Caught inc) asks st small = absurd (none_up from asks.carried)
  to_replica n stands from b m asks st small = absurd st

pub replica_admits : (plan : PlanView) (inputs : List Input) → IsPlan plan → AreTimely inputs → (v : ReplicaView) (from : NodeId) (b : Body) (s : State) (m : Message) → IsSound (flow_of plan inputs) s
    → StandsFor plan inputs v (s.nodes (node_of v.role)) → EachOfMessage (λ n. n < number_limit) m → Among m (s.sent (link from (node_of v.role)))
    → BodyStands plan inputs (link from (node_of v.role)) b m → IsTrue (has_link plan (link from (node_of v.role))) × IsAdmitted v from b
replica_admits plan inputs is times v from b s m sound stands small among st =
    let f = flow_of plan inputs in
    let l = link from (node_of v.role) in
    let ends = each_at (λ k. HasNode f l.from × HasNode f l.to) m (s.sent l) among (sound.ends l) in
    let asks = taken_asks f s (node_of v.role) from m ends.1 sound among in (
      links_named plan inputs l m ends.0 ends.1 asks.carried,
      to_replica plan inputs is times v stands.of_plan (s.nodes (node_of v.role)) stands.phase_stands from b m asks st small,
    )
