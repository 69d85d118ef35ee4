-- Stations that open, and the core that they are.
use Rattle.std.proofs.Common.{◌≡◌, ◌∙◌, ◌<◌, ◌+◌, ◌⊎◌, inl, inr, ℕ, zero, suc, Bool, true, false, List, [], ◌∷◌, ◌++◌, Option, None, Some, length, slice_get, refl, sym, ap, subst, true≢false, arith, if◌then◌else◌}
use Rattle.std.specs.Option.{option_and_then, option_or}
use Rattle.std.proofs.lemmas.List.Elements.{All-weaker}
use Rattle.std.proofs.lemmas.Option.{slice_get_within}
use Rattle.tuple_edge.specs.Input.{Input, from_first}
use Rattle.tuple_edge.specs.declared.row.Row.{Row}
use Rattle.op_spec.specs.Times.{IsTime}
use Rattle.plan_reader.specs.Nodes.{sources_of}
use Rattle.plan_reader.specs.PlanView.{IsPlan, PlanView}
use Rattle.trade_text.specs.TradesView.{IsInputRow, IsTrades, TradesView, inputs_in, paired}
use Rattle.trade_text.proofs.Sources.{each_row, paired_first}
use Rattle.pair_machine.specs.Counts.{flow_of}
use Rattle.pair_machine.specs.Consumers.{first_below}
use Rattle.pair_machine.specs.Courses.{Pairwise}
use Rattle.pair_machine.specs.Lists.{Each}
use Rattle.pair_machine.proofs.Lists.{each_append}
use Rattle.trio_machine.specs.Flow.{IsTrioPlan, trio_flow}
use Rattle.trio_machine.specs.Links.{HasNode}
use Rattle.trio_machine.specs.Machine.{new_node, opening}
use Rattle.trio_machine.specs.Numbers.{is_node}
use Rattle.trio_machine.specs.declared.node.TrioNode.{TrioNode}
use Rattle.trio_machine.specs.declared.node.TrioNode.TheVariants as node
use Rattle.trio_machine.proofs.Names.{node_self}
use Rattle.pair_machine.specs.Flow.{Flow}
use Rattle.trio_nodes.specs.Contents.{BodyStands}
use Rattle.trio_nodes.specs.ControllerPackets as control
use Rattle.trio_nodes.specs.ControllerView as control_view
use Rattle.trio_nodes.specs.ControllerView.{ControllerView}
use Rattle.trio_core.specs.CoreView.{CoreView, StationView, core_of, found, inputs_at, inputs_in as inputs_of_node, inputs_of, is_at, name_of, place_of}
use Rattle.trio_core.specs.Ends.{egress_in}
use Rattle.trio_core.specs.Opening.{AreOpen, HasAll, HasGroup, HasStation, HaveMore, IsOpen, new_station}
use Rattle.trio_core.specs.Promises.{emitted_by, rows_of}
use Rattle.trio_core.specs.Sent.{bodies_to}
use Rattle.trio_core.specs.Stands.{AreTimely, IsCore, IsThere, MemberStands, StandsFor}
use Rattle.trio_core.specs.declared.member.Member.{Member}
use Rattle.trio_core.specs.declared.member.Member.TheVariants as member
use Rattle.trio_core.proofs.Contents.{name_in, stands_in}
use Rattle.trio_core.proofs.OpenPlan.{pair_named}
use Rattle.trio_core.proofs.Placing.{found_is, stands_at}

-- ---- one station more

get_before : {X : Type 0} (xs : List X) (y : X) (k : ℕ) (x : X) → slice_get xs k ≡ Some x → slice_get (xs ++ y ∷ []) k ≡ Some x
get_before [] y k x e = let z : ⊥ = cc e in absurd z
get_before (z ∷ xs) y zero x e = e
get_before (z ∷ xs) y (suc k) x e = get_before xs y k x e

get_last : {X : Type 0} (xs : List X) (y : X) → slice_get (xs ++ y ∷ []) (length xs) ≡ Some y
get_last [] y = refl
get_last (z ∷ xs) y = get_last xs y

-- a node in its numbers at the start, as a station that has sent nothing
pub opens_as : (plan : PlanView) (inputs : List Input) (m : Member) → MemberStands plan inputs m (new_node (name_of m)) → IsOpen plan inputs (new_station (name_of m) m)
opens_as plan inputs m h = record { name = name_in m; member = stands_in plan inputs m (new_node (name_of m)) h; sent = refl }

-- Such a station joined others, under its own name, whatever the inputs are.
pub record Joins (plan : PlanView) (n : TrioNode) (before after : List StationView) : Type 0 where
  pub more : HaveMore plan before after
  pub there : HasStation n after

pub joins : (plan : PlanView) (n name : TrioNode) (m : Member) (xs ys : List StationView) → ys ≡ xs ++ new_station name m ∷ [] → name ≡ name_of m → name_of m ≡ n
    → ((inputs : List Input) → MemberStands plan inputs m (new_node (name_of m))) → Joins plan n xs ys
joins plan n name m xs ys list named is stands =
    let at : StationView = new_station (name_of m) m in
    let same : ys ≡ xs ++ at ∷ [] = list ∙ ap (λ k. xs ++ new_station k m ∷ []) named in
    subst (λ zs. Joins plan n xs zs) (sym same) (record {
      more = record {
        opens = λ inputs h. each_append (IsOpen plan inputs) xs (at ∷ []) h (opens_as plan inputs m (stands inputs), tt);
        stays = λ k h. record { place = h.place; at = h.at; there = get_before xs at h.place h.at h.there; name = h.name };
      };
      there = record { place = length xs; at = at; there = get_last xs at; name = is };
    })

-- the first station of all
pub first_opens : (plan : PlanView) (inputs : List Input) (name : TrioNode) (m : Member) (xs ys : List StationView) → ys ≡ xs ++ new_station name m ∷ [] → xs ≡ [] → name ≡ name_of m
    → MemberStands plan inputs m (new_node (name_of m)) → AreOpen plan inputs ys
first_opens plan inputs name m xs ys list none named stands =
    let whole : ys ≡ new_station (name_of m) m ∷ [] = list ∙ (ap (λ l. l ++ new_station name m ∷ []) none ∙ ap (λ k. new_station k m ∷ []) named) in
    subst (AreOpen plan inputs) (sym whole) (opens_as plan inputs m stands, tt)

pub has_last : (n : TrioNode) (xs ys : List StationView) (y : StationView) → ys ≡ xs ++ y ∷ [] → y.name ≡ n → HasStation n ys
has_last n xs ys y list name = subst (HasStation n) (sym list) (record { place = length xs; at = y; there = get_last xs y; name = name })

pub none_more : (plan : PlanView) (xs : List StationView) → HaveMore plan xs xs
none_more plan xs = record { opens = λ inputs h. h; stays = λ n h. h }

pub more_again : (plan : PlanView) (xs ys zs : List StationView) → HaveMore plan xs ys → HaveMore plan ys zs → HaveMore plan xs zs
more_again plan xs ys zs a b = record { opens = λ inputs h. b.opens inputs (a.opens inputs h); stays = λ n h. b.stays n (a.stays n h) }

pub group_stays : (plan : PlanView) (xs ys : List StationView) (s p : ℕ) → HaveMore plan xs ys → HasGroup xs s p → HasGroup ys s p
group_stays plan xs ys s p more h = record {
  replica = λ c l. more.stays (node.Replica s p c) (h.replica c l);
  control = more.stays (node.Control s p) h.control;
}

-- ---- what is there of the numbers below another

below_or : (q n : ℕ) → q < suc n → (q < n) ⊎ (q ≡ n)
below_or zero zero h = inr refl
below_or zero (suc n) h = inl (omega arith)
below_or (suc q) zero h = absurd (omega arith)
below_or (suc q) (suc n) h = elim (below_or q n (omega arith)) [ inl l ↦ inl (omega arith) | inr e ↦ inr (ap suc e) ]

-- what holds of all below a number and of the number holds of all below the next
pub one_more : (P : ℕ → Type 0) (n : ℕ) → ((k : ℕ) → k < n → P k) → P n → (k : ℕ) → k < n + 1 → P k
one_more P n below at k l = elim (below_or k n (omega (arith, l))) [ inl less ↦ below k less | inr same ↦ subst P (sym same) at ]

-- ---- all stations of a plan

-- where none is found, no place has the name
none_below : (n : ℕ) (test : ℕ → Bool) → first_below test n ≡ None → (k : ℕ) → k < n → test k ≡ false
none_below zero test e k l = absurd (omega (arith, l))
none_below (suc n) test e k l = go (λ none less. none_below n test none k less) (below_or k n l) (first_below test n) refl (test n) refl e
  where
    by : (first_below test n ≡ None → k < n → test k ≡ false) → (k < n) ⊎ (k ≡ n) → first_below test n ≡ None → test n ≡ false → test k ≡ false
    by earlier (inl less) none last = earlier none less
    by earlier (inr same) none last = ap test same ∙ last

    go : (first_below test n ≡ None → k < n → test k ≡ false) → (k < n) ⊎ (k ≡ n) → (o : Option ℕ) → first_below test n ≡ o → (b : Bool) → test n ≡ b → option_or o (if b then Some n else None) ≡ None
        → test k ≡ false
    go earlier below None q false r z = by earlier below q r
    go earlier below None q true r z = let w : ⊥ = cc z in absurd w
    go earlier below (Some j) q b r z = let w : ⊥ = cc z in absurd w

each_there : {X : Type 0} (P : X → Type 0) (xs : List X) (k : ℕ) (x : X) → slice_get xs k ≡ Some x → Each P xs → P x
each_there P [] k x e h = let z : ⊥ = cc e in absurd z
each_there P (y ∷ xs) zero x e h = let same : y ≡ x = cc e in subst P same h.0
each_there P (y ∷ xs) (suc k) x e h = each_there P xs k x e h.1

opened_at : (plan : PlanView) (inputs : List Input) (xs : List StationView) → AreOpen plan inputs xs → (n : TrioNode) → HasStation n xs → IsThere plan inputs n (found n xs) opening
opened_at plan inputs xs all n has = go (place_of n xs) refl
  where
    go : (o : Option ℕ) → place_of n xs ≡ o → IsThere plan inputs n (found n xs) opening
    go None q =
        let no : is_at n (slice_get xs has.place) ≡ false = none_below (length xs) (λ k. is_at n (slice_get xs k)) q has.place (slice_get_within xs has.place has.at has.there) in
        let yes : is_at n (slice_get xs has.place) ≡ true = ap (is_at n) has.there ∙ (ap (λ k. is_node k n) has.name ∙ node_self n) in
        absurd (true≢false (sym yes ∙ no))
    go (Some i) q =
        let z = stands_at n xs i q in
        let o = each_there (IsOpen plan inputs) xs i z.at z.there all in
        subst (λ k. IsThere plan inputs n k opening) (sym (found_is n xs i q ∙ z.there)) (record {
          name = o.name ∙ z.name;
          member = subst (λ k. MemberStands plan inputs z.at.member (new_node k)) z.name o.member;
          sent = λ to. subst (λ l. Pairwise (BodyStands plan inputs) (bodies_to to l) []) (sym o.sent) tt;
        })

-- the inputs of a core that opens are those of its ingress
inputs_is : (plan : PlanView) (inputs : List Input) (o : Option StationView) → IsThere plan inputs node.Ingress o opening → inputs_at o ≡ inputs
inputs_is plan inputs None h = absurd h
inputs_is plan inputs (Some at) h = go at.member h.name h.member
  where
    go : (m : Member) → name_of m ≡ node.Ingress → MemberStands plan inputs m (opening.nodes node.Ingress) → inputs_of_node m ≡ inputs
    go (member.Ingress i) name h = h.inputs_are
    go (member.Replica r) name h = let z : ⊥ = cc name in absurd z
    go (member.Control c) name h = let z : ⊥ = cc name in absurd z
    go (member.Egress e) name h = let z : ⊥ = cc name in absurd z

-- egress has emitted nothing
pub no_rows : (core : CoreView) → StandsFor core opening → emitted_by core ≡ []
no_rows core stands = of_station (found node.Egress core.stations) (stands node.Egress tt)
  where
    of_member : (m : Member) → MemberStands core.plan (inputs_of core) m (opening.nodes node.Egress) → rows_of (egress_in m) ≡ []
    of_member (member.Ingress i) h = refl
    of_member (member.Replica r) h = refl
    of_member (member.Control c) h = refl
    of_member (member.Egress e) h = h.emitted

    of_station : (o : Option StationView) → IsThere core.plan (inputs_of core) node.Egress o opening → rows_of (option_and_then (λ (at : StationView). egress_in at.member) o) ≡ []
    of_station None h = absurd h
    of_station (Some at) h = of_member at.member h.member

-- ---- every node of a plan is there where ingress, egress and all groups are

module _ (plan : PlanView) (inputs : List Input) where
  all_nodes : (xs : List StationView) → HasAll plan xs → (n : TrioNode) → HasNode (trio_flow plan inputs) n → HasStation n xs
  all_nodes xs all node.Ingress has = all.ingress
  all_nodes xs all (node.Replica s p c) has = (all.groups s p (pair_named plan inputs s p has.0)).replica c has.1
  all_nodes xs all (node.Control s p) has = (all.groups s p (pair_named plan inputs s p has)).control
  all_nodes xs all node.Egress has = all.egress

-- ---- the core of them

-- a core whose stations are all open, and all there, stands for the opening
pub record Opens (core : CoreView) (inputs : List Input) : Type 0 where
  pub is : IsCore core
  pub stands : StandsFor core opening
  pub inputs_are : inputs_of core ≡ inputs

opens : (plan : PlanView) (inputs : List Input) (xs : List StationView) → IsTrioPlan plan → AreTimely inputs → AreOpen plan inputs xs → HasAll plan xs → Opens (core_of plan xs) inputs
opens plan inputs xs is times all there =
    let at : (n : TrioNode) → HasNode (trio_flow plan inputs) n → IsThere plan inputs n (found n xs) opening = λ n has. opened_at plan inputs xs all n (all_nodes plan inputs xs there n has) in
    let same : inputs_of (core_of plan xs) ≡ inputs = inputs_is plan inputs (found node.Ingress xs) (at node.Ingress tt) in
    let stands : StandsFor (core_of plan xs) opening = subst (λ I. (n : TrioNode) → HasNode (trio_flow plan I) n → IsThere plan I n (found n xs) opening) (sym same) at in
    record {
      is = record { plan = is; times = subst AreTimely (sym same) times; events = []; state = opening; legal = record { there = tt; leads = refl }; stands = stands };
      stands = stands;
      inputs_are = same;
    }

-- trades with which nothing was merged all come from the first source
unmerged_inputs : (trades : TradesView) → IsTrades trades → trades.merged ≡ false → from_first trades.rows ≡ inputs_in trades
unmerged_inputs trades limits unmerged = sym (ap (paired trades.rows) (limits.unmerged unmerged) ∙ paired_first trades.rows)

-- the times of trades are within their limits
timely_row : (r : Row) → IsInputRow r → IsTime r.time
timely_row r h = (h.time.low, h.time.high)

timely_inputs : (trades : TradesView) → IsTrades trades → AreTimely (inputs_in trades)
timely_inputs trades limits = each_row (λ r. IsTime r.time) trades.rows trades.sources (All-weaker IsInputRow (λ r. IsTime r.time) timely_row trades.rows limits.rows)

-- the core of a plan's copy, over the inputs of trades alone
pub core_opens : (copy plan : PlanView) (rows : List Row) (trades : TradesView) (xs : List StationView) → copy ≡ plan → IsPlan plan → plan.version ≡ 1 → rows ≡ trades.rows → IsTrades trades → trades.merged ≡ false
    → AreOpen plan (from_first rows) xs → HasAll plan xs → Opens (core_of copy xs) (inputs_in trades)
core_opens copy plan rows trades xs same within version of_trades limits unmerged all there =
    let is : IsTrioPlan plan = record { within = within; one_source = version } in
    let inputs : from_first rows ≡ inputs_in trades = ap from_first of_trades ∙ unmerged_inputs trades limits unmerged in
    let here : Opens (core_of plan xs) (inputs_in trades) = opens plan (inputs_in trades) xs is (timely_inputs trades limits) (subst (λ I. AreOpen plan I xs) inputs all) there in
    subst (λ P. Opens (core_of P xs) (inputs_in trades)) (sym same) here

-- a new controller stands for its numbers at the start, in each flow of the plan
pub control_opens : (plan : PlanView) (stage edges : ℕ) (c : ControllerView) → edges ≡ sources_of plan stage → ((f : Flow) → edges ≡ f.sources stage → control.StandsFor f c (new_node (control_view.node_of c)))
    → (inputs : List Input) → MemberStands plan inputs (member.Control c) (new_node (control_view.node_of c))
unfolding flow_of
control_opens plan stage edges c same stands inputs = stands (trio_flow plan inputs) same
