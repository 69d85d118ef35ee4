-- Entries that are sorted stably by clock and node are the log of their histories.
use Rattle.std.proofs.Common.{◌≡◌, ℕ, Bool, true, false, not, List, [], ◌∷◌, ◌++◌, map, refl, sym, ap, ◌∙◌, inl, inr}
use Rattle.std.specs.Prelude.{◌==◌, cond, if◌then◌else◌, nat_lt, IsSortedByKey}
use Rattle.std.specs.Cmp.{IsStrictWeakOrder, IsTotalOrder}
use Rattle.std.specs.declared.cmp.Ordering.{Ordering}
use Rattle.std.specs.declared.cmp.Ordering.TheVariants.{Less, Equal, Greater}
use Rattle.std.specs.List.{flat_map}
use Rattle.std.specs.List.Sorted.{IsStableByKey}
use Rattle.std.specs.Ordering.{is_le, is_lt, nat_cmp, ordering_reverse, ordering_then}
use Rattle.std.proofs.lemmas.Bool.{true≢false}
use Rattle.std.proofs.lemmas.List.{map-append}
use Rattle.std.proofs.lemmas.Cmp.{nat_cmp_total, on_total, then_total}
use Rattle.std.proofs.lemmas.List.Sorted.{ranks_by}
use Rattle.tuple_edge.specs.Node.{node_cmp}
use Rattle.tuple_edge.specs.NodeOrder.{node_total}
use Rattle.tuple_edge.specs.declared.event.History.{History}
use Rattle.tuple_edge.specs.declared.event.Stamped.{Stamped}
use Rattle.tuple_edge.specs.declared.node.NodeId.{NodeId}
use Rattle.trade_text.specs.Inputs.{in_order_by, put_by}
use Rattle.trade_text.proofs.Ordered.{in_order_by-map, sorted_is}
use Rattle.pair_machine.specs.Joint.{AreDistinct, AreRising, IsLog, Logged, comes_before, log_by_clocks, logged_events, put_history, put_in}
use Rattle.pair_machine.specs.Lists.{Among, Each}
use Rattle.pair_machine.specs.Numbers.{is_node}
use Rattle.pair_machine.proofs.Logs.{logs_there}
use Rattle.pair_machine.proofs.Names.{is_node-true, node_self}
use Rattle.run_journal.specs.Entries.{entries_of, logged}
use Rattle.run_journal.specs.Logs.{AreMergeable, history_of, log_of_histories, nodes_of}
use Rattle.run_journal.specs.declared.histories.Placed.{Placed}

-- ---- the order of entries

abbrev pub Key : Type 0
Key = ℕ × NodeId

abbrev pub key_cmp : Key → Key → Ordering
key_cmp x y = ordering_then (nat_cmp x.0 y.0) (node_cmp x.1 y.1)

key_total : IsTotalOrder key_cmp
key_total = then_total (on_total (λ (t : Key). t.0) nat_cmp_total) (on_total (λ (t : Key). t.1) node_total)

abbrev pub is_before : Logged → Logged → Bool
is_before j k = is_lt (key_cmp (j.stamped.clock, j.at) (k.stamped.clock, k.at))

le_not_lt : (r s : Ordering) → r ≡ ordering_reverse s → is_le r ≡ not (is_lt s)
le_not_lt r Less e = ap is_le e
le_not_lt r Equal e = ap is_le e
le_not_lt r Greater e = ap is_le e

by_key : (less same : Bool) (o : Ordering) → (if less then true else if same then is_le o else false) ≡ is_le (ordering_then (cond less Less (cond same Equal Greater)) o)
by_key true same o = refl
by_key false true o = refl
by_key false false o = refl

comes_where : (j k : Logged) → comes_before j k ≡ not (is_before k j)
comes_where j k =
    by_key (nat_lt j.stamped.clock k.stamped.clock) (j.stamped.clock == k.stamped.clock) (node_cmp j.at k.at)
    ∙ le_not_lt (key_cmp (j.stamped.clock, j.at) (k.stamped.clock, k.at)) (key_cmp (k.stamped.clock, k.at) (j.stamped.clock, j.at))
    (key_total.antisymm (j.stamped.clock, j.at) (k.stamped.clock, k.at))

-- ---- a log is made by insertion

put_is : (j : Logged) (log : List Logged) → put_in j log ≡ put_by is_before j log
put_is j [] = refl
put_is j (k ∷ ks) = go (comes_before j k) (is_before k j) (comes_where j k) (put_is j ks)
  where
    go : (a b : Bool) → a ≡ not b → put_in j ks ≡ put_by is_before j ks → (if a then j ∷ k ∷ ks else k ∷ put_in j ks) ≡ (if b then k ∷ put_by is_before j ks else j ∷ k ∷ ks)
    go true true e rest = absurd (true≢false e)
    go true false e rest = refl
    go false true e rest = ap (λ ls. k ∷ ls) rest
    go false false e rest = absurd (true≢false (sym e))

abbrev placed : NodeId → List Stamped → List Logged
placed n hs = map (λ s. record { at = n; stamped = s }) hs

put_all : (n : NodeId) (hs : List Stamped) (xs log : List Logged) → log ≡ in_order_by is_before xs → put_history n hs log ≡ in_order_by is_before (placed n hs ++ xs)
put_all n [] xs log e = e
put_all n (h ∷ hs) xs log e = put_is (record { at = n; stamped = h }) (put_history n hs log) ∙ ap (put_by is_before (record { at = n; stamped = h })) (put_all n hs xs log e)

placed_is : (h : History) (ss : List Stamped) → map logged (map (λ s. record { node = h.node; stamped = s }) ss) ≡ placed h.node ss
placed_is h [] = refl
placed_is h (s ∷ ss) = ap (λ ls. record { at = h.node; stamped = s } ∷ ls) (placed_is h ss)

log_is : (history : NodeId → List Stamped) (hs : List History) → Each (λ h. history h.node ≡ h.entries.items) hs
    → log_by_clocks history (nodes_of hs) ≡ in_order_by is_before (map logged (flat_map entries_of hs))
log_is history [] all = refl
log_is history (h ∷ hs) all =
    ap (λ ss. put_history h.node ss (log_by_clocks history (nodes_of hs))) all.0
    ∙ put_all h.node h.entries.items (map logged (flat_map entries_of hs)) (log_by_clocks history (nodes_of hs)) (log_is history hs all.1)
    ∙ ap (in_order_by is_before) (ap (λ ls. ls ++ map logged (flat_map entries_of hs)) (sym (placed_is h h.entries.items)) ∙ sym (map-append logged (entries_of h) (flat_map entries_of hs)))

-- ---- histories of nodes that differ

skip : (h : History) (all : List History) (n : NodeId) → (h.node ≡ n → ⊥) → history_of (h ∷ all) n ≡ history_of all n
skip h all n other = go (is_node h.node n) refl
  where
    go : (b : Bool) → is_node h.node n ≡ b → (if b then h.entries.items else history_of all n) ≡ history_of all n
    go true e = absurd (other (is_node-true h.node n e))
    go false e = refl

later : (h : History) (all hs : List History) → (Among h.node (nodes_of hs) → ⊥) → Each (λ k. history_of all k.node ≡ k.entries.items) hs → Each (λ k. history_of (h ∷ all) k.node ≡ k.entries.items) hs
later h all [] never old = tt
later h all (k ∷ hs) never old = (skip h all k.node (λ e. never (inl e)) ∙ old.0, later h all hs (λ a. never (inr a)) old.1)

each_found : (hs : List History) → AreDistinct (nodes_of hs) → Each (λ h. history_of hs h.node ≡ h.entries.items) hs
each_found [] distinct = tt
each_found (h ∷ hs) distinct = (
  ap (λ b. if b then h.entries.items else history_of hs h.node) (node_self h.node),
  later h hs hs distinct.0 (each_found hs distinct.1),
)

all_rise : (hs : List History) → Each (λ h. AreRising h.entries.items) hs → (n : NodeId) → AreRising (history_of hs n)
all_rise [] rising n = tt
all_rise (h ∷ hs) rising n = go (is_node h.node n) (all_rise hs rising.1 n)
  where
    go : (b : Bool) → AreRising (history_of hs n) → AreRising (if b then h.entries.items else history_of hs n)
    go true others = rising.0
    go false others = others

none_else : (hs : List History) (n : NodeId) → (Among n (nodes_of hs) → ⊥) → history_of hs n ≡ []
none_else [] n never = refl
none_else (h ∷ hs) n never = skip h hs n (λ e. never (inl (sym e))) ∙ none_else hs n (λ a. never (inr a))

-- the log of histories is one: in the order of clocks, with each history whole
pub is_log : (hs : List History) → AreMergeable hs → IsLog (history_of hs) (log_of_histories hs)
is_log hs m = logs_there (nodes_of hs) (history_of hs) (record { distinct = m.distinct; rising = all_rise hs m.rising; others = none_else hs })

-- ---- sorted entries

-- what the stable sort by clock and node gives of the entries of all histories
pub sorted_log : (hs : List History) (given ordered : List Placed) → AreMergeable hs → given ≡ flat_map entries_of hs
    → IsSortedByKey (λ (x : Placed). (x.stamped.clock, x.node)) key_cmp ordered → IsStableByKey (λ (x : Placed). (x.stamped.clock, x.node)) key_cmp given ordered
    → map logged ordered ≡ log_of_histories hs
sorted_log hs given ordered m is sorted stable =
    let by : IsStrictWeakOrder (λ (a b : Placed). is_before (logged a) (logged b)) = ranks_by key_total (λ (x : Placed). (x.stamped.clock, x.node)) in
    ap (map logged) (sorted_is (λ (a b : Placed). is_before (logged a) (logged b)) by given ordered sorted stable)
    ∙ in_order_by-map logged is_before given
    ∙ ap (λ xs. in_order_by is_before (map logged xs)) is
    ∙ sym (log_is (history_of hs) hs (each_found hs m.distinct))

events_are : (entries : List Placed) → map (λ (e : Placed). e.stamped.event) entries ≡ logged_events (map logged entries)
events_are [] = refl
events_are (e ∷ entries) = ap (λ es. e.stamped.event ∷ es) (events_are entries)

-- the events of sorted entries
pub events_of_sorted : (hs : List History) (entries : List Placed) → map logged entries ≡ log_of_histories hs → map (λ (e : Placed). e.stamped.event) entries ≡ logged_events (log_of_histories hs)
events_of_sorted hs entries is = events_are entries ∙ ap logged_events is
