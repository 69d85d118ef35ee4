-- The next event of merged logs: that of a log which begins with the least clock, where the logs before it begin later.
use Rattle.std.proofs.Common.{◌≡◌, ◌∙◌, ◌<◌, ◌≤◌, ◌+◌, ℕ, Bool, true, false, List, [], ◌∷◌, ◌++◌, map, refl, sym, ap, arith}
use Rattle.std.specs.Prelude.{◌==◌, if◌then◌else◌, nat_lt}
use Rattle.std.specs.Ordering.{is_le}
use Rattle.std.specs.declared.cmp.Ordering.TheVariants.{Less}
use Rattle.std.proofs.lemmas.Bool.{le-ltb, lt-ltb, ltb-false}
use Rattle.tuple_edge.specs.Node.{node_cmp}
use Rattle.tuple_edge.specs.declared.event.Stamped.{Stamped}
use Rattle.tuple_edge.specs.declared.node.NodeId.{NodeId}
use Rattle.pair_machine.specs.Joint.{AreRising, Logged, comes_before, put_history, put_in}
use Rattle.pair_machine.specs.Lists.{Each}
use Rattle.pair_machine.proofs.Lists.{each_map}
use Rattle.pair_machine.proofs.Tests.{if_elim, nat_not, nat_self}
use Rattle.journal_writer.specs.Merged.{AllBeginFrom, BeginsFrom, Named, merged}

abbrev pub at_node : NodeId → Stamped → Logged
at_node n s = record { at = n; stamped = s }

-- ---- which of two comes first

earlier_first : (j k : Logged) → j.stamped.clock < k.stamped.clock → comes_before j k ≡ true
earlier_first j k less = ap (λ b. if b then true else if j.stamped.clock == k.stamped.clock then is_le (node_cmp j.at k.at) else false) (lt-ltb j.stamped.clock k.stamped.clock less)

later_last : (j k : Logged) → k.stamped.clock < j.stamped.clock → comes_before j k ≡ false
later_last j k less =
    ap (λ b. if b then true else if j.stamped.clock == k.stamped.clock then is_le (node_cmp j.at k.at) else false) (le-ltb j.stamped.clock k.stamped.clock (omega (arith, less)))
    ∙ ap (λ b. if b then is_le (node_cmp j.at k.at) else false) (nat_not j.stamped.clock k.stamped.clock (λ e. omega (arith, less, e)))

-- of no later clock and of an earlier node
no_later_first : (j k : Logged) → j.stamped.clock ≤ k.stamped.clock → node_cmp j.at k.at ≡ Less → comes_before j k ≡ true
no_later_first j k le less = go (nat_lt j.stamped.clock k.stamped.clock) (ltb-false j.stamped.clock k.stamped.clock)
  where
    go : (b : Bool) → (b ≡ false → k.stamped.clock ≤ j.stamped.clock) → (if b then true else if j.stamped.clock == k.stamped.clock then is_le (node_cmp j.at k.at) else false) ≡ true
    go true not = refl
    go false not =
        let back = not refl in
        let same : j.stamped.clock ≡ k.stamped.clock = omega (arith, le, back) in
        ap (λ c. if j.stamped.clock == c then is_le (node_cmp j.at k.at) else false) (sym same) ∙ ap (λ b. if b then is_le (node_cmp j.at k.at) else false) (nat_self j.stamped.clock) ∙ ap is_le less

-- ---- what is put in

each_put : (P : Logged → Type 0) (j : Logged) (log : List Logged) → P j → Each P log → Each P (put_in j log)
each_put P j [] one all = (one, tt)
each_put P j (k ∷ ks) one all = if_elim (Each P) (comes_before j k) (j ∷ k ∷ ks) (k ∷ put_in j ks) (λ e. (one, all)) (λ e. (all.0, each_put P j ks one all.1))

each_history : (P : Logged → Type 0) (n : NodeId) (hs : List Stamped) (log : List Logged) → Each (λ h. P (at_node n h)) hs → Each P log → Each P (put_history n hs log)
each_history P n [] log own others = others
each_history P n (h ∷ hs) log own others = each_put P (at_node n h) (put_history n hs log) own.0 (each_history P n hs log own.1 others)

each_merged : (P : Logged → Type 0) (logs : List Named) → Each (λ (l : Named). Each (λ h. P (at_node l.0 h)) l.1) logs → Each P (merged logs)
each_merged P [] all = tt
each_merged P (l ∷ logs) all = each_history P l.0 l.1 (merged logs) all.0 (each_merged P logs all.1)

put_first : (j : Logged) (log : List Logged) → Each (λ k. comes_before j k ≡ true) log → put_in j log ≡ j ∷ log
put_first j [] all = refl
put_first j (k ∷ ks) all = ap (λ b. if b then j ∷ k ∷ ks else k ∷ put_in j ks) all.0

history_behind : (x : Logged) (n : NodeId) (hs : List Stamped) (log : List Logged) → Each (λ h. comes_before (at_node n h) x ≡ false) hs → put_history n hs (x ∷ log) ≡ x ∷ put_history n hs log
history_behind x n [] log all = refl
history_behind x n (h ∷ hs) log all =
    ap (put_in (at_node n h)) (history_behind x n hs log all.1)
    ∙ ap (λ b. if b then at_node n h ∷ x ∷ put_history n hs log else x ∷ put_in (at_node n h) (put_history n hs log)) all.0

-- ---- from where on clocks are

all_from : (clock : ℕ) (hs : List Stamped) → BeginsFrom clock hs → AreRising hs → Each (λ (h : Stamped). clock ≤ h.clock) hs
all_from clock [] from rising = tt
all_from clock (h ∷ hs) from rising = (from, each_map (λ (k : Stamped). h.clock < k.clock) (λ (k : Stamped). clock ≤ k.clock) (λ k l. omega (arith, from, l)) hs rising.0)

-- a log whose node comes later, and which begins no earlier
behind : (n : NodeId) (s : Stamped) (l : Named) → BeginsFrom s.clock l.1 → AreRising l.1 → node_cmp n l.0 ≡ Less → Each (λ h. comes_before (at_node n s) (at_node l.0 h) ≡ true) l.1
behind n s l from rising less = each_map (λ (h : Stamped). s.clock ≤ h.clock) (λ (h : Stamped). comes_before (at_node n s) (at_node l.0 h) ≡ true)
    (λ h le. no_later_first (at_node n s) (at_node l.0 h) le less) l.1 (all_from s.clock l.1 from rising)

all_behind : (n : NodeId) (s : Stamped) (logs : List Named) → AllBeginFrom s.clock logs → Each (λ (l : Named). AreRising l.1) logs → Each (λ m. node_cmp n m ≡ Less) (map (λ (l : Named). l.0) logs)
    → Each (λ (l : Named). Each (λ h. comes_before (at_node n s) (at_node l.0 h) ≡ true) l.1) logs
all_behind n s [] from rising less = tt
all_behind n s (l ∷ logs) from rising less = (behind n s l from.0 rising.0 less.0, all_behind n s logs from.1 rising.1 less.1)

-- ---- the next event

first_is : (n : NodeId) (s : Stamped) (ss : List Stamped) (logs : List Named) → AreRising (s ∷ ss) → AllBeginFrom s.clock logs → Each (λ (l : Named). AreRising l.1) logs
    → Each (λ m. node_cmp n m ≡ Less) (map (λ (l : Named). l.0) logs) → merged ((n, s ∷ ss) ∷ logs) ≡ at_node n s ∷ merged ((n, ss) ∷ logs)
first_is n s ss logs own from rising less = put_first (at_node n s) (put_history n ss (merged logs))
    (each_history (λ k. comes_before (at_node n s) k ≡ true) n ss (merged logs)
    (each_map (λ (h : Stamped). s.clock < h.clock) (λ (h : Stamped). comes_before (at_node n s) (at_node n h) ≡ true) (λ h l. earlier_first (at_node n s) (at_node n h) l) ss own.0)
    (each_merged (λ k. comes_before (at_node n s) k ≡ true) logs (all_behind n s logs from rising less)))

-- the logs before it begin later
pub next_is : (past : List Named) (n : NodeId) (s : Stamped) (ss : List Stamped) (logs : List Named) → AllBeginFrom (s.clock + 1) past → Each (λ (l : Named). AreRising l.1) past
    → AreRising (s ∷ ss) → AllBeginFrom s.clock logs → Each (λ (l : Named). AreRising l.1) logs → Each (λ m. node_cmp n m ≡ Less) (map (λ (l : Named). l.0) logs)
    → merged (past ++ (n, s ∷ ss) ∷ logs) ≡ at_node n s ∷ merged (past ++ (n, ss) ∷ logs)
next_is [] n s ss logs later rises own from rising less = first_is n s ss logs own from rising less
next_is (d ∷ past) n s ss logs later rises own from rising less =
    ap (put_history d.0 d.1) (next_is past n s ss logs later.1 rises.1 own from rising less)
    ∙ history_behind (at_node n s) d.0 d.1 (merged (past ++ (n, ss) ∷ logs))
    (each_map (λ (h : Stamped). s.clock + 1 ≤ h.clock) (λ (h : Stamped). comes_before (at_node d.0 h) (at_node n s) ≡ false)
    (λ h le. later_last (at_node d.0 h) (at_node n s) (omega (arith, le))) d.1 (all_from (s.clock + 1) d.1 later.0 rises.0))
