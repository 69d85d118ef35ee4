-- A mover has as many chunks as the machine's move: its list has the move's size, and the end is one more.
use Rattle.std.proofs.Common.{◌≡◌, ◌∙◌, ◌<◌, ◌≤◌, ◌+◌, ◌-◌, ◌⊎◌, inl, inr, ℕ, zero, suc, List, [], ◌∷◌, ◌++◌, Option, None, Some, append_assoc, length, refl, sym, ap, unwrap_or, arith}
use Rattle.std.proofs.lemmas.Bool.{cases_lt}
use Rattle.std.proofs.lemmas.List.{append_cancel_left, length-append}
use Rattle.tuple_edge.specs.Entries.{each_below, numbered}
use Rattle.tuple_edge.specs.Input.{Input}
use Rattle.tuple_edge.specs.declared.packet.Entry.{Entry}
use Rattle.tuple_edge.specs.declared.packet.Entry.TheVariants as entry
use Rattle.plan_reader.specs.Nodes.{parts_of, sources_of}
use Rattle.plan_reader.specs.PlanView.{IsPlan, PlanView}
use Rattle.pair_machine.specs.Contents.{kept, move_list, waiting}
use Rattle.pair_machine.specs.CountLaws.{IsOfStage}
use Rattle.pair_machine.specs.Counts.{entries_after, flow_of, made_on, used_of}
use Rattle.pair_machine.specs.Lengths.{MoveBound}
use Rattle.pair_machine.specs.Numbers.{Move, MoveNumbers, Partition, out_edge}
use Rattle.pair_machine.specs.Replicas.{size, sum_below}
use Rattle.pair_machine.proofs.MoveSize.{have_their_size}
use Rattle.replica_node.specs.IsReplica.{IsMoving}
use Rattle.replica_node.specs.StandsFor.{MoverStands}
use Rattle.state_mover.specs.MoverView.{MoverView, total_of}

-- ---- lists that begin with one entry for each number

first_or : {X : Type 0} → X → List X → X
first_or d [] = d
first_or d (x ∷ xs) = x

without_first : {X : Type 0} → List X → List X
without_first [] = []
without_first (x ∷ xs) = xs

record SameFront (n : ℕ) (f g : ℕ → Entry) (xs ys : List Entry) : Type 0 where
  front : (q : ℕ) → q < n → f q ≡ g q
  after : xs ≡ ys

same_front : (n : ℕ) (f g : ℕ → Entry) (xs ys : List Entry) → each_below n (λ q. f q ∷ []) ++ xs ≡ each_below n (λ q. g q ∷ []) ++ ys → SameFront n f g xs ys
unfolding first_or without_first
same_front zero f g xs ys e = record { front = λ q l. absurd (omega (arith, l)); after = e }
same_front (suc n) f g xs ys e =
    let fs = each_below n (λ q. f q ∷ []) in
    let gs = each_below n (λ q. g q ∷ []) in
    let h = same_front n f g (f n ∷ xs) (g n ∷ ys) (sym (append_assoc fs (f n ∷ []) xs) ∙ e ∙ append_assoc gs (g n ∷ []) ys) in
    let last : f n ≡ g n = ap (first_or (f n)) h.after in
    record {
      front = λ q l. at last h.front q l (cases_lt q n);
      after = ap without_first h.after;
    }
  where
    at : f n ≡ g n → ((q : ℕ) → q < n → f q ≡ g q) → (q : ℕ) → q < suc n → (q < n) ⊎ (n ≤ q) → f q ≡ g q
    at last before q l (inl h) = before q h
    at last before q l (inr h) = let e : q ≡ n = omega (arith, l, h) in ap f e ∙ last ∙ sym (ap g e)

entries_same : (n : ℕ) (f g : ℕ → List Entry) → ((q : ℕ) → q < n → f q ≡ g q) → each_below n f ≡ each_below n g
entries_same zero f g h = refl
entries_same (suc n) f g h = λ j. entries_same n f g (λ q l. h q (omega (arith, l))) j ++ h n (omega arith) j

sums_same : (n : ℕ) (f g : ℕ → ℕ) → ((q : ℕ) → q < n → f q ≡ g q) → sum_below n f ≡ sum_below n g
sums_same zero f g h = refl
sums_same (suc n) f g h = λ j. sums_same n f g (λ q l. h q (omega (arith, l))) j + h n (omega arith) j

regrouped : {X : Type 0} (a b c d e f : List X) → a ++ b ++ c ++ d ++ e ++ f ≡ a ++ (b ++ (c ++ (d ++ (e ++ f))))
regrouped a b c d e f = append_assoc (a ++ b ++ c ++ d) e f ∙ append_assoc (a ++ b ++ c) d (e ++ f) ∙ append_assoc (a ++ b) c (d ++ (e ++ f)) ∙ append_assoc a b (c ++ (d ++ (e ++ f)))

-- ---- the numbers that a list tells

mark_in : Entry → ℕ
mark_in (entry.Mark q upto) = upto
mark_in (entry.Count count) = 0
mark_in (entry.Head q number i) = 0
mark_in (entry.Low t low produced) = 0
mark_in (entry.Kept t number i) = 0
mark_in (entry.Keyed k slot a b c) = 0

count_in : Entry → ℕ
count_in (entry.Mark q upto) = 0
count_in (entry.Count count) = count
count_in (entry.Head q number i) = 0
count_in (entry.Low t low produced) = 0
count_in (entry.Kept t number i) = 0
count_in (entry.Keyed k slot a b c) = 0

low_in : Entry → ℕ
low_in (entry.Mark q upto) = 0
low_in (entry.Count count) = 0
low_in (entry.Head q number i) = 0
low_in (entry.Low t low produced) = low
low_in (entry.Kept t number i) = 0
low_in (entry.Keyed k slot a b c) = 0

module _ (plan : PlanView) (inputs : List Input) (p : Partition) where
  waits : MoveNumbers → ℕ → List Entry
  waits m q = numbered (λ n x. entry.Head q n x) (used_of plan inputs p q m.count) (waiting plan inputs p m.count q (m.marks q))

  low_at : MoveNumbers → ℕ → Entry
  low_at m t = entry.Low t (m.lows t) (made_on plan inputs (out_edge p t) m.count)

  kept_on : MoveNumbers → List Entry
  kept_on m = each_below (parts_of plan (p.stage + 1)) (λ t. numbered (λ n x. entry.Kept t n x) (m.lows t) (kept plan inputs p m.count t (m.lows t)))

  keeps : MoveNumbers → List Entry
  keeps m = kept_on m ++ entries_after plan inputs p m.count

  lows_on : MoveNumbers → List Entry
  lows_on m = each_below (parts_of plan (p.stage + 1)) (λ t. low_at m t ∷ []) ++ keeps m

  marks_on : MoveNumbers → List Entry
  marks_on m = each_below (sources_of plan p.stage) (λ q. entry.Mark q (m.marks q) ∷ [])

  after_marks : MoveNumbers → List Entry
  after_marks m = entry.Count m.count ∷ (each_below (sources_of plan p.stage) (waits m) ++ lows_on m)

  list_is : (m : MoveNumbers) → move_list plan inputs p m ≡ marks_on m ++ after_marks m
  unfolding waits low_at kept_on keeps lows_on marks_on after_marks
  list_is m =
      regrouped (marks_on m) (entry.Count m.count ∷ []) (each_below (sources_of plan p.stage) (waits m)) (each_below (parts_of plan (p.stage + 1)) (λ t. low_at m t ∷ [])) (kept_on m)
      (entries_after plan inputs p m.count)

  -- moves of one list have one size
  same_size : (m n : MoveNumbers) → move_list plan inputs p m ≡ move_list plan inputs p n → size (flow_of plan inputs) p m ≡ size (flow_of plan inputs) p n
  unfolding flow_of waits low_at keeps lows_on marks_on after_marks mark_in count_in low_in first_or without_first
  same_size m n e =
      let sources = sources_of plan p.stage in
      let targets = parts_of plan (p.stage + 1) in
      let marks_front = same_front sources (λ q. entry.Mark q (m.marks q)) (λ q. entry.Mark q (n.marks q)) (after_marks m) (after_marks n) (sym (list_is m) ∙ e ∙ list_is n) in
      let marks : (q : ℕ) → q < sources → m.marks q ≡ n.marks q = λ q l. ap mark_in (marks_front.front q l) in
      let count : m.count ≡ n.count = ap (λ es. count_in (first_or (entry.Count 0) es)) marks_front.after in
      let waits_same : each_below sources (waits m) ≡ each_below sources (waits n) =
      entries_same sources (waits m) (waits n)
      (λ q l. λ j. numbered (λ n x. entry.Head q n x) (used_of plan inputs p q (count j)) (waiting plan inputs p (count j) q (marks q l j))) in
      let lows_front = same_front targets (low_at m) (low_at n) (keeps m) (keeps n)
      (append_cancel_left (each_below sources (waits m)) (lows_on m) (lows_on n) (ap without_first marks_front.after ∙ ap (λ w. w ++ lows_on n) (sym waits_same))) in
      let lows : (t : ℕ) → t < targets → m.lows t ≡ n.lows t = λ t l. ap low_in (lows_front.front t l) in
      let waiting_sum = sums_same sources (λ q. m.marks q - used_of plan inputs p q m.count) (λ q. n.marks q - used_of plan inputs p q n.count) (λ q l. λ j. marks q l j - used_of plan inputs p q (count j)) in
      let kept_sum = sums_same targets (λ t. made_on plan inputs (out_edge p t) m.count - m.lows t) (λ t. made_on plan inputs (out_edge p t) n.count - n.lows t) (λ t l. λ j. made_on plan inputs (out_edge p t) (count j) - lows t l j) in
      (λ j. sources + 1 + waiting_sum j + targets + kept_sum j + length (entries_after plan inputs p (count j)))

  -- ---- chunks

  list_length : (m : MoverView) (old : List Entry) (x : Move) → IsMoving (Some m) (Some old) → MoverStands plan inputs p m (Some old) x → length (move_list plan inputs p x.numbers) + 1 ≡ total_of m
  list_length m old x moving h =
      let entries : old ≡ entries_after plan inputs p x.numbers.count = ap (λ o. unwrap_or o old) h.kept in
      let whole : length m.fixed + length (entries_after plan inputs p x.numbers.count) ≡ length (move_list plan inputs p x.numbers) =
      sym (length-append m.fixed (entries_after plan inputs p x.numbers.count)) ∙ ap length h.list in
      let many : length (entries_after plan inputs p x.numbers.count) ≡ m.entries = ap length (sym entries) ∙ moving.0.count in
      omega (arith, whole, many)

  one_list : (m : MoverView) (old : List Entry) (x y : Move) → MoverStands plan inputs p m (Some old) x → MoverStands plan inputs p m (Some old) y
      → move_list plan inputs p x.numbers ≡ move_list plan inputs p y.numbers
  one_list m old x y h k =
      let entries : entries_after plan inputs p x.numbers.count ≡ entries_after plan inputs p y.numbers.count = ap (λ o. unwrap_or o old) (sym h.kept ∙ k.kept) in
      sym h.list ∙ ap (λ es. m.fixed ++ es) entries ∙ k.list

  -- A mover stands for one move whose numbers are within their lengths; so whatever move it stands for, it has as many chunks.
  pub chunks_are : IsPlan plan → IsOfStage (flow_of plan inputs) p → (m : MoverView) (old : Option (List Entry)) (x y : Move) → IsMoving (Some m) old
      → MoverStands plan inputs p m old x → MoveBound (flow_of plan inputs) p x.numbers → MoverStands plan inputs p m old y → total_of m ≡ size (flow_of plan inputs) p y.numbers + 1
  chunks_are is_plan there m None x y moving h bound k = absurd moving
  chunks_are is_plan there m (Some old) x y moving h bound k =
      let total = list_length m old x moving h in
      let size_x = have_their_size plan inputs is_plan p x.numbers there bound in
      let size_y = same_size x.numbers y.numbers (one_list m old x y h k) in
      sym total ∙ ap (λ n. n + 1) (size_x ∙ size_y)
