-- The list of a move has as many entries as its numbers say.
use Rattle.std.proofs.Common.{◌≡◌, ◌≤◌, ◌<◌, ℕ, zero, suc, List, [], ◌∷◌, ◌++◌, ◌+◌, ◌-◌, refl, ap, ◌∙◌, arith, length, drop, length-drop}
use Rattle.std.proofs.lemmas.List.{length-append, length-take}
use Rattle.tuple_edge.specs.declared.item.Item.{Item}
use Rattle.tuple_edge.specs.declared.packet.Entry.{Entry}
use Rattle.tuple_edge.specs.declared.packet.Entry.TheVariants as entry
use Rattle.plan_reader.specs.Nodes.{parts_of, sources_of}
use Rattle.pair_machine.specs.Contents.{between, kept, waiting}
use Rattle.tuple_edge.specs.Entries.{each_below, numbered}
use Rattle.pair_machine.specs.CountLaws.{MovesHaveTheirSize}
use Rattle.pair_machine.specs.Counts.{entries_after, flow_of, items_on, made_on, used_of}
use Rattle.pair_machine.specs.Numbers.{in_edge, out_edge}
use Rattle.pair_machine.specs.Replicas.{sum_below}
use Rattle.pair_machine.proofs.PlanFlow.{made_most}

length-numbered : (g : ℕ → Item → Entry) (n : ℕ) (xs : List Item) → length (numbered g n xs) ≡ length xs
length-numbered g n [] = refl
length-numbered g n (x ∷ xs) = ap suc (length-numbered g (n + 1) xs)

length-between : (low upto : ℕ) (xs : List Item) → upto ≤ length xs → length (between low upto xs) ≡ upto - low
length-between low upto xs h = omega (arith, length-take (upto - low) (drop low xs), length-drop low xs)

length-each_below : (n : ℕ) (g : ℕ → List Entry) (k : ℕ → ℕ) → ((q : ℕ) → q < n → length (g q) ≡ k q) → length (each_below n g) ≡ sum_below n k
length-each_below zero g k h = refl
length-each_below (suc n) g k h = omega (arith, length-append (each_below n g) (g n), length-each_below n g k (λ q l. h q (omega arith)), h n (omega arith))

sum-ones : (n : ℕ) → sum_below n (λ q. 1) ≡ n
sum-ones zero = refl
sum-ones (suc n) = omega (arith, sum-ones n)

-- one entry for each number below n
length-ones : (n : ℕ) (g : ℕ → Entry) → length (each_below n (λ q. g q ∷ [])) ≡ n
length-ones n g = length-each_below n (λ q. g q ∷ []) (λ q. 1) (λ q l. refl) ∙ sum-ones n

pub have_their_size : MovesHaveTheirSize
unfolding flow_of
have_their_size plan inputs is_plan p m here bound =
    let sources = sources_of plan p.stage in
    let targets = parts_of plan (p.stage + 1) in
    let used : ℕ → ℕ = λ q. used_of plan inputs p q m.count in
    let made : ℕ → ℕ = λ t. made_on plan inputs (out_edge p t) m.count in
    let head : ℕ → ℕ → Item → Entry = λ q n x. entry.Head q n x in
    let keep : ℕ → ℕ → Item → Entry = λ t n x. entry.Kept t n x in
    let waits : ℕ → List Entry = λ q. numbered (head q) (used q) (waiting plan inputs p m.count q (m.marks q)) in
    let keeps : ℕ → List Entry = λ t. numbered (keep t) (m.lows t) (kept plan inputs p m.count t (m.lows t)) in
    let marks = each_below sources (λ q. entry.Mark q (m.marks q) ∷ []) in
    let count = entry.Count m.count ∷ [] in
    let lows = each_below targets (λ t. entry.Low t (m.lows t) (made t) ∷ []) in
    let keyed = entries_after plan inputs p m.count in
    let made_within : (t : ℕ) → made t ≤ length (items_on plan inputs (out_edge p t)) = λ t. made_most plan inputs p.stage p.part t m.count here.first here.last here.part in
    let waits_are : length (each_below sources waits) ≡ sum_below sources (λ q. m.marks q - used q) =
    length-each_below sources waits (λ q. m.marks q - used q)
    (λ q l. length-numbered (head q) (used q) (waiting plan inputs p m.count q (m.marks q)) ∙ length-between (used q) (m.marks q) (items_on plan inputs (in_edge p q)) (bound.most q)) in
    let keeps_are : length (each_below targets keeps) ≡ sum_below targets (λ t. made t - m.lows t) =
    length-each_below targets keeps (λ t. made t - m.lows t)
    (λ t l. length-numbered (keep t) (m.lows t) (kept plan inputs p m.count t (m.lows t)) ∙ length-between (m.lows t) (made t) (items_on plan inputs (out_edge p t)) (made_within t)) in
    omega (
      arith,
      length-append (marks ++ count ++ each_below sources waits ++ lows ++ each_below targets keeps) keyed,
      length-append (marks ++ count ++ each_below sources waits ++ lows) (each_below targets keeps),
      length-append (marks ++ count ++ each_below sources waits) lows,
      length-append (marks ++ count) (each_below sources waits),
      length-append marks count,
      length-ones sources (λ q. entry.Mark q (m.marks q)),
      length-ones targets (λ t. entry.Low t (m.lows t) (made t)),
      waits_are,
      keeps_are,
    )
