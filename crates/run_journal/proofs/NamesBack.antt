-- The names of nodes and links are read as they were written.
use Rattle.std.proofs.Common.{ℕ, ◌≡◌, ◌<◌, ◌==◌, not, Bool, true, false, [], ◌∷◌, ◌++◌, length, refl, ◌∙◌, arith, length-append}
use Rattle.std.specs.Prelude.{Some, nat_le, nat_lt, codes}
use Rattle.std.specs.Char.{is_ascii_digit}
use Rattle.std.specs.Fmt.{decimal}
use Rattle.std.specs.List.{list_all, prefix_len}
use Rattle.std.proofs.Math.Seq.{drop-append-add, take-append_seam}
use Rattle.std.proofs.lemmas.Bool.Decides.{nat_tests}
use Rattle.std.proofs.lemmas.Fmt.{length-decimal-le}
use Rattle.std.proofs.lemmas.List.Folds.{list_all-append}
use Rattle.tuple_edge.specs.declared.node.LinkId.{LinkId}
use Rattle.tuple_edge.specs.declared.node.NodeId.{NodeId}
use Rattle.tuple_edge.specs.declared.node.NodeId.TheVariants as node
use Rattle.tuple_edge.specs.declared.node.Which.TheVariants as which
use Rattle.text_words.specs.Lines.{Word}
use Rattle.text_words.proofs.LineFacts.{both_true}
use Rattle.text_words.proofs.NumberWords.{decimal_digits, decimal_some, number_of_decimal}
use Rattle.plan_reader.specs.Names.{cut_at, member_named, node_named, pair_node_named, place_named}
use Rattle.run_journal.specs.Names.{link_named}
use Rattle.run_journal.specs.Text.{link_name, member_name, node_name}

-- ---- cuts

-- a byte that isn't this one
abbrev pub is_other : ℕ → ℕ → Bool
is_other mark b = not (b == mark)

front_len : (mark : ℕ) (front back : Word) → list_all (is_other mark) front ≡ true → prefix_len (is_other mark) (front ++ mark ∷ back) ≡ length front
front_len mark [] back others =
    let same : (mark == mark) ≡ true = grind (arith, nat_tests) in
    rw same refl
front_len mark (b ∷ front) back others =
    let (here, later) = both_true (is_other mark b) (list_all (is_other mark) front) others in
    rw here (let more = front_len mark front back later in omega (arith, more))

-- a word is cut at the first such byte
pub cut_back : (mark : ℕ) (front back : Word) → list_all (is_other mark) front ≡ true → cut_at mark (front ++ mark ∷ back) ≡ Some (front, back)
unfolding cut_at
cut_back mark front back others =
    let count = front_len mark front back others in
    let inside : nat_lt (length front) (length (front ++ mark ∷ back)) ≡ true = grind (arith, nat_tests, length-append front (mark ∷ back)) in
    rw (count, inside, take-append_seam front (mark ∷ back), drop-append-add front (mark ∷ back) 1) refl

-- ---- numbers

-- the digits of a number are none of these bytes
other_digits : (mark : ℕ) (digits : Word) → is_ascii_digit mark ≡ false → list_all is_ascii_digit digits ≡ true → list_all (is_other mark) digits ≡ true
other_digits mark [] none all = refl
other_digits mark (d ∷ digits) none all =
    let (here, later) = both_true (is_ascii_digit d) (list_all is_ascii_digit digits) all in
    let other : is_other mark d ≡ true = grind (arith, nat_tests) in
    rw (other, other_digits mark digits none later) refl

place_back : (n : ℕ) → n < 1000000000 → place_named (decimal n) ≡ Some n
unfolding place_named
place_back n small =
    let few : nat_le (length (decimal n)) 9 ≡ true = grind (arith, nat_tests, length-decimal-le 9 n (omega arith) (omega (arith, small)) (omega (arith, small))) in
    rw few (number_of_decimal n (omega (arith, small)))

-- ---- names

member_back : (stage part : ℕ) (letter : Word) → stage < 1000000000 → part < 1000000000 → pair_node_named (member_name stage part letter) ≡ member_named stage part letter
unfolding pair_node_named
member_back stage part letter low high =
    let first = cut_back 46 (decimal stage) (decimal part ++ 46 ∷ letter) (other_digits 46 (decimal stage) refl (decimal_digits stage (omega (arith, low)))) in
    let second = cut_back 46 (decimal part) letter (other_digits 46 (decimal part) refl (decimal_digits part (omega (arith, high)))) in
    rw (first, second, place_back stage low, place_back part high) refl

-- what begins with a digit is neither of the two fixed names
no_fixed : (front back : Word) → 0 < length front → list_all is_ascii_digit front ≡ true → node_named (front ++ back) ≡ pair_node_named (front ++ back)
unfolding node_named
no_fixed [] back some digits = absurd (omega (arith, some))
no_fixed (d ∷ front) back some digits =
    let (here, later) = both_true (is_ascii_digit d) (list_all is_ascii_digit front) digits in
    let no_in : (d == 105) ≡ false = grind (arith, nat_tests) in
    let no_out : (d == 111) ≡ false = grind (arith, nat_tests) in
    rw (no_in, no_out) refl

pair_back : (stage part : ℕ) (letter : Word) → stage < 1000000000 → part < 1000000000 → node_named (member_name stage part letter) ≡ member_named stage part letter
pair_back stage part letter low high =
    no_fixed (decimal stage) (46 ∷ (decimal part ++ 46 ∷ letter)) (decimal_some stage (omega (arith, low))) (decimal_digits stage (omega (arith, low)))
    ∙ member_back stage part letter low high

-- the stage and the partition in a node's name are short
abbrev pub IsShortName : NodeId → Type 0
IsShortName node.Ingress = Unit {0}
IsShortName (node.Replica stage part which) = (stage < 10) × (part < 10)
IsShortName (node.Control stage part) = (stage < 10) × (part < 10)
IsShortName node.Egress = Unit {0}

pub node_back : (n : NodeId) → IsShortName n → node_named (node_name n) ≡ Some n
unfolding node_named
node_back node.Ingress short = refl
node_back (node.Replica stage part which.A) short = pair_back stage part (codes "a") (omega (arith, short.0)) (omega (arith, short.1))
node_back (node.Replica stage part which.B) short = pair_back stage part (codes "b") (omega (arith, short.0)) (omega (arith, short.1))
node_back (node.Control stage part) short = pair_back stage part (codes "c") (omega (arith, short.0)) (omega (arith, short.1))
node_back node.Egress short = refl

-- no name of a node has a byte >
member_whole : (stage part : ℕ) (letter : Word) → stage < 10 → part < 10 → list_all (is_other 62) letter ≡ true → list_all (is_other 62) (member_name stage part letter) ≡ true
member_whole stage part letter low high whole =
    let first = other_digits 62 (decimal stage) refl (decimal_digits stage (omega (arith, low))) in
    let second = other_digits 62 (decimal part) refl (decimal_digits part (omega (arith, high))) in
    rw (list_all-append (is_other 62) (decimal stage) (46 ∷ (decimal part ++ 46 ∷ letter)), first, list_all-append (is_other 62) (decimal part) (46 ∷ letter), second, whole) refl

node_whole : (n : NodeId) → IsShortName n → list_all (is_other 62) (node_name n) ≡ true
node_whole node.Ingress short = refl
node_whole (node.Replica stage part which.A) short = member_whole stage part (codes "a") short.0 short.1 refl
node_whole (node.Replica stage part which.B) short = member_whole stage part (codes "b") short.0 short.1 refl
node_whole (node.Control stage part) short = member_whole stage part (codes "c") short.0 short.1 refl
node_whole node.Egress short = refl

pub link_back : (link : LinkId) → IsShortName link.from → IsShortName link.to → link_named (link_name link) ≡ Some link
unfolding link_named
link_back link from to =
    let cut = cut_back 62 (node_name link.from) (node_name link.to) (node_whole link.from from) in
    rw (cut, node_back link.from from, node_back link.to to) refl
