-- The words of the canonical text are plain, and so each is read as it was written.
use Rattle.std.proofs.Common.{ℕ, ◌≡◌, ◌<◌, ◌≤◌, true, List, [], ◌∷◌, ◌++◌, length, map, refl, arith, length-append}
use Rattle.std.specs.Prelude.{All, codes}
use Rattle.std.specs.Char.{is_ascii_digit}
use Rattle.std.specs.Fmt.{decimal}
use Rattle.std.specs.List.{list_all}
use Rattle.std.proofs.lemmas.Bool.Decides.{nat_tests}
use Rattle.std.proofs.lemmas.Fmt.{length-decimal-le}
use Rattle.std.proofs.lemmas.List.Elements.{All-head, All-tail}
use Rattle.std.proofs.lemmas.List.Folds.{list_all-append}
use Rattle.tuple_edge.specs.declared.event.Event.{Event}
use Rattle.tuple_edge.specs.declared.event.Event.TheVariants as event
use Rattle.tuple_edge.specs.declared.node.LinkId.{LinkId}
use Rattle.tuple_edge.specs.declared.node.NodeId.{NodeId}
use Rattle.tuple_edge.specs.declared.node.NodeId.TheVariants as node
use Rattle.tuple_edge.specs.declared.node.Which.TheVariants as which
use Rattle.text_words.specs.Lines.{Word, counts}
use Rattle.text_words.proofs.LineFacts.{both_true}
use Rattle.text_words.proofs.NumberWords.{decimal_digits, decimal_few, decimal_some}
use Rattle.text_words.proofs.Spelling.{ArePlainLines, IsPlainLine, IsPlainWord, is_plain}
use Rattle.plan_reader.specs.PlanView.{IsPlan, PlanView}
use Rattle.run_journal.specs.Limits.{max_index}
use Rattle.run_journal.specs.Text.{IsNamed, event_words, link_name, member_name, node_name}
use Rattle.run_journal.proofs.NamesBack.{IsShortName}
use Rattle.run_journal.proofs.ShortNames.{IsShortEvent, short_event}

plain_digit : (b : ℕ) → is_ascii_digit b ≡ true → is_plain b ≡ true
plain_digit b digit = grind (arith, nat_tests)

plain_digits : (word : List ℕ) → list_all is_ascii_digit word ≡ true → list_all is_plain word ≡ true
plain_digits [] digits = refl
plain_digits (b ∷ word) digits =
    let (here, later) = both_true (is_ascii_digit b) (list_all is_ascii_digit word) digits in
    rw (plain_digit b here, plain_digits word later) refl

-- a plain word that is as short as the name of a node
record IsPlainName (word : Word) : Type 0 where
  pub some : 0 < length word
  pub few : length word ≤ 5
  pub plain : list_all is_plain word ≡ true

member_plain : (stage part letter : ℕ) → stage < 10 → part < 10 → is_plain letter ≡ true → IsPlainName (member_name stage part (letter ∷ []))
member_plain stage part letter low high plain =
    let first = plain_digits (decimal stage) (decimal_digits stage (omega (arith, low))) in
    let second = plain_digits (decimal part) (decimal_digits part (omega (arith, high))) in
    let one = length-decimal-le 1 stage (omega arith) (omega (arith, low)) (omega (arith, low)) in
    let other = length-decimal-le 1 part (omega arith) (omega (arith, high)) (omega (arith, high)) in
    let sum = length-append (decimal stage) (46 ∷ (decimal part ++ 46 ∷ letter ∷ [])) in
    let rest = length-append (decimal part) (46 ∷ letter ∷ []) in
    record {
      some = omega (arith, sum);
      few = omega (arith, sum, rest, one, other);
      plain = rw (list_all-append is_plain (decimal stage) (46 ∷ (decimal part ++ 46 ∷ letter ∷ [])), first, list_all-append is_plain (decimal part) (46 ∷ letter ∷ []), second, plain) refl;
    }

node_plain : (n : NodeId) → IsShortName n → IsPlainName (node_name n)
node_plain node.Ingress short = record { some = omega arith; few = omega arith; plain = refl }
node_plain (node.Replica stage part which.A) short = member_plain stage part 97 short.0 short.1 refl
node_plain (node.Replica stage part which.B) short = member_plain stage part 98 short.0 short.1 refl
node_plain (node.Control stage part) short = member_plain stage part 99 short.0 short.1 refl
node_plain node.Egress short = record { some = omega arith; few = omega arith; plain = refl }

name_plain : (n : NodeId) → IsShortName n → IsPlainWord (node_name n)
name_plain n short =
    let name = node_plain n short in
    record { some = name.some; few = omega (arith, name.few); plain = name.plain }

link_plain : (link : LinkId) → IsShortName link.from → IsShortName link.to → IsPlainWord (link_name link)
link_plain link from to =
    let first = node_plain link.from from in
    let second = node_plain link.to to in
    let sum = length-append (node_name link.from) (62 ∷ node_name link.to) in
    record {
      some = omega (arith, sum);
      few = omega (arith, sum, first.few, second.few);
      plain = rw (list_all-append is_plain (node_name link.from) (62 ∷ node_name link.to), first.plain, second.plain) refl;
    }

index_plain : (index : ℕ) → index ≤ max_index → IsPlainWord (decimal index)
index_plain index high = record {
  some = decimal_some index (omega (arith, high));
  few = omega (arith, decimal_few index (omega (arith, high)));
  plain = plain_digits (decimal index) (decimal_digits index (omega (arith, high)));
}

fixed_plain : (word : Word) → 0 < length word → length word ≤ 30 → list_all is_plain word ≡ true → IsPlainWord word
fixed_plain word some few plain = record { some = some; few = few; plain = plain }

-- the line of a word and a node
at_node : (word : Word) (n : NodeId) → IsPlainWord word → counts (word ∷ node_name n ∷ []) ≡ true → IsShortName n → IsPlainLine (word ∷ node_name n ∷ [])
at_node word n plain counted short = record { counts = counted; few = omega arith; plain = (plain, (name_plain n short, tt)) }

event_plain : (e : Event) → IsShortEvent e → IsPlainLine (event_words e)
event_plain (event.Take link index) short = record {
  counts = refl;
  few = omega arith;
  plain = (fixed_plain (codes "take") (omega arith) (omega arith) refl, (link_plain link short.0 short.1, (index_plain index short.2, tt)));
}
event_plain (event.Work n) short = at_node (codes "work") n (fixed_plain (codes "work") (omega arith) (omega arith) refl) refl short
event_plain event.Make short = record { counts = refl; few = omega arith; plain = (fixed_plain (codes "make") (omega arith) (omega arith) refl, tt) }
event_plain (event.Kill n) short = at_node (codes "kill") n (fixed_plain (codes "kill") (omega arith) (omega arith) refl) refl short
event_plain (event.AskStop n) short = at_node (codes "askstop") n (fixed_plain (codes "askstop") (omega arith) (omega arith) refl) refl short
event_plain (event.AskBack n) short = at_node (codes "askback") n (fixed_plain (codes "askback") (omega arith) (omega arith) refl) refl short
event_plain (event.Pull from to) short = record {
  counts = refl;
  few = omega arith;
  plain = (fixed_plain (codes "pull") (omega arith) (omega arith) refl, (name_plain from short.0, (name_plain to short.1, tt)));
}

events_plain : (plan : PlanView) (events : List Event) → IsPlan plan → All (IsNamed plan) events → ArePlainLines (map event_words events)
events_plain plan [] within named = tt
events_plain plan (e ∷ events) within named = (
  event_plain e (short_event plan e within (All-head (IsNamed plan) e events named)),
  events_plain plan events within (All-tail (IsNamed plan) e events named),
)

pub text_plain : (plan : PlanView) (events : List Event) → IsPlan plan → All (IsNamed plan) events → ArePlainLines ((codes "events" ∷ codes "1" ∷ []) ∷ map event_words events)
text_plain plan events within named = (
  record {
    counts = refl;
    few = omega arith;
    plain = (fixed_plain (codes "events") (omega arith) (omega arith) refl, (fixed_plain (codes "1") (omega arith) (omega arith) refl, tt));
  },
  events_plain plan events within named,
)
