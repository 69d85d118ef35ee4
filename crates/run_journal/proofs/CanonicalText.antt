-- The canonical text of events reads back as the events.
use Rattle.std.proofs.Common.{ℕ, ◌≡◌, ◌≤◌, ◌+◌, ◌&&◌, true, false, List, [], ◌∷◌, ◌++◌, length, map, refl, sym, ap, ◌∙◌, arith, append_assoc, append-nil, length-append}
use Rattle.std.specs.Prelude.{All, Ok, codes, nat_le, nat_lt}
use Rattle.std.specs.Fmt.{decimal}
use Rattle.std.specs.List.{flat_map}
use Rattle.std.proofs.lemmas.Bool.Decides.{nat_tests}
use Rattle.std.proofs.lemmas.List.Elements.{All-head, All-tail}
use Rattle.tuple_edge.specs.declared.event.Event.{Event}
use Rattle.tuple_edge.specs.declared.event.Event.TheVariants as event
use Rattle.tuple_edge.specs.declared.node.LinkId.{LinkId}
use Rattle.tuple_edge.specs.declared.node.NodeId.{NodeId}
use Rattle.text_words.specs.Lines.{Word, counting_lines}
use Rattle.text_words.specs.Reading.{◌>>=◌, fixed_or}
use Rattle.text_words.specs.Text.{line_text}
use Rattle.text_words.proofs.LineFacts.{both_true}
use Rattle.text_words.proofs.NumberWords.{number_of_decimal}
use Rattle.text_words.proofs.Spelling.{counting_spelled, spelled}
use Rattle.plan_reader.specs.Nodes.{carries_items, has_link, has_node}
use Rattle.plan_reader.specs.PlanView.{IsPlan, PlanView}
use Rattle.run_journal.specs.Events.{ask_back_at, ask_stop_at, event_at, events_of, kill_at, last_replica_at, lined_at, make_at, pull_at, take_at, work_at}
use Rattle.plan_reader.specs.Nodes.{has_edge, has_replica}
use Rattle.run_journal.specs.Grammar.{index_at, link_at, node_at, replica_at, target_at, times_at}
use Rattle.run_journal.specs.Limits.{max_events, max_events_bytes, max_index}
use Rattle.run_journal.specs.Listing.{header_at, lines_after, once, with_line, with_lines}
use Rattle.run_journal.specs.Text.{AreSayable, IsNamed, event_words, events_text, link_name, lined_from, node_name}
use Rattle.run_journal.specs.declared.lined.Lined.{Lined}
use Rattle.run_journal.proofs.NamesBack.{IsShortName, link_back, node_back}
use Rattle.run_journal.proofs.PlainText.{text_plain}
use Rattle.run_journal.proofs.ShortNames.{IsShortEvent, short_event}

-- ---- words

node_at_back : (plan : PlanView) (n : NodeId) (rest : List Word) → IsShortName n → has_node plan n ≡ true → node_at plan (node_name n ∷ rest) ≡ Ok (n, rest)
unfolding node_at
node_at_back plan n rest short there = rw (node_back n short, there) refl

replica_at_back : (plan : PlanView) (n : NodeId) (rest : List Word) → IsShortName n → has_replica plan n ≡ true → replica_at plan (node_name n ∷ rest) ≡ Ok (n, rest)
unfolding replica_at
replica_at_back plan n rest short there = rw (node_back n short, there) refl

target_back : (plan : PlanView) (from to : NodeId) (rest : List Word) → IsShortName to → has_edge plan from to ≡ true → target_at plan from (node_name to ∷ rest) ≡ Ok (to, rest)
unfolding target_at
target_back plan from to rest short there = rw (node_back to short, there) refl

link_at_back : (plan : PlanView) (link : LinkId) (rest : List Word) → IsShortName link.from → IsShortName link.to → has_link plan link ≡ true → link_at plan (link_name link ∷ rest) ≡ Ok (link, rest)
unfolding link_at
link_at_back plan link rest from to there = rw (link_back link from to, there) refl

index_back : (n : ℕ) (rest : List Word) → n ≤ max_index → index_at (decimal n ∷ rest) ≡ Ok (n, rest)
unfolding index_at
index_back n rest high =
    let low : nat_le 0 n ≡ true = grind (arith, nat_tests) in
    let test : nat_le n max_index ≡ true = grind (arith, nat_tests) in
    rw (number_of_decimal n (omega (arith, high)), low, test) refl

last_back : (plan : PlanView) (n : NodeId) → IsShortName n → has_replica plan n ≡ true → last_replica_at plan (node_name n ∷ []) ≡ Ok (n, [])
unfolding last_replica_at
last_back plan n short there = rw (replica_at_back plan n [] short there) refl

-- ---- lines

take_back : (plan : PlanView) (link : LinkId) (index : ℕ) → IsShortEvent (event.Take link index) → has_link plan link ≡ true
    → take_at plan (link_name link ∷ decimal index ∷ []) ≡ Ok (once (event.Take link index), [])
unfolding take_at
take_back plan link index short there = rw (link_at_back plan link (decimal index ∷ []) short.0 short.1 there, index_back index [] short.2) refl

work_back : (plan : PlanView) (n : NodeId) → IsShortName n → has_node plan n ≡ true → work_at plan (node_name n ∷ []) ≡ Ok (once (event.Work n), [])
unfolding work_at times_at
work_back plan n short there = rw (node_at_back plan n [] short there) refl

pull_back : (plan : PlanView) (from to : NodeId) → IsShortName from → IsShortName to → has_edge plan from to ≡ true → pull_at plan (node_name from ∷ node_name to ∷ []) ≡ Ok (once (event.Pull from to), [])
unfolding pull_at times_at
pull_back plan from to first second there =
    let (ends, carries) = both_true (has_node plan from && has_node plan to) (carries_items plan from to) there in
    let (start, end) = both_true (has_node plan from) (has_node plan to) ends in
    rw (node_at_back plan from (node_name to ∷ []) first start, target_back plan from to [] second there) refl

event_back : (plan : PlanView) (e : Event) → IsNamed plan e → IsShortEvent e → event_at plan (event_words e) ≡ Ok (once e, [])
unfolding event_at make_at times_at kill_at ask_stop_at ask_back_at
event_back plan (event.Take link index) named short = take_back plan link index short named.0
event_back plan (event.Work n) named short = work_back plan n short named
event_back plan event.Make named short = refl
event_back plan (event.Kill n) named short = rw (last_back plan n short named) refl
event_back plan (event.AskStop n) named short = rw (last_back plan n short named) refl
event_back plan (event.AskBack n) named short = rw (last_back plan n short named) refl
event_back plan (event.Pull from to) named short = pull_back plan from to short.0 short.1 named

lines_back : (plan : PlanView) (before : List Lined) (number : ℕ) (events : List Event) → IsPlan plan → All (IsNamed plan) events → length before + length events ≤ max_events
    → with_lines (lined_at plan) before (spelled number (map event_words events)) ≡ Ok (before ++ lined_from number events)
unfolding with_lines with_line lined_at
lines_back plan before number [] within named few = ap Ok (sym (append-nil before))
lines_back plan before number (e ∷ events) within named few =
    let here = All-head (IsNamed plan) e events named in
    let next : List Lined = record { line = number; event = e } ∷ [] in
    let room : nat_lt max_events (length before + 1) ≡ false = grind (arith, nat_tests) in
    let more : length (before ++ next) + length events ≤ max_events = omega (arith, few, length-append before next) in
    rw (event_back plan e here (short_event plan e within here), room)
    (lines_back plan (before ++ next) (number + 1) events within (All-tail (IsNamed plan) e events named) more
    ∙ ap Ok (append_assoc before next (lined_from (number + 1) events)))

-- ---- the text

text_is : (events : List Event) → flat_map (λ e. line_text (event_words e)) events ≡ flat_map line_text (map event_words events)
text_is [] = refl
text_is (e ∷ events) = ap (λ text. line_text (event_words e) ++ text) (text_is events)

text_lines : (plan : PlanView) (events : List Event) → IsPlan plan → All (IsNamed plan) events
    → counting_lines (events_text events) ≡ spelled 1 ((codes "events" ∷ codes "1" ∷ []) ∷ map event_words events)
unfolding events_text
text_lines plan events within named =
    ap (λ text. counting_lines (line_text (codes "events" ∷ codes "1" ∷ []) ++ text)) (text_is events)
    ∙ counting_spelled 1 ((codes "events" ∷ codes "1" ∷ []) ∷ map event_words events) (text_plain plan events within named)

body_back : (plan : PlanView) (events : List Event) → IsPlan plan → AreSayable plan events
    → (lines_after (codes "events") (spelled 1 ((codes "events" ∷ codes "1" ∷ []) ∷ map event_words events)) >>= with_lines (lined_at plan) []) ≡ Ok (lined_from 2 events)
unfolding lines_after header_at fixed_or
body_back plan events within sayable = lines_back plan [] 2 events within sayable.named (omega (arith, sayable.few))

-- the canonical text of events reads back as the events
pub events_text_reads_back : (plan : PlanView) (events : List Event) → IsPlan plan → AreSayable plan events → events_of plan (events_text events) ≡ Ok (lined_from 2 events)
unfolding events_of
events_text_reads_back plan events within sayable =
    let short : nat_lt max_events_bytes (length (events_text events)) ≡ false = grind (arith, nat_tests, sayable.short) in
    rw (short, text_lines plan events within sayable.named) (body_back plan events within sayable)
