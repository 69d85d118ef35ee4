-- What is told, as a value: every line has the same members, of which those are null that its kind of happening doesn't have.
use Rattle.std.specs.Prelude.{ℕ, List, ◌++◌, Option, None, Some, codes}
use Rattle.std.specs.Fmt.{decimal}
use Rattle.serde_json.specs.Data.{Data, member, no_members, number, object, string, unsigned}
use Rattle.run_journal.specs.Text.{node_name}
use Rattle.run_timeline.specs.Signs.{name_of}
use Rattle.run_watch.specs.declared.happening.Fell.{Fell}
use Rattle.run_watch.specs.declared.happening.Fell.TheVariants as fell
use Rattle.run_watch.specs.declared.happening.Happening.{Happening}
use Rattle.run_watch.specs.declared.happening.Happening.TheVariants as happening
use Rattle.run_watch.specs.declared.happening.Told.{Told}
use Rattle.look_json.specs.Lines.{line_of, number_or_null, word_or_null}

-- the name of a pair
abbrev pub pair_name : (stage part : ℕ) → List ℕ
pair_name stage part = decimal stage ++ codes "." ++ decimal part

-- the name of the replica or of the pair to which something happened
abbrev pub whose : Happening → List ℕ
whose (happening.Failed n inc) = node_name n
whose (happening.Stopped n inc) = node_name n
whose (happening.AskedStop n inc) = node_name n
whose (happening.AskedBack n) = node_name n
whose (happening.Named n term after how) = node_name n
whose (happening.Leads n term) = node_name n
whose (happening.Recalled n inc) = node_name n
whose (happening.Begun n inc) = node_name n
whose (happening.Moved n target entries) = node_name n
whose (happening.CaughtUp n inc entries held) = node_name n
whose (happening.Lost stage part) = pair_name stage part
whose (happening.Regained stage part) = pair_name stage part

-- the incarnation that it speaks of: of a state that was sent, that of the partner to which it went
abbrev pub incarnation_of : Happening → Option ℕ
incarnation_of (happening.Failed n inc) = Some inc
incarnation_of (happening.Stopped n inc) = Some inc
incarnation_of (happening.AskedStop n inc) = Some inc
incarnation_of (happening.Recalled n inc) = Some inc
incarnation_of (happening.Begun n inc) = Some inc
incarnation_of (happening.Moved n target entries) = Some target
incarnation_of (happening.CaughtUp n inc entries held) = Some inc
incarnation_of h = None

-- the term in which a leader is named or leads
abbrev pub term_of : Happening → Option ℕ
term_of (happening.Named n term after how) = Some term
term_of (happening.Leads n term) = Some term
term_of h = None

-- how many events it comes after a fall; after none where there was no fall
abbrev pub after_fall : Fell → (after : ℕ) → Option ℕ
after_fall fell.Never after = None
after_fall fell.Failed after = Some after
after_fall fell.AskedStop after = Some after

-- how many events a leader is named after its partner fell
abbrev pub after_of : Happening → Option ℕ
after_of (happening.Named n term after how) = after_fall how after
after_of h = None

-- how a partner fell, in the words of the story
abbrev pub fell_word : Fell → Option (List ℕ)
fell_word fell.Never = None
fell_word fell.Failed = Some (codes "failed")
fell_word fell.AskedStop = Some (codes "asked to be stopped")

-- how the partner of a named leader fell
abbrev pub partner_of : Happening → Option (List ℕ)
partner_of (happening.Named n term after how) = fell_word how
partner_of h = None

-- how many entries of state were sent, or taken
abbrev pub entries_of : Happening → Option ℕ
entries_of (happening.Moved n target entries) = Some entries
entries_of (happening.CaughtUp n inc entries held) = Some entries
entries_of h = None

-- how many items were held meanwhile
abbrev pub held_of : Happening → Option ℕ
held_of (happening.CaughtUp n inc entries held) = Some held
held_of h = None

-- where something happened, as a value: the event and its line, and how far ingress and egress were then
abbrev pub place_data : Told → Data
place_data t = object (
    member (codes "event") (number (unsigned t.place))
    (member (codes "in") (number (unsigned t.made))
    (member (codes "line") (number (unsigned t.line))
    (member (codes "out") (number (unsigned t.emitted)) no_members))))

-- who leads, as a value: the term, and how and how many events before the partner of a named leader fell
abbrev pub lead_data : Happening → Data
lead_data h = object (
    member (codes "after") (number_or_null (after_of h))
    (member (codes "partner") (word_or_null (partner_of h))
    (member (codes "term") (number_or_null (term_of h)) no_members)))

-- the state that is moved, as a value: the incarnation, the entries and the items held meanwhile
abbrev pub state_data : Happening → Data
state_data h = object (
    member (codes "entries") (number_or_null (entries_of h))
    (member (codes "held") (number_or_null (held_of h))
    (member (codes "incarnation") (number_or_null (incarnation_of h)) no_members)))

-- what happened, as a value, and to which replica or pair
abbrev pub what_data : Happening → Data
what_data h = object (member (codes "happening") (string (name_of h)) (member (codes "node") (string (whose h)) no_members))

-- what is told, as a value
abbrev pub told_data : Told → Data
told_data t = object (
    member (codes "at") (place_data t)
    (member (codes "lead") (lead_data t.happening)
    (member (codes "state") (state_data t.happening)
    (member (codes "what") (what_data t.happening) no_members))))

-- its line
unfoldable pub told_line : Told → List ℕ
told_line t = line_of (told_data t)
