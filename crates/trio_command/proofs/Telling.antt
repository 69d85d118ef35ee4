-- The pieces of the text, put together.
use Rattle.std.proofs.Common.{◌≡◌, ◌∙◌, ℕ, List, ◌++◌, append_assoc, string_bytes, sym, ap}
use Rattle.std.specs.Prelude.{◌≢◌}
use Rattle.std.specs.List.{flat_map}
use Rattle.tuple_edge.specs.declared.event.Drained.{Drained}
use Rattle.tuple_edge.specs.declared.row.Row.{Row}
use Rattle.text_words.specs.Messages.{at_line}
use Rattle.command_course.specs.Course.{Refuses, Writes}
use Rattle.command_course.specs.Lines.{line_of}
use Rattle.command_course.specs.Steps.{IsRefusedBy}
use Rattle.command_course.specs.declared.stop.Stop.{Stop}
use Rattle.command_course.specs.declared.stop.Stop.TheVariants as stop
use Rattle.command_course.proofs.Courses.{came_here}
use Rattle.trio_machine.specs.Flow.{IsTrioPlan}
use Rattle.trio_machine.specs.Machine.{State, opening}
use Rattle.trio_machine.specs.Sound.{IsSound}
use Rattle.trio_machine.proofs.Laws.{the_opening_is_sound}
use Rattle.trio_text.specs.declared.lined.TrioLined.{TrioLined}
use Rattle.trio_core.specs.CoreView.{CoreView, flow_in, inputs_of}
use Rattle.trio_core.specs.Stands.{StandsFor}
use Rattle.trio_core.specs.declared.error.TrioError.TheVariants as error
use Rattle.trio_drain.specs.Ending.{ending, rows_at_end}
use Rattle.trio_state.specs.GroupsText.{groups_text}
use Rattle.trio_command.specs.Courses.{goes_along, writes_text}
use Rattle.trio_command.specs.Ends.{StopsHere, WritesHere}
use Rattle.trio_command.specs.Follows.{IsFollowed, IsStopped, StandsSound}
use Rattle.trio_command.specs.Replaying.{error_text}
use Rattle.trio_command.specs.Text.{emitted_line, ended_line, first_line, trio_text}
use Rattle.trio_command.specs.declared.follow.Stopped.{Stopped}
use Rattle.trio_command.proofs.Ways.{want_here}

opening_sound : (core : CoreView) → IsTrioPlan core.plan → StandsFor core opening → StandsSound core opening
opening_sound core is opens = record { stands = opens; sound = the_opening_is_sound core.plan (inputs_of core) is }

-- the groups, the line of the drain and the lines of the rows are the text
pub text_is : (core : CoreView) (s : State) (d : Drained) (symbols : List (List ℕ)) (groups with_line whole : List ℕ) (rows : List Row) → groups ≡ first_line ++ groups_text (flow_in core) s
    → with_line ≡ groups ++ ended_line d → d ≡ ending (flow_in core) s → rows ≡ rows_at_end core.plan (inputs_of core) s → whole ≡ with_line ++ flat_map (emitted_line symbols) rows
    → whole ≡ trio_text core.plan (inputs_of core) symbols s
text_is core s d symbols groups with_line whole rows groups_are line_is ends rows_are whole_is =
    whole_is ∙ (λ j. (line_is ∙ (λ i. groups_are i ++ ended_line (ends i))) j ++ flat_map (emitted_line symbols) (rows_are j))

-- ---- the whole command

-- the events of a file lead to this text
pub writes_along : (old now : CoreView) (symbols : List (List ℕ)) (name text : List ℕ) (lines : List TrioLined) → IsTrioPlan old.plan → StandsFor old opening → IsFollowed old now lines
    → now.plan ≡ old.plan → inputs_of now ≡ inputs_of old → ((s : State) → StandsFor now s → IsSound (flow_in now) s → text ≡ trio_text now.plan (inputs_of now) symbols s)
    → WritesHere (goes_along name (record { plan = old.plan; inputs = inputs_of old; symbols = symbols }) lines) text
writes_along old now symbols name text lines is opens followed plan inputs told files =
    let z = followed opening (opening_sound old is opens) in
    let written : text ≡ trio_text old.plan (inputs_of old) symbols z.0 = told z.0 z.1.stands z.1.sound ∙ (λ j. trio_text (plan j) (inputs j) symbols z.0) in
    came_here files _ (Writes text) (ap (writes_text name (record { plan = old.plan; inputs = inputs_of old; symbols = symbols })) z.2 ∙ ap Writes (sym written))

-- or the first of them that is no step is refused
pub refuses_along : (old : CoreView) (symbols : List (List ℕ)) (name : List ℕ) (lines : List TrioLined) (stopped : Stopped) (why : Stop) → IsTrioPlan old.plan → StandsFor old opening
    → IsStopped old lines stopped → IsRefusedBy why (line_of name (at_line stopped.line (error_text stopped.error))) (stopped.error ≢ error.OutOfMemory)
    → StopsHere (goes_along name (record { plan = old.plan; inputs = inputs_of old; symbols = symbols }) lines) why
refuses_along old symbols name lines stopped stop.Usage is opens stops by files = by
refuses_along old symbols name lines stopped (stop.Refused said) is opens stops by files =
    let z = stops by.1 opening (opening_sound old is opens) in
    came_here files _ (Refuses (string_bytes said))
    (ap (writes_text name (record { plan = old.plan; inputs = inputs_of old; symbols = symbols })) z.refused
    ∙ ap (λ text. Refuses (line_of name (at_line stopped.line text))) (sym z.said)
    ∙ ap Refuses (sym by.0))
refuses_along old symbols name lines stopped (stop.CannotRead said) is opens stops by files = absurd by
refuses_along old symbols name lines stopped stop.CannotWrite is opens stops by files = by
refuses_along old symbols name lines stopped (stop.PairLost stage part said) is opens stops by files = by
refuses_along old symbols name lines stopped stop.OutOfMemory is opens stops by files =
    want_here (goes_along name (record { plan = old.plan; inputs = inputs_of old; symbols = symbols }) lines) files

-- ---- a row

-- the pieces of a row's line behind each other, from the left and from the right
line_joined : (comma end time account symbol qty value : List ℕ) → time ++ comma ++ account ++ comma ++ symbol ++ comma ++ qty ++ comma ++ value ++ end
    ≡ time ++ (comma ++ (account ++ (comma ++ (symbol ++ (comma ++ (qty ++ (comma ++ (value ++ end))))))))
line_joined comma end time account symbol qty value =
    append_assoc (time ++ comma ++ account ++ comma ++ symbol ++ comma ++ qty ++ comma) value end
    ∙ append_assoc (time ++ comma ++ account ++ comma ++ symbol ++ comma ++ qty) comma (value ++ end)
    ∙ append_assoc (time ++ comma ++ account ++ comma ++ symbol ++ comma) qty (comma ++ (value ++ end))
    ∙ append_assoc (time ++ comma ++ account ++ comma ++ symbol) comma (qty ++ (comma ++ (value ++ end)))
    ∙ append_assoc (time ++ comma ++ account ++ comma) symbol (comma ++ (qty ++ (comma ++ (value ++ end))))
    ∙ append_assoc (time ++ comma ++ account) comma (symbol ++ (comma ++ (qty ++ (comma ++ (value ++ end)))))
    ∙ append_assoc (time ++ comma) account (comma ++ (symbol ++ (comma ++ (qty ++ (comma ++ (value ++ end))))))
    ∙ append_assoc time comma (account ++ (comma ++ (symbol ++ (comma ++ (qty ++ (comma ++ (value ++ end)))))))

front_joined : (word comma time account rest : List ℕ) → (word ++ (time ++ (comma ++ (account ++ comma)))) ++ rest ≡ word ++ (time ++ (comma ++ (account ++ (comma ++ rest))))
front_joined word comma time account rest =
    append_assoc word (time ++ (comma ++ (account ++ comma))) rest
    ∙ ap (λ t. word ++ t) (append_assoc time (comma ++ (account ++ comma)) rest
    ∙ ap (λ t. time ++ t) (append_assoc comma (account ++ comma) rest ∙ ap (λ t. comma ++ t) (append_assoc account comma rest)))

pub row_joined : (old word comma end time account symbol qty value : List ℕ) → ((old ++ (word ++ (time ++ (comma ++ (account ++ comma))))) ++ symbol) ++ (comma ++ (qty ++ (comma ++ (value ++ end))))
    ≡ old ++ (word ++ (time ++ comma ++ account ++ comma ++ symbol ++ comma ++ qty ++ comma ++ value ++ end))
row_joined old word comma end time account symbol qty value =
    let front = word ++ (time ++ (comma ++ (account ++ comma))) in
    let sums = comma ++ (qty ++ (comma ++ (value ++ end))) in
    append_assoc (old ++ front) symbol sums
    ∙ append_assoc old front (symbol ++ sums)
    ∙ ap (λ t. old ++ t) (front_joined word comma time account (symbol ++ sums) ∙ ap (λ t. word ++ t) (sym (line_joined comma end time account symbol qty value)))
