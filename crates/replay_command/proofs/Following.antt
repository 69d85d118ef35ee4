-- Events applied to a core one after another are events replayed.
use Rattle.std.proofs.Common.{◌≡◌, ◌∙◌, ℕ, List, [], ◌∷◌, ◌++◌, Err, Ok, Result, refl, sym, ap, subst}
use Rattle.std.specs.Prelude.{◌≢◌, IfErr, IfOk, OnOk}
use Rattle.tuple_edge.specs.Input.{Input}
use Rattle.tuple_edge.specs.declared.event.Event.{Event}
use Rattle.tuple_edge.specs.declared.node.NodeId.TheVariants as node
use Rattle.text_words.specs.Messages.{at_line}
use Rattle.plan_reader.specs.PlanView.{IsPlan, PlanView}
use Rattle.pair_machine.specs.CountLaws.{output_first}
use Rattle.pair_machine.specs.Counts.{flow_of}
use Rattle.pair_machine.specs.Flow.{Flow}
use Rattle.pair_machine.specs.Machine.{State, egress_in, follow, opening, step}
use Rattle.pair_machine.specs.Messages.{NoMoreRows, NotHeld, NotRunning, NotSent, NothingDue, Refusal}
use Rattle.pair_machine.proofs.MachineLaws.{plan_opens_sound}
use Rattle.run_journal.specs.declared.lined.Lined.{Lined}
use Rattle.flux_core.specs.CoreView.{CoreView, emitted_by, flow_in, inputs_of}
use Rattle.flux_core.specs.Follows.{IsFollowed, IsStopped, events_of}
use Rattle.flux_core.specs.Refusals.{IsRefusal}
use Rattle.flux_core.specs.Stands.{StandsFor}
use Rattle.flux_core.proofs.Placed.{emitted_so}
use Rattle.flux_core.specs.declared.apply.Stopped.{Stopped}
use Rattle.flux_core.specs.declared.error.ApplyError.{ApplyError}
use Rattle.flux_core.specs.declared.error.ApplyError.TheVariants as error
use Rattle.command_course.specs.Course.{Course, Refuses, Writes}
use Rattle.command_course.specs.FeedView.{FeedView}
use Rattle.command_course.specs.Lines.{line_of}
use Rattle.command_course.specs.Steps.{IsRefusedBy}
use Rattle.command_course.specs.declared.stop.Stop.{Stop}
use Rattle.command_course.specs.declared.stop.Stop.TheVariants as stop
use Rattle.state_text.specs.StateText.{state_text}
use Rattle.replay_command.specs.Courses.{replays, text_in, writes_state}
use Rattle.replay_command.specs.Ends.{StopsIn}
use Rattle.replay_command.specs.Replaying.{error_text, refusal_text, replayed, stepped, then_on}

-- ---- the machine's own lists

state_or : {R : Type 0} → State → Result State R → State
state_or s (Ok t) = t
state_or s (Err r) = s

follow_err : (f : Flow) (es : List Event) (why : Refusal) → follow f es (Err why) ≡ Err why
follow_err f [] why = refl
follow_err f (e ∷ es) why = refl

pub all_replayed : (f : Flow) (lines : List Lined) (s t : State) → follow f (events_of lines) (Ok s) ≡ Ok t → replayed f lines s ≡ Ok t
unfolding state_or
all_replayed f [] s t e = ap Ok (ap (state_or s) e)
all_replayed f (l ∷ lines) s t e = go (step f s l.event) (λ u h. all_replayed f lines u t h) e
  where
    go : (r : Result State Refusal) → ((u : State) → follow f (events_of lines) (Ok u) ≡ Ok t → replayed f lines u ≡ Ok t) → follow f (events_of lines) r ≡ Ok t → then_on (replayed f lines) (stepped l.line r) ≡ Ok t
    go (Ok u) next e = next u e
    go (Err why) next e = let g = follow_err f (events_of lines) why in let z : ⊥ = cc (e, g) in absurd z

pub replayed_to : (f : Flow) (front : List Lined) (at : Lined) (rest : List Lined) (s t : State) (why : Refusal) → follow f (events_of front) (Ok s) ≡ Ok t → step f t at.event ≡ Err why
    → replayed f (front ++ at ∷ rest) s ≡ Err (record { line = at.line; why = why })
unfolding state_or
replayed_to f [] at rest s t why e refused =
    let same : s ≡ t = ap (state_or s) e in
    ap (λ r. then_on (replayed f rest) (stepped at.line r)) (ap (λ u. step f u at.event) same ∙ refused)
replayed_to f (l ∷ front) at rest s t why e refused = go (step f s l.event) (λ u h. replayed_to f front at rest u t why h refused) e
  where
    go : (r : Result State Refusal) → ((u : State) → follow f (events_of front) (Ok u) ≡ Ok t → replayed f (front ++ at ∷ rest) u ≡ Err (record { line = at.line; why = why })) → follow f (events_of front) r ≡ Ok t
        → then_on (replayed f (front ++ at ∷ rest)) (stepped l.line r) ≡ Err (record { line = at.line; why = why })
    go (Ok u) next e = next u e
    go (Err because) next e = let g = follow_err f (events_of front) because in let z : ⊥ = cc (e, g) in absurd z

-- ---- a core that opens, and follows

module _ (plan : PlanView) (inputs : List Input) (symbols : List (List ℕ)) (name : List ℕ) (old new : CoreView) (lines : List Lined)
    (limits : IsPlan old.plan) (opens : StandsFor old opening) (old_plan : old.plan ≡ plan) (old_inputs : inputs_of old ≡ inputs) where
  abbrev feed : FeedView
  feed = record { plan = plan; inputs = inputs; symbols = symbols }

  same_flow : flow_in old ≡ flow_of plan inputs
  same_flow = λ j. flow_of (old_plan j) (old_inputs j)

  -- the text of the state that it reached
  pub replays_whole : IsFollowed old new (events_of lines) → (text : List ℕ) → ((s : State) → StandsFor new s → text ≡ state_text (flow_in new) s symbols (emitted_by new)) → replays name feed lines ≡ Writes text
  replays_whole h text is =
      let z = h.goes opening opens (plan_opens_sound old.plan (inputs_of old) limits) in
      let reached = subst (λ f. follow f (events_of lines) (Ok opening) ≡ Ok z.0) same_flow z.1 in
      let new_plan : new.plan ≡ plan = h.plan ∙ old_plan in
      let new_inputs : inputs_of new ≡ inputs = h.inputs ∙ old_inputs in
      let emitted : emitted_by new ≡ output_first new.plan (inputs_of new) (egress_in (z.0.nodes node.Egress)).count = emitted_so new z.0 z.3 in
      let text_is : text ≡ text_in feed z.0 =
      is z.0 z.3 ∙ ap (state_text (flow_in new) z.0 symbols) emitted
      ∙ (λ j. state_text (flow_of (new_plan j) (new_inputs j)) z.0 symbols (output_first (new_plan j) (new_inputs j) (egress_in (z.0.nodes node.Egress)).count)) in
      ap (writes_state name feed) (all_replayed (flow_of plan inputs) lines opening z.0 reached) ∙ ap Writes (sym text_is)

  -- ---- what it refused

  refusal_said : (r : Result State Refusal) (e : ApplyError) → IsRefusal r e → e ≢ error.OutOfMemory → (why : Refusal) × (r ≡ Err why) × (error_text e ≡ refusal_text why)
  refusal_said r (error.NotSent l i n) h known = (NotSent l i n, h, refl)
  refusal_said r error.NothingDue h known = (NothingDue, h, refl)
  refusal_said r error.NotRunning h known = (NotRunning, h, refl)
  refusal_said r error.NoMoreRows h known = (NoMoreRows, h, refl)
  refusal_said r (error.NotHeld a b c) h known = (NotHeld a b c, h, refl)
  refusal_said r error.OutOfMemory h known = absurd (known refl)

  refuses : (stopped : Stopped) → IsStopped old new lines stopped → stopped.error ≢ error.OutOfMemory → replays name feed lines ≡ Refuses (line_of name (at_line stopped.line (error_text stopped.error)))
  refuses stopped h known =
      let z = h.followed.goes opening opens (plan_opens_sound old.plan (inputs_of old) limits) in
      let reached = subst (λ f. follow f (events_of h.front) (Ok opening) ≡ Ok z.0) same_flow z.1 in
      let new_flow : flow_in new ≡ flow_of plan inputs = λ j. flow_of ((h.followed.plan ∙ old_plan) j) ((h.followed.inputs ∙ old_inputs) j) in
      let said = refusal_said (step (flow_of plan inputs) z.0 h.at.event) stopped.error (subst (λ f. IsRefusal (step f z.0 h.at.event) stopped.error) new_flow (h.refused z.0 z.3)) known in
      let whole = replayed_to (flow_of plan inputs) h.front h.at h.rest opening z.0 said.0 reached said.1 in
      ap (λ ls. writes_state name feed (replayed (flow_of plan inputs) ls opening)) (sym h.lines_are) ∙ ap (writes_state name feed) whole
      ∙ (λ j. Refuses (line_of name (at_line (sym h.line j) (sym said.2 j))))

  pub replays_refused : (stopped : Stopped) (why : Stop) → IsStopped old new lines stopped → IsRefusedBy why (line_of name (at_line stopped.line (error_text stopped.error))) (stopped.error ≢ error.OutOfMemory)
      → StopsIn (replays name feed lines) why
  replays_refused stopped stop.Usage h by = by
  replays_refused stopped (stop.Refused said) h by = refuses stopped h by.1 ∙ ap Refuses (sym by.0)
  replays_refused stopped (stop.CannotRead said) h by = by
  replays_refused stopped stop.CannotWrite h by = by
  replays_refused stopped (stop.PairLost stage part said) h by = by
  replays_refused stopped stop.OutOfMemory h by = tt

-- what gives nothing gives whatever is wanted
pub none_ok : {X E : Type 0} (r : Result X E) (P : X → Type 0) → OnOk r ⊥ → IfOk r P
none_ok (Ok x) P none = absurd none
none_ok (Err e) P none = tt

pub want_stops : {X : Type 0} (r : Result X Stop) (course : Course) → IfErr r (λ why. why ≡ stop.OutOfMemory) → IfErr r (StopsIn course)
want_stops (Ok x) course want = tt
want_stops (Err why) course want = subst (StopsIn course) (sym want) tt
