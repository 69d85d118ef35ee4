-- Where files tell what they hold, words come to one answer or to a refusal.
use Rattle.std.proofs.Common.{ℕ, ◌≡◌, Bool, true, false, List, [], ◌∷◌, refl, sym, ◌∙◌, ap, subst, Some, None, Option}
use Rattle.tuple_edge.specs.declared.event.Drained.{Drained}
use Rattle.tuple_edge.specs.declared.event.Drained.TheVariants as drained
use Rattle.tuple_edge.specs.declared.event.Event.{Event}
use Rattle.tuple_edge.specs.declared.row.Row.{Row}
use Rattle.pair_machine.specs.Scripts.{IsSafe}
use Rattle.drained_run.specs.Ended.{EndsSo}
use Rattle.command_course.specs.Course.{Course, Leads, Reads, Refuses, Run, Runs, Writes}
use Rattle.flux_outside.specs.Outside.{Call, Names}
use Rattle.flux_outside.specs.Told.{FilesTold, SinkTold}
use Rattle.flux_top.specs.Ends.{saves_of}
use Rattle.command_course.specs.Answers.{AnswerView, status_of}
use Rattle.command_course.specs.declared.answer.Ending.{Ending}
use Rattle.command_course.specs.declared.answer.Ending.TheVariants.{Done, Lost, Warned}
use Rattle.look_top.specs.Asked.{Answers, AsksFor, Rehearses, LookTask, asked, way_in}
use Rattle.look_top.specs.Clauses.{CameTo, ComesTo, ComesToRefusal, Rejects, RejectsBy, RunsBy, RunsSo, Settles, SettlesBy, WritesWhole, answer_with}
use Rattle.rehearse_command.specs.Rehearsals.{ending_after, told_of}
use Rattle.run_command.specs.Endings.{Ending as Written}
use Rattle.run_rehearsal.specs.Fates.{are_obeyed}

-- a course that reads no further input
abbrev IsOver : Course → Type 0
IsOver (Reads name most next) = ⊥
IsOver (Writes text) = Unit {0}
IsOver (Runs run) = Unit {0}
IsOver (Refuses line) = Unit {0}

same_value : {A : Type 0} {x y : A} → Some x ≡ Some y → x ≡ y
same_value e = cc

none_not_some : {A : Type 0} {x : A} → None ≡ Some x → ⊥
none_not_some e = cc

-- a course has one end
one_end : (named : Names) (course : Course) (xs ys : List Call) (x y : Course) → IsOver x → IsOver y → Leads (Some named) course xs x → Leads (Some named) course ys y → x ≡ y
one_end named course [] [] x y end_x end_y to_x to_y = sym to_x ∙ to_y
one_end named (Reads name most next) [] (call ∷ ys) x y end_x end_y to_x to_y = absurd (subst IsOver (sym to_x) end_x)
one_end named (Reads name most next) (call ∷ xs) [] x y end_x end_y to_x to_y = absurd (subst IsOver (sym to_y) end_y)
one_end named (Reads name most next) (call ∷ xs) (other ∷ ys) x y end_x end_y to_x to_y =
    one_end named (next to_x.1.0) xs ys x y end_x end_y to_x.1.2 (subst (λ bytes. Leads (Some named) (next bytes) ys y) (same_value (sym to_y.1.1 ∙ to_x.1.1)) to_y.1.2)
one_end named (Writes text) [] (call ∷ ys) x y end_x end_y to_x to_y = absurd to_y
one_end named (Writes text) (call ∷ xs) ys x y end_x end_y to_x to_y = absurd to_x
one_end named (Runs run) [] (call ∷ ys) x y end_x end_y to_x to_y = absurd to_y
one_end named (Runs run) (call ∷ xs) ys x y end_x end_y to_x to_y = absurd to_x
one_end named (Refuses line) [] (call ∷ ys) x y end_x end_y to_x to_y = absurd to_y
one_end named (Refuses line) (call ∷ xs) ys x y end_x end_y to_x to_y = absurd to_x

-- a way by which it is seen what an answer is marked with
shows : (AnswerView → ℕ) → AnswerView → Course
shows mark a = Writes (mark a ∷ [])

mark_in : Course → ℕ
mark_in (Writes (b ∷ text)) = b
mark_in (Writes []) = 0
mark_in (Reads name most next) = 0
mark_in (Runs run) = 0
mark_in (Refuses line) = 0

text_no_refusal : (text line : List ℕ) → Writes text ≡ Refuses line → ⊥
text_no_refusal text line e = cc

-- words ask for one task
same_task : (words : List (List ℕ)) (task other : LookTask) → asked words ≡ Some task → asked words ≡ Some other → task ≡ other
same_task words task other is other_is = same_value (sym is ∙ other_is)

-- What is settled is settled of named files, and so is what is rejected.
record SettledOf (told : Option Names) (words : List (List ℕ)) (of : AnswerView) : Type 0 where
  named : Names
  is : told ≡ Some named
  asks : AsksFor words (SettlesBy named of)

settled_of : (told : Option Names) (words : List (List ℕ)) (of : AnswerView) → Settles told words of → SettledOf told words of
settled_of None words of settled = absurd settled
settled_of (Some named) words of settled = record { named = named; is = refl; asks = settled }

record RejectedOf (told : Option Names) (words : List (List ℕ)) : Type 0 where
  named : Names
  is : told ≡ Some named
  by : RejectsBy named words

rejected_of : (told : Option Names) (words : List (List ℕ)) → Rejects told words → RejectedOf told words
rejected_of None words rejects = absurd rejects
rejected_of (Some named) words rejects = record { named = named; is = refl; by = rejects }

module _ (named : Names) (told : Option Names) (told_is : told ≡ Some named) where
  -- what leads over what is told leads over what is named
  named_leads : (course there : Course) (calls : List Call) → Leads told course calls there → Leads (Some named) course calls there
  named_leads course there calls leads = subst (λ t. Leads t course calls there) told_is leads

module _ (mark : AnswerView → ℕ) (named : Names) (before after : FilesTold) (is : before.contents ≡ Some named) (ending : Ending) (written : Written) (more : List Call) (of : AnswerView) where
  -- what a task settles is the answer that it comes to
  task_mark : (task : LookTask) → SettlesBy named of task → CameTo before after ending written more task → mark (answer_with ending written) ≡ mark of
  unfolding shows mark_in
  task_mark (Answers way) settles came =
      let to = came (shows mark) in
      ap mark_in (one_end named (way (shows mark)) to.reads settles.0 (shows mark (answer_with ending written)) (shows mark of) tt tt
      (named_leads named before.contents is (way (shows mark)) (shows mark (answer_with ending written)) to.reads to.leads) (settles.1 (shows mark)))
  task_mark (Rehearses course picture) settles came = absurd settles

-- what files settle is the answer that the words come to
same_mark : (mark : AnswerView → ℕ) (before after : FilesTold) (words : List (List ℕ)) (ending : Ending) (written : Written) (more : List Call) (of : AnswerView) → Settles before.contents words of
    → ComesTo before after words ending written more → mark (answer_with ending written) ≡ mark of
same_mark mark before after words ending written more of settled comes =
    let it = settled_of before.contents words of settled in
    task_mark mark it.named before after it.is ending written more of it.asks.course it.asks.fact
    (subst (CameTo before after ending written more) (same_task words comes.course it.asks.course comes.is_asked it.asks.is_asked) comes.fact)

-- so it ends
pub settled_status : (before after : FilesTold) (words : List (List ℕ)) (ending : Ending) (old new : SinkTold) (of : AnswerView) → Settles before.contents words of
    → WritesWhole before after words ending old new → status_of ending ≡ status_of of.ending
settled_status before after words ending old new of settled writes =
    same_mark (λ a. status_of a.ending) before after words ending writes.ending (saves_of writes.ending.saved) of settled writes.finishes.comes

-- whether a file is saved
saves_mark : Option (List ℕ × List ℕ) → ℕ
saves_mark None = 0
saves_mark (Some saved) = 1

no_mark : (saved : Option (List ℕ × List ℕ)) → saves_mark saved ≡ 0 → saved ≡ None
unfolding saves_mark
no_mark None is = refl
no_mark (Some saved) is = cc

none_marked : (saved : Option (List ℕ × List ℕ)) → saved ≡ None → saves_mark saved ≡ 0
unfolding saves_mark
none_marked saved is = ap saves_mark is

-- and so much it saves: nothing, where the answer has no file
pub settled_saves : (before after : FilesTold) (words : List (List ℕ)) (ending : Ending) (written : Written) (more : List Call) (of : AnswerView) → Settles before.contents words of → of.saved ≡ None
    → ComesTo before after words ending written more → written.saved ≡ None
settled_saves before after words ending written more of settled none comes =
    no_mark written.saved (same_mark (λ a. saves_mark a.saved) before after words ending written more of settled comes ∙ none_marked of.saved none)

nothing_marked : AnswerView → ℕ
nothing_marked a = 0

-- what a task settles isn't refused
task_unrefused : (named : Names) (line : List ℕ) (of : AnswerView) (calls : List Call) (task : LookTask) → SettlesBy named of task → Leads (Some named) (way_in task (shows nothing_marked)) calls (Refuses line) → ⊥
unfolding shows
task_unrefused named line of calls (Answers way) settles leads =
    text_no_refusal _ line (one_end named (way (shows nothing_marked)) settles.0 calls (shows nothing_marked of) (Refuses line) tt tt (settles.1 (shows nothing_marked)) leads)
task_unrefused named line of calls (Rehearses course picture) settles leads = absurd settles

-- what is settled isn't refused
pub settled_unrefused : (before after : FilesTold) (words : List (List ℕ)) (line : List ℕ) (of : AnswerView) → Settles before.contents words of
    → ComesToRefusal before after words line → ⊥
settled_unrefused before after words line of settled comes =
    let it = settled_of before.contents words of settled in
    let came = comes.fact (shows nothing_marked) in
    task_unrefused it.named line of came.calls it.asks.course it.asks.fact
    (subst (λ task. Leads (Some it.named) (way_in task (shows nothing_marked)) came.calls (Refuses line)) (same_task words comes.course it.asks.course comes.is_asked it.asks.is_asked)
    (named_leads it.named before.contents it.is (way_in comes.course (shows nothing_marked)) (Refuses line) came.calls came.leads))

run_no_refusal : (run : Run) (line : List ℕ) → Runs run ≡ Refuses line → ⊥
run_no_refusal run line e = cc

module _ (named : Names) (before after : FilesTold) (is : before.contents ≡ Some named) (ending : Ending) (written : Written) (more : List Call) (line : List ℕ) (calls : List Call) where
  -- a task that is refused comes to no answer
  task_unanswered : (task : LookTask) → CameTo before after ending written more task → Leads (Some named) (way_in task (shows nothing_marked)) calls (Refuses line) → ⊥
  unfolding shows
  task_unanswered (Answers way) came leads =
      let to = came (shows nothing_marked) in
      text_no_refusal _ line (one_end named (way (shows nothing_marked)) to.reads calls (shows nothing_marked (answer_with ending written)) (Refuses line) tt tt
      (named_leads named before.contents is (way (shows nothing_marked)) (shows nothing_marked (answer_with ending written)) to.reads to.leads) leads)
  task_unanswered (Rehearses course picture) came leads =
      run_no_refusal came.0 line (one_end named course came.1.reads calls (Runs came.0) (Refuses line) tt tt
      (named_leads named before.contents is course (Runs came.0) came.1.reads came.1.leads) leads)

-- what is refused comes to no answer
pub rejected_unanswered : (before after : FilesTold) (words : List (List ℕ)) (ending : Ending) (written : Written) (more : List Call) → Rejects before.contents words
    → ComesTo before after words ending written more → ⊥
rejected_unanswered before after words ending written more rejects comes =
    let it = rejected_of before.contents words rejects in
    task_unanswered it.named before after it.is ending written more it.by.line it.by.calls it.by.leads.course
    (subst (CameTo before after ending written more) (same_task words comes.course it.by.leads.course comes.is_asked it.by.leads.is_asked) comes.fact)
    (it.by.leads.fact (shows nothing_marked))

-- ---- a rehearsal

record RunsOf (told : Option Names) (words : List (List ℕ)) (kind : Run → Type 0) : Type 0 where
  named : Names
  is : told ≡ Some named
  asks : AsksFor words (RunsBy named kind)

runs_of : (told : Option Names) (words : List (List ℕ)) (kind : Run → Type 0) → RunsSo told words kind → RunsOf told words kind
runs_of None words kind runs = absurd runs
runs_of (Some named) words kind runs = record { named = named; is = refl; asks = runs }

pub runs_asked : (kind : Run → Type 0) (told : Option Names) (words : List (List ℕ)) → RunsSo told words kind → asked words ≡ None → ⊥
runs_asked kind None words runs none = runs
runs_asked kind (Some named) words runs none = none_not_some (sym none ∙ runs.is_asked)

-- a task that comes to a run isn't refused
task_runs : (kind : Run → Type 0) (named : Names) (line : List ℕ) (calls : List Call) (task : LookTask) → RunsBy named kind task → Leads (Some named) (way_in task (shows nothing_marked)) calls (Refuses line) → ⊥
task_runs kind named line calls (Answers way) runs leads = absurd runs
task_runs kind named line calls (Rehearses course picture) runs leads = run_no_refusal runs.1 line (one_end named course runs.0 calls (Runs runs.1) (Refuses line) tt tt runs.3 leads)

pub runs_unrefused : (kind : Run → Type 0) (before after : FilesTold) (words : List (List ℕ)) (line : List ℕ) → RunsSo before.contents words kind → ComesToRefusal before after words line → ⊥
runs_unrefused kind before after words line runs comes =
    let it = runs_of before.contents words kind runs in
    let came = comes.fact (shows nothing_marked) in
    task_runs kind it.named line came.calls it.asks.course it.asks.fact
    (subst (λ task. Leads (Some it.named) (way_in task (shows nothing_marked)) came.calls (Refuses line)) (same_task words comes.course it.asks.course comes.is_asked it.asks.is_asked)
    (named_leads it.named before.contents it.is (way_in comes.course (shows nothing_marked)) (Refuses line) came.calls came.leads))

-- how a rehearsal may end
pub data RanSo (kind : Run → Type 0) (ending : Ending) : Type 0 where
  Obeyed : ending ≡ Done → RanSo kind ending
  Unobeyed : ending ≡ Warned → RanSo kind ending
  LostSome : (stage part : ℕ) → ending ≡ Lost stage part → (run : Run) → kind run → (IsSafe run.script → ⊥) → RanSo kind ending

same_run : (run other : Run) → Runs run ≡ Runs other → run ≡ other
same_run run other e = cc

-- a rehearsal ends in one of three ways
ran_so : (kind : Run → Type 0) (run : Run) (ending : Ending) (events : List Event) (rows : List Row) (obeyed : Bool) (how : Drained) → kind run
    → EndsSo run.feed.plan run.feed.inputs run.script events rows how → ending ≡ ending_after obeyed how → RanSo kind ending
ran_so kind run ending events rows true drained.Whole is_kind ends is = Obeyed is
ran_so kind run ending events rows false drained.Whole is_kind ends is = Unobeyed is
ran_so kind run ending events rows obeyed (drained.Lost stage part) is_kind ends is = LostSome stage part is run is_kind ends.unsafe

module _ (kind : Run → Type 0) (named : Names) (before after : FilesTold) (is : before.contents ≡ Some named) (ending : Ending) (written : Written) (more : List Call) where
  task_ran : (task : LookTask) → RunsBy named kind task → CameTo before after ending written more task → RanSo kind ending
  task_ran (Answers way) runs came = absurd runs
  task_ran (Rehearses course picture) runs came =
      let same : runs.1 ≡ came.0 = same_run runs.1 came.0 (one_end named course runs.0 came.1.reads (Runs runs.1) (Runs came.0) tt tt runs.3
      (named_leads named before.contents is course (Runs came.0) came.1.reads came.1.leads)) in
      let run = came.0 in
      let it = came.2 in
      ran_so kind run ending it.events it.rows (are_obeyed (told_of run.feed.plan run.feed.inputs it.events) run.script) it.how (subst kind same runs.2) it.ends it.ending

pub runs_ran : (kind : Run → Type 0) (before after : FilesTold) (words : List (List ℕ)) (ending : Ending) (written : Written) (more : List Call) → RunsSo before.contents words kind
    → ComesTo before after words ending written more → RanSo kind ending
runs_ran kind before after words ending written more runs comes =
    let it = runs_of before.contents words kind runs in
    task_ran kind it.named before after it.is ending written more it.asks.course it.asks.fact
    (subst (CameTo before after ending written more) (same_task words comes.course it.asks.course comes.is_asked it.asks.is_asked) comes.fact)

-- both ask for something
pub settled_asked : (told : Option Names) (words : List (List ℕ)) (of : AnswerView) → Settles told words of → asked words ≡ None → ⊥
settled_asked None words of settled none = settled
settled_asked (Some named) words of settled none = none_not_some (sym none ∙ settled.is_asked)

pub rejected_asked : (told : Option Names) (words : List (List ℕ)) → Rejects told words → asked words ≡ None → ⊥
rejected_asked None words rejected none = rejected
rejected_asked (Some named) words rejected none = none_not_some (sym none ∙ rejected.leads.is_asked)
