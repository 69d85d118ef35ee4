use Rattle.std.proofs.Common.{◌≡◌, ◌++◌, ◌∷◌, [], List, Option, ap, ◌∙◌, arith}
use Rattle.std.specs.Prelude.{slice_get, slice_set}
use Rattle.std.proofs.lemmas.List.{get_or_read}
use Rattle.tuple_edge.specs.declared.row.Row.{Row}
use Rattle.stream_ops.specs.Answers.{row_answer}
use Rattle.stream_ops.specs.State.{StateView, unseen}
use Rattle.bucket_move.specs.Rows.{items_of}
use Rattle.bucket_move.specs.Working.{first_answer}
use Rattle.bucket_move.proofs.StatesAfter.{items_open, stepped, stood}
use Rattle.bucket_move.proofs.partition.Partition.take.Goals as goal

pub returns-clause-states : goal.returns-clause-states
returns-clause-states c = λ spec rows was.
    let states = c.args.self.now.states.items in
    let read = get_or_read states c.args.bucket c.index_mut.result.now (omega arith) c.index_mut.ensures.value (unseen spec) in
    ap (λ (s : StateView). slice_set states c.args.bucket s)
    (stepped spec rows c.args.row.now c.index_mut.result.now c.step.new.self (read ∙ was) c.in_ok-step.ensures.spec c.in_ok-step.ensures.old c.in_ok-step.ensures.stands)

pub returns-clause-answers : goal.returns-clause-answers
returns-clause-answers c = λ spec rows was.
    let states = c.args.self.now.states.items in
    let read = get_or_read states c.args.bucket c.index_mut.result.now (omega arith) c.index_mut.ensures.value (unseen spec) in
    let stands = stood spec rows c.index_mut.result.now (read ∙ was) in
    let told = c.in_ok-step.ensures.answers (items_of rows) (items_open rows) stands in
    let answer = row_answer spec (items_of rows) c.args.row.now in
    let of_spec : c.index_mut.result.now.spec ≡ spec = ap (λ (s : StateView). s.spec) (read ∙ was) in
    let all : c.deref.result.now ≡ answer =
    c.deref.ensures.value ∙ told ∙ ap (λ (front : List Row). front ++ row_answer c.index_mut.result.now.spec (items_of rows) c.args.row.now) c.clear.ensures.items
    ∙ ap (λ s. row_answer s (items_of rows) c.args.row.now) of_spec in
    let first : c.copied-answer.result ≡ first_answer spec rows c.args.row.now = c.copied-answer.ensures ∙ c.first.ensures.value ∙ ap (λ (xs : List Row). slice_get xs 0) all in
    c.in_ok-push_back.ensures.items ∙ ap (λ (a : Option Row). c.args.self.now.answers.items ++ a ∷ []) first
