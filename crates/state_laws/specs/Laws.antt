-- What an operator's answers depend on.
use Rattle.std.specs.Prelude.{◌≡◌, List, [], ◌∷◌, ◌++◌}
use Rattle.tuple_edge.specs.declared.item.Item.{Item}
use Rattle.op_spec.specs.Spec.{IsSpec}
use Rattle.op_spec.specs.declared.spec.OpSpec.{OpSpec}
use Rattle.stream_ops.specs.Answers.{answer, answers}
use Rattle.stream_ops.specs.Entries.{entries}

-- after some items an operator answers the next one as after others of the same entries
abbrev pub AnswersComeFromEntries : Type 0
AnswersComeFromEntries = (spec : OpSpec) (before others : List Item) (next : Item) → IsSpec spec → entries spec before ≡ entries spec others
    → answer spec before next ≡ answer spec others next

-- items of the same entries have the same entries after one item more
abbrev pub EntriesGoOn : Type 0
EntriesGoOn = (spec : OpSpec) (before others : List Item) (next : Item) → IsSpec spec → entries spec before ≡ entries spec others
    → entries spec (before ++ next ∷ []) ≡ entries spec (others ++ next ∷ [])

-- so an operator answers all later items alike
abbrev pub LaterAnswersComeFromEntries : Type 0
LaterAnswersComeFromEntries = (spec : OpSpec) (before others later : List Item) → IsSpec spec → entries spec before ≡ entries spec others
    → answers spec before later ≡ answers spec others later
