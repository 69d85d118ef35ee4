-- What came to a node, as it shows in what may be the inputs, and what a source gave.
use Rattle.std.specs.Prelude.{List, [], ◌∷◌}
use mathlib.Core.List.{IsPrefix}
use Rattle.tuple_edge.specs.Input.{Input}
use Rattle.node_tasks.specs.declared.source.Came.{Came}
use Rattle.node_tasks.specs.declared.source.Came.TheVariants as came

-- These inputs came to a node: they may be all, and whatever the inputs are, they begin with these.
pub record HaveCome {A : Type 0} (admits : A → List Input → Type 0) (state : A) (came : List Input) : Type 0 where
  pub may : admits state came
  pub front : (inputs : List Input) → admits state inputs → IsPrefix came inputs

-- the input that a source gave where it was asked for the next one, if it gave one
abbrev pub inputs_of : Came → List Input
inputs_of (came.Input input) = input ∷ []
inputs_of came.End = []
inputs_of came.Nothing = []
