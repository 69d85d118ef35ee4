-- On which of the rows that come to a stage those rest that are asked about of the rows that it passes on.
use Rattle.std.specs.Prelude.{ℕ, ◌+◌, Bool, true, false, List, [], ◌∷◌, ◌++◌, flat_map, length, replicate, if◌then◌else◌, slice_index_or, slice_set}
use Rattle.tuple_edge.specs.declared.row.Row.{Row}
use Rattle.op_spec.specs.declared.spec.OpSpec.{OpSpec}
use Rattle.plan_reader.specs.declared.stage.Stage.{Stage}
use Rattle.row_cause.specs.Causes.{Cause, counted, spoke}
use Rattle.row_cause.specs.declared.placed.Placed.{Placed}
use Rattle.row_origin.specs.Stages.{stage_causes}

-- a mark for each row that comes to a stage: whether an asked-about row rests on it, and whether it counts into one; one that only closed a
-- window doesn't count
pub record Roles : Type 0 where
  pub rests : List Bool
  pub counts : List Bool

-- marks, with those at the places of these rows
abbrev pub marked : List Placed → List Bool → List Bool
marked [] marks = marks
marked (x ∷ placed) marks = marked placed (slice_set marks x.place true)

-- the rows on which an answer rests: those before, and the one that spoke
abbrev pub rested : Cause → List Placed
rested c = c.before ++ spoke c.speaker

-- roles, with those that rows have in these causes
abbrev pub with_causes : OpSpec → List Cause → Roles → Roles
with_causes op causes roles = record { rests = marked (flat_map rested causes) roles.rests; counts = marked (flat_map (counted op) causes) roles.counts }

-- those of causes whose answers are asked about, where the first one is that of answer n
abbrev pub asked_from : ℕ → List Bool → List Cause → List Cause
asked_from n asked [] = []
asked_from n asked (c ∷ causes) = if slice_index_or asked n false then c ∷ asked_from (n + 1) asked causes else asked_from (n + 1) asked causes

-- the causes of the rows that are asked about of those that a stage passes on
abbrev pub asked_causes : Stage → List Row → List Row → List Bool → List Cause
asked_causes stage early late asked = asked_from 0 asked (stage_causes stage early late)

-- no roles, of so many rows
abbrev pub no_roles : ℕ → Roles
no_roles n = record { rests = replicate n false; counts = replicate n false }

-- the roles of the rows that come to a stage, where these are asked about of those that it passes on
abbrev pub stage_roles : Stage → List Row → List Row → List Bool → Roles
stage_roles stage early late asked = with_causes stage.op (asked_causes stage early late asked) (no_roles (length (early ++ late)))
