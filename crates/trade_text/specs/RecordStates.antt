-- The states and actions of the machine that cuts records out of bytes, as those of csv's machine.
use Rattle.std.specs.Prelude.{Bool, true, false}
use Rattle.csv.specs.declared.parser.Action.{Action}
use Rattle.csv.specs.declared.parser.Action.TheVariants as action
use Rattle.csv.specs.declared.parser.State.{State}
use Rattle.csv.specs.declared.parser.State.TheVariants as state
use Rattle.trade_text.specs.declared.record_state.RecordAction.{RecordAction}
use Rattle.trade_text.specs.declared.record_state.RecordAction.TheVariants as does
use Rattle.trade_text.specs.declared.record_state.RecordState.{RecordState}
use Rattle.trade_text.specs.declared.record_state.RecordState.TheVariants as stands

-- the state of csv's machine for which a state stands
abbrev pub state_of : RecordState → State
state_of stands.StartRecord = state.StartRecord
state_of stands.StartField = state.StartField
state_of stands.InField = state.InField
state_of stands.InQuoted = state.InQuoted
state_of stands.AfterQuote = state.AfterQuote
state_of stands.AfterCr = state.AfterCr

-- what csv's machine does where this is done
abbrev pub action_of : RecordAction → Action
action_of does.Skip = action.Skip
action_of does.Copy = action.Copy
action_of does.EndField = action.EndField
action_of does.EndRecord = action.EndRecord

-- a step as one of csv's machine
abbrev pub csv_step : RecordState × RecordAction → State × Action
csv_step to = (state_of to.0, action_of to.1)

-- whether an action ends a field
abbrev pub is_field_end : Action → Bool
is_field_end action.EndField = true
is_field_end action.EndRecord = true
is_field_end action.Skip = false
is_field_end action.Copy = false
