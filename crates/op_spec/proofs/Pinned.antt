-- The constants of the code are the limits that the definitions state.
use Rattle.std.proofs.Common.{◌≡◌, refl}
use Rattle.op_spec.specs.Limits.{max_join_rows, max_last_rows, max_time_seconds, max_window_seconds}
use Rattle.op_spec.specs.declared.spec.TheConstants.{MAX_JOIN_ROWS, MAX_LAST_ROWS, MAX_TIME_SECONDS, MAX_WINDOW_SECONDS}

pub join_rows : MAX_JOIN_ROWS ≡ max_join_rows
join_rows = refl

pub last_rows : MAX_LAST_ROWS ≡ max_last_rows
last_rows = refl

pub window_seconds : MAX_WINDOW_SECONDS ≡ max_window_seconds
window_seconds = refl

pub time_seconds : MAX_TIME_SECONDS ≡ max_time_seconds
time_seconds = refl
