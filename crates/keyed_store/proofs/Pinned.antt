-- The constants of the code are the limits that the definitions state.
use Rattle.std.proofs.Common.{◌≡◌, refl}
use Rattle.keyed_store.specs.Limits.{first_right_slot, max_join_rows}
use Rattle.keyed_store.specs.declared.rows.TheConstants.{FIRST_RIGHT_SLOT, MAX_JOIN_ROWS}

pub join_rows : MAX_JOIN_ROWS ≡ max_join_rows
join_rows = refl

pub right_slot : FIRST_RIGHT_SLOT ≡ first_right_slot
right_slot = refl
