-- The end of a lossy ring on which a node receives may go to another thread.
use denote.RattleType.{RattleType}
use denote.Param.Send.{IsSend, arg_send, param_send, sendable}
use denote.Param.SendFields.{as_row_send, declared_send}
use Rattle.std.proofs.Crossing.{crosses}
use Rattle.std.proofs.option.Option.TheSendSync as option
use Rattle.flux_link.specs.contracts.lossy.LossyIn as lossy
use Rattle.flux_link.specs.contracts.rings.RingIn as ring_in
use Rattle.flux_link.specs.contracts.rings.RingInInlet.TheImpl as ring_inlet
use Rattle.flux_link.specs.declared.traits.Inlet as inlet
use Rattle.flux_link.proofs.arrival.Arrival.TheSendSync as arrival
use Rattle.flux_link.proofs.lossy.Choice.TheSendSync as choice
use Rattle.flux_link.proofs.ready.Ready.TheSendSync as ready
use Rattle.flux_link.proofs.rings.RingIn.TheSendSync as ring
use Rattle.test_runner.proofs.lossy.run_treated.Lts as lts
use Rattle.test_runner.proofs.lossy.run_treated.Goals as goal

-- field by field: the inner inlet, the choices, the place of the next one, what is held, what is ready, and the inner inlet as it was handed over
lossy_send : (R : RattleType) (g : inlet.Ghosts R.Denot) → IsSend R → IsSend (lossy.the_row R g)
lossy_send R g s = declared_send (lossy.the_type R g) (
  search (as_row_send, s),
  (
    search (as_row_send, crosses, choice.the_send),
    (
      search sendable,
      (search (as_row_send, option.the_field_send, arrival.the_send), (search (as_row_send, ready.the_send), (search crosses, tt))),
    ),
  ),
)

pub run-requires-send-M-In : goal.run-requires-send-M-In
run-requires-send-M-In g c κs within = param_send 4 (lts.arg-1-4 g.row.R g.R.laws g.R.Threads-dict g.R.Abort-dict κs) (search (arg_send, lossy_send ring_in.the_row ring_inlet.ghosts ring.the_send))
