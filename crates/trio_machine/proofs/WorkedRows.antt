-- The worked rows, computed.
use Rattle.std.proofs.Common.{refl, arith}
use Rattle.pair_machine.specs.Counts.{flow_of}
use Rattle.trio_machine.specs.Machine.{step}
use Rattle.trio_machine.specs.WorkedRows.{WorkedRows}
use Rattle.trio_machine.proofs.Served.{lost_where}
use Rattle.pair_machine.proofs.WorkedRows.{worked_rows as pair_rows}

pub worked_rows : WorkedRows
unfolding step flow_of
worked_rows = record {
  plans = (record { within = pair_rows.plans.0; one_source = refl }, record { within = pair_rows.plans.1; one_source = refl });
  third_leads = (refl, refl, refl, (2, record { there = omega arith; running = tt; counted = refl }));
  third_drains = refl;
  all_fail = (lost_where _ _ refl, refl);
  no_leader = refl;
  two_of_three = (refl, refl);
  all_of_three = (refl, refl);
  least_of_two = (refl, refl);
  next_leads = refl;
  sent_to_three = refl;
  egress_tells_three = refl;
  not_sent = refl;
  killed_twice = refl;
  made_twice = refl;
  control_works = refl;
  gone_works = refl;
  pulled_twice = refl;
  pulled_by_gone = refl;
  drained_already = refl;
  drained_by_stages = refl;
}
