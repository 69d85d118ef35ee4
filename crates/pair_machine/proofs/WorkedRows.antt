-- The worked rows, computed.
use Rattle.std.proofs.Common.{[], ◌∷◌, ◌≡◌, ◌≤◌, ℕ, None, Some, false, inl, inr, refl, subst, arith}
use Rattle.std.proofs.lemmas.List.Elements.{All-cons, All-nil}
use Rattle.plan_reader.specs.PlanView.{IsPlan, IsStage, is_joining}
use Rattle.pair_machine.specs.Counts.{flow_of}
use Rattle.pair_machine.specs.Lists.{Among}
use Rattle.pair_machine.specs.Machine.{step}
use Rattle.pair_machine.specs.WorkedRows.{WorkedRows, replica_a, replica_b, total, totals, totals_of_both, totals_of_totals}
use Rattle.pair_machine.specs.declared.order.Order.{Order}

is_total : IsStage total
is_total = record { some = omega arith; few = omega arith; op = tt; limit = tt }

is_totals : IsPlan totals
is_totals = record {
  version_low = omega arith;
  version_high = omega arith;
  some = omega arith;
  few = omega arith;
  stages = All-cons IsStage total [] is_total (All-nil IsStage);
  join_last = All-nil (λ s. is_joining s ≡ false);
  mark_low = omega arith;
  mark_high = omega arith;
  hold_low = omega arith;
  hold_high = omega arith;
  edges = omega arith;
}

is_totals_of_totals : IsPlan totals_of_totals
is_totals_of_totals = record {
  version_low = omega arith;
  version_high = omega arith;
  some = omega arith;
  few = omega arith;
  stages = All-cons IsStage total (total ∷ []) is_total (All-cons IsStage total [] is_total (All-nil IsStage));
  join_last = All-cons (λ s. is_joining s ≡ false) total [] refl (All-nil (λ s. is_joining s ≡ false));
  mark_low = omega arith;
  mark_high = omega arith;
  hold_low = omega arith;
  hold_high = omega arith;
  edges = omega arith;
}

is_totals_of_both : IsPlan totals_of_both
is_totals_of_both = record {
  version_low = omega arith;
  version_high = omega arith;
  some = omega arith;
  few = omega arith;
  stages = All-cons IsStage total [] is_total (All-nil IsStage);
  join_last = All-nil (λ s. is_joining s ≡ false);
  mark_low = omega arith;
  mark_high = omega arith;
  hold_low = omega arith;
  hold_high = omega arith;
  edges = omega arith;
}

-- the one order of a script has such a count
one_order : (n : ℕ) (o x : Order) → Among o (x ∷ []) → o.at ≤ n → x.at ≤ n
one_order n o x (inl e) h = subst (λ (z : Order). z.at ≤ n) e h
one_order n o x (inr e) h = absurd e

own_stop : Order
own_stop = record { node = replica_a 1; kill = false; at = 1; back = None }

partner_stop : Order
partner_stop = record { node = replica_b 1; kill = false; at = 1; back = Some 1 }

pub worked_rows : WorkedRows
unfolding step flow_of own_stop partner_stop
worked_rows = record {
  plans = (is_totals, is_totals_of_totals, is_totals_of_both);
  survivor_sends_on = (refl, refl, refl, refl, refl);
  late_report_counts_for_nothing = refl;
  low_above_made = refl;
  made_up_to_low = refl;
  repeats_and_gaps = refl;
  gap_is_filled = refl;
  chunks_have_an_order = (refl, refl);
  all_chunks_and_the_end = refl;
  held_is_folded_in = refl;
  fold_in_ends_at_a_gap = refl;
  stop_waits = refl;
  not_sent = refl;
  killed_twice = refl;
  made_twice = refl;
  control_works = refl;
  pulled_twice = refl;
  both_sources = (refl, refl, refl, refl);
  joined_rows = (refl, refl);
  first_source_is_pulled_first = refl;
  pulled_out = refl;
  first_source_sends_first = (refl, refl);
  both_killed = λ served. elim served as (λ h. ⊥) [ inl x ↦ absurd x.0 | inr x ↦ absurd x.0 ];
  one_killed = inr (tt, refl);
  stopped_at_its_count = record {
    allowed = (tt, (tt, (tt, ((record { node = replica_a 1; kill = false; at = 1; back = None }, inl refl, refl, refl, omega arith), tt))));
    once = ((tt, (tt, (tt, tt))), ((tt, (tt, tt)), ((tt, tt), (tt, tt))));
  };
  stopped_too_soon = λ w. let x = w.allowed.1.1.1.0 in let y : 2 ≤ 1 = one_order 1 x.0 (record { node = replica_a 1; kill = false; at = 2; back = None }) x.1 x.4 in omega (arith, y);
  stopped_twice = λ w. w.once.1.1.1.0.0 refl;
  asked_by_two_orders = record {
    allowed = (tt, (tt, (tt, ((own_stop, inl refl, refl, refl, omega arith), ((partner_stop, inr (inl refl), refl, 1, refl, omega arith), tt)))));
    once = ((tt, (tt, (tt, (tt, tt)))), ((tt, (tt, (tt, tt))), ((tt, (tt, tt)), (((λ e. let z : ⊥ = cc e in z), tt), (tt, tt)))));
  };
  drained_from_the_opening = refl;
  drained_by_the_survivor = refl;
  drained_by_stages = refl;
  drained_of_both_sources = refl;
  drained_already = refl;
  second_pair_is_lost = refl;
}
