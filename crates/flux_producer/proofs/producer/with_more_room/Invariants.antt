use Rattle.std.proofs.Common.{◌≤◌, ◌≡◌}
use Rattle.std.specs.Prelude.{vec_len, vec_capacity}
use Rattle.flux_producer.proofs.Rooms.{HaveMore}
use Rattle.flux_producer.proofs.producer.with_more_room.Given as goal

abbrev pub invariant-loop-to : goal.invariant-loop-to
invariant-loop-to l = record {
  more : HaveMore l.edges.items l.roomy.items l.to l.items;
  len : vec_len l.roomy ≡ l.to;
  room : vec_len l.edges ≤ vec_capacity l.roomy;
}
