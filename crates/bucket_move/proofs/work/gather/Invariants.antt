use Rattle.std.proofs.Common.{◌≡◌, ◌≤◌, ◌+◌, ◌-◌, ◌++◌, List, Option, length, take, drop, vec_len}
use Rattle.std.specs.Prelude.{flat_map, vec_capacity}
use Rattle.std.specs.Option.{option_to_list}
use Rattle.tuple_edge.specs.declared.row.Row.{Row}
use Rattle.bucket_move.specs.Working.{AllAnswered, kept_in, queues_in}
use Rattle.bucket_move.proofs.work.gather.Given as goal

abbrev pub invariant-loop-place : goal.invariant-loop-place
invariant-loop-place l = record {
  room : vec_len l.emitted + (length l.places - l.place-index) ≤ vec_capacity l.emitted;
  kept : kept_in l.parts ≡ kept_in l.initial.parts;
  gathers : (answers : List (Option Row)) → length answers ≡ length l.places → AllAnswered l.places answers (queues_in l.initial.parts)
      → AllAnswered (drop l.place-index l.places) (drop l.place-index answers) (queues_in l.parts)
      × (l.emitted.items ≡ l.initial.emitted.items ++ flat_map option_to_list (take l.place-index answers));
}
