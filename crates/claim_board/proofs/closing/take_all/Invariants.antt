use Rattle.std.proofs.Common.{◌≡◌, ℕ, ◌<◌, ◌≤◌, map, vec_len, vec_capacity, true, false, take, slice_index_or}
use Rattle.std.specs.Slots.{slots_items, slots_len, slots_filled}
use Rattle.claim_board.specs.Board.{opening_of}
use Rattle.claim_board.proofs.closing.take_all.Given as goal

abbrev pub invariant-loop-place : goal.invariant-loop-place
invariant-loop-place g l = record {
  count : vec_len l.list ≡ l.place;
  room : l.places ≤ vec_capacity l.list;
  long : slots_len l.closed.slots ≡ l.places;
  items : slots_items l.closed.slots ≡ slots_items l.initial.closed.slots;
  names : map g.T.Named.name l.list.items ≡ take l.place (map g.T.Named.name (opening_of l._before.value));
  taken : (k : ℕ) → k < l.place → slice_index_or (slots_filled l.closed.slots) k false ≡ false;
  left : (k : ℕ) → l.place ≤ k → k < l.places → slice_index_or (slots_filled l.closed.slots) k false ≡ true;
}
