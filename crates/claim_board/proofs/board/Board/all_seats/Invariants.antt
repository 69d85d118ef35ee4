use Rattle.std.proofs.Common.{◌≡◌, ◌+◌, ◌≤◌, vec_len, vec_capacity}
use Rattle.claim_board.proofs.NewSeats.{IsMaking}
use Rattle.claim_board.proofs.board.Board.all_seats.Given as goal

abbrev pub invariant-loop-made : goal.invariant-loop-made
invariant-loop-made g l = record { making : IsMaking l.self l.all.items l.first l.made; long : vec_len l.all + 1 ≡ l.made; room : l.count ≤ vec_capacity l.all }
