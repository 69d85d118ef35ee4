-- The texts of some states, worked by hand: lists of events on small plans, and the lines of the state that each one reaches.
use Rattle.std.specs.Prelude.{ℕ, ◌≡◌, List, [], ◌∷◌, ◌++◌, codes}
use Rattle.std.specs.List.{flat_map}
use Rattle.tuple_edge.specs.declared.event.Event.{Event}
use Rattle.tuple_edge.specs.declared.node.NodeId.TheVariants as node
use Rattle.pair_machine.specs.Counts.{flow_of}
use Rattle.pair_machine.specs.Flow.{Flow}
use Rattle.pair_machine.specs.WorkedRows.{After, ask_back, ask_stop, both_merged, chunks_out_of_order, control, make, one_stage, pull, replica_a, replica_b, take, totals, trades, two_sources, work}
use Rattle.state_text.specs.StateText.{state_text}

-- lines, each of which ends in LF
abbrev pub lines : List (List ℕ) → List ℕ
lines texts = flat_map (λ line. line ++ codes "\n") texts

-- one total by account, with a mark after every second trade
abbrev pub marked : ℕ → Flow
marked n = flow_of (record totals { mark = 2 }) (trades n)

-- B is stopped and brought back as in the list that restarts it; A has sent three chunks of its state when the last two of five trades
-- come, and B holds these two.
abbrev pub half_moved : List Event
half_moved =
    make 3
    ++ pull node.Ingress (replica_a 1) 3
    ++ pull node.Ingress (replica_b 1) 3
    ++ work (replica_a 1) 3
    ++ work (replica_b 1) 3
    ++ ask_stop (replica_b 1)
    ++ take (replica_b 1) (control 1) 1
    ++ ask_back (replica_b 1)
    ++ take (replica_a 1) (control 1) 1
    ++ take (control 1) (replica_b 1) 2
    ++ take (control 1) (replica_a 1) 1
    ++ work (replica_a 1) 3
    ++ make 2
    ++ work node.Ingress 10
    ++ take node.Ingress (replica_b 1) 5
    ++ take node.Ingress (replica_b 1) 4

-- each of these lists of events ends in a state with this text
pub record WorkedTexts : Type 0 where
  -- four trades, their two marks and the end are made
  pub all_made : After (marked 4) (make 5) (λ s. state_text (marked 4) s [] [] ≡ lines (
      codes "state 1"
      ∷ codes "in makes=5"
      ∷ codes "in > 0 low=0 made=7 a=1 b=1"
      ∷ codes "1.0.c term=1 lead=a"
      ∷ codes "1.0.c a=up inc=1 stop=0 back=0"
      ∷ codes "1.0.c b=up inc=1 stop=0 back=0"
      ∷ codes "1.0.c < 0 acked=0 a=0 b=0"
      ∷ codes "1.0.a running inc=1 term=1 leads=1 served=0 count=0"
      ∷ codes "1.0.a < 0 mark=0 told=0"
      ∷ codes "1.0.a > 0 low=0 made=0 a=1"
      ∷ codes "1.0.b running inc=1 term=0 leads=0 served=0 count=0"
      ∷ codes "1.0.b < 0 mark=0 told=0"
      ∷ codes "1.0.b > 0 low=0 made=0 a=1"
      ∷ codes "out count=0 done=0"
      ∷ codes "out < 0 mark=0 told=0"
      ∷ []))
  -- the chunks of a move came to B in another order, so that it has taken one of them
  pub chunks_wait : After (one_stage 3) chunks_out_of_order (λ s. state_text (one_stage 3) s [] [] ≡ lines (
      codes "state 1"
      ∷ codes "in makes=3"
      ∷ codes "in > 0 low=0 made=3 a=1 b=1"
      ∷ codes "1.0.c term=1 lead=a"
      ∷ codes "1.0.c a=up inc=1 stop=0 back=0"
      ∷ codes "1.0.c b=catching inc=2 stop=0 back=0"
      ∷ codes "1.0.c < 0 acked=0 a=0 b=0"
      ∷ codes "1.0.a running inc=1 term=1 leads=1 served=2 count=3"
      ∷ codes "1.0.a < 0 mark=3 told=0"
      ∷ codes "1.0.a > 0 low=0 made=3 a=1"
      ∷ codes "1.0.b gathering inc=2 taken=1"
      ∷ codes "1.0.b < 0 held=-"
      ∷ codes "out count=0 done=0"
      ∷ codes "out < 0 mark=0 told=0"
      ∷ codes "sent 1.0.a>1.0.b 8"
      ∷ codes "sent 1.0.a>1.0.c 1"
      ∷ codes "sent 1.0.b>in 1"
      ∷ codes "sent 1.0.b>1.0.c 1"
      ∷ codes "sent 1.0.c>1.0.a 1"
      ∷ codes "sent 1.0.c>1.0.b 2"
      ∷ []))
  -- a move is under way, and the newcomer holds two trades
  pub move_under_way : After (one_stage 5) half_moved (λ s. state_text (one_stage 5) s [] [] ≡ lines (
      codes "state 1"
      ∷ codes "in makes=5"
      ∷ codes "in > 0 low=0 made=5 a=6 b=6"
      ∷ codes "1.0.c term=1 lead=a"
      ∷ codes "1.0.c a=up inc=1 stop=0 back=0"
      ∷ codes "1.0.c b=catching inc=2 stop=0 back=0"
      ∷ codes "1.0.c < 0 acked=0 a=0 b=0"
      ∷ codes "1.0.a running inc=1 term=1 leads=1 served=2 count=3"
      ∷ codes "1.0.a < 0 mark=3 told=0"
      ∷ codes "1.0.a > 0 low=0 made=3 a=1"
      ∷ codes "1.0.a move target=2 sent=3 of=8"
      ∷ codes "1.0.b gathering inc=2 taken=0"
      ∷ codes "1.0.b < 0 held=4,5"
      ∷ codes "out count=0 done=0"
      ∷ codes "out < 0 mark=0 told=0"
      ∷ codes "sent in>1.0.a 5"
      ∷ codes "sent in>1.0.b 5"
      ∷ codes "sent 1.0.a>1.0.b 3"
      ∷ codes "sent 1.0.a>1.0.c 1"
      ∷ codes "sent 1.0.b>1.0.c 1"
      ∷ codes "sent 1.0.c>1.0.a 1"
      ∷ codes "sent 1.0.c>1.0.b 2"
      ∷ []))
  -- two trades and two cash movements, and their end, are merged by A
  pub two_sources_merged : After two_sources both_merged (λ s. state_text two_sources s [] [] ≡ lines (
      codes "state 1"
      ∷ codes "in makes=5"
      ∷ codes "in 0 > 0 low=0 made=3 a=1 b=1"
      ∷ codes "in 1 > 0 low=0 made=3 a=1 b=1"
      ∷ codes "1.0.c term=1 lead=a"
      ∷ codes "1.0.c a=up inc=1 stop=0 back=0"
      ∷ codes "1.0.c b=up inc=1 stop=0 back=0"
      ∷ codes "1.0.c < 0 acked=0 a=0 b=0"
      ∷ codes "1.0.c < 1 acked=0 a=0 b=0"
      ∷ codes "1.0.a running inc=1 term=1 leads=1 served=0 count=5"
      ∷ codes "1.0.a < 0 mark=3 told=0"
      ∷ codes "1.0.a < 1 mark=3 told=0"
      ∷ codes "1.0.a > 0 low=0 made=5 a=1"
      ∷ codes "1.0.b running inc=1 term=0 leads=0 served=0 count=0"
      ∷ codes "1.0.b < 0 mark=0 told=0"
      ∷ codes "1.0.b < 1 mark=0 told=0"
      ∷ codes "1.0.b > 0 low=0 made=0 a=1"
      ∷ codes "out count=0 done=0"
      ∷ codes "out < 0 mark=0 told=0"
      ∷ []))
