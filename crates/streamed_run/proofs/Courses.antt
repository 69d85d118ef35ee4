-- The course of a run to which inputs came while it went on: of what came to ingress by its end, and of every list of inputs that may be.
use Rattle.std.proofs.Common.{◌≡◌, ◌∙◌, Bool, true, false, List, [], map, refl, append-nil}
use Rattle.tuple_edge.specs.Input.{Input}
use Rattle.event_log.specs.Views.{LogView, named_logs}
use Rattle.plan_reader.specs.PlanView.{PlanView}
use Rattle.pair_machine.specs.Lists.{Each}
use Rattle.pair_machine.specs.declared.order.Order.{Order}
use Rattle.ingress_egress.specs.IngressStands.{AreCome}
use Rattle.plan_nodes.specs.NodeOrder.{nodes_of}
use Rattle.plan_nodes.specs.States.{AllCame, id_of}
use Rattle.partition_runner.specs.Feeds.{MayBeInputs, came_to}
use Rattle.partition_runner.specs.Streams.{IsLegalStream}
use Rattle.partition_runner.specs.declared.streams.StreamLeft.{StreamLeft}
use Rattle.drained_run.proofs.Joined.{IsLegalRan, Ran, course_ran, ran_of}
use Rattle.streamed_run.specs.Streamed.{ended_first}
use Rattle.streamed_run.proofs.Firsts as first

module _ (plan : PlanView) (script : List Order) (gave : List Input) (ended : Bool) (l : StreamLeft) (run : IsLegalStream plan script gave ended l) where
  -- what came to ingress
  abbrev pub inputs : List Input
  inputs = run.ingress.inputs

  -- what the threads left, and where no more inputs come to ingress from then on
  abbrev pub left : Ran
  left = ran_of (λ (log : LogView). log) l.left

  abbrev pub ran : Ran
  ran = record { nodes = ended_first l.left.nodes.items; logs = named_logs l.left.logs.items }

  pub course : (all : List Input) → MayBeInputs (came_to run.ingress l.held) all → IsLegalRan plan all script left
  course all may = course_ran (λ (log : LogView). log) plan all script l.left (run.legal all may)

  own : (told : Bool) → AreCome told inputs inputs
  own true = refl
  own false = ([], append-nil inputs)

  own_course : IsLegalRan plan inputs script left
  own_course = course inputs (record { begin = own run.ingress.ended; timely = run.came.timely })

  -- of what came to ingress it is legal with no more inputs to come
  pub legal : IsLegalRan plan inputs script ran
  legal = record {
    histories = own_course.histories;
    distinct = own_course.distinct;
    rising = own_course.rising;
    nodes_are = first.ids_ended l.left.nodes.items ∙ own_course.nodes_are;
    joint = λ log is.
        let r = own_course.joint log is in
        record {
          reached = r.reached;
          legal = r.legal;
          within = r.within;
          stand = first.still_stand plan inputs script l.left.nodes.items r.reached run.ingress own_course.nodes_are run.there refl r.stand;
        };
  }

  pub none_come : Each AllCame ran.nodes
  none_come = first.all_came plan l.left.nodes.items own_course.nodes_are

  pub nodes_are : map id_of l.left.nodes.items ≡ nodes_of plan
  nodes_are = own_course.nodes_are
