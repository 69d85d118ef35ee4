use Rattle.std.proofs.Common.{◌≡◌, ◌≤◌, ◌+◌, ◌∙◌, [], false, ap, length, subst, sym}
use Rattle.merge_order.specs.MergeView.{opening}
use Rattle.flux_consumer.specs.ConsumerView.{over}
use Rattle.plan_reader.specs.Nodes.{sources_of}
use Rattle.ingress_egress.proofs.EgressPlan.{opens_of_plan}
use Rattle.ingress_egress.proofs.EgressSteps.{opens, some_source}
use Rattle.trio_nodes.proofs.egress.TrioEgress.new.Goals as goal

sources_are : (c : goal.After-sources) → c.sources.result ≡ sources_of c.args.plan.now (length c.args.plan.now.stages + 1)
sources_are c = c.sources.ensures ∙ ap (λ stages. sources_of c.args.plan.now (length stages + 1)) c.stages.ensures.value

pub new-requires : goal.new-requires
new-requires c = subst (λ n. 1 ≤ n) (sym (sources_are c)) (some_source c.args.plan.now [] c.stages.ensures.limits)

pub returns : goal.returns
returns c =
    let sources : c.sources.result ≡ sources_of c.args.plan.now (length c.args.plan.now.stages + 1) =
    c.sources.ensures ∙ ap (λ stages. sources_of c.args.plan.now (length stages + 1)) c.stages.ensures.value in
    record {
      of_plan = opens_of_plan c.args.plan.now _ (λ i. record {
        stages = length (c.stages.ensures.value i);
        consumer = (c.in_ok-consumer.ensures.opening ∙ ap (λ n. over (opening n)) sources) i;
        emitted = c.new-2.ensures.items i;
        gone = [];
        done = false;
      });
      stands = λ inputs. opens c.args.plan.now inputs c.stages.ensures.limits _ (λ i. record {
        stages = length (c.stages.ensures.value i);
        consumer = (c.in_ok-consumer.ensures.opening ∙ ap (λ n. over (opening n)) sources) i;
        emitted = c.new-2.ensures.items i;
        gone = [];
        done = false;
      });
    }
