-- A station whose node did what an event asks, and noted what it sent.
use Rattle.std.proofs.Common.{◌≡◌, ◌∙◌, Result, Some, IfErr, OnErr, OnOk, ap, subst, sym}
use Rattle.tuple_edge.specs.declared.node.NodeId.{NodeId}
use Rattle.pair_machine.specs.Receivers.{appended}
use Rattle.plan_reader.specs.PlanView.{PlanView}
use Rattle.plan_nodes.specs.States.{contents_of}
use Rattle.plan_nodes.specs.declared.state.NodeState.{NodeState}
use Rattle.flux_core.specs.Acts.{HasAnswered, IsRefusedSo}
use Rattle.flux_core.specs.CoreView.{CoreView, Log, StationView, found, standing, station}
use Rattle.flux_core.specs.Steps.{HasActed}
use Rattle.flux_core.specs.declared.asked.Asked.{Asked}
use Rattle.flux_core.specs.declared.error.ApplyError.{ApplyError}
use Rattle.flux_core.proofs.Contents.{acts_in, ended_contents, gone_contents, id_contents, inputs_contents, refused_in}
use Rattle.flux_core.proofs.NodeActs.{if_err-map, on_err-map, on_ok-map}

-- the station of a node that sent this
abbrev pub station_of : NodeState → Log → StationView
station_of s sent = record { node = contents_of s; sent = sent }

-- what is read at a node's station is what the core has under its name
pub content_read : (core : CoreView) (n : NodeId) (at : StationView) (s : NodeState) (sent : Log) → found n core.stations ≡ Some at → station_of s sent ≡ at → Some (contents_of s) ≡ (station core n).content
content_read core n at s sent there is = ap (λ (k : StationView). Some k.node) is ∙ sym (ap (λ o. (standing o).content) there)

module _ (old new : NodeState) (t : Asked) (r : Result (Unit {0}) ApplyError) (before after : Log) (self : StationView) (is : station_of old before ≡ self) (h : HasAnswered old new t r before after) where
  pub station_acted : OnOk r (HasActed t self (station_of new after))
  station_acted = on_ok-map r _ _ (λ acts. subst (λ at. HasActed t at (station_of new after)) is (record {
    id = id_contents new ∙ h.id ∙ sym (id_contents old);
    inputs = inputs_contents new ∙ h.inputs ∙ sym (inputs_contents old);
    ended = ended_contents new ∙ h.ended ∙ sym (ended_contents old);
    gone = gone_contents new ∙ h.gone ∙ sym (gone_contents old);
    sent = appended before after;
    noted = h.packets;
    acts = λ plan. acts_in plan t old new (appended before after) (acts plan);
  })) h.acts

  pub station_refused : IfErr r (λ e. (plan : PlanView) → IsRefusedSo plan t self.node e)
  station_refused = if_err-map r _ _ (λ e refused plan. subst (λ (at : StationView). IsRefusedSo plan t at.node e) is (refused_in plan t old e (refused plan))) h.refused

  pub station_unchanged : OnErr r (station_of new after ≡ self)
  station_unchanged = on_err-map r _ _ (λ same. (λ j. record { node = same.0 j; sent = same.1 j }) ∙ is) h.unchanged
