-- Inputs that a source gave, as they come to ingress.
use Rattle.std.proofs.Common.{◌≡◌, ◌∙◌, Bool, true, false, List, [], ◌∷◌, ◌++◌, Option, None, Some, append-nil, ap, sym, subst, true≢false}
use Rattle.std.proofs.lemmas.List.Elements.{All-push}
use Rattle.tuple_edge.specs.Input.{Input}
use Rattle.stream_ops.specs.Times.{IsTime}
use Rattle.ingress_egress.specs.IngressView.{IngressView, MayFeed, ended_at, fed}
use Rattle.partition_runner.specs.Feeds.{IsGivenBy, came_to, listed}

-- ingress took the input that was held
pub took_held : (old new : IngressView) (held : Option Input) (input : Input) → held ≡ Some input → MayFeed old input → new ≡ fed old input → (gave : List Input) (ended : Bool) → IsGivenBy gave ended (came_to old held)
    → IsGivenBy gave ended (came_to new None)
took_held old new held input is may grew gave ended was =
    subst (λ (i : IngressView). IsGivenBy gave ended (came_to i None)) (sym grew) (record {
      all = was.all ∙ (ap (λ o. old.inputs ++ listed o) is ∙ sym (append-nil (old.inputs ++ input ∷ [])));
      whole = λ e. absurd (true≢false (sym e ∙ may.open_yet));
      timely = All-push (λ (i : Input). IsTime i.row.time) old.inputs input was.timely may.time;
    })

-- where nothing changed at ingress, what came is the same
pub same_came : (old new : IngressView) (held : Option Input) → new ≡ old → (gave : List Input) (ended : Bool) → IsGivenBy gave ended (came_to old held) → IsGivenBy gave ended (came_to new held)
same_came old new held same gave ended was = subst (λ (i : IngressView). IsGivenBy gave ended (came_to i held)) (sym same) was

-- a source gave one input more, which is held
pub one_held : (i : IngressView) (held : Option Input) (input : Input) → held ≡ None → i.ended ≡ false → (gave : List Input) (before ended : Bool) → IsGivenBy gave before (came_to i held)
    → IsGivenBy (gave ++ input ∷ []) ended (came_to i (Some input))
one_held i held input none open_yet gave before ended was = record {
  all = ap (λ l. l ++ input ∷ []) (was.all ∙ (ap (λ o. i.inputs ++ listed o) none ∙ append-nil i.inputs));
  whole = λ e. absurd (true≢false (sym e ∙ open_yet));
  timely = was.timely;
}

-- ingress is told that no more come
pub told_end : (old new : IngressView) (held : Option Input) → held ≡ None → new ≡ ended_at old → (gave : List Input) (before ended : Bool) → IsGivenBy gave before (came_to old held) → ended ≡ true
    → IsGivenBy (gave ++ []) ended (came_to new held)
told_end old new held none same gave before ended was said =
    subst (λ (i : IngressView). IsGivenBy (gave ++ []) ended (came_to i held)) (sym same) (record {
      all = append-nil gave ∙ was.all;
      whole = λ e. (said, none);
      timely = was.timely;
    })

-- a source gave nothing
pub none_gave : (i : IngressView) (held : Option Input) → i.ended ≡ false → (gave : List Input) (before ended : Bool) → IsGivenBy gave before (came_to i held) → IsGivenBy (gave ++ []) ended (came_to i held)
none_gave i held open_yet gave before ended was = record {
  all = append-nil gave ∙ was.all;
  whole = λ e. absurd (true≢false (sym e ∙ open_yet));
  timely = was.timely;
}
