use Rattle.flux_link.proofs.Asking.{leads_on}
use Rattle.flux_link.proofs.Coming.{keeps_on}
use Rattle.flux_link.proofs.Fronts.{grows_on}
use Rattle.flux_link.proofs.lossy.LossyInInlet.look.Goals as goal
use Rattle.std.proofs.Common.{◌≡◌, ◌++◌, ◌∷◌, [], List, Option, None, Some, ap, refl, sym, ◌∙◌, length, arith}
use Rattle.std.specs.Prelude.{IfSome, slice_get}

-- where nothing was ready, nothing was known to be next
none_next : {A : Type 0} (next : Option A) (ready : List A) (P : A → Type 0) → ready ≡ [] → IfSome next (λ a. slice_get ready 0 ≡ Some a) → IfSome next P
none_next None ready P empty stays = tt
none_next (Some a) ready P empty stays = let w : None ≡ Some a = ap (λ l. slice_get l 0) (sym empty) ∙ stays in cc

pub loop-self-preserved : goal.loop-self-preserved
loop-self-preserved g c =
    let first = c.args.self.now in
    let before = c.loop-self.self in
    let after = c.treat_next.new.self in
    let was = c.loop-self.invariant in
    let did = c.if-not-treat_next.ensures in
    let empty : before.ready ≡ [] = c.loop-self-test.ensures.none refl in
    record {
      link = did.link ∙ was.link;
      choices = did.choices ∙ was.choices;
      grows = grows_on _ _ _ was.grows did.grows;
      all = keeps_on (g.I.Inlet.coming first.inner) (g.I.Inlet.given first.inner) (g.I.Inlet.coming before.inner) (g.I.Inlet.given before.inner)
          (g.I.Inlet.coming after.inner) (g.I.Inlet.given after.inner) was.all did.all;
      asked = (was.asked.0 ++ did.came.0 ∷ [], leads_on g.I.Inlet.receives was.asked.0 _ _ _ did.came.0 was.asked.1 did.came.1);
      given = did.given ∙ was.given;
      stays = none_next (slice_get first.ready 0) before.ready (λ a. slice_get after.ready 0 ≡ Some a) empty was.stays;
      taken = omega (arith, was.taken, did.taken, ap length empty);
    }
