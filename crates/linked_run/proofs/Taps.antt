-- The taps that nodes have, one by one.
use Rattle.std.proofs.Common.{◌≡◌, ◌∙◌, inl, inr, List, [], ◌∷◌, ◌++◌, ◌||◌, Bool, true, false, Option, None, Some, refl, ap, sym, subst}
use Rattle.std.specs.Prelude.{is_some, map}
use Rattle.std.specs.Option.{option_or}
use mathlib.Core.List.{IsPrefix}
use Rattle.tuple_edge.specs.declared.event.Stamped.{Stamped}
use Rattle.tuple_edge.specs.declared.row.Row.{Row}
use Rattle.pair_machine.specs.Courses.{Pairwise}
use Rattle.pair_machine.specs.Lists.{Each}
use Rattle.run_node.specs.Drawn.{IsDrawn}
use Rattle.run_node.specs.NodeView.{NodeName}
use Rattle.run_node.specs.SoundNode.{TapFits}
use Rattle.linked_run.specs.Runs.{FitTheirTaps, TapOfSome, any_tapped, last_tap, taps_of}

-- ---- one node more

pairwise_more : {X Y : Type 0} (R : X → Y → Type 0) (xs : List X) (ys : List Y) (x : X) (y : Y) → Pairwise R xs ys → R x y → Pairwise R (xs ++ x ∷ []) (ys ++ y ∷ [])
pairwise_more R [] [] x y h r = (r, tt)
pairwise_more R [] (w ∷ ys) x y h r = absurd h
pairwise_more R (v ∷ xs) [] x y h r = absurd h
pairwise_more R (v ∷ xs) (w ∷ ys) x y h r = (h.0, pairwise_more R xs ys x y h.1 r)

pub map_more : {X Y : Type 0} (f : X → Y) (xs : List X) (x : X) → map f (xs ++ x ∷ []) ≡ map f xs ++ f x ∷ []
map_more f [] x = refl
map_more f (y ∷ xs) x = ap (λ l. f y ∷ l) (map_more f xs x)

-- the last one of one more is that one, where there is one
last_more : {T : Type 0} (os : List (Option T)) (o : Option T) → last_tap (os ++ o ∷ []) ≡ option_or o (last_tap os)
last_more [] None = refl
last_more [] (Some t) = refl
last_more (x ∷ os) o = ap (λ l. option_or l x) (last_more os o) ∙ again o
  where
    again : (p : Option _) → option_or (option_or p (last_tap os)) x ≡ option_or p (option_or (last_tap os) x)
    again None = refl
    again (Some t) = refl

pub fit_none : {A T : Type 0} (Fits : Option T → A → Type 0) → FitTheirTaps Fits [] None []
fit_none Fits = record { taps = []; whose = refl; last = refl; fit = tt }

pub fit_more : {A T : Type 0} (Fits : Option T → A → Type 0) (names : List NodeName) (n : NodeName) (old its now : Option T) (parts : List (A × List Stamped)) (p : A × List Stamped) →
    now ≡ option_or its old → is_some its ≡ n.tapped → Fits its p.0 → FitTheirTaps Fits (taps_of names) old parts → FitTheirTaps Fits (taps_of (names ++ n ∷ [])) now (parts ++ p ∷ [])
fit_more Fits names n old its now parts p is tapped fits h = record {
  taps = h.taps ++ its ∷ [];
  whose = map_more is_some h.taps its ∙ ((λ i. h.whose i ++ tapped i ∷ []) ∙ sym (map_more (λ (m : NodeName). m.tapped) names n));
  last = is ∙ (ap (option_or its) h.last ∙ sym (last_more h.taps its));
  fit = pairwise_more (λ tap q. Fits tap q.0) h.taps parts its p h.fit fits;
}

-- ---- what follows for the one that is left

some_either : {T : Type 0} (i o : Option T) → is_some (option_or i o) ≡ (is_some o || is_some i)
some_either None None = refl
some_either None (Some t) = refl
some_either (Some t) None = refl
some_either (Some t) (Some u) = refl

pub any_is : {T : Type 0} (taps : List (Option T)) (names : List NodeName) → map is_some taps ≡ taps_of names → is_some (last_tap taps) ≡ any_tapped names
any_is [] [] e = refl
any_is [] (n ∷ names) e = cc
any_is (o ∷ taps) [] e = cc
any_is (o ∷ taps) (n ∷ names) e =
    let first : is_some o ≡ n.tapped = cc in
    let later : map is_some taps ≡ taps_of names = cc in
    some_either (last_tap taps) o ∙ (λ i. first i || any_is taps names later i)

module _ {A T : Type 0} (lets_go : Bool) (given : T → List Row) (rows gone : A → List Row) where
  abbrev Fits : Option T → A → Type 0
  Fits = TapFits lets_go given rows gone

  front : (b : Bool) (g all g_all : List Row) → IsDrawn b g all g_all → IsPrefix g all
  front true g all g_all h = subst (λ l. IsPrefix l all) (sym h.0) h.1
  front false g all g_all h = h.1

  pub tap_of_some : (taps : List (Option T)) (parts : List (A × List Stamped)) → Pairwise (λ tap p. Fits tap p.0) taps parts → TapOfSome given rows (last_tap taps) parts
  tap_of_some [] [] h = tt
  tap_of_some [] (p ∷ parts) h = absurd h
  tap_of_some (o ∷ taps) [] h = absurd h
  tap_of_some (o ∷ taps) (p ∷ parts) h = go (last_tap taps) o (tap_of_some taps parts h.1) h.0
    where
      go : (later its : Option T) → TapOfSome given rows later parts → Fits its p.0 → TapOfSome given rows (option_or later its) (p ∷ parts)
      go None None k fits = tt
      go None (Some t) k fits = (p, inl refl, front lets_go (given t) (rows p.0) (gone p.0) fits)
      go (Some t) its k fits = (k.0, inr k.1, k.2)

  pub none_gone : lets_go ≡ false → (taps : List (Option T)) (parts : List (A × List Stamped)) → Pairwise (λ tap p. Fits tap p.0) taps parts → Each (λ p. gone p.0 ≡ []) parts
  none_gone keeps [] [] h = tt
  none_gone keeps [] (p ∷ parts) h = absurd h
  none_gone keeps (o ∷ taps) [] h = absurd h
  none_gone keeps (o ∷ taps) (p ∷ parts) h = (held lets_go keeps o h.0, none_gone keeps taps parts h.1)
    where
      held : (b : Bool) → b ≡ false → (its : Option T) → TapFits b given rows gone its p.0 → gone p.0 ≡ []
      held b k None fits = fits
      held true k (Some t) fits = cc
      held false k (Some t) fits = fits.0
