-- Where the station of a node stands, and what stands under each name where one station changes.
use Rattle.std.proofs.Common.{◌≡◌, ◌≢◌, ◌∙◌, ◌<◌, ℕ, zero, suc, Bool, true, false, List, [], ◌∷◌, Option, None, Some, length, slice_get, slice_set, refl, sym, ap, subst, true≢false, unwrap_or, arith, ◌+◌, if◌then◌else◌}
use Rattle.std.specs.Option.{option_and_then, option_or}
use Rattle.plan_reader.specs.PlanView.{PlanView}
use Rattle.pair_machine.specs.Consumers.{first_below}
use Rattle.pair_machine.proofs.Found.{FoundIn, first_found}
use Rattle.trio_machine.specs.Numbers.{is_node}
use Rattle.trio_machine.specs.declared.node.TrioNode.{TrioNode}
use Rattle.trio_machine.specs.declared.node.TrioNode.TheVariants as node
use Rattle.trio_machine.proofs.Names.{is_node-true}
use Rattle.trio_core.specs.CoreView.{CoreView, StationView, core_of, found, inputs_at, inputs_of, is_at, place_of}
use Rattle.trio_core.specs.Steps.{ActedAt}
use Rattle.trio_core.specs.declared.task.TrioTask.{TrioTask}
use Rattle.trio_core.proofs.Lists.{length_set, same_there, set_other, set_same}
use Rattle.trio_core.proofs.Changes.{HasChanged}

-- ---- where it stands

-- a place has a station of this name
pub record StandsAt (n : TrioNode) (xs : List StationView) (i : ℕ) : Type 0 where
  pub within : i < length xs
  pub at : StationView
  pub there : slice_get xs i ≡ Some at
  pub name : at.name ≡ n

pub stands_at : (n : TrioNode) (xs : List StationView) (i : ℕ) → place_of n xs ≡ Some i → StandsAt n xs i
stands_at n xs i e = go (slice_get xs i) refl here.0
  where
    here : FoundIn (λ k. is_at n (slice_get xs k)) (length xs) (Some i)
    here = subst (FoundIn (λ k. is_at n (slice_get xs k)) (length xs)) e (first_found (length xs) (λ k. is_at n (slice_get xs k)))

    go : (o : Option StationView) → slice_get xs i ≡ o → is_at n o ≡ true → StandsAt n xs i
    go None q h = absurd (true≢false (sym h))
    go (Some at) q h = record { within = here.1; at = at; there = q; name = is_node-true at.name n h }

-- the place of a node under another name for it, in another name for the list
pub placed : (m n : TrioNode) (ys xs : List StationView) (i : ℕ) → ys ≡ xs → m ≡ n → place_of m ys ≡ Some i → place_of n xs ≡ Some i
placed m n ys xs i lists names e = subst (λ zs. place_of n zs ≡ Some i) lists (subst (λ k. place_of k ys ≡ Some i) names e)

pub found_is : (n : TrioNode) (xs : List StationView) (i : ℕ) → place_of n xs ≡ Some i → found n xs ≡ slice_get xs i
found_is n xs i e = ap (option_and_then (slice_get xs)) e

-- what is found has a place
pub found_place : (n : TrioNode) (xs : List StationView) (at : StationView) → found n xs ≡ Some at → (i : ℕ) × (place_of n xs ≡ Some i) × (slice_get xs i ≡ Some at)
found_place n xs at e = go (place_of n xs) refl e
  where
    go : (o : Option ℕ) → place_of n xs ≡ o → option_and_then (slice_get xs) o ≡ Some at → (i : ℕ) × (place_of n xs ≡ Some i) × (slice_get xs i ≡ Some at)
    go None q h = let z : ⊥ = cc h in absurd z
    go (Some i) q h = (i, q, h)

-- the search for it goes on past a place with another name
pub none_next : (test : ℕ → Bool) (k : ℕ) → first_below test k ≡ None → test k ≡ false → first_below test (k + 1) ≡ None
none_next test k none fails = subst (λ n. first_below test n ≡ None) next (λ i. option_or (none i) (if fails i then Some k else None))
  where
    next : suc k ≡ k + 1
    next = omega arith

-- ---- one station changes, and keeps its name

test_same : (m : TrioNode) (xs : List StationView) (i k : ℕ) (x y : StationView) → slice_get xs i ≡ Some x → y.name ≡ x.name → is_at m (slice_get (slice_set xs i y) k) ≡ is_at m (slice_get xs k)
test_same m [] i k x y at name = refl
test_same m (z ∷ xs) zero zero x y at name = let same : z ≡ x = ap (λ o. unwrap_or o x) at in ap (λ w. is_node w m) (name ∙ ap (λ (w : StationView). w.name) (sym same))
test_same m (z ∷ xs) zero (suc k) x y at name = refl
test_same m (z ∷ xs) (suc i) zero x y at name = refl
test_same m (z ∷ xs) (suc i) (suc k) x y at name = test_same m xs i k x y at name

pub place_same : (m : TrioNode) (xs : List StationView) (i : ℕ) (x y : StationView) → slice_get xs i ≡ Some x → y.name ≡ x.name → place_of m (slice_set xs i y) ≡ place_of m xs
place_same m xs i x y at name = λ j. first_below (λ k. test_same m xs i k x y at name j) (length_set xs i y j)

pub found_same : (n : TrioNode) (xs : List StationView) (i : ℕ) (x y : StationView) → place_of n xs ≡ Some i → slice_get xs i ≡ Some x → y.name ≡ x.name → found n (slice_set xs i y) ≡ Some y
found_same n xs i x y e at name = found_is n (slice_set xs i y) i (place_same n xs i x y at name ∙ e) ∙ set_same xs i x y at

pub found_other : (m n : TrioNode) (xs : List StationView) (i : ℕ) (x y : StationView) → place_of n xs ≡ Some i → slice_get xs i ≡ Some x → y.name ≡ x.name → m ≢ n
    → found m (slice_set xs i y) ≡ found m xs
found_other m n xs i x y e at name apart = ap (option_and_then (slice_get (slice_set xs i y))) (place_same m xs i x y at name) ∙ go (place_of m xs) refl
  where
    elsewhere : (j : ℕ) → place_of m xs ≡ Some j → j ≢ i
    elsewhere j q same =
        let here = stands_at m xs j q in
        let there = stands_at n xs i e in
        let one : here.at ≡ there.at = same_there (slice_get xs j) here.at there.at here.there (ap (slice_get xs) same ∙ there.there) in
        apart (sym here.name ∙ ap (λ (w : StationView). w.name) one ∙ there.name)

    go : (o : Option ℕ) → place_of m xs ≡ o → option_and_then (slice_get (slice_set xs i y)) o ≡ option_and_then (slice_get xs) o
    go None q = refl
    go (Some j) q = set_other xs i j y (elsewhere j q)

pub changed : (plan : PlanView) (n : TrioNode) (t : TrioTask) (xs news : List StationView) (i : ℕ) → place_of n xs ≡ Some i → ActedAt t i xs news → HasChanged n t (core_of plan xs) (core_of plan news)
changed plan n t xs news i e h = record {
  plan = refl;
  before = h.before;
  after = h.after;
  was = found_is n xs i e ∙ h.was;
  now = ap (found n) h.now ∙ found_same n xs i h.before h.after e h.was h.acted.name;
  acted = h.acted;
  others = λ m apart. ap (found m) h.now ∙ found_other m n xs i h.before h.after e h.was h.acted.name apart;
}

-- the inputs stay
pub inputs_same : (n : TrioNode) (t : TrioTask) (old new : CoreView) → HasChanged n t old new → inputs_of new ≡ inputs_of old
inputs_same n t old new h = go (is_node node.Ingress n) refl
  where
    go : (b : Bool) → is_node node.Ingress n ≡ b → inputs_of new ≡ inputs_of old
    go true e =
        let same : node.Ingress ≡ n = is_node-true node.Ingress n e in
        ap inputs_at (ap (λ m. found m new.stations) same ∙ h.now) ∙ h.acted.inputs ∙ ap inputs_at (sym h.was ∙ ap (λ m. found m old.stations) (sym same))
    go false e = ap inputs_at (h.others node.Ingress (λ same. let z : true ≡ false = ap (is_node node.Ingress) same ∙ e in absurd (true≢false z)))
