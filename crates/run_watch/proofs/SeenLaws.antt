-- What is told of a list comes of what is told of its parts.
use Rattle.std.proofs.Common.{◌≡◌, ◌∙◌, ◌++◌, ◌<◌, ◌+◌, ℕ, zero, suc, List, [], ◌∷◌, Err, Ok, Result, append-nil, append_assoc, drop, length, length-append, refl, slice_index_or, sym, take, ap, subst, arith}
use Rattle.tuple_edge.specs.Input.{Input}
use Rattle.tuple_edge.specs.declared.node.NodeId.{NodeId}
use Rattle.plan_reader.specs.PlanView.{PlanView}
use Rattle.pair_machine.specs.Counts.{flow_of}
use Rattle.pair_machine.specs.Machine.{State, follow, step}
use Rattle.pair_machine.specs.Messages.{Refusal}
use Rattle.pair_machine.specs.Sound.{IsSound}
use Rattle.pair_machine.proofs.Legal.{leads_join}
use Rattle.run_journal.specs.declared.lined.Lined.{Lined}
use Rattle.flux_core.specs.CoreView.{CoreView, flow_in, inputs_of}
use Rattle.flux_core.specs.Follows.{IsFollowed, events_of}
use Rattle.flux_core.specs.Refusals.{IsRefusal}
use Rattle.flux_core.specs.Stands.{StandsFor}
use Rattle.flux_core.proofs.Following.{along_none, followed_all}
use Rattle.run_watch.specs.Seen.{HasHalted, HasSeen, HasStopped}
use Rattle.run_watch.specs.TraceView.{TraceView}
use Rattle.run_watch.specs.Watching.{fallen, fallen_along, told_along, told_by}
use Rattle.run_watch.specs.declared.trace.Fall.{Fall}
use Rattle.run_watch.specs.declared.watching.WatchError.{WatchError}
use Rattle.run_watch.specs.declared.watching.WatchError.TheVariants as error

-- ---- lists

pub events_joined : (xs ys : List Lined) → events_of (xs ++ ys) ≡ events_of xs ++ events_of ys
events_joined [] ys = refl
events_joined (x ∷ xs) ys = λ j. x.event ∷ events_joined xs ys j

fallen_joined : (place : ℕ) (falls : NodeId → Fall) (xs ys : List Lined) → fallen_along place falls (xs ++ ys) ≡ fallen_along (place + length xs) (fallen_along place falls xs) ys
fallen_joined place falls [] ys = ap (λ k. fallen_along k falls ys) {x = place} {y = place + 0} (omega arith)
fallen_joined place falls (x ∷ xs) ys =
    fallen_joined (place + 1) (fallen (place + 1) x.event falls) xs ys
    ∙ ap (λ k. fallen_along k (fallen_along (place + 1) (fallen (place + 1) x.event falls) xs) ys) {x = place + 1 + length xs} {y = place + length (x ∷ xs)} (omega arith)

module _ (plan : PlanView) (inputs : List Input) where
  told_none : (place : ℕ) (falls : NodeId → Fall) (ys : List Lined) (why : Refusal) → told_along plan inputs place falls ys (Err why) ≡ []
  told_none place falls [] why = refl
  told_none place falls (y ∷ ys) why = refl

  pub told_joined : (place : ℕ) (falls : NodeId → Fall) (xs ys : List Lined) (r : Result State Refusal) → told_along plan inputs place falls (xs ++ ys) r
      ≡ told_along plan inputs place falls xs r ++ told_along plan inputs (place + length xs) (fallen_along place falls xs) ys (follow (flow_of plan inputs) (events_of xs) r)
  told_joined place falls [] ys r = ap (λ k. told_along plan inputs k falls ys r) {x = place} {y = place + 0} (omega arith)
  told_joined place falls (x ∷ xs) ys (Err why) = sym (told_none (place + length (x ∷ xs)) (fallen_along place falls (x ∷ xs)) ys why)
  told_joined place falls (x ∷ xs) ys (Ok s) =
      let f = flow_of plan inputs in
      let next = step f s x.event in
      let falls_then = fallen (place + 1) x.event falls in
      let first = told_by plan inputs (place + 1) falls x s next in
      let front = told_along plan inputs (place + 1) falls_then xs next in
      let rest = λ (k : ℕ). told_along plan inputs k (fallen_along (place + 1) falls_then xs) ys (follow f (events_of xs) next) in
      ap (λ t. first ++ t) (told_joined (place + 1) falls_then xs ys next)
      ∙ sym (append_assoc first front (rest (place + 1 + length xs)))
      ∙ ap (λ k. (first ++ front) ++ rest k) {x = place + 1 + length xs} {y = place + length (x ∷ xs)} (omega arith)

-- ---- what was seen

followed_none : (core : CoreView) → IsFollowed core core []
followed_none core = followed_all core core [] (along_none core [])

pub seen_none : (core : CoreView) (trace : TraceView) → HasSeen core core trace trace []
seen_none core trace = record {
  followed = followed_none core;
  told = λ s stands sound. sym (append-nil trace.told);
  falls = refl;
  place = omega arith;
}

flow_kept : (old new : CoreView) → new.plan ≡ old.plan → inputs_of new ≡ inputs_of old → flow_in new ≡ flow_in old
flow_kept old new plan inputs = λ j. flow_of (plan j) (inputs j)

followed_joined : (a b c : CoreView) (xs ys : List Lined) → IsFollowed a b (events_of xs) → IsFollowed b c (events_of ys) → IsFollowed a c (events_of (xs ++ ys))
followed_joined a b c xs ys h k = record {
  goes = λ s stands sound.
      let same = flow_kept a b h.plan h.inputs in
      let z = h.goes s stands sound in
      let y = k.goes z.0 z.3 (subst (λ f. IsSound f z.0) (sym same) z.2) in (
        y.0,
        subst (λ es. follow (flow_in a) es (Ok s) ≡ Ok y.0) (sym (events_joined xs ys))
            (leads_join (flow_in a) s z.0 y.0 (events_of xs) (events_of ys) z.1 (subst (λ f. follow f (events_of ys) (Ok z.0) ≡ Ok y.0) same y.1)),
        subst (λ f. IsSound f y.0) same y.2,
        y.3,
      );
  plan = k.plan ∙ h.plan;
  inputs = k.inputs ∙ h.inputs;
  whole = k.whole ∙ h.whole;
}

pub seen_joined : (a b c : CoreView) (t u v : TraceView) (xs ys : List Lined) → HasSeen a b t u xs → HasSeen b c u v ys → HasSeen a c t v (xs ++ ys)
seen_joined a b c t u v xs ys h k = record {
  followed = followed_joined a b c xs ys h.followed k.followed;
  told = λ s stands sound.
      let same = flow_kept a b h.followed.plan h.followed.inputs in
      let z = h.followed.goes s stands sound in
      let later = k.told z.0 z.3 (subst (λ f. IsSound f z.0) (sym same) z.2) in
      let first = told_along a.plan (inputs_of a) t.place t.falls xs (Ok s) in
      later
      ∙ (λ j. h.told s stands sound j ++ told_along (h.followed.plan j) (h.followed.inputs j) (h.place j) (h.falls j) ys (sym z.1 j))
      ∙ append_assoc t.told first (told_along a.plan (inputs_of a) (t.place + length xs) (fallen_along t.place t.falls xs) ys (follow (flow_in a) (events_of xs) (Ok s)))
      ∙ ap (λ r. t.told ++ r) (sym (told_joined a.plan (inputs_of a) t.place t.falls xs ys (Ok s)));
  falls = k.falls ∙ (λ j. fallen_along (h.place j) (h.falls j) ys) ∙ sym (fallen_joined t.place t.falls xs ys);
  place = k.place ∙ ap (λ n. n + length ys) h.place ∙ (let z = length-append xs ys in omega (arith, z));
}

-- ---- stops

-- the events before the first one that is no step were followed, and so were those before them
pub stopped_later : (a b c : CoreView) (xs ys : List Lined) (zs : List Lined) (why : WatchError) → IsFollowed a b (events_of xs) → HasStopped b c ys why → HasStopped a c (xs ++ (ys ++ zs)) why
stopped_later a b c xs ys zs (error.Stopped stop) h k = record {
  front = xs ++ k.front;
  at = k.at;
  rest = k.rest ++ zs;
  lines_are =
      append_assoc xs k.front (k.at ∷ (k.rest ++ zs))
      ∙ ap (λ r. xs ++ r) (sym (append_assoc k.front (k.at ∷ k.rest) zs) ∙ ap (λ ls. ls ++ zs) k.lines_are);
  line = k.line;
  followed = followed_joined a b c xs k.front h k.followed;
  refused = k.refused;
}
stopped_later a b c xs ys zs error.OutOfMemory h k = tt

-- one event that is no step stops a list that begins with it
pub stopped_at : (old new : CoreView) (x : Lined) (rest : List Lined) (why : WatchError) → HasHalted old new x why → HasStopped old new (x ∷ rest) why
stopped_at old new x rest (error.Stopped stop) h = record {
  front = [];
  at = x;
  rest = rest;
  lines_are = refl;
  line = h.line;
  followed = subst (λ k. IsFollowed old k []) (sym h.unchanged) (followed_none old);
  refused = subst (λ k. (s : State) → StandsFor k s → IsRefusal (step (flow_in k) s x.event) stop.error) (sym h.unchanged) h.refused;
}
stopped_at old new x rest error.OutOfMemory h = tt

-- ---- one event more

pub take_one : {X : Type 0} (xs : List X) (i : ℕ) (d : X) → i < length xs → take (i + 1) xs ≡ take i xs ++ slice_index_or xs i d ∷ []
take_one [] i d l = absurd (omega (arith, l))
take_one (x ∷ xs) zero d l = refl
take_one (x ∷ xs) (suc i) d l = ap (λ n. take n (x ∷ xs)) {x = suc i + 1} {y = suc (i + 1)} (omega arith) ∙ ap (λ r. x ∷ r) (take_one xs i d (omega (arith, l)))

pub split_at : {X : Type 0} (xs : List X) (i : ℕ) (d : X) → i < length xs → take i xs ++ (slice_index_or xs i d ∷ drop (i + 1) xs) ≡ xs
split_at [] i d l = absurd (omega (arith, l))
split_at (x ∷ xs) zero d l = refl
split_at (x ∷ xs) (suc i) d l =
    ap (λ n. x ∷ (take i xs ++ (slice_index_or xs i d ∷ drop n (x ∷ xs)))) {x = suc i + 1} {y = suc (i + 1)} (omega arith) ∙ ap (λ r. x ∷ r) (split_at xs i d (omega (arith, l)))

pub seen_next : (a b c : CoreView) (t u v : TraceView) (xs : List Lined) (i : ℕ) (d : Lined) → i < length xs → HasSeen a b t u (take i xs) → HasSeen b c u v (slice_index_or xs i d ∷ []) → HasSeen a c t v (take (i + 1) xs)
seen_next a b c t u v xs i d l h k = subst (HasSeen a c t v) (sym (take_one xs i d l)) (seen_joined a b c t u v (take i xs) (slice_index_or xs i d ∷ []) h k)

pub stopped_next : (a b c : CoreView) (t u : TraceView) (xs : List Lined) (i : ℕ) (d : Lined) (why : WatchError) → i < length xs → HasSeen a b t u (take i xs) → HasHalted b c (slice_index_or xs i d) why → HasStopped a c xs why
stopped_next a b c t u xs i d why l h k =
    subst (λ ls. HasStopped a c ls why) (split_at xs i d l)
    (stopped_later a b c (take i xs) (slice_index_or xs i d ∷ []) (drop (i + 1) xs) why h.followed (stopped_at b c (slice_index_or xs i d) [] why k))
