-- A trade looked for among inputs, one input on.
use Rattle.std.proofs.Common.{ℕ, ℤ, zero, suc, ◌≡◌, ◌<◌, ◌≤◌, ◌+◌, ◌-◌, Bool, true, false, cond, ◌&&◌, List, [], ◌∷◌, Some, drop, get_or, length, refl, sym, ap, ◌∙◌, arith}
use Rattle.std.specs.Prelude.{◌==◌, slice_get}
use Rattle.std.proofs.lemmas.List.{length-map}
use Rattle.tuple_edge.specs.Input.{Input}
use Rattle.trade_text.specs.TradesView.{TradesView, inputs_in}
use Rattle.trade_text.proofs.Sources.{rows_paired}
use Rattle.trade_line.specs.Order.{is_trade_of, place_behind}

pub of_some : {X : Type 0} (x y : X) → Some x ≡ Some y → x ≡ y
of_some x y e = cc

-- what is there
pub there : {X : Type 0} (xs : List X) (k : ℕ) → k < length xs → (x : X) × (slice_get xs k ≡ Some x) × (drop k xs ≡ x ∷ drop (k + 1) xs)
there [] k l = absurd (omega arith)
there (x ∷ xs) zero l = (x, refl, refl)
there (x ∷ xs) (suc k) l =
    let t = there xs k (omega arith) in
    (t.0, t.1, t.2 ∙ ap (λ (m : ℕ). t.0 ∷ drop m (x ∷ xs)) (let e : suc (k + 1) ≡ suc k + 1 = omega arith in e))

pub none_left : {X : Type 0} (xs : List X) (k : ℕ) → length xs ≤ k → drop k xs ≡ []
none_left [] zero l = refl
none_left [] (suc k) l = refl
none_left (x ∷ xs) zero l = absurd (omega arith)
none_left (x ∷ xs) (suc k) l = none_left xs k (omega arith)

-- there are as many inputs as rows
pub as_many : (trades : TradesView) → length (inputs_in trades) ≡ length trades.rows
as_many trades = sym (length-map (inputs_in trades) (λ (x : Input). x.row)) ∙ ap length (rows_paired trades.rows trades.sources)

-- one input on, where it isn't the one that is looked for
on_by : (k left new p q : ℕ) (here last : Bool) → (here && last) ≡ false → new ≡ cond here (left - 1) left
    → k + cond here (cond last 0 (p + 1)) (q + 1) ≡ k + 1 + cond here p q
on_by k left new p q true true none e = absurd (let wrong : true ≡ false = none in cc)
on_by k left new p q true false none e = omega arith
on_by k left new p q false last none e = omega arith

behind_is : (time : ℤ) (left new : ℕ) (rest : List Input) (here : Bool) → new ≡ cond here (left - 1) left → cond here (place_behind time (left - 1) rest) (place_behind time left rest) ≡ place_behind time new rest
behind_is time left new rest true e = ap (λ n. place_behind time n rest) (sym e)
behind_is time left new rest false e = ap (λ n. place_behind time n rest) (sym e)

pub one_on : (time : ℤ) (x : Input) (rest : List Input) (k left new : ℕ) (here : Bool) → here ≡ is_trade_of time x → (here && (left == 0)) ≡ false → new ≡ cond here (left - 1) left
    → k + place_behind time left (x ∷ rest) ≡ k + 1 + place_behind time new rest
one_on time x rest k left new here is none e =
    ap (λ (b : Bool). k + cond b (cond (left == 0) 0 (place_behind time (left - 1) rest + 1)) (place_behind time left rest + 1)) (sym is)
    ∙ (on_by k left new (place_behind time (left - 1) rest) (place_behind time left rest) here (left == 0) none e ∙ ap (λ n. k + 1 + n) (behind_is time left new rest here e))

found_by : (k p q : ℕ) (here last : Bool) → (here && last) ≡ true → k + cond here (cond last 0 p) q ≡ k
found_by k p q true true is = omega arith
found_by k p q true false is = absurd (let wrong : false ≡ true = is in cc)
found_by k p q false last is = absurd (let wrong : false ≡ true = is in cc)

-- and where it is
pub one_found : (time : ℤ) (x : Input) (rest : List Input) (k left : ℕ) (here : Bool) → here ≡ is_trade_of time x → (here && (left == 0)) ≡ true → k + place_behind time left (x ∷ rest) ≡ k
one_found time x rest k left here is last =
    ap (λ (b : Bool). k + cond b (cond (left == 0) 0 (place_behind time (left - 1) rest + 1)) (place_behind time left rest + 1)) (sym is)
    ∙ found_by k (place_behind time (left - 1) rest + 1) (place_behind time left rest + 1) here (left == 0) last
