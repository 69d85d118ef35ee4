-- An order that a script's reading accepts fits the places.
use Rattle.std.proofs.Common.{ℕ, ◌≡◌, ◌&&◌, ◌||◌, Bool, true, false, nat_le, List, [], ◌∷◌, Option, Some, None, is_some, if◌then◌else◌, refl, ap, ◌∙◌}
use Rattle.std.proofs.lemmas.Bool.{false≢true}
use Rattle.std.specs.Prelude.{Ok, Err, codes, is_ok}
use Rattle.std.specs.Str.{bytes_eq}
use Rattle.tuple_edge.specs.declared.node.NodeId.{NodeId}
use Rattle.text_words.specs.Lines.{Word}
use Rattle.text_words.specs.Numbers.{number_of}
use Rattle.text_words.specs.Reading.{◌>>=◌, Read, end_or, fixed_or}
use Rattle.plan_reader.specs.Nodes.{has_node}
use Rattle.plan_reader.specs.PlanView.{PlanView}
use Rattle.failure_script.specs.Grammar.{back_at, items_at, items_of, kill_at, order_at, replica_at}
use Rattle.failure_script.specs.Limits.{max_items}
use Rattle.failure_script.specs.Names.{replica_named}
use Rattle.input_faults.specs.Laws.{fits}
use Rattle.input_faults.specs.Numbers.{is_between}
use Rattle.input_faults.specs.Places.{behind, takes}
use Rattle.input_faults.specs.declared.place.Place.{Place}
use Rattle.input_faults.specs.declared.place.Place.TheVariants as place
use Rattle.input_faults.proofs.Places.{fits-none, taken}

-- where words are taken, those before the rest fit too
abbrev FollowsOn : {A E : Type 0} → Read A E → Bool → Place → Type 0
FollowsOn (Ok x) fit to = fits to x.1 ≡ true → fit ≡ true
FollowsOn (Err e) fit to = Unit {0}

then-follows : {A B E : Type 0} (fit : Bool) (to : Place) (read : Read A E) (next : A × List Word → Read B E)
    → FollowsOn read fit to → ((x : A × List Word) → is_ok (next x) ≡ true → fits to x.1 ≡ true) → is_ok (read >>= next) ≡ true → fit ≡ true
then-follows fit to (Err e) next first later ok = absurd (false≢true ok)
then-follows fit to (Ok x) next first later ok = first (later x ok)

word-follows : (at to : Place) (word : Word) (words : List Word) → takes at word ≡ true → behind at word ≡ to → fits to words ≡ true → fits at (word ∷ words) ≡ true
word-follows at to word words takes next rest = taken at to word words takes next ∙ rest

or-left : (a b : Bool) → a ≡ true → (a || b) ≡ true
or-left a b e = rw e refl

or-right : (a b : Bool) → b ≡ true → (a || b) ≡ true
or-right true b e = refl
or-right false b e = e

kill-follows : (words : List Word) → FollowsOn (kill_at words) (fits place.Event words) place.Replica
unfolding kill_at
kill-follows [] = tt
kill-follows (word ∷ words) = go (bytes_eq word (codes "kill")) (bytes_eq word (codes "stop")) refl refl
  where
    go : (kill stop : Bool) → bytes_eq word (codes "kill") ≡ kill → bytes_eq word (codes "stop") ≡ stop → FollowsOn (kill_at (word ∷ words)) (fits place.Event (word ∷ words)) place.Replica
    go true stop k s = rw k (word-follows place.Event place.Replica word words (or-right (bytes_eq word (codes "stop")) (bytes_eq word (codes "kill")) k) refl)
    go false true k s = rw (k, s) (word-follows place.Event place.Replica word words (or-left (bytes_eq word (codes "stop")) (bytes_eq word (codes "kill")) s) refl)
    go false false k s = rw (k, s) tt

replica-follows : (plan : PlanView) (words : List Word) → FollowsOn (replica_at plan words) (fits place.Replica words) place.At
unfolding replica_at
replica-follows plan [] = tt
replica-follows plan (word ∷ words) = go (replica_named word) refl
  where
    there : (n : NodeId) (has : Bool) → replica_named word ≡ Some n → has_node plan n ≡ has → FollowsOn (replica_at plan (word ∷ words)) (fits place.Replica (word ∷ words)) place.At
    there n true name has = rw (name, has) (word-follows place.Replica place.At word words (ap (λ (found : Option NodeId). is_some found) name) refl)
    there n false name has = rw (name, has) tt

    go : (found : Option NodeId) → replica_named word ≡ found → FollowsOn (replica_at plan (word ∷ words)) (fits place.Replica (word ∷ words)) place.At
    go None name = rw name tt
    go (Some n) name = there n (has_node plan n) name refl

fixed-follows : {E : Type 0} (e : E) (text : Word) (at to : Place) → ((word : Word) → takes at word ≡ bytes_eq word text) → ((word : Word) → behind at word ≡ to)
    → (words : List Word) → FollowsOn (fixed_or e text words) (fits at words) to
unfolding fixed_or
fixed-follows e text at to tests next [] = tt
fixed-follows e text at to tests next (word ∷ words) = go tt (bytes_eq word text) (tests word)
  where
    go : (u : Unit {0}) (same : Bool) → takes at word ≡ same → FollowsOn (if same then Ok (u, words) else Err e) (fits at (word ∷ words)) to
    go u true is = word-follows at to word words is (next word)
    go u false is = tt

items-follows : (words : List Word) → FollowsOn (items_at words) (fits place.Items words) place.Back
unfolding items_at items_of
items-follows [] = tt
items-follows (word ∷ words) = go (number_of word) refl
  where
    within : (n : ℕ) (inside : Bool) → number_of word ≡ Some n → (nat_le 1 n && nat_le n max_items) ≡ inside → FollowsOn (items_at (word ∷ words)) (fits place.Items (word ∷ words)) place.Back
    within n true value test = rw (value, test) (word-follows place.Items place.Back word words (ap (is_between 1 max_items) value ∙ test) refl)
    within n false value test = rw (value, test) tt

    go : (found : Option ℕ) → number_of word ≡ found → FollowsOn (items_at (word ∷ words)) (fits place.Items (word ∷ words)) place.Back
    go None value = rw value tt
    go (Some n) value = within n (nat_le 1 n && nat_le n max_items) value refl

back-follows : (words : List Word) → FollowsOn (back_at words) (fits place.Return words) place.End
unfolding back_at items_of
back-follows [] = tt
back-follows (word ∷ words) = go (bytes_eq word (codes "never")) (number_of word) refl refl
  where
    within : (n : ℕ) (inside : Bool) → bytes_eq word (codes "never") ≡ false → number_of word ≡ Some n → (nat_le 1 n && nat_le n max_items) ≡ inside
        → FollowsOn (back_at (word ∷ words)) (fits place.Return (word ∷ words)) place.End
    within n true never value test =
        rw (never, value, test) (word-follows place.Return place.End word words (or-right (bytes_eq word (codes "never")) (is_between 1 max_items (number_of word)) (ap (is_between 1 max_items) value ∙ test)) refl)
    within n false never value test = rw (never, value, test) tt

    go : (never : Bool) (found : Option ℕ) → bytes_eq word (codes "never") ≡ never → number_of word ≡ found → FollowsOn (back_at (word ∷ words)) (fits place.Return (word ∷ words)) place.End
    go true found is value = rw is (word-follows place.Return place.End word words (or-left (bytes_eq word (codes "never")) (is_between 1 max_items (number_of word)) is) refl)
    go false None is value = rw (is, value) tt
    go false (Some n) is value = within n (nat_le 1 n && nat_le n max_items) is value refl

end-follows : {A E : Type 0} (e : E) (next : Unit {0} × List Word → Read A E) (words : List Word) → is_ok (end_or e words >>= next) ≡ true → fits place.End words ≡ true
end-follows e next [] ok = fits-none place.End
end-follows e next (word ∷ words) ok = absurd (false≢true ok)

pub order-follows : (plan : PlanView) (words : List Word) → is_ok (order_at plan words) ≡ true → fits place.Event words ≡ true
unfolding order_at
order-follows plan words =
    then-follows (fits place.Event words) place.Replica (kill_at words) _ (kill-follows words)
    (λ kill. then-follows (fits place.Replica kill.1) place.At (replica_at plan kill.1) _ (replica-follows plan kill.1)
    (λ n. then-follows (fits place.At n.1) place.Items (fixed_or _ (codes "at") n.1) _
    (fixed-follows _ (codes "at") place.At place.Items (λ word. refl) (λ word. refl) n.1)
    (λ at_word. then-follows (fits place.Items at_word.1) place.Back (items_at at_word.1) _ (items-follows at_word.1)
    (λ items. then-follows (fits place.Back items.1) place.Return (fixed_or _ (codes "back") items.1) _
    (fixed-follows _ (codes "back") place.Back place.Return (λ word. refl) (λ word. refl) items.1)
    (λ back_word. then-follows (fits place.Return back_word.1) place.End (back_at back_word.1) _ (back-follows back_word.1)
    (λ back. end-follows _ _ back.1))))))
