-- What is due is the least of all that waits.
use Rattle.std.proofs.Common.{◌≡◌, ℕ, zero, suc, ◌+◌, ◌<◌, ◌≤◌, ◌⊎◌, inl, inr, Bool, true, false, refl, sym, ◌∙◌, ap, subst, arith}
use Rattle.std.specs.Prelude.{Option, None, Some, IfSome, IfNone, IsTrue, nat_le, nat_lt, if◌then◌else◌, length}
use Rattle.std.proofs.lemmas.Bool.Decides.{nat_tests}
use borrow.Author.Tests.{leb-true, leb-false, le-leb, lt-ltb}
use Rattle.flux_producer.specs.Due.{IsLeast, NoneWaits, Waits, due_at, due_of, due_to, sooner, soonest_below}
use Rattle.tuple_edge.specs.Limits.{number_limit}
use Rattle.flux_producer.specs.OutEdge.{IsLeastCursor}
use Rattle.flux_producer.specs.ProducerView.{ProducerView, buffer_at, cursor_at, edge_at}
use Rattle.flux_producer.specs.declared.due.Due.{Due}

-- d is the soonest of the first n, at place i: none has a lesser number, and each before it a greater one
record IsSoonest (due : ℕ → Option Due) (n i : ℕ) (d : Due) : Type 0 where
  inside : i < n
  is : due i ≡ Some d
  least : (j : ℕ) (e : Due) → j < n → due j ≡ Some e → d.number ≤ e.number
  before : (j : ℕ) (e : Due) → j < i → due j ≡ Some e → d.number < e.number

-- what the soonest of the first n says of them
abbrev SoonestOf : (ℕ → Option Due) → ℕ → Option Due → Type 0
SoonestOf due n None = (j : ℕ) → j < n → due j ≡ None
SoonestOf due n (Some d) = (i : ℕ) × IsSoonest due n i d

-- below the next, or the next
below_or : (j n : ℕ) → j < suc n → (j < n) ⊎ (n ≡ j)
below_or zero zero h = inr refl
below_or zero (suc n) h = inl (omega arith)
below_or (suc j) zero h = absurd (omega arith)
below_or (suc j) (suc n) h = elim (below_or j n (omega arith)) [ inl l ↦ inl (omega arith) | inr e ↦ inr (ap suc e) ]

-- the next is the soonest
takes_next : (due : ℕ → Option Due) (n : ℕ) (e : Due) → due n ≡ Some e → ((j : ℕ) (d : Due) → j < n → due j ≡ Some d → e.number < d.number) → IsSoonest due (suc n) n e
takes_next due n e is later = record {
  inside = omega arith;
  is = is;
  least = λ j d below found. elim (below_or j n below) [
    | inl l ↦ let h : e.number < d.number = later j d l found in omega arith
    | inr same ↦ let both : Some e ≡ Some d = sym is ∙ ap due same ∙ found in
        let one : e ≡ d = cc in subst (λ (z : Due). e.number ≤ z.number) one (omega arith)
  ];
  before = later;
}

-- the former stays the soonest
keeps_former : (due : ℕ → Option Due) (n i : ℕ) (d : Due) → IsSoonest due n i d → ((e : Due) → due n ≡ Some e → d.number ≤ e.number) → IsSoonest due (suc n) i d
keeps_former due n i d had next = record {
  inside = let l : i < n = had.inside in omega arith;
  is = had.is;
  least = λ j e below found. elim (below_or j n below) [
    | inl l ↦ had.least j e l found
    | inr same ↦ next e (ap due same ∙ found)
  ];
  before = had.before;
}

both_by : (due : ℕ → Option Due) (n i : ℕ) (d e : Due) (t : Bool) → nat_le d.number e.number ≡ t → IsSoonest due n i d → due n ≡ Some e
    → SoonestOf due (suc n) (if t then Some d else Some e)
both_by due n i d e true test had is = (
  i,
  keeps_former due n i d had (λ f found. let both : Some e ≡ Some f = sym is ∙ found in
      let one : e ≡ f = cc in subst (λ (z : Due). d.number ≤ z.number) one (leb-true _ _ test)),
)
both_by due n i d e false test had is =
    (n, takes_next due n e is (λ j f below found. let h : d.number ≤ f.number = had.least j f below found in let l : e.number < d.number = leb-false _ _ test in omega arith))

with_next : (due : ℕ → Option Due) (n : ℕ) (former next : Option Due) → SoonestOf due n former → due n ≡ next → SoonestOf due (suc n) (sooner former next)
with_next due n None None had is = λ j below. elim (below_or j n below) [ inl l ↦ had j l | inr same ↦ subst (λ j. due j ≡ None) same is ]
with_next due n None (Some e) had is =
    (n, takes_next due n e is (λ j d below found. let none : due j ≡ None = had j below in let never : ⊥ = cc in absurd never))
with_next due n (Some d) None had is = (had.0, keeps_former due n had.0 d had.1 (λ e found. let never : ⊥ = cc in absurd never))
with_next due n (Some d) (Some e) had is = both_by due n had.0 d e (nat_le d.number e.number) refl had.1 is

soonest : (due : ℕ → Option Due) (n : ℕ) → SoonestOf due n (soonest_below due n)
soonest due zero = λ j below. absurd (omega arith)
soonest due (suc n) = with_next due n (soonest_below due n) (due n) (soonest due n) refl

-- what would be due to a replica of a target
abbrev of_copy : ProducerView → ℕ → ℕ → Due
of_copy p t c = record { to = t; copy = c; number = cursor_at p t c }

-- what waits is due to its replica
due_at-waiting : (p : ProducerView) (t c : ℕ) → cursor_at p t c ≤ (buffer_at p t).produced → due_at p t c ≡ Some (of_copy p t c)
due_at-waiting p t c produced = ap (λ b. if b then Some (of_copy p t c) else None) (le-leb _ _ produced)

-- what is due to a replica waits
due_at_by : (p : ProducerView) (t c : ℕ) (d : Due) (b : Bool) → nat_le (cursor_at p t c) (buffer_at p t).produced ≡ b
    → (if b then Some (of_copy p t c) else None) ≡ Some d → (of_copy p t c ≡ d) × (cursor_at p t c ≤ (buffer_at p t).produced)
due_at_by p t c d true test is = (let one : of_copy p t c ≡ d = cc in one, leb-true _ _ test)
due_at_by p t c d false test is = let never : ⊥ = cc in absurd never

-- what waits for a target is due to it, under no greater number
due_to_by : (p : ProducerView) (t c : ℕ) → c < p.copies → cursor_at p t c ≤ (buffer_at p t).produced → (o : Option Due) → due_to p t ≡ o → SoonestOf (due_at p t) p.copies o
    → (d : Due) × (due_to p t ≡ Some d) × (d.number ≤ cursor_at p t c)
due_to_by p t c copy produced None is all =
    let none : due_at p t c ≡ None = all c copy in
    let some : due_at p t c ≡ Some (of_copy p t c) = due_at-waiting p t c produced in
    let never : ⊥ = cc in absurd never
due_to_by p t c copy produced (Some d) is all = (d, is, all.1.least c (of_copy p t c) copy (due_at-waiting p t c produced))

due_to-waiting : (p : ProducerView) (t c : ℕ) → Waits p t c → (d : Due) × (due_to p t ≡ Some d) × (d.number ≤ cursor_at p t c)
due_to-waiting p t c waits = due_to_by p t c waits.copy waits.produced (due_to p t) refl (soonest (due_at p t) p.copies)

-- a place is not before another where that would make the one number less than the other
not_before : (u t x y : ℕ) → (u < t → x < y) → y ≤ x → t ≤ u
not_before u t x y earlier close = grind (arith, earlier)

-- the soonest of the targets, and there of the replicas, is the least
least_at : (p : ProducerView) (t c : ℕ) → IsSoonest (due_to p) (length p.edges) t (of_copy p t c) → IsSoonest (due_at p t) p.copies c (of_copy p t c)
    → cursor_at p t c ≤ (buffer_at p t).produced → IsLeast p (of_copy p t c)
least_at p t c target copy produced = record {
  waits = record { edge = target.inside; copy = copy.inside; produced = produced };
  number = refl;
  first = λ u b waits.
      let due = due_to-waiting p u b waits in
      let no_later : cursor_at p t c ≤ due.0.number = target.least u due.0 waits.edge due.1 in
      let earlier_target : u < t → cursor_at p t c < due.0.number = λ l. target.before u due.0 l due.1 in
      let close : due.0.number ≤ cursor_at p u b = due.2 in
      record {
        by_number = omega arith;
        by_target = λ same. not_before u t (cursor_at p t c) due.0.number earlier_target (omega arith);
        by_copy = λ same here.
            let there : due_at p t b ≡ Some (of_copy p u b) = subst (λ z. due_at p z b ≡ Some (of_copy p u b)) (sym here) (due_at-waiting p u b waits.produced) in
            let earlier_copy : b < c → cursor_at p t c < cursor_at p u b = λ l. copy.before b (of_copy p u b) l there in
            not_before b c (cursor_at p t c) (cursor_at p u b) earlier_copy (omega arith);
      };
}

least_of : (p : ProducerView) (t : ℕ) (d : Due) → IsSoonest (due_to p) (length p.edges) t d → SoonestOf (due_at p t) p.copies (Some d) → IsLeast p d
least_of p t d target on =
    let at = due_at_by p t on.0 d (nat_le (cursor_at p t on.0) (buffer_at p t).produced) refl on.1.is in
    subst (IsLeast p) at.0
    (least_at p t on.0 (subst (IsSoonest (due_to p) (length p.edges) t) (sym at.0) target) (subst (IsSoonest (due_at p t) p.copies on.0) (sym at.0) on.1) at.1)

least_by : (p : ProducerView) (o : Option Due) → SoonestOf (due_to p) (length p.edges) o → IfSome o (IsLeast p)
least_by p None all = tt
least_by p (Some d) all = least_of p all.0 d all.1 (subst (SoonestOf (due_at p all.0) p.copies) all.1.is (soonest (due_at p all.0) p.copies))

none_by : (p : ProducerView) (o : Option Due) → SoonestOf (due_to p) (length p.edges) o → IfNone o (IsTrue p.leads → NoneWaits p)
none_by p None all = λ leads t c waits.
    let due = due_to-waiting p t c waits in
    let none : due_to p t ≡ None = all t waits.edge in
    let some : due_to p t ≡ Some due.0 = due.1 in
    let never : ⊥ = cc in never
none_by p (Some d) all = tt

-- the soonest of all targets is the least of what waits
pub due_least : (p : ProducerView) (o : Option Due) → o ≡ soonest_below (due_to p) (length p.edges) → IfSome o (IsLeast p)
due_least p o is = least_by p o (subst (SoonestOf (due_to p) (length p.edges)) (sym is) (soonest (due_to p) (length p.edges)))

-- where there is none, nothing waits
pub due_none : (p : ProducerView) (o : Option Due) → o ≡ soonest_below (due_to p) (length p.edges) → IfNone o (IsTrue p.leads → NoneWaits p)
due_none p o is = none_by p o (subst (SoonestOf (due_to p) (length p.edges)) (sym is) (soonest (due_to p) (length p.edges)))

-- what is due is the least of what waits
due_where : (p : ProducerView) (d : Due) (leads : Bool) → (if leads then soonest_below (due_to p) (length p.edges) else None) ≡ Some d → IsLeast p d
due_where p d true is = due_least p (Some d) (sym is)
due_where p d false is = let never : ⊥ = cc in absurd never

pub due_of-least : (p : ProducerView) (d : Due) → due_of p ≡ Some d → IsLeast p d
due_of-least p d is = due_where p d p.leads is

-- ---- the due of each edge from its least cursor

-- what was found, where a number at the limit says that nothing was
abbrev pub found : Due → Option Due
found d = if nat_lt d.number number_limit then Some d else None

-- the due of an edge: its least cursor, where that was produced
abbrev of_least : ProducerView → ℕ → ℕ → ℕ → Option Due
of_least p t copy number = if nat_le number (buffer_at p t).produced then Some (record { to = t; copy = copy; number = number }) else None

-- of two places that are both the first, none is before the other
same_place : (i j x y : ℕ) → (i < j → y < x) → (j < i → x < y) → x ≤ y → y ≤ x → i ≡ j
same_place i j x y one other = grind (arith, one, other)

due_to-least_by : (p : ProducerView) (t copy number : ℕ) → IsLeastCursor (edge_at p t) p.copies copy number → (o : Option Due) → SoonestOf (due_at p t) p.copies o
    → (b : Bool) → nat_le number (buffer_at p t).produced ≡ b → o ≡ (if b then Some (record { to = t; copy = copy; number = number }) else None)
due_to-least_by p t copy number least None all true test =
    let none : due_at p t copy ≡ None = all copy least.inside in
    let waiting : cursor_at p t copy ≤ (buffer_at p t).produced = omega (arith, least.is, leb-true _ _ test) in
    let some : due_at p t copy ≡ Some (of_copy p t copy) = due_at-waiting p t copy waiting in
    let never : ⊥ = cc in absurd never
due_to-least_by p t copy number least None all false test = refl
due_to-least_by p t copy number least (Some d) (i, soonest_there) true test =
    let at = due_at_by p t i d (nat_le (cursor_at p t i) (buffer_at p t).produced) refl soonest_there.is in
    let waiting : cursor_at p t copy ≤ (buffer_at p t).produced = omega (arith, least.is, leb-true _ _ test) in
    let here : due_at p t copy ≡ Some (of_copy p t copy) = due_at-waiting p t copy waiting in
    let number_there : d.number ≡ cursor_at p t i = ap (λ (z : Due). z.number) (sym at.0) in
    let earlier : i < copy → number < cursor_at p t i = λ l. least.first i l in
    let later : copy < i → d.number < cursor_at p t copy = λ l. soonest_there.before copy (of_copy p t copy) l here in
    let no_less : number ≤ cursor_at p t i = least.least i soonest_there.inside in
    let no_more : d.number ≤ cursor_at p t copy = soonest_there.least copy (of_copy p t copy) least.inside here in
    let same : i ≡ copy = same_place i copy number d.number (λ l. let h = earlier l in omega arith) (λ l. let h = later l in omega (arith, least.is)) (omega arith) (omega (arith, least.is)) in
    ap (λ (z : Due). Some z) (sym at.0 ∙ ap (of_copy p t) same ∙ ap (λ n. record { to = t; copy = copy; number = n }) (sym least.is))
due_to-least_by p t copy number least (Some d) (i, soonest_there) false test =
    let at = due_at_by p t i d (nat_le (cursor_at p t i) (buffer_at p t).produced) refl soonest_there.is in
    let no_less : number ≤ cursor_at p t i = least.least i soonest_there.inside in
    absurd (omega (arith, leb-false _ _ test, at.1))

-- what is due to a target is the due of its edge
due_to-least : (p : ProducerView) (t copy number : ℕ) → IsLeastCursor (edge_at p t) p.copies copy number → due_to p t ≡ of_least p t copy number
due_to-least p t copy number least = due_to-least_by p t copy number least (due_to p t) (soonest (due_at p t) p.copies) (nat_le number (buffer_at p t).produced) refl

is_above : (a b : ℕ) → b < a → nat_le a b ≡ false
is_above a b h = grind (arith, nat_tests)

-- the due of a lesser number than what was found before
sooner_than : (former next : Due) (a : Bool) → nat_lt former.number number_limit ≡ a → next.number < former.number → sooner (if a then Some former else None) (Some next) ≡ Some next
sooner_than former next true some less = ap (λ b. if b then Some former else Some next) (is_above former.number next.number less)
sooner_than former next false none less = refl

-- nothing further is due
still_soonest : (former : Option Due) → sooner former None ≡ former
still_soonest None = refl
still_soonest (Some former) = refl

-- what was found with the due of one more edge
with_edge : (p : ProducerView) (t copy number : ℕ) (former : Due) → IsLeastCursor (edge_at p t) p.copies copy number → found former ≡ soonest_below (due_to p) t
    → sooner (found former) (of_least p t copy number) ≡ soonest_below (due_to p) (t + 1)
with_edge p t copy number former least so_far =
    ap (λ o. sooner o (of_least p t copy number)) so_far ∙ ap (sooner (soonest_below (due_to p) t)) (sym (due_to-least p t copy number least))
    ∙ ap (soonest_below (due_to p)) (let e : suc t ≡ t + 1 = omega arith in e)

-- an edge whose least cursor was produced, and is less than what was found before
pub finds_sooner : (p : ProducerView) (t copy number : ℕ) (former : Due) → IsLeastCursor (edge_at p t) p.copies copy number
    → (buffer_at p t).produced < number_limit → found former ≡ soonest_below (due_to p) t → number ≤ (buffer_at p t).produced → number < former.number
    → found (record { to = t; copy = copy; number = number }) ≡ soonest_below (due_to p) (t + 1)
finds_sooner p t copy number former least fits so_far produced less =
    let next : Due = record { to = t; copy = copy; number = number } in
    ap (λ b. if b then Some next else None) (lt-ltb number number_limit (omega arith)) ∙ sym (sooner_than former next (nat_lt former.number number_limit) refl less)
    ∙ ap (λ b. sooner (found former) (if b then Some next else None)) (sym (le-leb _ _ produced)) ∙ with_edge p t copy number former least so_far

-- the due of an edge, if there is one, has no lesser number than what was found before
kept_by : (p : ProducerView) (t copy number : ℕ) (former : Due) (b : Bool) → nat_le number (buffer_at p t).produced ≡ b
    → (buffer_at p t).produced < number_limit → (number ≤ (buffer_at p t).produced → former.number ≤ number)
    → found former ≡ sooner (found former) (if b then Some (record { to = t; copy = copy; number = number }) else None)
kept_by p t copy number former true test fits no_less =
    let next : Due = record { to = t; copy = copy; number = number } in
    let produced : number ≤ (buffer_at p t).produced = leb-true _ _ test in
    let less : former.number ≤ number = no_less produced in
    let some : found former ≡ Some former = ap (λ b. if b then Some former else None) (lt-ltb former.number number_limit (omega arith)) in
    some ∙ sym (ap (λ o. sooner o (Some next)) some ∙ ap (λ b. if b then Some former else Some next) (le-leb _ _ less))
kept_by p t copy number former false test fits no_less = sym (still_soonest (found former))

-- an edge whose least cursor was not produced, or is no less than what was found before
pub finds_no_sooner : (p : ProducerView) (t copy number : ℕ) (former : Due) → IsLeastCursor (edge_at p t) p.copies copy number
    → (buffer_at p t).produced < number_limit → found former ≡ soonest_below (due_to p) t → (number ≤ (buffer_at p t).produced → former.number ≤ number)
    → found former ≡ soonest_below (due_to p) (t + 1)
finds_no_sooner p t copy number former least fits so_far no_less =
    kept_by p t copy number former (nat_le number (buffer_at p t).produced) refl fits no_less ∙ with_edge p t copy number former least so_far
