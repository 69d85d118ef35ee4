-- What the next entry of a log says, from what is said where it is made.
use Rattle.std.proofs.Common.{ℕ, ◌≡◌, ◌<◌, List, [], length, get_or, set, refl, sym, ap, subst, ◌∙◌, arith}
use Rattle.std.specs.Prelude.{Option, Some, IfSome, slice_get}
use Rattle.std.proofs.lemmas.List.{append-nil}
use Rattle.std.proofs.lemmas.Option.{get_or_from_slice_get, slice_get_within}
use Rattle.tuple_edge.specs.declared.event.Event.{Event}
use Rattle.tuple_edge.specs.declared.event.Event.TheVariants as event
use Rattle.tuple_edge.specs.declared.event.Stamped.{Stamped}
use Rattle.tuple_edge.specs.declared.node.LinkId.{LinkId}
use Rattle.tuple_edge.specs.declared.node.NodeId.{NodeId}
use Rattle.event_log.specs.declared.entry.Entry.{Entry}
use Rattle.event_log.specs.declared.entry.Entry.TheVariants as entry
use Rattle.event_log.specs.Reading.{Continues, IsKnown, IsPlain, IsTake, by_place, counted, later, noted, short_meaning}
use Rattle.event_log.specs.Views.{AreMet, SendersView}
use Rattle.event_log.proofs.Places.{by_place-set, by_place-zeros}

-- an entry says what an event of this node is, where so far the senders were taken to these indexes and the clock rose by so much, if that can be
-- said; one that needs a whole event says nothing of it
abbrev Says : NodeId → List NodeId → (ℕ → ℕ) → Option ℕ → Event → Entry → Type 0
Says node senders taken risen e (entry.Work rise) = (risen ≡ Some rise) × (e ≡ event.Work node)
Says node senders taken risen e (entry.Make rise) = (risen ≡ Some rise) × (e ≡ event.Make)
Says node senders taken risen e (entry.Take sender rise) = (risen ≡ Some rise) × (sender < length senders)
    × (e ≡ event.Take (record { «from» = get_or senders sender node; to = node }) (later (taken sender) 1))
Says node senders taken risen e (entry.Jump sender) = sender < length senders
Says node senders taken risen e entry.Whole = Unit {0}

joined : (stamped : Stamped) (clock : ℕ) (e : Event) → stamped.clock ≡ clock → stamped.event ≡ e → (record { clock = clock; event = e }) ≡ stamped
joined stamped clock e at is = λ i. record { clock = sym at i; event = sym is i }

-- ---- what an entry says

means_of : (node : NodeId) (senders : List NodeId) (clock : ℕ) (taken : ℕ → ℕ) (risen : Option ℕ) (stamped : Stamped) (e : Entry)
    → IfSome risen (λ rise. stamped.clock ≡ later clock rise) → Says node senders taken risen stamped.event e
    → IfSome (short_meaning node senders clock taken e) (λ m. m ≡ stamped)
means_of node senders clock taken risen stamped (entry.Work rise) rises says =
    joined stamped _ _ (subst (λ o. IfSome o (λ r. stamped.clock ≡ later clock r)) says.0 rises) says.1
means_of node senders clock taken risen stamped (entry.Make rise) rises says =
    joined stamped _ _ (subst (λ o. IfSome o (λ r. stamped.clock ≡ later clock r)) says.0 rises) says.1
means_of node senders clock taken risen stamped (entry.Take sender rise) rises says =
    joined stamped _ _ (subst (λ o. IfSome o (λ r. stamped.clock ≡ later clock r)) says.0 rises) says.2
means_of node senders clock taken risen stamped (entry.Jump sender) rises says = tt
means_of node senders clock taken risen stamped entry.Whole rises says = tt

known_of : (node : NodeId) (senders : List NodeId) (taken : ℕ → ℕ) (risen : Option ℕ) (is : Event) (e : Entry) → Says node senders taken risen is e → IsKnown (length senders) e
known_of node senders taken risen is (entry.Work rise) says = tt
known_of node senders taken risen is (entry.Make rise) says = tt
known_of node senders taken risen is (entry.Take sender rise) says = says.1
known_of node senders taken risen is (entry.Jump sender) says = says
known_of node senders taken risen is entry.Whole says = tt

-- ---- an event that is no take from one of the senders

plain_says : (node : NodeId) (senders : List NodeId) (taken : ℕ → ℕ) (risen : Option ℕ) (is : Event) (e : Entry) → IsPlain node risen is e → Says node senders taken risen is e
plain_says node senders taken risen is (entry.Work rise) plain = plain
plain_says node senders taken risen is (entry.Make rise) plain = plain
plain_says node senders taken risen is (entry.Take sender rise) plain = absurd plain
plain_says node senders taken risen is (entry.Jump sender) plain = absurd plain
plain_says node senders taken risen is entry.Whole plain = tt

plain_counts : (node : NodeId) (taken : ℕ → ℕ) (risen : Option ℕ) (is : Event) (e : Entry) → IsPlain node risen is e → taken ≡ counted e is taken
plain_counts node taken risen is (entry.Work rise) plain = refl
plain_counts node taken risen is (entry.Make rise) plain = refl
plain_counts node taken risen is (entry.Take sender rise) plain = absurd plain
plain_counts node taken risen is (entry.Jump sender) plain = absurd plain
plain_counts node taken risen is entry.Whole plain = refl

-- no sender more
pub met_none : (before : SendersView) → AreMet before before
met_none before = record { more = []; nodes = sym (append-nil before.nodes); taken = sym (append-nil before.taken) }

pub continues_plain : (node : NodeId) (before after : SendersView) (clock : ℕ) (risen : Option ℕ) (stamped : Stamped) (e : Entry) → AreMet before after
    → IfSome risen (λ rise. stamped.clock ≡ later clock rise) → IsPlain node risen stamped.event e → Continues node before clock e stamped after
continues_plain node before after clock risen stamped e met rises plain =
    let says : Says node after.nodes (by_place before.taken) risen stamped.event e = plain_says _ _ _ _ _ e plain in
    record {
      more = met.more;
      nodes = met.nodes;
      known = known_of _ _ _ _ _ e says;
      means = means_of node after.nodes clock (by_place before.taken) risen stamped e rises says;
      taken = ap by_place met.taken ∙ by_place-zeros before.taken met.more ∙ plain_counts node (by_place before.taken) risen stamped.event e plain;
    }

-- ---- a take from one of the senders

take_says : (node : NodeId) (senders : List NodeId) (taken : ℕ → ℕ) (source : NodeId) (place last index : ℕ) (risen : Option ℕ) (is : Event) (e : Entry)
    → slice_get senders place ≡ Some source → taken place ≡ last → is ≡ event.Take (record { «from» = source; to = node }) index
    → IsTake place last risen index e → Says node senders taken risen is e
take_says node senders taken source place last index risen is (entry.Work rise) at counts named take = absurd take
take_says node senders taken source place last index risen is (entry.Make rise) at counts named take = absurd take
take_says node senders taken source place last index risen is (entry.Take sender rise) at counts named take =
    let there : slice_get senders sender ≡ Some source = ap (slice_get senders) take.0 ∙ at in
    let next : index ≡ later (taken sender) 1 = take.2 ∙ ap (λ n. later n 1) (sym counts ∙ ap taken (sym take.0)) in (
      take.1,
      slice_get_within senders sender source there,
      named ∙ ap (λ n. event.Take (record { «from» = source; to = node }) n) next
          ∙ ap (λ (n : NodeId). event.Take (record { «from» = n; to = node }) (later (taken sender) 1)) (sym (get_or_from_slice_get senders sender source node there)),
    )
take_says node senders taken source place last index risen is (entry.Jump sender) at counts named take =
    slice_get_within senders sender source (ap (slice_get senders) take ∙ at)
take_says node senders taken source place last index risen is entry.Whole at counts named take = absurd take

take_counts : (taken : ℕ → ℕ) (link : LinkId) (place last index : ℕ) (risen : Option ℕ) (is : Event) (e : Entry) → is ≡ event.Take link index → IsTake place last risen index e
    → noted place index taken ≡ counted e is taken
take_counts taken link place last index risen is (entry.Work rise) named take = absurd take
take_counts taken link place last index risen is (entry.Make rise) named take = absurd take
take_counts taken link place last index risen is (entry.Take sender rise) named take =
    ap (λ p. noted p index taken) (sym take.0) ∙ ap (λ x. counted (entry.Take sender rise) x taken) (sym named)
take_counts taken link place last index risen is (entry.Jump sender) named take =
    ap (λ p. noted p index taken) (sym take) ∙ ap (λ x. counted (entry.Jump sender) x taken) (sym named)
take_counts taken link place last index risen is entry.Whole named take = absurd take

pub continues_take : (node source : NodeId) (before met_to after : SendersView) (clock place index : ℕ) (risen : Option ℕ) (stamped : Stamped) (e : Entry) → AreMet before met_to
    → length met_to.nodes ≡ length met_to.taken → slice_get met_to.nodes place ≡ Some source → after ≡ record met_to { taken = set met_to.taken place index }
    → stamped.event ≡ event.Take (record { «from» = source; to = node }) index
    → IfSome risen (λ rise. stamped.clock ≡ later clock rise) → IsTake place (get_or met_to.taken place 0) risen index e → Continues node before clock e stamped after
continues_take node source before met_to after clock place index risen stamped e met sized at set_to named rises take =
    let same : by_place met_to.taken ≡ by_place before.taken = ap by_place met.taken ∙ by_place-zeros before.taken met.more in
    let nodes : after.nodes ≡ met_to.nodes = ap (λ (s : SendersView). s.nodes) set_to in
    let taken : after.taken ≡ set met_to.taken place index = ap (λ (s : SendersView). s.taken) set_to in
    let within : place < length met_to.nodes = slice_get_within met_to.nodes place source at in
    let counted_there : place < length met_to.taken = omega (arith, within, sized) in
    let last : by_place before.taken place ≡ get_or met_to.taken place 0 = ap (λ (f : ℕ → ℕ). f place) (sym same) in
    let says : Says node after.nodes (by_place before.taken) risen stamped.event e =
    take_says node after.nodes (by_place before.taken) source place (get_or met_to.taken place 0) index risen stamped.event e
    (ap (λ l. slice_get l place) nodes ∙ at) last named take in
    record {
      more = met.more;
      nodes = nodes ∙ met.nodes;
      known = known_of _ _ _ _ _ e says;
      means = means_of node after.nodes clock (by_place before.taken) risen stamped e rises says;
      taken = ap by_place taken ∙ by_place-set met_to.taken place index counted_there ∙ ap (noted place index) same
          ∙ take_counts (by_place before.taken) _ place (get_or met_to.taken place 0) index risen stamped.event e named take;
    }
