-- What the finite searches find.
use Rattle.std.proofs.Common.{◌≡◌, ◌<◌, ◌≤◌, ℕ, zero, suc, Bool, true, Option, None, Some, refl, arith, subst}
use Rattle.std.specs.Prelude.{if◌then◌else◌, nat_le}
use Rattle.std.specs.Option.{option_or}
use Rattle.std.proofs.lemmas.Bool.{leb-true}
use Rattle.pair_machine.specs.Consumers.{first_below}
use Rattle.pair_machine.specs.Flow.{Flow}
use Rattle.pair_machine.specs.Numbers.{Partition, Producer}
use Rattle.pair_machine.specs.Producers.{Due, copies, due, due_below, due_copies, due_copy, sooner}
use Rattle.pair_machine.proofs.Tests.{if_elim}

abbrev pub FoundIn : (ℕ → Bool) → ℕ → Option ℕ → Type 0
FoundIn p n None = Unit {0}
FoundIn p n (Some q) = (p q ≡ true) × (q < n)

pub first_found : (n : ℕ) (p : ℕ → Bool) → FoundIn p n (first_below p n)
first_found zero p = tt
first_found (suc n) p = go (first_below p n) (first_found n p)
  where
    go : (o : Option ℕ) → FoundIn p n o → FoundIn p (suc n) (option_or o (if p n then Some n else None))
    go None h = if_elim (FoundIn p (suc n)) (p n) (Some n) None (λ e. (e, omega arith)) (λ e. tt)
    go (Some q) h = (h.0, omega arith)

-- what is due: a copy's cursor, not above the produced number
abbrev pub IsDue : (ℕ → ℕ) → Producer → ℕ → Option Due → Type 0
IsDue made x n None = Unit {0}
IsDue made x n (Some d) = (d.to < n) × (d.number ≡ x.cursors d.to d.copy) × (d.number ≤ made d.to)

sooner_due : (made : ℕ → ℕ) (x : Producer) (n : ℕ) (d e : Option Due) → IsDue made x n d → IsDue made x n e → IsDue made x n (sooner d e)
sooner_due made x n None e h k = k
sooner_due made x n (Some d) None h k = h
sooner_due made x n (Some d) (Some e) h k = if_elim (IsDue made x n) (nat_le d.number e.number) (Some d) (Some e) (λ z. h) (λ z. k)

replica_due : (made : ℕ → ℕ) (x : Producer) (n t c : ℕ) → t < n → IsDue made x n (due_copy (made t) x t c)
replica_due made x n t c h = if_elim (IsDue made x n) (nat_le (x.cursors t c) (made t)) _ None (λ e. (h, refl, leb-true (x.cursors t c) (made t) e)) (λ e. tt)

copies_due : (made : ℕ → ℕ) (x : Producer) (n t c : ℕ) → t < n → IsDue made x n (due_copies (made t) x t c)
copies_due made x n t zero h = tt
copies_due made x n t (suc c) h = sooner_due made x n (due_copies (made t) x t c) (due_copy (made t) x t c) (copies_due made x n t c h) (replica_due made x n t c h)

below_due : (n : ℕ) (made : ℕ → ℕ) (x : Producer) (cs m : ℕ) → n ≤ m → IsDue made x m (due_below made x cs n)
below_due zero made x cs m h = tt
below_due (suc n) made x cs m h = sooner_due made x m (due_below made x cs n) (due_copies (made n) x n cs) (below_due n made x cs m (omega arith)) (copies_due made x m n cs (omega arith))

pub is_due : (f : Flow) (p : Partition) (made : ℕ → ℕ) (x : Producer) → IsDue made x (f.targets p.stage) (due f p made x)
is_due f p made x = if_elim (IsDue made x (f.targets p.stage)) x.leads _ None (λ e. below_due (f.targets p.stage) made x (copies f p) (f.targets p.stage) (omega arith)) (λ e. tt)

-- and it is due to a replica that is there
abbrev IsThere : ℕ → Option Due → Type 0
IsThere n None = Unit {0}
IsThere n (Some d) = d.copy < n

sooner_there : (n : ℕ) (d e : Option Due) → IsThere n d → IsThere n e → IsThere n (sooner d e)
sooner_there n None e h k = k
sooner_there n (Some d) None h k = h
sooner_there n (Some d) (Some e) h k = if_elim (IsThere n) (nat_le d.number e.number) (Some d) (Some e) (λ z. h) (λ z. k)

copies_there : (made n : ℕ) (x : Producer) (t c : ℕ) → c ≤ n → IsThere n (due_copies made x t c)
copies_there made n x t zero h = tt
copies_there made n x t (suc c) h =
    sooner_there n (due_copies made x t c) (due_copy made x t c) (copies_there made n x t c (omega arith))
    (if_elim (IsThere n) (nat_le (x.cursors t c) made) _ None (λ e. omega arith) (λ e. tt))

below_there : (n : ℕ) (made : ℕ → ℕ) (x : Producer) (copies : ℕ) → IsThere copies (due_below made x copies n)
below_there zero made x copies = tt
below_there (suc n) made x copies =
    sooner_there copies (due_below made x copies n) (due_copies (made n) x n copies) (below_there n made x copies) (copies_there (made n) copies x n copies (omega arith))

due_is_there : (f : Flow) (p : Partition) (made : ℕ → ℕ) (x : Producer) → IsThere (copies f p) (due f p made x)
due_is_there f p made x = if_elim (IsThere (copies f p)) x.leads _ None (λ e. below_there (f.targets p.stage) made x (copies f p)) (λ e. tt)

pub due_there : (f : Flow) (p : Partition) (made : ℕ → ℕ) (x : Producer) (d : Due) → due f p made x ≡ Some d → d.copy < copies f p
due_there f p made x d e = subst (IsThere (copies f p)) e (due_is_there f p made x)
