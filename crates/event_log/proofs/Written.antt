-- What is stored, written out: with one more entry, and with the last one again.
use Rattle.std.proofs.Common.{ℕ, zero, suc, ◌≡◌, ◌+◌, List, [], ◌∷◌, ◌++◌, length, set, get_or, refl, sym, ap, subst, ◌∙◌, append_assoc, append-nil, arith}
use Rattle.std.specs.Prelude.{replicate}
use Rattle.std.proofs.lemmas.List.{replicate-append-replicate}
use Rattle.event_log.specs.declared.entry.Entry.{Entry}
use Rattle.event_log.specs.declared.entry.Entry.TheVariants as entry
use Rattle.event_log.specs.declared.stored.Stored.{Stored}
use Rattle.event_log.specs.declared.stored.Stored.TheVariants as stored
use Rattle.event_log.specs.Stored.{CameAgain, again_after, again_at, again_behind, again_of, entries_of, first_entry, further_of, written_out}

-- ---- one list behind another

written_append : (again : Entry) (ss ts : List Stored) → written_out again (ss ++ ts) ≡ written_out again ss ++ written_out (again_after again ss) ts
written_append again [] ts = refl
written_append again (s ∷ ss) ts =
    let more : List Entry = replicate (further_of s) (again_behind again s) in
    ap (λ l. first_entry again s ∷ (more ++ l)) (written_append (again_behind again s) ss ts)
    ∙ ap (λ l. first_entry again s ∷ l) (sym (append_assoc more (written_out (again_behind again s) ss) (written_out (again_after (again_behind again s) ss) ts)))

again_append : (again : Entry) (ss ts : List Stored) → again_after again (ss ++ ts) ≡ again_after (again_after again ss) ts
again_append again [] ts = refl
again_append again (s ∷ ss) ts = again_append (again_behind again s) ss ts

-- ---- what comes again, comes again as it is

again_again : (e : Entry) → again_of (again_of e) ≡ again_of e
again_again (entry.Work rise) = refl
again_again (entry.Make rise) = refl
again_again (entry.Take sender rise) = refl
again_again (entry.Jump sender) = refl
again_again entry.Whole = refl

fixed_after : (again : Entry) (ss : List Stored) → again_of again ≡ again → again_of (again_after again ss) ≡ again_after again ss
fixed_after again [] is = is
fixed_after again (s ∷ ss) is = fixed_after (again_behind again s) ss (again_again (first_entry again s))

pub again_fixed : (ss : List Stored) → again_of (again_at ss) ≡ again_at ss
again_fixed ss = fixed_after entry.Whole ss refl

-- ---- one more is stored

-- an entry by itself
pub stored_entry : (ss : List Stored) (s : Stored) (e : Entry) → first_entry (again_at ss) s ≡ e → further_of s ≡ 0 → entries_of (ss ++ s ∷ []) ≡ entries_of ss ++ e ∷ []
stored_entry ss s e is none =
    written_append entry.Whole ss (s ∷ [])
    ∙ ap (λ n. entries_of ss ++ first_entry (again_at ss) s ∷ (replicate n (again_behind (again_at ss) s) ++ [])) none
    ∙ ap (λ x. entries_of ss ++ x ∷ []) is

pub stored_again : (ss : List Stored) (s : Stored) (e : Entry) → first_entry (again_at ss) s ≡ e → again_at (ss ++ s ∷ []) ≡ again_of e
stored_again ss s e is = again_append entry.Whole ss (s ∷ []) ∙ ap again_of is

-- an `Again`
pub one_again : (ss : List Stored) (n : ℕ) → CameAgain ss (suc n) (ss ++ stored.Again n ∷ [])
one_again ss n = record {
  entries = written_append entry.Whole ss (stored.Again n ∷ [])
      ∙ ap (λ l. entries_of ss ++ again_at ss ∷ l) (append-nil (replicate n (again_of (again_at ss))) ∙ ap (replicate n) (again_fixed ss));
  again = again_append entry.Whole ss (stored.Again n ∷ []) ∙ again_fixed ss;
}

-- ---- the last one says more

last_longer : (again : Entry) (m n : ℕ) → written_out again (stored.Again (m + n) ∷ []) ≡ written_out again (stored.Again m ∷ []) ++ replicate n (again_of again)
last_longer again m n =
    let behind : Entry = again_of again in
    ap (λ l. again ∷ l)
    (append-nil (replicate (m + n) behind) ∙ sym (replicate-append-replicate m n behind) ∙ ap (λ l. l ++ replicate n behind) (sym (append-nil (replicate m behind))))

longer_after : (again : Entry) (ss : List Stored) (at m n : ℕ) (d : Stored) → suc at ≡ length ss → get_or ss at d ≡ stored.Again m
    → (written_out again (set ss at (stored.Again (m + n))) ≡ written_out again ss ++ replicate n (again_after again ss))
    × (again_after again (set ss at (stored.Again (m + n))) ≡ again_after again ss)
longer_after again [] at m n d long is = absurd (omega (arith, long))
longer_after again (x ∷ []) zero m n d long is =
    subst (λ (y : Stored). (written_out again (stored.Again (m + n) ∷ []) ≡ written_out again (y ∷ []) ++ replicate n (again_behind again y))
    × (again_behind again (stored.Again (m + n)) ≡ again_behind again y)) (sym is) (last_longer again m n, refl)
longer_after again (x ∷ y ∷ ss) zero m n d long is = absurd (omega (arith, long))
longer_after again (x ∷ ss) (suc at) m n d long is =
    let behind : Entry = again_behind again x in
    let more : List Entry = replicate (further_of x) behind in
    let rest : (written_out behind (set ss at (stored.Again (m + n))) ≡ written_out behind ss ++ replicate n (again_after behind ss))
    × (again_after behind (set ss at (stored.Again (m + n))) ≡ again_after behind ss) = longer_after behind ss at m n d (omega (arith, long)) is in (
      ap (λ l. first_entry again x ∷ (more ++ l)) rest.0
          ∙ ap (λ l. first_entry again x ∷ l) (sym (append_assoc more (written_out behind ss) (replicate n (again_after behind ss)))),
      rest.1,
    )

pub longer_again : (ss : List Stored) (at m n : ℕ) (d : Stored) → suc at ≡ length ss → get_or ss at d ≡ stored.Again m → CameAgain ss n (set ss at (stored.Again (m + n)))
longer_again ss at m n d long is =
    let both : (entries_of (set ss at (stored.Again (m + n))) ≡ entries_of ss ++ replicate n (again_at ss)) × (again_at (set ss at (stored.Again (m + n))) ≡ again_at ss)
    = longer_after entry.Whole ss at m n d long is in
    record { entries = both.0; again = both.1 }

-- ---- again and again

pub never_again : (ss : List Stored) → CameAgain ss 0 ss
never_again ss = record { entries = sym (append-nil (entries_of ss)); again = refl }

pub again_more : (ss ts us : List Stored) (n m k : ℕ) → CameAgain ss n ts → CameAgain ts m us → n + m ≡ k → CameAgain ss k us
again_more ss ts us n m k first second sum = record {
  entries = second.entries
      ∙ ap (λ l. l ++ replicate m (again_at ts)) first.entries
      ∙ ap (λ e. (entries_of ss ++ replicate n (again_at ss)) ++ replicate m e) first.again
      ∙ append_assoc (entries_of ss) (replicate n (again_at ss)) (replicate m (again_at ss))
      ∙ ap (λ l. entries_of ss ++ l) (replicate-append-replicate n m (again_at ss) ∙ ap (λ k. replicate k (again_at ss)) sum);
  again = second.again ∙ first.again;
}
