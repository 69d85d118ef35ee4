-- Each step keeps the rule of the channel.
use Rattle.std.proofs.Common.{◌≡◌, ◌≢◌, ◌+◌, ◌<◌, ◌^◌, ℕ, zero, suc, true, false, true≢false, List, [], ◌∷◌, ◌++◌, length, length-append, set, sym, refl, ap, ◌∙◌, subst, ⊎_elim, append_assoc, arith}
use Rattle.std.proofs.lemmas.List.{append-nil}
use mathlib.Core.Option.{some, some-ne-none}
use lib.ListN.{get_elem?}
use Rattle.atomic_table.proofs.Lists.{at_set, at_snoc}
use Rattle.crossbeam_channel.specs.Fifo.{Forks, Learns, Merges, Pops, Pushes}
use Rattle.ordered_channel.specs.declared.message.Log.{Log}
use Rattle.ordered_channel.specs.declared.message.Message.{Message}
use Rattle.ordered_channel.specs.Rule.{Fits, HasGot, HasSent, IsInOrder, log, value_of, values_in}

module _ {T : Type 0} where
  values_in-append : (xs ys : List (Message T)) → values_in (xs ++ ys) ≡ values_in xs ++ values_in ys
  values_in-append [] ys = refl
  values_in-append (m ∷ ms) ys = ap (λ l. value_of m ++ l) (values_in-append ms ys) ∙ sym (append_assoc (value_of m) (values_in ms) (values_in ys))

  one_more : (xs : List (Message T)) (m : Message T) → values_in (xs ++ m ∷ []) ≡ values_in xs ++ value_of m
  one_more xs m = values_in-append xs (m ∷ []) ∙ ap (λ l. values_in xs ++ l) (append-nil (value_of m))

  at_end : (l : List (Log T)) (a b : Log T) (j : ℕ) → get_elem? l j ≢ some b → get_elem? (l ++ a ∷ []) j ≡ some b → j ≡ length l
  at_end [] a b zero n e = refl
  at_end [] a b (suc j) n e = absurd (some-ne-none b (sym e))
  at_end (x ∷ xs) a b zero n e = absurd (n e)
  at_end (x ∷ xs) a b (suc j) n e = ap suc (at_end xs a b j n e)

  abbrev AllAt : (ℕ → Log T → Type 0) → List (Log T) → Type 0
  AllAt F views = (pass : ℕ) (v : Log T) → get_elem? views pass ≡ some v → F pass v

  all_set : (F : ℕ → Log T → Type 0) (views : List (Log T)) (pass : ℕ) (w : Log T) → F pass w → ((j : ℕ) (u : Log T) → j ≢ pass → get_elem? views j ≡ some u → F j u) → AllAt F (set views pass w)
  all_set F views pass w mine others j u e = ⊎_elim (λ (x : (j ≡ pass) × (w ≡ u)). subst (λ (y : ℕ × Log T). F y.0 y.1) (λ i. (sym x.0 i, x.1 i)) mine)
      (λ (x : (j ≢ pass) × (get_elem? views j ≡ some u)). others j u x.0 x.1) (at_set views pass j w u e)

  pub begins : IsInOrder {T = T} [] (log true true [] [] ∷ [])
  begins = (0, 0, [], [], refl, omega arith, all_set (Fits 0 0 [] []) (log true true [] [] ∷ []) 0 (log true true [] []) ((λ _. (refl, refl)), λ _. (refl, refl)) (λ j u other e. absurd (other (at_end [] _ u j (λ x. some-ne-none u (sym x)) e))))

  pub sends : (n pass : ℕ) (v : Log T) (m : Message T) → v.sends ≡ true → length (v.sent ++ value_of m) < 2 ^ 64 → Pushes IsInOrder n pass v m (HasSent v m)
  sends n pass v m may few items views _ h at = let w : Log T = log v.sends v.gets (v.sent ++ value_of m) v.got in let mine = h.6 pass v at in let sent = h.2 ++ value_of m in let same : v.sent ≡ h.2 = (mine.0 may).1 in (
    w,
    (
      h.0,
      h.1,
      sent,
      h.3,
      ap (λ l. l ++ value_of m) h.4 ∙ (append_assoc h.3 (values_in items) (value_of m) ∙ ap (λ l. h.3 ++ l) (sym (one_more items m))),
      subst (λ (l : List T). length (l ++ value_of m) < 2 ^ 64) same few,
      all_set (Fits h.0 h.1 sent h.3) views pass w ((λ _. ((mine.0 may).0, ap (λ l. l ++ value_of m) same)), mine.1)
          (λ j u other e. ((λ p. absurd (other (((h.6 j u e).0 p).0 ∙ sym (mine.0 may).0))), (h.6 j u e).1)),
    ),
    refl,
  )

  length-front : (xs ys : List T) → length xs < length (xs ++ ys) + 1
  length-front [] ys = omega arith
  length-front (x ∷ xs) ys = let k = length-front xs ys in omega arith

  pub gets : (pass : ℕ) (v : Log T) → v.gets ≡ true → Pops IsInOrder pass v (HasGot v)
  gets pass v may m items views h at = let w : Log T = log v.sends v.gets v.sent (v.got ++ value_of m) in let mine = h.6 pass v at in let got = h.3 ++ value_of m in
      let sent : h.2 ≡ got ++ values_in items = h.4 ∙ sym (append_assoc h.3 (value_of m) (values_in items)) in
      let same : v.got ≡ h.3 = (mine.1 may).1 in
      let front : length got < length h.2 + 1 = subst (λ (l : List T). length got < length l + 1) (sym sent) (length-front got (values_in items)) in
      let few : length got < 2 ^ 64 = let k = h.5 in omega arith in (
        w,
        (
          h.0,
          h.1,
          h.2,
          got,
          sent,
          h.5,
          all_set (Fits h.0 h.1 h.2 got) views pass w (mine.0, λ _. ((mine.1 may).0, ap (λ l. l ++ value_of m) same))
              (λ j u other e. ((h.6 j u e).0, λ p. absurd (other (((h.6 j u e).1 p).0 ∙ sym (mine.1 may).0)))),
        ),
        (refl, subst (λ (l : List T). length (l ++ value_of m) < 2 ^ 64) (sym same) few),
      )

  pub forks : (pass : ℕ) (v : Log T) → v.sends ≡ true → v.gets ≡ true → Forks IsInOrder pass v (log true false v.sent []) (log false true [] v.got)
  forks pass v a b items views h at = let l : Log T = log true false v.sent [] in let r : Log T = log false true [] v.got in let mine = h.6 pass v at in let vs : List (Log T) = set views pass l in
      let Old : ℕ → Log T → Type 0 = λ j u. (u.sends ≡ true → (j ≡ h.0) × (u.sent ≡ h.2)) × (u.gets ≢ true) in
      let old : AllAt Old vs = all_set Old views pass l ((λ _. mine.0 a), λ p. true≢false (sym p)) (λ j u other e. ((h.6 j u e).0, λ p. other (((h.6 j u e).1 p).0 ∙ sym (mine.1 b).0))) in (
        h.0,
        length vs,
        h.2,
        h.3,
        h.4,
        h.5,
        λ j u e. ⊎_elim (λ x. ((old j u x).0, λ p. absurd ((old j u x).1 p)))
            (λ (is : r ≡ u). ((λ p. absurd (true≢false (sym (ap (λ (y : Log T). y.sends) is ∙ p)))), λ p. (at_end vs r u j (λ x. (old j u x).1 p) e, ap (λ (y : Log T). y.got) (sym is) ∙ (mine.1 b).1))) (at_snoc vs r u j e),
      )

  pub merges : (pass : ℕ) (v : Log T) (other : ℕ) (u : Log T) → v.sends ≡ true → u.gets ≡ true → Merges IsInOrder pass v other u (log true true v.sent u.got) (log false false [] [])
  merges pass v other u a b items views h at two at_other = let both : Log T = log true true v.sent u.got in let mine = h.6 pass v at in let vs : List (Log T) = set views pass both in
      let was : get_elem? views other ≡ some u = ⊎_elim (λ x. absurd (two x.0)) (λ x. x.1) (at_set views pass other both u at_other) in let theirs = (h.6 other u was).1 b in
      let Now : ℕ → Log T → Type 0 = λ j y. j ≢ other → Fits h.0 pass h.2 h.3 j y in
      let now : AllAt Now vs = all_set Now views pass both (λ _. ((λ _. mine.0 a), λ _. (refl, theirs.1))) (λ j y _ e apart. ((h.6 j y e).0, λ p. absurd (apart (((h.6 j y e).1 p).0 ∙ sym theirs.0)))) in
      (h.0, pass, h.2, h.3, h.4, h.5, all_set (Fits h.0 pass h.2 h.3) vs other (log false false [] []) ((λ p. absurd (true≢false (sym p))), λ p. absurd (true≢false (sym p))) (λ j y apart e. now j y e apart))

  pub totals : (pass : ℕ) (v : Log T) → v.sends ≡ true → v.gets ≡ true → Learns IsInOrder pass v (λ items. v.sent ≡ v.got ++ values_in items)
  totals pass v a b items views h at = let mine = h.6 pass v at in (mine.0 a).1 ∙ h.4 ∙ ap (λ l. l ++ values_in items) (sym (mine.1 b).1)

  -- where the number of one more value is a number, there are few enough with it
  pub fits : (sent : List T) (number : ℕ) (value : T) → length sent + 1 ≡ number → number < 2 ^ 64 → length (sent ++ value ∷ []) < 2 ^ 64
  fits sent number value known few = let long : length (sent ++ value ∷ []) ≡ length sent + 1 = length-append sent (value ∷ []) in omega (arith, long, known, few)
