-- The source of each row.
use Rattle.std.proofs.Common.{◌≡◌, ◌<◌, ◌≤◌, ℕ, zero, suc, Bool, true, false, List, [], ◌∷◌, ◌++◌, Some, get_or, length, map, refl, sym, ap, subst, arith}
use Rattle.std.specs.Prelude.{All, slice_get}
use Rattle.std.proofs.lemmas.List.Elements.{All-cons, All-head, All-nil, All-tail, All-weaker}
use Rattle.tuple_edge.specs.Input.{Input, from_first, rows_in}
use Rattle.tuple_edge.specs.declared.row.Row.{Row}
use Rattle.trade_text.specs.TradesView.{IsTrades, TradesView, inputs_in, paired}

-- an input is its row with the source that is listed for it, or the first one
pub input_at : (rows : List Row) (sources : List ℕ) (n : ℕ) (row : Row) → slice_get rows n ≡ Some row → slice_get (paired rows sources) n ≡ Some (record { source = get_or sources n 0; row = row })
input_at [] sources n row e = let z : ⊥ = cc e in absurd z
input_at (r ∷ rows) [] zero row e = let same : r ≡ row = cc e in λ i. Some (record { source = 0; row = same i })
input_at (r ∷ rows) [] (suc n) row e = input_at rows [] n row e
input_at (r ∷ rows) (s ∷ sources) zero row e = let same : r ≡ row = cc e in λ i. Some (record { source = s; row = same i })
input_at (r ∷ rows) (s ∷ sources) (suc n) row e = input_at rows sources n row e

-- inputs have the rows that they were paired of
pub rows_paired : (rows : List Row) (sources : List ℕ) → rows_in (paired rows sources) ≡ rows
rows_paired [] sources = refl
rows_paired (r ∷ rows) [] = ap (λ rs. r ∷ rs) (rows_paired rows [])
rows_paired (r ∷ rows) (s ∷ sources) = ap (λ rs. r ∷ rs) (rows_paired rows sources)

-- what holds of each row holds of each input's
pub each_row : (P : Row → Type 0) (rows : List Row) (sources : List ℕ) → All P rows → All (λ (input : Input). P input.row) (paired rows sources)
each_row P [] sources all = All-nil (λ (input : Input). P input.row)
each_row P (r ∷ rows) [] all =
    All-cons (λ (input : Input). P input.row) (record { source = 0; row = r }) (paired rows []) (All-head P r rows all) (each_row P rows [] (All-tail P r rows all))
each_row P (r ∷ rows) (s ∷ sources) all =
    All-cons (λ (input : Input). P input.row) (record { source = s; row = r }) (paired rows sources) (All-head P r rows all) (each_row P rows sources (All-tail P r rows all))

-- what holds of the first source and of each that is listed holds of each input's
pub each_source : (P : ℕ → Type 0) (rows : List Row) (sources : List ℕ) → P 0 → All P sources → All (λ (input : Input). P input.source) (paired rows sources)
each_source P [] sources first all = All-nil (λ (input : Input). P input.source)
each_source P (r ∷ rows) [] first all =
    All-cons (λ (input : Input). P input.source) (record { source = 0; row = r }) (paired rows []) first (each_source P rows [] first all)
each_source P (r ∷ rows) (s ∷ sources) first all =
    All-cons (λ (input : Input). P input.source) (record { source = s; row = r }) (paired rows sources) (All-head P s sources all)
    (each_source P rows sources first (All-tail P s sources all))

-- inputs have no source beyond those of a plan, where a second source was merged in version 2 alone
pub sources_within : (trades : TradesView) (version : ℕ) → IsTrades trades → 1 ≤ version → (trades.merged ≡ true → version ≡ 2)
    → All (λ (input : Input). input.source < version) (inputs_in trades)
sources_within trades version limits some fits = go trades.merged refl
  where
    go : (b : Bool) → trades.merged ≡ b → All (λ (input : Input). input.source < version) (inputs_in trades)
    go false e = subst (λ sources. All (λ (input : Input). input.source < version) (paired trades.rows sources)) (sym (limits.unmerged e))
        (each_source (λ s. s < version) trades.rows [] (omega arith) (All-nil (λ s. s < version)))
    go true e =
        let two = fits e in
        each_source (λ s. s < version) trades.rows trades.sources (omega arith) (All-weaker (λ s. s ≤ 1) (λ s. s < version) (λ s l. omega arith) trades.sources limits.few_sources)

-- trades alone all come from the first source
pub paired_first : (rows : List Row) → paired rows [] ≡ from_first rows
paired_first [] = refl
paired_first (r ∷ rows) = ap (λ inputs. record { source = 0; row = r } ∷ inputs) (paired_first rows)

-- one more row with its source
pub paired_push : (rows : List Row) (sources : List ℕ) (row : Row) (source : ℕ) → length sources ≡ length rows
    → paired (rows ++ row ∷ []) (sources ++ source ∷ []) ≡ paired rows sources ++ record { source = source; row = row } ∷ []
paired_push [] [] row source same = refl
paired_push [] (s ∷ sources) row source same = absurd (omega arith)
paired_push (r ∷ rows) [] row source same = absurd (omega arith)
paired_push (r ∷ rows) (s ∷ sources) row source same = ap (λ inputs. record { source = s; row = r } ∷ inputs) (paired_push rows sources row source (omega arith))

-- the sources of inputs are those that are listed, where there is one for each row
pub sources_paired : (rows : List Row) (sources : List ℕ) → length sources ≡ length rows → map (λ (x : Input). x.source) (paired rows sources) ≡ sources
sources_paired [] [] same = refl
sources_paired [] (s ∷ sources) same = absurd (omega arith)
sources_paired (r ∷ rows) [] same = absurd (omega arith)
sources_paired (r ∷ rows) (s ∷ sources) same = ap (λ ss. s ∷ ss) (sources_paired rows sources (omega arith))
