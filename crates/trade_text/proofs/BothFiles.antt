-- The inputs of both files in order of time.
use Rattle.std.proofs.Common.{ℕ, ◌≡◌, ◌<◌, ◌≤◌, ◌+◌, List, [], ◌∷◌, ◌++◌, get_or, length, map, take, sym, ap, subst, ◌∙◌, true, arith}
use Rattle.std.specs.Prelude.{All, IsSortedByKey}
use Rattle.std.specs.Cmp.{IsStrictWeakOrder}
use Rattle.std.specs.List.Sorted.{IsStableByKey}
use Rattle.std.specs.Ordering.{int_cmp}
use Rattle.std.proofs.lemmas.Cmp.{int_cmp_total}
use Rattle.std.proofs.lemmas.List.{length-append, length-map, take_more}
use Rattle.std.proofs.lemmas.List.Elements.{All-append, All-map, All-weaker}
use Rattle.std.proofs.lemmas.List.Sorted.{All-permutation, length_permutation, ranks_by}
use Rattle.tuple_edge.specs.Input.{Input, from_first, rows_in}
use Rattle.tuple_edge.specs.declared.row.Row.{Row}
use Rattle.trade_text.specs.Inputs.{IsTimeOrder, from_second, in_order_by, inputs_of_both, is_earlier}
use Rattle.trade_text.specs.Limits.{max_inputs}
use Rattle.trade_text.specs.TradesView.{IsInputRow, IsTrades, paired}
use Rattle.trade_text.proofs.Ordered.{order_same, order_sorted, order_stable, sorted_is}
use Rattle.trade_text.proofs.Sources.{paired_push, rows_paired, sources_paired}

ranks : IsStrictWeakOrder is_earlier
ranks = ranks_by int_cmp_total (λ (x : Input). x.row.time)

-- inputs in order are in order of time, in the words of sorting
pub ordered : (given : List Input) → IsTimeOrder given (in_order_by is_earlier given)
ordered given = record {
  same = order_same is_earlier ranks given;
  rising = order_sorted is_earlier ranks given;
  stable = order_stable is_earlier ranks given;
}

-- what the stable sort by time gives of the rows of both files
pub sorted_both : (trades movements : List Row) (given ordered : List Input) → given ≡ from_first trades ++ from_second movements
    → IsSortedByKey (λ (x : Input). x.row.time) int_cmp ordered → IsStableByKey (λ (x : Input). x.row.time) int_cmp given ordered
    → ordered ≡ inputs_of_both trades movements
sorted_both trades movements given ordered is sorted stable = sorted_is is_earlier ranks given ordered sorted stable ∙ ap (in_order_by is_earlier) is

-- what holds of all inputs of both files holds of each in order
each_ordered : (P : Input → Type 0) (trades movements : List Row) → All P (from_first trades) → All P (from_second movements) → All P (inputs_of_both trades movements)
each_ordered P trades movements first second =
    All-permutation P (from_first trades ++ from_second movements) (inputs_of_both trades movements) (order_same is_earlier ranks (from_first trades ++ from_second movements))
    (All-append P (from_first trades) (from_second movements) first second)

many : (trades movements : List Row) → length (inputs_of_both trades movements) ≡ length trades + length movements
many trades movements =
    let first : length (from_first trades) ≡ length trades = length-map trades _ in
    let second : length (from_second movements) ≡ length movements = length-map movements _ in
    length_permutation (from_first trades ++ from_second movements) (inputs_of_both trades movements) (order_same is_earlier ranks (from_first trades ++ from_second movements))
    ∙ omega (arith, length-append (from_first trades) (from_second movements), first, second)

-- trades with the movements merged are within their limits
pub merged_limits : (trades movements rows : List Row) (sources : List ℕ) (symbols : List (List ℕ)) → All IsInputRow trades → All IsInputRow movements
    → length trades + length movements ≤ max_inputs → length symbols ≤ 4096 → paired rows sources ≡ inputs_of_both trades movements → length sources ≡ length rows
    → IsTrades (record { rows = rows; sources = sources; merged = true; symbols = symbols })
merged_limits trades movements rows sources symbols first second few known is same =
    let rows_are : rows ≡ rows_in (inputs_of_both trades movements) = sym (rows_paired rows sources) ∙ ap rows_in is in
    let sources_are : sources ≡ map (λ (x : Input). x.source) (inputs_of_both trades movements) = sym (sources_paired rows sources same) ∙ ap (map (λ (x : Input). x.source)) is in
    record {
      few_rows = let n = ap length rows_are in omega (arith, n, length-map (inputs_of_both trades movements) (λ (x : Input). x.row), many trades movements);
      few_symbols = known;
      rows = subst (All IsInputRow) (sym rows_are) (All-map IsInputRow (λ (x : Input). x.row) (inputs_of_both trades movements)
          (each_ordered (λ (x : Input). IsInputRow x.row) trades movements (All-map (λ (x : Input). IsInputRow x.row) (λ row. record { source = 0; row = row }) trades first)
          (All-map (λ (x : Input). IsInputRow x.row) (λ row. record { source = 1; row = row }) movements second)));
      few_sources = subst (All (λ source. source ≤ 1)) (sym sources_are) (All-map (λ source. source ≤ 1) (λ (x : Input). x.source) (inputs_of_both trades movements)
          (each_ordered (λ (x : Input). x.source ≤ 1) trades movements
          (All-map (λ (x : Input). x.source ≤ 1) (λ row. record { source = 0; row = row }) trades (All-weaker IsInputRow (λ row. 0 ≤ 1) (λ row h. omega arith) trades first))
          (All-map (λ (x : Input). x.source ≤ 1) (λ row. record { source = 1; row = row }) movements (All-weaker IsInputRow (λ row. 1 ≤ 1) (λ row h. omega arith) movements second))));
      unmerged = λ e. let z : ⊥ = cc e in absurd z;
    }

-- one more input is taken apart
pub parted_push : (rows : List Row) (sources : List ℕ) (given : List Input) (i : ℕ) (d : Input) → i < length given → length sources ≡ length rows → paired rows sources ≡ take i given
    → paired (rows ++ (get_or given i d).row ∷ []) (sources ++ (get_or given i d).source ∷ []) ≡ take (i + 1) given
parted_push rows sources given i d l same is =
    paired_push rows sources (get_or given i d).row (get_or given i d).source same
    ∙ ap (λ inputs. inputs ++ get_or given i d ∷ []) is
    ∙ sym (take_more given i d l)
