-- The first edge of which something is to be told.
use Rattle.std.proofs.Common.{◌≡◌, ℕ, zero, suc, ◌+◌, ◌-◌, ◌<◌, sym, ◌∙◌, ap, subst, arith}
use Rattle.std.specs.Prelude.{None, Some, if◌then◌else◌}
use borrow.Author.Tests.{lt-ltb}
use Rattle.merge_order.specs.MergeView.{mark_of}
use Rattle.std.specs.Option.{option_or}
use Rattle.flux_consumer.specs.ConsumerView.{ConsumerView, report_at, report_below, told_of}

-- what was found among the first edges is found among more
stays : (c : ConsumerView) (n more : ℕ) (report : ℕ × ℕ) → report_below c n ≡ Some report → report_below c (n + more) ≡ Some report
stays c n zero report found = subst (λ m. report_below c m ≡ Some report) (let same : n ≡ n + 0 = omega arith in same) found
stays c n (suc more) report found =
    subst (λ m. report_below c m ≡ Some report) (let same : suc (n + more) ≡ n + suc more = omega arith in same)
    (ap (λ former. option_or former (report_at c (n + more))) (stays c n more report found))

-- an edge of which something is to be told, where nothing is of those before it
pub found : (c : ConsumerView) (n edge mark : ℕ) → report_below c edge ≡ None → edge < n → told_of c edge < mark → mark ≡ mark_of c.merge edge → Some (edge, mark) ≡ report_below c n
found c n edge mark none inside untold is =
    let above : told_of c edge < mark_of c.merge edge = omega arith in
    let here : report_at c edge ≡ Some (edge, mark) = ap (λ test. if test then Some (edge, mark_of c.merge edge) else None) (lt-ltb _ _ above) ∙ ap (λ m. Some (edge, m)) (sym is) in
    let upto : report_below c (suc edge) ≡ Some (edge, mark) = ap (λ former. option_or former (report_at c edge)) none ∙ here in
    let rest : suc edge + (n - suc edge) ≡ n = omega arith in
    sym (subst (λ m. report_below c m ≡ Some (edge, mark)) rest (stays c (suc edge) (n - suc edge) (edge, mark) upto))
