-- Each turn keeps what reports say of marks.
use Rattle.std.proofs.Common.{◌≡◌, ◌≤◌, ℕ, Bool, arith}
use Rattle.pair_machine.specs.Flow.{Flow}
use Rattle.pair_machine.specs.Messages.{AskBack, AskStop, Caught, Message, Report}
use Rattle.pair_machine.specs.Numbers.{Partition, Running}
use Rattle.pair_machine.specs.Pairs.{AreIncarnationsInOrder, AreReportsTrue, DoesNotName, OfReport, ReportFits, Side}
use Rattle.pair_machine.specs.Replicas.{folded}
use Rattle.tuple_edge.specs.declared.node.EdgeId.{EdgeId}
use Rattle.pair_machine.proofs.Turns.{Turn, runs, tells, asks_stop, asks_back, serves, gives, ends, dies, halts, begins, holds, gathers, catches, hears, flags, raises, names, downs, stops, backs}
use Rattle.pair_machine.proofs.Lists.{each_more, each_map, each_all}

pub report_more : (P Q : ℕ → EdgeId → ℕ → Type 0) → ((i : ℕ) (e : EdgeId) (k : ℕ) → P i e k → Q i e k) → (m : Message) → OfReport P m → OfReport Q m
report_more P Q g (Report i e k) n = g i e k n
report_more P Q g message n = tt

-- no Report that binds is of the present incarnation
unbound : (i : ℕ) (P : EdgeId → ℕ → Type 0) (m : Message) → DoesNotName i m → OfReport (λ j e k. j ≡ i → P e k) m
unbound i P (Report j e k) n = λ same. absurd (n same)
unbound i P message n = tt

pub keep_reports : {f : Flow} {p : Partition} {kill stop : Bool} {a b a_after b_after : Side} → Turn f p kill stop a b a_after b_after → AreIncarnationsInOrder a b → AreReportsTrue a b → AreReportsTrue a_after b_after
keep_reports (runs x t s h up down across b m) n k =
    let more = each_map (ReportFits (Running x)) (OfReport (λ i e j. i ≡ x.inc → j ≤ t.marks e.from))
    (report_more (λ i e j. i ≡ x.inc → j ≤ x.consumer.marks e.from) (λ i e j. i ≡ x.inc → j ≤ t.marks e.from) (λ i e j g same. let l = g same in let l_high = m e.from in omega arith)) up k.fits in
    record { fits = more }
keep_reports (tells x e h up down across b) n k = record { fits = each_more (ReportFits (Running x)) up (Report x.inc e (x.consumer.marks e.from)) k.fits (λ same. omega arith) }
keep_reports (asks_stop x h up down across b y) n k = record { fits = each_more (ReportFits (Running x)) up (AskStop x.inc) k.fits tt }
keep_reports (asks_back x h up down across b) n k = record { fits = each_more (ReportFits (Running x)) up AskBack k.fits tt }
keep_reports (serves x target h up down across b c l) n k = assumption
keep_reports (gives x mv h up down across b e) n k = assumption
keep_reports (ends x mv h up down across b e) n k = assumption
keep_reports (dies r h up down across b y) n k = search each_all
keep_reports (halts r h up down across b c) n k = search each_all
keep_reports (begins r i h up down across b c l) n k = search each_all
keep_reports (holds g held h up down across b) n k = assumption
keep_reports (gathers g m h up down across b c) n k = assumption
keep_reports (catches g m h up down across b c) n k =
    record {
      fits = each_more (OfReport (λ j e k. j ≡ g.inc → k ≤ folded m g.held e.from)) up (Caught g.inc)
          (each_map (DoesNotName g.inc) (OfReport (λ j e k. j ≡ g.inc → k ≤ folded m g.held e.from)) (unbound g.inc (λ e k. k ≤ folded m g.held e.from)) up n.free_up) tt;
    }
keep_reports (hears r h up down across b e k_after c d) n k = assumption
keep_reports (flags r h up down across b stop back y) n k = assumption
keep_reports (raises r h up down across b c d) n k = assumption
keep_reports (names r h up down across b term) n k = assumption
keep_reports (downs r h up down across b y) n k = assumption
keep_reports (stops r h up down across b y) n k = assumption
keep_reports (backs r h up down across b c d) n k = assumption

pub keep_reports_there : {f : Flow} {p : Partition} {kill stop : Bool} {a b a_after b_after : Side} → Turn f p kill stop a b a_after b_after → AreReportsTrue b a → AreReportsTrue b_after a_after
keep_reports_there (runs x t s h up down across b m) k = assumption
keep_reports_there (tells x e h up down across b) k = assumption
keep_reports_there (asks_stop x h up down across b y) k = assumption
keep_reports_there (asks_back x h up down across b) k = assumption
keep_reports_there (serves x target h up down across b c l) k = assumption
keep_reports_there (gives x mv h up down across b e) k = assumption
keep_reports_there (ends x mv h up down across b e) k = assumption
keep_reports_there (dies r h up down across b y) k = assumption
keep_reports_there (halts r h up down across b c) k = assumption
keep_reports_there (begins r i h up down across b c l) k = assumption
keep_reports_there (holds g held h up down across b) k = assumption
keep_reports_there (gathers g m h up down across b c) k = assumption
keep_reports_there (catches g m h up down across b c) k = assumption
keep_reports_there (hears r h up down across b e k_after c d) k = assumption
keep_reports_there (flags r h up down across b stop back y) k = assumption
keep_reports_there (raises r h up down across b c d) k = assumption
keep_reports_there (names r h up down across b term) k = assumption
keep_reports_there (downs r h up down across b y) k = assumption
keep_reports_there (stops r h up down across b y) k = assumption
keep_reports_there (backs r h up down across b c d) k = assumption
