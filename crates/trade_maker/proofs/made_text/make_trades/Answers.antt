use Rattle.std.proofs.Common.{ℕ, ◌≡◌, ◌+◌, ◌-◌, ◌≤◌, List, arith, refl, sym, subst}
use Rattle.trade_maker.specs.Limits.{max_inputs}
use Rattle.trade_maker.specs.MadeText.{made_text}
use Rattle.trade_maker.specs.ReadBack.{SaysTrades}
use Rattle.trade_maker.proofs.MadeLines.{line_more, lines_end}
use Rattle.trade_maker.proofs.ReadBack.{reads_back}
use Rattle.trade_maker.proofs.made_text.make_trades.Goals as goal

pub loop-index-preserved : goal.loop-index-preserved
loop-index-preserved c =
    let more = line_more c.loop-index.out.items (made_text c.args.start c.args.count) (c.loop-index.index + 1) c.loop-index.index c.args.count c.loop-index.generator.state refl c.loop-index-test.true c.loop-index.invariant in
    rw (c.in_ok-push_trade.ensures, c.next_trade-trade.ensures.trade, c.next_trade-trade.ensures.state) more

-- a whole text says its trades
says : (out : List ℕ) (start count : ℕ) → count ≤ max_inputs → out ≡ made_text start count → SaysTrades out count
says out start count few is = subst (λ (text : List ℕ). SaysTrades text count) (sym is) (reads_back start count few)

pub returns : goal.returns
returns c =
    let is = lines_end c.loop-index.out.items (made_text c.args.start c.args.count) (c.loop-index.index + 1) (c.args.count - c.loop-index.index) c.loop-index.generator.state (omega (arith, c.loop-index-test.false)) c.loop-index.invariant in
    record { text = is; reads_back = says c.loop-index.out.items c.args.start c.args.count c.requires.count is }
