use Rattle.live_top.proofs.lived.answer.Goals as goal

pub returns : goal.returns
returns g c = record { answers = c.live.ensures.answers; front = c.live.ensures.front; offers = c.live.ensures.offers; later = c.live.ensures.later }
