use Rattle.std.proofs.Common.{◌∙◌, ◌++◌, ap, subst, sym}
use Rattle.trio_nodes.specs.Contents.{appended}
use Rattle.trio_core.specs.Sent.{AreListed, listed_for}
use Rattle.trio_core.proofs.Listed.{listed_more}
use Rattle.trio_core.proofs.sent.Sent.note.Goals as goal

pub list_new-requires : goal.list_new-requires
list_new-requires c =
    let lists = listed_for c.self.inside.links.items in
    let more = appended c.reserve.new.self.packets c.member_acts.new.out.packets in
    subst (λ packets. AreListed packets lists c.self.inside.listed) (sym (c.member_acts.ensures.packets ∙ ap (λ l. l ++ more) c.reserve.ensures.packets))
    (listed_more c.self.inside.log.packets more lists c.self.inside.listed c.self.invariant)
