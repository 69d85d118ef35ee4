use Rattle.std.proofs.Common.{refl, subst, sym}
use Rattle.trio_core.specs.Acts.{IsRefusedSo, MayBeAsked}
use Rattle.trio_core.specs.CoreView.{StationView}
use Rattle.trio_core.proofs.Acting.{if_err-map, on_ok-map, station_acted}
use Rattle.trio_core.proofs.Contents.{may_be_asked_out, refused_in}
use Rattle.trio_core.proofs.station.Station.act.Goals as goal

pub note-requires : goal.note-requires
note-requires c = record { asked = may_be_asked_out c.args.task.now c.self.inside.member (subst (λ (k : StationView). MayBeAsked c.args.task.now k.member) (sym c.self.view_is) c.requires.asked) }

pub returns-clause-acted : goal.returns-clause-acted
returns-clause-acted c = on_ok-map c.note.result _ _
    (λ acts. station_acted c.args.task.now c.args.self.now c.self.inside.name c.self.inside.member c.note.new.member c.self.inside.sent c.self.inside.sent c.note.new.self
    c.self.view_is refl c.note.ensures.packets c.note.ensures.inputs c.note.ensures.name acts)
    c.note.ensures.acts

pub returns-clause-refused : goal.returns-clause-refused
returns-clause-refused c = if_err-map c.note.result _ _ (λ e h. subst (λ (k : StationView). IsRefusedSo c.args.task.now k.member e) c.self.view_is (refused_in c.args.task.now c.self.inside.member e h)) c.note.ensures.refused
