use Rattle.std.proofs.Common.{refl, true}
use Rattle.mpt_rules.specs.Session.OpenCases.{host_does}
use Rattle.mpt_live.proofs.HostKeeps.{host_books, takes_item_ask}
use Rattle.mpt_live.proofs.Led.{moved_from}
use Rattle.mpt_live.proofs.Several.{at_place}
use Rattle.mpt_live.proofs.host_end.HostEnd.take_ask_of.Goals as goal

pub returns : goal.returns
returns g c =
    moved_from host_does host_books _ c.args.self.now _ _ true c.self.view_is
    (takes_item_ask _ _ _ _ c.from.result c.args.submitter c.from.ensures c.in-Some.lane.now c.take.new.self
    (at_place c.self.inside.asks.items c.from.result c.args.submitter c.in-Some.lane.now c.from.ensures c.in-Some.ensures.item.3.0 c.in-Some.ensures.value) c.in-Some-take.sent c.in_ok-take_ask.ensures
    c.in-Some-take.ensures.got refl)
