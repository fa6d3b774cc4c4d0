use Rattle.std.proofs.Common.{refl}
use Rattle.mpt_rules.specs.Session.OpenCases.{host_does}
use Rattle.mpt_live.proofs.HostKeeps.{host_books, puts_tell_item}
use Rattle.mpt_live.proofs.Led.{moved_to}
use Rattle.mpt_live.proofs.Several.{at_place}
use Rattle.mpt_live.proofs.host_end.HostEnd.put_tell.Goals as goal

pub returns-then-put : goal.returns-then-put
returns-then-put g c =
    moved_to host_does host_books _ c.args.self.now _ c.in_ok-put.put c.self.view_is
    (puts_tell_item _ _ _ _ c.from.result c.in-Some.submitter c.from.ensures c.in-Some-get_mut.lane.now
    (at_place c.self.inside.tells.items c.from.result c.in-Some.submitter c.in-Some-get_mut.lane.now c.from.ensures c.in-Some-get_mut.ensures.item.3.0 c.in-Some-get_mut.ensures.value) c.in-Some.tell.now
    c.in_ok-put.put c.put_tell.new.lane c.in_ok-put.ensures.made c.in_ok-put.ensures.given refl)

pub returns-else-put : goal.returns-else-put
returns-else-put g c =
    moved_to host_does host_books _ c.args.self.now _ c.in_ok-put.put c.self.view_is
    (puts_tell_item _ _ _ _ c.from.result c.in-Some.submitter c.from.ensures c.in-Some-get_mut.lane.now
    (at_place c.self.inside.tells.items c.from.result c.in-Some.submitter c.in-Some-get_mut.lane.now c.from.ensures c.in-Some-get_mut.ensures.item.3.0 c.in-Some-get_mut.ensures.value) c.in-Some.tell.now
    c.in_ok-put.put c.put_tell.new.lane c.in_ok-put.ensures.made c.in_ok-put.ensures.given refl)
