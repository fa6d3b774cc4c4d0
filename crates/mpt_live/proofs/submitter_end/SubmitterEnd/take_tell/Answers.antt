use Rattle.std.proofs.Common.{ap}
use Rattle.mpt_live.specs.Lanes.{LaneEnd}
use Rattle.mpt_live.proofs.Submitters.{takes_tell_from}
use Rattle.mpt_live.proofs.submitter_end.SubmitterEnd.take_tell.Goals as goal

pub returns-clause-took : goal.returns-clause-took
returns-clause-took g c =
    takes_tell_from _ c.args.self.now _ _ _ c.self.view_is c.in_ok-take_tell.ensures.number c.in-Some.sent c.in_ok-take_tell.ensures.taken
    (ap (λ (tell : LaneEnd _). record { ask = c.self.inside.ask; tell = tell }) c.in-Some.ensures.got)
