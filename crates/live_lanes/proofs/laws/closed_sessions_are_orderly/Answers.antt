use Rattle.live_lanes.proofs.Orderly.{sessions_orderly}
use Rattle.live_lanes.proofs.laws.closed_sessions_are_orderly.Goals as goal

pub returns : goal.returns
returns c =
    sessions_orderly c.journals_make_sessions.ensures c.session_lanes_are_queues.ensures c.sessions_are_of_cases.ensures c.sessions_are_answered.ensures.once
    c.sessions_are_answered.ensures.quiet
