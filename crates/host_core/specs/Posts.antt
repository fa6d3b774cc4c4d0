-- The posts of requests of the internal class.
use Rattle.std.specs.Prelude.{ℕ, List, Option, Some, None}
use Rattle.removal.specs.declared.phase.Phase.{Phase}
use Rattle.removal.specs.Handles.{phase_at, with_phase}
use Rattle.removal.specs.Phases.{after_grant}
use Rattle.mpt_messages.specs.declared.host_ask.HostAsk.{HostAsk}
use Rattle.mpt_messages.specs.declared.host_ask.HostAsk.TheVariants as ask
use Rattle.mpt_rules.specs.declared.request.Request.{Request}
use Rattle.mpt_rules.specs.declared.request.Request.TheVariants as request

-- what is asked under an identifier: a request of another class is none of these
abbrev pub internal_ask : ℕ → Request → HostAsk
internal_ask smid (request.Page handle) = ask.PageRead smid handle
internal_ask smid (request.Remove handle) = ask.Remove handle
internal_ask smid (request.Ack event context) = ask.Ack event context
internal_ask smid request.Notification = ask.Notification
internal_ask smid request.PortEnable = ask.PortEnable
internal_ask smid r = ask.PortEnable

-- the handle whose phase waits for the identifier of the request, if one does
abbrev pub waiting_handle : Request → Option ℕ
waiting_handle (request.Page handle) = Some handle
waiting_handle (request.Remove handle) = Some handle
waiting_handle r = None

-- the phases where it gets the identifier
abbrev pub phases_granted : List Phase → Option ℕ → ℕ → List Phase
phases_granted phases None smid = phases
phases_granted phases (Some handle) smid = with_phase phases handle (after_grant (phase_at phases handle) smid)
