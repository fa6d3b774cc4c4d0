-- The host's rules: what it does with what comes up, and what it waits for. All its calls are named here.
use Rattle.std.specs.Prelude.{ℕ, nat_lt, ◌&&◌, ◌||◌, not, Bool, true, false, [], length, Option, Some, None}
use Rattle.std.specs.List.{list_any}
use Rattle.smid_pool.specs.Pool.{is_open}
use Rattle.mpt_trace.specs.declared.item.Up.{Up}
use Rattle.mpt_trace.specs.declared.item.Up.TheVariants as up
use Rattle.mpt_trace.specs.declared.host_state.HostState.{HostState}
use Rattle.mpt_trace.specs.declared.host_state.HostState.TheVariants as state
use Rattle.mpt_rules.specs.declared.why.Why.{Why}
use Rattle.mpt_rules.specs.Outcome.{Called, Happening}
use Rattle.mpt_rules.specs.Host.Parts.{Host}
use Rattle.mpt_rules.specs.Host.Removal.{quietly}
use Rattle.mpt_rules.specs.Host.Replies.{heard_of, hears_reply}
use Rattle.mpt_rules.specs.Host.Resets.{has_all_marks, hears_mark}
use Rattle.mpt_rules.specs.Host.Values.{hears_value}
use Rattle.mpt_wire.specs.Machine.Causes.{is_resetting}
pub use Rattle.mpt_rules.specs.Host.Inputs.{starts, host_submits, host_aborts, host_resets_target, diag_resets, unit_resets, looks, stops}
pub use Rattle.mpt_rules.specs.Host.Returns.{down_sent}
pub use Rattle.mpt_rules.specs.Host.Strange.{why_strange}

-- ---- what comes up

-- an item that isn't strange
abbrev pub hears_up : Host → ℕ → Up → Happening Host
hears_up host queue (up.Value value) = hears_value host value
hears_up host queue (up.Reply descriptor frame page sense) = hears_reply host queue (heard_of descriptor frame page sense)
hears_up host queue (up.Mark generation) = hears_mark host queue
hears_up host queue up.Calm = quietly host

-- the item is taken: what it caused
abbrev pub as_taken : Happening Host → Called Host (Option Why)
as_taken outcome = record { part = outcome.part; told = outcome.entries; answer = None }

-- a strange item changes nothing and tells nothing
abbrev pub takes_unless : Host → ℕ → Up → Option Why → Called Host (Option Why)
takes_unless host queue item (Some why) = record { part = host; told = []; answer = Some why }
takes_unless host queue item None = as_taken (hears_up host queue item)

-- an item came on a reply queue
abbrev pub takes_up : Host → ℕ → Up → Called Host (Option Why)
takes_up host queue item = takes_unless host queue item (why_strange host queue item)

-- ---- what the host waits for

-- the host brings the controller up
abbrev pub is_starting : HostState → Bool
is_starting state.Off = false
is_starting state.Starting = true
is_starting state.Up = false
is_starting state.Resetting = false

-- a reset is going on, and a mark of it wasn't taken
abbrev pub awaits_mark : Host → Bool
awaits_mark host = is_resetting host.mode && not (has_all_marks host)

-- a value, a reply, an identifier for a post, the end of the start, or a mark
abbrev pub host_waits : Host → Bool
host_waits host =
    host.reading || (list_any is_open host.pool || (nat_lt 0 (length host.wait_high) || (nat_lt 0 (length host.wait_internal)
    || (is_starting host.mode || awaits_mark host))))
