-- Where a case leads the host's records, and what the trace knows of open commands: identifiers keep theirs, but one whose
-- reply comes; or a submission is accepted; or a reset ends, and there is none.
use Rattle.std.proofs.Common.{◌≡◌, ◌≢◌, ℕ, ◌≤◌, true, false, [], ◌∷◌, Some, None}
use Rattle.std.specs.FinMap as finmap
use Rattle.std.specs.FinSet as finset
use Rattle.std.specs.List.{sum_by}
use Rattle.removal.specs.Handles.{ready_handle}
use Rattle.scsi_disk.specs.Command.{fits}
use Rattle.scsi_disk.specs.declared.scsi_result.ScsiResult.{ScsiResult}
use Rattle.smid_pool.specs.Pool.{Open, all_free, is_open}
use Rattle.smid_pool.specs.declared.class.Class.TheVariants as class
use Rattle.mpt_wire.specs.Machine.Causes.{is_up}
use Rattle.mpt_wire.specs.Machine.State.{OpenRequest}
use Rattle.mpt_trace.specs.Command.{command_named}
use Rattle.mpt_trace.specs.declared.command_form.CommandForm.{CommandForm}
use Rattle.mpt_trace.specs.declared.entry.Entry.TheVariants as entry
use Rattle.mpt_trace.specs.declared.input.Input.TheVariants as input
use Rattle.mpt_rules.specs.declared.request.Request.{Request}
use Rattle.mpt_rules.specs.declared.request.Request.TheVariants as request
use Rattle.mpt_rules.specs.Host.Inputs as inputs
use Rattle.mpt_rules.specs.Host.Parts.{Cmd, Host}
use Rattle.mpt_rules.specs.World.PlaceCounts.{replies_on}
use Rattle.mpt_rules.specs.World.State.{World}
use Rattle.law_facts.specs.Clock.{is_linked_up}
use Rattle.law_facts.specs.History.{History, history_after}
use Rattle.law_facts.specs.Words.{slot}
use Rattle.law_flights.proofs.Least.{IsLeast}
use Rattle.law_messages.proofs.Agreeing.{Follows}

module _ (w : World) (h : History) where
  -- an identifier that isn't open, or whose reply comes
  pub data Away (s : ℕ) : Type 0 where
    Closed : is_open (slot w.host s) ≡ false → Away s
    Replied : (r : Request) → slot w.host s ≡ Open r → 1 ≤ sum_by (replies_on s) w.up → Away s

  pub record Follow (x : Host) (k : History) (hand : ℕ) : Type 0 where
    pub follows : Follows w h (record w { host = x }) k hand
    pub less_cmds : (n : ℕ) (c : Cmd) → finmap.get x.cmds n ≡ Some c → finmap.get w.host.cmds n ≡ Some c
    pub less_opens : (n : ℕ) (r : OpenRequest) → finmap.get k.machine.requests n ≡ Some r → finmap.get h.machine.requests n ≡ Some r
    pub gone : (n : ℕ) → slot w.host hand ≡ Open (request.Command n) → finmap.get x.cmds n ≡ None
    pub lives : (s : ℕ) → s ≢ hand → (k.walk s).known.live ≡ (h.walk s).known.live
    pub ended : (k.walk hand).known.live ≡ None
    pub numbers : k.so_far.number_of ≡ h.so_far.number_of
    pub outcomes : (n : ℕ) (r : ScsiResult) → h.machine.outcome n ≡ Some r → k.machine.outcome n ≡ Some r

  -- what a submission is accepted by
  pub record Accepted (x : Host) (k : History) (n a s handle plug : ℕ) (form : CommandForm) : Type 0 where
    pub up : is_up w.host.mode ≡ true
    pub fresh : finset.contains w.host.accepted n ≡ false
    pub least : IsLeast class.ScsiIo w.host.pool s
    pub handled : ready_handle w.host.phases a ≡ Some handle
    pub ready : h.machine.ready a ≡ Some plug
    pub fit : fits (command_named form) ≡ true
    pub host : x ≡ inputs.with_accepted w.host n a (command_named form) handle s
    pub told : k ≡ history_after h (entry.Given (input.Submit n a form) ∷ entry.Accept n a s ∷ [])
    pub follows : Follows w h (record w { host = x }) k 0

  pub data Leads (x : Host) (k : History) : Type 0 where
    Goes : (hand : ℕ) → Away hand → Follow x k hand → Leads x k
    Accepts : (n a s handle plug : ℕ) (form : CommandForm) → Accepted x k n a s handle plug form → Leads x k
    Ends : is_linked_up w ≡ true → x.pool ≡ all_free → x.cmds ≡ finmap.empty → ((s : ℕ) → (k.walk s).known.live ≡ None)
        → ((n : ℕ) (r : OpenRequest) → finmap.get k.machine.requests n ≡ Some r → finmap.get h.machine.requests n ≡ Some r) → Leads x k
