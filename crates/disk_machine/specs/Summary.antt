-- The summary that ends a report, from what is counted.
use Rattle.std.specs.Prelude.{◌≡◌, ℕ, ◌+◌, ◌<◌, ◌^◌, Bool, List, [], count_by, map, Option, Some, None, is_some}
use Rattle.std.specs.Ordering.{nat_cmp}
use Rattle.std.specs.BTreeMap as tree
use Rattle.std.specs.FinMap as finmap
use Rattle.removal.specs.declared.phase.Phase.{Phase}
use Rattle.mpt_trace.specs.declared.disk_spec.DiskSpec.{DiskSpec}
use Rattle.mpt_trace.specs.declared.entry.Entry.{Entry}
use Rattle.mpt_trace.specs.declared.summary.DiskLine.{DiskLine}
use Rattle.mpt_trace.specs.declared.summary.Summary.{Summary}
use Rattle.mpt_wire.specs.Machine.Reports.{byte_sum, is_done, is_gone_answer, is_refusal, is_reset_answer, is_terminated, line_of, ready_disks}
use Rattle.mpt_wire.specs.Machine.State.{Machine}
use Rattle.mpt_rules.specs.World.Summaries.{handles, is_reading_phase, is_removing_phase, is_resetting_phase, is_waiting_phase, summary_with}
use Rattle.disk_machine.specs.declared.machine.DiskMachine.{DiskMachine}
use Rattle.disk_machine.specs.declared.parts_summary.PartsSummary.{PartsSummary}
use Rattle.disk_machine.specs.declared.tally.AnswerCounts.{AnswerCounts}
use Rattle.disk_machine.specs.declared.traced_disk.TracedDisk.{TracedDisk}

-- the summary of a machine and of the trace that leads to it, where the parts say this of themselves
abbrev pub summary_by : Machine → PartsSummary → List Entry → Summary
summary_by m parts t = record {
  disks = map (line_of m) m.addresses;
  done = count_by is_done t;
  gone = count_by is_gone_answer t;
  terminated = count_by is_terminated t;
  reset = count_by is_reset_answer t;
  refused = count_by is_refusal t;
  unanswered = finmap.len m.requests;
  reading = parts.reading;
  ready = ready_disks m;
  waiting = parts.waiting;
  resetting = parts.resetting;
  removing = parts.removing;
  state = m.mode;
  quiet = parts.quiet;
}

-- what a host with these phases says, where all is quiet or not
abbrev pub parts_with : List Phase → Bool → PartsSummary
parts_with phases quiet = record {
  reading = handles is_reading_phase phases;
  waiting = handles is_waiting_phase phases;
  resetting = handles is_resetting_phase phases;
  removing = handles is_removing_phase phases;
  quiet = quiet;
}

-- of a host with these phases it is the summary of the rules
abbrev pub SummariesAgree : Type 0
SummariesAgree = (m : Machine) (phases : List Phase) (quiet : Bool) (t : List Entry) → summary_by m (parts_with phases quiet) t ≡ summary_with m phases quiet t

-- ---- what is counted along a trace

-- so many answers of each kind, and so many refused submissions, are in the trace
pub record AreCounts (counts : AnswerCounts) (t : List Entry) : Type 0 where
  pub done : counts.done ≡ count_by is_done t
  pub gone : counts.gone ≡ count_by is_gone_answer t
  pub terminated : counts.terminated ≡ count_by is_terminated t
  pub reset : counts.reset ≡ count_by is_reset_answer t
  pub refused : counts.refused ≡ count_by is_refusal t

-- each may rise by one
pub record MayRise (counts : AnswerCounts) : Type 0 where
  pub done : counts.done + 1 < 2 ^ 64
  pub gone : counts.gone + 1 < 2 ^ 64
  pub terminated : counts.terminated + 1 < 2 ^ 64
  pub reset : counts.reset + 1 < 2 ^ 64
  pub refused : counts.refused + 1 < 2 ^ 64

-- ---- the disks

abbrev pub place_in : Option TracedDisk → Option (ℕ × ℕ)
place_in None = None
place_in (Some disk) = disk.at

abbrev pub traced_bytes_of : Option TracedDisk → List ℕ
traced_bytes_of None = []
traced_bytes_of (Some disk) = disk.disk.bytes

-- the line of the disk of an address
abbrev pub traced_line : DiskMachine → ℕ → DiskLine
traced_line s address = record { address = address; at = place_in (tree.get nat_cmp s.disks address); sum = byte_sum (traced_bytes_of (tree.get nat_cmp s.disks address)) }

-- how many of these disks are ready
abbrev pub ready_among : DiskMachine → List DiskSpec → ℕ
ready_among s disks = count_by (λ (d : DiskSpec). is_some (tree.get nat_cmp s.ready d.address)) disks
