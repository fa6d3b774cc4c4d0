-- A report: the text of each entry and then the summary, and what a summary says.
use Rattle.std.specs.Prelude.{◌≡◌, ℕ, ◌+◌, ◌*◌, Bool, true, false, List, [], ◌∷◌, ◌++◌, count_by, filter, map, Option, Some, None, is_some}
use Rattle.std.specs.FinMap as finmap
use Rattle.mpt_trace.specs.declared.disk_spec.DiskSpec.{DiskSpec}
use Rattle.mpt_trace.specs.declared.outcome.Outcome.TheVariants as outcome
use Rattle.mpt_trace.specs.declared.entry.Entry.{Entry}
use Rattle.mpt_trace.specs.declared.entry.Entry.TheVariants as entry
use Rattle.mpt_trace.specs.declared.summary.DiskLine.{DiskLine}
use Rattle.mpt_trace.specs.declared.summary.Summary.{Summary}
use Rattle.mpt_trace.specs.Entries.{entry_lines, is_in_show}
use Rattle.mpt_wire.specs.Machine.State.{Machine, MachineDisk, Place, first_machine, place_of}
use Rattle.mpt_wire.specs.Machine.Steps.{after_all}
use Rattle.mpt_trace.specs.Summary.{summary_lines}
use Rattle.mpt_wire.specs.Machine.View.{view}

-- the report of a trace
abbrev pub report : List Entry → Summary → List ℕ
report t s = entry_lines t ++ summary_lines s

-- the report with the entries alone that a short report shows
abbrev pub short_report : List Entry → Summary → List ℕ
short_report t s = entry_lines (filter is_in_show t) ++ summary_lines s

-- ---- the disks

-- the sum over bytes of (place + 1) times the byte, with places counted on from one
abbrev pub sum_from : ℕ → List ℕ → ℕ
sum_from place [] = 0
sum_from place (byte ∷ bytes) = (place + 1) * byte + sum_from (place + 1) bytes

abbrev pub byte_sum : List ℕ → ℕ
byte_sum bytes = sum_from 0 bytes

abbrev pub machine_bytes_of : Option MachineDisk → List ℕ
machine_bytes_of None = []
machine_bytes_of (Some disk) = disk.bytes

-- the expander and the phy
abbrev pub as_pair : Option Place → Option (ℕ × ℕ)
as_pair None = None
as_pair (Some place) = Some (place.expander, place.phy)

-- the line of a disk: where it is plugged, and the sum over its bytes
abbrev pub line_of : Machine → ℕ → DiskLine
line_of m address = record { address = address; at = as_pair (place_of (m.disks address)); sum = byte_sum (machine_bytes_of (m.disks address)) }

-- ---- the entries

abbrev pub is_done : Entry → Bool
is_done (entry.Answer n (outcome.Done result)) = true
is_done _ = false

abbrev pub is_gone_answer : Entry → Bool
is_gone_answer (entry.Answer n outcome.Gone) = true
is_gone_answer _ = false

abbrev pub is_terminated : Entry → Bool
is_terminated (entry.Answer n outcome.Terminated) = true
is_terminated _ = false

abbrev pub is_reset_answer : Entry → Bool
is_reset_answer (entry.Answer n outcome.Reset) = true
is_reset_answer _ = false

abbrev pub is_refusal : Entry → Bool
is_refusal (entry.RefuseSubmit n cause) = true
is_refusal _ = false

-- ---- the machine's last state

-- how many of the machine's disks are ready
abbrev pub ready_disks : Machine → ℕ
ready_disks m = count_by (λ address. is_some (m.ready address)) m.addresses

-- what a summary says of a trace and of the machine that it leaves. How many handles the host reads, awaits, resets and
-- removes, and whether all is quiet, are the parts' to say
pub record IsSummaryOf (m : Machine) (t : List Entry) (s : Summary) : Type 0 where
  pub disks : s.disks ≡ map (line_of m) m.addresses
  pub done : s.done ≡ count_by is_done t
  pub gone : s.gone ≡ count_by is_gone_answer t
  pub terminated : s.terminated ≡ count_by is_terminated t
  pub reset : s.reset ≡ count_by is_reset_answer t
  pub refused : s.refused ≡ count_by is_refusal t
  -- the numbers that are open
  pub unanswered : s.unanswered ≡ finmap.len m.requests
  pub ready : s.ready ≡ ready_disks m
  pub state : s.state ≡ m.mode

-- the machine with these disks after the steps of the trace
abbrev pub last_machine : List DiskSpec → List Entry → Machine
last_machine disks t = after_all (first_machine disks) (view t)

abbrev pub SummaryOf : List DiskSpec → List Entry → Summary → Type 0
SummaryOf disks t s = IsSummaryOf (last_machine disks t) t s
