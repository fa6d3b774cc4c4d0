-- What the host tells, as C has it.
use Rattle.std.specs.Prelude.{◌≡◌, ℕ, List, [], ◌∷◌, length, Option, Some, None}
use Rattle.scsi_disk.specs.declared.scsi_result.ScsiResult.{ScsiResult}
use Rattle.mpt_trace.specs.declared.entry.Entry.{Entry}
use Rattle.mpt_trace.specs.declared.entry.Entry.TheVariants as entry
use Rattle.mpt_trace.specs.declared.outcome.Outcome.{Outcome}
use Rattle.mpt_trace.specs.declared.outcome.Outcome.TheVariants as outcome
use Rattle.mpt_trace.specs.declared.outcome.AbortOutcome.{AbortOutcome}
use Rattle.mpt_trace.specs.declared.outcome.AbortOutcome.TheVariants as aborted
use Rattle.mpt_trace.specs.declared.outcome.TargetOutcome.{TargetOutcome}
use Rattle.mpt_trace.specs.declared.outcome.TargetOutcome.TheVariants as cleared
use Rattle.mpt_c_messages.specs.declared.call_code.CallCode.{CallCode}
use Rattle.mpt_c_messages.specs.declared.call_code.CallCode.TheVariants as code
use Rattle.host_core.specs.Driver.{Driver, IsSame}
use Rattle.mpt_c_messages.specs.Putting.{over}
use Rattle.mpt_c_hosts.specs.declared.told.ToldHead.{ToldHead}

-- an entry of this kind, with nothing else to it
abbrev pub told_kind : ℕ → ToldHead
told_kind kind = record {
  address = 0;
  kind = kind;
  number = 0;
  identifier = 0;
  outcome = 0;
  count = 0;
  status = 0;
  data_length = 0;
  sense_length = 0;
}

-- of a disk, under its handle
abbrev pub told_of_disk : ℕ → ℕ → ℕ → ToldHead
told_of_disk kind address handle = record (told_kind kind) { address = address; identifier = handle }

-- a submission's answer
abbrev pub told_answer : ℕ → Outcome → ToldHead
told_answer n (outcome.Done result) = record (told_kind 5) {
  number = n;
  outcome = 1;
  status = result.status;
  data_length = length result.payload;
  sense_length = length result.sense;
}
told_answer n outcome.Gone = record (told_kind 5) { number = n; outcome = 2 }
told_answer n outcome.Terminated = record (told_kind 5) { number = n; outcome = 3 }
told_answer n outcome.Reset = record (told_kind 5) { number = n; outcome = 4 }

-- the end of an abort
abbrev pub told_abort : ℕ → AbortOutcome → ToldHead
told_abort n aborted.Stopped = record (told_kind 6) { number = n; outcome = 5 }
told_abort n aborted.NotFound = record (told_kind 6) { number = n; outcome = 6 }
told_abort n aborted.Reset = record (told_kind 6) { number = n; outcome = 4 }

-- the end of a target reset
abbrev pub told_target : ℕ → TargetOutcome → ToldHead
told_target address (cleared.Done count) = record (told_kind 7) { address = address; outcome = 1; count = count }
told_target address cleared.Reset = record (told_kind 7) { address = address; outcome = 4 }

-- what stands before the entry's data: kind 0 is no host's
abbrev pub told_head : Entry → ToldHead
told_head entry.HostUp = told_kind 1
told_head (entry.Ready address handle) = told_of_disk 2 address handle
told_head (entry.Lost address handle) = told_of_disk 3 address handle
told_head (entry.Accept n address smid) = record (told_of_disk 4 address smid) { number = n }
told_head (entry.Answer n ended) = told_answer n ended
told_head (entry.AbortEnd n ended) = told_abort n ended
told_head (entry.TargetEnd address ended) = told_target address ended
told_head entry.ResetDone = told_kind 8
told_head _ = told_kind 0

-- what the disk answered, if it did
abbrev pub result_of : Entry → Option ScsiResult
result_of (entry.Answer n (outcome.Done result)) = Some result
result_of _ = None

-- the data after it
abbrev pub data_over : Option ScsiResult → List ℕ → List ℕ
data_over None old = old
data_over (Some result) old = over result.payload old

-- the sense data after it
abbrev pub sense_over : Option ScsiResult → List ℕ → List ℕ
sense_over None old = old
sense_over (Some result) old = over result.sense old

-- C has the entry, or, without one, what it had
abbrev pub FillsTold : ToldHead → ToldHead → List ℕ → List ℕ → List ℕ → List ℕ → Option Entry → Type 0
FillsTold head head' bytes bytes' sense sense' (Some told) =
    (head' ≡ told_head told) × (bytes' ≡ data_over (result_of told) bytes) × (sense' ≡ sense_over (result_of told) sense)
FillsTold head head' bytes bytes' sense sense' None = (head' ≡ head) × (bytes' ≡ bytes) × (sense' ≡ sense)

-- Ok: C has the first of what was told, which is told no more. Nothing: all is told. ShortBuffer: nothing changed
abbrev pub Tells : Driver → Driver → (Option Entry → Type 0) → CallCode → Type 0
Tells old new fills code.Ok = (told : Entry) × (old.told ≡ told ∷ new.told) × fills (Some told) × (new.host ≡ old.host)
Tells old new fills code.Nothing = (old.told ≡ []) × fills None × IsSame old new
Tells old new fills code.ShortBuffer = fills None × IsSame old new
Tells old new fills _ = ⊥
