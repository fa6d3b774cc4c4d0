-- What disks answer fits the fields of a reply, whatever is asked.
use Rattle.std.proofs.Common.{drop, ◌≡◌, ℕ, ◌*◌, ◌-◌, ◌≤◌, ◌==◌, Bool, true, false, if◌then◌else◌, List, [], ◌∷◌, ◌++◌, length, length-append, length-take, min, take, Option, Some, None, refl, subst, arith}
use Rattle.std.specs.FinMap as finmap
use Rattle.scsi_disk.specs.Operation as op
use Rattle.scsi_disk.specs.declared.operation.Operation.{Operation}
use Rattle.scsi_disk.specs.declared.operation.Transfer.{Transfer}
use Rattle.scsi_disk.specs.declared.operation.Operation.TheVariants as asked
use Rattle.scsi_disk.specs.declared.sense.AdditionalSense.{AdditionalSense}
use Rattle.scsi_disk.specs.declared.sense.AdditionalSense.TheVariants as sense
use Rattle.scsi_disk.specs.Performed as disk
use Rattle.scsi_disk.specs.declared.command.Command.{Command}
use Rattle.scsi_disk.specs.declared.scsi_result.ScsiResult.{ScsiResult}
use Rattle.mpt_wire.specs.Machine.Causes as calls
use Rattle.mpt_wire.specs.Machine.State.{Machine, MachineDisk, OpenRequest, put_at}
use Rattle.mpt_wire.specs.Machine.Steps.{Step, Answers, EndsAbort, EndsReset, EndsTargetReset, Fails, GetsReady, GetsUp, Grants, HasLeft, IsLost, Leaves, Refuses, Runs, accepted, after, after_abort_end, after_all, run_at}
use Rattle.mpt_wire.specs.Machine.View.{Seen, seen_next, steps_of}
use Rattle.mpt_wire.specs.Walks.Ahead.{next_own, state_ahead}
use Rattle.mpt_trace.specs.declared.entry.Entry.{Entry}
use Rattle.mpt_trace.specs.declared.outcome.AbortOutcome.{AbortOutcome}
use Rattle.mpt_trace.specs.declared.outcome.AbortOutcome.TheVariants as abort
use Rattle.mpt_trace.specs.declared.disk_spec.DiskSpec.{DiskSpec}
use Rattle.law_facts.specs.History.{History, first_history, history_after}
use Rattle.law_standing.specs.Written.{OutcomesFit, ResultFits}

take_short : (n : ℕ) (xs : List ℕ) → (length (take n xs) ≤ n) × (length (take n xs) ≤ length xs)
take_short n xs = let l = length-take n xs in (grind (arith, l), grind (arith, l))

short : (n m k : ℕ) → min (min n 4096) m ≡ k → k ≤ 4096
short n m k e = grind (arith, e)

good_fits : (xs : List ℕ) → length xs ≤ 4096 → ResultFits (disk.good xs)
good_fits xs l = (omega arith, l, omega arith)

checked : (c : AdditionalSense) → ResultFits (disk.check_condition c)
checked c = (omega arith, omega arith, omega arith)

if_fits : (b : Bool) (x y : ScsiResult) → ResultFits x → ResultFits y → ResultFits (if b then x else y)
if_fits true x y a c = a
if_fits false x y a c = c

if_outcome : (b : Bool) (x y : disk.Outcome) → ResultFits x.result → ResultFits y.result → ResultFits (if b then x else y).result
if_outcome true x y a c = a
if_outcome false x y a c = c

inquired : length disk.inquiry_data ≤ 4096
unfolding disk.inquiry_data
inquired = omega arith

capacity_short : (bytes : List ℕ) → length (disk.capacity_data bytes) ≡ 8
unfolding disk.capacity_data
capacity_short bytes =
    let l = length-append (Rattle.byteorder.specs.Endian.big_bytes 4 (Rattle.scsi_disk.specs.Disk.block_count bytes - 1)) (Rattle.byteorder.specs.Endian.big_bytes 4 512) in
    let a = Rattle.byteorder.specs.Numbers.length-bytes_high_first 4 (Rattle.scsi_disk.specs.Disk.block_count bytes - 1) in let b = Rattle.byteorder.specs.Numbers.length-bytes_high_first 4 512 in
    omega (arith, l, a, b)

abbrev read_of : List ℕ → ℕ → Transfer → List ℕ
read_of bytes len transfer = Rattle.scsi_disk.specs.Disk.bytes_from transfer.address (min (min len 4096) (512 * transfer.blocks)) bytes

answered_fits : (bytes : List ℕ) (c : Command) (o : Option Operation) → ResultFits (disk.answered bytes c o).result
answered_fits bytes c None = checked sense.InvalidOperationCode
answered_fits bytes c (Some asked.TestUnitReady) = good_fits [] (omega arith)
answered_fits bytes c (Some (asked.Inquiry evpd allocated)) = if_fits (evpd == 0) (disk.good (take c.len disk.inquiry_data)) (disk.check_condition sense.InvalidFieldInCdb) (good_fits (take c.len disk.inquiry_data) (let t = take_short c.len disk.inquiry_data in let i = inquired in omega (arith, t, i))) (checked sense.InvalidFieldInCdb)
answered_fits bytes c (Some asked.ReadCapacity) = good_fits (take c.len (disk.capacity_data bytes)) (let t = take_short c.len (disk.capacity_data bytes) in let i = capacity_short bytes in omega (arith, t, i))
answered_fits bytes c (Some (asked.Read transfer)) = if_fits (Rattle.scsi_disk.specs.Disk.is_in_range bytes transfer) (disk.good (read_of bytes c.len transfer)) (disk.check_condition sense.BlockAddressOutOfRange) (good_fits (read_of bytes c.len transfer) (let t = take_short (min (min c.len 4096) (512 * transfer.blocks)) (drop (512 * transfer.address) bytes) in let s = short c.len (512 * transfer.blocks) (min (min c.len 4096) (512 * transfer.blocks)) refl in omega (arith, t, s))) (checked sense.BlockAddressOutOfRange)
answered_fits bytes c (Some (asked.Write transfer)) = if_outcome (Rattle.scsi_disk.specs.Disk.is_in_range bytes transfer) _ _ (if_outcome (length c.payload == 512 * transfer.blocks) _ _ (good_fits [] (omega arith)) (checked sense.InvalidFieldInCdb)) (checked sense.BlockAddressOutOfRange)

pub performed_fits : (bytes : List ℕ) (c : Command) → ResultFits (disk.performed bytes c).result
performed_fits bytes c = if_outcome (c.lun == 0) _ _ (answered_fits bytes c (op.operation_of c.cdb)) (checked sense.LogicalUnitNotSupported)

-- ---- what steps leave

abbrev Fit : (ℕ → Option ScsiResult) → Type 0
Fit f = (n : ℕ) (r : ScsiResult) → f n ≡ Some r → ResultFits r

placed : (k : ℕ) (x : Option ScsiResult) (f : ℕ → Option ScsiResult) → ((r : ScsiResult) → x ≡ Some r → ResultFits r) → Fit f → Fit (put_at k x f)
placed k x f g a n r e = by_key (n == k) e
  where
    by_key : (b : Bool) → (if b then x else f n) ≡ Some r → ResultFits r
    by_key true e = g r e
    by_key false e = a n r e

ran : (m : Machine) (n a : ℕ) (r : Option OpenRequest) (d : Option MachineDisk) → Fit m.outcome → Fit (run_at m n a r d).outcome
ran m n a None d f = f
ran m n a (Some r) None f = f
ran m n a (Some r) (Some d) f = placed n (Some (disk.performed d.bytes r.command).result) m.outcome (λ x e. let z : (disk.performed d.bytes r.command).result ≡ x = cc in subst ResultFits z (performed_fits d.bytes r.command)) f

opened : (m : Machine) (n a : ℕ) (c : Command) (o : Option ℕ) → Fit m.outcome → Fit (accepted m n a c o).outcome
opened m n a c None f = f
opened m n a c (Some plug) f = placed n None m.outcome (λ x e. absurd (cc)) f

ended : (m : Machine) (n : ℕ) (how : AbortOutcome) → Fit m.outcome → Fit (after_abort_end m n how).outcome
ended m n abort.Stopped f = f
ended m n abort.NotFound f = f
ended m n abort.Reset f = f

step_fits : (m : Machine) (x : Step) → Fit m.outcome → Fit (after m x).outcome
step_fits m (Grants calls.Start) f = f
step_fits m (Grants (calls.Submit n a command)) f = opened m n a command (m.ready a) f
step_fits m (Grants (calls.Abort n)) f = f
step_fits m (Grants (calls.TargetReset a)) f = f
step_fits m (Grants calls.Reset) f = f
step_fits m (Grants calls.UnitReset) f = f
step_fits m (Grants (calls.Plug a place)) f = f
step_fits m (Grants (calls.Unplug a)) f = f
step_fits m (Refuses call cause) f = f
step_fits m GetsUp f = f
step_fits m (Runs n a) f = ran m n a (finmap.get m.requests n) (m.disks a) f
step_fits m (Answers n how) f = f
step_fits m (EndsAbort n how) f = ended m n how f
step_fits m (EndsTargetReset a how) f = f
step_fits m (GetsReady a plug) f = f
step_fits m (IsLost a) f = f
step_fits m Leaves f = f
step_fits m HasLeft f = f
step_fits m EndsReset f = f
step_fits m Fails f = f

steps_fit : (m : Machine) (xs : List Step) → Fit m.outcome → Fit (after_all m xs).outcome
steps_fit m [] f = f
steps_fit m (x ∷ xs) f = steps_fit (after m x) xs (step_fits m x f)

entries_fit : (g : Seen) (t : List Entry) → Fit g.machine.outcome → Fit (state_ahead seen_next g t []).machine.outcome
entries_fit g [] f = f
entries_fit g (e ∷ t) f = entries_fit (seen_next g e (next_own e (t ++ []))) t (steps_fit g.machine (steps_of g.so_far e (next_own e (t ++ []))) f)

-- so they fit whatever is told
pub outcomes_fit : (h : History) (t : List Entry) → OutcomesFit h → OutcomesFit (history_after h t)
outcomes_fit h t f = entries_fit (record { machine = h.machine; so_far = h.so_far }) t f

pub outcomes_fit_first : (disks : List DiskSpec) → OutcomesFit (first_history disks)
outcomes_fit_first disks n r e = absurd (cc)
