-- What a disk gives to an open command is at most as long as that asks for, whatever is told.
use Rattle.std.proofs.Common.{drop, ◌≡◌, ℕ, ◌*◌, ◌≤◌, ◌==◌, Bool, true, false, if◌then◌else◌, List, [], ◌∷◌, ◌++◌, length, length-take, min, take, Option, Some, None, refl, sym, ◌∙◌, subst, arith}
use Rattle.std.specs.FinMap as finmap
use Rattle.scsi_disk.specs.Operation as op
use Rattle.scsi_disk.specs.declared.operation.Operation.{Operation}
use Rattle.scsi_disk.specs.declared.operation.Transfer.{Transfer}
use Rattle.scsi_disk.specs.declared.operation.Operation.TheVariants as asked
use Rattle.scsi_disk.specs.declared.sense.AdditionalSense.TheVariants as sense
use Rattle.scsi_disk.specs.Performed as disk
use Rattle.scsi_disk.specs.declared.command.Command.{Command}
use Rattle.scsi_disk.specs.declared.scsi_result.ScsiResult.{ScsiResult}
use Rattle.mpt_wire.specs.Machine.Causes as calls
use Rattle.mpt_wire.specs.Machine.State.{Machine, MachineDisk, OpenRequest}
use Rattle.mpt_wire.specs.Machine.Steps.{Step, Answers, EndsAbort, EndsReset, EndsTargetReset, Fails, GetsReady, GetsUp, Grants, HasLeft, IsLost, Leaves, Refuses, Runs, accepted, after, after_abort_end, after_all, run_at}
use Rattle.mpt_wire.specs.Machine.View.{Seen, seen_next, steps_of}
use Rattle.mpt_wire.specs.Walks.Ahead.{next_own, state_ahead}
use Rattle.mpt_trace.specs.declared.entry.Entry.{Entry}
use Rattle.mpt_trace.specs.declared.outcome.AbortOutcome.{AbortOutcome}
use Rattle.mpt_trace.specs.declared.outcome.AbortOutcome.TheVariants as abort
use Rattle.mpt_trace.specs.declared.disk_spec.DiskSpec.{DiskSpec}
use Rattle.law_facts.specs.History.{History, first_history, history_after}
use Rattle.law_messages.proofs.Agreeing.{not_both}
use Rattle.law_messages.proofs.Keys.{get_other_inserted, removed_less}
use Rattle.law_paths.specs.Payloads.{PayloadsFit}
use Rattle.law_paths.proofs.Entries.{equal, same}

take_short : (n : ℕ) (xs : List ℕ) → length (take n xs) ≤ n
take_short n xs = let l = length-take n xs in grind (arith, l)

short : (n m k : ℕ) → min (min n 4096) m ≡ k → k ≤ n
short n m k e = grind (arith, e)

if_within : (k : ℕ) (b : Bool) (x y : ScsiResult) → length x.payload ≤ k → length y.payload ≤ k → length (if b then x else y).payload ≤ k
if_within k true x y a c = a
if_within k false x y a c = c

if_outcome : (k : ℕ) (b : Bool) (x y : disk.Outcome) → length x.result.payload ≤ k → length y.result.payload ≤ k → length (if b then x else y).result.payload ≤ k
if_outcome k true x y a c = a
if_outcome k false x y a c = c

nothing : (k : ℕ) → 0 ≤ k
nothing k = omega arith

abbrev read_of : List ℕ → ℕ → Transfer → List ℕ
read_of bytes len transfer = Rattle.scsi_disk.specs.Disk.bytes_from transfer.address (min (min len 4096) (512 * transfer.blocks)) bytes

read_short : (bytes : List ℕ) (len : ℕ) (transfer : Transfer) → length (read_of bytes len transfer) ≤ len
read_short bytes len transfer =
    let t = take_short (min (min len 4096) (512 * transfer.blocks)) (drop (512 * transfer.address) bytes) in
    let s = short len (512 * transfer.blocks) (min (min len 4096) (512 * transfer.blocks)) refl in omega (arith, t, s)

answered_within : (bytes : List ℕ) (c : Command) (o : Option Operation) → length (disk.answered bytes c o).result.payload ≤ c.len
answered_within bytes c None = nothing c.len
answered_within bytes c (Some asked.TestUnitReady) = nothing c.len
answered_within bytes c (Some (asked.Inquiry evpd allocated)) = if_within c.len (evpd == 0) (disk.good (take c.len disk.inquiry_data)) (disk.check_condition sense.InvalidFieldInCdb) (take_short c.len disk.inquiry_data) (nothing c.len)
answered_within bytes c (Some asked.ReadCapacity) = take_short c.len (disk.capacity_data bytes)
answered_within bytes c (Some (asked.Read transfer)) = if_within c.len (Rattle.scsi_disk.specs.Disk.is_in_range bytes transfer) (disk.good (read_of bytes c.len transfer)) (disk.check_condition sense.BlockAddressOutOfRange) (read_short bytes c.len transfer) (nothing c.len)
answered_within bytes c (Some (asked.Write transfer)) = if_outcome c.len (Rattle.scsi_disk.specs.Disk.is_in_range bytes transfer) _ _ (if_outcome c.len (length c.payload == 512 * transfer.blocks) _ _ (nothing c.len) (nothing c.len)) (nothing c.len)

performed_within : (bytes : List ℕ) (c : Command) → length (disk.performed bytes c).result.payload ≤ c.len
performed_within bytes c = if_outcome c.len (c.lun == 0) _ _ (answered_within bytes c (op.operation_of c.cdb)) (nothing c.len)

-- ---- what steps leave

abbrev Fit : Machine → Type 0
Fit m = (n : ℕ) (r : OpenRequest) (x : ScsiResult) → finmap.get m.requests n ≡ Some r → m.outcome n ≡ Some x → length x.payload ≤ r.command.len

ran : (m : Machine) (n a : ℕ) (q : Option OpenRequest) (d : Option MachineDisk) → finmap.get m.requests n ≡ q → Fit m → Fit (run_at m n a q d)
ran m n a None d i f = f
ran m n a (Some q) None i f = f
ran m n a (Some q) (Some d) i f = λ j r x e g. by_key j r x e (j == n) refl g
  where
    by_key : (j : ℕ) (r : OpenRequest) (x : ScsiResult) → finmap.get m.requests j ≡ Some r → (b : Bool) → (j == n) ≡ b → (if b then Some (disk.performed d.bytes q.command).result else m.outcome j) ≡ Some x → length x.payload ≤ r.command.len
    by_key j r x e false t g = f j r x e g
    by_key j r x e true t g =
        let y : (disk.performed d.bytes q.command).result ≡ x = cc in
        let k : Some q ≡ Some r = sym i ∙ (subst (λ u. finmap.get m.requests u ≡ Some r) (equal j n t) e) in
        let z : q ≡ r = cc in
        subst (λ (u : OpenRequest). length x.payload ≤ u.command.len) z (subst (λ (u : ScsiResult). length u.payload ≤ q.command.len) y (performed_within d.bytes q.command))

opened : (m : Machine) (n a : ℕ) (c : Command) (o : Option ℕ) → Fit m → Fit (accepted m n a c o)
opened m n a c None f = f
opened m n a c (Some plug) f = λ j r x e g. by_key j r x e (j == n) refl g
  where
    by_key : (j : ℕ) (r : OpenRequest) (x : ScsiResult) → finmap.get (finmap.insert m.requests n (let u : OpenRequest = record { address = a; plug = plug; command = c } in u)) j ≡ Some r → (b : Bool) → (j == n) ≡ b → (if b then None else m.outcome j) ≡ Some x → length x.payload ≤ r.command.len
    by_key j r x e true t g = absurd (cc)
    by_key j r x e false t g = f j r x (sym (get_other_inserted m.requests n (record { address = a; plug = plug; command = c }) j (λ i. not_both (j == n) t (subst (λ k. (j == k) ≡ true) i (same j)))) ∙ e) g

ended : (m : Machine) (n : ℕ) (how : AbortOutcome) → Fit m → Fit (after_abort_end m n how)
ended m n abort.Stopped f = f
ended m n abort.NotFound f = f
ended m n abort.Reset f = f

step_fits : (m : Machine) (x : Step) → Fit m → Fit (after m x)
step_fits m (Grants calls.Start) f = f
step_fits m (Grants (calls.Submit n a command)) f = opened m n a command (m.ready a) f
step_fits m (Grants (calls.Abort n)) f = f
step_fits m (Grants (calls.TargetReset a)) f = f
step_fits m (Grants calls.Reset) f = f
step_fits m (Grants calls.UnitReset) f = f
step_fits m (Grants (calls.Plug a place)) f = f
step_fits m (Grants (calls.Unplug a)) f = f
step_fits m (Refuses call cause) f = f
step_fits m GetsUp f = f
step_fits m (Runs n a) f = ran m n a (finmap.get m.requests n) (m.disks a) refl f
step_fits m (Answers n how) f = λ j r x e g. f j r x (removed_less m.requests n j r e) g
step_fits m (EndsAbort n how) f = ended m n how f
step_fits m (EndsTargetReset a how) f = f
step_fits m (GetsReady a plug) f = f
step_fits m (IsLost a) f = f
step_fits m Leaves f = f
step_fits m HasLeft f = f
step_fits m EndsReset f = f
step_fits m Fails f = f

steps_fit : (m : Machine) (xs : List Step) → Fit m → Fit (after_all m xs)
steps_fit m [] f = f
steps_fit m (x ∷ xs) f = steps_fit (after m x) xs (step_fits m x f)

entries_fit : (g : Seen) (t : List Entry) → Fit g.machine → Fit (state_ahead seen_next g t []).machine
entries_fit g [] f = f
entries_fit g (e ∷ t) f = entries_fit (seen_next g e (next_own e (t ++ []))) t (steps_fit g.machine (steps_of g.so_far e (next_own e (t ++ []))) f)

pub payloads_fit : (h : History) (t : List Entry) → PayloadsFit h → PayloadsFit (history_after h t)
payloads_fit h t f = entries_fit (record { machine = h.machine; so_far = h.so_far }) t f

pub payloads_fit_first : (disks : List DiskSpec) → PayloadsFit (first_history disks)
payloads_fit_first disks n r x e g = absurd (cc)
