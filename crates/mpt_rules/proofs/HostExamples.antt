-- What the host answers to what is asked of it.
use Rattle.std.proofs.Common.{◌≡◌, [], ◌∷◌, true, Some, None, refl}
use Rattle.std.specs.Prelude.{Ok, Err, replicate, drop, ◌++◌}
use Rattle.std.specs.FinSet as set
use Rattle.std.specs.FinSet.{members}
use Rattle.std.specs.FinMap as map
use Rattle.std.specs.FinMap.{gets}
use Rattle.scsi_disk.specs.Operation.{operation_of}
use Rattle.smid_pool.specs.Pool.{Open, Parked, all_free, slot_of}
use Rattle.mpt_trace.specs.declared.entry.Entry.TheVariants as entry
use Rattle.mpt_trace.specs.declared.refusal.Refusal.TheVariants as refusal
use Rattle.mpt_rules.specs.declared.request.Request.TheVariants as request
use Rattle.mpt_rules.specs.Host.Parts.{Host, new_host}
use Rattle.mpt_rules.specs.Host.Doorbell.{turn_from}
use Rattle.mpt_rules.specs.Host.Takes.{starts, host_submits, host_aborts, host_resets_target, diag_resets, unit_resets, looks, stops, down_sent}
use Rattle.mpt_rules.proofs.HostUp.{disk, host_up, up_with, with_open, resetting, tur, puts_of, posted, read, stopped}

-- ---- submissions

accepted : (host_submits host_up 1 disk tur).answer ≡ Ok 1
unfolding operation_of
accepted = simp (members) refl

accepted_told : (host_submits host_up 1 disk tur).told ≡ entry.Accept 1 disk 1 ∷ []
unfolding operation_of
accepted_told = simp (members) refl

accepted_open : slot_of (host_submits host_up 1 disk tur).part.pool 1 ≡ Open (request.Command 1)
unfolding operation_of
accepted_open = simp (members) refl

accepted_posted : puts_of (host_submits host_up 1 disk tur).part ≡ posted 0x00 1 ∷ []
unfolding operation_of
accepted_posted = simp (members) refl

accepted_number : set.contains (host_submits host_up 1 disk tur).part.accepted 1 ≡ true
unfolding operation_of
accepted_number = simp (members) refl

number_used : (host_submits (record host_up { accepted = set.insert set.empty 1 }) 1 disk tur).answer ≡ Err refusal.NumberUsed
unfolding operation_of
number_used = simp (members) refl

not_operational : (host_submits (new_host 1) 1 disk tur).answer ≡ Err refusal.NotOperational
unfolding operation_of
not_operational = simp (members) refl

no_device : (host_submits host_up 1 0 tur).answer ≡ Err refusal.NoDevice
unfolding operation_of
no_device = simp (members) refl

bad_length : (host_submits host_up 1 disk (record tur { len = 512 })).answer ≡ Err refusal.BadLength
unfolding operation_of
bad_length = simp (members) refl

-- all identifiers of SCSI IOs are taken
no_identifier : (host_submits (record host_up { pool = replicate 256 Parked ++ drop 256 all_free }) 1 disk tur).answer ≡ Err refusal.NoIdentifier
unfolding operation_of
no_identifier = simp (members) refl

-- ---- aborts

-- a submission is open
abbrev one_open : Host
one_open = record (with_open 1 (request.Command 7)) { cmds = map.insert map.empty 7 (record { smid = 1; handle = 0x0009 }) }

-- and its abort
abbrev one_aborted : Host
one_aborted = record one_open { aborts = map.insert map.empty 7 257 }

abort_asked : (host_aborts one_open 7).answer ≡ Ok 257
abort_asked = simp (gets) refl

abort_open : slot_of (host_aborts one_open 7).part.pool 257 ≡ Open (request.Abort 7 1)
abort_open = simp (gets) refl

abort_posted : puts_of (host_aborts one_open 7).part ≡ posted 0x06 257 ∷ []
abort_posted = simp (gets) refl

abort_kept : map.get (host_aborts one_open 7).part.aborts 7 ≡ Some 257
abort_kept = simp (gets) refl

abort_not_operational : (host_aborts (resetting one_open) 7).answer ≡ Err refusal.NotOperational
abort_not_operational = refl

abort_not_open : (host_aborts one_open 8).answer ≡ Err refusal.NotOpen
abort_not_open = simp (gets) refl

abort_twice : (host_aborts one_aborted 7).answer ≡ Err refusal.AbortOpen
abort_twice = simp (gets) refl

abort_no_identifier : (host_aborts (record one_open { pool = replicate 280 Parked }) 7).answer ≡ Err refusal.NoIdentifier
abort_no_identifier = simp (gets) refl

-- ---- target resets

target_asked : (host_resets_target host_up disk).answer ≡ Ok 257
target_asked = refl

target_open : slot_of (host_resets_target host_up disk).part.pool 257 ≡ Open (request.TargetReset disk)
target_open = refl

target_posted : puts_of (host_resets_target host_up disk).part ≡ posted 0x06 257 ∷ []
target_posted = refl

target_not_operational : (host_resets_target (new_host 1) disk).answer ≡ Err refusal.NotOperational
target_not_operational = refl

target_no_device : (host_resets_target host_up 0).answer ≡ Err refusal.NoDevice
target_no_device = refl

target_no_identifier : (host_resets_target (record host_up { pool = replicate 280 Parked }) disk).answer ≡ Err refusal.NoIdentifier
target_no_identifier = refl

-- ---- the start and the resets

started : (starts (new_host 1)).answer ≡ None
unfolding turn_from
started = refl

-- it reads the Doorbell
started_reads : puts_of (starts (new_host 1)).part ≡ read 0x00 ∷ []
unfolding turn_from
started_reads = refl

already_started : (starts host_up).answer ≡ Some refusal.AlreadyStarted
already_started = refl

not_started : (diag_resets (new_host 1)).answer ≡ Some refusal.NotStarted
not_started = refl

already_resetting : (diag_resets (resetting host_up)).answer ≡ Some refusal.AlreadyResetting
already_resetting = refl

unit_not_operational : (unit_resets (resetting host_up)).answer ≡ Some refusal.NotOperational
unit_not_operational = refl

-- a SCSI IO names a reply queue, and the identifiers go around them
queued : puts_of (host_submits (up_with 2) 1 disk tur).part ≡ posted 0x00 1 ∷ []
unfolding operation_of
queued = simp (members) refl

-- ---- the end of a session

looked : puts_of (looks host_up) ≡ read 0x00 ∷ []
unfolding turn_from
looked = refl

stopped_last : puts_of (stops host_up) ≡ stopped ∷ []
stopped_last = refl

-- what was put leaves the outbox
sent : puts_of (down_sent (host_resets_target host_up disk).part) ≡ []
sent = refl
