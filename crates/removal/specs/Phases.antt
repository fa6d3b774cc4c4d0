-- The life of a device handle at the host: what each call makes of its phase.
use Rattle.std.specs.Prelude.{ℕ, Bool, false, ◌==◌, if◌then◌else◌, None, Some}
use Rattle.std.specs.declared.option.Option.{Option}
use Rattle.removal.specs.declared.phase.Phase.{Phase}
use Rattle.removal.specs.declared.phase.Phase.TheVariants as phase

-- the device was added: its page is to be read
abbrev pub after_added : Phase → Phase
after_added phase.Absent = phase.WaitRead
after_added p = p

-- the device isn't responding any more: its handle is to be removed, which begins with a target reset
abbrev pub after_gone : Phase → Phase
after_gone phase.WaitRead = phase.WaitHigh
after_gone (phase.Reading smid) = phase.WaitHigh
after_gone (phase.Ready address) = phase.WaitHigh
after_gone p = p

-- the address that is lost where the device isn't responding any more
abbrev pub lost_address : Phase → Option ℕ
lost_address (phase.Ready address) = Some address
lost_address p = None

-- the phase that a page gives, and that a refused page gives
abbrev pub phase_by_page : Option ℕ → Phase
phase_by_page (Some address) = phase.Ready address
phase_by_page None = phase.Absent

-- a page came, or its refusal, in reply to the post with this identifier
abbrev pub after_page : Phase → ℕ → Option ℕ → Phase
after_page (phase.Reading smid) replied page = (if smid == replied then phase_by_page page else phase.Reading smid)
after_page p replied page = p

-- the target reset with this identifier was answered
abbrev pub after_task_done : Phase → ℕ → Phase
after_task_done (phase.Resetting smid) replied = (if smid == replied then phase.WaitInternal else phase.Resetting smid)
after_task_done p replied = p

-- the remove device with this identifier was answered
abbrev pub after_removed : Phase → ℕ → Phase
after_removed (phase.Removing smid) replied = (if smid == replied then phase.Absent else phase.Removing smid)
after_removed p replied = p

-- the phase waits for an identifier for its next post
abbrev pub Waits : Phase → Type 0
Waits phase.WaitRead = Unit {0}
Waits phase.WaitHigh = Unit {0}
Waits phase.WaitInternal = Unit {0}
Waits p = ⊥

-- the post that waited got this identifier
abbrev pub after_grant : Phase → ℕ → Phase
after_grant phase.WaitRead smid = phase.Reading smid
after_grant phase.WaitHigh smid = phase.Resetting smid
after_grant phase.WaitInternal smid = phase.Removing smid
after_grant p smid = p

-- the device has this address and is ready
abbrev pub is_ready_at : ℕ → Phase → Bool
is_ready_at address (phase.Ready a) = a == address
is_ready_at address p = false
