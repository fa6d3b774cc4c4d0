-- What comes up, as C hands it to the host.
use Rattle.std.specs.Prelude.{◌≡◌, ℕ, ◌==◌, List, length, take, nat_le, nat_lt, Bool, ◌&&◌, Option, Some, None, if◌then◌else◌}
use Rattle.mpt_trace.specs.declared.item.Up.{Up}
use Rattle.mpt_trace.specs.declared.item.Up.TheVariants as up
use Rattle.mpt_rules.specs.declared.why.Why.{Why}
use Rattle.mpt_rules.specs.Host.Parts.{Host}
use Rattle.mpt_rules.specs.Host.Takes.{takes_up}
use Rattle.mpt_rules.specs.Outcome.{Called}
use Rattle.mpt_c_messages.specs.declared.call_code.CallCode.{CallCode}
use Rattle.mpt_c_messages.specs.declared.call_code.CallCode.TheVariants as code
use Rattle.host_core.specs.Driver.{Driver, IsSame}
use Rattle.mpt_c_messages.specs.declared.up_head.UpHead.{UpHead}
use Rattle.mpt_c_hosts.specs.declared.strange_words.StrangeWords.{StrangeWords}
use Rattle.mpt_c_hosts.specs.Asking.{Went}
use Rattle.mpt_c_hosts.specs.StrangeWords.{strange_words}

-- so many bytes may move, and are there
abbrev pub are_there : ℕ → List ℕ → Bool
are_there count bytes = nat_le count 4096 && nat_le count (length bytes)

-- the reply's frame, where it has one
abbrev pub frame_given : ℕ → List ℕ → Option (List ℕ)
frame_given has_frame frame = if has_frame == 0 then None else Some frame

-- the reply, where its data is there
abbrev pub reply_of : UpHead → List ℕ → List ℕ → List ℕ → Option Up
reply_of head frame page sense =
    if are_there head.page_length page && are_there head.sense_length sense
    then Some (up.Reply head.descriptor (frame_given head.has_frame frame) (take head.page_length page) (take head.sense_length sense))
    else None

-- the item that stands for what C hands over, if one does
abbrev pub up_of : UpHead → List ℕ → List ℕ → List ℕ → Option Up
up_of head frame page sense =
    if head.kind == 1 then Some (up.Value head.value)
    else if head.kind == 2 then reply_of head frame page sense
    else if head.kind == 3 then Some (up.Mark head.value)
    else if head.kind == 4 then Some up.Calm
    else None

-- the same, where the host has such a queue
abbrev pub up_on : Host → ℕ → UpHead → List ℕ → List ℕ → List ℕ → Option Up
up_on host queue head frame page sense = if nat_lt queue (length host.indices) then up_of head frame page sense else None

-- Ok: the host took the item, by the rule. Refused: the item is strange, and C has why. Else, and then, nothing changed
abbrev pub HearsItem : Driver → Driver → StrangeWords → StrangeWords → Called Host (Option Why) → CallCode → Type 0
HearsItem old new strange strange' call code.Ok = (call.answer ≡ None) × Went old new call × (strange' ≡ strange)
HearsItem old new strange strange' call code.Refused =
    (why : Why) × (call.answer ≡ Some why) × (strange' ≡ strange_words why) × IsSame old new
HearsItem old new strange strange' call code.NoMemory = (strange' ≡ strange) × IsSame old new
HearsItem old new strange strange' call _ = ⊥

-- NoSuch: what C hands over is no item, or there is no such queue; nothing changed
abbrev pub Hears : Driver → Driver → ℕ → Option Up → StrangeWords → StrangeWords → CallCode → Type 0
Hears old new queue None strange strange' answer = (answer ≡ code.NoSuch) × (strange' ≡ strange) × IsSame old new
Hears old new queue (Some item) strange strange' answer = HearsItem old new strange strange' (takes_up old.host queue item) answer
