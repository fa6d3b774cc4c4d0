-- Lanes and what they carry, in words.
use Rattle.std.specs.Prelude.{ℕ, if◌then◌else◌, Option, Some, None, List, ◌++◌, codes, decimal}
use Rattle.hex.specs.Hex.{encode_lower}
use Rattle.mpt_text.specs.Words.{bytes_text, hex_number}
use Rattle.scsi_disk.specs.declared.command.Command.{Command}
use Rattle.scsi_disk.specs.declared.scsi_result.ScsiResult.{ScsiResult}
use Rattle.mpt_trace.specs.declared.lane.LaneName.{LaneName}
use Rattle.mpt_trace.specs.declared.lane.LaneName.TheVariants as lane
use Rattle.mpt_trace.specs.declared.item.Down.{Down}
use Rattle.mpt_trace.specs.declared.item.Down.TheVariants as down
use Rattle.mpt_trace.specs.declared.item.Up.{Up}
use Rattle.mpt_trace.specs.declared.item.Up.TheVariants as up
use Rattle.mpt_trace.specs.declared.item.Out.{Out}
use Rattle.mpt_trace.specs.declared.item.Out.TheVariants as out
use Rattle.mpt_trace.specs.declared.item.Back.{Back}
use Rattle.mpt_trace.specs.declared.item.Back.TheVariants as back
use Rattle.mpt_trace.specs.declared.item.Ask.{Ask}
use Rattle.mpt_trace.specs.declared.item.Ask.TheVariants as ask
use Rattle.mpt_trace.specs.declared.item.Tell.{Tell}
use Rattle.mpt_trace.specs.declared.item.Tell.TheVariants as tell
use Rattle.mpt_trace.specs.declared.item.Item.{Item}
use Rattle.mpt_trace.specs.declared.item.Item.TheVariants as item
use Rattle.mpt_trace.specs.declared.outcome.Outcome.{Outcome}
use Rattle.mpt_trace.specs.declared.outcome.Outcome.TheVariants as outcome
use Rattle.mpt_trace.specs.declared.refusal.Refusal.{Refusal}
use Rattle.mpt_trace.specs.declared.refusal.Refusal.TheVariants as refusal
use Rattle.mpt_trace.specs.Numbers.{address_text, byte_text, descriptor_text, place_text}
use Rattle.mpt_trace.specs.Schedule.{input_line}

-- the lane's name
abbrev pub lane_text : LaneName → List ℕ
lane_text lane.Down = codes "down"
lane_text lane.Up = codes "up"
lane_text (lane.UpOn queue) = codes "up" ++ decimal queue
lane_text lane.Out = codes "out"
lane_text lane.Back = codes "back"
lane_text (lane.Ask i) = codes "ask " ++ decimal i
lane_text (lane.Tell i) = codes "tell " ++ decimal i

-- the cause of a refusal
abbrev pub cause_text : Refusal → List ℕ
cause_text refusal.NumberUsed = codes "number-used"
cause_text refusal.NotOperational = codes "not-operational"
cause_text refusal.NoDevice = codes "no-device"
cause_text refusal.BadLength = codes "bad-length"
cause_text refusal.NoIdentifier = codes "no-identifier"
cause_text refusal.NotOpen = codes "not-open"
cause_text refusal.AbortOpen = codes "abort-open"
cause_text refusal.AlreadyStarted = codes "already-started"
cause_text refusal.NotStarted = codes "not-started"
cause_text refusal.AlreadyResetting = codes "already-resetting"
cause_text refusal.Occupied = codes "occupied"
cause_text refusal.AlreadyPlugged = codes "already-plugged"
cause_text refusal.PlugsSpent = codes "plugs-spent"
cause_text refusal.NotPlugged = codes "not-plugged"

-- a refused submission
abbrev pub refuse_submit_text : ℕ → Refusal → List ℕ
refuse_submit_text n cause = codes "refuse submit " ++ decimal n ++ codes " " ++ cause_text cause

-- what a disk answered: status, data and sense data
abbrev pub result_text : ScsiResult → List ℕ
result_text result = byte_text result.status ++ codes " " ++ bytes_text result.payload ++ codes " " ++ bytes_text result.sense

-- how a submission ended
abbrev pub outcome_text : Outcome → List ℕ
outcome_text (outcome.Done result) = codes "done " ++ result_text result
outcome_text outcome.Gone = codes "gone"
outcome_text outcome.Terminated = codes "terminated"
outcome_text outcome.Reset = codes "reset"

-- the answer to a submission
abbrev pub answer_text : ℕ → Outcome → List ℕ
answer_text n outcome = codes "answer " ++ decimal n ++ codes " " ++ outcome_text outcome

-- a command of a task: LUN, CDB, length and data
abbrev pub task_text : Command → List ℕ
task_text command = hex_number 8 command.lun ++ codes " " ++ bytes_text command.cdb ++ codes " " ++ decimal command.len ++ codes " " ++ bytes_text command.payload

-- the reply frame, if there is one
abbrev pub frame_text : Option (List ℕ) → List ℕ
frame_text None = codes "-"
frame_text (Some frame) = encode_lower frame

-- a plug of a disk: its address, the plug's number and its place
abbrev pub plug_text : ℕ → ℕ → ℕ → ℕ → List ℕ
plug_text address plug expander phy = address_text address ++ codes " " ++ decimal plug ++ codes " " ++ place_text expander phy

abbrev pub down_text : Down → List ℕ
down_text (down.Write reg value) = codes "write " ++ hex_number 2 reg ++ codes " " ++ hex_number 4 value
down_text (down.Read reg) = codes "read " ++ hex_number 2 reg
down_text (down.Post descriptor frame payload) = codes "post " ++ descriptor_text descriptor ++ codes " " ++ encode_lower frame ++ codes " " ++ bytes_text payload
down_text (down.Return address index) = codes "return " ++ hex_number 4 address ++ codes " " ++ hex_number 2 index
down_text down.Stop = codes "stop"

abbrev pub up_text : Up → List ℕ
up_text (up.Value value) = codes "value " ++ hex_number 4 value
up_text (up.Reply descriptor frame page sense) = codes "reply " ++ descriptor_text descriptor ++ codes " " ++ frame_text frame ++ codes " " ++ bytes_text page ++ codes " " ++ bytes_text sense
up_text (up.Mark generation) = codes "mark " ++ decimal generation
up_text up.Calm = codes "calm"

abbrev pub out_text : Out → List ℕ
out_text (out.Task tag address command) = codes "task " ++ decimal tag ++ codes " " ++ address_text address ++ codes " " ++ task_text command
out_text (out.Abort smid task) = codes "abort " ++ decimal smid ++ codes " " ++ decimal task
out_text (out.TargetReset smid address) = codes "treset " ++ decimal smid ++ codes " " ++ address_text address
out_text out.Discover = codes "discover"
out_text (out.Link generation) = codes "link " ++ decimal generation
out_text out.Stop = codes "stop"

abbrev pub back_text : Back → List ℕ
back_text (back.Result tag result) = codes "result " ++ decimal tag ++ codes " " ++ result_text result
back_text (back.Gone tag) = codes "gone " ++ decimal tag
back_text (back.Terminated tag) = codes "terminated " ++ decimal tag
back_text (back.Aborted smid found) = codes "aborted " ++ decimal smid ++ (if found then codes " 1" else codes " 0")
back_text (back.Cleared smid count) = codes "cleared " ++ decimal smid ++ codes " " ++ decimal count
back_text (back.Plugged address plug expander phy) = codes "plugged " ++ plug_text address plug expander phy
back_text (back.Unplugged address plug expander phy) = codes "unplugged " ++ plug_text address plug expander phy
back_text back.Discovered = codes "discovered"
back_text (back.Linked generation) = codes "linked " ++ decimal generation
back_text back.Calm = codes "calm"

abbrev pub ask_text : Ask → List ℕ
ask_text (ask.Line line) = input_line line
ask_text ask.Bye = codes "bye"

abbrev pub tell_text : Tell → List ℕ
tell_text (tell.Answer n outcome) = answer_text n outcome
tell_text (tell.RefuseSubmit n cause) = refuse_submit_text n cause

abbrev pub item_text : Item → List ℕ
item_text (item.Down down) = down_text down
item_text (item.Up up) = up_text up
item_text (item.Out out) = out_text out
item_text (item.Back back) = back_text back
item_text (item.Ask ask) = ask_text ask
item_text (item.Tell tell) = tell_text tell
