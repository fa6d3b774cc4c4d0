-- Items read back, by their words.
use Rattle.std.specs.Prelude.{ℕ, ◌^◌, ◌<◌, if◌then◌else◌, Option, Some, None, option_map, List, [], ◌∷◌, codes, drop, find, take}
use Rattle.hex.specs.Hex.{IsBytes}
use Rattle.scsi_disk.specs.declared.command.Command.{Command}
use Rattle.scsi_disk.specs.declared.scsi_result.ScsiResult.{ScsiResult}
use Rattle.mpt_trace.specs.declared.lane.LaneName.{LaneName}
use Rattle.mpt_trace.specs.declared.lane.LaneName.TheVariants as lane
use Rattle.mpt_trace.specs.declared.item.Down.{Down}
use Rattle.mpt_trace.specs.declared.item.Down.TheVariants as down
use Rattle.mpt_trace.specs.declared.item.Up.{Up}
use Rattle.mpt_trace.specs.declared.item.Up.TheVariants as up
use Rattle.mpt_trace.specs.declared.item.Out.{Out}
use Rattle.mpt_trace.specs.declared.item.Out.TheVariants as out
use Rattle.mpt_trace.specs.declared.item.Back.{Back}
use Rattle.mpt_trace.specs.declared.item.Back.TheVariants as back
use Rattle.mpt_trace.specs.declared.item.Ask.{Ask}
use Rattle.mpt_trace.specs.declared.item.Ask.TheVariants as ask
use Rattle.mpt_trace.specs.declared.item.Tell.{Tell}
use Rattle.mpt_trace.specs.declared.item.Tell.TheVariants as tell
use Rattle.mpt_trace.specs.declared.item.Item.{Item}
use Rattle.mpt_trace.specs.declared.item.Item.TheVariants as item
use Rattle.mpt_trace.specs.declared.outcome.Outcome.{Outcome}
use Rattle.mpt_trace.specs.declared.outcome.Outcome.TheVariants as outcome
use Rattle.mpt_trace.specs.declared.refusal.Refusal.{Refusal}
use Rattle.mpt_trace.specs.declared.refusal.Refusal.TheVariants as refusal
use Rattle.mpt_trace.specs.Items.{cause_text}
use Rattle.mpt_trace.specs.Reading.{IsData, IsNumber, bytes_in, bytes_of_digits, descriptor_in, frame_in, hexadecimal, is_word, number}
use Rattle.mpt_trace.specs.ReadingSchedule.{IsInput, input_in}

-- every cause of a refusal
abbrev pub all_causes : List Refusal
all_causes =
    refusal.NumberUsed
    ∷ refusal.NotOperational
    ∷ refusal.NoDevice
    ∷ refusal.BadLength
    ∷ refusal.NoIdentifier
    ∷ refusal.NotOpen
    ∷ refusal.AbortOpen
    ∷ refusal.AlreadyStarted
    ∷ refusal.NotStarted
    ∷ refusal.AlreadyResetting
    ∷ refusal.Occupied
    ∷ refusal.AlreadyPlugged
    ∷ refusal.PlugsSpent
    ∷ refusal.NotPlugged
    ∷ []

-- the cause of a refusal: the one that has this text
abbrev pub cause_in : List (List ℕ) → Option Refusal
cause_in (w ∷ []) = find (λ cause. is_word w (cause_text cause)) all_causes
cause_in _ = None

-- what a disk answered
abbrev pub result_in : List ℕ → List ℕ → List ℕ → ScsiResult
result_in status payload sense = record { status = hexadecimal 1 status; payload = bytes_in payload; sense = bytes_in sense }

-- how a submission ended
abbrev pub outcome_in : List (List ℕ) → Option Outcome
outcome_in (w ∷ []) =
    if is_word w (codes "gone") then Some outcome.Gone
    else (if is_word w (codes "terminated") then Some outcome.Terminated
    else (if is_word w (codes "reset") then Some outcome.Reset else None))
outcome_in (w ∷ a ∷ b ∷ c ∷ []) = if is_word w (codes "done") then Some (outcome.Done (result_in a b c)) else None
outcome_in _ = None

-- a command of a task
abbrev pub task_in : List ℕ → List ℕ → List ℕ → List ℕ → Command
task_in lun cdb len payload = record { lun = hexadecimal 8 lun; cdb = bytes_in cdb; len = number len; payload = bytes_in payload }

abbrev pub down_in : List (List ℕ) → Option Down
down_in (w ∷ []) = if is_word w (codes "stop") then Some down.Stop else None
down_in (w ∷ a ∷ []) = if is_word w (codes "read") then Some (down.Read (hexadecimal 2 a)) else None
down_in (w ∷ a ∷ b ∷ []) =
    if is_word w (codes "write") then Some (down.Write (hexadecimal 2 a) (hexadecimal 4 b))
    else (if is_word w (codes "return") then Some (down.Return (hexadecimal 4 a) (hexadecimal 2 b)) else None)
down_in (w ∷ a ∷ b ∷ c ∷ []) = if is_word w (codes "post") then Some (down.Post (descriptor_in a) (bytes_of_digits b) (bytes_in c)) else None
down_in _ = None

abbrev pub up_in : List (List ℕ) → Option Up
up_in (w ∷ []) = if is_word w (codes "calm") then Some up.Calm else None
up_in (w ∷ a ∷ []) =
    if is_word w (codes "value") then Some (up.Value (hexadecimal 4 a))
    else (if is_word w (codes "mark") then Some (up.Mark (number a)) else None)
up_in (w ∷ a ∷ b ∷ c ∷ d ∷ []) = if is_word w (codes "reply") then Some (up.Reply (descriptor_in a) (frame_in b) (bytes_in c) (bytes_in d)) else None
up_in _ = None

abbrev pub out_in : List (List ℕ) → Option Out
out_in (w ∷ []) =
    if is_word w (codes "discover") then Some out.Discover
    else (if is_word w (codes "stop") then Some out.Stop else None)
out_in (w ∷ a ∷ []) = if is_word w (codes "link") then Some (out.Link (number a)) else None
out_in (w ∷ a ∷ b ∷ []) =
    if is_word w (codes "abort") then Some (out.Abort (number a) (number b))
    else (if is_word w (codes "treset") then Some (out.TargetReset (number a) (hexadecimal 8 b)) else None)
out_in (w ∷ a ∷ b ∷ c ∷ d ∷ e ∷ f ∷ []) = if is_word w (codes "task") then Some (out.Task (number a) (hexadecimal 8 b) (task_in c d e f)) else None
out_in _ = None

abbrev pub back_in : List (List ℕ) → Option Back
back_in (w ∷ []) =
    if is_word w (codes "discovered") then Some back.Discovered
    else (if is_word w (codes "calm") then Some back.Calm else None)
back_in (w ∷ a ∷ []) =
    if is_word w (codes "gone") then Some (back.Gone (number a))
    else (if is_word w (codes "terminated") then Some (back.Terminated (number a))
    else (if is_word w (codes "linked") then Some (back.Linked (number a)) else None))
back_in (w ∷ a ∷ b ∷ []) =
    if is_word w (codes "aborted") then Some (back.Aborted (number a) (is_word b (codes "1")))
    else (if is_word w (codes "cleared") then Some (back.Cleared (number a) (number b)) else None)
back_in (w ∷ a ∷ b ∷ c ∷ d ∷ []) =
    if is_word w (codes "result") then Some (back.Result (number a) (result_in b c d))
    else (if is_word w (codes "plugged") then Some (back.Plugged (hexadecimal 8 a) (number b) (number c) (number d))
    else (if is_word w (codes "unplugged") then Some (back.Unplugged (hexadecimal 8 a) (number b) (number c) (number d)) else None))
back_in _ = None

abbrev pub bye_in : List (List ℕ) → Option Ask
bye_in [] = Some ask.Bye
bye_in _ = None

abbrev pub ask_in : List (List ℕ) → Option Ask
ask_in [] = None
ask_in (w ∷ rest) = if is_word w (codes "bye") then bye_in rest else option_map ask.Line (input_in (w ∷ rest))

-- an answer behind its word
abbrev pub answer_in : List (List ℕ) → Option (ℕ × Outcome)
answer_in [] = None
answer_in (n ∷ rest) = option_map (λ outcome. (number n, outcome)) (outcome_in rest)

-- a refused submission behind its two words
abbrev pub refused_in : List (List ℕ) → Option (ℕ × Refusal)
refused_in [] = None
refused_in (n ∷ rest) = option_map (λ cause. (number n, cause)) (cause_in rest)

abbrev pub refusal_told_in : List (List ℕ) → Option Tell
refusal_told_in [] = None
refusal_told_in (w ∷ rest) = if is_word w (codes "submit") then option_map (λ (p : ℕ × Refusal). tell.RefuseSubmit p.0 p.1) (refused_in rest) else None

abbrev pub tell_in : List (List ℕ) → Option Tell
tell_in [] = None
tell_in (w ∷ rest) =
    if is_word w (codes "answer") then option_map (λ (p : ℕ × Outcome). tell.Answer p.0 p.1) (answer_in rest)
    else (if is_word w (codes "refuse") then refusal_told_in rest else None)

-- a lane up, by what follows `up` in its word
abbrev pub up_lane : List ℕ → LaneName
up_lane [] = lane.Up
up_lane (c ∷ cs) = lane.UpOn (number (c ∷ cs))

abbrev pub asked_in : List (List ℕ) → Option (LaneName × Item)
asked_in [] = None
asked_in (i ∷ rest) = option_map (λ a. (lane.Ask (number i), item.Ask a)) (ask_in rest)

abbrev pub told_in : List (List ℕ) → Option (LaneName × Item)
told_in [] = None
told_in (i ∷ rest) = option_map (λ t. (lane.Tell (number i), item.Tell t)) (tell_in rest)

-- a lane and an item of its kind
abbrev pub moved_in : List (List ℕ) → Option (LaneName × Item)
moved_in [] = None
moved_in (w ∷ rest) =
    if is_word w (codes "down") then option_map (λ i. (lane.Down, item.Down i)) (down_in rest)
    else (if is_word w (codes "out") then option_map (λ i. (lane.Out, item.Out i)) (out_in rest)
    else (if is_word w (codes "back") then option_map (λ i. (lane.Back, item.Back i)) (back_in rest)
    else (if is_word w (codes "ask") then asked_in rest
    else (if is_word w (codes "tell") then told_in rest
    else (if is_word (take 2 w) (codes "up") then option_map (λ i. (up_lane (drop 2 w), item.Up i)) (up_in rest) else None)))))

-- ---- what words can say

-- the item is of its lane's kind
abbrev pub IsOfLane : LaneName → Item → Type 0
IsOfLane lane.Down (item.Down _) = Unit {0}
IsOfLane lane.Up (item.Up _) = Unit {0}
IsOfLane (lane.UpOn queue) (item.Up _) = Unit {0}
IsOfLane lane.Out (item.Out _) = Unit {0}
IsOfLane lane.Back (item.Back _) = Unit {0}
IsOfLane (lane.Ask i) (item.Ask _) = Unit {0}
IsOfLane (lane.Tell i) (item.Tell _) = Unit {0}
IsOfLane _ _ = ⊥

abbrev pub IsLane : LaneName → Type 0
IsLane (lane.UpOn queue) = IsNumber queue
IsLane (lane.Ask i) = IsNumber i
IsLane (lane.Tell i) = IsNumber i
IsLane _ = Unit {0}

abbrev pub IsResult : ScsiResult → Type 0
IsResult result = (result.status < 256 ^ 1) × IsData result.payload × IsData result.sense

abbrev pub IsOutcome : Outcome → Type 0
IsOutcome (outcome.Done result) = IsResult result
IsOutcome _ = Unit {0}

abbrev pub IsTask : Command → Type 0
IsTask command = (command.lun < 256 ^ 8) × IsData command.cdb × IsNumber command.len × IsData command.payload

-- a frame's bytes
abbrev pub IsFrame : Option (List ℕ) → Type 0
IsFrame None = Unit {0}
IsFrame (Some frame) = IsBytes frame

abbrev pub IsDown : Down → Type 0
IsDown (down.Write reg value) = (reg < 256 ^ 2) × (value < 256 ^ 4)
IsDown (down.Read reg) = reg < 256 ^ 2
IsDown (down.Post descriptor frame payload) = (descriptor < 256 ^ 8) × IsBytes frame × IsData payload
IsDown (down.Return address index) = (address < 256 ^ 4) × (index < 256 ^ 2)
IsDown down.Stop = Unit {0}

abbrev pub IsUp : Up → Type 0
IsUp (up.Value value) = value < 256 ^ 4
IsUp (up.Reply descriptor frame page sense) = (descriptor < 256 ^ 8) × IsFrame frame × IsData page × IsData sense
IsUp (up.Mark generation) = IsNumber generation
IsUp up.Calm = Unit {0}

abbrev pub IsOut : Out → Type 0
IsOut (out.Task tag address command) = IsNumber tag × (address < 256 ^ 8) × IsTask command
IsOut (out.Abort smid task) = IsNumber smid × IsNumber task
IsOut (out.TargetReset smid address) = IsNumber smid × (address < 256 ^ 8)
IsOut out.Discover = Unit {0}
IsOut (out.Link generation) = IsNumber generation
IsOut out.Stop = Unit {0}

abbrev pub IsBack : Back → Type 0
IsBack (back.Result tag result) = IsNumber tag × IsResult result
IsBack (back.Gone tag) = IsNumber tag
IsBack (back.Terminated tag) = IsNumber tag
IsBack (back.Aborted smid found) = IsNumber smid
IsBack (back.Cleared smid count) = IsNumber smid × IsNumber count
IsBack (back.Plugged address plug expander phy) = (address < 256 ^ 8) × IsNumber plug × IsNumber expander × IsNumber phy
IsBack (back.Unplugged address plug expander phy) = (address < 256 ^ 8) × IsNumber plug × IsNumber expander × IsNumber phy
IsBack back.Discovered = Unit {0}
IsBack (back.Linked generation) = IsNumber generation
IsBack back.Calm = Unit {0}

abbrev pub IsAsk : Ask → Type 0
IsAsk (ask.Line line) = IsInput line
IsAsk ask.Bye = Unit {0}

abbrev pub IsTell : Tell → Type 0
IsTell (tell.Answer n outcome) = IsNumber n × IsOutcome outcome
IsTell (tell.RefuseSubmit n cause) = IsNumber n

abbrev pub IsItem : Item → Type 0
IsItem (item.Down i) = IsDown i
IsItem (item.Up i) = IsUp i
IsItem (item.Out i) = IsOut i
IsItem (item.Back i) = IsBack i
IsItem (item.Ask i) = IsAsk i
IsItem (item.Tell i) = IsTell i
