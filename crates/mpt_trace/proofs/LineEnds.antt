-- No line end stands inside a line.
use Rattle.std.proofs.Common.{◌≡◌, ℕ, ◌^◌, ◌<◌, Bool, true, false, not, ◌==◌, ◌&&◌, if◌then◌else◌, Option, Some, None, List, [], ◌∷◌, ◌++◌, length, codes, decimal, refl}
use Rattle.std.proofs.lemmas.Bool.{and_parts}
use Rattle.hex.specs.Hex.{encode_lower}
use Rattle.mpt_text.specs.Words.{bytes_text, hex_number, is_run, run_text}
use Rattle.scsi_disk.specs.declared.command.Command.{Command}
use Rattle.scsi_disk.specs.declared.scsi_result.ScsiResult.{ScsiResult}
use Rattle.mpt_trace.specs.declared.command_form.CommandForm.{CommandForm}
use Rattle.mpt_trace.specs.declared.command_form.CommandForm.TheVariants as form
use Rattle.mpt_trace.specs.declared.input.Input.{Input}
use Rattle.mpt_trace.specs.declared.input.Input.TheVariants as input
use Rattle.mpt_trace.specs.declared.choice.Choice.{Choice}
use Rattle.mpt_trace.specs.declared.choice.Choice.TheVariants as choice
use Rattle.mpt_trace.specs.declared.lane.LaneName.{LaneName}
use Rattle.mpt_trace.specs.declared.lane.LaneName.TheVariants as lane
use Rattle.mpt_trace.specs.declared.item.Down.{Down}
use Rattle.mpt_trace.specs.declared.item.Down.TheVariants as down
use Rattle.mpt_trace.specs.declared.item.Up.{Up}
use Rattle.mpt_trace.specs.declared.item.Up.TheVariants as up
use Rattle.mpt_trace.specs.declared.item.Out.{Out}
use Rattle.mpt_trace.specs.declared.item.Out.TheVariants as out
use Rattle.mpt_trace.specs.declared.item.Back.{Back}
use Rattle.mpt_trace.specs.declared.item.Back.TheVariants as back
use Rattle.mpt_trace.specs.declared.item.Ask.{Ask}
use Rattle.mpt_trace.specs.declared.item.Ask.TheVariants as ask
use Rattle.mpt_trace.specs.declared.item.Tell.{Tell}
use Rattle.mpt_trace.specs.declared.item.Tell.TheVariants as tell
use Rattle.mpt_trace.specs.declared.item.Item.{Item}
use Rattle.mpt_trace.specs.declared.item.Item.TheVariants as item
use Rattle.mpt_trace.specs.declared.outcome.Outcome.{Outcome}
use Rattle.mpt_trace.specs.declared.outcome.Outcome.TheVariants as outcome
use Rattle.mpt_trace.specs.declared.outcome.AbortOutcome.{AbortOutcome}
use Rattle.mpt_trace.specs.declared.outcome.AbortOutcome.TheVariants as abort
use Rattle.mpt_trace.specs.declared.outcome.TargetOutcome.{TargetOutcome}
use Rattle.mpt_trace.specs.declared.outcome.TargetOutcome.TheVariants as target
use Rattle.mpt_trace.specs.declared.refusal.Refusal.{Refusal}
use Rattle.mpt_trace.specs.declared.refusal.Refusal.TheVariants as refusal
use Rattle.mpt_trace.specs.declared.refusal.RefusedCall.{RefusedCall}
use Rattle.mpt_trace.specs.declared.refusal.RefusedCall.TheVariants as call
use Rattle.mpt_trace.specs.declared.entry.Entry.{Entry}
use Rattle.mpt_trace.specs.declared.entry.Entry.TheVariants as entry
use Rattle.mpt_trace.specs.Numbers.{address_text, byte_text, descriptor_text, handle_text, place_text}
use Rattle.mpt_trace.specs.Schedule.{blocks_text, choice_line, command_text, input_line}
use Rattle.mpt_trace.specs.Items.{answer_text, ask_text, back_text, cause_text, down_text, frame_text, item_text, lane_text, out_text, outcome_text, plug_text, result_text, task_text, tell_text, up_text}
use Rattle.mpt_trace.specs.Entries.{abort_text, call_text, target_text, words_of_entry}
use Rattle.mpt_trace.specs.Reading.{IsData, IsNumber}
use Rattle.mpt_trace.specs.ReadingSchedule.{IsChoice, IsCommand, IsInput}
use Rattle.mpt_trace.specs.ReadingItems.{IsAsk, IsBack, IsDown, IsItem, IsLane, IsOut, IsOutcome, IsResult, IsTask, IsTell, IsUp}
use Rattle.mpt_trace.specs.ReadingEntries.{IsCall, IsEntry, IsTargetOutcome}
use Rattle.mpt_trace.proofs.WordsRead.{IsFree, free-decimal, free-encode, line_table}

-- no byte is a line end
abbrev pub is_line : List ℕ → Bool
is_line [] = true
is_line (c ∷ cs) = not (c == 10) && is_line cs

-- a text of one line
abbrev pub IsLine : List ℕ → Type 0
IsLine text = is_line text ≡ true

from_free : (xs : List ℕ) → IsFree 10 xs → IsLine xs
from_free [] h = refl
from_free (c ∷ cs) h = rw (h.0) (from_free cs h.1)

other_byte : (b : Bool) → not b ≡ true → b ≡ false
other_byte true h = cc
other_byte false h = refl

pub to_free : (xs : List ℕ) → IsLine xs → IsFree 10 xs
to_free [] h = tt
to_free (c ∷ cs) h =
    let both = and_parts (not (c == 10)) (is_line cs) h in
    (other_byte (c == 10) both.0, to_free cs both.1)

-- ---- texts of several parts

abbrev space : List ℕ
space = codes " "

joined : (a b : List ℕ) → IsLine a → IsLine b → IsLine (a ++ b)
joined [] b ha hb = hb
joined (c ∷ cs) b ha hb =
    let both = and_parts (not (c == 10)) (is_line cs) ha in
    rw (both.0) (joined cs b both.1 hb)

pair : (a b : List ℕ) → IsLine a → IsLine b → IsLine (a ++ space ++ b)
pair a b ha hb = joined (a ++ space) b (joined a space ha refl) hb

triple : (a b c : List ℕ) → IsLine a → IsLine b → IsLine c → IsLine (a ++ space ++ b ++ space ++ c)
triple a b c ha hb hc = pair (a ++ space ++ b) c (pair a b ha hb) hc

four : (a b c d : List ℕ) → IsLine a → IsLine b → IsLine c → IsLine d → IsLine (a ++ space ++ b ++ space ++ c ++ space ++ d)
four a b c d ha hb hc hd = pair (a ++ space ++ b ++ space ++ c) d (triple a b c ha hb hc) hd

-- ---- numbers and bytes

of_decimal : (n : ℕ) → IsNumber n → IsLine (decimal n)
of_decimal n h = from_free (decimal n) (free-decimal 10 n refl h)

of_encode : (bytes : List ℕ) → IsLine (encode_lower bytes)
of_encode bytes = from_free (encode_lower bytes) (free-encode 10 bytes line_table)

of_hex : (width n : ℕ) → IsLine (hex_number width n)
of_hex width n = from_free (hex_number width n) (free-encode 10 _ line_table)

of_descriptor : (d : ℕ) → IsLine (descriptor_text d)
of_descriptor d = from_free (descriptor_text d) (free-encode 10 _ line_table)

of_bytes : (bytes : List ℕ) → IsData bytes → IsLine (bytes_text bytes)
of_bytes [] h = refl
of_bytes (first ∷ others) h =
    elim (is_run first others) as (λ run. IsLine (if run then run_text (length (first ∷ others)) first else encode_lower (first ∷ others))) [
      | true ↦ joined (decimal (length (first ∷ others)) ++ codes "*") (encode_lower (first ∷ [])) (joined (decimal (length (first ∷ others))) (codes "*") (of_decimal (length (first ∷ others)) h.1) refl) (of_encode (first ∷ []))
      | false ↦ of_encode (first ∷ others)
    ]

of_frame : (frame : Option (List ℕ)) → IsLine (frame_text frame)
of_frame None = refl
of_frame (Some frame) = of_encode frame

-- ---- schedules

of_place : (expander phy : ℕ) → IsNumber expander → IsNumber phy → IsLine (place_text expander phy)
of_place expander phy he hp = pair (decimal expander) (decimal phy) (of_decimal expander he) (of_decimal phy hp)

of_blocks : (lba blocks : ℕ) → IsNumber lba → IsNumber blocks → IsLine (blocks_text lba blocks)
of_blocks lba blocks hl hb = pair (decimal lba) (decimal blocks) (of_decimal lba hl) (of_decimal blocks hb)

of_command : (f : CommandForm) → IsCommand f → IsLine (command_text f)
of_command form.Tur h = refl
of_command (form.Inquiry len) h = of_decimal len h
of_command form.Capacity h = refl
of_command (form.Read lba blocks) h = of_blocks lba blocks h.0 h.1
of_command (form.Write lba blocks fill) h = pair (blocks_text lba blocks) (byte_text fill) (of_blocks lba blocks h.0 h.1) (of_hex 1 fill)
of_command (form.Read16 lba blocks) h = of_blocks lba blocks h.0 h.1
of_command (form.Write16 lba blocks fill) h = pair (blocks_text lba blocks) (byte_text fill) (of_blocks lba blocks h.0 h.1) (of_hex 1 fill)
of_command (form.Raw cdb len) h = pair (encode_lower cdb) (decimal len) (of_encode cdb) (of_decimal len h.1)

of_input : (i : Input) → IsInput i → IsLine (input_line i)
of_input input.Start h = refl
of_input (input.Submit n address f) h = triple (decimal n) (address_text address) (command_text f) (of_decimal n h.0) (of_hex 8 address) (of_command f h.2)
of_input (input.Abort n) h = of_decimal n h
of_input (input.TargetReset address) h = of_hex 8 address
of_input input.Reset h = refl
of_input input.UnitReset h = refl
of_input (input.Plug address expander phy) h = pair (address_text address) (place_text expander phy) (of_hex 8 address) (of_place expander phy h.1 h.2)
of_input (input.Unplug address) h = of_hex 8 address

of_choice : (c : Choice) → IsChoice c → IsLine (choice_line c)
of_choice (choice.HostTakeOn queue) h = of_decimal queue h
of_choice (choice.IocPutOn queue) h = of_decimal queue h
of_choice (choice.FabricRun tag) h = of_decimal tag h
of_choice _ h = refl

-- ---- items

of_cause : (c : Refusal) → IsLine (cause_text c)
of_cause refusal.NumberUsed = refl
of_cause refusal.NotOperational = refl
of_cause refusal.NoDevice = refl
of_cause refusal.BadLength = refl
of_cause refusal.NoIdentifier = refl
of_cause refusal.NotOpen = refl
of_cause refusal.AbortOpen = refl
of_cause refusal.AlreadyStarted = refl
of_cause refusal.NotStarted = refl
of_cause refusal.AlreadyResetting = refl
of_cause refusal.Occupied = refl
of_cause refusal.AlreadyPlugged = refl
of_cause refusal.PlugsSpent = refl
of_cause refusal.NotPlugged = refl

of_result : (r : ScsiResult) → IsResult r → IsLine (result_text r)
of_result r h = triple (byte_text r.status) (bytes_text r.payload) (bytes_text r.sense) (of_hex 1 r.status) (of_bytes r.payload h.1) (of_bytes r.sense h.2)

of_outcome : (o : Outcome) → IsOutcome o → IsLine (outcome_text o)
of_outcome (outcome.Done r) h = of_result r h
of_outcome outcome.Gone h = refl
of_outcome outcome.Terminated h = refl
of_outcome outcome.Reset h = refl

of_task : (c : Command) → IsTask c → IsLine (task_text c)
of_task c h = four (hex_number 8 c.lun) (bytes_text c.cdb) (decimal c.len) (bytes_text c.payload) (of_hex 8 c.lun) (of_bytes c.cdb h.1) (of_decimal c.len h.2) (of_bytes c.payload h.3)

of_plug : (address plug expander phy : ℕ) → (address < 256 ^ 8) × IsNumber plug × IsNumber expander × IsNumber phy → IsLine (plug_text address plug expander phy)
of_plug address plug expander phy h = triple (address_text address) (decimal plug) (place_text expander phy) (of_hex 8 address) (of_decimal plug h.1) (of_place expander phy h.2 h.3)

of_down : (d : Down) → IsDown d → IsLine (down_text d)
of_down (down.Write reg value) h = pair (hex_number 2 reg) (hex_number 4 value) (of_hex 2 reg) (of_hex 4 value)
of_down (down.Read reg) h = of_hex 2 reg
of_down (down.Post descriptor frame payload) h = triple (descriptor_text descriptor) (encode_lower frame) (bytes_text payload) (of_descriptor descriptor) (of_encode frame) (of_bytes payload h.2)
of_down (down.Return address index) h = pair (hex_number 4 address) (hex_number 2 index) (of_hex 4 address) (of_hex 2 index)
of_down down.Stop h = refl

of_up : (u : Up) → IsUp u → IsLine (up_text u)
of_up (up.Value value) h = of_hex 4 value
of_up (up.Reply descriptor frame page sense) h = four (descriptor_text descriptor) (frame_text frame) (bytes_text page) (bytes_text sense) (of_descriptor descriptor) (of_frame frame) (of_bytes page h.2) (of_bytes sense h.3)
of_up (up.Mark generation) h = of_decimal generation h
of_up up.Calm h = refl

of_out : (o : Out) → IsOut o → IsLine (out_text o)
of_out (out.Task tag address c) h = triple (decimal tag) (address_text address) (task_text c) (of_decimal tag h.0) (of_hex 8 address) (of_task c h.2)
of_out (out.Abort smid task) h = pair (decimal smid) (decimal task) (of_decimal smid h.0) (of_decimal task h.1)
of_out (out.TargetReset smid address) h = pair (decimal smid) (address_text address) (of_decimal smid h.0) (of_hex 8 address)
of_out out.Discover h = refl
of_out (out.Link generation) h = of_decimal generation h
of_out out.Stop h = refl

of_back : (b : Back) → IsBack b → IsLine (back_text b)
of_back (back.Result tag r) h = pair (decimal tag) (result_text r) (of_decimal tag h.0) (of_result r h.1)
of_back (back.Gone tag) h = of_decimal tag h
of_back (back.Terminated tag) h = of_decimal tag h
of_back (back.Aborted smid true) h = joined (decimal smid) (codes " 1") (of_decimal smid h) refl
of_back (back.Aborted smid false) h = joined (decimal smid) (codes " 0") (of_decimal smid h) refl
of_back (back.Cleared smid count) h = pair (decimal smid) (decimal count) (of_decimal smid h.0) (of_decimal count h.1)
of_back (back.Plugged address plug expander phy) h = of_plug address plug expander phy h
of_back (back.Unplugged address plug expander phy) h = of_plug address plug expander phy h
of_back back.Discovered h = refl
of_back (back.Linked generation) h = of_decimal generation h
of_back back.Calm h = refl

of_ask : (a : Ask) → IsAsk a → IsLine (ask_text a)
of_ask (ask.Line i) h = of_input i h
of_ask ask.Bye h = refl

of_answer : (n : ℕ) (o : Outcome) → IsNumber n → IsOutcome o → IsLine (answer_text n o)
of_answer n o hn ho = pair (decimal n) (outcome_text o) (of_decimal n hn) (of_outcome o ho)

of_refused : (n : ℕ) (c : Refusal) → IsNumber n → IsLine (decimal n ++ space ++ cause_text c)
of_refused n c h = pair (decimal n) (cause_text c) (of_decimal n h) (of_cause c)

of_tell : (t : Tell) → IsTell t → IsLine (tell_text t)
of_tell (tell.Answer n o) h = of_answer n o h.0 h.1
of_tell (tell.RefuseSubmit n c) h = of_refused n c h

of_item : (i : Item) → IsItem i → IsLine (item_text i)
of_item (item.Down i) h = of_down i h
of_item (item.Up i) h = of_up i h
of_item (item.Out i) h = of_out i h
of_item (item.Back i) h = of_back i h
of_item (item.Ask i) h = of_ask i h
of_item (item.Tell i) h = of_tell i h

of_lane : (l : LaneName) → IsLane l → IsLine (lane_text l)
of_lane (lane.UpOn queue) h = of_decimal queue h
of_lane (lane.Ask i) h = of_decimal i h
of_lane (lane.Tell i) h = of_decimal i h
of_lane lane.Down h = refl
of_lane lane.Up h = refl
of_lane lane.Out h = refl
of_lane lane.Back h = refl

-- ---- entries

of_abort : (o : AbortOutcome) → IsLine (abort_text o)
of_abort abort.Stopped = refl
of_abort abort.NotFound = refl
of_abort abort.Reset = refl

of_target : (o : TargetOutcome) → IsTargetOutcome o → IsLine (target_text o)
of_target (target.Done count) h = of_decimal count h
of_target target.Reset h = refl

of_call : (k : RefusedCall) → IsCall k → IsLine (call_text k)
of_call call.Start h = refl
of_call call.Reset h = refl
of_call call.UnitReset h = refl
of_call (call.Abort n) h = of_decimal n h
of_call (call.TargetReset address) h = of_hex 8 address
of_call (call.Plug address) h = of_hex 8 address
of_call (call.Unplug address) h = of_hex 8 address

pub of_entry : (e : Entry) → IsEntry e → IsLine (words_of_entry e)
of_entry (entry.Given i) h = of_input i h
of_entry (entry.Idle c) h = of_choice c h
of_entry (entry.Put l i) h = pair (lane_text l) (item_text i) (of_lane l h.1) (of_item i h.2)
of_entry (entry.Take l i) h = pair (lane_text l) (item_text i) (of_lane l h.1) (of_item i h.2)
of_entry (entry.Bind handle address plug) h = triple (handle_text handle) (address_text address) (decimal plug) (of_hex 2 handle) (of_hex 8 address) (of_decimal plug h.2)
of_entry (entry.Unbind handle) h = of_hex 2 handle
of_entry entry.UnbindAll h = refl
of_entry (entry.Run address tag) h = pair (address_text address) (decimal tag) (of_hex 8 address) (of_decimal tag h.1)
of_entry entry.HostUp h = refl
of_entry (entry.Ready address handle) h = pair (address_text address) (handle_text handle) (of_hex 8 address) (of_hex 2 handle)
of_entry (entry.Lost address handle) h = pair (address_text address) (handle_text handle) (of_hex 8 address) (of_hex 2 handle)
of_entry (entry.Accept n address smid) h = triple (decimal n) (address_text address) (decimal smid) (of_decimal n h.0) (of_hex 8 address) (of_decimal smid h.2)
of_entry (entry.RefuseSubmit n c) h = of_refused n c h
of_entry (entry.Refuse k c) h = pair (call_text k) (cause_text c) (of_call k h) (of_cause c)
of_entry (entry.Answer n o) h = of_answer n o h.0 h.1
of_entry (entry.AbortEnd n o) h = pair (decimal n) (abort_text o) (of_decimal n h) (of_abort o)
of_entry (entry.TargetEnd address o) h = pair (address_text address) (target_text o) (of_hex 8 address) (of_target o h.1)
of_entry entry.ResetDone h = refl
