-- Items are read back.
use Rattle.std.proofs.Common.{◌≡◌, ℕ, ◌^◌, ◌<◌, true, false, Some, option_map, List, [], ◌∷◌, ◌++◌, length, codes, decimal, refl, ap, ◌∙◌, arith}
use Rattle.std.proofs.lemmas.Fmt.{decimal_is_IsNumeral}
use Rattle.hex.specs.Hex.{encode_lower}
use Rattle.mpt_text.specs.Words.{bytes_text, hex_number}
use Rattle.scsi_disk.specs.declared.command.Command.{Command}
use Rattle.scsi_disk.specs.declared.scsi_result.ScsiResult.{ScsiResult}
use Rattle.mpt_trace.specs.declared.lane.LaneName.{LaneName}
use Rattle.mpt_trace.specs.declared.lane.LaneName.TheVariants as lane
use Rattle.mpt_trace.specs.declared.item.Down.{Down}
use Rattle.mpt_trace.specs.declared.item.Down.TheVariants as down
use Rattle.mpt_trace.specs.declared.item.Up.{Up}
use Rattle.mpt_trace.specs.declared.item.Up.TheVariants as up
use Rattle.mpt_trace.specs.declared.item.Out.{Out}
use Rattle.mpt_trace.specs.declared.item.Out.TheVariants as out
use Rattle.mpt_trace.specs.declared.item.Back.{Back}
use Rattle.mpt_trace.specs.declared.item.Back.TheVariants as back
use Rattle.mpt_trace.specs.declared.item.Ask.{Ask}
use Rattle.mpt_trace.specs.declared.item.Ask.TheVariants as ask
use Rattle.mpt_trace.specs.declared.item.Tell.{Tell}
use Rattle.mpt_trace.specs.declared.item.Tell.TheVariants as tell
use Rattle.mpt_trace.specs.declared.item.Item.{Item}
use Rattle.mpt_trace.specs.declared.item.Item.TheVariants as item
use Rattle.mpt_trace.specs.declared.outcome.Outcome.{Outcome}
use Rattle.mpt_trace.specs.declared.outcome.Outcome.TheVariants as outcome
use Rattle.mpt_trace.specs.declared.refusal.Refusal.{Refusal}
use Rattle.mpt_trace.specs.declared.refusal.Refusal.TheVariants as refusal
use Rattle.mpt_trace.specs.declared.input.Input.TheVariants as input
use Rattle.mpt_trace.specs.Numbers.{address_text, byte_text, descriptor_text, place_text}
use Rattle.mpt_trace.specs.Items.{ask_text, back_text, cause_text, down_text, frame_text, item_text, lane_text, out_text, outcome_text, result_text, task_text, tell_text, up_text}
use Rattle.mpt_trace.specs.Reading.{IsNumber, number, onto, words}
use Rattle.mpt_trace.specs.ReadingItems.{IsAsk, IsBack, IsDown, IsItem, IsLane, IsOfLane, IsOut, IsOutcome, IsResult, IsTask, IsTell, IsUp, answer_in, ask_in, asked_in, back_in, cause_in, down_in, moved_in, out_in, outcome_in, refused_in, result_in, task_in, tell_in, told_in, up_in, up_lane}
use Rattle.mpt_trace.proofs.WordsRead.{bytes_back, descriptor_back, digits_back, first, frame_back, hex_back, last, number-decimal, pair, split, three, triple, two, word-bytes, word-decimal, word-descriptor, word-encode, word-frame, word-hex}
use Rattle.mpt_trace.proofs.ReadSchedule.{input_back}

pub cause_back : (c : Refusal) → cause_in (words (cause_text c)) ≡ Some c
cause_back refusal.NumberUsed = refl
cause_back refusal.NotOperational = refl
cause_back refusal.NoDevice = refl
cause_back refusal.BadLength = refl
cause_back refusal.NoIdentifier = refl
cause_back refusal.NotOpen = refl
cause_back refusal.AbortOpen = refl
cause_back refusal.AlreadyStarted = refl
cause_back refusal.NotStarted = refl
cause_back refusal.AlreadyResetting = refl
cause_back refusal.Occupied = refl
cause_back refusal.AlreadyPlugged = refl
cause_back refusal.PlugsSpent = refl
cause_back refusal.NotPlugged = refl

-- the three words of a result
pub result_words : (r : ScsiResult) → IsResult r → words (result_text r) ≡ byte_text r.status ∷ bytes_text r.payload ∷ bytes_text r.sense ∷ []
result_words r h = triple (byte_text r.status) (bytes_text r.payload) (bytes_text r.sense) (word-hex 1 r.status) (word-bytes r.payload h.1) (word-bytes r.sense h.2)

pub result_back : (r : ScsiResult) → IsResult r → result_in (byte_text r.status) (bytes_text r.payload) (bytes_text r.sense) ≡ r
result_back r h = rw (hex_back 1 r.status h.0, bytes_back r.payload h.1, bytes_back r.sense h.2) refl

pub outcome_back : (o : Outcome) → IsOutcome o → outcome_in (words (outcome_text o)) ≡ Some o
outcome_back (outcome.Done r) h = ap (λ ws. outcome_in (codes "done" ∷ ws)) (result_words r h) ∙ ap (λ r. Some (outcome.Done r)) (result_back r h)
outcome_back outcome.Gone h = refl
outcome_back outcome.Terminated h = refl
outcome_back outcome.Reset h = refl

-- the words of a task's command
task_words : (c : Command) → IsTask c → words (task_text c) ≡ hex_number 8 c.lun ∷ bytes_text c.cdb ∷ decimal c.len ∷ bytes_text c.payload ∷ []
task_words c h =
    three (hex_number 8 c.lun) (bytes_text c.cdb) (decimal c.len) (bytes_text c.payload) (word-hex 8 c.lun) (word-bytes c.cdb h.1) (word-decimal c.len h.2)
    ∙ ap (λ ws. hex_number 8 c.lun ∷ bytes_text c.cdb ∷ decimal c.len ∷ ws) (last (bytes_text c.payload) (word-bytes c.payload h.3))

task_back : (c : Command) → IsTask c → task_in (hex_number 8 c.lun) (bytes_text c.cdb) (decimal c.len) (bytes_text c.payload) ≡ c
task_back c h = rw (hex_back 8 c.lun h.0, bytes_back c.cdb h.1, number-decimal c.len h.2, bytes_back c.payload h.3) refl

pub down_back : (d : Down) → IsDown d → down_in (words (down_text d)) ≡ Some d
down_back (down.Write reg value) h =
    ap (λ ws. down_in (codes "write" ∷ ws)) (pair (hex_number 2 reg) (hex_number 4 value) (word-hex 2 reg) (word-hex 4 value))
    ∙ rw (hex_back 2 reg h.0, hex_back 4 value h.1) refl
down_back (down.Read reg) h = ap (λ ws. down_in (codes "read" ∷ ws)) (last (hex_number 2 reg) (word-hex 2 reg)) ∙ ap (λ n. Some (down.Read n)) (hex_back 2 reg h)
down_back (down.Post descriptor frame payload) h =
    ap (λ ws. down_in (codes "post" ∷ ws)) (triple (descriptor_text descriptor) (encode_lower frame) (bytes_text payload) (word-descriptor descriptor) (word-encode frame) (word-bytes payload h.2))
    ∙ rw (descriptor_back descriptor h.0, digits_back frame h.1, bytes_back payload h.2) refl
down_back (down.Return address index) h =
    ap (λ ws. down_in (codes "return" ∷ ws)) (pair (hex_number 4 address) (hex_number 2 index) (word-hex 4 address) (word-hex 2 index))
    ∙ rw (hex_back 4 address h.0, hex_back 2 index h.1) refl
down_back down.Stop h = refl

pub up_back : (u : Up) → IsUp u → up_in (words (up_text u)) ≡ Some u
up_back (up.Value value) h = ap (λ ws. up_in (codes "value" ∷ ws)) (last (hex_number 4 value) (word-hex 4 value)) ∙ ap (λ n. Some (up.Value n)) (hex_back 4 value h)
up_back (up.Reply descriptor frame page sense) h =
    ap (λ ws. up_in (codes "reply" ∷ ws)) (three (descriptor_text descriptor) (frame_text frame) (bytes_text page) (bytes_text sense) (word-descriptor descriptor) (word-frame frame) (word-bytes page h.2) ∙ ap (λ ws. descriptor_text descriptor ∷ frame_text frame ∷ bytes_text page ∷ ws) (last (bytes_text sense) (word-bytes sense h.3)))
    ∙ rw (descriptor_back descriptor h.0, frame_back frame h.1, bytes_back page h.2, bytes_back sense h.3) refl
up_back (up.Mark generation) h = ap (λ ws. up_in (codes "mark" ∷ ws)) (last (decimal generation) (word-decimal generation h)) ∙ ap (λ n. Some (up.Mark n)) (number-decimal generation h)
up_back up.Calm h = refl

pub out_back : (o : Out) → IsOut o → out_in (words (out_text o)) ≡ Some o
out_back (out.Task tag address c) h =
    ap (λ ws. out_in (codes "task" ∷ ws)) (two (decimal tag) (address_text address) (task_text c) (word-decimal tag h.0) (word-hex 8 address) ∙ ap (λ ws. decimal tag ∷ address_text address ∷ ws) (task_words c h.2))
    ∙ rw (number-decimal tag h.0, hex_back 8 address h.1) (ap (λ c. Some (out.Task tag address c)) (task_back c h.2))
out_back (out.Abort smid task) h =
    ap (λ ws. out_in (codes "abort" ∷ ws)) (pair (decimal smid) (decimal task) (word-decimal smid h.0) (word-decimal task h.1))
    ∙ rw (number-decimal smid h.0, number-decimal task h.1) refl
out_back (out.TargetReset smid address) h =
    ap (λ ws. out_in (codes "treset" ∷ ws)) (pair (decimal smid) (address_text address) (word-decimal smid h.0) (word-hex 8 address))
    ∙ rw (number-decimal smid h.0, hex_back 8 address h.1) refl
out_back out.Discover h = refl
out_back (out.Link generation) h = ap (λ ws. out_in (codes "link" ∷ ws)) (last (decimal generation) (word-decimal generation h)) ∙ ap (λ n. Some (out.Link n)) (number-decimal generation h)
out_back out.Stop h = refl

-- the words of a plug
plug_words : (address plug expander phy : ℕ) → (address < 256 ^ 8) × IsNumber plug × IsNumber expander × IsNumber phy → words (address_text address ++ codes " " ++ decimal plug ++ codes " " ++ place_text expander phy) ≡ address_text address ∷ decimal plug ∷ decimal expander ∷ decimal phy ∷ []
plug_words address plug expander phy h =
    two (address_text address) (decimal plug) (place_text expander phy) (word-hex 8 address) (word-decimal plug h.1)
    ∙ ap (λ ws. address_text address ∷ decimal plug ∷ ws) (pair (decimal expander) (decimal phy) (word-decimal expander h.2) (word-decimal phy h.3))

pub back_back : (b : Back) → IsBack b → back_in (words (back_text b)) ≡ Some b
back_back (back.Result tag r) h =
    ap (λ ws. back_in (codes "result" ∷ ws)) (first (decimal tag) (result_text r) (word-decimal tag h.0) ∙ ap (λ ws. decimal tag ∷ ws) (result_words r h.1))
    ∙ rw (number-decimal tag h.0) (ap (λ r. Some (back.Result tag r)) (result_back r h.1))
back_back (back.Gone tag) h = ap (λ ws. back_in (codes "gone" ∷ ws)) (last (decimal tag) (word-decimal tag h)) ∙ ap (λ n. Some (back.Gone n)) (number-decimal tag h)
back_back (back.Terminated tag) h = ap (λ ws. back_in (codes "terminated" ∷ ws)) (last (decimal tag) (word-decimal tag h)) ∙ ap (λ n. Some (back.Terminated n)) (number-decimal tag h)
back_back (back.Aborted smid true) h = ap (λ ws. back_in (codes "aborted" ∷ ws)) (split 32 (decimal smid) (codes "1") refl (word-decimal smid h)) ∙ ap (λ n. Some (back.Aborted n true)) (number-decimal smid h)
back_back (back.Aborted smid false) h = ap (λ ws. back_in (codes "aborted" ∷ ws)) (split 32 (decimal smid) (codes "0") refl (word-decimal smid h)) ∙ ap (λ n. Some (back.Aborted n false)) (number-decimal smid h)
back_back (back.Cleared smid count) h =
    ap (λ ws. back_in (codes "cleared" ∷ ws)) (pair (decimal smid) (decimal count) (word-decimal smid h.0) (word-decimal count h.1))
    ∙ rw (number-decimal smid h.0, number-decimal count h.1) refl
back_back (back.Plugged address plug expander phy) h =
    ap (λ ws. back_in (codes "plugged" ∷ ws)) (plug_words address plug expander phy h)
    ∙ rw (hex_back 8 address h.0, number-decimal plug h.1, number-decimal expander h.2, number-decimal phy h.3) refl
back_back (back.Unplugged address plug expander phy) h =
    ap (λ ws. back_in (codes "unplugged" ∷ ws)) (plug_words address plug expander phy h)
    ∙ rw (hex_back 8 address h.0, number-decimal plug h.1, number-decimal expander h.2, number-decimal phy h.3) refl
back_back back.Discovered h = refl
back_back (back.Linked generation) h = ap (λ ws. back_in (codes "linked" ∷ ws)) (last (decimal generation) (word-decimal generation h)) ∙ ap (λ n. Some (back.Linked n)) (number-decimal generation h)
back_back back.Calm h = refl

pub ask_back : (a : Ask) → IsAsk a → ask_in (words (ask_text a)) ≡ Some a
ask_back (ask.Line input.Start) h = refl
ask_back (ask.Line (input.Submit n address f)) h = ap (option_map ask.Line) (input_back (input.Submit n address f) h)
ask_back (ask.Line (input.Abort n)) h = ap (option_map ask.Line) (input_back (input.Abort n) h)
ask_back (ask.Line (input.TargetReset address)) h = ap (option_map ask.Line) (input_back (input.TargetReset address) h)
ask_back (ask.Line input.Reset) h = refl
ask_back (ask.Line input.UnitReset) h = refl
ask_back (ask.Line (input.Plug address expander phy)) h = ap (option_map ask.Line) (input_back (input.Plug address expander phy) h)
ask_back (ask.Line (input.Unplug address)) h = ap (option_map ask.Line) (input_back (input.Unplug address) h)
ask_back ask.Bye h = refl

pub answer_back : (n : ℕ) (o : Outcome) → IsNumber n → IsOutcome o → answer_in (words (decimal n ++ codes " " ++ outcome_text o)) ≡ Some (n, o)
answer_back n o hn ho =
    ap answer_in (first (decimal n) (outcome_text o) (word-decimal n hn))
    ∙ ap (option_map (λ o. (number (decimal n), o))) (outcome_back o ho)
    ∙ ap (λ (k : ℕ). Some (k, o)) (number-decimal n hn)

pub refused_back : (n : ℕ) (c : Refusal) → IsNumber n → refused_in (words (decimal n ++ codes " " ++ cause_text c)) ≡ Some (n, c)
refused_back n c hn =
    ap refused_in (first (decimal n) (cause_text c) (word-decimal n hn))
    ∙ ap (option_map (λ c. (number (decimal n), c))) (cause_back c)
    ∙ ap (λ (k : ℕ). Some (k, c)) (number-decimal n hn)

pub tell_back : (t : Tell) → IsTell t → tell_in (words (tell_text t)) ≡ Some t
tell_back (tell.Answer n o) h = ap (option_map (λ (p : ℕ × Outcome). tell.Answer p.0 p.1)) (answer_back n o h.0 h.1)
tell_back (tell.RefuseSubmit n c) h = ap (option_map (λ (p : ℕ × Refusal). tell.RefuseSubmit p.0 p.1)) (refused_back n c h)

-- a lane's number is not empty
up_lane_numbered : (ds : List ℕ) → 0 < length ds → up_lane ds ≡ lane.UpOn (number ds)
up_lane_numbered [] h = absurd (omega arith)
up_lane_numbered (d ∷ ds) h = refl

up_lane_back : (q : ℕ) → IsNumber q → up_lane (decimal q) ≡ lane.UpOn q
up_lane_back q h = up_lane_numbered (decimal q) (decimal_is_IsNumeral q h).0.0 ∙ ap lane.UpOn (number-decimal q h)

pub moved_back : (l : LaneName) (i : Item) → IsOfLane l i → IsLane l → IsItem i → moved_in (words (lane_text l ++ codes " " ++ item_text i)) ≡ Some (l, i)
moved_back lane.Down (item.Down d) k hl hi = ap (option_map (λ i. (lane.Down, item.Down i))) (down_back d hi)
moved_back lane.Up (item.Up u) k hl hi = ap (option_map (λ i. (lane.Up, item.Up i))) (up_back u hi)
moved_back (lane.UpOn q) (item.Up u) k hl hi =
    ap (λ ws. moved_in (onto 117 (onto 112 ws))) (first (decimal q) (up_text u) (word-decimal q hl))
    ∙ ap (option_map (λ i. (up_lane (decimal q), item.Up i))) (up_back u hi)
    ∙ ap (λ (l : LaneName). Some (l, item.Up u)) (up_lane_back q hl)
moved_back lane.Out (item.Out o) k hl hi = ap (option_map (λ i. (lane.Out, item.Out i))) (out_back o hi)
moved_back lane.Back (item.Back b) k hl hi = ap (option_map (λ i. (lane.Back, item.Back i))) (back_back b hi)
moved_back (lane.Ask n) (item.Ask a) k hl hi =
    ap asked_in (first (decimal n) (ask_text a) (word-decimal n hl))
    ∙ ap (option_map (λ a. (lane.Ask (number (decimal n)), item.Ask a))) (ask_back a hi)
    ∙ ap (λ (k : ℕ). Some (lane.Ask k, item.Ask a)) (number-decimal n hl)
moved_back (lane.Tell n) (item.Tell t) k hl hi =
    ap told_in (first (decimal n) (tell_text t) (word-decimal n hl))
    ∙ ap (option_map (λ t. (lane.Tell (number (decimal n)), item.Tell t))) (tell_back t hi)
    ∙ ap (λ (k : ℕ). Some (lane.Tell k, item.Tell t)) (number-decimal n hl)
moved_back l i k hl hi = absurd k
