-- No reply that comes up is strange: it is the controller's answer to the record of its identifier, or an event.
use Rattle.std.proofs.Common.{◌≡◌, ℕ, zero, suc, ◌≤◌, ◌==◌, ◌&&◌, ◌||◌, ◌⊎◌, inl, inr, nat_le, nat_lt, not, Bool, true, false, if◌then◌else◌, List, [], ◌∷◌, All, length, Option, Some, None, refl, ap, sym, ◌∙◌, subst, arith}
use Rattle.std.specs.FinMap as finmap
use Rattle.std.proofs.lemmas.Bool.{le-leb}
use Rattle.std.proofs.lemmas.List.Elements.{All-head}
use Rattle.scsi_disk.specs.declared.command.Command.{Command}
use Rattle.scsi_disk.specs.declared.scsi_result.ScsiResult.{ScsiResult}
use Rattle.scsi_disk.specs.declared.scsi_result.TheConstants.{GOOD}
use Rattle.smid_pool.specs.Class.{IsIn}
use Rattle.smid_pool.specs.Pool.{Slot, Free, Open, Parked, is_open, record_of, slot_of}
use Rattle.smid_pool.specs.declared.class.Class.TheVariants as class
use Rattle.mpi_layout.specs.Rows.{field}
use Rattle.mpt_messages.specs.IocFrames.{reply_frame}
use Rattle.mpt_messages.specs.declared.ioc_reply.IocReply.TheVariants as reply
use Rattle.mpt_trace.specs.declared.item.Up.{Up}
use Rattle.mpt_trace.specs.declared.item.Up.TheVariants as up
use Rattle.mpt_wire.specs.Machine.State.{OpenRequest}
use Rattle.mpt_wire.specs.Messages.Fields.{address_flags, flags_in, smid_in, success_flags}
use Rattle.mpt_rules.specs.declared.request.Request.{Request}
use Rattle.mpt_rules.specs.declared.request.Request.TheVariants as request
use Rattle.mpt_rules.specs.declared.said.Said.{Said}
use Rattle.mpt_rules.specs.declared.said.Said.TheVariants as said
use Rattle.mpt_rules.specs.declared.why.Why.{Why}
use Rattle.mpt_rules.specs.declared.why.Why.TheVariants as why
use Rattle.mpt_rules.specs.Host.Parts.{Cmd}
use Rattle.mpt_rules.specs.Host.Replies.{reply_status, request_of}
use Rattle.mpt_rules.specs.Host.Strange.{bad_answer, bad_descriptor, bad_frame, bad_status, is_address, is_scsi_smid, is_success, not_absent, not_absent_in, not_open, not_returned, status_by, why_reply, wrong_queue_of_reply}
use Rattle.mpt_rules.specs.Ioc.Commands.{moved_by, result_status, written_by}
use Rattle.mpt_rules.specs.World.Lines.{said_of, up_line}
use Rattle.mpt_rules.specs.World.State.{World, up_on}
use Rattle.law_facts.specs.Facts.{Facts}
use Rattle.law_facts.specs.Flights.{RecordStands}
use Rattle.law_facts.specs.History.{History}
use Rattle.law_facts.specs.Messages.{AnswersBy, AnswersCommand, IsEnded, IsEvent, SaidIs, TellsOutcome, event_like}
use Rattle.law_facts.specs.Words.{others, slot}
use Rattle.law_moves.proofs.Counted.{others-nil}
use Rattle.law_says.specs.Premises.{DescriptorsStand, has_its_flags}
use Rattle.law_says.proofs.Events.{events_say}
use Rattle.law_says.proofs.Frames.{Answers, abort_answers, ack_answers, enabled_answers, event_answers, gone_answers, leave_answers, moved_answers, notified_answers, page_answers, removed_answers, target_answers, terminated_answers}
use Rattle.law_says.proofs.Fronts.{line_behind, line_front, no_why, none_first}
use Rattle.law_says.proofs.Returned.{returned}
use Rattle.law_says.proofs.Slots.{recorded}
use Rattle.law_says.proofs.Sums.{first_passes, sum_at}

-- ---- the eight whys

record HasNoWhy (w : World) (queue d : ℕ) (frame : Option (List ℕ)) (page : List ℕ) : Type 0 where
  queue_right : wrong_queue_of_reply queue d ≡ None
  descriptor : bad_descriptor d frame ≡ None
  returned_before : not_returned w.host d frame ≡ None
  bytes : bad_frame frame ≡ None
  opened : not_open w.host (smid_in d) ≡ None
  answer : bad_answer (request_of w.host (smid_in d)) frame page ≡ None
  status : bad_status (request_of w.host (smid_in d)) (status_by frame) ≡ None
  absent : not_absent w.host (smid_in d) frame ≡ None

none_of_them : (w : World) (queue d : ℕ) (frame : Option (List ℕ)) (page : List ℕ) → HasNoWhy w queue d frame page → why_reply w.host queue d frame page ≡ None
none_of_them w queue d frame page n =
    let s : ℕ = smid_in d in let r : Option Request = request_of w.host s in
    let seventh : List (Option Why) = not_absent w.host s frame ∷ [] in
    let sixth : List (Option Why) = bad_status r (status_by frame) ∷ seventh in
    let fifth : List (Option Why) = bad_answer r frame page ∷ sixth in
    let fourth : List (Option Why) = not_open w.host s ∷ fifth in
    let third : List (Option Why) = bad_frame frame ∷ fourth in
    let second : List (Option Why) = not_returned w.host d frame ∷ third in
    let first : List (Option Why) = bad_descriptor d frame ∷ second in
    none_first (wrong_queue_of_reply queue d) first n.queue_right
    (none_first (bad_descriptor d frame) second n.descriptor
    (none_first (not_returned w.host d frame) third n.returned_before
    (none_first (bad_frame frame) fourth n.bytes
    (none_first (not_open w.host s) fifth n.opened
    (none_first (bad_answer r frame page) sixth n.answer
    (none_first (bad_status r (status_by frame)) seventh n.status
    (none_first (not_absent w.host s frame) [] n.absent refl)))))))

-- ---- a command's identifier

scsi_smid : (s : ℕ) → IsIn class.ScsiIo s → is_scsi_smid s ≡ true
scsi_smid s i = both (nat_le 1 s) (nat_le s 256) (le-leb 1 s (let a = i.0 in omega (arith, a))) (le-leb s 256 i.1)
  where
    both : (a b : Bool) → a ≡ true → b ≡ true → (a && b) ≡ true
    both true true x y = refl
    both true false x y = absurd (cc)
    both false b x y = absurd (cc)

-- on queue 0 any reply is right, and on any queue a command's
right_on_zero : (queue d : ℕ) → queue ≡ 0 → wrong_queue_of_reply queue d ≡ None
right_on_zero queue d e = ap (λ q. wrong_queue_of_reply q d) e

right_of_command : (queue d : ℕ) → is_scsi_smid (smid_in d) ≡ true → wrong_queue_of_reply queue d ≡ None
right_of_command queue d e = no_why (nat_lt 0 queue && not (is_scsi_smid (smid_in d))) (why.WrongQueue queue) (ap (λ b. nat_lt 0 queue && not b) e ∙ never (nat_lt 0 queue))
  where
    never : (b : Bool) → (b && false) ≡ false
    never true = refl
    never false = refl

-- ---- the descriptors

framed_descriptor : (d : ℕ) (bytes : List ℕ) → (flags_in d == address_flags) ≡ true → bad_descriptor d (Some bytes) ≡ None
framed_descriptor d bytes e = no_why (not (is_success d (Some bytes) || is_address d (Some bytes))) why.BadDescriptor (ap (λ b. not (is_success d (Some bytes) || (b && true))) e ∙ either (is_success d (Some bytes)))
  where
    either : (a : Bool) → not (a || true) ≡ false
    either true = refl
    either false = refl

plain_descriptor : (d : ℕ) → (flags_in d == success_flags) ≡ true → is_scsi_smid (smid_in d) ≡ true → bad_descriptor d None ≡ None
plain_descriptor d e s = no_why (not (is_success d None || is_address d None)) why.BadDescriptor (both (flags_in d == success_flags) (is_scsi_smid (smid_in d)) e s)
  where
    both : (a b : Bool) → a ≡ true → b ≡ true → not ((a && (true && b)) || is_address d None) ≡ false
    both true true x y = refl
    both true false x y = absurd (cc)
    both false b x y = absurd (cc)

open_by : (w : World) (s : ℕ) (r : Request) → slot w.host s ≡ Open r → not_open w.host s ≡ None
open_by w s r e = no_why (not (s == 0) && not (is_open (slot_of w.host.pool s))) (why.NotOpen s) (ap (λ x. not (s == 0) && not (is_open x)) e ∙ never (not (s == 0)))
  where
    never : (b : Bool) → (b && false) ≡ false
    never true = refl
    never false = refl

request_by : (w : World) (s : ℕ) (r : Request) → slot w.host s ≡ Open r → request_of w.host s ≡ Some r
request_by w s r e = ap record_of e

module _ (w : World) (h : History) (f : Facts w h) (stands : DescriptorsStand w) (queue d : ℕ) (frame : Option (List ℕ)) (page sense : List ℕ) (rest : List Up) (front : up_on w queue ≡ up.Reply d frame page sense ∷ rest) where
  flags_right : has_its_flags (up.Reply d frame page sense) ≡ true
  flags_right =
      let n : others has_its_flags [] ≡ 0 = others-nil has_its_flags in
      let s = sum_at (others has_its_flags) [] n w.up queue in
      let o : others has_its_flags (up_on w queue) ≤ 0 = omega (arith, s, stands) in
      first_passes has_its_flags (up.Reply d frame page sense) rest (subst (λ xs. others has_its_flags xs ≤ 0) front o)

  said_right : SaidIs w h queue (said_of (up.Reply d frame page sense))
  said_right =
      All-head (SaidIs w h queue) (said_of (up.Reply d frame page sense)) (line_behind w queue rest)
      (subst (All (SaidIs w h queue)) (line_front w queue (up.Reply d frame page sense) rest front) (f.messages.said queue))

-- ---- a reply without a frame: a command's

module _ (w : World) (h : History) (f : Facts w h) (stands : DescriptorsStand w) (queue d : ℕ) (page sense : List ℕ) (rest : List Up) (front : up_on w queue ≡ up.Reply d None page sense ∷ rest) where
  succeeded : (s : ℕ) → smid_in d ≡ s → (r : Slot Request) → slot w.host s ≡ r → RecordStands w s r → AnswersBy w h queue s (said.Success s page sense) r → HasNoWhy w queue d None page
  succeeded s e (Open (request.Command n)) q st i =
      let own : slot w.host (smid_in d) ≡ Open (request.Command n) = ap (slot w.host) e ∙ q in
      let c : is_scsi_smid (smid_in d) ≡ true = ap is_scsi_smid e ∙ scsi_smid s st.0 in
      record {
        queue_right = right_of_command queue d c;
        descriptor = plain_descriptor d (flags_right w h f stands queue d None page sense rest front) c;
        returned_before = refl;
        bytes = refl;
        opened = open_by w (smid_in d) (request.Command n) own;
        answer = ap (λ o. bad_answer o None page) (request_by w (smid_in d) (request.Command n) own);
        status = ap (λ o. bad_status o (status_by None)) (request_by w (smid_in d) (request.Command n) own);
        absent = refl;
      }
  succeeded s e (Open (request.Abort n task)) q st i = absurd i
  succeeded s e (Open (request.TargetReset address)) q st i = absurd i
  succeeded s e (Open (request.Leave handle)) q st i = absurd i
  succeeded s e (Open (request.Page handle)) q st i = absurd i
  succeeded s e (Open (request.Remove handle)) q st i = absurd i
  succeeded s e (Open (request.Ack event context)) q st i = absurd i
  succeeded s e (Open request.Notification) q st i = absurd i
  succeeded s e (Open request.PortEnable) q st i = absurd i
  succeeded s e Free q st i = absurd i
  succeeded s e Parked q st i = absurd i

  plain_say : why_reply w.host queue d None page ≡ None
  plain_say =
      let s : ℕ = smid_in d in
      let i : AnswersBy w h queue s (said.Success s page sense) (slot w.host s) = said_right w h f stands queue d None page sense rest front in
      let st = recorded w h f s (AnswersBy w h queue s (said.Success s page sense)) (λ x. x) i in
      none_of_them w queue d None page (succeeded s refl (slot w.host s) refl st i)

-- ---- a reply with a frame

frame_said : Said → List ℕ
frame_said (said.Framed s frame page sense) = frame
frame_said item = []

module _ (w : World) (h : History) (f : Facts w h) (stands : DescriptorsStand w) (queue d : ℕ) (bytes page sense : List ℕ) (rest : List Up) (front : up_on w queue ≡ up.Reply d (Some bytes) page sense ∷ rest) where
  -- that answers what is asked
  answered : (r : Request) → slot w.host (smid_in d) ≡ Open r → wrong_queue_of_reply queue d ≡ None → not_absent w.host (smid_in d) (Some bytes) ≡ None → Answers (Some r) bytes page → HasNoWhy w queue d (Some bytes) page
  answered r own q n a =
      record {
        queue_right = q;
        descriptor = framed_descriptor d bytes (flags_right w h f stands queue d (Some bytes) page sense rest front);
        returned_before = returned w h f queue d bytes page sense rest front;
        bytes = a.bytes;
        opened = open_by w (smid_in d) r own;
        answer = ap (λ o. bad_answer o (Some bytes) page) (request_by w (smid_in d) r own) ∙ a.answer;
        status = ap (λ o. bad_status o (reply_status bytes)) (request_by w (smid_in d) r own) ∙ a.status;
        absent = n;
      }

  no_event : (k : ℕ) → smid_in d ≡ suc k → not_absent w.host (smid_in d) (Some bytes) ≡ None
  no_event k e = ap (λ b. if b then not_absent_in w.host bytes else None) (ap (λ n. n == 0) e ∙ apart k)
    where
      apart : (k : ℕ) → (suc k == 0) ≡ false
      apart k = grind arith

  -- a command's
  told : (n s handle : ℕ) (command : Command) (o : Option ScsiResult) → TellsOutcome s handle command o (said.Framed s bytes page sense) → Answers (Some (request.Command n)) bytes page
  unfolding frame_said
  told n s handle command None i = by_end i.2
    where
      by_end : IsEnded s handle Rattle.mpt_rules.specs.declared.status.TheConstants.IOC_STATUS_SCSI_DEVICE_NOT_THERE bytes ⊎ IsEnded s handle Rattle.mpt_rules.specs.declared.status.TheConstants.IOC_STATUS_SCSI_TASK_TERMINATED bytes → Answers (Some (request.Command n)) bytes page
      by_end (inl e) = subst (λ x. Answers (Some (request.Command n)) x page) (sym e) (gone_answers n handle s page)
      by_end (inr e) = subst (λ x. Answers (Some (request.Command n)) x page) (sym e) (terminated_answers n handle s page)
  told n s handle command (Some result) i = by_test (result.status == GOOD && moved == command.len) i
    where
      moved : ℕ
      moved = moved_by (written_by command) result

      by_test : (b : Bool) → said.Framed s bytes page sense ≡ (if b then said.Success s result.payload result.sense else said.Framed s (reply_frame (reply.Scsi handle s result.status (result_status moved command.len) moved (length result.sense))) result.payload result.sense)
          → Answers (Some (request.Command n)) bytes page
      by_test true e = absurd (cc)
      by_test false e =
          let q : bytes ≡ reply_frame (reply.Scsi handle s result.status (result_status moved command.len) moved (length result.sense)) = ap frame_said e in
          subst (λ x. Answers (Some (request.Command n)) x page) (sym q) (moved_answers n handle s result.status moved (length result.sense) (nat_lt moved command.len) page)

  told_of : (n s : ℕ) (c : Option Cmd) (r : Option OpenRequest) → AnswersCommand w h s n (said.Framed s bytes page sense) c r → Answers (Some (request.Command n)) bytes page
  told_of n s (Some c) (Some r) i = told n s c.handle r.command (h.machine.outcome n) i
  told_of n s (Some c) None i = absurd i
  told_of n s None r i = absurd i

  -- by the identifier's record
  framed : (k : ℕ) → smid_in d ≡ suc k → (r : Slot Request) → slot w.host (suc k) ≡ r → RecordStands w (suc k) r → AnswersBy w h queue (suc k) (said.Framed (suc k) bytes page sense) r → HasNoWhy w queue d (Some bytes) page
  framed k e (Open (request.Command n)) q st i =
      answered (request.Command n) (ap (slot w.host) e ∙ q) (right_of_command queue d (ap is_scsi_smid e ∙ scsi_smid (suc k) st.0)) (no_event k e)
      (told_of n (suc k) (finmap.get w.host.cmds n) (finmap.get h.machine.requests n) i.1)
  framed k e (Open (request.Abort n task)) q st i = answered (request.Abort n task) (ap (slot w.host) e ∙ q) (right_on_zero queue d i.0) (no_event k e) (abort_answers n task bytes page i.2.0)
  framed k e (Open (request.TargetReset address)) q st i = answered (request.TargetReset address) (ap (slot w.host) e ∙ q) (right_on_zero queue d i.0) (no_event k e) (target_answers address bytes page i.2.0)
  framed k e (Open (request.Leave handle)) q st i = answered (request.Leave handle) (ap (slot w.host) e ∙ q) (right_on_zero queue d i.0) (no_event k e) (leave_answers handle bytes page i.2.0)
  framed k e (Open (request.Page handle)) q st i = answered (request.Page handle) (ap (slot w.host) e ∙ q) (right_on_zero queue d i.0) (no_event k e) (page_answers handle bytes page i.2)
  framed k e (Open (request.Remove handle)) q st i = answered (request.Remove handle) (ap (slot w.host) e ∙ q) (right_on_zero queue d i.0) (no_event k e) (removed_answers handle bytes page i.2.0)
  framed k e (Open (request.Ack event context)) q st i = answered (request.Ack event context) (ap (slot w.host) e ∙ q) (right_on_zero queue d i.0) (no_event k e) (ack_answers event context bytes page i.2.0)
  framed k e (Open request.Notification) q st i = answered request.Notification (ap (slot w.host) e ∙ q) (right_on_zero queue d i.0) (no_event k e) (notified_answers bytes page i.2.0)
  framed k e (Open request.PortEnable) q st i = answered request.PortEnable (ap (slot w.host) e ∙ q) (right_on_zero queue d i.0) (no_event k e) (enabled_answers bytes page i.2.0)
  framed k e Free q st i = absurd i
  framed k e Parked q st i = absurd i

  -- an event
  event_fits : smid_in d ≡ 0 → (added : Bool) → queue ≡ 0 → Rattle.removal.specs.Handles.IsHandle (field bytes 0x28 2) → bytes ≡ event_like bytes added → HasNoWhy w queue d (Some bytes) page
  event_fits e added q i b =
      let a = event_answers bytes page added b in
      let own : request_of w.host (smid_in d) ≡ None = ap (request_of w.host) e in
      let line = ap (up_line w) (sym q) ∙ (line_front w queue (up.Reply d (Some bytes) page sense) rest front ∙ ap (λ s. said.Framed s bytes page sense ∷ line_behind w queue rest) e) in
      record {
        queue_right = right_on_zero queue d q;
        descriptor = framed_descriptor d bytes (flags_right w h f stands queue d (Some bytes) page sense rest front);
        returned_before = returned w h f queue d bytes page sense rest front;
        bytes = a.bytes;
        opened = ap (not_open w.host) e;
        answer = ap (λ o. bad_answer o (Some bytes) page) own ∙ a.answer;
        status = ap (λ o. bad_status o (reply_status bytes)) own ∙ a.status;
        absent = ap (λ s. not_absent w.host s (Some bytes)) e ∙ events_say w h f bytes page sense (line_behind w queue rest) line added i b;
      }

  event : smid_in d ≡ 0 → IsEvent queue bytes page sense → HasNoWhy w queue d (Some bytes) page
  event e i = by_change i.4
    where
      by_change : (bytes ≡ event_like bytes true) ⊎ (bytes ≡ event_like bytes false) → HasNoWhy w queue d (Some bytes) page
      by_change (inl b) = event_fits e true i.0 i.3 b
      by_change (inr b) = event_fits e false i.0 i.3 b

  framed_say : why_reply w.host queue d (Some bytes) page ≡ None
  framed_say = none_of_them w queue d (Some bytes) page (by_smid (smid_in d) refl (said_right w h f stands queue d (Some bytes) page sense rest front))
    where
      by_smid : (s : ℕ) → smid_in d ≡ s → SaidIs w h queue (said.Framed s bytes page sense) → HasNoWhy w queue d (Some bytes) page
      by_smid zero e i = event e i
      by_smid (suc k) e i = framed k e (slot w.host (suc k)) refl (recorded w h f (suc k) (AnswersBy w h queue (suc k) (said.Framed (suc k) bytes page sense)) (λ x. x) i) i

module _ (w : World) (h : History) (f : Facts w h) (stands : DescriptorsStand w) where
  pub replies_say : (queue d : ℕ) (frame : Option (List ℕ)) (page sense : List ℕ) (rest : List Up) → up_on w queue ≡ up.Reply d frame page sense ∷ rest → why_reply w.host queue d frame page ≡ None
  replies_say queue d None page sense rest e = plain_say w h f stands queue d page sense rest e
  replies_say queue d (Some bytes) page sense rest e = framed_say w h f stands queue d bytes page sense rest e
