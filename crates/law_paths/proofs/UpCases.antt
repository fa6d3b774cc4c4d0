-- Where a reply that the controller puts leaves its command.
use Rattle.std.proofs.Common.{◌≡◌, ℕ, zero, suc, ◌+◌, ◌^◌, ◌<◌, ◌≤◌, ◌==◌, cond, nat_lt, Bool, true, false, if◌then◌else◌, List, [], ◌∷◌, ◌++◌, bit_and, drop, get_or, length, set, slice_get, Option, Some, None, refl, ap, sym, ◌∙◌, subst, arith}
use Rattle.std.specs.Prelude.{All}
use Rattle.std.specs.FinMap as finmap
use Rattle.std.proofs.lemmas.List.{get_or_past}
use Rattle.std.proofs.lemmas.List.Elements.{All-append, All-head}
use Rattle.std.proofs.lemmas.List.Sums.{sum_by-set}
use Rattle.scsi_disk.specs.declared.scsi_result.ScsiResult.{ScsiResult}
use Rattle.smid_pool.specs.Pool.{Free, Open, Slot}
use Rattle.mpt_trace.specs.declared.entry.Entry.TheVariants as entry
use Rattle.mpt_trace.specs.declared.item.Item.TheVariants as item
use Rattle.mpt_trace.specs.declared.item.Up.{Up}
use Rattle.mpt_trace.specs.declared.item.Up.TheVariants as up
use Rattle.mpt_trace.specs.declared.outcome.Outcome.TheVariants as ending
use Rattle.mpt_wire.specs.Machine.State.{OpenRequest}
use Rattle.mpt_wire.specs.Messages.Fields.{address_descriptor, ioc_status_in, reply_frame_address, scsi_status_in, smid_in, success_descriptor}
use Rattle.mpt_wire.specs.Messages.Naming.{AResult, NotThere, Says, Stopped, device_not_there, names_command, said_in, says_status, task_terminated}
use Rattle.mpt_wire.specs.Paths.Stages.{PathStage, Accepted, Posted, AtController, Sent, AtDisk, HasRun, SaysResult, HasResult, SaysGone, HasGone, SaysTerminated, HasTerminated, Replied, Heard, stage_after}
use Rattle.mpt_wire.specs.Paths.Table.{PutsReply}
use Rattle.mpt_rules.specs.declared.request.Request.{Request}
use Rattle.mpt_rules.specs.declared.request.Request.TheVariants as request
use Rattle.mpt_rules.specs.declared.said.Said.{Said}
use Rattle.mpt_rules.specs.declared.said.Said.TheVariants as said
use Rattle.mpt_rules.specs.declared.status.TheConstants.{IOC_STATUS_MASK}
use Rattle.mpt_rules.specs.Host.Parts.{Cmd}
use Rattle.mpt_rules.specs.Host.Replies.{ended, ended_by}
use Rattle.mpt_rules.specs.Ioc.Commands.{moved_by, written_by}
use Rattle.mpt_rules.specs.Ioc.Places.{is_reply_of}
use Rattle.mpt_rules.specs.Ioc.Replies.{outbox_of}
use Rattle.mpt_rules.specs.Ioc.Sending.{up_of, up_sent_on}
use Rattle.mpt_rules.specs.World.Counts.{one_if, reply_count}
use Rattle.mpt_rules.specs.World.Lines.{said_of, said_reply}
use Rattle.mpt_rules.specs.World.State.{World, up_lane, up_on, with_up}
use Rattle.mpt_rules.proofs.Counts.{reply_count-cons}
use Rattle.law_facts.specs.Facts.{Facts}
use Rattle.law_facts.specs.History.{History, history_after}
use Rattle.law_facts.specs.Messages.{AnswersBy, AnswersCommand, SaidIs, TellsOutcome}
use Rattle.law_facts.specs.Paths.{HasItsResult, MayReply, RepliesAt, SaidStage, UpStage, stage_of}
use Rattle.law_facts.specs.Words.{is_command_asked, slot}
use Rattle.law_flights.proofs.Descriptors.{smid_addressed, smid_succeeded}
use Rattle.law_flights.proofs.Tables.{get_or-set_any}
use Rattle.law_machine.proofs.Answered.{told_result}
use Rattle.law_messages.proofs.Agreeing.{all_last, all_one, not_both}
use Rattle.law_standing.specs.Written.{OutcomesFit}
use Rattle.law_paths.specs.Staged.{OutAt, Staged}
use Rattle.law_paths.specs.Tags.{TagsFit}
use Rattle.law_paths.proofs.Alone.{alone, low, spots, within}
use Rattle.law_paths.proofs.BackCases.{moved_fits}
use Rattle.law_paths.proofs.DownCases.{named_within, unnamed}
use Rattle.law_paths.proofs.Entries.{Silent, equal, first_leads, is_named, not_named, of_item, same}
use Rattle.law_paths.proofs.FabricCases.{begin, by_name, leads_to, quietly}
use Rattle.law_paths.proofs.Giving.{put}
use Rattle.law_paths.proofs.Moves.{asked_is}

-- what a status says is how the command ended
says_gone : (n : ℕ) → says_status n ≡ NotThere → n ≡ device_not_there
says_gone n e = by_tests (n == device_not_there) (n == task_terminated) refl e
  where
    by_tests : (a b : Bool) → (n == device_not_there) ≡ a → (if a then NotThere else (if b then Stopped else AResult)) ≡ NotThere → n ≡ device_not_there
    by_tests true b t e = equal n device_not_there t
    by_tests false true t e = absurd (cc)
    by_tests false false t e = absurd (cc)

says_stopped : (n : ℕ) → says_status n ≡ Stopped → n ≡ task_terminated
says_stopped n e = by_tests (n == device_not_there) (n == task_terminated) refl e
  where
    by_tests : (a b : Bool) → (n == task_terminated) ≡ b → (if a then NotThere else (if b then Stopped else AResult)) ≡ Stopped → n ≡ task_terminated
    by_tests true b t e = absurd (cc)
    by_tests false true t e = equal n task_terminated t
    by_tests false false t e = absurd (cc)

pub gone_by : (frame : Option (List ℕ)) (page sense : List ℕ) → said_in frame ≡ NotThere → ended frame page sense ≡ ending.Gone
gone_by None page sense e = absurd (cc)
gone_by (Some g) page sense e = ap (λ x. ended_by (bit_and x IOC_STATUS_MASK) (record { status = scsi_status_in g; payload = page; sense = sense })) (says_gone (ioc_status_in g) e)

pub stopped_by : (frame : Option (List ℕ)) (page sense : List ℕ) → said_in frame ≡ Stopped → ended frame page sense ≡ ending.Terminated
stopped_by None page sense e = absurd (cc)
stopped_by (Some g) page sense e = ap (λ x. ended_by (bit_and x IOC_STATUS_MASK) (record { status = scsi_status_in g; payload = page; sense = sense })) (says_stopped (ioc_status_in g) e)

lanes_put : (P : Up → Type 0) (lanes : List (List Up)) (queue : ℕ) (z : Up) → ((q : ℕ) → All P (get_or lanes q [])) → P z → (q : ℕ) → All P (get_or (set lanes queue (get_or lanes queue [] ++ z ∷ [])) q [])
lanes_put P lanes queue z a p q = subst (All P) (sym (get_or-set_any lanes queue q (get_or lanes queue [] ++ z ∷ []) [])) (by_tests (q == queue) (nat_lt queue (length lanes)))
  where
    by_tests : (b c : Bool) → All P (cond b (cond c (get_or lanes queue [] ++ z ∷ []) (get_or lanes q [])) (get_or lanes q []))
    by_tests false c = a q
    by_tests true false = a q
    by_tests true true = All-append P (get_or lanes queue []) (z ∷ []) (a queue) (all_one P z p)

box_within : (boxes : List (List Said)) (queue : ℕ) (x : Said) (rest : List Said) → get_or boxes queue [] ≡ x ∷ rest → queue < length boxes
box_within boxes queue x rest e = by_place (nat_lt queue (length boxes)) refl
  where
    by_place : (b : Bool) → nat_lt queue (length boxes) ≡ b → queue < length boxes
    by_place true t = grind (arith, t)
    by_place false t = let m : length boxes ≤ queue = grind (arith, t) in let q = get_or_past boxes queue [] m in absurd (cc)

-- what the controller puts on a lane up: a reply that may come, or what names no identifier
module _ (w : World) (h : History) where
  pub data IsPut (queue : ℕ) (z : Up) : Type 0 where
    AReply : (d : ℕ) (frame : Option (List ℕ)) (page sense : List ℕ) → z ≡ up.Reply d frame page sense → RepliesAt w h (smid_in d) frame → SaidIs w h queue (said_reply (smid_in d) frame page sense) → IsPut queue z
    NoReply : ((s : ℕ) → of_item s (item.Up z) ≡ false) → IsPut queue z

-- how the stage goes on behind a reply that may come
module _ (h : History) (s n : ℕ) (frame : Option (List ℕ)) (page sense : List ℕ) (done : (r : ScsiResult) → h.machine.outcome n ≡ Some r → ended frame page sense ≡ ending.Done r) where
  replied : (a : Says) (c : PathStage) → said_in frame ≡ a → MayReply h s a c → HasItsResult h s c (Open (request.Command n)) → stage_after c (PutsReply a) ≡ Replied a (ended frame page sense)
  replied AResult Accepted i m o = absurd m
  replied AResult Posted i m o = absurd m
  replied AResult AtController i m o = absurd m
  replied AResult Sent i m o = absurd m
  replied AResult AtDisk i m o = absurd m
  replied AResult HasRun i m o = absurd m
  replied AResult (SaysResult x) i m o = absurd m
  replied AResult (HasResult x) i m o = ap (Replied AResult) (sym (done x o))
  replied AResult SaysGone i m o = absurd m
  replied AResult HasGone i m o = absurd m
  replied AResult SaysTerminated i m o = absurd m
  replied AResult HasTerminated i m o = absurd m
  replied AResult (Replied y z) i m o = absurd m
  replied AResult (Heard z) i m o = absurd m
  replied NotThere Accepted i m o = absurd m
  replied NotThere Posted i m o = absurd m
  replied NotThere AtController i m o = ap (Replied NotThere) (sym (gone_by frame page sense i))
  replied NotThere Sent i m o = absurd m
  replied NotThere AtDisk i m o = absurd m
  replied NotThere HasRun i m o = absurd m
  replied NotThere (SaysResult x) i m o = absurd m
  replied NotThere (HasResult x) i m o = absurd m
  replied NotThere SaysGone i m o = absurd m
  replied NotThere HasGone i m o = ap (Replied NotThere) (sym (gone_by frame page sense i))
  replied NotThere SaysTerminated i m o = absurd m
  replied NotThere HasTerminated i m o = absurd m
  replied NotThere (Replied y z) i m o = absurd m
  replied NotThere (Heard z) i m o = absurd m
  replied Stopped Accepted i m o = absurd m
  replied Stopped Posted i m o = absurd m
  replied Stopped AtController i m o = ap (Replied Stopped) (sym (stopped_by frame page sense i))
  replied Stopped Sent i m o = absurd m
  replied Stopped AtDisk i m o = absurd m
  replied Stopped HasRun i m o = absurd m
  replied Stopped (SaysResult x) i m o = absurd m
  replied Stopped (HasResult x) i m o = absurd m
  replied Stopped SaysGone i m o = absurd m
  replied Stopped HasGone i m o = absurd m
  replied Stopped SaysTerminated i m o = absurd m
  replied Stopped HasTerminated i m o = ap (Replied Stopped) (sym (stopped_by frame page sense i))
  replied Stopped (Replied y z) i m o = absurd m
  replied Stopped (Heard z) i m o = absurd m

module _ (w : World) (h : History) (f : Facts w h) (tags : TagsFit w) (fit : OutcomesFit h) where
  -- a result that is said is the machine's
  module _ (queue s n : ℕ) (o : slot w.host s ≡ Open (request.Command n)) (frame : Option (List ℕ)) (page sense : List ℕ) where
    by_tables : (c : Option Cmd) (q : Option OpenRequest) → finmap.get w.host.cmds n ≡ c → finmap.get h.machine.requests n ≡ q → AnswersCommand w h s n (said_reply s frame page sense) c q → (r : ScsiResult) → h.machine.outcome n ≡ Some r → ended frame page sense ≡ ending.Done r
    by_tables None q g i a r m = absurd a
    by_tables (Some c) None g i a r m = absurd a
    by_tables (Some c) (Some q) g i a r m =
        let l = f.limits.cmds n c g in
        let u = fit n r m in
        let j = within w h f.flights s (request.Command n) o in
        told_result s c.handle q.command.len (moved_by (written_by q.command) r) r (omega (arith, l)) (omega (arith, j)) u.0 (moved_fits q.command ((f.messages.named n).fit q i) r u.1) (omega (arith, u)) frame page sense
        (subst (λ x. TellsOutcome s c.handle q.command x (said_reply s frame page sense)) m a)

    pub done_by : AnswersBy w h queue s (said_reply s frame page sense) (slot w.host s) → (r : ScsiResult) → h.machine.outcome n ≡ Some r → ended frame page sense ≡ ending.Done r
    done_by a = by_tables (finmap.get w.host.cmds n) (finmap.get h.machine.requests n) refl refl (subst (AnswersBy w h queue s (said_reply s frame page sense)) o a).1

  module _ (queue : ℕ) (y : Said) (rest : List Said) (e : outbox_of w.ioc queue ≡ y ∷ rest) where
    pub first_said : SaidIs w h queue y
    first_said = All-head (SaidIs w h queue) y rest (subst (All (SaidIs w h queue)) e (all_last (SaidIs w h queue) (Rattle.std.proofs.Common.map said_of (up_on w queue)) (outbox_of w.ioc queue) (f.messages.said queue)))

    pub first_stage : SaidStage w h y
    first_stage = All-head (SaidStage w h) y rest (subst (All (SaidStage w h)) e (f.paths.said queue))

    module _ (z : Up) where
      abbrev V : World
      V = with_up (record w { ioc = up_sent_on w.ioc queue }) queue (up_on w queue ++ z ∷ [])

      abbrev K : History
      K = history_after h (entry.Put (up_lane queue) (item.Up z) ∷ [])

      abbrev X : World
      X = record w { ioc = up_sent_on w.ioc queue }

      less : (v : World) (k : History) → Staged v k w → Staged v k X
      less v k b =
          let g = put (SaidStage v k) (OutAt v k AtController) w.ioc.up w.ioc.out queue (record { said = b.said; out = b.sending }) in
          record { out = b.out; down = b.down; normal = b.normal; sending = b.sending; sent = b.sent; tasks = b.tasks; made = b.made; back = b.back; said = g.said; up = b.up }

      finish : Staged V K X → UpStage V K z → Staged V K V
      finish b a = record { out = b.out; down = b.down; normal = b.normal; sending = b.sending; sent = b.sent; tasks = b.tasks; made = b.made; back = b.back; said = b.said; up = lanes_put (UpStage V K) w.up queue z b.up a }

      put_plain : ((s : ℕ) → Silent s (entry.Put (up_lane queue) (item.Up z) ∷ [])) → UpStage V K z → Staged V K V
      put_plain q a = finish (less V K (quietly w h f tags V (entry.Put (up_lane queue) (item.Up z) ∷ []) refl q (tt, tt))) a

      put_named : (q : ℕ) → (1 ≤ q) × (q ≤ 280) → is_reply_of q y ≡ true → ((s : ℕ) → (s == q) ≡ false → Silent s (entry.Put (up_lane queue) (item.Up z) ∷ [])) → UpStage V K z → Staged V K V
      put_named q i r s a =
          let b = alone w h f.flights q i.0 i.1 in
          let c = sum_by-set (reply_count q) w.ioc.up queue (drop 1 (outbox_of w.ioc queue)) [] (box_within w.ioc.up queue y rest e) in
          let d = ap (reply_count q) e in
          let g = ap (λ xs. reply_count q (drop 1 xs)) e in
          let m = reply_count-cons q y rest in
          let o : one_if (is_reply_of q y) ≡ 1 = ap one_if r in
          let n : spots X q ≡ 0 = omega (arith, b, c, d, g, m, o) in
          finish (by_name w h f tags q V (entry.Put (up_lane queue) (item.Up z) ∷ []) X refl s (tt, tt) n (less w h (begin w h f tags))) a

    is_command_id : (d : ℕ) → is_command_asked (slot w.host (smid_in d)) ≡ true → names_command (smid_in d) d ≡ true
    is_command_id d c = let n = asked_is (slot w.host (smid_in d)) c in let l = low w h f.flights (smid_in d) n.0 n.1 in is_named d l.0 l.1

    put_reply : (d : ℕ) (frame : Option (List ℕ)) (page sense : List ℕ) → is_reply_of (smid_in d) y ≡ true → RepliesAt w h (smid_in d) frame
        → ((n : ℕ) → slot w.host (smid_in d) ≡ Open (request.Command n) → (r : ScsiResult) → h.machine.outcome n ≡ Some r → ended frame page sense ≡ ending.Done r)
        → Staged (V (up.Reply d frame page sense)) (K (up.Reply d frame page sense)) (V (up.Reply d frame page sense))
    put_reply d frame page sense r a g = by_name_of (names_command (smid_in d) d) refl
      where
        by_name_of : (b : Bool) → names_command (smid_in d) d ≡ b → Staged (V (up.Reply d frame page sense)) (K (up.Reply d frame page sense)) (V (up.Reply d frame page sense))
        by_name_of false t = put_plain (up.Reply d frame page sense) (λ s. (unnamed s d t, tt)) (λ c. not_both (names_command (smid_in d) d) t (is_command_id d c))
        by_name_of true t =
            put_named (up.Reply d frame page sense) (smid_in d) (named_within d t) r (λ s n. (not_named s d n, tt))
            (λ c.
            let n = asked_is (slot w.host (smid_in d)) c in
            let m = a c in
            first_leads h (smid_in d) (entry.Put (up_lane queue) (item.Up (up.Reply d frame page sense))) [] tt
            ∙ (leads_to (stage_of h (smid_in d)) (names_command (smid_in d) d) (PutsReply (said_in frame)) t
            ∙ replied h (smid_in d) n.0 frame page sense (g n.0 n.1) (said_in frame) (stage_of h (smid_in d)) refl m.0 (subst (HasItsResult h (smid_in d) (stage_of h (smid_in d))) n.1 m.1)))

  pub short_of : (queue : ℕ) (s : ℕ) (frame : Option (List ℕ)) (page sense : List ℕ) → SaidIs w h queue (said_reply s frame page sense) → s < 65536
  short_of queue zero frame page sense a = omega arith
  short_of queue (suc i) None page sense a = by_slot (slot w.host (suc i)) refl a
    where
      by_slot : (x : Slot Request) → slot w.host (suc i) ≡ x → AnswersBy w h queue (suc i) (said.Success (suc i) page sense) x → suc i < 65536
      by_slot Free o a = absurd a
      by_slot Rattle.smid_pool.specs.Pool.Parked o a = absurd a
      by_slot (Open r) o a = let l = within w h f.flights (suc i) r o in omega (arith, l)
  short_of queue (suc i) (Some frame) page sense a = by_slot (slot w.host (suc i)) refl a
    where
      by_slot : (x : Slot Request) → slot w.host (suc i) ≡ x → AnswersBy w h queue (suc i) (said.Framed (suc i) frame page sense) x → suc i < 65536
      by_slot Free o a = absurd a
      by_slot Rattle.smid_pool.specs.Pool.Parked o a = absurd a
      by_slot (Open r) o a = let l = within w h f.flights (suc i) r o in omega (arith, l)

  pub answers_of : (queue s : ℕ) (frame : Option (List ℕ)) (page sense : List ℕ) → 1 ≤ s → SaidIs w h queue (said_reply s frame page sense) → AnswersBy w h queue s (said_reply s frame page sense) (slot w.host s)
  answers_of queue zero frame page sense l a = absurd (omega (arith, l))
  answers_of queue (suc i) None page sense l a = a
  answers_of queue (suc i) (Some frame) page sense l a = a

  pub puts_up : (queue : ℕ) (y : Said) (rest : List Said) (z : Up) → outbox_of w.ioc queue ≡ y ∷ rest → up_of y (slice_get w.ioc.ring 0) ≡ Some z
      → Staged (with_up (record w { ioc = up_sent_on w.ioc queue }) queue (up_on w queue ++ z ∷ [])) (history_after h (entry.Put (up_lane queue) (item.Up z) ∷ [])) (with_up (record w { ioc = up_sent_on w.ioc queue }) queue (up_on w queue ++ z ∷ []))
  puts_up queue y rest z e u = by_said y e u
    where
      same_item : (a b : Up) → Some a ≡ Some b → a ≡ b
      same_item a b i = cc

      reply : (s d : ℕ) (frame : Option (List ℕ)) (page sense : List ℕ) → outbox_of w.ioc queue ≡ said_reply s frame page sense ∷ rest → smid_in d ≡ s → is_reply_of s (said_reply s frame page sense) ≡ true → RepliesAt w h s frame → SaidIs w h queue (said_reply s frame page sense) → up.Reply d frame page sense ≡ z
          → Staged (with_up (record w { ioc = up_sent_on w.ioc queue }) queue (up_on w queue ++ z ∷ [])) (history_after h (entry.Put (up_lane queue) (item.Up z) ∷ [])) (with_up (record w { ioc = up_sent_on w.ioc queue }) queue (up_on w queue ++ z ∷ []))
      reply s d frame page sense e i r a b j =
          subst (λ x. Staged (with_up (record w { ioc = up_sent_on w.ioc queue }) queue (up_on w queue ++ x ∷ [])) (history_after h (entry.Put (up_lane queue) (item.Up x) ∷ [])) (with_up (record w { ioc = up_sent_on w.ioc queue }) queue (up_on w queue ++ x ∷ []))) j
          (put_reply queue (said_reply s frame page sense) rest e d frame page sense (subst (λ q. is_reply_of q (said_reply s frame page sense) ≡ true) (sym i) r) (subst (λ q. RepliesAt w h q frame) (sym i) a)
          (λ n o. let o2 = subst (λ q. slot w.host q ≡ Open (request.Command n)) i o in let l = within w h f.flights s (request.Command n) o2 in done_by queue s n o2 frame page sense (answers_of queue s frame page sense l.0 b)))

      by_free : (s : ℕ) (frame page sense : List ℕ) (o : Option ℕ) → outbox_of w.ioc queue ≡ said.Framed s frame page sense ∷ rest → Rattle.mpt_rules.specs.Ioc.Sending.framed_up s frame page sense o ≡ Some z
          → Staged (with_up (record w { ioc = up_sent_on w.ioc queue }) queue (up_on w queue ++ z ∷ [])) (history_after h (entry.Put (up_lane queue) (item.Up z) ∷ [])) (with_up (record w { ioc = up_sent_on w.ioc queue }) queue (up_on w queue ++ z ∷ []))
      by_free s frame page sense None e u = absurd (cc)
      by_free s frame page sense (Some g) e u =
          let b = first_said queue (said.Framed s frame page sense) rest e in
          reply s (address_descriptor s (reply_frame_address g)) (Some frame) page sense e (smid_addressed s (reply_frame_address g) (short_of queue s (Some frame) page sense b)) (same s) (first_stage queue (said.Framed s frame page sense) rest e) b
          (same_item (up.Reply (address_descriptor s (reply_frame_address g)) (Some frame) page sense) z u)

      other : (x : Up) → (y : Said) → outbox_of w.ioc queue ≡ y ∷ rest → x ≡ z → ((s : ℕ) → Silent s (entry.Put (up_lane queue) (item.Up x) ∷ [])) → ((v : World) (k : History) → UpStage v k x)
          → Staged (with_up (record w { ioc = up_sent_on w.ioc queue }) queue (up_on w queue ++ z ∷ [])) (history_after h (entry.Put (up_lane queue) (item.Up z) ∷ [])) (with_up (record w { ioc = up_sent_on w.ioc queue }) queue (up_on w queue ++ z ∷ []))
      other x y e j q a =
          subst (λ x. Staged (with_up (record w { ioc = up_sent_on w.ioc queue }) queue (up_on w queue ++ x ∷ [])) (history_after h (entry.Put (up_lane queue) (item.Up x) ∷ [])) (with_up (record w { ioc = up_sent_on w.ioc queue }) queue (up_on w queue ++ x ∷ []))) j
          (put_plain queue y rest e x q (a (V queue y rest e x) (K queue y rest e x)))

      by_said : (y : Said) → outbox_of w.ioc queue ≡ y ∷ rest → up_of y (slice_get w.ioc.ring 0) ≡ Some z
          → Staged (with_up (record w { ioc = up_sent_on w.ioc queue }) queue (up_on w queue ++ z ∷ [])) (history_after h (entry.Put (up_lane queue) (item.Up z) ∷ [])) (with_up (record w { ioc = up_sent_on w.ioc queue }) queue (up_on w queue ++ z ∷ []))
      by_said (said.Value n) e u = other (up.Value n) (said.Value n) e (same_item (up.Value n) z u) (λ s. (refl, tt)) (λ v k. tt)
      by_said (said.Mark n) e u = other (up.Mark n) (said.Mark n) e (same_item (up.Mark n) z u) (λ s. (refl, tt)) (λ v k. tt)
      by_said said.Calm e u = other up.Calm said.Calm e (same_item up.Calm z u) (λ s. (refl, tt)) (λ v k. tt)
      by_said (said.Success s page sense) e u =
          let b = first_said queue (said.Success s page sense) rest e in
          reply s (success_descriptor s) None page sense e (smid_succeeded s (short_of queue s None page sense b)) (same s) (first_stage queue (said.Success s page sense) rest e) b
          (same_item (up.Reply (success_descriptor s) None page sense) z u)
      by_said (said.Framed s frame page sense) e u = by_free s frame page sense (slice_get w.ioc.ring 0) e u

  pub put_is : (queue : ℕ) (y : Said) (rest : List Said) (z : Up) → outbox_of w.ioc queue ≡ y ∷ rest → up_of y (slice_get w.ioc.ring 0) ≡ Some z → IsPut w h queue z
  put_is queue y rest z e u = by_said y e u
    where
      same_item : (a b : Up) → Some a ≡ Some b → a ≡ b
      same_item a b i = cc

      by_free : (s : ℕ) (frame page sense : List ℕ) (o : Option ℕ) → outbox_of w.ioc queue ≡ said.Framed s frame page sense ∷ rest → Rattle.mpt_rules.specs.Ioc.Sending.framed_up s frame page sense o ≡ Some z → IsPut w h queue z
      by_free s frame page sense None e u = absurd (cc)
      by_free s frame page sense (Some g) e u =
          let b = first_said queue (said.Framed s frame page sense) rest e in
          let i = smid_addressed s (reply_frame_address g) (short_of queue s (Some frame) page sense b) in
          AReply (address_descriptor s (reply_frame_address g)) (Some frame) page sense (sym (same_item (up.Reply (address_descriptor s (reply_frame_address g)) (Some frame) page sense) z u))
          (subst (λ q. RepliesAt w h q (Some frame)) (sym i) (first_stage queue (said.Framed s frame page sense) rest e)) (subst (λ q. SaidIs w h queue (said_reply q (Some frame) page sense)) (sym i) b)

      by_said : (y : Said) → outbox_of w.ioc queue ≡ y ∷ rest → up_of y (slice_get w.ioc.ring 0) ≡ Some z → IsPut w h queue z
      by_said (said.Value n) e u = NoReply (λ s. subst (λ x. of_item s (item.Up x) ≡ false) (same_item (up.Value n) z u) refl)
      by_said (said.Mark n) e u = NoReply (λ s. subst (λ x. of_item s (item.Up x) ≡ false) (same_item (up.Mark n) z u) refl)
      by_said said.Calm e u = NoReply (λ s. subst (λ x. of_item s (item.Up x) ≡ false) (same_item up.Calm z u) refl)
      by_said (said.Success s page sense) e u =
          let b = first_said queue (said.Success s page sense) rest e in
          let i = smid_succeeded s (short_of queue s None page sense b) in
          AReply (success_descriptor s) None page sense (sym (same_item (up.Reply (success_descriptor s) None page sense) z u))
          (subst (λ q. RepliesAt w h q None) (sym i) (first_stage queue (said.Success s page sense) rest e)) (subst (λ q. SaidIs w h queue (said_reply q None page sense)) (sym i) b)
      by_said (said.Framed s frame page sense) e u = by_free s frame page sense (slice_get w.ioc.ring 0) e u
