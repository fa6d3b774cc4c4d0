-- Each reply to a command that the controller puts tells the command's result as it is, or nothing where there is none.
use Rattle.std.proofs.Common.{◌≡◌, ℕ, ◌^◌, ◌<◌, ◌≤◌, ◌==◌, nat_lt, Bool, true, false, if◌then◌else◌, List, [], ◌∷◌, get_or, length, slice_get, Option, Some, None, option_map, refl, ap, sym, ◌∙◌, subst, arith}
use Rattle.std.specs.Bool.{MatchBool}
use Rattle.std.specs.FinMap as finmap
use Rattle.std.specs.FinSet as finset
use Rattle.std.proofs.lemmas.Bool.Decides.{nat_tests}
use Rattle.removal.specs.Handles.{ready_handle}
use Rattle.scsi_disk.specs.Command.{fits, is_write, moved}
use Rattle.scsi_disk.specs.declared.command.Command.{Command}
use Rattle.scsi_disk.specs.declared.scsi_result.ScsiResult.{ScsiResult}
use Rattle.scsi_disk.specs.declared.scsi_result.TheConstants.{GOOD}
use Rattle.scsi_msgs.specs.ScsiReply.{scsi_reply_layout, scsi_reply_values}
use Rattle.smid_pool.specs.Pool.{Open, least_free}
use Rattle.smid_pool.specs.declared.class.Class.TheVariants as class
use Rattle.mpt_messages.specs.declared.ioc_reply.IocReply.TheVariants as reply
use Rattle.mpt_messages.specs.IocFrames.{reply_frame}
use Rattle.mpt_messages.proofs.FrameStands.{reply_frame_stands}
use Rattle.mpt_trace.specs.Command.{command_named}
use Rattle.mpt_trace.specs.declared.command_form.CommandForm.{CommandForm}
use Rattle.mpt_trace.specs.declared.entry.Entry.{Entry}
use Rattle.mpt_trace.specs.declared.entry.Entry.TheVariants as entry
use Rattle.mpt_trace.specs.declared.input.Input.{Input}
use Rattle.mpt_trace.specs.declared.input.Input.TheVariants as input
use Rattle.mpt_trace.specs.declared.item.Item.TheVariants as item
use Rattle.mpt_trace.specs.declared.item.Up.{Up}
use Rattle.mpt_trace.specs.declared.item.Up.TheVariants as up
use Rattle.mpt_trace.specs.declared.outcome.Outcome.TheVariants as ending
use Rattle.mpt_trace.specs.declared.refusal.RefusedCall.TheVariants as call
use Rattle.mpt_wire.specs.Machine.Causes.{is_up}
use Rattle.mpt_wire.specs.Machine.State.{OpenRequest}
use Rattle.mpt_wire.specs.Messages.Fields.{address_descriptor, address_flags, flags_in, ioc_status_in, reply_frame_address, scsi_status_in, sense_count_in, smid_in, success_descriptor, transfer_count_in}
use Rattle.mpt_wire.specs.Messages.Naming.{AResult, NotThere, Says, Stopped, data_underrun, names_command, said_in, success}
use Rattle.mpt_wire.specs.Paths.Commands.{Live}
use Rattle.mpt_wire.specs.Paths.Replies.{FrameTells, HasFrame, RepliesAsk, Tells, TellsAt, TellsNothing, autosense_valid, is_whole, scsi_state_in, state_of_sense}
use Rattle.mpt_wire.specs.Paths.Stages.{PathStage, Accepted, Posted, AtController, Sent, AtDisk, HasRun, SaysResult, HasResult, SaysGone, HasGone, SaysTerminated, HasTerminated, Replied, Heard, Walk, walk_next}
use Rattle.mpt_wire.specs.Walks.Passes.{EachEntry, Passes}
use Rattle.mpt_rules.specs.declared.post.Post.{Post}
use Rattle.mpt_rules.specs.declared.request.Request.TheVariants as request
use Rattle.mpt_rules.specs.declared.said.Said.{Said}
use Rattle.mpt_rules.specs.declared.said.Said.TheVariants as said
use Rattle.mpt_rules.specs.declared.status.TheConstants.{IOC_STATUS_SCSI_DATA_UNDERRUN, IOC_STATUS_SUCCESS}
use Rattle.mpt_rules.specs.Host.Inputs as inputs
use Rattle.mpt_rules.specs.Host.Parts.{Cmd}
use Rattle.mpt_rules.specs.Host.Replies.{ended}
use Rattle.mpt_rules.specs.Host.Takes.{hears_up}
use Rattle.mpt_rules.specs.Ioc.Commands.{moved_by, result_said, result_status, written_by}
use Rattle.mpt_rules.specs.Ioc.Replies.{outbox_of}
use Rattle.mpt_rules.specs.Ioc.Sending.{up_of}
use Rattle.mpt_rules.specs.Ioc.Steps as work
use Rattle.mpt_rules.specs.Ioc.Takes as adapter
use Rattle.mpt_rules.specs.Law.{NothingIsStrange}
use Rattle.mpt_rules.specs.World.Cases.{Case, entries}
use Rattle.mpt_rules.specs.World.Inputs.{by_result, host_told}
use Rattle.mpt_rules.specs.World.Lines.{said_reply}
use Rattle.mpt_rules.specs.World.State.{World, up_lane}
use Rattle.mpt_rules.proofs.HostCalls.{aborts_by, resets_target_by, submits_by}
use Rattle.law_facts.specs.Facts.{Facts}
use Rattle.law_facts.specs.History.{History}
use Rattle.law_facts.specs.Messages.{AnswersBy, AnswersCommand, EndsCommand, SaidIs, TellsOutcome}
use Rattle.law_facts.specs.Paths.{HasItsResult, MayReply, RepliesAt, stage_of}
use Rattle.law_facts.specs.Words.{slot}
use Rattle.law_flights.proofs.Descriptors.{smid_addressed, smid_succeeded}
use Rattle.law_flights.proofs.IocTold.{told_back, told_down, told_high, told_normal}
use Rattle.law_messages.proofs.Agreeing.{not_both}
use Rattle.law_messages.proofs.Known.{command_of, inside}
use Rattle.law_messages.proofs.PostsKept.{live_is_open}
use Rattle.law_messages.proofs.TameTold as tame
use Rattle.law_moves.proofs.Cases.{IsHosts}
use Rattle.law_moves.proofs.CasesTold.{IsPlugWord, OwesTold, kept_told}
use Rattle.law_moves.proofs.InputWords.{input_words}
use Rattle.law_standing.specs.Written.{OutcomesFit}
use Rattle.law_paths.specs.Payloads.{PayloadsFit}
use Rattle.law_paths.specs.Tags.{TagsFit}
use Rattle.law_paths.proofs.Alone.{within}
use Rattle.law_paths.proofs.BackCases.{moved_fits}
use Rattle.law_paths.proofs.Entries.{IsQuiet, equal, not_named, same}
use Rattle.law_paths.proofs.HostCases.{hears_quietly, input_quiet}
use Rattle.law_paths.proofs.IocCases.{told_quiet}
use Rattle.law_paths.proofs.Moves.{is_asked}
use Rattle.law_paths.proofs.UpCases.{answers_of, done_by, first_said, first_stage, gone_by, short_of, stopped_by}

-- ---- entries that tell no reply

abbrev IsUntold : Entry → Type 0
IsUntold (entry.Put l (item.Up (up.Reply d f p q))) = ⊥
IsUntold e = Unit {0}

untold_asks : (s : ℕ) (g : Walk) (e : Entry) → IsUntold e → RepliesAsk s g e
untold_asks s g (entry.Put l (item.Up (up.Reply d f p q))) a = absurd a
untold_asks s g (entry.Put l (item.Up (up.Value value))) a = tt
untold_asks s g (entry.Put l (item.Up (up.Mark generation))) a = tt
untold_asks s g (entry.Put l (item.Up up.Calm)) a = tt
untold_asks s g (entry.Put l (item.Down x)) a = tt
untold_asks s g (entry.Put l (item.Out x)) a = tt
untold_asks s g (entry.Put l (item.Back x)) a = tt
untold_asks s g (entry.Put l (item.Ask x)) a = tt
untold_asks s g (entry.Put l (item.Tell x)) a = tt
untold_asks s g (entry.Given i) a = tt
untold_asks s g (entry.Idle x) a = tt
untold_asks s g (entry.Take l x) a = tt
untold_asks s g (entry.Bind handle address k) a = tt
untold_asks s g (entry.Unbind handle) a = tt
untold_asks s g entry.UnbindAll a = tt
untold_asks s g (entry.Run address k) a = tt
untold_asks s g entry.HostUp a = tt
untold_asks s g (entry.Ready address handle) a = tt
untold_asks s g (entry.Lost address handle) a = tt
untold_asks s g (entry.Accept n address k) a = tt
untold_asks s g (entry.RefuseSubmit n cause) a = tt
untold_asks s g (entry.Refuse call cause) a = tt
untold_asks s g (entry.Answer n how) a = tt
untold_asks s g (entry.AbortEnd n how) a = tt
untold_asks s g (entry.TargetEnd address how) a = tt
untold_asks s g entry.ResetDone a = tt

untold_pass : (s : ℕ) (g : Walk) (t : List Entry) → EachEntry IsUntold t → Passes (walk_next s) (RepliesAsk s) g t
untold_pass s g [] a = tt
untold_pass s g (e ∷ t) a = (untold_asks s g e a.0, untold_pass s (walk_next s g e) t a.1)

quiet_untold : (t : List Entry) → EachEntry IsQuiet t → EachEntry IsUntold t
quiet_untold [] a = tt
quiet_untold (e ∷ t) a = (one e a.0, quiet_untold t a.1)
  where
    one : (e : Entry) → IsQuiet e → IsUntold e
    one (entry.Given i) p = tt
    one (entry.Idle x) p = tt
    one (entry.Put l x) p = absurd p
    one (entry.Take l x) p = tt
    one (entry.Bind handle a k) p = tt
    one (entry.Unbind handle) p = tt
    one entry.UnbindAll p = tt
    one (entry.Run a k) p = tt
    one entry.HostUp p = tt
    one (entry.Ready a handle) p = tt
    one (entry.Lost a handle) p = tt
    one (entry.Accept n a k) p = tt
    one (entry.RefuseSubmit n cause) p = tt
    one (entry.Refuse call cause) p = tt
    one (entry.Answer n how) p = tt
    one (entry.AbortEnd n how) p = tt
    one (entry.TargetEnd a how) p = tt
    one entry.ResetDone p = tt

plug_untold : (t : List Entry) → EachEntry IsPlugWord t → EachEntry IsUntold t
plug_untold [] a = tt
plug_untold (e ∷ t) a = (one e a.0, plug_untold t a.1)
  where
    one : (e : Entry) → IsPlugWord e → IsUntold e
    one (entry.Given i) p = tt
    one (entry.Idle x) p = tt
    one (entry.Put l x) p = absurd p
    one (entry.Take l x) p = tt
    one (entry.Bind handle a k) p = tt
    one (entry.Unbind handle) p = tt
    one entry.UnbindAll p = tt
    one (entry.Run a k) p = tt
    one entry.HostUp p = tt
    one (entry.Ready a handle) p = tt
    one (entry.Lost a handle) p = tt
    one (entry.Accept n a k) p = tt
    one (entry.RefuseSubmit n cause) p = tt
    one (entry.Refuse call cause) p = tt
    one (entry.Answer n how) p = tt
    one (entry.AbortEnd n how) p = tt
    one (entry.TargetEnd a how) p = tt
    one entry.ResetDone p = tt

-- ---- the reply of a result

reply_numbers : (handle smid scsi status moved sense : ℕ) → handle < 2 ^ 16 → smid < 2 ^ 16 → scsi < 2 ^ 8 → status < 2 ^ 16 → moved < 2 ^ 32 → sense < 2 ^ 32
    → (ioc_status_in (reply_frame (reply.Scsi handle smid scsi status moved sense)) ≡ status) × (scsi_status_in (reply_frame (reply.Scsi handle smid scsi status moved sense)) ≡ scsi)
    × (scsi_state_in (reply_frame (reply.Scsi handle smid scsi status moved sense)) ≡ (if sense == 0 then 0 else autosense_valid))
    × (transfer_count_in (reply_frame (reply.Scsi handle smid scsi status moved sense)) ≡ moved) × (sense_count_in (reply_frame (reply.Scsi handle smid scsi status moved sense)) ≡ sense)
unfolding scsi_reply_layout scsi_reply_values
reply_numbers handle smid scsi status moved sense a b c d e f =
    let s = reply_frame_stands (reply.Scsi handle smid scsi status moved sense) (grind (arith, nat_tests)) tt in
    (ap (λ vs. get_or vs 11 0) s.fixed.numbers, ap (λ vs. get_or vs 9 0) s.fixed.numbers, ap (λ vs. get_or vs 10 0) s.fixed.numbers, ap (λ vs. get_or vs 13 0) s.fixed.numbers, ap (λ vs. get_or vs 14 0) s.fixed.numbers)

sense_state : (xs : List ℕ) → (if length xs == 0 then 0 else autosense_valid) ≡ state_of_sense xs
sense_state [] = refl
sense_state (x ∷ xs) = let e : (length (x ∷ xs) == 0) ≡ false = grind arith in ap (λ b. if b then 0 else autosense_valid) e

moved_is : (c : Command) (r : ScsiResult) → moved_by (written_by c) r ≡ moved c r
moved_is c r = by_write (is_write c.cdb)
  where
    by_write : (b : Bool) → moved_by (if b then Some (length c.payload) else None) r ≡ (if b then (if r.status == GOOD then length c.payload else 0) else length r.payload)
    by_write true = refl
    by_write false = refl

moved_within : (c : Command) (r : ScsiResult) → fits c ≡ true → length r.payload ≤ c.len → moved c r ≤ c.len
moved_within c r f l = by_write (is_write c.cdb) refl
  where
    written : is_write c.cdb ≡ true → length c.payload ≡ c.len
    written t = grind (arith, f, t)

    by_good : (b : Bool) → length c.payload ≡ c.len → (if b then length c.payload else 0) ≤ c.len
    by_good true e = omega (arith, e)
    by_good false e = omega arith

    by_write : (b : Bool) → is_write c.cdb ≡ b → (if b then (if r.status == GOOD then length c.payload else 0) else length r.payload) ≤ c.len
    by_write true t = by_good (r.status == GOOD) (written t)
    by_write false t = l

status_is : (m n : ℕ) → m ≤ n → result_status m n ≡ (if m == n then success else data_underrun)
status_is m n l = by_tests (nat_lt m n) (m == n) refl refl
  where
    by_tests : (a b : Bool) → nat_lt m n ≡ a → (m == n) ≡ b → (if a then IOC_STATUS_SCSI_DATA_UNDERRUN else IOC_STATUS_SUCCESS) ≡ (if b then success else data_underrun)
    by_tests true true t e = let a : m < n = grind (arith, t) in let b = equal m n e in absurd (omega (arith, a, b))
    by_tests true false t e = refl
    by_tests false true t e = refl
    by_tests false false t e = let a : n ≤ m = grind (arith, t) in let b : m ≡ n = omega (arith, a, l) in not_both (m == n) e (subst (λ k. (m == k) ≡ true) b (same m))

status_short : (m n : ℕ) → result_status m n < 2 ^ 16
status_short m n = by_test (nat_lt m n)
  where
    by_test : (b : Bool) → (if b then IOC_STATUS_SCSI_DATA_UNDERRUN else IOC_STATUS_SUCCESS) < 2 ^ 16
    by_test true = omega arith
    by_test false = omega arith

-- the descriptor goes with the frame
abbrev IsFormed : ℕ → ℕ → Option (List ℕ) → Type 0
IsFormed s d None = d ≡ success_descriptor s
IsFormed s d (Some f) = flags_in d ≡ address_flags

module _ (s handle : ℕ) (c : Command) (r : ScsiResult) (a : handle < 2 ^ 16) (b : s < 2 ^ 16) (k : r.status < 2 ^ 8) (v : moved c r < 2 ^ 32) (g : length r.sense < 2 ^ 32) (l : moved c r ≤ c.len) where
  result_tells : (d : ℕ) (frame : Option (List ℕ)) (page sense : List ℕ) → IsFormed s d frame → said_reply s frame page sense ≡ result_said s handle c.len (moved c r) r → Tells s c r d frame page sense
  result_tells d frame page sense o i = by_test (is_whole c r) frame o i
    where
      by_test : (t : Bool) (frame : Option (List ℕ)) → IsFormed s d frame
          → said_reply s frame page sense ≡ (if t then said.Success s r.payload r.sense else said.Framed s (reply_frame (reply.Scsi handle s r.status (result_status (moved c r) c.len) (moved c r) (length r.sense))) r.payload r.sense)
          → (page ≡ r.payload) × (sense ≡ r.sense) × MatchBool t ((d ≡ success_descriptor s) × (frame ≡ None)) (HasFrame d frame (FrameTells c r))
      by_test true None o i = let p : page ≡ r.payload = cc in let q : sense ≡ r.sense = cc in (p, q, (o, refl))
      by_test true (Some f) o i = absurd (cc)
      by_test false None o i = absurd (cc)
      by_test false (Some f) o i =
          let z : f ≡ reply_frame (reply.Scsi handle s r.status (result_status (moved c r) c.len) (moved c r) (length r.sense)) = cc in
          let p : page ≡ r.payload = cc in let q : sense ≡ r.sense = cc in
          let n = reply_numbers handle s r.status (result_status (moved c r) c.len) (moved c r) (length r.sense) a b k (status_short (moved c r) c.len) v g in
          let told : FrameTells c r f =
          record {
            ioc_status = ap ioc_status_in z ∙ (n.0 ∙ status_is (moved c r) c.len l);
            scsi_status = ap scsi_status_in z ∙ n.1;
            scsi_state = ap scsi_state_in z ∙ (n.2 ∙ sense_state r.sense);
            moved = ap transfer_count_in z ∙ n.3;
            sense = ap sense_count_in z ∙ n.4;
          } in
          (p, q, (o, told))

-- ---- a reply that the controller puts

module _ (w : World) (h : History) (f : Facts w h) (tags : TagsFit w) (fit : OutcomesFit h) (pays : PayloadsFit h) where
  module _ (queue q d n : ℕ) (o : slot w.host q ≡ Open (request.Command n)) (frame : Option (List ℕ)) (page sense : List ℕ) (made : IsFormed q d frame) (answers : AnswersBy w h queue q (said_reply q frame page sense) (slot w.host q)) (l : Live) (known : (h.walk q).known.live ≡ Some l) where
    ended_nothing : (handle : ℕ) (frame : Option (List ℕ)) → EndsCommand q handle (said_reply q frame page sense) → TellsNothing page sense
    ended_nothing handle None a = absurd a
    ended_nothing handle (Some g) a = (a.0, a.1)

    by_stage : (c : Cmd) (r : OpenRequest) → finmap.get w.host.cmds n ≡ Some c → finmap.get h.machine.requests n ≡ Some r → r.command ≡ l.command → TellsOutcome q c.handle r.command (h.machine.outcome n) (said_reply q frame page sense)
        → (says : Says) (k : PathStage) → said_in frame ≡ says → MayReply h q says k → HasItsResult h q k (Open (request.Command n)) → TellsAt q (Some l) k d frame page sense
    by_stage c r ce re same_command a = by_says
      where
        lost : (x : ScsiResult) → h.machine.outcome n ≡ Some x → ended frame page sense ≡ ending.Done x
        lost x m = done_by w h f tags fit queue q n o frame page sense answers x m

        nothing_gone : (u : Option ScsiResult) → h.machine.outcome n ≡ u → said_in frame ≡ NotThere → TellsOutcome q c.handle r.command u (said_reply q frame page sense) → TellsNothing page sense
        nothing_gone None m i a = ended_nothing c.handle frame a
        nothing_gone (Some x) m i a = let y : ending.Done x ≡ ending.Gone = sym (lost x m) ∙ gone_by frame page sense i in absurd (cc)

        nothing_stopped : (u : Option ScsiResult) → h.machine.outcome n ≡ u → said_in frame ≡ Stopped → TellsOutcome q c.handle r.command u (said_reply q frame page sense) → TellsNothing page sense
        nothing_stopped None m i a = ended_nothing c.handle frame a
        nothing_stopped (Some x) m i a = let y : ending.Done x ≡ ending.Terminated = sym (lost x m) ∙ stopped_by frame page sense i in absurd (cc)

        result : (x : ScsiResult) → h.machine.outcome n ≡ Some x → Tells q l.command x d frame page sense
        result x m =
            let e : said_reply q frame page sense ≡ result_said q c.handle r.command.len (moved_by (written_by r.command) x) x = subst (λ u. TellsOutcome q c.handle r.command u (said_reply q frame page sense)) m a in
            let i = f.limits.cmds n c ce in
            let u = fit n x m in
            let j = within w h f.flights q (request.Command n) o in
            let g = (f.messages.named n).fit r re in
            subst (λ k. Tells q k x d frame page sense) same_command
            (result_tells q c.handle r.command x (omega (arith, i)) (omega (arith, j)) u.0 (subst (λ k. k < 2 ^ 32) (moved_is r.command x) (moved_fits r.command g x u.1)) (omega (arith, u)) (moved_within r.command x g (pays n r x re m)) d frame page sense made
            (subst (λ k. said_reply q frame page sense ≡ result_said q c.handle r.command.len k x) (moved_is r.command x) e))

        by_says : (says : Says) (k : PathStage) → said_in frame ≡ says → MayReply h q says k → HasItsResult h q k (Open (request.Command n)) → TellsAt q (Some l) k d frame page sense
        by_says AResult Accepted i m t = absurd m
        by_says AResult Posted i m t = absurd m
        by_says AResult AtController i m t = absurd m
        by_says AResult Sent i m t = absurd m
        by_says AResult AtDisk i m t = absurd m
        by_says AResult HasRun i m t = absurd m
        by_says AResult (SaysResult x) i m t = absurd m
        by_says AResult (HasResult x) i m t = result x t
        by_says AResult SaysGone i m t = absurd m
        by_says AResult HasGone i m t = absurd m
        by_says AResult SaysTerminated i m t = absurd m
        by_says AResult HasTerminated i m t = absurd m
        by_says AResult (Replied y z) i m t = absurd m
        by_says AResult (Heard z) i m t = absurd m
        by_says NotThere Accepted i m t = absurd m
        by_says NotThere Posted i m t = absurd m
        by_says NotThere AtController i m t = nothing_gone (h.machine.outcome n) refl i a
        by_says NotThere Sent i m t = absurd m
        by_says NotThere AtDisk i m t = absurd m
        by_says NotThere HasRun i m t = absurd m
        by_says NotThere (SaysResult x) i m t = absurd m
        by_says NotThere (HasResult x) i m t = absurd m
        by_says NotThere SaysGone i m t = absurd m
        by_says NotThere HasGone i m t = nothing_gone (h.machine.outcome n) refl i a
        by_says NotThere SaysTerminated i m t = absurd m
        by_says NotThere HasTerminated i m t = absurd m
        by_says NotThere (Replied y z) i m t = absurd m
        by_says NotThere (Heard z) i m t = absurd m
        by_says Stopped Accepted i m t = absurd m
        by_says Stopped Posted i m t = absurd m
        by_says Stopped AtController i m t = nothing_stopped (h.machine.outcome n) refl i a
        by_says Stopped Sent i m t = absurd m
        by_says Stopped AtDisk i m t = absurd m
        by_says Stopped HasRun i m t = absurd m
        by_says Stopped (SaysResult x) i m t = absurd m
        by_says Stopped (HasResult x) i m t = absurd m
        by_says Stopped SaysGone i m t = absurd m
        by_says Stopped HasGone i m t = absurd m
        by_says Stopped SaysTerminated i m t = absurd m
        by_says Stopped HasTerminated i m t = nothing_stopped (h.machine.outcome n) refl i a
        by_says Stopped (Replied y z) i m t = absurd m
        by_says Stopped (Heard z) i m t = absurd m

    by_tables : (c : Option Cmd) (r : Option OpenRequest) → finmap.get w.host.cmds n ≡ c → finmap.get h.machine.requests n ≡ r → AnswersCommand w h q n (said_reply q frame page sense) c r
        → MayReply h q (said_in frame) (stage_of h q) → HasItsResult h q (stage_of h q) (Open (request.Command n)) → TellsAt q (Some l) (stage_of h q) d frame page sense
    by_tables None r ce re a m t = absurd a
    by_tables (Some c) None ce re a m t = absurd a
    by_tables (Some c) (Some r) ce re a m t = by_stage c r ce re one_command a (said_in frame) (stage_of h q) refl m t
      where
        one_smid : c.smid ≡ q
        one_smid = let z : option_map (λ (x : Cmd). x.smid) (Some c) ≡ Some q = subst (λ u. option_map (λ (x : Cmd). x.smid) u ≡ Some q) ce (command_of w h f n q o) in cc

        one_command : r.command ≡ l.command
        one_command =
            let y : Live = record { number = n; address = r.address; command = r.command } in
            let z : Some y ≡ Some l = sym (subst (λ j. (h.walk j).known.live ≡ Some y) one_smid ((f.messages.named n).live c r ce re)) ∙ known in
            ap (λ (v : Live). v.command) (some_is y l z)
          where
            some_is : (x y : Live) → Some x ≡ Some y → x ≡ y
            some_is x y e = cc

  own_tells : (queue d : ℕ) (frame : Option (List ℕ)) (page sense : List ℕ) → IsFormed (smid_in d) d frame → RepliesAt w h (smid_in d) frame → SaidIs w h queue (said_reply (smid_in d) frame page sense)
      → TellsAt (smid_in d) (h.walk (smid_in d)).known.live (stage_of h (smid_in d)) d frame page sense
  own_tells queue d frame page sense made a b = by_live (h.walk (smid_in d)).known.live refl
    where
      by_live : (u : Option Live) → (h.walk (smid_in d)).known.live ≡ u → TellsAt (smid_in d) u (stage_of h (smid_in d)) d frame page sense
      by_live None i = tt
      by_live (Some l) i =
          let o = live_is_open w h f (smid_in d) l i in
          let m = a (is_asked (slot w.host (smid_in d)) l.number o) in
          let j = inside w h f (smid_in d) (request.Command l.number) o in
          let c = answers_of w h f tags fit queue (smid_in d) frame page sense j.0 b in
          by_tables queue (smid_in d) d l.number o frame page sense made c l i (finmap.get w.host.cmds l.number) (finmap.get h.machine.requests l.number) refl refl
          (subst (AnswersBy w h queue (smid_in d) (said_reply (smid_in d) frame page sense)) o c).1 m.0 (subst (HasItsResult h (smid_in d) (stage_of h (smid_in d))) o m.1)

  one_tells : (queue d : ℕ) (frame : Option (List ℕ)) (page sense : List ℕ) → IsFormed (smid_in d) d frame → RepliesAt w h (smid_in d) frame → SaidIs w h queue (said_reply (smid_in d) frame page sense)
      → (s : ℕ) → RepliesAsk s (h.walk s) (entry.Put (up_lane queue) (item.Up (up.Reply d frame page sense)))
  one_tells queue d frame page sense made a b s = by_name_of (names_command s d) refl
    where
      by_key : names_command s d ≡ true → (x : Bool) → (s == smid_in d) ≡ x → TellsAt s (h.walk s).known.live (h.walk s).stage d frame page sense
      by_key t false i = not_both (names_command s d) (not_named s d i) t
      by_key t true i = subst (λ j. TellsAt j (h.walk j).known.live (h.walk j).stage d frame page sense) (sym (equal s (smid_in d) i)) (own_tells queue d frame page sense made a b)

      by_name_of : (x : Bool) → names_command s d ≡ x → MatchBool x (TellsAt s (h.walk s).known.live (h.walk s).stage d frame page sense) (Unit {0})
      by_name_of false t = tt
      by_name_of true t = by_key t (s == smid_in d) refl

  abbrev OnCase : World → List Entry → Type 0
  OnCase v t = (s : ℕ) → Passes (walk_next s) (RepliesAsk s) (h.walk s) t

  puts_up : (queue : ℕ) (y : Said) (rest : List Said) (z : Up) → outbox_of w.ioc queue ≡ y ∷ rest → up_of y (slice_get w.ioc.ring 0) ≡ Some z → OnCase w (entry.Put (up_lane queue) (item.Up z) ∷ [])
  puts_up queue y rest z e u = by_said y e u
    where
      same_item : (a b : Up) → Some a ≡ Some b → a ≡ b
      same_item a b i = cc

      lone : (x : Up) → x ≡ z → OnCase w (entry.Put (up_lane queue) (item.Up x) ∷ []) → OnCase w (entry.Put (up_lane queue) (item.Up z) ∷ [])
      lone x i a = subst (λ j. OnCase w (entry.Put (up_lane queue) (item.Up j) ∷ [])) i a

      flagged : (s x : ℕ) → flags_in (address_descriptor s x) ≡ address_flags
      flagged s x = let e : flags_in (address_descriptor s x) ≡ 1 = omega arith in e

      by_free : (s : ℕ) (frame page sense : List ℕ) (o : Option ℕ) → outbox_of w.ioc queue ≡ said.Framed s frame page sense ∷ rest → Rattle.mpt_rules.specs.Ioc.Sending.framed_up s frame page sense o ≡ Some z → OnCase w (entry.Put (up_lane queue) (item.Up z) ∷ [])
      by_free s frame page sense None e u = absurd (cc)
      by_free s frame page sense (Some g) e u =
          let b = first_said w h f tags fit queue (said.Framed s frame page sense) rest e in
          let i = smid_addressed s (reply_frame_address g) (short_of w h f tags fit queue s (Some frame) page sense b) in
          lone (up.Reply (address_descriptor s (reply_frame_address g)) (Some frame) page sense) (same_item (up.Reply (address_descriptor s (reply_frame_address g)) (Some frame) page sense) z u)
          (λ k. (
            one_tells queue (address_descriptor s (reply_frame_address g)) (Some frame) page sense (flagged s (reply_frame_address g))
                (subst (λ q. RepliesAt w h q (Some frame)) (sym i) (first_stage w h f tags fit queue (said.Framed s frame page sense) rest e)) (subst (λ q. SaidIs w h queue (said_reply q (Some frame) page sense)) (sym i) b) k,
            tt,
          ))

      by_said : (y : Said) → outbox_of w.ioc queue ≡ y ∷ rest → up_of y (slice_get w.ioc.ring 0) ≡ Some z → OnCase w (entry.Put (up_lane queue) (item.Up z) ∷ [])
      by_said (said.Value n) e u = lone (up.Value n) (same_item (up.Value n) z u) (λ k. (tt, tt))
      by_said (said.Mark n) e u = lone (up.Mark n) (same_item (up.Mark n) z u) (λ k. (tt, tt))
      by_said said.Calm e u = lone up.Calm (same_item up.Calm z u) (λ k. (tt, tt))
      by_said (said.Success s page sense) e u =
          let b = first_said w h f tags fit queue (said.Success s page sense) rest e in
          let i = smid_succeeded s (short_of w h f tags fit queue s None page sense b) in
          lone (up.Reply (success_descriptor s) None page sense) (same_item (up.Reply (success_descriptor s) None page sense) z u)
          (λ k. (
            one_tells queue (success_descriptor s) None page sense (ap success_descriptor (sym i))
                (subst (λ q. RepliesAt w h q None) (sym i) (first_stage w h f tags fit queue (said.Success s page sense) rest e)) (subst (λ q. SaidIs w h queue (said_reply q None page sense)) (sym i) b) k,
            tt,
          ))
      by_said (said.Framed s frame page sense) e u = by_free s frame page sense (slice_get w.ioc.ring 0) e u

  -- ---- every other case

  untold : (t : List Entry) → EachEntry IsUntold t → OnCase w t
  untold t a s = untold_pass s (h.walk s) t a

  submitted : (n a : ℕ) (form : CommandForm) (used up : Bool) (handle : Option ℕ) (fit : Bool) (least : Option ℕ)
      → OnCase w (by_result (input.Submit n a form) (entry.RefuseSubmit n) (submits_by w.host n a (command_named form) used up handle fit least)).entries
  submitted n a form true up handle fit least s = (tt, (tt, tt))
  submitted n a form false false handle fit least s = (tt, (tt, tt))
  submitted n a form false true None fit least s = (tt, (tt, tt))
  submitted n a form false true (Some x) false least s = (tt, (tt, tt))
  submitted n a form false true (Some x) true None s = (tt, (tt, tt))
  submitted n a form false true (Some x) true (Some q) s = (tt, (tt, tt))

  told : (i : Input) → IsHosts i → OnCase w (host_told w.host i).entries
  told input.Start c = untold (host_told w.host input.Start).entries (quiet_untold (host_told w.host input.Start).entries (input_quiet (host_told w.host input.Start).entries (input_words w.host input.Start) (tame.option_tame input.Start call.Start (inputs.starts_in w.host w.host.mode) (tame.starts_tame w.host w.host.mode))))
  told (input.Submit n d form) c = submitted n d form (finset.contains w.host.accepted n) (is_up w.host.mode) (ready_handle w.host.phases d) (fits (command_named form)) (least_free class.ScsiIo w.host.pool)
  told (input.Abort n) c =
      let o = aborts_by w.host n (is_up w.host.mode) (finmap.get w.host.cmds n) (finmap.get w.host.aborts n) (least_free class.High w.host.pool) in
      let a = tame.result_tame (input.Abort n) (entry.Refuse (call.Abort n)) o (λ x. tt) (tame.aborts_tame w.host n (is_up w.host.mode) (finmap.get w.host.cmds n) (finmap.get w.host.aborts n) (least_free class.High w.host.pool)) in
      untold (host_told w.host (input.Abort n)).entries (quiet_untold (host_told w.host (input.Abort n)).entries (input_quiet (host_told w.host (input.Abort n)).entries (input_words w.host (input.Abort n)) a))
  told (input.TargetReset address) c =
      let o = resets_target_by w.host address (is_up w.host.mode) (ready_handle w.host.phases address) (least_free class.High w.host.pool) in
      let a = tame.result_tame (input.TargetReset address) (entry.Refuse (call.TargetReset address)) o (λ x. tt) (tame.targets_tame w.host address (is_up w.host.mode) (ready_handle w.host.phases address) (least_free class.High w.host.pool)) in
      untold (host_told w.host (input.TargetReset address)).entries (quiet_untold (host_told w.host (input.TargetReset address)).entries (input_quiet (host_told w.host (input.TargetReset address)).entries (input_words w.host (input.TargetReset address)) a))
  told input.Reset c = let a = tame.option_tame input.Reset call.Reset (inputs.diag_resets_in w.host w.host.mode) (tame.diag_tame w.host w.host.mode) in untold (host_told w.host input.Reset).entries (quiet_untold (host_told w.host input.Reset).entries (input_quiet (host_told w.host input.Reset).entries (input_words w.host input.Reset) a))
  told input.UnitReset c = let a = tame.option_tame input.UnitReset call.UnitReset (inputs.unit_resets_in w.host w.host.mode) (tame.unit_tame w.host w.host.mode) in untold (host_told w.host input.UnitReset).entries (quiet_untold (host_told w.host input.UnitReset).entries (input_quiet (host_told w.host input.UnitReset).entries (input_words w.host input.UnitReset) a))
  told (input.Plug address expander phy) c = absurd c
  told (input.Unplug address) c = absurd c

  works_high : (p : Post) (rest : List Post) → OnCase w (work.works_on (record w.ioc { high = rest }) p).entries
  works_high p rest = let t = (work.works_on (record w.ioc { high = rest }) p).entries in untold t (quiet_untold t (told_quiet t (told_high w.ioc (p ∷ rest)) (tame.works_tame (record w.ioc { high = rest }) p)))

  works_normal : (p : Post) (rest : List Post) → OnCase w (work.works_on (record w.ioc { normal = rest }) p).entries
  works_normal p rest = let t = (work.works_on (record w.ioc { normal = rest }) p).entries in untold t (quiet_untold t (told_quiet t (told_normal w.ioc (p ∷ rest)) (tame.works_tame (record w.ioc { normal = rest }) p)))

  owes : OwesTold OnCase w
  owes =
      record {
        idles = λ c s. (tt, tt);
        host_puts = λ x rest e s. (tt, tt);
        host_takes = λ queue x rest e y. untold (entry.Take (up_lane queue) (item.Up x) ∷ (hears_up w.host queue x).entries) (tt, quiet_untold (hears_up w.host queue x).entries (hears_quietly w.host queue x));
        host_told = λ i c. told i c;
        host_looks = λ e s. tt;
        host_stops = λ e s. tt;
        no_session = λ s. tt;
        ioc_takes = λ x rest e. untold (entry.Take Rattle.mpt_trace.specs.declared.lane.LaneName.TheVariants.Down (item.Down x) ∷ (adapter.takes_down w.ioc x).entries) (tt, quiet_untold (adapter.takes_down w.ioc x).entries (told_quiet (adapter.takes_down w.ioc x).entries (told_down w.ioc x) (tame.down_tame w.ioc x)));
        ioc_high = λ p rest e. works_high p rest;
        ioc_normal = λ p rest e. works_normal p rest;
        ioc_puts_out = λ x rest e s. (tt, tt);
        ioc_takes_back = λ x rest e. untold (entry.Take Rattle.mpt_trace.specs.declared.lane.LaneName.TheVariants.Back (item.Back x) ∷ (adapter.takes_back w.ioc x).entries) (tt, quiet_untold (adapter.takes_back w.ioc x).entries (told_quiet (adapter.takes_back w.ioc x).entries (told_back w.ioc x) (tame.back_tame w.ioc x)));
        ioc_puts = λ queue y rest z e u. puts_up queue y rest z e u;
        fabric_takes = λ x rest e s. (tt, tt);
        fabric_says = λ x rest e s. tt;
        fabric_puts = λ x rest e s. (tt, tt);
        fabric_runs = λ tag address e s. (tt, tt);
        plugs = λ address expander phy t p. untold t (plug_untold t p);
        unplugs = λ address t p. untold t (plug_untold t p);
        calms = λ s. tt;
      }

  pub tells_pass : NothingIsStrange w → (c : Case) (s : ℕ) → Passes (walk_next s) (RepliesAsk s) (h.walk s) (entries w c)
  tells_pass plain c = kept_told OnCase w plain owes c
