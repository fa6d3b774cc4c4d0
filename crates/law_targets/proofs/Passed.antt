-- The entries of a case pass the rules of tasks and of pages: a task goes to the address to which the handle of its post is bound, and a page has the
-- address of its handle.
use Rattle.std.proofs.Common.{◌≡◌, ℕ, zero, suc, ◌==◌, ◌&&◌, nat_le, if◌then◌else◌, Bool, true, false, List, [], ◌∷◌, length, map, Option, Some, None, slice_get, option_map, refl, ap, sym, ◌∙◌, subst, arith}
use Rattle.std.specs.Prelude.{All}
use Rattle.std.specs.FinMap as finmap
use Rattle.std.specs.Bool.{then_some}
use Rattle.std.proofs.lemmas.Bool.{eqb-true}
use Rattle.std.proofs.lemmas.List.Elements.{All-head}
use Rattle.mpi_layout.specs.Rows.{field}
use Rattle.scsi_disk.specs.declared.command.Command.{Command}
use Rattle.scsi_disk.specs.declared.scsi_result.ScsiResult.{ScsiResult}
use Rattle.scsi_disk.specs.declared.scsi_result.TheConstants.{GOOD}
use Rattle.scsi_msgs.specs.ScsiReply.{scsi_reply_layout, scsi_reply_values}
use Rattle.smid_pool.specs.Pool.{Free, Open, Parked, Slot}
use Rattle.mpt_messages.specs.IocFrames.{reply_frame}
use Rattle.mpt_messages.specs.declared.ioc_reply.IocReply.TheVariants as reply
use Rattle.mpt_wire.specs.Handles.Bindings.{Plug, bound_next}
use Rattle.mpt_wire.specs.Machine.State.{OpenRequest}
use Rattle.mpt_wire.specs.Handles.Names.{is_device_page}
use Rattle.mpt_wire.specs.Handles.Pages.{IsPageOfBinding, PageAsks, address_of}
use Rattle.mpt_wire.specs.Handles.Tasks.{Aiming, IsAt, TaskAsks, aiming_next}
use Rattle.mpt_wire.specs.Messages.Fields.{address_descriptor, function_in, page_dev_handle_in, page_sas_address_in, reply_frame_address, success_descriptor}
use Rattle.mpt_wire.specs.Paths.Commands.{Live}
use Rattle.mpt_wire.specs.Walks.Passes.{EachEntry, Passes}
use Rattle.mpt_trace.specs.declared.entry.Entry.{Entry}
use Rattle.mpt_trace.specs.declared.entry.Entry.TheVariants as entry
use Rattle.mpt_trace.specs.declared.item.Item.TheVariants as item
use Rattle.mpt_trace.specs.declared.item.Out.{Out}
use Rattle.mpt_trace.specs.declared.item.Out.TheVariants as out
use Rattle.mpt_trace.specs.declared.item.Up.{Up}
use Rattle.mpt_trace.specs.declared.item.Up.TheVariants as upward
use Rattle.mpt_trace.specs.declared.lane.LaneName.TheVariants as lane
use Rattle.mpt_rules.specs.declared.request.Request.{Request}
use Rattle.mpt_rules.specs.declared.request.Request.TheVariants as request
use Rattle.mpt_rules.specs.declared.said.Said.{Said}
use Rattle.mpt_rules.specs.declared.said.Said.TheVariants as said
use Rattle.mpt_rules.specs.Host.Parts.{Cmd}
use Rattle.mpt_rules.specs.Host.Takes.{hears_up}
use Rattle.mpt_rules.specs.Ioc.Commands.{moved_by, result_status, written_by}
use Rattle.mpt_rules.specs.Ioc.Replies.{outbox_of}
use Rattle.mpt_rules.specs.Ioc.Sending.{up_of}
use Rattle.mpt_rules.specs.Ioc.Steps as step
use Rattle.mpt_rules.specs.Ioc.Tables.{request_at}
use Rattle.mpt_rules.specs.Ioc.Takes as adapter
use Rattle.mpt_rules.specs.Law.{NothingIsStrange}
use Rattle.mpt_rules.specs.World.Cases.{Case, entries}
use Rattle.mpt_rules.specs.World.Counts.{how_many, one_if}
use Rattle.mpt_rules.specs.World.FabricCounts.{is_task_of, sent_task_count}
use Rattle.mpt_rules.specs.World.Inputs.{host_told}
use Rattle.mpt_rules.specs.World.Lines.{said_of}
use Rattle.mpt_rules.specs.World.State.{World, up_lane, up_on}
use Rattle.mpt_rules.proofs.FabricCounts.{sent_task_count-append, sent_task_count-cons}
use Rattle.law_facts.specs.Clock.{is_live}
use Rattle.law_facts.specs.Facts.{Facts}
use Rattle.law_facts.specs.Handles.{PageIs}
use Rattle.law_facts.specs.History.{History}
use Rattle.law_facts.specs.Messages.{AnswersBy, AnswersCommand, IsLiveTask, OutIs, SaidIs, TellsOutcome}
use Rattle.law_facts.specs.Words.{is_command, is_order, is_reply, slot}
use Rattle.law_flights.proofs.HostQuiet as calm
use Rattle.law_flights.proofs.HostTold.{told_input}
use Rattle.law_flights.proofs.IocTold.{told_back, told_down, told_high, told_normal}
use Rattle.law_flights.proofs.Told as flights
use Rattle.law_asked.proofs.Opened.{opened}
use Rattle.law_messages.proofs.Agreeing.{all_last, not_both, same}
use Rattle.law_messages.proofs.PostsKept.{live_is_open}
use Rattle.law_moves.proofs.CasesTold.{IsPlugWord, OwesTold, kept_told}
use Rattle.law_moves.proofs.Counted.{how_many-cons, true_by_one}
use Rattle.law_targets.specs.Targets.{NoOrdersBeforeInit}
use Rattle.law_targets.proofs.BoundKept.{under_of}
use Rattle.law_targets.proofs.Heard.{config_of, no_page}

-- ---- entries that put nothing

abbrev pub NoPut : Entry → Type 0
NoPut (entry.Put l x) = ⊥
NoPut e = Unit {0}

pub told_put : (t : List Entry) → EachEntry flights.IsTold t → EachEntry NoPut t
told_put [] a = tt
told_put (e ∷ t) a = (one e a.0, told_put t a.1)
  where
    one : (e : Entry) → flights.IsTold e → NoPut e
    one (entry.Put l x) h = absurd h
    one _ h = tt

pub quiet_put : (t : List Entry) → EachEntry calm.IsQuiet t → EachEntry NoPut t
quiet_put [] a = tt
quiet_put (e ∷ t) a = (one e a.0, quiet_put t a.1)
  where
    one : (e : Entry) → calm.IsQuiet e → NoPut e
    one (entry.Put l x) h = absurd h
    one _ h = tt

pub plug_put : (t : List Entry) → EachEntry IsPlugWord t → EachEntry NoPut t
plug_put [] a = tt
plug_put (e ∷ t) a = (one e a.0, plug_put t a.1)
  where
    one : (e : Entry) → IsPlugWord e → NoPut e
    one (entry.Put l x) h = absurd h
    one _ h = tt

task_free : (g : Aiming) (t : List Entry) → EachEntry NoPut t → Passes aiming_next TaskAsks g t
task_free g [] a = tt
task_free g (e ∷ t) a = (one e a.0, task_free (aiming_next g e) t a.1)
  where
    one : (e : Entry) → NoPut e → TaskAsks g e
    one (entry.Put l x) h = absurd h
    one _ h = tt

page_free : (g : ℕ → Option Plug) (t : List Entry) → EachEntry NoPut t → Passes bound_next PageAsks g t
page_free g [] a = tt
page_free g (e ∷ t) a = (one e a.0, page_free (bound_next g e) t a.1)
  where
    one : (e : Entry) → NoPut e → PageAsks g e
    one (entry.Put l x) h = absurd h
    one _ h = tt

-- a SCSI IO's reply
scsi_function : (handle n status code moved count : ℕ) → function_in (reply_frame (reply.Scsi handle n status code moved count)) ≡ 0
unfolding field scsi_reply_layout scsi_reply_values
scsi_function handle n status code moved count = refl

-- the first doesn't pass
counted : {X : Type 0} (test : X → Bool) (x : X) (xs : List X) → how_many test (x ∷ xs) ≡ 0 → test x ≡ false
counted test x xs z = by_test (test x) (let c = how_many-cons test x xs in omega (arith, c, z))
  where
    by_test : (b : Bool) → one_if b ≡ 0 → b ≡ false
    by_test true u = absurd (omega (arith, u))
    by_test false u = refl

-- above queue 0 only SCSI IOs are answered, and these have no page
pub page_above : (w : World) (h : History) (queue s : ℕ) (frame page sense : List ℕ) → SaidIs w h queue (said.Framed s frame page sense) → (queue ≡ 0 → ⊥) → is_device_page frame page ≡ false
page_above w h queue s frame page sense e q = by_smid s e
  where
    not_scsi : (handle n status code moved count : ℕ) → frame ≡ reply_frame (reply.Scsi handle n status code moved count) → is_device_page frame page ≡ false
    not_scsi handle n status code moved count e = by_page (is_device_page frame page) refl
      where
        by_page : (b : Bool) → is_device_page frame page ≡ b → b ≡ false
        by_page false t = refl
        by_page true t = let a = config_of frame page t in let z = ap function_in e ∙ scsi_function handle n status code moved count in let u : 4 ≡ 0 = sym a ∙ z in absurd (omega (arith, u))

    none : page ≡ [] → is_device_page frame page ≡ false
    none p = ap (is_device_page frame) p ∙ no_page frame

    tells : (n handle : ℕ) (c : Command) (o : Option ScsiResult) → TellsOutcome n handle c o (said.Framed n frame page sense) → is_device_page frame page ≡ false
    tells n handle c None a = none a.0
    tells n handle c (Some r) a = by_test (r.status == GOOD && moved_by (written_by c) r == c.len) a
      where
        by_test : (b : Bool) → said.Framed n frame page sense ≡ (if b then said.Success n r.payload r.sense else said.Framed n (reply_frame (reply.Scsi handle n r.status (result_status (moved_by (written_by c) r) c.len) (moved_by (written_by c) r) (length r.sense))) r.payload r.sense) → is_device_page frame page ≡ false
        by_test true a = absurd (cc)
        by_test false a = let z : frame ≡ reply_frame (reply.Scsi handle n r.status (result_status (moved_by (written_by c) r) c.len) (moved_by (written_by c) r) (length r.sense)) = cc in not_scsi handle n r.status (result_status (moved_by (written_by c) r) c.len) (moved_by (written_by c) r) (length r.sense) z

    by_command : (n m : ℕ) (c : Option Cmd) (r : Option OpenRequest) → AnswersCommand w h n m (said.Framed n frame page sense) c r → is_device_page frame page ≡ false
    by_command n m None r a = absurd a
    by_command n m (Some c) None a = absurd a
    by_command n m (Some c) (Some r) a = tells n c.handle r.command (h.machine.outcome m) a

    by_slot : (n : ℕ) (x : Slot Request) → AnswersBy w h queue n (said.Framed n frame page sense) x → is_device_page frame page ≡ false
    by_slot n Free a = absurd a
    by_slot n Parked a = absurd a
    by_slot n (Open (request.Command m)) a = by_command n m (finmap.get w.host.cmds m) (finmap.get h.machine.requests m) a.1
    by_slot n (Open (request.Abort m t)) a = absurd (q a.0)
    by_slot n (Open (request.TargetReset b)) a = absurd (q a.0)
    by_slot n (Open (request.Leave g)) a = absurd (q a.0)
    by_slot n (Open (request.Page g)) a = absurd (q a.0)
    by_slot n (Open (request.Remove g)) a = absurd (q a.0)
    by_slot n (Open (request.Ack ev context)) a = absurd (q a.0)
    by_slot n (Open request.Notification) a = absurd (q a.0)
    by_slot n (Open request.PortEnable) a = absurd (q a.0)

    by_smid : (n : ℕ) → SaidIs w h queue (said.Framed n frame page sense) → is_device_page frame page ≡ false
    by_smid zero a = absurd (q a.0)
    by_smid (suc n) a = by_slot (suc n) (slot w.host (suc n)) a

module _ (w : World) (h : History) (f : Facts w h) (plain : NothingIsStrange w) (orders : NoOrdersBeforeInit w) where
  record Rules (t : List Entry) : Type 0 where
    tasks : Passes aiming_next TaskAsks h.aiming t
    pages : Passes bound_next PageAsks h.aiming.bound t

  free : (t : List Entry) → EachEntry NoPut t → Rules t
  free t a = record { tasks = task_free h.aiming t a; pages = page_free h.aiming.bound t a }

  OnRules : World → List Entry → Type 0
  OnRules v t = Rules t

  -- ---- a task

  live_by : (x : Out) (rest : List Out) → w.ioc.out ≡ x ∷ rest → is_order x ≡ true → is_live w ≡ true
  live_by x rest e o = by_live (is_live w) refl
    where
      by_live : (b : Bool) → is_live w ≡ b → b ≡ true
      by_live true l = refl
      by_live false l = not_both (is_order x) (counted is_order x rest (sym (ap (how_many is_order) e) ∙ orders l)) o

  task : (tag address : ℕ) (command : Command) (rest : List Out) → w.ioc.out ≡ out.Task tag address command ∷ rest → IsAt h.aiming.bound address (h.aiming.handle tag)
  task tag address command rest e = by_live (h.walk tag).known.live refl its
    where
      its : IsLiveTask address command (h.walk tag).known.live
      its = All-head (OutIs w h) (out.Task tag address command) rest (subst (All (OutIs w h)) e (all_last (OutIs w h) w.out w.ioc.out f.messages.out))

      live : is_live w ≡ true
      live = live_by (out.Task tag address command) rest e refl

      at_fabric : (n : ℕ) → slot w.host tag ≡ Open (request.Command n) → is_command (request_at w.ioc tag) ≡ true
      at_fabric n o =
          let q = opened w h f n tag o in
          let l = q.least in let m = q.most in
          let z = (f.flights.fabric tag l (omega (arith, m))).commands live in
          let a = sent_task_count-append tag w.out w.ioc.out in let b = ap (sent_task_count tag) e in let c = sent_task_count-cons tag (out.Task tag address command) rest in
          let i : one_if (is_task_of tag (out.Task tag address command)) ≡ 1 = ap one_if (same tag) in
          true_by_one (is_command (request_at w.ioc tag)) (omega (arith, z, a, b, c, i))

      by_live : (o : Option Live) → (h.walk tag).known.live ≡ o → IsLiveTask address command o → IsAt h.aiming.bound address (h.aiming.handle tag)
      by_live None q t = absurd t
      by_live (Some l) q t =
          let o = live_is_open w h f tag l q in
          let z = opened w h f l.number tag o in
          let k = at_fabric l.number o in
          let one = ap one_if k in
          let smid = z.smid in
          let handle : h.aiming.handle tag ≡ Some z.cmd.handle =
          subst (λ j. h.aiming.handle j ≡ Some z.cmd.handle) z.smid
          ((f.handles.aimed l.number).handle z.cmd z.named (let one2 : one_if (is_command (request_at w.ioc z.cmd.smid)) ≡ 1 = ap (λ j. one_if (is_command (request_at w.ioc j))) z.smid ∙ one in omega (arith, one2))) in
          let under = under_of w h f l.number tag o (omega (arith, one)) in
          let bound : h.serving.bound z.cmd.handle ≡ Some (record { address = z.request.address; number = z.request.plug }) =
          f.handles.bound l.number z.cmd z.request live z.named z.asked (subst (λ j. Rattle.law_facts.specs.Handles.is_under_way w j ≡ true) (sym z.smid) under) in
          let aimed : h.aiming.bound z.cmd.handle ≡ Some (record { address = z.request.address; number = z.request.plug }) = (f.handles.each z.cmd.handle (f.limits.cmds l.number z.cmd z.named)).binds.aimed ∙ bound in
          let known : Some l ≡ Some (record { number = l.number; address = z.request.address; command = z.request.command }) = sym q ∙ z.live in
          let where_to : l.address ≡ z.request.address = ap_address l (record { number = l.number; address = z.request.address; command = z.request.command }) known in
          subst (IsAt h.aiming.bound address) (sym handle) (ap address_of aimed ∙ ap Some (sym where_to ∙ sym t.0))
        where
          ap_address : (a b : Live) → Some a ≡ Some b → a.address ≡ b.address
          ap_address a b e = let z : a ≡ b = cc in ap (λ (y : Live). y.address) z

  puts_out : (x : Out) (rest : List Out) → w.ioc.out ≡ x ∷ rest → Rules (entry.Put lane.Out (item.Out x) ∷ [])
  puts_out (out.Task tag address command) rest e = record { tasks = (task tag address command rest e, tt); pages = (tt, tt) }
  puts_out (out.Abort smid target) rest e = record { tasks = (tt, tt); pages = (tt, tt) }
  puts_out (out.TargetReset smid address) rest e = record { tasks = (tt, tt); pages = (tt, tt) }
  puts_out out.Discover rest e = record { tasks = (tt, tt); pages = (tt, tt) }
  puts_out (out.Link generation) rest e = record { tasks = (tt, tt); pages = (tt, tt) }
  puts_out out.Stop rest e = record { tasks = (tt, tt); pages = (tt, tt) }

  -- ---- a page

  -- what is bound at an address is known to both rules
  both_bound : (g a : ℕ) → option_map (λ (p : Plug). p.address) (h.serving.bound g) ≡ Some a → address_of (h.aiming.bound g) ≡ Some a
  both_bound g a e = by_handle (nat_le 0x0009 g) (nat_le g 0x0048) refl refl
    where
      outside : {T : Type 0} → h.serving.bound g ≡ None → T
      outside n = let z : None ≡ Some a = sym (ap (option_map (λ (p : Plug). p.address)) n) ∙ e in absurd (cc)

      by_handle : (x y : Bool) → nat_le 0x0009 g ≡ x → nat_le g 0x0048 ≡ y → address_of (h.aiming.bound g) ≡ Some a
      by_handle true true s t = ap address_of (f.handles.each g (grind (arith, s), grind (arith, t))).binds.aimed ∙ e
      by_handle true false s t = outside (f.handles.outside g (λ i. let b = i.1 in absurd (grind (arith, b, t))))
      by_handle false y s t = outside (f.handles.outside g (λ i. let b = i.0 in absurd (grind (arith, b, s))))

  module _ (queue : ℕ) (y : Said) (rest : List Said) (first : outbox_of w.ioc queue ≡ y ∷ rest) where
    reply_live : is_reply y ≡ true → is_live w ≡ true
    reply_live r = by_live (is_live w) refl
      where
        by_live : (b : Bool) → is_live w ≡ b → b ≡ true
        by_live true l = refl
        by_live false l = not_both (is_reply y) (counted is_reply y rest (sym (ap (how_many is_reply) first) ∙ f.clock.no_reply_before_init.outboxes l queue)) r

    put_page : (s : ℕ) (frame page sense : List ℕ) → y ≡ said.Framed s frame page sense → queue ≡ 0 → IsPageOfBinding h.aiming.bound (then_some (is_device_page frame page) (record { handle = page_dev_handle_in page; address = page_sas_address_in page }))
    put_page s frame page sense e q = by_page (is_device_page frame page) refl
      where
        live : is_live w ≡ true
        live = reply_live (ap is_reply e)

        its : PageIs w h (said.Framed s frame page sense)
        its = subst (PageIs w h) e (All-head (PageIs w h) y rest (subst (All (PageIs w h)) (ap (outbox_of w.ioc) (sym q) ∙ first) (all_last (PageIs w h) (map said_of (up_on w 0)) (outbox_of w.ioc 0) (f.handles.pages live))))

        by_page : (b : Bool) → is_device_page frame page ≡ b → IsPageOfBinding h.aiming.bound (then_some b (record { handle = page_dev_handle_in page; address = page_sas_address_in page }))
        by_page false t = tt
        by_page true t = both_bound (page_dev_handle_in page) (page_sas_address_in page) (its t).0

    put_framed : (s : ℕ) (frame page sense : List ℕ) → y ≡ said.Framed s frame page sense → IsPageOfBinding h.aiming.bound (then_some (is_device_page frame page) (record { handle = page_dev_handle_in page; address = page_sas_address_in page }))
    put_framed s frame page sense e = by_queue (queue == 0) refl
      where
        by_queue : (b : Bool) → (queue == 0) ≡ b → IsPageOfBinding h.aiming.bound (then_some (is_device_page frame page) (record { handle = page_dev_handle_in page; address = page_sas_address_in page }))
        by_queue true t = put_page s frame page sense e (eqb-true queue 0 t)
        by_queue false t =
            subst (λ b. IsPageOfBinding h.aiming.bound (then_some b (record { handle = page_dev_handle_in page; address = page_sas_address_in page })))
            (sym (page_above w h queue s frame page sense (subst (SaidIs w h queue) e (All-head (SaidIs w h queue) y rest (subst (All (SaidIs w h queue)) first (all_last (SaidIs w h queue) (map said_of (up_on w queue)) (outbox_of w.ioc queue) (f.messages.said queue))))) (λ z. let u : (queue == 0) ≡ true = ap (λ k. k == 0) z in not_both (queue == 0) t u))) tt

  puts_up : (queue : ℕ) (y : Said) (rest : List Said) (z : Up) (free : Option ℕ) → outbox_of w.ioc queue ≡ y ∷ rest → up_of y free ≡ Some z → Rules (entry.Put (up_lane queue) (item.Up z) ∷ [])
  puts_up queue (said.Value v) rest z free e u = let k : upward.Value v ≡ z = cc in subst (λ x. Rules (entry.Put (up_lane queue) (item.Up x) ∷ [])) k (record { tasks = (tt, tt); pages = (tt, tt) })
  puts_up queue (said.Mark g) rest z free e u = let k : upward.Mark g ≡ z = cc in subst (λ x. Rules (entry.Put (up_lane queue) (item.Up x) ∷ [])) k (record { tasks = (tt, tt); pages = (tt, tt) })
  puts_up queue said.Calm rest z free e u = let k : upward.Calm ≡ z = cc in subst (λ x. Rules (entry.Put (up_lane queue) (item.Up x) ∷ [])) k (record { tasks = (tt, tt); pages = (tt, tt) })
  puts_up queue (said.Success s page sense) rest z free e u = let k : upward.Reply (success_descriptor s) None page sense ≡ z = cc in subst (λ x. Rules (entry.Put (up_lane queue) (item.Up x) ∷ [])) k (record { tasks = (tt, tt); pages = (tt, tt) })
  puts_up queue (said.Framed s frame page sense) rest z None e u = absurd (cc)
  puts_up queue (said.Framed s frame page sense) rest z (Some a) e u =
      let k : upward.Reply (address_descriptor s (reply_frame_address a)) (Some frame) page sense ≡ z = cc in
      subst (λ x. Rules (entry.Put (up_lane queue) (item.Up x) ∷ [])) k (record { tasks = (tt, tt); pages = (put_framed queue (said.Framed s frame page sense) rest e s frame page sense refl, tt) })

  owes : OwesTold OnRules w
  unfolding OnRules
  owes =
      record {
        idles = λ c. free (entry.Idle c ∷ []) (tt, tt);
        host_puts = λ x rest e. record { tasks = (tt, tt); pages = (tt, tt) };
        host_takes = λ queue x rest e y. free (entry.Take (up_lane queue) (item.Up x) ∷ (hears_up w.host queue x).entries) (tt, quiet_put (hears_up w.host queue x).entries (calm.quiet_taken w.host queue x None));
        host_told = λ i c. free (host_told w.host i).entries (told_put (host_told w.host i).entries (told_input w.host i));
        host_looks = λ e. free [] tt;
        host_stops = λ e. free [] tt;
        no_session = free [] tt;
        ioc_takes = λ x rest e. free (entry.Take lane.Down (item.Down x) ∷ (adapter.takes_down w.ioc x).entries) (tt, told_put (adapter.takes_down w.ioc x).entries (told_down w.ioc x));
        ioc_high = λ p rest e. free (step.works_on (record w.ioc { high = rest }) p).entries (told_put (step.works_on (record w.ioc { high = rest }) p).entries (told_high w.ioc (p ∷ rest)));
        ioc_normal = λ p rest e. free (step.works_on (record w.ioc { normal = rest }) p).entries (told_put (step.works_on (record w.ioc { normal = rest }) p).entries (told_normal w.ioc (p ∷ rest)));
        ioc_puts_out = λ x rest e. puts_out x rest e;
        ioc_takes_back = λ x rest e. free (entry.Take lane.Back (item.Back x) ∷ (adapter.takes_back w.ioc x).entries) (tt, told_put (adapter.takes_back w.ioc x).entries (told_back w.ioc x));
        ioc_puts = λ queue y rest z e u. puts_up queue y rest z (slice_get w.ioc.ring 0) e u;
        fabric_takes = λ x rest e. free (entry.Take lane.Out (item.Out x) ∷ []) (tt, tt);
        fabric_says = λ x rest e. free [] tt;
        fabric_puts = λ x rest e. record { tasks = (tt, tt); pages = (tt, tt) };
        fabric_runs = λ tag address e. free (entry.Run address tag ∷ []) (tt, tt);
        plugs = λ address expander phy t p. free t (plug_put t p);
        unplugs = λ address t p. free t (plug_put t p);
        calms = free [] tt;
      }

  rules : (c : Case) → Rules (entries w c)
  unfolding OnRules
  rules c = kept_told OnRules w plain owes c

  pub tasks_pass : (c : Case) → Passes aiming_next TaskAsks h.aiming (entries w c)
  tasks_pass c = (rules c).tasks

  pub pages_pass : (c : Case) → Passes bound_next PageAsks h.aiming.bound (entries w c)
  pages_pass c = (rules c).pages
