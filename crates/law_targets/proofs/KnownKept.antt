-- What the rules on the wire know of the handles that the host has stays right: of which it took that they were added, and which pages it has.
use Rattle.std.proofs.Common.{◌≡◌, ◌≢◌, ℕ, zero, suc, ◌+◌, ◌-◌, ◌<◌, ◌≤◌, ◌==◌, ◌&&◌, ◌||◌, ◌⊎◌, inl, inr, cond, not, nat_lt, Bool, true, false, if◌then◌else◌, List, [], ◌∷◌, ◌++◌, length, get_or, map, replicate, Option, Some, None, is_none, is_some, unwrap_or, option_map, refl, ap, sym, ◌∙◌, subst, arith}
use Rattle.std.specs.Prelude.{All}
use Rattle.std.specs.Bool.{then_some}
use Rattle.std.specs.List.{list_any}
use Rattle.std.specs.Option.{option_or}
use Rattle.std.proofs.lemmas.Bool.{eqb-true}
use Rattle.std.proofs.lemmas.List.Elements.{All-head}
use Rattle.smid_pool.specs.Pool.{Free, Open, Parked, Slot, is_open, record_of, slot_of}
use Rattle.removal.specs.Handles.{IsHandle, phase_at, with_phase}
use Rattle.removal.specs.Phases.{after_page}
use Rattle.removal.specs.declared.phase.Phase.{Phase}
use Rattle.removal.specs.declared.phase.Phase.TheVariants as phase
use Rattle.mpi_layout.specs.Rows.{field}
use Rattle.mpt_messages.specs.Function.{byte_of}
use Rattle.mpt_wire.specs.Handles.Names.{Disk, changes_told, is_device_page, page_carried}
use Rattle.mpt_wire.specs.Handles.Pages.{is_gone_change, pages_taken, with_page, without_pages}
use Rattle.mpt_wire.specs.Machine.Causes.{is_resetting, is_up}
use Rattle.mpt_wire.specs.Machine.SoFar.{announced_after, announced_next}
use Rattle.mpt_wire.specs.Machine.State.{put_at}
use Rattle.mpt_wire.specs.Machine.View.{Seen}
use Rattle.mpt_wire.specs.Messages.Fields.{changes_in, event_context_in, event_in, function_in, page_dev_handle_in, page_sas_address_in, smid_in}
use Rattle.mpt_wire.specs.Walks.Passes.{EachEntry}
use Rattle.mpt_trace.specs.declared.entry.Entry.{Entry}
use Rattle.mpt_trace.specs.declared.entry.Entry.TheVariants as entry
use Rattle.mpt_trace.specs.declared.host_state.HostState.{HostState}
use Rattle.mpt_trace.specs.declared.host_state.HostState.TheVariants as state
use Rattle.mpt_trace.specs.declared.item.Item.TheVariants as item
use Rattle.mpt_trace.specs.declared.item.Up.{Up}
use Rattle.mpt_trace.specs.declared.item.Up.TheVariants as upward
use Rattle.mpt_trace.specs.declared.lane.LaneName.TheVariants as lane
use Rattle.mpt_rules.specs.declared.request.Request.{Request}
use Rattle.mpt_rules.specs.declared.request.Request.TheVariants as request
use Rattle.mpt_rules.specs.declared.said.Said.{Said}
use Rattle.mpt_rules.specs.declared.said.Said.TheVariants as said
use Rattle.mpt_rules.specs.declared.status.TheConstants.{IOC_STATUS_SUCCESS}
use Rattle.mpt_rules.specs.declared.why.Why.TheVariants as why
use Rattle.mpt_rules.specs.Fabric.Calls as fab
use Rattle.mpt_rules.specs.Host.Parts.{Host}
use Rattle.mpt_rules.specs.Host.Posts as asks
use Rattle.mpt_rules.specs.Host.Removal as removal
use Rattle.mpt_rules.specs.Host.Replies as replies
use Rattle.mpt_rules.specs.Host.Returns.{after_sent}
use Rattle.mpt_rules.specs.Host.Strange as strange
use Rattle.mpt_rules.specs.Host.Strange.{why_strange}
use Rattle.mpt_rules.specs.Host.Takes.{hears_up, is_starting, looks, stops}
use Rattle.mpt_rules.specs.Ioc.Replies.{outbox_of}
use Rattle.mpt_rules.specs.Ioc.Steps as step
use Rattle.mpt_rules.specs.Ioc.Takes as adapter
use Rattle.mpt_rules.specs.Law.{NothingIsStrange}
use Rattle.mpt_rules.specs.Outcome.{Happening}
use Rattle.mpt_rules.specs.World.Cases.{Case, entries, happens}
use Rattle.mpt_rules.specs.World.Counts.{how_many, one_if}
use Rattle.mpt_rules.specs.World.Inputs.{host_told}
use Rattle.mpt_rules.specs.World.Lines.{said_of, said_reply, up_line}
use Rattle.mpt_rules.specs.World.Settings.{Setting, first_world}
use Rattle.mpt_rules.specs.World.State.{World, up_lane, up_on, with_up}
use Rattle.law_facts.specs.Clock.{in_begun, in_normal, is_live}
use Rattle.law_facts.specs.Facts.{Facts}
use Rattle.law_facts.specs.Handles.{PageIs, RefusalIsLate, before_gone, is_announced, is_departure, is_ready_at, is_refusal_of, phase_of, tells_gone}
use Rattle.law_facts.specs.History.{History, first_history, history_after}
use Rattle.law_facts.specs.Messages.{AnswersBy, IsPageReply, SaidIs, event_like}
use Rattle.law_facts.specs.Words.{is_off, is_reply, slot}
use Rattle.law_handles.proofs.HostSays.{ends_reset_told, told_input, told_reply_to}
use Rattle.law_flights.proofs.IocTold.{told_back, told_down, told_high, told_normal}
use Rattle.law_messages.proofs.Agreeing.{not_both, same}
use Rattle.law_moves.proofs.CasesTold.{OwesTold, kept_told}
use Rattle.law_moves.proofs.Counted.{how_many-cons}
use Rattle.law_moves.proofs.HostGoes.{no_where, none_of_or}
use Rattle.law_targets.specs.Targets.{KnownAs, OffHostsKnown, PagesKnown}
use Rattle.law_targets.proofs.Heard as trace
use Rattle.law_targets.proofs.Heard.{Dull, Known, change_of, heard, known_as, known_of}
use Rattle.law_targets.proofs.PostKinds.{fits}
use Rattle.law_targets.proofs.Views as view
use Rattle.law_targets.proofs.Views.{Hears, Like, Over, Stays, Views, ready_of, seen_as, seen_by_status}

-- ---- small things

above_zero : (n : ℕ) → (suc n == 0) ≡ false
above_zero n = grind arith

disk_tests : (n : ℕ) → IsHandle n → removal.is_disk_handle n ≡ true
disk_tests n i = let a = i.0 in let b = i.1 in grind (arith, a, b)

-- the disk of a page, where there is one
abbrev disk_in : Bool → ℕ → ℕ → Option Disk
disk_in there handle address = then_some there (record { handle = handle; address = address })

abbrev status_of : Bool → ℕ
status_of added = if added then 1 else 2

absent_seen : (n j : ℕ) → seen_as (get_or (replicate n phase.Absent) j phase.Absent) ≡ None
absent_seen zero j = refl
absent_seen (suc n) zero = refl
absent_seen (suc n) (suc j) = absent_seen n j

flipped : (a b : ℕ) (c : Bool) → (a == b) ≡ c → (b == a) ≡ c
flipped a b true t = ap (λ n. b == n) (eqb-true a b t) ∙ same b
flipped a b false t = by_test (b == a) refl
  where
    by_test : (d : Bool) → (b == a) ≡ d → d ≡ false
    by_test false u = refl
    by_test true u = not_both (a == b) t (ap (λ n. a == n) (eqb-true b a u) ∙ same a)

either_mode : (m : HostState) → is_resetting m ≡ false → (is_off m ≡ true) ⊎ ((is_starting m || is_up m) ≡ true)
either_mode state.Off e = inl refl
either_mode state.Starting e = inr refl
either_mode state.Up e = inr refl
either_mode state.Resetting e = absurd (cc)

-- ---- what a reply leaves while a reset goes on

mode_leave : (h : Host) (s : ℕ) (gs : List ℕ) → (asks.gives_high h s gs).mode ≡ h.mode
mode_leave h s [] = refl
mode_leave h s (g ∷ rest) = refl

mode_abort : (h : Host) (s task : ℕ) (x : Slot Request) → (asks.frees_high (replies.unparks h task x) s).mode ≡ h.mode
mode_abort h s task Free = mode_leave (asks.frees h s) s h.wait_high
mode_abort h s task (Open r) = mode_leave (asks.frees h s) s h.wait_high
mode_abort h s task Parked = mode_leave (asks.frees (asks.frees h task) s) s h.wait_high

mode_unless : (h : Host) (s : ℕ) (o : Happening Host) → is_resetting h.mode ≡ true → (replies.unless_resetting h s o).part.mode ≡ h.mode
mode_unless h s o m = ap (λ b. (if b then removal.quietly (asks.frees h s) else o).part.mode) m

pub mode_reply : (h : Host) (s : ℕ) (o : Option Request) (v : replies.Heard) → is_resetting h.mode ≡ true → (replies.hears_reply_to h s o v).part.mode ≡ h.mode
mode_reply h s None v m = ap (λ b. (if b then removal.quietly h else removal.hears_event h (replies.reply_bytes v)).part.mode) m
mode_reply h s (Some (request.Command n)) v m = refl
mode_reply h s (Some (request.Abort n task)) v m = mode_abort (record h { aborts = Rattle.std.specs.FinMap.remove h.aborts n }) s task (slot_of h.pool task)
mode_reply h s (Some (request.TargetReset address)) v m = mode_leave (asks.frees h s) s h.wait_high
mode_reply h s (Some (request.Leave g)) v m = mode_unless h s (removal.quietly (removal.left h s g)) m
mode_reply h s (Some (request.Page g)) v m = mode_unless h s (removal.reads_page h s g (replies.address_read (replies.reply_bytes v) v.page)) m
mode_reply h s (Some (request.Remove g)) v m = mode_unless h s (removal.quietly (removal.removed h s g)) m
mode_reply h s (Some (request.Ack event context)) v m = mode_unless h s (removal.quietly (asks.frees_internal h s)) m
mode_reply h s (Some request.Notification) v m = mode_unless h s (removal.quietly (replies.hears_notified h s)) m
mode_reply h s (Some request.PortEnable) v m = mode_unless h s (replies.after_port_enable h s) m

-- ---- all cases

module _ (w : World) (h : History) (f : Facts w h) (plain : NothingIsStrange w) (off : OffHostsKnown w h) where
  seen : Seen
  seen = record { machine = h.machine; so_far = h.so_far }

  -- behind these entries
  abbrev Knows : List Phase → List Entry → Type 0
  Knows ps t = (g : ℕ) → IsHandle g → Known (seen_as (phase_at ps g)) ((history_after h t).so_far.announced g) ((history_after h t).paged.pages g)

  OnKnown : World → List Entry → Type 0
  OnKnown v t = is_resetting v.host.mode ≡ false → Knows v.host.phases t

  before : is_resetting w.host.mode ≡ false → (g : ℕ) → IsHandle g → Known (seen_as (phase_of w g)) (h.so_far.announced g) (h.paged.pages g)
  before m g i = by_mode (either_mode w.host.mode m)
    where
      by_mode : (is_off w.host.mode ≡ true) ⊎ ((is_starting w.host.mode || is_up w.host.mode) ≡ true) → Known (seen_as (phase_of w g)) (h.so_far.announced g) (h.paged.pages g)
      by_mode (inl e) = known_as (phase_of w g) (h.so_far.announced g) (h.paged.pages g) (off e g i)
      by_mode (inr e) = let k = (f.handles.each g i).known in known_as (phase_of w g) (h.so_far.announced g) (h.paged.pages g) (k.announced e, λ a. k.pages e a)

  -- nothing is told of handles, and the host keeps its phases
  dull : (v : World) (t : List Entry) → EachEntry Dull t → v.host.phases ≡ w.host.phases → (is_resetting v.host.mode ≡ false → is_resetting w.host.mode ≡ false) → OnKnown v t
  unfolding OnKnown
  dull v t a p m e g i =
      let k = before (m e) g i in
      let x = trace.dull_announced t (record { machine = h.machine; so_far = h.so_far }) a in let y = trace.dull_pages t h.paged a in
      subst (λ q. Known (seen_as (phase_at q g)) ((history_after h t).so_far.announced g) ((history_after h t).paged.pages g)) (sym p)
      (ap (λ z. z g) x ∙ k.0, λ b. ap (λ z. z g b) y ∙ k.1 b)

  dull_host : (v : World) (t : List Entry) → EachEntry Dull t → v.host ≡ w.host → OnKnown v t
  dull_host v t a e = dull v t a (ap (λ (x : Host). x.phases) e) (λ m. ap (λ (x : Host). is_resetting x.mode) (sym e) ∙ m)

  put_like : (x : Rattle.mpt_trace.specs.declared.item.Down.Down) (rest : List Rattle.mpt_trace.specs.declared.item.Down.Down) → view.Still w.host (after_sent w.host x rest)
  put_like (Rattle.mpt_trace.specs.declared.item.Down.TheVariants.Post d g p) rest = record { phases = refl; mode = refl }
  put_like (Rattle.mpt_trace.specs.declared.item.Down.TheVariants.Write reg value) rest = record { phases = refl; mode = refl }
  put_like (Rattle.mpt_trace.specs.declared.item.Down.TheVariants.Read reg) rest = record { phases = refl; mode = refl }
  put_like (Rattle.mpt_trace.specs.declared.item.Down.TheVariants.Return address index) rest = record { phases = refl; mode = refl }
  put_like Rattle.mpt_trace.specs.declared.item.Down.TheVariants.Stop rest = record { phases = refl; mode = refl }

  still : (v : World) (t : List Entry) → EachEntry Dull t → view.Still w.host v.host → OnKnown v t
  still v t a s = dull v t a s.phases (λ m. ap is_resetting (sym s.mode) ∙ m)

  -- ---- values and marks

  -- an item that names no handle
  IsSilent : Up → Type 0
  IsSilent (upward.Value value) = Unit {0}
  IsSilent (upward.Mark generation) = Unit {0}
  IsSilent upward.Calm = Unit {0}
  IsSilent (upward.Reply d g page sense) = ⊥

  silent_heard : (queue : ℕ) (x : Up) → IsSilent x → (a : ℕ → Bool) (g : ℕ) → heard queue a x g ≡ a g
  unfolding IsSilent announced_after
  silent_heard zero (upward.Value value) s a g = refl
  silent_heard zero (upward.Mark generation) s a g = refl
  silent_heard zero upward.Calm s a g = refl
  silent_heard zero (upward.Reply d k page sense) s a g = absurd s
  silent_heard (suc queue) x s a g = refl

  silent_pages : (x : Up) → IsSilent x → (p : ℕ → ℕ → Bool) (g b : ℕ) → pages_taken p x g b ≡ p g b
  unfolding IsSilent
  silent_pages (upward.Value value) s p g b = refl
  silent_pages (upward.Mark generation) s p g b = refl
  silent_pages upward.Calm s p g b = refl
  silent_pages (upward.Reply d k page sense) s p g b = absurd s

  silent : (queue : ℕ) (x : Up) (rest : List Up) → IsSilent x → Hears w.host (hears_up w.host queue x) → OnKnown (record (with_up w queue rest) { host = (hears_up w.host queue x).part }) (entry.Take (up_lane queue) (item.Up x) ∷ (hears_up w.host queue x).entries)
  unfolding OnKnown
  silent queue x rest s (Stays k e) m g i =
      let b = before (ap is_resetting (sym k.mode) ∙ m) g i in
      let a : EachEntry Dull (hears_up w.host queue x).entries = subst (EachEntry Dull) (sym e) tt in
      let y = trace.taken_announced queue x (hears_up w.host queue x).entries (record { machine = h.machine; so_far = h.so_far }) a in
      let z = trace.taken_pages queue x (hears_up w.host queue x).entries h.paged a in
      subst (λ q. Known (seen_as (phase_at q g)) ((history_after h (entry.Take (up_lane queue) (item.Up x) ∷ (hears_up w.host queue x).entries)).so_far.announced g) ((history_after h (entry.Take (up_lane queue) (item.Up x) ∷ (hears_up w.host queue x).entries)).paged.pages g)) (sym k.phases)
      (ap (λ r. r g) y ∙ (silent_heard queue x s h.so_far.announced g ∙ b.0), λ c. ap (λ r. r g c) z ∙ (silent_pages x s h.paged.pages g c ∙ b.1 c))
  silent queue x rest s (Over j p e) m g i =
      let r = ends_reset_told j in
      let t : entry.Take (up_lane queue) (item.Up x) ∷ (hears_up w.host queue x).entries ≡ (entry.Take (up_lane queue) (item.Up x) ∷ r.told) ++ entry.ResetDone ∷ [] = ap (λ q. entry.Take (up_lane queue) (item.Up x) ∷ q) (e ∙ r.is) in
      let o : seen_as (phase_at (hears_up w.host queue x).part.phases g) ≡ None = ap (λ q. seen_as (phase_at q g)) p ∙ absent_seen 64 (g - 9) in
      let y = trace.over_announced (entry.Take (up_lane queue) (item.Up x) ∷ r.told) (record { machine = h.machine; so_far = h.so_far }) in
      let z = trace.over_pages (entry.Take (up_lane queue) (item.Up x) ∷ r.told) h.paged in
      subst (λ q. Known q ((history_after h (entry.Take (up_lane queue) (item.Up x) ∷ (hears_up w.host queue x).entries)).so_far.announced g) ((history_after h (entry.Take (up_lane queue) (item.Up x) ∷ (hears_up w.host queue x).entries)).paged.pages g)) (sym o)
      (ap (λ l. (history_after h l).so_far.announced g) t ∙ ap (λ q. q g) y, λ c. ap (λ l. (history_after h l).paged.pages g c) t ∙ ap (λ q. q g c) z)

  -- ---- replies

  module _ (queue d : ℕ) (fr : Option (List ℕ)) (page sense : List ℕ) (rest : List Up) (front : up_on w queue ≡ upward.Reply d fr page sense ∷ rest) (known_why : why_strange w.host queue (upward.Reply d fr page sense) ≡ None) (m : is_resetting w.host.mode ≡ false) where
    abbrev x : Up
    x = upward.Reply d fr page sense

    abbrev s : ℕ
    s = smid_in d

    abbrev h1 : Host
    h1 = replies.takes_entry (replies.with_frame_heard w.host d fr) queue

    abbrev v : replies.Heard
    v = replies.heard_of d fr page sense

    like : Like h1 w.host
    like = view.framed w.host queue d fr

    line : List Said
    line = map said_of rest ++ outbox_of w.ioc queue

    line_is : up_line w queue ≡ said_reply (smid_in d) fr page sense ∷ (map said_of rest ++ outbox_of w.ioc queue)
    line_is = ap (λ ys. map said_of ys ++ outbox_of w.ioc queue) front

    said_is : SaidIs w h queue (said_reply (smid_in d) fr page sense)
    said_is = All-head (SaidIs w h queue) (said_reply (smid_in d) fr page sense) (map said_of rest ++ outbox_of w.ioc queue) (subst (All (SaidIs w h queue)) line_is (f.messages.said queue))

    reply_there : is_reply (said_reply (smid_in d) fr page sense) ≡ true
    reply_there = by_frame fr
      where
        by_frame : (o : Option (List ℕ)) → is_reply (said_reply (smid_in d) o page sense) ≡ true
        by_frame None = refl
        by_frame (Some g) = refl

    live : is_live w ≡ true
    live = by_live (is_live w) refl
      where
        not_begun : in_begun w ≡ false
        not_begun = ap (λ b. b && (w.host.asked == w.ioc.generation)) m

        by_live : (b : Bool) → is_live w ≡ b → b ≡ true
        by_live true e = refl
        by_live false e =
            let z = f.clock.no_reply_before_init.before not_begun e queue in
            let a = ap (how_many is_reply) line_is in let c = how_many-cons is_reply (said_reply (smid_in d) fr page sense) (map said_of rest ++ outbox_of w.ioc queue) in let o = ap one_if reply_there in
            absurd (omega (arith, z, a, c, o))

    normal : in_normal w ≡ true
    normal = by_mode (either_mode w.host.mode m)
      where
        by_mode : (is_off w.host.mode ≡ true) ⊎ ((is_starting w.host.mode || is_up w.host.mode) ≡ true) → in_normal w ≡ true
        by_mode (inr e) = e
        by_mode (inl e) =
            let z = (f.clock.phase_table.off e).up queue in
            let a = ap (Rattle.law_facts.specs.Words.others Rattle.law_facts.specs.Words.is_calm_said) line_is in
            let c = Rattle.law_moves.proofs.Counted.others-cons Rattle.law_facts.specs.Words.is_calm_said (said_reply (smid_in d) fr page sense) (map said_of rest ++ outbox_of w.ioc queue) in
            let o = calm fr in
            absurd (omega (arith, z, a, c, o))
          where
            calm : (o : Option (List ℕ)) → one_if (not (Rattle.law_facts.specs.Words.is_calm_said (said_reply (smid_in d) o page sense))) ≡ 1
            calm None = refl
            calm (Some g) = refl

    -- the entries behind it tell nothing of handles
    abbrev told : Option Request → List Entry
    told o = (replies.hears_reply_to h1 (smid_in d) o v).entries

    told_dull : (o : Option Request) → EachEntry Dull (told o)
    told_dull o = trace.told_dull (told o) (told_reply_to h1 (smid_in d) o v)

    abbrev Knows1 : Option Request → Type 0
    Knows1 o = Knows (replies.hears_reply_to h1 (smid_in d) o v).part.phases (entry.Take (up_lane queue) (item.Up x) ∷ told o)

    -- what is known then, from what the item itself tells
    from : (o : Option Request) → ((g : ℕ) → IsHandle g → Known (seen_as (phase_at (replies.hears_reply_to h1 (smid_in d) o v).part.phases g)) (heard queue h.so_far.announced x g) (pages_taken h.paged.pages x g)) → Knows1 o
    from o k g i =
        let y = trace.taken_announced queue x (told o) (record { machine = h.machine; so_far = h.so_far }) (told_dull o) in
        let z = trace.taken_pages queue x (told o) h.paged (told_dull o) in
        let q = k g i in
        (ap (λ r. r g) y ∙ q.0, λ c. ap (λ r. r g c) z ∙ q.1 c)

    abbrev AnswersFrame : Option (List ℕ) → Slot Request → Type 0
    AnswersFrame None y = AnswersBy w h queue (smid_in d) (said.Success (smid_in d) page sense) y
    AnswersFrame (Some g) y = AnswersBy w h queue (smid_in d) (said.Framed (smid_in d) g page sense) y

    -- ---- with an identifier: no changes are told

    abbrev has_smid : Type 0
    has_smid = (smid_in d == 0) ≡ false

    no_changes : (o : Option (List ℕ)) → (smid_in d == 0) ≡ false → changes_told (upward.Reply d o page sense) ≡ []
    no_changes None e = refl
    no_changes (Some g) e = ap (λ b. if b then changes_in g else []) e

    nothing_heard : (smid_in d == 0) ≡ false → (g : ℕ) → heard queue h.so_far.announced x g ≡ h.so_far.announced g
    unfolding announced_after
    nothing_heard e g = by_queue queue
      where
        by_queue : (n : ℕ) → heard n h.so_far.announced x g ≡ h.so_far.announced g
        by_queue zero = ap (λ cs. announced_after h.so_far.announced cs g) (no_changes fr e)
        by_queue (suc n) = refl

    no_page_taken : (smid_in d == 0) ≡ false → page_carried x ≡ None → (g b : ℕ) → pages_taken h.paged.pages x g b ≡ h.paged.pages g b
    no_page_taken e c g b = ap (λ o. with_page (without_pages h.paged.pages (changes_told x)) o g b) c ∙ ap (λ cs. without_pages h.paged.pages cs g b) (no_changes fr e)

    -- the same is seen of handles
    same_seen : (o : Option Request) → (smid_in d == 0) ≡ false → page_carried x ≡ None → Views w.host.phases (replies.hears_reply_to h1 (smid_in d) o v).part.phases → Knows1 o
    same_seen o e c k =
        from o (λ g i.
        let b = before m g i in
        subst (λ q. Known q (heard queue h.so_far.announced x g) (pages_taken h.paged.pages x g)) (sym (k.same g i)) (nothing_heard e g ∙ b.0, λ a. no_page_taken e c g a ∙ b.1 a))

    positive : (r : Request) → slot w.host (smid_in d) ≡ Open r → (smid_in d == 0) ≡ false
    positive r o = by_smid (smid_in d) o
      where
        by_smid : (n : ℕ) → slot w.host n ≡ Open r → (n == 0) ≡ false
        by_smid zero o = absurd (cc)
        by_smid (suc n) o = above_zero n

    -- it has the function of what was asked
    function_is : (g : List ℕ) → fr ≡ Some g → (r : Request) → slot w.host (smid_in d) ≡ Open r → (function_in g == byte_of (strange.function_asked r)) ≡ true
    function_is g e r o =
        let asked = replies.request_of w.host (smid_in d) in
        let a1 = none_of_or (strange.wrong_queue_of_reply queue d) _ known_why in
        let a2 = none_of_or (strange.bad_descriptor d fr) _ a1.1 in
        let a3 = none_of_or (strange.not_returned w.host d fr) _ a2.1 in
        let a4 = none_of_or (strange.bad_frame fr) _ a3.1 in
        let a5 = none_of_or (strange.not_open w.host (smid_in d)) _ a4.1 in
        let a6 = none_of_or (strange.bad_answer (replies.request_of w.host (smid_in d)) fr page) _ a5.1 in
        let b = no_where (not (strange.function_by fr == byte_of (strange.function_due (replies.request_of w.host (smid_in d)))) || strange.is_wrong_page (replies.request_of w.host (smid_in d)) (strange.status_by fr) page) why.BadAnswer a6.0 in
        let c = first (not (strange.function_by fr == byte_of (strange.function_due (replies.request_of w.host (smid_in d))))) _ b in
        let u = opposite (strange.function_by fr == byte_of (strange.function_due (replies.request_of w.host (smid_in d)))) c in
        subst (λ k. (strange.function_by k == byte_of (strange.function_asked r)) ≡ true) e (subst (λ k. (strange.function_by fr == byte_of (strange.function_due (record_of k))) ≡ true) o u)
      where
        first : (a b : Bool) → (a || b) ≡ false → a ≡ false
        first true b e = absurd (cc)
        first false b e = refl

        opposite : (a : Bool) → not a ≡ false → a ≡ true
        opposite true e = refl
        opposite false e = absurd (cc)

    -- a page comes in no reply to another request
    no_page_of : (r : Request) → view.IsPageRead w.host.phases r ≡ false → (byte_of (strange.function_asked r) == 4) ≡ false → slot w.host (smid_in d) ≡ Open r → page_carried x ≡ None
    no_page_of r n b o = by_frame fr refl
      where
        by_frame : (q : Option (List ℕ)) → fr ≡ q → page_carried (upward.Reply d q page sense) ≡ None
        by_frame None e = refl
        by_frame (Some g) e = by_page (is_device_page g page) refl
          where
            by_page : (c : Bool) → is_device_page g page ≡ c → disk_in (is_device_page g page) (page_dev_handle_in page) (page_sas_address_in page) ≡ None
            by_page false u = ap (λ k. disk_in k (page_dev_handle_in page) (page_sas_address_in page)) u
            by_page true u =
                let y = trace.config_of g page u in
                let z = function_is g e r o in
                let k : (4 == byte_of (strange.function_asked r)) ≡ true = subst (λ j. (j == byte_of (strange.function_asked r)) ≡ true) y z in
                not_both (4 == byte_of (strange.function_asked r)) (flipped (byte_of (strange.function_asked r)) 4 false b) k

    names : (r : Request) → slot w.host (smid_in d) ≡ Open r → view.NamesDisk w.host.phases r
    names (request.Leave g) o = fits w h f (smid_in d) (request.Leave g) o
    names (request.Remove g) o = fits w h f (smid_in d) (request.Remove g) o
    names (request.Page g) o = fits w h f (smid_in d) (request.Page g) o
    names (request.Command n) o = tt
    names (request.Abort n task) o = tt
    names (request.TargetReset address) o = tt
    names (request.Ack event context) o = tt
    names request.Notification o = tt
    names request.PortEnable o = tt

    mode1 : is_resetting h1.mode ≡ false
    mode1 = ap is_resetting like.mode ∙ m

    views1 : Views w.host.phases h1.phases
    views1 = subst (Views w.host.phases) (sym like.phases) (view.unchanged w.host.phases f.flights.sizes.phases)

    other : (r : Request) → view.IsPageRead w.host.phases r ≡ false → (byte_of (strange.function_asked r) == 4) ≡ false → slot w.host (smid_in d) ≡ Open r → Knows1 (Some r)
    other r n b o =
        same_seen (Some r) (positive r o) (no_page_of r n b o)
        (view.answer w.host.phases h1 (smid_in d) (subst (All IsHandle) (sym like.high) f.handles.waits.handles) (subst (All Rattle.law_facts.specs.Handles.IsWaiting) (sym like.internal) f.handles.waits.requests) mode1 views1 r v n (names r o))

    -- ---- the reply to a page read

    module _ (g0 : ℕ) (o : slot w.host (smid_in d) ≡ Open (request.Page g0)) where
      disk : IsHandle g0
      disk = fits w h f (smid_in d) (request.Page g0) o

      abbrev after : Phase
      after = after_page (phase_at h1.phases g0) (smid_in d) (replies.address_read (replies.reply_bytes v) page)

      -- what is seen then
      seen_after_page : (j : ℕ) → IsHandle j → seen_as (phase_at (replies.hears_reply_to h1 (smid_in d) (Some (request.Page g0)) v).part.phases j) ≡ cond (j == g0) (seen_as after) (seen_as (phase_of w j))
      seen_after_page j i =
          let q : Views (with_phase h1.phases g0 after) (with_phase h1.phases g0 after) = view.unchanged (with_phase h1.phases g0 after) (Rattle.std.proofs.Common.length-set h1.phases _ after ∙ views1.handles) in
          let k = view.page_answer (with_phase h1.phases g0 after) h1 (smid_in d) g0 v (subst (All Rattle.law_facts.specs.Handles.IsWaiting) (sym like.internal) f.handles.waits.requests) mode1 q in
          k.same j i ∙ (ap seen_as (Rattle.law_handles.proofs.Phased.phase_at-with h1.phases g0 j after views1.handles disk i) ∙ (by_key (j == g0) ∙ ap (λ y. cond (j == g0) (seen_as after) (seen_as (phase_at y j))) like.phases))
        where
          by_key : (b : Bool) → seen_as (cond b after (phase_at h1.phases j)) ≡ cond b (seen_as after) (seen_as (phase_at h1.phases j))
          by_key true = refl
          by_key false = refl

      -- no page, and nothing changes
      refused : page_carried x ≡ None → seen_as after ≡ seen_as (phase_of w g0) → Knows1 (Some (request.Page g0))
      refused c e =
          from (Some (request.Page g0)) (λ j i.
          let b = before m j i in
          subst (λ q. Known q (heard queue h.so_far.announced x j) (pages_taken h.paged.pages x j)) (sym (seen_after_page j i ∙ by_key j (j == g0) refl)) (nothing_heard (positive (request.Page g0) o) j ∙ b.0, λ a. no_page_taken (positive (request.Page g0) o) c j a ∙ b.1 a))
        where
          by_key : (j : ℕ) (b : Bool) → (j == g0) ≡ b → cond (j == g0) (seen_as after) (seen_as (phase_of w j)) ≡ seen_as (phase_of w j)
          by_key j true t = ap (λ k. cond k (seen_as after) (seen_as (phase_of w j))) t ∙ (e ∙ ap (λ k. seen_as (phase_of w k)) (sym (eqb-true j g0 t)))
          by_key j false t = ap (λ k. cond k (seen_as after) (seen_as (phase_of w j))) t

      -- the page of the handle
      module _ (a : ℕ) (carried : page_carried x ≡ Some (record { handle = g0; address = a })) (was : phase_of w g0 ≡ phase.Reading (smid_in d)) (now : seen_as after ≡ Some (Some a)) where
        read : Knows1 (Some (request.Page g0))
        read = from (Some (request.Page g0)) (λ j i. by_key j i (j == g0) refl)
          where
            taken : (j b : ℕ) → pages_taken h.paged.pages x j b ≡ (if j == g0 then (if b == a then true else h.paged.pages g0 b) else h.paged.pages j b)
            taken j b =
                ap (λ q. with_page (without_pages h.paged.pages (changes_told x)) q j b) carried
                ∙ (ap (λ cs. with_page (without_pages h.paged.pages cs) (Some (record { handle = g0; address = a })) j b) (no_changes fr (positive (request.Page g0) o)) ∙ by_handle (j == g0))
              where
                by_handle : (c : Bool) → (if c then put_at a true (h.paged.pages g0) else h.paged.pages j) b ≡ (if c then (if b == a then true else h.paged.pages g0 b) else h.paged.pages j b)
                by_handle true = refl
                by_handle false = refl

            by_key : (j : ℕ) → IsHandle j → (b : Bool) → (j == g0) ≡ b → Known (seen_as (phase_at (replies.hears_reply_to h1 (smid_in d) (Some (request.Page g0)) v).part.phases j)) (heard queue h.so_far.announced x j) (pages_taken h.paged.pages x j)
            by_key j i false t =
                let k = before m j i in
                subst (λ q. Known q (heard queue h.so_far.announced x j) (pages_taken h.paged.pages x j)) (sym (seen_after_page j i ∙ ap (λ y. cond y (seen_as after) (seen_as (phase_of w j))) t))
                (nothing_heard (positive (request.Page g0) o) j ∙ k.0, λ b. taken j b ∙ (ap (λ y. if y then (if b == a then true else h.paged.pages g0 b) else h.paged.pages j b) t ∙ k.1 b))
            by_key j i true t =
                let k = before m g0 disk in
                let e = eqb-true j g0 t in
                let r : seen_as (phase_of w g0) ≡ Some None = ap seen_as was in
                subst (λ q. Known q (heard queue h.so_far.announced x j) (pages_taken h.paged.pages x j)) (sym (seen_after_page j i ∙ (ap (λ y. cond y (seen_as after) (seen_as (phase_of w j))) t ∙ now))) (
                  nothing_heard (positive (request.Page g0) o) j ∙ (ap h.so_far.announced e ∙ (k.0 ∙ ap is_some r)),
                  λ b. taken j b ∙ (ap (λ y. if y then (if b == a then true else h.paged.pages g0 b) else h.paged.pages j b) t ∙ by_address b (b == a) refl (k.1 b ∙ ap (ready_of b) r)),
                )
              where
                by_address : (b : ℕ) (c : Bool) → (b == a) ≡ c → h.paged.pages g0 b ≡ false → (if b == a then true else h.paged.pages g0 b) ≡ (a == b)
                by_address b true t e = ap (λ y. if y then true else h.paged.pages g0 b) t ∙ sym (flipped b a true t)
                by_address b false t e = ap (λ y. if y then true else h.paged.pages g0 b) t ∙ (e ∙ sym (flipped b a false t))

      -- a refused page isn't the one that the handle reads
      not_reading : (g : List ℕ) → fr ≡ Some g → queue ≡ 0 → (replies.reply_status g == IOC_STATUS_SUCCESS) ≡ false → phase_of w g0 ≡ phase.Reading (smid_in d) → ⊥
      unfolding before_gone
      not_reading g e q t was =
          let r : RefusalIsLate w g0 (phase.Reading (smid_in d)) = subst (RefusalIsLate w g0) was ((f.handles.each g0 disk).pages.late_refusal normal live) in
          let l : up_line w 0 ≡ said.Framed (smid_in d) g page sense ∷ (map said_of rest ++ outbox_of w.ioc queue) = ap (up_line w) (sym q) ∙ (line_is ∙ ap (λ k. said_reply (smid_in d) k page sense ∷ (map said_of rest ++ outbox_of w.ioc queue)) e) in
          let k : tells_gone g0 (said.Framed (smid_in d) g page sense) ≡ false = by_smid (smid_in d) (positive (request.Page g0) o) in
          let b : before_gone g0 (up_line w 0) ≡ said.Framed (smid_in d) g page sense ∷ before_gone g0 (map said_of rest ++ outbox_of w.ioc queue) = ap (before_gone g0) l ∙ ap (λ c. if c then [] else said.Framed (smid_in d) g page sense ∷ before_gone g0 (map said_of rest ++ outbox_of w.ioc queue)) k in
          let c = how_many-cons (is_refusal_of (smid_in d)) (said.Framed (smid_in d) g page sense) (before_gone g0 (map said_of rest ++ outbox_of w.ioc queue)) in
          let z = ap (how_many (is_refusal_of (smid_in d))) b in
          let u : one_if (is_refusal_of (smid_in d) (said.Framed (smid_in d) g page sense)) ≡ 1 = ap (λ y. one_if (y && not (replies.reply_status g == IOC_STATUS_SUCCESS))) (same (smid_in d)) ∙ ap (λ y. one_if (not y)) t in
          absurd (omega (arith, r, z, c, u))
        where
          by_smid : (n : ℕ) → (n == 0) ≡ false → tells_gone g0 (said.Framed n g page sense) ≡ false
          by_smid zero e = absurd (cc)
          by_smid (suc n) e = refl

      by_reply : Knows1 (Some (request.Page g0))
      by_reply = by_frame fr refl (subst (AnswersFrame fr) o (answers fr said_is (positive (request.Page g0) o)))
        where
          answers : (k : Option (List ℕ)) → SaidIs w h queue (said_reply (smid_in d) k page sense) → (smid_in d == 0) ≡ false → AnswersFrame k (slot w.host (smid_in d))
          answers None a e = a
          answers (Some g) a e = by_smid (smid_in d) a e
            where
              by_smid : (n : ℕ) → SaidIs w h queue (said.Framed n g page sense) → (n == 0) ≡ false → AnswersBy w h queue n (said.Framed n g page sense) (slot w.host n)
              by_smid zero a e = absurd (cc)
              by_smid (suc n) a e = a

          by_frame : (k : Option (List ℕ)) → fr ≡ k → AnswersFrame k (Open (request.Page g0)) → Knows1 (Some (request.Page g0))
          by_frame None e a = absurd a
          by_frame (Some g) e a = by_kind a.2
            where
              by_kind : IsPageReply g0 g page → Knows1 (Some (request.Page g0))
              by_kind (inr k) =
                  let t : (replies.reply_status g == IOC_STATUS_SUCCESS) ≡ false = ap (λ y. replies.reply_status y == IOC_STATUS_SUCCESS) k.0 ∙ trace.status_refused in
                  let c : page_carried x ≡ None = ap (λ y. page_carried (upward.Reply d y page sense)) e ∙ (ap (λ y. disk_in (is_device_page g y) (page_dev_handle_in y) (page_sas_address_in y)) k.1 ∙ ap (λ y. disk_in y (page_dev_handle_in []) (page_sas_address_in [])) (trace.no_page g)) in
                  let r : replies.address_read (replies.reply_bytes v) page ≡ None = ap (λ y. replies.address_read (unwrap_or y []) page) e ∙ ap (λ y. if y then Some (page_sas_address_in page) else None) t in
                  refused c (ap (λ y. seen_as (after_page (phase_at h1.phases g0) (smid_in d) y)) r ∙ (ap (λ y. seen_as (after_page (phase_at y g0) (smid_in d) None)) like.phases ∙ by_phase (phase_of w g0) refl t))
                where
                  by_phase : (p : Phase) → phase_of w g0 ≡ p → (replies.reply_status g == IOC_STATUS_SUCCESS) ≡ false → seen_as (after_page p (smid_in d) None) ≡ seen_as p
                  by_phase (phase.Reading q) z t = by_key (q == smid_in d) refl
                    where
                      by_key : (b : Bool) → (q == smid_in d) ≡ b → seen_as (if b then phase.Absent else phase.Reading q) ≡ Some None
                      by_key false u = refl
                      by_key true u = absurd (not_reading g e a.0 t (z ∙ ap phase.Reading (eqb-true q (smid_in d) u)))
                  by_phase phase.Absent z t = refl
                  by_phase phase.WaitRead z t = refl
                  by_phase (phase.Ready b) z t = refl
                  by_phase phase.WaitHigh z t = refl
                  by_phase (phase.Resetting q) z t = refl
                  by_phase phase.WaitInternal z t = refl
                  by_phase (phase.Removing q) z t = refl
              by_kind (inl k) =
                  let t : (replies.reply_status g == IOC_STATUS_SUCCESS) ≡ true = ap (λ y. replies.reply_status y == IOC_STATUS_SUCCESS) k.0 ∙ ap (λ y. y == IOC_STATUS_SUCCESS) trace.status_given in
                  let c : page_carried x ≡ Some (record { handle = g0; address = page_sas_address_in page }) = ap (λ y. page_carried (upward.Reply d y page sense)) e ∙ (ap (λ y. disk_in y (page_dev_handle_in page) (page_sas_address_in page)) k.1 ∙ ap (λ y. Some (record { handle = y; address = page_sas_address_in page })) k.2) in
                  let l : up_line w 0 ≡ said.Framed (smid_in d) g page sense ∷ (map said_of rest ++ outbox_of w.ioc queue) = ap (up_line w) (sym a.0) ∙ (line_is ∙ ap (λ y. said_reply (smid_in d) y page sense ∷ (map said_of rest ++ outbox_of w.ioc queue)) e) in
                  let p : PageIs w h (said.Framed (smid_in d) g page sense) = All-head (PageIs w h) (said.Framed (smid_in d) g page sense) (map said_of rest ++ outbox_of w.ioc queue) (subst (All (PageIs w h)) l (f.handles.pages live)) in
                  let was : phase_of w g0 ≡ phase.Reading (smid_in d) = ap (phase_of w) (sym k.2) ∙ (p k.1).1 normal in
                  let r : replies.address_read (replies.reply_bytes v) page ≡ Some (page_sas_address_in page) = ap (λ y. replies.address_read (unwrap_or y []) page) e ∙ ap (λ y. if y then Some (page_sas_address_in page) else None) t in
                  let n : seen_as after ≡ Some (Some (page_sas_address_in page)) =
                  ap (λ y. seen_as (after_page (phase_at h1.phases g0) (smid_in d) y)) r ∙ (ap (λ y. seen_as (after_page (phase_at y g0) (smid_in d) (Some (page_sas_address_in page)))) like.phases
                  ∙ (ap (λ y. seen_as (after_page y (smid_in d) (Some (page_sas_address_in page)))) was ∙ ap (λ y. seen_as (if y then phase.Ready (page_sas_address_in page) else phase.Reading (smid_in d))) (same (smid_in d)))) in
                  read (page_sas_address_in page) c was n

    -- ---- an event

    module _ (g : List ℕ) (framed : fr ≡ Some g) (none : smid_in d ≡ 0) (first : queue ≡ 0) (nil : page ≡ []) (added : Bool) (like_event : g ≡ event_like g added) (disk2 : IsHandle (field g 0x28 2)) where
      abbrev g0 : ℕ
      g0 = field g 0x28 2

      changes_is : changes_in g ≡ record { handle = field g 0x28 2; status = status_of added } ∷ []
      changes_is = trace.changes_are g added like_event

      abbrev h2 : Host
      h2 = asks.asks_internal h1 (request.Ack (event_in g) (event_context_in g))

      phases2 : h2.phases ≡ w.host.phases
      phases2 = view.ack_phases h1 (event_in g) (event_context_in g) ∙ like.phases

      -- what is added is absent
      absent : (status_of added) ≡ 1 → removal.is_absent (phase_of w g0) ≡ true
      unfolding removal.first_not_absent
      absent e =
          let a1 = none_of_or (strange.wrong_queue_of_reply queue d) _ known_why in
          let a2 = none_of_or (strange.bad_descriptor d fr) _ a1.1 in
          let a3 = none_of_or (strange.not_returned w.host d fr) _ a2.1 in
          let a4 = none_of_or (strange.bad_frame fr) _ a3.1 in
          let a5 = none_of_or (strange.not_open w.host (smid_in d)) _ a4.1 in
          let a6 = none_of_or (strange.bad_answer (replies.request_of w.host (smid_in d)) fr page) _ a5.1 in
          let a7 = none_of_or (strange.bad_status (replies.request_of w.host (smid_in d)) (strange.status_by fr)) _ a6.1 in
          let a8 = none_of_or (strange.not_absent w.host (smid_in d) fr) None a7.1 in
          let b1 : strange.not_absent w.host 0 (Some g) ≡ None = subst (λ k. strange.not_absent w.host 0 k ≡ None) framed (subst (λ k. strange.not_absent w.host k fr ≡ None) none a8.0) in
          let b2 : option_map why.NotAbsent (removal.first_not_absent w.host.phases (removal.added_handles (changes_in g))) ≡ None = subst (λ k. (if k then None else option_map why.NotAbsent (removal.first_not_absent w.host.phases (removal.added_handles (changes_in g)))) ≡ None) m b1 in
          let b3 = subst (λ k. option_map why.NotAbsent (removal.first_not_absent w.host.phases (removal.added_handles k)) ≡ None) changes_is b2 in
          by_added added e b3
        where
          is_disk : removal.is_disk_handle (field g 0x28 2) ≡ true
          is_disk = disk_tests (field g 0x28 2) disk2

          by_absent : (b : Bool) → option_map why.NotAbsent (if b then None else Some (field g 0x28 2)) ≡ None → b ≡ true
          by_absent true e = refl
          by_absent false e = absurd (cc)

          by_added : (c : Bool) → (status_of c) ≡ 1 → option_map why.NotAbsent (removal.first_not_absent w.host.phases (removal.added_handles (record { handle = field g 0x28 2; status = status_of c } ∷ []))) ≡ None → removal.is_absent (phase_of w (field g 0x28 2)) ≡ true
          by_added false e b = absurd (cc)
          by_added true e b = by_absent (removal.is_absent (phase_of w (field g 0x28 2))) (subst (λ k. option_map why.NotAbsent (removal.first_not_absent w.host.phases (Rattle.std.specs.List.cons_option (if k then Some (field g 0x28 2) else None) [])) ≡ None) is_disk b)

      -- what is seen then
      seen_then : (j : ℕ) → IsHandle j → seen_as (phase_at (replies.hears_reply_to h1 (smid_in d) None v).part.phases j) ≡ cond (j == field g 0x28 2) (seen_by_status (status_of added) (seen_as (phase_of w (field g 0x28 2)))) (seen_as (phase_of w j))
      unfolding removal.hears_changes
      seen_then j i =
          ap (λ k. seen_as (phase_at (if k then removal.quietly h1 else removal.hears_event h1 (unwrap_or fr [])).part.phases j)) mode1
          ∙ (ap (λ k. seen_as (phase_at (removal.hears_event h1 (unwrap_or k [])).part.phases j)) framed
          ∙ (ap (λ k. seen_as (phase_at (removal.hears_changes h2 k).part.phases j)) changes_is
          ∙ (view.changed h2 (field g 0x28 2) disk2 (ap length phases2 ∙ f.flights.sizes.phases) (record { handle = field g 0x28 2; status = status_of added }) refl (by_added added)
          (λ e. ap (λ k. removal.is_absent (phase_at k (field g 0x28 2))) phases2 ∙ absent e) j i
          ∙ ap (λ k. cond (j == field g 0x28 2) (seen_by_status (status_of added) (seen_as (phase_at k (field g 0x28 2)))) (seen_as (phase_at k j))) phases2)))
        where
          by_added : (b : Bool) → ((status_of b) ≡ 1) ⊎ ((status_of b) ≡ 2)
          by_added true = inl refl
          by_added false = inr refl

      told_changes : changes_told x ≡ record { handle = field g 0x28 2; status = status_of added } ∷ []
      told_changes = ap (λ k. changes_told (upward.Reply d k page sense)) framed ∙ (ap (λ k. if k == 0 then changes_in g else []) none ∙ changes_is)

      announced_then : (j : ℕ) → heard queue h.so_far.announced x j ≡ announced_next h.so_far.announced (record { handle = field g 0x28 2; status = status_of added }) j
      unfolding announced_after
      announced_then j = ap (λ k. heard k h.so_far.announced x j) first ∙ ap (λ k. announced_after h.so_far.announced k j) told_changes

      no_carried : page_carried x ≡ None
      no_carried = ap (λ k. page_carried (upward.Reply d k page sense)) framed ∙ (ap (λ k. disk_in (is_device_page g k) (page_dev_handle_in k) (page_sas_address_in k)) nil ∙ ap (λ k. disk_in k (page_dev_handle_in []) (page_sas_address_in [])) (trace.no_page g))

      pages_then : (j a : ℕ) → pages_taken h.paged.pages x j a ≡ (if is_gone_change j (record { handle = field g 0x28 2; status = status_of added }) || false then false else h.paged.pages j a)
      pages_then j a = ap (λ k. with_page (without_pages h.paged.pages (changes_told x)) k j a) no_carried ∙ ap (λ k. without_pages h.paged.pages k j a) told_changes

      event : Knows1 None
      event = from None (λ j i. by_key j i (j == field g 0x28 2) refl)
        where
          by_key : (j : ℕ) → IsHandle j → (b : Bool) → (j == field g 0x28 2) ≡ b → Known (seen_as (phase_at (replies.hears_reply_to h1 (smid_in d) None v).part.phases j)) (heard queue h.so_far.announced x j) (pages_taken h.paged.pages x j)
          by_key j i false t =
              let k = before m j i in
              subst (λ q. Known q (heard queue h.so_far.announced x j) (pages_taken h.paged.pages x j)) (sym (seen_then j i ∙ ap (λ y. cond y (seen_by_status (status_of added) (seen_as (phase_of w (field g 0x28 2)))) (seen_as (phase_of w j))) t))
              (announced_then j ∙ (by_added added ∙ k.0), λ a. pages_then j a ∙ (gone_not a ∙ k.1 a))
            where
              by_added : (b : Bool) → announced_next h.so_far.announced (record { handle = field g 0x28 2; status = status_of b }) j ≡ h.so_far.announced j
              by_added true = ap (λ y. if y then true else h.so_far.announced j) t
              by_added false = ap (λ y. if y then false else h.so_far.announced j) t

              gone_not : (a : ℕ) → (if is_gone_change j (record { handle = field g 0x28 2; status = status_of added }) || false then false else h.paged.pages j a) ≡ h.paged.pages j a
              gone_not a = ap (λ y. if (if y then (status_of added) == 2 else false) || false then false else h.paged.pages j a) (flipped j (field g 0x28 2) false t)
          by_key j i true t =
              let e = eqb-true j (field g 0x28 2) t in
              subst (λ q. Known q (heard queue h.so_far.announced x j) (pages_taken h.paged.pages x j)) (sym (seen_then j i ∙ ap (λ y. cond y (seen_by_status (status_of added) (seen_as (phase_of w (field g 0x28 2)))) (seen_as (phase_of w j))) t))
              (announced_then j ∙ by_added added, λ a. pages_then j a ∙ (ap (λ y. if (if y then (status_of added) == 2 else false) || false then false else h.paged.pages j a) (flipped j (field g 0x28 2) true t) ∙ by_gone added refl a))
            where
              by_added : (b : Bool) → announced_next h.so_far.announced (record { handle = field g 0x28 2; status = status_of b }) j ≡ is_some (seen_by_status (status_of b) (seen_as (phase_of w (field g 0x28 2))))
              by_added true = ap (λ y. if y then true else h.so_far.announced j) t
              by_added false = ap (λ y. if y then false else h.so_far.announced j) t

              was_absent : (p : Phase) → removal.is_absent p ≡ true → seen_as p ≡ None
              was_absent phase.Absent e = refl
              was_absent phase.WaitRead e = absurd (cc)
              was_absent (phase.Reading q) e = absurd (cc)
              was_absent (phase.Ready b) e = absurd (cc)
              was_absent phase.WaitHigh e = refl
              was_absent (phase.Resetting q) e = refl
              was_absent phase.WaitInternal e = refl
              was_absent (phase.Removing q) e = refl

              by_gone : (b : Bool) → added ≡ b → (a : ℕ) → (if ((status_of b) == 2) || false then false else h.paged.pages j a) ≡ ready_of a (seen_by_status (status_of b) (seen_as (phase_of w (field g 0x28 2))))
              by_gone false u a = refl
              by_gone true u a = (before m j i).1 a ∙ ap (ready_of a) (ap (λ k. seen_as (phase_of w k)) (eqb-true j (field g 0x28 2) t) ∙ was_absent (phase_of w (field g 0x28 2)) (absent (ap status_of u)))

    -- ---- by the identifier's record

    closed_event : is_open (slot w.host (smid_in d)) ≡ false → (o : Option (List ℕ)) (n : ℕ) → fr ≡ o → smid_in d ≡ n → SaidIs w h queue (said_reply n o page sense) → Knows1 None
    closed_event c None n e u a = absurd (none (slot w.host n) (subst (λ j. is_open (slot w.host j) ≡ false) u c) a)
      where
        none : (y : Slot Request) → is_open y ≡ false → AnswersBy w h queue n (said.Success n page sense) y → ⊥
        none Free c k = k
        none Parked c k = k
        none (Open r) c k = absurd (cc)
    closed_event c (Some g) (suc n) e u a = absurd (none (slot w.host (suc n)) (subst (λ j. is_open (slot w.host j) ≡ false) u c) a)
      where
        none : (y : Slot Request) → is_open y ≡ false → AnswersBy w h queue (suc n) (said.Framed (suc n) g page sense) y → ⊥
        none Free c k = k
        none Parked c k = k
        none (Open r) c k = absurd (cc)
    closed_event c (Some g) zero e u a = by_kind a.4
      where
        by_kind : (g ≡ event_like g true) ⊎ (g ≡ event_like g false) → Knows1 None
        by_kind (inl k) = event g e u a.0 a.1 true k a.3
        by_kind (inr k) = event g e u a.0 a.1 false k a.3

    reply : Knows (hears_up w.host queue x).part.phases (entry.Take (up_lane queue) (item.Up x) ∷ (hears_up w.host queue x).entries)
    reply = by_slot (slot w.host (smid_in d)) refl
      where
        by_slot : (y : Slot Request) → slot w.host (smid_in d) ≡ y → Knows1 (record_of y)
        by_slot Free e = closed_event (ap is_open e) fr (smid_in d) refl refl said_is
        by_slot Parked e = closed_event (ap is_open e) fr (smid_in d) refl refl said_is
        by_slot (Open (request.Page g0)) e = by_reply g0 e
        by_slot (Open (request.Command n)) e = other (request.Command n) refl refl e
        by_slot (Open (request.Abort n task)) e = other (request.Abort n task) refl refl e
        by_slot (Open (request.TargetReset address)) e = other (request.TargetReset address) refl refl e
        by_slot (Open (request.Leave g)) e = other (request.Leave g) refl refl e
        by_slot (Open (request.Remove g)) e = other (request.Remove g) refl refl e
        by_slot (Open (request.Ack event context)) e = other (request.Ack event context) refl refl e
        by_slot (Open request.Notification) e = other request.Notification refl refl e
        by_slot (Open request.PortEnable) e = other request.PortEnable refl refl e

  taken : (queue : ℕ) (x : Up) (rest : List Up) → up_on w queue ≡ x ∷ rest → why_strange w.host queue x ≡ None → OnKnown (record (with_up w queue rest) { host = (hears_up w.host queue x).part }) (entry.Take (up_lane queue) (item.Up x) ∷ (hears_up w.host queue x).entries)
  unfolding OnKnown IsSilent
  taken queue (upward.Value value) rest e y n = silent queue (upward.Value value) rest tt (view.value w.host value) n
  taken queue (upward.Mark generation) rest e y n = silent queue (upward.Mark generation) rest tt (view.mark w.host queue) n
  taken queue upward.Calm rest e y n = silent queue upward.Calm rest tt (Stays (record { phases = refl; mode = refl }) refl) n
  taken queue (upward.Reply d g page sense) rest e y n = by_mode (is_resetting w.host.mode) refl
    where
      by_mode : (b : Bool) → is_resetting w.host.mode ≡ b → Knows (hears_up w.host queue (upward.Reply d g page sense)).part.phases (entry.Take (up_lane queue) (item.Up (upward.Reply d g page sense)) ∷ (hears_up w.host queue (upward.Reply d g page sense)).entries)
      by_mode false m = reply queue d g page sense rest e y m
      by_mode true m =
          let l = view.framed w.host queue d g in
          let k = mode_reply (replies.takes_entry (replies.with_frame_heard w.host d g) queue) (smid_in d) (replies.request_of w.host (smid_in d)) (replies.heard_of d g page sense) (ap is_resetting l.mode ∙ m) in
          not_both (is_resetting (hears_up w.host queue (upward.Reply d g page sense)).part.mode) n (ap is_resetting k ∙ (ap is_resetting l.mode ∙ m))

  owes : OwesTold OnKnown w
  owes =
      record {
        idles = λ c. dull_host w (entry.Idle c ∷ []) (tt, tt) refl;
        host_puts = λ x rest e. still (record w { host = after_sent w.host x rest; down = w.down ++ x ∷ [] }) (entry.Put lane.Down (item.Down x) ∷ []) (tt, tt) (put_like x rest);
        host_takes = λ queue x rest e y. taken queue x rest e y;
        host_told = λ i c. (let z = view.told w.host i c in dull (record w { host = (host_told w.host i).part }) (host_told w.host i).entries (trace.told_dull (host_told w.host i).entries (told_input w.host i)) z.phases z.before);
        host_looks = λ e. still (record w { host = looks w.host }) [] tt (view.looks_still w.host);
        host_stops = λ e. still (record w { host = stops w.host }) [] tt (view.stops_still w.host);
        no_session = dull_host w [] tt refl;
        ioc_takes = λ x rest e. dull_host (record w { ioc = (adapter.takes_down w.ioc x).part; down = rest }) (entry.Take lane.Down (item.Down x) ∷ (adapter.takes_down w.ioc x).entries) (tt, trace.moved_dull (adapter.takes_down w.ioc x).entries (told_down w.ioc x)) refl;
        ioc_high = λ p rest e. dull_host (record w { ioc = (step.works_on (record w.ioc { high = rest }) p).part }) (step.works_on (record w.ioc { high = rest }) p).entries (trace.moved_dull (step.works_on (record w.ioc { high = rest }) p).entries (told_high w.ioc (p ∷ rest))) refl;
        ioc_normal = λ p rest e. dull_host (record w { ioc = (step.works_on (record w.ioc { normal = rest }) p).part }) (step.works_on (record w.ioc { normal = rest }) p).entries (trace.moved_dull (step.works_on (record w.ioc { normal = rest }) p).entries (told_normal w.ioc (p ∷ rest))) refl;
        ioc_puts_out = λ x rest e. dull_host (record w { ioc = record w.ioc { out = rest }; out = w.out ++ x ∷ [] }) (entry.Put lane.Out (item.Out x) ∷ []) (tt, tt) refl;
        ioc_takes_back = λ x rest e. dull_host (record w { ioc = (adapter.takes_back w.ioc x).part; back = rest }) (entry.Take lane.Back (item.Back x) ∷ (adapter.takes_back w.ioc x).entries) (tt, trace.moved_dull (adapter.takes_back w.ioc x).entries (told_back w.ioc x)) refl;
        ioc_puts = λ queue y rest z e u. dull_host (with_up (record w { ioc = adapter.up_sent_on w.ioc queue }) queue (up_on w queue ++ z ∷ [])) (entry.Put (up_lane queue) (item.Up z) ∷ []) (tt, tt) refl;
        fabric_takes = λ x rest e. dull_host (record w { fabric = fab.takes_out w.fabric x; out = rest }) (entry.Take lane.Out (item.Out x) ∷ []) (tt, tt) refl;
        fabric_says = λ x rest e. dull_host (record w { fabric = record w.fabric { notices = rest; out = w.fabric.out ++ x ∷ [] } }) [] tt refl;
        fabric_puts = λ x rest e. dull_host (record w { fabric = record w.fabric { out = rest }; back = w.back ++ x ∷ [] }) (entry.Put lane.Back (item.Back x) ∷ []) (tt, tt) refl;
        fabric_runs = λ tag address e. dull_host (record w { fabric = (fab.runs w.fabric tag).part }) (entry.Run address tag ∷ []) (tt, tt) refl;
        plugs = λ address expander phy t p. dull_host (record w { fabric = (fab.fabric_plugs w.fabric address expander phy).part }) t (trace.plug_dull t p) refl;
        unplugs = λ address t p. dull_host (record w { fabric = (fab.fabric_unplugs w.fabric address).part }) t (trace.plug_dull t p) refl;
        calms = dull_host (record w { fabric = fab.calms w.fabric }) [] tt refl;
      }

  known_kept : (c : Case) → is_resetting (happens w c).host.mode ≡ false → (g : ℕ) → IsHandle g → KnownAs (phase_of (happens w c) g) ((history_after h (entries w c)).so_far.announced g) ((history_after h (entries w c)).paged.pages g)
  unfolding OnKnown
  known_kept c m g i = known_of (phase_of (happens w c) g) ((history_after h (entries w c)).so_far.announced g) ((history_after h (entries w c)).paged.pages g) (kept_told OnKnown w plain owes c m g i)

  not_resetting : (x : HostState) → (is_starting x || is_up x) ≡ true → is_resetting x ≡ false
  not_resetting state.Off e = refl
  not_resetting state.Starting e = refl
  not_resetting state.Up e = refl
  not_resetting state.Resetting e = absurd (cc)

  off_not : (x : HostState) → is_off x ≡ true → is_resetting x ≡ false
  off_not state.Off e = refl
  off_not state.Starting e = refl
  off_not state.Up e = refl
  off_not state.Resetting e = absurd (cc)

  pub pages_known : (c : Case) → PagesKnown (happens w c) (history_after h (entries w c))
  pages_known c n g i = known_kept c (not_resetting (happens w c).host.mode n) g i

  pub off_known : (c : Case) → OffHostsKnown (happens w c) (history_after h (entries w c))
  off_known c n g i = known_kept c (off_not (happens w c).host.mode n) g i

pub off_at_first : (s : Setting) → OffHostsKnown (first_world s) (first_history s.disks)
off_at_first s o g i = known_of (phase_of (first_world s) g) false (λ a. false) (subst (λ q. Known q false (λ a. false)) (sym (absent_seen 64 (g - 9))) (refl, λ a. refl))
