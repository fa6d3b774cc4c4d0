-- What an item that the host takes makes of the ready handles: none changes, one is made ready, one is lost, or all are.
use Rattle.std.proofs.Common.{◌≡◌, ℕ, zero, suc, ◌+◌, ◌-◌, ◌≤◌, ◌==◌, ◌&&◌, ◌||◌, ◌⊎◌, inl, inr, cond, not, Bool, true, false, if◌then◌else◌, List, [], ◌∷◌, ◌++◌, length, get_or, map, replicate, Option, Some, None, unwrap_or, option_map, refl, ap, sym, ◌∙◌, subst, arith, length-set}
use Rattle.std.specs.Prelude.{All}
use Rattle.std.proofs.lemmas.Bool.{eqb-true}
use Rattle.std.proofs.lemmas.List.Elements.{All-head}
use Rattle.smid_pool.specs.Pool.{Free, Open, Parked, Slot, is_open, record_of}
use Rattle.removal.specs.Handles.{IsHandle, phase_at, with_phase}
use Rattle.removal.specs.Phases.{after_page}
use Rattle.removal.specs.declared.phase.Phase.{Phase}
use Rattle.removal.specs.declared.phase.Phase.TheVariants as phase
use Rattle.mpi_layout.specs.Rows.{field}
use Rattle.mpt_wire.specs.Handles.Bindings.{Plug}
use Rattle.mpt_wire.specs.Machine.Causes.{is_resetting, is_up}
use Rattle.mpt_wire.specs.Messages.Fields.{changes_in, event_context_in, event_in, page_dev_handle_in, page_sas_address_in, smid_in}
use Rattle.mpt_wire.specs.Walks.Passes.{EachEntry}
use Rattle.mpt_trace.specs.declared.entry.Entry.{Entry}
use Rattle.mpt_trace.specs.declared.entry.Entry.TheVariants as entry
use Rattle.mpt_trace.specs.declared.host_state.HostState.{HostState}
use Rattle.mpt_trace.specs.declared.host_state.HostState.TheVariants as state
use Rattle.mpt_trace.specs.declared.item.Up.{Up}
use Rattle.mpt_trace.specs.declared.item.Up.TheVariants as upward
use Rattle.mpt_rules.specs.declared.request.Request.{Request}
use Rattle.mpt_rules.specs.declared.request.Request.TheVariants as request
use Rattle.mpt_rules.specs.declared.said.Said.{Said}
use Rattle.mpt_rules.specs.declared.said.Said.TheVariants as said
use Rattle.mpt_rules.specs.declared.status.TheConstants.{IOC_STATUS_SUCCESS}
use Rattle.mpt_rules.specs.Host.Parts.{Host}
use Rattle.mpt_rules.specs.Host.Posts as asks
use Rattle.mpt_rules.specs.Host.Removal as removal
use Rattle.mpt_rules.specs.Host.Replies as replies
use Rattle.mpt_rules.specs.Host.Takes.{hears_up, is_starting}
use Rattle.mpt_rules.specs.Ioc.Replies.{outbox_of}
use Rattle.mpt_rules.specs.Outcome.{Happening}
use Rattle.mpt_rules.specs.World.Counts.{how_many, one_if}
use Rattle.mpt_rules.specs.World.Lines.{said_of, said_reply, up_line}
use Rattle.mpt_rules.specs.World.State.{World, up_on}
use Rattle.law_facts.specs.Clock.{in_begun, in_normal, is_live}
use Rattle.law_facts.specs.Facts.{Facts}
use Rattle.law_facts.specs.Handles.{IsWaiting, PageIs, phase_of}
use Rattle.law_facts.specs.History.{History}
use Rattle.law_facts.specs.Messages.{AnswersBy, IsPageReply, SaidIs, event_like}
use Rattle.law_facts.specs.Words.{is_calm_said, is_off, is_reply, others, slot}
use Rattle.law_handles.proofs.HostSays.{ends_reset_told}
use Rattle.law_handles.proofs.Phased.{phase_at-with}
use Rattle.law_messages.proofs.Agreeing.{same}
use Rattle.law_moves.proofs.Counted.{how_many-cons, others-cons}
use Rattle.law_targets.proofs.Heard as trace
use Rattle.law_targets.proofs.PostKinds.{fits}
use Rattle.law_targets.proofs.Views as view
use Rattle.law_targets.proofs.Views.{Hears, Like, Over, Stays, Views, seen_as}
use Rattle.law_ready.proofs.Bare.{IsBare}

-- ---- the address of a ready handle

abbrev pub ready_at : Phase → Option ℕ
ready_at (phase.Ready address) = Some address
ready_at p = None

abbrev seen_ready : Option (Option ℕ) → Option ℕ
seen_ready None = None
seen_ready (Some o) = o

ready_by : (p : Phase) → ready_at p ≡ seen_ready (seen_as p)
ready_by phase.Absent = refl
ready_by phase.WaitRead = refl
ready_by (phase.Reading s) = refl
ready_by (phase.Ready address) = refl
ready_by phase.WaitHigh = refl
ready_by (phase.Resetting s) = refl
ready_by phase.WaitInternal = refl
ready_by (phase.Removing s) = refl

seen_same : (p q : Phase) → seen_as p ≡ seen_as q → ready_at p ≡ ready_at q
seen_same p q e = ready_by p ∙ (ap seen_ready e ∙ sym (ready_by q))

pub absent_ready : (n j : ℕ) → ready_at (get_or (replicate n phase.Absent) j phase.Absent) ≡ None
absent_ready zero j = refl
absent_ready (suc n) zero = refl
absent_ready (suc n) (suc j) = absent_ready n j

-- ---- what becomes of the ready handles, and what is told

pub data Turned (w : World) (h : History) (k : Host) (t : List Entry) : Type 0 where
  Keeps : is_resetting w.host.mode ≡ false → ((g : ℕ) → IsHandle g → ready_at (phase_at k.phases g) ≡ ready_at (phase_of w g)) → EachEntry IsBare t → Turned w h k t
  Ends : ((g : ℕ) → ready_at (phase_at k.phases g) ≡ None) → (u : List Entry) → t ≡ u ++ entry.ResetDone ∷ [] → Turned w h k t
  Reads : (s g0 a : ℕ) → IsHandle g0 → phase_of w g0 ≡ phase.Reading s → option_map (λ (p : Plug). p.address) (h.serving.bound g0) ≡ Some a → in_normal w ≡ true → is_live w ≡ true
      → ((g : ℕ) → IsHandle g → ready_at (phase_at k.phases g) ≡ cond (g == g0) (Some a) (ready_at (phase_of w g))) → t ≡ entry.Ready a g0 ∷ [] → Turned w h k t
  Loses : (g0 a : ℕ) → IsHandle g0 → phase_of w g0 ≡ phase.Ready a → in_normal w ≡ true
      → ((g : ℕ) → IsHandle g → ready_at (phase_at k.phases g) ≡ cond (g == g0) None (ready_at (phase_of w g))) → t ≡ entry.Lost a g0 ∷ [] → Turned w h k t

-- ---- what replies tell

unless_bare : (k : Host) (s : ℕ) (o : Happening Host) → EachEntry IsBare o.entries → EachEntry IsBare (replies.unless_resetting k s o).entries
unless_bare k s o b = by_mode (is_resetting k.mode)
  where
    by_mode : (m : Bool) → EachEntry IsBare (if m then removal.quietly (asks.frees k s) else o).entries
    by_mode true = tt
    by_mode false = b

answer_bare : (ps : List Phase) (k : Host) (s : ℕ) (r : Request) (v : replies.Heard) → view.IsPageRead ps r ≡ false → EachEntry IsBare (replies.hears_answer k s r v).entries
answer_bare ps k s (request.Command n) v p = (tt, tt)
answer_bare ps k s (request.Abort n task) v p = (tt, tt)
answer_bare ps k s (request.TargetReset address) v p = (tt, tt)
answer_bare ps k s (request.Leave g) v p = unless_bare k s (removal.quietly (removal.left k s g)) tt
answer_bare ps k s (request.Page g) v p = absurd (cc)
answer_bare ps k s (request.Remove g) v p = unless_bare k s (removal.quietly (removal.removed k s g)) tt
answer_bare ps k s (request.Ack event context) v p = unless_bare k s (removal.quietly (asks.frees_internal k s)) tt
answer_bare ps k s request.Notification v p = unless_bare k s (removal.quietly (replies.hears_notified k s)) tt
answer_bare ps k s request.PortEnable v p = unless_bare k s (replies.after_port_enable k s) (tt, tt)

either_mode : (m : HostState) → is_resetting m ≡ false → (is_off m ≡ true) ⊎ ((is_starting m || is_up m) ≡ true)
either_mode state.Off e = inl refl
either_mode state.Starting e = inr refl
either_mode state.Up e = inr refl
either_mode state.Resetting e = absurd (cc)

disk_tests : (n : ℕ) → IsHandle n → removal.is_disk_handle n ≡ true
disk_tests n i = let a = i.0 in let b = i.1 in grind (arith, a, b)

above_zero : (n : ℕ) → (suc n == 0) ≡ false
above_zero n = grind arith

abbrev status_of : Bool → ℕ
status_of added = if added then 1 else 2

module _ (w : World) (h : History) (f : Facts w h) where
  same_phases : (k : Host) (t : List Entry) → is_resetting w.host.mode ≡ false → k.phases ≡ w.host.phases → EachEntry IsBare t → Turned w h k t
  same_phases k t m e b = Keeps m (λ g i. ap (λ ps. ready_at (phase_at ps g)) e) b

  same_views : (k : Host) (t : List Entry) → is_resetting w.host.mode ≡ false → Views w.host.phases k.phases → EachEntry IsBare t → Turned w h k t
  same_views k t m z b = Keeps m (λ g i. seen_same (phase_at k.phases g) (phase_of w g) (z.same g i)) b

  module _ (queue d : ℕ) (fr : Option (List ℕ)) (page sense : List ℕ) (rest : List Up) (front : up_on w queue ≡ upward.Reply d fr page sense ∷ rest) (m : is_resetting w.host.mode ≡ false) where
    abbrev x : Up
    x = upward.Reply d fr page sense

    abbrev h1 : Host
    h1 = replies.takes_entry (replies.with_frame_heard w.host d fr) queue

    abbrev v : replies.Heard
    v = replies.heard_of d fr page sense

    like : Like h1 w.host
    like = view.framed w.host queue d fr

    line_is : up_line w queue ≡ said_reply (smid_in d) fr page sense ∷ (map said_of rest ++ outbox_of w.ioc queue)
    line_is = ap (λ ys. map said_of ys ++ outbox_of w.ioc queue) front

    said_is : SaidIs w h queue (said_reply (smid_in d) fr page sense)
    said_is = All-head (SaidIs w h queue) (said_reply (smid_in d) fr page sense) (map said_of rest ++ outbox_of w.ioc queue) (subst (All (SaidIs w h queue)) line_is (f.messages.said queue))

    reply_there : is_reply (said_reply (smid_in d) fr page sense) ≡ true
    reply_there = by_frame fr
      where
        by_frame : (o : Option (List ℕ)) → is_reply (said_reply (smid_in d) o page sense) ≡ true
        by_frame None = refl
        by_frame (Some g) = refl

    live : is_live w ≡ true
    live = by_live (is_live w) refl
      where
        not_begun : in_begun w ≡ false
        not_begun = ap (λ b. b && (w.host.asked == w.ioc.generation)) m

        by_live : (b : Bool) → is_live w ≡ b → b ≡ true
        by_live true e = refl
        by_live false e =
            let z = f.clock.no_reply_before_init.before not_begun e queue in
            let a = ap (how_many is_reply) line_is in let c = how_many-cons is_reply (said_reply (smid_in d) fr page sense) (map said_of rest ++ outbox_of w.ioc queue) in let o = ap one_if reply_there in
            absurd (omega (arith, z, a, c, o))

    normal : in_normal w ≡ true
    normal = by_mode (either_mode w.host.mode m)
      where
        by_mode : (is_off w.host.mode ≡ true) ⊎ ((is_starting w.host.mode || is_up w.host.mode) ≡ true) → in_normal w ≡ true
        by_mode (inr e) = e
        by_mode (inl e) = let z : true ≡ false = sym e ∙ (f.clock.phase_table.live live).1 in absurd (cc)

    abbrev By : Option Request → Type 0
    By o = Turned w h (replies.hears_reply_to h1 (smid_in d) o v).part (replies.hears_reply_to h1 (smid_in d) o v).entries

    mode1 : is_resetting h1.mode ≡ false
    mode1 = ap is_resetting like.mode ∙ m

    highs : All IsHandle h1.wait_high
    highs = subst (All IsHandle) (sym like.high) f.handles.waits.handles

    internals : All IsWaiting h1.wait_internal
    internals = subst (All IsWaiting) (sym like.internal) f.handles.waits.requests

    views1 : Views w.host.phases h1.phases
    views1 = subst (Views w.host.phases) (sym like.phases) (view.unchanged w.host.phases f.flights.sizes.phases)

    names : (r : Request) → slot w.host (smid_in d) ≡ Open r → view.NamesDisk w.host.phases r
    names (request.Leave g) o = fits w h f (smid_in d) (request.Leave g) o
    names (request.Remove g) o = fits w h f (smid_in d) (request.Remove g) o
    names (request.Page g) o = fits w h f (smid_in d) (request.Page g) o
    names (request.Command n) o = tt
    names (request.Abort n task) o = tt
    names (request.TargetReset address) o = tt
    names (request.Ack event context) o = tt
    names request.Notification o = tt
    names request.PortEnable o = tt

    other : (r : Request) → view.IsPageRead w.host.phases r ≡ false → slot w.host (smid_in d) ≡ Open r → By (Some r)
    other r n o =
        same_views (replies.hears_answer h1 (smid_in d) r v).part (replies.hears_answer h1 (smid_in d) r v).entries m
        (view.answer w.host.phases h1 (smid_in d) highs internals mode1 views1 r v n (names r o)) (answer_bare w.host.phases h1 (smid_in d) r v n)

    -- ---- the reply to a page read

    abbrev AnswersFrame : Option (List ℕ) → Slot Request → Type 0
    AnswersFrame None y = AnswersBy w h queue (smid_in d) (said.Success (smid_in d) page sense) y
    AnswersFrame (Some g) y = AnswersBy w h queue (smid_in d) (said.Framed (smid_in d) g page sense) y

    positive : (r : Request) → slot w.host (smid_in d) ≡ Open r → (smid_in d == 0) ≡ false
    positive r o = by_smid (smid_in d) o
      where
        by_smid : (n : ℕ) → slot w.host n ≡ Open r → (n == 0) ≡ false
        by_smid zero o = absurd (cc)
        by_smid (suc n) o = above_zero n

    module _ (g0 : ℕ) (o : slot w.host (smid_in d) ≡ Open (request.Page g0)) where
      disk : IsHandle g0
      disk = fits w h f (smid_in d) (request.Page g0) o

      abbrev read : Option ℕ
      read = replies.address_read (replies.reply_bytes v) page

      abbrev done : Happening Host
      done = replies.hears_reply_to h1 (smid_in d) (Some (request.Page g0)) v

      -- what is ready then
      ready_then : (p : Phase) → phase_of w g0 ≡ p → (j : ℕ) → IsHandle j → ready_at (phase_at done.part.phases j) ≡ cond (j == g0) (ready_at (after_page p (smid_in d) read)) (ready_at (phase_of w j))
      ready_then p e j i =
          let q : Views (with_phase h1.phases g0 (after_page (phase_at h1.phases g0) (smid_in d) read)) (with_phase h1.phases g0 (after_page (phase_at h1.phases g0) (smid_in d) read)) = view.unchanged _ (length-set h1.phases _ (after_page (phase_at h1.phases g0) (smid_in d) read) ∙ views1.handles) in
          let k = view.page_answer (with_phase h1.phases g0 (after_page (phase_at h1.phases g0) (smid_in d) read)) h1 (smid_in d) g0 v internals mode1 q in
          seen_same _ _ (k.same j i)
          ∙ (ap ready_at (phase_at-with h1.phases g0 j (after_page (phase_at h1.phases g0) (smid_in d) read) views1.handles disk i)
          ∙ (ap (λ ps. ready_at (cond (j == g0) (after_page (phase_at ps g0) (smid_in d) read) (phase_at ps j))) like.phases
          ∙ (ap (λ y. ready_at (cond (j == g0) (after_page y (smid_in d) read) (phase_of w j))) e ∙ by_key (j == g0))))
        where
          by_key : (b : Bool) → ready_at (cond b (after_page p (smid_in d) read) (phase_of w j)) ≡ cond b (ready_at (after_page p (smid_in d) read)) (ready_at (phase_of w j))
          by_key true = refl
          by_key false = refl

      told_then : (p : Phase) → phase_of w g0 ≡ p → done.entries ≡ removal.ready_told g0 (smid_in d) p read
      told_then p e =
          ap (λ b. (if b then removal.quietly (asks.frees h1 (smid_in d)) else removal.reads_page h1 (smid_in d) g0 read).entries) mode1
          ∙ (ap (λ ps. removal.ready_told g0 (smid_in d) (phase_at ps g0) read) like.phases ∙ ap (λ y. removal.ready_told g0 (smid_in d) y read) e)

      stays : (p : Phase) → phase_of w g0 ≡ p → ready_at (after_page p (smid_in d) read) ≡ ready_at p → removal.ready_told g0 (smid_in d) p read ≡ [] → By (Some (request.Page g0))
      stays p e r t = Keeps m (λ j i. ready_then p e j i ∙ by_key j (j == g0) refl) (subst (EachEntry IsBare) (sym (told_then p e ∙ t)) tt)
        where
          by_key : (j : ℕ) (b : Bool) → (j == g0) ≡ b → cond (j == g0) (ready_at (after_page p (smid_in d) read)) (ready_at (phase_of w j)) ≡ ready_at (phase_of w j)
          by_key j true u = ap (λ b. cond b (ready_at (after_page p (smid_in d) read)) (ready_at (phase_of w j))) u ∙ (r ∙ (ap ready_at (sym e) ∙ ap (λ y. ready_at (phase_of w y)) (sym (eqb-true j g0 u))))
          by_key j false u = ap (λ b. cond b (ready_at (after_page p (smid_in d) read)) (ready_at (phase_of w j))) u

      -- a page is of the disk to which its handle is bound
      bound_is : (a : ℕ) → read ≡ Some a → option_map (λ (p : Plug). p.address) (h.serving.bound g0) ≡ Some a
      bound_is a t = by_frame fr refl (subst (AnswersFrame fr) o (answers fr said_is (positive (request.Page g0) o)))
        where
          answers : (k : Option (List ℕ)) → SaidIs w h queue (said_reply (smid_in d) k page sense) → (smid_in d == 0) ≡ false → AnswersFrame k (slot w.host (smid_in d))
          answers None a e = a
          answers (Some g) a e = by_smid (smid_in d) a e
            where
              by_smid : (n : ℕ) → SaidIs w h queue (said.Framed n g page sense) → (n == 0) ≡ false → AnswersBy w h queue n (said.Framed n g page sense) (slot w.host n)
              by_smid zero a e = absurd (cc)
              by_smid (suc n) a e = a

          by_frame : (k : Option (List ℕ)) → fr ≡ k → AnswersFrame k (Open (request.Page g0)) → option_map (λ (p : Plug). p.address) (h.serving.bound g0) ≡ Some a
          by_frame None e y = absurd y
          by_frame (Some g) e y = by_kind y.2
            where
              by_kind : IsPageReply g0 g page → option_map (λ (p : Plug). p.address) (h.serving.bound g0) ≡ Some a
              by_kind (inr k) =
                  let b : (replies.reply_status g == IOC_STATUS_SUCCESS) ≡ false = ap (λ z. replies.reply_status z == IOC_STATUS_SUCCESS) k.0 ∙ trace.status_refused in
                  let r : read ≡ None = ap (λ z. replies.address_read (unwrap_or z []) page) e ∙ ap (λ z. if z then Some (page_sas_address_in page) else None) b in
                  let n : None ≡ Some a = sym r ∙ t in
                  absurd (cc)
              by_kind (inl k) =
                  let b : (replies.reply_status g == IOC_STATUS_SUCCESS) ≡ true = ap (λ z. replies.reply_status z == IOC_STATUS_SUCCESS) k.0 ∙ ap (λ z. z == IOC_STATUS_SUCCESS) trace.status_given in
                  let r : read ≡ Some (page_sas_address_in page) = ap (λ z. replies.address_read (unwrap_or z []) page) e ∙ ap (λ z. if z then Some (page_sas_address_in page) else None) b in
                  let l : up_line w 0 ≡ said.Framed (smid_in d) g page sense ∷ (map said_of rest ++ outbox_of w.ioc queue) = ap (up_line w) (sym y.0) ∙ (line_is ∙ ap (λ z. said_reply (smid_in d) z page sense ∷ (map said_of rest ++ outbox_of w.ioc queue)) e) in
                  let p : PageIs w h (said.Framed (smid_in d) g page sense) = All-head (PageIs w h) (said.Framed (smid_in d) g page sense) (map said_of rest ++ outbox_of w.ioc queue) (subst (All (PageIs w h)) l (f.handles.pages live)) in
                  ap (λ z. option_map (λ (p : Plug). p.address) (h.serving.bound z)) (sym k.2) ∙ ((p k.1).0 ∙ (sym r ∙ t))

      by_phase : (p : Phase) → phase_of w g0 ≡ p → By (Some (request.Page g0))
      by_phase (phase.Reading q) e = by_key (q == smid_in d) refl
        where
          by_read : (q == smid_in d) ≡ true → (b : Option ℕ) → read ≡ b → By (Some (request.Page g0))
          by_read u None t =
              stays (phase.Reading q) e (ap (λ z. ready_at (after_page (phase.Reading q) (smid_in d) z)) t ∙ ap (λ z. ready_at (if z then phase.Absent else phase.Reading q)) u) (ap (removal.ready_told g0 (smid_in d) (phase.Reading q)) t)
          by_read u (Some a) t =
              Reads q g0 a disk e (bound_is a t) normal live
              (λ j i. ready_then (phase.Reading q) e j i ∙ ap (λ z. cond (j == g0) z (ready_at (phase_of w j))) (ap (λ z. ready_at (after_page (phase.Reading q) (smid_in d) z)) t ∙ ap (λ z. ready_at (if z then phase.Ready a else phase.Reading q)) u))
              (told_then (phase.Reading q) e ∙ (ap (removal.ready_told g0 (smid_in d) (phase.Reading q)) t ∙ ap (λ z. if z then entry.Ready a g0 ∷ [] else []) u))

          by_key : (b : Bool) → (q == smid_in d) ≡ b → By (Some (request.Page g0))
          by_key true u = by_read u read refl
          by_key false u =
              stays (phase.Reading q) e (ap (λ z. ready_at (if z then Rattle.removal.specs.Phases.phase_by_page read else phase.Reading q)) u) (none read)
            where
              none : (b : Option ℕ) → removal.ready_told g0 (smid_in d) (phase.Reading q) b ≡ []
              none None = refl
              none (Some a) = ap (λ z. if z then entry.Ready a g0 ∷ [] else []) u
      by_phase phase.Absent e = stays phase.Absent e refl refl
      by_phase phase.WaitRead e = stays phase.WaitRead e refl refl
      by_phase (phase.Ready b) e = stays (phase.Ready b) e refl refl
      by_phase phase.WaitHigh e = stays phase.WaitHigh e refl refl
      by_phase (phase.Resetting q) e = stays (phase.Resetting q) e refl refl
      by_phase phase.WaitInternal e = stays phase.WaitInternal e refl refl
      by_phase (phase.Removing q) e = stays (phase.Removing q) e refl refl

    -- ---- an event

    module _ (g : List ℕ) (framed : fr ≡ Some g) (added : Bool) (like_event : g ≡ event_like g added) (disk2 : IsHandle (field g 0x28 2)) where
      abbrev g0 : ℕ
      g0 = field g 0x28 2

      changes_is : changes_in g ≡ record { handle = field g 0x28 2; status = status_of added } ∷ []
      changes_is = trace.changes_are g added like_event

      abbrev h2 : Host
      h2 = asks.asks_internal h1 (request.Ack (event_in g) (event_context_in g))

      phases2 : h2.phases ≡ w.host.phases
      phases2 = view.ack_phases h1 (event_in g) (event_context_in g) ∙ like.phases

      sized2 : length h2.phases ≡ 64
      sized2 = ap length phases2 ∙ f.flights.sizes.phases

      phase2 : (p : Phase) → phase_at h2.phases (field g 0x28 2) ≡ p → phase_of w (field g 0x28 2) ≡ p
      phase2 p e = ap (λ ps. phase_at ps (field g 0x28 2)) (sym phases2) ∙ e

      abbrev Made : Bool → Happening Host
      Made b = removal.after_told (removal.hears_status h2 (field g 0x28 2) (status_of b)).entries (removal.quietly (removal.hears_status h2 (field g 0x28 2) (status_of b)).part)

      is_made : replies.hears_reply_to h1 (smid_in d) None v ≡ Made added
      unfolding removal.hears_changes
      is_made =
          ap (λ k. if k then removal.quietly h1 else removal.hears_event h1 (unwrap_or fr [])) mode1
          ∙ (ap (λ k. removal.hears_event h1 (unwrap_or k [])) framed
          ∙ (ap (λ k. removal.hears_changes h2 k) changes_is
          ∙ ap
          (λ k. removal.after_told (if k then removal.hears_status h2 (field g 0x28 2) (status_of added) else removal.quietly h2).entries (removal.quietly (if k then removal.hears_status h2 (field g 0x28 2) (status_of added) else removal.quietly h2).part))
          (disk_tests (field g 0x28 2) disk2)))

      -- the handle, which wasn't ready, isn't
      keeps_by : (k : Host) (t : List Entry) (o : Option (Option ℕ)) → seen_ready o ≡ None → ready_at (phase_of w (field g 0x28 2)) ≡ None
          → ((j : ℕ) → IsHandle j → seen_as (phase_at k.phases j) ≡ cond (j == field g 0x28 2) o (seen_as (phase_at h2.phases j))) → EachEntry IsBare t → Turned w h k t
      keeps_by k t o n r s b = Keeps m (λ j i. ready_by (phase_at k.phases j) ∙ (ap seen_ready (s j i) ∙ by_key j (j == field g 0x28 2) refl)) b
        where
          by_key : (j : ℕ) (b : Bool) → (j == field g 0x28 2) ≡ b → seen_ready (cond (j == field g 0x28 2) o (seen_as (phase_at h2.phases j))) ≡ ready_at (phase_of w j)
          by_key j true u = ap (λ b. seen_ready (cond b o (seen_as (phase_at h2.phases j)))) u ∙ (n ∙ (sym r ∙ ap (λ y. ready_at (phase_of w y)) (sym (eqb-true j (field g 0x28 2) u))))
          by_key j false u = ap (λ b. seen_ready (cond b o (seen_as (phase_at h2.phases j)))) u ∙ (ap (λ ps. seen_ready (seen_as (phase_at ps j))) phases2 ∙ sym (ready_by (phase_of w j)))

      adds : (p : Phase) → phase_at h2.phases (field g 0x28 2) ≡ p → Turned w h (removal.after_handle_added h2 (field g 0x28 2) p) []
      adds phase.Absent e =
          keeps_by (removal.after_handle_added h2 (field g 0x28 2) phase.Absent) [] (Some None) refl (ap ready_at (phase2 phase.Absent e)) (view.added h2 (field g 0x28 2) disk2 sized2 phase.Absent e refl) tt
      adds phase.WaitRead e = same_phases h2 [] m phases2 tt
      adds (phase.Reading s) e = same_phases h2 [] m phases2 tt
      adds (phase.Ready a) e = same_phases h2 [] m phases2 tt
      adds phase.WaitHigh e = same_phases h2 [] m phases2 tt
      adds (phase.Resetting s) e = same_phases h2 [] m phases2 tt
      adds phase.WaitInternal e = same_phases h2 [] m phases2 tt
      adds (phase.Removing s) e = same_phases h2 [] m phases2 tt

      abbrev gone : Phase → Happening Host
      gone p = removal.after_handle_lost h2 (field g 0x28 2) p

      loses : (p : Phase) → phase_at h2.phases (field g 0x28 2) ≡ p → Turned w h (removal.after_handle_lost h2 (field g 0x28 2) p).part ((removal.after_handle_lost h2 (field g 0x28 2) p).entries ++ [])
      loses phase.WaitRead e = keeps_by (gone phase.WaitRead).part [] None refl (ap ready_at (phase2 phase.WaitRead e)) (view.lost h2 (field g 0x28 2) disk2 sized2 phase.WaitRead e) tt
      loses (phase.Reading s) e = keeps_by (gone (phase.Reading s)).part [] None refl (ap ready_at (phase2 (phase.Reading s) e)) (view.lost h2 (field g 0x28 2) disk2 sized2 (phase.Reading s) e) tt
      loses (phase.Ready a) e =
          Loses (field g 0x28 2) a disk2 (phase2 (phase.Ready a) e) normal
          (λ j i. ready_by (phase_at (gone (phase.Ready a)).part.phases j)
          ∙ (ap seen_ready (view.lost h2 (field g 0x28 2) disk2 sized2 (phase.Ready a) e j i)
          ∙ (ap (λ ps. seen_ready (cond (j == field g 0x28 2) None (seen_as (phase_at ps j)))) phases2 ∙ by_key j (j == field g 0x28 2))))
          refl
        where
          by_key : (j : ℕ) (b : Bool) → seen_ready (cond b None (seen_as (phase_of w j))) ≡ cond b None (ready_at (phase_of w j))
          by_key j true = refl
          by_key j false = sym (ready_by (phase_of w j))
      loses phase.Absent e = same_phases h2 [] m phases2 tt
      loses phase.WaitHigh e = same_phases h2 [] m phases2 tt
      loses (phase.Resetting s) e = same_phases h2 [] m phases2 tt
      loses phase.WaitInternal e = same_phases h2 [] m phases2 tt
      loses (phase.Removing s) e = same_phases h2 [] m phases2 tt

      event : By None
      event = subst (λ (o : Happening Host). Turned w h o.part o.entries) (sym is_made) (by_added added)
        where
          by_added : (b : Bool) → Turned w h (Made b).part (Made b).entries
          by_added true = adds (phase_at h2.phases (field g 0x28 2)) refl
          by_added false = loses (phase_at h2.phases (field g 0x28 2)) refl

    -- ---- by the identifier's record

    closed_event : is_open (slot w.host (smid_in d)) ≡ false → (o : Option (List ℕ)) (n : ℕ) → fr ≡ o → smid_in d ≡ n → SaidIs w h queue (said_reply n o page sense) → By None
    closed_event c None n e u a = absurd (none (slot w.host n) (subst (λ j. is_open (slot w.host j) ≡ false) u c) a)
      where
        none : (y : Slot Request) → is_open y ≡ false → AnswersBy w h queue n (said.Success n page sense) y → ⊥
        none Free c k = k
        none Parked c k = k
        none (Open r) c k = absurd (cc)
    closed_event c (Some g) (suc n) e u a = absurd (none (slot w.host (suc n)) (subst (λ j. is_open (slot w.host j) ≡ false) u c) a)
      where
        none : (y : Slot Request) → is_open y ≡ false → AnswersBy w h queue (suc n) (said.Framed (suc n) g page sense) y → ⊥
        none Free c k = k
        none Parked c k = k
        none (Open r) c k = absurd (cc)
    closed_event c (Some g) zero e u a = by_kind a.4
      where
        by_kind : (g ≡ event_like g true) ⊎ (g ≡ event_like g false) → By None
        by_kind (inl k) = event g e true k a.3
        by_kind (inr k) = event g e false k a.3

    reply : Turned w h (hears_up w.host queue x).part (hears_up w.host queue x).entries
    reply = by_slot (slot w.host (smid_in d)) refl
      where
        by_slot : (y : Slot Request) → slot w.host (smid_in d) ≡ y → By (record_of y)
        by_slot Free e = closed_event (ap is_open e) fr (smid_in d) refl refl said_is
        by_slot Parked e = closed_event (ap is_open e) fr (smid_in d) refl refl said_is
        by_slot (Open (request.Page g0)) e = by_phase g0 e (phase_of w g0) refl
        by_slot (Open (request.Command n)) e = other (request.Command n) refl e
        by_slot (Open (request.Abort n task)) e = other (request.Abort n task) refl e
        by_slot (Open (request.TargetReset address)) e = other (request.TargetReset address) refl e
        by_slot (Open (request.Leave g)) e = other (request.Leave g) refl e
        by_slot (Open (request.Remove g)) e = other (request.Remove g) refl e
        by_slot (Open (request.Ack event context)) e = other (request.Ack event context) refl e
        by_slot (Open request.Notification) e = other request.Notification refl e
        by_slot (Open request.PortEnable) e = other request.PortEnable refl e

  -- ---- values and marks

  silent : (o : Happening Host) → is_resetting o.part.mode ≡ false → Hears w.host o → Turned w h o.part o.entries
  silent o n (Stays k e) = same_phases o.part o.entries (ap is_resetting (sym k.mode) ∙ n) k.phases (subst (EachEntry IsBare) (sym e) tt)
  silent o n (Over j p e) = let r = ends_reset_told j in Ends (λ g. ap (λ ps. ready_at (phase_at ps g)) p ∙ absent_ready 64 (g - 9)) r.told (e ∙ r.is)

  -- an item that leaves the host asking no reset
  pub turned : (queue : ℕ) (x : Up) (rest : List Up) → up_on w queue ≡ x ∷ rest → is_resetting (hears_up w.host queue x).part.mode ≡ false → Turned w h (hears_up w.host queue x).part (hears_up w.host queue x).entries
  turned queue (upward.Value value) rest e n = silent (hears_up w.host queue (upward.Value value)) n (view.value w.host value)
  turned queue (upward.Mark generation) rest e n = silent (hears_up w.host queue (upward.Mark generation)) n (view.mark w.host queue)
  turned queue upward.Calm rest e n = same_phases w.host [] n refl tt
  turned queue (upward.Reply d g page sense) rest e n = by_mode (is_resetting w.host.mode) refl
    where
      by_mode : (b : Bool) → is_resetting w.host.mode ≡ b → Turned w h (hears_up w.host queue (upward.Reply d g page sense)).part (hears_up w.host queue (upward.Reply d g page sense)).entries
      by_mode false m = reply queue d g page sense rest e m
      by_mode true m =
          let l = view.framed w.host queue d g in
          let k = Rattle.law_targets.proofs.KnownKept.mode_reply (replies.takes_entry (replies.with_frame_heard w.host d g) queue) (smid_in d) (replies.request_of w.host (smid_in d)) (replies.heard_of d g page sense) (ap is_resetting l.mode ∙ m) in
          let z : true ≡ false = sym (ap is_resetting k ∙ (ap is_resetting l.mode ∙ m)) ∙ n in
          absurd (cc)
