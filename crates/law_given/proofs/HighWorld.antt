-- Over every case, the rule of least posts has of task management what the host has.
use Rattle.std.proofs.Common.{◌≡◌, ℕ, zero, suc, ◌≤◌, ◌==◌, ◌||◌, ◌⊎◌, inl, inr, if◌then◌else◌, Bool, true, false, List, [], ◌∷◌, ◌++◌, length, map, get_or, slice_set, Option, Some, None, refl, ap, sym, ◌∙◌, subst, arith}
use Rattle.std.specs.Prelude.{All}
use Rattle.std.specs.FinMap as finmap
use Rattle.std.proofs.lemmas.Bool.Decides.{nat_tests}
use Rattle.std.proofs.lemmas.List.Elements.{All-head}
use Rattle.mpi_layout.specs.Rows.{field}
use Rattle.smid_pool.specs.Class.{IsIn}
use Rattle.smid_pool.specs.Pool.{Free, Open, Parked, Slot, slot_of}
use Rattle.smid_pool.specs.declared.class.Class.TheVariants as class
use Rattle.removal.specs.Handles.{IsHandle, phase_at}
use Rattle.removal.specs.Phases.{after_page, after_removed, after_task_done}
use Rattle.mpi_doorbell.specs.HostSteps.{look_at_doorbell}
use Rattle.mpi_rings.specs.declared.request_descriptor.PostKind.TheVariants as post
use Rattle.mpt_trace.specs.declared.entry.Entry.{Entry}
use Rattle.mpt_trace.specs.declared.entry.Entry.TheVariants as entry
use Rattle.mpt_trace.specs.declared.host_state.HostState.{HostState}
use Rattle.mpt_trace.specs.declared.host_state.HostState.TheVariants as state
use Rattle.mpt_trace.specs.declared.item.Item.TheVariants as item
use Rattle.mpt_trace.specs.declared.item.Up.{Up}
use Rattle.mpt_trace.specs.declared.item.Up.TheVariants as upward
use Rattle.mpt_trace.specs.declared.lane.LaneName.TheVariants as lane
use Rattle.mpt_wire.specs.Machine.Causes.{is_resetting, is_up}
use Rattle.mpt_wire.specs.Machine.SoFar.{SoFar}
use Rattle.mpt_wire.specs.Messages.Fields.{changes_in, event_context_in, event_in, smid_in}
use Rattle.mpt_wire.specs.Queues.LeastPosts.{Another, Giving, after_changes, event_heard, freed, freed_by, giving_next, heard, is_of_kind, least_of, makes_internal}
use Rattle.mpt_wire.specs.Walks.Ahead.{next_own, state_ahead}
use Rattle.mpt_rules.specs.declared.request.Request.{Request}
use Rattle.mpt_rules.specs.declared.request.Request.TheVariants as request
use Rattle.mpt_rules.specs.declared.said.Said.{Said}
use Rattle.mpt_rules.specs.declared.said.Said.TheVariants as said
use Rattle.mpt_rules.specs.declared.stage.Stage.TheVariants as stage
use Rattle.mpt_rules.specs.Host.Parts.{Host}
use Rattle.mpt_rules.specs.Host.Posts as asks
use Rattle.mpt_rules.specs.Host.Removal as removal
use Rattle.mpt_rules.specs.Host.Replies.{Heard}
use Rattle.mpt_rules.specs.Host.Replies as replies
use Rattle.mpt_rules.specs.Host.Takes.{hears_up, is_starting}
use Rattle.mpt_rules.specs.Ioc.Steps as work
use Rattle.mpt_rules.specs.Ioc.Takes as adapter
use Rattle.mpt_rules.specs.Law.{NothingIsStrange}
use Rattle.mpt_rules.specs.Outcome.{Happening}
use Rattle.mpt_rules.specs.World.Cases.{Case, entries, happens}
use Rattle.mpt_rules.specs.World.Lines.{said_of, said_reply, up_line}
use Rattle.mpt_rules.specs.World.State.{World, up_lane, up_on}
use Rattle.law_facts.specs.Clock.{in_normal}
use Rattle.law_facts.specs.Facts.{Facts}
use Rattle.law_facts.specs.Flights.{RecordStands}
use Rattle.law_facts.specs.Handles.{is_announced}
use Rattle.law_facts.specs.History.{History, history_after}
use Rattle.law_facts.specs.Messages.{AnswersBy, SaidIs, event_like}
use Rattle.law_facts.specs.Ties.{another}
use Rattle.law_facts.specs.Words.{is_calm_said, is_off, others, slot}
use Rattle.law_flights.proofs.HostHolds.{in_table}
use Rattle.law_moves.proofs.CasesTold.{OwesTold, kept_told}
use Rattle.law_moves.proofs.Counted.{others-cons}
use Rattle.law_moves.proofs.HostWords.{word_reply_to}
use Rattle.law_moves.proofs.IocWords.{back_words, works_words}
use Rattle.law_records.proofs.Recorded.{fits}
use Rattle.law_classes.proofs.Leasts.{open_or_free}
use Rattle.law_given.specs.HighGiven.{HighGiven}
use Rattle.law_given.proofs.HighFits.{Fits, below, frees_high, least_same}
use Rattle.law_given.proofs.HighMoves.{IsEmpty, asks_internal, begun, entry_taken, freed_other, frees_internal, over, silent_stop, valued, words_stay}
use Rattle.law_given.proofs.HighKept.{Same, changes_are, down_stays, high_of_reply, ioc_stays, kind_above, kind_high, kind_low, none_made, one_change, phases_asked, plug_stays, put, same_taken, told}

not_none : (j : ℕ) → (suc j == 0) ≡ false
not_none j = grind (arith, nat_tests)

module _ (w : World) (h : History) (f : Facts w h) where
  here : Fits w.host h.giving.high
  here =
      record {
        long = f.flights.sizes.pool;
        made = f.ties.given.high_made;
        waiting = f.ties.given.high_waiting;
        opened = λ s l m. (f.ties.opened s).high l m;
        taken = λ s l m. open_or_free w h f s l (omega (arith, m));
      }

  full : 1 ≤ length w.host.wait_high → least_of post.HighPriority h.giving.high ≡ None
  full l = least_same w.host.pool w.host.out w.host.wait_high h.giving.high here ∙ f.handles.waits.high l

  empties : is_resetting w.host.mode ≡ true → IsEmpty h.giving.high
  empties m = (f.ties.given.high_made ∙ none_made w.host.out (f.clock.loads_before_reset.outbox m), f.ties.given.high_waiting ∙ ap (map another) (f.doorbell.fresh_start.given_up m).0)

  resetting : h.giving.so_far.resetting ≡ is_resetting w.host.mode
  resetting = ap (λ (s : SoFar). s.resetting) f.ties.so_far ∙ f.clock.resets_seen.resetting

  recorded : (s : ℕ) (x : Slot Request) → slot w.host s ≡ x → (x ≡ Free → ⊥) → RecordStands w s x
  recorded s x e n =
      let i = in_table w.host.pool s x e n in let i0 = i.0 in let i1 = i.1 in let l = f.flights.sizes.pool in
      subst (RecordStands w s) e (f.flights.identifiers s i0 (omega (arith, i0, i1, l))).recorded

  -- ---- an answer

  module _ (k : Host) (z : Fits k h.giving.high) (same : Same w.host k) (s : ℕ) where
    waits_full : 1 ≤ length k.wait_high → least_of post.HighPriority h.giving.high ≡ None
    waits_full l = full (subst (λ xs. 1 ≤ length xs) same.waits l)

    by_class : (b : Bool) (X : Host) → is_of_kind post.HighPriority s ≡ b → Fits X (if b then freed post.HighPriority s h.giving.high else h.giving.high) → Fits X (freed_by post.HighPriority s h.giving.high)
    by_class b X e y = subst (λ c. Fits X (if c then freed post.HighPriority s h.giving.high else h.giving.high)) (sym e) y

    -- of task management
    high : (X : Host) → IsIn class.High s → Fits X (freed post.HighPriority s h.giving.high) → Fits X (freed_by post.HighPriority s h.giving.high)
    high X i y = let i0 = i.0 in let i1 = i.1 in by_class true X (kind_high s (omega (arith, i0)) (omega (arith, i1))) y

    -- of the internal class
    other : (o : Happening Host) → IsIn class.Internal s → Fits o.part h.giving.high → Fits (replies.unless_resetting k s o).part (freed_by post.HighPriority s h.giving.high)
    other o i y =
        let i0 = i.0 in let i1 = i.1 in
        by_class false (replies.unless_resetting k s o).part (kind_above s (omega (arith, i0))) (by_mode (is_resetting k.mode))
      where
        by_mode : (b : Bool) → Fits (if b then removal.quietly (asks.frees k s) else o).part h.giving.high
        by_mode true = let i0 = i.0 in let i1 = i.1 in freed_other k s h.giving.high (omega (arith, i0)) (omega (arith, i1)) z
        by_mode false = y

    internal_freed : (x : Host) → IsIn class.Internal s → Fits x h.giving.high → Fits (asks.frees_internal x s) h.giving.high
    internal_freed x i y = let i0 = i.0 in let i1 = i.1 in frees_internal x s h.giving.high (omega (arith, i0)) (omega (arith, i1)) y

    high_freed : (x : Host) → IsIn class.High s → x.wait_high ≡ k.wait_high → Fits x h.giving.high → Fits (asks.frees_high x s) (freed post.HighPriority s h.giving.high)
    high_freed x i e y = let i0 = i.0 in let i1 = i.1 in frees_high x s h.giving.high (omega (arith, i0)) (omega (arith, i1)) (λ l. waits_full (subst (λ xs. 1 ≤ length xs) e l)) y

    closes : (n task : ℕ) → IsIn class.High s → (x : Slot Request) → slot_of k.pool task ≡ x → Fits (asks.frees_high (replies.unparks (record k { aborts = finmap.remove k.aborts n }) task x) s) (freed post.HighPriority s h.giving.high)
    closes n task i Free e = high_freed (record k { aborts = finmap.remove k.aborts n }) i refl z
    closes n task i (Open r) e = high_freed (record k { aborts = finmap.remove k.aborts n }) i refl z
    closes n task i Parked e =
        let p : IsIn class.ScsiIo task = recorded task Parked (ap (λ xs. slot_of xs task) (sym same.pool) ∙ e) (λ q. cc) in let p0 = p.0 in let p1 = p.1 in
        high_freed (asks.frees (record k { aborts = finmap.remove k.aborts n }) task) i refl (below k.pool k.out k.wait_high h.giving.high task Free (omega (arith, p0)) (omega (arith, p1)) z)

    left : (handle : ℕ) → IsIn class.High s → Fits (removal.left k s handle) (freed post.HighPriority s h.giving.high)
    left handle i = by_phase (removal.is_reset_under s (phase_at k.phases handle))
      where
        phased : Host
        phased = removal.with_phase_of k handle (after_task_done (phase_at k.phases handle) s)

        by_phase : (b : Bool) → Fits (if b then asks.asks_internal (asks.frees_high phased s) (request.Remove handle) else asks.frees_high phased s) (freed post.HighPriority s h.giving.high)
        by_phase true = asks_internal (asks.frees_high phased s) (request.Remove handle) (freed post.HighPriority s h.giving.high) (high_freed phased i refl z)
        by_phase false = high_freed phased i refl z

    leaves : (handle : ℕ) → IsIn class.High s → Fits (replies.unless_resetting k s (removal.quietly (removal.left k s handle))).part (freed post.HighPriority s h.giving.high)
    leaves handle i = by_mode (is_resetting k.mode) refl
      where
        by_mode : (b : Bool) → is_resetting k.mode ≡ b → Fits (if b then removal.quietly (asks.frees k s) else removal.quietly (removal.left k s handle)).part (freed post.HighPriority s h.giving.high)
        by_mode true m =
            let none = same.waits ∙ (f.doorbell.fresh_start.given_up (ap is_resetting (sym same.mode) ∙ m)).0 in
            subst (λ xs. Fits (asks.gives_high (asks.frees k s) s xs) (freed post.HighPriority s h.giving.high)) none (high_freed k i refl z)
        by_mode false m = left handle i

    answer : (r : Request) (v : Heard) → RecordStands w s (Open r) → Fits (replies.hears_answer k s r v).part (freed_by post.HighPriority s h.giving.high)
    answer (request.Command n) v st =
        let i = st.0 in let i0 = i.0 in let i1 = i.1 in
        by_class false (replies.host_answers k s n (replies.ended v.frame v.page v.sense)).part (kind_low s (omega (arith, i1))) (below k.pool k.out k.wait_high h.giving.high s (replies.slot_after (finmap.get k.aborts n)) (omega (arith, i0)) (omega (arith, i1)) z)
    answer (request.Abort n task) v st = high (asks.frees_high (replies.closes_abort k n task) s) st.0 (closes n task st.0 (slot_of k.pool task) refl)
    answer (request.TargetReset address) v st = high (asks.frees_high k s) st (high_freed k st refl z)
    answer (request.Leave handle) v st = high (replies.unless_resetting k s (removal.quietly (removal.left k s handle))).part st (leaves handle st)
    answer (request.Page handle) v st =
        let read = replies.address_read (replies.reply_bytes v) v.page in
        other (removal.reads_page k s handle read) st (internal_freed (removal.with_phase_of k handle (after_page (phase_at k.phases handle) s read)) st z)
    answer (request.Remove handle) v st = other (removal.quietly (removal.removed k s handle)) st (internal_freed (removal.with_phase_of k handle (after_removed (phase_at k.phases handle) s)) st z)
    answer (request.Ack event context) v st = other (removal.quietly (asks.frees_internal k s)) st (internal_freed k st z)
    answer request.Notification v st = other (removal.quietly (replies.hears_notified k s)) st (asks_internal (asks.frees_internal k s) request.PortEnable h.giving.high (internal_freed k st z))
    answer request.PortEnable v st = other (replies.after_port_enable k s) st (internal_freed k st z)

  -- ---- an event

  normal : is_resetting w.host.mode ≡ false → (bytes page sense : List ℕ) (more : List Said) → up_line w 0 ≡ said.Framed 0 bytes page sense ∷ more → in_normal w ≡ true
  normal n bytes page sense more front = by_mode w.host.mode refl
    where
      by_mode : (m : HostState) → w.host.mode ≡ m → (is_starting m || is_up m) ≡ true
      by_mode state.Starting e = refl
      by_mode state.Up e = refl
      by_mode state.Off e =
          let z = (f.clock.phase_table.off (ap is_off e)).up 0 in
          let c = ap (others is_calm_said) front ∙ others-cons is_calm_said (said.Framed 0 bytes page sense) more in
          absurd (omega (arith, z, c))
      by_mode state.Resetting e = let z : true ≡ false = sym (ap is_resetting e) ∙ n in absurd (cc)

  event : (k : Host) → Fits k h.giving.high → Same w.host k → (bytes : List ℕ) (added : Bool) → bytes ≡ event_like bytes added → IsHandle (field bytes 0x28 2) → in_normal w ≡ true
      → Fits (removal.hears_event k bytes).part (after_changes h.giving.so_far.announced (changes_in bytes) (makes_internal Another (record h.giving { internal = freed_by post.Default 0 h.giving.internal }))).high
  event k z same bytes added e i n =
      let m : Host = asks.asks_internal k (request.Ack (event_in bytes) (event_context_in bytes)) in
      let g : Giving = makes_internal Another (record h.giving { internal = freed_by post.Default 0 h.giving.internal }) in
      let handle = field bytes 0x28 2 in
      let known =
      ap (λ (x : SoFar). x.announced handle) f.ties.so_far
      ∙ ((f.handles.each handle i).known.announced n
      ∙ ap (λ ps. is_announced (phase_at ps handle)) (sym (phases_asked k (event_in bytes) (event_context_in bytes) ∙ same.phases))) in
      subst (λ cs. Fits (removal.hears_changes m cs).part (after_changes h.giving.so_far.announced cs g).high) (sym (changes_are bytes added e))
      (one_change m h.giving.so_far.announced g bytes added i known (asks_internal k (request.Ack (event_in bytes) (event_context_in bytes)) h.giving.high z))

  -- ---- a reply

  any : (k : Host) → Fits k h.giving.high → Same w.host k → (queue s d : ℕ) (frame : Option (List ℕ)) (page sense : List ℕ) (ahead : Option Entry) (more : List Said) → up_line w queue ≡ said_reply s frame page sense ∷ more → SaidIs w h queue (said_reply s frame page sense)
      → Fits (replies.hears_reply_to k s (replies.request_of w.host s) (replies.heard_of d frame page sense)).part (heard s frame ahead h.giving).high
  any k z same queue zero d None page sense ahead more front a = absurd a
  any k z same queue zero d (Some bytes) page sense ahead more front a = by_mode (is_resetting w.host.mode) refl
    where
      by_change : is_resetting w.host.mode ≡ false → (bytes ≡ event_like bytes true) ⊎ (bytes ≡ event_like bytes false)
          → Fits (removal.hears_event k bytes).part (after_changes h.giving.so_far.announced (changes_in bytes) (makes_internal Another (record h.giving { internal = freed_by post.Default 0 h.giving.internal }))).high
      by_change m (inl e) = event k z same bytes true e a.3 (normal m bytes page sense more (ap (up_line w) (sym a.0) ∙ front))
      by_change m (inr e) = event k z same bytes false e a.3 (normal m bytes page sense more (ap (up_line w) (sym a.0) ∙ front))

      by_mode : (b : Bool) → is_resetting w.host.mode ≡ b → Fits (replies.hears_reply_to k 0 None (replies.heard_of d (Some bytes) page sense)).part (heard 0 (Some bytes) ahead h.giving).high
      by_mode true m =
          subst (λ c. Fits (if c then removal.quietly k else removal.hears_event k bytes).part (heard 0 (Some bytes) ahead h.giving).high) (sym (ap is_resetting same.mode ∙ m))
          (subst (λ c. Fits k (if c then record h.giving { internal = freed_by post.Default 0 h.giving.internal } else event_heard bytes (record h.giving { internal = freed_by post.Default 0 h.giving.internal })).high) (sym (resetting ∙ m)) z)
      by_mode false m =
          subst (λ c. Fits (if c then removal.quietly k else removal.hears_event k bytes).part (heard 0 (Some bytes) ahead h.giving).high) (sym (ap is_resetting same.mode ∙ m))
          (subst (λ c. Fits (removal.hears_event k bytes).part (if c then record h.giving { internal = freed_by post.Default 0 h.giving.internal } else event_heard bytes (record h.giving { internal = freed_by post.Default 0 h.giving.internal })).high) (sym (resetting ∙ m)) (by_change m a.4))
  any k z same queue (suc j) d frame page sense ahead more front a =
      subst (Fits (replies.hears_reply_to k (suc j) (replies.request_of w.host (suc j)) (replies.heard_of d frame page sense)).part) (sym (high_of_reply h.giving (suc j) frame ahead (not_none j)))
      (by_slot frame (slot w.host (suc j)) refl a)
    where
      by_slot : (frame : Option (List ℕ)) (x : Slot Request) → slot w.host (suc j) ≡ x → SaidIs w h queue (said_reply (suc j) frame page sense)
          → Fits (replies.hears_reply_to k (suc j) (Rattle.smid_pool.specs.Pool.record_of x) (replies.heard_of d frame page sense)).part (freed_by post.HighPriority (suc j) h.giving.high)
      by_slot frame (Open r) e a = answer k z same (suc j) r (replies.heard_of d frame page sense) (recorded (suc j) (Open r) e (λ q. cc))
      by_slot None Free e a = absurd (subst (AnswersBy w h queue (suc j) (said.Success (suc j) page sense)) e a)
      by_slot (Some bytes) Free e a = absurd (subst (AnswersBy w h queue (suc j) (said.Framed (suc j) bytes page sense)) e a)
      by_slot None Parked e a = absurd (subst (AnswersBy w h queue (suc j) (said.Success (suc j) page sense)) e a)
      by_slot (Some bytes) Parked e a = absurd (subst (AnswersBy w h queue (suc j) (said.Framed (suc j) bytes page sense)) e a)

  -- ---- all cases

  OnCase : World → List Entry → Type 0
  OnCase v t = Fits v.host (state_ahead giving_next h.giving t []).high

  front_said : (queue : ℕ) (x : Up) (rest : List Up) → up_on w queue ≡ x ∷ rest → up_line w queue ≡ said_of x ∷ (map said_of rest ++ get_or w.ioc.up queue [])
  front_said queue x rest e = ap (λ xs. map said_of xs ++ get_or w.ioc.up queue []) e

  said_right : (queue : ℕ) (x : Up) (rest : List Up) → up_on w queue ≡ x ∷ rest → SaidIs w h queue (said_of x)
  said_right queue x rest e = All-head (SaidIs w h queue) (said_of x) (map said_of rest ++ get_or w.ioc.up queue []) (subst (All (SaidIs w h queue)) (front_said queue x rest e) (f.messages.said queue))

  taken : (queue : ℕ) (x : Up) (rest : List Up) → up_on w queue ≡ x ∷ rest
      → Fits (hears_up w.host queue x).part (state_ahead giving_next h.giving (entry.Take (up_lane queue) (item.Up x) ∷ (hears_up w.host queue x).entries) []).high
  taken queue (upward.Reply d frame page sense) rest e =
      let k : Host = replies.takes_entry (replies.with_frame_heard w.host d frame) queue in
      let v : Heard = replies.heard_of d frame page sense in
      let told : List Entry = (replies.hears_reply w.host queue v).entries in
      let first : Entry = entry.Take (up_lane queue) (item.Up (upward.Reply d frame page sense)) in
      let ahead : Option Entry = next_own first (told ++ []) in
      subst (Fits (replies.hears_reply w.host queue v).part) (sym (words_stay (giving_next h.giving first ahead) told [] (word_reply_to k (smid_in d) (replies.request_of w.host (smid_in d)) v)))
      (any k (entry_taken w.host queue d frame h.giving.high here) (same_taken w.host queue d frame) queue (smid_in d) d frame page sense ahead (map said_of rest ++ get_or w.ioc.up queue [])
      (front_said queue (upward.Reply d frame page sense) rest e) (said_right queue (upward.Reply d frame page sense) rest e))
  taken queue upward.Calm rest e = here
  taken queue (upward.Mark generation) rest e =
      let first : Entry = entry.Take (up_lane queue) (item.Up (upward.Mark generation)) in
      let x : Host = record w.host { marks = slice_set w.host.marks queue true } in
      over (giving_next h.giving first (next_own first ((hears_up w.host queue (upward.Mark generation)).entries ++ []))) x (λ r. empties ((fits w h f).ready r)) here
  taken queue (upward.Value v) rest e =
      let first : Entry = entry.Take (up_lane queue) (item.Up (upward.Value v)) in
      valued (giving_next h.giving first (next_own first ((hears_up w.host queue (upward.Value v)).entries ++ []))) (record w.host { reading = false }) w.host.machine v (λ m r. empties (((fits w h f).machine m).resets r)) here

  owes : OwesTold OnCase w
  unfolding OnCase
  owes =
      record {
        idles = λ c. here;
        host_puts = λ x rest e. put h.giving w.host here x rest e;
        host_takes = λ queue x rest e y. taken queue x rest e;
        host_told = λ i g. told h.giving w.host here i f.flights.sizes.few_queues f.flights.sizes.some_queue;
        host_looks = λ e. begun w.host stage.Look look_at_doorbell h.giving.high here;
        host_stops = λ e. silent_stop w.host h.giving.high here;
        no_session = here;
        ioc_takes = λ x rest e. subst (Fits w.host) (sym (down_stays w.ioc x (giving_next h.giving (entry.Take lane.Down (item.Down x)) (next_own (entry.Take lane.Down (item.Down x)) ((adapter.takes_down w.ioc x).entries ++ []))))) here;
        ioc_high = λ p rest e. subst (Fits w.host) (sym (ioc_stays h.giving (work.works_on (record w.ioc { high = rest }) p).entries (works_words (record w.ioc { high = rest }) p))) here;
        ioc_normal = λ p rest e. subst (Fits w.host) (sym (ioc_stays h.giving (work.works_on (record w.ioc { normal = rest }) p).entries (works_words (record w.ioc { normal = rest }) p))) here;
        ioc_puts_out = λ x rest e. here;
        ioc_takes_back = λ x rest e. subst (Fits w.host) (sym (ioc_stays (giving_next h.giving (entry.Take lane.Back (item.Back x)) (next_own (entry.Take lane.Back (item.Back x)) ((adapter.takes_back w.ioc x).entries ++ []))) (adapter.takes_back w.ioc x).entries (back_words w.ioc x))) here;
        ioc_puts = λ queue y rest z e u. here;
        fabric_takes = λ x rest e. here;
        fabric_says = λ x rest e. here;
        fabric_puts = λ x rest e. here;
        fabric_runs = λ tag address e. here;
        plugs = λ address expander phy t p. subst (Fits w.host) (sym (plug_stays h.giving t p)) here;
        unplugs = λ address t p. subst (Fits w.host) (sym (plug_stays h.giving t p)) here;
        calms = here;
      }

  pub high_given : NothingIsStrange w → (c : Case) → HighGiven (happens w c) (history_after h (entries w c))
  unfolding OnCase
  high_given plain c = let z = kept_told OnCase w plain owes c in record { made = z.made; waiting = z.waiting; opened = z.opened }
