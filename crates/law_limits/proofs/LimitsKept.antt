-- All limits, over every case.
use Rattle.std.proofs.Common.{◌≡◌, ℕ, zero, suc, ◌+◌, ◌-◌, ◌*◌, ◌/◌, ◌^◌, ◌<◌, ◌||◌, ◌⊎◌, inl, inr, nat_le, if◌then◌else◌, Bool, true, false, List, [], ◌∷◌, ◌++◌, map, get_or, position, slice_index_or, slice_set, Option, Some, None, option_map, eqb-true, mod-lt, refl, ap, sym, ◌∙◌, subst, arith}
use Rattle.std.specs.Prelude.{All}
use Rattle.std.specs.Int.{byte_at}
use Rattle.std.proofs.lemmas.List.Elements.{All-cons, All-head, All-nil, All-tail}
use Rattle.std.proofs.lemmas.List.Quantifiers.{position-Some}
use Rattle.event_msgs.specs.EventReply.{event_reply_layout, event_reply_values}
use Rattle.event_msgs.specs.Topology.{topology_layout, topology_values}
use Rattle.event_msgs.specs.TopologyEntry.{topology_entry_layout, topology_entry_values}
use Rattle.mpi_layout.specs.Rows.{field}
use Rattle.smid_pool.specs.Pool.{Free, Open, Parked, Slot, record_of}
use Rattle.removal.specs.Handles.{IsHandle}
use Rattle.removal.specs.Phases.{is_ready_at}
use Rattle.removal.specs.declared.phase.Phase.{Phase}
use Rattle.removal.specs.declared.phase.Phase.TheVariants as phase
use Rattle.mpt_messages.specs.IocFrames.{reply_frame}
use Rattle.mpt_messages.specs.declared.ioc_reply.IocReply.TheVariants as reply
use Rattle.mpt_trace.specs.declared.host_state.HostState.{HostState}
use Rattle.mpt_trace.specs.declared.host_state.HostState.TheVariants as state
use Rattle.mpt_trace.specs.declared.item.Up.{Up}
use Rattle.mpt_trace.specs.declared.item.Up.TheVariants as upward
use Rattle.mpt_wire.specs.Handles.Bindings.{Plug}
use Rattle.mpt_wire.specs.Machine.Causes.{is_up}
use Rattle.mpt_wire.specs.Messages.Fields.{event_context_in, event_in, smid_in}
use Rattle.mpt_rules.specs.declared.binding.Binding.{Binding}
use Rattle.mpt_rules.specs.declared.binding.Binding.TheVariants as binding
use Rattle.mpt_rules.specs.declared.request.Request.{Request}
use Rattle.mpt_rules.specs.declared.request.Request.TheVariants as request
use Rattle.mpt_rules.specs.Host.Replies.{heard_of, request_of}
use Rattle.mpt_rules.specs.Host.Takes.{hears_up, is_starting}
use Rattle.mpi_doorbell.specs.HostSteps.{look_at_doorbell}
use Rattle.mpt_rules.specs.declared.stage.Stage.TheVariants as stage
use Rattle.mpt_rules.specs.Ioc.Tables as table
use Rattle.mpt_rules.specs.Law.{NothingIsStrange}
use Rattle.mpt_rules.specs.World.Cases.{Case, happens}
use Rattle.mpt_rules.specs.World.Lines.{said_of, said_reply}
use Rattle.mpt_rules.specs.World.State.{World, up_on}
use Rattle.law_facts.specs.Clock.{in_normal}
use Rattle.law_facts.specs.Facts.{Facts}
use Rattle.law_facts.specs.Handles.{BindingIs, ReadyIsBound, phase_of}
use Rattle.law_facts.specs.History.{History}
use Rattle.law_facts.specs.Limits.{BindingFits, IsAddress, Limits, RecordFits, WaitFits}
use Rattle.law_facts.specs.Messages.{AnswersBy, SaidIs, event_like}
use Rattle.law_facts.specs.Words.{slot}
use Rattle.law_moves.proofs.Cases.{Owes, kept}
use Rattle.law_limits.specs.HandlesNamed.{NamesDiskHandle}
use Rattle.law_limits.proofs.IocFit.{entry_fits}
use Rattle.law_limits.proofs.HostTells.{EventFits, HearsEvent, NamesWithin, ReadyHasAddress, Tells, WaitWithin, begun, over, reply, sent, told, valued}
use Rattle.law_limits.proofs.NamesKept.{each, names_kept}
use Rattle.law_limits.proofs.WiringKept.{wiring_kept}

-- ---- what a record names

within : (x : Slot Request) → RecordFits x → NamesWithin x
within (Open (request.TargetReset address)) f = f
within (Open (request.Ack event context)) f = f
within (Open (request.Leave handle)) f = tt
within (Open (request.Page handle)) f = tt
within (Open (request.Remove handle)) f = tt
within (Open (request.Command n)) f = tt
within (Open (request.Abort n task)) f = tt
within (Open request.Notification) f = tt
within (Open request.PortEnable) f = tt
within Free f = tt
within Parked f = tt

both : (x : Slot Request) → NamesDiskHandle x → NamesWithin x → RecordFits x
both (Open (request.TargetReset address)) a b = b
both (Open (request.Ack event context)) a b = b
both (Open (request.Leave handle)) a b = a
both (Open (request.Page handle)) a b = a
both (Open (request.Remove handle)) a b = a
both (Open (request.Command n)) a b = tt
both (Open (request.Abort n task)) a b = tt
both (Open request.Notification) a b = tt
both (Open request.PortEnable) a b = tt
both Free a b = tt
both Parked a b = tt

each_both : {X : Type 0} (P Q R : X → Type 0) → ((x : X) → P x → Q x → R x) → (xs : List X) → All P xs → All Q xs → All R xs
each_both P Q R g [] a b = All-nil R
each_both P Q R g (x ∷ xs) a b = All-cons R x xs (g x (All-head P x xs a) (All-head Q x xs b)) (each_both P Q R g xs (All-tail P x xs a) (All-tail Q x xs b))

-- ---- an event

byte_low : (i n : ℕ) → byte_at i n < 256
byte_low zero n = mod-lt n (let z : 0 < 256 = omega arith in z)
byte_low (suc i) n = mod-lt (n / 256 ^ suc i) (let z : 0 < 256 = omega arith in z)

four_low : (a b c d : ℕ) → a < 256 → b < 256 → c < 256 → d < 256 → 0 + a * 256 ^ 0 + b * 256 ^ 1 + c * 256 ^ 2 + d * 256 ^ 3 < 2 ^ 32
four_low a b c d p q r s = omega (arith, p, q, r, s)

topology_fits : (context handle expander phys phy : ℕ) (added : Bool) → EventFits (event_in (reply_frame (reply.Topology context handle expander phys phy added))) (event_context_in (reply_frame (reply.Topology context handle expander phys phy added)))
unfolding event_reply_layout event_reply_values topology_layout topology_values topology_entry_layout topology_entry_values field
topology_fits context handle expander phys phy added = (refl, four_low (byte_at 0 context) (byte_at 1 context) (byte_at 2 context) (byte_at 3 context) (byte_low 0 context) (byte_low 1 context) (byte_low 2 context) (byte_low 3 context))

event_fits : (frame : List ℕ) (added : Bool) → frame ≡ event_like frame added → EventFits (event_in frame) (event_context_in frame)
event_fits frame added e = subst (λ x. EventFits (event_in x) (event_context_in x)) (sym e) (topology_fits _ _ _ _ _ added)

-- ---- a ready disk

ready_names : (a : ℕ) (p : Phase) → is_ready_at a p ≡ true → p ≡ phase.Ready a
ready_names a (phase.Ready b) t = ap phase.Ready (eqb-true b a t)
ready_names a phase.Absent t = absurd (cc)
ready_names a phase.WaitRead t = absurd (cc)
ready_names a (phase.Reading s) t = absurd (cc)
ready_names a phase.WaitHigh t = absurd (cc)
ready_names a (phase.Resetting s) t = absurd (cc)
ready_names a phase.WaitInternal t = absurd (cc)
ready_names a (phase.Removing s) t = absurd (cc)

bound_fits : (b : Binding) (o : Option Plug) (a : ℕ) → BindingIs b o → BindingFits b → option_map (λ (p : Plug). p.address) o ≡ Some a → IsAddress a
bound_fits (binding.Gone address) None a i f e = absurd i
bound_fits b (Some plug) a i f e = by_binding b i f
  where
    same : plug.address ≡ a
    same = cc

    by_binding : (b : Binding) → BindingIs b (Some plug) → BindingFits b → IsAddress a
    by_binding binding.Unbound i f = absurd (cc)
    by_binding (binding.Present address number expander phy) i f = let z : address ≡ a = cc in subst IsAddress z f.0
    by_binding (binding.Gone address) i f = subst IsAddress (sym i ∙ same) f
bound_fits b None a i f e = absurd (cc)

module _ (w : World) (h : History) (f : Facts w h) where
  here : Tells w.host
  here = record { records = each RecordFits NamesWithin within w.host.pool f.limits.records; waits = each WaitFits WaitWithin (λ r. within (Open r)) w.host.wait_internal f.limits.waits }

  normal : is_up w.host.mode ≡ true → in_normal w ≡ true
  normal u = by_mode w.host.mode u
    where
      by_mode : (m : HostState) → is_up m ≡ true → (is_starting m || is_up m) ≡ true
      by_mode state.Off u = absurd (cc)
      by_mode state.Starting u = absurd (cc)
      by_mode state.Up u = refl
      by_mode state.Resetting u = absurd (cc)

  binding_fits : (handle : ℕ) → BindingFits (table.binding_of w.ioc handle)
  binding_fits handle = by_test (nat_le table.first_handle handle)
    where
      by_test : (b : Bool) → BindingFits (if b then slice_index_or w.ioc.bindings (handle - table.first_handle) binding.Unbound else binding.Unbound)
      by_test true = entry_fits w.ioc.bindings (handle - table.first_handle) f.limits.bindings
      by_test false = tt

  ready_fits : ReadyHasAddress w.host
  ready_fits a handle u e = by_place (position (is_ready_at a) w.host.phases) refl e
    where
      by_place : (o : Option ℕ) → position (is_ready_at a) w.host.phases ≡ o → option_map (λ place. 0x0009 + place) o ≡ Some handle → IsAddress a
      by_place None p e = absurd (cc)
      by_place (Some place) p e =
          let s = position-Some (is_ready_at a) w.host.phases place phase.Absent p in
          let q = s.1 in
          let z : 0x0009 + place ≡ handle = cc in
          let l = f.flights.sizes.phases in
          let i : place ≡ handle - 0x0009 = omega (arith, z) in
          let n : phase_of w handle ≡ phase.Ready a = ready_names a (phase_of w handle) (subst (λ j. is_ready_at a (get_or w.host.phases j phase.Absent) ≡ true) i q) in
          let k : IsHandle handle = (omega (arith, z), omega (arith, s.0, l, z)) in
          let each = f.handles.each handle k in
          bound_fits (table.binding_of w.ioc handle) (h.serving.bound handle) a each.binds.served (binding_fits handle) (subst (ReadyIsBound w h handle) n (each.ready (normal u)))

  -- ---- what the host hears

  hears : (queue d : ℕ) (frame : Option (List ℕ)) (page sense : List ℕ) → SaidIs w h queue (said_reply (smid_in d) frame page sense) → HearsEvent (request_of w.host (smid_in d)) (heard_of d frame page sense)
  hears queue d frame page sense a = by_smid (smid_in d) frame a
    where
      by_change : (bytes : List ℕ) → (bytes ≡ event_like bytes true) ⊎ (bytes ≡ event_like bytes false) → EventFits (event_in bytes) (event_context_in bytes)
      by_change bytes (inl e) = event_fits bytes true e
      by_change bytes (inr e) = event_fits bytes false e

      framed : (s : ℕ) (bytes : List ℕ) (x : Slot Request) → AnswersBy w h queue s (Rattle.mpt_rules.specs.declared.said.Said.TheVariants.Framed s bytes page sense) x → HearsEvent (record_of x) (heard_of d (Some bytes) page sense)
      framed s bytes Free a = absurd a
      framed s bytes Parked a = absurd a
      framed s bytes (Open r) a = tt

      succeeded : (s : ℕ) (x : Slot Request) → AnswersBy w h queue s (Rattle.mpt_rules.specs.declared.said.Said.TheVariants.Success s page sense) x → HearsEvent (record_of x) (heard_of d None page sense)
      succeeded s Free a = absurd a
      succeeded s Parked a = absurd a
      succeeded s (Open r) a = tt

      by_smid : (s : ℕ) (frame : Option (List ℕ)) → SaidIs w h queue (said_reply s frame page sense) → HearsEvent (request_of w.host s) (heard_of d frame page sense)
      by_smid s None a = succeeded s (slot w.host s) a
      by_smid zero (Some bytes) a = by_change bytes a.4
      by_smid (suc k) (Some bytes) a = framed (suc k) bytes (slot w.host (suc k)) a

  taken : (queue : ℕ) (x : Up) (rest : List Up) → up_on w queue ≡ x ∷ rest → SaidIs w h queue (said_of x) → Tells (hears_up w.host queue x).part
  taken queue (upward.Reply d frame page sense) rest e a = reply w.host queue d frame page sense (hears queue d frame page sense a) here
  taken queue upward.Calm rest e a = here
  taken queue (upward.Mark generation) rest e a = over (record w.host { marks = slice_set w.host.marks queue true }) here
  taken queue (upward.Value v) rest e a = valued (record w.host { reading = false }) w.host.machine v here

  said_right : (queue : ℕ) (x : Up) (rest : List Up) → up_on w queue ≡ x ∷ rest → SaidIs w h queue (said_of x)
  said_right queue x rest e =
      All-head (SaidIs w h queue) (said_of x) _
      (subst (λ xs. All (SaidIs w h queue) (map said_of xs ++ get_or w.ioc.up queue [])) e (f.messages.said queue))

  owed : Owes (λ k. Tells k.host) w
  owed =
      record {
        host_puts = λ x rest e. sent w.host x rest here;
        host_takes = λ queue x rest e y. taken queue x rest e (said_right queue x rest e);
        host_told = λ i g. told w.host i ready_fits here;
        host_looks = λ e. begun w.host stage.Look look_at_doorbell here;
        host_stops = λ e. here;
        ioc_takes = λ x rest e. here;
        ioc_high = λ p rest e. here;
        ioc_normal = λ p rest e. here;
        ioc_puts_out = λ x rest e. here;
        ioc_takes_back = λ x rest e. here;
        ioc_puts = λ queue y rest z e u. here;
        fabric_takes = λ x rest e. here;
        fabric_says = λ x rest e. here;
        fabric_puts = λ x rest e. here;
        fabric_runs = λ tag address e. here;
        plugs = λ address expander phy. here;
        unplugs = λ address. here;
        calms = here;
      }

  pub limits_kept : NothingIsStrange w → (c : Case) → Limits (happens w c)
  limits_kept plain c =
      let tells = kept (λ k. Tells k.host) w plain owed here c in
      let names = names_kept w h f plain c in
      let wiring = wiring_kept w h c f plain in
      record {
        few_disks = wiring.few_disks;
        addresses = wiring.addresses;
        apart = wiring.apart;
        few_expanders = wiring.few_expanders;
        phys = wiring.phys;
        context = wiring.context;
        bindings = wiring.bindings;
        waiting = wiring.waiting;
        notices = wiring.notices;
        records = each_both NamesDiskHandle NamesWithin RecordFits both (happens w c).host.pool names.records tells.records;
        waits = each_both (λ r. NamesDiskHandle (Open r)) WaitWithin WaitFits (λ r. both (Open r)) (happens w c).host.wait_internal names.waits tells.waits;
        cmds = names.cmds;
      }
