-- Each case keeps that WhoInit is 0 while the controller isn't OPERATIONAL: only an IOC Init that succeeds sets it.
use Rattle.std.proofs.Common.{◌≡◌, ℕ, ◌==◌, ◌&&◌, not, Bool, true, false, if◌then◌else◌, List, [], ◌∷◌, ◌++◌, slice_index, take, Option, Some, None, refl, ap, sym, ◌∙◌, subst}
use Rattle.std.proofs.lemmas.Bool.{eqb-true}
use Rattle.mpi_doorbell.specs.DoorRegisters.{is_fault, register_written, who_init_after}
use Rattle.mpi_doorbell.specs.Handshake.{Asked, init_by}
use Rattle.mpi_doorbell.specs.declared.effect.Effect.{Effect}
use Rattle.mpi_doorbell.specs.declared.effect.Effect.TheVariants as effect
use Rattle.mpi_doorbell.specs.declared.registers.TheConstants.{FUNCTION_IOC_INIT}
use Rattle.mpi_doorbell.specs.declared.state.IocState.{IocState}
use Rattle.mpi_doorbell.specs.declared.state.IocState.TheVariants as ioc_state
use Rattle.mpt_messages.specs.Function.{function_of}
use Rattle.mpt_messages.specs.Refusal.{request_refusal_as}
use Rattle.mpt_messages.specs.declared.fault.MsgFault.{MsgFault}
use Rattle.mpt_messages.specs.declared.fault.MsgFault.TheVariants as refusal
use Rattle.mpt_messages.specs.declared.function.Function.{Function}
use Rattle.mpt_messages.specs.declared.function.Function.TheVariants as function
use Rattle.mpt_messages.specs.declared.function.Kind.TheVariants as kind
use Rattle.mpt_messages.specs.declared.ioc_reply.IocReply.{IocReply}
use Rattle.mpt_messages.specs.declared.ioc_reply.IocReply.TheVariants as reply
use Rattle.mpt_trace.specs.declared.item.Back.{Back}
use Rattle.mpt_trace.specs.declared.item.Down.{Down}
use Rattle.mpt_trace.specs.declared.item.Down.TheVariants as down
use Rattle.mpt_trace.specs.declared.item.Out.{Out}
use Rattle.mpt_rules.specs.declared.status.TheConstants.{IOC_STATUS_INVALID_FIELD, IOC_STATUS_INVALID_FUNCTION, IOC_STATUS_INVALID_STATE, IOC_STATUS_SUCCESS}
use Rattle.mpt_rules.specs.World.Cases.{Case, happens}
use Rattle.mpt_rules.specs.Ioc.Parts.{Ioc, state_of}
use Rattle.mpt_rules.specs.Ioc.Registers as registers
use Rattle.mpt_rules.specs.Ioc.Replies.{refusal_status}
use Rattle.mpt_rules.specs.Ioc.Steps as ioc_step
use Rattle.mpt_rules.specs.Ioc.Tables.{is_operational, is_ready, is_reset}
use Rattle.mpt_rules.specs.Ioc.Takes as adapter
use Rattle.mpt_rules.specs.Outcome.{Happening}
use Rattle.mpt_rules.specs.World.State.{World}
use Rattle.law_facts.specs.Clock.{Clock}
use Rattle.law_facts.specs.History.{History}
use Rattle.law_moves.proofs.Cases.{Owes, kept}
use Rattle.law_moves.proofs.IocSpeaks.{CalmTold, IocSpeaks, LinkedUp, News, Speaks as SpeaksBack, Unlinked, is_asked_out, never_out, news}
use Rattle.law_moves.proofs.IocTakes as leaf
use Rattle.law_moves.proofs.IocTakes.{Takes, takes}
use Rattle.law_moves.proofs.Registers.{writes_are}
use Rattle.law_clock.specs.Premises.{Before}
use Rattle.law_clock.proofs.PhaseKept.{high_words, normal_words}
use Rattle.law_doors.proofs.Whole.{whole_kept}
use Rattle.law_starts.specs.Starts.{KnowsNoHost}
use Rattle.law_starts.proofs.Asking.{WriteAsks, write_asks}

-- ---- an answer

module _ (i : Ioc) (z : i.door.who_init ≡ 0) where
  -- to what is no IOC Init
  module _ (no_init : init_by i.door.handshake ≡ None) where
    none : (r : IocReply) → (registers.answers_handshake i r).door.who_init ≡ 0
    none r = by_status (Rattle.byteorder.specs.Endian.little_number 2 (Rattle.std.proofs.Common.drop 14 (take (Rattle.mpt_messages.specs.IocFrames.reply_length r) (Rattle.mpt_messages.specs.IocFrames.reply_frame r))))
      where
        same : (c : Bool) → (if c then i.door.who_init else i.door.who_init) ≡ 0
        same true = z
        same false = z

        by_status : (n : ℕ) → who_init_after i.door.who_init (init_by i.door.handshake) n ≡ 0
        by_status n = ap (λ o. who_init_after i.door.who_init o n) no_init ∙ same (n == 0)

    module _ (message : List ℕ) where
      inits : (n : ℕ) → (registers.inits i message n).door.who_init ≡ 0
      inits n = by_test (n == IOC_STATUS_SUCCESS)
        where
          by_test : (b : Bool) → (if b then registers.operates (registers.ends_init i n) message else registers.ends_init i n).door.who_init ≡ 0
          by_test true = none (reply.Plain (Rattle.mpt_messages.specs.Function.byte_of function.IocInit) n)
          by_test false = none (reply.Plain (Rattle.mpt_messages.specs.Function.byte_of function.IocInit) n)

      serves : (f : Option Function) → (registers.serves_handshake i message f).door.who_init ≡ 0
      serves None = none (reply.Plain (slice_index message 3) IOC_STATUS_INVALID_FUNCTION)
      serves (Some function.IocInit) = inits (registers.init_status i message)
      serves (Some function.IocFacts) = none (reply.Facts i.door.who_init (Rattle.mpt_rules.specs.Ioc.Parts.ioc_queue_count i))
      serves (Some function.PortFacts) = none (reply.PortFacts (Rattle.mpt_wire.specs.Messages.Fields.port_number_in message) (registers.port_facts_status message))
      serves (Some function.ScsiIo) = none (reply.Plain (slice_index message 3) IOC_STATUS_INVALID_FUNCTION)
      serves (Some function.TaskManagement) = none (reply.Plain (slice_index message 3) IOC_STATUS_INVALID_FUNCTION)
      serves (Some function.Config) = none (reply.Plain (slice_index message 3) IOC_STATUS_INVALID_FUNCTION)
      serves (Some function.PortEnable) = none (reply.Plain (slice_index message 3) IOC_STATUS_INVALID_FUNCTION)
      serves (Some function.EventNotification) = none (reply.Plain (slice_index message 3) IOC_STATUS_INVALID_FUNCTION)
      serves (Some function.EventAck) = none (reply.Plain (slice_index message 3) IOC_STATUS_INVALID_FUNCTION)
      serves (Some function.UnitControl) = none (reply.Plain (slice_index message 3) IOC_STATUS_INVALID_FUNCTION)

      others : (registers.handshakes i message).door.who_init ≡ 0
      others = by_refusal (request_refusal_as kind.Handshake message (function_of (slice_index message 3)))
        where
          by_refusal : (o : Option MsgFault) → (registers.handshakes_if i message o).door.who_init ≡ 0
          by_refusal None = serves (function_of (slice_index message 3))
          by_refusal (Some r) = none (reply.Plain (slice_index message 3) (refusal_status r))

  -- to an IOC Init that isn't answered SUCCESS
  module _ (message : List ℕ) (is_init : slice_index message 3 ≡ FUNCTION_IOC_INIT) where
    refused : (b : ℕ) (r : MsgFault) → (registers.answers_handshake i (reply.Plain b (refusal_status r))).door.who_init ≡ 0
    refused b (refusal.Short need have) = z
    refused b (refusal.Field at) = z
    refused b (refusal.UnknownFunction byte) = z
    refused b (refusal.WrongKind byte k) = z

    begins : is_operational (state_of (registers.inits i message (registers.init_status i message))) ≡ false → (registers.inits i message (registers.init_status i message)).door.who_init ≡ 0
    begins = by_tests (is_ready (state_of i)) (registers.sizes_fit message && registers.vectors_fit i message)
      where
        by_tests : (a c : Bool) → is_operational (state_of (registers.inits i message (if not a then IOC_STATUS_INVALID_STATE else if c then IOC_STATUS_SUCCESS else IOC_STATUS_INVALID_FIELD))) ≡ false
            → (registers.inits i message (if not a then IOC_STATUS_INVALID_STATE else if c then IOC_STATUS_SUCCESS else IOC_STATUS_INVALID_FIELD)).door.who_init ≡ 0
        by_tests false c l = z
        by_tests true false l = z
        by_tests true true l = absurd (cc)

    init : is_operational (state_of (registers.handshakes i message)) ≡ false → (registers.handshakes i message).door.who_init ≡ 0
    init = by_refusal (request_refusal_as kind.Handshake message (function_of (slice_index message 3)))
      where
        served : (f : Option Function) → f ≡ Some function.IocInit → is_operational (state_of (registers.serves_handshake i message f)) ≡ false → (registers.serves_handshake i message f).door.who_init ≡ 0
        served f e = subst (λ g. is_operational (state_of (registers.serves_handshake i message g)) ≡ false → (registers.serves_handshake i message g).door.who_init ≡ 0) (sym e) begins

        by_refusal : (o : Option MsgFault) → is_operational (state_of (registers.handshakes_if i message o)) ≡ false → (registers.handshakes_if i message o).door.who_init ≡ 0
        by_refusal None = served (function_of (slice_index message 3)) (ap function_of is_init)
        by_refusal (Some r) = λ l. refused (slice_index message 3) r

-- a message that waits is answered
answered : (i : Ioc) (message : List ℕ) → i.door.who_init ≡ 0 → i.door.handshake ≡ Asked message → is_operational (state_of (registers.handshakes i message)) ≡ false → (registers.handshakes i message).door.who_init ≡ 0
answered i message z h l = by_byte (slice_index message 3 == FUNCTION_IOC_INIT) refl
  where
    by_byte : (c : Bool) → (slice_index message 3 == FUNCTION_IOC_INIT) ≡ c → (registers.handshakes i message).door.who_init ≡ 0
    by_byte true e = init i z message (eqb-true _ _ e) l
    by_byte false e = others i z (ap init_by h ∙ ap (λ c. if c then Some (Rattle.std.proofs.Common.bit_and (slice_index message 0) 7) else None) e) message

module _ (w : World) (h : History) (b : Before w h) (u : KnowsNoHost w) where
  k : Clock w h
  k = b.facts.clock

  abbrev Of : Ioc → Type 0
  Of i = is_operational (state_of i) ≡ false → i.door.who_init ≡ 0

  -- what a write asks
  wrote : (reg value : ℕ) → is_fault (state_of (adapter.takes_down w.ioc (down.Write reg value)).part) ≡ false → Of (adapter.takes_down w.ioc (down.Write reg value)).part
  wrote reg value n = by_effect (register_written w.ioc.door reg value).effect refl n
    where
      j : Ioc
      j = record w.ioc { door = (register_written w.ioc.door reg value).registers }

      a : WriteAsks w.ioc.door (register_written w.ioc.door reg value)
      a = write_asks w.ioc.door reg value

      s : state_of j ≡ state_of w.ioc
      s = (writes_are w.ioc.door reg value b.facts.doorbell.sound.waits).state

      as_before : (i : Ioc) → state_of i ≡ state_of w.ioc → is_operational (state_of i) ≡ false → is_operational (state_of w.ioc) ≡ false
      as_before i e l = sym (ap is_operational e) ∙ l

      -- OPERATIONAL is left by a reset alone
      by_shook : (i : Ioc) → leaf.Shook j i → is_operational (state_of i) ≡ false → is_operational (state_of w.ioc) ≡ false
      by_shook i (leaf.Stays e y) l = as_before i (e ∙ s) l
      by_shook i (leaf.ComesUp c e y) l = sym (ap is_operational s) ∙ ready (state_of j) c
        where
          ready : (c : IocState) → is_ready c ≡ true → is_operational c ≡ false
          ready ioc_state.Ready e = refl
          ready ioc_state.Reset e = refl
          ready ioc_state.Operational e = absurd (cc)
          ready (ioc_state.Fault code) e = refl

      by_effect : (f : Effect) → (register_written w.ioc.door reg value).effect ≡ f → is_fault (state_of (registers.after_effect j f).part) ≡ false → Of (registers.after_effect j f).part
      by_effect effect.None e n l = a.who_init ∙ u (as_before j s l)
      by_effect (effect.Asked count bytes) e n l =
          let q = a.waits count bytes e in
          let m = by_shook (registers.handshakes j (take count bytes)) (leaf.shook j (take count bytes)) l in
          subst (λ y. (registers.handshakes j y).door.who_init ≡ 0) (sym q.1.1) (answered j q.0 (a.who_init ∙ u m) q.1.0 (subst (λ y. is_operational (state_of (registers.handshakes j y)) ≡ false) q.1.1 l))
      by_effect effect.UnitReset e n l = refl
      by_effect effect.AdapterReset e n l = refl
      by_effect (effect.Fault code) e n l = absurd (cc)

  by_leaf : (x : Down) (i : Ioc) → Takes w.ioc x i → is_fault (state_of i) ≡ false → ((reg value : ℕ) → x ≡ down.Write reg value → ⊥) → Of i
  by_leaf x i (leaf.Faults y j f) n q = absurd (cc)
  by_leaf x i (leaf.Written reg value j nr s sa) n q = absurd (q reg value refl)
  by_leaf x i (leaf.Operates value j nr r s sa) n q = absurd (q _ value refl)
  by_leaf x i (leaf.Forgets reg value d r) n q = absurd (q reg value refl)
  by_leaf x i (leaf.Reads reg value) n q = u
  by_leaf x i (leaf.Posts d f p j o sa) n q = λ l. ap (λ (y : Ioc). y.door.who_init) sa ∙ u (sym (ap (λ (y : Ioc). is_operational (state_of y)) sa) ∙ l)
  by_leaf x i (leaf.DropsPost d f p o) n q = u
  by_leaf x i (leaf.Returns address index j o sa) n q = λ l. ap (λ (y : Ioc). y.door.who_init) sa ∙ u (sym (ap (λ (y : Ioc). is_operational (state_of y)) sa) ∙ l)
  by_leaf x i (leaf.DropsReturn address index o) n q = u
  by_leaf x i leaf.Stops n q = u

  taken : (x : Down) → is_fault (state_of (adapter.takes_down w.ioc x).part) ≡ false → Of (adapter.takes_down w.ioc x).part
  taken (down.Write reg value) n = wrote reg value n
  taken (down.Read reg) n = u
  taken (down.Post d f p) n = by_leaf (down.Post d f p) (adapter.takes_down w.ioc (down.Post d f p)).part (takes w.ioc b.facts.doorbell.sound.waits k.phase_table.whole (down.Post d f p)) n (λ reg value e. cc)
  taken (down.Return address index) n = by_leaf (down.Return address index) (adapter.takes_down w.ioc (down.Return address index)).part (takes w.ioc b.facts.doorbell.sound.waits k.phase_table.whole (down.Return address index)) n (λ reg value e. cc)
  taken down.Stop n = by_leaf down.Stop (adapter.takes_down w.ioc down.Stop).part (takes w.ioc b.facts.doorbell.sound.waits k.phase_table.whole down.Stop) n (λ reg value e. cc)

  by_words : (test : Out → Bool) (i : Ioc) → IocSpeaks test w.ioc i → Of i
  by_words test i g l = ap (λ d. d.who_init) g.door_is ∙ u (sym (ap (λ d. is_operational d.state) g.door_is) ∙ l)

  told : (x : Back) (o : Happening Ioc) → News never_out w.ioc x o → Of o.part
  told x o (SpeaksBack l g) = by_words never_out o.part g
  told x o (Unlinked n i z e) = subst (λ (y : Happening Ioc). Of y.part) (sym e) u
  told x o (LinkedUp n i g r e) = subst (λ (y : Happening Ioc). Of y.part) (sym e) (linked w.ioc.door.hold_reset (u (reset (state_of w.ioc) r)))
    where
      reset : (c : IocState) → is_reset c ≡ true → is_operational c ≡ false
      reset ioc_state.Ready e = refl
      reset ioc_state.Reset e = refl
      reset ioc_state.Operational e = absurd (cc)
      reset (ioc_state.Fault code) e = refl

      linked : (c : Bool) → w.ioc.door.who_init ≡ 0
          → is_operational (if true && not c then record (record w.ioc.door { reset_adapter = false; link_waits = true }) { state = ioc_state.Ready; link_waits = false } else record w.ioc.door { reset_adapter = false; link_waits = true }).state ≡ false
          → (if true && not c then record (record w.ioc.door { reset_adapter = false; link_waits = true }) { state = ioc_state.Ready; link_waits = false } else record w.ioc.door { reset_adapter = false; link_waits = true }).who_init ≡ 0
      linked true z l = z
      linked false z l = z
  told x o (CalmTold i e) = subst (λ (y : Happening Ioc). Of y.part) (sym e) u

  abbrev Kept : World → Type 0
  Kept v = is_fault (state_of v.ioc) ≡ false → KnowsNoHost v

  owes : Owes Kept w
  owes =
      record {
        host_puts = λ x rest e v. u;
        host_takes = λ queue x rest e y v. u;
        host_told = λ i t v. u;
        host_looks = λ e v. u;
        host_stops = λ e v. u;
        ioc_takes = λ x rest e v. taken x v;
        ioc_high = λ p rest e v. by_words is_asked_out (ioc_step.works_on (record w.ioc { high = rest }) p).part (high_words w h b p rest);
        ioc_normal = λ p rest e v. by_words is_asked_out (ioc_step.works_on (record w.ioc { normal = rest }) p).part (normal_words w h b p rest);
        ioc_puts_out = λ x rest e v. u;
        ioc_takes_back = λ x rest e v. told x (adapter.takes_back w.ioc x) (news never_out w.ioc x);
        ioc_puts = λ queue y rest z e g v. u;
        fabric_takes = λ x rest e v. u;
        fabric_says = λ x rest e v. u;
        fabric_puts = λ x rest e v. u;
        fabric_runs = λ tag address e v. u;
        plugs = λ address expander phy v. u;
        unplugs = λ address v. u;
        calms = λ v. u;
      }

  pub knows_kept : (c : Case) → KnowsNoHost (happens w c)
  knows_kept c = kept Kept w b.plain owes (λ v. u) c (whole_kept w h b.facts b.plain c)
