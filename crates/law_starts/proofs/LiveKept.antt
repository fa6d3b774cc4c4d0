-- Each case keeps that a start's machine is at IOC Init where the controller is OPERATIONAL.
use Rattle.std.proofs.Common.{◌≡◌, ℕ, ◌⊎◌, inl, inr, Bool, true, false, List, [], ◌∷◌, ◌++◌, take, Option, Some, None, is_some, refl, ap, sym, ◌∙◌, subst, arith}
use Rattle.mpi_doorbell.specs.DoorRegisters.{DoorRegisters, is_fault, register_written}
use Rattle.mpi_doorbell.specs.HostDoor.{HostDoor}
use Rattle.mpi_doorbell.specs.declared.effect.Effect.{Effect}
use Rattle.mpi_doorbell.specs.declared.registers.TheConstants.{DOORBELL}
use Rattle.mpi_doorbell.specs.declared.effect.Effect.TheVariants as effect
use Rattle.mpi_doorbell.specs.declared.stage.Stage.{Stage as DoorStage}
use Rattle.mpi_doorbell.specs.declared.stage.Stage.TheVariants as door_stage
use Rattle.mpi_doorbell.specs.declared.state.IocState.TheVariants as ioc_state
use Rattle.mpt_messages.specs.declared.host_ask.HostAsk.{HostAsk}
use Rattle.mpt_messages.specs.declared.host_ask.HostAsk.TheVariants as ask
use Rattle.mpt_wire.specs.Machine.Causes.{is_resetting}
use Rattle.mpt_trace.specs.declared.host_state.HostState.{HostState}
use Rattle.mpt_trace.specs.declared.host_state.HostState.TheVariants as state
use Rattle.mpt_trace.specs.declared.item.Back.{Back}
use Rattle.mpt_trace.specs.declared.item.Down.{Down}
use Rattle.mpt_trace.specs.declared.item.Down.TheVariants as down
use Rattle.mpt_trace.specs.declared.item.Out.{Out}
use Rattle.mpt_rules.specs.declared.stage.Stage.{Stage}
use Rattle.mpt_rules.specs.declared.stage.Stage.TheVariants as stage
use Rattle.mpt_rules.specs.World.Cases.{Case, happens}
use Rattle.mpt_rules.specs.World.Counts.{how_many, is_register_write, one_if}
use Rattle.mpt_rules.specs.Host.Doorbell as door
use Rattle.mpt_rules.specs.Host.Doorbell.{next_turn}
use Rattle.mpt_rules.specs.Host.Parts.{Host}
use Rattle.mpt_rules.specs.Host.Returns.{after_sent}
use Rattle.mpt_rules.specs.Host.Takes.{is_starting}
use Rattle.mpt_rules.specs.Ioc.Parts.{Ioc, state_of}
use Rattle.mpt_rules.specs.Ioc.Registers as registers
use Rattle.mpt_rules.specs.Ioc.Steps as ioc_step
use Rattle.mpt_rules.specs.Ioc.Tables.{is_operational, is_ready}
use Rattle.mpt_rules.specs.Ioc.Takes as adapter
use Rattle.mpt_rules.specs.Outcome.{Happening}
use Rattle.mpt_rules.specs.World.Lines.{down_line}
use Rattle.mpt_rules.specs.World.State.{World}
use Rattle.law_facts.specs.Clock.{Clock, in_begun, is_linked_up, is_live}
use Rattle.law_facts.specs.DoorAhead.{InStep, IsInMode, ReadsFor, WaitsAt, does_still, door_ahead, written_ahead}
use Rattle.law_facts.specs.History.{History}
use Rattle.law_facts.specs.Words.{is_off}
use Rattle.law_moves.proofs.Cases.{Owes, kept}
use Rattle.law_moves.proofs.Counted.{how_many-cons}
use Rattle.law_moves.proofs.IocSpeaks.{CalmTold, IocSpeaks, LinkedUp, News, Speaks as SpeaksBack, Unlinked, is_asked_out, never_out, news}
use Rattle.law_moves.proofs.IocTakes as leaf
use Rattle.law_moves.proofs.IocTakes.{Takes, takes}
use Rattle.law_moves.proofs.Phases.{and_false}
use Rattle.law_moves.proofs.Registers.{linked_is}
use Rattle.law_clock.specs.Premises.{Before}
use Rattle.law_clock.proofs.PhaseKept.{high_words, normal_words}
use Rattle.law_doors.proofs.Ahead.{ahead-write}
use Rattle.law_doors.proofs.Whole.{waits_stay, whole_kept}
use Rattle.law_starts.specs.Starts.{LiveAtInit, StartsStand}
use Rattle.law_starts.proofs.Answering.{answer_leaves}
use Rattle.law_starts.proofs.HostAtDoor as at
use Rattle.law_starts.proofs.HostAtDoor.{Asked, AtDoor, Beginning, Begins, Drops, FactsNext, Free, FromOff, GivesUp, HasValue, InitNext, Keeps, Late, Looked, Marked, Next, NextShake, Opened, PortFactsNext, Readied, Renewed, Turns, base_begun, begins_is, contrary}
use Rattle.law_starts.proofs.QueuesWorld.{stays_live}
use Rattle.law_starts.proofs.Resetting.{over_linked}

resetting_starts : {T : Type 0} (m : HostState) → is_resetting m ≡ true → is_starting m ≡ true → T
resetting_starts state.Resetting e f = absurd (cc)
resetting_starts state.Off e f = absurd (cc)
resetting_starts state.Starting e f = absurd (cc)
resetting_starts state.Up e f = absurd (cc)

module _ (w : World) (h : History) (b : Before w h) (s : StartsStand w) where
  k : Clock w h
  k = b.facts.clock

  init : LiveAtInit w
  init = b.facts.doorbell.fresh_start.init

  abbrev OnHost : Host → Type 0
  OnHost x = is_starting x.mode ≡ true → is_some x.machine ≡ true → is_live w ≡ true → x.stage ≡ stage.Init

  none_some : {T : Type 0} (o : Option HostDoor) → o ≡ None → is_some o ≡ true → T
  none_some None e f = absurd (cc)
  none_some (Some d) e f = absurd (cc)

  not_linked : {T : Type 0} → is_live w ≡ true → is_linked_up w ≡ true → T
  not_linked l e = contrary (in_begun w) (k.phase_table.live l).0 (and_false (in_begun w) (is_ready (state_of w.ioc)) e).0

  next : {p q : Stage} {a : HostAsk} → NextShake w p q a → IsInMode w p → (p ≡ stage.Init → ⊥) × (w.host.mode ≡ state.Starting)
  next FactsNext i = (λ e. cc, i)
  next PortFactsNext i = (λ e. cc, i)
  next InitNext i = (λ e. cc, i)

  base : {y : Host} {z : Stage} {d : HostDoor} {t : Bool} → Beginning w y z d t → is_starting y.mode ≡ true → is_live w ≡ true → z ≡ stage.Init
  base (FromOff m) e l = contrary (is_off w.host.mode) (k.phase_table.live l).1 (ap is_off m)
  base (Free m r) e l = contrary (is_starting w.host.mode) (ap is_starting m) e
  base (Asked z d q m r) e l = absurd (cc)
  base (Late z d q c n a v rest u r) e l = resetting_starts w.host.mode (and_false _ _ (and_false _ _ a).0).0 e
  base (Marked queue m r) e l = not_linked l (k.value_is_last.ready r).linked
  base (Renewed d y v hv o r) e l = not_linked l (over_linked w h b d y v hv o r)
  base (Next d y v hv o z a f) e l = let n = next f hv.in_mode in absurd (n.0 (init (ap is_starting n.1) (ap is_some hv.machine_is) l))

  host : (x : Host) (t : Bool) → AtDoor w x t → OnHost x
  host x t (Keeps q) e m l = q.stage_is ∙ by_mode q.mode_is
    where
      by_mode : (x.mode ≡ w.host.mode) ⊎ ((is_resetting w.host.mode ≡ false) × (w.host.machine ≡ None) × (x.mode ≡ state.Up)) → w.host.stage ≡ stage.Init
      by_mode (inl y) = init (sym (ap is_starting y) ∙ e) (sym (ap is_some q.machine_is) ∙ m) l
      by_mode (inr y) = contrary (is_starting x.mode) (ap is_starting y.2) e
  host x t (GivesUp z r m g f) e n l = none_some x.machine (ap (λ (y : Host). y.machine) f) n
  host x t (Drops n y v rest g r f) e m l = none_some x.machine (ap (λ (z : Host). z.machine) f ∙ n) m
  host x t (Begins y z d t2 q f) e m l = let g = base_begun q in let i = f ∙ begins_is y z d g.0 g.1 in ap (λ (z : Host). z.stage) i ∙ base q (sym (ap (λ (z : Host). is_starting z.mode) i) ∙ e) l
  host x t (Turns d y v hv reg z f) e m l =
      let i = f ∙ ap (door.puts_step (door.puts_writes (record w.host { reading = false }) (next_turn d (Some v)).writes) (next_turn d (Some v)).door) z in
      ap (λ (z : Host). z.stage) i ∙ init (sym (ap (λ (z : Host). is_starting z.mode) i) ∙ e) (ap is_some hv.machine_is) l
  host x t (Looked d y v hv o z f) e m l = none_some x.machine (ap (λ (z : Host). z.machine) f) m
  host x t (Readied d y v hv o z f) e m l = none_some x.machine (ap (λ (z : Host). z.machine) f) m
  host x t (Opened d y v hv o z q) e m l = none_some x.machine q.machine_is m

  -- ---- the controller

  abbrev OnIoc : Ioc → Type 0
  OnIoc i = is_starting w.host.mode ≡ true → is_some w.host.machine ≡ true → is_operational (state_of i) ≡ true → w.host.stage ≡ stage.Init

  same_ioc : (i : Ioc) → state_of i ≡ state_of w.ioc → OnIoc i
  same_ioc i c e m l = init e m (sym (ap is_operational c) ∙ l)

  down_ioc : (i : Ioc) → is_operational (state_of i) ≡ false → OnIoc i
  down_ioc i n e m l = contrary (is_operational (state_of i)) n l

  -- OPERATIONAL ahead: the handshake is IOC Init's
  by_ahead : (x : Down) (rest : List Down) → w.down ≡ x ∷ rest → is_register_write x ≡ true → is_operational (door_ahead w).state ≡ true → is_starting w.host.mode ≡ true → is_some w.host.machine ≡ true → w.host.stage ≡ stage.Init
  by_ahead x rest e r l m q = by_machine w.host.machine refl q
    where
      not_ready : {T : Type 0} → (door_ahead w).state ≡ ioc_state.Ready → T
      not_ready y = contrary (is_operational (door_ahead w).state) (ap is_operational y) l

      facts : (d : HostDoor) → InStep w d ask.Facts → w.host.stage ≡ stage.Init
      facts d i = by_half i.leads
        where
          by_half : Rattle.law_facts.specs.DoorAhead.AsksAhead w d ask.Facts ⊎ Rattle.law_facts.specs.DoorAhead.ReadsReply w d ask.Facts → w.host.stage ≡ stage.Init
          by_half (inl z) = not_ready z.state
          by_half (inr z) = not_ready z.state

      port_facts : (d : HostDoor) → InStep w d ask.PortFacts → w.host.stage ≡ stage.Init
      port_facts d i = by_half i.leads
        where
          by_half : Rattle.law_facts.specs.DoorAhead.AsksAhead w d ask.PortFacts ⊎ Rattle.law_facts.specs.DoorAhead.ReadsReply w d ask.PortFacts → w.host.stage ≡ stage.Init
          by_half (inl z) = not_ready z.state
          by_half (inr z) = not_ready z.state

      looks : w.host.stage ≡ stage.Start → w.host.stage ≡ stage.Init
      looks y =
          let z = s.nothing_is_written.look y in let a = ap (λ xs. how_many is_register_write (xs ++ w.host.out)) e in let c = how_many-cons is_register_write x (rest ++ w.host.out) in
          let o : one_if (is_register_write x) ≡ 1 = ap one_if r in absurd (omega (arith, z, a, c, o))

      by_stage : (d : HostDoor) → w.host.machine ≡ Some d → (z : Stage) → w.host.stage ≡ z → IsInMode w z → w.host.stage ≡ stage.Init
      by_stage d y stage.Init z i = z
      by_stage d y stage.Start z i = looks z
      by_stage d y stage.Facts z i = facts d (b.facts.doorbell.lock_step.steps d ask.Facts y (ap (Rattle.law_facts.specs.DoorAhead.asked_in w) z))
      by_stage d y stage.PortFacts z i = port_facts d (b.facts.doorbell.lock_step.steps d ask.PortFacts y (ap (Rattle.law_facts.specs.DoorAhead.asked_in w) z))
      by_stage d y stage.Idle z i = absurd i
      by_stage d y stage.StartReset z i = absurd i
      by_stage d y stage.Look z i = contrary (is_starting w.host.mode) (ap is_starting i) m
      by_stage d y stage.DiagnosticReset z i = contrary (is_starting w.host.mode) (ap is_starting i) m
      by_stage d y stage.UnitReset z i = contrary (is_starting w.host.mode) (ap is_starting i) m

      waits : (z : DoorStage) → WaitsAt w z → IsInMode w w.host.stage
      waits (door_stage.Awaits x) q = q.1
      waits (door_stage.Reads x) q = absurd q
      waits door_stage.Opens q = absurd q
      waits (door_stage.WritesKey place) q = absurd q
      waits door_stage.Locks q = absurd q
      waits door_stage.ResetsUnit q = absurd q
      waits door_stage.Finishes q = absurd q
      waits door_stage.Ended q = absurd q

      by_machine : (o : Option HostDoor) → w.host.machine ≡ o → is_some o ≡ true → w.host.stage ≡ stage.Init
      by_machine None y q = absurd (cc)
      by_machine (Some d) y q = by_stage d y w.host.stage refl (waits d.stage (b.facts.doorbell.stage.machine d y))

  -- a dword with which the controller comes up
  operates : (value : ℕ) (rest : List Down) → w.down ≡ down.Write DOORBELL value ∷ rest → OnIoc (adapter.takes_down w.ioc (down.Write DOORBELL value)).part
  operates value rest e = by_effect (register_written w.ioc.door DOORBELL value).effect refl
    where
      j : Ioc
      j = record w.ioc { door = (register_written w.ioc.door DOORBELL value).registers }

      l : j.door.link_waits ≡ false
      l = waits_stay w.ioc.door DOORBELL value s.nothing_holds.waits

      line : (f : Effect) → (register_written w.ioc.door DOORBELL value).effect ≡ f → written_ahead (does_still j f) (rest ++ w.host.out) ≡ written_ahead w.ioc (down_line w)
      line f y =
          sym (ap (λ xs. written_ahead w.ioc (xs ++ w.host.out)) e
          ∙ (ahead-write w.ioc DOORBELL value (rest ++ w.host.out) ∙ ap (λ g. written_ahead (does_still j g) (rest ++ w.host.out)) y))

      live_on : (i : Ioc) → written_ahead i (rest ++ w.host.out) ≡ written_ahead w.ioc (down_line w) → i.door.link_waits ≡ false → OnIoc i
      live_on i q u y m v =
          let p = stays_live i.vectors i (rest ++ w.host.out) (record { live = v; vectors = refl; waits = u }) (ap (λ (z : Ioc). is_fault z.door.state) q ∙ b.facts.doorbell.sound.whole) in
          by_ahead (down.Write DOORBELL value) rest e refl (sym (ap (λ (z : Ioc). is_operational z.door.state) q) ∙ p.live) y m

      by_effect : (f : Effect) → (register_written w.ioc.door DOORBELL value).effect ≡ f → OnIoc (registers.after_effect j f).part
      by_effect effect.None y = live_on j (line effect.None y) l
      by_effect (effect.Asked count bytes) y = live_on (registers.handshakes j (take count bytes)) (line (effect.Asked count bytes) y) ((answer_leaves j (take count bytes)).waits ∙ l)
      by_effect effect.UnitReset y = down_ioc (Rattle.mpt_rules.specs.Ioc.Resets.forgets j) refl
      by_effect effect.AdapterReset y = down_ioc (Rattle.mpt_rules.specs.Ioc.Resets.forgets j) refl
      by_effect (effect.Fault code) y = down_ioc (Rattle.mpt_rules.specs.Ioc.Tables.faults j code) refl

  by_leaf : (x : Down) (rest : List Down) (i : Ioc) → w.down ≡ x ∷ rest → i ≡ (adapter.takes_down w.ioc x).part → Takes w.ioc x i → is_fault (state_of i) ≡ false → OnIoc i
  by_leaf x rest i e t (leaf.Faults y j g) n = contrary _ n g
  by_leaf x rest i e t (leaf.Written reg value j nr c sa) n = same_ioc i c
  by_leaf x rest i e t (leaf.Operates value j nr r c sa) n = subst OnIoc (sym t) (operates value rest e)
  by_leaf x rest i e t (leaf.Forgets reg value d r) n = down_ioc i refl
  by_leaf x rest i e t (leaf.Reads reg value) n = same_ioc i refl
  by_leaf x rest i e t (leaf.Posts d g p j o sa) n = same_ioc i (ap (λ (y : Ioc). state_of y) sa)
  by_leaf x rest i e t (leaf.DropsPost d g p o) n = same_ioc i refl
  by_leaf x rest i e t (leaf.Returns address index j o sa) n = same_ioc i (ap (λ (y : Ioc). state_of y) sa)
  by_leaf x rest i e t (leaf.DropsReturn address index o) n = same_ioc i refl
  by_leaf x rest i e t leaf.Stops n = same_ioc i refl

  by_words : (test : Out → Bool) (i : Ioc) → IocSpeaks test w.ioc i → OnIoc i
  by_words test i g = same_ioc i (ap (λ (d : DoorRegisters). d.state) g.door_is)

  told : (x : Back) (o : Happening Ioc) → News never_out w.ioc x o → OnIoc o.part
  told x o (SpeaksBack l g) = by_words never_out o.part g
  told x o (Unlinked n i z e) = same_ioc o.part (ap (λ (y : Happening Ioc). state_of y.part) e)
  told x o (LinkedUp n i g r e) = down_ioc o.part (ap (λ (y : Happening Ioc). is_operational (state_of y.part)) e ∙ ap is_operational (linked_is w.ioc.door s.nothing_holds.hold))
  told x o (CalmTold i e) = same_ioc o.part (ap (λ (y : Happening Ioc). state_of y.part) e)

  put : (x : Down) (rest : List Down) → LiveAtInit (record w { host = after_sent w.host x rest; down = w.down ++ x ∷ [] })
  put (down.Return address index) rest = init
  put (down.Write reg value) rest = init
  put (down.Read reg) rest = init
  put (down.Post d g q) rest = init
  put down.Stop rest = init

  abbrev Kept : World → Type 0
  Kept v = is_fault (state_of v.ioc) ≡ false → LiveAtInit v

  owes : Owes Kept w
  owes =
      record {
        host_puts = λ x rest e v. put x rest;
        host_takes = λ queue x rest e y v. host (Rattle.mpt_rules.specs.Host.Takes.hears_up w.host queue x).part _ (at.took w h b queue x rest e y);
        host_told = λ i t v. host (Rattle.mpt_rules.specs.World.Inputs.host_told w.host i).part false (at.told w h b i t);
        host_looks = λ e v. host (Rattle.mpt_rules.specs.Host.Takes.looks w.host) false (at.looked w h b e);
        host_stops = λ e v. host (Rattle.mpt_rules.specs.Host.Takes.stops w.host) false (at.stopped w h b);
        ioc_takes = λ x rest e v. by_leaf x rest (adapter.takes_down w.ioc x).part e refl (takes w.ioc s.nothing_holds.waits k.phase_table.whole x) v;
        ioc_high = λ p rest e v. by_words is_asked_out (ioc_step.works_on (record w.ioc { high = rest }) p).part (high_words w h b p rest);
        ioc_normal = λ p rest e v. by_words is_asked_out (ioc_step.works_on (record w.ioc { normal = rest }) p).part (normal_words w h b p rest);
        ioc_puts_out = λ x rest e v. init;
        ioc_takes_back = λ x rest e v. told x (adapter.takes_back w.ioc x) (news never_out w.ioc x);
        ioc_puts = λ queue y rest z e g v. init;
        fabric_takes = λ x rest e v. init;
        fabric_says = λ x rest e v. init;
        fabric_puts = λ x rest e v. init;
        fabric_runs = λ tag address e v. init;
        plugs = λ address expander phy v. init;
        unplugs = λ address v. init;
        calms = λ v. init;
      }

  pub live_kept : (c : Case) → LiveAtInit (happens w c)
  live_kept c = kept Kept w b.plain owes (λ v. init) c (whole_kept w h b.facts b.plain c)
