-- Each case keeps that IOC Init asked for all reply queues: the controller, and all cases.
use Rattle.law_facts.specs.DoorAhead.{door_ahead}
use Rattle.std.proofs.Common.{◌≡◌, ℕ, ◌&&◌, ◌⊎◌, inl, inr, not, if◌then◌else◌, Bool, true, false, List, [], ◌∷◌, ◌++◌, append_assoc, length, length-set, set, slice_index, take, Option, Some, None, refl, ap, sym, ◌∙◌, subst}
use Rattle.mpi_doorbell.specs.DoorRegisters.{DoorRegisters, is_fault, linked_up, register_written}
use Rattle.mpi_doorbell.specs.declared.effect.Effect.{Effect}
use Rattle.mpi_doorbell.specs.declared.effect.Effect.TheVariants as effect
use Rattle.mpi_doorbell.specs.declared.state.IocState.{IocState}
use Rattle.mpi_doorbell.specs.declared.state.IocState.TheVariants as ioc_state
use Rattle.mpt_messages.specs.Function.{function_of}
use Rattle.mpt_messages.specs.Refusal.{request_refusal_as}
use Rattle.mpt_messages.specs.declared.fault.MsgFault.{MsgFault}
use Rattle.mpt_messages.specs.declared.function.Function.{Function}
use Rattle.mpt_messages.specs.declared.function.Function.TheVariants as function
use Rattle.mpt_messages.specs.declared.function.Kind.TheVariants as kind
use Rattle.mpt_trace.specs.declared.item.Back.{Back}
use Rattle.mpt_trace.specs.declared.item.Down.{Down}
use Rattle.mpt_trace.specs.declared.item.Down.TheVariants as down
use Rattle.mpt_trace.specs.declared.item.Out.{Out}
use Rattle.mpt_trace.specs.declared.item.Up.{Up}
use Rattle.mpt_rules.specs.declared.said.Said.TheVariants as said
use Rattle.mpt_rules.specs.declared.status.TheConstants.{IOC_STATUS_INVALID_FIELD, IOC_STATUS_INVALID_STATE, IOC_STATUS_SUCCESS}
use Rattle.mpt_rules.specs.World.Cases.{Case, happens}
use Rattle.mpt_rules.specs.World.Counts.{how_many, is_register_write}
use Rattle.mpt_rules.specs.Host.Parts.{Host}
use Rattle.mpt_rules.specs.Host.Returns.{after_sent}
use Rattle.mpt_rules.specs.Ioc.Parts.{Ioc, state_of}
use Rattle.mpt_rules.specs.Ioc.Registers as registers
use Rattle.mpt_rules.specs.Ioc.Replies as say
use Rattle.mpt_rules.specs.Ioc.Resets.{forgets}
use Rattle.mpt_rules.specs.Ioc.Sending.{up_sent_on}
use Rattle.mpt_rules.specs.Ioc.Steps as ioc_step
use Rattle.mpt_rules.specs.Ioc.Tables.{is_operational, is_ready, is_reset}
use Rattle.mpt_rules.specs.Ioc.Takes as adapter
use Rattle.mpt_rules.specs.Outcome.{Happening}
use Rattle.mpt_rules.specs.World.Lines.{down_line}
use Rattle.mpt_rules.specs.World.State.{World, queues_of, up_on}
use Rattle.law_facts.specs.Clock.{Clock}
use Rattle.law_facts.specs.DoorAhead.{does_still, writes_still, written_ahead}
use Rattle.law_facts.specs.History.{History}
use Rattle.law_flights.specs.Given.{Resets}
use Rattle.law_moves.proofs.Cases.{Owes, kept}
use Rattle.law_moves.proofs.HostGoes.{heard_of, is_value}
use Rattle.law_moves.proofs.IocSpeaks.{CalmTold, IocSpeaks, LinkedUp, News, Speaks as SpeaksBack, Unlinked, is_asked_out, never_out, news}
use Rattle.law_moves.proofs.IocTakes as leaf
use Rattle.law_moves.proofs.IocTakes.{Takes, takes}
use Rattle.law_moves.proofs.Registers.{linked_is, writes_are}
use Rattle.law_clock.specs.Premises.{Before}
use Rattle.law_clock.proofs.PhaseKept.{high_words, normal_words}
use Rattle.law_doors.proofs.Ahead.{ahead-write, core, quiet_ahead}
use Rattle.law_doors.proofs.Whole.{Stuck, stuck_ahead, waits_stay, whole_kept}
use Rattle.law_starts.specs.Starts.{QueuesAsked, StartsStand}
use Rattle.law_starts.proofs.Alike.{DoorAlike, alike_ahead}
use Rattle.law_starts.proofs.Answering.{answer_leaves}
use Rattle.law_starts.proofs.HostAtDoor as at
use Rattle.law_starts.proofs.HostAtDoor.{AtDoor, contrary, post_no_write, read_no_write, return_no_write, stop_no_write}
use Rattle.law_starts.proofs.QueuesKept as by_host
use Rattle.law_starts.proofs.QueuesKept.{alike_queues}
use Rattle.law_starts.proofs.QueuesTurns.{QueuesIn, SameQueues}
use Rattle.law_starts.proofs.WrittenKept.{alone}

-- ---- a controller that is OPERATIONAL stays so

live_not_ready : (c : IocState) → is_operational c ≡ true → is_ready c ≡ false
live_not_ready ioc_state.Operational e = refl
live_not_ready ioc_state.Ready e = absurd (cc)
live_not_ready ioc_state.Reset e = absurd (cc)
live_not_ready (ioc_state.Fault code) e = absurd (cc)

module _ (i : Ioc) (message : List ℕ) (l : is_operational (state_of i) ≡ true) where
  refuses_init : SameQueues i (registers.inits i message (registers.init_status i message))
  refuses_init = by_tests (is_ready (state_of i)) (live_not_ready (state_of i) l) (registers.sizes_fit message && registers.vectors_fit i message)
    where
      by_tests : (a : Bool) → a ≡ false → (c : Bool) → SameQueues i (registers.inits i message (if not a then IOC_STATUS_INVALID_STATE else if c then IOC_STATUS_SUCCESS else IOC_STATUS_INVALID_FIELD))
      by_tests false e c = record { state = refl; vectors = refl }
      by_tests true e c = absurd (cc)

  serves_up : (f : Option Function) → SameQueues i (registers.serves_handshake i message f)
  serves_up None = record { state = refl; vectors = refl }
  serves_up (Some function.IocInit) = refuses_init
  serves_up (Some function.IocFacts) = record { state = refl; vectors = refl }
  serves_up (Some function.PortFacts) = record { state = refl; vectors = refl }
  serves_up (Some function.ScsiIo) = record { state = refl; vectors = refl }
  serves_up (Some function.TaskManagement) = record { state = refl; vectors = refl }
  serves_up (Some function.Config) = record { state = refl; vectors = refl }
  serves_up (Some function.PortEnable) = record { state = refl; vectors = refl }
  serves_up (Some function.EventNotification) = record { state = refl; vectors = refl }
  serves_up (Some function.EventAck) = record { state = refl; vectors = refl }
  serves_up (Some function.UnitControl) = record { state = refl; vectors = refl }

  message_up : SameQueues i (registers.handshakes i message)
  message_up = by_refusal (request_refusal_as kind.Handshake message (function_of (slice_index message 3)))
    where
      by_refusal : (o : Option MsgFault) → SameQueues i (registers.handshakes_if i message o)
      by_refusal None = serves_up (function_of (slice_index message 3))
      by_refusal (Some r) = record { state = refl; vectors = refl }

-- OPERATIONAL, with so many vectors
pub record IsLive (n : ℕ) (i : Ioc) : Type 0 where
  pub live : is_operational (state_of i) ≡ true
  pub vectors : i.vectors ≡ n
  pub waits : i.door.link_waits ≡ false

live_step : (n : ℕ) (i : Ioc) (reg value : ℕ) → IsLive n i → IsLive n (writes_still i reg value) ⊎ Stuck (writes_still i reg value)
live_step n i reg value p = by_effect (register_written i.door reg value).effect
  where
    j : Ioc
    j = record i { door = (register_written i.door reg value).registers }

    written : IsLive n j
    written = record { live = ap is_operational (writes_are i.door reg value p.waits).state ∙ p.live; vectors = p.vectors; waits = waits_stay i.door reg value p.waits }

    by_effect : (f : Effect) → IsLive n (does_still j f) ⊎ Stuck (does_still j f)
    by_effect effect.None = inl written
    by_effect (effect.Asked count bytes) =
        let m = message_up j (take count bytes) written.live in
        inl (record { live = ap is_operational m.state ∙ written.live; vectors = m.vectors ∙ p.vectors; waits = (answer_leaves j (take count bytes)).waits ∙ written.waits })
    by_effect effect.UnitReset = inl written
    by_effect effect.AdapterReset = inl written
    by_effect (effect.Fault code) = inr (record { fault = refl; waits = written.waits })

pub stays_live : (n : ℕ) (i : Ioc) (xs : List Down) → IsLive n i → is_fault (written_ahead i xs).door.state ≡ false → IsLive n (written_ahead i xs)
unfolding written_ahead
stays_live n i [] p f = p
stays_live n i (down.Write reg value ∷ xs) p f = by_step (live_step n i reg value p) (λ q. stays_live n (writes_still i reg value) xs q f)
  where
    by_step : IsLive n (writes_still i reg value) ⊎ Stuck (writes_still i reg value) → (IsLive n (writes_still i reg value) → IsLive n (written_ahead (writes_still i reg value) xs)) → IsLive n (written_ahead (writes_still i reg value) xs)
    by_step (inl q) ih = ih q
    by_step (inr q) ih = contrary (is_fault (written_ahead (writes_still i reg value) xs).door.state) f (stuck_ahead (writes_still i reg value) xs q)
stays_live n i (down.Read reg ∷ xs) p f = stays_live n i xs p f
stays_live n i (down.Post d g b ∷ xs) p f = stays_live n i xs p f
stays_live n i (down.Return a m ∷ xs) p f = stays_live n i xs p f
stays_live n i (down.Stop ∷ xs) p f = stays_live n i xs p f

-- a front that is no write
ahead_pass : (i : Ioc) (x : Down) (xs : List Down) → ((reg value : ℕ) → x ≡ down.Write reg value → ⊥) → written_ahead i (x ∷ xs) ≡ written_ahead i xs
unfolding written_ahead
ahead_pass i (down.Write reg value) xs n = absurd (n reg value refl)
ahead_pass i (down.Read reg) xs n = refl
ahead_pass i (down.Post d f p) xs n = refl
ahead_pass i (down.Return a m) xs n = refl
ahead_pass i down.Stop xs n = refl

-- a controller that isn't OPERATIONAL, over a line that writes nothing
pub record QueuesOf (q : ℕ) (i : Ioc) (line : List Down) : Type 0 where
  pub now : QueuesIn q i
  pub ahead : QueuesIn q (written_ahead i line)

down_queues : (q : ℕ) (i : Ioc) (line : List Down) → is_operational (state_of i) ≡ false → is_fault (state_of i) ≡ false → i.door.link_waits ≡ false → how_many is_register_write line ≡ 0 → QueuesOf q i line
down_queues q i line n f l z =
    let c = quiet_ahead i line z in
    record {
      now = record { whole = f; vectors = λ e. contrary (is_operational (state_of i)) n e; waits = l };
      ahead = record { whole = ap (λ (r : DoorRegisters). is_fault r.state) c ∙ f; vectors = λ e. contrary (is_operational (state_of i)) n (sym (ap (λ (r : DoorRegisters). is_operational r.state) c) ∙ e); waits = ap (λ (r : DoorRegisters). r.link_waits) c ∙ l };
    }

module _ (w : World) (h : History) (b : Before w h) (s : StartsStand w) where
  k : Clock w h
  k = b.facts.clock

  abbrev A : Ioc
  A = written_ahead w.ioc (down_line w)

  abbrev OnIoc : Ioc → List Down → Type 0
  OnIoc i line = QueuesOf (queues_of w) i line

  here : QueuesOf (queues_of w) w.ioc (down_line w)
  here = record { now = by_host.now w h b s; ahead = by_host.ahead w h b s }

  -- what is ahead stays ahead
  same_ahead : (i : Ioc) (line : List Down) → written_ahead i line ≡ A → is_fault (state_of i) ≡ false → i.door.link_waits ≡ false → OnIoc i line
  same_ahead i line e f l = record { now = record { whole = f; vectors = vectors; waits = l }; ahead = subst (QueuesIn (queues_of w)) (sym e) here.ahead }
    where
      vectors : is_operational (state_of i) ≡ true → i.vectors ≡ queues_of w
      vectors v =
          let p = stays_live i.vectors i line (record { live = v; vectors = refl; waits = l }) (ap (λ (y : Ioc). is_fault y.door.state) e ∙ b.facts.doorbell.sound.whole) in
          sym p.vectors ∙ (ap (λ (y : Ioc). y.vectors) e ∙ here.ahead.vectors (sym (ap (λ (y : Ioc). is_operational y.door.state) e) ∙ p.live))

  -- a controller of which the door has not seen
  alike_ioc : (i : Ioc) (line : List Down) → DoorAlike i w.ioc → written_ahead w.ioc line ≡ A → OnIoc i line
  alike_ioc i line a e = record { now = alike_queues (queues_of w) i w.ioc a here.now; ahead = alike_queues (queues_of w) (written_ahead i line) (written_ahead w.ioc line) (alike_ahead i w.ioc line a) (subst (QueuesIn (queues_of w)) (sym e) here.ahead) }

  -- ---- an item of the host

  wrote : (reg value : ℕ) (rest : List Down) → w.down ≡ down.Write reg value ∷ rest → is_fault (state_of (adapter.takes_down w.ioc (down.Write reg value)).part) ≡ false → OnIoc (adapter.takes_down w.ioc (down.Write reg value)).part (rest ++ w.host.out)
  wrote reg value rest e n = by_effect (register_written w.ioc.door reg value).effect refl n
    where
      j : Ioc
      j = record w.ioc { door = (register_written w.ioc.door reg value).registers }

      l : j.door.link_waits ≡ false
      l = waits_stay w.ioc.door reg value s.nothing_holds.waits

      line : (f : Effect) → (register_written w.ioc.door reg value).effect ≡ f → written_ahead (does_still j f) (rest ++ w.host.out) ≡ A
      line f y =
          sym (ap (λ xs. written_ahead w.ioc (xs ++ w.host.out)) e ∙ (ahead-write w.ioc reg value (rest ++ w.host.out) ∙ ap (λ g. written_ahead (does_still j g) (rest ++ w.host.out)) y))

      begins : Resets (register_written w.ioc.door reg value).effect → OnIoc (forgets j) (rest ++ w.host.out)
      begins r = down_queues (queues_of w) (forgets j) (rest ++ w.host.out) refl refl refl (alone w h b s.nothing_is_written reg value rest e ((writes_are w.ioc.door reg value s.nothing_holds.waits).resets r))

      by_effect : (f : Effect) → (register_written w.ioc.door reg value).effect ≡ f → is_fault (state_of (registers.after_effect j f).part) ≡ false → OnIoc (registers.after_effect j f).part (rest ++ w.host.out)
      by_effect effect.None y n = same_ahead j (rest ++ w.host.out) (line effect.None y) n l
      by_effect (effect.Asked count bytes) y n = same_ahead (registers.handshakes j (take count bytes)) (rest ++ w.host.out) (line (effect.Asked count bytes) y) n ((answer_leaves j (take count bytes)).waits ∙ l)
      by_effect effect.UnitReset y n = begins (subst Resets (sym y) tt)
      by_effect effect.AdapterReset y n = begins (subst Resets (sym y) tt)
      by_effect (effect.Fault code) y n = absurd (cc)

  passed : (x : Down) (rest : List Down) → w.down ≡ x ∷ rest → ((reg value : ℕ) → x ≡ down.Write reg value → ⊥) → written_ahead w.ioc (rest ++ w.host.out) ≡ A
  passed x rest e n = sym (ap (λ xs. written_ahead w.ioc (xs ++ w.host.out)) e ∙ ahead_pass w.ioc x (rest ++ w.host.out) n)

  by_leaf : (x : Down) (rest : List Down) (i : Ioc) → w.down ≡ x ∷ rest → Takes w.ioc x i → is_fault (state_of i) ≡ false → ((reg value : ℕ) → x ≡ down.Write reg value → ⊥) → OnIoc i (rest ++ w.host.out)
  by_leaf x rest i e (leaf.Faults y j f) n q = contrary _ n f
  by_leaf x rest i e (leaf.Written reg value j nr c sa) n q = absurd (q reg value refl)
  by_leaf x rest i e (leaf.Operates value j nr c d sa) n q = absurd (q _ value refl)
  by_leaf x rest i e (leaf.Forgets reg value d c) n q = absurd (q reg value refl)
  by_leaf x rest i e (leaf.Reads reg value) n q = alike_ioc i (rest ++ w.host.out) (record { door = refl; vectors = refl; queues = length-set w.ioc.up 0 _ }) (passed x rest e q)
  by_leaf x rest i e (leaf.Posts d f p j o sa) n q = alike_ioc i (rest ++ w.host.out) (record { door = ap (λ (y : Ioc). core y.door) sa; vectors = ap (λ (y : Ioc). y.vectors) sa; queues = ap (λ (y : Ioc). length y.up) sa }) (passed x rest e q)
  by_leaf x rest i e (leaf.DropsPost d f p o) n q = alike_ioc i (rest ++ w.host.out) (record { door = refl; vectors = refl; queues = refl }) (passed x rest e q)
  by_leaf x rest i e (leaf.Returns address index j o sa) n q = alike_ioc i (rest ++ w.host.out) (record { door = ap (λ (y : Ioc). core y.door) sa; vectors = ap (λ (y : Ioc). y.vectors) sa; queues = ap (λ (y : Ioc). length y.up) sa }) (passed x rest e q)
  by_leaf x rest i e (leaf.DropsReturn address index o) n q = alike_ioc i (rest ++ w.host.out) (record { door = refl; vectors = refl; queues = refl }) (passed x rest e q)
  by_leaf x rest i e leaf.Stops n q = alike_ioc i (rest ++ w.host.out) (record { door = refl; vectors = refl; queues = refl }) (passed x rest e q)

  taken : (x : Down) (rest : List Down) → w.down ≡ x ∷ rest → is_fault (state_of (adapter.takes_down w.ioc x).part) ≡ false → OnIoc (adapter.takes_down w.ioc x).part (rest ++ w.host.out)
  taken (down.Write reg value) rest e n = wrote reg value rest e n
  taken (down.Read reg) rest e n = by_leaf (down.Read reg) rest (adapter.takes_down w.ioc (down.Read reg)).part e (takes w.ioc s.nothing_holds.waits k.phase_table.whole (down.Read reg)) n (read_no_write reg)
  taken (down.Post d f p) rest e n = by_leaf (down.Post d f p) rest (adapter.takes_down w.ioc (down.Post d f p)).part e (takes w.ioc s.nothing_holds.waits k.phase_table.whole (down.Post d f p)) n (post_no_write d f p)
  taken (down.Return a i) rest e n = by_leaf (down.Return a i) rest (adapter.takes_down w.ioc (down.Return a i)).part e (takes w.ioc s.nothing_holds.waits k.phase_table.whole (down.Return a i)) n (return_no_write a i)
  taken down.Stop rest e n = by_leaf down.Stop rest (adapter.takes_down w.ioc down.Stop).part e (takes w.ioc s.nothing_holds.waits k.phase_table.whole down.Stop) n stop_no_write

  by_words : (test : Out → Bool) (i : Ioc) → IocSpeaks test w.ioc i → OnIoc i (down_line w)
  by_words test i g = alike_ioc i (down_line w) (record { door = ap core g.door_is; vectors = g.vectors_is; queues = g.queues_is }) refl

  linked : is_reset (state_of w.ioc) ≡ true → OnIoc (record w.ioc { door = linked_up w.ioc.door }) (down_line w)
  linked r =
      down_queues (queues_of w) (record w.ioc { door = linked_up w.ioc.door }) (down_line w) (ap is_operational (linked_is w.ioc.door s.nothing_holds.hold)) (ap is_fault (linked_is w.ioc.door s.nothing_holds.hold)) (waits w.ioc.door.hold_reset s.nothing_holds.hold)
      (s.nothing_is_written.reset (ap (λ c. c && is_reset (state_of w.ioc)) (k.phase_table.reset r) ∙ r))
    where
      waits : (c : Bool) → c ≡ false → (if true && not c then record (record w.ioc.door { reset_adapter = false; link_waits = true }) { state = ioc_state.Ready; link_waits = false } else record w.ioc.door { reset_adapter = false; link_waits = true }).link_waits ≡ false
      waits false e = refl
      waits true e = absurd (cc)

  told : (x : Back) (o : Happening Ioc) → News never_out w.ioc x o → OnIoc o.part (down_line w)
  told x o (SpeaksBack l g) = by_words never_out o.part g
  told x o (Unlinked n i z e) = subst (λ (y : Happening Ioc). OnIoc y.part (down_line w)) (sym e) here
  told x o (LinkedUp n i g r e) = subst (λ (y : Happening Ioc). OnIoc y.part (down_line w)) (sym e) (linked r)
  told x o (CalmTold i e) = subst (λ (y : Happening Ioc). OnIoc y.part (down_line w)) (sym e) (alike_ioc (say.says_on w.ioc 0 (said.Calm ∷ [])) (down_line w) (record { door = refl; vectors = refl; queues = length-set w.ioc.up 0 _ }) refl)

  -- ---- all cases

  abbrev OnWorld : World → Type 0
  OnWorld v = QueuesOf (queues_of v) v.ioc (down_line v)

  by_call : (y : Host) (t : Bool) → AtDoor w y t → QueuesOf (queues_of w) w.ioc (w.down ++ y.out)
  by_call y t g = record { now = here.now; ahead = by_host.host w h b s y t g }

  -- lanes keep their number
  resized : (queue : ℕ) (xs : List Up) (i : Ioc) (line : List Down) → QueuesOf (queues_of w) i line → QueuesOf (length (set w.up queue xs)) i line
  resized queue xs i line p = subst (λ n. QueuesOf n i line) (sym (length-set w.up queue xs)) p

  put : (x : Down) (rest : List Down) → w.host.out ≡ x ∷ rest → OnWorld (record w { host = after_sent w.host x rest; down = w.down ++ x ∷ [] })
  put x rest e = by_item x (append_assoc w.down (x ∷ []) rest ∙ ap (λ xs. w.down ++ xs) (sym e))
    where
      by_item : (y : Down) → (w.down ++ x ∷ []) ++ rest ≡ down_line w → QueuesOf (queues_of w) w.ioc ((w.down ++ x ∷ []) ++ (after_sent w.host y rest).out)
      by_item (down.Return address index) f = subst (QueuesOf (queues_of w) w.ioc) (sym f) here
      by_item (down.Write reg value) f = subst (QueuesOf (queues_of w) w.ioc) (sym f) here
      by_item (down.Read reg) f = subst (QueuesOf (queues_of w) w.ioc) (sym f) here
      by_item (down.Post d g q) f = subst (QueuesOf (queues_of w) w.ioc) (sym f) here
      by_item down.Stop f = subst (QueuesOf (queues_of w) w.ioc) (sym f) here

  abbrev Kept : World → Type 0
  Kept v = is_fault (state_of v.ioc) ≡ false → OnWorld v

  owes : Owes Kept w
  owes =
      record {
        host_puts = λ x rest e v. put x rest e;
        host_takes = λ queue x rest e y v. resized queue rest w.ioc (w.down ++ (Rattle.mpt_rules.specs.Host.Takes.hears_up w.host queue x).part.out) (by_call (Rattle.mpt_rules.specs.Host.Takes.hears_up w.host queue x).part (is_value (heard_of queue x)) (at.took w h b queue x rest e y));
        host_told = λ i t v. by_call (Rattle.mpt_rules.specs.World.Inputs.host_told w.host i).part false (at.told w h b i t);
        host_looks = λ e v. by_call (Rattle.mpt_rules.specs.Host.Takes.looks w.host) false (at.looked w h b e);
        host_stops = λ e v. by_call (Rattle.mpt_rules.specs.Host.Takes.stops w.host) false (at.stopped w h b);
        ioc_takes = λ x rest e v. taken x rest e v;
        ioc_high = λ p rest e v. by_words is_asked_out (ioc_step.works_on (record w.ioc { high = rest }) p).part (high_words w h b p rest);
        ioc_normal = λ p rest e v. by_words is_asked_out (ioc_step.works_on (record w.ioc { normal = rest }) p).part (normal_words w h b p rest);
        ioc_puts_out = λ x rest e v. alike_ioc (record w.ioc { out = rest }) (down_line w) (record { door = refl; vectors = refl; queues = refl }) refl;
        ioc_takes_back = λ x rest e v. told x (adapter.takes_back w.ioc x) (news never_out w.ioc x);
        ioc_puts = λ queue y rest z e g v. resized queue (up_on w queue ++ z ∷ []) (up_sent_on w.ioc queue) (down_line w) (alike_ioc (up_sent_on w.ioc queue) (down_line w) (record { door = refl; vectors = refl; queues = length-set w.ioc.up queue _ }) refl);
        fabric_takes = λ x rest e v. here;
        fabric_says = λ x rest e v. here;
        fabric_puts = λ x rest e v. here;
        fabric_runs = λ tag address e v. here;
        plugs = λ address expander phy v. here;
        unplugs = λ address v. here;
        calms = λ v. here;
      }

  after : (c : Case) → OnWorld (happens w c)
  after c = kept Kept w b.plain owes (λ v. here) c (whole_kept w h b.facts b.plain c)

  pub queues_kept : (c : Case) → QueuesAsked (happens w c)
  queues_kept c = record { now = (after c).now.vectors; ahead = (after c).ahead.vectors }

  -- and no FAULT is ahead
  pub whole_ahead : (c : Case) → is_fault (door_ahead (happens w c)).state ≡ false
  whole_ahead c = (after c).ahead.whole
