-- Each case keeps the words of a handshake, and its entries pass their rule.
use Rattle.std.proofs.Common.{◌≡◌, ℕ, zero, suc, ◌+◌, ◌-◌, ◌≤◌, ◌==◌, ◌&&◌, cond, not, Bool, true, false, nat_lt, if◌then◌else◌, List, [], ◌∷◌, ◌++◌, append-nil, append_assoc, get_or, length, length-set, map, slice_get, take, Option, Some, None, is_none, is_some, refl, ap, sym, ◌∙◌, subst, arith}
use Rattle.std.specs.FinMap as finmap
use Rattle.std.specs.FinSet as finset
use Rattle.std.proofs.lemmas.Bool.{eqb-true, lt-ltb}
use Rattle.mpi_doorbell.specs.DoorRegisters.{DoorRegisters, doorbell_value, is_fault, linked_up, register_value, register_written}
use Rattle.mpi_doorbell.specs.HostSteps.{diagnostic_reset, look_at_doorbell, unit_reset}
use Rattle.mpi_doorbell.specs.HostDoor.{HostDoor}
use Rattle.mpi_doorbell.specs.declared.effect.Effect.{Effect}
use Rattle.mpi_doorbell.specs.declared.effect.Effect.TheVariants as effect
use Rattle.mpi_doorbell.specs.declared.registers.TheConstants.{DOORBELL}
use Rattle.scsi_disk.specs.Command.{fits}
use Rattle.smid_pool.specs.Pool.{least_free}
use Rattle.smid_pool.specs.declared.class.Class.TheVariants as class
use Rattle.removal.specs.Handles.{ready_handle}
use Rattle.mpt_wire.specs.Machine.Causes.{is_resetting, is_up}
use Rattle.mpt_wire.specs.Messages.DoorbellWords.{Door, DoorAsks, IsTalk, Talk, door_next, is_over, value_heard, word_heard, written}
use Rattle.mpt_wire.specs.Walks.Passes.{EachEntry, Passes, state_after}
use Rattle.mpt_trace.specs.Command.{command_named}
use Rattle.mpt_trace.specs.declared.entry.Entry.{Entry}
use Rattle.mpt_trace.specs.declared.entry.Entry.TheVariants as entry
use Rattle.mpt_trace.specs.declared.host_state.HostState.{HostState}
use Rattle.mpt_trace.specs.declared.host_state.HostState.TheVariants as state
use Rattle.mpt_trace.specs.declared.input.Input.{Input}
use Rattle.mpt_trace.specs.declared.input.Input.TheVariants as input
use Rattle.mpt_trace.specs.declared.item.Back.{Back}
use Rattle.mpt_trace.specs.declared.item.Down.{Down}
use Rattle.mpt_trace.specs.declared.item.Down.TheVariants as down
use Rattle.mpt_trace.specs.declared.item.Item.TheVariants as item
use Rattle.mpt_trace.specs.declared.item.Out.{Out}
use Rattle.mpt_trace.specs.declared.item.Up.{Up}
use Rattle.mpt_trace.specs.declared.item.Up.TheVariants as upward
use Rattle.mpt_trace.specs.declared.lane.LaneName.TheVariants as lane
use Rattle.mpt_trace.specs.declared.refusal.RefusedCall.TheVariants as call
use Rattle.mpt_rules.specs.declared.said.Said.{Said}
use Rattle.mpt_rules.specs.declared.said.Said.TheVariants as said
use Rattle.mpt_rules.specs.declared.stage.Stage.{Stage}
use Rattle.mpt_rules.specs.declared.stage.Stage.TheVariants as stage
use Rattle.mpt_rules.specs.Host.Doorbell as door
use Rattle.mpt_rules.specs.Host.Doorbell.{is_reset_item}
use Rattle.mpt_rules.specs.Host.Inputs as inputs
use Rattle.mpt_rules.specs.Host.Parts.{Host}
use Rattle.mpt_rules.specs.Host.Resets as resets
use Rattle.mpt_rules.specs.Host.Returns.{after_sent}
use Rattle.mpt_rules.specs.Host.Strange.{why_strange}
use Rattle.mpt_rules.specs.Host.Takes.{hears_up, looks, stops}
use Rattle.mpt_rules.specs.Ioc.Parts.{Ioc, state_of}
use Rattle.mpt_rules.specs.Ioc.Registers as registers
use Rattle.mpt_rules.specs.Ioc.Replies as say
use Rattle.mpt_rules.specs.Ioc.Replies.{outbox_of}
use Rattle.mpt_rules.specs.Ioc.Resets.{forgets, next_generation}
use Rattle.mpt_rules.specs.Ioc.Sending.{up_of, up_sent_on}
use Rattle.mpt_rules.specs.Ioc.Steps as ioc_step
use Rattle.mpt_rules.specs.Ioc.Takes as adapter
use Rattle.mpt_rules.specs.Outcome.{Happening}
use Rattle.mpt_rules.specs.World.Cases.{Case, entries, happens}
use Rattle.mpt_rules.specs.World.Counts.{how_many, is_register_write, one_if, read_count, register_write_count, value_count}
use Rattle.mpt_rules.specs.World.Inputs.{by_option, host_told}
use Rattle.mpt_rules.specs.World.Lines.{down_line, said_of, up_line}
use Rattle.mpt_rules.specs.World.State.{World, queues_of, up_lane, up_on, with_up}
use Rattle.mpt_rules.specs.World.Weight.{is_read, is_said_value}
use Rattle.mpt_rules.proofs.Counts.{how_many-append}
use Rattle.law_facts.specs.Clock.{Clock, in_asked}
use Rattle.law_facts.specs.DoorAhead.{awaits, does_still, door_ahead, first_read, first_value, value_coming, waits_to_reset, written_ahead}
use Rattle.law_facts.specs.History.{History}
use Rattle.law_facts.specs.Ties.{SaidAt, or_put, talk_with}
use Rattle.law_facts.specs.Words.{is_reply}
use Rattle.law_flights.specs.Given.{Resets}
use Rattle.law_flights.proofs.Tables.{get_or-set_any}
use Rattle.law_moves.proofs.Cases.{IsHosts}
use Rattle.law_moves.proofs.CasesTold.{OwesTold, kept_told}
use Rattle.law_moves.proofs.Counted.{how_many-cons, how_many-nil, later, later-opened, none_passes}
use Rattle.law_moves.proofs.HostGoes.{heard_of, is_value, value_heard as value_up, value_is_due}
use Rattle.law_moves.proofs.HostSpeaks as speaks
use Rattle.law_moves.proofs.IocSpeaks.{CalmTold, IocSpeaks, LinkedUp, News, Speaks as SpeaksBack, Unlinked, is_asked_out, never_out, news}
use Rattle.law_moves.proofs.IocTakes as leaf
use Rattle.law_moves.proofs.IocTakes.{Takes, takes}
use Rattle.law_moves.proofs.IocWords.{back_words, works_words}
use Rattle.law_moves.proofs.Phases.{and_false, same_is}
use Rattle.law_moves.proofs.Registers.{writes_are}
use Rattle.law_moves.proofs.UpChanges as changes
use Rattle.law_clock.specs.Premises.{Before}
use Rattle.law_clock.proofs.PhaseKept.{asked_now, high_words, normal_words}
use Rattle.law_resets.proofs.ResettingKept.{Ends, GoesOn, TellsMode, begins_mode, rise_mode, tells_mode}
use Rattle.law_doors.proofs.Ahead.{ahead-write, core, quiet_ahead}
use Rattle.law_doors.proofs.Turning.{first_more, first_of_read, first_passed}
use Rattle.law_doors.proofs.Whole.{whole_kept}
use Rattle.law_starts.specs.Starts.{StartsStand}
use Rattle.law_starts.proofs.Alike.{DoorAlike, alike_ahead}
use Rattle.law_starts.proofs.HostAtDoor as at
use Rattle.law_starts.proofs.HostAtDoor.{AtDoor, contrary}
use Rattle.law_steps.proofs.Coming.{first_before, first_pass, first_put, first_said, no_first}
use Rattle.law_locks.specs.Locks.{HandshakesStand}
use Rattle.law_locks.proofs.UnitAsked.{looked_up, stopped_up, told_up, took_up}
use Rattle.law_talks.specs.Talking.{TalkGoesOn}
use Rattle.law_talks.proofs.Holding.{TalkHolds, TalkOn, given, waits_of}
use Rattle.law_talks.proofs.Mild.{IsMild, IsPlain, host_all, ioc_all, mild_abort, mild_submit, mild_target, passes_over, plain_case, state_stays}
use Rattle.law_talks.proofs.TalkHost as by_host
use Rattle.law_talks.proofs.TalkHost.{no_read_first, unwaited}
use Rattle.law_talks.proofs.Talking.{talk-write}

ahead_pass : (i : Ioc) (x : Down) (xs : List Down) → ((reg value : ℕ) → x ≡ down.Write reg value → ⊥) → written_ahead i (x ∷ xs) ≡ written_ahead i xs
unfolding written_ahead
ahead_pass i (down.Write reg value) xs n = absurd (n reg value refl)
ahead_pass i (down.Read reg) xs n = refl
ahead_pass i (down.Post d f p) xs n = refl
ahead_pass i (down.Return a m) xs n = refl
ahead_pass i down.Stop xs n = refl

reply_no_value : (x : Said) → is_reply x ≡ true → is_said_value x ≡ false
reply_no_value (said.Value v) e = absurd (cc)
reply_no_value (said.Success smid page sense) e = refl
reply_no_value (said.Framed smid frame page sense) e = refl
reply_no_value (said.Mark generation) e = refl
reply_no_value said.Calm e = refl

-- what a read gives depends on the registers without the index
given_core : (o : Option ℕ) (r s : DoorRegisters) → core r ≡ core s → given o r ≡ given o s
given_core None r s e = ap (λ (c : DoorRegisters). doorbell_value c) e
given_core (Some v) r s e = refl

-- the front of a list
first_one : (reg : ℕ) (xs : List Down) → first_read (down.Read reg ∷ xs) ≡ Some reg
unfolding first_read
first_one reg xs = refl

first_other : (x : Down) (xs : List Down) → is_read x ≡ false → first_read (x ∷ xs) ≡ first_read xs
first_other x xs e = first_passed x xs e

talk_pass : (t : Talk) (x : Down) (xs : List Down) → ((reg value : ℕ) → x ≡ down.Write reg value → ⊥) → talk_with t (x ∷ xs) ≡ talk_with t xs
unfolding talk_with
talk_pass t (down.Write reg value) xs n = absurd (n reg value refl)
talk_pass t (down.Read reg) xs n = refl
talk_pass t (down.Post d f p) xs n = refl
talk_pass t (down.Return a m) xs n = refl
talk_pass t down.Stop xs n = refl

module _ (w : World) (h : History) (b : Before w h) (s : StartsStand w) (l : HandshakesStand w) (c : Case)
    (t : TalkOn (queues_of w) w h.door.talk h.door.reading h.door.asked) (known : (reg : ℕ) → first_read w.down ≡ Some reg → h.door.reading ≡ Some reg) where
  k : Clock w h
  k = b.facts.clock

  pub record TalkGoes (v : World) (es : List Entry) : Type 0 where
    pub holds : TalkOn (queues_of w) v (state_after door_next h.door es).talk (state_after door_next h.door es).reading (state_after door_next h.door es).asked
    pub knows : (reg : ℕ) → first_read v.down ≡ Some reg → (state_after door_next h.door es).reading ≡ Some reg
    pub passes : Passes door_next (DoorAsks (queues_of w)) h.door es

  abbrev On : World → Door → Type 0
  On v g = TalkOn (queues_of w) v g.talk g.reading g.asked

  abbrev Known : World → Door → Type 0
  Known v g = (reg : ℕ) → first_read v.down ≡ Some reg → g.reading ≡ Some reg

  -- ---- entries

  told : (v : World) (es : List Entry) → EachEntry IsMild es → On v h.door → Known v h.door → TalkGoes v es
  told v es q o n =
      let e : state_after door_next h.door es ≡ h.door = ap (state_after door_next h.door) (sym (append-nil es)) ∙ state_stays h.door es [] q in
      record {
        holds = subst (On v) (sym e) o;
        knows = subst (Known v) (sym e) n;
        passes = subst (Passes door_next (DoorAsks (queues_of w)) h.door) (append-nil es) (passes_over (queues_of w) h.door es [] q t.begun tt);
      }

  behind : (v : World) (e : Entry) (g : Door) (es : List Entry) → DoorAsks (queues_of w) h.door e → door_next h.door e ≡ g → EachEntry IsMild es → On v g → Known v g → TalkGoes v (e ∷ es)
  behind v e g es free is q o n =
      let f : state_after door_next h.door (e ∷ es) ≡ g = ap (λ y. state_after door_next y es) is ∙ (ap (state_after door_next g) (sym (append-nil es)) ∙ state_stays g es [] q) in
      record {
        holds = subst (On v) (sym f) o;
        knows = subst (Known v) (sym f) n;
        passes = (free, subst (λ y. Passes door_next (DoorAsks (queues_of w)) y es) (sym is) (subst (Passes door_next (DoorAsks (queues_of w)) g) (append-nil es) (passes_over (queues_of w) g es [] q (subst (λ (y : Door). IsTalk (queues_of w) y.talk) is free.1) tt)));
      }

  -- ---- the controller: the host stays, and what a reset that waits will read

  regen : (g v : ℕ) → g ≡ w.ioc.generation → (waits_to_reset w ≡ true → IsTalk (queues_of w) (value_heard (talk_with h.door.talk w.host.out) (or_put (first_read w.host.out) h.door.reading) v)) → TalkHolds (queues_of w) w.host g v h.door.talk h.door.reading h.door.asked
  regen g v e late =
      subst (λ n. TalkHolds (queues_of w) w.host n v h.door.talk h.door.reading h.door.asked) (sym e)
      (record { reads = t.reads; register = t.register; begun = t.begun; said = t.said; over = t.over; late = late; unit = t.unit; asked = t.asked; none_asked = t.none_asked; go_on = t.go_on; quiet = t.quiet })

  same_bell : (g v : ℕ) → g ≡ w.ioc.generation → v ≡ given (value_coming w) (door_ahead w) → TalkHolds (queues_of w) w.host g v h.door.talk h.door.reading h.door.asked
  same_bell g v e f = regen g v e (λ u. subst (λ n. IsTalk (queues_of w) (value_heard (talk_with h.door.talk w.host.out) (or_put (first_read w.host.out) h.door.reading) n)) (sym f) (t.late u))

  abbrev Of : Ioc → Option ℕ
  Of i = first_value (map said_of (up_on w 0) ++ get_or i.up 0 [])

  abbrev OnIoc : Ioc → List Down → Type 0
  OnIoc i line = TalkHolds (queues_of w) w.host i.generation (given (Of i) (written_ahead i line).door) h.door.talk h.door.reading h.door.asked

  as_before : (i : Ioc) (line : List Down) → i.generation ≡ w.ioc.generation → core (written_ahead i line).door ≡ core (door_ahead w) → Of i ≡ value_coming w → OnIoc i line
  as_before i line g e f = same_bell i.generation (given (Of i) (written_ahead i line).door) g (ap (λ o. given o (written_ahead i line).door) f ∙ given_core (value_coming w) (written_ahead i line).door (door_ahead w) e)

  -- without a reset that waits
  unwaiting : (i : Ioc) (line : List Down) → i.generation ≡ w.ioc.generation → waits_to_reset w ≡ false → OnIoc i line
  unwaiting i line g n = regen i.generation (given (Of i) (written_ahead i line).door) g (λ u. contrary (waits_to_reset w) n u)

  alike : (i : Ioc) (line : List Down) → i.generation ≡ w.ioc.generation → DoorAlike i w.ioc → written_ahead w.ioc line ≡ written_ahead w.ioc (down_line w) → Of i ≡ value_coming w → OnIoc i line
  alike i line g a e f = as_before i line g ((alike_ahead i w.ioc line a).door ∙ ap (λ (y : Ioc). core y.door) e) f

  same_door : (i : Ioc) → i.door ≡ w.ioc.door → i.vectors ≡ w.ioc.vectors → length i.up ≡ length w.ioc.up → DoorAlike i w.ioc
  same_door i d v u = record { door = ap core d; vectors = v; queues = u }

  passed : (x : Down) (rest : List Down) → w.down ≡ x ∷ rest → ((reg value : ℕ) → x ≡ down.Write reg value → ⊥) → written_ahead w.ioc (rest ++ w.host.out) ≡ written_ahead w.ioc (down_line w)
  passed x rest e n = sym (ap (λ xs. written_ahead w.ioc (xs ++ w.host.out)) e ∙ ahead_pass w.ioc x (rest ++ w.host.out) n)

  -- what stays on the lane
  unread_known : (x : Down) (rest : List Down) → w.down ≡ x ∷ rest → is_read x ≡ false → (reg : ℕ) → first_read rest ≡ Some reg → h.door.reading ≡ Some reg
  unread_known x rest e n reg f = known reg (ap first_read e ∙ (first_other x rest n ∙ f))

  -- ---- a write

  module _ (reg value : ℕ) (rest : List Down) (e : w.down ≡ down.Write reg value ∷ rest) where
    line : (f : Effect) → (register_written w.ioc.door reg value).effect ≡ f → written_ahead (does_still (record w.ioc { door = (register_written w.ioc.door reg value).registers }) f) (rest ++ w.host.out) ≡ written_ahead w.ioc (down_line w)
    line f y =
        sym (ap (λ xs. written_ahead w.ioc (xs ++ w.host.out)) e ∙ (ahead-write w.ioc reg value (rest ++ w.host.out) ∙ ap (λ g. written_ahead (does_still (record w.ioc { door = (register_written w.ioc.door reg value).registers }) g) (rest ++ w.host.out)) y))

    -- a reset begins, so that the host waits for no older value, and has a machine
    begins : Resets (register_written w.ioc.door reg value).effect → OnIoc (forgets (record w.ioc { door = (register_written w.ioc.door reg value).registers })) (rest ++ w.host.out)
    begins r =
        record {
          reads = t.reads;
          register = t.register;
          begun = t.begun;
          said = t.said;
          over = λ f u. t.over f unwaited_now;
          late = λ u. contrary _ unwaited_then u;
          unit = λ u n. contrary _ unwaited_then u;
          asked = t.asked;
          none_asked = t.none_asked;
          go_on = t.go_on;
          quiet = λ n u. absurd (by_reading n w.host.reading refl);
        }
      where
        now : (in_asked w && not w.host.returning) ≡ true
        now = asked_now w h b (down.Write reg value) rest e ((writes_are w.ioc.door reg value s.nothing_holds.waits).resets r)

        asked_is : in_asked w ≡ true
        asked_is = (and_false (in_asked w) (not w.host.returning) now).0

        not_returning : w.host.returning ≡ false
        not_returning = by_bool w.host.returning (and_false (in_asked w) (not w.host.returning) now).1
          where
            by_bool : (c : Bool) → not c ≡ true → c ≡ false
            by_bool false e = refl
            by_bool true e = absurd (cc)

        unwaited_now : waits_to_reset w ≡ false
        unwaited_now = by_waits (waits_to_reset w) refl
          where
            by_waits : (c : Bool) → waits_to_reset w ≡ c → c ≡ false
            by_waits false u = refl
            by_waits true u = contrary w.host.returning not_returning (b.facts.doorbell.reset_steps.late u)

        unwaited_then : waits_of w.host (next_generation w.ioc) ≡ false
        unwaited_then =
            let a = k.phase_table.ahead asked_is in
            ap (λ n. (is_resetting w.host.mode && not (n == next_generation w.ioc)) && (w.host.reading && is_none w.host.machine)) a
            ∙ (ap (λ q. (is_resetting w.host.mode && not q) && (w.host.reading && is_none w.host.machine)) (same_is (next_generation w.ioc)) ∙ none_left (is_resetting w.host.mode) (w.host.reading && is_none w.host.machine))
          where
            none_left : (a c : Bool) → ((a && false) && c) ≡ false
            none_left true c = refl
            none_left false c = refl

        by_reading : w.host.machine ≡ None → (q : Bool) → w.host.reading ≡ q → ⊥
        by_reading n true r = contrary _ unwaited_now (ap (λ q. q && (w.host.reading && is_none w.host.machine)) asked_is ∙ (ap (λ q. q && is_none w.host.machine) r ∙ ap is_none n))
        by_reading n false r =
            let d = b.facts.doorbell.stage.goes_on (and_false _ _ asked_is).0 n unwaited_now in
            let y = (k.value_is_last.ready d).linked in
            both (is_resetting w.host.mode) (w.host.asked == w.ioc.generation) asked_is (and_false _ _ y).0
          where
            both : (a c : Bool) → (a && not c) ≡ true → (a && c) ≡ true → ⊥
            both true true e f = absurd (cc)
            both true false e f = absurd (cc)
            both false c e f = absurd (cc)

    wrote : is_fault (state_of (adapter.takes_down w.ioc (down.Write reg value)).part) ≡ false → TalkGoes (record w { ioc = (adapter.takes_down w.ioc (down.Write reg value)).part; down = rest }) (entry.Take lane.Down (item.Down (down.Write reg value)) ∷ (adapter.takes_down w.ioc (down.Write reg value)).entries)
    wrote n = by_effect (register_written w.ioc.door reg value).effect refl n
      where
        left : (r : ℕ) → first_read rest ≡ Some r → h.door.reading ≡ Some r
        left = unread_known (down.Write reg value) rest e refl

        by_effect : (f : Effect) → (register_written w.ioc.door reg value).effect ≡ f → is_fault (state_of (registers.after_effect (record w.ioc { door = (register_written w.ioc.door reg value).registers }) f).part) ≡ false
            → TalkGoes (record w { ioc = (registers.after_effect (record w.ioc { door = (register_written w.ioc.door reg value).registers }) f).part; down = rest }) (entry.Take lane.Down (item.Down (down.Write reg value)) ∷ (registers.after_effect (record w.ioc { door = (register_written w.ioc.door reg value).registers }) f).entries)
        by_effect effect.None y z = behind _ _ h.door [] (tt, t.begun) refl tt (as_before (record w.ioc { door = (register_written w.ioc.door reg value).registers }) (rest ++ w.host.out) refl (ap (λ (i : Ioc). core i.door) (line effect.None y)) refl) left
        by_effect (effect.Asked count bytes) y z =
            behind _ _ h.door [] (tt, t.begun) refl tt (by_answer (registers.handshakes (record w.ioc { door = (register_written w.ioc.door reg value).registers }) (take count bytes)) (leaf.shook (record w.ioc { door = (register_written w.ioc.door reg value).registers }) (take count bytes)) (ap (λ (i : Ioc). core i.door) (line (effect.Asked count bytes) y))) left
          where
            by_answer : (i : Ioc) → leaf.Shook (record w.ioc { door = (register_written w.ioc.door reg value).registers }) i → core (written_ahead i (rest ++ w.host.out)).door ≡ core (written_ahead w.ioc (down_line w)).door → OnIoc i (rest ++ w.host.out)
            by_answer i (leaf.Stays a q) g = as_before i (rest ++ w.host.out) (ap (λ (y : Ioc). y.generation) q) g (ap (λ (y : Ioc). first_value (map said_of (up_on w 0) ++ get_or y.up 0 [])) q)
            by_answer i (leaf.ComesUp r a q) g = as_before i (rest ++ w.host.out) (ap (λ (y : Ioc). y.generation) q) g (ap (λ (y : Ioc). first_value (map said_of (up_on w 0) ++ get_or y.up 0 [])) q)
        by_effect effect.UnitReset y z = behind _ _ h.door (entry.UnbindAll ∷ []) (tt, t.begun) refl (tt, tt) (begins (subst Resets (sym y) tt)) left
        by_effect effect.AdapterReset y z = behind _ _ h.door (entry.UnbindAll ∷ []) (tt, t.begun) refl (tt, tt) (begins (subst Resets (sym y) tt)) left
        by_effect (effect.Fault code) y z = absurd (cc)

  -- ---- a read

  module _ (reg : ℕ) (rest : List Down) (e : w.down ≡ down.Read reg ∷ rest) where
    line_is : down_line w ≡ down.Read reg ∷ (rest ++ w.host.out)
    line_is = ap (λ xs. xs ++ w.host.out) e

    no_values : how_many is_said_value (up_line w 0) ≡ 0
    unfolding read_count value_count
    no_values =
        let o = k.one_read.one in let r = at_most w.host.reading in let a = ap (how_many is_read) line_is in let d = how_many-cons is_read (down.Read reg) (rest ++ w.host.out) in
        omega (arith, o, r, a, d)
      where
        at_most : (c : Bool) → one_if c ≤ 1
        at_most true = omega arith
        at_most false = omega arith

    no_more : how_many is_read (rest ++ w.host.out) ≡ 0
    unfolding read_count value_count
    no_more =
        let o = k.one_read.one in let r = at_most w.host.reading in let a = ap (how_many is_read) line_is in let d = how_many-cons is_read (down.Read reg) (rest ++ w.host.out) in
        omega (arith, o, r, a, d)
      where
        at_most : (c : Bool) → one_if c ≤ 1
        at_most true = omega arith
        at_most false = omega arith

    quiet : how_many is_register_write (down_line w) ≡ 0
    unfolding later register_write_count
    quiet =
        let z = later-opened is_read is_register_write (down.Read reg) (rest ++ w.host.out) refl (sym (ap (later is_read is_register_write) line_is) ∙ k.writes_before_read.before) in
        let a = ap (how_many is_register_write) line_is in let d = how_many-cons is_register_write (down.Read reg) (rest ++ w.host.out) in omega (arith, z, a, d)

    -- the value is the one that is read
    comes : Of (say.says_on w.ioc 0 (said.Value (register_value w.ioc.door reg) ∷ [])) ≡ Some (register_value w.ioc.door reg)
    comes =
        ap first_value line_now ∙ first_said (up_line w 0) (register_value w.ioc.door reg) no_values
      where
        some_queue : nat_lt 0 (length w.ioc.up) ≡ true
        some_queue = let z = b.facts.flights.sizes.some_queue in let o = b.facts.flights.sizes.outboxes in lt-ltb 0 (length w.ioc.up) (omega (arith, z, o))

        line_now : map said_of (up_on w 0) ++ get_or (say.says_on w.ioc 0 (said.Value (register_value w.ioc.door reg) ∷ [])).up 0 [] ≡ up_line w 0 ++ said.Value (register_value w.ioc.door reg) ∷ []
        line_now =
            ap (λ ys. map said_of (up_on w 0) ++ ys) (get_or-set_any w.ioc.up 0 0 (outbox_of w.ioc 0 ++ said.Value (register_value w.ioc.door reg) ∷ []) [] ∙ ap (λ a. cond a (outbox_of w.ioc 0 ++ said.Value (register_value w.ioc.door reg) ∷ []) (get_or w.ioc.up 0 [])) some_queue)
            ∙ sym (append_assoc (map said_of (up_on w 0)) (outbox_of w.ioc 0) (said.Value (register_value w.ioc.door reg) ∷ []))

    reading_is : h.door.reading ≡ Some reg
    reading_is = known reg (ap first_read e ∙ first_one reg rest)

    awaited : or_put (first_read w.host.out) h.door.reading ≡ Some reg
    awaited = let a = how_many-append is_read rest w.host.out in let n = no_more in ap (λ o. or_put o h.door.reading) (no_read_first w.host.out (omega (arith, a, n))) ∙ reading_is

    -- what a reset that waits will read is what it would have read
    late : (i : Ioc) → Of i ≡ Some (register_value w.ioc.door reg) → waits_to_reset w ≡ true → IsTalk (queues_of w) (value_heard (talk_with h.door.talk w.host.out) (or_put (first_read w.host.out) h.door.reading) (given (Of i) (written_ahead i (rest ++ w.host.out)).door))
    late i f u =
        subst (λ o. IsTalk (queues_of w) (value_heard (talk_with h.door.talk w.host.out) (or_put (first_read w.host.out) h.door.reading) (given o (written_ahead i (rest ++ w.host.out)).door))) (sym f)
        (subst (λ r. IsTalk (queues_of w) (value_heard (talk_with h.door.talk w.host.out) r (register_value w.ioc.door reg))) (sym awaited)
        (subst (IsTalk (queues_of w)) (by_test (reg == DOORBELL) refl) old))
      where
        old : IsTalk (queues_of w) (value_heard (talk_with h.door.talk w.host.out) (Some reg) (doorbell_value w.ioc.door))
        old =
            subst (λ n. IsTalk (queues_of w) (value_heard (talk_with h.door.talk w.host.out) (Some reg) n)) (ap (λ o. given o (door_ahead w)) (no_first (up_line w 0) no_values) ∙ given_core None (door_ahead w) w.ioc.door (quiet_ahead w.ioc (down_line w) quiet))
            (subst (λ r. IsTalk (queues_of w) (value_heard (talk_with h.door.talk w.host.out) r (given (value_coming w) (door_ahead w)))) awaited (t.late u))

        by_test : (a : Bool) → (reg == DOORBELL) ≡ a → (let x : Talk = if a then word_heard (talk_with h.door.talk w.host.out) (doorbell_value w.ioc.door) else talk_with h.door.talk w.host.out in let y : Talk = if a then word_heard (talk_with h.door.talk w.host.out) (register_value w.ioc.door reg) else talk_with h.door.talk w.host.out in x ≡ y)
        by_test true q = ap (λ n. word_heard (talk_with h.door.talk w.host.out) (register_value w.ioc.door n)) (sym (eqb-true reg DOORBELL q))
        by_test false q = refl

    reads : TalkGoes (record w { ioc = (adapter.takes_down w.ioc (down.Read reg)).part; down = rest }) (entry.Take lane.Down (item.Down (down.Read reg)) ∷ [])
    reads =
        behind _ _ h.door [] (tt, t.begun) refl tt
        (regen w.ioc.generation (given (Of (say.says_on w.ioc 0 (said.Value (register_value w.ioc.door reg) ∷ []))) (written_ahead (say.says_on w.ioc 0 (said.Value (register_value w.ioc.door reg) ∷ [])) (rest ++ w.host.out)).door) refl (late (say.says_on w.ioc 0 (said.Value (register_value w.ioc.door reg) ∷ [])) comes))
        (λ r f. absurd (none r f))
      where
        no_some : (r : ℕ) → None ≡ Some r → ⊥
        no_some r e = cc

        none : (r : ℕ) → first_read rest ≡ Some r → ⊥
        none r f = let a = how_many-append is_read rest w.host.out in let n = no_more in no_some r (sym (no_read_first rest (omega (arith, a, n))) ∙ f)

  -- ---- other items of the host

  stays : (x : Down) (rest : List Down) (i : Ioc) → w.down ≡ x ∷ rest → ((reg value : ℕ) → x ≡ down.Write reg value → ⊥) → i.generation ≡ w.ioc.generation → i.door ≡ w.ioc.door → i.vectors ≡ w.ioc.vectors → i.up ≡ w.ioc.up → OnIoc i (rest ++ w.host.out)
  stays x rest i e q g d v u = alike i (rest ++ w.host.out) g (same_door i d v (ap length u)) (passed x rest e q) (ap (λ (y : List (List Said)). first_value (map said_of (up_on w 0) ++ get_or y 0 [])) u)

  by_leaf : (x : Down) (rest : List Down) (i : Ioc) → w.down ≡ x ∷ rest → Takes w.ioc x i → is_fault (state_of i) ≡ false → ((reg value : ℕ) → x ≡ down.Write reg value → ⊥) → ((reg : ℕ) → x ≡ down.Read reg → ⊥) → OnIoc i (rest ++ w.host.out)
  by_leaf x rest i e (leaf.Faults y j f) n q r = contrary _ n f
  by_leaf x rest i e (leaf.Written reg value j nr c sa) n q r = absurd (q reg value refl)
  by_leaf x rest i e (leaf.Operates value j nr c d sa) n q r = absurd (q _ value refl)
  by_leaf x rest i e (leaf.Forgets reg value d c) n q r = absurd (q reg value refl)
  by_leaf x rest i e (leaf.Reads reg value) n q r = absurd (r reg refl)
  by_leaf x rest i e (leaf.Posts d f p j o sa) n q r = stays x rest i e q (ap (λ (y : Ioc). y.generation) sa) (ap (λ (y : Ioc). y.door) sa) (ap (λ (y : Ioc). y.vectors) sa) (ap (λ (y : Ioc). y.up) sa)
  by_leaf x rest i e (leaf.DropsPost d f p o) n q r = stays x rest w.ioc e q refl refl refl refl
  by_leaf x rest i e (leaf.Returns address index j o sa) n q r = stays x rest i e q (ap (λ (y : Ioc). y.generation) sa) (ap (λ (y : Ioc). y.door) sa) (ap (λ (y : Ioc). y.vectors) sa) (ap (λ (y : Ioc). y.up) sa)
  by_leaf x rest i e (leaf.DropsReturn address index o) n q r = stays x rest w.ioc e q refl refl refl refl
  by_leaf x rest i e leaf.Stops n q r = stays x rest i e q refl refl refl refl

  taken : (x : Down) (rest : List Down) → w.down ≡ x ∷ rest → is_fault (state_of (adapter.takes_down w.ioc x).part) ≡ false → TalkGoes (record w { ioc = (adapter.takes_down w.ioc x).part; down = rest }) (entry.Take lane.Down (item.Down x) ∷ (adapter.takes_down w.ioc x).entries)
  taken (down.Write reg value) rest e n = wrote reg value rest e n
  taken (down.Read reg) rest e n = reads reg rest e
  taken (down.Post d f p) rest e n =
      behind _ _ h.door [] (tt, t.begun) refl tt (by_leaf (down.Post d f p) rest (adapter.takes_down w.ioc (down.Post d f p)).part e (takes w.ioc s.nothing_holds.waits k.phase_table.whole (down.Post d f p)) n (at.post_no_write d f p) (post_no_read d f p)) (unread_known (down.Post d f p) rest e refl)
    where
      post_no_read : (d : ℕ) (f p : List ℕ) (reg : ℕ) → down.Post d f p ≡ down.Read reg → ⊥
      post_no_read d f p reg e = cc
  taken (down.Return address index) rest e n =
      behind _ _ h.door [] (tt, t.begun) refl tt (by_leaf (down.Return address index) rest (adapter.takes_down w.ioc (down.Return address index)).part e (takes w.ioc s.nothing_holds.waits k.phase_table.whole (down.Return address index)) n (at.return_no_write address index) (return_no_read address index))
      (unread_known (down.Return address index) rest e refl)
    where
      return_no_read : (a i reg : ℕ) → down.Return a i ≡ down.Read reg → ⊥
      return_no_read a i reg e = cc
  taken down.Stop rest e n = behind _ _ h.door [] (tt, t.begun) refl tt (by_leaf down.Stop rest (adapter.takes_down w.ioc down.Stop).part e (takes w.ioc s.nothing_holds.waits k.phase_table.whole down.Stop) n at.stop_no_write stop_no_read) (unread_known down.Stop rest e refl)
    where
      stop_no_read : (reg : ℕ) → down.Stop ≡ down.Read reg → ⊥
      stop_no_read reg e = cc

  -- ---- what the controller does by itself

  by_words : (test : Out → Bool) (i : Ioc) → IocSpeaks test w.ioc i → OnIoc i (down_line w)
  by_words test i g =
      let q = g.says 0 in
      let n = none_passes is_reply is_said_value reply_no_value q.added q.mild in
      alike i (down_line w) g.generation_is (same_door i g.door_is g.vectors_is g.queues_is) refl
      (ap (λ ys. first_value (map said_of (up_on w 0) ++ ys)) q.is ∙ (ap first_value (sym (append_assoc (map said_of (up_on w 0)) (get_or w.ioc.up 0 []) q.added)) ∙ first_before (up_line w 0) q.added n))

  here : OnIoc w.ioc (down_line w)
  here = t

  told_back : (x : Back) (o : Happening Ioc) → News never_out w.ioc x o → OnIoc o.part (down_line w)
  told_back x o (SpeaksBack n g) = by_words never_out o.part g
  told_back x o (Unlinked n i z e) = subst (λ (y : Happening Ioc). OnIoc y.part (down_line w)) (sym e) here
  told_back x o (LinkedUp n i g r e) =
      subst (λ (y : Happening Ioc). OnIoc y.part (down_line w)) (sym e)
      (unwaiting (record w.ioc { door = linked_up w.ioc.door }) (down_line w) refl (not_begun (is_resetting w.host.mode) (w.host.asked == w.ioc.generation) (w.host.reading && is_none w.host.machine) (k.phase_table.reset r)))
    where
      not_begun : (a c d : Bool) → (a && c) ≡ true → ((a && not c) && d) ≡ false
      not_begun true true d e = refl
      not_begun true false d e = absurd (cc)
      not_begun false c d e = absurd (cc)
  told_back x o (CalmTold i e) =
      subst (λ (y : Happening Ioc). OnIoc y.part (down_line w)) (sym e)
      (alike (say.says_on w.ioc 0 (said.Calm ∷ [])) (down_line w) refl (same_door (say.says_on w.ioc 0 (said.Calm ∷ [])) refl refl (length-set w.ioc.up 0 _)) refl
      (changes.said_of_more w.up w.ioc.up 0 0 (λ xs. first_value xs ≡ value_coming w) (said.Calm ∷ []) (λ xs f. first_before xs (said.Calm ∷ []) calm_none ∙ f) refl))
    where
      calm_none : how_many is_said_value (said.Calm ∷ []) ≡ 0
      calm_none = let d = how_many-cons is_said_value said.Calm [] in let n = how_many-nil {X = Said} is_said_value in omega (arith, d, n)

  put_up : (queue : ℕ) (y : Said) (rest : List Said) (z : Up) → outbox_of w.ioc queue ≡ y ∷ rest → up_of y (slice_get w.ioc.ring 0) ≡ Some z → On (with_up (record w { ioc = up_sent_on w.ioc queue }) queue (up_on w queue ++ z ∷ [])) h.door
  put_up queue y rest z e g =
      same_bell w.ioc.generation (given (value_coming (with_up (record w { ioc = up_sent_on w.ioc queue }) queue (up_on w queue ++ z ∷ []))) (written_ahead (up_sent_on w.ioc queue) (down_line w)).door) refl
      (ap (λ o. given o (written_ahead (up_sent_on w.ioc queue) (down_line w)).door) q ∙ given_core (value_coming w) (written_ahead (up_sent_on w.ioc queue) (down_line w)).door (door_ahead w) (alike_ahead (up_sent_on w.ioc queue) w.ioc (down_line w) (same_door (up_sent_on w.ioc queue) refl refl (length-set w.ioc.up queue _))).door)
    where
      q : value_coming (with_up (record w { ioc = up_sent_on w.ioc queue }) queue (up_on w queue ++ z ∷ [])) ≡ value_coming w
      q = changes.put_of w.up w.ioc.up queue 0 (λ xs. first_value xs ≡ value_coming w) y rest z e (b.facts.flights.sizes.lanes ∙ sym b.facts.flights.sizes.outboxes) (λ xs ys f. sym (first_put y (slice_get w.ioc.ring 0) z g xs ys) ∙ f) refl

  up_put : (queue : ℕ) (z : Up) → (DoorAsks (queues_of w) h.door (entry.Put (up_lane queue) (item.Up z))) × (door_next h.door (entry.Put (up_lane queue) (item.Up z)) ≡ h.door)
  up_put zero z = ((tt, t.begun), refl)
  up_put (suc queue) z = ((tt, t.begun), refl)

  -- ---- the host puts

  module _ (x : Down) (rest : List Down) (e : w.host.out ≡ x ∷ rest) where
    line_same : (w.down ++ x ∷ []) ++ rest ≡ down_line w
    line_same = append_assoc w.down (x ∷ []) rest ∙ ap (λ xs. w.down ++ xs) (sym e)

    bell : given (value_coming w) (written_ahead w.ioc ((w.down ++ x ∷ []) ++ rest)).door ≡ given (value_coming w) (door_ahead w)
    bell = ap (λ xs. given (value_coming w) (written_ahead w.ioc xs).door) line_same

    moved : (c : Talk) (r : Option ℕ) → talk_with c rest ≡ talk_with h.door.talk w.host.out → or_put (first_read rest) r ≡ or_put (first_read w.host.out) h.door.reading → (w.host.reading ≡ true → read_count rest ≡ 0 → is_some r ≡ true) → IsTalk (queues_of w) c → TalkGoesOn (queues_of w) h.door.asked c rest
        → TalkHolds (queues_of w) (record w.host { out = rest }) w.ioc.generation (given (value_coming w) (written_ahead w.ioc ((w.down ++ x ∷ []) ++ rest)).door) c r h.door.asked
    moved c r same read reads talk goes =
        record {
          reads = reads;
          register = λ d f. read ∙ t.register d f;
          begun = talk;
          said = λ d a f g. subst (λ y. SaidAt a d y (awaits d.stage)) (sym same) (t.said d a f g);
          over = λ f u. ap is_over same ∙ t.over f u;
          late = λ u. subst (λ n. IsTalk (queues_of w) (value_heard (talk_with c rest) (or_put (first_read rest) r) n)) (sym bell) (subst (λ y. IsTalk (queues_of w) (value_heard y (or_put (first_read rest) r) (given (value_coming w) (door_ahead w)))) (sym same) (subst (λ y. IsTalk (queues_of w) (value_heard (talk_with h.door.talk w.host.out) y (given (value_coming w) (door_ahead w)))) (sym read) (t.late u)));
          unit = λ u n. ap is_over same ∙ t.unit u n;
          asked = t.asked;
          none_asked = t.none_asked;
          go_on = goes;
          quiet = λ n u. let z = t.quiet n u in let a = ap (how_many is_register_write) e in let d = how_many-cons is_register_write x rest in omega (arith, z, a, d);
        }

  count_read : (xs : List Down) → read_count xs ≡ how_many is_read xs
  unfolding read_count
  count_read xs = refl

  -- an item that is neither a write nor a read
  plain_put : (x : Down) (rest : List Down) → w.host.out ≡ x ∷ rest → is_read x ≡ false → ((reg value : ℕ) → x ≡ down.Write reg value → ⊥) → TalkGoesOn (queues_of w) h.door.asked h.door.talk rest → TalkHolds (queues_of w) (record w.host { out = rest }) w.ioc.generation (given (value_coming w) (written_ahead w.ioc ((w.down ++ x ∷ []) ++ rest)).door) h.door.talk h.door.reading h.door.asked
  plain_put x rest e n q goes =
      moved x rest e h.door.talk h.door.reading (sym (ap (talk_with h.door.talk) e ∙ talk_pass h.door.talk x rest q)) (ap (λ o. or_put o h.door.reading) (sym (ap first_read e ∙ first_other x rest n)))
      (λ r z. t.reads r (let a = count_read w.host.out in let c2 = count_read rest in let d = ap (how_many is_read) e in let f = how_many-cons is_read x rest in let o : one_if (is_read x) ≡ 0 = ap one_if n in omega (arith, a, c2, d, f, o, z))) t.begun goes

  -- one more item on the lane
  more_known : (x : Down) (g : Option ℕ) → is_read x ≡ false → g ≡ h.door.reading → (reg : ℕ) → first_read (w.down ++ x ∷ []) ≡ Some reg → g ≡ Some reg
  more_known x g n e reg f =
      let d = how_many-cons is_read x [] in let z = how_many-nil {X = Down} is_read in let o : one_if (is_read x) ≡ 0 = ap one_if n in
      e ∙ known reg (sym (first_more w.down (x ∷ []) (omega (arith, d, z, o))) ∙ f)

  host_put : (x : Down) (rest : List Down) → w.host.out ≡ x ∷ rest → TalkGoes (record w { host = after_sent w.host x rest; down = w.down ++ x ∷ [] }) (entry.Put lane.Down (item.Down x) ∷ [])
  unfolding read_count value_count
  host_put (down.Write reg value) rest e =
      let g = subst (TalkGoesOn (queues_of w) h.door.asked h.door.talk) e t.go_on in
      behind _ _ (record h.door { talk = written h.door.talk reg value }) [] (g.0, g.1.0) refl tt
      (moved (down.Write reg value) rest e (written h.door.talk reg value) h.door.reading (sym (ap (talk_with h.door.talk) e ∙ talk-write h.door.talk reg value rest)) (ap (λ o. or_put o h.door.reading) (sym (ap first_read e ∙ first_other (down.Write reg value) rest refl)))
      (λ r z. t.reads r (let a = count_read w.host.out in let c2 = count_read rest in let d = ap (how_many is_read) e in let f = how_many-cons is_read (down.Write reg value) rest in omega (arith, a, c2, d, f, z))) g.1.0 g.1.1)
      (more_known (down.Write reg value) h.door.reading refl refl)
  host_put (down.Read reg) rest e =
      let g = subst (TalkGoesOn (queues_of w) h.door.asked h.door.talk) e t.go_on in
      behind _ _ (record h.door { reading = Some reg }) [] (tt, t.begun) refl tt
      (moved (down.Read reg) rest e h.door.talk (Some reg) (sym (ap (talk_with h.door.talk) e ∙ talk_pass h.door.talk (down.Read reg) rest (at.read_no_write reg))) (ap (λ o. or_put o (Some reg)) (no_read_first rest none_left) ∙ ap (λ o. or_put o h.door.reading) (sym (ap first_read e ∙ first_one reg rest))) (λ r z. refl) t.begun g)
      (λ r f. sym (first_of_read w.down reg none_there) ∙ f)
    where
      counts : how_many is_read w.down + how_many is_read rest ≡ 0
      counts =
          let o = k.one_read.one in let m = at_most w.host.reading in let a = how_many-append is_read w.down w.host.out in let d = ap (how_many is_read) e in let f = how_many-cons is_read (down.Read reg) rest in
          omega (arith, o, m, a, d, f)
        where
          at_most : (c : Bool) → one_if c ≤ 1
          at_most true = omega arith
          at_most false = omega arith

      none_left : how_many is_read rest ≡ 0
      none_left = let n = counts in omega (arith, n)

      none_there : how_many is_read w.down ≡ 0
      none_there = let n = counts in omega (arith, n)
  host_put (down.Post d f p) rest e =
      let g = subst (TalkGoesOn (queues_of w) h.door.asked h.door.talk) e t.go_on in
      behind _ _ h.door [] (tt, t.begun) refl tt (plain_put (down.Post d f p) rest e refl (at.post_no_write d f p) g) (more_known (down.Post d f p) h.door.reading refl refl)
  host_put (down.Return a i) rest e =
      let g = subst (TalkGoesOn (queues_of w) h.door.asked h.door.talk) e t.go_on in
      behind _ _ h.door [] (tt, t.begun) refl tt (returned (plain_put (down.Return a i) rest e refl (at.return_no_write a i) g)) (more_known (down.Return a i) h.door.reading refl refl)
    where
      -- its frame is nothing to it
      returned : TalkHolds (queues_of w) (record w.host { out = rest }) w.ioc.generation (given (value_coming w) (written_ahead w.ioc ((w.down ++ down.Return a i ∷ []) ++ rest)).door) h.door.talk h.door.reading h.door.asked
          → TalkHolds (queues_of w) (after_sent w.host (down.Return a i) rest) w.ioc.generation (given (value_coming w) (written_ahead w.ioc ((w.down ++ down.Return a i ∷ []) ++ rest)).door) h.door.talk h.door.reading h.door.asked
      returned p = record { reads = p.reads; register = p.register; begun = p.begun; said = p.said; over = p.over; late = p.late; unit = p.unit; asked = p.asked; none_asked = p.none_asked; go_on = p.go_on; quiet = p.quiet }
  host_put down.Stop rest e =
      let g = subst (TalkGoesOn (queues_of w) h.door.asked h.door.talk) e t.go_on in
      behind _ _ h.door [] (tt, t.begun) refl tt (plain_put down.Stop rest e refl at.stop_no_write g) (more_known down.Stop h.door.reading refl refl)

  -- ---- the host takes

  -- a value on its way is the machine's, or nobody's: no read is on the lane
  no_read_there : (v : ℕ) (rest : List Up) → up_on w 0 ≡ upward.Value v ∷ rest → (reg : ℕ) → first_read w.down ≡ Some reg → ⊥
  unfolding read_count value_count
  no_read_there v rest e reg f =
      let o = k.one_read.one in let m = at_most w.host.reading in let n = at.one_value w h b v rest e in let a = how_many-append is_read w.down w.host.out in
      no_some (sym (no_read_first w.down (omega (arith, o, m, n, a))) ∙ f)
    where
      at_most : (c : Bool) → one_if c ≤ 1
      at_most true = omega arith
      at_most false = omega arith

      no_some : None ≡ Some reg → ⊥
      no_some e = cc

  -- how many resets were asked, as long as none ends
  counts_still : (y : Host) → is_resetting y.mode ≡ is_resetting w.host.mode → by_host.Counts w h b s l t h.door.asked y
  counts_still y e = (λ r. t.asked (sym e ∙ r), λ r. t.none_asked (sym e ∙ r))

  -- behind what the host takes: words, and the end of a reset at most
  finish : (v : World) (en : Entry) (d : Door) → door_next h.door en ≡ d → DoorAsks (queues_of w) h.door en → IsTalk (queues_of w) d.talk → d.asked ≡ h.door.asked → (o : Happening Host) → TellsMode (is_resetting w.host.mode) o
      → ((m : ℕ) → by_host.Counts w h b s l t m o.part → On v (record d { asked = m })) → Known v d → TalkGoes v (en ∷ o.entries)
  finish v en d is free talk asked_is o (GoesOn a mode) on n =
      behind v en d o.entries free is (host_all o.entries a) (subst (λ m. TalkOn (queues_of w) v d.talk d.reading m) (sym asked_is) (on h.door.asked (counts_still o.part mode))) n
  finish v en d is free talk asked_is o (Ends words a f mode) on n =
      record {
        holds = subst (On v) (sym state) (on 0 (λ r. contrary (is_resetting o.part.mode) mode r, λ r. refl));
        knows = subst (Known v) (sym state) n;
        passes = (free, subst (λ y. Passes door_next (DoorAsks (queues_of w)) y o.entries) (sym is) (subst (Passes door_next (DoorAsks (queues_of w)) d) (sym f) (passes_over (queues_of w) d words (entry.ResetDone ∷ []) (host_all words a) talk ((tt, talk), tt))));
      }
    where
      state : state_after door_next h.door (en ∷ o.entries) ≡ record d { asked = 0 }
      state = ap (λ y. state_after door_next y o.entries) is ∙ (ap (state_after door_next d) f ∙ state_stays d words (entry.ResetDone ∷ []) (host_all words a))

  same_coming : (queue : ℕ) (x : Up) (rest : List Up) → up_on w queue ≡ x ∷ rest → is_value (heard_of queue x) ≡ false → value_coming (with_up w queue rest) ≡ value_coming w
  same_coming queue x rest e n = changes.taken_of w.up w.ioc.up queue 0 (λ xs. first_value xs ≡ value_coming w) x rest e (λ xs f. sym (first_pass (said_of x) xs (sym (value_up queue x) ∙ n)) ∙ f) refl

  given_up : is_resetting w.host.mode ≡ true → w.host.wait_high ≡ []
  given_up r = (b.facts.doorbell.fresh_start.given_up r).0

  plain_take : (queue : ℕ) (x : Up) (rest : List Up) → up_on w queue ≡ x ∷ rest → why_strange w.host queue x ≡ None → is_value (heard_of queue x) ≡ false → door_next h.door (entry.Take (up_lane queue) (item.Up x)) ≡ h.door → DoorAsks (queues_of w) h.door (entry.Take (up_lane queue) (item.Up x))
      → TalkGoes (record (with_up w queue rest) { host = (hears_up w.host queue x).part }) (entry.Take (up_lane queue) (item.Up x) ∷ (hears_up w.host queue x).entries)
  plain_take queue x rest e why n is free =
      finish _ (entry.Take (up_lane queue) (item.Up x)) h.door is free t.begun refl (hears_up w.host queue x) (tells_mode w.host given_up queue x)
      (λ m counts.
      by_host.plainly w h b s l t m (hears_up w.host queue x).part (is_value (heard_of queue x)) (at.took w h b queue x rest e why) n
      (given (value_coming (with_up w queue rest)) (written_ahead w.ioc (w.down ++ (hears_up w.host queue x).part.out)).door)
      (λ q. ap (λ o. given o (written_ahead w.ioc (w.down ++ (hears_up w.host queue x).part.out)).door) (same_coming queue x rest e n) ∙ given_core (value_coming w) (written_ahead w.ioc (w.down ++ (hears_up w.host queue x).part.out)).door (door_ahead w) q)
      (took_up w h b queue x n) counts)
      known

  host_take : (queue : ℕ) (x : Up) (rest : List Up) → up_on w queue ≡ x ∷ rest → why_strange w.host queue x ≡ None
      → TalkGoes (record (with_up w queue rest) { host = (hears_up w.host queue x).part }) (entry.Take (up_lane queue) (item.Up x) ∷ (hears_up w.host queue x).entries)
  host_take queue (upward.Value v) rest e why =
      finish _ (entry.Take (up_lane queue) (item.Up (upward.Value v))) (record h.door { talk = value_heard h.door.talk h.door.reading v; reading = None }) refl (tt, talk) talk refl (hears_up w.host queue (upward.Value v)) (tells_mode w.host given_up queue (upward.Value v)) on
      (λ reg f. absurd (no_read_there v rest front reg f))
    where
      due : (queue ≡ 0) × (w.host.reading ≡ true)
      due = value_is_due w queue v why

      front : up_on w 0 ≡ upward.Value v ∷ rest
      front = ap (up_on w) (sym due.0) ∙ e

      on : (m : ℕ) → by_host.Counts w h b s l t m (hears_up w.host queue (upward.Value v)).part
          → TalkHolds (queues_of w) (hears_up w.host queue (upward.Value v)).part w.ioc.generation (given (value_coming (with_up w queue rest)) (written_ahead w.ioc (w.down ++ (hears_up w.host queue (upward.Value v)).part.out)).door) (value_heard h.door.talk h.door.reading v) None m
      on m counts = by_host.valued w h b s l t m (hears_up w.host queue (upward.Value v)).part true (at.took w h b queue (upward.Value v) rest e why) refl (given (value_coming (with_up w queue rest)) (written_ahead w.ioc (w.down ++ (hears_up w.host queue (upward.Value v)).part.out)).door) v rest front counts

      talk : IsTalk (queues_of w) (value_heard h.door.talk h.door.reading v)
      talk = by_mode (tells_mode w.host given_up queue (upward.Value v))
        where
          by_mode : TellsMode (is_resetting w.host.mode) (hears_up w.host queue (upward.Value v)) → IsTalk (queues_of w) (value_heard h.door.talk h.door.reading v)
          by_mode (GoesOn words mode) = (on h.door.asked (counts_still (hears_up w.host queue (upward.Value v)).part mode)).begun
          by_mode (Ends words a f mode) = (on 0 (λ r. contrary (is_resetting (hears_up w.host queue (upward.Value v)).part.mode) mode r, λ r. refl)).begun
  host_take queue (upward.Reply d f pg sn) rest e why = plain_take queue (upward.Reply d f pg sn) rest e why refl refl (tt, t.begun)
  host_take queue (upward.Mark gen) rest e why = plain_take queue (upward.Mark gen) rest e why refl refl (tt, t.begun)
  host_take queue upward.Calm rest e why = plain_take queue upward.Calm rest e why refl refl (tt, t.begun)

  -- ---- the host is told, or looks, or stops

  called : (m : ℕ) (y : Host) → AtDoor w y false → (y.stage ≡ stage.UnitReset → is_resetting w.host.mode ≡ false → w.host.mode ≡ state.Up) → by_host.Counts w h b s l t m y → TalkOn (queues_of w) (record w { host = y }) h.door.talk h.door.reading m
  called m y g up counts = by_host.plainly w h b s l t m y false g refl (given (value_coming w) (written_ahead w.ioc (w.down ++ y.out)).door) (λ q. given_core (value_coming w) (written_ahead w.ioc (w.down ++ y.out)).door (door_ahead w) q) up counts

  mildly : (y : Host) (es : List Entry) → EachEntry IsMild es → AtDoor w y false → (y.stage ≡ stage.UnitReset → is_resetting w.host.mode ≡ false → w.host.mode ≡ state.Up) → is_resetting y.mode ≡ is_resetting w.host.mode → TalkGoes (record w { host = y }) es
  mildly y es q g up mode = told (record w { host = y }) es q (called h.door.asked y g up (counts_still y mode)) known

  -- a reset is asked
  reset_mode : (z : Stage) (d : HostDoor) → (resets.with_reset_asked w.host z d).mode ≡ state.Resetting
  reset_mode z d = by_read w.host.reading
    where
      by_read : (a : Bool) → (if a then resets.gives_up w.host z else door.begins (resets.gives_up w.host z) z d).mode ≡ state.Resetting
      by_read true = refl
      by_read false = begins_mode (resets.gives_up w.host z) z d

  one_more : (y : Host) → y.mode ≡ state.Resetting → by_host.Counts w h b s l t (h.door.asked + 1) y
  one_more y e = (λ r. omega arith, λ r. contrary (is_resetting y.mode) r (ap is_resetting e))

  -- or refused
  asked_back : TalkOn (queues_of w) w h.door.talk h.door.reading (h.door.asked + 1 - 1)
  asked_back = let e : h.door.asked + 1 - 1 ≡ h.door.asked = omega arith in subst (TalkOn (queues_of w) w h.door.talk h.door.reading) (sym e) t

  diag : (m : HostState) → w.host.mode ≡ m → AtDoor w (inputs.diag_resets_in w.host m).part false → ((inputs.diag_resets_in w.host m).part.stage ≡ stage.UnitReset → is_resetting w.host.mode ≡ false → w.host.mode ≡ state.Up)
      → TalkGoes (record w { host = (by_option input.Reset call.Reset (inputs.diag_resets_in w.host m)).part }) (by_option input.Reset call.Reset (inputs.diag_resets_in w.host m)).entries
  diag state.Off e g up = record { holds = asked_back; knows = known; passes = ((tt, t.begun), ((tt, t.begun), tt)) }
  diag state.Starting e g up = record { holds = called (h.door.asked + 1) (resets.with_reset_asked w.host stage.DiagnosticReset diagnostic_reset) g up (one_more (resets.with_reset_asked w.host stage.DiagnosticReset diagnostic_reset) (reset_mode stage.DiagnosticReset diagnostic_reset)); knows = known; passes = ((tt, t.begun), tt) }
  diag state.Up e g up = record { holds = called (h.door.asked + 1) (resets.with_reset_asked w.host stage.DiagnosticReset diagnostic_reset) g up (one_more (resets.with_reset_asked w.host stage.DiagnosticReset diagnostic_reset) (reset_mode stage.DiagnosticReset diagnostic_reset)); knows = known; passes = ((tt, t.begun), tt) }
  diag state.Resetting e g up = record { holds = asked_back; knows = known; passes = ((tt, t.begun), ((tt, t.begun), tt)) }

  unit : (m : HostState) → w.host.mode ≡ m → AtDoor w (inputs.unit_resets_in w.host m).part false → ((inputs.unit_resets_in w.host m).part.stage ≡ stage.UnitReset → is_resetting w.host.mode ≡ false → w.host.mode ≡ state.Up)
      → TalkGoes (record w { host = (by_option input.UnitReset call.UnitReset (inputs.unit_resets_in w.host m)).part }) (by_option input.UnitReset call.UnitReset (inputs.unit_resets_in w.host m)).entries
  unit state.Off e g up = record { holds = asked_back; knows = known; passes = ((tt, t.begun), ((tt, t.begun), tt)) }
  unit state.Starting e g up = record { holds = asked_back; knows = known; passes = ((tt, t.begun), ((tt, t.begun), tt)) }
  unit state.Up e g up = record { holds = called (h.door.asked + 1) (resets.with_reset_asked w.host stage.UnitReset unit_reset) g up (one_more (resets.with_reset_asked w.host stage.UnitReset unit_reset) (reset_mode stage.UnitReset unit_reset)); knows = known; passes = ((tt, t.begun), tt) }
  unit state.Resetting e g up = record { holds = asked_back; knows = known; passes = ((tt, t.begun), ((tt, t.begun), tt)) }

  starts : (m : HostState) → w.host.mode ≡ m → AtDoor w (inputs.starts_in w.host m).part false → ((inputs.starts_in w.host m).part.stage ≡ stage.UnitReset → is_resetting w.host.mode ≡ false → w.host.mode ≡ state.Up)
      → TalkGoes (record w { host = (by_option input.Start call.Start (inputs.starts_in w.host m)).part }) (by_option input.Start call.Start (inputs.starts_in w.host m)).entries
  starts state.Off e g up = mildly (inputs.starts_in w.host state.Off).part (entry.Given input.Start ∷ []) (tt, tt) g up (ap is_resetting (begins_mode (record w.host { mode = state.Starting }) stage.Start look_at_doorbell) ∙ sym (ap is_resetting e))
  starts state.Starting e g up = mildly w.host _ (tt, (tt, tt)) g up refl
  starts state.Up e g up = mildly w.host _ (tt, (tt, tt)) g up refl
  starts state.Resetting e g up = mildly w.host _ (tt, (tt, tt)) g up refl

  host_tell : (i : Input) → IsHosts i → TalkGoes (record w { host = (host_told w.host i).part }) (host_told w.host i).entries
  host_tell input.Start q = starts w.host.mode refl (at.told w h b input.Start tt) (told_up w h b input.Start tt)
  host_tell (input.Submit n address form) q =
      mildly (host_told w.host (input.Submit n address form)).part (host_told w.host (input.Submit n address form)).entries
      (mild_submit w.host n address (command_named form) (input.Submit n address form) tt (finset.contains w.host.accepted n) (is_up w.host.mode) (ready_handle w.host.phases address) (fits (command_named form)) (least_free class.ScsiIo w.host.pool))
      (at.told w h b (input.Submit n address form) tt) (told_up w h b (input.Submit n address form) tt)
      (ap is_resetting (rise_mode w.host.mode _ (speaks.submits false w.host n address (command_named form) (finset.contains w.host.accepted n) (is_up w.host.mode) (ready_handle w.host.phases address) (fits (command_named form)) (least_free class.ScsiIo w.host.pool)).rises))
  host_tell (input.Abort n) q =
      mildly (host_told w.host (input.Abort n)).part (host_told w.host (input.Abort n)).entries
      (mild_abort w.host n (is_up w.host.mode) (finmap.get w.host.cmds n) (finmap.get w.host.aborts n) (least_free class.High w.host.pool))
      (at.told w h b (input.Abort n) tt) (told_up w h b (input.Abort n) tt)
      (ap is_resetting (rise_mode w.host.mode _ (speaks.aborts false w.host n (is_up w.host.mode) (finmap.get w.host.cmds n) (finmap.get w.host.aborts n) (least_free class.High w.host.pool)).rises))
  host_tell (input.TargetReset address) q =
      mildly (host_told w.host (input.TargetReset address)).part (host_told w.host (input.TargetReset address)).entries
      (mild_target w.host address (is_up w.host.mode) (ready_handle w.host.phases address) (least_free class.High w.host.pool))
      (at.told w h b (input.TargetReset address) tt) (told_up w h b (input.TargetReset address) tt)
      (ap is_resetting (rise_mode w.host.mode _ (speaks.targets false w.host address (is_up w.host.mode) (ready_handle w.host.phases address) (least_free class.High w.host.pool)).rises))
  host_tell input.Reset q = diag w.host.mode refl (at.told w h b input.Reset tt) (told_up w h b input.Reset tt)
  host_tell input.UnitReset q = unit w.host.mode refl (at.told w h b input.UnitReset tt) (told_up w h b input.UnitReset tt)
  host_tell (input.Plug address expander phy) q = absurd q
  host_tell (input.Unplug address) q = absurd q

  -- ---- each case

  abbrev Kept : World → List Entry → Type 0
  Kept v es = es ≡ entries w c → is_fault (state_of v.ioc) ≡ false → TalkGoes v es

  owed : OwesTold Kept w
  owed =
      record {
        idles = λ x q n. told w (entry.Idle x ∷ []) (tt, tt) t known;
        host_puts = λ x rest e q n. host_put x rest e;
        host_takes = λ queue x rest e y q n. host_take queue x rest e y;
        host_told = λ i r q n. host_tell i r;
        host_looks = λ e q n. mildly (looks w.host) [] tt (at.looked w h b e) (looked_up w h b) (ap is_resetting (begins_mode w.host stage.Look look_at_doorbell));
        host_stops = λ e q n. mildly (stops w.host) [] tt (at.stopped w h b) (stopped_up w h b) refl;
        no_session = λ q n. told w [] tt t known;
        ioc_takes = λ x rest e q n. taken x rest e n;
        ioc_high = λ p rest e q n. told _ _ (ioc_all _ (works_words (record w.ioc { high = rest }) p)) (by_words is_asked_out (ioc_step.works_on (record w.ioc { high = rest }) p).part (high_words w h b p rest)) known;
        ioc_normal = λ p rest e q n. told _ _ (ioc_all _ (works_words (record w.ioc { normal = rest }) p)) (by_words is_asked_out (ioc_step.works_on (record w.ioc { normal = rest }) p).part (normal_words w h b p rest)) known;
        ioc_puts_out = λ x rest e q n. behind _ _ h.door [] (tt, t.begun) refl tt (alike (record w.ioc { out = rest }) (down_line w) refl (same_door (record w.ioc { out = rest }) refl refl refl) refl refl) known;
        ioc_takes_back = λ x rest e q n. behind _ _ h.door _ (tt, t.begun) refl (ioc_all _ (back_words w.ioc x)) (told_back x (adapter.takes_back w.ioc x) (news never_out w.ioc x)) known;
        ioc_puts = λ queue y rest z e g q n. behind _ _ h.door [] (up_put queue z).0 (up_put queue z).1 tt (put_up queue y rest z e g) known;
        fabric_takes = λ x rest e q n. behind _ _ h.door [] (tt, t.begun) refl tt t known;
        fabric_says = λ x rest e q n. told _ [] tt t known;
        fabric_puts = λ x rest e q n. behind _ _ h.door [] (tt, t.begun) refl tt t known;
        fabric_runs = λ tag address e q n. told _ (entry.Run address tag ∷ []) (tt, tt) t known;
        plugs = λ address expander phy es a q n. told _ es (subst IsPlain (sym q) (plain_case w c) a) t known;
        unplugs = λ address es a q n. told _ es (subst IsPlain (sym q) (plain_case w c) a) t known;
        calms = λ q n. told _ [] tt t known;
      }

  pub talk_goes : TalkGoes (happens w c) (entries w c)
  talk_goes = kept_told Kept w b.plain owed c refl (whole_kept w h b.facts b.plain c)
