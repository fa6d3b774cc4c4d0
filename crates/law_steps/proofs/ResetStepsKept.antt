-- Each case keeps where a reset's machine stands, and what it will read: over all cases.
use Rattle.std.proofs.Common.{◌≡◌, ℕ, ◌==◌, ◌&&◌, not, cond, if◌then◌else◌, Bool, true, false, List, [], ◌∷◌, ◌++◌, get_or, map, slice_get, take, Option, Some, None, refl, ap, sym, ◌∙◌, subst, arith, append_assoc}
use Rattle.mpi_doorbell.specs.DoorRegisters.{DoorRegisters, is_fault, register_written}
use Rattle.mpi_doorbell.specs.HostDoor.{HostDoor}
use Rattle.mpi_doorbell.specs.declared.effect.Effect.{Effect}
use Rattle.mpi_doorbell.specs.declared.effect.Effect.TheVariants as effect
use Rattle.mpi_doorbell.specs.declared.stage.Reading.{Reading}
use Rattle.mpi_doorbell.specs.declared.stage.Reading.TheVariants as reading
use Rattle.mpi_doorbell.specs.declared.stage.ResetKind.TheVariants as kind
use Rattle.mpi_doorbell.specs.declared.stage.Stage.TheVariants as door_stage
use Rattle.mpi_doorbell.specs.declared.state.IocState.TheVariants as ioc_state
use Rattle.mpt_trace.specs.declared.item.Back.{Back}
use Rattle.mpt_trace.specs.declared.item.Down.{Down}
use Rattle.mpt_trace.specs.declared.item.Down.TheVariants as down
use Rattle.mpt_trace.specs.declared.item.Out.{Out}
use Rattle.mpt_trace.specs.declared.item.Up.{Up}
use Rattle.mpt_trace.specs.declared.item.Up.TheVariants as upward
use Rattle.mpt_rules.specs.declared.said.Said.{Said}
use Rattle.mpt_rules.specs.declared.said.Said.TheVariants as said
use Rattle.mpt_rules.specs.World.Cases.{Case, happens}
use Rattle.mpt_rules.specs.World.Counts.{how_many, is_register_write, one_if}
use Rattle.mpt_rules.specs.Host.Parts.{Host}
use Rattle.mpt_rules.specs.Host.Returns.{after_sent}
use Rattle.mpt_rules.specs.Host.Strange.{why_strange}
use Rattle.mpt_rules.specs.Ioc.Parts.{Ioc, state_of}
use Rattle.mpt_rules.specs.Ioc.Registers as registers
use Rattle.mpt_rules.specs.Ioc.Replies as say
use Rattle.mpt_rules.specs.Ioc.Sending.{up_of, up_sent_on}
use Rattle.mpt_rules.specs.Ioc.Steps as ioc_step
use Rattle.mpt_rules.specs.Ioc.Tables.{is_ready, is_reset}
use Rattle.mpt_rules.specs.Ioc.Takes as adapter
use Rattle.mpt_rules.specs.Outcome.{Happening}
use Rattle.mpt_rules.specs.World.Lines.{down_line, said_of, up_line}
use Rattle.mpt_rules.specs.World.State.{World, up_on, with_up}
use Rattle.mpt_rules.specs.World.Weight.{is_said_value}
use Rattle.mpt_wire.specs.Machine.Causes.{is_resetting}
use Rattle.law_facts.specs.Clock.{Clock, in_begun, is_linked_up}
use Rattle.law_facts.specs.DoorAhead.{ResetSteps, first_value, value_coming}
use Rattle.law_facts.specs.History.{History}
use Rattle.law_facts.specs.Words.{is_reply}
use Rattle.law_flights.specs.Given.{Resets}
use Rattle.law_moves.proofs.Cases.{Owes, kept}
use Rattle.law_moves.proofs.Counted.{how_many-cons, how_many-nil, none_passes}
use Rattle.law_moves.proofs.HostGoes.{heard_of, is_value, value_heard, value_is_due}
use Rattle.law_moves.proofs.IocSpeaks.{CalmTold, IocSpeaks, LinkedUp, News, Speaks as SpeaksBack, Unlinked, is_asked_out, never_out, news}
use Rattle.law_moves.proofs.IocTakes as leaf
use Rattle.law_moves.proofs.IocTakes.{Takes, takes}
use Rattle.law_moves.proofs.Registers.{linked_is, writes_are}
use Rattle.law_moves.proofs.UpChanges as changes
use Rattle.law_moves.proofs.UpLines as lines
use Rattle.law_clock.specs.Premises.{Before}
use Rattle.law_clock.proofs.PhaseKept.{high_words, normal_words}
use Rattle.law_doors.proofs.Whole.{whole_kept}
use Rattle.law_starts.specs.Starts.{StartsStand}
use Rattle.law_steps.proofs.Coming.{first_before, first_pass, first_put, no_first}
use Rattle.law_starts.proofs.HostAtDoor as at
use Rattle.law_starts.proofs.HostAtDoor.{AtDoor, contrary, post_no_write, return_no_write, stop_no_write}
use Rattle.law_steps.proofs.Keys.{Keys, keys_after, keys_of, keys_quiet}
use Rattle.law_steps.proofs.StepsIoc.{answered_keys, as_before, keys_on, not_write, reads, resets_now, same_linked, shook, st}
use Rattle.law_steps.proofs.StepsKept.{HoldsOn, StepAt, ValueAt, here, to_world}
use Rattle.law_steps.proofs.StepsWorld.{host}

reply_no_value : (x : Said) → is_reply x ≡ true → is_said_value x ≡ false
reply_no_value (said.Value v) e = absurd (cc)
reply_no_value (said.Success s p q) e = refl
reply_no_value (said.Framed s f p q) e = refl
reply_no_value (said.Mark m) e = refl
reply_no_value said.Calm e = refl

module _ (w : World) (h : History) (b : Before w h) (s : StartsStand w) where
  k : Clock w h
  k = b.facts.clock

  rs : ResetSteps w
  rs = b.facts.doorbell.reset_steps

  abbrev Of : Ioc → Option ℕ
  Of i = first_value (map said_of (up_on w 0) ++ get_or i.up 0 [])

  abbrev OnIoc : Ioc → List Down → Type 0
  OnIoc i line = HoldsOn w.host i line (Of i)

  -- ---- an item of the host

  wrote : (reg value : ℕ) (rest : List Down) → w.down ≡ down.Write reg value ∷ rest → is_fault (state_of (adapter.takes_down w.ioc (down.Write reg value)).part) ≡ false → OnIoc (adapter.takes_down w.ioc (down.Write reg value)).part (rest ++ w.host.out)
  wrote reg value rest e n = by_effect (register_written w.ioc.door reg value).effect refl n
    where
      j : Ioc
      j = record w.ioc { door = (register_written w.ioc.door reg value).registers }

      fewer : (test : Down → Bool) → how_many test (down_line w) ≡ 0 → how_many test (rest ++ w.host.out) ≡ 0
      fewer test z = let a = ap (λ xs. how_many test (xs ++ w.host.out)) e in let c = how_many-cons test (down.Write reg value) (rest ++ w.host.out) in omega (arith, z, a, c)

      by_effect : (f : Effect) → (register_written w.ioc.door reg value).effect ≡ f → is_fault (state_of (registers.after_effect j f).part) ≡ false → OnIoc (registers.after_effect j f).part (rest ++ w.host.out)
      by_effect effect.None y n = as_before w h b s j (rest ++ w.host.out) refl (same_linked w h b s j refl (st w h b s reg value rest e)) (keys_on w h b s reg value rest e) fewer refl
      by_effect (effect.Asked count bytes) y n =
          shook w h b s reg value rest e (registers.handshakes j (take count bytes)) (leaf.shook j (take count bytes)) ((writes_are w.ioc.door reg value b.facts.doorbell.sound.waits).asked count bytes y) (answered_keys w h b s reg value rest e (take count bytes))
      by_effect effect.UnitReset y n = resets_now w h b s reg value rest e ((writes_are w.ioc.door reg value b.facts.doorbell.sound.waits).resets (subst Resets (sym y) tt))
      by_effect effect.AdapterReset y n = resets_now w h b s reg value rest e ((writes_are w.ioc.door reg value b.facts.doorbell.sound.waits).resets (subst Resets (sym y) tt))
      by_effect (effect.Fault code) y n = absurd (cc)

  by_leaf : (x : Down) (rest : List Down) (i : Ioc) → w.down ≡ x ∷ rest → Takes w.ioc x i → is_fault (state_of i) ≡ false → ((reg value : ℕ) → x ≡ down.Write reg value → ⊥) → ((reg : ℕ) → x ≡ down.Read reg → ⊥) → OnIoc i (rest ++ w.host.out)
  by_leaf x rest i e (leaf.Faults y j f) n q r = contrary _ n f
  by_leaf x rest i e (leaf.Written reg value j nr c sa) n q r = absurd (q reg value refl)
  by_leaf x rest i e (leaf.Operates value j nr c d sa) n q r = absurd (q _ value refl)
  by_leaf x rest i e (leaf.Forgets reg value d c) n q r = absurd (q reg value refl)
  by_leaf x rest i e (leaf.Reads reg value) n q r = absurd (r reg refl)
  by_leaf x rest i e (leaf.Posts d f p j o sa) n q r = not_write w h b s x rest i e q (ap (λ (y : Ioc). y.generation) sa) (ap (λ (y : Ioc). y.door) sa) (ap (λ (y : Ioc). y.up) sa)
  by_leaf x rest i e (leaf.DropsPost d f p o) n q r = not_write w h b s x rest i e q refl refl refl
  by_leaf x rest i e (leaf.Returns address index j o sa) n q r = not_write w h b s x rest i e q (ap (λ (y : Ioc). y.generation) sa) (ap (λ (y : Ioc). y.door) sa) (ap (λ (y : Ioc). y.up) sa)
  by_leaf x rest i e (leaf.DropsReturn address index o) n q r = not_write w h b s x rest i e q refl refl refl
  by_leaf x rest i e leaf.Stops n q r = not_write w h b s x rest i e q refl refl refl

  taken : (x : Down) (rest : List Down) → w.down ≡ x ∷ rest → is_fault (state_of (adapter.takes_down w.ioc x).part) ≡ false → OnIoc (adapter.takes_down w.ioc x).part (rest ++ w.host.out)
  taken (down.Write reg value) rest e n = wrote reg value rest e n
  taken (down.Read reg) rest e n = reads w h b s reg rest e
  taken (down.Post d f p) rest e n = by_leaf (down.Post d f p) rest (adapter.takes_down w.ioc (down.Post d f p)).part e (takes w.ioc b.facts.doorbell.sound.waits k.phase_table.whole (down.Post d f p)) n (post_no_write d f p) (post_no_read d f p)
    where
      post_no_read : (d : ℕ) (f p : List ℕ) (reg : ℕ) → down.Post d f p ≡ down.Read reg → ⊥
      post_no_read d f p reg e = cc
  taken (down.Return address index) rest e n = by_leaf (down.Return address index) rest (adapter.takes_down w.ioc (down.Return address index)).part e (takes w.ioc b.facts.doorbell.sound.waits k.phase_table.whole (down.Return address index)) n (return_no_write address index) (return_no_read address index)
    where
      return_no_read : (a i reg : ℕ) → down.Return a i ≡ down.Read reg → ⊥
      return_no_read a i reg e = cc
  taken down.Stop rest e n = by_leaf down.Stop rest (adapter.takes_down w.ioc down.Stop).part e (takes w.ioc b.facts.doorbell.sound.waits k.phase_table.whole down.Stop) n stop_no_write stop_no_read
    where
      stop_no_read : (reg : ℕ) → down.Stop ≡ down.Read reg → ⊥
      stop_no_read reg e = cc

  -- ---- what the controller does by itself

  same_ioc : (i : Ioc) → i.generation ≡ w.ioc.generation → i.door ≡ w.ioc.door → Of i ≡ value_coming w → OnIoc i (down_line w)
  same_ioc i g d q = as_before w h b s i (down_line w) g (same_linked w h b s i g (ap (λ (r : DoorRegisters). r.state) d)) (ap (λ r. keys_after (keys_of r) (down_line w)) d) (λ test z. z) q

  by_words : (test : Out → Bool) (i : Ioc) → IocSpeaks test w.ioc i → OnIoc i (down_line w)
  by_words test i g =
      let t = g.says 0 in
      let n = none_passes is_reply is_said_value reply_no_value t.added t.mild in
      let q : Of i ≡ value_coming w = ap (λ ys. first_value (map said_of (up_on w 0) ++ ys)) t.is ∙ (ap first_value (sym (append_assoc (map said_of (up_on w 0)) (get_or w.ioc.up 0 []) t.added)) ∙ first_before (up_line w 0) t.added n) in
      same_ioc i g.generation_is g.door_is q

  -- a link: while the controller is RESET no register is written
  linked : (n : ℕ) → is_reset (state_of w.ioc) ≡ true → OnIoc (record w.ioc { door = Rattle.mpi_doorbell.specs.DoorRegisters.linked_up w.ioc.door }) (down_line w)
  linked n r =
      record {
        step = λ d x m q a. step_on d x m q a ((here w h b).step d x m q a);
        value = λ d x v m q a c. value_on x v ((here w h b).value d x v m q a c);
        late = rs.late;
        diagnostic = rs.diagnostic;
        unit = rs.unit;
      }
    where
      i : Ioc
      i = record w.ioc { door = Rattle.mpi_doorbell.specs.DoorRegisters.linked_up w.ioc.door }

      g : in_begun w ≡ true
      g = k.phase_table.reset r

      quiet : how_many is_register_write (down_line w) ≡ 0
      quiet = s.nothing_is_written.reset (ap (λ c. c && is_reset (state_of w.ioc)) g ∙ r)

      place : (keys_after (keys_of (Rattle.mpi_doorbell.specs.DoorRegisters.linked_up w.ioc.door)) (down_line w)).place ≡ (keys_after (keys_of w.ioc.door) (down_line w)).place
      place =
          ap (λ (n : Keys). n.place) (keys_quiet (keys_of (Rattle.mpi_doorbell.specs.DoorRegisters.linked_up w.ioc.door)) (down_line w) quiet)
          ∙ (by_hold w.ioc.door.hold_reset ∙ sym (ap (λ (n : Keys). n.place) (keys_quiet (keys_of w.ioc.door) (down_line w) quiet)))
        where
          by_hold : (c : Bool) → (if true && not c then record (record w.ioc.door { reset_adapter = false; link_waits = true }) { state = ioc_state.Ready; link_waits = false } else record w.ioc.door { reset_adapter = false; link_waits = true }).key_place ≡ w.ioc.door.key_place
          by_hold true = refl
          by_hold false = refl

      is_linked : (in_begun w && is_ready (Rattle.mpi_doorbell.specs.DoorRegisters.linked_up w.ioc.door).state) ≡ true
      is_linked = ap (λ c. c && is_ready (Rattle.mpi_doorbell.specs.DoorRegisters.linked_up w.ioc.door).state) g ∙ ap is_ready (linked_is w.ioc.door s.nothing_holds.hold)

      step_on : (d : HostDoor) (x : Reading) → w.host.machine ≡ Some d → is_resetting w.host.mode ≡ true → d.stage ≡ door_stage.Awaits x → StepAt w.host.returning (in_begun w) (is_linked_up w) (keys_after (keys_of w.ioc.door) (down_line w)) x
          → StepAt w.host.returning (in_begun w) (in_begun w && is_ready (Rattle.mpi_doorbell.specs.DoorRegisters.linked_up w.ioc.door).state) (keys_after (keys_of (Rattle.mpi_doorbell.specs.DoorRegisters.linked_up w.ioc.door)) (down_line w)) x
      step_on d reading.Unlocked m q a p = contrary w.host.returning (k.one_reset_write.begun g) p.0
      step_on d reading.ResetOver m q a p = (p.0, place ∙ p.1)
      step_on d (reading.State kind.Diagnostic) m q a p = (p.0, is_linked)
      step_on d (reading.State kind.MessageUnit) m q a p = p
      step_on d reading.UnitReset m q a p = p
      step_on d reading.Used m q a p = absurd p
      step_on d reading.LeftOver m q a p = absurd p
      step_on d reading.Opened m q a p = absurd p
      step_on d reading.Taken m q a p = absurd p
      step_on d reading.News m q a p = absurd p
      step_on d reading.Word m q a p = absurd p
      step_on d reading.Doorbell m q a p = absurd p

      value_on : (x : Reading) (v : ℕ) → ValueAt (is_linked_up w) x v → ValueAt (in_begun w && is_ready (Rattle.mpi_doorbell.specs.DoorRegisters.linked_up w.ioc.door).state) x v
      value_on x v p = Rattle.law_steps.proofs.StepsIoc.value_with (is_linked_up w) (in_begun w && is_ready (Rattle.mpi_doorbell.specs.DoorRegisters.linked_up w.ioc.door).state) x v (λ l. is_linked) p

  told : (x : Back) (o : Happening Ioc) → News never_out w.ioc x o → OnIoc o.part (down_line w)
  told x o (SpeaksBack l g) = by_words never_out o.part g
  told x o (Unlinked n i z e) = subst (λ (y : Happening Ioc). OnIoc y.part (down_line w)) (sym e) (here w h b)
  told x o (LinkedUp n i g r e) = subst (λ (y : Happening Ioc). OnIoc y.part (down_line w)) (sym e) (linked n r)
  told x o (CalmTold i e) =
      subst (λ (y : Happening Ioc). OnIoc y.part (down_line w)) (sym e)
      (same_ioc (say.says_on w.ioc 0 (said.Calm ∷ [])) refl refl
      (changes.said_of_more w.up w.ioc.up 0 0 (λ xs. first_value xs ≡ value_coming w) (said.Calm ∷ [])
      (λ xs f. let a = how_many-cons is_said_value said.Calm [] in let n = how_many-nil {X = Said} is_said_value in first_before xs (said.Calm ∷ []) (omega (arith, a, n)) ∙ f) refl))

  -- ---- all cases

  abbrev OnWorld : World → Type 0
  OnWorld v = HoldsOn v.host v.ioc (down_line v) (value_coming v)

  by_call : (y : Host) → AtDoor w y false → OnWorld (record w { host = y })
  by_call y g = host w h b y false (value_coming w) g (λ e. refl) (λ e. no_first (up_line w 0) e)

  took : (queue : ℕ) (x : Up) (rest : List Up) → up_on w queue ≡ x ∷ rest → why_strange w.host queue x ≡ None → (y : Host) → AtDoor w y (is_value (heard_of queue x)) → OnWorld (record (with_up w queue rest) { host = y })
  took queue x rest e why y g = host w h b y (is_value (heard_of queue x)) (value_coming (with_up w queue rest)) g same none
    where
      same : is_value (heard_of queue x) ≡ false → value_coming (with_up w queue rest) ≡ value_coming w
      same n = changes.taken_of w.up w.ioc.up queue 0 (λ xs. first_value xs ≡ value_coming w) x rest e (λ xs f. sym (first_pass (said_of x) xs (sym (value_heard queue x) ∙ n)) ∙ f) refl

      nothing : (c : Bool) (n : ℕ) → n ≡ 0 → cond c n 0 ≡ n
      nothing true n e = refl
      nothing false n e = sym e

      on_queue : (z : Up) → why_strange w.host queue z ≡ None → cond (0 == queue) (one_if (is_said_value (said_of z))) 0 ≡ one_if (is_said_value (said_of z))
      on_queue (upward.Value v) s = let d = (value_is_due w queue v s).0 in ap (λ n. cond (0 == n) 1 0) d
      on_queue (upward.Reply d None p t) s = nothing (0 == queue) 0 refl
      on_queue (upward.Reply d (Some g) p t) s = nothing (0 == queue) 0 refl
      on_queue (upward.Mark g) s = nothing (0 == queue) 0 refl
      on_queue upward.Calm s = nothing (0 == queue) 0 refl

      none : how_many is_said_value (up_line w 0) ≡ one_if (is_value (heard_of queue x)) → value_coming (with_up w queue rest) ≡ None
      none n =
          let a = lines.taken is_said_value w.up w.ioc.up queue 0 x rest e in let c = on_queue x why in let vh = ap one_if (value_heard queue x) in
          no_first (up_line (with_up w queue rest) 0) (omega (arith, a, c, vh, n))

  put : (x : Down) (rest : List Down) → w.host.out ≡ x ∷ rest → OnWorld (record w { host = after_sent w.host x rest; down = w.down ++ x ∷ [] })
  put x rest e = by_item x (append_assoc w.down (x ∷ []) rest ∙ ap (λ xs. w.down ++ xs) (sym e))
    where
      by_item : (y : Down) → (w.down ++ x ∷ []) ++ rest ≡ down_line w → HoldsOn (after_sent w.host y rest) w.ioc ((w.down ++ x ∷ []) ++ (after_sent w.host y rest).out) (value_coming w)
      by_item (down.Return address index) f = rw f (here w h b)
      by_item (down.Write reg value) f = rw f (here w h b)
      by_item (down.Read reg) f = rw f (here w h b)
      by_item (down.Post d g q) f = rw f (here w h b)
      by_item down.Stop f = rw f (here w h b)

  put_up : (queue : ℕ) (y : Said) (rest : List Said) (z : Up) → say.outbox_of w.ioc queue ≡ y ∷ rest → up_of y (slice_get w.ioc.ring 0) ≡ Some z → OnWorld (with_up (record w { ioc = up_sent_on w.ioc queue }) queue (up_on w queue ++ z ∷ []))
  put_up queue y rest z e g =
      let q : value_coming (with_up (record w { ioc = up_sent_on w.ioc queue }) queue (up_on w queue ++ z ∷ [])) ≡ value_coming w =
      changes.put_of w.up w.ioc.up queue 0 (λ xs. first_value xs ≡ value_coming w) y rest z e (b.facts.flights.sizes.lanes ∙ sym b.facts.flights.sizes.outboxes) (λ xs ys f. sym (first_put y (slice_get w.ioc.ring 0) z g xs ys) ∙ f) refl in
      let v : World = with_up (record w { ioc = up_sent_on w.ioc queue }) queue (up_on w queue ++ z ∷ []) in
      subst (λ c. HoldsOn w.host w.ioc (down_line w) c) (sym q) (here w h b)

  abbrev Kept : World → Type 0
  Kept v = is_fault (state_of v.ioc) ≡ false → OnWorld v

  owes : Owes Kept w
  owes =
      record {
        host_puts = λ x rest e v. put x rest e;
        host_takes = λ queue x rest e y v. took queue x rest e y (Rattle.mpt_rules.specs.Host.Takes.hears_up w.host queue x).part (at.took w h b queue x rest e y);
        host_told = λ i t v. by_call (Rattle.mpt_rules.specs.World.Inputs.host_told w.host i).part (at.told w h b i t);
        host_looks = λ e v. by_call (Rattle.mpt_rules.specs.Host.Takes.looks w.host) (at.looked w h b e);
        host_stops = λ e v. by_call (Rattle.mpt_rules.specs.Host.Takes.stops w.host) (at.stopped w h b);
        ioc_takes = λ x rest e v. taken x rest e v;
        ioc_high = λ p rest e v. by_words is_asked_out (ioc_step.works_on (record w.ioc { high = rest }) p).part (high_words w h b p rest);
        ioc_normal = λ p rest e v. by_words is_asked_out (ioc_step.works_on (record w.ioc { normal = rest }) p).part (normal_words w h b p rest);
        ioc_puts_out = λ x rest e v. here w h b;
        ioc_takes_back = λ x rest e v. told x (adapter.takes_back w.ioc x) (news never_out w.ioc x);
        ioc_puts = λ queue y rest z e g v. put_up queue y rest z e g;
        fabric_takes = λ x rest e v. here w h b;
        fabric_says = λ x rest e v. here w h b;
        fabric_puts = λ x rest e v. here w h b;
        fabric_runs = λ tag address e v. here w h b;
        plugs = λ address expander phy v. here w h b;
        unplugs = λ address v. here w h b;
        calms = λ v. here w h b;
      }

  pub reset_steps_kept : (c : Case) → ResetSteps (happens w c)
  reset_steps_kept c = to_world (happens w c) (kept Kept w b.plain owes (λ v. here w h b) c (whole_kept w h b.facts b.plain c))
