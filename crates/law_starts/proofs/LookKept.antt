-- Each case keeps that a start's look finds the controller READY.
use Rattle.std.proofs.Common.{◌≡◌, ◌||◌, Bool, true, false, List, [], ◌∷◌, ◌++◌, Some, refl, ap, sym, ◌∙◌, arith}
use Rattle.mpi_doorbell.specs.DoorRegisters.{DoorRegisters, is_fault}
use Rattle.mpi_doorbell.specs.HostDoor.{HostDoor}
use Rattle.mpi_doorbell.specs.declared.state.IocState.{IocState}
use Rattle.mpi_doorbell.specs.declared.state.IocState.TheVariants as ioc_state
use Rattle.mpt_trace.specs.declared.host_state.HostState.TheVariants as state
use Rattle.mpt_trace.specs.declared.item.Back.{Back}
use Rattle.mpt_trace.specs.declared.item.Down.{Down}
use Rattle.mpt_trace.specs.declared.item.Down.TheVariants as down
use Rattle.mpt_trace.specs.declared.item.Out.{Out}
use Rattle.mpt_rules.specs.declared.stage.Stage.{Stage}
use Rattle.mpt_rules.specs.declared.stage.Stage.TheVariants as stage
use Rattle.mpt_rules.specs.World.Cases.{Case, happens}
use Rattle.mpt_rules.specs.World.Counts.{how_many, is_register_write, one_if}
use Rattle.mpt_rules.specs.Host.Doorbell as door
use Rattle.mpt_rules.specs.Host.Doorbell.{is_reset_item, next_turn}
use Rattle.mpt_rules.specs.Host.Parts.{Host}
use Rattle.mpt_rules.specs.Host.Returns.{after_sent}
use Rattle.mpt_rules.specs.Ioc.Parts.{Ioc, state_of}
use Rattle.mpt_rules.specs.Ioc.Steps as ioc_step
use Rattle.mpt_rules.specs.Ioc.Tables.{is_operational, is_reset}
use Rattle.mpt_rules.specs.Ioc.Takes as adapter
use Rattle.mpt_rules.specs.Outcome.{Happening}
use Rattle.mpt_rules.specs.World.Lines.{down_line}
use Rattle.mpt_rules.specs.World.State.{World}
use Rattle.mpt_wire.specs.Machine.Causes.{is_resetting}
use Rattle.law_facts.specs.Clock.{Clock}
use Rattle.law_facts.specs.History.{History}
use Rattle.law_facts.specs.Words.{is_off, is_stray_reset}
use Rattle.law_moves.proofs.Cases.{Owes, kept}
use Rattle.law_moves.proofs.Counted.{how_many-cons}
use Rattle.law_moves.proofs.Hears.{is_reset_stage}
use Rattle.law_moves.proofs.IocSpeaks.{CalmTold, IocSpeaks, LinkedUp, News, Speaks as SpeaksBack, Unlinked, is_asked_out, never_out, news}
use Rattle.law_moves.proofs.IocTakes as leaf
use Rattle.law_moves.proofs.IocTakes.{Takes, takes}
use Rattle.law_moves.proofs.Phases.{and_false}
use Rattle.law_clock.specs.Premises.{Before}
use Rattle.law_clock.proofs.PhaseKept.{high_words, normal_words}
use Rattle.law_doors.proofs.Whole.{whole_kept}
use Rattle.law_starts.specs.Starts.{NothingIsWritten, StartFindsReady}
use Rattle.law_starts.proofs.HostAtDoor as at
use Rattle.law_starts.proofs.HostAtDoor.{Asked, AtDoor, Beginning, Begins, Diagnostic, Drops, FactsNext, Free, FromOff, GivesUp, InitNext, Keeps, Late, Looked, Marked, MessageUnit, Next, NextShake, Opened, PortFactsNext, Readied, Renewed, Turns, base_begun, begins_is, contrary}

module _ (w : World) (h : History) (b : Before w h) (u : NothingIsWritten w) where
  k : Clock w h
  k = b.facts.clock

  look : StartFindsReady w
  look = b.facts.doorbell.rests.look

  abbrev OnHost : Host → Type 0
  OnHost x = x.stage ≡ stage.Start → state_of w.ioc ≡ ioc_state.Ready

  -- while the host is off nobody resets or starts the controller
  ready_off : w.host.mode ≡ state.Off → state_of w.ioc ≡ ioc_state.Ready
  ready_off m = by_state (state_of w.ioc) (unset (is_reset (state_of w.ioc)) refl) (unlive (is_operational (state_of w.ioc)) refl) k.phase_table.whole
    where
      unset : (c : Bool) → is_reset (state_of w.ioc) ≡ c → c ≡ false
      unset true e = contrary (is_resetting w.host.mode) (ap is_resetting m) (and_false _ _ (k.phase_table.reset e)).0
      unset false e = refl

      unlive : (c : Bool) → is_operational (state_of w.ioc) ≡ c → c ≡ false
      unlive true e = contrary (is_off w.host.mode) (k.phase_table.live e).1 (ap is_off m)
      unlive false e = refl

      by_state : (c : IocState) → is_reset c ≡ false → is_operational c ≡ false → is_fault c ≡ false → c ≡ ioc_state.Ready
      by_state ioc_state.Ready r l f = refl
      by_state ioc_state.Reset r l f = absurd (cc)
      by_state ioc_state.Operational r l f = absurd (cc)
      by_state (ioc_state.Fault code) r l f = absurd (cc)

  base_ready : {y : Host} {s : Stage} {d : HostDoor} {t : Bool} → Beginning w y s d t → s ≡ stage.Start → state_of w.ioc ≡ ioc_state.Ready
  base_ready (FromOff m) e = ready_off m
  base_ready (Free m r) e = absurd (cc)
  base_ready (Asked s d Diagnostic n r) e = absurd (cc)
  base_ready (Asked s d MessageUnit n r) e = absurd (cc)
  base_ready (Late s d Diagnostic q n y v rest g r) e = absurd (cc)
  base_ready (Late s d MessageUnit q n y v rest g r) e = absurd (cc)
  base_ready (Marked queue m r) e = absurd (cc)
  base_ready (Renewed d y v hv o r) e = absurd (cc)
  base_ready (Next d y v hv o s a f) e = absurd (follows f e)
    where
      follows : {p q : Stage} {a : Rattle.mpt_messages.specs.declared.host_ask.HostAsk.HostAsk} → NextShake w p q a → q ≡ stage.Start → ⊥
      follows FactsNext e = cc
      follows PortFactsNext e = cc
      follows InitNext e = cc

  idle_start : {T : Type 0} → stage.Idle ≡ stage.Start → T
  idle_start e = absurd (cc)

  host : (x : Host) (t : Bool) → AtDoor w x t → OnHost x
  host x t (Keeps q) e = look (sym q.stage_is ∙ e)
  host x t (GivesUp s r m g f) e = contrary (is_reset_stage s) (ap is_reset_stage (sym (ap (λ (y : Host). y.stage) f) ∙ e)) r
  host x t (Drops n y v rest g r f) e = look (sym (ap (λ (y : Host). y.stage) f) ∙ e)
  host x t (Begins base s d t2 q f) e = let g = base_begun q in base_ready q (sym (ap (λ (y : Host). y.stage) (f ∙ begins_is base s d g.0 g.1)) ∙ e)
  host x t (Turns d y v hv reg s f) e = look (sym (ap (λ (z : Host). z.stage) (f ∙ ap (door.puts_step (door.puts_writes (record w.host { reading = false }) (next_turn d (Some v)).writes) (next_turn d (Some v)).door) s)) ∙ e)
  host x t (Looked d y v hv o s f) e = idle_start (sym (ap (λ (z : Host). z.stage) f) ∙ e)
  host x t (Readied d y v hv o s f) e = idle_start (sym (ap (λ (z : Host). z.stage) f) ∙ e)
  host x t (Opened d y v hv o s q) e = idle_start (sym q.stage_is ∙ e)

  -- ---- the controller: no register is written to it meanwhile

  abbrev OnIoc : Ioc → Type 0
  OnIoc i = w.host.stage ≡ stage.Start → state_of i ≡ ioc_state.Ready

  not_written : {T : Type 0} (x : Down) (rest : List Down) → w.down ≡ x ∷ rest → is_register_write x ≡ true → w.host.stage ≡ stage.Start → T
  not_written x rest e r q =
      let z = u.look q in let a = ap (λ xs. how_many is_register_write (xs ++ w.host.out)) e in let c = how_many-cons is_register_write x (rest ++ w.host.out) in
      let o : one_if (is_register_write x) ≡ 1 = ap one_if r in absurd (omega (arith, z, a, c, o))

  taken : (i : Ioc) (x : Down) (rest : List Down) → w.down ≡ x ∷ rest → Takes w.ioc x i → is_fault (state_of i) ≡ false → OnIoc i
  taken i x rest e (leaf.Faults y j g) n q = contrary _ n g
  taken i x rest e (leaf.Written reg value j nr s sa) n q = s ∙ look q
  taken i x rest e (leaf.Operates value j nr r s sa) n q = not_written x rest e refl q
  taken i x rest e (leaf.Forgets reg value d r) n q = not_written x rest e (written r) q
    where
      written : (is_reset_item (down.Write reg value) || is_stray_reset (down.Write reg value)) ≡ true → is_register_write (down.Write reg value) ≡ true
      written r =
          let l : down_line w ≡ down.Write reg value ∷ (rest ++ w.host.out) = ap (λ xs. xs ++ w.host.out) e in
          let z = k.one_reset_write.strays in let a = ap (how_many is_stray_reset) l in let c = how_many-cons is_stray_reset (down.Write reg value) (rest ++ w.host.out) in
          let o = Rattle.law_moves.proofs.Counted.false_by_none (is_stray_reset (down.Write reg value)) (omega (arith, z, a, c)) in
          Rattle.law_clock.proofs.ResetWriteKept.reset_is_write (down.Write reg value) (first (is_reset_item (down.Write reg value)) (is_stray_reset (down.Write reg value)) o r)
        where
          first : (x y : Bool) → y ≡ false → (x || y) ≡ true → x ≡ true
          first true y e g = refl
          first false y e g = sym e ∙ g ∙ refl
  taken i x rest e (leaf.Reads reg value) n q = look q
  taken i x rest e (leaf.Posts d g p j o sa) n q = ap (λ (y : Ioc). state_of y) sa ∙ look q
  taken i x rest e (leaf.DropsPost d g p o) n q = look q
  taken i x rest e (leaf.Returns address index j o sa) n q = ap (λ (y : Ioc). state_of y) sa ∙ look q
  taken i x rest e (leaf.DropsReturn address index o) n q = look q
  taken i x rest e leaf.Stops n q = look q

  by_words : (test : Out → Bool) (i : Ioc) → IocSpeaks test w.ioc i → OnIoc i
  by_words test i g q = ap (λ (d : DoorRegisters). d.state) g.door_is ∙ look q

  told : (x : Back) (o : Happening Ioc) → News never_out w.ioc x o → OnIoc o.part
  told x o (SpeaksBack l g) q = by_words never_out o.part g q
  told x o (Unlinked n i z e) q = ap (λ (y : Happening Ioc). state_of y.part) e ∙ look q
  told x o (LinkedUp n i g r e) q = contrary (is_reset (state_of w.ioc)) (ap is_reset (look q)) r
  told x o (CalmTold i e) q = ap (λ (y : Happening Ioc). state_of y.part) e ∙ look q

  put : (x : Down) (rest : List Down) → StartFindsReady (record w { host = after_sent w.host x rest; down = w.down ++ x ∷ [] })
  put (down.Return address index) rest = look
  put (down.Write reg value) rest = look
  put (down.Read reg) rest = look
  put (down.Post d g q) rest = look
  put down.Stop rest = look

  abbrev Kept : World → Type 0
  Kept v = is_fault (state_of v.ioc) ≡ false → StartFindsReady v

  owes : Owes Kept w
  owes =
      record {
        host_puts = λ x rest e v. put x rest;
        host_takes = λ queue x rest e y v. host (Rattle.mpt_rules.specs.Host.Takes.hears_up w.host queue x).part _ (at.took w h b queue x rest e y);
        host_told = λ i t v. host (Rattle.mpt_rules.specs.World.Inputs.host_told w.host i).part false (at.told w h b i t);
        host_looks = λ e v. host (Rattle.mpt_rules.specs.Host.Takes.looks w.host) false (at.looked w h b e);
        host_stops = λ e v. host (Rattle.mpt_rules.specs.Host.Takes.stops w.host) false (at.stopped w h b);
        ioc_takes = λ x rest e v. taken (adapter.takes_down w.ioc x).part x rest e (takes w.ioc b.facts.doorbell.sound.waits k.phase_table.whole x) v;
        ioc_high = λ p rest e v. by_words is_asked_out (ioc_step.works_on (record w.ioc { high = rest }) p).part (high_words w h b p rest);
        ioc_normal = λ p rest e v. by_words is_asked_out (ioc_step.works_on (record w.ioc { normal = rest }) p).part (normal_words w h b p rest);
        ioc_puts_out = λ x rest e v. look;
        ioc_takes_back = λ x rest e v. told x (adapter.takes_back w.ioc x) (news never_out w.ioc x);
        ioc_puts = λ queue y rest z e g v. look;
        fabric_takes = λ x rest e v. look;
        fabric_says = λ x rest e v. look;
        fabric_puts = λ x rest e v. look;
        fabric_runs = λ tag address e v. look;
        plugs = λ address expander phy v. look;
        unplugs = λ address v. look;
        calms = λ v. look;
      }

  pub look_kept : (c : Case) → StartFindsReady (happens w c)
  look_kept c = kept Kept w b.plain owes (λ v. look) c (whole_kept w h b.facts b.plain c)
