-- Each case keeps that RESET_ADAPTER is set while the controller is RESET by HostDiagnostic, and else clear.
use Rattle.std.proofs.Common.{◌≡◌, ℕ, ◌+◌, ◌%◌, ◌^◌, ◌==◌, ◌&&◌, ◌||◌, ◌⊎◌, inl, inr, not, if◌then◌else◌, Bool, true, false, List, [], ◌∷◌, ◌++◌, take, Some, None, refl, ap, sym, ◌∙◌, subst, arith}
use Rattle.mpi_doorbell.specs.DoorRegisters.{is_fault, register_written}
use Rattle.mpi_doorbell.specs.HostDoor.{HostDoor}
use Rattle.mpi_doorbell.specs.declared.effect.Effect.{Effect}
use Rattle.mpi_doorbell.specs.declared.effect.Effect.TheVariants as effect
use Rattle.mpi_doorbell.specs.declared.registers.TheConstants.{DOORBELL}
use Rattle.mpi_doorbell.specs.declared.state.IocState.{IocState}
use Rattle.mpi_doorbell.specs.declared.state.IocState.TheVariants as ioc_state
use Rattle.mpt_trace.specs.declared.host_state.HostState.{HostState}
use Rattle.mpt_trace.specs.declared.host_state.HostState.TheVariants as state
use Rattle.mpt_trace.specs.declared.item.Back.{Back}
use Rattle.mpt_trace.specs.declared.item.Down.{Down}
use Rattle.mpt_trace.specs.declared.item.Down.TheVariants as down
use Rattle.mpt_trace.specs.declared.item.Out.{Out}
use Rattle.mpt_rules.specs.declared.stage.Stage.{Stage}
use Rattle.mpt_rules.specs.declared.stage.Stage.TheVariants as stage
use Rattle.mpt_rules.specs.World.Cases.{Case, happens}
use Rattle.mpt_rules.specs.World.Counts.{how_many}
use Rattle.mpt_rules.specs.Host.Doorbell as door
use Rattle.mpt_rules.specs.Host.Doorbell.{is_reset_item, next_turn, unit_reset_dword}
use Rattle.mpt_rules.specs.Host.Parts.{Host}
use Rattle.mpt_rules.specs.Host.Returns.{after_sent}
use Rattle.mpt_rules.specs.Ioc.Parts.{Ioc, state_of}
use Rattle.mpt_rules.specs.Ioc.Registers as registers
use Rattle.mpt_rules.specs.Ioc.Steps as ioc_step
use Rattle.mpt_rules.specs.Ioc.Tables.{is_ready, is_reset}
use Rattle.mpt_rules.specs.Ioc.Takes as adapter
use Rattle.mpt_rules.specs.Outcome.{Happening}
use Rattle.mpt_rules.specs.World.Lines.{down_line}
use Rattle.mpt_rules.specs.World.State.{World}
use Rattle.mpt_wire.specs.Machine.Causes.{is_resetting}
use Rattle.law_facts.specs.Clock.{Clock, in_asked, in_begun, in_reset, is_linked_up}
use Rattle.law_facts.specs.DoorAhead.{AdapterBit, IsInMode, is_diagnostic}
use Rattle.law_facts.specs.History.{History}
use Rattle.law_facts.specs.Words.{is_diagnostic_write, is_stray_reset, is_unit_write}
use Rattle.law_flights.specs.Given.{Resets}
use Rattle.law_moves.proofs.Cases.{Owes, kept}
use Rattle.law_moves.proofs.Counted.{false_by_none, how_many-cons}
use Rattle.law_moves.proofs.IocSpeaks.{CalmTold, IocSpeaks, LinkedUp, News, Speaks as SpeaksBack, Unlinked, is_asked_out, never_out, news}
use Rattle.law_moves.proofs.HostSpeaks.{ComesUp, Rises, Stays}
use Rattle.law_moves.proofs.IocTakes as leaf
use Rattle.law_moves.proofs.IocTakes.{Takes, takes}
use Rattle.law_moves.proofs.Phases.{and_false, not_begun, phased_of, same_is}
use Rattle.law_moves.proofs.Registers.{linked_is, writes_are}
use Rattle.law_clock.specs.Premises.{Before}
use Rattle.law_clock.proofs.PhaseKept.{asked_now, asked_phase, high_words, level_phase, normal_words}
use Rattle.law_doors.proofs.Whole.{whole_kept}
use Rattle.law_starts.proofs.Answering.{answer_leaves}
use Rattle.law_starts.proofs.HostAtDoor as at
use Rattle.law_starts.proofs.HostAtDoor.{Asked, AtDoor, Beginning, Begins, Drops, FactsNext, Free, FromOff, GivesUp, HasValue, InitNext, Keeps, Late, Looked, Marked, Next, NextShake, Opened, PortFactsNext, Readied, Renewed, Turns, base_begun, begins_is, contrary}
use Rattle.law_starts.proofs.Resetting.{over_linked, reset_write, sent_stage}

module _ (w : World) (h : History) (b : Before w h) where
  k : Clock w h
  k = b.facts.clock

  bit : AdapterBit w
  bit = b.facts.doorbell.adapter

  -- over fields
  abbrev Of : HostState → ℕ → Stage → Ioc → Type 0
  Of mode asked s i = i.door.reset_adapter ≡ (((is_resetting mode && (asked == i.generation)) && is_reset (state_of i)) && is_diagnostic s)

  abbrev OnHost : Host → Type 0
  OnHost x = Of x.mode x.asked x.stage w.ioc

  by_false : (c : Bool) → (c ≡ true → ⊥) → c ≡ false
  by_false true n = absurd (n refl)
  by_false false n = refl

  -- not RESET, before and after
  clear_before : in_reset w ≡ false → w.ioc.door.reset_adapter ≡ false
  clear_before e = bit ∙ ap (λ c. c && is_diagnostic w.host.stage) e

  clear : in_reset w ≡ false → (mode : HostState) (asked : ℕ) (s : Stage) → ((is_resetting mode && (asked == w.ioc.generation)) && is_reset (state_of w.ioc)) ≡ false → Of mode asked s w.ioc
  clear e mode asked s f = clear_before e ∙ sym (ap (λ c. c && is_diagnostic s) f)

  not_resetting : (mode : HostState) (l r : Bool) → is_resetting mode ≡ false → ((is_resetting mode && l) && r) ≡ false
  not_resetting mode l r e = ap (λ c. (c && l) && r) e

  not_level : (m l r : Bool) → l ≡ false → ((m && l) && r) ≡ false
  not_level true l r e = ap (λ c. c && r) e
  not_level false l r e = refl

  level : is_resetting w.host.mode ≡ false → ((w.host.asked + 1) % 2 ^ 32 == w.ioc.generation) ≡ false
  level m =
      let p = phased_of w k.phase_table in
      let lev = level_phase w.host.mode w.host.asked w.ioc.generation (state_of w.ioc) p m in
      not_begun w.host.mode ((w.host.asked + 1) % 2 ^ 32) w.ioc.generation p.generation_fits (ap (λ i. (i + 1) % 2 ^ 32) lev.0)

  -- a linked controller isn't RESET
  linked_clear : is_linked_up w ≡ true → in_reset w ≡ false
  linked_clear l = let r = (and_false (in_begun w) (is_ready (state_of w.ioc)) l).1 in by_false (in_reset w) (λ q. both (state_of w.ioc) r (and_false (in_begun w) (is_reset (state_of w.ioc)) q).1)
    where
      both : (s : IocState) → is_ready s ≡ true → is_reset s ≡ true → ⊥
      both ioc_state.Reset e f = cc
      both ioc_state.Ready e f = cc
      both ioc_state.Operational e f = cc
      both (ioc_state.Fault code) e f = cc

  unlevel : in_asked w ≡ true → (w.host.asked == w.ioc.generation) ≡ false
  unlevel a = opposite (w.host.asked == w.ioc.generation) (and_false _ _ a).1
    where
      opposite : (c : Bool) → not c ≡ true → c ≡ false
      opposite true e = absurd (cc)
      opposite false e = refl

  -- ---- the host

  next_mode : {p q : Stage} {a : Rattle.mpt_messages.specs.declared.host_ask.HostAsk.HostAsk} → NextShake w p q a → IsInMode w p → w.host.mode ≡ state.Starting
  next_mode FactsNext i = i
  next_mode PortFactsNext i = i
  next_mode InitNext i = i

  base : {y : Host} {s : Stage} {d : HostDoor} {t : Bool} → Beginning w y s d t → (in_reset w ≡ false) × (((is_resetting y.mode && (y.asked == w.ioc.generation)) && is_reset (state_of w.ioc)) ≡ false)
  base (FromOff m) = (not_resetting w.host.mode (w.host.asked == w.ioc.generation) (is_reset (state_of w.ioc)) (ap is_resetting m), refl)
  base (Free m r) = let e = not_resetting w.host.mode (w.host.asked == w.ioc.generation) (is_reset (state_of w.ioc)) (ap is_resetting m) in (e, e)
  base (Asked s d q m r) = (not_resetting w.host.mode (w.host.asked == w.ioc.generation) (is_reset (state_of w.ioc)) m, not_level true ((w.host.asked + 1) % 2 ^ 32 == w.ioc.generation) (is_reset (state_of w.ioc)) (level m))
  base (Late s d q e n y v rest f o) = let z = not_level (is_resetting w.host.mode) (w.host.asked == w.ioc.generation) (is_reset (state_of w.ioc)) (unlevel (and_false _ _ y).0) in (z, z)
  base (Marked queue m r) = (linked_clear (k.value_is_last.ready r).linked, refl)
  base (Renewed d y v hv o r) = (linked_clear (over_linked w h b d y v hv o r), refl)
  base (Next d y v hv o s a f) = let e = not_resetting w.host.mode (w.host.asked == w.ioc.generation) (is_reset (state_of w.ioc)) (ap is_resetting (next_mode f hv.in_mode)) in (e, e)

  host : (x : Host) (t : Bool) → AtDoor w x t → OnHost x
  host x t (Keeps q) = by_mode q.mode_is
    where
      by_mode : (x.mode ≡ w.host.mode) ⊎ ((is_resetting w.host.mode ≡ false) × (w.host.machine ≡ None) × (x.mode ≡ state.Up)) → OnHost x
      by_mode (inl m) =
          bit ∙ sym (ap (λ n. ((is_resetting n && (x.asked == w.ioc.generation)) && is_reset (state_of w.ioc)) && is_diagnostic x.stage) m
          ∙ (ap (λ n. ((is_resetting w.host.mode && (n == w.ioc.generation)) && is_reset (state_of w.ioc)) && is_diagnostic x.stage) q.asked_is
          ∙ ap (λ s. ((is_resetting w.host.mode && (w.host.asked == w.ioc.generation)) && is_reset (state_of w.ioc)) && is_diagnostic s) q.stage_is))
      by_mode (inr m) =
          clear (not_resetting w.host.mode (w.host.asked == w.ioc.generation) (is_reset (state_of w.ioc)) m.0) x.mode x.asked x.stage (not_resetting x.mode (x.asked == w.ioc.generation) (is_reset (state_of w.ioc)) (ap is_resetting m.2))
  host x t (GivesUp s rs2 m r f) =
      subst OnHost (sym f)
      (clear (not_resetting w.host.mode (w.host.asked == w.ioc.generation) (is_reset (state_of w.ioc)) m) state.Resetting ((w.host.asked + 1) % 2 ^ 32) s (not_level true ((w.host.asked + 1) % 2 ^ 32 == w.ioc.generation) (is_reset (state_of w.ioc)) (level m)))
  host x t (Drops n y v rest g r f) = subst OnHost (sym f) bit
  host x t (Begins y s d t2 q f) = let g = base_begun q in let z = base q in subst OnHost (sym (f ∙ begins_is y s d g.0 g.1)) (clear z.0 y.mode y.asked s z.1)
  host x t (Turns d y v hv reg s f) = subst OnHost (sym (f ∙ ap (door.puts_step (door.puts_writes (record w.host { reading = false }) (next_turn d (Some v)).writes) (next_turn d (Some v)).door) s)) bit
  host x t (Looked d y v hv o s f) =
      let e = not_resetting w.host.mode (w.host.asked == w.ioc.generation) (is_reset (state_of w.ioc)) (ap is_resetting (subst (IsInMode w) s hv.in_mode)) in
      subst OnHost (sym f) (clear e w.host.mode w.host.asked stage.Idle e)
  host x t (Readied d y v hv o s f) = let e = linked_clear (over_linked w h b d y v hv o s) in subst OnHost (sym f) (clear e w.host.mode w.host.asked stage.Idle e)
  host x t (Opened d y v hv o s q) =
      let m = subst (IsInMode w) s hv.in_mode in
      clear (not_resetting w.host.mode (w.host.asked == w.ioc.generation) (is_reset (state_of w.ioc)) (ap is_resetting m)) x.mode x.asked x.stage (not_resetting x.mode (x.asked == w.ioc.generation) (is_reset (state_of w.ioc)) (ap is_resetting (stays q.rises ∙ m)))
    where
      stays : {m : HostState} → Rises false w.host.mode m → m ≡ w.host.mode
      stays (Stays e) = e
      stays (ComesUp u r e) = absurd (cc)

  -- ---- the controller

  abbrev OnIoc : Ioc → Type 0
  OnIoc i = Of w.host.mode w.host.asked w.host.stage i

  same_ioc : (i : Ioc) → i.generation ≡ w.ioc.generation → state_of i ≡ state_of w.ioc → i.door.reset_adapter ≡ w.ioc.door.reset_adapter → OnIoc i
  same_ioc i g s e =
      e ∙ (bit ∙ sym (ap (λ n. ((is_resetting w.host.mode && (w.host.asked == n)) && is_reset (state_of i)) && is_diagnostic w.host.stage) g
      ∙ ap (λ c. ((is_resetting w.host.mode && (w.host.asked == w.ioc.generation)) && is_reset c) && is_diagnostic w.host.stage) s))

  -- a controller that isn't RESET
  not_reset : (i : Ioc) → is_reset (state_of i) ≡ false → i.door.reset_adapter ≡ false → OnIoc i
  not_reset i e f = f ∙ sym (off (is_resetting w.host.mode && (w.host.asked == i.generation)) (is_reset (state_of i)) (is_diagnostic w.host.stage) e)
    where
      off : (x y z : Bool) → y ≡ false → ((x && y) && z) ≡ false
      off true y z e = ap (λ c. c && z) e
      off false y z e = refl

  module _ (reg value : ℕ) (rest : List Down) (e : w.down ≡ down.Write reg value ∷ rest) where
    abbrev j : Ioc
    j = record w.ioc { door = (register_written w.ioc.door reg value).registers }

    s : state_of j ≡ state_of w.ioc
    s = (writes_are w.ioc.door reg value b.facts.doorbell.sound.waits).state

    front : (test : Down → Bool) → how_many test (down_line w) ≡ 0 → test (down.Write reg value) ≡ false
    front test z = false_by_none (test (down.Write reg value)) (let a = ap (λ xs. how_many test (xs ++ w.host.out)) e in let c = how_many-cons test (down.Write reg value) (rest ++ w.host.out) in omega (arith, z, a, c))

    -- a reset begins
    begins : (is_reset_item (down.Write reg value) || is_stray_reset (down.Write reg value)) ≡ true → j.door.reset_adapter ≡ is_diagnostic w.host.stage → OnIoc (Rattle.mpt_rules.specs.Ioc.Resets.forgets j)
    begins r q =
        let a = asked_now w h b (down.Write reg value) rest e r in
        let p = asked_phase w.host.mode w.host.asked w.ioc.generation (state_of w.ioc) (phased_of w k.phase_table) (and_false _ _ a).0 in
        let g : (w.host.asked == (w.ioc.generation + 1) % 2 ^ 32) ≡ true = ap (λ m. m == (w.ioc.generation + 1) % 2 ^ 32) p.1 ∙ same_is ((w.ioc.generation + 1) % 2 ^ 32) in
        let m = (and_false _ _ (and_false _ _ a).0).0 in
        q ∙ sym (ap (λ c. ((c && (w.host.asked == (w.ioc.generation + 1) % 2 ^ 32)) && true) && is_diagnostic w.host.stage) m ∙ ap (λ c. (c && true) && is_diagnostic w.host.stage) g)

    sent : (is_reset_item (down.Write reg value) || is_stray_reset (down.Write reg value)) ≡ true → (w.host.stage ≡ stage.DiagnosticReset) ⊎ (w.host.stage ≡ stage.UnitReset)
    sent r = let a = and_false _ _ (asked_now w h b (down.Write reg value) rest e r) in sent_stage w h b a.0 (opposite w.host.returning a.1)
      where
        opposite : (c : Bool) → not c ≡ true → c ≡ false
        opposite true e = absurd (cc)
        opposite false e = refl

    -- by HostDiagnostic, so the host's stage is that
    adapter_stage : is_diagnostic_write (down.Write reg value) ≡ true → (w.host.stage ≡ stage.DiagnosticReset) ⊎ (w.host.stage ≡ stage.UnitReset) → is_diagnostic w.host.stage ≡ true
    adapter_stage y (inl z) = ap is_diagnostic z
    adapter_stage y (inr z) = contrary (is_diagnostic_write (down.Write reg value)) (front is_diagnostic_write (b.facts.doorbell.reset_steps.unit z)) y

    -- by the Doorbell
    unit_stage : (reg == DOORBELL) ≡ true → (is_reset_item (down.Write reg value) || is_stray_reset (down.Write reg value)) ≡ true → (w.host.stage ≡ stage.DiagnosticReset) ⊎ (w.host.stage ≡ stage.UnitReset) → is_diagnostic w.host.stage ≡ false
    unit_stage y r (inr z) = ap is_diagnostic z
    unit_stage y r (inl z) =
        let n = front is_stray_reset k.one_reset_write.strays in
        let u = front is_unit_write (b.facts.doorbell.reset_steps.diagnostic z) in
        let q = Rattle.std.proofs.lemmas.Bool.eqb-true reg DOORBELL y in
        let i = subst (λ m. is_reset_item (down.Write m value) ≡ true) q (first (is_reset_item (down.Write reg value)) (is_stray_reset (down.Write reg value)) n r) in
        let f = subst (λ m. is_unit_write (down.Write m value) ≡ false) q u in
        contrary (value == unit_reset_dword) f i
      where
        first : (x y : Bool) → y ≡ false → (x || y) ≡ true → x ≡ true
        first true y e g = refl
        first false y e g = sym e ∙ g ∙ refl

    wrote : is_fault (state_of (adapter.takes_down w.ioc (down.Write reg value)).part) ≡ false → OnIoc (adapter.takes_down w.ioc (down.Write reg value)).part
    wrote n = by_effect (register_written w.ioc.door reg value).effect refl n
      where
        is_ready_only : (i : Ioc) → leaf.Shook j i → i.door.reset_adapter ≡ w.ioc.door.reset_adapter → OnIoc i
        is_ready_only i (leaf.Stays a y) q = same_ioc i (ap (λ (z : Ioc). z.generation) y) (a ∙ s) q
        is_ready_only i (leaf.ComesUp c a y) q =
            let r : is_ready (state_of w.ioc) ≡ true = sym (ap is_ready s) ∙ c in
            not_reset i (ap is_reset a) (q ∙ clear_before (by_false (in_reset w) (λ z. both (state_of w.ioc) r (and_false (in_begun w) (is_reset (state_of w.ioc)) z).1)))
          where
            both : (s : IocState) → is_ready s ≡ true → is_reset s ≡ true → ⊥
            both ioc_state.Reset e f = cc
            both ioc_state.Ready e f = cc
            both ioc_state.Operational e f = cc
            both (ioc_state.Fault code) e f = cc

        by_effect : (f : Effect) → (register_written w.ioc.door reg value).effect ≡ f → is_fault (state_of (registers.after_effect j f).part) ≡ false → OnIoc (registers.after_effect j f).part
        by_effect effect.None y n = same_ioc j refl s ((reset_write w.ioc.door reg value).others_leave (λ q. other (sym y ∙ q)))
          where
            other : effect.None ≡ effect.AdapterReset → ⊥
            other q = cc
        by_effect (effect.Asked count bytes) y n = is_ready_only (registers.handshakes j (take count bytes)) (leaf.shook j (take count bytes)) ((answer_leaves j (take count bytes)).adapter ∙ (reset_write w.ioc.door reg value).others_leave (λ q. other (sym y ∙ q)))
          where
            other : effect.Asked count bytes ≡ effect.AdapterReset → ⊥
            other q = cc
        by_effect effect.UnitReset y n =
            let r = (writes_are w.ioc.door reg value b.facts.doorbell.sound.waits).resets (subst Resets (sym y) tt) in
            let a = (and_false _ _ (asked_now w h b (down.Write reg value) rest e r)).0 in
            let q = (reset_write w.ioc.door reg value).others_leave (λ q. other (sym y ∙ q)) ∙ clear_before (not_level (is_resetting w.host.mode) (w.host.asked == w.ioc.generation) (is_reset (state_of w.ioc)) (unlevel a)) in
            begins r (q ∙ sym (unit_stage ((reset_write w.ioc.door reg value).unit y) r (sent r)))
          where
            other : effect.UnitReset ≡ effect.AdapterReset → ⊥
            other q = cc
        by_effect effect.AdapterReset y n =
            let r = (writes_are w.ioc.door reg value b.facts.doorbell.sound.waits).resets (subst Resets (sym y) tt) in
            let q = (reset_write w.ioc.door reg value).adapter y in
            begins r (q.1 ∙ sym (adapter_stage q.0 (sent r)))
        by_effect (effect.Fault code) y n = absurd (cc)

  by_leaf : (x : Down) (i : Ioc) → Takes w.ioc x i → is_fault (state_of i) ≡ false → ((reg value : ℕ) → x ≡ down.Write reg value → ⊥) → OnIoc i
  by_leaf x i (leaf.Faults y j f) n q = absurd (cc)
  by_leaf x i (leaf.Written reg value j nr s sa) n q = absurd (q reg value refl)
  by_leaf x i (leaf.Operates value j nr r s sa) n q = absurd (q _ value refl)
  by_leaf x i (leaf.Forgets reg value d r) n q = absurd (q reg value refl)
  by_leaf x i (leaf.Reads reg value) n q = bit
  by_leaf x i (leaf.Posts d f p j o sa) n q = same_ioc i (ap (λ (y : Ioc). y.generation) sa) (ap (λ (y : Ioc). state_of y) sa) (ap (λ (y : Ioc). y.door.reset_adapter) sa)
  by_leaf x i (leaf.DropsPost d f p o) n q = bit
  by_leaf x i (leaf.Returns address index j o sa) n q = same_ioc i (ap (λ (y : Ioc). y.generation) sa) (ap (λ (y : Ioc). state_of y) sa) (ap (λ (y : Ioc). y.door.reset_adapter) sa)
  by_leaf x i (leaf.DropsReturn address index o) n q = bit
  by_leaf x i leaf.Stops n q = bit

  taken : (x : Down) (rest : List Down) → w.down ≡ x ∷ rest → is_fault (state_of (adapter.takes_down w.ioc x).part) ≡ false → OnIoc (adapter.takes_down w.ioc x).part
  taken (down.Write reg value) rest e n = wrote reg value rest e n
  taken (down.Read reg) rest e n = bit
  taken (down.Post d f p) rest e n = by_leaf (down.Post d f p) (adapter.takes_down w.ioc (down.Post d f p)).part (takes w.ioc b.facts.doorbell.sound.waits k.phase_table.whole (down.Post d f p)) n (λ reg value e. cc)
  taken (down.Return address index) rest e n = by_leaf (down.Return address index) (adapter.takes_down w.ioc (down.Return address index)).part (takes w.ioc b.facts.doorbell.sound.waits k.phase_table.whole (down.Return address index)) n (λ reg value e. cc)
  taken down.Stop rest e n = by_leaf down.Stop (adapter.takes_down w.ioc down.Stop).part (takes w.ioc b.facts.doorbell.sound.waits k.phase_table.whole down.Stop) n (λ reg value e. cc)

  by_words : (test : Out → Bool) (i : Ioc) → IocSpeaks test w.ioc i → OnIoc i
  by_words test i g = same_ioc i g.generation_is (ap (λ d. d.state) g.door_is) (ap (λ d. d.reset_adapter) g.door_is)

  told : (x : Back) (o : Happening Ioc) → News never_out w.ioc x o → OnIoc o.part
  told x o (SpeaksBack l g) = by_words never_out o.part g
  told x o (Unlinked n i z e) = subst (λ (y : Happening Ioc). OnIoc y.part) (sym e) bit
  told x o (LinkedUp n i g r e) = not_reset o.part (ap (λ (y : Happening Ioc). is_reset (state_of y.part)) e ∙ ap is_reset (linked_is w.ioc.door b.facts.doorbell.sound.hold)) (ap (λ (y : Happening Ioc). y.part.door.reset_adapter) e ∙ linked w.ioc.door.hold_reset)
    where
      linked : (c : Bool) → (if true && not c then record (record w.ioc.door { reset_adapter = false; link_waits = true }) { state = ioc_state.Ready; link_waits = false } else record w.ioc.door { reset_adapter = false; link_waits = true }).reset_adapter ≡ false
      linked true = refl
      linked false = refl
  told x o (CalmTold i e) = subst (λ (y : Happening Ioc). OnIoc y.part) (sym e) bit

  -- ---- all cases

  put : (x : Down) (rest : List Down) → AdapterBit (record w { host = after_sent w.host x rest; down = w.down ++ x ∷ [] })
  put (down.Return address index) rest = bit
  put (down.Write reg value) rest = bit
  put (down.Read reg) rest = bit
  put (down.Post d g p) rest = bit
  put down.Stop rest = bit

  abbrev Kept : World → Type 0
  Kept v = is_fault (state_of v.ioc) ≡ false → AdapterBit v

  owes : Owes Kept w
  owes =
      record {
        host_puts = λ x rest e v. put x rest;
        host_takes = λ queue x rest e y v. host (Rattle.mpt_rules.specs.Host.Takes.hears_up w.host queue x).part _ (at.took w h b queue x rest e y);
        host_told = λ i t v. host (Rattle.mpt_rules.specs.World.Inputs.host_told w.host i).part false (at.told w h b i t);
        host_looks = λ e v. host (Rattle.mpt_rules.specs.Host.Takes.looks w.host) false (at.looked w h b e);
        host_stops = λ e v. host (Rattle.mpt_rules.specs.Host.Takes.stops w.host) false (at.stopped w h b);
        ioc_takes = λ x rest e v. taken x rest e v;
        ioc_high = λ p rest e v. by_words is_asked_out (ioc_step.works_on (record w.ioc { high = rest }) p).part (high_words w h b p rest);
        ioc_normal = λ p rest e v. by_words is_asked_out (ioc_step.works_on (record w.ioc { normal = rest }) p).part (normal_words w h b p rest);
        ioc_puts_out = λ x rest e v. bit;
        ioc_takes_back = λ x rest e v. told x (adapter.takes_back w.ioc x) (news never_out w.ioc x);
        ioc_puts = λ queue y rest z e g v. bit;
        fabric_takes = λ x rest e v. bit;
        fabric_says = λ x rest e v. bit;
        fabric_puts = λ x rest e v. bit;
        fabric_runs = λ tag address e v. bit;
        plugs = λ address expander phy v. bit;
        unplugs = λ address v. bit;
        calms = λ v. bit;
      }

  pub adapter_kept : (c : Case) → AdapterBit (happens w c)
  adapter_kept c = kept Kept w b.plain owes (λ v. bit) c (whole_kept w h b.facts b.plain c)
