-- Each case keeps that a host which wasn't started has nothing: no other call leads to it, and while it is off nothing comes.
use Rattle.std.proofs.Common.{◌≡◌, ℕ, ◌+◌, ◌==◌, ◌&&◌, ◌⊎◌, not, Bool, true, false, List, [], ◌∷◌, ◌++◌, length, Option, Some, None, refl, ap, sym, ◌∙◌, subst, arith}
use Rattle.mpt_wire.specs.Machine.Causes.{is_up, is_resetting}
use Rattle.mpt_trace.specs.declared.host_state.HostState.{HostState}
use Rattle.mpt_trace.specs.declared.host_state.HostState.TheVariants as state
use Rattle.mpt_trace.specs.declared.item.Down.{Down}
use Rattle.mpt_trace.specs.declared.item.Down.TheVariants as down
use Rattle.mpt_rules.specs.World.Counts.{how_many}
use Rattle.smid_pool.specs.Pool.{is_taken}
use Rattle.mpt_rules.specs.World.PlaceCounts.{is_held_frame}
use Rattle.mpt_rules.specs.Host.Removal.{is_absent}
use Rattle.mpt_rules.specs.World.Cases.{Case, happens}
use Rattle.mpt_rules.specs.Host.Parts.{Host}
use Rattle.mpt_rules.specs.Host.Returns.{after_sent}
use Rattle.mpt_rules.specs.World.State.{World}
use Rattle.law_facts.specs.Clock.{Clock}
use Rattle.law_facts.specs.DoorAhead.{StageFits}
use Rattle.law_facts.specs.History.{History}
use Rattle.law_facts.specs.Words.{is_off, others}
use Rattle.law_moves.proofs.Cases.{Owes, kept}
use Rattle.law_moves.proofs.HostGoes as goes
use Rattle.law_moves.proofs.HostGoes.{Asks, AsksNow, Hands, Heard, HostGoes, Looks, MarkOver, MarkTaken, Same, Says, Starts, StopsNow, Values}
use Rattle.law_moves.proofs.HostSpeaks.{ComesUp, Rises, Stays}
use Rattle.law_moves.proofs.Valuing.{HearsValue, IsOverNow, IsReady, SpeaksOn, TurnsOn, UnitLate}
use Rattle.law_clock.specs.Premises.{Before}
use Rattle.law_clock.proofs.PhaseKept as phase
use Rattle.law_doors.proofs.StageWorld.{stage_kept}
use Rattle.law_starts.specs.Starts.{OffIsFresh}
use Rattle.law_starts.proofs.HostAtDoor.{contrary}

module _ (w : World) (h : History) (b : Before w h) where
  k : Clock w h
  k = b.facts.clock

  off : OffIsFresh w
  off = b.facts.doorbell.fresh_start.off

  -- by a test of the mode
  other : {T : Type 0} (x : Host) (m : HostState) → x.mode ≡ state.Off → x.mode ≡ m → is_off m ≡ false → T
  other x m e f n = contrary (is_off m) n (ap is_off (sym f ∙ e))

  up_on : (m : HostState) → is_up m ≡ true → is_off m ≡ false
  up_on state.Up e = refl
  up_on state.Off e = absurd (cc)
  up_on state.Starting e = absurd (cc)
  up_on state.Resetting e = absurd (cc)

  resetting_on : (m : HostState) → is_resetting m ≡ true → is_off m ≡ false
  resetting_on state.Resetting e = refl
  resetting_on state.Off e = absurd (cc)
  resetting_on state.Starting e = absurd (cc)
  resetting_on state.Up e = absurd (cc)

  -- a host that waits for a value isn't off
  reading_on : w.host.reading ≡ true → is_off w.host.mode ≡ false
  reading_on r = by_off (is_off w.host.mode) refl
    where
      by_off : (c : Bool) → is_off w.host.mode ≡ c → c ≡ false
      by_off true e = absurd (Rattle.law_clock.proofs.StillKept.not_reading w h b e r)
      by_off false e = refl

  rises_on : {T : Type 0} {en : Bool} (x m : Host) → Rises en m.mode x.mode → is_off m.mode ≡ false → x.mode ≡ state.Off → T
  rises_on x m (Stays e) n f = other x m.mode f e n
  rises_on x m (ComesUp u r e) n f = other x state.Up f e refl

  valued : (x : Host) → HearsValue w x → w.host.reading ≡ true → x.mode ≡ state.Off → x ≡ w.host
  valued x (TurnsOn c u t d l) r e = other x w.host.mode e t.mode_is (reading_on r)
  valued x (UnitLate m n u) r e = other x w.host.mode e u.turn.mode_is (reading_on r)
  valued x (SpeaksOn m s t n q) r e = rises_on x m q.rises (ap is_off t.mode_is ∙ reading_on r) e
  valued x (IsReady m n l t z a d f) r e = other x w.host.mode e (ap (λ (y : Host). y.mode) f ∙ t.mode_is) (reading_on r)
  valued x (IsOverNow m n l t z a t2) r e = other x state.Starting e t2.mode_is refl

  -- so it is as it was
  host : {t : Heard} (x : Host) → HostGoes w x t → x.mode ≡ state.Off → x ≡ w.host
  host x (Same f) e = f
  host x (Says m o en q sp) e = rises_on x w.host q.rises o e
  host x (Hands m q ix rf) e = rises_on x w.host q.rises (resetting_on w.host.mode m) e
  host x (Values r v fr y) e = valued x y r e
  host x (MarkTaken queue m f) e = other x w.host.mode e (ap (λ (y : Host). y.mode) f) (resetting_on w.host.mode m)
  host x (MarkOver queue m g fr d a t) e = other x state.Starting e t.mode_is refl
  host x (Starts f t) e = other x state.Starting e t.mode_is refl
  host x (Asks st m o r f) e = other x state.Resetting e (ap (λ (y : Host). y.mode) f) refl
  host x (AsksNow st c m o r cs t z) e = other x state.Resetting e t.mode_is refl
  host x (Looks u r t) e = other x w.host.mode e t.mode_is (up_on w.host.mode u)
  host x (StopsNow u f) e = other x w.host.mode e (ap (λ (y : Host). y.mode) f) (up_on w.host.mode u)

  -- what it has
  fresh : (v : World) → v.host ≡ w.host → OffIsFresh v
  fresh v e m =
      let f = off (sym (ap (λ (y : Host). y.mode) e) ∙ m) in
      record {
        pool = ap (λ (y : Host). how_many is_taken y.pool) e ∙ f.pool;
        frames = ap (λ (y : Host). others is_held_frame y.frames) e ∙ f.frames;
        phases = ap (λ (y : Host). others is_absent y.phases) e ∙ f.phases;
        wait_high = ap (λ (y : Host). y.wait_high) e ∙ f.wait_high;
        wait_internal = ap (λ (y : Host). y.wait_internal) e ∙ f.wait_internal;
      }

  by_host : {t : Heard} (v : World) → HostGoes w v.host t → OffIsFresh v
  by_host v g m = fresh v (host v.host g m) m

  -- its outbox is empty
  put : (x : Down) (rest : List Down) → w.host.out ≡ x ∷ rest → OffIsFresh (record w { host = after_sent w.host x rest; down = w.down ++ x ∷ [] })
  put x rest e m = absurd (sent (mode_is x m))
    where
      mode_is : (y : Down) → (after_sent w.host y rest).mode ≡ state.Off → w.host.mode ≡ state.Off
      mode_is (down.Return a i) m = m
      mode_is (down.Write r v) m = m
      mode_is (down.Read r) m = m
      mode_is (down.Post d f p) m = m
      mode_is down.Stop m = m

      sent : w.host.mode ≡ state.Off → ⊥
      sent m =
          let z : length (w.down ++ w.host.out) ≡ 0 = (k.phase_table.off (ap is_off m)).down in
          let a = Rattle.std.proofs.Common.length-append w.down w.host.out in let c : length w.host.out ≡ length rest + 1 = ap length e ∙ (omega arith) in
          omega (arith, z, a, c)

  abbrev Kept : World → Type 0
  Kept v = StageFits v → OffIsFresh v

  owes : Owes Kept w
  owes =
      record {
        host_puts = λ x rest e v. put x rest e;
        host_takes = λ queue x rest e y v. by_host _ (phase.takes_item w h b queue x rest e y v);
        host_told = λ i t v. by_host (record w { host = (Rattle.mpt_rules.specs.World.Inputs.host_told w.host i).part }) (goes.told w i t);
        host_looks = λ e v. by_host (record w { host = Rattle.mpt_rules.specs.Host.Takes.looks w.host }) (goes.looks_on w e);
        host_stops = λ e v. by_host (record w { host = Rattle.mpt_rules.specs.Host.Takes.stops w.host }) (goes.stops_now w e);
        ioc_takes = λ x rest e v. fresh _ refl;
        ioc_high = λ p rest e v. fresh _ refl;
        ioc_normal = λ p rest e v. fresh _ refl;
        ioc_puts_out = λ x rest e v. fresh _ refl;
        ioc_takes_back = λ x rest e v. fresh _ refl;
        ioc_puts = λ queue y rest z e g v. fresh _ refl;
        fabric_takes = λ x rest e v. fresh _ refl;
        fabric_says = λ x rest e v. fresh _ refl;
        fabric_puts = λ x rest e v. fresh _ refl;
        fabric_runs = λ tag address e v. fresh _ refl;
        plugs = λ address expander phy v. fresh _ refl;
        unplugs = λ address v. fresh _ refl;
        calms = λ v. fresh _ refl;
      }

  pub off_kept : (c : Case) → OffIsFresh (happens w c)
  off_kept c = kept Kept w b.plain owes (λ v. off) c (stage_kept w h b c)
