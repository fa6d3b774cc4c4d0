-- Behind any case, of a world of which all facts hold: the host's records are those of its tables by number.
use Rattle.std.proofs.Common.{◌≡◌, ◌≢◌, ℕ, zero, suc, ◌≤◌, ◌==◌, Bool, true, false, List, get_or, Option, Some, None, is_some, refl, ap, sym, ◌∙◌, subst, arith}
use Rattle.std.specs.FinMap as finmap
use Rattle.std.proofs.lemmas.Bool.{eqb-true}
use Rattle.std.proofs.lemmas.Bool.Decides.{nat_tests}
use Rattle.smid_pool.specs.Pool.{Free, Open, Parked, Slot}
use Rattle.mpi_doorbell.specs.HostDoor.{HostDoor}
use Rattle.mpi_doorbell.specs.declared.stage.Stage.{Stage as DoorStage}
use Rattle.mpi_doorbell.specs.declared.stage.Stage.TheVariants as door_stage
use Rattle.mpt_wire.specs.Machine.Causes.{is_resetting}
use Rattle.mpt_trace.specs.declared.host_state.HostState.TheVariants as state
use Rattle.mpt_trace.specs.declared.item.Down.{Down}
use Rattle.mpt_trace.specs.declared.item.Down.TheVariants as down
use Rattle.mpt_rules.specs.declared.request.Request.{Request}
use Rattle.mpt_rules.specs.declared.request.Request.TheVariants as request
use Rattle.mpt_rules.specs.declared.stage.Stage.{Stage}
use Rattle.mpt_rules.specs.declared.stage.Stage.TheVariants as stage
use Rattle.mpt_rules.specs.Host.Parts.{Cmd}
use Rattle.mpt_rules.specs.Host.Returns.{after_sent}
use Rattle.mpt_rules.specs.Law.{NothingIsStrange}
use Rattle.mpt_rules.specs.World.Cases.{Case, happens}
use Rattle.mpt_rules.specs.World.Counts.{how_many}
use Rattle.mpt_rules.specs.World.Settings.{Setting, first_world}
use Rattle.mpt_rules.specs.World.State.{World}
use Rattle.law_facts.specs.DoorAhead.{IsInMode, WaitsAt}
use Rattle.law_facts.specs.Facts.{Facts}
use Rattle.law_facts.specs.Flights.{AbortNames, NamedOnce, NamesOpen, RecordStands}
use Rattle.law_facts.specs.History.{History}
use Rattle.law_facts.specs.Words.{is_abort_asked, names_task, slot}
use Rattle.law_flights.specs.Classes.{IsClassed}
use Rattle.law_flights.proofs.HostHolds.{in_table}
use Rattle.law_flights.proofs.HostMoves.{Begins, Fits, is_reset_stage}
use Rattle.law_lights.proofs.Ones.{none_of}
use Rattle.law_moves.proofs.Cases.{Owes, kept}
use Rattle.law_moves.proofs.Phases.{and_false}
use Rattle.law_places.specs.Further.{VectorsFit}
use Rattle.law_places.proofs.Kept.{stepped}
use Rattle.law_records.specs.Records.{AbortsAreKnown, RecordsStand}
use Rattle.law_records.proofs.Books.{Named, aborts_it, all_anew, named_by, named_once, number_in}
use Rattle.law_records.proofs.BooksKept.{Agree, move_kept}
use Rattle.law_records.proofs.Strict.{along, input_is_strict, item_is_strict, look_is_strict, stop_is_strict}

-- ---- stages and modes, from `StageFits` and `ValueIsLast`

resetting : (w : World) (s : Stage) → is_reset_stage s ≡ true → IsInMode w s → is_resetting w.host.mode ≡ true
resetting w stage.DiagnosticReset t i = ap is_resetting i
resetting w stage.UnitReset t i = ap is_resetting i
resetting w stage.Idle t i = absurd (cc)
resetting w stage.Start t i = absurd (cc)
resetting w stage.StartReset t i = absurd (cc)
resetting w stage.Facts t i = absurd (cc)
resetting w stage.PortFacts t i = absurd (cc)
resetting w stage.Init t i = absurd (cc)
resetting w stage.Look t i = absurd (cc)

starting : (w : World) (s : Stage) → s ≡ stage.Init → IsInMode w s → is_resetting w.host.mode ≡ false
starting w s e i = let m : w.host.mode ≡ state.Starting = subst (IsInMode w) e i in ap is_resetting m

pub fits : (w : World) (h : History) → Facts w h → Fits w.host
fits w h f = record { machine = λ t. by_machine w.host.machine refl t; ready = λ t. (and_false _ _ (and_false _ _ (f.clock.value_is_last.ready t).linked).0).0 }
  where
    by_stage : (d : DoorStage) → WaitsAt w d → Begins w.host.stage w.host.mode
    by_stage (door_stage.Awaits x) s = record { init = λ e. starting w w.host.stage e s.1; resets = λ t. resetting w w.host.stage t s.1 }
    by_stage _ s = absurd s

    by_machine : (o : Option HostDoor) → w.host.machine ≡ o → is_some o ≡ true → Begins w.host.stage w.host.mode
    by_machine None e t = absurd (cc)
    by_machine (Some d) e t = by_stage d.stage (f.doorbell.stage.machine d e)

-- ---- the tables agree where the facts hold

-- an abort of the number
of_number : (n : ℕ) (o : Slot Request) → is_abort_asked o ≡ true → ((m task : ℕ) → o ≡ Open (request.Abort m task) → m ≡ n) → aborts_it n o ≡ true
of_number n (Open (request.Abort m task)) t f = subst (λ k. (k == n) ≡ true) (sym (f m task refl)) (same n)
  where
    same : (k : ℕ) → (k == k) ≡ true
    same k = grind arith
of_number n (Open (request.Command m)) t f = absurd (cc)
of_number n (Open (request.TargetReset address)) t f = absurd (cc)
of_number n (Open (request.Leave handle)) t f = absurd (cc)
of_number n (Open (request.Page handle)) t f = absurd (cc)
of_number n (Open (request.Remove handle)) t f = absurd (cc)
of_number n (Open (request.Ack event context)) t f = absurd (cc)
of_number n (Open request.Notification) t f = absurd (cc)
of_number n (Open request.PortEnable) t f = absurd (cc)
of_number n Free t f = absurd (cc)
of_number n Parked t f = absurd (cc)

pub agrees : (w : World) (h : History) → Facts w h → AbortsAreKnown w → Agree w.host
agrees w h f known =
    record {
      table = f.flights.sizes.pool;
      commands = λ x n e. recorded x (Open (request.Command n)) e (λ z. absurd (cc));
      opened = λ n c e. (f.flights.numbers n).command c e;
      aborted = λ x n task k e. (recorded x (Open (request.Abort n task)) e (λ z. absurd (cc))).1;
      aborting = λ n x e. of_number n (slot w.host x) ((f.flights.numbers n).abort x e) (λ m task q. (f.flights.numbers n).abort_of x m task e q);
      names = λ x n task k e. by_cmd task (finmap.get w.host.cmds n) (named x (Open (request.Abort n task)) e (λ z. absurd (cc)));
      parked = λ t e. (recorded t Parked e (λ z. absurd (cc)), once t Parked e (λ z. absurd (cc)));
      known = λ n e. (f.disks.numbers n).accepted e;
      abort_known = known;
    }
  where
    inside : (x : ℕ) (o : Slot Request) → slot w.host x ≡ o → o ≢ Free → (1 ≤ x) × (x ≤ 280)
    inside x o e g = let p = in_table w.host.pool x o e g in let a = p.0 in let b = p.1 in let t = f.flights.sizes.pool in (a, omega (arith, a, b, t))

    recorded : (x : ℕ) (o : Slot Request) → slot w.host x ≡ o → o ≢ Free → RecordStands w x o
    recorded x o e g = let p = inside x o e g in subst (RecordStands w x) e (f.flights.identifiers x p.0 p.1).recorded

    named : (x : ℕ) (o : Slot Request) → slot w.host x ≡ o → o ≢ Free → AbortNames w o
    named x o e g = let p = inside x o e g in subst (AbortNames w) e (f.flights.identifiers x p.0 p.1).names

    once : (x : ℕ) (o : Slot Request) → slot w.host x ≡ o → o ≢ Free → NamedOnce w x o
    once x o e g = let p = inside x o e g in subst (NamedOnce w x) e (f.flights.identifiers x p.0 p.1).named

    by_cmd : (task : ℕ) (o : Option Cmd) → NamesOpen w task o → Named w.host.pool task o
    by_cmd task (Some c) i = i
    by_cmd task None i = i

-- ---- and the facts hold where they agree

module _ (w : World) (b : Agree w.host) (classed : (s : ℕ) → IsClassed s (slot w.host s)) where
  not_zero : (z : ℕ) (r : Request) → slot w.host z ≡ Open r → (z == 0) ≡ false
  not_zero zero r e = absurd (cc)
  not_zero (suc i) r e = grind (arith, nat_tests)

  -- what is neither parked nor a submission's is named by no abort
  unnamed : (s : ℕ) (o : Slot Request) → slot w.host s ≡ o → o ≢ Parked → ((n : ℕ) → o ≢ Open (request.Command n)) → how_many (names_task s) w.host.pool ≡ 0
  unnamed s o e p q = none_of (names_task s) Free w.host.pool (λ i l. none i)
    where
      by_cmd : (m : ℕ) (k : Option Cmd) → finmap.get w.host.cmds m ≡ k → Named w.host.pool s k → ⊥
      by_cmd m (Some c) g i = q m (sym e ∙ (sym (ap (slot w.host) i) ∙ b.opened m c g))
      by_cmd m None g i = p (sym e ∙ i)

      none : (i : ℕ) → names_task s (get_or w.host.pool i Free) ≡ false
      none i = by_bool (names_task s (get_or w.host.pool i Free)) refl
        where
          by_bool : (k : Bool) → names_task s (get_or w.host.pool i Free) ≡ k → k ≡ false
          by_bool true t =
              let m : ℕ = number_in (get_or w.host.pool i Free) in
              let a : slot w.host (suc i) ≡ Open (request.Abort m s) = named_by s (get_or w.host.pool i Free) t in
              absurd (by_cmd m (finmap.get w.host.cmds m) refl (b.names (suc i) m s (not_zero (suc i) (request.Abort m s) a) a))
          by_bool false t = refl

  once : (s : ℕ) (o : Slot Request) → slot w.host s ≡ o → NamedOnce w s o
  once s Free e = unnamed s Free e (λ z. absurd (cc)) (λ n z. absurd (cc))
  once s Parked e = (b.parked s e).1
  once s (Open (request.Command n)) e = named_once w.host.pool w.host.cmds w.host.aborts w.host.accepted s n e b
  once s (Open (request.Abort n task)) e = at_most (unnamed s (Open (request.Abort n task)) e (λ z. absurd (cc)) (λ n z. absurd (cc)))
    where
      at_most : how_many (names_task s) w.host.pool ≡ 0 → how_many (names_task s) w.host.pool ≤ 1
      at_most z = omega (arith, z)
  once s (Open (request.TargetReset address)) e = let z = unnamed s (Open (request.TargetReset address)) e (λ z. absurd (cc)) (λ n z. absurd (cc)) in omega (arith, z)
  once s (Open (request.Leave handle)) e = let z = unnamed s (Open (request.Leave handle)) e (λ z. absurd (cc)) (λ n z. absurd (cc)) in omega (arith, z)
  once s (Open (request.Page handle)) e = let z = unnamed s (Open (request.Page handle)) e (λ z. absurd (cc)) (λ n z. absurd (cc)) in omega (arith, z)
  once s (Open (request.Remove handle)) e = let z = unnamed s (Open (request.Remove handle)) e (λ z. absurd (cc)) (λ n z. absurd (cc)) in omega (arith, z)
  once s (Open (request.Ack event context)) e = let z = unnamed s (Open (request.Ack event context)) e (λ z. absurd (cc)) (λ n z. absurd (cc)) in omega (arith, z)
  once s (Open request.Notification) e = let z = unnamed s (Open request.Notification) e (λ z. absurd (cc)) (λ n z. absurd (cc)) in omega (arith, z)
  once s (Open request.PortEnable) e = let z = unnamed s (Open request.PortEnable) e (λ z. absurd (cc)) (λ n z. absurd (cc)) in omega (arith, z)

  recorded_as : (s : ℕ) (o : Slot Request) → slot w.host s ≡ o → IsClassed s o → RecordStands w s o
  recorded_as s Free e c = tt
  recorded_as s Parked e c = (b.parked s e).0
  recorded_as s (Open (request.Command n)) e c = b.commands s n e
  recorded_as s (Open (request.Abort n task)) e c = (c, b.aborted s n task (not_zero s (request.Abort n task) e) e)
  recorded_as s (Open (request.TargetReset address)) e c = c
  recorded_as s (Open (request.Leave handle)) e c = c
  recorded_as s (Open (request.Page handle)) e c = c
  recorded_as s (Open (request.Remove handle)) e c = c
  recorded_as s (Open (request.Ack event context)) e c = c
  recorded_as s (Open request.Notification) e c = c
  recorded_as s (Open request.PortEnable) e c = c

  names_as : (s : ℕ) (o : Slot Request) → slot w.host s ≡ o → AbortNames w o
  names_as s (Open (request.Abort n task)) e = by_cmd (finmap.get w.host.cmds n) (b.names s n task (not_zero s (request.Abort n task) e) e)
    where
      by_cmd : (o : Option Cmd) → Named w.host.pool task o → NamesOpen w task o
      by_cmd (Some c) i = i
      by_cmd None i = i
  names_as s (Open (request.Command n)) e = tt
  names_as s (Open (request.TargetReset address)) e = tt
  names_as s (Open (request.Leave handle)) e = tt
  names_as s (Open (request.Page handle)) e = tt
  names_as s (Open (request.Remove handle)) e = tt
  names_as s (Open (request.Ack event context)) e = tt
  names_as s (Open request.Notification) e = tt
  names_as s (Open request.PortEnable) e = tt
  names_as s Free e = tt
  names_as s Parked e = tt

  is_abort : (n : ℕ) (o : Slot Request) → aborts_it n o ≡ true → is_abort_asked o ≡ true
  is_abort n (Open (request.Abort m task)) t = refl
  is_abort n (Open (request.Command m)) t = absurd (cc)
  is_abort n (Open (request.TargetReset address)) t = absurd (cc)
  is_abort n (Open (request.Leave handle)) t = absurd (cc)
  is_abort n (Open (request.Page handle)) t = absurd (cc)
  is_abort n (Open (request.Remove handle)) t = absurd (cc)
  is_abort n (Open (request.Ack event context)) t = absurd (cc)
  is_abort n (Open request.Notification) t = absurd (cc)
  is_abort n (Open request.PortEnable) t = absurd (cc)
  is_abort n Free t = absurd (cc)
  is_abort n Parked t = absurd (cc)

  stand : RecordsStand w
  stand =
      record {
        identifiers = λ s l m. record { recorded = recorded_as s (slot w.host s) refl (classed s); names = names_as s (slot w.host s) refl; named = once s (slot w.host s) refl };
        numbers = λ n. record {
          command = λ c e. b.opened n c e;
          abort = λ s e. is_abort n (slot w.host s) (b.aborting n s e);
          abort_of = λ s m task e q. eqb-true m n (sym (ap (aborts_it n) q) ∙ b.aborting n s e);
        };
        known = b.abort_known;
      }

-- ---- each case

module _ (w : World) (h : History) (f : Facts w h) (plain : NothingIsStrange w) (known : AbortsAreKnown w) where
  here : Agree w.host
  here = agrees w h f known

  sent : (x : Down) (rest : List Down) → Agree (after_sent w.host x rest)
  sent (down.Return address index) rest = here
  sent (down.Write reg value) rest = here
  sent (down.Read reg) rest = here
  sent (down.Post d g p) rest = here
  sent down.Stop rest = here

  owed : Owes (λ k. Agree k.host) w
  owed =
      record {
        host_puts = λ x rest e. sent x rest;
        host_takes = λ queue x rest e y. along Agree true move_kept w.host _ (item_is_strict w.host queue x (fits w h f)) here;
        host_told = λ i g. along Agree true move_kept w.host _ (input_is_strict w.host i) here;
        host_looks = λ e. along Agree true move_kept w.host _ (look_is_strict w.host) here;
        host_stops = λ e. along Agree true move_kept w.host _ (stop_is_strict w.host) here;
        ioc_takes = λ x rest e. here;
        ioc_high = λ p rest e. here;
        ioc_normal = λ p rest e. here;
        ioc_puts_out = λ x rest e. here;
        ioc_takes_back = λ x rest e. here;
        ioc_puts = λ queue y rest z e u. here;
        fabric_takes = λ x rest e. here;
        fabric_says = λ x rest e. here;
        fabric_puts = λ x rest e. here;
        fabric_runs = λ tag address e. here;
        plugs = λ address expander phy. here;
        unplugs = λ address. here;
        calms = here;
      }

  pub agrees_still : (c : Case) → Agree (happens w c).host
  agrees_still c = kept (λ k. Agree k.host) w plain owed here c

  pub records_kept : VectorsFit w → (c : Case) → RecordsStand (happens w c)
  records_kept vectors c = stand (happens w c) (agrees_still c) (stepped w h f plain vectors c 1 (omega arith)).stands.host_holds.classed

pub records_at_first : (s : Setting) → RecordsStand (first_world s)
records_at_first s = stand (first_world s) (all_anew (first_world s).host.accepted) (λ i. free i)
  where
    free : (i : ℕ) → IsClassed i (slot (first_world s).host i)
    free i = subst (IsClassed i) (sym (Rattle.law_flights.proofs.HostTurns.all_free_at 280 i)) tt
