-- The facts of phases and bindings, gathered from where they are shown.
use Rattle.mpt_rules.specs.World.Cases.{Case, entries, happens}
use Rattle.mpt_rules.specs.World.State.{World}
use Rattle.law_facts.specs.Facts.{Facts}
use Rattle.law_facts.specs.History.{History, history_after}
use Rattle.law_handles.proofs.Aimed.{aimed_after}
use Rattle.law_handles.proofs.PhasesWorld.{phase_records, record_has_phase, waits_named}
use Rattle.law_handles.proofs.ServingWorld.{binding_served, known_once, plugs_differ, serves_after}
use Rattle.law_lives.specs.Standing.{BindingsStand, PhasesStand}

pub phases_stand : (w : World) (h : History) (c : Case) → Facts w h → PhasesStand (happens w c)
phases_stand w h c f =
    let n = waits_named w h c f in
    record { phases = λ g i m. phase_records w h c f g i m; records = λ m s. record_has_phase w h c f m s; high = n.0; internal = n.1 }

pub bindings_stand : (w : World) (h : History) (c : Case) → Facts w h → BindingsStand (happens w c) (history_after h (entries w c))
bindings_stand w h c f =
    let s = serves_after w h c f in
    record {
      served = λ g i. binding_served w h c f g i;
      aimed = λ g i. aimed_after w h c f g i;
      outside = s.tables.outside;
      waiting = s.queue.is;
      due = s.due;
      full = s.full;
      apart = s.queue.apart;
      known_once = λ a. known_once w h c f a;
      differ = λ j k. plugs_differ w h c f j k;
    }
