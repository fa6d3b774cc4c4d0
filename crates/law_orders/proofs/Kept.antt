-- Of each identifier there is at the fabric what the controller keeps of it, in the world behind any case.
use Rattle.std.proofs.Common.{◌≡◌, ℕ, ◌≤◌, ◌&&◌, Bool, true, false, refl, sym, arith}
use Rattle.mpi_doorbell.specs.DoorRegisters.{is_fault}
use Rattle.mpt_rules.specs.Host.Takes.{looks, stops}
use Rattle.mpt_rules.specs.Ioc.Parts.{state_of}
use Rattle.mpt_rules.specs.Ioc.Tables.{is_reset}
use Rattle.mpt_rules.specs.Ioc.Takes as adapter
use Rattle.mpt_rules.specs.Law.{NothingIsStrange}
use Rattle.mpt_rules.specs.World.Cases.{Case, happens}
use Rattle.mpt_rules.specs.World.State.{World}
use Rattle.law_facts.specs.Clock.{in_begun, in_reset}
use Rattle.law_facts.specs.Facts.{Facts}
use Rattle.law_facts.specs.Flights.{OneAtFabric}
use Rattle.law_facts.specs.History.{History}
use Rattle.law_doors.proofs.Whole.{whole_kept}
use Rattle.law_lights.proofs.ClocksKept.{clocks_kept}
use Rattle.law_moves.proofs.Cases.{Owes, kept}
use Rattle.law_moves.proofs.IocTakes as leaf
use Rattle.law_moves.proofs.Phases.{and_false}
use Rattle.law_orders.specs.Orders.{OrdersStand}
use Rattle.law_orders.proofs.Asked as asked
use Rattle.law_orders.proofs.Orders as at_hand
use Rattle.law_orders.proofs.Orders.{Stands}
use Rattle.law_orders.proofs.Told.{back_taken}

module _ (w : World) (h : History) (f : Facts w h) (plain : NothingIsStrange w) where
  module _ (s : ℕ) (least : 1 ≤ s) (most : s ≤ 280) where
    abbrev P : World → Type 0
    P v = is_fault (state_of v.ioc) ≡ false → Stands s least most v

    owed : Owes P w
    owed =
        record {
          host_puts = λ x rest e nf. at_hand.host_puts s least most w h f plain x rest e;
          host_takes = λ queue x rest e y nf. at_hand.host_takes s least most w h f plain queue x rest e;
          host_told = λ i g nf. at_hand.host_told s least most w h f plain i g;
          host_looks = λ e nf. at_hand.host_only s least most w h f plain (looks w.host) (λ r z q o. absurd (at_hand.not_free s least most w h f plain r e));
          host_stops = λ e nf. at_hand.host_only s least most w h f plain (stops w.host) (λ r z q o. absurd (at_hand.not_free s least most w h f plain r e));
          ioc_takes = λ x rest e nf. at_hand.taken s least most w h f plain x rest (adapter.takes_down w.ioc x).part e (leaf.takes w.ioc f.doorbell.sound.waits f.clock.phase_table.whole x) nf;
          ioc_high = λ p rest e nf. at_hand.ioc_high s least most w h f plain p rest e;
          ioc_normal = λ p rest e nf. at_hand.ioc_normal s least most w h f plain p rest e;
          ioc_puts_out = λ x rest e nf. at_hand.ioc_puts_out s least most w h f plain x rest e;
          ioc_takes_back = λ x rest e nf. back_taken s least most w h f plain x rest e;
          ioc_puts = λ queue y rest z e u nf. at_hand.ioc_puts s least most w h f plain queue y rest z e u;
          fabric_takes = λ x rest e nf. asked.fabric_takes s least most w h f plain x rest e;
          fabric_says = λ x rest e nf. asked.fabric_says s least most w h f plain x rest e;
          fabric_puts = λ x rest e nf. asked.fabric_puts s least most w h f plain x rest e;
          fabric_runs = λ tag address e nf. asked.fabric_runs s least most w h f plain tag;
          plugs = λ address expander phy nf. asked.plugs s least most w h f plain address expander phy;
          unplugs = λ address nf. asked.unplugs s least most w h f plain address;
          calms = λ nf. asked.calms s least most w h f plain;
        }

    stands : (c : Case) → Stands s least most (happens w c)
    stands c = kept P w plain owed (λ nf. at_hand.here s least most w h f plain) c (whole_kept w h f plain c)

    one_kept : (c : Case) → OneAtFabric (happens w c) s
    one_kept c =
        record {
          commands = t.commands;
          aborts = t.aborts;
          resets = t.resets;
          at_most = t.at_most;
          none = λ l r. t.none l (no_reset r);
          old = λ r p. (t.old (in_it r) p).nowhere;
          old_command = λ r p. (t.old (in_it r) (omega (arith, p))).command p;
          old_abort = λ r p. (t.old (in_it r) (omega (arith, p))).abort p;
          old_reset = λ r p. (t.old (in_it r) (omega (arith, p))).reset p;
        }
      where
        v : World
        v = happens w c

        t : Stands s least most v
        t = stands c

        in_it : in_reset v ≡ true → is_reset (state_of v.ioc) ≡ true
        in_it r = (and_false (in_begun v) (is_reset (state_of v.ioc)) r).1

        no_reset : in_reset v ≡ false → is_reset (state_of v.ioc) ≡ false
        no_reset r = by_reset (in_begun v) (is_reset (state_of v.ioc)) r (clocks_kept w h c f plain).phase_table.reset
          where
            by_reset : (a b : Bool) → (a && b) ≡ false → (b ≡ true → a ≡ true) → b ≡ false
            by_reset a false e g = refl
            by_reset true true e g = e
            by_reset false true e g = sym (g refl)

  pub orders_kept : (c : Case) → OrdersStand (happens w c)
  orders_kept c = λ s l m. one_kept s l m c
