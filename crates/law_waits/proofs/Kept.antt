-- What waits for an identifier, over every case.
use Rattle.std.proofs.Common.{◌≡◌, ℕ, zero, suc, Bool, true, false, nat_le, List, [], ◌∷◌, refl, sym, subst, arith}
use Rattle.std.proofs.lemmas.List.{get_or_past}
use Rattle.std.specs.Prelude.{All}
use Rattle.std.proofs.lemmas.List.Elements.{All-cons, All-head, All-nil, All-tail}
use Rattle.smid_pool.specs.Pool.{Free, Open, Parked, Slot, slot_of}
use Rattle.smid_pool.specs.declared.class.Class.TheVariants as class
use Rattle.mpt_trace.specs.declared.item.Down.{Down}
use Rattle.mpt_trace.specs.declared.item.Down.TheVariants as down
use Rattle.mpt_rules.specs.declared.request.Request.{Request}
use Rattle.mpt_rules.specs.declared.request.Request.TheVariants as request
use Rattle.mpt_rules.specs.Host.Returns.{after_sent}
use Rattle.mpt_rules.specs.Law.{NothingIsStrange}
use Rattle.mpt_rules.specs.World.Cases.{Case, happens}
use Rattle.mpt_rules.specs.World.State.{World}
use Rattle.law_facts.specs.Facts.{Facts}
use Rattle.law_facts.specs.Flights.{RecordStands}
use Rattle.law_facts.specs.Handles.{IsWaiting}
use Rattle.law_facts.specs.History.{History}
use Rattle.law_flights.proofs.HostMoves.{along, input_is_moves, item_is_moves, look_is_moves, stop_is_moves}
use Rattle.law_moves.proofs.Cases.{Owes, kept}
use Rattle.law_records.proofs.Recorded.{fits}
use Rattle.law_waits.specs.Waits.{WaitsForIdentifiers}
use Rattle.law_waits.proofs.Full.{Classed, ClassedSlot, all_taken, none_is_free}
use Rattle.law_waits.proofs.Moved.{IsInternal, Waits, move_waits}

internal_waits : (xs : List Request) → All IsWaiting xs → All IsInternal xs
internal_waits [] a = All-nil IsInternal
internal_waits (x ∷ xs) a = All-cons IsInternal x xs (by_request x (All-head IsWaiting x xs a)) (internal_waits xs (All-tail IsWaiting x xs a))
  where
    by_request : (x : Request) → IsWaiting x → IsInternal x
    by_request (request.Page handle) k = refl
    by_request (request.Remove handle) k = refl
    by_request (request.Ack event context) k = refl
    by_request request.Notification k = refl
    by_request request.PortEnable k = refl
    by_request (request.Command n) k = absurd k
    by_request (request.Abort n task) k = absurd k
    by_request (request.TargetReset address) k = absurd k
    by_request (request.Leave handle) k = absurd k

module _ (w : World) (h : History) (f : Facts w h) (plain : NothingIsStrange w) where
  recorded : (s : ℕ) (x : Slot Request) → RecordStands w s x → ClassedSlot s x
  recorded s Free r = tt
  recorded s Parked r = r
  recorded s (Open (request.Command n)) r = r.0
  recorded s (Open (request.Abort n task)) r = r.0
  recorded s (Open (request.TargetReset address)) r = r
  recorded s (Open (request.Leave handle)) r = r
  recorded s (Open (request.Page handle)) r = r
  recorded s (Open (request.Remove handle)) r = r
  recorded s (Open (request.Ack event context)) r = r
  recorded s (Open request.Notification) r = r
  recorded s (Open request.PortEnable) r = r

  -- what is no identifier reads as free
  classed : Classed w.host.pool
  classed zero = tt
  classed (suc i) = by_place (nat_le (suc i) 280) refl
    where
      by_place : (b : Bool) → nat_le (suc i) 280 ≡ b → ClassedSlot (suc i) (slot_of w.host.pool (suc i))
      by_place true t = recorded (suc i) (slot_of w.host.pool (suc i)) (f.flights.identifiers (suc i) (omega arith) (grind (arith, t))).recorded
      by_place false t = let l = f.flights.sizes.pool in subst (ClassedSlot (suc i)) (sym (get_or_past w.host.pool i Free (grind (arith, l, t)))) tt

  here : Waits w.host
  here = record {
    table = f.flights.sizes.pool;
    classed = classed;
    none_high = λ l. all_taken class.High w.host.pool f.flights.sizes.pool (f.handles.waits.high l);
    none_internal = λ l. all_taken class.Internal w.host.pool f.flights.sizes.pool (f.handles.waits.internal l);
    reset_high = λ r. (f.doorbell.fresh_start.given_up r).0;
    reset_internal = λ r. (f.doorbell.fresh_start.given_up r).1;
    fit = internal_waits w.host.wait_internal f.handles.waits.requests;
  }

  sent : (x : Down) (rest : List Down) → Waits (after_sent w.host x rest)
  sent (down.Return address index) rest = here
  sent (down.Write reg value) rest = here
  sent (down.Read reg) rest = here
  sent (down.Post d g p) rest = here
  sent down.Stop rest = here

  owed : Owes (λ k. Waits k.host) w
  owed =
      record {
        host_puts = λ x rest e. sent x rest;
        host_takes = λ queue x rest e y. along Waits move_waits w.host _ (item_is_moves w.host queue x (fits w h f)) here;
        host_told = λ i g. along Waits move_waits w.host _ (input_is_moves w.host i) here;
        host_looks = λ e. along Waits move_waits w.host _ (look_is_moves w.host) here;
        host_stops = λ e. along Waits move_waits w.host _ (stop_is_moves w.host) here;
        ioc_takes = λ x rest e. here;
        ioc_high = λ p rest e. here;
        ioc_normal = λ p rest e. here;
        ioc_puts_out = λ x rest e. here;
        ioc_takes_back = λ x rest e. here;
        ioc_puts = λ queue y rest z e u. here;
        fabric_takes = λ x rest e. here;
        fabric_says = λ x rest e. here;
        fabric_puts = λ x rest e. here;
        fabric_runs = λ tag address e. here;
        plugs = λ address expander phy. here;
        unplugs = λ address. here;
        calms = here;
      }

  pub waits_kept : (c : Case) → WaitsForIdentifiers (happens w c)
  waits_kept c =
      let z = kept (λ k. Waits k.host) w plain owed here c in
      record { high = λ l. none_is_free class.High (happens w c).host.pool (z.none_high l); internal = λ l. none_is_free class.Internal (happens w c).host.pool (z.none_internal l) }
