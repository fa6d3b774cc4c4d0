-- All that is on its way, of the world behind a case.
use Rattle.mpt_rules.specs.Law.{NothingIsStrange}
use Rattle.mpt_rules.specs.World.Cases.{Case, entries, happens}
use Rattle.mpt_rules.specs.World.Settings.{Setting, first_world}
use Rattle.mpt_rules.specs.World.State.{World}
use Rattle.law_facts.specs.Facts.{Facts}
use Rattle.law_facts.specs.Flights.{Flights}
use Rattle.law_facts.specs.History.{History, history_after}
use Rattle.law_places.specs.Shown.{ShownPlaces}
use Rattle.law_places.proofs.Kept.{places_kept, vectors_kept}
use Rattle.law_places.proofs.Says.{vectors_at_first}
use Rattle.law_records.specs.Records.{RecordsStand}
use Rattle.law_records.proofs.Recorded.{records_at_first, records_kept}
use Rattle.law_orders.proofs.Kept.{orders_kept}
use Rattle.law_returns.specs.Further.{FurtherFlights, HoldsNone}
use Rattle.law_returns.proofs.Returned.{none_held}

module _ (w : World) (h : History) (c : Case) (f : Facts w h) (plain : NothingIsStrange w) where
  pub holds_none : HoldsNone (happens w c)
  holds_none = none_held w h f plain c

  module _ (more : FurtherFlights w) where
    places : ShownPlaces (happens w c) (history_after h (entries w c))
    places = places_kept w h f plain more.vectors c

    records : RecordsStand (happens w c)
    records = records_kept w h f plain more.aborts more.vectors c

    pub flights_kept : Flights (happens w c) (history_after h (entries w c))
    flights_kept =
        record {
          sorted = places.sorted;
          sizes = places.sizes;
          identifiers = λ s l m.
              let p = places.identifiers s l m in
              let r = records.identifiers s l m in
              record { at_most = p.at_most; found = p.found; turn = p.turn; recorded = r.recorded; names = r.names; named = r.named };
          numbers = records.numbers;
          frames = places.frames;
          frames_are_frames = record { returned = places.frames_are_named.returned; ring = places.frames_are_named.ring; lanes = places.frames_are_named.lanes; none_kept = holds_none };
          fabric = orders_kept w h f plain c;
          held = places.held;
        }

    pub further_kept : FurtherFlights (happens w c)
    further_kept = record { vectors = vectors_kept w h f plain more.vectors c; aborts = records.known }

pub further_at_first : (s : Setting) → FurtherFlights (first_world s)
further_at_first s = record { vectors = vectors_at_first s; aborts = (records_at_first s).known }
