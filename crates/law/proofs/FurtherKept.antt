-- What goes along the induction beside the facts, at first and over every case.
use Rattle.std.proofs.Common.{[]}
use Rattle.mpt_rules.specs.Law.{NothingIsStrange}
use Rattle.mpt_rules.specs.World.Cases.{Case, entries, happens}
use Rattle.mpt_rules.specs.World.Settings.{IsCase, Setting, first_world}
use Rattle.mpt_rules.specs.World.State.{World}
use Rattle.law_facts.specs.Facts.{Facts}
use Rattle.law_facts.specs.History.{History, first_history, history_after}
use Rattle.law_bell_status.proofs.BellStand as bells
use Rattle.law_bells.proofs.BellsKept as handshakes
use Rattle.law_bring_up.proofs.Kept as bring_up
use Rattle.law_classes.proofs.NoticesFirst.{notices_first, notices_kept}
use Rattle.law_counts.proofs.FitsKept.{fits_at_first}
use Rattle.law_counts.proofs.Shown.{answers_at_first, counts_shown, progress_shown}
use Rattle.law_disks.proofs.Kept.{machine_kept, was_first}
use Rattle.law_notices.proofs.Places.{apart_at_first, apart_kept}
use Rattle.law_notices.proofs.WerePlugged.{were_at_first, were_kept}
use Rattle.law_outcomes.proofs.Runs.{runs_at_first, runs_kept}
use Rattle.law_pages.proofs.OthersKept.{others_at_first, others_kept}
use Rattle.law_ready.proofs.OffKept as ready
use Rattle.law_stopping.proofs.TargetsKept.{targets_at_first, targets_known}
use Rattle.law_messages.proofs.AcceptedKept.{aborts_accepted_at_first}
use Rattle.law_messages.proofs.Shown.{aborts_stay}
use Rattle.law_paths.proofs.Kept.{further_paths_at_first, further_paths_kept}
use Rattle.law_paths.proofs.Payloads.{payloads_fit, payloads_fit_first}
use Rattle.law_replies.proofs.EventsKept.{events_at_first, events_kept}
use Rattle.law_requests.proofs.BytesKept.{bytes_first, bytes_kept}
use Rattle.law_returns.proofs.Whole.{further_at_first, further_kept}
use Rattle.law_says.proofs.Descriptors.{descriptors_kept, descriptors_of_every_world}
use Rattle.law_says.proofs.Strange.{strange_say}
use Rattle.law_standing.proofs.Outcomes.{outcomes_fit, outcomes_fit_first}
use Rattle.law_standing.proofs.RepliesKept.{replies_at_first}
use Rattle.law_standing.proofs.Shown.{replies_stay_written}
use Rattle.law_stops.proofs.OneEnd.{ends_at_first, ends_kept}
use Rattle.law_talks.proofs.TalkStand as talks
use Rattle.law_targets.proofs.KnownKept.{off_at_first, off_known}
use Rattle.law_targets.proofs.Orders.{no_orders_at_first, no_orders_kept}
use Rattle.law_ties.proofs.HoldersKept.{holders_at_first, holders_kept}
use Rattle.law_ties.proofs.IndicesKept.{indices_at_first, indices_kept}
use Rattle.law.specs.Further.{Further, Whole}

pub further_first : (s : Setting) → Further (first_world s) (first_history s.disks)
further_first s =
    record {
      descriptors = descriptors_of_every_world s [];
      handshakes = handshakes.talks_at_first s;
      flights = further_at_first s;
      aborts = aborts_accepted_at_first s;
      outcomes = outcomes_fit_first s.disks;
      replies = replies_at_first s;
      notifications = notices_first s;
      indices = indices_at_first s;
      holders = holders_at_first s;
      enables = bring_up.enables_first s;
      commands = bytes_first s;
      events = events_at_first s;
      bell = bells.stands_at_first s;
      words = talks.stands_at_first s;
      off_hosts = off_at_first s;
      orders = no_orders_at_first s;
      paths = further_paths_at_first s;
      payloads = payloads_fit_first s.disks;
      answers = answers_at_first s;
      counts = fits_at_first s;
      ends = ends_at_first s;
      ready = was_first s.disks;
      apart = apart_at_first s;
      plugged = were_at_first s;
      pages = others_at_first s;
      turns = targets_at_first s;
      runs = runs_at_first s.disks;
      off_ready = ready.off_at_first s;
    }

pub strange_nowhere : (w : World) (h : History) → Whole w h → NothingIsStrange w
strange_nowhere w h a = strange_say w h a.facts a.further.descriptors

pub further_stays : (w : World) (h : History) (c : Case) → IsCase c → Whole w h → Further (happens w c) (history_after h (entries w c))
further_stays w h c i a =
    record {
      descriptors = descriptors_kept w x.descriptors c;
      handshakes = handshakes.talks_kept w h c f plain x.handshakes;
      flights = further_kept w h c f plain x.flights;
      aborts = aborts_stay w h c f plain x.aborts;
      outcomes = outcomes_fit h (entries w c) x.outcomes;
      replies = replies_stay_written w h c f plain x.replies;
      notifications = notices_kept w h f plain x.notifications c;
      indices = (indices_kept w h f plain x.indices c).further;
      holders = (holders_kept w h f x.flights.aborts x.holders c).further;
      enables = bring_up.enables_stay w h f plain x.handshakes.bare x.notifications x.enables c;
      commands = bytes_kept w h f x.commands c i;
      events = events_kept w h f plain x.events c;
      bell = (bells.bell_kept w h c f plain x.handshakes x.bell).further;
      words = (talks.talk_kept w h c f plain x.handshakes x.words).further;
      off_hosts = off_known w h f plain x.off_hosts c;
      orders = no_orders_kept w h f x.orders plain c;
      paths = further_paths_kept w h f plain x.paths c i;
      payloads = payloads_fit h (entries w c) x.payloads;
      answers = (progress_shown w h c f plain x.aborts x.answers).further;
      counts = (counts_shown w h c f plain x.aborts x.answers x.counts).further;
      ends = ends_kept w h f x.ends plain c;
      ready = (machine_kept w h f plain x.outcomes x.aborts x.ready c).plugs.ready_fits;
      apart = apart_kept w h c f plain x.apart;
      plugged = were_kept w h f x.plugged plain c;
      pages = others_kept w h f plain x.pages c;
      turns = (targets_known w h f x.turns plain x.flights.vectors c).further;
      runs = runs_kept w h f x.paths x.runs plain c;
      off_ready = ready.off_kept w h f plain x.off_ready c;
    }
  where
    f : Facts w h
    f = a.facts

    x : Further w h
    x = a.further

    plain : NothingIsStrange w
    plain = strange_nowhere w h a
