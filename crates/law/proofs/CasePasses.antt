-- The entries of a case pass every rule, where all facts hold before it; but what the host tells isn't proved yet.
use Rattle.mpt_wire.specs.Messages.Told.{HearingAsks, hearing_next}
use Rattle.mpt_wire.specs.Walks.Passes.{Passes}
use Rattle.mpt_rules.specs.Law.{NothingIsStrange}
use Rattle.mpt_rules.specs.World.Cases.{Case, entries}
use Rattle.mpt_rules.specs.World.State.{World, queues_of}
use Rattle.law_facts.specs.Facts.{Facts}
use Rattle.law_facts.specs.History.{History}
use Rattle.law_bell_status.proofs.BellStand.{bell_passes}
use Rattle.law_classes.proofs.Classed.{classes_kept}
use Rattle.law_classes.proofs.MadeFirst.{put_as_made}
use Rattle.law_counts.proofs.CountsPass.{counts_pass}
use Rattle.law_heard.proofs.Marks.{marks_pass}
use Rattle.law_lanes.proofs.Lanes.{lanes_kept}
use Rattle.law_leaving.proofs.Passed.{leaving_passes}
use Rattle.law_pages.proofs.PostsPass.{posts_pass}
use Rattle.law_paths.proofs.TellsPass.{tells_pass}
use Rattle.law_paths.proofs.WalksPass.{walks_pass}
use Rattle.law_places.proofs.Kept.{turns_kept}
use Rattle.law_removals.proofs.Unbinds.{unbinds_pass}
use Rattle.law_runs.proofs.Runs.{runs}
use Rattle.law_served.proofs.Served.{served}
use Rattle.law_standing.proofs.Shown.{messages_pass}
use Rattle.law_stopping.proofs.StopsPass.{stops_passed}
use Rattle.law_talks.proofs.TalkStand.{talk_passes}
use Rattle.law_targets.proofs.Passed.{pages_pass, tasks_pass}
use Rattle.law_ties.proofs.IndicesKept.{goes}
use Rattle.law_ties.proofs.ResetsUnbind.{unbinds}
use Rattle.law_ties.proofs.RingKept.{ring_goes}
use Rattle.law.specs.Further.{Further, Whole}
use Rattle.law.specs.Passed.{Passed}
use Rattle.law.proofs.FurtherKept.{strange_nowhere}

pub case_passes : (w : World) (h : History) (c : Case) → Whole w h → Passes hearing_next HearingAsks h.hearing (entries w c) → Passed (queues_of w) h (entries w c)
case_passes w h c a told =
    record {
      identifiers = (turns_kept w h f plain x.flights.vectors c).identifiers;
      classes = classes_kept w h f plain c;
      frames = (turns_kept w h f plain x.flights.vectors c).frames;
      served = served w h f plain c;
      unbinds = unbinds_pass w h c f plain;
      leaving = λ handle. leaving_passes w h f plain handle c;
      pages = pages_pass w h f plain x.orders c;
      posts = posts_pass w h f plain x.pages c;
      tasks = tasks_pass w h f plain x.orders c;
      messages = messages_pass w h c f plain x.outcomes x.replies;
      doorbell = talk_passes w h c f plain x.handshakes x.words;
      walks = λ s. walks_pass w h f x.paths.tags x.paths.outcomes plain c s;
      tells = λ s. tells_pass w h f x.paths.tags x.paths.outcomes x.payloads plain c s;
      counts = λ s. counts_pass w h f x.answers s plain c;
      stops = λ s. stops_passed w h f x.orders x.ends s plain c;
      lanes = lanes_kept w h f plain c;
      marks = λ queue y z. marks_pass w h c f plain queue y z;
      told = told;
      resets = unbinds w h f plain c;
      indices = (goes w h f plain x.indices c).passes;
      ring = (ring_goes w h f plain c).passes;
      bell = bell_passes w h c f plain x.handshakes x.bell;
      given = put_as_made w h f plain x.notifications.first c;
      machine = runs w h f plain x.outcomes c;
    }
  where
    f : Facts w h
    f = a.facts

    x : Further w h
    x = a.further

    plain : NothingIsStrange w
    plain = strange_nowhere w h a
