-- All facts, over every case, but for what is missing.
use Rattle.std.proofs.Common.{ℕ}
use Rattle.mpt_rules.specs.Law.{NothingIsStrange}
use Rattle.mpt_rules.specs.World.Cases.{Case, entries, happens}
use Rattle.mpt_rules.specs.World.State.{World}
use Rattle.removal.specs.Handles.{IsHandle}
use Rattle.law_facts.specs.Disks.{Disks}
use Rattle.law_facts.specs.Facts.{Facts}
use Rattle.law_facts.specs.Handles.{Handle, Handles}
use Rattle.law_facts.specs.History.{History, history_after}
use Rattle.law_facts.specs.Messages.{Messages}
use Rattle.law_facts.specs.Notices.{Notices}
use Rattle.law_facts.specs.Paths.{Paths}
use Rattle.law_facts.specs.Ties.{Ties}
use Rattle.law_asked.proofs.Shown.{held_resets_are_kept, tasks_are_kept}
use Rattle.law_bell_status.proofs.BellStand.{bell_kept}
use Rattle.law_bring_up.proofs.Kept.{brought_up}
use Rattle.law_counts.proofs.OnlyKept.{only_kept}
use Rattle.law_counts.proofs.Shown.{counts_shown, progress_shown}
use Rattle.law_disks.proofs.DisksKept.{disk_kept}
use Rattle.law_disks.proofs.Kept.{machine_kept}
use Rattle.law_disks.proofs.Wired.{disks_kept}
use Rattle.law_given.proofs.HighWorld.{high_given}
use Rattle.law_leaving.proofs.Known.{leavings_known}
use Rattle.law_leaving.proofs.Ordered.{last_resets}
use Rattle.law_leaving.proofs.Waiting.{held_last}
use Rattle.law_lights.proofs.ClocksKept.{clocks_kept}
use Rattle.law_limits.proofs.LimitsKept.{limits_kept}
use Rattle.law_lives.proofs.Lives.{lives_stand}
use Rattle.law_lives.proofs.Standing.{bindings_stand, phases_stand}
use Rattle.law_messages.proofs.Shown.{commands_known, posts_kept}
use Rattle.law_notices.proofs.Fit.{notices_fit}
use Rattle.law_notices.proofs.Noticed.{noticed}
use Rattle.law_notices.proofs.PlugsBound.{plugs_bound}
use Rattle.law_numbers.proofs.Kept.{number_kept, resets_kept}
use Rattle.law_numbers.proofs.TallyKept.{tallies_kept}
use Rattle.law_pages.proofs.ReadyKept.{ready_kept}
use Rattle.law_paths.proofs.Kept.{stages_kept}
use Rattle.law_paths.proofs.MarksKept.{marks_kept}
use Rattle.law_places.proofs.Says.{doorbells}
use Rattle.law_ready.proofs.AddressesKept.{addresses_kept}
use Rattle.law_ready.proofs.HandlesKept.{handles_kept}
use Rattle.law_removals.proofs.Behind.{After, after_case}
use Rattle.law_removals.proofs.LastsKept.{lasts_kept}
use Rattle.law_removals.proofs.PagesBound.{pages_bound}
use Rattle.law_removals.proofs.Removed.{removals_known}
use Rattle.law_removals.proofs.ResetsBound.{resets_bound}
use Rattle.law_requests.proofs.Shown.{requests_are_kept}
use Rattle.law_returns.proofs.Whole.{flights_kept}
use Rattle.law_served.proofs.Through.{events_through}
use Rattle.law_stopping.proofs.RepliesKept.{replies_kept}
use Rattle.law_stopping.proofs.StopsPass.{lives_fair}
use Rattle.law_stopping.proofs.TargetsKept.{targets_known}
use Rattle.law_stops.proofs.Highs.{highs_kept}
use Rattle.law_talks.proofs.TalkStand.{talk_kept}
use Rattle.law_targets.proofs.AimedKept.{aimed_kept, unchosen_kept}
use Rattle.law_targets.proofs.BoundKept.{bound_kept}
use Rattle.law_targets.proofs.KnownKept.{pages_known}
use Rattle.law_targets.proofs.PlugsTold.{plugs_told}
use Rattle.law_ties.proofs.HoldersKept.{holders_kept}
use Rattle.law_ties.proofs.IndicesKept.{indices_kept}
use Rattle.law_ties.proofs.RingKept.{rings_kept}
use Rattle.law_ties.proofs.SoFarKept.{so_far_kept}
use Rattle.law_waits.proofs.Kept.{waits_kept}
use Rattle.law.specs.Further.{Further, Whole}
use Rattle.law.specs.Missing.{Missing}
use Rattle.law.proofs.FurtherKept.{strange_nowhere}

module _ (w : World) (h : History) (c : Case) (a : Whole w h) (missing : Missing (happens w c) (history_after h (entries w c))) where
  f : Facts w h
  f = a.facts

  x : Further w h
  x = a.further

  plain : NothingIsStrange w
  plain = strange_nowhere w h a

  abbrev next : World
  next = happens w c

  abbrev said : History
  said = history_after h (entries w c)

  -- what the crates of handles share
  behind : After w h next said
  behind = after_case w h c f plain x.aborts x.flights.vectors

  each_handle : (handle : ℕ) → IsHandle handle → Handle next said handle
  each_handle handle i = record {
    records = (phases_stand w h c f).phases handle i;
    binds = record {
      served = (bindings_stand w h c f).served handle i;
      aimed = (bindings_stand w h c f).aimed handle i;
      through = (events_through w h f x.notifications plain c).bound handle;
    };
    life = lives_stand w h c f plain handle i;
    page_bound = pages_bound w h c f plain behind handle i;
    resets = record { last = last_resets w h c f plain behind handle i; held = held_last w h c f plain behind handle i };
    last = record { let_go = missing.let_go handle i; one = (lasts_kept w h c f plain behind handle i).one; last = (lasts_kept w h c f plain behind handle i).last };
    pages = missing.pages handle i;
    ready = ready_kept w h c f plain x.off_hosts handle i;
    known = record {
      pages = λ n. (pages_known w h f plain x.off_hosts c n handle i).1;
      announced = λ n. (pages_known w h f plain x.off_hosts c n handle i).0;
      leaving = leavings_known w h c f plain x.flights.vectors handle i;
      plug = λ p. plugs_told w h c f handle p i;
    };
  }

  handles : Handles next said
  handles = record {
    each = each_handle;
    outside = (bindings_stand w h c f).outside;
    records = (phases_stand w h c f).records;
    waits = record {
      high = (waits_kept w h f plain c).high;
      internal = (waits_kept w h f plain c).internal;
      handles = (phases_stand w h c f).high;
      requests = (phases_stand w h c f).internal;
    };
    served = record {
      waiting = (bindings_stand w h c f).waiting;
      due = (bindings_stand w h c f).due;
      full = (bindings_stand w h c f).full;
      apart = (bindings_stand w h c f).apart;
      through = (events_through w h f x.notifications plain c).enabled;
    };
    known_once = (bindings_stand w h c f).known_once;
    differ = (bindings_stand w h c f).differ;
    bound = bound_kept w h c f plain x.aborts x.flights;
    resets = resets_bound w h c f plain behind;
    removals = removals_known w h c f plain behind;
    pages = missing.page_is;
    aimed = aimed_kept w h c f plain x.aborts x.flights;
    unchosen = unchosen_kept w h c f plain x.aborts x.flights;
    older = missing.older;
  }

  notices : Notices next said
  notices = record {
    each = λ address. noticed w h c f plain x.apart address;
    fit = notices_fit w h c f plain;
    plugs = λ handle. plugs_bound w h c f plain x.apart x.plugged handle;
    few = (limits_kept w h f plain c).few_disks;
  }

  messages : Messages next said
  messages = record {
    down = (posts_kept w h c f plain x.aborts).down;
    high = (posts_kept w h c f plain x.aborts).high;
    normal = (posts_kept w h c f plain x.aborts).normal;
    named = (commands_known w h c f plain x.aborts).named;
    unknown = (commands_known w h c f plain x.aborts).unknown;
    requests = (requests_are_kept w h c f plain x.aborts x.commands).requests;
    held = held_resets_are_kept w h c f plain x.aborts;
    out = (requests_are_kept w h c f plain x.aborts x.commands).out;
    tasks = (tasks_are_kept w h c f plain x.aborts).tasks;
    back = (tasks_are_kept w h c f plain x.aborts).back;
    said = missing.said;
    bring_up = brought_up w h f plain x.handshakes.bare x.notifications x.enables c;
  }

  paths : Paths next said
  paths = record {
    stages = (stages_kept w h f plain x.paths c).places;
    back = (stages_kept w h f plain x.paths c).back;
    said = (stages_kept w h f plain x.paths c).said;
    up = (stages_kept w h f plain x.paths c).up;
    taken = marks_kept w h f plain x.paths.tags x.paths c;
    high = λ q low top. record {
      before = ((progress_shown w h c f plain x.aborts x.answers).stands q low top).before;
      awaited = ((progress_shown w h c f plain x.aborts x.answers).stands q low top).awaited;
      is_reset = (targets_known w h f x.turns plain x.flights.vectors c).resets q low top;
    };
    only_high = only_kept w h f plain c;
    counts = (counts_shown w h c f plain x.aborts x.answers x.counts).counts;
    kinds = (counts_shown w h c f plain x.aborts x.answers x.counts).kinds;
    fair = λ s. record { fair = lives_fair w h f x.orders x.ends s plain c; highs = highs_kept h (entries w c) (λ r q. (f.paths.fair r).highs q) s };
    stops = λ s low top. record {
      waiting = (missing.stops s low top).waiting;
      at_least = (missing.stops s low top).at_least;
      taken = (missing.stops s low top).taken;
      tasked = (replies_kept w h f plain x.paths c).tasked s;
      replied = (replies_kept w h f plain x.paths c).replied s;
    };
    aborts = missing.aborts;
  }

  disks : Disks next said
  disks = record {
    numbers = number_kept w h f plain c;
    counts = record {
      mode = (tallies_kept w h f plain c).mode;
      requests = (tallies_kept w h f plain c).requests;
      aborts = missing.counts.aborts;
      resets = (tallies_kept w h f plain c).resets;
      leaving = missing.counts.leaving;
      high = missing.counts.high;
    };
    resets = resets_kept w h f plain c;
    disks = disks_kept w h f plain c;
    disk = λ address. disk_kept w h f plain address c;
    opened = missing.opened;
    made = (machine_kept w h f plain x.outcomes x.aborts x.ready c).plugs.made_fits;
    ready = handles_kept w h f plain x.off_ready c;
    ready_once = addresses_kept w h f plain x.off_ready c;
    new = missing.new;
    never = missing.never;
  }

  ties : Ties next said
  ties = record {
    index = (indices_kept w h f plain x.indices c).queues;
    rings = rings_kept w h f plain x.indices c;
    heard = missing.heard;
    unheard = missing.unheard;
    ready = missing.ready;
    holders = (holders_kept w h f x.flights.aborts x.holders c).holders;
    given = record {
      high_made = (high_given w h f plain c).made;
      internal_made = missing.made;
      high_waiting = (high_given w h f plain c).waiting;
      internal_waiting = missing.waiting;
    };
    opened = λ s. record { high = (high_given w h f plain c).opened s; internal = missing.given s };
    so_far = so_far_kept h (entries w c) f.ties.so_far;
    bell = (bell_kept w h c f plain x.handshakes x.bell).tied;
    talk = (talk_kept w h c f plain x.handshakes x.words).tied;
  }

  pub facts_stay : Facts next said
  facts_stay = record {
    limits = limits_kept w h f plain c;
    clock = clocks_kept w h c f plain;
    doorbell = doorbells w h c f plain x.handshakes;
    flights = flights_kept w h c f plain x.flights;
    handles = handles;
    notices = notices;
    messages = messages;
    paths = paths;
    disks = disks;
    ties = ties;
  }
