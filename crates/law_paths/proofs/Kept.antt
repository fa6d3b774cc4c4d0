-- Each case leaves each command at the stage of its place.
use Rattle.std.proofs.Common.{◌≡◌, false, [], List, refl}
use Rattle.mpi_doorbell.specs.DoorRegisters.{is_fault}
use Rattle.mpt_trace.specs.declared.entry.Entry.{Entry}
use Rattle.mpt_rules.specs.Host.Takes.{looks, stops}
use Rattle.mpt_rules.specs.Law.{NothingIsStrange}
use Rattle.mpt_rules.specs.World.Cases.{Case, entries, happens}
use Rattle.mpt_rules.specs.World.Settings.{Setting, first_world}
use Rattle.mpt_rules.specs.World.State.{World}
use Rattle.law_facts.specs.Facts.{Facts}
use Rattle.law_facts.specs.Flights.{Flights}
use Rattle.law_facts.specs.History.{History, first_history, history_after}
use Rattle.law_doors.proofs.Whole.{whole_kept}
use Rattle.law_moves.proofs.CasesTold.{OwesTold, kept_told}
use Rattle.law_moves.proofs.HostGoes as goes
use Rattle.law_messages.proofs.Leads.{Leads}
use Rattle.law_messages.proofs.Shown.{leads}
use Rattle.law_places.proofs.Premises as premise
use Rattle.law_returns.proofs.Whole.{flights_kept, further_at_first, further_kept}
use Rattle.law_standing.proofs.Outcomes as outcomes
use Rattle.law_paths.specs.Paths.{FurtherPaths, StagesStand}
use Rattle.law_paths.specs.Staged.{Staged}
use Rattle.law_paths.proofs.BackCases.{takes_back}
use Rattle.law_paths.proofs.CommandPosts.{bound, reads}
use Rattle.law_paths.proofs.DownCases.{puts_down, takes_down}
use Rattle.law_paths.proofs.FabricCases as fabric
use Rattle.law_paths.proofs.HostCases.{asked_of_host, host_alone, takes_up}
use Rattle.law_paths.proofs.IocCases.{works_high, works_normal}
use Rattle.law_paths.proofs.PlainKept.{plain_at_first, plain_kept}
use Rattle.law_paths.proofs.Staging.{places}
use Rattle.law_paths.proofs.TagsKept.{tags_at_first, tags_kept}
use Rattle.law_paths.proofs.UpCases.{puts_up}
use Rattle.mpt_rules.specs.World.Settings.{IsCase}

module _ (w : World) (h : History) (f : Facts w h) (plain : NothingIsStrange w) (more : FurtherPaths w h) where
  OnCase : World → List Entry → Type 0
  OnCase v t = is_fault v.ioc.door.state ≡ false → Leads w h v.host (history_after h t) → Flights v (history_after h t) → Staged v (history_after h t) v

  owes : OwesTold OnCase w
  unfolding OnCase
  owes =
      record {
        idles = λ c n l z. fabric.idles w h f more.tags c;
        host_puts = λ x rest e n l z. puts_down w h f more.tags x rest e;
        host_takes = λ queue x rest e y n l z. takes_up w h f more.tags queue x rest e (goes.heard_of queue x, premise.goes w h f plain queue x rest e) l z;
        host_told = λ i c n l z. asked_of_host w h f more.tags i c (goes.told w i c) l z;
        host_looks = λ e n l z. host_alone w h f more.tags (looks w.host) [] l z (goes.NoNews, goes.looks_on w e) (λ a. tt);
        host_stops = λ e n l z. host_alone w h f more.tags (stops w.host) [] l z (goes.NoNews, goes.stops_now w e) (λ a. tt);
        no_session = λ n l z. fabric.quietly w h f more.tags w [] refl (λ s. tt) tt;
        ioc_takes = λ x rest e n l z. takes_down w h f more.tags x rest e n;
        ioc_high = λ p rest e n l z. works_high w h f more.tags (reads w h f more.plain) (bound w h f more.plain) p rest e;
        ioc_normal = λ p rest e n l z. works_normal w h f more.tags (reads w h f more.plain) (bound w h f more.plain) p rest e;
        ioc_puts_out = λ x rest e n l z. fabric.puts_out w h f more.tags x rest e;
        ioc_takes_back = λ x rest e n l z. takes_back w h f more.tags more.outcomes x rest e;
        ioc_puts = λ queue y rest x e u n l z. puts_up w h f more.tags more.outcomes queue y rest x e u;
        fabric_takes = λ x rest e n l z. fabric.takes_out w h f more.tags x rest e;
        fabric_says = λ x rest e n l z. fabric.says w h f more.tags x rest e;
        fabric_puts = λ x rest e n l z. fabric.puts_back w h f more.tags x rest e;
        fabric_runs = λ tag address e n l z. fabric.runs w h f more.tags tag address e;
        plugs = λ address expander phy t p n l z. fabric.plugged w h f more.tags address expander phy t p;
        unplugs = λ address t p n l z. fabric.unplugged w h f more.tags address t p;
        calms = λ n l z. fabric.calmed w h f more.tags;
      }

  all_staged : (c : Case) → Staged (happens w c) (history_after h (entries w c)) (happens w c)
  unfolding OnCase
  all_staged c = kept_told OnCase w plain owes c (whole_kept w h f plain c) (leads w h c f plain more.flights.aborts) (flights_kept w h c f plain more.flights)

  pub stages_kept : (c : Case) → StagesStand (happens w c) (history_after h (entries w c))
  stages_kept c =
      let z = all_staged c in
      record { places = places (happens w c) (history_after h (entries w c)) z; back = z.back; said = z.said; up = z.up }

  pub further_paths_kept : (c : Case) → IsCase c → FurtherPaths (happens w c) (history_after h (entries w c))
  further_paths_kept c i =
      record {
        flights = further_kept w h c f plain more.flights;
        tags = tags_kept w h f more.tags plain c;
        plain = plain_kept w h f more.plain c i;
        outcomes = outcomes.outcomes_fit h (entries w c) more.outcomes;
      }

pub further_paths_at_first : (s : Setting) → FurtherPaths (first_world s) (first_history s.disks)
further_paths_at_first s = record { flights = further_at_first s; tags = tags_at_first s; plain = plain_at_first s.disks; outcomes = outcomes.outcomes_fit_first s.disks }
