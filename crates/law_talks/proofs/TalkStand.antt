-- What is shown of the words of a handshake, over all cases.
use Rattle.std.proofs.Common.{◌≡◌, length, length-set, refl, sym, ◌∙◌, subst}
use Rattle.mpt_rules.specs.Law.{NothingIsStrange}
use Rattle.mpt_rules.specs.Host.Parts.{host_queue_count}
use Rattle.mpt_rules.specs.World.Cases.{Case, entries, happens}
use Rattle.mpt_rules.specs.World.Counts.{how_many}
use Rattle.mpt_rules.specs.World.Settings.{Setting, first_world}
use Rattle.mpt_rules.specs.World.State.{World, queues_of}
use Rattle.law_facts.specs.DoorAhead.{first_read}
use Rattle.law_facts.specs.Facts.{Facts}
use Rattle.law_facts.specs.History.{History, first_history, history_after}
use Rattle.law_moves.proofs.Cases.{Owes, kept}
use Rattle.law_sizes.proofs.SizesKept.{sizes_kept}
use Rattle.law_starts.proofs.StartsKept.{before}
use Rattle.law_bells.specs.Talks.{TalksStand}
use Rattle.law_talks.specs.Shown.{TalkKept, TalkPasses}
use Rattle.law_talks.specs.Talking.{TalkStands}
use Rattle.law_talks.proofs.Holding.{TalkOn, of_tied, to_tied}
use Rattle.law_talks.proofs.TalkKept as goes

module _ (w : World) (h : History) (c : Case) (f : Facts w h) (plain : NothingIsStrange w) (t : TalksStand w) (g : TalkStands w h) where
  -- there are as many reply queues as before
  queues_stay : queues_of (happens w c) ≡ queues_of w
  queues_stay = kept (λ v. length v.up ≡ length w.up) w plain owes refl c
    where
      owes : Owes (λ v. length v.up ≡ length w.up) w
      owes =
          record {
            host_puts = λ x rest e. refl;
            host_takes = λ queue x rest e y. length-set w.up queue rest;
            host_told = λ i q. refl;
            host_looks = λ e. refl;
            host_stops = λ e. refl;
            ioc_takes = λ x rest e. refl;
            ioc_high = λ p rest e. refl;
            ioc_normal = λ p rest e. refl;
            ioc_puts_out = λ x rest e. refl;
            ioc_takes_back = λ x rest e. refl;
            ioc_puts = λ queue y rest z e u. length-set w.up queue _;
            fabric_takes = λ x rest e. refl;
            fabric_says = λ x rest e. refl;
            fabric_puts = λ x rest e. refl;
            fabric_runs = λ tag address e. refl;
            plugs = λ address expander phy. refl;
            unplugs = λ address. refl;
            calms = refl;
          }

  queues_are : queues_of w ≡ host_queue_count (happens w c).host
  queues_are = sym queues_stay ∙ (sizes_kept w c f.flights.sizes).lanes

  now : TalkOn (queues_of w) w h.door.talk h.door.reading h.door.asked
  now = subst (λ q. TalkOn q w h.door.talk h.door.reading h.door.asked) (sym f.flights.sizes.lanes) (of_tied w h f.ties.talk g)

  behind : goes.TalkGoes w h (before w h f plain) t.starts t.handshakes c now g.read (happens w c) (entries w c)
  behind = goes.talk_goes w h (before w h f plain) t.starts t.handshakes c now g.read

  then : TalkOn (host_queue_count (happens w c).host) (happens w c) (history_after h (entries w c)).door.talk (history_after h (entries w c)).door.reading (history_after h (entries w c)).door.asked
  then = subst (λ q. TalkOn q (happens w c) (history_after h (entries w c)).door.talk (history_after h (entries w c)).door.reading (history_after h (entries w c)).door.asked) queues_are behind.holds

  pub talk_kept : TalkKept (happens w c) (history_after h (entries w c))
  talk_kept = record { tied = to_tied (happens w c) (history_after h (entries w c)) then; further = record { go_on = then.go_on; read = behind.knows; quiet = then.quiet } }

  pub talk_passes : TalkPasses (queues_of w) h (entries w c)
  talk_passes = behind.passes

pub stands_at_first : (s : Setting) → TalkStands (first_world s) (first_history s.disks)
unfolding how_many first_read
stands_at_first s = record { go_on = tt; read = λ reg e. absurd (cc); quiet = λ n u. refl }
