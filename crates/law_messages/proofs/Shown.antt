-- What is shown of messages.
use Rattle.mpt_rules.specs.Law.{NothingIsStrange}
use Rattle.mpt_rules.specs.World.Cases.{Case, entries, happens}
use Rattle.mpt_rules.specs.World.State.{World}
use Rattle.law_facts.specs.Facts.{Facts}
use Rattle.law_facts.specs.History.{History, history_after}
use Rattle.law_clock.specs.Premises.{Before, Behind}
use Rattle.law_doors.proofs.DoorsKept.{resets_heeded}
use Rattle.law_doors.proofs.StageWorld.{stage_kept}
use Rattle.law_doors.proofs.Started.{started_kept}
use Rattle.law_doors.proofs.Whole.{whole_kept}
use Rattle.law_messages.specs.Numbers.{AbortsAreAccepted}
use Rattle.law_messages.specs.Commands.{CommandsKnown}
use Rattle.law_messages.specs.Posts.{PostsStand}
use Rattle.law_messages.proofs.AcceptedKept as accepted
use Rattle.law_messages.proofs.Leads.{Leads}
use Rattle.law_messages.proofs.NamedKept.{named_kept, unknown_kept}
use Rattle.law_messages.proofs.PostsKept as posts

module _ (w : World) (h : History) (c : Case) (f : Facts w h) (plain : NothingIsStrange w) where
  before : Before w h
  before = record { facts = f; plain = plain; heeded = resets_heeded w h f }

  behind : Behind (happens w c)
  behind = record { whole = whole_kept w h f plain c; stage = stage_kept w h before c; started = started_kept w h before c }

  -- where the case leads the host's records
  pub leads : AbortsAreAccepted w → Leads w h (happens w c).host (history_after h (entries w c))
  leads a = posts.leads w h before a c behind

  pub posts_kept : AbortsAreAccepted w → PostsStand (happens w c) (history_after h (entries w c))
  posts_kept a = posts.posts_kept w h before a c behind

  pub commands_known : AbortsAreAccepted w → CommandsKnown (happens w c) (history_after h (entries w c))
  commands_known a =
      let l = posts.leads w h before a c behind in
      record { named = named_kept w h f (happens w c) (history_after h (entries w c)) l; unknown = unknown_kept w h f (happens w c) (history_after h (entries w c)) l }

  pub aborts_stay : AbortsAreAccepted w → AbortsAreAccepted (happens w c)
  aborts_stay a = accepted.aborts_stay_accepted w h f plain a c
