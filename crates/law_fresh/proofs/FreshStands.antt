-- What is shown of a start's beginning, over all cases.
use Rattle.std.proofs.Common.{refl}
use Rattle.mpt_rules.specs.World.Cases.{Case, happens}
use Rattle.mpt_rules.specs.Law.{NothingIsStrange}
use Rattle.mpt_rules.specs.World.Settings.{Setting, first_world}
use Rattle.mpt_rules.specs.World.State.{World}
use Rattle.law_facts.specs.DoorAhead.{FreshStart}
use Rattle.law_facts.specs.Facts.{Facts}
use Rattle.law_facts.specs.History.{History}
use Rattle.law_starts.specs.Starts.{StartsStand}
use Rattle.law_starts.proofs.LiveKept.{live_kept}
use Rattle.law_starts.proofs.OffKept.{off_kept}
use Rattle.law_starts.proofs.StartsKept.{before}
use Rattle.law_fresh.specs.Bare.{StartsBare}
use Rattle.law_fresh.proofs.BareKept.{bare_kept}
use Rattle.law_fresh.proofs.FreshKept.{fresh_kept, given_kept}

pub bare_stands : (w : World) (h : History) (c : Case) → Facts w h → NothingIsStrange w → StartsBare w → StartsBare (happens w c)
bare_stands w h c f plain n = bare_kept w h (before w h f plain) n c

-- at first no start has begun
pub bare_at_first : (s : Setting) → StartsBare (first_world s)
bare_at_first s e m = absurd (cc)

pub fresh_stands : (w : World) (h : History) (c : Case) → Facts w h → NothingIsStrange w → StartsStand w → StartsBare w → FreshStart (happens w c)
fresh_stands w h c f plain s n =
    let b = before w h f plain in
    record { fresh = fresh_kept w h b n c; init = live_kept w h b s c; off = off_kept w h b c; given_up = given_kept w h b n c }
