-- What is shown of requests at the fabric.
use Rattle.mpt_rules.specs.World.Cases.{Case, entries, happens}
use Rattle.mpt_rules.specs.Law.{NothingIsStrange}
use Rattle.mpt_rules.specs.World.State.{World}
use Rattle.law_facts.specs.Facts.{Facts}
use Rattle.law_facts.specs.History.{History, history_after}
use Rattle.law_messages.specs.Numbers.{AbortsAreAccepted}
use Rattle.law_messages.proofs.Shown.{leads}
use Rattle.law_doors.proofs.Whole.{whole_kept}
use Rattle.law_requests.specs.Bytes.{CommandsAreBytes, RequestsStand}
use Rattle.law_requests.proofs.RequestsKept.{requests_kept}

pub requests_are_kept : (w : World) (h : History) (c : Case) → Facts w h → NothingIsStrange w → AbortsAreAccepted w → CommandsAreBytes h → RequestsStand (happens w c) (history_after h (entries w c))
requests_are_kept w h c f plain a bytes = requests_kept w h f bytes plain c (whole_kept w h f plain c) (leads w h c f plain a)
