-- What is shown of what is put.
use Rattle.mpt_wire.specs.Messages.Standing.{MessageAsks}
use Rattle.mpt_wire.specs.Walks.Passes.{EachEntry}
use Rattle.mpt_rules.specs.Law.{NothingIsStrange}
use Rattle.mpt_rules.specs.World.Cases.{Case, entries, happens}
use Rattle.mpt_rules.specs.World.State.{World, queues_of}
use Rattle.law_facts.specs.Facts.{Facts}
use Rattle.law_facts.specs.History.{History}
use Rattle.law_standing.specs.Written.{OutcomesFit, RepliesAreWritten}
use Rattle.law_standing.proofs.EntriesPass.{entries_pass}
use Rattle.law_standing.proofs.RepliesKept as replies

pub messages_pass : (w : World) (h : History) (c : Case) → Facts w h → NothingIsStrange w → OutcomesFit h → RepliesAreWritten w → EachEntry (MessageAsks (queues_of w)) (entries w c)
messages_pass w h c f plain o r = entries_pass w h f plain o r c

pub replies_stay_written : (w : World) (h : History) (c : Case) → Facts w h → NothingIsStrange w → RepliesAreWritten w → RepliesAreWritten (happens w c)
replies_stay_written w h c f plain r = replies.replies_kept w h f plain r c
