-- The trace that the machine of disks refuses is kept by each other rule of this crate.
use Rattle.std.proofs.Common.{ℕ, List, refl, arith}
use Rattle.mpt_wire.specs.OnWire.{HandlesPass, MessagesPass, QueuesPass}
use Rattle.mpt_wire.specs.Fits.Ties.{IsTied}
use Rattle.mpt_wire.specs.Paths.Rules.{PathsPass}
use Rattle.mpt_wire.specs.Paths.Stops.{IsFair, new_life}
use Rattle.mpt_wire.specs.Queues.Frames.{FramesPass}
use Rattle.mpt_wire.specs.Queues.Identifiers.{ClassesKept, IdentifiersPass}
use Rattle.mpt_wire.specs.Queues.Lanes.{LanesPass}
use Rattle.mpt_wire.specs.Queues.LeastFree.{LeastPass}
use Rattle.mpt_wire.specs.Ties.OnWire.{TiesPass}
use Rattle.mpt_wire.specs.Ties.ToldInPlace.{TellsInPlace}
use Rattle.mpt_wire.proofs.LoneBreaks.{reset_unstarted}

keeps_queues : LanesPass reset_unstarted × IdentifiersPass reset_unstarted × ClassesKept reset_unstarted × LeastPass reset_unstarted × FramesPass reset_unstarted
keeps_queues = (λ lane. (tt, tt), λ s other. (tt, tt), (tt, tt), (tt, tt), λ address. (tt, tt))

keeps_handles : HandlesPass reset_unstarted
keeps_handles = record {
  plugs = record { passes = (tt, tt); ended = refl };
  unbinds = (tt, tt);
  pages = (tt, tt);
  posts = (tt, tt);
  tasks = (tt, tt);
  leaving = λ h. (tt, tt);
}

keeps_messages : (q : ℕ) → QueuesPass q reset_unstarted × MessagesPass q reset_unstarted
keeps_messages q = (
  record { replies = (tt, tt); marks = λ i low high. (tt, tt) },
  record { frames = (tt, tt); doorbell = ((tt, tt), tt) },
)

is_fair : IsFair new_life
is_fair = record { at_most_one = omega arith; no_task = λ h. refl; no_other = λ h. refl; one = λ a b c. absurd cc }

keeps_paths : PathsPass reset_unstarted
keeps_paths = record { paths = λ s. (tt, tt); replies = λ s. (tt, tt); counts = λ q. (tt, tt); stops = λ s. ((tt, is_fair), tt) }

keeps_ties : (phys : List ℕ) → IsTied reset_unstarted × TiesPass phys reset_unstarted × TellsInPlace reset_unstarted
keeps_ties phys = (
  record { told = (tt, tt); resets = (refl, tt); indices = (tt, tt); frames = (tt, tt); status = (tt, tt); identifiers = (tt, tt) },
  record {
    commands = λ s. (tt, tt);
    payloads = (tt, tt);
    replies = λ s low. (tt, tt);
    events = (tt, tt);
    pages = (tt, tt);
    acknowledged = (tt, tt);
    known = (tt, tt);
    handles = (tt, tt);
    told = (tt, tt);
    removals = λ s low. (tt, tt);
    openings = (tt, tt);
  },
  (tt, tt),
)
