-- What is tied, as it is shown of the world behind a case and of the case's entries.
use Rattle.std.specs.Prelude.{◌≡◌, ℕ, ◌<◌, ◌==◌, ◌||◌, not, nat_lt, Bool, true, false, List}
use Rattle.mpi_doorbell.specs.declared.registers.TheConstants.{REPLY_POST_HOST_INDEX}
use Rattle.mpt_trace.specs.declared.entry.Entry.{Entry}
use Rattle.mpt_trace.specs.declared.item.Down.{Down}
use Rattle.mpt_trace.specs.declared.item.Down.TheVariants as down
use Rattle.mpt_wire.specs.Messages.Registers.{IndicesAsk, RingAsks, UnbindsAtResets, indices_next, is_reset_write, queue_in, ring_next}
use Rattle.mpt_wire.specs.Walks.Passes.{Passes, state_after}
use Rattle.mpt_rules.specs.Host.Parts.{host_queue_count}
use Rattle.mpt_rules.specs.World.State.{World}
use Rattle.law_facts.specs.History.{History}
use Rattle.law_facts.specs.Ties.{QueueIndex}
use Rattle.law_facts.specs.Words.{others}

-- ---- a further fact of the host's rings, which no other fact gives: it stands in the first world, and each case keeps it

-- a write of ReplyPostHostIndex names one of so many queues
abbrev pub is_index_within : ℕ → Down → Bool
is_index_within n (down.Write reg value) = not (reg == REPLY_POST_HOST_INDEX) || nat_lt (queue_in value) n
is_index_within n _ = true

-- each index that is to be put is of a queue that there is
abbrev pub IndicesAreOfQueues : World → Type 0
IndicesAreOfQueues w = others (is_index_within (host_queue_count w.host)) w.host.out ≡ 0

-- ---- the host's rings

pub record IndicesKept (w : World) (h : History) : Type 0 where
  pub queues : (queue : ℕ) → queue < host_queue_count w.host → QueueIndex w h queue
  pub further : IndicesAreOfQueues w

abbrev pub IndicesPass : History → List Entry → Type 0
IndicesPass h t = Passes indices_next IndicesAsk h.indices t

-- ---- the reply free ring

abbrev pub RingPasses : History → List Entry → Type 0
RingPasses h t = Passes ring_next RingAsks h.ring t

-- ---- resets

-- `unbind all` stands right behind each taking of a write that begins a reset, and nowhere else; none such is the last
pub record ResetsUnbind (t : List Entry) : Type 0 where
  pub passes : UnbindsAtResets t
  pub done : state_after (λ (due : Bool) e. is_reset_write e) false t ≡ false

-- ---- what was said so far

-- the rule of least posts and the view have the same of it
abbrev pub WordsAgree : History → Type 0
WordsAgree h = h.giving.so_far ≡ h.so_far
