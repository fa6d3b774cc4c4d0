-- What is shown of the counts of aborts and target resets.
use Rattle.std.specs.Prelude.{◌≡◌, ℕ, ◌+◌, ◌^◌, ◌<◌, ◌≤◌, true, All}
use Rattle.mpt_trace.specs.declared.item.Back.{Back}
use Rattle.mpt_trace.specs.declared.item.Back.TheVariants as back
use Rattle.mpt_wire.specs.Paths.TerminationCounts.{Awaited, NotSent}
use Rattle.mpt_rules.specs.Ioc.Replies.{outbox_of}
use Rattle.mpt_rules.specs.World.FabricCounts.{abort_end_count, reset_end_count, sent_abort_count, sent_reset_count}
use Rattle.mpt_rules.specs.World.Lines.{back_line}
use Rattle.mpt_rules.specs.World.State.{World}
use Rattle.law_facts.specs.History.{History}
use Rattle.law_facts.specs.Paths.{CountOf, CountOfKind, OnlyHigh, before_fabric, is_asked_of_fabric, opened}
use Rattle.law_facts.specs.Words.{slot}

-- of what is no identifier of task management the rules know nothing
abbrev pub KnowsHighAlone : History → Type 0
KnowsHighAlone h = (s : ℕ) → OnlyHigh h s

-- ---- a further fact, which no other gives where the controller was reset: it stands in the first world, and each case keeps it

-- what was put for the fabric of an abort or a target reset, and what the fabric tells of it
abbrev pub asked_tokens : World → ℕ → ℕ
asked_tokens w q = (sent_abort_count q w.out + sent_reset_count q w.out) + (abort_end_count q (back_line w) + reset_end_count q (back_line w))

-- it is of task management, and its count is awaited, also where a reset dropped its request
pub record AwaitsCount (w : World) (h : History) (q : ℕ) : Type 0 where
  pub high : 1 ≤ asked_tokens w q → (257 ≤ q) × (q ≤ 264)
  pub awaited : 1 ≤ asked_tokens w q → h.high q ≡ opened Awaited (slot w.host q)

abbrev pub FabricAnswers : World → History → Type 0
FabricAnswers w h = (q : ℕ) → AwaitsCount w h q

-- ---- and another: what the fabric counts for a target reset fits the field of the reply

abbrev pub CountFits : Back → Type 0
CountFits (back.Cleared smid count) = count < 2 ^ 32
CountFits item = Unit {0}

abbrev pub CountsFit : World → Type 0
CountsFit w = All CountFits (back_line w)

-- ---- how far aborts and target resets are

-- where nothing was asked of the fabric, and where its count is awaited
pub record ProgressStands (w : World) (h : History) (q : ℕ) : Type 0 where
  pub before : 1 ≤ before_fabric w q → h.high q ≡ opened NotSent (slot w.host q)
  pub awaited : is_asked_of_fabric w q ≡ true → sent_abort_count q w.ioc.out + sent_reset_count q w.ioc.out ≡ 0 → h.high q ≡ opened Awaited (slot w.host q)

pub record ProgressKept (w : World) (h : History) : Type 0 where
  pub stands : (q : ℕ) → 257 ≤ q → q ≤ 264 → ProgressStands w h q
  pub further : FabricAnswers w h

-- ---- the counts that wait to be told

pub record CountsKept (w : World) (h : History) : Type 0 where
  pub counts : All (CountOf w h) (outbox_of w.ioc 0)
  pub kinds : All (CountOfKind w h) (outbox_of w.ioc 0)
  pub further : CountsFit w
