-- Further facts of the words of a handshake: what the writes that are to be put make of it.
use Rattle.std.specs.Prelude.{◌≡◌, ℕ, ◌==◌, List, [], ◌∷◌, Some, None, true}
use Rattle.std.specs.Bool.{MatchBool}
use Rattle.mpi_doorbell.specs.declared.registers.TheConstants.{WRITE_SEQUENCE}
use Rattle.mpt_wire.specs.Messages.DoorbellWords.{IsTalk, MayCut, Talk, is_over, written}
use Rattle.mpt_trace.specs.declared.item.Down.{Down}
use Rattle.mpt_trace.specs.declared.item.Down.TheVariants as down
use Rattle.mpt_rules.specs.Host.Parts.{host_queue_count}
use Rattle.mpt_rules.specs.World.Counts.{how_many, is_register_write}
use Rattle.mpt_rules.specs.World.State.{World}
use Rattle.law_facts.specs.Clock.{in_begun}
use Rattle.law_facts.specs.DoorAhead.{first_read}
use Rattle.law_facts.specs.History.{History}

-- after each write the talk is one of the host's, and it is cut off only where a reset was asked
abbrev pub TalkGoesOn : ℕ → ℕ → Talk → List Down → Type 0
TalkGoesOn q asked talk [] = Unit {0}
TalkGoesOn q asked talk (down.Write reg value ∷ items) =
    MatchBool (reg == WRITE_SEQUENCE) (MayCut (is_over talk) asked) (Unit {0}) × (IsTalk q (written talk reg value) × TalkGoesOn q asked (written talk reg value) items)
TalkGoesOn q asked talk (item ∷ items) = TalkGoesOn q asked talk items

pub record TalkStands (w : World) (h : History) : Type 0 where
  pub go_on : TalkGoesOn (host_queue_count w.host) h.door.asked h.door.talk w.host.out
  -- the read that the controller hasn't taken is the one that the rule knows
  pub read : (reg : ℕ) → first_read w.down ≡ Some reg → h.door.reading ≡ Some reg
  -- a reset that waits for marks alone writes nothing more
  pub quiet : w.host.machine ≡ None → in_begun w ≡ true → how_many is_register_write w.host.out ≡ 0
