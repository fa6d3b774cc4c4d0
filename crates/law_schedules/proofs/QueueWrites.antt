-- The model of the controller's queues goes with the controller through each item of the host that it takes: a register
-- that is written leaves the queues, or a reset empties them, which the trace tells.
use Rattle.std.proofs.Common.{ℕ, ◌≡◌, Bool, true, false, not, ◌||◌, if◌then◌else◌, [], ◌∷◌, ◌++◌, take, refl, sym, subst}
use Rattle.mpi_doorbell.specs.DoorRegisters.{is_fault, register_written}
use Rattle.mpi_doorbell.specs.declared.effect.Effect.{Effect}
use Rattle.mpi_doorbell.specs.declared.effect.Effect.TheVariants as effect
use Rattle.mpt_trace.specs.declared.entry.Entry.TheVariants as entry
use Rattle.mpt_trace.specs.declared.item.Down.{Down}
use Rattle.mpt_trace.specs.declared.item.Down.TheVariants as down
use Rattle.mpt_trace.specs.declared.item.Item.TheVariants as item
use Rattle.mpt_trace.specs.declared.lane.LaneName.TheVariants as lane
use Rattle.mpt_wire.specs.Fits.Queued.{Queued, queued_after, queued_by}
use Rattle.mpt_rules.specs.Ioc.Parts.{Ioc, state_of}
use Rattle.mpt_rules.specs.Ioc.Posts.{bad_return, frame_here, frame_near, is_frame_address}
use Rattle.mpt_rules.specs.Ioc.Registers.{after_effect, handshakes, writes}
use Rattle.mpt_rules.specs.Ioc.Replies.{with_out_item}
use Rattle.mpt_trace.specs.declared.item.Out.TheVariants as out
use Rattle.mpt_rules.specs.Ioc.Tables as table
use Rattle.mpt_rules.specs.Ioc.Takes.{posts_if_operational, returns_if_operational, takes_down, takes_stop}
use Rattle.law_moves.proofs.IocTakes.{ComesUp, Shook, Stays, shook}
use Rattle.law_schedules.proofs.QueueModel.{QueuesFit, post_came}

-- a post comes to a controller that is OPERATIONAL and doesn't fault of it
abbrev pub IsTaken : Ioc → Down → Type 0
IsTaken i (down.Write reg value) = Unit {0}
IsTaken i (down.Read reg) = Unit {0}
IsTaken i (down.Post descriptor frame payload) = (table.is_operational (state_of i) ≡ true) × (is_fault (posts_if_operational i descriptor frame payload).door.state ≡ false)
IsTaken i (down.Return address index) = Unit {0}
IsTaken i down.Stop = Unit {0}

module _ (g : Queued) (i : Ioc) (h : QueuesFit g i) where
  pub write_came : (reg value : ℕ) → QueuesFit (queued_after g (writes i reg value).entries) (writes i reg value).part
  write_came reg value = by_effect (register_written i.door reg value).effect
    where
      j : Ioc
      j = record i { door = (register_written i.door reg value).registers }

      by_shook : (k : Ioc) → Shook j k → QueuesFit g k
      by_shook k (Stays s e) = subst (λ (m : Ioc). QueuesFit g m) (sym e) h
      by_shook k (ComesUp a s e) = subst (λ (m : Ioc). QueuesFit g m) (sym e) h

      by_effect : (f : Effect) → QueuesFit (queued_after g (after_effect j f).entries) (after_effect j f).part
      by_effect effect.None = h
      by_effect (effect.Asked count bytes) = by_shook (handshakes j (take count bytes)) (shook j (take count bytes))
      by_effect effect.UnitReset = record { high_are = refl; normal_are = refl; plain = refl }
      by_effect effect.AdapterReset = record { high_are = refl; normal_are = refl; plain = refl }
      by_effect (effect.Fault code) = h

  pub return_came : (address : ℕ) → QueuesFit g (returns_if_operational i address)
  return_came address = by_state (table.is_operational (state_of i)) (not (is_frame_address address) || frame_here i (frame_near address))
    where
      by_state : (c b : Bool) → QueuesFit g (if c then if b then table.faults i bad_return else record i { ring = i.ring ++ frame_near address ∷ [] } else i)
      by_state true true = h
      by_state true false = h
      by_state false b = h

  pub stop_came : QueuesFit g (takes_stop i)
  stop_came = by_state (is_fault (state_of i))
    where
      by_state : (c : Bool) → QueuesFit g (if c then i else with_out_item i out.Stop)
      by_state true = h
      by_state false = h

  -- any item of the host
  pub down_came : (d : Down) → IsTaken i d → QueuesFit (queued_after (queued_by g (entry.Take lane.Down (item.Down d))) (takes_down i d).entries) (takes_down i d).part
  down_came (down.Write reg value) t = write_came reg value
  down_came (down.Read reg) t = h
  down_came (down.Post descriptor frame payload) t = post_came g i h descriptor frame payload t.0 t.1
  down_came (down.Return address index) t = return_came address
  down_came down.Stop t = stop_came
