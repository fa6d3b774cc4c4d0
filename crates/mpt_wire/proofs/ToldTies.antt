-- What is told where a reply says it, and what isn't.
use Rattle.std.proofs.Common.{◌≡◌, ℕ, List, [], ◌∷◌, ◌++◌, None, refl, arith}
use Rattle.mpt_trace.specs.declared.input.Input.TheVariants as input
use Rattle.mpt_trace.specs.declared.lane.LaneName.TheVariants as lane
use Rattle.mpt_trace.specs.declared.item.Item.TheVariants as item
use Rattle.mpt_trace.specs.declared.item.Down.TheVariants as down
use Rattle.mpt_trace.specs.declared.item.Up.TheVariants as up
use Rattle.mpt_trace.specs.declared.outcome.Outcome.TheVariants as outcome
use Rattle.mpt_trace.specs.declared.entry.Entry.{Entry}
use Rattle.mpt_trace.specs.declared.entry.Entry.TheVariants as entry
use Rattle.mpt_wire.specs.Messages.Fields.{success_descriptor}
use Rattle.mpt_wire.specs.Ties.OpeningWrites.{OpeningsAreBare}
use Rattle.mpt_wire.specs.Ties.ToldInPlace.{TellsInPlace}
use Rattle.mpt_wire.specs.Ties.ToldNext.{RepliesAreToldNext}

abbrev hears_reply : List Entry
hears_reply = entry.Accept 1 5 1 ∷ entry.Take lane.Up (item.Up (up.Reply (success_descriptor 1) None [] [])) ∷ []

abbrev answer : Entry
answer = entry.Answer 1 (outcome.Done (record { status = 0; payload = []; sense = [] }))

-- the reply is told next
told_next : RepliesAreToldNext (hears_reply ++ answer ∷ [])
told_next = (tt, ((outcome.Done (record { status = 0; payload = []; sense = [] }), refl), (tt, tt)))

-- it isn't told
untold : RepliesAreToldNext hears_reply → ⊥
untold p = let wrong = p.1.0.1 in absurd cc

-- another entry of the host stands first
told_late : RepliesAreToldNext (hears_reply ++ entry.HostUp ∷ answer ∷ []) → ⊥
told_late p = let wrong = p.1.0.1 in absurd cc

-- ---- in its place

in_place : TellsInPlace (entry.Take lane.Up (item.Up up.Calm) ∷ entry.HostUp ∷ [])
in_place = (tt, (refl, tt))

-- behind an entry of the controller
out_of_place : TellsInPlace (entry.Given input.Start ∷ entry.Put lane.Up (item.Up up.Calm) ∷ entry.HostUp ∷ []) → ⊥
out_of_place p = let wrong = p.1.1.0 in absurd cc

-- ---- the write that opens a handshake

opens : OpeningsAreBare (entry.Put lane.Down (item.Down (down.Write 0x00 0x42030000)) ∷ [])
opens = (refl, tt)

-- with something in its low bits
opens_with : OpeningsAreBare (entry.Put lane.Down (item.Down (down.Write 0x00 0x42030001)) ∷ []) → ⊥
opens_with p = one_none p.0
  where
    one_none : ◌≡◌ {A = ℕ} 1 0 → ⊥
    one_none e = omega arith
