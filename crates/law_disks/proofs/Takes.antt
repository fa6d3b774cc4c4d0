-- What is taken from a lane counts departures, and changes nothing else of the machine.
use Rattle.std.proofs.Common.{◌≡◌, ℕ, ◌+◌, ◌-◌, ◌==◌, ◌&&◌, not, Bool, true, false, if◌then◌else◌, List, [], ◌∷◌, ◌++◌, Option, Some, None, refl}
use Rattle.mpt_wire.specs.Messages.Fields.{Change, changes_in, smid_in, target_not_responding}
use Rattle.mpt_wire.specs.Machine.SoFar.{SoFar, announced_next}
use Rattle.mpt_wire.specs.Machine.State.{Machine}
use Rattle.mpt_wire.specs.Machine.Steps.{HasLeft, Leaves, after_all}
use Rattle.mpt_wire.specs.Machine.View.{departures, is_target_end, let_go, steps_of}
use Rattle.mpt_trace.specs.declared.entry.Entry.{Entry}
use Rattle.mpt_trace.specs.declared.entry.Entry.TheVariants as entry
use Rattle.mpt_trace.specs.declared.item.Item.{Item}
use Rattle.mpt_trace.specs.declared.item.Item.TheVariants as item
use Rattle.mpt_trace.specs.declared.item.Up.TheVariants as upward
use Rattle.mpt_trace.specs.declared.lane.LaneName.{LaneName}
use Rattle.mpt_trace.specs.declared.lane.LaneName.TheVariants as lane

abbrev pub OnlyLeaving : Machine → Machine → Type 0
OnlyLeaving m o = (k : ℕ) × (o ≡ record m { leaving = k })

gone : (m : Machine) (r : Bool) (announced : ℕ → Bool) (cs : List Change) → OnlyLeaving m (after_all m (departures r announced cs))
unfolding departures
gone m r announced [] = (m.leaving, refl)
gone m r announced (c ∷ cs) = by_test (c.status == target_not_responding && announced c.handle && not r) (gone (record m { leaving = m.leaving + 1 }) r (announced_next announced c) cs) (gone m r (announced_next announced c) cs)
  where
    by_test : (b : Bool) → OnlyLeaving (record m { leaving = m.leaving + 1 }) (after_all (record m { leaving = m.leaving + 1 }) (departures r (announced_next announced c) cs)) → OnlyLeaving m (after_all m (departures r (announced_next announced c) cs))
        → OnlyLeaving m (after_all m ((if b then Leaves ∷ [] else []) ++ departures r (announced_next announced c) cs))
    by_test true x y = x
    by_test false x y = y

lets_go : (m : Machine) (g : SoFar) (s : ℕ) (ahead : Option Entry) → OnlyLeaving m (after_all m (let_go g s ahead))
lets_go m g s ahead = by_test (g.is_target_reset s && not g.resetting && not (is_target_end ahead))
  where
    by_test : (b : Bool) → OnlyLeaving m (after_all m (if b then HasLeft ∷ [] else []))
    by_test true = (m.leaving - 1, refl)
    by_test false = (m.leaving, refl)

reply : (m : Machine) (g : SoFar) (d : ℕ) (f : Option (List ℕ)) (page sense : List ℕ) (ahead : Option Entry) → OnlyLeaving m (after_all m (steps_of g (entry.Take lane.Up (item.Up (upward.Reply d f page sense))) ahead))
reply m g d None page sense ahead = lets_go m g (smid_in d) ahead
reply m g d (Some frame) page sense ahead = by_test (smid_in d == 0)
  where
    by_test : (b : Bool) → OnlyLeaving m (after_all m (if b then departures g.resetting g.announced (changes_in frame) else let_go g (smid_in d) ahead))
    by_test true = gone m g.resetting g.announced (changes_in frame)
    by_test false = lets_go m g (smid_in d) ahead

on_up : (m : Machine) (g : SoFar) (x : Item) (ahead : Option Entry) → OnlyLeaving m (after_all m (steps_of g (entry.Take lane.Up x) ahead))
on_up m g (item.Up (upward.Reply d f page sense)) ahead = reply m g d f page sense ahead
on_up m g (item.Up (upward.Value value)) ahead = (m.leaving, refl)
on_up m g (item.Up (upward.Mark generation)) ahead = (m.leaving, refl)
on_up m g (item.Up upward.Calm) ahead = (m.leaving, refl)
on_up m g (item.Down x) ahead = (m.leaving, refl)
on_up m g (item.Out x) ahead = (m.leaving, refl)
on_up m g (item.Back x) ahead = (m.leaving, refl)
on_up m g (item.Ask x) ahead = (m.leaving, refl)
on_up m g (item.Tell x) ahead = (m.leaving, refl)

pub take_leaves : (m : Machine) (g : SoFar) (l : LaneName) (x : Item) (ahead : Option Entry) → OnlyLeaving m (after_all m (steps_of g (entry.Take l x) ahead))
take_leaves m g lane.Up x ahead = on_up m g x ahead
take_leaves m g lane.Down x ahead = (m.leaving, refl)
take_leaves m g (lane.UpOn queue) x ahead = (m.leaving, refl)
take_leaves m g lane.Out x ahead = (m.leaving, refl)
take_leaves m g lane.Back x ahead = (m.leaving, refl)
take_leaves m g (lane.Ask i) x ahead = (m.leaving, refl)
take_leaves m g (lane.Tell i) x ahead = (m.leaving, refl)
