-- The news that the lines hold: of a disk on the notice line, and of a handle on the line of reply queue 0.
use Rattle.std.specs.Prelude.{ℕ, zero, ◌==◌, Bool, false, List, [], ◌∷◌, ◌++◌, filter_map, Option, Some, None, if◌then◌else◌}
use Rattle.mpt_wire.specs.Messages.Fields.{Change, changes_in, target_added, target_not_responding}
use Rattle.mpt_trace.specs.declared.item.Back.{Back}
use Rattle.mpt_trace.specs.declared.item.Back.TheVariants as back
use Rattle.mpt_rules.specs.declared.said.Said.{Said}
use Rattle.mpt_rules.specs.declared.said.Said.TheVariants as said

-- the news of a plug or an unplug of a disk
abbrev pub is_notice_of : ℕ → Back → Bool
is_notice_of a (back.Plugged address plug expander phy) = address == a
is_notice_of a (back.Unplugged address plug expander phy) = address == a
is_notice_of a _ = false

-- the news of the disks of an address, in order
unfoldable pub notices_of : ℕ → List Back → List Back
notices_of address [] = []
notices_of address (item ∷ items) = if is_notice_of address item then item ∷ notices_of address items else notices_of address items

-- what an event tells of a handle
pub data News : Type 0 where
  Added : News
  NotResponding : News

-- what a PhyStatus tells
abbrev pub news_by_status : ℕ → Option News
news_by_status status =
    if status == target_added then Some Added
    else (if status == target_not_responding then Some NotResponding else None)

-- what a change tells of a handle
abbrev pub news_in_change : ℕ → Change → Option News
news_in_change handle change = if change.handle == handle then news_by_status change.status else None

-- what an item tells of a handle
abbrev pub news_in : ℕ → Said → List News
news_in handle (said.Framed zero frame page sense) = filter_map (news_in_change handle) (changes_in frame)
news_in handle _ = []

-- what the events tell of a handle, in order
unfoldable pub events_of : ℕ → List Said → List News
events_of handle [] = []
events_of handle (item ∷ items) = news_in handle item ++ events_of handle items
