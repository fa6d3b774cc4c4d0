-- The outboxes of the reply queues. The rules' `Ioc` has their items; how much room there is besides is the code's.
use Rattle.std.specs.Prelude.{◌≡◌, ℕ, ◌≤◌, nat_le, Bool, true, false, List, [], length, slice_index_or, slice_set, ◌++◌, ◌∷◌}
use Rattle.std.specs.List.{filter, list_all}
use Rattle.mpt_rules.specs.declared.said.Said.{Said}
use Rattle.mpt_rules.specs.declared.said.Said.TheVariants as said
use Rattle.mpt_rules.specs.Ioc.Resets.{outlives_reset}

-- one outbox: what waits in it, and for how many items more there is room
pub record OutboxSeen : Type 0 where
  pub items : List Said
  pub spare : ℕ

-- all outboxes, and how many items more go into each of them without taking memory
pub record OutboxesSeen : Type 0 where
  pub boxes : List (List Said)
  pub room : ℕ

-- what waits for a reply queue
abbrev pub waiting_for : ℕ → List (List Said) → List Said
waiting_for queue boxes = slice_index_or boxes queue []

-- an item goes behind what waits for a reply queue
abbrev pub after_put : ℕ → Said → List (List Said) → List (List Said)
after_put queue said boxes = slice_set boxes queue (waiting_for queue boxes ++ said ∷ [])

abbrev pub items_in : OutboxSeen → List Said
items_in o = o.items

-- so many items more go into the outbox
abbrev pub has_room : ℕ → OutboxSeen → Bool
has_room room o = nat_le room o.spare

-- there are from 1 to 8 outboxes, each with the room
pub record HaveRoom (boxes : List OutboxSeen) (room : ℕ) : Type 0 where
  pub least : 1 ≤ length boxes
  pub most : length boxes ≤ 8
  pub each : list_all (has_room room) boxes ≡ true

-- what a reset leaves in an outbox, with its mark where it is put there
abbrev pub renewed : Bool → ℕ → List Said → List Said
renewed true generation items = filter outlives_reset items ++ said.Mark generation ∷ []
renewed false generation items = filter outlives_reset items
