-- Plugged disks get a handle: the least unbound one at once, or the next one in their turn.
use Rattle.std.specs.Prelude.{◌≡◌, ℕ, ◌≤◌, ◌<◌, Bool, true, false, not, ◌==◌, Option, Some, None, List, [], ◌∷◌, ◌++◌, length, filter}
use Rattle.std.specs.List.{list_any}
use Rattle.std.specs.Bool.{MatchBool}
use Rattle.mpi_names.specs.declared.handle.TheConstants.{FIRST_DISK_HANDLE}
use Rattle.mpt_trace.specs.declared.lane.LaneName.TheVariants as lane
use Rattle.mpt_trace.specs.declared.item.Item.TheVariants as item
use Rattle.mpt_trace.specs.declared.item.Back.TheVariants as back
use Rattle.mpt_trace.specs.declared.entry.Entry.{Entry}
use Rattle.mpt_trace.specs.declared.entry.Entry.TheVariants as entry
use Rattle.mpt_wire.specs.Walks.Passes.{Passes, state_after}
use Rattle.mpt_wire.specs.Walks.Lasting.{Lasts, never}
use Rattle.mpt_wire.specs.Handles.Names.{is_controllers}
use Rattle.mpt_wire.specs.Handles.Bindings.{Plug, IsDiskHandle, IsBoundTo, IsUnbound, bound_next, least_unbound_in}

-- ---- over the entries before and behind

-- the plug that the entry takes
abbrev pub plug_of_entry : Entry → Option Plug
plug_of_entry (entry.Take lane.Back (item.Back (back.Plugged address plug expander phy))) = Some (record { address = address; number = plug })
plug_of_entry _ = None

abbrev pub is_linked_taken : Entry → Bool
is_linked_taken (entry.Take lane.Back (item.Back (back.Linked generation))) = true
is_linked_taken _ = false

abbrev pub IsUnbindAll : Entry → Type 0
IsUnbindAll entry.UnbindAll = Unit {0}
IsUnbindAll _ = ⊥

-- a plug that is taken after these entries is dropped: an `unbind all` stands before it, and no `linked` was
-- taken between them
abbrev pub IsDropped : List Entry → Type 0
IsDropped before = Lasts IsUnbindAll is_linked_taken before

-- this plug was taken
abbrev pub WasTaken : List Entry → Plug → Type 0
WasTaken before plug = Lasts (λ e. plug_of_entry e ≡ Some plug) never before

-- an address waits until it is bound, its `unplugged` is taken, or an `unbind all` comes
abbrev pub ends_waiting : ℕ → Entry → Bool
ends_waiting a (entry.Bind handle address plug) = address == a
ends_waiting a (entry.Take lane.Back (item.Back (back.Unplugged address plug expander phy))) = address == a
ends_waiting a entry.UnbindAll = true
ends_waiting a _ = false

-- the plug's address waits: the plug was taken where no handle was unbound, and wasn't dropped
pub record Waits (before : List Entry) (plug : Plug) : Type 0 where
  pub taken : Lasts (λ e. plug_of_entry e ≡ Some plug) (ends_waiting plug.address) before
  pub served : ¬ IsDropped taken.earlier
  pub full : (h : ℕ) → IsDiskHandle h → ¬ IsUnbound taken.earlier h

-- no other has waited longer
pub record WaitsLongest (before : List Entry) (plug : Plug) : Type 0 where
  pub waits : Waits before plug
  pub longest : (other : Plug) (waits_too : Waits before other) → length waits.taken.earlier ≤ length waits_too.taken.earlier

abbrev pub BindsPlug : Plug → Entry → Type 0
BindsPlug plug (entry.Bind handle address number) = plug ≡ record { address = address; number = number }
BindsPlug plug _ = ⊥

-- a bind of the plug follows, with no other entry of the controller between
pub record IsBoundNext (plug : Plug) (after : List Entry) : Type 0 where
  pub between : List Entry
  pub bind : Entry
  pub rest : List Entry
  pub split : after ≡ between ++ bind ∷ rest
  pub others : list_any is_controllers between ≡ false
  pub binds : BindsPlug plug bind

-- a bind after these entries names the least handle that isn't bound, and a plug that was taken
pub record BindsLeast (before : List Entry) (h : ℕ) (plug : Plug) : Type 0 where
  pub handle : IsDiskHandle h
  pub unbound : IsUnbound before h
  pub least : (k : ℕ) → FIRST_DISK_HANDLE ≤ k → k < h → (p : Plug) × IsBoundTo before k p
  pub taken : WasTaken before plug

-- each bind names the least unbound handle and a plug that was taken; each plug that isn't dropped is bound at
-- once, where a handle is unbound; and each handle that is freed goes to the address that has waited longest
pub record PlugsAreServed (t : List Entry) : Type 0 where
  pub binds : (before after : List Entry) (h a k : ℕ) → t ≡ before ++ entry.Bind h a k ∷ after → BindsLeast before h (record { address = a; number = k })
  pub at_once : (before after : List Entry) (e : Entry) (plug : Plug) (h : ℕ) → t ≡ before ++ e ∷ after → plug_of_entry e ≡ Some plug → ¬ IsDropped before
      → IsDiskHandle h → IsUnbound before h → IsBoundNext plug after
  pub in_turn : (before after : List Entry) (h : ℕ) (plug : Plug) → t ≡ before ++ entry.Unbind h ∷ after → WaitsLongest before plug → IsBoundNext plug after

-- ---- as a rule that goes over the entries

-- what is bound, which plugs wait, the longest waiting first, the plug that is bound next, and whether plugs
-- are dropped
pub record Serving : Type 0 where
  pub bound : ℕ → Option Plug
  pub waiting : List Plug
  pub due : Option Plug
  pub dropping : Bool

-- nothing is bound
abbrev pub nothing_bound : Serving
nothing_bound = record { bound = λ h. None; waiting = []; due = None; dropping = false }

-- a plug is bound next where a handle is unbound, else it waits
abbrev pub plug_served : Serving → Plug → Option ℕ → Serving
plug_served g plug None = record g { waiting = g.waiting ++ plug ∷ [] }
plug_served g plug (Some h) = record g { due = Some plug }

-- a plug that is taken after an `unbind all` and before the next `linked` is dropped
abbrev pub plug_taken : Serving → Plug → Bool → Serving
plug_taken g plug true = g
plug_taken g plug false = plug_served g plug (least_unbound_in g.bound)

abbrev pub first_of : List Plug → Option Plug
first_of [] = None
first_of (plug ∷ rest) = Some plug

abbrev pub is_of_other : ℕ → Plug → Bool
is_of_other address plug = not (plug.address == address)

-- an address doesn't wait any longer
abbrev pub without_address : ℕ → List Plug → List Plug
without_address address waiting = filter (is_of_other address) waiting

abbrev pub served_next : Serving → Entry → Serving
served_next g (entry.Bind handle address plug) =
    record g { bound = bound_next g.bound (entry.Bind handle address plug); waiting = without_address address g.waiting; due = None }
served_next g (entry.Unbind handle) = record g { bound = bound_next g.bound (entry.Unbind handle); due = first_of g.waiting }
served_next g entry.UnbindAll = record nothing_bound { dropping = true }
served_next g (entry.Take lane.Back (item.Back (back.Plugged address plug expander phy))) = plug_taken g (record { address = address; number = plug }) g.dropping
served_next g (entry.Take lane.Back (item.Back (back.Unplugged address plug expander phy))) = record g { waiting = without_address address g.waiting }
served_next g (entry.Take lane.Back (item.Back (back.Linked generation))) = record g { dropping = false }
served_next g _ = g

-- the entry binds the least unbound handle to the plug
abbrev pub Binds : (ℕ → Option Plug) → Plug → Entry → Type 0
Binds bound due (entry.Bind handle address plug) = (least_unbound_in bound ≡ Some handle) × (due ≡ record { address = address; number = plug })
Binds bound due _ = ⊥

abbrev pub BindsNothing : Entry → Type 0
BindsNothing (entry.Bind handle address plug) = ⊥
BindsNothing _ = Unit {0}

-- what is due is bound by the controller's next entry, and nothing else is bound
abbrev pub DueAsks : (ℕ → Option Plug) → Option Plug → Entry → Type 0
DueAsks bound None e = BindsNothing e
DueAsks bound (Some plug) e = MatchBool (is_controllers e) (Binds bound plug e) (Unit {0})

abbrev pub ServedAsks : Serving → Entry → Type 0
ServedAsks g e = DueAsks g.bound g.due e

-- each plug is served in its turn, and at the end nothing is due
pub record ServesPlugs (t : List Entry) : Type 0 where
  pub passes : Passes served_next ServedAsks nothing_bound t
  pub ended : (state_after served_next nothing_bound t).due ≡ None
