-- The disks that the controller knows: what the handles stand for, and the disks for which no handle was unbound.
use Rattle.std.specs.Prelude.{◌≡◌, ℕ, ◌≤◌, nat_lt, Bool, true, List, count_by, None}
use Rattle.std.specs.List.{list_all, list_any}
use Rattle.mpi_names.specs.declared.handle.TheConstants.{EXPANDERS}
use Rattle.mpt_rules.specs.declared.binding.Binding.{Binding}
use Rattle.mpt_rules.specs.declared.binding.Binding.TheVariants as binding
use Rattle.mpt_rules.specs.declared.binding.Waiting.{Waiting}
use Rattle.mpt_rules.specs.Ioc.Bindings.{waits_at}
use Rattle.ioc_tables.specs.Bindings.{binding_at, handle_for}

pub record DisksSeen : Type 0 where
  pub bindings : List Binding
  pub waiting : List Waiting

-- a plugged disk is at one of the expanders that there can be
abbrev pub is_placed : Binding → Bool
is_placed binding.Unbound = true
is_placed (binding.Present address plug expander phy) = nat_lt expander EXPANDERS
is_placed (binding.Gone address) = true

-- a disk that waits is
abbrev pub waits_placed : Waiting → Bool
waits_placed disk = nat_lt disk.expander EXPANDERS

pub record AreDisks (bindings : List Binding) (waiting : List Waiting) : Type 0 where
  -- a disk that waits has no handle
  pub unbound : (address : ℕ) → list_any (waits_at address) waiting ≡ true → handle_for address bindings ≡ None
  -- and its address waits once
  pub once : (address : ℕ) → count_by (waits_at address) waiting ≤ 1
  pub bound_placed : (handle : ℕ) → is_placed (binding_at bindings handle) ≡ true
  pub waiting_placed : list_all waits_placed waiting ≡ true
