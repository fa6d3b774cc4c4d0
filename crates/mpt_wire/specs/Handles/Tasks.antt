-- A task goes to the address to which the handle of its post is bound.
use Rattle.std.specs.Prelude.{◌≡◌, ℕ, Option, Some, None, List, ◌∷◌, ◌++◌}
use Rattle.mpt_trace.specs.declared.lane.LaneName.{LaneName}
use Rattle.mpt_trace.specs.declared.item.Item.TheVariants as item
use Rattle.mpt_trace.specs.declared.item.Out.TheVariants as out
use Rattle.scsi_disk.specs.declared.command.Command.{Command}
use Rattle.mpt_trace.specs.declared.entry.Entry.{Entry}
use Rattle.mpt_trace.specs.declared.entry.Entry.TheVariants as entry
use Rattle.mpt_wire.specs.Walks.Lasting.{Lasts}
use Rattle.mpt_wire.specs.Handles.Bindings.{Plug, bound_next}
use Rattle.mpt_wire.specs.Handles.Names.{Aimed}
use Rattle.mpt_wire.specs.Machine.State.{put_at}
use Rattle.mpt_wire.specs.Handles.Pages.{IsBoundAt, address_of, is_aimed_as, aimed_in_put}

-- ---- over the entries before

-- the handle of the last post of s
abbrev pub IsPostedTo : List Entry → ℕ → ℕ → Type 0
IsPostedTo before s h = Lasts (λ e. aimed_in_put e ≡ Some (record { smid = s; handle = h })) (λ e. is_aimed_as s (aimed_in_put e)) before

-- each task of s that is put has the address to which the handle of the post of s is bound there
abbrev pub TasksGoToBindings : List Entry → Type 0
TasksGoToBindings t = (before after : List Entry) (lane : LaneName) (s address : ℕ) (command : Command)
    → t ≡ before ++ entry.Put lane (item.Out (out.Task s address command)) ∷ after → (h : ℕ) × IsPostedTo before s h × IsBoundAt before h address

-- ---- as a rule that goes over the entries

-- what each handle is bound to, and the handle of each identifier's last post
pub record Aiming : Type 0 where
  pub bound : ℕ → Option Plug
  pub handle : ℕ → Option ℕ

abbrev pub nothing_aimed : Aiming
nothing_aimed = record { bound = λ h. None; handle = λ s. None }

abbrev pub handle_posted : (ℕ → Option ℕ) → Option Aimed → (ℕ → Option ℕ)
handle_posted handle None = handle
handle_posted handle (Some post) = put_at post.smid (Some post.handle) handle

abbrev pub aiming_next : Aiming → Entry → Aiming
aiming_next g e = record { bound = bound_next g.bound e; handle = handle_posted g.handle (aimed_in_put e) }

-- the task's address is that of the handle
abbrev pub IsAt : (ℕ → Option Plug) → ℕ → Option ℕ → Type 0
IsAt bound address None = ⊥
IsAt bound address (Some h) = address_of (bound h) ≡ Some address

abbrev pub TaskAsks : Aiming → Entry → Type 0
TaskAsks g (entry.Put lane (item.Out (out.Task tag address command))) = IsAt g.bound address (g.handle tag)
TaskAsks g _ = Unit {0}
