-- Which disks the controller has under its handles, and where they are plugged, as its takes and binds tell it.
use Rattle.std.specs.Prelude.{◌≡◌, ℕ, Option, Some, None, List}
use Rattle.mpt_trace.specs.declared.item.Item.TheVariants as item
use Rattle.mpt_trace.specs.declared.item.Back.TheVariants as back
use Rattle.mpt_trace.specs.declared.entry.Entry.{Entry}
use Rattle.mpt_trace.specs.declared.entry.Entry.TheVariants as entry
use Rattle.mpt_wire.specs.Handles.Bindings.{Plug}
use Rattle.mpt_wire.specs.Walks.Lasting.{Lasts, never}
use Rattle.mpt_wire.specs.Machine.State.{Place, put_at}

-- a disk under a handle: its plug, and the phy at which it was plugged
pub record Attachment : Type 0 where
  pub plug : Plug
  pub place : Place

pub record Attached : Type 0 where
  -- by address and number of a plug: where the `plugged` that was taken says that it is
  pub plugged : ℕ → ℕ → Option Place
  -- by handle: the disk to which it is bound
  pub disk : ℕ → Option Attachment
  -- by address: the handle that stands for it and hasn't been told as departed
  pub present : ℕ → Option ℕ

abbrev pub nothing_attached : Attached
nothing_attached = record { plugged = λ a k. None; disk = λ h. None; present = λ a. None }

abbrev pub attachment_of : Plug → Option Place → Option Attachment
attachment_of plug None = None
attachment_of plug (Some place) = Some (record { plug = plug; place = place })

abbrev pub place_taken : ℕ → ℕ → Place → (ℕ → ℕ → Option Place) → (ℕ → ℕ → Option Place)
place_taken address plug place plugged = put_at address (put_at plug (Some place) (plugged address)) plugged

abbrev pub attached_next : Attached → Entry → Attached
attached_next g (entry.Take lane (item.Back (back.Plugged address plug expander phy))) =
    record g { plugged = place_taken address plug (record { expander = expander; phy = phy }) g.plugged }
attached_next g (entry.Take lane (item.Back (back.Unplugged address plug expander phy))) = record g { present = put_at address None g.present }
attached_next g (entry.Bind handle address plug) =
    record g {
      disk = put_at handle (attachment_of (record { address = address; number = plug }) (g.plugged address plug)) g.disk;
      present = put_at address (Some handle) g.present;
    }
attached_next g (entry.Unbind handle) = record g { disk = put_at handle None g.disk }
attached_next g entry.UnbindAll = record g { disk = λ h. None; present = λ a. None }
attached_next g _ = g

-- ---- over the entries before

-- a plug, and where it is
pub record Plugged : Type 0 where
  pub plug : Plug
  pub place : Place

-- what a `plugged` that is taken says
abbrev pub plugged_taken : Entry → Option Plugged
plugged_taken (entry.Take lane (item.Back (back.Plugged address number expander phy))) =
    Some (record { plug = record { address = address; number = number }; place = record { expander = expander; phy = phy } })
plugged_taken _ = None

-- the plug was taken, at this place
abbrev pub WasPluggedAt : List Entry → Plug → Place → Type 0
WasPluggedAt before plug place = Lasts (λ e. plugged_taken e ≡ Some (record { plug = plug; place = place })) never before
