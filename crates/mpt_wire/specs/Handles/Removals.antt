-- A handle is freed by a remove device for it.
use Rattle.std.specs.Prelude.{◌≡◌, ℕ, Bool, true, false, ◌==◌, Option, Some, None, List, ◌∷◌, ◌++◌}
use Rattle.mpt_trace.specs.declared.item.Item.TheVariants as item
use Rattle.mpt_trace.specs.declared.entry.Entry.{Entry}
use Rattle.mpt_trace.specs.declared.entry.Entry.TheVariants as entry
use Rattle.mpt_wire.specs.Walks.Lasting.{Lasts}
use Rattle.mpt_wire.specs.Machine.State.{put_at}
use Rattle.mpt_wire.specs.Handles.Names.{Aimed, removal_posted, reply_smid_in}

-- ---- over the entries before

-- the remove device post that the entry takes
abbrev pub removal_taken : Entry → Option Aimed
removal_taken (entry.Take lane (item.Down i)) = removal_posted i
removal_taken _ = None

abbrev pub is_same_number : ℕ → Option ℕ → Bool
is_same_number s None = false
is_same_number s (Some q) = q == s

-- the reply of s is put, or a reset drops its post
abbrev pub is_removal_end : ℕ → Entry → Bool
is_removal_end s (entry.Put lane (item.Up i)) = is_same_number s (reply_smid_in i)
is_removal_end s entry.UnbindAll = true
is_removal_end s _ = false

-- a remove device post for the handle was taken, and its reply wasn't put since
abbrev pub IsRemoved : List Entry → ℕ → Type 0
IsRemoved before h = (s : ℕ) × Lasts (λ e. removal_taken e ≡ Some (record { smid = s; handle = h })) (is_removal_end s) before

-- each `unbind` stands after the taking of a remove device post for its handle and before the putting of that
-- post's reply
abbrev pub UnbindsAreRemovals : List Entry → Type 0
UnbindsAreRemovals t = (before after : List Entry) (h : ℕ) → t ≡ before ++ entry.Unbind h ∷ after → IsRemoved before h

-- ---- as a rule that goes over the entries: the handle of each remove device that is being done, by its identifier

abbrev pub removal_began : (ℕ → Option ℕ) → Option Aimed → (ℕ → Option ℕ)
removal_began removals None = removals
removal_began removals (Some post) = put_at post.smid (Some post.handle) removals

abbrev pub removal_ended : (ℕ → Option ℕ) → Option ℕ → (ℕ → Option ℕ)
removal_ended removals None = removals
removal_ended removals (Some s) = put_at s None removals

-- no remove device is being done
abbrev pub no_removals : ℕ → Option ℕ
no_removals s = None

abbrev pub removals_next : (ℕ → Option ℕ) → Entry → (ℕ → Option ℕ)
removals_next removals (entry.Take lane (item.Down i)) = removal_began removals (removal_posted i)
removals_next removals (entry.Put lane (item.Up i)) = removal_ended removals (reply_smid_in i)
removals_next removals entry.UnbindAll = no_removals
removals_next removals _ = removals

-- a handle that is freed is one of these
abbrev pub UnbindAsks : (ℕ → Option ℕ) → Entry → Type 0
UnbindAsks removals (entry.Unbind handle) = (s : ℕ) × (removals s ≡ Some handle)
UnbindAsks removals _ = Unit {0}
