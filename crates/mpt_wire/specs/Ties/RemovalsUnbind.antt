-- A remove device that succeeds has unbound its handle, and one that fails hasn't.
use Rattle.std.specs.Prelude.{◌≡◌, ℕ, ◌==◌, ◌||◌, Bool, true, false, if◌then◌else◌, List, ◌∷◌, ◌++◌, Option, Some, None}
use Rattle.std.specs.List.{list_any}
use Rattle.std.specs.Bool.{MatchBool}
use Rattle.mpt_trace.specs.declared.lane.LaneName.{LaneName}
use Rattle.mpt_trace.specs.declared.item.Item.TheVariants as item
use Rattle.mpt_trace.specs.declared.item.Up.TheVariants as up
use Rattle.mpt_trace.specs.declared.entry.Entry.{Entry}
use Rattle.mpt_trace.specs.declared.entry.Entry.TheVariants as entry
use Rattle.mpt_wire.specs.Messages.Fields.{ioc_status_in, smid_in}
use Rattle.mpt_wire.specs.Handles.Names.{Aimed, removal_posted, reply_smid_in}
use Rattle.mpt_wire.specs.Walks.Lasting.{Lasts}
use Rattle.mpt_wire.specs.Messages.Naming.{success}
use Rattle.mpt_wire.specs.Walks.Passes.{Passes}
use Rattle.mpt_wire.specs.Handles.Removals.{is_removal_end, removal_taken}

-- ---- over the entries before

abbrev pub unbinds : ℕ → Entry → Bool
unbinds h (entry.Unbind handle) = handle == h
unbinds h _ = false

abbrev pub is_removal_of : ℕ → Option Aimed → Bool
is_removal_of s None = false
is_removal_of s (Some post) = post.smid == s

-- the remove device of s is over: its reply is put, a reset drops it, or another one of s is taken
abbrev pub ends_taken : ℕ → Entry → Bool
ends_taken s e = is_removal_end s e || is_removal_of s (removal_taken e)

-- the remove device of s for h was taken, and isn't over
abbrev pub IsTaken : List Entry → ℕ → ℕ → Type 0
IsTaken before s h = Lasts (λ e. removal_taken e ≡ Some (record { smid = s; handle = h })) (ends_taken s) before

-- each reply to a remove device that has SUCCESS stands behind an `unbind` of its handle, which stands behind its taking
abbrev pub SuccessesUnbind : ℕ → List Entry → Type 0
SuccessesUnbind s t =
    (before after : List Entry) (lane : LaneName) (descriptor h : ℕ) (frame page sense : List ℕ)
    → t ≡ before ++ entry.Put lane (item.Up (up.Reply descriptor (Some frame) page sense)) ∷ after → (smid_in descriptor == s) ≡ true
    → (ioc_status_in frame == success) ≡ true → (taken : IsTaken before s h) → list_any (unbinds h) taken.since ≡ true

-- ---- as a rule that goes over the entries

-- how far the remove device of an identifier is
pub data RemovalStage : Type 0 where
  -- there is none that was taken and isn't answered
  NoRemoval : RemovalStage
  -- it was taken, for this handle
  StillBound : (handle : ℕ) → RemovalStage
  -- and the handle was unbound since
  NowUnbound : RemovalStage

abbrev pub removal_by : ℕ → RemovalStage → Option Aimed → RemovalStage
removal_by s g None = g
removal_by s g (Some post) = if post.smid == s then StillBound post.handle else g

abbrev pub removal_over : ℕ → RemovalStage → Option ℕ → RemovalStage
removal_over s g None = g
removal_over s g (Some smid) = if smid == s then NoRemoval else g

abbrev pub unbound_by : ℕ → RemovalStage → RemovalStage
unbound_by handle NoRemoval = NoRemoval
unbound_by handle (StillBound h) = if h == handle then NowUnbound else StillBound h
unbound_by handle NowUnbound = NowUnbound

abbrev pub removal_next : ℕ → RemovalStage → Entry → RemovalStage
removal_next s g (entry.Take lane (item.Down i)) = removal_by s g (removal_posted i)
removal_next s g (entry.Put lane (item.Up i)) = removal_over s g (reply_smid_in i)
removal_next s g (entry.Unbind handle) = unbound_by handle g
removal_next s g entry.UnbindAll = NoRemoval
removal_next s g _ = g

-- the reply has SUCCESS exactly where the handle was unbound
abbrev pub UnbindsIf : RemovalStage → Bool → Type 0
UnbindsIf NoRemoval succeeds = Unit {0}
UnbindsIf (StillBound handle) succeeds = succeeds ≡ false
UnbindsIf NowUnbound succeeds = succeeds ≡ true

abbrev pub UnbindsBy : RemovalStage → Option (List ℕ) → Type 0
UnbindsBy g None = Unit {0}
UnbindsBy g (Some frame) = UnbindsIf g (ioc_status_in frame == success)

abbrev pub RemovalAsks : ℕ → RemovalStage → Entry → Type 0
RemovalAsks s g (entry.Put lane (item.Up (up.Reply descriptor frame page sense))) = MatchBool (smid_in descriptor == s) (UnbindsBy g frame) (Unit {0})
RemovalAsks s g _ = Unit {0}

abbrev pub RemovalsUnbind : ℕ → List Entry → Type 0
RemovalsUnbind s t = Passes (removal_next s) (RemovalAsks s) NoRemoval t
