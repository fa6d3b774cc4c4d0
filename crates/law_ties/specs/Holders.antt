-- The identifiers of SCSI IOs that are taken, as the rule of least identifiers holds them.
use Rattle.std.specs.Prelude.{◌≡◌, ℕ, ◌≤◌, ◌==◌, Bool, true, false, List, Option, Some, None, is_some}
use Rattle.std.specs.FinMap as finmap
use Rattle.std.specs.FinSet as set
use Rattle.smid_pool.specs.Pool.{Open}
use Rattle.mpt_trace.specs.declared.entry.Entry.{Entry}
use Rattle.mpt_wire.specs.Queues.LeastFree.{Holder, LeastAsks, holders_next}
use Rattle.mpt_wire.specs.Walks.Ahead.{PassesAhead}
use Rattle.mpt_rules.specs.declared.request.Request.TheVariants as request
use Rattle.mpt_rules.specs.World.State.{World}
use Rattle.law_facts.specs.History.{History}
use Rattle.law_facts.specs.Ties.{HolderIs}
use Rattle.law_facts.specs.Words.{slot}

-- ---- a further fact of holders, which no other fact gives: it stands in the first world, and each case keeps it

-- it is of the number
abbrev pub is_holder_of : ℕ → Option Holder → Bool
is_holder_of n None = false
is_holder_of n (Some x) = x.number == n

-- the last that was accepted with s: its number was accepted; it is open, and an abort of it is, exactly as the host has its
-- number, also where s is no more its; and an open abort names s exactly where it is of that number
pub record HolderAgrees (w : World) (s : ℕ) (o : Option Holder) : Type 0 where
  pub command : (x : Holder) → o ≡ Some x → x.is_open ≡ is_some (finmap.get w.host.cmds x.number)
  pub abort : (x : Holder) → o ≡ Some x → x.has_abort ≡ is_some (finmap.get w.host.aborts x.number)
  pub accepted : (x : Holder) → o ≡ Some x → set.contains w.host.accepted x.number ≡ true
  pub named : (q n task : ℕ) → slot w.host q ≡ Open (request.Abort n task) → (task == s) ≡ is_holder_of n o

abbrev pub HoldersAgree : World → History → Type 0
HoldersAgree w h = (s : ℕ) → 1 ≤ s → s ≤ 256 → HolderAgrees w s (h.holders s)

-- ---- what is shown

pub record HoldersKept (w : World) (h : History) : Type 0 where
  pub holders : (s : ℕ) → 1 ≤ s → s ≤ 256 → HolderIs w (h.holders s) (slot w.host s)
  pub further : HoldersAgree w h

abbrev pub LeastPasses : History → List Entry → Type 0
LeastPasses h t = PassesAhead holders_next LeastAsks h.holders t
