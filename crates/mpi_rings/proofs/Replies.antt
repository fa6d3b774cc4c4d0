-- The fields of a reply descriptor are its numbers, and bytes stand for one descriptor at most.
use Rattle.std.proofs.Common.{◌≡◌, ℕ, List, get_or, ap, Some, None, Result, Ok, Err, MatchResult, IfOk, arith}
use Rattle.mpi_layout.specs.declared.fault.Fault.{Fault}
use Rattle.mpi_layout.specs.Rows.{Shape, first_fault}
use Rattle.mpi_layout.proofs.Moves.{Stands-same}
use Rattle.mpi_rings.specs.declared.reply_descriptor.ReplyDescriptor.{ReplyDescriptor}
use Rattle.mpi_rings.specs.declared.reply_descriptor.ReplyDescriptor.TheVariants.{Success, Address, Unused}
use Rattle.mpi_rings.specs.ReplyDescriptor.{HasItsFlags, ReplyStands, reply_layout, success_layout, address_layout, unused_layout}
use Rattle.mpi_rings.proofs.Flags.{success_flags, address_flags, unused_flags, success_clean, address_clean, unused_clean, unused_known}

-- bytes stand for one descriptor at most
pub ReplyStands-same : (d e : ReplyDescriptor) (bytes : List ℕ) → ReplyStands d bytes → ReplyStands e bytes → d ≡ e
ReplyStands-same (Success a b c r) (Success a' b' c' r') bytes one other =
    let same = Stands-same success_layout _ _ bytes one other in
    ap (λ (xs : List ℕ). Success (get_or xs 1 0) (get_or xs 2 0) (get_or xs 3 0) (get_or xs 4 0)) same
ReplyStands-same (Success a b c r) (Address a' b' c') bytes one other =
    let left = success_flags _ bytes one in let right = address_flags _ bytes other in absurd (omega arith)
ReplyStands-same (Success a b c r) (Unused f' a' b' c') bytes one other =
    let left = success_flags _ bytes one in let right = unused_flags _ bytes other in absurd (grind arith)
ReplyStands-same (Address a b c) (Success a' b' c' r') bytes one other =
    let left = address_flags _ bytes one in let right = success_flags _ bytes other in absurd (omega arith)
ReplyStands-same (Address a b c) (Address a' b' c') bytes one other =
    let same = Stands-same address_layout _ _ bytes one other in
    ap (λ (xs : List ℕ). Address (get_or xs 1 0) (get_or xs 2 0) (get_or xs 3 0)) same
ReplyStands-same (Address a b c) (Unused f' a' b' c') bytes one other =
    let left = address_flags _ bytes one in let right = unused_flags _ bytes other in absurd (grind arith)
ReplyStands-same (Unused f a b c) (Success a' b' c' r') bytes one other =
    let left = unused_flags _ bytes one in let right = success_flags _ bytes other in absurd (grind arith)
ReplyStands-same (Unused f a b c) (Address a' b' c') bytes one other =
    let left = unused_flags _ bytes one in let right = address_flags _ bytes other in absurd (grind arith)
ReplyStands-same (Unused f a b c) (Unused f' a' b' c') bytes one other =
    let same = Stands-same unused_layout _ _ bytes one other in
    ap (λ (xs : List ℕ). Unused (get_or xs 0 0) (get_or xs 1 0) (get_or xs 2 0) (get_or xs 3 0)) same

-- bytes that stand for a descriptor aren't refused
ReplyStands-no_fault : (d : ReplyDescriptor) (bytes : List ℕ) → ReplyStands d bytes → first_fault reply_layout bytes ≡ None
ReplyStands-no_fault (Success a b c r) bytes stands = success_clean _ bytes stands
ReplyStands-no_fault (Address a b c) bytes stands = address_clean _ bytes stands
ReplyStands-no_fault (Unused f a b c) bytes stands = unused_clean _ bytes stands

-- a descriptor that bytes stand for has its flags
ReplyStands-flags : (d : ReplyDescriptor) (bytes : List ℕ) → ReplyStands d bytes → HasItsFlags d
ReplyStands-flags (Success a b c r) bytes stands = tt
ReplyStands-flags (Address a b c) bytes stands = tt
ReplyStands-flags (Unused f a b c) bytes stands = unused_known f _ bytes stands

-- what a reading by one layout answers, as the fault of all has it
pub record ReadsReply (bytes : List ℕ) (answer : Result ReplyDescriptor Fault) : Type 0 where
  pub read : MatchResult answer (λ d. ReplyStands d bytes) (λ fault. first_fault reply_layout bytes ≡ Some fault)
  pub only : (d : ReplyDescriptor) → ReplyStands d bytes → answer ≡ Ok d
  pub flags : IfOk answer HasItsFlags

pub reads_reply : (layout : Shape) (bytes : List ℕ) (answer : Result ReplyDescriptor Fault) → ((fault : Fault) → first_fault layout bytes ≡ Some fault → first_fault reply_layout bytes ≡ Some fault) → MatchResult answer (λ d. ReplyStands d bytes) (λ fault. first_fault layout bytes ≡ Some fault) → ReadsReply bytes answer
reads_reply layout bytes (Ok d) faults h = record { read = h; only = λ e other. ap Ok (ReplyStands-same d e bytes h other); flags = ReplyStands-flags d bytes h }
reads_reply layout bytes (Err fault) faults h =
    let refused = faults fault h in
    record { read = refused; only = λ d other. (let none = ReplyStands-no_fault d bytes other in cc); flags = tt }
