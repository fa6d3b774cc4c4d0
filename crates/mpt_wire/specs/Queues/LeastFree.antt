-- A submission is accepted with the least free identifier: the least that no open request has, nor a request that an open abort names.
use Rattle.std.specs.Prelude.{◌≡◌, ℕ, ◌==◌, ◌&&◌, ◌||◌, not, ◌≤◌, ◌<◌, Bool, true, false, if◌then◌else◌, List, [], ◌∷◌, ◌++◌, Option, Some, None}
use Rattle.std.specs.List.{list_any}
use Rattle.mpi_rings.specs.declared.request_descriptor.PostKind.TheVariants as post
use Rattle.mpt_trace.specs.declared.input.Input.TheVariants as input
use Rattle.mpt_trace.specs.declared.entry.Entry.{Entry}
use Rattle.mpt_trace.specs.declared.entry.Entry.TheVariants as entry
use Rattle.mpt_wire.specs.Walks.Ahead.{next_own, PassesAhead}
use Rattle.mpt_wire.specs.Machine.Calls.{is_call_refused}
use Rattle.mpt_wire.specs.Queues.Identifiers.{first_smid, last_smid}
use Rattle.mpt_wire.specs.Machine.Causes.{Abort}

-- an accept with s
abbrev pub is_accept_with : ℕ → Entry → Bool
is_accept_with s (entry.Accept n a k) = k == s
is_accept_with s _ = false

-- the end of the request n: its answer, or that of a reset
abbrev pub is_request_end : ℕ → Entry → Bool
is_request_end n (entry.Answer k how) = k == n
is_request_end n entry.ResetDone = true
is_request_end n _ = false

-- the beginning of an abort of n, given the host's next entry: one that isn't refused next
abbrev pub is_abort_begin : ℕ → Entry → Option Entry → Bool
is_abort_begin n (entry.Given (input.Abort k)) ahead = k == n && not (is_call_refused (Abort k) ahead)
is_abort_begin n _ ahead = false

-- the end of an abort of n
abbrev pub is_abort_end : ℕ → Entry → Bool
is_abort_end n (entry.AbortEnd k how) = k == n
is_abort_end n entry.ResetDone = true
is_abort_end n _ = false

-- an abort of n is open after the entries p, before others: one begins in p and doesn't end
unfoldable pub is_aborting : ℕ → List Entry → List Entry → Bool
is_aborting n [] later = false
is_aborting n (e ∷ p) later = is_aborting n p later || (is_abort_begin n e (next_own e (p ++ later)) && not (list_any (is_abort_end n) p))

-- the entry accepts with s, and after the entries p that follow, before others, its request is open or named by an open abort
abbrev pub has_still : ℕ → Entry → List Entry → List Entry → Bool
has_still s (entry.Accept n a k) p later = k == s && (not (list_any (is_request_end n) p) || is_aborting n p later)
has_still s _ p later = false

-- the last request that was accepted with s in the entries p has s still
unfoldable pub is_taken : ℕ → List Entry → List Entry → Bool
is_taken s [] later = false
is_taken s (e ∷ p) later = if list_any (is_accept_with s) p then is_taken s p later else has_still s e p later

-- s is the least identifier of a SCSI IO that isn't taken
pub record IsLeastFree (taken : ℕ → Bool) (s : ℕ) : Type 0 where
  pub low : first_smid post.ScsiIo ≤ s
  pub high : s ≤ last_smid post.ScsiIo
  pub free : taken s ≡ false
  pub least : (k : ℕ) → first_smid post.ScsiIo ≤ k → k < s → taken k ≡ true

-- each accept is with the least free identifier
abbrev pub LeastAreAccepted : List Entry → Type 0
LeastAreAccepted t = (p q : List Entry) (n a s : ℕ) → t ≡ p ++ entry.Accept n a s ∷ q → IsLeastFree (λ k. is_taken k p (entry.Accept n a s ∷ q)) s

-- ---- the same as a rule that goes over the trace with the last request of each identifier

-- a request: whether it is open, and whether an open abort names it
pub record Holder : Type 0 where
  pub number : ℕ
  pub is_open : Bool
  pub has_abort : Bool

abbrev pub is_still_held : Option Holder → Bool
is_still_held None = false
is_still_held (Some h) = h.is_open || h.has_abort

-- the request that the entry accepts
abbrev pub holder_of : Entry → Option Holder
holder_of (entry.Accept n a s) = Some (record { number = n; is_open = true; has_abort = false })
holder_of _ = None

abbrev pub holder_kept : Option Holder → Entry → Option Entry → Option Holder
holder_kept None e ahead = None
holder_kept (Some h) e ahead =
    Some (record h {
      is_open = h.is_open && not (is_request_end h.number e);
      has_abort = (h.has_abort && not (is_abort_end h.number e)) || is_abort_begin h.number e ahead;
    })

abbrev pub holder_next : ℕ → Option Holder → Entry → Option Entry → Option Holder
holder_next s before e ahead = if is_accept_with s e then holder_of e else holder_kept before e ahead

abbrev pub holders_next : (ℕ → Option Holder) → Entry → Option Entry → ℕ → Option Holder
holders_next holders e ahead = λ s. holder_next s (holders s) e ahead

abbrev pub LeastAsks : (ℕ → Option Holder) → Entry → Option Entry → Type 0
LeastAsks holders (entry.Accept n a s) ahead = IsLeastFree (λ k. is_still_held (holders k)) s
LeastAsks holders _ ahead = Unit {0}

abbrev pub no_holders : ℕ → Option Holder
no_holders = λ s. None

abbrev pub LeastPass : List Entry → Type 0
LeastPass t = PassesAhead holders_next LeastAsks no_holders t
