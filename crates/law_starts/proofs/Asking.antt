-- A write that asks the adapter for an answer: the whole message waits for it then.
use Rattle.std.proofs.Common.{◌≡◌, ℕ, ◌-◌, ◌/◌, ◌%◌, ◌^◌, ◌==◌, ◌&&◌, not, nat_lt, nat_le, Bool, true, false, if◌then◌else◌, List, [], ◌++◌, length, take, refl, ap, sym, ◌∙◌}
use Rattle.std.proofs.Math.Seq.{take-append_seam}
use Rattle.byteorder.specs.Endian.{little_bytes}
use Rattle.mpi_doorbell.specs.Bytes.{has, padded}
use Rattle.mpi_doorbell.specs.DoorRegisters.{DoorRegisters, Written, diagnostic_written, doorbell_written, function_written, handshake_opened, is_fault, is_unlocked, key_written, quietly, register_written, released, reset_begun, status_written}
use Rattle.mpi_doorbell.specs.Handshake.{Asked, Collects, Handshake, Idle, Replies, asked_by, asks, dword_taken, is_idle}
use Rattle.mpi_doorbell.specs.declared.effect.Effect.TheVariants as effect
use Rattle.mpi_doorbell.specs.declared.registers.TheConstants.{DIAG_HOLD_IOC_RESET, DIAG_RESET_ADAPTER, DOORBELL, DOORBELL_ADD_DWORDS_SHIFT, DOORBELL_FUNCTION_SHIFT, FUNCTION_HANDSHAKE, FUNCTION_MESSAGE_UNIT_RESET, HOST_DIAGNOSTIC, HOST_INTERRUPT_MASK, HOST_INTERRUPT_STATUS, REPLY_POST_HOST_INDEX, WRITE_SEQUENCE}
use Rattle.mpi_doorbell.specs.declared.state.IocState.TheVariants as ioc_state

-- WhoInit stays; a message that is asked is the one that waits
pub record WriteAsks (r : DoorRegisters) (w : Written) : Type 0 where
  pub who_init : w.registers.who_init ≡ r.who_init
  pub waits : (count : ℕ) (bytes : List ℕ) → w.effect ≡ effect.Asked count bytes → (message : List ℕ) × ((w.registers.handshake ≡ Asked message) × (take count bytes ≡ message))

module _ (r : DoorRegisters) where
  quiet : (x : DoorRegisters) → x.who_init ≡ r.who_init → WriteAsks r (quietly x)
  quiet x e = record { who_init = e; waits = λ count bytes q. absurd (cc) }

  fault : (code : ℕ) → WriteAsks r (record { registers = r; effect = effect.Fault code })
  fault code = record { who_init = refl; waits = λ count bytes q. absurd (cc) }

  diagnostic : (value : ℕ) → WriteAsks r (diagnostic_written r value)
  diagnostic value = by_both (is_unlocked r) (has value DIAG_RESET_ADAPTER)
    where
      held : DoorRegisters
      held = record r { hold_reset = has value DIAG_HOLD_IOC_RESET }

      release : (c : Bool) → WriteAsks r (quietly (if c then record held { state = ioc_state.Ready; link_waits = false } else held))
      release true = quiet (record held { state = ioc_state.Ready; link_waits = false }) refl
      release false = quiet held refl

      by_both : (a c : Bool) → WriteAsks r (if a then (if c then reset_begun held else quietly (released held)) else quietly r)
      by_both true true = record { who_init = refl; waits = λ count bytes q. absurd (cc) }
      by_both true false = release (held.link_waits && not held.hold_reset)
      by_both false c = quiet r refl

  opened : (n : ℕ) → WriteAsks r (handshake_opened r n)
  opened n = by_size (nat_lt 0 n && nat_le n 32)
    where
      by_size : (c : Bool) → WriteAsks r (if c then quietly (record r { handshake = Collects n []; ioc2sys = true }) else record { registers = r; effect = effect.Fault 1 })
      by_size true = quiet (record r { handshake = Collects n []; ioc2sys = true }) refl
      by_size false = fault 1

  function : (value : ℕ) (a c : Bool) → WriteAsks r (if a then handshake_opened r (value / 2 ^ DOORBELL_ADD_DWORDS_SHIFT % 256) else if c then record { registers = r; effect = effect.UnitReset } else record { registers = r; effect = effect.Fault 2 })
  function value true c = opened (value / 2 ^ DOORBELL_ADD_DWORDS_SHIFT % 256)
  function value false true = record { who_init = refl; waits = λ count bytes q. absurd (cc) }
  function value false false = fault 2

  dword : (value : ℕ) (h : Handshake) → WriteAsks r (record { registers = record r { handshake = dword_taken h value }; effect = asked_by h value })
  dword value Idle = record { who_init = refl; waits = λ count bytes q. absurd (cc) }
  dword value (Asked message) = record { who_init = refl; waits = λ count bytes q. absurd (cc) }
  dword value (Replies left) = record { who_init = refl; waits = λ count bytes q. absurd (cc) }
  dword value (Collects missing message) = by_more (nat_lt 1 missing)
    where
      whole : (m : List ℕ) (count : ℕ) (bytes : List ℕ) → asks m ≡ effect.Asked count bytes → take count bytes ≡ m
      whole m count bytes q = let a : length m ≡ count = cc in let c : padded m ≡ bytes = cc in ap (λ n. take n bytes) (sym a) ∙ (ap (take (length m)) (sym c) ∙ take-append_seam m _)

      by_more : (c : Bool) → WriteAsks r (record { registers = record r { handshake = (if c then Collects (missing - 1) (message ++ little_bytes 4 value) else Asked (message ++ little_bytes 4 value)) }; effect = (if c then effect.None else asks (message ++ little_bytes 4 value)) })
      by_more true = record { who_init = refl; waits = λ count bytes q. absurd (cc) }
      by_more false = record { who_init = refl; waits = λ count bytes q. (message ++ little_bytes 4 value, (refl, whole (message ++ little_bytes 4 value) count bytes q)) }

  doorbell : (value : ℕ) → WriteAsks r (doorbell_written r value)
  doorbell value = by_idle (is_idle r.handshake)
    where
      by_idle : (c : Bool) → WriteAsks r (if c then function_written r (value / 2 ^ DOORBELL_FUNCTION_SHIFT) (value / 2 ^ DOORBELL_ADD_DWORDS_SHIFT % 256) else record { registers = record r { handshake = dword_taken r.handshake value }; effect = asked_by r.handshake value })
      by_idle true = function value (value / 2 ^ DOORBELL_FUNCTION_SHIFT == FUNCTION_HANDSHAKE) (value / 2 ^ DOORBELL_FUNCTION_SHIFT == FUNCTION_MESSAGE_UNIT_RESET)
      by_idle false = dword value r.handshake

  pub write_asks : (reg value : ℕ) → WriteAsks r (register_written r reg value)
  write_asks reg value = by_tests (reg == WRITE_SEQUENCE) (reg == HOST_DIAGNOSTIC) (is_fault r.state) (reg == DOORBELL) (reg == HOST_INTERRUPT_STATUS) (reg == HOST_INTERRUPT_MASK) (reg == REPLY_POST_HOST_INDEX)
    where
      by_tests : (a b c d f g i : Bool)
          → WriteAsks r (if a then quietly (key_written r value) else if b then diagnostic_written r value else if c then quietly r else
          if d then doorbell_written r value else if f then quietly (status_written r) else if g then quietly (record r { interrupt_mask = value }) else if i then quietly (record r { reply_post_host_index = value }) else quietly r)
      by_tests true b c d f g i = quiet (key_written r value) refl
      by_tests false true c d f g i = diagnostic value
      by_tests false false true d f g i = quiet r refl
      by_tests false false false true f g i = doorbell value
      by_tests false false false false true g i = quiet (status_written r) refl
      by_tests false false false false false true i = quiet (record r { interrupt_mask = value }) refl
      by_tests false false false false false false true = quiet (record r { reply_post_host_index = value }) refl
      by_tests false false false false false false false = quiet r refl
