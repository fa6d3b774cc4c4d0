-- Controllers that go on alike as writes come to them: their doors differ in the reply index at most.
use Rattle.std.proofs.Common.{◌≡◌, ℕ, ◌/◌, ◌%◌, ◌^◌, ◌==◌, ◌&&◌, not, nat_lt, nat_le, Bool, true, false, if◌then◌else◌, List, [], ◌∷◌, slice_index, take, Option, Some, None, refl, ap, ap₂, sym, ◌∙◌, subst, arith}
use Rattle.std.specs.List.{filter}
use Rattle.mpi_doorbell.specs.Bytes.{has}
use Rattle.mpi_doorbell.specs.DoorRegisters.{DoorRegisters, Written, answered, diagnostic_written, doorbell_written, function_written, handshake_opened, is_fault, is_unlocked, key_written, quietly, register_written, released, reset_begun, status_written}
use Rattle.mpi_doorbell.specs.Handshake.{Collects, asked_by, dword_taken, is_idle}
use Rattle.mpi_doorbell.specs.declared.effect.Effect.{Effect}
use Rattle.mpi_doorbell.specs.declared.effect.Effect.TheVariants as effect
use Rattle.mpi_doorbell.specs.declared.registers.TheConstants.{DIAG_HOLD_IOC_RESET, DIAG_RESET_ADAPTER, DOORBELL, DOORBELL_ADD_DWORDS_SHIFT, DOORBELL_FUNCTION_SHIFT, FUNCTION_HANDSHAKE, FUNCTION_MESSAGE_UNIT_RESET, HOST_DIAGNOSTIC, HOST_INTERRUPT_MASK, HOST_INTERRUPT_STATUS, REPLY_POST_HOST_INDEX, WRITE_SEQUENCE}
use Rattle.mpi_doorbell.specs.declared.state.IocState.TheVariants as ioc_state
use Rattle.mpt_messages.specs.Function.{byte_of, function_of}
use Rattle.mpt_messages.specs.Refusal.{request_refusal_as}
use Rattle.mpt_messages.specs.declared.fault.MsgFault.{MsgFault}
use Rattle.mpt_messages.specs.declared.function.Function.{Function}
use Rattle.mpt_messages.specs.declared.function.Function.TheVariants as function
use Rattle.mpt_messages.specs.declared.function.Kind.TheVariants as kind
use Rattle.mpt_messages.specs.declared.ioc_reply.IocReply.{IocReply}
use Rattle.mpt_messages.specs.declared.ioc_reply.IocReply.TheVariants as reply
use Rattle.mpt_wire.specs.Messages.Fields.{host_msix_vectors_in, port_number_in}
use Rattle.mpt_trace.specs.declared.item.Down.{Down}
use Rattle.mpt_trace.specs.declared.item.Down.TheVariants as down
use Rattle.mpt_rules.specs.declared.status.TheConstants.{IOC_STATUS_INVALID_FIELD, IOC_STATUS_INVALID_FUNCTION, IOC_STATUS_INVALID_STATE, IOC_STATUS_SUCCESS}
use Rattle.mpt_rules.specs.Host.Resets as resets
use Rattle.mpt_rules.specs.Ioc.Parts.{Ioc, ioc_queue_count, state_of}
use Rattle.mpt_rules.specs.Ioc.Registers as registers
use Rattle.mpt_rules.specs.Ioc.Replies.{refusal_status}
use Rattle.mpt_rules.specs.Ioc.Tables.{is_ready}
use Rattle.law_facts.specs.DoorAhead.{does_still, writes_still, written_ahead}
use Rattle.law_facts.specs.Words.{others}
use Rattle.law_moves.proofs.Counted.{others-cons}
use Rattle.law_doors.proofs.Ahead.{core}
use Rattle.law_starts.proofs.HostAtDoor.{is_plain}

-- ---- a write, and the reply index

pub record CoreWritten (x y : Written) : Type 0 where
  pub door : core x.registers ≡ core y.registers
  pub effect_is : x.effect ≡ y.effect

module _ (r : DoorRegisters) (reg value : ℕ) where
  same : {x y : Written} → x ≡ y → CoreWritten x y
  same e = record { door = ap (λ (w : Written). core w.registers) e; effect_is = ap (λ (w : Written). w.effect) e }

  diagnostic : CoreWritten (diagnostic_written r value) (diagnostic_written (core r) value)
  diagnostic = by_both (is_unlocked r) (has value DIAG_RESET_ADAPTER)
    where
      held : DoorRegisters
      held = record r { hold_reset = has value DIAG_HOLD_IOC_RESET }

      release : (c : Bool) → CoreWritten (quietly (if c then record held { state = ioc_state.Ready; link_waits = false } else held)) (quietly (if c then record (core held) { state = ioc_state.Ready; link_waits = false } else core held))
      release true = record { door = refl; effect_is = refl }
      release false = record { door = refl; effect_is = refl }

      by_both : (a c : Bool) → CoreWritten (if a then (if c then reset_begun held else quietly (released held)) else quietly r) (if a then (if c then reset_begun (core held) else quietly (released (core held))) else quietly (core r))
      by_both true true = record { door = refl; effect_is = refl }
      by_both true false = release (held.link_waits && not held.hold_reset)
      by_both false c = record { door = refl; effect_is = refl }

  opened : (n : ℕ) → CoreWritten (handshake_opened r n) (handshake_opened (core r) n)
  opened n = by_size (nat_lt 0 n && nat_le n 32)
    where
      by_size : (c : Bool) → CoreWritten (if c then quietly (record r { handshake = Collects n []; ioc2sys = true }) else record { registers = r; effect = effect.Fault 1 }) (if c then quietly (record (core r) { handshake = Collects n []; ioc2sys = true }) else record { registers = core r; effect = effect.Fault 1 })
      by_size true = record { door = refl; effect_is = refl }
      by_size false = record { door = refl; effect_is = refl }

  doorbell : CoreWritten (doorbell_written r value) (doorbell_written (core r) value)
  doorbell = by_idle (is_idle r.handshake)
    where
      by_function : (a c : Bool)
          → CoreWritten (if a then handshake_opened r (value / 2 ^ DOORBELL_ADD_DWORDS_SHIFT % 256) else if c then record { registers = r; effect = effect.UnitReset } else record { registers = r; effect = effect.Fault 2 })
          (if a then handshake_opened (core r) (value / 2 ^ DOORBELL_ADD_DWORDS_SHIFT % 256) else if c then record { registers = core r; effect = effect.UnitReset } else record { registers = core r; effect = effect.Fault 2 })
      by_function true c = opened (value / 2 ^ DOORBELL_ADD_DWORDS_SHIFT % 256)
      by_function false true = record { door = refl; effect_is = refl }
      by_function false false = record { door = refl; effect_is = refl }

      by_idle : (c : Bool)
          → CoreWritten (if c then function_written r (value / 2 ^ DOORBELL_FUNCTION_SHIFT) (value / 2 ^ DOORBELL_ADD_DWORDS_SHIFT % 256) else record { registers = record r { handshake = dword_taken r.handshake value }; effect = asked_by r.handshake value })
          (if c then function_written (core r) (value / 2 ^ DOORBELL_FUNCTION_SHIFT) (value / 2 ^ DOORBELL_ADD_DWORDS_SHIFT % 256) else record { registers = record (core r) { handshake = dword_taken r.handshake value }; effect = asked_by r.handshake value })
      by_idle true = by_function (value / 2 ^ DOORBELL_FUNCTION_SHIFT == FUNCTION_HANDSHAKE) (value / 2 ^ DOORBELL_FUNCTION_SHIFT == FUNCTION_MESSAGE_UNIT_RESET)
      by_idle false = record { door = refl; effect_is = refl }

  core_written : CoreWritten (register_written r reg value) (register_written (core r) reg value)
  core_written = by_tests (reg == WRITE_SEQUENCE) (reg == HOST_DIAGNOSTIC) (is_fault r.state) (reg == DOORBELL) (reg == HOST_INTERRUPT_STATUS) (reg == HOST_INTERRUPT_MASK) (reg == REPLY_POST_HOST_INDEX)
    where
      by_tests : (a b c d f g i : Bool)
          → CoreWritten
          (if a then quietly (key_written r value) else if b then diagnostic_written r value else if c then quietly r else
          if d then doorbell_written r value else if f then quietly (status_written r) else if g then quietly (record r { interrupt_mask = value }) else if i then quietly (record r { reply_post_host_index = value }) else quietly r)
          (if a then quietly (key_written (core r) value) else if b then diagnostic_written (core r) value else if c then quietly (core r) else
          if d then doorbell_written (core r) value else if f then quietly (status_written (core r)) else if g then quietly (record (core r) { interrupt_mask = value }) else if i then quietly (record (core r) { reply_post_host_index = value }) else quietly (core r))
      by_tests true b c d f g i = record { door = refl; effect_is = refl }
      by_tests false true c d f g i = diagnostic
      by_tests false false true d f g i = record { door = refl; effect_is = refl }
      by_tests false false false true f g i = doorbell
      by_tests false false false false true g i = record { door = refl; effect_is = refl }
      by_tests false false false false false true i = record { door = refl; effect_is = refl }
      by_tests false false false false false false true = record { door = refl; effect_is = refl }
      by_tests false false false false false false false = record { door = refl; effect_is = refl }

pub alike_written : (r s : DoorRegisters) (reg value : ℕ) → core r ≡ core s → CoreWritten (register_written r reg value) (register_written s reg value)
alike_written r s reg value e =
    let a = core_written r reg value in let b = core_written s reg value in
    let m : register_written (core r) reg value ≡ register_written (core s) reg value = ap (λ d. register_written d reg value) e in
    record { door = a.door ∙ (ap (λ (w : Written). core w.registers) m ∙ sym b.door); effect_is = a.effect_is ∙ (ap (λ (w : Written). w.effect) m ∙ sym b.effect_is) }

-- ---- two controllers

pub record DoorAlike (i j : Ioc) : Type 0 where
  pub door : core i.door ≡ core j.door
  pub vectors : i.vectors ≡ j.vectors
  pub queues : ioc_queue_count i ≡ ioc_queue_count j

pub alike_same : (i : Ioc) → DoorAlike i i
alike_same i = record { door = refl; vectors = refl; queues = refl }

pub alike_then : (i j k : Ioc) → DoorAlike i j → DoorAlike j k → DoorAlike i k
alike_then i j k a b = record { door = a.door ∙ b.door; vectors = a.vectors ∙ b.vectors; queues = a.queues ∙ b.queues }

pub alike_back : (i j : Ioc) → DoorAlike i j → DoorAlike j i
alike_back i j a = record { door = sym a.door; vectors = sym a.vectors; queues = sym a.queues }

-- ---- an answer

module _ (i j : Ioc) (a : DoorAlike i j) (message : List ℕ) where
  answers : (r s : IocReply) → r ≡ s → DoorAlike (registers.answers_handshake i r) (registers.answers_handshake j s)
  answers r s e =
      record {
        door = ap₂ (λ d (x : IocReply). core (answered d (take (Rattle.mpt_messages.specs.IocFrames.reply_length x) (Rattle.mpt_messages.specs.IocFrames.reply_frame x)))) a.door e;
        vectors = a.vectors;
        queues = a.queues;
      }

  status : registers.init_status i message ≡ registers.init_status j message
  status =
      ap (λ c. if not (is_ready c) then IOC_STATUS_INVALID_STATE else if registers.sizes_fit message && (nat_le 1 (host_msix_vectors_in message) && nat_le (host_msix_vectors_in message) (ioc_queue_count i)) then IOC_STATUS_SUCCESS else IOC_STATUS_INVALID_FIELD) (ap (λ d. d.state) a.door)
      ∙ ap (λ n. if not (is_ready (state_of j)) then IOC_STATUS_INVALID_STATE else if registers.sizes_fit message && (nat_le 1 (host_msix_vectors_in message) && nat_le (host_msix_vectors_in message) n) then IOC_STATUS_SUCCESS else IOC_STATUS_INVALID_FIELD) a.queues

  inits : (n : ℕ) → DoorAlike (registers.inits i message n) (registers.inits j message n)
  inits n = by_test (n == IOC_STATUS_SUCCESS)
    where
      ends : DoorAlike (registers.ends_init i n) (registers.ends_init j n)
      ends = answers (reply.Plain (byte_of function.IocInit) n) (reply.Plain (byte_of function.IocInit) n) refl

      by_test : (b : Bool) → DoorAlike (if b then registers.operates (registers.ends_init i n) message else registers.ends_init i n) (if b then registers.operates (registers.ends_init j n) message else registers.ends_init j n)
      by_test true = record { door = ap (λ d. Rattle.mpt_rules.specs.Ioc.Tables.in_state d ioc_state.Operational) ends.door; vectors = refl; queues = ends.queues }
      by_test false = ends

  plain : DoorAlike (registers.answers_handshake i (reply.Plain (slice_index message 3) IOC_STATUS_INVALID_FUNCTION)) (registers.answers_handshake j (reply.Plain (slice_index message 3) IOC_STATUS_INVALID_FUNCTION))
  plain = answers (reply.Plain (slice_index message 3) IOC_STATUS_INVALID_FUNCTION) (reply.Plain (slice_index message 3) IOC_STATUS_INVALID_FUNCTION) refl

  serves : (f : Option Function) → DoorAlike (registers.serves_handshake i message f) (registers.serves_handshake j message f)
  serves None = plain
  serves (Some function.IocInit) = subst (λ n. DoorAlike (registers.inits i message (registers.init_status i message)) (registers.inits j message n)) status (inits (registers.init_status i message))
  serves (Some function.IocFacts) = answers (reply.Facts i.door.who_init (ioc_queue_count i)) (reply.Facts j.door.who_init (ioc_queue_count j)) (ap₂ (λ n m. reply.Facts n m) (ap (λ d. d.who_init) a.door) a.queues)
  serves (Some function.PortFacts) = answers (reply.PortFacts (port_number_in message) (registers.port_facts_status message)) (reply.PortFacts (port_number_in message) (registers.port_facts_status message)) refl
  serves (Some function.ScsiIo) = plain
  serves (Some function.TaskManagement) = plain
  serves (Some function.Config) = plain
  serves (Some function.PortEnable) = plain
  serves (Some function.EventNotification) = plain
  serves (Some function.EventAck) = plain
  serves (Some function.UnitControl) = plain

  pub alike_answers : DoorAlike (registers.handshakes i message) (registers.handshakes j message)
  alike_answers = by_refusal (request_refusal_as kind.Handshake message (function_of (slice_index message 3)))
    where
      by_refusal : (o : Option MsgFault) → DoorAlike (registers.handshakes_if i message o) (registers.handshakes_if j message o)
      by_refusal None = serves (function_of (slice_index message 3))
      by_refusal (Some r) = answers (reply.Plain (slice_index message 3) (refusal_status r)) (reply.Plain (slice_index message 3) (refusal_status r)) refl

-- ---- what writes leave

does_alike : (i j : Ioc) (f : Effect) → DoorAlike i j → DoorAlike (does_still i f) (does_still j f)
does_alike i j effect.None a = a
does_alike i j (effect.Asked count bytes) a = alike_answers i j a (take count bytes)
does_alike i j effect.UnitReset a = a
does_alike i j effect.AdapterReset a = a
does_alike i j (effect.Fault code) a = record { door = ap (λ d. Rattle.mpt_rules.specs.Ioc.Tables.in_state d (ioc_state.Fault code)) a.door; vectors = a.vectors; queues = a.queues }

pub alike_writes : (i j : Ioc) (reg value : ℕ) → DoorAlike i j → DoorAlike (writes_still i reg value) (writes_still j reg value)
alike_writes i j reg value a =
    let w = alike_written i.door j.door reg value a.door in
    let i2 : Ioc = record i { door = (register_written i.door reg value).registers } in
    let j2 : Ioc = record j { door = (register_written j.door reg value).registers } in
    subst (λ f. DoorAlike (writes_still i reg value) (does_still j2 f)) w.effect_is (does_alike i2 j2 (register_written i.door reg value).effect (record { door = w.door; vectors = a.vectors; queues = a.queues }))

pub alike_ahead : (i j : Ioc) (xs : List Down) → DoorAlike i j → DoorAlike (written_ahead i xs) (written_ahead j xs)
unfolding written_ahead
alike_ahead i j [] a = a
alike_ahead i j (down.Write reg value ∷ xs) a = alike_ahead (writes_still i reg value) (writes_still j reg value) xs (alike_writes i j reg value a)
alike_ahead i j (down.Read reg ∷ xs) a = alike_ahead i j xs a
alike_ahead i j (down.Post d f p ∷ xs) a = alike_ahead i j xs a
alike_ahead i j (down.Return d n ∷ xs) a = alike_ahead i j xs a
alike_ahead i j (down.Stop ∷ xs) a = alike_ahead i j xs a

-- an index leaves all but itself
index_alike : (i : Ioc) (reg value : ℕ) → (reg == REPLY_POST_HOST_INDEX) ≡ true → DoorAlike (writes_still i reg value) i
index_alike i reg value e = subst (λ n. DoorAlike (writes_still i n value) i) (sym (Rattle.std.proofs.lemmas.Bool.eqb-true reg REPLY_POST_HOST_INDEX e)) (by_fault (is_fault i.door.state))
  where
    by_fault : (b : Bool) → DoorAlike (does_still (record i { door = (if b then quietly i.door else quietly (record i.door { reply_post_host_index = value })).registers }) (if b then quietly i.door else quietly (record i.door { reply_post_host_index = value })).effect) i
    by_fault true = record { door = refl; vectors = refl; queues = refl }
    by_fault false = record { door = refl; vectors = refl; queues = refl }

pub plain_alike : (i : Ioc) (xs : List Down) → others is_plain xs ≡ 0 → DoorAlike (written_ahead i xs) i
unfolding written_ahead
plain_alike i [] z = alike_same i
plain_alike i (down.Write reg value ∷ xs) z =
    let c = others-cons is_plain (down.Write reg value) xs in
    alike_then (written_ahead (writes_still i reg value) xs) (writes_still i reg value) i (plain_alike (writes_still i reg value) xs (omega (arith, c, z)))
    (index_alike i reg value (passes (reg == REPLY_POST_HOST_INDEX) (omega (arith, c, z))))
  where
    passes : (b : Bool) → Rattle.mpt_rules.specs.World.Counts.one_if (not b) ≡ 0 → b ≡ true
    passes true e = refl
    passes false e = absurd (omega (arith, e))
plain_alike i (down.Read reg ∷ xs) z = let c = others-cons is_plain (down.Read reg) xs in absurd (omega (arith, c, z))
plain_alike i (down.Post d f p ∷ xs) z = let c = others-cons is_plain (down.Post d f p) xs in plain_alike i xs (omega (arith, c, z))
plain_alike i (down.Return d n ∷ xs) z = let c = others-cons is_plain (down.Return d n) xs in plain_alike i xs (omega (arith, c, z))
plain_alike i (down.Stop ∷ xs) z = let c = others-cons is_plain down.Stop xs in plain_alike i xs (omega (arith, c, z))

-- posts write nothing
pub filtered_ahead : (i : Ioc) (xs : List Down) → written_ahead i (filter resets.is_no_post xs) ≡ written_ahead i xs
unfolding written_ahead
filtered_ahead i [] = refl
filtered_ahead i (down.Write reg value ∷ xs) = filtered_ahead (writes_still i reg value) xs
filtered_ahead i (down.Read reg ∷ xs) = filtered_ahead i xs
filtered_ahead i (down.Post d f p ∷ xs) = filtered_ahead i xs
filtered_ahead i (down.Return d n ∷ xs) = filtered_ahead i xs
filtered_ahead i (down.Stop ∷ xs) = filtered_ahead i xs

-- nor does a read
pub read_ahead : (i : Ioc) (reg : ℕ) → written_ahead i (down.Read reg ∷ []) ≡ i
unfolding written_ahead
read_ahead i reg = refl
