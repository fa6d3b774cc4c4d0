-- The reply queues that IOC Init asks for, as writes come to the controller: only an IOC Init makes it OPERATIONAL, and the host's asks for all its queues.
use Rattle.mpi_doorbell.specs.DoorRegisters.{is_fault}
use Rattle.mpi_doorbell.specs.declared.state.IocState.TheVariants as ioc_state
use Rattle.std.proofs.Common.{◌≡◌, ℕ, zero, suc, ◌≤◌, ◌==◌, ◌⊎◌, inl, inr, Bool, true, false, if◌then◌else◌, List, [], ◌∷◌, length, slice_index, Option, Some, None, refl, ap, sym, ◌∙◌, subst, arith}
use Rattle.std.proofs.Math.Seq.{take-append_seam}
use Rattle.ioc_msgs.specs.IocFacts as facts
use Rattle.ioc_msgs.specs.PortFacts as port_facts
use Rattle.ioc_msgs.specs.IocInit as init
use Rattle.mpi_layout.specs.Rows.{field}
use Rattle.mpi_doorbell.specs.Bytes.{padded}
use Rattle.mpi_doorbell.specs.DoorRegisters.{register_written}
use Rattle.mpi_doorbell.specs.declared.effect.Effect.{Effect}
use Rattle.mpi_doorbell.specs.declared.effect.Effect.TheVariants as effect
use Rattle.mpi_doorbell.specs.declared.registers.TheConstants.{DOORBELL}
use Rattle.mpt_messages.specs.Function.{function_of}
use Rattle.mpt_messages.specs.Refusal.{request_refusal_as}
use Rattle.mpt_messages.specs.declared.fault.MsgFault.{MsgFault}
use Rattle.mpt_messages.specs.declared.function.Function.{Function}
use Rattle.mpt_messages.specs.declared.function.Function.TheVariants as function
use Rattle.mpt_messages.specs.declared.function.Kind.TheVariants as way
use Rattle.mpt_messages.specs.declared.host_ask.HostAsk.{HostAsk}
use Rattle.mpt_messages.specs.declared.host_ask.HostAsk.TheVariants as ask
use Rattle.mpt_wire.specs.Messages.DoorbellWords.{asked_bytes}
use Rattle.mpt_wire.specs.Messages.Fields.{host_msix_vectors_in}
use Rattle.mpt_trace.specs.declared.item.Down.{Down}
use Rattle.mpt_trace.specs.declared.item.Down.TheVariants as down
use Rattle.mpt_rules.specs.declared.status.TheConstants.{IOC_STATUS_SUCCESS}
use Rattle.mpt_rules.specs.World.Counts.{how_many, one_if}
use Rattle.mpt_rules.specs.Ioc.Parts.{Ioc, state_of}
use Rattle.mpt_rules.specs.Ioc.Registers as registers
use Rattle.mpt_rules.specs.Ioc.Tables.{is_operational}
use Rattle.law_facts.specs.DoorAhead.{does_still, writes_still, written_ahead}
use Rattle.law_facts.specs.Words.{is_doorbell_write}
use Rattle.law_moves.proofs.Counted.{how_many-cons}
use Rattle.law_moves.proofs.Registers.{writes_are}
use Rattle.law_doors.proofs.Whole.{waits_stay}
use Rattle.law_starts.proofs.Answering.{answer_leaves}
use Rattle.law_starts.proofs.Resetting.{reset_write}

-- a controller that isn't in FAULT, and has so many vectors where it is OPERATIONAL
pub record QueuesIn (q : ℕ) (i : Ioc) : Type 0 where
  pub whole : is_fault (state_of i) ≡ false
  pub vectors : is_operational (state_of i) ≡ true → i.vectors ≡ q
  pub waits : i.door.link_waits ≡ false

-- what the host asks for
pub data AsksFor (q : ℕ) : HostAsk → Type 0 where
  ForFacts : AsksFor q ask.Facts
  ForPortFacts : AsksFor q ask.PortFacts
  ForInit : AsksFor q (ask.Init q)

-- ---- one message

-- an answer that isn't to IOC Init
pub record SameQueues (i j : Ioc) : Type 0 where
  pub state : state_of j ≡ state_of i
  pub vectors : j.vectors ≡ i.vectors

module _ (i : Ioc) (message : List ℕ) where
  others_serve : (f : Option Function) → (f ≡ Some function.IocInit → ⊥) → SameQueues i (registers.serves_handshake i message f)
  others_serve None n = record { state = refl; vectors = refl }
  others_serve (Some function.IocInit) n = absurd (n refl)
  others_serve (Some function.IocFacts) n = record { state = refl; vectors = refl }
  others_serve (Some function.PortFacts) n = record { state = refl; vectors = refl }
  others_serve (Some function.ScsiIo) n = record { state = refl; vectors = refl }
  others_serve (Some function.TaskManagement) n = record { state = refl; vectors = refl }
  others_serve (Some function.Config) n = record { state = refl; vectors = refl }
  others_serve (Some function.PortEnable) n = record { state = refl; vectors = refl }
  others_serve (Some function.EventNotification) n = record { state = refl; vectors = refl }
  others_serve (Some function.EventAck) n = record { state = refl; vectors = refl }
  others_serve (Some function.UnitControl) n = record { state = refl; vectors = refl }

  other_message : (c : ℕ) → slice_index message 3 ≡ c → (function_of c ≡ Some function.IocInit → ⊥) → SameQueues i (registers.handshakes i message)
  other_message c e n = by_refusal (request_refusal_as way.Handshake message (function_of (slice_index message 3)))
    where
      by_refusal : (o : Option MsgFault) → SameQueues i (registers.handshakes_if i message o)
      by_refusal None = others_serve (function_of (slice_index message 3)) (λ q. n (sym (ap function_of e) ∙ q))
      by_refusal (Some r) = record { state = refl; vectors = refl }

  -- any message: the vectors change to those that it asks for, if they do
  abbrev SameOrAsked : Ioc → Type 0
  SameOrAsked j = (SameQueues i j) ⊎ ((j.vectors ≡ host_msix_vectors_in message) × (state_of j ≡ ioc_state.Operational))

  begins : (n : ℕ) → SameOrAsked (registers.inits i message n)
  begins n = by_test (n == IOC_STATUS_SUCCESS)
    where
      by_test : (b : Bool) → SameOrAsked (if b then registers.operates (registers.ends_init i n) message else registers.ends_init i n)
      by_test true = inr (refl, refl)
      by_test false = inl (record { state = refl; vectors = refl })

  any_serve : (f : Option Function) → SameOrAsked (registers.serves_handshake i message f)
  any_serve None = inl (record { state = refl; vectors = refl })
  any_serve (Some function.IocInit) = begins (registers.init_status i message)
  any_serve (Some function.IocFacts) = inl (record { state = refl; vectors = refl })
  any_serve (Some function.PortFacts) = inl (record { state = refl; vectors = refl })
  any_serve (Some function.ScsiIo) = inl (record { state = refl; vectors = refl })
  any_serve (Some function.TaskManagement) = inl (record { state = refl; vectors = refl })
  any_serve (Some function.Config) = inl (record { state = refl; vectors = refl })
  any_serve (Some function.PortEnable) = inl (record { state = refl; vectors = refl })
  any_serve (Some function.EventNotification) = inl (record { state = refl; vectors = refl })
  any_serve (Some function.EventAck) = inl (record { state = refl; vectors = refl })
  any_serve (Some function.UnitControl) = inl (record { state = refl; vectors = refl })

  any_message : SameOrAsked (registers.handshakes i message)
  any_message = by_refusal (request_refusal_as way.Handshake message (function_of (slice_index message 3)))
    where
      by_refusal : (o : Option MsgFault) → SameOrAsked (registers.handshakes_if i message o)
      by_refusal None = any_serve (function_of (slice_index message 3))
      by_refusal (Some r) = inl (record { state = refl; vectors = refl })

-- the function's byte, and the vectors in the host's messages
facts_byte : slice_index (asked_bytes ask.Facts) 3 ≡ 3
unfolding facts.ioc_facts_layout facts.ioc_facts_values
facts_byte = refl

port_byte : slice_index (asked_bytes ask.PortFacts) 3 ≡ 5
unfolding port_facts.port_facts_layout port_facts.port_facts_values
port_byte = refl

pub vectors_asked : (q : ℕ) → q ≤ 8 → host_msix_vectors_in (asked_bytes (ask.Init q)) ≡ q
unfolding init.ioc_init_layout init.ioc_init_values field
vectors_asked zero l = refl
vectors_asked (suc zero) l = refl
vectors_asked (suc (suc zero)) l = refl
vectors_asked (suc (suc (suc zero))) l = refl
vectors_asked (suc (suc (suc (suc zero)))) l = refl
vectors_asked (suc (suc (suc (suc (suc zero))))) l = refl
vectors_asked (suc (suc (suc (suc (suc (suc zero)))))) l = refl
vectors_asked (suc (suc (suc (suc (suc (suc (suc zero))))))) l = refl
vectors_asked (suc (suc (suc (suc (suc (suc (suc (suc zero)))))))) l = refl
vectors_asked (suc (suc (suc (suc (suc (suc (suc (suc (suc n))))))))) l = absurd (omega arith)

module _ (q : ℕ) (few : q ≤ 8) where
  same_queues : (i j : Ioc) → SameQueues i j → j.door.link_waits ≡ false → QueuesIn q i → QueuesIn q j
  same_queues i j s w p = record { whole = ap is_fault s.state ∙ p.whole; vectors = λ l. s.vectors ∙ p.vectors (sym (ap is_operational s.state) ∙ l); waits = w }

  -- a message of the host's is answered
  answers : (i : Ioc) (a : HostAsk) → AsksFor q a → QueuesIn q i → QueuesIn q (registers.handshakes i (asked_bytes a))
  answers i _ ForFacts p = same_queues i (registers.handshakes i (asked_bytes ask.Facts)) (other_message i (asked_bytes ask.Facts) 3 facts_byte (λ e. cc)) ((answer_leaves i (asked_bytes ask.Facts)).waits ∙ p.waits) p
  answers i _ ForPortFacts p = same_queues i (registers.handshakes i (asked_bytes ask.PortFacts)) (other_message i (asked_bytes ask.PortFacts) 5 port_byte (λ e. cc)) ((answer_leaves i (asked_bytes ask.PortFacts)).waits ∙ p.waits) p
  answers i _ ForInit p = by_what (any_message i (asked_bytes (ask.Init q)))
    where
      w : (registers.handshakes i (asked_bytes (ask.Init q))).door.link_waits ≡ false
      w = (answer_leaves i (asked_bytes (ask.Init q))).waits ∙ p.waits

      by_what : SameOrAsked i (asked_bytes (ask.Init q)) (registers.handshakes i (asked_bytes (ask.Init q))) → QueuesIn q (registers.handshakes i (asked_bytes (ask.Init q)))
      by_what (inl s) = same_queues i (registers.handshakes i (asked_bytes (ask.Init q))) s w p
      by_what (inr e) = record { whole = ap is_fault e.1; vectors = λ l. e.0 ∙ vectors_asked q few; waits = w }

  -- ---- a write

  module _ (i : Ioc) (reg value : ℕ) (p : QueuesIn q i) where
    abbrev j : Ioc
    j = record i { door = (register_written i.door reg value).registers }

    written : QueuesIn q j
    written = record { whole = ap is_fault (writes_are i.door reg value p.waits).state ∙ p.whole; vectors = λ l. p.vectors (sym (ap is_operational (writes_are i.door reg value p.waits).state) ∙ l); waits = waits_stay i.door reg value p.waits }

    -- that asks nothing
    pub quietly_written : ((count : ℕ) (bytes : List ℕ) → (register_written i.door reg value).effect ≡ effect.Asked count bytes → ⊥) → ((code : ℕ) → (register_written i.door reg value).effect ≡ effect.Fault code → ⊥) → QueuesIn q (writes_still i reg value)
    quietly_written n m = by_effect (register_written i.door reg value).effect refl
      where
        by_effect : (f : Effect) → (register_written i.door reg value).effect ≡ f → QueuesIn q (does_still j f)
        by_effect effect.None e = written
        by_effect (effect.Asked count bytes) e = absurd (n count bytes e)
        by_effect effect.UnitReset e = written
        by_effect effect.AdapterReset e = written
        by_effect (effect.Fault code) e = absurd (m code e)

    -- that asks a message of the host's
    pub asks_so : (a : HostAsk) → AsksFor q a → (register_written i.door reg value).effect ≡ effect.Asked (length (asked_bytes a)) (padded (asked_bytes a)) → QueuesIn q (writes_still i reg value)
    asks_so a f e = subst (λ g. QueuesIn q (does_still j g)) (sym e) (subst (λ m. QueuesIn q (registers.handshakes j m)) (sym (take-append_seam (asked_bytes a) _)) (answers j a f written))

  -- writes of other registers than the Doorbell
  pub doorless : (i : Ioc) (xs : List Down) → how_many is_doorbell_write xs ≡ 0 → QueuesIn q i → QueuesIn q (written_ahead i xs)
  unfolding written_ahead
  doorless i [] z p = p
  doorless i (down.Write reg value ∷ xs) z p =
      let c = how_many-cons is_doorbell_write (down.Write reg value) xs in
      doorless (writes_still i reg value) xs (omega (arith, z, c))
      (quietly_written i reg value p (λ count bytes e. let r = (writes_are i.door reg value p.waits).asked count bytes e in let o : one_if (reg == DOORBELL) ≡ 1 = ap (λ m. one_if (m == DOORBELL)) r in absurd (omega (arith, z, c, o)))
      (λ code e. let o : one_if (reg == DOORBELL) ≡ 1 = ap one_if ((reset_write i.door reg value).faults code e) in absurd (omega (arith, z, c, o))))
  doorless i (down.Read reg ∷ xs) z p = let c = how_many-cons is_doorbell_write (down.Read reg) xs in doorless i xs (omega (arith, z, c)) p
  doorless i (down.Post d f b ∷ xs) z p = let c = how_many-cons is_doorbell_write (down.Post d f b) xs in doorless i xs (omega (arith, z, c)) p
  doorless i (down.Return a n ∷ xs) z p = let c = how_many-cons is_doorbell_write (down.Return a n) xs in doorless i xs (omega (arith, z, c)) p
  doorless i (down.Stop ∷ xs) z p = let c = how_many-cons is_doorbell_write down.Stop xs in doorless i xs (omega (arith, z, c)) p
