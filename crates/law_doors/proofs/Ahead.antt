-- The door ahead: what index writes leave of it.
use Rattle.std.proofs.Common.{◌≡◌, ℕ, zero, suc, ◌+◌, ◌==◌, ◌&&◌, ◌||◌, not, nat_lt, Bool, true, false, if◌then◌else◌, List, [], ◌∷◌, ◌++◌, take, slice_index, Option, Some, None, refl, ap, sym, ◌∙◌, subst, arith}
use Rattle.std.proofs.lemmas.Bool.{eqb-true}
use Rattle.byteorder.specs.Endian.{little_bytes}
use Rattle.mpi_doorbell.specs.DoorRegisters.{DoorRegisters, Written, is_fault, quietly, register_written}
use Rattle.mpi_doorbell.specs.Handshake.{Handshake, Idle, Collects, Asked, Replies, asks, is_idle}
use Rattle.mpi_doorbell.specs.declared.effect.Effect.{Effect}
use Rattle.mpi_doorbell.specs.declared.effect.Effect.TheVariants as effect
use Rattle.mpi_doorbell.specs.declared.registers.TheConstants.{REPLY_POST_HOST_INDEX}
use Rattle.mpt_messages.specs.Function.{function_of}
use Rattle.mpt_messages.specs.Refusal.{request_refusal_as}
use Rattle.mpt_messages.specs.declared.fault.MsgFault.{MsgFault}
use Rattle.mpt_messages.specs.declared.function.Function.{Function}
use Rattle.mpt_messages.specs.declared.function.Function.TheVariants as function
use Rattle.mpt_messages.specs.declared.function.Kind.TheVariants as kind
use Rattle.mpt_trace.specs.declared.item.Down.{Down}
use Rattle.mpt_trace.specs.declared.item.Down.TheVariants as down
use Rattle.mpt_rules.specs.World.Counts.{how_many, is_register_write, one_if}
use Rattle.mpt_rules.specs.Ioc.Parts.{Ioc}
use Rattle.mpt_rules.specs.Ioc.Registers as registers
use Rattle.mpt_rules.specs.declared.status.TheConstants.{IOC_STATUS_INVALID_FIELD, IOC_STATUS_INVALID_STATE, IOC_STATUS_SUCCESS}
use Rattle.law_facts.specs.DoorAhead.{writes_still, written_ahead}
use Rattle.law_moves.proofs.Counted.{how_many-cons}

-- all of the registers but the index
abbrev pub core : DoorRegisters → DoorRegisters
core r = record r { reply_post_host_index = 0 }

pub ahead-nil : (i : Ioc) → written_ahead i [] ≡ i
unfolding written_ahead
ahead-nil i = refl

pub ahead-write : (i : Ioc) (reg value : ℕ) (xs : List Down) → written_ahead i (down.Write reg value ∷ xs) ≡ written_ahead (writes_still i reg value) xs
unfolding written_ahead
ahead-write i reg value xs = refl

pub ahead-append : (i : Ioc) (xs ys : List Down) → written_ahead i (xs ++ ys) ≡ written_ahead (written_ahead i xs) ys
unfolding written_ahead
ahead-append i [] ys = refl
ahead-append i (down.Write reg value ∷ xs) ys = ahead-append (writes_still i reg value) xs ys
ahead-append i (down.Read reg ∷ xs) ys = ahead-append i xs ys
ahead-append i (down.Post d f p ∷ xs) ys = ahead-append i xs ys
ahead-append i (down.Return a n ∷ xs) ys = ahead-append i xs ys
ahead-append i (down.Stop ∷ xs) ys = ahead-append i xs ys

-- the index is written
abbrev index_written : Bool → DoorRegisters → ℕ → Written
index_written b r value = if b then quietly r else quietly (record r { reply_post_host_index = value })

index_core : (r : DoorRegisters) (reg value : ℕ) → (reg == REPLY_POST_HOST_INDEX) ≡ true → (core (register_written r reg value).registers ≡ core r) × ((register_written r reg value).effect ≡ effect.None)
index_core r reg value e = subst (λ n. (core (register_written r n value).registers ≡ core r) × ((register_written r n value).effect ≡ effect.None)) (sym (eqb-true reg REPLY_POST_HOST_INDEX e)) (by_fault (is_fault r.state))
  where
    by_fault : (b : Bool) → (core (index_written b r value).registers ≡ core r) × ((index_written b r value).effect ≡ effect.None)
    by_fault true = (refl, refl)
    by_fault false = (refl, refl)

write_none : (i : Ioc) (reg value : ℕ) (f : Effect) → (register_written i.door reg value).effect ≡ f → f ≡ effect.None → (writes_still i reg value).door ≡ (register_written i.door reg value).registers
write_none i reg value f e n = ap (λ g. (Rattle.law_facts.specs.DoorAhead.does_still (record i { door = (register_written i.door reg value).registers }) g).door) (e ∙ n)

-- no register write: only the index
pub quiet_ahead : (i : Ioc) (xs : List Down) → how_many is_register_write xs ≡ 0 → core (written_ahead i xs).door ≡ core i.door
unfolding written_ahead
quiet_ahead i [] z = refl
quiet_ahead i (down.Write reg value ∷ xs) z =
    let c = how_many-cons is_register_write (down.Write reg value) xs in
    let n = index (reg == REPLY_POST_HOST_INDEX) refl (omega (arith, c, z)) in
    let x = index_core i.door reg value n in
    quiet_ahead (writes_still i reg value) xs (omega (arith, c, z)) ∙ (ap core (write_none i reg value (register_written i.door reg value).effect refl x.1) ∙ x.0)
  where
    index : (b : Bool) → (reg == REPLY_POST_HOST_INDEX) ≡ b → one_if (not (reg == REPLY_POST_HOST_INDEX)) ≡ 0 → b ≡ true
    index true e o = refl
    index false e o = let f : one_if (not (reg == REPLY_POST_HOST_INDEX)) ≡ 1 = ap (λ c. one_if (not c)) e in absurd (omega (arith, o, f))
quiet_ahead i (down.Read reg ∷ xs) z = let c = how_many-cons is_register_write (down.Read reg) xs in quiet_ahead i xs (omega (arith, c, z))
quiet_ahead i (down.Post d f p ∷ xs) z = let c = how_many-cons is_register_write (down.Post d f p) xs in quiet_ahead i xs (omega (arith, c, z))
quiet_ahead i (down.Return a n ∷ xs) z = let c = how_many-cons is_register_write (down.Return a n) xs in quiet_ahead i xs (omega (arith, c, z))
quiet_ahead i (down.Stop ∷ xs) z = let c = how_many-cons is_register_write down.Stop xs in quiet_ahead i xs (omega (arith, c, z))

-- ---- a message that is asked is answered at once

abbrev pub IsReplied : Handshake → Type 0
IsReplied (Replies left) = Unit {0}
IsReplied Idle = ⊥
IsReplied (Collects missing message) = ⊥
IsReplied (Asked message) = ⊥

inits : (i : Ioc) (message : List ℕ) (n : ℕ) → IsReplied (registers.inits i message n).door.handshake
inits i message n = by_test (n == IOC_STATUS_SUCCESS)
  where
    by_test : (b : Bool) → IsReplied (if b then registers.operates (registers.ends_init i n) message else registers.ends_init i n).door.handshake
    by_test true = tt
    by_test false = tt

serves : (i : Ioc) (message : List ℕ) (f : Option Function) → IsReplied (registers.serves_handshake i message f).door.handshake
serves i message None = tt
serves i message (Some function.IocInit) = inits i message (registers.init_status i message)
serves i message (Some function.IocFacts) = tt
serves i message (Some function.PortFacts) = tt
serves i message (Some function.ScsiIo) = tt
serves i message (Some function.TaskManagement) = tt
serves i message (Some function.Config) = tt
serves i message (Some function.PortEnable) = tt
serves i message (Some function.EventNotification) = tt
serves i message (Some function.EventAck) = tt
serves i message (Some function.UnitControl) = tt

pub replied : (i : Ioc) (message : List ℕ) → IsReplied (registers.handshakes i message).door.handshake
replied i message = by_refusal (request_refusal_as kind.Handshake message (function_of (slice_index message 3)))
  where
    by_refusal : (o : Option MsgFault) → IsReplied (registers.handshakes_if i message o).door.handshake
    by_refusal None = serves i message (function_of (slice_index message 3))
    by_refusal (Some refusal) = tt
