-- The keys of HostDiagnostic and RESET_ADAPTER go on by themselves, whatever else the door does.
use Rattle.std.proofs.Common.{◌≡◌, ℕ, zero, suc, ◌+◌, ◌/◌, ◌%◌, ◌^◌, ◌==◌, ◌&&◌, ◌||◌, not, nat_lt, nat_le, Bool, true, false, if◌then◌else◌, List, [], ◌∷◌, ◌++◌, bit_and, take, Option, Some, None, refl, ap, sym, ◌∙◌, subst, arith}
use Rattle.std.specs.List.{filter}
use Rattle.mpi_doorbell.specs.Bytes.{has}
use Rattle.mpi_doorbell.specs.DoorRegisters.{DoorRegisters, diagnostic_written, doorbell_written, function_written, handshake_opened, is_fault, key_written, quietly, register_written, released, reset_begun, status_written}
use Rattle.mpi_doorbell.specs.Handshake.{Collects, asked_by, dword_taken, is_idle}
use Rattle.mpi_doorbell.specs.HostSteps.{diagnostic_reset}
use Rattle.mpi_doorbell.specs.Keys.{place_after}
use Rattle.mpi_doorbell.specs.declared.effect.Effect.{Effect}
use Rattle.mpi_doorbell.specs.declared.effect.Effect.TheVariants as effect
use Rattle.mpi_doorbell.specs.declared.registers.TheConstants.{DIAG_HOLD_IOC_RESET, DIAG_RESET_ADAPTER, DOORBELL, DOORBELL_ADD_DWORDS_SHIFT, DOORBELL_FUNCTION_SHIFT, FUNCTION_HANDSHAKE, FUNCTION_MESSAGE_UNIT_RESET, HOST_DIAGNOSTIC, HOST_INTERRUPT_MASK, HOST_INTERRUPT_STATUS, REPLY_POST_HOST_INDEX, WRITE_SEQUENCE, WRITE_SEQUENCE_KEY_MASK}
use Rattle.mpi_doorbell.specs.declared.state.IocState.TheVariants as ioc_state
use Rattle.mpt_trace.specs.declared.item.Down.{Down}
use Rattle.mpt_trace.specs.declared.item.Down.TheVariants as down
use Rattle.mpt_rules.specs.Host.Doorbell.{is_reset_item, next_turn, turn_from}
use Rattle.mpt_rules.specs.Host.Resets as resets
use Rattle.mpt_rules.specs.Ioc.Parts.{Ioc}
use Rattle.mpt_rules.specs.World.Counts.{how_many, is_register_write, one_if}
use Rattle.law_facts.specs.DoorAhead.{does_still, writes_still, written_ahead}
use Rattle.law_moves.proofs.Counted.{how_many-cons}
use Rattle.law_starts.proofs.Answering.{answer_leaves}

pub record Keys : Type 0 where
  pub place : ℕ
  pub adapter : Bool

abbrev pub keys_of : DoorRegisters → Keys
keys_of r = record { place = r.key_place; adapter = r.reset_adapter }

-- what a write of HostDiagnostic does to RESET_ADAPTER
abbrev adapter_after : Keys → ℕ → Bool
adapter_after k value = if k.place == 6 then (if has value DIAG_RESET_ADAPTER then true else k.adapter) else k.adapter

abbrev pub keys_written : Keys → ℕ → ℕ → Keys
keys_written k reg value =
    if reg == WRITE_SEQUENCE then record k { place = place_after k.place (bit_and value WRITE_SEQUENCE_KEY_MASK) } else
    if reg == HOST_DIAGNOSTIC then record k { adapter = adapter_after k value } else k

unfoldable pub keys_after : Keys → List Down → Keys
keys_after k [] = k
keys_after k (down.Write reg value ∷ xs) = keys_after (keys_written k reg value) xs
keys_after k (x ∷ xs) = keys_after k xs

-- ---- they are the door's

diagnostic : (r : DoorRegisters) (value : ℕ) → keys_of (diagnostic_written r value).registers ≡ record (keys_of r) { adapter = adapter_after (keys_of r) value }
diagnostic r value = by_both (r.key_place == 6) (has value DIAG_RESET_ADAPTER)
  where
    held : DoorRegisters
    held = record r { hold_reset = has value DIAG_HOLD_IOC_RESET }

    release : (c : Bool) → keys_of (if c then record held { state = ioc_state.Ready; link_waits = false } else held) ≡ keys_of r
    release true = refl
    release false = refl

    by_both : (a c : Bool) → keys_of (if a then (if c then reset_begun held else quietly (released held)) else quietly r).registers ≡ record (keys_of r) { adapter = (if a then (if c then true else r.reset_adapter) else r.reset_adapter) }
    by_both true true = refl
    by_both true false = release (held.link_waits && not held.hold_reset)
    by_both false c = refl

doorbell : (r : DoorRegisters) (value : ℕ) → keys_of (doorbell_written r value).registers ≡ keys_of r
doorbell r value = by_idle (is_idle r.handshake)
  where
    opened : (n : ℕ) (c : Bool) → keys_of (if c then quietly (record r { handshake = Collects n []; ioc2sys = true }) else record { registers = r; effect = effect.Fault 1 }).registers ≡ keys_of r
    opened n true = refl
    opened n false = refl

    function : (n : ℕ) (a c : Bool) → keys_of (if a then handshake_opened r n else if c then record { registers = r; effect = effect.UnitReset } else record { registers = r; effect = effect.Fault 2 }).registers ≡ keys_of r
    function n true c = opened n (nat_lt 0 n && nat_le n 32)
    function n false true = refl
    function n false false = refl

    by_idle : (c : Bool) → keys_of (if c then function_written r (value / 2 ^ DOORBELL_FUNCTION_SHIFT) (value / 2 ^ DOORBELL_ADD_DWORDS_SHIFT % 256) else record { registers = record r { handshake = dword_taken r.handshake value }; effect = asked_by r.handshake value }).registers ≡ keys_of r
    by_idle true = function (value / 2 ^ DOORBELL_ADD_DWORDS_SHIFT % 256) (value / 2 ^ DOORBELL_FUNCTION_SHIFT == FUNCTION_HANDSHAKE) (value / 2 ^ DOORBELL_FUNCTION_SHIFT == FUNCTION_MESSAGE_UNIT_RESET)
    by_idle false = refl

pub keys_register : (r : DoorRegisters) (reg value : ℕ) → keys_of (register_written r reg value).registers ≡ keys_written (keys_of r) reg value
keys_register r reg value = by_tests (reg == WRITE_SEQUENCE) (reg == HOST_DIAGNOSTIC) (is_fault r.state) (reg == DOORBELL) (reg == HOST_INTERRUPT_STATUS) (reg == HOST_INTERRUPT_MASK) (reg == REPLY_POST_HOST_INDEX)
  where
    by_tests : (a b c d f g i : Bool)
        → keys_of
        (if a then quietly (key_written r value) else if b then diagnostic_written r value else if c then quietly r else
        if d then doorbell_written r value else if f then quietly (status_written r) else if g then quietly (record r { interrupt_mask = value }) else if i then quietly (record r { reply_post_host_index = value }) else quietly r).registers
        ≡ (if a then record (keys_of r) { place = place_after r.key_place (bit_and value WRITE_SEQUENCE_KEY_MASK) } else if b then record (keys_of r) { adapter = adapter_after (keys_of r) value } else keys_of r)
    by_tests true b c d f g i = refl
    by_tests false true c d f g i = diagnostic r value
    by_tests false false true d f g i = refl
    by_tests false false false true f g i = doorbell r value
    by_tests false false false false true g i = refl
    by_tests false false false false false true i = refl
    by_tests false false false false false false true = refl
    by_tests false false false false false false false = refl

still_keys : (i : Ioc) (f : Effect) → keys_of (does_still i f).door ≡ keys_of i.door
still_keys i effect.None = refl
still_keys i (effect.Asked count bytes) = let a = answer_leaves i (take count bytes) in keys_by (registers_of i (take count bytes)) i.door a.key_place a.adapter
  where
    registers_of : Ioc → List ℕ → DoorRegisters
    registers_of i m = (Rattle.mpt_rules.specs.Ioc.Registers.handshakes i m).door

    keys_by : (r s : DoorRegisters) → r.key_place ≡ s.key_place → r.reset_adapter ≡ s.reset_adapter → keys_of r ≡ keys_of s
    keys_by r s e f = Rattle.std.proofs.Common.ap₂ (λ n c. let k : Keys = record { place = n; adapter = c } in k) e f
still_keys i effect.UnitReset = refl
still_keys i effect.AdapterReset = refl
still_keys i (effect.Fault code) = refl

pub keys_still : (i : Ioc) (reg value : ℕ) → keys_of (writes_still i reg value).door ≡ keys_written (keys_of i.door) reg value
keys_still i reg value = still_keys (record i { door = (register_written i.door reg value).registers }) (register_written i.door reg value).effect ∙ keys_register i.door reg value

pub keys_ahead : (i : Ioc) (xs : List Down) → keys_of (written_ahead i xs).door ≡ keys_after (keys_of i.door) xs
unfolding written_ahead keys_after
keys_ahead i [] = refl
keys_ahead i (down.Write reg value ∷ xs) = keys_ahead (writes_still i reg value) xs ∙ ap (λ k. keys_after k xs) (keys_still i reg value)
keys_ahead i (down.Read reg ∷ xs) = keys_ahead i xs
keys_ahead i (down.Post d f p ∷ xs) = keys_ahead i xs
keys_ahead i (down.Return a n ∷ xs) = keys_ahead i xs
keys_ahead i (down.Stop ∷ xs) = keys_ahead i xs

-- ---- lists

pub keys_append : (k : Keys) (xs ys : List Down) → keys_after k (xs ++ ys) ≡ keys_after (keys_after k xs) ys
unfolding keys_after
keys_append k [] ys = refl
keys_append k (down.Write reg value ∷ xs) ys = keys_append (keys_written k reg value) xs ys
keys_append k (down.Read reg ∷ xs) ys = keys_append k xs ys
keys_append k (down.Post d f p ∷ xs) ys = keys_append k xs ys
keys_append k (down.Return a n ∷ xs) ys = keys_append k xs ys
keys_append k (down.Stop ∷ xs) ys = keys_append k xs ys

pub keys_front : (k : Keys) (reg value : ℕ) (xs : List Down) → keys_after k (down.Write reg value ∷ xs) ≡ keys_after (keys_written k reg value) xs
unfolding keys_after
keys_front k reg value xs = refl

pub keys_none : (k : Keys) → keys_after k [] ≡ k
unfolding keys_after
keys_none k = refl

-- a front that is no write
pub keys_pass : (k : Keys) (x : Down) (xs : List Down) → ((reg value : ℕ) → x ≡ down.Write reg value → ⊥) → keys_after k (x ∷ xs) ≡ keys_after k xs
unfolding keys_after
keys_pass k (down.Write reg value) xs n = absurd (n reg value refl)
keys_pass k (down.Read reg) xs n = refl
keys_pass k (down.Post d f p) xs n = refl
keys_pass k (down.Return a i) xs n = refl
keys_pass k down.Stop xs n = refl

-- where no register is written they stay
pub keys_quiet : (k : Keys) (xs : List Down) → how_many is_register_write xs ≡ 0 → keys_after k xs ≡ k
unfolding keys_after
keys_quiet k [] z = refl
keys_quiet k (down.Write reg value ∷ xs) z =
    let c = how_many-cons is_register_write (down.Write reg value) xs in
    ap (λ y. keys_after y xs) (index (reg == REPLY_POST_HOST_INDEX) refl (omega (arith, c, z))) ∙ keys_quiet k xs (omega (arith, c, z))
  where
    index : (b : Bool) → (reg == REPLY_POST_HOST_INDEX) ≡ b → one_if (not (reg == REPLY_POST_HOST_INDEX)) ≡ 0 → keys_written k reg value ≡ k
    index true e o = ap (λ n. keys_written k n value) (Rattle.std.proofs.lemmas.Bool.eqb-true reg REPLY_POST_HOST_INDEX e)
    index false e o = let f : one_if (not (reg == REPLY_POST_HOST_INDEX)) ≡ 1 = ap (λ c. one_if (not c)) e in absurd (omega (arith, o, f))
keys_quiet k (down.Read reg ∷ xs) z = let c = how_many-cons is_register_write (down.Read reg) xs in keys_quiet k xs (omega (arith, c, z))
keys_quiet k (down.Post d f p ∷ xs) z = let c = how_many-cons is_register_write (down.Post d f p) xs in keys_quiet k xs (omega (arith, c, z))
keys_quiet k (down.Return a n ∷ xs) z = let c = how_many-cons is_register_write (down.Return a n) xs in keys_quiet k xs (omega (arith, c, z))
keys_quiet k (down.Stop ∷ xs) z = let c = how_many-cons is_register_write down.Stop xs in keys_quiet k xs (omega (arith, c, z))

pub keys_filtered : (k : Keys) (xs : List Down) → keys_after k (filter resets.is_no_post xs) ≡ keys_after k xs
unfolding keys_after
keys_filtered k [] = refl
keys_filtered k (down.Write reg value ∷ xs) = keys_filtered (keys_written k reg value) xs
keys_filtered k (down.Read reg ∷ xs) = keys_filtered k xs
keys_filtered k (down.Post d f p ∷ xs) = keys_filtered k xs
keys_filtered k (down.Return a n ∷ xs) = keys_filtered k xs
keys_filtered k (down.Stop ∷ xs) = keys_filtered k xs

-- where no reset is begun RESET_ADAPTER stays
pub adapter_stays : (k : Keys) (xs : List Down) → how_many is_reset_item xs ≡ 0 → (keys_after k xs).adapter ≡ k.adapter
unfolding keys_after
adapter_stays k [] z = refl
adapter_stays k (down.Write reg value ∷ xs) z =
    let c = how_many-cons is_reset_item (down.Write reg value) xs in
    adapter_stays (keys_written k reg value) xs (omega (arith, c, z)) ∙ by_tests (reg == WRITE_SEQUENCE) (reg == HOST_DIAGNOSTIC) (has value DIAG_RESET_ADAPTER) ((reg == DOORBELL) && (value == Rattle.mpt_rules.specs.Host.Doorbell.unit_reset_dword)) (k.place == 6) (omega (arith, c, z))
  where
    by_tests : (a b x y u : Bool) → one_if ((b && x) || y) ≡ 0 → (if a then record k { place = place_after k.place (bit_and value WRITE_SEQUENCE_KEY_MASK) } else if b then record k { adapter = (if u then (if x then true else k.adapter) else k.adapter) } else k).adapter ≡ k.adapter
    by_tests true b x y u z = refl
    by_tests false false x y u z = refl
    by_tests false true true y u z = absurd (omega (arith, z))
    by_tests false true false y true z = refl
    by_tests false true false y false z = refl
adapter_stays k (down.Read reg ∷ xs) z = let c = how_many-cons is_reset_item (down.Read reg) xs in adapter_stays k xs (omega (arith, c, z))
adapter_stays k (down.Post d f p ∷ xs) z = let c = how_many-cons is_reset_item (down.Post d f p) xs in adapter_stays k xs (omega (arith, c, z))
adapter_stays k (down.Return a n ∷ xs) z = let c = how_many-cons is_reset_item (down.Return a n) xs in adapter_stays k xs (omega (arith, c, z))
adapter_stays k (down.Stop ∷ xs) z = let c = how_many-cons is_reset_item down.Stop xs in adapter_stays k xs (omega (arith, c, z))

-- the 0 begins anew, wherever the keys stood
begins_anew : (n : ℕ) → place_after n 0 ≡ 0
begins_anew zero = refl
begins_anew (suc zero) = refl
begins_anew (suc (suc zero)) = refl
begins_anew (suc (suc (suc zero))) = refl
begins_anew (suc (suc (suc (suc zero)))) = refl
begins_anew (suc (suc (suc (suc (suc zero))))) = refl
begins_anew (suc (suc (suc (suc (suc (suc n)))))) = refl

-- so a reset's keys unlock HostDiagnostic
pub unlocks_all : (k : Keys) → (keys_after k (next_turn diagnostic_reset None).writes).place ≡ 6
unfolding keys_after turn_from
unlocks_all k = ap (λ n. place_after (place_after (place_after (place_after (place_after (place_after n 0xF) 0x4) 0xB) 0x2) 0x7) 0xD) (begins_anew k.place)
