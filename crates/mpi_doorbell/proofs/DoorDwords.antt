-- A message that the adapter's side asks is the dwords that were written since its handshake was opened.
use Rattle.std.proofs.Common.{◌≡◌, ℕ, ◌+◌, ◌-◌, ◌*◌, ◌/◌, ◌%◌, ◌^◌, ◌<◌, ◌≤◌, eqb, Bool, true, false, ◌&&◌, nat_lt, nat_le, if◌then◌else◌, List, [], ◌∷◌, ◌++◌, length, refl, ap, sym, ◌∙◌, subst, append_assoc, length-append, arith}
use Rattle.std.proofs.lemmas.Bool.Decides.{nat_tests}
use Rattle.std.proofs.lemmas.Bool.{and_parts, cond_both, eqb-true, false≢true, ltb-false, ltb-true}
use Rattle.std.proofs.lemmas.List.{append-nil}
use Rattle.byteorder.specs.Endian.{little_bytes}
use Rattle.mpi_doorbell.specs.declared.effect.Effect.TheVariants as effect
use Rattle.mpi_doorbell.specs.Bytes.{padded}
use Rattle.mpi_doorbell.specs.DoorCalls.{DoorCall, Writes, Answers, SetsState, Restarts, Links, AsksDwords, IsOpenedFor, after_calls, called, doorbell_taken, dword_bytes, taken_of}
use Rattle.mpi_doorbell.specs.DoorRegisters.{DoorRegisters, Written, doorbell_written, diagnostic_written, handshake_opened, is_fault, function_written, new_registers, register_written, released, working_written}
use Rattle.mpi_doorbell.specs.Handshake.{Handshake, Idle, Collects, Asked, Replies, asked_by, dword_taken, is_idle, next_word}

pub dword_bytes-push : (ds : List ℕ) (d : ℕ) → dword_bytes (ds ++ d ∷ []) ≡ dword_bytes ds ++ little_bytes 4 d
dword_bytes-push [] d = append-nil (little_bytes 4 d)
dword_bytes-push (x ∷ ds) d = ap (λ ys. little_bytes 4 x ++ ys) (dword_bytes-push ds d) ∙ sym (append_assoc (little_bytes 4 x) (dword_bytes ds) (little_bytes 4 d))

length-dword_bytes : (ds : List ℕ) → length (dword_bytes ds) ≡ 4 * length ds
length-dword_bytes [] = refl
length-dword_bytes (d ∷ ds) = omega (arith, length-dword_bytes ds)

-- the dwords that came of a message, and how many it has
pub record Gathered (missing : ℕ) (message words : List ℕ) : Type 0 where
  pub dwords : List ℕ
  pub opened : IsOpenedFor words (missing + length dwords) dwords
  pub bytes : message ≡ dword_bytes dwords
  pub more : 0 < missing

Gathers : Handshake → List ℕ → Type 0
Gathers Idle words = Unit {0}
Gathers (Collects missing message) words = Gathered missing message words
Gathers (Asked message) words = Unit {0}
Gathers (Replies left) words = Unit {0}

-- one more dword
opened_more : (words : List ℕ) (n count d : ℕ) (ds : List ℕ) → n ≡ count → IsOpenedFor words n ds → IsOpenedFor (words ++ d ∷ []) count (ds ++ d ∷ [])
opened_more words n count d ds e h =
    record {
      earlier = h.earlier;
      opening = h.opening;
      split = ap (λ ws. ws ++ d ∷ []) h.split ∙ append_assoc h.earlier (h.opening ∷ ds) (d ∷ []);
      function = h.function;
      dword_count = h.dword_count ∙ e;
    }

gathered_more : (missing value : ℕ) (message words : List ℕ) → 1 < missing → Gathered missing message words → Gathered (missing - 1) (message ++ little_bytes 4 value) (words ++ value ∷ [])
gathered_more missing value message words more h =
    let count : missing + length h.dwords ≡ (missing - 1) + length (h.dwords ++ value ∷ []) = omega (arith, length-append h.dwords (value ∷ [])) in
    record {
      dwords = h.dwords ++ value ∷ [];
      opened = opened_more words _ _ value h.dwords count h.opened;
      bytes = ap (λ m. m ++ little_bytes 4 value) h.bytes ∙ sym (dword_bytes-push h.dwords value);
      more = omega arith;
    }

asked_now : (missing value count : ℕ) (message words bytes : List ℕ) → missing ≤ 1 → Gathered missing message words
    → count ≡ length (message ++ little_bytes 4 value) → bytes ≡ padded (message ++ little_bytes 4 value) → AsksDwords (words ++ value ∷ []) count bytes
asked_now missing value count message words bytes last h c b =
    let is : message ++ little_bytes 4 value ≡ dword_bytes (h.dwords ++ value ∷ []) = ap (λ m. m ++ little_bytes 4 value) h.bytes ∙ sym (dword_bytes-push h.dwords value) in
    let n : missing + length h.dwords ≡ length (h.dwords ++ value ∷ []) = omega (arith, length-append h.dwords (value ∷ []), h.more) in
    record {
      dwords = h.dwords ++ value ∷ [];
      opened = opened_more words _ _ value h.dwords n h.opened;
      size = c ∙ ap length is ∙ length-dword_bytes (h.dwords ++ value ∷ []);
      message = b ∙ ap padded is;
    }

opened_now : (value : ℕ) (words : List ℕ) → value / 2 ^ 24 ≡ 0x42 → 0 < value / 2 ^ 16 % 256 → Gathered (value / 2 ^ 16 % 256) [] (words ++ value ∷ [])
opened_now value words f more =
    record {
      dwords = [];
      opened = record { earlier = words; opening = value; split = refl; function = f; dword_count = omega arith };
      bytes = refl;
      more = more;
    }

gathers_if : (b : Bool) (h k : Handshake) (words : List ℕ) → (b ≡ true → Gathers h words) → (b ≡ false → Gathers k words) → Gathers (if b then h else k) words
gathers_if true h k words f g = f refl
gathers_if false h k words f g = g refl

gathers_next : (h : Handshake) (words : List ℕ) → Gathers h words → Gathers (next_word h) words
unfolding Gathers
gathers_next Idle words g = tt
gathers_next (Collects missing message) words g = g
gathers_next (Asked message) words g = tt
gathers_next (Replies left) words g = gathers_if (nat_lt 2 (length left)) _ _ words (λ _. tt) (λ _. tt)

gathers_taken : (h : Handshake) (value : ℕ) (words : List ℕ) → Gathers h words → Gathers (dword_taken h value) (words ++ value ∷ [])
unfolding Gathers
gathers_taken Idle value words g = tt
gathers_taken (Collects missing message) value words g =
    gathers_if (nat_lt 1 missing) _ _ _ (λ e. gathered_more missing value message words (ltb-true 1 missing e) g) (λ _. tt)
gathers_taken (Asked message) value words g = tt
gathers_taken (Replies left) value words g = tt

idle_is : (h : Handshake) → is_idle h ≡ true → h ≡ Idle
idle_is Idle e = refl
idle_is (Collects missing message) e = absurd (false≢true e)
idle_is (Asked message) e = absurd (false≢true e)
idle_is (Replies left) e = absurd (false≢true e)

gathers_idle : (h : Handshake) (words : List ℕ) → h ≡ Idle → Gathers h words
unfolding Gathers
gathers_idle h words e = subst (λ (k : Handshake). Gathers k words) (sym e) tt

-- what a write makes of the handshake
abbrev GathersAfter : List ℕ → Written → Type 0
GathersAfter words w = Gathers w.registers.handshake words

gathers_opened : (r : DoorRegisters) (value : ℕ) (words : List ℕ) → r.handshake ≡ Idle → value / 2 ^ 24 ≡ 0x42
    → GathersAfter (words ++ value ∷ []) (handshake_opened r (value / 2 ^ 16 % 256))
unfolding Gathers
gathers_opened r value words idle f =
    cond_both (nat_lt 0 (value / 2 ^ 16 % 256) && nat_le (value / 2 ^ 16 % 256) 32) _ _ (GathersAfter (words ++ value ∷ []))
    (λ e. opened_now value words f (ltb-true 0 _ (and_parts _ _ e).0))
    (λ _. gathers_idle r.handshake (words ++ value ∷ []) idle)

gathers_function : (r : DoorRegisters) (value : ℕ) (words : List ℕ) → r.handshake ≡ Idle
    → GathersAfter (words ++ value ∷ []) (function_written r (value / 2 ^ 24) (value / 2 ^ 16 % 256))
gathers_function r value words idle =
    cond_both (eqb (value / 2 ^ 24) 0x42) _ _ (GathersAfter (words ++ value ∷ []))
    (λ e. gathers_opened r value words idle (eqb-true _ _ e))
    (λ _. cond_both (eqb (value / 2 ^ 24) 0x40) _ _ (GathersAfter (words ++ value ∷ []))
    (λ _. gathers_idle r.handshake (words ++ value ∷ []) idle)
    (λ _. gathers_idle r.handshake (words ++ value ∷ []) idle))

gathers_doorbell : (r : DoorRegisters) (value : ℕ) (words : List ℕ) → Gathers r.handshake words → GathersAfter (words ++ value ∷ []) (doorbell_written r value)
gathers_doorbell r value words g =
    cond_both (is_idle r.handshake) _ _ (GathersAfter (words ++ value ∷ []))
    (λ e. gathers_function r value words (idle_is r.handshake e))
    (λ _. gathers_taken r.handshake value words g)

-- a call that takes no dword
gathers_quiet : (h : Handshake) (words ws : List ℕ) → ws ≡ [] → Gathers h words → Gathers h (words ++ ws)
gathers_quiet h words ws none g = subst (Gathers h) (sym (ap (λ x. words ++ x) none ∙ append-nil words)) g

diagnostic_handshake : (r : DoorRegisters) (value : ℕ) → (diagnostic_written r value).registers.handshake ≡ r.handshake
diagnostic_handshake r value = grind arith

takes_none_elsewhere : (r : DoorRegisters) (reg value at : ℕ) → eqb reg at ≡ true → 0 < at → taken_of r (Writes reg value) ≡ []
takes_none_elsewhere r reg value at e more = grind (arith, nat_tests)

takes_none_else : (r : DoorRegisters) (reg value : ℕ) → eqb reg 0 ≡ false → taken_of r (Writes reg value) ≡ []
takes_none_else r reg value e = grind (arith, nat_tests)

takes_none_faulted : (r : DoorRegisters) (reg value : ℕ) → is_fault r.state ≡ true → taken_of r (Writes reg value) ≡ []
takes_none_faulted r reg value e = grind (arith, nat_tests)

takes_one : (r : DoorRegisters) (reg value : ℕ) → eqb reg 0 ≡ true → is_fault r.state ≡ false → taken_of r (Writes reg value) ≡ value ∷ []
takes_one r reg value e f = grind (arith, nat_tests)

gathers_working : (r : DoorRegisters) (reg value : ℕ) (words : List ℕ) → is_fault r.state ≡ false → Gathers r.handshake words
    → GathersAfter (words ++ taken_of r (Writes reg value)) (working_written r reg value)
gathers_working r reg value words works g =
    let P : Written → Type 0 = GathersAfter (words ++ taken_of r (Writes reg value)) in
    cond_both (eqb reg 0) _ _ P
    (λ e. subst (λ (ws : List ℕ). GathersAfter (words ++ ws) (doorbell_written r value)) (sym (takes_one r reg value e works)) (gathers_doorbell r value words g))
    (λ n. cond_both (eqb reg 0x30) _ _ P
    (λ e. gathers_quiet (next_word r.handshake) words _ (takes_none_else r reg value n) (gathers_next r.handshake words g))
    (λ _. cond_both (eqb reg 0x34) _ _ P
    (λ _. gathers_quiet r.handshake words _ (takes_none_else r reg value n) g)
    (λ _. cond_both (eqb reg 0x6C) _ _ P
    (λ _. gathers_quiet r.handshake words _ (takes_none_else r reg value n) g)
    (λ _. gathers_quiet r.handshake words _ (takes_none_else r reg value n) g))))

gathers_written : (r : DoorRegisters) (reg value : ℕ) (words : List ℕ) → Gathers r.handshake words
    → GathersAfter (words ++ taken_of r (Writes reg value)) (register_written r reg value)
gathers_written r reg value words g =
    let P : Written → Type 0 = GathersAfter (words ++ taken_of r (Writes reg value)) in
    cond_both (eqb reg 4) _ _ P
    (λ e. gathers_quiet r.handshake words _ (takes_none_elsewhere r reg value 4 e (omega arith)) g)
    (λ _. cond_both (eqb reg 8) _ _ P
    (λ e. gathers_quiet _ words _ (takes_none_elsewhere r reg value 8 e (omega arith))
    (subst (λ (h : Handshake). Gathers h words) (sym (diagnostic_handshake r value)) g))
    (λ _. cond_both (is_fault r.state) _ _ P
    (λ e. gathers_quiet r.handshake words _ (takes_none_faulted r reg value e) g)
    (λ e. gathers_working r reg value words e g)))

released_handshake : (r : DoorRegisters) → (released r).handshake ≡ r.handshake
released_handshake r = grind arith

gathers_call : (r : DoorRegisters) (c : DoorCall) (words : List ℕ) → Gathers r.handshake words → Gathers (called r c).handshake (words ++ taken_of r c)
unfolding Gathers
gathers_call r (Writes reg value) words g = gathers_written r reg value words g
gathers_call r (Answers reply) words g = tt
gathers_call r (SetsState state) words g = gathers_quiet r.handshake words [] refl g
gathers_call r Restarts words g = tt
gathers_call r Links words g =
    gathers_quiet _ words [] refl
    (subst (λ (h : Handshake). Gathers h words) (sym (released_handshake (record r { reset_adapter = false; link_waits = true }))) g)

gathers_run : (r : DoorRegisters) (cs : List DoorCall) (words : List ℕ) → Gathers r.handshake words → Gathers (after_calls r cs).handshake (words ++ doorbell_taken r cs)
gathers_run r [] words g = gathers_quiet r.handshake words [] refl g
gathers_run r (c ∷ cs) words g =
    subst (Gathers (after_calls (called r c) cs).handshake) (append_assoc words (taken_of r c) (doorbell_taken (called r c) cs))
    (gathers_run (called r c) cs (words ++ taken_of r c) (gathers_call r c words g))

-- only the last dword of a handshake asks a message

function_asks_none : (r : DoorRegisters) (f n count : ℕ) (bytes : List ℕ) → (function_written r f n).effect ≡ effect.Asked count bytes → ⊥
function_asks_none r f n count bytes e = grind arith

diagnostic_asks_none : (r : DoorRegisters) (value count : ℕ) (bytes : List ℕ) → (diagnostic_written r value).effect ≡ effect.Asked count bytes → ⊥
diagnostic_asks_none r value count bytes e = grind arith

doorbell_asks : (r : DoorRegisters) (value count : ℕ) (bytes : List ℕ) → (doorbell_written r value).effect ≡ effect.Asked count bytes → asked_by r.handshake value ≡ effect.Asked count bytes
doorbell_asks r value count bytes e = grind (arith, function_asks_none)

working_asks : (r : DoorRegisters) (reg value count : ℕ) (bytes : List ℕ) → (working_written r reg value).effect ≡ effect.Asked count bytes → asked_by r.handshake value ≡ effect.Asked count bytes
working_asks r reg value count bytes e = grind (arith, doorbell_asks)

register_asks : (r : DoorRegisters) (reg value count : ℕ) (bytes : List ℕ) → (register_written r reg value).effect ≡ effect.Asked count bytes → asked_by r.handshake value ≡ effect.Asked count bytes
register_asks r reg value count bytes =
    let P : Written → Type 0 = λ w. w.effect ≡ effect.Asked count bytes → asked_by r.handshake value ≡ effect.Asked count bytes in
    cond_both (eqb reg 4) _ _ P
    (λ _ e. absurd (cc))
    (λ _. cond_both (eqb reg 8) _ _ P
    (λ _ e. absurd (diagnostic_asks_none r value count bytes e))
    (λ _. cond_both (is_fault r.state) _ _ P (λ _ e. absurd (cc)) (λ _ e. working_asks r reg value count bytes e)))

-- and it is written to the Doorbell

working_asks_at : (r : DoorRegisters) (reg value count : ℕ) (bytes : List ℕ) → (working_written r reg value).effect ≡ effect.Asked count bytes → reg ≡ 0
working_asks_at r reg value count bytes =
    let P : Written → Type 0 = λ w. w.effect ≡ effect.Asked count bytes → reg ≡ 0 in
    cond_both (eqb reg 0) _ _ P
    (λ at _. eqb-true _ _ at)
    (λ _. cond_both (eqb reg 0x30) _ _ P (λ _ e. absurd (cc))
    (λ _. cond_both (eqb reg 0x34) _ _ P (λ _ e. absurd (cc))
    (λ _. cond_both (eqb reg 0x6C) _ _ P (λ _ e. absurd (cc)) (λ _ e. absurd (cc)))))

register_asks_at : (r : DoorRegisters) (reg value count : ℕ) (bytes : List ℕ) → (register_written r reg value).effect ≡ effect.Asked count bytes → reg ≡ 0
register_asks_at r reg value count bytes =
    let P : Written → Type 0 = λ w. w.effect ≡ effect.Asked count bytes → reg ≡ 0 in
    cond_both (eqb reg 4) _ _ P
    (λ _ e. absurd (cc))
    (λ _. cond_both (eqb reg 8) _ _ P
    (λ _ e. absurd (diagnostic_asks_none r value count bytes e))
    (λ _. cond_both (is_fault r.state) _ _ P (λ _ e. absurd (cc)) (λ _ e. working_asks_at r reg value count bytes e)))

asked_if : (b : Bool) (n count : ℕ) (x bytes : List ℕ) → if b then effect.None else effect.Asked n x ≡ effect.Asked count bytes → (b ≡ false) × (count ≡ n) × (bytes ≡ x)
asked_if true n count x bytes e = absurd (cc)
asked_if false n count x bytes e = (refl, cc, cc)

asks_dwords : (h : Handshake) (value count : ℕ) (words bytes : List ℕ) → Gathers h words → asked_by h value ≡ effect.Asked count bytes → AsksDwords (words ++ value ∷ []) count bytes
unfolding Gathers
asks_dwords Idle value count words bytes g e = absurd (cc)
asks_dwords (Collects missing message) value count words bytes g e =
    let a = asked_if (nat_lt 1 missing) _ count _ bytes e in
    asked_now missing value count message words bytes (ltb-false 1 missing a.0) g a.1 a.2
asks_dwords (Asked message) value count words bytes g e = absurd (cc)
asks_dwords (Replies left) value count words bytes g e = absurd (cc)

pub dwords_law : (calls : List DoorCall) (reg value count : ℕ) (bytes : List ℕ) → (register_written (after_calls new_registers calls) reg value).effect ≡ effect.Asked count bytes
    → (reg ≡ 0) × AsksDwords (doorbell_taken new_registers calls ++ value ∷ []) count bytes
dwords_law calls reg value count bytes e =
    let r : DoorRegisters = after_calls new_registers calls in (
      register_asks_at r reg value count bytes e,
      asks_dwords r.handshake value count (doorbell_taken new_registers calls) bytes
          (gathers_run new_registers calls [] (gathers_idle Idle [] refl))
          (register_asks r reg value count bytes e),
    )
