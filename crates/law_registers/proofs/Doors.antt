-- A controller to which nothing but register accesses and links come, beside one to which all comes: their registers are
-- the same, and the values that wait in the one's outbox are those of the other's.
use Rattle.std.proofs.Common.{◌≡◌, ℕ, zero, suc, ◌+◌, ◌%◌, ◌^◌, ◌==◌, ◌&&◌, not, nat_le, nat_lt, Bool, true, false, cond, if◌then◌else◌, List, [], ◌∷◌, ◌++◌, length, map, get_or, set, take, slice_index, Option, Some, None, refl, ap, ap₂, sym, ◌∙◌, arith, length-set}
use Rattle.std.specs.List.{filter}
use Rattle.std.proofs.lemmas.Bool.Decides.{nat_tests}
use Rattle.mpi_doorbell.specs.DoorRegisters.{DoorRegisters, answered, restarted}
use Rattle.mpi_doorbell.specs.declared.effect.Effect.{Effect}
use Rattle.mpi_doorbell.specs.declared.effect.Effect.TheVariants as effect
use Rattle.mpi_doorbell.specs.declared.state.IocState.TheVariants as state
use Rattle.mpt_messages.specs.IocFrames.{reply_frame, reply_length}
use Rattle.mpt_messages.specs.Function.{byte_of, function_of}
use Rattle.mpt_messages.specs.Refusal.{request_refusal_as}
use Rattle.mpt_messages.specs.declared.fault.MsgFault.{MsgFault}
use Rattle.mpt_messages.specs.declared.function.Function.{Function}
use Rattle.mpt_messages.specs.declared.function.Function.TheVariants as function
use Rattle.mpt_messages.specs.declared.function.Kind.TheVariants as kind
use Rattle.mpt_messages.specs.declared.ioc_reply.IocReply.{IocReply}
use Rattle.mpt_messages.specs.declared.ioc_reply.IocReply.TheVariants as reply
use Rattle.mpt_wire.specs.Messages.Fields.{host_msix_vectors_in, port_number_in}
use Rattle.mpt_trace.specs.declared.item.Out.{Out}
use Rattle.mpt_rules.specs.declared.said.Said.{Said}
use Rattle.mpt_rules.specs.declared.said.Said.TheVariants as said
use Rattle.mpt_rules.specs.declared.status.TheConstants.{IOC_STATUS_INVALID_FIELD, IOC_STATUS_INVALID_FUNCTION, IOC_STATUS_INVALID_STATE, IOC_STATUS_SUCCESS}
use Rattle.mpt_rules.specs.Ioc.Parts.{Ioc}
use Rattle.mpt_rules.specs.Ioc.Registers as registers
use Rattle.mpt_rules.specs.Ioc.Replies.{refusal_status}
use Rattle.mpt_rules.specs.Ioc.Resets.{forgets, marked, next_generation, outlives_reset}
use Rattle.mpt_rules.specs.Ioc.Tables.{in_state, is_ready}
use Rattle.mpt_rules.specs.World.Counts.{one_if}
use Rattle.law_facts.specs.Words.{is_reply, others}
use Rattle.law_flights.proofs.Tables.{get_or-set_any}
use Rattle.law_moves.proofs.Counted.{Grown, others-cons}
use Rattle.law_moves.proofs.IocSpeaks.{IocSpeaks}
use Rattle.law_moves.proofs.IocTakes.{ComesUp, Shook, Stays, shook}

abbrev pub is_value : Said → Bool
is_value (said.Value value) = true
is_value _ = false

-- the values among what waits
abbrev pub values_in : List Said → List Said
values_in items = filter is_value items

pub record Ties (model_door : DoorRegisters) (model_generation : ℕ) (model_up : List (List Said)) (door : DoorRegisters) (generation : ℕ) (up : List (List Said)) : Type 0 where
  pub door_is : model_door ≡ door
  pub generation_is : model_generation ≡ generation
  pub queues_are : length model_up ≡ length up
  pub values_are : get_or model_up 0 [] ≡ values_in (get_or up 0 [])
  -- no value waits for another queue
  pub elsewhere : (q : ℕ) → values_in (get_or up (suc q) []) ≡ []

abbrev pub Tied : Ioc → Ioc → Type 0
Tied m i = Ties m.door m.generation m.up i.door i.generation i.up

-- ---- lists of what waits

pub values_append : (xs ys : List Said) → values_in (xs ++ ys) ≡ values_in xs ++ values_in ys
values_append [] ys = refl
values_append (x ∷ xs) ys = by_test (is_value x) (values_append xs ys)
  where
    by_test : (b : Bool) → values_in (xs ++ ys) ≡ values_in xs ++ values_in ys → (if b then x ∷ values_in (xs ++ ys) else values_in (xs ++ ys)) ≡ (if b then x ∷ values_in xs else values_in xs) ++ values_in ys
    by_test true ih = ap (λ (zs : List Said). x ∷ zs) ih
    by_test false ih = ih

append_none : (xs : List Said) → xs ++ [] ≡ xs
append_none [] = refl
append_none (x ∷ xs) = ap (λ (zs : List Said). x ∷ zs) (append_none xs)

-- replies are no values
replies_none : (items : List Said) → others is_reply items ≡ 0 → values_in items ≡ []
replies_none [] e = refl
replies_none (x ∷ xs) e = let c = others-cons is_reply x xs in by_item x e c (λ z. replies_none xs z)
  where
    by_item : (x : Said) → others is_reply (x ∷ xs) ≡ 0 → others is_reply (x ∷ xs) ≡ one_if (not (is_reply x)) + others is_reply xs → (others is_reply xs ≡ 0 → values_in xs ≡ []) → values_in (x ∷ xs) ≡ []
    by_item (said.Success smid page sense) e c ih = ih (omega (arith, e, c))
    by_item (said.Framed smid frame page sense) e c ih = ih (omega (arith, e, c))
    by_item (said.Value value) e c ih = absurd (omega (arith, e, c))
    by_item (said.Mark generation) e c ih = absurd (omega (arith, e, c))
    by_item said.Calm e c ih = absurd (omega (arith, e, c))

pub grown_values : (xs ys : List Said) → Grown is_reply xs ys → values_in ys ≡ values_in xs
grown_values xs ys g =
    ap values_in g.is ∙ (values_append xs g.added ∙ (ap (λ (zs : List Said). values_in xs ++ zs) (replies_none g.added g.mild) ∙ append_none (values_in xs)))

-- what outlives a reset
outlive : (xs : List Said) → values_in (filter outlives_reset xs) ≡ values_in xs
outlive [] = refl
outlive (said.Value value ∷ xs) = ap (λ (zs : List Said). said.Value value ∷ zs) (outlive xs)
outlive (said.Success smid page sense ∷ xs) = outlive xs
outlive (said.Framed smid frame page sense ∷ xs) = outlive xs
outlive (said.Mark generation ∷ xs) = outlive xs
outlive (said.Calm ∷ xs) = outlive xs

values_outlive : (xs : List Said) → filter outlives_reset (values_in xs) ≡ values_in xs
values_outlive [] = refl
values_outlive (said.Value value ∷ xs) = ap (λ (zs : List Said). said.Value value ∷ zs) (values_outlive xs)
values_outlive (said.Success smid page sense ∷ xs) = values_outlive xs
values_outlive (said.Framed smid frame page sense ∷ xs) = values_outlive xs
values_outlive (said.Mark generation ∷ xs) = values_outlive xs
values_outlive (said.Calm ∷ xs) = values_outlive xs

-- the outboxes after a reset
marked_first : (g : ℕ) (up : List (List Said)) → get_or (marked g (map (filter outlives_reset) up)) 0 [] ≡ filter outlives_reset (get_or up 0 [])
marked_first g [] = refl
marked_first g (xs ∷ up) = refl

marked_length : (g : ℕ) (up : List (List Said)) → length (marked g (map (filter outlives_reset) up)) ≡ length up
marked_length g [] = refl
marked_length g (xs ∷ up) = let h = by_rest up in omega (arith, h)
  where
    by_rest : (up : List (List Said)) → length (map (λ (outbox : List Said). outbox ++ said.Mark g ∷ []) (map (filter outlives_reset) up)) ≡ length up
    by_rest [] = refl
    by_rest (ys ∷ up) = let h = by_rest up in omega (arith, h)

marked_elsewhere : (g : ℕ) (up : List (List Said)) → ((q : ℕ) → values_in (get_or up (suc q) []) ≡ []) → (q : ℕ) → values_in (get_or (marked g (map (filter outlives_reset) up)) (suc q) []) ≡ []
marked_elsewhere g [] h q = refl
marked_elsewhere g (xs ∷ up) h q = by_place up q h
  where
    by_place : (up : List (List Said)) (q : ℕ) → ((q : ℕ) → values_in (get_or (xs ∷ up) (suc q) []) ≡ [])
        → values_in (get_or (map (λ (outbox : List Said). outbox ++ said.Mark g ∷ []) (map (filter outlives_reset) up)) q []) ≡ []
    by_place [] q h = refl
    by_place (ys ∷ up) zero h = values_append (filter outlives_reset ys) (said.Mark g ∷ []) ∙ (append_none (values_in (filter outlives_reset ys)) ∙ (outlive ys ∙ h 0))
    by_place (ys ∷ up) (suc q) h = by_place up q (λ r. h (suc r))

-- ---- the same registers

-- replies go behind what waits
pub spoken : (m i k : Ioc) (test : Out → Bool) → IocSpeaks test i k → Tied m i → Tied m k
spoken m i k test s t =
    record {
      door_is = t.door_is ∙ sym s.door_is;
      generation_is = t.generation_is ∙ sym s.generation_is;
      queues_are = t.queues_are ∙ sym s.queues_is;
      values_are = t.values_are ∙ sym (grown_values (get_or i.up 0 []) (get_or k.up 0 []) (s.says 0));
      elsewhere = λ q. grown_values (get_or i.up (suc q) []) (get_or k.up (suc q) []) (s.says (suc q)) ∙ t.elsewhere q;
    }

-- something is said on queue 0, by both where it is a value
module _ (up : List (List Said)) (items : List Said) where
  abbrev more_said : List (List Said)
  more_said = set up 0 (get_or up 0 [] ++ items)

  said_first : get_or more_said 0 [] ≡ cond (nat_lt 0 (length up)) (get_or up 0 [] ++ items) (get_or up 0 [])
  said_first = get_or-set_any up 0 0 (get_or up 0 [] ++ items) []

  said_elsewhere : (q : ℕ) → get_or more_said (suc q) [] ≡ get_or up (suc q) []
  said_elsewhere q =
      let apart : (suc q == 0) ≡ false = grind (arith, nat_tests) in
      get_or-set_any up 0 (suc q) (get_or up 0 [] ++ items) [] ∙ ap (λ (b : Bool). cond b (cond (nat_lt 0 (length up)) (get_or up 0 [] ++ items) (get_or up (suc q) [])) (get_or up (suc q) [])) apart

pub value_said : (m i : Ioc) (v w : ℕ) → v ≡ w → Tied m i → Ties m.door m.generation (more_said m.up (said.Value v ∷ [])) i.door i.generation (more_said i.up (said.Value w ∷ []))
value_said m i v w same t =
    record {
      door_is = t.door_is;
      generation_is = t.generation_is;
      queues_are = length-set m.up 0 _ ∙ (t.queues_are ∙ sym (length-set i.up 0 _));
      values_are = said_first m.up (said.Value v ∷ []) ∙ (ap (λ (n : ℕ). cond (nat_lt 0 n) (get_or m.up 0 [] ++ said.Value v ∷ []) (get_or m.up 0 [])) t.queues_are ∙ (by_place (nat_lt 0 (length i.up)) ∙ sym (ap values_in (said_first i.up (said.Value w ∷ [])))));
      elsewhere = λ q. ap values_in (said_elsewhere i.up (said.Value w ∷ []) q) ∙ t.elsewhere q;
    }
  where
    by_place : (b : Bool) → cond b (get_or m.up 0 [] ++ said.Value v ∷ []) (get_or m.up 0 []) ≡ values_in (cond b (get_or i.up 0 [] ++ said.Value w ∷ []) (get_or i.up 0 []))
    by_place true = ap₂ (λ (xs : List Said) (n : ℕ). xs ++ said.Value n ∷ []) t.values_are same ∙ sym (values_append (get_or i.up 0 []) (said.Value w ∷ []))
    by_place false = t.values_are

pub calm_said : (m i : Ioc) → Tied m i → Ties m.door m.generation m.up i.door i.generation (more_said i.up (said.Calm ∷ []))
calm_said m i t =
    record {
      door_is = t.door_is;
      generation_is = t.generation_is;
      queues_are = t.queues_are ∙ sym (length-set i.up 0 _);
      values_are = t.values_are ∙ sym (ap values_in (said_first i.up (said.Calm ∷ [])) ∙ by_place (nat_lt 0 (length i.up)));
      elsewhere = λ q. ap values_in (said_elsewhere i.up (said.Calm ∷ []) q) ∙ t.elsewhere q;
    }
  where
    by_place : (b : Bool) → values_in (cond b (get_or i.up 0 [] ++ said.Calm ∷ []) (get_or i.up 0 [])) ≡ values_in (get_or i.up 0 [])
    by_place true = values_append (get_or i.up 0 []) (said.Calm ∷ []) ∙ append_none (values_in (get_or i.up 0 []))
    by_place false = refl

-- ---- handshakes

-- the door behind an answer
abbrev answered_with : DoorRegisters → IocReply → DoorRegisters
answered_with d r = answered d (take (reply_length r) (reply_frame r))

abbrev init_status_of : DoorRegisters → ℕ → List ℕ → ℕ
init_status_of d n message =
    if not (is_ready d.state) then IOC_STATUS_INVALID_STATE
    else if registers.sizes_fit message && (nat_le 1 (host_msix_vectors_in message) && nat_le (host_msix_vectors_in message) n) then IOC_STATUS_SUCCESS
    else IOC_STATUS_INVALID_FIELD

abbrev init_door : DoorRegisters → ℕ → DoorRegisters
init_door d status = if status == IOC_STATUS_SUCCESS then in_state (answered_with d (reply.Plain (byte_of function.IocInit) status)) state.Operational else answered_with d (reply.Plain (byte_of function.IocInit) status)

inited : (i : Ioc) (message : List ℕ) (status : ℕ) → (registers.inits i message status).door ≡ init_door i.door status
inited i message status = by_test (status == IOC_STATUS_SUCCESS)
  where
    by_test : (b : Bool) → (if b then registers.operates (registers.ends_init i status) message else registers.ends_init i status).door ≡ (if b then in_state (answered_with i.door (reply.Plain (byte_of function.IocInit) status)) state.Operational else answered_with i.door (reply.Plain (byte_of function.IocInit) status))
    by_test true = refl
    by_test false = refl

module _ (m i : Ioc) (e : m.door ≡ i.door) (c : length m.up ≡ length i.up) where
  plainly : (r : IocReply) → answered_with m.door r ≡ answered_with i.door r
  plainly r = ap (λ (d : DoorRegisters). answered_with d r) e

  served : (message : List ℕ) (f : Option Function) → (registers.serves_handshake m message f).door ≡ (registers.serves_handshake i message f).door
  served message None = plainly (reply.Plain (slice_index message 3) IOC_STATUS_INVALID_FUNCTION)
  served message (Some function.IocInit) =
      inited m message (registers.init_status m message)
      ∙ (ap₂ (λ (d : DoorRegisters) (n : ℕ). init_door d n) e (ap₂ (λ (d : DoorRegisters) (n : ℕ). init_status_of d n message) e c) ∙ sym (inited i message (registers.init_status i message)))
  served message (Some function.IocFacts) = ap₂ (λ (d : DoorRegisters) (n : ℕ). answered_with d (reply.Facts d.who_init n)) e c
  served message (Some function.PortFacts) = plainly (reply.PortFacts (port_number_in message) (registers.port_facts_status message))
  served message (Some function.ScsiIo) = plainly (reply.Plain (slice_index message 3) IOC_STATUS_INVALID_FUNCTION)
  served message (Some function.TaskManagement) = plainly (reply.Plain (slice_index message 3) IOC_STATUS_INVALID_FUNCTION)
  served message (Some function.Config) = plainly (reply.Plain (slice_index message 3) IOC_STATUS_INVALID_FUNCTION)
  served message (Some function.PortEnable) = plainly (reply.Plain (slice_index message 3) IOC_STATUS_INVALID_FUNCTION)
  served message (Some function.EventNotification) = plainly (reply.Plain (slice_index message 3) IOC_STATUS_INVALID_FUNCTION)
  served message (Some function.EventAck) = plainly (reply.Plain (slice_index message 3) IOC_STATUS_INVALID_FUNCTION)
  served message (Some function.UnitControl) = plainly (reply.Plain (slice_index message 3) IOC_STATUS_INVALID_FUNCTION)

  handshaken : (message : List ℕ) → (registers.handshakes m message).door ≡ (registers.handshakes i message).door
  handshaken message = by_refusal (request_refusal_as kind.Handshake message (function_of (slice_index message 3)))
    where
      by_refusal : (o : Option MsgFault) → (registers.handshakes_if m message o).door ≡ (registers.handshakes_if i message o).door
      by_refusal None = served message (function_of (slice_index message 3))
      by_refusal (Some refusal) = plainly (reply.Plain (slice_index message 3) (refusal_status refusal))

-- nothing else moves
up_shook : (i k : Ioc) → Shook i k → k.up ≡ i.up
up_shook i k (Stays s e) = ap (λ (j : Ioc). j.up) e
up_shook i k (ComesUp a s e) = ap (λ (j : Ioc). j.up) e

generation_shook : (i k : Ioc) → Shook i k → k.generation ≡ i.generation
generation_shook i k (Stays s e) = ap (λ (j : Ioc). j.generation) e
generation_shook i k (ComesUp a s e) = ap (λ (j : Ioc). j.generation) e

-- ---- writes

forgot : (m i : Ioc) → Tied m i → Tied (forgets m) (forgets i)
forgot m i t =
    record {
      door_is = ap restarted t.door_is;
      generation_is = ap (λ (n : ℕ). (n + 1) % 2 ^ 32) t.generation_is;
      queues_are = marked_length (next_generation m) m.up ∙ (t.queues_are ∙ sym (marked_length (next_generation i) i.up));
      values_are = marked_first (next_generation m) m.up ∙ (ap (filter outlives_reset) t.values_are ∙ (values_outlive (get_or i.up 0 []) ∙ sym (ap values_in (marked_first (next_generation i) i.up) ∙ outlive (get_or i.up 0 []))));
      elsewhere = λ q. marked_elsewhere (next_generation i) i.up t.elsewhere q;
    }

-- what a write asks of both
pub effected : (m i : Ioc) (f : Effect) → Tied m i → Tied (registers.after_effect m f).part (registers.after_effect i f).part
effected m i effect.None t = t
effected m i (effect.Asked count bytes) t =
    let a = shook m (take count bytes) in
    let b = shook i (take count bytes) in
    let x : Ioc = registers.handshakes m (take count bytes) in
    let y : Ioc = registers.handshakes i (take count bytes) in
    record {
      door_is = handshaken m i t.door_is t.queues_are (take count bytes);
      generation_is = generation_shook m x a ∙ (t.generation_is ∙ sym (generation_shook i y b));
      queues_are = ap length (up_shook m x a) ∙ (t.queues_are ∙ sym (ap length (up_shook i y b)));
      values_are = ap (λ (u : List (List Said)). get_or u 0 []) (up_shook m x a) ∙ (t.values_are ∙ sym (ap (λ (u : List (List Said)). values_in (get_or u 0 [])) (up_shook i y b)));
      elsewhere = λ q. ap (λ (u : List (List Said)). values_in (get_or u (suc q) [])) (up_shook i y b) ∙ t.elsewhere q;
    }
effected m i effect.UnitReset t = forgot m i t
effected m i effect.AdapterReset t = forgot m i t
effected m i (effect.Fault code) t =
    record {
      door_is = ap (λ (d : DoorRegisters). in_state d (state.Fault code)) t.door_is;
      generation_is = t.generation_is;
      queues_are = t.queues_are;
      values_are = t.values_are;
      elsewhere = t.elsewhere;
    }
