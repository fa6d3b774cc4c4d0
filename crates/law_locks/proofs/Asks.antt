-- The host's three messages at the doorbell, and the replies that a controller makes to them which waits for IOC Init.
use Rattle.std.proofs.Common.{◌≡◌, ℕ, zero, suc, ◌*◌, ◌%◌, ◌<◌, ◌≤◌, ◌==◌, ◌&&◌, not, nat_le, nat_lt, Bool, true, false, if◌then◌else◌, List, drop, length, slice_index, take, unwrap_or, Option, Some, None, refl, ap, ap₂, sym, ◌∙◌, subst, arith}
use Rattle.std.specs.List.{All, list_all}
use Rattle.std.proofs.lemmas.Bool.{and_parts, eqb-true, leb-true, ltb-true}
use Rattle.std.proofs.lemmas.List.Sums.{AllPass-from_list_all}
use Rattle.byteorder.specs.Endian.{little_number}
use Rattle.ioc_msgs.specs.IocFacts as facts
use Rattle.ioc_msgs.specs.IocFactsReply as facts_reply
use Rattle.ioc_msgs.specs.IocInit as init
use Rattle.ioc_msgs.specs.PortFacts as port_facts
use Rattle.ioc_msgs.specs.PortFactsReply as port_facts_reply
use Rattle.mpi_layout.specs.Rows.{field}
use Rattle.mpi_doorbell.specs.DoorRegisters.{DoorRegisters, answered, is_fault, who_init_after}
use Rattle.mpi_doorbell.specs.Handshake.{Asked, Replies, init_by}
use Rattle.mpi_doorbell.specs.declared.state.IocState.{IocState}
use Rattle.mpi_doorbell.specs.declared.state.IocState.TheVariants as ioc_state
use Rattle.mpt_messages.specs.Function.{byte_of, function_of}
use Rattle.mpt_messages.specs.Refusal.{request_refusal_as}
use Rattle.mpt_messages.specs.declared.fault.MsgFault.{MsgFault}
use Rattle.mpt_messages.specs.declared.function.Function.{Function}
use Rattle.mpt_messages.specs.declared.function.Function.TheVariants as function
use Rattle.mpt_messages.specs.declared.function.Kind.TheVariants as way
use Rattle.mpt_messages.specs.declared.host_ask.HostAsk.{HostAsk}
use Rattle.mpt_messages.specs.declared.host_ask.HostAsk.TheVariants as ask
use Rattle.mpt_messages.specs.declared.ioc_reply.IocReply.{IocReply}
use Rattle.mpt_messages.specs.declared.ioc_reply.IocReply.TheVariants as reply
use Rattle.mpt_wire.specs.Messages.DoorbellWords.{asked_bytes, replied_bytes}
use Rattle.mpt_wire.specs.Messages.Fields.{host_msix_vectors_in, port_number_in}
use Rattle.mpt_rules.specs.declared.status.TheConstants.{IOC_STATUS_INVALID_FIELD, IOC_STATUS_INVALID_STATE, IOC_STATUS_SUCCESS}
use Rattle.mpt_rules.specs.Ioc.Parts.{Ioc, ioc_queue_count, state_of}
use Rattle.mpt_rules.specs.Ioc.Registers as registers
use Rattle.mpt_rules.specs.Ioc.Tables.{is_ready}
use Rattle.law_starts.proofs.QueuesTurns.{AsksFor, ForFacts, ForInit, ForPortFacts, vectors_asked}
use Rattle.law_locks.specs.Locks.{HasAnswered, IsUnasked, reply_due, state_behind, who_init_behind}

-- ---- bytes that are checked

pub record AskFits (m : List ℕ) : Type 0 where
  pub bytes : All (λ b. b < 256) m
  pub whole : length m % 4 ≡ 0
  pub least : 12 ≤ length m
  pub most : length m ≤ 128

pub record ReplyFits (r : List ℕ) : Type 0 where
  pub bytes : All (λ b. b < 256) r
  pub size : 4 * slice_index r 2 ≡ length r
  pub least : 20 ≤ length r
  pub most : length r ≤ 128
  pub even : length r % 2 ≡ 0

abbrev are_bytes : List ℕ → Bool
are_bytes xs = list_all (λ b. nat_lt b 256) xs

abbrev ask_fits : List ℕ → Bool
ask_fits m = are_bytes m && ((length m % 4 == 0) && (nat_le 12 (length m) && nat_le (length m) 128))

abbrev reply_fits : List ℕ → Bool
reply_fits r = are_bytes r && ((4 * slice_index r 2 == length r) && (nat_le 20 (length r) && (nat_le (length r) 128 && (length r % 2 == 0))))

bytes_of : (xs : List ℕ) → are_bytes xs ≡ true → All (λ b. b < 256) xs
bytes_of xs e i d l = ltb-true _ 256 (AllPass-from_list_all (λ b. nat_lt b 256) xs e i d l)

ask_checked : (m : List ℕ) → ask_fits m ≡ true → AskFits m
ask_checked m e =
    let a = and_parts _ _ e in let b = and_parts _ _ a.1 in let c = and_parts _ _ b.1 in
    record { bytes = bytes_of m a.0; whole = eqb-true _ _ b.0; least = leb-true _ _ c.0; most = leb-true _ _ c.1 }

reply_checked : (r : List ℕ) → reply_fits r ≡ true → ReplyFits r
reply_checked r e =
    let a = and_parts _ _ e in let b = and_parts _ _ a.1 in let c = and_parts _ _ b.1 in let d = and_parts _ _ c.1 in
    record { bytes = bytes_of r a.0; size = eqb-true _ _ b.0; least = leb-true _ _ c.0; most = leb-true _ _ d.0; even = eqb-true _ _ d.1 }

-- ---- the messages

facts_fit : ask_fits (asked_bytes ask.Facts) ≡ true
unfolding facts.ioc_facts_layout facts.ioc_facts_values
facts_fit = refl

port_facts_fit : ask_fits (asked_bytes ask.PortFacts) ≡ true
unfolding port_facts.port_facts_layout port_facts.port_facts_values
port_facts_fit = refl

-- so many queues at most
abbrev UpTo8 : (ℕ → Type 0) → Type 0
UpTo8 P = P 0 × (P 1 × (P 2 × (P 3 × (P 4 × (P 5 × (P 6 × (P 7 × P 8)))))))

up_to_8 : (P : ℕ → Type 0) → UpTo8 P → (q : ℕ) → q ≤ 8 → P q
up_to_8 P t zero l = t.0
up_to_8 P t (suc zero) l = t.1.0
up_to_8 P t (suc (suc zero)) l = t.1.1.0
up_to_8 P t (suc (suc (suc zero))) l = t.1.1.1.0
up_to_8 P t (suc (suc (suc (suc zero)))) l = t.1.1.1.1.0
up_to_8 P t (suc (suc (suc (suc (suc zero))))) l = t.1.1.1.1.1.0
up_to_8 P t (suc (suc (suc (suc (suc (suc zero)))))) l = t.1.1.1.1.1.1.0
up_to_8 P t (suc (suc (suc (suc (suc (suc (suc zero))))))) l = t.1.1.1.1.1.1.1.0
up_to_8 P t (suc (suc (suc (suc (suc (suc (suc (suc zero)))))))) l = t.1.1.1.1.1.1.1.1
up_to_8 P t (suc (suc (suc (suc (suc (suc (suc (suc (suc n))))))))) l = absurd (omega arith)

init_fit : (q : ℕ) → q ≤ 8 → ask_fits (asked_bytes (ask.Init q)) ≡ true
unfolding init.ioc_init_layout init.ioc_init_values
init_fit = up_to_8 (λ q. ask_fits (asked_bytes (ask.Init q)) ≡ true) (refl, (refl, (refl, (refl, (refl, (refl, (refl, (refl, refl))))))))

facts_reply_fit : (q : ℕ) → q ≤ 8 → reply_fits (replied_bytes (reply.Facts 0 q)) ≡ true
unfolding facts_reply.ioc_facts_reply_layout facts_reply.ioc_facts_reply_values
facts_reply_fit = up_to_8 (λ q. reply_fits (replied_bytes (reply.Facts 0 q)) ≡ true) (refl, (refl, (refl, (refl, (refl, (refl, (refl, (refl, refl))))))))

port_facts_reply_fit : reply_fits (replied_bytes (reply.PortFacts 0 IOC_STATUS_SUCCESS)) ≡ true
unfolding port_facts_reply.port_facts_reply_layout port_facts_reply.port_facts_reply_values
port_facts_reply_fit = refl

init_reply_fit : reply_fits (replied_bytes (reply.Plain (byte_of function.IocInit) IOC_STATUS_SUCCESS)) ≡ true
init_reply_fit = refl

module _ (q : ℕ) (few : q ≤ 8) where
  pub ask_is : (a : HostAsk) → AsksFor q a → AskFits (asked_bytes a)
  ask_is _ ForFacts = ask_checked (asked_bytes ask.Facts) facts_fit
  ask_is _ ForPortFacts = ask_checked (asked_bytes ask.PortFacts) port_facts_fit
  ask_is _ ForInit = ask_checked (asked_bytes (ask.Init q)) (init_fit q few)

  pub reply_is : (a : HostAsk) → AsksFor q a → ReplyFits (replied_bytes (reply_due q a))
  reply_is _ ForFacts = reply_checked (replied_bytes (reply.Facts 0 q)) (facts_reply_fit q few)
  reply_is _ ForPortFacts = reply_checked (replied_bytes (reply.PortFacts 0 IOC_STATUS_SUCCESS)) port_facts_reply_fit
  reply_is _ ForInit = reply_checked (replied_bytes (reply.Plain (byte_of function.IocInit) IOC_STATUS_SUCCESS)) init_reply_fit

-- behind a message there is no FAULT, and WhoInit fits its three bits
pub whole_behind : (q : ℕ) (a : HostAsk) → AsksFor q a → is_fault (state_behind a) ≡ false
whole_behind q _ ForFacts = refl
whole_behind q _ ForPortFacts = refl
whole_behind q _ ForInit = refl

pub small_behind : (q : ℕ) (a : HostAsk) → AsksFor q a → who_init_behind a < 8
small_behind q _ ForFacts = omega arith
small_behind q _ ForPortFacts = omega arith
small_behind q _ ForInit = omega arith

-- ---- what the controller makes of a message

facts_unrefused : request_refusal_as way.Handshake (asked_bytes ask.Facts) (function_of (slice_index (asked_bytes ask.Facts) 3)) ≡ None
unfolding facts.ioc_facts_layout facts.ioc_facts_values field
facts_unrefused = refl

facts_function : function_of (slice_index (asked_bytes ask.Facts) 3) ≡ Some function.IocFacts
unfolding facts.ioc_facts_layout facts.ioc_facts_values
facts_function = refl

port_facts_unrefused : request_refusal_as way.Handshake (asked_bytes ask.PortFacts) (function_of (slice_index (asked_bytes ask.PortFacts) 3)) ≡ None
unfolding port_facts.port_facts_layout port_facts.port_facts_values field
port_facts_unrefused = refl

port_facts_function : function_of (slice_index (asked_bytes ask.PortFacts) 3) ≡ Some function.PortFacts
unfolding port_facts.port_facts_layout port_facts.port_facts_values
port_facts_function = refl

port_zero : port_number_in (asked_bytes ask.PortFacts) ≡ 0
unfolding port_facts.port_facts_layout port_facts.port_facts_values field
port_zero = refl

init_unrefused : (q : ℕ) → q ≤ 8 → request_refusal_as way.Handshake (asked_bytes (ask.Init q)) (function_of (slice_index (asked_bytes (ask.Init q)) 3)) ≡ None
unfolding init.ioc_init_layout init.ioc_init_values field
init_unrefused = up_to_8 (λ q. request_refusal_as way.Handshake (asked_bytes (ask.Init q)) (function_of (slice_index (asked_bytes (ask.Init q)) 3)) ≡ None) (refl, (refl, (refl, (refl, (refl, (refl, (refl, (refl, refl))))))))

init_function : (q : ℕ) → q ≤ 8 → function_of (slice_index (asked_bytes (ask.Init q)) 3) ≡ Some function.IocInit
unfolding init.ioc_init_layout init.ioc_init_values
init_function = up_to_8 (λ q. function_of (slice_index (asked_bytes (ask.Init q)) 3) ≡ Some function.IocInit) (refl, (refl, (refl, (refl, (refl, (refl, (refl, (refl, refl))))))))

init_sizes : (q : ℕ) → q ≤ 8 → registers.sizes_fit (asked_bytes (ask.Init q)) ≡ true
unfolding init.ioc_init_layout init.ioc_init_values field
init_sizes = up_to_8 (λ q. registers.sizes_fit (asked_bytes (ask.Init q)) ≡ true) (refl, (refl, (refl, (refl, (refl, (refl, (refl, (refl, refl))))))))

init_who : (q : ℕ) → q ≤ 8 → init_by (Asked (asked_bytes (ask.Init q))) ≡ Some (who_init_behind (ask.Init q))
unfolding init.ioc_init_layout init.ioc_init_values
init_who = up_to_8 (λ q. init_by (Asked (asked_bytes (ask.Init q))) ≡ Some (who_init_behind (ask.Init q))) (refl, (refl, (refl, (refl, (refl, (refl, (refl, (refl, refl))))))))

facts_who : init_by (Asked (asked_bytes ask.Facts)) ≡ None
unfolding facts.ioc_facts_layout facts.ioc_facts_values
facts_who = refl

port_facts_who : init_by (Asked (asked_bytes ask.PortFacts)) ≡ None
unfolding port_facts.port_facts_layout port_facts.port_facts_values
port_facts_who = refl

-- the door behind the answer
pub record IsAnsweredSo (q : ℕ) (a : HostAsk) (i : Ioc) : Type 0 where
  pub handshake : i.door.handshake ≡ Replies (replied_bytes (reply_due q a))
  pub interrupt : i.door.ioc2sys ≡ true
  pub answered_is : HasAnswered a i.door

module _ (i : Ioc) where
  serves_as : (m : List ℕ) (f : Function) → request_refusal_as way.Handshake m (function_of (slice_index m 3)) ≡ None → function_of (slice_index m 3) ≡ Some f → registers.handshakes i m ≡ registers.serves_handshake i m (Some f)
  serves_as m f n e = ap (registers.handshakes_if i m) n ∙ ap (registers.serves_handshake i m) e

  -- no IOC Init leaves WhoInit
  same_who : (n : ℕ) → i.door.who_init ≡ 0 → init_by i.door.handshake ≡ None → who_init_after i.door.who_init (init_by i.door.handshake) n ≡ 0
  same_who n z e = ap (λ o. who_init_after i.door.who_init o n) e ∙ by_test (n == 0)
    where
      by_test : (b : Bool) → (if b then i.door.who_init else i.door.who_init) ≡ 0
      by_test true = z
      by_test false = z

ready_is : (c : IocState) → c ≡ ioc_state.Ready → is_ready c ≡ true
ready_is c e = ap is_ready e

module _ (q : ℕ) (few : q ≤ 8) (some : 1 ≤ q) (i : Ioc) (n : ioc_queue_count i ≡ q) (u : IsUnasked i.door) where
  facts_answered : i.door.handshake ≡ Asked (asked_bytes ask.Facts) → IsAnsweredSo q ask.Facts (registers.handshakes i (asked_bytes ask.Facts))
  facts_answered e =
      let r : reply.Facts i.door.who_init (ioc_queue_count i) ≡ reply.Facts 0 q = ap₂ (λ x y. reply.Facts x y) u.who_init n in
      let s : registers.handshakes i (asked_bytes ask.Facts) ≡ registers.answers_handshake i (reply.Facts 0 q) = serves_as i (asked_bytes ask.Facts) function.IocFacts facts_unrefused facts_function ∙ ap (registers.answers_handshake i) r in
      subst (IsAnsweredSo q ask.Facts) (sym s)
      (record { handshake = refl; interrupt = refl; answered_is = record { state = u.state; who_init = same_who i _ u.who_init (ap init_by e ∙ facts_who) } })

  port_facts_answered : i.door.handshake ≡ Asked (asked_bytes ask.PortFacts) → IsAnsweredSo q ask.PortFacts (registers.handshakes i (asked_bytes ask.PortFacts))
  port_facts_answered e =
      let r : reply.PortFacts (port_number_in (asked_bytes ask.PortFacts)) (registers.port_facts_status (asked_bytes ask.PortFacts)) ≡ reply.PortFacts 0 IOC_STATUS_SUCCESS =
      ap (λ p. reply.PortFacts p (if p == 0 then IOC_STATUS_SUCCESS else IOC_STATUS_INVALID_FIELD)) port_zero in
      let s : registers.handshakes i (asked_bytes ask.PortFacts) ≡ registers.answers_handshake i (reply.PortFacts 0 IOC_STATUS_SUCCESS) = serves_as i (asked_bytes ask.PortFacts) function.PortFacts port_facts_unrefused port_facts_function ∙ ap (registers.answers_handshake i) r in
      subst (IsAnsweredSo q ask.PortFacts) (sym s)
      (record { handshake = refl; interrupt = refl; answered_is = record { state = u.state; who_init = same_who i _ u.who_init (ap init_by e ∙ port_facts_who) } })

  init_succeeds : registers.init_status i (asked_bytes (ask.Init q)) ≡ IOC_STATUS_SUCCESS
  init_succeeds =
      let v = vectors_asked q few in
      let fits : registers.vectors_fit i (asked_bytes (ask.Init q)) ≡ true = ap₂ (λ x y. nat_le 1 x && nat_le x y) v n ∙ in_bounds in
      let both : (registers.sizes_fit (asked_bytes (ask.Init q)) && registers.vectors_fit i (asked_bytes (ask.Init q))) ≡ true = ap₂ (λ x y. x && y) (init_sizes q few) fits in
      ap (λ c. if not (is_ready c) then IOC_STATUS_INVALID_STATE else if registers.sizes_fit (asked_bytes (ask.Init q)) && registers.vectors_fit i (asked_bytes (ask.Init q)) then IOC_STATUS_SUCCESS else IOC_STATUS_INVALID_FIELD) u.state
      ∙ ap (λ b. if b then IOC_STATUS_SUCCESS else IOC_STATUS_INVALID_FIELD) both
    where
      in_bounds : (nat_le 1 q && nat_le q q) ≡ true
      in_bounds = ap₂ (λ x y. x && y) (Rattle.std.proofs.lemmas.Bool.le-leb 1 q some) (Rattle.std.proofs.lemmas.Bool.le-leb q q (omega arith))

  init_answered : i.door.handshake ≡ Asked (asked_bytes (ask.Init q)) → IsAnsweredSo q (ask.Init q) (registers.handshakes i (asked_bytes (ask.Init q)))
  init_answered e =
      let s : registers.handshakes i (asked_bytes (ask.Init q)) ≡ registers.operates (registers.ends_init i IOC_STATUS_SUCCESS) (asked_bytes (ask.Init q)) =
      serves_as i (asked_bytes (ask.Init q)) function.IocInit (init_unrefused q few) (init_function q few) ∙ ap (registers.inits i (asked_bytes (ask.Init q))) init_succeeds in
      subst (IsAnsweredSo q (ask.Init q)) (sym s)
      (record { handshake = refl; interrupt = refl; answered_is = record { state = refl; who_init = ap (λ o. unwrap_or o i.door.who_init) (ap init_by e ∙ init_who q few) } })

  pub answered_so : (a : HostAsk) → AsksFor q a → i.door.handshake ≡ Asked (asked_bytes a) → IsAnsweredSo q a (registers.handshakes i (asked_bytes a))
  answered_so _ ForFacts e = facts_answered e
  answered_so _ ForPortFacts e = port_facts_answered e
  answered_so _ ForInit e = init_answered e
