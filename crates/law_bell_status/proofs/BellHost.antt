-- Each call of the host keeps what the rule of the interrupt status knows.
use Rattle.std.proofs.Common.{◌≡◌, ℕ, zero, suc, ◌+◌, ◌*◌, ◌/◌, ◌%◌, ◌^◌, ◌<◌, ◌≤◌, ◌==◌, ◌&&◌, ◌||◌, ◌⊎◌, inl, inr, not, Bool, true, false, if◌then◌else◌, List, [], ◌∷◌, ◌++◌, append_assoc, length, map, Option, Some, None, refl, ap, sym, ◌∙◌, subst, arith}
use Rattle.std.specs.List.{filter}
use Rattle.std.proofs.lemmas.Bool.{eqb-true, ne_eqb}
use Rattle.std.proofs.lemmas.Nat.Bits.{and_pow}
use Rattle.mpi_doorbell.specs.Bytes.{has}
use Rattle.mpi_doorbell.specs.DoorRegisters.{DoorRegisters, Written, doorbell_written, function_written, is_fault, quietly, register_value}
use Rattle.mpi_doorbell.specs.Handshake.{Handshake, Idle, Collects, Asked as AskedMessage, Replies, asked_by, dword_taken, is_idle, is_replying}
use Rattle.mpi_doorbell.specs.HostDoor.{HostDoor, register_of}
use Rattle.mpi_doorbell.specs.declared.registers.TheConstants.{DOORBELL, DOORBELL_USED, HOST_INTERRUPT_STATUS, IOC2SYS_DB_STATUS, REPLY_POST_HOST_INDEX, SYS2IOC_DB_STATUS}
use Rattle.mpi_doorbell.specs.declared.stage.Reading.{Reading}
use Rattle.mpi_doorbell.specs.declared.stage.Reading.TheVariants as reading
use Rattle.mpi_doorbell.specs.declared.stage.Stage.{Stage as DoorStage}
use Rattle.mpi_doorbell.specs.declared.stage.Stage.TheVariants as door_stage
use Rattle.mpi_doorbell.specs.declared.state.IocState.{IocState}
use Rattle.mpi_doorbell.specs.declared.state.IocState.TheVariants as ioc_state
use Rattle.mpt_messages.specs.declared.host_ask.HostAsk.{HostAsk}
use Rattle.mpt_wire.specs.Machine.Causes.{is_resetting, is_up}
use Rattle.mpt_wire.specs.Messages.Registers.{Bell, bell_next, has_bit}
use Rattle.mpt_wire.specs.Messages.DoorbellWords.{replied_bytes}
use Rattle.mpt_trace.specs.declared.entry.Entry.TheVariants as entry
use Rattle.mpt_trace.specs.declared.item.Item.TheVariants as item
use Rattle.mpt_trace.specs.declared.lane.LaneName.{LaneName}
use Rattle.mpt_trace.specs.declared.host_state.HostState.{HostState}
use Rattle.mpt_trace.specs.declared.host_state.HostState.TheVariants as state
use Rattle.mpt_trace.specs.declared.item.Down.{Down}
use Rattle.mpt_trace.specs.declared.item.Down.TheVariants as down
use Rattle.mpt_trace.specs.declared.item.Up.{Up}
use Rattle.mpt_trace.specs.declared.item.Up.TheVariants as upward
use Rattle.mpt_rules.specs.declared.said.Said.{Said}
use Rattle.mpt_rules.specs.declared.said.Said.TheVariants as said
use Rattle.mpt_rules.specs.declared.stage.Stage.{Stage}
use Rattle.mpt_rules.specs.declared.stage.Stage.TheVariants as stage
use Rattle.mpt_rules.specs.Host.Doorbell as door
use Rattle.mpt_rules.specs.Host.Doorbell.{DoorTurn, next_turn, unit_reset_dword}
use Rattle.mpt_rules.specs.Host.Parts.{Host}
use Rattle.mpt_rules.specs.Host.Resets as resets
use Rattle.mpt_rules.specs.Host.Takes.{is_starting}
use Rattle.mpt_rules.specs.Ioc.Parts.{Ioc}
use Rattle.mpt_rules.specs.Ioc.Replies.{outbox_of}
use Rattle.mpt_rules.specs.World.Counts.{how_many, is_register_write, one_if, read_count, register_write_count, value_count}
use Rattle.mpt_rules.specs.World.Lines.{down_line, said_of, up_line}
use Rattle.mpt_rules.specs.World.State.{World, queues_of, up_on}
use Rattle.mpt_rules.specs.World.Weight.{is_said_value}
use Rattle.mpt_rules.proofs.Counts.{how_many-append}
use Rattle.law_facts.specs.Clock.{Clock, in_normal}
use Rattle.law_facts.specs.DoorAhead.{IsInMode, WaitsAt, door_ahead, does_still, first_value, is_look, rests_at_door, value_coming, writes_still, written_ahead}
use Rattle.law_facts.specs.History.{History}
use Rattle.law_facts.specs.Ties.{ReadsAre, is_status_write}
use Rattle.law_moves.proofs.Counted.{Grown, false_by_none, fewer_pass, filter_keeps, grown-count, how_many-cons}
use Rattle.law_moves.proofs.HostSpeaks.{ComesUp, Rises, Stays, is_spoken}
use Rattle.law_moves.proofs.Phases.{and_false}
use Rattle.law_clock.specs.Premises.{Before}
use Rattle.law_doors.proofs.Ahead.{ahead-nil, ahead-write, core, quiet_ahead}
use Rattle.law_starts.specs.Starts.{StartsStand}
use Rattle.law_starts.proofs.HostAtDoor as at
use Rattle.law_starts.proofs.HostAtDoor.{Asked, AtDoor, Beginning, Begins, Diagnostic, Drops, Free, FromOff, GivesUp, HasValue, Keeps, Late, Looked, Marked, MessageUnit, Next, Opened, Readied, Renewed, Turns, base_begun, begins_is, contrary, is_plain, spoken_plain, value_comes}
use Rattle.law_starts.proofs.QueuesTurns.{AsksFor}
use Rattle.law_starts.proofs.Resetting.{TurnAt, over_linked}
use Rattle.law_steps.proofs.Coming.{first_pass, no_first}
use Rattle.law_locks.specs.Locks.{Collected, HandshakesStand, HeardOut, IsHearing, IsSending, ShakesAt, ask_of_stage, reply_due, state_behind, who_init_behind}
use Rattle.law_locks.proofs.Asks.{ReplyFits, reply_is, small_behind, whole_behind}
use Rattle.law_locks.proofs.LocksHost as by_host
use Rattle.law_locks.proofs.LocksHost.{asked_starting, asks_for}
use Rattle.law_locks.proofs.Rounds.{bell_is, bell_value, byte_of, interrupt_read, taken_read}
use Rattle.law_locks.proofs.Unbelled.{SameBell, is_bell_write, unbelled_ahead}
use Rattle.law_bell_status.specs.Bells.{IsHeard, is_talk_write, is_word_write}
use Rattle.law_bell_status.proofs.Belled.{BellHolds, BellOn}
use Rattle.law_bell_status.proofs.TalkTurns.{all_sent, begun_untalked, left_one, left_silent, news_untalked, none_of, opened_one, status_of_talk, taken_one, talk_of_bell, used_untalked, word_of_talk, word_one}

-- ---- counts

-- a test that only writes of a handshake pass
abbrev IsPart : (Down → Bool) → Type 0
IsPart p = (x : Down) → p x ≡ true → is_talk_write x ≡ true

all_talk : (x : Down) → is_talk_write x ≡ true → is_talk_write x ≡ true
all_talk x e = e

pub talk_registers : (x : Down) → is_talk_write x ≡ true → is_register_write x ≡ true
talk_registers (down.Write reg value) e = by_tests (reg == DOORBELL) refl (reg == HOST_INTERRUPT_STATUS) refl e
  where
    by_tests : (a : Bool) → (reg == DOORBELL) ≡ a → (c : Bool) → (reg == HOST_INTERRUPT_STATUS) ≡ c → ((a && not (value == unit_reset_dword)) || c) ≡ true → not (reg == REPLY_POST_HOST_INDEX) ≡ true
    by_tests true p c q e = ap (λ n. not (n == REPLY_POST_HOST_INDEX)) (eqb-true reg DOORBELL p)
    by_tests false p true q e = ap (λ n. not (n == REPLY_POST_HOST_INDEX)) (eqb-true reg HOST_INTERRUPT_STATUS q)
    by_tests false p false q e = absurd (cc)
talk_registers (down.Read reg) e = absurd (cc)
talk_registers (down.Post d f p) e = absurd (cc)
talk_registers (down.Return a i) e = absurd (cc)
talk_registers down.Stop e = absurd (cc)

talk_no_post : (x : Down) → is_talk_write x ≡ true → resets.is_no_post x ≡ true
talk_no_post (down.Write reg value) e = refl
talk_no_post (down.Read reg) e = refl
talk_no_post (down.Post d f p) e = absurd (cc)
talk_no_post (down.Return a i) e = refl
talk_no_post down.Stop e = refl

plain_untalked : (x : Down) → is_plain x ≡ true → is_talk_write x ≡ false
plain_untalked (down.Write reg value) e = ap (λ n. is_talk_write (down.Write n value)) (eqb-true reg REPLY_POST_HOST_INDEX e)
plain_untalked (down.Read reg) e = refl
plain_untalked (down.Post d f p) e = refl
plain_untalked (down.Return a i) e = refl
plain_untalked down.Stop e = refl

-- the lists have the same writes of a handshake, in number
abbrev Alike : List Down → List Down → Type 0
Alike xs ys = (p : Down → Bool) → IsPart p → how_many p ys ≡ how_many p xs

part_none : (p : Down → Bool) → IsPart p → (xs : List Down) → how_many is_talk_write xs ≡ 0 → how_many p xs ≡ 0
part_none p f xs z = let a = fewer_pass p is_talk_write f xs in omega (arith, a, z)

alike_same : (xs ys : List Down) → ys ≡ xs → Alike xs ys
alike_same xs ys e p f = ap (how_many p) e

alike_then : (xs ys zs : List Down) → Alike xs ys → Alike ys zs → Alike xs zs
alike_then xs ys zs a b p f = b p f ∙ a p f

alike_more : (xs ys : List Down) → how_many is_talk_write ys ≡ 0 → Alike xs (xs ++ ys)
alike_more xs ys z p f = let a = how_many-append p xs ys in let n = part_none p f ys z in omega (arith, a, n)

alike_read : (xs : List Down) (reg : ℕ) → Alike xs (xs ++ down.Read reg ∷ [])
alike_read xs reg = alike_more xs (down.Read reg ∷ []) (none_of is_talk_write (down.Read reg) refl)

alike_begun : (xs ws : List Down) (reg : ℕ) → how_many is_talk_write ws ≡ 0 → Alike xs ((xs ++ ws) ++ down.Read reg ∷ [])
alike_begun xs ws reg z = alike_then xs (xs ++ ws) ((xs ++ ws) ++ down.Read reg ∷ []) (alike_more xs ws z) (alike_read (xs ++ ws) reg)

alike_filtered : (xs : List Down) → Alike xs (filter resets.is_no_post xs)
alike_filtered xs p f = filter_keeps p resets.is_no_post (λ x e. talk_no_post x (f x e)) xs

alike_grown : (test : Down → Bool) → ((x : Down) → test x ≡ true → is_plain x ≡ true) → (xs ys : List Down) → Grown test xs ys → Alike xs ys
alike_grown test plain xs ys g p f = grown-count test p xs ys (λ x e. by_test (p x) (f x) (plain_untalked x (plain x e))) g
  where
    by_test : {c : Bool} (d : Bool) → (d ≡ true → c ≡ true) → c ≡ false → d ≡ false
    by_test true g e = sym (g refl) ∙ e
    by_test false g e = refl

-- ---- a reply that is read goes on until the status is written

reply_stays : (i : Ioc) (xs : List Down) → is_replying i.door.handshake ≡ true → how_many is_status_write xs ≡ 0 → is_replying (written_ahead i xs).door.handshake ≡ true
unfolding written_ahead
reply_stays i [] e z = e
reply_stays i (down.Write reg value ∷ xs) e z =
    let c = how_many-cons is_status_write (down.Write reg value) xs in
    reply_stays (writes_still i reg value) xs (one_write (false_by_none (reg == HOST_INTERRUPT_STATUS) (omega (arith, c, z)))) (omega (arith, c, z))
  where
    as_words : (h : Handshake) → i.door.handshake ≡ h → is_replying h ≡ true → is_replying (does_still (record i { door = (doorbell_written i.door value).registers }) (doorbell_written i.door value).effect).door.handshake ≡ true
    as_words (Replies left) q r =
        let w : doorbell_written i.door value ≡ record { registers = record i.door { handshake = Replies left }; effect = Rattle.mpi_doorbell.specs.declared.effect.Effect.TheVariants.None } =
        ap (λ h. let y : Written = if is_idle h then function_written i.door (value / 2 ^ 24) (value / 2 ^ 16 % 256) else record { registers = record i.door { handshake = dword_taken h value }; effect = asked_by h value } in y) q in
        subst (λ (y : Written). is_replying (does_still (record i { door = y.registers }) y.effect).door.handshake ≡ true) (sym w) refl
    as_words Idle q r = absurd (cc)
    as_words (Collects m g) q r = absurd (cc)
    as_words (AskedMessage g) q r = absurd (cc)

    at_doorbell : is_replying (writes_still i DOORBELL value).door.handshake ≡ true
    at_doorbell = by_fault (is_fault i.door.state)
      where
        by_fault : (c : Bool) → (let y : Written = if c then quietly i.door else doorbell_written i.door value in is_replying (does_still (record i { door = y.registers }) y.effect).door.handshake ≡ true)
        by_fault true = e
        by_fault false = as_words i.door.handshake refl e

    one_write : (reg == HOST_INTERRUPT_STATUS) ≡ false → is_replying (writes_still i reg value).door.handshake ≡ true
    one_write n = by_doorbell (reg == DOORBELL) refl
      where
        by_doorbell : (c : Bool) → (reg == DOORBELL) ≡ c → is_replying (writes_still i reg value).door.handshake ≡ true
        by_doorbell true q = subst (λ m. is_replying (writes_still i m value).door.handshake ≡ true) (sym (eqb-true reg DOORBELL q)) at_doorbell
        by_doorbell false q =
            let s : SameBell i.door (writes_still i reg value).door = subst (λ (k : Ioc). SameBell i.door k.door) (ahead-write i reg value [] ∙ ahead-nil (writes_still i reg value)) (unbelled_ahead i (down.Write reg value ∷ []) (none_of is_bell_write (down.Write reg value) (ap (λ c. c || (reg == HOST_INTERRUPT_STATUS)) q ∙ n))) in
            ap is_replying s.handshake ∙ e
reply_stays i (down.Read reg ∷ xs) e z = let c = how_many-cons is_status_write (down.Read reg) xs in reply_stays i xs e (omega (arith, c, z))
reply_stays i (down.Post d f p ∷ xs) e z = let c = how_many-cons is_status_write (down.Post d f p) xs in reply_stays i xs e (omega (arith, c, z))
reply_stays i (down.Return a n ∷ xs) e z = let c = how_many-cons is_status_write (down.Return a n) xs in reply_stays i xs e (omega (arith, c, z))
reply_stays i (down.Stop ∷ xs) e z = let c = how_many-cons is_status_write down.Stop xs in reply_stays i xs e (omega (arith, c, z))

-- ---- the Doorbell shows whether it is used

bit_at : (n c : ℕ) → n / 2 ^ 27 % 2 ≡ c → has_bit n DOORBELL_USED ≡ (c * 2 ^ 27 == 2 ^ 27)
bit_at n c e = ap (λ x. x == 2 ^ 27) (and_pow n 27 ∙ ap (λ b. b * 2 ^ 27) e)

unlit : (s : IocState) (who : ℕ) → is_fault s ≡ false → who < 8 → has_bit (bell_value s who Idle) DOORBELL_USED ≡ false
unlit ioc_state.Reset who e small = bit_at _ 0 (omega arith)
unlit ioc_state.Ready who e small = bit_at _ 0 (omega arith)
unlit ioc_state.Operational who e small = bit_at _ 0 (omega arith)
unlit (ioc_state.Fault code) who e small = absurd (cc)

lit : (s : IocState) (who x y : ℕ) (rest : List ℕ) → is_fault s ≡ false → who < 8 → x < 256 → y < 256 → has_bit (bell_value s who (Replies (x ∷ y ∷ rest))) DOORBELL_USED ≡ true
lit ioc_state.Reset who x y rest e small p q = bit_at _ 1 (omega arith)
lit ioc_state.Ready who x y rest e small p q = bit_at _ 1 (omega arith)
lit ioc_state.Operational who x y rest e small p q = bit_at _ 1 (omega arith)
lit (ioc_state.Fault code) who x y rest e small p q = absurd (cc)

idle_is : (h : Handshake) → is_idle h ≡ true → h ≡ Idle
idle_is Idle e = refl
idle_is (Collects m g) e = absurd (cc)
idle_is (AskedMessage g) e = absurd (cc)
idle_is (Replies x) e = absurd (cc)

pub none_some : {T : Type 0} (v : ℕ) → None ≡ Some v → T
none_some v e = absurd (cc)

-- a value behind items that are none
first_behind : (xs ys : List Said) → how_many is_said_value xs ≡ 0 → first_value (xs ++ ys) ≡ first_value ys
first_behind [] ys z = refl
first_behind (x ∷ xs) ys z = let c = how_many-cons is_said_value x xs in first_pass x (xs ++ ys) (false_by_none (is_said_value x) (omega (arith, c, z))) ∙ first_behind xs ys (omega (arith, c, z))

-- reads are answered in their order
pub no_some : (v : ℕ) (xs : List (Option ℕ)) → xs ≡ Some v ∷ [] → xs ≡ None ∷ [] → ⊥
no_some v xs e f = cc

pub no_list : (v : ℕ) (xs : List (Option ℕ)) → xs ≡ Some v ∷ [] → xs ≡ [] → ⊥
no_list v xs e f = cc

-- the rule behind a value that is put
abbrev pub put_value : Bell → LaneName → ℕ → Bell
put_value g l v = bell_next g (entry.Put l (item.Up (upward.Value v)))

pub answered_none : (v : ℕ) (l : LaneName) (g : Bell) → g.reads ≡ None ∷ [] → (put_value g l v ≡ record g { reads = []; used = (put_value g l v).used }) × ((put_value g l v).used ≡ has_bit v DOORBELL_USED)
answered_none v l g n = subst (λ (k : Bell). (put_value k l v ≡ record k { reads = []; used = (put_value k l v).used }) × ((put_value k l v).used ≡ has_bit v DOORBELL_USED)) (sym (ap (λ xs. let k : Bell = record g { reads = xs } in k) n)) (refl, refl)

pub answered_some : (v : ℕ) (l : LaneName) (g : Bell) → g.reads ≡ Some v ∷ [] → (put_value g l v ≡ record g { reads = []; used = (put_value g l v).used }) × ((put_value g l v).used ≡ g.used)
answered_some v l g n = subst (λ (k : Bell). (put_value k l v ≡ record k { reads = []; used = (put_value k l v).used }) × ((put_value k l v).used ≡ k.used)) (sym (ap (λ xs. let k : Bell = record g { reads = xs } in k) n)) (refl, refl)

pub not_both : (xs : List (Option ℕ)) → xs ≡ [] → xs ≡ None ∷ [] → ⊥
not_both xs e f = cc

module _ (w : World) (h : History) (b : Before w h) (s : StartsStand w) (l : HandshakesStand w) (bell : Bell) (t : BellOn w bell) where
  k : Clock w h
  k = b.facts.clock

  abbrev H : Handshake
  H = w.ioc.door.handshake

  abbrev S : Bool
  S = w.ioc.door.ioc2sys

  abbrev Outbox : Option ℕ
  Outbox = first_value (outbox_of w.ioc 0)

  -- ---- while a value is on its way no register is written

  pub flying_quiet : 1 ≤ how_many is_said_value (up_line w 0) → how_many is_register_write (down_line w) ≡ 0
  unfolding read_count value_count register_write_count
  flying_quiet n = by_reading w.host.reading refl
    where
      by_reading : (c : Bool) → w.host.reading ≡ c → how_many is_register_write (down_line w) ≡ 0
      by_reading true r = let o = k.one_read.one in let z : one_if w.host.reading ≡ 1 = ap one_if r in k.writes_before_read.gone r (omega (arith, o, z, n))
      by_reading false r = let o = k.one_read.one in let z : one_if w.host.reading ≡ 0 = ap one_if r in absurd (omega (arith, o, z, n))

  pub talkless : how_many is_register_write (down_line w) ≡ 0 → how_many is_talk_write (down_line w) ≡ 0
  talkless z = let a = fewer_pass is_talk_write is_register_write talk_registers (down_line w) in omega (arith, a, z)

  now_is : how_many is_register_write (down_line w) ≡ 0 → core (door_ahead w) ≡ core w.ioc.door
  now_is z = quiet_ahead w.ioc (down_line w) z

  said_count : how_many is_said_value (up_line w 0) ≡ how_many is_said_value (map said_of (up_on w 0)) + how_many is_said_value (outbox_of w.ioc 0)
  said_count = how_many-append is_said_value (map said_of (up_on w 0)) (outbox_of w.ioc 0)

  -- a value in the outbox is on its way
  pub outbox_flies : (v : ℕ) → Outbox ≡ Some v → 1 ≤ how_many is_said_value (up_line w 0)
  outbox_flies v e = by_count (how_many is_said_value (outbox_of w.ioc 0)) refl
    where
      by_count : (n : ℕ) → how_many is_said_value (outbox_of w.ioc 0) ≡ n → 1 ≤ how_many is_said_value (up_line w 0)
      by_count zero z = none_some v (sym (no_first (outbox_of w.ioc 0) z) ∙ e)
      by_count (suc n) z = let c = said_count in omega (arith, c, z)

  -- one that is first on the lane is the only one
  pub lane_alone : (v : ℕ) (rest : List Up) → up_on w 0 ≡ upward.Value v ∷ rest → how_many is_said_value (outbox_of w.ioc 0) ≡ 0
  lane_alone v rest e =
      let o = at.one_value w h b v rest e in
      let a = ap (λ xs. how_many is_said_value (map said_of xs)) e in
      let c = how_many-cons is_said_value (said_of (upward.Value v)) (map said_of rest) in
      let n = said_count in
      omega (arith, o, a, c, n)

  -- a door that rests reads no reply while no status is on its way
  resting_unread : rests_at_door w ≡ true → is_replying H ≡ true → how_many is_status_write (down_line w) ≡ 0 → ⊥
  resting_unread r p z =
      let a = reply_stays w.ioc (down_line w) p z in let i = ap is_replying (by_host.rest w h b s l r).handshake in
      contrary (is_replying (door_ahead w).handshake) i a

  -- ---- what a turn writes

  pub record TurnRings (d : HostDoor) (v : ℕ) : Type 0 where
    pub one : how_many is_talk_write (next_turn d (Some v)).writes ≤ 1
    pub words : (is_idle H && S) ≡ true → how_many is_word_write (next_turn d (Some v)).writes ≡ 0
    pub status : 1 ≤ how_many is_status_write (next_turn d (Some v)).writes → (in_normal w ≡ true) × ((is_idle H && S) ≡ true → bell.used ≡ false)

  module _ (d : HostDoor) (y : Reading) (v : ℕ) (hv : HasValue w d y v) where
    quiet_line : how_many is_register_write (down_line w) ≡ 0
    quiet_line = let o = at.one_value w h b v hv.rest hv.front in flying_quiet (omega (arith, o))

    ahead_handshake : (door_ahead w).handshake ≡ H
    ahead_handshake = ap (λ (r : DoorRegisters). r.handshake) (now_is quiet_line)

    ahead_status : (door_ahead w).ioc2sys ≡ S
    ahead_status = ap (λ (r : DoorRegisters). r.ioc2sys) (now_is quiet_line)

    untalked : how_many is_talk_write (next_turn d (Some v)).writes ≡ 0 → TurnRings d v
    untalked z =
        let a = part_none is_word_write word_of_talk (next_turn d (Some v)).writes z in
        let c = part_none is_status_write status_of_talk (next_turn d (Some v)).writes z in
        record { one = omega (arith, z); words = λ e. a; status = λ n. absurd (omega (arith, n, c)) }

    -- a turn of a handshake
    module _ (a : HostAsk) (e : ask_of_stage (queues_of w) w.host.stage ≡ Some a) where
      starting : w.host.mode ≡ state.Starting
      starting = asked_starting w (queues_of w) w.host.stage a e hv.in_mode

      normal : in_normal w ≡ true
      normal = ap (λ m. is_starting m || is_up m) starting

      value_is : v ≡ register_value (door_ahead w) (register_of y)
      value_is = l.value d y v hv.machine_is (ap is_resetting starting) hv.at (value_comes w d y v hv)

      stands : ShakesAt (queues_of w) a d (door_ahead w) y
      stands = l.stands d a y hv.machine_is e hv.at

      turn_is : (x : Reading) → y ≡ x → (next_turn d (Some v)).writes ≡ (TurnAt d v (door_stage.Awaits x)).writes
      turn_is x q = ap (λ z. (TurnAt d v z).writes) (hv.at ∙ ap door_stage.Awaits q)

      no_ringing : (door_ahead w).ioc2sys ≡ false → (is_idle H && S) ≡ true → ⊥
      no_ringing n e = contrary S (sym ahead_status ∙ n) (and_false (is_idle H) S e).1

      collecting : (is_idle (door_ahead w).handshake ≡ false) → (is_idle H && S) ≡ true → ⊥
      collecting n e = contrary (is_idle H) (sym (ap is_idle ahead_handshake) ∙ n) (and_false (is_idle H) S e).0

      unidle : (m u : List ℕ) (g : Handshake) → Collected m u g → is_idle g ≡ false
      unidle m u (Collects n x) c = refl
      unidle m u Idle c = absurd c
      unidle m u (AskedMessage x) c = absurd c
      unidle m u (Replies x) c = absurd c

      by_reading : (x : Reading) → y ≡ x → ShakesAt (queues_of w) a d (door_ahead w) x → TurnRings d v
      by_reading reading.Used q p = untalked (ap (how_many is_talk_write) (turn_is reading.Used q) ∙ used_untalked d v)
      by_reading reading.LeftOver q p =
          let n : has v IOC2SYS_DB_STATUS ≡ false = ap (λ m. has m IOC2SYS_DB_STATUS) (value_is ∙ ap (λ x. register_value (door_ahead w) (register_of x)) q) ∙ (interrupt_read (door_ahead w) ∙ p.status) in
          subst (λ (xs : List Down). how_many is_talk_write xs ≤ 1 → how_many is_status_write xs ≡ 0 → TurnRings d v) (turn_is reading.LeftOver q)
          (λ o z. record { one = o; words = λ i. absurd (no_ringing p.status i); status = λ m. absurd (omega (arith, m, z)) })
          (left_one d v n) (left_silent d v n)
      by_reading reading.Opened q p =
          let o = opened_one d v in
          let c = ap (how_many is_talk_write) (turn_is reading.Opened q) in let f = ap (how_many is_word_write) (turn_is reading.Opened q) in
          let g = o.one in let z = o.wordless in
          record { one = omega (arith, c, g); words = λ i. f ∙ z; status = λ m. (normal, λ i. absurd (collecting (unidle _ _ (door_ahead w).handshake p.0.collected) i)) }
      by_reading reading.Taken q p =
          let o = taken_one d v in
          let c = ap (how_many is_talk_write) (turn_is reading.Taken q) in let f = ap (how_many is_status_write) (turn_is reading.Taken q) in
          let g = o.one in let z = o.silent in
          record { one = omega (arith, c, g); words = λ i. at_taken p i; status = λ m. absurd (omega (arith, m, f, z)) }
        where
          at_taken : IsSending a d (door_ahead w) ⊎ IsHearing (queues_of w) a d (door_ahead w) → (is_idle H && S) ≡ true → how_many is_word_write (next_turn d (Some v)).writes ≡ 0
          at_taken (inl g) i = absurd (collecting (unidle _ _ (door_ahead w).handshake g.collected) i)
          at_taken (inr g) i =
              ap (how_many is_word_write) (turn_is reading.Taken q)
              ∙ part_none is_word_write word_of_talk (TurnAt d v (door_stage.Awaits reading.Taken)).writes
              (all_sent d v (ap (λ m. has m SYS2IOC_DB_STATUS) (value_is ∙ ap (λ x. register_value (door_ahead w) (register_of x)) q) ∙ taken_read (door_ahead w)) (ap (λ xs. length xs == 0) g.unsent))
      by_reading reading.News q p = untalked (ap (how_many is_talk_write) (turn_is reading.News q) ∙ news_untalked d v)
      by_reading reading.Word q p =
          let o = word_one d v in
          let c = ap (how_many is_talk_write) (turn_is reading.Word q) in let f = ap (how_many is_word_write) (turn_is reading.Word q) in
          let g = o.one in let z = o.wordless in
          record { one = omega (arith, c, g); words = λ i. f ∙ z; status = λ m. (normal, ended) }
        where
          -- the Doorbell was read as unused, and so the rule has heard it
          ended : (is_idle H && S) ≡ true → bell.used ≡ false
          ended i = by_heard (t.heard d y v hv.machine_is hv.at (ap (λ x. register_of x == HOST_INTERRUPT_STATUS) q) (value_comes w d y v hv))
            where
              f : has_bit v DOORBELL_USED ≡ false
              f =
                  let g = asks_for (queues_of w) w.host.stage a e in
                  ap (λ m. has_bit m DOORBELL_USED) (value_is ∙ (ap (λ x. register_value (door_ahead w) (register_of x)) q ∙ bell_is (door_ahead w) (state_behind a) (who_init_behind a) Idle p.answered.state p.answered.who_init (ahead_handshake ∙ idle_is H (and_false (is_idle H) S i).0)))
                  ∙ unlit (state_behind a) (who_init_behind a) (whole_behind (queues_of w) a g) (small_behind (queues_of w) a g)

              unread : bell.reads ≡ []
              unread = subst (λ o. ReadsAre o bell.reads) (no_first (outbox_of w.ioc 0) (lane_alone v hv.rest hv.front)) t.reads

              by_heard : IsHeard bell v → bell.used ≡ false
              by_heard (inl u) = absurd (not_both bell.reads unread u)
              by_heard (inr u) = u.1 ∙ f
      by_reading reading.Unlocked q p = absurd p
      by_reading reading.ResetOver q p = absurd p
      by_reading (reading.State c) q p = absurd p
      by_reading reading.UnitReset q p = absurd p
      by_reading reading.Doorbell q p = absurd p

    pub turn_rings : TurnRings d v
    turn_rings = by_ask (ask_of_stage (queues_of w) w.host.stage) refl
      where
        by_ask : (o : Option HostAsk) → ask_of_stage (queues_of w) w.host.stage ≡ o → TurnRings d v
        by_ask None e = let z = fewer_pass is_talk_write is_bell_write talk_of_bell (next_turn d (Some v)).writes in let q = by_host.quiet w h b s l d y v hv w.host.stage e hv.reads_for in untalked (omega (arith, z, q))
        by_ask (Some a) e = by_reading a e y refl (stands a e)

  -- ---- what a call puts into the outbox

  pub record Adds (out : List Down) : Type 0 where
    pub one : how_many is_talk_write (w.down ++ out) ≤ 1
    pub words : (is_idle H && S) ≡ true → how_many is_word_write (w.down ++ out) ≡ 0
    pub status : 1 ≤ how_many is_status_write (w.down ++ out) → (1 ≤ how_many is_status_write (down_line w)) ⊎ ((in_normal w ≡ true) × ((is_idle H && S) ≡ true → bell.used ≡ false))

  -- nothing of a handshake
  adds_none : (out : List Down) → Alike w.host.out out → Adds out
  adds_none out a =
      record {
        one = let e = same is_talk_write all_talk in let o = t.one in omega (arith, e, o);
        words = λ i. same is_word_write word_of_talk ∙ t.opens i;
        status = λ n. let e = same is_status_write status_of_talk in inl (omega (arith, e, n));
      }
    where
      same : (p : Down → Bool) → IsPart p → how_many p (w.down ++ out) ≡ how_many p (down_line w)
      same p f = let x = how_many-append p w.down out in let y = how_many-append p w.down w.host.out in let e = a p f in omega (arith, x, y, e)

  -- what a turn writes, behind a line without a register write
  adds_turn : (d : HostDoor) (y : Reading) (v : ℕ) (hv : HasValue w d y v) (out : List Down) → Alike (w.host.out ++ (next_turn d (Some v)).writes) out → Adds out
  adds_turn d y v hv out a =
      let r = turn_rings d y v hv in
      record {
        one = let e = same is_talk_write all_talk in let o = r.one in omega (arith, e, o);
        words = λ i. let e = same is_word_write word_of_talk in let z = r.words i in omega (arith, e, z);
        status = λ n. let e = same is_status_write status_of_talk in inr (r.status (omega (arith, e, n)));
      }
    where
      none : how_many is_talk_write (down_line w) ≡ 0
      none = talkless (quiet_line d y v hv)

      same : (p : Down → Bool) → IsPart p → how_many p (w.down ++ out) ≡ how_many p (next_turn d (Some v)).writes
      same p f =
          let x = how_many-append p w.down out in let z = how_many-append p w.host.out (next_turn d (Some v)).writes in let q = how_many-append p w.down w.host.out in
          let c = part_none p f (down_line w) none in let e = a p f in
          omega (arith, x, z, q, c, e)

  -- ---- all of it, over the host that a call leaves

  module _ (coming : Option ℕ) where
    abbrev OnHost : Host → Type 0
    OnHost x = BellHolds x.machine x.mode H S (w.down ++ x.out) coming (first_value (outbox_of w.ioc 0)) bell

    -- the machine that waits is the one that waited, or none does, or no value comes
    abbrev Waits : Option HostDoor → Type 0
    Waits m = ((m ≡ w.host.machine) × (coming ≡ value_coming w)) ⊎ ((m ≡ None) ⊎ (coming ≡ None))

    holds : (x : Host) → Adds x.out → ((is_starting x.mode || is_up x.mode) ≡ true → (in_normal w ≡ true) ⊎ (rests_at_door w ≡ true)) → Waits x.machine → OnHost x
    holds x a n m =
        record {
          rung = t.rung;
          used = used;
          ended = ended;
          reads = t.reads;
          value = value;
          fits = t.fits;
          one = a.one;
          opens = a.words;
          heard = heard m;
        }
      where
        or_left : (c d : Bool) → c ≡ true → (c || d) ≡ true
        or_left true d e = refl
        or_left false d e = absurd (cc)

        or_right : (c d : Bool) → d ≡ true → (c || d) ≡ true
        or_right true d e = refl
        or_right false d e = e

        some_of : (n : ℕ) → 1 ≤ n → not (n == 0) ≡ true
        some_of n l = ap not (ne_eqb n 0 (λ z. omega (arith, z, l)))

        of_some : (n : ℕ) → not (n == 0) ≡ true → 1 ≤ n
        of_some zero e = absurd (cc)
        of_some (suc n) e = omega arith

        old : (in_normal w ≡ true) ⊎ (1 ≤ how_many is_status_write (down_line w)) → is_replying H ≡ true → bell.used ≡ true
        old (inl y) r = t.used r (or_left _ _ y)
        old (inr y) r = t.used r (or_right (in_normal w) _ (some_of _ y))

        at_rest : rests_at_door w ≡ true → is_replying H ≡ true → bell.used ≡ true
        at_rest y r = by_count (how_many is_status_write (down_line w)) refl
          where
            by_count : (c : ℕ) → how_many is_status_write (down_line w) ≡ c → bell.used ≡ true
            by_count zero z = absurd (resting_unread y r z)
            by_count (suc c) z = old (inr (omega (arith, z))) r

        used : is_replying H ≡ true → ((is_starting x.mode || is_up x.mode) || not (how_many is_status_write (w.down ++ x.out) == 0)) ≡ true → bell.used ≡ true
        used r y = by_first (is_starting x.mode || is_up x.mode) refl y
          where
            by_normal : (in_normal w ≡ true) ⊎ (rests_at_door w ≡ true) → bell.used ≡ true
            by_normal (inl q) = old (inl q) r
            by_normal (inr q) = at_rest q r

            by_status : (1 ≤ how_many is_status_write (down_line w)) ⊎ ((in_normal w ≡ true) × ((is_idle H && S) ≡ true → bell.used ≡ false)) → bell.used ≡ true
            by_status (inl q) = old (inr q) r
            by_status (inr q) = old (inl q.0) r

            by_first : (c : Bool) → (is_starting x.mode || is_up x.mode) ≡ c → (c || not (how_many is_status_write (w.down ++ x.out) == 0)) ≡ true → bell.used ≡ true
            by_first true e q = by_normal (n e)
            by_first false e q = by_status (a.status (of_some _ q))

        ended : (is_idle H && S) ≡ true → 1 ≤ how_many is_status_write (w.down ++ x.out) → bell.used ≡ false
        ended i y = by_status (a.status y)
          where
            by_status : (1 ≤ how_many is_status_write (down_line w)) ⊎ ((in_normal w ≡ true) × ((is_idle H && S) ≡ true → bell.used ≡ false)) → bell.used ≡ false
            by_status (inl q) = t.ended i q
            by_status (inr q) = q.1 i

        value : (v : ℕ) → (is_starting x.mode || is_up x.mode) ≡ true → is_replying H ≡ true → bell.reads ≡ None ∷ [] → first_value (outbox_of w.ioc 0) ≡ Some v → has_bit v DOORBELL_USED ≡ true
        value v y r z o = by_normal (n y)
          where
            by_normal : (in_normal w ≡ true) ⊎ (rests_at_door w ≡ true) → has_bit v DOORBELL_USED ≡ true
            by_normal (inl q) = t.value v q r z o
            by_normal (inr q) =
                let e = ap (λ (c : DoorRegisters). c.handshake) (now_is (flying_quiet (outbox_flies v o))) in
                let i = ap is_replying (sym e ∙ (by_host.rest w h b s l q).handshake) in
                contrary (is_replying H) i r

        heard : Waits x.machine → (d : HostDoor) (y : Reading) (v : ℕ) → x.machine ≡ Some d → d.stage ≡ door_stage.Awaits y → (register_of y == HOST_INTERRUPT_STATUS) ≡ false → coming ≡ Some v → IsHeard bell v
        heard (inl q) d y v m at f c = t.heard d y v (sym q.0 ∙ m) at f (sym q.1 ∙ c)
        heard (inr (inl q)) d y v m at f c = no_door d (sym q ∙ m)
          where
            no_door : {T : Type 0} (d : HostDoor) → None ≡ Some d → T
            no_door d e = absurd (cc)
        heard (inr (inr q)) d y v m at f c = none_some v (sym q ∙ c)

    -- ---- a machine begins

    abbrev From : Host → Type 0
    From base = Adds base.out × ((is_starting base.mode || is_up base.mode) ≡ true → (in_normal w ≡ true) ⊎ (rests_at_door w ≡ true))

    resetting : {T : Type 0} → false ≡ true → T
    resetting e = absurd (cc)

    ready : (base : Host) (z : Stage) (d : HostDoor) (tk : Bool) → Beginning w base z d tk → (ws : List Down) → how_many is_talk_write ws ≡ 0 → (reg : ℕ) → Adds ((base.out ++ ws) ++ down.Read reg ∷ [])
    ready _ _ _ _ (FromOff m) ws n reg = adds_none _ (alike_begun w.host.out ws reg n)
    ready _ _ _ _ (Free m r) ws n reg = adds_none _ (alike_begun w.host.out ws reg n)
    ready _ _ _ _ (Asked u e c m r) ws n reg = adds_none _ (alike_then w.host.out (filter resets.is_no_post w.host.out) _ (alike_filtered w.host.out) (alike_begun (filter resets.is_no_post w.host.out) ws reg n))
    ready _ _ _ _ (Late u e c o y a v items i r) ws n reg = adds_none _ (alike_begun w.host.out ws reg n)
    ready _ _ _ _ (Marked queue m r) ws n reg = adds_none _ (alike_begun w.host.out ws reg n)
    ready _ _ _ _ (Renewed e y v hv o r) ws n reg = adds_turn e y v hv _ (alike_begun (w.host.out ++ (next_turn e (Some v)).writes) ws reg n)
    ready _ _ _ _ (Next e y v hv o u a i) ws n reg = adds_turn e y v hv _ (alike_begun (w.host.out ++ (next_turn e (Some v)).writes) ws reg n)

    mode : (base : Host) (z : Stage) (d : HostDoor) (tk : Bool) → Beginning w base z d tk → (is_starting base.mode || is_up base.mode) ≡ true → (in_normal w ≡ true) ⊎ (rests_at_door w ≡ true)
    mode _ _ _ _ (FromOff m) n = inr (by_host.rest_unmanned w h b s l (by_host.off_unmanned w h b s l m) (by_host.no_waits w h b s l (ap is_resetting m)))
    mode _ _ _ _ (Free m r) n = inl n
    mode _ _ _ _ (Asked u e c m r) n = resetting n
    mode _ _ _ _ (Late u e c o y a v items i r) n = inl n
    mode _ _ _ _ (Marked queue m r) n = let lk = (k.value_is_last.ready r).linked in inr (by_host.rest_begun w h b s l (and_false _ _ lk).0)
    mode _ _ _ _ (Renewed e y v hv o r) n = let lk = over_linked w h b e y v hv o r in inr (by_host.rest_begun w h b s l (and_false _ _ lk).0)
    mode _ _ _ _ (Next e y v hv o u a i) n = inl n

    begun : (x base : Host) (z : Stage) (d : HostDoor) (tk : Bool) → Beginning w base z d tk → x ≡ door.begins base z d → coming ≡ None → OnHost x
    begun x base z d tk q f none =
        let g = base_begun q in
        subst OnHost (sym (f ∙ begins_is base z d g.0 g.1))
        (holds (door.puts_read (door.puts_writes (record base { stage = z }) (next_turn d None).writes) (next_turn d None).door g.1.reg) (ready base z d tk q (next_turn d None).writes (begun_untalked q) g.1.reg) (mode base z d tk q) (inr (inr none)))

    same_mode : (m : HostState) → m ≡ w.host.mode → (is_starting m || is_up m) ≡ true → (in_normal w ≡ true) ⊎ (rests_at_door w ≡ true)
    same_mode m e n = inl (sym (ap (λ c. is_starting c || is_up c) e) ∙ n)

    pub host : (x : Host) (tk : Bool) → AtDoor w x tk → (tk ≡ false → coming ≡ value_coming w) → (how_many is_said_value (up_line w 0) ≡ one_if tk → coming ≡ None) → OnHost x
    host x tk (Keeps q) same none = holds x (adds_none x.out (alike_grown is_plain (λ y e. e) w.host.out x.out q.grows)) (by_mode q.mode_is) (inl (q.machine_is, same refl))
      where
        by_mode : (x.mode ≡ w.host.mode) ⊎ ((is_resetting w.host.mode ≡ false) × (w.host.machine ≡ None) × (x.mode ≡ state.Up)) → (is_starting x.mode || is_up x.mode) ≡ true → (in_normal w ≡ true) ⊎ (rests_at_door w ≡ true)
        by_mode (inl e) n = same_mode x.mode e n
        by_mode (inr m) n = inr (by_host.rest_unmanned w h b s l m.1 (by_host.no_waits w h b s l m.0))
    host x tk (GivesUp z rs m r f) same none = subst OnHost (sym f) (holds (resets.gives_up w.host z) (adds_none _ (alike_filtered w.host.out)) (λ n. resetting n) (inr (inl refl)))
    host x tk (Drops n u v items g r f) same none = subst OnHost (sym f) (holds (record w.host { reading = false }) (adds_none w.host.out (alike_same w.host.out w.host.out refl)) (λ y. inl y) (inr (inl n)))
    host x tk (Begins base z d t2 q f) same none = begun x base z d t2 q f (none (at.beginning_values w h b q))
    host x tk (Turns d y v hv reg e f) same none =
        subst OnHost (sym (f ∙ ap (door.puts_step (door.puts_writes (record w.host { reading = false }) (next_turn d (Some v)).writes) (next_turn d (Some v)).door) e))
        (holds (door.puts_read (door.puts_writes (record w.host { reading = false }) (next_turn d (Some v)).writes) (next_turn d (Some v)).door reg) (adds_turn d y v hv _ (alike_read (w.host.out ++ (next_turn d (Some v)).writes) reg)) (λ n. inl n) (inr (inr (none (at.one_value w h b v hv.rest hv.front)))))
    host x tk (Looked d y v hv o e f) same none = subst OnHost (sym f) (holds (at.over w d v) (adds_turn d y v hv _ (alike_same _ _ refl)) (λ n. inl n) (inr (inl refl)))
    host x tk (Readied d y v hv o e f) same none = subst OnHost (sym f) (holds (record (at.over w d v) { door_ready = true }) (adds_turn d y v hv _ (alike_same _ _ refl)) (λ n. inl n) (inr (inl refl)))
    host x tk (Opened d y v hv o e q) same none =
        holds x (adds_turn d y v hv x.out (alike_grown is_spoken spoken_plain (w.host.out ++ (next_turn d (Some v)).writes) x.out q.grows)) (by_rise q.rises) (inr (inl q.machine_is))
      where
        by_rise : Rises false w.host.mode x.mode → (is_starting x.mode || is_up x.mode) ≡ true → (in_normal w ≡ true) ⊎ (rests_at_door w ≡ true)
        by_rise (Stays c) n = same_mode x.mode c n
        by_rise (ComesUp u c g) n = resetting u

  -- ---- values

  pub value_alone : (v : ℕ) (rest : List Said) → outbox_of w.ioc 0 ≡ said.Value v ∷ rest → how_many is_said_value rest ≡ 0
  unfolding read_count value_count
  value_alone v rest e =
      let o = k.one_read.one in let m = at_most w.host.reading in let c = said_count in
      let a = ap (how_many is_said_value) e in let d = how_many-cons is_said_value (said.Value v) rest in
      omega (arith, o, m, c, a, d)
    where
      at_most : (c : Bool) → one_if c ≤ 1
      at_most true = omega arith
      at_most false = omega arith

  pub only_value : (v m : ℕ) → first_value (outbox_of w.ioc 0) ≡ Some v → value_coming w ≡ Some m → v ≡ m
  unfolding read_count value_count
  only_value v m e f =
      let o = k.one_read.one in let c = said_count in let r = at_most w.host.reading in let n = outbox_some in
      same_some v m (sym e ∙ (sym (first_behind (map said_of (up_on w 0)) (outbox_of w.ioc 0) (omega (arith, o, c, r, n))) ∙ f))
    where
      at_most : (c : Bool) → one_if c ≤ 1
      at_most true = omega arith
      at_most false = omega arith

      same_some : (v m : ℕ) → Some v ≡ Some m → v ≡ m
      same_some v m e = cc

      outbox_some : 1 ≤ how_many is_said_value (outbox_of w.ioc 0)
      outbox_some = by_count (how_many is_said_value (outbox_of w.ioc 0)) refl
        where
          by_count : (n : ℕ) → how_many is_said_value (outbox_of w.ioc 0) ≡ n → 1 ≤ how_many is_said_value (outbox_of w.ioc 0)
          by_count zero z = none_some v (sym (no_first (outbox_of w.ioc 0) z) ∙ e)
          by_count (suc n) z = omega (arith, z)

  -- ---- a reply that is read shows in what the Doorbell reads

  module _ (reg : ℕ) (quiet : how_many is_register_write (down_line w) ≡ 0) (waits : (d : HostDoor) (x : Reading) → w.host.machine ≡ Some d → d.stage ≡ door_stage.Awaits x → reg ≡ register_of x)
      (n : in_normal w ≡ true) (r : is_replying H ≡ true) (q : (reg == HOST_INTERRUPT_STATUS) ≡ false) where
    now : core (door_ahead w) ≡ core w.ioc.door
    now = now_is quiet

    handshake_is : (door_ahead w).handshake ≡ H
    handshake_is = ap (λ (c : DoorRegisters). c.handshake) now

    unreset : is_resetting w.host.mode ≡ false
    unreset = by_mode w.host.mode n
      where
        by_mode : (m : HostState) → (is_starting m || is_up m) ≡ true → is_resetting m ≡ false
        by_mode state.Off e = refl
        by_mode state.Starting e = refl
        by_mode state.Up e = refl
        by_mode state.Resetting e = absurd (cc)

    idle : {T : Type 0} → (door_ahead w).handshake ≡ Idle → T
    idle e = contrary (is_replying H) (ap is_replying (sym handshake_is ∙ e)) r

    resting : {T : Type 0} → rests_at_door w ≡ true → T
    resting e = idle (by_host.rest w h b s l e).handshake

    status_read : {T : Type 0} (x : Reading) → reg ≡ register_of x → (register_of x == HOST_INTERRUPT_STATUS) ≡ true → T
    status_read x e f = contrary (reg == HOST_INTERRUPT_STATUS) q (ap (λ m. m == HOST_INTERRUPT_STATUS) e ∙ f)

    module _ (a : HostAsk) (e : ask_of_stage (queues_of w) w.host.stage ≡ Some a) (d : HostDoor) where
      word : IsHearing (queues_of w) a d (door_ahead w) → reg ≡ DOORBELL → has_bit (register_value w.ioc.door reg) DOORBELL_USED ≡ true
      word p f = by_left H refl (subst (HeardOut (replied_bytes (reply_due (queues_of w) a)) d.reply) handshake_is p.heard)
        where
          g : AsksFor (queues_of w) a
          g = asks_for (queues_of w) w.host.stage a e

          said : ReplyFits (replied_bytes (reply_due (queues_of w) a))
          said = reply_is (queues_of w) (by_host.few w h b s l) a g

          reads : (x : Handshake) → H ≡ x → has_bit (register_value w.ioc.door reg) DOORBELL_USED ≡ has_bit (bell_value (state_behind a) (who_init_behind a) x) DOORBELL_USED
          reads x t =
              ap (λ m. has_bit m DOORBELL_USED)
              (ap (register_value w.ioc.door) f ∙ bell_is w.ioc.door (state_behind a) (who_init_behind a) x (sym (ap (λ (c : DoorRegisters). c.state) now) ∙ p.answered.state) (sym (ap (λ (c : DoorRegisters). c.who_init) now) ∙ p.answered.who_init) t)

          by_bytes : (xs : List ℕ) → H ≡ Replies xs → d.reply ++ xs ≡ replied_bytes (reply_due (queues_of w) a) → length xs % 2 ≡ 0 → 1 ≤ length xs → has_bit (register_value w.ioc.door reg) DOORBELL_USED ≡ true
          by_bytes [] t whole m l = absurd (omega (arith, l))
          by_bytes (x ∷ []) t whole m l = absurd (omega (arith, m))
          by_bytes (x ∷ y ∷ rest) t whole m l =
              reads (Replies (x ∷ y ∷ rest)) t
              ∙ lit (state_behind a) (who_init_behind a) x y rest (whole_behind (queues_of w) a g) (small_behind (queues_of w) a g)
              (byte_of (replied_bytes (reply_due (queues_of w) a)) said d.reply x (y ∷ rest) whole)
              (byte_of (replied_bytes (reply_due (queues_of w) a)) said (d.reply ++ x ∷ []) y rest (append_assoc d.reply (x ∷ []) (y ∷ rest) ∙ whole))

          by_left : (x : Handshake) → H ≡ x → HeardOut (replied_bytes (reply_due (queues_of w) a)) d.reply x → has_bit (register_value w.ioc.door reg) DOORBELL_USED ≡ true
          by_left Idle t c = contrary (is_replying H) (ap is_replying t) r
          by_left (Replies left) t c = by_bytes left t c.0 c.1.0 c.1.1
          by_left (Collects m x) t c = absurd c
          by_left (AskedMessage x) t c = absurd c

      by_read : (x : Reading) → reg ≡ register_of x → ShakesAt (queues_of w) a d (door_ahead w) x → has_bit (register_value w.ioc.door reg) DOORBELL_USED ≡ true
      by_read reading.Used f p = idle p.handshake
      by_read reading.LeftOver f p = status_read reading.LeftOver f refl
      by_read reading.Opened f p = status_read reading.Opened f refl
      by_read reading.Taken f p = status_read reading.Taken f refl
      by_read reading.News f p = status_read reading.News f refl
      by_read reading.Word f p = word p f
      by_read reading.Unlocked f p = absurd p
      by_read reading.ResetOver f p = absurd p
      by_read (reading.State c) f p = absurd p
      by_read reading.UnitReset f p = absurd p
      by_read reading.Doorbell f p = absurd p

    -- without a handshake the door rests
    unasked : (z : Stage) → w.host.stage ≡ z → ask_of_stage (queues_of w) z ≡ None → IsInMode w z → has_bit (register_value w.ioc.door reg) DOORBELL_USED ≡ true
    unasked stage.Start e o m = resting (by_host.rest_look w h b s l (ap is_look e))
    unasked stage.Look e o m = resting (by_host.rest_look w h b s l (ap is_look e))
    unasked stage.DiagnosticReset e o m = contrary (is_resetting w.host.mode) unreset (ap is_resetting m)
    unasked stage.UnitReset e o m = contrary (is_resetting w.host.mode) unreset (ap is_resetting m)
    unasked stage.Idle e o m = absurd m
    unasked stage.StartReset e o m = absurd m
    unasked stage.Facts e o m = absurd (cc)
    unasked stage.PortFacts e o m = absurd (cc)
    unasked stage.Init e o m = absurd (cc)

    by_wait : (d : HostDoor) → w.host.machine ≡ Some d → (z : DoorStage) → d.stage ≡ z → WaitsAt w z → has_bit (register_value w.ioc.door reg) DOORBELL_USED ≡ true
    by_wait d m (door_stage.Awaits x) at a = by_ask (ask_of_stage (queues_of w) w.host.stage) refl
      where
        by_ask : (o : Option HostAsk) → ask_of_stage (queues_of w) w.host.stage ≡ o → has_bit (register_value w.ioc.door reg) DOORBELL_USED ≡ true
        by_ask None o = unasked w.host.stage refl o a.1
        by_ask (Some c) o = by_read c o d x (waits d x m at) (l.stands d c x m o at)
    by_wait d m (door_stage.Reads x) at a = absurd a
    by_wait d m door_stage.Opens at a = absurd a
    by_wait d m (door_stage.WritesKey x) at a = absurd a
    by_wait d m door_stage.Locks at a = absurd a
    by_wait d m door_stage.ResetsUnit at a = absurd a
    by_wait d m door_stage.Finishes at a = absurd a
    by_wait d m door_stage.Ended at a = absurd a

    by_machine : (o : Option HostDoor) → w.host.machine ≡ o → has_bit (register_value w.ioc.door reg) DOORBELL_USED ≡ true
    by_machine None m = resting (by_host.rest_unmanned w h b s l m (by_host.no_waits w h b s l unreset))
    by_machine (Some d) m = by_wait d m d.stage refl (b.facts.doorbell.stage.machine d m)

    pub used_while_read : has_bit (register_value w.ioc.door reg) DOORBELL_USED ≡ true
    used_while_read = by_machine w.host.machine refl
