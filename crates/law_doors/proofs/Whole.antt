-- No FAULT begins: of writes, as the door ahead has none; of posts, as each has its kind and its identifier is nowhere else; of
-- returns, as each is of a frame that is nowhere else.
use Rattle.std.proofs.Common.{◌≡◌, ℕ, zero, suc, ◌+◌, ◌-◌, ◌*◌, ◌<◌, ◌≤◌, ◌==◌, ◌/◌, ◌%◌, ◌^◌, ◌&&◌, ◌||◌, ◌⊎◌, inl, inr, not, nat_le, nat_lt, Bool, true, false, if◌then◌else◌, List, [], ◌∷◌, ◌++◌, length, get_or, slice_index, take, All, Option, Some, None, is_some, option_map, refl, ap, sym, ◌∙◌, subst, arith}
use Rattle.std.proofs.lemmas.Bool.{eqb-true}
use Rattle.std.proofs.lemmas.List.{get_or_past}
use Rattle.std.proofs.lemmas.List.Elements.{All-head}
use Rattle.std.specs.FinMap as finmap
use Rattle.std.specs.List.{list_any}
use native.Mathlib.Nat.{mod-lt}
use Rattle.byteorder.specs.Endian.{little_bytes}
use Rattle.smid_pool.specs.Class.{IsIn, before, size_of}
use Rattle.smid_pool.specs.Pool.{Slot, Free, Open, Parked, slot_of}
use Rattle.smid_pool.specs.declared.class.Class.{Class}
use Rattle.smid_pool.specs.declared.class.Class.TheVariants as class
use Rattle.mpi_doorbell.specs.Bytes.{has}
use Rattle.mpi_doorbell.specs.DoorRegisters.{DoorRegisters, Written, diagnostic_written, doorbell_written, function_written, is_fault, is_unlocked, key_written, linked_up, quietly, register_written, released, reset_begun, status_written}
use Rattle.mpi_doorbell.specs.Handshake.{asked_by, dword_taken, is_idle}
use Rattle.mpi_doorbell.specs.declared.effect.Effect.{Effect}
use Rattle.mpi_doorbell.specs.declared.effect.Effect.TheVariants as effect
use Rattle.mpi_doorbell.specs.declared.registers.TheConstants.{DOORBELL, DIAG_HOLD_IOC_RESET, DIAG_RESET_ADAPTER, DOORBELL_ADD_DWORDS_SHIFT, DOORBELL_FUNCTION_SHIFT, FUNCTION_HANDSHAKE, FUNCTION_MESSAGE_UNIT_RESET, HOST_DIAGNOSTIC, HOST_INTERRUPT_MASK, HOST_INTERRUPT_STATUS, REPLY_POST_HOST_INDEX, WRITE_SEQUENCE}
use Rattle.mpi_doorbell.specs.declared.state.IocState.{IocState}
use Rattle.mpi_doorbell.specs.declared.state.IocState.TheVariants as ioc_state
use Rattle.mpi_rings.specs.declared.request_descriptor.PostKind.{PostKind}
use Rattle.mpi_rings.specs.declared.request_descriptor.PostKind.TheVariants as post
use Rattle.mpt_wire.specs.Messages.Fields.{kind_in, post_descriptor, reply_frame_address, smid_in}
use Rattle.mpt_wire.specs.Machine.State.{OpenRequest}
use Rattle.mpt_trace.specs.declared.item.Back.{Back}
use Rattle.mpt_trace.specs.declared.item.Down.{Down}
use Rattle.mpt_trace.specs.declared.item.Down.TheVariants as down
use Rattle.mpt_rules.specs.declared.post.Post.{Post}
use Rattle.mpt_rules.specs.declared.request.Request.{Request}
use Rattle.mpt_rules.specs.declared.request.Request.TheVariants as request
use Rattle.mpt_rules.specs.World.Cases.{Case, happens}
use Rattle.mpt_rules.specs.World.Counts.{how_many, one_if, post_count, queued_count, return_count}
use Rattle.mpt_rules.specs.Host.Parts.{Cmd, host_queue_count}
use Rattle.mpt_rules.specs.Host.Returns.{after_sent}
use Rattle.mpt_rules.specs.Ioc.Takes as adapter
use Rattle.mpt_rules.specs.Ioc.Parts.{Ioc, state_of}
use Rattle.mpt_rules.specs.Ioc.Posts as taking
use Rattle.mpt_rules.specs.Ioc.Registers as registers
use Rattle.mpt_rules.specs.Ioc.Steps as step
use Rattle.mpt_rules.specs.Ioc.Tables as table
use Rattle.mpt_rules.specs.Law.{NothingIsStrange}
use Rattle.mpt_rules.specs.World.Lines.{down_line}
use Rattle.mpt_rules.specs.Outcome.{Happening}
use Rattle.mpt_rules.specs.World.State.{World}
use Rattle.law_facts.specs.Clock.{Clock}
use Rattle.law_facts.specs.DoorAhead.{does_still, door_ahead, writes_still, written_ahead}
use Rattle.law_facts.specs.Facts.{Facts}
use Rattle.law_facts.specs.Flights.{RecordStands, names_a_frame}
use Rattle.law_facts.specs.History.{History}
use Rattle.law_facts.specs.Messages.{CommandPost, DownIsRecord, PostIs}
use Rattle.law_facts.specs.Words.{others, slot}
use Rattle.law_flights.proofs.Descriptors.{kind_posted}
use Rattle.law_flights.proofs.WorkLeaves.{works_leaf}
use Rattle.law_moves.proofs.Cases.{Owes, kept}
use Rattle.law_moves.proofs.Counted.{how_many-cons, others-cons}
use Rattle.law_moves.proofs.IocSpeaks.{CalmTold, IocSpeaks, LinkedUp, News, Speaks, Unlinked, ioc_quiet, is_asked_out, never_out, news, works}
use Rattle.law_moves.proofs.IocTakes as leaf
use Rattle.law_moves.proofs.Phases.{same_is}
use Rattle.law_moves.proofs.Registers.{linked_is, writes_are}
use Rattle.law_moves.proofs.Turns.{any_is}
use Rattle.law_doors.proofs.Ahead.{ahead-write}

-- ---- a FAULT stays ahead

-- no link waits behind a write
pub waits_stay : (r : DoorRegisters) (reg value : ℕ) → r.link_waits ≡ false → (register_written r reg value).registers.link_waits ≡ false
waits_stay r reg value e = by_tests (reg == WRITE_SEQUENCE) (reg == HOST_DIAGNOSTIC) (is_fault r.state) (reg == DOORBELL) (reg == HOST_INTERRUPT_STATUS) (reg == HOST_INTERRUPT_MASK) (reg == REPLY_POST_HOST_INDEX)
  where
    release : (x : DoorRegisters) → x.link_waits ≡ false → (released x).link_waits ≡ false
    release x f = by_waits (x.link_waits && not x.hold_reset)
      where
        by_waits : (b : Bool) → (if b then record x { state = ioc_state.Ready; link_waits = false } else x).link_waits ≡ false
        by_waits true = refl
        by_waits false = f

    diagnostic : (diagnostic_written r value).registers.link_waits ≡ false
    diagnostic = by_both (is_unlocked r) (has value DIAG_RESET_ADAPTER)
      where
        held : DoorRegisters
        held = record r { hold_reset = has value DIAG_HOLD_IOC_RESET }

        by_both : (a b : Bool) → (if a then (if b then reset_begun held else quietly (released held)) else quietly r).registers.link_waits ≡ false
        by_both true true = refl
        by_both true false = release held e
        by_both false b = e

    opened : (n : ℕ) → (Rattle.mpi_doorbell.specs.DoorRegisters.handshake_opened r n).registers.link_waits ≡ false
    opened n = by_size (nat_lt 0 n && nat_le n 32)
      where
        by_size : (b : Bool) → (if b then quietly (record r { handshake = Rattle.mpi_doorbell.specs.Handshake.Collects n []; ioc2sys = true }) else record { registers = r; effect = effect.Fault 1 }).registers.link_waits ≡ false
        by_size true = e
        by_size false = e

    dword : (doorbell_written r value).registers.link_waits ≡ false
    dword = by_idle (is_idle r.handshake)
      where
        function : (a b : Bool) → (if a then Rattle.mpi_doorbell.specs.DoorRegisters.handshake_opened r (value / 2 ^ DOORBELL_ADD_DWORDS_SHIFT % 256) else if b then record { registers = r; effect = effect.UnitReset } else record { registers = r; effect = effect.Fault 2 }).registers.link_waits ≡ false
        function true b = opened (value / 2 ^ DOORBELL_ADD_DWORDS_SHIFT % 256)
        function false true = e
        function false false = e

        by_idle : (b : Bool) → (if b then function_written r (value / 2 ^ DOORBELL_FUNCTION_SHIFT) (value / 2 ^ DOORBELL_ADD_DWORDS_SHIFT % 256) else record { registers = record r { handshake = dword_taken r.handshake value }; effect = asked_by r.handshake value }).registers.link_waits ≡ false
        by_idle true = function (value / 2 ^ DOORBELL_FUNCTION_SHIFT == FUNCTION_HANDSHAKE) (value / 2 ^ DOORBELL_FUNCTION_SHIFT == FUNCTION_MESSAGE_UNIT_RESET)
        by_idle false = e

    by_tests : (a b c d f g i : Bool) → (if a then quietly (key_written r value) else if b then diagnostic_written r value else if c then quietly r else
        if d then doorbell_written r value else if f then quietly (status_written r) else if g then quietly (record r { interrupt_mask = value }) else if i then quietly (record r { reply_post_host_index = value }) else quietly r).registers.link_waits ≡ false
    by_tests true b c d f g i = e
    by_tests false true c d f g i = diagnostic
    by_tests false false true d f g i = e
    by_tests false false false true f g i = dword
    by_tests false false false false true g i = e
    by_tests false false false false false true i = e
    by_tests false false false false false false true = e
    by_tests false false false false false false false = e

pub record Stuck (i : Ioc) : Type 0 where
  pub fault : is_fault i.door.state ≡ true
  pub waits : i.door.link_waits ≡ false

-- in FAULT nothing is asked but a reset
fault_effect : (r : DoorRegisters) (reg value : ℕ) → is_fault r.state ≡ true → ((register_written r reg value).effect ≡ effect.None) ⊎ ((register_written r reg value).effect ≡ effect.AdapterReset)
fault_effect r reg value e = by_tests (reg == WRITE_SEQUENCE) (reg == HOST_DIAGNOSTIC) (is_fault r.state) e (is_unlocked r) (has value DIAG_RESET_ADAPTER)
  where
    held : DoorRegisters
    held = record r { hold_reset = has value DIAG_HOLD_IOC_RESET }

    by_tests : (a b c : Bool) → c ≡ true → (u t : Bool) → ((if a then quietly (key_written r value) else if b then (if u then (if t then reset_begun held else quietly (released held)) else quietly r) else if c then quietly r else Rattle.mpi_doorbell.specs.DoorRegisters.working_written r reg value).effect ≡ effect.None)
        ⊎ ((if a then quietly (key_written r value) else if b then (if u then (if t then reset_begun held else quietly (released held)) else quietly r) else if c then quietly r else Rattle.mpi_doorbell.specs.DoorRegisters.working_written r reg value).effect ≡ effect.AdapterReset)
    by_tests true b c f u t = inl refl
    by_tests false true c f true true = inr refl
    by_tests false true c f true false = inl refl
    by_tests false true c f false t = inl refl
    by_tests false false true f u t = inl refl
    by_tests false false false f u t = absurd (cc)

stuck_write : (i : Ioc) (reg value : ℕ) → Stuck i → Stuck (writes_still i reg value)
stuck_write i reg value s = by_effect (fault_effect i.door reg value s.fault)
  where
    j : Ioc
    j = record i { door = (register_written i.door reg value).registers }

    sj : Stuck j
    sj = record { fault = ap is_fault (writes_are i.door reg value s.waits).state ∙ s.fault; waits = waits_stay i.door reg value s.waits }

    by_effect : ((register_written i.door reg value).effect ≡ effect.None) ⊎ ((register_written i.door reg value).effect ≡ effect.AdapterReset) → Stuck (does_still j (register_written i.door reg value).effect)
    by_effect (inl e) = subst (λ f. Stuck (does_still j f)) (sym e) sj
    by_effect (inr e) = subst (λ f. Stuck (does_still j f)) (sym e) sj

pub stuck_ahead : (i : Ioc) (xs : List Down) → Stuck i → is_fault (written_ahead i xs).door.state ≡ true
unfolding written_ahead
stuck_ahead i [] s = s.fault
stuck_ahead i (down.Write reg value ∷ xs) s = stuck_ahead (writes_still i reg value) xs (stuck_write i reg value s)
stuck_ahead i (down.Read reg ∷ xs) s = stuck_ahead i xs s
stuck_ahead i (down.Post d f p ∷ xs) s = stuck_ahead i xs s
stuck_ahead i (down.Return a n ∷ xs) s = stuck_ahead i xs s
stuck_ahead i (down.Stop ∷ xs) s = stuck_ahead i xs s

false_true : (c : Bool) → c ≡ false → c ≡ true → ⊥
false_true true e f = cc
false_true false e f = cc

or_none : (a b c d : Bool) → a ≡ false → b ≡ false → c ≡ false → d ≡ false → ((a || b) || (c || d)) ≡ false
or_none false false false false e f g h = refl
or_none true b c d e f g h = absurd (cc)
or_none false true c d e f g h = absurd (cc)
or_none false false true d e f g h = absurd (cc)
or_none false false false true e f g h = absurd (cc)

none_any : {X : Type 0} (p : X → Bool) (xs : List X) → how_many p xs ≡ 0 → list_any p xs ≡ false
none_any p xs z = any_is p xs ∙ ap (λ n. not (n == 0)) z

off_by_count : (b : Bool) → one_if b ≡ 0 → b ≡ false
off_by_count true e = absurd (omega (arith, e))
off_by_count false e = refl

in_class : (c : Class) (s : ℕ) → IsIn c s → taking.is_in_class c s ≡ true
in_class c s i = both (nat_lt (before c) s) (nat_le s (before c + size_of c)) (lower (before c) s i.0) (upper s (before c + size_of c) i.1)
  where
    both : (a b : Bool) → a ≡ true → b ≡ true → (a && b) ≡ true
    both true true e f = refl
    both true false e f = absurd (cc)
    both false b e f = absurd (cc)

    lower : (n m : ℕ) → n < m → nat_lt n m ≡ true
    lower n m l = grind (arith, l)

    upper : (n m : ℕ) → n ≤ m → nat_le n m ≡ true
    upper n m l = grind (arith, l)

-- ---- what a post is

pub record PostFits (d s : ℕ) : Type 0 where
  pub kind : PostKind
  pub is : kind_in d ≡ Some kind
  pub class_fits : taking.is_in_class (taking.class_of kind) s ≡ true

module _ (w : World) (h : History) (f : Facts w h) where
  k : Clock w h
  k = f.clock

  fits : (p : Post) (s : ℕ) → s ≤ 280 → smid_in p.descriptor ≡ s → (r : Slot Request) → RecordStands w s r → PostIs w h p r → PostFits p.descriptor s
  fits p s m e (Open (request.Command n)) st i = command (finmap.get w.host.cmds n) (finmap.get h.machine.requests n) st.1 i
    where
      command : (c : Option Cmd) (r : Option OpenRequest) → option_map (λ (c : Cmd). c.smid) c ≡ Some s → CommandPost w p c r → PostFits p.descriptor s
      command (Some c) (Some r) g i =
          let q : c.smid ≡ s = cc in
          let few = f.flights.sizes.few_queues in let some = f.flights.sizes.some_queue in
          let l = mod-lt (c.smid - 1) some in
          record { kind = post.ScsiIo; is = ap kind_in i.0 ∙ kind_posted post.ScsiIo ((c.smid - 1) % host_queue_count w.host) c.smid c.handle (omega (arith, l, few)) (omega (arith, q, m)); class_fits = in_class class.ScsiIo s st.0 }
      command (Some c) None g i = absurd i
      command None r g i = absurd i
  fits p s m e (Open (request.Abort n task)) st i = record { kind = post.HighPriority; is = ap kind_in i.0.0 ∙ kind_posted post.HighPriority 0 (smid_in p.descriptor) 0 (omega arith) (omega (arith, e, m)); class_fits = in_class class.High s st.0 }
  fits p s m e (Open (request.TargetReset address)) st i = record { kind = post.HighPriority; is = ap kind_in i.0 ∙ kind_posted post.HighPriority 0 (smid_in p.descriptor) 0 (omega arith) (omega (arith, e, m)); class_fits = in_class class.High s st }
  fits p s m e (Open (request.Leave handle)) st i = record { kind = post.HighPriority; is = ap kind_in i.0.0 ∙ kind_posted post.HighPriority 0 (smid_in p.descriptor) 0 (omega arith) (omega (arith, e, m)); class_fits = in_class class.High s st }
  fits p s m e (Open (request.Page handle)) st i = record { kind = post.Default; is = ap kind_in i.0 ∙ kind_posted post.Default 0 (smid_in p.descriptor) 0 (omega arith) (omega (arith, e, m)); class_fits = in_class class.Internal s st }
  fits p s m e (Open (request.Remove handle)) st i = record { kind = post.Default; is = ap kind_in i.0 ∙ kind_posted post.Default 0 (smid_in p.descriptor) 0 (omega arith) (omega (arith, e, m)); class_fits = in_class class.Internal s st }
  fits p s m e (Open (request.Ack event context)) st i = record { kind = post.Default; is = ap kind_in i.0 ∙ kind_posted post.Default 0 (smid_in p.descriptor) 0 (omega arith) (omega (arith, e, m)); class_fits = in_class class.Internal s st }
  fits p s m e (Open request.Notification) st i = record { kind = post.Default; is = ap kind_in i.0 ∙ kind_posted post.Default 0 (smid_in p.descriptor) 0 (omega arith) (omega (arith, e, m)); class_fits = in_class class.Internal s st }
  fits p s m e (Open request.PortEnable) st i = record { kind = post.Default; is = ap kind_in i.0 ∙ kind_posted post.Default 0 (smid_in p.descriptor) 0 (omega arith) (omega (arith, e, m)); class_fits = in_class class.Internal s st }
  fits p s m e Free st i = absurd i
  fits p s m e Parked st i = absurd i

  -- what a post names is an identifier
  named : (p : Post) (s : ℕ) (r : Slot Request) → slot_of w.host.pool s ≡ r → PostIs w h p r → (1 ≤ s) × (s ≤ 280)
  named p zero r e i = absurd (subst (PostIs w h p) (sym e) i)
  named p (suc n) r e i = by_place (nat_lt n (length w.host.pool)) refl
    where
      by_place : (b : Bool) → nat_lt n (length w.host.pool) ≡ b → (1 ≤ suc n) × (suc n ≤ 280)
      by_place true t = let z = f.flights.sizes.pool in let l : n < length w.host.pool = grind (arith, t) in (omega arith, omega (arith, z, l))
      by_place false t =
          let far : length w.host.pool ≤ n = grind (arith, t) in
          let z : get_or w.host.pool n Free ≡ Free = get_or_past w.host.pool n Free far in
          absurd (subst (PostIs w h p) (sym e ∙ z) i)

  front : (x : Down) (rest : List Down) → w.down ≡ x ∷ rest → down_line w ≡ x ∷ (rest ++ w.host.out)
  front x rest e = ap (λ xs. xs ++ w.host.out) e

  posted : (d : ℕ) (fr pl : List ℕ) (rest : List Down) → w.down ≡ down.Post d fr pl ∷ rest → is_fault (state_of (taking.ioc_takes_post w.ioc d fr pl)) ≡ false
  unfolding post_count queued_count
  posted d fr pl rest e =
      let p : Post = record { descriptor = d; frame = fr; payload = pl } in
      let s : ℕ = smid_in d in
      let g = front (down.Post d fr pl) rest e in
      let i : PostIs w h p (slot w.host (smid_in d)) = All-head (DownIsRecord w h) (down.Post d fr pl) (rest ++ w.host.out) (subst (All (DownIsRecord w h)) g f.messages.down) in
      let n = named p (smid_in d) (slot w.host (smid_in d)) refl i in
      let id = f.flights.identifiers (smid_in d) n.0 n.1 in
      let ft = fits p (smid_in d) n.1 refl (slot w.host (smid_in d)) id.recorded i in
      let a = id.at_most in
      let c = ap (how_many (Rattle.mpt_rules.specs.World.Places.is_posted_as (smid_in d))) g in
      let q = how_many-cons (Rattle.mpt_rules.specs.World.Places.is_posted_as (smid_in d)) (down.Post d fr pl) (rest ++ w.host.out) in
      let o : one_if (smid_in d == smid_in d) ≡ 1 = ap one_if (same_is (smid_in d)) in
      let u = or_none (list_any (table.is_post_of (smid_in d)) w.ioc.high) (list_any (table.is_post_of (smid_in d)) w.ioc.normal) (is_some (table.request_at w.ioc (smid_in d))) (list_any (table.is_held_as (smid_in d)) w.ioc.held)
      (none_any (table.is_post_of (smid_in d)) w.ioc.high (omega (arith, a, c, q, o))) (none_any (table.is_post_of (smid_in d)) w.ioc.normal (omega (arith, a, c, q, o))) (off_by_count (is_some (table.request_at w.ioc (smid_in d))) (omega (arith, a, c, q, o))) (none_any (table.is_held_as (smid_in d)) w.ioc.held (omega (arith, a, c, q, o))) in
      ap (λ x. is_fault (state_of (taking.posts_if w.ioc p x))) ft.is ∙ by_tests ft.kind (taking.is_in_class (taking.class_of ft.kind) (smid_in d)) (table.is_unanswered w.ioc (smid_in d)) ft.class_fits u
    where
      queue : (x : PostKind) → is_fault (state_of (taking.with_post_queued w.ioc (record { descriptor = d; frame = fr; payload = pl }) x)) ≡ false
      queue post.ScsiIo = k.phase_table.whole
      queue post.HighPriority = k.phase_table.whole
      queue post.Default = k.phase_table.whole

      by_tests : (x : PostKind) (b u : Bool) → b ≡ true → u ≡ false → is_fault (state_of (if not b then table.faults w.ioc taking.bad_post else if u then table.faults w.ioc taking.identifier_in_use else taking.with_post_queued w.ioc (record { descriptor = d; frame = fr; payload = pl }) x)) ≡ false
      by_tests x true false e f = queue x
      by_tests x true true e f = absurd (cc)
      by_tests x false u e f = absurd (cc)

  returned : (address index : ℕ) (rest : List Down) → w.down ≡ down.Return address index ∷ rest → is_fault (state_of (taking.ioc_takes_return w.ioc address)) ≡ false
  unfolding return_count
  returned address index rest e =
      let g = front (down.Return address index) rest e in
      let z = f.flights.frames_are_frames.returned in
      let c = ap (others names_a_frame) g in let q = others-cons names_a_frame (down.Return address index) (rest ++ w.host.out) in
      let nm : taking.is_frame_address address ≡ true = true_by (names_a_frame (down.Return address index)) (omega (arith, z, c, q)) in
      let n = Rattle.law_moves.proofs.Phases.and_false (reply_frame_address (taking.frame_near address) == address) (nat_lt (taking.frame_near address) 64) nm in
      let l = below (taking.frame_near address) n.1 in
      let fr = (f.flights.frames (taking.frame_near address) l).at_most in
      let rc = ap (how_many (Rattle.mpt_rules.specs.World.Places.is_return_of (taking.frame_near address))) g in
      let rq = how_many-cons (Rattle.mpt_rules.specs.World.Places.is_return_of (taking.frame_near address)) (down.Return address index) (rest ++ w.host.out) in
      let eq : reply_frame_address (taking.frame_near address) ≡ address = eqb-true _ _ n.0 in
      let o : one_if (address == reply_frame_address (taking.frame_near address)) ≡ 1 = ap (λ m. one_if (address == m)) eq ∙ ap one_if (same_is address) in
      let here : taking.frame_here w.ioc (taking.frame_near address) ≡ false = none_any (λ m. m == taking.frame_near address) w.ioc.ring (omega (arith, fr, rc, rq, o)) in
      by_tests (taking.is_frame_address address) (taking.frame_here w.ioc (taking.frame_near address)) nm here
    where
      true_by : (b : Bool) → one_if (not b) ≡ 0 → b ≡ true
      true_by true e = refl
      true_by false e = absurd (omega (arith, e))

      below : (n : ℕ) → nat_lt n 64 ≡ true → n ≤ 63
      below n t = let l : n < 64 = grind (arith, t) in omega (arith, l)

      by_tests : (a c : Bool) → a ≡ true → c ≡ false → is_fault (state_of (if not a || c then table.faults w.ioc taking.bad_return else record w.ioc { ring = w.ioc.ring ++ taking.frame_near address ∷ [] })) ≡ false
      by_tests true false e f = k.phase_table.whole
      by_tests true true e f = absurd (cc)
      by_tests false c e f = absurd (cc)

  -- ---- a write

  no_fault : (i : Ioc) (xs : List Down) → i.door.link_waits ≡ false → is_fault (written_ahead i xs).door.state ≡ false → is_fault i.door.state ≡ false
  no_fault i xs lw e = by_state (is_fault i.door.state) refl
    where
      by_state : (b : Bool) → is_fault i.door.state ≡ b → b ≡ false
      by_state true y = absurd (false_true (is_fault (written_ahead i xs).door.state) e (stuck_ahead i xs (record { fault = y; waits = lw })))
      by_state false y = refl

  writes : (reg value : ℕ) (rest : List Down) → w.down ≡ down.Write reg value ∷ rest → (x : Effect) → (register_written w.ioc.door reg value).effect ≡ x → is_fault (state_of (registers.after_effect (record w.ioc { door = (register_written w.ioc.door reg value).registers }) x).part) ≡ false
  writes reg value rest e x q = by_effect x q
    where
      j : Ioc
      j = record w.ioc { door = (register_written w.ioc.door reg value).registers }

      lw : j.door.link_waits ≡ false
      lw = waits_stay w.ioc.door reg value f.doorbell.sound.waits

      ahead : (x : Effect) → (register_written w.ioc.door reg value).effect ≡ x → is_fault (written_ahead (does_still j x) (rest ++ w.host.out)).door.state ≡ false
      ahead x q =
          sym (ap (λ xs. is_fault (written_ahead w.ioc xs).door.state) (front (down.Write reg value) rest e) ∙ (ap (λ (i : Ioc). is_fault i.door.state) (ahead-write w.ioc reg value (rest ++ w.host.out)) ∙ ap (λ y. is_fault (written_ahead (does_still j y) (rest ++ w.host.out)).door.state) q))
          ∙ f.doorbell.sound.whole

      ready_whole : (a c : IocState) → Rattle.mpt_rules.specs.Ioc.Tables.is_ready a ≡ true → c ≡ ioc_state.Operational → is_fault c ≡ false
      ready_whole a c y z = ap is_fault z

      by_shook : (i : Ioc) → leaf.Shook j i → is_fault (state_of i) ≡ false
      by_shook i (leaf.Stays a y) = ap is_fault (a ∙ (writes_are w.ioc.door reg value f.doorbell.sound.waits).state) ∙ k.phase_table.whole
      by_shook i (leaf.ComesUp a c y) = ap is_fault c

      by_effect : (x : Effect) → (register_written w.ioc.door reg value).effect ≡ x → is_fault (state_of (registers.after_effect j x).part) ≡ false
      by_effect effect.None q = ap is_fault (writes_are w.ioc.door reg value f.doorbell.sound.waits).state ∙ k.phase_table.whole
      by_effect (effect.Asked count bytes) q = by_shook (registers.handshakes j (take count bytes)) (leaf.shook j (take count bytes))
      by_effect effect.UnitReset q = refl
      by_effect effect.AdapterReset q = refl
      by_effect (effect.Fault code) q = no_fault (table.faults j code) (rest ++ w.host.out) lw (ahead (effect.Fault code) q)

  taken : (x : Down) (rest : List Down) → w.down ≡ x ∷ rest → is_fault (state_of (adapter.takes_down w.ioc x).part) ≡ false
  taken (down.Write reg value) rest e = writes reg value rest e (register_written w.ioc.door reg value).effect refl
  taken (down.Read reg) rest e = k.phase_table.whole
  taken (down.Post d fr pl) rest e = by_state (table.is_operational (state_of w.ioc))
    where
      by_state : (b : Bool) → is_fault (state_of (if b then taking.ioc_takes_post w.ioc d fr pl else w.ioc)) ≡ false
      by_state true = posted d fr pl rest e
      by_state false = k.phase_table.whole
  taken (down.Return address index) rest e = by_state (table.is_operational (state_of w.ioc))
    where
      by_state : (b : Bool) → is_fault (state_of (if b then taking.ioc_takes_return w.ioc address else w.ioc)) ≡ false
      by_state true = returned address index rest e
      by_state false = k.phase_table.whole
  taken down.Stop rest e = by_fault (is_fault w.ioc.door.state)
    where
      by_fault : (b : Bool) → is_fault (state_of (if b then w.ioc else Rattle.mpt_rules.specs.Ioc.Replies.with_out_item w.ioc Rattle.mpt_trace.specs.declared.item.Out.TheVariants.Stop)) ≡ false
      by_fault true = k.phase_table.whole
      by_fault false = k.phase_table.whole

  told : (x : Back) (o : Happening Ioc) → News never_out w.ioc x o → is_fault (state_of o.part) ≡ false
  told x o (Speaks l q) = ap (λ d. is_fault d.state) q.door_is ∙ k.phase_table.whole
  told x o (Unlinked n i z e) = ap (λ (y : Happening Ioc). is_fault (state_of y.part)) e ∙ k.phase_table.whole
  told x o (LinkedUp n i g r e) = ap (λ (y : Happening Ioc). is_fault (state_of y.part)) e ∙ ap is_fault (linked_is w.ioc.door f.doorbell.sound.hold)
  told x o (CalmTold i e) = ap (λ (y : Happening Ioc). is_fault (state_of y.part)) e ∙ k.phase_table.whole

  worked : (i j : Ioc) (p : Post) → IocSpeaks is_asked_out w.ioc j → is_fault (state_of j) ≡ false
  worked i j p q = ap (λ d. is_fault d.state) q.door_is ∙ k.phase_table.whole

  abbrev Kept : World → Type 0
  Kept v = is_fault (state_of v.ioc) ≡ false

  put : (x : Down) (rest : List Down) → Kept (record w { host = after_sent w.host x rest; down = w.down ++ x ∷ [] })
  put (down.Return address index) rest = k.phase_table.whole
  put (down.Write reg value) rest = k.phase_table.whole
  put (down.Read reg) rest = k.phase_table.whole
  put (down.Post d g q) rest = k.phase_table.whole
  put down.Stop rest = k.phase_table.whole

  owes : Owes Kept w
  owes =
      record {
        host_puts = λ x rest e. put x rest;
        host_takes = λ queue x rest e y. k.phase_table.whole;
        host_told = λ i t. k.phase_table.whole;
        host_looks = λ e. k.phase_table.whole;
        host_stops = λ e. k.phase_table.whole;
        ioc_takes = λ x rest e. taken x rest e;
        ioc_high = λ p rest e. worked w.ioc (step.works_on (record w.ioc { high = rest }) p).part p (works w.ioc (record w.ioc { high = rest }) p (step.works_on (record w.ioc { high = rest }) p) (works_leaf (record w.ioc { high = rest }) p) (ioc_quiet is_asked_out w.ioc));
        ioc_normal = λ p rest e. worked w.ioc (step.works_on (record w.ioc { normal = rest }) p).part p (works w.ioc (record w.ioc { normal = rest }) p (step.works_on (record w.ioc { normal = rest }) p) (works_leaf (record w.ioc { normal = rest }) p) (ioc_quiet is_asked_out w.ioc));
        ioc_puts_out = λ x rest e. k.phase_table.whole;
        ioc_takes_back = λ x rest e. told x (adapter.takes_back w.ioc x) (news never_out w.ioc x);
        ioc_puts = λ queue y rest z e u. k.phase_table.whole;
        fabric_takes = λ x rest e. k.phase_table.whole;
        fabric_says = λ x rest e. k.phase_table.whole;
        fabric_puts = λ x rest e. k.phase_table.whole;
        fabric_runs = λ tag address e. k.phase_table.whole;
        plugs = λ address expander phy. k.phase_table.whole;
        unplugs = λ address. k.phase_table.whole;
        calms = k.phase_table.whole;
      }

  pub whole_kept : NothingIsStrange w → (c : Case) → is_fault (state_of (happens w c).ioc) ≡ false
  whole_kept plain c = kept Kept w plain owes k.phase_table.whole c
