-- Each case keeps what the rule of the interrupt status knows, and each value that is put passes it.
use Rattle.std.proofs.Common.{◌≡◌, ℕ, zero, suc, ◌+◌, ◌-◌, ◌≤◌, ◌==◌, ◌&&◌, ◌||◌, ◌⊎◌, inl, inr, cond, not, nat_lt, Bool, true, false, if◌then◌else◌, List, [], ◌∷◌, ◌++◌, append_assoc, drop, get_or, length, map, slice_get, take, Option, Some, None, refl, ap, sym, ◌∙◌, subst, arith}
use Rattle.std.specs.List.{filter}
use Rattle.std.proofs.lemmas.Bool.{eqb-true, false≢true, lt-ltb, ne_eqb}
use Rattle.mpi_doorbell.specs.DoorRegisters.{DoorRegisters, Written, is_fault, linked_up, quietly, register_value, register_written}
use Rattle.mpi_doorbell.specs.Handshake.{is_idle, is_replying}
use Rattle.mpi_doorbell.specs.HostDoor.{HostDoor, register_of}
use Rattle.mpi_doorbell.specs.declared.effect.Effect.{Effect}
use Rattle.mpi_doorbell.specs.declared.effect.Effect.TheVariants as effect
use Rattle.mpi_doorbell.specs.declared.registers.TheConstants.{DOORBELL, DOORBELL_USED, HOST_INTERRUPT_STATUS, IOC2SYS_DB_STATUS, REPLY_POST_HOST_INDEX}
use Rattle.mpi_doorbell.specs.declared.stage.Reading.{Reading}
use Rattle.mpi_doorbell.specs.declared.stage.Stage.TheVariants as door_stage
use Rattle.mpi_doorbell.specs.declared.state.IocState.TheVariants as ioc_state
use Rattle.mpt_wire.specs.Machine.Causes.{is_up}
use Rattle.mpt_wire.specs.Messages.Registers.{Bell, BellAsks, IsStatus, bell_next, door_written, dword_written, handshake_begun, has_bit, silent_bell, status_cleared, status_now}
use Rattle.mpt_wire.specs.Walks.Passes.{EachEntry, Passes, state_after}
use Rattle.mpt_trace.specs.declared.entry.Entry.{Entry}
use Rattle.mpt_trace.specs.declared.entry.Entry.TheVariants as entry
use Rattle.mpt_trace.specs.declared.item.Back.{Back}
use Rattle.mpt_trace.specs.declared.item.Down.{Down}
use Rattle.mpt_trace.specs.declared.item.Down.TheVariants as down
use Rattle.mpt_trace.specs.declared.item.Item.TheVariants as item
use Rattle.mpt_trace.specs.declared.item.Out.{Out}
use Rattle.mpt_trace.specs.declared.item.Up.{Up}
use Rattle.mpt_trace.specs.declared.item.Up.TheVariants as upward
use Rattle.mpt_trace.specs.declared.lane.LaneName.TheVariants as lane
use Rattle.mpt_rules.specs.declared.said.Said.{Said}
use Rattle.mpt_rules.specs.declared.said.Said.TheVariants as said
use Rattle.mpt_rules.specs.Host.Parts.{Host}
use Rattle.mpt_rules.specs.Host.Returns.{after_sent}
use Rattle.mpt_rules.specs.Host.Strange.{why_strange}
use Rattle.mpt_rules.specs.Host.Takes.{is_starting}
use Rattle.mpt_rules.specs.Ioc.Parts.{Ioc, state_of}
use Rattle.mpt_rules.specs.Ioc.Registers as registers
use Rattle.mpt_rules.specs.Ioc.Replies as say
use Rattle.mpt_rules.specs.Ioc.Replies.{outbox_of}
use Rattle.mpt_rules.specs.Ioc.Resets.{forgets, marked, next_generation, outlives_reset, up_after_reset}
use Rattle.mpt_rules.specs.Ioc.Sending.{up_of, up_sent_on}
use Rattle.mpt_rules.specs.Ioc.Steps as ioc_step
use Rattle.mpt_rules.specs.Ioc.Takes as adapter
use Rattle.mpt_rules.specs.Outcome.{Happening}
use Rattle.mpt_rules.specs.World.Cases.{Case, entries, happens}
use Rattle.mpt_rules.specs.World.Counts.{how_many, is_register_write, one_if, read_count, register_write_count, value_count}
use Rattle.mpt_rules.specs.World.Lines.{down_line, said_of, up_line}
use Rattle.mpt_rules.specs.World.State.{World, up_lane, up_on, with_up}
use Rattle.mpt_rules.specs.World.Weight.{is_read, is_said_value}
use Rattle.mpt_rules.proofs.Counts.{how_many-append}
use Rattle.law_facts.specs.Clock.{Clock}
use Rattle.law_facts.specs.DoorAhead.{WaitsAt, first_read, first_value, value_coming}
use Rattle.law_facts.specs.History.{History}
use Rattle.law_facts.specs.Ties.{ReadsAre, is_status_write}
use Rattle.law_facts.specs.Words.{is_reply}
use Rattle.law_flights.specs.Given.{Resets}
use Rattle.law_flights.proofs.Tables.{get_or-set_any}
use Rattle.law_moves.proofs.CasesTold.{OwesTold, kept_told}
use Rattle.law_moves.proofs.Counted.{fewer_pass, filtered, how_many-cons, how_many-nil, later, later-opened, none_passes}
use Rattle.law_moves.proofs.HostGoes.{heard_of, is_value, value_heard, value_is_due}
use Rattle.law_moves.proofs.IocSpeaks.{CalmTold, IocSpeaks, LinkedUp, News, Speaks as SpeaksBack, Unlinked, is_asked_out, never_out, news}
use Rattle.law_moves.proofs.IocTakes as leaf
use Rattle.law_moves.proofs.IocTakes.{Takes, takes}
use Rattle.law_moves.proofs.UpChanges as changes
use Rattle.law_moves.proofs.UpLines as lines
use Rattle.law_clock.specs.Premises.{Before}
use Rattle.law_clock.proofs.PhaseKept.{high_words, normal_words}
use Rattle.law_doors.proofs.Whole.{whole_kept}
use Rattle.law_starts.specs.Starts.{StartsStand}
use Rattle.law_starts.proofs.HostAtDoor as at
use Rattle.law_starts.proofs.HostAtDoor.{AtDoor, contrary}
use Rattle.law_steps.proofs.Coming.{first_before, first_pass, first_put, first_said, no_first}
use Rattle.law_locks.specs.Locks.{HandshakesStand}
use Rattle.law_ties.proofs.Quiet.{passes_over, state_stays}
use Rattle.law_ties.proofs.Steady.{IsSteady, steady_back, steady_input, steady_item, steady_plug, steady_work}
use Rattle.law_bell_status.specs.Bells.{IsHeard, is_talk_write, is_word_write}
use Rattle.law_bell_status.proofs.Belled.{BellHolds, BellOn}
use Rattle.law_bell_status.proofs.BellHost as by_host
use Rattle.law_bell_status.proofs.BellHost.{answered_none, answered_some, no_list, no_some, none_some}
use Rattle.law_bell_status.proofs.Rung.{Rung, RungBy, write_rung, write_taken}
use Rattle.law_bell_status.proofs.TalkTurns.{status_of_talk, word_of_talk}

-- ---- the rule

steady_stays : (g : Bell) (e : Entry) → IsSteady e → bell_next g e ≡ g
steady_stays g (entry.Put l i) h = absurd h
steady_stays g (entry.Take l i) h = absurd h
steady_stays g entry.UnbindAll h = absurd h
steady_stays g (entry.Given i) h = refl
steady_stays g (entry.Refuse call cause) h = refl
steady_stays g (entry.Idle x) h = refl
steady_stays g (entry.Bind handle address plug) h = refl
steady_stays g (entry.Unbind handle) h = refl
steady_stays g (entry.Run address tag) h = refl
steady_stays g entry.HostUp h = refl
steady_stays g (entry.Ready address handle) h = refl
steady_stays g (entry.Lost address handle) h = refl
steady_stays g (entry.Accept n address smid) h = refl
steady_stays g (entry.RefuseSubmit n cause) h = refl
steady_stays g (entry.Answer n outcome) h = refl
steady_stays g (entry.AbortEnd n outcome) h = refl
steady_stays g (entry.TargetEnd address outcome) h = refl
steady_stays g entry.ResetDone h = refl

steady_free : (g : Bell) (e : Entry) → IsSteady e → BellAsks g e
steady_free g (entry.Put l i) h = absurd h
steady_free g (entry.Take l i) h = absurd h
steady_free g entry.UnbindAll h = absurd h
steady_free g (entry.Given i) h = tt
steady_free g (entry.Refuse call cause) h = tt
steady_free g (entry.Idle x) h = tt
steady_free g (entry.Bind handle address plug) h = tt
steady_free g (entry.Unbind handle) h = tt
steady_free g (entry.Run address tag) h = tt
steady_free g entry.HostUp h = tt
steady_free g (entry.Ready address handle) h = tt
steady_free g (entry.Lost address handle) h = tt
steady_free g (entry.Accept n address smid) h = tt
steady_free g (entry.RefuseSubmit n cause) h = tt
steady_free g (entry.Answer n outcome) h = tt
steady_free g (entry.AbortEnd n outcome) h = tt
steady_free g (entry.TargetEnd address outcome) h = tt
steady_free g entry.ResetDone h = tt

-- a write leaves the reads
write_reads : (g : Bell) (reg value : ℕ) → (bell_next g (write_taken reg value)).reads ≡ g.reads
write_reads g reg value = by_tests (reg == DOORBELL) (reg == HOST_INTERRUPT_STATUS)
  where
    begun : (c : Bool) (d : ℕ) → (let k : Bell = if c then record g { dwords = d; rings = true } else g in k.reads ≡ g.reads)
    begun true d = refl
    begun false d = refl

    dword : (c : Bool) → (let k : Bell = if c then record g { dwords = 0; replying = true; used = true; rings = true } else record g { dwords = g.dwords - 1 } in k.reads ≡ g.reads)
    dword true = refl
    dword false = refl

    door : (a c : Bool) → (let k : Bell = if a then dword_written g else (if c then g else handshake_begun value g) in k.reads ≡ g.reads)
    door true c = dword (g.dwords == 1)
    door false true = refl
    door false false = begun _ _

    cleared : (a c : Bool) → (let k : Bell = if a then record g { rings = false } else (if c then g else silent_bell g.reads) in k.reads ≡ g.reads)
    cleared true c = refl
    cleared false true = refl
    cleared false false = refl

    by_tests : (a c : Bool) → (let k : Bell = if a then door_written value g else (if c then status_cleared g else g) in k.reads ≡ g.reads)
    by_tests true c = door (nat_lt 0 g.dwords) g.replying
    by_tests false true = cleared (nat_lt 0 g.dwords) (g.replying && g.used)
    by_tests false false = refl

index_stays : (g : Bell) (reg value : ℕ) → (reg == REPLY_POST_HOST_INDEX) ≡ true → bell_next g (write_taken reg value) ≡ g
index_stays g reg value e = subst (λ n. bell_next g (write_taken n value) ≡ g) (sym (eqb-true reg REPLY_POST_HOST_INDEX e)) refl

-- ---- what the controller says

reply_no_value : (x : Said) → is_reply x ≡ true → is_said_value x ≡ false
reply_no_value (said.Value v) e = absurd (cc)
reply_no_value (said.Success smid page sense) e = refl
reply_no_value (said.Framed smid frame page sense) e = refl
reply_no_value (said.Mark generation) e = refl
reply_no_value said.Calm e = refl

left_values : (g : ℕ) (us : List (List Said)) → how_many is_said_value (get_or (marked g (map (filter outlives_reset) us)) 0 []) ≤ how_many is_said_value (get_or us 0 [])
left_values g [] = let a = how_many-nil {X = Said} is_said_value in omega (arith, a)
left_values g (u ∷ us) = filtered is_said_value outlives_reset u

-- a link leaves the handshake and the interrupt
linked_bell : (r : DoorRegisters) → ((linked_up r).handshake ≡ r.handshake) × ((linked_up r).ioc2sys ≡ r.ioc2sys)
linked_bell r = by_test (true && not r.hold_reset)
  where
    by_test : (c : Bool)
        → (let k : DoorRegisters = if c then record (record r { reset_adapter = false; link_waits = true }) { state = ioc_state.Ready; link_waits = false } else record r { reset_adapter = false; link_waits = true } in (k.handshake ≡ r.handshake) × (k.ioc2sys ≡ r.ioc2sys))
    by_test true = (refl, refl)
    by_test false = (refl, refl)

module _ (w : World) (h : History) (b : Before w h) (s : StartsStand w) (l : HandshakesStand w) (t : BellOn w h.bell) where
  k : Clock w h
  k = b.facts.clock

  pub record BellGoes (v : World) (es : List Entry) : Type 0 where
    pub holds : BellOn v (state_after bell_next h.bell es)
    pub passes : Passes bell_next BellAsks h.bell es

  -- ---- entries

  told : (v : World) (es : List Entry) → EachEntry IsSteady es → BellOn v h.bell → BellGoes v es
  told v es q r = record { holds = subst (BellOn v) (sym (state_stays IsSteady bell_next BellAsks steady_stays steady_free h.bell es q)) r; passes = passes_over IsSteady bell_next BellAsks steady_stays steady_free h.bell es q }

  behind : (v : World) (e : Entry) (g : Bell) (es : List Entry) → BellAsks h.bell e → bell_next h.bell e ≡ g → EachEntry IsSteady es → BellOn v g → BellGoes v (e ∷ es)
  behind v e g es free is q r =
      record {
        holds = subst (BellOn v) (sym (ap (λ y. state_after bell_next y es) is ∙ state_stays IsSteady bell_next BellAsks steady_stays steady_free g es q)) r;
        passes = (free, subst (λ y. Passes bell_next BellAsks y es) (sym is) (passes_over IsSteady bell_next BellAsks steady_stays steady_free g es q));
      }

  -- ---- the controller, with the host as it is

  abbrev Of : Ioc → Option ℕ
  Of i = first_value (map said_of (up_on w 0) ++ get_or i.up 0 [])

  abbrev OnIoc : Ioc → List Down → Bell → Type 0
  OnIoc i line g = BellHolds w.host.machine w.host.mode i.door.handshake i.door.ioc2sys line (Of i) (first_value (get_or i.up 0 [])) g

  here : OnIoc w.ioc (down_line w) h.bell
  here = t

  -- over a line with the same writes of handshakes, and with the same values on their way
  as_before : (i : Ioc) (line : List Down) → i.door.handshake ≡ w.ioc.door.handshake → i.door.ioc2sys ≡ w.ioc.door.ioc2sys → ((p : Down → Bool) → ((x : Down) → p x ≡ true → is_talk_write x ≡ true) → how_many p line ≡ how_many p (down_line w))
      → Of i ≡ value_coming w → first_value (get_or i.up 0 []) ≡ first_value (outbox_of w.ioc 0) → OnIoc i line h.bell
  as_before i line eh es same c o =
      subst (λ x. BellHolds w.host.machine w.host.mode x i.door.ioc2sys line (Of i) (first_value (get_or i.up 0 [])) h.bell) (sym eh)
      (subst (λ x. BellHolds w.host.machine w.host.mode w.ioc.door.handshake x line (Of i) (first_value (get_or i.up 0 [])) h.bell) (sym es)
      (subst (λ x. BellHolds w.host.machine w.host.mode w.ioc.door.handshake w.ioc.door.ioc2sys line x (first_value (get_or i.up 0 [])) h.bell) (sym c)
      (subst (λ x. BellHolds w.host.machine w.host.mode w.ioc.door.handshake w.ioc.door.ioc2sys line (value_coming w) x h.bell) (sym o)
      (record {
        rung = t.rung;
        used = λ r n. t.used r (subst (λ m. ((is_starting w.host.mode || is_up w.host.mode) || not (m == 0)) ≡ true) (same is_status_write status_of_talk) n);
        ended = λ i2 n. let e = same is_status_write status_of_talk in t.ended i2 (omega (arith, e, n));
        reads = t.reads;
        value = t.value;
        fits = t.fits;
        one = let e = same is_talk_write (λ x y. y) in let z = t.one in omega (arith, e, z);
        opens = λ i2. same is_word_write word_of_talk ∙ t.opens i2;
        heard = t.heard;
      }))))

  -- the front of the lane is none of a handshake
  passed : (x : Down) (rest : List Down) → w.down ≡ x ∷ rest → is_talk_write x ≡ false → (p : Down → Bool) → ((y : Down) → p y ≡ true → is_talk_write y ≡ true) → how_many p (rest ++ w.host.out) ≡ how_many p (down_line w)
  passed x rest e n p f =
      let a = ap (λ xs. how_many p (xs ++ w.host.out)) e in let c = how_many-cons p x (rest ++ w.host.out) in
      let z : one_if (p x) ≡ 0 = ap one_if (by_test (p x) (f x) n) in
      omega (arith, a, c, z)
    where
      by_test : {c : Bool} (d : Bool) → (d ≡ true → c ≡ true) → c ≡ false → d ≡ false
      by_test true g e = sym (g refl) ∙ e
      by_test false g e = refl

  same_line : (p : Down → Bool) → ((x : Down) → p x ≡ true → is_talk_write x ≡ true) → how_many p (down_line w) ≡ how_many p (down_line w)
  same_line p f = refl

  -- ---- a write

  module _ (reg value : ℕ) (rest : List Down) (e : w.down ≡ down.Write reg value ∷ rest) where
    counted : (p : Down → Bool) → how_many p (down_line w) ≡ one_if (p (down.Write reg value)) + how_many p (rest ++ w.host.out)
    counted p = ap (λ xs. how_many p (xs ++ w.host.out)) e ∙ how_many-cons p (down.Write reg value) (rest ++ w.host.out)

    -- a value on its way: the write is one of an index
    index : 1 ≤ how_many is_said_value (up_line w 0) → (reg == REPLY_POST_HOST_INDEX) ≡ true
    index n =
        let z = by_host.flying_quiet w h b s l h.bell t n in let c = counted is_register_write in
        by_test (reg == REPLY_POST_HOST_INDEX) (omega (arith, z, c))
      where
        by_test : (c : Bool) → one_if (not c) ≡ 0 → c ≡ true
        by_test true e = refl
        by_test false e = absurd (omega (arith, e))

    coming_flies : (v : ℕ) → value_coming w ≡ Some v → 1 ≤ how_many is_said_value (up_line w 0)
    coming_flies v c = by_count (how_many is_said_value (up_line w 0)) refl
      where
        by_count : (n : ℕ) → how_many is_said_value (up_line w 0) ≡ n → 1 ≤ how_many is_said_value (up_line w 0)
        by_count zero z = none_some v (sym (no_first (up_line w 0) z) ∙ c)
        by_count (suc n) z = omega (arith, z)

    on_line : (reg == HOST_INTERRUPT_STATUS) ≡ true → 1 ≤ how_many is_status_write (down_line w)
    on_line q = let c = counted is_status_write in let o : one_if (reg == HOST_INTERRUPT_STATUS) ≡ 1 = ap one_if q in omega (arith, c, o)

    or_right : (c d : Bool) → d ≡ true → (c || d) ≡ true
    or_right true d e = refl
    or_right false d e = e

    some_of : (n : ℕ) → 1 ≤ n → not (n == 0) ≡ true
    some_of n g = ap not (ne_eqb n 0 (λ z. omega (arith, z, g)))

    rung : (Resets (register_written w.ioc.door reg value).effect → ⊥) → is_fault (state_of (registers.writes w.ioc reg value).part) ≡ false
        → RungBy reg w.ioc.door.handshake w.ioc.door.ioc2sys h.bell (registers.writes w.ioc reg value).part.door.handshake (registers.writes w.ioc reg value).part.door.ioc2sys (bell_next h.bell (write_taken reg value))
    rung still n =
        write_rung w.ioc h.bell k.phase_table.whole t.fits t.rung reg value
        (λ q r. t.used r (or_right _ _ (some_of _ (on_line q))))
        (λ q i. t.ended i (on_line q))
        (λ i q. quiet i q w.ioc.door.ioc2sys refl) still n
      where
        quiet : is_idle w.ioc.door.handshake ≡ true → is_word_write (down.Write reg value) ≡ true → (c : Bool) → w.ioc.door.ioc2sys ≡ c → c ≡ false
        quiet i q false g = refl
        quiet i q true g =
            let z = t.opens (ap (λ c. c && w.ioc.door.ioc2sys) i ∙ g) in
            let c = counted is_word_write in let o : one_if (is_word_write (down.Write reg value)) ≡ 1 = ap one_if q in
            absurd (omega (arith, z, c, o))

    -- with what it did
    from_rung : (i : Ioc) → i.up ≡ w.ioc.up → RungBy reg w.ioc.door.handshake w.ioc.door.ioc2sys h.bell i.door.handshake i.door.ioc2sys (bell_next h.bell (write_taken reg value)) → OnIoc i (rest ++ w.host.out) (bell_next h.bell (write_taken reg value))
    from_rung i u r =
        subst (λ (y : List (List Said)). BellHolds w.host.machine w.host.mode i.door.handshake i.door.ioc2sys (rest ++ w.host.out) (first_value (map said_of (up_on w 0) ++ get_or y 0 [])) (first_value (get_or y 0 [])) (bell_next h.bell (write_taken reg value))) (sym u)
        (record {
          rung = r.rung;
          used = λ a n. used (r.used a) n;
          ended = λ a n. ended (r.ended a) n;
          reads = subst (ReadsAre (first_value (outbox_of w.ioc 0))) (sym r.reads) t.reads;
          value = λ v n a z o. by_reply v n (r.replies a) z o;
          fits = r.fits;
          one = let c = counted is_talk_write in let z = t.one in omega (arith, c, z);
          opens = λ a. opens (r.ended a);
          heard = λ d y v m a f c. heard v (t.heard d y v m a f c) (index (coming_flies v c));
        })
      where
        talked : (reg == HOST_INTERRUPT_STATUS) ≡ true → how_many is_talk_write (rest ++ w.host.out) ≡ 0
        talked q =
            let c = counted is_talk_write in let z = t.one in
            let o : one_if (is_talk_write (down.Write reg value)) ≡ 1 = ap one_if (status_of_talk (down.Write reg value) q) in
            omega (arith, c, z, o)

        none : (p : Down → Bool) → ((y : Down) → p y ≡ true → is_talk_write y ≡ true) → (reg == HOST_INTERRUPT_STATUS) ≡ true → how_many p (rest ++ w.host.out) ≡ 0
        none p f q = let z = talked q in let a = fewer_pass p is_talk_write f (rest ++ w.host.out) in omega (arith, a, z)

        used : ((bell_next h.bell (write_taken reg value)).used ≡ true) ⊎ ((is_replying w.ioc.door.handshake ≡ true) × (((bell_next h.bell (write_taken reg value)).used ≡ h.bell.used) × ((reg == HOST_INTERRUPT_STATUS) ≡ false)))
            → ((is_starting w.host.mode || is_up w.host.mode) || not (how_many is_status_write (rest ++ w.host.out) == 0)) ≡ true → (bell_next h.bell (write_taken reg value)).used ≡ true
        used (inl q) n = q
        used (inr q) n =
            let c = counted is_status_write in let o : one_if (reg == HOST_INTERRUPT_STATUS) ≡ 0 = ap one_if q.1.1 in
            let g : how_many is_status_write (rest ++ w.host.out) ≡ how_many is_status_write (down_line w) = omega (arith, c, o) in
            q.1.0 ∙ t.used q.0 (subst (λ m. ((is_starting w.host.mode || is_up w.host.mode) || not (m == 0)) ≡ true) g n)

        ended : ((reg == HOST_INTERRUPT_STATUS) ≡ true) ⊎ (((is_idle w.ioc.door.handshake && w.ioc.door.ioc2sys) ≡ true) × ((bell_next h.bell (write_taken reg value)).used ≡ h.bell.used))
            → 1 ≤ how_many is_status_write (rest ++ w.host.out) → (bell_next h.bell (write_taken reg value)).used ≡ false
        ended (inl q) n = let z = none is_status_write status_of_talk q in absurd (omega (arith, n, z))
        ended (inr q) n = let c = counted is_status_write in q.1 ∙ t.ended q.0 (omega (arith, c, n))

        opens : ((reg == HOST_INTERRUPT_STATUS) ≡ true) ⊎ (((is_idle w.ioc.door.handshake && w.ioc.door.ioc2sys) ≡ true) × ((bell_next h.bell (write_taken reg value)).used ≡ h.bell.used)) → how_many is_word_write (rest ++ w.host.out) ≡ 0
        opens (inl q) = none is_word_write word_of_talk q
        opens (inr q) = let c = counted is_word_write in let z = t.opens q.0 in omega (arith, c, z)

        by_reply : (v : ℕ) → (is_starting w.host.mode || is_up w.host.mode) ≡ true → (is_replying w.ioc.door.handshake ≡ true) ⊎ ((reg == DOORBELL) ≡ true) → (bell_next h.bell (write_taken reg value)).reads ≡ None ∷ [] → first_value (outbox_of w.ioc 0) ≡ Some v → has_bit v DOORBELL_USED ≡ true
        by_reply v n (inl q) z o = t.value v n q (sym r.reads ∙ z) o
        by_reply v n (inr q) z o =
            let i = index (by_host.outbox_flies w h b s l h.bell t v o) in
            contrary (reg == DOORBELL) (ap (λ m. m == DOORBELL) (eqb-true reg REPLY_POST_HOST_INDEX i)) q

        heard : (v : ℕ) → IsHeard h.bell v → (reg == REPLY_POST_HOST_INDEX) ≡ true → IsHeard (bell_next h.bell (write_taken reg value)) v
        heard v q i = subst (λ g. IsHeard g v) (sym (index_stays h.bell reg value i)) q

    -- a reset: nothing is on its way, and nothing rings
    forgotten : Resets (register_written w.ioc.door reg value).effect → (j : Ioc) → j ≡ record w.ioc { door = j.door } → OnIoc (forgets j) (rest ++ w.host.out) (silent_bell (bell_next h.bell (write_taken reg value)).reads)
    forgotten r j is =
        record {
          rung = record { rings = refl; dwords = refl; replying = refl };
          used = λ a n. absurd (cc);
          ended = λ a n. absurd (cc);
          reads = subst (λ o. ReadsAre o (bell_next h.bell (write_taken reg value)).reads) (sym outbox) (write_reads h.bell reg value ∙ subst (λ o. ReadsAre o h.bell.reads) (no_first (outbox_of w.ioc 0) unsaid) t.reads);
          value = λ v n a z o. absurd (cc);
          fits = tt;
          one = let c = counted is_talk_write in let z = t.one in omega (arith, c, z);
          opens = λ a. absurd (cc);
          heard = λ d y v m a f c. none_some v (sym coming ∙ c);
        }
      where
        -- a write that resets isn't one of an index
        register : (reg == REPLY_POST_HOST_INDEX) ≡ false
        register = by_index (reg == REPLY_POST_HOST_INDEX) refl
          where
            by_index : (c : Bool) → (reg == REPLY_POST_HOST_INDEX) ≡ c → c ≡ false
            by_index false q = refl
            by_index true q = absurd (by_fault (is_fault w.ioc.door.state) (subst (λ n. Resets (register_written w.ioc.door n value).effect) (eqb-true reg REPLY_POST_HOST_INDEX q) r))
              where
                by_fault : (c : Bool) → Resets (let y : Written = if c then quietly w.ioc.door else quietly (record w.ioc.door { reply_post_host_index = value }) in y.effect) → ⊥
                by_fault true y = y
                by_fault false y = y

        values : how_many is_said_value (up_line w 0) ≡ 0
        values = by_count (how_many is_said_value (up_line w 0)) refl
          where
            by_count : (n : ℕ) → how_many is_said_value (up_line w 0) ≡ n → n ≡ 0
            by_count zero z = refl
            by_count (suc n) z = contrary (reg == REPLY_POST_HOST_INDEX) register (index (omega (arith, z)))

        parts : how_many is_said_value (up_line w 0) ≡ how_many is_said_value (map said_of (up_on w 0)) + how_many is_said_value (outbox_of w.ioc 0)
        parts = how_many-append is_said_value (map said_of (up_on w 0)) (outbox_of w.ioc 0)

        unsaid : how_many is_said_value (outbox_of w.ioc 0) ≡ 0
        unsaid = let p = parts in let z = values in omega (arith, p, z)

        left : how_many is_said_value (get_or (forgets j).up 0 []) ≡ 0
        left =
            let u = ap (λ (y : Ioc). how_many is_said_value (get_or (up_after_reset y) 0 [])) is in
            let z = left_values (next_generation w.ioc) w.ioc.up in let n = unsaid in
            omega (arith, u, z, n)

        outbox : first_value (get_or (forgets j).up 0 []) ≡ None
        outbox = no_first (get_or (forgets j).up 0 []) left

        coming : Of (forgets j) ≡ None
        coming =
            let a = how_many-append is_said_value (map said_of (up_on w 0)) (get_or (forgets j).up 0 []) in let p = parts in let z = values in let n = left in
            no_first (map said_of (up_on w 0) ++ get_or (forgets j).up 0 []) (omega (arith, a, p, z, n))

    wrote : is_fault (state_of (adapter.takes_down w.ioc (down.Write reg value)).part) ≡ false → BellGoes (record w { ioc = (adapter.takes_down w.ioc (down.Write reg value)).part; down = rest }) (entry.Take lane.Down (item.Down (down.Write reg value)) ∷ (adapter.takes_down w.ioc (down.Write reg value)).entries)
    wrote n = by_effect (register_written w.ioc.door reg value).effect refl n
      where
        j : Ioc
        j = record w.ioc { door = (register_written w.ioc.door reg value).registers }

        now : (f : Effect) → (register_written w.ioc.door reg value).effect ≡ f → (Resets f → ⊥) → is_fault (state_of (registers.after_effect j f).part) ≡ false
            → RungBy reg w.ioc.door.handshake w.ioc.door.ioc2sys h.bell (registers.after_effect j f).part.door.handshake (registers.after_effect j f).part.door.ioc2sys (bell_next h.bell (write_taken reg value))
        now f q still z =
            subst (λ g. RungBy reg w.ioc.door.handshake w.ioc.door.ioc2sys h.bell (registers.after_effect j g).part.door.handshake (registers.after_effect j g).part.door.ioc2sys (bell_next h.bell (write_taken reg value))) q
            (rung (λ y. still (subst Resets q y)) (subst (λ g. is_fault (state_of (registers.after_effect j g).part) ≡ false) (sym q) z))

        by_effect : (f : Effect) → (register_written w.ioc.door reg value).effect ≡ f → is_fault (state_of (registers.after_effect j f).part) ≡ false
            → BellGoes (record w { ioc = (registers.after_effect j f).part; down = rest }) (entry.Take lane.Down (item.Down (down.Write reg value)) ∷ (registers.after_effect j f).entries)
        by_effect effect.None q z = record { holds = from_rung j refl (now effect.None q (λ y. y) z); passes = (tt, tt) }
        by_effect (effect.Asked count bytes) q z = record { holds = from_rung (registers.handshakes j (take count bytes)) (up_is (registers.handshakes j (take count bytes)) (leaf.shook j (take count bytes))) (now (effect.Asked count bytes) q (λ y. y) z); passes = (tt, tt) }
          where
            up_is : (i : Ioc) → leaf.Shook j i → i.up ≡ w.ioc.up
            up_is i (leaf.Stays a y) = ap (λ (g : Ioc). g.up) y
            up_is i (leaf.ComesUp r a y) = ap (λ (g : Ioc). g.up) y
        by_effect effect.UnitReset q z = record { holds = forgotten (subst Resets (sym q) tt) j refl; passes = (tt, (tt, tt)) }
        by_effect effect.AdapterReset q z = record { holds = forgotten (subst Resets (sym q) tt) j refl; passes = (tt, (tt, tt)) }
        by_effect (effect.Fault code) q z = absurd (cc)

  -- ---- a read

  module _ (reg : ℕ) (rest : List Down) (e : w.down ≡ down.Read reg ∷ rest) where
    line_is : down_line w ≡ down.Read reg ∷ (rest ++ w.host.out)
    line_is = ap (λ xs. xs ++ w.host.out) e

    no_values : how_many is_said_value (up_line w 0) ≡ 0
    unfolding read_count value_count
    no_values =
        let o = k.one_read.one in let r = at_most w.host.reading in let a = ap (how_many is_read) line_is in let c = how_many-cons is_read (down.Read reg) (rest ++ w.host.out) in
        omega (arith, o, r, a, c)
      where
        at_most : (c : Bool) → one_if c ≤ 1
        at_most true = omega arith
        at_most false = omega arith

    quiet : how_many is_register_write (down_line w) ≡ 0
    unfolding later register_write_count
    quiet =
        let z = later-opened is_read is_register_write (down.Read reg) (rest ++ w.host.out) refl (sym (ap (later is_read is_register_write) line_is) ∙ k.writes_before_read.before) in
        let a = ap (how_many is_register_write) line_is in let c = how_many-cons is_register_write (down.Read reg) (rest ++ w.host.out) in omega (arith, z, a, c)

    unsaid : how_many is_said_value (outbox_of w.ioc 0) ≡ 0
    unsaid = let p = how_many-append is_said_value (map said_of (up_on w 0)) (outbox_of w.ioc 0) in let z = no_values in omega (arith, p, z)

    unread : h.bell.reads ≡ []
    unread = subst (λ o. ReadsAre o h.bell.reads) (no_first (outbox_of w.ioc 0) unsaid) t.reads

    some_queue : nat_lt 0 (length w.ioc.up) ≡ true
    some_queue = let z = b.facts.flights.sizes.some_queue in let o = b.facts.flights.sizes.outboxes in lt-ltb 0 (length w.ioc.up) (omega (arith, z, o))

    outbox : first_value (get_or (say.says_on w.ioc 0 (said.Value (register_value w.ioc.door reg) ∷ [])).up 0 []) ≡ Some (register_value w.ioc.door reg)
    outbox =
        ap first_value (get_or-set_any w.ioc.up 0 0 (outbox_of w.ioc 0 ++ said.Value (register_value w.ioc.door reg) ∷ []) [] ∙ ap (λ c. cond c (outbox_of w.ioc 0 ++ said.Value (register_value w.ioc.door reg) ∷ []) (get_or w.ioc.up 0 [])) some_queue)
        ∙ first_said (outbox_of w.ioc 0) (register_value w.ioc.door reg) unsaid

    waits_for : (d : HostDoor) (x : Reading) → w.host.machine ≡ Some d → d.stage ≡ door_stage.Awaits x → reg ≡ register_of x
    unfolding read_count first_read
    waits_for d x m a =
        let f = subst (WaitsAt w) a (b.facts.doorbell.stage.machine d m) in
        let r1 = ap (how_many is_read) line_is in let r2 = how_many-cons is_read (down.Read reg) (rest ++ w.host.out) in
        same_some reg (register_of x) (sym (ap first_read line_is) ∙ f.2 (omega (arith, r1, r2)))
      where
        same_some : (n m : ℕ) → Some n ≡ Some m → n ≡ m
        same_some n m e = cc

    reads_is : h.bell.reads ++ (if reg == HOST_INTERRUPT_STATUS then Some (status_now h.bell) else None) ∷ [] ≡ (if reg == HOST_INTERRUPT_STATUS then Some (status_now h.bell) else None) ∷ []
    reads_is = ap (λ xs. xs ++ (if reg == HOST_INTERRUPT_STATUS then Some (status_now h.bell) else None) ∷ []) unread

    reads_are : ReadsAre (Some (register_value w.ioc.door reg)) (h.bell.reads ++ (if reg == HOST_INTERRUPT_STATUS then Some (status_now h.bell) else None) ∷ [])
    reads_are = subst (ReadsAre (Some (register_value w.ioc.door reg))) (sym reads_is) (by_status (reg == HOST_INTERRUPT_STATUS) refl)
      where
        status_is : status_now h.bell ≡ register_value w.ioc.door HOST_INTERRUPT_STATUS
        status_is = ap (λ c. if c then IOC2SYS_DB_STATUS else 0) t.rung.rings

        by_status : (c : Bool) → (reg == HOST_INTERRUPT_STATUS) ≡ c → ReadsAre (Some (register_value w.ioc.door reg)) ((if c then Some (status_now h.bell) else None) ∷ [])
        by_status false q = inl refl
        by_status true q = inr (ap (λ n. Some n ∷ []) (status_is ∙ ap (register_value w.ioc.door) (sym (eqb-true reg HOST_INTERRUPT_STATUS q))))

    none_read : (reg == HOST_INTERRUPT_STATUS) ≡ false → h.bell.reads ++ (if reg == HOST_INTERRUPT_STATUS then Some (status_now h.bell) else None) ∷ [] ≡ None ∷ []
    none_read q = reads_is ∙ ap (λ c. (if c then Some (status_now h.bell) else None) ∷ []) q

    of_none : h.bell.reads ++ (if reg == HOST_INTERRUPT_STATUS then Some (status_now h.bell) else None) ∷ [] ≡ None ∷ [] → (reg == HOST_INTERRUPT_STATUS) ≡ false
    of_none z = by_status (reg == HOST_INTERRUPT_STATUS) (sym reads_is ∙ z)
      where
        by_status : (c : Bool) → (if c then Some (status_now h.bell) else None) ∷ [] ≡ None ∷ [] → c ≡ false
        by_status false q = refl
        by_status true q = absurd (cc)

    -- a reply that is read is read by the machine of a handshake, which reads the Doorbell as used
    lit : (is_starting w.host.mode || is_up w.host.mode) ≡ true → is_replying w.ioc.door.handshake ≡ true → (reg == HOST_INTERRUPT_STATUS) ≡ false → has_bit (register_value w.ioc.door reg) DOORBELL_USED ≡ true
    lit n r q = by_host.used_while_read w h b s l h.bell t reg quiet (λ d x m a. waits_for d x m a) n r q

    reads : BellGoes (record w { ioc = (adapter.takes_down w.ioc (down.Read reg)).part; down = rest }) (entry.Take lane.Down (item.Down (down.Read reg)) ∷ [])
    reads =
        record {
          holds = record {
            rung = record { rings = t.rung.rings; dwords = t.rung.dwords; replying = t.rung.replying };
            used = λ r n. t.used r (subst (λ m. ((is_starting w.host.mode || is_up w.host.mode) || not (m == 0)) ≡ true) (passed (down.Read reg) rest e refl is_status_write status_of_talk) n);
            ended = λ a n. let c = passed (down.Read reg) rest e refl is_status_write status_of_talk in t.ended a (omega (arith, c, n));
            reads = subst (λ o. ReadsAre o (h.bell.reads ++ (if reg == HOST_INTERRUPT_STATUS then Some (status_now h.bell) else None) ∷ [])) (sym outbox) reads_are;
            value = λ u n r z o. subst (λ m. has_bit m DOORBELL_USED ≡ true) (same_value u (sym outbox ∙ o)) (lit n r (of_none z));
            fits = t.fits;
            one = let c = passed (down.Read reg) rest e refl is_talk_write (λ x y. y) in let z = t.one in omega (arith, c, z);
            opens = λ a. passed (down.Read reg) rest e refl is_word_write word_of_talk ∙ t.opens a;
            heard = λ d x u m a f c. inl (none_read (ap (λ n. n == HOST_INTERRUPT_STATUS) (waits_for d x m a) ∙ f));
          };
          passes = (tt, tt);
        }
      where
        same_value : (u : ℕ) → Some (register_value w.ioc.door reg) ≡ Some u → register_value w.ioc.door reg ≡ u
        same_value u q = cc

  -- ---- other items of the host

  stays : (x : Down) (rest : List Down) (i : Ioc) → w.down ≡ x ∷ rest → is_talk_write x ≡ false → i.door ≡ w.ioc.door → i.up ≡ w.ioc.up → OnIoc i (rest ++ w.host.out) h.bell
  stays x rest i e n d u =
      as_before i (rest ++ w.host.out) (ap (λ (r : DoorRegisters). r.handshake) d) (ap (λ (r : DoorRegisters). r.ioc2sys) d) (passed x rest e n)
      (ap (λ (y : List (List Said)). first_value (map said_of (up_on w 0) ++ get_or y 0 [])) u) (ap (λ (y : List (List Said)). first_value (get_or y 0 [])) u)

  by_leaf : (x : Down) (rest : List Down) (i : Ioc) → w.down ≡ x ∷ rest → Takes w.ioc x i → is_fault (state_of i) ≡ false → is_talk_write x ≡ false → ((reg value : ℕ) → x ≡ down.Write reg value → ⊥) → ((reg : ℕ) → x ≡ down.Read reg → ⊥) → OnIoc i (rest ++ w.host.out) h.bell
  by_leaf x rest i e (leaf.Faults y j f) n m q r = contrary _ n f
  by_leaf x rest i e (leaf.Written reg value j nr c sa) n m q r = absurd (q reg value refl)
  by_leaf x rest i e (leaf.Operates value j nr c d sa) n m q r = absurd (q _ value refl)
  by_leaf x rest i e (leaf.Forgets reg value d c) n m q r = absurd (q reg value refl)
  by_leaf x rest i e (leaf.Reads reg value) n m q r = absurd (r reg refl)
  by_leaf x rest i e (leaf.Posts d f p j o sa) n m q r = stays x rest i e m (ap (λ (y : Ioc). y.door) sa) (ap (λ (y : Ioc). y.up) sa)
  by_leaf x rest i e (leaf.DropsPost d f p o) n m q r = stays x rest w.ioc e m refl refl
  by_leaf x rest i e (leaf.Returns address index j o sa) n m q r = stays x rest i e m (ap (λ (y : Ioc). y.door) sa) (ap (λ (y : Ioc). y.up) sa)
  by_leaf x rest i e (leaf.DropsReturn address index o) n m q r = stays x rest w.ioc e m refl refl
  by_leaf x rest i e leaf.Stops n m q r = stays x rest i e m refl refl

  taken : (x : Down) (rest : List Down) → w.down ≡ x ∷ rest → is_fault (state_of (adapter.takes_down w.ioc x).part) ≡ false → BellGoes (record w { ioc = (adapter.takes_down w.ioc x).part; down = rest }) (entry.Take lane.Down (item.Down x) ∷ (adapter.takes_down w.ioc x).entries)
  taken (down.Write reg value) rest e n = wrote reg value rest e n
  taken (down.Read reg) rest e n = reads reg rest e
  taken (down.Post d f p) rest e n = behind _ _ h.bell [] tt refl tt (by_leaf (down.Post d f p) rest (adapter.takes_down w.ioc (down.Post d f p)).part e (takes w.ioc s.nothing_holds.waits k.phase_table.whole (down.Post d f p)) n refl (at.post_no_write d f p) (post_no_read d f p))
    where
      post_no_read : (d : ℕ) (f p : List ℕ) (reg : ℕ) → down.Post d f p ≡ down.Read reg → ⊥
      post_no_read d f p reg e = cc
  taken (down.Return address index) rest e n =
      behind _ _ h.bell [] tt refl tt (by_leaf (down.Return address index) rest (adapter.takes_down w.ioc (down.Return address index)).part e (takes w.ioc s.nothing_holds.waits k.phase_table.whole (down.Return address index)) n refl (at.return_no_write address index) (return_no_read address index))
    where
      return_no_read : (a i reg : ℕ) → down.Return a i ≡ down.Read reg → ⊥
      return_no_read a i reg e = cc
  taken down.Stop rest e n = behind _ _ h.bell [] tt refl tt (by_leaf down.Stop rest (adapter.takes_down w.ioc down.Stop).part e (takes w.ioc s.nothing_holds.waits k.phase_table.whole down.Stop) n refl at.stop_no_write stop_no_read)
    where
      stop_no_read : (reg : ℕ) → down.Stop ≡ down.Read reg → ⊥
      stop_no_read reg e = cc

  -- ---- what the controller does by itself

  by_words : (test : Out → Bool) (i : Ioc) → IocSpeaks test w.ioc i → OnIoc i (down_line w) h.bell
  by_words test i g =
      let q = g.says 0 in
      let n = none_passes is_reply is_said_value reply_no_value q.added q.mild in
      as_before i (down_line w) (ap (λ (r : DoorRegisters). r.handshake) g.door_is) (ap (λ (r : DoorRegisters). r.ioc2sys) g.door_is) same_line
      (ap (λ ys. first_value (map said_of (up_on w 0) ++ ys)) q.is ∙ (ap first_value (sym (append_assoc (map said_of (up_on w 0)) (get_or w.ioc.up 0 []) q.added)) ∙ first_before (up_line w 0) q.added n))
      (ap first_value q.is ∙ first_before (get_or w.ioc.up 0 []) q.added n)

  told_back : (x : Back) (o : Happening Ioc) → News never_out w.ioc x o → OnIoc o.part (down_line w) h.bell
  told_back x o (SpeaksBack n g) = by_words never_out o.part g
  told_back x o (Unlinked n i z e) = subst (λ (y : Happening Ioc). OnIoc y.part (down_line w) h.bell) (sym e) here
  told_back x o (LinkedUp n i g r e) = subst (λ (y : Happening Ioc). OnIoc y.part (down_line w) h.bell) (sym e) (let d = linked_bell w.ioc.door in as_before (record w.ioc { door = linked_up w.ioc.door }) (down_line w) d.0 d.1 same_line refl refl)
  told_back x o (CalmTold i e) =
      subst (λ (y : Happening Ioc). OnIoc y.part (down_line w) h.bell) (sym e)
      (as_before (say.says_on w.ioc 0 (said.Calm ∷ [])) (down_line w) refl refl same_line
      (changes.said_of_more w.up w.ioc.up 0 0 (λ xs. first_value xs ≡ value_coming w) (said.Calm ∷ []) (λ xs f. first_before xs (said.Calm ∷ []) calm_none ∙ f) refl)
      (changes.said_of_more [] w.ioc.up 0 0 (λ xs. first_value xs ≡ first_value (outbox_of w.ioc 0)) (said.Calm ∷ []) (λ xs f. first_before xs (said.Calm ∷ []) calm_none ∙ f) refl))
    where
      calm_none : how_many is_said_value (said.Calm ∷ []) ≡ 0
      calm_none = let c = how_many-cons is_said_value said.Calm [] in let n = how_many-nil {X = Said} is_said_value in omega (arith, c, n)

  -- ---- an item is put up

  module _ (queue : ℕ) (y : Said) (rest : List Said) (z : Up) (e : outbox_of w.ioc queue ≡ y ∷ rest) (g : up_of y (slice_get w.ioc.ring 0) ≡ Some z) where
    coming_is : value_coming (with_up (record w { ioc = up_sent_on w.ioc queue }) queue (up_on w queue ++ z ∷ [])) ≡ value_coming w
    coming_is = changes.put_of w.up w.ioc.up queue 0 (λ xs. first_value xs ≡ value_coming w) y rest z e (b.facts.flights.sizes.lanes ∙ sym b.facts.flights.sizes.outboxes) (λ xs ys f. sym (first_put y (slice_get w.ioc.ring 0) z g xs ys) ∙ f) refl

    -- what is left in the first outbox
    outbox_is : get_or (up_sent_on w.ioc queue).up 0 [] ≡ cond (0 == queue) rest (outbox_of w.ioc 0)
    outbox_is =
        get_or-set_any w.ioc.up queue 0 (drop 1 (outbox_of w.ioc queue)) []
        ∙ (ap (λ c. cond (0 == queue) (cond c (drop 1 (outbox_of w.ioc queue)) (get_or w.ioc.up 0 [])) (get_or w.ioc.up 0 [])) (changes.within w.ioc.up queue y rest e)
        ∙ ap (λ xs. cond (0 == queue) (drop 1 xs) (get_or w.ioc.up 0 [])) e)

    here_put : (0 == queue) ≡ true → outbox_of w.ioc 0 ≡ y ∷ rest
    here_put q = ap (outbox_of w.ioc) (eqb-true 0 queue q) ∙ e

    -- with another rule's state
    sent_on : (c : Bell) → BellHolds w.host.machine w.host.mode w.ioc.door.handshake w.ioc.door.ioc2sys (down_line w) (value_coming w) (first_value (cond (0 == queue) rest (outbox_of w.ioc 0))) c → BellOn (with_up (record w { ioc = up_sent_on w.ioc queue }) queue (up_on w queue ++ z ∷ [])) c
    sent_on c p =
        subst (λ o. BellHolds w.host.machine w.host.mode w.ioc.door.handshake w.ioc.door.ioc2sys (down_line w) o (first_value (get_or (up_sent_on w.ioc queue).up 0 [])) c) (sym coming_is)
        (subst (λ xs. BellHolds w.host.machine w.host.mode w.ioc.door.handshake w.ioc.door.ioc2sys (down_line w) (value_coming w) (first_value xs) c) (sym outbox_is) p)

    plain_put : is_said_value y ≡ false → BellAsks h.bell (entry.Put (up_lane queue) (item.Up z)) → bell_next h.bell (entry.Put (up_lane queue) (item.Up z)) ≡ h.bell
        → BellGoes (with_up (record w { ioc = up_sent_on w.ioc queue }) queue (up_on w queue ++ z ∷ [])) (entry.Put (up_lane queue) (item.Up z) ∷ [])
    plain_put n free is =
        behind _ _ h.bell [] free is tt
        (sent_on h.bell (subst (λ o. BellHolds w.host.machine w.host.mode w.ioc.door.handshake w.ioc.door.ioc2sys (down_line w) (value_coming w) o h.bell) (by_queue (0 == queue) refl) t))
      where
        by_queue : (c : Bool) → (0 == queue) ≡ c → first_value (outbox_of w.ioc 0) ≡ first_value (cond c rest (outbox_of w.ioc 0))
        by_queue false q = refl
        by_queue true q = ap first_value (here_put q) ∙ first_pass y rest n

  value_put : (queue v : ℕ) (rest : List Said) → outbox_of w.ioc queue ≡ said.Value v ∷ rest → (0 == queue) ≡ true → BellGoes (with_up (record w { ioc = up_sent_on w.ioc queue }) queue (up_on w queue ++ upward.Value v ∷ [])) (entry.Put (up_lane queue) (item.Up (upward.Value v)) ∷ [])
  unfolding first_value
  value_put queue v rest e q = by_reads h.bell.reads refl (subst (λ o. ReadsAre o h.bell.reads) first t.reads)
    where
      first : first_value (outbox_of w.ioc 0) ≡ Some v
      first = ap first_value (here_put queue (said.Value v) rest (upward.Value v) e refl q)

      left : how_many is_said_value rest ≡ 0
      left = by_host.value_alone w h b s l h.bell t v rest (here_put queue (said.Value v) rest (upward.Value v) e refl q)

      gone : first_value (cond (0 == queue) rest (outbox_of w.ioc 0)) ≡ None
      gone = ap (λ c. first_value (cond c rest (outbox_of w.ioc 0))) q ∙ no_first rest left

      -- the rule has heard of it
      holds : (c : Bell) → c ≡ record h.bell { reads = []; used = c.used } → ((h.bell.reads ≡ None ∷ [] × (c.used ≡ has_bit v DOORBELL_USED)) ⊎ ((h.bell.reads ≡ Some v ∷ []) × (c.used ≡ h.bell.used)))
          → BellHolds w.host.machine w.host.mode w.ioc.door.handshake w.ioc.door.ioc2sys (down_line w) (value_coming w) None c
      holds c is u =
          record {
            rung = subst (Rung w.ioc.door.handshake w.ioc.door.ioc2sys) (sym is) (record { rings = t.rung.rings; dwords = t.rung.dwords; replying = t.rung.replying });
            used = λ r n. used u r n;
            ended = λ a n. absurd (written a n);
            reads = ap (λ (x : Bell). x.reads) is;
            value = λ m n r z o. none_some m o;
            fits = t.fits;
            one = t.one;
            opens = t.opens;
            heard = λ d x m a f y g. heard u d x m a f y g;
          }
        where
          -- no register is written meanwhile
          unwritten : how_many is_status_write (down_line w) ≡ 0
          unwritten =
              let z = by_host.talkless w h b s l h.bell t (by_host.flying_quiet w h b s l h.bell t (by_host.outbox_flies w h b s l h.bell t v first)) in
              let a = fewer_pass is_status_write is_talk_write status_of_talk (down_line w) in omega (arith, z, a)

          written : (is_idle w.ioc.door.handshake && w.ioc.door.ioc2sys) ≡ true → 1 ≤ how_many is_status_write (down_line w) → ⊥
          written a n = let z = unwritten in omega (arith, n, z)

          normal : (m : ℕ) → m ≡ 0 → (c : Bool) → (c || not (m == 0)) ≡ true → c ≡ true
          normal m z true y = refl
          normal m z false y = absurd (false≢true (sym (ap (λ n. not (n == 0)) z) ∙ y))

          used : ((h.bell.reads ≡ None ∷ [] × (c.used ≡ has_bit v DOORBELL_USED)) ⊎ ((h.bell.reads ≡ Some v ∷ []) × (c.used ≡ h.bell.used))) → is_replying w.ioc.door.handshake ≡ true → ((is_starting w.host.mode || is_up w.host.mode) || not (how_many is_status_write (down_line w) == 0)) ≡ true → c.used ≡ true
          used (inl y) r n = y.1 ∙ t.value v (normal _ unwritten _ n) r y.0 first
          used (inr y) r n = y.1 ∙ t.used r n

          heard : ((h.bell.reads ≡ None ∷ [] × (c.used ≡ has_bit v DOORBELL_USED)) ⊎ ((h.bell.reads ≡ Some v ∷ []) × (c.used ≡ h.bell.used))) → (d : HostDoor) (x : Reading) (m : ℕ) → w.host.machine ≡ Some d → d.stage ≡ door_stage.Awaits x → (register_of x == HOST_INTERRUPT_STATUS) ≡ false → value_coming w ≡ Some m → IsHeard c m
          heard (inl y) d x m a f z g = inr (ap (λ (k : Bell). k.reads) is, y.1 ∙ ap (λ n. has_bit n DOORBELL_USED) (by_host.only_value w h b s l h.bell t v m first g))
          heard (inr y) d x m a f z g = absurd (unheard (t.heard d x m a f z g))
            where
              unheard : IsHeard h.bell m → ⊥
              unheard (inl q) = no_some v h.bell.reads y.0 q
              unheard (inr q) = no_list v h.bell.reads y.0 q.0

      by_reads : (xs : List (Option ℕ)) → h.bell.reads ≡ xs → ReadsAre (Some v) h.bell.reads → BellGoes (with_up (record w { ioc = up_sent_on w.ioc queue }) queue (up_on w queue ++ upward.Value v ∷ [])) (entry.Put (up_lane queue) (item.Up (upward.Value v)) ∷ [])
      by_reads xs r (inl n) =
          record {
            holds = sent_on queue (said.Value v) rest (upward.Value v) e refl _ (subst (λ o. BellHolds w.host.machine w.host.mode w.ioc.door.handshake w.ioc.door.ioc2sys (down_line w) (value_coming w) o (bell_next h.bell (entry.Put (up_lane queue) (item.Up (upward.Value v))))) (sym gone)
                (holds (bell_next h.bell (entry.Put (up_lane queue) (item.Up (upward.Value v)))) (answered_none v (up_lane queue) h.bell n).0 (inl (n, (answered_none v (up_lane queue) h.bell n).1))));
            passes = (subst (λ ys. IsStatus ys v) (sym n) tt, tt);
          }
      by_reads xs r (inr n) =
          record {
            holds = sent_on queue (said.Value v) rest (upward.Value v) e refl _ (subst (λ o. BellHolds w.host.machine w.host.mode w.ioc.door.handshake w.ioc.door.ioc2sys (down_line w) (value_coming w) o (bell_next h.bell (entry.Put (up_lane queue) (item.Up (upward.Value v))))) (sym gone)
                (holds (bell_next h.bell (entry.Put (up_lane queue) (item.Up (upward.Value v)))) (answered_some v (up_lane queue) h.bell n).0 (inr (n, (answered_some v (up_lane queue) h.bell n).1))));
            passes = (subst (λ ys. IsStatus ys v) (sym n) refl, tt);
          }

  value_none : (queue : ℕ) → 1 ≤ queue → how_many is_said_value (up_line w queue) ≡ 0
  unfolding value_count
  value_none queue o = k.one_read.above queue o

  ioc_puts : (queue : ℕ) (y : Said) (rest : List Said) (z : Up) → outbox_of w.ioc queue ≡ y ∷ rest → up_of y (slice_get w.ioc.ring 0) ≡ Some z
      → BellGoes (with_up (record w { ioc = up_sent_on w.ioc queue }) queue (up_on w queue ++ z ∷ [])) (entry.Put (up_lane queue) (item.Up z) ∷ [])
  ioc_puts queue (said.Value v) rest z e u = let q : upward.Value v ≡ z = cc in subst (λ x. BellGoes (with_up (record w { ioc = up_sent_on w.ioc queue }) queue (up_on w queue ++ x ∷ [])) (entry.Put (up_lane queue) (item.Up x) ∷ [])) q (value_put queue v rest e (first queue e))
    where
      -- values are said on the first queue alone
      first : (queue : ℕ) → outbox_of w.ioc queue ≡ said.Value v ∷ rest → (0 == queue) ≡ true
      first zero e = refl
      first (suc n) e =
          let o = value_none (suc n) (omega arith) in
          let c = how_many-append is_said_value (map said_of (up_on w (suc n))) (outbox_of w.ioc (suc n)) in
          let a = ap (how_many is_said_value) e in let d = how_many-cons is_said_value (said.Value v) rest in
          absurd (omega (arith, o, c, a, d))
  ioc_puts queue (said.Mark generation) rest z e u = let q : upward.Mark generation ≡ z = cc in subst (λ x. BellGoes (with_up (record w { ioc = up_sent_on w.ioc queue }) queue (up_on w queue ++ x ∷ [])) (entry.Put (up_lane queue) (item.Up x) ∷ [])) q (plain_put queue (said.Mark generation) rest (upward.Mark generation) e refl refl tt refl)
  ioc_puts queue said.Calm rest z e u = let q : upward.Calm ≡ z = cc in subst (λ x. BellGoes (with_up (record w { ioc = up_sent_on w.ioc queue }) queue (up_on w queue ++ x ∷ [])) (entry.Put (up_lane queue) (item.Up x) ∷ [])) q (plain_put queue said.Calm rest upward.Calm e refl refl tt refl)
  ioc_puts queue (said.Success smid page sense) rest z e u = by_item z u
    where
      by_item : (z : Up) → up_of (said.Success smid page sense) (slice_get w.ioc.ring 0) ≡ Some z → BellGoes (with_up (record w { ioc = up_sent_on w.ioc queue }) queue (up_on w queue ++ z ∷ [])) (entry.Put (up_lane queue) (item.Up z) ∷ [])
      by_item (upward.Reply d f p x) u = plain_put queue (said.Success smid page sense) rest (upward.Reply d f p x) e u refl tt refl
      by_item (upward.Value v) u = absurd (cc)
      by_item (upward.Mark g) u = absurd (cc)
      by_item upward.Calm u = absurd (cc)
  ioc_puts queue (said.Framed smid frame page sense) rest z e u = by_ring (slice_get w.ioc.ring 0) refl z u
    where
      by_ring : (o : Option ℕ) → slice_get w.ioc.ring 0 ≡ o → (z : Up) → up_of (said.Framed smid frame page sense) o ≡ Some z → BellGoes (with_up (record w { ioc = up_sent_on w.ioc queue }) queue (up_on w queue ++ z ∷ [])) (entry.Put (up_lane queue) (item.Up z) ∷ [])
      by_ring None r z u = absurd (cc)
      by_ring (Some n) r (upward.Reply d f p x) u = plain_put queue (said.Framed smid frame page sense) rest (upward.Reply d f p x) e (ap (up_of (said.Framed smid frame page sense)) r ∙ u) refl tt refl
      by_ring (Some n) r (upward.Value v) u = absurd (cc)
      by_ring (Some n) r (upward.Mark g) u = absurd (cc)
      by_ring (Some n) r upward.Calm u = absurd (cc)

  -- ---- the host

  took : (queue : ℕ) (x : Up) (rest : List Up) → up_on w queue ≡ x ∷ rest → why_strange w.host queue x ≡ None → (y : Host) → AtDoor w y (is_value (heard_of queue x)) → BellOn (record (with_up w queue rest) { host = y }) h.bell
  took queue x rest e why y g = by_host.host w h b s l h.bell t (value_coming (with_up w queue rest)) y (is_value (heard_of queue x)) g same none
    where
      same : is_value (heard_of queue x) ≡ false → value_coming (with_up w queue rest) ≡ value_coming w
      same n = changes.taken_of w.up w.ioc.up queue 0 (λ xs. first_value xs ≡ value_coming w) x rest e (λ xs f. sym (first_pass (said_of x) xs (sym (value_heard queue x) ∙ n)) ∙ f) refl

      nothing : (c : Bool) (n : ℕ) → n ≡ 0 → cond c n 0 ≡ n
      nothing true n e = refl
      nothing false n e = sym e

      on_queue : (z : Up) → why_strange w.host queue z ≡ None → cond (0 == queue) (one_if (is_said_value (said_of z))) 0 ≡ one_if (is_said_value (said_of z))
      on_queue (upward.Value v) q = let d = (value_is_due w queue v q).0 in ap (λ n. cond (0 == n) 1 0) d
      on_queue (upward.Reply d None p t2) q = nothing (0 == queue) 0 refl
      on_queue (upward.Reply d (Some g2) p t2) q = nothing (0 == queue) 0 refl
      on_queue (upward.Mark g2) q = nothing (0 == queue) 0 refl
      on_queue upward.Calm q = nothing (0 == queue) 0 refl

      none : how_many is_said_value (up_line w 0) ≡ one_if (is_value (heard_of queue x)) → value_coming (with_up w queue rest) ≡ None
      none n =
          let a = lines.taken is_said_value w.up w.ioc.up queue 0 x rest e in let c = on_queue x why in let vh = ap one_if (value_heard queue x) in
          no_first (up_line (with_up w queue rest) 0) (omega (arith, a, c, vh, n))

  by_call : (y : Host) → AtDoor w y false → BellOn (record w { host = y }) h.bell
  by_call y g = by_host.host w h b s l h.bell t (value_coming w) y false g (λ e. refl) (λ e. no_first (up_line w 0) e)

  put : (x : Down) (rest : List Down) → w.host.out ≡ x ∷ rest → BellOn (record w { host = after_sent w.host x rest; down = w.down ++ x ∷ [] }) h.bell
  put x rest e = by_item x (append_assoc w.down (x ∷ []) rest ∙ ap (λ xs. w.down ++ xs) (sym e))
    where
      on : (xs : List Down) → xs ≡ down_line w → BellHolds w.host.machine w.host.mode w.ioc.door.handshake w.ioc.door.ioc2sys xs (value_coming w) (first_value (outbox_of w.ioc 0)) h.bell
      on xs f = subst (λ ys. BellHolds w.host.machine w.host.mode w.ioc.door.handshake w.ioc.door.ioc2sys ys (value_coming w) (first_value (outbox_of w.ioc 0)) h.bell) (sym f) t

      by_item : (y : Down) → (w.down ++ x ∷ []) ++ rest ≡ down_line w → BellOn (record w { host = after_sent w.host y rest; down = w.down ++ x ∷ [] }) h.bell
      by_item (down.Return address index) f = on _ f
      by_item (down.Write reg value) f = on _ f
      by_item (down.Read reg) f = on _ f
      by_item (down.Post d g q) f = on _ f
      by_item down.Stop f = on _ f

  up_taken : (queue : ℕ) (x : Up) → (BellAsks h.bell (entry.Take (up_lane queue) (item.Up x))) × (bell_next h.bell (entry.Take (up_lane queue) (item.Up x)) ≡ h.bell)
  up_taken zero x = (tt, refl)
  up_taken (suc queue) x = (tt, refl)

  -- ---- each case

  abbrev Kept : World → List Entry → Type 0
  Kept v es = is_fault (state_of v.ioc) ≡ false → BellGoes v es

  owed : OwesTold Kept w
  owed =
      record {
        idles = λ c n. told w (entry.Idle c ∷ []) (tt, tt) t;
        host_puts = λ x rest e n. behind _ _ h.bell [] tt refl tt (put x rest e);
        host_takes = λ queue x rest e y n. behind _ _ h.bell _ (up_taken queue x).0 (up_taken queue x).1 (steady_item w.host queue x) (took queue x rest e y (Rattle.mpt_rules.specs.Host.Takes.hears_up w.host queue x).part (at.took w h b queue x rest e y));
        host_told = λ i q n. told _ _ (steady_input w.host i) (by_call (Rattle.mpt_rules.specs.World.Inputs.host_told w.host i).part (at.told w h b i q));
        host_looks = λ e n. told _ [] tt (by_call (Rattle.mpt_rules.specs.Host.Takes.looks w.host) (at.looked w h b e));
        host_stops = λ e n. told _ [] tt (by_call (Rattle.mpt_rules.specs.Host.Takes.stops w.host) (at.stopped w h b));
        no_session = λ n. told w [] tt t;
        ioc_takes = λ x rest e n. taken x rest e n;
        ioc_high = λ p rest e n. told _ _ (steady_work _ p) (by_words is_asked_out (ioc_step.works_on (record w.ioc { high = rest }) p).part (high_words w h b p rest));
        ioc_normal = λ p rest e n. told _ _ (steady_work _ p) (by_words is_asked_out (ioc_step.works_on (record w.ioc { normal = rest }) p).part (normal_words w h b p rest));
        ioc_puts_out = λ x rest e n. behind _ _ h.bell [] tt refl tt t;
        ioc_takes_back = λ x rest e n. behind _ _ h.bell _ tt refl (steady_back w.ioc x) (told_back x (adapter.takes_back w.ioc x) (news never_out w.ioc x));
        ioc_puts = λ queue y rest z e g n. ioc_puts queue y rest z e g;
        fabric_takes = λ x rest e n. behind _ _ h.bell [] tt refl tt t;
        fabric_says = λ x rest e n. told _ [] tt t;
        fabric_puts = λ x rest e n. behind _ _ h.bell [] tt refl tt t;
        fabric_runs = λ tag address e n. told _ (entry.Run address tag ∷ []) (tt, tt) t;
        plugs = λ address expander phy es q n. told _ es (steady_plug es q) t;
        unplugs = λ address es q n. told _ es (steady_plug es q) t;
        calms = λ n. told _ [] tt t;
      }

  pub bell_goes : (c : Case) → BellGoes (happens w c) (entries w c)
  bell_goes c = kept_told Kept w b.plain owed c (whole_kept w h b.facts b.plain c)
