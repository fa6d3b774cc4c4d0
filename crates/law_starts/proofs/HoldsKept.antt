-- Each case keeps that nothing holds a reset.
use Rattle.std.proofs.Common.{◌≡◌, ℕ, ◌+◌, ◌≤◌, ◌==◌, ◌&&◌, ◌||◌, ◌⊎◌, inl, inr, not, cond, if◌then◌else◌, nat_lt, Bool, true, false, List, [], ◌∷◌, ◌++◌, map, length, get_or, set, slice_set, take, Option, Some, None, refl, ap, sym, ◌∙◌, subst, arith, append_assoc}
use Rattle.std.specs.List.{filter}
use Rattle.mpi_doorbell.specs.Bytes.{has}
use Rattle.mpi_doorbell.specs.DoorRegisters.{is_fault, register_value, register_written}
use Rattle.mpi_doorbell.specs.HostDoor.{HostDoor}
use Rattle.mpi_doorbell.specs.declared.effect.Effect.{Effect}
use Rattle.mpi_doorbell.specs.declared.effect.Effect.TheVariants as effect
use Rattle.mpi_doorbell.specs.declared.registers.TheConstants.{DIAG_HOLD_IOC_RESET, HOST_DIAGNOSTIC, REPLY_POST_HOST_INDEX}
use Rattle.mpi_doorbell.specs.declared.stage.Reading.{Reading}
use Rattle.mpi_doorbell.specs.declared.stage.Reading.TheVariants as reading
use Rattle.mpi_doorbell.specs.declared.stage.Stage.TheVariants as door_stage
use Rattle.mpt_trace.specs.declared.item.Back.{Back}
use Rattle.mpt_trace.specs.declared.item.Down.{Down}
use Rattle.mpt_trace.specs.declared.item.Down.TheVariants as down
use Rattle.mpt_trace.specs.declared.item.Out.{Out}
use Rattle.mpt_trace.specs.declared.item.Up.{Up}
use Rattle.mpt_trace.specs.declared.item.Up.TheVariants as upward
use Rattle.mpt_rules.specs.declared.said.Said.{Said}
use Rattle.mpt_rules.specs.declared.said.Said.TheVariants as said
use Rattle.mpt_rules.specs.declared.stage.Stage.{Stage}
use Rattle.mpt_rules.specs.World.Cases.{Case, happens}
use Rattle.mpt_rules.specs.World.Counts.{how_many, one_if, read_count}
use Rattle.mpt_rules.specs.Host.Doorbell as door
use Rattle.mpt_rules.specs.Host.Doorbell.{next_turn}
use Rattle.mpt_rules.specs.Host.Parts.{Host}
use Rattle.mpt_rules.specs.Host.Resets as resets
use Rattle.mpt_rules.specs.Host.Returns.{after_sent}
use Rattle.mpt_rules.specs.Host.Strange.{why_strange}
use Rattle.mpt_rules.specs.Ioc.Parts.{Ioc, state_of}
use Rattle.mpt_rules.specs.Ioc.Registers as registers
use Rattle.mpt_rules.specs.Ioc.Replies as say
use Rattle.mpt_rules.specs.Ioc.Resets.{marked, next_generation, outlives_reset, up_after_reset}
use Rattle.mpt_rules.specs.Ioc.Sending.{up_of, up_sent_on}
use Rattle.mpt_rules.specs.Ioc.Steps as ioc_step
use Rattle.mpt_rules.specs.Ioc.Takes as adapter
use Rattle.mpt_rules.specs.Outcome.{Happening}
use Rattle.mpt_rules.specs.World.Lines.{down_line, said_of, up_line}
use Rattle.mpt_rules.specs.World.State.{World, up_on, with_up}
use Rattle.mpt_rules.specs.World.Weight.{is_read, is_said_value}
use Rattle.mpt_rules.proofs.Counts.{how_many-append}
use Rattle.law_facts.specs.Clock.{Clock}
use Rattle.law_facts.specs.DoorAhead.{door_ahead, first_read}
use Rattle.law_facts.specs.History.{History}
use Rattle.law_facts.specs.Words.{is_reply}
use Rattle.law_moves.proofs.Cases.{Owes, kept}
use Rattle.law_moves.proofs.Counted.{fewer_pass, filtered, grown-count, how_many-cons, how_many-nil, none_passes}
use Rattle.law_moves.proofs.HostGoes.{heard_of, is_value, value_heard, value_is_due}
use Rattle.law_moves.proofs.IocSpeaks.{CalmTold, IocSpeaks, LinkedUp, News, Speaks as SpeaksBack, Unlinked, is_asked_out, never_out, news}
use Rattle.law_moves.proofs.IocTakes as leaf
use Rattle.law_moves.proofs.IocTakes.{Takes, takes}
use Rattle.law_moves.proofs.UpLines as lines
use Rattle.law_clock.specs.Premises.{Before}
use Rattle.law_clock.proofs.PhaseKept.{high_words, normal_words}
use Rattle.law_doors.proofs.Whole.{whole_kept}
use Rattle.law_starts.specs.Starts.{NothingHolds, is_hold_value, is_hold_write}
use Rattle.law_starts.proofs.HostAtDoor as at
use Rattle.law_starts.proofs.HostAtDoor.{Asked, AtDoor, Beginning, Begins, Diagnostic, Drops, Free, FromOff, GivesUp, HasValue, Keeps, Late, Looked, Marked, MessageUnit, Next, Opened, Readied, Renewed, ResetMachine, Turns, base_begun, begins_is, heard, is_plain, over, spoken_plain}
use Rattle.law_starts.proofs.Unheld.{Unheld, diagnostic_unheld, keys_unheld, look_unheld, talk_unheld, turn_unheld, unheld_ahead, unheld_answers, unheld_stays, unit_unheld}

plain_unheld : (x : Down) → is_plain x ≡ true → is_hold_write x ≡ false
plain_unheld (down.Write reg value) e = let q = Rattle.std.proofs.lemmas.Bool.eqb-true reg REPLY_POST_HOST_INDEX e in ap (λ n. (n == HOST_DIAGNOSTIC) && has value DIAG_HOLD_IOC_RESET) q
plain_unheld (down.Read reg) e = refl
plain_unheld (down.Post d f p) e = refl
plain_unheld (down.Return a i) e = refl
plain_unheld down.Stop e = refl

hold_is_value : (x : Said) → is_hold_value x ≡ true → is_said_value x ≡ true
hold_is_value (said.Value v) e = refl
hold_is_value (said.Success s p q) e = absurd (cc)
hold_is_value (said.Framed s f p q) e = absurd (cc)
hold_is_value (said.Mark m) e = absurd (cc)
hold_is_value said.Calm e = absurd (cc)

reply_no_hold : (x : Said) → is_reply x ≡ true → is_hold_value x ≡ false
reply_no_hold (said.Value v) e = absurd (cc)
reply_no_hold (said.Success s p q) e = refl
reply_no_hold (said.Framed s f p q) e = refl
reply_no_hold (said.Mark m) e = refl
reply_no_hold said.Calm e = refl

-- an item is on its lane what it was in its outbox
put_hold : (y : Said) (free : Option ℕ) (z : Up) → up_of y free ≡ Some z → is_hold_value (said_of z) ≡ is_hold_value y
put_hold (said.Value v) free z e = let f : upward.Value v ≡ z = cc in subst (λ x. is_hold_value (said_of x) ≡ has v DIAG_HOLD_IOC_RESET) f refl
put_hold (said.Mark m) free z e = let f : upward.Mark m ≡ z = cc in subst (λ x. is_hold_value (said_of x) ≡ false) f refl
put_hold said.Calm free z e = let f : upward.Calm ≡ z = cc in subst (λ x. is_hold_value (said_of x) ≡ false) f refl
put_hold (said.Success smid page sense) free z e = plain z e
  where
    plain : (z : Up) → up_of (said.Success smid page sense) free ≡ Some z → is_hold_value (said_of z) ≡ false
    plain (upward.Reply d (Some b) page2 sense2) e = refl
    plain (upward.Reply d None page2 sense2) e = refl
    plain (upward.Value v) e = absurd (cc)
    plain (upward.Mark m) e = refl
    plain upward.Calm e = refl
put_hold (said.Framed smid frame page sense) None z e = absurd (cc)
put_hold (said.Framed smid frame page sense) (Some f) z e = framed z e
  where
    framed : (z : Up) → up_of (said.Framed smid frame page sense) (Some f) ≡ Some z → is_hold_value (said_of z) ≡ false
    framed (upward.Reply d (Some b) page2 sense2) e = refl
    framed (upward.Reply d None page2 sense2) e = refl
    framed (upward.Value v) e = absurd (cc)
    framed (upward.Mark m) e = refl
    framed upward.Calm e = refl

-- a reset leaves no more on queue 0
left_held : (g : ℕ) (up : List (List Said)) → how_many is_hold_value (get_or (marked g (map (filter outlives_reset) up)) 0 []) ≤ how_many is_hold_value (get_or up 0 [])
left_held g [] = omega arith
left_held g (u ∷ us) = filtered is_hold_value outlives_reset u

-- a machine's writes are none of them, nor those of its beginning
base_unheld : {w : World} {h : Host} {s : Stage} {d : HostDoor} {t : Bool} → Beginning w h s d t → how_many is_hold_write (next_turn d None).writes ≡ 0
base_unheld (FromOff m) = look_unheld
base_unheld (Free m r) = look_unheld
base_unheld (Asked s d Diagnostic n r) = keys_unheld
base_unheld (Asked s d MessageUnit n r) = unit_unheld
base_unheld (Late s d Diagnostic e n y v rest u r) = keys_unheld
base_unheld (Late s d MessageUnit e n y v rest u r) = unit_unheld
base_unheld (Marked queue m r) = talk_unheld _
base_unheld (Renewed d x v hv o r) = talk_unheld _
base_unheld (Next d x v hv o s a f) = talk_unheld _

module _ (w : World) (h : History) (b : Before w h) (u : NothingHolds w) where
  k : Clock w h
  k = b.facts.clock

  abbrev v0 : ℕ
  v0 = how_many is_said_value (up_line w 0)

  abbrev h0 : ℕ
  h0 = how_many is_hold_value (up_line w 0)

  -- of the line down, and of what the machine waits for
  pub record HoldsOf (line : List Down) (machine : Option HostDoor) (held : ℕ) : Type 0 where
    pub writes : how_many is_hold_write line ≡ 0
    pub read : (d : HostDoor) → machine ≡ Some d → d.stage ≡ door_stage.Awaits reading.Unlocked → held ≡ 0

  here : HoldsOf (down_line w) w.host.machine h0
  here = record { writes = u.writes; read = u.read }

  some_is : (c d : HostDoor) → Some c ≡ Some d → c ≡ d
  some_is c d e = cc

  no_some : {T : Type 0} (d : HostDoor) → None ≡ Some d → T
  no_some d e = absurd (cc)

  -- ---- the host

  module _ (x : Host) (held values : ℕ) (less : held ≤ h0) (within : held ≤ values) where
    more : (xs : List Down) → x.out ≡ w.host.out ++ xs → how_many is_hold_write xs ≡ 0 → how_many is_hold_write (w.down ++ x.out) ≡ 0
    more xs e z =
        let f : w.down ++ x.out ≡ down_line w ++ xs = ap (λ o. w.down ++ o) e ∙ sym (append_assoc w.down w.host.out xs) in
        let a = how_many-append is_hold_write (down_line w) xs in let c = ap (how_many is_hold_write) f in let n = u.writes in
        omega (arith, a, c, n, z)

    -- no value is on its way any more
    none_held : (t : Bool) → values + one_if t ≡ v0 → v0 ≡ one_if t → held ≡ 0
    none_held t e f = omega (arith, within, e, f)

    given_up : how_many is_hold_write (w.down ++ filter resets.is_no_post w.host.out) ≡ 0
    given_up =
        let a = how_many-append is_hold_write w.down w.host.out in let c = how_many-append is_hold_write w.down (filter resets.is_no_post w.host.out) in
        let g = filtered is_hold_write resets.is_no_post w.host.out in let n = u.writes in omega (arith, a, c, g, n)

    -- what a value's turn writes
    written : (d : HostDoor) (y : Reading) (v : ℕ) → HasValue w d y v → how_many is_hold_write (next_turn d (Some v)).writes ≡ 0
    written d y v hv = turn_unheld d v y hv.at unlocked
      where
        unlocked : y ≡ reading.Unlocked → has v DIAG_HOLD_IOC_RESET ≡ false
        unlocked e =
            let z = u.read d hv.machine_is (hv.at ∙ ap door_stage.Awaits e) in
            let g : up_line w 0 ≡ said.Value v ∷ (map said_of hv.rest ++ get_or w.ioc.up 0 []) = ap (λ xs. map said_of xs ++ get_or w.ioc.up 0 []) hv.front in
            let a = ap (how_many is_hold_value) g in let c = how_many-cons is_hold_value (said.Value v) (map said_of hv.rest ++ get_or w.ioc.up 0 []) in
            Rattle.law_moves.proofs.Counted.false_by_none (has v DIAG_HOLD_IOC_RESET) (omega (arith, z, a, c))

    with_turn : (d : HostDoor) (y : Reading) (v : ℕ) → HasValue w d y v → how_many is_hold_write (w.down ++ (w.host.out ++ (next_turn d (Some v)).writes)) ≡ 0
    with_turn d y v hv =
        let z = written d y v hv in let a = how_many-append is_hold_write w.down (w.host.out ++ (next_turn d (Some v)).writes) in let c = how_many-append is_hold_write w.host.out (next_turn d (Some v)).writes in
        let e = how_many-append is_hold_write w.down w.host.out in let n = u.writes in omega (arith, z, a, c, e, n)

    base_writes : {y : Host} {s : Stage} {d : HostDoor} {t : Bool} → Beginning w y s d t → how_many is_hold_write (w.down ++ y.out) ≡ 0
    base_writes (FromOff m) = u.writes
    base_writes (Free m r) = u.writes
    base_writes (Asked s d q n r) = given_up
    base_writes (Late s d q e n y v rest g r) = u.writes
    base_writes (Marked queue m r) = u.writes
    base_writes (Renewed d y v hv o r) = with_turn d y v hv
    base_writes (Next d y v hv o s a f) = with_turn d y v hv

    -- a read goes behind the writes
    read_on : (xs ws : List Down) (reg : ℕ) → how_many is_hold_write (w.down ++ xs) ≡ 0 → how_many is_hold_write ws ≡ 0 → how_many is_hold_write (w.down ++ ((xs ++ ws) ++ down.Read reg ∷ [])) ≡ 0
    read_on xs ws reg z y =
        let a = how_many-append is_hold_write w.down ((xs ++ ws) ++ down.Read reg ∷ []) in let c = how_many-append is_hold_write (xs ++ ws) (down.Read reg ∷ []) in
        let e = how_many-append is_hold_write xs ws in let f = how_many-append is_hold_write w.down xs in
        let o = how_many-cons is_hold_write (down.Read reg) [] in let n = how_many-nil {X = Down} is_hold_write in
        omega (arith, a, c, e, f, o, n, z, y)

    -- how many values were on their way
    pub host : (t : Bool) → AtDoor w x t → values + one_if t ≡ v0 → HoldsOf (w.down ++ x.out) x.machine held
    host t (Keeps q) e = record { writes = more q.grows.added q.grows.is (none_passes is_plain is_hold_write plain_unheld q.grows.added q.grows.mild); read = λ d m a. let z = u.read d (sym q.machine_is ∙ m) a in omega (arith, z, less) }
    host t (GivesUp s rs m r f) e = record { writes = ap (λ (y : Host). how_many is_hold_write (w.down ++ y.out)) f ∙ given_up; read = λ d m a. no_some d (sym (ap (λ (y : Host). y.machine) f) ∙ m) }
    host t (Drops n y v rest g r f) e = record { writes = ap (λ (y : Host). how_many is_hold_write (w.down ++ y.out)) f ∙ u.writes; read = λ d m a. no_some d (sym n ∙ (sym (ap (λ (y : Host). y.machine) f) ∙ m)) }
    host t (Begins base s d t2 q f) e =
        let g = base_begun q in
        let i = f ∙ begins_is base s d g.0 g.1 in
        record { writes = ap (λ (y : Host). how_many is_hold_write (w.down ++ y.out)) i ∙ read_on base.out (next_turn d None).writes g.1.reg (base_writes q) (base_unheld q); read = λ d2 m a. none_held t2 e (at.beginning_values w h b q) }
    host t (Turns d y v hv reg s f) e =
        let i = f ∙ ap (door.puts_step (door.puts_writes (record w.host { reading = false }) (next_turn d (Some v)).writes) (next_turn d (Some v)).door) s in
        record { writes = ap (λ (z : Host). how_many is_hold_write (w.down ++ z.out)) i ∙ read_on w.host.out (next_turn d (Some v)).writes reg u.writes (written d y v hv); read = λ d2 m a. none_held true e (at.one_value w h b v hv.rest hv.front) }
    host t (Looked d y v hv o s f) e = record { writes = more (next_turn d (Some v)).writes (ap (λ (z : Host). z.out) f) (written d y v hv); read = λ d2 m a. none_held true e (at.one_value w h b v hv.rest hv.front) }
    host t (Readied d y v hv o s f) e = record { writes = more (next_turn d (Some v)).writes (ap (λ (z : Host). z.out) f) (written d y v hv); read = λ d2 m a. none_held true e (at.one_value w h b v hv.rest hv.front) }
    host t (Opened d y v hv o s q) e =
        record {
          writes =
              (let z = written d y v hv in let n = none_passes Rattle.law_moves.proofs.HostSpeaks.is_spoken is_hold_write (λ i j. plain_unheld i (spoken_plain i j)) q.grows.added q.grows.mild in
              let a = how_many-append is_hold_write (next_turn d (Some v)).writes q.grows.added in
              more ((next_turn d (Some v)).writes ++ q.grows.added) (q.grows.is ∙ append_assoc w.host.out (next_turn d (Some v)).writes q.grows.added) (omega (arith, z, n, a)));
          read = λ d2 m a. none_held true e (at.one_value w h b v hv.rest hv.front);
        }

  -- ---- the controller takes an item of the host

  pub record HoldsIoc (line : List Down) (i : Ioc) : Type 0 where
    pub of : HoldsOf line w.host.machine (lines.on_line is_hold_value w.up i.up 0)
    pub unheld : Unheld i.door

  door_unheld : Unheld w.ioc.door
  door_unheld = record { hold = u.hold; waits = u.waits }

  -- the front was no read, and the outboxes have no more
  passed : (x : Down) (rest : List Down) (i : Ioc) → w.down ≡ x ∷ rest → lines.on_line is_hold_value w.up i.up 0 ≤ h0 → Unheld i.door → HoldsIoc (rest ++ w.host.out) i
  passed x rest i e l d =
      record {
        of = record { writes = (let n = u.writes in let a = ap (λ xs. how_many is_hold_write (xs ++ w.host.out)) e in let c = how_many-cons is_hold_write x (rest ++ w.host.out) in omega (arith, n, a, c)); read = λ m q a. let z = u.read m q a in omega (arith, z, l) };
        unheld = d;
      }

  no_more : (i : Ioc) → i.up ≡ w.ioc.up → lines.on_line is_hold_value w.up i.up 0 ≤ h0
  no_more i e = let a : lines.on_line is_hold_value w.up i.up 0 ≡ h0 = ap (λ y. lines.on_line is_hold_value w.up y 0) e in omega (arith, a)

  forgotten : lines.on_line is_hold_value w.up (up_after_reset w.ioc) 0 ≤ h0
  forgotten =
      let a = how_many-append is_hold_value (map said_of (get_or w.up 0 [])) (get_or (up_after_reset w.ioc) 0 []) in
      let c = how_many-append is_hold_value (map said_of (get_or w.up 0 [])) (get_or w.ioc.up 0 []) in
      let v = left_held (next_generation w.ioc) w.ioc.up in
      omega (arith, a, c, v)

  wrote : (reg value : ℕ) (rest : List Down) → w.down ≡ down.Write reg value ∷ rest → HoldsIoc (rest ++ w.host.out) (adapter.takes_down w.ioc (down.Write reg value)).part
  wrote reg value rest e = by_effect (register_written w.ioc.door reg value).effect
    where
      j : Ioc
      j = record w.ioc { door = (register_written w.ioc.door reg value).registers }

      n : is_hold_write (down.Write reg value) ≡ false
      n = Rattle.law_moves.proofs.Counted.false_by_none (is_hold_write (down.Write reg value)) (let z = u.writes in let a = ap (λ xs. how_many is_hold_write (xs ++ w.host.out)) e in let c = how_many-cons is_hold_write (down.Write reg value) (rest ++ w.host.out) in omega (arith, z, a, c))

      d : Unheld (register_written w.ioc.door reg value).registers
      d = unheld_stays w.ioc.door reg value n door_unheld

      same_up : (message : List ℕ) → (registers.handshakes j message).up ≡ w.ioc.up
      same_up message = by_shook (registers.handshakes j message) (leaf.shook j message)
        where
          by_shook : (i : Ioc) → leaf.Shook j i → i.up ≡ w.ioc.up
          by_shook i (leaf.Stays a y) = ap (λ (z : Ioc). z.up) y
          by_shook i (leaf.ComesUp a c y) = ap (λ (z : Ioc). z.up) y

      by_effect : (f : Effect) → HoldsIoc (rest ++ w.host.out) (registers.after_effect j f).part
      by_effect effect.None = passed (down.Write reg value) rest j e (no_more j refl) d
      by_effect (effect.Asked count bytes) = passed (down.Write reg value) rest (registers.handshakes j (take count bytes)) e (no_more (registers.handshakes j (take count bytes)) (same_up (take count bytes))) (unheld_answers j (take count bytes) d)
      by_effect effect.UnitReset = passed (down.Write reg value) rest (Rattle.mpt_rules.specs.Ioc.Resets.forgets j) e forgotten (record { hold = d.hold; waits = refl })
      by_effect effect.AdapterReset = passed (down.Write reg value) rest (Rattle.mpt_rules.specs.Ioc.Resets.forgets j) e forgotten (record { hold = d.hold; waits = refl })
      by_effect (effect.Fault code) = passed (down.Write reg value) rest (Rattle.mpt_rules.specs.Ioc.Tables.faults j code) e (no_more (Rattle.mpt_rules.specs.Ioc.Tables.faults j code) refl) (record { hold = d.hold; waits = d.waits })

  read_taken : (reg : ℕ) (rest : List Down) → w.down ≡ down.Read reg ∷ rest → HoldsIoc (rest ++ w.host.out) (adapter.takes_down w.ioc (down.Read reg)).part
  unfolding read_count first_read
  read_taken reg rest e =
      record {
        of = record { writes = (let n = u.writes in let a = ap (λ xs. how_many is_hold_write (xs ++ w.host.out)) e in let c = how_many-cons is_hold_write (down.Read reg) (rest ++ w.host.out) in omega (arith, n, a, c)); read = awaited };
        unheld = door_unheld;
      }
    where
      v : ℕ
      v = register_value w.ioc.door reg

      awaited : (d : HostDoor) → w.host.machine ≡ Some d → d.stage ≡ door_stage.Awaits reading.Unlocked → lines.on_line is_hold_value w.up (say.says_on w.ioc 0 (said.Value (register_value w.ioc.door reg) ∷ [])).up 0 ≡ 0
      awaited d m a =
          let f = subst (Rattle.law_facts.specs.DoorAhead.WaitsAt w) a (b.facts.doorbell.stage.machine d m) in
          let g : down_line w ≡ down.Read reg ∷ (rest ++ w.host.out) = ap (λ xs. xs ++ w.host.out) e in
          let r1 = ap (how_many is_read) g in let r2 = how_many-cons is_read (down.Read reg) (rest ++ w.host.out) in
          let fr : Some reg ≡ Some HOST_DIAGNOSTIC = sym (ap first_read g) ∙ f.2 (omega (arith, r1, r2)) in
          let rg : reg ≡ HOST_DIAGNOSTIC = cc in
          let hv : has (register_value w.ioc.door reg) DIAG_HOLD_IOC_RESET ≡ false = ap (λ n. has (register_value w.ioc.door n) DIAG_HOLD_IOC_RESET) rg ∙ diagnostic_unheld w.ioc.door u.hold in
          let sm = lines.said_more is_hold_value w.up w.ioc.up 0 0 (said.Value (register_value w.ioc.door reg) ∷ []) in
          let c1 = how_many-cons is_hold_value (said.Value (register_value w.ioc.door reg)) [] in let c2 = how_many-nil {X = Said} is_hold_value in
          let c3 : one_if (is_hold_value (said.Value (register_value w.ioc.door reg))) ≡ 0 = ap one_if hv in
          let z = u.read d m a in
          none (nat_lt 0 (length w.ioc.up)) (how_many is_hold_value (said.Value (register_value w.ioc.door reg) ∷ [])) (omega (arith, c1, c2, c3)) sm z
        where
          none : (c : Bool) (n : ℕ) → n ≡ 0 → {y z : ℕ} → y ≡ z + cond c n 0 → z ≡ 0 → y ≡ 0
          none true n e f g = omega (arith, e, f, g)
          none false n e f g = omega (arith, f, g)

  by_leaf : (x : Down) (rest : List Down) (i : Ioc) → w.down ≡ x ∷ rest → is_fault (state_of i) ≡ false → i.door ≡ w.ioc.door → i.up ≡ w.ioc.up → HoldsIoc (rest ++ w.host.out) i
  by_leaf x rest i e n d g = passed x rest i e (no_more i g) (subst Unheld (sym d) door_unheld)

  taken : (x : Down) (rest : List Down) → w.down ≡ x ∷ rest → is_fault (state_of (adapter.takes_down w.ioc x).part) ≡ false → HoldsIoc (rest ++ w.host.out) (adapter.takes_down w.ioc x).part
  taken (down.Write reg value) rest e n = wrote reg value rest e
  taken (down.Read reg) rest e n = read_taken reg rest e
  taken (down.Post d f p) rest e n = posted (adapter.takes_down w.ioc (down.Post d f p)).part (takes w.ioc u.waits k.phase_table.whole (down.Post d f p)) n
    where
      posted : (i : Ioc) → Takes w.ioc (down.Post d f p) i → is_fault (state_of i) ≡ false → HoldsIoc (rest ++ w.host.out) i
      posted i (leaf.Faults y j g) n = absurd (cc)
      posted i (leaf.Posts d2 f2 p2 j l q) n = by_leaf (down.Post d f p) rest i e n (ap (λ (y : Ioc). y.door) q) (ap (λ (y : Ioc). y.up) q)
      posted i (leaf.DropsPost d2 f2 p2 l) n = by_leaf (down.Post d f p) rest w.ioc e n refl refl
  taken (down.Return a j) rest e n = returned (adapter.takes_down w.ioc (down.Return a j)).part (takes w.ioc u.waits k.phase_table.whole (down.Return a j)) n
    where
      returned : (i : Ioc) → Takes w.ioc (down.Return a j) i → is_fault (state_of i) ≡ false → HoldsIoc (rest ++ w.host.out) i
      returned i (leaf.Faults y j2 g) n = absurd (cc)
      returned i (leaf.Returns a2 j2 m l q) n = by_leaf (down.Return a j) rest i e n (ap (λ (y : Ioc). y.door) q) (ap (λ (y : Ioc). y.up) q)
      returned i (leaf.DropsReturn a2 j2 l) n = by_leaf (down.Return a j) rest w.ioc e n refl refl
  taken down.Stop rest e n = stopped (adapter.takes_down w.ioc down.Stop).part (takes w.ioc u.waits k.phase_table.whole down.Stop) n
    where
      stopped : (i : Ioc) → Takes w.ioc down.Stop i → is_fault (state_of i) ≡ false → HoldsIoc (rest ++ w.host.out) i
      stopped i (leaf.Faults y j2 g) n = absurd (cc)
      stopped i leaf.Stops n = by_leaf down.Stop rest i e n refl refl

  -- ---- what it says beside

  pub record HoldsNow (i : Ioc) : Type 0 where
    pub held : lines.on_line is_hold_value w.up i.up 0 ≤ h0
    pub unheld : Unheld i.door

  by_words : (test : Out → Bool) (i : Ioc) → IocSpeaks test w.ioc i → HoldsNow i
  by_words test i g =
      let a = how_many-append is_hold_value (map said_of (get_or w.up 0 [])) (get_or i.up 0 []) in
      let c = how_many-append is_hold_value (map said_of (get_or w.up 0 [])) (get_or w.ioc.up 0 []) in
      let d = grown-count is_reply is_hold_value (get_or w.ioc.up 0 []) (get_or i.up 0 []) reply_no_hold (g.says 0) in
      record { held = omega (arith, a, c, d); unheld = subst Unheld (sym g.door_is) door_unheld }

  told : (x : Back) (o : Happening Ioc) → News never_out w.ioc x o → HoldsNow o.part
  told x o (SpeaksBack l g) = by_words never_out o.part g
  told x o (Unlinked n i z e) = subst (λ (y : Happening Ioc). HoldsNow y.part) (sym e) (record { held = omega arith; unheld = door_unheld })
  told x o (LinkedUp n i g r e) = subst (λ (y : Happening Ioc). HoldsNow y.part) (sym e) (record { held = omega arith; unheld = linked w.ioc.door.hold_reset u.hold })
    where
      linked : (c : Bool) → c ≡ false → Unheld (if true && not c then record (record w.ioc.door { reset_adapter = false; link_waits = true }) { state = Rattle.mpi_doorbell.specs.declared.state.IocState.TheVariants.Ready; link_waits = false } else record w.ioc.door { reset_adapter = false; link_waits = true })
      linked false e = record { hold = u.hold; waits = refl }
      linked true e = absurd (cc)
  told x o (CalmTold i e) =
      let m = lines.said_more is_hold_value w.up w.ioc.up 0 0 (said.Calm ∷ []) in
      let c1 = how_many-cons is_hold_value said.Calm [] in let c2 = how_many-nil {X = Said} is_hold_value in
      subst (λ (y : Happening Ioc). HoldsNow y.part) (sym e) (record { held = none (nat_lt 0 (length w.ioc.up)) (how_many is_hold_value (said.Calm ∷ [])) (omega (arith, c1, c2)) m; unheld = door_unheld })
    where
      none : (c : Bool) (n : ℕ) → n ≡ 0 → {y z : ℕ} → y ≡ z + cond c n 0 → y ≤ z
      none true n e f = omega (arith, e, f)
      none false n e f = omega (arith, f)

  -- ---- all cases

  pub record HoldsWorld (v : World) : Type 0 where
    pub of : HoldsOf (down_line v) v.host.machine (how_many is_hold_value (up_line v 0))
    pub unheld : Unheld v.ioc.door

  now : HoldsWorld w
  now = record { of = here; unheld = door_unheld }

  of_ioc : (i : Ioc) → HoldsNow i → HoldsWorld (record w { ioc = i })
  of_ioc i q = record { of = record { writes = u.writes; read = λ d m a. let z = u.read d m a in let l = q.held in omega (arith, z, l) }; unheld = q.unheld }

  by_host : (y : Host) → AtDoor w y false → HoldsWorld (record w { host = y })
  by_host y g = record { of = host y h0 v0 (omega arith) (fewer_pass is_hold_value is_said_value hold_is_value (up_line w 0)) false g (omega arith); unheld = door_unheld }

  took : (queue : ℕ) (x : Up) (rest : List Up) → up_on w queue ≡ x ∷ rest → why_strange w.host queue x ≡ None → (y : Host) → AtDoor w y (is_value (heard_of queue x)) → HoldsWorld (record (with_up w queue rest) { host = y })
  took queue x rest e why y g =
      let a = lines.taken is_hold_value w.up w.ioc.up queue 0 x rest e in
      let c = lines.taken is_said_value w.up w.ioc.up queue 0 x rest e in
      let vh = ap one_if (value_heard queue x) in
      let q = on_queue x why in
      let n = fewer_pass is_hold_value is_said_value hold_is_value (up_line (with_up w queue rest) 0) in
      record { of = host y (how_many is_hold_value (up_line (with_up w queue rest) 0)) (how_many is_said_value (up_line (with_up w queue rest) 0)) (omega (arith, a)) n (is_value (heard_of queue x)) g (omega (arith, c, vh, q)); unheld = door_unheld }
    where
      nothing : (c : Bool) (n : ℕ) → n ≡ 0 → cond c n 0 ≡ n
      nothing true n e = refl
      nothing false n e = sym e

      on_queue : (z : Up) → why_strange w.host queue z ≡ None → cond (0 == queue) (one_if (is_said_value (said_of z))) 0 ≡ one_if (is_said_value (said_of z))
      on_queue (upward.Value v) s = let d = (value_is_due w queue v s).0 in ap (λ n. cond (0 == n) 1 0) d
      on_queue (upward.Reply d None p t) s = nothing (0 == queue) 0 refl
      on_queue (upward.Reply d (Some g) p t) s = nothing (0 == queue) 0 refl
      on_queue (upward.Mark g) s = nothing (0 == queue) 0 refl
      on_queue upward.Calm s = nothing (0 == queue) 0 refl

  put : (x : Down) (rest : List Down) → w.host.out ≡ x ∷ rest → HoldsWorld (record w { host = after_sent w.host x rest; down = w.down ++ x ∷ [] })
  put x rest e = record { of = by_item x (append_assoc w.down (x ∷ []) rest ∙ ap (λ xs. w.down ++ xs) (sym e)); unheld = door_unheld }
    where
      by_item : (y : Down) → (w.down ++ x ∷ []) ++ rest ≡ down_line w → HoldsOf ((w.down ++ x ∷ []) ++ (after_sent w.host y rest).out) (after_sent w.host y rest).machine h0
      by_item (down.Return address index) f = rw f here
      by_item (down.Write reg value) f = rw f here
      by_item (down.Read reg) f = rw f here
      by_item (down.Post d g q) f = rw f here
      by_item down.Stop f = rw f here

  put_up : (queue : ℕ) (y : Said) (rest : List Said) (z : Up) → say.outbox_of w.ioc queue ≡ y ∷ rest → up_of y (Rattle.std.proofs.Common.slice_get w.ioc.ring 0) ≡ Some z → HoldsWorld (with_up (record w { ioc = up_sent_on w.ioc queue }) queue (up_on w queue ++ z ∷ []))
  put_up queue y rest z e g =
      let f = lines.put is_hold_value w.up w.ioc.up queue 0 y rest z e (b.facts.flights.sizes.lanes ∙ sym b.facts.flights.sizes.outboxes) (put_hold y (Rattle.std.proofs.Common.slice_get w.ioc.ring 0) z g) in
      record { of = record { writes = u.writes; read = λ d m a. f ∙ u.read d m a }; unheld = door_unheld }

  abbrev Kept : World → Type 0
  Kept v = is_fault (state_of v.ioc) ≡ false → HoldsWorld v

  owes : Owes Kept w
  owes =
      record {
        host_puts = λ x rest e v. put x rest e;
        host_takes = λ queue x rest e y v. took queue x rest e y (Rattle.mpt_rules.specs.Host.Takes.hears_up w.host queue x).part (at.took w h b queue x rest e y);
        host_told = λ i t v. by_host (Rattle.mpt_rules.specs.World.Inputs.host_told w.host i).part (at.told w h b i t);
        host_looks = λ e v. by_host (Rattle.mpt_rules.specs.Host.Takes.looks w.host) (at.looked w h b e);
        host_stops = λ e v. by_host (Rattle.mpt_rules.specs.Host.Takes.stops w.host) (at.stopped w h b);
        ioc_takes = λ x rest e v. let q = taken x rest e v in record { of = q.of; unheld = q.unheld };
        ioc_high = λ p rest e v. let q = of_ioc (ioc_step.works_on (record w.ioc { high = rest }) p).part (by_words is_asked_out (ioc_step.works_on (record w.ioc { high = rest }) p).part (high_words w h b p rest)) in record { of = q.of; unheld = q.unheld };
        ioc_normal = λ p rest e v. let q = of_ioc (ioc_step.works_on (record w.ioc { normal = rest }) p).part (by_words is_asked_out (ioc_step.works_on (record w.ioc { normal = rest }) p).part (normal_words w h b p rest)) in record { of = q.of; unheld = q.unheld };
        ioc_puts_out = λ x rest e v. record { of = here; unheld = door_unheld };
        ioc_takes_back = λ x rest e v. let q = of_ioc (adapter.takes_back w.ioc x).part (told x (adapter.takes_back w.ioc x) (news never_out w.ioc x)) in record { of = q.of; unheld = q.unheld };
        ioc_puts = λ queue y rest z e g v. put_up queue y rest z e g;
        fabric_takes = λ x rest e v. record { of = here; unheld = door_unheld };
        fabric_says = λ x rest e v. record { of = here; unheld = door_unheld };
        fabric_puts = λ x rest e v. record { of = here; unheld = door_unheld };
        fabric_runs = λ tag address e v. record { of = here; unheld = door_unheld };
        plugs = λ address expander phy v. record { of = here; unheld = door_unheld };
        unplugs = λ address v. record { of = here; unheld = door_unheld };
        calms = λ v. record { of = here; unheld = door_unheld };
      }

  pub holds_of : (v : World) → HoldsWorld v → NothingHolds v
  holds_of v q = record { writes = q.of.writes; read = q.of.read; hold = q.unheld.hold; hold_ahead = (unheld_ahead v.ioc (down_line v) q.of.writes q.unheld).hold; waits = q.unheld.waits }

  pub holds_kept : (c : Case) → NothingHolds (happens w c)
  holds_kept c = holds_of (happens w c) (kept Kept w b.plain owes (λ v. now) c (whole_kept w h b.facts b.plain c))
