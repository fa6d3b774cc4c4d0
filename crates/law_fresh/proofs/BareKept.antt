-- Each case keeps that a start has nothing before it, up to the end of its handshakes.
use Rattle.std.proofs.Common.{◌≡◌, ℕ, ◌+◌, ◌≤◌, ◌==◌, ◌&&◌, ◌||◌, ◌⊎◌, inl, inr, cond, not, if◌then◌else◌, Bool, true, false, List, [], ◌∷◌, ◌++◌, append_assoc, get_or, length, map, slice_get, Option, Some, None, is_some, refl, ap, sym, ◌∙◌, subst, arith}
use Rattle.mpi_doorbell.specs.DoorRegisters.{DoorRegisters, is_fault}
use Rattle.mpi_doorbell.specs.HostDoor.{HostDoor}
use Rattle.mpi_doorbell.specs.declared.state.IocState.{IocState}
use Rattle.mpi_doorbell.specs.declared.state.IocState.TheVariants as ioc_state
use Rattle.mpt_messages.specs.declared.host_ask.HostAsk.{HostAsk}
use Rattle.mpt_wire.specs.Machine.Causes.{is_resetting}
use Rattle.mpt_trace.specs.declared.host_state.HostState.{HostState}
use Rattle.mpt_trace.specs.declared.host_state.HostState.TheVariants as state
use Rattle.mpt_trace.specs.declared.item.Back.{Back}
use Rattle.mpt_trace.specs.declared.item.Back.TheVariants as back
use Rattle.mpt_trace.specs.declared.item.Down.{Down}
use Rattle.mpt_trace.specs.declared.item.Down.TheVariants as down
use Rattle.mpt_trace.specs.declared.item.Up.{Up}
use Rattle.mpt_trace.specs.declared.item.Up.TheVariants as upward
use Rattle.mpt_rules.specs.declared.post.Post.{Post}
use Rattle.mpt_rules.specs.declared.said.Said.{Said}
use Rattle.mpt_rules.specs.declared.said.Said.TheVariants as said
use Rattle.mpt_rules.specs.declared.stage.Stage.{Stage}
use Rattle.mpt_rules.specs.declared.stage.Stage.TheVariants as stage
use Rattle.mpt_rules.specs.Fabric.Calls.{is_calm}
use Rattle.mpt_rules.specs.Host.Doorbell as door
use Rattle.mpt_rules.specs.Host.Doorbell.{next_turn}
use Rattle.mpt_rules.specs.Host.Parts.{Host}
use Rattle.mpt_rules.specs.Host.Returns.{after_sent}
use Rattle.mpt_rules.specs.Host.Strange.{why_strange}
use Rattle.mpt_rules.specs.Host.Takes.{hears_up, is_starting, looks, stops}
use Rattle.mpt_rules.specs.Ioc.Parts.{Ioc, state_of}
use Rattle.mpt_rules.specs.Ioc.Replies as say
use Rattle.mpt_rules.specs.Ioc.Sending.{up_of, up_sent_on}
use Rattle.mpt_rules.specs.Ioc.Tables.{is_operational, is_ready, is_reset}
use Rattle.mpt_rules.specs.Ioc.Takes as adapter
use Rattle.mpt_rules.specs.Outcome.{Happening}
use Rattle.mpt_rules.specs.World.Cases.{Case, entries, happens}
use Rattle.mpt_rules.specs.World.Counts.{how_many, one_if}
use Rattle.mpt_rules.specs.World.FabricCounts.{discover_count}
use Rattle.mpt_rules.specs.World.Inputs.{host_told}
use Rattle.mpt_rules.specs.World.Lines.{back_line, down_line, out_line, said_of, up_line}
use Rattle.mpt_rules.specs.World.State.{World, up_on, with_up}
use Rattle.mpt_rules.proofs.Counts.{how_many-append}
use Rattle.law_facts.specs.Clock.{Clock, HasNothing, has_asked, in_begun, in_reset, is_dark, is_linked_up, is_live}
use Rattle.law_facts.specs.DoorAhead.{StageFits}
use Rattle.law_facts.specs.History.{History, history_after}
use Rattle.law_facts.specs.Words.{is_bare, is_load, is_off, is_reply, others}
use Rattle.law_moves.proofs.Cases.{Owes, kept}
use Rattle.law_moves.proofs.Counted.{how_many-cons, how_many-nil, others-cons}
use Rattle.law_moves.proofs.Hears.{is_reset_stage}
use Rattle.law_moves.proofs.HostGoes as goes
use Rattle.law_moves.proofs.HostGoes.{AValue, HostGoes, heard_of, is_value}
use Rattle.law_moves.proofs.IocSpeaks.{CalmTold, LinkedUp, News, Speaks as SpeaksBack, Unlinked, never_out, news}
use Rattle.law_moves.proofs.IocTakes as leaf
use Rattle.law_moves.proofs.IocTakes.{Takes, takes}
use Rattle.law_moves.proofs.Phases.{and_false}
use Rattle.law_moves.proofs.UpChanges as changes
use Rattle.law_moves.proofs.UpLines as lines
use Rattle.law_clock.specs.Premises.{Before, Behind}
use Rattle.law_clock.specs.Shown.{ShownClock}
use Rattle.law_clock.proofs.PhaseKept as phase
use Rattle.law_doors.proofs.StageWorld.{stage_kept}
use Rattle.law_doors.proofs.Started.{started_kept}
use Rattle.law_doors.proofs.Whole.{whole_kept}
use Rattle.law_resets.proofs.ResetsKept.{resets_kept}
use Rattle.law_starts.proofs.HostAtDoor as at
use Rattle.law_starts.proofs.HostAtDoor.{Asked, AtDoor, Beginning, Begins, Drops, FactsNext, Free, FromOff, GivesUp, HasValue, InitNext, Keeps, KeepsDoor, Late, Looked, Marked, Next, NextShake, Opened, PortFactsNext, Readied, Renewed, Turns, base_begun, begins_is, contrary}
use Rattle.law_starts.proofs.Resetting.{over_linked}
use Rattle.law_fresh.specs.Bare.{IsBareAhead, StartsBare}
use Rattle.law_fresh.proofs.Hosts.{keeps_host, no_reply, not_starting, reply_said, resetting_starts, starting_is, writes_no_loads}

-- a controller's tables, of another world
pub tables_of : (w v : World) → v.ioc.high ≡ w.ioc.high → v.ioc.normal ≡ w.ioc.normal → v.ioc.requests ≡ w.ioc.requests → v.ioc.held ≡ w.ioc.held → v.ioc.bindings ≡ w.ioc.bindings → v.ioc.waiting ≡ w.ioc.waiting → v.ioc.ring ≡ w.ioc.ring → v.ioc.unacked ≡ w.ioc.unacked
    → v.ioc.enabled ≡ w.ioc.enabled → v.ioc.through ≡ w.ioc.through → HasNothing w → HasNothing v
tables_of w v a b c d e f g i j k t =
    record {
      high = a ∙ t.high;
      normal = b ∙ t.normal;
      requests = ap (how_many is_some) c ∙ t.requests;
      held = d ∙ t.held;
      bindings = ap (others Rattle.mpt_rules.specs.Ioc.Tables.is_unbound) e ∙ t.bindings;
      waiting = f ∙ t.waiting;
      ring = g ∙ t.ring;
      unacked = i ∙ t.unacked;
      enabled = j ∙ t.enabled;
      through = k ∙ t.through;
    }

live_not_ready : (c : IocState) → is_operational c ≡ true → is_ready c ≡ false
live_not_ready ioc_state.Operational e = refl
live_not_ready ioc_state.Ready e = absurd (cc)
live_not_ready ioc_state.Reset e = absurd (cc)
live_not_ready (ioc_state.Fault code) e = absurd (cc)

module _ (w : World) (h : History) (b : Before w h) (n : StartsBare w) where
  k : Clock w h
  k = b.facts.clock

  -- ---- the host, of a controller that is OPERATIONAL

  module _ (l : is_live w ≡ true) where
    not_linked : {T : Type 0} → is_linked_up w ≡ true → T
    not_linked e = contrary (is_ready (state_of w.ioc)) (live_not_ready (state_of w.ioc) l) (and_false (in_begun w) (is_ready (state_of w.ioc)) e).1

    not_off : {T : Type 0} → w.host.mode ≡ state.Off → T
    not_off e = contrary (is_off w.host.mode) (k.phase_table.live l).1 (ap is_off e)

    -- the host as it was: it started with a machine, and its line down has no load
    record WasBare (x : Host) : Type 0 where
      starts : is_starting w.host.mode ≡ true
      machine : is_some w.host.machine ≡ true
      loads : how_many is_load (w.down ++ x.out) ≡ 0

    next : {T : Type 0} (d : HostDoor) (p z : Stage) (a : HostAsk) → w.host.machine ≡ Some d → w.host.stage ≡ p → NextShake w p z a → w.host.mode ≡ state.Starting → T
    next {T} d p z a m e q i = by_shake q (sym e ∙ b.facts.doorbell.fresh_start.init (ap is_starting i) (ap is_some m) l)
      where
        by_shake : {p z : Stage} {a : HostAsk} → NextShake w p z a → p ≡ stage.Init → T
        by_shake FactsNext f = absurd (cc)
        by_shake PortFactsNext f = absurd (cc)
        by_shake InitNext f = absurd (cc)

    shake_mode : {p z : Stage} {a : HostAsk} → NextShake w p z a → Rattle.law_facts.specs.DoorAhead.IsInMode w p → w.host.mode ≡ state.Starting
    shake_mode FactsNext i = i
    shake_mode PortFactsNext i = i
    shake_mode InitNext i = i

    begun : {T : Type 0} (x : Host) (base : Host) (z : Stage) (d : HostDoor) (t : Bool) → Beginning w base z d t → x ≡ door.begins base z d → is_starting x.mode ≡ true → T
    begun {T} x base z d t q f s = by_base q (ap (λ (y : Host). y.mode) (f ∙ begins_is base z d (base_begun q).0 (base_begun q).1))
      where
        by_base : {base : Host} {z : Stage} {d : HostDoor} {t : Bool} → Beginning w base z d t → x.mode ≡ base.mode → T
        by_base (FromOff m) e = not_off m
        by_base (Free m r) e = not_starting x.mode state.Up s (e ∙ m) refl
        by_base (Asked z d y m r) e = not_starting x.mode state.Resetting s e refl
        by_base (Late z d y g o a v rest u r) e = contrary (is_starting x.mode) (ap is_starting e ∙ resetting_starts w.host.mode (and_false _ _ (and_false _ _ a).0).0) s
        by_base (Marked queue m r) e = not_linked (k.value_is_last.ready r).linked
        by_base (Renewed d y v hv o r) e = not_linked (over_linked w h b d y v hv o r)
        by_base (Next d y v hv o z a q2) e = next d w.host.stage z a hv.machine_is refl q2 (shake_mode q2 hv.in_mode)

    no_machine : {T : Type 0} (x : Host) → x.machine ≡ None → is_some x.machine ≡ true → T
    no_machine x e m = contrary (is_some x.machine) (ap is_some e) m

    host : (x : Host) (t : Bool) → AtDoor w x t → (t ≡ false → KeepsDoor w x → is_starting x.mode ≡ true → is_some x.machine ≡ true → x ≡ w.host) → is_starting x.mode ≡ true → is_some x.machine ≡ true → WasBare x
    host x t (Keeps q) same s m =
        let e = same refl q s m in let a = ap is_starting (sym (ap (λ (y : Host). y.mode) e)) ∙ s in let c = ap is_some (sym (ap (λ (y : Host). y.machine) e)) ∙ m in
        record { starts = a; machine = c; loads = ap (λ (y : Host). how_many is_load (w.down ++ y.out)) e ∙ (n a c).loads }
    host x t (GivesUp z rs r g f) same s m = not_starting x.mode state.Resetting s (ap (λ (y : Host). y.mode) f) refl
    host x t (Drops u c v rest g r f) same s m = no_machine x (ap (λ (y : Host). y.machine) f ∙ u) m
    host x t (Begins base z d t2 q f) same s m = begun x base z d t2 q f s
    host x t (Turns d y v hv reg e f) same s m =
        let g : x ≡ door.puts_read (door.puts_writes (record w.host { reading = false }) (next_turn d (Some v)).writes) (next_turn d (Some v)).door reg =
        f ∙ ap (door.puts_step (door.puts_writes (record w.host { reading = false }) (next_turn d (Some v)).writes) (next_turn d (Some v)).door) e in
        let a = ap is_starting (sym (ap (λ (z : Host). z.mode) g)) ∙ s in let c : is_some w.host.machine ≡ true = ap is_some hv.machine_is in
        let z = (n a c).loads in
        let o = ap (λ (q : Host). how_many is_load (w.down ++ q.out)) g in
        let i = how_many-append is_load w.down ((w.host.out ++ (next_turn d (Some v)).writes) ++ down.Read reg ∷ []) in let i2 = how_many-append is_load (w.host.out ++ (next_turn d (Some v)).writes) (down.Read reg ∷ []) in
        let i3 = how_many-append is_load w.host.out (next_turn d (Some v)).writes in let i4 = how_many-append is_load w.down w.host.out in
        let ws : how_many is_load (next_turn d (Some v)).writes ≡ 0 = writes_no_loads 8 _ _ in let r1 = how_many-cons is_load (down.Read reg) [] in let r0 = how_many-nil {X = Down} is_load in
        record { starts = a; machine = c; loads = omega (arith, z, o, i, i2, i3, i4, ws, r1, r0) }
    host x t (Looked d y v hv o e f) same s m = no_machine x (ap (λ (q : Host). q.machine) f) m
    host x t (Readied d y v hv o e f) same s m = no_machine x (ap (λ (q : Host). q.machine) f) m
    host x t (Opened d y v hv o e q) same s m = no_machine x q.machine_is m

  -- ---- all cases, of a controller that is OPERATIONAL behind them

  abbrev OnWorld : World → Type 0
  OnWorld v = is_live v ≡ true → is_starting v.host.mode ≡ true → is_some v.host.machine ≡ true → IsBareAhead v

  -- another party alone moves
  other : (v : World) → v.host ≡ w.host → v.ioc ≡ w.ioc → v.down ≡ w.down → v.up ≡ w.up → OnWorld v
  other v a i d u l s m =
      let z = n (ap is_starting (sym (ap (λ (y : Host). y.mode) a)) ∙ s) (ap is_some (sym (ap (λ (y : Host). y.machine) a)) ∙ m) in
      record {
        loads = ap (λ xs. how_many is_load (xs ++ v.host.out)) d ∙ (ap (λ (y : Host). how_many is_load (w.down ++ y.out)) a ∙ z.loads);
        replies = λ q. ap (λ xs. how_many is_reply (map said_of (get_or xs q []) ++ get_or v.ioc.up q [])) u ∙ (ap (λ (y : Ioc). how_many is_reply (map said_of (get_or w.up q []) ++ get_or y.up q [])) i ∙ z.replies q);
        tables = tables_of w v (ap (λ (y : Ioc). y.high) i) (ap (λ (y : Ioc). y.normal) i) (ap (λ (y : Ioc). y.requests) i) (ap (λ (y : Ioc). y.held) i) (ap (λ (y : Ioc). y.bindings) i) (ap (λ (y : Ioc). y.waiting) i) (ap (λ (y : Ioc). y.ring) i) (ap (λ (y : Ioc). y.unacked) i) (ap (λ (y : Ioc). y.enabled) i)
            (ap (λ (y : Ioc). y.through) i) z.tables;
      }

  -- the host alone moves
  by_call : (x : Host) (t : Bool) → AtDoor w x t → (t ≡ false → KeepsDoor w x → is_starting x.mode ≡ true → is_some x.machine ≡ true → x ≡ w.host) → OnWorld (record w { host = x })
  by_call x t g same l s m =
      let z = host l x t g same s m in let y = n z.starts z.machine in
      record { loads = z.loads; replies = y.replies; tables = tables_of w (record w { host = x }) refl refl refl refl refl refl refl refl refl refl y.tables }

  took : (queue : ℕ) (x : Up) (rest : List Up) → up_on w queue ≡ x ∷ rest → why_strange w.host queue x ≡ None → StageFits (record (with_up w queue rest) { host = (hears_up w.host queue x).part }) → OnWorld (record (with_up w queue rest) { host = (hears_up w.host queue x).part })
  took queue x rest e why st l s m =
      let z = host l (hears_up w.host queue x).part (is_value (heard_of queue x)) (at.took w h b queue x rest e why) (same (heard_of queue x) refl) s m in let y = n z.starts z.machine in
      record {
        loads = z.loads;
        replies = λ q. let c = lines.taken is_reply w.up w.ioc.up queue q x rest e in let r = y.replies q in omega (arith, c, r);
        tables = tables_of w (record (with_up w queue rest) { host = (hears_up w.host queue x).part }) refl refl refl refl refl refl refl refl refl refl y.tables;
      }
    where
      same : (t : goes.Heard) → heard_of queue x ≡ t → is_value (heard_of queue x) ≡ false → KeepsDoor w (hears_up w.host queue x).part → is_starting (hears_up w.host queue x).part.mode ≡ true → is_some (hears_up w.host queue x).part.machine ≡ true → (hears_up w.host queue x).part ≡ w.host
      same t f c q s m = keeps_host w n (hears_up w.host queue x).part q (phase.takes_item w h b queue x rest e why st) (λ a. contrary (is_value (heard_of queue x)) c (ap is_value a)) s m

  put : (x : Down) (rest : List Down) → w.host.out ≡ x ∷ rest → OnWorld (record w { host = after_sent w.host x rest; down = w.down ++ x ∷ [] })
  put x rest e = by_item x (append_assoc w.down (x ∷ []) rest ∙ ap (λ xs. w.down ++ xs) (sym e))
    where
      sent : (y : Down) → (after_sent w.host y rest).mode ≡ w.host.mode → (after_sent w.host y rest).machine ≡ w.host.machine → (w.down ++ x ∷ []) ++ (after_sent w.host y rest).out ≡ down_line w → OnWorld (record w { host = after_sent w.host y rest; down = w.down ++ x ∷ [] })
      sent y a c f l s m =
          let z = n (ap is_starting (sym a) ∙ s) (ap is_some (sym c) ∙ m) in
          record { loads = ap (how_many is_load) f ∙ z.loads; replies = z.replies; tables = tables_of w (record w { host = after_sent w.host y rest; down = w.down ++ x ∷ [] }) refl refl refl refl refl refl refl refl refl refl z.tables }

      by_item : (y : Down) → (w.down ++ x ∷ []) ++ rest ≡ down_line w → OnWorld (record w { host = after_sent w.host y rest; down = w.down ++ x ∷ [] })
      by_item (down.Return address index) f = sent (down.Return address index) refl refl f
      by_item (down.Write reg value) f = sent (down.Write reg value) refl refl f
      by_item (down.Read reg) f = sent (down.Read reg) refl refl f
      by_item (down.Post d g q) f = sent (down.Post d g q) refl refl f
      by_item down.Stop f = sent down.Stop refl refl f

  -- ---- the controller takes an item: no load

  module _ (x : Down) (rest : List Down) (e : w.down ≡ x ∷ rest) where
    abbrev After : Ioc → World
    After i = record w { ioc = i; down = rest }

    fewer : how_many is_load (down_line w) ≡ 0 → how_many is_load (rest ++ w.host.out) ≡ 0
    fewer z = let a = ap (λ xs. how_many is_load (xs ++ w.host.out)) e in let c = how_many-cons is_load x (rest ++ w.host.out) in omega (arith, z, a, c)

    no_load : {T : Type 0} → is_load x ≡ true → is_starting w.host.mode ≡ true → is_some w.host.machine ≡ true → T
    no_load r s m =
        let z = (n s m).loads in let a = ap (λ xs. how_many is_load (xs ++ w.host.out)) e in let c = how_many-cons is_load x (rest ++ w.host.out) in let o : one_if (is_load x) ≡ 1 = ap one_if r in
        absurd (omega (arith, z, a, c, o))

    door_alone : (i : Ioc) → i ≡ record w.ioc { door = i.door; vectors = i.vectors } → OnWorld (record w { ioc = i; down = rest })
    door_alone i f l s m =
        let z = n s m in
        record {
          loads = fewer z.loads;
          replies = λ q. ap (λ (y : Ioc). how_many is_reply (map said_of (get_or w.up q []) ++ get_or y.up q [])) f ∙ z.replies q;
          tables = tables_of w (record w { ioc = i; down = rest }) (ap (λ (y : Ioc). y.high) f) (ap (λ (y : Ioc). y.normal) f) (ap (λ (y : Ioc). y.requests) f) (ap (λ (y : Ioc). y.held) f) (ap (λ (y : Ioc). y.bindings) f) (ap (λ (y : Ioc). y.waiting) f) (ap (λ (y : Ioc). y.ring) f)
              (ap (λ (y : Ioc). y.unacked) f) (ap (λ (y : Ioc). y.enabled) f) (ap (λ (y : Ioc). y.through) f) z.tables;
        }

    taken : (y : Down) (i : Ioc) → x ≡ y → Takes w.ioc y i → is_fault (state_of i) ≡ false → OnWorld (record w { ioc = i; down = rest })
    taken y i q (leaf.Faults z j f) v = contrary _ v f
    taken y i q (leaf.Written reg value j nr c sa) v = door_alone i sa
    taken y i q (leaf.Operates value j nr c d sa) v = door_alone i sa
    taken y i q (leaf.Forgets reg value d c) v = λ l. absurd (cc)
    taken y i q (leaf.Reads reg value) v =
        λ l s m.
        let z = n s m in
        record {
          loads = fewer z.loads;
          replies = λ q. changes.said_of_more w.up w.ioc.up 0 q (λ xs. how_many is_reply xs ≡ 0) (said.Value value ∷ []) (λ xs p. one_more xs p) (z.replies q);
          tables = tables_of w (record w { ioc = i; down = rest }) refl refl refl refl refl refl refl refl refl refl z.tables;
        }
      where
        one_more : (xs : List Said) → how_many is_reply xs ≡ 0 → how_many is_reply (xs ++ said.Value value ∷ []) ≡ 0
        one_more xs p = let a = how_many-append is_reply xs (said.Value value ∷ []) in let c = how_many-cons is_reply (said.Value value) [] in let o = how_many-nil {X = Said} is_reply in omega (arith, a, c, o, p)
    taken y i q (leaf.Posts d f p j o sa) v = λ l s m. no_load (ap is_load q) s m
    taken y i q (leaf.DropsPost d f p o) v = λ l s m. no_load (ap is_load q) s m
    taken y i q (leaf.Returns address index j o sa) v = λ l s m. no_load (ap is_load q) s m
    taken y i q (leaf.DropsReturn address index o) v = λ l s m. no_load (ap is_load q) s m
    taken y i q leaf.Stops v = λ l s m. no_load (ap is_load q) s m

  -- ---- by itself it does nothing

  nothing_high : {T : Type 0} (p : Post) (rest : List Post) → w.ioc.high ≡ p ∷ rest → is_starting w.host.mode ≡ true → is_some w.host.machine ≡ true → T
  nothing_high p rest e s m = let z : [] ≡ p ∷ rest = sym (n s m).tables.high ∙ e in absurd (cc)

  nothing_normal : {T : Type 0} (p : Post) (rest : List Post) → w.ioc.normal ≡ p ∷ rest → is_starting w.host.mode ≡ true → is_some w.host.machine ≡ true → T
  nothing_normal p rest e s m = let z : [] ≡ p ∷ rest = sym (n s m).tables.normal ∙ e in absurd (cc)

  -- the fabric is off, so that nothing but calm comes from it
  calm_front : is_live w ≡ true → is_starting w.host.mode ≡ true → is_some w.host.machine ≡ true → (x : Back) (rest : List Back) → w.back ≡ x ∷ rest → is_calm x ≡ true
  calm_front l s m x rest e =
      let dark : is_dark w ≡ true =
      ap (λ c. (not c && not (in_reset w)) || (c && not (has_asked w))) l ∙ ap (λ c. (false || (true && not (c && (discover_count (out_line w) == 0))))) (n s m).tables.enabled in
      let z = (b.facts.clock.fabric_off.dark dark).back in
      let a = ap (λ xs. others is_calm (xs ++ w.fabric.out)) e in let c = others-cons is_calm x (rest ++ w.fabric.out) in
      by_test (is_calm x) (omega (arith, z, a, c))
    where
      by_test : (c : Bool) → one_if (not c) ≡ 0 → c ≡ true
      by_test true q = refl
      by_test false q = absurd (omega (arith, q))

  calm_is : (x : Back) → is_calm x ≡ true → x ≡ back.Calm
  calm_is back.Calm e = refl
  calm_is (back.Result tag r) e = absurd (cc)
  calm_is (back.Gone tag) e = absurd (cc)
  calm_is (back.Terminated tag) e = absurd (cc)
  calm_is (back.Aborted smid found) e = absurd (cc)
  calm_is (back.Cleared smid count) e = absurd (cc)
  calm_is (back.Plugged address plug expander phy) e = absurd (cc)
  calm_is (back.Unplugged address plug expander phy) e = absurd (cc)
  calm_is back.Discovered e = absurd (cc)
  calm_is (back.Linked generation) e = absurd (cc)

  module _ (rest : List Back) where
    said_calm : OnWorld (record w { ioc = say.says_on w.ioc 0 (said.Calm ∷ []); back = rest })
    said_calm l s m =
        let z = n s m in
        record {
          loads = z.loads;
          replies = λ q. changes.said_of_more w.up w.ioc.up 0 q (λ xs. how_many is_reply xs ≡ 0) (said.Calm ∷ []) (λ xs p. one_more xs p) (z.replies q);
          tables = tables_of w (record w { ioc = say.says_on w.ioc 0 (said.Calm ∷ []); back = rest }) refl refl refl refl refl refl refl refl refl refl z.tables;
        }
      where
        one_more : (xs : List Said) → how_many is_reply xs ≡ 0 → how_many is_reply (xs ++ said.Calm ∷ []) ≡ 0
        one_more xs p = let a = how_many-append is_reply xs (said.Calm ∷ []) in let c = how_many-cons is_reply said.Calm [] in let o = how_many-nil {X = Said} is_reply in omega (arith, a, c, o, p)

    calm_taken : OnWorld (record w { ioc = (adapter.takes_back w.ioc back.Calm).part; back = rest })
    calm_taken = by_fault (is_fault w.ioc.door.state)
      where
        by_fault : (c : Bool) → OnWorld (record w { ioc = if c then w.ioc else say.says_on w.ioc 0 (said.Calm ∷ []); back = rest })
        by_fault true = other (record w { back = rest }) refl refl refl refl
        by_fault false = said_calm

    told : (x : Back) → w.back ≡ x ∷ rest → (o : Happening Ioc) → News never_out w.ioc x o → o ≡ adapter.takes_back w.ioc x → OnWorld (record w { ioc = o.part; back = rest })
    told x e o (SpeaksBack u g) f =
        λ l s m.
        let q : is_live w ≡ true = ap (λ (d : DoorRegisters). is_operational d.state) (sym g.door_is) ∙ l in
        let c : x ≡ back.Calm = calm_is x (calm_front q s m x rest e) in
        subst (λ (y : Happening Ioc). OnWorld (record w { ioc = y.part; back = rest })) (sym (f ∙ ap (adapter.takes_back w.ioc) c)) calm_taken l s m
    told x e o (Unlinked g i z q) f = subst (λ (y : Happening Ioc). OnWorld (record w { ioc = y.part; back = rest })) (sym q) (other (record w { back = rest }) refl refl refl refl)
    told x e o (LinkedUp g i z r q) f = λ l s m. contrary (is_starting w.host.mode) (resetting_starts w.host.mode (and_false _ _ (k.phase_table.reset r)).0) s
    told x e o (CalmTold i q) f = subst (λ (y : Happening Ioc). OnWorld (record w { ioc = y.part; back = rest })) (sym q) said_calm

  put_up : (queue : ℕ) (y : Said) (rest : List Said) (z : Up) → say.outbox_of w.ioc queue ≡ y ∷ rest → up_of y (slice_get w.ioc.ring 0) ≡ Some z → OnWorld (with_up (record w { ioc = up_sent_on w.ioc queue }) queue (up_on w queue ++ z ∷ []))
  put_up queue y rest z e g l s m =
      let p = n s m in
      record {
        loads = p.loads;
        replies = λ q. let c = lines.put is_reply w.up w.ioc.up queue q y rest z e (b.facts.flights.sizes.lanes ∙ sym b.facts.flights.sizes.outboxes) (lines.put_alike y (slice_get w.ioc.ring 0) z g).reply in let r = p.replies q in omega (arith, c, r);
        tables = record { high = p.tables.high; normal = p.tables.normal; requests = p.tables.requests; held = p.tables.held; bindings = p.tables.bindings; waiting = p.tables.waiting; ring = less p.tables.ring; unacked = p.tables.unacked; enabled = p.tables.enabled; through = p.tables.through };
      }
    where
      none_of : (xs : List ℕ) → xs ≡ [] → (c : Bool) → (if c then Rattle.std.proofs.Common.drop 1 xs else xs) ≡ []
      none_of xs f true = ap (Rattle.std.proofs.Common.drop 1) f
      none_of xs f false = f

      less : w.ioc.ring ≡ [] → (up_sent_on w.ioc queue).ring ≡ []
      less f = none_of w.ioc.ring f (Rattle.mpt_rules.specs.Ioc.Sending.needs_frame (slice_get (say.outbox_of w.ioc queue) 0))

  abbrev Kept : World → Type 0
  Kept v = Behind v → OnWorld v

  never : goes.NoNews ≡ AValue → ⊥
  never e = cc

  owes : Owes Kept w
  owes =
      record {
        host_puts = λ x rest e v. put x rest e;
        host_takes = λ queue x rest e y v. took queue x rest e y v.stage;
        host_told = λ i t v. by_call (host_told w.host i).part false (at.told w h b i t) (λ c q s m. keeps_host w n (host_told w.host i).part q (goes.told w i t) never s m);
        host_looks = λ e v. by_call (looks w.host) false (at.looked w h b e) (λ c q s m. keeps_host w n (looks w.host) q (goes.looks_on w e) never s m);
        host_stops = λ e v. by_call (stops w.host) false (at.stopped w h b) (λ c q s m. keeps_host w n (stops w.host) q (goes.stops_now w e) never s m);
        ioc_takes = λ x rest e v. taken x rest e x (adapter.takes_down w.ioc x).part refl (takes w.ioc b.facts.doorbell.sound.waits k.phase_table.whole x) v.whole;
        ioc_high = λ p rest e v l s m. nothing_high p rest e s m;
        ioc_normal = λ p rest e v l s m. nothing_normal p rest e s m;
        ioc_puts_out = λ x rest e v l s m. let z = n s m in record { loads = z.loads; replies = z.replies; tables = tables_of w _ refl refl refl refl refl refl refl refl refl refl z.tables };
        ioc_takes_back = λ x rest e v. told rest x e (adapter.takes_back w.ioc x) (news never_out w.ioc x) refl;
        ioc_puts = λ queue y rest z e g v. put_up queue y rest z e g;
        fabric_takes = λ x rest e v. other _ refl refl refl refl;
        fabric_says = λ x rest e v. other _ refl refl refl refl;
        fabric_puts = λ x rest e v. other _ refl refl refl refl;
        fabric_runs = λ tag address e v. other _ refl refl refl refl;
        plugs = λ address expander phy v. other _ refl refl refl refl;
        unplugs = λ address v. other _ refl refl refl refl;
        calms = λ v. other _ refl refl refl refl;
      }

  -- ---- a controller that isn't OPERATIONAL has nothing anyhow

  not_live : (v : World) → ShownClock v → is_live v ≡ false → is_starting v.host.mode ≡ true → IsBareAhead v
  not_live v c l s =
      record {
        loads = by_loads (how_many is_load (down_line v)) refl;
        replies = λ q. c.no_reply_before_init.before begun l q;
        tables = c.tables_empty (by_state (state_of v.ioc) l (by_reset (is_reset (state_of v.ioc)) refl) c.phase_table.whole);
      }
    where
      normal : is_resetting v.host.mode ≡ false
      normal = ap is_resetting (starting_is v.host.mode s)

      begun : in_begun v ≡ false
      begun = ap (λ a. a && (v.host.asked == v.ioc.generation)) normal

      by_reset : (a : Bool) → is_reset (state_of v.ioc) ≡ a → a ≡ false
      by_reset true e = contrary (in_begun v) begun (c.phase_table.reset e)
      by_reset false e = refl

      by_loads : (m : ℕ) → how_many is_load (down_line v) ≡ m → m ≡ 0
      by_loads Rattle.std.proofs.Common.zero e = refl
      by_loads (Rattle.std.proofs.Common.suc m) e = contrary (is_live v) l (c.loads_before_reset.live (omega (arith, e)))

      by_state : (a : IocState) → is_operational a ≡ false → is_reset a ≡ false → is_fault a ≡ false → is_bare a ≡ true
      by_state ioc_state.Ready l r f = refl
      by_state ioc_state.Reset l r f = refl
      by_state ioc_state.Operational l r f = absurd (cc)
      by_state (ioc_state.Fault code) l r f = absurd (cc)

  pub bare_kept : (c : Case) → StartsBare (happens w c)
  bare_kept c s m = by_live (is_live (happens w c)) refl
    where
      shown : Behind (happens w c)
      shown = record { whole = whole_kept w h b.facts b.plain c; stage = stage_kept w h b c; started = started_kept w h b c }

      by_live : (a : Bool) → is_live (happens w c) ≡ a → IsBareAhead (happens w c)
      by_live true l = kept Kept w b.plain owes (λ v. other w refl refl refl refl) c shown l s m
      by_live false l = not_live (happens w c) (resets_kept w h c b shown).clock l s
