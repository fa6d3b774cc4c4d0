-- Each case keeps where the two ends of the doorbell stand: the controller, and all cases.
use Rattle.std.proofs.Common.{◌≡◌, ℕ, ◌+◌, ◌≤◌, ◌==◌, ◌&&◌, ◌||◌, ◌⊎◌, inl, inr, not, cond, if◌then◌else◌, Bool, true, false, List, [], ◌∷◌, ◌++◌, append_assoc, get_or, length, map, slice_get, take, Option, Some, None, is_none, refl, ap, sym, ◌∙◌, subst, arith}
use Rattle.std.specs.FinMap as finmap
use Rattle.std.specs.FinSet as finset
use Rattle.mpi_doorbell.specs.DoorRegisters.{DoorRegisters, is_fault, linked_up, register_value, register_written}
use Rattle.mpi_doorbell.specs.Handshake.{Idle}
use Rattle.mpi_doorbell.specs.HostDoor.{HostDoor, register_of}
use Rattle.mpi_doorbell.specs.HostSteps.{diagnostic_reset, unit_reset}
use Rattle.mpi_doorbell.specs.declared.effect.Effect.{Effect}
use Rattle.mpi_doorbell.specs.declared.effect.Effect.TheVariants as effect
use Rattle.mpi_doorbell.specs.declared.stage.Reading.{Reading}
use Rattle.mpi_doorbell.specs.declared.stage.Stage.{Stage as DoorStage}
use Rattle.mpi_doorbell.specs.declared.stage.Stage.TheVariants as door_stage
use Rattle.mpi_doorbell.specs.declared.state.IocState.TheVariants as ioc_state
use Rattle.mpt_messages.specs.declared.host_ask.HostAsk.{HostAsk}
use Rattle.mpt_trace.specs.declared.host_state.HostState.{HostState}
use Rattle.mpt_trace.specs.declared.host_state.HostState.TheVariants as state
use Rattle.mpt_trace.specs.declared.item.Back.{Back}
use Rattle.mpt_trace.specs.declared.item.Down.{Down}
use Rattle.mpt_trace.specs.declared.item.Down.TheVariants as down
use Rattle.mpt_trace.specs.declared.item.Out.{Out}
use Rattle.mpt_trace.specs.declared.item.Up.{Up}
use Rattle.mpt_trace.specs.declared.item.Up.TheVariants as upward
use Rattle.mpt_wire.specs.Machine.Causes.{is_resetting}
use Rattle.mpt_rules.specs.declared.said.Said.{Said}
use Rattle.mpt_rules.specs.declared.said.Said.TheVariants as said
use Rattle.mpt_rules.specs.declared.stage.Stage.{Stage}
use Rattle.mpt_rules.specs.declared.stage.Stage.TheVariants as stage
use Rattle.mpt_rules.specs.World.Cases.{Case, happens}
use Rattle.mpt_rules.specs.World.Counts.{how_many, is_register_write, one_if, read_count, register_write_count, value_count}
use Rattle.mpt_rules.specs.Host.Doorbell.{is_reset_item}
use Rattle.mpt_rules.specs.Host.Parts.{Host}
use Rattle.mpt_rules.specs.Host.Returns.{after_sent}
use Rattle.mpt_rules.specs.Host.Strange.{why_strange}
use Rattle.mpt_rules.specs.Ioc.Parts.{Ioc, state_of}
use Rattle.mpt_rules.specs.Ioc.Registers as registers
use Rattle.mpt_rules.specs.Ioc.Replies as say
use Rattle.mpt_rules.specs.Ioc.Resets.{forgets, next_generation}
use Rattle.mpt_rules.specs.Ioc.Sending.{up_of, up_sent_on}
use Rattle.mpt_rules.specs.Ioc.Steps as ioc_step
use Rattle.mpt_rules.specs.Ioc.Tables.{is_reset}
use Rattle.mpt_rules.specs.Ioc.Takes as adapter
use Rattle.mpt_rules.specs.Outcome.{Happening}
use Rattle.mpt_rules.specs.World.Lines.{down_line, said_of, up_line}
use Rattle.mpt_rules.specs.World.State.{World, queues_of, up_on, with_up}
use Rattle.mpt_rules.specs.World.Weight.{is_read, is_said_value}
use Rattle.law_facts.specs.Clock.{Clock, in_begun, in_reset}
use Rattle.law_facts.specs.DoorAhead.{IsInMode, WaitsAt, does_still, door_ahead, first_read, first_value, value_coming, written_ahead}
use Rattle.law_facts.specs.History.{History}
use Rattle.law_facts.specs.Words.{is_reply, is_stray_reset}
use Rattle.law_flights.specs.Given.{Resets}
use Rattle.law_moves.proofs.Cases.{Owes, kept}
use Rattle.law_moves.proofs.Counted.{how_many-cons, how_many-nil, later, later-opened, none_passes}
use Rattle.law_moves.proofs.HostGoes.{heard_of, is_value, value_heard, value_is_due}
use Rattle.law_moves.proofs.IocSpeaks.{CalmTold, IocSpeaks, LinkedUp, News, Speaks as SpeaksBack, Unlinked, is_asked_out, never_out, news}
use Rattle.law_moves.proofs.IocTakes as leaf
use Rattle.law_moves.proofs.IocTakes.{Takes, takes}
use Rattle.law_moves.proofs.Phases.{and_false}
use Rattle.law_moves.proofs.Registers.{writes_are}
use Rattle.law_moves.proofs.UpChanges as changes
use Rattle.law_moves.proofs.UpLines as lines
use Rattle.law_clock.specs.Premises.{Before}
use Rattle.law_clock.proofs.PhaseKept.{asked_now, high_words, normal_words}
use Rattle.law_doors.proofs.Ahead.{ahead-write, core, quiet_ahead}
use Rattle.law_doors.proofs.Whole.{whole_kept}
use Rattle.law_starts.specs.Starts.{StartsStand}
use Rattle.law_starts.proofs.Alike.{DoorAlike, alike_ahead}
use Rattle.law_starts.proofs.HostAtDoor as at
use Rattle.law_starts.proofs.HostAtDoor.{AtDoor, contrary, post_no_write, read_no_write, return_no_write, stop_no_write}
use Rattle.law_starts.proofs.WrittenKept.{alone}
use Rattle.law_steps.proofs.Coming.{first_before, first_pass, first_put, last_said, no_first}
use Rattle.law_locks.specs.Locks.{HandshakesStand, ShakesStand, ask_of_stage}
use Rattle.law_locks.proofs.Locked.{LockHolds, LockOn, lock_alike, reads_alike, rests_of, unmanned}
use Rattle.law_locks.proofs.LocksHost as by_host
use Rattle.law_locks.proofs.LocksHost.{IsIdleDoor, asked_starting}
use Rattle.law_locks.proofs.UnitAsked.{looked_up, stopped_up, told_up, took_up}

-- a front that is no write
ahead_pass : (i : Ioc) (x : Down) (xs : List Down) → ((reg value : ℕ) → x ≡ down.Write reg value → ⊥) → written_ahead i (x ∷ xs) ≡ written_ahead i xs
unfolding written_ahead
ahead_pass i (down.Write reg value) xs n = absurd (n reg value refl)
ahead_pass i (down.Read reg) xs n = refl
ahead_pass i (down.Post d f p) xs n = refl
ahead_pass i (down.Return a m) xs n = refl
ahead_pass i down.Stop xs n = refl

reply_no_value : (x : Said) → is_reply x ≡ true → is_said_value x ≡ false
reply_no_value (said.Value v) e = absurd (cc)
reply_no_value (said.Success smid page sense) e = refl
reply_no_value (said.Framed smid frame page sense) e = refl
reply_no_value (said.Mark generation) e = refl
reply_no_value said.Calm e = refl

no_some : {T : Type 0} (v : ℕ) → None ≡ Some v → T
no_some v e = absurd (cc)

module _ (w : World) (h : History) (b : Before w h) (s : StartsStand w) (l : HandshakesStand w) where
  k : Clock w h
  k = b.facts.clock

  abbrev A : Ioc
  A = written_ahead w.ioc (down_line w)

  here : LockOn (queues_of w) w.host w.ioc (down_line w) (value_coming w)
  here = by_host.here w h b s l

  abbrev Of : Ioc → Option ℕ
  Of i = first_value (map said_of (up_on w 0) ++ get_or i.up 0 [])

  abbrev OnIoc : Ioc → List Down → Type 0
  OnIoc i line = LockOn (queues_of w) w.host i line (Of i)

  -- ---- the door ahead is the same, but for the index

  as_before : (i : Ioc) (line : List Down) → i.generation ≡ w.ioc.generation → core (written_ahead i line).door ≡ core (written_ahead w.ioc (down_line w)).door → Of i ≡ value_coming w → OnIoc i line
  as_before i line g e c =
      lock_alike (queues_of w) w.host.machine w.host.mode w.host.stage (rests_of w.host.machine w.host.mode w.host.stage w.host.reading w.host.asked i.generation) (written_ahead w.ioc (down_line w)).door (written_ahead i line).door (Of i) (sym e)
      (subst (λ n. LockHolds (queues_of w) w.host.machine w.host.mode w.host.stage (rests_of w.host.machine w.host.mode w.host.stage w.host.reading w.host.asked n) (written_ahead w.ioc (down_line w)).door (Of i)) (sym g)
      (subst (λ v. LockOn (queues_of w) w.host w.ioc (down_line w) v) (sym c) here))

  -- ---- while a reset goes on there is no handshake

  resetting_stands : (door : DoorRegisters) (coming : Option ℕ) → is_resetting w.host.mode ≡ true → ShakesStand (queues_of w) w.host.machine w.host.mode w.host.stage door coming
  resetting_stands door coming m =
      record {
        stands = λ d a x n f g. contrary (is_resetting w.host.mode) (starts d a n f) m;
        value = λ d x v n r g c. contrary (is_resetting w.host.mode) r m;
      }
    where
      mode_of : (z : DoorStage) → WaitsAt w z → IsInMode w w.host.stage
      mode_of (door_stage.Awaits x) q = q.1
      mode_of (door_stage.Reads x) q = absurd q
      mode_of door_stage.Opens q = absurd q
      mode_of (door_stage.WritesKey place) q = absurd q
      mode_of door_stage.Locks q = absurd q
      mode_of door_stage.ResetsUnit q = absurd q
      mode_of door_stage.Finishes q = absurd q
      mode_of door_stage.Ended q = absurd q

      starts : (d : HostDoor) (a : HostAsk) → w.host.machine ≡ Some d → ask_of_stage (queues_of w) w.host.stage ≡ Some a → is_resetting w.host.mode ≡ false
      starts d a n f = ap is_resetting (asked_starting w (queues_of w) w.host.stage a f (mode_of d.stage (b.facts.doorbell.stage.machine d n)))

  -- ---- an item of the host is taken

  wrote : (reg value : ℕ) (rest : List Down) → w.down ≡ down.Write reg value ∷ rest → is_fault (state_of (adapter.takes_down w.ioc (down.Write reg value)).part) ≡ false → OnIoc (adapter.takes_down w.ioc (down.Write reg value)).part (rest ++ w.host.out)
  wrote reg value rest e n = by_effect (register_written w.ioc.door reg value).effect refl n
    where
      j : Ioc
      j = record w.ioc { door = (register_written w.ioc.door reg value).registers }

      line : (f : Effect) → (register_written w.ioc.door reg value).effect ≡ f → written_ahead (does_still j f) (rest ++ w.host.out) ≡ A
      line f y =
          sym (ap (λ xs. written_ahead w.ioc (xs ++ w.host.out)) e ∙ (ahead-write w.ioc reg value (rest ++ w.host.out) ∙ ap (λ g. written_ahead (does_still j g) (rest ++ w.host.out)) y))

      -- a reset begins: behind it no register is written
      begins : Resets (register_written w.ioc.door reg value).effect → OnIoc (forgets j) (rest ++ w.host.out)
      begins r =
          record { shakes = resetting_stands (written_ahead (forgets j) (rest ++ w.host.out)).door (Of (forgets j)) m; handshake = λ c. ap (λ (z : DoorRegisters). z.handshake) q; status = λ c. ap (λ (z : DoorRegisters). z.ioc2sys) q }
        where
          t : (is_reset_item (down.Write reg value) || is_stray_reset (down.Write reg value)) ≡ true
          t = (writes_are w.ioc.door reg value s.nothing_holds.waits).resets r

          m : is_resetting w.host.mode ≡ true
          m = (and_false _ _ (and_false _ _ (asked_now w h b (down.Write reg value) rest e t)).0).0

          q : core (written_ahead (forgets j) (rest ++ w.host.out)).door ≡ core (forgets j).door
          q = quiet_ahead (forgets j) (rest ++ w.host.out) (alone w h b s.nothing_is_written reg value rest e t)

      by_effect : (f : Effect) → (register_written w.ioc.door reg value).effect ≡ f → is_fault (state_of (registers.after_effect j f).part) ≡ false → OnIoc (registers.after_effect j f).part (rest ++ w.host.out)
      by_effect effect.None y n = as_before j (rest ++ w.host.out) refl (ap (λ (i : Ioc). core i.door) (line effect.None y)) refl
      by_effect (effect.Asked count bytes) y n = by_answer (registers.handshakes j (take count bytes)) (leaf.shook j (take count bytes)) (ap (λ (i : Ioc). core i.door) (line (effect.Asked count bytes) y))
        where
          by_answer : (i : Ioc) → leaf.Shook j i → core (written_ahead i (rest ++ w.host.out)).door ≡ core (written_ahead w.ioc (down_line w)).door → OnIoc i (rest ++ w.host.out)
          by_answer i (leaf.Stays a z) c = as_before i (rest ++ w.host.out) (ap (λ (y : Ioc). y.generation) z) c (ap (λ (y : Ioc). first_value (map said_of (up_on w 0) ++ get_or y.up 0 [])) z)
          by_answer i (leaf.ComesUp r a z) c = as_before i (rest ++ w.host.out) (ap (λ (y : Ioc). y.generation) z) c (ap (λ (y : Ioc). first_value (map said_of (up_on w 0) ++ get_or y.up 0 [])) z)
      by_effect effect.UnitReset y n = begins (subst Resets (sym y) tt)
      by_effect effect.AdapterReset y n = begins (subst Resets (sym y) tt)
      by_effect (effect.Fault code) y n = absurd (cc)

  passed : (x : Down) (rest : List Down) → w.down ≡ x ∷ rest → ((reg value : ℕ) → x ≡ down.Write reg value → ⊥) → written_ahead w.ioc (rest ++ w.host.out) ≡ A
  passed x rest e n = sym (ap (λ xs. written_ahead w.ioc (xs ++ w.host.out)) e ∙ ahead_pass w.ioc x (rest ++ w.host.out) n)

  -- a controller of which the door has not seen
  alike : (i : Ioc) (line : List Down) → i.generation ≡ w.ioc.generation → DoorAlike i w.ioc → written_ahead w.ioc line ≡ A → Of i ≡ value_coming w → OnIoc i line
  alike i line g a e c = as_before i line g ((alike_ahead i w.ioc line a).door ∙ ap (λ (y : Ioc). core y.door) e) c

  same_door : (i : Ioc) → i.door ≡ w.ioc.door → i.vectors ≡ w.ioc.vectors → length i.up ≡ length w.ioc.up → DoorAlike i w.ioc
  same_door i d v u = record { door = ap core d; vectors = v; queues = u }

  -- ---- a read: no register is written any more, and it is what the machine waits for

  module _ (reg : ℕ) (rest : List Down) (e : w.down ≡ down.Read reg ∷ rest) where
    line_is : down_line w ≡ down.Read reg ∷ (rest ++ w.host.out)
    line_is = ap (λ xs. xs ++ w.host.out) e

    quiet : how_many is_register_write (down_line w) ≡ 0
    unfolding later register_write_count
    quiet =
        let z = later-opened is_read is_register_write (down.Read reg) (rest ++ w.host.out) refl (sym (ap (later is_read is_register_write) line_is) ∙ k.writes_before_read.before) in
        let a = ap (how_many is_register_write) line_is in let c = how_many-cons is_register_write (down.Read reg) (rest ++ w.host.out) in omega (arith, z, a, c)

    no_values : how_many is_said_value (up_line w 0) ≡ 0
    unfolding read_count value_count
    no_values =
        let o = k.one_read.one in let r = at_most w.host.reading in let a = ap (how_many is_read) line_is in let c = how_many-cons is_read (down.Read reg) (rest ++ w.host.out) in
        omega (arith, o, r, a, c)
      where
        at_most : (c : Bool) → one_if c ≤ 1
        at_most true = omega arith
        at_most false = omega arith

    -- the value that comes is the one that was read
    comes : (v : ℕ) → Of (say.says_on w.ioc 0 (said.Value (register_value w.ioc.door reg) ∷ [])) ≡ Some v → v ≡ register_value w.ioc.door reg
    comes v =
        changes.said_of_more w.up w.ioc.up 0 0 (λ xs. (u : ℕ) → first_value xs ≡ Some u → u ≡ register_value w.ioc.door reg) (said.Value (register_value w.ioc.door reg) ∷ [])
        (λ xs f u. last_said xs (register_value w.ioc.door reg) u f) (λ u q. no_some u (sym (no_first (up_line w 0) no_values) ∙ q)) v

    waits_for : (d : HostDoor) (x : Reading) → w.host.machine ≡ Some d → d.stage ≡ door_stage.Awaits x → reg ≡ register_of x
    unfolding read_count first_read
    waits_for d x m a =
        let f = subst (WaitsAt w) a (b.facts.doorbell.stage.machine d m) in
        let r1 = ap (how_many is_read) line_is in let r2 = how_many-cons is_read (down.Read reg) (rest ++ w.host.out) in
        same_some reg (register_of x) (sym (ap first_read line_is) ∙ f.2 (omega (arith, r1, r2)))
      where
        same_some : (n m : ℕ) → Some n ≡ Some m → n ≡ m
        same_some n m e = cc

    reads : OnIoc (say.says_on w.ioc 0 (said.Value (register_value w.ioc.door reg) ∷ [])) (rest ++ w.host.out)
    reads =
        record {
          shakes = record {
            stands = λ d a x m f g. p.shakes.stands d a x m f g;
            value = λ d x v m n g c. comes v c ∙ (ap (register_value w.ioc.door) (waits_for d x m g) ∙ reads_alike w.ioc.door (written_ahead i (rest ++ w.host.out)).door (sym now) x);
          };
          handshake = p.handshake;
          status = p.status;
        }
      where
        i : Ioc
        i = say.says_on w.ioc 0 (said.Value (register_value w.ioc.door reg) ∷ [])

        a : core (written_ahead (say.says_on w.ioc 0 (said.Value (register_value w.ioc.door reg) ∷ [])) (rest ++ w.host.out)).door ≡ core (written_ahead w.ioc (down_line w)).door
        a = (alike_ahead i w.ioc (rest ++ w.host.out) (same_door i refl refl (Rattle.std.proofs.Common.length-set w.ioc.up 0 _))).door ∙ ap (λ (y : Ioc). core y.door) (passed (down.Read reg) rest e (read_no_write reg))

        now : core (written_ahead (say.says_on w.ioc 0 (said.Value (register_value w.ioc.door reg) ∷ [])) (rest ++ w.host.out)).door ≡ core w.ioc.door
        now = a ∙ quiet_ahead w.ioc (down_line w) quiet

        p : LockHolds (queues_of w) w.host.machine w.host.mode w.host.stage (rests_of w.host.machine w.host.mode w.host.stage w.host.reading w.host.asked w.ioc.generation) (written_ahead (say.says_on w.ioc 0 (said.Value (register_value w.ioc.door reg) ∷ [])) (rest ++ w.host.out)).door (value_coming w)
        p = lock_alike (queues_of w) w.host.machine w.host.mode w.host.stage (rests_of w.host.machine w.host.mode w.host.stage w.host.reading w.host.asked w.ioc.generation) (written_ahead w.ioc (down_line w)).door (written_ahead i (rest ++ w.host.out)).door (value_coming w) (sym a) here

  by_leaf : (x : Down) (rest : List Down) (i : Ioc) → w.down ≡ x ∷ rest → Takes w.ioc x i → is_fault (state_of i) ≡ false → ((reg value : ℕ) → x ≡ down.Write reg value → ⊥) → ((reg : ℕ) → x ≡ down.Read reg → ⊥) → OnIoc i (rest ++ w.host.out)
  by_leaf x rest i e (leaf.Faults y j f) n q r = contrary _ n f
  by_leaf x rest i e (leaf.Written reg value j nr c sa) n q r = absurd (q reg value refl)
  by_leaf x rest i e (leaf.Operates value j nr c d sa) n q r = absurd (q _ value refl)
  by_leaf x rest i e (leaf.Forgets reg value d c) n q r = absurd (q reg value refl)
  by_leaf x rest i e (leaf.Reads reg value) n q r = absurd (r reg refl)
  by_leaf x rest i e (leaf.Posts d f p j o sa) n q r =
      alike i (rest ++ w.host.out) (ap (λ (y : Ioc). y.generation) sa) (same_door i (ap (λ (y : Ioc). y.door) sa) (ap (λ (y : Ioc). y.vectors) sa) (ap (λ (y : Ioc). length y.up) sa)) (passed x rest e q) (ap (λ (y : Ioc). first_value (map said_of (up_on w 0) ++ get_or y.up 0 [])) sa)
  by_leaf x rest i e (leaf.DropsPost d f p o) n q r = alike w.ioc (rest ++ w.host.out) refl (same_door w.ioc refl refl refl) (passed x rest e q) refl
  by_leaf x rest i e (leaf.Returns address index j o sa) n q r =
      alike i (rest ++ w.host.out) (ap (λ (y : Ioc). y.generation) sa) (same_door i (ap (λ (y : Ioc). y.door) sa) (ap (λ (y : Ioc). y.vectors) sa) (ap (λ (y : Ioc). length y.up) sa)) (passed x rest e q) (ap (λ (y : Ioc). first_value (map said_of (up_on w 0) ++ get_or y.up 0 [])) sa)
  by_leaf x rest i e (leaf.DropsReturn address index o) n q r = alike w.ioc (rest ++ w.host.out) refl (same_door w.ioc refl refl refl) (passed x rest e q) refl
  by_leaf x rest i e leaf.Stops n q r = alike i (rest ++ w.host.out) refl (record { door = refl; vectors = refl; queues = refl }) (passed x rest e q) refl

  taken : (x : Down) (rest : List Down) → w.down ≡ x ∷ rest → is_fault (state_of (adapter.takes_down w.ioc x).part) ≡ false → OnIoc (adapter.takes_down w.ioc x).part (rest ++ w.host.out)
  taken (down.Write reg value) rest e n = wrote reg value rest e n
  taken (down.Read reg) rest e n = reads reg rest e
  taken (down.Post d f p) rest e n = by_leaf (down.Post d f p) rest (adapter.takes_down w.ioc (down.Post d f p)).part e (takes w.ioc s.nothing_holds.waits k.phase_table.whole (down.Post d f p)) n (post_no_write d f p) (post_no_read d f p)
    where
      post_no_read : (d : ℕ) (f p : List ℕ) (reg : ℕ) → down.Post d f p ≡ down.Read reg → ⊥
      post_no_read d f p reg e = cc
  taken (down.Return address index) rest e n = by_leaf (down.Return address index) rest (adapter.takes_down w.ioc (down.Return address index)).part e (takes w.ioc s.nothing_holds.waits k.phase_table.whole (down.Return address index)) n (return_no_write address index) (return_no_read address index)
    where
      return_no_read : (a i reg : ℕ) → down.Return a i ≡ down.Read reg → ⊥
      return_no_read a i reg e = cc
  taken down.Stop rest e n = by_leaf down.Stop rest (adapter.takes_down w.ioc down.Stop).part e (takes w.ioc s.nothing_holds.waits k.phase_table.whole down.Stop) n stop_no_write stop_no_read
    where
      stop_no_read : (reg : ℕ) → down.Stop ≡ down.Read reg → ⊥
      stop_no_read reg e = cc

  -- ---- what the controller does by itself

  by_words : (test : Out → Bool) (i : Ioc) → IocSpeaks test w.ioc i → OnIoc i (down_line w)
  by_words test i g =
      let t = g.says 0 in
      let n = none_passes is_reply is_said_value reply_no_value t.added t.mild in
      alike i (down_line w) g.generation_is (same_door i g.door_is g.vectors_is g.queues_is) refl
      (ap (λ ys. first_value (map said_of (up_on w 0) ++ ys)) t.is ∙ (ap first_value (sym (append_assoc (map said_of (up_on w 0)) (get_or w.ioc.up 0 []) t.added)) ∙ first_before (up_line w 0) t.added n))

  -- a link: while the controller is RESET no register is written, and the door is idle
  linked : is_reset (state_of w.ioc) ≡ true → OnIoc (record w.ioc { door = linked_up w.ioc.door }) (down_line w)
  linked r =
      record {
        shakes = resetting_stands (written_ahead (record w.ioc { door = linked_up w.ioc.door }) (down_line w)).door (value_coming w) (and_false _ _ g).0;
        handshake = λ c. p.handshake;
        status = λ c. p.status;
      }
    where
      g : in_begun w ≡ true
      g = k.phase_table.reset r

      quiet_now : how_many is_register_write (down_line w) ≡ 0
      quiet_now = s.nothing_is_written.reset (ap (λ c. c && is_reset (state_of w.ioc)) g ∙ r)

      same_bell : (c : Bool) → IsIdleDoor w.ioc.door → IsIdleDoor (if c then record (record w.ioc.door { reset_adapter = false; link_waits = true }) { state = ioc_state.Ready; link_waits = false } else record w.ioc.door { reset_adapter = false; link_waits = true })
      same_bell true i = record { handshake = i.handshake; status = i.status }
      same_bell false i = record { handshake = i.handshake; status = i.status }

      p : IsIdleDoor (written_ahead (record w.ioc { door = linked_up w.ioc.door }) (down_line w)).door
      p =
          let i = by_host.rest w h b s l (by_host.rest_begun w h b s l g) in
          let now = by_host.idle_alike w h b s l None w.ioc.door (written_ahead w.ioc (down_line w)).door (sym (quiet_ahead w.ioc (down_line w) quiet_now)) i in
          by_host.idle_alike w h b s l None (written_ahead (record w.ioc { door = linked_up w.ioc.door }) (down_line w)).door (linked_up w.ioc.door) (quiet_ahead (record w.ioc { door = linked_up w.ioc.door }) (down_line w) quiet_now) (same_bell (true && not w.ioc.door.hold_reset) now)

  told : (x : Back) (o : Happening Ioc) → News never_out w.ioc x o → OnIoc o.part (down_line w)
  told x o (SpeaksBack n g) = by_words never_out o.part g
  told x o (Unlinked n i z e) = subst (λ (y : Happening Ioc). OnIoc y.part (down_line w)) (sym e) here
  told x o (LinkedUp n i g r e) = subst (λ (y : Happening Ioc). OnIoc y.part (down_line w)) (sym e) (linked r)
  told x o (CalmTold i e) =
      subst (λ (y : Happening Ioc). OnIoc y.part (down_line w)) (sym e)
      (alike (say.says_on w.ioc 0 (said.Calm ∷ [])) (down_line w) refl (same_door (say.says_on w.ioc 0 (said.Calm ∷ [])) refl refl (Rattle.std.proofs.Common.length-set w.ioc.up 0 _)) refl
      (changes.said_of_more w.up w.ioc.up 0 0 (λ xs. first_value xs ≡ value_coming w) (said.Calm ∷ []) (λ xs f. first_before xs (said.Calm ∷ []) calm_none ∙ f) refl))
    where
      calm_none : how_many is_said_value (said.Calm ∷ []) ≡ 0
      calm_none = let c = how_many-cons is_said_value said.Calm [] in let n = how_many-nil {X = Said} is_said_value in omega (arith, c, n)

  -- ---- all cases

  abbrev OnWorld : World → Type 0
  OnWorld v = LockOn (queues_of v) v.host v.ioc (down_line v) (value_coming v)

  by_call : (y : Host) → AtDoor w y false → (y.stage ≡ stage.UnitReset → is_resetting w.host.mode ≡ false → w.host.mode ≡ state.Up) → OnWorld (record w { host = y })
  by_call y g u = by_host.host w h b s l y false (value_coming w) g (λ e. u) (λ e. refl) (λ e. no_first (up_line w 0) e)

  took : (queue : ℕ) (x : Up) (rest : List Up) → up_on w queue ≡ x ∷ rest → why_strange w.host queue x ≡ None → (y : Host) → AtDoor w y (is_value (heard_of queue x))
      → (is_value (heard_of queue x) ≡ false → y.stage ≡ stage.UnitReset → is_resetting w.host.mode ≡ false → w.host.mode ≡ state.Up) → OnWorld (record (with_up w queue rest) { host = y })
  took queue x rest e why y g u =
      resized (Rattle.std.proofs.Common.length-set w.up queue rest)
      (by_host.host w h b s l y (is_value (heard_of queue x)) (value_coming (with_up w queue rest)) g u same none)
    where
      resized : {n : ℕ} → n ≡ queues_of w → LockOn (queues_of w) y w.ioc (w.down ++ y.out) (value_coming (with_up w queue rest)) → LockOn n y w.ioc (w.down ++ y.out) (value_coming (with_up w queue rest))
      resized {n} z p = subst (λ q. LockOn q y w.ioc (w.down ++ y.out) (value_coming (with_up w queue rest))) (sym z) p

      same : is_value (heard_of queue x) ≡ false → value_coming (with_up w queue rest) ≡ value_coming w
      same n = changes.taken_of w.up w.ioc.up queue 0 (λ xs. first_value xs ≡ value_coming w) x rest e (λ xs f. sym (first_pass (said_of x) xs (sym (value_heard queue x) ∙ n)) ∙ f) refl

      nothing : (c : Bool) (n : ℕ) → n ≡ 0 → cond c n 0 ≡ n
      nothing true n e = refl
      nothing false n e = sym e

      on_queue : (z : Up) → why_strange w.host queue z ≡ None → cond (0 == queue) (one_if (is_said_value (said_of z))) 0 ≡ one_if (is_said_value (said_of z))
      on_queue (upward.Value v) t = let d = (value_is_due w queue v t).0 in ap (λ n. cond (0 == n) 1 0) d
      on_queue (upward.Reply d None p t2) t = nothing (0 == queue) 0 refl
      on_queue (upward.Reply d (Some g2) p t2) t = nothing (0 == queue) 0 refl
      on_queue (upward.Mark g2) t = nothing (0 == queue) 0 refl
      on_queue upward.Calm t = nothing (0 == queue) 0 refl

      none : how_many is_said_value (up_line w 0) ≡ one_if (is_value (heard_of queue x)) → value_coming (with_up w queue rest) ≡ None
      none n =
          let a = lines.taken is_said_value w.up w.ioc.up queue 0 x rest e in let c = on_queue x why in let vh = ap one_if (value_heard queue x) in
          no_first (up_line (with_up w queue rest) 0) (omega (arith, a, c, vh, n))

  put : (x : Down) (rest : List Down) → w.host.out ≡ x ∷ rest → OnWorld (record w { host = after_sent w.host x rest; down = w.down ++ x ∷ [] })
  put x rest e = by_item x (append_assoc w.down (x ∷ []) rest ∙ ap (λ xs. w.down ++ xs) (sym e))
    where
      by_item : (y : Down) → (w.down ++ x ∷ []) ++ rest ≡ down_line w → LockOn (queues_of w) (after_sent w.host y rest) w.ioc ((w.down ++ x ∷ []) ++ (after_sent w.host y rest).out) (value_coming w)
      by_item (down.Return address index) f = rw f here
      by_item (down.Write reg value) f = rw f here
      by_item (down.Read reg) f = rw f here
      by_item (down.Post d g q) f = rw f here
      by_item down.Stop f = rw f here

  put_up : (queue : ℕ) (y : Said) (rest : List Said) (z : Up) → say.outbox_of w.ioc queue ≡ y ∷ rest → up_of y (slice_get w.ioc.ring 0) ≡ Some z → OnWorld (with_up (record w { ioc = up_sent_on w.ioc queue }) queue (up_on w queue ++ z ∷ []))
  put_up queue y rest z e g =
      subst (λ n. LockOn n w.host (up_sent_on w.ioc queue) (down_line w) (value_coming (with_up (record w { ioc = up_sent_on w.ioc queue }) queue (up_on w queue ++ z ∷ [])))) (sym (Rattle.std.proofs.Common.length-set w.up queue (up_on w queue ++ z ∷ [])))
      (lock_alike (queues_of w) w.host.machine w.host.mode w.host.stage (rests_of w.host.machine w.host.mode w.host.stage w.host.reading w.host.asked w.ioc.generation) (written_ahead w.ioc (down_line w)).door (written_ahead (up_sent_on w.ioc queue) (down_line w)).door
      (value_coming (with_up (record w { ioc = up_sent_on w.ioc queue }) queue (up_on w queue ++ z ∷ []))) (sym a) (subst (λ c. LockOn (queues_of w) w.host w.ioc (down_line w) c) (sym q) here))
    where
      q : value_coming (with_up (record w { ioc = up_sent_on w.ioc queue }) queue (up_on w queue ++ z ∷ [])) ≡ value_coming w
      q = changes.put_of w.up w.ioc.up queue 0 (λ xs. first_value xs ≡ value_coming w) y rest z e (b.facts.flights.sizes.lanes ∙ sym b.facts.flights.sizes.outboxes) (λ xs ys f. sym (first_put y (slice_get w.ioc.ring 0) z g xs ys) ∙ f) refl

      a : core (written_ahead (up_sent_on w.ioc queue) (down_line w)).door ≡ core (written_ahead w.ioc (down_line w)).door
      a = (alike_ahead (up_sent_on w.ioc queue) w.ioc (down_line w) (same_door (up_sent_on w.ioc queue) refl refl (Rattle.std.proofs.Common.length-set w.ioc.up queue _))).door

  abbrev Kept : World → Type 0
  Kept v = is_fault (state_of v.ioc) ≡ false → OnWorld v

  owes : Owes Kept w
  owes =
      record {
        host_puts = λ x rest e v. put x rest e;
        host_takes = λ queue x rest e y v. took queue x rest e y (Rattle.mpt_rules.specs.Host.Takes.hears_up w.host queue x).part (at.took w h b queue x rest e y) (took_up w h b queue x);
        host_told = λ i t v. by_call (Rattle.mpt_rules.specs.World.Inputs.host_told w.host i).part (at.told w h b i t) (told_up w h b i t);
        host_looks = λ e v. by_call (Rattle.mpt_rules.specs.Host.Takes.looks w.host) (at.looked w h b e) (looked_up w h b);
        host_stops = λ e v. by_call (Rattle.mpt_rules.specs.Host.Takes.stops w.host) (at.stopped w h b) (stopped_up w h b);
        ioc_takes = λ x rest e v. taken x rest e v;
        ioc_high = λ p rest e v. by_words is_asked_out (ioc_step.works_on (record w.ioc { high = rest }) p).part (high_words w h b p rest);
        ioc_normal = λ p rest e v. by_words is_asked_out (ioc_step.works_on (record w.ioc { normal = rest }) p).part (normal_words w h b p rest);
        ioc_puts_out = λ x rest e v. alike (record w.ioc { out = rest }) (down_line w) refl (same_door (record w.ioc { out = rest }) refl refl refl) refl refl;
        ioc_takes_back = λ x rest e v. told x (adapter.takes_back w.ioc x) (news never_out w.ioc x);
        ioc_puts = λ queue y rest z e g v. put_up queue y rest z e g;
        fabric_takes = λ x rest e v. here;
        fabric_says = λ x rest e v. here;
        fabric_puts = λ x rest e v. here;
        fabric_runs = λ tag address e v. here;
        plugs = λ address expander phy v. here;
        unplugs = λ address v. here;
        calms = λ v. here;
      }

  pub locks_kept : (c : Case) → LockOn (queues_of (happens w c)) (happens w c).host (happens w c).ioc (down_line (happens w c)) (value_coming (happens w c))
  locks_kept c = kept Kept w b.plain owes (λ v. here) c (whole_kept w h b.facts b.plain c)
