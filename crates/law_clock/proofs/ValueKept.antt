-- Each case keeps that a value is the last word of a reset on queue 0.
use Rattle.std.proofs.Common.{◌≡◌, ℕ, zero, suc, ◌+◌, ◌%◌, ◌^◌, ◌≤◌, ◌==◌, ◌&&◌, ◌||◌, ◌⊎◌, inl, inr, not, cond, if◌then◌else◌, nat_lt, Bool, true, false, List, [], ◌∷◌, ◌++◌, map, get_or, set, Option, Some, None, is_some, refl, ap, sym, ◌∙◌, subst, arith, append_assoc}
use Rattle.std.specs.List.{filter}
use Rattle.mpi_doorbell.specs.DoorRegisters.{is_fault}
use Rattle.mpi_doorbell.specs.declared.state.IocState.{IocState}
use Rattle.mpi_doorbell.specs.declared.state.IocState.TheVariants as ioc_state
use Rattle.mpt_trace.specs.declared.host_state.HostState.{HostState}
use Rattle.mpt_trace.specs.declared.host_state.HostState.TheVariants as state
use Rattle.mpt_trace.specs.declared.item.Back.{Back}
use Rattle.mpt_trace.specs.declared.item.Down.{Down}
use Rattle.mpt_trace.specs.declared.item.Down.TheVariants as down
use Rattle.mpt_trace.specs.declared.item.Out.TheVariants as out
use Rattle.mpt_trace.specs.declared.item.Up.{Up}
use Rattle.mpt_trace.specs.declared.item.Up.TheVariants as upward
use Rattle.mpt_rules.specs.declared.said.Said.{Said}
use Rattle.mpt_rules.specs.declared.said.Said.TheVariants as said
use Rattle.mpt_rules.specs.World.Cases.{Case, happens}
use Rattle.mpt_rules.specs.World.Counts.{how_many, is_register_write, one_if}
use Rattle.mpt_rules.specs.Host.Doorbell.{is_reset_item}
use Rattle.mpt_rules.specs.Host.Parts.{Host}
use Rattle.mpt_rules.specs.Host.Returns.{after_sent}
use Rattle.mpt_rules.specs.Ioc.Takes as adapter
use Rattle.mpt_rules.specs.Ioc.Parts.{Ioc, state_of}
use Rattle.mpt_rules.specs.Ioc.Replies as say
use Rattle.mpt_rules.specs.Ioc.Resets.{marked, next_generation, outlives_reset}
use Rattle.mpt_rules.specs.Ioc.Steps as step
use Rattle.mpt_rules.specs.Ioc.Tables.{is_operational, is_ready, is_reset}
use Rattle.mpt_rules.specs.World.Lines.{down_line, said_of, up_line}
use Rattle.mpt_rules.specs.Outcome.{Happening}
use Rattle.mpt_rules.specs.World.Weight.{is_read, is_said_value}
use Rattle.mpt_rules.specs.World.State.{World, up_on, with_up}
use Rattle.mpt_rules.proofs.Counts.{how_many-append}
use Rattle.law_facts.specs.Clock.{Clock, ValueIsLast, in_begun, is_linked_up, is_live}
use Rattle.law_facts.specs.History.{History}
use Rattle.law_facts.specs.Words.{is_bare, is_off, is_reply, others}
use Rattle.law_clock.specs.Premises.{Before, Behind}
use Rattle.law_moves.proofs.Cases.{Owes, kept}
use Rattle.law_moves.proofs.Counted.{Grown, filtered, grown-before, grown-count, how_many-cons, how_many-nil, later, later-is, later-more, later-none, later-opened, later-taken, none_passes}
use Rattle.law_moves.proofs.HostGoes as goes
use Rattle.law_moves.proofs.HostGoes.{Front, Heard, HostGoes, Same, Says, Hands, Values, MarkTaken, MarkOver, Starts, Asks, AsksNow, Looks, StopsNow}
use Rattle.law_moves.proofs.HostSpeaks.{Rises, Stays, ComesUp}
use Rattle.law_moves.proofs.IocSpeaks.{IocSpeaks, News, Speaks as SpeaksBack, Unlinked, LinkedUp, CalmTold, CalmSaid, Deaf, Silent, deaf, is_asked_out, never_out, news}
use Rattle.law_moves.proofs.IocTakes.{Takes, Faults, Written, Operates, Forgets, Reads, Posts, DropsPost, Returns, DropsReturn, Stops, takes}
use Rattle.law_clock.proofs.NoReplyKept as replies
use Rattle.law_clock.proofs.PhaseKept as phase
use Rattle.law_moves.proofs.Phases.{and_false, begun_of, not_begun, off_second, off_test, phased_of}
use Rattle.law_moves.proofs.UpChanges.{line_of, put_of, said_of_more, swapped, swapped_later, taken_of}
use Rattle.law_moves.proofs.UpLines as lines
use Rattle.law_moves.proofs.Valuing.{HearsValue, IsOverNow, IsReady, SpeaksOn, TurnsOn, UnitLate}
use Rattle.mpt_wire.specs.Machine.Causes.{is_resetting}

pub false_true : (c : Bool) → c ≡ false → c ≡ true → ⊥
false_true true e f = cc
false_true false e f = cc

-- the host's test of the phase
abbrev pub BegunOf : World → Host → Bool
BegunOf w x = is_resetting x.mode && (x.asked == w.ioc.generation)

module _ (w : World) (h : History) (b : Before w h) where
  k : Clock w h
  k = b.facts.clock

  same_begun : (x : Host) → x.mode ≡ w.host.mode → x.asked ≡ w.host.asked → BegunOf w x ≡ true → in_begun w ≡ true
  same_begun x m a g = sym (ap (λ y. is_resetting y && (x.asked == w.ioc.generation)) m ∙ ap (λ y. is_resetting w.host.mode && (y == w.ioc.generation)) a) ∙ g

  never : (x : Host) → is_resetting x.mode ≡ false → BegunOf w x ≡ true → in_begun w ≡ true
  never x m g = absurd (false_true (is_resetting x.mode) m (and_false (is_resetting x.mode) (x.asked == w.ioc.generation) g).0)

  asking : (x : Host) → is_resetting w.host.mode ≡ false → x.asked ≡ (w.host.asked + 1) % 2 ^ 32 → BegunOf w x ≡ true → in_begun w ≡ true
  asking x m a g =
      let p = phased_of w k.phase_table in
      let lev = phase.level_phase w.host.mode w.host.asked w.ioc.generation (state_of w.ioc) p m in
      let f = not_begun x.mode x.asked w.ioc.generation p.generation_fits (a ∙ ap (λ i. (i + 1) % 2 ^ 32) lev.0) in
      absurd (false_true (x.asked == w.ioc.generation) f (and_false (is_resetting x.mode) (x.asked == w.ioc.generation) g).1)

  pub normal_rise : {en : Bool} (a c : HostState) → is_resetting a ≡ false → Rises en a c → is_resetting c ≡ false
  normal_rise a c m (Stays e) = ap is_resetting e ∙ m
  normal_rise a c m (ComesUp u r e) = ap is_resetting e

  -- a host makes no reset begun
  valued_begun : (x : Host) → HearsValue w x → BegunOf w x ≡ true → in_begun w ≡ true
  valued_begun x (TurnsOn c u t d lst) g = same_begun x t.mode_is t.asked_is g
  valued_begun x (UnitLate m r u) g = same_begun x u.turn.mode_is u.turn.asked_is g
  valued_begun x (SpeaksOn m e t n q) g = never x (normal_rise m.mode x.mode (ap is_resetting (t.mode_is ∙ e)) q.rises) g
  valued_begun x (IsReady m r l t n a d e) g = same_begun x (ap (λ (y : Host). y.mode) e ∙ t.mode_is) (ap (λ (y : Host). y.asked) e ∙ t.asked_is) g
  valued_begun x (IsOverNow m r l t n a t2) g = never x (ap is_resetting t2.mode_is) g

  pub keeps_begun : {t : Heard} (x : Host) → HostGoes w x t → BegunOf w x ≡ true → in_begun w ≡ true
  keeps_begun x (Same e) g = same_begun x (ap (λ (y : Host). y.mode) e) (ap (λ (y : Host). y.asked) e) g
  keeps_begun x (Says m o en q sp) g = never x (normal_rise w.host.mode x.mode m q.rises) g
  keeps_begun x (Hands m q ix rf) g = by_rise q.rises
    where
      by_rise : Rises false w.host.mode x.mode → in_begun w ≡ true
      by_rise (Stays e) = same_begun x e q.asked_is g
      by_rise (ComesUp u r e) = absurd (cc)
  keeps_begun x (Values r vl fr v) g = valued_begun x v g
  keeps_begun x (MarkTaken queue m e) g = same_begun x (ap (λ (y : Host). y.mode) e) (ap (λ (y : Host). y.asked) e) g
  keeps_begun x (MarkOver queue m gn fr d a t) g = never x (ap is_resetting t.mode_is) g
  keeps_begun x (Starts e t) g = never x (ap is_resetting t.mode_is) g
  keeps_begun x (Asks st m o r e) g = asking x m (ap (λ (y : Host). y.asked) e) g
  keeps_begun x (AsksNow st c m o r cs t y) g = asking x m t.asked_is g
  keeps_begun x (Looks u r t) g = same_begun x t.mode_is t.asked_is g
  keeps_begun x (StopsNow u e) g = same_begun x (ap (λ (y : Host). y.mode) e) (ap (λ (y : Host). y.asked) e) g

-- over fields, of the line of queue 0
pub record LastStands (begun ready linked reading : Bool) (xs : List Said) : Type 0 where
  pub last : begun ≡ true → later is_said_value is_reply xs ≡ 0
  pub linked_is : ready ≡ true → linked ≡ true
  pub unread : ready ≡ true → reading ≡ false
  pub none : ready ≡ true → how_many is_reply xs ≡ 0

abbrev pub LastWorld : World → Type 0
LastWorld v = LastStands (in_begun v) v.host.door_ready (is_linked_up v) v.host.reading (up_line v 0)

stands_of : (w : World) → ValueIsLast w → LastWorld w
stands_of w l = record { last = λ g. sym (later-is is_said_value is_reply (up_line w 0)) ∙ l.last g; linked_is = λ r. (l.ready r).linked; unread = λ r. (l.ready r).reading; none = λ r. (l.ready r).replies }

of_stands : (w : World) → LastWorld w → ValueIsLast w
of_stands w l = record { last = λ g. later-is is_said_value is_reply (up_line w 0) ∙ l.last g; ready = λ r. record { linked = l.linked_is r; reading = l.unread r; replies = l.none r } }

-- no value on queue 0 of an outbox that a reset leaves
left_values : (g : ℕ) (us : List (List Said)) → how_many is_said_value (get_or (marked g (map (filter outlives_reset) us)) 0 []) ≤ how_many is_said_value (get_or us 0 [])
left_values g [] = let a = how_many-nil {X = Said} is_said_value in omega (arith, a)
left_values g (u ∷ us) = filtered is_said_value outlives_reset u

module _ (w : World) (h : History) (b : Before w h) where
  s : LastWorld w
  s = stands_of w (k w h b).value_is_last

  abbrev Kept : World → Type 0
  Kept v = Behind v → LastWorld v

  -- the host, with what is left of the line
  abbrev On : Host → List Said → Type 0
  On x xs = LastStands (BegunOf w x) x.door_ready (BegunOf w x && is_ready (state_of w.ioc)) x.reading xs

  record Left (xs : List Said) : Type 0 where
    last : later is_said_value is_reply (up_line w 0) ≡ 0 → later is_said_value is_reply xs ≡ 0
    fewer : how_many is_reply xs ≤ how_many is_reply (up_line w 0)

  no_more : (xs : List Said) → Left xs → how_many is_reply (up_line w 0) ≡ 0 → how_many is_reply xs ≡ 0
  no_more xs l z = let f = l.fewer in omega (arith, f, z)

  -- a host that isn't done with its Doorbell
  unready : (x : Host) (xs : List Said) → Left xs → (BegunOf w x ≡ true → in_begun w ≡ true) → (x.door_ready ≡ true → ⊥) → On x xs
  unready x xs l g r = record { last = λ a. l.last (s.last (g a)); linked_is = λ a. absurd (r a); unread = λ a. absurd (r a); none = λ a. absurd (r a) }

  ready_normal : is_resetting w.host.mode ≡ false → w.host.door_ready ≡ true → ⊥
  ready_normal m r = false_true (is_resetting w.host.mode) m (and_false _ _ (and_false _ _ (s.linked_is r)).0).0

  ready_read : w.host.reading ≡ true → w.host.door_ready ≡ true → ⊥
  ready_read r d = false_true w.host.reading (s.unread d) r

  same : (x : Host) (xs : List Said) → Left xs → x.mode ≡ w.host.mode → x.asked ≡ w.host.asked → x.door_ready ≡ w.host.door_ready → x.reading ≡ w.host.reading → On x xs
  same x xs l m a d r =
      let f : BegunOf w x ≡ in_begun w = ap (λ y. is_resetting y && (x.asked == w.ioc.generation)) m ∙ ap (λ y. is_resetting w.host.mode && (y == w.ioc.generation)) a in
      record {
        last = λ y. l.last (s.last (sym f ∙ y));
        linked_is = λ y. ap (λ c. c && is_ready (state_of w.ioc)) f ∙ s.linked_is (sym d ∙ y);
        unread = λ y. r ∙ s.unread (sym d ∙ y);
        none = λ y. no_more xs l (s.none (sym d ∙ y));
      }

  front_gone : (x : Up) → Front w 0 x → is_said_value (said_of x) ≡ true → is_reply (said_of x) ≡ false → in_begun w ≡ true → how_many is_reply (up_line w 0) ≡ 0
  front_gone x f t n g = replies.front_gone w h b 0 x is_said_value f t n (s.last g)

  valued : (x : Host) (xs : List Said) (v : ℕ) → w.host.reading ≡ true → Front w 0 (upward.Value v) → Left xs → HearsValue w x → On x xs
  valued x xs v r fr l (TurnsOn c u t d lst) = unready x xs l (same_begun w h b x t.mode_is t.asked_is) (λ y. ready_read r (sym t.ready_is ∙ y))
  valued x xs v r fr l (UnitLate m rt u) = unready x xs l (same_begun w h b x u.turn.mode_is u.turn.asked_is) (λ y. ready_read r (sym u.turn.ready_is ∙ y))
  valued x xs v r fr l (SpeaksOn m e t n q) = unready x xs l (valued_begun w h b x (SpeaksOn m e t n q)) (λ y. ready_read r (sym (q.ready_is ∙ t.ready_is) ∙ y))
  valued x xs v r fr l (IsReady m rs lk t n a d e) =
      let md : x.mode ≡ w.host.mode = ap (λ (y : Host). y.mode) e ∙ t.mode_is in
      let ak : x.asked ≡ w.host.asked = ap (λ (y : Host). y.asked) e ∙ t.asked_is in
      let f : BegunOf w x ≡ in_begun w = ap (λ y. is_resetting y && (x.asked == w.ioc.generation)) md ∙ ap (λ y. is_resetting w.host.mode && (y == w.ioc.generation)) ak in
      let nb : t.waits ≡ false = sym t.machine_is ∙ ap is_some n in
      record {
        last = λ y. l.last (s.last (sym f ∙ y));
        linked_is = λ y. ap (λ c. c && is_ready (state_of w.ioc)) f ∙ lk;
        unread = λ y. ap (λ (z : Host). z.reading) e ∙ (t.reading_is ∙ ap (λ c. c || false) nb);
        none = λ y. no_more xs l (front_gone (upward.Value v) fr refl refl (and_false _ _ lk).0);
      }
  valued x xs v r fr l (IsOverNow m rs lk t n a t2) = unready x xs l (never w h b x (ap is_resetting t2.mode_is)) (λ y. false_true x.door_ready t2.ready_is y)

  host : {t : Heard} (x : Host) (xs : List Said) → Left xs → HostGoes w x t → On x xs
  host x xs l (Same e) = same x xs l (ap (λ (y : Host). y.mode) e) (ap (λ (y : Host). y.asked) e) (ap (λ (y : Host). y.door_ready) e) (ap (λ (y : Host). y.reading) e)
  host x xs l (Says m o en q sp) = unready x xs l (keeps_begun w h b x (Says m o en q sp)) (λ y. ready_normal m (sym q.ready_is ∙ y))
  host x xs l (Hands m q ix rf) = by_rise q.rises
    where
      by_rise : Rises false w.host.mode x.mode → On x xs
      by_rise (Stays e) = same x xs l e q.asked_is q.ready_is q.reading_is
      by_rise (ComesUp u r e) = absurd (cc)
  host x xs l (Values r v fr hv) = valued x xs v r fr l hv
  host x xs l (MarkTaken queue m e) = same x xs l (ap (λ (y : Host). y.mode) e) (ap (λ (y : Host). y.asked) e) (ap (λ (y : Host). y.door_ready) e) (ap (λ (y : Host). y.reading) e)
  host x xs l (MarkOver queue m gn fr d a t) = unready x xs l (keeps_begun w h b x (MarkOver queue m gn fr d a t)) (λ y. false_true x.door_ready t.ready_is y)
  host x xs l (Starts e t) = unready x xs l (never w h b x (ap is_resetting t.mode_is)) (λ y. ready_normal (ap is_resetting e) (sym t.ready_is ∙ y))
  host x xs l (Asks st m o r e) = unready x xs l (asking w h b x m (ap (λ (y : Host). y.asked) e)) (λ y. false_true x.door_ready (ap (λ (z : Host). z.door_ready) e) y)
  host x xs l (AsksNow st c m o r cs t z) = unready x xs l (asking w h b x m t.asked_is) (λ y. false_true x.door_ready t.ready_is y)
  host x xs l (Looks u r t) = unready x xs l (same_begun w h b x t.mode_is t.asked_is) (λ y. ready_normal (goes.up_normal w.host.mode u).0 (sym t.ready_is ∙ y))
  host x xs l (StopsNow u e) = same x xs l (ap (λ (y : Host). y.mode) e) (ap (λ (y : Host). y.asked) e) (ap (λ (y : Host). y.door_ready) e) (ap (λ (y : Host). y.reading) e)

  all_left : Left (up_line w 0)
  all_left = record { last = λ z. z; fewer = let n = how_many is_reply (up_line w 0) in omega arith }

  taken_left : (queue : ℕ) (x : Up) (rest : List Up) → up_on w queue ≡ x ∷ rest → Left (line_of (set w.up queue rest) w.ioc.up 0)
  taken_left queue x rest e =
      record {
        last = λ z. taken_of w.up w.ioc.up queue 0 (λ ys. later is_said_value is_reply ys ≡ 0) x rest e (λ ys p. later-taken is_said_value is_reply (said_of x) ys p) z;
        fewer = taken_of w.up w.ioc.up queue 0 (λ ys. how_many is_reply ys ≤ how_many is_reply (up_line w 0)) x rest e (λ ys p. let a = how_many-cons is_reply (said_of x) ys in omega (arith, a, p)) (omega arith);
      }

  -- ---- the controller

  abbrev In : Ioc → List Said → Type 0
  In i xs = LastStands (is_resetting w.host.mode && (w.host.asked == i.generation)) w.host.door_ready ((is_resetting w.host.mode && (w.host.asked == i.generation)) && is_ready (state_of i)) w.host.reading xs

  -- more that is no reply, of a controller in the same state
  told_more : (i : Ioc) (xs : List Said) → i.generation ≡ w.ioc.generation → (w.host.door_ready ≡ true → is_ready (state_of w.ioc) ≡ true → is_ready (state_of i) ≡ true)
      → (later is_said_value is_reply (up_line w 0) ≡ 0 → later is_said_value is_reply xs ≡ 0) → how_many is_reply xs ≡ how_many is_reply (up_line w 0) → In i xs
  told_more i xs g r l f =
      let e : (is_resetting w.host.mode && (w.host.asked == i.generation)) ≡ in_begun w = ap (λ n. is_resetting w.host.mode && (w.host.asked == n)) g in
      record {
        last = λ y. l (s.last (sym e ∙ y));
        linked_is = λ y. let t = and_false _ _ (s.linked_is y) in ap (λ c. c && is_ready (state_of i)) (e ∙ t.0) ∙ r y t.1;
        unread = s.unread;
        none = λ y. f ∙ s.none y;
      }

  same_line : (i : Ioc) → i.generation ≡ w.ioc.generation → state_of i ≡ state_of w.ioc → i.up ≡ w.ioc.up → In i (line_of w.up i.up 0)
  same_line i g st u = told_more i (line_of w.up i.up 0) g (λ d r. ap is_ready st ∙ r) (λ z. ap (λ us. later is_said_value is_reply (line_of w.up us 0)) u ∙ z) (ap (λ us. how_many is_reply (line_of w.up us 0)) u)

  -- a controller that is OPERATIONAL: no reset is begun
  live_line : (i : Ioc) (xs : List Said) → is_live w ≡ true → i.generation ≡ w.ioc.generation → In i xs
  live_line i xs v g =
      let f : (is_resetting w.host.mode && (w.host.asked == i.generation)) ≡ false = ap (λ n. is_resetting w.host.mode && (w.host.asked == n)) g ∙ ((k w h b).phase_table.live v).0 in
      let nr : w.host.door_ready ≡ true → ⊥ = λ y. false_true (in_begun w) ((k w h b).phase_table.live v).0 (and_false _ _ (s.linked_is y)).0 in
      record {
        last = λ y. absurd (false_true (is_resetting w.host.mode && (w.host.asked == i.generation)) f y);
        linked_is = λ y. absurd (nr y);
        unread = λ y. absurd (nr y);
        none = λ y. absurd (nr y);
      }

  more_said : (x : Said) → is_reply x ≡ false → (later is_said_value is_reply (up_line w 0) ≡ 0 → later is_said_value is_reply (line_of w.up (set w.ioc.up 0 (get_or w.ioc.up 0 [] ++ x ∷ [])) 0) ≡ 0) × (how_many is_reply (line_of w.up (set w.ioc.up 0 (get_or w.ioc.up 0 [] ++ x ∷ [])) 0) ≡ how_many is_reply (up_line w 0))
  more_said x e =
      let o = how_many-cons is_reply x [] in let n = how_many-nil {X = Said} is_reply in let z : one_if (is_reply x) ≡ 0 = ap one_if e in (
        λ y. said_of_more w.up w.ioc.up 0 0 (λ ys. later is_said_value is_reply ys ≡ 0) (x ∷ []) (λ ys p. later-more is_said_value is_reply ys (x ∷ []) p (omega (arith, o, n, z))) y,
        said_of_more w.up w.ioc.up 0 0 (λ ys. how_many is_reply ys ≡ how_many is_reply (up_line w 0)) (x ∷ []) (λ ys p. let a = how_many-append is_reply ys (x ∷ []) in omega (arith, a, o, n, z, p)) refl,
      )

  -- at the reset's write no value is on its way
  no_value : (x : Down) (rest : List Down) → w.down ≡ x ∷ rest → is_reset_item x ≡ true → how_many is_said_value (up_line w 0) ≡ 0
  unfolding Rattle.mpt_rules.specs.World.Counts.read_count Rattle.mpt_rules.specs.World.Counts.value_count Rattle.mpt_rules.specs.World.Counts.register_write_count
  no_value x rest e t = by_read w.host.reading refl
    where
      is_write : (y : Down) → is_reset_item y ≡ true → is_register_write y ≡ true
      is_write (down.Write reg value) f = by_test (reg == Rattle.mpi_doorbell.specs.declared.registers.TheConstants.REPLY_POST_HOST_INDEX) refl
        where
          by_test : (c : Bool) → (reg == Rattle.mpi_doorbell.specs.declared.registers.TheConstants.REPLY_POST_HOST_INDEX) ≡ c → not c ≡ true
          by_test true g = absurd (false_true (is_reset_item (down.Write reg value)) (Rattle.law_clock.proofs.ResetWriteKept.spoken_no_reset (down.Write reg value) g) f)
          by_test false g = refl
      is_write (down.Read reg) f = absurd (cc)
      is_write (down.Post d g p) f = absurd (cc)
      is_write (down.Return a i) f = absurd (cc)
      is_write down.Stop f = absurd (cc)

      one : how_many is_register_write (down_line w) ≡ 0 → ⊥
      one z =
          let a = ap (λ xs. how_many is_register_write (xs ++ w.host.out)) e in
          let c = how_many-cons is_register_write x (rest ++ w.host.out) in
          let o : one_if (is_register_write x) ≡ 1 = ap one_if (is_write x t) in
          omega (arith, z, a, c, o)

      by_count : (n : ℕ) → how_many is_read (down_line w) ≡ n → w.host.reading ≡ true → how_many is_said_value (up_line w 0) ≡ 0
      by_count zero z r = absurd (one ((k w h b).writes_before_read.gone r z))
      by_count (suc n) z r = let o = (k w h b).one_read.one in let c : one_if w.host.reading ≡ 1 = ap one_if r in omega (arith, o, c, z)

      by_read : (c : Bool) → w.host.reading ≡ c → how_many is_said_value (up_line w 0) ≡ 0
      by_read true r = by_count (how_many is_read (down_line w)) refl r
      by_read false r = let o = (k w h b).one_read.one in let c : one_if w.host.reading ≡ 0 = ap one_if r in omega (arith, o, c)

  reset_front : (x : Down) → (is_reset_item x || Rattle.law_facts.specs.Words.is_stray_reset x) ≡ true → (rest : List Down) → w.down ≡ x ∷ rest → is_reset_item x ≡ true
  reset_front = Rattle.law_clock.proofs.LoadsKept.reset_front w h b

  taken : (x : Down) (rest : List Down) (i : Ioc) → w.down ≡ x ∷ rest → Takes w.ioc x i → is_fault (state_of i) ≡ false → In i (line_of w.up i.up 0)
  taken x rest i e (Faults y j f) n = absurd (cc)
  taken x rest i e (Written reg value j nr st sa) n = same_line i (ap (λ (y : Ioc). y.generation) sa) st (ap (λ (y : Ioc). y.up) sa)
  taken x rest i e (Operates value j nr r st sa) n = operates (ap (λ (y : Ioc). y.generation) sa) (ap (λ (y : Ioc). y.up) sa)
    where
      no_begun : (c : Bool) → in_begun w ≡ c → c ≡ false
      no_begun true g =
          let z = (k w h b).one_reset_write.since g in
          let f = ap (λ xs. how_many Rattle.law_facts.specs.Words.is_doorbell_write (xs ++ w.host.out)) e in
          let c = how_many-cons Rattle.law_facts.specs.Words.is_doorbell_write (down.Write Rattle.mpi_doorbell.specs.declared.registers.TheConstants.DOORBELL value) (rest ++ w.host.out) in
          absurd (omega (arith, z, f, c))
      no_begun false g = refl

      operates : i.generation ≡ w.ioc.generation → i.up ≡ w.ioc.up → In i (line_of w.up i.up 0)
      operates gn u =
          let nb = no_begun (in_begun w) refl in
          let f : (is_resetting w.host.mode && (w.host.asked == i.generation)) ≡ false = ap (λ m. is_resetting w.host.mode && (w.host.asked == m)) gn ∙ nb in
          let nr : w.host.door_ready ≡ true → ⊥ = λ y. false_true (in_begun w) nb (and_false _ _ (s.linked_is y)).0 in
          record {
            last = λ y. absurd (false_true (is_resetting w.host.mode && (w.host.asked == i.generation)) f y);
            linked_is = λ y. absurd (nr y);
            unread = λ y. absurd (nr y);
            none = λ y. absurd (nr y);
          }
  taken x rest i e (Forgets reg value d r) n =
      let a = phase.asked_now w h b (down.Write reg value) rest e r in
      let nb = (and_false (is_resetting w.host.mode && not (w.host.asked == w.ioc.generation)) (not w.host.returning) a).0 in
      let nr : w.host.door_ready ≡ true → ⊥ = λ y. both (w.host.asked == w.ioc.generation) (and_false _ _ nb).1 (and_false _ _ (and_false _ _ (s.linked_is y)).0).1 in
      let v = no_value (down.Write reg value) rest e (reset_front (down.Write reg value) r rest e) in
      let c = how_many-append is_said_value (map said_of (get_or w.up 0 [])) (get_or w.ioc.up 0 []) in
      let c2 = how_many-append is_said_value (map said_of (get_or w.up 0 [])) (get_or (marked (next_generation w.ioc) (map (filter outlives_reset) w.ioc.up)) 0 []) in
      let f = left_values (next_generation w.ioc) w.ioc.up in
      record {
        last = λ y. later-none is_said_value is_reply (map said_of (get_or w.up 0 []) ++ get_or (marked (next_generation w.ioc) (map (filter outlives_reset) w.ioc.up)) 0 []) (omega (arith, v, c, c2, f));
        linked_is = λ y. absurd (nr y);
        unread = λ y. absurd (nr y);
        none = λ y. absurd (nr y);
      }
    where
      both : (c : Bool) → not c ≡ true → c ≡ true → ⊥
      both true e f = cc
      both false e f = cc
  taken x rest i e (Reads reg value) n = let m = more_said (said.Value value) refl in told_more (say.says_on w.ioc 0 (said.Value value ∷ [])) (line_of w.up (set w.ioc.up 0 (get_or w.ioc.up 0 [] ++ said.Value value ∷ [])) 0) refl (λ d r. r) m.0 m.1
  taken x rest i e (Posts d f q j o sa) n = same_line i (ap (λ (y : Ioc). y.generation) sa) (ap (λ (y : Ioc). state_of y) sa) (ap (λ (y : Ioc). y.up) sa)
  taken x rest i e (DropsPost d f q o) n = s
  taken x rest i e (Returns address index j o sa) n = same_line i (ap (λ (y : Ioc). y.generation) sa) (ap (λ (y : Ioc). state_of y) sa) (ap (λ (y : Ioc). y.up) sa)
  taken x rest i e (DropsReturn address index o) n = s
  taken x rest i e Stops n = s

  by_deaf : (i : Ioc) → i.generation ≡ w.ioc.generation → (w.host.door_ready ≡ true → is_ready (state_of w.ioc) ≡ true → is_ready (state_of i) ≡ true) → Deaf w.ioc i.up → In i (line_of w.up i.up 0)
  by_deaf i g r (Silent e) = told_more i (line_of w.up i.up 0) g r (λ z. ap (λ us. later is_said_value is_reply (line_of w.up us 0)) e ∙ z) (ap (λ us. how_many is_reply (line_of w.up us 0)) e)
  by_deaf i g r (CalmSaid e) =
      let m = more_said said.Calm refl in
      told_more i (line_of w.up i.up 0) g r (λ z. ap (λ us. later is_said_value is_reply (line_of w.up us 0)) e ∙ m.0 z) (ap (λ us. how_many is_reply (line_of w.up us 0)) e ∙ m.1)

  -- what the state is behind an item of the fabric
  ready_on : (x : Back) (o : Happening Ioc) → News never_out w.ioc x o → is_ready (state_of w.ioc) ≡ true → is_ready (state_of o.part) ≡ true
  ready_on x o (SpeaksBack l q) r = ap (λ d. is_ready d.state) q.door_is ∙ r
  ready_on x o (Unlinked n i z e) r = ap (λ (y : Happening Ioc). is_ready (state_of y.part)) e ∙ r
  ready_on x o (LinkedUp n i g z e) r = absurd (reset_ready (state_of w.ioc) z r)
    where
      reset_ready : (c : IocState) → is_reset c ≡ true → is_ready c ≡ true → ⊥
      reset_ready ioc_state.Reset e f = cc
      reset_ready ioc_state.Ready e f = cc
      reset_ready ioc_state.Operational e f = cc
      reset_ready (ioc_state.Fault code) e f = cc
  ready_on x o (CalmTold i e) r = ap (λ (y : Happening Ioc). is_ready (state_of y.part)) e ∙ r

  told : (x : Back) → In (adapter.takes_back w.ioc x).part (line_of w.up (adapter.takes_back w.ioc x).part.up 0)
  told x = by_live (is_live w) refl
    where
      nw : News never_out w.ioc x (adapter.takes_back w.ioc x)
      nw = news never_out w.ioc x

      by_live : (c : Bool) → is_live w ≡ c → In (adapter.takes_back w.ioc x).part (line_of w.up (adapter.takes_back w.ioc x).part.up 0)
      by_live true v = live_line (adapter.takes_back w.ioc x).part (line_of w.up (adapter.takes_back w.ioc x).part.up 0) v (replies.generation_is w h b x (adapter.takes_back w.ioc x) nw)
      by_live false v = by_deaf (adapter.takes_back w.ioc x).part (replies.generation_is w h b x (adapter.takes_back w.ioc x) nw) (λ d r. ready_on x (adapter.takes_back w.ioc x) nw r) (deaf w.ioc v x)

  worked : (i : Ioc) → IocSpeaks is_asked_out w.ioc i → (xs : List Rattle.mpt_rules.specs.declared.post.Post.Post) (x : Rattle.mpt_rules.specs.declared.post.Post.Post) (rest : List Rattle.mpt_rules.specs.declared.post.Post.Post) → xs ≡ x ∷ rest → (is_bare (state_of w.ioc) ≡ true → xs ≡ []) → In i (line_of w.up i.up 0)
  worked i q xs x rest e f = by_live (is_live w) refl
    where
      by_live : (c : Bool) → is_live w ≡ c → In i (line_of w.up i.up 0)
      by_live true v = live_line i (line_of w.up i.up 0) v q.generation_is
      by_live false v = let c = f (replies.ready_live (state_of w.ioc) (k w h b).phase_table.whole v) in absurd (cc)

  put_up : (queue : ℕ) (y : Said) (rest : List Said) (z : Up) → say.outbox_of w.ioc queue ≡ y ∷ rest → Rattle.mpt_rules.specs.Ioc.Sending.up_of y (Rattle.std.proofs.Common.slice_get w.ioc.ring 0) ≡ Some z
      → LastWorld (with_up (record w { ioc = Rattle.mpt_rules.specs.Ioc.Sending.up_sent_on w.ioc queue }) queue (up_on w queue ++ z ∷ []))
  put_up queue y rest z e u =
      let a = lines.put_alike y (Rattle.std.proofs.Common.slice_get w.ioc.ring 0) z u in
      put_of w.up w.ioc.up queue 0 (λ xs. LastStands (in_begun w) w.host.door_ready (is_linked_up w) w.host.reading xs) y rest z e (b.facts.flights.sizes.lanes ∙ sym b.facts.flights.sizes.outboxes)
      (λ xs ys p.
      let c = swapped (said_of z) y is_reply a.reply xs ys in
      let l = swapped_later (said_of z) y is_said_value is_reply a.value a.reply xs ys in
      record { last = λ g. l ∙ p.last g; linked_is = p.linked_is; unread = p.unread; none = λ r. c ∙ p.none r })
      s

  put : (x : Down) (rest : List Down) → LastWorld (record w { host = after_sent w.host x rest; down = w.down ++ x ∷ [] })
  put (down.Return address index) rest = s
  put (down.Write reg value) rest = s
  put (down.Read reg) rest = s
  put (down.Post d f p) rest = s
  put down.Stop rest = s

  owes : Owes Kept w
  owes =
      record {
        host_puts = λ x rest e v. put x rest;
        host_takes = λ queue x rest e y v. host (Rattle.mpt_rules.specs.Host.Takes.hears_up w.host queue x).part (line_of (set w.up queue rest) w.ioc.up 0) (taken_left queue x rest e) (phase.takes_item w h b queue x rest e y v.stage);
        host_told = λ i t v. host _ (up_line w 0) all_left (goes.told w i t);
        host_looks = λ e v. host _ (up_line w 0) all_left (goes.looks_on w e);
        host_stops = λ e v. host _ (up_line w 0) all_left (goes.stops_now w e);
        ioc_takes = λ x rest e v. taken x rest (adapter.takes_down w.ioc x).part e (takes w.ioc b.facts.doorbell.sound.waits (k w h b).phase_table.whole x) v.whole;
        ioc_high = λ q rest e v. worked (step.works_on (record w.ioc { high = rest }) q).part (phase.high_words w h b q rest) w.ioc.high q rest e (λ c. ((k w h b).tables_empty c).high);
        ioc_normal = λ q rest e v. worked (step.works_on (record w.ioc { normal = rest }) q).part (phase.normal_words w h b q rest) w.ioc.normal q rest e (λ c. ((k w h b).tables_empty c).normal);
        ioc_puts_out = λ x rest e v. s;
        ioc_takes_back = λ x rest e v. told x;
        ioc_puts = λ queue y rest z e u v. put_up queue y rest z e u;
        fabric_takes = λ x rest e v. s;
        fabric_says = λ x rest e v. s;
        fabric_puts = λ x rest e v. s;
        fabric_runs = λ tag address e v. s;
        plugs = λ address expander phy v. s;
        unplugs = λ address v. s;
        calms = λ v. s;
      }

  pub value_kept : (c : Case) → Behind (happens w c) → ValueIsLast (happens w c)
  value_kept c v = of_stands (happens w c) (kept Kept w b.plain owes (λ y. s) c v)
