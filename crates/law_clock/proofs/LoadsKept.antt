-- Each case keeps that posts, returns and the last word are only on their way to a controller that is OPERATIONAL, and that none
-- stands behind the write that begins a reset.
use Rattle.std.proofs.Common.{◌≡◌, ℕ, ◌+◌, ◌≤◌, ◌==◌, ◌&&◌, ◌||◌, ◌⊎◌, inl, inr, not, Bool, true, false, List, [], ◌∷◌, ◌++◌, map, get_or, Some, None, refl, ap, sym, ◌∙◌, subst, arith, append_assoc, append-nil}
use Rattle.std.specs.List.{filter}
use Rattle.mpi_doorbell.specs.DoorRegisters.{is_fault}
use Rattle.mpt_trace.specs.declared.host_state.HostState.{HostState}
use Rattle.mpt_trace.specs.declared.host_state.HostState.TheVariants as state
use Rattle.mpt_trace.specs.declared.item.Back.{Back}
use Rattle.mpt_trace.specs.declared.item.Down.{Down}
use Rattle.mpt_trace.specs.declared.item.Down.TheVariants as down
use Rattle.mpt_trace.specs.declared.item.Up.TheVariants as upward
use Rattle.mpt_rules.specs.World.Cases.{Case, happens}
use Rattle.mpt_rules.specs.World.Counts.{how_many, one_if}
use Rattle.mpt_rules.specs.Host.Doorbell.{is_reset_item}
use Rattle.mpt_rules.specs.Host.Parts.{Host}
use Rattle.mpt_rules.specs.Host.Resets as resets
use Rattle.mpt_rules.specs.Host.Returns.{after_sent}
use Rattle.mpt_rules.specs.Ioc.Takes as adapter
use Rattle.mpt_rules.specs.Ioc.Parts.{Ioc, state_of}
use Rattle.mpt_rules.specs.Ioc.Steps as step
use Rattle.mpt_rules.specs.Ioc.Tables.{is_operational}
use Rattle.mpt_rules.specs.World.Lines.{down_line, said_of, up_line}
use Rattle.mpt_rules.specs.Outcome.{Happening}
use Rattle.mpt_rules.specs.World.State.{World}
use Rattle.mpt_rules.proofs.Counts.{how_many-append}
use Rattle.law_facts.specs.Clock.{Clock, LoadsBeforeReset, in_asked, in_begun, is_live}
use Rattle.law_facts.specs.History.{History}
use Rattle.law_facts.specs.Words.{behind, is_doorbell_write, is_load, is_post, is_reply, others}
use Rattle.law_clock.specs.Premises.{Before, Behind, IsStarted}
use Rattle.law_moves.proofs.Cases.{Owes, kept}
use Rattle.law_moves.proofs.Counted.{false_by_none, fewer_pass, filtered, filter_passes, how_many-cons, how_many-nil, later, later-first, later-is, later-le, later-more, later-none, later-opened, later-taken, later-zero, none_passes, others-is}
use Rattle.law_moves.proofs.HostGoes as goes
use Rattle.law_moves.proofs.HostGoes.{Answered, Front, Heard, HostGoes, IsUp, ReplyFront, Speaking, Same, Says, Hands, Values, MarkTaken, MarkOver, Starts, Asks, AsksNow, Looks, StopsNow}
use Rattle.law_moves.proofs.HostSpeaks.{Rises, Stays, ComesUp, is_handed_back, is_index, is_spoken}
use Rattle.law_moves.proofs.IocSpeaks.{News, Speaks as SpeaksBack, Unlinked, LinkedUp, CalmTold, never_out, news}
use Rattle.law_moves.proofs.IocTakes.{Takes, Faults, Written, Operates, Forgets, Reads, Posts, DropsPost, Returns, DropsReturn, Stops, takes}
use Rattle.law_clock.proofs.PhaseKept as phase
use Rattle.law_moves.proofs.Phases.{and_false, off_test}
use Rattle.law_moves.proofs.Valuing.{HearsValue, IsOverNow, IsReady, SpeaksOn, TurnsOn, UnitLate}
use Rattle.mpt_wire.specs.Machine.Causes.{is_up, is_resetting}

pub record LoadsStand (live resetting : Bool) (d out : List Down) : Type 0 where
  pub needs : 1 ≤ how_many is_load d → live ≡ true
  pub before : later is_reset_item is_load d ≡ 0
  pub outbox : resetting ≡ true → how_many is_post out ≡ 0

abbrev pub LoadsWorld : World → Type 0
LoadsWorld v = LoadsStand (is_live v) (is_resetting v.host.mode) (down_line v) v.host.out

stands_of : (w : World) → LoadsBeforeReset w → LoadsWorld w
stands_of w l = record { needs = l.live; before = sym (later-is is_reset_item is_load (down_line w)) ∙ l.before; outbox = l.outbox }

of_stands : (w : World) → LoadsWorld w → LoadsBeforeReset w
of_stands w l = record { live = l.needs; before = later-is is_reset_item is_load (down_line w) ∙ l.before; outbox = l.outbox }

post_load : (x : Down) → is_post x ≡ true → is_load x ≡ true
post_load (down.Post d f p) e = refl
post_load (down.Write reg value) e = absurd (cc)
post_load (down.Read reg) e = absurd (cc)
post_load (down.Return a i) e = absurd (cc)
post_load down.Stop e = absurd (cc)

index_no_load : (x : Down) → is_index x ≡ true → is_load x ≡ false
index_no_load (down.Write reg value) e = refl
index_no_load (down.Read reg) e = absurd (cc)
index_no_load (down.Post d f p) e = absurd (cc)
index_no_load (down.Return a i) e = absurd (cc)
index_no_load down.Stop e = absurd (cc)

handed_no_post : (x : Down) → is_handed_back x ≡ true → is_post x ≡ false
handed_no_post (down.Write reg value) e = refl
handed_no_post (down.Read reg) e = absurd (cc)
handed_no_post (down.Post d f p) e = absurd (cc)
handed_no_post (down.Return a i) e = refl
handed_no_post down.Stop e = absurd (cc)

no_post_kept : (x : Down) → resets.is_no_post x ≡ true → is_post x ≡ false
no_post_kept (down.Write reg value) e = refl
no_post_kept (down.Read reg) e = refl
no_post_kept (down.Post d f p) e = absurd (cc)
no_post_kept (down.Return a i) e = refl
no_post_kept down.Stop e = refl

none_post : (xs : List Down) → how_many is_load xs ≡ 0 → how_many is_post xs ≡ 0
none_post xs z = let a = fewer_pass is_post is_load post_load xs in omega (arith, a, z)

false_true : (c : Bool) → c ≡ false → c ≡ true → ⊥
false_true true e f = cc
false_true false e f = cc

module _ (w : World) (h : History) (b : Before w h) where
  k : Clock w h
  k = b.facts.clock

  l : LoadsWorld w
  l = stands_of w k.loads_before_reset

  abbrev Kept : World → Type 0
  Kept v = Behind v → LoadsWorld v

  abbrev On : Host → Type 0
  On x = LoadsStand (is_live w) (is_resetting x.mode) (w.down ++ x.out) x.out

  line : (x : Host) (added : List Down) → x.out ≡ w.host.out ++ added → w.down ++ x.out ≡ down_line w ++ added
  line x added e = ap (λ o. w.down ++ o) e ∙ sym (append_assoc w.down w.host.out added)

  -- no load is added
  unloaded : (x : Host) (added : List Down) → (is_resetting x.mode ≡ true → is_resetting w.host.mode ≡ true) → x.out ≡ w.host.out ++ added → how_many is_load added ≡ 0 → On x
  unloaded x added m e z =
      let f = line x added e in
      let c = how_many-append is_load (down_line w) added in
      record {
        needs = λ n. let a = ap (how_many is_load) f in l.needs (omega (arith, a, c, z, n));
        before = ap (later is_reset_item is_load) f ∙ later-more is_reset_item is_load (down_line w) added l.before z;
        outbox = λ r. let p = l.outbox (m r) in let y = none_post added z in let a = how_many-append is_post w.host.out added in ap (how_many is_post) e ∙ omega (arith, p, y, a);
      }

  -- to a controller that is OPERATIONAL, and no reset is on its way
  loaded : (x : Host) (added : List Down) → is_live w ≡ true → how_many is_reset_item (down_line w) ≡ 0 → how_many is_reset_item added ≡ 0 → (is_resetting x.mode ≡ true → is_resetting w.host.mode ≡ true) → x.out ≡ w.host.out ++ added
      → (is_resetting w.host.mode ≡ true → how_many is_post added ≡ 0) → On x
  loaded x added v r q m e p =
      let f = line x added e in
      let c = how_many-append is_reset_item (down_line w) added in
      record {
        needs = λ n. v;
        before = ap (later is_reset_item is_load) f ∙ later-none is_reset_item is_load (down_line w ++ added) (omega (arith, c, r, q));
        outbox = λ s. let a = l.outbox (m s) in let y = p (m s) in let o = how_many-append is_post w.host.out added in ap (how_many is_post) e ∙ omega (arith, a, y, o);
      }

  none_normal : is_resetting w.host.mode ≡ false → how_many is_reset_item (down_line w) ≡ 0
  unfolding Rattle.mpt_rules.specs.World.Counts.reset_write_count
  none_normal m = k.one_reset_write.one ∙ ap (λ c. one_if ((c && not (w.host.asked == w.ioc.generation)) && not w.host.returning)) m

  none_returning : w.host.returning ≡ true → how_many is_reset_item (down_line w) ≡ 0
  unfolding Rattle.mpt_rules.specs.World.Counts.reset_write_count
  none_returning t = k.one_reset_write.one ∙ by_test (is_resetting w.host.mode && not (w.host.asked == w.ioc.generation)) w.host.returning t
    where
      by_test : (c d : Bool) → d ≡ true → one_if (c && not d) ≡ 0
      by_test true true e = refl
      by_test true false e = absurd (cc)
      by_test false d e = refl

  -- a reply is only on its way while the controller is OPERATIONAL, or a reset was begun
  live_by_reply : (queue : ℕ) (x : Rattle.mpt_trace.specs.declared.item.Up.Up) → Front w queue x → is_reply (said_of x) ≡ true → in_begun w ≡ false → is_live w ≡ true
  live_by_reply queue x fr y g = by_live (is_live w) refl
    where
      by_live : (c : Bool) → is_live w ≡ c → c ≡ true
      by_live true e = refl
      by_live false e =
          let z = k.no_reply_before_init.before g e queue in
          let a = ap (λ xs. how_many is_reply (map said_of xs ++ get_or w.ioc.up queue [])) fr.is in
          let c = how_many-cons is_reply (said_of x) (map said_of fr.rest ++ get_or w.ioc.up queue []) in
          let o : one_if (is_reply (said_of x)) ≡ 1 = ap one_if y in
          absurd (omega (arith, z, a, c, o))

  not_begun : is_resetting w.host.mode ≡ false → in_begun w ≡ false
  not_begun m = off_test (is_resetting w.host.mode) (w.host.asked == w.ioc.generation) m

  spoken_no_reset : (x : Down) → is_spoken x ≡ true → is_reset_item x ≡ false
  spoken_no_reset = Rattle.law_clock.proofs.ResetWriteKept.spoken_no_reset

  handed_no_reset : (x : Down) → is_handed_back x ≡ true → is_reset_item x ≡ false
  handed_no_reset x e = spoken_no_reset x (Rattle.law_clock.proofs.ResetWriteKept.handed_spoken x e)

  why_speaks : {en : Bool} → is_resetting w.host.mode ≡ false → Speaking w en → is_live w ≡ true
  why_speaks m (IsUp u) = (k.fabric_off.up u).live
  why_speaks m (Answered queue d None page sense fr) = live_by_reply queue (upward.Reply d None page sense) fr refl (not_begun m)
  why_speaks m (Answered queue d (Some f) page sense fr) = live_by_reply queue (upward.Reply d (Some f) page sense) fr refl (not_begun m)

  still : (a c : HostState) → c ≡ a → is_resetting c ≡ true → is_resetting a ≡ true
  still a c e r = sym (ap is_resetting e) ∙ r

  risen : {en : Bool} (a c : HostState) → Rises en a c → is_resetting c ≡ true → is_resetting a ≡ true
  risen a c (Stays e) r = still a c e r
  risen a c (ComesUp u n e) r = let z : is_resetting c ≡ false = ap is_resetting e in absurd (false_true (is_resetting c) z r)

  -- a reset is asked: the posts leave
  gives : (x : Host) (added : List Down) → is_resetting w.host.mode ≡ false → x.out ≡ filter resets.is_no_post w.host.out ++ added → how_many is_load added ≡ 0 → On x
  gives x added m e z =
      let base : List Down = w.down ++ filter resets.is_no_post w.host.out in
      let f : w.down ++ x.out ≡ base ++ added = ap (λ o. w.down ++ o) e ∙ sym (append_assoc w.down (filter resets.is_no_post w.host.out) added) in
      let r = none_normal m in
      let a1 = how_many-append is_reset_item w.down w.host.out in let a2 = how_many-append is_reset_item w.down (filter resets.is_no_post w.host.out) in let a3 = filtered is_reset_item resets.is_no_post w.host.out in
      let c0 = how_many-append is_load base added in let c1 = how_many-append is_load w.down w.host.out in let c2 = how_many-append is_load w.down (filter resets.is_no_post w.host.out) in let c3 = filtered is_load resets.is_no_post w.host.out in
      record {
        needs = λ n. let a = ap (how_many is_load) f in l.needs (omega (arith, a, c0, c1, c2, c3, z, n));
        before = ap (later is_reset_item is_load) f ∙ (later-first is_reset_item is_load base added (omega (arith, r, a1, a2, a3)) ∙ later-zero is_reset_item is_load added z);
        outbox = λ s.
            let p = none_passes resets.is_no_post is_post no_post_kept (filter resets.is_no_post w.host.out) (filter_passes resets.is_no_post w.host.out) in
            let y = none_post added z in
            let o = how_many-append is_post (filter resets.is_no_post w.host.out) added in
            ap (how_many is_post) e ∙ omega (arith, p, y, o);
      }

  valued : (v : World) (x : Host) → v.host ≡ x → is_live v ≡ is_live w → IsStarted v → HearsValue w x → On x
  valued v x e lv dv (TurnsOn c u t d lst) = unloaded x t.added (still w.host.mode x.mode t.mode_is) t.out_is t.are.loads
  valued v x e lv dv (UnitLate m r u) = unloaded x u.turn.added (still w.host.mode x.mode u.turn.mode_is) u.turn.out_is u.turn.are.loads
  valued v x e lv dv (SpeaksOn m st t n q) =
      let g = q.grows in
      let starting : x.mode ≡ state.Starting = stays q.rises ∙ (t.mode_is ∙ st) in
      let normal : is_resetting w.host.mode ≡ false = ap is_resetting st in
      let on = dv (ap (λ (y : Host). Rattle.mpt_rules.specs.Host.Takes.is_starting y.mode) e ∙ ap Rattle.mpt_rules.specs.Host.Takes.is_starting starting) (ap (λ (y : Host). y.machine) e ∙ (q.machine_is ∙ n)) in
      let a = how_many-append is_reset_item t.added g.added in
      let z = t.are.resets in
      let y = none_passes is_spoken is_reset_item spoken_no_reset g.added g.mild in
      loaded x (t.added ++ g.added) (sym lv ∙ on) (none_normal normal) (omega (arith, a, z, y)) (λ r. absurd (false_true (is_resetting x.mode) (ap is_resetting starting) r))
      (g.is ∙ (ap (λ xs. xs ++ g.added) t.out_is ∙ append_assoc w.host.out t.added g.added)) (λ r. absurd (false_true (is_resetting w.host.mode) normal r))
    where
      stays : Rises false m.mode x.mode → x.mode ≡ m.mode
      stays (Stays f) = f
      stays (ComesUp f r y) = absurd (cc)
  valued v x e lv dv (IsReady m r lk t n a d f) = unloaded x t.added (λ s. r) (ap (λ (y : Host). y.out) f ∙ t.out_is) t.are.loads
  valued v x e lv dv (IsOverNow m r lk t n a t2) =
      let z1 = t.are.loads in let z2 = t2.are.loads in let c = how_many-append is_load t.added t2.added in
      unloaded x (t.added ++ t2.added) (λ s. r) (t2.out_is ∙ (ap (λ xs. xs ++ t2.added) t.out_is ∙ append_assoc w.host.out t.added t2.added)) (omega (arith, c, z1, z2))

  host : {t : Heard} (v : World) (x : Host) → v.host ≡ x → is_live v ≡ is_live w → IsStarted v → HostGoes w x t → On x
  host v x e lv dv (Same f) = subst On (sym f) l
  host v x e lv dv (Says m o en q sp) =
      let g = q.grows in
      loaded x g.added (why_speaks m sp) (none_normal m) (none_passes is_spoken is_reset_item spoken_no_reset g.added g.mild) (risen w.host.mode x.mode q.rises) g.is (λ r. absurd (false_true (is_resetting w.host.mode) m r))
  host v x e lv dv (Hands m q ix rf) = by_returning w.host.returning refl
    where
      by_returning : (c : Bool) → w.host.returning ≡ c → On x
      by_returning true t =
          let g = q.grows in
          let nb : in_begun w ≡ false = not_yet (in_begun w) refl in
          loaded x g.added (live_by_reply rf.queue rf.item rf.front rf.reply nb) (none_returning t) (none_passes is_handed_back is_reset_item handed_no_reset g.added g.mild) (risen w.host.mode x.mode q.rises) g.is (λ r. none_passes is_handed_back is_post handed_no_post g.added g.mild)
        where
          not_yet : (c : Bool) → in_begun w ≡ c → c ≡ false
          not_yet true y = absurd (false_true w.host.returning (k.one_reset_write.begun y) t)
          not_yet false y = refl
      by_returning false t =
          let i = ix t in
          let g = i.grows in
          unloaded x g.added (risen w.host.mode x.mode i.rises) g.is (none_passes is_index is_load index_no_load g.added g.mild)
  host v x e lv dv (Values r vl fr hv) = valued v x e lv dv hv
  host v x e lv dv (MarkTaken queue m f) = subst On (sym f) l
  host v x e lv dv (MarkOver queue m gn fr d a t) = unloaded x t.added (λ s. m) t.out_is t.are.loads
  host v x e lv dv (Starts f t) = unloaded x t.added (λ s. absurd (false_true (is_resetting x.mode) (ap is_resetting t.mode_is) s)) t.out_is t.are.loads
  host v x e lv dv (Asks st m o r f) = gives x [] m (ap (λ (y : Host). y.out) f ∙ sym (append-nil (filter resets.is_no_post w.host.out))) (how_many-nil is_load)
  host v x e lv dv (AsksNow st c m o r cs t z) = gives x t.added m t.out_is t.are.loads
  host v x e lv dv (Looks u r t) = unloaded x t.added (still w.host.mode x.mode t.mode_is) t.out_is t.are.loads
  host v x e lv dv (StopsNow u f) =
      let n = goes.up_normal w.host.mode u in
      let c = how_many-cons is_reset_item down.Stop [] in let c0 = how_many-nil {X = Down} is_reset_item in
      subst On (sym f) (loaded (record w.host { out = w.host.out ++ down.Stop ∷ [] }) (down.Stop ∷ []) (k.fabric_off.up u).live (none_normal n.0) (omega (arith, c, c0)) (λ s. s) refl (λ s. absurd (false_true (is_resetting w.host.mode) n.0 s)))

  -- ---- the controller

  abbrev At : Bool → List Down → Type 0
  At live rest = LoadsStand live (is_resetting w.host.mode) (rest ++ w.host.out) w.host.out

  front : (x : Down) (rest : List Down) → w.down ≡ x ∷ rest → down_line w ≡ x ∷ (rest ++ w.host.out)
  front x rest e = ap (λ xs. xs ++ w.host.out) e

  passed : (x : Down) (rest : List Down) (live : Bool) → w.down ≡ x ∷ rest → (is_live w ≡ true → live ≡ true) → At live rest
  passed x rest live e f =
      let g = front x rest e in
      let c = how_many-cons is_load x (rest ++ w.host.out) in
      let a = ap (how_many is_load) g in
      record {
        needs = λ n. f (l.needs (omega (arith, a, c, n)));
        before = later-taken is_reset_item is_load x (rest ++ w.host.out) (sym (ap (later is_reset_item is_load) g) ∙ l.before);
        outbox = l.outbox;
      }

  pub reset_front : (x : Down) → (is_reset_item x || Rattle.law_facts.specs.Words.is_stray_reset x) ≡ true → (rest : List Down) → w.down ≡ x ∷ rest → is_reset_item x ≡ true
  reset_front x r rest e =
      let st = k.one_reset_write.strays in
      let sc = ap (how_many Rattle.law_facts.specs.Words.is_stray_reset) (front x rest e) in
      let sd = how_many-cons Rattle.law_facts.specs.Words.is_stray_reset x (rest ++ w.host.out) in
      first (is_reset_item x) (Rattle.law_facts.specs.Words.is_stray_reset x) (false_by_none (Rattle.law_facts.specs.Words.is_stray_reset x) (omega (arith, st, sc, sd))) r
    where
      first : (c d : Bool) → d ≡ false → (c || d) ≡ true → c ≡ true
      first true d e f = refl
      first false d e f = sym e ∙ f ∙ refl

  taken : (x : Down) (rest : List Down) (i : Ioc) → w.down ≡ x ∷ rest → Takes w.ioc x i → is_fault (state_of i) ≡ false → At (is_operational (state_of i)) rest
  taken x rest i e (Faults y j f) n = absurd (cc)
  taken x rest i e (Written reg value j nr st sa) n = passed (down.Write reg value) rest (is_operational (state_of i)) e (λ v. ap is_operational st ∙ v)
  taken x rest i e (Operates value j nr r st sa) n = passed (down.Write Rattle.mpi_doorbell.specs.declared.registers.TheConstants.DOORBELL value) rest (is_operational (state_of i)) e (λ v. ap is_operational st)
  taken x rest i e (Forgets reg value d r) n =
      let g = front (down.Write reg value) rest e in
      let z = later-opened is_reset_item is_load (down.Write reg value) (rest ++ w.host.out) (reset_front (down.Write reg value) r rest e) (sym (ap (later is_reset_item is_load) g) ∙ l.before) in
      record { needs = λ m. absurd (omega (arith, z, m)); before = later-zero is_reset_item is_load (rest ++ w.host.out) z; outbox = l.outbox }
  taken x rest i e (Reads reg value) n = passed (down.Read reg) rest (is_live w) e (λ v. v)
  taken x rest i e (Posts d f q j o sa) n = passed (down.Post d f q) rest (is_operational (state_of i)) e (λ v. ap (λ (y : Ioc). is_operational (state_of y)) sa ∙ v)
  taken x rest i e (DropsPost d f q o) n = passed (down.Post d f q) rest (is_live w) e (λ v. v)
  taken x rest i e (Returns address index j o sa) n = passed (down.Return address index) rest (is_operational (state_of i)) e (λ v. ap (λ (y : Ioc). is_operational (state_of y)) sa ∙ v)
  taken x rest i e (DropsReturn address index o) n = passed (down.Return address index) rest (is_live w) e (λ v. v)
  taken x rest i e Stops n = passed down.Stop rest (is_live w) e (λ v. v)

  same_state : (live : Bool) → (is_live w ≡ true → live ≡ true) → At live w.down
  same_state live f = record { needs = λ n. f (l.needs n); before = l.before; outbox = l.outbox }

  told : (x : Back) (o : Happening Ioc) → News never_out w.ioc x o → At (is_operational (state_of o.part)) w.down
  told x o (SpeaksBack n q) = same_state (is_operational (state_of o.part)) (λ v. ap (λ d. is_operational d.state) q.door_is ∙ v)
  told x o (Unlinked n i z e) = same_state (is_operational (state_of o.part)) (λ v. ap (λ (y : Happening Ioc). is_operational (state_of y.part)) e ∙ v)
  told x o (LinkedUp n i g r e) = same_state (is_operational (state_of o.part)) (λ v. absurd (false_true (is_live w) (by_reset (state_of w.ioc) r) v))
    where
      by_reset : (s : Rattle.mpi_doorbell.specs.declared.state.IocState.IocState) → Rattle.mpt_rules.specs.Ioc.Tables.is_reset s ≡ true → is_operational s ≡ false
      by_reset Rattle.mpi_doorbell.specs.declared.state.IocState.TheVariants.Reset r = refl
      by_reset Rattle.mpi_doorbell.specs.declared.state.IocState.TheVariants.Ready r = refl
      by_reset Rattle.mpi_doorbell.specs.declared.state.IocState.TheVariants.Operational r = absurd (cc)
      by_reset (Rattle.mpi_doorbell.specs.declared.state.IocState.TheVariants.Fault code) r = refl
  told x o (CalmTold i e) = same_state (is_operational (state_of o.part)) (λ v. ap (λ (y : Happening Ioc). is_operational (state_of y.part)) e ∙ v)

  put : (x : Down) (rest : List Down) → w.host.out ≡ x ∷ rest → LoadsStand (is_live w) (is_resetting (after_sent w.host x rest).mode) ((w.down ++ x ∷ []) ++ (after_sent w.host x rest).out) (after_sent w.host x rest).out
  put x rest e = by_item x (append_assoc w.down (x ∷ []) rest ∙ ap (λ xs. w.down ++ xs) (sym e))
    where
      fewer : is_resetting w.host.mode ≡ true → how_many is_post rest ≡ 0
      fewer r = let a = l.outbox r in let c = ap (how_many is_post) e in let d = how_many-cons is_post x rest in omega (arith, a, c, d)

      moved : (xs : List Down) → xs ≡ down_line w → LoadsStand (is_live w) (is_resetting w.host.mode) xs rest
      moved xs f = rw f (record { needs = l.needs; before = l.before; outbox = fewer })

      by_item : (y : Down) → (w.down ++ x ∷ []) ++ rest ≡ down_line w → LoadsStand (is_live w) (is_resetting (after_sent w.host y rest).mode) ((w.down ++ x ∷ []) ++ (after_sent w.host y rest).out) (after_sent w.host y rest).out
      by_item (down.Return address index) f = moved ((w.down ++ x ∷ []) ++ rest) f
      by_item (down.Write reg value) f = moved ((w.down ++ x ∷ []) ++ rest) f
      by_item (down.Read reg) f = moved ((w.down ++ x ∷ []) ++ rest) f
      by_item (down.Post d g q) f = moved ((w.down ++ x ∷ []) ++ rest) f
      by_item down.Stop f = moved ((w.down ++ x ∷ []) ++ rest) f

  worked : (i : Ioc) → i.door ≡ w.ioc.door → At (is_operational (state_of i)) w.down
  worked i e = same_state (is_operational (state_of i)) (λ v. ap (λ d. is_operational d.state) e ∙ v)

  owes : Owes Kept w
  owes =
      record {
        host_puts = λ x rest e v. put x rest e;
        host_takes = λ queue x rest e y v. host (record (Rattle.mpt_rules.specs.World.State.with_up w queue rest) { host = (Rattle.mpt_rules.specs.Host.Takes.hears_up w.host queue x).part }) _ refl refl v.started (phase.takes_item w h b queue x rest e y v.stage);
        host_told = λ i t v. host (record w { host = (Rattle.mpt_rules.specs.World.Inputs.host_told w.host i).part }) _ refl refl v.started (goes.told w i t);
        host_looks = λ e v. host (record w { host = Rattle.mpt_rules.specs.Host.Takes.looks w.host }) _ refl refl v.started (goes.looks_on w e);
        host_stops = λ e v. host (record w { host = Rattle.mpt_rules.specs.Host.Takes.stops w.host }) _ refl refl v.started (goes.stops_now w e);
        ioc_takes = λ x rest e v. taken x rest (adapter.takes_down w.ioc x).part e (takes w.ioc b.facts.doorbell.sound.waits k.phase_table.whole x) v.whole;
        ioc_high = λ q rest e v. worked (step.works_on (record w.ioc { high = rest }) q).part (phase.high_words w h b q rest).door_is;
        ioc_normal = λ q rest e v. worked (step.works_on (record w.ioc { normal = rest }) q).part (phase.normal_words w h b q rest).door_is;
        ioc_puts_out = λ x rest e v. l;
        ioc_takes_back = λ x rest e v. told x (adapter.takes_back w.ioc x) (news never_out w.ioc x);
        ioc_puts = λ queue y rest z e u v. l;
        fabric_takes = λ x rest e v. l;
        fabric_says = λ x rest e v. l;
        fabric_puts = λ x rest e v. l;
        fabric_runs = λ tag address e v. l;
        plugs = λ address expander phy v. l;
        unplugs = λ address v. l;
        calms = λ v. l;
      }

  pub loads_kept : (c : Case) → Behind (happens w c) → LoadsBeforeReset (happens w c)
  loads_kept c v = of_stands (happens w c) (kept Kept w b.plain owes (λ y. l) c v)
