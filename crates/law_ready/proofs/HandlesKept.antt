-- The plug of each ready handle stays the one that is ready.
use Rattle.std.proofs.Common.{◌≡◌, ℕ, ◌==◌, ◌||◌, Bool, true, false, cond, if◌then◌else◌, List, [], ◌∷◌, ◌++◌, Option, Some, None, option_map, refl, ap, sym, ◌∙◌, subst}
use Rattle.std.proofs.lemmas.Bool.{eqb-true}
use Rattle.removal.specs.Handles.{IsHandle, phase_at}
use Rattle.removal.specs.declared.phase.Phase.{Phase}
use Rattle.removal.specs.declared.phase.Phase.TheVariants as phase
use Rattle.mpt_wire.specs.Handles.Bindings.{Plug}
use Rattle.mpt_wire.specs.Machine.Causes.{is_resetting, is_up}
use Rattle.mpt_wire.specs.Machine.State.{put_at}
use Rattle.mpt_wire.specs.Machine.View.{Seen}
use Rattle.mpt_wire.specs.Walks.Passes.{EachEntry}
use Rattle.mpt_trace.specs.declared.entry.Entry.{Entry}
use Rattle.mpt_trace.specs.declared.entry.Entry.TheVariants as entry
use Rattle.mpt_trace.specs.declared.host_state.HostState.{HostState}
use Rattle.mpt_trace.specs.declared.host_state.HostState.TheVariants as state
use Rattle.mpt_trace.specs.declared.item.Down.{Down}
use Rattle.mpt_trace.specs.declared.item.Down.TheVariants as down
use Rattle.mpt_trace.specs.declared.item.Item.TheVariants as item
use Rattle.mpt_trace.specs.declared.item.Up.{Up}
use Rattle.mpt_trace.specs.declared.lane.LaneName.TheVariants as lane
use Rattle.mpt_rules.specs.Fabric.Calls as fab
use Rattle.mpt_rules.specs.Host.Parts.{Host}
use Rattle.mpt_rules.specs.Host.Returns.{after_sent}
use Rattle.mpt_rules.specs.Host.Takes.{hears_up, is_starting, looks, stops}
use Rattle.mpt_rules.specs.Ioc.Steps as step
use Rattle.mpt_rules.specs.Ioc.Takes as adapter
use Rattle.mpt_rules.specs.Law.{NothingIsStrange}
use Rattle.mpt_rules.specs.World.Cases.{Case, entries, happens}
use Rattle.mpt_rules.specs.World.Inputs.{host_told}
use Rattle.mpt_rules.specs.World.State.{World, up_lane, up_on, with_up}
use Rattle.law_facts.specs.Disks.{ReadyHandle}
use Rattle.law_facts.specs.Facts.{Facts}
use Rattle.law_facts.specs.Handles.{phase_of}
use Rattle.law_facts.specs.History.{History, history_after}
use Rattle.law_facts.specs.Words.{is_off}
use Rattle.law_machine.proofs.IocSilent.{told_back, told_down, told_high, told_normal}
use Rattle.law_moves.proofs.CasesTold.{OwesTold, kept_told}
use Rattle.law_targets.proofs.Views as view
use Rattle.law_ready.specs.Ready.{HandlesReady, OffReady}
use Rattle.law_ready.proofs.Bare.{IsBare, bare_same, lost_told, over_ready, ready_told}
use Rattle.law_ready.proofs.Bound.{bound_kept, is_removing}
use Rattle.law_ready.proofs.Fitting.{Fits, handle_before, none_ready, of_fits, one_ready, ready_phase}
use Rattle.law_ready.proofs.Lines.{input_bare, plug_bare, silent_bare}
use Rattle.law_ready.proofs.Turned.{Ends, Keeps, Loses, Reads, Turned, ready_at, turned}

-- where a put changes nothing
pub put_other : {X : Type 0} (a b : ℕ) (x : X) (f : ℕ → X) → (b == a) ≡ false → put_at a x f b ≡ f b
put_other a b x f e = ap (λ c. if c then x else f b) e

pub put_here : {X : Type 0} (a : ℕ) (x : X) (f : ℕ → X) → put_at a x f a ≡ x
put_here a x f = ap (λ c. if c then x else f a) (Rattle.law_messages.proofs.Agreeing.same a)

not_removing : (p : Phase) (a : ℕ) → ready_at p ≡ Some a → is_removing p ≡ false
not_removing p a e = ap is_removing (ready_phase p a e)

module _ (w : World) (h : History) (f : Facts w h) (plain : NothingIsStrange w) (off : OffReady w h) where
  abbrev seen : Seen
  seen = record { machine = h.machine; so_far = h.so_far }

  -- what is bound stays, where nothing is removed
  abbrev Binds : List Entry → Type 0
  Binds t = is_resetting w.host.mode ≡ false → (g : ℕ) → IsHandle g → (p : Plug) → h.serving.bound g ≡ Some p → is_removing (phase_of w g) ≡ false → (history_after h t).serving.bound g ≡ h.serving.bound g

  OnHandles : World → List Entry → Type 0
  OnHandles v t = Binds t → is_resetting v.host.mode ≡ false → (g : ℕ) → IsHandle g → Fits (ready_at (phase_at v.host.phases g)) ((history_after h t).serving.bound g) (history_after h t).machine.ready (history_after h t).machine.made

  -- a handle that was ready and is, with the same plug
  stays : (t : List Entry) → Binds t → is_resetting w.host.mode ≡ false → (g : ℕ) → IsHandle g → (o : Option ℕ) → ready_at (phase_of w g) ≡ o
      → ((a : ℕ) → o ≡ Some a → (history_after h t).machine.ready a ≡ h.machine.ready a) → ((a : ℕ) → o ≡ Some a → (history_after h t).machine.made a ≡ h.machine.made a)
      → Fits o ((history_after h t).serving.bound g) (history_after h t).machine.ready (history_after h t).machine.made
  stays t b m g i None e r k = tt
  stays t b m g i (Some a) e r k = by_plug (h.serving.bound g) refl (subst (λ o. Fits o (h.serving.bound g) h.machine.ready h.machine.made) e (handle_before w h f off m g i))
    where
      by_plug : (q : Option Plug) → h.serving.bound g ≡ q → Fits (Some a) q h.machine.ready h.machine.made → Fits (Some a) ((history_after h t).serving.bound g) (history_after h t).machine.ready (history_after h t).machine.made
      by_plug None u z = absurd z
      by_plug (Some p) u z =
          subst (λ q. Fits (Some a) q (history_after h t).machine.ready (history_after h t).machine.made) (sym (b m g i p u (not_removing (phase_of w g) a e) ∙ u))
          (z.0, r a refl ∙ z.1, k a refl ∙ z.2)

  -- nothing is told of what is ready
  bare : (v : World) (t : List Entry) → EachEntry IsBare t → (is_resetting v.host.mode ≡ false → is_resetting w.host.mode ≡ false) → ((g : ℕ) → IsHandle g → ready_at (phase_at v.host.phases g) ≡ ready_at (phase_of w g)) → OnHandles v t
  unfolding OnHandles
  bare v t e m s b n g i =
      let z = bare_same t seen e in
      subst (λ o. Fits o ((history_after h t).serving.bound g) (history_after h t).machine.ready (history_after h t).machine.made) (sym (s g i))
      (stays t b (m n) g i (ready_at (phase_of w g)) refl (λ a q. ap (λ r. r a) z.ready) (λ a q. ap (λ r. r a) z.made))

  host_same : (v : World) (t : List Entry) → EachEntry IsBare t → v.host ≡ w.host → OnHandles v t
  host_same v t e q = bare v t e (λ n. ap (λ (x : Host). is_resetting x.mode) (sym q) ∙ n) (λ g i. ap (λ (x : Host). ready_at (phase_at x.phases g)) q)

  phases_same : (v : World) (t : List Entry) → EachEntry IsBare t → (is_resetting v.host.mode ≡ false → is_resetting w.host.mode ≡ false) → v.host.phases ≡ w.host.phases → OnHandles v t
  phases_same v t e m q = bare v t e m (λ g i. ap (λ ps. ready_at (phase_at ps g)) q)

  still : (v : World) (t : List Entry) → EachEntry IsBare t → view.Still w.host v.host → OnHandles v t
  still v t e s = phases_same v t e (λ n. ap is_resetting (sym s.mode) ∙ n) s.phases

  put_like : (x : Down) (rest : List Down) → view.Still w.host (after_sent w.host x rest)
  put_like (down.Post d g p) rest = record { phases = refl; mode = refl }
  put_like (down.Write reg value) rest = record { phases = refl; mode = refl }
  put_like (down.Read reg) rest = record { phases = refl; mode = refl }
  put_like (down.Return address index) rest = record { phases = refl; mode = refl }
  put_like down.Stop rest = record { phases = refl; mode = refl }

  -- ---- an item is taken

  module _ (queue : ℕ) (x : Up) (v : World) where
    abbrev taken : List Entry → List Entry
    taken t = entry.Take (up_lane queue) (item.Up x) ∷ t

    ended : (u : List Entry) → ((g : ℕ) → ready_at (phase_at v.host.phases g) ≡ None) → OnHandles v (entry.Take (up_lane queue) (item.Up x) ∷ (u ++ entry.ResetDone ∷ []))
    unfolding OnHandles
    ended u s b n g i = subst (λ o. Fits o ((history_after h (entry.Take (up_lane queue) (item.Up x) ∷ (u ++ entry.ResetDone ∷ []))).serving.bound g) (history_after h (entry.Take (up_lane queue) (item.Up x) ∷ (u ++ entry.ResetDone ∷ []))).machine.ready (history_after h (entry.Take (up_lane queue) (item.Up x) ∷ (u ++ entry.ResetDone ∷ []))).machine.made) (sym (s g)) tt

    module _ (m : is_resetting w.host.mode ≡ false) (g0 a : ℕ) (i0 : IsHandle g0) where
      lost : phase_of w g0 ≡ phase.Ready a → ((g : ℕ) → IsHandle g → ready_at (phase_at v.host.phases g) ≡ cond (g == g0) None (ready_at (phase_of w g))) → OnHandles v (entry.Take (up_lane queue) (item.Up x) ∷ entry.Lost a g0 ∷ [])
      unfolding OnHandles
      lost p s b n g i =
          let t = entry.Take (up_lane queue) (item.Up x) ∷ entry.Lost a g0 ∷ [] in
          subst (λ o. Fits o ((history_after h t).serving.bound g) (history_after h t).machine.ready (history_after h t).machine.made) (sym (s g i)) (by_key (g == g0) refl)
        where
          by_key : (c : Bool) → (g == g0) ≡ c → Fits (cond c None (ready_at (phase_of w g))) ((history_after h (entry.Take (up_lane queue) (item.Up x) ∷ entry.Lost a g0 ∷ [])).serving.bound g) (history_after h (entry.Take (up_lane queue) (item.Up x) ∷ entry.Lost a g0 ∷ [])).machine.ready (history_after h (entry.Take (up_lane queue) (item.Up x) ∷ entry.Lost a g0 ∷ [])).machine.made
          by_key true u = tt
          by_key false u = stays (entry.Take (up_lane queue) (item.Up x) ∷ entry.Lost a g0 ∷ []) b m g i (ready_at (phase_of w g)) refl (λ c q. by_address c q (c == a) refl) (λ c q. ap (λ r. r c) (lost_told queue x a g0 seen).made)
            where
              by_address : (c : ℕ) → ready_at (phase_of w g) ≡ Some c → (k : Bool) → (c == a) ≡ k → (history_after h (entry.Take (up_lane queue) (item.Up x) ∷ entry.Lost a g0 ∷ [])).machine.ready c ≡ h.machine.ready c
              by_address c q false k = ap (λ r. r c) (lost_told queue x a g0 seen).ready ∙ put_other a c None h.machine.ready k
              by_address c q true k = absurd (one_ready w h f off m a g g0 i i0 u (ready_phase (phase_of w g) a (q ∙ ap Some (eqb-true c a k))) p)

      -- a page is read: before, none was ready for its address
      read : (s : ℕ) → phase_of w g0 ≡ phase.Reading s → (p : Plug) → h.serving.bound g0 ≡ Some p → p.address ≡ a → ((j : ℕ) → IsHandle j → phase_of w j ≡ phase.Ready a → ⊥)
          → ((g : ℕ) → IsHandle g → ready_at (phase_at v.host.phases g) ≡ cond (g == g0) (Some a) (ready_at (phase_of w g))) → OnHandles v (entry.Take (up_lane queue) (item.Up x) ∷ entry.Ready a g0 ∷ [])
      unfolding OnHandles
      read s was p e d none r b n g i =
          let t = entry.Take (up_lane queue) (item.Up x) ∷ entry.Ready a g0 ∷ [] in
          subst (λ o. Fits o ((history_after h t).serving.bound g) (history_after h t).machine.ready (history_after h t).machine.made) (sym (r g i)) (by_key (g == g0) refl)
        where
          now : Rattle.law_ready.proofs.Bare.NowReady h.machine (history_after h (entry.Take (up_lane queue) (item.Up x) ∷ entry.Ready a g0 ∷ [])).machine a p.number
          now = ready_told queue x a g0 p.number seen ((f.handles.each g0 i0).known.plug p e)

          by_key : (c : Bool) → (g == g0) ≡ c → Fits (cond c (Some a) (ready_at (phase_of w g))) ((history_after h (entry.Take (up_lane queue) (item.Up x) ∷ entry.Ready a g0 ∷ [])).serving.bound g) (history_after h (entry.Take (up_lane queue) (item.Up x) ∷ entry.Ready a g0 ∷ [])).machine.ready (history_after h (entry.Take (up_lane queue) (item.Up x) ∷ entry.Ready a g0 ∷ [])).machine.made
          by_key true u =
              let t = entry.Take (up_lane queue) (item.Up x) ∷ entry.Ready a g0 ∷ [] in
              let k = ap (λ j. (history_after h t).serving.bound j) (eqb-true g g0 u) ∙ (b m g0 i0 p e (ap is_removing was) ∙ e) in
              subst (λ q. Fits (Some a) q (history_after h t).machine.ready (history_after h t).machine.made) (sym k)
              (d, ap (λ y. y a) now.ready ∙ put_here a (Some p.number) h.machine.ready, ap (λ y. y a) now.made ∙ put_here a p.number h.machine.made)
          by_key false u =
              stays (entry.Take (up_lane queue) (item.Up x) ∷ entry.Ready a g0 ∷ []) b m g i (ready_at (phase_of w g)) refl
              (λ c q. ap (λ y. y c) now.ready ∙ put_other a c (Some p.number) h.machine.ready (by_address c q (c == a) refl)) (λ c q. ap (λ y. y c) now.made ∙ put_other a c p.number h.machine.made (by_address c q (c == a) refl))
            where
              by_address : (c : ℕ) → ready_at (phase_of w g) ≡ Some c → (k : Bool) → (c == a) ≡ k → k ≡ false
              by_address c q false k = refl
              by_address c q true k = absurd (none g i (ready_phase (phase_of w g) a (q ∙ ap Some (eqb-true c a k))))

    takes : (k : Host) → v.host ≡ k → (t : List Entry) → Turned w h k t → OnHandles v (entry.Take (up_lane queue) (item.Up x) ∷ t)
    takes k e t (Keeps m s b) = bare v (entry.Take (up_lane queue) (item.Up x) ∷ t) (tt, b) (λ n. m) (λ g i. ap (λ (y : Host). ready_at (phase_at y.phases g)) e ∙ s g i)
    takes k e t (Ends s u q) = subst (λ t. OnHandles v (entry.Take (up_lane queue) (item.Up x) ∷ t)) (sym q) (ended u (λ g. ap (λ (y : Host). ready_at (phase_at y.phases g)) e ∙ s g))
    takes k e t (Loses g0 a i p n s q) = subst (λ t. OnHandles v (entry.Take (up_lane queue) (item.Up x) ∷ t)) (sym q) (lost (mode_of w.host.mode n) g0 a i p (λ g j. ap (λ (y : Host). ready_at (phase_at y.phases g)) e ∙ s g j))
      where
        mode_of : (y : HostState) → (is_starting y || is_up y) ≡ true → is_resetting y ≡ false
        mode_of state.Off z = refl
        mode_of state.Starting z = refl
        mode_of state.Up z = refl
        mode_of state.Resetting z = absurd (cc)
    takes k e t (Reads s0 g0 a i p u n l s q) = subst (λ t. OnHandles v (entry.Take (up_lane queue) (item.Up x) ∷ t)) (sym q) (by_plug (h.serving.bound g0) refl u)
      where
        mode_of : (y : HostState) → (is_starting y || is_up y) ≡ true → is_resetting y ≡ false
        mode_of state.Off z = refl
        mode_of state.Starting z = refl
        mode_of state.Up z = refl
        mode_of state.Resetting z = absurd (cc)

        by_plug : (o : Option Plug) → h.serving.bound g0 ≡ o → option_map (λ (p : Plug). p.address) o ≡ Some a → OnHandles v (entry.Take (up_lane queue) (item.Up x) ∷ entry.Ready a g0 ∷ [])
        by_plug None c y = absurd (cc)
        by_plug (Some d) c y =
            let z : d.address ≡ a = cc in
            read (mode_of w.host.mode n) g0 a i s0 p d c z (λ j o r. none_ready w h f off s0 g0 a i p d c z n l j o r) (λ g j. ap (λ (y : Host). ready_at (phase_at y.phases g)) e ∙ s g j)

  item_taken : (queue : ℕ) (x : Up) (rest : List Up) → up_on w queue ≡ x ∷ rest → OnHandles (record (with_up w queue rest) { host = (hears_up w.host queue x).part }) (entry.Take (up_lane queue) (item.Up x) ∷ (hears_up w.host queue x).entries)
  unfolding OnHandles
  item_taken queue x rest e b n =
      takes queue x (record (with_up w queue rest) { host = (hears_up w.host queue x).part }) (hears_up w.host queue x).part refl (hears_up w.host queue x).entries (turned w h f queue x rest e n) b n

  owes : OwesTold OnHandles w
  owes =
      record {
        idles = λ c. host_same w (entry.Idle c ∷ []) (tt, tt) refl;
        host_puts = λ x rest e. still (record w { host = after_sent w.host x rest; down = w.down ++ x ∷ [] }) (entry.Put lane.Down (item.Down x) ∷ []) (tt, tt) (put_like x rest);
        host_takes = λ queue x rest e y. item_taken queue x rest e;
        host_told = λ i c. (let z = view.told w.host i c in phases_same (record w { host = (host_told w.host i).part }) (host_told w.host i).entries (input_bare w.host i) z.before z.phases);
        host_looks = λ e. still (record w { host = looks w.host }) [] tt (view.looks_still w.host);
        host_stops = λ e. still (record w { host = stops w.host }) [] tt (view.stops_still w.host);
        no_session = host_same w [] tt refl;
        ioc_takes = λ x rest e. host_same (record w { ioc = (adapter.takes_down w.ioc x).part; down = rest }) (entry.Take lane.Down (item.Down x) ∷ (adapter.takes_down w.ioc x).entries) (tt, silent_bare (adapter.takes_down w.ioc x).entries (told_down w.ioc x)) refl;
        ioc_high = λ p rest e. host_same (record w { ioc = (step.works_on (record w.ioc { high = rest }) p).part }) (step.works_on (record w.ioc { high = rest }) p).entries (silent_bare (step.works_on (record w.ioc { high = rest }) p).entries (told_high w.ioc (p ∷ rest))) refl;
        ioc_normal = λ p rest e. host_same (record w { ioc = (step.works_on (record w.ioc { normal = rest }) p).part }) (step.works_on (record w.ioc { normal = rest }) p).entries (silent_bare (step.works_on (record w.ioc { normal = rest }) p).entries (told_normal w.ioc (p ∷ rest))) refl;
        ioc_puts_out = λ x rest e. host_same (record w { ioc = record w.ioc { out = rest }; out = w.out ++ x ∷ [] }) (entry.Put lane.Out (item.Out x) ∷ []) (tt, tt) refl;
        ioc_takes_back = λ x rest e. host_same (record w { ioc = (adapter.takes_back w.ioc x).part; back = rest }) (entry.Take lane.Back (item.Back x) ∷ (adapter.takes_back w.ioc x).entries) (tt, silent_bare (adapter.takes_back w.ioc x).entries (told_back w.ioc x)) refl;
        ioc_puts = λ queue y rest z e u. host_same (with_up (record w { ioc = Rattle.mpt_rules.specs.Ioc.Takes.up_sent_on w.ioc queue }) queue (up_on w queue ++ z ∷ [])) (entry.Put (up_lane queue) (item.Up z) ∷ []) (tt, tt) refl;
        fabric_takes = λ x rest e. host_same (record w { fabric = fab.takes_out w.fabric x; out = rest }) (entry.Take lane.Out (item.Out x) ∷ []) (tt, tt) refl;
        fabric_says = λ x rest e. host_same (record w { fabric = record w.fabric { notices = rest; out = w.fabric.out ++ x ∷ [] } }) [] tt refl;
        fabric_puts = λ x rest e. host_same (record w { fabric = record w.fabric { out = rest }; back = w.back ++ x ∷ [] }) (entry.Put lane.Back (item.Back x) ∷ []) (tt, tt) refl;
        fabric_runs = λ tag address e. host_same (record w { fabric = (fab.runs w.fabric tag).part }) (entry.Run address tag ∷ []) (tt, tt) refl;
        plugs = λ address expander phy t p. host_same (record w { fabric = (fab.fabric_plugs w.fabric address expander phy).part }) t (plug_bare t p) refl;
        unplugs = λ address t p. host_same (record w { fabric = (fab.fabric_unplugs w.fabric address).part }) t (plug_bare t p) refl;
        calms = host_same (record w { fabric = fab.calms w.fabric }) [] tt refl;
      }

  kept : (c : Case) → is_resetting (happens w c).host.mode ≡ false → (g : ℕ) → IsHandle g → ReadyHandle (happens w c) (history_after h (entries w c)) g
  unfolding OnHandles
  kept c n g i =
      of_fits (history_after h (entries w c)) g (phase_of (happens w c) g) ((history_after h (entries w c)).serving.bound g)
      (kept_told OnHandles w plain owes c (λ m j k p e a. bound_kept w h f m plain j k p e a c) n g i)

  pub handles_kept : (c : Case) → HandlesReady (happens w c) (history_after h (entries w c))
  handles_kept c n g i = kept c (by_mode (happens w c).host.mode n) g i
    where
      by_mode : (x : HostState) → (is_starting x || is_up x) ≡ true → is_resetting x ≡ false
      by_mode state.Off e = refl
      by_mode state.Starting e = refl
      by_mode state.Up e = refl
      by_mode state.Resetting e = absurd (cc)

  pub off_handles : (c : Case) → is_off (happens w c).host.mode ≡ true → (g : ℕ) → IsHandle g → ReadyHandle (happens w c) (history_after h (entries w c)) g
  off_handles c n g i = kept c (by_mode (happens w c).host.mode n) g i
    where
      by_mode : (x : HostState) → is_off x ≡ true → is_resetting x ≡ false
      by_mode state.Off e = refl
      by_mode state.Starting e = refl
      by_mode state.Up e = refl
      by_mode state.Resetting e = absurd (cc)
