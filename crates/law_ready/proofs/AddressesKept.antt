-- One handle stays ready for an address exactly where a plug of it is.
use Rattle.std.proofs.Common.{◌≡◌, ℕ, ◌==◌, ◌||◌, Bool, true, false, cond, if◌then◌else◌, List, [], ◌∷◌, ◌++◌, length, Option, Some, None, is_some, option_map, refl, ap, sym, ◌∙◌, subst, ◌+◌, ◌≤◌, arith}
use Rattle.std.proofs.lemmas.Bool.{eqb-true}
use Rattle.removal.specs.Handles.{IsHandle, phase_at}
use Rattle.removal.specs.Phases.{is_ready_at}
use Rattle.removal.specs.declared.phase.Phase.{Phase}
use Rattle.removal.specs.declared.phase.Phase.TheVariants as phase
use Rattle.mpt_wire.specs.Handles.Bindings.{Plug}
use Rattle.mpt_wire.specs.Machine.Causes.{is_resetting, is_up}
use Rattle.mpt_wire.specs.Machine.State.{put_at}
use Rattle.mpt_wire.specs.Machine.View.{Seen}
use Rattle.mpt_wire.specs.Walks.Passes.{EachEntry}
use Rattle.mpt_trace.specs.declared.entry.Entry.{Entry}
use Rattle.mpt_trace.specs.declared.entry.Entry.TheVariants as entry
use Rattle.mpt_trace.specs.declared.host_state.HostState.{HostState}
use Rattle.mpt_trace.specs.declared.host_state.HostState.TheVariants as state
use Rattle.mpt_trace.specs.declared.item.Down.{Down}
use Rattle.mpt_trace.specs.declared.item.Down.TheVariants as down
use Rattle.mpt_trace.specs.declared.item.Item.TheVariants as item
use Rattle.mpt_trace.specs.declared.item.Up.{Up}
use Rattle.mpt_trace.specs.declared.lane.LaneName.TheVariants as lane
use Rattle.mpt_rules.specs.Fabric.Calls as fab
use Rattle.mpt_rules.specs.Host.Parts.{Host}
use Rattle.mpt_rules.specs.Host.Returns.{after_sent}
use Rattle.mpt_rules.specs.Host.Takes.{hears_up, is_starting, looks, stops}
use Rattle.mpt_rules.specs.Ioc.Steps as step
use Rattle.mpt_rules.specs.Ioc.Takes as adapter
use Rattle.mpt_rules.specs.Law.{NothingIsStrange}
use Rattle.mpt_rules.specs.World.Counts.{how_many, one_if}
use Rattle.mpt_rules.specs.World.Cases.{Case, entries, happens}
use Rattle.mpt_rules.specs.World.Inputs.{host_told}
use Rattle.mpt_rules.specs.World.State.{World, up_lane, up_on, with_up}
use Rattle.law_facts.specs.Disks.{ReadyAddress}
use Rattle.law_facts.specs.Facts.{Facts}
use Rattle.law_facts.specs.Handles.{phase_of}
use Rattle.law_facts.specs.History.{History, history_after}
use Rattle.law_facts.specs.Words.{is_off}
use Rattle.law_machine.proofs.IocSilent.{told_back, told_down, told_high, told_normal}
use Rattle.law_moves.proofs.CasesTold.{OwesTold, kept_told}
use Rattle.law_sizes.proofs.SizesKept.{sizes_kept}
use Rattle.law_targets.proofs.Views as view
use Rattle.law_ready.specs.Ready.{AddressesReady, OffReady}
use Rattle.law_ready.proofs.Bare.{IsBare, bare_same, lost_told, over_ready, ready_told}
use Rattle.law_ready.proofs.CountedReady.{at_of, but_ready_at, none_ready_at, same_ready_at}
use Rattle.law_ready.proofs.Fitting.{address_before, none_ready, ready_phase}
use Rattle.law_ready.proofs.HandlesKept.{put_here, put_other}
use Rattle.law_ready.proofs.Lines.{input_bare, plug_bare, silent_bare}
use Rattle.law_ready.proofs.Turned.{Ends, Keeps, Loses, Reads, Turned, ready_at, turned}

module _ (w : World) (h : History) (f : Facts w h) (plain : NothingIsStrange w) (off : OffReady w h) where
  abbrev seen : Seen
  seen = record { machine = h.machine; so_far = h.so_far }

  abbrev Is : List Phase → (ℕ → Option ℕ) → Type 0
  Is ps ready = (a : ℕ) → how_many (is_ready_at a) ps ≡ one_if (is_some (ready a))

  OnAddresses : World → List Entry → Type 0
  OnAddresses v t = length v.host.phases ≡ 64 → is_resetting v.host.mode ≡ false → (a : ℕ) → how_many (is_ready_at a) v.host.phases ≡ one_if (is_some ((history_after h t).machine.ready a))

  -- nothing is told of what is ready
  bare : (v : World) (t : List Entry) → EachEntry IsBare t → (is_resetting v.host.mode ≡ false → is_resetting w.host.mode ≡ false) → ((g : ℕ) → IsHandle g → ready_at (phase_at v.host.phases g) ≡ ready_at (phase_of w g)) → OnAddresses v t
  unfolding OnAddresses
  bare v t e m s l n a =
      same_ready_at a w.host.phases f.flights.sizes.phases v.host.phases l (λ g i. ap (at_of a) (s g i))
      ∙ (address_before w h f off (m n) a ∙ ap (λ r. one_if (is_some (r a))) (sym (bare_same t seen e).ready))

  host_same : (v : World) (t : List Entry) → EachEntry IsBare t → v.host ≡ w.host → OnAddresses v t
  host_same v t e q = bare v t e (λ n. ap (λ (x : Host). is_resetting x.mode) (sym q) ∙ n) (λ g i. ap (λ (x : Host). ready_at (phase_at x.phases g)) q)

  phases_same : (v : World) (t : List Entry) → EachEntry IsBare t → (is_resetting v.host.mode ≡ false → is_resetting w.host.mode ≡ false) → v.host.phases ≡ w.host.phases → OnAddresses v t
  phases_same v t e m q = bare v t e m (λ g i. ap (λ ps. ready_at (phase_at ps g)) q)

  still : (v : World) (t : List Entry) → EachEntry IsBare t → view.Still w.host v.host → OnAddresses v t
  still v t e s = phases_same v t e (λ n. ap is_resetting (sym s.mode) ∙ n) s.phases

  put_like : (x : Down) (rest : List Down) → view.Still w.host (after_sent w.host x rest)
  put_like (down.Post d g p) rest = record { phases = refl; mode = refl }
  put_like (down.Write reg value) rest = record { phases = refl; mode = refl }
  put_like (down.Read reg) rest = record { phases = refl; mode = refl }
  put_like (down.Return address index) rest = record { phases = refl; mode = refl }
  put_like down.Stop rest = record { phases = refl; mode = refl }

  -- ---- an item is taken

  module _ (queue : ℕ) (x : Up) (v : World) where
    ended : (u : List Entry) → ((g : ℕ) → ready_at (phase_at v.host.phases g) ≡ None) → OnAddresses v (entry.Take (up_lane queue) (item.Up x) ∷ (u ++ entry.ResetDone ∷ []))
    unfolding OnAddresses
    ended u s l n a =
        none_ready_at a v.host.phases l (λ g i. ap (at_of a) (s g)) ∙ ap (λ r. one_if (is_some (r a))) (sym (over_ready (entry.Take (up_lane queue) (item.Up x) ∷ u) seen))

    module _ (m : is_resetting w.host.mode ≡ false) (g0 b : ℕ) (i0 : IsHandle g0) (o : Option ℕ) (s : (g : ℕ) → IsHandle g → ready_at (phase_at v.host.phases g) ≡ cond (g == g0) o (ready_at (phase_of w g))) where
      others_same : (a g : ℕ) → IsHandle g → (g ≡ g0 → ⊥) → at_of a (ready_at (phase_at v.host.phases g)) ≡ at_of a (ready_at (phase_of w g))
      others_same a g i n = ap (at_of a) (s g i) ∙ by_key (g == g0) refl
        where
          by_key : (c : Bool) → (g == g0) ≡ c → at_of a (cond (g == g0) o (ready_at (phase_of w g))) ≡ at_of a (ready_at (phase_of w g))
          by_key true u = absurd (n (eqb-true g g0 u))
          by_key false u = ap (λ c. at_of a (cond c o (ready_at (phase_of w g)))) u

      now_at : ready_at (phase_at v.host.phases g0) ≡ o
      now_at = s g0 i0 ∙ ap (λ c. cond c o (ready_at (phase_of w g0))) (Rattle.law_messages.proofs.Agreeing.same g0)

      -- the count moves by that handle
      moved : (a : ℕ) → length v.host.phases ≡ 64 → how_many (is_ready_at a) v.host.phases + one_if (at_of a (ready_at (phase_of w g0))) ≡ how_many (is_ready_at a) w.host.phases + one_if (at_of a o)
      moved a l = but_ready_at a w.host.phases f.flights.sizes.phases v.host.phases l g0 i0 (others_same a) ∙ ap (λ p. how_many (is_ready_at a) w.host.phases + one_if (at_of a p)) now_at

    flipped : (a b : ℕ) → (a == b) ≡ false → (b == a) ≡ false
    flipped a b t = by_test (b == a) refl
      where
        by_test : (c : Bool) → (b == a) ≡ c → c ≡ false
        by_test false u = refl
        by_test true u = let z : true ≡ false = sym (Rattle.law_messages.proofs.Agreeing.same a) ∙ (sym (ap (λ n. a == n) (eqb-true b a u)) ∙ t) in absurd (cc)

    lost : (m : is_resetting w.host.mode ≡ false) (g0 b : ℕ) → IsHandle g0 → phase_of w g0 ≡ phase.Ready b → ((g : ℕ) → IsHandle g → ready_at (phase_at v.host.phases g) ≡ cond (g == g0) None (ready_at (phase_of w g))) → OnAddresses v (entry.Take (up_lane queue) (item.Up x) ∷ entry.Lost b g0 ∷ [])
    unfolding OnAddresses
    lost m g0 b i0 p s l n a =
        let z = moved m g0 b i0 None s a l in
        let c = address_before w h f off m a in
        let q = ap (λ y. one_if (at_of a (ready_at y))) p in
        ends (a == b) refl z c q ∙ ap (λ r. one_if (is_some (r a))) (sym (lost_told queue x b g0 seen).ready)
      where
        at_most : (t : Bool) → one_if t ≤ 1
        at_most true = omega arith
        at_most false = omega arith

        ends : (t : Bool) → (a == b) ≡ t → how_many (is_ready_at a) v.host.phases + one_if (at_of a (ready_at (phase_of w g0))) ≡ how_many (is_ready_at a) w.host.phases + 0 → how_many (is_ready_at a) w.host.phases ≡ one_if (is_some (h.machine.ready a))
            → one_if (at_of a (ready_at (phase_of w g0))) ≡ one_if (b == a) → how_many (is_ready_at a) v.host.phases ≡ one_if (is_some (put_at b None h.machine.ready a))
        ends true t z c q =
            let y = ap one_if (ap (λ k. b == k) (eqb-true a b t) ∙ Rattle.law_messages.proofs.Agreeing.same b) in
            let u = ap (λ k. one_if (is_some (if k then None else h.machine.ready a))) t in
            let few = at_most (is_some (h.machine.ready a)) in
            omega (arith, z, c, q, y, u, few)
        ends false t z c q =
            let y = ap one_if (flipped a b t) in
            let u = ap (λ k. one_if (is_some (if k then None else h.machine.ready a))) t in
            omega (arith, z, c, q, y, u)

    read : (m : is_resetting w.host.mode ≡ false) (g0 b : ℕ) → IsHandle g0 → (s0 k : ℕ) → phase_of w g0 ≡ phase.Reading s0 → h.so_far.plug_of g0 ≡ Some k → ((j : ℕ) → IsHandle j → phase_of w j ≡ phase.Ready b → ⊥)
        → ((g : ℕ) → IsHandle g → ready_at (phase_at v.host.phases g) ≡ cond (g == g0) (Some b) (ready_at (phase_of w g))) → OnAddresses v (entry.Take (up_lane queue) (item.Up x) ∷ entry.Ready b g0 ∷ [])
    unfolding OnAddresses
    read m g0 b i0 s0 k p d none s l n a =
        let z = moved m g0 b i0 (Some b) s a l in
        let c = address_before w h f off m a in
        let q = ap (λ y. one_if (at_of a (ready_at y))) p in
        ends (a == b) refl z c q ∙ ap (λ r. one_if (is_some (r a))) (sym (ready_told queue x b g0 k seen d).ready)
      where
        not_at : (o : Option ℕ) → (o ≡ Some a → ⊥) → at_of a o ≡ false
        not_at None e = refl
        not_at (Some c) e = by_test (c == a) refl
          where
            by_test : (t : Bool) → (c == a) ≡ t → t ≡ false
            by_test false u = refl
            by_test true u = absurd (e (ap Some (eqb-true c a u)))

        ends : (t : Bool) → (a == b) ≡ t → how_many (is_ready_at a) v.host.phases + one_if (at_of a (ready_at (phase_of w g0))) ≡ how_many (is_ready_at a) w.host.phases + one_if (b == a) → how_many (is_ready_at a) w.host.phases ≡ one_if (is_some (h.machine.ready a))
            → one_if (at_of a (ready_at (phase_of w g0))) ≡ 0 → how_many (is_ready_at a) v.host.phases ≡ one_if (is_some (put_at b (Some k) h.machine.ready a))
        ends true t z c q =
            let y = ap one_if (ap (λ k. b == k) (eqb-true a b t) ∙ Rattle.law_messages.proofs.Agreeing.same b) in
            let u = ap (λ e. one_if (is_some (if e then Some k else h.machine.ready a))) t in
            let v2 = none_ready_at a w.host.phases f.flights.sizes.phases (λ g i. not_at (ready_at (phase_of w g)) (λ e. none g i (ready_phase (phase_of w g) b (e ∙ ap Some (eqb-true a b t))))) in
            omega (arith, z, q, y, u, v2)
        ends false t z c q =
            let y = ap one_if (flipped a b t) in
            let u = ap (λ e. one_if (is_some (if e then Some k else h.machine.ready a))) t in
            omega (arith, z, c, q, y, u)

    mode_of : (y : HostState) → (is_starting y || is_up y) ≡ true → is_resetting y ≡ false
    mode_of state.Off z = refl
    mode_of state.Starting z = refl
    mode_of state.Up z = refl
    mode_of state.Resetting z = absurd (cc)

    takes : (k : Host) → v.host ≡ k → (t : List Entry) → Turned w h k t → OnAddresses v (entry.Take (up_lane queue) (item.Up x) ∷ t)
    takes k e t (Keeps m s b) = bare v (entry.Take (up_lane queue) (item.Up x) ∷ t) (tt, b) (λ n. m) (λ g i. ap (λ (y : Host). ready_at (phase_at y.phases g)) e ∙ s g i)
    takes k e t (Ends s u q) = subst (λ t. OnAddresses v (entry.Take (up_lane queue) (item.Up x) ∷ t)) (sym q) (ended u (λ g. ap (λ (y : Host). ready_at (phase_at y.phases g)) e ∙ s g))
    takes k e t (Loses g0 a i p n s q) = subst (λ t. OnAddresses v (entry.Take (up_lane queue) (item.Up x) ∷ t)) (sym q) (lost (mode_of w.host.mode n) g0 a i p (λ g j. ap (λ (y : Host). ready_at (phase_at y.phases g)) e ∙ s g j))
    takes k e t (Reads s0 g0 a i p u n l s q) = subst (λ t. OnAddresses v (entry.Take (up_lane queue) (item.Up x) ∷ t)) (sym q) (by_plug (h.serving.bound g0) refl u)
      where
        by_plug : (o : Option Plug) → h.serving.bound g0 ≡ o → option_map (λ (p : Plug). p.address) o ≡ Some a → OnAddresses v (entry.Take (up_lane queue) (item.Up x) ∷ entry.Ready a g0 ∷ [])
        by_plug None c y = absurd (cc)
        by_plug (Some d) c y =
            let z : d.address ≡ a = cc in
            read (mode_of w.host.mode n) g0 a i s0 d.number p ((f.handles.each g0 i).known.plug d c) (λ j o r. none_ready w h f off s0 g0 a i p d c z n l j o r) (λ g j. ap (λ (y : Host). ready_at (phase_at y.phases g)) e ∙ s g j)

  item_taken : (queue : ℕ) (x : Up) (rest : List Up) → up_on w queue ≡ x ∷ rest → OnAddresses (record (with_up w queue rest) { host = (hears_up w.host queue x).part }) (entry.Take (up_lane queue) (item.Up x) ∷ (hears_up w.host queue x).entries)
  unfolding OnAddresses
  item_taken queue x rest e l n =
      takes queue x (record (with_up w queue rest) { host = (hears_up w.host queue x).part }) (hears_up w.host queue x).part refl (hears_up w.host queue x).entries (turned w h f queue x rest e n) l n

  owes : OwesTold OnAddresses w
  owes =
      record {
        idles = λ c. host_same w (entry.Idle c ∷ []) (tt, tt) refl;
        host_puts = λ x rest e. still (record w { host = after_sent w.host x rest; down = w.down ++ x ∷ [] }) (entry.Put lane.Down (item.Down x) ∷ []) (tt, tt) (put_like x rest);
        host_takes = λ queue x rest e y. item_taken queue x rest e;
        host_told = λ i c. (let z = view.told w.host i c in phases_same (record w { host = (host_told w.host i).part }) (host_told w.host i).entries (input_bare w.host i) z.before z.phases);
        host_looks = λ e. still (record w { host = looks w.host }) [] tt (view.looks_still w.host);
        host_stops = λ e. still (record w { host = stops w.host }) [] tt (view.stops_still w.host);
        no_session = host_same w [] tt refl;
        ioc_takes = λ x rest e. host_same (record w { ioc = (adapter.takes_down w.ioc x).part; down = rest }) (entry.Take lane.Down (item.Down x) ∷ (adapter.takes_down w.ioc x).entries) (tt, silent_bare (adapter.takes_down w.ioc x).entries (told_down w.ioc x)) refl;
        ioc_high = λ p rest e. host_same (record w { ioc = (step.works_on (record w.ioc { high = rest }) p).part }) (step.works_on (record w.ioc { high = rest }) p).entries (silent_bare (step.works_on (record w.ioc { high = rest }) p).entries (told_high w.ioc (p ∷ rest))) refl;
        ioc_normal = λ p rest e. host_same (record w { ioc = (step.works_on (record w.ioc { normal = rest }) p).part }) (step.works_on (record w.ioc { normal = rest }) p).entries (silent_bare (step.works_on (record w.ioc { normal = rest }) p).entries (told_normal w.ioc (p ∷ rest))) refl;
        ioc_puts_out = λ x rest e. host_same (record w { ioc = record w.ioc { out = rest }; out = w.out ++ x ∷ [] }) (entry.Put lane.Out (item.Out x) ∷ []) (tt, tt) refl;
        ioc_takes_back = λ x rest e. host_same (record w { ioc = (adapter.takes_back w.ioc x).part; back = rest }) (entry.Take lane.Back (item.Back x) ∷ (adapter.takes_back w.ioc x).entries) (tt, silent_bare (adapter.takes_back w.ioc x).entries (told_back w.ioc x)) refl;
        ioc_puts = λ queue y rest z e u. host_same (with_up (record w { ioc = Rattle.mpt_rules.specs.Ioc.Takes.up_sent_on w.ioc queue }) queue (up_on w queue ++ z ∷ [])) (entry.Put (up_lane queue) (item.Up z) ∷ []) (tt, tt) refl;
        fabric_takes = λ x rest e. host_same (record w { fabric = fab.takes_out w.fabric x; out = rest }) (entry.Take lane.Out (item.Out x) ∷ []) (tt, tt) refl;
        fabric_says = λ x rest e. host_same (record w { fabric = record w.fabric { notices = rest; out = w.fabric.out ++ x ∷ [] } }) [] tt refl;
        fabric_puts = λ x rest e. host_same (record w { fabric = record w.fabric { out = rest }; back = w.back ++ x ∷ [] }) (entry.Put lane.Back (item.Back x) ∷ []) (tt, tt) refl;
        fabric_runs = λ tag address e. host_same (record w { fabric = (fab.runs w.fabric tag).part }) (entry.Run address tag ∷ []) (tt, tt) refl;
        plugs = λ address expander phy t p. host_same (record w { fabric = (fab.fabric_plugs w.fabric address expander phy).part }) t (plug_bare t p) refl;
        unplugs = λ address t p. host_same (record w { fabric = (fab.fabric_unplugs w.fabric address).part }) t (plug_bare t p) refl;
        calms = host_same (record w { fabric = fab.calms w.fabric }) [] tt refl;
      }

  kept : (c : Case) → is_resetting (happens w c).host.mode ≡ false → (a : ℕ) → ReadyAddress (happens w c) (history_after h (entries w c)) a
  unfolding OnAddresses
  kept c n a = kept_told OnAddresses w plain owes c (sizes_kept w c f.flights.sizes).phases n a

  pub addresses_kept : (c : Case) → AddressesReady (happens w c) (history_after h (entries w c))
  addresses_kept c n a = kept c (by_mode (happens w c).host.mode n) a
    where
      by_mode : (x : HostState) → (is_starting x || is_up x) ≡ true → is_resetting x ≡ false
      by_mode state.Off e = refl
      by_mode state.Starting e = refl
      by_mode state.Up e = refl
      by_mode state.Resetting e = absurd (cc)

  pub off_addresses : (c : Case) → is_off (happens w c).host.mode ≡ true → (a : ℕ) → ReadyAddress (happens w c) (history_after h (entries w c)) a
  off_addresses c n a = kept c (by_mode (happens w c).host.mode n) a
    where
      by_mode : (x : HostState) → is_off x ≡ true → is_resetting x ≡ false
      by_mode state.Off e = refl
      by_mode state.Starting e = refl
      by_mode state.Up e = refl
      by_mode state.Resetting e = absurd (cc)
