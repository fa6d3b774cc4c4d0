-- The notices are of plugs and unplugs, and of expanders that are there; and a controller whose fabric is off knows of no disk: over every case.
use Rattle.std.proofs.Common.{◌≡◌, ℕ, zero, suc, ◌+◌, ◌<◌, ◌≤◌, nat_lt, not, Bool, true, false, List, [], ◌∷◌, ◌++◌, map, length, slice_index, Option, Some, None, refl, ap, sym, ◌∙◌, arith}
use Rattle.std.specs.List.{filter_map, find, range_with_len}
use Rattle.std.specs.Option.{option_map}
use Rattle.std.proofs.lemmas.List.Elements.{filter_map-append}
use Rattle.mpt_trace.specs.declared.item.Back.{Back}
use Rattle.mpt_trace.specs.declared.item.Back.TheVariants as back
use Rattle.mpt_trace.specs.declared.item.Out.{Out}
use Rattle.mpt_trace.specs.declared.item.Out.TheVariants as out
use Rattle.mpt_rules.specs.Fabric.Calls as fab
use Rattle.mpt_rules.specs.Fabric.Disks.{all_plugged, phys_of, places_from, plugged_news, plugged_there, stands_at, unplugged_news, with_disk}
use Rattle.mpt_rules.specs.Fabric.Parts.{Fabric, FabricDisk}
use Rattle.mpt_rules.specs.Ioc.Steps.{works_on}
use Rattle.mpt_rules.specs.Law.{NothingIsStrange}
use Rattle.mpt_rules.specs.World.Cases.{Case, entries, happens}
use Rattle.mpt_rules.specs.World.Counts.{one_if}
use Rattle.mpt_rules.specs.World.Lines.{back_line, notice_line}
use Rattle.mpt_rules.specs.World.State.{World}
use Rattle.law_facts.specs.Clock.{Clock, is_live}
use Rattle.law_facts.specs.Disks.{SameDisks}
use Rattle.law_facts.specs.Facts.{Facts}
use Rattle.law_facts.specs.History.{History, history_after}
use Rattle.law_facts.specs.Notices.{NoticesFit, has_expander, is_notice}
use Rattle.law_facts.specs.Words.{others}
use Rattle.law_disks.proofs.Wired.{disks_kept}
use Rattle.law_flights.proofs.WorkLeaves.{works_leaf}
use Rattle.law_lights.proofs.ClocksKept.{clocks_kept}
use Rattle.law_moves.proofs.Cases.{Owes, kept}
use Rattle.law_moves.proofs.Counted.{Grown, all_pass, others-append, others-cons, others-nil, one_mild}
use Rattle.law_notices.proofs.Calls.{Nothing, back_same, down_same, no_link, nothing_now, nothing_same, works_nothing}
use Rattle.law_notices.proofs.FabricMoves.{Moves, Plugs, Quietly, Runs, Unplugs, calm_moves, is_quiet, out_moves, plug_moves, run_moves, unplug_grows, unplug_moves}
use Rattle.law_notices.proofs.Lit.{dark_when_off, live_back, live_down, live_high, live_normal}

-- ---- kinds

-- the notices are plugs and unplugs, and the expanders are as before
record OnlyNotices (phys : List ℕ) (f : Fabric) : Type 0 where
  kinds : others is_notice f.notices ≡ 0
  wired : f.phys ≡ phys

module _ (phys : List ℕ) where
  with_one : (b : Bool) (y : Back) (k : Fabric) → is_notice y ≡ true → OnlyNotices phys k → OnlyNotices phys (fab.with_notice b y k)
  with_one true y k e z = let a = others-append is_notice k.notices (y ∷ []) in let o = one_mild is_notice y e in let q = z.kinds in record { kinds = omega (arith, a, o, q); wired = z.wired }
  with_one false y k e z = z

  moved_kinds : (f k : Fabric) → Moves f k → OnlyNotices phys f → OnlyNotices phys k
  moved_kinds f k (Quietly j g n o d p) z = record { kinds = ap (others is_notice) n ∙ z.kinds; wired = p ∙ z.wired }
  moved_kinds f k (Runs j address bytes g n o d p) z = record { kinds = ap (others is_notice) n ∙ z.kinds; wired = p ∙ z.wired }
  moved_kinds f k (Plugs d address p e n t u) z =
      with_one f.on (plugged_news (fab.plugged_once_more p d) p) (record f { disks = with_disk d.address (fab.plugged_once_more p) f.disks }) refl (record { kinds = z.kinds; wired = z.wired })
  moved_kinds f k (Unplugs d address p e n) z = with_one f.on (unplugged_news d p) _ refl (record { kinds = z.kinds; wired = z.wired })

  module _ (w : World) (z : OnlyNotices phys w.fabric) where
    abbrev Only : World → Type 0
    Only v = OnlyNotices phys v.fabric

    as_before : (k : Fabric) → k.notices ≡ w.fabric.notices → k.phys ≡ w.fabric.phys → OnlyNotices phys k
    as_before k n p = record { kinds = ap (others is_notice) n ∙ z.kinds; wired = p ∙ z.wired }

    taken_kinds : (x : Out) → OnlyNotices phys (fab.takes_out w.fabric x)
    taken_kinds out.Discover = as_before (fab.after_discover w.fabric) refl refl
    taken_kinds (out.Link generation) = record { kinds = others-nil is_notice; wired = z.wired }
    taken_kinds (out.Task tag address command) = moved_kinds w.fabric _ (out_moves w.fabric (out.Task tag address command) refl) z
    taken_kinds (out.Abort smid task) = moved_kinds w.fabric _ (out_moves w.fabric (out.Abort smid task) refl) z
    taken_kinds (out.TargetReset smid address) = moved_kinds w.fabric _ (out_moves w.fabric (out.TargetReset smid address) refl) z
    taken_kinds out.Stop = z

    owed_kinds : Owes Only w
    owed_kinds =
        record {
          host_puts = λ x rest e. z;
          host_takes = λ queue x rest e s. z;
          host_told = λ i k. z;
          host_looks = λ e. z;
          host_stops = λ e. z;
          ioc_takes = λ x rest e. z;
          ioc_high = λ q rest e. z;
          ioc_normal = λ q rest e. z;
          ioc_puts_out = λ x rest e. z;
          ioc_takes_back = λ x rest e. z;
          ioc_puts = λ queue y rest x e f. z;
          fabric_takes = λ x rest e. taken_kinds x;
          fabric_says = λ x rest e. let c = others-cons is_notice x rest in let n = ap (others is_notice) e in let q = z.kinds in record { kinds = omega (arith, c, n, q); wired = z.wired };
          fabric_puts = λ x rest e. as_before (record w.fabric { out = rest }) refl refl;
          fabric_runs = λ tag address e. moved_kinds w.fabric _ (run_moves w.fabric tag) z;
          plugs = λ address expander phy. moved_kinds w.fabric _ (plug_moves w.fabric address expander phy) z;
          unplugs = λ address. moved_kinds w.fabric _ (unplug_moves w.fabric address) z;
          calms = moved_kinds w.fabric _ (calm_moves w.fabric) z;
        }

only_kept : (w : World) (h : History) (c : Case) → Facts w h → NothingIsStrange w → OnlyNotices w.fabric.phys (happens w c).fabric
only_kept w h c f plain = let z : OnlyNotices w.fabric.phys w.fabric = record { kinds = f.notices.fit.kinds; wired = refl } in kept (Only w.fabric.phys w z) w plain (owed_kinds w.fabric.phys w z) z c

pub kinds_kept : (w : World) (h : History) (c : Case) → Facts w h → NothingIsStrange w → others is_notice (happens w c).fabric.notices ≡ 0
kinds_kept w h c f plain = (only_kept w h c f plain).kinds

-- ---- expanders

-- a notice names one of so many expanders
abbrev reaches : ℕ → Back → Bool
reaches n (back.Plugged address plug expander phy) = nat_lt expander n
reaches n item = true

reach_is : (w : World) (n : ℕ) → length w.ioc.phys ≡ n → (x : Back) → has_expander w x ≡ reaches n x
reach_is w n e (back.Plugged address plug expander phy) = ap (nat_lt expander) e
reach_is w n e (back.Unplugged address plug expander phy) = refl
reach_is w n e (back.Result tag r) = refl
reach_is w n e (back.Gone tag) = refl
reach_is w n e (back.Terminated tag) = refl
reach_is w n e (back.Aborted smid seen) = refl
reach_is w n e (back.Cleared smid count) = refl
reach_is w n e back.Discovered = refl
reach_is w n e (back.Linked generation) = refl
reach_is w n e back.Calm = refl

quiet_reaches : (n : ℕ) (x : Back) → is_quiet x ≡ true → reaches n x ≡ true
quiet_reaches n (back.Plugged address plug expander phy) e = absurd (cc)
quiet_reaches n (back.Unplugged address plug expander phy) e = refl
quiet_reaches n (back.Result tag r) e = refl
quiet_reaches n (back.Gone tag) e = refl
quiet_reaches n (back.Terminated tag) e = refl
quiet_reaches n (back.Aborted smid seen) e = refl
quiet_reaches n (back.Cleared smid count) e = refl
quiet_reaches n back.Discovered e = refl
quiet_reaches n (back.Linked generation) e = refl
quiet_reaches n back.Calm e = refl

calm_reaches : (n : ℕ) (x : Back) → fab.is_calm x ≡ true → reaches n x ≡ true
calm_reaches n (back.Plugged address plug expander phy) e = absurd (cc)
calm_reaches n (back.Unplugged address plug expander phy) e = refl
calm_reaches n (back.Result tag r) e = refl
calm_reaches n (back.Gone tag) e = refl
calm_reaches n (back.Terminated tag) e = refl
calm_reaches n (back.Aborted smid seen) e = refl
calm_reaches n (back.Cleared smid count) e = refl
calm_reaches n back.Discovered e = refl
calm_reaches n (back.Linked generation) e = refl
calm_reaches n back.Calm e = refl

-- the lane, the outbox and the notices name expanders that are there
record Reach (n : ℕ) (on_lane told announced : List Back) : Type 0 where
  lane : others (reaches n) on_lane ≡ 0
  outbox : others (reaches n) told ≡ 0
  notices : others (reaches n) announced ≡ 0

reach_of : (n : ℕ) (on_lane told announced : List Back) → others (reaches n) ((on_lane ++ told) ++ announced) ≡ 0 → Reach n on_lane told announced
reach_of n on_lane told announced z =
    let a = others-append (reaches n) (on_lane ++ told) announced in let b = others-append (reaches n) on_lane told in
    record { lane = omega (arith, a, b, z); outbox = omega (arith, a, b, z); notices = omega (arith, a, b, z) }

line_of : (n : ℕ) (on_lane told announced : List Back) → Reach n on_lane told announced → others (reaches n) ((on_lane ++ told) ++ announced) ≡ 0
line_of n on_lane told announced r =
    let a = others-append (reaches n) (on_lane ++ told) announced in let b = others-append (reaches n) on_lane told in
    let x = r.lane in let y = r.outbox in let z = r.notices in
    omega (arith, a, b, x, y, z)

grown_reach : (n : ℕ) (xs ys : List Back) → Grown is_quiet xs ys → others (reaches n) xs ≡ 0 → others (reaches n) ys ≡ 0
grown_reach n xs ys g z =
    let a = ap (others (reaches n)) g.is ∙ others-append (reaches n) xs g.added in
    let q = all_pass is_quiet (reaches n) (quiet_reaches n) g.added g.mild in
    omega (arith, a, q, z)

expander_there : (phys : List ℕ) (expander phy : ℕ) → phy < slice_index phys expander → expander < length phys
expander_there [] expander phy l = absurd (omega (arith, l))
expander_there (x ∷ phys) zero phy l = omega arith
expander_there (x ∷ phys) (suc e) phy l = let r = expander_there phys e phy l in omega (arith, r)

module _ (n : ℕ) (on_lane : List Back) where
  with_reach : (b : Bool) (y : Back) (k : Fabric) → reaches n y ≡ true → Reach n on_lane k.out k.notices → Reach n on_lane (fab.with_notice b y k).out (fab.with_notice b y k).notices
  with_reach true y k e r = let a = others-append (reaches n) k.notices (y ∷ []) in let o = one_mild (reaches n) y e in let z = r.notices in record { lane = r.lane; outbox = r.outbox; notices = omega (arith, a, o, z) }
  with_reach false y k e r = r

  moved_reach : (f k : Fabric) → length f.phys ≡ n → Moves f k → Reach n on_lane f.out f.notices → Reach n on_lane k.out k.notices
  moved_reach f k s (Quietly j g m o d p) r = record { lane = r.lane; outbox = grown_reach n f.out k.out g r.outbox; notices = ap (others (reaches n)) m ∙ r.notices }
  moved_reach f k s (Runs j address bytes g m o d p) r = record { lane = r.lane; outbox = grown_reach n f.out k.out g r.outbox; notices = ap (others (reaches n)) m ∙ r.notices }
  moved_reach f k s (Plugs d address p e m t u) r =
      let l : p.phy < slice_index f.phys p.expander = grind (arith, t) in
      let x = expander_there f.phys p.expander p.phy l in
      with_reach f.on (plugged_news (fab.plugged_once_more p d) p) (record f { disks = with_disk d.address (fab.plugged_once_more p) f.disks }) (grind (arith, x, s)) (record { lane = r.lane; outbox = r.outbox; notices = r.notices })
  moved_reach f k s (Unplugs d address p e m) r =
      with_reach f.on (unplugged_news d p) _ refl (record { lane = r.lane; outbox = grown_reach n f.out _ (unplug_grows f d) r.outbox; notices = r.notices })

-- the discovery names disks by rising expander
named_on : (x : Fabric) (n e : ℕ) (ks : List ℕ) → e < n → others (reaches n) (filter_map (plugged_there x) (map (λ phy. record { expander = e; phy = phy }) ks)) ≡ 0
named_on x n e [] l = others-nil (reaches n)
named_on x n e (k ∷ ks) l = by_disk (find (stands_at e k) x.disks) (named_on x n e ks l)
  where
    tail : List Back
    tail = filter_map (plugged_there x) (map (λ phy. record { expander = e; phy = phy }) ks)

    by_disk : (o : Option FabricDisk) → others (reaches n) (filter_map (plugged_there x) (map (λ phy. record { expander = e; phy = phy }) ks)) ≡ 0
        → others (reaches n) (Rattle.std.specs.List.cons_option (option_map (λ disk. plugged_news disk (record { expander = e; phy = k })) o) (filter_map (plugged_there x) (map (λ phy. record { expander = e; phy = phy }) ks))) ≡ 0
    by_disk None z = z
    by_disk (Some d) z =
        let c = others-cons (reaches n) (plugged_news d (record { expander = e; phy = k })) (filter_map (plugged_there x) (map (λ phy. record { expander = e; phy = phy }) ks)) in
        let t : reaches n (plugged_news d (record { expander = e; phy = k })) ≡ true = grind (arith, l) in
        let u = ap (λ b. one_if (not b)) t in
        omega (arith, c, u, z)

named_from : (x : Fabric) (n e : ℕ) (phys : List ℕ) → e + length phys ≤ n → others (reaches n) (filter_map (plugged_there x) (places_from e phys)) ≡ 0
unfolding places_from
named_from x n e [] l = others-nil (reaches n)
named_from x n e (count ∷ phys) l =
    let here = named_on x n e (range_with_len 0 count) (omega (arith, l)) in
    let rest = named_from x n (e + 1) phys (omega (arith, l)) in
    let split = ap (others (reaches n)) (filter_map-append (plugged_there x) (phys_of e count) (places_from (e + 1) phys)) in
    let sum = others-append (reaches n) (filter_map (plugged_there x) (phys_of e count)) (filter_map (plugged_there x) (places_from (e + 1) phys)) in
    omega (arith, here, rest, split, sum)

module _ (w : World) (h : History) (f : Facts w h) where
  abbrev There : World → Type 0
  There v = is_live v ≡ true → v.fabric.on ≡ true → Reach (length w.fabric.phys) v.back v.fabric.out v.fabric.notices

  before : is_live w ≡ true → Reach (length w.fabric.phys) w.back w.fabric.out w.fabric.notices
  before l =
      let s : length w.ioc.phys ≡ length w.fabric.phys = ap length (sym f.disks.disks.phys) in
      reach_of (length w.fabric.phys) w.back w.fabric.out w.fabric.notices
      (all_pass (has_expander w) (reaches (length w.fabric.phys)) (λ x t. sym (reach_is w (length w.fabric.phys) s x) ∙ t) (notice_line w) (f.notices.fit.expanders l))

  moved : (k : Fabric) → Moves w.fabric k → is_live w ≡ true → Reach (length w.fabric.phys) w.back k.out k.notices
  moved k m l = moved_reach (length w.fabric.phys) w.back w.fabric k refl m (before l)

  discovered : is_live w ≡ true → Reach (length w.fabric.phys) w.back (fab.after_discover w.fabric).out (fab.after_discover w.fabric).notices
  discovered l =
      let r = before l in
      let a = named_from (record w.fabric { on = true }) (length w.fabric.phys) 0 w.fabric.phys (omega arith) in
      let b = others-append (reaches (length w.fabric.phys)) (all_plugged (record w.fabric { on = true })) (back.Discovered ∷ []) in
      let c = one_mild (reaches (length w.fabric.phys)) back.Discovered refl in
      let d = others-append (reaches (length w.fabric.phys)) w.fabric.out (all_plugged (record w.fabric { on = true }) ++ back.Discovered ∷ []) in
      let z = r.outbox in
      record { lane = r.lane; outbox = omega (arith, a, b, c, d, z); notices = r.notices }

  taken : (x : Out) → is_live w ≡ true → (fab.takes_out w.fabric x).on ≡ true → Reach (length w.fabric.phys) w.back (fab.takes_out w.fabric x).out (fab.takes_out w.fabric x).notices
  taken out.Discover l o = discovered l
  taken (out.Link generation) l o = absurd (cc)
  taken (out.Task tag address command) l o = moved _ (out_moves w.fabric (out.Task tag address command) refl) l
  taken (out.Abort smid task) l o = moved _ (out_moves w.fabric (out.Abort smid task) refl) l
  taken (out.TargetReset smid address) l o = moved _ (out_moves w.fabric (out.TargetReset smid address) refl) l
  taken out.Stop l o = before l

  owed_there : Owes There w
  owed_there =
      record {
        host_puts = λ x rest e l o. before l;
        host_takes = λ queue x rest e s l o. before l;
        host_told = λ i k l o. before l;
        host_looks = λ e l o. before l;
        host_stops = λ e l o. before l;
        ioc_takes = λ x rest e l o. before (live_down w h f x o l);
        ioc_high = λ q rest e l o. before (live_high w h f q rest e);
        ioc_normal = λ q rest e l o. before (live_normal w h f q rest e);
        ioc_puts_out = λ x rest e l o. before l;
        ioc_takes_back = λ x rest e l o.
            let r = before (live_back w h f x o l) in
            let c = others-cons (reaches (length w.fabric.phys)) x rest in
            let s = ap (others (reaches (length w.fabric.phys))) e in
            let z = r.lane in
            record { lane = omega (arith, c, s, z); outbox = r.outbox; notices = r.notices };
        ioc_puts = λ queue y rest x e g l o. before l;
        fabric_takes = λ x rest e l o. taken x l o;
        fabric_says = λ x rest e l o.
            let r = before l in
            let c = others-cons (reaches (length w.fabric.phys)) x rest in
            let s = ap (others (reaches (length w.fabric.phys))) e in
            let d = others-append (reaches (length w.fabric.phys)) w.fabric.out (x ∷ []) in
            let y = others-cons (reaches (length w.fabric.phys)) x [] in let n = others-nil (reaches (length w.fabric.phys)) in
            let z = r.notices in let t = r.outbox in
            record { lane = r.lane; outbox = omega (arith, c, s, d, y, n, z, t); notices = omega (arith, c, s, z) };
        fabric_puts = λ x rest e l o.
            let r = before l in
            let c = others-cons (reaches (length w.fabric.phys)) x rest in
            let s = ap (others (reaches (length w.fabric.phys))) e in
            let d = others-append (reaches (length w.fabric.phys)) w.back (x ∷ []) in
            let y = others-cons (reaches (length w.fabric.phys)) x [] in let n = others-nil (reaches (length w.fabric.phys)) in
            let z = r.outbox in let t = r.lane in
            record { lane = omega (arith, c, s, d, y, n, z, t); outbox = omega (arith, c, s, z); notices = r.notices };
        fabric_runs = λ tag address e l o. moved _ (run_moves w.fabric tag) l;
        plugs = λ address expander phy l o. moved _ (plug_moves w.fabric address expander phy) l;
        unplugs = λ address l o. moved _ (unplug_moves w.fabric address) l;
        calms = λ l o. moved _ (calm_moves w.fabric) l;
      }

  pub expanders_kept : NothingIsStrange w → (c : Case) → is_live (happens w c) ≡ true → others (has_expander (happens w c)) (notice_line (happens w c)) ≡ 0
  expanders_kept plain c l = all_pass (reaches m) (has_expander v) (λ x t. reach_is v m s x ∙ t) (notice_line v) (by_on v.fabric.on refl)
    where
      v : World
      v = happens w c

      m : ℕ
      m = length w.fabric.phys

      clock : Clock (happens w c) (history_after h (entries w c))
      clock = clocks_kept w h c f plain

      wires : SameDisks (happens w c) (history_after h (entries w c))
      wires = disks_kept w h f plain c

      s : length (happens w c).ioc.phys ≡ length w.fabric.phys
      s = ap length (sym wires.phys ∙ (only_kept w h c f plain).wired)

      by_on : (b : Bool) → (happens w c).fabric.on ≡ b → others (reaches (length w.fabric.phys)) (notice_line (happens w c)) ≡ 0
      by_on true o = line_of (length w.fabric.phys) (happens w c).back (happens w c).fabric.out (happens w c).fabric.notices (kept There w plain owed_there (λ l2 o2. before l2) c l o)
      by_on false o =
          let d = clock.fabric_off.dark (dark_when_off (happens w c) clock.fabric_off l o) in
          let a = others-append (reaches (length w.fabric.phys)) (back_line (happens w c)) (happens w c).fabric.notices in
          let b = all_pass fab.is_calm (reaches (length w.fabric.phys)) (calm_reaches (length w.fabric.phys)) (back_line (happens w c)) d.back in
          let e = ap (others (reaches (length w.fabric.phys))) d.notices in let n = others-nil (reaches (length w.fabric.phys)) in
          omega (arith, a, b, e, n)

-- ---- a fabric that is off

module _ (w : World) (h : History) (f : Facts w h) where
  abbrev Bare : World → Type 0
  Bare v = is_live v ≡ true → v.fabric.on ≡ false → Nothing v.ioc

  pub moved_on : (k : Fabric) → Moves w.fabric k → k.on ≡ w.fabric.on
  moved_on k (Quietly j g n o d p) = o
  moved_on k (Runs j address bytes g n o d p) = o
  moved_on k (Plugs d address p e n t u) = by_on w.fabric.on (record w.fabric { disks = with_disk d.address (fab.plugged_once_more p) w.fabric.disks }) (plugged_news (fab.plugged_once_more p d) p)
    where
      by_on : (b : Bool) (j : Fabric) (y : Back) → (fab.with_notice b y j).on ≡ j.on
      by_on true j y = refl
      by_on false j y = refl
  moved_on k (Unplugs d address p e n) = by_on w.fabric.on _ (unplugged_news d p)
    where
      by_on : (b : Bool) (j : Fabric) (y : Back) → (fab.with_notice b y j).on ≡ j.on
      by_on true j y = refl
      by_on false j y = refl

  still : (k : Fabric) → Moves w.fabric k → k.on ≡ false → Nothing w.ioc
  still k m o = nothing_now w h f (sym (moved_on k m) ∙ o)

  taken_off : (x : Out) (rest : List Out) → w.out ≡ x ∷ rest → is_live w ≡ true → (fab.takes_out w.fabric x).on ≡ false → Nothing w.ioc
  taken_off out.Discover rest e l o = absurd (cc)
  taken_off (out.Link generation) rest e l o = absurd (no_link w h f generation rest e l)
  taken_off (out.Task tag address command) rest e l o = still _ (out_moves w.fabric (out.Task tag address command) refl) o
  taken_off (out.Abort smid task) rest e l o = still _ (out_moves w.fabric (out.Abort smid task) refl) o
  taken_off (out.TargetReset smid address) rest e l o = still _ (out_moves w.fabric (out.TargetReset smid address) refl) o
  taken_off out.Stop rest e l o = nothing_now w h f o

  owed_bare : Owes Bare w
  owed_bare =
      record {
        host_puts = λ x rest e l o. nothing_now w h f o;
        host_takes = λ queue x rest e s l o. nothing_now w h f o;
        host_told = λ i k l o. nothing_now w h f o;
        host_looks = λ e l o. nothing_now w h f o;
        host_stops = λ e l o. nothing_now w h f o;
        ioc_takes = λ x rest e l o. nothing_same _ w.ioc (down_same w h f x l) (nothing_now w h f o);
        ioc_high = λ q rest e l o. works_nothing (record w.ioc { high = rest }) q (works_on (record w.ioc { high = rest }) q) (works_leaf (record w.ioc { high = rest }) q) (nothing_now w h f o);
        ioc_normal = λ q rest e l o. works_nothing (record w.ioc { normal = rest }) q (works_on (record w.ioc { normal = rest }) q) (works_leaf (record w.ioc { normal = rest }) q) (nothing_now w h f o);
        ioc_puts_out = λ x rest e l o. nothing_now w h f o;
        ioc_takes_back = λ x rest e l o. nothing_same _ w.ioc (back_same w h f x rest e o) (nothing_now w h f o);
        ioc_puts = λ queue y rest x e g l o. nothing_now w h f o;
        fabric_takes = λ x rest e l o. taken_off x rest e l o;
        fabric_says = λ x rest e l o. nothing_now w h f o;
        fabric_puts = λ x rest e l o. nothing_now w h f o;
        fabric_runs = λ tag address e l o. still _ (run_moves w.fabric tag) o;
        plugs = λ address expander phy l o. still _ (plug_moves w.fabric address expander phy) o;
        unplugs = λ address l o. still _ (unplug_moves w.fabric address) o;
        calms = λ l o. still _ (calm_moves w.fabric) o;
      }

  pub bare_kept : NothingIsStrange w → (c : Case) → is_live (happens w c) ≡ true → (happens w c).fabric.on ≡ false → Nothing (happens w c).ioc
  bare_kept plain c = kept Bare w plain owed_bare (λ l o. nothing_now w h f o) c

pub notices_fit : (w : World) (h : History) (c : Case) → Facts w h → NothingIsStrange w → NoticesFit (happens w c)
notices_fit w h c f plain = record { kinds = kinds_kept w h c f plain; expanders = expanders_kept w h f plain c; dark = λ l o. let n = bare_kept w h f plain c l o in (n.unbound, n.unawaited) }
