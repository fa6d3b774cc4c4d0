-- What the controller's tables of disks are behind its steps, and which items the fabric doesn't get.
use Rattle.std.proofs.Common.{◌≡◌, ℕ, ◌+◌, ◌-◌, ◌≤◌, ◌==◌, ◌&&◌, nat_le, not, Bool, true, false, if◌then◌else◌, List, [], ◌∷◌, ◌++◌, slice_index_or, Option, Some, None, refl, ap, sym, ◌∙◌, subst, arith}
use Rattle.mpi_doorbell.specs.declared.state.IocState.{IocState}
use Rattle.mpi_doorbell.specs.declared.state.IocState.TheVariants as ioc_state
use Rattle.mpt_wire.specs.Messages.Fields.{controlled_handle_in}
use Rattle.mpt_trace.specs.declared.item.Back.{Back}
use Rattle.mpt_trace.specs.declared.item.Back.TheVariants as back
use Rattle.mpt_trace.specs.declared.item.Down.{Down}
use Rattle.mpt_trace.specs.declared.item.Out.{Out}
use Rattle.mpt_trace.specs.declared.item.Out.TheVariants as out
use Rattle.mpt_rules.specs.declared.binding.Binding.{Binding}
use Rattle.mpt_rules.specs.declared.binding.Binding.TheVariants as binding
use Rattle.mpt_rules.specs.declared.binding.Waiting.{Waiting}
use Rattle.mpt_rules.specs.declared.post.Post.{Post}
use Rattle.mpt_rules.specs.Fabric.Calls.{is_calm}
use Rattle.mpt_rules.specs.Ioc.Back as news
use Rattle.mpt_rules.specs.Ioc.Parts.{Ioc, state_of}
use Rattle.mpt_rules.specs.Ioc.Tables.{binding_of, first_handle, is_operational, is_reset, is_unbound}
use Rattle.mpt_rules.specs.Ioc.Takes as adapter
use Rattle.mpt_rules.specs.Outcome.{Happening}
use Rattle.mpt_rules.specs.World.Counts.{how_many, one_if}
use Rattle.mpt_rules.specs.World.FabricCounts.{discover_count, is_discover, is_link, link_count}
use Rattle.mpt_rules.specs.World.Lines.{back_line, out_line}
use Rattle.mpt_rules.specs.World.State.{World}
use Rattle.law_facts.specs.Clock.{in_begun, in_reset, is_live}
use Rattle.law_facts.specs.Facts.{Facts}
use Rattle.law_facts.specs.History.{History}
use Rattle.law_facts.specs.Words.{others}
use Rattle.law_flights.proofs.WorkLeaves.{AbortEnds, AbortSends, Acks, Dropped, Enables, EndsPlainly, Notifies, PageEnds, PageGiven, Refuses, RemovalEnds, Removes, ResetEnds, ResetHolds, ResetSends, ScsiEnds, ScsiSends, Stops, Strays, TaskFails, Works}
use Rattle.law_handles.proofs.Plugged.{front_passes}
use Rattle.law_handles.proofs.ServingWorld.{bare}
use Rattle.law_handles.proofs.TablesSame.{IsOfNoDisk, Same, of_no_disk}
use Rattle.law_moves.proofs.Counted.{how_many-cons, others-cons}
use Rattle.law_moves.proofs.IocTakes as leaf
use Rattle.law_moves.proofs.IocTakes.{Takes, takes}
use Rattle.law_notices.proofs.Lit.{asked_when_on, dark_when_off, fault_apart}

-- ---- an item of the host that leaves the controller OPERATIONAL leaves the tables

by_is : (i k x : Ioc) → k ≡ x → x.bindings ≡ i.bindings → x.waiting ≡ i.waiting → x.through ≡ i.through → Same k i
by_is i k x e b v t = record { bindings = ap (λ (y : Ioc). y.bindings) e ∙ b; waiting = ap (λ (y : Ioc). y.waiting) e ∙ v; through = ap (λ (y : Ioc). y.through) e ∙ t }

down_leaf : (i : Ioc) (x : Down) (k : Ioc) → Takes i x k → is_operational (state_of k) ≡ true → Same k i
down_leaf i x k (leaf.Faults y j f) l = absurd (fault_apart (state_of k) f l)
down_leaf i x k (leaf.Written reg value j n s e) l = by_is i k _ e refl refl refl
down_leaf i x k (leaf.Operates value j n a s e) l = by_is i k _ e refl refl refl
down_leaf i x k (leaf.Forgets reg value d a) l = absurd (cc)
down_leaf i x k (leaf.Reads reg value) l = record { bindings = refl; waiting = refl; through = refl }
down_leaf i x k (leaf.Posts d f p j o e) l = by_is i k _ e refl refl refl
down_leaf i x k (leaf.DropsPost d f p o) l = record { bindings = refl; waiting = refl; through = refl }
down_leaf i x k (leaf.Returns address index j o e) l = by_is i k _ e refl refl refl
down_leaf i x k (leaf.DropsReturn address index o) l = record { bindings = refl; waiting = refl; through = refl }
down_leaf i x k leaf.Stops l = record { bindings = refl; waiting = refl; through = refl }

pub down_same : (w : World) (h : History) → Facts w h → (x : Down) → is_operational (state_of (adapter.takes_down w.ioc x).part) ≡ true → Same (adapter.takes_down w.ioc x).part w.ioc
down_same w h f x = down_leaf w.ioc x (adapter.takes_down w.ioc x).part (takes w.ioc f.doorbell.sound.waits f.clock.phase_table.whole x)

-- ---- nothing is known

pub record NothingIn (bindings : List Binding) (waiting : List Waiting) : Type 0 where
  pub unbound : others is_unbound bindings ≡ 0
  pub unawaited : waiting ≡ []

abbrev pub Nothing : Ioc → Type 0
Nothing i = NothingIn i.bindings i.waiting

pub nothing_same : (k i : Ioc) → Same k i → Nothing i → Nothing k
nothing_same k i s n = record { unbound = ap (others is_unbound) s.bindings ∙ n.unbound; unawaited = s.waiting ∙ n.unawaited }

pub unbound_at : (i : Ioc) (handle : ℕ) → Nothing i → is_unbound (binding_of i handle) ≡ true
unbound_at i handle n = by_test (nat_le first_handle handle)
  where
    entry : (bs : List Binding) (j : ℕ) → others is_unbound bs ≡ 0 → is_unbound (slice_index_or bs j binding.Unbound) ≡ true
    entry [] j z = refl
    entry (b ∷ bs) Rattle.std.proofs.Common.zero z = front_passes is_unbound b bs z
    entry (b ∷ bs) (Rattle.std.proofs.Common.suc j) z = let c = others-cons is_unbound b bs in entry bs j (omega (arith, c, z))

    by_test : (b : Bool) → is_unbound (if b then slice_index_or i.bindings (handle - first_handle) binding.Unbound else binding.Unbound) ≡ true
    by_test true = entry i.bindings (handle - first_handle) n.unbound
    by_test false = refl

to : (o x : Happening Ioc) → o ≡ x → Nothing x.part → Nothing o.part
to o x e n = subst (λ (y : Happening Ioc). Nothing y.part) (sym e) n

-- no work binds
pub works_nothing : (i : Ioc) (p : Post) (o : Happening Ioc) → Works i p o → Nothing i → Nothing o.part
works_nothing i p o (Dropped k e) n = to o _ e n
works_nothing i p o (Refuses k f kind r e) n = to o _ e n
works_nothing i p o (ScsiEnds status k c e) n = to o _ e n
works_nothing i p o (ScsiSends address plug expander phy k c b e) n = to o _ e n
works_nothing i p o (Stops stop k f e) n = to o _ e n
works_nothing i p o (AbortSends k f b e) n = to o _ e n
works_nothing i p o (AbortEnds k f b e) n = to o _ e n
works_nothing i p o (ResetSends address plug expander phy k b e) n = to o _ e n
works_nothing i p o (ResetHolds address k b c e) n = to o _ e n
works_nothing i p o (ResetEnds status k e) n = to o _ e n
works_nothing i p o (TaskFails k e) n = to o _ e n
works_nothing i p o (PageEnds status k e) n = to o _ e n
works_nothing i p o (PageGiven page k w e) n = to o _ e n
works_nothing i p o (Enables k b e) n = to o _ e n
works_nothing i p o (Notifies k e) n = to o _ e n
works_nothing i p o (Acks k b e) n = to o _ e n
works_nothing i p o (EndsPlainly f status k e) n = to o _ e n
works_nothing i p o (RemovalEnds status k e) n = to o _ e n
works_nothing i p o (Removes address k f b c e) n = let u = unbound_at i (controlled_handle_in p.frame) n in let v = ap is_unbound b in absurd (cc)
works_nothing i p o (Strays k r e) n = to o _ e n

-- ---- what the fabric tells

calm_no_disk : (x : Back) → is_calm x ≡ true → IsOfNoDisk x
calm_no_disk (back.Plugged address plug expander phy) e = absurd (cc)
calm_no_disk (back.Unplugged address plug expander phy) e = absurd (cc)
calm_no_disk (back.Result tag r) e = tt
calm_no_disk (back.Gone tag) e = tt
calm_no_disk (back.Terminated tag) e = tt
calm_no_disk (back.Aborted smid seen) e = tt
calm_no_disk (back.Cleared smid count) e = tt
calm_no_disk back.Discovered e = tt
calm_no_disk (back.Linked generation) e = tt
calm_no_disk back.Calm e = tt

-- a controller that isn't OPERATIONAL hears of no disk
pub unheard : (i : Ioc) (x : Back) → is_operational (state_of i) ≡ false → Same (adapter.takes_back i x).part i
unheard i (back.Plugged address plug expander phy) l = by_state (is_operational (state_of i)) l
  where
    by_state : (b : Bool) → b ≡ false → Same (if b then news.hears i (back.Plugged address plug expander phy) else Rattle.mpt_rules.specs.Ioc.Tables.silently i).part i
    by_state true e = absurd (cc)
    by_state false e = record { bindings = refl; waiting = refl; through = refl }
unheard i (back.Unplugged address plug expander phy) l = by_state (is_operational (state_of i)) l
  where
    by_state : (b : Bool) → b ≡ false → Same (if b then news.hears i (back.Unplugged address plug expander phy) else Rattle.mpt_rules.specs.Ioc.Tables.silently i).part i
    by_state true e = absurd (cc)
    by_state false e = record { bindings = refl; waiting = refl; through = refl }
unheard i (back.Result tag r) l = (of_no_disk i (back.Result tag r) tt).0
unheard i (back.Gone tag) l = (of_no_disk i (back.Gone tag) tt).0
unheard i (back.Terminated tag) l = (of_no_disk i (back.Terminated tag) tt).0
unheard i (back.Aborted smid seen) l = (of_no_disk i (back.Aborted smid seen) tt).0
unheard i (back.Cleared smid count) l = (of_no_disk i (back.Cleared smid count) tt).0
unheard i back.Discovered l = (of_no_disk i back.Discovered tt).0
unheard i (back.Linked generation) l = (of_no_disk i (back.Linked generation) tt).0
unheard i back.Calm l = (of_no_disk i back.Calm tt).0

pub not_in_reset : (w : World) → is_live w ≡ true → in_reset w ≡ false
not_in_reset w l = by_state (in_begun w) (state_of w.ioc) l
  where
    by_state : (b : Bool) (s : IocState) → is_operational s ≡ true → (b && is_reset s) ≡ false
    by_state true ioc_state.Operational l = refl
    by_state false ioc_state.Operational l = refl
    by_state b ioc_state.Reset l = absurd (cc)
    by_state b ioc_state.Ready l = absurd (cc)
    by_state b (ioc_state.Fault code) l = absurd (cc)

module _ (w : World) (h : History) (f : Facts w h) where
  -- a fabric that is off has told of nothing
  pub back_same : (x : Back) (rest : List Back) → w.back ≡ x ∷ rest → w.fabric.on ≡ false → Same (adapter.takes_back w.ioc x).part w.ioc
  back_same x rest e o = by_live (is_live w) refl
    where
      by_live : (b : Bool) → is_live w ≡ b → Same (adapter.takes_back w.ioc x).part w.ioc
      by_live true l =
          let d = (f.clock.fabric_off.dark (dark_when_off w f.clock.fabric_off l o)).back in
          let line : back_line w ≡ x ∷ (rest ++ w.fabric.out) = ap (λ xs. xs ++ w.fabric.out) e in
          (of_no_disk w.ioc x (calm_no_disk x (front_passes is_calm x (rest ++ w.fabric.out) (sym (ap (others is_calm) line) ∙ d)))).0
      by_live false l = unheard w.ioc x l

  -- while it is off nothing is known
  pub nothing_now : w.fabric.on ≡ false → Nothing w.ioc
  nothing_now o = by_live (is_live w) refl
    where
      by_live : (b : Bool) → is_live w ≡ b → Nothing w.ioc
      by_live true l = let d = f.notices.fit.dark l o in record { unbound = d.0; unawaited = d.1 }
      by_live false l = let z = f.clock.tables_empty (bare w f.clock.phase_table.whole l) in record { unbound = z.bindings; unawaited = z.waiting }

  -- no link goes out of a controller that is OPERATIONAL
  pub no_link : (generation : ℕ) (rest : List Out) → w.out ≡ out.Link generation ∷ rest → is_live w ≡ true → ⊥
  unfolding link_count
  no_link generation rest e l =
      let line : out_line w ≡ out.Link generation ∷ (rest ++ w.ioc.out) = ap (λ xs. xs ++ w.ioc.out) e in
      let c = how_many-cons is_link (out.Link generation) (rest ++ w.ioc.out) in
      let n = ap (how_many is_link) line in
      let o = f.clock.one_link.one in
      let r = ap one_if (not_in_reset w l) in
      absurd (omega (arith, c, n, o, r))

  -- and where the fabric is on, no question for disks
  pub no_discovery : (rest : List Out) → w.out ≡ out.Discover ∷ rest → is_live w ≡ true → w.fabric.on ≡ true → ⊥
  unfolding discover_count
  no_discovery rest e l o =
      let line : out_line w ≡ out.Discover ∷ (rest ++ w.ioc.out) = ap (λ xs. xs ++ w.ioc.out) e in
      let c = how_many-cons is_discover out.Discover (rest ++ w.ioc.out) in
      let n = ap (how_many is_discover) line in
      let a = asked_when_on w f.clock.fabric_off l o in
      let z : how_many is_discover (out_line w) ≡ 0 = second w.ioc.enabled (how_many is_discover (out_line w)) a in
      absurd (omega (arith, c, n, z))
    where
      second : (b : Bool) (m : ℕ) → (b && (m == 0)) ≡ true → m ≡ 0
      second true m t = grind (arith, t)
      second false m t = absurd (cc)
