-- While the host asked no reset, what a handle is bound to stays, but where it is removed.
use Rattle.std.proofs.Common.{◌≡◌, ℕ, zero, suc, ◌+◌, ◌-◌, ◌≤◌, ◌==◌, ◌&&◌, ◌||◌, not, Bool, true, false, if◌then◌else◌, List, [], ◌∷◌, ◌++◌, get_or, Option, Some, None, refl, ap, sym, ◌∙◌, subst, arith}
use Rattle.std.specs.Prelude.{All}
use Rattle.std.proofs.lemmas.Bool.{eqb-true}
use Rattle.std.proofs.lemmas.List.Elements.{All-head}
use Rattle.mpi_doorbell.specs.DoorRegisters.{register_written}
use Rattle.mpi_doorbell.specs.declared.effect.Effect.{Effect}
use Rattle.mpi_doorbell.specs.declared.effect.Effect.TheVariants as effect
use Rattle.mpi_rings.specs.declared.request_descriptor.PostKind.TheVariants as post
use Rattle.removal.specs.Handles.{IsHandle}
use Rattle.removal.specs.declared.phase.Phase.{Phase}
use Rattle.removal.specs.declared.phase.Phase.TheVariants as phase
use Rattle.smid_pool.specs.Pool.{Open}
use Rattle.mpt_messages.specs.Function.{function_of}
use Rattle.mpt_messages.specs.declared.function.Function.TheVariants as function
use Rattle.mpt_wire.specs.Handles.Bindings.{Plug}
use Rattle.mpt_wire.specs.Machine.Causes.{is_resetting, is_up}
use Rattle.mpt_wire.specs.Messages.Fields.{controlled_handle_in, function_in, kind_in, smid_in}
use Rattle.mpt_wire.specs.Walks.Passes.{EachEntry}
use Rattle.mpt_trace.specs.declared.entry.Entry.{Entry}
use Rattle.mpt_trace.specs.declared.entry.Entry.TheVariants as entry
use Rattle.mpt_trace.specs.declared.host_state.HostState.{HostState}
use Rattle.mpt_trace.specs.declared.host_state.HostState.TheVariants as state
use Rattle.mpt_trace.specs.declared.item.Down.{Down}
use Rattle.mpt_trace.specs.declared.item.Down.TheVariants as down
use Rattle.mpt_rules.specs.declared.binding.Binding.{Binding}
use Rattle.mpt_rules.specs.declared.binding.Binding.TheVariants as binding
use Rattle.mpt_rules.specs.declared.post.Post.{Post}
use Rattle.mpt_rules.specs.declared.request.Request.TheVariants as request
use Rattle.mpt_rules.specs.Host.Doorbell.{is_reset_item}
use Rattle.mpt_rules.specs.Host.Takes.{hears_up, is_starting}
use Rattle.mpt_rules.specs.Ioc.Registers as registers
use Rattle.mpt_rules.specs.Ioc.Tables.{first_handle, is_unbound}
use Rattle.mpt_rules.specs.Ioc.Takes as adapter
use Rattle.mpt_rules.specs.Law.{NothingIsStrange}
use Rattle.mpt_rules.specs.World.Cases.{Case, entries, happens}
use Rattle.mpt_rules.specs.World.Counts.{how_many, one_if, reset_write_count}
use Rattle.mpt_rules.specs.World.Inputs.{host_told}
use Rattle.mpt_rules.specs.World.Lines.{down_line}
use Rattle.mpt_rules.specs.World.State.{World}
use Rattle.mpt_rules.proofs.Counts.{reset_write_count-cons}
use Rattle.law_facts.specs.Clock.{in_normal, is_live}
use Rattle.law_facts.specs.Facts.{Facts}
use Rattle.law_facts.specs.Handles.{BindingIs, RecordHasPhase, phase_of}
use Rattle.law_facts.specs.History.{History, history_after}
use Rattle.law_facts.specs.Messages.{PostIsRecord}
use Rattle.law_facts.specs.Words.{is_off, is_stray_reset, others}
use Rattle.law_flights.specs.Given.{Resets}
use Rattle.law_handles.proofs.HostSays.{told_input}
use Rattle.law_handles.proofs.HostSilent.{quiet, quiet_taken}
use Rattle.law_handles.proofs.ServingWorld.{bare}
use Rattle.law_handles.proofs.Tables.{at, binding_is}
use Rattle.law_moves.proofs.CasesTold.{IsPlugWord, OwesTold, kept_told}
use Rattle.law_moves.proofs.Counted.{how_many-cons, others-cons}
use Rattle.law_moves.proofs.Registers.{writes_are}
use Rattle.law_targets.proofs.PostKinds.{IsOther, IsRemoval, Kinds, kinds}
use Rattle.law_targets.proofs.Stays.{KeepsBound, back_keeps, bound_stays, quiet_keeps, work_keeps}

each_passes : {X : Type 0} (test : X → Bool) (d : X) → test d ≡ true → (xs : List X) (i : ℕ) → others test xs ≡ 0 → test (get_or xs i d) ≡ true
each_passes test d t [] i n = t
each_passes test d t (x ∷ xs) zero n = by_test (test x) (let c = others-cons test x xs in omega (arith, c, n))
  where
    by_test : (b : Bool) → one_if (not b) ≡ 0 → b ≡ true
    by_test true z = refl
    by_test false z = absurd (omega (arith, z))
each_passes test d t (x ∷ xs) (suc i) n = each_passes test d t xs i (let c = others-cons test x xs in omega (arith, c, n))

plug_keeps : (g : ℕ) (t : List Entry) → EachEntry IsPlugWord t → EachEntry (KeepsBound g) t
plug_keeps g [] p = tt
plug_keeps g (e ∷ t) p = (one e p.0, plug_keeps g t p.1)
  where
    one : (e : Entry) → IsPlugWord e → KeepsBound g e
    one (entry.Given i) p = tt
    one (entry.Refuse c cause) p = tt
    one (entry.Put l x) p = absurd p
    one (entry.Take l x) p = absurd p
    one entry.ResetDone p = absurd p
    one (entry.Idle x) p = absurd p
    one (entry.Bind k a n) p = absurd p
    one (entry.Unbind k) p = absurd p
    one entry.UnbindAll p = absurd p
    one (entry.Run a tag) p = absurd p
    one entry.HostUp p = absurd p
    one (entry.Ready a k) p = absurd p
    one (entry.Lost a k) p = absurd p
    one (entry.Accept n a s) p = absurd p
    one (entry.RefuseSubmit n cause) p = absurd p
    one (entry.Answer n how) p = absurd p
    one (entry.AbortEnd n how) p = absurd p
    one (entry.TargetEnd a how) p = absurd p

-- the handle's remove device was asked
abbrev pub is_removing : Phase → Bool
is_removing (phase.Removing s) = true
is_removing p = false

module _ (w : World) (h : History) (f : Facts w h) where
  -- what is bound is so at a controller that is OPERATIONAL
  pub bound_there : (g : ℕ) → IsHandle g → (p : Plug) → h.serving.bound g ≡ Some p → is_unbound (at w.ioc.bindings g) ≡ false
  bound_there g i p e = by_binding (at w.ioc.bindings g) (subst (λ b. BindingIs b (h.serving.bound g)) (binding_is w.ioc g i) (f.handles.each g i).binds.served)
    where
      by_binding : (b : Binding) → BindingIs b (h.serving.bound g) → is_unbound b ≡ false
      by_binding binding.Unbound u = let z : None ≡ Some p = sym u ∙ e in absurd (cc)
      by_binding (binding.Present a n x y) u = refl
      by_binding (binding.Gone a) u = refl

  pub bound_live : (g : ℕ) → IsHandle g → (p : Plug) → h.serving.bound g ≡ Some p → is_live w ≡ true
  bound_live g i p e = by_live (is_live w) refl
    where
      by_live : (b : Bool) → is_live w ≡ b → b ≡ true
      by_live true t = refl
      by_live false t =
          let z = f.clock.tables_empty (bare w f.clock.phase_table.whole t) in
          let y : is_unbound (at w.ioc.bindings g) ≡ true = each_passes is_unbound binding.Unbound refl w.ioc.bindings (g - first_handle) z.bindings in
          let x : true ≡ false = sym y ∙ bound_there g i p e in
          absurd (cc)

  -- and its host starts or is up, unless that resets
  pub live_normal : is_resetting w.host.mode ≡ false → is_live w ≡ true → in_normal w ≡ true
  live_normal m l = by_mode w.host.mode m (f.clock.phase_table.live l).1
    where
      by_mode : (x : HostState) → is_resetting x ≡ false → is_off x ≡ false → (is_starting x || is_up x) ≡ true
      by_mode state.Off e o = absurd (cc)
      by_mode state.Starting e o = refl
      by_mode state.Up e o = refl
      by_mode state.Resetting e o = absurd (cc)

  module _ (m : is_resetting w.host.mode ≡ false) where
    -- no reset is on its way to the controller
    no_reset : (x : Down) (rest : List Down) → w.down ≡ x ∷ rest → (is_reset_item x || is_stray_reset x) ≡ true → ⊥
    no_reset x rest e r =
        let line : down_line w ≡ x ∷ (rest ++ w.host.out) = ap (λ xs. xs ++ w.host.out) e in
        let s = f.clock.one_reset_write.strays in let sa = ap (how_many is_stray_reset) line in let sc = how_many-cons is_stray_reset x (rest ++ w.host.out) in
        let o = f.clock.one_reset_write.one in let oa = ap reset_write_count line in let oc = reset_write_count-cons x (rest ++ w.host.out) in
        let z : one_if ((is_resetting w.host.mode && not (w.host.asked == w.ioc.generation)) && not w.host.returning) ≡ 0 = ap (λ b. one_if ((b && not (w.host.asked == w.ioc.generation)) && not w.host.returning)) m in
        by_tests (is_reset_item x) (is_stray_reset x) r (omega (arith, o, oa, oc, z)) (omega (arith, s, sa, sc))
      where
        by_tests : (a b : Bool) → (a || b) ≡ true → one_if a ≡ 0 → one_if b ≡ 0 → ⊥
        by_tests true b t p q = omega (arith, p)
        by_tests false true t p q = omega (arith, q)
        by_tests false false t p q = cc

    taken_stays : (g : ℕ) (x : Down) (rest : List Down) → w.down ≡ x ∷ rest → EachEntry (KeepsBound g) (adapter.takes_down w.ioc x).entries
    taken_stays g (down.Write reg value) rest e = by_effect (register_written w.ioc.door reg value).effect refl
      where
        resets : (y : Effect) → (register_written w.ioc.door reg value).effect ≡ y → Resets y → ⊥
        resets y q r = no_reset (down.Write reg value) rest e ((writes_are w.ioc.door reg value f.doorbell.sound.waits).resets (subst Resets (sym q) r))

        by_effect : (y : Effect) → (register_written w.ioc.door reg value).effect ≡ y → EachEntry (KeepsBound g) (registers.after_effect (record w.ioc { door = (register_written w.ioc.door reg value).registers }) y).entries
        by_effect effect.None q = tt
        by_effect (effect.Asked count bytes) q = tt
        by_effect effect.UnitReset q = absurd (resets effect.UnitReset q tt)
        by_effect effect.AdapterReset q = absurd (resets effect.AdapterReset q tt)
        by_effect (effect.Fault code) q = tt
    taken_stays g (down.Read reg) rest e = tt
    taken_stays g (down.Post d k p) rest e = tt
    taken_stays g (down.Return address index) rest e = tt
    taken_stays g down.Stop rest e = tt

    module _ (plain : NothingIsStrange w) (g : ℕ) (i : IsHandle g) (p : Plug) (bound : h.serving.bound g ≡ Some p) (apart : is_removing (phase_of w g) ≡ false) where
      there : is_unbound (at w.ioc.bindings g) ≡ false
      there = bound_there g i p bound

      other : (q : Post) → PostIsRecord w h q → kind_in q.descriptor ≡ Some post.Default → function_of (function_in q.frame) ≡ Some function.UnitControl → (g == controlled_handle_in q.frame) ≡ false
      other q r k u = by_kind (kinds w h f q r)
        where
          by_kind : Kinds w h f q → (g == controlled_handle_in q.frame) ≡ false
          by_kind (IsOther n) = absurd (n k u)
          by_kind (IsRemoval g1 j o e) = by_key (g == controlled_handle_in q.frame) refl
            where
              by_key : (b : Bool) → (g == controlled_handle_in q.frame) ≡ b → b ≡ false
              by_key false t = refl
              by_key true t =
                  let s = smid_in q.descriptor in
                  let z = subst (RecordHasPhase w s) o (f.handles.records (live_normal m (bound_live g i p bound)) s) in
                  let y : g ≡ g1 = eqb-true g (controlled_handle_in q.frame) t ∙ e in
                  let x : true ≡ false = sym (ap is_removing (ap (phase_of w) y ∙ z.1)) ∙ apart in
                  absurd (cc)

      owes : OwesTold (λ v t. EachEntry (KeepsBound g) t) w
      owes =
          record {
            idles = λ c. (tt, tt);
            host_puts = λ x rest e. (tt, tt);
            host_takes = λ queue x rest e y. (tt, quiet_keeps g (hears_up w.host queue x).entries (quiet_taken w.host queue x None));
            host_told = λ j c. quiet_keeps g (host_told w.host j).entries (quiet (host_told w.host j).entries (told_input w.host j));
            host_looks = λ e. tt;
            host_stops = λ e. tt;
            no_session = tt;
            ioc_takes = λ x rest e. (tt, taken_stays g x rest e);
            ioc_high = λ q rest e. work_keeps g (record w.ioc { high = rest }) f.flights.sizes.bindings i there q (λ k u. other q (All-head (PostIsRecord w h) q rest (subst (All (PostIsRecord w h)) e f.messages.high)) k u);
            ioc_normal = λ q rest e. work_keeps g (record w.ioc { normal = rest }) f.flights.sizes.bindings i there q (λ k u. other q (All-head (PostIsRecord w h) q rest (subst (All (PostIsRecord w h)) e f.messages.normal)) k u);
            ioc_puts_out = λ x rest e. (tt, tt);
            ioc_takes_back = λ x rest e. (tt, back_keeps g w.ioc f.flights.sizes.bindings i there x);
            ioc_puts = λ queue y rest z e u. (tt, tt);
            fabric_takes = λ x rest e. (tt, tt);
            fabric_says = λ x rest e. tt;
            fabric_puts = λ x rest e. (tt, tt);
            fabric_runs = λ tag address e. (tt, tt);
            plugs = λ address expander phy t q. plug_keeps g t q;
            unplugs = λ address t q. plug_keeps g t q;
            calms = tt;
          }

      -- so it stays bound to this plug
      pub bound_kept : (c : Case) → (history_after h (entries w c)).serving.bound g ≡ h.serving.bound g
      bound_kept c = bound_stays g (entries w c) h.serving (kept_told (λ v t. EachEntry (KeepsBound g) t) w plain owes c)
