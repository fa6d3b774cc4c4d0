-- A command on its way or at the fabric has the handle of the plug for which it was accepted, in the world behind any case.
use Rattle.std.proofs.Common.{◌≡◌, ℕ, zero, suc, ◌+◌, ◌-◌, ◌≤◌, ◌==◌, ◌&&◌, ◌||◌, not, Bool, true, false, if◌then◌else◌, List, [], ◌∷◌, ◌++◌, get_or, Option, Some, None, is_some, option_map, refl, ap, sym, ◌∙◌, subst, arith}
use Rattle.std.specs.Prelude.{All}
use Rattle.std.specs.FinMap as finmap
use Rattle.std.specs.List.{list_any, position}
use Rattle.std.specs.Ordering.{nat_cmp}
use Rattle.std.proofs.lemmas.Bool.{eqb-true}
use Rattle.std.proofs.lemmas.List.Elements.{All-head}
use Rattle.std.proofs.lemmas.List.Quantifiers.{position-Some}
use Rattle.smid_pool.specs.Pool.{Open, Slot}
use Rattle.mpi_rings.specs.declared.request_descriptor.PostKind.TheVariants as post
use Rattle.removal.specs.Handles.{IsHandle}
use Rattle.removal.specs.Phases.{is_ready_at}
use Rattle.removal.specs.declared.phase.Phase.{Phase}
use Rattle.removal.specs.declared.phase.Phase.TheVariants as phase
use Rattle.mpt_messages.specs.Function.{function_of}
use Rattle.mpt_messages.specs.declared.function.Function.TheVariants as function
use Rattle.mpt_wire.specs.Handles.Bindings.{Plug}
use Rattle.mpt_wire.specs.Machine.State.{OpenRequest}
use Rattle.mpt_wire.specs.Machine.View.{Seen}
use Rattle.mpt_wire.specs.Messages.Fields.{controlled_handle_in, function_in, kind_in, smid_in}
use Rattle.mpt_trace.specs.Command.{command_named}
use Rattle.mpt_trace.specs.declared.command_form.CommandForm.{CommandForm}
use Rattle.mpt_trace.specs.declared.item.Down.{Down}
use Rattle.mpt_trace.specs.declared.item.Down.TheVariants as down
use Rattle.mpt_rules.specs.declared.at_fabric.AtFabric.{AtFabric}
use Rattle.mpt_rules.specs.declared.at_fabric.AtFabric.TheVariants as at
use Rattle.mpt_rules.specs.declared.post.Post.{Post}
use Rattle.mpt_rules.specs.declared.request.Request.{Request}
use Rattle.mpt_rules.specs.declared.request.Request.TheVariants as request
use Rattle.mpt_rules.specs.Host.Parts.{Cmd}
use Rattle.mpt_rules.specs.Ioc.Tables.{has_commands, is_command_of, is_post_of, request_at}
use Rattle.mpt_rules.specs.Law.{NothingIsStrange}
use Rattle.mpt_rules.specs.World.Cases.{Case, entries, happens}
use Rattle.mpt_rules.specs.World.Counts.{how_many, one_if, post_count, queued_count}
use Rattle.mpt_rules.specs.World.Lines.{down_line, normal_line, normal_posts}
use Rattle.mpt_rules.specs.World.Places.{is_posted_as}
use Rattle.mpt_rules.specs.World.State.{World}
use Rattle.mpt_rules.proofs.Counts.{queued_count-append, queued_count-cons, queued_count-nil}
use Rattle.law_facts.specs.Clock.{Clock, in_normal, is_live}
use Rattle.law_facts.specs.Disks.{ReadyFits}
use Rattle.law_facts.specs.Facts.{Facts}
use Rattle.law_facts.specs.Handles.{BoundToTarget, IsLetGo, is_remove_post, is_remove_request, is_reset_done, is_under_way, phase_of, removes, uses_handle}
use Rattle.law_facts.specs.History.{History, history_after}
use Rattle.law_facts.specs.Messages.{CommandAt, KeptIs, PostIsRecord, RequestIs}
use Rattle.law_facts.specs.Words.{behind, is_command, is_load, slot}
use Rattle.law_handles.proofs.ServingWorld.{bare}
use Rattle.law_lights.proofs.Ones.{normal_few}
use Rattle.law_messages.specs.Numbers.{AbortsAreAccepted}
use Rattle.law_messages.proofs.Agreeing.{differ, not_both, same}
use Rattle.law_messages.proofs.Keys.{get_inserted, get_other_inserted}
use Rattle.law_messages.proofs.Leads.{Accepted, Accepts, Ends, Goes, Leads}
use Rattle.law_messages.proofs.Requests.{accepted_requests}
use Rattle.law_messages.proofs.Shown.{leads}
use Rattle.law_asked.proofs.Opened.{opened}
use Rattle.law_moves.proofs.Counted.{behind-cons, fewer_pass, how_many-cons}
use Rattle.law_returns.specs.Further.{FurtherFlights}
use Rattle.law_returns.proofs.Whole.{flights_kept}
use Rattle.law_targets.proofs.PostKinds.{IsOther, IsRemoval, Kinds, kinds, normal_all}
use Rattle.law_targets.proofs.Stays.{bound_stays}
use Rattle.law_targets.proofs.Under.{keeps_bound, used, used_before}

-- ---- under way, and used

either_is : (q : ℕ) (b : Bool) → 1 ≤ q + one_if b → (not (q == 0) || b) ≡ true
either_is zero true l = refl
either_is zero false l = absurd (omega (arith, l))
either_is (suc q) b l = let z : (suc q == 0) ≡ false = grind arith in ap (λ c. not c || b) z

either_of : (q : ℕ) (b : Bool) → (not (q == 0) || b) ≡ true → 1 ≤ q + one_if b
either_of zero true e = omega arith
either_of zero false e = absurd (cc)
either_of (suc q) b e = omega arith

-- the same with a first count
some_first : (n : ℕ) → 1 ≤ n → (c : Bool) → (not (n == 0) || c) ≡ true
some_first zero l c = absurd (omega (arith, l))
some_first (suc n) l c = let z : (suc n == 0) ≡ false = grind arith in ap (λ b. not b || c) z

pub used_of : (v : World) (s : ℕ) → is_under_way v s ≡ true → 1 ≤ used v s
used_of v s e =
    let a = either_of (queued_count s (normal_line v)) (is_command (request_at v.ioc s)) e in
    let c = queued_count-append s v.ioc.normal (normal_posts (down_line v)) in let d = normal_few s (down_line v) in
    omega (arith, a, c, d)

none_passing : {X : Type 0} (test : X → Bool) (xs : List X) (j : ℕ) (d : X) → test d ≡ false → how_many test xs ≡ 0 → test (get_or xs j d) ≡ false
none_passing test [] j d e z = e
none_passing test (x ∷ xs) zero d e z = by_test (test x) (let c = how_many-cons test x xs in omega (arith, c, z))
  where
    by_test : (b : Bool) → one_if b ≡ 0 → b ≡ false
    by_test true u = absurd (omega (arith, u))
    by_test false u = refl
none_passing test (x ∷ xs) (suc j) d e z = none_passing test xs j d e (let c = how_many-cons test x xs in omega (arith, c, z))

-- a request stands in the table
any_at : (handle : ℕ) (rs : List (Option AtFabric)) (j : ℕ) → is_command_of handle (get_or rs j None) ≡ true → list_any (is_command_of handle) rs ≡ true
any_at handle [] j e = absurd (cc)
any_at handle (r ∷ rs) zero e = ap (λ b. b || list_any (is_command_of handle) rs) e
any_at handle (r ∷ rs) (suc j) e = ap (λ b. is_command_of handle r || b) (any_at handle rs j e) ∙ or_true (is_command_of handle r)
  where
    or_true : (b : Bool) → (b || true) ≡ true
    or_true true = refl
    or_true false = refl

ready_names : (a : ℕ) (p : Phase) → is_ready_at a p ≡ true → p ≡ phase.Ready a
ready_names a (phase.Ready b) t = ap phase.Ready (eqb-true b a t)
ready_names a phase.Absent t = absurd (cc)
ready_names a phase.WaitRead t = absurd (cc)
ready_names a (phase.Reading s) t = absurd (cc)
ready_names a phase.WaitHigh t = absurd (cc)
ready_names a (phase.Resetting s) t = absurd (cc)
ready_names a phase.WaitInternal t = absurd (cc)
ready_names a (phase.Removing s) t = absurd (cc)

posted_load : (s : ℕ) (x : Down) → is_posted_as s x ≡ true → is_load x ≡ true
posted_load s (down.Post d f p) e = refl
posted_load s (down.Write reg value) e = absurd (cc)
posted_load s (down.Read reg) e = absurd (cc)
posted_load s (down.Return address i) e = absurd (cc)
posted_load s down.Stop e = absurd (cc)

posts_load : (s : ℕ) (xs : List Down) → post_count s xs ≤ how_many is_load xs
unfolding post_count
posts_load s xs = fewer_pass (is_posted_as s) is_load (posted_load s) xs

-- what is on its way, or at the controller, is so while the controller is OPERATIONAL
pub clock_live : (w : World) (h : History) → Clock w h → (s : ℕ) → 1 ≤ used w s → is_live w ≡ true
clock_live w h clock s l = by_live (is_live w) refl
  where
    by_live : (b : Bool) → is_live w ≡ b → b ≡ true
    by_live true t = refl
    by_live false t =
        let z = clock.tables_empty (bare w clock.phase_table.whole t) in
        let q = ap (queued_count s) z.normal in let u = queued_count-nil s in
        let r = none_asked s in
        let p = posts_load s (down_line w) in
        let m = no_loads (how_many is_load (down_line w)) refl in
        absurd (omega (arith, l, q, u, r, p, m))
      where
        none_asked : (j : ℕ) → one_if (is_command (request_at w.ioc j)) ≡ 0
        none_asked zero = refl
        none_asked (suc j) = let z = clock.tables_empty (bare w clock.phase_table.whole t) in by_request (get_or w.ioc.requests j None) (none_passing is_some w.ioc.requests j None refl z.requests)
          where
            by_request : (o : Option AtFabric) → is_some o ≡ false → one_if (is_command o) ≡ 0
            by_request None e = refl
            by_request (Some x) e = absurd (cc)

        no_loads : (m : ℕ) → how_many is_load (down_line w) ≡ m → m ≡ 0
        no_loads zero e = refl
        no_loads (suc m) e = not_both (is_live w) t (clock.loads_before_reset.live (omega (arith, e)))

module _ (w : World) (h : History) (f : Facts w h) where
  pub under_of : (n s : ℕ) → slot w.host s ≡ Open (request.Command n) → 1 ≤ used w s → is_under_way w s ≡ true
  under_of n s e l =
      let a = normal_all w h f n s e (down_line w) f.messages.down in
      let c = queued_count-append s w.ioc.normal (normal_posts (down_line w)) in
      either_is (queued_count s (normal_line w)) (is_command (request_at w.ioc s)) (omega (arith, l, a, c))

  pub live_of : (s : ℕ) → 1 ≤ used w s → is_live w ≡ true
  live_of s l = clock_live w h f.clock s l

  -- ---- no remove device of its handle is at the front

  module _ (n s : ℕ) (c : Cmd) (named : finmap.get w.host.cmds n ≡ Some c) (smid : c.smid ≡ s) (is_open : slot w.host s ≡ Open (request.Command n)) (under : 1 ≤ used w s) where
    has_one : is_command (request_at w.ioc s) ≡ true → has_commands w.ioc c.handle ≡ true
    has_one e = by_request s (request_at w.ioc s) refl e (f.messages.requests s)
      where
        kept : (handle queue len : ℕ) (written : Option ℕ) → CommandAt w h s handle queue len written (slot w.host s) → handle ≡ c.handle
        kept handle queue len written a =
            by_request2 (finmap.get h.machine.requests n) (subst (λ o. KeptIs w s handle queue len written o (finmap.get h.machine.requests n)) named (subst (CommandAt w h s handle queue len written) is_open a))
          where
            by_request2 : (r : Option OpenRequest) → KeptIs w s handle queue len written (Some c) r → handle ≡ c.handle
            by_request2 None k = absurd k
            by_request2 (Some r) k = k.0

        at_place : (handle queue len : ℕ) (written : Option ℕ) → (j : ℕ) → request_at w.ioc j ≡ Some (at.Command handle queue len written) → handle ≡ c.handle → has_commands w.ioc c.handle ≡ true
        at_place handle queue len written zero e k = absurd (cc)
        at_place handle queue len written (suc j) e k = any_at c.handle w.ioc.requests j (ap (is_command_of c.handle) e ∙ (ap (λ x. x == c.handle) k ∙ same c.handle))

        by_request : (j : ℕ) (o : Option AtFabric) → request_at w.ioc s ≡ o → is_command (request_at w.ioc s) ≡ true → RequestIs w h s (request_at w.ioc s) → has_commands w.ioc c.handle ≡ true
        by_request j None q e r = let z : is_command (request_at w.ioc s) ≡ false = ap is_command q in not_both (is_command (request_at w.ioc s)) z e
        by_request j (Some (at.Command handle queue len written)) q e r = at_place handle queue len written s q (kept handle queue len written (subst (RequestIs w h s) q r))
        by_request j (Some (at.Abort handle)) q e r = not_both (is_command (request_at w.ioc s)) (ap is_command q) e
        by_request j (Some (at.TargetReset handle)) q e r = not_both (is_command (request_at w.ioc s)) (ap is_command q) e
        by_request j (Some at.PortEnable) q e r = not_both (is_command (request_at w.ioc s)) (ap is_command q) e

    uses : (p : Post) → is_post_of s p ≡ true → uses_handle w c.handle p ≡ true
    uses p e =
        let k : slot w.host (smid_in p.descriptor) ≡ Open (request.Command n) = ap (slot w.host) (eqb-true (smid_in p.descriptor) s e) ∙ is_open in
        ap (λ x. Rattle.law_facts.specs.Handles.is_command_to w c.handle x || is_page_post2 x) k ∙ (ap (λ o. Rattle.law_facts.specs.Handles.is_to c.handle o || false) named ∙ ap (λ b. b || false) (same c.handle))
      where
        is_page_post2 : Slot Request → Bool
        is_page_post2 x = Rattle.law_facts.specs.Handles.is_page_request c.handle x

    queued_uses : (xs : List Post) → queued_count s xs ≤ how_many (uses_handle w c.handle) xs
    unfolding queued_count
    queued_uses xs = fewer_pass (is_post_of s) (uses_handle w c.handle) uses xs

    pub other : (p : Post) (rest : List Post) → w.ioc.normal ≡ p ∷ rest → kind_in p.descriptor ≡ Some post.Default → function_of (function_in p.frame) ≡ Some function.UnitControl → (c.handle == controlled_handle_in p.frame) ≡ false
    other p rest front k u = by_kind (kinds w h f p (All-head (PostIsRecord w h) p rest (subst (All (PostIsRecord w h)) front f.messages.normal)))
      where
        line : normal_line w ≡ p ∷ (rest ++ normal_posts (down_line w))
        line = ap (λ xs. xs ++ normal_posts (down_line w)) front

        gone : {T : Type 0} (g : ℕ) → IsHandle g → slot w.host (smid_in p.descriptor) ≡ Open (request.Remove g) → c.handle ≡ g → T
        gone g i o e = by_request (is_command (request_at w.ioc s)) refl
          where
            mine : is_remove_post w g p ≡ true
            mine = ap (is_remove_request g) o ∙ same g

            many : 1 ≤ removes w g
            many = let q = ap (how_many (is_remove_post w g)) line in let c = how_many-cons (is_remove_post w g) p (rest ++ normal_posts (down_line w)) in let m = ap one_if mine in omega (arith, q, c, m)

            let_go : IsLetGo w g
            let_go = (f.handles.each g i).last.let_go (live_of s under) (some_first (removes w g) many (in_normal w && is_reset_done w (phase_of w g)))

            apart : (b : Bool) → is_post_of s p ≡ b → b ≡ false
            apart false t = refl
            apart true t = let z : Open (request.Remove g) ≡ Open (request.Command n) = sym o ∙ (ap (slot w.host) (eqb-true (smid_in p.descriptor) s t) ∙ is_open) in absurd (cc)

            by_request : {T : Type 0} (b : Bool) → is_command (request_at w.ioc s) ≡ b → T
            by_request true t = not_both (has_commands w.ioc g) let_go.commands (subst (λ x. has_commands w.ioc x ≡ true) e (has_one t))
            by_request false t =
                let l = (f.handles.each g i).last.last in
                let r : behind (is_remove_post w g) (normal_line w) ≡ rest ++ normal_posts (down_line w) = ap (behind (is_remove_post w g)) line ∙ (behind-cons (is_remove_post w g) p (rest ++ normal_posts (down_line w)) ∙ ap (λ b. if b then rest ++ normal_posts (down_line w) else behind (is_remove_post w g) (rest ++ normal_posts (down_line w))) mine) in
                let y = ap (how_many (uses_handle w g)) r in
                let q = subst (λ x. queued_count s (rest ++ normal_posts (down_line w)) ≤ how_many (uses_handle w x) (rest ++ normal_posts (down_line w))) e (queued_uses (rest ++ normal_posts (down_line w))) in
                let a = normal_all w h f n s is_open (down_line w) f.messages.down in
                let d = queued_count-append s w.ioc.normal (normal_posts (down_line w)) in
                let m = ap (queued_count s) line in let v = queued_count-cons s p (rest ++ normal_posts (down_line w)) in
                let x = ap one_if (apart (is_post_of s p) refl) in let z = ap one_if t in
                absurd (omega (arith, under, l, y, q, a, d, m, v, x, z))

        by_kind : Kinds w h f p → (c.handle == controlled_handle_in p.frame) ≡ false
        by_kind (IsOther n) = absurd (n k u)
        by_kind (IsRemoval g i o e) = by_key (c.handle == controlled_handle_in p.frame) refl
          where
            by_key : (b : Bool) → (c.handle == controlled_handle_in p.frame) ≡ b → b ≡ false
            by_key false t = refl
            by_key true t = gone g i o (eqb-true c.handle (controlled_handle_in p.frame) t ∙ e)

-- ---- all cases

module _ (w : World) (h : History) (c : Case) (f : Facts w h) (plain : NothingIsStrange w) (aborts : AbortsAreAccepted w) (more : FurtherFlights w) where
  abbrev v : World
  v = happens w c

  abbrev k : History
  k = history_after h (entries w c)

  -- a command that was there before
  pub bound_before : (n : ℕ) (x : Cmd) (r : OpenRequest) → is_live (happens w c) ≡ true → finmap.get w.host.cmds n ≡ Some x → finmap.get h.machine.requests n ≡ Some r → finmap.get (happens w c).host.cmds n ≡ Some x
      → 1 ≤ used (happens w c) x.smid → (history_after h (entries w c)).serving.bound x.handle ≡ Some (record { address = r.address; number = r.plug })
  bound_before n x r live a b e u =
      let o = (f.flights.numbers n).command x a in
      let q = opened w h f n x.smid o in
      let p = ((flights_kept w h c f plain more).numbers n).command x e in
      let used_w = used_before w h f plain more.vectors n x.smid q.least o c live n p (λ z. let y : Some x ≡ None = sym e ∙ z in absurd (cc)) in
      let l : 1 ≤ used w x.smid = omega (arith, u, used_w) in
      let t = f.handles.bound n x r (live_of w h f x.smid l) a b (under_of w h f n x.smid o l) in
      bound_stays x.handle (entries w c) h.serving
      (keeps_bound w h f plain x.handle (f.limits.cmds n x a) (record { address = r.address; number = r.plug }) t (λ p2 rest front kind function. other w h f n x.smid x a refl o l p2 rest front kind function) c live)
      ∙ t

  -- one that is accepted now: its handle is ready, and so bound to the plug that is
  module _ (m a s handle plug : ℕ) (form : CommandForm) (y : Accepted w h (happens w c).host (history_after h (entries w c)) m a s handle plug form) where
    pub normal : in_normal w ≡ true
    normal = by_mode w.host.mode y.up
      where
        by_mode : (x : Rattle.mpt_trace.specs.declared.host_state.HostState.HostState) → Rattle.mpt_wire.specs.Machine.Causes.is_up x ≡ true → (Rattle.mpt_rules.specs.Host.Takes.is_starting x || Rattle.mpt_wire.specs.Machine.Causes.is_up x) ≡ true
        by_mode Rattle.mpt_trace.specs.declared.host_state.HostState.TheVariants.Off u = absurd (cc)
        by_mode Rattle.mpt_trace.specs.declared.host_state.HostState.TheVariants.Starting u = absurd (cc)
        by_mode Rattle.mpt_trace.specs.declared.host_state.HostState.TheVariants.Up u = refl
        by_mode Rattle.mpt_trace.specs.declared.host_state.HostState.TheVariants.Resetting u = absurd (cc)

    seen : Seen
    seen = record { machine = h.machine; so_far = h.so_far }

    requests_are : (history_after h (entries w c)).machine.requests ≡ finmap.insert h.machine.requests m (record { address = a; plug = plug; command = command_named form })
    unfolding seen
    requests_are = ap (λ (x : History). x.machine.requests) y.told ∙ accepted_requests seen m a plug s form y.ready

    pub cmds_are : (happens w c).host.cmds ≡ finmap.insert w.host.cmds m (record { smid = s; handle = handle })
    cmds_are = ap (λ (x : Rattle.mpt_rules.specs.Host.Parts.Host). x.cmds) y.host

    -- the handle is ready for the address
    pub record IsReady : Type 0 where
      pub of_disk : IsHandle handle
      pub phase_is : phase_of w handle ≡ phase.Ready a

    pub is_ready : IsReady
    is_ready = by_place (position (is_ready_at a) w.host.phases) refl y.handled
      where
        by_place : (o : Option ℕ) → position (is_ready_at a) w.host.phases ≡ o → option_map (λ place. 0x0009 + place) o ≡ Some handle → IsReady
        by_place None p e = absurd (cc)
        by_place (Some place) p e =
            let q = position-Some (is_ready_at a) w.host.phases place phase.Absent p in
            let z : 0x0009 + place ≡ handle = cc in
            let l = f.flights.sizes.phases in let b = q.0 in
            let i : place ≡ handle - 0x0009 = omega (arith, z) in
            record { of_disk = (omega (arith, z), omega (arith, b, l, z)); phase_is = ready_names a (phase_of w handle) (subst (λ j. is_ready_at a (get_or w.host.phases j phase.Absent) ≡ true) i q.1) }

    bound_ready : h.serving.bound handle ≡ Some (record { address = a; number = plug })
    bound_ready = by_plug (h.serving.bound handle) (subst (λ p. ReadyFits h handle p (h.serving.bound handle)) is_ready.phase_is (f.disks.ready normal handle is_ready.of_disk))
      where
        by_plug : (o : Option Plug) → ReadyFits h handle (phase.Ready a) o → o ≡ Some (record { address = a; number = plug })
        by_plug None r = absurd r
        by_plug (Some p) r = let e : Some p.number ≡ Some plug = sym r.1 ∙ y.ready in let z : p.number ≡ plug = cc in ap (λ n. Some (record { address = p.address; number = n })) z ∙ ap (λ x. Some (record { address = x; number = plug })) r.0

    pub accepted_bound : (n : ℕ) (x : Cmd) (r : OpenRequest) → is_live (happens w c) ≡ true → finmap.get (happens w c).host.cmds n ≡ Some x → finmap.get (history_after h (entries w c)).machine.requests n ≡ Some r
        → 1 ≤ used (happens w c) x.smid → (history_after h (entries w c)).serving.bound x.handle ≡ Some (record { address = r.address; number = r.plug })
    accepted_bound n x r live p q u = by_key (n == m) refl
      where
        by_key : (b : Bool) → (n == m) ≡ b → (history_after h (entries w c)).serving.bound x.handle ≡ Some (record { address = r.address; number = r.plug })
        by_key false t =
            bound_before n x r live (sym (get_other_inserted w.host.cmds m (record { smid = s; handle = handle }) n (differ n m t)) ∙ (sym (ap (λ o. finmap.get o n) cmds_are) ∙ p))
            (sym (get_other_inserted h.machine.requests m (record { address = a; plug = plug; command = command_named form }) n (differ n m t)) ∙ (sym (ap (λ o. finmap.get o n) requests_are) ∙ q)) p u
        by_key true t =
            let e = eqb-true n m t in
            let i : Some x ≡ Some (record { smid = s; handle = handle }) = sym p ∙ (ap (λ o. finmap.get o n) cmds_are ∙ (ap (finmap.get (finmap.insert w.host.cmds m (record { smid = s; handle = handle }))) e ∙ get_inserted w.host.cmds m (record { smid = s; handle = handle }))) in
            let d : x ≡ record { smid = s; handle = handle } = cc in
            let j : Some r ≡ Some (record { address = a; plug = plug; command = command_named form }) = sym q ∙ (ap (λ o. finmap.get o n) requests_are ∙ (ap (finmap.get (finmap.insert h.machine.requests m (record { address = a; plug = plug; command = command_named form }))) e ∙ get_inserted h.machine.requests m (record { address = a; plug = plug; command = command_named form }))) in
            let g : r ≡ record { address = a; plug = plug; command = command_named form } = cc in
            ap (λ (o : Cmd). (history_after h (entries w c)).serving.bound o.handle) d
            ∙ (ap (λ (o : History). o.serving.bound handle) y.told
            ∙ (bound_ready ∙ ap (λ (o : OpenRequest). Some (record { address = o.address; number = o.plug })) (sym g)))

  pub bound_kept : (n : ℕ) → BoundToTarget (happens w c) (history_after h (entries w c)) n
  bound_kept n x r live p q under = by_leads (leads w h c f plain aborts)
    where
      by_leads : Leads w h (happens w c).host (history_after h (entries w c)) → (history_after h (entries w c)).serving.bound x.handle ≡ Some (record { address = r.address; number = r.plug })
      by_leads (Goes hand away fo) = bound_before n x r live (fo.less_cmds n x p) (fo.less_opens n r q) p (used_of (happens w c) x.smid under)
      by_leads (Accepts m a s handle plug form y) = accepted_bound m a s handle plug form y n x r live p q (used_of (happens w c) x.smid under)
      by_leads (Ends l pool cmds u g) = let z : None ≡ Some x = sym (finmap.get-empty nat_cmp n) ∙ (sym (ap (λ o. finmap.get o n) cmds) ∙ p) in absurd (cc)
