-- What the rules of posts and of tasks know of a command, in the world behind any case.
use Rattle.std.proofs.Common.{◌≡◌, ◌≢◌, ℕ, zero, suc, ◌+◌, ◌-◌, ◌^◌, ◌<◌, ◌≤◌, ◌⊎◌, inl, inr, ◌==◌, Bool, true, false, if◌then◌else◌, List, [], ◌∷◌, ◌++◌, Option, Some, None, refl, ap, sym, ◌∙◌, subst, arith}
use Rattle.std.specs.FinMap as finmap
use Rattle.std.specs.FinSet as finset
use Rattle.std.specs.Ordering.{nat_cmp}
use Rattle.std.proofs.lemmas.Bool.{eqb-true}
use Rattle.scsi_disk.specs.Command.{fits}
use Rattle.smid_pool.specs.Pool.{Free, Open, Parked, Slot, least_free}
use Rattle.smid_pool.specs.declared.class.Class.TheVariants as class
use Rattle.removal.specs.Handles.{ready_handle}
use Rattle.mpt_wire.specs.Handles.Pages.{Paged, paged_next}
use Rattle.mpt_wire.specs.Machine.Causes.{is_up}
use Rattle.mpt_wire.specs.Machine.State.{OpenRequest, put_at}
use Rattle.mpt_wire.specs.Messages.Fields.{dev_handle_in}
use Rattle.mpt_wire.specs.Walks.Passes.{EachEntry, state_after}
use Rattle.mpt_trace.specs.Command.{command_named}
use Rattle.mpt_trace.specs.declared.command_form.CommandForm.{CommandForm}
use Rattle.mpt_trace.specs.declared.entry.Entry.{Entry}
use Rattle.mpt_trace.specs.declared.entry.Entry.TheVariants as entry
use Rattle.mpt_trace.specs.declared.input.Input.{Input}
use Rattle.mpt_trace.specs.declared.input.Input.TheVariants as input
use Rattle.mpt_trace.specs.declared.item.Item.TheVariants as item
use Rattle.mpt_trace.specs.declared.refusal.RefusedCall.TheVariants as call
use Rattle.mpt_rules.specs.declared.at_fabric.AtFabric.{AtFabric}
use Rattle.mpt_rules.specs.declared.post.Post.{Post}
use Rattle.mpt_rules.specs.declared.request.Request.TheVariants as request
use Rattle.mpt_rules.specs.Host.Inputs as inputs
use Rattle.mpt_rules.specs.Host.Parts.{Cmd, Host}
use Rattle.mpt_rules.specs.Ioc.Steps as step
use Rattle.mpt_rules.specs.Ioc.Tables.{request_at}
use Rattle.mpt_rules.specs.Ioc.Takes as adapter
use Rattle.mpt_rules.specs.Law.{NothingIsStrange}
use Rattle.mpt_rules.specs.World.Cases.{Case, by_host, entries, happens}
use Rattle.mpt_rules.specs.World.Counts.{one_if}
use Rattle.mpt_rules.specs.World.Inputs.{by_option, by_result, host_told}
use Rattle.mpt_rules.specs.World.State.{World}
use Rattle.mpt_rules.proofs.Counts.{post_count-append}
use Rattle.mpt_rules.proofs.HostCalls.{aborts_by, resets_target_by, submits_by}
use Rattle.law_facts.specs.Clock.{is_live}
use Rattle.law_facts.specs.Facts.{Facts}
use Rattle.law_facts.specs.Handles.{Aimed, IsUnchosen, is_chosen, is_ready_at}
use Rattle.law_facts.specs.History.{History, history_after}
use Rattle.law_facts.specs.Messages.{CommandAt, CommandPost, PostIs, PostIsRecord, RequestIs}
use Rattle.law_facts.specs.Words.{is_command, slot}
use Rattle.law_messages.specs.Numbers.{AbortsAreAccepted}
use Rattle.law_messages.proofs.Agreeing.{all_first, differ, none_posted, none_queued, not_both, same}
use Rattle.law_messages.proofs.Keys.{get_inserted, get_other_inserted}
use Rattle.law_messages.proofs.Leads.{Accepted, Accepts, Ends, Goes, Leads}
use Rattle.law_messages.proofs.Requests.{IsNoAccept}
use Rattle.law_messages.proofs.Shown.{leads}
use Rattle.law_messages.proofs.TameTold as tame
use Rattle.law_lights.proofs.ClocksKept.{clocks_kept}
use Rattle.law_moves.proofs.Cases.{IsHosts}
use Rattle.law_moves.proofs.CasesTold.{OwesTold, kept_told}
use Rattle.law_returns.specs.Further.{FurtherFlights}
use Rattle.law_targets.proofs.BoundKept as bound
use Rattle.law_targets.proofs.HostAccepts.{taken_none, tame_none}
use Rattle.law_targets.proofs.PostKinds.{command_post}
use Rattle.law_targets.proofs.Posted as posted
use Rattle.law_targets.proofs.Posted.{IsPut}

-- ---- handles are chosen as a submission is accepted

chosen_next : (g : Paged) (e : Entry) → IsNoAccept e → (paged_next g e).chosen ≡ g.chosen
chosen_next g (entry.Accept n a s) t = absurd t
chosen_next g (entry.Take l (item.Up x)) t = refl
chosen_next g (entry.Take l (item.Down x)) t = refl
chosen_next g (entry.Take l (item.Out x)) t = refl
chosen_next g (entry.Take l (item.Back x)) t = refl
chosen_next g (entry.Take l (item.Ask x)) t = refl
chosen_next g (entry.Take l (item.Tell x)) t = refl
chosen_next g (entry.Put l x) t = refl
chosen_next g (entry.Bind k a n) t = refl
chosen_next g (entry.Unbind k) t = refl
chosen_next g entry.UnbindAll t = refl
chosen_next g (entry.Given i) t = refl
chosen_next g (entry.Idle x) t = refl
chosen_next g (entry.Run a tag) t = refl
chosen_next g entry.HostUp t = refl
chosen_next g (entry.Ready a k) t = refl
chosen_next g (entry.Lost a k) t = refl
chosen_next g (entry.RefuseSubmit n cause) t = refl
chosen_next g (entry.Refuse c cause) t = refl
chosen_next g (entry.Answer n how) t = refl
chosen_next g (entry.AbortEnd n how) t = refl
chosen_next g (entry.TargetEnd a how) t = refl
chosen_next g entry.ResetDone t = refl

chosen_same : (t : List Entry) (g : Paged) → EachEntry IsNoAccept t → (state_after paged_next g t).chosen ≡ g.chosen
chosen_same [] g a = refl
chosen_same (e ∷ t) g a = chosen_same t (paged_next g e) a.1 ∙ chosen_next g e a.0

-- ---- a case accepts nothing, or a submission of a number that wasn't used

module _ (w : World) (h : History) (f : Facts w h) (plain : NothingIsStrange w) where
  record IsNew (x : Host) : Type 0 where
    number : ℕ
    cmd : Cmd
    named : finmap.get x.cmds number ≡ Some cmd
    fresh : finset.contains w.host.accepted number ≡ false

  OnAccept : World → List Entry → Type 0
  OnAccept v t = EachEntry IsNoAccept t ⊎ IsNew v.host

  submitted : (n a : ℕ) (form : CommandForm) (used up : Bool) (handle : Option ℕ) (fit : Bool) (o : Option ℕ) → finset.contains w.host.accepted n ≡ used
      → EachEntry IsNoAccept (by_host w (by_result (input.Submit n a form) (entry.RefuseSubmit n) (submits_by w.host n a (command_named form) used up handle fit o))).entries ⊎ IsNew (submits_by w.host n a (command_named form) used up handle fit o).part
  submitted n a form true up handle fit o e = inl (tt, (tt, tt))
  submitted n a form false false handle fit o e = inl (tt, (tt, tt))
  submitted n a form false true None fit o e = inl (tt, (tt, tt))
  submitted n a form false true (Some x) false o e = inl (tt, (tt, tt))
  submitted n a form false true (Some x) true None e = inl (tt, (tt, tt))
  submitted n a form false true (Some x) true (Some s) e = inr (record { number = n; cmd = record { smid = s; handle = x }; named = get_inserted w.host.cmds n (record { smid = s; handle = x }); fresh = e })

  told : (i : Input) → IsHosts i → EachEntry IsNoAccept (host_told w.host i).entries ⊎ IsNew (host_told w.host i).part
  told input.Start c = inl (tame_none (by_option input.Start call.Start (inputs.starts_in w.host w.host.mode)).entries (tame.option_tame input.Start call.Start (inputs.starts_in w.host w.host.mode) (tame.starts_tame w.host w.host.mode)))
  told (input.Submit n a form) c = submitted n a form (finset.contains w.host.accepted n) (is_up w.host.mode) (ready_handle w.host.phases a) (fits (command_named form)) (least_free class.ScsiIo w.host.pool) refl
  told (input.Abort n) c =
      let o = aborts_by w.host n (is_up w.host.mode) (finmap.get w.host.cmds n) (finmap.get w.host.aborts n) (least_free class.High w.host.pool) in
      inl (tame_none (by_result (input.Abort n) (entry.Refuse (call.Abort n)) o).entries (tame.result_tame (input.Abort n) (entry.Refuse (call.Abort n)) o (λ x. tt) (tame.aborts_tame w.host n (is_up w.host.mode) (finmap.get w.host.cmds n) (finmap.get w.host.aborts n) (least_free class.High w.host.pool))))
  told (input.TargetReset address) c =
      let o = resets_target_by w.host address (is_up w.host.mode) (ready_handle w.host.phases address) (least_free class.High w.host.pool) in
      inl (tame_none (by_result (input.TargetReset address) (entry.Refuse (call.TargetReset address)) o).entries (tame.result_tame (input.TargetReset address) (entry.Refuse (call.TargetReset address)) o (λ x. tt) (tame.targets_tame w.host address (is_up w.host.mode) (ready_handle w.host.phases address) (least_free class.High w.host.pool))))
  told input.Reset c = inl (tame_none (by_option input.Reset call.Reset (inputs.diag_resets_in w.host w.host.mode)).entries (tame.option_tame input.Reset call.Reset (inputs.diag_resets_in w.host w.host.mode) (tame.diag_tame w.host w.host.mode)))
  told input.UnitReset c = inl (tame_none (by_option input.UnitReset call.UnitReset (inputs.unit_resets_in w.host w.host.mode)).entries (tame.option_tame input.UnitReset call.UnitReset (inputs.unit_resets_in w.host w.host.mode) (tame.unit_tame w.host w.host.mode)))
  told (input.Plug address expander phy) c = absurd c
  told (input.Unplug address) c = absurd c

  accept_owes : OwesTold OnAccept w
  unfolding OnAccept
  accept_owes =
      record {
        idles = λ c. inl (tt, tt);
        host_puts = λ x rest e. inl (tt, tt);
        host_takes = λ queue x rest e y. inl (tt, taken_none w.host queue x);
        host_told = λ i c. told i c;
        host_looks = λ e. inl tt;
        host_stops = λ e. inl tt;
        no_session = inl tt;
        ioc_takes = λ x rest e. inl (tt, tame_none (adapter.takes_down w.ioc x).entries (tame.down_tame w.ioc x));
        ioc_high = λ p rest e. inl (tame_none (step.works_on (record w.ioc { high = rest }) p).entries (tame.works_tame (record w.ioc { high = rest }) p));
        ioc_normal = λ p rest e. inl (tame_none (step.works_on (record w.ioc { normal = rest }) p).entries (tame.works_tame (record w.ioc { normal = rest }) p));
        ioc_puts_out = λ x rest e. inl (tt, tt);
        ioc_takes_back = λ x rest e. inl (tt, tame_none (adapter.takes_back w.ioc x).entries (tame.back_tame w.ioc x));
        ioc_puts = λ queue y rest z e u. inl (tt, tt);
        fabric_takes = λ x rest e. inl (tt, tt);
        fabric_says = λ x rest e. inl tt;
        fabric_puts = λ x rest e. inl (tt, tt);
        fabric_runs = λ tag address e. inl (tt, tt);
        plugs = λ address expander phy t p. inl (tame_none t (tame.plugs_tame t p));
        unplugs = λ address t p. inl (tame_none t (tame.plugs_tame t p));
        calms = inl tt;
      }

  accepts_or : (c : Case) → OnAccept (happens w c) (entries w c)
  accepts_or c = kept_told OnAccept w plain accept_owes c

  -- a number that was open before, of all of the case's, was accepted before
  pub chosen_stays : (c : Case) → ((n : ℕ) (x : Cmd) → finmap.get (happens w c).host.cmds n ≡ Some x → finmap.get w.host.cmds n ≡ Some x) → (history_after h (entries w c)).paged.chosen ≡ h.paged.chosen
  unfolding OnAccept
  chosen_stays c less = by_case (accepts_or c)
    where
      by_case : EachEntry IsNoAccept (entries w c) ⊎ IsNew (happens w c).host → (history_after h (entries w c)).paged.chosen ≡ h.paged.chosen
      by_case (inl a) = chosen_same (entries w c) h.paged a
      by_case (inr n) = not_both (finset.contains w.host.accepted n.number) n.fresh ((f.disks.numbers n.number).accepted (ap Rattle.std.proofs.Common.is_some (less n.number n.cmd n.named)))

-- ---- all cases

module _ (w : World) (h : History) (c : Case) (f : Facts w h) (plain : NothingIsStrange w) (aborts : AbortsAreAccepted w) (more : FurtherFlights w) where
  abbrev Chosen : Cmd → Type 0
  Chosen x = is_chosen ((history_after h (entries w c)).paged.chosen x.smid) x.handle ≡ true

  -- the last accept chose the ready handle
  ready_chosen : (m a s handle plug : ℕ) (form : CommandForm) (y : Accepted w h (happens w c).host (history_after h (entries w c)) m a s handle plug form) → h.paged.pages handle a ≡ true
  ready_chosen m a s handle plug form y =
      let r = bound.is_ready w h c f plain aborts more m a s handle plug form y in
      (f.handles.each handle r.of_disk).known.pages (bound.normal w h c f plain aborts more m a s handle plug form y) a ∙ (ap (is_ready_at a) r.phase_is ∙ same a)

  pub chosen_kept : (n : ℕ) (x : Cmd) → finmap.get (happens w c).host.cmds n ≡ Some x → Chosen x
  chosen_kept n x p = by_leads (leads w h c f plain aborts)
    where
      accepted : (m a s handle plug : ℕ) (form : CommandForm) → Accepted w h (happens w c).host (history_after h (entries w c)) m a s handle plug form → Chosen x
      accepted m a s handle plug form y = by_key (n == m) refl
        where
          now : (history_after h (entries w c)).paged.chosen ≡ put_at s (Some (λ g. h.paged.pages g a)) h.paged.chosen
          now = ap (λ (k : History). k.paged.chosen) y.told

          by_key : (b : Bool) → (n == m) ≡ b → Chosen x
          by_key true t =
              let e = eqb-true n m t in
              let i : Some x ≡ Some (record { smid = s; handle = handle }) = sym p ∙ (ap (λ o. finmap.get o n) (bound.cmds_are w h c f plain aborts more m a s handle plug form y) ∙ (ap (finmap.get (finmap.insert w.host.cmds m (record { smid = s; handle = handle }))) e ∙ get_inserted w.host.cmds m (record { smid = s; handle = handle }))) in
              let d : x ≡ record { smid = s; handle = handle } = cc in
              ap (λ (o : Cmd). is_chosen ((history_after h (entries w c)).paged.chosen o.smid) o.handle) d
              ∙ (ap (λ g. is_chosen (g s) handle) now
              ∙ (ap (λ b. is_chosen (if b then Some (λ g. h.paged.pages g a) else h.paged.chosen s) handle) (same s) ∙ ready_chosen m a s handle plug form y))
          by_key false t =
              let e : finmap.get w.host.cmds n ≡ Some x = sym (get_other_inserted w.host.cmds m (record { smid = s; handle = handle }) n (differ n m t)) ∙ (sym (ap (λ o. finmap.get o n) (bound.cmds_are w h c f plain aborts more m a s handle plug form y)) ∙ p) in
              let o = (f.flights.numbers n).command x e in
              ap (λ g. is_chosen (g x.smid) x.handle) now
              ∙ (ap (λ b. is_chosen (if b then Some (λ g. h.paged.pages g a) else h.paged.chosen x.smid) x.handle) (other x.smid o) ∙ (f.handles.aimed n).chosen x e)
            where
              other : (q : ℕ) → slot w.host q ≡ Open (request.Command n) → (q == s) ≡ false
              other q o = by_test (q == s) refl
                where
                  by_test : (b : Bool) → (q == s) ≡ b → b ≡ false
                  by_test false u = refl
                  by_test true u = let z : Free ≡ Open (request.Command n) = sym y.least.free ∙ (ap (slot w.host) (sym (eqb-true q s u)) ∙ o) in absurd (cc)

      by_leads : Leads w h (happens w c).host (history_after h (entries w c)) → Chosen x
      by_leads (Goes hand away fo) =
          ap (λ g. is_chosen (g x.smid) x.handle) (chosen_stays w h f plain c (λ m y e. fo.less_cmds m y e)) ∙ (f.handles.aimed n).chosen x (fo.less_cmds n x p)
      by_leads (Accepts m a s handle plug form y) = accepted m a s handle plug form y
      by_leads (Ends l pool cmds u g) = let z : None ≡ Some x = sym (finmap.get-empty nat_cmp n) ∙ (sym (ap (λ o. finmap.get o n) cmds) ∙ p) in absurd (cc)

  -- ---- a post that was put

  abbrev Aims : Cmd → Type 0
  Aims x = (history_after h (entries w c)).aiming.handle x.smid ≡ Some x.handle

  -- the number was open before
  aimed_before : (n : ℕ) (x : Cmd) → finmap.get w.host.cmds n ≡ Some x → 1 ≤ posted.posted (happens w c) x.smid → is_live (happens w c) ≡ true → Aims x
  aimed_before n x e p live = by_case (posted.aims w h f plain x.smid c live p)
    where
      o : slot w.host x.smid ≡ Open (request.Command n)
      o = (f.flights.numbers n).command x e

      low : x.handle < 2 ^ 16
      low = let i = f.limits.cmds n x e in let b = i.1 in omega (arith, b)

      named : (q : Post) (r : Option OpenRequest) → CommandPost w q (Some x) r → dev_handle_in q.frame ≡ x.handle
      named q None k = absurd k
      named q (Some r) k = ap dev_handle_in k.1 ∙ posted.handle_commanded x.smid x.handle r.command low

      by_case : ((1 ≤ posted.posted w x.smid) × ((history_after h (entries w c)).aiming.handle x.smid ≡ h.aiming.handle x.smid)) ⊎ IsPut w h f plain x.smid (entries w c) → Aims x
      by_case (inl k) = let l = k.0 in k.1 ∙ (f.handles.aimed n).handle x e (omega (arith, l))
      by_case (inr k) = k.aimed ∙ ap Some (named k.put (finmap.get h.machine.requests n) (subst (λ q. CommandPost w k.put q (finmap.get h.machine.requests n)) e (command_post w h f n x.smid o k.put k.its k.record_is)))

  -- a free identifier was posted nowhere
  none_free : (s : ℕ) → slot w.host s ≡ Free → posted.posted w s ≡ 0
  none_free s e =
      let a = none_posted w h s (ap Rattle.smid_pool.specs.Pool.is_open e) w.down (all_first (Rattle.law_facts.specs.Messages.DownIsRecord w h) w.down w.host.out f.messages.down) in
      let b = none_queued w h s (ap Rattle.smid_pool.specs.Pool.is_open e) w.ioc.normal f.messages.normal in
      let d = by_request (request_at w.ioc s) (f.messages.requests s) in
      omega (arith, a, b, d)
    where
      by_request : (o : Option AtFabric) → RequestIs w h s o → one_if (is_command o) ≡ 0
      by_request None r = refl
      by_request (Some (Rattle.mpt_rules.specs.declared.at_fabric.AtFabric.TheVariants.Command handle queue len written)) r = absurd (subst (CommandAt w h s handle queue len written) e r)
      by_request (Some (Rattle.mpt_rules.specs.declared.at_fabric.AtFabric.TheVariants.Abort handle)) r = refl
      by_request (Some (Rattle.mpt_rules.specs.declared.at_fabric.AtFabric.TheVariants.TargetReset handle)) r = refl
      by_request (Some Rattle.mpt_rules.specs.declared.at_fabric.AtFabric.TheVariants.PortEnable) r = refl

  pub handle_kept : (n : ℕ) (x : Cmd) → finmap.get (happens w c).host.cmds n ≡ Some x → 1 ≤ posted.posted (happens w c) x.smid → Aims x
  handle_kept n x p u = by_leads (leads w h c f plain aborts)
    where
      live : is_live (happens w c) ≡ true
      live = bound.clock_live (happens w c) (history_after h (entries w c)) (clocks_kept w h c f plain) x.smid (let a = post_count-append x.smid (happens w c).down (happens w c).host.out in omega (arith, u, a))

      accepted : (m a s handle plug : ℕ) (form : CommandForm) → Accepted w h (happens w c).host (history_after h (entries w c)) m a s handle plug form → Aims x
      accepted m a s handle plug form y = by_key (n == m) refl
        where
          by_key : (b : Bool) → (n == m) ≡ b → Aims x
          by_key false t = aimed_before n x (sym (get_other_inserted w.host.cmds m (record { smid = s; handle = handle }) n (differ n m t)) ∙ (sym (ap (λ o. finmap.get o n) (bound.cmds_are w h c f plain aborts more m a s handle plug form y)) ∙ p)) u live
          by_key true t =
              let e = eqb-true n m t in
              let i : Some x ≡ Some (record { smid = s; handle = handle }) = sym p ∙ (ap (λ o. finmap.get o n) (bound.cmds_are w h c f plain aborts more m a s handle plug form y) ∙ (ap (finmap.get (finmap.insert w.host.cmds m (record { smid = s; handle = handle }))) e ∙ get_inserted w.host.cmds m (record { smid = s; handle = handle }))) in
              let d : x.smid ≡ s = cc in
              by_case (posted.aims w h f plain s c live (subst (λ j. 1 ≤ posted.posted (happens w c) j) d u))
            where
              by_case : ((1 ≤ posted.posted w s) × ((history_after h (entries w c)).aiming.handle s ≡ h.aiming.handle s)) ⊎ IsPut w h f plain s (entries w c) → Aims x
              by_case (inl k) = let l = k.0 in let z = none_free s y.least.free in absurd (omega (arith, l, z))
              by_case (inr k) = absurd (subst (PostIs w h k.put) (ap (slot w.host) k.its ∙ y.least.free) k.record_is)

      by_leads : Leads w h (happens w c).host (history_after h (entries w c)) → Aims x
      by_leads (Goes hand away fo) = aimed_before n x (fo.less_cmds n x p) u live
      by_leads (Accepts m a s handle plug form y) = accepted m a s handle plug form y
      by_leads (Ends l pool cmds v g) = let z : None ≡ Some x = sym (finmap.get-empty nat_cmp n) ∙ (sym (ap (λ o. finmap.get o n) cmds) ∙ p) in absurd (cc)

  pub aimed_kept : (n : ℕ) → Aimed (happens w c) (history_after h (entries w c)) n
  aimed_kept n = record { chosen = λ x p. chosen_kept n x p; handle = λ x p u. handle_kept n x p (omega (arith, u)) }

  -- none is chosen for an identifier of another class
  pub unchosen_kept : (s : ℕ) → IsUnchosen (history_after h (entries w c)) s
  unchosen_kept s out = by_leads (leads w h c f plain aborts)
    where
      by_leads : Leads w h (happens w c).host (history_after h (entries w c)) → (history_after h (entries w c)).paged.chosen s ≡ None
      by_leads (Goes hand away fo) = ap (λ g. g s) (chosen_stays w h f plain c (λ m y e. fo.less_cmds m y e)) ∙ f.handles.unchosen s out
      by_leads (Accepts m a q handle plug form y) =
          let i = y.least.inside in
          ap (λ (k : History). k.paged.chosen s) y.told ∙ (ap (λ b. if b then Some (λ g. h.paged.pages g a) else h.paged.chosen s) (other q i out) ∙ f.handles.unchosen s out)
        where
          other : (q : ℕ) → Rattle.smid_pool.specs.Class.IsIn class.ScsiIo q → (s ≡ 0) ⊎ (257 ≤ s) → (s == q) ≡ false
          other q i o = by_test (s == q) refl
            where
              outside : {T : Type 0} → s ≡ q → (s ≡ 0) ⊎ (257 ≤ s) → T
              outside e (inl z) = let a = i.0 in absurd (omega (arith, a, z, e))
              outside e (inr l) = let a = i.1 in absurd (omega (arith, a, l, e))

              by_test : (b : Bool) → (s == q) ≡ b → b ≡ false
              by_test false t = refl
              by_test true t = outside (eqb-true s q t) o
      by_leads (Ends l pool cmds u g) = ap (λ k. k s) (chosen_stays w h f plain c (λ m y e. let z : None ≡ Some y = sym (finmap.get-empty nat_cmp m) ∙ (sym (ap (λ o. finmap.get o m) cmds) ∙ e) in absurd (cc))) ∙ f.handles.unchosen s out
