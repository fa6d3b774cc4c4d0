-- What is accepted is for an address of which one handle has a page, and what is put goes to a handle that was chosen.
use Rattle.std.proofs.Common.{◌≡◌, ℕ, ◌<◌, ◌≤◌, ◌^◌, ◌||◌, ◌⊎◌, inl, inr, nat_le, Bool, true, false, List, [], ◌∷◌, Option, Some, None, refl, ap, sym, ◌∙◌, subst, arith}
use Rattle.std.specs.Prelude.{All}
use Rattle.std.specs.FinMap as finmap
use Rattle.std.specs.FinSet as finset
use Rattle.std.proofs.lemmas.List.Elements.{All-head}
use Rattle.scsi_disk.specs.Command.{fits}
use Rattle.smid_pool.specs.Pool.{Free, Open, Parked, Slot, least_free}
use Rattle.smid_pool.specs.declared.class.Class.TheVariants as class
use Rattle.removal.specs.Handles.{IsHandle, ready_handle}
use Rattle.mpt_wire.specs.Handles.Pages.{GoesTo, HasOnePage, PagedAsks, paged_next, Paged}
use Rattle.mpt_wire.specs.Machine.Causes.{is_up}
use Rattle.mpt_wire.specs.Messages.Fields.{dev_handle_in, smid_in}
use Rattle.mpt_wire.specs.Walks.Passes.{EachEntry, Passes}
use Rattle.mpt_trace.specs.Command.{command_named}
use Rattle.mpt_trace.specs.declared.command_form.CommandForm.{CommandForm}
use Rattle.mpt_trace.specs.declared.entry.Entry.{Entry}
use Rattle.mpt_trace.specs.declared.entry.Entry.TheVariants as entry
use Rattle.mpt_trace.specs.declared.host_state.HostState.{HostState}
use Rattle.mpt_trace.specs.declared.host_state.HostState.TheVariants as state
use Rattle.mpt_trace.specs.declared.input.Input.{Input}
use Rattle.mpt_trace.specs.declared.input.Input.TheVariants as input
use Rattle.mpt_trace.specs.declared.item.Down.{Down}
use Rattle.mpt_trace.specs.declared.item.Down.TheVariants as down
use Rattle.mpt_trace.specs.declared.item.Item.TheVariants as item
use Rattle.mpt_trace.specs.declared.lane.LaneName.TheVariants as lane
use Rattle.mpt_trace.specs.declared.refusal.RefusedCall.TheVariants as call
use Rattle.mpt_rules.specs.declared.post.Post.{Post}
use Rattle.mpt_rules.specs.declared.request.Request.{Request}
use Rattle.mpt_rules.specs.declared.request.Request.TheVariants as request
use Rattle.mpt_rules.specs.Host.Inputs as inputs
use Rattle.mpt_rules.specs.Host.Takes.{hears_up, is_starting}
use Rattle.mpt_rules.specs.Ioc.Steps as step
use Rattle.mpt_rules.specs.Ioc.Takes as adapter
use Rattle.mpt_rules.specs.Law.{NothingIsStrange}
use Rattle.mpt_rules.specs.World.Cases.{Case, entries}
use Rattle.mpt_rules.specs.World.Inputs.{by_option, by_result, host_told}
use Rattle.mpt_rules.specs.World.State.{World}
use Rattle.mpt_rules.proofs.HostCalls.{aborts_by, resets_target_by, submits_by}
use Rattle.law_asked.proofs.Opened.{opened}
use Rattle.law_facts.specs.Clock.{in_normal, is_live}
use Rattle.law_facts.specs.Facts.{Facts}
use Rattle.law_facts.specs.Flights.{RecordStands}
use Rattle.law_facts.specs.Handles.{is_chosen, is_ready_at, phase_of}
use Rattle.law_facts.specs.History.{History}
use Rattle.law_facts.specs.Messages.{CommandPost, DownIsRecord, PostIs, PostIsRecord}
use Rattle.law_facts.specs.Words.{slot}
use Rattle.law_flights.proofs.HostQuiet as calm
use Rattle.law_flights.proofs.HostTold.{told_input}
use Rattle.law_flights.proofs.IocTold.{told_back, told_down, told_high, told_normal}
use Rattle.law_messages.proofs.Agreeing.{all_last, not_both, same}
use Rattle.law_messages.proofs.Requests.{IsNoAccept}
use Rattle.law_messages.proofs.TameTold as tame
use Rattle.law_moves.proofs.Cases.{IsHosts}
use Rattle.law_moves.proofs.CasesTold.{OwesTold, kept_told}
use Rattle.law_pages.specs.Paged.{OtherPagesUnknown}
use Rattle.law_pages.proofs.OneReady.{one_ready}
use Rattle.law_pages.proofs.ReadyKept.{normal_apart, ready_named}
use Rattle.law_removals.proofs.Behind.{in_range}
use Rattle.law_removals.proofs.HostLines.{ready_phase}
use Rattle.law_targets.proofs.HostAccepts.{taken_none, tame_none}
use Rattle.law_targets.proofs.Passed.{NoPut, plug_put, quiet_put, told_put}
use Rattle.law_targets.proofs.Posted as posted

-- ---- entries that put nothing and accept nothing

abbrev Free_ : Paged → List Entry → Type 0
Free_ g t = Passes paged_next PagedAsks g t

one_free : (g : Paged) (e : Entry) → NoPut e → IsNoAccept e → PagedAsks g e
one_free g (entry.Put l x) p a = absurd p
one_free g (entry.Accept n address s) p a = absurd a
one_free g e p a = tt

all_free : (g : Paged) (t : List Entry) → EachEntry NoPut t → EachEntry IsNoAccept t → Free_ g t
all_free g [] p a = tt
all_free g (e ∷ t) p a = (one_free g e p.0 a.0, all_free (paged_next g e) t p.1 a.1)

goes_to : (o : Option (ℕ → Bool)) (j : ℕ) → is_chosen o j ≡ true → GoesTo o j
goes_to None j e = tt
goes_to (Some chosen) j e = e

none_goes : (o : Option (ℕ → Bool)) (j : ℕ) → o ≡ None → GoesTo o j
none_goes o j e = subst (λ x. GoesTo x j) (sym e) tt

pub handle_or : (k : ℕ) → (IsHandle k) ⊎ (IsHandle k → ⊥)
handle_or k = by_tests (nat_le 0x0009 k) (nat_le k 0x0048) refl refl
  where
    by_tests : (x y : Bool) → nat_le 0x0009 k ≡ x → nat_le k 0x0048 ≡ y → (IsHandle k) ⊎ (IsHandle k → ⊥)
    by_tests true true r s = inl (grind (arith, r), grind (arith, s))
    by_tests true false r s = inr (λ i. let b = i.1 in absurd (grind (arith, b, s)))
    by_tests false y r s = inr (λ i. let b = i.0 in absurd (grind (arith, b, r)))

up_starts : (m : HostState) → is_up m ≡ true → (is_starting m || is_up m) ≡ true
up_starts state.Off e = absurd (cc)
up_starts state.Starting e = absurd (cc)
up_starts state.Up e = refl
up_starts state.Resetting e = absurd (cc)

module _ (w : World) (h : History) (f : Facts w h) (plain : NothingIsStrange w) (other : OtherPagesUnknown w h) where
  abbrev OnPosts : World → List Entry → Type 0
  OnPosts v t = Free_ h.paged t

  -- ---- a post is put

  module _ (d : ℕ) (g p : List ℕ) (rest : List Down) (front : w.host.out ≡ down.Post d g p ∷ rest) where
    abbrev its : Post
    its = record { descriptor = d; frame = g; payload = p }

    recorded : PostIsRecord w h its
    recorded = All-head (DownIsRecord w h) (down.Post d g p) rest (subst (All (DownIsRecord w h)) front (all_last (DownIsRecord w h) w.down w.host.out f.messages.down))

    of_command : (n : ℕ) → slot w.host (smid_in d) ≡ Open (request.Command n) → CommandPost w its (finmap.get w.host.cmds n) (finmap.get h.machine.requests n) → GoesTo (h.paged.chosen (smid_in d)) (dev_handle_in g)
    of_command n o k =
        let z = opened w h f n (smid_in d) o in
        let low : z.cmd.handle < 2 ^ 16 = (let b = (f.limits.cmds n z.cmd z.named).1 in omega (arith, b)) in
        let y = subst (λ c. CommandPost w its c (Some z.request)) z.named (subst (λ r. CommandPost w its (finmap.get w.host.cmds n) r) z.asked k) in
        let e : dev_handle_in g ≡ z.cmd.handle = ap dev_handle_in y.1 ∙ posted.handle_commanded z.cmd.smid z.cmd.handle z.request.command low in
        subst (λ s. GoesTo (h.paged.chosen s) (dev_handle_in g)) z.smid (subst (GoesTo (h.paged.chosen z.cmd.smid)) (sym e) (goes_to (h.paged.chosen z.cmd.smid) z.cmd.handle ((f.handles.aimed n).chosen z.cmd z.named)))

    -- another class has no identifier for which a handle is chosen
    of_other : 257 ≤ smid_in d → GoesTo (h.paged.chosen (smid_in d)) (dev_handle_in g)
    of_other l = none_goes (h.paged.chosen (smid_in d)) (dev_handle_in g) (f.handles.unchosen (smid_in d) (inr l))

    stands : (r : Request) → slot w.host (smid_in d) ≡ Open r → RecordStands w (smid_in d) (Open r)
    stands r o = let i = in_range w h f (smid_in d) r o in subst (RecordStands w (smid_in d)) o (f.flights.identifiers (smid_in d) i.0 i.1).recorded

    goes : GoesTo (h.paged.chosen (smid_in d)) (dev_handle_in g)
    goes = by_slot (slot w.host (smid_in d)) refl recorded
      where
        by_slot : (y : Slot Request) → slot w.host (smid_in d) ≡ y → PostIs w h its y → GoesTo (h.paged.chosen (smid_in d)) (dev_handle_in g)
        by_slot (Open (request.Command n)) o k = of_command n o k
        by_slot (Open (request.Abort n t)) o k = let i = (stands (request.Abort n t) o).0 in let l = i.0 in of_other (omega (arith, l))
        by_slot (Open (request.TargetReset a)) o k = let i = stands (request.TargetReset a) o in let l = i.0 in of_other (omega (arith, l))
        by_slot (Open (request.Leave j)) o k = let i = stands (request.Leave j) o in let l = i.0 in of_other (omega (arith, l))
        by_slot (Open (request.Page j)) o k = let i = stands (request.Page j) o in let l = i.0 in of_other (omega (arith, l))
        by_slot (Open (request.Remove j)) o k = let i = stands (request.Remove j) o in let l = i.0 in of_other (omega (arith, l))
        by_slot (Open (request.Ack e c)) o k = let i = stands (request.Ack e c) o in let l = i.0 in of_other (omega (arith, l))
        by_slot (Open request.Notification) o k = let i = stands request.Notification o in let l = i.0 in of_other (omega (arith, l))
        by_slot (Open request.PortEnable) o k = let i = stands request.PortEnable o in let l = i.0 in of_other (omega (arith, l))
        by_slot Free o k = absurd k
        by_slot Parked o k = absurd k

  puts : (x : Down) (rest : List Down) → w.host.out ≡ x ∷ rest → Free_ h.paged (entry.Put lane.Down (item.Down x) ∷ [])
  puts (down.Post d g p) rest e = (goes d g p rest e, tt)
  puts (down.Write reg value) rest e = (tt, tt)
  puts (down.Read reg) rest e = (tt, tt)
  puts (down.Return address index) rest e = (tt, tt)
  puts down.Stop rest e = (tt, tt)

  -- ---- a submission is accepted

  one_page : (a handle : ℕ) → is_up w.host.mode ≡ true → ready_handle w.host.phases a ≡ Some handle → HasOnePage h.paged.pages a
  one_page a handle u e =
      (handle, (f.handles.each handle ready.0).known.pages normal a ∙ (ap (is_ready_at a) ready.1 ∙ same a), λ k t. by_handle k t (handle_or k))
    where
      normal : in_normal w ≡ true
      normal = up_starts w.host.mode u

      live : is_live w ≡ true
      live = (f.clock.fabric_off.up u).live

      ready : IsHandle handle × (phase_of w handle ≡ Rattle.removal.specs.declared.phase.Phase.TheVariants.Ready a)
      ready = ready_phase w.host.phases a handle f.flights.sizes.phases e

      outside : (k : ℕ) → h.paged.pages k a ≡ true → (IsHandle k → ⊥) → k ≡ handle
      outside k t n = not_both (h.paged.pages k a) (other (normal_apart w.host.mode normal) k a n) t

      by_handle : (k : ℕ) → h.paged.pages k a ≡ true → (IsHandle k) ⊎ (IsHandle k → ⊥) → k ≡ handle
      by_handle k t (inl i) = one_ready w h f normal live a k handle i ready.0 (ready_named a (phase_of w k) (sym ((f.handles.each k i).known.pages normal a) ∙ t)) ready.1
      by_handle k t (inr n) = outside k t n

  submitted : (n a : ℕ) (form : CommandForm) (used up : Bool) (handle : Option ℕ) (fit : Bool) (o : Option ℕ) → is_up w.host.mode ≡ up → ready_handle w.host.phases a ≡ handle
      → Free_ h.paged (by_result (input.Submit n a form) (entry.RefuseSubmit n) (submits_by w.host n a (command_named form) used up handle fit o)).entries
  submitted n a form true up handle fit o u e = (tt, (tt, tt))
  submitted n a form false false handle fit o u e = (tt, (tt, tt))
  submitted n a form false true None fit o u e = (tt, (tt, tt))
  submitted n a form false true (Some x) false o u e = (tt, (tt, tt))
  submitted n a form false true (Some x) true None u e = (tt, (tt, tt))
  submitted n a form false true (Some x) true (Some s) u e = (tt, (one_page a x u e, tt))

  told_free : (i : Input) → EachEntry IsNoAccept (host_told w.host i).entries → Free_ h.paged (host_told w.host i).entries
  told_free i a = all_free h.paged (host_told w.host i).entries (told_put (host_told w.host i).entries (told_input w.host i)) a

  told : (i : Input) → IsHosts i → Free_ h.paged (host_told w.host i).entries
  told input.Start c = told_free input.Start (tame_none (by_option input.Start call.Start (inputs.starts_in w.host w.host.mode)).entries (tame.option_tame input.Start call.Start (inputs.starts_in w.host w.host.mode) (tame.starts_tame w.host w.host.mode)))
  told (input.Submit n a form) c = submitted n a form (finset.contains w.host.accepted n) (is_up w.host.mode) (ready_handle w.host.phases a) (fits (command_named form)) (least_free class.ScsiIo w.host.pool) refl refl
  told (input.Abort n) c =
      let o = aborts_by w.host n (is_up w.host.mode) (finmap.get w.host.cmds n) (finmap.get w.host.aborts n) (least_free class.High w.host.pool) in
      told_free (input.Abort n) (tame_none (by_result (input.Abort n) (entry.Refuse (call.Abort n)) o).entries (tame.result_tame (input.Abort n) (entry.Refuse (call.Abort n)) o (λ x. tt) (tame.aborts_tame w.host n (is_up w.host.mode) (finmap.get w.host.cmds n) (finmap.get w.host.aborts n) (least_free class.High w.host.pool))))
  told (input.TargetReset address) c =
      let o = resets_target_by w.host address (is_up w.host.mode) (ready_handle w.host.phases address) (least_free class.High w.host.pool) in
      told_free (input.TargetReset address) (tame_none (by_result (input.TargetReset address) (entry.Refuse (call.TargetReset address)) o).entries (tame.result_tame (input.TargetReset address) (entry.Refuse (call.TargetReset address)) o (λ x. tt) (tame.targets_tame w.host address (is_up w.host.mode) (ready_handle w.host.phases address) (least_free class.High w.host.pool))))
  told input.Reset c = told_free input.Reset (tame_none (by_option input.Reset call.Reset (inputs.diag_resets_in w.host w.host.mode)).entries (tame.option_tame input.Reset call.Reset (inputs.diag_resets_in w.host w.host.mode) (tame.diag_tame w.host w.host.mode)))
  told input.UnitReset c = told_free input.UnitReset (tame_none (by_option input.UnitReset call.UnitReset (inputs.unit_resets_in w.host w.host.mode)).entries (tame.option_tame input.UnitReset call.UnitReset (inputs.unit_resets_in w.host w.host.mode) (tame.unit_tame w.host w.host.mode)))
  told (input.Plug address expander phy) c = absurd c
  told (input.Unplug address) c = absurd c

  owes : OwesTold OnPosts w
  owes =
      record {
        idles = λ c. (tt, tt);
        host_puts = λ x rest e. puts x rest e;
        host_takes = λ queue x rest e y. (tt, all_free _ (hears_up w.host queue x).entries (quiet_put (hears_up w.host queue x).entries (calm.quiet_taken w.host queue x None)) (taken_none w.host queue x));
        host_told = λ i c. told i c;
        host_looks = λ e. tt;
        host_stops = λ e. tt;
        no_session = tt;
        ioc_takes = λ x rest e. (tt, all_free _ (adapter.takes_down w.ioc x).entries (told_put (adapter.takes_down w.ioc x).entries (told_down w.ioc x)) (tame_none (adapter.takes_down w.ioc x).entries (tame.down_tame w.ioc x)));
        ioc_high = λ p rest e. all_free _ (step.works_on (record w.ioc { high = rest }) p).entries (told_put (step.works_on (record w.ioc { high = rest }) p).entries (told_high w.ioc (p ∷ rest))) (tame_none (step.works_on (record w.ioc { high = rest }) p).entries (tame.works_tame (record w.ioc { high = rest }) p));
        ioc_normal = λ p rest e. all_free _ (step.works_on (record w.ioc { normal = rest }) p).entries (told_put (step.works_on (record w.ioc { normal = rest }) p).entries (told_normal w.ioc (p ∷ rest))) (tame_none (step.works_on (record w.ioc { normal = rest }) p).entries (tame.works_tame (record w.ioc { normal = rest }) p));
        ioc_puts_out = λ x rest e. (tt, tt);
        ioc_takes_back = λ x rest e. (tt, all_free _ (adapter.takes_back w.ioc x).entries (told_put (adapter.takes_back w.ioc x).entries (told_back w.ioc x)) (tame_none (adapter.takes_back w.ioc x).entries (tame.back_tame w.ioc x)));
        ioc_puts = λ queue y rest z e u. (tt, tt);
        fabric_takes = λ x rest e. (tt, tt);
        fabric_says = λ x rest e. tt;
        fabric_puts = λ x rest e. (tt, tt);
        fabric_runs = λ tag address e. (tt, tt);
        plugs = λ address expander phy t p. all_free h.paged t (plug_put t p) (tame_none t (tame.plugs_tame t p));
        unplugs = λ address t p. all_free h.paged t (plug_put t p) (tame_none t (tame.plugs_tame t p));
        calms = tt;
      }

  pub posts_pass : (c : Case) → Passes paged_next PagedAsks h.paged (entries w c)
  posts_pass c = kept_told OnPosts w plain owes c
