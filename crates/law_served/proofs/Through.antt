-- A controller whose port is enabled lets events through, over every case; and so one that has bound a handle.
use Rattle.std.proofs.Common.{◌≡◌, ℕ, ◌^◌, ◌==◌, ◌&&◌, not, Bool, true, false, if◌then◌else◌, List, ◌∷◌, Some, refl, ap, sym, ◌∙◌, subst, arith}
use Rattle.std.specs.Prelude.{All}
use Rattle.std.proofs.lemmas.List.Elements.{All-head, All-tail}
use Rattle.mpi_doorbell.specs.Bytes.{has}
use Rattle.mpi_doorbell.specs.DoorRegisters.{DoorRegisters, linked_up}
use Rattle.mpi_doorbell.specs.declared.state.IocState.{IocState}
use Rattle.mpi_doorbell.specs.declared.state.IocState.TheVariants as ioc_state
use Rattle.mpi_rings.specs.declared.request_descriptor.PostKind.TheVariants as post
use Rattle.mpt_messages.specs.Function.{byte_of, function_of}
use Rattle.mpt_messages.specs.Refusal.{request_refusal}
use Rattle.mpt_messages.specs.declared.function.Function.TheVariants as function
use Rattle.mpt_wire.specs.Messages.Fields.{event_masks_in, function_in, kind_in, post_descriptor, smid_in, topology_change_list}
use Rattle.mpt_trace.specs.declared.item.Back.{Back}
use Rattle.mpt_trace.specs.declared.item.Back.TheVariants as back
use Rattle.mpt_trace.specs.declared.item.Down.{Down}
use Rattle.mpt_rules.specs.declared.post.Post.{Post}
use Rattle.mpt_rules.specs.declared.request.Request.{Request}
use Rattle.mpt_rules.specs.declared.request.Request.TheVariants as request
use Rattle.mpt_rules.specs.declared.status.TheConstants.{IOC_STATUS_INVALID_STATE}
use Rattle.mpt_rules.specs.Ioc.Parts.{Ioc, state_of}
use Rattle.mpt_rules.specs.Ioc.Requests as asked
use Rattle.mpt_rules.specs.Ioc.Steps as step
use Rattle.mpt_rules.specs.Ioc.Tables.{binding_of, is_operational, is_ready, is_reset, is_unbound}
use Rattle.mpt_rules.specs.Ioc.Takes as adapter
use Rattle.mpt_rules.specs.Law.{NothingIsStrange}
use Rattle.mpt_rules.specs.Outcome.{Happening}
use Rattle.mpt_rules.specs.World.Cases.{Case, entries, happens}
use Rattle.mpt_rules.specs.World.State.{World}
use Rattle.smid_pool.specs.Pool.{Free, Open, Parked, Slot}
use Rattle.law_facts.specs.Clock.{Clock, is_live}
use Rattle.law_facts.specs.Facts.{Facts}
use Rattle.law_facts.specs.History.{History, history_after}
use Rattle.law_facts.specs.Messages.{PostIs, PostIsRecord}
use Rattle.law_facts.specs.Words.{is_enable_asked, slot}
use Rattle.law_bring_up.proofs.Controller as controller
use Rattle.law_bring_up.proofs.Controller.{Stays}
use Rattle.law_bring_up.proofs.Keys.{counts}
use Rattle.law_classes.specs.Made.{NotificationsStand}
use Rattle.law_flights.proofs.Descriptors.{kind_posted}
use Rattle.law_handles.proofs.ServingWorld.{bare}
use Rattle.law_lights.proofs.ClocksKept.{clocks_kept}
use Rattle.law_messages.proofs.Known.{inside}
use Rattle.law_moves.proofs.Cases.{Owes, kept}
use Rattle.law_moves.proofs.IocTakes as leaf
use Rattle.law_moves.proofs.IocTakes.{Takes, takes}
use Rattle.law_notices.proofs.Calls.{unbound_at}
use Rattle.law_notices.proofs.Fit.{bare_kept}
use Rattle.law_notices.proofs.Lit.{asked_when_on, fault_apart, linked_state, live_high, live_normal}
use Rattle.law_served.specs.Through.{EventsThrough}

not_both : {X : Type 0} (b : Bool) → b ≡ true → b ≡ false → X
not_both true s t = absurd (cc)
not_both false s t = absurd (cc)

first_of : (a b : Bool) → (a && b) ≡ true → a ≡ true
first_of true b e = refl
first_of false b e = absurd (cc)

ready_not_live : (s : IocState) → is_ready s ≡ true → is_operational s ≡ false
ready_not_live ioc_state.Ready e = refl
ready_not_live ioc_state.Reset e = absurd (cc)
ready_not_live ioc_state.Operational e = absurd (cc)
ready_not_live (ioc_state.Fault code) e = absurd (cc)

module _ (w : World) (h : History) (f : Facts w h) (stand : NotificationsStand w) where
  abbrev Through : World → Type 0
  Through v = is_live v ≡ true → v.ioc.enabled ≡ true → v.ioc.through ≡ true

  before : is_live w ≡ true → w.ioc.enabled ≡ true → w.ioc.through ≡ true
  before l e = f.handles.served.through l e

  -- ---- an item of the host

  -- a controller that waits for IOC Init isn't enabled
  not_enabled : is_live w ≡ false → w.ioc.enabled ≡ false
  not_enabled l = (f.clock.tables_empty (bare w f.clock.phase_table.whole l)).enabled

  by_same : (k x : Ioc) → k ≡ x → x.enabled ≡ w.ioc.enabled → x.through ≡ w.ioc.through → is_live w ≡ true → k.enabled ≡ true → k.through ≡ true
  by_same k x s a b l e = ap (λ (y : Ioc). y.through) s ∙ (b ∙ before l (sym a ∙ (sym (ap (λ (y : Ioc). y.enabled) s) ∙ e)))

  taken : (x : Down) (k : Ioc) → Takes w.ioc x k → is_operational (state_of k) ≡ true → k.enabled ≡ true → k.through ≡ true
  taken x k (leaf.Faults y j n) l e = absurd (fault_apart (state_of k) n l)
  taken x k (leaf.Written reg value j n s a) l e = by_same k _ a refl refl (sym (ap is_operational s) ∙ l) e
  taken x k (leaf.Operates value j n r s a) l e = not_both k.enabled e (ap (λ (y : Ioc). y.enabled) a ∙ not_enabled (ready_not_live (state_of w.ioc) r))
  taken x k (leaf.Forgets reg value d a) l e = absurd (cc)
  taken x k (leaf.Reads reg value) l e = before l e
  taken x k (leaf.Posts d g p j o a) l e = by_same k _ a refl refl o e
  taken x k (leaf.DropsPost d g p o) l e = before l e
  taken x k (leaf.Returns address index j o a) l e = by_same k _ a refl refl o e
  taken x k (leaf.DropsReturn address index o) l e = before l e
  taken x k leaf.Stops l e = before l e

  -- ---- work

  module _ (i : Ioc) (p : Post) (same_enabled : i.enabled ≡ w.ioc.enabled) (same_through : i.through ≡ w.ioc.through) (is_record : PostIsRecord w h p) (all : All (PostIsRecord w h) i.normal) (l : is_live w ≡ true) where
    default_is : (r : Request) → slot w.host (smid_in p.descriptor) ≡ Open r → p.descriptor ≡ post_descriptor post.Default 0 (smid_in p.descriptor) 0 → kind_in p.descriptor ≡ Some post.Default
    default_is r o d = let j = inside w h f (smid_in p.descriptor) r o in ap kind_in d ∙ kind_posted post.Default 0 (smid_in p.descriptor) 0 (omega arith) (omega (arith, j))

    noticed : slot w.host (smid_in p.descriptor) ≡ Open request.Notification → PostIs w h p (Open request.Notification) → (step.works_on i p).part.through ≡ true
    noticed o x =
        ap (λ (y : Happening Ioc). y.part.through)
        (ap (step.works_kind i p) (default_is request.Notification o x.0)
        ∙ (ap (step.works_unless i p post.Default) (ap (request_refusal (step.way_of post.Default)) x.1 ∙ controller.notice_accepted)
        ∙ ap (step.works_default i p) (ap (λ g. function_of (function_in g)) x.1 ∙ controller.function_of_notice)))
        ∙ (ap (λ g. not (has (event_masks_in g) (2 ^ topology_change_list))) x.1 ∙ ap (λ m. not (has m (2 ^ topology_change_list))) controller.masks_of_notice)

    enabled : slot w.host (smid_in p.descriptor) ≡ Open request.PortEnable → PostIs w h p (Open request.PortEnable) → (step.works_on i p).part.through ≡ true
    enabled o x =
        ap (λ (y : Happening Ioc). y.part.through)
        (ap (step.works_kind i p) (default_is request.PortEnable o x.0)
        ∙ (ap (step.works_unless i p post.Default) (ap (request_refusal (step.way_of post.Default)) x.1 ∙ controller.enable_accepted)
        ∙ ap (step.works_default i p) (ap (λ g. function_of (function_in g)) x.1 ∙ controller.function_of_enable)))
        ∙ (by_test i.enabled ∙ (same_through ∙ f.messages.bring_up.through l (let n = counts is_enable_asked w.host.pool (smid_in p.descriptor) request.PortEnable o refl in omega (arith, n))))
      where
        by_test : (b : Bool) → (if b then asked.ends_plainly i p (byte_of function.PortEnable) IOC_STATUS_INVALID_STATE else asked.enables i (smid_in p.descriptor)).through ≡ i.through
        by_test true = refl
        by_test false = refl

    another : (slot w.host (smid_in p.descriptor) ≡ Open request.Notification → ⊥) → (slot w.host (smid_in p.descriptor) ≡ Open request.PortEnable → ⊥) → (step.works_on i p).part.enabled ≡ true → (step.works_on i p).part.through ≡ true
    another n m e = let s = controller.works w h f stand i p is_record all n m in s.through ∙ (same_through ∙ before l (sym same_enabled ∙ (sym s.enabled ∙ e)))

    worked : (step.works_on i p).part.enabled ≡ true → (step.works_on i p).part.through ≡ true
    worked e = by_slot (slot w.host (smid_in p.descriptor)) refl
      where
        other : (y : Slot Request) → slot w.host (smid_in p.descriptor) ≡ y → (y ≡ Open request.Notification → ⊥) → (y ≡ Open request.PortEnable → ⊥) → (step.works_on i p).part.through ≡ true
        other y o n m = another (λ q. n (sym o ∙ q)) (λ q. m (sym o ∙ q)) e

        by_slot : (y : Slot Request) → slot w.host (smid_in p.descriptor) ≡ y → (step.works_on i p).part.through ≡ true
        by_slot (Open request.Notification) o = noticed o (subst (PostIs w h p) o is_record)
        by_slot (Open request.PortEnable) o = enabled o (subst (PostIs w h p) o is_record)
        by_slot (Open (request.Command n)) o = other _ o (λ q. cc) (λ q. cc)
        by_slot (Open (request.Abort n task)) o = other _ o (λ q. cc) (λ q. cc)
        by_slot (Open (request.TargetReset address)) o = other _ o (λ q. cc) (λ q. cc)
        by_slot (Open (request.Leave handle)) o = other _ o (λ q. cc) (λ q. cc)
        by_slot (Open (request.Page handle)) o = other _ o (λ q. cc) (λ q. cc)
        by_slot (Open (request.Remove handle)) o = other _ o (λ q. cc) (λ q. cc)
        by_slot (Open (request.Ack event context)) o = other _ o (λ q. cc) (λ q. cc)
        by_slot Free o = other _ o (λ q. cc) (λ q. cc)
        by_slot Parked o = other _ o (λ q. cc) (λ q. cc)

  high : (p : Post) (rest : List Post) → w.ioc.high ≡ p ∷ rest → (step.works_on (record w.ioc { high = rest }) p).part.enabled ≡ true → (step.works_on (record w.ioc { high = rest }) p).part.through ≡ true
  high p rest e = worked (record w.ioc { high = rest }) p refl refl (All-head (PostIsRecord w h) p rest (subst (All (PostIsRecord w h)) e f.messages.high)) f.messages.normal (live_high w h f p rest e)

  normal : (p : Post) (rest : List Post) → w.ioc.normal ≡ p ∷ rest → (step.works_on (record w.ioc { normal = rest }) p).part.enabled ≡ true → (step.works_on (record w.ioc { normal = rest }) p).part.through ≡ true
  normal p rest e =
      let all : All (PostIsRecord w h) (p ∷ rest) = subst (All (PostIsRecord w h)) e f.messages.normal in
      worked (record w.ioc { normal = rest }) p refl refl (All-head (PostIsRecord w h) p rest all) (All-tail (PostIsRecord w h) p rest all) (live_normal w h f p rest e)

  -- ---- news

  by_stays : (k : Ioc) → Stays w h f stand w.ioc k → is_operational (state_of k) ≡ true → k.enabled ≡ true → k.through ≡ true
  by_stays k s l e = s.through ∙ before (sym (ap (λ (d : DoorRegisters). is_operational d.state) s.door) ∙ l) (sym s.enabled ∙ e)

  linked : (b c : Bool) → is_reset (state_of w.ioc) ≡ b → is_operational (state_of (if b && c then record w.ioc { door = linked_up w.ioc.door } else w.ioc)) ≡ true → (if b && c then record w.ioc { door = linked_up w.ioc.door } else w.ioc).enabled ≡ true → (if b && c then record w.ioc { door = linked_up w.ioc.door } else w.ioc).through ≡ true
  linked true true s l e = not_both (is_operational (state_of (record w.ioc { door = linked_up w.ioc.door }))) l (linked_state w.ioc.door s)
  linked true false s l e = before l e
  linked false c s l e = before l e

  news : (x : Back) → is_operational (state_of (adapter.takes_back w.ioc x).part) ≡ true → (adapter.takes_back w.ioc x).part.enabled ≡ true → (adapter.takes_back w.ioc x).part.through ≡ true
  news (back.Linked generation) = linked (is_reset (state_of w.ioc)) (generation == w.ioc.generation) refl
  news (back.Plugged address plug expander phy) = by_stays (adapter.takes_back w.ioc (back.Plugged address plug expander phy)).part (controller.told w h f stand (back.Plugged address plug expander phy) tt)
  news (back.Unplugged address plug expander phy) = by_stays (adapter.takes_back w.ioc (back.Unplugged address plug expander phy)).part (controller.told w h f stand (back.Unplugged address plug expander phy) tt)
  news (back.Result tag r) = by_stays (adapter.takes_back w.ioc (back.Result tag r)).part (controller.told w h f stand (back.Result tag r) tt)
  news (back.Gone tag) = by_stays (adapter.takes_back w.ioc (back.Gone tag)).part (controller.told w h f stand (back.Gone tag) tt)
  news (back.Terminated tag) = by_stays (adapter.takes_back w.ioc (back.Terminated tag)).part (controller.told w h f stand (back.Terminated tag) tt)
  news (back.Aborted smid found) = by_stays (adapter.takes_back w.ioc (back.Aborted smid found)).part (controller.told w h f stand (back.Aborted smid found) tt)
  news (back.Cleared smid count) = by_stays (adapter.takes_back w.ioc (back.Cleared smid count)).part (controller.told w h f stand (back.Cleared smid count) tt)
  news back.Discovered = by_stays (adapter.takes_back w.ioc back.Discovered).part (controller.told w h f stand back.Discovered tt)
  news back.Calm = by_stays (adapter.takes_back w.ioc back.Calm).part (controller.told w h f stand back.Calm tt)

  -- ---- every case

  owed : Owes Through w
  owed =
      record {
        host_puts = λ x rest e l q. before l q;
        host_takes = λ queue x rest e s l q. before l q;
        host_told = λ i k l q. before l q;
        host_looks = λ e l q. before l q;
        host_stops = λ e l q. before l q;
        ioc_takes = λ x rest e l q. taken x (adapter.takes_down w.ioc x).part (takes w.ioc f.doorbell.sound.waits f.clock.phase_table.whole x) l q;
        ioc_high = λ p rest e l q. high p rest e q;
        ioc_normal = λ p rest e l q. normal p rest e q;
        ioc_puts_out = λ x rest e l q. before l q;
        ioc_takes_back = λ x rest e l q. news x l q;
        ioc_puts = λ queue y rest x e g l q. before l q;
        fabric_takes = λ x rest e l q. before l q;
        fabric_says = λ x rest e l q. before l q;
        fabric_puts = λ x rest e l q. before l q;
        fabric_runs = λ tag address e l q. before l q;
        plugs = λ address expander phy l q. before l q;
        unplugs = λ address l q. before l q;
        calms = λ l q. before l q;
      }

  pub events_through : NothingIsStrange w → (c : Case) → EventsThrough (happens w c)
  events_through plain c = record { enabled = through; bound = λ g u. by_live g u (is_live (happens w c)) refl }
    where
      through : is_live (happens w c) ≡ true → (happens w c).ioc.enabled ≡ true → (happens w c).ioc.through ≡ true
      through = kept Through w plain owed before c

      clock : Clock (happens w c) (history_after h (entries w c))
      clock = clocks_kept w h c f plain

      by_on : (g : ℕ) → is_unbound (binding_of (happens w c).ioc g) ≡ false → is_live (happens w c) ≡ true → (b : Bool) → (happens w c).fabric.on ≡ b → (happens w c).ioc.through ≡ true
      by_on g u l true o = through l (first_of (happens w c).ioc.enabled _ (asked_when_on (happens w c) clock.fabric_off l o))
      by_on g u l false o = not_both (is_unbound (binding_of (happens w c).ioc g)) (unbound_at (happens w c).ioc g (bare_kept w h f plain c l o)) u

      by_live : (g : ℕ) → is_unbound (binding_of (happens w c).ioc g) ≡ false → (b : Bool) → is_live (happens w c) ≡ b → (happens w c).ioc.through ≡ true
      by_live g u true l = by_on g u l (happens w c).fabric.on refl
      by_live g u false l =
          let z = clock.tables_empty (bare (happens w c) clock.phase_table.whole l) in
          not_both (is_unbound (binding_of (happens w c).ioc g)) (unbound_at (happens w c).ioc g (record { unbound = z.bindings; unawaited = z.waiting })) u
