-- A ready handle stays bound to the address that is ready.
use Rattle.std.proofs.Common.{◌≡◌, ℕ, zero, suc, ◌-◌, ◌==◌, ◌||◌, ◌⊎◌, inl, inr, Bool, true, false, List, [], ◌∷◌, ◌++◌, get_or, replicate, Option, Some, None, option_map, refl, ap, sym, ◌∙◌, subst, arith}
use Rattle.std.proofs.lemmas.Bool.{eqb-true}
use Rattle.smid_pool.specs.Pool.{Open, least_free}
use Rattle.smid_pool.specs.declared.class.Class.TheVariants as class
use Rattle.mpi_rings.specs.RequestDescriptor.{flags_of}
use Rattle.mpi_rings.specs.declared.request_descriptor.PostKind.TheVariants as post
use Rattle.removal.specs.Handles.{IsHandle, phase_at}
use Rattle.removal.specs.declared.phase.Phase.{Phase}
use Rattle.removal.specs.declared.phase.Phase.TheVariants as phase
use Rattle.mpi_doorbell.specs.DoorRegisters.{is_fault}
use Rattle.mpt_wire.specs.Handles.Bindings.{Plug}
use Rattle.mpt_wire.specs.Handles.Pages.{pages_taken}
use Rattle.mpt_wire.specs.Machine.Causes.{is_resetting, is_up}
use Rattle.mpt_wire.specs.Messages.Fields.{controlled_handle_in, flags_in, kind_by_flags, kind_in, smid_in}
use Rattle.mpt_wire.specs.Walks.Passes.{EachEntry}
use Rattle.mpt_trace.specs.declared.entry.Entry.{Entry}
use Rattle.mpt_trace.specs.declared.entry.Entry.TheVariants as entry
use Rattle.mpt_trace.specs.declared.host_state.HostState.{HostState}
use Rattle.mpt_trace.specs.declared.host_state.HostState.TheVariants as state
use Rattle.mpt_trace.specs.declared.item.Down.{Down}
use Rattle.mpt_trace.specs.declared.item.Down.TheVariants as down
use Rattle.mpt_trace.specs.declared.item.Item.TheVariants as item
use Rattle.mpt_trace.specs.declared.item.Up.{Up}
use Rattle.mpt_trace.specs.declared.item.Up.TheVariants as upward
use Rattle.mpt_trace.specs.declared.lane.LaneName.TheVariants as lane
use Rattle.mpt_rules.specs.declared.binding.Binding.{Binding}
use Rattle.mpt_rules.specs.declared.binding.Binding.TheVariants as binding
use Rattle.mpt_rules.specs.declared.post.Post.{Post}
use Rattle.mpt_rules.specs.declared.request.Request.TheVariants as request
use Rattle.mpt_rules.specs.Host.Parts.{Host}
use Rattle.mpt_rules.specs.Host.Posts as asks
use Rattle.mpt_rules.specs.Host.Removal.{is_absent}
use Rattle.mpt_rules.specs.Host.Replies as replies
use Rattle.mpt_rules.specs.Host.Returns.{after_sent}
use Rattle.mpt_rules.specs.Host.Takes.{hears_up, is_starting, looks, stops}
use Rattle.mpt_rules.specs.Ioc.Back as news
use Rattle.mpt_rules.specs.Ioc.Parts.{Ioc}
use Rattle.mpt_rules.specs.Ioc.Steps as step
use Rattle.mpt_rules.specs.Ioc.Tables.{binding_of}
use Rattle.mpt_rules.specs.Ioc.Takes as adapter
use Rattle.mpt_rules.specs.Law.{NothingIsStrange}
use Rattle.mpt_rules.specs.World.Cases.{Case, entries, happens}
use Rattle.mpt_rules.specs.World.Inputs.{host_told}
use Rattle.mpt_rules.specs.World.Lines.{is_high}
use Rattle.mpt_rules.specs.World.State.{World, up_lane, up_on, with_up}
use Rattle.law_clock.proofs.PhaseKept.{asked_now}
use Rattle.law_doors.proofs.DoorsKept.{resets_heeded}
use Rattle.law_facts.specs.Clock.{Clock, in_normal}
use Rattle.law_facts.specs.Facts.{Facts}
use Rattle.law_facts.specs.Handles.{BindingIs, ReadyIsBound, RecordHasPhase, address_of, is_ready_at, phase_of}
use Rattle.law_facts.specs.History.{History, history_after}
use Rattle.law_facts.specs.Words.{others}
use Rattle.law_flights.proofs.Leaves.{back_leaf}
use Rattle.law_flights.proofs.WorkLeaves.{works_leaf}
use Rattle.law_handles.proofs.HostSays.{told_reply_to}
use Rattle.law_handles.proofs.LifeRemoves.{equal_keys}
use Rattle.law_handles.proofs.Plugged.{front_passes}
use Rattle.law_lights.proofs.ClocksKept.{clocks_kept}
use Rattle.law_lives.proofs.HostDoes as does
use Rattle.law_lives.proofs.HostDoes.{Accepts, AsksAbort, AsksTarget, Begins, GivesUp, HostDoes, IsNoReply, Notifies, Renews, Rests}
use Rattle.law_lives.proofs.Standing.{bindings_stand}
use Rattle.law_messages.proofs.Agreeing.{not_both, same}
use Rattle.law_moves.proofs.CasesTold.{OwesTold, kept_told}
use Rattle.law_moves.proofs.Counted.{others-cons}
use Rattle.law_moves.proofs.IocTakes as leaf
use Rattle.law_moves.proofs.IocTakes.{Takes, takes}
use Rattle.law_moves.proofs.Phases.{and_false}
use Rattle.law_pages.specs.Paged.{ReadyAreBound}
use Rattle.law_pages.proofs.Taken.{bound_at, known_or_bound, reply_normal}
use Rattle.law_removals.proofs.Removed.{removal_frame}
use Rattle.law_removals.proofs.ResetsBound.{Goes, bound_address, freed_apart, heard, its, its_handle, keeps_address, worked}
use Rattle.law_targets.specs.Targets.{OffHostsKnown, PagesKnown}
use Rattle.law_targets.proofs.Heard as trace
use Rattle.law_targets.proofs.Heard.{Dull}
use Rattle.law_targets.proofs.KnownKept.{mode_reply, pages_known}
use Rattle.law_targets.proofs.Views as view

-- ---- small things

absent_at : (n j : ℕ) → get_or (replicate n phase.Absent) j phase.Absent ≡ phase.Absent
absent_at zero j = refl
absent_at (suc n) zero = refl
absent_at (suc n) (suc j) = absent_at n j

all_pass : {X : Type 0} (test : X → Bool) (x : X) → test x ≡ true → (xs : List X) (j : ℕ) → others test xs ≡ 0 → test (get_or xs j x) ≡ true
all_pass test x t [] j z = t
all_pass test x t (y ∷ ys) zero z = front_passes test y ys z
all_pass test x t (y ∷ ys) (suc j) z = let c = others-cons test y ys in all_pass test x t ys j (omega (arith, c, z))

pub ready_named : (a : ℕ) (p : Phase) → is_ready_at a p ≡ true → p ≡ phase.Ready a
ready_named a (phase.Ready b) t = ap phase.Ready (eqb-true b a t)
ready_named a phase.Absent t = absurd (cc)
ready_named a phase.WaitRead t = absurd (cc)
ready_named a (phase.Reading s) t = absurd (cc)
ready_named a phase.WaitHigh t = absurd (cc)
ready_named a (phase.Resetting s) t = absurd (cc)
ready_named a phase.WaitInternal t = absurd (cc)
ready_named a (phase.Removing s) t = absurd (cc)

pub normal_apart : (m : HostState) → (is_starting m || is_up m) ≡ true → is_resetting m ≡ false
normal_apart state.Off t = absurd (cc)
normal_apart state.Starting t = refl
normal_apart state.Up t = refl
normal_apart state.Resetting t = absurd (cc)

notified_phases : (m : Host) → (asks.asks_internal m request.Notification).phases ≡ m.phases
notified_phases m = by_free (least_free class.Internal m.pool)
  where
    by_free : (o : Option ℕ) → (asks.posts_internal_or_waits m request.Notification o).phases ≡ m.phases
    by_free None = refl
    by_free (Some s) = refl

-- the address of a binding is the one to which the rule has its handle bound
pub address_served : (a : ℕ) (b : Binding) (o : Option Plug) → BindingIs b o → address_of b ≡ Some a → option_map (λ (p : Plug). p.address) o ≡ Some a
address_served a binding.Unbound o e z = absurd (cc)
address_served a (binding.Present address plug expander phy) o e z = ap (option_map (λ (p : Plug). p.address)) e ∙ z
address_served a (binding.Gone address) None e z = absurd e
address_served a (binding.Gone address) (Some p) e z = ap Some e ∙ z

ready_bound : (w : World) (h : History) (g : ℕ) (p : Phase) → ((a : ℕ) → p ≡ phase.Ready a → bound_at h g ≡ Some a) → ReadyIsBound w h g p
ready_bound w h g phase.Absent f = tt
ready_bound w h g phase.WaitRead f = tt
ready_bound w h g (phase.Reading s) f = tt
ready_bound w h g (phase.Ready a) f = f a refl
ready_bound w h g phase.WaitHigh f = tt
ready_bound w h g (phase.Resetting s) f = tt
ready_bound w h g phase.WaitInternal f = tt
ready_bound w h g (phase.Removing s) f = tt

module _ (w : World) (h : History) (f : Facts w h) (plain : NothingIsStrange w) (g : ℕ) (i : IsHandle g) where
  abbrev Bound : Ioc → ℕ → Type 0
  Bound j a = address_of (binding_of j g) ≡ Some a

  -- what is owed of the world behind a case, where the rule of pages knows the pages, and the clock goes right
  abbrev OnReady : World → List Entry → Type 0
  OnReady v t = PagesKnown v (history_after h t) → Clock v (history_after h t) → in_normal v ≡ true → (a : ℕ) → phase_of v g ≡ phase.Ready a → Bound v.ioc a

  was : in_normal w ≡ true → (a : ℕ) → phase_of w g ≡ phase.Ready a → Bound w.ioc a
  was n a p = bound_address a (binding_of w.ioc g) (h.serving.bound g) (f.handles.each g i).binds.served (subst (ReadyIsBound w h g) p ((f.handles.each g i).ready n))

  -- ---- whatever the host does but with a reply

  none_ready : {T : Type 0} (a : ℕ) → w.host.mode ≡ state.Off → phase_of w g ≡ phase.Ready a → T
  none_ready a m p = not_both (is_absent (phase_of w g)) (ap is_absent p) (all_pass is_absent phase.Absent refl w.host.phases (g - 0x0009) (f.doorbell.fresh_start.off m).phases)

  by_does : (k : Host) → HostDoes w k → (is_starting k.mode || is_up k.mode) ≡ true → (a : ℕ) → phase_at k.phases g ≡ phase.Ready a → Bound w.ioc a
  by_does k (Rests x) n a p = was (sym (ap (λ m. is_starting m || is_up m) x.mode_is) ∙ n) a (sym (ap (λ ps. phase_at ps g) x.phases_are) ∙ p)
  by_does k (Begins m x) n a p = none_ready a m (sym (ap (λ ps. phase_at ps g) x.phases_are) ∙ p)
  by_does k (GivesUp s m x) n a p = not_both (is_resetting k.mode) (normal_apart k.mode n) (ap is_resetting x.mode_is)
  by_does k (Renews r u x) n a p =
      let z : phase.Absent ≡ phase.Ready a = sym (absent_at 64 (g - 9)) ∙ (sym (ap (λ ps. phase_at ps g) x.phases_are) ∙ p) in absurd (cc)
  by_does k (Notifies m st x e) n a p =
      was (ap (λ y. is_starting y || is_up y) st) a (sym (ap (λ ps. phase_at ps g) (ap (λ (y : Host). y.phases) e ∙ (notified_phases m ∙ x.phases_are))) ∙ p)
  by_does k (Accepts s n2 address handle command u c r free e) n a p = was (sym (ap (λ (x : Host). is_starting x.mode || is_up x.mode) e) ∙ n) a (sym (ap (λ (x : Host). phase_at x.phases g) e) ∙ p)
  by_does k (AsksAbort s n2 cmd u c r free e) n a p = was (sym (ap (λ (x : Host). is_starting x.mode || is_up x.mode) e) ∙ n) a (sym (ap (λ (x : Host). phase_at x.phases g) e) ∙ p)
  by_does k (AsksTarget s address handle u r free e) n a p = was (sym (ap (λ (x : Host). is_starting x.mode || is_up x.mode) e) ∙ n) a (sym (ap (λ (x : Host). phase_at x.phases g) e) ∙ p)

  -- ---- replies

  reply : (queue d : ℕ) (fr : Option (List ℕ)) (page sense : List ℕ) (rest : List Up) → up_on w queue ≡ upward.Reply d fr page sense ∷ rest
      → OnReady (record (with_up w queue rest) { host = (hears_up w.host queue (upward.Reply d fr page sense)).part }) (entry.Take (up_lane queue) (item.Up (upward.Reply d fr page sense)) ∷ (hears_up w.host queue (upward.Reply d fr page sense)).entries)
  reply queue d fr page sense rest front known clock n a p = by_mode (is_resetting w.host.mode) refl
    where
      x : Up
      x = upward.Reply d fr page sense

      h1 : Host
      h1 = replies.takes_entry (replies.with_frame_heard w.host d fr) queue

      told_dull : EachEntry Dull (hears_up w.host queue x).entries
      told_dull = trace.told_dull (hears_up w.host queue x).entries (told_reply_to h1 (smid_in d) (replies.request_of w.host (smid_in d)) (replies.heard_of d fr page sense))

      known_then : pages_taken h.paged.pages x g a ≡ true
      known_then = sym (ap (λ r. r g a) (trace.taken_pages queue x (hears_up w.host queue x).entries h.paged told_dull)) ∙ ((known n g i).1 a ∙ (ap (is_ready_at a) p ∙ same a))

      by_known : (m : is_resetting w.host.mode ≡ false) → (h.paged.pages g a ≡ true) ⊎ (bound_at h g ≡ Some a) → Bound w.ioc a
      by_known m (inl e) = let n0 = reply_normal w h f queue d fr page sense rest front m in was n0 a (ready_named a (phase_of w g) (sym ((f.handles.each g i).known.pages n0 a) ∙ e))
      by_known m (inr e) = bound_address a (binding_of w.ioc g) (h.serving.bound g) (f.handles.each g i).binds.served e

      by_mode : (b : Bool) → is_resetting w.host.mode ≡ b → Bound w.ioc a
      by_mode false m = by_known m (known_or_bound w h f queue d fr page sense rest front m g a known_then)
      by_mode true m =
          let l = view.framed w.host queue d fr in
          let k = mode_reply (replies.takes_entry (replies.with_frame_heard w.host d fr) queue) (smid_in d) (replies.request_of w.host (smid_in d)) (replies.heard_of d fr page sense) (ap is_resetting l.mode ∙ m) in
          not_both (is_resetting (hears_up w.host queue (upward.Reply d fr page sense)).part.mode) (normal_apart (hears_up w.host queue (upward.Reply d fr page sense)).part.mode n) (ap is_resetting k ∙ (ap is_resetting l.mode ∙ m))

  taken : (queue : ℕ) (x : Up) (rest : List Up) → up_on w queue ≡ x ∷ rest → OnReady (record (with_up w queue rest) { host = (hears_up w.host queue x).part }) (entry.Take (up_lane queue) (item.Up x) ∷ (hears_up w.host queue x).entries)
  taken queue (upward.Value v) rest e known clock = by_does _ (does.takes w h f plain queue (upward.Value v) rest e tt)
  taken queue (upward.Mark v) rest e known clock = by_does _ (does.takes w h f plain queue (upward.Mark v) rest e tt)
  taken queue upward.Calm rest e known clock = by_does _ (does.takes w h f plain queue upward.Calm rest e tt)
  taken queue (upward.Reply d fr page sense) rest e known clock = reply queue d fr page sense rest e known clock

  sends : (x : Down) (rest : List Down) (t : List Entry) → OnReady (record w { host = after_sent w.host x rest; down = w.down ++ x ∷ [] }) t
  sends (down.Return address index) rest t known clock = was
  sends (down.Write reg value) rest t known clock = was
  sends (down.Read reg) rest t known clock = was
  sends (down.Post d fr p) rest t known clock = was
  sends down.Stop rest t known clock = was

  -- ---- the controller

  -- a binding that isn't freed
  goes_on : (j : Ioc) → Goes (binding_of w.ioc g) (binding_of j g) → in_normal w ≡ true → (a : ℕ) → phase_of w g ≡ phase.Ready a → Bound j a
  goes_on j q n a p = keeps_address (binding_of w.ioc g) (binding_of j g) q a (was n a p)

  stays : (j : Ioc) → binding_of j g ≡ binding_of w.ioc g → in_normal w ≡ true → (a : ℕ) → phase_of w g ≡ phase.Ready a → Bound j a
  stays j e n a p = ap address_of e ∙ was n a p

  normal_worked : (p0 : Post) (rest : List Post) → w.ioc.normal ≡ p0 ∷ rest → in_normal w ≡ true → (a : ℕ) → phase_of w g ≡ phase.Ready a → Bound (step.works_on (record w.ioc { normal = rest }) p0).part a
  normal_worked p0 rest front n a p =
      goes_on (step.works_on (record w.ioc { normal = rest }) p0).part (worked g (record w.ioc { normal = rest }) f.flights.sizes.bindings p0 _ (works_leaf (record w.ioc { normal = rest }) p0) (λ k u. by_key k u (g == controlled_handle_in p0.frame) refl)) n a p
    where
      by_key : (k : kind_in p0.descriptor ≡ Some post.Default) (u : Rattle.mpt_messages.specs.Function.function_of (Rattle.mpt_wire.specs.Messages.Fields.function_in p0.frame) ≡ Some Rattle.mpt_messages.specs.declared.function.Function.TheVariants.UnitControl)
          → (b : Bool) → (g == controlled_handle_in p0.frame) ≡ b → Goes (binding_of w.ioc g) (binding_of (Rattle.mpt_rules.specs.Ioc.Requests.removes (record w.ioc { normal = rest }) p0).part g)
      by_key k u false t = freed_apart w h f plain p0 rest front g (k, u) t
      by_key k u true t =
          let x = its w h f plain p0 rest front (k, u) in
          let e = (removal_frame x.0 p0.frame (its_handle w h f plain p0 rest front (k, u)) x.2).1 in
          let r : RecordHasPhase w (smid_in p0.descriptor) (Open (request.Remove x.0)) = subst (RecordHasPhase w (smid_in p0.descriptor)) x.1 (f.handles.records n (smid_in p0.descriptor)) in
          let z : phase.Removing (smid_in p0.descriptor) ≡ phase.Ready a = sym r.1 ∙ (ap (phase_of w) (sym (eqb-true g (controlled_handle_in p0.frame) t ∙ e)) ∙ p) in
          absurd (cc)

  high_worked : (p0 : Post) (rest : List Post) → w.ioc.high ≡ p0 ∷ rest → Goes (binding_of w.ioc g) (binding_of (step.works_on (record w.ioc { high = rest }) p0).part g)
  high_worked p0 rest e = worked g (record w.ioc { high = rest }) f.flights.sizes.bindings p0 _ (works_leaf (record w.ioc { high = rest }) p0) (λ k u. not_high k)
    where
      not_high : kind_in p0.descriptor ≡ Some post.Default → Goes (binding_of w.ioc g) (binding_of (Rattle.mpt_rules.specs.Ioc.Requests.removes (record w.ioc { high = rest }) p0).part g)
      not_high k =
          let z = front_passes (λ (x : Post). is_high x.descriptor) p0 rest (sym (ap (others (λ (x : Post). is_high x.descriptor)) e) ∙ f.flights.sorted.high) in
          let flags : flags_in p0.descriptor ≡ flags_of post.HighPriority = equal_keys (flags_in p0.descriptor) (flags_of post.HighPriority) z in
          let v = ap kind_by_flags flags in
          absurd (cc)

  item_taken : (x : Down) (rest : List Down) → w.down ≡ x ∷ rest → (j : Ioc) → Takes w.ioc x j → is_fault j.door.state ≡ false → in_normal w ≡ true → (a : ℕ) → phase_of w g ≡ phase.Ready a → Bound j a
  item_taken x rest e j (leaf.Faults y m t) c = not_both (is_fault j.door.state) c t
  item_taken x rest e j (leaf.Written reg value m r s t) c = stays j (ap (λ (y : Ioc). binding_of y g) t)
  item_taken x rest e j (leaf.Operates value m r s t u) c = stays j (ap (λ (y : Ioc). binding_of y g) u)
  item_taken x rest e j (leaf.Forgets reg value d t) c = λ n a p.
      let z = and_false _ _ (asked_now w h (record { facts = f; plain = plain; heeded = resets_heeded w h f }) x rest e t) in
      not_both (is_resetting w.host.mode) (normal_apart w.host.mode n) (and_false _ _ z.0).0
  item_taken x rest e j (leaf.Reads reg value) c = was
  item_taken x rest e j (leaf.Posts d fr p m s t) c = stays j (ap (λ (y : Ioc). binding_of y g) t)
  item_taken x rest e j (leaf.DropsPost d fr p t) c = was
  item_taken x rest e j (leaf.Returns b y m s t) c = stays j (ap (λ (z : Ioc). binding_of z g) t)
  item_taken x rest e j (leaf.DropsReturn b y t) c = was
  item_taken x rest e j leaf.Stops c = was

  owes : OwesTold OnReady w
  owes =
      record {
        idles = λ c known clock. was;
        host_puts = λ x rest e. sends x rest (entry.Put lane.Down (item.Down x) ∷ []);
        host_takes = λ queue x rest e y. taken queue x rest e;
        host_told = λ j c known clock. by_does (host_told w.host j).part (does.told w j);
        host_looks = λ e known clock. by_does (looks w.host) (does.looks w);
        host_stops = λ e known clock. by_does (stops w.host) (does.stops w);
        no_session = λ known clock. was;
        ioc_takes = λ x rest e known clock. item_taken x rest e (adapter.takes_down w.ioc x).part (takes w.ioc f.doorbell.sound.waits f.clock.phase_table.whole x) clock.phase_table.whole;
        ioc_high = λ p rest e known clock. goes_on (step.works_on (record w.ioc { high = rest }) p).part (high_worked p rest e);
        ioc_normal = λ p rest e known clock. normal_worked p rest e;
        ioc_puts_out = λ x rest e known clock. was;
        ioc_takes_back = λ x rest e known clock. goes_on (adapter.takes_back w.ioc x).part (heard g w.ioc f.flights.sizes.bindings x (news.takes_back w.ioc x) (back_leaf w.ioc x));
        ioc_puts = λ queue y rest z e u known clock. was;
        fabric_takes = λ x rest e known clock. was;
        fabric_says = λ x rest e known clock. was;
        fabric_puts = λ x rest e known clock. was;
        fabric_runs = λ tag address e known clock. was;
        plugs = λ address expander phy t p known clock. was;
        unplugs = λ address t p known clock. was;
        calms = λ known clock. was;
      }

  ready_address : (c : Case) → OnReady (happens w c) (entries w c)
  ready_address c = kept_told OnReady w plain owes c

pub ready_kept : (w : World) (h : History) (c : Case) → Facts w h → NothingIsStrange w → OffHostsKnown w h → ReadyAreBound (happens w c) (history_after h (entries w c))
ready_kept w h c f plain off g i n =
    ready_bound (happens w c) (history_after h (entries w c)) g (phase_of (happens w c) g) (λ a p.
    address_served a (binding_of (happens w c).ioc g) ((history_after h (entries w c)).serving.bound g) ((bindings_stand w h c f).served g i)
    (ready_address w h f plain g i c (pages_known w h f plain off c) (clocks_kept w h c f plain) n a p))
