-- The event that the host takes says steps that the machine allows: a disk that is told lost was ready with a plug that has ended.
use Rattle.std.proofs.Common.{◌≡◌, ℕ, ◌==◌, ◌&&◌, not, Bool, true, false, if◌then◌else◌, List, [], ◌∷◌, ◌++◌, map, filter_map, Option, Some, None, refl, ap, sym, ◌∙◌, subst, arith}
use Rattle.mpi_layout.specs.Rows.{field}
use Rattle.smid_pool.specs.Pool.{least_free}
use Rattle.smid_pool.specs.declared.class.Class.TheVariants as class
use Rattle.removal.specs.Handles.{IsHandle, phase_at}
use Rattle.removal.specs.declared.phase.Phase.{Phase}
use Rattle.removal.specs.declared.phase.Phase.TheVariants as phase
use Rattle.mpt_wire.specs.Handles.Bindings.{Plug}
use Rattle.mpt_wire.specs.Messages.Fields.{Change, changes_in, event_context_in, event_in, smid_in}
use Rattle.mpt_wire.specs.Machine.Causes.{is_resetting}
use Rattle.mpt_wire.specs.Machine.State.{Machine, has_ended}
use Rattle.mpt_wire.specs.Machine.Steps.{Allowed, IsLost, IsRunFrom, Leaves, MayLose, Step, after_all}
use Rattle.mpt_wire.specs.Machine.View.{Seen, departures}
use Rattle.mpt_trace.specs.declared.entry.Entry.{Entry}
use Rattle.mpt_trace.specs.declared.entry.Entry.TheVariants as entry
use Rattle.mpt_trace.specs.declared.item.Up.TheVariants as upward
use Rattle.mpt_rules.specs.declared.binding.Binding.{Binding}
use Rattle.mpt_rules.specs.declared.binding.Binding.TheVariants as binding
use Rattle.mpt_rules.specs.declared.request.Request.TheVariants as request
use Rattle.mpt_rules.specs.declared.said.Said.{Said}
use Rattle.mpt_rules.specs.declared.said.Said.TheVariants as said
use Rattle.mpt_rules.specs.Host.Parts.{Host}
use Rattle.mpt_rules.specs.Host.Posts as asks
use Rattle.mpt_rules.specs.Host.Removal as removal
use Rattle.mpt_rules.specs.Host.Replies.{heard_of, hears_reply_to}
use Rattle.mpt_rules.specs.Ioc.Tables.{binding_of}
use Rattle.mpt_rules.specs.World.Lines.{up_line}
use Rattle.mpt_rules.specs.World.News as news
use Rattle.mpt_rules.specs.World.News.{News, news_by_status, news_in, news_in_change}
use Rattle.mpt_rules.specs.World.State.{World}
use Rattle.mpt_rules.specs.World.Weight.{is_gone_binding}
use Rattle.law_facts.specs.Clock.{in_normal, is_live}
use Rattle.law_facts.specs.Disks.{ReadyFits}
use Rattle.law_facts.specs.Facts.{Facts}
use Rattle.law_facts.specs.Handles.{Goes, IsFreed, Left, Side, There, Turn, phase_of, replayed, side_of_binding, side_of_phase, turn_of, turns_of}
use Rattle.law_facts.specs.History.{History}
use Rattle.law_facts.specs.Messages.{event_like}
use Rattle.law_machine.proofs.Inputs.{seen}
use Rattle.law_machine.proofs.Lane.{Same, taking}
use Rattle.law_machine.proofs.Silent.{Passed}
use Rattle.law_says.proofs.Events.{change_of, changes_are, live, normal}

-- ---- steps that only count a departure

abbrev departs : Bool → List Step
departs b = (if b then Leaves ∷ [] else []) ++ []

departs_run : (m : Machine) (b : Bool) → IsRunFrom m (departs b)
departs_run m true = (tt, tt)
departs_run m false = tt

departs_same : (m : Machine) (b : Bool) → ((after_all m (departs b)).disks ≡ m.disks) × ((after_all m (departs b)).ready ≡ m.ready)
departs_same m true = (refl, refl)
departs_same m false = (refl, refl)

-- ---- a handle that was told gone is gone

none_left : (turn : News) (ts : List Turn) (side : Side) → replayed (Some Left) (turn_of turn ∷ ts) ≡ Some side → side ≡ Left
none_left news.Added ts side e = absurd (cc)
none_left news.NotResponding ts side e = absurd (cc)

stays_left : (handle : ℕ) (items : List Said) (side : Side) → replayed (Some Left) (turns_of 0 handle items) ≡ Some side → side ≡ Left
unfolding turns_of
stays_left handle [] side e = let z : Some Left ≡ Some side = e in cc
stays_left handle (item ∷ items) side e = by_news (news_in handle item) e (λ g. stays_left handle items side g)
  where
    by_news : (ns : List News) → replayed (Some Left) (map turn_of ns ++ turns_of 0 handle items) ≡ Some side → (replayed (Some Left) (turns_of 0 handle items) ≡ Some side → side ≡ Left) → side ≡ Left
    by_news [] e f = f e
    by_news (n ∷ ns) e f = none_left n (map turn_of ns ++ turns_of 0 handle items) side e

gone_side : (b : Binding) → side_of_binding b ≡ Left → is_gone_binding b ≡ true
gone_side binding.Unbound e = absurd (cc)
gone_side (binding.Present a p x y) e = absurd (cc)
gone_side (binding.Gone a) e = refl

module _ (w : World) (h : History) (facts : Facts w h) (d : ℕ) (bytes : List ℕ) (more : List Said) (front : up_line w 0 ≡ said.Framed 0 bytes [] [] ∷ more) where
  -- the turns of the handle begin with its going
  news_is : (handle : ℕ) → changes_in bytes ≡ record { handle = handle; status = 2 } ∷ [] → news_in handle (said.Framed 0 bytes [] []) ≡ news.NotResponding ∷ []
  news_is handle e = ap (filter_map (news_in_change handle)) e ∙ named (handle == handle) (same handle)
    where
      same : (n : ℕ) → (n == n) ≡ true
      same n = grind arith

      named : (b : Bool) → b ≡ true → filter_map (λ (c : Change). if b then Some news.NotResponding else None) (record { handle = handle; status = 2 } ∷ []) ≡ news.NotResponding ∷ []
      named true e = refl
      named false e = absurd (cc)

  turns_begin : (handle : ℕ) → changes_in bytes ≡ record { handle = handle; status = 2 } ∷ [] → turns_of 0 handle (up_line w 0) ≡ Goes ∷ turns_of 0 handle more
  unfolding turns_of
  turns_begin handle e =
      ap (turns_of 0 handle) front
      ∙ ap (λ xs. map turn_of xs ++ turns_of 0 handle more) (news_is handle e)

  module _ (handle a : ℕ) (i : IsHandle handle) (e : changes_in bytes ≡ record { handle = handle; status = 2 } ∷ []) (n : is_resetting w.host.mode ≡ false) (p : phase_of w handle ≡ phase.Ready a) where
    is_normal : in_normal w ≡ true
    is_normal = normal w h facts bytes [] [] more front n

    lives : is_live w ≡ true
    lives = live w h facts bytes [] [] more front n

    gone : is_gone_binding (binding_of w.ioc handle) ≡ true
    gone =
        let l = (facts.handles.each handle i).life is_normal lives in
        let k : replayed (Some There) (turns_of 0 handle (up_line w 0)) ≡ Some (side_of_binding (binding_of w.ioc handle)) = subst (λ q. replayed (Some (side_of_phase q)) (turns_of (Rattle.law_facts.specs.Handles.removal_of q) handle (up_line w 0)) ≡ Some (side_of_binding (binding_of w.ioc handle))) p l in
        let z : replayed (Some Left) (turns_of 0 handle more) ≡ Some (side_of_binding (binding_of w.ioc handle)) = subst (λ ts. replayed (Some There) ts ≡ Some (side_of_binding (binding_of w.ioc handle))) (turns_begin handle e) k in
        gone_side (binding_of w.ioc handle) (stays_left handle more (side_of_binding (binding_of w.ioc handle)) z)

    may_lose : MayLose (h.machine.disks a) (h.machine.ready a)
    may_lose = by_plug (h.serving.bound handle) refl (subst (λ q. ReadyFits h handle q (h.serving.bound handle)) p (facts.disks.ready is_normal handle i))
      where
        by_plug : (o : Option Plug) → h.serving.bound handle ≡ o → ReadyFits h handle (phase.Ready a) o → MayLose (h.machine.disks a) (h.machine.ready a)
        by_plug None b r = absurd r
        by_plug (Some q) b r =
            let z = (facts.notices.plugs handle).ended q lives b gone in
            let y : has_ended (h.machine.disks a) q.number ≡ true = subst (λ x. has_ended (h.machine.disks x) q.number ≡ true) r.0 z in
            subst (MayLose (h.machine.disks a)) (sym r.1) y

  -- what the host tells of it
  lost : (m : Machine) → m.disks ≡ h.machine.disks → m.ready ≡ h.machine.ready → (handle a : ℕ) → IsHandle handle → changes_in bytes ≡ record { handle = handle; status = 2 } ∷ [] → is_resetting w.host.mode ≡ false → phase_of w handle ≡ phase.Ready a → Allowed m (IsLost a)
  lost m x y handle a i e n p = subst (λ f. MayLose (f a) (m.ready a)) (sym x) (subst (λ f. MayLose (h.machine.disks a) (f a)) (sym y) (may_lose handle a i e n p))

  abbrev taken : ℕ → Entry
  taken q = taking q (upward.Reply d (Some bytes) [] [])

  take_steps : (ahead : Option Entry) (c : Change) → smid_in d ≡ 0 → changes_in bytes ≡ c ∷ [] → Rattle.mpt_wire.specs.Machine.View.steps_of h.so_far (taken 0) ahead ≡ departs ((c.status == 2) && h.so_far.announced c.handle && not h.so_far.resetting)
  unfolding departures
  take_steps ahead c z e =
      ap (λ s. if s == 0 then departures h.so_far.resetting h.so_far.announced (changes_in bytes) else Rattle.mpt_wire.specs.Machine.View.let_go h.so_far s ahead) z
      ∙ ap (departures h.so_far.resetting h.so_far.announced) e

  -- it, and one more entry or none
  pass : (b : Bool) (t : List Entry) → Rattle.mpt_wire.specs.Machine.View.steps_of h.so_far (taken 0) (Rattle.mpt_wire.specs.Walks.Ahead.next_own (taken 0) t) ≡ departs b
      → ((g : Seen) → g.machine.disks ≡ h.machine.disks → g.machine.ready ≡ h.machine.ready → Passed g t) → Passed (seen h) (taken 0 ∷ t)
  pass b t e f =
      let s = departs_same h.machine b in
      let g = Rattle.mpt_wire.specs.Machine.View.seen_next (seen h) (taken 0) (Rattle.mpt_wire.specs.Walks.Ahead.next_own (taken 0) t) in (
        subst (IsRunFrom h.machine) (sym e) (departs_run h.machine b),
        f g (ap (λ xs. (after_all h.machine xs).disks) e ∙ s.0) (ap (λ xs. (after_all h.machine xs).ready) e ∙ s.1),
      )

  module _ (k : Host) (same : Same k w.host) (z : smid_in d ≡ 0) where
    acked : Host
    acked = asks.asks_internal k (request.Ack (event_in bytes) (event_context_in bytes))

    phases_acked : (o : Option ℕ) (ev c : ℕ) → (asks.posts_internal_or_waits k (request.Ack ev c) o).phases ≡ k.phases
    phases_acked None ev c = refl
    phases_acked (Some s) ev c = refl

    phases_are : (acked).phases ≡ w.host.phases
    unfolding acked
    phases_are = phases_acked (least_free class.Internal k.pool) (event_in bytes) (event_context_in bytes) ∙ same.phases

    quiet : (c : Change) → changes_in bytes ≡ c ∷ [] → Passed (seen h) (taken 0 ∷ [])
    quiet c e = pass ((c.status == 2) && h.so_far.announced c.handle && not h.so_far.resetting) [] (take_steps None c z e) (λ g x y. tt)

    leaves : (handle : ℕ) → IsHandle handle → changes_in bytes ≡ record { handle = handle; status = 2 } ∷ [] → is_resetting w.host.mode ≡ false → (p : Phase) → phase_of w handle ≡ p
        → Passed (seen h) (taken 0 ∷ ((removal.after_handle_lost acked handle p).entries ++ []))
    leaves handle i e n (phase.Ready a) p =
        let c : Change = record { handle = handle; status = 2 } in
        let t = entry.Lost a handle ∷ [] in
        pass ((c.status == 2) && h.so_far.announced c.handle && not h.so_far.resetting) t (take_steps (Rattle.mpt_wire.specs.Walks.Ahead.next_own (taken 0) t) c z e)
        (λ g x y. ((lost g.machine x y handle a i e n p, tt), tt))
    leaves handle i e n phase.Absent p = quiet _ e
    leaves handle i e n phase.WaitRead p = quiet _ e
    leaves handle i e n (phase.Reading s) p = quiet _ e
    leaves handle i e n phase.WaitHigh p = quiet _ e
    leaves handle i e n (phase.Resetting s) p = quiet _ e
    leaves handle i e n phase.WaitInternal p = quiet _ e
    leaves handle i e n (phase.Removing s) p = quiet _ e

    changed : (added : Bool) → IsHandle (field bytes 0x28 2) → changes_in bytes ≡ change_of bytes added ∷ [] → is_resetting w.host.mode ≡ false
        → Passed (seen h) (taken 0 ∷ (removal.hears_changes acked (changes_in bytes)).entries)
    unfolding removal.hears_changes
    changed true i e n =
        subst (λ cs. Passed (seen h) (taken 0 ∷ (removal.hears_changes acked cs).entries)) (sym e) (by_disk (removal.is_disk_handle (field bytes 0x28 2)))
      where
        by_disk : (b : Bool) → Passed (seen h) (taken 0 ∷ ((if b then removal.quietly (removal.after_handle_added acked (field bytes 0x28 2) (phase_at (acked).phases (field bytes 0x28 2))) else removal.quietly acked).entries ++ []))
        by_disk true = quiet (change_of bytes true) e
        by_disk false = quiet (change_of bytes true) e
    changed false i e n =
        subst (λ cs. Passed (seen h) (taken 0 ∷ (removal.hears_changes acked cs).entries)) (sym e) (by_disk (removal.is_disk_handle (field bytes 0x28 2)))
      where
        by_disk : (b : Bool) → Passed (seen h) (taken 0 ∷ ((if b then removal.after_handle_lost acked (field bytes 0x28 2) (phase_at (acked).phases (field bytes 0x28 2)) else removal.quietly acked).entries ++ []))
        by_disk true = leaves (field bytes 0x28 2) i e n (phase_at (acked).phases (field bytes 0x28 2)) (ap (λ ps. phase_at ps (field bytes 0x28 2)) (sym phases_are))
        by_disk false = quiet (change_of bytes false) e

    pub event_passes : (added : Bool) → IsHandle (field bytes 0x28 2) → bytes ≡ event_like bytes added → Passed (seen h) (taken 0 ∷ (hears_reply_to k (smid_in d) None (heard_of d (Some bytes) [] [])).entries)
    unfolding acked
    event_passes added i e = by_mode (is_resetting k.mode) refl
      where
        by_mode : (b : Bool) → is_resetting k.mode ≡ b → Passed (seen h) (taken 0 ∷ (if b then removal.quietly k else removal.hears_event k bytes).entries)
        by_mode true t = quiet (change_of bytes added) (changes_are bytes added e)
        by_mode false t = changed added i (changes_are bytes added e) (sym (ap is_resetting same.mode) ∙ t)
