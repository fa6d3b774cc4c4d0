-- The rule of leaving handles knows how far the host is with each, in every case.
use Rattle.std.proofs.Common.{◌≡◌, ℕ, zero, suc, ◌+◌, ◌-◌, ◌<◌, ◌≤◌, ◌==◌, ◌||◌, ◌⊎◌, inl, inr, cond, not, Bool, true, false, if◌then◌else◌, List, [], ◌∷◌, ◌++◌, get_or, length, map, replicate, set, sum_by, unwrap_or, Option, Some, None, option_map, refl, ap, sym, ◌∙◌, subst, arith}
use Rattle.std.specs.Prelude.{All}
use Rattle.std.specs.List.{flat_map}
use Rattle.std.proofs.lemmas.Bool.{eqb-true}
use Rattle.std.proofs.lemmas.List.Concat.{flat_map-cons}
use Rattle.std.proofs.lemmas.List.Elements.{All-head}
use Rattle.smid_pool.specs.Pool.{Free, Open, Parked, Slot, is_open, record_of}
use Rattle.removal.specs.Handles.{IsHandle, phase_at, with_phase}
use Rattle.removal.specs.declared.phase.Phase.{Phase}
use Rattle.removal.specs.declared.phase.Phase.TheVariants as phase
use Rattle.mpi_layout.specs.Rows.{field}
use Rattle.mpt_wire.specs.Handles.Leaving.{Added, Answered, Leaving, TakesReply, after_answer, after_put, leaving_after, leaving_after_all, leaving_next, names_handle, told_by, told_by_status}
use Rattle.mpt_wire.specs.Handles.Leaving as rule
use Rattle.mpt_wire.specs.Handles.Names.{changes_told, reset_posted}
use Rattle.mpt_wire.specs.Machine.Causes.{is_resetting, is_up}
use Rattle.mpt_wire.specs.Messages.Fields.{changes_in, event_context_in, event_in, smid_in}
use Rattle.mpt_wire.specs.Walks.Passes.{state_after}
use Rattle.mpt_trace.specs.declared.entry.Entry.{Entry}
use Rattle.mpt_trace.specs.declared.entry.Entry.TheVariants as entry
use Rattle.mpt_trace.specs.declared.host_state.HostState.{HostState}
use Rattle.mpt_trace.specs.declared.host_state.HostState.TheVariants as state
use Rattle.mpt_trace.specs.declared.item.Down.{Down}
use Rattle.mpt_trace.specs.declared.item.Down.TheVariants as down
use Rattle.mpt_trace.specs.declared.item.Item.TheVariants as item
use Rattle.mpt_trace.specs.declared.item.Up.{Up}
use Rattle.mpt_trace.specs.declared.item.Up.TheVariants as upward
use Rattle.mpt_trace.specs.declared.lane.LaneName.TheVariants as lane
use Rattle.mpt_rules.specs.declared.post.Post.{Post}
use Rattle.mpt_rules.specs.declared.request.Request.{Request}
use Rattle.mpt_rules.specs.declared.request.Request.TheVariants as request
use Rattle.mpt_rules.specs.declared.said.Said.TheVariants as said
use Rattle.mpt_rules.specs.declared.why.Why.TheVariants as why
use Rattle.mpt_rules.specs.Host.Parts.{Host}
use Rattle.mpt_rules.specs.Host.Posts as asks
use Rattle.mpt_rules.specs.Host.Removal as removal
use Rattle.mpt_rules.specs.Host.Replies as replies
use Rattle.mpt_rules.specs.Host.Returns.{after_sent}
use Rattle.mpt_rules.specs.Host.Strange as strange
use Rattle.mpt_rules.specs.Host.Strange.{why_strange}
use Rattle.mpt_rules.specs.Host.Takes.{hears_up, is_starting, looks, stops}
use Rattle.mpt_rules.specs.Ioc.Replies.{outbox_of}
use Rattle.mpt_rules.specs.Ioc.Places.{is_reply_of}
use Rattle.mpt_rules.specs.Ioc.Steps as step
use Rattle.mpt_rules.specs.Ioc.Takes as adapter
use Rattle.mpt_rules.specs.Law.{NothingIsStrange}
use Rattle.mpt_rules.specs.World.Cases.{Case, entries, happens}
use Rattle.mpt_rules.specs.World.Counts.{one_if, post_count}
use Rattle.mpt_rules.specs.World.Inputs.{host_told}
use Rattle.mpt_rules.specs.World.Lines.{said_of, said_reply, up_line}
use Rattle.mpt_rules.specs.World.PlaceCounts.{replies_on, smid_count}
use Rattle.mpt_rules.specs.World.State.{World, up_lane, up_on, with_up}
use Rattle.mpt_rules.proofs.Counts.{post_count-cons}
use Rattle.law_facts.specs.Clock.{in_normal}
use Rattle.law_facts.specs.Facts.{Facts}
use Rattle.law_facts.specs.Handles.{IsWaiting, LeavingIs, PhaseIsOpen, is_announced, phase_of}
use Rattle.law_facts.specs.History.{History, history_after}
use Rattle.law_facts.specs.Messages.{AnswersBy, SaidIs, event_like}
use Rattle.law_facts.specs.Words.{is_calm_said, is_off, others, slot}
use Rattle.law_flights.proofs.HostHolds.{in_table}
use Rattle.law_flights.proofs.HostTold.{told_input, told_reply_to}
use Rattle.law_flights.proofs.IocTold.{told_back, told_down, told_high, told_normal}
use Rattle.law_handles.proofs.Phased.{phase_at-with}
use Rattle.law_lives.specs.Standing.{PhasesStand}
use Rattle.law_lives.proofs.Standing.{phases_stand}
use Rattle.law_messages.proofs.Agreeing.{same, turned_false, turned_true}
use Rattle.law_moves.proofs.CasesTold.{OwesTold, kept_told}
use Rattle.law_moves.proofs.Counted.{others-cons}
use Rattle.law_moves.proofs.HostGoes.{none_of_or}
use Rattle.law_places.specs.Further.{VectorsFit}
use Rattle.law_places.proofs.Kept.{places_kept}
use Rattle.law_removals.proofs.Removed.{record_fits}
use Rattle.law_targets.proofs.Heard.{changes_are}
use Rattle.law_targets.proofs.KnownKept.{mode_reply}
use Rattle.law_targets.proofs.Views as view
use Rattle.law_targets.proofs.Views.{Hears, Like, Over, Stays}
use Rattle.law_leaving.specs.Leaving.{LeavingsKnown}
use Rattle.law_leaving.proofs.Held.{fewer_replies, none_posted, once_posted, reply_there, still_posted}
use Rattle.law_leaving.proofs.News.{plug_told, put_next, reset_named, told_leaving}
use Rattle.law_leaving.proofs.Passed.{out_record, which_mode}
use Rattle.law_leaving.proofs.Steps.{added_known, after_gone_has, answer_known, answer_own, came_known, gone_known, moved_known, put_known}
use Rattle.law_leaving.proofs.Tracks.{AfterGone, NamesDisk, Tracks, adds, answer, begun_with, loses, unchanged}

-- ---- small things

at_absent : (phases : List Phase) (j : ℕ) → others removal.is_absent phases ≡ 0 → get_or phases j phase.Absent ≡ phase.Absent
unfolding others
at_absent [] j z = refl
at_absent (p ∷ ps) j z = by_place j p z (λ k e. at_absent ps k e)
  where
    by_place : (j : ℕ) (p : Phase) → (if removal.is_absent p then 0 else 1) + others removal.is_absent ps ≡ 0 → ((k : ℕ) → others removal.is_absent ps ≡ 0 → get_or ps k phase.Absent ≡ phase.Absent) → get_or (p ∷ ps) j phase.Absent ≡ phase.Absent
    by_place zero phase.Absent z f = refl
    by_place (suc j) phase.Absent z f = f j (omega (arith, z))
    by_place j phase.WaitRead z f = absurd (omega (arith, z))
    by_place j (phase.Reading s) z f = absurd (omega (arith, z))
    by_place j (phase.Ready a) z f = absurd (omega (arith, z))
    by_place j phase.WaitHigh z f = absurd (omega (arith, z))
    by_place j (phase.Resetting s) z f = absurd (omega (arith, z))
    by_place j phase.WaitInternal z f = absurd (omega (arith, z))
    by_place j (phase.Removing s) z f = absurd (omega (arith, z))

none_there : (n j : ℕ) → get_or (replicate n phase.Absent) j phase.Absent ≡ phase.Absent
none_there zero j = refl
none_there (suc n) zero = refl
none_there (suc n) (suc j) = none_there n j

no_slot : {X : Type 0} (h : Host) (s : ℕ) (r : Request) → s ≡ 0 → slot h s ≡ Open r → X
no_slot h zero r z e = absurd (cc)
no_slot h (suc s) r z e = absurd (omega (arith, z))

off_mode : (m : HostState) → is_off m ≡ true → m ≡ state.Off
off_mode state.Off e = refl
off_mode state.Starting e = absurd (cc)
off_mode state.Up e = absurd (cc)
off_mode state.Resetting e = absurd (cc)

normal_mode : (m : HostState) → (is_starting m || is_up m) ≡ true → is_resetting m ≡ false
normal_mode state.Off e = refl
normal_mode state.Starting e = refl
normal_mode state.Up e = refl
normal_mode state.Resetting e = absurd (cc)

clash : {X : Type 0} (b : Bool) → b ≡ true → b ≡ false → X
clash true x y = absurd (cc)
clash false x y = absurd (cc)

disk_tests : (n : ℕ) → IsHandle n → removal.is_disk_handle n ≡ true
disk_tests n i = let a = i.0 in let b = i.1 in grind (arith, a, b)

above : (n : ℕ) → 1 ≤ n → (n == 0) ≡ false
above n l = grind (arith, l)

low_smid : (d : ℕ) → smid_in d < 65536
low_smid d = omega arith

abbrev status_of : Bool → ℕ
status_of added = if added then 1 else 2

-- what is known of the world behind a case
pub record Behind (v : World) : Type 0 where
  pub phases : PhasesStand v
  pub table : length v.host.pool ≡ 280
  pub placed : (s : ℕ) → 1 ≤ s → s ≤ 280 → is_resetting v.host.mode ≡ false → smid_count v s ≡ 1

pub behind_case : (w : World) (h : History) (c : Case) → Facts w h → NothingIsStrange w → VectorsFit w → Behind (happens w c)
behind_case w h c f plain vectors =
    let p = places_kept w h f plain vectors c in
    record { phases = phases_stand w h c f; table = p.sizes.pool; placed = λ s i j m. (p.identifiers s i j).found m }

module _ (w : World) (h : History) (f : Facts w h) (plain : NothingIsStrange w) (g : ℕ) (i : IsHandle g) where
  abbrev L : Leaving
  L = h.leaving g

  abbrev Knows : World → Leaving → Type 0
  Knows v l = in_normal v ≡ true → LeavingIs v l (phase_of v g)

  OnKnown : World → List Entry → Type 0
  OnKnown v t = Behind v → Knows v (state_after (leaving_next g) (h.leaving g) t)

  before : in_normal w ≡ true → LeavingIs w (h.leaving g) (phase_of w g)
  before n = (f.handles.each g i).known.leaving n

  in_range : (v : World) → length v.host.pool ≡ 280 → (s : ℕ) (r : Request) → slot v.host s ≡ Open r → (1 ≤ s) × (s ≤ 280)
  in_range v n s r e = let x = in_table v.host.pool s (Open r) e (λ z. absurd (cc)) in (x.0, omega (arith, x, n))

  at_most : (s : ℕ) → (1 ≤ s) × (s ≤ 280) → smid_count w s ≤ 1
  at_most s r = (f.flights.identifiers s r.0 r.1).at_most

  -- the request of a phase is open
  opened : (v : World) → PhasesStand v → in_normal v ≡ true → (s : ℕ) → phase_of v g ≡ phase.Resetting s → slot v.host s ≡ Open (request.Leave g)
  opened v p n s q = subst (PhaseIsOpen v g) q (p.phases g i n).open_request

  opened_before : in_normal w ≡ true → (s : ℕ) → phase_of w g ≡ phase.Resetting s → slot w.host s ≡ Open (request.Leave g)
  opened_before n s q = subst (PhaseIsOpen w g) q ((f.handles.each g i).records n).open_request

  -- ---- the host stays

  still : (v : World) (t : List Entry) → state_after (leaving_next g) (h.leaving g) t ≡ h.leaving g → v.host ≡ w.host → OnKnown v t
  unfolding OnKnown
  still v t z e b n =
      let m : in_normal w ≡ true = ap (λ (x : Host). is_starting x.mode || is_up x.mode) (sym e) ∙ n in
      subst (λ l. LeavingIs v l (phase_of v g)) (sym z)
      (subst (λ (x : Host). LeavingIs v (h.leaving g) (phase_at x.phases g)) (sym e) (moved_known w v (h.leaving g) (phase_of w g) (λ s q y. ap (λ (x : Host). post_count s x.out) e ∙ y) (before m)))

  -- ---- another host with the same phases, that lost no post

  module _ (up : List (List Up)) (k : Host) where
    abbrev v1 : World
    v1 = record w { up = up; host = k }

    -- a post of the outbox that is there still
    kept_post : Behind (record w { up = up; host = k }) → in_normal (record w { up = up; host = k }) ≡ true → ((s : ℕ) → sum_by (replies_on s) up ≤ sum_by (replies_on s) w.up)
        → (s : ℕ) → phase_at k.phases g ≡ phase.Resetting s → post_count s w.host.out ≡ 1 → post_count s k.out ≡ 1
    kept_post b n l s q y =
        let o = opened (record w { up = up; host = k }) b.phases n s q in
        let r = in_range (record w { up = up; host = k }) b.table s (request.Leave g) o in
        still_posted w s up k (request.Leave g) o (b.placed s r.0 r.1 (normal_mode k.mode n)) (at_most s r) (l s) y

    once : Behind (record w { up = up; host = k }) → in_normal (record w { up = up; host = k }) ≡ true → (s : ℕ) → phase_at k.phases g ≡ phase.Resetting s → post_count s k.out ≤ 1
    once b n s q =
        let o = opened (record w { up = up; host = k }) b.phases n s q in
        let r = in_range (record w { up = up; host = k }) b.table s (request.Leave g) o in
        let z = b.placed s r.0 r.1 (normal_mode k.mode n) in
        once_posted (record w { up = up; host = k }) s (omega (arith, z))

    calm : (t : List Entry) → k.phases ≡ w.host.phases → (is_resetting k.mode ≡ false → is_resetting w.host.mode ≡ false) → ((s : ℕ) → sum_by (replies_on s) up ≤ sum_by (replies_on s) w.up)
        → state_after (leaving_next g) (h.leaving g) t ≡ h.leaving g → OnKnown (record w { up = up; host = k }) t
    unfolding OnKnown
    calm t p m l z b n = subst (λ x. LeavingIs (record w { up = up; host = k }) x (phase_at k.phases g)) (sym z) (by_mode (which_mode w.host.mode))
      where
        by_mode : ((is_off w.host.mode ≡ true) ⊎ (is_resetting w.host.mode ≡ true)) ⊎ ((is_starting w.host.mode || is_up w.host.mode) ≡ true) → LeavingIs (record w { up = up; host = k }) (h.leaving g) (phase_at k.phases g)
        by_mode (inr x) =
            subst (λ y. LeavingIs (record w { up = up; host = k }) (h.leaving g) (phase_at y g)) (sym p)
            (moved_known w (record w { up = up; host = k }) (h.leaving g) (phase_of w g) (λ s q y. kept_post b n l s (ap (λ y. phase_at y g) p ∙ q) y) (before x))
        by_mode (inl (inr x)) = clash (is_resetting w.host.mode) x (m (normal_mode k.mode n))
        by_mode (inl (inl x)) =
            let o : phase_at k.phases g ≡ phase.Absent = ap (λ y. phase_at y g) p ∙ at_absent w.host.phases (g - 9) (f.doorbell.fresh_start.off (off_mode w.host.mode x)).phases in
            subst (LeavingIs (record w { up = up; host = k }) (h.leaving g)) (sym o) tt

    renewed : (t : List Entry) → k.phases ≡ Rattle.removal.specs.Handles.all_absent → OnKnown (record w { up = up; host = k }) t
    unfolding OnKnown
    renewed t p b n =
        let o : phase_at k.phases g ≡ phase.Absent = ap (λ y. phase_at y g) p ∙ none_there 64 (g - 9) in
        subst (LeavingIs (record w { up = up; host = k }) (state_after (leaving_next g) (h.leaving g) t)) (sym o) tt

  -- ---- the host puts an item

  put : (x : Down) (rest : List Down) → w.host.out ≡ x ∷ rest → OnKnown (record w { host = after_sent w.host x rest; down = w.down ++ x ∷ [] }) (entry.Put lane.Down (item.Down x) ∷ [])
  unfolding OnKnown
  put (down.Post d fr p) rest e b n =
      let q : Post = record { descriptor = d; frame = fr; payload = p } in
      let r = out_record w h f d fr p rest e in
      let a = put_next g (h.leaving g) d fr p in
      subst (λ l. LeavingIs (record w { host = record w.host { out = rest }; down = w.down ++ down.Post d fr p ∷ [] }) l (phase_of w g)) (sym a)
      (put_known w (record w { host = record w.host { out = rest }; down = w.down ++ down.Post d fr p ∷ [] }) (h.leaving g) (smid_in d) (names_handle g (reset_posted (down.Post d fr p))) (phase_of w g) (before n)
      (λ s y t. (let c = ap (post_count s) e in let z = post_count-cons s (down.Post d fr p) rest in let u = ap one_if (flipped s t) in omega (arith, c, z, u)))
      (λ s y z. reset_named w h f (record { descriptor = d; frame = fr; payload = p }) r g (subst (λ j. slot w.host j ≡ Open (request.Leave g)) z (opened_before n s y))))
    where
      flipped : (s : ℕ) → (s == smid_in d) ≡ false → (smid_in d == s) ≡ false
      flipped s t = turned_false s (smid_in d) t
  put (down.Write reg value) rest e b n = moved_known w (record w { host = record w.host { out = rest }; down = w.down ++ down.Write reg value ∷ [] }) (h.leaving g) (phase_of w g) (λ s q y. (let c = ap (post_count s) e in let z = post_count-cons s (down.Write reg value) rest in omega (arith, c, z, y))) (before n)
  put (down.Read reg) rest e b n = moved_known w (record w { host = record w.host { out = rest }; down = w.down ++ down.Read reg ∷ [] }) (h.leaving g) (phase_of w g) (λ s q y. (let c = ap (post_count s) e in let z = post_count-cons s (down.Read reg) rest in omega (arith, c, z, y))) (before n)
  put (down.Return address index) rest e b n =
      moved_known w (record w { host = after_sent w.host (down.Return address index) rest; down = w.down ++ down.Return address index ∷ [] }) (h.leaving g) (phase_of w g)
      (λ s q y. (let c = ap (post_count s) e in let z = post_count-cons s (down.Return address index) rest in omega (arith, c, z, y))) (before n)
  put down.Stop rest e b n = moved_known w (record w { host = record w.host { out = rest }; down = w.down ++ down.Stop ∷ [] }) (h.leaving g) (phase_of w g) (λ s q y. (let c = ap (post_count s) e in let z = post_count-cons s down.Stop rest in omega (arith, c, z, y))) (before n)

  -- ---- the host takes an item that is no reply

  silent : (queue : ℕ) (x : Up) (rest : List Up) → up_on w queue ≡ x ∷ rest → leaving_next g (h.leaving g) (entry.Take (up_lane queue) (item.Up x)) ≡ h.leaving g → Hears w.host (hears_up w.host queue x)
      → OnKnown (record (with_up w queue rest) { host = (hears_up w.host queue x).part }) (entry.Take (up_lane queue) (item.Up x) ∷ (hears_up w.host queue x).entries)
  silent queue x rest e z (Stays k t) =
      calm (set w.up queue rest) (hears_up w.host queue x).part (entry.Take (up_lane queue) (item.Up x) ∷ (hears_up w.host queue x).entries) k.phases (λ m. ap is_resetting (sym k.mode) ∙ m)
      (λ s. fewer_replies s w.up queue x rest e) (ap (state_after (leaving_next g) (leaving_next g (h.leaving g) (entry.Take (up_lane queue) (item.Up x)))) t ∙ z)
  silent queue x rest e z (Over j p t) = renewed (set w.up queue rest) (hears_up w.host queue x).part (entry.Take (up_lane queue) (item.Up x) ∷ (hears_up w.host queue x).entries) p

  -- ---- a reply

  module _ (queue d : ℕ) (fr : Option (List ℕ)) (page sense : List ℕ) (rest : List Up) (front : up_on w queue ≡ upward.Reply d fr page sense ∷ rest) (known_why : why_strange w.host queue (upward.Reply d fr page sense) ≡ None) (m : is_resetting w.host.mode ≡ false) where
    abbrev x : Up
    x = upward.Reply d fr page sense

    abbrev h1 : Host
    h1 = replies.takes_entry (replies.with_frame_heard w.host d fr) queue

    abbrev hv : replies.Heard
    hv = replies.heard_of d fr page sense

    like : Like h1 w.host
    like = view.framed w.host queue d fr

    mode1 : is_resetting h1.mode ≡ false
    mode1 = ap is_resetting like.mode ∙ m

    line_is : up_line w queue ≡ said_reply (smid_in d) fr page sense ∷ (map said_of rest ++ outbox_of w.ioc queue)
    line_is = ap (λ ys. map said_of ys ++ outbox_of w.ioc queue) front

    said_is : SaidIs w h queue (said_reply (smid_in d) fr page sense)
    said_is = All-head (SaidIs w h queue) (said_reply (smid_in d) fr page sense) (map said_of rest ++ outbox_of w.ioc queue) (subst (All (SaidIs w h queue)) line_is (f.messages.said queue))

    -- the host starts or is up
    normal : in_normal w ≡ true
    normal = by_mode (which_mode w.host.mode)
      where
        calm_not : (o : Option (List ℕ)) → one_if (not (is_calm_said (said_reply (smid_in d) o page sense))) ≡ 1
        calm_not None = refl
        calm_not (Some y) = refl

        by_mode : ((is_off w.host.mode ≡ true) ⊎ (is_resetting w.host.mode ≡ true)) ⊎ ((is_starting w.host.mode || is_up w.host.mode) ≡ true) → in_normal w ≡ true
        by_mode (inr e) = e
        by_mode (inl (inr e)) = clash (is_resetting w.host.mode) e m
        by_mode (inl (inl e)) =
            let z = (f.clock.phase_table.off e).up queue in
            let a = ap (others is_calm_said) line_is in
            let c = others-cons is_calm_said (said_reply (smid_in d) fr page sense) (map said_of rest ++ outbox_of w.ioc queue) in
            let o = calm_not fr in
            absurd (omega (arith, z, a, c, o))

    abbrev after : Option Request → World
    after o = record (with_up w queue rest) { host = (replies.hears_reply_to h1 (smid_in d) o hv).part }

    abbrev told : Option Request → List Entry
    told o = (replies.hears_reply_to h1 (smid_in d) o hv).entries

    abbrev Knows1 : Option Request → Type 0
    Knows1 o = Behind (after o) → Knows (after o) (state_after (leaving_next g) (h.leaving g) (entry.Take (up_lane queue) (item.Up x) ∷ told o))

    -- what is known by the item itself
    abbrev heard : Leaving
    heard = leaving_next g (h.leaving g) (entry.Take (up_lane queue) (item.Up x))

    from : (o : Option Request) → (Behind (after o) → Knows (after o) (leaving_next g (h.leaving g) (entry.Take (up_lane queue) (item.Up x)))) → Knows1 o
    from o k b n = subst (λ l. LeavingIs (after o) l (phase_of (after o) g)) (sym (told_leaving g (leaving_next g (h.leaving g) (entry.Take (up_lane queue) (item.Up x))) (told o) (told_reply_to h1 (smid_in d) o hv))) (k b n)

    fewer : (s : ℕ) → sum_by (replies_on s) (set w.up queue rest) ≤ sum_by (replies_on s) w.up
    fewer s = fewer_replies s w.up queue x rest front

    -- a phase that came from one of which it is known
    came : (o : Option Request) (hand : ℕ) (ps : List Phase) (l : Leaving) → Tracks hand ps (after o).host.phases (after o).host.out → LeavingIs w l (phase_at ps g) → (phase_at ps g ≡ phase.Resetting hand → l ≡ Answered) → Behind (after o) → Knows (after o) l
    came o hand ps l t k d b n =
        came_known w (after o) hand l (phase_at ps g) (phase_of (after o) g) k (t.from g i) d
        (λ s q. once (set w.up queue rest) (after o).host b n s q) (λ s q y. kept_post (set w.up queue rest) (after o).host b n fewer s q y)

    -- ---- with an identifier

    no_changes : (o : Option (List ℕ)) → (smid_in d == 0) ≡ false → changes_told (upward.Reply d o page sense) ≡ []
    no_changes None e = refl
    no_changes (Some y) e = ap (λ b. if b then changes_in y else []) e

    by_answer : (smid_in d == 0) ≡ false → leaving_next g (h.leaving g) (entry.Take (up_lane queue) (item.Up x)) ≡ after_answer (smid_in d) (h.leaving g)
    by_answer e = ap (λ cs. leaving_after_all (after_answer (smid_in d) (h.leaving g)) (flat_map (told_by g) cs)) (no_changes fr e)

    replied : 1 ≤ sum_by (replies_on (smid_in d)) w.up
    replied = reply_there (smid_in d) w.up queue x rest front (by_frame fr)
      where
        by_frame : (o : Option (List ℕ)) → is_reply_of (smid_in d) (said_of (upward.Reply d o page sense)) ≡ true
        by_frame None = same (smid_in d)
        by_frame (Some y) = same (smid_in d)

    names : (r : Request) → slot w.host (smid_in d) ≡ Open r → NamesDisk (smid_in d) w.host.phases r
    names (request.Leave y) o = record_fits w h f (smid_in d) (request.Leave y) o
    names (request.Remove y) o = record_fits w h f (smid_in d) (request.Remove y) o
    names (request.Page y) o = record_fits w h f (smid_in d) (request.Page y) o
    names (request.Command n) o = tt
    names (request.Abort n task) o = tt
    names (request.TargetReset address) o = tt
    names (request.Ack event context) o = tt
    names request.Notification o = tt
    names request.PortEnable o = tt

    asked : (r : Request) → slot w.host (smid_in d) ≡ Open r → Knows1 (Some r)
    asked r o =
        from (Some r) (λ b n. (let u = in_range w f.flights.sizes.pool (smid_in d) r o in
        subst (λ l. LeavingIs (after (Some r)) l (phase_of (after (Some r)) g)) (sym (by_answer (above (smid_in d) u.0)))
        (came (Some r) (smid_in d) w.host.phases (after_answer (smid_in d) (h.leaving g))
        (answer (smid_in d) w.host.phases h1 (low_smid d) (subst (All IsHandle) (sym like.high) f.handles.waits.handles) (subst (All IsWaiting) (sym like.internal) f.handles.waits.requests) mode1 like.phases
        (subst (λ ps. Tracks (smid_in d) w.host.phases ps h1.out) (sym like.phases) (unchanged (smid_in d) w.host.phases h1.out f.flights.sizes.phases)) r hv (names r o))
        (answer_known w (smid_in d) (h.leaving g) (phase_of w g) (before normal))
        (λ q. answer_own w (smid_in d) (h.leaving g) (none_posted w (smid_in d) (at_most (smid_in d) u) replied) (subst (LeavingIs w (h.leaving g)) q (before normal))) b n)))

    -- ---- an event

    module _ (e : List ℕ) (framed : fr ≡ Some e) (none : smid_in d ≡ 0) (added : Bool) (like_event : e ≡ event_like e added) (disk : IsHandle (field e 0x28 2)) where
      abbrev g0 : ℕ
      g0 = field e 0x28 2

      changes_is : changes_in e ≡ record { handle = field e 0x28 2; status = status_of added } ∷ []
      changes_is = changes_are e added like_event

      abbrev h2 : Host
      h2 = asks.asks_internal h1 (request.Ack (event_in e) (event_context_in e))

      phases2 : h2.phases ≡ w.host.phases
      phases2 = view.ack_phases h1 (event_in e) (event_context_in e) ∙ like.phases

      sized2 : length h2.phases ≡ 64
      sized2 = ap length phases2 ∙ f.flights.sizes.phases

      -- what is added is absent
      absent : added ≡ true → removal.is_absent (phase_of w (field e 0x28 2)) ≡ true
      unfolding removal.first_not_absent
      absent t =
          let a1 = none_of_or (strange.wrong_queue_of_reply queue d) _ known_why in
          let a2 = none_of_or (strange.bad_descriptor d fr) _ a1.1 in
          let a3 = none_of_or (strange.not_returned w.host d fr) _ a2.1 in
          let a4 = none_of_or (strange.bad_frame fr) _ a3.1 in
          let a5 = none_of_or (strange.not_open w.host (smid_in d)) _ a4.1 in
          let a6 = none_of_or (strange.bad_answer (replies.request_of w.host (smid_in d)) fr page) _ a5.1 in
          let a7 = none_of_or (strange.bad_status (replies.request_of w.host (smid_in d)) (strange.status_by fr)) _ a6.1 in
          let a8 = none_of_or (strange.not_absent w.host (smid_in d) fr) None a7.1 in
          let b1 : strange.not_absent w.host 0 (Some e) ≡ None = subst (λ k. strange.not_absent w.host 0 k ≡ None) framed (subst (λ k. strange.not_absent w.host k fr ≡ None) none a8.0) in
          let b2 : option_map why.NotAbsent (removal.first_not_absent w.host.phases (removal.added_handles (changes_in e))) ≡ None = subst (λ k. (if k then None else option_map why.NotAbsent (removal.first_not_absent w.host.phases (removal.added_handles (changes_in e)))) ≡ None) m b1 in
          let b3 = subst (λ k. option_map why.NotAbsent (removal.first_not_absent w.host.phases (removal.added_handles k)) ≡ None) changes_is b2 in
          by_added added t b3
        where
          is_disk : removal.is_disk_handle (field e 0x28 2) ≡ true
          is_disk = disk_tests (field e 0x28 2) disk

          by_absent : (b : Bool) → option_map why.NotAbsent (if b then None else Some (field e 0x28 2)) ≡ None → b ≡ true
          by_absent true z = refl
          by_absent false z = absurd (cc)

          by_added : (c : Bool) → c ≡ true → option_map why.NotAbsent (removal.first_not_absent w.host.phases (removal.added_handles (record { handle = field e 0x28 2; status = status_of c } ∷ []))) ≡ None → removal.is_absent (phase_of w (field e 0x28 2)) ≡ true
          by_added false z b = absurd (cc)
          by_added true z b = by_absent (removal.is_absent (phase_of w (field e 0x28 2))) (subst (λ k. option_map why.NotAbsent (removal.first_not_absent w.host.phases (Rattle.std.specs.List.cons_option (if k then Some (field e 0x28 2) else None) [])) ≡ None) is_disk b)

      told_changes : changes_told x ≡ record { handle = field e 0x28 2; status = status_of added } ∷ []
      told_changes = ap (λ k. changes_told (upward.Reply d k page sense)) framed ∙ (ap (λ k. if k == 0 then changes_in e else []) none ∙ changes_is)

      -- the host behind it
      part_is : (replies.hears_reply_to h1 (smid_in d) None hv).part ≡ (removal.hears_change h2 (record { handle = field e 0x28 2; status = status_of added })).part
      unfolding removal.hears_changes
      part_is =
          ap (λ k. (if k then removal.quietly h1 else removal.hears_event h1 (unwrap_or fr [])).part) mode1
          ∙ (ap (λ k. (removal.hears_event h1 (unwrap_or k [])).part) framed ∙ ap (λ k. (removal.hears_changes h2 k).part) changes_is)

      -- what the rule has behind it
      abbrev by_change : Bool → Bool → Leaving → Leaving
      by_change same add l = if same then (if add then Added else rule.after_gone l) else l

      heard_is : leaving_next g (h.leaving g) (entry.Take (up_lane queue) (item.Up x)) ≡ (if field e 0x28 2 == g then (if added then Added else rule.after_gone (after_answer (smid_in d) (h.leaving g))) else after_answer (smid_in d) (h.leaving g))
      heard_is =
          ap (λ cs. leaving_after_all (after_answer (smid_in d) (h.leaving g)) (flat_map (told_by g) cs)) told_changes
          ∙ (ap (leaving_after_all (after_answer (smid_in d) (h.leaving g))) (flat_map-cons (told_by g) (record { handle = field e 0x28 2; status = status_of added }) []) ∙ by_tests (field e 0x28 2 == g) added)
        where
          by_tests : (a b : Bool) → leaving_after_all (after_answer (smid_in d) (h.leaving g)) ((if a then told_by_status (status_of b) else []) ++ flat_map (told_by g) []) ≡ (if a then (if b then Added else rule.after_gone (after_answer (smid_in d) (h.leaving g))) else after_answer (smid_in d) (h.leaving g))
          by_tests true true = refl
          by_tests true false = refl
          by_tests false true = refl
          by_tests false false = refl

      abbrev answered0 : Leaving
      answered0 = after_answer (smid_in d) (h.leaving g)

      known0 : LeavingIs w (after_answer (smid_in d) (h.leaving g)) (phase_of w g)
      known0 = answer_known w (smid_in d) (h.leaving g) (phase_of w g) (before normal)

      never0 : {X : Type 0} → phase_of w g ≡ phase.Resetting 0 → X
      never0 q = no_slot w.host 0 (request.Leave g) refl (opened_before normal 0 q)

      -- the phase with which it begins
      begun : (p : Phase) → phase_at (begun_with h2 (field e 0x28 2) disk sized2 p) g ≡ cond (g == field e 0x28 2) p (phase_of w g)
      begun p = phase_at-with h2.phases (field e 0x28 2) g p sized2 disk i ∙ ap (λ y. cond (g == field e 0x28 2) p (phase_at y g)) phases2

      swapped : (c : Bool) → (g == field e 0x28 2) ≡ c → (field e 0x28 2 == g) ≡ c
      swapped true t = turned_true g (field e 0x28 2) t
      swapped false t = turned_false g (field e 0x28 2) t

      -- a phase that was written, of which the rule knows this
      written : (p : Phase) → (l : Leaving) → Tracks 0 (begun_with h2 (field e 0x28 2) disk sized2 p) (after None).host.phases (after None).host.out → (p ≡ phase.Resetting 0 → ⊥)
          → ((g == field e 0x28 2) ≡ true → LeavingIs w l p) → ((g == field e 0x28 2) ≡ false → LeavingIs w l (phase_of w g)) → Behind (after None) → Knows (after None) l
      written p l t z a c = by_key (g == field e 0x28 2) refl
        where
          by_key : (k : Bool) → (g == field e 0x28 2) ≡ k → Behind (after None) → Knows (after None) l
          by_key true u = let q = begun p ∙ ap (λ k. cond k p (phase_of w g)) u in came None 0 (begun_with h2 (field e 0x28 2) disk sized2 p) l t (subst (LeavingIs w l) (sym q) (a u)) (λ y. absurd (z (sym q ∙ y)))
          by_key false u = let q = begun p ∙ ap (λ k. cond k p (phase_of w g)) u in came None 0 (begun_with h2 (field e 0x28 2) disk sized2 p) l t (subst (LeavingIs w l) (sym q) (c u)) (λ y. never0 (sym q ∙ y))

      abbrev heard_as : Bool → Bool → Leaving
      heard_as same add = if same then (if add then Added else rule.after_gone (after_answer (smid_in d) (h.leaving g))) else after_answer (smid_in d) (h.leaving g)

      on_part : (P : Host → Type 0) → P (removal.hears_change h2 (record { handle = field e 0x28 2; status = status_of added })).part → P (replies.hears_reply_to h1 (smid_in d) None hv).part
      on_part P y = subst P (sym part_is) y

      -- with a handle that is there
      leaves_there : (p : Phase) → phase_of w (field e 0x28 2) ≡ p → is_announced p ≡ true → added ≡ false → Tracks 0 (begun_with h2 (field e 0x28 2) disk sized2 phase.WaitHigh) (after None).host.phases (after None).host.out
          → Behind (after None) → Knows (after None) (heard_as (field e 0x28 2 == g) added)
      leaves_there p q a z t =
          written phase.WaitHigh (heard_as (field e 0x28 2 == g) added) t (λ y. cc)
          (λ u. (let s = swapped true u in
          let k : heard_as (field e 0x28 2 == g) added ≡ rule.after_gone (after_answer (smid_in d) (h.leaving g)) = ap (λ c. heard_as c added) s ∙ ap (heard_as true) z in
          let r : phase_of w g ≡ p = ap (phase_of w) (eqb-true g (field e 0x28 2) u) ∙ q in
          let o : after_answer (smid_in d) (h.leaving g) ≡ Added = added_known w (after_answer (smid_in d) (h.leaving g)) p a (subst (LeavingIs w (after_answer (smid_in d) (h.leaving g))) r known0) in
          ap (λ l. Rattle.law_facts.specs.Handles.has_gone l) k ∙ after_gone_has (after_answer (smid_in d) (h.leaving g)) o))
          (λ u. subst (λ c. LeavingIs w (heard_as c added) (phase_of w g)) (sym (swapped false u)) known0)

      -- with one that isn't
      leaves_again : (p : Phase) → phase_of w (field e 0x28 2) ≡ p → is_announced p ≡ false → added ≡ false → Tracks 0 h2.phases (after None).host.phases (after None).host.out → Behind (after None) → Knows (after None) (heard_as (field e 0x28 2 == g) added)
      leaves_again p q a z t =
          came None 0 h2.phases (heard_as (field e 0x28 2 == g) added) t (subst (λ y. LeavingIs w (heard_as (field e 0x28 2 == g) added) (phase_at y g)) (sym phases2) (by_key (g == field e 0x28 2) refl)) (λ y. never0 (ap (λ k. phase_at k g) (sym phases2) ∙ y))
        where
          by_key : (k : Bool) → (g == field e 0x28 2) ≡ k → LeavingIs w (heard_as (field e 0x28 2 == g) added) (phase_of w g)
          by_key false u = subst (λ c. LeavingIs w (heard_as c added) (phase_of w g)) (sym (swapped false u)) known0
          by_key true u =
              let k : heard_as (field e 0x28 2 == g) added ≡ rule.after_gone (after_answer (smid_in d) (h.leaving g)) = ap (λ c. heard_as c added) (swapped true u) ∙ ap (heard_as true) z in
              let r : is_announced (phase_of w g) ≡ false = ap (λ j. is_announced (phase_of w j)) (eqb-true g (field e 0x28 2) u) ∙ (ap is_announced q ∙ a) in
              subst (λ l. LeavingIs w l (phase_of w g)) (sym k) (gone_known w (after_answer (smid_in d) (h.leaving g)) (phase_of w g) r known0)

      leaves : added ≡ false → (p : Phase) → phase_of w (field e 0x28 2) ≡ p → AfterGone h2 (field e 0x28 2) disk sized2 p (after None).host → Behind (after None) → Knows (after None) (heard_as (field e 0x28 2 == g) added)
      leaves z phase.WaitRead q t = leaves_there phase.WaitRead q refl z t
      leaves z (phase.Reading s) q t = leaves_there (phase.Reading s) q refl z t
      leaves z (phase.Ready a) q t = leaves_there (phase.Ready a) q refl z t
      leaves z phase.Absent q t = leaves_again phase.Absent q refl z t
      leaves z phase.WaitHigh q t = leaves_again phase.WaitHigh q refl z t
      leaves z (phase.Resetting s) q t = leaves_again (phase.Resetting s) q refl z t
      leaves z phase.WaitInternal q t = leaves_again phase.WaitInternal q refl z t
      leaves z (phase.Removing s) q t = leaves_again (phase.Removing s) q refl z t

      comes : added ≡ true → Tracks 0 (begun_with h2 (field e 0x28 2) disk sized2 phase.WaitRead) (after None).host.phases (after None).host.out → Behind (after None) → Knows (after None) (heard_as (field e 0x28 2 == g) added)
      comes z t =
          written phase.WaitRead (heard_as (field e 0x28 2 == g) added) t (λ y. cc) (λ u. ap (λ c. heard_as c added) (swapped true u) ∙ ap (heard_as true) z)
          (λ u. subst (λ c. LeavingIs w (heard_as c added) (phase_of w g)) (sym (swapped false u)) known0)

      event : Knows1 None
      event = from None (λ b n. subst (λ l. LeavingIs (after None) l (phase_of (after None) g)) (sym heard_is) (by_added added refl b n))
        where
          by_added : (c : Bool) → added ≡ c → Behind (after None) → Knows (after None) (heard_as (field e 0x28 2 == g) added)
          by_added true z =
              comes z (on_part (λ k. Tracks 0 (begun_with h2 (field e 0x28 2) disk sized2 phase.WaitRead) k.phases k.out)
              (subst (λ c. Tracks 0 (begun_with h2 (field e 0x28 2) disk sized2 phase.WaitRead) (removal.hears_change h2 (record { handle = field e 0x28 2; status = status_of c })).part.phases (removal.hears_change h2 (record { handle = field e 0x28 2; status = status_of c })).part.out) (sym z)
              (adds h2 (field e 0x28 2) disk sized2 (ap (λ y. removal.is_absent (phase_at y (field e 0x28 2))) phases2 ∙ absent z))))
          by_added false z =
              leaves z (phase_at h2.phases (field e 0x28 2)) (ap (λ y. phase_at y (field e 0x28 2)) (sym phases2)) (on_part (AfterGone h2 (field e 0x28 2) disk sized2 (phase_at h2.phases (field e 0x28 2)))
              (subst (λ c. AfterGone h2 (field e 0x28 2) disk sized2 (phase_at h2.phases (field e 0x28 2)) (removal.hears_change h2 (record { handle = field e 0x28 2; status = status_of c })).part) (sym z) (loses h2 (field e 0x28 2) disk sized2)))

    -- ---- by the identifier's record

    closed : is_open (slot w.host (smid_in d)) ≡ false → (o : Option (List ℕ)) (n : ℕ) → fr ≡ o → smid_in d ≡ n → SaidIs w h queue (said_reply n o page sense) → Knows1 None
    closed c None n e u a = absurd (none (slot w.host n) (subst (λ j. is_open (slot w.host j) ≡ false) u c) a)
      where
        none : (y : Slot Request) → is_open y ≡ false → AnswersBy w h queue n (said.Success n page sense) y → ⊥
        none Free c k = k
        none Parked c k = k
        none (Open r) c k = absurd (cc)
    closed c (Some e0) (suc n) e u a = absurd (none (slot w.host (suc n)) (subst (λ j. is_open (slot w.host j) ≡ false) u c) a)
      where
        none : (y : Slot Request) → is_open y ≡ false → AnswersBy w h queue (suc n) (said.Framed (suc n) e0 page sense) y → ⊥
        none Free c k = k
        none Parked c k = k
        none (Open r) c k = absurd (cc)
    closed c (Some e0) zero e u a = by_kind a.4
      where
        by_kind : (e0 ≡ event_like e0 true) ⊎ (e0 ≡ event_like e0 false) → Knows1 None
        by_kind (inl k) = event e0 e u true k a.3
        by_kind (inr k) = event e0 e u false k a.3

    reply : Behind (record (with_up w queue rest) { host = (hears_up w.host queue x).part })
        → Knows (record (with_up w queue rest) { host = (hears_up w.host queue x).part }) (state_after (leaving_next g) (h.leaving g) (entry.Take (up_lane queue) (item.Up x) ∷ (hears_up w.host queue x).entries))
    reply = by_slot (slot w.host (smid_in d)) refl
      where
        by_slot : (y : Slot Request) → slot w.host (smid_in d) ≡ y → Knows1 (record_of y)
        by_slot Free e = closed (ap is_open e) fr (smid_in d) refl refl said_is
        by_slot Parked e = closed (ap is_open e) fr (smid_in d) refl refl said_is
        by_slot (Open r) e = asked r e

  taken : (queue : ℕ) (x : Up) (rest : List Up) → up_on w queue ≡ x ∷ rest → why_strange w.host queue x ≡ None
      → OnKnown (record (with_up w queue rest) { host = (hears_up w.host queue x).part }) (entry.Take (up_lane queue) (item.Up x) ∷ (hears_up w.host queue x).entries)
  unfolding OnKnown
  taken queue (upward.Value value) rest e y = silent queue (upward.Value value) rest e refl (view.value w.host value)
  taken queue (upward.Mark generation) rest e y = silent queue (upward.Mark generation) rest e refl (view.mark w.host queue)
  taken queue upward.Calm rest e y = silent queue upward.Calm rest e refl (Stays (record { phases = refl; mode = refl }) refl)
  taken queue (upward.Reply d fr page sense) rest e y = by_mode (is_resetting w.host.mode) refl
    where
      by_mode : (b : Bool) → is_resetting w.host.mode ≡ b → Behind (record (with_up w queue rest) { host = (hears_up w.host queue (upward.Reply d fr page sense)).part })
          → Knows (record (with_up w queue rest) { host = (hears_up w.host queue (upward.Reply d fr page sense)).part }) (state_after (leaving_next g) (h.leaving g) (entry.Take (up_lane queue) (item.Up (upward.Reply d fr page sense)) ∷ (hears_up w.host queue (upward.Reply d fr page sense)).entries))
      by_mode false m = reply queue d fr page sense rest e y m
      by_mode true m = λ b n. (let l = view.framed w.host queue d fr in
          let k = mode_reply (replies.takes_entry (replies.with_frame_heard w.host d fr) queue) (smid_in d) (replies.request_of w.host (smid_in d)) (replies.heard_of d fr page sense) (ap is_resetting l.mode ∙ m) in
          clash (is_resetting (hears_up w.host queue (upward.Reply d fr page sense)).part.mode) (ap is_resetting k ∙ (ap is_resetting l.mode ∙ m)) (normal_mode (hears_up w.host queue (upward.Reply d fr page sense)).part.mode n))

  -- ---- all cases

  owes : OwesTold OnKnown w
  owes =
      record {
        idles = λ c. still w (entry.Idle c ∷ []) refl refl;
        host_puts = λ x rest e. put x rest e;
        host_takes = λ queue x rest e y. taken queue x rest e y;
        host_told = λ j c. (let z = view.told w.host j c in calm w.up (host_told w.host j).part (host_told w.host j).entries z.phases z.before (λ s. omega arith) (told_leaving g (h.leaving g) (host_told w.host j).entries (told_input w.host j)));
        host_looks = λ e. (let z = view.looks_still w.host in calm w.up (looks w.host) [] z.phases (λ y. ap is_resetting (sym z.mode) ∙ y) (λ s. omega arith) refl);
        host_stops = λ e. (let z = view.stops_still w.host in calm w.up (stops w.host) [] z.phases (λ y. ap is_resetting (sym z.mode) ∙ y) (λ s. omega arith) refl);
        no_session = still w [] refl refl;
        ioc_takes = λ x rest e. still (record w { ioc = (adapter.takes_down w.ioc x).part; down = rest }) (entry.Take lane.Down (item.Down x) ∷ (adapter.takes_down w.ioc x).entries) (told_leaving g (h.leaving g) (adapter.takes_down w.ioc x).entries (told_down w.ioc x)) refl;
        ioc_high = λ p rest e. still (record w { ioc = (step.works_on (record w.ioc { high = rest }) p).part }) (step.works_on (record w.ioc { high = rest }) p).entries (told_leaving g (h.leaving g) (step.works_on (record w.ioc { high = rest }) p).entries (told_high w.ioc (p ∷ rest))) refl;
        ioc_normal = λ p rest e. still (record w { ioc = (step.works_on (record w.ioc { normal = rest }) p).part }) (step.works_on (record w.ioc { normal = rest }) p).entries (told_leaving g (h.leaving g) (step.works_on (record w.ioc { normal = rest }) p).entries (told_normal w.ioc (p ∷ rest))) refl;
        ioc_puts_out = λ x rest e. still (record w { ioc = record w.ioc { out = rest }; out = w.out ++ x ∷ [] }) (entry.Put lane.Out (item.Out x) ∷ []) refl refl;
        ioc_takes_back = λ x rest e. still (record w { ioc = (adapter.takes_back w.ioc x).part; back = rest }) (entry.Take lane.Back (item.Back x) ∷ (adapter.takes_back w.ioc x).entries) (told_leaving g (h.leaving g) (adapter.takes_back w.ioc x).entries (told_back w.ioc x)) refl;
        ioc_puts = λ queue y rest z e u. still (with_up (record w { ioc = adapter.up_sent_on w.ioc queue }) queue (up_on w queue ++ z ∷ [])) (entry.Put (up_lane queue) (item.Up z) ∷ []) refl refl;
        fabric_takes = λ x rest e. still (record w { fabric = Rattle.mpt_rules.specs.Fabric.Calls.takes_out w.fabric x; out = rest }) (entry.Take lane.Out (item.Out x) ∷ []) refl refl;
        fabric_says = λ x rest e. still (record w { fabric = record w.fabric { notices = rest; out = w.fabric.out ++ x ∷ [] } }) [] refl refl;
        fabric_puts = λ x rest e. still (record w { fabric = record w.fabric { out = rest }; back = w.back ++ x ∷ [] }) (entry.Put lane.Back (item.Back x) ∷ []) refl refl;
        fabric_runs = λ tag address e. still (record w { fabric = (Rattle.mpt_rules.specs.Fabric.Calls.runs w.fabric tag).part }) (entry.Run address tag ∷ []) refl refl;
        plugs = λ address expander phy t p. still (record w { fabric = (Rattle.mpt_rules.specs.Fabric.Calls.fabric_plugs w.fabric address expander phy).part }) t (told_leaving g (h.leaving g) t (plug_told t p)) refl;
        unplugs = λ address t p. still (record w { fabric = (Rattle.mpt_rules.specs.Fabric.Calls.fabric_unplugs w.fabric address).part }) t (told_leaving g (h.leaving g) t (plug_told t p)) refl;
        calms = still (record w { fabric = Rattle.mpt_rules.specs.Fabric.Calls.calms w.fabric }) [] refl refl;
      }

  pub known : (c : Case) → Behind (happens w c) → Knows (happens w c) ((history_after h (entries w c)).leaving g)
  unfolding OnKnown
  known c = kept_told OnKnown w plain owes c

-- HostKnown.leaving
pub leavings_known : (w : World) (h : History) (c : Case) → Facts w h → NothingIsStrange w → VectorsFit w → LeavingsKnown (happens w c) (history_after h (entries w c))
leavings_known w h c f plain vectors g i = known w h f plain g i c (behind_case w h c f plain vectors)
