-- Where the host's calls leave commands.
use Rattle.std.proofs.Common.{◌≡◌, ℕ, zero, suc, ◌+◌, ◌-◌, ◌%◌, ◌≤◌, ◌<◌, ◌==◌, not, cond, nat_lt, Bool, true, false, if◌then◌else◌, List, [], ◌∷◌, ◌++◌, get_or, length, replicate, set, slice_set, mod-lt, map, Option, Some, None, refl, ap, sym, ◌∙◌, subst, arith}
use Rattle.std.specs.Prelude.{All}
use Rattle.std.specs.FinMap as finmap
use Rattle.std.specs.FinSet as finset
use Rattle.std.specs.Ordering.{nat_cmp}
use Rattle.std.specs.List.{sum_by}
use Rattle.std.proofs.lemmas.List.{get_or_past}
use Rattle.std.proofs.lemmas.List.Elements.{All-tail}
use Rattle.std.proofs.lemmas.List.Sums.{sum_by-set}
use Rattle.removal.specs.Handles.{ready_handle}
use Rattle.scsi_disk.specs.Command.{fits}
use Rattle.scsi_disk.specs.declared.scsi_result.ScsiResult.{ScsiResult}
use Rattle.smid_pool.specs.Pool.{Free, Open, Parked, Slot, all_free, is_open, least_free, record_of, slot_of}
use Rattle.smid_pool.specs.declared.class.Class.TheVariants as class
use Rattle.mpi_rings.specs.declared.request_descriptor.PostKind.TheVariants as post
use Rattle.mpt_trace.specs.Command.{command_named}
use Rattle.mpt_trace.specs.declared.command_form.CommandForm.{CommandForm}
use Rattle.mpt_trace.specs.declared.entry.Entry.{Entry}
use Rattle.mpt_trace.specs.declared.entry.Entry.TheVariants as entry
use Rattle.mpt_trace.specs.declared.input.Input.{Input}
use Rattle.mpt_trace.specs.declared.input.Input.TheVariants as input
use Rattle.mpt_trace.specs.declared.item.Down.{Down}
use Rattle.mpt_trace.specs.declared.item.Item.TheVariants as item
use Rattle.mpt_trace.specs.declared.item.Up.{Up}
use Rattle.mpt_trace.specs.declared.item.Up.TheVariants as up
use Rattle.mpt_trace.specs.declared.refusal.RefusedCall.TheVariants as call
use Rattle.mpt_wire.specs.Machine.Causes.{is_resetting, is_up}
use Rattle.mpt_wire.specs.Messages.Fields.{smid_in}
use Rattle.mpt_wire.specs.Messages.Naming.{names_command}
use Rattle.mpt_wire.specs.Paths.Stages.{Accepted, Walk, stage_if, walk_next}
use Rattle.mpt_wire.specs.Walks.Passes.{EachEntry}
use Rattle.mpt_rules.specs.declared.request.Request.{Request}
use Rattle.mpt_rules.specs.declared.request.Request.TheVariants as request
use Rattle.mpt_rules.specs.Host.Inputs as inputs
use Rattle.mpt_rules.specs.Host.Parts.{Cmd, Host, host_queue_count}
use Rattle.mpt_rules.specs.Host.Replies as replies
use Rattle.mpt_rules.specs.Host.Resets as resets
use Rattle.mpt_rules.specs.Host.Takes.{hears_up}
use Rattle.mpt_rules.specs.World.Counts.{how_many, one_if, post_count, reply_count}
use Rattle.mpt_rules.specs.World.Inputs.{by_result, host_told}
use Rattle.mpt_rules.specs.World.Lines.{said_of}
use Rattle.mpt_rules.specs.World.Places.{is_posted_as}
use Rattle.mpt_rules.specs.World.PlaceCounts.{replies_on}
use Rattle.mpt_rules.specs.World.State.{World, up_lane, up_on, with_up}
use Rattle.mpt_rules.proofs.Counts.{post_count-append, reply_count-cons}
use Rattle.mpt_rules.proofs.HostCalls.{aborts_by, resets_target_by, submits_by}
use Rattle.law_facts.specs.Facts.{Facts}
use Rattle.law_facts.specs.Flights.{Flights}
use Rattle.law_facts.specs.History.{History, history_after}
use Rattle.law_facts.specs.Paths.{UpStage, stage_of}
use Rattle.law_facts.specs.Words.{is_load, is_post, others, slot}
use Rattle.law_flights.proofs.Descriptors.{smid_posted}
use Rattle.law_flights.proofs.HostHolds.{slot_of-set}
use Rattle.law_flights.proofs.Tables.{get_or-set_any}
use Rattle.law_moves.proofs.Cases.{IsHosts}
use Rattle.law_moves.proofs.Counted.{fewer_pass, none_passes}
use Rattle.law_moves.proofs.HostGoes as goes
use Rattle.law_moves.proofs.HostGoes.{Asks, AsksNow, Hands, Heard, HostGoes, Looks, MarkOver, MarkTaken, Same, Says, Starts, StopsNow, Values, up_normal}
use Rattle.law_moves.proofs.HostSpeaks.{is_handed_back}
use Rattle.law_moves.proofs.HostWords.{EndsIt, HostTells, IsHostWord, Words, host_tells}
use Rattle.law_moves.proofs.InputWords.{IsInputWord, input_words}
use Rattle.law_moves.proofs.Turns.{TurnedHost}
use Rattle.law_moves.proofs.Valuing.{HearsValue, IsOverNow, IsReady, SpeaksOn, TurnsOn, UnitLate}
use Rattle.mpt_trace.specs.declared.item.Down.TheVariants as down
use Rattle.law_messages.proofs.Agreeing.{all_more, not_both}
use Rattle.law_messages.proofs.HostAsks as asks
use Rattle.law_messages.proofs.Keys.{get_inserted, get_removed}
use Rattle.law_messages.proofs.Known.{no_command}
use Rattle.law_messages.proofs.Leads.{Accepted as IsAccepted, Accepts, Ends, Follow, Goes, Leads}
use Rattle.law_messages.proofs.Requests.{IsTame, accepted_outcome}
use Rattle.law_messages.proofs.TameTold as tame
use Rattle.law_paths.specs.Staged.{At, DownAt, Staged}
use Rattle.law_paths.specs.Tags.{TagsFit}
use Rattle.law_paths.proofs.Alone.{alone, followed, low, nowhere, numbered, spots, within}
use Rattle.law_paths.proofs.Clearing.{Anyone, Other, clear_all, clear_of}
use Rattle.law_paths.proofs.DownCases.{named_within, unnamed}
use Rattle.law_paths.proofs.Entries.{IsQuiet, Silent, equal, is_named, mark_stays, not_named, same, silent, stage_stays}
use Rattle.law_paths.proofs.FabricCases.{begin}
use Rattle.law_paths.proofs.Moves.{Kept, asked_is, is_asked, moved}
use Rattle.law_paths.proofs.Staging.{staged_down}

-- ---- what the host tells names no command

quiet_words : (t : List Entry) → EachEntry IsHostWord t → EachEntry IsQuiet t
quiet_words [] a = tt
quiet_words (e ∷ t) a = (one e a.0, quiet_words t a.1)
  where
    one : (e : Entry) → IsHostWord e → IsQuiet e
    one (entry.Given i) p = tt
    one (entry.Idle x) p = tt
    one (entry.Put l x) p = absurd p
    one (entry.Take l x) p = absurd p
    one (entry.Bind handle a k) p = tt
    one (entry.Unbind handle) p = tt
    one entry.UnbindAll p = tt
    one (entry.Run a k) p = absurd p
    one entry.HostUp p = tt
    one (entry.Ready a handle) p = tt
    one (entry.Lost a handle) p = tt
    one (entry.Accept n a k) p = absurd p
    one (entry.RefuseSubmit n cause) p = tt
    one (entry.Refuse call cause) p = tt
    one (entry.Answer n how) p = tt
    one (entry.AbortEnd n how) p = tt
    one (entry.TargetEnd a how) p = tt
    one entry.ResetDone p = tt

quiet_end : (t : List Entry) → EachEntry IsQuiet t → EachEntry IsQuiet (t ++ entry.ResetDone ∷ [])
quiet_end [] a = (tt, tt)
quiet_end (e ∷ t) a = (a.0, quiet_end t a.1)

telling : (t : List Entry) → HostTells t → EachEntry IsQuiet t
telling t (Words a) = quiet_words t a
telling t (EndsIt told a e) = subst (EachEntry IsQuiet) (sym e) (quiet_end told (quiet_words told a))

pub hears_quietly : (host : Host) (queue : ℕ) (x : Up) → EachEntry IsQuiet (hears_up host queue x).entries
hears_quietly host queue x = telling (hears_up host queue x).entries (host_tells host queue x)

pub input_quiet : (t : List Entry) → EachEntry IsInputWord t → EachEntry IsTame t → EachEntry IsQuiet t
input_quiet [] a b = tt
input_quiet (e ∷ t) a b = (one e a.0 b.0, input_quiet t a.1 b.1)
  where
    one : (e : Entry) → IsInputWord e → IsTame e → IsQuiet e
    one (entry.Given i) p q = tt
    one (entry.Idle x) p q = tt
    one (entry.Put l x) p q = absurd p
    one (entry.Take l x) p q = absurd p
    one (entry.Bind handle a k) p q = tt
    one (entry.Unbind handle) p q = tt
    one entry.UnbindAll p q = tt
    one (entry.Run a k) p q = absurd q
    one entry.HostUp p q = tt
    one (entry.Ready a handle) p q = tt
    one (entry.Lost a handle) p q = tt
    one (entry.Accept n a k) p q = absurd q
    one (entry.RefuseSubmit n cause) p q = tt
    one (entry.Refuse call cause) p q = tt
    one (entry.Answer n how) p q = tt
    one (entry.AbortEnd n how) p q = tt
    one (entry.TargetEnd a how) p q = tt
    one entry.ResetDone p q = tt

-- ---- posts

posted_load : (s : ℕ) (x : Down) → is_posted_as s x ≡ true → is_load x ≡ true
posted_load s (down.Post d f p) e = refl
posted_load s (down.Write reg value) e = absurd (cc)
posted_load s (down.Read reg) e = absurd (cc)
posted_load s (down.Return address index) e = absurd (cc)
posted_load s down.Stop e = absurd (cc)

posted_post : (s : ℕ) (x : Down) → is_posted_as s x ≡ true → is_post x ≡ true
posted_post s (down.Post d f p) e = refl
posted_post s (down.Write reg value) e = absurd (cc)
posted_post s (down.Read reg) e = absurd (cc)
posted_post s (down.Return address index) e = absurd (cc)
posted_post s down.Stop e = absurd (cc)

posts_load : (s : ℕ) (xs : List Down) → post_count s xs ≤ how_many is_load xs
unfolding post_count
posts_load s xs = fewer_pass (is_posted_as s) is_load (posted_load s) xs

posts_post : (s : ℕ) (xs : List Down) → post_count s xs ≤ how_many is_post xs
unfolding post_count
posts_post s xs = fewer_pass (is_posted_as s) is_post (posted_post s) xs

handed_no_post : (s : ℕ) (x : Down) → is_handed_back x ≡ true → is_posted_as s x ≡ false
handed_no_post s (down.Post d f p) e = absurd (cc)
handed_no_post s (down.Write reg value) e = refl
handed_no_post s (down.Read reg) e = refl
handed_no_post s (down.Return address i) e = refl
handed_no_post s down.Stop e = refl

none_handed : (s : ℕ) (xs : List Down) → others is_handed_back xs ≡ 0 → post_count s xs ≡ 0
unfolding post_count
none_handed s xs z = none_passes is_handed_back (is_posted_as s) (handed_no_post s) xs z

free_at : (n i : ℕ) → get_or (replicate n (let x : Slot Request = Free in x)) i Free ≡ Free
free_at zero i = refl
free_at (suc n) zero = refl
free_at (suc n) (suc i) = free_at n i

pub all_are_free : (s : ℕ) → slot_of (let p : List (Slot Request) = all_free in p) s ≡ Free
all_are_free zero = refl
all_are_free (suc i) = free_at 280 i

lanes_left : (P : Up → Type 0) (lanes : List (List Up)) (queue : ℕ) (x : Up) (rest : List Up) → get_or lanes queue [] ≡ x ∷ rest → ((q : ℕ) → All P (get_or lanes q [])) → (q : ℕ) → All P (get_or (set lanes queue rest) q [])
lanes_left P lanes queue x rest e a q = subst (All P) (sym (get_or-set_any lanes queue q rest [])) (by_tests (q == queue) (nat_lt queue (length lanes)))
  where
    by_tests : (b c : Bool) → All P (cond b (cond c rest (get_or lanes q [])) (get_or lanes q []))
    by_tests false c = a q
    by_tests true false = a q
    by_tests true true = All-tail P x rest (subst (All P) e (a queue))

lane_within : (lanes : List (List Up)) (queue : ℕ) (x : Up) (rest : List Up) → get_or lanes queue [] ≡ x ∷ rest → queue < length lanes
lane_within lanes queue x rest e = by_place (nat_lt queue (length lanes)) refl
  where
    by_place : (b : Bool) → nat_lt queue (length lanes) ≡ b → queue < length lanes
    by_place true t = grind (arith, t)
    by_place false t = let m : length lanes ≤ queue = grind (arith, t) in let q = get_or_past lanes queue [] m in absurd (cc)

module _ (w : World) (h : History) (f : Facts w h) (tags : TagsFit w) where
  -- ---- while a reset goes on the host makes no post

  module _ (going : is_resetting w.host.mode ≡ true) (s : ℕ) where
    none : post_count s w.host.out ≡ 0
    none = let a = f.clock.loads_before_reset.outbox going in let b = posts_post s w.host.out in omega (arith, a, b)

    grown : (xs : List Down) → post_count s xs ≡ 0 → post_count s (w.host.out ++ xs) ≡ 0
    grown xs z = let a = post_count-append s w.host.out xs in let n = none in omega (arith, a, z, n)

    turned : (m : Host) (k : Host) (c : ℕ) → post_count s m.out ≡ 0 → TurnedHost m c k → post_count s k.out ≡ 0
    turned m k c n t = let l = posts_load s t.added in let z = t.are.loads in let a = post_count-append s m.out t.added in ap (post_count s) t.out_is ∙ omega (arith, a, n, l, z)

    by_value : (k : Host) → HearsValue w k → post_count s k.out ≡ 0
    by_value k (TurnsOn c u t a d) = turned (record w.host { reading = false }) k c none t
    by_value k (UnitLate r g u) = turned (record w.host { reading = false }) k 1 none u.turn
    by_value k (SpeaksOn j st t q sp) = not_both (is_resetting w.host.mode) (ap is_resetting st) going
    by_value k (IsReady j r l t q a d e) = ap (λ (y : Host). post_count s y.out) e ∙ turned (record w.host { reading = false }) j 0 none t
    by_value k (IsOverNow j r l t q a u) = turned (resets.renewed (record j { door_ready = true })) k 0 (turned (record w.host { reading = false }) j 0 none t) u

    up_not : {T : Type 0} → is_up w.host.mode ≡ true → T
    up_not u = not_both (is_resetting w.host.mode) (up_normal w.host.mode u).0 going

    no_posts : (k : Host) (t : Heard) → HostGoes w k t → post_count s k.out ≡ 0
    no_posts k t (Same e) = ap (λ (j : Host). post_count s j.out) e ∙ none
    no_posts k t (Says m o en sp u) = not_both (is_resetting w.host.mode) m going
    no_posts k t (Hands m sp i fr) = ap (post_count s) sp.grows.is ∙ grown sp.grows.added (none_handed s sp.grows.added sp.grows.mild)
    no_posts k t (Values r v fr hears) = by_value k hears
    no_posts k t (MarkTaken queue m e) = ap (λ (j : Host). post_count s j.out) e ∙ none
    no_posts k t (MarkOver queue m g fr d a u) = turned (resets.renewed (record w.host { marks = slice_set w.host.marks queue true })) k 0 none u
    no_posts k t (Starts o u) = not_both (is_resetting w.host.mode) (ap is_resetting o) going
    no_posts k t (Asks st m o r e) = not_both (is_resetting w.host.mode) m going
    no_posts k t (AsksNow st c m o r q u z) = not_both (is_resetting w.host.mode) m going
    no_posts k t (Looks u r q) = up_not u
    no_posts k t (StopsNow u e) = up_not u

  -- ---- where it goes

  module _ (v : World) (k : History) (z : Flights v k) where
    by_follow : (Apart : ℕ → Type 0) (hand : ℕ) → Follow w h v.host k hand → ((s : ℕ) → Apart s → stage_of k s ≡ stage_of h s) → ((s : ℕ) → Apart s → (h.walk s).stopped ≡ true → (k.walk s).stopped ≡ true) → Kept w h v k Apart
    by_follow Apart hand fo a b =
        record { stage = a; mark = b; was = λ s n p e. (followed w h f v k z hand fo s n e).0; outcome = λ s n r p e o. fo.outcomes n r o }

    by_end : (Apart : ℕ → Type 0) → v.host.pool ≡ all_free → ((s : ℕ) → Apart s → stage_of k s ≡ stage_of h s) → ((s : ℕ) → Apart s → (h.walk s).stopped ≡ true → (k.walk s).stopped ≡ true) → Kept w h v k Apart
    by_end Apart o a b =
        record { stage = a; mark = b; was = λ s n p e. absurd (none_open s n e); outcome = λ s n r p e q. absurd (none_open s n e) }
      where
        none_open : (s n : ℕ) → slot v.host s ≡ Open (request.Command n) → ⊥
        none_open s n e = let y : Free ≡ Open (request.Command n) = sym (all_are_free s) ∙ (sym (ap (λ p. slot_of p s) o) ∙ e) in cc

    -- where the host makes no post of a command that stays open
    few_posts : (s n : ℕ) → slot w.host s ≡ Open (request.Command n) → slot v.host s ≡ Open (request.Command n) → is_resetting w.host.mode ≡ false
        → v.down ≡ w.down → v.ioc ≡ w.ioc → sum_by (replies_on s) v.up ≡ sum_by (replies_on s) w.up → post_count s v.host.out ≤ post_count s w.host.out
    few_posts s n o p g d i u =
        let l = within w h f.flights s (request.Command n) o in
        let a = (f.flights.identifiers s l.0 l.1).found g in
        let b = (z.identifiers s l.0 l.1).at_most in
        let c = post_count-append s w.down w.host.out in
        let e = post_count-append s w.down v.host.out in
        let b2 = subst (λ x. one_if (not (is_open (slot v.host s))) + (post_count s (x ++ v.host.out) + (Rattle.mpt_rules.specs.World.Counts.queued_count s v.ioc.high + (Rattle.mpt_rules.specs.World.Counts.queued_count s v.ioc.normal + (one_if (Rattle.std.specs.Prelude.is_some (Rattle.mpt_rules.specs.Ioc.Tables.request_at v.ioc s)) + (how_many (Rattle.mpt_rules.specs.Ioc.Tables.is_held_as s) v.ioc.held + (sum_by (reply_count s) v.ioc.up + sum_by (replies_on s) v.up)))))) ≤ 1) d b in
        let b3 = subst (λ (x : Rattle.mpt_rules.specs.Ioc.Parts.Ioc). one_if (not (is_open (slot v.host s))) + (post_count s (w.down ++ v.host.out) + (Rattle.mpt_rules.specs.World.Counts.queued_count s x.high + (Rattle.mpt_rules.specs.World.Counts.queued_count s x.normal + (one_if (Rattle.std.specs.Prelude.is_some (Rattle.mpt_rules.specs.Ioc.Tables.request_at x s)) + (how_many (Rattle.mpt_rules.specs.Ioc.Tables.is_held_as s) x.held + (sum_by (reply_count s) x.up + sum_by (replies_on s) v.up)))))) ≤ 1) i b2 in
        let x : one_if (not (is_open (slot w.host s))) ≡ 0 = ap (λ y. one_if (not (is_open y))) o in
        omega (arith, a, b3, c, e, x, u)

    out_staged : (t : Heard) → HostGoes w v.host t → v.down ≡ w.down → v.ioc ≡ w.ioc
        → ((s n : ℕ) → slot v.host s ≡ Open (request.Command n) → (slot w.host s ≡ Open (request.Command n)) × ((sum_by (replies_on s) v.up ≡ sum_by (replies_on s) w.up) × (stage_of k s ≡ stage_of h s))) → All (DownAt v k Accepted) v.host.out
    out_staged t g d i a = staged_down v k Accepted v.host.out one
      where
        one : (s : ℕ) → 1 ≤ post_count s v.host.out → At v k Accepted s
        one s c e =
            let n = asked_is (slot v.host s) e in
            let b = a s n.0 n.1 in
            by_mode (is_resetting w.host.mode) refl n.0 n.1 b.0 b.1.0 b.1.1
          where
            by_mode : (m : Bool) → is_resetting w.host.mode ≡ m → (n : ℕ) → slot v.host s ≡ Open (request.Command n) → slot w.host s ≡ Open (request.Command n) → sum_by (replies_on s) v.up ≡ sum_by (replies_on s) w.up → stage_of k s ≡ stage_of h s → stage_of k s ≡ Accepted
            by_mode true m n p o u st = let y = no_posts m s v.host t g in absurd (omega (arith, y, c))
            by_mode false m n p o u st =
                let y = few_posts s n o p m d i u in
                st ∙ (f.paths.stages s (is_asked (slot w.host s) n o)).out (omega (arith, y, c))

  -- ---- a submission is accepted

  accepted_stage : (s n a : ℕ) (g : Walk) → (walk_next s g (entry.Accept n a s)).stage ≡ Accepted
  accepted_stage s n a g = ap (λ b. if b then Accepted else stage_if g.stage (Rattle.mpt_wire.specs.Paths.Commands.path_mark_of s g.known.live (entry.Accept n a s))) (same s)

  module _ (v : World) (k : History) (n a q handle plug : ℕ) (form : CommandForm) (y : IsAccepted w h v.host k n a q handle plug form) where
    abbrev given : List Entry
    given = entry.Given (input.Submit n a form) ∷ entry.Accept n a q ∷ []

    inside : (1 ≤ q) × (q ≤ 256)
    inside = let i = y.least.inside in (omega (arith, i), omega (arith, i))

    free : slot w.host q ≡ Free
    free = y.least.free

    pub accepted_kept : Kept w h v k (Other q)
    accepted_kept =
        record {
          stage = λ s p. ap (λ x. stage_of x s) y.told ∙ stage_stays h (entry.Given (input.Submit n a form) ∷ entry.Accept n a q ∷ []) s (refl, (p, tt));
          mark = λ s p m. subst (λ (x : History). (x.walk s).stopped ≡ true) (sym y.told) (mark_stays h (entry.Given (input.Submit n a form) ∷ entry.Accept n a q ∷ []) s (refl, (p, tt)) m);
          was = λ s m p e. was s m p e;
          outcome = λ s m r p e o. subst (λ (x : History). x.machine.outcome m ≡ Some r) (sym y.told) (by_number s m r (was s m p e) o (m == n) refl);
        }
      where
        was : (s m : ℕ) → (s == q) ≡ false → slot v.host s ≡ Open (request.Command m) → slot w.host s ≡ Open (request.Command m)
        was s m p e =
            let l = f.flights.sizes.pool in let i = inside in
            let c = slot_of-set w.host.pool q s (Open (request.Command n)) i.0 (omega (arith, i, l)) in
            sym (c ∙ ap (λ b. cond b (Open (request.Command n)) (slot_of w.host.pool s)) p) ∙ (sym (ap (λ (x : Host). slot x s) y.host) ∙ e)

        by_number : (s m : ℕ) (r : ScsiResult) → slot w.host s ≡ Open (request.Command m) → h.machine.outcome m ≡ Some r → (b : Bool) → (m == n) ≡ b → (history_after h (entry.Given (input.Submit n a form) ∷ entry.Accept n a q ∷ [])).machine.outcome m ≡ Some r
        by_number s m r o e false t = accepted_outcome (record { machine = h.machine; so_far = h.so_far }) n a plug q form y.ready m t ∙ e
        by_number s m r o e true t = absurd (no_command w h f n (asks.not_open w h f (history_after h []) n y.fresh) s (o ∙ ap (λ j. Open (request.Command j)) (equal m n t)))

    pub accepted_lists : Staged v k w
    accepted_lists = let i = inside in moved w h v k (Other q) accepted_kept w (clear_of q w (nowhere w h f.flights q i.0 (omega (arith, i)) free)) (begin w h f tags)

    pub accepted_out : All (DownAt v k Accepted) v.host.out
    accepted_out =
        subst (All (DownAt v k Accepted)) (sym (ap (λ (x : Host). x.out) y.host))
        (all_more (DownAt v k Accepted) w.host.out _ accepted_lists.out (λ c. subst (λ j. stage_of k j ≡ Accepted) (sym its) (ap (λ x. stage_of x q) y.told ∙ accepted_stage q n a (walk_next q (h.walk q) (entry.Given (input.Submit n a form))))))
      where
        its : smid_in (Rattle.mpt_wire.specs.Messages.Fields.post_descriptor post.ScsiIo ((q - 1) % host_queue_count w.host) q handle) ≡ q
        its =
            let some = f.flights.sizes.some_queue in let few = f.flights.sizes.few_queues in let i = inside in
            let m : (q - 1) % host_queue_count w.host < host_queue_count w.host = mod-lt (q - 1) (let x : 0 < host_queue_count w.host = omega (arith, some) in x) in
            smid_posted post.ScsiIo ((q - 1) % host_queue_count w.host) q handle (omega (arith, m, few)) (omega (arith, i))

  -- ---- the host by itself

  module _ (x : Host) (t : List Entry) (l : Leads w h x (history_after h t)) (z : Flights (record w { host = x }) (history_after h t)) (g : (n : Heard) × HostGoes w x n) where
    abbrev V : World
    V = record w { host = x }

    abbrev K : History
    K = history_after h t

    into : Staged V K w → All (DownAt V K Accepted) x.out → Staged V K V
    into y a = record { out = a; down = y.down; normal = y.normal; sending = y.sending; sent = y.sent; tasks = y.tasks; made = y.made; back = y.back; said = y.said; up = y.up }

    -- unless it accepts a submission its entries name none
    pub host_alone : (((n : ℕ) → finset.contains w.host.accepted n ≡ false → finmap.get x.cmds n ≡ None) → EachEntry IsQuiet t) → Staged V K V
    host_alone q = by_leads l
      where
        by_leads : Leads w h x (history_after h t) → Staged V K V
        by_leads (Accepts n a s handle plug form y) = into (accepted_lists V K n a s handle plug form y) (accepted_out V K n a s handle plug form y)
        by_leads (Goes hand a fo) =
            let s = q (λ n c. closed n c (finmap.get x.cmds n) refl) in
            let m = by_follow V K z Anyone hand fo (λ j u. stage_stays h t j (silent j t s)) (λ j u. mark_stays h t j (silent j t s)) in
            into (moved w h V K Anyone m w (clear_all w) (begin w h f tags))
            (out_staged V K z g.0 g.1 refl refl (λ j n e. ((followed w h f V K z hand fo j n e).0, (refl, stage_stays h t j (silent j t s)))))
          where
            closed : (n : ℕ) → finset.contains w.host.accepted n ≡ false → (o : Option Cmd) → finmap.get x.cmds n ≡ o → o ≡ None
            closed n c None e = refl
            closed n c (Some d) e = let y = fo.less_cmds n d e in let u = asks.not_open w h f (history_after h []) n c in let i : None ≡ Some d = sym u ∙ y in absurd (cc)
        by_leads (Ends u p c b d) =
            let s = q (λ n i. ap (λ m. finmap.get m n) c ∙ finmap.get-empty nat_cmp n) in
            let m = by_end V K z Anyone p (λ j u. stage_stays h t j (silent j t s)) (λ j u. mark_stays h t j (silent j t s)) in
            into (moved w h V K Anyone m w (clear_all w) (begin w h f tags))
            (staged_down V K Accepted x.out (λ j i e. let n = asked_is (slot x j) e in let o : Free ≡ Open (request.Command n.0) = sym (all_are_free j) ∙ (sym (ap (λ pool. slot_of pool j) p) ∙ n.1) in absurd (cc)))

  -- ---- what is asked of it

  submit_quiet : (n a : ℕ) (form : CommandForm) (used up : Bool) (handle : Option ℕ) (fit : Bool) (least : Option ℕ) → finset.contains w.host.accepted n ≡ used
      → (finset.contains w.host.accepted n ≡ false → finmap.get (submits_by w.host n a (command_named form) used up handle fit least).part.cmds n ≡ None)
      → EachEntry IsQuiet (by_result (input.Submit n a form) (entry.RefuseSubmit n) (submits_by w.host n a (command_named form) used up handle fit least)).entries
  submit_quiet n a form true up handle fit least e c = (tt, (tt, tt))
  submit_quiet n a form false false handle fit least e c = (tt, (tt, tt))
  submit_quiet n a form false true None fit least e c = (tt, (tt, tt))
  submit_quiet n a form false true (Some x) false least e c = (tt, (tt, tt))
  submit_quiet n a form false true (Some x) true None e c = (tt, (tt, tt))
  submit_quiet n a form false true (Some x) true (Some s) e c =
      let d : Cmd = record { smid = s; handle = x } in
      let i : None ≡ Some d = sym (c e) ∙ get_inserted w.host.cmds n d in absurd (cc)

  pub told_quiet_of : (i : Input) → IsHosts i → ((n : ℕ) → finset.contains w.host.accepted n ≡ false → finmap.get (host_told w.host i).part.cmds n ≡ None) → EachEntry IsQuiet (host_told w.host i).entries
  told_quiet_of input.Start c a = input_quiet (host_told w.host input.Start).entries (input_words w.host input.Start) (tame.option_tame input.Start call.Start (inputs.starts_in w.host w.host.mode) (tame.starts_tame w.host w.host.mode))
  told_quiet_of (input.Submit n d form) c a =
      submit_quiet n d form (finset.contains w.host.accepted n) (is_up w.host.mode) (ready_handle w.host.phases d) (fits (command_named form)) (least_free class.ScsiIo w.host.pool) refl (a n)
  told_quiet_of (input.Abort n) c a =
      let o = aborts_by w.host n (is_up w.host.mode) (finmap.get w.host.cmds n) (finmap.get w.host.aborts n) (least_free class.High w.host.pool) in
      input_quiet (host_told w.host (input.Abort n)).entries (input_words w.host (input.Abort n)) (tame.result_tame (input.Abort n) (entry.Refuse (call.Abort n)) o (λ x. tt) (tame.aborts_tame w.host n (is_up w.host.mode) (finmap.get w.host.cmds n) (finmap.get w.host.aborts n) (least_free class.High w.host.pool)))
  told_quiet_of (input.TargetReset address) c a =
      let o = resets_target_by w.host address (is_up w.host.mode) (ready_handle w.host.phases address) (least_free class.High w.host.pool) in
      input_quiet (host_told w.host (input.TargetReset address)).entries (input_words w.host (input.TargetReset address)) (tame.result_tame (input.TargetReset address) (entry.Refuse (call.TargetReset address)) o (λ x. tt) (tame.targets_tame w.host address (is_up w.host.mode) (ready_handle w.host.phases address) (least_free class.High w.host.pool)))
  told_quiet_of input.Reset c a = input_quiet (host_told w.host input.Reset).entries (input_words w.host input.Reset) (tame.option_tame input.Reset call.Reset (inputs.diag_resets_in w.host w.host.mode) (tame.diag_tame w.host w.host.mode))
  told_quiet_of input.UnitReset c a = input_quiet (host_told w.host input.UnitReset).entries (input_words w.host input.UnitReset) (tame.option_tame input.UnitReset call.UnitReset (inputs.unit_resets_in w.host w.host.mode) (tame.unit_tame w.host w.host.mode))
  told_quiet_of (input.Plug address expander phy) c a = absurd c
  told_quiet_of (input.Unplug address) c a = absurd c

  pub asked_of_host : (i : Input) → IsHosts i → HostGoes w (host_told w.host i).part Rattle.law_moves.proofs.HostGoes.NoNews → Leads w h (host_told w.host i).part (history_after h (host_told w.host i).entries) → Flights (record w { host = (host_told w.host i).part }) (history_after h (host_told w.host i).entries)
      → Staged (record w { host = (host_told w.host i).part }) (history_after h (host_told w.host i).entries) (record w { host = (host_told w.host i).part })
  asked_of_host i c g l z = host_alone (host_told w.host i).part (host_told w.host i).entries l z (Rattle.law_moves.proofs.HostGoes.NoNews, g) (told_quiet_of i c)

  -- ---- an item of a reply queue is taken

  module _ (queue : ℕ) (x : Up) (rest : List Up) (e : up_on w queue ≡ x ∷ rest) (g : (n : Heard) × HostGoes w (hears_up w.host queue x).part n)
      (l : Leads w h (hears_up w.host queue x).part (history_after h (entry.Take (up_lane queue) (item.Up x) ∷ (hears_up w.host queue x).entries)))
      (z : Flights (record (with_up w queue rest) { host = (hears_up w.host queue x).part }) (history_after h (entry.Take (up_lane queue) (item.Up x) ∷ (hears_up w.host queue x).entries))) where
    abbrev Then : World
    Then = record (with_up w queue rest) { host = (hears_up w.host queue x).part }

    abbrev Told : List Entry
    Told = entry.Take (up_lane queue) (item.Up x) ∷ (hears_up w.host queue x).entries

    abbrev Said : History
    Said = history_after h (entry.Take (up_lane queue) (item.Up x) ∷ (hears_up w.host queue x).entries)

    left : Staged w h (with_up w queue rest)
    left = let b = begin w h f tags in record { out = b.out; down = b.down; normal = b.normal; sending = b.sending; sent = b.sent; tasks = b.tasks; made = b.made; back = b.back; said = b.said; up = lanes_left (UpStage w h) w.up queue x rest e b.up }

    finish : Staged Then Said (with_up w queue rest) → All (DownAt Then Said Accepted) (hears_up w.host queue x).part.out → Staged Then Said Then
    finish y a = record { out = a; down = y.down; normal = y.normal; sending = y.sending; sent = y.sent; tasks = y.tasks; made = y.made; back = y.back; said = y.said; up = y.up }

    by_accept : (n a s handle plug : ℕ) (form : CommandForm) → IsAccepted w h (hears_up w.host queue x).part Said n a s handle plug form → Staged Then Said Then
    by_accept n a s handle plug form y =
        let b = accepted_lists Then Said n a s handle plug form y in
        finish (record { out = b.out; down = b.down; normal = b.normal; sending = b.sending; sent = b.sent; tasks = b.tasks; made = b.made; back = b.back; said = b.said; up = lanes_left (UpStage Then Said) w.up queue x rest e b.up }) (accepted_out Then Said n a s handle plug form y)

    -- replies to others are as many as before
    lanes_same : (s : ℕ) → Rattle.mpt_rules.specs.Ioc.Places.is_reply_of s (said_of x) ≡ false → sum_by (replies_on s) (set w.up queue rest) ≡ sum_by (replies_on s) w.up
    lanes_same s n =
        let a = sum_by-set (replies_on s) w.up queue rest [] (lane_within w.up queue x rest e) in
        let b = ap (replies_on s) e in
        let c = reply_count-cons s (said_of x) (map said_of rest) in
        let o : one_if (Rattle.mpt_rules.specs.Ioc.Places.is_reply_of s (said_of x)) ≡ 0 = ap one_if n in
        omega (arith, a, b, c, o)

    lanes_less : (s : ℕ) → Rattle.mpt_rules.specs.Ioc.Places.is_reply_of s (said_of x) ≡ true → sum_by (replies_on s) (set w.up queue rest) + 1 ≡ sum_by (replies_on s) w.up
    lanes_less s n =
        let a = sum_by-set (replies_on s) w.up queue rest [] (lane_within w.up queue x rest e) in
        let b = ap (replies_on s) e in
        let c = reply_count-cons s (said_of x) (map said_of rest) in
        let o : one_if (Rattle.mpt_rules.specs.Ioc.Places.is_reply_of s (said_of x)) ≡ 1 = ap one_if n in
        omega (arith, a, b, c, o)

    ends_none : (Apart : ℕ → Type 0) → (hears_up w.host queue x).part.pool ≡ all_free → All (DownAt Then Said Accepted) (hears_up w.host queue x).part.out
    ends_none Apart p = staged_down Then Said Accepted (hears_up w.host queue x).part.out (λ j i c. let n = asked_is (slot (hears_up w.host queue x).part j) c in let o : Free ≡ Open (request.Command n.0) = sym (all_are_free j) ∙ (sym (ap (λ pool. slot_of pool j) p) ∙ n.1) in absurd (cc))

    -- an item that is no command's reply
    took_plain : ((s : ℕ) → Silent s Told) → ((s n : ℕ) → slot (hears_up w.host queue x).part s ≡ Open (request.Command n) → Rattle.mpt_rules.specs.Ioc.Places.is_reply_of s (said_of x) ≡ false) → Staged Then Said Then
    took_plain q other = by_leads l
      where
        by_leads : Leads w h (hears_up w.host queue x).part Said → Staged Then Said Then
        by_leads (Accepts n a s handle plug form y) = by_accept n a s handle plug form y
        by_leads (Goes hand a fo) =
            let m = by_follow Then Said z Anyone hand fo (λ j u. stage_stays h Told j (q j)) (λ j u. mark_stays h Told j (q j)) in
            finish (moved w h Then Said Anyone m (with_up w queue rest) (clear_all (with_up w queue rest)) left)
            (out_staged Then Said z g.0 g.1 refl refl (λ j n c. ((followed w h f Then Said z hand fo j n c).0, (lanes_same j (other j n c), stage_stays h Told j (q j)))))
        by_leads (Ends u p c b d) =
            let m = by_end Then Said z Anyone p (λ j u. stage_stays h Told j (q j)) (λ j u. mark_stays h Told j (q j)) in
            finish (moved w h Then Said Anyone m (with_up w queue rest) (clear_all (with_up w queue rest)) left) (ends_none Anyone p)

    -- a command's reply
    took_named : (q : ℕ) → (1 ≤ q) × (q ≤ 280) → Rattle.mpt_rules.specs.Ioc.Places.is_reply_of q (said_of x) ≡ true → ((s : ℕ) → (s == q) ≡ false → Silent s Told) → ((s : ℕ) → (s == q) ≡ false → Rattle.mpt_rules.specs.Ioc.Places.is_reply_of s (said_of x) ≡ false)
        → ((n : ℕ) → slot (hears_up w.host queue x).part q ≡ Open (request.Command n) → ⊥) → Staged Then Said Then
    took_named q i r s other gone = by_leads l
      where
        zero_left : spots (with_up w queue rest) q ≡ 0
        zero_left = let a = alone w h f.flights q i.0 i.1 in let b = lanes_less q r in omega (arith, a, b)

        apart : (j n : ℕ) → slot (hears_up w.host queue x).part j ≡ Open (request.Command n) → (j == q) ≡ false
        apart j n c = by_key (j == q) refl
          where
            by_key : (b : Bool) → (j == q) ≡ b → b ≡ false
            by_key false t = refl
            by_key true t = absurd (gone n (subst (λ m. slot (hears_up w.host queue x).part m ≡ Open (request.Command n)) (equal j q t) c))

        by_leads : Leads w h (hears_up w.host queue x).part Said → Staged Then Said Then
        by_leads (Accepts n a s2 handle plug form y) = by_accept n a s2 handle plug form y
        by_leads (Goes hand a fo) =
            let m = by_follow Then Said z (Other q) hand fo (λ j u. stage_stays h Told j (s j u)) (λ j u. mark_stays h Told j (s j u)) in
            finish (moved w h Then Said (Other q) m (with_up w queue rest) (clear_of q (with_up w queue rest) zero_left) left)
            (out_staged Then Said z g.0 g.1 refl refl (λ j n c. let u = apart j n c in ((followed w h f Then Said z hand fo j n c).0, (lanes_same j (other j u), stage_stays h Told j (s j u)))))
        by_leads (Ends u p c b d) =
            let m = by_end Then Said z (Other q) p (λ j u. stage_stays h Told j (s j u)) (λ j u. mark_stays h Told j (s j u)) in
            finish (moved w h Then Said (Other q) m (with_up w queue rest) (clear_of q (with_up w queue rest) zero_left) left) (ends_none Anyone p)

  pub takes_up : (queue : ℕ) (x : Up) (rest : List Up) → up_on w queue ≡ x ∷ rest → (n : Heard) × HostGoes w (hears_up w.host queue x).part n
      → Leads w h (hears_up w.host queue x).part (history_after h (entry.Take (up_lane queue) (item.Up x) ∷ (hears_up w.host queue x).entries))
      → Flights (record (with_up w queue rest) { host = (hears_up w.host queue x).part }) (history_after h (entry.Take (up_lane queue) (item.Up x) ∷ (hears_up w.host queue x).entries))
      → Staged (record (with_up w queue rest) { host = (hears_up w.host queue x).part }) (history_after h (entry.Take (up_lane queue) (item.Up x) ∷ (hears_up w.host queue x).entries)) (record (with_up w queue rest) { host = (hears_up w.host queue x).part })
  takes_up queue (up.Value value) rest e g l z = took_plain queue (up.Value value) rest e g l z (λ s. (refl, silent s (hears_up w.host queue (up.Value value)).entries (hears_quietly w.host queue (up.Value value)))) (λ s n c. refl)
  takes_up queue (up.Mark generation) rest e g l z = took_plain queue (up.Mark generation) rest e g l z (λ s. (refl, silent s (hears_up w.host queue (up.Mark generation)).entries (hears_quietly w.host queue (up.Mark generation)))) (λ s n c. refl)
  takes_up queue up.Calm rest e g l z = took_plain queue up.Calm rest e g l z (λ s. (refl, tt)) (λ s n c. refl)
  takes_up queue (up.Reply d frame page sense) rest e g l z = by_name_of (names_command (smid_in d) d) refl
    where
      is_reply : (s : ℕ) (o : Option (List ℕ)) (b : Bool) → (smid_in d == s) ≡ b → Rattle.mpt_rules.specs.Ioc.Places.is_reply_of s (said_of (up.Reply d o page sense)) ≡ b
      is_reply s None b t = t
      is_reply s (Some y) b t = t

      cmds_gone : (n : ℕ) (y : Slot Request) → slot w.host (smid_in d) ≡ y → y ≡ Open (request.Command n) → finmap.get (replies.hears_reply_to (replies.takes_entry (replies.with_frame_heard w.host d frame) queue) (smid_in d) (record_of y) (replies.heard_of d frame page sense)).part.cmds n ≡ None
      cmds_gone n Free i u = absurd (cc)
      cmds_gone n Parked i u = absurd (cc)
      cmds_gone n (Open r) i u =
          let a : r ≡ request.Command n = cc in
          subst (λ q. finmap.get (replies.hears_answer (replies.takes_entry (replies.with_frame_heard w.host d frame) queue) (smid_in d) q (replies.heard_of d frame page sense)).part.cmds n ≡ None) (sym a) (get_removed (replies.takes_entry (replies.with_frame_heard w.host d frame) queue).cmds n)

      gone : (n : ℕ) → slot (hears_up w.host queue (up.Reply d frame page sense)).part (smid_in d) ≡ Open (request.Command n) → ⊥
      gone n c = by_leads l
        where
          some : (c : Cmd) (o : Option Cmd) → o ≡ Some c → o ≡ None → ⊥
          some c None a b = cc
          some c (Some y) a b = cc

          by_leads : Leads w h (hears_up w.host queue (up.Reply d frame page sense)).part (history_after h (entry.Take (up_lane queue) (item.Up (up.Reply d frame page sense)) ∷ (hears_up w.host queue (up.Reply d frame page sense)).entries)) → ⊥
          by_leads (Goes hand a fo) =
              let o = (followed w h f (record (with_up w queue rest) { host = (hears_up w.host queue (up.Reply d frame page sense)).part }) (history_after h (entry.Take (up_lane queue) (item.Up (up.Reply d frame page sense)) ∷ (hears_up w.host queue (up.Reply d frame page sense)).entries)) z hand fo (smid_in d) n c).0 in
              let m = numbered (record (with_up w queue rest) { host = (hears_up w.host queue (up.Reply d frame page sense)).part }) (history_after h (entry.Take (up_lane queue) (item.Up (up.Reply d frame page sense)) ∷ (hears_up w.host queue (up.Reply d frame page sense)).entries)) z (smid_in d) n c in
              some m.0 (finmap.get (hears_up w.host queue (up.Reply d frame page sense)).part.cmds n) m.1 (cmds_gone n (slot w.host (smid_in d)) refl o)
          by_leads (Ends u p c2 b i) = let o : Free ≡ Open (request.Command n) = sym (all_are_free (smid_in d)) ∙ (sym (ap (λ pool. slot_of pool (smid_in d)) p) ∙ c) in cc
          by_leads (Accepts m a s handle plug form y) = accepted_apart m a s handle plug form y (smid_in d == s) refl
            where
              accepted_apart : (m a s handle plug : ℕ) (form : CommandForm) → IsAccepted w h (hears_up w.host queue (up.Reply d frame page sense)).part (history_after h (entry.Take (up_lane queue) (item.Up (up.Reply d frame page sense)) ∷ (hears_up w.host queue (up.Reply d frame page sense)).entries)) m a s handle plug form → (b : Bool) → (smid_in d == s) ≡ b → ⊥
              accepted_apart m a s handle plug form y true t =
                  let lanes = lanes_less queue (up.Reply d frame page sense) rest e g l z (smid_in d) (is_reply (smid_in d) frame true (same (smid_in d))) in
                  let i = inside (record (with_up w queue rest) { host = (hears_up w.host queue (up.Reply d frame page sense)).part }) (history_after h (entry.Take (up_lane queue) (item.Up (up.Reply d frame page sense)) ∷ (hears_up w.host queue (up.Reply d frame page sense)).entries)) m a s handle plug form y in
                  let n0 = nowhere w h f.flights s i.0 (omega (arith, i)) y.least.free in
                  let n1 = subst (λ j. spots w j ≡ 0) (sym (equal (smid_in d) s t)) n0 in
                  omega (arith, lanes, n1)
              accepted_apart m a s handle plug form y false t =
                  let o = (accepted_kept (record (with_up w queue rest) { host = (hears_up w.host queue (up.Reply d frame page sense)).part }) (history_after h (entry.Take (up_lane queue) (item.Up (up.Reply d frame page sense)) ∷ (hears_up w.host queue (up.Reply d frame page sense)).entries)) m a s handle plug form y).was (smid_in d) n t c in
                  let u = numbered (record (with_up w queue rest) { host = (hears_up w.host queue (up.Reply d frame page sense)).part }) (history_after h (entry.Take (up_lane queue) (item.Up (up.Reply d frame page sense)) ∷ (hears_up w.host queue (up.Reply d frame page sense)).entries)) z (smid_in d) n c in
                  some u.0 (finmap.get (hears_up w.host queue (up.Reply d frame page sense)).part.cmds n) u.1 (cmds_gone n (slot w.host (smid_in d)) refl o)

      by_name_of : (b : Bool) → names_command (smid_in d) d ≡ b → Staged (record (with_up w queue rest) { host = (hears_up w.host queue (up.Reply d frame page sense)).part }) (history_after h (entry.Take (up_lane queue) (item.Up (up.Reply d frame page sense)) ∷ (hears_up w.host queue (up.Reply d frame page sense)).entries)) (record (with_up w queue rest) { host = (hears_up w.host queue (up.Reply d frame page sense)).part })
      by_name_of true t =
          took_named queue (up.Reply d frame page sense) rest e g l z (smid_in d) (named_within d t) (is_reply (smid_in d) frame true (same (smid_in d)))
          (λ s n. (not_named s d n, silent s (hears_up w.host queue (up.Reply d frame page sense)).entries (hears_quietly w.host queue (up.Reply d frame page sense))))
          (λ s n. is_reply s frame false (Rattle.law_paths.proofs.Entries.turned s (smid_in d) n)) gone
      by_name_of false t =
          took_plain queue (up.Reply d frame page sense) rest e g l z
          (λ s. (unnamed s d t, silent s (hears_up w.host queue (up.Reply d frame page sense)).entries (hears_quietly w.host queue (up.Reply d frame page sense))))
          (λ s n c. is_reply s frame false (not_it s n c (smid_in d == s) refl))
        where
          not_it : (s n : ℕ) → slot (hears_up w.host queue (up.Reply d frame page sense)).part s ≡ Open (request.Command n) → (b : Bool) → (smid_in d == s) ≡ b → b ≡ false
          not_it s n c false y = refl
          not_it s n c true y =
              let i = low (record (with_up w queue rest) { host = (hears_up w.host queue (up.Reply d frame page sense)).part }) (history_after h (entry.Take (up_lane queue) (item.Up (up.Reply d frame page sense)) ∷ (hears_up w.host queue (up.Reply d frame page sense)).entries)) z s n c in
              not_both (names_command (smid_in d) d) t (let u = equal (smid_in d) s y in is_named d (omega (arith, i, u)) (omega (arith, i, u)))
