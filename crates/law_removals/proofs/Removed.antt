-- The rule of removals knows each remove device that is queued, and each handle that is freed is that of one.
use Rattle.std.proofs.Common.{◌≡◌, ◌≢◌, ℕ, zero, suc, ◌+◌, ◌-◌, ◌≤◌, ◌<◌, ◌||◌, get_or, ◌^◌, ◌==◌, ◌&&◌, not, Bool, true, false, if◌then◌else◌, List, [], ◌∷◌, ◌++◌, sum_by, slice_get, get_or-set_same, Option, Some, None, refl, ap, sym, ◌∙◌, subst, arith}
use Rattle.std.specs.Prelude.{All}
use Rattle.std.specs.List.{filter}
use Rattle.std.proofs.lemmas.Bool.{eqb-true}
use Rattle.std.specs.Bool.{then_some}
use Rattle.std.proofs.lemmas.List.{map-append}
use Rattle.std.proofs.lemmas.List.Elements.{All-get_or, All-head}
use Rattle.ioc_msgs.specs.UnitControl.{unit_control_layout, unit_control_values}
use Rattle.mpt_messages.proofs.FrameStands.{host_frame_stands}
use Rattle.mpt_messages.proofs.HostFits.{removal_fits}
use Rattle.smid_pool.specs.Pool.{Slot, Free, Open, Parked}
use Rattle.removal.specs.Handles.{IsHandle}
use Rattle.mpi_doorbell.specs.DoorRegisters.{register_written}
use Rattle.mpi_doorbell.specs.declared.effect.Effect.{Effect}
use Rattle.mpi_doorbell.specs.declared.effect.Effect.TheVariants as effect
use Rattle.mpi_doorbell.specs.declared.state.IocState.{IocState}
use Rattle.mpi_doorbell.specs.declared.state.IocState.TheVariants as ioc_state
use Rattle.mpi_rings.specs.declared.request_descriptor.PostKind.{PostKind}
use Rattle.mpi_rings.specs.declared.request_descriptor.PostKind.TheVariants as post
use Rattle.mpt_messages.specs.Function.{byte_of}
use Rattle.mpt_messages.specs.declared.function.Function.TheVariants as function
use Rattle.mpt_messages.specs.declared.host_ask.HostAsk.TheVariants as ask
use Rattle.mpt_wire.specs.Handles.Names.{is_removal}
use Rattle.mpt_wire.specs.Handles.Removals.{removal_began, removals_next}
use Rattle.mpt_wire.specs.Machine.State.{put_at}
use Rattle.mpt_wire.specs.Messages.Fields.{controlled_handle_in, function_in, kind_in, operation_in, remove_device, smid_in}
use Rattle.mpt_wire.specs.Walks.Passes.{EachEntry, state_after}
use Rattle.mpt_trace.specs.declared.entry.Entry.{Entry}
use Rattle.mpt_trace.specs.declared.entry.Entry.TheVariants as entry
use Rattle.mpt_trace.specs.declared.item.Down.{Down}
use Rattle.mpt_trace.specs.declared.item.Down.TheVariants as down
use Rattle.mpt_trace.specs.declared.item.Item.TheVariants as item
use Rattle.mpt_trace.specs.declared.item.Up.{Up}
use Rattle.mpt_trace.specs.declared.item.Up.TheVariants as upward
use Rattle.mpt_trace.specs.declared.lane.LaneName.TheVariants as lane
use Rattle.mpt_rules.specs.declared.post.Post.{Post}
use Rattle.mpt_rules.specs.declared.request.Request.{Request}
use Rattle.mpt_rules.specs.declared.request.Request.TheVariants as request
use Rattle.mpt_rules.specs.declared.said.Said.{Said}
use Rattle.mpt_rules.specs.Host.Posts.{frame_asked}
use Rattle.mpt_rules.specs.Host.Returns.{after_sent}
use Rattle.mpt_rules.specs.Host.Takes.{hears_up}
use Rattle.mpt_rules.specs.Ioc.Parts.{Ioc, state_of}
use Rattle.mpt_rules.specs.Ioc.Places.{is_reply_of}
use Rattle.mpt_rules.specs.Ioc.Posts as posts
use Rattle.mpt_rules.specs.Ioc.Registers as registers
use Rattle.mpt_rules.specs.Ioc.Replies.{outbox_of}
use Rattle.mpt_rules.specs.Ioc.Tables.{is_post_of, is_ready, is_operational, is_unanswered}
use Rattle.mpt_rules.specs.Ioc.Takes as adapter
use Rattle.mpt_rules.specs.Law.{NothingIsStrange}
use Rattle.mpt_rules.specs.World.Cases.{Case, entries, happens}
use Rattle.mpt_rules.specs.World.Counts.{how_many, one_if, post_count, queued_count, reply_count}
use Rattle.mpt_rules.specs.World.Inputs.{host_told}
use Rattle.mpt_rules.specs.World.Lines.{down_line, said_of}
use Rattle.mpt_rules.specs.World.PlaceCounts.{replies_on}
use Rattle.mpt_rules.specs.World.Places.{is_posted_as}
use Rattle.mpt_rules.specs.World.State.{World, up_lane, up_on, with_up}
use Rattle.mpt_rules.proofs.Counts.{queued_count-append, queued_count-cons, queued_count-nil, reply_count-append, reply_count-cons, reply_count-nil}
use Rattle.law_facts.specs.Clock.{is_linked_up}
use Rattle.law_facts.specs.Facts.{Facts}
use Rattle.law_facts.specs.Handles.{RemovalIsKnown}
use Rattle.law_facts.specs.History.{History, history_after}
use Rattle.law_facts.specs.Limits.{RecordFits}
use Rattle.law_facts.specs.Messages.{DownIsRecord, PostIs}
use Rattle.law_facts.specs.Words.{is_bare, is_load, slot}
use Rattle.law_flights.proofs.HostHolds.{in_table}
use Rattle.law_handles.proofs.HostSays.{told_input}
use Rattle.law_handles.proofs.HostSilent.{quiet, quiet_taken}
use Rattle.law_handles.proofs.LifeWork.{handle_removed, operation_removed}
use Rattle.law_handles.proofs.Silent.{IsQuiet}
use Rattle.law_lights.proofs.Ones.{sum_at}
use Rattle.law_messages.proofs.Agreeing.{turned_false, turned_true}
use Rattle.law_moves.proofs.CasesTold.{IsPlugWord, OwesTold, kept_told}
use Rattle.law_moves.proofs.Counted.{fewer_pass, filtered}
use Rattle.law_moves.proofs.IocWords.{IsIocWord, back_words, works_words}
use Rattle.law_moves.proofs.IocTakes.{shook}
use Rattle.law_moves.proofs.IocTakes as leaf
use Rattle.law_moves.proofs.Phases.{and_false}
use Rattle.law_removals.proofs.Behind.{After, clash, had_record, in_range, posted}
use Rattle.law_removals.proofs.IocStays.{Loses, Shrinks, Stays, back_queues, work_queues}

-- ---- entries that say nothing of removals

quiet_next : (r : ℕ → Option ℕ) (e : Entry) → IsQuiet e → removals_next r e ≡ r
quiet_next r (entry.Put l i) q = absurd q
quiet_next r (entry.Take l i) q = absurd q
quiet_next r entry.UnbindAll q = absurd q
quiet_next r e q = refl

word_next : (r : ℕ → Option ℕ) (e : Entry) → IsIocWord e → removals_next r e ≡ r
word_next r (entry.Put l i) q = absurd q
word_next r (entry.Take l i) q = absurd q
word_next r entry.UnbindAll q = absurd q
word_next r e q = refl

plug_next : (r : ℕ → Option ℕ) (e : Entry) → IsPlugWord e → removals_next r e ≡ r
plug_next r (entry.Put l i) q = absurd q
plug_next r (entry.Take l i) q = absurd q
plug_next r entry.UnbindAll q = absurd q
plug_next r e q = refl

each_next : (Q : Entry → Type 0) → ((r : ℕ → Option ℕ) (e : Entry) → Q e → removals_next r e ≡ r) → (t : List Entry) → EachEntry Q t → (r : ℕ → Option ℕ) → state_after removals_next r t ≡ r
each_next Q n [] q r = refl
each_next Q n (e ∷ t) q r = ap (λ x. state_after removals_next x t) (n r e q.0) ∙ each_next Q n t q.1 r

-- ---- the queue

fewer_queued : (s : ℕ) (test : Post → Bool) (xs : List Post) → queued_count s (filter test xs) ≤ queued_count s xs
unfolding queued_count
fewer_queued s test xs = filtered (is_post_of s) test xs

shrinks : (s : ℕ) (xs ys : List Post) → Shrinks xs ys → queued_count s ys ≤ queued_count s xs
shrinks s xs ys Stays = omega arith
shrinks s xs ys (Loses test) = fewer_queued s test xs

own : (s : ℕ) → (s == s) ≡ true
own s = grind arith

module _ (i : Ioc) (s : ℕ) (q : Post) (other : is_post_of s q ≡ false) where
  queued_as : (k : PostKind) → queued_count s (posts.with_post_queued i q k).normal ≡ queued_count s i.normal
  queued_as post.HighPriority = refl
  queued_as post.ScsiIo = let a = queued_count-append s i.normal (q ∷ []) in let c = queued_count-cons s q [] in let n = queued_count-nil s in let z = ap one_if other in omega (arith, a, c, n, z)
  queued_as post.Default = let a = queued_count-append s i.normal (q ∷ []) in let c = queued_count-cons s q [] in let n = queued_count-nil s in let z = ap one_if other in omega (arith, a, c, n, z)

  queued_if : (k : PostKind) (a b : Bool) → queued_count s (if a then Rattle.mpt_rules.specs.Ioc.Tables.faults i posts.bad_post else if b then Rattle.mpt_rules.specs.Ioc.Tables.faults i posts.identifier_in_use else posts.with_post_queued i q k).normal ≡ queued_count s i.normal
  queued_if k true b = refl
  queued_if k false true = refl
  queued_if k false false = queued_as k

  queued_by : (o : Option PostKind) → queued_count s (posts.posts_if i q o).normal ≡ queued_count s i.normal
  queued_by None = refl
  queued_by (Some k) = queued_if k (not (posts.is_in_class (posts.class_of k) (smid_in q.descriptor))) (is_unanswered i (smid_in q.descriptor))

-- a post of another identifier
other_post : (i : Ioc) (s d : ℕ) (f p : List ℕ) → (smid_in d == s) ≡ false → queued_count s (adapter.takes_down i (down.Post d f p)).part.normal ≡ queued_count s i.normal
other_post i s d f p e = by_state (is_operational i.door.state)
  where
    by_state : (b : Bool) → queued_count s (if b then posts.ioc_takes_post i d f p else i).normal ≡ queued_count s i.normal
    by_state true = queued_by i s (record { descriptor = d; frame = f; payload = p }) e (kind_in d)
    by_state false = refl

-- ---- a remove device

byte_removed : (g : ℕ) → g < 2 ^ 16 → function_in (frame_asked (ask.Remove g)) ≡ byte_of function.UnitControl
unfolding unit_control_layout unit_control_values
byte_removed g l = ap (λ vs. get_or vs 3 0) (host_frame_stands (ask.Remove g) (removal_fits g l)).numbers

pub removal_frame : (g : ℕ) (fr : List ℕ) → IsHandle g → fr ≡ frame_asked (ask.Remove g) → (is_removal fr ≡ true) × (controlled_handle_in fr ≡ g)
removal_frame g fr i e =
    let low : g < 2 ^ 16 = (let b = i.1 in omega (arith, b)) in (
      both (function_in fr == byte_of function.UnitControl) (operation_in fr == remove_device) (equal (function_in fr) (byte_of function.UnitControl) (ap function_in e ∙ byte_removed g low)) (equal (operation_in fr) remove_device (ap operation_in e ∙ operation_removed g low)),
      ap controlled_handle_in e ∙ handle_removed g low,
    )
  where
    both : (a b : Bool) → a ≡ true → b ≡ true → (a && b) ≡ true
    both a b x y = ap (λ c. c && b) x ∙ y

    equal : (m n : ℕ) → m ≡ n → (m == n) ≡ true
    equal m n z = grind (arith, z)

abbrev removal_told : (ℕ → Option ℕ) → ℕ → ℕ → Bool → (ℕ → Option ℕ)
removal_told r s g b = removal_began r (then_some b (record { smid = s; handle = g }))

pub record_fits : (w : World) (h : History) → Facts w h → (s : ℕ) (r : Request) → slot w.host s ≡ Open r → RecordFits (Open r)
record_fits w h f s r e =
    let z = in_table w.host.pool s (Open r) e (λ u. absurd (cc)) in
    subst RecordFits (place_of s e) (All-get_or RecordFits w.host.pool (s - 1) Free z.1 f.limits.records)
  where
    place_of : (s : ℕ) → slot w.host s ≡ Open r → get_or w.host.pool (s - 1) Free ≡ Open r
    place_of zero o = absurd (cc)
    place_of (suc s) o = let e : suc s - 1 ≡ s = omega arith in ap (λ j. get_or w.host.pool j Free) e ∙ o

load_of : (s : ℕ) (x : Down) → is_posted_as s x ≡ true → is_load x ≡ true
load_of s (down.Post d f p) e = refl
load_of s (down.Write reg value) e = absurd (cc)
load_of s (down.Read reg) e = absurd (cc)
load_of s (down.Return address i) e = absurd (cc)
load_of s down.Stop e = absurd (cc)

few_loads : (s : ℕ) (xs : List Down) → post_count s xs ≤ how_many is_load xs
unfolding post_count
few_loads s xs = fewer_pass (is_posted_as s) is_load (load_of s) xs

module _ (w : World) (h : History) (f : Facts w h) where
  pub dead : (s : ℕ) → 1 ≤ posted w s → is_linked_up w ≡ true → ⊥
  dead s l u =
      let b = by_state (state_of w.ioc) (and_false _ _ u).1 in
      let t = f.clock.tables_empty b.0 in
      let a = ap (queued_count s) t.high in let c = ap (queued_count s) t.normal in let n = queued_count-nil s in
      clash (is_operational (state_of w.ioc)) (f.clock.loads_before_reset.live (some_load (omega (arith, a, c, n, l)))) b.1
    where
      by_state : (x : IocState) → is_ready x ≡ true → (is_bare x ≡ true) × (is_operational x ≡ false)
      by_state ioc_state.Reset e = absurd (cc)
      by_state ioc_state.Ready e = (refl, refl)
      by_state ioc_state.Operational e = absurd (cc)
      by_state (ioc_state.Fault code) e = absurd (cc)

      some_load : 1 ≤ post_count s (down_line w) → 1 ≤ how_many is_load (down_line w)
      some_load z = let m = few_loads s (down_line w) in omega (arith, z, m)

  module _ (s g : ℕ) where
    known : slot w.host s ≡ Open (request.Remove g) → 1 ≤ queued_count s w.ioc.normal → h.removals s ≡ Some g
    known e l = (subst (RemovalIsKnown w h s) e (f.handles.removals s)) l

    record P (v : World) (t : List Entry) : Type 0 where
      is : After w h v (history_after h t) → slot v.host s ≡ Open (request.Remove g) → 1 ≤ queued_count s v.ioc.normal → state_after removals_next h.removals t s ≡ Some g

    generic : (v : World) (t : List Entry) → (1 ≤ queued_count s v.ioc.normal → 1 ≤ queued_count s w.ioc.normal) → (After w h v (history_after h t) → 1 ≤ queued_count s v.ioc.normal → state_after removals_next h.removals t s ≡ h.removals s) → P v t
    generic v t u x =
        record { is = λ a e l. (let m = u l in x a l ∙ known (sym (had_record w h f v (history_after h t) a (dead s (omega (arith, m))) s (omega (arith, m))) ∙ e) m) }

    quietly : (v : World) (t : List Entry) → (1 ≤ queued_count s v.ioc.normal → 1 ≤ queued_count s w.ioc.normal) → state_after removals_next h.removals t ≡ h.removals → P v t
    quietly v t u x = generic v t u (λ a l. ap (λ r. r s) x)

    -- ---- an item of the host's

    in_limits : slot w.host s ≡ Open (request.Remove g) → IsHandle g
    in_limits e = record_fits w h f s (request.Remove g) e

    post_taken : (d : ℕ) (fr p : List ℕ) (rest : List Down) → w.down ≡ down.Post d fr p ∷ rest → P (record w { ioc = (adapter.takes_down w.ioc (down.Post d fr p)).part; down = rest }) (entry.Take lane.Down (item.Down (down.Post d fr p)) ∷ [])
    post_taken d fr p rest e = record { is = λ a o l. by_key o l (smid_in d == s) refl }
      where
        it : Post
        it = record { descriptor = d; frame = fr; payload = p }

        its_record : slot w.host s ≡ Open (request.Remove g) → smid_in d ≡ s → PostIs w h it (Open (request.Remove g))
        its_record o z =
            subst (PostIs w h it) (ap (slot w.host) z ∙ o)
            (All-head (DownIsRecord w h) (down.Post d fr p) (rest ++ w.host.out) (subst (λ xs. All (DownIsRecord w h) (xs ++ w.host.out)) e f.messages.down))

        by_key : slot w.host s ≡ Open (request.Remove g) → 1 ≤ queued_count s (adapter.takes_down w.ioc (down.Post d fr p)).part.normal → (c : Bool) → (smid_in d == s) ≡ c → removals_next h.removals (entry.Take lane.Down (item.Down (down.Post d fr p))) s ≡ Some g
        by_key o l true t =
            let z = eqb-true (smid_in d) s t in
            let r = removal_frame g fr (in_limits o) (its_record o z).1 in
            let same = turned_true (smid_in d) s t in
            ap (λ b. removal_told h.removals (smid_in d) (controlled_handle_in fr) b s) r.0 ∙ (ap (λ b. if b then Some (controlled_handle_in fr) else h.removals s) same ∙ ap Some r.1)
        by_key o l false t =
            let u = other_post w.ioc s d fr p t in
            let k = known o (omega (arith, u, l)) in
            let apart = turned_false (smid_in d) s t in
            by_removal (is_removal fr) (ap (λ b. if b then Some (controlled_handle_in fr) else h.removals s) apart ∙ k) k
          where
            by_removal : (b : Bool) → put_at (smid_in d) (Some (controlled_handle_in fr)) h.removals s ≡ Some g → h.removals s ≡ Some g → removal_told h.removals (smid_in d) (controlled_handle_in fr) b s ≡ Some g
            by_removal true x k = x
            by_removal false x k = k

    written : (reg value : ℕ) (rest : List Down) (x : Effect) → P (record w { ioc = (registers.after_effect (record w.ioc { door = (register_written w.ioc.door reg value).registers }) x).part; down = rest })
        (entry.Take lane.Down (item.Down (down.Write reg value)) ∷ (registers.after_effect (record w.ioc { door = (register_written w.ioc.door reg value).registers }) x).entries)
    written reg value rest effect.None = quietly _ _ (λ l. l) refl
    written reg value rest (effect.Fault code) = quietly _ _ (λ l. l) refl
    written reg value rest (effect.Asked count bytes) = quietly _ _ (λ l. subst (λ xs. 1 ≤ queued_count s xs) (shaken _ _ (shook (record w.ioc { door = (register_written w.ioc.door reg value).registers }) (Rattle.std.proofs.Common.take count bytes))) l) refl
      where
        shaken : (i k : Ioc) → leaf.Shook i k → k.normal ≡ i.normal
        shaken i k (leaf.Stays t e) = ap (λ (y : Ioc). y.normal) e
        shaken i k (leaf.ComesUp r t e) = ap (λ (y : Ioc). y.normal) e
    written reg value rest effect.UnitReset = record { is = λ a o l. (let n = queued_count-nil s in absurd (omega (arith, l, n))) }
    written reg value rest effect.AdapterReset = record { is = λ a o l. (let n = queued_count-nil s in absurd (omega (arith, l, n))) }

    taken : (x : Down) (rest : List Down) → w.down ≡ x ∷ rest → P (record w { ioc = (adapter.takes_down w.ioc x).part; down = rest }) (entry.Take lane.Down (item.Down x) ∷ (adapter.takes_down w.ioc x).entries)
    taken (down.Post d fr p) rest e = post_taken d fr p rest e
    taken (down.Write reg value) rest e = written reg value rest (register_written w.ioc.door reg value).effect
    taken (down.Read reg) rest e = quietly _ _ (λ l. l) refl
    taken (down.Return address index) rest e = quietly _ _ (λ l. subst (λ xs. 1 ≤ queued_count s xs) (by_state (is_operational w.ioc.door.state)) l) refl
      where
        by_test : (b : Bool) → (if b then Rattle.mpt_rules.specs.Ioc.Tables.faults w.ioc posts.bad_return else record w.ioc { ring = w.ioc.ring ++ posts.frame_near address ∷ [] }).normal ≡ w.ioc.normal
        by_test true = refl
        by_test false = refl

        by_state : (b : Bool) → (if b then posts.ioc_takes_return w.ioc address else w.ioc).normal ≡ w.ioc.normal
        by_state true = by_test (not (posts.is_frame_address address) || posts.frame_here w.ioc (posts.frame_near address))
        by_state false = refl
    taken down.Stop rest e = quietly _ _ (λ l. subst (λ xs. 1 ≤ queued_count s xs) (by_fault (Rattle.mpi_doorbell.specs.DoorRegisters.is_fault w.ioc.door.state)) l) refl
      where
        by_fault : (b : Bool) → (if b then w.ioc else Rattle.mpt_rules.specs.Ioc.Replies.with_out_item w.ioc Rattle.mpt_trace.specs.declared.item.Out.TheVariants.Stop).normal ≡ w.ioc.normal
        by_fault true = refl
        by_fault false = refl

    -- ---- a reply is put

    in_list : (xs : List (List Said)) (q : ℕ) (y : Said) (rest : List Said) → Rattle.std.proofs.Common.get_or xs q [] ≡ y ∷ rest → q < Rattle.std.proofs.Common.length xs
    in_list [] q y rest e = absurd (cc)
    in_list (x ∷ xs) zero y rest e = omega arith
    in_list (x ∷ xs) (suc q) y rest e = let l = in_list xs q y rest e in omega (arith, l)

    put : (queue : ℕ) (y : Said) (rest : List Said) (z : Up) → outbox_of w.ioc queue ≡ y ∷ rest → P (with_up (record w { ioc = adapter.up_sent_on w.ioc queue }) queue (up_on w queue ++ z ∷ [])) (entry.Put (up_lane queue) (item.Up z) ∷ [])
    put queue y rest z e = by_item z
      where
        short : queue < Rattle.std.proofs.Common.length w.up
        short = let l = in_list w.ioc.up queue y rest e in let a = f.flights.sizes.outboxes in let b = f.flights.sizes.lanes in omega (arith, l, a, b)

        by_item : (z : Up) → P (with_up (record w { ioc = adapter.up_sent_on w.ioc queue }) queue (up_on w queue ++ z ∷ [])) (entry.Put (up_lane queue) (item.Up z) ∷ [])
        by_item (upward.Value v) = quietly _ _ (λ l. l) refl
        by_item (upward.Mark v) = quietly _ _ (λ l. l) refl
        by_item upward.Calm = quietly _ _ (λ l. l) refl
        by_item (upward.Reply d o page sense) = record { is = λ a n l. by_key (s == smid_in d) refl a n l }
          where
            v : World
            v = with_up (record w { ioc = adapter.up_sent_on w.ioc queue }) queue (up_on w queue ++ upward.Reply d o page sense ∷ [])

            reply_own : (o : Option (List ℕ)) → is_reply_of s (said_of (upward.Reply d o page sense)) ≡ (smid_in d == s)
            reply_own None = refl
            reply_own (Some x) = refl

            by_key : (c : Bool) → (s == smid_in d) ≡ c → After w h v (history_after h (entry.Put (up_lane queue) (item.Up (upward.Reply d o page sense)) ∷ [])) → slot w.host s ≡ Open (request.Remove g) → 1 ≤ queued_count s w.ioc.normal
                → put_at (smid_in d) None h.removals s ≡ Some g
            by_key false t a n l = ap (λ c. if c then None else h.removals s) t ∙ known n l
            by_key true t a n l =
                let i = in_range w h f s (request.Remove g) n in
                let m = a.once s i.0 i.1 in
                let at : up_on v queue ≡ up_on w queue ++ upward.Reply d o page sense ∷ [] = get_or-set_same w.up queue (up_on w queue ++ upward.Reply d o page sense ∷ []) [] short in
                let there = sum_at (replies_on s) [] (reply_count-nil s) v.up queue in
                let x = ap (replies_on s) at in
                let ma = ap (reply_count s) (map-append said_of (up_on w queue) (upward.Reply d o page sense ∷ [])) in
                let ra = reply_count-append s (Rattle.std.proofs.Common.map said_of (up_on w queue)) (said_of (upward.Reply d o page sense) ∷ []) in
                let rc = reply_count-cons s (said_of (upward.Reply d o page sense)) [] in
                let same = turned_true s (smid_in d) t in
                let u = ap one_if (reply_own o ∙ same) in
                absurd (omega (arith, m, l, there, x, ma, ra, rc, u))

    -- ---- every case

    sent : (x : Down) (rest : List Down) → P (record w { host = after_sent w.host x rest; down = w.down ++ x ∷ [] }) (entry.Put lane.Down (item.Down x) ∷ [])
    sent x rest = quietly _ _ (λ l. l) refl

    owed : OwesTold P w
    owed =
        record {
          idles = λ c. quietly _ _ (λ l. l) refl;
          host_puts = λ x rest e. sent x rest;
          host_takes = λ queue x rest e k. quietly _ _ (λ l. l) (each_next IsQuiet quiet_next (hears_up w.host queue x).entries (quiet_taken w.host queue x None) h.removals);
          host_told = λ i k. quietly _ _ (λ l. l) (each_next IsQuiet quiet_next (host_told w.host i).entries (quiet (host_told w.host i).entries (told_input w.host i)) h.removals);
          host_looks = λ e. quietly _ _ (λ l. l) refl;
          host_stops = λ e. quietly _ _ (λ l. l) refl;
          no_session = quietly _ _ (λ l. l) refl;
          ioc_takes = λ x rest e. taken x rest e;
          ioc_high = λ p rest e. quietly _ _ (λ l. let z = shrinks s _ _ (work_queues (record w.ioc { high = rest }) p).normal in omega (arith, z, l)) (each_next IsIocWord word_next _ (works_words (record w.ioc { high = rest }) p) h.removals);
          ioc_normal = λ p rest e. quietly _ _ (λ l. let z = shrinks s _ _ (work_queues (record w.ioc { normal = rest }) p).normal in let c = queued_count-cons s p rest in let u = ap (queued_count s) e in omega (arith, z, l, c, u)) (each_next IsIocWord word_next _ (works_words (record w.ioc { normal = rest }) p) h.removals);
          ioc_puts_out = λ x rest e. quietly _ _ (λ l. l) refl;
          ioc_takes_back = λ x rest e. quietly _ _ (λ l. subst (λ xs. 1 ≤ queued_count s xs) (back_queues w.ioc x).normal l) (each_next IsIocWord word_next (adapter.takes_back w.ioc x).entries (back_words w.ioc x) h.removals);
          ioc_puts = λ queue y rest z e u. put queue y rest z e;
          fabric_takes = λ x rest e. quietly _ _ (λ l. l) refl;
          fabric_says = λ x rest e. quietly _ _ (λ l. l) refl;
          fabric_puts = λ x rest e. quietly _ _ (λ l. l) refl;
          fabric_runs = λ tag address e. quietly _ _ (λ l. l) refl;
          plugs = λ address expander phy t q. quietly _ _ (λ l. l) (each_next IsPlugWord plug_next t q h.removals);
          unplugs = λ address t q. quietly _ _ (λ l. l) (each_next IsPlugWord plug_next t q h.removals);
          calms = quietly _ _ (λ l. l) refl;
        }

-- RemovalIsKnown
pub removals_known : (w : World) (h : History) (c : Case) (f : Facts w h) (plain : NothingIsStrange w) → After w h (happens w c) (history_after h (entries w c)) → (s : ℕ) → RemovalIsKnown (happens w c) (history_after h (entries w c)) s (slot (happens w c).host s)
removals_known w h c f plain a s = by_slot (slot (happens w c).host s) refl
  where
    by_slot : (y : Slot Request) → slot (happens w c).host s ≡ y → RemovalIsKnown (happens w c) (history_after h (entries w c)) s y
    by_slot (Open (request.Remove g)) e = λ l. (kept_told (P w h f s g) w plain (owed w h f s g) c).is a e l
    by_slot (Open (request.Command n)) e = tt
    by_slot (Open (request.Abort n t)) e = tt
    by_slot (Open (request.TargetReset x)) e = tt
    by_slot (Open (request.Leave g)) e = tt
    by_slot (Open (request.Page g)) e = tt
    by_slot (Open (request.Ack event context)) e = tt
    by_slot (Open request.Notification) e = tt
    by_slot (Open request.PortEnable) e = tt
    by_slot Free e = tt
    by_slot Parked e = tt
