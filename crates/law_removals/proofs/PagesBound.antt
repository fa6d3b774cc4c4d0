-- A page read that is on its way to a controller that is OPERATIONAL has a handle that is bound.
use Rattle.std.proofs.Common.{◌≡◌, ◌≢◌, ℕ, zero, suc, ◌+◌, ◌-◌, ◌≤◌, ◌<◌, ◌==◌, ◌||◌, cond, Bool, true, false, if◌then◌else◌, List, [], ◌∷◌, ◌++◌, map, set, length, Option, Some, None, refl, ap, sym, ◌∙◌, subst, arith, append_assoc}
use Rattle.std.specs.Prelude.{All}
use Rattle.std.proofs.lemmas.Bool.{eqb-true}
use Rattle.std.proofs.lemmas.List.Elements.{All-head}
use Rattle.smid_pool.specs.Pool.{Slot, Free, Open, Parked}
use Rattle.removal.specs.Handles.{IsHandle}
use Rattle.removal.specs.declared.phase.Phase.{Phase}
use Rattle.removal.specs.declared.phase.Phase.TheVariants as phase
use Rattle.mpi_doorbell.specs.declared.state.IocState.{IocState}
use Rattle.mpi_doorbell.specs.declared.state.IocState.TheVariants as ioc_state
use Rattle.mpi_doorbell.specs.DoorRegisters.{is_fault}
use Rattle.mpi_rings.specs.RequestDescriptor.{flags_of}
use Rattle.mpi_rings.specs.declared.request_descriptor.PostKind.TheVariants as post
use Rattle.mpt_wire.specs.Messages.Fields.{controlled_handle_in, flags_in, kind_by_flags, kind_in, smid_in}
use Rattle.mpt_trace.specs.declared.item.Back.{Back}
use Rattle.mpt_trace.specs.declared.item.Down.{Down}
use Rattle.mpt_trace.specs.declared.item.Down.TheVariants as down
use Rattle.mpt_rules.specs.declared.binding.Binding.{Binding}
use Rattle.mpt_rules.specs.declared.binding.Binding.TheVariants as binding
use Rattle.mpt_rules.specs.declared.binding.Waiting.{Waiting}
use Rattle.mpt_rules.specs.declared.post.Post.{Post}
use Rattle.mpt_rules.specs.declared.request.Request.{Request}
use Rattle.mpt_rules.specs.declared.request.Request.TheVariants as request
use Rattle.mpt_rules.specs.declared.said.Said.{Said}
use Rattle.mpt_rules.specs.Outcome.{Happening}
use Rattle.mpt_rules.specs.Host.Returns.{after_sent}
use Rattle.mpt_rules.specs.Ioc.Back as news
use Rattle.mpt_rules.specs.Ioc.Bindings as bind
use Rattle.mpt_rules.specs.Ioc.Commands as commands
use Rattle.mpt_rules.specs.Ioc.Parts.{Ioc}
use Rattle.mpt_rules.specs.Ioc.Replies as say
use Rattle.mpt_rules.specs.Ioc.Requests as asked
use Rattle.mpt_rules.specs.Ioc.Steps as step
use Rattle.mpt_rules.specs.Ioc.Tables as table
use Rattle.mpt_rules.specs.Ioc.Tables.{binding_of, first_handle, is_operational, is_unbound}
use Rattle.mpt_rules.specs.Ioc.Takes as adapter
use Rattle.mpt_rules.specs.Law.{NothingIsStrange}
use Rattle.mpt_rules.specs.World.Cases.{Case, entries, happens}
use Rattle.mpt_rules.specs.World.Counts.{how_many, one_if}
use Rattle.mpt_rules.specs.World.Lines.{down_line, is_high, normal_line, normal_posts, up_line}
use Rattle.mpt_rules.specs.World.News as told_news
use Rattle.mpt_rules.specs.World.News.{News, news_in}
use Rattle.mpt_rules.specs.World.State.{World}
use Rattle.mpt_rules.proofs.Counts.{how_many-append}
use Rattle.law_facts.specs.Clock.{is_live}
use Rattle.law_facts.specs.Facts.{Facts}
use Rattle.law_facts.specs.Handles.{Left, PageIsBound, Side, There, Turn, Vacant, is_command_to, is_page_post, is_page_request, is_remove_post, is_remove_request, phase_of, removal_of, replayed, side_of_binding, side_of_phase, turn_of, turns_of, uses_handle}
use Rattle.law_facts.specs.History.{History, history_after}
use Rattle.law_facts.specs.Messages.{PostIsRecord}
use Rattle.law_facts.specs.Words.{is_load, is_post, others, slot}
use Rattle.law_flights.proofs.Leaves.{Bound, Calmed, Done, Ended, Hears, Linked, Lost, Passed, Unawaited, Waits, back_leaf, reply_made}
use Rattle.law_flights.proofs.WorkLeaves.{AbortEnds, AbortSends, Acks, Dropped, Enables, EndsPlainly, Notifies, PageEnds, PageGiven, Refuses, RemovalEnds, Removes, ResetEnds, ResetHolds, ResetSends, ScsiEnds, ScsiSends, Stops, Strays, TaskFails, Works, works_leaf}
use Rattle.law_handles.proofs.Life.{replayed_none, turns_cons, turns_nil}
use Rattle.law_handles.proofs.LifeRemoves.{equal_keys}
use Rattle.law_handles.proofs.Plugged.{front_passes}
use Rattle.law_handles.proofs.Serving.{least_is}
use Rattle.law_handles.proofs.ServingWorld.{bare}
use Rattle.law_handles.proofs.Tables.{at, at-set, binding_is, stands}
use Rattle.law_moves.proofs.Cases.{Owes, kept}
use Rattle.law_moves.proofs.Counted.{fewer_pass, how_many-cons, how_many-nil, later-is, later-opened}
use Rattle.law_moves.proofs.IocTakes as leaf
use Rattle.law_moves.proofs.IocTakes.{Takes, takes}
use Rattle.law_lives.proofs.HostDoes.{none_normal}
use Rattle.law_removals.proofs.Behind.{After, clash, had_record}
use Rattle.law_removals.proofs.Grown.{is_out_there}
use Rattle.law_removals.proofs.HostBehaves.{Behaves, Fewer, More, looked, stopped, taken, told}
use Rattle.law_removals.proofs.HostLines.{FreshNormal}
use Rattle.law_removals.proofs.IocStays.{back_queues, work_queues}
use Rattle.law_removals.proofs.Lasts.{in_posts, own_counts, some_new}
use Rattle.law_removals.proofs.Lines.{Drops, Part, down_taken, part_append, part_count, part_itself, same_count, shrunk}
use Rattle.law_removals.proofs.Removed.{dead, record_fits, removal_frame}
use Rattle.law_removals.proofs.Unbinds.{of_removal}

-- ---- a disk that is there, or left, isn't vacant before its handle is freed

never_freed : (side : Side) → (side ≡ Vacant → ⊥) → (ns : List News) (ts : List Turn) → ((s : Side) → (s ≡ Vacant → ⊥) → replayed (Some s) ts ≡ Some Vacant → ⊥) → replayed (Some side) (map turn_of ns ++ ts) ≡ Some Vacant → ⊥
never_freed side n [] ts f e = f side n e
never_freed There n (told_news.Added ∷ ns) ts f e = let z = sym (replayed_none (map turn_of ns ++ ts)) ∙ e in absurd (cc)
never_freed There n (told_news.NotResponding ∷ ns) ts f e = never_freed Left (λ z. absurd (cc)) ns ts f e
never_freed Left n (told_news.Added ∷ ns) ts f e = let z = sym (replayed_none (map turn_of ns ++ ts)) ∙ e in absurd (cc)
never_freed Left n (told_news.NotResponding ∷ ns) ts f e = let z = sym (replayed_none (map turn_of ns ++ ts)) ∙ e in absurd (cc)
never_freed Vacant n (x ∷ ns) ts f e = n refl

never_vacant : (g : ℕ) (line : List Said) (side : Side) → (side ≡ Vacant → ⊥) → replayed (Some side) (turns_of 0 g line) ≡ Some Vacant → ⊥
never_vacant g [] side n e =
    let z : Some side ≡ Some Vacant = sym (ap (replayed (Some side)) (turns_nil 0 g)) ∙ e in n (cc)
never_vacant g (x ∷ xs) side n e = never_freed side n (news_in g x) (turns_of 0 g xs) (λ s m u. never_vacant g xs s m u) (sym (ap (replayed (Some side)) (turns_cons 0 g x xs)) ∙ e)

there_not_vacant : (p : Phase) → is_out_there p ≡ true → (side_of_phase p ≡ Vacant → ⊥) × (removal_of p ≡ 0)
there_not_vacant phase.WaitRead t = ((λ z. absurd (cc)), refl)
there_not_vacant (phase.Reading s) t = ((λ z. absurd (cc)), refl)
there_not_vacant (phase.Ready a) t = ((λ z. absurd (cc)), refl)
there_not_vacant phase.WaitHigh t = ((λ z. absurd (cc)), refl)
there_not_vacant (phase.Resetting s) t = ((λ z. absurd (cc)), refl)
there_not_vacant phase.Absent t = absurd (cc)
there_not_vacant phase.WaitInternal t = absurd (cc)
there_not_vacant (phase.Removing s) t = absurd (cc)

page_named : (g : ℕ) (y : Slot Request) → is_page_request g y ≡ true → y ≡ Open (request.Page g)
page_named g (Open (request.Page k)) t = ap (λ j. Open (request.Page j)) (eqb-true k g t)
page_named g (Open (request.Command n)) t = absurd (cc)
page_named g (Open (request.Abort n k)) t = absurd (cc)
page_named g (Open (request.TargetReset a)) t = absurd (cc)
page_named g (Open (request.Leave k)) t = absurd (cc)
page_named g (Open (request.Remove k)) t = absurd (cc)
page_named g (Open (request.Ack e c)) t = absurd (cc)
page_named g (Open request.Notification) t = absurd (cc)
page_named g (Open request.PortEnable) t = absurd (cc)
page_named g Free t = absurd (cc)
page_named g Parked t = absurd (cc)

pub post_is_load : (x : Down) → is_post x ≡ true → is_load x ≡ true
post_is_load (down.Post d f p) e = refl
post_is_load (down.Write reg value) e = absurd (cc)
post_is_load (down.Read reg) e = absurd (cc)
post_is_load (down.Return address i) e = absurd (cc)
post_is_load down.Stop e = absurd (cc)

or_true : (a b : Bool) → b ≡ true → (a || b) ≡ true
or_true true b t = refl
or_true false b t = t

module _ (w : World) (h : History) (f : Facts w h) (plain : NothingIsStrange w) (g : ℕ) (i : IsHandle g) where
  abbrev Keeps : World → Type 0
  Keeps v = (k : History) → After w h v k → PageIsBound v g

  abbrev IsBound : Ioc → Type 0
  IsBound j = is_unbound (binding_of j g) ≡ false

  was : is_live w ≡ true → 1 ≤ how_many (is_page_post w g) (normal_line w) → IsBound w.ioc
  was l c = (f.handles.each g i).page_bound l c

  -- a controller that isn't OPERATIONAL has no posts to come
  line_dead : is_live w ≡ false → normal_line w ≡ []
  line_dead d =
      let t = f.clock.tables_empty (bare w f.clock.phase_table.whole d) in
      ap (λ ns. ns ++ normal_posts (down_line w)) t.normal ∙ none_normal (down_line w) (no_posts (how_many is_load (down_line w)) refl)
    where
      no_posts : (n : ℕ) → how_many is_load (down_line w) ≡ n → how_many is_post (down_line w) ≡ 0
      no_posts zero e = let m = fewer_pass is_post is_load post_is_load (down_line w) in omega (arith, m, e)
      no_posts (suc n) e = clash (is_live w) (f.clock.loads_before_reset.live (omega (arith, e))) d

  -- the controller goes on, and the line loses posts
  by_ioc : (j : Ioc) (ns : List Post) → Part ns (normal_line w) → (is_live w ≡ true → IsBound w.ioc → IsBound j) → 1 ≤ how_many (is_page_post w g) ns → IsBound j
  by_ioc j ns p b c = by_live (is_live w) refl
    where
      by_live : (x : Bool) → is_live w ≡ x → IsBound j
      by_live true l = let m = part_count (is_page_post w g) ns (normal_line w) p in b l (was l (omega (arith, m, c)))
      by_live false l = let m = part_count (is_page_post w g) ns (normal_line w) p in let z = ap (how_many (is_page_post w g)) (line_dead l) in let n = how_many-nil (is_page_post w g) in absurd (omega (arith, m, c, z, n))

  -- ---- what the controller does to a bound handle

  bound_set : (j : Ioc) (h0 : ℕ) (b : Binding) → length j.bindings ≡ 64 → IsHandle h0 → is_unbound b ≡ false → IsBound j → IsBound (table.with_binding j h0 b)
  bound_set j h0 b l k u e =
      let z = binding_is (table.with_binding j h0 b) g i in
      ap is_unbound z ∙ by_key (g == h0) (at-set j.bindings h0 g b l k i)
    where
      by_key : (c : Bool) → at (set j.bindings (h0 - first_handle) b) g ≡ cond c b (at j.bindings g) → is_unbound (at (set j.bindings (h0 - first_handle) b) g) ≡ false
      by_key true q = ap is_unbound q ∙ u
      by_key false q = ap is_unbound (q ∙ sym (binding_is j g i)) ∙ e

  changed : (j : Ioc) (handle expander phy : ℕ) (added : Bool) → IsBound j → IsBound (bind.changes j handle expander phy added)
  changed j handle expander phy added e = by_through j.through
    where
      by_through : (b : Bool) → IsBound (if b then bind.tells_change j handle expander phy added else j)
      by_through true = e
      by_through false = e

  released : (j : Ioc) (handle : ℕ) → IsBound j → IsBound (commands.releases j handle)
  released j handle e = by_commands (table.has_commands j handle)
    where
      by_commands : (b : Bool) → IsBound (if b then j else commands.answers_held j handle)
      by_commands true = e
      by_commands false = e

  to : (o x : Happening Ioc) → o ≡ x → IsBound x.part → IsBound o.part
  to o x e b = subst (λ (y : Happening Ioc). IsBound y.part) (sym e) b

  heard : (j : Ioc) → length j.bindings ≡ 64 → (x : Back) (o : Happening Ioc) → Hears j x o → IsBound j → IsBound o.part
  heard j l x o (Passed e) b = to o (table.silently j) e b
  heard j l x o (Ended tag handle queue len written r e) b = to o _ e (released (say.says_on (table.without_request j tag) queue (reply_made x handle len written ∷ [])) handle b)
  heard j l x o (Done smid r answer q e) b = to o _ e b
  heard j l x o (Bound disk handle u k e) b =
      to o _ e (changed (table.with_binding j handle (binding.Present disk.address disk.plug disk.expander disk.phy)) handle disk.expander disk.phy true (bound_set j handle (binding.Present disk.address disk.plug disk.expander disk.phy) l (least_is j.bindings handle l u).0 refl b))
  heard j l x o (Waits disk u k e) b = to o _ e b
  heard j l x o (Lost handle address plug expander phy z e) b =
      to o _ e (changed (table.with_binding j handle (binding.Gone address)) handle expander phy false (bound_set j handle (binding.Gone address) l (stands j handle (binding.Present address plug expander phy) l z refl).0 refl b))
  heard j l x o (Unawaited address u e) b = to o _ e b
  heard j l x o (Linked generation r e) b = to o _ e b
  heard j l x o (Calmed e) b = to o _ e b

  binds_first : (j : Ioc) (ds : List Waiting) → length j.bindings ≡ 64 → IsBound j → IsBound (bind.binds_first j ds).part
  binds_first j [] l b = b
  binds_first j (d ∷ ds) l b = by_free (table.least_unbound (record j { waiting = ds })) refl
    where
      by_free : (o : Option ℕ) → table.least_unbound (record j { waiting = ds }) ≡ o → IsBound (bind.binds_to (record j { waiting = ds }) d o).part
      by_free None e = b
      by_free (Some h1) e =
          changed (table.with_binding (record j { waiting = ds }) h1 (binding.Present d.address d.plug d.expander d.phy)) h1 d.expander d.phy true
          (bound_set (record j { waiting = ds }) h1 (binding.Present d.address d.plug d.expander d.phy) l (least_is j.bindings h1 l e).0 refl b)

  worked : (j : Ioc) (p : Post) (o : Happening Ioc) → Works j p o → ((address : ℕ) → kind_in p.descriptor ≡ Some post.Default → Rattle.mpt_messages.specs.Function.function_of (Rattle.mpt_wire.specs.Messages.Fields.function_in p.frame) ≡ Some Rattle.mpt_messages.specs.declared.function.Function.TheVariants.UnitControl → IsBound j → IsBound (asked.removes j p).part) → IsBound j → IsBound o.part
  worked j p o (Dropped k e) r b = to o _ e b
  worked j p o (Refuses k f d q e) r b = to o _ e b
  worked j p o (ScsiEnds status k c e) r b = to o _ e b
  worked j p o (ScsiSends address plug expander phy k c z e) r b = to o _ e b
  worked j p o (Stops stop k f e) r b = to o _ e b
  worked j p o (AbortSends k f t e) r b = to o _ e b
  worked j p o (AbortEnds k f t e) r b = to o _ e b
  worked j p o (ResetSends address plug expander phy k z e) r b = to o _ e b
  worked j p o (ResetHolds address k z t e) r b = to o _ e b
  worked j p o (ResetEnds status k e) r b = to o _ e b
  worked j p o (TaskFails k e) r b = to o _ e b
  worked j p o (PageEnds status k e) r b = to o _ e b
  worked j p o (PageGiven page k z e) r b = to o _ e b
  worked j p o (Enables k n e) r b = to o _ e b
  worked j p o (Notifies k e) r b = to o _ e b
  worked j p o (Acks k t e) r b = to o _ e b
  worked j p o (EndsPlainly f status k e) r b = to o _ e b
  worked j p o (RemovalEnds status k e) r b = to o _ e b
  worked j p o (Removes address k f z c e) r b = to o (asked.removes j p) e (r address k f b)
  worked j p o (Strays k q e) r b = to o _ e b

  -- another handle is freed
  other_freed : (j : Ioc) (p : Post) (h0 : ℕ) → length j.bindings ≡ 64 → IsHandle h0 → controlled_handle_in p.frame ≡ h0 → (g == h0) ≡ false → IsBound j → IsBound (asked.removes j p).part
  other_freed j p h0 l k e n b =
      binds_first (asked.ioc_ends_removal (table.with_binding j (controlled_handle_in p.frame) binding.Unbound) p Rattle.mpt_rules.specs.declared.status.TheConstants.IOC_STATUS_SUCCESS) j.waiting
      (Rattle.std.proofs.Common.length-set j.bindings _ _ ∙ l)
      (subst (λ q. IsBound (table.with_binding j q binding.Unbound)) (sym e)
      (ap is_unbound (binding_is (table.with_binding j h0 binding.Unbound) g i ∙ (at-set j.bindings h0 g binding.Unbound l k i ∙ (ap (λ c. cond c binding.Unbound (at j.bindings g)) n ∙ sym (binding_is j g i)))) ∙ b))

  -- the front of the normal queue
  normal_worked : (p : Post) (rest : List Post) → w.ioc.normal ≡ p ∷ rest → (ns : List Post) → Part ns (rest ++ normal_posts (down_line w)) → 1 ≤ how_many (is_page_post w g) ns → IsBound w.ioc → IsBound (step.works_on (record w.ioc { normal = rest }) p).part
  normal_worked p rest e ns q c b = worked (record w.ioc { normal = rest }) p _ (works_leaf (record w.ioc { normal = rest }) p) (λ address k u z. by_record k u z) b
    where
      line : normal_line w ≡ p ∷ (rest ++ normal_posts (down_line w))
      line = ap (λ xs. xs ++ normal_posts (down_line w)) e

      by_record : kind_in p.descriptor ≡ Some post.Default → Rattle.mpt_messages.specs.Function.function_of (Rattle.mpt_wire.specs.Messages.Fields.function_in p.frame) ≡ Some Rattle.mpt_messages.specs.declared.function.Function.TheVariants.UnitControl → IsBound w.ioc → IsBound (asked.removes (record w.ioc { normal = rest }) p).part
      by_record k u z = by_key (g == x.0) refl
        where
          x : Rattle.law_removals.proofs.Unbinds.IsRemovalPost w p
          x = of_removal w h f p (All-head (PostIsRecord w h) p rest (subst (All (PostIsRecord w h)) e f.messages.normal)) k u

          ih : IsHandle x.0
          ih = record_fits w h f (smid_in p.descriptor) (request.Remove x.0) x.1

          by_key : (d : Bool) → (g == x.0) ≡ d → IsBound (asked.removes (record w.ioc { normal = rest }) p).part
          by_key false t = other_freed (record w.ioc { normal = rest }) p x.0 f.flights.sizes.bindings ih (removal_frame x.0 p.frame ih x.2).1 t z
          by_key true t =
              let last = (f.handles.each g i).last.last in
              let same : (x.0 == g) ≡ true = Rattle.law_messages.proofs.Agreeing.turned_true g x.0 t in
              let mine : is_remove_post w g p ≡ true = ap (is_remove_request g) x.1 ∙ same in
              let a = sym (later-is (is_remove_post w g) (uses_handle w g) (normal_line w)) ∙ last in
              let b2 = later-opened (is_remove_post w g) (uses_handle w g) p (rest ++ normal_posts (down_line w)) mine (sym (ap (Rattle.law_moves.proofs.Counted.later (is_remove_post w g) (uses_handle w g)) line) ∙ a) in
              let m = part_count (is_page_post w g) ns (rest ++ normal_posts (down_line w)) q in
              let n = fewer_pass (is_page_post w g) (uses_handle w g) (λ y r. or_true (is_command_to w g (slot w.host (smid_in y.descriptor))) (is_page_post w g y) r) (rest ++ normal_posts (down_line w)) in
              absurd (omega (arith, c, m, n, b2))

  high_worked : (p : Post) (rest : List Post) → w.ioc.high ≡ p ∷ rest → IsBound w.ioc → IsBound (step.works_on (record w.ioc { high = rest }) p).part
  high_worked p rest e b = worked (record w.ioc { high = rest }) p _ (works_leaf (record w.ioc { high = rest }) p) (λ address k u z. not_high k) b
    where
      not_high : kind_in p.descriptor ≡ Some post.Default → IsBound (asked.removes (record w.ioc { high = rest }) p).part
      not_high k =
          let z = front_passes (λ (x : Post). is_high x.descriptor) p rest (sym (ap (others (λ (x : Post). is_high x.descriptor)) e) ∙ f.flights.sorted.high) in
          let flags : flags_in p.descriptor ≡ flags_of post.HighPriority = equal_keys (flags_in p.descriptor) (flags_of post.HighPriority) z in
          let v = ap kind_by_flags flags in
          absurd (cc)

  no_fault : (x : IocState) → is_fault x ≡ true → is_operational x ≡ true → ⊥
  no_fault ioc_state.Reset a b = cc
  no_fault ioc_state.Ready a b = cc
  no_fault ioc_state.Operational a b = cc
  no_fault (ioc_state.Fault code) a b = cc

  same_tables : (j : Ioc) → binding_of j g ≡ binding_of w.ioc g → IsBound w.ioc → IsBound j
  same_tables j e b = ap is_unbound e ∙ b

  item_taken : (x : Down) (j : Ioc) → Takes w.ioc x j → is_operational j.door.state ≡ true → IsBound w.ioc → IsBound j
  item_taken x j (leaf.Faults y m e) l b = absurd (no_fault j.door.state e l)
  item_taken x j (leaf.Written reg value m r s e) l b = same_tables j (ap (λ (y : Ioc). binding_of y g) e) b
  item_taken x j (leaf.Operates value m r s t e) l b = same_tables j (ap (λ (y : Ioc). binding_of y g) e) b
  item_taken x j (leaf.Forgets reg value d e) l b = absurd (cc)
  item_taken x j (leaf.Reads reg value) l b = b
  item_taken x j (leaf.Posts d fr p m s e) l b = same_tables j (ap (λ (y : Ioc). binding_of y g) e) b
  item_taken x j (leaf.DropsPost d fr p e) l b = b
  item_taken x j (leaf.Returns a y m s e) l b = same_tables j (ap (λ (z : Ioc). binding_of z g) e) b
  item_taken x j (leaf.DropsReturn a y e) l b = b
  item_taken x j leaf.Stops l b = b

  -- ---- the host

  module _ (v : World) (same_ioc : v.ioc ≡ w.ioc) (k : History) (a : After w h v k) where
    page_same : All (λ (p : Post). is_page_post v g p ≡ is_page_post w g p) (normal_line w)
    page_same =
        Rattle.law_messages.proofs.Agreeing.all_same (λ (p : Post). 1 ≤ Rattle.mpt_rules.specs.World.Counts.queued_count (smid_in p.descriptor) (normal_line w)) (λ (p : Post). is_page_post v g p ≡ is_page_post w g p)
        (λ p l. let m = in_posts w h f g i (smid_in p.descriptor) l in ap (is_page_request g) (had_record w h f v k a (dead w h f (smid_in p.descriptor) m) (smid_in p.descriptor) m)) (normal_line w) (own_counts (normal_line w))

    live_too : is_live v ≡ true → is_live w ≡ true
    live_too l = sym (ap (λ (j : Ioc). is_operational j.door.state) same_ioc) ∙ l

    bound_too : IsBound w.ioc → IsBound v.ioc
    bound_too b = ap (λ (j : Ioc). is_unbound (binding_of j g)) same_ioc ∙ b

    host_behaves : Behaves w v → PageIsBound v g
    host_behaves (Fewer p r) l c =
        let s = same_count (is_page_post v g) (is_page_post w g) (normal_line w) page_same in
        let m = part_count (is_page_post v g) (normal_line v) (normal_line w) p in
        bound_too (was (live_too l) (omega (arith, s, m, c)))
    host_behaves (More n hand news above e high z fresh) l c = by_count (how_many (is_page_post v g) news) refl
      where
        by_count : (y : ℕ) → how_many (is_page_post v g) news ≡ y → IsBound v.ioc
        by_count zero q =
            let s = same_count (is_page_post v g) (is_page_post w g) (normal_line w) page_same in
            let t = ap (how_many (is_page_post v g)) e in
            let u = how_many-append (is_page_post v g) (normal_line w) news in
            bound_too (was (live_too l) (omega (arith, s, t, u, c, q)))
        by_count (suc y) q =
            let x = some_new (is_page_post v g) (λ (p : Post). FreshNormal w hand v.host (slot v.host (smid_in p.descriptor))) news z (omega (arith, q)) in
            let r : FreshNormal w hand v.host (Open (request.Page g)) = subst (FreshNormal w hand v.host) (page_named g (slot v.host (smid_in x.0.descriptor)) x.1) x.2 in
            let t = there_not_vacant (phase_of v g) r.1 in
            let life = a.lives g i n l in
            by_binding (binding_of v.ioc g) refl (λ o. never_vacant g (up_line v 0) (side_of_phase (phase_of v g)) t.0
            (sym (ap (λ s. replayed (Some (side_of_phase (phase_of v g))) (turns_of s g (up_line v 0))) t.1) ∙ (life ∙ ap (λ b. Some (side_of_binding b)) o)))
          where
            by_binding : (b : Binding) → binding_of v.ioc g ≡ b → (binding_of v.ioc g ≡ binding.Unbound → ⊥) → IsBound v.ioc
            by_binding binding.Unbound o d = absurd (d o)
            by_binding (binding.Present address plug expander phy) o d = ap is_unbound o
            by_binding (binding.Gone address) o d = ap is_unbound o

  put_part : (x : Down) (rest : List Down) → w.host.out ≡ x ∷ rest → Part (w.ioc.normal ++ normal_posts ((w.down ++ x ∷ []) ++ rest)) (normal_line w)
  put_part x rest e =
      subst (λ ps. Part ps (normal_line w)) (sym (ap (λ xs. w.ioc.normal ++ normal_posts xs) (append_assoc w.down (x ∷ []) rest ∙ ap (λ xs. w.down ++ xs) (sym e)))) (part_itself (normal_line w))

  sent : (x : Down) (rest : List Down) → w.host.out ≡ x ∷ rest → Keeps (record w { host = after_sent w.host x rest; down = w.down ++ x ∷ [] })
  sent (down.Post d fr p) rest e k a l c = by_ioc w.ioc _ (put_part (down.Post d fr p) rest e) (λ y b. b) c
  sent (down.Write reg value) rest e k a l c = by_ioc w.ioc _ (put_part (down.Write reg value) rest e) (λ y b. b) c
  sent (down.Read reg) rest e k a l c = by_ioc w.ioc _ (put_part (down.Read reg) rest e) (λ y b. b) c
  sent (down.Return address j) rest e k a l c = by_ioc w.ioc _ (put_part (down.Return address j) rest e) (λ y b. b) c
  sent down.Stop rest e k a l c = by_ioc w.ioc _ (put_part down.Stop rest e) (λ y b. b) c

  queue_part : (ns : List Post) → Part ns w.ioc.normal → Part (ns ++ normal_posts (down_line w)) (normal_line w)
  queue_part ns p = part_append ns w.ioc.normal (normal_posts (down_line w)) (normal_posts (down_line w)) p (part_itself (normal_posts (down_line w)))

  take_part : (x : Down) (rest : List Down) → w.down ≡ x ∷ rest → Part ((adapter.takes_down w.ioc x).part.normal ++ normal_posts (rest ++ w.host.out)) (normal_line w)
  take_part x rest e = subst (λ xs. Part ((adapter.takes_down w.ioc x).part.normal ++ normal_posts (rest ++ w.host.out)) (w.ioc.normal ++ normal_posts (xs ++ w.host.out))) (sym e) (down_taken w.ioc (rest ++ w.host.out) x).normal

  owed : Owes Keeps w
  owed =
      record {
        host_puts = λ x rest e. sent x rest e;
        host_takes = λ queue x rest e s k a. host_behaves _ refl k a (taken w h f plain queue x rest e);
        host_told = λ j n k a. host_behaves _ refl k a (told w h f plain j);
        host_looks = λ e k a. host_behaves _ refl k a (looked w h f plain);
        host_stops = λ e k a. host_behaves _ refl k a (stopped w h f plain);
        ioc_takes = λ x rest e k a l c. by_ioc (adapter.takes_down w.ioc x).part _ (take_part x rest e)
            (λ y b. item_taken x (adapter.takes_down w.ioc x).part (takes w.ioc f.doorbell.sound.waits f.clock.phase_table.whole x) l b) c;
        ioc_high = λ p rest e k a l c. by_ioc (step.works_on (record w.ioc { high = rest }) p).part _ (queue_part _ (shrunk w.ioc.normal _ (work_queues (record w.ioc { high = rest }) p).normal)) (λ y b. high_worked p rest e b) c;
        ioc_normal = λ p rest e k a l c. by_ioc (step.works_on (record w.ioc { normal = rest }) p).part _ (queue_part _ (subst (Part _) (sym e) (Drops p _ rest (shrunk rest _ (work_queues (record w.ioc { normal = rest }) p).normal))))
            (λ y b. normal_worked p rest e _ (part_append _ rest (normal_posts (down_line w)) (normal_posts (down_line w)) (shrunk rest _ (work_queues (record w.ioc { normal = rest }) p).normal) (part_itself (normal_posts (down_line w)))) c b) c;
        ioc_puts_out = λ x rest e k a. was;
        ioc_takes_back = λ x rest e k a l c. by_ioc (adapter.takes_back w.ioc x).part _ (queue_part _ (subst (λ ns. Part ns w.ioc.normal) (sym (back_queues w.ioc x).normal) (part_itself w.ioc.normal)))
            (λ y b. heard w.ioc f.flights.sizes.bindings x (news.takes_back w.ioc x) (back_leaf w.ioc x) b) c;
        ioc_puts = λ queue y rest z e u k a. was;
        fabric_takes = λ x rest e k a. was;
        fabric_says = λ x rest e k a. was;
        fabric_puts = λ x rest e k a. was;
        fabric_runs = λ tag address e k a. was;
        plugs = λ address expander phy k a. was;
        unplugs = λ address k a. was;
        calms = λ k a. was;
      }

-- PageIsBound
pub pages_bound : (w : World) (h : History) (c : Case) → Facts w h → NothingIsStrange w → After w h (happens w c) (history_after h (entries w c)) → (g : ℕ) → IsHandle g → PageIsBound (happens w c) g
pages_bound w h c f plain a g i = kept (Keeps w h f plain g i) w plain (owed w h f plain g i) (λ k b. was w h f plain g i) c (history_after h (entries w c)) a
