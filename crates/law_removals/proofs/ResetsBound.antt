-- A target reset that is on its way to a controller that is OPERATIONAL has a handle that is bound to its address; that of a removal has a gone one.
use Rattle.std.proofs.Common.{◌≡◌, ℕ, zero, suc, ◌+◌, ◌≤◌, ◌==◌, ◌&&◌, ◌||◌, not, cond, inr, get_or, Bool, true, false, if◌then◌else◌, List, [], ◌∷◌, ◌++◌, map, length, length-set, option_map, Option, Some, None, refl, ap, sym, ◌∙◌, subst, arith, append_assoc}
use Rattle.std.specs.Prelude.{All}
use Rattle.std.proofs.lemmas.Bool.{eqb-true}
use Rattle.std.proofs.lemmas.List.Elements.{All-append, All-cons, All-head, All-nil, All-tail}
use Rattle.smid_pool.specs.Pool.{Slot, Free, Open, Parked}
use Rattle.removal.specs.Handles.{IsHandle}
use Rattle.scsi_msgs.specs.TaskAsk.{task_ask_layout, task_ask_values}
use Rattle.mpi_doorbell.specs.DoorRegisters.{is_fault}
use Rattle.mpi_doorbell.specs.declared.state.IocState.{IocState}
use Rattle.mpi_doorbell.specs.declared.state.IocState.TheVariants as ioc_state
use Rattle.mpi_rings.specs.RequestDescriptor.{flags_of}
use Rattle.mpi_rings.specs.declared.request_descriptor.PostKind.TheVariants as post
use Rattle.mpt_messages.specs.Function.{function_of}
use Rattle.mpt_messages.specs.declared.function.Function.TheVariants as function
use Rattle.mpt_messages.specs.declared.host_ask.HostAsk.TheVariants as ask
use Rattle.mpt_messages.proofs.FrameStands.{host_frame_stands}
use Rattle.mpt_messages.proofs.HostFits.{task_fits}
use Rattle.mpt_wire.specs.Handles.Bindings.{Plug}
use Rattle.mpt_wire.specs.Messages.Fields.{controlled_handle_in, dev_handle_in, flags_in, function_in, kind_by_flags, kind_in, smid_in, target_reset, task_type_in}
use Rattle.mpt_trace.specs.declared.item.Back.{Back}
use Rattle.mpt_trace.specs.declared.item.Down.{Down}
use Rattle.mpt_trace.specs.declared.item.Down.TheVariants as down
use Rattle.mpt_rules.specs.declared.binding.Binding.{Binding}
use Rattle.mpt_rules.specs.declared.binding.Binding.TheVariants as binding
use Rattle.mpt_rules.specs.declared.binding.Waiting.{Waiting}
use Rattle.mpt_rules.specs.declared.post.Post.{Post}
use Rattle.mpt_rules.specs.declared.request.Request.{Request}
use Rattle.mpt_rules.specs.declared.request.Request.TheVariants as request
use Rattle.mpt_rules.specs.declared.said.Said.{Said}
use Rattle.mpt_rules.specs.Outcome.{Happening}
use Rattle.mpt_rules.specs.Host.Posts.{frame_asked}
use Rattle.mpt_rules.specs.Host.Returns.{after_sent}
use Rattle.mpt_rules.specs.Ioc.Back as news
use Rattle.mpt_rules.specs.Ioc.Bindings as bind
use Rattle.mpt_rules.specs.Ioc.Commands as commands
use Rattle.mpt_rules.specs.Ioc.Parts.{Ioc}
use Rattle.mpt_rules.specs.Ioc.Replies as say
use Rattle.mpt_rules.specs.Ioc.Requests as asked
use Rattle.mpt_rules.specs.Ioc.Steps as step
use Rattle.mpt_rules.specs.Ioc.Tables as table
use Rattle.mpt_rules.specs.Ioc.Tables.{binding_of, first_handle, is_operational, is_unbound}
use Rattle.mpt_rules.specs.Ioc.Takes as adapter
use Rattle.mpt_rules.specs.Law.{NothingIsStrange}
use Rattle.mpt_rules.specs.World.Cases.{Case, entries, happens}
use Rattle.mpt_rules.specs.World.Counts.{how_many, one_if, post_count, queued_count}
use Rattle.std.specs.List.{cons_option}
use Rattle.mpt_rules.specs.World.Lines.{down_line, high_line, high_post, high_posts, is_high, normal_line, normal_posts, up_line}
use Rattle.mpt_rules.specs.World.News as told_news
use Rattle.mpt_rules.specs.World.News.{News, news_in}
use Rattle.mpt_rules.specs.World.State.{World}
use Rattle.mpt_rules.specs.World.Weight.{is_gone_binding}
use Rattle.mpt_rules.proofs.Counts.{post_count-cons, queued_count-append, queued_count-cons, queued_count-nil}
use Rattle.mpt_rules.proofs.Lines.{high_posts-cons, high_posts-nil}
use Rattle.law_facts.specs.Clock.{in_normal, is_live}
use Rattle.law_facts.specs.Facts.{Facts}
use Rattle.law_facts.specs.Handles.{BindingIs, Left, ReadyIsBound, RecordHasPhase, ResetIsBound, ResetIsOf, Side, Turn, address_of, is_let_go, is_remove_post, is_remove_request, is_target_reset_post, phase_of, removal_of, removes, replayed, side_of_binding, side_of_phase, turn_of, turns_of}
use Rattle.law_facts.specs.History.{History, history_after}
use Rattle.law_facts.specs.Messages.{DownIsRecord, PostIs, PostIsRecord}
use Rattle.law_facts.specs.Words.{is_load, is_post, others, slot}
use Rattle.law_flights.proofs.Leaves.{Bound, Calmed, Done, Ended, Hears, Linked, Lost, Passed, Unawaited, Waits, back_leaf, reply_made}
use Rattle.law_flights.proofs.WorkLeaves.{AbortEnds, AbortSends, Acks, Dropped, Enables, EndsPlainly, Notifies, PageEnds, PageGiven, Refuses, RemovalEnds, Removes, ResetEnds, ResetHolds, ResetSends, ScsiEnds, ScsiSends, Stops, Strays, TaskFails, Works, works_leaf}
use Rattle.law_handles.proofs.Life.{replayed_none, turns_cons, turns_nil}
use Rattle.law_handles.proofs.LifeRemoves.{equal_keys}
use Rattle.law_handles.proofs.Plugged.{front_passes}
use Rattle.law_handles.proofs.Serving.{least_is}
use Rattle.law_handles.proofs.ServingWorld.{bare}
use Rattle.law_handles.proofs.Tables.{at, at-set, binding_is, stands}
use Rattle.law_messages.proofs.Agreeing.{all_last, all_same}
use Rattle.law_moves.proofs.Cases.{Owes, kept}
use Rattle.law_moves.proofs.Counted.{fewer_pass, how_many-cons}
use Rattle.law_moves.proofs.IocTakes as leaf
use Rattle.law_moves.proofs.IocTakes.{Takes, takes}
use Rattle.law_lives.proofs.HostDoes.{none_high}
use Rattle.law_removals.proofs.Behind.{After, clash, had_record, posted}
use Rattle.law_removals.proofs.HostBehaves.{Behaves, Fewer, More, looked, stopped, taken, told}
use Rattle.law_removals.proofs.HostLines.{FreshHigh}
use Rattle.law_removals.proofs.IocStays.{back_queues, work_queues}
use Rattle.law_removals.proofs.Lasts.{own_counts}
use Rattle.law_removals.proofs.Lines.{Drops, Empty, Keeps, Part, down_taken, part_append, part_itself}
use Rattle.law_removals.proofs.PagesBound.{post_is_load}
use Rattle.law_removals.proofs.Removed.{dead, record_fits, removal_frame}
use Rattle.law_removals.proofs.Unbinds.{IsRemovalPost, of_removal}

-- ---- lists

pub part_all : {X : Type 0} (P : X → Type 0) (xs ys : List X) → Part xs ys → All P ys → All P xs
part_all P xs ys Empty a = All-nil P
part_all P xs ys (Keeps x us vs p) a = All-cons P x us (All-head P x vs a) (part_all P us vs p (All-tail P x vs a))
part_all P xs ys (Drops x us vs p) a = part_all P us vs p (All-tail P x vs a)

pub none_each : {X : Type 0} (test : X → Bool) (xs : List X) → how_many test xs ≡ 0 → All (λ x. test x ≡ false) xs
none_each test [] z = All-nil (λ x. test x ≡ false)
none_each test (x ∷ xs) z = (let c = how_many-cons test x xs in All-cons (λ y. test y ≡ false) x xs (by_test (test x) (omega (arith, c, z))) (none_each test xs (omega (arith, c, z))))
  where
    by_test : (b : Bool) → one_if b ≡ 0 → b ≡ false
    by_test true u = absurd (omega (arith, u))
    by_test false u = refl

pub all_and : {X : Type 0} (P Q : X → Type 0) (xs : List X) → All P xs → All Q xs → All (λ x. P x × Q x) xs
all_and P Q [] a b = All-nil (λ x. P x × Q x)
all_and P Q (x ∷ xs) a b = All-cons (λ y. P y × Q y) x xs (All-head P x xs a, All-head Q x xs b) (all_and P Q xs (All-tail P x xs a) (All-tail Q x xs b))

all_under : {X : Type 0} (K : Type 0) (P : X → Type 0) (xs : List X) → (K → All P xs) → All (λ x. K → P x) xs
all_under K P [] a = All-nil (λ x. K → P x)
all_under K P (x ∷ xs) a = All-cons (λ y. K → P y) x xs (λ k. All-head P x xs (a k)) (all_under K P xs (λ k. All-tail P x xs (a k)))

-- ---- a handle that has left

left_goes : (ns : List News) (ts : List Turn) (s : Side) → replayed (Some Left) (map turn_of ns ++ ts) ≡ Some s → (replayed (Some Left) ts ≡ Some s → s ≡ Left) → s ≡ Left
left_goes [] ts s e f = f e
left_goes (told_news.Added ∷ ns) ts s e f = let z = sym (replayed_none (map turn_of ns ++ ts)) ∙ e in absurd (cc)
left_goes (told_news.NotResponding ∷ ns) ts s e f = let z = sym (replayed_none (map turn_of ns ++ ts)) ∙ e in absurd (cc)

pub left_stays : (g : ℕ) (line : List Said) (s : Side) → replayed (Some Left) (turns_of 0 g line) ≡ Some s → s ≡ Left
left_stays g [] s e = let z : Some Left ≡ Some s = sym (ap (replayed (Some Left)) (turns_nil 0 g)) ∙ e in cc
left_stays g (x ∷ xs) s e = left_goes (news_in g x) (turns_of 0 g xs) s (sym (ap (replayed (Some Left)) (turns_cons 0 g x xs)) ∙ e) (λ u. left_stays g xs s u)

pub left_is_gone : (b : Binding) → side_of_binding b ≡ Left → is_gone_binding b ≡ true
left_is_gone binding.Unbound e = absurd (cc)
left_is_gone (binding.Present address plug expander phy) e = absurd (cc)
left_is_gone (binding.Gone address) e = refl

-- ---- what becomes of a binding that isn't freed

pub data Goes : Binding → Binding → Type 0 where
  Stay : (b : Binding) → Goes b b
  WasUnbound : (b : Binding) → Goes binding.Unbound b
  Left_ : (address plug expander phy : ℕ) → Goes (binding.Present address plug expander phy) (binding.Gone address)

pub goes_on : (a b c : Binding) → Goes a b → Goes b c → Goes a c
goes_on a b c (Stay x) q = q
goes_on a b c (WasUnbound x) q = WasUnbound c
goes_on a b c (Left_ address plug expander phy) (Stay x) = Left_ address plug expander phy

pub keeps_address : (a b : Binding) → Goes a b → (x : ℕ) → address_of a ≡ Some x → address_of b ≡ Some x
keeps_address a b (Stay y) x e = e
keeps_address a b (WasUnbound y) x e = absurd (cc)
keeps_address a b (Left_ address plug expander phy) x e = e

pub keeps_gone : (a b : Binding) → Goes a b → is_gone_binding a ≡ true → is_gone_binding b ≡ true
keeps_gone a b (Stay y) e = e
keeps_gone a b (WasUnbound y) e = absurd (cc)
keeps_gone a b (Left_ address plug expander phy) e = absurd (cc)

module _ (q : ℕ) where
  abbrev pub GoesAt : Ioc → Ioc → Type 0
  GoesAt j k = Goes (binding_of j q) (binding_of k q)

  -- a handle that isn't a disk's stands for nothing
  if_handle : (j : Ioc) (c : Binding) → length j.bindings ≡ 64 → (IsHandle q → Goes (binding_of j q) c) → Goes (binding_of j q) c
  if_handle j c l f = by_binding (binding_of j q) refl f
    where
      by_binding : (b : Binding) → binding_of j q ≡ b → (IsHandle q → Goes b c) → Goes b c
      by_binding binding.Unbound e f = WasUnbound c
      by_binding (binding.Present address plug expander phy) e f = f (stands j q (binding.Present address plug expander phy) l e refl).0
      by_binding (binding.Gone address) e f = f (stands j q (binding.Gone address) l e refl).0

  set_at : (j : Ioc) (h0 : ℕ) (b : Binding) → length j.bindings ≡ 64 → IsHandle h0 → Goes (at j.bindings h0) b → GoesAt j (table.with_binding j h0 b)
  set_at j h0 b l k p = if_handle j (binding_of (table.with_binding j h0 b) q) l (λ i.
      subst (Goes (binding_of j q)) (sym (binding_is (table.with_binding j h0 b) q i ∙ at-set j.bindings h0 q b l k i)) (by_key (q == h0) refl i))
    where
      by_key : (c : Bool) → (q == h0) ≡ c → IsHandle q → Goes (binding_of j q) (cond c b (at j.bindings q))
      by_key true t i = subst (λ x. Goes x b) (sym (binding_is j q i ∙ ap (at j.bindings) (eqb-true q h0 t))) p
      by_key false t i = subst (λ x. Goes x (at j.bindings q)) (sym (binding_is j q i)) (Stay (at j.bindings q))

  other_at : (j : Ioc) (h0 : ℕ) (b : Binding) → length j.bindings ≡ 64 → IsHandle h0 → (q == h0) ≡ false → GoesAt j (table.with_binding j h0 b)
  other_at j h0 b l k n = if_handle j (binding_of (table.with_binding j h0 b) q) l (λ i.
      subst (Goes (binding_of j q)) (sym (binding_is (table.with_binding j h0 b) q i ∙ (at-set j.bindings h0 q b l k i ∙ (ap (λ c. cond c b (at j.bindings q)) n ∙ sym (binding_is j q i))))) (Stay (binding_of j q)))

  changed : (j k : Ioc) (handle expander phy : ℕ) (added : Bool) → GoesAt j k → GoesAt j (bind.changes k handle expander phy added)
  changed j k handle expander phy added p = by_through k.through
    where
      by_through : (b : Bool) → GoesAt j (if b then bind.tells_change k handle expander phy added else k)
      by_through true = p
      by_through false = p

  released : (j k : Ioc) (handle : ℕ) → GoesAt j k → GoesAt j (commands.releases k handle)
  released j k handle p = by_commands (table.has_commands k handle)
    where
      by_commands : (b : Bool) → GoesAt j (if b then k else commands.answers_held k handle)
      by_commands true = p
      by_commands false = p

  module _ (j : Ioc) (l : length j.bindings ≡ 64) where
    to : (o x : Happening Ioc) → o ≡ x → GoesAt j x.part → GoesAt j o.part
    to o x e b = subst (λ (y : Happening Ioc). GoesAt j y.part) (sym e) b

    still : GoesAt j j
    still = Stay (binding_of j q)

    pub heard : (x : Back) (o : Happening Ioc) → Hears j x o → GoesAt j o.part
    heard x o (Passed e) = to o (table.silently j) e still
    heard x o (Ended tag handle queue len written r e) = to o _ e (released j (say.says_on (table.without_request j tag) queue (reply_made x handle len written ∷ [])) handle still)
    heard x o (Done smid r answer z e) = to o _ e still
    heard x o (Bound disk handle u k e) =
        to o _ e (changed j (table.with_binding j handle (binding.Present disk.address disk.plug disk.expander disk.phy)) handle disk.expander disk.phy true
        (let y = least_is j.bindings handle l u in set_at j handle (binding.Present disk.address disk.plug disk.expander disk.phy) l y.0 (subst (λ b. Goes b (binding.Present disk.address disk.plug disk.expander disk.phy)) (sym y.1) (WasUnbound _))))
    heard x o (Waits disk u k e) = to o _ e still
    heard x o (Lost handle address plug expander phy z e) =
        to o _ e (changed j (table.with_binding j handle (binding.Gone address)) handle expander phy false
        (let y = stands j handle (binding.Present address plug expander phy) l z refl in set_at j handle (binding.Gone address) l y.0 (subst (λ b. Goes b (binding.Gone address)) (sym y.1) (Left_ address plug expander phy))))
    heard x o (Unawaited address u e) = to o _ e still
    heard x o (Linked generation r e) = to o _ e still
    heard x o (Calmed e) = to o _ e still

    binds_first : (ds : List Waiting) → GoesAt j (bind.binds_first j ds).part
    binds_first [] = still
    binds_first (d ∷ ds) = by_free (table.least_unbound (record j { waiting = ds })) refl
      where
        by_free : (o : Option ℕ) → table.least_unbound (record j { waiting = ds }) ≡ o → GoesAt j (bind.binds_to (record j { waiting = ds }) d o).part
        by_free None e = still
        by_free (Some h1) e =
            changed j (table.with_binding (record j { waiting = ds }) h1 (binding.Present d.address d.plug d.expander d.phy)) h1 d.expander d.phy true
            (let y = least_is j.bindings h1 l e in set_at (record j { waiting = ds }) h1 (binding.Present d.address d.plug d.expander d.phy) l y.0 (subst (λ b. Goes b (binding.Present d.address d.plug d.expander d.phy)) (sym y.1) (WasUnbound _)))

    pub worked : (p : Post) (o : Happening Ioc) → Works j p o → (kind_in p.descriptor ≡ Some post.Default → function_of (function_in p.frame) ≡ Some function.UnitControl → GoesAt j (asked.removes j p).part) → GoesAt j o.part
    worked p o (Dropped k e) r = to o _ e still
    worked p o (Refuses k f d z e) r = to o _ e still
    worked p o (ScsiEnds status k c e) r = to o _ e still
    worked p o (ScsiSends address plug expander phy k c z e) r = to o _ e still
    worked p o (Stops stop k f e) r = to o _ e still
    worked p o (AbortSends k f t e) r = to o _ e still
    worked p o (AbortEnds k f t e) r = to o _ e still
    worked p o (ResetSends address plug expander phy k z e) r = to o _ e still
    worked p o (ResetHolds address k z t e) r = to o _ e still
    worked p o (ResetEnds status k e) r = to o _ e still
    worked p o (TaskFails k e) r = to o _ e still
    worked p o (PageEnds status k e) r = to o _ e still
    worked p o (PageGiven page k z e) r = to o _ e still
    worked p o (Enables k n e) r = to o _ e still
    worked p o (Notifies k e) r = to o _ e still
    worked p o (Acks k t e) r = to o _ e still
    worked p o (EndsPlainly f status k e) r = to o _ e still
    worked p o (RemovalEnds status k e) r = to o _ e still
    worked p o (Removes address k f z c e) r = to o (asked.removes j p) e (r k f)
    worked p o (Strays k z e) r = to o _ e still

  -- another handle is freed
  pub other_freed : (j : Ioc) (p : Post) (h0 : ℕ) → length j.bindings ≡ 64 → IsHandle h0 → controlled_handle_in p.frame ≡ h0 → (q == h0) ≡ false → GoesAt j (asked.removes j p).part
  other_freed j p h0 l k e n =
      goes_on (binding_of j q) (binding_of (table.with_binding j (controlled_handle_in p.frame) binding.Unbound) q) (binding_of (asked.removes j p).part q)
      (subst (λ x. GoesAt j (table.with_binding j x binding.Unbound)) (sym e) (other_at j h0 binding.Unbound l k n))
      (binds_first (asked.ioc_ends_removal (table.with_binding j (controlled_handle_in p.frame) binding.Unbound) p Rattle.mpt_rules.specs.declared.status.TheConstants.IOC_STATUS_SUCCESS) (length-set j.bindings _ _ ∙ l) j.waiting)

-- ---- a post's type

pub type_of_reset : (handle : ℕ) → IsHandle handle → task_type_in (frame_asked (ask.Task handle target_reset 0)) ≡ target_reset
unfolding task_ask_layout task_ask_values
type_of_reset handle l = ap (λ vs. get_or vs 4 0) (host_frame_stands (ask.Task handle target_reset 0) (task_fits handle target_reset 0 (omega (arith, l)) (inr (refl, refl)))).numbers

pub is_some_removal : (n : ℕ) → 1 ≤ n → (c : Bool) → (not (n == 0) || c) ≡ true
is_some_removal zero l c = absurd (omega (arith, l))
is_some_removal (suc n) l c = let z : (suc n == 0) ≡ false = grind arith in ap (λ b. not b || c) z

-- the address of a handle that the rule has as bound
pub bound_address : (a : ℕ) (b : Binding) (o : Option Plug) → BindingIs b o → option_map (λ (p : Plug). p.address) o ≡ Some a → address_of b ≡ Some a
bound_address a binding.Unbound o e z = let y = sym (ap (option_map (λ (p : Plug). p.address)) e) ∙ z in absurd (cc)
bound_address a (binding.Present address plug expander phy) o e z = sym (ap (option_map (λ (p : Plug). p.address)) e) ∙ z
bound_address a (binding.Gone address) None e z = absurd e
bound_address a (binding.Gone address) (Some p) e z = let y : p.address ≡ a = some_is p.address a z in ap Some (sym e ∙ y)
  where
    some_is : (m n : ℕ) → Some m ≡ Some n → m ≡ n
    some_is m n z = cc

address_bound : (b : Binding) (a : ℕ) → address_of b ≡ Some a → is_unbound b ≡ false
address_bound binding.Unbound a e = absurd (cc)
address_bound (binding.Present address plug expander phy) a e = refl
address_bound (binding.Gone address) a e = refl

-- the record is a target reset's
abbrev IsReset : Slot Request → Type 0
IsReset (Open (request.TargetReset a)) = Unit {0}
IsReset (Open (request.Leave g)) = Unit {0}
IsReset y = ⊥

module _ (w : World) (h : History) (f : Facts w h) (plain : NothingIsStrange w) where
  abbrev AllBound : World → Type 0
  AllBound v = All (ResetIsBound v) (high_line v)

  abbrev Kept : World → Type 0
  Kept v = (k : History) → After w h v k → is_live v ≡ true → AllBound v

  pub line_dead : is_live w ≡ false → high_line w ≡ []
  line_dead d =
      let t = f.clock.tables_empty (bare w f.clock.phase_table.whole d) in
      ap (λ ns. ns ++ high_posts (down_line w)) t.high ∙ none_high (down_line w) (no_posts (how_many is_load (down_line w)) refl)
    where
      no_posts : (n : ℕ) → how_many is_load (down_line w) ≡ n → how_many is_post (down_line w) ≡ 0
      no_posts zero e = let m = fewer_pass is_post is_load post_is_load (down_line w) in omega (arith, m, e)
      no_posts (suc n) e = clash (is_live w) (f.clock.loads_before_reset.live (omega (arith, e))) d

  -- ---- the records of the line's posts

  records_down : (xs : List Down) → All (DownIsRecord w h) xs → All (PostIsRecord w h) (high_posts xs)
  records_down [] a = subst (All (PostIsRecord w h)) (sym high_posts-nil) (All-nil (PostIsRecord w h))
  records_down (x ∷ xs) a = subst (All (PostIsRecord w h)) (sym (high_posts-cons x xs)) (by_item x (All-head (DownIsRecord w h) x xs a) (records_down xs (All-tail (DownIsRecord w h) x xs a)))
    where
      by_item : (x : Down) → DownIsRecord w h x → All (PostIsRecord w h) (high_posts xs) → All (PostIsRecord w h) (cons_option (high_post x) (high_posts xs))
      by_item (down.Post d fr p) r b = by_high (is_high d)
        where
          by_high : (c : Bool) → All (PostIsRecord w h) (cons_option (if c then Some (record { descriptor = d; frame = fr; payload = p }) else None) (high_posts xs))
          by_high true = All-cons (PostIsRecord w h) (record { descriptor = d; frame = fr; payload = p }) (high_posts xs) r b
          by_high false = b
      by_item (down.Write reg value) r b = b
      by_item (down.Read reg) r b = b
      by_item (down.Return address i) r b = b
      by_item down.Stop r b = b

  pub records : All (PostIsRecord w h) (high_line w)
  records = All-append (PostIsRecord w h) w.ioc.high (high_posts (down_line w)) f.messages.high (records_down (down_line w) f.messages.down)

  -- ---- the controller goes on

  transfer : (v : World) (p : Post) (y : Slot Request) → PostIs w h p y → (IsReset y → Goes (binding_of w.ioc (dev_handle_in p.frame)) (binding_of v.ioc (dev_handle_in p.frame))) → ResetIsOf w p y → ResetIsOf v p y
  transfer v p (Open (request.TargetReset a)) r g e = keeps_address (binding_of w.ioc (dev_handle_in p.frame)) (binding_of v.ioc (dev_handle_in p.frame)) (g tt) a e
  transfer v p (Open (request.Leave q)) r g e =
      ap (λ j. is_gone_binding (binding_of v.ioc j)) (sym r.1) ∙ keeps_gone (binding_of w.ioc (dev_handle_in p.frame)) (binding_of v.ioc (dev_handle_in p.frame)) (g tt) (ap (λ j. is_gone_binding (binding_of w.ioc j)) r.1 ∙ e)
  transfer v p (Open (request.Command n)) r g e = tt
  transfer v p (Open (request.Abort n t)) r g e = tt
  transfer v p (Open (request.Page q)) r g e = tt
  transfer v p (Open (request.Remove q)) r g e = tt
  transfer v p (Open (request.Ack x c)) r g e = tt
  transfer v p (Open request.Notification) r g e = tt
  transfer v p (Open request.PortEnable) r g e = tt
  transfer v p Free r g e = tt
  transfer v p Parked r g e = tt

  -- v has the host of w; N is what is known of each post beside
  by_ioc : (v : World) (N : Post → Type 0) → v.host ≡ w.host → Part (high_line v) (high_line w) → (is_live w ≡ true → All N (high_line w))
      → ((p : Post) → PostIsRecord w h p → ResetIsBound w p → N p → IsReset (slot w.host (smid_in p.descriptor)) → Goes (binding_of w.ioc (dev_handle_in p.frame)) (binding_of v.ioc (dev_handle_in p.frame))) → AllBound v
  by_ioc v N e q n g = by_live (is_live w) refl
    where
      by_live : (x : Bool) → is_live w ≡ x → AllBound v
      by_live false l = part_all (ResetIsBound v) (high_line v) (high_line w) q (subst (All (ResetIsBound v)) (sym (line_dead l)) (All-nil (ResetIsBound v)))
      by_live true l =
          part_all (ResetIsBound v) (high_line v) (high_line w) q
          (all_same (λ (p : Post). N p × (PostIsRecord w h p × ResetIsBound w p)) (ResetIsBound v)
          (λ p z. subst (λ x. ResetIsOf v p (slot x (smid_in p.descriptor))) (sym e) (transfer v p (slot w.host (smid_in p.descriptor)) z.1.0 (λ r. g p z.1.0 z.1.1 z.0 r) z.1.1))
          (high_line w) (all_and N (λ (p : Post). PostIsRecord w h p × ResetIsBound w p) (high_line w) (n l) (all_and (PostIsRecord w h) (ResetIsBound w) (high_line w) records (f.handles.resets l))))

  abbrev Anything : Post → Type 0
  Anything p = Unit {0}

  anything : (xs : List Post) → All Anything xs
  anything [] = All-nil Anything
  anything (x ∷ xs) = All-cons Anything x xs tt (anything xs)

  plainly : (v : World) → v.host ≡ w.host → Part (high_line v) (high_line w) → ((q : ℕ) → Goes (binding_of w.ioc q) (binding_of v.ioc q)) → AllBound v
  plainly v e q g = by_ioc v Anything e q (λ l. anything (high_line w)) (λ p r b n z. g (dev_handle_in p.frame))

  -- ---- a handle is freed: no target reset of it is in the line

  -- the handle of a target reset that is bound
  reset_handle : (p : Post) (y : Slot Request) → slot w.host (smid_in p.descriptor) ≡ y → PostIs w h p y → ResetIsOf w p y → IsReset y → IsHandle (dev_handle_in p.frame)
  reset_handle p (Open (request.TargetReset a)) o r b z = (stands w.ioc (dev_handle_in p.frame) (binding_of w.ioc (dev_handle_in p.frame)) f.flights.sizes.bindings refl (address_bound (binding_of w.ioc (dev_handle_in p.frame)) a b)).0
  reset_handle p (Open (request.Leave q)) o r b z = subst IsHandle (sym r.1) (record_fits w h f (smid_in p.descriptor) (request.Leave q) o)
  reset_handle p (Open (request.Command n)) o r b z = absurd z
  reset_handle p (Open (request.Abort n t)) o r b z = absurd z
  reset_handle p (Open (request.Page q)) o r b z = absurd z
  reset_handle p (Open (request.Remove q)) o r b z = absurd z
  reset_handle p (Open (request.Ack x c)) o r b z = absurd z
  reset_handle p (Open request.Notification) o r b z = absurd z
  reset_handle p (Open request.PortEnable) o r b z = absurd z
  reset_handle p Free o r b z = absurd z
  reset_handle p Parked o r b z = absurd z

  reset_frame : (p : Post) (y : Slot Request) → PostIs w h p y → IsReset y → p.frame ≡ frame_asked (ask.Task (dev_handle_in p.frame) target_reset 0)
  reset_frame p (Open (request.TargetReset a)) r z = r.1
  reset_frame p (Open (request.Leave q)) r z = r.0.1
  reset_frame p (Open (request.Command n)) r z = absurd z
  reset_frame p (Open (request.Abort n t)) r z = absurd z
  reset_frame p (Open (request.Page q)) r z = absurd z
  reset_frame p (Open (request.Remove q)) r z = absurd z
  reset_frame p (Open (request.Ack x c)) r z = absurd z
  reset_frame p (Open request.Notification) r z = absurd z
  reset_frame p (Open request.PortEnable) r z = absurd z
  reset_frame p Free r z = absurd z
  reset_frame p Parked r z = absurd z

  -- it is of another handle than one of which there is none
  reset_apart : (g : ℕ) (p : Post) → PostIsRecord w h p → ResetIsBound w p → IsReset (slot w.host (smid_in p.descriptor)) → is_target_reset_post g p ≡ false → (dev_handle_in p.frame == g) ≡ false
  reset_apart g p r b z n =
      let i = reset_handle p (slot w.host (smid_in p.descriptor)) refl r b z in
      let t = ap task_type_in (reset_frame p (slot w.host (smid_in p.descriptor)) r z) ∙ type_of_reset (dev_handle_in p.frame) i in
      let same : (target_reset == target_reset) ≡ true = grind arith in
      sym (ap (λ c. c && (dev_handle_in p.frame == g)) (ap (λ m. m == target_reset) t ∙ same)) ∙ n

  module _ (p0 : Post) (rest : List Post) (front : w.ioc.normal ≡ p0 ∷ rest) where
    abbrev pub Freed : Type 0
    Freed = (kind_in p0.descriptor ≡ Some post.Default) × (function_of (function_in p0.frame) ≡ Some function.UnitControl)

    pub its : Freed → IsRemovalPost w p0
    its k = of_removal w h f p0 (All-head (PostIsRecord w h) p0 rest (subst (All (PostIsRecord w h)) front f.messages.normal)) k.0 k.1

    pub its_handle : (k : Freed) → IsHandle (its k).0
    its_handle k = record_fits w h f (smid_in p0.descriptor) (request.Remove (its k).0) (its k).1

    none_left : is_live w ≡ true → (k : Freed) → All (λ (p : Post). is_target_reset_post (controlled_handle_in p0.frame) p ≡ false) (high_line w)
    none_left l k =
        let x = its k in
        let e = (removal_frame x.0 p0.frame (its_handle k) x.2).1 in
        let line : normal_line w ≡ p0 ∷ (rest ++ normal_posts (down_line w)) = ap (λ xs. xs ++ normal_posts (down_line w)) front in
        let count = how_many-cons (is_remove_post w x.0) p0 (rest ++ normal_posts (down_line w)) in
        let own = Rattle.law_messages.proofs.Agreeing.same x.0 in
        let mine = ap one_if (ap (is_remove_request x.0) x.1 ∙ own) in
        let y = ap (how_many (is_remove_post w x.0)) line in
        let go = (f.handles.each x.0 (its_handle k)).last.let_go l (is_some_removal (removes w x.0) (omega (arith, y, count, mine)) (in_normal w && Rattle.law_facts.specs.Handles.is_reset_done w (phase_of w x.0))) in
        none_each (is_target_reset_post (controlled_handle_in p0.frame)) (high_line w) (ap (λ j. how_many (is_target_reset_post j) (high_line w)) e ∙ go.resets)

    pub freed_apart : (q : ℕ) (k : Freed) → (q == controlled_handle_in p0.frame) ≡ false → Goes (binding_of w.ioc q) (binding_of (asked.removes (record w.ioc { normal = rest }) p0).part q)
    freed_apart q k n =
        let x = its k in
        let e = (removal_frame x.0 p0.frame (its_handle k) x.2).1 in
        other_freed q (record w.ioc { normal = rest }) p0 x.0 f.flights.sizes.bindings (its_handle k) e (sym (ap (λ j. q == j) e) ∙ n)

    normal_worked : AllBound (record w { ioc = (step.works_on (record w.ioc { normal = rest }) p0).part })
    normal_worked =
        by_ioc (record w { ioc = (step.works_on (record w.ioc { normal = rest }) p0).part }) (λ (p : Post). Freed → is_target_reset_post (controlled_handle_in p0.frame) p ≡ false) refl
        (part_append _ w.ioc.high (high_posts (down_line w)) (high_posts (down_line w)) (subst (λ ns. Part ns w.ioc.high) (sym (work_queues (record w.ioc { normal = rest }) p0).high) (part_itself w.ioc.high)) (part_itself (high_posts (down_line w))))
        (λ l. all_under Freed (λ (p : Post). is_target_reset_post (controlled_handle_in p0.frame) p ≡ false) (high_line w) (λ k. none_left l k))
        (λ p r b n z. worked (dev_handle_in p.frame) (record w.ioc { normal = rest }) f.flights.sizes.bindings p0 _ (works_leaf (record w.ioc { normal = rest }) p0)
        (λ k u. freed_apart (dev_handle_in p.frame) (k, u) (reset_apart (controlled_handle_in p0.frame) p r b z (n (k, u)))))

  -- the front of the high queue is no remove device
  high_worked : (p0 : Post) (rest : List Post) → w.ioc.high ≡ p0 ∷ rest → AllBound (record w { ioc = (step.works_on (record w.ioc { high = rest }) p0).part })
  high_worked p0 rest e =
      plainly (record w { ioc = (step.works_on (record w.ioc { high = rest }) p0).part }) refl
      (part_append _ w.ioc.high (high_posts (down_line w)) (high_posts (down_line w))
      (subst (λ ns. Part ns w.ioc.high) (sym (work_queues (record w.ioc { high = rest }) p0).high) (subst (Part rest) (sym e) (Drops p0 rest rest (part_itself rest)))) (part_itself (high_posts (down_line w))))
      (λ q. worked q (record w.ioc { high = rest }) f.flights.sizes.bindings p0 _ (works_leaf (record w.ioc { high = rest }) p0) (λ k u. not_high q k))
    where
      not_high : (q : ℕ) → kind_in p0.descriptor ≡ Some post.Default → Goes (binding_of w.ioc q) (binding_of (asked.removes (record w.ioc { high = rest }) p0).part q)
      not_high q k =
          let z = front_passes (λ (x : Post). is_high x.descriptor) p0 rest (sym (ap (others (λ (x : Post). is_high x.descriptor)) e) ∙ f.flights.sorted.high) in
          let flags : flags_in p0.descriptor ≡ flags_of post.HighPriority = equal_keys (flags_in p0.descriptor) (flags_of post.HighPriority) z in
          let v = ap kind_by_flags flags in
          absurd (cc)

  pub no_fault : (x : IocState) → is_fault x ≡ true → is_operational x ≡ true → ⊥
  no_fault ioc_state.Reset a b = cc
  no_fault ioc_state.Ready a b = cc
  no_fault ioc_state.Operational a b = cc
  no_fault (ioc_state.Fault code) a b = cc

  same_binding : (j : Ioc) (q : ℕ) → binding_of j q ≡ binding_of w.ioc q → Goes (binding_of w.ioc q) (binding_of j q)
  same_binding j q e = subst (Goes (binding_of w.ioc q)) (sym e) (Stay (binding_of w.ioc q))

  pub item_taken : (x : Down) (j : Ioc) → Takes w.ioc x j → is_operational j.door.state ≡ true → (q : ℕ) → Goes (binding_of w.ioc q) (binding_of j q)
  item_taken x j (leaf.Faults y m e) l q = absurd (no_fault j.door.state e l)
  item_taken x j (leaf.Written reg value m r s e) l q = same_binding j q (ap (λ (y : Ioc). binding_of y q) e)
  item_taken x j (leaf.Operates value m r s t e) l q = same_binding j q (ap (λ (y : Ioc). binding_of y q) e)
  item_taken x j (leaf.Forgets reg value d e) l q = absurd (cc)
  item_taken x j (leaf.Reads reg value) l q = Stay (binding_of w.ioc q)
  item_taken x j (leaf.Posts d fr p m s e) l q = same_binding j q (ap (λ (y : Ioc). binding_of y q) e)
  item_taken x j (leaf.DropsPost d fr p e) l q = Stay (binding_of w.ioc q)
  item_taken x j (leaf.Returns a y m s e) l q = same_binding j q (ap (λ (z : Ioc). binding_of z q) e)
  item_taken x j (leaf.DropsReturn a y e) l q = Stay (binding_of w.ioc q)
  item_taken x j leaf.Stops l q = Stay (binding_of w.ioc q)

  take_part : (x : Down) (rest : List Down) → w.down ≡ x ∷ rest → Part ((adapter.takes_down w.ioc x).part.high ++ high_posts (rest ++ w.host.out)) (high_line w)
  take_part x rest e = subst (λ xs. Part ((adapter.takes_down w.ioc x).part.high ++ high_posts (rest ++ w.host.out)) (w.ioc.high ++ high_posts (xs ++ w.host.out))) (sym e) (down_taken w.ioc (rest ++ w.host.out) x).high

  -- ---- the host

  pub high_few : (s : ℕ) (xs : List Down) → queued_count s (high_posts xs) ≤ post_count s xs
  high_few s [] = let a = ap (queued_count s) high_posts-nil in let n = queued_count-nil s in omega (arith, a, n)
  high_few s (x ∷ xs) = (let h = high_few s xs in let a = ap (queued_count s) (high_posts-cons x xs) in let c = post_count-cons s x xs in let b = by_item x in omega (arith, h, a, c, b))
    where
      by_item : (x : Down) → queued_count s (cons_option (high_post x) (high_posts xs)) ≤ one_if (Rattle.mpt_rules.specs.World.Places.is_posted_as s x) + queued_count s (high_posts xs)
      by_item (down.Post d fr p) = by_high (is_high d)
        where
          by_high : (c : Bool) → queued_count s (cons_option (if c then Some (record { descriptor = d; frame = fr; payload = p }) else None) (high_posts xs)) ≤ one_if (smid_in d == s) + queued_count s (high_posts xs)
          by_high true = let c = queued_count-cons s (record { descriptor = d; frame = fr; payload = p }) (high_posts xs) in omega (arith, c)
          by_high false = omega arith
      by_item (down.Write reg value) = omega arith
      by_item (down.Read reg) = omega arith
      by_item (down.Return address i) = omega arith
      by_item down.Stop = omega arith

  pub in_posts : (s : ℕ) → 1 ≤ queued_count s (high_line w) → 1 ≤ posted w s
  in_posts s l = let a = queued_count-append s w.ioc.high (high_posts (down_line w)) in let b = high_few s (down_line w) in omega (arith, a, b, l)

  module _ (v : World) (same_ioc : v.ioc ≡ w.ioc) (k : History) (a : After w h v k) (live : is_live v ≡ true) where
    live_too : is_live w ≡ true
    live_too = sym (ap (λ (j : Ioc). is_operational j.door.state) same_ioc) ∙ live

    -- what was in the line
    old : All (ResetIsBound v) (high_line w)
    old =
        all_same (λ (p : Post). (1 ≤ queued_count (smid_in p.descriptor) (high_line w)) × (PostIsRecord w h p × ResetIsBound w p)) (ResetIsBound v)
        (λ p z. (let m = in_posts (smid_in p.descriptor) z.0 in
        subst (ResetIsOf v p) (sym (had_record w h f v k a (dead w h f (smid_in p.descriptor) m) (smid_in p.descriptor) m))
        (transfer v p (slot w.host (smid_in p.descriptor)) z.1.0 (λ r. subst (Goes (binding_of w.ioc (dev_handle_in p.frame))) (sym (ap (λ (j : Ioc). binding_of j (dev_handle_in p.frame)) same_ioc)) (Stay (binding_of w.ioc (dev_handle_in p.frame)))) z.1.1)))
        (high_line w) (all_and (λ (p : Post). 1 ≤ queued_count (smid_in p.descriptor) (high_line w)) (λ (p : Post). PostIsRecord w h p × ResetIsBound w p) (high_line w) (own_counts (high_line w)) (all_and (PostIsRecord w h) (ResetIsBound w) (high_line w) records (f.handles.resets live_too)))

    -- what is new
    fresh : in_normal v ≡ true → (hand : ℕ) (p : Post) (y : Slot Request) → slot v.host (smid_in p.descriptor) ≡ y → FreshHigh w hand v.host p y → ResetIsOf v p y
    fresh n hand p (Open (request.Leave g)) o z =
        let r = subst (RecordHasPhase v (smid_in p.descriptor)) o (a.phases.records n (smid_in p.descriptor)) in
        let life = a.lives g r.0 n live in
        let e : replayed (Some Left) (turns_of 0 g (up_line v 0)) ≡ Some (side_of_binding (binding_of v.ioc g)) = subst (λ q. replayed (Some (side_of_phase q)) (turns_of (removal_of q) g (up_line v 0)) ≡ Some (side_of_binding (binding_of v.ioc g))) r.1 life in
        left_is_gone (binding_of v.ioc g) (left_stays g (up_line v 0) (side_of_binding (binding_of v.ioc g)) e)
    fresh n hand p (Open (request.TargetReset x)) o z =
        let ih = z.0 in
        let r = subst (ReadyIsBound w h (dev_handle_in p.frame)) z.1 ((f.handles.each (dev_handle_in p.frame) ih).ready z.3) in
        ap (λ (j : Ioc). address_of (binding_of j (dev_handle_in p.frame))) same_ioc ∙ bound_address x (binding_of w.ioc (dev_handle_in p.frame)) (h.serving.bound (dev_handle_in p.frame)) (f.handles.each (dev_handle_in p.frame) ih).binds.served r
    fresh n hand p (Open (request.Abort m t)) o z = tt
    fresh n hand p (Open (request.Command m)) o z = tt
    fresh n hand p (Open (request.Page q)) o z = tt
    fresh n hand p (Open (request.Remove q)) o z = tt
    fresh n hand p (Open (request.Ack x c)) o z = tt
    fresh n hand p (Open request.Notification) o z = tt
    fresh n hand p (Open request.PortEnable) o z = tt
    fresh n hand p Free o z = tt
    fresh n hand p Parked o z = tt

    host_behaves : Behaves w v → AllBound v
    host_behaves (Fewer q r) = part_all (ResetIsBound v) (high_line v) (high_line w) r old
    host_behaves (More n hand news above e high z y) =
        subst (All (ResetIsBound v)) (sym high) (All-append (ResetIsBound v) (high_line w) above old
        (all_same (λ (p : Post). FreshHigh w hand v.host p (slot v.host (smid_in p.descriptor))) (ResetIsBound v) (λ p x. fresh n hand p (slot v.host (smid_in p.descriptor)) refl x) above y))

  put_line : (x : Down) (rest : List Down) → w.host.out ≡ x ∷ rest → is_live w ≡ true → All (ResetIsBound w) (w.ioc.high ++ high_posts ((w.down ++ x ∷ []) ++ rest))
  put_line x rest e l = subst (All (ResetIsBound w)) (sym (ap (λ xs. w.ioc.high ++ high_posts xs) (append_assoc w.down (x ∷ []) rest ∙ ap (λ xs. w.down ++ xs) (sym e)))) (f.handles.resets l)

  sent : (x : Down) (rest : List Down) → w.host.out ≡ x ∷ rest → Kept (record w { host = after_sent w.host x rest; down = w.down ++ x ∷ [] })
  sent (down.Post d fr p) rest e k a l = put_line (down.Post d fr p) rest e l
  sent (down.Write reg value) rest e k a l = put_line (down.Write reg value) rest e l
  sent (down.Read reg) rest e k a l = put_line (down.Read reg) rest e l
  sent (down.Return address j) rest e k a l = put_line (down.Return address j) rest e l
  sent down.Stop rest e k a l = put_line down.Stop rest e l

  owed : Owes Kept w
  owed =
      record {
        host_puts = λ x rest e. sent x rest e;
        host_takes = λ queue x rest e s k a l. host_behaves _ refl k a l (taken w h f plain queue x rest e);
        host_told = λ j n k a l. host_behaves _ refl k a l (told w h f plain j);
        host_looks = λ e k a l. host_behaves _ refl k a l (looked w h f plain);
        host_stops = λ e k a l. host_behaves _ refl k a l (stopped w h f plain);
        ioc_takes = λ x rest e k a l. plainly (record w { ioc = (adapter.takes_down w.ioc x).part; down = rest }) refl (take_part x rest e) (λ q. item_taken x (adapter.takes_down w.ioc x).part (takes w.ioc f.doorbell.sound.waits f.clock.phase_table.whole x) l q);
        ioc_high = λ p rest e k a l. high_worked p rest e;
        ioc_normal = λ p rest e k a l. normal_worked p rest e;
        ioc_puts_out = λ x rest e k a. f.handles.resets;
        ioc_takes_back = λ x rest e k a l. plainly (record w { ioc = (adapter.takes_back w.ioc x).part; back = rest }) refl
            (part_append _ w.ioc.high (high_posts (down_line w)) (high_posts (down_line w)) (subst (λ ns. Part ns w.ioc.high) (sym (back_queues w.ioc x).high) (part_itself w.ioc.high)) (part_itself (high_posts (down_line w))))
            (λ q. heard q w.ioc f.flights.sizes.bindings x (news.takes_back w.ioc x) (back_leaf w.ioc x));
        ioc_puts = λ queue y rest z e u k a. f.handles.resets;
        fabric_takes = λ x rest e k a. f.handles.resets;
        fabric_says = λ x rest e k a. f.handles.resets;
        fabric_puts = λ x rest e k a. f.handles.resets;
        fabric_runs = λ tag address e k a. f.handles.resets;
        plugs = λ address expander phy k a. f.handles.resets;
        unplugs = λ address k a. f.handles.resets;
        calms = λ k a. f.handles.resets;
      }

-- ResetIsBound
pub resets_bound : (w : World) (h : History) (c : Case) → Facts w h → NothingIsStrange w → After w h (happens w c) (history_after h (entries w c)) → is_live (happens w c) ≡ true → All (ResetIsBound (happens w c)) (high_line (happens w c))
resets_bound w h c f plain a = kept (Kept w h f plain) w plain (owed w h f plain) (λ k b. f.handles.resets) c (history_after h (entries w c)) a
