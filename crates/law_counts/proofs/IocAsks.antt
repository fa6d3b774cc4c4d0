-- What the controller has of an abort or a target reset before it asked the fabric: no call makes it more, but by the post that is taken.
use Rattle.std.proofs.Common.{◌≡◌, ℕ, ◌+◌, ◌≤◌, not, Bool, true, false, if◌then◌else◌, List, [], ◌∷◌, ◌++◌, Option, Some, None, refl, ap, sym, subst, arith}
use Rattle.mpi_doorbell.specs.DoorRegisters.{is_fault}
use Rattle.mpi_rings.specs.declared.request_descriptor.PostKind.{PostKind}
use Rattle.mpi_rings.specs.declared.request_descriptor.PostKind.TheVariants as post
use Rattle.mpt_wire.specs.Messages.Fields.{dev_handle_in, kind_in, smid_in, task_mid_in}
use Rattle.mpt_trace.specs.declared.item.Back.{Back}
use Rattle.mpt_trace.specs.declared.item.Down.{Down}
use Rattle.mpt_trace.specs.declared.item.Down.TheVariants as downward
use Rattle.mpt_trace.specs.declared.item.Out.{Out}
use Rattle.mpt_trace.specs.declared.item.Out.TheVariants as out
use Rattle.mpt_rules.specs.declared.at_fabric.HeldReset.{HeldReset}
use Rattle.mpt_rules.specs.declared.binding.Binding.TheVariants as binding
use Rattle.mpt_rules.specs.declared.binding.Waiting.{Waiting}
use Rattle.mpt_rules.specs.declared.post.Post.{Post}
use Rattle.mpt_rules.specs.Ioc.Bindings as bind
use Rattle.mpt_rules.specs.Ioc.Commands as commands
use Rattle.mpt_rules.specs.Ioc.Parts.{Ioc, state_of}
use Rattle.mpt_rules.specs.Ioc.Posts as posts
use Rattle.mpt_rules.specs.Ioc.Replies as say
use Rattle.mpt_rules.specs.Ioc.Requests as ask
use Rattle.mpt_rules.specs.Ioc.Resets.{next_generation}
use Rattle.mpt_rules.specs.Ioc.Steps as step
use Rattle.mpt_rules.specs.Ioc.Tables as table
use Rattle.mpt_rules.specs.Ioc.Tables.{is_held_as, is_post_of}
use Rattle.mpt_rules.specs.Ioc.Takes as adapter
use Rattle.mpt_rules.specs.Ioc.Tasks as tasks
use Rattle.mpt_rules.specs.Outcome.{Happening}
use Rattle.mpt_rules.specs.World.Counts.{how_many, one_if, queued_count}
use Rattle.mpt_rules.specs.World.FabricCounts.{is_abort_by, is_reset_by, sent_abort_count, sent_reset_count}
use Rattle.mpt_rules.specs.World.Places.{is_posted_as}
use Rattle.mpt_rules.proofs.Counts.{queued_count-append, queued_count-cons, queued_count-nil}
use Rattle.mpt_rules.proofs.FabricCounts.{sent_abort_count-append, sent_abort_count-cons, sent_abort_count-nil, sent_reset_count-append, sent_reset_count-cons, sent_reset_count-nil}
use Rattle.law_flights.proofs.Leaves.{Bound, Calmed, Done, Ended, Hears, Linked, Lost, Passed, Unawaited, Waits, back_leaf}
use Rattle.law_flights.proofs.WorkLeaves.{AbortEnds, AbortSends, Acks, Dropped, Enables, EndsPlainly, Notifies, PageEnds, PageGiven, Refuses, RemovalEnds, Removes, ResetEnds, ResetHolds, ResetSends, ScsiEnds, ScsiSends, Stops, Strays, TaskFails, Works, works_leaf}
use Rattle.law_messages.proofs.Agreeing.{not_both}
use Rattle.law_moves.proofs.Counted.{filtered, how_many-cons, how_many-nil}
use Rattle.law_moves.proofs.IocTakes as leaf
use Rattle.law_moves.proofs.IocTakes.{Takes, takes}

module _ (q : ℕ) where
  -- what is asked of the fabric in its outbox
  abbrev pub asked_out : List Out → ℕ
  asked_out xs = sent_abort_count q xs + sent_reset_count q xs

  -- in the high queue, waiting, or in the outbox to the fabric
  abbrev pub in_ioc : Ioc → ℕ
  in_ioc i = queued_count q i.high + (how_many (is_held_as q) i.held + asked_out i.out)

  -- ---- the outbox

  pub one_out : (xs : List Out) (x : Out) → asked_out (xs ++ x ∷ []) ≡ asked_out xs + (one_if (is_abort_by q x) + one_if (is_reset_by q x))
  one_out xs x =
      let a = sent_abort_count-append q xs (x ∷ []) in let b = sent_abort_count-cons q x [] in let c = sent_abort_count-nil q in
      let d = sent_reset_count-append q xs (x ∷ []) in let e = sent_reset_count-cons q x [] in let f = sent_reset_count-nil q in
      omega (arith, a, b, c, d, e, f)

  pub first_out : (x : Out) (xs : List Out) → asked_out (x ∷ xs) ≡ (one_if (is_abort_by q x) + one_if (is_reset_by q x)) + asked_out xs
  first_out x xs = let b = sent_abort_count-cons q x xs in let e = sent_reset_count-cons q x xs in omega (arith, b, e)

  pub both_out : (xs ys : List Out) → asked_out (xs ++ ys) ≡ asked_out xs + asked_out ys
  both_out xs ys = let a = sent_abort_count-append q xs ys in let d = sent_reset_count-append q xs ys in omega (arith, a, d)

  pub none_out : asked_out [] ≡ 0
  none_out = let c = sent_abort_count-nil q in let f = sent_reset_count-nil q in omega (arith, c, f)

  held_more : (xs : List HeldReset) (x : HeldReset) → how_many (is_held_as q) (xs ++ x ∷ []) ≡ how_many (is_held_as q) xs + one_if (is_held_as q x)
  held_more [] x = let a = how_many-cons (is_held_as q) x [] in let b : how_many (is_held_as q) [] ≡ 0 = how_many-nil {X = HeldReset} (is_held_as q) in omega (arith, a, b)
  held_more (y ∷ ys) x = let a = how_many-cons (is_held_as q) y (ys ++ x ∷ []) in let b = how_many-cons (is_held_as q) y ys in let c = held_more ys x in omega (arith, a, b, c)

  -- ---- what the fabric tells

  module _ (n : ℕ) where
    -- at most so many
    abbrev pub Few : Ioc → Type 0
    Few i = in_ioc i ≤ n

    pub same : (i k : Ioc) → k.high ≡ i.high → k.held ≡ i.held → k.out ≡ i.out → Few i → Few k
    same i k a b c l = let x = ap (queued_count q) a in let y = ap (how_many (is_held_as q)) b in let z = ap asked_out c in omega (arith, x, y, z, l)

    releases : (i : Ioc) (handle : ℕ) → Few i → Few (commands.releases i handle)
    releases i handle l = by_commands (table.has_commands i handle)
      where
        by_commands : (b : Bool) → Few (if b then i else commands.answers_held i handle)
        by_commands true = l
        by_commands false = let z = filtered (is_held_as q) (λ held. not (commands.is_held_for handle held)) i.held in omega (arith, l, z)

    changes : (i : Ioc) (handle expander phy : ℕ) (added : Bool) → Few i → Few (bind.changes i handle expander phy added)
    changes i handle expander phy added l = by_through i.through
      where
        by_through : (b : Bool) → Few (if b then bind.tells_change i handle expander phy added else i)
        by_through true = l
        by_through false = l

    binds_to : (i : Ioc) (disk : Waiting) (o : Option ℕ) → Few i → Few (bind.binds_to i disk o).part
    binds_to i disk None l = l
    binds_to i disk (Some handle) l = changes (table.with_binding i handle (binding.Present disk.address disk.plug disk.expander disk.phy)) handle disk.expander disk.phy true l

    binds_first : (i : Ioc) (ds : List Waiting) → Few i → Few (bind.binds_first i ds).part
    binds_first i [] l = l
    binds_first i (d ∷ ds) l = binds_to (record i { waiting = ds }) d (table.least_unbound (record i { waiting = ds })) l

    to : (o x : Happening Ioc) → o ≡ x → Few x.part → Few o.part
    to o x e l = subst (λ (y : Happening Ioc). Few y.part) (sym e) l

    heard : (i : Ioc) (x : Back) (o : Happening Ioc) → Hears i x o → Few i → Few o.part
    heard i x o (Passed e) l = to o _ e l
    heard i x o (Ended tag handle queue len written r e) l = to o _ e (releases (say.says_on (table.without_request i tag) queue _) handle l)
    heard i x o (Done smid r answer g e) l = to o _ e l
    heard i x o (Bound disk handle u k e) l = to o _ e (binds_to i disk (Some handle) l)
    heard i x o (Waits disk u k e) l = to o _ e l
    heard i x o (Lost handle address plug expander phy b e) l = to o _ e (changes (table.with_binding i handle (binding.Gone address)) handle expander phy false l)
    heard i x o (Unawaited address g e) l = to o _ e l
    heard i x o (Linked generation r e) l = to o _ e l
    heard i x o (Calmed e) l = to o _ e l

    pub back_few : (i : Ioc) (x : Back) → Few i → Few (adapter.takes_back i x).part
    back_few i x l = heard i x (adapter.takes_back i x) (back_leaf i x) l

    -- ---- a work step: what a post of task management asks of the fabric, or lets wait, is as much as it was itself

    sends : (i : Ioc) (x : Out) → in_ioc i + (one_if (is_abort_by q x) + one_if (is_reset_by q x)) ≤ n → Few (record i { out = i.out ++ x ∷ [] })
    sends i x l = let a = one_out i.out x in omega (arith, a, l)

    works : (i : Ioc) (p : Post) (o : Happening Ioc) → Works i p o → Few i → (kind_in p.descriptor ≡ Some post.HighPriority → in_ioc i + one_if (is_post_of q p) ≤ n) → Few o.part
    works i p o (Dropped k e) l m = to o _ e l
    works i p o (Refuses k g d x e) l m = to o _ e l
    works i p o (ScsiEnds status k c e) l m = to o _ e l
    works i p o (ScsiSends address plug expander phy k c b e) l m =
        to o _ e (same (record i { out = i.out ++ out.Task (smid_in p.descriptor) address (commands.command_in p.frame p.payload) ∷ [] }) (commands.sends_command i p address (commands.command_in p.frame p.payload)) refl refl refl (sends i (out.Task (smid_in p.descriptor) address (commands.command_in p.frame p.payload)) (omega (arith, l))))
    works i p o (Stops stop k g e) l m = to o _ e l
    works i p o (AbortSends k g t e) l m =
        let x = out.Abort (smid_in p.descriptor) (task_mid_in p.frame) in let z = m k in
        to o _ e (same (record i { out = i.out ++ x ∷ [] }) (tasks.sends_abort i (smid_in p.descriptor) (task_mid_in p.frame) (dev_handle_in p.frame)) refl refl refl (sends i x (omega (arith, z))))
    works i p o (AbortEnds k g t e) l m = to o _ e l
    works i p o (ResetSends address plug expander phy k b e) l m =
        let x = out.TargetReset (smid_in p.descriptor) address in let z = m k in
        to o _ e (same (record i { out = i.out ++ x ∷ [] }) (tasks.ioc_resets_target i (smid_in p.descriptor) (dev_handle_in p.frame) (binding.Present address plug expander phy)) refl refl refl (sends i x (omega (arith, z))))
    works i p o (ResetHolds address k b t e) l m = to o _ e (let a = held_more i.held (record { smid = smid_in p.descriptor; handle = dev_handle_in p.frame }) in let z = m k in omega (arith, a, z))
    works i p o (ResetEnds status k e) l m = to o _ e l
    works i p o (TaskFails k e) l m = to o _ e l
    works i p o (PageEnds status k e) l m = to o _ e l
    works i p o (PageGiven page k g e) l m = to o _ e l
    works i p o (Enables k x e) l m =
        to o _ e (same (record i { out = i.out ++ out.Discover ∷ [] }) (ask.enables i (smid_in p.descriptor)) refl refl refl (sends i out.Discover (omega (arith, l))))
    works i p o (Notifies k e) l m = to o _ e l
    works i p o (Acks k t e) l m = to o _ e l
    works i p o (EndsPlainly g status k e) l m = to o _ e l
    works i p o (RemovalEnds status k e) l m = to o _ e l
    works i p o (Removes address k g b c e) l m = to o _ e (binds_first (ask.ioc_ends_removal (table.with_binding i _ binding.Unbound) p _) i.waiting l)
    works i p o (Strays k x e) l m = to o _ e l

    pub works_few : (i : Ioc) (p : Post) → Few i → (kind_in p.descriptor ≡ Some post.HighPriority → in_ioc i + one_if (is_post_of q p) ≤ n) → Few (step.works_on i p).part
    works_few i p l m = works i p (step.works_on i p) (works_leaf i p) l m

    -- ---- what the host sends

    queues : (i : Ioc) (p : Post) (k : PostKind) → in_ioc i + one_if (is_post_of q p) ≤ n → Few (posts.with_post_queued i p k)
    queues i p post.ScsiIo l = omega (arith, l)
    queues i p post.HighPriority l = let a = queued_count-append q i.high (p ∷ []) in let b = queued_count-cons q p [] in let c = queued_count-nil q in omega (arith, a, b, c, l)
    queues i p post.Default l = omega (arith, l)

    if_few : (b : Bool) (x y : Ioc) → Few x → Few y → Few (if b then x else y)
    if_few true x y a c = a
    if_few false x y a c = c

    posts_kind : (i : Ioc) (p : Post) (o : Option PostKind) → in_ioc i + one_if (is_post_of q p) ≤ n → Few (posts.posts_if i p o)
    posts_kind i p None l = omega (arith, l)
    posts_kind i p (Some k) l =
        if_few (not (posts.is_in_class (posts.class_of k) (smid_in p.descriptor))) (table.faults i posts.bad_post) _ (omega (arith, l))
        (if_few (table.is_unanswered i (smid_in p.descriptor)) (table.faults i posts.identifier_in_use) (posts.with_post_queued i p k) (omega (arith, l)) (queues i p k l))

    taken : (i : Ioc) (x : Down) (k : Ioc) → Takes i x k → (is_fault k.door.state ≡ false) → ((d : ℕ) (f p : List ℕ) → x ≡ downward.Post d f p → ⊥) → Few i → Few k
    taken i x k (leaf.Faults y m e) w z l = not_both (is_fault k.door.state) w e
    taken i x k (leaf.Written reg value m r s e) w z l = same i k (ap (λ (y : Ioc). y.high) e) (ap (λ (y : Ioc). y.held) e) (ap (λ (y : Ioc). y.out) e) l
    taken i x k (leaf.Operates value m r s t e) w z l = same i k (ap (λ (y : Ioc). y.high) e) (ap (λ (y : Ioc). y.held) e) (ap (λ (y : Ioc). y.out) e) l
    taken i x k (leaf.Forgets reg value d e) w z l =
        let y : Out = out.Link (next_generation (record i { door = d })) in
        let a = queued_count-nil q in let b : how_many (is_held_as q) [] ≡ 0 = how_many-nil {X = HeldReset} (is_held_as q) in let c = first_out y [] in let d = none_out in
        omega (arith, a, b, c, d)
    taken i x k (leaf.Reads reg value) w z l = l
    taken i x k (leaf.Posts d f p m o e) w z l = absurd (z d f p refl)
    taken i x k (leaf.DropsPost d f p e) w z l = l
    taken i x k (leaf.Returns address index m o e) w z l = same i k (ap (λ (y : Ioc). y.high) e) (ap (λ (y : Ioc). y.held) e) (ap (λ (y : Ioc). y.out) e) l
    taken i x k (leaf.DropsReturn address index e) w z l = l
    taken i x k leaf.Stops w z l = let a = one_out i.out out.Stop in omega (arith, a, l)

    pub takes_few : (i : Ioc) (x : Down) → Takes i x (adapter.takes_down i x).part → is_fault (adapter.takes_down i x).part.door.state ≡ false → in_ioc i + one_if (is_posted_as q x) ≤ n → Few (adapter.takes_down i x).part
    takes_few i (downward.Post d f p) t w l =
        if_few (table.is_operational (state_of i)) (posts.ioc_takes_post i d f p) i (posts_kind i (record { descriptor = d; frame = f; payload = p }) (kind_in d) l) (omega (arith, l))
    takes_few i (downward.Write reg value) t w l = taken i (downward.Write reg value) (adapter.takes_down i (downward.Write reg value)).part t w (λ d f p e. absurd (cc)) (omega (arith, l))
    takes_few i (downward.Read reg) t w l = taken i (downward.Read reg) (adapter.takes_down i (downward.Read reg)).part t w (λ d f p e. absurd (cc)) (omega (arith, l))
    takes_few i (downward.Return address index) t w l = taken i (downward.Return address index) (adapter.takes_down i (downward.Return address index)).part t w (λ d f p e. absurd (cc)) (omega (arith, l))
    takes_few i downward.Stop t w l = taken i downward.Stop (adapter.takes_down i downward.Stop).part t w (λ d f p e. absurd (cc)) (omega (arith, l))
