-- The target resets that wait at the controller, behind a work step, an item of the fabric and one of the host.
use Rattle.std.proofs.Common.{◌≡◌, ℕ, ◌+◌, ◌≤◌, ◌==◌, ◌||◌, not, Bool, true, false, if◌then◌else◌, List, [], ◌∷◌, ◌++◌, Option, Some, None, refl, ap, sym, ◌∙◌, subst, arith}
use Rattle.std.specs.Prelude.{All}
use Rattle.std.specs.List.{filter, list_any}
use Rattle.std.proofs.lemmas.List.Elements.{All-cons, All-head, All-nil, All-tail}
use Rattle.std.proofs.lemmas.List.Folds.{list_any-append}
use Rattle.mpi_doorbell.specs.DoorRegisters.{is_fault}
use Rattle.mpi_doorbell.specs.declared.state.IocState.{IocState}
use Rattle.mpi_doorbell.specs.declared.state.IocState.TheVariants as ioc_state
use Rattle.mpt_wire.specs.Messages.Fields.{controlled_handle_in, dev_handle_in, smid_in}
use Rattle.mpt_trace.specs.declared.item.Back.{Back}
use Rattle.mpt_trace.specs.declared.item.Down.{Down}
use Rattle.mpt_rules.specs.declared.at_fabric.HeldReset.{HeldReset}
use Rattle.mpt_rules.specs.declared.binding.Binding.TheVariants as binding
use Rattle.mpt_rules.specs.declared.binding.Waiting.{Waiting}
use Rattle.mpt_rules.specs.declared.post.Post.{Post}
use Rattle.mpt_rules.specs.declared.status.TheConstants.{IOC_STATUS_SUCCESS}
use Rattle.mpt_rules.specs.Outcome.{Happening}
use Rattle.mpt_rules.specs.Ioc.Back as news
use Rattle.mpt_rules.specs.Ioc.Bindings as bind
use Rattle.mpt_rules.specs.Ioc.Commands as commands
use Rattle.mpt_rules.specs.Ioc.Parts.{Ioc}
use Rattle.mpt_rules.specs.Ioc.Replies as say
use Rattle.mpt_rules.specs.Ioc.Requests as ask
use Rattle.mpt_rules.specs.Ioc.Steps as step
use Rattle.mpt_rules.specs.Ioc.Tables as table
use Rattle.mpt_rules.specs.Ioc.Tables.{is_held_as, is_operational}
use Rattle.mpt_rules.specs.World.Counts.{how_many, one_if}
use Rattle.law_flights.proofs.Leaves.{Bound, Calmed, Done, Ended, Hears, Linked, Lost, Passed, Unawaited, Waits, back_leaf, reply_made}
use Rattle.law_flights.proofs.WorkLeaves.{AbortEnds, AbortSends, Acks, Dropped, Enables, EndsPlainly, Notifies, PageEnds, PageGiven, Refuses, RemovalEnds, Removes, ResetEnds, ResetHolds, ResetSends, ScsiEnds, ScsiSends, Stops, Strays, TaskFails, Works, works_leaf}
use Rattle.law_messages.proofs.Agreeing.{all_same, same}
use Rattle.law_moves.proofs.Counted.{filtered, how_many-cons, how_many-nil}
use Rattle.law_moves.proofs.IocTakes as leaf
use Rattle.law_moves.proofs.IocTakes.{Takes}

-- ---- one of a kind

any_cons : {X : Type 0} (test : X → Bool) (x : X) (xs : List X) → list_any test (x ∷ xs) ≡ (test x || list_any test xs)
any_cons test x xs = list_any-append test (x ∷ []) xs ∙ ap (λ b. b || list_any test xs) (or_false (test x))
  where
    or_false : (b : Bool) → (b || false) ≡ b
    or_false true = refl
    or_false false = refl

pub any_counts : {X : Type 0} (test : X → Bool) (xs : List X) → list_any test xs ≡ true → 1 ≤ how_many test xs
any_counts test [] e = absurd (cc)
any_counts test (x ∷ xs) e = by_test (test x) refl (sym (any_cons test x xs) ∙ e) (λ y. any_counts test xs y)
  where
    by_test : (b : Bool) → test x ≡ b → (test x || list_any test xs) ≡ true → (list_any test xs ≡ true → 1 ≤ how_many test xs) → 1 ≤ how_many test (x ∷ xs)
    by_test true t e f = let c = how_many-cons test x xs in let o : one_if (test x) ≡ 1 = ap one_if t in omega (arith, c, o)
    by_test false t e f = let c = how_many-cons test x xs in let l = f (sym (ap (λ b. b || list_any test xs) t) ∙ e) in omega (arith, c, l)

pub counts_any : {X : Type 0} (test : X → Bool) (xs : List X) → 1 ≤ how_many test xs → list_any test xs ≡ true
counts_any test [] l = let z = how_many-nil test in absurd (omega (arith, z, l))
counts_any test (x ∷ xs) l = any_cons test x xs ∙ by_test (test x) refl (λ m. counts_any test xs m)
  where
    or_true : (b : Bool) → (b || true) ≡ true
    or_true true = refl
    or_true false = refl

    by_test : (b : Bool) → test x ≡ b → (1 ≤ how_many test xs → list_any test xs ≡ true) → (test x || list_any test xs) ≡ true
    by_test true t f = ap (λ b. b || list_any test xs) t
    by_test false t f = let c = how_many-cons test x xs in let o : one_if (test x) ≡ 0 = ap one_if t in ap (λ b. test x || b) (f (omega (arith, c, o, l))) ∙ or_true (test x)

pub some_held : (test : HeldReset → Bool) (P : HeldReset → Type 0) (xs : List HeldReset) → All P xs → 1 ≤ how_many test xs → (r : HeldReset) × (test r ≡ true) × P r
some_held test P [] a l = let z = how_many-nil test in absurd (omega (arith, z, l))
some_held test P (x ∷ xs) a l = by_test (test x) refl (λ m. some_held test P xs (All-tail P x xs a) m)
  where
    by_test : (b : Bool) → test x ≡ b → (1 ≤ how_many test xs → (r : HeldReset) × (test r ≡ true) × P r) → (r : HeldReset) × (test r ≡ true) × P r
    by_test true t r = (x, t, All-head P x xs a)
    by_test false t r = let c = how_many-cons test x xs in let z = ap one_if t in r (omega (arith, c, z, l))

-- each is counted there
pub own_held : (xs : List HeldReset) → All (λ (r : HeldReset). 1 ≤ how_many (is_held_as r.smid) xs) xs
own_held [] = All-nil (λ (r : HeldReset). 1 ≤ how_many (is_held_as r.smid) [])
own_held (x ∷ xs) =
    All-cons (λ (r : HeldReset). 1 ≤ how_many (is_held_as r.smid) (x ∷ xs)) x xs
    (let c = how_many-cons (is_held_as x.smid) x xs in let o : one_if (x.smid == x.smid) ≡ 1 = ap one_if (same x.smid) in omega (arith, c, o))
    (all_same (λ (r : HeldReset). 1 ≤ how_many (is_held_as r.smid) xs) (λ (r : HeldReset). 1 ≤ how_many (is_held_as r.smid) (x ∷ xs)) (λ r l. let c = how_many-cons (is_held_as r.smid) x xs in omega (arith, c, l)) xs (own_held xs))

no_fault : (x : IocState) → is_fault x ≡ true → is_operational x ≡ true → ⊥
no_fault ioc_state.Reset a b = cc
no_fault ioc_state.Ready a b = cc
no_fault ioc_state.Operational a b = cc
no_fault (ioc_state.Fault code) a b = cc

-- ---- what waits stays, or is answered

pub data Fewer (xs : List HeldReset) : List HeldReset → Type 0 where
  Same : Fewer xs xs
  Answers : (test : HeldReset → Bool) → Fewer xs (filter test xs)

pub fewer_held : (test : HeldReset → Bool) (xs ys : List HeldReset) → Fewer xs ys → how_many test ys ≤ how_many test xs
fewer_held test xs ys Same = omega arith
fewer_held test xs ys (Answers f) = filtered test f xs

pub data Joined (p : Post) (xs : List HeldReset) : List HeldReset → Type 0 where
  AsBefore : Joined p xs xs
  Joins : Joined p xs (xs ++ record { smid = smid_in p.descriptor; handle = dev_handle_in p.frame } ∷ [])

changes : (i : Ioc) (handle expander phy : ℕ) (added : Bool) → (bind.changes i handle expander phy added).held ≡ i.held
changes i handle expander phy added = by_through i.through
  where
    by_through : (b : Bool) → (if b then bind.tells_change i handle expander phy added else i).held ≡ i.held
    by_through true = refl
    by_through false = refl

binds_to : (i : Ioc) (disk : Waiting) (o : Option ℕ) → (bind.binds_to i disk o).part.held ≡ i.held
binds_to i disk None = refl
binds_to i disk (Some handle) = changes (table.with_binding i handle (binding.Present disk.address disk.plug disk.expander disk.phy)) handle disk.expander disk.phy true

binds_first : (i : Ioc) (ds : List Waiting) → (bind.binds_first i ds).part.held ≡ i.held
binds_first i [] = refl
binds_first i (d ∷ ds) = binds_to (record i { waiting = ds }) d (table.least_unbound (record i { waiting = ds }))

releases : (i : Ioc) (handle : ℕ) → Fewer i.held (commands.releases i handle).held
releases i handle = by_commands (table.has_commands i handle)
  where
    by_commands : (b : Bool) → Fewer i.held (if b then i else commands.answers_held i handle).held
    by_commands true = Same
    by_commands false = Answers (λ held. not (commands.is_held_for handle held))

module _ (i : Ioc) where
  unchanged : (xs : List HeldReset) → xs ≡ i.held → Fewer i.held xs
  unchanged xs e = subst (Fewer i.held) (sym e) Same

  to : (o x : Happening Ioc) → o ≡ x → Fewer i.held x.part.held → Fewer i.held o.part.held
  to o x e q = subst (λ (y : Happening Ioc). Fewer i.held y.part.held) (sym e) q

  heard : (x : Back) (o : Happening Ioc) → Hears i x o → Fewer i.held o.part.held
  heard x o (Passed e) = to o (table.silently i) e Same
  heard x o (Ended tag handle queue len written r e) = to o _ e (releases (say.says_on (table.without_request i tag) queue (reply_made x handle len written ∷ [])) handle)
  heard x o (Done smid r answer q e) = to o _ e Same
  heard x o (Bound disk handle l k e) = to o _ e (unchanged (bind.binds_to i disk (Some handle)).part.held (binds_to i disk (Some handle)))
  heard x o (Waits disk l k e) = to o _ e Same
  heard x o (Lost handle address plug expander phy b e) = to o _ e (unchanged (bind.changes (table.with_binding i handle (binding.Gone address)) handle expander phy false).held (changes (table.with_binding i handle (binding.Gone address)) handle expander phy false))
  heard x o (Unawaited address u e) = to o _ e Same
  heard x o (Linked generation r e) = to o _ e Same
  heard x o (Calmed e) = to o _ e Same

  pub back_held : (x : Back) → Fewer i.held (news.takes_back i x).part.held
  back_held x = heard x (news.takes_back i x) (back_leaf i x)

  at : (p : Post) (o x : Happening Ioc) → o ≡ x → Joined p i.held x.part.held → Joined p i.held o.part.held
  at p o x e q = subst (λ (y : Happening Ioc). Joined p i.held y.part.held) (sym e) q

  worked : (p : Post) (o : Happening Ioc) → Works i p o → Joined p i.held o.part.held
  worked p o (Dropped k e) = at p o _ e AsBefore
  worked p o (Refuses k f d r e) = at p o _ e AsBefore
  worked p o (ScsiEnds status k c e) = at p o _ e AsBefore
  worked p o (ScsiSends address plug expander phy k c b e) = at p o _ e AsBefore
  worked p o (Stops stop k f e) = at p o _ e AsBefore
  worked p o (AbortSends k f t e) = at p o _ e AsBefore
  worked p o (AbortEnds k f t e) = at p o _ e AsBefore
  worked p o (ResetSends address plug expander phy k b e) = at p o _ e AsBefore
  worked p o (ResetHolds address k b t e) = at p o _ e Joins
  worked p o (ResetEnds status k e) = at p o _ e AsBefore
  worked p o (TaskFails k e) = at p o _ e AsBefore
  worked p o (PageEnds status k e) = at p o _ e AsBefore
  worked p o (PageGiven page k w e) = at p o _ e AsBefore
  worked p o (Enables k n e) = at p o _ e AsBefore
  worked p o (Notifies k e) = at p o _ e AsBefore
  worked p o (Acks k t e) = at p o _ e AsBefore
  worked p o (EndsPlainly f status k e) = at p o _ e AsBefore
  worked p o (RemovalEnds status k e) = at p o _ e AsBefore
  worked p o (Removes address k f b c e) =
      at p o (ask.removes i p) e (subst (Joined p i.held) (sym (binds_first (ask.ioc_ends_removal (table.with_binding i (controlled_handle_in p.frame) binding.Unbound) p IOC_STATUS_SUCCESS) i.waiting)) AsBefore)
  worked p o (Strays k r e) = at p o _ e AsBefore

  pub work_held : (p : Post) → Joined p i.held (step.works_on i p).part.held
  work_held p = worked p (step.works_on i p) (works_leaf i p)

  -- a post that goes by the normal queue makes none wait
  pub taken_held : (x : Down) (j : Ioc) → Takes i x j → is_operational j.door.state ≡ true → j.held ≡ i.held
  taken_held x j (leaf.Faults y m e) l = absurd (no_fault j.door.state e l)
  taken_held x j (leaf.Written reg value m r s e) l = ap (λ (y : Ioc). y.held) e
  taken_held x j (leaf.Operates value m r s t e) l = ap (λ (y : Ioc). y.held) e
  taken_held x j (leaf.Forgets reg value d e) l = absurd (cc)
  taken_held x j (leaf.Reads reg value) l = refl
  taken_held x j (leaf.Posts d fr p m s e) l = ap (λ (y : Ioc). y.held) e
  taken_held x j (leaf.DropsPost d fr p e) l = refl
  taken_held x j (leaf.Returns a y m s e) l = ap (λ (z : Ioc). z.held) e
  taken_held x j (leaf.DropsReturn a y e) l = refl
  taken_held x j leaf.Stops l = refl
