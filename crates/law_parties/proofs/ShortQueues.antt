-- Whatever a controller takes, no identifier stands twice in one of its queues, and each in the queue of its class; so the
-- queues are short.
use Rattle.std.proofs.Common.{◌≡◌, ℕ, ◌-◌, ◌<◌, ◌≤◌, Bool, true, false, not, ◌||◌, if◌then◌else◌, eqb, List, [], ◌∷◌, ◌++◌, length, map, nat_le, Option, Some, None, refl, ap, sym, subst, ◌∙◌, arith}
use Rattle.std.specs.List.{AllByRecursion, IsDistinct, filter, list_any}
use Rattle.std.proofs.lemmas.Bool.Decides.{nat_tests}
use Rattle.std.proofs.lemmas.List.{length-map}
use Rattle.std.proofs.lemmas.List.Folds.{list_any-append}
use Rattle.std.proofs.lemmas.Map.Steps.{length-le_from_distinct_below}
use Rattle.smid_pool.specs.declared.class.Class.TheVariants as class
use Rattle.mpi_doorbell.specs.DoorRegisters.{is_fault, register_written}
use Rattle.mpi_doorbell.specs.declared.effect.Effect.{Effect}
use Rattle.mpi_doorbell.specs.declared.effect.Effect.TheVariants as effect
use Rattle.mpi_rings.specs.declared.request_descriptor.PostKind.{PostKind}
use Rattle.mpi_rings.specs.declared.request_descriptor.PostKind.TheVariants as post
use Rattle.mpt_trace.specs.declared.item.Back.{Back}
use Rattle.mpt_trace.specs.declared.item.Down.{Down}
use Rattle.mpt_trace.specs.declared.item.Down.TheVariants as down
use Rattle.mpt_trace.specs.declared.item.Out.{Out}
use Rattle.mpt_trace.specs.declared.item.Out.TheVariants as out
use Rattle.mpt_trace.specs.declared.item.Up.{Up}
use Rattle.mpt_wire.specs.Messages.Fields.{controlled_handle_in, dev_handle_in, kind_in, smid_in, task_mid_in}
use Rattle.mpt_rules.specs.declared.binding.Binding.TheVariants as binding
use Rattle.mpt_rules.specs.declared.binding.Waiting.{Waiting}
use Rattle.mpt_rules.specs.declared.post.Post.{Post}
use Rattle.mpt_rules.specs.Ioc.Back.{takes_back}
use Rattle.mpt_rules.specs.Ioc.Bindings as bind
use Rattle.mpt_rules.specs.Ioc.Commands as commands
use Rattle.mpt_rules.specs.Ioc.Parts.{Ioc, new_ioc}
use Rattle.mpt_rules.specs.Ioc.Posts as posts
use Rattle.mpt_rules.specs.Ioc.Registers.{after_effect, handshakes}
use Rattle.mpt_rules.specs.Ioc.Replies as say
use Rattle.mpt_rules.specs.Ioc.Requests as ask
use Rattle.mpt_rules.specs.Ioc.Steps.{steps_high_on, steps_normal_on, works_on}
use Rattle.mpt_rules.specs.Ioc.Tables as table
use Rattle.mpt_rules.specs.Ioc.Takes.{front_out, front_up_on, takes_down}
use Rattle.mpt_rules.specs.Ioc.Tasks.{is_scsi_post}
use Rattle.mpt_rules.specs.Law.{ControllersAreShort, QueuesAreShort}
use Rattle.mpt_rules.specs.Outcome.{Happening}
use Rattle.mpt_rules.specs.Session.OpenCases.{IocCase, PutsOut, PutsUp, TakesBack, TakesDown, WorksHigh, WorksNormal, ioc_does, open_worked, puts_out, puts_up}
use Rattle.mpt_rules.specs.Session.Parts.{ioc_behind}
use Rattle.law_flights.proofs.Leaves.{Bound, Calmed, Done, Ended, Hears, Linked, Lost, Passed, Unawaited, Waits, back_leaf, reply_made}
use Rattle.law_flights.proofs.WorkLeaves.{AbortEnds, AbortSends, Acks, Dropped, Enables, EndsPlainly, Notifies, PageEnds, PageGiven, Refuses, RemovalEnds, Removes, ResetEnds, ResetHolds, ResetSends, ScsiEnds, ScsiSends, Stops, Strays, TaskFails, Works, works_leaf}
use Rattle.mpt_rules.specs.World.Cases.{Case, case_of, happens, run}
use Rattle.mpt_rules.specs.World.Settings.{Setting, first_world}
use Rattle.mpt_rules.specs.World.State.{World}
use Rattle.law_parties.proofs.OfParty.{Idles, OfFabric, OfHost, OfIoc, OfParty, of_party}
use Rattle.law_moves.proofs.IocTakes.{ComesUp, Shook, Stays, shook}

-- ---- a queue

-- the identifier is of the high queue, or of the normal one
abbrev is_of_queue : Bool → ℕ → Bool
is_of_queue true smid = posts.is_in_class class.High smid
is_of_queue false smid = posts.is_in_class class.ScsiIo smid || posts.is_in_class class.Internal smid

-- each post's identifier is of the queue, and stands in it once
abbrev AreOnce : Bool → List Post → Type 0
AreOnce high [] = Unit {0}
AreOnce high (p ∷ ps) = (is_of_queue high (smid_in p.descriptor) ≡ true) × (list_any (table.is_post_of (smid_in p.descriptor)) ps ≡ false) × AreOnce high ps

-- the place of an identifier among those of the queue
abbrev seat : Bool → ℕ → ℕ
seat true smid = smid - 257
seat false smid = if nat_le smid 256 then smid - 1 else smid - 9

abbrev seats : Bool → ℕ
seats true = 8
seats false = 272

seat_below : (high : Bool) (s : ℕ) → is_of_queue high s ≡ true → seat high s < seats high
seat_below true s e = grind (arith, nat_tests, e)
seat_below false s e = grind (arith, nat_tests, e)

seat_apart : (high : Bool) (s t : ℕ) → is_of_queue high s ≡ true → is_of_queue high t ≡ true → eqb t s ≡ false → eqb (seat high s) (seat high t) ≡ false
seat_apart true s t e f d = grind (arith, nat_tests, e, f, d)
seat_apart false s t e f d = grind (arith, nat_tests, e, f, d)

module _ (high : Bool) where
  abbrev seat_of : Post → ℕ
  seat_of p = seat high (smid_in p.descriptor)

  apart : (s : ℕ) (ps : List Post) → is_of_queue high s ≡ true → list_any (table.is_post_of s) ps ≡ false → AreOnce high ps → AllByRecursion (λ n. eqb (seat high s) n ≡ false) (map seat_of ps)
  apart s [] e none h = tt
  apart s (p ∷ ps) e none h = by_test (table.is_post_of s p) refl none (λ z. apart s ps e z h.2)
    where
      by_test : (b : Bool) → table.is_post_of s p ≡ b → (b || list_any (table.is_post_of s) ps) ≡ false → (list_any (table.is_post_of s) ps ≡ false → AllByRecursion (λ n. eqb (seat high s) n ≡ false) (map seat_of ps))
          → (eqb (seat high s) (seat_of p) ≡ false) × AllByRecursion (λ n. eqb (seat high s) n ≡ false) (map seat_of ps)
      by_test true t z ih = absurd (cc)
      by_test false t z ih = (seat_apart high s (smid_in p.descriptor) e h.0 t, ih z)

  distinct : (ps : List Post) → AreOnce high ps → IsDistinct eqb (map seat_of ps)
  unfolding IsDistinct
  distinct [] h = tt
  distinct (p ∷ ps) h = (apart (smid_in p.descriptor) ps h.0 h.1 h.2, distinct ps h.2)

  below : (ps : List Post) → AreOnce high ps → (q : ℕ) → list_any (eqb q) (map seat_of ps) ≡ true → q < seats high
  below [] h q e = absurd (cc)
  below (p ∷ ps) h q e = by_test (eqb q (seat_of p)) refl e (λ z. below ps h.2 q z)
    where
      by_test : (b : Bool) → eqb q (seat_of p) ≡ b → (b || list_any (eqb q) (map seat_of ps)) ≡ true → (list_any (eqb q) (map seat_of ps) ≡ true → q < seats high) → q < seats high
      by_test true t z ih = let l = seat_below high (smid_in p.descriptor) h.0 in let same : q ≡ seat_of p = grind (arith, nat_tests, t) in subst (λ n. n < seats high) (sym same) l
      by_test false t z ih = ih z

  few : (ps : List Post) → AreOnce high ps → length ps ≤ seats high
  few ps h = subst (λ n. n ≤ seats high) (length-map ps seat_of) (length-le_from_distinct_below (map seat_of ps) (seats high) (distinct ps h) (below ps h))

  -- one more behind, whose identifier isn't there
  added : (p : Post) (ps : List Post) → is_of_queue high (smid_in p.descriptor) ≡ true → list_any (table.is_post_of (smid_in p.descriptor)) ps ≡ false → AreOnce high ps → AreOnce high (ps ++ p ∷ [])
  added p [] e none h = (e, refl, tt)
  added p (x ∷ ps) e none h = by_test (table.is_post_of (smid_in p.descriptor) x) refl none (λ z. added p ps e z h.2)
    where
      by_test : (b : Bool) → table.is_post_of (smid_in p.descriptor) x ≡ b → (b || list_any (table.is_post_of (smid_in p.descriptor)) ps) ≡ false
          → (list_any (table.is_post_of (smid_in p.descriptor)) ps ≡ false → AreOnce high (ps ++ p ∷ [])) → AreOnce high (x ∷ (ps ++ p ∷ []))
      by_test true t z ih = absurd (cc)
      by_test false t z ih =
          let other : table.is_post_of (smid_in x.descriptor) p ≡ false = grind (arith, nat_tests, t) in
          let front : list_any (table.is_post_of (smid_in x.descriptor)) ps ≡ false = h.1 in
          let both : list_any (table.is_post_of (smid_in x.descriptor)) (ps ++ p ∷ []) ≡ false = list_any-append (table.is_post_of (smid_in x.descriptor)) ps (p ∷ []) ∙ rw (front, other) refl in
          (h.0, both, ih z)

  fewer : (keep : Post → Bool) (s : ℕ) (ps : List Post) → list_any (table.is_post_of s) ps ≡ false → list_any (table.is_post_of s) (filter keep ps) ≡ false
  fewer keep s [] e = e
  fewer keep s (p ∷ ps) e = by_test (table.is_post_of s p) (keep p) refl e (λ z. fewer keep s ps z)
    where
      by_test : (b c : Bool) → table.is_post_of s p ≡ b → (b || list_any (table.is_post_of s) ps) ≡ false → (list_any (table.is_post_of s) ps ≡ false → list_any (table.is_post_of s) (filter keep ps) ≡ false)
          → list_any (table.is_post_of s) (if c then p ∷ filter keep ps else filter keep ps) ≡ false
      by_test true c t z ih = absurd (cc)
      by_test false true t z ih = ap (λ b. b || list_any (table.is_post_of s) (filter keep ps)) t ∙ ih z
      by_test false false t z ih = ih z

  kept : (keep : Post → Bool) (ps : List Post) → AreOnce high ps → AreOnce high (filter keep ps)
  kept keep [] h = tt
  kept keep (p ∷ ps) h = by_test (keep p) (fewer keep (smid_in p.descriptor) ps h.1) (kept keep ps h.2)
    where
      by_test : (b : Bool) → list_any (table.is_post_of (smid_in p.descriptor)) (filter keep ps) ≡ false → AreOnce high (filter keep ps) → AreOnce high (if b then p ∷ filter keep ps else filter keep ps)
      by_test true n ih = (h.0, n, ih)
      by_test false n ih = ih

-- ---- the controller

record QueuesOnce (high normal : List Post) : Type 0 where
  high_once : AreOnce true high
  normal_once : AreOnce false normal

abbrev HasQueues : Ioc → Type 0
HasQueues ioc = QueuesOnce ioc.high ioc.normal

-- the same queues
as_before : (i k : Ioc) → k.high ≡ i.high → k.normal ≡ i.normal → HasQueues i → HasQueues k
as_before i k e f h = subst (λ ps. QueuesOnce ps k.normal) (sym e) (subst (λ ps. QueuesOnce i.high ps) (sym f) h)

to : (x o : Happening Ioc) → o ≡ x → HasQueues x.part → HasQueues o.part
to x o e h = subst (λ y. HasQueues y.part) (sym e) h

-- ---- what it takes of the host

after_handshake : (i k : Ioc) → Shook i k → HasQueues i → HasQueues k
after_handshake i k (Stays s e) h = as_before i k (ap (λ (x : Ioc). x.high) e) (ap (λ (x : Ioc). x.normal) e) h
after_handshake i k (ComesUp r s e) h = as_before i k (ap (λ (x : Ioc). x.high) e) (ap (λ (x : Ioc). x.normal) e) h

after_write : (ioc : Ioc) (e : Effect) → HasQueues ioc → HasQueues (after_effect ioc e).part
after_write ioc effect.None h = h
after_write ioc (effect.Asked count bytes) h = after_handshake ioc (handshakes ioc (Rattle.std.specs.Prelude.take count bytes)) (shook ioc (Rattle.std.specs.Prelude.take count bytes)) h
after_write ioc effect.UnitReset h = record { high_once = tt; normal_once = tt }
after_write ioc effect.AdapterReset h = record { high_once = tt; normal_once = tt }
after_write ioc (effect.Fault code) h = h

not_there : (ioc : Ioc) (smid : ℕ) → table.is_unanswered ioc smid ≡ false → (list_any (table.is_post_of smid) ioc.high ≡ false) × (list_any (table.is_post_of smid) ioc.normal ≡ false)
not_there ioc smid e = by_tests (list_any (table.is_post_of smid) ioc.high) (list_any (table.is_post_of smid) ioc.normal) refl refl e
  where
    by_tests : (a b : Bool) → list_any (table.is_post_of smid) ioc.high ≡ a → list_any (table.is_post_of smid) ioc.normal ≡ b → (a || b || table.is_at_fabric ioc smid) ≡ false
        → (list_any (table.is_post_of smid) ioc.high ≡ false) × (list_any (table.is_post_of smid) ioc.normal ≡ false)
    by_tests true b s t z = absurd (cc)
    by_tests false true s t z = absurd (cc)
    by_tests false false s t z = (s, t)

either : (a b : Bool) → a ≡ true → (a || b) ≡ true
either a b e = rw e refl

or_else : (a b : Bool) → b ≡ true → (a || b) ≡ true
or_else true b e = refl
or_else false b e = e

queued : (ioc : Ioc) (p : Post) (k : PostKind) → posts.is_in_class (posts.class_of k) (smid_in p.descriptor) ≡ true → table.is_unanswered ioc (smid_in p.descriptor) ≡ false → HasQueues ioc → HasQueues (posts.with_post_queued ioc p k)
queued ioc p post.ScsiIo c u h =
    let n = not_there ioc (smid_in p.descriptor) u in
    record { high_once = h.high_once; normal_once = added false p ioc.normal (either (posts.is_in_class class.ScsiIo (smid_in p.descriptor)) (posts.is_in_class class.Internal (smid_in p.descriptor)) c) n.1 h.normal_once }
queued ioc p post.HighPriority c u h =
    let n = not_there ioc (smid_in p.descriptor) u in
    record { high_once = added true p ioc.high c n.0 h.high_once; normal_once = h.normal_once }
queued ioc p post.Default c u h =
    let n = not_there ioc (smid_in p.descriptor) u in
    record { high_once = h.high_once; normal_once = added false p ioc.normal (or_else (posts.is_in_class class.ScsiIo (smid_in p.descriptor)) (posts.is_in_class class.Internal (smid_in p.descriptor)) c) n.1 h.normal_once }

posted : (ioc : Ioc) (p : Post) (o : Option PostKind) → HasQueues ioc → HasQueues (posts.posts_if ioc p o)
posted ioc p None h = h
posted ioc p (Some k) h = by_tests (posts.is_in_class (posts.class_of k) (smid_in p.descriptor)) (table.is_unanswered ioc (smid_in p.descriptor)) refl refl
  where
    by_tests : (a b : Bool) → posts.is_in_class (posts.class_of k) (smid_in p.descriptor) ≡ a → table.is_unanswered ioc (smid_in p.descriptor) ≡ b
        → HasQueues (if not a then table.faults ioc posts.bad_post else if b then table.faults ioc posts.identifier_in_use else posts.with_post_queued ioc p k)
    by_tests false b s t = h
    by_tests true true s t = h
    by_tests true false s t = queued ioc p k s t h

if_so : (b : Bool) (x y : Ioc) → HasQueues x → HasQueues y → HasQueues (if b then x else y)
if_so true x y s t = s
if_so false x y s t = t

after_down : (ioc : Ioc) (next : Down) → HasQueues ioc → HasQueues (takes_down ioc next).part
after_down ioc (down.Write reg value) h = after_write (record ioc { door = (register_written ioc.door reg value).registers }) (register_written ioc.door reg value).effect h
after_down ioc (down.Read reg) h = h
after_down ioc (down.Post descriptor frame payload) h =
    if_so (table.is_operational ioc.door.state) (posts.ioc_takes_post ioc descriptor frame payload) ioc
    (posted ioc (record { descriptor = descriptor; frame = frame; payload = payload }) (kind_in descriptor) h) h
after_down ioc (down.Return address index) h =
    if_so (table.is_operational ioc.door.state) (posts.ioc_takes_return ioc address) ioc
    (if_so (not (posts.is_frame_address address) || posts.frame_here ioc (posts.frame_near address)) (table.faults ioc posts.bad_return) (record ioc { ring = ioc.ring ++ posts.frame_near address ∷ [] }) h h) h
after_down ioc down.Stop h = if_so (is_fault ioc.door.state) ioc (say.with_out_item ioc out.Stop) h h

-- ---- what it takes of the fabric

changed : (ioc : Ioc) (handle expander phy : ℕ) (is_added : Bool) → HasQueues ioc → HasQueues (bind.changes ioc handle expander phy is_added)
changed ioc handle expander phy is_added h = if_so ioc.through (bind.tells_change ioc handle expander phy is_added) ioc h h

released : (ioc : Ioc) (handle : ℕ) → HasQueues ioc → HasQueues (commands.releases ioc handle)
released ioc handle h = if_so (table.has_commands ioc handle) ioc (commands.answers_held ioc handle) h h

heard : (ioc : Ioc) (next : Back) (o : Happening Ioc) → Hears ioc next o → HasQueues ioc → HasQueues o.part
heard ioc next o (Passed e) h = to _ o e h
heard ioc next o (Ended tag handle queue len written at e) h = to _ o e (released (say.says_on (table.without_request ioc tag) queue (reply_made next handle len written ∷ [])) handle h)
heard ioc next o (Done smid r answer at e) h = to _ o e h
heard ioc next o (Bound disk handle l k e) h =
    to (bind.binds_to ioc disk (Some handle)) o e (changed (table.with_binding ioc handle (binding.Present disk.address disk.plug disk.expander disk.phy)) handle disk.expander disk.phy true h)
heard ioc next o (Waits disk l k e) h = to _ o e h
heard ioc next o (Lost handle address plug expander phy b e) h =
    to (table.silently (bind.changes (table.with_binding ioc handle (binding.Gone address)) handle expander phy false)) o e (changed (table.with_binding ioc handle (binding.Gone address)) handle expander phy false h)
heard ioc next o (Unawaited address n e) h = to _ o e h
heard ioc next o (Linked generation r e) h = to _ o e h
heard ioc next o (Calmed e) h = to _ o e h

-- ---- work steps

bound_first : (ioc : Ioc) (xs : List Waiting) → HasQueues ioc → HasQueues (bind.binds_first ioc xs).part
bound_first ioc [] h = h
bound_first ioc (disk ∷ others) h = by_free (table.least_unbound (record ioc { waiting = others }))
  where
    by_free : (o : Option ℕ) → HasQueues (bind.binds_to (record ioc { waiting = others }) disk o).part
    by_free None = h
    by_free (Some handle) = changed (table.with_binding (record ioc { waiting = others }) handle (binding.Present disk.address disk.plug disk.expander disk.phy)) handle disk.expander disk.phy true h

worked : (ioc : Ioc) (p : Post) (o : Happening Ioc) → Works ioc p o → HasQueues ioc → HasQueues o.part
worked ioc p o (Dropped k e) h = to _ o e h
worked ioc p o (Refuses k f i r e) h = to _ o e h
worked ioc p o (ScsiEnds status k c e) h = to _ o e h
worked ioc p o (ScsiSends address plug expander phy k i b e) h = to _ o e h
worked ioc p o (Stops stop k f e) h =
    to _ o e (record { high_once = h.high_once; normal_once = kept false (λ other. not (is_scsi_post (task_mid_in p.frame) (dev_handle_in p.frame) other)) ioc.normal h.normal_once })
worked ioc p o (AbortSends k f r e) h = to _ o e h
worked ioc p o (AbortEnds k f r e) h = to _ o e h
worked ioc p o (ResetSends address plug expander phy k b e) h = to _ o e h
worked ioc p o (ResetHolds address k b c e) h = to _ o e h
worked ioc p o (ResetEnds status k e) h = to _ o e h
worked ioc p o (TaskFails k e) h = to _ o e h
worked ioc p o (PageEnds status k e) h = to _ o e h
worked ioc p o (PageGiven page k w e) h = to _ o e h
worked ioc p o (Enables k n e) h = to _ o e h
worked ioc p o (Notifies k e) h = to _ o e h
worked ioc p o (Acks k v e) h = to _ o e h
worked ioc p o (EndsPlainly f status k e) h = to _ o e h
worked ioc p o (RemovalEnds status k e) h = to _ o e h
worked ioc p o (Removes address k f b c e) h =
    to (ask.removes ioc p) o e (bound_first (ask.ioc_ends_removal (table.with_binding ioc (controlled_handle_in p.frame) binding.Unbound) p 0) ioc.waiting h)
worked ioc p o (Strays k r e) h = to _ o e h

high_worked : (ioc : Ioc) (ps : List Post) → ioc.high ≡ ps → HasQueues ioc → HasQueues (open_worked ioc (steps_high_on ioc ps)).part
high_worked ioc [] e h = h
high_worked ioc (p ∷ rest) e h =
    let once : AreOnce true (p ∷ rest) = subst (AreOnce true) e h.high_once in
    worked (record ioc { high = rest }) p (works_on (record ioc { high = rest }) p) (works_leaf (record ioc { high = rest }) p) (record { high_once = once.2; normal_once = h.normal_once })

normal_worked : (ioc : Ioc) (ps : List Post) → ioc.normal ≡ ps → HasQueues ioc → HasQueues (open_worked ioc (steps_normal_on ioc ps)).part
normal_worked ioc [] e h = h
normal_worked ioc (p ∷ rest) e h =
    let once : AreOnce false (p ∷ rest) = subst (AreOnce false) e h.normal_once in
    worked (record ioc { normal = rest }) p (works_on (record ioc { normal = rest }) p) (works_leaf (record ioc { normal = rest }) p) (record { high_once = h.high_once; normal_once = once.2 })

-- ---- all cases

put_out : (ioc : Ioc) (o : Option Out) → HasQueues ioc → HasQueues (puts_out ioc o).part
put_out ioc None h = h
put_out ioc (Some next) h = h

put_up : (ioc : Ioc) (queue : ℕ) (o : Option Up) → HasQueues ioc → HasQueues (puts_up ioc queue o).part
put_up ioc queue None h = h
put_up ioc queue (Some next) h = h

one_case : (ioc : Ioc) (c : IocCase) → HasQueues ioc → HasQueues (ioc_does ioc c).part
one_case ioc (TakesDown next) h = after_down ioc next h
one_case ioc WorksHigh h = high_worked ioc ioc.high refl h
one_case ioc WorksNormal h = normal_worked ioc ioc.normal refl h
one_case ioc PutsOut h = put_out ioc (front_out ioc) h
one_case ioc (TakesBack next) h = heard ioc next (takes_back ioc next) (back_leaf ioc next) h
one_case ioc (PutsUp queue) h = put_up ioc queue (front_up_on ioc queue) h

all_cases : (ioc : Ioc) (cases : List IocCase) → HasQueues ioc → HasQueues (ioc_behind ioc cases)
all_cases ioc [] h = h
all_cases ioc (c ∷ cases) h = all_cases (ioc_does ioc c).part cases (one_case ioc c h)

pub short_law : ControllersAreShort
short_law phys q cases =
    let h = all_cases (new_ioc phys q) cases (record { high_once = tt; normal_once = tt }) in
    (few true (ioc_behind (new_ioc phys q) cases).high h.high_once, few false (ioc_behind (new_ioc phys q) cases).normal h.normal_once)

-- ---- every world

world_case : (w : World) (o : Happening World) → OfParty w o → HasQueues w.ioc → HasQueues o.part.ioc
world_case w o (Idles c same is) h = subst (λ (v : World). HasQueues v.ioc) (sym same) h
world_case w o (OfHost c host ioc is) h = subst HasQueues (sym ioc) h
world_case w o (OfIoc c host ioc is) h = subst HasQueues (sym ioc) (one_case w.ioc c h)
world_case w o (OfFabric c host ioc is) h = subst HasQueues (sym ioc) h

world_cases : (w : World) (cases : List Case) → HasQueues w.ioc → HasQueues (run w cases).ioc
world_cases w [] h = h
world_cases w (c ∷ cases) h = world_cases (happens w c) cases (world_case w (case_of w c) (of_party w c) h)

pub worlds_short : (s : Setting) (cases : List Case) → QueuesAreShort (run (first_world s) cases)
worlds_short s cases =
    let h = world_cases (first_world s) cases (record { high_once = tt; normal_once = tt }) in
    (few true (run (first_world s) cases).ioc.high h.high_once, few false (run (first_world s) cases).ioc.normal h.normal_once)
