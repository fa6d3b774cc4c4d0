-- No identifier stands twice in a controller's queues and at the fabric, whatever is brought to it.
use Rattle.std.proofs.Common.{◌≡◌, ℕ, zero, suc, ◌+◌, ◌-◌, ◌<◌, ◌≤◌, ◌==◌, Bool, true, false, cond, if◌then◌else◌, not, ◌||◌, List, [], ◌∷◌, ◌++◌, length, set, replicate, take, Option, Some, None, is_some, refl, ap, sym, subst, arith}
use Rattle.std.specs.List.{filter, list_any}
use Rattle.std.proofs.lemmas.Bool.Decides.{nat_tests}
use Rattle.mpi_doorbell.specs.DoorRegisters.{is_fault, register_written}
use Rattle.mpi_doorbell.specs.declared.effect.Effect.{Effect}
use Rattle.mpi_doorbell.specs.declared.effect.Effect.TheVariants as effect
use Rattle.mpi_rings.specs.declared.request_descriptor.PostKind.{PostKind}
use Rattle.mpi_rings.specs.declared.request_descriptor.PostKind.TheVariants as post
use Rattle.mpt_trace.specs.declared.item.Back.{Back}
use Rattle.mpt_trace.specs.declared.item.Down.{Down}
use Rattle.mpt_trace.specs.declared.item.Down.TheVariants as down
use Rattle.mpt_trace.specs.declared.item.Out.TheVariants as out
use Rattle.mpt_wire.specs.Messages.Fields.{controlled_handle_in, dev_handle_in, kind_in, smid_in, task_mid_in}
use Rattle.mpt_rules.proofs.Counts.{queued_count-append, queued_count-cons, queued_count-nil}
use Rattle.mpt_rules.specs.declared.at_fabric.AtFabric.{AtFabric}
use Rattle.mpt_rules.specs.declared.binding.Binding.TheVariants as binding
use Rattle.mpt_rules.specs.declared.binding.Waiting.{Waiting}
use Rattle.mpt_rules.specs.declared.post.Post.{Post}
use Rattle.mpt_rules.specs.Ioc.Bindings as bind
use Rattle.mpt_rules.specs.Ioc.Commands as commands
use Rattle.mpt_rules.specs.Ioc.Parts.{Ioc}
use Rattle.mpt_rules.specs.Ioc.Posts as posts
use Rattle.mpt_rules.specs.Ioc.Registers.{after_effect, handshakes}
use Rattle.mpt_rules.specs.Ioc.Replies as say
use Rattle.mpt_rules.specs.Ioc.Requests as ask
use Rattle.mpt_rules.specs.Ioc.Tables as table
use Rattle.mpt_rules.specs.Ioc.Takes.{takes_back, takes_down}
use Rattle.mpt_rules.specs.Ioc.Tasks.{is_scsi_post}
use Rattle.mpt_rules.specs.Outcome.{Happening}
use Rattle.mpt_rules.specs.World.Counts.{one_if, queued_count}
use Rattle.law_flights.specs.Flights.{asked_at, at_fabric}
use Rattle.law_flights.proofs.IocCarries.{in_requests}
use Rattle.law_flights.proofs.IocTakes.{asked_fresh}
use Rattle.law_flights.proofs.Leaves.{Bound, Calmed, Done, Ended, Hears, Linked, Lost, Passed, Unawaited, Waits, back_leaf, reply_made}
use Rattle.law_flights.proofs.Tables.{asked_at-set}
use Rattle.law_flights.proofs.WorkLeaves.{AbortEnds, AbortSends, Acks, Dropped, Enables, EndsPlainly, Notifies, PageEnds, PageGiven, Refuses, RemovalEnds, Removes, ResetEnds, ResetHolds, ResetSends, ScsiEnds, ScsiSends, Stops, Strays, TaskFails, Works}
use Rattle.law_moves.proofs.IocTakes.{ComesUp, Shook, Stays, shook}

-- at most one of the posts in the queues and of what is at the fabric is the identifier's
abbrev pub RoomOf : List Post → List Post → List (Option AtFabric) → Type 0
RoomOf high normal requests = (s : ℕ) → queued_count s high + (queued_count s normal + asked_at s requests) ≤ 1

abbrev pub HasRoom : Ioc → Type 0
HasRoom ioc = RoomOf ioc.high ioc.normal ioc.requests

to : (x o : Happening Ioc) → o ≡ x → HasRoom x.part → HasRoom o.part
to x o e h = subst (λ (y : Happening Ioc). HasRoom y.part) (sym e) h

if_so : (b : Bool) (x y : Ioc) → HasRoom x → HasRoom y → HasRoom (if b then x else y)
if_so true x y s t = s
if_so false x y s t = t

-- ---- the table of what is at the fabric

asked_few : (s : ℕ) (requests : List (Option AtFabric)) → asked_at s requests ≤ 1
unfolding asked_at
asked_few s requests = by_test (is_some (at_fabric requests s))
  where
    by_test : (b : Bool) → one_if b ≤ 1
    by_test true = omega arith
    by_test false = omega arith

-- an identifier of the table gets something else
written : (s j : ℕ) (requests : List (Option AtFabric)) (r : Option AtFabric) → 1 ≤ s → s - 1 < length requests → asked_at j (set requests (s - 1) r) ≡ cond (j == s) (one_if (is_some r)) (asked_at j requests)
unfolding asked_at
written zero j requests r a l = absurd (omega arith)
written (suc i) zero requests r a l = grind arith
written (suc i) (suc j) requests r a l = asked_at-set (suc j) (suc i) requests r (omega arith) a l

-- something of an identifier that has nothing goes to the fabric
asks : (high normal : List Post) (requests : List (Option AtFabric)) (s : ℕ) (r : AtFabric) → 1 ≤ s → s - 1 < length requests → queued_count s high + (queued_count s normal + asked_at s requests) ≡ 0 → RoomOf high normal requests
    → RoomOf high normal (set requests (s - 1) (Some r))
asks high normal requests s r a l z h j = by_key (j == s) refl (written s j requests (Some r) a l)
  where
    by_key : (b : Bool) → (j == s) ≡ b → asked_at j (set requests (s - 1) (Some r)) ≡ cond b 1 (asked_at j requests) → queued_count j high + (queued_count j normal + asked_at j (set requests (s - 1) (Some r))) ≤ 1
    by_key true t e =
        let same : j ≡ s = grind (arith, nat_tests, t) in
        let none : queued_count j high + (queued_count j normal + asked_at j requests) ≡ 0 = subst (λ (m : ℕ). queued_count m high + (queued_count m normal + asked_at m requests) ≡ 0) (sym same) z in
        omega (arith, e, none)
    by_key false t e = let x = h j in omega (arith, e, x)

-- what is at the fabric ends
ends : (high normal : List Post) (requests : List (Option AtFabric)) (s : ℕ) (r : AtFabric) → at_fabric requests s ≡ Some r → RoomOf high normal requests → RoomOf high normal (set requests (s - 1) None)
ends high normal requests s r is h j =
    let p = in_requests requests s r is in
    by_key (j == s) (written s j requests None p.0 p.1)
  where
    by_key : (b : Bool) → asked_at j (set requests (s - 1) None) ≡ cond b 0 (asked_at j requests) → queued_count j high + (queued_count j normal + asked_at j (set requests (s - 1) None)) ≤ 1
    by_key true e = let x = h j in omega (arith, e, x)
    by_key false e = let x = h j in omega (arith, e, x)

-- ---- the queues

fewer : (keep : Post → Bool) (s : ℕ) (ps : List Post) → queued_count s (filter keep ps) ≤ queued_count s ps
fewer keep s [] = omega arith
fewer keep s (p ∷ ps) = by_test (keep p) (fewer keep s ps) (queued_count-cons s p ps) (queued_count-cons s p (filter keep ps))
  where
    by_test : (b : Bool) → queued_count s (filter keep ps) ≤ queued_count s ps → queued_count s (p ∷ ps) ≡ one_if (table.is_post_of s p) + queued_count s ps
        → queued_count s (p ∷ filter keep ps) ≡ one_if (table.is_post_of s p) + queued_count s (filter keep ps) → queued_count s (if b then p ∷ filter keep ps else filter keep ps) ≤ queued_count s (p ∷ ps)
    by_test true ih c d = omega (arith, ih, c, d)
    by_test false ih c d = omega (arith, ih, c)

pub none_queued : (s : ℕ) (ps : List Post) → list_any (table.is_post_of s) ps ≡ false → queued_count s ps ≡ 0
none_queued s [] e = queued_count-nil s
none_queued s (p ∷ ps) e = by_test (table.is_post_of s p) e (none_queued s ps) (queued_count-cons s p ps)
  where
    by_test : (b : Bool) → (b || list_any (table.is_post_of s) ps) ≡ false → (list_any (table.is_post_of s) ps ≡ false → queued_count s ps ≡ 0) → queued_count s (p ∷ ps) ≡ one_if b + queued_count s ps → queued_count s (p ∷ ps) ≡ 0
    by_test true t ih c = absurd (cc)
    by_test false t ih c = let z = ih t in omega (arith, c, z)

pub none_asked : (s : ℕ) (requests : List (Option AtFabric)) → is_some (at_fabric requests s) ≡ false → asked_at s requests ≡ 0
unfolding asked_at
none_asked s requests e = ap one_if e

-- nothing of the identifier is unanswered
pub record IsAnswered (s : ℕ) (ioc : Ioc) : Type 0 where
  pub high : list_any (table.is_post_of s) ioc.high ≡ false
  pub normal : list_any (table.is_post_of s) ioc.normal ≡ false
  pub asked : is_some (at_fabric ioc.requests s) ≡ false
  pub held : list_any (table.is_held_as s) ioc.held ≡ false

pub answered_is : (s : ℕ) (ioc : Ioc) → table.is_unanswered ioc s ≡ false → IsAnswered s ioc
answered_is s ioc e = by_tests (list_any (table.is_post_of s) ioc.high) (list_any (table.is_post_of s) ioc.normal) (is_some (at_fabric ioc.requests s)) (list_any (table.is_held_as s) ioc.held) refl refl refl refl (as_fabric s e)
  where
    as_fabric : (x : ℕ) → table.is_unanswered ioc x ≡ false → ((list_any (table.is_post_of x) ioc.high || list_any (table.is_post_of x) ioc.normal) || (is_some (at_fabric ioc.requests x) || list_any (table.is_held_as x) ioc.held)) ≡ false
    as_fabric zero t = t
    as_fabric (suc x) t = t

    by_tests : (a b c d : Bool) → list_any (table.is_post_of s) ioc.high ≡ a → list_any (table.is_post_of s) ioc.normal ≡ b → is_some (at_fabric ioc.requests s) ≡ c → list_any (table.is_held_as s) ioc.held ≡ d → ((a || b) || (c || d)) ≡ false → IsAnswered s ioc
    by_tests true b c d i j k l t = absurd (cc)
    by_tests false true c d i j k l t = absurd (cc)
    by_tests false false true d i j k l t = absurd (cc)
    by_tests false false false true i j k l t = absurd (cc)
    by_tests false false false false i j k l t = record { high = i; normal = j; asked = k; held = l }

-- a post of an identifier that has nothing is queued
queued : (ioc : Ioc) (p : Post) (k : PostKind) → table.is_unanswered ioc (smid_in p.descriptor) ≡ false → HasRoom ioc → HasRoom (posts.with_post_queued ioc p k)
queued ioc p k u h = by_kind k
  where
    own : IsAnswered (smid_in p.descriptor) ioc
    own = answered_is (smid_in p.descriptor) ioc u

    high_none : queued_count (smid_in p.descriptor) ioc.high ≡ 0
    high_none = none_queued (smid_in p.descriptor) ioc.high own.high

    normal_none : queued_count (smid_in p.descriptor) ioc.normal ≡ 0
    normal_none = none_queued (smid_in p.descriptor) ioc.normal own.normal

    asked_none : asked_at (smid_in p.descriptor) ioc.requests ≡ 0
    asked_none = none_asked (smid_in p.descriptor) ioc.requests own.asked

    few : (s m : ℕ) → m ≡ queued_count s ioc.high + (queued_count s ioc.normal + asked_at s ioc.requests) → m + one_if (table.is_post_of s p) ≤ 1
    few s m e = by_key (smid_in p.descriptor == s) refl
      where
        by_key : (b : Bool) → (smid_in p.descriptor == s) ≡ b → m + one_if b ≤ 1
        by_key true t =
            let same : smid_in p.descriptor ≡ s = grind (arith, nat_tests, t) in
            let none : queued_count (smid_in p.descriptor) ioc.high + (queued_count (smid_in p.descriptor) ioc.normal + asked_at (smid_in p.descriptor) ioc.requests) ≡ 0 = omega (arith, high_none, normal_none, asked_none) in
            let there : queued_count s ioc.high + (queued_count s ioc.normal + asked_at s ioc.requests) ≡ 0 = subst (λ (x : ℕ). queued_count x ioc.high + (queued_count x ioc.normal + asked_at x ioc.requests) ≡ 0) same none in
            omega (arith, e, there)
        by_key false t = let x = h s in omega (arith, e, x)

    in_high : RoomOf (ioc.high ++ p ∷ []) ioc.normal ioc.requests
    in_high s =
        let a = queued_count-append s ioc.high (p ∷ []) in
        let c = queued_count-cons s p [] in
        let z = queued_count-nil s in
        let f = few s _ refl in
        omega (arith, a, c, z, f)

    in_normal : RoomOf ioc.high (ioc.normal ++ p ∷ []) ioc.requests
    in_normal s =
        let a = queued_count-append s ioc.normal (p ∷ []) in
        let c = queued_count-cons s p [] in
        let z = queued_count-nil s in
        let f = few s _ refl in
        omega (arith, a, c, z, f)

    by_kind : (x : PostKind) → HasRoom (posts.with_post_queued ioc p x)
    by_kind post.ScsiIo = in_normal
    by_kind post.HighPriority = in_high
    by_kind post.Default = in_normal

posted : (ioc : Ioc) (p : Post) (o : Option PostKind) → HasRoom ioc → HasRoom (posts.posts_if ioc p o)
posted ioc p None h = h
posted ioc p (Some k) h = by_tests (posts.is_in_class (posts.class_of k) (smid_in p.descriptor)) (table.is_unanswered ioc (smid_in p.descriptor)) refl
  where
    by_tests : (a b : Bool) → table.is_unanswered ioc (smid_in p.descriptor) ≡ b
        → HasRoom (if not a then table.faults ioc posts.bad_post else if b then table.faults ioc posts.identifier_in_use else posts.with_post_queued ioc p k)
    by_tests false b t = h
    by_tests true true t = h
    by_tests true false t = queued ioc p k t h

-- ---- what is taken of the host

after_handshake : (i k : Ioc) → Shook i k → HasRoom i → HasRoom k
after_handshake i k (Stays s e) h = subst HasRoom (sym e) h
after_handshake i k (ComesUp r s e) h = subst HasRoom (sym e) h

fresh : RoomOf [] [] (replicate 280 None)
fresh s = let a = queued_count-nil s in let b = asked_fresh s 280 in omega (arith, a, b)

after_write : (ioc : Ioc) (e : Effect) → HasRoom ioc → HasRoom (after_effect ioc e).part
after_write ioc effect.None h = h
after_write ioc (effect.Asked count bytes) h = after_handshake ioc (handshakes ioc (take count bytes)) (shook ioc (take count bytes)) h
after_write ioc effect.UnitReset h = fresh
after_write ioc effect.AdapterReset h = fresh
after_write ioc (effect.Fault code) h = h

pub room_down : (ioc : Ioc) (next : Down) → HasRoom ioc → HasRoom (takes_down ioc next).part
room_down ioc (down.Write reg value) h = after_write (record ioc { door = (register_written ioc.door reg value).registers }) (register_written ioc.door reg value).effect h
room_down ioc (down.Read reg) h = h
room_down ioc (down.Post descriptor frame payload) h =
    if_so (table.is_operational ioc.door.state) (posts.ioc_takes_post ioc descriptor frame payload) ioc
    (posted ioc (record { descriptor = descriptor; frame = frame; payload = payload }) (kind_in descriptor) h) h
room_down ioc (down.Return address index) h =
    if_so (table.is_operational ioc.door.state) (posts.ioc_takes_return ioc address) ioc
    (if_so (not (posts.is_frame_address address) || posts.frame_here ioc (posts.frame_near address)) (table.faults ioc posts.bad_return) (record ioc { ring = ioc.ring ++ posts.frame_near address ∷ [] }) h h) h
room_down ioc down.Stop h = if_so (is_fault ioc.door.state) ioc (say.with_out_item ioc out.Stop) h h

pub room_made : (phys : List ℕ) (q : ℕ) → HasRoom (Rattle.mpt_rules.specs.Ioc.Parts.new_ioc phys q)
room_made phys q = fresh

-- ---- what is taken of the fabric

changed : (ioc : Ioc) (handle expander phy : ℕ) (is_added : Bool) → HasRoom ioc → HasRoom (bind.changes ioc handle expander phy is_added)
changed ioc handle expander phy is_added h = if_so ioc.through (bind.tells_change ioc handle expander phy is_added) ioc h h

released : (ioc : Ioc) (handle : ℕ) → HasRoom ioc → HasRoom (commands.releases ioc handle)
released ioc handle h = if_so (table.has_commands ioc handle) ioc (commands.answers_held ioc handle) h h

at_table : (ioc : Ioc) (s : ℕ) (o : Option AtFabric) → table.request_at ioc s ≡ o → at_fabric ioc.requests s ≡ o
at_table ioc zero o e = e
at_table ioc (suc s) o e = e

heard : (ioc : Ioc) (next : Back) (o : Happening Ioc) → Hears ioc next o → HasRoom ioc → HasRoom o.part
heard ioc next o (Passed e) h = to _ o e h
heard ioc next o (Ended tag handle queue len written at e) h =
    to _ o e (released (say.says_on (table.without_request ioc tag) queue (reply_made next handle len written ∷ [])) handle (ends ioc.high ioc.normal ioc.requests tag _ (at_table ioc tag _ at) h))
heard ioc next o (Done smid r answer at e) h = to _ o e (ends ioc.high ioc.normal ioc.requests smid r (at_table ioc smid _ at) h)
heard ioc next o (Bound disk handle l k e) h =
    to (bind.binds_to ioc disk (Some handle)) o e (changed (table.with_binding ioc handle (binding.Present disk.address disk.plug disk.expander disk.phy)) handle disk.expander disk.phy true h)
heard ioc next o (Waits disk l k e) h = to _ o e h
heard ioc next o (Lost handle address plug expander phy b e) h =
    to (table.silently (bind.changes (table.with_binding ioc handle (binding.Gone address)) handle expander phy false)) o e (changed (table.with_binding ioc handle (binding.Gone address)) handle expander phy false h)
heard ioc next o (Unawaited address n e) h = to _ o e h
heard ioc next o (Linked generation r e) h = to _ o e h
heard ioc next o (Calmed e) h = to _ o e h

pub room_back : (ioc : Ioc) (next : Back) → HasRoom ioc → HasRoom (takes_back ioc next).part
room_back ioc next h = heard ioc next (takes_back ioc next) (back_leaf ioc next) h

-- ---- work steps

bound_first : (ioc : Ioc) (xs : List Waiting) → HasRoom ioc → HasRoom (bind.binds_first ioc xs).part
bound_first ioc [] h = h
bound_first ioc (disk ∷ others) h = by_free (table.least_unbound (record ioc { waiting = others }))
  where
    by_free : (o : Option ℕ) → HasRoom (bind.binds_to (record ioc { waiting = others }) disk o).part
    by_free None = h
    by_free (Some handle) = changed (table.with_binding (record ioc { waiting = others }) handle (binding.Present disk.address disk.plug disk.expander disk.phy)) handle disk.expander disk.phy true h

-- the post that was taken off its queue has an identifier of the table, and nothing else has it
record Own (p : Post) (ioc : Ioc) : Type 0 where
  least : 1 ≤ smid_in p.descriptor
  inside : smid_in p.descriptor - 1 < length ioc.requests
  none : queued_count (smid_in p.descriptor) ioc.high + (queued_count (smid_in p.descriptor) ioc.normal + asked_at (smid_in p.descriptor) ioc.requests) ≡ 0

worked : (ioc : Ioc) (p : Post) (o : Happening Ioc) → Works ioc p o → Own p ioc → HasRoom ioc → HasRoom o.part
worked ioc p o (Dropped k e) w h = to _ o e h
worked ioc p o (Refuses k f i r e) w h = to _ o e h
worked ioc p o (ScsiEnds status k c e) w h = to _ o e h
worked ioc p o (ScsiSends address plug expander phy k i b e) w h = to _ o e (asks ioc.high ioc.normal ioc.requests (smid_in p.descriptor) _ w.least w.inside w.none h)
worked ioc p o (Stops stop k f e) w h =
    to _ o e (λ s. let x = h s in let l = fewer (λ other. not (is_scsi_post (task_mid_in p.frame) (dev_handle_in p.frame) other)) s ioc.normal in omega (arith, x, l))
worked ioc p o (AbortSends k f r e) w h = to _ o e (asks ioc.high ioc.normal ioc.requests (smid_in p.descriptor) _ w.least w.inside w.none h)
worked ioc p o (AbortEnds k f r e) w h = to _ o e h
worked ioc p o (ResetSends address plug expander phy k b e) w h = to _ o e (asks ioc.high ioc.normal ioc.requests (smid_in p.descriptor) _ w.least w.inside w.none h)
worked ioc p o (ResetHolds address k b c e) w h = to _ o e h
worked ioc p o (ResetEnds status k e) w h = to _ o e h
worked ioc p o (TaskFails k e) w h = to _ o e h
worked ioc p o (PageEnds status k e) w h = to _ o e h
worked ioc p o (PageGiven page k x e) w h = to _ o e h
worked ioc p o (Enables k n e) w h = to _ o e (asks ioc.high ioc.normal ioc.requests (smid_in p.descriptor) _ w.least w.inside w.none h)
worked ioc p o (Notifies k e) w h = to _ o e h
worked ioc p o (Acks k v e) w h = to _ o e h
worked ioc p o (EndsPlainly f status k e) w h = to _ o e h
worked ioc p o (RemovalEnds status k e) w h = to _ o e h
worked ioc p o (Removes address k f b c e) w h =
    to (ask.removes ioc p) o e (bound_first (ask.ioc_ends_removal (table.with_binding ioc (controlled_handle_in p.frame) binding.Unbound) p 0) ioc.waiting h)
worked ioc p o (Strays k r e) w h = to _ o e h

pub room_high : (ioc : Ioc) (p : Post) (rest : List Post) (o : Happening Ioc) → ioc.high ≡ p ∷ rest → 1 ≤ smid_in p.descriptor → smid_in p.descriptor - 1 < length ioc.requests → Works (record ioc { high = rest }) p o → HasRoom ioc → HasRoom o.part
room_high ioc p rest o e least inside w h =
    let r : RoomOf (p ∷ rest) ioc.normal ioc.requests = subst (λ (ps : List Post). RoomOf ps ioc.normal ioc.requests) e h in
    let own = r (smid_in p.descriptor) in
    let c = queued_count-cons (smid_in p.descriptor) p rest in
    let mine : one_if (table.is_post_of (smid_in p.descriptor) p) ≡ 1 = grind arith in
    worked (record ioc { high = rest }) p o w (record { least = least; inside = inside; none = omega (arith, own, c, mine) })
    (λ s. let x = r s in let d = queued_count-cons s p rest in omega (arith, x, d))

pub room_normal : (ioc : Ioc) (p : Post) (rest : List Post) (o : Happening Ioc) → ioc.normal ≡ p ∷ rest → 1 ≤ smid_in p.descriptor → smid_in p.descriptor - 1 < length ioc.requests → Works (record ioc { normal = rest }) p o → HasRoom ioc → HasRoom o.part
room_normal ioc p rest o e least inside w h =
    let r : RoomOf ioc.high (p ∷ rest) ioc.requests = subst (λ (ps : List Post). RoomOf ioc.high ps ioc.requests) e h in
    let own = r (smid_in p.descriptor) in
    let c = queued_count-cons (smid_in p.descriptor) p rest in
    let mine : one_if (table.is_post_of (smid_in p.descriptor) p) ≡ 1 = grind arith in
    worked (record ioc { normal = rest }) p o w (record { least = least; inside = inside; none = omega (arith, own, c, mine) })
    (λ s. let x = r s in let d = queued_count-cons s p rest in omega (arith, x, d))
