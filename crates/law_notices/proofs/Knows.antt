-- What the controller knows of an address behind its work, and behind a plug or an unplug that it takes.
use Rattle.std.proofs.Common.{◌≡◌, ℕ, ◌+◌, ◌-◌, ◌==◌, nat_lt, ◌||◌, not, Bool, true, false, cond, if◌then◌else◌, List, [], ◌∷◌, length, get_or, set, Option, Some, None, is_some, refl, ap, sym, ◌∙◌, subst, arith, length-set}
use Rattle.std.specs.List.{position}
use Rattle.std.specs.Option.{option_map}
use Rattle.std.proofs.lemmas.Bool.{eqb-true}
use Rattle.std.proofs.lemmas.List.Quantifiers.{position-Some}
use Rattle.removal.specs.Handles.{IsHandle}
use Rattle.mpt_wire.specs.Messages.Fields.{controlled_handle_in}
use Rattle.mpt_trace.specs.declared.item.Back.{Back}
use Rattle.mpt_trace.specs.declared.item.Back.TheVariants as back
use Rattle.mpt_rules.specs.declared.binding.Binding.{Binding}
use Rattle.mpt_rules.specs.declared.binding.Binding.TheVariants as binding
use Rattle.mpt_rules.specs.declared.binding.Waiting.{Waiting}
use Rattle.mpt_rules.specs.declared.post.Post.{Post}
use Rattle.mpt_rules.specs.declared.status.TheConstants.{IOC_STATUS_SUCCESS}
use Rattle.mpt_rules.specs.Ioc.Back as news
use Rattle.mpt_rules.specs.Ioc.Bindings as bind
use Rattle.mpt_rules.specs.Ioc.Bindings.{waits_at}
use Rattle.mpt_rules.specs.Ioc.Parts.{Ioc}
use Rattle.mpt_rules.specs.Ioc.Requests as ask
use Rattle.mpt_rules.specs.Ioc.Tables as table
use Rattle.mpt_rules.specs.Ioc.Tables.{first_handle, is_operational, is_present_at, is_unbound}
use Rattle.mpt_rules.specs.Outcome.{Happening}
use Rattle.mpt_rules.specs.World.Counts.{how_many, one_if}
use Rattle.mpt_rules.specs.World.State.{World}
use Rattle.law_facts.specs.Clock.{is_live}
use Rattle.law_facts.specs.Facts.{Facts}
use Rattle.law_facts.specs.History.{History}
use Rattle.law_facts.specs.Notices.{known}
use Rattle.law_flights.proofs.KnownOnce as once
use Rattle.law_flights.proofs.KnownOnce.{Once}
use Rattle.law_flights.proofs.WorkLeaves.{AbortEnds, AbortSends, Acks, Dropped, Enables, EndsPlainly, Notifies, PageEnds, PageGiven, Refuses, RemovalEnds, Removes, ResetEnds, ResetHolds, ResetSends, ScsiEnds, ScsiSends, Stops, Strays, TaskFails, Works}
use Rattle.law_handles.proofs.Plugged as plugged
use Rattle.law_handles.proofs.Serving.{least_is}
use Rattle.law_handles.proofs.Tables.{at, binding_is, stands}
use Rattle.law_handles.proofs.TablesSame.{changed}
use Rattle.law_moves.proofs.Counted.{how_many-cons}
use Rattle.law_notices.proofs.Known.{disk_bound, disk_first, disk_forgotten, disk_lost, disk_unawaited, disk_waits, knows, not_known, present, same_known}

pub once_of : (w : World) (h : History) → Facts w h → Once w.ioc.bindings w.ioc.waiting
once_of w h f = record { table = f.flights.sizes.bindings; once = f.handles.known_once }

-- ---- a disk that isn't known is bound, or waits

pub bound_known : (ioc : Ioc) (disk : Waiting) (o : Option ℕ) → length ioc.bindings ≡ 64 → once.known disk.address ioc.bindings ioc.waiting ≡ 0 → table.least_unbound ioc ≡ o → (a : ℕ)
    → known (bind.binds_to ioc disk o).part a ≡ cond (disk.address == a) (Some disk) (known ioc a)
bound_known ioc disk None n z e a = disk_waits ioc.bindings ioc.waiting disk z a
bound_known ioc disk (Some h0) n z e a =
    let l = least_is ioc.bindings h0 n e in
    let made : Ioc = table.with_binding ioc h0 (present disk) in
    same_known (bind.changes made h0 disk.expander disk.phy true) made a (changed made h0 disk.expander disk.phy true)
    ∙ disk_bound ioc.bindings ioc.waiting h0 disk l.0 n l.1 (omega (arith, z)) a

-- ---- work

first_known : (ioc : Ioc) (p : Post) (address : ℕ) → length ioc.bindings ≡ 64 → table.binding_of ioc (controlled_handle_in p.frame) ≡ binding.Gone address → Once ioc.bindings ioc.waiting → (a : ℕ)
    → (xs : List Waiting) → ioc.waiting ≡ xs → known (bind.binds_first (ask.ioc_ends_removal (table.with_binding ioc (controlled_handle_in p.frame) binding.Unbound) p IOC_STATUS_SUCCESS) xs).part a ≡ known ioc a
first_known ioc p address n b o a [] e = disk_forgotten ioc.bindings ioc.waiting (controlled_handle_in p.frame) address (stands ioc (controlled_handle_in p.frame) (binding.Gone address) n b refl).1 a
first_known ioc p address n b o a (disk ∷ rest) e =
    bound_known freed disk (table.least_unbound freed) (length-set ioc.bindings (h0 - first_handle) binding.Unbound ∙ n) none refl a
    ∙ (ap (cond (disk.address == a) (Some disk)) (disk_forgotten ioc.bindings rest h0 address gone a)
    ∙ (sym (disk_first ioc.bindings disk rest here a) ∙ ap (λ ws. knows ioc.bindings ws a) (sym e)))
  where
    h0 : ℕ
    h0 = controlled_handle_in p.frame

    freed : Ioc
    freed = record (ask.ioc_ends_removal (table.with_binding ioc h0 binding.Unbound) p IOC_STATUS_SUCCESS) { waiting = rest }

    there : IsHandle h0 × (at ioc.bindings h0 ≡ binding.Gone address)
    there = stands ioc h0 (binding.Gone address) n b refl

    gone : at ioc.bindings h0 ≡ binding.Gone address
    gone = there.1

    -- the disk waits, so it isn't present
    alone : (how_many (is_present_at disk.address) ioc.bindings ≡ 0) × (how_many (waits_at disk.address) rest ≡ 0)
    alone =
        let k = o.once disk.address in
        let q = ap (how_many (waits_at disk.address)) e in
        let c = how_many-cons (waits_at disk.address) disk rest in
        let t : (disk.address == disk.address) ≡ true = grind arith in
        let u = ap one_if t in
        (omega (arith, k, q, c, u), omega (arith, k, q, c, u))

    here : how_many (is_present_at disk.address) ioc.bindings ≡ 0
    here = alone.0

    none : once.known disk.address (set ioc.bindings (h0 - first_handle) binding.Unbound) rest ≡ 0
    none =
        let i = there.0 in let x = i.0 in let y = i.1 in
        let c = once.count_set (is_present_at disk.address) ioc.bindings (h0 - first_handle) binding.Unbound binding.Unbound (omega (arith, x, y, n)) in
        let u : one_if (is_present_at disk.address (at ioc.bindings h0)) ≡ 0 = ap (λ z. one_if (is_present_at disk.address z)) gone in
        let k = alone.0 in let m = alone.1 in
        omega (arith, c, u, k, m)

to : (a : ℕ) (ioc : Ioc) (o x : Happening Ioc) → o ≡ x → known x.part a ≡ known ioc a → known o.part a ≡ known ioc a
to a ioc o x e k = ap (λ (y : Happening Ioc). known y.part a) e ∙ k

pub works_known : (ioc : Ioc) (p : Post) (o : Happening Ioc) → Works ioc p o → Once ioc.bindings ioc.waiting → (a : ℕ) → known o.part a ≡ known ioc a
works_known ioc p o (Dropped k e) n a = to a ioc o _ e refl
works_known ioc p o (Refuses k f kind r e) n a = to a ioc o _ e refl
works_known ioc p o (ScsiEnds status k c e) n a = to a ioc o _ e refl
works_known ioc p o (ScsiSends address plug expander phy k c b e) n a = to a ioc o _ e refl
works_known ioc p o (Stops stop k f e) n a = to a ioc o _ e refl
works_known ioc p o (AbortSends k f b e) n a = to a ioc o _ e refl
works_known ioc p o (AbortEnds k f b e) n a = to a ioc o _ e refl
works_known ioc p o (ResetSends address plug expander phy k b e) n a = to a ioc o _ e refl
works_known ioc p o (ResetHolds address k b c e) n a = to a ioc o _ e refl
works_known ioc p o (ResetEnds status k e) n a = to a ioc o _ e refl
works_known ioc p o (TaskFails k e) n a = to a ioc o _ e refl
works_known ioc p o (PageEnds status k e) n a = to a ioc o _ e refl
works_known ioc p o (PageGiven page k w e) n a = to a ioc o _ e refl
works_known ioc p o (Enables k b e) n a = to a ioc o _ e refl
works_known ioc p o (Notifies k e) n a = to a ioc o _ e refl
works_known ioc p o (Acks k b e) n a = to a ioc o _ e refl
works_known ioc p o (EndsPlainly f status k e) n a = to a ioc o _ e refl
works_known ioc p o (RemovalEnds status k e) n a = to a ioc o _ e refl
works_known ioc p o (Removes address k f b c e) n a = to a ioc o (ask.removes ioc p) e (first_known ioc p address n.table b n a ioc.waiting refl)
works_known ioc p o (Strays k r e) n a = to a ioc o _ e refl

-- ---- news

pub plug_known : (w : World) (h : History) → Facts w h → is_live w ≡ true → (address plug expander phy : ℕ) (rest : List Back) → w.back ≡ back.Plugged address plug expander phy ∷ rest → (a : ℕ)
    → known (news.takes_back w.ioc (back.Plugged address plug expander phy)).part a ≡ cond (address == a) (Some (record { address = address; plug = plug; expander = expander; phy = phy })) (known w.ioc a)
plug_known w h f l address plug expander phy rest front a = by_heard (is_live w) (bind.is_known w.ioc address) (nat_lt expander (length w.ioc.phys)) l (not_known w.ioc address b.unknown) b.there
  where
    disk : Waiting
    disk = record { address = address; plug = plug; expander = expander; phy = phy }

    b : plugged.Brings w h address plug expander
    b = plugged.brings w h f address plug expander phy rest front l

    by_heard : (x y z : Bool) → x ≡ true → y ≡ false → z ≡ true
        → known (if x then (if y || not z then table.silently w.ioc else bind.binds w.ioc (record { address = address; plug = plug; expander = expander; phy = phy })) else table.silently w.ioc).part a ≡ cond (address == a) (Some (record { address = address; plug = plug; expander = expander; phy = phy })) (known w.ioc a)
    by_heard true false true s t u = bound_known w.ioc disk (table.least_unbound w.ioc) f.flights.sizes.bindings b.unknown refl a
    by_heard false y z s t u = absurd (cc)
    by_heard true true z s t u = absurd (cc)
    by_heard true false false s t u = absurd (cc)

pub unplug_known : (w : World) (h : History) → Facts w h → is_live w ≡ true → (address plug expander phy a : ℕ)
    → known (news.takes_back w.ioc (back.Unplugged address plug expander phy)).part a ≡ cond (address == a) None (known w.ioc a)
unplug_known w h f l address plug expander phy a = by_heard (is_live w) l
  where
    lost : (h1 : ℕ) (b : Binding) → IsHandle h1 → at w.ioc.bindings h1 ≡ b → is_present_at address b ≡ true → known (bind.ioc_loses w.ioc h1 b) a ≡ cond (address == a) None (known w.ioc a)
    lost h1 binding.Unbound i e p = absurd (cc)
    lost h1 (binding.Gone b) i e p = absurd (cc)
    lost h1 (binding.Present b q x y) i e p =
        let this : b ≡ address = eqb-true b address p in
        let gone : Ioc = table.with_binding w.ioc h1 (binding.Gone b) in
        same_known (bind.changes gone h1 x y false) gone a (changed gone h1 x y false)
        ∙ (disk_lost w.ioc.bindings w.ioc.waiting h1 b q x y i (once_of w h f) e a ∙ ap (λ k. cond (k == a) None (known w.ioc a)) this)

    by_place : (h1 : ℕ) (o : Option ℕ) → position (is_present_at address) w.ioc.bindings ≡ o → option_map table.handle_at o ≡ Some h1 → known (bind.ioc_loses w.ioc h1 (table.binding_of w.ioc h1)) a ≡ cond (address == a) None (known w.ioc a)
    by_place h1 None p m = absurd (cc)
    by_place h1 (Some j) p m =
        let q = position-Some (is_present_at address) w.ioc.bindings j binding.Unbound p in
        let k = q.0 in let n = f.flights.sizes.bindings in
        let this : h1 ≡ 0x0009 + j = grind (arith, m) in
        let place : h1 - first_handle ≡ j = omega (arith, this) in
        let i : IsHandle h1 = (omega (arith, this), omega (arith, this, k, n)) in
        let there : is_present_at address (at w.ioc.bindings h1) ≡ true = subst (λ x. is_present_at address (get_or w.ioc.bindings x binding.Unbound) ≡ true) (sym place) q.1 in
        ap (λ b. known (bind.ioc_loses w.ioc h1 b) a) (binding_is w.ioc h1 i) ∙ lost h1 (at w.ioc.bindings h1) i refl there

    by_handle : (o : Option ℕ) → table.handle_of w.ioc address ≡ o → known (bind.ioc_unplugs_from w.ioc address o) a ≡ cond (address == a) None (known w.ioc a)
    by_handle None e = disk_unawaited w.ioc.bindings w.ioc.waiting address (once.nowhere (is_present_at address) w.ioc.bindings (ap is_some e)) a
    by_handle (Some h1) e = by_place h1 (position (is_present_at address) w.ioc.bindings) refl e

    by_heard : (x : Bool) → x ≡ true → known (if x then table.silently (bind.ioc_unplugs w.ioc address) else table.silently w.ioc).part a ≡ cond (address == a) None (known w.ioc a)
    by_heard true s = by_handle (table.handle_of w.ioc address) refl
    by_heard false s = absurd (cc)
