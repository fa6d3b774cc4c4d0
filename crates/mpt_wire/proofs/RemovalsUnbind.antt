-- A remove device whose reply has SUCCESS where the rule allows it has unbound its handle.
use Rattle.std.proofs.Common.{◌≡◌, ℕ, ◌==◌, ◌||◌, Bool, true, false, if◌then◌else◌, List, [], ◌∷◌, Option, Some, None, refl, arith}
use Rattle.std.specs.Bool.{MatchBool}
use Rattle.std.specs.List.{list_any}
use Rattle.std.proofs.lemmas.Grind.{common_steps}
use Rattle.mpt_trace.specs.declared.item.Item.TheVariants as item
use Rattle.mpt_trace.specs.declared.item.Up.TheVariants as up
use Rattle.mpt_trace.specs.declared.entry.Entry.{Entry}
use Rattle.mpt_trace.specs.declared.entry.Entry.TheVariants as entry
use Rattle.mpt_wire.specs.Messages.Fields.{ioc_status_in, smid_in}
use Rattle.mpt_wire.specs.Handles.Names.{Aimed, removal_posted, reply_smid_in}
use Rattle.mpt_wire.specs.Messages.Naming.{success}
use Rattle.mpt_wire.specs.Walks.Passes.{state_after}
use Rattle.mpt_wire.specs.Handles.Removals.{is_same_number, removal_taken}
use Rattle.mpt_wire.specs.Ties.RemovalsUnbind.{IsTaken, NoRemoval, RemovalStage, RemovalAsks, RemovalsUnbind, SuccessesUnbind, StillBound, NowUnbound, UnbindsBy, ends_taken, is_removal_of, removal_by, removal_next, removal_over, unbinds, unbound_by}
use Rattle.mpt_wire.proofs.Lasting.{asked_in, holds, left_not, right_not}

abbrev Stands : ℕ → RemovalStage → Type 0
Stands h g = g ≡ StillBound h

abbrev Takes : ℕ → ℕ → Entry → Type 0
Takes s h e = removal_taken e ≡ Some (record { smid = s; handle = h })

-- it is over, or its handle is unbound
abbrev ends : ℕ → ℕ → Entry → Bool
ends s h e = ends_taken s e || unbinds h e

-- ---- taking one

taken_by : (s h : ℕ) (g : RemovalStage) (o : Option Aimed) → o ≡ Some (record { smid = s; handle = h }) → removal_by s g o ≡ StillBound h
taken_by s h g None e = absurd cc
taken_by s h g (Some post) e = grind (arith, common_steps)

takes : (s h : ℕ) (g : RemovalStage) (e : Entry) → Takes s h e → removal_next s g e ≡ StillBound h
takes s h g (entry.Take lane (item.Down i)) e = taken_by s h g (removal_posted i) e
takes s h g _ e = absurd cc

-- ---- what leaves it

other_post : (s h : ℕ) (g : RemovalStage) (o : Option Aimed) → g ≡ StillBound h → is_removal_of s o ≡ false → removal_by s g o ≡ StillBound h
other_post s h g None f e = f
other_post s h g (Some post) f e = by_test (post.smid == s) e
  where
    by_test : (b : Bool) → b ≡ false → (if b then StillBound post.handle else g) ≡ StillBound h
    by_test true e = absurd cc
    by_test false e = f

other_reply : (s h : ℕ) (g : RemovalStage) (o : Option ℕ) → g ≡ StillBound h → is_same_number s o ≡ false → removal_over s g o ≡ StillBound h
other_reply s h g None f e = f
other_reply s h g (Some smid) f e = by_test (smid == s) e
  where
    by_test : (b : Bool) → b ≡ false → (if b then NoRemoval else g) ≡ StillBound h
    by_test true e = absurd cc
    by_test false e = f

other_handle : (h handle : ℕ) (g : RemovalStage) → g ≡ StillBound h → (handle == h) ≡ false → unbound_by handle g ≡ StillBound h
other_handle h handle NoRemoval f e = f
other_handle h handle (StillBound k) f e = grind (arith, common_steps)
other_handle h handle NowUnbound f e = absurd cc

not_over : (s h : ℕ) (e : Entry) → ends s h e ≡ false → ends_taken s e ≡ false
not_over s h e p = left_not (ends_taken s e) (unbinds h e) p

stays : (s h : ℕ) (g : RemovalStage) (e : Entry) → Stands h g → ends s h e ≡ false → Stands h (removal_next s g e)
stays s h g (entry.Put lane (item.Up i)) f e = other_reply s h g (reply_smid_in i) f (left_not (is_same_number s (reply_smid_in i)) false (not_over s h (entry.Put lane (item.Up i)) e))
stays s h g (entry.Take lane (item.Down i)) f e = other_post s h g (removal_posted i) f (right_not false (is_removal_of s (removal_posted i)) (not_over s h (entry.Take lane (item.Down i)) e))
stays s h g (entry.Unbind handle) f e = other_handle h handle g f (right_not (ends_taken s (entry.Unbind handle)) (handle == h) e)
stays s h g entry.UnbindAll f e = absurd cc
stays s h g _ f e = f

-- ---- all of it

neither : (a b : Bool) → a ≡ false → b ≡ false → (a || b) ≡ false
neither a b p q = rw (p, q) refl

none_of_both : (p q : Entry → Bool) (t : List Entry) → list_any p t ≡ false → list_any q t ≡ false → list_any (λ e. p e || q e) t ≡ false
none_of_both p q [] a b = refl
none_of_both p q (e ∷ t) a b =
    neither (p e || q e) (list_any (λ e. p e || q e) t)
    (neither (p e) (q e) (left_not (p e) (list_any p t) a) (left_not (q e) (list_any q t) b))
    (none_of_both p q t (right_not (p e) (list_any p t) a) (right_not (q e) (list_any q t) b))

still_taken : (s h : ℕ) (before : List Entry) (l : IsTaken before s h) → list_any (unbinds h) l.since ≡ false → state_after (removal_next s) NoRemoval before ≡ StillBound h
still_taken s h before l none =
    holds (removal_next s) (Stands h) (Takes s h) (ends s h) (takes s h) (stays s h) NoRemoval before
    (record { earlier = l.earlier; maker = l.maker; since = l.since; split = l.split; makes = l.makes; kept = none_of_both (ends_taken s) (unbinds h) l.since l.kept none })

asked_if : {P : Type 0} (b : Bool) → MatchBool b P (Unit {0}) → b ≡ true → P
asked_if true p e = p
asked_if false p e = absurd cc

failed : (h : ℕ) (g : RemovalStage) (frame : List ℕ) → g ≡ StillBound h → UnbindsBy g (Some frame) → (ioc_status_in frame == success) ≡ false
failed h NoRemoval frame e u = absurd cc
failed h (StillBound k) frame e u = u
failed h NowUnbound frame e u = absurd cc

pub successes_unbind : (s : ℕ) (t : List Entry) → RemovalsUnbind s t → SuccessesUnbind s t
successes_unbind s t p before after lane descriptor h frame page sense split named succeeds l = by_unbind (list_any (unbinds h) l.since) refl
  where
    by_unbind : (b : Bool) → list_any (unbinds h) l.since ≡ b → list_any (unbinds h) l.since ≡ true
    by_unbind true e = e
    by_unbind false e =
        let a = asked_in (removal_next s) (RemovalAsks s) NoRemoval t before after (entry.Put lane (item.Up (up.Reply descriptor (Some frame) page sense))) p split in
        let u = asked_if (smid_in descriptor == s) a named in
        let fails = failed h (state_after (removal_next s) NoRemoval before) frame (still_taken s h before l e) u in
        absurd cc
