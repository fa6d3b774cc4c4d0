-- A remove device that is put where the rule allows it stands behind what it has to follow.
use Rattle.std.proofs.Common.{◌≡◌, ℕ, ◌==◌, ◌||◌, Bool, true, false, List, [], ◌∷◌, ◌++◌, refl, sym, ◌∙◌, ap, subst, append_assoc, append-nil, arith, if◌then◌else◌}
use Rattle.std.specs.List.{flat_map, list_any}
use Rattle.std.proofs.lemmas.Grind.{common_steps}
use Rattle.mpt_trace.specs.declared.entry.Entry.{Entry}
use Rattle.mpt_wire.specs.Walks.Passes.{Passes}
use Rattle.mpt_wire.specs.Machine.State.{put_at}
use Rattle.mpt_wire.specs.Handles.Leaving.{Added, Answered, BeginsAnew, Gone, HasLeft, IsAdded, IsGone, IsReset, LeaveAsks, Leaving, LeavingAsks, LeavingAsksAll, LeavingNews, PutsOther, PutsRemoval, PutsReset, RemovesWhatLeft, Since, TakesAdded, TakesGone, TakesReply, Unknown, is_added, leaving_after, leaving_after_all, leaving_next, news_of, takes_over}

-- ---- what stands behind

none_more : (ends : LeavingNews → Bool) (news : List LeavingNews) (n : LeavingNews) → list_any ends news ≡ false → ends n ≡ false → list_any ends (news ++ n ∷ []) ≡ false
none_more ends [] n none b = rw b refl
none_more ends (x ∷ news) n none b = by_first (ends x) (list_any ends news) (list_any ends (news ++ n ∷ [])) none (λ rest. none_more ends news n rest b)
  where
    by_first : (p q r : Bool) → (p || q) ≡ false → (q ≡ false → r ≡ false) → (p || r) ≡ false
    by_first false q r e f = f e
    by_first true q r e f = absurd cc

more : {P : List LeavingNews → Type 0} {made : LeavingNews} {ends : LeavingNews → Bool} (news : List LeavingNews) (n : LeavingNews) → Since P made ends news → ends n ≡ false → Since P made ends (news ++ n ∷ [])
more {P} {made} {ends} news n s b =
    record { earlier = s.earlier; later = s.later ++ n ∷ []; split = ap (λ x. x ++ n ∷ []) s.split ∙ append_assoc s.earlier (made ∷ s.later) (n ∷ []); before = s.before; kept = none_more ends s.later n s.kept b }

now : {P : List LeavingNews → Type 0} {made : LeavingNews} {ends : LeavingNews → Bool} (news : List LeavingNews) → P news → Since P made ends (news ++ made ∷ [])
now news p = record { earlier = news; later = []; split = refl; before = p; kept = refl }

-- ---- what each state means

abbrev Means : Leaving → List LeavingNews → Type 0
Means Unknown news = Unit {0}
Means Added news = IsAdded news
Means (Gone late) news = IsGone news × ((s : ℕ) → late s ≡ true → IsReset s news)
Means Answered news = HasLeft news

put_reset : (late : ℕ → Bool) (smid s : ℕ) (news : List LeavingNews) → IsGone news → (late s ≡ true → IsReset s news) → put_at smid true late s ≡ true → IsReset s (news ++ PutsReset smid ∷ [])
put_reset late smid s news g m e = by_smid (s == smid) refl e
  where
    by_smid : (b : Bool) → (s == smid) ≡ b → (if b then true else late s) ≡ true → IsReset s (news ++ PutsReset smid ∷ [])
    by_smid true b e = let same : smid ≡ s = grind (arith, common_steps) in rw same (now news g)
    by_smid false b e = more news (PutsReset smid) (m e) refl

put_other : (late : ℕ → Bool) (smid s : ℕ) (news : List LeavingNews) (n : LeavingNews) → takes_over s n ≡ (smid == s) → (late s ≡ true → IsReset s news) → put_at smid false late s ≡ true → IsReset s (news ++ n ∷ [])
put_other late smid s news n over m e =
    let kept : late s ≡ true = grind (arith, common_steps) in
    let other : (smid == s) ≡ false = grind (arith, common_steps) in
    more news n (m kept) (over ∙ other)

hear_reply : (late : ℕ → Bool) (smid : ℕ) (news : List LeavingNews) → Means (Gone late) news → Means (if late smid then Answered else Gone late) (news ++ TakesReply smid ∷ [])
hear_reply late smid news m = by_late (late smid) refl
  where
    by_late : (b : Bool) → late smid ≡ b → Means (if b then Answered else Gone late) (news ++ TakesReply smid ∷ [])
    by_late true b = (smid, now news (m.1 smid b))
    by_late false b = (more news (TakesReply smid) m.0 refl, λ s e. more news (TakesReply smid) (m.1 s e) refl)

still_left : (news : List LeavingNews) (n : LeavingNews) → HasLeft news → is_added n ≡ false → HasLeft (news ++ n ∷ [])
still_left news n l b = (l.0, more news n l.1 b)

one_more : (g : Leaving) (n : LeavingNews) (news : List LeavingNews) → Means g news → Means (leaving_after g n) (news ++ n ∷ [])
one_more g BeginsAnew news m = tt
one_more g TakesAdded news m = now news tt
one_more Unknown TakesGone news m = tt
one_more Added TakesGone news m = (now news m, λ s e. absurd cc)
one_more (Gone late) TakesGone news m = (more news TakesGone m.0 refl, λ s e. more news TakesGone (m.1 s e) refl)
one_more Answered TakesGone news m = still_left news TakesGone m refl
one_more Unknown (PutsReset smid) news m = tt
one_more Added (PutsReset smid) news m = more news (PutsReset smid) m refl
one_more (Gone late) (PutsReset smid) news m = (more news (PutsReset smid) m.0 refl, λ s e. put_reset late smid s news m.0 (m.1 s) e)
one_more Answered (PutsReset smid) news m = still_left news (PutsReset smid) m refl
one_more Unknown (PutsOther smid) news m = tt
one_more Added (PutsOther smid) news m = more news (PutsOther smid) m refl
one_more (Gone late) (PutsOther smid) news m = (more news (PutsOther smid) m.0 refl, λ s e. put_other late smid s news (PutsOther smid) refl (m.1 s) e)
one_more Answered (PutsOther smid) news m = still_left news (PutsOther smid) m refl
one_more Unknown (PutsRemoval smid) news m = tt
one_more Added (PutsRemoval smid) news m = more news (PutsRemoval smid) m refl
one_more (Gone late) (PutsRemoval smid) news m = (more news (PutsRemoval smid) m.0 refl, λ s e. put_other late smid s news (PutsRemoval smid) refl (m.1 s) e)
one_more Answered (PutsRemoval smid) news m = still_left news (PutsRemoval smid) m refl
one_more Unknown (TakesReply smid) news m = tt
one_more Added (TakesReply smid) news m = more news (TakesReply smid) m refl
one_more (Gone late) (TakesReply smid) news m = hear_reply late smid news m
one_more Answered (TakesReply smid) news m = still_left news (TakesReply smid) m refl

all_more : (g : Leaving) (news done : List LeavingNews) → Means g done → Means (leaving_after_all g news) (done ++ news)
all_more g [] done m = subst (Means g) (sym (append-nil done)) m
all_more g (n ∷ news) done m = subst (Means (leaving_after_all (leaving_after g n) news)) (append_assoc done (n ∷ []) news) (all_more (leaving_after g n) news (done ++ n ∷ []) (one_more g n done m))

-- ---- news by news, and entry by entry

asked_there : (g : Leaving) (before after : List LeavingNews) (n : LeavingNews) → LeavingAsksAll g (before ++ n ∷ after) → LeavingAsks (leaving_after_all g before) n
asked_there g [] after n a = a.0
asked_there g (x ∷ before) after n a = asked_there (leaving_after g x) before after n a.1

joined : (g : Leaving) (xs ys : List LeavingNews) → LeavingAsksAll g xs → LeavingAsksAll (leaving_after_all g xs) ys → LeavingAsksAll g (xs ++ ys)
joined g [] ys a b = b
joined g (x ∷ xs) ys a b = (a.0, joined (leaving_after g x) xs ys a.1 b)

all_asked : (h : ℕ) (g : Leaving) (t : List Entry) → Passes (leaving_next h) (LeaveAsks h) g t → LeavingAsksAll g (flat_map (news_of h) t)
all_asked h g [] p = tt
all_asked h g (e ∷ t) p = joined g (news_of h e) (flat_map (news_of h) t) p.0 (all_asked h (leaving_next h g e) t p.1)

has_left : (before : List LeavingNews) → leaving_after_all Unknown before ≡ Answered → HasLeft before
has_left before e = subst (λ g. Means g before) e (all_more Unknown before [] tt)

-- what passes the rule removes what left
pub removes_what_left : (h : ℕ) (t : List Entry) → Passes (leaving_next h) (LeaveAsks h) Unknown t → RemovesWhatLeft h t
removes_what_left h t p before after smid split =
    has_left before (asked_there Unknown before after (PutsRemoval smid) (subst (LeavingAsksAll Unknown) split (all_asked h Unknown t p)))
