-- A remove device is asked for a handle that was told as not responding, once a target reset on it that was asked
-- since was answered.
use Rattle.std.specs.Prelude.{◌≡◌, ℕ, Bool, true, false, ◌==◌, if◌then◌else◌, Option, Some, None, List, [], ◌∷◌, ◌++◌}
use Rattle.std.specs.List.{flat_map, list_any}
use Rattle.mpt_trace.specs.declared.item.Item.TheVariants as item
use Rattle.mpt_trace.specs.declared.item.Down.{Down}
use Rattle.mpt_trace.specs.declared.entry.Entry.{Entry}
use Rattle.mpt_trace.specs.declared.entry.Entry.TheVariants as entry
use Rattle.mpt_wire.specs.Messages.Fields.{Change, target_added, target_not_responding}
use Rattle.mpt_wire.specs.Machine.State.{put_at}
use Rattle.mpt_wire.specs.Handles.Names.{Aimed, changes_told, post_in, removal_posted, reply_smid_in, reset_posted}

-- what an entry says of a handle's leaving
pub data LeavingNews : Type 0 where
  -- the host begins anew
  BeginsAnew : LeavingNews
  -- the host takes its "added" or its "not responding"
  TakesAdded : LeavingNews
  TakesGone : LeavingNews
  -- the host puts a target reset on it, or another post, or a remove device for it
  PutsReset : (smid : ℕ) → LeavingNews
  PutsOther : (smid : ℕ) → LeavingNews
  PutsRemoval : (smid : ℕ) → LeavingNews
  -- the host takes a reply
  TakesReply : (smid : ℕ) → LeavingNews

abbrev pub told_by_status : ℕ → List LeavingNews
told_by_status status = if status == target_added then TakesAdded ∷ [] else (if status == target_not_responding then TakesGone ∷ [] else [])

-- what a change of an event says of h
abbrev pub told_by : ℕ → Change → List LeavingNews
told_by h change = if change.handle == h then told_by_status change.status else []

abbrev pub names_handle : ℕ → Option Aimed → Bool
names_handle h None = false
names_handle h (Some post) = post.handle == h

-- a post is a target reset on h, a remove device for h, or another
abbrev pub told_by_post : ℕ → Down → Option Aimed → List LeavingNews
told_by_post h i None = []
told_by_post h i (Some post) =
    if names_handle h (reset_posted i) then PutsReset post.smid ∷ []
    else (if names_handle h (removal_posted i) then PutsRemoval post.smid ∷ [] else PutsOther post.smid ∷ [])

abbrev pub told_by_reply : Option ℕ → List LeavingNews
told_by_reply None = []
told_by_reply (Some s) = TakesReply s ∷ []

-- what an entry says of h, in its order
abbrev pub news_of : ℕ → Entry → List LeavingNews
news_of h (entry.Put lane (item.Down i)) = told_by_post h i (post_in i)
news_of h (entry.Take lane (item.Up i)) = told_by_reply (reply_smid_in i) ++ flat_map (told_by h) (changes_told i)
news_of h entry.ResetDone = BeginsAnew ∷ []
news_of h _ = []

-- ---- over the news before

-- h is told as added, or the host begins anew
abbrev pub is_added : LeavingNews → Bool
is_added BeginsAnew = true
is_added TakesAdded = true
is_added _ = false

-- another post than a target reset on h has the identifier, or there is another "added"
abbrev pub takes_over : ℕ → LeavingNews → Bool
takes_over s (PutsOther smid) = smid == s
takes_over s (PutsRemoval smid) = smid == s
takes_over s other = is_added other

-- the news is there behind what P says, and nothing behind it ends it
pub record Since (P : List LeavingNews → Type 0) (made : LeavingNews) (ends : LeavingNews → Bool) (news : List LeavingNews) : Type 0 where
  pub earlier : List LeavingNews
  pub later : List LeavingNews
  pub split : news ≡ earlier ++ made ∷ later
  pub before : P earlier
  pub kept : list_any ends later ≡ false

-- the last "added"; behind it a "not responding"; behind that a target reset with identifier s
abbrev pub IsAdded : List LeavingNews → Type 0
IsAdded news = Since (λ earlier. Unit {0}) TakesAdded is_added news

abbrev pub IsGone : List LeavingNews → Type 0
IsGone news = Since IsAdded TakesGone is_added news

abbrev pub IsReset : ℕ → List LeavingNews → Type 0
IsReset s news = Since IsGone (PutsReset s) (takes_over s) news

-- and behind that its reply
abbrev pub HasLeft : List LeavingNews → Type 0
HasLeft news = (s : ℕ) × Since (IsReset s) (TakesReply s) is_added news

-- each remove device post for h is put after all this
abbrev pub RemovesWhatLeft : ℕ → List Entry → Type 0
RemovesWhatLeft h t = (before after : List LeavingNews) (smid : ℕ) → flat_map (news_of h) t ≡ before ++ PutsRemoval smid ∷ after → HasLeft before

-- ---- as a rule that goes over the entries

-- how far the leaving of a handle is, as the host knows it
pub data Leaving : Type 0 where
  -- it wasn't added since the host began anew
  Unknown : Leaving
  Added : Leaving
  -- it doesn't respond; the target resets on it that were put since are those with these identifiers
  Gone : (late : ℕ → Bool) → Leaving
  -- such a target reset was answered
  Answered : Leaving

abbrev pub after_gone : Leaving → Leaving
after_gone Unknown = Unknown
after_gone Added = Gone (λ s. false)
after_gone (Gone late) = Gone late
after_gone Answered = Answered

abbrev pub after_put : ℕ → Bool → Leaving → Leaving
after_put s is_reset Unknown = Unknown
after_put s is_reset Added = Added
after_put s is_reset (Gone late) = Gone (put_at s is_reset late)
after_put s is_reset Answered = Answered

abbrev pub after_answer : ℕ → Leaving → Leaving
after_answer s Unknown = Unknown
after_answer s Added = Added
after_answer s (Gone late) = if late s then Answered else Gone late
after_answer s Answered = Answered

abbrev pub leaving_after : Leaving → LeavingNews → Leaving
leaving_after g BeginsAnew = Unknown
leaving_after g TakesAdded = Added
leaving_after g TakesGone = after_gone g
leaving_after g (PutsReset smid) = after_put smid true g
leaving_after g (PutsOther smid) = after_put smid false g
leaving_after g (PutsRemoval smid) = after_put smid false g
leaving_after g (TakesReply smid) = after_answer smid g

-- a remove device is put where a target reset was answered
abbrev pub LeavingAsks : Leaving → LeavingNews → Type 0
LeavingAsks g (PutsRemoval smid) = g ≡ Answered
LeavingAsks g _ = Unit {0}

abbrev pub leaving_after_all : Leaving → List LeavingNews → Leaving
leaving_after_all g [] = g
leaving_after_all g (n ∷ news) = leaving_after_all (leaving_after g n) news

abbrev pub LeavingAsksAll : Leaving → List LeavingNews → Type 0
LeavingAsksAll g [] = Unit {0}
LeavingAsksAll g (n ∷ news) = LeavingAsks g n × LeavingAsksAll (leaving_after g n) news

abbrev pub leaving_next : ℕ → Leaving → Entry → Leaving
leaving_next h g e = leaving_after_all g (news_of h e)

abbrev pub LeaveAsks : ℕ → Leaving → Entry → Type 0
LeaveAsks h g e = LeavingAsksAll g (news_of h e)
