-- The identifiers of the host's high priority and internal posts: each is the least free one of its class as the host
-- makes the post, and the posts are put in the order in which they are made.
-- This is a model of the host's identifiers, apart from its own pool: which posts a reply or an event makes is told by
-- the trace, and the host's pool isn't, so that the rule is one of the trace and not one of the host told again.
use Rattle.std.specs.Prelude.{◌≡◌, ℕ, zero, suc, ◌+◌, ◌-◌, ◌==◌, ◌&&◌, not, nat_le, Bool, true, false, if◌then◌else◌, List, [], ◌∷◌, ◌++◌, drop, filter, Option, Some, None}
use Rattle.std.specs.Bool.{MatchBool}
use Rattle.mpi_names.specs.declared.handle.TheConstants.{FIRST_DISK_HANDLE, LAST_DISK_HANDLE}
use Rattle.mpi_rings.specs.declared.request_descriptor.PostKind.{PostKind}
use Rattle.mpi_rings.specs.declared.request_descriptor.PostKind.TheVariants as post
use Rattle.mpt_messages.specs.Function.{byte_of}
use Rattle.mpt_messages.specs.declared.function.Function.TheVariants as function
use Rattle.mpt_trace.specs.declared.input.Input.{Input}
use Rattle.mpt_trace.specs.declared.input.Input.TheVariants as input
use Rattle.mpt_trace.specs.declared.item.Down.TheVariants as down
use Rattle.mpt_trace.specs.declared.item.Up.TheVariants as up
use Rattle.mpt_trace.specs.declared.item.Item.TheVariants as item
use Rattle.mpt_trace.specs.declared.entry.Entry.{Entry}
use Rattle.mpt_trace.specs.declared.entry.Entry.TheVariants as entry
use Rattle.mpt_wire.specs.Walks.Ahead.{PassesAhead}
use Rattle.mpt_wire.specs.Machine.Calls.{call_of, is_call_refused}
use Rattle.mpt_wire.specs.Messages.Fields.{Change, changes_in, function_in, kind_in, smid_in, target_added, target_not_responding}
use Rattle.mpt_wire.specs.Queues.Identifiers.{first_smid, last_smid}
use Rattle.mpt_wire.specs.Queues.Lanes.{IsFirst}
use Rattle.mpt_wire.specs.Machine.State.{put_at}
use Rattle.mpt_wire.specs.Machine.SoFar.{SoFar, announced_next, is_reset_asked, nothing_so_far, so_far_next}
use Rattle.mpt_wire.specs.Machine.View.{is_target_end}

-- what waits for an identifier: the reading of a handle's page, or anything else
pub data Want : Type 0 where
  APage : (handle : ℕ) → Want
  Another : Want

-- the identifiers of a class
pub record ClassHeld : Type 0 where
  pub is_open : ℕ → Bool
  -- those whose post is made and not put, in the order of making
  pub made : List ℕ
  -- what found no identifier, the longest waiting first
  pub waiting : List Want

abbrev pub none_held : ClassHeld
none_held = record { is_open = λ s. false; made = []; waiting = [] }

-- the least of so many identifiers from s on that isn't open
abbrev pub least_closed_from : (ℕ → Bool) → ℕ → ℕ → Option ℕ
least_closed_from is_open s zero = None
least_closed_from is_open s (suc n) = if is_open s then least_closed_from is_open (s + 1) n else Some s

abbrev pub least_of : PostKind → ClassHeld → Option ℕ
least_of kind held = least_closed_from held.is_open (first_smid kind) (last_smid kind + 1 - first_smid kind)

-- a post is made with the identifier, or waits for one
abbrev pub made_with : Option ℕ → Want → ClassHeld → ClassHeld
made_with None want held = record held { waiting = held.waiting ++ want ∷ [] }
made_with (Some s) want held = record held { is_open = put_at s true held.is_open; made = held.made ++ s ∷ [] }

abbrev pub makes : PostKind → Want → ClassHeld → ClassHeld
makes kind want held = made_with (least_of kind held) want held

-- a freed identifier is granted at once to what waits longest
abbrev pub granted_next : PostKind → List Want → ClassHeld → ClassHeld
granted_next kind [] held = held
granted_next kind (want ∷ wants) held = makes kind want (record held { waiting = wants })

abbrev pub freed : PostKind → ℕ → ClassHeld → ClassHeld
freed kind s held = granted_next kind held.waiting (record held { is_open = put_at s false held.is_open })

abbrev pub is_of_kind : PostKind → ℕ → Bool
is_of_kind kind s = nat_le (first_smid kind) s && nat_le s (last_smid kind)

-- the reply frees its identifier where it is of the class
abbrev pub freed_by : PostKind → ℕ → ClassHeld → ClassHeld
freed_by kind s held = if is_of_kind kind s then freed kind s held else held

abbrev pub isnt_page_of : ℕ → Want → Bool
isnt_page_of handle (APage h) = not (h == handle)
isnt_page_of handle Another = true

-- both classes, and what was said so far
pub record Giving : Type 0 where
  pub high : ClassHeld
  pub internal : ClassHeld
  pub so_far : SoFar

abbrev pub nothing_given : Giving
nothing_given = record { high = none_held; internal = none_held; so_far = nothing_so_far }

abbrev pub makes_high : Giving → Giving
makes_high g = record g { high = makes post.HighPriority Another g.high }

abbrev pub makes_internal : Want → Giving → Giving
makes_internal want g = record g { internal = makes post.Default want g.internal }

-- ---- what a reply causes

-- the handles of disks: mpi2 leaves them to the controller, and this profile has 0x0009 to 0x0048
abbrev pub is_disk_handle : ℕ → Bool
is_disk_handle h = nat_le FIRST_DISK_HANDLE h && nat_le h LAST_DISK_HANDLE

-- a disk that departs is reset, and its page isn't read any more
abbrev pub departs : ℕ → Giving → Giving
departs handle g = makes_high (record g { internal = record g.internal { waiting = filter (isnt_page_of handle) g.internal.waiting } })

-- the page of a disk that was added is read; one that was announced departs
abbrev pub change_heard : (ℕ → Bool) → Change → Giving → Giving
change_heard announced change g =
    if change.status == target_added && is_disk_handle change.handle then makes_internal (APage change.handle) g
    else (if change.status == target_not_responding && announced change.handle then departs change.handle g else g)

unfoldable pub after_changes : (ℕ → Bool) → List Change → Giving → Giving
after_changes announced [] g = g
after_changes announced (change ∷ changes) g = after_changes (announced_next announced change) changes (change_heard announced change g)

-- an event is acknowledged first
abbrev pub event_heard : List ℕ → Giving → Giving
event_heard frame g = after_changes g.so_far.announced (changes_in frame) (makes_internal Another g)

-- the reply of a departed disk's reset causes its removal, and that of the event notification the port enable
abbrev pub reply_heard : ℕ → List ℕ → Option Entry → Giving → Giving
reply_heard s frame ahead g =
    if is_of_kind post.HighPriority s && g.so_far.is_target_reset s && not (is_target_end ahead) then makes_internal Another g
    else (if is_of_kind post.Default s && function_in frame == byte_of function.EventNotification then makes_internal Another g else g)

abbrev pub caused : ℕ → Option (List ℕ) → Option Entry → Giving → Giving
caused s None ahead g = g
caused s (Some frame) ahead g = if s == 0 then event_heard frame g else reply_heard s frame ahead g

-- while a reset is on its way a reply frees its identifier and causes no post
abbrev pub heard : ℕ → Option (List ℕ) → Option Entry → Giving → Giving
heard s frame ahead g = if g.so_far.resetting then freed_both else caused s frame ahead freed_both
  where
    freed_both : Giving
    freed_both = record g { high = freed_by post.HighPriority s g.high; internal = freed_by post.Default s g.internal }

-- ---- entries

-- an abort or a target reset that isn't refused next
abbrev pub is_high_call : Input → Bool
is_high_call (input.Abort n) = true
is_high_call (input.TargetReset address) = true
is_high_call _ = false

-- a reset that isn't refused takes the posts out of the host's outbox, and nothing waits any more
abbrev pub without_posts : ClassHeld → ClassHeld
without_posts held = record held { made = []; waiting = [] }

abbrev pub given_input : Input → Option Entry → Giving → Giving
given_input given ahead g =
    if is_high_call given && not (is_call_refused (call_of given) ahead) then makes_high g
    else (if is_reset_asked (entry.Given given) ahead then record g { high = without_posts g.high; internal = without_posts g.internal } else g)

-- the first that is made is put
abbrev pub put_first : ClassHeld → ClassHeld
put_first held = record held { made = drop 1 held.made }

abbrev pub is_notification : List ℕ → Bool
is_notification frame = function_in frame == byte_of function.EventNotification

abbrev pub after_post_put : Option PostKind → ℕ → List ℕ → Giving → Giving
after_post_put (Some post.HighPriority) s frame g = record g { high = put_first g.high }
after_post_put (Some post.Default) s frame g =
    if is_notification frame then record g { internal = record g.internal { is_open = put_at s true g.internal.is_open } } else record g { internal = put_first g.internal }
after_post_put _ s frame g = g

abbrev pub giving_by : Giving → Entry → Option Entry → Giving
giving_by g (entry.Given given) ahead = given_input given ahead g
giving_by g (entry.Put lane (item.Down (down.Post descriptor frame payload))) ahead = after_post_put (kind_in descriptor) (smid_in descriptor) frame g
giving_by g (entry.Take lane (item.Up (up.Reply descriptor frame page sense))) ahead = heard (smid_in descriptor) frame ahead g
giving_by g entry.ResetDone ahead = record g { high = none_held; internal = none_held }
giving_by g _ ahead = g

abbrev pub giving_next : Giving → Entry → Option Entry → Giving
giving_next g e ahead = record (giving_by g e ahead) { so_far = so_far_next g.so_far e ahead }

-- a post has the identifier that was made first. The event notification, which the host makes as it comes up, has the
-- first of all internal ones
abbrev pub PostAsks : Option PostKind → ℕ → List ℕ → Giving → Type 0
PostAsks (Some post.HighPriority) s frame g = IsFirst s g.high.made
PostAsks (Some post.Default) s frame g = MatchBool (is_notification frame) (s ≡ first_smid post.Default) (IsFirst s g.internal.made)
PostAsks _ s frame g = Unit {0}

abbrev pub GivingAsks : Giving → Entry → Option Entry → Type 0
GivingAsks g (entry.Put lane (item.Down (down.Post descriptor frame payload))) ahead = PostAsks (kind_in descriptor) (smid_in descriptor) frame g
GivingAsks g _ ahead = Unit {0}

abbrev pub IdentifiersAreLeast : List Entry → Type 0
IdentifiersAreLeast t = PassesAhead giving_next GivingAsks nothing_given t
