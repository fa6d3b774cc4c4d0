-- What passes the rules that tie messages keeps them as they are stated of the whole trace.
use Rattle.std.proofs.Common.{◌≡◌, ◌⊎◌, inl, inr, ℕ, ◌==◌, ◌||◌, Bool, true, false, if◌then◌else◌, List, Option, Some, None, refl, arith}
use Rattle.std.specs.Bool.{MatchBool}
use Rattle.std.proofs.lemmas.Grind.{common_steps}
use Rattle.mpt_messages.specs.declared.host_ask.HostAsk.{HostAsk}
use Rattle.mpt_messages.specs.declared.host_ask.HostAsk.TheVariants as ask
use Rattle.mpt_trace.specs.declared.item.Down.TheVariants as down
use Rattle.mpt_trace.specs.declared.item.Up.TheVariants as up
use Rattle.mpt_trace.specs.declared.item.Item.TheVariants as item
use Rattle.mpt_trace.specs.declared.entry.Entry.{Entry}
use Rattle.mpt_trace.specs.declared.entry.Entry.TheVariants as entry
use Rattle.mpt_wire.specs.Messages.Fields.{abort_task, smid_in}
use Rattle.mpt_wire.specs.Handles.Names.{Aimed}
use Rattle.mpt_wire.specs.Messages.Naming.{names_command}
use Rattle.mpt_wire.specs.Handles.Pages.{is_aimed_as, aimed_in_put}
use Rattle.mpt_wire.specs.Walks.Passes.{state_after}
use Rattle.mpt_wire.specs.Paths.Commands.{Live, known_next, nothing_known}
use Rattle.mpt_wire.specs.Paths.Replies.{open_under}
use Rattle.mpt_wire.specs.Handles.Tasks.{IsPostedTo, handle_posted}
use Rattle.mpt_wire.specs.Ties.CommandPosts.{CommandPostAsks, CommandPostsPass, CommandsArePosted, PostsCommand, PostsOpen}
use Rattle.mpt_wire.specs.Ties.HandlesAimed.{IsTold, NamesHandles, NamesKnown, NamesTold, HandlesTold, HandlesToldAsks, HandlesToldPass, PostsNameTold, adds_handle, is_end_of_reset, handles_told_next, no_handles_told}
use Rattle.mpt_wire.specs.Ties.LastPosts.{AnswersLast, AnswersPost, IsLastPost, LastPostAsks, RepliesAnswerPass, RepliesAnswerPosts, frame_posted, is_posted, last_post_by, last_post_next}
use Rattle.mpt_wire.specs.Ties.OnWire.{TiesOnWire, TiesPass}
use Rattle.mpt_wire.proofs.Lasting.{asked_in, lasts}
use Rattle.mpt_wire.proofs.PagesTold.{pages_are_of_plugs}
use Rattle.mpt_wire.proofs.RemovalsUnbind.{successes_unbind}

-- what is asked where a test is passed
asked_if : {P : Type 0} (b : Bool) → MatchBool b P (Unit {0}) → b ≡ true → P
asked_if true p e = p
asked_if false p e = absurd cc

-- ---- posts of commands

posts_open : (o : Option Live) (descriptor : ℕ) (frame payload : List ℕ) → PostsOpen o descriptor frame payload
    → (c : Live) × (o ≡ Some c) × PostsCommand c.command descriptor frame payload
posts_open None descriptor frame payload p = absurd p
posts_open (Some c) descriptor frame payload p = (c, refl, p)

pub commands_are_posted : (s : ℕ) (t : List Entry) → CommandPostsPass s t → CommandsArePosted s t
commands_are_posted s t p before after lane descriptor frame payload split named =
    let a = asked_in (known_next s) (CommandPostAsks s) nothing_known t before after (entry.Put lane (item.Down (down.Post descriptor frame payload))) p split in
    posts_open (open_under s before) descriptor frame payload (asked_if (names_command s descriptor) a named)

-- ---- replies and their posts

abbrev HasPost : List ℕ → Option (List ℕ) → Type 0
HasPost request g = g ≡ Some request

abbrev Puts : ℕ → List ℕ → Entry → Type 0
Puts s request e = frame_posted s e ≡ Some request

by_frame : (request : List ℕ) (g o : Option (List ℕ)) (b : Bool) → (o ≡ None → b ≡ false) → last_post_by g o ≡ Some request
    → (o ≡ Some request) ⊎ ((g ≡ Some request) × (b ≡ false))
by_frame request g None b n f = inr (f, n refl)
by_frame request g (Some frame) b n f = inl f

unposted : (s : ℕ) (e : Entry) → frame_posted s e ≡ None → is_posted s e ≡ false
unposted s (entry.Put lane (item.Down (down.Post descriptor frame payload))) n = by_test (smid_in descriptor == s) n
  where
    by_test : (b : Bool) → (if b then Some frame else None) ≡ None → b ≡ false
    by_test true e = absurd cc
    by_test false e = refl
unposted s _ n = refl

post_came : (s : ℕ) (request : List ℕ) (g : Option (List ℕ)) (e : Entry) → HasPost request (last_post_next s g e) → Puts s request e ⊎ (HasPost request g × (is_posted s e ≡ false))
post_came s request g e f = by_frame request g (frame_posted s e) (is_posted s e) (unposted s e) f

answers_last : (s : ℕ) (before : List Entry) (frame o : Option (List ℕ)) → state_after (last_post_next s) None before ≡ o → AnswersLast s o frame
    → (request : List ℕ) × IsLastPost before s request × AnswersPost s request frame
answers_last s before frame None e a = absurd a
answers_last s before frame (Some request) e a =
    (request, lasts (last_post_next s) (HasPost request) (Puts s request) (is_posted s) (post_came s request) None (λ n. cc) before e, a)

pub replies_answer_posts : (s : ℕ) (t : List Entry) → RepliesAnswerPass s t → RepliesAnswerPosts s t
replies_answer_posts s t p before after lane descriptor frame page sense split named =
    let a = asked_in (last_post_next s) (LastPostAsks s) None t before after (entry.Put lane (item.Up (up.Reply descriptor frame page sense))) p split in
    answers_last s before frame (state_after (last_post_next s) None before) refl (asked_if (smid_in descriptor == s) a named)

-- ---- the handles of posts

abbrev Knows : ℕ → HandlesTold → Type 0
Knows h g = g.told h ≡ true

told_came : (h : ℕ) (told : ℕ → Bool) (reset adds : Bool) → (if reset then false else (adds || told h)) ≡ true → (adds ≡ true) ⊎ ((told h ≡ true) × (reset ≡ false))
told_came h told true adds f = absurd cc
told_came h told false true f = inl refl
told_came h told false false f = inr (f, refl)

name_came : (h : ℕ) (g : HandlesTold) (e : Entry) → Knows h (handles_told_next g e) → (adds_handle h e ≡ true) ⊎ (Knows h g × (is_end_of_reset e ≡ false))
name_came h g e f = told_came h g.told (is_end_of_reset e) (adds_handle h e) f

is_told : (before : List Entry) (h : ℕ) → (state_after handles_told_next no_handles_told before).told h ≡ true → IsTold before h
is_told before h f = lasts handles_told_next (Knows h) (λ e. adds_handle h e ≡ true) is_end_of_reset (name_came h) no_handles_told (λ n. cc) before f

abbrev Has : ℕ → ℕ → HandlesTold → Type 0
Has s h g = g.handle s ≡ Some h

by_post : (s h : ℕ) (handle : ℕ → Option ℕ) (post : Option Aimed) → handle_posted handle post s ≡ Some h
    → (post ≡ Some (record { smid = s; handle = h })) ⊎ ((handle s ≡ Some h) × (is_aimed_as s post ≡ false))
by_post s h handle None f = inr (f, refl)
by_post s h handle (Some post) f = grind (arith, common_steps)

handle_came : (s h : ℕ) (g : HandlesTold) (e : Entry) → Has s h (handles_told_next g e) → (aimed_in_put e ≡ Some (record { smid = s; handle = h })) ⊎ (Has s h g × (is_aimed_as s (aimed_in_put e) ≡ false))
handle_came s h g e f = by_post s h g.handle (aimed_in_put e) f

is_posted_to : (before : List Entry) (s h : ℕ) → (state_after handles_told_next no_handles_told before).handle s ≡ Some h → IsPostedTo before s h
is_posted_to before s h f =
    lasts handles_told_next (Has s h) (λ e. aimed_in_put e ≡ Some (record { smid = s; handle = h })) (λ e. is_aimed_as s (aimed_in_put e)) (handle_came s h) no_handles_told (λ n. cc) before f

task_told : (before : List Entry) (b : Bool) (h task : ℕ)
    → MatchBool b ((state_after handles_told_next no_handles_told before).handle task ≡ Some h) ((state_after handles_told_next no_handles_told before).told h ≡ true)
    → MatchBool b (IsPostedTo before task h) (IsTold before h)
task_told before true h task f = is_posted_to before task h f
task_told before false h task f = is_told before h f

names_told : (before : List Entry) (request : HostAsk) → NamesKnown (state_after handles_told_next no_handles_told before) request → NamesTold before request
names_told before (ask.PageRead smid handle) f = is_told before handle f
names_told before (ask.Remove handle) f = is_told before handle f
names_told before (ask.Task handle task_type task_mid) f = task_told before (task_type == abort_task) handle task_mid f
names_told before _ f = tt

pub posts_name_told : (t : List Entry) → HandlesToldPass t → PostsNameTold t
posts_name_told t p before after lane descriptor frame payload split =
    let a : NamesHandles (state_after handles_told_next no_handles_told before) frame = asked_in handles_told_next HandlesToldAsks no_handles_told t before after (entry.Put lane (item.Down (down.Post descriptor frame payload))) p split in
    (a.request, a.asked, names_told before a.request a.names)

-- ---- all of them

pub ties_on_wire : (phys : List ℕ) (t : List Entry) → TiesPass phys t → TiesOnWire phys t
ties_on_wire phys t p =
    record {
      commands = λ s. commands_are_posted s t (p.commands s);
      payloads = p.payloads;
      replies = λ s a. replies_answer_posts s t (p.replies s a);
      events = p.events;
      pages = pages_are_of_plugs t p.pages;
      acknowledged = p.acknowledged;
      known = p.known;
      handles = posts_name_told t p.handles;
      told = p.told;
      removals = λ s a. successes_unbind s t (p.removals s a);
      openings = p.openings;
    }
