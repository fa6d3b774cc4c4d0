-- What entries tell of handles: which were added, of which disks the host has a page, and what a reply has of these.
use Rattle.std.proofs.Common.{◌≡◌, ℕ, zero, suc, ◌==◌, ◌&&◌, nat_lt, Bool, true, false, if◌then◌else◌, List, [], ◌∷◌, ◌++◌, length, get_or, Option, Some, None, is_none, is_some, option_map, refl, ap, sym, ◌∙◌, subst, arith}
use Rattle.std.specs.List.{find}
use Rattle.std.proofs.lemmas.Bool.{eqb-true}
use Rattle.removal.specs.declared.phase.Phase.{Phase}
use Rattle.mpi_layout.specs.Rows.{breaks, field, first_fault}
use Rattle.mpi_layout.proofs.Obeyed.{obeyed_row}
use Rattle.config_pages.specs.ConfigReply.{config_reply_layout, config_reply_values}
use Rattle.config_pages.specs.DevicePage0.{device_page0_layout}
use Rattle.event_msgs.specs.EventReply.{event_reply_layout, event_reply_values}
use Rattle.event_msgs.specs.Topology.{topology_layout, topology_values}
use Rattle.event_msgs.specs.TopologyEntry.{topology_entry_layout, topology_entry_values}
use Rattle.mpt_messages.specs.IocFrames.{reply_frame}
use Rattle.mpt_messages.specs.declared.ioc_reply.IocReply.TheVariants as reply
use Rattle.mpt_wire.specs.Handles.Names.{changes_told, is_device_page}
use Rattle.mpt_wire.specs.Handles.Pages.{Paged, no_pages, paged_next, pages_taken}
use Rattle.mpt_wire.specs.Machine.SoFar.{SoFar, after_entry, after_put, announced_after}
use Rattle.mpt_wire.specs.Machine.View.{Seen, seen_next}
use Rattle.mpt_wire.specs.Messages.Fields.{Change, changes_from, changes_in, function_in}
use Rattle.mpt_wire.specs.Walks.Ahead.{next_own, state_ahead}
use Rattle.mpt_wire.specs.Walks.Passes.{EachEntry, state_after}
use Rattle.mpt_trace.specs.declared.entry.Entry.{Entry}
use Rattle.mpt_trace.specs.declared.entry.Entry.TheVariants as entry
use Rattle.mpt_trace.specs.declared.item.Down.TheVariants as down
use Rattle.mpt_trace.specs.declared.item.Item.{Item}
use Rattle.mpt_trace.specs.declared.item.Item.TheVariants as item
use Rattle.mpt_trace.specs.declared.item.Up.{Up}
use Rattle.mpt_trace.specs.declared.lane.LaneName.{LaneName}
use Rattle.mpt_trace.specs.declared.lane.LaneName.TheVariants as lane
use Rattle.mpt_rules.specs.declared.status.TheConstants.{IOC_STATUS_CONFIG_INVALID_PAGE, IOC_STATUS_SUCCESS}
use Rattle.mpt_rules.specs.Host.Replies as replies
use Rattle.mpt_rules.specs.World.State.{up_lane}
use Rattle.law_facts.specs.Messages.{event_like}
use Rattle.law_handles.proofs.Silent.{IsTold}
use Rattle.law_flights.proofs.Told as flights
use Rattle.law_messages.proofs.Agreeing.{not_both}
use Rattle.law_moves.proofs.CasesTold.{IsPlugWord}
use Rattle.law_targets.specs.Targets.{KnownAs}
use Rattle.law_targets.proofs.Views.{announced_is, ready_is, ready_of, seen_as}

-- ---- what a handle is known as, over what is seen of its phase

abbrev pub Known : Option (Option ℕ) → Bool → (ℕ → Bool) → Type 0
Known seen announced pages = (announced ≡ is_some seen) × ((address : ℕ) → pages address ≡ ready_of address seen)

pub known_as : (p : Phase) (announced : Bool) (pages : ℕ → Bool) → KnownAs p announced pages → Known (seen_as p) announced pages
known_as p announced pages k = (k.0 ∙ announced_is p, λ a. k.1 a ∙ ready_is a p)

pub known_of : (p : Phase) (announced : Bool) (pages : ℕ → Bool) → Known (seen_as p) announced pages → KnownAs p announced pages
known_of p announced pages k = (k.0 ∙ sym (announced_is p), λ a. k.1 a ∙ sym (ready_is a p))

-- ---- entries that tell nothing of handles

abbrev pub Dull : Entry → Type 0
Dull (entry.Take l (item.Up x)) = ⊥
Dull entry.ResetDone = ⊥
Dull e = Unit {0}

put_announced : (x : Item) (g : SoFar) → (after_put x g).announced ≡ g.announced
put_announced (item.Down (down.Post d f p)) g = refl
put_announced (item.Down (down.Write reg value)) g = refl
put_announced (item.Down (down.Read reg)) g = refl
put_announced (item.Down (down.Return address index)) g = refl
put_announced (item.Down down.Stop) g = refl
put_announced (item.Up x) g = refl
put_announced (item.Out x) g = refl
put_announced (item.Back x) g = refl
put_announced (item.Ask x) g = refl
put_announced (item.Tell x) g = refl

lane_put : (g : SoFar) (l : LaneName) (x : Item) (ahead : Option Entry) → (after_entry g (entry.Put l x) ahead).announced ≡ g.announced
lane_put g lane.Down x ahead = put_announced x g
lane_put g lane.Up x ahead = refl
lane_put g (lane.UpOn queue) x ahead = refl
lane_put g lane.Out x ahead = refl
lane_put g lane.Back x ahead = refl
lane_put g (lane.Ask i) x ahead = refl
lane_put g (lane.Tell i) x ahead = refl

none_announced : (a : ℕ → Bool) → announced_after a [] ≡ a
unfolding announced_after
none_announced a = refl

take_announced : (g : SoFar) (l : LaneName) (x : Item) (ahead : Option Entry) → Dull (entry.Take l x) → (after_entry g (entry.Take l x) ahead).announced ≡ g.announced
take_announced g l (item.Up x) ahead t = absurd t
take_announced g lane.Up (item.Down x) ahead t = none_announced g.announced
take_announced g lane.Up (item.Out x) ahead t = none_announced g.announced
take_announced g lane.Up (item.Back x) ahead t = none_announced g.announced
take_announced g lane.Up (item.Ask x) ahead t = none_announced g.announced
take_announced g lane.Up (item.Tell x) ahead t = none_announced g.announced
take_announced g lane.Down x ahead t = refl
take_announced g (lane.UpOn queue) x ahead t = refl
take_announced g lane.Out x ahead t = refl
take_announced g lane.Back x ahead t = refl
take_announced g (lane.Ask i) x ahead t = refl
take_announced g (lane.Tell i) x ahead t = refl

dull_one : (g : SoFar) (e : Entry) (ahead : Option Entry) → Dull e → (after_entry g e ahead).announced ≡ g.announced
dull_one g (entry.Take l x) ahead t = take_announced g l x ahead t
dull_one g (entry.Put l x) ahead t = lane_put g l x ahead
dull_one g entry.ResetDone ahead t = absurd t
dull_one g (entry.Given i) ahead t = refl
dull_one g (entry.Idle x) ahead t = refl
dull_one g (entry.Bind k a n) ahead t = refl
dull_one g (entry.Unbind k) ahead t = refl
dull_one g entry.UnbindAll ahead t = refl
dull_one g (entry.Run a tag) ahead t = refl
dull_one g entry.HostUp ahead t = refl
dull_one g (entry.Ready a k) ahead t = refl
dull_one g (entry.Lost a k) ahead t = refl
dull_one g (entry.Accept n a s) ahead t = refl
dull_one g (entry.RefuseSubmit n cause) ahead t = refl
dull_one g (entry.Refuse c cause) ahead t = refl
dull_one g (entry.Answer n how) ahead t = refl
dull_one g (entry.AbortEnd n how) ahead t = refl
dull_one g (entry.TargetEnd a how) ahead t = refl

pub dull_announced : (t : List Entry) (g : Seen) → EachEntry Dull t → (state_ahead seen_next g t []).so_far.announced ≡ g.so_far.announced
dull_announced [] g a = refl
dull_announced (e ∷ t) g a = dull_announced t (seen_next g e (next_own e (t ++ []))) a.1 ∙ dull_one g.so_far e (next_own e (t ++ [])) a.0

page_one : (g : Paged) (e : Entry) → Dull e → (paged_next g e).pages ≡ g.pages
page_one g (entry.Take l (item.Up x)) t = absurd t
page_one g (entry.Take l (item.Down x)) t = refl
page_one g (entry.Take l (item.Out x)) t = refl
page_one g (entry.Take l (item.Back x)) t = refl
page_one g (entry.Take l (item.Ask x)) t = refl
page_one g (entry.Take l (item.Tell x)) t = refl
page_one g (entry.Put l x) t = refl
page_one g entry.ResetDone t = absurd t
page_one g (entry.Given i) t = refl
page_one g (entry.Idle x) t = refl
page_one g (entry.Bind k a n) t = refl
page_one g (entry.Unbind k) t = refl
page_one g entry.UnbindAll t = refl
page_one g (entry.Run a tag) t = refl
page_one g entry.HostUp t = refl
page_one g (entry.Ready a k) t = refl
page_one g (entry.Lost a k) t = refl
page_one g (entry.Accept n a s) t = refl
page_one g (entry.RefuseSubmit n cause) t = refl
page_one g (entry.Refuse c cause) t = refl
page_one g (entry.Answer n how) t = refl
page_one g (entry.AbortEnd n how) t = refl
page_one g (entry.TargetEnd a how) t = refl

pub dull_pages : (t : List Entry) (g : Paged) → EachEntry Dull t → (state_after paged_next g t).pages ≡ g.pages
dull_pages [] g a = refl
dull_pages (e ∷ t) g a = dull_pages t (paged_next g e) a.1 ∙ page_one g e a.0

pub told_dull : (t : List Entry) → EachEntry IsTold t → EachEntry Dull t
told_dull [] a = tt
told_dull (e ∷ t) a = (one e a.0, told_dull t a.1)
  where
    one : (e : Entry) → IsTold e → Dull e
    one (entry.Put l x) h = absurd h
    one (entry.Take l x) h = absurd h
    one entry.ResetDone h = absurd h
    one (entry.Given i) h = tt
    one (entry.Idle x) h = tt
    one (entry.Bind k a n) h = tt
    one (entry.Unbind k) h = tt
    one entry.UnbindAll h = tt
    one (entry.Run a tag) h = tt
    one entry.HostUp h = tt
    one (entry.Ready a k) h = tt
    one (entry.Lost a k) h = tt
    one (entry.Accept n a s) h = tt
    one (entry.RefuseSubmit n cause) h = tt
    one (entry.Refuse c cause) h = tt
    one (entry.Answer n how) h = tt
    one (entry.AbortEnd n how) h = tt
    one (entry.TargetEnd a how) h = tt

pub moved_dull : (t : List Entry) → EachEntry flights.IsTold t → EachEntry Dull t
moved_dull [] a = tt
moved_dull (e ∷ t) a = (one e a.0, moved_dull t a.1)
  where
    one : (e : Entry) → flights.IsTold e → Dull e
    one (entry.Put l x) h = absurd h
    one (entry.Take l x) h = absurd h
    one entry.ResetDone h = absurd h
    one (entry.Given i) h = tt
    one (entry.Idle x) h = tt
    one (entry.Bind k a n) h = tt
    one (entry.Unbind k) h = tt
    one entry.UnbindAll h = tt
    one (entry.Run a tag) h = tt
    one entry.HostUp h = tt
    one (entry.Ready a k) h = tt
    one (entry.Lost a k) h = tt
    one (entry.Accept n a s) h = tt
    one (entry.RefuseSubmit n cause) h = tt
    one (entry.Refuse c cause) h = tt
    one (entry.Answer n how) h = tt
    one (entry.AbortEnd n how) h = tt
    one (entry.TargetEnd a how) h = tt

pub plug_dull : (t : List Entry) → EachEntry IsPlugWord t → EachEntry Dull t
plug_dull [] a = tt
plug_dull (e ∷ t) a = (one e a.0, plug_dull t a.1)
  where
    one : (e : Entry) → IsPlugWord e → Dull e
    one (entry.Given i) h = tt
    one (entry.Refuse c cause) h = tt
    one (entry.Put l x) h = absurd h
    one (entry.Take l x) h = absurd h
    one entry.ResetDone h = absurd h
    one (entry.Idle x) h = absurd h
    one (entry.Bind k a n) h = absurd h
    one (entry.Unbind k) h = absurd h
    one entry.UnbindAll h = absurd h
    one (entry.Run a tag) h = absurd h
    one entry.HostUp h = absurd h
    one (entry.Ready a k) h = absurd h
    one (entry.Lost a k) h = absurd h
    one (entry.Accept n a s) h = absurd h
    one (entry.RefuseSubmit n cause) h = absurd h
    one (entry.Answer n how) h = absurd h
    one (entry.AbortEnd n how) h = absurd h
    one (entry.TargetEnd a how) h = absurd h

-- behind the end of a reset nothing is known
pub over_announced : (t : List Entry) (g : Seen) → (state_ahead seen_next g (t ++ entry.ResetDone ∷ []) []).so_far.announced ≡ (λ k. false)
over_announced [] g = refl
over_announced (e ∷ t) g = over_announced t (seen_next g e (next_own e ((t ++ entry.ResetDone ∷ []) ++ [])))

pub over_pages : (t : List Entry) (g : Paged) → (state_after paged_next g (t ++ entry.ResetDone ∷ [])).pages ≡ no_pages
over_pages [] g = refl
over_pages (e ∷ t) g = over_pages t (paged_next g e)

-- ---- an item is taken

abbrev pub heard : ℕ → (ℕ → Bool) → Up → (ℕ → Bool)
heard zero announced x = announced_after announced (changes_told x)
heard (suc queue) announced x = announced

heard_first : (queue : ℕ) (g : SoFar) (x : Up) (ahead : Option Entry) → (after_entry g (entry.Take (up_lane queue) (item.Up x)) ahead).announced ≡ heard queue g.announced x
heard_first zero g x ahead = refl
heard_first (suc queue) g x ahead = refl

pub taken_announced : (queue : ℕ) (x : Up) (t : List Entry) (g : Seen) → EachEntry Dull t → (state_ahead seen_next g (entry.Take (up_lane queue) (item.Up x) ∷ t) []).so_far.announced ≡ heard queue g.so_far.announced x
taken_announced queue x t g a = dull_announced t (seen_next g (entry.Take (up_lane queue) (item.Up x)) (next_own (entry.Take (up_lane queue) (item.Up x)) (t ++ []))) a ∙ heard_first queue g.so_far x (next_own (entry.Take (up_lane queue) (item.Up x)) (t ++ []))

pub taken_pages : (queue : ℕ) (x : Up) (t : List Entry) (g : Paged) → EachEntry Dull t → (state_after paged_next g (entry.Take (up_lane queue) (item.Up x) ∷ t)).pages ≡ pages_taken g.pages x
taken_pages queue x t g a = dull_pages t (paged_next g (entry.Take (up_lane queue) (item.Up x))) a

-- ---- replies with a page

-- a device page comes in a reply to a configuration request
pub config_of : (frame page : List ℕ) → is_device_page frame page ≡ true → function_in frame ≡ 4
unfolding config_reply_layout
config_of frame page e = by_parts (first_fault config_reply_layout frame) refl e
  where
    none_found : (b : Bool) (o : Option Rattle.mpi_layout.specs.Rows.RowShape) (n m : ℕ) → (if b then Some (Rattle.mpi_layout.specs.declared.fault.Fault.TheVariants.Short n m) else option_map (λ (r : Rattle.mpi_layout.specs.Rows.RowShape). Rattle.mpi_layout.specs.declared.fault.Fault.TheVariants.Field r.at) o) ≡ None → o ≡ None
    none_found true o n m z = absurd (cc)
    none_found false None n m z = refl
    none_found false (Some x) n m z = absurd (cc)

    by_parts : (o : Option Rattle.mpi_layout.specs.declared.fault.Fault.Fault) → first_fault config_reply_layout frame ≡ o → (is_none (first_fault config_reply_layout frame) && is_none (first_fault device_page0_layout page)) ≡ true → function_in frame ≡ 4
    by_parts None z e =
        let q = none_found (nat_lt (length frame) 24) (find (breaks frame) config_reply_layout.rows) 24 (length frame) z in
        let r = obeyed_row config_reply_layout.rows frame 3 (get_or config_reply_layout.rows 3 (Rattle.mpi_layout.specs.Rows.number 0 1 [] Rattle.mpi_layout.specs.declared.row.Rule.TheVariants.Any)) q (omega arith) in
        eqb-true (function_in frame) 4 r
    by_parts (Some x) z e = let y : is_none (first_fault config_reply_layout frame) ≡ false = ap is_none z in not_both (is_none (first_fault config_reply_layout frame)) y (first (is_none (first_fault config_reply_layout frame)) (is_none (first_fault device_page0_layout page)) e)
      where
        first : (a b : Bool) → (a && b) ≡ true → a ≡ true
        first true b e = refl
        first false b e = absurd (cc)

-- there is none without bytes
pub no_page : (frame : List ℕ) → is_device_page frame [] ≡ false
unfolding device_page0_layout
no_page frame = by_first (is_none (first_fault config_reply_layout frame))
  where
    by_first : (b : Bool) → (b && false) ≡ false
    by_first true = refl
    by_first false = refl

pub status_given : replies.reply_status (reply_frame (reply.Config 1 0x12 IOC_STATUS_SUCCESS)) ≡ IOC_STATUS_SUCCESS
unfolding field config_reply_layout config_reply_values
status_given = refl

pub status_refused : (replies.reply_status (reply_frame (reply.Config 1 0x12 IOC_STATUS_CONFIG_INVALID_PAGE)) == IOC_STATUS_SUCCESS) ≡ false
unfolding field config_reply_layout config_reply_values
status_refused = refl

-- ---- the one change of an event

abbrev pub change_of : List ℕ → Bool → Change
change_of frame added = record { handle = field frame 0x28 2; status = if added then 1 else 2 }

topology_changes : (context handle expander phys phy : ℕ) (added : Bool) → changes_in (reply_frame (reply.Topology context handle expander phys phy added)) ≡ change_of (reply_frame (reply.Topology context handle expander phys phy added)) added ∷ []
unfolding event_reply_layout event_reply_values topology_layout topology_values topology_entry_layout topology_entry_values field changes_from
topology_changes context handle expander phys phy true = refl
topology_changes context handle expander phys phy false = refl

pub changes_are : (frame : List ℕ) (added : Bool) → frame ≡ event_like frame added → changes_in frame ≡ change_of frame added ∷ []
changes_are frame added e = subst (λ x. changes_in x ≡ change_of x added ∷ []) (sym e) (topology_changes _ _ _ _ _ added)
