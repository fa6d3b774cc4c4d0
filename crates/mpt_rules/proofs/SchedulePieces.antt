-- A schedule is computed in pieces: what a short report shows of each, and the world where the next one begins.
use Rattle.std.proofs.Common.{◌≡◌, ℕ, List, [], ◌∷◌, ◌++◌, refl, ap, sym, ◌∙◌, append_assoc, replicate, true}
use Rattle.std.specs.List.{flat_map, range_with_len}
use Rattle.std.proofs.lemmas.List.Elements.{filter-append}
use Rattle.std.specs.Prelude.{◌+◌, ◌-◌, filter}
use Rattle.mpi_doorbell.specs.DoorRegisters.{DoorRegisters, new_registers}
use Rattle.mpi_doorbell.specs.declared.state.IocState.TheVariants as state
use Rattle.mpt_trace.specs.Entries.{is_in_show}
use Rattle.mpt_trace.specs.declared.choice.Choice.{Choice}
use Rattle.mpt_trace.specs.declared.choice.Choice.TheVariants as choice
use Rattle.mpt_trace.specs.declared.entry.Entry.{Entry}
use Rattle.mpt_rules.specs.declared.host_frame.HostFrame.TheVariants as frame
use Rattle.mpt_rules.specs.Host.Parts.{Host}
use Rattle.mpt_rules.specs.Host.Replies.{takes_entry}
use Rattle.mpt_rules.specs.Host.Returns.{with_frame_back}
use Rattle.std.specs.FinSet as set
use Rattle.std.specs.FinMap as map
use Rattle.std.specs.FinMap.{empty_of_len, entries-from_sorted, get-insert, get-remove, get_tied, len-entries, nat_cmp-IsAntisymmetric, same_map}
use Rattle.std.specs.Cmp.{nat_cmp_total}
use Rattle.std.proofs.Common.{Ordering, Less, Equal, Greater}
use Rattle.std.specs.Ordering.{nat_cmp, eq_by_cmp, is_eq}
use Rattle.std.proofs.Common.{None, Some, length, cond}
use Rattle.mpt_messages.specs.Function.{byte_of}
use Rattle.mpt_messages.specs.declared.function.Function.TheVariants as function
use Rattle.mpt_wire.specs.Messages.Fields.{acked_context_in, post_descriptor, remove_device, topology_change_list}
use Rattle.mpt_rules.specs.declared.post.Post.{Post}
use Rattle.mpt_rules.specs.declared.status.TheConstants.{IOC_STATUS_SUCCESS}
use Rattle.mpt_rules.specs.Ioc.Parts.{Ioc}
use Rattle.mpt_rules.specs.Ioc.Replies.{framed}
use Rattle.mpt_rules.specs.Ioc.Requests.{ends_plainly, is_of_event, works_ack}
use Rattle.mpt_rules.specs.Ioc.Tables.{in_state}
use Rattle.mpi_rings.specs.declared.request_descriptor.PostKind.TheVariants as kind
use Rattle.mpt_messages.specs.declared.host_ask.HostAsk.{HostAsk}
use Rattle.mpt_messages.specs.declared.host_ask.HostAsk.TheVariants as ask
use Rattle.mpt_messages.specs.declared.ioc_reply.IocReply.TheVariants as reply
use Rattle.mpt_trace.specs.Command.{command_named}
use Rattle.mpt_trace.specs.declared.command_form.CommandForm.{CommandForm}
use Rattle.removal.specs.declared.phase.Phase.{Phase}
use Rattle.smid_pool.specs.Pool.{Slot}
use Rattle.mpt_rules.specs.declared.request.Request.{Request}
use Rattle.mpt_rules.specs.declared.said.Said.{Said}
use Rattle.mpt_rules.specs.Host.Posts.{command_asked, frame_asked}
use Rattle.mpt_rules.specs.World.State.{World}
use Rattle.mpt_rules.specs.World.Cases.{Case, Chosen, entries, happens, run, trace}
use Rattle.mpt_rules.proofs.WorldExampleParts.{shown, up_host, up_ioc}

-- from a world these cases show these entries, and leave that world
pub record Goes (w : World) (cases : List Case) (seen : List Entry) (next : World) : Type 0 where
  pub shows : shown w cases ≡ seen
  pub leaves : run w cases ≡ next

-- the entries of two lists of cases, one after the other
trace-append : (w : World) (cs ds : List Case) → trace w (cs ++ ds) ≡ trace w cs ++ trace (run w cs) ds
trace-append w [] ds = refl
trace-append w (c ∷ cs) ds =
    ap (λ es. entries w c ++ es) (trace-append (happens w c) cs ds) ∙ sym (append_assoc (entries w c) (trace (happens w c) cs) (trace (run (happens w c) cs) ds))

-- the world after two lists of cases, one after the other
run-append : (w : World) (cs ds : List Case) → run w (cs ++ ds) ≡ run (run w cs) ds
run-append w [] ds = refl
run-append w (c ∷ cs) ds = run-append (happens w c) cs ds

-- what a short report shows of two lists of cases
shown-append : (w : World) (cs ds : List Case) → shown w (cs ++ ds) ≡ shown w cs ++ shown (run w cs) ds
shown-append w cs ds = ap (filter is_in_show) (trace-append w cs ds) ∙ filter-append is_in_show (trace w cs) (trace (run w cs) ds)

-- a piece, and one that begins where it ends
pub and_then : {w v u : World} {cs ds : List Case} {es fs : List Entry} → Goes w cs es v → Goes v ds fs u → Goes w (cs ++ ds) (es ++ fs) u
and_then {w} {v} {u} {cs} {ds} {es} {fs} first second =
    record {
      shows = shown-append w cs ds ∙ (ap (λ xs. xs ++ shown (run w cs) ds) first.shows ∙ (ap (λ x. es ++ shown x ds) first.leaves ∙ ap (λ xs. es ++ xs) second.shows));
      leaves = run-append w cs ds ∙ (ap (λ x. run x ds) first.leaves ∙ second.leaves);
    }

-- ---- what a set or a map answers

-- an acknowledgement of an event that wasn't acknowledged
pub acked : (ioc : Ioc) (p : Post) → is_of_event ioc p.frame ≡ true
    → works_ack ioc p ≡ ends_plainly (record ioc { unacked = set.remove ioc.unacked (acked_context_in p.frame) }) p (byte_of function.EventAck) IOC_STATUS_SUCCESS
acked ioc p e = rw e refl

-- what was inserted under a new key is removed again
remove_at : {X : Type 0} (m : map.FinMap nat_cmp X) (k : ℕ) (v : X) (q : ℕ) → map.get m k ≡ None → (o : Ordering) → nat_cmp q k ≡ o
    → cond (is_eq o) None (cond (is_eq o) (Some v) (map.get m q)) ≡ map.get m q
remove_at m k v q none Less e = refl
remove_at m k v q none Equal e = sym none ∙ get_tied nat_cmp_total m q k e
remove_at m k v q none Greater e = refl

-- so the map is as it was
pub remove_inserted : {X : Type 0} (m : map.FinMap nat_cmp X) (k : ℕ) (v : X) → map.get m k ≡ None → map.remove (map.insert m k v) k ≡ m
remove_inserted m k v none =
    same_map nat_cmp_total nat_cmp-IsAntisymmetric (map.remove (map.insert m k v) k) m
    (λ q. get-remove nat_cmp_total (map.insert m k v) k q
    ∙ (ap (cond (eq_by_cmp nat_cmp q k) None) (get-insert nat_cmp_total m k v q) ∙ remove_at m k v q none (nat_cmp q k) refl))

-- the entries of a map without any
pub no_entries : {X : Type 0} → map.entries (map.empty {X = X} {R = nat_cmp}) ≡ []
no_entries =
    ap map.entries (sym (empty_of_len (map.from_sorted []) (len-entries (map.from_sorted []) ∙ ap length (entries-from_sorted nat_cmp [] tt))))
    ∙ entries-from_sorted nat_cmp [] tt

-- ---- worlds

-- the controller's registers once the host has taken so many replies of its only queue
abbrev pub door_after : ℕ → DoorRegisters
door_after replies = record (in_state new_registers state.Operational) { reply_post_host_index = replies }

-- all that the host had to put was put and taken: the controller has these reply frames, and knows of so many replies
abbrev pub told : World → ℕ → List ℕ → World
told w replies ring =
    record w {
      host = record w.host { out = []; frames = replicate 64 frame.Away };
      ioc = record w.ioc { door = door_after replies; ring = ring };
    }

-- the host has taken a reply that came in this reply frame on queue 0
abbrev pub took : Host → ℕ → Host
took host f = takes_entry (with_frame_back host f) 0

-- the host with these identifiers and these phases of the handles, once it has returned so many frames and taken so many replies
abbrev pub host_at : List (Slot Request) → List Phase → ℕ → ℕ → Host
host_at pool phases frames replies =
    record (up_host 1) { pool = pool; phases = phases; returned = 64 + frames; indices = replies ∷ [] }

-- the controller once it has so many frames back, and knows of so many replies
abbrev pub ioc_at : ℕ → ℕ → Ioc
ioc_at frames replies =
    record (up_ioc 1) { door = door_after replies; ring = range_with_len frames (64 - frames) ++ range_with_len 0 frames }

-- ---- posts and replies

-- a post of the internal class
abbrev pub default_post : ℕ → HostAsk → Post
default_post smid asked = record { descriptor = post_descriptor kind.Default 0 smid 0; frame = frame_asked asked; payload = [] }

-- the acknowledgement of the topology event with this context
abbrev pub ack_post : ℕ → ℕ → Post
ack_post smid context = default_post smid (ask.Ack topology_change_list context)

-- its reply
abbrev pub ack_reply : ℕ → Said
ack_reply smid = framed smid (reply.Plain (byte_of function.EventAck) IOC_STATUS_SUCCESS)

-- the reply to a remove device
abbrev pub removal_reply : ℕ → ℕ → Said
removal_reply smid handle = framed smid (reply.Removed handle remove_device IOC_STATUS_SUCCESS)

-- a post of task management
abbrev pub task_post : ℕ → ℕ → ℕ → ℕ → Post
task_post smid handle task_type task =
    record { descriptor = post_descriptor kind.HighPriority 0 smid 0; frame = frame_asked (ask.Task handle task_type task); payload = [] }

-- the post of a command for a handle, and for this reply queue
abbrev pub command_post : ℕ → ℕ → ℕ → CommandForm → Post
command_post queue smid handle form =
    record {
      descriptor = post_descriptor kind.ScsiIo queue smid handle;
      frame = frame_asked (command_asked smid handle (command_named form));
      payload = (command_named form).payload;
    }

-- ---- cases

-- these choices, so many times
abbrev pub rounds : ℕ → List Choice → List Case
rounds n choices = flat_map (λ choice. Chosen choice ∷ []) (flat_map (λ cs. cs) (replicate n choices))

-- the host puts so much, and then the controller takes it
abbrev pub tells : ℕ → List Case
tells n = rounds n (choice.HostPut ∷ []) ++ rounds n (choice.IocTake ∷ [])

-- so many replies are put on queue 0 and taken
abbrev pub answers : ℕ → List Case
answers n = rounds n (choice.IocPut ∷ choice.HostTake ∷ [])
