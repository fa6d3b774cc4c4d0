-- What is asked of the host, post by post.
use Rattle.std.proofs.Common.{◌≡◌, ℕ, ◌+◌, ◌-◌, ◌%◌, ◌<◌, Bool, true, false, List, [], length, mod-lt, Option, Some, None, is_some, option_map, refl, ap, sym, subst, arith}
use Rattle.std.specs.FinMap as finmap
use Rattle.std.specs.FinSet as finset
use Rattle.std.specs.List.{position}
use Rattle.std.proofs.lemmas.List.Quantifiers.{position-Some}
use Rattle.scsi_disk.specs.declared.command.Command.{Command}
use Rattle.smid_pool.specs.Pool.{Open, is_open}
use Rattle.smid_pool.specs.declared.class.Class.TheVariants as class
use Rattle.removal.specs.Handles.{IsHandle, ready_handle}
use Rattle.removal.specs.Phases.{is_ready_at}
use Rattle.removal.specs.declared.phase.Phase.{Phase}
use Rattle.removal.specs.declared.phase.Phase.TheVariants as phase
use Rattle.mpi_rings.specs.declared.request_descriptor.PostKind.TheVariants as post
use Rattle.mpt_messages.specs.declared.host_ask.HostAsk.TheVariants as ask
use Rattle.mpt_wire.specs.Machine.State.{OpenRequest}
use Rattle.mpt_wire.specs.Messages.Fields.{abort_task, post_descriptor, smid_in, target_reset}
use Rattle.mpt_rules.specs.declared.request.Request.TheVariants as request
use Rattle.mpt_rules.specs.Host.Inputs as inputs
use Rattle.mpt_rules.specs.Host.Parts.{Cmd, Host, host_queue_count}
use Rattle.mpt_rules.specs.Host.Posts as asks
use Rattle.mpt_rules.specs.World.State.{World}
use Rattle.mpt_rules.proofs.HostCalls.{aborts_by, resets_target_by}
use Rattle.law_facts.specs.Facts.{Facts}
use Rattle.law_facts.specs.History.{History}
use Rattle.law_facts.specs.Messages.{CommandPost}
use Rattle.law_facts.specs.Words.{slot}
use Rattle.law_flights.proofs.Descriptors.{smid_posted}
use Rattle.law_flights.proofs.Least.{IsLeast}
use Rattle.law_messages.specs.Numbers.{AbortsAreAccepted}
use Rattle.law_messages.proofs.HostWalk as walk
use Rattle.law_messages.proofs.HostWalk.{Walk}
use Rattle.law_messages.proofs.Keys.{get_inserted}
use Rattle.law_messages.proofs.Known.{classed, no_command, recorded}
use Rattle.law_messages.proofs.PostFields.{handle_of_abort, handle_of_reset}

pub ready_is_handle : (phases : List Phase) (address handle : ℕ) → length phases ≡ 64 → ready_handle phases address ≡ Some handle → IsHandle handle
ready_is_handle phases address handle l e = by_place (position (is_ready_at address) phases) refl e
  where
    by_place : (o : Option ℕ) → position (is_ready_at address) phases ≡ o → option_map (λ place. 0x0009 + place) o ≡ Some handle → IsHandle handle
    by_place None p e = absurd (cc)
    by_place (Some place) p e = let q = (position-Some (is_ready_at address) phases place phase.Absent p).0 in let z : 0x0009 + place ≡ handle = cc in (omega (arith, q, l, z), omega (arith, q, l, z))

module _ (w : World) (h : History) (f : Facts w h) (k : History) where
  abbrev Walks : Host → Type 0
  Walks x = walk.Walks w k 0 None x

  pub not_open : (n : ℕ) → finset.contains w.host.accepted n ≡ false → finmap.get w.host.cmds n ≡ None
  not_open n e = by_cmd (finmap.get w.host.cmds n) refl
    where
      by_cmd : (o : Option Cmd) → finmap.get w.host.cmds n ≡ o → o ≡ None
      by_cmd None g = refl
      by_cmd (Some c) g = let a = (f.disks.numbers n).accepted (ap is_some g) in absurd (cc)

  no_abort : AbortsAreAccepted w → (n : ℕ) → finset.contains w.host.accepted n ≡ false → (s task : ℕ) → slot w.host s ≡ Open (request.Abort n task) → ⊥
  no_abort a n e s task g = let b : is_some (finmap.get w.host.aborts n) ≡ true = ap is_some (recorded w h f s (request.Abort n task) g).1 in let c = a n b in cc

  -- ---- submissions

  pub submitted : (n address handle s : ℕ) (command : Command) → AbortsAreAccepted w → finset.contains w.host.accepted n ≡ false → IsLeast class.ScsiIo w.host.pool s → (r : OpenRequest) → finmap.get k.machine.requests n ≡ Some r → r.command ≡ command → walk.Walks w k 0 (Some n) w.host → walk.Walks w k 0 (Some n) (inputs.with_accepted w.host n address command handle s)
  submitted n address handle s command aborts e i r g c a =
      let c0 : Cmd = record { smid = s; handle = handle } in
      let b = walk.names w k 0 (Some n) w.host n c0 refl (no_command w h f n (not_open n e)) (no_abort aborts n e) a in
      let q = a.queues in let some = f.flights.sizes.some_queue in let few = f.flights.sizes.few_queues in let in_class = i.inside in
      let m : (s - 1) % host_queue_count w.host < host_queue_count w.host = mod-lt (s - 1) (let z : 0 < host_queue_count w.host = omega (arith, some) in z) in
      let d = smid_posted post.ScsiIo ((s - 1) % host_queue_count w.host) s handle (omega (arith, m, few)) (omega (arith, in_class)) in
      walk.posts w k 0 (Some n) (record w.host { cmds = finmap.insert w.host.cmds n c0 }) s (post_descriptor post.ScsiIo ((s - 1) % host_queue_count w.host) s handle) (request.Command n) (asks.frame_asked (asks.command_asked s handle command)) command.payload (omega (arith, in_class)) (omega (arith, in_class)) d (ap is_open i.free)
      (subst (λ o. CommandPost (walk.With w k 0 (Some n) w.host.pool (finmap.insert w.host.cmds n c0) w.host.indices) (record { descriptor = post_descriptor post.ScsiIo ((s - 1) % host_queue_count w.host) s handle; frame = asks.frame_asked (asks.command_asked s handle command); payload = command.payload }) o (finmap.get k.machine.requests n)) (sym (get_inserted w.host.cmds n c0))
      (subst (λ o. CommandPost (walk.With w k 0 (Some n) w.host.pool (finmap.insert w.host.cmds n c0) w.host.indices) (record { descriptor = post_descriptor post.ScsiIo ((s - 1) % host_queue_count w.host) s handle; frame = asks.frame_asked (asks.command_asked s handle command); payload = command.payload }) (Some c0) o) (sym g)
      (refl, ap (λ x. asks.frame_asked (asks.command_asked s handle x)) (sym c), ap (λ (x : Command). x.payload) (sym c))))
      b

  -- ---- aborts

  aborted : (n s : ℕ) (c : Cmd) → finmap.get w.host.cmds n ≡ Some c → IsLeast class.High w.host.pool s → Walks w.host → Walks (inputs.with_abort_asked w.host n c s)
  aborted n s c e i a =
      let task = classed w h f c.smid (request.Command n) ((f.flights.numbers n).command c e) in
      let in_class = i.inside in
      let d = smid_posted post.HighPriority 0 s 0 (omega arith) (omega (arith, in_class)) in
      let t = handle_of_abort c.handle c.smid (f.limits.cmds n c e) (omega (arith, task)) (omega (arith, task)) in
      walk.posts w k 0 None w.host s (post_descriptor post.HighPriority 0 s 0) (request.Abort n c.smid) (asks.frame_asked (ask.Task c.handle abort_task c.smid)) [] (omega (arith, in_class)) (omega (arith, in_class)) d (ap is_open i.free)
      ((ap (λ x. post_descriptor post.HighPriority 0 x 0) (sym d), ap (λ x. asks.frame_asked (ask.Task x abort_task c.smid)) (sym t), refl), subst (Rattle.law_facts.specs.Messages.HasHandleOf (Rattle.mpt_wire.specs.Messages.Fields.dev_handle_in (asks.frame_asked (ask.Task c.handle abort_task c.smid)))) (sym e) t) a

  pub aborts : (n : ℕ) (up : Bool) (c : Option Cmd) (there o : Option ℕ) → finmap.get w.host.cmds n ≡ c → ((s : ℕ) → o ≡ Some s → IsLeast class.High w.host.pool s) → Walks w.host → Walks (aborts_by w.host n up c there o).part
  aborts n false c there o e l a = a
  aborts n true None there o e l a = a
  aborts n true (Some c) (Some x) o e l a = a
  aborts n true (Some c) None None e l a = a
  aborts n true (Some c) None (Some s) e l a = aborted n s c e (l s refl) a

  -- ---- target resets

  target : (address handle s : ℕ) → ready_handle w.host.phases address ≡ Some handle → IsLeast class.High w.host.pool s → Walks w.host → Walks (asks.posts_task w.host s (request.TargetReset address) handle target_reset 0)
  target address handle s e i a =
      let in_class = i.inside in
      let d = smid_posted post.HighPriority 0 s 0 (omega arith) (omega (arith, in_class)) in
      let t = handle_of_reset handle (ready_is_handle w.host.phases address handle f.flights.sizes.phases e) in
      walk.posts w k 0 None w.host s (post_descriptor post.HighPriority 0 s 0) (request.TargetReset address) (asks.frame_asked (ask.Task handle target_reset 0)) [] (omega (arith, in_class)) (omega (arith, in_class)) d (ap is_open i.free)
      (ap (λ x. post_descriptor post.HighPriority 0 x 0) (sym d), ap (λ x. asks.frame_asked (ask.Task x target_reset 0)) (sym t), refl) a

  pub targets : (address : ℕ) (up : Bool) (handle o : Option ℕ) → ready_handle w.host.phases address ≡ handle → ((s : ℕ) → o ≡ Some s → IsLeast class.High w.host.pool s) → Walks w.host → Walks (resets_target_by w.host address up handle o).part
  targets address false handle o e l a = a
  targets address true None o e l a = a
  targets address true (Some x) None e l a = a
  targets address true (Some x) (Some s) e l a = target address x s e (l s refl) a
