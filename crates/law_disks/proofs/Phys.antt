-- The controller's phys stay as they are, whatever it takes.
use Rattle.std.proofs.Common.{◌≡◌, ℕ, ◌&&◌, ◌||◌, ◌==◌, nat_lt, not, Bool, true, false, if◌then◌else◌, List, [], ◌∷◌, ◌++◌, length, take, slice_index, Option, Some, None, sym, subst}
use Rattle.std.specs.List.{position}
use Rattle.mpi_doorbell.specs.DoorRegisters.{is_fault, linked_up, register_written}
use Rattle.mpi_doorbell.specs.declared.effect.Effect.{Effect}
use Rattle.mpi_doorbell.specs.declared.effect.Effect.TheVariants as effect
use Rattle.mpi_rings.specs.declared.request_descriptor.PostKind.{PostKind}
use Rattle.mpi_rings.specs.declared.request_descriptor.PostKind.TheVariants as post
use Rattle.mpt_messages.specs.Function.{function_of}
use Rattle.mpt_messages.specs.Refusal.{request_refusal_as}
use Rattle.mpt_messages.specs.declared.fault.MsgFault.{MsgFault}
use Rattle.mpt_messages.specs.declared.function.Function.{Function}
use Rattle.mpt_messages.specs.declared.function.Function.TheVariants as function
use Rattle.mpt_messages.specs.declared.function.Kind.TheVariants as kind
use Rattle.mpt_wire.specs.Messages.Fields.{controlled_handle_in, kind_in, smid_in}
use Rattle.mpt_trace.specs.declared.item.Back.{Back}
use Rattle.mpt_trace.specs.declared.item.Back.TheVariants as back
use Rattle.mpt_trace.specs.declared.item.Down.{Down}
use Rattle.mpt_trace.specs.declared.item.Down.TheVariants as down
use Rattle.mpt_trace.specs.declared.item.Out.TheVariants as out
use Rattle.mpt_rules.specs.declared.at_fabric.AtFabric.{AtFabric}
use Rattle.mpt_rules.specs.declared.at_fabric.AtFabric.TheVariants as at
use Rattle.scsi_disk.specs.declared.scsi_result.ScsiResult.{ScsiResult}
use Rattle.mpt_rules.specs.declared.binding.Binding.{Binding}
use Rattle.mpt_rules.specs.declared.binding.Binding.TheVariants as binding
use Rattle.mpt_rules.specs.declared.binding.Waiting.{Waiting}
use Rattle.mpt_rules.specs.declared.post.Post.{Post}
use Rattle.mpt_rules.specs.declared.said.Said.TheVariants as said
use Rattle.mpt_rules.specs.declared.status.TheConstants.{IOC_STATUS_SUCCESS}
use Rattle.mpt_rules.specs.Outcome.{Happening}
use Rattle.mpt_rules.specs.Ioc.Back as news
use Rattle.mpt_rules.specs.Ioc.Bindings as bind
use Rattle.mpt_rules.specs.Ioc.Commands as commands
use Rattle.mpt_rules.specs.Ioc.Parts.{Ioc}
use Rattle.mpt_rules.specs.Ioc.Posts as posts
use Rattle.mpt_rules.specs.Ioc.Registers as registers
use Rattle.mpt_rules.specs.Ioc.Replies as say
use Rattle.mpt_rules.specs.Ioc.Requests as ask
use Rattle.mpt_rules.specs.Ioc.Resets as resets
use Rattle.mpt_rules.specs.Ioc.Steps.{works_on}
use Rattle.mpt_rules.specs.Ioc.Tables as table
use Rattle.mpt_rules.specs.Ioc.Takes.{takes_down}
use Rattle.law_flights.proofs.WorkLeaves.{AbortEnds, AbortSends, Acks, Dropped, Enables, EndsPlainly, Notifies, PageEnds, PageGiven, Refuses, RemovalEnds, Removes, ResetEnds, ResetHolds, ResetSends, ScsiEnds, ScsiSends, Stops, Strays, TaskFails, Works, works_leaf}

module _ (phys : List ℕ) where
  abbrev HasPhys : Ioc → Type 0
  HasPhys ioc = ioc.phys ≡ phys

  with_binding : (ioc : Ioc) (handle : ℕ) (b : Binding) → HasPhys ioc → HasPhys (table.with_binding ioc handle b)
  with_binding ioc handle b z = z

  if_so : (c : Bool) (x y : Ioc) → HasPhys x → HasPhys y → HasPhys (if c then x else y)
  if_so true x y s t = s
  if_so false x y s t = t

  if_either : (c : Bool) (x y : Happening Ioc) → HasPhys x.part → HasPhys y.part → HasPhys (if c then x else y).part
  if_either true x y s t = s
  if_either false x y s t = t

  to : (o q : Happening Ioc) → o ≡ q → HasPhys q.part → HasPhys o.part
  to o q e z = subst (λ (x : Happening Ioc). HasPhys x.part) (sym e) z

  -- ---- what calls share

  releases : (ioc : Ioc) (handle : ℕ) → HasPhys ioc → HasPhys (commands.releases ioc handle)
  releases ioc handle z = if_so (table.has_commands ioc handle) ioc (commands.answers_held ioc handle) z z

  changes : (ioc : Ioc) (handle expander phy : ℕ) (added : Bool) → HasPhys ioc → HasPhys (bind.changes ioc handle expander phy added)
  changes ioc handle expander phy added z = if_so ioc.through (bind.tells_change ioc handle expander phy added) ioc z z

  binds_to : (ioc : Ioc) (disk : Waiting) (o : Option ℕ) → HasPhys ioc → HasPhys (bind.binds_to ioc disk o).part
  binds_to ioc disk None z = z
  binds_to ioc disk (Some handle) z = changes (table.with_binding ioc handle (binding.Present disk.address disk.plug disk.expander disk.phy)) handle disk.expander disk.phy true (with_binding ioc handle (binding.Present disk.address disk.plug disk.expander disk.phy) z)

  binds_first : (ioc : Ioc) (ds : List Waiting) → HasPhys ioc → HasPhys (bind.binds_first ioc ds).part
  binds_first ioc [] z = z
  binds_first ioc (d ∷ ds) z =
      binds_to (record ioc { waiting = ds }) d (table.least_unbound (record ioc { waiting = ds })) z

  loses : (ioc : Ioc) (handle : ℕ) (b : Binding) → HasPhys ioc → HasPhys (bind.ioc_loses ioc handle b)
  loses ioc handle binding.Unbound z = z
  loses ioc handle (binding.Present address plug expander phy) z = changes (table.with_binding ioc handle (binding.Gone address)) handle expander phy false (with_binding ioc handle (binding.Gone address) z)
  loses ioc handle (binding.Gone address) z = z

  unplugs : (ioc : Ioc) (address : ℕ) (o : Option ℕ) → HasPhys ioc → HasPhys (bind.ioc_unplugs_from ioc address o)
  unplugs ioc address None z = z
  unplugs ioc address (Some handle) z = loses ioc handle (table.binding_of ioc handle) z

  -- ---- news of the fabric

  result : (ioc : Ioc) (tag : ℕ) (r : ScsiResult) (o : Option AtFabric) → HasPhys ioc → HasPhys (news.takes_result ioc tag r o)
  result ioc tag r None z = z
  result ioc tag r (Some (at.Command handle queue len written)) z = releases (say.says_on (table.without_request ioc tag) queue (commands.result_said tag handle len (commands.moved_by written r) r ∷ [])) handle z
  result ioc tag r (Some (at.Abort handle)) z = z
  result ioc tag r (Some (at.TargetReset handle)) z = z
  result ioc tag r (Some at.PortEnable) z = z

  ended : (ioc : Ioc) (tag status : ℕ) (o : Option AtFabric) → HasPhys ioc → HasPhys (news.takes_end ioc tag status o)
  ended ioc tag status None z = z
  ended ioc tag status (Some (at.Command handle queue len written)) z = releases (say.says_on (table.without_request ioc tag) queue (say.scsi_ended tag handle status ∷ [])) handle z
  ended ioc tag status (Some (at.Abort handle)) z = z
  ended ioc tag status (Some (at.TargetReset handle)) z = z
  ended ioc tag status (Some at.PortEnable) z = z

  aborted : (ioc : Ioc) (smid : ℕ) (seen : Bool) (o : Option AtFabric) → HasPhys ioc → HasPhys (news.takes_aborted ioc smid seen o)
  aborted ioc smid seen None z = z
  aborted ioc smid seen (Some (at.Command handle queue len written)) z = z
  aborted ioc smid seen (Some (at.Abort handle)) z = z
  aborted ioc smid seen (Some (at.TargetReset handle)) z = z
  aborted ioc smid seen (Some at.PortEnable) z = z

  cleared : (ioc : Ioc) (smid count : ℕ) (o : Option AtFabric) → HasPhys ioc → HasPhys (news.takes_cleared ioc smid count o)
  cleared ioc smid count None z = z
  cleared ioc smid count (Some (at.Command handle queue len written)) z = z
  cleared ioc smid count (Some (at.Abort handle)) z = z
  cleared ioc smid count (Some (at.TargetReset handle)) z = z
  cleared ioc smid count (Some at.PortEnable) z = z

  discovered : (ioc : Ioc) (o : Option ℕ) → HasPhys ioc → HasPhys (news.takes_discovered ioc o)
  discovered ioc None z = z
  discovered ioc (Some place) z = z

  heard : (ioc : Ioc) (x : Back) → HasPhys ioc → HasPhys (news.hears ioc x).part
  heard ioc (back.Result tag r) z = result ioc tag r (table.request_at ioc tag) z
  heard ioc (back.Gone tag) z = ended ioc tag _ (table.request_at ioc tag) z
  heard ioc (back.Terminated tag) z = ended ioc tag _ (table.request_at ioc tag) z
  heard ioc (back.Aborted smid seen) z = aborted ioc smid seen (table.request_at ioc smid) z
  heard ioc (back.Cleared smid count) z = cleared ioc smid count (table.request_at ioc smid) z
  heard ioc (back.Plugged address plug expander phy) z =
      let disk : Waiting = record { address = address; plug = plug; expander = expander; phy = phy } in
      if_either (bind.is_known ioc address || not (nat_lt expander (length ioc.phys))) (table.silently ioc) (bind.binds ioc disk) z (binds_to ioc disk (table.least_unbound ioc) z)
  heard ioc (back.Unplugged address plug expander phy) z = unplugs ioc address (table.handle_of ioc address) z
  heard ioc back.Discovered z = discovered ioc (position news.is_port_enable ioc.requests) z
  heard ioc (back.Linked generation) z = if_so (table.is_reset ioc.door.state && generation == ioc.generation) (record ioc { door = linked_up ioc.door }) ioc z z
  heard ioc back.Calm z = if_so (is_fault ioc.door.state) ioc (say.says_on ioc 0 (said.Calm ∷ [])) z z

  pub back_phys : (ioc : Ioc) (x : Back) → HasPhys ioc → HasPhys (news.takes_back ioc x).part
  back_phys ioc x z = if_either (news.is_heard_in ioc.door.state x) (news.hears ioc x) (table.silently ioc) (heard ioc x z) z

  -- ---- work

  worked : (ioc : Ioc) (q : Post) (o : Happening Ioc) → Works ioc q o → HasPhys ioc → HasPhys o.part
  worked ioc q o (Dropped k e) z = to o _ e z
  worked ioc q o (Refuses k f kind r e) z = to o _ e z
  worked ioc q o (ScsiEnds status k c e) z = to o _ e z
  worked ioc q o (ScsiSends address plug expander phy k c b e) z = to o _ e z
  worked ioc q o (Stops stop k f e) z = to o _ e z
  worked ioc q o (AbortSends k f b e) z = to o _ e z
  worked ioc q o (AbortEnds k f b e) z = to o _ e z
  worked ioc q o (ResetSends address plug expander phy k b e) z = to o _ e z
  worked ioc q o (ResetHolds address k b c e) z = to o _ e z
  worked ioc q o (ResetEnds status k e) z = to o _ e z
  worked ioc q o (TaskFails k e) z = to o _ e z
  worked ioc q o (PageEnds status k e) z = to o _ e z
  worked ioc q o (PageGiven page k w e) z = to o _ e z
  worked ioc q o (Enables k b e) z = to o _ e z
  worked ioc q o (Notifies k e) z = to o _ e z
  worked ioc q o (Acks k b e) z = to o _ e z
  worked ioc q o (EndsPlainly f status k e) z = to o _ e z
  worked ioc q o (RemovalEnds status k e) z = to o _ e z
  worked ioc q o (Removes address k f b c e) z =
      let unbound : Ioc = table.with_binding ioc (controlled_handle_in q.frame) binding.Unbound in
      to o _ e (binds_first (ask.ioc_ends_removal unbound q IOC_STATUS_SUCCESS) ioc.waiting (with_binding ioc (controlled_handle_in q.frame) binding.Unbound z))
  worked ioc q o (Strays k r e) z = to o _ e z

  pub post_phys : (ioc : Ioc) (q : Post) → HasPhys ioc → HasPhys (works_on ioc q).part
  post_phys ioc q z = worked ioc q (works_on ioc q) (works_leaf ioc q) z

  -- ---- what the host sends

  served : (ioc : Ioc) (message : List ℕ) (f : Option Function) → HasPhys ioc → HasPhys (registers.serves_handshake ioc message f)
  served ioc message (Some function.IocInit) z = let status = registers.init_status ioc message in if_so (status == IOC_STATUS_SUCCESS) (registers.operates (registers.ends_init ioc status) message) (registers.ends_init ioc status) z z
  served ioc message None z = z
  served ioc message (Some function.ScsiIo) z = z
  served ioc message (Some function.TaskManagement) z = z
  served ioc message (Some function.IocFacts) z = z
  served ioc message (Some function.PortFacts) z = z
  served ioc message (Some function.Config) z = z
  served ioc message (Some function.PortEnable) z = z
  served ioc message (Some function.EventNotification) z = z
  served ioc message (Some function.EventAck) z = z
  served ioc message (Some function.UnitControl) z = z

  shaken : (ioc : Ioc) (message : List ℕ) (r : Option MsgFault) → HasPhys ioc → HasPhys (registers.handshakes_if ioc message r)
  shaken ioc message (Some refusal) z = z
  shaken ioc message None z = served ioc message (function_of (slice_index message 3)) z

  forgotten : (ioc : Ioc) → HasPhys ioc → HasPhys (resets.forgets ioc)
  forgotten ioc z = z

  done : (ioc : Ioc) (e : Effect) → HasPhys ioc → HasPhys (registers.after_effect ioc e).part
  done ioc effect.None z = z
  done ioc (effect.Asked count bytes) z = shaken ioc (take count bytes) (request_refusal_as kind.Handshake (take count bytes) (function_of (slice_index (take count bytes) 3))) z
  done ioc effect.UnitReset z = forgotten ioc z
  done ioc effect.AdapterReset z = forgotten ioc z
  done ioc (effect.Fault code) z = z

  posted : (ioc : Ioc) (q : Post) (o : Option PostKind) → HasPhys ioc → HasPhys (posts.posts_if ioc q o)
  posted ioc q None z = z
  posted ioc q (Some k) z = by_tests (posts.is_in_class (posts.class_of k) (smid_in q.descriptor)) (table.is_unanswered ioc (smid_in q.descriptor)) k
    where
      by_tests : (b u : Bool) (k : PostKind) → HasPhys (if not b then table.faults ioc posts.bad_post else if u then table.faults ioc posts.identifier_in_use else posts.with_post_queued ioc q k)
      by_tests false u k = z
      by_tests true true k = z
      by_tests true false post.ScsiIo = z
      by_tests true false post.HighPriority = z
      by_tests true false post.Default = z

  pub down_phys : (ioc : Ioc) (x : Down) → HasPhys ioc → HasPhys (takes_down ioc x).part
  down_phys ioc (down.Write reg value) z = done (record ioc { door = (register_written ioc.door reg value).registers }) (register_written ioc.door reg value).effect z
  down_phys ioc (down.Read reg) z = z
  down_phys ioc (down.Post d frame payload) z = if_so (table.is_operational ioc.door.state) (posts.ioc_takes_post ioc d frame payload) ioc (posted ioc (record { descriptor = d; frame = frame; payload = payload }) (kind_in d) z) z
  down_phys ioc (down.Return address index) z =
      if_so (table.is_operational ioc.door.state) (posts.ioc_takes_return ioc address) ioc
      (if_so (not (posts.is_frame_address address) || posts.frame_here ioc (posts.frame_near address)) (table.faults ioc posts.bad_return) (record ioc { ring = ioc.ring ++ posts.frame_near address ∷ [] }) z z) z
  down_phys ioc down.Stop z = if_so (is_fault ioc.door.state) ioc (say.with_out_item ioc out.Stop) z z
