-- The controller's tables keep their lengths, whatever it takes.
use Rattle.std.proofs.Common.{◌≡◌, ℕ, ◌-◌, ◌||◌, ◌==◌, not, Bool, true, false, if◌then◌else◌, List, [], ◌∷◌, ◌++◌, length, map, set, take, slice_index, Option, Some, None, sym, subst, ◌∙◌, length-set}
use Rattle.std.specs.List.{filter}
use Rattle.mpi_doorbell.specs.DoorRegisters.{is_fault, register_written}
use Rattle.mpi_doorbell.specs.declared.effect.Effect.{Effect}
use Rattle.mpi_doorbell.specs.declared.effect.Effect.TheVariants as effect
use Rattle.mpi_rings.specs.declared.request_descriptor.PostKind.{PostKind}
use Rattle.mpi_rings.specs.declared.request_descriptor.PostKind.TheVariants as post
use Rattle.mpt_messages.specs.Function.{function_of}
use Rattle.mpt_messages.specs.Refusal.{request_refusal_as}
use Rattle.mpt_messages.specs.declared.fault.MsgFault.{MsgFault}
use Rattle.mpt_messages.specs.declared.function.Function.{Function}
use Rattle.mpt_messages.specs.declared.function.Function.TheVariants as function
use Rattle.mpt_messages.specs.declared.function.Kind.TheVariants as kind
use Rattle.mpt_wire.specs.Messages.Fields.{controlled_handle_in, dev_handle_in, kind_in, smid_in, task_mid_in}
use Rattle.mpt_trace.specs.declared.item.Back.{Back}
use Rattle.mpt_trace.specs.declared.item.Down.{Down}
use Rattle.mpt_trace.specs.declared.item.Down.TheVariants as down
use Rattle.mpt_trace.specs.declared.item.Out.TheVariants as out
use Rattle.mpt_rules.specs.declared.at_fabric.AtFabric.{AtFabric}
use Rattle.mpt_rules.specs.declared.binding.Binding.{Binding}
use Rattle.mpt_rules.specs.declared.binding.Binding.TheVariants as binding
use Rattle.mpt_rules.specs.declared.binding.Waiting.{Waiting}
use Rattle.mpt_rules.specs.declared.post.Post.{Post}
use Rattle.mpt_rules.specs.declared.said.Said.{Said}
use Rattle.mpt_rules.specs.declared.status.TheConstants.{IOC_STATUS_SCSI_TASK_TERMINATED, IOC_STATUS_SUCCESS}
use Rattle.mpt_rules.specs.Outcome.{Happening}
use Rattle.mpt_rules.specs.Ioc.Back.{takes_back}
use Rattle.mpt_rules.specs.Ioc.Bindings as bind
use Rattle.mpt_rules.specs.Ioc.Commands as commands
use Rattle.mpt_rules.specs.Ioc.Parts.{Ioc}
use Rattle.mpt_rules.specs.Ioc.Posts as posts
use Rattle.mpt_rules.specs.Ioc.Registers as registers
use Rattle.mpt_rules.specs.Ioc.Replies as say
use Rattle.mpt_rules.specs.Ioc.Requests as ask
use Rattle.mpt_rules.specs.Ioc.Resets as resets
use Rattle.mpt_rules.specs.Ioc.Sending.{up_sent_on}
use Rattle.mpt_rules.specs.Ioc.Steps.{works_on}
use Rattle.mpt_rules.specs.Ioc.Tables as table
use Rattle.mpt_rules.specs.Ioc.Takes.{takes_down}
use Rattle.mpt_rules.specs.Ioc.Tasks as tasks
use Rattle.law_flights.proofs.HostTurns.{length_free}
use Rattle.law_flights.proofs.IocTakes.{length_map, length_marked}
use Rattle.law_flights.proofs.Leaves.{Bound, Calmed, Done, Ended, Hears, Linked, Lost, Passed, Unawaited, Waits, back_leaf, reply_made}
use Rattle.law_flights.proofs.WorkLeaves.{AbortEnds, AbortSends, Acks, Dropped, Enables, EndsPlainly, Notifies, PageEnds, PageGiven, Refuses, RemovalEnds, Removes, ResetEnds, ResetHolds, ResetSends, ScsiEnds, ScsiSends, Stops, Strays, TaskFails, Works, works_leaf}

module _ (q : ℕ) where
  pub record IocLengths (up : List (List Said)) (requests : List (Option AtFabric)) (bindings : List Binding) : Type 0 where
    pub outboxes : length up ≡ q
    pub places : length requests ≡ 280
    pub handles : length bindings ≡ 64

  abbrev pub IocIsSized : Ioc → Type 0
  IocIsSized ioc = IocLengths ioc.up ioc.requests ioc.bindings

  -- ---- a table that is written

  says : (ioc : Ioc) (queue : ℕ) (items : List Said) → IocIsSized ioc → IocIsSized (say.says_on ioc queue items)
  says ioc queue items z = record { outboxes = length-set ioc.up queue (say.outbox_of ioc queue ++ items) ∙ z.outboxes; places = z.places; handles = z.handles }

  with_request : (ioc : Ioc) (smid : ℕ) (r : Option AtFabric) → IocIsSized ioc → IocIsSized (record ioc { requests = set ioc.requests (smid - 1) r })
  with_request ioc smid r z = record { outboxes = z.outboxes; places = length-set ioc.requests (smid - 1) r ∙ z.places; handles = z.handles }

  with_binding : (ioc : Ioc) (handle : ℕ) (b : Binding) → IocIsSized ioc → IocIsSized (table.with_binding ioc handle b)
  with_binding ioc handle b z = record { outboxes = z.outboxes; places = z.places; handles = length-set ioc.bindings _ b ∙ z.handles }

  if_so : (c : Bool) (x y : Ioc) → IocIsSized x → IocIsSized y → IocIsSized (if c then x else y)
  if_so true x y s t = s
  if_so false x y s t = t

  to : (o p : Happening Ioc) → o ≡ p → IocIsSized p.part → IocIsSized o.part
  to o p e z = subst (λ (x : Happening Ioc). IocIsSized x.part) (sym e) z

  -- ---- what calls share

  releases : (ioc : Ioc) (handle : ℕ) → IocIsSized ioc → IocIsSized (commands.releases ioc handle)
  releases ioc handle z = if_so (table.has_commands ioc handle) ioc (commands.answers_held ioc handle) z (says (record ioc { held = filter (λ held. not (commands.is_held_for handle held)) ioc.held }) 0 _ z)

  changes : (ioc : Ioc) (handle expander phy : ℕ) (added : Bool) → IocIsSized ioc → IocIsSized (bind.changes ioc handle expander phy added)
  changes ioc handle expander phy added z = if_so ioc.through (bind.tells_change ioc handle expander phy added) ioc (record { outboxes = length-set ioc.up 0 _ ∙ z.outboxes; places = z.places; handles = z.handles }) z

  binds_to : (ioc : Ioc) (disk : Waiting) (o : Option ℕ) → IocIsSized ioc → IocIsSized (bind.binds_to ioc disk o).part
  binds_to ioc disk None z = z
  binds_to ioc disk (Some handle) z = changes (table.with_binding ioc handle (binding.Present disk.address disk.plug disk.expander disk.phy)) handle disk.expander disk.phy true (with_binding ioc handle _ z)

  binds_first : (ioc : Ioc) (ds : List Waiting) → IocIsSized ioc → IocIsSized (bind.binds_first ioc ds).part
  binds_first ioc [] z = z
  binds_first ioc (d ∷ ds) z = binds_to (record ioc { waiting = ds }) d (table.least_unbound (record ioc { waiting = ds })) z

  -- ---- news of the fabric

  heard : (ioc : Ioc) (x : Back) (o : Happening Ioc) → Hears ioc x o → IocIsSized ioc → IocIsSized o.part
  heard ioc x o (Passed e) z = to o _ e z
  heard ioc x o (Ended tag handle queue len written at e) z = to o _ e (releases (say.says_on (table.without_request ioc tag) queue (reply_made x handle len written ∷ [])) handle (says (table.without_request ioc tag) queue _ (with_request ioc tag None z)))
  heard ioc x o (Done smid r answer at e) z = to o _ e (says (table.without_request ioc smid) 0 _ (with_request ioc smid None z))
  heard ioc x o (Bound disk handle l k e) z = to o _ e (binds_to ioc disk (Some handle) z)
  heard ioc x o (Waits disk l k e) z = to o _ e z
  heard ioc x o (Lost handle address plug expander phy b e) z = to o _ e (changes (table.with_binding ioc handle (binding.Gone address)) handle expander phy false (with_binding ioc handle _ z))
  heard ioc x o (Unawaited address h e) z = to o _ e z
  heard ioc x o (Linked generation r e) z = to o _ e z
  heard ioc x o (Calmed e) z = to o _ e (says ioc 0 _ z)

  pub back_taken : (ioc : Ioc) (x : Back) → IocIsSized ioc → IocIsSized (takes_back ioc x).part
  back_taken ioc x z = heard ioc x (takes_back ioc x) (back_leaf ioc x) z

  -- ---- work

  worked : (ioc : Ioc) (p : Post) (o : Happening Ioc) → Works ioc p o → IocIsSized ioc → IocIsSized o.part
  worked ioc p o (Dropped k e) z = to o _ e z
  worked ioc p o (Refuses k f kind r e) z = to o _ e (says ioc (say.ioc_queue_of ioc k p.descriptor) _ z)
  worked ioc p o (ScsiEnds status k c e) z = to o _ e (says ioc (commands.scsi_queue ioc p) _ z)
  worked ioc p o (ScsiSends address plug expander phy k c b e) z = to o _ e (with_request (say.with_out_item ioc (out.Task (smid_in p.descriptor) address (commands.command_in p.frame p.payload))) (smid_in p.descriptor) _ z)
  worked ioc p o (Stops stop k f e) z =
      let left : Ioc = record ioc { normal = filter (λ other. not (tasks.is_scsi_post (task_mid_in p.frame) (dev_handle_in p.frame) other)) ioc.normal } in
      to o _ e (says (commands.ends_scsi left stop IOC_STATUS_SCSI_TASK_TERMINATED) 0 _ (says left (commands.scsi_queue left stop) _ z))
  worked ioc p o (AbortSends k f b e) z = to o _ e (with_request (say.with_out_item ioc (out.Abort (smid_in p.descriptor) (task_mid_in p.frame))) (smid_in p.descriptor) _ z)
  worked ioc p o (AbortEnds k f b e) z = to o _ e (says ioc 0 _ z)
  worked ioc p o (ResetSends address plug expander phy k b e) z = to o _ e (with_request (say.with_out_item ioc (out.TargetReset (smid_in p.descriptor) address)) (smid_in p.descriptor) _ z)
  worked ioc p o (ResetHolds address k b c e) z = to o _ e z
  worked ioc p o (ResetEnds status k e) z = to o _ e (says ioc 0 _ z)
  worked ioc p o (TaskFails k e) z = to o _ e (says ioc 0 _ z)
  worked ioc p o (PageEnds status k e) z = to o _ e (says ioc 0 _ z)
  worked ioc p o (PageGiven page k w e) z = to o _ e (says ioc 0 _ z)
  worked ioc p o (Enables k b e) z = to o _ e (with_request (say.with_out_item (record ioc { enabled = true }) out.Discover) (smid_in p.descriptor) _ z)
  worked ioc p o (Notifies k e) z = to o _ e (record { outboxes = length-set ioc.up 0 _ ∙ z.outboxes; places = z.places; handles = z.handles })
  worked ioc p o (Acks k b e) z = to o _ e (record { outboxes = length-set ioc.up 0 _ ∙ z.outboxes; places = z.places; handles = z.handles })
  worked ioc p o (EndsPlainly f status k e) z = to o _ e (says ioc 0 _ z)
  worked ioc p o (RemovalEnds status k e) z = to o _ e (says ioc 0 _ z)
  worked ioc p o (Removes address k f b c e) z =
      let unbound : Ioc = table.with_binding ioc (controlled_handle_in p.frame) binding.Unbound in
      to o _ e (binds_first (ask.ioc_ends_removal unbound p IOC_STATUS_SUCCESS) ioc.waiting (says unbound 0 _ (with_binding ioc (controlled_handle_in p.frame) binding.Unbound z)))
  worked ioc p o (Strays k r e) z = to o _ e z

  pub post_worked : (ioc : Ioc) (p : Post) → IocIsSized ioc → IocIsSized (works_on ioc p).part
  post_worked ioc p z = worked ioc p (works_on ioc p) (works_leaf ioc p) z

  -- ---- what the host sends

  served : (ioc : Ioc) (message : List ℕ) (f : Option Function) → IocIsSized ioc → IocIsSized (registers.serves_handshake ioc message f)
  served ioc message (Some function.IocInit) z = let status = registers.init_status ioc message in if_so (status == IOC_STATUS_SUCCESS) (registers.operates (registers.ends_init ioc status) message) (registers.ends_init ioc status) z z
  served ioc message None z = z
  served ioc message (Some function.ScsiIo) z = z
  served ioc message (Some function.TaskManagement) z = z
  served ioc message (Some function.IocFacts) z = z
  served ioc message (Some function.PortFacts) z = z
  served ioc message (Some function.Config) z = z
  served ioc message (Some function.PortEnable) z = z
  served ioc message (Some function.EventNotification) z = z
  served ioc message (Some function.EventAck) z = z
  served ioc message (Some function.UnitControl) z = z

  shaken : (ioc : Ioc) (message : List ℕ) (r : Option MsgFault) → IocIsSized ioc → IocIsSized (registers.handshakes_if ioc message r)
  shaken ioc message (Some refusal) z = z
  shaken ioc message None z = served ioc message (function_of (slice_index message 3)) z

  forgotten : (ioc : Ioc) → IocIsSized ioc → IocIsSized (resets.forgets ioc)
  forgotten ioc z =
      record {
        outboxes = length_marked (resets.next_generation ioc) (map (filter resets.outlives_reset) ioc.up) ∙ (length_map (filter resets.outlives_reset) ioc.up ∙ z.outboxes);
        places = length_free 280 none;
        handles = length_free 64 binding.Unbound;
      }
    where
      none : Option AtFabric
      none = None

  done : (ioc : Ioc) (e : Effect) → IocIsSized ioc → IocIsSized (registers.after_effect ioc e).part
  done ioc effect.None z = z
  done ioc (effect.Asked count bytes) z = shaken ioc (take count bytes) (request_refusal_as kind.Handshake (take count bytes) (function_of (slice_index (take count bytes) 3))) z
  done ioc effect.UnitReset z = forgotten ioc z
  done ioc effect.AdapterReset z = forgotten ioc z
  done ioc (effect.Fault code) z = z

  posted : (ioc : Ioc) (p : Post) (o : Option PostKind) → IocIsSized ioc → IocIsSized (posts.posts_if ioc p o)
  posted ioc p None z = z
  posted ioc p (Some k) z = by_tests (posts.is_in_class (posts.class_of k) (smid_in p.descriptor)) (table.is_unanswered ioc (smid_in p.descriptor)) k
    where
      by_tests : (b u : Bool) (k : PostKind) → IocIsSized (if not b then table.faults ioc posts.bad_post else if u then table.faults ioc posts.identifier_in_use else posts.with_post_queued ioc p k)
      by_tests false u k = z
      by_tests true true k = z
      by_tests true false post.ScsiIo = z
      by_tests true false post.HighPriority = z
      by_tests true false post.Default = z

  pub down_taken : (ioc : Ioc) (x : Down) → IocIsSized ioc → IocIsSized (takes_down ioc x).part
  down_taken ioc (down.Write reg value) z = done (record ioc { door = (register_written ioc.door reg value).registers }) (register_written ioc.door reg value).effect z
  down_taken ioc (down.Read reg) z = says ioc 0 _ z
  down_taken ioc (down.Post d frame payload) z = if_so (table.is_operational ioc.door.state) (posts.ioc_takes_post ioc d frame payload) ioc (posted ioc (record { descriptor = d; frame = frame; payload = payload }) (kind_in d) z) z
  down_taken ioc (down.Return address index) z =
      if_so (table.is_operational ioc.door.state) (posts.ioc_takes_return ioc address) ioc
      (if_so (not (posts.is_frame_address address) || posts.frame_here ioc (posts.frame_near address)) (table.faults ioc posts.bad_return) (record ioc { ring = ioc.ring ++ posts.frame_near address ∷ [] }) z z) z
  down_taken ioc down.Stop z = if_so (is_fault ioc.door.state) ioc (say.with_out_item ioc out.Stop) z z

  -- ---- an item that leaves an outbox

  pub up_sent : (ioc : Ioc) (queue : ℕ) → IocIsSized ioc → IocIsSized (up_sent_on ioc queue)
  up_sent ioc queue z = record { outboxes = length-set ioc.up queue _ ∙ z.outboxes; places = z.places; handles = z.handles }
