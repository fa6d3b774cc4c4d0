-- What the controller puts into its outbox of queue 0: where what waits there passes, so does what each call adds.
use Rattle.std.proofs.Common.{◌≡◌, ℕ, suc, ◌+◌, ◌%◌, ◌^◌, ◌≤◌, ◌==◌, ◌&&◌, ◌||◌, not, nat_lt, Bool, true, false, cond, if◌then◌else◌, List, [], ◌∷◌, ◌++◌, map, length, get_or, slice_index, Option, Some, None, refl, sym, subst, arith}
use Rattle.std.specs.Prelude.{All}
use Rattle.std.specs.FinSet as finset
use Rattle.std.specs.List.{filter, find, position}
use Rattle.std.proofs.lemmas.List.Elements.{All-append, All-cons, All-filter, All-head, All-nil, All-tail}
use Rattle.mpi_doorbell.specs.DoorRegisters.{is_fault, linked_up}
use Rattle.mpi_rings.specs.declared.request_descriptor.PostKind.TheVariants as post
use Rattle.scsi_disk.specs.declared.scsi_result.ScsiResult.{ScsiResult}
use Rattle.scsi_disk.specs.declared.scsi_result.TheConstants.{GOOD}
use Rattle.mpt_messages.specs.Function.{byte_of}
use Rattle.mpt_messages.specs.Refusal.{request_refusal}
use Rattle.mpt_messages.specs.declared.fault.MsgFault.{MsgFault}
use Rattle.mpt_messages.specs.declared.function.Function.TheVariants as function
use Rattle.mpt_messages.specs.declared.ioc_reply.IocReply.{IocReply}
use Rattle.mpt_messages.specs.declared.ioc_reply.IocReply.TheVariants as reply
use Rattle.mpt_wire.specs.Messages.Fields.{abort_task, controlled_handle_in, dev_handle_in, kind_in, smid_in, target_reset, task_mid_in, task_type_in, termination_count_in}
use Rattle.mpt_trace.specs.declared.item.Back.{Back}
use Rattle.mpt_trace.specs.declared.item.Back.TheVariants as back
use Rattle.mpt_rules.specs.declared.at_fabric.AtFabric.{AtFabric}
use Rattle.mpt_rules.specs.declared.at_fabric.AtFabric.TheVariants as at
use Rattle.mpt_rules.specs.declared.at_fabric.HeldReset.{HeldReset}
use Rattle.mpt_rules.specs.declared.binding.Binding.{Binding}
use Rattle.mpt_rules.specs.declared.binding.Binding.TheVariants as binding
use Rattle.mpt_rules.specs.declared.binding.Waiting.{Waiting}
use Rattle.mpt_rules.specs.declared.post.Post.{Post}
use Rattle.mpt_rules.specs.declared.said.Said.{Said}
use Rattle.mpt_rules.specs.declared.said.Said.TheVariants as said
use Rattle.mpt_rules.specs.declared.status.TheConstants.{IOC_STATUS_SCSI_DEVICE_NOT_THERE, IOC_STATUS_SCSI_INVALID_DEVHANDLE, IOC_STATUS_SCSI_TASK_MGMT_FAILED, IOC_STATUS_SCSI_TASK_TERMINATED, IOC_STATUS_SUCCESS}
use Rattle.mpt_rules.specs.Ioc.Back as from_back
use Rattle.mpt_rules.specs.Ioc.Bindings as bind
use Rattle.mpt_rules.specs.Ioc.Commands as commands
use Rattle.mpt_rules.specs.Ioc.Configuration as config
use Rattle.mpt_rules.specs.Ioc.Parts.{Ioc}
use Rattle.mpt_rules.specs.Ioc.Replies as say
use Rattle.mpt_rules.specs.Ioc.Replies.{outbox_of}
use Rattle.mpt_rules.specs.Ioc.Requests as ask
use Rattle.mpt_rules.specs.Ioc.Steps as step
use Rattle.mpt_rules.specs.Ioc.Tables as table
use Rattle.mpt_rules.specs.Ioc.Takes as adapter
use Rattle.mpt_rules.specs.Ioc.Tasks as tasks
use Rattle.mpt_rules.specs.Outcome.{Happening}
use Rattle.mpt_messages.specs.IocFrames.{reply_frame}
use Rattle.law_flights.proofs.Leaves.{enable_at}
use Rattle.law_flights.proofs.Tables.{get_or-set_any}
use Rattle.law_counts.proofs.Decoded.{count_in, plain_count}
use Rattle.law_flights.proofs.WorkLeaves.{AbortEnds, AbortSends, Acks, Dropped, Enables, EndsPlainly, Notifies, PageEnds, PageGiven, Refuses, RemovalEnds, Removes, ResetEnds, ResetHolds, ResetSends, ScsiEnds, ScsiSends, Stops, Strays, TaskFails, Works}

-- no reply with a frame to an identifier of task management
abbrev pub IsLow : Said → Type 0
IsLow (said.Framed s frame page sense) = (257 ≤ s) → (s ≤ 264) → ⊥
IsLow item = Unit {0}

module _ (P : Said → Type 0) (lows : (y : Said) → IsLow y → P y) where
  abbrev pub Box : Ioc → Type 0
  Box i = All P (outbox_of i 0)

  pub says : (i : Ioc) (queue : ℕ) (items : List Said) → All P items → Box i → Box (say.says_on i queue items)
  says i queue items a b = subst (All P) (sym (get_or-set_any i.up queue 0 (get_or i.up queue [] ++ items) [])) (by_key (0 == queue) refl)
    where
      by_key : (c : Bool) → (0 == queue) ≡ c → All P (cond c (cond (nat_lt queue (length i.up)) (get_or i.up queue [] ++ items) (get_or i.up 0 [])) (get_or i.up 0 []))
      by_key false e = b
      by_key true e = by_length (nat_lt queue (length i.up))
        where
          zero_is : (n : ℕ) → (0 == n) ≡ true → n ≡ 0
          zero_is n e = grind (arith, e)

          by_length : (c : Bool) → All P (cond c (get_or i.up queue [] ++ items) (get_or i.up 0 []))
          by_length false = b
          by_length true = All-append P (get_or i.up queue []) items (subst (λ n. All P (get_or i.up n [])) (sym (zero_is queue e)) b) a

  one : (i : Ioc) (queue : ℕ) (y : Said) → P y → Box i → Box (say.says_on i queue (y ∷ []))
  one i queue y p b = says i queue (y ∷ []) (All-cons P y [] p (All-nil P)) b

  -- ---- what the fabric tells

  if_box : (c : Bool) (x y : Ioc) → Box x → Box y → Box (if c then x else y)
  if_box true x y a b = a
  if_box false x y a b = b

  if_happens : (c : Bool) (x y : Happening Ioc) → Box x.part → Box y.part → Box (if c then x else y).part
  if_happens true x y a b = a
  if_happens false x y a b = b

  answered : (xs : List HeldReset) → All (λ r. P (commands.held_answered r)) xs → All P (map commands.held_answered xs)
  answered [] a = All-nil P
  answered (x ∷ xs) a = All-cons P (commands.held_answered x) (map commands.held_answered xs) (All-head (λ r. P (commands.held_answered r)) x xs a) (answered xs (All-tail (λ r. P (commands.held_answered r)) x xs a))

  releases : (i : Ioc) (handle : ℕ) → All (λ r. P (commands.held_answered r)) i.held → Box i → Box (commands.releases i handle)
  releases i handle hs b = by_commands (table.has_commands i handle)
    where
      by_commands : (c : Bool) → Box (if c then i else commands.answers_held i handle)
      by_commands true = b
      by_commands false =
          says (record i { held = filter (λ held. not (commands.is_held_for handle held)) i.held }) 0 (map commands.held_answered (filter (commands.is_held_for handle) i.held))
          (answered (filter (commands.is_held_for handle) i.held) (All-filter (commands.is_held_for handle) (λ r. P (commands.held_answered r)) i.held hs)) b

  event : (i : Ioc) (handle expander phy : ℕ) (added : Bool) → Box i → Box (bind.changes i handle expander phy added)
  event i handle expander phy added b = by_through i.through
    where
      by_through : (c : Bool) → Box (if c then bind.tells_change i handle expander phy added else i)
      by_through true =
          let y : Said = say.framed 0 (reply.Topology i.context handle expander (slice_index i.phys expander) phy added) in
          one (record i { context = (i.context + 1) % 2 ^ 32; unacked = finset.insert i.unacked i.context }) 0 y (lows y (λ a c. omega (arith, a))) b
      by_through false = b

  binds_to : (i : Ioc) (disk : Waiting) (o : Option ℕ) → Box i → Box (bind.binds_to i disk o).part
  binds_to i disk None b = b
  binds_to i disk (Some handle) b = event (table.with_binding i handle (binding.Present disk.address disk.plug disk.expander disk.phy)) handle disk.expander disk.phy true b

  binds_first : (i : Ioc) (ds : List Waiting) → Box i → Box (bind.binds_first i ds).part
  binds_first i [] b = b
  binds_first i (d ∷ ds) b = binds_to (record i { waiting = ds }) d (table.least_unbound (record i { waiting = ds })) b

  result_low : (s handle len moved : ℕ) (r : ScsiResult) → ((257 ≤ s) → (s ≤ 264) → ⊥) → P (commands.result_said s handle len moved r)
  result_low s handle len moved r n = by_test (r.status == GOOD && moved == len)
    where
      by_test : (c : Bool) → P (if c then said.Success s r.payload r.sense else said.Framed s (Rattle.mpt_messages.specs.IocFrames.reply_frame (reply.Scsi handle s r.status (commands.result_status moved len) moved (length r.sense))) r.payload r.sense)
      by_test true = lows (said.Success s r.payload r.sense) tt
      by_test false = lows (said.Framed s (Rattle.mpt_messages.specs.IocFrames.reply_frame (reply.Scsi handle s r.status (commands.result_status moved len) moved (length r.sense))) r.payload r.sense) n

  module _ (i : Ioc) (hs : All (λ r. P (commands.held_answered r)) i.held) (aside : (s : ℕ) → ((handle queue len : ℕ) (written : Option ℕ) → table.request_at i s ≡ Some (at.Command handle queue len written) → (257 ≤ s) → (s ≤ 264) → ⊥) × (table.request_at i s ≡ Some at.PortEnable → (257 ≤ s) → (s ≤ 264) → ⊥)) (b : Box i) where
    ended : (tag status : ℕ) (o : Option AtFabric) → table.request_at i tag ≡ o → Box (from_back.takes_end i tag status o)
    ended tag status None e = b
    ended tag status (Some (at.Command handle queue len written)) e = releases (say.says_on (table.without_request i tag) queue (say.scsi_ended tag handle status ∷ [])) handle hs (one (table.without_request i tag) queue (say.scsi_ended tag handle status) (lows (say.scsi_ended tag handle status) ((aside tag).0 handle queue len written e)) b)
    ended tag status (Some (at.Abort handle)) e = b
    ended tag status (Some (at.TargetReset handle)) e = b
    ended tag status (Some at.PortEnable) e = b

    performed : (tag : ℕ) (r : ScsiResult) (o : Option AtFabric) → table.request_at i tag ≡ o → Box (from_back.takes_result i tag r o)
    performed tag r None e = b
    performed tag r (Some (at.Command handle queue len written)) e = releases (say.says_on (table.without_request i tag) queue (commands.result_said tag handle len (commands.moved_by written r) r ∷ [])) handle hs (one (table.without_request i tag) queue (commands.result_said tag handle len (commands.moved_by written r) r) (result_low tag handle len (commands.moved_by written r) r ((aside tag).0 handle queue len written e)) b)
    performed tag r (Some (at.Abort handle)) e = b
    performed tag r (Some (at.TargetReset handle)) e = b
    performed tag r (Some at.PortEnable) e = b

    aborted : (smid : ℕ) (found : Bool) (o : Option AtFabric) → table.request_at i smid ≡ o → ((handle : ℕ) → table.request_at i smid ≡ Some (at.Abort handle) → P (say.framed smid (say.task_ended handle abort_task IOC_STATUS_SUCCESS (if found then 1 else 0)))) → Box (from_back.takes_aborted i smid found o)
    aborted smid found None e p = b
    aborted smid found (Some (at.Command handle queue len written)) e p = b
    aborted smid found (Some (at.Abort handle)) e p = one (table.without_request i smid) 0 (say.framed smid (say.task_ended handle abort_task IOC_STATUS_SUCCESS (if found then 1 else 0))) (p handle e) b
    aborted smid found (Some (at.TargetReset handle)) e p = b
    aborted smid found (Some at.PortEnable) e p = b

    cleared : (smid count : ℕ) (o : Option AtFabric) → table.request_at i smid ≡ o → ((handle : ℕ) → table.request_at i smid ≡ Some (at.TargetReset handle) → P (say.framed smid (say.task_ended handle target_reset IOC_STATUS_SUCCESS count))) → Box (from_back.takes_cleared i smid count o)
    cleared smid count None e p = b
    cleared smid count (Some (at.Command handle queue len written)) e p = b
    cleared smid count (Some (at.Abort handle)) e p = b
    cleared smid count (Some (at.TargetReset handle)) e p = one (table.without_request i smid) 0 (say.framed smid (say.task_ended handle target_reset IOC_STATUS_SUCCESS count)) (p handle e) b
    cleared smid count (Some at.PortEnable) e p = b

    discovered : (o : Option ℕ) → position from_back.is_port_enable i.requests ≡ o → Box (from_back.takes_discovered i o)
    discovered None e = b
    discovered (Some place) e =
        let y : Said = say.framed (place + 1) (reply.Plain (byte_of function.PortEnable) IOC_STATUS_SUCCESS) in
        let same : suc place ≡ place + 1 = omega arith in
        one (table.without_request i (place + 1)) 0 y (lows y (subst (λ n. (257 ≤ n) → (n ≤ 264) → ⊥) same ((aside (suc place)).1 (enable_at i place e)))) b

    plugged : (disk : Waiting) (c : Bool) → Box (if c then table.silently i else bind.binds i disk).part
    plugged disk true = b
    plugged disk false = binds_to i disk (table.least_unbound i) b

    lost : (handle : ℕ) (x : Binding) → Box (bind.ioc_loses i handle x)
    lost handle binding.Unbound = b
    lost handle (binding.Present address plug expander phy) = event (table.with_binding i handle (binding.Gone address)) handle expander phy false b
    lost handle (binding.Gone address) = b

    unplugged : (address : ℕ) (o : Option ℕ) → Box (bind.ioc_unplugs_from i address o)
    unplugged address None = b
    unplugged address (Some handle) = lost handle (table.binding_of i handle)

    heard : (x : Back) → ((smid : ℕ) (found : Bool) (handle : ℕ) → x ≡ back.Aborted smid found → table.request_at i smid ≡ Some (at.Abort handle) → P (say.framed smid (say.task_ended handle abort_task IOC_STATUS_SUCCESS (if found then 1 else 0))))
        → ((smid count handle : ℕ) → x ≡ back.Cleared smid count → table.request_at i smid ≡ Some (at.TargetReset handle) → P (say.framed smid (say.task_ended handle target_reset IOC_STATUS_SUCCESS count))) → Box (from_back.hears i x).part
    heard (back.Result tag r) p q = performed tag r (table.request_at i tag) refl
    heard (back.Gone tag) p q = ended tag IOC_STATUS_SCSI_DEVICE_NOT_THERE (table.request_at i tag) refl
    heard (back.Terminated tag) p q = ended tag IOC_STATUS_SCSI_TASK_TERMINATED (table.request_at i tag) refl
    heard (back.Aborted smid found) p q = aborted smid found (table.request_at i smid) refl (λ handle e. p smid found handle refl e)
    heard (back.Cleared smid count) p q = cleared smid count (table.request_at i smid) refl (λ handle e. q smid count handle refl e)
    heard (back.Plugged address plug expander phy) p q = plugged (record { address = address; plug = plug; expander = expander; phy = phy }) (bind.is_known i address || not (nat_lt expander (length i.phys)))
    heard (back.Unplugged address plug expander phy) p q = unplugged address (table.handle_of i address)
    heard back.Discovered p q = discovered (position from_back.is_port_enable i.requests) refl
    heard (back.Linked generation) p q = if_box (table.is_reset i.door.state && generation == i.generation) (record i { door = linked_up i.door }) i b b
    heard back.Calm p q = if_box (is_fault i.door.state) i (say.says_on i 0 (said.Calm ∷ [])) b (one i 0 said.Calm (lows said.Calm tt) b)

    pub back_box : (x : Back) → ((smid : ℕ) (found : Bool) (handle : ℕ) → x ≡ back.Aborted smid found → table.request_at i smid ≡ Some (at.Abort handle) → P (say.framed smid (say.task_ended handle abort_task IOC_STATUS_SUCCESS (if found then 1 else 0))))
        → ((smid count handle : ℕ) → x ≡ back.Cleared smid count → table.request_at i smid ≡ Some (at.TargetReset handle) → P (say.framed smid (say.task_ended handle target_reset IOC_STATUS_SUCCESS count))) → Box (adapter.takes_back i x).part
    back_box x p q = if_happens (from_back.is_heard_in i.door.state x) (from_back.hears i x) (table.silently i) (heard x p q) b

  -- ---- a work step

  answers : (i : Ioc) (s : ℕ) (r : IocReply) → P (say.framed s r) → Box i → Box (say.ioc_answers i s r)
  answers i s r p b = one i 0 (say.framed s r) p b

  ends : (i : Ioc) (p : Post) (status : ℕ) → ((257 ≤ smid_in p.descriptor) → (smid_in p.descriptor ≤ 264) → ⊥) → Box i → Box (commands.ends_scsi i p status)
  ends i p status n b = one i (commands.scsi_queue i p) (say.scsi_ended (smid_in p.descriptor) (dev_handle_in p.frame) status) (lows (say.scsi_ended (smid_in p.descriptor) (dev_handle_in p.frame) status) n) b

  to : (o x : Happening Ioc) → o ≡ x → Box x.part → Box o.part
  to o x e b = subst (λ (y : Happening Ioc). Box y.part) (sym e) b

  -- of a post of another kind
  pub low_works : (i : Ioc) (p : Post) (o : Happening Ioc) → Works i p o → (kind_in p.descriptor ≡ Some post.HighPriority → ⊥) → ((257 ≤ smid_in p.descriptor) → (smid_in p.descriptor ≤ 264) → ⊥) → Box i → Box o.part
  low_works i p o w n l b = by_leaf w
    where
      answer : (j : Ioc) (r : IocReply) → Box j → Box (say.ioc_answers j (smid_in p.descriptor) r)
      answer j r c = answers j (smid_in p.descriptor) r (lows (say.framed (smid_in p.descriptor) r) l) c

      by_leaf : Works i p o → Box o.part
      by_leaf (Dropped k e) = to o (table.silently i) e b
      by_leaf (Refuses k g d x e) =
          let y : Said = say.framed (smid_in p.descriptor) (reply.Plain (Rattle.mpt_wire.specs.Messages.Fields.function_in p.frame) (say.refusal_status g)) in
          to o (table.silently (step.refuses i p k g)) e (one i (say.ioc_queue_of i k p.descriptor) y (lows y l) b)
      by_leaf (ScsiEnds status k c e) = to o (table.silently (commands.ends_scsi i p status)) e (ends i p status l b)
      by_leaf (ScsiSends address plug expander phy k c x e) = to o (table.silently (commands.sends_command i p address (commands.command_in p.frame p.payload))) e b
      by_leaf (Stops stop k g e) = absurd (n k)
      by_leaf (AbortSends k g t e) = absurd (n k)
      by_leaf (AbortEnds k g t e) = absurd (n k)
      by_leaf (ResetSends address plug expander phy k x e) = absurd (n k)
      by_leaf (ResetHolds address k x t e) = absurd (n k)
      by_leaf (ResetEnds status k e) = absurd (n k)
      by_leaf (TaskFails k e) = absurd (n k)
      by_leaf (PageEnds status k e) = to o (table.silently (config.ends_config i p status [])) e (ends_config status [])
        where
          ends_config : (status : ℕ) (page : List ℕ) → Box (config.ends_config i p status page)
          ends_config status page = let y : Said = said.Framed (smid_in p.descriptor) (reply_frame (reply.Config (Rattle.mpt_wire.specs.Messages.Fields.action_in p.frame) (Rattle.mpt_wire.specs.Messages.Fields.ext_page_type_in p.frame) status)) page [] in one i 0 y (lows y l) b
      by_leaf (PageGiven page k g e) = to o (table.silently (config.ends_config i p IOC_STATUS_SUCCESS (config.page_given p.frame page))) e (ends_config IOC_STATUS_SUCCESS (config.page_given p.frame page))
        where
          ends_config : (status : ℕ) (page : List ℕ) → Box (config.ends_config i p status page)
          ends_config status page = let y : Said = said.Framed (smid_in p.descriptor) (reply_frame (reply.Config (Rattle.mpt_wire.specs.Messages.Fields.action_in p.frame) (Rattle.mpt_wire.specs.Messages.Fields.ext_page_type_in p.frame) status)) page [] in one i 0 y (lows y l) b
      by_leaf (Enables k x e) = to o (table.silently (ask.enables i (smid_in p.descriptor))) e b
      by_leaf (Notifies k e) = to o (table.silently (ask.works_notification i p)) e (answer (record i { through = not (Rattle.mpi_doorbell.specs.Bytes.has (Rattle.mpt_wire.specs.Messages.Fields.event_masks_in p.frame) (2 ^ Rattle.mpt_wire.specs.Messages.Fields.topology_change_list)) }) reply.Notified b)
      by_leaf (Acks k t e) = to o (table.silently (ask.ends_plainly (record i { unacked = finset.remove i.unacked (Rattle.mpt_wire.specs.Messages.Fields.acked_context_in p.frame) }) p (byte_of function.EventAck) IOC_STATUS_SUCCESS)) e (answer (record i { unacked = finset.remove i.unacked (Rattle.mpt_wire.specs.Messages.Fields.acked_context_in p.frame) }) (reply.Plain (byte_of function.EventAck) IOC_STATUS_SUCCESS) b)
      by_leaf (EndsPlainly g status k e) = to o (table.silently (ask.ends_plainly i p g status)) e (answer i (reply.Plain g status) b)
      by_leaf (RemovalEnds status k e) = to o (table.silently (ask.ioc_ends_removal i p status)) e (answer i (reply.Removed (controlled_handle_in p.frame) (Rattle.mpt_wire.specs.Messages.Fields.operation_in p.frame) status) b)
      by_leaf (Removes address k g x c e) =
          let j : Ioc = table.with_binding i (controlled_handle_in p.frame) binding.Unbound in
          to o (ask.removes i p) e (binds_first (ask.ioc_ends_removal j p IOC_STATUS_SUCCESS) i.waiting (answer j (reply.Removed (controlled_handle_in p.frame) (Rattle.mpt_wire.specs.Messages.Fields.operation_in p.frame) IOC_STATUS_SUCCESS) b))
      by_leaf (Strays k x e) = to o (table.silently i) e b

  -- of task management: a count of 0, or of 1 where a queued command was stopped
  module _ (i : Ioc) (p : Post) (none : (r : IocReply) → termination_count_in (reply_frame r) ≡ 0 → P (say.framed (smid_in p.descriptor) r))
      (stopped : (handle : ℕ) → (task_type_in p.frame == abort_task) ≡ true → P (say.framed (smid_in p.descriptor) (say.task_ended handle abort_task IOC_STATUS_SUCCESS 1)))
      (queued : (stop : Post) → find (tasks.is_scsi_post (task_mid_in p.frame) (dev_handle_in p.frame)) i.normal ≡ Some stop → (257 ≤ smid_in stop.descriptor) → (smid_in stop.descriptor ≤ 264) → ⊥) (b : Box i) where
    no_count : (handle task_type status code : ℕ) → P (say.framed (smid_in p.descriptor) (reply.Task handle task_type status code 0))
    no_count handle task_type status code = none (reply.Task handle task_type status code 0) (count_in handle task_type status code 0 (omega arith))

    aborts : (task_type_in p.frame == abort_task) ≡ true → (o : Option Post) → find (tasks.is_scsi_post (task_mid_in p.frame) (dev_handle_in p.frame)) i.normal ≡ o → Box (tasks.ioc_aborts_if i (smid_in p.descriptor) (task_mid_in p.frame) (dev_handle_in p.frame) o)
    aborts t (Some q) e =
        let j : Ioc = record i { normal = filter (λ other. not (tasks.is_scsi_post (task_mid_in p.frame) (dev_handle_in p.frame) other)) i.normal } in
        answers (commands.ends_scsi j q IOC_STATUS_SCSI_TASK_TERMINATED) (smid_in p.descriptor) (say.task_ended (dev_handle_in p.frame) abort_task IOC_STATUS_SUCCESS 1) (stopped (dev_handle_in p.frame) t) (ends j q IOC_STATUS_SCSI_TASK_TERMINATED (queued q e) b)
    aborts t None e =
        if_box (table.is_command_of (dev_handle_in p.frame) (table.request_at i (task_mid_in p.frame))) (tasks.sends_abort i (smid_in p.descriptor) (task_mid_in p.frame) (dev_handle_in p.frame)) (tasks.ioc_ends_abort i (smid_in p.descriptor) (dev_handle_in p.frame) 0)
        b (answers i (smid_in p.descriptor) (say.task_ended (dev_handle_in p.frame) abort_task IOC_STATUS_SUCCESS 0) (no_count (dev_handle_in p.frame) abort_task IOC_STATUS_SUCCESS 0) b)

    resets : (x : Binding) → Box (tasks.ioc_resets_target i (smid_in p.descriptor) (dev_handle_in p.frame) x)
    resets binding.Unbound = answers i (smid_in p.descriptor) (say.task_ended (dev_handle_in p.frame) target_reset IOC_STATUS_SCSI_INVALID_DEVHANDLE 0) (no_count (dev_handle_in p.frame) target_reset IOC_STATUS_SCSI_INVALID_DEVHANDLE 0) b
    resets (binding.Present address plug expander phy) = b
    resets (binding.Gone address) =
        if_box (table.has_commands i (dev_handle_in p.frame)) (record i { held = i.held ++ record { smid = smid_in p.descriptor; handle = dev_handle_in p.frame } ∷ [] }) (tasks.ends_target_reset i (smid_in p.descriptor) (dev_handle_in p.frame) IOC_STATUS_SUCCESS 0)
        b (answers i (smid_in p.descriptor) (say.task_ended (dev_handle_in p.frame) target_reset IOC_STATUS_SUCCESS 0) (no_count (dev_handle_in p.frame) target_reset IOC_STATUS_SUCCESS 0) b)

    task : Box (tasks.works_task i p)
    task = by_types (task_type_in p.frame == abort_task) (task_type_in p.frame == target_reset) refl
      where
        by_types : (c d : Bool) → (task_type_in p.frame == abort_task) ≡ c → Box (if c then tasks.ioc_aborts i (smid_in p.descriptor) (task_mid_in p.frame) (dev_handle_in p.frame)
            else if d then tasks.ioc_resets_target i (smid_in p.descriptor) (dev_handle_in p.frame) (table.binding_of i (dev_handle_in p.frame)) else tasks.fails_task i (smid_in p.descriptor) (dev_handle_in p.frame) (task_type_in p.frame))
        by_types true d e = aborts e (find (tasks.is_scsi_post (task_mid_in p.frame) (dev_handle_in p.frame)) i.normal) refl
        by_types false true e = resets (table.binding_of i (dev_handle_in p.frame))
        by_types false false e = answers i (smid_in p.descriptor) (reply.Task (dev_handle_in p.frame) (task_type_in p.frame) IOC_STATUS_SCSI_TASK_MGMT_FAILED tasks.not_supported 0) (no_count (dev_handle_in p.frame) (task_type_in p.frame) IOC_STATUS_SCSI_TASK_MGMT_FAILED tasks.not_supported) b

    pub high_works : Box (step.works_kind i p (Some post.HighPriority)).part
    high_works = by_refusal (request_refusal (step.way_of post.HighPriority) p.frame)
      where
        by_refusal : (o : Option MsgFault) → Box (step.works_unless i p post.HighPriority o).part
        by_refusal None = task
        by_refusal (Some g) =
            let r : IocReply = reply.Plain (Rattle.mpt_wire.specs.Messages.Fields.function_in p.frame) (say.refusal_status g) in
            one i 0 (say.framed (smid_in p.descriptor) r) (none r (plain_count (Rattle.mpt_wire.specs.Messages.Fields.function_in p.frame) (say.refusal_status g))) b
