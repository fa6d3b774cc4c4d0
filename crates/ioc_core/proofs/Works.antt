-- What is done with a request, by the numbers of its message.
use Rattle.std.proofs.Common.{◌≡◌, ◌≢◌, ℕ, ◌==◌, Bool, true, false, not, ◌&&◌, ◌||◌, bit_and, if◌then◌else◌, List, [], take, Option, Some, None, option_map, refl, sym, ap, ◌∙◌, arith}
use Rattle.std.specs.FinSet as set
use Rattle.std.proofs.lemmas.Bool.Decides.{nat_tests}
use Rattle.config_pages.specs.ConfigAsk.{ConfigAskStands}
use Rattle.config_pages.specs.declared.config_ask.ConfigAsk.{ConfigAsk}
use Rattle.event_msgs.specs.EventAck.{EventAckStands}
use Rattle.event_msgs.specs.EventAsk.{EventAskStands}
use Rattle.event_msgs.specs.declared.event_ack.EventAck.{EventAck}
use Rattle.event_msgs.specs.declared.event_ask.EventAsk.{EventAsk}
use Rattle.ioc_msgs.specs.UnitControl.{UnitControlStands}
use Rattle.ioc_msgs.specs.declared.unit_control.UnitControl.{UnitControl}
use Rattle.scsi_msgs.specs.ScsiIo.{ScsiIoStands}
use Rattle.scsi_msgs.specs.TaskAsk.{TaskAskStands}
use Rattle.scsi_msgs.specs.declared.scsi_io.ScsiIo.{ScsiIo}
use Rattle.scsi_msgs.specs.declared.task_ask.TaskAsk.{TaskAsk}
use Rattle.mpt_messages.specs.declared.ioc_reply.IocReply.TheVariants as reply
use Rattle.mpt_wire.specs.Messages.Fields.{controlled_handle_in, dev_handle_in, handle_in, operation_in, remove_device, smid_in}
use Rattle.mpt_rules.specs.declared.binding.Binding.{Binding}
use Rattle.mpt_rules.specs.declared.binding.Binding.TheVariants as binding
use Rattle.mpt_rules.specs.declared.post.Post.{Post}
use Rattle.mpt_rules.specs.declared.status.TheConstants.{IOC_STATUS_BUSY, IOC_STATUS_CONFIG_INVALID_ACTION, IOC_STATUS_CONFIG_INVALID_PAGE, IOC_STATUS_CONFIG_INVALID_TYPE, IOC_STATUS_INVALID_FIELD, IOC_STATUS_INVALID_SGL, IOC_STATUS_INVALID_STATE, IOC_STATUS_SCSI_INVALID_DEVHANDLE, IOC_STATUS_SUCCESS}
use Rattle.mpt_rules.specs.Ioc.Commands.{ends_scsi, is_inconsistent, serves_scsi, works_scsi}
use Rattle.mpt_rules.specs.Ioc.Configuration.{ends_config, gives_page, handle_asked, is_other_action, is_other_type, page_at, page_bytes, page_given, page_of, page_wanted, works_config}
use Rattle.mpt_rules.specs.Ioc.Parts.{Ioc}
use Rattle.mpt_rules.specs.Ioc.Replies.{ioc_answers}
use Rattle.mpt_rules.specs.Ioc.Requests.{ioc_ends_removal, removes, removes_if, works_ack, works_notification, works_unit_control}
use Rattle.mpt_rules.specs.Ioc.Tables.{binding_of, has_commands, next_present, silently}
use Rattle.mpt_rules.specs.Ioc.Tasks.{fails_task, ioc_aborts, ioc_resets_target, works_task}
use Rattle.ioc_tables.specs.Bindings.{is_gone}
use Rattle.ioc_requests.proofs.Named.{ConfigAskNamed, EventAckNamed, TaskAskNamed, UnitControlNamed, config_ask_named, event_ack_named, event_ask_named, scsi_io_named, task_ask_named, unit_control_named}
use Rattle.ioc_core.specs.Configuration.{config_refusal}
use Rattle.ioc_core.specs.Removing.{control_refusal, removal_refusal, removes_for}

-- ---- SCSI IOs

module _ (ioc : Ioc) (p : Post) (io : ScsiIo) (stands : ScsiIoStands io p.frame) where
  handles : (handle_in p.descriptor == dev_handle_in p.frame) ≡ (handle_in p.descriptor == io.dev_handle)
  handles = ap (λ (h : ℕ). handle_in p.descriptor == h) (scsi_io_named io p.frame stands).handle

  pub scsi_other : handle_in p.descriptor ≢ io.dev_handle → works_scsi ioc p ≡ ends_scsi ioc p IOC_STATUS_INVALID_FIELD
  scsi_other other =
      let differs : (handle_in p.descriptor == io.dev_handle) ≡ false = grind (arith, nat_tests, other) in
      rw (handles ∙ differs) refl

  pub scsi_inconsistent : handle_in p.descriptor ≡ io.dev_handle → is_inconsistent p.frame p.payload ≡ true → works_scsi ioc p ≡ ends_scsi ioc p IOC_STATUS_INVALID_SGL
  scsi_inconsistent same is =
      let equal : (handle_in p.descriptor == io.dev_handle) ≡ true = grind (arith, nat_tests, same) in
      rw (handles ∙ equal, is) refl

  pub scsi_served : handle_in p.descriptor ≡ io.dev_handle → is_inconsistent p.frame p.payload ≡ false → (b : Binding) → binding_of ioc io.dev_handle ≡ b → works_scsi ioc p ≡ serves_scsi ioc p b
  scsi_served same isnt b is =
      let equal : (handle_in p.descriptor == io.dev_handle) ≡ true = grind (arith, nat_tests, same) in
      rw (handles ∙ equal, isnt) (ap (λ (h : ℕ). serves_scsi ioc p (binding_of ioc h)) (scsi_io_named io p.frame stands).handle ∙ ap (serves_scsi ioc p) is)

-- ---- task management

module _ (ioc : Ioc) (p : Post) (ask : TaskAsk) (stands : TaskAskStands ask p.frame) where
  named : TaskAskNamed ask p.frame
  named = task_ask_named ask p.frame stands

  pub task_aborts : ask.task_type ≡ 1 → works_task ioc p ≡ ioc_aborts ioc (smid_in p.descriptor) ask.task_mid ask.dev_handle
  task_aborts is = rw (named.task_type, is, named.task_mid, named.handle) refl

  pub task_resets : ask.task_type ≡ 3 → works_task ioc p ≡ ioc_resets_target ioc (smid_in p.descriptor) ask.dev_handle (binding_of ioc ask.dev_handle)
  task_resets is = rw (named.task_type, is, named.handle) refl

  pub task_fails : ask.task_type ≢ 1 → ask.task_type ≢ 3 → works_task ioc p ≡ fails_task ioc (smid_in p.descriptor) ask.dev_handle ask.task_type
  task_fails not_abort not_reset =
      let a : (ask.task_type == 1) ≡ false = grind (arith, nat_tests, not_abort) in
      let r : (ask.task_type == 3) ≡ false = grind (arith, nat_tests, not_reset) in
      rw (named.task_type, named.handle, a, r) refl

-- ---- configuration requests

unequal : (a b : ℕ) → a ≢ b → (a == b) ≡ false
unequal a b differs = grind (arith, nat_tests, differs)

module _ (ask : ConfigAsk) (frame : List ℕ) (stands : ConfigAskStands ask frame) where
  asked : ConfigAskNamed ask frame
  asked = config_ask_named ask frame stands

  pub config_action : (not (ask.action == 0) && not (ask.action == 1)) ≡ true → Some IOC_STATUS_CONFIG_INVALID_ACTION ≡ config_refusal frame
  config_action other = rw (asked.action, other) refl

  pub config_type : (not (ask.action == 0) && not (ask.action == 1)) ≡ false → (not (bit_and ask.page_type 15 == 15) || not (ask.ext_page_type == 18)) ≡ true → Some IOC_STATUS_CONFIG_INVALID_TYPE ≡ config_refusal frame
  config_type action other = rw (asked.action, action, asked.page_type, asked.ext_page_type, other) refl

  pub config_passes : (not (ask.action == 0) && not (ask.action == 1)) ≡ false → (not (bit_and ask.page_type 15 == 15) || not (ask.ext_page_type == 18)) ≡ false → None ≡ config_refusal frame
  config_passes action same = rw (asked.action, action, asked.page_type, asked.ext_page_type, same) refl

  module _ (ioc : Ioc) where
    pub asked_by_handle : bit_and ask.page_address 0xf000_0000 ≡ 0x2000_0000 → Some (bit_and ask.page_address 0xffff) ≡ handle_asked ioc frame
    asked_by_handle is = rw (asked.page_address, is) refl

    pub asked_next : bit_and ask.page_address 0xf000_0000 ≡ 0 → next_present ioc (bit_and ask.page_address 0xffff) ≡ handle_asked ioc frame
    asked_next is = rw (asked.page_address, is) refl

    pub asked_none : bit_and ask.page_address 0xf000_0000 ≢ 0x2000_0000 → bit_and ask.page_address 0xf000_0000 ≢ 0 → None ≡ handle_asked ioc frame
    asked_none not_handle not_next =
        let h = unequal (bit_and ask.page_address 0xf000_0000) 0x2000_0000 not_handle in
        let n = unequal (bit_and ask.page_address 0xf000_0000) 0 not_next in
        rw (asked.page_address, h, n) refl

    pub page_other : ask.page_number ≢ 0 → None ≡ option_map (page_given frame) (page_wanted ioc frame)
    page_other other = let n = unequal ask.page_number 0 other in rw (asked.page_number, n) refl

    pub page_found : (handle address plug expander phy most : ℕ) (page : List ℕ) → ask.page_number ≡ 0 → handle_asked ioc frame ≡ Some handle → binding_of ioc handle ≡ binding.Present address plug expander phy
        → most ≡ (if ask.action == 1 then ask.sge_length else 0) → page ≡ take most (page_bytes handle address expander phy) → Some page ≡ option_map (page_given frame) (page_wanted ioc frame)
    page_found handle address plug expander phy most page number found bound most_is is =
        let wanted : page_wanted ioc frame ≡ Some (page_bytes handle address expander phy) = rw (asked.page_number, number) (ap (page_at ioc) found ∙ ap (page_of handle) bound) in
        let given : page_given frame (page_bytes handle address expander phy) ≡ page = rw (asked.action, asked.page_buffer) (by_action (ask.action == 1) (is ∙ ap (λ (n : ℕ). take n (page_bytes handle address expander phy)) most_is)) in
        sym (ap (option_map (page_given frame)) wanted ∙ ap Some given)
      where
        by_action : (b : Bool) → page ≡ take (if b then ask.sge_length else 0) (page_bytes handle address expander phy) → (if b then take ask.sge_length (page_bytes handle address expander phy) else []) ≡ page
        by_action true e = sym e
        by_action false e = sym e

module _ (ioc : Ioc) (p : Post) where
  pub config_refused : (status : ℕ) → Some status ≡ config_refusal p.frame → works_config ioc p ≡ ends_config ioc p status []
  config_refused status is = by_tests (is_other_action p.frame) (is_other_type p.frame) is
    where
      by_tests : (a t : Bool) → Some status ≡ (if a then Some IOC_STATUS_CONFIG_INVALID_ACTION else if t then Some IOC_STATUS_CONFIG_INVALID_TYPE else None)
          → (if a then ends_config ioc p IOC_STATUS_CONFIG_INVALID_ACTION [] else if t then ends_config ioc p IOC_STATUS_CONFIG_INVALID_TYPE [] else gives_page ioc p (page_wanted ioc p.frame)) ≡ ends_config ioc p status []
      by_tests true t e = let same : IOC_STATUS_CONFIG_INVALID_ACTION ≡ status = cc in ap (λ (s : ℕ). ends_config ioc p s []) same
      by_tests false true e = let same : IOC_STATUS_CONFIG_INVALID_TYPE ≡ status = cc in ap (λ (s : ℕ). ends_config ioc p s []) same
      by_tests false false e = absurd (cc)

  passed : None ≡ config_refusal p.frame → works_config ioc p ≡ gives_page ioc p (page_wanted ioc p.frame)
  passed is = by_tests (is_other_action p.frame) (is_other_type p.frame) is
    where
      by_tests : (a t : Bool) → None ≡ (if a then Some IOC_STATUS_CONFIG_INVALID_ACTION else if t then Some IOC_STATUS_CONFIG_INVALID_TYPE else None)
          → (if a then ends_config ioc p IOC_STATUS_CONFIG_INVALID_ACTION [] else if t then ends_config ioc p IOC_STATUS_CONFIG_INVALID_TYPE [] else gives_page ioc p (page_wanted ioc p.frame)) ≡ gives_page ioc p (page_wanted ioc p.frame)
      by_tests true t e = absurd (cc)
      by_tests false true e = absurd (cc)
      by_tests false false e = refl

  pub config_pageless : None ≡ config_refusal p.frame → None ≡ option_map (page_given p.frame) (page_wanted ioc p.frame) → works_config ioc p ≡ ends_config ioc p IOC_STATUS_CONFIG_INVALID_PAGE []
  config_pageless is none = passed is ∙ by_page (page_wanted ioc p.frame) none
    where
      by_page : (o : Option (List ℕ)) → None ≡ option_map (page_given p.frame) o → gives_page ioc p o ≡ ends_config ioc p IOC_STATUS_CONFIG_INVALID_PAGE []
      by_page None e = refl
      by_page (Some page) e = absurd (cc)

  pub config_paged : (given : List ℕ) → None ≡ config_refusal p.frame → Some given ≡ option_map (page_given p.frame) (page_wanted ioc p.frame) → works_config ioc p ≡ ends_config ioc p IOC_STATUS_SUCCESS given
  config_paged given is some = passed is ∙ by_page (page_wanted ioc p.frame) some
    where
      by_page : (o : Option (List ℕ)) → Some given ≡ option_map (page_given p.frame) o → gives_page ioc p o ≡ ends_config ioc p IOC_STATUS_SUCCESS given
      by_page None e = absurd (cc)
      by_page (Some page) e = let same : given ≡ page_given p.frame page = cc in ap (λ (g : List ℕ). ends_config ioc p IOC_STATUS_SUCCESS g) (sym same)

-- ---- the other requests

pub notified : (ioc : Ioc) (p : Post) (ask : EventAsk) → EventAskStands ask p.frame → works_notification ioc p ≡ ioc_answers (record ioc { through = bit_and ask.event_masks0 268435456 == 0 }) (smid_in p.descriptor) reply.Notified
notified ioc p ask stands =
    let named = event_ask_named ask p.frame stands in
    rw named (ap (λ (b : Bool). ioc_answers (record ioc { through = b }) (smid_in p.descriptor) reply.Notified) (twice (bit_and ask.event_masks0 268435456 == 0)))
  where
    twice : (b : Bool) → not (not b) ≡ b
    twice true = refl
    twice false = refl

module _ (ioc : Ioc) (p : Post) (ack : EventAck) (stands : EventAckStands ack p.frame) where
  acking : EventAckNamed ack p.frame
  acking = event_ack_named ack p.frame stands

  pub acked : (ack.event == 28 && set.contains ioc.unacked ack.event_context) ≡ true → works_ack ioc p ≡ ioc_answers (record ioc { unacked = set.remove ioc.unacked ack.event_context }) (smid_in p.descriptor) (reply.Plain 8 IOC_STATUS_SUCCESS)
  acked is = rw (acking.event, acking.context, is) refl

  pub not_acked : (ack.event == 28 && set.contains ioc.unacked ack.event_context) ≡ false → works_ack ioc p ≡ ioc_answers ioc (smid_in p.descriptor) (reply.Plain 8 IOC_STATUS_INVALID_FIELD)
  not_acked isnt = rw (acking.event, acking.context, isnt) refl

-- ---- SAS IO unit control

module _ (ioc : Ioc) (handle operation : ℕ) where
  pub unrefused_gone : None ≡ control_refusal ioc handle operation → is_gone (binding_of ioc handle) ≡ true
  unrefused_gone is = by_operation (operation == remove_device) is
    where
      by_binding : (b : Binding) → None ≡ removal_refusal ioc handle b → is_gone b ≡ true
      by_binding binding.Unbound e = absurd (cc)
      by_binding (binding.Present address plug expander phy) e = absurd (cc)
      by_binding (binding.Gone address) e = refl

      by_operation : (b : Bool) → None ≡ (if b then removal_refusal ioc handle (binding_of ioc handle) else Some IOC_STATUS_INVALID_FIELD) → is_gone (binding_of ioc handle) ≡ true
      by_operation true e = by_binding (binding_of ioc handle) e
      by_operation false e = absurd (cc)

module _ (ioc : Ioc) (p : Post) (ask : UnitControl) (stands : UnitControlStands ask p.frame) where
  controlling : UnitControlNamed ask p.frame
  controlling = unit_control_named ask p.frame stands

  refusal_here : control_refusal ioc (controlled_handle_in p.frame) (operation_in p.frame) ≡ control_refusal ioc ask.dev_handle ask.operation
  refusal_here = ap (λ (h : ℕ). control_refusal ioc h (operation_in p.frame)) controlling.handle ∙ ap (λ (o : ℕ). control_refusal ioc ask.dev_handle o) controlling.operation

  ended : (status : ℕ) → silently (ioc_ends_removal ioc p status) ≡ silently (ioc_answers ioc (smid_in p.descriptor) (reply.Removed ask.dev_handle ask.operation status))
  ended status = rw (controlling.handle, controlling.operation) refl

  ended_as : (s status : ℕ) → Some status ≡ Some s → silently (ioc_ends_removal ioc p s) ≡ silently (ioc_answers ioc (smid_in p.descriptor) (reply.Removed ask.dev_handle ask.operation status))
  ended_as s status is = let same : s ≡ status = cc in ap (λ (t : ℕ). silently (ioc_ends_removal ioc p t)) same ∙ ended status

  pub control_refused : (status : ℕ) → Some status ≡ control_refusal ioc ask.dev_handle ask.operation → works_unit_control ioc p ≡ silently (ioc_answers ioc (smid_in p.descriptor) (reply.Removed ask.dev_handle ask.operation status))
  control_refused status is = by_operation (operation_in p.frame == remove_device) (is ∙ sym refusal_here)
    where
      by_commands : (b : Bool) → Some status ≡ (if b then Some IOC_STATUS_BUSY else None)
          → (if b then silently (ioc_ends_removal ioc p IOC_STATUS_BUSY) else removes ioc p) ≡ silently (ioc_answers ioc (smid_in p.descriptor) (reply.Removed ask.dev_handle ask.operation status))
      by_commands true e = ended_as IOC_STATUS_BUSY status e
      by_commands false e = absurd (cc)

      by_binding : (b : Binding) → Some status ≡ removal_refusal ioc (controlled_handle_in p.frame) b
          → removes_if ioc p b ≡ silently (ioc_answers ioc (smid_in p.descriptor) (reply.Removed ask.dev_handle ask.operation status))
      by_binding binding.Unbound e = ended_as IOC_STATUS_SCSI_INVALID_DEVHANDLE status e
      by_binding (binding.Present address plug expander phy) e = ended_as IOC_STATUS_INVALID_STATE status e
      by_binding (binding.Gone address) e = by_commands (has_commands ioc (controlled_handle_in p.frame)) e

      by_operation : (b : Bool) → Some status ≡ (if b then removal_refusal ioc (controlled_handle_in p.frame) (binding_of ioc (controlled_handle_in p.frame)) else Some IOC_STATUS_INVALID_FIELD)
          → (if b then removes_if ioc p (binding_of ioc (controlled_handle_in p.frame)) else silently (ioc_ends_removal ioc p IOC_STATUS_INVALID_FIELD)) ≡ silently (ioc_answers ioc (smid_in p.descriptor) (reply.Removed ask.dev_handle ask.operation status))
      by_operation true e = by_binding (binding_of ioc (controlled_handle_in p.frame)) e
      by_operation false e = ended_as IOC_STATUS_INVALID_FIELD status e

  pub control_removes : None ≡ control_refusal ioc ask.dev_handle ask.operation → works_unit_control ioc p ≡ removes_for ioc (smid_in p.descriptor) ask.dev_handle ask.operation
  control_removes is = by_operation (operation_in p.frame == remove_device) (is ∙ sym refusal_here)
    where
      all : removes ioc p ≡ removes_for ioc (smid_in p.descriptor) ask.dev_handle ask.operation
      all = ap (λ (h : ℕ). removes_for ioc (smid_in p.descriptor) h (operation_in p.frame)) controlling.handle ∙ ap (λ (o : ℕ). removes_for ioc (smid_in p.descriptor) ask.dev_handle o) controlling.operation

      by_commands : (b : Bool) → None ≡ (if b then Some IOC_STATUS_BUSY else None)
          → (if b then silently (ioc_ends_removal ioc p IOC_STATUS_BUSY) else removes ioc p) ≡ removes_for ioc (smid_in p.descriptor) ask.dev_handle ask.operation
      by_commands true e = absurd (cc)
      by_commands false e = all

      by_binding : (b : Binding) → None ≡ removal_refusal ioc (controlled_handle_in p.frame) b → removes_if ioc p b ≡ removes_for ioc (smid_in p.descriptor) ask.dev_handle ask.operation
      by_binding binding.Unbound e = absurd (cc)
      by_binding (binding.Present address plug expander phy) e = absurd (cc)
      by_binding (binding.Gone address) e = by_commands (has_commands ioc (controlled_handle_in p.frame)) e

      by_operation : (b : Bool) → None ≡ (if b then removal_refusal ioc (controlled_handle_in p.frame) (binding_of ioc (controlled_handle_in p.frame)) else Some IOC_STATUS_INVALID_FIELD)
          → (if b then removes_if ioc p (binding_of ioc (controlled_handle_in p.frame)) else silently (ioc_ends_removal ioc p IOC_STATUS_INVALID_FIELD)) ≡ removes_for ioc (smid_in p.descriptor) ask.dev_handle ask.operation
      by_operation true e = by_binding (binding_of ioc (controlled_handle_in p.frame)) e
      by_operation false e = absurd (cc)
