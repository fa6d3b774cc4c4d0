-- Aborts and target resets at the controller.
use Rattle.std.proofs.Common.{◌≡◌, ℕ, [], ◌∷◌, ◌++◌, Bool, true, false, Some, replicate, refl}
use Rattle.mpi_layout.specs.Rows.{field}
use Rattle.scsi_msgs.specs.ScsiIo.{scsi_io_layout, scsi_io_values}
use Rattle.scsi_msgs.specs.ScsiReply.{scsi_reply_layout, scsi_reply_values}
use Rattle.scsi_msgs.specs.TaskAsk.{task_ask_layout, task_ask_values}
use Rattle.scsi_msgs.specs.TaskReply.{task_reply_layout, task_reply_values}
use Rattle.mpi_rings.specs.declared.request_descriptor.PostKind.TheVariants as post
use Rattle.mpt_messages.specs.declared.host_ask.HostAsk.TheVariants as ask
use Rattle.mpt_wire.specs.Messages.Fields.{post_descriptor}
use Rattle.mpt_trace.specs.declared.item.Back.TheVariants as back
use Rattle.mpt_trace.specs.declared.item.Down.{Down}
use Rattle.mpt_trace.specs.declared.item.Down.TheVariants as down
use Rattle.mpt_trace.specs.declared.item.Out.TheVariants as out
use Rattle.mpt_rules.specs.declared.at_fabric.AtFabric.TheVariants as at
use Rattle.mpt_rules.specs.Ioc.Parts.{Ioc}
use Rattle.mpt_rules.specs.Ioc.Tables.{request_at}
use Rattle.mpt_rules.proofs.IocExampleParts.{at_work, counts, hears_all, high, high_post, operational, ready_test, response_codes, scsi_post, seen, takes_all, tests, with_disk, with_gone_disk}

-- an abort of identifier 1 and a target reset, both of handle 0x0009
abbrev abort_1 : Down
abort_1 = high_post 257 (ask.Task 0x0009 1 1)

abbrev target_reset_as : ℕ → Down
target_reset_as smid = high_post smid (ask.Task 0x0009 3 0)

-- ---- refusals

-- a SCSI IO's frame by a high priority descriptor, and a frame whose TaskType there isn't
other_kind : seen (high (takes_all (with_disk 1) (high_post 257 (ready_test 1 0x0009) ∷ []))) 0 ≡ (257 ∷ 0x00 ∷ 0x0001 ∷ []) ∷ []
unfolding field scsi_io_layout scsi_io_values
other_kind = refl

faulty_field : seen (high (takes_all (with_disk 1) (high_post 257 (ask.Task 0x0009 2 0) ∷ []))) 0 ≡ (257 ∷ 0x01 ∷ 0x0007 ∷ []) ∷ []
unfolding field task_ask_layout task_ask_values
faulty_field = refl

-- a logical unit reset and a query task: IOCStatus 0x004a, ResponseCode 0x04
abbrev not_supported : Ioc
not_supported = high (high (takes_all (with_disk 1) (high_post 257 (ask.Task 0x0009 5 0) ∷ high_post 258 (ask.Task 0x0009 7 0) ∷ [])))

failed : seen not_supported 0 ≡ (257 ∷ 0x01 ∷ 0x004a ∷ []) ∷ (258 ∷ 0x01 ∷ 0x004a ∷ []) ∷ []
unfolding field task_ask_layout task_ask_values task_reply_layout task_reply_values
failed = refl

failed_codes : response_codes not_supported ≡ 0x04 ∷ 0x04 ∷ []
unfolding field task_ask_layout task_ask_values task_reply_layout task_reply_values
failed_codes = refl

-- ---- aborts

-- of a queued command, on a queue of its own: it is answered there, and then the abort
abbrev queued_abort : Ioc
queued_abort = high (takes_all (with_disk 2) (scsi_post 1 1 0x0009 (ready_test 1 0x0009) [] ∷ tests 2 0x0009 ∷ abort_1 ∷ []))

queued : seen queued_abort 1 ++ seen queued_abort 0 ≡ (1 ∷ 0x00 ∷ 0x0048 ∷ []) ∷ (257 ∷ 0x01 ∷ 0x0000 ∷ []) ∷ []
unfolding field scsi_io_layout scsi_io_values scsi_reply_layout scsi_reply_values task_ask_layout task_ask_values task_reply_layout task_reply_values
queued = refl

queued_count : counts queued_abort ≡ 1 ∷ []
unfolding field scsi_io_layout scsi_io_values scsi_reply_layout scsi_reply_values task_ask_layout task_ask_values task_reply_layout task_reply_values
queued_count = refl

-- the other command stays
queued_other : queued_abort.normal ≡ (takes_all (operational 2) (tests 2 0x0009 ∷ [])).normal
unfolding field scsi_io_layout scsi_io_values task_ask_layout task_ask_values
queued_other = refl

-- a queued frame that stands for nothing is stopped all the same
undecoded : seen (high (takes_all (with_disk 1) (down.Post (post_descriptor post.ScsiIo 0 1 0) (0x09 ∷ 0x00 ∷ replicate 126 0xff) [] ∷ abort_1 ∷ []))) 0
    ≡ (1 ∷ 0x00 ∷ 0x0048 ∷ []) ∷ (257 ∷ 0x01 ∷ 0x0000 ∷ []) ∷ []
unfolding field scsi_reply_layout scsi_reply_values task_ask_layout task_ask_values task_reply_layout task_reply_values
undecoded = refl

-- of a command at the fabric: the fabric is asked
abbrev sent_abort : Ioc
sent_abort = high (takes_all (record (at_work 1) { out = [] }) (abort_1 ∷ []))

sent : sent_abort.out ≡ out.Abort 257 1 ∷ []
unfolding field scsi_io_layout scsi_io_values task_ask_layout task_ask_values
sent = refl

sent_request : request_at sent_abort 257 ≡ Some (at.Abort 0x0009)
unfolding field scsi_io_layout scsi_io_values task_ask_layout task_ask_values
sent_request = refl

-- found there, and not found
abbrev aborted : Bool → Ioc
aborted found = hears_all sent_abort (back.Aborted 257 found ∷ back.Aborted 257 found ∷ [])

found : counts (aborted true) ++ counts (aborted false) ≡ 1 ∷ 0 ∷ []
unfolding field scsi_io_layout scsi_io_values task_ask_layout task_ask_values task_reply_layout task_reply_values
found = refl

-- of a command that was answered
answered : counts (high (takes_all (with_disk 1) (abort_1 ∷ []))) ≡ 0 ∷ []
unfolding field task_ask_layout task_ask_values task_reply_layout task_reply_values
answered = refl

-- ---- target resets

unbound : seen (high (takes_all (operational 1) (target_reset_as 257 ∷ []))) 0 ≡ (257 ∷ 0x01 ∷ 0x0042 ∷ []) ∷ []
unfolding field task_ask_layout task_ask_values task_reply_layout task_reply_values
unbound = refl

abbrev sent_reset : Ioc
sent_reset = high (takes_all (with_disk 1) (target_reset_as 257 ∷ []))

present : sent_reset.out ≡ out.TargetReset 257 0xA ∷ []
unfolding field task_ask_layout task_ask_values
present = refl

cleared : counts (hears_all sent_reset (back.Cleared 257 3 ∷ back.Cleared 257 4 ∷ [])) ≡ 3 ∷ []
unfolding field task_ask_layout task_ask_values task_reply_layout task_reply_values
cleared = refl

gone : seen (high (takes_all with_gone_disk (target_reset_as 257 ∷ []))) 0 ≡ (257 ∷ 0x01 ∷ 0x0000 ∷ []) ∷ []
unfolding field task_ask_layout task_ask_values task_reply_layout task_reply_values
gone = refl

-- two target resets of a gone disk wait for its commands, and are answered behind the last one's answer
abbrev held : Ioc
held = high (high (takes_all (hears_all (record (at_work 1) { through = false }) (back.Unplugged 0xA 1 0 0 ∷ [])) (target_reset_as 258 ∷ target_reset_as 257 ∷ [])))

held_until : seen (hears_all held (back.Gone 2 ∷ back.Gone 3 ∷ [])) 0 ≡ (2 ∷ 0x00 ∷ 0x0043 ∷ []) ∷ (3 ∷ 0x00 ∷ 0x0043 ∷ []) ∷ []
unfolding field scsi_io_layout scsi_io_values scsi_reply_layout scsi_reply_values task_ask_layout task_ask_values
held_until = refl

held_answered : seen (hears_all held (back.Gone 2 ∷ back.Gone 3 ∷ back.Gone 1 ∷ [])) 0
    ≡ (2 ∷ 0x00 ∷ 0x0043 ∷ []) ∷ (3 ∷ 0x00 ∷ 0x0043 ∷ []) ∷ (1 ∷ 0x00 ∷ 0x0043 ∷ []) ∷ (258 ∷ 0x01 ∷ 0x0000 ∷ []) ∷ (257 ∷ 0x01 ∷ 0x0000 ∷ []) ∷ []
unfolding field scsi_io_layout scsi_io_values scsi_reply_layout scsi_reply_values task_ask_layout task_ask_values task_reply_layout task_reply_values
held_answered = refl
