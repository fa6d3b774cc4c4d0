-- Messages and handshakes that keep the rules, and ones that break them.
use Rattle.std.proofs.Common.{◌≡◌, ℕ, ◌+◌, ◌^◌, ◌<◌, ◌==◌, false, slice_index, List, [], ◌∷◌, ◌++◌, Some, None, replicate, refl, ap, arith}
use Rattle.std.proofs.lemmas.Grind.{common_steps}
use Rattle.mpi_layout.specs.Rows.{field}
use Rattle.mpi_doorbell.specs.declared.registers.TheConstants.{DOORBELL, WRITE_SEQUENCE, HOST_INTERRUPT_STATUS}
use Rattle.mpt_messages.specs.declared.host_ask.HostAsk.{HostAsk}
use Rattle.mpt_messages.specs.declared.host_ask.HostAsk.TheVariants as ask
use Rattle.mpt_messages.specs.declared.ioc_reply.IocReply.{IocReply}
use Rattle.mpt_messages.specs.declared.ioc_reply.IocReply.TheVariants as reply
use Rattle.config_pages.specs.ConfigReply.{config_reply_layout, config_reply_values}
use Rattle.scsi_msgs.specs.ScsiReply.{scsi_reply_layout, scsi_reply_values}
use Rattle.ioc_msgs.specs.IocFacts.{ioc_facts_layout, ioc_facts_values}
use Rattle.ioc_msgs.specs.IocInit.{ioc_init_layout, ioc_init_values}
use Rattle.ioc_msgs.specs.IocFactsReply.{ioc_facts_reply_layout, ioc_facts_reply_values}
use Rattle.ioc_msgs.specs.PortFacts.{port_facts_layout, port_facts_values}
use Rattle.ioc_msgs.specs.UnitControlReply.{unit_control_reply_layout, unit_control_reply_values}
use Rattle.mpt_messages.specs.FrameBytes.{message_frame}
use Rattle.mpt_messages.specs.HostFrames.{host_message}
use Rattle.mpt_messages.specs.IocFrames.{removal_answered, reply_frame}
use Rattle.mpt_messages.specs.declared.message.Message.TheVariants as message
use Rattle.mpi_rings.specs.declared.request_descriptor.PostKind.TheVariants as post
use Rattle.mpt_wire.specs.Messages.Fields.{address_descriptor, post_descriptor, reply_frame_address, success_descriptor}
use Rattle.mpt_wire.specs.Messages.Standing.{Carries, IsHostPost, IsIocReply, host_descriptor}
use Rattle.mpt_trace.specs.declared.lane.LaneName.TheVariants as lane
use Rattle.mpt_trace.specs.declared.item.Item.TheVariants as item
use Rattle.mpt_trace.specs.declared.item.Down.TheVariants as down
use Rattle.mpt_trace.specs.declared.item.Up.TheVariants as up
use Rattle.mpt_trace.specs.declared.input.Input.TheVariants as input
use Rattle.mpt_trace.specs.declared.entry.Entry.{Entry}
use Rattle.mpt_trace.specs.declared.entry.Entry.TheVariants as entry
use Rattle.mpt_wire.specs.Walks.Passes.{state_after}
use Rattle.mpt_wire.specs.Messages.DoorbellWords.{DoorbellTalks, IsBegun, IsDoorAsk, Talks, asked_bytes, door_next, quiet_door, replied_bytes}

-- two numbers that differ
apart : (a b : ℕ) → (a == b) ≡ false → a ≡ b → ⊥
apart a b n e = grind (arith, common_steps)

pub same_some : (a b : ℕ) → Some a ≡ Some b → a ≡ b
same_some a b e = cc

-- ---- the host's register accesses

abbrev pub writes : ℕ → Entry
writes value = entry.Put lane.Down (item.Down (down.Write DOORBELL value))

abbrev clears : Entry
clears = entry.Put lane.Down (item.Down (down.Write HOST_INTERRUPT_STATUS 0))

-- the Doorbell is read, with this value
abbrev pub reads : ℕ → List Entry
reads value = entry.Put lane.Down (item.Down (down.Read DOORBELL)) ∷ entry.Take lane.Up (item.Up (up.Value value)) ∷ clears ∷ []

-- IOC Facts is opened with 3 dwords, and written
abbrev asks_facts : List Entry
asks_facts = writes 0x4203_0000 ∷ writes 0x0300_0000 ∷ writes 0 ∷ writes 0 ∷ []

-- its message's bytes are those
facts_sent : (state_after door_next quiet_door asks_facts).talk ≡ Talks 3 (asked_bytes ask.Facts) []
unfolding ioc_facts_layout ioc_facts_values
facts_sent = refl

-- the first two words that are read are the beginning of its reply
facts_begun : (state_after door_next quiet_door (asks_facts ++ (reads 0x1800_0200 ++ reads 0x1800_0310))).talk ≡ Talks 3 (asked_bytes ask.Facts) (0x00 ∷ 0x02 ∷ 0x10 ∷ 0x03 ∷ [])
unfolding ioc_facts_layout ioc_facts_values
facts_begun = refl

-- a handshake that is opened and whose first dword is written
opened : DoorbellTalks 1 (writes 0x4203_0000 ∷ writes 0x0300_0000 ∷ [])
unfolding ioc_facts_layout ioc_facts_values ioc_facts_reply_layout ioc_facts_reply_values
opened = (
  (tt, record { ask = ask.Facts; reply = reply.Facts 0 1; asked = tt; replied = refl; size = refl; unsent = asked_bytes ask.Facts; message = refl; unheard = replied_bytes (reply.Facts 0 1); words = refl }),
  ((tt, record { ask = ask.Facts; reply = reply.Facts 0 1; asked = tt; replied = refl; size = refl; unsent = replicate 8 0; message = refl; unheard = replied_bytes (reply.Facts 0 1); words = refl }), tt),
)

-- another first dword
another_dword : DoorbellTalks 1 (writes 0x4203_0000 ∷ writes 0x0400_0000 ∷ []) → ⊥
unfolding ioc_facts_layout ioc_facts_values port_facts_layout port_facts_values ioc_init_layout ioc_init_values
another_dword p = by_ask p.1.0.1.ask p.1.0.1.asked p.1.0.1.unsent p.1.0.1.message
  where
    by_ask : (a : HostAsk) → IsDoorAsk 1 a → (unsent : List ℕ) → (0 ∷ 0 ∷ 0 ∷ 4 ∷ []) ++ unsent ≡ asked_bytes a → ⊥
    by_ask ask.Facts d unsent e = apart 4 3 refl (ap (λ xs. slice_index xs 3) e)
    by_ask ask.PortFacts d unsent e = apart 4 5 refl (ap (λ xs. slice_index xs 3) e)
    by_ask (ask.Init queues) d unsent e = apart 4 2 refl (ap (λ xs. slice_index xs 3) e)
    by_ask _ d unsent e = absurd d

-- a handshake that is cut off where no reset was asked
cut_unasked : DoorbellTalks 1 (writes 0x4203_0000 ∷ entry.Put lane.Down (item.Down (down.Write WRITE_SEQUENCE 0)) ∷ []) → ⊥
cut_unasked p = let wrong : 0 < 0 = p.1.0.0 in absurd (omega arith)

-- where one was asked
cut_by_reset : DoorbellTalks 1 (writes 0x4203_0000 ∷ entry.Given input.Reset ∷ entry.Put lane.Down (item.Down (down.Write WRITE_SEQUENCE 0)) ∷ [])
unfolding ioc_facts_layout ioc_facts_values ioc_facts_reply_layout ioc_facts_reply_values
cut_by_reset = ((tt, begun), ((tt, begun), ((omega arith, tt), tt)))
  where
    begun : IsBegun 1 3 [] []
    begun = record { ask = ask.Facts; reply = reply.Facts 0 1; asked = tt; replied = refl; size = refl; unsent = asked_bytes ask.Facts; message = refl; unheard = replied_bytes (reply.Facts 0 1); words = refl }

-- ---- posts

-- a remove device as the host writes it
removal : IsHostPost 1 (post_descriptor post.Default 0 265 0) (message_frame (host_message (ask.Remove 9)))
removal = record { ask = ask.Remove 9; allowed = tt; own = tt; described = refl; framed = refl }

-- the descriptor of a SCSI IO isn't that of another kind
pub other_kind : (handle : ℕ) → post_descriptor post.ScsiIo 0 265 handle ≡ post_descriptor post.Default 1 265 0 → ⊥
other_kind handle e = absurd (omega arith)

-- with another reply queue than that of up
removal_on_a_queue : IsHostPost 2 (post_descriptor post.Default 1 265 0) (message_frame (host_message (ask.Remove 9))) → ⊥
removal_on_a_queue p = by_ask p.ask p.described
  where
    by_ask : (a : HostAsk) → host_descriptor 2 265 a ≡ Some (post_descriptor post.Default 1 265 0) → ⊥
    by_ask (ask.ScsiIo smid handle lun cdb cdb_len len write) e = other_kind handle (same_some (post_descriptor post.ScsiIo 0 265 handle) (post_descriptor post.Default 1 265 0) e)
    by_ask (ask.Task handle task_type task_mid) e = apart (post_descriptor post.HighPriority 0 265 0) (post_descriptor post.Default 1 265 0) refl (same_some (post_descriptor post.HighPriority 0 265 0) (post_descriptor post.Default 1 265 0) e)
    by_ask ask.Facts e = absurd cc
    by_ask ask.PortFacts e = absurd cc
    by_ask (ask.Init queues) e = absurd cc
    by_ask _ e = apart (post_descriptor post.Default 0 265 0) (post_descriptor post.Default 1 265 0) refl (same_some (post_descriptor post.Default 0 265 0) (post_descriptor post.Default 1 265 0) e)

-- ---- replies

succeeds : IsIocReply (success_descriptor 1) None [] []
succeeds = refl

-- a success on MSIxIndex 1
another_index : IsIocReply (success_descriptor 2 + 2 ^ 8) None [] [] → ⊥
another_index p = apart (success_descriptor 2 + 2 ^ 8) (success_descriptor 2) refl p

-- a remove device's reply
removed : IsIocReply (address_descriptor 265 (reply_frame_address 0)) (Some (reply_frame (reply.Removed 9 0x0d 0))) [] []
unfolding field unit_control_reply_layout unit_control_reply_values
removed = record {
  reply = reply.Removed 9 0x0d 0;
  allowed = tt;
  framed = refl;
  message = message.UnitControlReply (removal_answered 9 0x0d 0);
  stands = record { enough = omega arith; numbers = refl; obeyed = refl };
  answers = refl;
  described = refl;
  carries = (refl, refl);
}

-- that carries a page
removed_with_page : IsIocReply (address_descriptor 265 (reply_frame_address 0)) (Some (reply_frame (reply.Removed 9 0x0d 0))) (1 ∷ []) [] → ⊥
unfolding unit_control_reply_layout unit_control_reply_values scsi_reply_layout scsi_reply_values config_reply_layout config_reply_values
removed_with_page p = by_reply p.reply p.framed p.carries
  where
    by_reply : (r : IocReply) → reply_frame (reply.Removed 9 0x0d 0) ≡ reply_frame r → Carries r (1 ∷ []) [] → ⊥
    by_reply (reply.Scsi handle smid scsi_status status moved sense) e c = apart 0x1b 0 refl (ap (λ xs. slice_index xs 3) e)
    by_reply (reply.Config action ext_type status) e c = apart 0x1b 4 refl (ap (λ xs. slice_index xs 3) e)
    by_reply _ e c = let wrong = c.0 in cc
