-- Journals and lines, computed.
use Rattle.std.proofs.Common.{◌≡◌, ℕ, List, [], ◌∷◌, refl}
use Rattle.mpi_layout.specs.Rows.{field}
use Rattle.scsi_msgs.specs.ScsiIo.{scsi_io_layout, scsi_io_values}
use Rattle.mpt_trace.specs.declared.command_form.CommandForm.TheVariants as form
use Rattle.mpt_trace.specs.declared.choice.Choice.TheVariants as choice
use Rattle.mpt_trace.specs.declared.entry.Entry.{Entry}
use Rattle.mpt_trace.specs.declared.entry.Entry.TheVariants as entry
use Rattle.mpt_trace.specs.declared.input.Input.TheVariants as input
use Rattle.mpt_trace.specs.declared.item.Ask.TheVariants as ask
use Rattle.mpt_trace.specs.declared.item.Back.TheVariants as back
use Rattle.mpt_trace.specs.declared.item.Item.TheVariants as item
use Rattle.mpt_trace.specs.declared.item.Out.TheVariants as out
use Rattle.mpt_trace.specs.declared.lane.LaneName.TheVariants as lane
use Rattle.mpt_trace.specs.declared.parties.Party.TheVariants as party
use Rattle.mpt_rules.specs.World.Cases.{Chosen, Told, run}
use Rattle.mpt_rules.specs.World.Counts.{how_many, post_count, reply_count}
use Rattle.mpt_rules.specs.World.Lines.{down_line, high_posts, high_line, normal_posts, normal_line, up_line}
use Rattle.mpt_rules.specs.World.News.{notices_of}
use Rattle.mpt_rules.specs.Session.OpenCases.{FabricCase}
use Rattle.mpt_rules.specs.Session.Journals.{At, Block, fabric_journal, merge, puts_of, takes_of}
use Rattle.mpt_rules.proofs.WorldExampleParts.{A, answered, one_disk, plugged_disk, posted, up_fabric}

-- ---- journals

abbrev block : ℕ → List Entry → Block
block stamp entries = record { stamp = stamp; value = entries }

-- stamps decide, and where they are equal the host comes before the controller, the controller before the fabric,
-- and that before the submitters
merged_by_stamp : merge (
    record { party = party.Host; moments = block 2 (entry.HostUp ∷ entry.ResetDone ∷ []) ∷ block 5 (entry.HostUp ∷ []) ∷ [] }
    ∷ record { party = party.Ioc; moments = block 1 (entry.UnbindAll ∷ []) ∷ block 5 (entry.Unbind 9 ∷ []) ∷ [] }
    ∷ record { party = party.Fabric; moments = block 2 (entry.Run A 1 ∷ []) ∷ [] }
    ∷ record { party = party.Submitter 0; moments = block 1 (entry.Put (lane.Ask 0) (item.Ask ask.Bye) ∷ []) ∷ [] } ∷ [])
    ≡ entry.UnbindAll ∷ entry.Put (lane.Ask 0) (item.Ask ask.Bye) ∷ entry.HostUp ∷ entry.ResetDone ∷ entry.Run A 1 ∷ entry.HostUp ∷ entry.Unbind 9 ∷ []
merged_by_stamp = refl

abbrev a_link : List (At FabricCase)
a_link = record { stamp = 3; value = FabricCase.Takes (out.Link 1) } ∷ record { stamp = 4; value = FabricCase.Puts } ∷ []

-- the fabric takes a link and says so
linked : fabric_journal (up_fabric []) a_link
    ≡ block 3 (entry.Take lane.Out (item.Out (out.Link 1)) ∷ []) ∷ block 4 (entry.Put lane.Back (item.Back (back.Linked 1)) ∷ []) ∷ []
linked = refl

linked_puts : puts_of lane.Back (fabric_journal (up_fabric []) a_link) ≡ record { stamp = 4; value = item.Back (back.Linked 1) } ∷ []
linked_puts = refl

linked_takes : takes_of lane.Out (fabric_journal (up_fabric []) a_link) ≡ record { stamp = 3; value = item.Out (out.Link 1) } ∷ []
linked_takes = refl

-- ---- lines

-- a put leaves the line as it is
same_line : down_line (run (posted form.Tur (plugged_disk A 0 ∷ [])) (Chosen choice.HostPut ∷ [])) ≡ down_line (posted form.Tur (plugged_disk A 0 ∷ []))
unfolding field scsi_io_layout scsi_io_values
same_line = refl

-- and so does a taken post with the line of its queue
same_queue_line : normal_line (run (posted form.Tur (plugged_disk A 0 ∷ [])) (Chosen choice.HostPut ∷ Chosen choice.IocTake ∷ [])) ≡ normal_line (posted form.Tur (plugged_disk A 0 ∷ []))
unfolding field scsi_io_layout scsi_io_values normal_posts
same_queue_line = refl

not_high : high_line (posted form.Tur (plugged_disk A 0 ∷ [])) ≡ []
unfolding field scsi_io_layout scsi_io_values high_posts
not_high = refl

one_post : post_count 1 (down_line (posted form.Tur (plugged_disk A 0 ∷ []))) ≡ 1
unfolding field scsi_io_layout scsi_io_values post_count how_many
one_post = refl

one_reply : reply_count 1 (up_line (answered form.Tur []) 0) ≡ 1
unfolding reply_count how_many
one_reply = refl

-- an unplug and a plug of a disk, as the notices tell them
plugged_again : notices_of A (run (one_disk 1) (Told (input.Unplug A) ∷ Told (input.Plug A 0 3) ∷ [])).fabric.notices ≡ back.Unplugged A 1 0 0 ∷ back.Plugged A 2 0 3 ∷ []
unfolding notices_of
plugged_again = refl
