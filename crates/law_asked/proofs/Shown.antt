-- What is shown of what is at the fabric.
use Rattle.std.specs.Prelude.{◌≡◌, ℕ, ◌^◌, ◌<◌, ◌≤◌, true}
use Rattle.hex.specs.Hex.{IsBytes}
use Rattle.scsi_disk.specs.Command.{fits}
use Rattle.scsi_disk.specs.declared.command.Command.{Command}
use Rattle.mpt_rules.specs.Host.Posts.{command_asked, frame_asked}
use Rattle.mpt_rules.specs.Ioc.Commands.{command_in}
use Rattle.mpt_rules.specs.Law.{NothingIsStrange}
use Rattle.mpt_rules.specs.World.Cases.{Case, entries, happens}
use Rattle.mpt_rules.specs.World.State.{World}
use Rattle.law_facts.specs.Facts.{Facts}
use Rattle.law_facts.specs.History.{History, history_after}
use Rattle.law_doors.proofs.Whole.{whole_kept}
use Rattle.law_messages.specs.Numbers.{AbortsAreAccepted}
use Rattle.law_messages.proofs.Shown.{leads}
use Rattle.law_asked.specs.Asked.{ResetsWait, TasksStand}
use Rattle.law_asked.proofs.FabricKept.{fabric_kept}
use Rattle.law_asked.proofs.HeldKept.{held_kept}
use Rattle.law_asked.proofs.ReadBack.{command_read}

pub tasks_are_kept : (w : World) (h : History) (c : Case) → Facts w h → NothingIsStrange w → AbortsAreAccepted w → TasksStand (happens w c) (history_after h (entries w c))
tasks_are_kept w h c f plain a = fabric_kept w h f plain c (leads w h c f plain a)

pub held_resets_are_kept : (w : World) (h : History) (c : Case) → Facts w h → NothingIsStrange w → AbortsAreAccepted w → ResetsWait (happens w c)
held_resets_are_kept w h c f plain a = held_kept w h f plain c (whole_kept w h f plain c) (leads w h c f plain a)

pub commands_are_read_as_written : (c : Command) (s handle : ℕ) → fits c ≡ true → IsBytes c.cdb → c.lun ≡ 0 → 1 ≤ s → s ≤ 256 → handle < 2 ^ 16 → command_in (frame_asked (command_asked s handle c)) c.payload ≡ c
commands_are_read_as_written c s handle f b u l m t = command_read c f b s handle l m t u
