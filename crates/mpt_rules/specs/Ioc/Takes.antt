-- The controller: what each call does, and what it is asked for.
use Rattle.std.specs.Prelude.{ℕ, if◌then◌else◌, List}
use Rattle.mpi_doorbell.specs.DoorRegisters.{is_fault}
use Rattle.mpt_trace.specs.declared.item.Down.{Down}
use Rattle.mpt_trace.specs.declared.item.Down.TheVariants as down
use Rattle.mpt_trace.specs.declared.item.Out.TheVariants as out
use Rattle.mpt_rules.specs.Ioc.Parts.{Ioc, state_of}
use Rattle.mpt_rules.specs.Ioc.Posts.{ioc_takes_post, ioc_takes_return}
use Rattle.mpt_rules.specs.Ioc.Registers.{after_read, writes}
use Rattle.mpt_rules.specs.Ioc.Replies.{with_out_item}
use Rattle.mpt_rules.specs.Ioc.Tables.{is_operational, silently}
use Rattle.mpt_rules.specs.Outcome.{Happening}
pub use Rattle.mpt_rules.specs.Ioc.Back.{takes_back}
pub use Rattle.mpt_rules.specs.Ioc.Places.{IocPlace, InHighQueue, InNormalQueue, AtTheFabric, InUpOutbox, ioc_quiet, smid_at}
pub use Rattle.mpt_rules.specs.Ioc.Posts.{frame_here}
pub use Rattle.mpt_rules.specs.Ioc.Sending.{front_out, front_up_on, out_sent, up_sent_on}
pub use Rattle.mpt_rules.specs.Ioc.Steps.{steps_high, steps_normal}
pub use Rattle.mpt_rules.specs.Ioc.Tables.{binding_of}

-- a post and a returned frame are passed over where the controller isn't OPERATIONAL
abbrev pub posts_if_operational : Ioc → ℕ → List ℕ → List ℕ → Ioc
posts_if_operational ioc descriptor frame payload = if is_operational (state_of ioc) then ioc_takes_post ioc descriptor frame payload else ioc

-- a reply frame is returned
abbrev pub returns_if_operational : Ioc → ℕ → Ioc
returns_if_operational ioc address = if is_operational (state_of ioc) then ioc_takes_return ioc address else ioc

-- the host's last word is passed on to the fabric
abbrev pub takes_stop : Ioc → Ioc
takes_stop ioc = if is_fault (state_of ioc) then ioc else with_out_item ioc out.Stop

-- an item of the host is taken
abbrev pub takes_down : Ioc → Down → Happening Ioc
takes_down ioc (down.Write reg value) = writes ioc reg value
takes_down ioc (down.Read reg) = silently (after_read ioc reg)
takes_down ioc (down.Post descriptor frame payload) = silently (posts_if_operational ioc descriptor frame payload)
takes_down ioc (down.Return address index) = silently (returns_if_operational ioc address)
takes_down ioc down.Stop = silently (takes_stop ioc)
