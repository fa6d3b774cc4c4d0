use Rattle.mpt_rules.specs.Fabric.Calls.{fabric_plugs, fabric_unplugs}
use Rattle.mpt_rules.specs.Fabric.Parts.{Fabric}
use Rattle.mpt_trace.specs.declared.input.Input.TheVariants as input
use Rattle.mpt_trace.specs.declared.refusal.RefusedCall.TheVariants as call
use Rattle.mpt_live.specs.Recorded.{Recorded}
use Rattle.mpt_live.proofs.Plugs.{plug_left, plug_stays, unplug_stays}
use Rattle.mpt_live.proofs.recorded_fabric.RecordedFabric.input.Goals as goal

pub returns-in-Plug : goal.returns-in-Plug
returns-in-Plug c =
    let before : Recorded Fabric = record { part = c.self.inside.fabric; row = c.self.inside.journal.row; clock = c.self.inside.clock } in
    let told = fabric_plugs c.self.inside.fabric c.in-Plug.address c.in-Plug.expander c.in-Plug.phy in
    let stays = plug_stays c.self.inside.fabric c.in-Plug.address c.in-Plug.expander c.in-Plug.phy in
    rw (c.in-Plug.is, ← c.self.view_is)
    (plug_left c.record_input.result (input.Plug c.in-Plug.address c.in-Plug.expander c.in-Plug.phy) (call.Plug c.in-Plug.address) c.plug-answer.result before c.plug-answer.new.self c.record_input.new.self told
    c.plug-answer.ensures.refused c.plug-answer.ensures.ok c.plug-answer.ensures.stays stays
    c.record_input.ensures.known c.record_input.ensures.part c.record_input.ensures.clock c.record_input.ensures.row)

pub returns-in-Unplug : goal.returns-in-Unplug
returns-in-Unplug c =
    let before : Recorded Fabric = record { part = c.self-in-Unplug.inside.fabric; row = c.self-in-Unplug.inside.journal.row; clock = c.self-in-Unplug.inside.clock } in
    let told = fabric_unplugs c.self-in-Unplug.inside.fabric c.in-Unplug.address in
    let stays = unplug_stays c.self-in-Unplug.inside.fabric c.in-Unplug.address in
    rw (c.in-Unplug.is, ← c.self-in-Unplug.view_is)
    (plug_left c.record_input-in-Unplug.result (input.Unplug c.in-Unplug.address) (call.Unplug c.in-Unplug.address) c.unplug-answer.result before c.unplug-answer.new.self c.record_input-in-Unplug.new.self told
    c.unplug-answer.ensures.refused c.unplug-answer.ensures.ok c.unplug-answer.ensures.stays stays
    c.record_input-in-Unplug.ensures.known c.record_input-in-Unplug.ensures.part c.record_input-in-Unplug.ensures.clock c.record_input-in-Unplug.ensures.row)
