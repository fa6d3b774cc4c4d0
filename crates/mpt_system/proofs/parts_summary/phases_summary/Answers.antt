use Rattle.std.proofs.Common.{◌∙◌, take, arith}
use Rattle.mpt_system.proofs.Phases.{all_handles, handle_more, phase_there, room_there}
use Rattle.mpt_system.proofs.parts_summary.phases_summary.Goals as goal

pub add_handle-requires : goal.add_handle-requires
add_handle-requires c = room_there c.args.host.now.host.phases c.args.quiet c.loop-place.place c.loop-place.parts c.requires c.loop-place-test.true c.loop-place.invariant

pub loop-place-preserved : goal.loop-place-preserved
loop-place-preserved c =
    let phases = c.args.host.now.host.phases in
    let i = c.loop-place.place in
    handle_more phases c.args.quiet i c.phase.result c.add_handle.new.parts (omega (arith, c.requires, c.loop-place-test.true))
    (c.phase.ensures ∙ phase_there c.args.host.now.host i c.loop-place-test.true)
    (c.add_handle.ensures (take i phases) c.args.quiet c.loop-place.invariant)

pub returns : goal.returns
returns c = all_handles c.args.host.now.host.phases c.args.quiet c.loop-place.place c.loop-place.parts c.requires c.loop-place-test.false c.loop-place.invariant
