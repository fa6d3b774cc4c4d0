use Rattle.std.proofs.Common.{refl, sym}
use Rattle.mpt_script.proofs.Blocks.{last_pushed}
use Rattle.mpt_script.proofs.plan.push_onto_last.Goals as goal

pub returns-in-Some : goal.returns-in-Some
returns-in-Some c = last_pushed c.push.result c.args.submitters.now.items _ c.in-Some.inputs.now c.push.new.self c.args.input (sym c.args.submitters.now.ok.0) (c.in-Some.ensures.variant.0 refl) c.in-Some.ensures.value c.push.ensures
