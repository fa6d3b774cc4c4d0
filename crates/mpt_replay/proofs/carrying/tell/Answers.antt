use Rattle.std.proofs.Common.{◌≡◌, ◌∷◌, [], subst}
use Rattle.mpt_trace.specs.declared.input.Input.{Input}
use Rattle.mpt_wire.specs.Fits.Lines.{Asked}
use Rattle.mpt_replay.specs.Carrying.{HasCarriedOut}
use Rattle.mpt_replay.proofs.Lines.{input_told}
use Rattle.mpt_replay.proofs.carrying.tell.Goals as goal

pub returns : goal.returns
returns c =
    let copied = c.in_ok-copy.ensures in
    let same : c.in_ok-copy.field-0 ≡ c.args.input.now = cc in
    subst (λ (i : Input). HasCarriedOut c.args.system.now (Asked i ∷ []) c.input.result c.input.new.self) same
    (input_told c.args.system.now c.input.new.self c.in_ok-copy.field-0 c.input.result c.input.ensures.ok c.input.ensures.memory)
