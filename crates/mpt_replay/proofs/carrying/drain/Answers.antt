use Rattle.std.proofs.Common.{◌∷◌, []}
use Rattle.mpt_wire.specs.Fits.Lines.{Drained}
use Rattle.mpt_replay.proofs.Lines.{drain_carried_out, drain_so_far, on_wanted}
use Rattle.mpt_replay.proofs.carrying.drain.Goals as goal

pub returns-in_err-drain : goal.returns-in_err-drain
returns-in_err-drain c =
    on_wanted c.args.system.now c.drain.new.self (Drained ∷ []) c.from_residual.result c.from_residual.ensures.0 (drain_so_far c.args.system.now c.drain.new.self c.in_err-drain.ensures.memory)

pub returns : goal.returns
returns c = drain_carried_out c.args.system.now c.drain.new.self c.in_ok-drain.ensures.ok
