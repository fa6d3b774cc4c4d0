use Rattle.std.proofs.Common.{refl}
use Rattle.mpt_rules.specs.Host.Inputs.{host_resets_target}
use Rattle.mpt_c_hosts.proofs.Refusals.{target_tells, refused_as}
use Rattle.mpt_c_hosts.proofs.asking.target_reset.Goals as goal

pub returns-in-Ok : goal.returns-in-Ok
returns-in-Ok c =
    (c.in-Ok.ensures.given, record { host = c.in-Ok.ensures.ok; told = target_tells c.args.host.now.host c.args.address _ _ c.in-Ok.ensures.told }, refl)

pub returns-in-Err : goal.returns-in-Err
returns-in-Err c =
    refused_as c.args.host.now c.target_reset.new.self c.args.smid.now c.args.cause.now c.refuse.new.cause (host_resets_target c.args.host.now.host c.args.address) c.refuse.result _
    c.refuse.ensures c.in-Err.ensures.refused c.in-Err.ensures.stays
