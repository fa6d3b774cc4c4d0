use Rattle.std.proofs.Common.{refl}
use Rattle.mpt_rules.specs.Host.Inputs.{host_aborts}
use Rattle.mpt_c_hosts.proofs.Refusals.{abort_tells, refused_as}
use Rattle.mpt_c_hosts.proofs.asking.abort.Goals as goal

pub returns-in-Ok : goal.returns-in-Ok
returns-in-Ok c =
    (c.in-Ok.ensures.given, record { host = c.in-Ok.ensures.ok; told = abort_tells c.args.host.now.host c.args.number _ _ c.in-Ok.ensures.told }, refl)

pub returns-in-Err : goal.returns-in-Err
returns-in-Err c =
    refused_as c.args.host.now c.abort.new.self c.args.smid.now c.args.cause.now c.refuse.new.cause (host_aborts c.args.host.now.host c.args.number) c.refuse.result _
    c.refuse.ensures c.in-Err.ensures.refused c.in-Err.ensures.stays
