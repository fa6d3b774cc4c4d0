use Rattle.mpt_rules.specs.Host.Inputs.{host_submits}
use Rattle.mpt_c_hosts.proofs.Refusals.{refused_as}
use Rattle.mpt_c_hosts.proofs.submitting.give.Goals as goal

pub returns-in-Err : goal.returns-in-Err
returns-in-Err c =
    refused_as c.args.host.now c.submit.new.self c.args.smid.now c.args.cause.now c.refuse.new.cause (host_submits c.args.host.now.host c.args.head.now.number c.args.head.now.address c.args.command) c.refuse.result _
    c.refuse.ensures c.in-Err.ensures.refused c.in-Err.ensures.stays
