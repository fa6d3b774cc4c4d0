use Rattle.std.proofs.Common.{refl}
use Rattle.ioc_requests.proofs.Named.{scsi_io_named}
use Rattle.ioc_core.proofs.ioc.Ioc.send_command.Goals as goal

pub returns-clause-part : goal.returns-clause-part
returns-clause-part c =
    let named = scsi_io_named c.args.io.now c.args.post.frame c.requires.stands in
    rw (c.set_request.ensures.part, c.send_out.ensures.part, c.kept_of-request.ensures, c.command_of-command.ensures, c.queue_named-queue.ensures, c.smid_of-smid.ensures, named.handle) refl
