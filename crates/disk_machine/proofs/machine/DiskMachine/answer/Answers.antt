use Rattle.disk_machine.proofs.Requests.{HasRequests-remove, length-after_remove}
use Rattle.disk_machine.proofs.machine.DiskMachine.answer.Goals as goal

pub returns : goal.returns
returns c =
    λ how m stands.
    record {
      disks = stands.disks;
      ready = stands.ready;
      mode = stands.mode;
      requests = HasRequests-remove c.args.self.now.requests c.remove.new.self m.requests c.args.n c.remove.ensures.updates.0 stands.requests;
      unanswered = length-after_remove c.args.self.now.requests c.remove.new.self m.requests c.args.n c.remove.result c.remove.ensures.value stands.requests stands.unanswered c.remove.ensures.len;
    }
