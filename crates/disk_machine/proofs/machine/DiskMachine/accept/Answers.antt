use Rattle.std.proofs.Common.{◌≡◌, ℕ, true, Option, Some, None, ap, sym, ◌∙◌}
use Rattle.std.specs.Option.{is_some}
use Rattle.mpt_trace.specs.Command.{command_named}
use Rattle.mpt_wire.specs.Machine.State.{Machine, OpenRequest}
use Rattle.mpt_wire.specs.Machine.Steps.{accepted}
use Rattle.disk_machine.specs.Machine.{StandsFor}
use Rattle.disk_machine.proofs.Requests.{HasRequests-insert, length-after_insert}
use Rattle.disk_machine.proofs.machine.DiskMachine.accept.Goals as goal

pub returns-in_ok-insert : goal.returns-in_ok-insert
returns-in_ok-insert c =
    λ m stands. by_plug m stands (m.ready c.args.address) (sym (ap is_some (stands.ready c.args.address)) ∙ (sym c.contains_key.ensures ∙ c.if-contains_key.true))
  where
    by_plug : (m : Machine) → StandsFor c.args.self.now m → (plug : Option ℕ) → is_some plug ≡ true → StandsFor (record c.args.self.now { requests = c.insert.new.self }) (accepted m c.args.n c.args.address (command_named c.args.form.now) plug)
    by_plug m stands None some = cc
    by_plug m stands (Some plug) some =
        let same : c.args.form.now ≡ c.in_ok-form.form = cc c.in_ok-form.ensures in
        let r : OpenRequest = record { address = c.args.address; plug = plug; command = command_named c.args.form.now } in
        record {
          disks = stands.disks;
          ready = stands.ready;
          mode = stands.mode;
          requests = HasRequests-insert c.args.self.now.requests c.insert.new.self m.requests c.args.n c.in_ok-form.form r (ap command_named same) c.in_ok-insert.ensures.updates.0 stands.requests;
          unanswered = length-after_insert c.args.self.now.requests c.insert.new.self m.requests c.args.n r c.in_ok-insert.field-0 c.in_ok-insert.ensures.old stands.requests stands.unanswered c.in_ok-insert.ensures.len;
        }
