use Rattle.std.proofs.Common.{sym, ◌∙◌}
use Rattle.disk_machine.proofs.ZeroDisks.{AddsDisk-new, AddsDisk-there}
use Rattle.disk_machine.proofs.machine.add_disk.Goals as goal

pub returns-then-contains_key : goal.returns-then-contains_key
returns-then-contains_key c = AddsDisk-there c.args.traced.now c.args.spec (sym c.contains_key.ensures ∙ c.if-contains_key.true)

pub returns : goal.returns
returns c =
    AddsDisk-new c.args.traced.now c.insert.new.self c.args.spec c.in_ok-disk.disk (sym c.contains_key.ensures ∙ c.if-contains_key.false) c.in_ok-disk.ensures c.in_ok-insert.ensures.updates.0
