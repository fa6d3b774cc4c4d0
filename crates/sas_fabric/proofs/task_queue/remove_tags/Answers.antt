use Rattle.std.proofs.Common.{◌≡◌, ◌<◌, length, subst, eq-eqb, ne_eqb, arith}
use Rattle.sas_fabric.specs.Tasks.{IsTagged}
use Rattle.sas_fabric.proofs.Tags.{IsTagged-less, left_all, left_same}
use Rattle.sas_fabric.proofs.task_queue.remove_tags.Goals as goal
use Rattle.sas_fabric.proofs.task_queue.remove_tags.Goals.{then-task-address, else-task-address}

pub loop-i-preserved : goal.loop-i-preserved
loop-i-preserved c =
    let tasks = c.args.tasks.now.items in
    let task = c.index-task.result.now in
    let within : c.loop-i.i < length tasks = omega (arith, c.args.tasks.now.ok.0) in
    elim c.if-task-address.branch [
      | then-task-address w ↦
          let this = eq-eqb task.address c.args.address w.if-task-address.true in
          rw w.tags-is (IsTagged-less c.args.address c.loop-i.i tasks task within c.index-task.ensures c.loop-i.tags w.remove.new.self c.requires.own this c.loop-i.invariant w.remove.ensures.updates.0)
      | else-task-address w ↦
          let other = ne_eqb task.address c.args.address w.if-task-address.false in
          rw (w.tags-is, left_same c.args.address c.loop-i.i tasks task within c.index-task.ensures other) c.loop-i.invariant
    ]

pub returns : goal.returns
returns c =
    let all : length c.args.tasks.now.items ≡ c.loop-i.i = omega (arith, c.args.tasks.now.ok.0) in
    subst (IsTagged c.loop-i.tags) (left_all c.args.address c.loop-i.i c.args.tasks.now.items all) c.loop-i.invariant
