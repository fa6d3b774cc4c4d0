use Rattle.sas_fabric.specs.Tasks.{IsTagged}
use Rattle.sas_fabric.proofs.Tags.{left}
use Rattle.sas_fabric.proofs.task_queue.remove_tags.Given as goal

abbrev pub invariant-loop-i : goal.invariant-loop-i
invariant-loop-i l = IsTagged l.tags (left l.address l.i l.tasks.items)
