use Rattle.std.proofs.Common.{◌≡◌, ◌∙◌, [], sym}
use Rattle.std.proofs.lemmas.List.{append-nil}
use Rattle.std.specs.FinMap as numbers
use Rattle.host_core.proofs.host.resets.tell_answers.Goals as goal

pub returns-clause-told : goal.returns-clause-told
returns-clause-told c =
    let none : numbers.keys c.loop-n.cmds.map ≡ [] = c.pop_first.ensures.none c.in_default.is in
    sym (append-nil c.loop-n.lists.told) ∙ rw none at c.loop-n.invariant.told
