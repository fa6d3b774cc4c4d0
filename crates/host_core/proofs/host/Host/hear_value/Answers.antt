use Rattle.std.proofs.Common.{◌≡◌, ◌∙◌, Some, false, ap, arith}
use Rattle.mpt_rules.specs.Host.Parts.{Host}
use Rattle.mpt_rules.specs.Host.Doorbell.{next_turn}
use Rattle.host_core.specs.contracts.host.Host.{the_view}
use Rattle.host_core.proofs.DoorTurns.{turn_keeps_aborts, turn_keeps_cmds}
use Rattle.host_core.proofs.host.Host.hear_value.Goals as goal

pub hear_step-requires-clause-room : goal.hear_step-requires-clause-room
hear_step-requires-clause-room c =
    let host : Host = record (the_view c.self.inside).host { reading = false; machine = c.take.new.self } in
    let turn = next_turn c.in-Some.door (Some c.args.value) in
    let cmds : c.turn-step.new.self.host.cmds ≡ c.self.inside.cmds.map = ap (λ (h : Host). h.cmds) c.turn-step.ensures.host ∙ turn_keeps_cmds host turn in
    let aborts : c.turn-step.new.self.host.aborts ≡ c.self.inside.aborts.map = ap (λ (h : Host). h.aborts) c.turn-step.ensures.host ∙ turn_keeps_aborts host turn in
    let asked = rw (← c.self.view_is) at c.requires.room in
    record {
      room = rw (cmds, aborts) (omega (arith, asked, c.turn-step.ensures.room));
      numbers = c.turn-step.ensures.numbers ∙ rw (← c.self.view_is) at c.requires.numbers;
      aborts = c.turn-step.ensures.aborts ∙ rw (← c.self.view_is) at c.requires.aborts;
    }
