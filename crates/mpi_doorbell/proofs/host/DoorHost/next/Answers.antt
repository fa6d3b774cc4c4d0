use Rattle.std.proofs.Common.{◌≡◌, subst, sym}
use Rattle.mpi_doorbell.proofs.HostTurns.{acts_turn, expects_after, value_turn}
use Rattle.mpi_doorbell.specs.declared.step.DoorStep.{DoorStep}
use Rattle.mpi_doorbell.specs.HostDoor.{HostDoor, Stepped}
use Rattle.mpi_doorbell.specs.HostSteps.{Expects, TakesTurn, acts, hears}
use Rattle.mpi_doorbell.proofs.host.DoorHost.next.Goals as goal

turn_of : (s : Stepped) (after : HostDoor) (step : DoorStep) → after ≡ s.door → step ≡ s.step → TakesTurn s.door.stage s.step → TakesTurn after.stage step
turn_of s after step e f turn =
    subst (λ (d : HostDoor). TakesTurn d.stage step) (sym e) (subst (λ (t : DoorStep). TakesTurn s.door.stage t) (sym f) turn)

pub returns-in-Some-clause-turn : goal.returns-in-Some-clause-turn
returns-in-Some-clause-turn c =
    let d = c.args.self.now in
    let asked = subst (Expects d.stage) c.in-Some.is c.requires in
    turn_of (hears d d.stage c.in-Some.value) _ _ c.hear.ensures.after c.hear.ensures.step (value_turn d d.stage c.in-Some.value asked)

pub returns-in-Some-clause-goes_on : goal.returns-in-Some-clause-goes_on
returns-in-Some-clause-goes_on c =
    let d = c.args.self.now in
    let asked = subst (Expects d.stage) c.in-Some.is c.requires in
    expects_after _ _ (turn_of (hears d d.stage c.in-Some.value) _ _ c.hear.ensures.after c.hear.ensures.step (value_turn d d.stage c.in-Some.value asked))

pub returns-in-None-clause-turn : goal.returns-in-None-clause-turn
returns-in-None-clause-turn c =
    let d = c.args.self.now in
    let asked = subst (Expects d.stage) c.in-None.is c.requires in
    turn_of (acts d d.stage) _ _ c.act.ensures.after c.act.ensures.step (acts_turn d d.stage asked)

pub returns-in-None-clause-goes_on : goal.returns-in-None-clause-goes_on
returns-in-None-clause-goes_on c =
    let d = c.args.self.now in
    let asked = subst (Expects d.stage) c.in-None.is c.requires in
    expects_after _ _ (turn_of (acts d d.stage) _ _ c.act.ensures.after c.act.ensures.step (acts_turn d d.stage asked))
