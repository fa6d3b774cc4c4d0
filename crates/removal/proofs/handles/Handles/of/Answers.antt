use Rattle.std.proofs.Common.{◌≡◌, ◌+◌, List, subst, sym}
use Rattle.removal.specs.declared.phase.Phase.{Phase}
use Rattle.removal.specs.declared.phase.Phase.TheVariants as phase
use Rattle.removal.specs.Handles.{phase_at}
use Rattle.removal.proofs.ReadyHandle.{ready_at_place}
use Rattle.removal.proofs.handles.Handles.of.Goals as goal

pub returns-clause-ready : goal.returns-clause-ready
returns-clause-ready c =
    subst (λ (phases : List Phase). phase_at phases (9 + c.in_ok-place.place) ≡ phase.Ready c.args.address) c.self.view_is
    (ready_at_place _ _ _ (sym c.in_ok-place.ensures.place))
