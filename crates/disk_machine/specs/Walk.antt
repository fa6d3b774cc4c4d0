-- The machine as code along a trace.
use Rattle.std.specs.Prelude.{List, Option}
use Rattle.mpt_trace.specs.declared.entry.Entry.{Entry}
use Rattle.mpt_wire.specs.Machine.SoFar.{SoFar, so_far_next}
use Rattle.mpt_wire.specs.Machine.State.{Machine}
use Rattle.mpt_wire.specs.Machine.Steps.{Step, after_all}
use Rattle.mpt_wire.specs.Machine.View.{steps_of}
use Rattle.disk_machine.specs.declared.walking.TraceWalk.{TraceWalk}
use Rattle.disk_machine.specs.Machine.{StandsFor}
use Rattle.disk_machine.specs.Memory.{Remembers}

-- the code stands for the machine, and remembers what was said
abbrev pub Accords : TraceWalk → Machine → SoFar → Type 0
Accords walk m g = StandsFor walk.machine m × Remembers walk.memory g

-- whatever machine it stood for, it stands for that after the steps that what was said makes of them
abbrev pub MakesSteps : TraceWalk → TraceWalk → (SoFar → List Step) → Type 0
MakesSteps before now steps = (m : Machine) (g : SoFar) → Accords before m g → Accords now (after_all m (steps g)) g

-- and it remembers the entry too
abbrev pub Takes : TraceWalk → TraceWalk → Entry → Option Entry → Type 0
Takes before now e ahead =
    (m : Machine) (g : SoFar) → Accords before m g → Accords now (after_all m (steps_of g e ahead)) (so_far_next g e ahead)
