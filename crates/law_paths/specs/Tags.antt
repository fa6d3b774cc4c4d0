-- A further fact, which no other gives: what the fabric tells of a task that ended without a result is of an identifier that there is.
use Rattle.std.specs.Prelude.{◌≤◌, All}
use Rattle.mpt_trace.specs.declared.item.Back.{Back}
use Rattle.mpt_trace.specs.declared.item.Back.TheVariants as back
use Rattle.mpt_rules.specs.World.Lines.{back_line}
use Rattle.mpt_rules.specs.World.State.{World}

abbrev pub HasTag : Back → Type 0
HasTag (back.Gone tag) = (1 ≤ tag) × (tag ≤ 280)
HasTag (back.Terminated tag) = (1 ≤ tag) × (tag ≤ 280)
HasTag item = Unit {0}

abbrev pub TagsFit : World → Type 0
TagsFit w = All HasTag (back_line w)
