-- What a statement that is not refused leaves room for.
use Rattle.std.proofs.Common.{◌≡◌, ◌≤◌, false, arith}
use Rattle.std.proofs.lemmas.Grind.{common_steps}
use Rattle.mpt_lines.specs.declared.statement.Statement.{Statement}
use Rattle.mpt_lines.specs.declared.statement.Statement.TheVariants as statement
use Rattle.mpt_script.specs.Declarations.{Declared, HasRoom, is_too_many, line_of}

-- within the limits there is room for the line
pub room_left : (d : Declared) (said : Statement) → (d.resets ≤ 64) × (d.total ≤ 16777216) → is_too_many d said ≡ false → HasRoom d (line_of said)
room_left d (statement.Queues queues) within e = tt
room_left d (statement.Disk disk) within e = grind (arith, common_steps, e)
room_left d (statement.Expander number phys) within e = grind (arith, common_steps, e)
room_left d (statement.Plug address expander phy) within e = (omega arith, omega arith)
room_left d (statement.Unplug address) within e = (omega arith, omega arith)
room_left d (statement.Host given) within e = (grind (arith, common_steps, e), grind (arith, common_steps, e))
room_left d (statement.Choice choice count) within e = tt
room_left d statement.Drain within e = tt
