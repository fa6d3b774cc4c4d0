use Rattle.std.proofs.Common.{◌≡◌, subst}
use Rattle.mpt_rules.specs.World.Cases.{Told}
use Rattle.mpt_trace.specs.ReadingSchedule.{IsInput}
use Rattle.mpt_system.specs.Parties.{whole_of}
use Rattle.mpt_system.proofs.Reached.{reached_done, reached_written}
use Rattle.mpt_system.proofs.system.System.input.Goals as goal

pub invariant_of-self-2 : goal.invariant_of-self-2
invariant_of-self-2 c =
    let copied : c.in_ok-copy.field-0 ≡ c.args.input = cc c.in_ok-copy.ensures in
    let fits : IsInput c.in_ok-copy.field-0 = c.entry_fits.ensures tt in
    reached_done (whole_of c.write_told.new.self) (whole_of c.tell.new.self) (Told c.args.input) (subst IsInput copied fits) c.tell.result c.tell.ensures
    (reached_written (whole_of c.self.inside.parties) (whole_of c.write_told.new.self) c.in_ok-write_told.ensures.ok c.self.invariant)
