use Rattle.mpi_layout.proofs.Writing.{written_at}
use Rattle.mpi_layout.proofs.row.Row.put.Goals as goal

pub returns-clause-number : goal.returns-clause-number
returns-clause-number c = (written_at c.args.out.now c.args.self.now.at c.args.self.now.width c.args.value c.write_uint.new.buf c.requires.within c.requires.small c.write_uint.ensures).number

pub returns-clause-front : goal.returns-clause-front
returns-clause-front c = (written_at c.args.out.now c.args.self.now.at c.args.self.now.width c.args.value c.write_uint.new.buf c.requires.within c.requires.small c.write_uint.ensures).front

pub returns-clause-back : goal.returns-clause-back
returns-clause-back c = (written_at c.args.out.now c.args.self.now.at c.args.self.now.width c.args.value c.write_uint.new.buf c.requires.within c.requires.small c.write_uint.ensures).back
