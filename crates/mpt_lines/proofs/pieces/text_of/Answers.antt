use Rattle.mpt_lines.proofs.Names.{none_named}
use Rattle.mpt_lines.proofs.pieces.text_of.Goals as goal

pub returns-in-Err : goal.returns-in-Err
returns-in-Err c = λ name n. none_named c.args.word.now name (c.in-Err.ensures.cases.0) n
