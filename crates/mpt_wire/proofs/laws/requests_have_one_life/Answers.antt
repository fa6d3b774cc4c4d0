use Rattle.mpt_wire.proofs.Lives.{have_one_life}
use Rattle.mpt_wire.proofs.laws.requests_have_one_life.Goals as goal

pub returns : goal.returns
returns c = have_one_life
