use Rattle.mpt_sgl.specs.Elements.{element_layout}
use Rattle.mpt_sgl.proofs.element.layout.Goals as goal

pub returns : goal.returns
unfolding element_layout
returns c = c.new.ensures
