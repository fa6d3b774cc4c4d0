use Rattle.mpt_sgl.proofs.OneSpelling.{all_bytes}
use Rattle.mpt_sgl.proofs.element.Element.write.Goals as goal

pub returns-clause-bytes : goal.returns-clause-bytes
returns-clause-bytes c = all_bytes _ (λ k. (c.type_inv.out k).fits)
