use Rattle.std.proofs.Common.{sym, ◌∙◌}
use Rattle.mpt_sgl.proofs.ListsTold.{spelled}
use Rattle.mpt_sgl.proofs.OneSpelling.{one_spelling}
use Rattle.mpt_sgl.proofs.laws.spellings_are_one_to_one.Goals as goal

pub returns : goal.returns
returns c = record { one_spelling = one_spelling; one_list = λ a b bytes x y. sym (spelled a bytes x).1 ∙ (spelled b bytes y).1 }
