-- A result that the fabric tells, of the command that is there for its tag.
use Rattle.std.proofs.Common.{◌≡◌, ◌∙◌, ℕ, Option, Some, ap}
use Rattle.scsi_disk.specs.declared.scsi_result.ScsiResult.{ScsiResult}
use Rattle.mpt_rules.specs.declared.at_fabric.AtFabric.{AtFabric}
use Rattle.mpt_rules.specs.declared.at_fabric.AtFabric.TheVariants as at
use Rattle.mpt_rules.specs.declared.said.Said.{Said}
use Rattle.mpt_rules.specs.Ioc.Back.{takes_result}
use Rattle.mpt_rules.specs.Ioc.Commands.{ends_command, moved_by, result_said}
use Rattle.mpt_rules.specs.Ioc.Parts.{Ioc}

pub result_taken : (ioc part : Ioc) (tag : ℕ) (done : ScsiResult) (r : Option AtFabric) (handle queue len moved : ℕ) (written : Option ℕ) (answer : Said) → r ≡ Some (at.Command handle queue len written)
    → moved ≡ moved_by written done → answer ≡ result_said tag handle len moved done → part ≡ ends_command ioc tag handle queue answer → part ≡ takes_result ioc tag done r
result_taken ioc part tag done r handle queue len moved written answer is moves says ends =
    rw is (ends ∙ ap (λ (said : Said). ends_command ioc tag handle queue said) (says ∙ ap (λ (k : ℕ). result_said tag handle len k done) moves))
