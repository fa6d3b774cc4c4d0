use Rattle.law_paths.proofs.Payloads.{payloads_fit, payloads_fit_first}
use Rattle.law_paths.proofs.laws.payloads_fit.Goals as goal

pub returns-clause-first : goal.returns-clause-first
returns-clause-first c = λ s. payloads_fit_first s.disks

pub returns-clause-kept : goal.returns-clause-kept
returns-clause-kept c = payloads_fit
