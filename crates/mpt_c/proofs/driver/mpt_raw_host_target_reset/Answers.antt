use Rattle.std.proofs.Common.{rules}
use Rattle.mpt_c.proofs.Held.{on_held}
use Rattle.mpt_c.proofs.driver.mpt_raw_host_target_reset.Goals as goal

pub returns-clause-held : goal.returns-clause-held
returns-clause-held c =
    on_held _ _ c.deref_mut.result.now c.target_reset-code.new.host _ c.target_reset-code.result _ (search rules) (search rules) c.number-2.ensures c.target_reset-code.ensures
