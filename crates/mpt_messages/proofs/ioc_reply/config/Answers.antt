use Rattle.std.proofs.Common.{IsTrue, subst, sym, rules, arith}
use Rattle.std.proofs.lemmas.Bool.Decides.{nat_tests}
use Rattle.mpi_layout.specs.Rows.{values_fit}
use Rattle.config_pages.specs.declared.config_reply.ConfigReply.{ConfigReply}
use Rattle.config_pages.specs.ConfigReply.{config_reply_layout, config_reply_values}
use Rattle.mpt_messages.proofs.IocFits.{config_fits}
use Rattle.mpt_messages.proofs.ioc_reply.config.Goals as goal

pub returns-then-action-gt-MPI2_CONFIG_ACTION_PAGE_READ_CURRENT-clause-said : goal.returns-then-action-gt-MPI2_CONFIG_ACTION_PAGE_READ_CURRENT-clause-said
returns-then-action-gt-MPI2_CONFIG_ACTION_PAGE_READ_CURRENT-clause-said c = first_of (search rules, grind (arith, nat_tests))

pub returns-then-action-gt-MPI2_CONFIG_ACTION_PAGE_READ_CURRENT-clause-fitting : goal.returns-then-action-gt-MPI2_CONFIG_ACTION_PAGE_READ_CURRENT-clause-fitting
returns-then-action-gt-MPI2_CONFIG_ACTION_PAGE_READ_CURRENT-clause-fitting c = subst (λ (m : ConfigReply). IsTrue (values_fit (config_reply_layout).rows (config_reply_values m))) (sym (returns-then-action-gt-MPI2_CONFIG_ACTION_PAGE_READ_CURRENT-clause-said c)) (config_fits c.args.action c.args.ext_type c.args.status c.ranges.action.fits c.ranges.ext_type.fits c.ranges.status.fits)

pub returns-clause-said : goal.returns-clause-said
returns-clause-said c = first_of (search rules, grind (arith, nat_tests))

pub returns-clause-fitting : goal.returns-clause-fitting
returns-clause-fitting c = subst (λ (m : ConfigReply). IsTrue (values_fit (config_reply_layout).rows (config_reply_values m))) (sym (returns-clause-said c)) (config_fits c.args.action c.args.ext_type c.args.status c.ranges.action.fits c.ranges.ext_type.fits c.ranges.status.fits)
