use Rattle.std.proofs.Common.{IsTrue, subst, sym, rules, arith}
use Rattle.std.proofs.lemmas.Grind.{common_steps}
use Rattle.mpi_layout.specs.Rows.{values_fit}
use Rattle.config_pages.specs.declared.device_page0.DevicePage0.{DevicePage0}
use Rattle.config_pages.specs.DevicePage0.{device_page0_layout, device_page0_values}
use Rattle.mpt_messages.proofs.IocFits.{page_fits}
use Rattle.mpt_messages.proofs.device_pages.device_page.Goals as goal

pub returns-clause-page : goal.returns-clause-page
returns-clause-page c = first_of (search rules, grind (arith, common_steps))

pub returns-clause-fitting : goal.returns-clause-fitting
returns-clause-fitting c = subst (λ (m : DevicePage0). IsTrue (values_fit (device_page0_layout).rows (device_page0_values m))) (sym (returns-clause-page c)) (page_fits c.args.handle c.args.address c.args.expander c.args.phy c.ranges.handle.fits c.ranges.address.fits c.requires c.ranges.phy.fits)
