use Rattle.std.proofs.Common.{Ok, ap}
use Rattle.mpi_layout.proofs.Moves.{Stands-same, read_fits, read_stands}
use Rattle.config_pages.specs.DevicePage0.{device_page0_layout, device_page0_values}
use Rattle.config_pages.proofs.DevicePage0Fields.{device_page0_values-injective}
use Rattle.config_pages.proofs.device_page0.decode_device_page0.Goals as goal

pub returns-clause-read : goal.returns-clause-read
returns-clause-read c =
    read_stands device_page0_layout c.layout.result c.args.bytes.now c.in_ok-values.values (device_page0_values c.from_values.result) c.layout.ensures c.in_ok-values.ensures.exact c.in_ok-values.ensures.fitting c.from_values.ensures

pub returns-clause-only : goal.returns-clause-only
returns-clause-only c =
    let stands = read_stands device_page0_layout c.layout.result c.args.bytes.now c.in_ok-values.values (device_page0_values c.from_values.result) c.layout.ensures c.in_ok-values.ensures.exact c.in_ok-values.ensures.fitting c.from_values.ensures in
    λ m other. ap Ok (device_page0_values-injective c.from_values.result m (Stands-same device_page0_layout (device_page0_values c.from_values.result) (device_page0_values m) c.args.bytes.now stands other))

pub returns-clause-fitting : goal.returns-clause-fitting
returns-clause-fitting c =
    read_fits device_page0_layout c.layout.result c.args.bytes.now c.in_ok-values.values (device_page0_values c.from_values.result) c.layout.ensures c.in_ok-values.ensures.exact c.in_ok-values.ensures.fitting c.from_values.ensures
