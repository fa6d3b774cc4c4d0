-- What the controller hears of the fabric.
use Rattle.std.specs.Prelude.{position}
use Rattle.mpt_rules.specs.Ioc.Back.{is_port_enable, takes_discovered}
use Rattle.mpt_rules.specs.Ioc.Parts.{Ioc}

-- every plugged disk was named
abbrev pub discovered : Ioc → Ioc
discovered ioc = takes_discovered ioc (position is_port_enable ioc.requests)
