-- The places of identifiers, as the code names them.
use Rattle.mpt_rules.specs.Ioc.Places.{AtTheFabric, InHighQueue, InNormalQueue, InUpOutbox, IocPlace}
use Rattle.ioc_core.specs.declared.place.IocPlace.{IocPlace as PlaceTold}
use Rattle.ioc_core.specs.declared.place.IocPlace.TheVariants as place

abbrev pub place_of : PlaceTold → IocPlace
place_of place.HighQueue = InHighQueue
place_of place.NormalQueue = InNormalQueue
place_of place.Fabric = AtTheFabric
place_of place.UpOut = InUpOutbox
