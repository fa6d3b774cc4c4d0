-- What passes between the controller and the fabric, by the rules of both.
use Rattle.std.specs.Prelude.{◌≡◌, ◌++◌, slice_get, Some, None}
use Rattle.mpt_trace.specs.declared.item.Out.{Out}
use Rattle.mpt_trace.specs.declared.item.Back.{Back}
use Rattle.mpt_rules.specs.Fabric.Calls.{fabric_sent, takes_out}
use Rattle.mpt_rules.specs.Fabric.Parts.{Fabric}
use Rattle.mpt_rules.specs.Ioc.Back.{takes_back}
use Rattle.mpt_rules.specs.Ioc.Sending.{front_out, out_sent}
use Rattle.mpt_c_messages.specs.declared.call_code.CallCode.{CallCode}
use Rattle.mpt_c_messages.specs.declared.call_code.CallCode.TheVariants as code
use Rattle.ioc_core.specs.Seen.{IocSeen}
use Rattle.mpt_c_calls.specs.Down.{IsSameIoc}

-- both are as they were
abbrev pub IsSameBoth : IocSeen → IocSeen → Fabric → Fabric → Type 0
IsSameBoth ioc ioc' fabric fabric' = IsSameIoc ioc ioc' × (fabric' ≡ fabric)

-- Ok: the fabric took what the controller put. Nothing: there is nothing. NoMemory, and then, nothing changed
abbrev pub GivesOut : IocSeen → IocSeen → Fabric → Fabric → CallCode → Type 0
GivesOut ioc ioc' fabric fabric' code.Ok =
    (item : Out) × (front_out ioc.part ≡ Some item) × (fabric' ≡ takes_out fabric item)
    × (ioc'.part ≡ out_sent ioc.part) × (ioc'.told ≡ ioc.told)
GivesOut ioc ioc' fabric fabric' code.Nothing = (front_out ioc.part ≡ None) × IsSameBoth ioc ioc' fabric fabric'
GivesOut ioc ioc' fabric fabric' code.NoMemory = IsSameBoth ioc ioc' fabric fabric'
GivesOut ioc ioc' fabric fabric' _ = ⊥

-- Ok: the controller took what the fabric put. Nothing: there is nothing. NoMemory, and then, nothing changed
abbrev pub GivesBack : IocSeen → IocSeen → Fabric → Fabric → CallCode → Type 0
GivesBack ioc ioc' fabric fabric' code.Ok =
    (item : Back) × (slice_get fabric.out 0 ≡ Some item) × (fabric' ≡ fabric_sent fabric)
    × (ioc'.part ≡ (takes_back ioc.part item).part) × (ioc'.told ≡ ioc.told ++ (takes_back ioc.part item).entries)
GivesBack ioc ioc' fabric fabric' code.Nothing = (slice_get fabric.out 0 ≡ None) × IsSameBoth ioc ioc' fabric fabric'
GivesBack ioc ioc' fabric fabric' code.NoMemory = IsSameBoth ioc ioc' fabric fabric'
GivesBack ioc ioc' fabric fabric' _ = ⊥
