use Rattle.std.proofs.Common.{sym, length, refl, arith}
use Rattle.std.proofs.lemmas.Option.{slice_get_read}
use Rattle.sas_fabric.specs.Disks.{stands_in}
use Rattle.sas_fabric.proofs.Phys.{phy_found, phy_none, phy_within}
use Rattle.sas_fabric.proofs.disk_table.DiskTable.at.Goals as goal

pub index-requires : goal.index-requires
index-requires c =
    omega (arith, phy_within (stands_in c.self.inside.phys) c.self.inside.disks.items c.self.invariant.1 c.in-Some.place_in c.args.place (sym c.in-Some.ensures), c.self.inside.disks.ok)

pub returns-in-Some : goal.returns-in-Some
returns-in-Some c =
    let disks = c.self.inside.disks.items in
    let found = sym c.in-Some.ensures in
    let within = phy_within (stands_in c.self.inside.phys) disks c.self.invariant.1 c.in-Some.place_in c.args.place found in
    rw (← c.self.view_is)
    (sym (phy_found (stands_in c.self.inside.phys) disks c.self.invariant.1 c.in-Some.place_in c.index.result.now c.args.place found
    (slice_get_read disks (length disks) c.in-Some.place_in c.index.result.now refl within c.index.ensures)))

pub returns-in-None : goal.returns-in-None
returns-in-None c =
    rw (← c.self.view_is) (sym (phy_none (stands_in c.self.inside.phys) c.self.inside.disks.items c.self.invariant.1 c.args.place (sym c.in-None.ensures)))
