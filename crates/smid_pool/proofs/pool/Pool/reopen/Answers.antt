use Rattle.std.proofs.Common.{◌≡◌, ◌∙◌, ◌-◌, ap, sym, refl}
use Rattle.std.proofs.lemmas.List.{set-set}
use Rattle.smid_pool.specs.Pool.{Open, Parked, is_parked}
use Rattle.smid_pool.proofs.Taken.{slot_of-with_slot}
use Rattle.smid_pool.proofs.pool.Pool.reopen.Goals as goal

pub unpark-requires : goal.unpark-requires
unpark-requires g c =
    rw c.park-record.ensures.parked (ap is_parked (slot_of-with_slot c.args.self.now c.args.smid Parked c.requires))

pub returns-clause-reopened : goal.returns-clause-reopened
returns-clause-reopened g c =
    rw (c.unpark.ensures, c.park-record.ensures.parked) (set-set c.args.self.now (c.args.smid - 1) Parked (Open c.args.value))
