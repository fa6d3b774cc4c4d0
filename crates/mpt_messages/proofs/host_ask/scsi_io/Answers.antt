use Rattle.std.proofs.Common.{◌≡◌, ◌+◌, ◌*◌, ◌^◌, ◌<◌, ◌≤◌, ◌⊎◌, inl, inr, arith}
use Rattle.mpt_messages.proofs.CommandFits.{io_fits, direction-one_of, cdb_length-masked}
use Rattle.mpt_messages.proofs.host_ask.scsi_io.Goals as goal
use Rattle.mpt_messages.proofs.host_ask.scsi_io.Goals.{then-write, else-write}

pub returns-clause-fitting : goal.returns-clause-fitting
returns-clause-fitting c =
    let flags : (c.if-write.result ≡ 0xd3) ⊎ (c.if-write.result ≡ 0xd7) = elim c.if-write.branch [ then-write w ↦ inr w.result-is | else-write w ↦ inl w.result-is ] in
    let sense : 0x0010_0000 + 96 * c.from.result < 2 ^ 32 = omega arith in
    let few : c.from-2.result ≤ 16 = omega arith in
    io_fits c.args.handle (0x0010_0000 + 96 * c.from.result) c.args.lun c.args.len c.from-2.result c.direction.result c.number_at.result c.number_at-2.result c.if-write.result c.element_address.result c.ranges.handle.fits sense c.ranges.lun.fits c.requires.short few (cdb_length-masked c.from-2.result few) c.number_at.type_inv c.number_at-2.type_inv c.element_address.type_inv (direction-one_of c.args.len c.args.write c.direction.result c.direction.ensures) flags
