use Rattle.std.proofs.Common.{◌≢◌, ◌∙◌, get_or, sym, arith}
use Rattle.mpi_rings.specs.ReplyDescriptor.{success_layout, address_layout, unused_layout}
use Rattle.mpi_rings.proofs.Flags.{success_fault, address_fault, unused_fault}
use Rattle.mpi_rings.proofs.Replies.{reads_reply}
use Rattle.mpi_rings.proofs.reply_descriptor.read_reply.Goals as goal

pub returns-in-0 : goal.returns-in-0
returns-in-0 c =
    let told = reads_reply success_layout c.args.bytes.now c.read_success.result (λ fault. success_fault c.args.bytes.now fault (sym c.reply_flags.ensures ∙ c.in-0.is)) c.read_success.ensures in
    record { read = told.read; only = told.only; flags = told.flags }

pub returns-in-1 : goal.returns-in-1
returns-in-1 c =
    let told = reads_reply address_layout c.args.bytes.now c.read_address.result (λ fault. address_fault c.args.bytes.now fault (sym c.reply_flags.ensures ∙ c.in-1.is)) c.read_address.ensures in
    record { read = told.read; only = told.only; flags = told.flags }

pub returns-in_default : goal.returns-in_default
returns-in_default c =
    let apart_0 : get_or c.args.bytes.now 0 0 ≢ 0x00 = omega arith in
    let apart_1 : get_or c.args.bytes.now 0 0 ≢ 0x01 = omega arith in
    let told = reads_reply unused_layout c.args.bytes.now c.read_unused.result (λ fault. unused_fault c.args.bytes.now fault apart_0 apart_1) c.read_unused.ensures in
    record { read = told.read; only = told.only; flags = told.flags }
