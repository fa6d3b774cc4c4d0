use Rattle.std.proofs.Common.{◌≡◌, ℕ, ◌+◌, ◌-◌, ◌*◌, ◌%◌, List, slice_range, bit_and, ap, ◌∙◌, arith}
use Rattle.std.proofs.lemmas.Grind.{common_steps}
use Rattle.mpi_doorbell.proofs.Exchanges.{appended}
use Rattle.mpi_doorbell.specs.HostDoor.{HostDoor}
use Rattle.mpi_doorbell.specs.HostHandshake.{with_word}
use Rattle.mpi_doorbell.proofs.host.DoorHost.append.Goals as goal

pub returns : goal.returns
returns c =
    let d = c.self.inside in
    let f : List ℕ → HostDoor = λ x. record { stage = d.stage; unsent = slice_range d.message (4 * d.sent) (4 * d.dwords); reply = x } in
    let low : bit_and c.args.value 65535 ≡ c.args.value % 65536 = grind (arith, common_steps) in
    let r = appended d.words c.from.result (128 - 2 * c.from.result) (2 * (d.words + 1)) _ c.args.value d.reply c.write_u16.new.buf _ c.from.ensures (omega arith) (omega arith) low c.write_u16.ensures in
    ap f r ∙ ap (λ x. with_word x c.args.value) c.self.view_is
