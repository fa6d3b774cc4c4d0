use Rattle.std.proofs.Common.{◌≡◌, ◌∙◌, ap, drop, slice_range, ℕ, List}
use Rattle.byteorder.specs.Endian.{big_number}
use Rattle.scsi_disk.proofs.Padding.{big_number-padded}
use Rattle.scsi_disk.proofs.cdb.Cdb.number_of_4.Goals as goal

pub returns : goal.returns
returns c =
    let read : c.read_u32.result ≡ big_number 4 (slice_range c.self.inside.bytes c.args.at 32) = c.read_u32.ensures in
    read
    ∙ big_number-padded 4 c.args.at c.self.inside.len c.self.inside.bytes c.requires c.self.invariant.1
    ∙ ap (λ (v : List ℕ). big_number 4 (drop c.args.at v)) c.self.view_is
