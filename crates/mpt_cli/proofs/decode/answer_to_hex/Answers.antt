use Rattle.std.proofs.Common.{◌≡◌, length, ap, arith}
use Rattle.mpt_cli.proofs.InputLength.{named_few}
use Rattle.mpt_cli.proofs.decode.answer_to_hex.Goals as goal

pub answer_to_bytes-requires : goal.answer_to_bytes-requires
answer_to_bytes-requires c =
    let few = named_few c.args.input.now c.in-Ok.bytes.items c.in-Ok.ensures.read in
    let same : length c.deref.result.now ≡ length c.in-Ok.bytes.items = ap length c.deref.ensures.value in
    omega (arith, few, same)
