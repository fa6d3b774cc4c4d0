use Rattle.std.proofs.Common.{◌∙◌, ◌≤◌, length, refl, sym, arith}
use Rattle.std.proofs.lemmas.List.{get_or_past}
use Rattle.ioc_core.proofs.FieldBytes.{field_one}
use Rattle.ioc_core.proofs.fields.byte_at.Goals as goal

pub returns-then-place-bytes-clause-byte : goal.returns-then-place-bytes-clause-byte
returns-then-place-bytes-clause-byte c = rw c.from-place.ensures refl

pub returns-then-place-bytes-clause-field : goal.returns-then-place-bytes-clause-field
returns-then-place-bytes-clause-field c = rw c.from-place.ensures (sym (field_one c.args.bytes.now c.args.at))

pub returns-else-place-bytes-clause-byte : goal.returns-else-place-bytes-clause-byte
returns-else-place-bytes-clause-byte c =
    let past : length c.args.bytes.now ≤ c.args.at = omega (arith, c.from-place.ensures) in
    sym (get_or_past c.args.bytes.now c.args.at 0 past)

pub returns-else-place-bytes-clause-field : goal.returns-else-place-bytes-clause-field
returns-else-place-bytes-clause-field c =
    let past : length c.args.bytes.now ≤ c.args.at = omega (arith, c.from-place.ensures) in
    sym (field_one c.args.bytes.now c.args.at ∙ get_or_past c.args.bytes.now c.args.at 0 past)
