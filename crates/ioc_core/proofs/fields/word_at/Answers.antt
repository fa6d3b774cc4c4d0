use Rattle.std.proofs.Common.{sym}
use Rattle.ioc_core.proofs.FieldBytes.{field_two}
use Rattle.ioc_core.proofs.fields.word_at.Goals as goal

pub returns : goal.returns
returns c = rw (c.from.ensures, c.from-2.ensures, c.byte_at.ensures.field, c.byte_at-2.ensures.field) (sym (field_two c.args.bytes.now c.args.at))
