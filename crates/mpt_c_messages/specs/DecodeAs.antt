-- The numbers of what bytes are read as.
use Rattle.std.specs.Prelude.{ℕ, ◌==◌, if◌then◌else◌, Option, Some, None}
use Rattle.mpt_messages.specs.declared.function.Kind.TheVariants as kind
use Rattle.mpt_c_messages.specs.declared.decode_as.DecodeAs.{DecodeAs}
use Rattle.mpt_c_messages.specs.declared.decode_as.DecodeAs.TheVariants as as_a

abbrev pub decode_as_of : ℕ → Option DecodeAs
decode_as_of n =
    if n == 0 then Some (as_a.Request kind.ScsiIo)
    else if n == 1 then Some (as_a.Request kind.HighPriority)
    else if n == 2 then Some (as_a.Request kind.Default)
    else if n == 3 then Some (as_a.Request kind.Handshake)
    else if n == 4 then Some as_a.Reply
    else if n == 5 then Some as_a.Post
    else if n == 6 then Some as_a.Answer
    else if n == 7 then Some as_a.Page0
    else None
