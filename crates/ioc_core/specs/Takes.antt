-- Which items are taken without memory.
use Rattle.std.specs.Prelude.{Bool, true, false}
use Rattle.mpt_trace.specs.declared.item.Down.{Down}
use Rattle.mpt_trace.specs.declared.item.Down.TheVariants as down

-- taking it always succeeds
abbrev pub is_sure : Down → Bool
is_sure (down.Write reg value) = false
is_sure (down.Read reg) = false
is_sure (down.Post descriptor frame payload) = true
is_sure (down.Return address index) = true
is_sure down.Stop = false
