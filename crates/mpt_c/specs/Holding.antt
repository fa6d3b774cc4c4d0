-- What a handle owns: nothing, and then it is null; or a value on the heap, with the right to free it.
use Rattle.std.specs.Prelude.{Option, Some, None}
use base.Fml.{Fml, feq}
use denote.RattleType.{RattleType}
use denote.RawPtr.{Ptr, null_ptr}
use Rattle.std.specs.Global.{Global}
use Rattle.std.specs.contracts.impls.GlobalAllocator.TheImpl.{ghosts}
use Rattle.std.specs.Box.Ownership.{box_owns}

-- the program's heap; there is one
abbrev pub the_heap : Global
the_heap = record { memory = record { seal = tt } }

abbrev pub holds : (R : RattleType) → Ptr → Option R.Denot → Fml
holds R p None = feq Ptr p null_ptr
holds R p (Some x) = box_owns (ghosts.dealloc_token the_heap) R p x
