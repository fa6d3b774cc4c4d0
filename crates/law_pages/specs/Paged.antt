-- What is shown of the pages that the host has, of the world behind a case.
use Rattle.std.specs.Prelude.{◌≡◌, ℕ, true, false}
use Rattle.removal.specs.Handles.{IsHandle}
use Rattle.mpt_wire.specs.Machine.Causes.{is_resetting}
use Rattle.mpt_rules.specs.World.State.{World}
use Rattle.law_facts.specs.Clock.{in_normal}
use Rattle.law_facts.specs.Handles.{ReadyIsBound, phase_of}
use Rattle.law_facts.specs.History.{History}

-- a ready handle of a host that starts or is up is bound to the address that is ready
abbrev pub ReadyAreBound : World → History → Type 0
ReadyAreBound w h = (handle : ℕ) → IsHandle handle → in_normal w ≡ true → ReadyIsBound w h handle (phase_of w handle)

-- a further fact: the rule of pages knows no page of what is no disk's handle, but while a reset goes on
abbrev pub OtherPagesUnknown : World → History → Type 0
OtherPagesUnknown w h = is_resetting w.host.mode ≡ false → (handle address : ℕ) → (IsHandle handle → ⊥) → h.paged.pages handle address ≡ false
