-- Where commands go, shown of the world behind a case.
use Rattle.std.specs.Prelude.{◌≡◌, ℕ, Bool, true, false, Some}
use Rattle.removal.specs.Handles.{IsHandle}
use Rattle.removal.specs.declared.phase.Phase.{Phase}
use Rattle.mpt_wire.specs.Handles.Bindings.{Plug}
use Rattle.mpt_rules.specs.World.Counts.{how_many}
use Rattle.mpt_rules.specs.World.State.{World}
use Rattle.law_facts.specs.Clock.{in_normal, is_live}
use Rattle.law_facts.specs.Handles.{Aimed, BoundToTarget, IsUnchosen, is_announced, is_ready_at, phase_of}
use Rattle.law_facts.specs.History.{History}
use Rattle.law_facts.specs.Words.{is_off, is_order}

-- the last plug that was told of a handle is the one to which it is bound
abbrev pub PlugsAreTold : History → Type 0
PlugsAreTold h = (handle : ℕ) (p : Plug) → IsHandle handle → h.serving.bound handle ≡ Some p → h.so_far.plug_of handle ≡ Some p.number

-- each command on its way or at the fabric has the handle of the plug for which it was accepted
abbrev pub CommandsBound : World → History → Type 0
CommandsBound w h = (n : ℕ) → BoundToTarget w h n

-- the rules of posts and of tasks know the handle of each open command, and of no other identifier one
pub record CommandsAimed (w : World) (h : History) : Type 0 where
  pub aimed : (n : ℕ) → Aimed w h n
  pub unchosen : (s : ℕ) → IsUnchosen h s

-- of a handle in this phase it was told, and not since told otherwise, that its disk is there, and it has a page of these addresses
abbrev pub KnownAs : Phase → Bool → (ℕ → Bool) → Type 0
KnownAs p announced pages = (announced ≡ is_announced p) × ((address : ℕ) → pages address ≡ is_ready_at address p)

-- the rules on the wire know what the host has of each handle of a disk
abbrev pub HandlesKnown : World → History → Type 0
HandlesKnown w h = (handle : ℕ) → IsHandle handle → KnownAs (phase_of w handle) (h.so_far.announced handle) (h.paged.pages handle)

-- while it starts or is up
abbrev pub PagesKnown : World → History → Type 0
PagesKnown w h = in_normal w ≡ true → HandlesKnown w h

-- a further fact: so they do of a host that wasn't started
abbrev pub OffHostsKnown : World → History → Type 0
OffHostsKnown w h = is_off w.host.mode ≡ true → HandlesKnown w h

-- a further fact: a controller that isn't OPERATIONAL has no task, no abort and no target reset in its outbox
abbrev pub NoOrdersBeforeInit : World → Type 0
NoOrdersBeforeInit w = is_live w ≡ false → how_many is_order w.ioc.out ≡ 0
