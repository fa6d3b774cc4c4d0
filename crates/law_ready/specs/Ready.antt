-- What is ready, shown of the world behind a case.
use Rattle.std.specs.Prelude.{◌≡◌, ℕ, true}
use Rattle.removal.specs.Handles.{IsHandle}
use Rattle.mpt_rules.specs.World.State.{World}
use Rattle.law_facts.specs.Clock.{in_normal}
use Rattle.law_facts.specs.Disks.{ReadyAddress, ReadyHandle}
use Rattle.law_facts.specs.History.{History}
use Rattle.law_facts.specs.Words.{is_off}

-- the plug of each ready handle is the one that is ready
abbrev pub HandlesReady : World → History → Type 0
HandlesReady w h = in_normal w ≡ true → (handle : ℕ) → IsHandle handle → ReadyHandle w h handle

-- one handle is ready for an address exactly where a plug of it is
abbrev pub AddressesReady : World → History → Type 0
AddressesReady w h = in_normal w ≡ true → (address : ℕ) → ReadyAddress w h address

-- a further fact: so it is of a host that wasn't started
pub record OffReady (w : World) (h : History) : Type 0 where
  pub handles : is_off w.host.mode ≡ true → (handle : ℕ) → IsHandle handle → ReadyHandle w h handle
  pub addresses : is_off w.host.mode ≡ true → (address : ℕ) → ReadyAddress w h address
