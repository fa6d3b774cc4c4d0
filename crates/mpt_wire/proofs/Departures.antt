-- Changes that the host hears, one after another.
use Rattle.std.proofs.Common.{◌≡◌, ℕ, Bool, List, [], ◌∷◌, ◌++◌, refl}
use Rattle.mpt_wire.specs.Messages.Fields.{Change}
use Rattle.mpt_wire.specs.Machine.SoFar.{announced_next, announced_after}
use Rattle.mpt_wire.specs.Machine.View.{departure, departures}

pub departures-nil : (resetting : Bool) (announced : ℕ → Bool) → departures resetting announced [] ≡ []
unfolding departures
departures-nil resetting announced = refl

pub departures-cons : (resetting : Bool) (announced : ℕ → Bool) (change : Change) (changes : List Change) → departures resetting announced (change ∷ changes) ≡ departure resetting announced change ++ departures resetting (announced_next announced change) changes
unfolding departures
departures-cons resetting announced change changes = refl

pub announced_after-nil : (announced : ℕ → Bool) → announced_after announced [] ≡ announced
unfolding announced_after
announced_after-nil announced = refl

pub announced_after-cons : (announced : ℕ → Bool) (change : Change) (changes : List Change) → announced_after announced (change ∷ changes) ≡ announced_after (announced_next announced change) changes
unfolding announced_after
announced_after-cons announced change changes = refl

pub ruleset changes_heard_in_turn = (departures-nil, departures-cons, announced_after-nil, announced_after-cons)
