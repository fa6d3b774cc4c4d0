-- A rule over joined traces.
use Rattle.std.proofs.Common.{◌≡◌, List, [], ◌∷◌, ◌++◌, refl}
use Rattle.mpt_trace.specs.declared.entry.Entry.{Entry}
use Rattle.mpt_wire.specs.Walks.Passes.{Passes, EachEntry, state_after}

module _ {G : Type 0} (next : G → Entry → G) (asks : G → Entry → Type 0) where
  pub passes_append : (g : G) (t u : List Entry) → Passes next asks g t → Passes next asks (state_after next g t) u → Passes next asks g (t ++ u)
  passes_append g [] u a b = b
  passes_append g (e ∷ t) u a b = (a.0, passes_append (next g e) t u a.1 b)

module _ {G : Type 0} (next : G → Entry → G) where
  pub state_after-append : (g : G) (t u : List Entry) → state_after next g (t ++ u) ≡ state_after next (state_after next g t) u
  state_after-append g [] u = refl
  state_after-append g (e ∷ t) u = state_after-append (next g e) t u

-- a rule without a state
pub each_entry : (P : Entry → Type 0) (t : List Entry) → Passes {G = Unit {0}} (λ g e. g) (λ g e. P e) tt t → EachEntry P t
each_entry P [] h = tt
each_entry P (e ∷ t) h = (h.0, each_entry P t h.1)

pub passes_each : (P : Entry → Type 0) (t : List Entry) → EachEntry P t → Passes {G = Unit {0}} (λ g e. g) (λ g e. P e) tt t
passes_each P [] h = tt
passes_each P (e ∷ t) h = (h.0, passes_each P t h.1)

pub each_append : (P : Entry → Type 0) (t u : List Entry) → EachEntry P t → EachEntry P u → EachEntry P (t ++ u)
each_append P [] u a b = b
each_append P (e ∷ t) u a b = (a.0, each_append P t u a.1 b)
