-- A rule that sees ahead, over joined traces.
use Rattle.std.proofs.Common.{◌≡◌, List, [], ◌∷◌, ◌++◌, Option, refl, sym, ap, subst, append_assoc}
use Rattle.mpt_trace.specs.declared.entry.Entry.{Entry}
use Rattle.mpt_wire.specs.Walks.Ahead.{PassesAhead, PassesBefore, state_ahead, next_own}

module _ {G : Type 0} (next : G → Entry → Option Entry → G) (asks : G → Entry → Option Entry → Type 0) where
  pub passes_joined : (g : G) (t later : List Entry) → PassesBefore next asks g t later → PassesAhead next asks (state_ahead next g t later) later → PassesAhead next asks g (t ++ later)
  passes_joined g [] later p q = q
  passes_joined g (e ∷ t) later p q = (p.0, passes_joined (next g e (next_own e (t ++ later))) t later p.1 q)

  pub asked_there : (g : G) (p : List Entry) (e : Entry) (q : List Entry) → PassesAhead next asks g (p ++ e ∷ q) → asks (state_ahead next g p (e ∷ q)) e (next_own e q)
  asked_there g [] e q h = h.0
  asked_there g (x ∷ p) e q h = asked_there (next g x (next_own x (p ++ e ∷ q))) p e q h.1

  pub passes_if_asked : (g : G) (t : List Entry) → ((p : List Entry) (e : Entry) (q : List Entry) → t ≡ p ++ e ∷ q → asks (state_ahead next g p (e ∷ q)) e (next_own e q)) → PassesAhead next asks g t
  passes_if_asked g [] h = tt
  passes_if_asked g (e ∷ t) h = (
    h [] e t refl,
    passes_if_asked (next g e (next_own e t)) t (λ p x q split. subst (λ l. asks (state_ahead next (next g e (next_own e l)) p (x ∷ q)) x (next_own x q)) (sym split) (h (e ∷ p) x q (ap (λ l. e ∷ l) split))),
  )

module _ {G : Type 0} (next : G → Entry → Option Entry → G) where
  pub state_ahead-append : (g : G) (t u later : List Entry) → state_ahead next g (t ++ u) later ≡ state_ahead next (state_ahead next g t (u ++ later)) u later
  state_ahead-append g [] u later = refl
  state_ahead-append g (e ∷ t) u later =
      subst (λ l. state_ahead next (next g e (next_own e ((t ++ u) ++ later))) (t ++ u) later ≡ state_ahead next (state_ahead next (next g e (next_own e l)) t (u ++ later)) u later)
      (append_assoc t u later) (state_ahead-append (next g e (next_own e ((t ++ u) ++ later))) t u later)
