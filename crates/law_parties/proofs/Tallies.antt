-- How often a number was accepted and answered so far, as a rule that goes over a trace, and entries that count nothing.
use Rattle.std.proofs.Common.{◌≡◌, ℕ, ◌+◌, ◌==◌, List, [], ◌∷◌, ◌++◌, refl, sym, subst}
use Rattle.mpt_trace.specs.declared.entry.Entry.{Entry}
use Rattle.mpt_trace.specs.declared.entry.Entry.TheVariants as entry
use Rattle.mpt_wire.specs.Walks.Passes.{EachEntry, Passes, state_after}
use Rattle.mpt_rules.specs.Host.Parts.{Host}
use Rattle.mpt_rules.specs.World.Counts.{one_if}
use Rattle.law_parties.proofs.Numbers.{Numbers}

-- how often a number was accepted and answered so far
pub record Tally : Type 0 where
  pub accepts : ℕ
  pub answers : ℕ

-- neither an accept, nor an answer, nor the end of a reset
abbrev pub IsBy : Entry → Type 0
IsBy (entry.Accept k address smid) = ⊥
IsBy (entry.Answer k how) = ⊥
IsBy entry.ResetDone = ⊥
IsBy _ = Unit {0}

pub by_append : (t u : List Entry) → EachEntry IsBy t → EachEntry IsBy u → EachEntry IsBy (t ++ u)
by_append [] u a b = b
by_append (e ∷ t) u a b = (a.0, by_append t u a.1 b)

module _ (n : ℕ) where
  abbrev pub tally_next : Tally → Entry → Tally
  tally_next g (entry.Accept k address smid) = record g { accepts = g.accepts + one_if (k == n) }
  tally_next g (entry.Answer k how) = record g { answers = g.answers + one_if (k == n) }
  tally_next g _ = g

  -- at the end of a reset it was answered as often as it was accepted
  abbrev pub TallyAsks : Tally → Entry → Type 0
  TallyAsks g entry.ResetDone = g.accepts ≡ g.answers
  TallyAsks g _ = Unit {0}

  -- the host has it so
  abbrev pub HasTally : Tally → Host → Type 0
  HasTally g host = Numbers n g.accepts g.answers host

  pub record Counts (g : Tally) (es : List Entry) (host : Host) : Type 0 where
    pub passes : Passes tally_next TallyAsks g es
    pub tied : HasTally (state_after tally_next g es) host

  -- ---- entries that count nothing

  by_stays : (g : Tally) (e : Entry) → IsBy e → tally_next g e ≡ g
  by_stays g (entry.Accept k address smid) h = absurd h
  by_stays g (entry.Answer k how) h = absurd h
  by_stays g _ h = refl

  by_asks : (g : Tally) (e : Entry) → IsBy e → TallyAsks g e
  by_asks g entry.ResetDone h = absurd h
  by_asks g _ h = tt

  pub by_before : (g : Tally) (e : Entry) (es : List Entry) (host : Host) → IsBy e → Counts g es host → Counts g (e ∷ es) host
  by_before g e es host b c =
      record {
        passes = (by_asks g e b, subst (λ (r : Tally). Passes tally_next TallyAsks r es) (sym (by_stays g e b)) c.passes);
        tied = subst (λ (r : Tally). HasTally (state_after tally_next r es) host) (sym (by_stays g e b)) c.tied;
      }

  pub all_by : (g : Tally) (es : List Entry) (host : Host) → EachEntry IsBy es → HasTally g host → Counts g es host
  all_by g [] host b h = record { passes = tt; tied = h }
  all_by g (e ∷ es) host b h = by_before g e es host b.0 (all_by g es host b.1 h)
