use Rattle.std.proofs.Common.{◌≡◌, ℕ, List, [], ◌∷◌, ◌++◌, OnOk, codes, subst}
use Rattle.mpt_trace.specs.Counts.{named_number}
use Rattle.mpt_trace.specs.Summary.{counts_line}
use Rattle.mpt_trace.proofs.summary_words.push_phases.Goals as goal

pub returns : goal.returns
returns c =
    let s = c.args.s.now in
    let pairs : (named_number c.small.result ∷ named_number c.small-2.result ∷ named_number c.small-3.result ∷ named_number c.small-4.result ∷ named_number c.small-5.result ∷ []) ≡ ((codes "phases reading ", s.reading) ∷ (codes " ready ", s.ready) ∷ (codes " waiting ", s.waiting) ∷ (codes " resetting ", s.resetting) ∷ (codes " removing ", s.removing) ∷ []) = cc (c.small.ensures, c.small-2.ensures, c.small-3.ensures, c.small-4.ensures, c.small-5.ensures) in
    subst (λ (counts : List (List ℕ × ℕ)). OnOk c.push_counts.result (c.push_counts.new.text ≡ c.args.text.now ++ counts_line counts)) pairs c.push_counts.ensures
