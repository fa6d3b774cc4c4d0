-- The lines of entries, one after the other.
use Rattle.std.proofs.Common.{◌≡◌, ℕ, ◌+◌, ◌<◌, List, [], ◌∷◌, ◌++◌, length, take, get_or, sym, ap, ◌∙◌, append-nil}
use Rattle.std.specs.Prelude.{filter}
use Rattle.std.proofs.lemmas.Grind.{flat_map-append}
use Rattle.std.proofs.lemmas.List.{take_more}
use Rattle.std.proofs.lemmas.List.Elements.{filter-append}
use Rattle.mpt_trace.specs.declared.entry.Entry.{Entry}
use Rattle.mpt_trace.specs.Entries.{entry_line, entry_lines, is_in_show}

-- one entry more
pub line_more : (es : List Entry) (i : ℕ) (e : Entry) (before after : List ℕ) → i < length es → e ≡ get_or es i e → before ≡ entry_lines (take i es) → after ≡ before ++ entry_line e → after ≡ entry_lines (take (i + 1) es)
line_more es i e before after less is so more =
    more ∙ (ap (λ b. b ++ entry_line e) so ∙ (ap (λ ls. entry_lines (take i es) ++ ls) (sym (append-nil (entry_line e)))
    ∙ (sym (flat_map-append entry_line (take i es) (e ∷ []))
    ∙ ap entry_lines (ap (λ x. take i es ++ x ∷ []) is ∙ sym (take_more es i e less)))))

-- one more, of which those are taken that the short report shows
pub shown_more : (es : List Entry) (i : ℕ) (e : Entry) (before after : List ℕ) → i < length es → e ≡ get_or es i e → before ≡ entry_lines (filter is_in_show (take i es))
    → after ≡ before ++ entry_lines (filter is_in_show (e ∷ [])) → after ≡ entry_lines (filter is_in_show (take (i + 1) es))
shown_more es i e before after less is so more =
    more ∙ (ap (λ b. b ++ entry_lines (filter is_in_show (e ∷ []))) so
    ∙ (sym (flat_map-append entry_line (filter is_in_show (take i es)) (filter is_in_show (e ∷ [])))
    ∙ ap entry_lines (sym (filter-append is_in_show (take i es) (e ∷ [])) ∙ ap (filter is_in_show) (ap (λ x. take i es ++ x ∷ []) is ∙ sym (take_more es i e less)))))
