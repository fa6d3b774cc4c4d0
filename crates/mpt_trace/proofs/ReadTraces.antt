-- The lines of a trace say the trace.
use Rattle.std.proofs.Common.{◌≡◌, ℕ, Some, List, [], ◌∷◌, ◌++◌, map, refl, ap, sym, ◌∙◌, append_assoc}
use Rattle.std.specs.List.{All}
use Rattle.std.proofs.lemmas.List.{append_cancel_right}
use Rattle.std.proofs.lemmas.List.Elements.{All-head, All-tail}
use Rattle.mpt_trace.specs.declared.entry.Entry.{Entry}
use Rattle.mpt_trace.specs.Numbers.{line_end}
use Rattle.mpt_trace.specs.Entries.{entry_lines, words_of_entry}
use Rattle.mpt_trace.specs.Reading.{parts, words}
use Rattle.mpt_trace.specs.ReadingEntries.{IsEntry, entry_in}
use Rattle.mpt_trace.proofs.WordsRead.{split}
use Rattle.mpt_trace.proofs.LineEnds.{of_entry, to_free}
use Rattle.mpt_trace.proofs.ReadEntries.{entry_back}

-- the parts between line ends are the entries' words, and nothing behind the last
lines_of : (t : List Entry) → All IsEntry t → parts 10 (entry_lines t) ≡ map words_of_entry t ++ [] ∷ []
lines_of [] h = refl
lines_of (e ∷ t) h =
    let text = words_of_entry e in
    ap (parts 10) (append_assoc text line_end (entry_lines t))
    ∙ split 10 text (entry_lines t) refl (to_free text (of_entry e (All-head IsEntry e t h)))
    ∙ ap (λ (ps : List (List ℕ)). text ∷ ps) (lines_of t (All-tail IsEntry e t h))

same_entry : (e f : Entry) → IsEntry e → IsEntry f → words_of_entry e ≡ words_of_entry f → e ≡ f
same_entry e f h k same =
    let both : Some e ≡ Some f = sym (entry_back e h) ∙ ap (λ text. entry_in (words text)) same ∙ entry_back f k in
    cc

same_entries : (t u : List Entry) → All IsEntry t → All IsEntry u → map words_of_entry t ≡ map words_of_entry u → t ≡ u
same_entries [] [] h k same = refl
same_entries [] (f ∷ u) h k same = cc
same_entries (e ∷ t) [] h k same = cc
same_entries (e ∷ t) (f ∷ u) h k same =
    let first : words_of_entry e ≡ words_of_entry f = cc in
    let others : map words_of_entry t ≡ map words_of_entry u = cc in
    let one = same_entry e f (All-head IsEntry e t h) (All-head IsEntry f u k) first in
    let rest = same_entries t u (All-tail IsEntry e t h) (All-tail IsEntry f u k) others in
    cc

pub traces_apart : (t u : List Entry) → All IsEntry t → All IsEntry u → entry_lines t ≡ entry_lines u → t ≡ u
traces_apart t u h k same =
    same_entries t u h k (append_cancel_right (map words_of_entry t) (map words_of_entry u) ([] ∷ []) (sym (lines_of t h) ∙ ap (parts 10) same ∙ lines_of u k))
