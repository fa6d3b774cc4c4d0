-- Entries are read back.
use Rattle.std.proofs.Common.{◌≡◌, ℕ, ◌-◌, ◌^◌, ◌<◌, false, if◌then◌else◌, Some, option_map, List, ◌∷◌, ◌++◌, length, take, codes, decimal, refl, ap, sym, ◌∙◌, arith, length-append}
use Rattle.std.proofs.Math.Bool.{and-false}
use Rattle.std.proofs.Math.Seq.{take-append_seam}
use Rattle.hex.specs.Hex.{encode_with}
use Rattle.mpt_trace.specs.declared.entry.Entry.{Entry}
use Rattle.mpt_trace.specs.declared.entry.Entry.TheVariants as entry
use Rattle.mpt_trace.specs.declared.item.Item.{Item}
use Rattle.mpt_trace.specs.declared.lane.LaneName.{LaneName}
use Rattle.mpt_trace.specs.declared.outcome.Outcome.{Outcome}
use Rattle.mpt_trace.specs.declared.outcome.AbortOutcome.{AbortOutcome}
use Rattle.mpt_trace.specs.declared.outcome.AbortOutcome.TheVariants as abort
use Rattle.mpt_trace.specs.declared.outcome.TargetOutcome.{TargetOutcome}
use Rattle.mpt_trace.specs.declared.outcome.TargetOutcome.TheVariants as target
use Rattle.mpt_trace.specs.declared.refusal.Refusal.{Refusal}
use Rattle.mpt_trace.specs.declared.refusal.RefusedCall.{RefusedCall}
use Rattle.mpt_trace.specs.declared.refusal.RefusedCall.TheVariants as call
use Rattle.mpt_trace.specs.Numbers.{address_text, handle_text, line_end}
use Rattle.mpt_trace.specs.Items.{cause_text}
use Rattle.mpt_trace.specs.Entries.{abort_text, call_text, entry_line, target_text, words_of_entry}
use Rattle.mpt_trace.specs.Reading.{hexadecimal, is_word, number, words}
use Rattle.mpt_trace.specs.ReadingEntries.{IsCall, IsEntry, IsTargetOutcome, abort_outcome_in, entry_in, entry_read, refuse_in, refused_at_in, target_outcome_in}
use Rattle.mpt_trace.proofs.WordsRead.{first, hex_back, last, number-decimal, pair, triple, word-decimal, word-hex}
use Rattle.mpt_trace.proofs.ReadSchedule.{choice_back, input_back}
use Rattle.mpt_trace.proofs.ReadItems.{answer_back, cause_back, moved_back, refused_back}

-- four digits aren't `all`
not_all : (handle : ℕ) → is_word (handle_text handle) (codes "all") ≡ false
unfolding encode_with
not_all handle = rw (and-false) (rw (and-false) (and-false _))

abort_outcome_back : (o : AbortOutcome) → abort_outcome_in (words (abort_text o)) ≡ Some o
abort_outcome_back abort.Stopped = refl
abort_outcome_back abort.NotFound = refl
abort_outcome_back abort.Reset = refl

target_outcome_back : (o : TargetOutcome) → IsTargetOutcome o → target_outcome_in (words (target_text o)) ≡ Some o
target_outcome_back (target.Done count) h = ap (λ ws. target_outcome_in (codes "done" ∷ ws)) (last (decimal count) (word-decimal count h)) ∙ ap (λ n. Some (target.Done n)) (number-decimal count h)
target_outcome_back target.Reset h = refl

refused_at_back : (a : ℕ) (c : Refusal) → a < 256 ^ 8 → refused_at_in (words (address_text a ++ codes " " ++ cause_text c)) ≡ Some (a, c)
refused_at_back a c h =
    ap refused_at_in (first (address_text a) (cause_text c) (word-hex 8 a))
    ∙ ap (option_map (λ c. (hexadecimal 8 (address_text a), c))) (cause_back c)
    ∙ ap (λ (k : ℕ). Some (k, c)) (hex_back 8 a h)

refuse_back : (k : RefusedCall) (c : Refusal) → IsCall k → refuse_in (words (call_text k ++ codes " " ++ cause_text c)) ≡ Some (entry.Refuse k c)
refuse_back call.Start c h = ap (option_map (entry.Refuse call.Start)) (cause_back c)
refuse_back call.Reset c h = ap (option_map (entry.Refuse call.Reset)) (cause_back c)
refuse_back call.UnitReset c h = ap (option_map (entry.Refuse call.UnitReset)) (cause_back c)
refuse_back (call.Abort n) c h = ap (option_map (λ (p : ℕ × Refusal). entry.Refuse (call.Abort p.0) p.1)) (refused_back n c h)
refuse_back (call.TargetReset a) c h = ap (option_map (λ (p : ℕ × Refusal). entry.Refuse (call.TargetReset p.0) p.1)) (refused_at_back a c h)
refuse_back (call.Plug a) c h = ap (option_map (λ (p : ℕ × Refusal). entry.Refuse (call.Plug p.0) p.1)) (refused_at_back a c h)
refuse_back (call.Unplug a) c h = ap (option_map (λ (p : ℕ × Refusal). entry.Refuse (call.Unplug p.0) p.1)) (refused_at_back a c h)

pub entry_back : (e : Entry) → IsEntry e → entry_in (words (words_of_entry e)) ≡ Some e
entry_back (entry.Given input) h = ap (option_map entry.Given) (input_back input h)
entry_back (entry.Idle choice) h = ap (option_map entry.Idle) (choice_back choice h)
entry_back (entry.Put lane item) h = ap (option_map (λ (p : LaneName × Item). entry.Put p.0 p.1)) (moved_back lane item h.0 h.1 h.2)
entry_back (entry.Take lane item) h = ap (option_map (λ (p : LaneName × Item). entry.Take p.0 p.1)) (moved_back lane item h.0 h.1 h.2)
entry_back (entry.Bind handle address plug) h =
    ap (λ ws. entry_in (codes "bind" ∷ ws)) (triple (handle_text handle) (address_text address) (decimal plug) (word-hex 2 handle) (word-hex 8 address) (word-decimal plug h.2))
    ∙ rw (hex_back 2 handle h.0, hex_back 8 address h.1, number-decimal plug h.2) refl
entry_back (entry.Unbind handle) h =
    ap (λ ws. entry_in (codes "unbind" ∷ ws)) (last (handle_text handle) (word-hex 2 handle))
    ∙ ap (λ b. if b then Some entry.UnbindAll else Some (entry.Unbind (hexadecimal 2 (handle_text handle)))) (not_all handle)
    ∙ ap (λ (k : ℕ). Some (entry.Unbind k)) (hex_back 2 handle h)
entry_back entry.UnbindAll h = refl
entry_back (entry.Run address tag) h =
    ap (λ ws. entry_in (codes "run" ∷ ws)) (pair (address_text address) (decimal tag) (word-hex 8 address) (word-decimal tag h.1))
    ∙ rw (hex_back 8 address h.0, number-decimal tag h.1) refl
entry_back entry.HostUp h = refl
entry_back (entry.Ready address handle) h =
    ap (λ ws. entry_in (codes "ready" ∷ ws)) (pair (address_text address) (handle_text handle) (word-hex 8 address) (word-hex 2 handle))
    ∙ rw (hex_back 8 address h.0, hex_back 2 handle h.1) refl
entry_back (entry.Lost address handle) h =
    ap (λ ws. entry_in (codes "lost" ∷ ws)) (pair (address_text address) (handle_text handle) (word-hex 8 address) (word-hex 2 handle))
    ∙ rw (hex_back 8 address h.0, hex_back 2 handle h.1) refl
entry_back (entry.Accept n address smid) h =
    ap (λ ws. entry_in (codes "accept" ∷ ws)) (triple (decimal n) (address_text address) (decimal smid) (word-decimal n h.0) (word-hex 8 address) (word-decimal smid h.2))
    ∙ rw (number-decimal n h.0, hex_back 8 address h.1, number-decimal smid h.2) refl
entry_back (entry.RefuseSubmit n cause) h = ap (option_map (λ (p : ℕ × Refusal). entry.RefuseSubmit p.0 p.1)) (refused_back n cause h)
entry_back (entry.Refuse k cause) h = refuse_back k cause h
entry_back (entry.Answer n outcome) h = ap (option_map (λ (p : ℕ × Outcome). entry.Answer p.0 p.1)) (answer_back n outcome h.0 h.1)
entry_back (entry.AbortEnd n outcome) h =
    ap (λ ws. entry_in (codes "abort" ∷ ws)) (first (decimal n) (abort_text outcome) (word-decimal n h))
    ∙ ap (option_map (entry.AbortEnd (number (decimal n)))) (abort_outcome_back outcome)
    ∙ ap (λ (k : ℕ). Some (entry.AbortEnd k outcome)) (number-decimal n h)
entry_back (entry.TargetEnd address outcome) h =
    ap (λ ws. entry_in (codes "treset" ∷ ws)) (first (address_text address) (target_text outcome) (word-hex 8 address))
    ∙ ap (option_map (entry.TargetEnd (hexadecimal 8 (address_text address)))) (target_outcome_back outcome h.1)
    ∙ ap (λ (k : ℕ). Some (entry.TargetEnd k outcome)) (hex_back 8 address h.0)
entry_back entry.ResetDone h = refl

-- a line without its end
without_end : (text : List ℕ) → take (length (text ++ line_end) - 1) (text ++ line_end) ≡ text
without_end text =
    let e : length (text ++ line_end) - 1 ≡ length text = omega (arith, length-append text line_end) in
    rw e (take-append_seam text line_end)

pub reads_back : (e : Entry) → IsEntry e → entry_read (entry_line e) ≡ Some e
reads_back e h = ap (λ text. entry_in (words text)) (without_end (words_of_entry e)) ∙ entry_back e h

pub told_apart : (one other : Entry) → IsEntry one → IsEntry other → entry_line one ≡ entry_line other → one ≡ other
told_apart one other h k same =
    let e : Some one ≡ Some other = sym (reads_back one h) ∙ ap entry_read same ∙ reads_back other k in
    cc
