-- The printed text of a schedule reads as the schedule.
use Rattle.std.proofs.Common.{◌≡◌, ℕ, ◌+◌, ◌^◌, ◌<◌, ◌==◌, ◌&&◌, not, Bool, true, false, List, [], ◌∷◌, ◌++◌, length, Option, Some, Result, Ok, refl, sym, ◌∙◌, ap, subst, arith, codes, count_by, append_assoc, add-zero}
use Rattle.std.specs.List.{list_all}
use Rattle.std.proofs.lemmas.Bool.{and_parts}
use Rattle.std.proofs.lemmas.Grind.{common_steps}
use Rattle.std.proofs.lemmas.List.Splits.{length-slice_split}
use Rattle.mpt_lines.proofs.Texts.{is_line, is_word, lines_first, words_begin, words_line}
use Rattle.mpt_lines.specs.declared.fault.Cause.{Cause}
use Rattle.mpt_lines.specs.declared.statement.Statement.{Statement}
use Rattle.mpt_lines.specs.Numbers.{◌>>=◌}
use Rattle.mpt_lines.specs.Statements.{schedule_line}
use Rattle.mpt_lines.specs.Words.{lines, words}
use Rattle.mpt_trace.specs.declared.input.Input.{Input}
use Rattle.mpt_trace.specs.declared.input.Input.TheVariants as input
use Rattle.mpt_trace.specs.Numbers.{line_end}
use Rattle.mpt_script.specs.declared.line.Line.{Line}
use Rattle.mpt_script.specs.declared.line.Line.TheVariants as line
use Rattle.mpt_script.specs.Allowed.{are_allowed, input_statement, is_unrefused, line_fits, statement_of}
use Rattle.mpt_script.specs.Declarations.{Declared, after, is_misplaced, is_repeated, is_too_many, is_unknown, judged, line_of}
use Rattle.mpt_script.specs.Printed.{expanders_of, line_text, schedule_text}
use Rattle.mpt_script.specs.Schedules.{line_value, next_number, says_nothing, schedule_from}
use Rattle.mpt_script.proofs.ReadBack.{ReadsAs, choice_back, disk_back, expander_back, input_back, queues_back}
use Rattle.mpt_script.proofs.Reading.{preceded, preceded-nil, read_said}

unrefused : (b : Bool) → not b ≡ true → b ≡ false
unrefused true h = cc
unrefused false h = refl

-- no cause holds: the line is answered
unrefused_judged : (d : Declared) (said : Statement) → is_unrefused d said ≡ true → judged d said ≡ Ok (line_of said)
unrefused_judged d said h =
    let three = and_parts (not (is_misplaced d said) && not (is_repeated d said) && not (is_too_many d said)) (not (is_unknown d said)) h in
    let two = and_parts (not (is_misplaced d said) && not (is_repeated d said)) (not (is_too_many d said)) three.0 in
    let one = and_parts (not (is_misplaced d said)) (not (is_repeated d said)) two.0 in
    rw (unrefused (is_misplaced d said) one.0, unrefused (is_repeated d said) one.1, unrefused (is_too_many d said) two.1, unrefused (is_unknown d said) three.1) refl

input_line_of : (given : Input) → line_of (input_statement given) ≡ line.Input given
input_line_of input.Start = refl
input_line_of (input.Submit n at f) = refl
input_line_of (input.Abort n) = refl
input_line_of (input.TargetReset at) = refl
input_line_of input.Reset = refl
input_line_of input.UnitReset = refl
input_line_of (input.Plug at e phy) = refl
input_line_of (input.Unplug at) = refl

line_of_statement : (d : Declared) (l : Line) → line_of (statement_of d l) ≡ l
line_of_statement d (line.Queues queues) = refl
line_of_statement d (line.Disk disk) = refl
line_of_statement d (line.Expander phys) = refl
line_of_statement d (line.Input given) = input_line_of given
line_of_statement d (line.Choice choice count) = refl
line_of_statement d line.Drain = refl

few_expanders : (d : Declared) (phys : ℕ) → is_unrefused d (statement_of d (line.Expander phys)) ≡ true → length d.phys < 2 ^ 64
few_expanders d phys h =
    let said = statement_of d (line.Expander phys) in
    let three = and_parts (not (is_misplaced d said) && not (is_repeated d said) && not (is_too_many d said)) (not (is_unknown d said)) h in
    let two = and_parts (not (is_misplaced d said) && not (is_repeated d said)) (not (is_too_many d said)) three.0 in
    let many = unrefused (is_too_many d said) two.1 in
    grind (arith, common_steps, many)

line_reads : (d : Declared) (l : Line) → line_fits l ≡ true → is_unrefused d (statement_of d l) ≡ true → ReadsAs (line_text (length d.phys) l) (statement_of d l)
line_reads d (line.Queues queues) h k = queues_back queues h
line_reads d (line.Disk disk) h k = disk_back disk h
line_reads d (line.Expander phys) h k = expander_back (length d.phys) phys (few_expanders d phys k) h
line_reads d (line.Input given) h k = input_back given h
line_reads d (line.Choice choice count) h k = choice_back choice count h
line_reads d line.Drain h k = record { word = codes "drain"; others = []; words_are = refl; plain = refl; some = refl; reads = refl }

-- a text that reads as a statement which isn't refused
value_of : (d : Declared) (text : List ℕ) (said : Statement) (l : Line) → ReadsAs text said → judged d said ≡ Ok l → line_value d text ≡ Ok (Some l)
value_of d text said l r j =
    let begins : says_nothing text ≡ false = words_begin text r.word r.others r.words_are (and_parts (is_word r.word) (list_all is_word r.others) r.plain).0 r.some in
    let reads : schedule_line (words text) ≡ Ok said = ap schedule_line r.words_are ∙ r.reads in
    let step : (Result Statement Cause) → Result (Option Line) Cause = λ found. found >>= judged d >>= (λ value. Ok (Some value)) in
    let named : step (schedule_line (words text)) ≡ Ok (Some l) = ap step reads ∙ ap (λ (found : Result Line Cause). found >>= (λ value. Ok (Some value))) j in
    rw begins named

line_plain : (text : List ℕ) (said : Statement) → ReadsAs text said → is_line text ≡ true
line_plain text said r = words_line text (ap (list_all is_word) r.words_are ∙ r.plain)

phys_after : (d : Declared) (l : Line) → length (after d l).phys ≡ length d.phys + expanders_of l
phys_after d (line.Queues queues) = sym (add-zero (length d.phys))
phys_after d (line.Disk disk) = sym (add-zero (length d.phys))
phys_after d (line.Expander phys) = grind (arith, common_steps)
phys_after d (line.Input given) = sym (add-zero (length d.phys))
phys_after d (line.Choice choice count) = sym (add-zero (length d.phys))
phys_after d line.Drain = sym (add-zero (length d.phys))

-- some piece is left of any text
pub some_lines : (text : List ℕ) → (length (lines text) == 0) ≡ false
some_lines text =
    let some : length (lines text) ≡ count_by (λ b. b == 10) text + 1 = length-slice_split (λ b. b == 10) text in
    rw some (grind (arith, common_steps))

-- one line and the rest of the text
one_line : (number : ℕ) (d : Declared) (l : Line) (text rest : List ℕ) (ls : List Line) → is_line text ≡ true → line_value d text ≡ Ok (Some l)
    → schedule_from (next_number number) (after d l) (lines rest) ≡ Ok ls → schedule_from number d (lines ((text ++ line_end) ++ rest)) ≡ Ok (l ∷ ls)
one_line number d l text rest ls plain value others =
    let split : lines ((text ++ line_end) ++ rest) ≡ text ∷ lines rest = rw (append_assoc text line_end rest) (lines_first text rest plain) in
    let said = read_said number d [] text (lines rest) (Some l) (some_lines rest) value in
    ap (schedule_from number d) split ∙ preceded-nil (schedule_from number d (text ∷ lines rest)) ∙ said ∙ ap (preceded (l ∷ [])) others

-- the text of allowed lines reads as the lines
pub schedule_back : (number e : ℕ) (d : Declared) (ls : List Line) → e ≡ length d.phys → are_allowed d ls ≡ true → schedule_from number d (lines (schedule_text e ls)) ≡ Ok ls
unfolding schedule_from schedule_text are_allowed
schedule_back number e d [] same h = refl
schedule_back number e d (l ∷ ls) same h =
    let outer = and_parts (line_fits l && is_unrefused d (statement_of d l)) (are_allowed (after d l) ls) h in
    let inner = and_parts (line_fits l) (is_unrefused d (statement_of d l)) outer.0 in
    let reads : ReadsAs (line_text e l) (statement_of d l) = subst (λ (n : ℕ). ReadsAs (line_text n l) (statement_of d l)) (sym same) (line_reads d l inner.0 inner.1) in
    let answered : judged d (statement_of d l) ≡ Ok l = unrefused_judged d (statement_of d l) inner.1 ∙ ap Ok (line_of_statement d l) in
    let next : e + expanders_of l ≡ length (after d l).phys = ap (λ (n : ℕ). n + expanders_of l) same ∙ sym (phys_after d l) in
    one_line number d l (line_text e l) (schedule_text (e + expanders_of l) ls) ls (line_plain (line_text e l) (statement_of d l) reads) (value_of d (line_text e l) (statement_of d l) l reads answered)
    (schedule_back (next_number number) (e + expanders_of l) (after d l) ls next outer.1)
