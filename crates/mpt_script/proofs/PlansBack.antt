-- The printed text of a plan reads as the plan.
use Rattle.std.proofs.Common.{◌≡◌, ℕ, ◌+◌, ◌^◌, ◌<◌, ◌==◌, ◌&&◌, ◌||◌, not, nat_le, Bool, true, false, cond, List, [], ◌∷◌, ◌++◌, length, Option, Some, None, Result, Ok, Err, refl, sym, ◌∙◌, ap, subst, arith, lit≤, codes, decimal, append_assoc, append-nil, add-zero, zero-add}
use Rattle.std.specs.List.{list_all, list_any}
use Rattle.std.specs.Ordering.{nat_cmp}
use Rattle.std.specs.BTreeSet.{insert_key}
use Rattle.std.proofs.lemmas.Bool.{and_parts}
use Rattle.std.proofs.lemmas.Grind.{common_steps, flat_map-append}
use Rattle.mpt_lines.proofs.Texts.{is_line, is_word, lines_first, words_begin, words_line}
use Rattle.mpt_lines.specs.declared.fault.Cause.{Cause}
use Rattle.mpt_lines.specs.declared.fault.Cause.TheVariants.{Many, Order}
use Rattle.mpt_lines.specs.declared.statement.PlanStatement.{PlanStatement}
use Rattle.mpt_lines.specs.declared.statement.PlanStatement.TheVariants as plan
use Rattle.mpt_lines.specs.declared.statement.Statement.{Statement}
use Rattle.mpt_lines.specs.declared.statement.Statement.TheVariants as statement
use Rattle.mpt_lines.specs.Numbers.{◌>>=◌}
use Rattle.mpt_lines.specs.Statements.{plan_line}
use Rattle.mpt_lines.specs.Words.{lines, words}
use Rattle.mpt_trace.specs.declared.disk_spec.DiskSpec.{DiskSpec}
use Rattle.mpt_trace.specs.declared.input.Input.{Input}
use Rattle.mpt_trace.specs.declared.input.Input.TheVariants as input
use Rattle.mpt_trace.specs.Numbers.{line_end}
use Rattle.mpt_trace.specs.Schedule.{input_line}
use Rattle.mpt_script.specs.declared.line.Line.{Line}
use Rattle.mpt_script.specs.declared.line.Line.TheVariants as line
use Rattle.mpt_script.specs.declared.planning.Block.{Block}
use Rattle.mpt_script.specs.declared.planning.Block.TheVariants as block
use Rattle.mpt_script.specs.declared.planning.PlanLine.{PlanLine}
use Rattle.mpt_script.specs.declared.planning.PlanLine.TheVariants as planned
use Rattle.mpt_script.specs.declared.schedule_stage.ScheduleStage.{ScheduleStage}
use Rattle.mpt_script.specs.declared.schedule_stage.ScheduleStage.TheVariants.{First, Declarations, Steps}
use Rattle.mpt_script.specs.Allowed.{input_fits, input_statement, is_host, line_fits, statement_fits}
use Rattle.mpt_script.specs.Declarations.{Declared, after, is_first, is_misplaced, is_repeated, is_steps, is_too_many, is_unknown, line_of}
use Rattle.mpt_script.specs.PlanParts.{PlanParts}
use Rattle.mpt_script.specs.PlanState.{PlanState}
use Rattle.mpt_script.specs.Planning.{begun, is_crowded, is_fabric, is_numbered, is_out_of_block, judged_line, nothing_planned, onto_last, placed, plan_judged, planned_after, with_submitter}
use Rattle.mpt_script.specs.Plans.{plan_from, plan_of, plan_value, went_on}
use Rattle.mpt_script.specs.Printed.{disk_text, expander_text}
use Rattle.mpt_script.specs.PrintedPlan.{disks_text, expanders_text, inputs_text, plan_text, queues_text, submitter_text, submitters_text}
use Rattle.mpt_script.specs.Schedules.{Fault, next_number, says_nothing}
use Rattle.mpt_script.proofs.Accepted.{bind_ok, ok_value, refused}
use Rattle.mpt_script.proofs.PlanLines.{Fits, PlanReads, disk_planned, expander_planned, fabric_planned, input_planned, is_shared, plan_line_fits, queues_planned, submitter_planned}
use Rattle.mpt_script.proofs.PlanReading.{planned_said}
use Rattle.mpt_script.proofs.ReadAllowed.{Sound, by_causes, fitting_line, host_statement, not_false, or_parts, sound_after}
use Rattle.mpt_script.proofs.SchedulesBack.{some_lines}

-- ---- texts that lead from one state to another

-- where what follows stands for a plan after the text, it does so behind the text
abbrev Leads : PlanState → List ℕ → PlanState → Type 0
Leads s text t = (rest : List ℕ) (parts : PlanParts) → ((number : ℕ) → plan_from number t (lines rest) ≡ Ok parts) → (number : ℕ) → plan_from number s (lines (text ++ rest)) ≡ Ok parts

leads_nothing : (s : PlanState) → Leads s [] s
leads_nothing s = λ rest parts more number. more number

leads_on : (s t u : PlanState) (a b : List ℕ) → Leads s a t → Leads t b u → Leads s (a ++ b) u
leads_on s t u a b f g = λ rest parts more number. subst (λ (x : List ℕ). plan_from number s (lines x) ≡ Ok parts) (sym (append_assoc a b rest)) (f (b ++ rest) parts (g rest parts more) number)

leads_as : (s t : PlanState) (a b : List ℕ) → a ≡ b → Leads s a t → Leads s b t
leads_as s t a b e f = subst (λ (x : List ℕ). Leads s x t) e f

-- a line that isn't refused
line_leads : (s : PlanState) (text : List ℕ) (said : PlanStatement) (l : PlanLine) → PlanReads text said → plan_judged s said ≡ Ok l → Leads s (text ++ line_end) (planned_after s l)
line_leads s text said l r j = λ rest parts more number.
    let plain : is_line text ≡ true = words_line text (ap (list_all is_word) r.words_are ∙ r.plain) in
    let split : lines ((text ++ line_end) ++ rest) ≡ text ∷ lines rest = rw (append_assoc text line_end rest) (lines_first text rest plain) in
    let begins : says_nothing text ≡ false = words_begin text r.word r.others r.words_are (and_parts (is_word r.word) (list_all is_word r.others) r.plain).0 r.some in
    let reads : plan_line (words text) ≡ Ok said = ap plan_line r.words_are ∙ r.reads in
    let step : (Result PlanStatement Cause) → Result (Option PlanLine) Cause = λ found. found >>= plan_judged s >>= (λ value. Ok (Some value)) in
    let named : step (plan_line (words text)) ≡ Ok (Some l) = ap step reads ∙ ap (λ (found : Result PlanLine Cause). found >>= (λ value. Ok (Some value))) j in
    let value : plan_value s text ≡ Ok (Some l) = rw begins named in
    ap (plan_from number s) split ∙ planned_said number s text (lines rest) (Some l) (some_lines rest) value ∙ more (next_number number)

-- ---- declarations
-- A text may have disks and expanders in any order among each other, and the printed one has all disks
-- first. So each kind is read by itself, from any state before the steps.

-- before the first block and the first plug
abbrev setup : ScheduleStage → ℕ → List ℕ → List DiskSpec → List ℕ → PlanState
setup stage queues addresses disks phys = record {
  block = block.Setup;
  declared = record { stage = stage; queues = queues; addresses = addresses; phys = phys; resets = 0; total = 0 };
  numbers = [];
  lines = 0;
  plan = record { queues = queues; disks = disks; phys = phys; plugs = []; submitters = []; fabric = [] };
}

-- a text leads to a state before the steps
record Declares (s : PlanState) (text : List ℕ) (to : ScheduleStage → PlanState) : Type 0 where
  stage : ScheduleStage
  early : is_steps stage ≡ false
  leads : Leads s text (to stage)

abbrev QueuesRead : ℕ → Type 0
QueuesRead q = Declares nothing_planned (queues_text q) (λ stage. setup stage q [] [] [])

abbrev DisksRead : List ℕ → List DiskSpec → Type 0
DisksRead addresses disks = (stage : ScheduleStage) (q : ℕ) → is_steps stage ≡ false → Declares (setup stage q [] [] []) (disks_text disks) (λ now. setup now q addresses disks [])

abbrev ExpandersRead : List ℕ → Type 0
ExpandersRead phys = (stage : ScheduleStage) (q : ℕ) (addresses : List ℕ) (disks : List DiskSpec) → is_steps stage ≡ false → Declares (setup stage q addresses disks []) (expanders_text 0 phys) (λ now. setup now q addresses disks phys)

queues_read : (q : ℕ) → (nat_le 1 q && nat_le q 8) ≡ true → QueuesRead q
queues_read q h = by_one (nat_le q 1) refl
  where
    by_one : (one : Bool) → nat_le q 1 ≡ one → QueuesRead q
    by_one true is =
        let some = (and_parts (nat_le 1 q) (nat_le q 8) h).0 in
        let same : 1 ≡ q = grind (arith, common_steps, some, is) in
        subst QueuesRead same (record { stage = First; early = refl; leads = leads_nothing nothing_planned })
    by_one false is = record {
      stage = Declarations;
      early = refl;
      leads = rw is (line_leads nothing_planned (codes "queues " ++ decimal q) (plan.Line (statement.Queues q)) (planned.Line (line.Queues q)) (queues_planned q h) refl);
    }

one_more_disk : (disks : List DiskSpec) (x : DiskSpec) → disks_text disks ++ (disk_text x ++ line_end) ≡ disks_text (disks ++ x ∷ [])
one_more_disk disks x = sym (flat_map-append (λ disk. disk_text disk ++ line_end) disks (x ∷ []) ∙ ap (λ last. disks_text disks ++ last) (append-nil (disk_text x ++ line_end)))

disk_judged : (stage : ScheduleStage) (q : ℕ) (addresses : List ℕ) (disks : List DiskSpec) (x : DiskSpec) → is_steps stage ≡ false → list_any (λ a. a == x.address) addresses ≡ false → nat_le 64 (length addresses) ≡ false
    → plan_judged (setup stage q addresses disks []) (plan.Line (statement.Disk x)) ≡ Ok (planned.Line (line.Disk x))
disk_judged stage q addresses disks x early new few = rw (early, new, few) refl

disk_more : (addresses : List ℕ) (disks : List DiskSpec) (x : DiskSpec) → statement_fits (statement.Disk x) ≡ true → list_any (λ a. a == x.address) addresses ≡ false → nat_le 64 (length addresses) ≡ false
    → DisksRead addresses disks → DisksRead (insert_key nat_cmp addresses x.address) (disks ++ x ∷ [])
disk_more addresses disks x h new few before = λ stage q early.
    let so_far = before stage q early in
    let from = setup so_far.stage q addresses disks [] in
    record {
      stage = Declarations;
      early = refl;
      leads = leads_as _ _ _ _ (one_more_disk disks x) (leads_on (setup stage q [] [] []) from _ (disks_text disks) (disk_text x ++ line_end) so_far.leads
          (line_leads from (disk_text x) (plan.Line (statement.Disk x)) (planned.Line (line.Disk x)) (disk_planned x h) (disk_judged so_far.stage q addresses disks x so_far.early new few)));
    }

one_more_expander : (n : ℕ) (phys : List ℕ) (x : ℕ) → expanders_text n phys ++ (expander_text (n + length phys) x ++ line_end) ≡ expanders_text n (phys ++ x ∷ [])
unfolding expanders_text
one_more_expander n [] x = rw add-zero (sym (append-nil (expander_text n x ++ line_end)))
one_more_expander n (p ∷ phys) x =
    let same : n + length (p ∷ phys) ≡ (n + 1) + length phys = omega arith in
    let others = one_more_expander (n + 1) phys x in
    rw same (append_assoc (expander_text n p ++ line_end) (expanders_text (n + 1) phys) _ ∙ ap (λ rest. (expander_text n p ++ line_end) ++ rest) others)

expander_judged : (stage : ScheduleStage) (q : ℕ) (addresses : List ℕ) (disks : List DiskSpec) (phys : List ℕ) (x : ℕ) → is_steps stage ≡ false → (length phys == length phys) ≡ true → nat_le 16 (length phys) ≡ false
    → plan_judged (setup stage q addresses disks phys) (plan.Line (statement.Expander (length phys) x)) ≡ Ok (planned.Line (line.Expander x))
expander_judged stage q addresses disks phys x early same few = rw (early, same, few) refl

same_number : (n : ℕ) → (n == n) ≡ true
same_number n = grind (arith, common_steps)

expander_more : (phys : List ℕ) (x : ℕ) → (nat_le 1 x && nat_le x 22) ≡ true → nat_le 16 (length phys) ≡ false → ExpandersRead phys → ExpandersRead (phys ++ x ∷ [])
expander_more phys x h few before = λ stage q addresses disks early.
    let so_far = before stage q addresses disks early in
    let from = setup so_far.stage q addresses disks phys in
    let small : length phys < 2 ^ 64 = grind (arith, common_steps, few) in
    let more : expanders_text 0 phys ++ (expander_text (length phys) x ++ line_end) ≡ expanders_text 0 (phys ++ x ∷ []) = subst (λ (n : ℕ). expanders_text 0 phys ++ (expander_text n x ++ line_end) ≡ expanders_text 0 (phys ++ x ∷ [])) (zero-add (length phys)) (one_more_expander 0 phys x) in
    record {
      stage = Declarations;
      early = refl;
      leads = leads_as _ _ _ _ more (leads_on (setup stage q addresses disks []) from _ (expanders_text 0 phys) (expander_text (length phys) x ++ line_end) so_far.leads
          (line_leads from (expander_text (length phys) x) (plan.Line (statement.Expander (length phys) x)) (planned.Line (line.Expander x)) (expander_planned (length phys) x small h) (expander_judged so_far.stage q addresses disks phys x so_far.early (same_number (length phys)) few)));
    }

-- the plan's declarations so far, each kind by itself
record Early (p : PlanState) : Type 0 where
  stage : ScheduleStage
  q : ℕ
  addresses : List ℕ
  disks : List DiskSpec
  phys : List ℕ
  is : p ≡ setup stage q addresses disks phys
  queues_are : QueuesRead q
  disks_are : DisksRead addresses disks
  expanders_are : ExpandersRead phys

-- ---- the blocks

-- the same plan, in another block and another stage
abbrev relabelled : Block → ScheduleStage → PlanState → PlanState
relabelled place stage p = record p { block = place; declared = record p.declared { stage = stage } }

-- the block after the printed text: the fabric's line is printed only with one of its inputs
abbrev Tied : Block → Block → List Input → Type 0
Tied block.Setup place fabric = place ≡ block.Setup
Tied block.Submitter place fabric = place ≡ block.Submitter
Tied block.Fabric place [] = is_fabric place ≡ false
Tied block.Fabric place (first ∷ others) = place ≡ block.Fabric

-- some submitter is the last
record HasLast (submitters : List (List Input)) : Type 0 where
  before : List (List Input)
  last : List Input
  are : submitters ≡ before ++ last ∷ []

-- the blocks that there are
abbrev Shaped : Block → PlanParts → Type 0
Shaped block.Setup parts = (parts.submitters ≡ []) × (parts.fabric ≡ [])
Shaped block.Submitter parts = HasLast parts.submitters × (parts.fabric ≡ [])
Shaped block.Fabric parts = Unit {0}

-- The printed text of the plan so far leads to it. Every later line stands at the end of its text, so
-- one line more is one line more to read.
record Late (p : PlanState) : Type 0 where
  place : Block
  stage : ScheduleStage
  tied : Tied p.block place p.plan.fabric
  shaped : Shaped p.block p.plan
  leads : Leads nothing_planned (plan_text p.plan) (relabelled place stage p)

-- a plan with declarations alone
all_text : (q : ℕ) (disks : List DiskSpec) (phys : List ℕ) → (queues_text q ++ disks_text disks) ++ expanders_text 0 phys ≡ plan_text (record { queues = q; disks = disks; phys = phys; plugs = []; submitters = []; fabric = [] })
unfolding submitters_text
all_text q disks phys =
    let text = (queues_text q ++ disks_text disks) ++ expanders_text 0 phys in
    sym (append-nil ((text ++ []) ++ []) ∙ append-nil (text ++ []) ∙ append-nil text)

late_setup : (stage : ScheduleStage) (q : ℕ) (addresses : List ℕ) (disks : List DiskSpec) (phys : List ℕ) → QueuesRead q → DisksRead addresses disks → ExpandersRead phys → Late (setup stage q addresses disks phys)
late_setup stage q addresses disks phys a b c =
    let one = a in
    let two = b one.stage q one.early in
    let three = c two.stage q addresses disks two.early in
    record {
      place = block.Setup;
      stage = three.stage;
      tied = refl;
      shaped = (refl, refl);
      leads = leads_as _ _ _ _ (all_text q disks phys)
          (leads_on nothing_planned (setup two.stage q addresses disks []) (setup three.stage q addresses disks phys) (queues_text q ++ disks_text disks) (expanders_text 0 phys)
          (leads_on nothing_planned (setup one.stage q [] [] []) (setup two.stage q addresses disks []) (queues_text q) (disks_text disks) one.leads two.leads) three.leads);
    }

early_late : (p : PlanState) → Early p → Late p
early_late p e = subst Late (sym e.is) (late_setup e.stage e.q e.addresses e.disks e.phys e.queues_are e.disks_are e.expanders_are)

-- one more input at the end of a block
one_more_input : (inputs : List Input) (x : Input) → inputs_text (inputs ++ x ∷ []) ≡ inputs_text inputs ++ (input_line x ++ line_end)
one_more_input inputs x = flat_map-append (λ given. input_line given ++ line_end) inputs (x ∷ []) ∙ ap (λ last. inputs_text inputs ++ last) (append-nil (input_line x ++ line_end))

-- one more submitter
one_more_block : (n : ℕ) (submitters : List (List Input)) (x : List Input) → submitters_text n (submitters ++ x ∷ []) ≡ submitters_text n submitters ++ submitter_text (n + length submitters) x
unfolding submitters_text
one_more_block n [] x = rw add-zero (append-nil (submitter_text n x))
one_more_block n (inputs ∷ submitters) x =
    let same : n + length (inputs ∷ submitters) ≡ (n + 1) + length submitters = omega arith in
    rw same (ap (λ rest. submitter_text n inputs ++ rest) (one_more_block (n + 1) submitters x) ∙ sym (append_assoc (submitter_text n inputs) (submitters_text (n + 1) submitters) _))

onto_snoc : (before : List (List Input)) (last : List Input) (x : Input) → onto_last (before ++ last ∷ []) x ≡ before ++ (last ++ x ∷ []) ∷ []
onto_snoc [] last x = refl
onto_snoc (first ∷ []) last x = refl
onto_snoc (first ∷ second ∷ before) last x = ap (λ rest. first ∷ rest) (onto_snoc (second ∷ before) last x)

-- the text before the submitters' blocks
abbrev head_text : PlanParts → List ℕ
head_text parts = queues_text parts.queues ++ disks_text parts.disks ++ expanders_text 0 parts.phys ++ inputs_text parts.plugs

plug_text : (parts : PlanParts) (x : Input) → Shaped block.Setup parts → plan_text parts ++ (input_line x ++ line_end) ≡ plan_text (placed block.Setup parts x)
unfolding submitters_text
plug_text parts x s =
    let front = queues_text parts.queues ++ disks_text parts.disks ++ expanders_text 0 parts.phys in
    let line = input_line x ++ line_end in
    let whole : front ++ inputs_text (parts.plugs ++ x ∷ []) ≡ (front ++ inputs_text parts.plugs) ++ line = ap (λ rest. front ++ rest) (one_more_input parts.plugs x) ∙ sym (append_assoc front (inputs_text parts.plugs) line) in
    rw (s.0, s.1) (ap (λ text. text ++ line) (append-nil (head_text parts ++ []) ∙ append-nil (head_text parts)) ∙ sym whole ∙ sym (append-nil ((front ++ inputs_text (parts.plugs ++ x ∷ [])) ++ []) ∙ append-nil (front ++ inputs_text (parts.plugs ++ x ∷ []))))

told_blocks : (submitters : List (List Input)) (x : Input) → HasLast submitters → submitters_text 0 (onto_last submitters x) ≡ submitters_text 0 submitters ++ (input_line x ++ line_end)
told_blocks submitters x h =
    let line = input_line x ++ line_end in
    let number = 0 + length h.before in
    let start = codes "submitter " ++ decimal number ++ line_end in
    let longer : submitter_text number (h.last ++ x ∷ []) ≡ submitter_text number h.last ++ line = ap (λ rest. start ++ rest) (one_more_input h.last x) ∙ sym (append_assoc start (inputs_text h.last) line) in
    rw h.are
    (ap (submitters_text 0) (onto_snoc h.before h.last x) ∙ one_more_block 0 h.before (h.last ++ x ∷ []) ∙ ap (λ rest. submitters_text 0 h.before ++ rest) longer ∙ sym (append_assoc (submitters_text 0 h.before) (submitter_text number h.last) line)
    ∙ ap (λ text. text ++ line) (sym (one_more_block 0 h.before h.last)))

told_text : (parts : PlanParts) (x : Input) → Shaped block.Submitter parts → plan_text parts ++ (input_line x ++ line_end) ≡ plan_text (placed block.Submitter parts x)
told_text parts x s =
    let line = input_line x ++ line_end in
    let blocks = told_blocks parts.submitters x s.0 in
    rw (s.1, blocks) (ap (λ text. text ++ line) (append-nil (head_text parts ++ submitters_text 0 parts.submitters)) ∙ append_assoc (head_text parts) (submitters_text 0 parts.submitters) line ∙ sym (append-nil (head_text parts ++ (submitters_text 0 parts.submitters ++ line))))

block_text : (parts : PlanParts) → parts.fabric ≡ [] → plan_text parts ++ ((codes "submitter " ++ decimal (length parts.submitters)) ++ line_end) ≡ plan_text (with_submitter parts)
block_text parts none =
    let line = (codes "submitter " ++ decimal (length parts.submitters)) ++ line_end in
    let blocks : submitters_text 0 (parts.submitters ++ [] ∷ []) ≡ submitters_text 0 parts.submitters ++ line = one_more_block 0 parts.submitters [] ∙ ap (λ rest. submitters_text 0 parts.submitters ++ rest) (ap (λ n. submitter_text n []) (zero-add (length parts.submitters)) ∙ append-nil line) in
    rw (none, blocks) (ap (λ text. text ++ line) (append-nil (head_text parts ++ submitters_text 0 parts.submitters)) ∙ append_assoc (head_text parts) (submitters_text 0 parts.submitters) line ∙ sym (append-nil (head_text parts ++ (submitters_text 0 parts.submitters ++ line))))

has_last_block : (submitters : List (List Input)) (x : Input) → HasLast submitters → HasLast (onto_last submitters x)
has_last_block submitters x h = record { before = h.before; last = h.last ++ x ∷ []; are = ap (λ (s : List (List Input)). onto_last s x) h.are ∙ onto_snoc h.before h.last x }

-- ---- the lines of the blocks

-- a state by its parts
abbrev at : Block → Declared → List ℕ → ℕ → PlanParts → PlanState
at place d ns k parts = record { block = place; declared = d; numbers = ns; lines = k; plan = parts }

-- an input is judged alike whatever the stage
judged_alike : (place : Block) (stage : ScheduleStage) (d : Declared) (ns : List ℕ) (k : ℕ) (parts : PlanParts) (x : Input) → judged_line (relabelled place stage (at place d ns k parts)) (input_statement x) ≡ judged_line (at place d ns k parts) (input_statement x)
judged_alike place stage d ns k parts input.Start = refl
judged_alike place stage d ns k parts (input.Submit n address form) = refl
judged_alike place stage d ns k parts (input.Abort n) = refl
judged_alike place stage d ns k parts (input.TargetReset address) = refl
judged_alike place stage d ns k parts input.Reset = refl
judged_alike place stage d ns k parts input.UnitReset = refl
judged_alike place stage d ns k parts (input.Plug address e phy) = refl
judged_alike place stage d ns k parts (input.Unplug address) = refl

-- an input that a plan may have here
record May (p : PlanState) (x : Input) : Type 0 where
  fits : input_fits x ≡ true
  form : is_shared (input_statement x) ≡ true
  judged : judged_line p (input_statement x) ≡ Ok (line.Input x)

abbrev after_input : PlanState → Input → PlanState
after_input p x = planned_after p (planned.Line (line.Input x))

input_leads : (place : Block) (stage : ScheduleStage) (d : Declared) (ns : List ℕ) (k : ℕ) (parts : PlanParts) (x : Input) → May (at place d ns k parts) x
    → Leads (relabelled place stage (at place d ns k parts)) (input_line x ++ line_end) (after_input (at place d ns k parts) x)
input_leads place stage d ns k parts x m =
    let answered = judged_alike place stage d ns k parts x ∙ m.judged in
    line_leads (relabelled place stage (at place d ns k parts)) (input_line x) (plan.Line (input_statement x)) (planned.Line (line.Input x)) (input_planned x m.fits m.form)
    (ap (λ (found : Result Line Cause). found >>= (λ value. Ok (planned.Line value))) answered)

-- the text leads to the very block
led : (p : PlanState) (place : Block) (l : Late p) → l.place ≡ place → Leads nothing_planned (plan_text p.plan) (relabelled place l.stage p)
led p place l e = subst (λ (b : Block). Leads nothing_planned (plan_text p.plan) (relabelled b l.stage p)) e l.leads

fabric_judged : (place : Block) (stage : ScheduleStage) (p : PlanState) → is_fabric place ≡ false → plan_judged (relabelled place stage p) plan.Fabric ≡ Ok planned.Fabric
fabric_judged place stage p e = rw e refl

fabric_first_text : (parts : PlanParts) (x : Input) → (plan_text (record parts { fabric = [] }) ++ (codes "fabric" ++ line_end)) ++ (input_line x ++ line_end) ≡ plan_text (record parts { fabric = x ∷ [] })
fabric_first_text parts x =
    let front = head_text parts ++ submitters_text 0 parts.submitters in
    let start = codes "fabric" ++ line_end in
    let line = input_line x ++ line_end in
    ap (λ text. (text ++ start) ++ line) (append-nil front) ∙ append_assoc front start line ∙ ap (λ rest. front ++ (start ++ rest)) (sym (append-nil line))

fabric_next_text : (parts : PlanParts) (first : Input) (others : List Input) (x : Input) → plan_text (record parts { fabric = first ∷ others }) ++ (input_line x ++ line_end) ≡ plan_text (record parts { fabric = (first ∷ others) ++ x ∷ [] })
fabric_next_text parts first others x =
    let front = head_text parts ++ submitters_text 0 parts.submitters in
    let start = codes "fabric" ++ line_end in
    let line = input_line x ++ line_end in
    append_assoc front (start ++ inputs_text (first ∷ others)) line ∙ ap (λ rest. front ++ rest) (append_assoc start (inputs_text (first ∷ others)) line ∙ ap (λ rest. start ++ rest) (sym (one_more_input (first ∷ others) x)))

late_fabric : (fabric : List Input) (d : Declared) (ns : List ℕ) (k : ℕ) (parts : PlanParts) (x : Input) → May (at block.Fabric d ns k (record parts { fabric = fabric })) x → Late (at block.Fabric d ns k (record parts { fabric = fabric }))
    → Late (after_input (at block.Fabric d ns k (record parts { fabric = fabric })) x)
late_fabric [] d ns k parts x m l =
    let p = at block.Fabric d ns k (record parts { fabric = [] }) in
    let from = relabelled l.place l.stage p in
    let begun = relabelled block.Fabric Steps p in
    let start = line_leads from (codes "fabric") plan.Fabric planned.Fabric fabric_planned (fabric_judged l.place l.stage p l.tied) in
    record {
      place = block.Fabric;
      stage = Steps;
      tied = refl;
      shaped = tt;
      leads = leads_as nothing_planned (after_input p x) _ _ (fabric_first_text parts x)
          (leads_on nothing_planned begun (after_input p x) (plan_text p.plan ++ (codes "fabric" ++ line_end)) (input_line x ++ line_end) (leads_on nothing_planned from begun (plan_text p.plan) (codes "fabric" ++ line_end) l.leads start) (input_leads block.Fabric Steps d ns k (record parts { fabric = [] }) x m));
    }
late_fabric (first ∷ others) d ns k parts x m l =
    let p = at block.Fabric d ns k (record parts { fabric = first ∷ others }) in
    record {
      place = block.Fabric;
      stage = Steps;
      tied = refl;
      shaped = tt;
      leads = leads_as nothing_planned (after_input p x) _ _ (fabric_next_text parts first others x)
          (leads_on nothing_planned (relabelled block.Fabric l.stage p) (after_input p x) (plan_text p.plan) (input_line x ++ line_end) (led p block.Fabric l l.tied) (input_leads block.Fabric l.stage d ns k (record parts { fabric = first ∷ others }) x m));
    }

-- after one more input
late_input : (place : Block) (d : Declared) (ns : List ℕ) (k : ℕ) (parts : PlanParts) (x : Input) → May (at place d ns k parts) x → Late (at place d ns k parts) → Late (after_input (at place d ns k parts) x)
late_input block.Setup d ns k parts x m l =
    let p = at block.Setup d ns k parts in
    record {
      place = block.Setup;
      stage = Steps;
      tied = refl;
      shaped = l.shaped;
      leads = leads_as nothing_planned (after_input p x) _ _ (plug_text parts x l.shaped)
          (leads_on nothing_planned (relabelled block.Setup l.stage p) (after_input p x) (plan_text p.plan) (input_line x ++ line_end) (led p block.Setup l l.tied) (input_leads block.Setup l.stage d ns k parts x m));
    }
late_input block.Submitter d ns k parts x m l =
    let p = at block.Submitter d ns k parts in
    record {
      place = block.Submitter;
      stage = Steps;
      tied = refl;
      shaped = (has_last_block parts.submitters x l.shaped.0, l.shaped.1);
      leads = leads_as nothing_planned (after_input p x) _ _ (told_text parts x l.shaped)
          (leads_on nothing_planned (relabelled block.Submitter l.stage p) (after_input p x) (plan_text p.plan) (input_line x ++ line_end) (led p block.Submitter l l.tied) (input_leads block.Submitter l.stage d ns k parts x m));
    }
late_input block.Fabric d ns k parts x m l = late_fabric parts.fabric d ns k parts x m l

-- after the first line of a submitter's block
submitter_judged : (place : Block) (stage : ScheduleStage) (p : PlanState) (number : ℕ) → is_fabric place ≡ false → (number == length p.plan.submitters) ≡ true → nat_le 8 (length p.plan.submitters) ≡ false
    → plan_judged (relabelled place stage p) (plan.Submitter number) ≡ Ok planned.Submitter
submitter_judged place stage p number e f g = rw (e, f, g) refl

block_begun : (p : PlanState) (place : Block) (l : Late p) → is_fabric place ≡ false → l.place ≡ place → p.plan.fabric ≡ [] → nat_le 8 (length p.plan.submitters) ≡ false → Late (planned_after p planned.Submitter)
block_begun p place l e same none few =
    let number = length p.plan.submitters in
    let small : number < 2 ^ 64 = grind (arith, common_steps, few) in
    let from = relabelled place l.stage p in
    let to = planned_after p planned.Submitter in
    record {
      place = block.Submitter;
      stage = Steps;
      tied = refl;
      shaped = (record { before = p.plan.submitters; last = []; are = refl }, none);
      leads = leads_as nothing_planned to _ _ (block_text p.plan none)
          (leads_on nothing_planned from to (plan_text p.plan) ((codes "submitter " ++ decimal number) ++ line_end) (led p place l same)
          (line_leads from (codes "submitter " ++ decimal number) (plan.Submitter number) planned.Submitter (submitter_planned number small) (submitter_judged place l.stage p number e (same_number number) few)));
    }

late_submitter : (place : Block) (d : Declared) (ns : List ℕ) (k : ℕ) (parts : PlanParts) → is_fabric place ≡ false → nat_le 8 (length parts.submitters) ≡ false → Late (at place d ns k parts) → Late (planned_after (at place d ns k parts) planned.Submitter)
late_submitter block.Setup d ns k parts e few l = block_begun (at block.Setup d ns k parts) block.Setup l refl l.tied l.shaped.1 few
late_submitter block.Submitter d ns k parts e few l = block_begun (at block.Submitter d ns k parts) block.Submitter l refl l.tied l.shaped.1 few
late_submitter block.Fabric d ns k parts e few l = cc

-- after the first line of the fabric's block
late_begun : (p : PlanState) (l : Late p) → is_fabric l.place ≡ false → p.plan.fabric ≡ [] → Late (planned_after p planned.Fabric)
late_begun p l e none = record { place = l.place; stage = l.stage; tied = subst (λ (fabric : List Input). Tied block.Fabric l.place fabric) (sym none) e; shaped = tt; leads = l.leads }

late_fabric_line : (place : Block) (d : Declared) (ns : List ℕ) (k : ℕ) (parts : PlanParts) → is_fabric place ≡ false → Late (at place d ns k parts) → Late (planned_after (at place d ns k parts) planned.Fabric)
late_fabric_line block.Setup d ns k parts e l = late_begun (at block.Setup d ns k parts) l (ap is_fabric l.tied) l.shaped.1
late_fabric_line block.Submitter d ns k parts e l = late_begun (at block.Submitter d ns k parts) l (ap is_fabric l.tied) l.shaped.1
late_fabric_line block.Fabric d ns k parts e l = cc

-- ---- whole texts

impossible : (A : Type 0) → true ≡ false → A
impossible A e = cc

-- what holds of the plan while it is read
record Reread (p : PlanState) : Type 0 where
  sound : Sound p.declared
  early : is_steps p.declared.stage ≡ false → Early p
  late : Late p

-- no cause holds of an answered statement
record Passed (p : PlanState) (said : Statement) : Type 0 where
  placed : is_misplaced p.declared said ≡ false
  in_block : is_out_of_block p.block said ≡ false
  new : is_repeated p.declared said ≡ false
  within : is_too_many p.declared said ≡ false
  known : is_unknown p.declared said ≡ false

passed : (p : PlanState) (said : Statement) (l : Line) → judged_line p said ≡ Ok l → Passed p said × (line_of said ≡ l)
passed p said l h =
    let parts = by_causes (is_misplaced p.declared said || is_out_of_block p.block said) (is_repeated p.declared said || is_numbered p said) (is_too_many p.declared said || is_crowded p said) (is_unknown p.declared said) (line_of said) l h in
    let place = or_parts (is_misplaced p.declared said) (is_out_of_block p.block said) parts.0 in
    let again = or_parts (is_repeated p.declared said) (is_numbered p said) parts.1 in
    let many = or_parts (is_too_many p.declared said) (is_crowded p said) parts.2 in
    (record { placed = place.0; in_block = place.1; new = again.0; within = many.0; known = parts.3 }, parts.4)

abbrev after_line : PlanState → Statement → PlanState
after_line p said = planned_after p (planned.Line (line_of said))

early_queues : (p : PlanState) (q : ℕ) → (nat_le 1 q && nat_le q 8) ≡ true → Early p → Early (after_line p (statement.Queues q))
early_queues p q h e = record {
  stage = Declarations;
  q = q;
  addresses = e.addresses;
  disks = e.disks;
  phys = e.phys;
  is = ap (λ (s : PlanState). after_line s (statement.Queues q)) e.is;
  queues_are = queues_read q h;
  disks_are = e.disks_are;
  expanders_are = e.expanders_are;
}

early_disk : (p : PlanState) (x : DiskSpec) → statement_fits (statement.Disk x) ≡ true → Passed p (statement.Disk x) → Early p → Early (after_line p (statement.Disk x))
early_disk p x h c e =
    let c' = subst (λ (s : PlanState). Passed s (statement.Disk x)) e.is c in
    record {
      stage = Declarations;
      q = e.q;
      addresses = insert_key nat_cmp e.addresses x.address;
      disks = e.disks ++ x ∷ [];
      phys = e.phys;
      is = ap (λ (s : PlanState). after_line s (statement.Disk x)) e.is;
      queues_are = e.queues_are;
      disks_are = disk_more e.addresses e.disks x h c'.new c'.within e.disks_are;
      expanders_are = e.expanders_are;
    }

early_expander : (p : PlanState) (number x : ℕ) → (nat_le 1 x && nat_le x 22) ≡ true → Passed p (statement.Expander number x) → Early p → Early (after_line p (statement.Expander number x))
early_expander p number x h c e =
    let c' = subst (λ (s : PlanState). Passed s (statement.Expander number x)) e.is c in
    record {
      stage = Declarations;
      q = e.q;
      addresses = e.addresses;
      disks = e.disks;
      phys = e.phys ++ x ∷ [];
      is = ap (λ (s : PlanState). after_line s (statement.Expander number x)) e.is;
      queues_are = e.queues_are;
      disks_are = e.disks_are;
      expanders_are = expander_more e.phys x h c'.within e.expanders_are;
    }

-- after one more declaration
by_declaration : (p : PlanState) (said : Statement) → statement_fits said ≡ true → Passed p said → Reread p → Early (after_line p said) → Reread (after_line p said)
by_declaration p said h c r a = record {
  sound = sound_after p.declared said r.sound h c.within;
  early = λ e. a;
  late = early_late (after_line p said) a;
}

by_input : (p : PlanState) (said : Statement) (x : Input) → said ≡ input_statement x → Fits (plan.Line said) → Passed p said → judged_line p said ≡ Ok (line.Input x) → line_of said ≡ line.Input x → Reread p → Reread (after_input p x)
by_input p said x same h c j is r =
    let fitting = subst (λ (l : Line). line_fits l ≡ true) is (fitting_line p.declared said r.sound h.1 c.known) in
    let sound = subst (λ (l : Line). Sound (after p.declared l)) is (sound_after p.declared said r.sound h.1 c.within) in
    let may : May p x = record { fits = fitting; form = subst (λ (s : Statement). is_shared s ≡ true) same h.0; judged = subst (λ (s : Statement). judged_line p s ≡ Ok (line.Input x)) same j } in
    record {
      sound = sound;
      early = λ e. impossible _ e;
      late = late_input p.block p.declared p.numbers p.lines p.plan x may r.late;
    }

line_step : (p : PlanState) (said : Statement) → Fits (plan.Line said) → Passed p said → judged_line p said ≡ Ok (line_of said) → Reread p → Reread (after_line p said)
line_step p (statement.Queues q) h c j r = by_declaration p (statement.Queues q) h.1 c r (early_queues p q h.1 (r.early (first_only p.declared.stage (not_false _ c.placed))))
  where
    first_only : (stage : ScheduleStage) → is_first stage ≡ true → is_steps stage ≡ false
    first_only First e = refl
    first_only Declarations e = refl
    first_only Steps e = cc
line_step p (statement.Disk x) h c j r = by_declaration p (statement.Disk x) h.1 c r (early_disk p x h.1 c (r.early c.placed))
line_step p (statement.Expander number x) h c j r = by_declaration p (statement.Expander number x) h.1 c r (early_expander p number x h.1 c (r.early (or_parts (is_steps p.declared.stage) (not (number == length p.declared.phys)) c.placed).0))
line_step p (statement.Plug at e phy) h c j r = by_input p (statement.Plug at e phy) (input.Plug at e phy) refl h c j refl r
line_step p (statement.Unplug at) h c j r = by_input p (statement.Unplug at) (input.Unplug at) refl h c j refl r
line_step p (statement.Host x) h c j r = by_input p (statement.Host x) x (sym (host_statement x (and_parts (is_host x) (input_fits x) h.1).0)) h c j refl r
line_step p (statement.Choice choice count) h c j r = impossible _ (sym h.0)
line_step p statement.Drain h c j r = impossible _ (sym h.0)

sound_begun : (d : Declared) → Sound d → Sound (begun d)
sound_begun d s = record { few = s.few; narrow = s.narrow }

submitter_causes : (a b : Bool) (l : PlanLine) → cond a (Err Order) (cond b (Err Many) (Ok planned.Submitter)) ≡ Ok l → (a ≡ false) × (b ≡ false) × (planned.Submitter ≡ l)
submitter_causes true b l h = refused Order l _ h
submitter_causes false true l h = refused Many l _ h
submitter_causes false false l h = (refl, refl, ok_value planned.Submitter l h)

fabric_causes : (a : Bool) (l : PlanLine) → cond a (Err Order) (Ok planned.Fabric) ≡ Ok l → (a ≡ false) × (planned.Fabric ≡ l)
fabric_causes true l h = refused Order l _ h
fabric_causes false l h = (refl, ok_value planned.Fabric l h)

-- after one more line
step : (p : PlanState) (said : PlanStatement) (l : PlanLine) → Fits said → plan_judged p said ≡ Ok l → Reread p → Reread (planned_after p l)
step p (plan.Line said) l h j r =
    let v = bind_ok (judged_line p said) _ l j in
    let c = passed p said v.0 v.1 in
    subst (λ (m : PlanLine). Reread (planned_after p m)) (ap planned.Line c.1 ∙ ok_value (planned.Line v.0) l v.2) (line_step p said h c.0 (v.1 ∙ ap Ok (sym c.1)) r)
step p (plan.Submitter number) l h j r =
    let c = submitter_causes (is_fabric p.block || not (number == length p.plan.submitters)) (nat_le 8 (length p.plan.submitters)) l j in
    let outside = (or_parts (is_fabric p.block) (not (number == length p.plan.submitters)) c.0).0 in
    subst (λ (m : PlanLine). Reread (planned_after p m)) c.2 (record {
      sound = sound_begun p.declared r.sound;
      early = λ e. impossible _ e;
      late = late_submitter p.block p.declared p.numbers p.lines p.plan outside c.1 r.late;
    })
step p plan.Fabric l h j r =
    let c = fabric_causes (is_fabric p.block) l j in
    subst (λ (m : PlanLine). Reread (planned_after p m)) c.1 (record {
      sound = sound_begun p.declared r.sound;
      early = λ e. impossible _ e;
      late = late_fabric_line p.block p.declared p.numbers p.lines p.plan c.0 r.late;
    })

-- what a line that says something said
said_by : (b : Bool) (found : Result PlanStatement Cause) (p : PlanState) (l : PlanLine) → cond b (Ok None) (found >>= plan_judged p >>= (λ value. Ok (Some value))) ≡ Ok (Some l) → (said : PlanStatement) × (found ≡ Ok said) × (plan_judged p said ≡ Ok l)
said_by true found p l h = cc
said_by false (Err cause) p l h = cc
said_by false (Ok said) p l h =
    let j = bind_ok (plan_judged p said) _ (Some l) h in
    (said, refl, j.1 ∙ ap Ok (some_value j.0 l (ok_value (Some j.0) (Some l) j.2)))
  where
    some_value : (x y : PlanLine) → Some x ≡ Some y → x ≡ y
    some_value x y e = cc

-- the plan so far reads back
so_far_back : (p : PlanState) → Reread p → plan_of (plan_text p.plan) ≡ Ok p.plan
unfolding plan_from
so_far_back p r =
    let whole = r.late.leads [] p.plan (λ number. refl) 1 in
    subst (λ (text : List ℕ). plan_from 1 nothing_planned (lines text) ≡ Ok p.plan) (append-nil (plan_text p.plan)) whole

ok_parts : (x y : PlanParts) → (let r : Result PlanParts Fault = Ok x in r) ≡ Ok y → x ≡ y
ok_parts x y e = cc

ended : (p : PlanState) (parts : PlanParts) → Reread p → (let r : Result PlanParts Fault = Ok p.plan in r) ≡ Ok parts → plan_of (plan_text parts) ≡ Ok parts
ended p parts r e = subst (λ (x : PlanParts). plan_of (plan_text x) ≡ Ok x) (ok_parts p.plan parts e) (so_far_back p r)

last_piece : (b : Bool) (p : PlanState) (fault : Fault) (parts : PlanParts) → Reread p → cond b (Ok p.plan) (Err fault) ≡ Ok parts → plan_of (plan_text parts) ≡ Ok parts
last_piece true p fault parts r e = ended p parts r e
last_piece false p fault parts r e = cc

read_on : (number : ℕ) (p : PlanState) (pieces : List (List ℕ)) (parts : PlanParts) → Reread p → plan_from number p pieces ≡ Ok parts → plan_of (plan_text parts) ≡ Ok parts
unfolding plan_from
read_on number p [] parts r h = ended p parts r h
read_on number p (rest ∷ []) parts r h = last_piece (length rest == 0) p _ parts r h
read_on number p (text ∷ next ∷ others) parts r h = went (plan_value p text) refl h (λ p' r' h'. read_on (next_number number) p' (next ∷ others) parts r' h')
  where
    went : (found : Result (Option PlanLine) Cause) → plan_value p text ≡ found → went_on number p found (λ now. plan_from (next_number number) now (next ∷ others)) ≡ Ok parts
        → ((p' : PlanState) → Reread p' → plan_from (next_number number) p' (next ∷ others) ≡ Ok parts → plan_of (plan_text parts) ≡ Ok parts) → plan_of (plan_text parts) ≡ Ok parts
    went (Err cause) is e more = cc
    went (Ok None) is e more = more p r e
    went (Ok (Some l)) is e more =
        let said = said_by (says_nothing text) (plan_line (words text)) p l is in
        more (planned_after p l) (step p said.0 l (plan_line_fits (words text) said.0 said.1) said.2 r) e

no_disks : DisksRead [] []
no_disks = λ stage q early. record { stage = stage; early = early; leads = leads_nothing (setup stage q [] [] []) }

no_expanders : ExpandersRead []
unfolding expanders_text
no_expanders = λ stage q addresses disks early. record { stage = stage; early = early; leads = leads_nothing (setup stage q addresses disks []) }

no_lines : Early nothing_planned
no_lines = record { stage = First; q = 1; addresses = []; disks = []; phys = []; is = refl; queues_are = queues_read 1 refl; disks_are = no_disks; expanders_are = no_expanders }

-- the printed text of what a text stands for reads as it
pub plan_back : (text : List ℕ) (parts : PlanParts) → plan_of text ≡ Ok parts → plan_of (plan_text parts) ≡ Ok parts
plan_back text parts h = read_on 1 nothing_planned (lines text) parts (record { sound = record { few = lit≤ tt; narrow = refl }; early = λ e. no_lines; late = early_late nothing_planned no_lines }) h
