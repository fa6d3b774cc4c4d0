-- The lines of a plan: what reads as one keeps its ranges, and a printed one reads as its statement.
use Rattle.std.proofs.Common.{◌≡◌, ℕ, ◌^◌, ◌<◌, ◌==◌, ◌&&◌, nat_le, Bool, true, false, List, [], ◌∷◌, ◌++◌, length, map, Result, Ok, refl, ◌∙◌, ap, subst, codes, decimal}
use Rattle.std.specs.List.{list_all}
use Rattle.mpt_lines.proofs.Texts.{is_word, number_decimal, word_decimal, words_last}
use Rattle.mpt_lines.specs.declared.fault.Cause.{Cause}
use Rattle.mpt_lines.specs.declared.fault.Cause.TheVariants.{Form}
use Rattle.mpt_lines.specs.declared.statement.PlanStatement.{PlanStatement}
use Rattle.mpt_lines.specs.declared.statement.PlanStatement.TheVariants as plan
use Rattle.mpt_lines.specs.declared.statement.Statement.{Statement}
use Rattle.mpt_lines.specs.declared.statement.Statement.TheVariants as statement
use Rattle.mpt_lines.specs.Commands.{command}
use Rattle.mpt_lines.specs.Numbers.{◌>>=◌, address, number, within}
use Rattle.mpt_lines.specs.Statements.{abort, disk, expander, fabric, in_a_plan, plan_line, plan_words, plug, queues, reset, schedule_line, shared_words, submit, submitter, treset, unplug}
use Rattle.mpt_lines.specs.Words.{nothing, one, three, two, words}
use Rattle.mpt_trace.specs.declared.disk_spec.DiskSpec.{DiskSpec}
use Rattle.mpt_trace.specs.declared.input.Input.{Input}
use Rattle.mpt_trace.specs.declared.input.Input.TheVariants as input
use Rattle.mpt_trace.specs.Schedule.{input_line}
use Rattle.mpt_script.specs.Allowed.{input_fits, input_statement, is_address, statement_fits}
use Rattle.mpt_script.specs.Printed.{disk_text, expander_text}
use Rattle.mpt_script.proofs.Accepted.{abort_fits, bind_ok, disk_fits, expander_fits, ok_value, plug_fits, queues_fits, read_keeps, refused, reset_fits, submit_fits, treset_fits, unplug_fits}
use Rattle.mpt_script.proofs.ReadBack.{ReadsAs, abort_back, disk_back, expander_back, plug_back, queues_back, submit_back, treset_back, unplug_back}

-- ---- what reads as a line

-- what a submitter may tell the host
abbrev pub is_told : Input → Bool
is_told (input.Submit n at f) = true
is_told (input.Abort n) = true
is_told (input.TargetReset at) = true
is_told input.Reset = true
is_told _ = false

-- plans have lines of this form
abbrev pub is_shared : Statement → Bool
is_shared (statement.Queues queues) = true
is_shared (statement.Disk disk) = true
is_shared (statement.Expander number phys) = true
is_shared (statement.Plug at e phy) = true
is_shared (statement.Unplug at) = true
is_shared (statement.Host given) = is_told given
is_shared _ = false

shared_said : (f g : Statement) → (let r : Result Statement Cause = Ok f in r) ≡ Ok g → is_shared f ≡ true → is_shared g ≡ true
shared_said f g e h = subst (λ (k : Statement). is_shared k ≡ true) (ok_value f g e) h

queues_shared : (ws : List (List ℕ)) (s : Statement) → queues ws ≡ Ok s → is_shared s ≡ true
queues_shared ws s e =
    let w = bind_ok (one ws) _ s e in
    let n = bind_ok (number w.0) _ s w.2 in
    let q = bind_ok (within 1 8 n.0) _ s n.2 in
    shared_said (statement.Queues q.0) s q.2 refl

disk_shared : (ws : List (List ℕ)) (s : Statement) → disk ws ≡ Ok s → is_shared s ≡ true
disk_shared ws s e =
    let w = bind_ok (two ws) _ s e in
    let a = bind_ok (address w.0.0) _ s w.2 in
    let n = bind_ok (number w.0.1) _ s a.2 in
    let b = bind_ok (within 1 1024 n.0) _ s n.2 in
    shared_said (statement.Disk (record { address = a.0; blocks = b.0 })) s b.2 refl

expander_shared : (ws : List (List ℕ)) (s : Statement) → expander ws ≡ Ok s → is_shared s ≡ true
expander_shared ws s e =
    let w = bind_ok (two ws) _ s e in
    let m = bind_ok (number w.0.0) _ s w.2 in
    let n = bind_ok (number w.0.1) _ s m.2 in
    let p = bind_ok (within 1 22 n.0) _ s n.2 in
    shared_said (statement.Expander m.0 p.0) s p.2 refl

plug_shared : (ws : List (List ℕ)) (s : Statement) → plug ws ≡ Ok s → is_shared s ≡ true
plug_shared ws s e =
    let w = bind_ok (three ws) _ s e in
    let a = bind_ok (address w.0.0) _ s w.2 in
    let m = bind_ok (number w.0.1) _ s a.2 in
    let n = bind_ok (number w.0.2) _ s m.2 in
    shared_said (statement.Plug a.0 m.0 n.0) s n.2 refl

unplug_shared : (ws : List (List ℕ)) (s : Statement) → unplug ws ≡ Ok s → is_shared s ≡ true
unplug_shared ws s e =
    let w = bind_ok (one ws) _ s e in
    let a = bind_ok (address w.0) _ s w.2 in
    shared_said (statement.Unplug a.0) s a.2 refl

treset_shared : (ws : List (List ℕ)) (s : Statement) → treset ws ≡ Ok s → is_shared s ≡ true
treset_shared ws s e =
    let w = bind_ok (one ws) _ s e in
    let a = bind_ok (address w.0) _ s w.2 in
    shared_said (statement.Host (input.TargetReset a.0)) s a.2 refl

submit_shared : (ws : List (List ℕ)) (s : Statement) → submit ws ≡ Ok s → is_shared s ≡ true
submit_shared [] s e = refused Form s _ e
submit_shared (first ∷ []) s e = refused Form s _ e
submit_shared (first ∷ second ∷ others) s e =
    let m = bind_ok (number first) _ s e in
    let a = bind_ok (address second) _ s m.2 in
    let f = bind_ok (command others) _ s a.2 in
    let n = bind_ok (within 0 4294967295 m.0) _ s f.2 in
    shared_said (statement.Host (input.Submit n.0 a.0 f.0)) s n.2 refl

abort_shared : (ws : List (List ℕ)) (s : Statement) → abort ws ≡ Ok s → is_shared s ≡ true
abort_shared ws s e =
    let w = bind_ok (one ws) _ s e in
    let m = bind_ok (number w.0) _ s w.2 in
    let n = bind_ok (within 0 4294967295 m.0) _ s m.2 in
    shared_said (statement.Host (input.Abort n.0)) s n.2 refl

reset_shared : (ws : List (List ℕ)) (s : Statement) → reset ws ≡ Ok s → is_shared s ≡ true
reset_shared ws s e = shared_said (statement.Host input.Reset) s (bind_ok (nothing ws) _ s e).2 refl

-- a statement of a plan has one of its forms, and its numbers keep their ranges
abbrev pub Fits : PlanStatement → Type 0
Fits (plan.Line said) = (is_shared said ≡ true) × (statement_fits said ≡ true)
Fits _ = Unit {0}

fits_said : (f g : PlanStatement) → (let r : Result PlanStatement Cause = Ok f in r) ≡ Ok g → Fits f → Fits g
fits_said f g e h = subst Fits (ok_value f g e) h

submitter_fits : (ws : List (List ℕ)) (s : PlanStatement) → submitter ws ≡ Ok s → Fits s
submitter_fits ws s e =
    let w = bind_ok (one ws) _ s e in
    let n = bind_ok (number w.0) _ s w.2 in
    fits_said (plan.Submitter n.0) s n.2 tt

fabric_fits : (ws : List (List ℕ)) (s : PlanStatement) → fabric ws ≡ Ok s → Fits s
fabric_fits ws s e = fits_said plan.Fabric s (bind_ok (nothing ws) _ s e).2 tt

-- a line that schedules have too
shared_fits : (reads : List (List ℕ) → Result Statement Cause) → ((ws : List (List ℕ)) (s : Statement) → reads ws ≡ Ok s → is_shared s ≡ true) → ((ws : List (List ℕ)) (s : Statement) → reads ws ≡ Ok s → statement_fits s ≡ true)
    → (ws : List (List ℕ)) (s : PlanStatement) → (reads ws >>= (λ said. Ok (plan.Line said))) ≡ Ok s → Fits s
shared_fits reads shared fits ws s e =
    let said = bind_ok (reads ws) _ s e in
    fits_said (plan.Line said.0) s said.2 (shared ws said.0 said.1, fits ws said.0 said.1)

-- what a line of a plan says keeps its ranges
pub plan_line_fits : (ws : List (List ℕ)) (s : PlanStatement) → plan_line ws ≡ Ok s → Fits s
plan_line_fits =
    read_keeps Fits (plan_words ++ map in_a_plan shared_words) (
      submitter_fits,
      (
        fabric_fits,
        (
          shared_fits queues queues_shared queues_fits,
          (
            shared_fits disk disk_shared disk_fits,
            (
              shared_fits expander expander_shared expander_fits,
              (
                shared_fits plug plug_shared plug_fits,
                (
                  shared_fits unplug unplug_shared unplug_fits,
                  (
                    shared_fits reset reset_shared reset_fits,
                    (shared_fits treset treset_shared treset_fits, (shared_fits submit submit_shared submit_fits, (shared_fits abort abort_shared abort_fits, tt))),
                  ),
                ),
              ),
            ),
          ),
        ),
      ),
    )

-- ---- what a printed line reads as

-- the words of a line, each without spaces, read as the plan's statement; the first has some byte
pub record PlanReads (text : List ℕ) (said : PlanStatement) : Type 0 where
  pub word : List ℕ
  pub others : List (List ℕ)
  pub words_are : words text ≡ word ∷ others
  pub plain : list_all is_word (word ∷ others) ≡ true
  pub some : (length word == 0) ≡ false
  pub reads : plan_line (word ∷ others) ≡ Ok said

-- a line of a schedule, in a plan
abbrev in_plan : Result Statement Cause → Result PlanStatement Cause
in_plan found = found >>= (λ said. Ok (plan.Line said))

of_schedule : (text : List ℕ) (said : Statement) (r : ReadsAs text said) → plan_line (r.word ∷ r.others) ≡ in_plan (schedule_line (r.word ∷ r.others)) → PlanReads text (plan.Line said)
of_schedule text said r same = record { word = r.word; others = r.others; words_are = r.words_are; plain = r.plain; some = r.some; reads = same ∙ ap in_plan r.reads }

pub queues_planned : (q : ℕ) → (nat_le 1 q && nat_le q 8) ≡ true → PlanReads (codes "queues " ++ decimal q) (plan.Line (statement.Queues q))
queues_planned q h = of_schedule _ _ (queues_back q h) refl

pub disk_planned : (d : DiskSpec) → (is_address d.address && nat_le 1 d.blocks && nat_le d.blocks 1024) ≡ true → PlanReads (disk_text d) (plan.Line (statement.Disk d))
disk_planned d h = of_schedule _ _ (disk_back d h) refl

pub expander_planned : (e phys : ℕ) → e < 2 ^ 64 → (nat_le 1 phys && nat_le phys 22) ≡ true → PlanReads (expander_text e phys) (plan.Line (statement.Expander e phys))
expander_planned e phys small h = of_schedule _ _ (expander_back e phys small h) refl

-- each printed input that plans have reads as its statement
pub input_planned : (given : Input) → input_fits given ≡ true → is_shared (input_statement given) ≡ true → PlanReads (input_line given) (plan.Line (input_statement given))
input_planned input.Start h k = cc
input_planned (input.Submit n at f) h k = of_schedule _ _ (submit_back n at f h) refl
input_planned (input.Abort n) h k = of_schedule _ _ (abort_back n h) refl
input_planned (input.TargetReset at) h k = of_schedule _ _ (treset_back at h) refl
input_planned input.Reset h k = record { word = codes "reset"; others = []; words_are = refl; plain = refl; some = refl; reads = refl }
input_planned input.UnitReset h k = cc
input_planned (input.Plug at e phy) h k = of_schedule _ _ (plug_back at e phy h) refl
input_planned (input.Unplug at) h k = of_schedule _ _ (unplug_back at h) refl

reads_submitter : (a : List ℕ) (i : ℕ) → number a ≡ Ok i → submitter (a ∷ []) ≡ Ok (plan.Submitter i)
reads_submitter a i e = rw e refl

pub submitter_planned : (i : ℕ) → i < 2 ^ 64 → PlanReads (codes "submitter " ++ decimal i) (plan.Submitter i)
submitter_planned i small = record {
  word = codes "submitter";
  others = decimal i ∷ [];
  words_are = ap (λ ws. codes "submitter" ∷ ws) (words_last (decimal i) (word_decimal i small));
  plain = rw (word_decimal i small) refl;
  some = refl;
  reads = reads_submitter (decimal i) i (number_decimal i small);
}

pub fabric_planned : PlanReads (codes "fabric") plan.Fabric
fabric_planned = record { word = codes "fabric"; others = []; words_are = refl; plain = refl; some = refl; reads = refl }
