use Rattle.std.proofs.Common.{◌≡◌, ◌<◌, ◌≤◌, ℕ, inr, List, [], cond, ltb, true, false, Option, Some, None, refl, length, ap, sym, ◌∙◌, arith}
use Rattle.std.specs.List.{list_all}
use Rattle.std.specs.Option.{option_or}
use Rattle.std.proofs.lemmas.Result.{err_from_is_err_and}
use Rattle.std.proofs.lemmas.Bool.Decides.{nat_tests}
use Rattle.mpt_sgl.specs.declared.chained.Chained.{Chained}
use Rattle.mpt_sgl.specs.declared.fault.SglFault.{SglFault}
use Rattle.mpt_sgl.specs.declared.fault.SglFault.TheVariants as fault
use Rattle.mpt_sgl.specs.declared.chained.ChainFrame.{ChainFrame}
use Rattle.mpt_sgl.specs.Faults.{chain_pieces}
use Rattle.mpt_sgl.specs.Pieces.{is_piece}
use Rattle.mpt_sgl.proofs.ListsTold.{first_of_empty, first_of_some, spells_none, spells_told, told_spells}
use Rattle.mpt_sgl.proofs.ChainSteps.{fault_moves}
use Rattle.mpt_sgl.proofs.reading.read_list.Goals as goal

-- the bytes that were read
abbrev bytes_of : ℕ → List ℕ → List ChainFrame → Chained
bytes_of offset first frames = record { offset = offset; first = first; frames = frames }

-- the cause that comes last
abbrev last_cause : ℕ → Option SglFault
last_cause count = cond (ltb 256 count) (Some fault.Many) None

too_many : (count read : ℕ) → read ≡ count → 256 < read → last_cause count ≡ Some fault.Many
too_many count read is more =
    let test : ltb 256 count ≡ true = grind (arith, nat_tests) in
    rw test refl

few_enough : (count read : ℕ) → read ≡ count → read ≤ 256 → last_cause count ≡ None
few_enough count read is few =
    let test : ltb 256 count ≡ false = grind (arith, nat_tests) in
    rw test refl

pub returns-in_err-check_empty-clause-only : goal.returns-in_err-check_empty-clause-only
returns-in_err-check_empty-clause-only c = λ list spells. (
    let p = err_from_is_err_and c.from_residual-in_err-check_empty.result c.from_residual-in_err-check_empty.ensures.1 in
    let all = bytes_of c.args.offset c.args.first.now c.args.frames.now in
    let first = first_of_empty all c.read-lead.result c.read-lead.ensures.element c.in_ok-shape.ensures.0 (sym c.is_empty_lead.ensures ∙ c.if-is_empty_lead.true) in
    rw (p.1, p.2) (spells_none all _ (inr (first.0 ∙ c.in_err-check_empty.ensures)) list spells)
    )

pub returns-then-is_empty_lead-clause-read : goal.returns-then-is_empty_lead-clause-read
returns-then-is_empty_lead-clause-read c =
    let all = bytes_of c.args.offset c.args.first.now c.args.frames.now in
    let first = first_of_empty all c.read-lead.result c.read-lead.ensures.element c.in_ok-shape.ensures.0 (sym c.is_empty_lead.ensures ∙ c.if-is_empty_lead.true) in
    let none : c.new-then-is_empty_lead.result ≡ [] = c.new-then-is_empty_lead.ensures ∙ c.new.ensures.items in
    told_spells all (record { to_device = false; pieces = c.new-then-is_empty_lead.result }) (first.1 ∙ ap (λ ps. record { to_device = false; pieces = ps }) (sym none)) (first.0 ∙ c.in_ok-check_empty.ensures) (ap (list_all is_piece) none)

pub returns-then-is_empty_lead-clause-only : goal.returns-then-is_empty_lead-clause-only
returns-then-is_empty_lead-clause-only c =
    let all = bytes_of c.args.offset c.args.first.now c.args.frames.now in
    let first = first_of_empty all c.read-lead.result c.read-lead.ensures.element c.in_ok-shape.ensures.0 (sym c.is_empty_lead.ensures ∙ c.if-is_empty_lead.true) in
    let none : c.new-then-is_empty_lead.result ≡ [] = c.new-then-is_empty_lead.ensures ∙ c.new.ensures.items in
    spells_told all (record { to_device = false; pieces = c.new-then-is_empty_lead.result }) (first.1 ∙ ap (λ ps. record { to_device = false; pieces = ps }) (sym none))

pub returns-in_err-pieces-clause-only : goal.returns-in_err-pieces-clause-only
returns-in_err-pieces-clause-only c = λ list spells. (
    let p = err_from_is_err_and c.from_residual-in_err-pieces.result c.from_residual-in_err-pieces.ensures.1 in
    let all = bytes_of c.args.offset c.args.first.now c.args.frames.now in
    let first = first_of_some all c.read-lead.result c.in_ok-shape.shape c.is_to_device-to_device.result c.read-lead.ensures.element c.in_ok-shape.ensures.0 (sym c.is_empty_lead.ensures ∙ c.if-is_empty_lead.false) c.in_ok-shape.ensures.1 c.is_to_device-to_device.ensures in
    rw (p.1, p.2) (spells_none all _ (fault_moves _ (λ e. first.0 ∙ ap (λ o. option_or o (last_cause (length (chain_pieces c.in_ok-shape.shape c.args.first.now c.args.frames.now)))) e) c.in_err-pieces.ensures.read) list spells)
    )

pub returns-then-as_slice-gt-MOST_PIECES-clause-only : goal.returns-then-as_slice-gt-MOST_PIECES-clause-only
returns-then-as_slice-gt-MOST_PIECES-clause-only c =
    let all = bytes_of c.args.offset c.args.first.now c.args.frames.now in
    let first = first_of_some all c.read-lead.result c.in_ok-shape.shape c.is_to_device-to_device.result c.read-lead.ensures.element c.in_ok-shape.ensures.0 (sym c.is_empty_lead.ensures ∙ c.if-is_empty_lead.false) c.in_ok-shape.ensures.1 c.is_to_device-to_device.ensures in
    let read = c.in_ok-pieces.ensures.read in
    spells_none all fault.Many (inr (first.0 ∙ ap (λ o. option_or o (last_cause (length (chain_pieces c.in_ok-shape.shape c.args.first.now c.args.frames.now)))) read.0 ∙ too_many _ (length c.as_slice.result.now) (ap length (c.as_slice.ensures.value ∙ read.1)) c.if-as_slice-gt-MOST_PIECES.true))

pub returns-clause-read : goal.returns-clause-read
returns-clause-read c =
    let all = bytes_of c.args.offset c.args.first.now c.args.frames.now in
    let first = first_of_some all c.read-lead.result c.in_ok-shape.shape c.is_to_device-to_device.result c.read-lead.ensures.element c.in_ok-shape.ensures.0 (sym c.is_empty_lead.ensures ∙ c.if-is_empty_lead.false) c.in_ok-shape.ensures.1 c.is_to_device-to_device.ensures in
    let read = c.in_ok-pieces.ensures.read in
    let told : c.new-2.result ≡ chain_pieces c.in_ok-shape.shape c.args.first.now c.args.frames.now = c.new-2.ensures ∙ read.1 in
    told_spells all (record { to_device = c.is_to_device-to_device.result; pieces = c.new-2.result }) (first.1 ∙ ap (λ ps. record { to_device = c.is_to_device-to_device.result; pieces = ps }) (sym told))
    (first.0 ∙ ap (λ o. option_or o (last_cause (length (chain_pieces c.in_ok-shape.shape c.args.first.now c.args.frames.now)))) read.0 ∙ few_enough _ (length c.as_slice.result.now) (ap length (c.as_slice.ensures.value ∙ read.1)) c.if-as_slice-gt-MOST_PIECES.false) (ap (list_all is_piece) c.new-2.ensures ∙ c.in_ok-pieces.ensures.sound)

pub returns-clause-only : goal.returns-clause-only
returns-clause-only c =
    let all = bytes_of c.args.offset c.args.first.now c.args.frames.now in
    let first = first_of_some all c.read-lead.result c.in_ok-shape.shape c.is_to_device-to_device.result c.read-lead.ensures.element c.in_ok-shape.ensures.0 (sym c.is_empty_lead.ensures ∙ c.if-is_empty_lead.false) c.in_ok-shape.ensures.1 c.is_to_device-to_device.ensures in
    let read = c.in_ok-pieces.ensures.read in
    let told : c.new-2.result ≡ chain_pieces c.in_ok-shape.shape c.args.first.now c.args.frames.now = c.new-2.ensures ∙ read.1 in
    spells_told all (record { to_device = c.is_to_device-to_device.result; pieces = c.new-2.result }) (first.1 ∙ ap (λ ps. record { to_device = c.is_to_device-to_device.result; pieces = ps }) (sym told))
