use Rattle.std.proofs.Common.{◌≡◌, ◌+◌, List, ◌∷◌, drop, subst, sym, ap, ◌∙◌}
use Rattle.std.specs.List.{cons_option}
use Rattle.std.proofs.lemmas.List.{at_drop_more, drop_all}
use Rattle.law_replays.specs.Schedules.{carried_in, lines_of}
use Rattle.mpt_wire.specs.Fits.Lines.{Line}
use Rattle.mpt_script.specs.declared.line.Line.{Line as ScriptLine}
use Rattle.mpt_replay.proofs.Lines.{CarriedOut, all_carried_out, none_carried_out, on_wanted, one_carried_out, one_so_far}
use Rattle.mpt_replay.proofs.carrying.carry_out.Goals as goal

pub loop-line-init : goal.loop-line-init
loop-line-init c = none_carried_out c.args.system.now (lines_of c.args.lines.now) c.requires

pub carry_out_line-requires : goal.carry_out_line-requires
carry_out_line-requires c = c.loop-line.invariant.written

pub loop-line-preserved : goal.loop-line-preserved
loop-line-preserved c =
    let old = c.args.system.now in
    let lines = c.args.lines.now in
    let i = c.loop-line.line-index in
    let x = c.line-item.result in
    let rest : List Line = lines_of (drop (i + 1) lines) in
    let left : lines_of (drop i lines) ≡ cons_option (carried_in x) rest =
    at_drop_more lines_of lines i x c.loop-line-test.true ∙ ap (λ (y : ScriptLine). lines_of (y ∷ drop (i + 1) lines)) (sym c.line-item.is) in
    one_carried_out old c.loop-line.system c.carry_out_line.new.system (lines_of lines) rest (carried_in x)
    (subst (λ r. CarriedOut old c.loop-line.system (lines_of lines) r) left c.loop-line.invariant) c.in_ok-carry_out_line.ensures

pub returns-in_err-carry_out_line : goal.returns-in_err-carry_out_line
returns-in_err-carry_out_line c =
    let old = c.args.system.now in
    let lines = c.args.lines.now in
    let i = c.loop-line.line-index in
    let x = c.line-item.result in
    let rest : List Line = lines_of (drop (i + 1) lines) in
    let left : lines_of (drop i lines) ≡ cons_option (carried_in x) rest =
    at_drop_more lines_of lines i x c.loop-line-test.true ∙ ap (λ (y : ScriptLine). lines_of (y ∷ drop (i + 1) lines)) (sym c.line-item.is) in
    on_wanted old c.carry_out_line.new.system (lines_of lines) c.from_residual.result c.from_residual.ensures.0
    (one_so_far old c.loop-line.system c.carry_out_line.new.system (lines_of lines) rest (carried_in x)
    (subst (λ r. CarriedOut old c.loop-line.system (lines_of lines) r) left c.loop-line.invariant) c.in_err-carry_out_line.ensures)

pub returns : goal.returns
returns c =
    let old = c.args.system.now in
    let lines = c.args.lines.now in
    all_carried_out old c.loop-line.system (lines_of lines)
    (subst (λ r. CarriedOut old c.loop-line.system (lines_of lines) r) (ap lines_of (drop_all c.loop-line.line-index lines c.loop-line-test.false)) c.loop-line.invariant)
