use Rattle.std.proofs.KnownBytes.{Consumes-whole}
use Rattle.std.proofs.Common.{refl, rules, [], ◌≡◌, sym, subst}
use Rattle.std.proofs.lemmas.Result.{err_from_is_err_and}
use Rattle.mpt_outside.specs.Reading.{Came}
use Rattle.mpt_outside.proofs.CameLemmas.{came_none, came_piece, stopped_more, exactly_stopped, exactly_ended}
use Rattle.mpt_outside.proofs.reading.read_all.Goals as goal

pub returns-in_err-chunk-clause-stopped : goal.returns-in_err-chunk-clause-stopped
returns-in_err-chunk-clause-stopped g c =
    let p = err_from_is_err_and c.from_residual.result c.from_residual.ensures.1 in
    rw (p.1, p.2) ([], came_none _ _, search rules)

pub loop-bytes-init : goal.loop-bytes-init
loop-bytes-init g c = (search rules, search rules, subst (Came _ _ _ _) (sym c.new-bytes.ensures.items) (came_none _ _), search rules)

pub returns-in_err-read_piece-clause-stopped : goal.returns-in_err-read_piece-clause-stopped
returns-in_err-read_piece-clause-stopped g c =
    let p = err_from_is_err_and c.from_residual-in_err-read_piece.result c.from_residual-in_err-read_piece.ensures.1 in
    rw (p.1, p.2) (stopped_more _ _ _ _ _ _ _ _ _ _ c.loop-bytes.invariant.2 c.loop-bytes.bytes.ok.0 c.in_err-read_piece.ensures.stopped)

pub loop-bytes-preserved : goal.loop-bytes-preserved
loop-bytes-preserved g c =
    let came = c.in_ok-read_piece.ensures.came in
    (search rules, search rules, came_piece _ _ _ _ _ _ _ _ _ c.loop-bytes.invariant.2 came.1 came.2, search rules)

pub returns-clause-all : goal.returns-clause-all
returns-clause-all g c =
    let came = c.in_ok-read_piece.ensures.came in
    came_piece _ _ _ _ _ _ _ _ _ c.loop-bytes.invariant.2 came.1 came.2

pub returns-clause-told : goal.returns-clause-told
returns-clause-told g c =
    let came = c.in_ok-read_piece.ensures.came in
    let whole = came_piece _ _ _ _ _ _ _ _ _ c.loop-bytes.invariant.2 came.1 came.2 in
    Consumes-whole _ _ _ (λ left. c.read_piece.new.bytes.items ≡ left) whole.first (c.in_ok-read_piece.ensures.end c.if-branch.false) refl

pub returns-in_err-read_piece-clause-exactly : goal.returns-in_err-read_piece-clause-exactly
returns-in_err-read_piece-clause-exactly g c =
    let p = err_from_is_err_and c.from_residual-in_err-read_piece.result c.from_residual-in_err-read_piece.ensures.1 in
    rw (p.1, p.2) (exactly_stopped _ _ _ _ _ _
    (stopped_more _ _ _ _ _ _ _ _ _ _ c.loop-bytes.invariant.2 c.loop-bytes.bytes.ok.0 c.in_err-read_piece.ensures.stopped))

pub returns-clause-exactly : goal.returns-clause-exactly
returns-clause-exactly g c =
    let came = c.in_ok-read_piece.ensures.came in
    exactly_ended _ _ _ _ _ _ _ (came_piece _ _ _ _ _ _ _ _ _ c.loop-bytes.invariant.2 came.1 came.2) (search rules)
