use Rattle.std.proofs.Common.{Ok, refl, map, ◌∙◌, ap, sym, length, arith}
use Rattle.std.proofs.lemmas.List.{length-map}
use Rattle.mpi_layout.specs.Rows.{row_shape}
use Rattle.mpi_layout.proofs.Tiling.{code_row, code_room}
use Rattle.mpi_layout.proofs.Reading.{fields_fit, code_more, code_breaks, read_all, first_fault-field, first_fault-none}
use Rattle.mpi_layout.proofs.layout.read_rows.Goals as goal

pub number_in-value-requires-clause-narrow : goal.number_in-value-requires-clause-narrow
number_in-value-requires-clause-narrow g c =
    let lies = code_row 0 c.args.need c.args.rows.now c.loop-i.i _ c.requires.tiled (omega (arith, c.requires.whole)) in
    (lies.wide, lies.narrow)

pub number_in-value-requires-clause-within : goal.number_in-value-requires-clause-within
number_in-value-requires-clause-within g c =
    code_room 0 c.args.need (length c.args.bytes.now) c.args.rows.now c.loop-i.i _ c.requires.tiled (omega (arith, c.requires.whole)) c.if-bytes-need.false

pub returns-then-not-allows-clause-exact : goal.returns-then-not-allows-clause-exact
returns-then-not-allows-clause-exact g c =
    let broken = code_breaks c.args.rows.now c.args.bytes.now c.loop-i.values c.loop-i.i _ c.number_in-value.result (omega (arith, c.requires.whole)) c.number_in-value.ensures.number (sym c.allows.ensures ∙ c.if-not-allows.true) c.loop-i.invariant in
    rw (first_fault-field (record { rows = map row_shape c.args.rows.now; length = c.args.need }) c.args.bytes.now _ c.if-bytes-need.false broken) refl

pub loop-i-preserved : goal.loop-i-preserved
loop-i-preserved g c =
    code_more c.args.rows.now c.args.bytes.now c.loop-i.values c.loop-i.i _ c.number_in-value.result (omega (arith, c.requires.whole)) c.number_in-value.ensures.number (sym c.allows.ensures ∙ c.if-not-allows.false) c.loop-i.invariant

pub returns-clause-exact : goal.returns-clause-exact
returns-clause-exact g c =
    let found = read_all (map row_shape c.args.rows.now) c.args.bytes.now c.loop-i.values c.loop-i.i (simp length-map (omega (arith, c.requires.whole))) c.loop-i.invariant in
    rw (first_fault-none (record { rows = map row_shape c.args.rows.now; length = c.args.need }) c.args.bytes.now c.if-bytes-need.false found.0) (ap Ok found.1)

pub returns-clause-fitting : goal.returns-clause-fitting
returns-clause-fitting g c =
    let found = read_all (map row_shape c.args.rows.now) c.args.bytes.now c.loop-i.values c.loop-i.i (simp length-map (omega (arith, c.requires.whole))) c.loop-i.invariant in
    fields_fit (map row_shape c.args.rows.now) c.args.bytes.now c.loop-i.values (λ k. (c.type_inv.bytes k).fits) found.0 found.1
