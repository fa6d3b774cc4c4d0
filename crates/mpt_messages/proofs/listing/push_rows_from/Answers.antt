use Rattle.std.proofs.Common.{◌≤◌, length, ap, arith}
use Rattle.std.proofs.lemmas.List.{length-map}
use Rattle.mpi_layout.specs.Rows.{row_shape}
use Rattle.mpt_messages.proofs.RowsText.{listed_all, listed_more, row_narrow}
use Rattle.mpt_messages.proofs.listing.push_rows_from.Goals as goal

pub push_row-requires : goal.push_row-requires
push_row-requires g c = row_narrow c.rows-rows.result.now c.args.layout.now c.loop-i.i _ c.rows-rows.ensures.same c.rows-rows.ensures.tiled (omega (arith, c.rows-rows.ensures.whole))

pub loop-i-preserved : goal.loop-i-preserved
loop-i-preserved g c =
    listed_more c.args.start c.rows-rows.result.now c.args.layout.now.rows c.args.values.now c.args.text.now c.loop-i.text c.push_row.new.text c.loop-i.i _ c.rows-rows.ensures.same (omega (arith, c.rows-rows.ensures.whole)) (omega (arith, c.told-values)) c.in_ok-push_row.ensures c.loop-i.invariant

pub returns : goal.returns
returns g c =
    let all : length c.args.layout.now.rows ≤ c.loop-i.i = omega (arith, ap length c.rows-rows.ensures.same, length-map c.rows-rows.result.now row_shape, c.rows-rows.ensures.whole) in
    listed_all c.args.start c.args.layout.now.rows c.args.values.now c.args.text.now c.loop-i.text c.loop-i.i all c.loop-i.invariant
