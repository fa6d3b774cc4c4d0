use Rattle.std.proofs.Common.{IsTrue, ◌≡◌, ◌<◌, ◌≤◌, map, length, drop, subst, sym, arith}
use Rattle.std.proofs.lemmas.List.{length-map}
use Rattle.mpi_layout.specs.Rows.{Shape, Stands, row_shape, values_fit}
use Rattle.mpi_layout.proofs.Tiling.{code_row, code_room}
use Rattle.mpi_layout.proofs.Writing.{code_small, code_written, written_all}
use Rattle.mpi_layout.proofs.layout.write.Goals as goal

pub put-requires : goal.put-requires
put-requires g c =
    let less : c.loop-i.i < length c.layout.inside.rows.now = omega (arith, c.layout.invariant.0) in
    let lies = code_row 0 c.layout.inside.len c.layout.inside.rows.now c.loop-i.i _ c.layout.invariant.1 less in
    let fitting : IsTrue (values_fit (map row_shape c.layout.inside.rows.now) c.args.values.now) = subst (λ (shape : Shape). IsTrue (values_fit shape.rows c.args.values.now)) (sym c.layout.view_is) c.requires.fitting in
    let room : c.layout.inside.len ≤ length c.args.out.now = subst (λ (shape : Shape). shape.length ≤ length c.args.out.now) (sym c.layout.view_is) c.requires.room in
    record {
      narrow = (lies.wide, lies.narrow);
      within = code_room 0 c.layout.inside.len (length c.loop-i.out) c.layout.inside.rows.now c.loop-i.i _ c.layout.invariant.1 less (omega (arith, room, c.loop-i.auto.out));
      small = code_small c.layout.inside.rows.now c.args.values.now c.loop-i.i _ fitting less (omega (arith, c.told-values));
    }

pub loop-i-preserved : goal.loop-i-preserved
loop-i-preserved g c =
    code_written c.layout.inside.rows.now c.layout.inside.len c.args.values.now c.args.out.now c.loop-i.out c.put.new.out c.loop-i.i _ c.layout.invariant.1 (omega (arith, c.layout.invariant.0)) (omega (arith, c.told-values)) c.put.ensures.number c.put.ensures.front c.put.ensures.back c.loop-i.invariant

pub returns-clause-stands : goal.returns-clause-stands
returns-clause-stands g c =
    let shape : Shape = record { rows = map row_shape c.layout.inside.rows.now; length = c.layout.inside.len } in
    let fitting : IsTrue (values_fit (map row_shape c.layout.inside.rows.now) c.args.values.now) = subst (λ (s : Shape). IsTrue (values_fit s.rows c.args.values.now)) (sym c.layout.view_is) c.requires.fitting in
    let room : c.layout.inside.len ≤ length c.args.out.now = subst (λ (s : Shape). s.length ≤ length c.args.out.now) (sym c.layout.view_is) c.requires.room in
    subst (λ (s : Shape). Stands s c.args.values.now c.loop-i.out) c.layout.view_is
    (written_all shape c.args.values.now c.args.out.now c.loop-i.out c.loop-i.i (simp length-map (omega (arith, c.layout.invariant.0))) (omega (arith, c.told-values)) (omega (arith, room, c.loop-i.auto.out)) fitting c.loop-i.invariant)

pub returns-clause-rest : goal.returns-clause-rest
returns-clause-rest g c =
    subst (λ (s : Shape). drop s.length c.loop-i.out ≡ drop s.length c.args.out.now) c.layout.view_is c.loop-i.invariant.rest
