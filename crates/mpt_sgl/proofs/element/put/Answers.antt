use Rattle.std.proofs.Common.{◌≡◌, lit<, lit≤, ap, drop, subst, arith}
use Rattle.mpi_layout.specs.Rows.{Shape as Layout}
use Rattle.mpt_sgl.specs.Elements.{element_layout}
use Rattle.mpt_sgl.proofs.ElementBytes.{element_fits, written_element}
use Rattle.mpt_sgl.proofs.element.put.Goals as goal

long : (layout : Layout) → layout ≡ element_layout → layout.length ≡ 12
unfolding element_layout
long layout is = ap (λ (l : Layout). l.length) is

pub write-requires : goal.write-requires
write-requires c =
    let twelve = long c.layout.result c.layout.ensures in
    (lit< tt, (lit< tt, (lit≤ tt, (element_fits c.layout.result _ _ _ c.layout.ensures (omega arith) (omega arith) (omega arith), omega arith))))

pub returns-clause-element : goal.returns-clause-element
returns-clause-element c =
    written_element c.layout.result (record { length = c.args.length; flags = c.args.flags; address = c.args.address }) _ _ c.write.new.out c.layout.ensures c.from.ensures c.from-2.ensures c.write.ensures.stands

pub returns-clause-rest : goal.returns-clause-rest
returns-clause-rest c =
    let twelve = long c.layout.result c.layout.ensures in
    subst (λ n. drop n c.write.new.out ≡ drop n c.args.out.now) twelve c.write.ensures.rest
