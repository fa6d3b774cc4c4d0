use Rattle.mpt_sgl.proofs.ElementBytes.{no_fault, read_element}
use Rattle.mpt_sgl.proofs.element.Element.read.Goals as goal

pub unreachable-requires : goal.unreachable-requires
unreachable-requires c =
    let none = no_fault c.layout.result c.args.bytes.now c.layout.ensures c.requires in
    let wrong = rw none at c.in-Err.ensures.exact in
    cc

pub returns-clause-element : goal.returns-clause-element
returns-clause-element c =
    let none = no_fault c.layout.result c.args.bytes.now c.layout.ensures c.requires in
    let read = rw none at c.in-Ok.ensures.exact in
    read_element c.layout.result c.args.bytes.now c.in-Ok.values c.layout.ensures (cc) c.in-Ok.ensures.fitting
