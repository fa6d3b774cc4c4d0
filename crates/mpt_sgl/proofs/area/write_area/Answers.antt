use Rattle.std.proofs.Common.{◌*◌, ◌∙◌, arith}
use Rattle.mpt_sgl.specs.Pieces.{is_piece}
use Rattle.mpt_sgl.proofs.OneSpelling.{all_bytes}
use Rattle.mpt_sgl.proofs.WriteSteps.{chained_area, element_put, last_area, list_all-take}
use Rattle.mpt_sgl.proofs.area.write_area.Goals as goal

pub write_simple-requires-in-Some-clause-sound : goal.write_simple-requires-in-Some-clause-sound
write_simple-requires-in-Some-clause-sound c = list_all-take is_piece c.args.room c.args.pieces.now c.requires.sound

pub returns-in-None-clause-elements : goal.returns-in-None-clause-elements
returns-in-None-clause-elements c =
    (last_area c.args.to_device c.args.room c.args.pieces.now c.args.next c.args.out.now c.write_simple.new.out c.in-None.is c.write_simple.ensures.elements c.write_simple.ensures.rest).written

pub returns-in-None-clause-rest : goal.returns-in-None-clause-rest
returns-in-None-clause-rest c =
    (last_area c.args.to_device c.args.room c.args.pieces.now c.args.next c.args.out.now c.write_simple.new.out c.in-None.is c.write_simple.ensures.elements c.write_simple.ensures.rest).rest

pub returns-in-Some-clause-elements : goal.returns-in-Some-clause-elements
returns-in-Some-clause-elements c =
    let put = element_put (12 * c.args.room) c.write_simple-in-Some.new.out c.write.new.out _ (omega arith) (c.write.ensures.element ∙ c.chain-chain.ensures) c.write.ensures.rest in
    let more = c.requires.more c.in-Some.address c.in-Some.is in
    (chained_area c.args.to_device c.args.room c.in-Some.address c.args.pieces.now c.args.next c.args.out.now c.write_simple-in-Some.new.out _ c.in-Some.is (omega (arith, more)) c.write_simple-in-Some.ensures.elements c.write_simple-in-Some.ensures.rest put).written

pub returns-in-Some-clause-rest : goal.returns-in-Some-clause-rest
returns-in-Some-clause-rest c =
    let put = element_put (12 * c.args.room) c.write_simple-in-Some.new.out c.write.new.out _ (omega arith) (c.write.ensures.element ∙ c.chain-chain.ensures) c.write.ensures.rest in
    let more = c.requires.more c.in-Some.address c.in-Some.is in
    (chained_area c.args.to_device c.args.room c.in-Some.address c.args.pieces.now c.args.next c.args.out.now c.write_simple-in-Some.new.out _ c.in-Some.is (omega (arith, more)) c.write_simple-in-Some.ensures.elements c.write_simple-in-Some.ensures.rest put).rest

pub returns-in-None-clause-bytes : goal.returns-in-None-clause-bytes
returns-in-None-clause-bytes c = all_bytes _ (λ k. (c.type_inv.out k).fits)

pub returns-in-Some-clause-bytes : goal.returns-in-Some-clause-bytes
returns-in-Some-clause-bytes c = all_bytes _ (λ k. (c.type_inv.out k).fits)
