use Rattle.std.proofs.Common.{◌≡◌, ◌∙◌, ◌-◌, ◌++◌, length, take, replicate, arith}
use Rattle.std.proofs.lemmas.Grind.{common_steps}
use Rattle.host_reading.proofs.Numbers.{field_same, front_same}
use Rattle.host_reading.proofs.page.sas_address.Goals as goal

pub returns : goal.returns
returns c =
    let known : c.padded-known.result ≡ take c.min-count.result c.args.page.now ++ replicate (56 - length (take c.min-count.result c.args.page.now)) 0 = grind (arith, common_steps, c.padded-known.ensures) in
    c.u64_at.ensures
    ∙ rw known
    (field_same (take c.min-count.result c.args.page.now ++ replicate (56 - length (take c.min-count.result c.args.page.now)) 0) c.args.page.now 12 8
    (λ i within. front_same c.args.page.now 56 c.min-count.result (56 - length (take c.min-count.result c.args.page.now)) i c.min-count.ensures (omega arith)))
