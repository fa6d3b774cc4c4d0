use Rattle.std.proofs.Common.{◌≡◌, ◌∷◌, drop, ap, arith}
use Rattle.std.proofs.lemmas.Grind.{common_steps}
use Rattle.mpt_rules.specs.World.Moves.{host_takes}
use Rattle.mpt_rules.specs.World.State.{World, up_on}
use Rattle.mpt_system.specs.Parties.{world_of}
use Rattle.mpt_system.proofs.Lists.{first_of}
use Rattle.mpt_system.proofs.parties.Parties.take_up.Goals as goal

pub returns-in_err-write_told : goal.returns-in_err-write_told
returns-in_err-write_told c =
    let w : World = world_of c.args.self.now in
    let e : up_on w c.args.queue ≡ c.in-Some.front.now ∷ drop 1 (up_on w c.args.queue) = first_of _ _ (search c.in-Some.ensures) in
    let t = ap (λ xs. host_takes w c.args.queue xs) e in
    grind (arith, common_steps, t)

pub returns : goal.returns
returns c =
    let w : World = world_of c.args.self.now in
    let e : up_on w c.args.queue ≡ c.in-Some.front.now ∷ drop 1 (up_on w c.args.queue) = first_of _ _ (search c.in-Some.ensures) in
    let t = ap (λ xs. host_takes w c.args.queue xs) e in
    grind (arith, common_steps, t)
