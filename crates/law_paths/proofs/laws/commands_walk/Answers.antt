use Rattle.law_paths.proofs.WalksPass.{walks_pass}
use Rattle.law_paths.proofs.laws.commands_walk.Goals as goal

pub returns : goal.returns
returns c = λ w h x f plain more s. walks_pass w h f more.tags more.outcomes plain x s
