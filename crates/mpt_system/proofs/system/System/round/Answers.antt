use Rattle.std.proofs.Common.{◌≡◌, ℕ, [], ◌∷◌, map, length, ap, ◌∙◌}
use Rattle.mpt_trace.specs.declared.choice.Choice.TheVariants as choice
use Rattle.mpt_wire.specs.Fits.Lines.{RunsOldest, Tries}
use Rattle.mpt_rules.specs.World.State.{queues_of}
use Rattle.mpt_system.specs.Turns.{tries_it}
use Rattle.mpt_system.specs.Whole.{Whole}
use Rattle.mpt_system.proofs.Turns.{as_round, behind_first, behind_next, behind_oldest, behind_put, err_more, first_tries, next_tries, puts_above, takes_above, then_turned}
use Rattle.mpt_system.proofs.system.System.round.Goals as goal

pub returns-in_err-try_all : goal.returns-in_err-try_all
returns-in_err-try_all c =
    let old : Whole = c.args.self.now in
    let q : ℕ = c.count-queues.result in
    let size : q ≡ queues_of old.world = c.count-queues.ensures ∙ ap (λ (x : Whole). length x.world.up) c.self.view_is in
    as_round old c.try_all.new.self q c.from_residual.result size
    (err_more old c.try_all.new.self (map tries_it first_tries) (behind_first q) c.from_residual.result c.from_residual.ensures.0 c.in_err-try_all.ensures)

pub returns-in_err-try_oldest : goal.returns-in_err-try_oldest
returns-in_err-try_oldest c =
    let old : Whole = c.args.self.now in
    let q : ℕ = c.count-queues.result in
    let size : q ≡ queues_of old.world = c.count-queues.ensures ∙ ap (λ (x : Whole). length x.world.up) c.self.view_is in
    as_round old c.try_oldest.new.self q c.from_residual-in_err-try_oldest.result size
    (then_turned old c.try_all.new.self c.try_oldest.new.self (map tries_it first_tries) (behind_first q) c.from_residual-in_err-try_oldest.result c.in_ok-try_all.ensures
    (err_more c.try_all.new.self c.try_oldest.new.self (Tries RunsOldest ∷ []) (behind_oldest q) c.from_residual-in_err-try_oldest.result c.from_residual-in_err-try_oldest.ensures.0 c.in_err-try_oldest.ensures))

pub returns-in_err-try_all-2 : goal.returns-in_err-try_all-2
returns-in_err-try_all-2 c =
    let old : Whole = c.args.self.now in
    let q : ℕ = c.count-queues.result in
    let size : q ≡ queues_of old.world = c.count-queues.ensures ∙ ap (λ (x : Whole). length x.world.up) c.self.view_is in
    as_round old c.try_all-2.new.self q c.from_residual-in_err-try_all-2.result size
    (then_turned old c.try_all.new.self c.try_all-2.new.self (map tries_it first_tries) (behind_first q) c.from_residual-in_err-try_all-2.result c.in_ok-try_all.ensures
    (then_turned c.try_all.new.self c.try_oldest.new.self c.try_all-2.new.self (Tries RunsOldest ∷ []) (behind_oldest q) c.from_residual-in_err-try_all-2.result c.in_ok-try_oldest.ensures
    (err_more c.try_oldest.new.self c.try_all-2.new.self (map tries_it next_tries) (behind_next q) c.from_residual-in_err-try_all-2.result c.from_residual-in_err-try_all-2.ensures.0 c.in_err-try_all-2.ensures)))

pub returns-in_err-try_puts_above : goal.returns-in_err-try_puts_above
returns-in_err-try_puts_above c =
    let old : Whole = c.args.self.now in
    let q : ℕ = c.count-queues.result in
    let size : q ≡ queues_of old.world = c.count-queues.ensures ∙ ap (λ (x : Whole). length x.world.up) c.self.view_is in
    as_round old c.try_puts_above.new.self q c.from_residual-in_err-try_puts_above.result size
    (then_turned old c.try_all.new.self c.try_puts_above.new.self (map tries_it first_tries) (behind_first q) c.from_residual-in_err-try_puts_above.result c.in_ok-try_all.ensures
    (then_turned c.try_all.new.self c.try_oldest.new.self c.try_puts_above.new.self (Tries RunsOldest ∷ []) (behind_oldest q) c.from_residual-in_err-try_puts_above.result c.in_ok-try_oldest.ensures
    (then_turned c.try_oldest.new.self c.try_all-2.new.self c.try_puts_above.new.self (map tries_it next_tries) (behind_next q) c.from_residual-in_err-try_puts_above.result c.in_ok-try_all-2.ensures
    (err_more c.try_all-2.new.self c.try_puts_above.new.self (puts_above q) (behind_put q) c.from_residual-in_err-try_puts_above.result c.from_residual-in_err-try_puts_above.ensures.0 c.in_err-try_puts_above.ensures))))

pub returns-in_err-try_all-3 : goal.returns-in_err-try_all-3
returns-in_err-try_all-3 c =
    let old : Whole = c.args.self.now in
    let q : ℕ = c.count-queues.result in
    let size : q ≡ queues_of old.world = c.count-queues.ensures ∙ ap (λ (x : Whole). length x.world.up) c.self.view_is in
    as_round old c.try_all-3.new.self q c.from_residual-in_err-try_all-3.result size
    (then_turned old c.try_all.new.self c.try_all-3.new.self (map tries_it first_tries) (behind_first q) c.from_residual-in_err-try_all-3.result c.in_ok-try_all.ensures
    (then_turned c.try_all.new.self c.try_oldest.new.self c.try_all-3.new.self (Tries RunsOldest ∷ []) (behind_oldest q) c.from_residual-in_err-try_all-3.result c.in_ok-try_oldest.ensures
    (then_turned c.try_oldest.new.self c.try_all-2.new.self c.try_all-3.new.self (map tries_it next_tries) (behind_next q) c.from_residual-in_err-try_all-3.result c.in_ok-try_all-2.ensures
    (then_turned c.try_all-2.new.self c.try_puts_above.new.self c.try_all-3.new.self (puts_above q) (behind_put q) c.from_residual-in_err-try_all-3.result c.in_ok-try_puts_above.ensures
    (err_more c.try_puts_above.new.self c.try_all-3.new.self (map tries_it (choice.HostTake ∷ [])) (takes_above q) c.from_residual-in_err-try_all-3.result c.from_residual-in_err-try_all-3.ensures.0 c.in_err-try_all-3.ensures)))))

pub returns : goal.returns
returns c =
    let old : Whole = c.args.self.now in
    let q : ℕ = c.count-queues.result in
    let size : q ≡ queues_of old.world = c.count-queues.ensures ∙ ap (λ (x : Whole). length x.world.up) c.self.view_is in
    as_round old c.try_takes_above.new.self q c.try_takes_above.result size
    (then_turned old c.try_all.new.self c.try_takes_above.new.self (map tries_it first_tries) (behind_first q) c.try_takes_above.result c.in_ok-try_all.ensures
    (then_turned c.try_all.new.self c.try_oldest.new.self c.try_takes_above.new.self (Tries RunsOldest ∷ []) (behind_oldest q) c.try_takes_above.result c.in_ok-try_oldest.ensures
    (then_turned c.try_oldest.new.self c.try_all-2.new.self c.try_takes_above.new.self (map tries_it next_tries) (behind_next q) c.try_takes_above.result c.in_ok-try_all-2.ensures
    (then_turned c.try_all-2.new.self c.try_puts_above.new.self c.try_takes_above.new.self (puts_above q) (behind_put q) c.try_takes_above.result c.in_ok-try_puts_above.ensures
    (then_turned c.try_puts_above.new.self c.try_all-3.new.self c.try_takes_above.new.self (map tries_it (choice.HostTake ∷ [])) (takes_above q) c.try_takes_above.result c.in_ok-try_all-3.ensures
    c.try_takes_above.ensures)))))
