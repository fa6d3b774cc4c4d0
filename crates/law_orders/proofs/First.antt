-- In the first world nothing is at the fabric.
use Rattle.std.proofs.Common.{◌≡◌, ℕ, ◌+◌, true, arith}
use Rattle.mpt_rules.specs.World.Settings.{Setting, first_world}
use Rattle.mpt_rules.proofs.FabricCounts as fcp
use Rattle.law_facts.specs.Clock.{in_reset, is_live}
use Rattle.law_facts.specs.Flights.{OneAtFabric, abort_tokens, command_tokens, reset_tokens}
use Rattle.law_orders.specs.Orders.{OrdersStand}

module _ (t : Setting) (s : ℕ) where
  zero_all : command_tokens (first_world t) s + (abort_tokens (first_world t) s + reset_tokens (first_world t) s) ≡ 0
  zero_all =
      let a = fcp.sent_task_count-nil s in let b = fcp.sent_abort_count-nil s in let c = fcp.sent_reset_count-nil s in
      let d = fcp.task_count-nil s in let e = fcp.result_count-nil s in let g = fcp.gone_count-nil s in let i = fcp.terminated_count-nil s in let j = fcp.abort_end_count-nil s in let k = fcp.reset_end_count-nil s in
      omega (arith, a, b, c, d, e, g, i, j, k)

  not_live : is_live (first_world t) ≡ true → ⊥
  not_live l = cc

  not_reset : in_reset (first_world t) ≡ true → ⊥
  not_reset r = cc

  first : OneAtFabric (first_world t) s
  first =
      record {
        commands = λ l. absurd (not_live l);
        aborts = λ l. absurd (not_live l);
        resets = λ l. absurd (not_live l);
        at_most = omega (arith, zero_all);
        none = λ l r. zero_all;
        old = λ r p. absurd (not_reset r);
        old_command = λ r p. absurd (not_reset r);
        old_abort = λ r p. absurd (not_reset r);
        old_reset = λ r p. absurd (not_reset r);
      }

pub orders_at_first : (t : Setting) → OrdersStand (first_world t)
orders_at_first t = λ s l m. first t s
