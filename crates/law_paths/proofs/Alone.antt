-- What has an item of a command's identifier has it alone.
use Rattle.std.proofs.Common.{◌≡◌, ◌≢◌, ℕ, ◌+◌, ◌≤◌, ◌==◌, ◌⊎◌, inl, inr, Bool, true, false, List, [], ◌∷◌, ◌++◌, get_or, Option, Some, None, is_some, option_map, refl, ap, sym, ◌∙◌, subst, arith}
use Rattle.std.specs.FinMap as finmap
use Rattle.std.specs.List.{sum_by}
use Rattle.smid_pool.specs.Pool.{Free, Open, is_open}
use Rattle.mpt_trace.specs.declared.item.Back.{Back}
use Rattle.mpt_rules.specs.declared.at_fabric.AtFabric.{AtFabric}
use Rattle.mpt_rules.specs.declared.at_fabric.AtFabric.TheVariants as at
use Rattle.mpt_rules.specs.declared.request.Request.{Request}
use Rattle.mpt_rules.specs.declared.request.Request.TheVariants as request
use Rattle.mpt_rules.specs.Host.Parts.{Cmd}
use Rattle.mpt_rules.specs.Ioc.Replies.{outbox_of}
use Rattle.mpt_rules.specs.Ioc.Tables.{request_at}
use Rattle.mpt_rules.specs.World.Counts.{one_if, post_count, queued_count, reply_count}
use Rattle.mpt_rules.specs.World.FabricCounts.{gone_count, result_count, sent_task_count, task_count, terminated_count}
use Rattle.mpt_rules.specs.World.PlaceCounts.{replies_on, smid_count}
use Rattle.mpt_rules.specs.World.State.{World, up_on}
use Rattle.mpt_rules.proofs.Counts.{post_count-append, reply_count-nil}
use Rattle.mpt_rules.proofs.FabricCounts.{gone_count-append, result_count-append, sent_task_count-append, terminated_count-append}
use Rattle.law_facts.specs.Clock.{in_reset, is_live}
use Rattle.law_facts.specs.Facts.{Facts}
use Rattle.law_facts.specs.Flights.{Flights, RecordStands, command_tokens}
use Rattle.law_facts.specs.History.{History}
use Rattle.law_facts.specs.Words.{is_command, slot}
use Rattle.law_lights.proofs.Ones.{sum_at}
use Rattle.law_flights.proofs.HostHolds.{in_table}
use Rattle.law_messages.proofs.Leads.{Follow}

-- on the lane back
abbrev pub on_back : ℕ → List Back → ℕ
on_back s xs = result_count s xs + (gone_count s xs + terminated_count s xs)

some_command : (o : Option AtFabric) → one_if (is_command o) ≤ one_if (is_some o)
some_command None = omega arith
some_command (Some (at.Command handle queue len written)) = omega arith
some_command (Some (at.Abort handle)) = omega arith
some_command (Some (at.TargetReset handle)) = omega arith
some_command (Some at.PortEnable) = omega arith

-- all places of an identifier's items
abbrev pub spots : World → ℕ → ℕ
spots w s = post_count s w.host.out + (post_count s w.down + (queued_count s w.ioc.high + (queued_count s w.ioc.normal + (sent_task_count s w.ioc.out + (sent_task_count s w.out + (task_count s w.fabric.tasks + (on_back s w.fabric.out + (on_back s w.back + (sum_by (reply_count s) w.ioc.up + sum_by (replies_on s) w.up)))))))))

module _ (w : World) (h : History) (z : Flights w h) (s : ℕ) (l : 1 ≤ s) (m : s ≤ 280) where
  pub alone : spots w s ≤ 1
  alone =
      let i = (z.identifiers s l m).at_most in
      let o = z.fabric s l m in
      let a = post_count-append s w.down w.host.out in
      let b = sent_task_count-append s w.out w.ioc.out in
      let c = result_count-append s w.back w.fabric.out in
      let d = gone_count-append s w.back w.fabric.out in
      let e = terminated_count-append s w.back w.fabric.out in
      by_state (is_live w) (in_reset w) refl refl i a b c d e
    where
      by_state : (a b : Bool) → is_live w ≡ a → in_reset w ≡ b → smid_count w s ≤ 1
          → post_count s (w.down ++ w.host.out) ≡ post_count s w.down + post_count s w.host.out
          → sent_task_count s (w.out ++ w.ioc.out) ≡ sent_task_count s w.out + sent_task_count s w.ioc.out
          → result_count s (w.back ++ w.fabric.out) ≡ result_count s w.back + result_count s w.fabric.out
          → gone_count s (w.back ++ w.fabric.out) ≡ gone_count s w.back + gone_count s w.fabric.out
          → terminated_count s (w.back ++ w.fabric.out) ≡ terminated_count s w.back + terminated_count s w.fabric.out → spots w s ≤ 1
      by_state true y g t i a b c d e = let x = (z.fabric s l m).commands g in let q = some_command (request_at w.ioc s) in omega (arith, i, a, b, c, d, e, x, q)
      by_state false false g t i a b c d e = let x = (z.fabric s l m).none g t in omega (arith, i, a, b, c, d, e, x)
      by_state false true g t i a b c d e = by_tokens (command_tokens w s) refl
        where
          by_tokens : (n : ℕ) → command_tokens w s ≡ n → spots w s ≤ 1
          by_tokens Rattle.std.proofs.Common.zero n = omega (arith, i, a, b, c, d, e, n)
          by_tokens (Rattle.std.proofs.Common.suc k) n = let x = (z.fabric s l m).old t (omega (arith, n)) in let y = (z.fabric s l m).at_most in omega (arith, i, a, b, c, d, e, n, x, y)

  -- one that isn't open has none
  pub nowhere : slot w.host s ≡ Free → spots w s ≡ 0
  nowhere e =
      let i = (z.identifiers s l m).at_most in
      let o = z.fabric s l m in
      let a = post_count-append s w.down w.host.out in
      let b = sent_task_count-append s w.out w.ioc.out in
      let c = result_count-append s w.back w.fabric.out in
      let d = gone_count-append s w.back w.fabric.out in
      let g = terminated_count-append s w.back w.fabric.out in
      let p : one_if (Rattle.std.proofs.Common.not (is_open (slot w.host s))) ≡ 1 = ap (λ x. one_if (Rattle.std.proofs.Common.not (is_open x))) e in
      by_state (is_live w) (in_reset w) refl refl i a b c d g p
    where
      by_state : (a b : Bool) → is_live w ≡ a → in_reset w ≡ b → smid_count w s ≤ 1
          → post_count s (w.down ++ w.host.out) ≡ post_count s w.down + post_count s w.host.out
          → sent_task_count s (w.out ++ w.ioc.out) ≡ sent_task_count s w.out + sent_task_count s w.ioc.out
          → result_count s (w.back ++ w.fabric.out) ≡ result_count s w.back + result_count s w.fabric.out
          → gone_count s (w.back ++ w.fabric.out) ≡ gone_count s w.back + gone_count s w.fabric.out
          → terminated_count s (w.back ++ w.fabric.out) ≡ terminated_count s w.back + terminated_count s w.fabric.out
          → one_if (Rattle.std.proofs.Common.not (is_open (slot w.host s))) ≡ 1 → spots w s ≡ 0
      by_state true y g t i a b c d e p = let x = (z.fabric s l m).commands g in let q = some_command (request_at w.ioc s) in omega (arith, i, a, b, c, d, e, x, q, p)
      by_state false false g t i a b c d e p = let x = (z.fabric s l m).none g t in omega (arith, i, a, b, c, d, e, x, p)
      by_state false true g t i a b c d e p = by_tokens (command_tokens w s) refl
        where
          by_tokens : (n : ℕ) → command_tokens w s ≡ n → spots w s ≡ 0
          by_tokens Rattle.std.proofs.Common.zero n = omega (arith, i, a, b, c, d, e, n, p)
          by_tokens (Rattle.std.proofs.Common.suc k) n = let x = (z.fabric s l m).old t (omega (arith, n)) in absurd (omega (arith, x, p))

  pub said_few : (queue : ℕ) → reply_count s (outbox_of w.ioc queue) ≤ sum_by (reply_count s) w.ioc.up
  said_few queue = sum_at (reply_count s) [] (reply_count-nil s) w.ioc.up queue

  pub up_few : (queue : ℕ) → replies_on s (up_on w queue) ≤ sum_by (replies_on s) w.up
  up_few queue = sum_at (replies_on s) [] (reply_count-nil s) w.up queue

-- ---- what is open stands in the table

open_apart : (r : Request) → Open r ≢ Free
open_apart r e = cc

module _ (v : World) (k : History) (z : Flights v k) where
  pub within : (s : ℕ) (r : Request) → slot v.host s ≡ Open r → (1 ≤ s) × (s ≤ 280)
  within s r e = let x = in_table v.host.pool s (Open r) e (open_apart r) in let l = z.sizes.pool in (x.0, omega (arith, x, l))

  pub numbered : (s n : ℕ) → slot v.host s ≡ Open (request.Command n) → (c : Cmd) × (finmap.get v.host.cmds n ≡ Some c) × (c.smid ≡ s)
  numbered s n e = let i = within s (request.Command n) e in by_cmd (finmap.get v.host.cmds n) refl (subst (RecordStands v s) e (z.identifiers s i.0 i.1).recorded).1
    where
      by_cmd : (o : Option Cmd) → finmap.get v.host.cmds n ≡ o → option_map (λ (c : Cmd). c.smid) o ≡ Some s → (c : Cmd) × (finmap.get v.host.cmds n ≡ Some c) × (c.smid ≡ s)
      by_cmd None g i = absurd (cc)
      by_cmd (Some c) g i = let y : c.smid ≡ s = cc in (c, g, y)

  pub low : (s n : ℕ) → slot v.host s ≡ Open (request.Command n) → (1 ≤ s) × (s ≤ 256)
  low s n e = let i = within s (request.Command n) e in let c = (subst (RecordStands v s) e (z.identifiers s i.0 i.1).recorded).0 in (omega (arith, c), omega (arith, c))

-- ---- which commands were open before

module _ (w : World) (h : History) (f : Facts w h) (v : World) (k : History) (z : Flights v k) where
  -- one that is open behind a case was open before, if the case accepted none
  pub followed : (hand : ℕ) → Follow w h v.host k hand → (s n : ℕ) → slot v.host s ≡ Open (request.Command n) → (slot w.host s ≡ Open (request.Command n)) × (s ≢ hand)
  followed hand fo s n e =
      let c = numbered v k z s n e in
      let a : slot w.host s ≡ Open (request.Command n) = subst (λ j. slot w.host j ≡ Open (request.Command n)) c.2 ((f.flights.numbers n).command c.0 (fo.less_cmds n c.0 c.1)) in
      (a, λ i. none (finmap.get v.host.cmds n) c.1 (fo.gone n (subst (λ j. slot w.host j ≡ Open (request.Command n)) i a)))
    where
      none : (o : Option Cmd) → {c : Cmd} → o ≡ Some c → o ≡ None → ⊥
      none None a b = cc
      none (Some c) a b = cc
