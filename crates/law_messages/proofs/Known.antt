-- What the facts say of an identifier that is open.
use Rattle.std.proofs.Common.{◌≡◌, ◌≢◌, ℕ, ◌≤◌, Some, None, option_map, ap, sym, ◌∙◌, subst, arith}
use Rattle.std.specs.FinMap as finmap
use Rattle.smid_pool.specs.Class.{IsIn}
use Rattle.smid_pool.specs.Pool.{Free, Open}
use Rattle.mpt_rules.specs.declared.request.Request.{Request}
use Rattle.mpt_rules.specs.declared.request.Request.TheVariants as request
use Rattle.mpt_rules.specs.Host.Parts.{Cmd}
use Rattle.mpt_rules.specs.World.State.{World}
use Rattle.law_facts.specs.Facts.{Facts}
use Rattle.law_facts.specs.Flights.{RecordStands, class_asked}
use Rattle.law_facts.specs.History.{History}
use Rattle.law_facts.specs.Words.{slot}
use Rattle.law_flights.proofs.HostHolds.{in_table}

open_apart : (r : Request) → Open r ≢ Free
open_apart r e = cc

module _ (w : World) (h : History) (f : Facts w h) where
  pub inside : (s : ℕ) (r : Request) → slot w.host s ≡ Open r → (1 ≤ s) × (s ≤ 280)
  inside s r e = let x = in_table w.host.pool s (Open r) e (open_apart r) in let l = f.flights.sizes.pool in (x.0, omega (arith, x, l))

  pub recorded : (s : ℕ) (r : Request) → slot w.host s ≡ Open r → RecordStands w s (Open r)
  recorded s r e = let i = inside s r e in subst (RecordStands w s) e (f.flights.identifiers s i.0 i.1).recorded

  -- it is of its request's class
  pub classed : (s : ℕ) (r : Request) → slot w.host s ≡ Open r → IsIn (class_asked r) s
  classed s r e = by_request r (recorded s r e)
    where
      by_request : (r : Request) → RecordStands w s (Open r) → IsIn (class_asked r) s
      by_request (request.Command n) a = a.0
      by_request (request.Abort n task) a = a.0
      by_request (request.TargetReset address) a = a
      by_request (request.Leave handle) a = a
      by_request (request.Page handle) a = a
      by_request (request.Remove handle) a = a
      by_request (request.Ack ev context) a = a
      by_request request.Notification a = a
      by_request request.PortEnable a = a

  -- a number has one identifier
  pub command_of : (n s : ℕ) → slot w.host s ≡ Open (request.Command n) → option_map (λ (c : Cmd). c.smid) (finmap.get w.host.cmds n) ≡ Some s
  command_of n s e = (recorded s (request.Command n) e).1

  pub one_command : (n s q : ℕ) → slot w.host s ≡ Open (request.Command n) → slot w.host q ≡ Open (request.Command n) → s ≡ q
  one_command n s q e g = let a : Some s ≡ Some q = sym (command_of n s e) ∙ command_of n q g in cc

  -- a number that isn't open has none
  pub no_command : (n : ℕ) → finmap.get w.host.cmds n ≡ None → (s : ℕ) → slot w.host s ≡ Open (request.Command n) → ⊥
  no_command n e s g = let a : None ≡ Some s = sym (ap (option_map (λ (c : Cmd). c.smid)) e) ∙ command_of n s g in cc
