-- What the facts say of an open command.
use Rattle.std.proofs.Common.{◌≡◌, ℕ, ◌≤◌, Option, Some, None, option_map, refl, subst, arith}
use Rattle.std.specs.FinMap as finmap
use Rattle.smid_pool.specs.Pool.{Open}
use Rattle.mpt_wire.specs.Machine.State.{OpenRequest}
use Rattle.mpt_rules.specs.declared.request.Request.TheVariants as request
use Rattle.mpt_rules.specs.Host.Parts.{Cmd}
use Rattle.mpt_rules.specs.World.State.{World}
use Rattle.law_facts.specs.Disks.{NumberStands}
use Rattle.law_facts.specs.Facts.{Facts}
use Rattle.law_facts.specs.History.{History}
use Rattle.law_facts.specs.Words.{slot}
use Rattle.law_messages.proofs.Known.{classed, command_of, inside}
use Rattle.law_messages.proofs.PostsKept.{open_request}

pub record CommandOpened (w : World) (h : History) (n s : ℕ) : Type 0 where
  pub cmd : Cmd
  pub named : finmap.get w.host.cmds n ≡ Some cmd
  pub smid : cmd.smid ≡ s
  pub request : OpenRequest
  pub asked : finmap.get h.machine.requests n ≡ Some request
  pub stands : NumberStands w h n s request
  pub live : (h.walk s).known.live ≡ Some (record { number = n; address = request.address; command = request.command })
  pub number : h.so_far.number_of s ≡ Some n
  pub least : 1 ≤ s
  pub most : s ≤ 256

pub opened : (w : World) (h : History) → Facts w h → (n s : ℕ) → slot w.host s ≡ Open (request.Command n) → CommandOpened w h n s
opened w h f n s e = by_cmd (finmap.get w.host.cmds n) refl (command_of w h f n s e)
  where
    by_cmd : (c : Option Cmd) → finmap.get w.host.cmds n ≡ c → option_map (λ (c : Cmd). c.smid) c ≡ Some s → CommandOpened w h n s
    by_cmd None g z = absurd (cc)
    by_cmd (Some c) g z =
        let y : c.smid ≡ s = cc in
        let r = open_request w h f n c g in
        let i = inside w h f s (request.Command n) e in
        let q = classed w h f s (request.Command n) e in
        record {
          cmd = c;
          named = g;
          smid = y;
          request = r.0;
          asked = r.1;
          stands = subst (λ j. NumberStands w h n j r.0) y (f.disks.opened n c r.0 g r.1);
          live = subst (λ j. (h.walk j).known.live ≡ Some (record { number = n; address = (r.0).address; command = (r.0).command })) y ((f.messages.named n).live c r.0 g r.1);
          number = subst (λ j. h.so_far.number_of j ≡ Some n) y ((f.messages.named n).number c g);
          least = i.0;
          most = omega (arith, q);
        }
