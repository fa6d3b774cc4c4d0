-- The host has a phase for each handle, in every session.
use Rattle.std.proofs.Common.{◌≡◌, ℕ, List, [], ◌∷◌, length}
use Rattle.std.specs.Prelude.{Bool, true, false}
use Rattle.std.proofs.lemmas.List.{length-replicate}
use Rattle.removal.specs.declared.phase.Phase.TheVariants as phase
use Rattle.mpt_trace.specs.declared.item.Down.{Down}
use Rattle.mpt_rules.specs.Host.Parts.{Host, new_host}
use Rattle.mpt_rules.specs.Session.Journals.{At}
use Rattle.mpt_rules.specs.Session.OpenCases.{HostCase, host_does, puts_down}
use Rattle.mpt_rules.specs.Session.Sessions.{Session, host_after, last_host}
use Rattle.mpt_rules.specs.World.Cases.{is_free, looks_if, stops_if}
use Rattle.mpt_rules.specs.World.Settings.{Setting}
use Rattle.mpt_system.proofs.HostQueues as host

module _ (n : ℕ) where
  put : (h : Host) (out : List Down) → host.HasQueues n h → host.HasQueues n (puts_down h out).part
  put h [] s = s
  put h (next ∷ rest) s = host.sends n h s

  looked : (h : Host) (b : Bool) → host.HasQueues n h → host.HasQueues n (looks_if b h)
  looked h true s = host.looks n h s
  looked h false s = s

  stopped : (h : Host) (b : Bool) → host.HasQueues n h → host.HasQueues n (stops_if b h)
  stopped h true s = s
  stopped h false s = s

  kept : (h : Host) (c : HostCase) → host.HasQueues n h → host.HasQueues n (host_does h c).part
  kept h (HostCase.Told input) s = host.is_told n h input s
  kept h HostCase.Puts s = put h h.out s
  kept h (HostCase.Takes queue next) s = host.takes_up n h queue next s
  kept h HostCase.Looks s = looked h (is_free h) s
  kept h HostCase.Stops s = stopped h (is_free h) s
  kept h (HostCase.TakesAsk submitter ask) s = s
  kept h (HostCase.PutsTell submitter tell) s = s

  all_kept : (h : Host) (cs : List (At HostCase)) → host.HasQueues n h → host.HasQueues n (host_after h cs)
  all_kept h [] s = s
  all_kept h (c ∷ cs) s = all_kept (host_does h c.value).part cs (kept h c.value s)

pub last_phases : (s : Setting) (x : Session) → length (last_host s x).phases ≡ 64
last_phases s x = (all_kept s.queues (new_host s.queues) x.host (length-replicate s.queues 0, length-replicate 64 phase.Absent)).1
