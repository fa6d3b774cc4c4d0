-- The facts of notices hold of the first world: the controller isn't OPERATIONAL, and nothing is noticed.
use Rattle.std.proofs.Common.{◌≡◌, ℕ, ◌≤◌, length, map, arith}
use Rattle.mpt_rules.specs.Fabric.Parts.{new_disk}
use Rattle.mpt_rules.specs.World.Settings.{IsSetting, Setting, first_world}
use Rattle.mpt_rules.specs.World.State.{World}
use Rattle.law_facts.specs.History.{History, first_history}
use Rattle.law_facts.specs.Notices.{Noticed, Notices, NoticesFit, PlugsBound, is_notice}
use Rattle.law_flights.proofs.IocTakes.{length_map}
use Rattle.law_moves.proofs.Counted.{others-nil}
use Rattle.law_first.proofs.ClockFirst.{never}

module _ (s : Setting) (i : IsSetting s) where
  abbrev w : World
  w = first_world s

  abbrev h : History
  h = first_history s.disks

  noticed : (address : ℕ) → Noticed w address
  noticed address = record { lead = λ d e. never e; plug = λ d k e. never e; none = λ e. never e }

  fit : NoticesFit w
  fit = record { kinds = others-nil is_notice; expanders = λ e. never e; dark = λ e. never e }

  plugs : (handle : ℕ) → PlugsBound w h handle
  plugs handle = record { ended = λ p e. never e; least = λ p e. never e; most = λ p e. never e }

  few : length w.fabric.disks ≤ 64
  few = let n : length (map new_disk s.disks) ≡ length s.disks = length_map new_disk s.disks in let l = i.few_disks in omega (arith, n, l)

  pub notices_first : Notices w h
  notices_first = record { each = noticed; fit = fit; plugs = plugs; few = few }
