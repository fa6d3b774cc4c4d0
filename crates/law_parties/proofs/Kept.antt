-- What holds of every list of cases holds of schedules.
use Rattle.std.proofs.Common.{◌≡◌, List, sym, subst, ap, ◌∙◌}
use Rattle.std.specs.Prelude.{All}
use Rattle.mpt_trace.specs.declared.entry.Entry.{Entry}
use Rattle.mpt_wire.specs.Fits.Lines.{Line}
use Rattle.mpt_wire.specs.Machine.View.{machine_after}
use Rattle.mpt_rules.specs.Law.{AnsweredAtMostOnce, IsLine, ReplaysAreOfCases, TellsStandBehind}
use Rattle.mpt_rules.specs.World.Replays.{replays}
use Rattle.mpt_rules.specs.World.Settings.{IsSetting, Setting, first_world}
use Rattle.mpt_rules.specs.World.State.{World}
use Rattle.law_parties.proofs.AnsweredOnce.{answered_law}
use Rattle.law_parties.proofs.InPlace.{tells_law}
use Rattle.law_parties.proofs.ModesAgree.{modes_law}

module _ (of_cases : ReplaysAreOfCases) (s : Setting) (lines : List Line) (i : IsSetting s) (a : All (IsLine s) lines) where
  pub replays_answered : AnsweredAtMostOnce s (replays (first_world s) lines).entries
  replays_answered = let o = of_cases s lines i a in subst (λ (t : List Entry). AnsweredAtMostOnce s t) (sym o.traced) (answered_law s o.cases)

  pub replays_tell : TellsStandBehind s (replays (first_world s) lines).entries
  replays_tell = let o = of_cases s lines i a in subst (λ (t : List Entry). TellsStandBehind s t) (sym o.traced) (tells_law s o.cases)

  pub replays_modes : (machine_after s.disks (replays (first_world s) lines).entries).mode ≡ (replays (first_world s) lines).part.host.mode
  replays_modes =
      let o = of_cases s lines i a in ap (λ (t : List Entry). (machine_after s.disks t).mode) o.traced ∙ (modes_law s o.cases ∙ ap (λ (w : World). w.host.mode) (sym o.reached))
