-- What the stage of an open command says of it, in the world behind a case.
use Rattle.std.proofs.Common.{◌≡◌, ℕ, zero, suc, ◌+◌, ◌≤◌, ◌++◌, Bool, true, false, Option, Some, None, is_some, is_none, refl, ap, ◌∙◌, sym, subst, arith}
use Rattle.std.specs.FinMap as finmap
use Rattle.scsi_disk.specs.declared.scsi_result.ScsiResult.{ScsiResult}
use Rattle.smid_pool.specs.Pool.{Open}
use Rattle.mpt_trace.specs.declared.item.Back.{Back}
use Rattle.mpt_trace.specs.declared.item.Back.TheVariants as back
use Rattle.mpt_wire.specs.Machine.State.{OpenRequest}
use Rattle.mpt_wire.specs.Paths.Commands.{Live}
use Rattle.mpt_wire.specs.Paths.Stages.{PathStage, AtDisk, HasRun, SaysGone, SaysResult, SaysTerminated}
use Rattle.mpt_rules.specs.declared.request.Request.TheVariants as request
use Rattle.mpt_rules.specs.Host.Parts.{Cmd}
use Rattle.mpt_rules.specs.Law.{NothingIsStrange}
use Rattle.mpt_rules.specs.World.Cases.{Case, entries, happens}
use Rattle.mpt_rules.specs.World.Counts.{how_many}
use Rattle.mpt_rules.specs.World.FabricCounts.{gone_count, is_gone_of, is_result_of, is_termination_of, result_count, terminated_count}
use Rattle.mpt_rules.specs.World.Lines.{back_line}
use Rattle.mpt_rules.specs.World.State.{World}
use Rattle.mpt_rules.proofs.FabricCounts.{gone_count-append, result_count-append, terminated_count-append}
use Rattle.law_facts.specs.Facts.{Facts}
use Rattle.law_facts.specs.History.{History, history_after}
use Rattle.law_facts.specs.Paths.{BackStage, stage_of}
use Rattle.law_facts.specs.Words.{is_command_asked, slot}
use Rattle.law_messages.proofs.NamedKept.{named_kept}
use Rattle.law_messages.proofs.Shown.{leads}
use Rattle.law_returns.proofs.Whole.{flights_kept}
use Rattle.law_paths.specs.Paths.{FurtherPaths, StagesStand}
use Rattle.law_paths.proofs.Entries.{equal}
use Rattle.law_paths.proofs.Kept.{stages_kept}
use Rattle.law_paths.proofs.Moves.{is_asked}
use Rattle.law_paths.proofs.Staging.{counted_has}
use Rattle.law_outcomes.specs.Stages.{RunsByStage, was_run}
use Rattle.law_outcomes.proofs.Runs.{runs_kept}

not_some : {X : Type 0} (o : Option X) → is_some o ≡ false → o ≡ None
not_some None e = refl
not_some (Some x) e = absurd (cc)

module _ (w : World) (h : History) (f : Facts w h) (plain : NothingIsStrange w) (more : FurtherPaths w h) (runs : RunsByStage h) (c : Case) where
  abbrev V : World
  V = happens w c

  abbrev K : History
  K = history_after h (entries w c)

  stages : StagesStand V K
  stages = stages_kept w h f plain more c

  module _ (n : ℕ) (d : Cmd) (r : OpenRequest) (e : finmap.get (V).host.cmds n ≡ Some d) (g : finmap.get (K).machine.requests n ≡ Some r) where
    pub its_slot : slot (V).host d.smid ≡ Open (request.Command n)
    its_slot = ((flights_kept w h c f plain more.flights).numbers n).command d e

    pub its_live : ((K).walk d.smid).known.live ≡ Some (record { number = n; address = r.address; command = r.command })
    its_live = (named_kept w h f V K (leads w h c f plain more.flights.aborts) n).live d r e g

    asked : is_command_asked (slot (V).host d.smid) ≡ true
    asked = is_asked (slot (V).host d.smid) n its_slot

    pub by_stage : (k : PathStage) → stage_of K d.smid ≡ k → is_some ((K).machine.outcome n) ≡ was_run k
    by_stage k s = runs_kept w h f more runs plain c d.smid (record { number = n; address = r.address; command = r.command }) its_live ∙ ap was_run s

    no_outcome : (k : PathStage) → was_run k ≡ false → stage_of K d.smid ≡ k → (K).machine.outcome n ≡ None
    no_outcome k x s = not_some ((K).machine.outcome n) (by_stage k s ∙ x)

    -- a command that the fabric tells of
    told_result : (x : Back) → is_result_of d.smid x ≡ true → BackStage K x → is_some ((K).machine.outcome n) ≡ true
    told_result (back.Result tag a) t s = by_stage (SaysResult a) (subst (λ j. stage_of K j ≡ SaysResult a) (equal tag d.smid t) s)
    told_result (back.Gone tag) t s = absurd (cc)
    told_result (back.Terminated tag) t s = absurd (cc)
    told_result (back.Aborted q found) t s = absurd (cc)
    told_result (back.Cleared q count) t s = absurd (cc)
    told_result (back.Plugged a p x y) t s = absurd (cc)
    told_result (back.Unplugged a p x y) t s = absurd (cc)
    told_result back.Discovered t s = absurd (cc)
    told_result (back.Linked generation) t s = absurd (cc)
    told_result back.Calm t s = absurd (cc)

    pub result_fits : 1 ≤ result_count d.smid (back_line V) → is_some ((K).machine.outcome n) ≡ true
    unfolding result_count
    result_fits l = by_count (how_many (is_result_of d.smid) (V).back) refl (result_count-append d.smid (V).back (V).fabric.out)
      where
        by_count : (m : ℕ) → how_many (is_result_of d.smid) (V).back ≡ m → how_many (is_result_of d.smid) ((V).back ++ (V).fabric.out) ≡ how_many (is_result_of d.smid) (V).back + how_many (is_result_of d.smid) (V).fabric.out → is_some ((K).machine.outcome n) ≡ true
        by_count zero t a = by_stage HasRun (((stages).places d.smid asked).has_run (omega (arith, l, a, t)))
        by_count (suc m) t a = counted_has (is_result_of d.smid) (BackStage K) (is_some ((K).machine.outcome n) ≡ true) told_result (V).back (stages).back (omega (arith, t))
