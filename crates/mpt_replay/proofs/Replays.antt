-- What happened as a schedule was carried out, and its reports.
use Rattle.std.proofs.Common.{◌≡◌, ℕ, ◌-◌, List, length, take, Result, subst, ap, ◌∙◌, arith}
use Rattle.std.specs.Prelude.{IfOk}
use Rattle.std.proofs.lemmas.List.{take_all}
use Rattle.mpt_script.specs.declared.line.Line.{Line as ScriptLine}
use Rattle.mpt_trace.specs.declared.disk_spec.DiskSpec.{DiskSpec}
use Rattle.mpt_trace.specs.declared.entry.Entry.{Entry}
use Rattle.mpt_trace.specs.declared.summary.Summary.{Summary}
use Rattle.mpt_wire.specs.Machine.Reports.{last_machine}
use Rattle.mpt_rules.specs.Law.{ReplaysAreOfCases}
use Rattle.mpt_rules.specs.Outcome.{Happening}
use Rattle.mpt_rules.specs.World.Drain.{world_quiet}
use Rattle.mpt_rules.specs.World.Replays.{replays}
use Rattle.mpt_rules.specs.World.Settings.{Setting, first_world}
use Rattle.mpt_rules.specs.World.State.{World}
use Rattle.mpt_rules.specs.World.Summaries.{summary_with}
use Rattle.mpt_system.specs.Summary.{DisksStay, declared_disks, whole_summary}
use Rattle.mpt_system.specs.Whole.{Whole, after}
use Rattle.law_replays.specs.Schedules.{KeepsLimits, lines_of, setting_of}
use Rattle.mpt_replay.specs.Carrying.{first_whole}
use Rattle.mpt_replay.specs.Reports.{replay_of}
use Rattle.mpt_replay.specs.Seen.{ReplaySeen}

-- the whole that lines leave
abbrev whole_left : List ScriptLine → Whole
whole_left lines = after (first_whole (setting_of lines)) (replays (first_world (setting_of lines)) (lines_of lines))

-- its disks are those that the head declares, so its summary is that of the schedule
pub summary_left : (lines : List ScriptLine) → KeepsLimits lines → ReplaysAreOfCases → DisksStay → whole_summary (whole_left lines) ≡ (replay_of lines).summary
summary_left lines kept of_cases stay =
    let s : Setting = setting_of lines in
    let o : Happening World = replays (first_world s) (lines_of lines) in
    let r = of_cases s (lines_of lines) kept.setting kept.lines in
    let disks : declared_disks o.part ≡ s.disks = ap declared_disks r.reached ∙ stay s r.cases kept.setting r.allowed in
    let written : take (length o.entries - 0) o.entries ≡ o.entries = take_all (length o.entries - 0) o.entries (omega arith) in
    ap (λ ds. with_disks ds (take (length o.entries - 0) o.entries)) disks ∙ ap (with_disks s.disks) written
  where
    with_disks : List DiskSpec → List Entry → Summary
    with_disks ds es =
        let o : Happening World = replays (first_world (setting_of lines)) (lines_of lines) in
        summary_with (last_machine ds es) o.part.host.phases (world_quiet o.part) es

pub replayed_is : (schedule lines : List ScriptLine) (head : Setting) (system new : Whole) (summary : Summary) → KeepsLimits schedule → ReplaysAreOfCases → DisksStay
    → lines ≡ schedule → head ≡ setting_of lines
    → system ≡ first_whole head → new ≡ after system (replays system.world (lines_of lines)) → summary ≡ whole_summary new
    → (let seen : ReplaySeen = record { entries = new.entries; summary = summary } in seen ≡ replay_of schedule)
replayed_is schedule lines head system new summary kept of_cases stay same head_is system_is new_is summary_is =
    let from : system ≡ first_whole (setting_of lines) = system_is ∙ ap first_whole head_is in
    let left : new ≡ whole_left schedule = new_is ∙ (ap (λ (w : Whole). after w (replays w.world (lines_of lines))) from ∙ ap whole_left same) in
    let is : summary ≡ (replay_of schedule).summary = summary_is ∙ (ap whole_summary left ∙ summary_left schedule kept of_cases stay) in
    ap (λ (w : Whole). let seen : ReplaySeen = record { entries = w.entries; summary = summary } in seen) left
    ∙ ap (λ sum. let seen : ReplaySeen = record { entries = (whole_left schedule).entries; summary = sum } in seen) is

-- the text is another way to say it
pub same_text : {E : Type 0} (r : Result (List ℕ) E) (report_of : List Entry → Summary → List ℕ) (entries : List Entry) (summary : Summary) (seen : ReplaySeen) (schedule : List ScriptLine)
    → IfOk r (λ text. text ≡ report_of entries summary) → entries ≡ seen.entries → summary ≡ seen.summary → seen ≡ replay_of schedule
    → IfOk r (λ text. text ≡ report_of (replay_of schedule).entries (replay_of schedule).summary)
same_text r report_of entries summary seen schedule h entries_are summary_is seen_is =
    subst (λ t. IfOk r (λ text. text ≡ t))
    (ap (λ es. report_of es summary) entries_are ∙ (ap (λ sum. report_of seen.entries sum) summary_is ∙ ap (λ (x : ReplaySeen). report_of x.entries x.summary) seen_is)) h
