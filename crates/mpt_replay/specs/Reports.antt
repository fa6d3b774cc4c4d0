-- The reports of a schedule.
use Rattle.std.specs.Prelude.{ℕ, List}
use Rattle.mpt_script.specs.declared.line.Line.{Line as ScriptLine}
use Rattle.mpt_rules.specs.Outcome.{Happening}
use Rattle.mpt_rules.specs.World.Replays.{replays}
use Rattle.mpt_rules.specs.World.Settings.{first_world}
use Rattle.mpt_rules.specs.World.State.{World}
use Rattle.mpt_rules.specs.World.Summaries.{replay_report, replay_short, summary_of}
use Rattle.law_replays.specs.Schedules.{lines_of, setting_of}
use Rattle.mpt_replay.specs.Seen.{ReplaySeen}

-- what a schedule's lines leave, from the first world of what its head declares
abbrev pub schedule_outcome : List ScriptLine → Happening World
schedule_outcome lines = replays (first_world (setting_of lines)) (lines_of lines)

-- the trace of that, and its summary
abbrev pub replay_of : List ScriptLine → ReplaySeen
replay_of lines = record { entries = (schedule_outcome lines).entries; summary = summary_of (setting_of lines) (schedule_outcome lines) }

-- the report of that, and the short one
abbrev pub schedule_report : List ScriptLine → List ℕ
schedule_report lines = replay_report (setting_of lines) (lines_of lines)

abbrev pub schedule_short_report : List ScriptLine → List ℕ
schedule_short_report lines = replay_short (setting_of lines) (lines_of lines)
