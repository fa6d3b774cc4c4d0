-- What a reset tells of an open identifier.
use Rattle.std.specs.Prelude.{List, [], ◌∷◌, Option, Some}
use Rattle.mpt_trace.specs.declared.entry.Entry.{Entry}
use Rattle.mpt_trace.specs.declared.entry.Entry.TheVariants as entry
use Rattle.mpt_trace.specs.declared.outcome.TargetOutcome.TheVariants as target
use Rattle.mpt_rules.specs.declared.request.Request.{Request}
use Rattle.mpt_rules.specs.declared.request.Request.TheVariants as request

-- a target reset that was asked from outside is told as ended
abbrev pub target_told : Option Request → List Entry
target_told (Some (request.TargetReset address)) = entry.TargetEnd address target.Reset ∷ []
target_told r = []
