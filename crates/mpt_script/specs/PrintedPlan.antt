-- The printed text of a plan.
use Rattle.std.specs.Prelude.{ℕ, ◌+◌, nat_le, if◌then◌else◌, List, [], ◌∷◌, ◌++◌, codes, decimal}
use Rattle.std.specs.List.{flat_map}
use Rattle.mpt_trace.specs.declared.disk_spec.DiskSpec.{DiskSpec}
use Rattle.mpt_trace.specs.declared.input.Input.{Input}
use Rattle.mpt_trace.specs.Numbers.{line_end}
use Rattle.mpt_trace.specs.Schedule.{input_line}
use Rattle.mpt_script.specs.PlanParts.{PlanParts}
use Rattle.mpt_script.specs.Printed.{disk_text, expander_text}

-- the number of queues, unless it is 1
abbrev pub queues_text : ℕ → List ℕ
queues_text queues = if nat_le queues 1 then [] else codes "queues " ++ decimal queues ++ line_end

-- the disks' lines
abbrev pub disks_text : List DiskSpec → List ℕ
disks_text disks = flat_map (λ disk. disk_text disk ++ line_end) disks

-- the lines of the expanders from this number on
unfoldable pub expanders_text : ℕ → List ℕ → List ℕ
expanders_text number [] = []
expanders_text number (phys ∷ others) = expander_text number phys ++ line_end ++ expanders_text (number + 1) others

-- inputs' lines
abbrev pub inputs_text : List Input → List ℕ
inputs_text inputs = flat_map (λ input. input_line input ++ line_end) inputs

-- a submitter's block
abbrev pub submitter_text : ℕ → List Input → List ℕ
submitter_text number inputs = codes "submitter " ++ decimal number ++ line_end ++ inputs_text inputs

-- the blocks of the submitters from this number on
unfoldable pub submitters_text : ℕ → List (List Input) → List ℕ
submitters_text number [] = []
submitters_text number (inputs ∷ others) = submitter_text number inputs ++ submitters_text (number + 1) others

-- the fabric's block, unless it has no lines
abbrev pub fabric_text : List Input → List ℕ
fabric_text [] = []
fabric_text (first ∷ others) = codes "fabric" ++ line_end ++ inputs_text (first ∷ others)

-- a plan
abbrev pub plan_text : PlanParts → List ℕ
plan_text plan = queues_text plan.queues ++ disks_text plan.disks ++ expanders_text 0 plan.phys ++ inputs_text plan.plugs ++ submitters_text 0 plan.submitters ++ fabric_text plan.fabric
