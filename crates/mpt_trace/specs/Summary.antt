-- The lines at the end of a report.
use Rattle.std.specs.Prelude.{ℕ, Bool, if◌then◌else◌, Option, Some, None, List, [], ◌∷◌, ◌++◌, codes, decimal}
use Rattle.std.specs.List.{flat_map}
use Rattle.mpt_trace.specs.declared.host_state.HostState.{HostState}
use Rattle.mpt_trace.specs.declared.host_state.HostState.TheVariants as state
use Rattle.mpt_trace.specs.declared.summary.DiskLine.{DiskLine}
use Rattle.mpt_trace.specs.declared.summary.Summary.{Summary}
use Rattle.mpt_trace.specs.Numbers.{address_text, line_end, place_text}

-- where a disk is: at a phy of an expander, or out
abbrev pub whereabouts : Option (ℕ × ℕ) → List ℕ
whereabouts (Some at) = codes " at " ++ place_text at.0 at.1
whereabouts None = codes " out"

abbrev pub disk_line : DiskLine → List ℕ
disk_line disk = codes "disk " ++ address_text disk.address ++ whereabouts disk.at ++ codes " sum " ++ decimal disk.sum ++ line_end

-- names, each with a number after it
abbrev pub counts_line : List (List ℕ × ℕ) → List ℕ
counts_line counts = flat_map (λ (count : List ℕ × ℕ). count.0 ++ decimal count.1) counts ++ line_end

abbrev pub answers_line : Summary → List ℕ
answers_line s = counts_line ((codes "answers done ", s.done) ∷ (codes " gone ", s.gone) ∷ (codes " terminated ", s.terminated)
    ∷ (codes " reset ", s.reset) ∷ (codes " refused ", s.refused) ∷ (codes " open ", s.unanswered) ∷ [])

abbrev pub phases_line : Summary → List ℕ
phases_line s = counts_line ((codes "phases reading ", s.reading) ∷ (codes " ready ", s.ready) ∷ (codes " waiting ", s.waiting)
    ∷ (codes " resetting ", s.resetting) ∷ (codes " removing ", s.removing) ∷ [])

abbrev pub state_text : HostState → List ℕ
state_text state.Off = codes "off"
state_text state.Starting = codes "starting"
state_text state.Up = codes "up"
state_text state.Resetting = codes "resetting"

abbrev pub quiet_text : Bool → List ℕ
quiet_text quiet = if quiet then codes "yes" else codes "no"

abbrev pub state_line : HostState → Bool → List ℕ
state_line state quiet = codes "state " ++ state_text state ++ codes " quiet " ++ quiet_text quiet ++ line_end

-- a line for each disk, then the answers, the phases and the state
abbrev pub summary_lines : Summary → List ℕ
summary_lines s = flat_map disk_line s.disks ++ answers_line s ++ phases_line s ++ state_line s.state s.quiet
