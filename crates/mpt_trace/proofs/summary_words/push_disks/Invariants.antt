use Rattle.std.proofs.Common.{◌≡◌, ◌++◌, take}
use Rattle.std.specs.List.{flat_map}
use Rattle.mpt_trace.specs.Summary.{disk_line}
use Rattle.mpt_trace.proofs.summary_words.push_disks.Given as goal

-- the text holds the lines of the disks so far
abbrev pub invariant-loop-disk : goal.invariant-loop-disk
invariant-loop-disk l = l.text ≡ l.initial.text ++ flat_map disk_line (take l.disk-index l.disks)
