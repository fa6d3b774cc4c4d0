-- Identifiers and reply frames go their cycles exactly where the rules that go over the trace pass.
use Rattle.std.proofs.Common.{List}
use Rattle.mpt_trace.specs.declared.entry.Entry.{Entry}
use Rattle.mpt_wire.specs.Queues.Identifiers.{IdentifiersInCycles, IdentifiersPass, smid_stage}
use Rattle.mpt_wire.specs.Queues.Frames.{FramesInCycles, FramesPass, frame_stage}
use Rattle.mpt_wire.proofs.Cycles.{in_cycles, turns_pass}

pub identifiers_in_cycles : (t : List Entry) → IdentifiersPass t → IdentifiersInCycles t
identifiers_in_cycles t p s other = in_cycles (smid_stage s) t (p s other)

pub identifiers_pass : (t : List Entry) → IdentifiersInCycles t → IdentifiersPass t
identifiers_pass t h s other = turns_pass (smid_stage s) t (h s other)

pub frames_in_cycles : (t : List Entry) → FramesPass t → FramesInCycles t
frames_in_cycles t p address = in_cycles (frame_stage address) t (p address)

pub frames_pass : (t : List Entry) → FramesInCycles t → FramesPass t
frames_pass t h address = turns_pass (frame_stage address) t (h address)
