-- What else the entries of a trace tie together, beside the lanes, the paths and the handles.
use Rattle.std.specs.Prelude.{List}
use Rattle.mpt_trace.specs.declared.entry.Entry.{Entry}
use Rattle.mpt_wire.specs.Queues.LeastPosts.{IdentifiersAreLeast}
use Rattle.mpt_wire.specs.Messages.Registers.{FramesInOrder, IndicesInOrder, StatusIsRight, UnbindsAtResets}
use Rattle.mpt_wire.specs.Messages.Told.{RepliesAreTold}

pub record IsTied (t : List Entry) : Type 0 where
  -- what the host tells of a reply is what the reply says
  pub told : RepliesAreTold t
  -- each reset unbinds all handles, also where none is bound
  pub resets : UnbindsAtResets t
  -- the host's indices rise by one
  pub indices : IndicesInOrder t
  -- the controller uses reply frames in the order in which they were returned
  pub frames : FramesInOrder t
  -- a read of HostInterruptStatus has the value that the handshake gives it
  pub status : StatusIsRight t
  -- the host's high priority and internal posts have the least free identifiers
  pub identifiers : IdentifiersAreLeast t
