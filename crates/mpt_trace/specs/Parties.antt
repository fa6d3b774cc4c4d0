-- Which party an entry is of.
use Rattle.mpt_trace.specs.declared.lane.LaneName.{LaneName}
use Rattle.mpt_trace.specs.declared.lane.LaneName.TheVariants as lane
use Rattle.mpt_trace.specs.declared.input.Input.{Input}
use Rattle.mpt_trace.specs.declared.input.Input.TheVariants as input
use Rattle.mpt_trace.specs.declared.choice.Choice.{Choice}
use Rattle.mpt_trace.specs.declared.choice.Choice.TheVariants as choice
use Rattle.mpt_trace.specs.declared.refusal.RefusedCall.{RefusedCall}
use Rattle.mpt_trace.specs.declared.refusal.RefusedCall.TheVariants as call
use Rattle.mpt_trace.specs.declared.entry.Entry.{Entry}
use Rattle.mpt_trace.specs.declared.entry.Entry.TheVariants as entry
use Rattle.mpt_trace.specs.declared.parties.Party.{Party}
use Rattle.mpt_trace.specs.declared.parties.Party.TheVariants as party

-- who puts on a lane
abbrev pub putter : LaneName → Party
putter lane.Down = party.Host
putter lane.Up = party.Ioc
putter (lane.UpOn queue) = party.Ioc
putter lane.Out = party.Ioc
putter lane.Back = party.Fabric
putter (lane.Ask i) = party.Submitter i
putter (lane.Tell i) = party.Host

-- who takes from it
abbrev pub taker : LaneName → Party
taker lane.Down = party.Ioc
taker lane.Up = party.Host
taker (lane.UpOn queue) = party.Host
taker lane.Out = party.Fabric
taker lane.Back = party.Ioc
taker (lane.Ask i) = party.Host
taker (lane.Tell i) = party.Submitter i

-- who is told an input: plugs are the fabric's, all others the host's
abbrev pub told : Input → Party
told (input.Plug address expander phy) = party.Fabric
told (input.Unplug address) = party.Fabric
told _ = party.Host

-- whose step a choice is
abbrev pub chosen : Choice → Party
chosen choice.HostPut = party.Host
chosen choice.HostTake = party.Host
chosen (choice.HostTakeOn queue) = party.Host
chosen choice.FabricTake = party.Fabric
chosen choice.FabricSay = party.Fabric
chosen choice.FabricPut = party.Fabric
chosen (choice.FabricRun tag) = party.Fabric
chosen _ = party.Ioc

-- who refuses a call
abbrev pub refuser : RefusedCall → Party
refuser (call.Plug address) = party.Fabric
refuser (call.Unplug address) = party.Fabric
refuser _ = party.Host

-- the party of an entry
abbrev pub party_of : Entry → Party
party_of (entry.Given input) = told input
party_of (entry.Idle choice) = chosen choice
party_of (entry.Put lane item) = putter lane
party_of (entry.Take lane item) = taker lane
party_of (entry.Bind handle address plug) = party.Ioc
party_of (entry.Unbind handle) = party.Ioc
party_of entry.UnbindAll = party.Ioc
party_of (entry.Run address tag) = party.Fabric
party_of (entry.Refuse call cause) = refuser call
party_of _ = party.Host
