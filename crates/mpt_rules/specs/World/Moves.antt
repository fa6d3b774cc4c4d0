-- What a chosen step does to the world.
use Rattle.std.specs.Prelude.{ℕ, zero, suc, Bool, true, false, List, [], ◌∷◌, ◌++◌, Option, Some, None}
use Rattle.mpt_trace.specs.declared.choice.Choice.{Choice}
use Rattle.mpt_trace.specs.declared.choice.Choice.TheVariants as choice
use Rattle.mpt_trace.specs.declared.entry.Entry.{Entry}
use Rattle.mpt_trace.specs.declared.entry.Entry.TheVariants as entry
use Rattle.mpt_trace.specs.declared.item.Down.{Down}
use Rattle.mpt_trace.specs.declared.item.Up.{Up}
use Rattle.mpt_trace.specs.declared.item.Out.{Out}
use Rattle.mpt_trace.specs.declared.item.Back.{Back}
use Rattle.mpt_trace.specs.declared.item.Item.TheVariants as item
use Rattle.mpt_trace.specs.declared.lane.LaneName.TheVariants as lane
use Rattle.mpt_rules.specs.declared.why.Why.{Why}
use Rattle.mpt_rules.specs.Host.Parts.{Host}
use Rattle.mpt_rules.specs.Ioc.Parts.{Ioc}
use Rattle.mpt_rules.specs.Fabric.Parts.{Fabric}
use Rattle.mpt_rules.specs.Host.Takes.{takes_up, down_sent}
use Rattle.mpt_rules.specs.Ioc.Takes.{takes_down, takes_back, steps_high, steps_normal, front_up_on, up_sent_on, front_out, out_sent}
use Rattle.mpt_rules.specs.Fabric.Calls.{takes_out, announces, fabric_sent, runs}
use Rattle.mpt_rules.specs.Outcome.{Happening, Called}
use Rattle.mpt_rules.specs.World.State.{World, up_lane, up_on, with_up, enters}

-- ---- puts: an outbox's next item goes to the end of its lane

-- the host's next item goes down
abbrev pub host_puts : World → List Down → Option (Happening World)
host_puts w [] = None
host_puts w (next ∷ rest) =
    Some (enters (record w { host = down_sent w.host; down = w.down ++ next ∷ [] }) (entry.Put lane.Down (item.Down next)))

-- the controller's next item for the fabric goes out
abbrev pub ioc_puts_out : World → Option Out → Option (Happening World)
ioc_puts_out w None = None
ioc_puts_out w (Some next) =
    Some (enters (record w { ioc = out_sent w.ioc; out = w.out ++ next ∷ [] }) (entry.Put lane.Out (item.Out next)))

-- the controller's next item of a reply queue goes up
abbrev pub ioc_puts : World → ℕ → Option Up → Option (Happening World)
ioc_puts w queue None = None
ioc_puts w queue (Some next) =
    Some (enters
    (with_up (record w { ioc = up_sent_on w.ioc queue }) queue (up_on w queue ++ next ∷ []))
    (entry.Put (up_lane queue) (item.Up next)))

-- the fabric's next item goes back
abbrev pub fabric_puts : World → List Back → Option (Happening World)
fabric_puts w [] = None
fabric_puts w (next ∷ rest) =
    Some (enters (record w { fabric = fabric_sent w.fabric; back = w.back ++ next ∷ [] }) (entry.Put lane.Back (item.Back next)))

-- ---- takes: a lane's next item goes to the party at its end

-- what the host tells of an item: nothing where it is strange
abbrev pub told_of : Option Why → List Entry → List Entry
told_of None told = told
told_of (Some why) told = []

-- the host has taken an item of a reply queue
abbrev pub host_took : World → ℕ → Up → Called Host (Option Why) → Happening World
host_took w queue next called =
    record { part = record w { host = called.part }; entries = entry.Take (up_lane queue) (item.Up next) ∷ told_of called.answer called.told }

-- the host takes the next item of a reply queue
abbrev pub host_takes : World → ℕ → List Up → Option (Happening World)
host_takes w queue [] = None
host_takes w queue (next ∷ rest) = Some (host_took (with_up w queue rest) queue next (takes_up w.host queue next))

-- the controller has taken an item, with this entry
abbrev pub ioc_took : World → Entry → Happening Ioc → Happening World
ioc_took w took outcome = record { part = record w { ioc = outcome.part }; entries = took ∷ outcome.entries }

-- the controller takes the next item of the host
abbrev pub ioc_takes : World → List Down → Option (Happening World)
ioc_takes w [] = None
ioc_takes w (next ∷ rest) = Some (ioc_took (record w { down = rest }) (entry.Take lane.Down (item.Down next)) (takes_down w.ioc next))

-- the controller takes the next item of the fabric
abbrev pub ioc_takes_back : World → List Back → Option (Happening World)
ioc_takes_back w [] = None
ioc_takes_back w (next ∷ rest) = Some (ioc_took (record w { back = rest }) (entry.Take lane.Back (item.Back next)) (takes_back w.ioc next))

-- the fabric takes the next item of the controller
abbrev pub fabric_takes : World → List Out → Option (Happening World)
fabric_takes w [] = None
fabric_takes w (next ∷ rest) =
    Some (enters (record w { fabric = takes_out w.fabric next; out = rest }) (entry.Take lane.Out (item.Out next)))

-- ---- work that touches no lane

-- the controller after a work step, if there was one
abbrev pub ioc_worked : World → Bool → Ioc → List Entry → Option (Happening World)
ioc_worked w false ioc told = None
ioc_worked w true ioc told = Some (record { part = record w { ioc = ioc }; entries = told })

-- the controller makes a work step
abbrev pub ioc_works : World → Called Ioc Bool → Option (Happening World)
ioc_works w called = ioc_worked w called.answer called.part called.told

-- the fabric tells its first notice, if there is one
abbrev pub fabric_says : World → Option Fabric → Option (Happening World)
fabric_says w None = None
fabric_says w (Some fabric) = Some (record { part = record w { fabric = fabric }; entries = [] })

-- the fabric has performed a task, if there was one
abbrev pub fabric_ran : World → ℕ → Option ℕ → Fabric → Option (Happening World)
fabric_ran w tag None fabric = None
fabric_ran w tag (Some address) fabric = Some (enters (record w { fabric = fabric }) (entry.Run address tag))

-- the fabric performs the task of a tag
abbrev pub fabric_runs : World → ℕ → Called Fabric (Option ℕ) → Option (Happening World)
fabric_runs w tag called = fabric_ran w tag called.answer called.part

-- ---- reply queues above 0

-- the host takes from a reply queue above 0
abbrev pub host_takes_above : World → ℕ → Option (Happening World)
host_takes_above w zero = None
host_takes_above w (suc queue) = host_takes w (suc queue) (up_on w (suc queue))

-- the controller puts for a reply queue above 0
abbrev pub ioc_puts_above : World → ℕ → Option (Happening World)
ioc_puts_above w zero = None
ioc_puts_above w (suc queue) = ioc_puts w (suc queue) (front_up_on w.ioc (suc queue))

-- what a chosen step leaves; none where it has nothing to take
abbrev pub moves : World → Choice → Option (Happening World)
moves w choice.HostPut = host_puts w w.host.out
moves w choice.HostTake = host_takes w 0 (up_on w 0)
moves w (choice.HostTakeOn queue) = host_takes_above w queue
moves w choice.IocTake = ioc_takes w w.down
moves w choice.IocHigh = ioc_works w (steps_high w.ioc)
moves w choice.IocNormal = ioc_works w (steps_normal w.ioc)
moves w choice.IocOut = ioc_puts_out w (front_out w.ioc)
moves w choice.IocBack = ioc_takes_back w w.back
moves w choice.IocPut = ioc_puts w 0 (front_up_on w.ioc 0)
moves w (choice.IocPutOn queue) = ioc_puts_above w queue
moves w choice.FabricTake = fabric_takes w w.out
moves w choice.FabricSay = fabric_says w (announces w.fabric)
moves w choice.FabricPut = fabric_puts w w.fabric.out
moves w (choice.FabricRun tag) = fabric_runs w tag (runs w.fabric tag)
