-- The places of identifiers and of reply frames, as the code names them.
use Rattle.std.specs.Prelude.{ℕ, List, if◌then◌else◌}
use Rattle.std.specs.List.{list_any}
use Rattle.mpt_rules.specs.Ioc.Takes.{smid_at}
use Rattle.mpt_rules.specs.World.Places as world
use Rattle.mpt_rules.specs.World.Places.{is_posted_as, place_at_ioc}
use Rattle.mpt_rules.specs.World.State.{World}
use Rattle.mpt_system.specs.declared.place.FramePlace.{FramePlace}
use Rattle.mpt_system.specs.declared.place.FramePlace.TheVariants as frame
use Rattle.mpt_system.specs.declared.place.SmidPlace.{SmidPlace}
use Rattle.mpt_system.specs.declared.place.SmidPlace.TheVariants as smid

-- the identifiers' from 1 on, and the reply frames' from 0 on
pub record PlacesSeen : Type 0 where
  pub smids : List SmidPlace
  pub frames : List FramePlace

abbrev pub smid_place_of : SmidPlace → world.SmidPlace
smid_place_of smid.Free = world.SmidPlace.Free
smid_place_of smid.Parked = world.SmidPlace.Parked
smid_place_of smid.HostOut = world.SmidPlace.HostOut
smid_place_of smid.DownLane = world.SmidPlace.DownLane
smid_place_of smid.HighQueue = world.SmidPlace.HighQueue
smid_place_of smid.NormalQueue = world.SmidPlace.NormalQueue
smid_place_of smid.Fabric = world.SmidPlace.AtFabric
smid_place_of smid.UpOut = world.SmidPlace.UpOut
smid_place_of smid.UpLane = world.SmidPlace.UpLane
smid_place_of smid.Void = world.SmidPlace.Void

abbrev pub frame_place_of : FramePlace → world.FramePlace
frame_place_of frame.Host = world.FramePlace.Host
frame_place_of frame.HostOut = world.FramePlace.HostOut
frame_place_of frame.DownLane = world.FramePlace.DownLane
frame_place_of frame.Ring = world.FramePlace.Ring
frame_place_of frame.UpLane = world.FramePlace.UpLane
frame_place_of frame.Void = world.FramePlace.Void

-- the place of an open identifier whose post left the host
abbrev pub place_away : World → ℕ → world.SmidPlace
place_away w s = if list_any (is_posted_as s) w.down then world.SmidPlace.DownLane else place_at_ioc w s (smid_at w.ioc s)
