-- Entries whose steps change nothing of the machine that a summary shows.
use Rattle.std.proofs.Common.{◌≡◌, ℕ, Bool, true, false, if◌then◌else◌, List, [], ◌∷◌, ◌++◌, Option, Some, None, not, ◌==◌, ◌&&◌}
use Rattle.mpt_trace.specs.declared.entry.Entry.{Entry}
use Rattle.mpt_trace.specs.declared.entry.Entry.TheVariants as entry
use Rattle.mpt_trace.specs.declared.item.Item.{Item}
use Rattle.mpt_trace.specs.declared.item.Item.TheVariants as item
use Rattle.mpt_trace.specs.declared.item.Up.TheVariants as up
use Rattle.mpt_trace.specs.declared.lane.LaneName.TheVariants as lane
use Rattle.mpt_trace.specs.declared.outcome.AbortOutcome.TheVariants as abort
use Rattle.mpt_trace.specs.declared.refusal.Refusal.{Refusal}
use Rattle.mpt_wire.specs.Messages.Fields.{Change, changes_in, smid_in, target_not_responding}
use Rattle.mpt_wire.specs.Machine.Calls.{refused_call, refused_submit}
use Rattle.mpt_wire.specs.Machine.Causes.{Call}
use Rattle.mpt_wire.specs.Machine.SoFar.{SoFar, announced_next}
use Rattle.mpt_wire.specs.Machine.State.{Machine}
use Rattle.mpt_wire.specs.Machine.Steps.{HasLeft, Leaves, Refuses, Step, after, after_all}
use Rattle.mpt_wire.specs.Machine.View.{departures, heard_steps, is_target_end, let_go, step_if, steps_of}
use Rattle.disk_machine.specs.declared.machine.DiskMachine.{DiskMachine}
use Rattle.disk_machine.specs.Machine.{StandsFor}

-- the entry changes something that a summary shows
abbrev pub is_shown : Entry → Bool
is_shown (entry.Given input) = true
is_shown (entry.Run a tag) = true
is_shown entry.HostUp = true
is_shown (entry.Ready a h) = true
is_shown (entry.Lost a h) = true
is_shown (entry.Accept n a tag) = true
is_shown (entry.Answer n how) = true
is_shown entry.ResetDone = true
is_shown _ = false

module _ (s : DiskMachine) where
  -- a disk departs, or not, and then more
  leaves : (b : Bool) (m : Machine) (more : List Step) → ((n : Machine) → StandsFor s n → StandsFor s (after_all n more)) → StandsFor s m → StandsFor s (after_all m ((if b then Leaves ∷ [] else []) ++ more))
  leaves true m more rest stands = rest (after m Leaves) (record { disks = stands.disks; ready = stands.ready; mode = stands.mode; requests = stands.requests; unanswered = stands.unanswered })
  leaves false m more rest stands = rest m stands

  departing : (resetting : Bool) (announced : ℕ → Bool) (changes : List Change) (m : Machine) → StandsFor s m → StandsFor s (after_all m (departures resetting announced changes))
  unfolding departures
  departing resetting announced [] m stands = stands
  departing resetting announced (change ∷ changes) m stands =
      leaves (change.status == target_not_responding && announced change.handle && not resetting) m (departures resetting (announced_next announced change) changes) (departing resetting (announced_next announced change) changes) stands

  -- a disk was let go, or not
  let_go_or_not : (b : Bool) (m : Machine) → StandsFor s m → StandsFor s (after_all m (if b then HasLeft ∷ [] else []))
  let_go_or_not true m stands = record { disks = stands.disks; ready = stands.ready; mode = stands.mode; requests = stands.requests; unanswered = stands.unanswered }
  let_go_or_not false m stands = stands

  letting_go : (g : SoFar) (tag : ℕ) (ahead : Option Entry) (m : Machine) → StandsFor s m → StandsFor s (after_all m (let_go g tag ahead))
  letting_go g tag ahead m stands = let_go_or_not (g.is_target_reset tag && not g.resetting && not (is_target_end ahead)) m stands

  event_or_reply : (b : Bool) (g : SoFar) (tag : ℕ) (changes : List Change) (ahead : Option Entry) (m : Machine) → StandsFor s m → StandsFor s (after_all m (if b then departures g.resetting g.announced changes else let_go g tag ahead))
  event_or_reply true g tag changes ahead m stands = departing g.resetting g.announced changes m stands
  event_or_reply false g tag changes ahead m stands = letting_go g tag ahead m stands

  -- what the host takes
  hearing : (g : SoFar) (i : Item) (ahead : Option Entry) (m : Machine) → StandsFor s m → StandsFor s (after_all m (heard_steps g i ahead))
  hearing g (item.Up (up.Reply descriptor (Some frame) page sense)) ahead m stands =
      event_or_reply (smid_in descriptor == 0) g (smid_in descriptor) (changes_in frame) ahead m stands
  hearing g (item.Up (up.Reply descriptor None page sense)) ahead m stands = letting_go g (smid_in descriptor) ahead m stands
  hearing g (item.Up (up.Value value)) ahead m stands = stands
  hearing g (item.Up (up.Mark generation)) ahead m stands = stands
  hearing g (item.Up up.Calm) ahead m stands = stands
  hearing g (item.Down down) ahead m stands = stands
  hearing g (item.Out out) ahead m stands = stands
  hearing g (item.Back back) ahead m stands = stands
  hearing g (item.Ask ask) ahead m stands = stands
  hearing g (item.Tell tell) ahead m stands = stands

  -- a refusal
  refusing : (o : Option Call) (cause : Refusal) (m : Machine) → StandsFor s m → StandsFor s (after m (step_if o (λ call. Refuses call cause)))
  refusing None cause m stands = stands
  refusing (Some call) cause m stands = stands

  -- each entry that changes nothing shown
  pub silent : (g : SoFar) (e : Entry) (ahead : Option Entry) (m : Machine) → is_shown e ≡ false → StandsFor s m → StandsFor s (after_all m (steps_of g e ahead))
  silent g (entry.Given input) ahead m hidden stands = cc
  silent g (entry.Idle choice) ahead m hidden stands = stands
  silent g (entry.Put l i) ahead m hidden stands = stands
  silent g (entry.Take lane.Up i) ahead m hidden stands = hearing g i ahead m stands
  silent g (entry.Take lane.Down i) ahead m hidden stands = stands
  silent g (entry.Take (lane.UpOn queue) i) ahead m hidden stands = stands
  silent g (entry.Take lane.Out i) ahead m hidden stands = stands
  silent g (entry.Take lane.Back i) ahead m hidden stands = stands
  silent g (entry.Take (lane.Ask k) i) ahead m hidden stands = stands
  silent g (entry.Take (lane.Tell k) i) ahead m hidden stands = stands
  silent g (entry.Bind h a k) ahead m hidden stands = stands
  silent g (entry.Unbind h) ahead m hidden stands = stands
  silent g entry.UnbindAll ahead m hidden stands = stands
  silent g (entry.Run a tag) ahead m hidden stands = cc
  silent g entry.HostUp ahead m hidden stands = cc
  silent g (entry.Ready a h) ahead m hidden stands = cc
  silent g (entry.Lost a h) ahead m hidden stands = cc
  silent g (entry.Accept n a tag) ahead m hidden stands = cc
  silent g (entry.RefuseSubmit n cause) ahead m hidden stands = refusing (refused_submit g.host_call n) cause m stands
  silent g (entry.Refuse call cause) ahead m hidden stands = refusing (refused_call g.fabric_call call) cause m stands
  silent g (entry.Answer n how) ahead m hidden stands = cc
  silent g (entry.AbortEnd n abort.Stopped) ahead m hidden stands = record { disks = stands.disks; ready = stands.ready; mode = stands.mode; requests = stands.requests; unanswered = stands.unanswered }
  silent g (entry.AbortEnd n abort.NotFound) ahead m hidden stands = record { disks = stands.disks; ready = stands.ready; mode = stands.mode; requests = stands.requests; unanswered = stands.unanswered }
  silent g (entry.AbortEnd n abort.Reset) ahead m hidden stands = record { disks = stands.disks; ready = stands.ready; mode = stands.mode; requests = stands.requests; unanswered = stands.unanswered }
  silent g (entry.TargetEnd a how) ahead m hidden stands = record { disks = stands.disks; ready = stands.ready; mode = stands.mode; requests = stands.requests; unanswered = stands.unanswered }
  silent g entry.ResetDone ahead m hidden stands = cc
