-- What the entries of a trace have said so far, as far as the view of later ones asks for it.
use Rattle.std.specs.Prelude.{ℕ, ◌==◌, ◌&&◌, ◌||◌, not, Bool, true, false, if◌then◌else◌, List, [], ◌∷◌, Option, Some, None}
use Rattle.mpt_messages.specs.Function.{byte_of}
use Rattle.mpt_messages.specs.declared.function.Function.TheVariants as function
use Rattle.mpt_trace.specs.declared.input.Input.TheVariants as input
use Rattle.mpt_trace.specs.declared.lane.LaneName.TheVariants as lane
use Rattle.mpt_trace.specs.declared.item.Item.{Item}
use Rattle.mpt_trace.specs.declared.item.Item.TheVariants as item
use Rattle.mpt_trace.specs.declared.item.Down.TheVariants as down
use Rattle.mpt_trace.specs.declared.item.Up.TheVariants as up
use Rattle.mpt_trace.specs.declared.parties.Party.{Party}
use Rattle.mpt_trace.specs.declared.parties.Party.TheVariants as party
use Rattle.mpt_trace.specs.declared.entry.Entry.{Entry}
use Rattle.mpt_trace.specs.declared.entry.Entry.TheVariants as entry
use Rattle.mpt_wire.specs.Walks.Ahead.{is_of}
use Rattle.mpt_wire.specs.Machine.Calls.{call_of, is_call_refused}
use Rattle.mpt_wire.specs.Messages.Fields.{Change, changes_in, function_in, smid_in, target_added, target_not_responding, target_reset, task_type_in}
use Rattle.mpt_wire.specs.Machine.State.{put_at}
use Rattle.mpt_wire.specs.Machine.Causes.{Call}

pub record SoFar : Type 0 where
  -- the call of the host's last entry, and of the fabric's, where it was an input
  pub host_call : Option Call
  pub fabric_call : Option Call
  -- the number of the last accept of each identifier, and the identifier of the last accept of each number
  pub number_of : ℕ → Option ℕ
  pub identifier_of : ℕ → Option ℕ
  -- the plug of the last bind of each handle
  pub plug_of : ℕ → Option ℕ
  -- the host took that the handle's disk was added, since the last reset was done, and not that it doesn't respond, since then
  pub announced : ℕ → Bool
  -- the last post of the identifier that was put asks for a target reset
  pub is_target_reset : ℕ → Bool
  -- a reset was asked and isn't done
  pub resetting : Bool

abbrev pub nothing_so_far : SoFar
nothing_so_far =
    record {
      host_call = None;
      fabric_call = None;
      number_of = λ s. None;
      identifier_of = λ n. None;
      plug_of = λ h. None;
      announced = λ h. false;
      is_target_reset = λ s. false;
      resetting = false;
    }

-- ---- what an entry says

-- the call of an input
abbrev pub input_call : Entry → Option Call
input_call (entry.Given input) = Some (call_of input)
input_call _ = None

-- the call of the party's last entry
abbrev pub last_call : Party → Option Call → Entry → Option Call
last_call p before e = if is_of p e then input_call e else before

-- whether the handle's disk is announced, after a change
abbrev pub announced_next : (ℕ → Bool) → Change → ℕ → Bool
announced_next announced change =
    if change.status == target_added then put_at change.handle true announced
    else if change.status == target_not_responding then put_at change.handle false announced
    else announced

unfoldable pub announced_after : (ℕ → Bool) → List Change → ℕ → Bool
announced_after announced [] = announced
announced_after announced (change ∷ changes) = announced_after (announced_next announced change) changes

-- the changes that the host takes: those of an event, which names no identifier
abbrev pub changes_of_item : Item → List Change
changes_of_item (item.Up (up.Reply descriptor (Some frame) page sense)) = if smid_in descriptor == 0 then changes_in frame else []
changes_of_item _ = []

-- the request asks for a target reset
abbrev pub asks_target_reset : List ℕ → Bool
asks_target_reset frame = function_in frame == byte_of function.TaskManagement && task_type_in frame == target_reset

abbrev pub after_put : Item → SoFar → SoFar
after_put (item.Down (down.Post descriptor frame payload)) g = record g { is_target_reset = put_at (smid_in descriptor) (asks_target_reset frame) g.is_target_reset }
after_put _ g = g

-- a reset that isn't refused next
abbrev pub is_reset_asked : Entry → Option Entry → Bool
is_reset_asked (entry.Given input.Reset) ahead = not (is_call_refused (call_of input.Reset) ahead)
is_reset_asked (entry.Given input.UnitReset) ahead = not (is_call_refused (call_of input.UnitReset) ahead)
is_reset_asked _ ahead = false

-- what the entry adds, but for calls
abbrev pub after_entry : SoFar → Entry → Option Entry → SoFar
after_entry g (entry.Given input) ahead = record g { resetting = g.resetting || is_reset_asked (entry.Given input) ahead }
after_entry g (entry.Put lane.Down item) ahead = after_put item g
after_entry g (entry.Take lane.Up item) ahead = record g { announced = announced_after g.announced (changes_of_item item) }
after_entry g (entry.Bind h a k) ahead = record g { plug_of = put_at h (Some k) g.plug_of }
after_entry g (entry.Accept n a s) ahead = record g { number_of = put_at s (Some n) g.number_of; identifier_of = put_at n (Some s) g.identifier_of }
after_entry g entry.ResetDone ahead = record g { announced = λ h. false; resetting = false }
after_entry g _ ahead = g

-- what is said after the entry, given the next entry of its party
abbrev pub so_far_next : SoFar → Entry → Option Entry → SoFar
so_far_next g e ahead = record (after_entry g e ahead) { host_call = last_call party.Host g.host_call e; fabric_call = last_call party.Fabric g.fabric_call e }
