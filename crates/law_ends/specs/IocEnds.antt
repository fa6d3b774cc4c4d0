-- What a controller keeps, whatever a host and a fabric do to it.
use Rattle.std.specs.Prelude.{◌≡◌, ℕ, ◌≤◌, ◌==◌, Bool, true, false, List, Some, count_by}
use Rattle.std.specs.List.{list_any}
use Rattle.mpt_trace.specs.declared.entry.Entry.{Entry}
use Rattle.mpt_trace.specs.declared.entry.Entry.TheVariants as entry
use Rattle.mpt_trace.specs.declared.item.Down.TheVariants as down
use Rattle.mpt_trace.specs.declared.item.Up.TheVariants as up
use Rattle.mpt_wire.specs.Messages.Fields.{frame_address_in, smid_in}
use Rattle.mpt_rules.specs.Ioc.Parts.{Ioc, new_ioc}
use Rattle.ioc_core.specs.Plays.{after_moves, moved, talk_from}
use Rattle.ioc_core.specs.declared.moves.IocMove.{IocMove}
use Rattle.ioc_core.specs.declared.moves.IocMove.TheVariants as move
use Rattle.ioc_core.specs.declared.moves.IocSaid.{IocSaid}
use Rattle.ioc_core.specs.declared.moves.IocSaid.TheVariants as said

-- what a controller says over a list of moves
abbrev pub ioc_talk : Ioc → List IocMove → List (ℕ × IocSaid)
ioc_talk ioc moves = talk_from 0 ioc moves

-- a new controller behind some moves
abbrev pub ioc_reached : List ℕ → ℕ → List IocMove → Ioc
ioc_reached phys q moves = after_moves (new_ioc phys q) moves

-- ---- a beginning

-- the entry tells a reset
abbrev pub is_unbind_all : Entry → Bool
is_unbind_all entry.UnbindAll = true
is_unbind_all _ = false

-- the move resets the controller
abbrev pub is_reset_move : Ioc → IocMove → Bool
is_reset_move ioc m = list_any is_unbind_all (moved ioc m).told

-- the controller was just made, with some expanders and q reply queues, or the last of some moves has just reset it
pub data IsFresh (phys : List ℕ) (q : ℕ) (ioc : Ioc) : Type 0 where
  IsMade : ioc ≡ new_ioc phys q → IsFresh phys q ioc
  IsReset : (moves : List IocMove) (m : IocMove) → is_reset_move (ioc_reached phys q moves) m ≡ true → ioc ≡ (moved (ioc_reached phys q moves) m).part → IsFresh phys q ioc

-- ---- replies and posts

-- the move brings a post of the identifier
abbrev pub is_post_under : ℕ → IocMove → Bool
is_post_under smid (move.Down (down.Post descriptor frame payload)) = smid_in descriptor == smid
is_post_under smid _ = false

-- a reply to the identifier is said
abbrev pub is_reply_under : ℕ → ℕ × IocSaid → Bool
is_reply_under smid (place, said.Up (up.Reply descriptor frame page sense)) = smid_in descriptor == smid
is_reply_under smid _ = false

-- from its making or a reset on, over any moves, a controller replies to an identifier at most as often as it was posted
-- (what names no identifier has 0)
abbrev pub RepliesAreForPosts : Type 0
RepliesAreForPosts =
    (phys : List ℕ) (q : ℕ) (ioc : Ioc) (moves : List IocMove) (smid : ℕ) → 1 ≤ q → IsFresh phys q ioc → 1 ≤ smid
    → count_by (is_reply_under smid) (ioc_talk ioc moves) ≤ count_by (is_post_under smid) moves

-- ---- reply frames

-- the move returns the reply frame of the address
abbrev pub is_return_at : ℕ → IocMove → Bool
is_return_at address (move.Down (down.Return a index)) = a == address
is_return_at address _ = false

-- a reply in the reply frame of the address is said
abbrev pub is_reply_at : ℕ → ℕ × IocSaid → Bool
is_reply_at address (place, said.Up (up.Reply descriptor (Some frame) page sense)) = frame_address_in descriptor == address
is_reply_at address _ = false

-- from its making or a reset on, over any moves, a controller uses a reply frame at most as often as it was returned
abbrev pub FramesAreReturned : Type 0
FramesAreReturned =
    (phys : List ℕ) (q : ℕ) (ioc : Ioc) (moves : List IocMove) (address : ℕ) → 1 ≤ q → IsFresh phys q ioc
    → count_by (is_reply_at address) (ioc_talk ioc moves) ≤ count_by (is_return_at address) moves
