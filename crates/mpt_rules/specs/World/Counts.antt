-- What the lines between host and controller hold, counted one key at a time.
use Rattle.std.specs.Prelude.{ℕ, ◌+◌, ◌==◌, Bool, true, false, not, cond, List, [], ◌∷◌}
use Rattle.mpi_doorbell.specs.declared.registers.TheConstants.{REPLY_POST_HOST_INDEX}
use Rattle.mpt_trace.specs.declared.item.Down.{Down}
use Rattle.mpt_trace.specs.declared.item.Down.TheVariants as down
use Rattle.mpt_trace.specs.declared.item.Up.{Up}
use Rattle.mpt_rules.specs.declared.post.Post.{Post}
use Rattle.mpt_rules.specs.declared.said.Said.{Said}
use Rattle.mpt_rules.specs.declared.said.Said.TheVariants as said
use Rattle.mpt_rules.specs.Host.Doorbell.{is_reset_item}
use Rattle.mpt_rules.specs.Ioc.Tables.{is_post_of}
use Rattle.mpt_rules.specs.Ioc.Places.{is_reply_of}
use Rattle.mpt_rules.specs.World.Places.{is_posted_as, is_return_of, is_in_frame}
use Rattle.mpt_rules.specs.World.Weight.{is_read, is_said_value}

-- ---- how many of a list

-- one where it holds
abbrev pub one_if : Bool → ℕ
one_if b = cond b 1 0

-- how many pass
unfoldable pub how_many : {X : Type 0} → (X → Bool) → List X → ℕ
how_many test [] = 0
how_many test (x ∷ xs) = one_if (test x) + how_many test xs

-- ---- which items are meant

-- a register write, but that of the reply post index
abbrev pub is_register_write : Down → Bool
is_register_write (down.Write reg value) = not (reg == REPLY_POST_HOST_INDEX)
is_register_write _ = false

-- an event is a reply to no request
abbrev pub is_event : Said → Bool
is_event item = is_reply_of 0 item

-- a reset's mark
abbrev pub is_mark : Said → Bool
is_mark (said.Mark generation) = true
is_mark _ = false

-- the mark of the reset of a generation
abbrev pub is_mark_of : ℕ → Said → Bool
is_mark_of g (said.Mark generation) = generation == g
is_mark_of g _ = false

-- ---- how many there are

-- the posts under an identifier
unfoldable pub post_count : ℕ → List Down → ℕ
post_count smid items = how_many (is_posted_as smid) items

-- the returns of a reply frame
unfoldable pub return_count : ℕ → List Down → ℕ
return_count number items = how_many (is_return_of number) items

-- the register reads
unfoldable pub read_count : List Down → ℕ
read_count items = how_many is_read items

-- the register writes, but that of the reply post index
unfoldable pub register_write_count : List Down → ℕ
register_write_count items = how_many is_register_write items

-- the writes that begin a reset
unfoldable pub reset_write_count : List Down → ℕ
reset_write_count items = how_many is_reset_item items

-- the posts of a queue under an identifier
unfoldable pub queued_count : ℕ → List Post → ℕ
queued_count smid items = how_many (is_post_of smid) items

-- the replies to an identifier
unfoldable pub reply_count : ℕ → List Said → ℕ
reply_count smid items = how_many (is_reply_of smid) items

-- the events
unfoldable pub event_count : List Said → ℕ
event_count items = how_many is_event items

-- the values of reads
unfoldable pub value_count : List Said → ℕ
value_count items = how_many is_said_value items

-- the marks of resets
unfoldable pub mark_count : List Said → ℕ
mark_count items = how_many is_mark items

-- the marks of the reset of a generation
unfoldable pub mark_count_of : ℕ → List Said → ℕ
mark_count_of generation items = how_many (is_mark_of generation) items

-- the replies in a reply frame
unfoldable pub use_count : ℕ → List Up → ℕ
use_count number items = how_many (is_in_frame number) items
