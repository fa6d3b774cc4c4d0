-- The lines: a lane, followed by the outbox that is put on it. A put leaves each line as it is.
use Rattle.std.specs.Prelude.{ℕ, ◌==◌, Bool, List, [], ◌∷◌, ◌++◌, map, slice_index_or, Option, Some, None, if◌then◌else◌}
use Rattle.std.specs.List.{cons_option}
use Rattle.mpi_rings.specs.RequestDescriptor.{flags_of}
use Rattle.mpi_rings.specs.declared.request_descriptor.PostKind.TheVariants as kind
use Rattle.mpt_wire.specs.Messages.Fields.{flags_in, smid_in}
use Rattle.mpt_trace.specs.declared.item.Down.{Down}
use Rattle.mpt_trace.specs.declared.item.Down.TheVariants as down
use Rattle.mpt_trace.specs.declared.item.Up.{Up}
use Rattle.mpt_trace.specs.declared.item.Up.TheVariants as up
use Rattle.mpt_trace.specs.declared.item.Out.{Out}
use Rattle.mpt_trace.specs.declared.item.Back.{Back}
use Rattle.mpt_rules.specs.declared.post.Post.{Post}
use Rattle.mpt_rules.specs.declared.said.Said.{Said}
use Rattle.mpt_rules.specs.declared.said.Said.TheVariants as said
use Rattle.mpt_rules.specs.World.State.{World, up_on}

-- ---- what an item of a lane up says, without the address of its frame

-- a reply, with or without a frame
abbrev pub said_reply : ℕ → Option (List ℕ) → List ℕ → List ℕ → Said
said_reply smid None page sense = said.Success smid page sense
said_reply smid (Some frame) page sense = said.Framed smid frame page sense

-- an item of a lane up
abbrev pub said_of : Up → Said
said_of (up.Value value) = said.Value value
said_of (up.Reply descriptor frame page sense) = said_reply (smid_in descriptor) frame page sense
said_of (up.Mark generation) = said.Mark generation
said_of up.Calm = said.Calm

-- ---- posts by their queue

-- the post goes to the high queue
abbrev pub is_high : ℕ → Bool
is_high descriptor = flags_in descriptor == flags_of kind.HighPriority

-- the post that an item is, if its descriptor is of high priority
abbrev pub high_post : Down → Option Post
high_post (down.Post descriptor frame payload) =
    if is_high descriptor then Some (record { descriptor = descriptor; frame = frame; payload = payload }) else None
high_post _ = None

-- the post that an item is, if its descriptor isn't of high priority
abbrev pub normal_post : Down → Option Post
normal_post (down.Post descriptor frame payload) =
    if is_high descriptor then None else Some (record { descriptor = descriptor; frame = frame; payload = payload })
normal_post _ = None

-- the posts of high priority among items, in order
unfoldable pub high_posts : List Down → List Post
high_posts [] = []
high_posts (item ∷ items) = cons_option (high_post item) (high_posts items)

-- the other posts among items, in order
unfoldable pub normal_posts : List Down → List Post
normal_posts [] = []
normal_posts (item ∷ items) = cons_option (normal_post item) (normal_posts items)

-- ---- the lines of a world

-- from the host to the controller
abbrev pub down_line : World → List Down
down_line w = w.down ++ w.host.out

-- the line of a reply queue
abbrev pub up_line : World → ℕ → List Said
up_line w queue = map said_of (up_on w queue) ++ slice_index_or w.ioc.up queue []

-- from the controller to the fabric
abbrev pub out_line : World → List Out
out_line w = w.out ++ w.ioc.out

-- from the fabric to the controller
abbrev pub back_line : World → List Back
back_line w = w.back ++ w.fabric.out

-- what the fabric will tell, with the plugs and unplugs that aren't announced yet
abbrev pub notice_line : World → List Back
notice_line w = back_line w ++ w.fabric.notices

-- the posts of the high queue, followed by those that will go there
abbrev pub high_line : World → List Post
high_line w = w.ioc.high ++ high_posts (down_line w)

-- the posts of the normal queue, followed by those that will go there
abbrev pub normal_line : World → List Post
normal_line w = w.ioc.normal ++ normal_posts (down_line w)
