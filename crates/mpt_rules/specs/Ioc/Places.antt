-- Where an identifier is at the controller, and whether the controller has anything left to do.
use Rattle.std.specs.Prelude.{ℕ, ◌==◌, Bool, true, false, ◌&&◌, if◌then◌else◌, List, [], ◌∷◌, Option, Some, None, is_none}
use Rattle.std.specs.List.{list_all, list_any}
use Rattle.mpt_rules.specs.declared.said.Said.{Said}
use Rattle.mpt_rules.specs.declared.said.Said.TheVariants as said
use Rattle.mpt_rules.specs.Ioc.Parts.{Ioc}
use Rattle.mpt_rules.specs.Ioc.Tables.{is_at_fabric, is_post_of}

-- where an identifier is: its post in a queue, its request at the fabric or waiting for what is there, or its answer in an outbox
pub data IocPlace : Type 0 where
  InHighQueue : IocPlace
  InNormalQueue : IocPlace
  AtTheFabric : IocPlace
  InUpOutbox : IocPlace

-- a reply of the identifier
abbrev pub is_reply_of : ℕ → Said → Bool
is_reply_of smid (said.Value value) = false
is_reply_of smid (said.Success s page sense) = s == smid
is_reply_of smid (said.Framed s frame page sense) = s == smid
is_reply_of smid (said.Mark generation) = false
is_reply_of smid said.Calm = false

-- a reply of the identifier waits for a reply queue
abbrev pub has_reply_waiting : Ioc → ℕ → Bool
has_reply_waiting ioc smid = list_any (list_any (is_reply_of smid)) ioc.up

-- the first place where the identifier is
abbrev pub smid_at : Ioc → ℕ → Option IocPlace
smid_at ioc smid =
    if list_any (is_post_of smid) ioc.high then Some InHighQueue
    else if list_any (is_post_of smid) ioc.normal then Some InNormalQueue
    else if is_at_fabric ioc smid then Some AtTheFabric
    else if has_reply_waiting ioc smid then Some InUpOutbox
    else None

-- nothing is left in the list
abbrev pub is_empty : {A : Type 0} → List A → Bool
is_empty [] = true
is_empty (x ∷ xs) = false

-- nothing is queued, waits for a lane, a handle or the fabric, or is at the fabric
abbrev pub ioc_quiet : Ioc → Bool
ioc_quiet ioc =
    is_empty ioc.high && is_empty ioc.normal && list_all is_empty ioc.up && is_empty ioc.out
    && is_empty ioc.waiting && list_all is_none ioc.requests && is_empty ioc.held
