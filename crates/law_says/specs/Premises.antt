-- What the facts don't say, and nothing is strange rests on: the flags of the reply descriptors on the lanes up. An item of a
-- lane is compared with what was to be said by its identifier and its frame alone.
use Rattle.std.specs.Prelude.{◌≡◌, ◌==◌, Bool, true, Some, None, sum_by}
use Rattle.mpt_wire.specs.Messages.Fields.{address_flags, flags_in, success_flags}
use Rattle.mpt_trace.specs.declared.item.Up.{Up}
use Rattle.mpt_trace.specs.declared.item.Up.TheVariants as up
use Rattle.mpt_rules.specs.World.State.{World}
use Rattle.law_facts.specs.Words.{others}

-- a reply without a frame has the descriptor of a success, and one with a frame that of an address
abbrev pub has_its_flags : Up → Bool
has_its_flags (up.Reply descriptor None page sense) = flags_in descriptor == success_flags
has_its_flags (up.Reply descriptor (Some frame) page sense) = flags_in descriptor == address_flags
has_its_flags _ = true

-- of each item of a lane up
abbrev pub DescriptorsStand : World → Type 0
DescriptorsStand w = sum_by (others has_its_flags) w.up ≡ 0
