-- Disks that are plugged and unplugged, as the controller sees them.
use Rattle.std.proofs.Common.{◌≡◌, [], ◌∷◌, false, map, replicate, refl}
use Rattle.mpi_layout.specs.Rows.{field}
use Rattle.event_msgs.specs.EventReply.{event_reply_layout, event_reply_values}
use Rattle.event_msgs.specs.Topology.{topology_layout, topology_values}
use Rattle.event_msgs.specs.TopologyEntry.{topology_entry_layout, topology_entry_values}
use Rattle.ioc_msgs.specs.UnitControl.{unit_control_layout, unit_control_values}
use Rattle.ioc_msgs.specs.UnitControlReply.{unit_control_reply_layout, unit_control_reply_values}
use Rattle.mpt_messages.specs.declared.host_ask.HostAsk.TheVariants as ask
use Rattle.mpt_wire.specs.Messages.Fields.{changes_from}
use Rattle.mpt_trace.specs.declared.entry.Entry.TheVariants as entry
use Rattle.mpt_trace.specs.declared.item.Back.TheVariants as back
use Rattle.mpt_rules.specs.declared.binding.Binding.TheVariants as binding
use Rattle.mpt_rules.specs.Ioc.Takes.{steps_normal, takes_back}
use Rattle.mpt_rules.specs.Ioc.Parts.{Ioc}
use Rattle.mpt_rules.specs.Ioc.Tables.{binding_of, with_binding}
use Rattle.mpt_rules.proofs.IocExampleParts.{default_post, events, hears_all, normal, operational, seen, takes_all, with_disk}

-- ---- plugged

-- the least unbound handle is bound
bound : binding_of (takes_back (with_disk 1) (back.Plugged 0xB 1 0 2)).part 0x000a ≡ binding.Present 0xB 1 0 2
bound = refl

bind_told : (takes_back (with_disk 1) (back.Plugged 0xB 1 0 2)).entries ≡ entry.Bind 0x000a 0xB 1 ∷ []
bind_told = refl

-- the event: its context, the handle, added
added : events (hears_all (with_disk 1) (back.Plugged 0xB 1 0 2 ∷ back.Plugged 0xC 1 0 3 ∷ [])) ≡ (1 ∷ 0x000a ∷ 1 ∷ []) ∷ (2 ∷ 0x000b ∷ 1 ∷ []) ∷ []
unfolding field changes_from event_reply_layout event_reply_values topology_layout topology_values topology_entry_layout topology_entry_values
added = refl

-- while topology events aren't let through there is none, and no context is used
silent : seen (hears_all (record (operational 1) { through = false }) (back.Plugged 0xB 1 0 2 ∷ [])) 0 ≡ []
silent = refl

silent_context : (hears_all (record (operational 1) { through = false }) (back.Plugged 0xB 1 0 2 ∷ [])).context ≡ 1
silent_context = refl

-- a disk that is known, and one at an expander that isn't there
known : (takes_back (with_disk 1) (back.Plugged 0xA 2 0 2)).entries ≡ []
known = refl

no_expander : (takes_back (with_disk 1) (back.Plugged 0xB 1 1 2)).entries ≡ []
no_expander = refl

-- ---- unplugged

unplugged : binding_of (takes_back (with_disk 1) (back.Unplugged 0xA 1 0 0)).part 0x0009 ≡ binding.Gone 0xA
unplugged = refl

not_responding : events (hears_all (with_disk 1) (back.Unplugged 0xA 1 0 0 ∷ back.Unplugged 0xA 1 0 0 ∷ [])) ≡ (1 ∷ 0x0009 ∷ 2 ∷ []) ∷ []
unfolding field changes_from event_reply_layout event_reply_values topology_layout topology_values topology_entry_layout topology_entry_values
not_responding = refl

-- a disk that comes again is given another handle while its old one isn't removed
plugged_again : binding_of (hears_all (with_disk 1) (back.Unplugged 0xA 1 0 0 ∷ back.Plugged 0xA 2 0 0 ∷ [])) 0x000a ≡ binding.Present 0xA 2 0 0
plugged_again = refl

-- ---- waiting

-- every handle is bound but 0x0009, which is gone
abbrev full : Ioc
full = with_binding (record (operational 1) { bindings = replicate 64 (binding.Present 0xB 1 0 0) }) 0x0009 (binding.Gone 0xA)

abbrev two_wait : Ioc
two_wait = hears_all full (back.Plugged 0xC 1 0 1 ∷ back.Plugged 0xD 1 0 2 ∷ back.Plugged 0xC 1 0 1 ∷ [])

waiting : map (λ disk. disk.address) two_wait.waiting ≡ 0xC ∷ 0xD ∷ []
waiting = refl

waits_silently : seen two_wait 0 ≡ []
waits_silently = refl

waits_no_more : map (λ disk. disk.address) (hears_all two_wait (back.Unplugged 0xC 1 0 1 ∷ [])).waiting ≡ 0xD ∷ []
waits_no_more = refl

-- remove device: the handle is free, and the disk that waits longest is given it
abbrev given_again : Ioc
given_again = takes_all two_wait (default_post 265 (ask.Remove 0x0009) ∷ [])

told : (steps_normal given_again).told ≡ entry.Unbind 0x0009 ∷ entry.Bind 0x0009 0xC 1 ∷ []
unfolding field unit_control_layout unit_control_values
told = refl

-- the event follows the reply
reply_first : seen (normal given_again) 0 ≡ (265 ∷ 0x1b ∷ 0x0000 ∷ []) ∷ (0 ∷ 0x07 ∷ 0x0000 ∷ []) ∷ []
unfolding field unit_control_layout unit_control_values unit_control_reply_layout unit_control_reply_values event_reply_layout event_reply_values topology_layout topology_values topology_entry_layout topology_entry_values
reply_first = refl

given : binding_of (normal given_again) 0x0009 ≡ binding.Present 0xC 1 0 1
unfolding field unit_control_layout unit_control_values
given = refl

one_waits : map (λ disk. disk.address) (normal given_again).waiting ≡ 0xD ∷ []
unfolding field unit_control_layout unit_control_values
one_waits = refl
