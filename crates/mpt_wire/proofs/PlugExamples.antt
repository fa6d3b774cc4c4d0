-- Traces that serve plugged disks, and ones that don't.
use Rattle.std.proofs.Common.{[], ◌∷◌, Some, refl, ap}
use Rattle.mpt_trace.specs.declared.item.Up.TheVariants as up
use Rattle.mpt_trace.specs.declared.item.Back.TheVariants as back
use Rattle.mpt_trace.specs.declared.entry.Entry.TheVariants as entry
use Rattle.mpt_wire.specs.Walks.Passes.{Passes}
use Rattle.mpt_wire.specs.Handles.Bindings.{least_unbound_from}
use Rattle.mpt_wire.specs.Handles.Plugs.{ServedAsks, ServesPlugs, Serving, nothing_bound, served_next}
use Rattle.mpt_wire.proofs.HandleExamples.{address, apart, is_added, plugged, puts_back, puts_up, takes_back, unplugged}

-- ---- plugs

-- a plug is bound at once
bound_at_once : ServesPlugs (takes_back (plugged 1) ∷ entry.Bind 9 address 1 ∷ puts_up (is_added 9) ∷ [])
unfolding least_unbound_from
bound_at_once = record { passes = (tt, ((refl, refl), (tt, tt))); ended = refl }

-- not to a handle that isn't the least
not_the_least : ServesPlugs (takes_back (plugged 1) ∷ entry.Bind 10 address 1 ∷ []) → ⊥
unfolding least_unbound_from
not_the_least s = let wrong = s.passes.1.0.0 in cc

-- not another plug
another_plug : ServesPlugs (takes_back (plugged 1) ∷ entry.Bind 9 address 2 ∷ []) → ⊥
unfolding least_unbound_from
another_plug s = apart 1 2 refl (ap (λ p. p.number) s.passes.1.0.1)

-- not later
not_served : ServesPlugs (takes_back (plugged 1) ∷ puts_up up.Calm ∷ []) → ⊥
unfolding least_unbound_from
not_served s = s.passes.1.0

-- not never
never_served : ServesPlugs (puts_back (plugged 1) ∷ takes_back (plugged 1) ∷ []) → ⊥
unfolding least_unbound_from
never_served s = let wrong = s.ended in cc

-- a plug that is taken between a reset and its link is dropped
dropped : ServesPlugs (entry.UnbindAll ∷ takes_back (plugged 1) ∷ takes_back (back.Linked 1) ∷ takes_back (plugged 2) ∷ entry.Bind 9 address 2 ∷ [])
unfolding least_unbound_from
dropped = record { passes = (tt, (tt, (tt, (tt, ((refl, refl), tt))))); ended = refl }

-- a controller that serves it breaks the rule
served_in_reset : ServesPlugs (entry.UnbindAll ∷ takes_back (plugged 1) ∷ entry.Bind 9 address 1 ∷ []) → ⊥
unfolding least_unbound_from
served_in_reset s = s.passes.1.1.0

-- all handles are bound
abbrev all_bound : Serving
all_bound = record nothing_bound { bound = λ h. Some (record { address = h; number = 1 }) }

-- a plug waits, and gets the handle that is freed
waits : Passes served_next ServedAsks all_bound (takes_back (plugged 1) ∷ puts_up up.Calm ∷ entry.Unbind 9 ∷ entry.Bind 9 address 1 ∷ [])
unfolding least_unbound_from
waits = (tt, (tt, (tt, ((refl, refl), tt))))

-- not so the one that has waited less
overtaken : Passes served_next ServedAsks all_bound (takes_back (plugged 1) ∷ takes_back (back.Plugged 7 1 0 1) ∷ entry.Unbind 9 ∷ entry.Bind 9 7 1 ∷ []) → ⊥
unfolding least_unbound_from
overtaken p = apart address 7 refl (ap (λ q. q.address) p.1.1.1.0.1)

-- nor one that was unplugged
unplugged_meanwhile : Passes served_next ServedAsks all_bound (takes_back (plugged 1) ∷ takes_back (unplugged 1) ∷ entry.Unbind 9 ∷ entry.Bind 9 address 1 ∷ []) → ⊥
unfolding least_unbound_from
unplugged_meanwhile p = p.1.1.1.0

-- nor one that a reset drops
reset_meanwhile : Passes served_next ServedAsks all_bound (takes_back (plugged 1) ∷ entry.UnbindAll ∷ entry.Bind 9 address 1 ∷ []) → ⊥
unfolding least_unbound_from
reset_meanwhile p = p.1.1.0

-- a controller that does something else between
given_late : Passes served_next ServedAsks all_bound (takes_back (plugged 1) ∷ entry.Unbind 9 ∷ puts_up up.Calm ∷ entry.Bind 9 address 1 ∷ []) → ⊥
unfolding least_unbound_from
given_late p = p.1.1.0

-- entries of the host may stand between
host_between : Passes served_next ServedAsks all_bound (takes_back (plugged 1) ∷ entry.Unbind 9 ∷ entry.HostUp ∷ entry.Bind 9 address 1 ∷ [])
unfolding least_unbound_from
host_between = (tt, (tt, (tt, ((refl, refl), tt))))
