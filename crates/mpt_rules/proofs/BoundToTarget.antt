-- The fact at the heart of the law, and two easy cases that keep it: a SCSI IO that isn't processed yet has a handle
-- that is bound to the plug for which its submission was accepted.
use Rattle.std.proofs.Common.{◌≡◌, ℕ, List, [], ◌∷◌, Option, Some, refl, subst}
use Rattle.std.specs.List.{Contains}
use Rattle.std.specs.FinMap as finmap
use Rattle.mpi_rings.specs.declared.request_descriptor.PostKind.TheVariants as post
use Rattle.mpt_trace.specs.declared.choice.Choice.TheVariants as choice
use Rattle.mpt_trace.specs.declared.entry.Entry.{Entry}
use Rattle.mpt_trace.specs.declared.item.Back.{Back}
use Rattle.mpt_trace.specs.declared.item.Down.{Down}
use Rattle.mpt_trace.specs.declared.item.Down.TheVariants as down
use Rattle.mpt_wire.specs.Walks.Ahead.{state_ahead}
use Rattle.mpt_wire.specs.Handles.Bindings.{Plug, bound_next}
use Rattle.mpt_wire.specs.Messages.Fields.{handle_in, kind_in, smid_in}
use Rattle.mpt_wire.specs.Machine.State.{OpenRequest}
use Rattle.mpt_wire.specs.Walks.Passes.{state_after}
use Rattle.mpt_wire.specs.Machine.View.{Seen, seen_next}
use Rattle.mpt_rules.specs.declared.post.Post.{Post}
use Rattle.mpt_rules.specs.World.Cases.{Case, Chosen, entries, happens, moves_or_idles}
use Rattle.mpt_rules.specs.Fabric.Calls.{says_first}
use Rattle.mpt_rules.specs.World.Lines.{normal_line}
use Rattle.mpt_rules.specs.World.Moves.{fabric_says, host_puts}
use Rattle.mpt_rules.specs.World.State.{World}
use Rattle.mpt_rules.proofs.PutsKeepLines.{host_puts-normal_line}

abbrev pub BoundToTarget : Seen → (ℕ → Option Plug) → World → Type 0
BoundToTarget g bound w =
    (p : Post) (n : ℕ) (r : OpenRequest) → Contains (normal_line w) p → kind_in p.descriptor ≡ Some post.ScsiIo
    → g.so_far.number_of (smid_in p.descriptor) ≡ Some n → finmap.get g.machine.requests n ≡ Some r
    → bound (handle_in p.descriptor) ≡ Some (record { address = r.address; number = r.plug })

-- the case keeps it, whatever comes later
abbrev pub KeepsTarget : Case → Type 0
KeepsTarget c =
    (g : Seen) (bound : ℕ → Option Plug) (w : World) (later : List Entry) → BoundToTarget g bound w
    → BoundToTarget (state_ahead seen_next g (entries w c) later) (state_after bound_next bound (entries w c)) (happens w c)

pub host_put_keeps_target : KeepsTarget (Chosen choice.HostPut)
host_put_keeps_target g bound w later h = by_outbox w.host.out refl
  where
    by_outbox : (xs : List Down) → w.host.out ≡ xs
        → BoundToTarget (state_ahead seen_next g (moves_or_idles w choice.HostPut (host_puts w xs)).entries later)
        (state_after bound_next bound (moves_or_idles w choice.HostPut (host_puts w xs)).entries) (moves_or_idles w choice.HostPut (host_puts w xs)).part
    by_outbox [] e = h
    by_outbox (down.Write reg value ∷ rest) e = λ p n r c. h p n r (subst (λ line. Contains line p) (host_puts-normal_line w _ e) c)
    by_outbox (down.Read reg ∷ rest) e = λ p n r c. h p n r (subst (λ line. Contains line p) (host_puts-normal_line w _ e) c)
    by_outbox (down.Post descriptor frame payload ∷ rest) e = λ p n r c. h p n r (subst (λ line. Contains line p) (host_puts-normal_line w _ e) c)
    by_outbox (down.Return address index ∷ rest) e = λ p n r c. h p n r (subst (λ line. Contains line p) (host_puts-normal_line w _ e) c)
    by_outbox (down.Stop ∷ rest) e = λ p n r c. h p n r (subst (λ line. Contains line p) (host_puts-normal_line w _ e) c)

pub fabric_say_keeps_target : KeepsTarget (Chosen choice.FabricSay)
fabric_say_keeps_target g bound w later h = by_notices w.fabric.notices
  where
    by_notices : (xs : List Back)
        → BoundToTarget (state_ahead seen_next g (moves_or_idles w choice.FabricSay (fabric_says w (says_first xs w.fabric))).entries later)
        (state_after bound_next bound (moves_or_idles w choice.FabricSay (fabric_says w (says_first xs w.fabric))).entries)
        (moves_or_idles w choice.FabricSay (fabric_says w (says_first xs w.fabric))).part
    by_notices [] = h
    by_notices (notice ∷ rest) = h
