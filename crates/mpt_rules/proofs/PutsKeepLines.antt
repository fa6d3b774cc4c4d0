-- A put moves an outbox's front to its lane's end, and so leaves each line as it is.
use Rattle.std.proofs.Common.{◌≡◌, List, [], ◌∷◌, ◌++◌, refl, ap, ◌∙◌, append_assoc, slice_get}
use Rattle.mpt_trace.specs.declared.choice.Choice.TheVariants as choice
use Rattle.mpt_trace.specs.declared.item.Down.{Down}
use Rattle.mpt_trace.specs.declared.item.Down.TheVariants as down
use Rattle.mpt_trace.specs.declared.item.Out.{Out}
use Rattle.mpt_trace.specs.declared.item.Back.{Back}
use Rattle.mpt_rules.specs.Host.Parts.{Host}
use Rattle.mpt_rules.specs.Host.Returns.{after_sent}
use Rattle.mpt_rules.specs.World.State.{World}
use Rattle.mpt_rules.specs.World.Cases.{happens, Chosen, moves_or_idles}
use Rattle.mpt_rules.specs.World.Moves.{host_puts, ioc_puts_out, fabric_puts}
use Rattle.mpt_rules.specs.World.Lines.{down_line, out_line, back_line, high_line, normal_line, high_posts, normal_posts}

-- what is left in the host's outbox
sends-out : (host : Host) (item : Down) (rest : List Down) → (after_sent host item rest).out ≡ rest
sends-out host (down.Return address index) rest = refl
sends-out host (down.Write reg value) rest = refl
sends-out host (down.Read reg) rest = refl
sends-out host (down.Post descriptor frame payload) rest = refl
sends-out host down.Stop rest = refl

host_puts-line : (w : World) (xs : List Down) → w.host.out ≡ xs → down_line (moves_or_idles w choice.HostPut (host_puts w xs)).part ≡ down_line w
host_puts-line w [] e = refl
host_puts-line w (x ∷ rest) e =
    rw e (ap (λ ys. (w.down ++ x ∷ []) ++ ys) (sends-out w.host x rest) ∙ append_assoc w.down (x ∷ []) rest)

pub host_put_keeps_down_line : (w : World) → down_line (happens w (Chosen choice.HostPut)) ≡ down_line w
host_put_keeps_down_line w = host_puts-line w w.host.out refl

-- the queues' lines have the posts of the down line
host_puts-ioc : (w : World) (xs : List Down) → (moves_or_idles w choice.HostPut (host_puts w xs)).part.ioc ≡ w.ioc
host_puts-ioc w [] = refl
host_puts-ioc w (x ∷ rest) = refl

pub host_puts-high_line : (w : World) (xs : List Down) → w.host.out ≡ xs → high_line (moves_or_idles w choice.HostPut (host_puts w xs)).part ≡ high_line w
host_puts-high_line w xs e =
    ap (λ i. i.high ++ high_posts (down_line (moves_or_idles w choice.HostPut (host_puts w xs)).part)) (host_puts-ioc w xs)
    ∙ ap (λ ys. w.ioc.high ++ high_posts ys) (host_puts-line w xs e)

pub host_put_keeps_high_line : (w : World) → high_line (happens w (Chosen choice.HostPut)) ≡ high_line w
host_put_keeps_high_line w = host_puts-high_line w w.host.out refl

pub host_puts-normal_line : (w : World) (xs : List Down) → w.host.out ≡ xs → normal_line (moves_or_idles w choice.HostPut (host_puts w xs)).part ≡ normal_line w
host_puts-normal_line w xs e =
    ap (λ i. i.normal ++ normal_posts (down_line (moves_or_idles w choice.HostPut (host_puts w xs)).part)) (host_puts-ioc w xs)
    ∙ ap (λ ys. w.ioc.normal ++ normal_posts ys) (host_puts-line w xs e)

pub host_put_keeps_normal_line : (w : World) → normal_line (happens w (Chosen choice.HostPut)) ≡ normal_line w
host_put_keeps_normal_line w = host_puts-normal_line w w.host.out refl

ioc_puts_out-line : (w : World) (xs : List Out) → w.ioc.out ≡ xs → out_line (moves_or_idles w choice.IocOut (ioc_puts_out w (slice_get xs 0))).part ≡ out_line w
ioc_puts_out-line w [] e = refl
ioc_puts_out-line w (x ∷ rest) e = rw e (append_assoc w.out (x ∷ []) rest)

pub ioc_put_keeps_out_line : (w : World) → out_line (happens w (Chosen choice.IocOut)) ≡ out_line w
ioc_put_keeps_out_line w = ioc_puts_out-line w w.ioc.out refl

fabric_puts-line : (w : World) (xs : List Back) → w.fabric.out ≡ xs → back_line (moves_or_idles w choice.FabricPut (fabric_puts w xs)).part ≡ back_line w
fabric_puts-line w [] e = refl
fabric_puts-line w (x ∷ rest) e = rw e (append_assoc w.back (x ∷ []) rest)

pub fabric_put_keeps_back_line : (w : World) → back_line (happens w (Chosen choice.FabricPut)) ≡ back_line w
fabric_put_keeps_back_line w = fabric_puts-line w w.fabric.out refl
