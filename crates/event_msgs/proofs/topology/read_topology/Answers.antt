use Rattle.std.proofs.Common.{◌≡◌, ◌+◌, ◌-◌, ◌*◌, ◌≤◌, ◌++◌, ◌∙◌, map, replicate, length, drop, ap, subst, arith}
use Rattle.std.specs.List.{range_with_len}
use Rattle.std.proofs.lemmas.List.{take_rest}
use Rattle.mpi_layout.proofs.Moves.{read_fits, read_stands}
use Rattle.mpi_layout.specs.Tail.{padded}
use Rattle.event_msgs.specs.TopologyEntry.{blank, entry_at}
use Rattle.event_msgs.specs.Topology.{topology_end, topology_layout, topology_values}
use Rattle.event_msgs.proofs.Entries.{never_refused}
use Rattle.event_msgs.proofs.TopologyFields.{topology_no_fault}
use Rattle.event_msgs.proofs.TopologyList.{refused_entries, stands_fits, with_entries}
use Rattle.event_msgs.proofs.topology.read_topology.Goals as goal

pub returns-in_err-values-clause-read : goal.returns-in_err-values-clause-read
returns-in_err-values-clause-read c =
    absurd (never_refused topology_layout c.layout.result c.args.bytes.now c.in_err-values.field-0.0 c.layout.ensures (topology_no_fault c.args.bytes.now (omega arith)) c.in_err-values.ensures.exact)

pub returns-then-from-words-clause-read : goal.returns-then-from-words-clause-read
returns-then-from-words-clause-read c =
    let stands = read_stands topology_layout c.layout.result c.args.bytes.now c.in_ok-values.values (topology_values c.from_values-t.result) c.layout.ensures c.in_ok-values.ensures.exact c.in_ok-values.ensures.fitting c.from_values-t.ensures in
    refused_entries c.from_values-t.result c.args.words c.args.bytes.now stands (omega arith) (omega (arith, c.from.ensures))

pub returns-clause-read : goal.returns-clause-read
returns-clause-read c =
    let stands = read_stands topology_layout c.layout.result c.args.bytes.now c.in_ok-values.values (topology_values c.from_values-t.result) c.layout.ensures c.in_ok-values.ensures.exact c.in_ok-values.ensures.fitting c.from_values-t.ensures in
    let whole : topology_end c.from_values-t.result ≤ length c.args.bytes.now = omega (arith, c.from.ensures) in
    let read : c.in_ok-t.field-0 ≡ map (λ i. entry_at c.args.bytes.now (12 + 4 * i)) (range_with_len 0 c.from-2.result) ++ replicate (22 - c.from-2.result) blank = (let e = c.in_ok-t.ensures in cc) in
    let listed = subst (λ n. c.in_ok-t.field-0 ≡ map (λ i. entry_at c.args.bytes.now (12 + 4 * i)) (range_with_len 0 n) ++ replicate (22 - n) blank) c.from-2.ensures read in
    let tail : c.padded-t.result ≡ padded 88 (drop (topology_end c.from_values-t.result) c.args.bytes.now) = c.padded-t.ensures ∙ ap (padded 88) (take_rest c.args.bytes.now c.end.result) ∙ ap (λ n. padded 88 (drop n c.args.bytes.now)) c.end.ensures in
    with_entries c.from_values-t.result c.in_ok-t.field-0 c.padded-t.result c.args.bytes.now stands whole listed tail

pub returns-clause-fitting : goal.returns-clause-fitting
unfolding topology_values
returns-clause-fitting c =
    let fits = read_fits topology_layout c.layout.result c.args.bytes.now c.in_ok-values.values (topology_values c.from_values-t.result) c.layout.ensures c.in_ok-values.ensures.exact c.in_ok-values.ensures.fitting c.from_values-t.ensures in
    stands_fits _ c.args.bytes.now fits (omega arith) (returns-clause-read c)
