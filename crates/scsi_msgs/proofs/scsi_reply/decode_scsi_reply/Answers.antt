use Rattle.std.proofs.Common.{◌≡◌, ◌-◌, ◌<◌, ◌≤◌, length, take, drop, Ok, ap, subst, arith}
use Rattle.std.proofs.lemmas.List.{length-take}
use Rattle.mpi_layout.proofs.Moves.{read_fits, read_stands}
use Rattle.mpi_layout.specs.Tail.{padded}
use Rattle.scsi_msgs.specs.ScsiReply.{scsi_reply_layout, scsi_reply_values}
use Rattle.scsi_msgs.proofs.ScsiReplyTail.{ScsiReplyStands-same, msg_length-range, refused_short, stands_fit, too_short, with_tail}
use Rattle.scsi_msgs.proofs.scsi_reply.decode_scsi_reply.Goals as goal

pub returns-then-bytes-need-clause-read : goal.returns-then-bytes-need-clause-read
returns-then-bytes-need-clause-read c =
    let stands = read_stands scsi_reply_layout c.layout.result c.args.bytes.now c.in_ok-values.values (scsi_reply_values c.from_values-m.result) c.layout.ensures c.in_ok-values.ensures.exact c.in_ok-values.ensures.fitting c.from_values-m.ensures in
    let refused = refused_short c.from_values-m.result c.args.bytes.now stands (subst (λ n. length c.args.bytes.now < n) c.length-need.ensures c.if-bytes-need.true) in
    rw c.length-need.ensures refused

pub returns-then-bytes-need-clause-only : goal.returns-then-bytes-need-clause-only
returns-then-bytes-need-clause-only c =
    let stands = read_stands scsi_reply_layout c.layout.result c.args.bytes.now c.in_ok-values.values (scsi_reply_values c.from_values-m.result) c.layout.ensures c.in_ok-values.ensures.exact c.in_ok-values.ensures.fitting c.from_values-m.ensures in
    λ m other. absurd (too_short c.from_values-m.result m c.args.bytes.now stands (subst (λ n. length c.args.bytes.now < n) c.length-need.ensures c.if-bytes-need.true) other)

pub slice_bounds-padded-count : goal.slice_bounds-padded-count
slice_bounds-padded-count c =
    let fits = read_fits scsi_reply_layout c.layout.result c.args.bytes.now c.in_ok-values.values (scsi_reply_values c.from_values-m.result) c.layout.ensures c.in_ok-values.ensures.exact c.in_ok-values.ensures.fitting c.from_values-m.ensures in
    let range = msg_length-range c.from_values-m.result fits in
    omega (arith, c.length-need.ensures)

pub padded-m-requires : goal.padded-m-requires
padded-m-requires c =
    let fits = read_fits scsi_reply_layout c.layout.result c.args.bytes.now c.in_ok-values.values (scsi_reply_values c.from_values-m.result) c.layout.ensures c.in_ok-values.ensures.exact c.in_ok-values.ensures.fitting c.from_values-m.ensures in
    let range = msg_length-range c.from_values-m.result fits in
    simp length-take (omega (arith, c.length-need.ensures))

pub returns-clause-read : goal.returns-clause-read
returns-clause-read c =
    let stands = read_stands scsi_reply_layout c.layout.result c.args.bytes.now c.in_ok-values.values (scsi_reply_values c.from_values-m.result) c.layout.ensures c.in_ok-values.ensures.exact c.in_ok-values.ensures.fitting c.from_values-m.ensures in
    with_tail c.from_values-m.result c.padded-m.result c.args.bytes.now stands (subst (λ n. n ≤ length c.args.bytes.now) c.length-need.ensures c.if-bytes-need.false) (subst (λ n. c.padded-m.result ≡ padded 88 (take (n - 40) (drop 40 c.args.bytes.now))) c.length-need.ensures c.padded-m.ensures)

pub returns-clause-only : goal.returns-clause-only
returns-clause-only c =
    let stands = returns-clause-read c in
    λ m other. ap Ok (ScsiReplyStands-same _ m c.args.bytes.now stands other)

pub returns-clause-fitting : goal.returns-clause-fitting
unfolding scsi_reply_values
returns-clause-fitting c =
    let fits = read_fits scsi_reply_layout c.layout.result c.args.bytes.now c.in_ok-values.values (scsi_reply_values c.from_values-m.result) c.layout.ensures c.in_ok-values.ensures.exact c.in_ok-values.ensures.fitting c.from_values-m.ensures in
    stands_fit _ c.args.bytes.now fits (returns-clause-read c)

pub slice_bounds-padded-start : goal.slice_bounds-padded-start
slice_bounds-padded-start c =
    let fits = read_fits scsi_reply_layout c.layout.result c.args.bytes.now c.in_ok-values.values (scsi_reply_values c.from_values-m.result) c.layout.ensures c.in_ok-values.ensures.exact c.in_ok-values.ensures.fitting c.from_values-m.ensures in
    let range = msg_length-range c.from_values-m.result fits in
    omega (arith, c.length-need.ensures)
