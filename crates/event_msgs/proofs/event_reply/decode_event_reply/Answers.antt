use Rattle.std.proofs.Common.{◌≡◌, ◌-◌, ◌*◌, ◌<◌, ◌≤◌, IsTrue, length, take, drop, Ok, Some, ap, subst, arith}
use Rattle.std.proofs.lemmas.List.{length-take, length-drop}
use Rattle.std.proofs.lemmas.Result.{err_from_is_err_and}
use Rattle.mpi_layout.specs.Rows.{field}
use Rattle.mpi_layout.proofs.Moves.{read_fits, read_stands}
use Rattle.event_msgs.specs.Topology.{topology_refusal}
use Rattle.event_msgs.specs.EventData.{DataStands, data_fit}
use Rattle.event_msgs.specs.EventReply.{event_reply_layout, event_reply_values}
use Rattle.event_msgs.proofs.EventBytes.{EventReplyStands-same, not_refused, passes, refused_data, refused_short, too_short, with_data, words-range}
use Rattle.event_msgs.proofs.event_reply.decode_event_reply.Goals as goal

pub returns-then-bytes-need-clause-read : goal.returns-then-bytes-need-clause-read
returns-then-bytes-need-clause-read c =
    let stands = read_stands event_reply_layout c.layout.result c.args.bytes.now c.in_ok-values.values (event_reply_values c.from_values-m.result) c.layout.ensures c.in_ok-values.ensures.exact c.in_ok-values.ensures.fitting c.from_values-m.ensures in
    let refused = refused_short c.from_values-m.result c.args.bytes.now stands (subst (λ n. length c.args.bytes.now < n) c.length-need.ensures c.if-bytes-need.true) in
    rw c.length-need.ensures refused

pub returns-then-bytes-need-clause-only : goal.returns-then-bytes-need-clause-only
returns-then-bytes-need-clause-only c =
    let stands = read_stands event_reply_layout c.layout.result c.args.bytes.now c.in_ok-values.values (event_reply_values c.from_values-m.result) c.layout.ensures c.in_ok-values.ensures.exact c.in_ok-values.ensures.fitting c.from_values-m.ensures in
    λ m other. absurd (too_short c.from_values-m.result m c.args.bytes.now stands (subst (λ n. length c.args.bytes.now < n) c.length-need.ensures c.if-bytes-need.true) other)

pub read_data-requires-clause-few : goal.read_data-requires-clause-few
read_data-requires-clause-few c =
    let fits = read_fits event_reply_layout c.layout.result c.args.bytes.now c.in_ok-values.values (event_reply_values c.from_values-m.result) c.layout.ensures c.in_ok-values.ensures.exact c.in_ok-values.ensures.fitting c.from_values-m.ensures in
    words-range c.from_values-m.result fits

pub returns-in_err-m-clause-read : goal.returns-in_err-m-clause-read
returns-in_err-m-clause-read c =
    let stands = read_stands event_reply_layout c.layout.result c.args.bytes.now c.in_ok-values.values (event_reply_values c.from_values-m.result) c.layout.ensures c.in_ok-values.ensures.exact c.in_ok-values.ensures.fitting c.from_values-m.ensures in
    let count : c.length-need.result - 28 ≡ 4 * c.from_values-m.result.event_data_length = omega (arith, c.length-need.ensures) in
    let refused = subst (λ n. topology_refusal c.from_values-m.result.event_data_length (field (take n (drop 28 c.args.bytes.now)) 8 1) ≡ Some c.in_err-m.field-0.0) count c.in_err-m.ensures.read.1 in
    let whole = subst (λ n. n ≤ length c.args.bytes.now) c.length-need.ensures c.if-bytes-need.false in
    let p = err_from_is_err_and c.from_residual-in_err-m.result c.from_residual-in_err-m.ensures.1 in
    rw (p.1, p.2) (refused_data c.from_values-m.result c.args.bytes.now c.in_err-m.field-0.0 stands whole c.in_err-m.ensures.read.0 refused)

pub returns-in_err-m-clause-only : goal.returns-in_err-m-clause-only
returns-in_err-m-clause-only c =
    let stands = read_stands event_reply_layout c.layout.result c.args.bytes.now c.in_ok-values.values (event_reply_values c.from_values-m.result) c.layout.ensures c.in_ok-values.ensures.exact c.in_ok-values.ensures.fitting c.from_values-m.ensures in
    let count : c.length-need.result - 28 ≡ 4 * c.from_values-m.result.event_data_length = omega (arith, c.length-need.ensures) in
    let refused = subst (λ n. topology_refusal c.from_values-m.result.event_data_length (field (take n (drop 28 c.args.bytes.now)) 8 1) ≡ Some c.in_err-m.field-0.0) count c.in_err-m.ensures.read.1 in
    let whole = subst (λ n. n ≤ length c.args.bytes.now) c.length-need.ensures c.if-bytes-need.false in
    λ m other. absurd (not_refused c.from_values-m.result m c.args.bytes.now c.in_err-m.field-0.0 stands whole c.in_err-m.ensures.read.0 refused other)

pub returns-clause-read : goal.returns-clause-read
returns-clause-read c =
    let stands = read_stands event_reply_layout c.layout.result c.args.bytes.now c.in_ok-values.values (event_reply_values c.from_values-m.result) c.layout.ensures c.in_ok-values.ensures.exact c.in_ok-values.ensures.fitting c.from_values-m.ensures in
    let count : c.length-need.result - 28 ≡ 4 * c.from_values-m.result.event_data_length = omega (arith, c.length-need.ensures) in
    let is = subst (λ n. DataStands c.in_ok-m.field-0 (take n (drop 28 c.args.bytes.now))) count c.in_ok-m.ensures.read.1 in
    let whole = subst (λ n. n ≤ length c.args.bytes.now) c.length-need.ensures c.if-bytes-need.false in
    with_data c.from_values-m.result c.in_ok-m.field-0 c.args.bytes.now stands whole c.in_ok-m.ensures.read.0 is

pub returns-clause-only : goal.returns-clause-only
returns-clause-only c =
    let stands = returns-clause-read c in
    λ m other. ap Ok (EventReplyStands-same _ m c.args.bytes.now stands other)

pub returns-clause-fitting : goal.returns-clause-fitting
unfolding event_reply_values
returns-clause-fitting c =
    let fits = read_fits event_reply_layout c.layout.result c.args.bytes.now c.in_ok-values.values (event_reply_values c.from_values-m.result) c.layout.ensures c.in_ok-values.ensures.exact c.in_ok-values.ensures.fitting c.from_values-m.ensures in
    let size : length (take (c.length-need.result - 28) (drop 28 c.args.bytes.now)) ≡ 4 * c.from_values-m.result.event_data_length = simp (length-take, length-drop) (omega (arith, c.length-need.ensures)) in
    let data_fits = subst (λ n. IsTrue (data_fit n c.in_ok-m.field-0)) size c.in_ok-m.ensures.fitting in
    passes _ (record { rows = fits; kind = c.in_ok-m.ensures.read.0; event_data = data_fits })
