-- The length and the tail of a SCSI IO reply.
use Rattle.std.proofs.Common.{◌≡◌, ℕ, zero, suc, ◌+◌, ◌-◌, ◌*◌, ◌<◌, ◌≤◌, Bool, true, false, IsTrue, ◌&&◌, eqb, nat_le, List, [], ◌∷◌, ◌++◌, length, take, drop, get_or, replicate, Some, None, refl, ap, subst, sym, ◌∙◌, arith}
use Rattle.std.specs.List.{list_all}
use Rattle.std.proofs.lemmas.Bool.Decides.{nat_tests}
use Rattle.std.proofs.lemmas.List.{take-append-drop, drop-drop, drop_at, length-take, length-drop, length-append}
use Rattle.std.proofs.lemmas.Slice.{take-put_mid_below, between-put_mid, drop-put_mid}
use borrow.Rule.Slice.PartMut.{put_mid}
use Rattle.mpi_layout.specs.Rows.{RowShape, Shape, Stands, IsTiled, field, fields, tiles, obeys, values_fit}
use Rattle.mpi_layout.specs.declared.fault.Fault.TheVariants.{Short}
use Rattle.mpi_layout.specs.Tail.{padded}
use Rattle.mpi_layout.proofs.Behind.{Stands-front, fits_at}
use Rattle.mpi_layout.proofs.Tails.{both, joined, padded_tail, zeros-pass}
use Rattle.mpi_layout.proofs.Writing.{drop_further}
use Rattle.mpi_layout.proofs.Moves.{Stands-no_fault, Stands-same}
use Rattle.scsi_msgs.specs.declared.scsi_reply.ScsiReply.{ScsiReply}
use Rattle.scsi_msgs.specs.ScsiReply.{ScsiReplyStands, scsi_reply_fit, scsi_reply_layout, scsi_reply_length, scsi_reply_refusal, scsi_reply_values}
use Rattle.scsi_msgs.proofs.ScsiReplyFields.{scsi_reply_values-injective}

-- the MsgLength of a reply that fits
pub msg_length-range : (m : ScsiReply) → IsTrue (values_fit scsi_reply_layout.rows (scsi_reply_values m)) → (10 ≤ m.msg_length) × (m.msg_length ≤ 32)
unfolding scsi_reply_layout scsi_reply_values
msg_length-range m fit =
    let allowed : (nat_le 10 m.msg_length && nat_le m.msg_length 32) ≡ true = fits_at (scsi_reply_layout).rows (scsi_reply_values m) 1 (record { name = []; at = 0; width = 0; rule = Rattle.mpi_layout.specs.declared.row.Rule.TheVariants.Any; form = Rattle.mpi_layout.specs.declared.row.Form.TheVariants.Number }) fit (omega arith) (omega arith) in
    grind (arith, nat_tests)

-- the MsgLength in bytes that stand for the reply
pub msg_length-read : (m : ScsiReply) (bytes : List ℕ) → Stands scsi_reply_layout (scsi_reply_values m) bytes → field bytes 0x02 1 ≡ m.msg_length
unfolding scsi_reply_layout scsi_reply_values
msg_length-read m bytes stands = ap (λ xs. get_or xs 1 0) stands.numbers

-- replies with the same numbers have the same MsgLength
msg_length-same : (m n : ScsiReply) → scsi_reply_values m ≡ scsi_reply_values n → m.msg_length ≡ n.msg_length
unfolding scsi_reply_values
msg_length-same m n e = ap (λ xs. get_or xs 1 0) e

-- bytes that are too few for the MsgLength
pub refused_short : (m : ScsiReply) (bytes : List ℕ) → Stands scsi_reply_layout (scsi_reply_values m) bytes → length bytes < scsi_reply_length m → scsi_reply_refusal bytes ≡ Some (Short (scsi_reply_length m) (length bytes))
refused_short m bytes stands less =
    let none = Stands-no_fault scsi_reply_layout (scsi_reply_values m) bytes stands in
    let read = msg_length-read m bytes stands in
    rw (none, read) (grind (arith, nat_tests))

pub too_short : (m other : ScsiReply) (bytes : List ℕ) → Stands scsi_reply_layout (scsi_reply_values m) bytes → length bytes < scsi_reply_length m → ScsiReplyStands other bytes → ⊥
too_short m other bytes stands less whole =
    let one = msg_length-read m bytes stands in
    let two = msg_length-read other bytes whole.fixed in
    let enough = whole.whole in
    omega arith

-- bytes that stand for a reply aren't refused
pub ScsiReplyStands-not_refused : (m : ScsiReply) (bytes : List ℕ) → ScsiReplyStands m bytes → scsi_reply_refusal bytes ≡ None
ScsiReplyStands-not_refused m bytes stands =
    let none = Stands-no_fault scsi_reply_layout (scsi_reply_values m) bytes stands.fixed in
    let read = msg_length-read m bytes stands.fixed in
    let whole = stands.whole in
    rw (none, read) (grind (arith, nat_tests))

-- the bytes stand for one reply alone
pub ScsiReplyStands-same : (m n : ScsiReply) (bytes : List ℕ) → ScsiReplyStands m bytes → ScsiReplyStands n bytes → m ≡ n
ScsiReplyStands-same m n bytes one other =
    let numbers = Stands-same scsi_reply_layout (scsi_reply_values m) (scsi_reply_values n) bytes one.fixed other.fixed in
    let long = msg_length-same m n numbers in
    scsi_reply_values-injective m n numbers (one.tail ∙ ap (λ k. padded 88 (take (4 * k - 40) (drop 40 bytes))) long ∙ sym other.tail)

-- the fixed part with a tail
pub with_tail : (m : ScsiReply) (tail bytes : List ℕ) → Stands scsi_reply_layout (scsi_reply_values m) bytes → scsi_reply_length m ≤ length bytes → tail ≡ padded 88 (take (scsi_reply_length m - 40) (drop 40 bytes)) → ScsiReplyStands (record m { tail = tail }) bytes
unfolding scsi_reply_values
with_tail m tail bytes stands whole is = record { fixed = stands; whole = whole; tail = is }

pub fit_parts : (m : ScsiReply) → IsTrue (scsi_reply_fit m) → IsTrue (values_fit scsi_reply_layout.rows (scsi_reply_values m)) × (list_all (λ byte. eqb byte 0) (drop (scsi_reply_length m - 40) m.tail) ≡ true)
fit_parts m h = both (values_fit scsi_reply_layout.rows (scsi_reply_values m)) (list_all (λ byte. eqb byte 0) (drop (scsi_reply_length m - 40) m.tail)) h

-- a reply that bytes stand for fits
pub stands_fit : (m : ScsiReply) (bytes : List ℕ) → IsTrue (values_fit scsi_reply_layout.rows (scsi_reply_values m)) → ScsiReplyStands m bytes → IsTrue (scsi_reply_fit m)
stands_fit m bytes fit stands =
    let n : ℕ = scsi_reply_length m - 40 in
    let range = msg_length-range m fit in
    let whole = stands.whole in
    let front : length (take n (drop 40 bytes)) ≡ n = simp (length-take, length-drop) (omega arith) in
    let past : drop n m.tail ≡ replicate (88 - length (take n (drop 40 bytes))) 0 = ap (drop n) stands.tail ∙ drop_at (take n (drop 40 bytes)) (replicate (88 - length (take n (drop 40 bytes))) 0) n front in
    let zero_past : list_all (λ byte. eqb byte 0) (drop n m.tail) ≡ true = ap (list_all (λ byte. eqb byte 0)) past ∙ zeros-pass (88 - length (take n (drop 40 bytes))) in
    joined (values_fit scsi_reply_layout.rows (scsi_reply_values m)) (list_all (λ byte. eqb byte 0) (drop n m.tail)) fit zero_past

-- the layout's rows cover its bytes
tiled : IsTiled scsi_reply_layout
unfolding scsi_reply_layout
tiled = refl

pub fixed_length : (scsi_reply_layout).length ≡ 40
unfolding scsi_reply_layout
fixed_length = refl

-- the fixed part and then the tail are written
pub written : (m : ScsiReply) (before bytes : List ℕ) → IsTrue (scsi_reply_fit m) → length m.tail ≡ 88 → Stands scsi_reply_layout (scsi_reply_values m) before → scsi_reply_length m ≤ length before → bytes ≡ take (scsi_reply_length m - 40) m.tail → ScsiReplyStands m (put_mid 40 (scsi_reply_length m - 40) before bytes)
written m before bytes fit long stands room is =
    let n : ℕ = scsi_reply_length m - 40 in
    let parts = fit_parts m fit in
    let range = msg_length-range m parts.0 in
    let wide : length bytes ≡ n = ap length is ∙ simp length-take (omega arith) in
    let new : List ℕ = put_mid 40 n before bytes in
    let kept : take 40 new ≡ take 40 before = take-put_mid_below 40 n before bytes 40 (omega arith) (omega arith) in
    let tail : take n (drop 40 new) ≡ take n m.tail = between-put_mid 40 n before bytes (scsi_reply_length m) (omega arith) wide ∙ is in
    let count : scsi_reply_length m ≤ length new = simp (length-append, length-take, length-drop) (omega arith) in
    record {
      fixed = Stands-front scsi_reply_layout (scsi_reply_values m) before new tiled parts.0 stands (rw fixed_length (omega arith)) (rw fixed_length (sym kept));
      whole = count;
      tail = padded_tail n 88 m.tail long (omega arith) parts.1 ∙ ap (padded 88) (sym tail);
    }

-- the bytes past the reply stay
pub written_rest : (m : ScsiReply) (old before bytes : List ℕ) → 10 ≤ m.msg_length → length bytes ≡ scsi_reply_length m - 40 → scsi_reply_length m ≤ length before → drop scsi_reply_layout.length before ≡ drop scsi_reply_layout.length old → drop (scsi_reply_length m) (put_mid 40 (scsi_reply_length m - 40) before bytes) ≡ drop (scsi_reply_length m) old
written_rest m old before bytes least wide room same =
    let n : ℕ = scsi_reply_length m - 40 in
    let past : drop (scsi_reply_length m) (put_mid 40 n before bytes) ≡ drop (scsi_reply_length m) before = drop-put_mid 40 n before bytes (scsi_reply_length m) (omega arith) (omega arith) wide in
    let further = drop_further before old 40 (scsi_reply_length m) (omega arith) (subst (λ k. drop k before ≡ drop k old) fixed_length same) in
    past ∙ further
