-- Reading and writing an event and its data.
use Rattle.std.proofs.Common.{◌≡◌, ℕ, ◌+◌, ◌-◌, ◌*◌, ◌<◌, ◌≤◌, Bool, true, false, not, IsTrue, ◌&&◌, eqb, leb, ltb, cond, List, [], length, take, drop, get_or, replicate, Option, Some, None, refl, ap, subst, sym, ◌∙◌, arith}
use Rattle.std.specs.List.{list_all}
use Rattle.std.specs.Option.{option_or}
use Rattle.std.proofs.lemmas.Bool.Decides.{nat_tests}
use Rattle.std.proofs.lemmas.List.{drop_at, take-take, length-take, length-drop, length-append}
use Rattle.std.proofs.lemmas.Slice.{take-put_mid_below, between-put_mid, drop-put_mid}
use borrow.Rule.Slice.PartMut.{put_mid}
use Rattle.mpi_layout.specs.Rows.{RowShape, Stands, IsTiled, field, values_fit, first_fault}
use Rattle.mpi_layout.specs.declared.row.Rule.TheVariants.{Any}
use Rattle.mpi_layout.specs.declared.row.Form.TheVariants.{Number}
use Rattle.mpi_layout.specs.declared.fault.Fault.{Fault}
use Rattle.mpi_layout.specs.declared.fault.Fault.TheVariants.{Short}
use Rattle.mpi_layout.specs.Tail.{cut_short, padded}
use Rattle.mpi_layout.proofs.Behind.{Stands-front, fits_at}
use Rattle.mpi_layout.proofs.Moves.{Stands-no_fault, Stands-same}
use Rattle.mpi_layout.proofs.Tails.{both, joined, zeros-pass}
use Rattle.mpi_layout.proofs.Writing.{drop_further, field_front}
use Rattle.event_msgs.specs.declared.event_data.EventData.{EventData}
use Rattle.event_msgs.specs.declared.event_data.EventData.TheVariants as variant
use Rattle.event_msgs.specs.declared.event_reply.EventReply.{EventReply}
use Rattle.event_msgs.specs.Topology.{topology_refusal}
use Rattle.event_msgs.specs.EventData.{DataStands, data_fit, kind_fits}
use Rattle.event_msgs.specs.EventReply.{EventReplyStands, event_reply_fit, event_reply_layout, event_reply_length, event_reply_refusal, event_reply_values}
use Rattle.event_msgs.proofs.Entries.{field_behind}
use Rattle.event_msgs.proofs.TopologyList.{TopologyStands-same, num_entries-read}
use Rattle.event_msgs.proofs.EventReplyFields.{event_reply_values-injective}

-- the EventDataLength of an event that fits
pub words-range : (m : EventReply) → IsTrue (values_fit event_reply_layout.rows (event_reply_values m)) → m.event_data_length ≤ 25
unfolding event_reply_layout event_reply_values
words-range m fit =
    let none : RowShape = record { name = []; at = 0; width = 0; rule = Any; form = Number } in
    let allowed : (leb 0 m.event_data_length && leb m.event_data_length 25) ≡ true = fits_at (event_reply_layout).rows (event_reply_values m) 0 none fit (omega arith) (omega arith) in
    grind (arith, nat_tests)

-- the EventDataLength and the Event in bytes that stand for the event
pub words-read : (m : EventReply) (bytes : List ℕ) → Stands event_reply_layout (event_reply_values m) bytes → field bytes 0x00 2 ≡ m.event_data_length
unfolding event_reply_layout event_reply_values
words-read m bytes stands = ap (λ xs. get_or xs 0 0) stands.numbers

event-read : (m : EventReply) (bytes : List ℕ) → Stands event_reply_layout (event_reply_values m) bytes → field bytes 0x14 2 ≡ m.event
unfolding event_reply_layout event_reply_values
event-read m bytes stands = ap (λ xs. get_or xs 12 0) stands.numbers

words-same : (m n : EventReply) → event_reply_values m ≡ event_reply_values n → m.event_data_length ≡ n.event_data_length
unfolding event_reply_values
words-same m n e = ap (λ xs. get_or xs 0 0) e

event-same : (m n : EventReply) → event_reply_values m ≡ event_reply_values n → m.event ≡ n.event
unfolding event_reply_values
event-same m n e = ap (λ xs. get_or xs 12 0) e

-- bytes that are too few for the EventDataLength
pub refused_short : (m : EventReply) (bytes : List ℕ) → Stands event_reply_layout (event_reply_values m) bytes → length bytes < event_reply_length m → event_reply_refusal bytes ≡ Some (Short (event_reply_length m) (length bytes))
refused_short m bytes stands less =
    let none = Stands-no_fault event_reply_layout (event_reply_values m) bytes stands in
    let read = words-read m bytes stands in
    let short : cut_short (event_reply_length m) bytes ≡ Some (Short (event_reply_length m) (length bytes)) = grind (arith, nat_tests) in
    ap (λ o. option_or o (option_or (cut_short (28 + 4 * field bytes 0x00 2) bytes) (cond (eqb (field bytes 0x14 2) 0x1c) (topology_refusal (field bytes 0x00 2) (field bytes 0x24 1)) None))) none ∙ ap (λ w. option_or (cut_short (28 + 4 * w) bytes) (cond (eqb (field bytes 0x14 2) 0x1c) (topology_refusal w (field bytes 0x24 1)) None)) read ∙ ap (λ o. option_or o (cond (eqb (field bytes 0x14 2) 0x1c) (topology_refusal m.event_data_length (field bytes 0x24 1)) None)) short

pub too_short : (m other : EventReply) (bytes : List ℕ) → Stands event_reply_layout (event_reply_values m) bytes → length bytes < event_reply_length m → EventReplyStands other bytes → ⊥
too_short m other bytes stands less whole =
    let one = words-read m bytes stands in
    let two = words-read other bytes whole.fixed in
    let enough = whole.whole in
    omega arith

-- NumEntries in the data is NumEntries in the event, where the data have it
refusal_field : (w : ℕ) (bytes : List ℕ) → topology_refusal w (field (take (4 * w) (drop 28 bytes)) 8 1) ≡ topology_refusal w (field bytes 0x24 1)
refusal_field w bytes = split (ltb w 3) refl where
  split : (few : Bool) → ltb w 3 ≡ few → topology_refusal w (field (take (4 * w) (drop 28 bytes)) 8 1) ≡ topology_refusal w (field bytes 0x24 1)
  split true is = rw is refl
  split false is =
      let enough : 9 ≤ 4 * w = grind (arith, nat_tests) in
      let same : field (take (4 * w) (drop 28 bytes)) 8 1 ≡ field bytes 0x24 1 = field_front (take (4 * w) (drop 28 bytes)) (drop 28 bytes) 8 1 9 (omega arith) (take-take 9 (4 * w) (drop 28 bytes) enough) ∙ field_behind bytes 28 8 1 in
      ap (topology_refusal w) same

-- a topology change list that is refused
pub refused_data : (m : EventReply) (bytes : List ℕ) (fault : Fault) → Stands event_reply_layout (event_reply_values m) bytes → event_reply_length m ≤ length bytes → m.event ≡ 0x1c → topology_refusal m.event_data_length (field (take (4 * m.event_data_length) (drop 28 bytes)) 8 1) ≡ Some fault → event_reply_refusal bytes ≡ Some fault
refused_data m bytes fault stands whole event refused =
    let none = Stands-no_fault event_reply_layout (event_reply_values m) bytes stands in
    let read = words-read m bytes stands in
    let kind : eqb (field bytes 0x14 2) 0x1c ≡ true = (let e = event-read m bytes stands in grind (arith, nat_tests)) in
    let long : cut_short (event_reply_length m) bytes ≡ None = grind (arith, nat_tests) in
    ap (λ o. option_or o (option_or (cut_short (28 + 4 * field bytes 0x00 2) bytes) (cond (eqb (field bytes 0x14 2) 0x1c) (topology_refusal (field bytes 0x00 2) (field bytes 0x24 1)) None))) none ∙ ap (λ w. option_or (cut_short (28 + 4 * w) bytes) (cond (eqb (field bytes 0x14 2) 0x1c) (topology_refusal w (field bytes 0x24 1)) None)) read ∙ ap (λ o. option_or o (cond (eqb (field bytes 0x14 2) 0x1c) (topology_refusal m.event_data_length (field bytes 0x24 1)) None)) long ∙ ap (λ b. cond b (topology_refusal m.event_data_length (field bytes 0x24 1)) None) kind ∙ sym (refusal_field m.event_data_length bytes) ∙ refused

-- data that stand for something aren't refused
data-not_refused : (event words : ℕ) (d : EventData) (bytes : List ℕ) (fault : Fault) → length bytes ≡ 4 * words → event ≡ 0x1c → IsTrue (kind_fits event d) → DataStands d bytes → topology_refusal words (field bytes 8 1) ≡ Some fault → ⊥
data-not_refused event words (variant.Topology t) bytes fault long is kind stands refused =
    let read = num_entries-read t bytes stands.rows in
    let whole = stands.whole in
    let passes : topology_refusal words (field bytes 8 1) ≡ None = rw read (grind (arith, nat_tests)) in
    cc
data-not_refused event words (variant.Other kept) bytes fault long is kind stands refused =
    let test : eqb event 0x1c ≡ true = grind (arith, nat_tests) in
    cc

pub not_refused : (m other : EventReply) (bytes : List ℕ) (fault : Fault) → Stands event_reply_layout (event_reply_values m) bytes → event_reply_length m ≤ length bytes → m.event ≡ 0x1c → topology_refusal m.event_data_length (field (take (4 * m.event_data_length) (drop 28 bytes)) 8 1) ≡ Some fault → EventReplyStands other bytes → ⊥
not_refused m other bytes fault stands whole event refused others =
    let numbers = Stands-same event_reply_layout (event_reply_values m) (event_reply_values other) bytes stands others.fixed in
    let words = words-same m other numbers in
    let same = event-same m other numbers in
    let long : length (take (4 * m.event_data_length) (drop 28 bytes)) ≡ 4 * m.event_data_length = simp (length-take, length-drop) (omega arith) in
    data-not_refused m.event m.event_data_length other.event_data (take (4 * m.event_data_length) (drop 28 bytes)) fault long event
    (subst (λ e. IsTrue (kind_fits e other.event_data)) (sym same) others.kind)
    (subst (λ w. DataStands other.event_data (take (4 * w) (drop 28 bytes))) (sym words) others.event_data) refused

opposite : (b : Bool) → IsTrue b → IsTrue (not b) → ⊥
opposite true one other = cc
opposite false one other = cc

-- nor are bytes that stand for an event
pub EventReplyStands-not_refused : (m : EventReply) (bytes : List ℕ) → EventReplyStands m bytes → event_reply_refusal bytes ≡ None
EventReplyStands-not_refused m bytes stands = split (eqb (field bytes 0x14 2) 0x1c) (topology_refusal m.event_data_length (field (take (4 * m.event_data_length) (drop 28 bytes)) 8 1)) refl refl where
  none : first_fault event_reply_layout bytes ≡ None
  none = Stands-no_fault event_reply_layout (event_reply_values m) bytes stands.fixed

  long : cut_short (event_reply_length m) bytes ≡ None
  long = let whole = stands.whole in grind (arith, nat_tests)

  rest : event_reply_refusal bytes ≡ cond (eqb (field bytes 0x14 2) 0x1c) (topology_refusal m.event_data_length (field bytes 0x24 1)) None
  rest = ap (λ o. option_or o (option_or (cut_short (28 + 4 * field bytes 0x00 2) bytes) (cond (eqb (field bytes 0x14 2) 0x1c) (topology_refusal (field bytes 0x00 2) (field bytes 0x24 1)) None))) none ∙ ap (λ w. option_or (cut_short (28 + 4 * w) bytes) (cond (eqb (field bytes 0x14 2) 0x1c) (topology_refusal w (field bytes 0x24 1)) None)) (words-read m bytes stands.fixed) ∙ ap (λ o. option_or o (cond (eqb (field bytes 0x14 2) 0x1c) (topology_refusal m.event_data_length (field bytes 0x24 1)) None)) long

  split : (list : Bool) (refused : Option Fault) → eqb (field bytes 0x14 2) 0x1c ≡ list → topology_refusal m.event_data_length (field (take (4 * m.event_data_length) (drop 28 bytes)) 8 1) ≡ refused → event_reply_refusal bytes ≡ None
  split false refused is found = rest ∙ ap (λ b. cond b (topology_refusal m.event_data_length (field bytes 0x24 1)) None) is
  split true None is found = rest ∙ ap (λ b. cond b (topology_refusal m.event_data_length (field bytes 0x24 1)) None) is ∙ sym (refusal_field m.event_data_length bytes) ∙ found
  split true (Some fault) is found =
      let read = event-read m bytes stands.fixed in
      let event : m.event ≡ 0x1c = grind (arith, nat_tests) in
      absurd (not_refused m m bytes fault stands.fixed stands.whole event found stands)

-- the data's bytes stand for one kind of data alone
data-same : (event : ℕ) (d e : EventData) (bytes : List ℕ) → IsTrue (kind_fits event d) → IsTrue (kind_fits event e) → DataStands d bytes → DataStands e bytes → d ≡ e
data-same event (variant.Topology t) (variant.Topology u) bytes one other d e = ap variant.Topology (TopologyStands-same t u bytes d e)
data-same event (variant.Topology t) (variant.Other kept) bytes one other d e = absurd (opposite (eqb event 0x1c) one other)
data-same event (variant.Other kept) (variant.Topology u) bytes one other d e = absurd (opposite (eqb event 0x1c) other one)
data-same event (variant.Other kept) (variant.Other held) bytes one other d e = ap variant.Other (d ∙ sym e)

-- the bytes stand for one event alone
pub EventReplyStands-same : (m n : EventReply) (bytes : List ℕ) → EventReplyStands m bytes → EventReplyStands n bytes → m ≡ n
EventReplyStands-same m n bytes one other =
    let numbers = Stands-same event_reply_layout (event_reply_values m) (event_reply_values n) bytes one.fixed other.fixed in
    let words = words-same m n numbers in
    let event = event-same m n numbers in
    event_reply_values-injective m n numbers (data-same m.event m.event_data n.event_data (take (4 * m.event_data_length) (drop 28 bytes)) one.kind
    (subst (λ e. IsTrue (kind_fits e n.event_data)) (sym event) other.kind) one.event_data
    (subst (λ w. DataStands n.event_data (take (4 * w) (drop 28 bytes))) (sym words) other.event_data))

-- the fixed part with its data
pub with_data : (m : EventReply) (d : EventData) (bytes : List ℕ) → Stands event_reply_layout (event_reply_values m) bytes → event_reply_length m ≤ length bytes → IsTrue (kind_fits m.event d) → DataStands d (take (4 * m.event_data_length) (drop 28 bytes)) → EventReplyStands (record m { event_data = d }) bytes
unfolding event_reply_values
with_data m d bytes stands whole kind is = record { fixed = stands; whole = whole; kind = kind; event_data = is }

-- the parts of the test
pub record Fits (m : EventReply) : Type 0 where
  pub rows : IsTrue (values_fit event_reply_layout.rows (event_reply_values m))
  pub kind : IsTrue (kind_fits m.event m.event_data)
  pub event_data : IsTrue (data_fit (4 * m.event_data_length) m.event_data)

pub fit_parts : (m : EventReply) → IsTrue (event_reply_fit m) → Fits m
fit_parts m h =
    let outer = both (values_fit event_reply_layout.rows (event_reply_values m) && kind_fits m.event m.event_data) (data_fit (4 * m.event_data_length) m.event_data) h in
    let inner = both (values_fit event_reply_layout.rows (event_reply_values m)) (kind_fits m.event m.event_data) outer.0 in
    record { rows = inner.0; kind = inner.1; event_data = outer.1 }

pub passes : (m : EventReply) → Fits m → IsTrue (event_reply_fit m)
passes m f = joined (values_fit event_reply_layout.rows (event_reply_values m) && kind_fits m.event m.event_data) (data_fit (4 * m.event_data_length) m.event_data) (joined (values_fit event_reply_layout.rows (event_reply_values m)) (kind_fits m.event m.event_data) f.rows f.kind) f.event_data

-- data that aren't read and stand for themselves fit
pub kept_fits : (bytes kept : List ℕ) → kept ≡ padded 100 bytes → list_all (λ byte. eqb byte 0) (drop (length bytes) kept) ≡ true
kept_fits bytes kept is =
    let past = ap (drop (length bytes)) is ∙ drop_at bytes (replicate (100 - length bytes) 0) (length bytes) refl in
    ap (list_all (λ byte. eqb byte 0)) past ∙ zeros-pass (100 - length bytes)

-- the layout's rows cover its bytes
tiled : IsTiled event_reply_layout
unfolding event_reply_layout
tiled = refl

pub fixed_length : (event_reply_layout).length ≡ 28
unfolding event_reply_layout
fixed_length = refl

-- the fixed part and then the data are written
pub written : (m : EventReply) (before part : List ℕ) → IsTrue (event_reply_fit m) → Stands event_reply_layout (event_reply_values m) before → event_reply_length m ≤ length before → length part ≡ 4 * m.event_data_length → DataStands m.event_data part → EventReplyStands m (put_mid 28 (event_reply_length m - 28) before part)
written m before part fit stands room wide data_stands =
    let n : ℕ = event_reply_length m - 28 in
    let parts = fit_parts m fit in
    let count : n ≡ 4 * m.event_data_length = omega arith in
    let new : List ℕ = put_mid 28 n before part in
    let kept : take 28 new ≡ take 28 before = take-put_mid_below 28 n before part 28 (omega arith) (omega arith) in
    let size : length new ≡ length before = simp (length-append, length-take, length-drop) (omega arith) in
    let behind : take n (drop 28 new) ≡ part = between-put_mid 28 n before part (event_reply_length m) (omega arith) (omega arith) in
    record {
      fixed = Stands-front event_reply_layout (event_reply_values m) before new tiled parts.rows stands (rw fixed_length (omega arith)) (rw fixed_length (sym kept));
      whole = rw size room;
      kind = parts.kind;
      event_data = subst (λ k. DataStands m.event_data (take k (drop 28 new))) count (subst (DataStands m.event_data) (sym behind) data_stands);
    }

-- the bytes past the event stay
pub written_rest : (m : EventReply) (old before part : List ℕ) → length part ≡ 4 * m.event_data_length → event_reply_length m ≤ length before → drop event_reply_layout.length before ≡ drop event_reply_layout.length old → drop (event_reply_length m) (put_mid 28 (event_reply_length m - 28) before part) ≡ drop (event_reply_length m) old
written_rest m old before part wide room same =
    let n : ℕ = event_reply_length m - 28 in
    let past : drop (event_reply_length m) (put_mid 28 n before part) ≡ drop (event_reply_length m) before = drop-put_mid 28 n before part (event_reply_length m) (omega arith) (omega arith) (omega arith) in
    let further = drop_further before old 28 (event_reply_length m) (omega arith) (subst (λ k. drop k before ≡ drop k old) fixed_length same) in
    past ∙ further
