-- Reading and writing a SAS topology change list.
use Rattle.std.proofs.Common.{◌≡◌, ℕ, ◌+◌, ◌-◌, ◌*◌, ◌<◌, ◌≤◌, Bool, true, false, IsTrue, ◌&&◌, eqb, leb, List, [], ◌++◌, length, take, drop, get_or, map, replicate, Some, refl, ap, sym, ◌∙◌, append-nil, arith}
use Rattle.std.specs.List.{list_all, range_with_len}
use Rattle.std.proofs.lemmas.Bool.Decides.{nat_tests}
use Rattle.std.proofs.lemmas.List.{drop_at, drop_all, length-take, length-drop, length-append}
use Rattle.std.proofs.lemmas.List.FromFn.{fill_by_all, length-map-range_with_len}
use Rattle.std.proofs.lemmas.Slice.{take-put_mid_below}
use borrow.Rule.Slice.PartMut.{put_mid}
use Rattle.mpi_layout.specs.Rows.{Stands, IsTiled, field, values_fit}
use Rattle.mpi_layout.specs.declared.fault.Fault.TheVariants.{Field}
use Rattle.mpi_layout.specs.Tail.{padded}
use Rattle.mpi_layout.proofs.Behind.{Stands-front}
use Rattle.mpi_layout.proofs.Moves.{Stands-same}
use Rattle.mpi_layout.proofs.Tails.{joined, padded_tail, zeros-pass}
use Rattle.event_msgs.specs.declared.topology.Topology.{Topology}
use Rattle.event_msgs.specs.declared.topology_entry.TopologyEntry.{TopologyEntry}
use Rattle.event_msgs.specs.TopologyEntry.{blank, entry_at, is_blank}
use Rattle.event_msgs.specs.Topology.{TopologyStands, topology_end, topology_fit, topology_layout, topology_refusal, topology_values}
use Rattle.event_msgs.proofs.BlankEntries.{blank_entries, blanks-pass}
use Rattle.event_msgs.proofs.Entries.{entry_kept}
use Rattle.event_msgs.proofs.TopologyFields.{topology_values-injective}

-- the parts of the test
pub record Fits (long : ℕ) (t : Topology) : Type 0 where
  pub rows : IsTrue (values_fit topology_layout.rows (topology_values t))
  pub whole : topology_end t ≤ long
  pub entries : list_all is_blank (drop t.num_entries t.entries) ≡ true
  pub tail : list_all (λ byte. eqb byte 0) (drop (long - topology_end t) t.tail) ≡ true

pub topology_parts : (long : ℕ) (t : Topology) → IsTrue (topology_fit long t) → Fits long t
topology_parts long t h = split (values_fit topology_layout.rows (topology_values t)) (leb (topology_end t) long) (list_all is_blank (drop t.num_entries t.entries)) (list_all (λ byte. eqb byte 0) (drop (long - topology_end t) t.tail)) refl refl refl refl h where
  split : (a b c d : Bool) → values_fit topology_layout.rows (topology_values t) ≡ a → leb (topology_end t) long ≡ b → list_all is_blank (drop t.num_entries t.entries) ≡ c → list_all (λ byte. eqb byte 0) (drop (long - topology_end t) t.tail) ≡ d → IsTrue (a && b && c && d) → Fits long t
  split true true true true a b c d h = record { rows = a; whole = grind (arith, nat_tests); entries = c; tail = d }
  split false b c d e f g h i = cc
  split true false c d e f g h i = cc
  split true true false d e f g h i = cc
  split true true true false e f g h i = cc

pub topology_passes : (long : ℕ) (t : Topology) → Fits long t → IsTrue (topology_fit long t)
topology_passes long t f =
    let within : leb (topology_end t) long ≡ true = (let w = f.whole in grind (arith, nat_tests)) in
    joined (values_fit topology_layout.rows (topology_values t) && leb (topology_end t) long && list_all is_blank (drop t.num_entries t.entries)) (list_all (λ byte. eqb byte 0) (drop (long - topology_end t) t.tail))
    (joined (values_fit topology_layout.rows (topology_values t) && leb (topology_end t) long) (list_all is_blank (drop t.num_entries t.entries)) (joined (values_fit topology_layout.rows (topology_values t)) (leb (topology_end t) long) f.rows within) f.entries) f.tail

-- NumEntries in the event data
pub num_entries-read : (t : Topology) (bytes : List ℕ) → Stands topology_layout (topology_values t) bytes → field bytes 8 1 ≡ t.num_entries
unfolding topology_layout topology_values
num_entries-read t bytes stands = ap (λ xs. get_or xs 5 0) stands.numbers

num_entries-same : (t u : Topology) → topology_values t ≡ topology_values u → t.num_entries ≡ u.num_entries
unfolding topology_values
num_entries-same t u e = ap (λ xs. get_or xs 5 0) e

-- too few dwords for the entries
pub refused_entries : (t : Topology) (words : ℕ) (bytes : List ℕ) → Stands topology_layout (topology_values t) bytes → 3 ≤ words → words < 3 + t.num_entries → topology_refusal words (field bytes 8 1) ≡ Some (Field 0x24)
refused_entries t words bytes stands most less =
    let read = num_entries-read t bytes stands in
    rw read (grind (arith, nat_tests))

-- the rows with the entries and the tail
pub with_entries : (t : Topology) (entries : List TopologyEntry) (tail bytes : List ℕ) → Stands topology_layout (topology_values t) bytes → topology_end t ≤ length bytes → entries ≡ map (λ i. entry_at bytes (12 + 4 * i)) (range_with_len 0 t.num_entries) ++ replicate (22 - t.num_entries) blank → tail ≡ padded 88 (drop (topology_end t) bytes) → TopologyStands (record t { entries = entries; tail = tail }) bytes
unfolding topology_values
with_entries t entries tail bytes rows whole listed rest = record { rows = rows; whole = whole; entries = listed; tail = rest }

-- event data stand for one list alone
pub TopologyStands-same : (t u : Topology) (bytes : List ℕ) → TopologyStands t bytes → TopologyStands u bytes → t ≡ u
TopologyStands-same t u bytes one other =
    let numbers = Stands-same topology_layout (topology_values t) (topology_values u) bytes one.rows other.rows in
    let count = num_entries-same t u numbers in
    topology_values-injective t u numbers
    (one.entries ∙ ap (λ n. map (λ i. entry_at bytes (12 + 4 * i)) (range_with_len 0 n) ++ replicate (22 - n) blank) count ∙ sym other.entries)
    (one.tail ∙ ap (λ n. padded 88 (drop (12 + 4 * n) bytes)) count ∙ sym other.tail)

-- a list that event data stand for fits them
pub stands_fits : (t : Topology) (bytes : List ℕ) → IsTrue (values_fit topology_layout.rows (topology_values t)) → length bytes ≤ 100 → TopologyStands t bytes → IsTrue (topology_fit (length bytes) t)
stands_fits t bytes rows most stands =
    let f : ℕ → TopologyEntry = λ i. entry_at bytes (12 + 4 * i) in
    let rest : List ℕ = drop (topology_end t) bytes in
    let whole = stands.whole in
    let behind : drop t.num_entries t.entries ≡ replicate (22 - t.num_entries) blank = ap (drop t.num_entries) stands.entries ∙ drop_at (map f (range_with_len 0 t.num_entries)) (replicate (22 - t.num_entries) blank) t.num_entries (length-map-range_with_len f 0 t.num_entries) in
    let past : drop (length bytes - topology_end t) t.tail ≡ replicate (88 - length rest) 0 = ap (drop (length bytes - topology_end t)) stands.tail ∙ drop_at rest (replicate (88 - length rest) 0) (length bytes - topology_end t) (length-drop (topology_end t) bytes) in
    topology_passes (length bytes) t (record {
      rows = rows;
      whole = stands.whole;
      entries = ap (list_all is_blank) behind ∙ blanks-pass (22 - t.num_entries);
      tail = ap (list_all (λ byte. eqb byte 0)) past ∙ zeros-pass (88 - length rest);
    })

-- the layout's rows cover its bytes
tiled : IsTiled topology_layout
unfolding topology_layout
tiled = refl

pub rows_length : (topology_layout).length ≡ 12
unfolding topology_layout
rows_length = refl

-- the rows, then the entries, and then the tail are written
pub written : (t : Topology) (long : ℕ) (rows entries tail : List ℕ) → IsTrue (topology_fit long t) → long ≤ 100 → length t.entries ≡ 22 → length t.tail ≡ 88 → Stands topology_layout (topology_values t) rows → length rows ≡ long → length entries ≡ long → take 12 entries ≡ take 12 rows → ((k : ℕ) → k < length (take t.num_entries t.entries) → entry_at entries (12 + 4 * k) ≡ get_or (take t.num_entries t.entries) k blank) → tail ≡ take (length entries - topology_end t) t.tail → TopologyStands t (put_mid (topology_end t) (length entries - topology_end t) entries tail)
written t long rows entries tail fit most many wide_tail stands size same front listed is =
    let parts = topology_parts long t fit in
    let whole = parts.whole in
    let end : ℕ = topology_end t in
    let past : ℕ = length entries - end in
    let new : List ℕ = put_mid end past entries tail in
    let f : ℕ → TopologyEntry = λ i. entry_at new (12 + 4 * i) in
    let wide : length tail ≡ past = ap length is ∙ simp length-take (omega arith) in
    let size_new : length new ≡ long = simp (length-append, length-take, length-drop) (omega arith) in
    let kept : take 12 new ≡ take 12 rows = take-put_mid_below end past entries tail 12 (omega arith) (omega arith) ∙ front in
    let none : drop past (drop end entries) ≡ [] = drop_all past (drop end entries) (simp length-drop (omega arith)) in
    let place : length (take end entries) ≡ end = simp length-take (omega arith) in
    let behind : drop end new ≡ tail = drop_at (take end entries) (tail ++ drop past (drop end entries)) end place ∙ rw none (append-nil tail) in
    let count : length (take t.num_entries t.entries) ≡ t.num_entries = simp length-take (omega arith) in
    let each : (k : ℕ) → k < t.num_entries → get_or (take t.num_entries t.entries) k blank ≡ f k = λ k less. sym (entry_kept entries tail end past (12 + 4 * k) (omega arith) (omega arith) ∙ listed k (omega arith)) in
    let all : take t.num_entries t.entries ≡ map f (range_with_len 0 t.num_entries) = fill_by_all f (take t.num_entries t.entries) t.num_entries blank count each in
    let zero_past : list_all (λ byte. eqb byte 0) (drop past t.tail) ≡ true = ap (λ n. list_all (λ byte. eqb byte 0) (drop (n - end) t.tail)) same ∙ parts.tail in
    record {
      rows = Stands-front topology_layout (topology_values t) rows new tiled parts.rows stands (rw rows_length (omega arith)) (rw rows_length (sym kept));
      whole = rw size_new parts.whole;
      entries = blank_entries t.num_entries 22 t.entries many (omega arith) parts.entries ∙ ap (λ xs. xs ++ replicate (22 - t.num_entries) blank) all;
      tail = padded_tail past 88 t.tail wide_tail (omega arith) zero_past ∙ ap (padded 88) (sym (behind ∙ is));
    }
