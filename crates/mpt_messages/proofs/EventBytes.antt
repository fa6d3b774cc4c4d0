-- Bytes that stand for an event's data are its bytes.
use Rattle.std.proofs.Common.{◌≡◌, ℕ, zero, suc, ◌+◌, ◌-◌, ◌*◌, ◌<◌, ◌≤◌, List, [], ◌∷◌, ◌++◌, length, take, drop, get_or, map, replicate, refl, sym, ap, ◌∙◌, lit<, arith}
use Rattle.std.specs.List.{flat_map, range_with_len}
use Rattle.std.proofs.Math.Seq.{take-add}
use Rattle.std.proofs.lemmas.List.{get_or-drop, length-drop, length-take-le, take_all, take-append-le, take-append-drop, drop-drop}
use Rattle.std.proofs.lemmas.List.FromFn.{length-map-range_with_len}
use Rattle.event_msgs.specs.declared.event_data.EventData.{EventData}
use Rattle.event_msgs.specs.declared.event_data.EventData.TheVariants as kind
use Rattle.event_msgs.specs.declared.topology.Topology.{Topology}
use Rattle.event_msgs.specs.EventData.{DataStands}
use Rattle.mpi_layout.proofs.Tails.{padded-front}
use Rattle.event_msgs.specs.Topology.{TopologyStands, topology_end, topology_layout, topology_values}
use Rattle.event_msgs.specs.TopologyEntry.{blank, entry_at, topology_entry_layout, topology_entry_values}
use Rattle.event_msgs.proofs.Entries.{entry_behind}
use Rattle.mpt_messages.specs.FrameBytes.{layout_bytes, entry_bytes, data_bytes}
use Rattle.mpt_messages.proofs.RowsBytes.{rows_taken, stands_front}
use Rattle.mpt_messages.proofs.Shapes.{topology-whole}

-- the first of bytes are bytes
small_front : (n : ℕ) (bytes : List ℕ) → ((k : ℕ) → get_or bytes k 0 < 256) → (k : ℕ) → get_or (take n bytes) k 0 < 256
small_front zero bytes small k = lit< tt
small_front (suc n) [] small k = lit< tt
small_front (suc n) (byte ∷ bytes) small zero = small 0
small_front (suc n) (byte ∷ bytes) small (suc k) = small_front n bytes (λ j. small (suc j)) k

-- an entry at the front
entry_front : (bytes : List ℕ) → ((k : ℕ) → get_or bytes k 0 < 256) → 4 ≤ length bytes → entry_bytes (entry_at bytes 0) ≡ take 4 bytes
unfolding topology_entry_layout topology_entry_values
entry_front bytes small room = rows_taken 0 4 (topology_entry_layout).rows bytes refl room small

-- an entry anywhere
entry_taken : (bytes : List ℕ) (at : ℕ) → ((k : ℕ) → get_or bytes k 0 < 256) → at + 4 ≤ length bytes → entry_bytes (entry_at bytes at) ≡ take 4 (drop at bytes)
entry_taken bytes at small room =
    let behind : (k : ℕ) → get_or (drop at bytes) k 0 < 256 = λ k. rw (get_or-drop at bytes k 0) (small (at + k)) in
    let enough : 4 ≤ length (drop at bytes) = simp length-drop (omega arith) in
    ap entry_bytes (sym (entry_behind bytes at)) ∙ entry_front (drop at bytes) behind enough

-- entries one after the other, from the i-th on
entries_taken : (bytes : List ℕ) (i n : ℕ) → ((k : ℕ) → get_or bytes k 0 < 256) → 12 + 4 * (i + n) ≤ length bytes → flat_map entry_bytes (map (λ j. entry_at bytes (12 + 4 * j)) (range_with_len i n)) ≡ take (4 * n) (drop (12 + 4 * i) bytes)
entries_taken bytes i zero small room = refl
entries_taken bytes i (suc n) small room =
    let here = entry_taken bytes (12 + 4 * i) small (omega arith) in
    let ih = entries_taken bytes (i + 1) n small (omega arith) in
    let count : 4 * suc n ≡ 4 + 4 * n = omega arith in
    let place : 12 + 4 * (i + 1) ≡ 12 + 4 * i + 4 = omega arith in
    let on = drop-drop 4 (12 + 4 * i) bytes in
    ap (λ xs. xs ++ flat_map entry_bytes (map (λ j. entry_at bytes (12 + 4 * j)) (range_with_len (i + 1) n))) here ∙ ap (λ xs. take 4 (drop (12 + 4 * i) bytes) ++ xs) (ih ∙ ap (λ at. take (4 * n) (drop at bytes)) place ∙ ap (take (4 * n)) (sym on)) ∙ sym (take-add 4 (4 * n) (drop (12 + 4 * i) bytes)) ∙ ap (λ k. take k (drop (12 + 4 * i) bytes)) (sym count)

-- a topology change list that is all of the data
list_taken : (t : Topology) (bytes : List ℕ) → ((k : ℕ) → get_or bytes k 0 < 256) → TopologyStands t bytes → bytes ≡ data_bytes (length bytes) (kind.Topology t)
list_taken t bytes small stands =
    let rows = stands_front topology_layout 12 (topology_values t) bytes (topology-whole).long (topology-whole).tiled small stands.rows in
    let whole = stands.whole in
    let listed = map (λ j. entry_at bytes (12 + 4 * j)) (range_with_len 0 t.num_entries) in
    let count : length listed ≡ t.num_entries = length-map-range_with_len (λ j. entry_at bytes (12 + 4 * j)) 0 t.num_entries in
    let entries : take t.num_entries t.entries ≡ listed = ap (take t.num_entries) stands.entries ∙ take-append-le t.num_entries listed (replicate (22 - t.num_entries) blank) (omega (arith, count)) ∙ take_all t.num_entries listed (omega (arith, count)) in
    let middle = ap (flat_map entry_bytes) entries ∙ entries_taken bytes 0 t.num_entries small (omega arith) in
    let long : length (drop (topology_end t) bytes) ≡ length bytes - topology_end t = length-drop (topology_end t) bytes in
    let tail = padded-front (length bytes - topology_end t) 88 t.tail (drop (topology_end t) bytes) long stands.tail in
    let on = drop-drop (4 * t.num_entries) 12 bytes in
    sym (take-append-drop (topology_end t) bytes) ∙ ap (λ xs. xs ++ drop (topology_end t) bytes) (take-add 12 (4 * t.num_entries) bytes ∙ ap (λ xs. xs ++ take (4 * t.num_entries) (drop 12 bytes)) rows ∙ ap (λ xs. layout_bytes topology_layout (topology_values t) ++ xs) (sym middle)) ∙ ap (λ xs. layout_bytes topology_layout (topology_values t) ++ flat_map entry_bytes (take t.num_entries t.entries) ++ xs) (sym tail)

-- the data in front of bytes
pub data_taken : (long : ℕ) (d : EventData) (bytes : List ℕ) → ((k : ℕ) → get_or bytes k 0 < 256) → long ≤ length bytes → DataStands d (take long bytes) → take long bytes ≡ data_bytes long d
data_taken long (kind.Other kept) bytes small room stands = sym (padded-front long 100 kept (take long bytes) (length-take-le long bytes room) stands)
data_taken long (kind.Topology t) bytes small room stands =
    let count = length-take-le long bytes room in
    list_taken t (take long bytes) (small_front long bytes small) stands ∙ ap (λ n. data_bytes n (kind.Topology t)) count
