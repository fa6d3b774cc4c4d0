-- Where the lanes are closed and the journals record what went through them, takes follow their puts.
use Rattle.std.proofs.Common.{◌≡◌, ◌∙◌, ◌+◌, ℕ, List, [], ◌∷◌, ◌++◌, Option, ap, map, refl, subst, sym}
use Rattle.std.specs.Prelude.{filter_map, flat_map}
use Rattle.std.specs.List.{cons_option}
use Rattle.std.proofs.lemmas.List.Elements.{filter_map-append}
use Rattle.mpt_trace.specs.declared.entry.Entry.{Entry}
use Rattle.mpt_trace.specs.declared.item.Item.{Item}
use Rattle.mpt_trace.specs.declared.lane.LaneName.{LaneName}
use Rattle.mpt_wire.specs.Queues.Lanes.{IsPrefixOf}
use Rattle.mpt_rules.specs.Session.Journals.{At, Block, Row, TakesFollow, put_in, taken_in}
use Rattle.mpt_rules.specs.Session.Parts.{TakesAreLater, puts_in, takes_in}
use Rattle.mpt_rules.specs.Session.Sessions.{Session, journals}
use Rattle.mpt_rules.specs.World.Settings.{Setting}
use Rattle.mpt_journal.specs.Laws.{by_entries, each_of}
use Rattle.mpt_live.specs.Recorded.{Recorded}
use Rattle.mpt_live.specs.Traffic.{AreTaken, SubmitterLanes, puts_on, submitter_traffic, takes_on}
use Rattle.live_journals.specs.Parties.{LeavesParties, RecordedParties, rows_of_parties}
use Rattle.live_lanes.specs.Closed.{JournalsRecordLanes, LanesAreClosed, SessionLanes, SubmittersRecord}
use Rattle.live_lanes.proofs.Prefixes.{all_received, all_sent, begins, received_in, sent_in}

-- ---- entry by entry a journal puts and takes what its cases do

module _ (pick : ℕ → Entry → Option (At Item)) where
  abbrev picked : List (At Entry) → List (At Item)
  picked moments = filter_map (λ (m : At Entry). pick m.stamp m.value) moments

  abbrev of_cases : List Block → List (At Item)
  of_cases blocks = flat_map (λ (block : Block). filter_map (pick block.stamp) block.value) blocks

  picked_of : (stamp : ℕ) (es : List Entry) → picked (map (λ (e : Entry). record { stamp = stamp; value = e }) es) ≡ filter_map (pick stamp) es
  picked_of stamp [] = refl
  picked_of stamp (e ∷ es) = ap (λ xs. cons_option (pick stamp e) xs) (picked_of stamp es)

  picked_cases : (blocks : List Block) → picked (flat_map each_of blocks) ≡ of_cases blocks
  picked_cases [] = refl
  picked_cases (b ∷ bs) =
      filter_map-append (λ (m : At Entry). pick m.stamp m.value) (each_of b) (flat_map each_of bs) ∙ ap (λ xs. xs ++ picked (flat_map each_of bs)) (picked_of b.stamp b.value)
      ∙ ap (λ xs. filter_map (pick b.stamp) b.value ++ xs) (picked_cases bs)

  pub rows_picked : (rows : List (Row (List Entry))) → flat_map (λ (row : Row Entry). picked row.moments) (map by_entries rows) ≡ flat_map (λ (row : Row (List Entry)). of_cases row.moments) rows
  rows_picked [] = refl
  rows_picked (row ∷ rows) =
      ap (λ xs. xs ++ flat_map (λ (r : Row Entry). picked r.moments) (map by_entries rows)) (picked_cases row.moments) ∙ ap (λ xs. of_cases row.moments ++ xs) (rows_picked rows)

-- ---- what was taken

taken_with : (rs ts us vs : List (At Item)) → AreTaken rs ts → AreTaken us vs → AreTaken (rs ++ us) (ts ++ vs)
taken_with [] [] us vs h k = k
taken_with [] (t ∷ ts) us vs h k = absurd h
taken_with (r ∷ rs) [] us vs h k = absurd h
taken_with (r ∷ rs) (t ∷ ts) us vs h k = (h.0, h.1, taken_with rs ts us vs h.2 k)

follows : (received rest takes : List (At Item)) → AreTaken received takes → TakesFollow (received ++ rest) takes
follows [] rest [] h = tt
follows [] rest (t ∷ takes) h = absurd h
follows (r ∷ received) rest [] h = tt
follows (r ∷ received) rest (t ∷ takes) h = (h.0, h.1, follows received rest takes h.2)

-- ---- the submitters

submitters_put : (i : ℕ) (rs : List (Recorded (Unit {0}))) (ls : List SubmitterLanes) (name : LaneName) → SubmittersRecord i rs ls
    → flat_map (puts_on name) (map (λ (r : Recorded (Unit {0})). r.row) rs) ≡ all_sent i ls name
submitters_put i [] [] name h = refl
submitters_put i [] (l ∷ ls) name h = absurd h
submitters_put i (r ∷ rs) [] name h = absurd h
submitters_put i (r ∷ rs) (l ∷ ls) name h =
    ap (λ xs. xs ++ flat_map (puts_on name) (map (λ (x : Recorded (Unit {0})). x.row) rs)) (h.0.puts name) ∙ ap (λ xs. (submitter_traffic i l).sent name ++ xs) (submitters_put (i + 1) rs ls name h.1)

submitters_take : (i : ℕ) (rs : List (Recorded (Unit {0}))) (ls : List SubmitterLanes) (name : LaneName) → SubmittersRecord i rs ls
    → AreTaken (all_received i ls name) (flat_map (takes_on name) (map (λ (r : Recorded (Unit {0})). r.row) rs))
submitters_take i [] [] name h = tt
submitters_take i [] (l ∷ ls) name h = absurd h
submitters_take i (r ∷ rs) [] name h = absurd h
submitters_take i (r ∷ rs) (l ∷ ls) name h = taken_with _ _ _ _ (h.0.takes name) (submitters_take (i + 1) rs ls name h.1)

-- ---- all parties

module _ (p : RecordedParties) (l : SessionLanes) (h : JournalsRecordLanes p l) (name : LaneName) where
  abbrev put_by : List (Row Entry) → List (At Item)
  put_by rows = flat_map (puts_on name) rows

  all_put : put_by (rows_of_parties p) ≡ sent_in l name
  all_put = λ i. h.host.puts name i ++ (h.ioc.puts name i ++ (h.fabric.puts name i ++ submitters_put 0 p.submitters l.submitters name h.submitters i))

  all_taken : AreTaken (received_in l name) (flat_map (takes_on name) (rows_of_parties p))
  all_taken =
      taken_with _ _ _ _ (h.host.takes name)
      (taken_with _ _ _ _ (h.ioc.takes name) (taken_with _ _ _ _ (h.fabric.takes name) (submitters_take 0 p.submitters l.submitters name h.submitters)))

  pub follow_closed : LanesAreClosed l → TakesFollow (put_by (rows_of_parties p)) (flat_map (takes_on name) (rows_of_parties p))
  follow_closed closed =
      let begun : IsPrefixOf (received_in l name) (sent_in l name) = begins l closed name in
      subst (λ puts. TakesFollow puts (flat_map (takes_on name) (rows_of_parties p))) (begun.1 ∙ sym all_put) (follows (received_in l name) begun.0 (flat_map (takes_on name) (rows_of_parties p)) all_taken)

pub lanes_later : (s : Setting) (p : RecordedParties) (x : Session) (l : SessionLanes) → LeavesParties s p x → JournalsRecordLanes p l → LanesAreClosed l → TakesAreLater s x
lanes_later s p x l leaves recorded closed name =
    let puts : flat_map (puts_on name) (rows_of_parties p) ≡ puts_in name (journals s x) =
    ap (λ rows. flat_map (puts_on name) rows) leaves.journals ∙ rows_picked (put_in name) (journals s x) in
    let takes : flat_map (takes_on name) (rows_of_parties p) ≡ takes_in name (journals s x) =
    ap (λ rows. flat_map (takes_on name) rows) leaves.journals ∙ rows_picked (taken_in name) (journals s x) in
    subst (λ ts. TakesFollow (puts_in name (journals s x)) ts) takes
    (subst (λ ps. TakesFollow ps (flat_map (takes_on name) (rows_of_parties p))) puts (follow_closed p l recorded name closed))
