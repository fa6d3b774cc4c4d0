-- The blank entries behind those of a topology change list.
use Rattle.std.proofs.Common.{◌≡◌, ℕ, zero, suc, ◌-◌, ◌≤◌, true, List, [], ◌∷◌, ◌++◌, length, take, drop, replicate, refl, ap, sym, ◌∙◌, arith}
use Rattle.std.specs.List.{list_all}
use Rattle.std.proofs.lemmas.Bool.Decides.{nat_tests}
use Rattle.std.proofs.lemmas.List.{take-append-drop, length-drop}
use Rattle.mpi_layout.proofs.Tails.{both}
use Rattle.event_msgs.specs.declared.topology_entry.TopologyEntry.{TopologyEntry}
use Rattle.event_msgs.specs.TopologyEntry.{blank, is_blank}

-- blank entries pass
pub blanks-pass : (n : ℕ) → list_all is_blank (replicate n blank) ≡ true
blanks-pass zero = refl
blanks-pass (suc n) = blanks-pass n

abbrev entry : ℕ → ℕ → ℕ → TopologyEntry
entry a b c = record { attached_dev_handle = a; link_rate = b; phy_status = c }

-- an entry that passes is blank
blank-is : (e : TopologyEntry) → is_blank e ≡ true → e ≡ blank
blank-is e h =
    let facts : (e.attached_dev_handle ≡ 0) × (e.link_rate ≡ 0) × (e.phy_status ≡ 0) = grind (arith, nat_tests) in
    ap (λ a. entry a e.link_rate e.phy_status) facts.0 ∙ ap (λ b. entry 0 b e.phy_status) facts.1 ∙ ap (λ c. entry 0 0 c) facts.2

-- what passes is blank entries
blanks-are : (xs : List TopologyEntry) → list_all is_blank xs ≡ true → xs ≡ replicate (length xs) blank
blanks-are [] h = refl
blanks-are (x ∷ xs) h =
    let facts = both (is_blank x) (list_all is_blank xs) h in
    let here = blank-is x facts.0 in
    let ih = blanks-are xs facts.1 in
    cc

-- the entries past the front are blank
pub blank_entries : (n most : ℕ) (entries : List TopologyEntry) → length entries ≡ most → n ≤ most → list_all is_blank (drop n entries) ≡ true → entries ≡ take n entries ++ replicate (most - n) blank
blank_entries n most entries long less past =
    let blanks = blanks-are (drop n entries) past in
    let count : length (drop n entries) ≡ most - n = simp length-drop (omega arith) in
    sym (take-append-drop n entries) ∙ ap (λ xs. take n entries ++ xs) (blanks ∙ ap (λ k. replicate k blank) count)
