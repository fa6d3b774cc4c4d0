-- The merge of the parties' journals is what the merge of their cases does, one after the other.
use Rattle.std.proofs.Common.{◌≡◌, ℕ, ◌+◌, List, [], ◌∷◌, refl, ap, ◌∙◌, inl, inr}
use Rattle.std.proofs.lemmas.Bool.{cases_Bool}
use Rattle.mpt_trace.specs.declared.entry.Entry.{Entry}
use Rattle.mpt_trace.specs.declared.parties.Party.TheVariants as party
use Rattle.mpt_rules.specs.Fabric.Parts.{Fabric, new_fabric}
use Rattle.mpt_rules.specs.Host.Parts.{Host, new_host}
use Rattle.mpt_rules.specs.Ioc.Parts.{Ioc, new_ioc}
use Rattle.mpt_rules.specs.Outcome.{Happening}
use Rattle.mpt_rules.specs.Session.Journals.{At, Of, Row, all_merged, all_of, by_submitter, fabric_journal, fabric_moments, host_journal, host_moments, ioc_journal, ioc_moments, is_not_after, merged, party_number, placed, submitter_journal}
use Rattle.mpt_rules.specs.Session.OpenCases.{ByFabric, ByHost, ByIoc, BySubmitter, FabricCase, HostCase, IocCase, Open, SubmitterCase, fabric_does, host_does, ioc_does, submitter_does}
use Rattle.mpt_rules.specs.Session.Sessions.{Session, fabric_after, host_after, ioc_after, journals, last_fabric, last_host, last_ioc, submitter_rows}
use Rattle.mpt_rules.specs.World.Settings.{Setting}
use Rattle.law_sessions.proofs.Blocks.{Each, each_merged}

-- the parties that have a part
pub record Parties : Type 0 where
  pub host : Host
  pub ioc : Ioc
  pub fabric : Fabric

-- what a case of any of them leaves, and its entries
abbrev pub does : Parties → Open → Happening Parties
does p (ByHost c) = record { part = record p { host = (host_does p.host c).part }; entries = (host_does p.host c).entries }
does p (ByIoc c) = record { part = record p { ioc = (ioc_does p.ioc c).part }; entries = (ioc_does p.ioc c).entries }
does p (ByFabric c) = record { part = record p { fabric = (fabric_does p.fabric c).part }; entries = (fabric_does p.fabric c).entries }
does p (BySubmitter i c) = record { part = p; entries = submitter_does i c }

-- the entries of cases, one after the other
abbrev pub done : Parties → List (Of Open) → List (Of (List Entry))
done p [] = []
done p (m ∷ ms) = record { number = m.number; at = record { stamp = m.at.stamp; value = (does p m.at.value).entries } } ∷ done (does p m.at.value).part ms

-- and what they leave
abbrev pub left_by : Parties → List (Of Open) → Parties
left_by p [] = p
left_by p (m ∷ ms) = left_by (does p m.at.value).part ms

-- ---- cases of different parties

abbrev Differ : Open → Open → Type 0
Differ (ByHost c) (ByHost d) = ⊥
Differ (ByIoc c) (ByIoc d) = ⊥
Differ (ByFabric c) (ByFabric d) = ⊥
Differ _ _ = Unit {0}

-- each does what it does by itself
apart_entries : (p : Parties) (x y : Open) → Differ x y → (does (does p x).part y).entries ≡ (does p y).entries
apart_entries p (ByHost c) (ByHost d) h = absurd h
apart_entries p (ByHost c) (ByIoc d) h = refl
apart_entries p (ByHost c) (ByFabric d) h = refl
apart_entries p (ByHost c) (BySubmitter i d) h = refl
apart_entries p (ByIoc c) (ByHost d) h = refl
apart_entries p (ByIoc c) (ByIoc d) h = absurd h
apart_entries p (ByIoc c) (ByFabric d) h = refl
apart_entries p (ByIoc c) (BySubmitter i d) h = refl
apart_entries p (ByFabric c) (ByHost d) h = refl
apart_entries p (ByFabric c) (ByIoc d) h = refl
apart_entries p (ByFabric c) (ByFabric d) h = absurd h
apart_entries p (ByFabric c) (BySubmitter i d) h = refl
apart_entries p (BySubmitter i c) d h = refl

apart_parts : (p : Parties) (x y : Open) → Differ x y → (does (does p x).part y).part ≡ (does (does p y).part x).part
apart_parts p (ByHost c) (ByHost d) h = absurd h
apart_parts p (ByHost c) (ByIoc d) h = refl
apart_parts p (ByHost c) (ByFabric d) h = refl
apart_parts p (ByHost c) (BySubmitter i d) h = refl
apart_parts p (ByIoc c) (ByHost d) h = refl
apart_parts p (ByIoc c) (ByIoc d) h = absurd h
apart_parts p (ByIoc c) (ByFabric d) h = refl
apart_parts p (ByIoc c) (BySubmitter i d) h = refl
apart_parts p (ByFabric c) (ByHost d) h = refl
apart_parts p (ByFabric c) (ByIoc d) h = refl
apart_parts p (ByFabric c) (ByFabric d) h = absurd h
apart_parts p (ByFabric c) (BySubmitter i d) h = refl
apart_parts p (BySubmitter i c) d h = refl

-- all of them are of other parties
abbrev Others : Open → At Open → Type 0
Others x m = Differ x m.value

done_apart : (p : Parties) (x : Open) (ys : List (Of Open)) → Each (Others x) ys → done (does p x).part ys ≡ done p ys
done_apart p x [] h = refl
done_apart p x (y ∷ ys) h =
    ap (λ (es : List Entry). record { number = y.number; at = record { stamp = y.at.stamp; value = es } } ∷ done (does (does p x).part y.at.value).part ys) (apart_entries p x y.at.value h.0)
    ∙ ap (λ (zs : List (Of (List Entry))). record { number = y.number; at = record { stamp = y.at.stamp; value = (does p y.at.value).entries } } ∷ zs)
    (ap (λ (q : Parties). done q ys) (apart_parts p x y.at.value h.0) ∙ done_apart (does p y.at.value).part x ys h.1)

left_apart : (p : Parties) (x : Open) (ys : List (Of Open)) → Each (Others x) ys → left_by (does p x).part ys ≡ (does (left_by p ys) x).part
left_apart p x [] h = refl
left_apart p x (y ∷ ys) h = ap (λ (q : Parties). left_by q ys) (apart_parts p x y.at.value h.0) ∙ left_apart (does p y.at.value).part x ys h.1

module _ (A B : At Open → Type 0) (one : (x y : At Open) → A x → B y → Differ x.value y.value) (other : (x y : At Open) → A x → B y → Differ y.value x.value) where
  all_others : (x : At Open) (ys : List (Of Open)) → A x → Each B ys → Each (Others x.value) ys
  all_others x [] a h = tt
  all_others x (y ∷ ys) a h = (one x y.at a h.0, all_others x ys a h.1)

  all_ones : (y : At Open) (xs : List (Of Open)) → B y → Each A xs → Each (Others y.value) xs
  all_ones y [] b h = tt
  all_ones y (x ∷ xs) b h = (other x.at y h.0 b, all_ones y xs b h.1)

  -- to merge the cases and do them is to do them and merge what they enter
  done-placed : (x : Of Open) (xs : List (Of Open)) → A x.at → Each A xs
      → ((p : Parties) (ys : List (Of Open)) → Each B ys → done p (merged xs ys) ≡ merged (done p xs) (done p ys))
      → (p : Parties) (ys : List (Of Open)) → Each B ys → done p (placed x (merged xs) ys) ≡ merged (done p (x ∷ xs)) (done p ys)
  done-placed x xs a own rest p [] h = ap (λ (zs : List (Of (List Entry))). record { number = x.number; at = record { stamp = x.at.stamp; value = (does p x.at.value).entries } } ∷ zs) (rest (does p x.at.value).part [] tt)
  done-placed x xs a own rest p (y ∷ ys) h = elim (cases_Bool (is_not_after x y)) [
    | inl goes ↦ rw goes (ap (λ (zs : List (Of (List Entry))). record { number = x.number; at = record { stamp = x.at.stamp; value = (does p x.at.value).entries } } ∷ zs)
        (rest (does p x.at.value).part (y ∷ ys) h
        ∙ ap (λ (zs : List (Of (List Entry))). merged (done (does p x.at.value).part xs) zs) (done_apart p x.at.value (y ∷ ys) (all_others x.at (y ∷ ys) a h))))
    | inr waits ↦ rw waits (ap (λ (zs : List (Of (List Entry))). record { number = y.number; at = record { stamp = y.at.stamp; value = (does p y.at.value).entries } } ∷ zs)
        (done-placed x xs a own rest (does p y.at.value).part ys h.1
        ∙ ap (λ (zs : List (Of (List Entry))). merged zs (done (does p y.at.value).part ys)) (done_apart p y.at.value (x ∷ xs) (all_ones y.at (x ∷ xs) h.0 (a, own)))))
  ]

  done-merged : (xs : List (Of Open)) → Each A xs → (p : Parties) (ys : List (Of Open)) → Each B ys → done p (merged xs ys) ≡ merged (done p xs) (done p ys)
  done-merged [] own p ys h = refl
  done-merged (x ∷ xs) own p ys h = done-placed x xs own.0 own.1 (λ q zs k. done-merged xs own.1 q zs k) p ys h

  left-placed : (x : Of Open) (xs : List (Of Open)) → A x.at → Each A xs → ((p : Parties) (ys : List (Of Open)) → Each B ys → left_by p (merged xs ys) ≡ left_by (left_by p xs) ys)
      → (p : Parties) (ys : List (Of Open)) → Each B ys → left_by p (placed x (merged xs) ys) ≡ left_by (left_by p (x ∷ xs)) ys
  left-placed x xs a own rest p [] h = rest (does p x.at.value).part [] tt
  left-placed x xs a own rest p (y ∷ ys) h = elim (cases_Bool (is_not_after x y)) [
    | inl goes ↦ rw goes (rest (does p x.at.value).part (y ∷ ys) h)
    | inr waits ↦ rw waits (left-placed x xs a own rest (does p y.at.value).part ys h.1
        ∙ ap (λ (q : Parties). left_by q ys) (left_apart p y.at.value (x ∷ xs) (all_ones y.at (x ∷ xs) h.0 (a, own))))
  ]

  left-merged : (xs : List (Of Open)) → Each A xs → (p : Parties) (ys : List (Of Open)) → Each B ys → left_by p (merged xs ys) ≡ left_by (left_by p xs) ys
  left-merged [] own p ys h = refl
  left-merged (x ∷ xs) own p ys h = left-placed x xs own.0 own.1 (λ q zs k. left-merged xs own.1 q zs k) p ys h

-- ---- the cases of one party

done_host : (k : ℕ) (p : Parties) (cs : List (At HostCase)) → done p (all_of k (host_moments cs)) ≡ all_of k (host_journal p.host cs)
done_host k p [] = refl
done_host k p (c ∷ cs) =
    ap (λ (zs : List (Of (List Entry))). record { number = k; at = record { stamp = c.stamp; value = (host_does p.host c.value).entries } } ∷ zs) (done_host k (record p { host = (host_does p.host c.value).part }) cs)

left_host : (k : ℕ) (p : Parties) (cs : List (At HostCase)) → left_by p (all_of k (host_moments cs)) ≡ record p { host = host_after p.host cs }
left_host k p [] = refl
left_host k p (c ∷ cs) = left_host k (record p { host = (host_does p.host c.value).part }) cs

done_ioc : (k : ℕ) (p : Parties) (cs : List (At IocCase)) → done p (all_of k (ioc_moments cs)) ≡ all_of k (ioc_journal p.ioc cs)
done_ioc k p [] = refl
done_ioc k p (c ∷ cs) =
    ap (λ (zs : List (Of (List Entry))). record { number = k; at = record { stamp = c.stamp; value = (ioc_does p.ioc c.value).entries } } ∷ zs) (done_ioc k (record p { ioc = (ioc_does p.ioc c.value).part }) cs)

left_ioc : (k : ℕ) (p : Parties) (cs : List (At IocCase)) → left_by p (all_of k (ioc_moments cs)) ≡ record p { ioc = ioc_after p.ioc cs }
left_ioc k p [] = refl
left_ioc k p (c ∷ cs) = left_ioc k (record p { ioc = (ioc_does p.ioc c.value).part }) cs

done_fabric : (k : ℕ) (p : Parties) (cs : List (At FabricCase)) → done p (all_of k (fabric_moments cs)) ≡ all_of k (fabric_journal p.fabric cs)
done_fabric k p [] = refl
done_fabric k p (c ∷ cs) =
    ap (λ (zs : List (Of (List Entry))). record { number = k; at = record { stamp = c.stamp; value = (fabric_does p.fabric c.value).entries } } ∷ zs) (done_fabric k (record p { fabric = (fabric_does p.fabric c.value).part }) cs)

left_fabric : (k : ℕ) (p : Parties) (cs : List (At FabricCase)) → left_by p (all_of k (fabric_moments cs)) ≡ record p { fabric = fabric_after p.fabric cs }
left_fabric k p [] = refl
left_fabric k p (c ∷ cs) = left_fabric k (record p { fabric = (fabric_does p.fabric c.value).part }) cs

done_submitter : (k : ℕ) (p : Parties) (i : ℕ) (cs : List (At SubmitterCase)) → done p (all_of k (by_submitter i cs)) ≡ all_of k (submitter_journal i cs)
done_submitter k p i [] = refl
done_submitter k p i (c ∷ cs) = ap (λ (zs : List (Of (List Entry))). record { number = k; at = record { stamp = c.stamp; value = submitter_does i c.value } } ∷ zs) (done_submitter k p i cs)

left_submitter : (k : ℕ) (p : Parties) (i : ℕ) (cs : List (At SubmitterCase)) → left_by p (all_of k (by_submitter i cs)) ≡ p
left_submitter k p i [] = refl
left_submitter k p i (c ∷ cs) = left_submitter k p i cs

-- ---- whose a case is

abbrev OfHost : Open → Type 0
OfHost (ByHost c) = Unit {0}
OfHost _ = ⊥

abbrev OfIoc : Open → Type 0
OfIoc (ByIoc c) = Unit {0}
OfIoc _ = ⊥

abbrev OfFabric : Open → Type 0
OfFabric (ByFabric c) = Unit {0}
OfFabric _ = ⊥

abbrev OfSubmitter : Open → Type 0
OfSubmitter (BySubmitter i c) = Unit {0}
OfSubmitter _ = ⊥

-- it isn't the host's, and so on
abbrev NotHost : Open → Type 0
NotHost (ByHost c) = ⊥
NotHost _ = Unit {0}

abbrev NotIoc : Open → Type 0
NotIoc (ByIoc c) = ⊥
NotIoc _ = Unit {0}

abbrev NotFabric : Open → Type 0
NotFabric (ByFabric c) = ⊥
NotFabric _ = Unit {0}

host_differs : (x y : Open) → OfHost x → NotHost y → Differ x y × Differ y x
host_differs (ByHost c) (ByHost d) a b = absurd b
host_differs (ByHost c) (ByIoc d) a b = (tt, tt)
host_differs (ByHost c) (ByFabric d) a b = (tt, tt)
host_differs (ByHost c) (BySubmitter i d) a b = (tt, tt)
host_differs (ByIoc c) y a b = absurd a
host_differs (ByFabric c) y a b = absurd a
host_differs (BySubmitter i c) y a b = absurd a

ioc_differs : (x y : Open) → OfIoc x → NotIoc y → Differ x y × Differ y x
ioc_differs (ByIoc c) (ByHost d) a b = (tt, tt)
ioc_differs (ByIoc c) (ByIoc d) a b = absurd b
ioc_differs (ByIoc c) (ByFabric d) a b = (tt, tt)
ioc_differs (ByIoc c) (BySubmitter i d) a b = (tt, tt)
ioc_differs (ByHost c) y a b = absurd a
ioc_differs (ByFabric c) y a b = absurd a
ioc_differs (BySubmitter i c) y a b = absurd a

fabric_differs : (x y : Open) → OfFabric x → NotFabric y → Differ x y × Differ y x
fabric_differs (ByFabric c) (ByHost d) a b = (tt, tt)
fabric_differs (ByFabric c) (ByIoc d) a b = (tt, tt)
fabric_differs (ByFabric c) (ByFabric d) a b = absurd b
fabric_differs (ByFabric c) (BySubmitter i d) a b = (tt, tt)
fabric_differs (ByHost c) y a b = absurd a
fabric_differs (ByIoc c) y a b = absurd a
fabric_differs (BySubmitter i c) y a b = absurd a

submitter_differs : (x y : Open) → OfSubmitter x → OfSubmitter y → Differ x y × Differ y x
submitter_differs (BySubmitter i c) (BySubmitter j d) a b = (tt, tt)
submitter_differs (BySubmitter i c) (ByHost d) a b = absurd b
submitter_differs (BySubmitter i c) (ByIoc d) a b = absurd b
submitter_differs (BySubmitter i c) (ByFabric d) a b = absurd b
submitter_differs (ByHost c) y a b = absurd a
submitter_differs (ByIoc c) y a b = absurd a
submitter_differs (ByFabric c) y a b = absurd a

-- a fact of the cases' values
abbrev pub Of_each : (Open → Type 0) → At Open → Type 0
Of_each P m = P m.value

each_weaker : (P Q : At Open → Type 0) → ((m : At Open) → P m → Q m) → (xs : List (Of Open)) → Each P xs → Each Q xs
each_weaker P Q f [] h = tt
each_weaker P Q f (x ∷ xs) h = (f x.at h.0, each_weaker P Q f xs h.1)

hosts : (k : ℕ) (cs : List (At HostCase)) → Each (Of_each OfHost) (all_of k (host_moments cs))
hosts k [] = tt
hosts k (c ∷ cs) = (tt, hosts k cs)

iocs : (k : ℕ) (cs : List (At IocCase)) → Each (Of_each OfIoc) (all_of k (ioc_moments cs))
iocs k [] = tt
iocs k (c ∷ cs) = (tt, iocs k cs)

fabrics : (k : ℕ) (cs : List (At FabricCase)) → Each (Of_each OfFabric) (all_of k (fabric_moments cs))
fabrics k [] = tt
fabrics k (c ∷ cs) = (tt, fabrics k cs)

submitters : (k i : ℕ) (cs : List (At SubmitterCase)) → Each (Of_each OfSubmitter) (all_of k (by_submitter i cs))
submitters k i [] = tt
submitters k i (c ∷ cs) = (tt, submitters k i cs)

submitter_isnt : (m : At Open) → OfSubmitter m.value → NotHost m.value × NotIoc m.value × NotFabric m.value
submitter_isnt m h = by_value m.value h
  where
    by_value : (v : Open) → OfSubmitter v → NotHost v × NotIoc v × NotFabric v
    by_value (BySubmitter i c) a = (tt, tt, tt)
    by_value (ByHost c) a = absurd a
    by_value (ByIoc c) a = absurd a
    by_value (ByFabric c) a = absurd a

fabric_isnt : (m : At Open) → OfFabric m.value → NotHost m.value × NotIoc m.value
fabric_isnt m h = by_value m.value h
  where
    by_value : (v : Open) → OfFabric v → NotHost v × NotIoc v
    by_value (ByFabric c) a = (tt, tt)
    by_value (BySubmitter i c) a = absurd a
    by_value (ByHost c) a = absurd a
    by_value (ByIoc c) a = absurd a

ioc_isnt : (m : At Open) → OfIoc m.value → NotHost m.value
ioc_isnt m h = by_value m.value h
  where
    by_value : (v : Open) → OfIoc v → NotHost v
    by_value (ByIoc c) a = tt
    by_value (BySubmitter i c) a = absurd a
    by_value (ByHost c) a = absurd a
    by_value (ByFabric c) a = absurd a

-- ---- a session

abbrev pub submitter_cases : ℕ → List (List (At SubmitterCase)) → List (Row Open)
submitter_cases i [] = []
submitter_cases i (cases ∷ rest) = record { party = party.Submitter i; moments = by_submitter i cases } ∷ submitter_cases (i + 1) rest

-- the cases of all parties
abbrev pub case_rows : Session → List (Row Open)
case_rows x =
    record { party = party.Host; moments = host_moments x.host }
    ∷ record { party = party.Ioc; moments = ioc_moments x.ioc }
    ∷ record { party = party.Fabric; moments = fabric_moments x.fabric }
    ∷ submitter_cases 0 x.submitters

-- the parties as they are made
abbrev pub first_parties : Setting → Parties
first_parties s = record { host = new_host s.queues; ioc = new_ioc s.phys s.queues; fabric = new_fabric s.disks s.phys }

all_submitters : (i : ℕ) (xs : List (List (At SubmitterCase))) → Each (Of_each OfSubmitter) (all_merged (submitter_cases i xs))
all_submitters i [] = tt
all_submitters i (cases ∷ rest) =
    each_merged (Of_each OfSubmitter) (all_of (party_number (party.Submitter i)) (by_submitter i cases)) (all_merged (submitter_cases (i + 1) rest)) (submitters (party_number (party.Submitter i)) i cases) (all_submitters (i + 1) rest)

done_submitters : (p : Parties) (i : ℕ) (xs : List (List (At SubmitterCase))) → done p (all_merged (submitter_cases i xs)) ≡ all_merged (submitter_rows i xs)
done_submitters p i [] = refl
done_submitters p i (cases ∷ rest) =
    done-merged (Of_each OfSubmitter) (Of_each OfSubmitter) (λ x y a b. (submitter_differs x.value y.value a b).0) (λ x y a b. (submitter_differs x.value y.value a b).1)
    (all_of (party_number (party.Submitter i)) (by_submitter i cases)) (submitters (party_number (party.Submitter i)) i cases) p (all_merged (submitter_cases (i + 1) rest)) (all_submitters (i + 1) rest)
    ∙ (ap (λ (zs : List (Of (List Entry))). merged zs (done p (all_merged (submitter_cases (i + 1) rest)))) (done_submitter (party_number (party.Submitter i)) p i cases)
    ∙ ap (λ (zs : List (Of (List Entry))). merged (all_of (party_number (party.Submitter i)) (submitter_journal i cases)) zs) (done_submitters p (i + 1) rest))

left_submitters : (p : Parties) (i : ℕ) (xs : List (List (At SubmitterCase))) → left_by p (all_merged (submitter_cases i xs)) ≡ p
left_submitters p i [] = refl
left_submitters p i (cases ∷ rest) =
    left-merged (Of_each OfSubmitter) (Of_each OfSubmitter) (λ x y a b. (submitter_differs x.value y.value a b).0) (λ x y a b. (submitter_differs x.value y.value a b).1)
    (all_of (party_number (party.Submitter i)) (by_submitter i cases)) (submitters (party_number (party.Submitter i)) i cases) p (all_merged (submitter_cases (i + 1) rest)) (all_submitters (i + 1) rest)
    ∙ (ap (λ (q : Parties). left_by q (all_merged (submitter_cases (i + 1) rest))) (left_submitter (party_number (party.Submitter i)) p i cases) ∙ left_submitters p (i + 1) rest)

module _ (x : Session) where
  abbrev submitter_merge : List (Of Open)
  submitter_merge = all_merged (submitter_cases 0 x.submitters)

  abbrev fabric_merge : List (Of Open)
  fabric_merge = merged (all_of 2 (fabric_moments x.fabric)) submitter_merge

  abbrev ioc_merge : List (Of Open)
  ioc_merge = merged (all_of 1 (ioc_moments x.ioc)) fabric_merge

  behind_fabric : Each (Of_each NotFabric) submitter_merge
  behind_fabric = each_weaker (Of_each OfSubmitter) (Of_each NotFabric) (λ m h. (submitter_isnt m h).2) submitter_merge (all_submitters 0 x.submitters)

  behind_ioc : Each (Of_each NotIoc) fabric_merge
  behind_ioc =
      each_merged (Of_each NotIoc) (all_of 2 (fabric_moments x.fabric)) submitter_merge
      (each_weaker (Of_each OfFabric) (Of_each NotIoc) (λ m h. (fabric_isnt m h).1) (all_of 2 (fabric_moments x.fabric)) (fabrics 2 x.fabric))
      (each_weaker (Of_each OfSubmitter) (Of_each NotIoc) (λ m h. (submitter_isnt m h).1) submitter_merge (all_submitters 0 x.submitters))

  behind_host : Each (Of_each NotHost) ioc_merge
  behind_host =
      each_merged (Of_each NotHost) (all_of 1 (ioc_moments x.ioc)) fabric_merge
      (each_weaker (Of_each OfIoc) (Of_each NotHost) ioc_isnt (all_of 1 (ioc_moments x.ioc)) (iocs 1 x.ioc))
      (each_merged (Of_each NotHost) (all_of 2 (fabric_moments x.fabric)) submitter_merge
      (each_weaker (Of_each OfFabric) (Of_each NotHost) (λ m h. (fabric_isnt m h).0) (all_of 2 (fabric_moments x.fabric)) (fabrics 2 x.fabric))
      (each_weaker (Of_each OfSubmitter) (Of_each NotHost) (λ m h. (submitter_isnt m h).0) submitter_merge (all_submitters 0 x.submitters)))

  module _ (p : Parties) where
    done_fabric_merge : done p fabric_merge ≡ merged (all_of 2 (fabric_journal p.fabric x.fabric)) (all_merged (submitter_rows 0 x.submitters))
    done_fabric_merge =
        done-merged (Of_each OfFabric) (Of_each NotFabric) (λ y z a b. (fabric_differs y.value z.value a b).0) (λ y z a b. (fabric_differs y.value z.value a b).1)
        (all_of 2 (fabric_moments x.fabric)) (fabrics 2 x.fabric) p submitter_merge behind_fabric
        ∙ (ap (λ (zs : List (Of (List Entry))). merged zs (done p submitter_merge)) (done_fabric 2 p x.fabric)
        ∙ ap (λ (zs : List (Of (List Entry))). merged (all_of 2 (fabric_journal p.fabric x.fabric)) zs) (done_submitters p 0 x.submitters))

    done_ioc_merge : done p ioc_merge ≡ merged (all_of 1 (ioc_journal p.ioc x.ioc)) (merged (all_of 2 (fabric_journal p.fabric x.fabric)) (all_merged (submitter_rows 0 x.submitters)))
    done_ioc_merge =
        done-merged (Of_each OfIoc) (Of_each NotIoc) (λ y z a b. (ioc_differs y.value z.value a b).0) (λ y z a b. (ioc_differs y.value z.value a b).1)
        (all_of 1 (ioc_moments x.ioc)) (iocs 1 x.ioc) p fabric_merge behind_ioc
        ∙ (ap (λ (zs : List (Of (List Entry))). merged zs (done p fabric_merge)) (done_ioc 1 p x.ioc)
        ∙ ap (λ (zs : List (Of (List Entry))). merged (all_of 1 (ioc_journal p.ioc x.ioc)) zs) done_fabric_merge)

    done_all : done p (all_merged (case_rows x)) ≡ merged (all_of 0 (host_journal p.host x.host)) (merged (all_of 1 (ioc_journal p.ioc x.ioc)) (merged (all_of 2 (fabric_journal p.fabric x.fabric)) (all_merged (submitter_rows 0 x.submitters))))
    done_all =
        done-merged (Of_each OfHost) (Of_each NotHost) (λ y z a b. (host_differs y.value z.value a b).0) (λ y z a b. (host_differs y.value z.value a b).1)
        (all_of 0 (host_moments x.host)) (hosts 0 x.host) p ioc_merge behind_host
        ∙ (ap (λ (zs : List (Of (List Entry))). merged zs (done p ioc_merge)) (done_host 0 p x.host)
        ∙ ap (λ (zs : List (Of (List Entry))). merged (all_of 0 (host_journal p.host x.host)) zs) done_ioc_merge)

    left_all : left_by p (all_merged (case_rows x)) ≡ record { host = host_after p.host x.host; ioc = ioc_after p.ioc x.ioc; fabric = fabric_after p.fabric x.fabric }
    left_all =
        let q : Parties = record p { host = host_after p.host x.host } in
        let r : Parties = record q { ioc = ioc_after p.ioc x.ioc } in
        left-merged (Of_each OfHost) (Of_each NotHost) (λ y z a b. (host_differs y.value z.value a b).0) (λ y z a b. (host_differs y.value z.value a b).1)
        (all_of 0 (host_moments x.host)) (hosts 0 x.host) p ioc_merge behind_host
        ∙ (ap (λ (o : Parties). left_by o ioc_merge) (left_host 0 p x.host)
        ∙ (left-merged (Of_each OfIoc) (Of_each NotIoc) (λ y z a b. (ioc_differs y.value z.value a b).0) (λ y z a b. (ioc_differs y.value z.value a b).1)
        (all_of 1 (ioc_moments x.ioc)) (iocs 1 x.ioc) q fabric_merge behind_ioc
        ∙ (ap (λ (o : Parties). left_by o fabric_merge) (left_ioc 1 q x.ioc)
        ∙ (left-merged (Of_each OfFabric) (Of_each NotFabric) (λ y z a b. (fabric_differs y.value z.value a b).0) (λ y z a b. (fabric_differs y.value z.value a b).1)
        (all_of 2 (fabric_moments x.fabric)) (fabrics 2 x.fabric) r submitter_merge behind_fabric
        ∙ (ap (λ (o : Parties). left_by o submitter_merge) (left_fabric 2 r x.fabric) ∙ left_submitters (record r { fabric = fabric_after p.fabric x.fabric }) 0 x.submitters)))))

-- the merge of the journals is what the merge of the cases does
pub session_done : (s : Setting) (x : Session) → done (first_parties s) (all_merged (case_rows x)) ≡ all_merged (journals s x)
session_done s x = done_all x (first_parties s)

-- and each party is left as by its own cases
pub session_left : (s : Setting) (x : Session) → left_by (first_parties s) (all_merged (case_rows x)) ≡ record { host = last_host s x; ioc = last_ioc s x; fabric = last_fabric s x }
session_left s x = left_all x (first_parties s)
