-- Each case keeps the holders of the identifiers of SCSI IOs, and accepts with the least that isn't held.
use Rattle.std.proofs.Common.{◌≡◌, ℕ, zero, suc, ◌≤◌, ◌==◌, ◌||◌, Bool, true, false, List, [], ◌∷◌, append-nil, get_or, replicate, Option, Some, None, option_map, is_some, refl, ap, sym, ◌∙◌, subst, arith}
use Rattle.std.specs.FinMap as finmap
use Rattle.std.specs.FinSet as set
use Rattle.std.proofs.lemmas.Bool.Decides.{nat_tests}
use Rattle.smid_pool.specs.Pool.{Slot, Free, Open, Parked, slot_of}
use Rattle.mpt_trace.specs.declared.entry.Entry.{Entry}
use Rattle.mpt_trace.specs.declared.entry.Entry.TheVariants as entry
use Rattle.mpt_trace.specs.declared.parties.Party.TheVariants as party
use Rattle.mpt_wire.specs.Queues.LeastFree.{Holder, LeastAsks, holder_next, holders_next, is_still_held}
use Rattle.mpt_wire.specs.Walks.Ahead.{PassesAhead, PassesBefore, next_own}
use Rattle.mpt_rules.specs.declared.request.Request.{Request}
use Rattle.mpt_rules.specs.declared.request.Request.TheVariants as request
use Rattle.mpt_rules.specs.Host.Parts.{Cmd}
use Rattle.mpt_rules.specs.Outcome.{Happening}
use Rattle.mpt_rules.specs.Session.OpenCases.{fabric_does, host_does, ioc_does}
use Rattle.mpt_rules.specs.World.Cases.{Case, case_of, entries, happens}
use Rattle.mpt_rules.specs.World.Settings.{Setting, first_world}
use Rattle.mpt_rules.specs.World.State.{World}
use Rattle.law_facts.specs.Facts.{Facts}
use Rattle.law_facts.specs.Flights.{AbortNames, NamesOpen, RecordStands}
use Rattle.law_facts.specs.History.{History, first_history, history_after}
use Rattle.law_facts.specs.Ties.{HolderIs}
use Rattle.law_facts.specs.Words.{slot}
use Rattle.law_flights.proofs.HostHolds.{in_table}
use Rattle.law_parties.proofs.HostModes.{NoRefusal}
use Rattle.law_parties.proofs.OfParty.{Idles, OfFabric, OfHost, OfIoc, OfParty, of_party}
use Rattle.law_parties.proofs.Owned.{fabric_owned, ioc_owned}
use Rattle.law_identifiers.proofs.Holders.{is_of_number, is_under, slot_as, slot_by, state_by, stays}
use Rattle.law_identifiers.proofs.HeldSlots.{Holds, Stands}
use Rattle.law_identifiers.proofs.LeastTaken.{AllHold, Takes, fabric_silent, host_takes, ioc_silent, others_take}
use Rattle.law_records.specs.Records.{AbortsAreKnown}
use Rattle.law_ties.specs.Holders.{HolderAgrees, HoldersAgree, HoldersKept, LeastPasses, is_holder_of}

-- ---- the holder of 0 doesn't matter

-- nothing holds 0
abbrev zeroed : (ℕ → Option Holder) → ℕ → Option Holder
zeroed g zero = None
zeroed g (suc s) = g (suc s)

abbrev Alike : (ℕ → Option Holder) → (ℕ → Option Holder) → Type 0
Alike f g = (s : ℕ) → f (suc s) ≡ g (suc s)

asks_alike : (f g : ℕ → Option Holder) → Alike f g → (e : Entry) (ahead : Option Entry) → LeastAsks f e ahead → LeastAsks g e ahead
asks_alike f g a (entry.Accept n address s) ahead l =
    record { low = l.low; high = l.high; free = at s l.low l.free; least = λ k from below. at k from (l.least k from below) }
  where
    at : (k : ℕ) → 1 ≤ k → {b : Bool} → is_still_held (f k) ≡ b → is_still_held (g k) ≡ b
    at zero l e = absurd (omega (arith, l))
    at (suc k) l e = ap is_still_held (sym (a k)) ∙ e
asks_alike f g a _ ahead l = tt

passes_alike : (f g : ℕ → Option Holder) → Alike f g → (t : List Entry) → PassesBefore holders_next LeastAsks f t [] → PassesAhead holders_next LeastAsks g t
passes_alike f g a [] p = tt
passes_alike f g a (e ∷ t) p =
    let q = subst (λ y. LeastAsks f e (next_own e y) × PassesBefore holders_next LeastAsks (holders_next f e (next_own e y)) t []) (append-nil t) p in
    (asks_alike f g a e (next_own e t) q.0, passes_alike (holders_next f e (next_own e t)) (holders_next g e (next_own e t)) (λ s. ap (λ o. holder_next (suc s) o e (next_own e t)) (a s)) t q.1)

-- ---- a case

takes : (holders : ℕ → Option Holder) (w : World) (o : Happening World) → OfParty w o → AllHold holders w.host → Takes holders o.entries [] o.part.host
takes holders w o (Idles c same is) all =
    subst (λ (es : List Entry). Takes holders es [] o.part.host) (sym is)
    (record { passes = (tt, tt); tied = λ s few. subst (λ (x : Option Holder). Holds s few x o.part.host) (sym (stays s (holders s) (entry.Idle c) None tt)) (subst (λ (v : World). Holds s few (holders s) v.host) (sym same) (all s few)) })
takes holders w o (OfHost c host ioc is) all =
    subst (λ (es : List Entry). Takes holders es [] o.part.host) (sym is) (subst (Takes holders (host_does w.host c).entries []) (sym host) (host_takes holders w.host c [] none all))
  where
    none : NoRefusal []
    none call = refl
takes holders w o (OfIoc c host ioc is) all =
    subst (λ (es : List Entry). Takes holders es [] o.part.host) (sym is) (others_take party.Ioc ioc_silent holders o.part.host (ioc_does w.ioc c).entries [] (ioc_owned w.ioc c) (subst (AllHold holders) (sym host) all))
takes holders w o (OfFabric c host ioc is) all =
    subst (λ (es : List Entry). Takes holders es [] o.part.host) (sym is) (others_take party.Fabric fabric_silent holders o.part.host (fabric_does w.fabric c).entries [] (fabric_owned w.fabric c) (subst (AllHold holders) (sym host) all))

-- ---- the fact, and what law_identifiers has of a holder

-- the slot is the holder's
slot_of_holder : (w : World) (o : Option Holder) (y : Slot Request) → HolderIs w o y → y ≡ slot_as o
slot_of_holder w (Some x) (Open (request.Command n)) h = ap (λ m. Open (request.Command m)) (sym h.0) ∙ sym (ap (λ b. slot_by x.number b x.has_abort) h.1)
slot_of_holder w (Some x) Parked h = sym (ap (λ b. slot_by x.number b x.has_abort) h.0 ∙ ap (slot_by x.number false) h.1)
slot_of_holder w None Free h = refl
slot_of_holder w (Some x) Free h = by_bools x.is_open x.has_abort h
  where
    by_bools : (a b : Bool) → (a || b) ≡ false → Free ≡ slot_by x.number a b
    by_bools true b e = absurd (cc)
    by_bools false true e = absurd (cc)
    by_bools false false e = refl
slot_of_holder w _ _ h = absurd h

holder_by_slot : (w : World) (o : Option Holder) → Stands o w.host.cmds w.host.aborts w.host.accepted → HolderIs w o (slot_as o)
holder_by_slot w None s = refl
holder_by_slot w (Some x) s = by_bools x.is_open x.has_abort refl refl
  where
    by_bools : (a b : Bool) → x.is_open ≡ a → x.has_abort ≡ b → HolderIs w (Some x) (slot_by x.number a b)
    by_bools true b e f = (refl, e, s.1)
    by_bools false true e f = (e, f, sym s.1 ∙ f)
    by_bools false false e f = ap (λ c. c || x.has_abort) e ∙ f

same_number : (n : ℕ) (o : Option Holder) → is_holder_of n o ≡ is_of_number n o
same_number n None = refl
same_number n (Some x) = refl

module _ (w : World) (h : History) (f : Facts w h) (known : AbortsAreKnown w) (agree : HoldersAgree w h) where
  placed : (s : ℕ) (r : Request) → slot w.host s ≡ Open r → (1 ≤ s) × (s ≤ 280)
  placed s r e = let z = in_table w.host.pool s (Open r) e (λ c. cc) in let z0 = z.0 in let z1 = z.1 in let t = f.flights.sizes.pool in (z0, omega (arith, z0, z1, t))

  record_is : (s : ℕ) (r : Request) → slot w.host s ≡ Open r → RecordStands w s (Open r)
  record_is s r e = let p = placed s r e in subst (RecordStands w s) e (f.flights.identifiers s p.0 p.1).recorded

  -- what an abort names isn't free
  names_some : (x n task : ℕ) → slot w.host x ≡ Open (request.Abort n task) → (task == 0) ≡ false
  names_some x n task e = by_cmd (finmap.get w.host.cmds n) refl (let p = placed x (request.Abort n task) e in subst (AbortNames w) e (f.flights.identifiers x p.0 p.1).names)
    where
      positive : (task : ℕ) (y : Slot Request) → slot w.host task ≡ y → (Free ≡ y → ⊥) → (task == 0) ≡ false
      positive zero y e n = absurd (n e)
      positive (suc t) y e n = grind (arith, nat_tests)

      by_cmd : (o : Option Cmd) → finmap.get w.host.cmds n ≡ o → NamesOpen w task o → (task == 0) ≡ false
      by_cmd (Some c) g q = positive task (Open (request.Command n)) (ap (slot w.host) (sym q) ∙ (f.flights.numbers n).command c g) (λ z. cc)
      by_cmd None g q = positive task Parked q (λ z. cc)

  -- what is of all identifiers
  commands : (x n : ℕ) → slot w.host x ≡ Open (request.Command n) → is_under x (finmap.get w.host.cmds n) ≡ true
  commands x n e = by_cmd (finmap.get w.host.cmds n) (record_is x (request.Command n) e).1
    where
      by_cmd : (o : Option Cmd) → option_map (λ (c : Cmd). c.smid) o ≡ Some x → is_under x o ≡ true
      by_cmd None q = absurd (cc)
      by_cmd (Some c) q = let z : c.smid ≡ x = cc in ap (λ m. m == x) z ∙ grind (arith, nat_tests)

  keeps : (s : ℕ) (few : s ≤ 256) (o : Option Holder) → slot w.host s ≡ slot_as o → Stands o w.host.cmds w.host.aborts w.host.accepted → ((x n task : ℕ) → slot w.host x ≡ Open (request.Abort n task) → (task == s) ≡ is_of_number n o) → Holds s few o w.host
  keeps s few o e st named =
      record {
        table = f.flights.sizes.pool;
        slot = e;
        stands = st;
        commands = commands;
        opened = λ n c g. (f.flights.numbers n).command c g;
        known = λ n g. (f.disks.numbers n).accepted g;
        aborted = known;
        names = λ x n task k g. ((record_is x (request.Abort n task) g).1, named x n task g);
      }

  stands : (s : ℕ) (o : Option Holder) → HolderAgrees w s o → Stands o w.host.cmds w.host.aborts w.host.accepted
  stands s None a = tt
  stands s (Some x) a = (a.command x refl, a.abort x refl, a.accepted x refl)

  all : AllHold (zeroed h.holders) w.host
  all zero few = keeps zero few None refl tt (λ x n task e. names_some x n task e)
  all (suc s) few =
      let a = agree (suc s) (omega arith) few in
      keeps (suc s) few (h.holders (suc s)) (slot_of_holder w (h.holders (suc s)) (slot w.host (suc s)) (f.ties.holders (suc s) (omega arith) few)) (stands (suc s) (h.holders (suc s)) a)
      (λ x n task e. a.named x n task e ∙ same_number n (h.holders (suc s)))

  module _ (c : Case) where
    t : Takes (zeroed h.holders) (entries w c) [] (happens w c).host
    t = takes (zeroed h.holders) w (case_of w c) (of_party w c) all

    pub least_passes : LeastPasses h (entries w c)
    least_passes = passes_alike (zeroed h.holders) h.holders (λ s. refl) (entries w c) t.passes

    -- behind the case
    tied : (s : ℕ) (few : suc s ≤ 256) → Holds (suc s) few ((history_after h (entries w c)).holders (suc s)) (happens w c).host
    tied s few = subst (λ o. Holds (suc s) few o (happens w c).host) (state_by (suc s) (zeroed h.holders) (entries w c) [] ∙ sym (state_by (suc s) h.holders (entries w c) [])) (t.tied (suc s) few)

    agrees : (s : ℕ) (o : Option Holder) → Stands o (happens w c).host.cmds (happens w c).host.aborts (happens w c).host.accepted → ((x n task : ℕ) → slot (happens w c).host x ≡ Open (request.Abort n task) → (task == s) ≡ is_of_number n o) → HolderAgrees (happens w c) s o
    agrees s None st named = record { command = λ x e. absurd (cc); abort = λ x e. absurd (cc); accepted = λ x e. absurd (cc); named = named }
    agrees s (Some y) st named =
        record {
          command = λ x e. subst (λ (z : Holder). z.is_open ≡ is_some (finmap.get (happens w c).host.cmds z.number)) (one x e) st.0;
          abort = λ x e. subst (λ (z : Holder). z.has_abort ≡ is_some (finmap.get (happens w c).host.aborts z.number)) (one x e) st.1;
          accepted = λ x e. subst (λ (z : Holder). set.contains (happens w c).host.accepted z.number ≡ true) (one x e) st.2;
          named = named;
        }
      where
        one : (x : Holder) → Some y ≡ Some x → y ≡ x
        one x e = cc

    not_zero : (pool : List (Slot Request)) (x : ℕ) (r : Request) → slot_of pool x ≡ Open r → (x == 0) ≡ false
    not_zero pool zero r e = absurd (cc)
    not_zero pool (suc i) r e = grind (arith, nat_tests)

    pub holders_kept : HoldersKept (happens w c) (history_after h (entries w c))
    holders_kept = record { holders = is; further = further }
      where
        is : (s : ℕ) → 1 ≤ s → s ≤ 256 → HolderIs (happens w c) ((history_after h (entries w c)).holders s) (slot (happens w c).host s)
        is zero l few = absurd (omega (arith, l))
        is (suc s) l few = let k = tied s few in subst (HolderIs (happens w c) ((history_after h (entries w c)).holders (suc s))) (sym k.slot) (holder_by_slot (happens w c) ((history_after h (entries w c)).holders (suc s)) k.stands)

        further : HoldersAgree (happens w c) (history_after h (entries w c))
        further zero l few = absurd (omega (arith, l))
        further (suc s) l few = let k = tied s few in agrees (suc s) ((history_after h (entries w c)).holders (suc s)) k.stands (λ x n task e. (k.names x n task (not_zero (happens w c).host.pool x (request.Abort n task) e) e).1)

-- ---- the first world

abbrev nothing_open : Slot Request
nothing_open = Free

free_from : (n i : ℕ) → get_or (replicate n nothing_open) i Free ≡ Free
free_from zero i = refl
free_from (suc n) zero = refl
free_from (suc n) (suc i) = free_from n i

free_at : (n x : ℕ) → slot_of (replicate n nothing_open) x ≡ Free
free_at n zero = refl
free_at n (suc i) = free_from n i

pub holders_at_first : (s : Setting) → HoldersAgree (first_world s) (first_history s.disks)
holders_at_first s k l few =
    record {
      command = λ x e. absurd (cc);
      abort = λ x e. absurd (cc);
      accepted = λ x e. absurd (cc);
      named = λ q n task e. let z : Free ≡ Open (request.Abort n task) = sym (free_at 280 q) ∙ e in absurd (cc);
    }
