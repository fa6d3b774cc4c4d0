-- The turn of an identifier, entry by entry.
use Rattle.std.proofs.Common.{◌≡◌, ◌≢◌, ℕ, ◌+◌, ◌%◌, ◌≤◌, ◌==◌, Bool, true, false, if◌then◌else◌, List, [], ◌∷◌, ◌++◌, Option, Some, None, refl, ap, sym, ◌∙◌, subst, arith}
use Rattle.mpt_trace.specs.declared.entry.Entry.{Entry}
use Rattle.mpt_trace.specs.declared.entry.Entry.TheVariants as entry
use Rattle.mpt_trace.specs.declared.item.Down.{Down}
use Rattle.mpt_trace.specs.declared.item.Down.TheVariants as downward
use Rattle.mpt_trace.specs.declared.item.Item.TheVariants as item
use Rattle.mpt_trace.specs.declared.item.Up.{Up}
use Rattle.mpt_trace.specs.declared.item.Up.TheVariants as upward
use Rattle.mpt_wire.specs.Messages.Fields.{smid_in}
use Rattle.mpt_wire.specs.Queues.Identifiers.{identifier_turn}
use Rattle.mpt_wire.specs.Walks.Cycles.{CountAsks, count_next}
use Rattle.mpt_wire.specs.Walks.Passes.{EachEntry, Passes, state_after}
use Rattle.mpt_rules.specs.Host.Parts.{Host}
use Rattle.mpt_rules.specs.Host.Takes.{hears_up}
use Rattle.mpt_rules.specs.Ioc.Places.{is_reply_of}
use Rattle.mpt_rules.specs.World.Lines.{said_of}
use Rattle.law_flights.proofs.Standing.{Asks, next, stage_up, told_free, told_stays}
use Rattle.law_flights.proofs.Told.{IsTold, told_state}
use Rattle.law_moves.proofs.HostWords.{EndsIt, HostTells, IsHostWord, Words, host_tells}

pub word_told : (e : Entry) → IsHostWord e → IsTold e
word_told entry.HostUp h = tt
word_told (entry.Ready address handle) h = tt
word_told (entry.Lost address handle) h = tt
word_told (entry.Answer n how) h = tt
word_told (entry.AbortEnd n how) h = tt
word_told (entry.TargetEnd address how) h = tt
word_told (entry.Put l i) h = absurd h
word_told (entry.Take l i) h = absurd h
word_told (entry.Given i) h = absurd h
word_told (entry.Refuse call cause) h = absurd h
word_told (entry.Idle x) h = absurd h
word_told (entry.Bind handle address plug) h = absurd h
word_told (entry.Unbind handle) h = absurd h
word_told entry.UnbindAll h = absurd h
word_told (entry.Run address tag) h = absurd h
word_told (entry.Accept n address smid) h = absurd h
word_told (entry.RefuseSubmit n cause) h = absurd h
word_told entry.ResetDone h = absurd h

pub words_told : (t : List Entry) → EachEntry IsHostWord t → EachEntry IsTold t
words_told [] h = tt
words_told (e ∷ t) h = (word_told e h.0, words_told t h.1)

-- what is only told names none
pub turn_told : (q c : ℕ) (t : List Entry) → EachEntry IsTold t → state_after (next q) c t ≡ c
turn_told q c t a = told_state (next q) (Asks q) c (told_stays q c) (told_free q c) t a

-- behind the end of a reset it is 0
pub turn_over : (q c : ℕ) (t : List Entry) → state_after (next q) c (t ++ entry.ResetDone ∷ []) ≡ 0
turn_over q c [] = refl
turn_over q c (e ∷ t) = turn_over q (next q c e) t

-- where an entry comes that begins no turn, and it isn't at its beginning behind it, it wasn't before
pub not_begun : (c : ℕ) (o : Option ℕ) → CountAsks c o → (o ≡ Some 0 → ⊥) → (count_next c o % 4 ≡ 0 → ⊥) → c % 4 ≡ 0 → ⊥
not_begun c None a n m z = m z
not_begun c (Some i) a n m z = n (ap Some (a ∙ z))

if_one : (b : Bool) (i : ℕ) → (i ≡ 0 → ⊥) → (if b then Some i else None) ≡ Some 0 → ⊥
if_one true i n e = let z : i ≡ 0 = cc in n z
if_one false i n e = absurd (cc)

pub take_down : (q : ℕ) (x : Down) → identifier_turn q 1 3 (item.Down x) ≡ Some 0 → ⊥
take_down q (downward.Post d g p) e = if_one (smid_in d == q) 1 (λ z. cc) e
take_down q (downward.Write reg value) e = absurd (cc)
take_down q (downward.Read reg) e = absurd (cc)
take_down q (downward.Return address index) e = absurd (cc)
take_down q downward.Stop e = absurd (cc)

pub put_up : (q : ℕ) (x : Up) → identifier_turn q 0 2 (item.Up x) ≡ Some 0 → ⊥
put_up q (upward.Reply d g page sense) e = if_one (smid_in d == q) 2 (λ z. cc) e
put_up q (upward.Value value) e = absurd (cc)
put_up q (upward.Mark generation) e = absurd (cc)
put_up q upward.Calm e = absurd (cc)

-- where an identifier isn't at the beginning of its cycle behind an item that the host took, this was no reply to it
pub record NotHeard (q c : ℕ) (x : Up) (t : List Entry) : Type 0 where
  pub other : is_reply_of q (said_of x) ≡ false
  pub stays : state_after (next q) (count_next c (identifier_turn q 1 3 (item.Up x))) t ≡ c
  pub told : EachEntry IsTold t

not_four : (c : ℕ) → 3 ≡ c % 4 → ((c + 1) % 4 ≡ 0 → ⊥) → ⊥
not_four c a n = n (let z : (c + 1) % 4 ≡ 0 = omega (arith, a) in z)

pub not_heard : (q c : ℕ) → 1 ≤ q → (host : Host) (queue : ℕ) (x : Up) → CountAsks c (identifier_turn q 1 3 (item.Up x))
    → (state_after (next q) (count_next c (identifier_turn q 1 3 (item.Up x))) (hears_up host queue x).entries % 4 ≡ 0 → ⊥) → NotHeard q c x (hears_up host queue x).entries
not_heard q c l host queue x a n = by_words (hears_up host queue x).entries (host_tells host queue x) n
  where
    by_words : (t : List Entry) → HostTells t → (state_after (next q) (count_next c (identifier_turn q 1 3 (item.Up x))) t % 4 ≡ 0 → ⊥) → NotHeard q c x t
    by_words t (EndsIt told w e) n =
        absurd (n (ap (λ y. y % 4) (subst (λ (y : List Entry). state_after (next q) (count_next c (identifier_turn q 1 3 (item.Up x))) y ≡ 0) (sym e) (turn_over q (count_next c (identifier_turn q 1 3 (item.Up x))) told))))
    by_words t (Words w) n = by_key (is_reply_of q (said_of x)) refl
      where
        told : EachEntry IsTold t
        told = words_told t w

        by_key : (b : Bool) → is_reply_of q (said_of x) ≡ b → NotHeard q c x t
        by_key false z =
            record {
              other = z;
              stays = turn_told q (count_next c (identifier_turn q 1 3 (item.Up x))) t told ∙ ap (count_next c) (stage_up q 1 3 x l ∙ ap (λ b. if b then Some 3 else None) z);
              told = told;
            }
        by_key true z =
            let o : identifier_turn q 1 3 (item.Up x) ≡ Some 3 = stage_up q 1 3 x l ∙ ap (λ b. if b then Some 3 else None) z in
            absurd (not_four c (subst (CountAsks c) o a) (λ y. n (ap (λ k. k % 4) (turn_told q (count_next c (identifier_turn q 1 3 (item.Up x))) t told ∙ ap (count_next c) o) ∙ y)))
