-- A controller comes back, whatever was done to it.
use Rattle.std.proofs.Common.{◌≡◌, ℕ, zero, suc, ◌+◌, ◌≤◌, ◌==◌, Bool, true, false, if◌then◌else◌, List, [], ◌∷◌, ◌++◌, length, drop, map, replicate, None, refl, ap, sym, subst, ◌∙◌, arith, append_assoc}
use Rattle.std.specs.List.{filter}
use Rattle.mpi_doorbell.specs.Keys.{place_after}
use Rattle.mpi_doorbell.specs.declared.registers.TheConstants.{IOC_STATE_READY}
use Rattle.mpi_doorbell.specs.declared.state.IocState.TheVariants as state
use Rattle.mpt_trace.specs.declared.item.Up.TheVariants as up
use Rattle.mpt_rules.specs.declared.said.Said.{Said}
use Rattle.mpt_rules.specs.declared.said.Said.TheVariants as word
use Rattle.mpt_rules.specs.Ioc.Parts.{Ioc}
use Rattle.mpt_rules.specs.Ioc.Resets.{forgets, next_generation, outlives_reset}
use Rattle.mpt_rules.specs.Ioc.Sending.{front_up_on}
use Rattle.ioc_core.specs.Plays.{after_moves, moved, placed, talk_from}
use Rattle.ioc_core.specs.declared.moves.IocMove.{IocMove}
use Rattle.ioc_core.specs.declared.moves.IocMove.TheVariants as move
use Rattle.ioc_core.specs.declared.moves.IocSaid.{IocSaid}
use Rattle.ioc_core.specs.declared.moves.IocSaid.TheVariants as said
use Rattle.law_moves.proofs.Phases.{same_is}
use Rattle.law_ends.proofs.IocReplies.{reached_keeps}
use Rattle.law_ends.specs.IocEnds.{ioc_reached, ioc_talk}
use Rattle.law_ends.specs.Recovery.{ComesBack, ControllersComeBack, EndsReady, IsSilent, link_moves, read_moves, recovery, reset_moves, restart_moves}

-- ---- lists of moves

pub moves-append : (ioc : Ioc) (a b : List IocMove) → after_moves ioc (a ++ b) ≡ after_moves (after_moves ioc a) b
unfolding after_moves
moves-append ioc [] b = refl
moves-append ioc (m ∷ a) b = moves-append (moved ioc m).part a b

pub said-append : (place : ℕ) (ioc : Ioc) (a b : List IocMove) → talk_from place ioc (a ++ b) ≡ talk_from place ioc a ++ talk_from (place + length a) (after_moves ioc a) b
unfolding after_moves talk_from
said-append place ioc [] b = ap (λ (p : ℕ). talk_from p ioc b) (omega arith)
said-append place ioc (m ∷ a) b =
    let here : List (ℕ × IocSaid) = placed place (moved ioc m).said in
    let next : Ioc = (moved ioc m).part in
    ap (λ (t : List (ℕ × IocSaid)). here ++ t) (said-append (place + 1) next a b)
    ∙ (sym (append_assoc here (talk_from (place + 1) next a) (talk_from (place + 1 + length a) (after_moves next a) b))
    ∙ ap (λ (p : ℕ). (here ++ talk_from (place + 1) next a) ++ talk_from p (after_moves next a) b) (omega arith))

-- ---- the reset

-- a key that isn't of the sequence makes it begin anew
begins_anew : (place : ℕ) → place_after place 0 ≡ 0
begins_anew zero = refl
begins_anew (suc zero) = refl
begins_anew (suc (suc zero)) = refl
begins_anew (suc (suc (suc zero))) = refl
begins_anew (suc (suc (suc (suc zero)))) = refl
begins_anew (suc (suc (suc (suc (suc zero))))) = refl
begins_anew (suc (suc (suc (suc (suc (suc place)))))) = refl

-- so many keys of the sequence came in order
abbrev with_keys : Ioc → ℕ → Ioc
with_keys ioc place = record ioc { door = record ioc.door { key_place = place } }

-- the controller behind the reset
abbrev reset_ioc : Ioc → Ioc
reset_ioc ioc =
    forgets (record ioc { door = record ioc.door { key_place = 6; hold_reset = false; reset_adapter = true; reset_history = true; link_waits = false } })

behind_reset : (ioc : Ioc) → after_moves ioc reset_moves ≡ reset_ioc ioc
unfolding after_moves
behind_reset ioc =
    let first : with_keys ioc (place_after ioc.door.key_place 0) ≡ with_keys ioc 0 = ap (with_keys ioc) (begins_anew ioc.door.key_place) in
    ap (λ (i : Ioc). after_moves i (drop 1 reset_moves)) first

-- ---- the link

-- the controller behind its link
abbrev linked_ioc : Ioc → Ioc
linked_ioc ioc = record ioc { out = []; door = record ioc.door { state = state.Ready; reset_adapter = false; link_waits = false } }

behind_link : (ioc : Ioc) → after_moves (reset_ioc ioc) (link_moves (next_generation ioc)) ≡ linked_ioc (reset_ioc ioc)
unfolding after_moves
behind_link ioc =
    let put : Ioc = record (reset_ioc ioc) { out = [] } in
    ap (λ (b : Bool). if b then linked_ioc put else put) (same_is (next_generation ioc))

-- ---- what is put on reply queue 0

abbrev with_up : Ioc → List Said → List (List Said) → Ioc
with_up ioc first others = record ioc { up = first ∷ others }

-- what the host reads of the Doorbell
abbrev ready : Said
ready = word.Value IOC_STATE_READY

behind_reads : (ioc : Ioc) (first : List Said) (others : List (List Said)) → after_moves (linked_ioc (reset_ioc (with_up ioc first others))) read_moves
    ≡ with_up (linked_ioc (reset_ioc (with_up ioc first others))) (filter outlives_reset first ++ ready ∷ []) (map (λ (outbox : List Said). outbox ++ word.Mark (next_generation ioc) ∷ []) (map (filter outlives_reset) others))
unfolding after_moves
behind_reads ioc first others = refl

-- an empty queue says nothing
says_nothing : (n place : ℕ) (ioc : Ioc) (others : List (List Said)) → talk_from place (with_up ioc [] others) (replicate n move.PutUp) ≡ []
unfolding talk_from
says_nothing zero place ioc others = refl
says_nothing (suc n) place ioc others = says_nothing n (place + 1) ioc others

-- something more is said before
earlier : (x : ℕ × IocSaid) (talk : List (ℕ × IocSaid)) → EndsReady talk → EndsReady (x ∷ talk)
earlier x talk e = record { earlier = x ∷ e.earlier; place = e.place; last = ap (λ (t : List (ℕ × IocSaid)). x ∷ t) e.last }

module _ (others : List (List Said)) where
  -- the queue as a reset leaves it, and then the Doorbell's value
  abbrev queued : Ioc → List Said → Ioc
  queued ioc xs = with_up ioc (filter outlives_reset xs ++ ready ∷ []) others

  ends : (xs : List Said) (n place : ℕ) (ioc : Ioc) → front_up_on (after_moves (queued ioc xs) (replicate n move.PutUp)) 0 ≡ None → EndsReady (talk_from place (queued ioc xs) (replicate n move.PutUp))
  unfolding after_moves talk_from
  ends [] zero place ioc e = absurd (cc)
  ends [] (suc n) place ioc e =
      record {
        earlier = [];
        place = place;
        last = ap (λ (t : List (ℕ × IocSaid)). (place, said.Up (up.Value IOC_STATE_READY)) ∷ t) (says_nothing n (place + 1) ioc others);
      }
  ends (word.Value v ∷ xs) zero place ioc e = absurd (cc)
  ends (word.Value v ∷ xs) (suc n) place ioc e = earlier (place, said.Up (up.Value v)) _ (ends xs n (place + 1) ioc e)
  ends (word.Success smid page sense ∷ xs) n place ioc e = ends xs n place ioc e
  ends (word.Framed smid frame page sense ∷ xs) n place ioc e = ends xs n place ioc e
  ends (word.Mark generation ∷ xs) n place ioc e = ends xs n place ioc e
  ends (word.Calm ∷ xs) zero place ioc e = absurd (cc)
  ends (word.Calm ∷ xs) (suc n) place ioc e = earlier (place, said.Up up.Calm) _ (ends xs n (place + 1) ioc e)

  emptied : (xs : List Said) (ioc : Ioc) → front_up_on (after_moves (queued ioc xs) (replicate (length (filter outlives_reset xs ++ ready ∷ [])) move.PutUp)) 0 ≡ None
  unfolding after_moves
  emptied [] ioc = refl
  emptied (word.Value v ∷ xs) ioc = emptied xs ioc
  emptied (word.Success smid page sense ∷ xs) ioc = emptied xs ioc
  emptied (word.Framed smid frame page sense ∷ xs) ioc = emptied xs ioc
  emptied (word.Mark generation ∷ xs) ioc = emptied xs ioc
  emptied (word.Calm ∷ xs) ioc = emptied xs ioc

-- ---- the law

module _ (ioc : Ioc) (first : List Said) (others : List (List Said)) where
  abbrev hostile : Ioc
  hostile = with_up ioc first others

  abbrev marks : List (List Said)
  marks = map (λ (outbox : List Said). outbox ++ word.Mark (next_generation ioc) ∷ []) (map (filter outlives_reset) others)

  abbrev came_back : Ioc
  came_back = queued marks (linked_ioc (reset_ioc hostile)) first

  restarts : after_moves hostile (restart_moves (next_generation ioc)) ≡ came_back
  restarts =
      moves-append hostile reset_moves (link_moves (next_generation ioc) ++ read_moves)
      ∙ (ap (λ (i : Ioc). after_moves i (link_moves (next_generation ioc) ++ read_moves)) (behind_reset hostile)
      ∙ (moves-append (reset_ioc hostile) (link_moves (next_generation ioc)) read_moves
      ∙ (ap (λ (i : Ioc). after_moves i read_moves) (behind_link hostile)
      ∙ behind_reads ioc first others)))

  puts_after : (n : ℕ) → after_moves hostile (recovery (next_generation ioc) n) ≡ after_moves came_back (replicate n move.PutUp)
  puts_after n =
      moves-append hostile (restart_moves (next_generation ioc)) (replicate n move.PutUp)
      ∙ ap (λ (i : Ioc). after_moves i (replicate n move.PutUp)) restarts

  is_ready : (n : ℕ) → IsSilent hostile (next_generation ioc) n → EndsReady (ioc_talk hostile (recovery (next_generation ioc) n))
  is_ready n e =
      let start : List IocMove = restart_moves (next_generation ioc) in
      let puts : List IocMove = replicate n move.PutUp in
      let before : List (ℕ × IocSaid) = ioc_talk hostile start in
      let x = ends marks first n (0 + length start) (linked_ioc (reset_ioc hostile)) (sym (ap (λ (i : Ioc). front_up_on i 0) (puts_after n)) ∙ e) in
      record {
        earlier = before ++ x.earlier;
        place = x.place;
        last =
            said-append 0 hostile start puts
            ∙ (ap (λ (i : Ioc). before ++ talk_from (0 + length start) i puts) restarts
            ∙ (ap (λ (t : List (ℕ × IocSaid)). before ++ t) x.last
            ∙ sym (append_assoc before x.earlier ((x.place, said.Up (up.Value IOC_STATE_READY)) ∷ []))));
      }

  comes_back : ComesBack hostile
  unfolding after_moves talk_from
  comes_back =
      let k : ℕ = length (filter outlives_reset first ++ ready ∷ []) in
      record {
        generation = next_generation ioc;
        links = ap (λ (i : Ioc). ioc_talk i (move.PutOut ∷ move.PutOut ∷ [])) (behind_reset hostile);
        enough = k;
        silent = ap (λ (i : Ioc). front_up_on i 0) (puts_after k) ∙ emptied marks first (linked_ioc (reset_ioc hostile));
        ready = is_ready;
      }

with_queues : (ioc : Ioc) (queues : List (List Said)) → ioc.up ≡ queues → 1 ≤ length queues → ComesBack ioc
with_queues ioc [] e l = absurd (omega (arith, l))
with_queues ioc (first ∷ others) e l = subst ComesBack (sym (ap (λ (u : List (List Said)). record ioc { up = u }) e)) (comes_back ioc first others)

pub recovery_law : ControllersComeBack
recovery_law phys q moves some =
    let carried = (reached_keeps q some phys moves).carries 1 (omega arith) in
    let n = carried.queues in
    with_queues (ioc_reached phys q moves) (ioc_reached phys q moves).up refl (omega (arith, n, some))
