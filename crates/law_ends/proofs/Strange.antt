-- A move that brings a strange item changes nothing.
use Rattle.std.proofs.Common.{◌≡◌, ℕ, ◌+◌, ◌<◌, ◌≤◌, Bool, true, false, if◌then◌else◌, List, [], ◌∷◌, ◌++◌, length, map, Option, Some, None, refl, ap, sym, ◌∙◌, arith, append_assoc}
use Rattle.std.specs.Prelude.{All, nat_lt, option_map, option_to_list, slice_get}
use Rattle.std.proofs.lemmas.List.Elements.{All-append, All-cons, All-nil}
use Rattle.mpt_trace.specs.declared.entry.Entry.{Entry}
use Rattle.mpt_trace.specs.declared.item.Down.{Down}
use Rattle.mpt_trace.specs.declared.item.Up.{Up}
use Rattle.mpt_rules.specs.declared.why.Why.{Why}
use Rattle.mpt_rules.specs.Host.Parts.{Host}
use Rattle.mpt_rules.specs.Host.Strange.{why_strange}
use Rattle.mpt_rules.specs.Host.Takes.{takes_unless, takes_up}
use Rattle.mpt_rules.specs.Outcome.{Called}
use Rattle.host_core.specs.Plays.{after_moves, moved, passed_over, placed, puts_down, taken_move, talk_from}
use Rattle.host_core.specs.declared.moves.HostMove.{HostMove}
use Rattle.host_core.specs.declared.moves.HostMove.TheVariants as move
use Rattle.host_core.specs.declared.moves.HostSaid.{HostSaid}
use Rattle.host_core.specs.declared.moves.HostSaid.TheVariants as said
use Rattle.law_ends.specs.HostEnds.{StrangeChangesNothing, host_talk, one_later}

-- ---- lists of moves

pub after-append : (host : Host) (a b : List HostMove) → after_moves host (a ++ b) ≡ after_moves (after_moves host a) b
unfolding after_moves
after-append host [] b = refl
after-append host (m ∷ a) b = after-append (moved host m).part a b

pub talk-append : (place : ℕ) (host : Host) (a b : List HostMove) → talk_from place host [] (a ++ b) ≡ talk_from place host [] a ++ talk_from (place + length a) (after_moves host a) [] b
unfolding after_moves talk_from
talk-append place host [] b = ap (λ (p : ℕ). talk_from p host [] b) (omega arith)
talk-append place host (m ∷ a) b =
    let here : List (ℕ × HostSaid) = placed place (moved host m).answer (moved host m).told in
    let next : Host = (moved host m).part in
    ap (λ (t : List (ℕ × HostSaid)). here ++ t) (talk-append (place + 1) next a b)
    ∙ (sym (append_assoc here (talk_from (place + 1) next [] a) (talk_from (place + 1 + length a) (after_moves next a) [] b))
    ∙ ap (λ (p : ℕ). (here ++ talk_from (place + 1) next [] a) ++ talk_from p (after_moves next a) [] b) (omega arith))

map-append : {A B : Type 0} (f : A → B) (xs ys : List A) → map f (xs ++ ys) ≡ map f xs ++ map f ys
map-append f [] ys = refl
map-append f (x ∷ xs) ys = ap (λ t. f x ∷ t) (map-append f xs ys)

later_placed : (place : ℕ) (xs : List HostSaid) → map (λ (s : HostSaid). (place + 1, s)) xs ≡ map one_later (map (λ (s : HostSaid). (place, s)) xs)
later_placed place [] = refl
later_placed place (x ∷ xs) = ap (λ t. (place + 1, x) ∷ t) (later_placed place xs)

pub talk_later : (place : ℕ) (host : Host) (moves : List HostMove) → talk_from (place + 1) host [] moves ≡ map one_later (talk_from place host [] moves)
unfolding talk_from
talk_later place host [] = refl
talk_later place host (m ∷ moves) =
    let all : List HostSaid = option_to_list (moved host m).answer ++ map said.Told (moved host m).told in
    let next : Host = (moved host m).part in
    ap (λ t. t ++ talk_from (place + 1 + 1) next [] moves) (later_placed place all)
    ∙ (ap (λ t. map one_later (map (λ (s : HostSaid). (place, s)) all) ++ t) (talk_later (place + 1) next moves)
    ∙ sym (map-append one_later (map (λ (s : HostSaid). (place, s)) all) (talk_from (place + 1) next [] moves)))

-- ---- places

all_at : (P : ℕ × HostSaid → Type 0) (place : ℕ) (xs : List HostSaid) → ((s : HostSaid) → P (place, s)) → All P (map (λ (s : HostSaid). (place, s)) xs)
all_at P place [] h = All-nil P
all_at P place (x ∷ xs) h = All-cons P (place, x) (map (λ (s : HostSaid). (place, s)) xs) (h x) (all_at P place xs h)

talk_below : (place bound : ℕ) (host : Host) (moves : List HostMove) → place + length moves ≤ bound → All (λ (s : ℕ × HostSaid). s.0 < bound) (talk_from place host [] moves)
unfolding talk_from
talk_below place bound host [] l = All-nil _
talk_below place bound host (m ∷ moves) l =
    All-append (λ (s : ℕ × HostSaid). s.0 < bound) _ _ (all_at (λ (s : ℕ × HostSaid). s.0 < bound) place (option_to_list (moved host m).answer ++ map said.Told (moved host m).told) (λ s. omega (arith, l)))
    (talk_below (place + 1) bound (moved host m).part moves (omega (arith, l)))

talk_behind : (place least : ℕ) (host : Host) (moves : List HostMove) → least ≤ place → All (λ (s : ℕ × HostSaid). least ≤ s.0) (talk_from place host [] moves)
unfolding talk_from
talk_behind place least host [] l = All-nil _
talk_behind place least host (m ∷ moves) l =
    All-append (λ (s : ℕ × HostSaid). least ≤ s.0) _ _ (all_at (λ (s : ℕ × HostSaid). least ≤ s.0) place (option_to_list (moved host m).answer ++ map said.Told (moved host m).told) (λ s. l))
    (talk_behind (place + 1) least (moved host m).part moves (omega (arith, l)))

-- ---- a strange move

-- the host stays, and nothing is told
record Stays (host : Host) (c : Called Host (Option HostSaid)) : Type 0 where
  part : c.part ≡ host
  told : c.told ≡ []

strange_take : (host : Host) (queue : ℕ) (item : Up) (why : Why) (o : Option Why) → (taken_move (takes_unless host queue item o)).answer ≡ Some (said.Strange why) → Stays host (taken_move (takes_unless host queue item o))
strange_take host queue item why None e = absurd (cc)
strange_take host queue item why (Some x) e = record { part = refl; told = refl }

told_only : (host : Host) (o : Option Entry) (why : Why) (c : Called Host (Option HostSaid)) → option_map said.Told o ≡ Some (said.Strange why) → Stays host c
told_only host None why c e = absurd (cc)
told_only host (Some x) why c e = absurd (cc)

strange_put : (host : Host) (o : Option Down) (why : Why) → (puts_down host o).answer ≡ Some (said.Strange why) → Stays host (puts_down host o)
strange_put host None why e = absurd (cc)
strange_put host (Some x) why e = absurd (cc)

strange_stays : (host : Host) (m : HostMove) (why : Why) → (moved host m).answer ≡ Some (said.Strange why) → Stays host (moved host m)
strange_stays host (move.Input i) why e = told_only host _ why (moved host (move.Input i)) e
strange_stays host (move.Up item) why e = strange_take host 0 item why (why_strange host 0 item) e
strange_stays host (move.UpOn queue item) why e = by_queue (nat_lt queue (length host.indices)) e
  where
    by_queue : (b : Bool) → (if b then taken_move (takes_up host queue item) else passed_over host).answer ≡ Some (said.Strange why) → Stays host (if b then taken_move (takes_up host queue item) else passed_over host)
    by_queue true e = strange_take host queue item why (why_strange host queue item) e
    by_queue false e = absurd (cc)
strange_stays host move.PutDown why e = strange_put host (slice_get host.out 0) why e

-- ---- the law

split : (host : Host) (a b : List HostMove) → host_talk host (a ++ b) ≡ host_talk host a ++ talk_from (length a) (after_moves host a) [] b
split host a b = talk-append 0 host a b ∙ ap (λ (p : ℕ). host_talk host a ++ talk_from p (after_moves host a) [] b) (omega arith)

pub strange_law : StrangeChangesNothing
unfolding after_moves talk_from
strange_law host before strange after why e =
    let reached : Host = after_moves host before in
    let stays = strange_stays reached strange why e in
    let later : List (ℕ × HostSaid) = talk_from (length before) reached [] after in
    let at : ℕ = length before in
    let one : talk_from at reached [] (strange ∷ after) ≡ (at, said.Strange why) ∷ map one_later later =
    ap (λ (o : Option HostSaid). placed at o (moved reached strange).told ++ talk_from (at + 1) (moved reached strange).part [] after) e
    ∙ (ap (λ (t : List Entry). placed at (Some (said.Strange why)) t ++ talk_from (at + 1) (moved reached strange).part [] after) stays.told
    ∙ (ap (λ (h : Host). (at, said.Strange why) ∷ talk_from (at + 1) h [] after) stays.part
    ∙ ap (λ t. (at, said.Strange why) ∷ t) (talk_later at reached after))) in
    record {
      part = after-append host before (strange ∷ after) ∙ (ap (λ (h : Host). after_moves h after) stays.part ∙ sym (after-append host before after));
      talk = record {
        earlier = host_talk host before;
        later = later;
        long_is = split host before (strange ∷ after) ∙ ap (λ t. host_talk host before ++ t) one;
        short_is = split host before after;
        before = talk_below 0 at host before (omega arith);
        behind = talk_behind at at reached after (omega arith);
      };
    }
