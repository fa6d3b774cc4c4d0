-- A schedule that is carried out whole is carried out turn by turn.
use Rattle.std.proofs.Common.{◌≡◌, ℕ, zero, suc, ◌+◌, Bool, true, false, List, [], ◌∷◌, ◌++◌, map, replicate, Option, Some, None, refl, ap, sym, ◌∙◌, append-nil, append_assoc, arith}
use Rattle.std.proofs.lemmas.List.{length-replicate, length-set}
use Rattle.mpt_trace.specs.declared.choice.Choice.{Choice}
use Rattle.mpt_trace.specs.declared.choice.Choice.TheVariants as choice
use Rattle.mpt_trace.specs.declared.input.Input.{Input}
use Rattle.mpt_trace.specs.declared.input.Input.TheVariants as input
use Rattle.mpt_trace.specs.declared.entry.Entry.{Entry}
use Rattle.mpt_trace.specs.declared.item.Back.{Back}
use Rattle.mpt_trace.specs.declared.item.Down.{Down}
use Rattle.mpt_trace.specs.declared.item.Out.{Out}
use Rattle.mpt_trace.specs.declared.item.Up.{Up}
use Rattle.mpt_wire.specs.Fits.Lines.{Line, Asked, Stepped, Drained, LineTurn, Steps, Tries, Try, rounds, tries_of_round, turns}
use Rattle.mpt_rules.specs.Outcome.{Happening}
use Rattle.mpt_rules.specs.Fabric.Calls.{announces, runs}
use Rattle.mpt_rules.specs.Fabric.Parts.{Fabric}
use Rattle.mpt_rules.specs.Ioc.Parts.{Ioc}
use Rattle.mpt_rules.specs.Ioc.Takes.{front_out, front_up_on, steps_high, steps_normal}
use Rattle.mpt_rules.specs.World.Cases.{Chosen, Told, case_of, happens, moves_or_idles}
use Rattle.mpt_rules.specs.World.Drain.{behind, choice_of, drain_with, drains, followed_by, moves_if, round, rounds_with, tries, tries_choice, world_quiet}
use Rattle.mpt_rules.specs.World.Moves.{fabric_puts, fabric_ran, fabric_says, fabric_takes, host_puts, host_takes, host_takes_above, ioc_puts, ioc_puts_above, ioc_puts_out, ioc_takes, ioc_takes_back, ioc_worked, moves}
use Rattle.mpt_rules.specs.World.Replays.{carries_out, replays, steps}
use Rattle.mpt_rules.specs.World.Settings.{Setting, first_world}
use Rattle.mpt_rules.specs.World.State.{World, nothing, queues_of, up_on}
use Rattle.mpt_rules.specs.World.TurnsDone.{does_turn, does_turns}
use Rattle.mpt_rules.specs.World.Weight.{weight}

-- ---- there are as many lanes up as before

-- the outcome of a step, if it moved, has as many lanes up as the world
abbrev KeepsLanes : World → Option (Happening World) → Type 0
KeepsLanes w None = Unit {0}
KeepsLanes w (Some o) = queues_of o.part ≡ queues_of w

module _ (w : World) where
  down_put : (xs : List Down) → KeepsLanes w (host_puts w xs)
  down_put [] = tt
  down_put (x ∷ xs) = refl

  out_put : (o : Option Out) → KeepsLanes w (ioc_puts_out w o)
  out_put None = tt
  out_put (Some x) = refl

  up_put : (queue : ℕ) (o : Option Up) → KeepsLanes w (ioc_puts w queue o)
  up_put queue None = tt
  up_put queue (Some x) = length-set w.up queue (up_on w queue ++ x ∷ [])

  back_put : (xs : List Back) → KeepsLanes w (fabric_puts w xs)
  back_put [] = tt
  back_put (x ∷ xs) = refl

  up_taken : (queue : ℕ) (xs : List Up) → KeepsLanes w (host_takes w queue xs)
  up_taken queue [] = tt
  up_taken queue (x ∷ xs) = length-set w.up queue xs

  down_taken : (xs : List Down) → KeepsLanes w (ioc_takes w xs)
  down_taken [] = tt
  down_taken (x ∷ xs) = refl

  back_taken : (xs : List Back) → KeepsLanes w (ioc_takes_back w xs)
  back_taken [] = tt
  back_taken (x ∷ xs) = refl

  out_taken : (xs : List Out) → KeepsLanes w (fabric_takes w xs)
  out_taken [] = tt
  out_taken (x ∷ xs) = refl

  worked : (b : Bool) (ioc : Ioc) (told : List Entry) → KeepsLanes w (ioc_worked w b ioc told)
  worked false ioc told = tt
  worked true ioc told = refl

  said : (o : Option Fabric) → KeepsLanes w (fabric_says w o)
  said None = tt
  said (Some f) = refl

  ran : (tag : ℕ) (o : Option ℕ) (f : Fabric) → KeepsLanes w (fabric_ran w tag o f)
  ran tag None f = tt
  ran tag (Some a) f = refl

  taken_above : (queue : ℕ) → KeepsLanes w (host_takes_above w queue)
  taken_above zero = tt
  taken_above (suc queue) = up_taken (suc queue) (up_on w (suc queue))

  put_above : (queue : ℕ) → KeepsLanes w (ioc_puts_above w queue)
  put_above zero = tt
  put_above (suc queue) = up_put (suc queue) (front_up_on w.ioc (suc queue))

  moved : (c : Choice) → KeepsLanes w (moves w c)
  moved choice.HostPut = down_put w.host.out
  moved choice.HostTake = up_taken 0 (up_on w 0)
  moved (choice.HostTakeOn queue) = taken_above queue
  moved choice.IocTake = down_taken w.down
  moved choice.IocHigh = worked (steps_high w.ioc).answer (steps_high w.ioc).part (steps_high w.ioc).told
  moved choice.IocNormal = worked (steps_normal w.ioc).answer (steps_normal w.ioc).part (steps_normal w.ioc).told
  moved choice.IocOut = out_put (front_out w.ioc)
  moved choice.IocBack = back_taken w.back
  moved choice.IocPut = up_put 0 (front_up_on w.ioc 0)
  moved (choice.IocPutOn queue) = put_above queue
  moved choice.FabricTake = out_taken w.out
  moved choice.FabricSay = said (announces w.fabric)
  moved choice.FabricPut = back_put w.fabric.out
  moved (choice.FabricRun tag) = ran tag (runs w.fabric tag).answer (runs w.fabric tag).part

  if_moved : (o : Option (Happening World)) → KeepsLanes w o → queues_of (moves_if w o).part ≡ queues_of w
  if_moved None k = refl
  if_moved (Some o) k = k

  or_idle : (c : Choice) (o : Option (Happening World)) → KeepsLanes w o → queues_of (moves_or_idles w c o).part ≡ queues_of w
  or_idle c None k = refl
  or_idle c (Some o) k = k

  tried_choice : (c : Option Choice) → queues_of (tries_choice w c).part ≡ queues_of w
  tried_choice None = refl
  tried_choice (Some c) = if_moved (moves w c) (moved c)

  pub tried : (t : Try) → queues_of (tries w t).part ≡ queues_of w
  tried t = tried_choice (choice_of w t)

  chosen : (c : Choice) → queues_of (happens w (Chosen c)) ≡ queues_of w
  chosen c = or_idle c (moves w c) (moved c)

  told : (i : Input) → queues_of (happens w (Told i)) ≡ queues_of w
  told input.Start = refl
  told (input.Submit n address form) = refl
  told (input.Abort n) = refl
  told (input.TargetReset address) = refl
  told input.Reset = refl
  told input.UnitReset = refl
  told (input.Plug address expander phy) = refl
  told (input.Unplug address) = refl

pub followed : (o : Happening World) (ts : List Try) → queues_of (followed_by o ts).part ≡ queues_of o.part
unfolding followed_by
followed o [] = refl
followed o (t ∷ ts) = followed (tries o.part t) ts ∙ tried o.part t

pub rounded : (w : World) → queues_of (round w).part ≡ queues_of w
rounded w = followed (nothing w) (tries_of_round (queues_of w))

drained_with : (fuel : ℕ) (w : World) → queues_of (drain_with fuel w).part ≡ queues_of w
unfolding drain_with
drained_with zero w = refl
drained_with (suc fuel) w = by_quiet (world_quiet w) (drained_with fuel (round w).part ∙ rounded w)
  where
    by_quiet : (b : Bool) → queues_of (drain_with fuel (round w).part).part ≡ queues_of w → (let o : Happening World = elim b [
      | true ↦ nothing w
      | false ↦ (let first : Happening World = round w in behind first.entries (drain_with fuel first.part))
    ] in queues_of o.part ≡ queues_of w)
    by_quiet true more = refl
    by_quiet false more = more

stepped : (count : ℕ) (c : Choice) (w : World) → queues_of (steps count c w).part ≡ queues_of w
unfolding steps
stepped zero c w = refl
stepped (suc more) c w = stepped more c (happens w (Chosen c)) ∙ chosen w c

carried_out : (w : World) (line : Line) → queues_of (carries_out w line).part ≡ queues_of w
carried_out w (Asked i) = told w i
carried_out w (Stepped c count) = stepped count c w
carried_out w Drained = drained_with (weight w) w

-- ---- turns, one after the other

pub does_turns-append : (w : World) (ts us : List LineTurn) → does_turns w (ts ++ us) ≡ behind (does_turns w ts).entries (does_turns (does_turns w ts).part us)
unfolding does_turns
does_turns-append w [] us = refl
does_turns-append w (t ∷ ts) us =
    ap (behind (does_turn w t).entries) (does_turns-append (does_turn w t).part ts us)
    ∙ ap (λ es. record { part = (does_turns (does_turns w (t ∷ ts)).part us).part; entries = es })
    (sym (append_assoc (does_turn w t).entries (does_turns (does_turn w t).part ts).entries (does_turns (does_turns w (t ∷ ts)).part us).entries))

steps_turned : (count : ℕ) (c : Choice) (w : World) → steps count c w ≡ does_turns w (replicate count (Steps c))
unfolding steps does_turns
steps_turned zero c w = refl
steps_turned (suc more) c w = ap (behind (case_of w (Chosen c)).entries) (steps_turned more c (happens w (Chosen c)))

pub tries_turned : (o : Happening World) (ts : List Try) → followed_by o ts ≡ behind o.entries (does_turns o.part (map Tries ts))
unfolding followed_by does_turns
tries_turned o [] = ap (λ es. record { part = o.part; entries = es }) (sym (append-nil o.entries))
tries_turned o (t ∷ ts) = ap (behind o.entries) (tries_turned (tries o.part t) ts)

pub round_turned : (q : ℕ) (w : World) → queues_of w ≡ q → round w ≡ does_turns w (map Tries (tries_of_round q))
round_turned q w e = tries_turned (nothing w) (tries_of_round (queues_of w)) ∙ ap (λ n. does_turns w (map Tries (tries_of_round n))) e

-- a round, and what a drain does behind it
round_more : (q fuel : ℕ) (w : World) → queues_of w ≡ q
    → drain_with fuel (round w).part ≡ does_turns (round w).part (rounds q (rounds_with fuel (round w).part))
    → behind (round w).entries (drain_with fuel (round w).part) ≡ does_turns w (rounds q (suc (rounds_with fuel (round w).part)))
round_more q fuel w e more =
    ap (behind (round w).entries) more
    ∙ (ap (λ (o : Happening World). behind o.entries (does_turns o.part (rounds q (rounds_with fuel (round w).part)))) (round_turned q w e)
    ∙ sym (does_turns-append w (map Tries (tries_of_round q)) (rounds q (rounds_with fuel (round w).part))))

pub drain_turned : (q fuel : ℕ) (w : World) → queues_of w ≡ q → drain_with fuel w ≡ does_turns w (rounds q (rounds_with fuel w))
unfolding drain_with rounds_with does_turns
drain_turned q zero w e = refl
drain_turned q (suc fuel) w e = by_quiet (world_quiet w) (round_more q fuel w e (drain_turned q fuel (round w).part (rounded w ∙ e)))
  where
    one_more : 1 + rounds_with fuel (round w).part ≡ suc (rounds_with fuel (round w).part)
    one_more = omega arith

    by_quiet : (b : Bool) → behind (round w).entries (drain_with fuel (round w).part) ≡ does_turns w (rounds q (suc (rounds_with fuel (round w).part))) → (let o : Happening World = elim b [
      | true ↦ nothing w
      | false ↦ (let first : Happening World = round w in behind first.entries (drain_with fuel first.part))
    ] in let n : ℕ = elim b [ true ↦ 0 | false ↦ 1 + rounds_with fuel (round w).part ] in o ≡ does_turns w (rounds q n))
    by_quiet true more = refl
    by_quiet false more = more ∙ ap (λ m. does_turns w (rounds q m)) (sym one_more)

-- the numbers of rounds of the drains of these lines
abbrev drains_of : World → List Line → List ℕ
drains_of w [] = []
drains_of w (Asked i ∷ lines) = drains_of (carries_out w (Asked i)).part lines
drains_of w (Stepped c count ∷ lines) = drains_of (carries_out w (Stepped c count)).part lines
drains_of w (Drained ∷ lines) = rounds_with (weight w) w ∷ drains_of (drains w).part lines

-- a line's turns before those of the lines behind it
behind_turns : (w : World) (line : Line) (lines : List Line) (ts us : List LineTurn) → carries_out w line ≡ does_turns w ts
    → replays (carries_out w line).part lines ≡ does_turns (carries_out w line).part us → replays w (line ∷ lines) ≡ does_turns w (ts ++ us)
unfolding replays
behind_turns w line lines ts us first rest =
    ap (behind (carries_out w line).entries) rest
    ∙ (ap (λ (o : Happening World). behind o.entries (does_turns o.part us)) first ∙ sym (does_turns-append w ts us))

turned : (q : ℕ) (w : World) (lines : List Line) → queues_of w ≡ q → replays w lines ≡ does_turns w (turns q (drains_of w lines) lines)
unfolding replays does_turns
turned q w [] e = refl
turned q w (Asked i ∷ lines) e =
    ap (behind (case_of w (Told i)).entries) (turned q (carries_out w (Asked i)).part lines (carried_out w (Asked i) ∙ e))
turned q w (Stepped c count ∷ lines) e =
    behind_turns w (Stepped c count) lines (replicate count (Steps c)) (turns q (drains_of w (Stepped c count ∷ lines)) lines) (steps_turned count c w)
    (turned q (carries_out w (Stepped c count)).part lines (carried_out w (Stepped c count) ∙ e))
turned q w (Drained ∷ lines) e =
    behind_turns w Drained lines (rounds q (rounds_with (weight w) w)) (turns q (drains_of (drains w).part lines) lines) (drain_turned q (weight w) w e)
    (turned q (carries_out w Drained).part lines (carried_out w Drained ∙ e))

pub replays_turned : (s : Setting) (lines : List Line)
    → (drains : List ℕ) × (replays (first_world s) lines ≡ does_turns (first_world s) (turns s.queues drains lines))
replays_turned s lines = (drains_of (first_world s) lines, turned s.queues (first_world s) lines (length-replicate s.queues []))
