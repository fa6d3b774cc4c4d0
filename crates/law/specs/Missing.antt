-- What isn't proved yet of the facts of a world behind a case.
use Rattle.std.specs.Prelude.{◌≡◌, ◌≤◌, ◌+◌, ℕ, true, false, All, length, filter_map, map, count_by}
use Rattle.std.specs.FinSet as set
use Rattle.mpi_rings.specs.declared.request_descriptor.PostKind.TheVariants as post
use Rattle.removal.specs.Handles.{IsHandle}
use Rattle.smid_pool.specs.Pool.{is_open, is_parked, is_taken, slots_in}
use Rattle.smid_pool.specs.declared.class.Class.TheVariants.{High, ScsiIo}
use Rattle.mpt_wire.specs.Machine.Causes.{is_resetting}
use Rattle.mpt_rules.specs.World.Counts.{how_many}
use Rattle.mpt_rules.specs.World.Lines.{up_line}
use Rattle.mpt_rules.specs.World.State.{World}
use Rattle.law_facts.specs.Clock.{in_normal, is_live}
use Rattle.law_facts.specs.Disks.{NeverMade, NewHandle, OpenNumber, is_leaving}
use Rattle.law_facts.specs.Handles.{IsLetGo, OlderFirst, PageIs, Pages, is_let_go, phase_of}
use Rattle.law_facts.specs.History.{History}
use Rattle.law_facts.specs.Messages.{SaidIs}
use Rattle.law_facts.specs.Paths.{AbortFits, is_held_slot, taking_out, waiting_aborts, was_stopped}
use Rattle.law_facts.specs.Ties.{HeardOf, PostHeard, ReadyHeard, is_unput_notification, made_by, want_of}
use Rattle.law_facts.specs.Words.{slot}
use Rattle.mpt_rules.specs.World.Counts.{one_if}

-- of the machine's counts
pub record MissingCounts (w : World) (h : History) : Type 0 where
  pub aborts : set.len (set.intersection h.machine.aborts h.machine.closed) ≡ count_by is_parked (slots_in ScsiIo w.host.pool)
  pub leaving : in_normal w ≡ true → h.machine.leaving ≡ how_many is_leaving w.host.phases
  pub high : in_normal w ≡ true → set.len h.machine.aborts + (h.machine.all_resets + h.machine.leaving) ≡ count_by is_taken (slots_in High w.host.pool) + length w.host.wait_high

-- of what aborts stop
pub record MissingStops (w : World) (h : History) (s : ℕ) : Type 0 where
  pub waiting : is_resetting w.host.mode ≡ false → is_held_slot (slot w.host s) ≡ true → (h.stopping s).life.waiting ≡ waiting_aborts w s 1 w.host.pool
  pub at_least : is_live w ≡ true → is_held_slot (slot w.host s) ≡ true → waiting_aborts w s 1 w.host.pool ≤ (h.stopping s).life.waiting
  pub taken : is_live w ≡ true → is_held_slot (slot w.host s) ≡ true → (h.stopping s).life.taken_out + taking_out w h s ≡ one_if (was_stopped w h s)

pub record Missing (w : World) (h : History) : Type 0 where
  -- handles
  pub let_go : (handle : ℕ) → IsHandle handle → is_live w ≡ true → is_let_go w handle ≡ true → IsLetGo w handle
  pub pages : (handle : ℕ) → IsHandle handle → Pages w handle
  pub page_is : is_live w ≡ true → All (PageIs w h) (up_line w 0)
  pub older : (j k : ℕ) → OlderFirst w h j k
  -- messages
  pub said : (queue : ℕ) → All (SaidIs w h queue) (up_line w queue)
  -- paths
  pub stops : (s : ℕ) → 1 ≤ s → s ≤ 256 → MissingStops w h s
  pub aborts : (q : ℕ) → AbortFits w h q (slot w.host q)
  -- the machine of disks
  pub counts : MissingCounts w h
  pub opened : (n : ℕ) → OpenNumber w h n
  pub new : in_normal w ≡ true → (handle : ℕ) → NewHandle w h handle
  pub never : in_normal w ≡ true → NeverMade w h
  -- what ties entries
  pub heard : (s : ℕ) → HeardOf w h s (slot w.host s)
  pub unheard : All (PostHeard w h) w.host.out
  pub ready : in_normal w ≡ true → (handle : ℕ) → IsHandle handle → ReadyHeard h handle (phase_of w handle)
  pub made : h.giving.internal.made ≡ filter_map (made_by post.Default) w.host.out
  pub waiting : h.giving.internal.waiting ≡ map want_of w.host.wait_internal
  pub given : (s : ℕ) → 265 ≤ s → s ≤ 280 → is_unput_notification w s (slot w.host s) ≡ false → h.giving.internal.is_open s ≡ is_open (slot w.host s)
