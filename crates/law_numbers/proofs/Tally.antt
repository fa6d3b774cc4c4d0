-- How many numbers and target resets are open: over the fields that are read.
use Rattle.std.proofs.Common.{◌≡◌, ◌⊎◌, inl, inr, ℕ, zero, suc, ◌+◌, ◌-◌, ◌≤◌, ◌<◌, Bool, true, false, if◌then◌else◌, List, [], ◌∷◌, ◌++◌, length, get_or, set, take, drop, count_by, Option, Some, None, refl, ap, sym, ◌∙◌, subst, arith}
use Rattle.std.specs.FinMap as finmap
use Rattle.smid_pool.specs.Pool.{Slot, Free, is_open, slot_of, slots_in}
use Rattle.smid_pool.specs.declared.class.Class.TheVariants as class
use Rattle.mpt_wire.specs.Machine.Calls.{call_of, is_call_answered, is_call_refused, refused_submit, refused_call}
use Rattle.mpt_wire.specs.Machine.Causes as calls
use Rattle.mpt_wire.specs.Machine.SoFar.{SoFar}
use Rattle.mpt_wire.specs.Machine.State.{Machine, MachineDisk, OpenRequest}
use Rattle.mpt_wire.specs.Machine.Steps.{Fails, GetsReady, Grants, Runs, after_abort_end, after_all, run_at}
use Rattle.mpt_wire.specs.Machine.View.{Seen, given_steps, seen_next, step_if, steps_of}
use Rattle.mpt_wire.specs.Walks.Ahead.{next_own, state_ahead}
use Rattle.mpt_wire.specs.Walks.Passes.{EachEntry}
use Rattle.mpt_trace.specs.declared.entry.Entry.{Entry}
use Rattle.mpt_trace.specs.declared.entry.Entry.TheVariants as entry
use Rattle.mpt_trace.specs.declared.host_state.HostState.{HostState}
use Rattle.mpt_trace.specs.declared.input.Input.{Input}
use Rattle.mpt_trace.specs.declared.input.Input.TheVariants as input
use Rattle.mpt_trace.specs.declared.item.Item.{Item}
use Rattle.mpt_trace.specs.declared.lane.LaneName.{LaneName}
use Rattle.mpt_trace.specs.declared.outcome.AbortOutcome.{AbortOutcome}
use Rattle.mpt_trace.specs.declared.outcome.AbortOutcome.TheVariants as abort
use Rattle.mpt_rules.specs.declared.request.Request.{Request}
use Rattle.mpt_rules.specs.Host.Parts.{Host}
use Rattle.mpt_rules.specs.World.Counts.{one_if}
use Rattle.law_facts.specs.Disks.{is_target}
use Rattle.law_machine.proofs.Counted.{count-cons}
use Rattle.law_disks.proofs.Dry.{refuses}
use Rattle.law_disks.proofs.Takes.{take_leaves}
use Rattle.law_disks.specs.Machine.{Requests}

-- ---- a write within a class, and outside of it

module _ (f : Slot Request → Bool) where
  same_where : (b n : ℕ) (xs : List (Slot Request)) (i : ℕ) (y : Slot Request) → f (get_or xs i Free) ≡ f y → count_by f (take n (drop b (set xs i y))) ≡ count_by f (take n (drop b xs))
  same_where b n [] i y e = refl
  same_where zero zero (x ∷ xs) i y e = refl
  same_where zero (suc n) (x ∷ xs) zero y e = let a = count-cons f y (take n xs) in let c = count-cons f x (take n xs) in let d = ap one_if e in omega (arith, a, c, d)
  same_where zero (suc n) (x ∷ xs) (suc i) y e = let a = count-cons f x (take n (set xs i y)) in let c = count-cons f x (take n xs) in let h = same_where zero n xs i y e in omega (arith, a, c, h)
  same_where (suc b) n (x ∷ xs) zero y e = refl
  same_where (suc b) n (x ∷ xs) (suc i) y e = same_where b n xs i y e

  outside : (b n : ℕ) (xs : List (Slot Request)) (i : ℕ) (y : Slot Request) → (i < b) ⊎ (b + n ≤ i) → count_by f (take n (drop b (set xs i y))) ≡ count_by f (take n (drop b xs))
  outside b n [] i y e = refl
  outside zero zero (x ∷ xs) i y e = refl
  outside zero (suc n) (x ∷ xs) zero y (inl l) = absurd (omega (arith, l))
  outside zero (suc n) (x ∷ xs) zero y (inr l) = absurd (omega (arith, l))
  outside zero (suc n) (x ∷ xs) (suc i) y (inl l) = absurd (omega (arith, l))
  outside zero (suc n) (x ∷ xs) (suc i) y (inr l) = let a = count-cons f x (take n (set xs i y)) in let c = count-cons f x (take n xs) in let h = outside zero n xs i y (inr (omega (arith, l))) in omega (arith, a, c, h)
  outside (suc b) n (x ∷ xs) zero y e = refl
  outside (suc b) n (x ∷ xs) (suc i) y (inl l) = outside b n xs i y (inl (omega (arith, l)))
  outside (suc b) n (x ∷ xs) (suc i) y (inr l) = outside b n xs i y (inr (omega (arith, l)))

  inside : (b n : ℕ) (xs : List (Slot Request)) (i : ℕ) (y : Slot Request) → b ≤ i → i < b + n → i < length xs → count_by f (take n (drop b (set xs i y))) + one_if (f (get_or xs i Free)) ≡ count_by f (take n (drop b xs)) + one_if (f y)
  inside b n [] i y l m k = absurd (omega (arith, k))
  inside zero zero (x ∷ xs) i y l m k = absurd (omega (arith, m))
  inside zero (suc n) (x ∷ xs) zero y l m k = let a = count-cons f y (take n xs) in let c = count-cons f x (take n xs) in omega (arith, a, c)
  inside zero (suc n) (x ∷ xs) (suc i) y l m k = let a = count-cons f x (take n (set xs i y)) in let c = count-cons f x (take n xs) in let h = inside zero n xs i y (omega arith) (omega (arith, m)) (omega (arith, k)) in omega (arith, a, c, h)
  inside (suc b) n (x ∷ xs) zero y l m k = absurd (omega (arith, l))
  inside (suc b) n (x ∷ xs) (suc i) y l m k = inside b n xs i y (omega (arith, l)) (omega (arith, m)) (omega (arith, k))

  place_of : (pool : List (Slot Request)) (s : ℕ) → 1 ≤ s → get_or pool (s - 1) Free ≡ slot_of pool s
  place_of pool zero l = absurd (omega (arith, l))
  place_of pool (suc i) l = let k : suc i - 1 ≡ i = omega arith in ap (λ j. get_or pool j Free) k

  pub kept_where : (b n : ℕ) (pool : List (Slot Request)) (s : ℕ) (y : Slot Request) → 1 ≤ s → f (slot_of pool s) ≡ f y → count_by f (take n (drop b (set pool (s - 1) y))) ≡ count_by f (take n (drop b pool))
  kept_where b n pool s y l e = same_where b n pool (s - 1) y (ap f (place_of pool s l) ∙ e)

  pub kept_outside : (b n : ℕ) (pool : List (Slot Request)) (s : ℕ) (y : Slot Request) → (s - 1 < b) ⊎ (b + n ≤ s - 1) → count_by f (take n (drop b (set pool (s - 1) y))) ≡ count_by f (take n (drop b pool))
  kept_outside b n pool s y e = outside b n pool (s - 1) y e

  pub moved_inside : (b n : ℕ) (pool : List (Slot Request)) (s : ℕ) (y : Slot Request) → 1 ≤ s → b ≤ s - 1 → s - 1 < b + n → s - 1 < length pool → count_by f (take n (drop b (set pool (s - 1) y))) + one_if (f (slot_of pool s)) ≡ count_by f (take n (drop b pool)) + one_if (f y)
  moved_inside b n pool s y l m k j = let h = inside b n pool (s - 1) y m k j in let e = ap (λ x. one_if (f x)) (place_of pool s l) in omega (arith, h, e)

-- ---- what is counted

pub record Counts (mode : HostState) (requests : Requests) (all : ℕ) (host_mode : HostState) (pool : List (Slot Request)) : Type 0 where
  pub modes : mode ≡ host_mode
  pub opens : finmap.len requests ≡ count_by is_open (slots_in class.ScsiIo pool)
  pub targets : all ≡ count_by is_target (slots_in class.High pool)

abbrev pub Tallies : Machine → Host → Type 0
Tallies m x = Counts m.mode m.requests m.all_resets x.mode x.pool

pub record Alike (x y : Host) : Type 0 where
  pub modes : y.mode ≡ x.mode
  pub opens : count_by is_open (slots_in class.ScsiIo y.pool) ≡ count_by is_open (slots_in class.ScsiIo x.pool)
  pub targets : count_by is_target (slots_in class.High y.pool) ≡ count_by is_target (slots_in class.High x.pool)

pub alike : (x y : Host) → y.mode ≡ x.mode → y.pool ≡ x.pool → Alike x y
alike x y m p = record { modes = m; opens = ap (λ q. count_by is_open (slots_in class.ScsiIo q)) p; targets = ap (λ q. count_by is_target (slots_in class.High q)) p }

pub alike_then : (x y z : Host) → Alike x y → Alike y z → Alike x z
alike_then x y z p q = record { modes = q.modes ∙ p.modes; opens = q.opens ∙ p.opens; targets = q.targets ∙ p.targets }

pub tallies_alike : (m : Machine) (x y : Host) → Alike x y → Tallies m x → Tallies m y
tallies_alike m x y l g = record { modes = g.modes ∙ sym l.modes; opens = g.opens ∙ sym l.opens; targets = g.targets ∙ sym l.targets }

-- a slot above the commands' is written over, and neither of it is a target reset's
pub write : (x : Host) (s : ℕ) (y : Slot Request) → 257 ≤ s → is_target (slot_of x.pool s) ≡ false → is_target y ≡ false → Alike x (record x { pool = set x.pool (s - 1) y })
write x s y l e t = record { modes = refl; opens = kept_outside is_open 0 256 x.pool s y (inr (omega (arith, l))); targets = kept_where is_target 256 8 x.pool s y (omega (arith, l)) (e ∙ sym t) }

-- ---- entries that say nothing of these

abbrev pub IsStill : Entry → Type 0
IsStill (entry.Given input.Start) = ⊥
IsStill (entry.Given input.Reset) = ⊥
IsStill (entry.Given input.UnitReset) = ⊥
IsStill (entry.Given (input.TargetReset a)) = ⊥
IsStill entry.HostUp = ⊥
IsStill (entry.Accept n a s) = ⊥
IsStill (entry.Answer n how) = ⊥
IsStill (entry.TargetEnd a how) = ⊥
IsStill entry.ResetDone = ⊥
IsStill e = Unit {0}

module _ (x : Host) where
  maybe : (m : Machine) (c : calls.Call) (b : Bool) → Tallies m x → Tallies (after_all m (Grants c ∷ [])) x → Tallies (after_all m (if b then [] else Grants c ∷ [])) x
  maybe m c true s g = s
  maybe m c false s g = g

  given : (m : Machine) (i : Input) (ahead : Option Entry) → IsStill (entry.Given i) → Tallies m x → Tallies (after_all m (given_steps (call_of i) ahead)) x
  given m (input.Submit n a form) ahead d s = by_test (is_call_answered n ahead)
    where
      by_test : (b : Bool) → Tallies (after_all m (if b then [] else Fails ∷ [])) x
      by_test true = s
      by_test false = s
  given m (input.Abort n) ahead d s = maybe m (calls.Abort n) (is_call_refused (calls.Abort n) ahead) s s
  given m (input.Plug a e p) ahead d s = maybe m (call_of (input.Plug a e p)) (is_call_refused (call_of (input.Plug a e p)) ahead) s s
  given m (input.Unplug a) ahead d s = maybe m (calls.Unplug a) (is_call_refused (calls.Unplug a) ahead) s s
  given m input.Start ahead d s = absurd d
  given m (input.TargetReset a) ahead d s = absurd d
  given m input.Reset ahead d s = absurd d
  given m input.UnitReset ahead d s = absurd d

  ran : (m : Machine) (n a : ℕ) (o : Option OpenRequest) (d : Option MachineDisk) → Tallies m x → Tallies (run_at m n a o d) x
  ran m n a None d s = s
  ran m n a (Some r) None s = s
  ran m n a (Some r) (Some d) s = s

  runs : (m : Machine) (a : ℕ) (o : Option ℕ) → Tallies m x → Tallies (after_all m (step_if o (λ n. Runs n a) ∷ [])) x
  runs m a None s = s
  runs m a (Some n) s = ran m n a (finmap.get m.requests n) (m.disks a) s

  readied : (m : Machine) (a : ℕ) (o : Option ℕ) → Tallies m x → Tallies (after_all m (step_if o (λ k. GetsReady a k) ∷ [])) x
  readied m a None s = s
  readied m a (Some k) s = s

  aborted : (m : Machine) (n : ℕ) (how : AbortOutcome) → Tallies m x → Tallies (after_abort_end m n how) x
  aborted m n abort.Stopped s = s
  aborted m n abort.NotFound s = s
  aborted m n abort.Reset s = s

  pub taken_still : (m : Machine) (g : SoFar) (l : LaneName) (i : Item) (ahead : Option Entry) → Tallies m x → Tallies (after_all m (steps_of g (entry.Take l i) ahead)) x
  taken_still m g l i ahead s = let t = take_leaves m g l i ahead in subst (λ o. Tallies o x) (sym t.1) s

  still_entry : (m : Machine) (g : SoFar) (e : Entry) (ahead : Option Entry) → IsStill e → Tallies m x → Tallies (after_all m (steps_of g e ahead)) x
  still_entry m g (entry.Given i) ahead d s = given m i ahead d s
  still_entry m g (entry.Take l i) ahead d s = taken_still m g l i ahead s
  still_entry m g (entry.Run a q) ahead d s = runs m a (g.number_of q) s
  still_entry m g (entry.RefuseSubmit n c) ahead d s = subst (λ o. Tallies o x) (sym (refuses m (refused_submit g.host_call n) c)) s
  still_entry m g (entry.Refuse call c) ahead d s = subst (λ o. Tallies o x) (sym (refuses m (refused_call g.fabric_call call) c)) s
  still_entry m g (entry.Ready a h) ahead d s = readied m a (g.plug_of h) s
  still_entry m g (entry.AbortEnd n how) ahead d s = aborted m n how s
  still_entry m g (entry.Accept n a q) ahead d s = absurd d
  still_entry m g (entry.Answer n how) ahead d s = absurd d
  still_entry m g (entry.TargetEnd a how) ahead d s = absurd d
  still_entry m g entry.ResetDone ahead d s = absurd d
  still_entry m g entry.HostUp ahead d s = absurd d
  still_entry m g (entry.Lost a h) ahead d s = s
  still_entry m g (entry.Idle c) ahead d s = s
  still_entry m g (entry.Put l i) ahead d s = s
  still_entry m g (entry.Bind h a k) ahead d s = s
  still_entry m g (entry.Unbind h) ahead d s = s
  still_entry m g entry.UnbindAll ahead d s = s

  pub still_all : (g : Seen) (t : List Entry) → EachEntry IsStill t → Tallies g.machine x → Tallies (state_ahead seen_next g t []).machine x
  still_all g [] d s = s
  still_all g (e ∷ t) d s = still_all (seen_next g e (next_own e (t ++ []))) t d.1 (still_entry g.machine g.so_far e (next_own e (t ++ [])) d.0 s)
