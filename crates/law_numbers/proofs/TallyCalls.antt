-- What the host's calls do to how many numbers and target resets are open, with what they tell.
use Rattle.std.proofs.Common.{◌≡◌, ◌≢◌, inl, inr, ℕ, ◌-◌, ◌≤◌, ◌<◌, ◌==◌, cond, Bool, true, false, if◌then◌else◌, List, [], ◌∷◌, ◌++◌, length, set, Option, Some, None, is_some, refl, ap, sym, ◌∙◌, arith}
use Rattle.std.specs.FinMap as finmap
use Rattle.smid_pool.specs.Pool.{Slot, Free, Open, Parked, is_open, least_free, slot_of}
use Rattle.std.proofs.lemmas.Cmp.{nat_cmp_total}
use Rattle.mpt_trace.specs.declared.outcome.Outcome.{Outcome as Ending}
use Rattle.smid_pool.specs.declared.class.Class.TheVariants as class
use Rattle.removal.specs.Handles.{phase_at, with_phase}
use Rattle.removal.specs.Phases.{after_added, after_gone, after_page, after_removed, after_task_done}
use Rattle.removal.specs.declared.phase.Phase.{Phase}
use Rattle.removal.specs.declared.phase.Phase.TheVariants as phase
use Rattle.mpt_wire.specs.Machine.Causes.{is_resetting}
use Rattle.mpt_wire.specs.Messages.Fields.{Change, changes_in, event_context_in, event_in, smid_in, target_added, target_not_responding}
use Rattle.mpt_wire.specs.Machine.State.{put_at}
use Rattle.mpt_wire.specs.Machine.View.{Seen, seen_next}
use Rattle.mpt_wire.specs.Walks.Ahead.{state_ahead}
use Rattle.mpt_wire.specs.Walks.Passes.{EachEntry}
use Rattle.mpt_trace.specs.declared.entry.Entry.{Entry}
use Rattle.mpt_trace.specs.declared.entry.Entry.TheVariants as entry
use Rattle.mpt_rules.specs.declared.request.Request.{Request}
use Rattle.mpt_rules.specs.declared.request.Request.TheVariants as request
use Rattle.mpt_rules.specs.Host.Parts.{Host}
use Rattle.mpt_rules.specs.Host.Posts as asks
use Rattle.mpt_rules.specs.Host.Removal as removal
use Rattle.mpt_rules.specs.Host.Replies as replies
use Rattle.mpt_rules.specs.Host.Replies.{Heard}
use Rattle.mpt_rules.specs.Host.Returns as returns
use Rattle.mpt_rules.specs.Outcome.{Happening}
use Rattle.mpt_rules.specs.World.Counts.{one_if}
use Rattle.law_flights.proofs.HostHolds.{in_table, slot_of-set}
use Rattle.law_flights.proofs.Least.{IsLeast, least_is}
use Rattle.law_numbers.proofs.Agree.{freed_there}
use Rattle.law_numbers.proofs.Tally.{Alike, Counts, IsStill, Tallies, alike, alike_then, kept_outside, kept_where, moved_inside, still_all, tallies_alike, write}
use Rattle.law_facts.specs.Disks.{is_target}

abbrev parked : Slot Request
parked = Parked

parked_apart : parked ≢ Free
parked_apart e = cc

-- ---- posts

post : (x : Host) (s : ℕ) (r : Request) → 257 ≤ s → (is_target (slot_of x.pool s) ≡ false) → is_target (Open r) ≡ false → Alike x (record x { pool = set x.pool (s - 1) (Open r) })
post x s r l e t = write x s (Open r) l e t

leave : (x : Host) (s handle : ℕ) → 257 ≤ s → (is_target (slot_of x.pool s) ≡ false) → Alike x (asks.posts_leave x s handle)
leave x s handle l e = let p = post x s (request.Leave handle) l e refl in record { modes = p.modes; opens = p.opens; targets = p.targets }

internal : (x : Host) (s : ℕ) (r : Request) → 257 ≤ s → (is_target (slot_of x.pool s) ≡ false) → Alike x (asks.posts_internal x s r)
internal x s (request.Page handle) l e = let p = post x s (request.Page handle) l e refl in record { modes = p.modes; opens = p.opens; targets = p.targets }
internal x s (request.Remove handle) l e = let p = post x s (request.Remove handle) l e refl in record { modes = p.modes; opens = p.opens; targets = p.targets }
internal x s (request.Ack ev context) l e = let p = post x s (request.Ack ev context) l e refl in record { modes = p.modes; opens = p.opens; targets = p.targets }
internal x s request.Notification l e = let p = post x s request.Notification l e refl in record { modes = p.modes; opens = p.opens; targets = p.targets }
internal x s request.PortEnable l e = let p = post x s request.PortEnable l e refl in record { modes = p.modes; opens = p.opens; targets = p.targets }
internal x s (request.Command n) l e = alike x x refl refl
internal x s (request.Abort n task) l e = alike x x refl refl
internal x s (request.TargetReset a) l e = alike x x refl refl
internal x s (request.Leave handle) l e = alike x x refl refl

free_slot : (x : Slot Request) → x ≡ Free → is_target x ≡ false
free_slot x e = ap is_target e

pub asks_internal : (x : Host) (r : Request) → Alike x (asks.asks_internal x r)
asks_internal x r = by_free (least_free class.Internal x.pool) (λ s e. least_is class.Internal x.pool s e)
  where
    by_free : (o : Option ℕ) → ((s : ℕ) → o ≡ Some s → IsLeast class.Internal x.pool s) → Alike x (asks.posts_internal_or_waits x r o)
    by_free None f = alike x (record x { wait_internal = x.wait_internal ++ r ∷ [] }) refl refl
    by_free (Some s) f = let l = f s refl in let i = l.inside in internal x s r (omega (arith, i)) (free_slot (slot_of x.pool s) l.free)

asks_leave : (x : Host) (handle : ℕ) → Alike x (asks.asks_leave x handle)
asks_leave x handle = by_free (least_free class.High x.pool) (λ s e. least_is class.High x.pool s e)
  where
    by_free : (o : Option ℕ) → ((s : ℕ) → o ≡ Some s → IsLeast class.High x.pool s) → Alike x (asks.posts_leave_or_waits x handle o)
    by_free None f = alike x (record x { wait_high = x.wait_high ++ handle ∷ [] }) refl refl
    by_free (Some s) f = let l = f s refl in let i = l.inside in leave x s handle (omega (arith, i)) (free_slot (slot_of x.pool s) l.free)

-- ---- a slot is freed, and given on

module _ (s : ℕ) (l : 257 ≤ s) where
  frees : (x : Host) → (is_target (slot_of x.pool s) ≡ false) → Alike x (asks.frees x s)
  frees x e = write x s Free l e refl

  gives_high : (x : Host) (hs : List ℕ) → slot_of x.pool s ≡ Free → Alike x (asks.gives_high x s hs)
  gives_high x [] e = alike x x refl refl
  gives_high x (handle ∷ rest) e = let p = leave (record x { wait_high = rest }) s handle l (free_slot (slot_of x.pool s) e) in record { modes = p.modes; opens = p.opens; targets = p.targets }

  gives_internal : (x : Host) (rs : List Request) → slot_of x.pool s ≡ Free → Alike x (asks.gives_internal x s rs)
  gives_internal x [] e = alike x x refl refl
  gives_internal x (r ∷ rest) e = let p = internal (record x { wait_internal = rest }) s r l (free_slot (slot_of x.pool s) e) in record { modes = p.modes; opens = p.opens; targets = p.targets }

  frees_high : (x : Host) → (is_target (slot_of x.pool s) ≡ false) → Alike x (asks.frees_high x s)
  frees_high x e = alike_then x (asks.frees x s) (asks.frees_high x s) (frees x e) (gives_high (asks.frees x s) x.wait_high (freed_there x.pool s (omega (arith, l))))

  frees_internal : (x : Host) → (is_target (slot_of x.pool s) ≡ false) → Alike x (asks.frees_internal x s)
  frees_internal x e = alike_then x (asks.frees x s) (asks.frees_internal x s) (frees x e) (gives_internal (asks.frees x s) x.wait_internal (freed_there x.pool s (omega (arith, l))))

-- ---- calls that tell nothing of these

pub record Calmly (x : Host) (o : Happening Host) : Type 0 where
  pub told : EachEntry IsStill o.entries
  pub like : Alike x o.part

calmly_append : (t u : List Entry) → EachEntry IsStill t → EachEntry IsStill u → EachEntry IsStill (t ++ u)
calmly_append [] u a b = b
calmly_append (e ∷ t) u a b = (a.0, calmly_append t u a.1 b)

begins_removal : (x : Host) (handle : ℕ) (p : Phase) → Calmly x (removal.begins_removal x handle p)
begins_removal x handle p =
    let y : Host = record x { phases = with_phase x.phases handle (after_gone p); wait_internal = removal.without_page handle x.wait_internal } in
    record { told = told (Rattle.removal.specs.Phases.lost_address p); like = alike_then x y (asks.asks_leave y handle) (alike x y refl refl) (asks_leave y handle) }
  where
    told : (o : Option ℕ) → EachEntry IsStill (removal.lost_told handle o)
    told None = tt
    told (Some a) = (tt, tt)

still : (x : Host) → Calmly x (removal.quietly x)
still x = record { told = tt; like = alike x x refl refl }

loses : (x : Host) (handle : ℕ) (p : Phase) → Calmly x (removal.after_handle_lost x handle p)
loses x handle phase.WaitRead = begins_removal x handle phase.WaitRead
loses x handle (phase.Reading s) = begins_removal x handle (phase.Reading s)
loses x handle (phase.Ready a) = begins_removal x handle (phase.Ready a)
loses x handle phase.Absent = still x
loses x handle phase.WaitHigh = still x
loses x handle (phase.Resetting s) = still x
loses x handle phase.WaitInternal = still x
loses x handle (phase.Removing s) = still x

adds : (x : Host) (handle : ℕ) (p : Phase) → Calmly x (removal.quietly (removal.after_handle_added x handle p))
adds x handle phase.Absent =
    let y = removal.with_phase_of x handle (after_added phase.Absent) in
    record { told = tt; like = alike_then x y (asks.asks_internal y (request.Page handle)) (alike x y refl refl) (asks_internal y (request.Page handle)) }
adds x handle phase.WaitRead = still x
adds x handle (phase.Reading s) = still x
adds x handle (phase.Ready a) = still x
adds x handle phase.WaitHigh = still x
adds x handle (phase.Resetting s) = still x
adds x handle phase.WaitInternal = still x
adds x handle (phase.Removing s) = still x

change : (x : Host) (c : Change) → Calmly x (removal.hears_change x c)
change x c = by_tests (removal.is_disk_handle c.handle) (c.status == target_added) (c.status == target_not_responding)
  where
    by_tests : (d y z : Bool) → Calmly x (if d then (if y then removal.quietly (removal.after_handle_added x c.handle (phase_at x.phases c.handle)) else (if z then removal.after_handle_lost x c.handle (phase_at x.phases c.handle) else removal.quietly x)) else removal.quietly x)
    by_tests true true z = adds x c.handle (phase_at x.phases c.handle)
    by_tests true false true = loses x c.handle (phase_at x.phases c.handle)
    by_tests true false false = still x
    by_tests false y z = still x

changes : (x : Host) (cs : List Change) → Calmly x (removal.hears_changes x cs)
unfolding removal.hears_changes
changes x [] = still x
changes x (c ∷ cs) =
    let a = change x c in
    let b = changes (removal.hears_change x c).part cs in
    record { told = calmly_append (removal.hears_change x c).entries (removal.hears_changes (removal.hears_change x c).part cs).entries a.told b.told; like = alike_then x (removal.hears_change x c).part (removal.hears_changes (removal.hears_change x c).part cs).part a.like b.like }

event : (x : Host) (f : List ℕ) → Calmly x (removal.hears_event x f)
event x f =
    let ack = request.Ack (event_in f) (event_context_in f) in
    let y = asks.asks_internal x ack in
    let b = changes y (changes_in f) in
    record { told = b.told; like = alike_then x y (removal.hears_event x f).part (asks_internal x ack) b.like }

-- ---- replies

-- what the machine and the host have behind a call
abbrev pub Behind : Seen → Happening Host → Type 0
Behind g o = Tallies (state_ahead seen_next g o.entries []).machine o.part

pub calmly : (g : Seen) (x : Host) (o : Happening Host) → Calmly x o → Tallies g.machine x → Behind g o
calmly g x o k s = tallies_alike (state_ahead seen_next g o.entries []).machine x o.part k.like (still_all x g o.entries k.told s)

module _ (g : Seen) (x : Host) (s : ℕ) (l : 257 ≤ s) (agrees : Tallies g.machine x) where
  slot_is : (r : Request) → slot_of x.pool s ≡ Open r → is_target (Open r) ≡ false → is_target (slot_of x.pool s) ≡ false
  slot_is r e t = ap is_target e ∙ t

  unless : (r : Request) (o : Happening Host) → slot_of x.pool s ≡ Open r → is_target (Open r) ≡ false → Calmly x o → Behind g (replies.unless_resetting x s o)
  unless r o e t k = by_mode (is_resetting x.mode)
    where
      by_mode : (b : Bool) → Behind g (if b then removal.quietly (asks.frees x s) else o)
      by_mode true = calmly g x (removal.quietly (asks.frees x s)) (record { told = tt; like = frees s l x (slot_is r e t) }) agrees
      by_mode false = calmly g x o k agrees

  phased_high : (r : Request) (handle : ℕ) (p : Phase) → slot_of x.pool s ≡ Open r → is_target (Open r) ≡ false → Alike x (asks.frees_high (removal.with_phase_of x handle p) s)
  phased_high r handle p e t = let y = removal.with_phase_of x handle p in alike_then x y (asks.frees_high y s) (alike x y refl refl) (frees_high s l y (slot_is r e t))

  phased_internal : (r : Request) (handle : ℕ) (p : Phase) → slot_of x.pool s ≡ Open r → is_target (Open r) ≡ false → Alike x (asks.frees_internal (removal.with_phase_of x handle p) s)
  phased_internal r handle p e t = let y = removal.with_phase_of x handle p in alike_then x y (asks.frees_internal y s) (alike x y refl refl) (frees_internal s l y (slot_is r e t))

  left : (handle : ℕ) → slot_of x.pool s ≡ Open (request.Leave handle) → Alike x (removal.left x s handle)
  left handle e = by_phase (removal.is_reset_under s (phase_at x.phases handle))
    where
      by_phase : (b : Bool) → Alike x (if b then asks.asks_internal (asks.frees_high (removal.with_phase_of x handle (after_task_done (phase_at x.phases handle) s)) s) (request.Remove handle) else asks.frees_high (removal.with_phase_of x handle (after_task_done (phase_at x.phases handle) s)) s)
      by_phase true =
          let freed = asks.frees_high (removal.with_phase_of x handle (after_task_done (phase_at x.phases handle) s)) s in
          alike_then x freed (asks.asks_internal freed (request.Remove handle)) (phased_high (request.Leave handle) handle (after_task_done (phase_at x.phases handle) s) e refl) (asks_internal freed (request.Remove handle))
      by_phase false = phased_high (request.Leave handle) handle (after_task_done (phase_at x.phases handle) s) e refl

  reads : (handle : ℕ) (page : Option ℕ) → slot_of x.pool s ≡ Open (request.Page handle) → Calmly x (removal.reads_page x s handle page)
  reads handle page e = record { told = told (phase_at x.phases handle) page; like = phased_internal (request.Page handle) handle (after_page (phase_at x.phases handle) s page) e refl }
    where
      one : (b : Bool) (a : ℕ) → EachEntry IsStill (if b then entry.Ready a handle ∷ [] else [])
      one true a = (tt, tt)
      one false a = tt

      told : (p : Phase) (o : Option ℕ) → EachEntry IsStill (removal.ready_told handle s p o)
      told (phase.Reading q) (Some a) = one (q == s) a
      told (phase.Reading q) None = tt
      told phase.Absent o = tt
      told phase.WaitRead o = tt
      told (phase.Ready a) o = tt
      told phase.WaitHigh o = tt
      told (phase.Resetting q) o = tt
      told phase.WaitInternal o = tt
      told (phase.Removing q) o = tt

  -- an abort's slot, where that of its command is freed with it
  slot_beside : (n task : ℕ) → slot_of x.pool s ≡ Open (request.Abort n task) → 1 ≤ task → task - 1 < length x.pool → is_target (slot_of (set x.pool (task - 1) Free) s) ≡ false
  slot_beside n task e m b = ap is_target (slot_of-set x.pool task s Free m b ∙ ap (λ y. cond (s == task) Free y) e) ∙ by_key (s == task)
    where
      by_key : (t : Bool) → is_target (cond t Free (Open (request.Abort n task))) ≡ false
      by_key true = refl
      by_key false = refl

  closes : (n task : ℕ) → slot_of x.pool s ≡ Open (request.Abort n task) → (k : Slot Request) → slot_of x.pool task ≡ k → Alike x (asks.frees_high (replies.unparks (record x { aborts = finmap.remove x.aborts n }) task k) s)
  closes n task e Free f = let y : Host = record x { aborts = finmap.remove x.aborts n } in alike_then x y (asks.frees_high y s) (alike x y refl refl) (frees_high s l y (slot_is (request.Abort n task) e refl))
  closes n task e (Open r) f = let y : Host = record x { aborts = finmap.remove x.aborts n } in alike_then x y (asks.frees_high y s) (alike x y refl refl) (frees_high s l y (slot_is (request.Abort n task) e refl))
  closes n task e Parked f =
      let y : Host = record x { aborts = finmap.remove x.aborts n } in
      let i = in_table x.pool task Parked f parked_apart in
      let z = asks.frees y task in
      alike_then x z (asks.frees_high z s)
      (record { modes = refl; opens = kept_where is_open 0 256 x.pool task Free i.0 (ap is_open f); targets = kept_where is_target 256 8 x.pool task Free i.0 (ap is_target f) })
      (frees_high s l z (slot_beside n task e i.0 i.1))

  freed_target : (b : ℕ) → s ≤ 264 → s - 1 < length x.pool → slot_of x.pool s ≡ Open (request.TargetReset b) → Counts g.machine.mode g.machine.requests (g.machine.all_resets - 1) x.mode (set x.pool (s - 1) Free)
  freed_target b m short e =
      let c = moved_inside is_target 256 8 x.pool s Free (omega (arith, l)) (omega (arith, l)) (omega (arith, l, m)) short in
      let d = ap (λ y. one_if (is_target y)) e in
      let t = agrees.targets in
      record { modes = agrees.modes; opens = agrees.opens ∙ sym (kept_outside is_open 0 256 x.pool s Free (inr (omega (arith, l)))); targets = omega (arith, c, d, t) }

  comes_up : slot_of x.pool s ≡ Open request.PortEnable → Behind g (replies.hears_answer x s request.PortEnable (replies.heard_of 0 None [] []))
  comes_up e = by_mode (is_resetting x.mode)
    where
      by_mode : (b : Bool) → Behind g (if b then removal.quietly (asks.frees x s) else replies.after_port_enable x s)
      by_mode true = calmly g x (removal.quietly (asks.frees x s)) (record { told = tt; like = frees s l x (slot_is request.PortEnable e refl) }) agrees
      by_mode false = let k = frees_internal s l x (slot_is request.PortEnable e refl) in record { modes = refl; opens = agrees.opens ∙ sym k.opens; targets = agrees.targets ∙ sym k.targets }

-- where its identifier is, and that a command's number is open
abbrev pub Placed : Seen → Host → ℕ → Request → Type 0
Placed g x s (request.Command n) = (1 ≤ s) × (s ≤ 256) × (is_some (finmap.get g.machine.requests n) ≡ true)
Placed g x s (request.TargetReset b) = (257 ≤ s) × (s ≤ 264)
Placed g x s r = 257 ≤ s

module _ (g : Seen) (x : Host) (s : ℕ) (short : s - 1 < length x.pool) (agrees : Tallies g.machine x) where
  command : (n : ℕ) (how : Ending) → 1 ≤ s → s ≤ 256 → is_some (finmap.get g.machine.requests n) ≡ true → slot_of x.pool s ≡ Open (request.Command n) → Behind g (replies.host_answers x s n how)
  command n how l m o e = by_slot (replies.slot_after (finmap.get x.aborts n)) (closed (finmap.get x.aborts n))
    where
      closed : (k : Option ℕ) → is_open (replies.slot_after k) ≡ false
      closed None = refl
      closed (Some q) = refl

      by_slot : (y : Slot Request) → is_open y ≡ false → Counts g.machine.mode (finmap.remove g.machine.requests n) g.machine.all_resets x.mode (set x.pool (s - 1) y)
      by_slot y t =
          let c = moved_inside is_open 0 256 x.pool s y l (omega arith) (omega (arith, l, m)) short in
          let d = ap (λ q. one_if (is_open q)) e in
          let u = ap one_if t in
          let a = agrees.opens in
          let r : finmap.len (finmap.remove g.machine.requests n) ≡ finmap.len g.machine.requests - 1 = finmap.len-remove nat_cmp_total g.machine.requests n ∙ ap (λ b. cond b (finmap.len g.machine.requests - 1) (finmap.len g.machine.requests)) o in
          record { modes = agrees.modes; opens = omega (arith, c, d, u, a, r); targets = agrees.targets ∙ sym (kept_outside is_target 256 8 x.pool s y (inl (omega (arith, l, m)))) }

  pub answer : (r : Request) (v : Heard) → slot_of x.pool s ≡ Open r → Placed g x s r → Behind g (replies.hears_answer x s r v)
  answer (request.Command n) v e c = command n (replies.ended v.frame v.page v.sense) c.0 c.1 c.2 e
  answer (request.Abort n task) v e l = calmly g x (replies.host_ends_abort x s n task (replies.reply_bytes v)) (record { told = (tt, tt); like = closes g x s l agrees n task e (slot_of x.pool task) refl }) agrees
  answer (request.TargetReset b) v e c =
      let z = asks.frees x s in
      let l = c.0 in
      tallies_alike (record g.machine { resets = put_at b (g.machine.resets b - 1) g.machine.resets; all_resets = g.machine.all_resets - 1 }) z (asks.frees_high x s) (gives_high s c.0 z x.wait_high (freed_there x.pool s (omega (arith, l)))) (freed_target g x s c.0 agrees b c.1 short e)
  answer (request.Leave handle) v e l = unless g x s l agrees (request.Leave handle) (removal.quietly (removal.left x s handle)) e refl (record { told = tt; like = left g x s l agrees handle e })
  answer (request.Page handle) v e l = unless g x s l agrees (request.Page handle) (removal.reads_page x s handle (replies.address_read (replies.reply_bytes v) v.page)) e refl (reads g x s l agrees handle (replies.address_read (replies.reply_bytes v) v.page) e)
  answer (request.Remove handle) v e l = unless g x s l agrees (request.Remove handle) (removal.quietly (removal.removed x s handle)) e refl (record { told = tt; like = phased_internal g x s l agrees (request.Remove handle) handle (after_removed (phase_at x.phases handle) s) e refl })
  answer (request.Ack ev context) v e l = unless g x s l agrees (request.Ack ev context) (removal.quietly (asks.frees_internal x s)) e refl (record { told = tt; like = frees_internal s l x (slot_is g x s l agrees (request.Ack ev context) e refl) })
  answer request.Notification v e l =
      unless g x s l agrees request.Notification (removal.quietly (replies.hears_notified x s)) e refl
      (record { told = tt; like = alike_then x (asks.frees_internal x s) (replies.hears_notified x s) (frees_internal s l x (slot_is g x s l agrees request.Notification e refl)) (asks_internal (asks.frees_internal x s) request.PortEnable) })
  answer request.PortEnable v e l = comes_up g x s l agrees e

-- a reply to no open identifier
pub none_asked : (g : Seen) (x : Host) (s : ℕ) (v : Heard) → Tallies g.machine x → Behind g (replies.hears_reply_to x s None v)
none_asked g x s v agrees = by_mode (is_resetting x.mode)
  where
    by_mode : (b : Bool) → Behind g (if b then removal.quietly x else removal.hears_event x (replies.reply_bytes v))
    by_mode true = agrees
    by_mode false = calmly g x (removal.hears_event x (replies.reply_bytes v)) (event x (replies.reply_bytes v)) agrees

-- a frame goes back, and an entry is taken
pub entry_taken : (x : Host) (queue d : ℕ) (f : Option (List ℕ)) → Alike x (replies.takes_entry (replies.with_frame_heard x d f) queue)
entry_taken x queue d None = alike x (replies.takes_entry x queue) refl refl
entry_taken x queue d (Some f) = by_returning x.returning
  where
    n : ℕ
    n = returns.frame_of (Rattle.mpt_wire.specs.Messages.Fields.frame_address_in d)

    by_returning : (b : Bool) → Alike x (replies.takes_entry (if b then returns.with_return x n else returns.keeps x n) queue)
    by_returning true = alike x (replies.takes_entry (returns.with_return x n) queue) refl refl
    by_returning false = alike x (replies.takes_entry (returns.keeps x n) queue) refl refl
