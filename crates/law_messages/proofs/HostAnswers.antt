-- The host takes a reply: the identifier that it names had no post, and may have one then.
use Rattle.std.proofs.Common.{◌≡◌, ◌≢◌, ℕ, ◌-◌, ◌≤◌, ◌==◌, inl, inr, cond, Bool, true, false, if◌then◌else◌, List, [], ◌∷◌, ◌++◌, set, length-set, Option, Some, None, refl, ap, sym, ◌∙◌, subst, arith}
use Rattle.std.specs.Prelude.{All}
use Rattle.std.specs.FinMap as finmap
use Rattle.std.proofs.lemmas.List.Elements.{All-head}
use Rattle.smid_pool.specs.Class.{IsIn}
use Rattle.smid_pool.specs.Pool.{Slot, Free, Open, Parked, is_open, record_of, slot_of}
use Rattle.smid_pool.specs.declared.class.Class.TheVariants as class
use Rattle.removal.specs.Handles.{IsHandle, phase_at}
use Rattle.removal.specs.Phases.{after_page, after_removed, after_task_done}
use Rattle.mpi_doorbell.specs.declared.registers.TheConstants.{REPLY_POST_HOST_INDEX}
use Rattle.mpt_wire.specs.Machine.Causes.{is_resetting}
use Rattle.mpt_wire.specs.Messages.Fields.{frame_address_in, smid_in}
use Rattle.mpt_trace.specs.declared.item.Down.TheVariants as down
use Rattle.mpt_trace.specs.declared.outcome.Outcome.{Outcome as Ending}
use Rattle.mpt_rules.specs.declared.request.Request.{Request}
use Rattle.mpt_rules.specs.declared.request.Request.TheVariants as request
use Rattle.mpt_rules.specs.Host.Parts.{Host}
use Rattle.mpt_rules.specs.Host.Posts as asks
use Rattle.mpt_rules.specs.Host.Removal as removal
use Rattle.mpt_rules.specs.Host.Replies as replies
use Rattle.mpt_rules.specs.Host.Replies.{Heard}
use Rattle.mpt_rules.specs.Host.Returns as returns
use Rattle.mpt_rules.specs.Outcome.{Happening}
use Rattle.mpt_rules.specs.World.Counts.{post_count}
use Rattle.mpt_rules.specs.World.State.{World}
use Rattle.mpt_rules.proofs.Counts.{post_count-append, post_count-cons, post_count-nil}
use Rattle.law_facts.specs.Facts.{Facts}
use Rattle.law_facts.specs.History.{History}
use Rattle.law_facts.specs.Words.{slot}
use Rattle.law_flights.proofs.HostHolds.{in_table, slot_of-set}
use Rattle.law_messages.proofs.Agreeing.{differ, same}
use Rattle.law_messages.proofs.HostWalk as walk
use Rattle.law_messages.proofs.HostWalk.{Walk}
use Rattle.law_messages.proofs.Known.{classed, inside, one_command}

abbrev parked : Slot Request
parked = Parked

parked_apart : parked ≢ Free
parked_apart e = cc

module _ (w : World) (h : History) (f : Facts w h) (k : History) (hand : ℕ) where
  abbrev Walks : Host → Type 0
  Walks x = walk.Walks w k hand None x

  -- ---- the identifier is free, and given on

  module _ (x : Host) (l : 1 ≤ hand) (m : hand ≤ 280) (z : post_count hand x.out ≡ 0) where
    with_slot_of : (y : Slot Request) → Walks x → Walks (record x { pool = set x.pool (hand - 1) y })
    with_slot_of y a = walk.changes w k hand None x hand y l m z (inr refl) a

    slot_there : (y : Slot Request) → Walks x → slot_of (set x.pool (hand - 1) y) hand ≡ y
    slot_there y a = let t = a.table in slot_of-set x.pool hand hand y l (omega (arith, l, m, t)) ∙ ap (λ c. cond c y (slot_of x.pool hand)) (same hand)

    frees_only : Walks x → Walks (asks.frees x hand)
    frees_only a = with_slot_of Free a

    frees_high : IsIn class.High hand → All IsHandle x.wait_high → Walks x → Walks (asks.frees_high x hand)
    frees_high i g a = by_list x.wait_high g
      where
        by_list : (xs : List ℕ) → All IsHandle xs → Walks (asks.gives_high (asks.frees x hand) hand xs)
        by_list [] g = frees_only a
        by_list (handle ∷ rest) g = walk.leave w k hand None (record (asks.frees x hand) { wait_high = rest }) hand handle i (All-head IsHandle handle rest g) (ap is_open (slot_there Free a)) (frees_only a)

    frees_internal : IsIn class.Internal hand → Walks x → Walks (asks.frees_internal x hand)
    frees_internal i a = by_list x.wait_internal
      where
        by_list : (xs : List Request) → Walks (asks.gives_internal (asks.frees x hand) hand xs)
        by_list [] = frees_only a
        by_list (r ∷ rest) = walk.internal w k hand None (record (asks.frees x hand) { wait_internal = rest }) hand r i (ap is_open (slot_there Free a)) (frees_only a)

  -- ---- a frame and an entry were given back

  pub record Taken (x : Host) : Type 0 where
    pub walks : Walks x
    pub pool : x.pool ≡ w.host.pool
    pub mode : x.mode ≡ w.host.mode
    pub high : x.wait_high ≡ w.host.wait_high
    pub unposted : post_count hand x.out ≡ 0

  module _ (start : Walks w.host) (none : post_count hand w.host.out ≡ 0) (handles : All IsHandle w.host.wait_high) where
    frame : (d : ℕ) (g : Option (List ℕ)) → Taken (replies.with_frame_heard w.host d g)
    frame d None = record { walks = start; pool = refl; mode = refl; high = refl; unposted = none }
    frame d (Some g) = by_bool w.host.returning
      where
        more : (a i : ℕ) → post_count hand (w.host.out ++ down.Return a i ∷ []) ≡ 0
        more a i = let p = post_count-append hand w.host.out (down.Return a i ∷ []) in let c = post_count-cons hand (down.Return a i) [] in let n = post_count-nil hand in let z = none in omega (arith, p, c, n, z)

        by_bool : (c : Bool) → Taken (if c then returns.with_return w.host (returns.frame_of (frame_address_in d)) else returns.keeps w.host (returns.frame_of (frame_address_in d)))
        by_bool true = record { walks = walk.one_item w k hand None w.host (down.Return _ _) refl start; pool = refl; mode = refl; high = refl; unposted = more _ _ }
        by_bool false = record { walks = start; pool = refl; mode = refl; high = refl; unposted = none }

    entry_taken : (queue d : ℕ) (g : Option (List ℕ)) → Taken (replies.takes_entry (replies.with_frame_heard w.host d g) queue)
    entry_taken queue d g =
        let t = frame d g in let x = replies.with_frame_heard w.host d g in let a = walk.one_item w k hand None x (down.Write REPLY_POST_HOST_INDEX (replies.index_value queue (replies.next_index x queue))) refl t.walks in
        let p = post_count-append hand x.out (down.Write REPLY_POST_HOST_INDEX (replies.index_value queue (replies.next_index x queue)) ∷ []) in let c = post_count-cons hand (down.Write REPLY_POST_HOST_INDEX (replies.index_value queue (replies.next_index x queue))) [] in let n = post_count-nil hand in let z = t.unposted in
        record {
          walks = record { table = a.table; queues = length-set x.indices queue (replies.next_index x queue) ∙ a.queues; fit = again x queue a.fit; slots = a.slots; agree = a.agree; less = a.less };
          pool = t.pool;
          mode = t.mode;
          high = t.high;
          unposted = omega (arith, p, c, n, z);
        }
      where
        again : (x : Host) (queue : ℕ) → walk.Fits w k hand None x.pool x.cmds x.indices (x.out ++ down.Write REPLY_POST_HOST_INDEX (replies.index_value queue (replies.next_index x queue)) ∷ [])
            → walk.Fits w k hand None x.pool x.cmds (set x.indices queue (replies.next_index x queue)) (x.out ++ down.Write REPLY_POST_HOST_INDEX (replies.index_value queue (replies.next_index x queue)) ∷ [])
        again x queue a = walk.same_queues w k hand None x.pool x.cmds x.indices (set x.indices queue (replies.next_index x queue)) (length-set x.indices queue (replies.next_index x queue)) _ a

    -- ---- the answer

    module _ (x : Host) (t : Taken x) where
      unless : (l : 1 ≤ hand) (m : hand ≤ 280) (o : Happening Host) → Walks o.part → Walks (replies.unless_resetting x hand o).part
      unless l m o c = by_mode (is_resetting x.mode)
        where
          by_mode : (b : Bool) → Walks (if b then removal.quietly (asks.frees x hand) else o).part
          by_mode true = frees_only x l m t.unposted t.walks
          by_mode false = c

      high_handles : All IsHandle x.wait_high
      high_handles = subst (All IsHandle) (sym t.high) handles

      -- the slot of a command that an abort named
      record Unparked (y v : Host) : Type 0 where
        walks : Walks v
        out : v.out ≡ y.out
        high : v.wait_high ≡ y.wait_high

      unparked : (y : Host) (task : ℕ) (c : Slot Request) → slot_of y.pool task ≡ c → Walks y → Unparked y (replies.unparks y task c)
      unparked y task Free e a = record { walks = a; out = refl; high = refl }
      unparked y task (Open r) e a = record { walks = a; out = refl; high = refl }
      unparked y task Parked e a =
          let i = in_table y.pool task Parked e parked_apart in let l = a.table in
          record { walks = walk.changes w k hand None y task Free i.0 (omega (arith, i, l)) (walk.unposted w k hand None y task (ap is_open e) a) (inl (ap is_open e)) a; out = refl; high = refl }

      module _ (r : Request) (e : slot w.host hand ≡ Open r) where
        low : (1 ≤ hand) × (hand ≤ 280)
        low = inside w h f hand r e

        there : slot_of x.pool hand ≡ Open r
        there = ap (λ p. slot_of p hand) t.pool ∙ e

      command : (n : ℕ) (how : Ending) → slot w.host hand ≡ Open (request.Command n) → Walks (replies.host_answers x hand n how).part
      command n how e =
          let l = low (request.Command n) e in let y = replies.slot_after (finmap.get x.aborts n) in
          walk.forgets w k hand None (record x { pool = set x.pool (hand - 1) y }) n (none_left l.0 l.1 (finmap.get x.aborts n)) (with_slot_of x l.0 l.1 t.unposted y t.walks)
        where
          closed : {T : Type 0} (o : Option ℕ) → replies.slot_after o ≡ Open (request.Command n) → T
          closed None q = absurd (cc)
          closed (Some v) q = absurd (cc)

          none_left : 1 ≤ hand → hand ≤ 280 → (o : Option ℕ) (s : ℕ) → slot_of (set x.pool (hand - 1) (replies.slot_after o)) s ≡ Open (request.Command n) → ⊥
          none_left l m o s q = by_key (s == hand) refl
            where
              at : (b : Bool) → (s == hand) ≡ b → slot_of (set x.pool (hand - 1) (replies.slot_after o)) s ≡ cond b (replies.slot_after o) (slot_of x.pool s)
              at b i = let v = t.walks in let z = v.table in slot_of-set x.pool hand s (replies.slot_after o) l (omega (arith, l, m, z)) ∙ ap (λ b. cond b (replies.slot_after o) (slot_of x.pool s)) i

              by_key : (b : Bool) → (s == hand) ≡ b → ⊥
              by_key true i = closed o (sym (at true i) ∙ q)
              by_key false i = differ s hand i (one_command w h f n s hand (sym (ap (λ p. slot_of p s) t.pool) ∙ (sym (at false i) ∙ q)) e)

      abort : (n task : ℕ) (frame : List ℕ) → slot w.host hand ≡ Open (request.Abort n task) → Walks (replies.host_ends_abort x hand n task frame).part
      abort n task frame e =
          let l = low (request.Abort n task) e in let y : Host = record x { aborts = finmap.remove x.aborts n } in
          let u = unparked y task (slot_of x.pool task) refl t.walks in
          frees_high (replies.closes_abort x n task) l.0 l.1 (ap (post_count hand) u.out ∙ t.unposted) (classed w h f hand (request.Abort n task) e) (subst (All IsHandle) (sym u.high) high_handles) u.walks

      left : (handle : ℕ) → slot w.host hand ≡ Open (request.Leave handle) → Walks (removal.left x hand handle)
      left handle e = by_phase (removal.is_reset_under hand (phase_at x.phases handle))
        where
          phased : Host
          phased = removal.with_phase_of x handle (after_task_done (phase_at x.phases handle) hand)

          freed : Walks (asks.frees_high phased hand)
          freed = let l = low (request.Leave handle) e in frees_high phased l.0 l.1 t.unposted (classed w h f hand (request.Leave handle) e) high_handles t.walks

          by_phase : (b : Bool) → Walks (if b then asks.asks_internal (asks.frees_high phased hand) (request.Remove handle) else asks.frees_high phased hand)
          by_phase true = walk.asks_internal w k hand None (asks.frees_high phased hand) (request.Remove handle) freed
          by_phase false = freed

      answer : (r : Request) (v : Heard) → slot w.host hand ≡ Open r → Walks (replies.hears_answer x hand r v).part
      answer (request.Command n) v e = command n (replies.ended v.frame v.page v.sense) e
      answer (request.Abort n task) v e = abort n task (replies.reply_bytes v) e
      answer (request.TargetReset address) v e = let l = low (request.TargetReset address) e in frees_high x l.0 l.1 t.unposted (classed w h f hand (request.TargetReset address) e) high_handles t.walks
      answer (request.Leave handle) v e = let l = low (request.Leave handle) e in unless l.0 l.1 (removal.quietly (removal.left x hand handle)) (left handle e)
      answer (request.Page handle) v e =
          let l = low (request.Page handle) e in let read = replies.address_read (replies.reply_bytes v) v.page in
          unless l.0 l.1 (removal.reads_page x hand handle read) (frees_internal (removal.with_phase_of x handle (after_page (phase_at x.phases handle) hand read)) l.0 l.1 t.unposted (classed w h f hand (request.Page handle) e) t.walks)
      answer (request.Remove handle) v e =
          let l = low (request.Remove handle) e in
          unless l.0 l.1 (removal.quietly (removal.removed x hand handle)) (frees_internal (removal.with_phase_of x handle (after_removed (phase_at x.phases handle) hand)) l.0 l.1 t.unposted (classed w h f hand (request.Remove handle) e) t.walks)
      answer (request.Ack ev context) v e = let l = low (request.Ack ev context) e in unless l.0 l.1 (removal.quietly (asks.frees_internal x hand)) (frees_internal x l.0 l.1 t.unposted (classed w h f hand (request.Ack ev context) e) t.walks)
      answer request.Notification v e =
          let l = low request.Notification e in
          unless l.0 l.1 (removal.quietly (replies.hears_notified x hand)) (walk.asks_internal w k hand None (asks.frees_internal x hand) request.PortEnable (frees_internal x l.0 l.1 t.unposted (classed w h f hand request.Notification e) t.walks))
      answer request.PortEnable v e = let l = low request.PortEnable e in unless l.0 l.1 (replies.after_port_enable x hand) (frees_internal x l.0 l.1 t.unposted (classed w h f hand request.PortEnable e) t.walks)

      none_asked : (v : Heard) → Walks (replies.hears_reply_to x hand None v).part
      none_asked v = by_mode (is_resetting x.mode)
        where
          by_mode : (b : Bool) → Walks (if b then removal.quietly x else removal.hears_event x (replies.reply_bytes v)).part
          by_mode true = t.walks
          by_mode false = walk.event w k hand None x (replies.reply_bytes v) t.walks

      reply_to : (y : Slot Request) (v : Heard) → slot w.host hand ≡ y → Walks (replies.hears_reply_to x hand (record_of y) v).part
      reply_to (Open r) v e = answer r v e
      reply_to Free v e = none_asked v
      reply_to Parked v e = none_asked v

-- a reply
pub reply_walks : (w : World) (h : History) (f : Facts w h) (k : History) (queue d : ℕ) (g : Option (List ℕ)) (page sense : List ℕ) → walk.Walks w k (smid_in d) None w.host → post_count (smid_in d) w.host.out ≡ 0 → All IsHandle w.host.wait_high
    → walk.Walks w k (smid_in d) None (replies.hears_reply w.host queue (replies.heard_of d g page sense)).part
reply_walks w h f k queue d g page sense start none handles =
    reply_to w h f k (smid_in d) start none handles (replies.takes_entry (replies.with_frame_heard w.host d g) queue) (entry_taken w h f k (smid_in d) start none handles queue d g) (slot w.host (smid_in d)) (replies.heard_of d g page sense) refl
