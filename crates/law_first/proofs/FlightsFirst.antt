-- The facts of identifiers and reply frames hold of the first world: each is at the host.
use Rattle.std.proofs.Common.{◌≡◌, ℕ, zero, suc, ◌+◌, ◌%◌, ◌≤◌, not, false, [], length, get_or, replicate, Option, None, is_some, refl, ap, sym, ◌∙◌, subst, arith}
use Rattle.std.specs.List.{sum_by}
use Rattle.std.proofs.lemmas.List.{get_or-replicate}
use Rattle.smid_pool.specs.Pool.{Slot, Free, is_open, slot_of}
use Rattle.mpt_rules.specs.declared.at_fabric.AtFabric.{AtFabric}
use Rattle.mpt_rules.specs.declared.binding.Binding.TheVariants as binding
use Rattle.mpt_rules.specs.declared.host_frame.HostFrame.TheVariants as frame
use Rattle.mpt_rules.specs.declared.post.Post.{Post}
use Rattle.mpt_rules.specs.declared.request.Request.{Request}
use Rattle.mpt_rules.specs.Ioc.Commands.{is_held_for}
use Rattle.mpt_rules.specs.Ioc.Tables.{is_held_as, request_at}
use Rattle.mpt_rules.specs.World.Counts.{how_many, one_if, reply_count, use_count}
use Rattle.mpt_rules.specs.World.FabricCounts.{abort_end_count, gone_count, reset_end_count, result_count, sent_abort_count, sent_reset_count, sent_task_count, task_count, terminated_count}
use Rattle.mpt_rules.specs.World.Lines.{is_high}
use Rattle.mpt_rules.specs.World.PlaceCounts.{frame_count, is_held_frame, is_this_number, replies_on, smid_count}
use Rattle.mpt_rules.specs.World.Settings.{IsSetting, Setting, first_world}
use Rattle.mpt_rules.specs.World.State.{World}
use Rattle.mpt_rules.proofs.Counts.{post_count-nil, queued_count-nil, reply_count-nil, return_count-nil, use_count-nil}
use Rattle.law_facts.specs.Flights.{AbortNames, Flights, Frame, FramesAreFrames, Identifier, NamedOnce, Number, OneAtFabric, RecordStands, Sizes, abort_tokens, command_tokens, is_frame_number, is_in_a_frame, names_a_frame, reset_tokens, turn_at}
use Rattle.law_facts.specs.History.{History, first_history}
use Rattle.law_facts.specs.Words.{is_out_frame, names_task, others, slot}
use Rattle.law_moves.proofs.Counted.{how_many-nil, others-nil}
use Rattle.law_first.proofs.ClockFirst.{never, no_more_than}
use Rattle.law_first.proofs.Empty.{no_key, no_sum, none_of, same_at, same_long}

-- ---- what stands in the host's pool and at the fabric

pub all_slots_free : (q : Setting) (s : ℕ) → slot (first_world q).host s ≡ Free
all_slots_free q zero = refl
all_slots_free q (suc k) = let f : Slot Request = Free in same_at 280 k f

pub nothing_asked : (q : Setting) (s : ℕ) → request_at (first_world q).ioc s ≡ None
nothing_asked q zero = refl
nothing_asked q (suc k) = let n : Option AtFabric = None in same_at 280 k n

-- ---- what is counted

pub record NoTokens (s : ℕ) : Type 0 where
  pub sent_tasks : sent_task_count s [] ≡ 0
  pub tasks : task_count s [] ≡ 0
  pub results : result_count s [] ≡ 0
  pub gone : gone_count s [] ≡ 0
  pub terminated : terminated_count s [] ≡ 0
  pub sent_aborts : sent_abort_count s [] ≡ 0
  pub abort_ends : abort_end_count s [] ≡ 0
  pub sent_resets : sent_reset_count s [] ≡ 0
  pub reset_ends : reset_end_count s [] ≡ 0

pub no_tokens : (s : ℕ) → NoTokens s
unfolding sent_task_count task_count result_count gone_count terminated_count sent_abort_count abort_end_count sent_reset_count reset_end_count how_many
no_tokens s = record { sent_tasks = refl; tasks = refl; results = refl; gone = refl; terminated = refl; sent_aborts = refl; abort_ends = refl; sent_resets = refl; reset_ends = refl }

no_uses : (q s : ℕ) → sum_by (replies_on s) (replicate q []) ≡ 0
no_uses q s = no_sum (replies_on s) q [] (reply_count-nil s)

module _ (q : Setting) (i : IsSetting q) where
  abbrev w : World
  w = first_world q

  abbrev h : History
  h = first_history q.disks

  -- ---- identifiers

  open_at : (s : ℕ) → one_if (not (is_open (slot_of w.host.pool s))) ≡ 1
  open_at s = ap (λ (x : Slot Request). one_if (not (is_open x))) (all_slots_free q s)

  asked_at : (s : ℕ) → one_if (is_some (request_at w.ioc s)) ≡ 0
  asked_at s = ap (λ o. one_if (is_some o)) (nothing_asked q s)

  once : (s : ℕ) → smid_count w s ≡ 1
  once s =
      let a = open_at s in let b = post_count-nil s in let c = queued_count-nil s in let d = asked_at s in let e = how_many-nil (is_held_as s) in
      let f : sum_by (reply_count s) w.ioc.up ≡ 0 = no_sum (reply_count s) q.queues [] (reply_count-nil s) in let g : sum_by (replies_on s) w.up ≡ 0 = no_uses q.queues s in
      omega (arith, a, b, c, d, e, f, g)

  turned : (s : ℕ) → 0 % 4 ≡ turn_at w s
  turned s =
      let b = post_count-nil s in let c = queued_count-nil s in let d = asked_at s in let e = how_many-nil (is_held_as s) in
      let f : sum_by (reply_count s) w.ioc.up ≡ 0 = no_sum (reply_count s) q.queues [] (reply_count-nil s) in let g : sum_by (replies_on s) w.up ≡ 0 = no_uses q.queues s in
      omega (arith, b, c, d, e, f, g)

  identifier : (s : ℕ) → Identifier w h s
  identifier s =
      record {
        at_most = let o = once s in omega (arith, o);
        found = λ e. once s;
        turn = λ e. turned s;
        recorded = subst (RecordStands w s) (sym (all_slots_free q s)) tt;
        names = subst (AbortNames w) (sym (all_slots_free q s)) tt;
        named = subst (NamedOnce w s) (sym (all_slots_free q s)) (none_of (names_task s) 280 Free refl);
      }

  number : (n : ℕ) → Number w n
  number n = record { command = λ c e. no_key w.host.cmds refl n c e; abort = λ s e. no_key w.host.aborts refl n s e; abort_of = λ s m task e. no_key w.host.aborts refl n s e }

  -- ---- reply frames

  held_at : (a : ℕ) → a ≤ 63 → one_if (is_held_frame (get_or w.host.frames a frame.Away)) ≡ 1
  held_at a l = ap (λ x. one_if (is_held_frame x)) (get_or-replicate 64 a frame.Held frame.Away (omega (arith, l)))

  frame_once : (a : ℕ) → a ≤ 63 → frame_count w a ≡ 1
  frame_once a l =
      let b = held_at a l in let c = return_count-nil a in let d = how_many-nil (is_this_number a) in
      let e : sum_by (use_count a) w.up ≡ 0 = no_sum (use_count a) q.queues [] (use_count-nil a) in
      omega (arith, b, c, d, e)

  frame_first : (a : ℕ) → a ≤ 63 → Frame w h a
  frame_first a l =
      record {
        at_most = let o = frame_once a l in omega (arith, o);
        found = λ e. frame_once a l;
        out = ap (λ x. one_if (is_out_frame x)) (same_at 64 a frame.Held) ∙ sym (return_count-nil a);
        turn = λ e. let c = return_count-nil a in let d = how_many-nil (is_this_number a) in let u : sum_by (use_count a) w.up ≡ 0 = no_sum (use_count a) q.queues [] (use_count-nil a) in omega (arith, c, d, u);
      }

  frames_are_frames : FramesAreFrames w
  frames_are_frames =
      record {
        returned = others-nil names_a_frame;
        ring = others-nil is_frame_number;
        lanes = no_sum (others is_in_a_frame) q.queues [] (others-nil is_in_a_frame);
        none_kept = λ e. never e;
      }

  -- ---- the fabric

  nothing_there : (s : ℕ) → command_tokens w s + (abort_tokens w s + reset_tokens w s) ≡ 0
  nothing_there s =
      let n = no_tokens s in let a = n.sent_tasks in let b = n.tasks in let c = n.results in let d = n.gone in let e = n.terminated in let f = n.sent_aborts in let g = n.abort_ends in let r = n.sent_resets in let t = n.reset_ends in
      omega (arith, a, b, c, d, e, f, g, r, t)

  at_fabric : (s : ℕ) → OneAtFabric w s
  at_fabric s =
      record {
        commands = λ e. never e;
        aborts = λ e. never e;
        resets = λ e. never e;
        at_most = let z = nothing_there s in omega (arith, z);
        none = λ e r. nothing_there s;
        old = λ e. never e;
        old_command = λ e. never e;
        old_abort = λ e. never e;
        old_reset = λ e. never e;
      }

  sizes : Sizes w
  sizes =
      let n : length (replicate q.queues 0) ≡ q.queues = same_long q.queues 0 in
      let m : length w.host.marks ≡ q.queues = same_long q.queues false in
      let u : length w.ioc.up ≡ q.queues = same_long q.queues [] in
      let v : length w.up ≡ q.queues = same_long q.queues [] in
      let a = i.few_queues.0 in let b = i.few_queues.1 in
      record {
        pool = same_long {X = Slot Request} 280 Free;
        frames = same_long 64 frame.Held;
        phases = same_long 64 Rattle.removal.specs.declared.phase.Phase.TheVariants.Absent;
        requests = same_long {X = Option AtFabric} 280 None;
        bindings = same_long 64 binding.Unbound;
        some_queue = omega (arith, n, a);
        few_queues = omega (arith, n, b);
        marks = m ∙ sym n;
        outboxes = u ∙ sym n;
        lanes = v ∙ sym n;
      }

  pub flights_first : Flights w h
  flights_first =
      record {
        sorted = record { high = others-nil (λ (p : Post). is_high p.descriptor); normal = how_many-nil (λ (p : Post). is_high p.descriptor) };
        sizes = sizes;
        identifiers = λ s a b. identifier s;
        numbers = number;
        frames = frame_first;
        frames_are_frames = frames_are_frames;
        fabric = λ s a b. at_fabric s;
        held = λ handle l. no_more_than (how_many (is_held_for handle) []) l (how_many-nil (is_held_for handle));
      }
