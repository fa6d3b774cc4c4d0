-- Of each identifier there is at the fabric what the controller keeps of it; behind a reset what was left there at most, of an identifier that is found
-- nowhere else: each case keeps it.
use Rattle.std.proofs.Common.{◌≡◌, ℕ, ◌+◌, ◌<◌, ◌≤◌, ◌==◌, ◌&&◌, nat_lt, not, ◌⊎◌, inl, inr, All, Bool, true, false, List, [], ◌∷◌, ◌++◌, length, sum_by, Option, Some, None, is_some, refl, ap, sym, ◌∙◌, subst, arith, append_assoc, slice_get}
use Rattle.std.proofs.lemmas.List.{get_or_past}
use Rattle.std.proofs.lemmas.List.Elements.{All-head}
use Rattle.smid_pool.specs.Pool.{Free, Open, Parked, Slot, is_open, slot_of}
use Rattle.mpi_doorbell.specs.DoorRegisters.{is_fault, linked_up}
use Rattle.mpt_wire.specs.Machine.Causes.{is_resetting, is_up}
use Rattle.mpt_wire.specs.Messages.Fields.{smid_in}
use Rattle.mpt_trace.specs.declared.item.Back.{Back}
use Rattle.mpt_trace.specs.declared.item.Down.{Down}
use Rattle.mpt_trace.specs.declared.item.Out.{Out}
use Rattle.mpt_trace.specs.declared.item.Out.TheVariants as out
use Rattle.mpt_trace.specs.declared.item.Up.{Up}
use Rattle.mpt_trace.specs.declared.item.Up.TheVariants as up
use Rattle.mpt_rules.specs.declared.at_fabric.AtFabric.{AtFabric as Kept}
use Rattle.mpt_rules.specs.declared.at_fabric.AtFabric.TheVariants as at
use Rattle.mpt_rules.specs.declared.post.Post.{Post}
use Rattle.mpt_rules.specs.declared.request.Request.{Request}
use Rattle.mpt_rules.specs.declared.request.Request.TheVariants as request
use Rattle.mpt_rules.specs.declared.said.Said.{Said}
use Rattle.mpt_rules.specs.declared.said.Said.TheVariants as said
use Rattle.mpt_rules.specs.Host.Parts.{Host}
use Rattle.mpt_rules.specs.Host.Returns.{after_sent}
use Rattle.mpt_rules.specs.Host.Takes.{hears_up}
use Rattle.mpt_rules.specs.Ioc.Parts.{Ioc, state_of}
use Rattle.mpt_rules.specs.Ioc.Places.{is_reply_of}
use Rattle.mpt_rules.specs.Ioc.Replies.{outbox_of}
use Rattle.mpt_rules.specs.Ioc.Sending.{up_of, up_sent_on}
use Rattle.mpt_rules.specs.Ioc.Steps as step
use Rattle.mpt_rules.specs.Ioc.Tables.{is_held_as, is_operational, is_post_of, is_reset, request_at}
use Rattle.mpt_rules.specs.Law.{NothingIsStrange}
use Rattle.mpt_rules.specs.World.Cases.{is_free}
use Rattle.mpt_rules.specs.World.Counts.{how_many, one_if, post_count, queued_count, reply_count}
use Rattle.mpt_rules.specs.World.FabricCounts as fc
use Rattle.mpt_rules.specs.World.FabricCounts.{abort_end_count, gone_count, link_count, linked_count, reset_end_count, result_count, sent_abort_count, sent_reset_count, sent_task_count, task_count, terminated_count}
use Rattle.mpt_rules.specs.World.Lines.{back_line, down_line, out_line, said_of}
use Rattle.mpt_rules.specs.World.PlaceCounts.{replies_on, smid_count}
use Rattle.mpt_rules.specs.World.State.{World, up_on, with_up}
use Rattle.mpt_rules.proofs.Counts.{post_count-append, post_count-cons, queued_count-cons, queued_count-nil}
use Rattle.mpt_rules.proofs.FabricCounts as fcp
use Rattle.law_facts.specs.Clock.{Clock, in_begun, in_reset, is_live}
use Rattle.law_facts.specs.Facts.{Facts}
use Rattle.law_facts.specs.Flights.{OneAtFabric, abort_tokens, command_tokens, reset_tokens}
use Rattle.law_facts.specs.History.{History}
use Rattle.law_facts.specs.Messages.{AbortAt, CommandAt, IsTarget, PostIsRecord, RequestIs}
use Rattle.law_facts.specs.Words.{is_abort, is_abort_asked, is_bare, is_command, is_command_asked, is_load, is_reply, is_stop, is_target_asked, is_target_reset, slot}
use Rattle.law_flights.proofs.IocTakes.{fresh_at}
use Rattle.law_flights.proofs.Rising.{same_identifier}
use Rattle.law_flights.proofs.WorkLeaves.{works_leaf}
use Rattle.law_frames.proofs.FabricTokens.{SameTokens}
use Rattle.law_moves.proofs.Cases.{IsHosts}
use Rattle.law_moves.proofs.Counted.{false_by_none, how_many-cons, how_many-nil, others-cons, others-nil}
use Rattle.law_moves.proofs.HostGoes.{heard_of}
use Rattle.law_moves.proofs.IocTakes as leaf
use Rattle.law_moves.proofs.IocTakes.{Takes}
use Rattle.law_moves.proofs.Phases.{and_false}
use Rattle.law_clock.proofs.PhaseKept.{asked_now}
use Rattle.law_starts.proofs.StartsKept as starts
use Rattle.law_places.proofs.Premises.{goes}
use Rattle.law_places.proofs.Standing.{named_post}
use Rattle.law_orders.proofs.HostStays as stays
use Rattle.law_orders.proofs.IocOrders as orders
use Rattle.law_orders.proofs.IocOrders.{Goes, Quiet, request_by, request_set, same_request}
use Rattle.law_orders.proofs.Words.{all_tokens, above, below, clash, flip, is_wordless, kind_some, lane_put, lanes_taken, none_kept, nothing_kept, one_kind, one_wordless, open_of, outbox_said, outbox_taken, reply_reply, reset_said, same_is, sent_pool, state_else, state_live, state_ready, state_reset, stopped}

module _ (s : ℕ) (least : 1 ≤ s) (most : s ≤ 280) where
  -- found nowhere, though its request is open
  pub record IsOld (v : World) : Type 0 where
    pub nowhere : smid_count v s ≡ 0
    pub command : 1 ≤ command_tokens v s → is_command_asked (slot v.host s) ≡ true
    pub abort : 1 ≤ abort_tokens v s → is_abort_asked (slot v.host s) ≡ true
    pub reset : 1 ≤ reset_tokens v s → is_target_asked (slot v.host s) ≡ true

  -- the facts, by the controller's state alone
  pub record Stands (v : World) : Type 0 where
    pub commands : is_live v ≡ true → command_tokens v s ≡ one_if (is_command (request_at v.ioc s))
    pub aborts : is_live v ≡ true → abort_tokens v s ≡ one_if (is_abort (request_at v.ioc s))
    pub resets : is_live v ≡ true → reset_tokens v s ≡ one_if (is_target_reset (request_at v.ioc s))
    pub at_most : all_tokens v s ≤ 1
    pub none : is_live v ≡ false → is_reset (state_of v.ioc) ≡ false → all_tokens v s ≡ 0
    pub old : is_reset (state_of v.ioc) ≡ true → 1 ≤ all_tokens v s → IsOld v

  -- where it is found nowhere, each count is 0
  pub record Nowhere (v : World) : Type 0 where
    pub pool : one_if (not (is_open (slot_of v.host.pool s))) ≡ 0
    pub line : post_count s (down_line v) ≡ 0
    pub high : queued_count s v.ioc.high ≡ 0
    pub normal : queued_count s v.ioc.normal ≡ 0
    pub request : one_if (is_some (request_at v.ioc s)) ≡ 0
    pub held : how_many (is_held_as s) v.ioc.held ≡ 0
    pub said : sum_by (reply_count s) v.ioc.up ≡ 0
    pub lanes : sum_by (replies_on s) v.up ≡ 0

  pub parts : (v : World) → smid_count v s ≡ 0 → Nowhere v
  parts v z =
      record {
        pool = omega (arith, z);
        line = omega (arith, z);
        high = omega (arith, z);
        normal = omega (arith, z);
        request = omega (arith, z);
        held = omega (arith, z);
        said = omega (arith, z);
        lanes = omega (arith, z);
      }

  pub whole : (v : World) → Nowhere v → smid_count v s ≡ 0
  whole v n =
      let a = n.pool in let b = n.line in let c = n.high in let d = n.normal in let e = n.request in let f = n.held in let g = n.said in let i = n.lanes in
      omega (arith, a, b, c, d, e, f, g, i)

  module _ (w : World) (h : History) (f : Facts w h) (plain : NothingIsStrange w) where
    pub clock : Clock w h
    clock = f.clock

    one : OneAtFabric w s
    one = f.flights.fabric s least most

    pub begun : is_reset (state_of w.ioc) ≡ true → in_reset w ≡ true
    begun r = both (in_begun w) (is_reset (state_of w.ioc)) (clock.phase_table.reset r) r
      where
        both : (a b : Bool) → a ≡ true → b ≡ true → (a && b) ≡ true
        both true b x y = y
        both false b x y = absurd (cc)

    not_begun : is_reset (state_of w.ioc) ≡ false → in_reset w ≡ false
    not_begun r = last_false (in_begun w) (is_reset (state_of w.ioc)) r
      where
        last_false : (a b : Bool) → b ≡ false → (a && b) ≡ false
        last_false true b e = e
        last_false false b e = refl

    pub here : Stands w
    here =
        record {
          commands = one.commands;
          aborts = one.aborts;
          resets = one.resets;
          at_most = one.at_most;
          none = λ l r. one.none l (not_begun r);
          old = λ r o. record { nowhere = one.old (begun r) o; command = one.old_command (begun r); abort = one.old_abort (begun r); reset = one.old_reset (begun r) };
        }

    pub few_tasks : task_count s w.fabric.tasks ≤ 1
    few_tasks = let m = here.at_most in omega (arith, m)

    -- ---- as much as before

    -- what is open stays so, and is found nowhere still
    pub record StaysOld (v : World) : Type 0 where
      pub nowhere : smid_count v s ≡ 0
      pub slot_is : slot v.host s ≡ slot w.host s

    pub same : (v : World) → SameTokens s w v → request_at v.ioc s ≡ request_at w.ioc s → state_of v.ioc ≡ state_of w.ioc → (is_reset (state_of w.ioc) ≡ true → smid_count w s ≡ 0 → StaysOld v) → Stands v
    same v t q st o =
        let tc = t.commands in let ta = t.aborts in let tr = t.resets in
        let m = here.at_most in
        record {
          commands = λ l. t.commands ∙ (here.commands (sym (ap is_operational st) ∙ l) ∙ ap (λ x. one_if (is_command x)) (sym q));
          aborts = λ l. t.aborts ∙ (here.aborts (sym (ap is_operational st) ∙ l) ∙ ap (λ x. one_if (is_abort x)) (sym q));
          resets = λ l. t.resets ∙ (here.resets (sym (ap is_operational st) ∙ l) ∙ ap (λ x. one_if (is_target_reset x)) (sym q));
          at_most = omega (arith, tc, ta, tr, m);
          none = λ l r. let z = here.none (sym (ap is_operational st) ∙ l) (sym (ap is_reset st) ∙ r) in omega (arith, tc, ta, tr, z);
          old = λ r p.
              let before = here.old (sym (ap is_reset st) ∙ r) (omega (arith, tc, ta, tr, p)) in
              let k = o (sym (ap is_reset st) ∙ r) before.nowhere in
              record {
                nowhere = k.nowhere;
                command = λ c. ap is_command_asked k.slot_is ∙ before.command (omega (arith, tc, c));
                abort = λ c. ap is_abort_asked k.slot_is ∙ before.abort (omega (arith, ta, c));
                reset = λ c. ap is_target_asked k.slot_is ∙ before.reset (omega (arith, tr, c));
              };
        }

    -- ---- less than before, in RESET or before IOC Init
    pub record Fewer (v : World) : Type 0 where
      pub commands : command_tokens v s ≤ command_tokens w s
      pub aborts : abort_tokens v s ≤ abort_tokens w s
      pub resets : reset_tokens v s ≤ reset_tokens w s

    pub fewer : (v : World) → Fewer v → is_operational (state_of v.ioc) ≡ false → (is_reset (state_of v.ioc) ≡ false → all_tokens v s ≡ 0) → (is_reset (state_of v.ioc) ≡ true → 1 ≤ all_tokens v s → IsOld v) → Stands v
    fewer v t d n o =
        let tc = t.commands in let ta = t.aborts in let tr = t.resets in let m = here.at_most in
        record {
          commands = λ l. clash (is_live v) l d;
          aborts = λ l. clash (is_live v) l d;
          resets = λ l. clash (is_live v) l d;
          at_most = omega (arith, tc, ta, tr, m);
          none = λ l r. n r;
          old = o;
        }

    -- in RESET it is as old as before
    pub older : (v : World) → Fewer v → is_reset (state_of w.ioc) ≡ true → (smid_count w s ≡ 0 → StaysOld v) → 1 ≤ all_tokens v s → IsOld v
    older v t r o p =
        let tc = t.commands in let ta = t.aborts in let tr = t.resets in
        let before = here.old r (omega (arith, tc, ta, tr, p)) in
        let k = o before.nowhere in
        record {
          nowhere = k.nowhere;
          command = λ c. ap is_command_asked k.slot_is ∙ before.command (omega (arith, tc, c));
          abort = λ c. ap is_abort_asked k.slot_is ∙ before.abort (omega (arith, ta, c));
          reset = λ c. ap is_target_asked k.slot_is ∙ before.reset (omega (arith, tr, c));
        }

    pub same_tokens : (v : World) → command_tokens v s ≡ command_tokens w s → abort_tokens v s ≡ abort_tokens w s → reset_tokens v s ≡ reset_tokens w s → SameTokens s w v
    same_tokens v a b c = record { commands = a; aborts = b; resets = c }

    unmoved : SameTokens s w w
    unmoved = same_tokens w refl refl refl

    -- ---- the host

    pub host_puts : (x : Down) (rest : List Down) → w.host.out ≡ x ∷ rest → Stands (record w { host = after_sent w.host x rest; down = w.down ++ x ∷ [] })
    host_puts x rest e =
        let v : World = record w { host = after_sent w.host x rest; down = w.down ++ x ∷ [] } in
        let p = sent_pool w.host x rest in
        let line : down_line v ≡ down_line w = ap (λ o. (w.down ++ x ∷ []) ++ o) p.1 ∙ (append_assoc w.down (x ∷ []) rest ∙ ap (λ o. w.down ++ o) (sym e)) in
        same v (same_tokens v refl refl refl) refl refl
        (λ r z.
        let n = parts w z in
        record {
          nowhere = whole v (record { pool = ap (λ o. one_if (not (is_open (slot_of o s)))) p.0 ∙ n.pool; line = ap (post_count s) line ∙ n.line; high = n.high; normal = n.normal; request = n.request; held = n.held; said = n.said; lanes = n.lanes });
          slot_is = ap (λ o. slot_of o s) p.0;
        })

    -- the host alone, where it keeps what is open and makes no post
    pub host_only : (k : Host) → (is_reset (state_of w.ioc) ≡ true → post_count s w.host.out ≡ 0 → (r : Request) → slot_of w.host.pool s ≡ Open r → (slot_of k.pool s ≡ slot_of w.host.pool s) × (post_count s k.out ≡ 0)) → Stands (record w { host = k })
    host_only k g =
        let v : World = record w { host = k } in
        same v (same_tokens v refl refl refl) refl refl
        (λ r z.
        let n = parts w z in
        let o = open_of (slot_of w.host.pool s) n.pool in
        let a = post_count-append s w.down w.host.out in
        let b = post_count-append s w.down k.out in
        let nl = n.line in
        let q = g r (omega (arith, nl, a)) o.0 o.1 in
        let q1 = q.1 in
        record {
          nowhere = whole v (record { pool = ap (λ x. one_if (not (is_open x))) q.0 ∙ n.pool; line = omega (arith, nl, a, b, q1); high = n.high; normal = n.normal; request = n.request; held = n.held; said = n.said; lanes = n.lanes });
          slot_is = q.0;
        })

    pub host_takes : (queue : ℕ) (x : Up) (rest : List Up) → up_on w queue ≡ x ∷ rest → Stands (record (with_up w queue rest) { host = (hears_up w.host queue x).part })
    host_takes queue x rest e =
        let k : Host = (hears_up w.host queue x).part in
        let v : World = record (with_up w queue rest) { host = k } in
        same v (same_tokens v refl refl refl) refl refl
        (λ r z.
        let n = parts w z in
        let o = open_of (slot_of w.host.pool s) n.pool in
        let a = post_count-append s w.down w.host.out in
        let b = post_count-append s w.down k.out in
        let t = lanes_taken s w.up queue x rest e n.lanes in
        let nl = n.line in
        let none : post_count s w.host.out ≡ 0 = omega (arith, nl, a) in
        let p = stays.no_posts w h f plain r s none k (heard_of queue x) (goes w h f plain queue x rest e) in
        let q = stays.item_kept w h f plain r s none o.0 o.1 queue x rest e (λ d g page sense i. apart d g page sense (subst (λ y. one_if (is_reply_of s (said_of y)) ≡ 0) i t.0)) in
        record {
          nowhere = whole v (record { pool = ap (λ x. one_if (not (is_open x))) q ∙ n.pool; line = omega (arith, nl, a, b, p); high = n.high; normal = n.normal; request = n.request; held = n.held; said = n.said; lanes = t.1 });
          slot_is = q;
        })
      where
        by_zero : (b : Bool) → one_if b ≡ 0 → b ≡ false
        by_zero true z = absurd (omega (arith, z))
        by_zero false z = refl

        apart : (d : ℕ) (g : Option (List ℕ)) (page sense : List ℕ) → one_if (is_reply_of s (said_of (up.Reply d g page sense))) ≡ 0 → (s == smid_in d) ≡ false
        apart d None page sense z = flip (smid_in d) s (by_zero (smid_in d == s) z)
        apart d (Some bytes) page sense z = flip (smid_in d) s (by_zero (smid_in d == s) z)

    pub host_told : (i : Rattle.mpt_trace.specs.declared.input.Input.Input) → IsHosts i → Stands (record w { host = (Rattle.mpt_rules.specs.World.Inputs.host_told w.host i).part })
    host_told i g =
        host_only (Rattle.mpt_rules.specs.World.Inputs.host_told w.host i).part
        (λ r none q e. let t = stays.told_same w.host (stays.mode_is w h f plain r) i g in (ap (λ (k : Host). slot_of k.pool s) t, ap (λ (k : Host). post_count s k.out) t ∙ none))

    pub not_free : is_reset (state_of w.ioc) ≡ true → is_free w.host ≡ true → ⊥
    not_free r e = clash (is_up w.host.mode) (and_false _ _ e).0 (ap is_up (stays.mode_is w h f plain r))

    -- ---- the controller takes an item of the host

    -- an order that goes out of it as before
    by_out : (k : Ioc) (rest : List Down) → k.out ≡ w.ioc.out → SameTokens s w (record w { ioc = k; down = rest })
    by_out k rest e =
        record {
          commands = ap (λ o. sent_task_count s (w.out ++ o) + (task_count s w.fabric.tasks + (result_count s (back_line w) + (gone_count s (back_line w) + terminated_count s (back_line w))))) e;
          aborts = ap (λ o. sent_abort_count s (w.out ++ o) + abort_end_count s (back_line w)) e;
          resets = ap (λ o. sent_reset_count s (w.out ++ o) + reset_end_count s (back_line w)) e;
        }

    -- the line down without its front
    line_less : (x : Down) (rest : List Down) → w.down ≡ x ∷ rest → post_count s (down_line w) ≡ 0 → post_count s (rest ++ w.host.out) ≡ 0
    line_less x rest e z = let a = ap (λ xs. post_count s (xs ++ w.host.out)) e in let c = post_count-cons s x (rest ++ w.host.out) in omega (arith, a, c, z)

    no_load : (x : Down) (rest : List Down) → w.down ≡ x ∷ rest → is_load x ≡ true → is_operational (state_of w.ioc) ≡ false → ⊥
    no_load x rest e l o =
        let a = ap (λ xs. how_many is_load (xs ++ w.host.out)) e in
        let c = how_many-cons is_load x (rest ++ w.host.out) in
        let y = ap one_if l in
        clash (is_live w) (clock.loads_before_reset.live (omega (arith, a, c, y))) o

    -- what is behind a reset's write is what was asked
    kinds_asked : one_if (is_some (request_at w.ioc s)) ≡ 1 → (1 ≤ one_if (is_command (request_at w.ioc s)) → is_command_asked (slot w.host s) ≡ true) × (1 ≤ one_if (is_abort (request_at w.ioc s)) → is_abort_asked (slot w.host s) ≡ true)
        × (1 ≤ one_if (is_target_reset (request_at w.ioc s)) → is_target_asked (slot w.host s) ≡ true)
    kinds_asked q = by_request (request_at w.ioc s) (f.messages.requests s)
      where
        of_command : (handle queue len : ℕ) (written : Option ℕ) (x : Slot Request) → CommandAt w h s handle queue len written x → is_command_asked x ≡ true
        of_command handle queue len written (Open (request.Command n)) i = refl
        of_command handle queue len written (Open (request.Abort n task)) i = absurd i
        of_command handle queue len written (Open (request.TargetReset address)) i = absurd i
        of_command handle queue len written (Open (request.Leave hd)) i = absurd i
        of_command handle queue len written (Open (request.Page hd)) i = absurd i
        of_command handle queue len written (Open (request.Remove hd)) i = absurd i
        of_command handle queue len written (Open (request.Ack event context)) i = absurd i
        of_command handle queue len written (Open request.Notification) i = absurd i
        of_command handle queue len written (Open request.PortEnable) i = absurd i
        of_command handle queue len written Free i = absurd i
        of_command handle queue len written Parked i = absurd i

        of_abort : (handle : ℕ) (x : Slot Request) → AbortAt w handle x → is_abort_asked x ≡ true
        of_abort handle (Open (request.Abort n task)) i = refl
        of_abort handle (Open (request.Command n)) i = absurd i
        of_abort handle (Open (request.TargetReset address)) i = absurd i
        of_abort handle (Open (request.Leave hd)) i = absurd i
        of_abort handle (Open (request.Page hd)) i = absurd i
        of_abort handle (Open (request.Remove hd)) i = absurd i
        of_abort handle (Open (request.Ack event context)) i = absurd i
        of_abort handle (Open request.Notification) i = absurd i
        of_abort handle (Open request.PortEnable) i = absurd i
        of_abort handle Free i = absurd i
        of_abort handle Parked i = absurd i

        of_reset : (x : Slot Request) → IsTarget x → is_target_asked x ≡ true
        of_reset (Open (request.TargetReset address)) i = refl
        of_reset (Open (request.Command n)) i = absurd i
        of_reset (Open (request.Abort n task)) i = absurd i
        of_reset (Open (request.Leave hd)) i = absurd i
        of_reset (Open (request.Page hd)) i = absurd i
        of_reset (Open (request.Remove hd)) i = absurd i
        of_reset (Open (request.Ack event context)) i = absurd i
        of_reset (Open request.Notification) i = absurd i
        of_reset (Open request.PortEnable) i = absurd i
        of_reset Free i = absurd i
        of_reset Parked i = absurd i

        by_request : (o : Option Kept) → RequestIs w h s o → (1 ≤ one_if (is_command o) → is_command_asked (slot w.host s) ≡ true) × (1 ≤ one_if (is_abort o) → is_abort_asked (slot w.host s) ≡ true) × (1 ≤ one_if (is_target_reset o) → is_target_asked (slot w.host s) ≡ true)
        by_request None i = (λ l. absurd (omega (arith, l)), λ l. absurd (omega (arith, l)), λ l. absurd (omega (arith, l)))
        by_request (Some (at.Command handle queue len written)) i = (λ l. of_command handle queue len written (slot w.host s) i, λ l. absurd (omega (arith, l)), λ l. absurd (omega (arith, l)))
        by_request (Some (at.Abort handle)) i = (λ l. absurd (omega (arith, l)), λ l. of_abort handle (slot w.host s) i, λ l. absurd (omega (arith, l)))
        by_request (Some (at.TargetReset handle)) i = (λ l. absurd (omega (arith, l)), λ l. absurd (omega (arith, l)), λ l. of_reset (slot w.host s) i)
        by_request (Some at.PortEnable) i = (λ l. absurd (omega (arith, l)), λ l. absurd (omega (arith, l)), λ l. absurd (omega (arith, l)))

    -- the controller forgets all
    forgets : (x : Down) (rest : List Down) (d : Rattle.mpi_doorbell.specs.DoorRegisters.DoorRegisters) → w.down ≡ x ∷ rest → is_reset (state_of w.ioc) ≡ false → Stands (record w { ioc = Rattle.mpt_rules.specs.Ioc.Resets.forgets (record w.ioc { door = d }); down = rest })
    forgets x rest d e r = fewer v less refl (λ y. absurd (cc)) (λ y p. is_old p)
      where
        k : Ioc
        k = Rattle.mpt_rules.specs.Ioc.Resets.forgets (record w.ioc { door = d })

        v : World
        v = record w { ioc = k; down = rest }

        less : Fewer v
        less =
            let g : ℕ = Rattle.mpt_rules.specs.Ioc.Resets.next_generation w.ioc in
            let a1 = fcp.sent_task_count-append s w.out (out.Link g ∷ []) in let a2 = fcp.sent_task_count-cons s (out.Link g) [] in let a3 = fcp.sent_task_count-nil s in let a4 = fcp.sent_task_count-append s w.out w.ioc.out in
            let b1 = fcp.sent_abort_count-append s w.out (out.Link g ∷ []) in let b2 = fcp.sent_abort_count-cons s (out.Link g) [] in let b3 = fcp.sent_abort_count-nil s in let b4 = fcp.sent_abort_count-append s w.out w.ioc.out in
            let c1 = fcp.sent_reset_count-append s w.out (out.Link g ∷ []) in let c2 = fcp.sent_reset_count-cons s (out.Link g) [] in let c3 = fcp.sent_reset_count-nil s in let c4 = fcp.sent_reset_count-append s w.out w.ioc.out in
            record { commands = omega (arith, a1, a2, a3, a4); aborts = omega (arith, b1, b2, b3, b4); resets = omega (arith, c1, c2, c3, c4) }

        is_old : 1 ≤ all_tokens v s → IsOld v
        is_old p = by_live (is_operational (state_of w.ioc)) refl
          where
            tc : command_tokens v s ≤ command_tokens w s
            tc = less.commands

            ta : abort_tokens v s ≤ abort_tokens w s
            ta = less.aborts

            tr : reset_tokens v s ≤ reset_tokens w s
            tr = less.resets

            by_live : (b : Bool) → is_operational (state_of w.ioc) ≡ b → IsOld v
            by_live false l = let z = here.none l r in absurd (omega (arith, tc, ta, tr, p, z))
            by_live true l =
                let c1 = here.commands l in let c2 = here.aborts l in let c3 = here.resets l in
                let some = kind_some (request_at w.ioc s) (omega (arith, c1, c2, c3, tc, ta, tr, p)) in
                let m = (f.flights.identifiers s least most).at_most in
                let q = kinds_asked some in
                let n1 = queued_count-nil s in
                let n2 = how_many-nil (is_held_as s) in
                let g = reset_said s (Rattle.mpt_rules.specs.Ioc.Resets.next_generation w.ioc) w.ioc.up in
                let t : request_at k s ≡ None = same_request k s ∙ fresh_at 280 s in
                record {
                  nowhere = whole v (record {
                    pool = omega (arith, m, some);
                    line = line_less x rest e (omega (arith, m, some));
                    high = n1;
                    normal = n1;
                    request = ap (λ o. one_if (is_some o)) t;
                    held = n2;
                    said = g;
                    lanes = omega (arith, m, some);
                  });
                  command = λ y. q.0 (omega (arith, c1, tc, y));
                  abort = λ y. q.1 (omega (arith, c2, ta, y));
                  reset = λ y. q.2 (omega (arith, c3, tr, y));
                }

    -- another door alone
    redoored : (x : Down) (rest : List Down) (k : Ioc) → w.down ≡ x ∷ rest → k ≡ record w.ioc { door = k.door; vectors = k.vectors } → state_of k ≡ state_of w.ioc → Stands (record w { ioc = k; down = rest })
    redoored x rest k e sa st =
        let v : World = record w { ioc = k; down = rest } in
        let q = request_by w.ioc k s (ap (λ (y : Ioc). y.requests) sa) in
        same v (by_out k rest (ap (λ (y : Ioc). y.out) sa)) q st
        (λ r z.
        let n = parts w z in
        record {
          nowhere = whole v (record {
            pool = n.pool;
            line = line_less x rest e n.line;
            high = ap (λ (y : Ioc). queued_count s y.high) sa ∙ n.high;
            normal = ap (λ (y : Ioc). queued_count s y.normal) sa ∙ n.normal;
            request = ap (λ o. one_if (is_some o)) q ∙ n.request;
            held = ap (λ (y : Ioc). how_many (is_held_as s) y.held) sa ∙ n.held;
            said = ap (λ (y : Ioc). sum_by (reply_count s) y.up) sa ∙ n.said;
            lanes = n.lanes;
          });
          slot_is = refl;
        })

    -- it is live, so that nothing is old
    live_only : (x : Down) (rest : List Down) (k : Ioc) → k.requests ≡ w.ioc.requests → k.out ≡ w.ioc.out → state_of k ≡ state_of w.ioc → is_operational (state_of w.ioc) ≡ true → Stands (record w { ioc = k; down = rest })
    live_only x rest k q o st l = same (record w { ioc = k; down = rest }) (by_out k rest o) (request_by w.ioc k s q) st (λ r z. clash (is_operational (state_of w.ioc)) l (state_reset (state_of w.ioc) r).0)

    pub taken : (x : Down) (rest : List Down) (k : Ioc) → w.down ≡ x ∷ rest → Takes w.ioc x k → is_fault (state_of k) ≡ false → Stands (record w { ioc = k; down = rest })
    taken x rest k e (leaf.Faults y j g) nf = clash (is_fault (state_of k)) g nf
    taken x rest k e (leaf.Written reg value j nr st sa) nf = redoored x rest k e sa st
    taken x rest k e (leaf.Operates value j nr rd st sa) nf =
        let v : World = record w { ioc = k; down = rest } in
        let t = by_out k rest (ap (λ (y : Ioc). y.out) sa) in
        let tc = t.commands in let ta = t.aborts in let tr = t.resets in
        let ready = state_ready (state_of w.ioc) rd in
        let z = here.none ready.0 ready.1 in
        let q : request_at k s ≡ None = request_by w.ioc k s (ap (λ (y : Ioc). y.requests) sa) ∙ (same_request w.ioc s ∙ none_kept w.ioc.requests s (clock.tables_empty ready.2).requests) in
        let q1 = ap (λ o. one_if (is_command o)) q in let q2 = ap (λ o. one_if (is_abort o)) q in let q3 = ap (λ o. one_if (is_target_reset o)) q in
        record {
          commands = λ l. omega (arith, tc, z, q1);
          aborts = λ l. omega (arith, ta, z, q2);
          resets = λ l. omega (arith, tr, z, q3);
          at_most = omega (arith, tc, ta, tr, z);
          none = λ l r. omega (arith, tc, ta, tr, z);
          old = λ r p. absurd (omega (arith, tc, ta, tr, z, p));
        }
    taken x rest k e (leaf.Forgets reg value d c) nf = forgets x rest d e (by_reset (is_reset (state_of w.ioc)) refl)
      where
        ahead : (in_begun w) ≡ true → ⊥
        ahead y = apart (is_resetting w.host.mode) (w.host.asked == w.ioc.generation) y (and_false _ _ (asked_now w h (starts.before w h f plain) x rest e c)).0
          where
            apart : (a b : Bool) → (a && b) ≡ true → (a && not b) ≡ true → ⊥
            apart true true y z = cc
            apart true false y z = cc
            apart false b y z = cc

        by_reset : (b : Bool) → is_reset (state_of w.ioc) ≡ b → b ≡ false
        by_reset true y = absurd (ahead (clock.phase_table.reset y))
        by_reset false y = refl
    taken x rest k e (leaf.Reads reg value) nf =
        let v : World = record w { ioc = k; down = rest } in
        let q = request_by w.ioc k s refl in
        same v (by_out k rest refl) q refl
        (λ r z.
        let n = parts w z in
        record {
          nowhere = whole v (record { pool = n.pool; line = line_less x rest e n.line; high = n.high; normal = n.normal; request = ap (λ o. one_if (is_some o)) q ∙ n.request; held = n.held; said = outbox_said s w.ioc.up 0 (said.Value value) refl n.said; lanes = n.lanes });
          slot_is = refl;
        })
    taken x rest k e (leaf.Posts d g p j o sa) nf = live_only x rest k (ap (λ (y : Ioc). y.requests) sa) (ap (λ (y : Ioc). y.out) sa) (ap (λ (y : Ioc). state_of y) sa) o
    taken x rest k e (leaf.DropsPost d g p o) nf = absurd (no_load x rest e refl o)
    taken x rest k e (leaf.Returns address index j o sa) nf = live_only x rest k (ap (λ (y : Ioc). y.requests) sa) (ap (λ (y : Ioc). y.out) sa) (ap (λ (y : Ioc). state_of y) sa) o
    taken x rest k e (leaf.DropsReturn address index o) nf = absurd (no_load x rest e refl o)
    taken x rest k e leaf.Stops nf =
        let v : World = record w { ioc = k; down = rest } in
        let q = request_by w.ioc k s refl in
        let n = stopped s (out.Stop ∷ []) (let c = others-cons is_stop out.Stop [] in let m = others-nil is_stop in omega (arith, c, m)) in
        let n1 = n.tasks in let n2 = n.aborts in let n3 = n.resets in
        let a1 = fcp.sent_task_count-append s w.ioc.out (out.Stop ∷ []) in let a2 = fcp.sent_task_count-append s w.out (w.ioc.out ++ out.Stop ∷ []) in let a3 = fcp.sent_task_count-append s w.out w.ioc.out in
        let b1 = fcp.sent_abort_count-append s w.ioc.out (out.Stop ∷ []) in let b2 = fcp.sent_abort_count-append s w.out (w.ioc.out ++ out.Stop ∷ []) in let b3 = fcp.sent_abort_count-append s w.out w.ioc.out in
        let c1 = fcp.sent_reset_count-append s w.ioc.out (out.Stop ∷ []) in let c2 = fcp.sent_reset_count-append s w.out (w.ioc.out ++ out.Stop ∷ []) in let c3 = fcp.sent_reset_count-append s w.out w.ioc.out in
        same v (same_tokens v (omega (arith, n1, a1, a2, a3)) (omega (arith, n2, b1, b2, b3)) (omega (arith, n3, c1, c2, c3))) q refl
        (λ r z. absurd (no_load x rest e refl (state_reset (state_of w.ioc) r).0))

    -- ---- work

    worked : (k : Ioc) → Goes s w.ioc k → is_operational (state_of w.ioc) ≡ true → Stands (record w { ioc = k })
    worked k g l =
        let v : World = record w { ioc = k } in
        let c1 = here.commands l in let c2 = here.aborts l in let c3 = here.resets l in
        let g1 = g.tasks in let g2 = g.aborts in let g3 = g.resets in
        let a1 = fcp.sent_task_count-append s w.out k.out in let a2 = fcp.sent_task_count-append s w.out w.ioc.out in
        let b1 = fcp.sent_abort_count-append s w.out k.out in let b2 = fcp.sent_abort_count-append s w.out w.ioc.out in
        let d1 = fcp.sent_reset_count-append s w.out k.out in let d2 = fcp.sent_reset_count-append s w.out w.ioc.out in
        let m = one_kind (request_at k s) in
        let y : is_operational (state_of k) ≡ true = ap is_operational g.state ∙ l in
        record {
          commands = λ z. omega (arith, c1, g1, a1, a2);
          aborts = λ z. omega (arith, c2, g2, b1, b2);
          resets = λ z. omega (arith, c3, g3, d1, d2);
          at_most = omega (arith, c1, g1, a1, a2, c2, g2, b1, b2, c3, g3, d1, d2, m);
          none = λ z r. clash (is_operational (state_of k)) y z;
          old = λ r p. clash (is_reset (state_of k)) r (state_live (state_of k) y);
        }

    -- the identifier of a queued post isn't at the fabric
    queued_none : (p : Post) → PostIsRecord w h p → 1 ≤ queued_count (smid_in p.descriptor) w.ioc.high + queued_count (smid_in p.descriptor) w.ioc.normal → request_at w.ioc (smid_in p.descriptor) ≡ None
    queued_none p i q =
        let m = named_post w h f p (smid_in p.descriptor) i in
        let a = (f.flights.identifiers (smid_in p.descriptor) m.0 m.1).at_most in
        nothing_kept (request_at w.ioc (smid_in p.descriptor)) (omega (arith, a, q))

    works : (i : Ioc) (p : Post) → i.requests ≡ w.ioc.requests → i.out ≡ w.ioc.out → state_of i ≡ state_of w.ioc → PostIsRecord w h p → 1 ≤ queued_count (smid_in p.descriptor) w.ioc.high + queued_count (smid_in p.descriptor) w.ioc.normal → is_operational (state_of w.ioc) ≡ true
        → Stands (record w { ioc = (step.works_on i p).part })
    works i p ra oa sa r q l =
        let m = named_post w h f p (smid_in p.descriptor) r in
        let m0 = m.0 in let m1 = m.1 in
        let z = f.flights.sizes.requests in
        let y = ap length ra in
        let g = orders.worked s i p m.0 (omega (arith, m0, m1, z, y)) (request_by w.ioc i (smid_in p.descriptor) ra ∙ queued_none p r q) (step.works_on i p) (works_leaf i p) in
        let e = request_by w.ioc i s ra in
        let g1 = g.tasks in let g2 = g.aborts in let g3 = g.resets in
        let e1 = ap (λ o. one_if (is_command o)) e in let e2 = ap (λ o. one_if (is_abort o)) e in let e3 = ap (λ o. one_if (is_target_reset o)) e in
        let o1 = ap (sent_task_count s) oa in let o2 = ap (sent_abort_count s) oa in let o3 = ap (sent_reset_count s) oa in
        worked (step.works_on i p).part (record { tasks = omega (arith, g1, e1, o1); aborts = omega (arith, g2, e2, o2); resets = omega (arith, g3, e3, o3); state = g.state ∙ sa }) l

    not_bare : (p : Post) (rest : List Post) → (w.ioc.high ≡ p ∷ rest) ⊎ (w.ioc.normal ≡ p ∷ rest) → is_operational (state_of w.ioc) ≡ true
    not_bare p rest e = state_else (state_of w.ioc) clock.phase_table.whole (by_bare (is_bare (state_of w.ioc)) refl)
      where
        filled : (ps : List Post) → ps ≡ p ∷ rest → ps ≡ [] → ⊥
        filled ps x y = let z : p ∷ rest ≡ [] = sym x ∙ y in cc

        in_queue : (w.ioc.high ≡ p ∷ rest) ⊎ (w.ioc.normal ≡ p ∷ rest) → is_bare (state_of w.ioc) ≡ true → ⊥
        in_queue (inl x) y = filled w.ioc.high x (clock.tables_empty y).high
        in_queue (inr x) y = filled w.ioc.normal x (clock.tables_empty y).normal

        by_bare : (b : Bool) → is_bare (state_of w.ioc) ≡ b → b ≡ false
        by_bare true y = absurd (in_queue e y)
        by_bare false y = refl

    front_counts : (p : Post) (rest : List Post) (ps : List Post) → ps ≡ p ∷ rest → 1 ≤ queued_count (smid_in p.descriptor) ps
    front_counts p rest ps e =
        let a = ap (queued_count (smid_in p.descriptor)) e in
        let c = queued_count-cons (smid_in p.descriptor) p rest in
        let o : one_if (is_post_of (smid_in p.descriptor) p) ≡ 1 = ap one_if (same_is (smid_in p.descriptor)) in
        omega (arith, a, c, o)

    pub ioc_high : (p : Post) (rest : List Post) → w.ioc.high ≡ p ∷ rest → Stands (record w { ioc = (step.works_on (record w.ioc { high = rest }) p).part })
    ioc_high p rest e =
        let q = front_counts p rest w.ioc.high e in
        works (record w.ioc { high = rest }) p refl refl refl (All-head (PostIsRecord w h) p rest (subst (All (PostIsRecord w h)) e f.messages.high)) (omega (arith, q)) (not_bare p rest (inl e))

    pub ioc_normal : (p : Post) (rest : List Post) → w.ioc.normal ≡ p ∷ rest → Stands (record w { ioc = (step.works_on (record w.ioc { normal = rest }) p).part })
    ioc_normal p rest e =
        let q = front_counts p rest w.ioc.normal e in
        works (record w.ioc { normal = rest }) p refl refl refl (All-head (PostIsRecord w h) p rest (subst (All (PostIsRecord w h)) e f.messages.normal)) (omega (arith, q)) (not_bare p rest (inr e))

    -- ---- puts

    pub ioc_puts_out : (x : Out) (rest : List Out) → w.ioc.out ≡ x ∷ rest → Stands (record w { ioc = record w.ioc { out = rest }; out = w.out ++ x ∷ [] })
    ioc_puts_out x rest e =
        let v : World = record w { ioc = record w.ioc { out = rest }; out = w.out ++ x ∷ [] } in
        let line : out_line v ≡ out_line w = append_assoc w.out (x ∷ []) rest ∙ ap (λ o. w.out ++ o) (sym e) in
        let q = request_by w.ioc v.ioc s refl in
        same v
        (same_tokens v (ap (λ o. sent_task_count s o + (task_count s w.fabric.tasks + (result_count s (back_line w) + (gone_count s (back_line w) + terminated_count s (back_line w))))) line)
        (ap (λ o. sent_abort_count s o + abort_end_count s (back_line w)) line) (ap (λ o. sent_reset_count s o + reset_end_count s (back_line w)) line)) q refl
        (λ r z. let n = parts w z in record { nowhere = whole v (record { pool = n.pool; line = n.line; high = n.high; normal = n.normal; request = ap (λ o. one_if (is_some o)) q ∙ n.request; held = n.held; said = n.said; lanes = n.lanes }); slot_is = refl })

    pub ioc_puts : (queue : ℕ) (y : Said) (rest : List Said) (z : Up) → outbox_of w.ioc queue ≡ y ∷ rest → up_of y (slice_get w.ioc.ring 0) ≡ Some z → Stands (with_up (record w { ioc = up_sent_on w.ioc queue }) queue (up_on w queue ++ z ∷ []))
    ioc_puts queue y rest z e u =
        let v : World = with_up (record w { ioc = up_sent_on w.ioc queue }) queue (up_on w queue ++ z ∷ []) in
        let q = request_by w.ioc v.ioc s refl in
        same v (same_tokens v refl refl refl) q refl
        (λ r p.
        let n = parts w p in
        let nr = no_reply r in
        let k = same_identifier s y (slice_get w.ioc.ring 0) z (λ i t. clash (is_reply y) (reply_reply i y t) nr) u in
        record {
          nowhere = whole v (record {
            pool = n.pool;
            line = n.line;
            high = n.high;
            normal = n.normal;
            request = ap (λ o. one_if (is_some o)) q ∙ n.request;
            held = n.held;
            said = outbox_taken s w.ioc.up queue y rest e n.said;
            lanes = lane_put s w.up queue z inside (k ∙ none s nr) n.lanes;
          });
          slot_is = refl;
        })
      where
        no_reply : is_reset (state_of w.ioc) ≡ true → is_reply y ≡ false
        no_reply r =
            let a = clock.no_reply_before_init.outboxes (state_reset (state_of w.ioc) r).0 queue in
            let b = ap (how_many is_reply) e in
            let c = how_many-cons is_reply y rest in
            false_by_none (is_reply y) (omega (arith, a, b, c))

        none : (i : ℕ) → is_reply y ≡ false → is_reply_of i y ≡ false
        none i nr = by_bool (is_reply_of i y) refl
          where
            by_bool : (b : Bool) → is_reply_of i y ≡ b → b ≡ false
            by_bool true t = clash (is_reply y) (reply_reply i y t) nr
            by_bool false t = refl

        inside : queue < length w.up
        inside = by_place (nat_lt queue (length w.up)) refl
          where
            by_place : (b : Bool) → nat_lt queue (length w.up) ≡ b → queue < length w.up
            by_place true t = below queue (length w.up) t
            by_place false t = let m = above queue (length w.up) t in let a = f.flights.sizes.outboxes in let c = f.flights.sizes.lanes in let q = get_or_past w.ioc.up queue [] (omega (arith, m, a, c)) in absurd (cc)

    -- ---- the controller takes an item of the fabric

    module _ (x : Back) (rest : List Back) (e : w.back ≡ x ∷ rest) where
      abbrev pub Behind : Ioc → World
      Behind k = record w { ioc = k; back = rest }

      -- what it is of the identifier
      abbrev pub ends_one : ℕ
      ends_one = one_if (fc.is_result_of s x) + (one_if (fc.is_gone_of s x) + one_if (fc.is_termination_of s x))

      pub record Less (k : Ioc) : Type 0 where
        pub commands : command_tokens (Behind k) s + ends_one ≡ command_tokens w s
        pub aborts : abort_tokens (Behind k) s + one_if (fc.is_abort_end_of s x) ≡ abort_tokens w s
        pub resets : reset_tokens (Behind k) s + one_if (fc.is_reset_end_of s x) ≡ reset_tokens w s

      pub less : (k : Ioc) → k.out ≡ w.ioc.out → Less k
      less k o =
          let a = ap (λ xs. result_count s (xs ++ w.fabric.out)) e in let a1 = fcp.result_count-cons s x (rest ++ w.fabric.out) in
          let b = ap (λ xs. gone_count s (xs ++ w.fabric.out)) e in let b1 = fcp.gone_count-cons s x (rest ++ w.fabric.out) in
          let c = ap (λ xs. terminated_count s (xs ++ w.fabric.out)) e in let c1 = fcp.terminated_count-cons s x (rest ++ w.fabric.out) in
          let d = ap (λ xs. abort_end_count s (xs ++ w.fabric.out)) e in let d1 = fcp.abort_end_count-cons s x (rest ++ w.fabric.out) in
          let g = ap (λ xs. reset_end_count s (xs ++ w.fabric.out)) e in let g1 = fcp.reset_end_count-cons s x (rest ++ w.fabric.out) in
          let o1 = ap (λ y. sent_task_count s (w.out ++ y)) o in let o2 = ap (λ y. sent_abort_count s (w.out ++ y)) o in let o3 = ap (λ y. sent_reset_count s (w.out ++ y)) o in
          record { commands = omega (arith, a, a1, b, b1, c, c1, o1); aborts = omega (arith, d, d1, o2); resets = omega (arith, g, g1, o3) }

      -- nothing of any
      pub plainly : (k : Ioc) → is_wordless x ≡ true → k.out ≡ w.ioc.out → SameTokens s w (Behind k)
      plainly k p o =
          let l = less k o in
          let l1 = l.commands in let l2 = l.aborts in let l3 = l.resets in
          let n = one_wordless s x p in
          let n1 = n.ends in let n2 = n.aborts in let n3 = n.resets in
          let a = fcp.result_count-cons s x [] in let a0 = fcp.result_count-nil s in let b = fcp.gone_count-cons s x [] in let b0 = fcp.gone_count-nil s in let c = fcp.terminated_count-cons s x [] in let c0 = fcp.terminated_count-nil s in
          let d = fcp.abort_end_count-cons s x [] in let d0 = fcp.abort_end_count-nil s in let g = fcp.reset_end_count-cons s x [] in let g0 = fcp.reset_end_count-nil s in
          same_tokens (Behind k) (omega (arith, l1, n1, a, a0, b, b0, c, c0)) (omega (arith, l2, n2, d, d0)) (omega (arith, l3, n3, g, g0))

      -- it is passed over where the controller isn't OPERATIONAL
      pub dropped : is_operational (state_of w.ioc) ≡ false → Stands (Behind w.ioc)
      dropped d =
          let l = less w.ioc refl in
          let l1 = l.commands in let l2 = l.aborts in let l3 = l.resets in
          let t : Fewer (Behind w.ioc) = record { commands = omega (arith, l1); aborts = omega (arith, l2); resets = omega (arith, l3) } in
          fewer (Behind w.ioc) t d (λ r. let z = here.none d r in omega (arith, l1, l2, l3, z)) (λ r p. older (Behind w.ioc) t r (λ z. record { nowhere = z; slot_is = refl }) p)

      -- the requests of the identifier stay, in a state that is OPERATIONAL
      pub quietly : (k : Ioc) → is_wordless x ≡ true → Quiet w.ioc k → is_operational (state_of w.ioc) ≡ true → Stands (Behind k)
      quietly k p q l = same (Behind k) (plainly k p q.sends) (request_by w.ioc k s q.requests) q.state (λ r z. clash (is_operational (state_of w.ioc)) l (state_reset (state_of w.ioc) r).0)
