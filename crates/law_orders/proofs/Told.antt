-- The controller takes an item of the fabric: what is told of an identifier is over there, and everything else leaves it as it is.
use Rattle.std.proofs.Common.{◌≡◌, ℕ, suc, ◌+◌, ◌-◌, ◌<◌, ◌≤◌, ◌==◌, ◌&&◌, ◌||◌, nat_lt, not, Bool, true, false, cond, if◌then◌else◌, List, [], ◌∷◌, ◌++◌, length, set, Option, Some, None, is_some, refl, ap, sym, ◌∙◌, subst, arith}
use Rattle.std.specs.List.{position}
use Rattle.std.proofs.lemmas.Bool.{eqb-true}
use Rattle.mpi_doorbell.specs.DoorRegisters.{is_fault, linked_up}
use Rattle.mpt_trace.specs.declared.item.Back.{Back}
use Rattle.mpt_trace.specs.declared.item.Back.TheVariants as back
use Rattle.mpt_rules.specs.declared.at_fabric.AtFabric.{AtFabric as Kept}
use Rattle.mpt_rules.specs.declared.at_fabric.AtFabric.TheVariants as at
use Rattle.mpt_rules.specs.declared.said.Said.{Said}
use Rattle.mpt_rules.specs.declared.said.Said.TheVariants as said
use Rattle.mpt_rules.specs.Fabric.Calls as fab
use Rattle.mpt_rules.specs.Ioc.Back as news
use Rattle.mpt_rules.specs.Ioc.Commands as commands
use Rattle.mpt_rules.specs.Ioc.Parts.{Ioc, state_of}
use Rattle.mpt_rules.specs.Ioc.Replies.{outbox_of}
use Rattle.mpt_rules.specs.Ioc.Tables as table
use Rattle.mpt_rules.specs.Ioc.Tables.{is_held_as, is_operational, is_post_of, is_ready, is_reset, request_at}
use Rattle.mpt_rules.specs.Ioc.Takes as adapter
use Rattle.mpt_rules.specs.Law.{NothingIsStrange}
use Rattle.mpt_rules.specs.World.Counts.{one_if}
use Rattle.mpt_rules.specs.World.FabricCounts as fc
use Rattle.mpt_rules.specs.World.FabricCounts.{abort_end_count, gone_count, link_count, linked_count, reset_end_count, result_count, sent_abort_count, sent_reset_count, sent_task_count, task_count, terminated_count}
use Rattle.mpt_rules.specs.World.Lines.{out_line}
use Rattle.mpt_rules.specs.World.State.{World}
use Rattle.mpt_rules.proofs.FabricCounts as fcp
use Rattle.law_facts.specs.Clock.{Clock, in_begun, in_reset, is_live}
use Rattle.law_facts.specs.Facts.{Facts}
use Rattle.law_facts.specs.Flights.{abort_tokens, command_tokens, reset_tokens}
use Rattle.law_facts.specs.History.{History}
use Rattle.law_facts.specs.Words.{behind, is_abort, is_command, is_target_reset, others}
use Rattle.law_flights.proofs.IocCarries.{in_requests}
use Rattle.law_frames.proofs.FabricTokens.{SameTokens}
use Rattle.law_moves.proofs.Counted.{behind-cons}
use Rattle.law_orders.proofs.IocOrders.{Quiet, binds_quiet, changes_quiet, quiet, releases_quiet, request_by, request_set, same_request}
use Rattle.mpt_rules.specs.declared.status.TheConstants.{IOC_STATUS_SCSI_DEVICE_NOT_THERE, IOC_STATUS_SCSI_TASK_TERMINATED}
use Rattle.law_orders.proofs.Words.{calm_only, clash, flip, is_wordless, kind_some, one_kind, outbox_said, state_live, state_reset, stopped}
use Rattle.law_flights.proofs.Leaves as seen
use Rattle.law_orders.proofs.Orders.{Fewer, Less, Stands}
use Rattle.law_orders.proofs.Orders as at_hand
use Rattle.mpt_rules.specs.Ioc.Bindings as bind
use Rattle.mpt_rules.specs.Outcome.{Happening}
use Rattle.mpt_rules.specs.declared.binding.Binding.{Binding}
use Rattle.mpt_rules.specs.declared.binding.Binding.TheVariants as binding
use Rattle.mpt_rules.specs.declared.binding.Waiting.{Waiting}
use Rattle.scsi_disk.specs.declared.scsi_result.ScsiResult.{ScsiResult}
use Rattle.law_moves.proofs.Registers.{linked_is}

-- ---- what is told of a request of a kind: it is over; of another it is passed over

pub data Ended (i : Ioc) (q : ℕ) (test : Option Kept → Bool) (k : Ioc) : Type 0 where
  Passed : test (request_at i q) ≡ false → k ≡ i → Ended i q test k
  Over : test (request_at i q) ≡ true → k.requests ≡ set i.requests (q - 1) None → k.out ≡ i.out → state_of k ≡ state_of i → Ended i q test k

record Told (test : Option Kept → Bool) (c a t : ℕ) : Type 0 where
  some : (o : Option Kept) → test o ≡ true → is_some o ≡ true
  commands : (o : Option Kept) → test o ≡ true → one_if (is_command o) ≡ c
  aborts : (o : Option Kept) → test o ≡ true → one_if (is_abort o) ≡ a
  resets : (o : Option Kept) → test o ≡ true → one_if (is_target_reset o) ≡ t
  none : (o : Option Kept) → test o ≡ false → c ≤ one_if (is_command o) → a ≤ one_if (is_abort o) → t ≤ one_if (is_target_reset o) → ⊥

is_one : (b : Bool) → one_if b ≡ 1 → b ≡ true
is_one true z = refl
is_one false z = absurd (omega (arith, z))

commands_told : Told is_command 1 0 0
commands_told =
    record {
      some = λ o e. let y = ap one_if e in is_one (is_some o) (kind_some o (omega (arith, y)));
      commands = λ o e. ap one_if e;
      aborts = λ o e. let m = one_kind o in let y = ap one_if e in omega (arith, m, y);
      resets = λ o e. let m = one_kind o in let y = ap one_if e in omega (arith, m, y);
      none = λ o e x y z. let n = ap one_if e in omega (arith, n, x);
    }

aborts_told : Told is_abort 0 1 0
aborts_told =
    record {
      some = λ o e. let y = ap one_if e in is_one (is_some o) (kind_some o (omega (arith, y)));
      commands = λ o e. let m = one_kind o in let y = ap one_if e in omega (arith, m, y);
      aborts = λ o e. ap one_if e;
      resets = λ o e. let m = one_kind o in let y = ap one_if e in omega (arith, m, y);
      none = λ o e x y z. let n = ap one_if e in omega (arith, n, y);
    }

resets_told : Told is_target_reset 0 0 1
resets_told =
    record {
      some = λ o e. let y = ap one_if e in is_one (is_some o) (kind_some o (omega (arith, y)));
      commands = λ o e. let m = one_kind o in let y = ap one_if e in omega (arith, m, y);
      aborts = λ o e. let m = one_kind o in let y = ap one_if e in omega (arith, m, y);
      resets = λ o e. ap one_if e;
      none = λ o e x y z. let n = ap one_if e in omega (arith, n, z);
    }

module _ (i : Ioc) where
  -- a command
  command_over : (tag handle queue len : ℕ) (written : Option ℕ) (y : Said) → request_at i tag ≡ Some (at.Command handle queue len written) → Ended i tag is_command (commands.ends_command i tag handle queue y)
  command_over tag handle queue len written y e =
      let q = releases_quiet (Rattle.mpt_rules.specs.Ioc.Replies.says_on (table.without_request i tag) queue (y ∷ [])) handle in
      Over (ap is_command e) q.requests q.sends q.state

  result_ended : (tag : ℕ) (r : ScsiResult) (o : Option Kept) → request_at i tag ≡ o → Ended i tag is_command (news.takes_result i tag r o)
  result_ended tag r None e = Passed (ap is_command e) refl
  result_ended tag r (Some (at.Command handle queue len written)) e = command_over tag handle queue len written (commands.result_said tag handle len (commands.moved_by written r) r) e
  result_ended tag r (Some (at.Abort handle)) e = Passed (ap is_command e) refl
  result_ended tag r (Some (at.TargetReset handle)) e = Passed (ap is_command e) refl
  result_ended tag r (Some at.PortEnable) e = Passed (ap is_command e) refl

  end_ended : (tag status : ℕ) (o : Option Kept) → request_at i tag ≡ o → Ended i tag is_command (news.takes_end i tag status o)
  end_ended tag status None e = Passed (ap is_command e) refl
  end_ended tag status (Some (at.Command handle queue len written)) e = command_over tag handle queue len written (Rattle.mpt_rules.specs.Ioc.Replies.scsi_ended tag handle status) e
  end_ended tag status (Some (at.Abort handle)) e = Passed (ap is_command e) refl
  end_ended tag status (Some (at.TargetReset handle)) e = Passed (ap is_command e) refl
  end_ended tag status (Some at.PortEnable) e = Passed (ap is_command e) refl

  abort_ended : (smid : ℕ) (b : Bool) (o : Option Kept) → request_at i smid ≡ o → Ended i smid is_abort (news.takes_aborted i smid b o)
  abort_ended smid b None e = Passed (ap is_abort e) refl
  abort_ended smid b (Some (at.Command handle queue len written)) e = Passed (ap is_abort e) refl
  abort_ended smid b (Some (at.Abort handle)) e = Over (ap is_abort e) refl refl refl
  abort_ended smid b (Some (at.TargetReset handle)) e = Passed (ap is_abort e) refl
  abort_ended smid b (Some at.PortEnable) e = Passed (ap is_abort e) refl

  reset_ended : (smid count : ℕ) (o : Option Kept) → request_at i smid ≡ o → Ended i smid is_target_reset (news.takes_cleared i smid count o)
  reset_ended smid count None e = Passed (ap is_target_reset e) refl
  reset_ended smid count (Some (at.Command handle queue len written)) e = Passed (ap is_target_reset e) refl
  reset_ended smid count (Some (at.Abort handle)) e = Passed (ap is_target_reset e) refl
  reset_ended smid count (Some (at.TargetReset handle)) e = Over (ap is_target_reset e) refl refl refl
  reset_ended smid count (Some at.PortEnable) e = Passed (ap is_target_reset e) refl

  -- disks that come and go
  plugs_quiet : (disk : Waiting) → Quiet i (bind.ioc_plugs i disk).part
  plugs_quiet disk = by_test (bind.is_known i disk.address || not (nat_lt disk.expander (length i.phys)))
    where
      by_test : (b : Bool) → Quiet i (if b then table.silently i else bind.binds i disk).part
      by_test true = quiet i
      by_test false = binds_quiet i disk (table.least_unbound i)

  unplugs_quiet : (address : ℕ) → Quiet i (bind.ioc_unplugs i address)
  unplugs_quiet address = by_handle (table.handle_of i address)
    where
      by_binding : (handle : ℕ) (b : Binding) → Quiet i (bind.ioc_loses i handle b)
      by_binding handle binding.Unbound = quiet i
      by_binding handle (binding.Present a plug expander phy) =
          let q = changes_quiet (table.with_binding i handle (binding.Gone a)) handle expander phy false in record { requests = q.requests; sends = q.sends; state = q.state }
      by_binding handle (binding.Gone a) = quiet i

      by_handle : (o : Option ℕ) → Quiet i (bind.ioc_unplugs_from i address o)
      by_handle None = record { requests = refl; sends = refl; state = refl }
      by_handle (Some handle) = by_binding handle (table.binding_of i handle)

-- an end of its own, by the other side of the comparison
turned : (a b : ℕ) → one_if (a == b) ≡ cond (b == a) 1 0
turned a b = by_test (a == b) refl
  where
    by_test : (t : Bool) → (a == b) ≡ t → one_if (a == b) ≡ cond (b == a) 1 0
    by_test true e = let z : (b == a) ≡ true = grind (arith, e) in ap one_if e ∙ sym (ap (λ t. cond t 1 0) z)
    by_test false e = ap one_if e ∙ sym (ap (λ t. cond t 1 0) (flip a b e))

nought : (b : Bool) (z : ℕ) → z ≡ cond b z z
nought true z = refl
nought false z = refl

module _ (s : ℕ) (least : 1 ≤ s) (most : s ≤ 280) (w : World) (h : History) (f : Facts w h) (plain : NothingIsStrange w) where
  here : Stands s least most w
  here = at_hand.here s least most w h f plain

  module _ (x : Back) (rest : List Back) (e : w.back ≡ x ∷ rest) where
    abbrev Behind : Ioc → World
    Behind k = record w { ioc = k; back = rest }

    abbrev ends_one : ℕ
    ends_one = one_if (fc.is_result_of s x) + (one_if (fc.is_gone_of s x) + one_if (fc.is_termination_of s x))

    less : (k : Ioc) → k.out ≡ w.ioc.out → Less s least most w h f plain x rest e k
    less = at_hand.less s least most w h f plain x rest e

    -- an identifier that something is told of stands in the table
    placed : (q : ℕ) (o : Option Kept) → request_at w.ioc q ≡ o → is_some o ≡ true → (1 ≤ q) × (q - 1 < length w.ioc.requests)
    placed q None z t = absurd (cc)
    placed q (Some r) z t = in_requests w.ioc.requests q r (sym (same_request w.ioc q) ∙ z)

    not_old : {X : Type 0} → is_operational (state_of w.ioc) ≡ true → is_reset (state_of w.ioc) ≡ true → X
    not_old l r = clash (is_operational (state_of w.ioc)) l (state_reset (state_of w.ioc) r).0

    told : (q : ℕ) (test : Option Kept → Bool) (c a t : ℕ) (k : Ioc) → Told test c a t → ends_one ≡ cond (s == q) c 0 → one_if (fc.is_abort_end_of s x) ≡ cond (s == q) a 0 → one_if (fc.is_reset_end_of s x) ≡ cond (s == q) t 0 → Ended w.ioc q test k → is_operational (state_of w.ioc) ≡ true → Stands s least most (Behind k)
    told q test c a t k d kc ka kt (Passed p y) l = by_key (s == q) refl kc ka kt
      where
        at_w : Less s least most w h f plain x rest e w.ioc
        at_w = less w.ioc refl

        there : (s == q) ≡ true → request_at w.ioc s ≡ request_at w.ioc q
        there z = ap (request_at w.ioc) (eqb-true s q z)

        by_key : (b : Bool) → (s == q) ≡ b → ends_one ≡ cond b c 0 → one_if (fc.is_abort_end_of s x) ≡ cond b a 0 → one_if (fc.is_reset_end_of s x) ≡ cond b t 0 → Stands s least most (Behind k)
        by_key true z kc ka kt =
            let l1 = at_w.commands in let l2 = at_w.aborts in let l3 = at_w.resets in
            let h1 = here.commands l in let h2 = here.aborts l in let h3 = here.resets l in
            let o1 = ap (λ o. one_if (is_command o)) (there z) in let o2 = ap (λ o. one_if (is_abort o)) (there z) in let o3 = ap (λ o. one_if (is_target_reset o)) (there z) in
            absurd (d.none (request_at w.ioc q) p (omega (arith, l1, h1, o1, kc)) (omega (arith, l2, h2, o2, ka)) (omega (arith, l3, h3, o3, kt)))
        by_key false z kc ka kt =
            let l1 = at_w.commands in let l2 = at_w.aborts in let l3 = at_w.resets in
            subst (λ j. Stands s least most (Behind j)) (sym y)
            (at_hand.same s least most w h f plain (Behind w.ioc) (record { commands = omega (arith, l1, kc); aborts = omega (arith, l2, ka); resets = omega (arith, l3, kt) }) refl refl (λ r z. not_old l r))
    told q test c a t k d kc ka kt (Over p rs o st) l = by_key (s == q) refl kc ka kt (request_set w.ioc k q s None in_place.0 in_place.1 rs)
      where
        in_place : (1 ≤ q) × (q - 1 < length w.ioc.requests)
        in_place = placed q (request_at w.ioc q) refl (d.some (request_at w.ioc q) p)

        y : is_operational (state_of k) ≡ true
        y = ap is_operational st ∙ l

        at_k : Less s least most w h f plain x rest e k
        at_k = less k o

        by_key : (b : Bool) → (s == q) ≡ b → ends_one ≡ cond b c 0 → one_if (fc.is_abort_end_of s x) ≡ cond b a 0 → one_if (fc.is_reset_end_of s x) ≡ cond b t 0 → request_at k s ≡ cond b None (request_at w.ioc s) → Stands s least most (Behind k)
        by_key true z kc ka kt n =
            let l1 = at_k.commands in let l2 = at_k.aborts in let l3 = at_k.resets in
            let h1 = here.commands l in let h2 = here.aborts l in let h3 = here.resets l in
            let e1 : request_at w.ioc s ≡ request_at w.ioc q = ap (request_at w.ioc) (eqb-true s q z) in
            let o1 = ap (λ v. one_if (is_command v)) e1 in let o2 = ap (λ v. one_if (is_abort v)) e1 in let o3 = ap (λ v. one_if (is_target_reset v)) e1 in
            let d1 = d.commands (request_at w.ioc q) p in let d2 = d.aborts (request_at w.ioc q) p in let d3 = d.resets (request_at w.ioc q) p in
            let n1 = ap (λ v. one_if (is_command v)) n in let n2 = ap (λ v. one_if (is_abort v)) n in let n3 = ap (λ v. one_if (is_target_reset v)) n in
            let m = here.at_most in
            record {
              commands = λ g. omega (arith, l1, h1, o1, d1, n1, kc);
              aborts = λ g. omega (arith, l2, h2, o2, d2, n2, ka);
              resets = λ g. omega (arith, l3, h3, o3, d3, n3, kt);
              at_most = omega (arith, l1, l2, l3, m);
              none = λ g r. clash (is_operational (state_of k)) y g;
              old = λ r g. clash (is_reset (state_of k)) r (state_live (state_of k) y);
            }
        by_key false z kc ka kt n =
            let l1 = at_k.commands in let l2 = at_k.aborts in let l3 = at_k.resets in
            at_hand.same s least most w h f plain (Behind k) (record { commands = omega (arith, l1, kc); aborts = omega (arith, l2, ka); resets = omega (arith, l3, kt) }) n st (λ r z. not_old l r)

    -- what is heard while it is OPERATIONAL alone
    heard : (k : Happening Ioc) → (is_operational (state_of w.ioc) ≡ true → Stands s least most (Behind k.part)) → Stands s least most (Behind (if is_operational (state_of w.ioc) then k else table.silently w.ioc).part)
    heard k g = by_state (is_operational (state_of w.ioc)) refl
      where
        by_state : (b : Bool) → is_operational (state_of w.ioc) ≡ b → Stands s least most (Behind (if b then k else table.silently w.ioc).part)
        by_state true l = g l
        by_state false l = at_hand.dropped s least most w h f plain x rest e l

    -- a request that is none of the three is over
    enabled : (place : ℕ) (k : Ioc) → is_wordless x ≡ true → request_at w.ioc (place + 1) ≡ Some at.PortEnable → k.requests ≡ set w.ioc.requests (place + 1 - 1) None → k.out ≡ w.ioc.out → state_of k ≡ state_of w.ioc → is_operational (state_of w.ioc) ≡ true → Stands s least most (Behind k)
    enabled place k nw r rs o st l = by_key (s == place + 1) refl (request_set w.ioc k (place + 1) s None in_place.0 in_place.1 rs)
      where
        in_place : (1 ≤ place + 1) × (place + 1 - 1 < length w.ioc.requests)
        in_place = placed (place + 1) (request_at w.ioc (place + 1)) refl (ap is_some r)

        t : SameTokens s w (Behind k)
        t = at_hand.plainly s least most w h f plain x rest e k nw o

        y : is_operational (state_of k) ≡ true
        y = ap is_operational st ∙ l

        by_key : (b : Bool) → (s == place + 1) ≡ b → request_at k s ≡ cond b None (request_at w.ioc s) → Stands s least most (Behind k)
        by_key false z n = at_hand.same s least most w h f plain (Behind k) t n st (λ r z. not_old l r)
        by_key true z n =
            let q : request_at w.ioc s ≡ Some at.PortEnable = ap (request_at w.ioc) (eqb-true s (place + 1) z) ∙ r in
            let t1 = t.commands in let t2 = t.aborts in let t3 = t.resets in
            let h1 = here.commands l in let h2 = here.aborts l in let h3 = here.resets l in
            let o1 = ap (λ v. one_if (is_command v)) q in let o2 = ap (λ v. one_if (is_abort v)) q in let o3 = ap (λ v. one_if (is_target_reset v)) q in
            let n1 = ap (λ v. one_if (is_command v)) n in let n2 = ap (λ v. one_if (is_abort v)) n in let n3 = ap (λ v. one_if (is_target_reset v)) n in
            let m = here.at_most in
            record {
              commands = λ g. omega (arith, t1, h1, o1, n1);
              aborts = λ g. omega (arith, t2, h2, o2, n2);
              resets = λ g. omega (arith, t3, h3, o3, n3);
              at_most = omega (arith, t1, t2, t3, m);
              none = λ g r. clash (is_operational (state_of k)) y g;
              old = λ r g. clash (is_reset (state_of k)) r (state_live (state_of k) y);
            }

    quietly : (k : Ioc) → is_wordless x ≡ true → Quiet w.ioc k → is_operational (state_of w.ioc) ≡ true → Stands s least most (Behind k)
    quietly = at_hand.quietly s least most w h f plain x rest e

    -- nothing happens
    unmoved : is_wordless x ≡ true → Stands s least most (Behind w.ioc)
    unmoved nw = at_hand.same s least most w h f plain (Behind w.ioc) (at_hand.plainly s least most w h f plain x rest e w.ioc nw refl) refl refl (λ r z. record { nowhere = z; slot_is = refl })

  -- the link of a reset is up: nothing is at the fabric
  linked_kept : (generation : ℕ) (rest : List Back) → w.back ≡ back.Linked generation ∷ rest → Stands s least most (record w { ioc = record w.ioc { door = linked_up w.ioc.door }; back = rest })
  linked_kept generation rest e =
      record {
        commands = λ l. clash (is_operational (state_of k)) l ready.0;
        aborts = λ l. clash (is_operational (state_of k)) l ready.0;
        resets = λ l. clash (is_operational (state_of k)) l ready.0;
        at_most = omega (arith, zero_all);
        none = λ l r. zero_all;
        old = λ r p. absurd (omega (arith, p, zero_all));
      }
    where
      k : Ioc
      k = record w.ioc { door = linked_up w.ioc.door }

      ready : (is_operational (state_of k) ≡ false) × (is_reset (state_of k) ≡ false) × (table.is_ready (state_of k) ≡ true)
      ready = let q = linked_is w.ioc.door f.doorbell.sound.hold in (ap is_operational q, ap is_reset q, ap table.is_ready q)

      line : others (λ y. fab.is_calm y) (rest ++ w.fabric.out) ≡ 0
      line =
          let a = f.clock.one_link.behind_linked in
          let b = ap (λ xs. others fab.is_calm (behind fc.is_linked (xs ++ w.fabric.out))) e in
          let c = ap (others fab.is_calm) (behind-cons fc.is_linked (back.Linked generation) (rest ++ w.fabric.out)) in
          omega (arith, a, b, c)

      clean : Rattle.law_facts.specs.Clock.IsClean w
      clean =
          f.clock.one_link.linked
          (let a = f.clock.one_link.one in
          let b = ap (λ xs. linked_count (xs ++ w.fabric.out)) e in
          let c = fcp.linked_count-cons (back.Linked generation) (rest ++ w.fabric.out) in
          let m = few (in_reset w) in
          omega (arith, a, b, c, m))
        where
          few : (b : Bool) → one_if b ≤ 1
          few true = omega arith
          few false = omega arith

      zero_all : command_tokens (record w { ioc = k; back = rest }) s + (abort_tokens (record w { ioc = k; back = rest }) s + reset_tokens (record w { ioc = k; back = rest }) s) ≡ 0
      zero_all =
          let n = stopped s (out_line w) clean.out in
          let n1 = n.tasks in let n2 = n.aborts in let n3 = n.resets in
          let g = calm_only s (rest ++ w.fabric.out) line in
          let g1 = g.ends in let g2 = g.aborts in let g3 = g.resets in
          let t = ap (task_count s) clean.tasks in
          let t0 = fcp.task_count-nil s in
          omega (arith, n1, n2, n3, g1, g2, g3, t, t0)

  calmed : (rest : List Back) → w.back ≡ back.Calm ∷ rest → Stands s least most (record w { ioc = Rattle.mpt_rules.specs.Ioc.Replies.says_on w.ioc 0 (said.Calm ∷ []); back = rest })
  calmed rest e =
      let k : Ioc = Rattle.mpt_rules.specs.Ioc.Replies.says_on w.ioc 0 (said.Calm ∷ []) in
      let v : World = record w { ioc = k; back = rest } in
      let q = request_by w.ioc k s refl in
      at_hand.same s least most w h f plain v (at_hand.plainly s least most w h f plain back.Calm rest e k refl refl) q refl
      (λ r z.
      let n = at_hand.parts s least most w z in
      record {
        nowhere = at_hand.whole s least most v (record { pool = n.pool; line = n.line; high = n.high; normal = n.normal; request = ap (λ o. one_if (is_some o)) q ∙ n.request; held = n.held; said = outbox_said s w.ioc.up 0 said.Calm refl n.said; lanes = n.lanes });
        slot_is = refl;
      })

  nothing_else : (tag : ℕ) → one_if (tag == s) + (0 + 0) ≡ cond (s == tag) 1 0
  nothing_else tag = let a = turned tag s in omega (arith, a)

  second : (tag : ℕ) → 0 + (one_if (tag == s) + 0) ≡ cond (s == tag) 1 0
  second tag = let a = turned tag s in omega (arith, a)

  third : (tag : ℕ) → 0 + (0 + one_if (tag == s)) ≡ cond (s == tag) 1 0
  third tag = let a = turned tag s in omega (arith, a)

  pub back_taken : (x : Back) (rest : List Back) → w.back ≡ x ∷ rest → Stands s least most (record w { ioc = (adapter.takes_back w.ioc x).part; back = rest })
  back_taken (back.Result tag r) rest e =
      let x : Back = back.Result tag r in let k : Ioc = news.takes_result w.ioc tag r (request_at w.ioc tag) in
      heard x rest e (table.silently k)
      (told x rest e tag is_command 1 0 0 k commands_told (nothing_else tag) (nought (s == tag) 0) (nought (s == tag) 0) (result_ended w.ioc tag r (request_at w.ioc tag) refl))
  back_taken (back.Gone tag) rest e =
      let x : Back = back.Gone tag in let k : Ioc = news.takes_end w.ioc tag IOC_STATUS_SCSI_DEVICE_NOT_THERE (request_at w.ioc tag) in
      heard x rest e (table.silently k)
      (told x rest e tag is_command 1 0 0 k commands_told (second tag) (nought (s == tag) 0) (nought (s == tag) 0) (end_ended w.ioc tag IOC_STATUS_SCSI_DEVICE_NOT_THERE (request_at w.ioc tag) refl))
  back_taken (back.Terminated tag) rest e =
      let x : Back = back.Terminated tag in let k : Ioc = news.takes_end w.ioc tag IOC_STATUS_SCSI_TASK_TERMINATED (request_at w.ioc tag) in
      heard x rest e (table.silently k)
      (told x rest e tag is_command 1 0 0 k commands_told (third tag) (nought (s == tag) 0) (nought (s == tag) 0) (end_ended w.ioc tag IOC_STATUS_SCSI_TASK_TERMINATED (request_at w.ioc tag) refl))
  back_taken (back.Aborted tag b) rest e =
      let x : Back = back.Aborted tag b in let k : Ioc = news.takes_aborted w.ioc tag b (request_at w.ioc tag) in
      heard x rest e (table.silently k)
      (told x rest e tag is_abort 0 1 0 k aborts_told (nought (s == tag) 0) (turned tag s) (nought (s == tag) 0) (abort_ended w.ioc tag b (request_at w.ioc tag) refl))
  back_taken (back.Cleared tag count) rest e =
      let x : Back = back.Cleared tag count in let k : Ioc = news.takes_cleared w.ioc tag count (request_at w.ioc tag) in
      heard x rest e (table.silently k)
      (told x rest e tag is_target_reset 0 0 1 k resets_told (nought (s == tag) 0) (nought (s == tag) 0) (turned tag s) (reset_ended w.ioc tag count (request_at w.ioc tag) refl))
  back_taken (back.Plugged address plug expander phy) rest e =
      let disk : Waiting = record { address = address; plug = plug; expander = expander; phy = phy } in
      heard (back.Plugged address plug expander phy) rest e (bind.ioc_plugs w.ioc disk) (quietly (back.Plugged address plug expander phy) rest e (bind.ioc_plugs w.ioc disk).part refl (plugs_quiet w.ioc disk))
  back_taken (back.Unplugged address plug expander phy) rest e =
      heard (back.Unplugged address plug expander phy) rest e (table.silently (bind.ioc_unplugs w.ioc address)) (quietly (back.Unplugged address plug expander phy) rest e (bind.ioc_unplugs w.ioc address) refl (unplugs_quiet w.ioc address))
  back_taken back.Discovered rest e = heard back.Discovered rest e (table.silently (news.takes_discovered w.ioc (position news.is_port_enable w.ioc.requests))) (by_place (position news.is_port_enable w.ioc.requests) refl)
    where
      by_place : (o : Option ℕ) → position news.is_port_enable w.ioc.requests ≡ o → is_operational (state_of w.ioc) ≡ true → Stands s least most (record w { ioc = news.takes_discovered w.ioc o; back = rest })
      by_place None p l = unmoved back.Discovered rest e refl
      by_place (Some place) p l =
          let same : suc place ≡ place + 1 = omega arith in
          enabled back.Discovered rest e place (news.takes_discovered w.ioc (Some place)) refl (subst (λ n. request_at w.ioc n ≡ Some at.PortEnable) same (seen.enable_at w.ioc place p)) refl refl refl l
  back_taken (back.Linked generation) rest e = by_tests (is_reset (state_of w.ioc) && generation == w.ioc.generation)
    where
      by_tests : (b : Bool) → Stands s least most (record w { ioc = if b then record w.ioc { door = linked_up w.ioc.door } else w.ioc; back = rest })
      by_tests true = linked_kept generation rest e
      by_tests false = unmoved (back.Linked generation) rest e refl
  back_taken back.Calm rest e = by_test (is_fault (state_of w.ioc))
    where
      by_test : (b : Bool) → Stands s least most (record w { ioc = if b then w.ioc else Rattle.mpt_rules.specs.Ioc.Replies.says_on w.ioc 0 (said.Calm ∷ []); back = rest })
      by_test true = unmoved back.Calm rest e refl
      by_test false = calmed rest e
