-- What a work step of the controller sends goes with what it keeps as being at the fabric: each is one more of an identifier, or none.
use Rattle.std.proofs.Common.{◌≡◌, ℕ, zero, suc, ◌+◌, ◌-◌, ◌<◌, ◌≤◌, ◌==◌, Bool, true, false, cond, if◌then◌else◌, List, [], ◌∷◌, ◌++◌, length, set, Option, Some, None, refl, ap, sym, ◌∙◌, subst, arith}
use Rattle.std.proofs.lemmas.Bool.{eqb-true}
use Rattle.mpt_wire.specs.Messages.Fields.{controlled_handle_in, dev_handle_in, smid_in, task_mid_in}
use Rattle.mpt_trace.specs.declared.item.Out.{Out}
use Rattle.mpt_trace.specs.declared.item.Out.TheVariants as out
use Rattle.mpt_rules.specs.declared.at_fabric.AtFabric.{AtFabric}
use Rattle.mpt_rules.specs.declared.at_fabric.AtFabric.TheVariants as at
use Rattle.mpt_rules.specs.declared.binding.Binding.TheVariants as binding
use Rattle.mpt_rules.specs.declared.binding.Waiting.{Waiting}
use Rattle.mpt_rules.specs.declared.post.Post.{Post}
use Rattle.mpt_rules.specs.declared.status.TheConstants.{IOC_STATUS_SUCCESS}
use Rattle.mpt_rules.specs.Outcome.{Happening}
use Rattle.mpt_rules.specs.Ioc.Bindings as bind
use Rattle.mpt_rules.specs.Ioc.Commands as commands
use Rattle.mpt_rules.specs.Ioc.Parts.{Ioc, state_of}
use Rattle.mpt_rules.specs.Ioc.Requests as ask
use Rattle.mpt_rules.specs.Ioc.Tables as table
use Rattle.mpt_rules.specs.Ioc.Tables.{request_at}
use Rattle.mpt_rules.specs.Ioc.Tasks as tasks
use Rattle.mpt_rules.specs.World.Counts.{one_if}
use Rattle.mpt_rules.specs.World.FabricCounts.{is_abort_by, is_reset_by, is_task_of, sent_abort_count, sent_reset_count, sent_task_count}
use Rattle.mpt_rules.proofs.FabricCounts.{sent_abort_count-append, sent_abort_count-cons, sent_abort_count-nil, sent_reset_count-append, sent_reset_count-cons, sent_reset_count-nil, sent_task_count-append, sent_task_count-cons, sent_task_count-nil}
use Rattle.law_facts.specs.Words.{is_abort, is_command, is_target_reset}
use Rattle.law_flights.specs.Flights.{at_fabric}
use Rattle.law_flights.proofs.IocCarries.{at_fabric-set}
use Rattle.law_flights.proofs.WorkLeaves.{AbortEnds, AbortSends, Acks, Dropped, Enables, EndsPlainly, Notifies, PageEnds, PageGiven, Refuses, RemovalEnds, Removes, ResetEnds, ResetHolds, ResetSends, ScsiEnds, ScsiSends, Stops, Strays, TaskFails, Works}

pub same_request : (i : Ioc) (s : ℕ) → request_at i s ≡ at_fabric i.requests s
same_request i zero = refl
same_request i (suc k) = refl

pub request_by : (i k : Ioc) (s : ℕ) → k.requests ≡ i.requests → request_at k s ≡ request_at i s
request_by i k s e = same_request k s ∙ (ap (λ r. at_fabric r s) e ∙ sym (same_request i s))

-- what a write of the table leaves
pub request_set : (i k : Ioc) (q s : ℕ) (r : Option AtFabric) → 1 ≤ q → q - 1 < length i.requests → k.requests ≡ set i.requests (q - 1) r → request_at k s ≡ cond (s == q) r (request_at i s)
request_set i k q s r a l e = same_request k s ∙ (ap (λ rs. at_fabric rs s) e ∙ (at_fabric-set i.requests q s r a l ∙ ap (λ o. cond (s == q) r o) (sym (same_request i s))))

-- ---- what leaves requests and orders as they are

pub record Quiet (i k : Ioc) : Type 0 where
  pub requests : k.requests ≡ i.requests
  pub sends : k.out ≡ i.out
  pub state : state_of k ≡ state_of i

pub quiet : (i : Ioc) → Quiet i i
quiet i = record { requests = refl; sends = refl; state = refl }

pub releases_quiet : (i : Ioc) (handle : ℕ) → Quiet i (commands.releases i handle)
releases_quiet i handle = by_commands (table.has_commands i handle)
  where
    by_commands : (b : Bool) → Quiet i (if b then i else commands.answers_held i handle)
    by_commands true = quiet i
    by_commands false = record { requests = refl; sends = refl; state = refl }

pub changes_quiet : (i : Ioc) (handle expander phy : ℕ) (added : Bool) → Quiet i (bind.changes i handle expander phy added)
changes_quiet i handle expander phy added = by_through i.through
  where
    by_through : (b : Bool) → Quiet i (if b then bind.tells_change i handle expander phy added else i)
    by_through true = record { requests = refl; sends = refl; state = refl }
    by_through false = quiet i

pub binds_quiet : (i : Ioc) (disk : Waiting) (o : Option ℕ) → Quiet i (bind.binds_to i disk o).part
binds_quiet i disk None = record { requests = refl; sends = refl; state = refl }
binds_quiet i disk (Some handle) =
    let k : Ioc = table.with_binding i handle (binding.Present disk.address disk.plug disk.expander disk.phy) in
    let q = changes_quiet k handle disk.expander disk.phy true in
    record { requests = q.requests; sends = q.sends; state = q.state }

first_quiet : (i : Ioc) (ds : List Waiting) → Quiet i (bind.binds_first i ds).part
first_quiet i [] = quiet i
first_quiet i (d ∷ ds) = let k : Ioc = record i { waiting = ds } in let q = binds_quiet k d (table.least_unbound k) in record { requests = q.requests; sends = q.sends; state = q.state }

-- ---- one more of an identifier

module _ (s : ℕ) where
  pub record Goes (i k : Ioc) : Type 0 where
    pub tasks : sent_task_count s k.out + one_if (is_command (request_at i s)) ≡ sent_task_count s i.out + one_if (is_command (request_at k s))
    pub aborts : sent_abort_count s k.out + one_if (is_abort (request_at i s)) ≡ sent_abort_count s i.out + one_if (is_abort (request_at k s))
    pub resets : sent_reset_count s k.out + one_if (is_target_reset (request_at i s)) ≡ sent_reset_count s i.out + one_if (is_target_reset (request_at k s))
    pub state : state_of k ≡ state_of i

  pub quietly : (i k : Ioc) → Quiet i k → Goes i k
  quietly i k q =
      let e = request_by i k s q.requests in
      let a = ap (λ o. one_if (is_command o)) e in let b = ap (λ o. one_if (is_abort o)) e in let c = ap (λ o. one_if (is_target_reset o)) e in
      let x = ap (sent_task_count s) q.sends in let y = ap (sent_abort_count s) q.sends in let z = ap (sent_reset_count s) q.sends in
      record { tasks = omega (arith, a, x); aborts = omega (arith, b, y); resets = omega (arith, c, z); state = q.state }

  -- an order goes out, and is kept
  module _ (i k : Ioc) (q : ℕ) (r : AtFabric) (x : Out) (least : 1 ≤ q) (inside : q - 1 < length i.requests) (none : request_at i q ≡ None) (kept : k.requests ≡ set i.requests (q - 1) (Some r)) (sent : k.out ≡ i.out ++ x ∷ []) (state_is : state_of k ≡ state_of i) where
    task_more : sent_task_count s k.out ≡ sent_task_count s i.out + one_if (is_task_of s x)
    task_more = let e = ap (sent_task_count s) sent in let a = sent_task_count-append s i.out (x ∷ []) in let c = sent_task_count-cons s x [] in let n = sent_task_count-nil s in omega (arith, e, a, c, n)

    abort_more : sent_abort_count s k.out ≡ sent_abort_count s i.out + one_if (is_abort_by s x)
    abort_more = let e = ap (sent_abort_count s) sent in let a = sent_abort_count-append s i.out (x ∷ []) in let c = sent_abort_count-cons s x [] in let n = sent_abort_count-nil s in omega (arith, e, a, c, n)

    reset_more : sent_reset_count s k.out ≡ sent_reset_count s i.out + one_if (is_reset_by s x)
    reset_more = let e = ap (sent_reset_count s) sent in let a = sent_reset_count-append s i.out (x ∷ []) in let c = sent_reset_count-cons s x [] in let n = sent_reset_count-nil s in omega (arith, e, a, c, n)

    pub sends : (c a t : Bool) → is_task_of s x ≡ cond (s == q) c false → is_abort_by s x ≡ cond (s == q) a false → is_reset_by s x ≡ cond (s == q) t false → is_command (Some r) ≡ c → is_abort (Some r) ≡ a → is_target_reset (Some r) ≡ t → Goes i k
    sends c a t kc ka kt ic ia it = by_key (s == q) refl kc ka kt (request_set i k q s (Some r) least inside kept)
      where
        by_key : (b : Bool) → (s == q) ≡ b → is_task_of s x ≡ cond b c false → is_abort_by s x ≡ cond b a false → is_reset_by s x ≡ cond b t false → request_at k s ≡ cond b (Some r) (request_at i s) → Goes i k
        by_key true y kc ka kt e =
            let n : request_at i s ≡ None = ap (request_at i) (eqb-true s q y) ∙ none in
            let a1 = ap (λ o. one_if (is_command o)) n in let a2 = ap (λ o. one_if (is_abort o)) n in let a3 = ap (λ o. one_if (is_target_reset o)) n in
            let b1 = ap (λ o. one_if (is_command o)) e ∙ ap one_if ic in let b2 = ap (λ o. one_if (is_abort o)) e ∙ ap one_if ia in let b3 = ap (λ o. one_if (is_target_reset o)) e ∙ ap one_if it in
            let c1 = ap one_if kc in let c2 = ap one_if ka in let c3 = ap one_if kt in
            let m1 = task_more in let m2 = abort_more in let m3 = reset_more in
            record { tasks = omega (arith, a1, b1, c1, m1); aborts = omega (arith, a2, b2, c2, m2); resets = omega (arith, a3, b3, c3, m3); state = state_is }
        by_key false y kc ka kt e =
            let b1 = ap (λ o. one_if (is_command o)) e in let b2 = ap (λ o. one_if (is_abort o)) e in let b3 = ap (λ o. one_if (is_target_reset o)) e in
            let c1 = ap one_if kc in let c2 = ap one_if ka in let c3 = ap one_if kt in
            let m1 = task_more in let m2 = abort_more in let m3 = reset_more in
            record { tasks = omega (arith, b1, c1, m1); aborts = omega (arith, b2, c2, m2); resets = omega (arith, b3, c3, m3); state = state_is }

  flipped : (q : ℕ) → (q == s) ≡ cond (s == q) true false
  flipped q = by_keys (s == q) (q == s) refl refl
    where
      by_keys : (a b : Bool) → (s == q) ≡ a → (q == s) ≡ b → b ≡ cond a true false
      by_keys true true x y = refl
      by_keys false false x y = refl
      by_keys true false x y = let e : s ≡ q = eqb-true s q x in grind (arith, y, e)
      by_keys false true x y = let e : q ≡ s = eqb-true q s y in grind (arith, x, e)

  never : (q : ℕ) → false ≡ cond (s == q) false false
  never q = by_key (s == q)
    where
      by_key : (b : Bool) → false ≡ cond b false false
      by_key true = refl
      by_key false = refl

  -- ---- each work step

  module _ (i : Ioc) (p : Post) (least : 1 ≤ smid_in p.descriptor) (inside : smid_in p.descriptor - 1 < length i.requests) (none : request_at i (smid_in p.descriptor) ≡ None) where
    q : ℕ
    q = smid_in p.descriptor

    to : (o g : Happening Ioc) → o ≡ g → Goes i g.part → Goes i o.part
    to o g e z = subst (λ (x : Happening Ioc). Goes i x.part) (sym e) z

    still : (k : Ioc) → k.requests ≡ i.requests → k.out ≡ i.out → state_of k ≡ state_of i → Goes i k
    still k a b c = quietly i k (record { requests = a; sends = b; state = c })

    pub worked : (o : Happening Ioc) → Works i p o → Goes i o.part
    worked o (Dropped k e) = to o _ e (still i refl refl refl)
    worked o (Refuses k f kind r e) = to o _ e (still _ refl refl refl)
    worked o (ScsiEnds status k c e) = to o _ e (still _ refl refl refl)
    worked o (ScsiSends address plug expander phy k c b e) =
        to o _ e
        (sends i (commands.sends_command i p address (commands.command_in p.frame p.payload)) (smid_in p.descriptor) (commands.kept_of (dev_handle_in p.frame) (commands.scsi_queue i p) (commands.command_in p.frame p.payload)) (out.Task (smid_in p.descriptor) address (commands.command_in p.frame p.payload))
        least inside none refl refl refl true false false (flipped (smid_in p.descriptor)) (never (smid_in p.descriptor)) (never (smid_in p.descriptor)) refl refl refl)
    worked o (Stops stop k f e) = to o _ e (still _ refl refl refl)
    worked o (AbortSends k f b e) =
        to o _ e
        (sends i (tasks.sends_abort i (smid_in p.descriptor) (task_mid_in p.frame) (dev_handle_in p.frame)) (smid_in p.descriptor) (at.Abort (dev_handle_in p.frame)) (out.Abort (smid_in p.descriptor) (task_mid_in p.frame))
        least inside none refl refl refl false true false (never (smid_in p.descriptor)) (flipped (smid_in p.descriptor)) (never (smid_in p.descriptor)) refl refl refl)
    worked o (AbortEnds k f b e) = to o _ e (still _ refl refl refl)
    worked o (ResetSends address plug expander phy k b e) =
        to o _ e
        (sends i (tasks.ioc_resets_target i (smid_in p.descriptor) (dev_handle_in p.frame) (binding.Present address plug expander phy)) (smid_in p.descriptor) (at.TargetReset (dev_handle_in p.frame)) (out.TargetReset (smid_in p.descriptor) address)
        least inside none refl refl refl false false true (never (smid_in p.descriptor)) (never (smid_in p.descriptor)) (flipped (smid_in p.descriptor)) refl refl refl)
    worked o (ResetHolds address k b c e) = to o _ e (still _ refl refl refl)
    worked o (ResetEnds status k e) = to o _ e (still _ refl refl refl)
    worked o (TaskFails k e) = to o _ e (still _ refl refl refl)
    worked o (PageEnds status k e) = to o _ e (still _ refl refl refl)
    worked o (PageGiven page k w e) = to o _ e (still _ refl refl refl)
    worked o (Enables k b e) =
        to o _ e
        (sends i (ask.enables i (smid_in p.descriptor)) (smid_in p.descriptor) at.PortEnable out.Discover
        least inside none refl refl refl false false false (never (smid_in p.descriptor)) (never (smid_in p.descriptor)) (never (smid_in p.descriptor)) refl refl refl)
    worked o (Notifies k e) = to o _ e (still _ refl refl refl)
    worked o (Acks k b e) = to o _ e (still _ refl refl refl)
    worked o (EndsPlainly f status k e) = to o _ e (still _ refl refl refl)
    worked o (RemovalEnds status k e) = to o _ e (still _ refl refl refl)
    worked o (Removes address k f b c e) =
        let j : Ioc = ask.ioc_ends_removal (table.with_binding i (controlled_handle_in p.frame) binding.Unbound) p IOC_STATUS_SUCCESS in
        let z = first_quiet j i.waiting in
        to o _ e (still _ z.requests z.sends z.state)
    worked o (Strays k r e) = to o _ e (still _ refl refl refl)
