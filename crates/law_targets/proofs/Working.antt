-- The controller has no more of an identifier's command, in its normal queue and at the fabric together, than it had and took.
use Rattle.std.proofs.Common.{◌≡◌, ℕ, zero, suc, ◌+◌, ◌-◌, ◌≤◌, ◌⊎◌, inl, inr, ◌==◌, nat_lt, not, Bool, true, false, cond, if◌then◌else◌, List, [], ◌∷◌, get_or, length, set, Option, Some, None, refl, ap, sym, subst, arith}
use Rattle.std.specs.List.{filter}
use Rattle.std.proofs.lemmas.Bool.{eqb-true}
use Rattle.mpi_doorbell.specs.DoorRegisters.{is_fault}
use Rattle.mpi_doorbell.specs.declared.state.IocState.{IocState}
use Rattle.mpi_doorbell.specs.declared.state.IocState.TheVariants as ioc_state
use Rattle.mpi_rings.specs.declared.request_descriptor.PostKind.{PostKind}
use Rattle.mpi_rings.specs.declared.request_descriptor.PostKind.TheVariants as post
use Rattle.mpt_wire.specs.Messages.Fields.{controlled_handle_in, dev_handle_in, kind_in, smid_in, task_mid_in}
use Rattle.mpt_trace.specs.declared.item.Back.{Back}
use Rattle.mpt_trace.specs.declared.item.Down.{Down}
use Rattle.mpt_trace.specs.declared.item.Down.TheVariants as down
use Rattle.mpt_rules.specs.declared.at_fabric.AtFabric.{AtFabric}
use Rattle.mpt_rules.specs.declared.at_fabric.AtFabric.TheVariants as at
use Rattle.mpt_rules.specs.declared.binding.Binding.TheVariants as binding
use Rattle.mpt_rules.specs.declared.binding.Waiting.{Waiting}
use Rattle.mpt_rules.specs.declared.post.Post.{Post}
use Rattle.mpt_rules.specs.declared.status.TheConstants.{IOC_STATUS_SUCCESS}
use Rattle.mpt_rules.specs.Ioc.Bindings as bind
use Rattle.mpt_rules.specs.Ioc.Commands as commands
use Rattle.mpt_rules.specs.Ioc.Parts.{Ioc, state_of}
use Rattle.mpt_rules.specs.Ioc.Posts as posts
use Rattle.mpt_rules.specs.Ioc.Replies as say
use Rattle.mpt_rules.specs.Ioc.Requests as ask
use Rattle.mpt_rules.specs.Ioc.Steps as step
use Rattle.mpt_rules.specs.Ioc.Tables as table
use Rattle.mpt_rules.specs.Ioc.Tables.{is_operational, is_post_of, request_at}
use Rattle.mpt_rules.specs.Ioc.Takes as adapter
use Rattle.mpt_rules.specs.Ioc.Tasks as tasks
use Rattle.mpt_rules.specs.Outcome.{Happening}
use Rattle.mpt_rules.specs.World.Counts.{one_if, queued_count}
use Rattle.mpt_rules.specs.World.Places.{is_posted_as}
use Rattle.mpt_rules.proofs.Counts.{queued_count-append, queued_count-cons, queued_count-nil}
use Rattle.law_facts.specs.Words.{is_command}
use Rattle.law_flights.proofs.Leaves.{Bound, Calmed, Done, Ended, Hears, Linked, Lost, Passed, Unawaited, Waits, back_leaf}
use Rattle.law_flights.proofs.Tables.{get_or-set_any}
use Rattle.law_flights.proofs.WorkLeaves.{AbortEnds, AbortSends, Acks, Dropped, Enables, EndsPlainly, Notifies, PageEnds, PageGiven, Refuses, RemovalEnds, Removes, ResetEnds, ResetHolds, ResetSends, ScsiEnds, ScsiSends, Stops, Strays, TaskFails, Works, works_leaf}
use Rattle.law_moves.proofs.Counted.{filtered}
use Rattle.law_moves.proofs.IocTakes as leaf
use Rattle.law_moves.proofs.IocTakes.{Takes, takes}

queued_filter : (s : ℕ) (f : Post → Bool) (xs : List Post) → queued_count s (filter f xs) ≤ queued_count s xs
unfolding queued_count
queued_filter s f xs = filtered (is_post_of s) f xs

-- ---- nothing of these is touched

record Same (i k : Ioc) : Type 0 where
  normal : k.normal ≡ i.normal
  requests : k.requests ≡ i.requests

same : (i : Ioc) → Same i i
same i = record { normal = refl; requests = refl }

releases_same : (i : Ioc) (handle : ℕ) → Same i (commands.releases i handle)
releases_same i handle = by_commands (table.has_commands i handle)
  where
    by_commands : (b : Bool) → Same i (if b then i else commands.answers_held i handle)
    by_commands true = same i
    by_commands false = record { normal = refl; requests = refl }

changes_same : (i : Ioc) (handle expander phy : ℕ) (added : Bool) → Same i (bind.changes i handle expander phy added)
changes_same i handle expander phy added = by_through i.through
  where
    by_through : (b : Bool) → Same i (if b then bind.tells_change i handle expander phy added else i)
    by_through true = record { normal = refl; requests = refl }
    by_through false = same i

binds_same : (i : Ioc) (disk : Waiting) (o : Option ℕ) → Same i (bind.binds_to i disk o).part
binds_same i disk None = record { normal = refl; requests = refl }
binds_same i disk (Some handle) =
    let k : Ioc = table.with_binding i handle (binding.Present disk.address disk.plug disk.expander disk.phy) in
    let q = changes_same k handle disk.expander disk.phy true in
    record { normal = q.normal; requests = q.requests }

first_same : (i : Ioc) (ds : List Waiting) → Same i (bind.binds_first i ds).part
first_same i [] = same i
first_same i (d ∷ ds) = let k : Ioc = record i { waiting = ds } in let q = binds_same k d (table.least_unbound k) in record { normal = q.normal; requests = q.requests }

module _ (s : ℕ) where
  -- of the identifier: its commands in the normal queue and at the fabric
  abbrev pub working : Ioc → ℕ
  working i = queued_count s i.normal + one_if (is_command (request_at i s))

  abbrev asked : List (Option AtFabric) → ℕ → ℕ
  asked requests zero = 0
  asked requests (suc j) = one_if (is_command (get_or requests j None))

  request_asked : (i : Ioc) → one_if (is_command (request_at i s)) ≡ asked i.requests s
  request_asked i = by_key s
    where
      by_key : (j : ℕ) → one_if (is_command (request_at i j)) ≡ asked i.requests j
      by_key zero = refl
      by_key (suc j) = refl

  pub by_same : (i k : Ioc) → k.normal ≡ i.normal → k.requests ≡ i.requests → working k ≤ working i
  by_same i k n r =
      let a = ap (queued_count s) n in
      let b = request_asked k in let c = request_asked i in let d = ap (λ rs. asked rs s) r in
      omega (arith, a, b, c, d)

  -- what stands at a place after a write
  written : (rs : List (Option AtFabric)) (j m : ℕ) (r : Option AtFabric) → (get_or (set rs j r) m None ≡ get_or rs m None) ⊎ ((get_or (set rs j r) m None ≡ r) × (m ≡ j))
  written rs j m r = by_place (m == j) (nat_lt j (length rs)) refl (get_or-set_any rs j m r None)
    where
      by_place : (a b : Bool) → (m == j) ≡ a → get_or (set rs j r) m None ≡ cond a (cond b r (get_or rs m None)) (get_or rs m None) → (get_or (set rs j r) m None ≡ get_or rs m None) ⊎ ((get_or (set rs j r) m None ≡ r) × (m ≡ j))
      by_place false b t e = inl e
      by_place true false t e = inl e
      by_place true true t e = inr (e, eqb-true m j t)

  -- a write of the table of what is no command
  set_less : (rs : List (Option AtFabric)) (j : ℕ) (r : Option AtFabric) → is_command r ≡ false → asked (set rs j r) s ≤ asked rs s
  set_less rs j r e = by_key s
    where
      by_place : (m : ℕ) → (get_or (set rs j r) m None ≡ get_or rs m None) ⊎ ((get_or (set rs j r) m None ≡ r) × (m ≡ j)) → one_if (is_command (get_or (set rs j r) m None)) ≤ one_if (is_command (get_or rs m None))
      by_place m (inl q) = let a = ap (λ o. one_if (is_command o)) q in omega (arith, a)
      by_place m (inr q) = let a = ap (λ o. one_if (is_command o)) q.0 in let z = ap one_if e in omega (arith, a, z)

      by_key : (m : ℕ) → asked (set rs j r) m ≤ asked rs m
      by_key zero = omega arith
      by_key (suc m) = by_place m (written rs j m r)

  by_set : (i k : Ioc) (q : ℕ) (r : Option AtFabric) → k.normal ≡ i.normal → k.requests ≡ set i.requests (q - 1) r → is_command r ≡ false → working k ≤ working i
  by_set i k q r n e c =
      let a = ap (queued_count s) n in
      let b = request_asked k in let d = request_asked i in let f = ap (λ rs. asked rs s) e in let g = set_less i.requests (q - 1) r c in
      omega (arith, a, b, d, f, g)

  -- a write of another place
  set_more : (rs : List (Option AtFabric)) (q : ℕ) (r : Option AtFabric) → 1 ≤ q → asked (set rs (q - 1) r) s ≤ asked rs s + one_if (q == s)
  set_more rs q r l = by_key s
    where
      one : (b : Bool) → one_if b ≤ 1
      one true = omega arith
      one false = omega arith

      by_place : (m : ℕ) → (get_or (set rs (q - 1) r) m None ≡ get_or rs m None) ⊎ ((get_or (set rs (q - 1) r) m None ≡ r) × (m ≡ q - 1))
          → one_if (is_command (get_or (set rs (q - 1) r) m None)) ≤ one_if (is_command (get_or rs m None)) + one_if (q == suc m)
      by_place m (inl e) = let a = ap (λ o. one_if (is_command o)) e in omega (arith, a)
      by_place m (inr e) =
          let y = e.1 in
          let z : (q == suc m) ≡ true = grind (arith, y, l) in
          let u = ap one_if z in let o = one (is_command (get_or (set rs (q - 1) r) m None)) in
          omega (arith, u, o)

      by_key : (m : ℕ) → asked (set rs (q - 1) r) m ≤ asked rs m + one_if (q == m)
      by_key zero = omega arith
      by_key (suc m) = by_place m (written rs (q - 1) m r)

  -- ---- what the fabric tells

  to : (n : ℕ) (o x : Happening Ioc) → o ≡ x → working x.part ≤ n → working o.part ≤ n
  to n o x e l = subst (λ (y : Happening Ioc). working y.part ≤ n) (sym e) l

  kept : (i : Ioc) (o x : Happening Ioc) → o ≡ x → x.part.normal ≡ i.normal → x.part.requests ≡ i.requests → working o.part ≤ working i
  kept i o x e n r = to (working i) o x e (by_same i x.part n r)

  cleared : (i : Ioc) (o x : Happening Ioc) (q : ℕ) (r : Option AtFabric) → o ≡ x → x.part.normal ≡ i.normal → x.part.requests ≡ set i.requests (q - 1) r → is_command r ≡ false → working o.part ≤ working i
  cleared i o x q r e n f c = to (working i) o x e (by_set i x.part q r n f c)

  back_by : (i : Ioc) (x : Back) (o : Happening Ioc) → Hears i x o → working o.part ≤ working i
  back_by i x o (Passed e) = kept i o _ e refl refl
  back_by i x o (Ended tag k queue len written r e) =
      let u : Ioc = say.says_on (table.without_request i tag) queue (Rattle.law_flights.proofs.Leaves.reply_made x k len written ∷ []) in
      let q = releases_same u k in
      cleared i o _ tag None e q.normal q.requests refl
  back_by i x o (Done smid r answer q e) = cleared i o _ smid None e refl refl refl
  back_by i x o (Bound disk k l n e) = let q = binds_same i disk (Some k) in kept i o _ e q.normal q.requests
  back_by i x o (Waits disk l n e) = kept i o _ e refl refl
  back_by i x o (Lost k address plug expander phy b e) = let q = changes_same (table.with_binding i k (binding.Gone address)) k expander phy false in kept i o _ e q.normal q.requests
  back_by i x o (Unawaited address n e) = kept i o _ e refl refl
  back_by i x o (Linked generation r e) = kept i o _ e refl refl
  back_by i x o (Calmed e) = kept i o _ e refl refl

  pub back_working : (i : Ioc) (x : Back) → working (adapter.takes_back i x).part ≤ working i
  back_working i x = back_by i x (adapter.takes_back i x) (back_leaf i x)

  -- ---- a work step: a SCSI IO goes on, and nothing else is one

  module _ (i : Ioc) (p : Post) (least : 1 ≤ smid_in p.descriptor) where
    abbrev pub Goes : Happening Ioc → Type 0
    Goes o = (working o.part ≤ working i) ⊎ ((kind_in p.descriptor ≡ Some post.ScsiIo) × (working o.part ≤ working i + one_if (is_post_of s p)))

    less : (o x : Happening Ioc) → o ≡ x → x.part.normal ≡ i.normal → x.part.requests ≡ i.requests → Goes o
    less o x e n r = inl (kept i o x e n r)

    asks : (o x : Happening Ioc) (r : AtFabric) → o ≡ x → x.part.normal ≡ i.normal → x.part.requests ≡ set i.requests (smid_in p.descriptor - 1) (Some r) → is_command (Some r) ≡ false → Goes o
    asks o x r e n f c = inl (cleared i o x (smid_in p.descriptor) (Some r) e n f c)

    sends : (address : ℕ) → working (commands.sends_command i p address (commands.command_in p.frame p.payload)) ≤ working i + one_if (is_post_of s p)
    sends address =
        let k : Ioc = commands.sends_command i p address (commands.command_in p.frame p.payload) in
        let a = request_asked k in let b = request_asked i in
        let c = set_more i.requests (smid_in p.descriptor) (Some (commands.kept_of (dev_handle_in p.frame) (commands.scsi_queue i p) (commands.command_in p.frame p.payload))) least in
        omega (arith, a, b, c)

    stopped : (stop : Post) → working (tasks.stops_queued i (smid_in p.descriptor) (task_mid_in p.frame) (dev_handle_in p.frame) stop) ≤ working i
    stopped stop =
        let k : Ioc = tasks.stops_queued i (smid_in p.descriptor) (task_mid_in p.frame) (dev_handle_in p.frame) stop in
        let f = queued_filter s (λ other. not (tasks.is_scsi_post (task_mid_in p.frame) (dev_handle_in p.frame) other)) i.normal in
        let a = request_asked k in let b = request_asked i in
        omega (arith, f, a, b)

    by_work : (o : Happening Ioc) → Works i p o → Goes o
    by_work o (Dropped k e) = less o _ e refl refl
    by_work o (Refuses k f kind r e) = less o _ e refl refl
    by_work o (ScsiEnds status k c e) = less o _ e refl refl
    by_work o (ScsiSends address plug expander phy k c b e) = inr (k, to (working i + one_if (is_post_of s p)) o _ e (sends address))
    by_work o (Stops stop k f e) = inl (to (working i) o _ e (stopped stop))
    by_work o (AbortSends k f b e) = asks o _ (at.Abort (dev_handle_in p.frame)) e refl refl refl
    by_work o (AbortEnds k f b e) = less o _ e refl refl
    by_work o (ResetSends address plug expander phy k b e) = asks o _ (at.TargetReset (dev_handle_in p.frame)) e refl refl refl
    by_work o (ResetHolds address k b c e) = less o _ e refl refl
    by_work o (ResetEnds status k e) = less o _ e refl refl
    by_work o (TaskFails k e) = less o _ e refl refl
    by_work o (PageEnds status k e) = less o _ e refl refl
    by_work o (PageGiven page k w e) = less o _ e refl refl
    by_work o (Enables k b e) = asks o _ at.PortEnable e refl refl refl
    by_work o (Notifies k e) = less o _ e refl refl
    by_work o (Acks k b e) = less o _ e refl refl
    by_work o (EndsPlainly f status k e) = less o _ e refl refl
    by_work o (RemovalEnds status k e) = less o _ e refl refl
    by_work o (Removes address k f b c e) =
        let j : Ioc = ask.ioc_ends_removal (table.with_binding i (controlled_handle_in p.frame) binding.Unbound) p IOC_STATUS_SUCCESS in
        let z = first_same j i.waiting in
        less o _ e z.normal z.requests
    by_work o (Strays k r e) = less o _ e refl refl

    pub work_goes : Goes (step.works_on i p)
    work_goes = by_work (step.works_on i p) (works_leaf i p)

  -- ---- an item of the host

  queued_as : (i : Ioc) (p : Post) (k : PostKind) → working (posts.with_post_queued i p k) ≤ working i + one_if (is_post_of s p)
  queued_as i p post.ScsiIo = let a = queued_count-append s i.normal (p ∷ []) in let b = queued_count-cons s p [] in let c = queued_count-nil s in let d = request_asked i in let e = request_asked (posts.with_post_queued i p post.ScsiIo) in omega (arith, a, b, c, d, e)
  queued_as i p post.HighPriority = let d = request_asked i in let e = request_asked (posts.with_post_queued i p post.HighPriority) in omega (arith, d, e)
  queued_as i p post.Default = let a = queued_count-append s i.normal (p ∷ []) in let b = queued_count-cons s p [] in let c = queued_count-nil s in let d = request_asked i in let e = request_asked (posts.with_post_queued i p post.Default) in omega (arith, a, b, c, d, e)

  faulted : (i : Ioc) (code n : ℕ) → working (table.faults i code) ≤ working i + n
  faulted i code n = let a = by_same i (table.faults i code) refl refl in omega (arith, a)

  posted_if : (i : Ioc) (p : Post) (o : Option PostKind) → working (posts.posts_if i p o) ≤ working i + one_if (is_post_of s p)
  posted_if i p None = faulted i posts.bad_post _
  posted_if i p (Some k) = by_tests (not (posts.is_in_class (posts.class_of k) (smid_in p.descriptor))) (table.is_unanswered i (smid_in p.descriptor))
    where
      by_tests : (b c : Bool) → working (if b then table.faults i posts.bad_post else if c then table.faults i posts.identifier_in_use else posts.with_post_queued i p k) ≤ working i + one_if (is_post_of s p)
      by_tests true c = faulted i posts.bad_post _
      by_tests false true = faulted i posts.identifier_in_use _
      by_tests false false = queued_as i p k

  posted : (i : Ioc) (d : ℕ) (f p : List ℕ) → working (adapter.posts_if_operational i d f p) ≤ working i + one_if (smid_in d == s)
  posted i d f p = by_state (is_operational (state_of i))
    where
      by_state : (b : Bool) → working (if b then posts.ioc_takes_post i d f p else i) ≤ working i + one_if (smid_in d == s)
      by_state true = posted_if i (record { descriptor = d; frame = f; payload = p }) (kind_in d)
      by_state false = omega arith

  not_fault : {T : Type 0} (x : IocState) → is_operational x ≡ true → is_fault x ≡ true → T
  not_fault ioc_state.Reset l f = absurd (cc)
  not_fault ioc_state.Ready l f = absurd (cc)
  not_fault ioc_state.Operational l f = absurd (cc)
  not_fault (ioc_state.Fault code) l f = absurd (cc)

  others_taken : (i : Ioc) (x : Down) (k : Ioc) → Takes i x k → is_posted_as s x ≡ false → is_operational (state_of k) ≡ true → ((d : ℕ) (f p : List ℕ) → x ≡ down.Post d f p → ⊥) → working k ≤ working i
  others_taken i x k (leaf.Faults y m e) n l o = not_fault (state_of k) l e
  others_taken i x k (leaf.Written reg value m r t e) n l o = by_same i k (ap (λ (y : Ioc). y.normal) e) (ap (λ (y : Ioc). y.requests) e)
  others_taken i x k (leaf.Operates value m r t u e) n l o = by_same i k (ap (λ (y : Ioc). y.normal) e) (ap (λ (y : Ioc). y.requests) e)
  others_taken i x k (leaf.Forgets reg value d e) n l o = absurd (cc)
  others_taken i x k (leaf.Reads reg value) n l o = by_same i k refl refl
  others_taken i x k (leaf.Posts d f p m t e) n l o = absurd (o d f p refl)
  others_taken i x k (leaf.DropsPost d f p e) n l o = omega arith
  others_taken i x k (leaf.Returns address index m t e) n l o = by_same i k (ap (λ (y : Ioc). y.normal) e) (ap (λ (y : Ioc). y.requests) e)
  others_taken i x k (leaf.DropsReturn address index e) n l o = omega arith
  others_taken i x k leaf.Stops n l o = by_same i k refl refl

  pub taken_working : (i : Ioc) (x : Down) → i.door.link_waits ≡ false → is_fault i.door.state ≡ false → is_operational (state_of (adapter.takes_down i x).part) ≡ true → working (adapter.takes_down i x).part ≤ working i + one_if (is_posted_as s x)
  taken_working i (down.Post d f p) l w v = posted i d f p
  taken_working i (down.Write reg value) l w v = let a = others_taken i (down.Write reg value) (adapter.takes_down i (down.Write reg value)).part (takes i l w (down.Write reg value)) refl v (λ d f p e. absurd (cc)) in omega (arith, a)
  taken_working i (down.Read reg) l w v = let a = others_taken i (down.Read reg) (adapter.takes_down i (down.Read reg)).part (takes i l w (down.Read reg)) refl v (λ d f p e. absurd (cc)) in omega (arith, a)
  taken_working i (down.Return address index) l w v = let a = others_taken i (down.Return address index) (adapter.takes_down i (down.Return address index)).part (takes i l w (down.Return address index)) refl v (λ d f p e. absurd (cc)) in omega (arith, a)
  taken_working i down.Stop l w v = let a = others_taken i down.Stop (adapter.takes_down i down.Stop).part (takes i l w down.Stop) refl v (λ d f p e. absurd (cc)) in omega (arith, a)
