-- Each case keeps that the fabric is off but between the discovery and the next link: over the world.
use Rattle.std.proofs.Common.{◌≡◌, ℕ, zero, suc, ◌+◌, ◌-◌, ◌%◌, ◌^◌, ◌<◌, ◌≤◌, ◌==◌, ◌&&◌, ◌||◌, not, cond, if◌then◌else◌, nat_lt, Bool, true, false, List, [], ◌∷◌, ◌++◌, map, length, get_or, replicate, set, slice_set, sum_by, Option, Some, None, is_some, refl, ap, sym, ◌∙◌, subst, arith, append_assoc, All}
use Rattle.std.proofs.lemmas.Bool.{eqb-true}
use Rattle.std.proofs.lemmas.List.{get_or_past}
use Rattle.std.proofs.lemmas.List.Elements.{All-head}
use Rattle.std.proofs.lemmas.List.Quantifiers.{position-Some}
use Rattle.std.specs.List.{filter, find, position}
use Rattle.mpi_doorbell.specs.DoorRegisters.{is_fault}
use Rattle.mpi_doorbell.specs.declared.state.IocState.{IocState}
use Rattle.mpi_doorbell.specs.declared.state.IocState.TheVariants as ioc_state
use Rattle.smid_pool.specs.Pool.{Slot, Free, Open, Parked, slot_of}
use Rattle.mpt_wire.specs.Messages.Fields.{dev_handle_in, smid_in, task_mid_in}
use Rattle.mpt_trace.specs.declared.item.Back.{Back}
use Rattle.mpt_trace.specs.declared.item.Back.TheVariants as back
use Rattle.mpt_trace.specs.declared.item.Down.{Down}
use Rattle.mpt_trace.specs.declared.item.Down.TheVariants as down
use Rattle.mpt_trace.specs.declared.item.Out.{Out}
use Rattle.mpt_trace.specs.declared.item.Out.TheVariants as out
use Rattle.mpt_rules.specs.declared.at_fabric.AtFabric.{AtFabric}
use Rattle.mpt_rules.specs.declared.at_fabric.AtFabric.TheVariants as at
use Rattle.mpt_rules.specs.declared.binding.Binding.{Binding}
use Rattle.mpt_rules.specs.declared.binding.Binding.TheVariants as binding
use Rattle.mpt_rules.specs.declared.binding.Waiting.{Waiting}
use Rattle.mpt_rules.specs.declared.post.Post.{Post}
use Rattle.mpt_rules.specs.declared.request.Request.{Request}
use Rattle.mpt_rules.specs.declared.task.Task.{Task}
use Rattle.mpt_rules.specs.World.Cases.{Case, happens}
use Rattle.mpt_rules.specs.World.Counts.{how_many, one_if, queued_count}
use Rattle.mpt_rules.specs.Fabric.Calls as fab
use Rattle.mpt_rules.specs.Fabric.Calls.{is_calm}
use Rattle.mpt_rules.specs.World.FabricCounts.{discovered_count, discover_count, is_discover, is_discovered, is_link, is_linked}
use Rattle.mpt_rules.specs.Fabric.Parts.{Fabric}
use Rattle.mpt_rules.specs.Fabric.Tasks as tasks
use Rattle.mpt_rules.specs.Host.Returns.{after_sent}
use Rattle.mpt_rules.specs.Ioc.Takes as adapter
use Rattle.mpt_rules.specs.Ioc.Back as from_back
use Rattle.mpt_rules.specs.Ioc.Back.{is_port_enable}
use Rattle.mpt_rules.specs.Ioc.Bindings as bind
use Rattle.mpt_rules.specs.Ioc.Commands as commands
use Rattle.mpt_rules.specs.Ioc.Parts.{Ioc, state_of}
use Rattle.mpt_rules.specs.Ioc.Replies as say
use Rattle.mpt_rules.specs.Ioc.Requests as ask
use Rattle.mpt_rules.specs.Ioc.Steps as step
use Rattle.mpt_rules.specs.Ioc.Tables as table
use Rattle.mpt_rules.specs.Ioc.Tables.{is_operational, is_reset, request_at}
use Rattle.mpt_rules.specs.Ioc.Tasks as ioc_tasks
use Rattle.mpt_rules.specs.World.Lines.{back_line, out_line}
use Rattle.mpt_rules.specs.Outcome.{Happening}
use Rattle.mpt_rules.specs.World.State.{World}
use Rattle.mpt_rules.proofs.Counts.{how_many-append}
use Rattle.law_facts.specs.Clock.{Clock, FabricOff, is_dark, in_reset, is_live}
use Rattle.law_facts.specs.Facts.{Facts}
use Rattle.law_facts.specs.History.{History}
use Rattle.law_facts.specs.Messages.{PostIs, PostIsRecord}
use Rattle.law_facts.specs.Notices.{is_notice}
use Rattle.law_facts.specs.Words.{is_bare, is_discover_or_stop, is_order, is_stop, others, slot}
use Rattle.law_flights.proofs.KnownOnce.{count_set}
use Rattle.law_flights.proofs.WorkLeaves.{Works, Dropped, Refuses, ScsiEnds, ScsiSends, Stops, AbortSends, AbortEnds, ResetSends, ResetHolds, ResetEnds, TaskFails, PageEnds, PageGiven, Enables, Notifies, Acks, EndsPlainly, RemovalEnds, Removes, Strays, works_leaf}
use Rattle.law_clock.specs.Premises.{Before, Behind}
use Rattle.law_moves.proofs.Cases.{Owes, kept}
use Rattle.law_moves.proofs.Counted.{all_pass, fewer_pass, how_many-cons, how_many-nil, later-others, none_passes, others-append, others-cons, others-is, others-nil}
use Rattle.law_moves.proofs.FabricSpeaks as speaks
use Rattle.law_moves.proofs.IocTakes.{Takes, Faults, Written, Operates, Forgets, Reads, Posts as PostsLeaf, DropsPost, Returns, DropsReturn, Stops as StopsLeaf, takes}
use Rattle.law_moves.proofs.Phases.{and_false, phased_of}
use Rattle.law_moves.proofs.Registers.{linked_is}
use Rattle.law_moves.proofs.Turns.{nonzero}
use Rattle.law_clock.proofs.LinkKept.{reset_is, stands_of as link_of_world}
use Rattle.law_clock.proofs.NoReplyKept.{ready_live}
use Rattle.law_clock.proofs.PhaseKept as phase
use Rattle.law_resets.specs.Shown.{OffBut}
use Rattle.law_resets.proofs.FabricKept.{Dark, FabricStands, dark_answers, dark_orders, discover_told, false_true, filter_length, gone_told, has_asked_of, is_dark_of, moved, no_enables, one_more, other_more, takes_discover, takes_link, takes_order, takes_stop}

abbrev pub FabricWorld : World → Type 0
FabricWorld v = FabricStands (is_live v) (is_reset (state_of v.ioc)) v.ioc.enabled (how_many is_port_enable v.ioc.requests) v.fabric.on v.fabric.tasks v.fabric.notices (out_line v) (back_line v)

below : (n m : ℕ) → nat_lt n m ≡ true → n < m
below n m t = grind (arith, t)

past : (n m : ℕ) → nat_lt n m ≡ false → m ≤ n
past n m t = grind (arith, t)

-- a request that is no port enable takes the place of none
pub kept_count : (xs : List (Option AtFabric)) (i : ℕ) (y : Option AtFabric) → is_port_enable y ≡ false → is_port_enable (get_or xs i None) ≡ false → how_many is_port_enable (set xs i y) ≡ how_many is_port_enable xs
kept_count [] i y e f = refl
kept_count (x ∷ xs) zero y e f =
    let a = how_many-cons is_port_enable x xs in let b = how_many-cons is_port_enable y xs in
    let c : one_if (is_port_enable x) ≡ 0 = ap one_if f in let d : one_if (is_port_enable y) ≡ 0 = ap one_if e in
    omega (arith, a, b, c, d)
kept_count (x ∷ xs) (suc i) y e f =
    let h = kept_count xs i y e f in
    let a = how_many-cons is_port_enable x xs in let b = how_many-cons is_port_enable x (set xs i y) in
    omega (arith, h, a, b)

-- where no place passes, none does
none_before : (xs : List (Option AtFabric)) → length xs ≤ Rattle.std.specs.List.position_or_len is_port_enable xs → how_many is_port_enable xs ≡ 0
none_before [] l = how_many-nil is_port_enable
none_before (x ∷ xs) l = by_test (is_port_enable x) refl l (none_before xs)
  where
    by_test : (b : Bool) → is_port_enable x ≡ b → length (x ∷ xs) ≤ cond (not b) (1 + Rattle.std.specs.List.position_or_len is_port_enable xs) 0 → (length xs ≤ Rattle.std.specs.List.position_or_len is_port_enable xs → how_many is_port_enable xs ≡ 0) → how_many is_port_enable (x ∷ xs) ≡ 0
    by_test true t m h = absurd (omega (arith, m))
    by_test false t m h = let a = how_many-cons is_port_enable x xs in let z = h (omega (arith, m)) in let c : one_if (is_port_enable x) ≡ 0 = ap one_if t in omega (arith, a, z, c)

none_enable : (xs : List (Option AtFabric)) → position is_port_enable xs ≡ None → how_many is_port_enable xs ≡ 0
none_enable xs e = by_place (nat_lt (Rattle.std.specs.List.position_or_len is_port_enable xs) (length xs)) refl e
  where
    by_place : (b : Bool) → nat_lt (Rattle.std.specs.List.position_or_len is_port_enable xs) (length xs) ≡ b → cond b (Some (Rattle.std.specs.List.position_or_len is_port_enable xs)) None ≡ None → how_many is_port_enable xs ≡ 0
    by_place true t f = absurd (cc)
    by_place false t f = none_before xs (grind (arith, t))

-- ---- a post of a queue

module _ (w : World) (h : History) (f : Facts w h) where
  -- what it names is an identifier
  named : (p : Post) (s : ℕ) (r : Slot Request) → slot_of w.host.pool s ≡ r → PostIs w h p r → (1 ≤ s) × (s ≤ 280)
  named p zero r e i = absurd (subst (PostIs w h p) (sym e) i)
  named p (suc n) r e i = by_place (nat_lt n (length w.host.pool)) refl
    where
      by_place : (b : Bool) → nat_lt n (length w.host.pool) ≡ b → (1 ≤ suc n) × (suc n ≤ 280)
      by_place true t = let z = f.flights.sizes.pool in let l : n < length w.host.pool = grind (arith, t) in (omega arith, omega (arith, z, l))
      by_place false t =
          let far : length w.host.pool ≤ n = grind (arith, t) in
          let z : get_or w.host.pool n Free ≡ Free = get_or_past w.host.pool n Free far in
          absurd (subst (PostIs w h p) (sym e ∙ z) i)

  pub record IsFront (p : Post) : Type 0 where
    pub least : 1 ≤ smid_in p.descriptor
    pub most : smid_in p.descriptor ≤ 280
    pub nothing : is_some (request_at w.ioc (smid_in p.descriptor)) ≡ false

  off_by_count : (b : Bool) → one_if b ≡ 0 → b ≡ false
  off_by_count true e = absurd (omega (arith, e))
  off_by_count false e = refl

  pub front_high : (p : Post) (rest : List Post) → w.ioc.high ≡ p ∷ rest → IsFront p
  unfolding queued_count
  front_high p rest e =
      let m : All (PostIsRecord w h) (p ∷ rest) = subst (All (PostIsRecord w h)) e f.messages.high in
      let n = named p (smid_in p.descriptor) (slot w.host (smid_in p.descriptor)) refl (All-head (PostIsRecord w h) p rest m) in
      let a = (f.flights.identifiers (smid_in p.descriptor) n.0 n.1).at_most in
      let c = ap (how_many (table.is_post_of (smid_in p.descriptor))) e in
      let d = how_many-cons (table.is_post_of (smid_in p.descriptor)) p rest in
      let o : one_if (smid_in p.descriptor == smid_in p.descriptor) ≡ 1 = ap one_if (Rattle.law_moves.proofs.Phases.same_is (smid_in p.descriptor)) in
      record { least = n.0; most = n.1; nothing = off_by_count (is_some (request_at w.ioc (smid_in p.descriptor))) (omega (arith, a, c, d, o)) }

  pub front_normal : (p : Post) (rest : List Post) → w.ioc.normal ≡ p ∷ rest → IsFront p
  unfolding queued_count
  front_normal p rest e =
      let m : All (PostIsRecord w h) (p ∷ rest) = subst (All (PostIsRecord w h)) e f.messages.normal in
      let n = named p (smid_in p.descriptor) (slot w.host (smid_in p.descriptor)) refl (All-head (PostIsRecord w h) p rest m) in
      let a = (f.flights.identifiers (smid_in p.descriptor) n.0 n.1).at_most in
      let c = ap (how_many (table.is_post_of (smid_in p.descriptor))) e in
      let d = how_many-cons (table.is_post_of (smid_in p.descriptor)) p rest in
      let o : one_if (smid_in p.descriptor == smid_in p.descriptor) ≡ 1 = ap one_if (Rattle.law_moves.proofs.Phases.same_is (smid_in p.descriptor)) in
      record { least = n.0; most = n.1; nothing = off_by_count (is_some (request_at w.ioc (smid_in p.descriptor))) (omega (arith, a, c, d, o)) }

-- nothing is at the fabric for an identifier: so its place has no port enable
place_none : (i : Ioc) (s : ℕ) → 1 ≤ s → is_some (request_at i s) ≡ false → get_or i.requests (s - 1) None ≡ None
place_none i zero l e = absurd (omega (arith, l))
place_none i (suc n) l e = ap (λ k. get_or i.requests k None) (omega arith) ∙ by_it (get_or i.requests n None) e
  where
    by_it : (o : Option AtFabric) → is_some o ≡ false → o ≡ None
    by_it None e = refl
    by_it (Some a) e = absurd (cc)

-- what stays where a disk that waits is bound
pub record Alike (i k : Ioc) : Type 0 where
  pub out_is : k.out ≡ i.out
  pub enabled_is : k.enabled ≡ i.enabled
  pub requests_is : k.requests ≡ i.requests

alike : (i : Ioc) → Alike i i
alike i = record { out_is = refl; enabled_is = refl; requests_is = refl }

alike_changes : (i k : Ioc) (handle expander phy : ℕ) (added : Bool) → Alike i k → Alike i (bind.changes k handle expander phy added)
alike_changes i k handle expander phy added a = by_through k.through
  where
    by_through : (b : Bool) → Alike i (if b then bind.tells_change k handle expander phy added else k)
    by_through true = record { out_is = a.out_is; enabled_is = a.enabled_is; requests_is = a.requests_is }
    by_through false = a

alike_binds : (i k : Ioc) (d : Waiting) (o : Option ℕ) → Alike i k → Alike i (bind.binds_to k d o).part
alike_binds i k d None a = record { out_is = a.out_is; enabled_is = a.enabled_is; requests_is = a.requests_is }
alike_binds i k d (Some handle) a = alike_changes i (table.with_binding k handle (binding.Present d.address d.plug d.expander d.phy)) handle d.expander d.phy true (record { out_is = a.out_is; enabled_is = a.enabled_is; requests_is = a.requests_is })

alike_first : (i k : Ioc) (ds : List Waiting) → Alike i k → Alike i (bind.binds_first k ds).part
alike_first i k [] a = a
alike_first i k (d ∷ ds) a = alike_binds i (record k { waiting = ds }) d (table.least_unbound (record k { waiting = ds })) (record { out_is = a.out_is; enabled_is = a.enabled_is; requests_is = a.requests_is })

alike_loses : (i : Ioc) (handle : ℕ) (b : Binding) → Alike i (bind.ioc_loses i handle b)
alike_loses i handle binding.Unbound = alike i
alike_loses i handle (binding.Present address plug expander phy) = alike_changes i (table.with_binding i handle (binding.Gone address)) handle expander phy false (record { out_is = refl; enabled_is = refl; requests_is = refl })
alike_loses i handle (binding.Gone address) = alike i

alike_unplugs : (i : Ioc) (address : ℕ) (o : Option ℕ) → Alike i (bind.ioc_unplugs_from i address o)
alike_unplugs i address None = record { out_is = refl; enabled_is = refl; requests_is = refl }
alike_unplugs i address (Some handle) = alike_loses i handle (table.binding_of i handle)

-- what the fabric tells of a command takes its request away
pub record Ended (i k : Ioc) : Type 0 where
  pub out_is : k.out ≡ i.out
  pub enabled_is : k.enabled ≡ i.enabled
  pub requests_are : how_many is_port_enable k.requests ≡ how_many is_port_enable i.requests

ended_same : (i k : Ioc) → Alike i k → Ended i k
ended_same i k a = record { out_is = a.out_is; enabled_is = a.enabled_is; requests_are = ap (how_many is_port_enable) a.requests_is }

-- the request of an identifier goes, which was no port enable
without : (i : Ioc) (s : ℕ) (r : AtFabric) → request_at i s ≡ Some r → is_port_enable (Some r) ≡ false → how_many is_port_enable (table.without_request i s).requests ≡ how_many is_port_enable i.requests
without i zero r e n = absurd (none_some e)
  where
    none_some : None ≡ Some r → ⊥
    none_some e = cc
without i (suc k) r e n = kept_count i.requests (suc k - 1) None refl (ap (λ m. is_port_enable (get_or i.requests m None)) (omega arith) ∙ (ap is_port_enable e ∙ n))

released : (i k : Ioc) (handle : ℕ) → Ended i k → Ended i (commands.releases k handle)
released i k handle a = by_commands (table.has_commands k handle)
  where
    by_commands : (b : Bool) → Ended i (if b then k else commands.answers_held k handle)
    by_commands true = a
    by_commands false = record { out_is = a.out_is; enabled_is = a.enabled_is; requests_are = a.requests_are }

module _ (i : Ioc) where
  ends : (s handle queue len : ℕ) (written : Option ℕ) (y : Rattle.mpt_rules.specs.declared.said.Said.Said) → request_at i s ≡ Some (at.Command handle queue len written) → Ended i (commands.ends_command i s handle queue y)
  ends s handle queue len written y e = released i (say.says_on (table.without_request i s) queue (y ∷ [])) handle (record { out_is = refl; enabled_is = refl; requests_are = without i s (at.Command handle queue len written) e refl })

  result : (s : ℕ) (r : Rattle.scsi_disk.specs.declared.scsi_result.ScsiResult.ScsiResult) (o : Option AtFabric) → request_at i s ≡ o → Ended i (from_back.takes_result i s r o)
  result s r None e = ended_same i i (alike i)
  result s r (Some (at.Command handle queue len written)) e = ends s handle queue len written (commands.result_said s handle len (commands.moved_by written r) r) e
  result s r (Some (at.Abort handle)) e = ended_same i i (alike i)
  result s r (Some (at.TargetReset handle)) e = ended_same i i (alike i)
  result s r (Some at.PortEnable) e = ended_same i i (alike i)

  ended : (s status : ℕ) (o : Option AtFabric) → request_at i s ≡ o → Ended i (from_back.takes_end i s status o)
  ended s status None e = ended_same i i (alike i)
  ended s status (Some (at.Command handle queue len written)) e = ends s handle queue len written (say.scsi_ended s handle status) e
  ended s status (Some (at.Abort handle)) e = ended_same i i (alike i)
  ended s status (Some (at.TargetReset handle)) e = ended_same i i (alike i)
  ended s status (Some at.PortEnable) e = ended_same i i (alike i)

  aborted : (s : ℕ) (found : Bool) (o : Option AtFabric) → request_at i s ≡ o → Ended i (from_back.takes_aborted i s found o)
  aborted s found None e = ended_same i i (alike i)
  aborted s found (Some (at.Command handle queue len written)) e = ended_same i i (alike i)
  aborted s found (Some (at.Abort handle)) e = record { out_is = refl; enabled_is = refl; requests_are = without i s (at.Abort handle) e refl }
  aborted s found (Some (at.TargetReset handle)) e = ended_same i i (alike i)
  aborted s found (Some at.PortEnable) e = ended_same i i (alike i)

  cleared : (s count : ℕ) (o : Option AtFabric) → request_at i s ≡ o → Ended i (from_back.takes_cleared i s count o)
  cleared s count None e = ended_same i i (alike i)
  cleared s count (Some (at.Command handle queue len written)) e = ended_same i i (alike i)
  cleared s count (Some (at.Abort handle)) e = ended_same i i (alike i)
  cleared s count (Some (at.TargetReset handle)) e = record { out_is = refl; enabled_is = refl; requests_are = without i s (at.TargetReset handle) e refl }
  cleared s count (Some at.PortEnable) e = ended_same i i (alike i)

  plugged : (d : Waiting) (b : Bool) → Ended i (if b then table.silently i else bind.binds i d).part
  plugged d true = ended_same i i (alike i)
  plugged d false = ended_same i (bind.binds_to i d (table.least_unbound i)).part (alike_binds i i d (table.least_unbound i) (alike i))

  -- all that is heard but the end of a discovery
  pub heard : (x : Back) → is_discovered x ≡ false → Ended i (from_back.hears i x).part
  heard (back.Result s r) e = result s r (request_at i s) refl
  heard (back.Gone s) e = ended s _ (request_at i s) refl
  heard (back.Terminated s) e = ended s _ (request_at i s) refl
  heard (back.Aborted s found) e = aborted s found (request_at i s) refl
  heard (back.Cleared s count) e = cleared s count (request_at i s) refl
  heard (back.Plugged address plug expander phy) e = plugged (record { address = address; plug = plug; expander = expander; phy = phy }) (bind.is_known i address || not (nat_lt expander (length i.phys)))
  heard (back.Unplugged address plug expander phy) e = ended_same i (bind.ioc_unplugs i address) (alike_unplugs i address (table.handle_of i address))
  heard back.Discovered e = absurd (cc)
  heard (back.Linked g) e = by_test (is_reset (state_of i) && g == i.generation)
    where
      by_test : (b : Bool) → Ended i (if b then record i { door = Rattle.mpi_doorbell.specs.DoorRegisters.linked_up i.door } else i)
      by_test true = record { out_is = refl; enabled_is = refl; requests_are = refl }
      by_test false = ended_same i i (alike i)
  heard back.Calm e = by_fault (is_fault (state_of i))
    where
      by_fault : (b : Bool) → Ended i (if b then i else say.says_on i 0 (Rattle.mpt_rules.specs.declared.said.Said.TheVariants.Calm ∷ []))
      by_fault true = ended_same i i (alike i)
      by_fault false = record { out_is = refl; enabled_is = refl; requests_are = refl }

  pub taken_back : (x : Back) → is_discovered x ≡ false → Ended i (from_back.takes_back i x).part
  taken_back x e = by_state (from_back.is_heard_in (state_of i) x)
    where
      by_state : (b : Bool) → Ended i (if b then from_back.hears i x else table.silently i).part
      by_state true = heard x e
      by_state false = ended_same i i (alike i)

-- ---- all cases

is_operational_state : (s : IocState) → is_operational s ≡ true → is_reset s ≡ false
is_operational_state ioc_state.Operational e = refl
is_operational_state ioc_state.Ready e = refl
is_operational_state ioc_state.Reset e = absurd (cc)
is_operational_state (ioc_state.Fault code) e = refl

ready_state : (s : IocState) → Rattle.mpt_rules.specs.Ioc.Tables.is_ready s ≡ true → (is_operational s ≡ false) × (is_reset s ≡ false) × (is_bare s ≡ true)
ready_state ioc_state.Ready e = (refl, refl, refl)
ready_state ioc_state.Reset e = absurd (cc)
ready_state ioc_state.Operational e = absurd (cc)
ready_state (ioc_state.Fault code) e = absurd (cc)

pub stands_of : (w : World) → in_reset w ≡ is_reset (state_of w.ioc) → FabricOff w → FabricWorld w
unfolding discover_count discovered_count
stands_of w r f =
    record {
      dark = λ e. let k = f.dark (ap (λ y. (not (is_live w) && not y) || (is_live w && not (has_asked_of w.ioc.enabled (out_line w)))) r ∙ e) in record { off = k.on; no_tasks = k.tasks; no_notices = k.notices; only_calm = k.back; only_discover = k.out };
      lit = f.lit;
      orders = f.orders;
      one = λ e. f.one (r ∙ e);
      at_most = f.at_most;
      asked = f.asked;
    }

pub off_of_stands : (w : World) → in_reset w ≡ is_reset (state_of w.ioc) → FabricWorld w → OffBut w
unfolding discover_count discovered_count
off_of_stands w r f =
    record {
      dark = λ e. let k = f.dark (sym (ap (λ y. (not (is_live w) && not y) || (is_live w && not (has_asked_of w.ioc.enabled (out_line w)))) r) ∙ e) in record { on = k.off; tasks = k.no_tasks; notices = k.no_notices; back = k.only_calm; out = k.only_discover };
      lit = f.lit;
      orders = f.orders;
      one = λ e. f.one (sym r ∙ e);
      at_most = f.at_most;
      asked = f.asked;
    }

module _ (w : World) (h : History) (b : Before w h) where
  k : Clock w h
  k = b.facts.clock

  s : FabricWorld w
  s = stands_of w (reset_is w (phased_of w k.phase_table)) k.fabric_off

  abbrev Kept : World → Type 0
  Kept v = Behind v → FabricWorld v

  n0 : ℕ
  n0 = how_many is_port_enable w.ioc.requests

  -- the controller, with what is left of the line back
  abbrev In : Ioc → List Back → Type 0
  In i back = FabricStands (is_operational (state_of i)) (is_reset (state_of i)) i.enabled (how_many is_port_enable i.requests) w.fabric.on w.fabric.tasks w.fabric.notices (w.out ++ i.out) back

  same_ioc : (i : Ioc) → state_of i ≡ state_of w.ioc → i.enabled ≡ w.ioc.enabled → how_many is_port_enable i.requests ≡ how_many is_port_enable w.ioc.requests → i.out ≡ w.ioc.out → In i (back_line w)
  same_ioc i st en rq ou =
      let a = ap is_operational st in let c = ap is_reset st in
      rw (a, c, en, rq, ou) s

  stop_said : In (say.with_out_item w.ioc out.Stop) (back_line w)
  stop_said =
      let d = one_more is_discover (out_line w) out.Stop in
      let o = one_more is_order (out_line w) out.Stop in
      let z = other_more is_discover_or_stop (out_line w) out.Stop in
      let g = append_assoc w.out w.ioc.out (out.Stop ∷ []) in
      let l : how_many is_discover (w.out ++ (w.ioc.out ++ out.Stop ∷ [])) ≡ how_many is_discover (out_line w) = ap (how_many is_discover) (sym g) ∙ omega (arith, d) in
      let lo : how_many is_order (w.out ++ (w.ioc.out ++ out.Stop ∷ [])) ≡ how_many is_order (out_line w) = ap (how_many is_order) (sym g) ∙ omega (arith, o) in
      moved (is_live w) (is_reset (state_of w.ioc)) w.ioc.enabled (how_many is_port_enable w.ioc.requests) w.fabric.on w.fabric.tasks w.fabric.tasks w.fabric.notices w.fabric.notices (out_line w) (w.out ++ (w.ioc.out ++ out.Stop ∷ [])) (back_line w) (back_line w)
      l refl (λ y. omega (arith, lo, y))
      (λ m. record { off = m.off; no_tasks = m.no_tasks; no_notices = m.no_notices; only_calm = m.only_calm; only_discover = (let t = m.only_discover in ap (others is_discover_or_stop) (sym g) ∙ omega (arith, z, t)) }) s

  -- a controller that comes up from READY: the fabric is dark
  comes_up : (i : Ioc) → Rattle.mpt_rules.specs.Ioc.Tables.is_ready (state_of w.ioc) ≡ true → state_of i ≡ ioc_state.Operational → i.enabled ≡ w.ioc.enabled → i.requests ≡ w.ioc.requests → i.out ≡ w.ioc.out → In i (back_line w)
  comes_up i r st en rq ou =
      let t = ready_state (state_of w.ioc) r in
      let dk = s.dark (by_tests (is_live w) (is_reset (state_of w.ioc)) t.0 t.1) in
      let off = (k.tables_empty t.2).enabled in
      let one0 = s.one t.1 in
      let z0 = dark_orders (out_line w) dk in
      let nt : length w.fabric.tasks ≡ 0 = ap length dk.no_tasks in
      let lv : is_operational (state_of i) ≡ true = ap is_operational st in let rs : is_reset (state_of i) ≡ false = ap is_reset st in let rn = ap (how_many is_port_enable) rq in
      let am = s.at_most in
      rw (lv, rs, en, rn, ou)
      (record {
        dark = λ e. dk;
        lit = λ l e. absurd (false_true w.ioc.enabled off (and_false w.ioc.enabled (how_many is_discover (out_line w) == 0) e).0);
        orders = λ l. absurd (omega (arith, l, nt, z0));
        one = λ e. one0;
        at_most = am;
        asked = s.asked;
      })
    where
      by_tests : (a c : Bool) → a ≡ false → c ≡ false → ((not a && not c) || (a && not (has_asked_of w.ioc.enabled (out_line w)))) ≡ true
      by_tests false false e f = refl
      by_tests true c e f = absurd (cc)
      by_tests false true e f = absurd (cc)

  -- a reset
  forgotten : (d : Rattle.mpi_doorbell.specs.DoorRegisters.DoorRegisters) → In (Rattle.mpt_rules.specs.Ioc.Resets.forgets (record w.ioc { door = d })) (back_line w)
  forgotten d =
      let g : ℕ = (w.ioc.generation + 1) % 2 ^ 32 in
      let a = how_many-append is_discover w.out w.ioc.out in let a2 = one_more is_discover w.out (out.Link ((w.ioc.generation + 1) % 2 ^ 32)) in
      let o = how_many-append is_order w.out w.ioc.out in let o2 = one_more is_order w.out (out.Link ((w.ioc.generation + 1) % 2 ^ 32)) in
      let am = s.at_most in
      let ne = no_enables 280 in
      record {
        dark = λ e. absurd (cc);
        lit = λ l e. absurd (cc);
        orders = λ l. let t = s.orders (omega (arith, l, o, o2)) in (t.0, (let z = t.1 in omega (arith, z, a, a2)));
        one = λ e. absurd (cc);
        at_most = omega (arith, am, a, a2);
        asked = λ l. absurd (omega (arith, l, ne));
      }

  taken : (x : Down) (i : Ioc) → Takes w.ioc x i → is_fault (state_of i) ≡ false → In i (back_line w)
  taken x i (Faults y j f) n = absurd (cc)
  taken x i (Written reg value j nr st sa) n = same_ioc i st (ap (λ (y : Ioc). y.enabled) sa) (ap (λ (y : Ioc). how_many is_port_enable y.requests) sa) (ap (λ (y : Ioc). y.out) sa)
  taken x i (Operates value j nr r st sa) n = comes_up i r st (ap (λ (y : Ioc). y.enabled) sa) (ap (λ (y : Ioc). y.requests) sa) (ap (λ (y : Ioc). y.out) sa)
  taken x i (Forgets reg value d r) n = forgotten d
  taken x i (Reads reg value) n = s
  taken x i (PostsLeaf d f p j o sa) n = same_ioc i (ap (λ (y : Ioc). state_of y) sa) (ap (λ (y : Ioc). y.enabled) sa) (ap (λ (y : Ioc). how_many is_port_enable y.requests) sa) (ap (λ (y : Ioc). y.out) sa)
  taken x i (DropsPost d f p o) n = s
  taken x i (Returns address index j o sa) n = same_ioc i (ap (λ (y : Ioc). state_of y) sa) (ap (λ (y : Ioc). y.enabled) sa) (ap (λ (y : Ioc). how_many is_port_enable y.requests) sa) (ap (λ (y : Ioc). y.out) sa)
  taken x i (DropsReturn address index o) n = s
  taken x i StopsLeaf n = stop_said

  -- ---- a work step, of a controller that is OPERATIONAL

  module _ (live : is_live w ≡ true) where
    no_reset : is_reset (state_of w.ioc) ≡ false
    no_reset = is_operational_state (state_of w.ioc) live

    -- where something is known of disks the fabric is on
    on_by_binding : (handle : ℕ) → table.is_unbound (table.binding_of w.ioc handle) ≡ false → w.fabric.on ≡ true
    on_by_binding handle e = by_on w.fabric.on refl
      where
        bound : 1 ≤ others table.is_unbound w.ioc.bindings
        bound = by_le (Rattle.std.proofs.Common.nat_le table.first_handle handle) refl e
          where
            none_at : (xs : List Binding) (j : ℕ) → table.is_unbound (get_or xs j binding.Unbound) ≡ false → 1 ≤ others table.is_unbound xs
            none_at [] j f = absurd (cc)
            none_at (x ∷ xs) zero f = let c = others-cons table.is_unbound x xs in let o : one_if (not (table.is_unbound x)) ≡ 1 = ap (λ y. one_if (not y)) f in omega (arith, c, o)
            none_at (x ∷ xs) (suc j) f = let c = others-cons table.is_unbound x xs in let r = none_at xs j f in omega (arith, c, r)

            by_le : (c : Bool) → Rattle.std.proofs.Common.nat_le table.first_handle handle ≡ c → table.is_unbound (if c then get_or w.ioc.bindings (handle - table.first_handle) binding.Unbound else binding.Unbound) ≡ false → 1 ≤ others table.is_unbound w.ioc.bindings
            by_le true g f = none_at w.ioc.bindings (handle - table.first_handle) f
            by_le false g f = absurd (cc)

        by_on : (c : Bool) → w.fabric.on ≡ c → c ≡ true
        by_on true g = refl
        by_on false g = let z = (b.facts.notices.fit.dark live g).0 in let l = bound in absurd (omega (arith, z, l))

    -- so the question for disks was asked and taken
    asked_by_on : w.fabric.on ≡ true → (w.ioc.enabled ≡ true) × (how_many is_discover (out_line w) ≡ 0)
    asked_by_on o = by_asked (has_asked_of w.ioc.enabled (out_line w)) refl
      where
        dark_then : (a c y : Bool) → a ≡ true → y ≡ false → ((not a && not c) || (a && not y)) ≡ true
        dark_then true c false e f = refl
        dark_then true c true e f = absurd (cc)
        dark_then false c y e f = absurd (cc)

        by_asked : (c : Bool) → has_asked_of w.ioc.enabled (out_line w) ≡ c → (w.ioc.enabled ≡ true) × (how_many is_discover (out_line w) ≡ 0)
        by_asked true g = let t = and_false w.ioc.enabled (how_many is_discover (out_line w) == 0) g in (t.0, eqb-true (how_many is_discover (out_line w)) 0 t.1)
        by_asked false g = let dk = s.dark (dark_then (is_live w) (is_reset (state_of w.ioc)) (has_asked_of w.ioc.enabled (out_line w)) live g) in absurd (false_true w.fabric.on dk.off o)

    -- a command at the fabric: it isn't dark
    on_by_command : (t : ℕ) → Rattle.law_facts.specs.Words.is_command (request_at w.ioc t) ≡ true → w.fabric.on ≡ true
    unfolding Rattle.mpt_rules.specs.World.FabricCounts.sent_task_count Rattle.mpt_rules.specs.World.FabricCounts.task_count Rattle.mpt_rules.specs.World.FabricCounts.result_count Rattle.mpt_rules.specs.World.FabricCounts.gone_count Rattle.mpt_rules.specs.World.FabricCounts.terminated_count
    on_by_command t e = by_on w.fabric.on refl
      where
        bounds : (s : ℕ) → Rattle.law_facts.specs.Words.is_command (request_at w.ioc s) ≡ true → (1 ≤ s) × (s ≤ 280)
        bounds zero f = absurd (cc)
        bounds (suc n) f = by_place (nat_lt n (length w.ioc.requests)) refl
          where
            by_place : (c : Bool) → nat_lt n (length w.ioc.requests) ≡ c → (1 ≤ suc n) × (suc n ≤ 280)
            by_place true g = let z = b.facts.flights.sizes.requests in let l = below n (length w.ioc.requests) g in (omega arith, omega (arith, z, l))
            by_place false g =
                let far = past n (length w.ioc.requests) g in
                let z : get_or w.ioc.requests n None ≡ None = get_or_past w.ioc.requests n None far in
                absurd (false_true (Rattle.law_facts.specs.Words.is_command (get_or w.ioc.requests n None)) (ap Rattle.law_facts.specs.Words.is_command z) f)

        by_on : (c : Bool) → w.fabric.on ≡ c → c ≡ true
        by_on true g = refl
        by_on false g =
            let l = bounds t e in
            let o = (b.facts.flights.fabric t l.0 l.1).commands live in
            let i : one_if (Rattle.law_facts.specs.Words.is_command (request_at w.ioc t)) ≡ 1 = ap one_if e in
            let dk = dark_now g in
            let z = none_sent dk in
            absurd (omega (arith, o, i, z))
          where
            dark_now : w.fabric.on ≡ false → Dark w.fabric.on w.fabric.tasks w.fabric.notices (out_line w) (back_line w)
            dark_now g = by_asked (has_asked_of w.ioc.enabled (out_line w)) refl
              where
                dark_then : (a c y : Bool) → a ≡ true → y ≡ false → ((not a && not c) || (a && not y)) ≡ true
                dark_then true c false e f = refl
                dark_then true c true e f = absurd (cc)
                dark_then false c y e f = absurd (cc)

                by_asked : (c : Bool) → has_asked_of w.ioc.enabled (out_line w) ≡ c → Dark w.fabric.on w.fabric.tasks w.fabric.notices (out_line w) (back_line w)
                by_asked true y = absurd (false_true w.fabric.on g (s.lit live y))
                by_asked false y = s.dark (dark_then (is_live w) (is_reset (state_of w.ioc)) (has_asked_of w.ioc.enabled (out_line w)) live y)

            none_sent : Dark w.fabric.on w.fabric.tasks w.fabric.notices (out_line w) (back_line w) → Rattle.law_facts.specs.Flights.command_tokens w t ≡ 0
            none_sent dk =
                let a = none_passes is_discover_or_stop (Rattle.mpt_rules.specs.World.FabricCounts.is_task_of t) (λ x f. no_task x f) (out_line w) dk.only_discover in
                let c = ap (how_many (tasks.has_tag t)) dk.no_tasks ∙ how_many-nil (tasks.has_tag t) in
                let r = none_passes is_calm (Rattle.mpt_rules.specs.World.FabricCounts.is_result_of t) (λ x f. no_result x f) (back_line w) dk.only_calm in
                let g = none_passes is_calm (Rattle.mpt_rules.specs.World.FabricCounts.is_gone_of t) (λ x f. no_gone x f) (back_line w) dk.only_calm in
                let m = none_passes is_calm (Rattle.mpt_rules.specs.World.FabricCounts.is_termination_of t) (λ x f. no_end x f) (back_line w) dk.only_calm in
                omega (arith, a, c, r, g, m)
              where
                no_task : (x : Out) → is_discover_or_stop x ≡ true → Rattle.mpt_rules.specs.World.FabricCounts.is_task_of t x ≡ false
                no_task out.Discover f = refl
                no_task out.Stop f = refl
                no_task (out.Link n) f = refl
                no_task (out.Task tag address command) f = absurd (cc)
                no_task (out.Abort smid task) f = refl
                no_task (out.TargetReset smid address) f = refl

                no_result : (x : Back) → is_calm x ≡ true → Rattle.mpt_rules.specs.World.FabricCounts.is_result_of t x ≡ false
                no_result back.Calm f = refl
                no_result (back.Result tag r) f = absurd (cc)
                no_result (back.Gone tag) f = refl
                no_result (back.Terminated tag) f = refl
                no_result (back.Aborted smid found) f = refl
                no_result (back.Cleared smid count) f = refl
                no_result (back.Plugged address plug expander phy) f = refl
                no_result (back.Unplugged address plug expander phy) f = refl
                no_result back.Discovered f = refl
                no_result (back.Linked n) f = refl

                no_gone : (x : Back) → is_calm x ≡ true → Rattle.mpt_rules.specs.World.FabricCounts.is_gone_of t x ≡ false
                no_gone back.Calm f = refl
                no_gone (back.Result tag r) f = refl
                no_gone (back.Gone tag) f = absurd (cc)
                no_gone (back.Terminated tag) f = refl
                no_gone (back.Aborted smid found) f = refl
                no_gone (back.Cleared smid count) f = refl
                no_gone (back.Plugged address plug expander phy) f = refl
                no_gone (back.Unplugged address plug expander phy) f = refl
                no_gone back.Discovered f = refl
                no_gone (back.Linked n) f = refl

                no_end : (x : Back) → is_calm x ≡ true → Rattle.mpt_rules.specs.World.FabricCounts.is_termination_of t x ≡ false
                no_end back.Calm f = refl
                no_end (back.Result tag r) f = refl
                no_end (back.Gone tag) f = refl
                no_end (back.Terminated tag) f = absurd (cc)
                no_end (back.Aborted smid found) f = refl
                no_end (back.Cleared smid count) f = refl
                no_end (back.Plugged address plug expander phy) f = refl
                no_end (back.Unplugged address plug expander phy) f = refl
                no_end back.Discovered f = refl
                no_end (back.Linked n) f = refl

    -- behind a work step, over the fields that move
    abbrev Work : Bool → ℕ → List Out → Type 0
    Work enabled n o = FabricStands true false enabled n w.fabric.on w.fabric.tasks w.fabric.notices (w.out ++ o) (back_line w)

    now : Work w.ioc.enabled (how_many is_port_enable w.ioc.requests) w.ioc.out
    now = let z = no_reset in subst (λ c. FabricStands c false w.ioc.enabled (how_many is_port_enable w.ioc.requests) w.fabric.on w.fabric.tasks w.fabric.notices (out_line w) (back_line w)) live (subst (λ c. FabricStands (is_live w) c w.ioc.enabled (how_many is_port_enable w.ioc.requests) w.fabric.on w.fabric.tasks w.fabric.notices (out_line w) (back_line w)) z s)

    -- an order
    ordered : (x : Out) (n : ℕ) → is_discover x ≡ false → n ≡ how_many is_port_enable w.ioc.requests → w.fabric.on ≡ true → Work w.ioc.enabled n (w.ioc.out ++ x ∷ [])
    ordered x n d e o =
        let a = asked_by_on o in
        let g = append_assoc w.out w.ioc.out (x ∷ []) in
        let c0 : one_if (is_discover x) ≡ 0 = ap one_if d in
        let c = one_more is_discover (out_line w) x in
        let a1 = a.1 in
        let z : how_many is_discover (w.out ++ (w.ioc.out ++ x ∷ [])) ≡ 0 = ap (how_many is_discover) (sym g) ∙ omega (arith, c, c0, a1) in
        let on1 = now.one refl in let am = now.at_most in
        rw e
        (record {
          dark = λ y. absurd (lit w.ioc.enabled (how_many is_discover (w.out ++ (w.ioc.out ++ x ∷ [])) == 0) a.0 (ap (λ m. m == 0) z) y);
          lit = λ y u. o;
          orders = λ y. (o, z);
          one = λ y. omega (arith, on1, z, a1);
          at_most = omega (arith, am, z, a1);
          asked = λ y. a.0;
        })
      where
        lit : (e z : Bool) → e ≡ true → z ≡ true → (false || (true && not (e && z))) ≡ true → ⊥
        lit true true f y q = cc
        lit true false f y q = cc
        lit false z f y q = cc

    -- the question for disks
    questioned : (requests : List (Option AtFabric)) → w.ioc.enabled ≡ false → how_many is_port_enable requests ≡ how_many is_port_enable w.ioc.requests + 1 → Work true (how_many is_port_enable requests) (w.ioc.out ++ out.Discover ∷ [])
    questioned requests e m =
        let dk = s.dark (dark_then (is_live w) (is_reset (state_of w.ioc)) w.ioc.enabled (how_many is_discover (out_line w) == 0) live e) in
        let g = append_assoc w.out w.ioc.out (out.Discover ∷ []) in
        let c = one_more is_discover (out_line w) out.Discover in
        let o = one_more is_order (out_line w) out.Discover in
        let t = other_more is_discover_or_stop (out_line w) out.Discover in
        let z = dark_orders (out_line w) dk in let y = dark_answers (back_line w) dk in let od = dk.only_discover in
        let nt : length w.fabric.tasks ≡ 0 = ap length dk.no_tasks in
        let n1 = now.one refl in
        let n0 : how_many is_port_enable w.ioc.requests ≡ 0 = none_by (how_many is_port_enable w.ioc.requests) refl in
        let dd : how_many is_discover (w.out ++ (w.ioc.out ++ out.Discover ∷ [])) ≡ 1 = ap (how_many is_discover) (sym g) ∙ omega (arith, c, n1, n0, y) in
        let oo : how_many is_order (w.out ++ (w.ioc.out ++ out.Discover ∷ [])) ≡ 0 = ap (how_many is_order) (sym g) ∙ omega (arith, o, z) in
        let tt0 : others is_discover_or_stop (w.out ++ (w.ioc.out ++ out.Discover ∷ [])) ≡ 0 = ap (others is_discover_or_stop) (sym g) ∙ omega (arith, t, od) in
        record {
          dark = λ q. record { off = dk.off; no_tasks = dk.no_tasks; no_notices = dk.no_notices; only_calm = dk.only_calm; only_discover = tt0 };
          lit = λ q u. absurd (false_true (how_many is_discover (w.out ++ (w.ioc.out ++ out.Discover ∷ [])) == 0) (nonzero (how_many is_discover (w.out ++ (w.ioc.out ++ out.Discover ∷ []))) (omega (arith, dd))) u);
          orders = λ q. absurd (omega (arith, q, oo, nt));
          one = λ q. omega (arith, dd, y, m, n0);
          at_most = omega (arith, dd, y);
          asked = λ q. refl;
        }
      where
        dark_then : (a c y z : Bool) → a ≡ true → y ≡ false → ((not a && not c) || (a && not (y && z))) ≡ true
        dark_then true c false z e f = refl
        dark_then true c true z e f = absurd (cc)
        dark_then false c y z e f = absurd (cc)

        none_by : (m : ℕ) → how_many is_port_enable w.ioc.requests ≡ m → how_many is_port_enable w.ioc.requests ≡ 0
        none_by zero q = q
        none_by (suc m) q = absurd (false_true w.ioc.enabled e (s.asked (omega (arith, q))))

    module _ (i : Ioc) (out_is : i.out ≡ w.ioc.out) (enabled_is : i.enabled ≡ w.ioc.enabled) (requests_is : i.requests ≡ w.ioc.requests) (bindings_is : i.bindings ≡ w.ioc.bindings) (p : Post) (fr : IsFront w h b.facts p) where
      abbrev Worked : Happening Ioc → Type 0
      Worked o = Work o.part.enabled (how_many is_port_enable o.part.requests) o.part.out

      quiet : (j : Ioc) → Alike i j → Work j.enabled (how_many is_port_enable j.requests) j.out
      quiet j a =
          let e = a.enabled_is ∙ enabled_is in let o = a.out_is ∙ out_is in let r = ap (how_many is_port_enable) (a.requests_is ∙ requests_is) in
          rw (e, o, r) now

      to : (o x : Happening Ioc) → o ≡ x → Worked x → Worked o
      to o x e s = subst Worked (sym e) s

      still : (o x : Happening Ioc) → o ≡ x → Alike i x.part → Worked o
      still o x e a = to o x e (quiet x.part a)

      same : (j : Ioc) → j.out ≡ i.out → j.enabled ≡ i.enabled → j.requests ≡ i.requests → Alike i j
      same j a c d = record { out_is = a; enabled_is = c; requests_is = d }

      free : get_or w.ioc.requests (smid_in p.descriptor - 1) None ≡ None
      free = place_none w.ioc (smid_in p.descriptor) fr.least fr.nothing

      kept_requests : (r : AtFabric) → is_port_enable (Some r) ≡ false → how_many is_port_enable (set i.requests (smid_in p.descriptor - 1) (Some r)) ≡ how_many is_port_enable w.ioc.requests
      kept_requests r n = ap (λ xs. how_many is_port_enable (set xs (smid_in p.descriptor - 1) (Some r))) requests_is ∙ kept_count w.ioc.requests (smid_in p.descriptor - 1) (Some r) n (ap is_port_enable free)

      order : (x : Out) (r : AtFabric) → is_discover x ≡ false → is_port_enable (Some r) ≡ false → w.fabric.on ≡ true → Work i.enabled (how_many is_port_enable (set i.requests (smid_in p.descriptor - 1) (Some r))) (i.out ++ x ∷ [])
      order x r d n o =
          let y = ordered x (how_many is_port_enable (set i.requests (smid_in p.descriptor - 1) (Some r))) d (kept_requests r n) o in
          let e = enabled_is in let u = out_is in rw (e, u) y

      on_present : (handle address plug expander phy : ℕ) → table.binding_of i handle ≡ binding.Present address plug expander phy → w.fabric.on ≡ true
      on_present handle address plug expander phy e =
          on_by_binding handle (sym (ap (λ bs. table.is_unbound (if Rattle.std.proofs.Common.nat_le table.first_handle handle then get_or bs (handle - table.first_handle) binding.Unbound else binding.Unbound)) bindings_is) ∙ ap table.is_unbound e)

      on_aborted : (handle t : ℕ) → table.is_command_of handle (request_at i t) ≡ true → w.fabric.on ≡ true
      on_aborted handle t e = on_by_command t (ap (λ rs. Rattle.law_facts.specs.Words.is_command (table.request_at (record w.ioc { requests = rs }) t)) (sym requests_is) ∙ by_it (request_at (record w.ioc { requests = i.requests }) t) (at_same t e))
        where
          at_same : (t : ℕ) → table.is_command_of handle (request_at i t) ≡ true → table.is_command_of handle (request_at (record w.ioc { requests = i.requests }) t) ≡ true
          at_same zero e = e
          at_same (suc n) e = e

          by_it : (o : Option AtFabric) → table.is_command_of handle o ≡ true → Rattle.law_facts.specs.Words.is_command o ≡ true
          by_it (Some (at.Command g queue len written)) e = refl
          by_it (Some (at.Abort g)) e = absurd (cc)
          by_it (Some (at.TargetReset g)) e = absurd (cc)
          by_it (Some at.PortEnable) e = absurd (cc)
          by_it None e = absurd (cc)

      enables : i.enabled ≡ false → Work true (how_many is_port_enable (set i.requests (smid_in p.descriptor - 1) (Some at.PortEnable))) (i.out ++ out.Discover ∷ [])
      enables e =
          let l = b.facts.flights.sizes.requests in let lo = fr.least in let hi = fr.most in
          let c = count_set is_port_enable w.ioc.requests (smid_in p.descriptor - 1) (Some at.PortEnable) None (omega (arith, l, lo, hi)) in
          let z : one_if (is_port_enable (get_or w.ioc.requests (smid_in p.descriptor - 1) None)) ≡ 0 = ap (λ o. one_if (is_port_enable o)) free in
          let q = questioned (set w.ioc.requests (smid_in p.descriptor - 1) (Some at.PortEnable)) (sym enabled_is ∙ e) (omega (arith, c, z)) in
          let r = requests_is in let u = out_is in rw (r, u) q

      pub works : (o : Happening Ioc) → Works i p o → Worked o
      works o (Dropped q e) = still o (table.silently i) e (alike i)
      works o (Refuses q f d r e) = still o _ e (same _ refl refl refl)
      works o (ScsiEnds status q c e) = still o _ e (same _ refl refl refl)
      works o (ScsiSends address plug expander phy q c bd e) = to o _ e (order (out.Task (smid_in p.descriptor) address (commands.command_in p.frame p.payload)) _ refl refl (on_present (dev_handle_in p.frame) address plug expander phy bd))
      works o (Stops stop q f e) = still o _ e (same _ refl refl refl)
      works o (AbortSends q f t e) = to o _ e (order (out.Abort (smid_in p.descriptor) (task_mid_in p.frame)) (at.Abort (dev_handle_in p.frame)) refl refl (on_aborted (dev_handle_in p.frame) (task_mid_in p.frame) t))
      works o (AbortEnds q f t e) = still o _ e (same _ refl refl refl)
      works o (ResetSends address plug expander phy q bd e) = to o _ e (order (out.TargetReset (smid_in p.descriptor) address) (at.TargetReset (dev_handle_in p.frame)) refl refl (on_present (dev_handle_in p.frame) address plug expander phy bd))
      works o (ResetHolds address q bd t e) = still o _ e (same _ refl refl refl)
      works o (ResetEnds status q e) = still o _ e (same _ refl refl refl)
      works o (TaskFails q e) = still o _ e (same _ refl refl refl)
      works o (PageEnds status q e) = still o _ e (same _ refl refl refl)
      works o (PageGiven page q y e) = still o _ e (same _ refl refl refl)
      works o (Enables q n e) = to o _ e (enables n)
      works o (Notifies q e) = still o _ e (same _ refl refl refl)
      works o (Acks q t e) = still o _ e (same _ refl refl refl)
      works o (EndsPlainly f status q e) = still o _ e (same _ refl refl refl)
      works o (RemovalEnds status q e) = still o _ e (same _ refl refl refl)
      works o (Removes address q f bd c e) =
          still o _ e (alike_first i (ask.ioc_ends_removal (table.with_binding i (Rattle.mpt_wire.specs.Messages.Fields.controlled_handle_in p.frame) binding.Unbound) p Rattle.mpt_rules.specs.declared.status.TheConstants.IOC_STATUS_SUCCESS) i.waiting (same _ refl refl refl))
      works o (Strays q r e) = still o _ e (alike i)

    pub at_work : (j : Ioc) → j.door ≡ w.ioc.door → Work j.enabled (how_many is_port_enable j.requests) j.out → In j (back_line w)
    at_work j d y =
        let a : is_operational (state_of j) ≡ true = ap (λ r. is_operational r.state) d ∙ live in
        let c : is_reset (state_of j) ≡ false = ap (λ r. is_reset r.state) d ∙ no_reset in
        rw (a, c) y

  live_by_post : (xs : List Post) (x : Post) (rest : List Post) → xs ≡ x ∷ rest → (is_bare (state_of w.ioc) ≡ true → xs ≡ []) → is_live w ≡ true
  live_by_post xs x rest e f = by_live (is_live w) refl
    where
      by_live : (c : Bool) → is_live w ≡ c → c ≡ true
      by_live true v = refl
      by_live false v = let c = f (ready_live (state_of w.ioc) k.phase_table.whole v) in absurd (cc)

  high : (p : Post) (rest : List Post) → w.ioc.high ≡ p ∷ rest → In (step.works_on (record w.ioc { high = rest }) p).part (back_line w)
  high p rest e =
      let v = live_by_post w.ioc.high p rest e (λ c. (k.tables_empty c).high) in
      at_work v (step.works_on (record w.ioc { high = rest }) p).part (phase.high_words w h b p rest).door_is
      (works v (record w.ioc { high = rest }) refl refl refl refl p (front_high w h b.facts p rest e) (step.works_on (record w.ioc { high = rest }) p) (works_leaf (record w.ioc { high = rest }) p))

  normal : (p : Post) (rest : List Post) → w.ioc.normal ≡ p ∷ rest → In (step.works_on (record w.ioc { normal = rest }) p).part (back_line w)
  normal p rest e =
      let v = live_by_post w.ioc.normal p rest e (λ c. (k.tables_empty c).normal) in
      at_work v (step.works_on (record w.ioc { normal = rest }) p).part (phase.normal_words w h b p rest).door_is
      (works v (record w.ioc { normal = rest }) refl refl refl refl p (front_normal w h b.facts p rest e) (step.works_on (record w.ioc { normal = rest }) p) (works_leaf (record w.ioc { normal = rest }) p))

  -- ---- an item of the fabric

  -- the line back without its front
  back_of : (x : Back) (rest : List Back) → w.back ≡ x ∷ rest → back_line w ≡ x ∷ (rest ++ w.fabric.out)
  back_of x rest e = ap (λ xs. xs ++ w.fabric.out) e

  passed : (x : Back) (rest : List Back) → w.back ≡ x ∷ rest → is_discovered x ≡ false → FabricStands (is_live w) (is_reset (state_of w.ioc)) w.ioc.enabled (how_many is_port_enable w.ioc.requests) w.fabric.on w.fabric.tasks w.fabric.notices (out_line w) (rest ++ w.fabric.out)
  passed x rest e n =
      let g = back_of x rest e in
      let c = how_many-cons is_discovered x (rest ++ w.fabric.out) in let c0 : one_if (is_discovered x) ≡ 0 = ap one_if n in let a = ap (how_many is_discovered) g in
      let o = others-cons is_calm x (rest ++ w.fabric.out) in let oa = ap (others is_calm) g in
      moved (is_live w) (is_reset (state_of w.ioc)) w.ioc.enabled (how_many is_port_enable w.ioc.requests) w.fabric.on w.fabric.tasks w.fabric.tasks w.fabric.notices w.fabric.notices (out_line w) (out_line w) (back_line w) (rest ++ w.fabric.out)
      refl (omega (arith, c, c0, a)) (λ y. y) (λ m. let z = m.only_calm in record { off = m.off; no_tasks = m.no_tasks; no_notices = m.no_notices; only_calm = omega (arith, z, o, oa); only_discover = m.only_discover }) s

  -- of a controller in the same state
  behind_back : (i : Ioc) (rest : List Back) → state_of i ≡ state_of w.ioc → Ended w.ioc i → FabricStands (is_live w) (is_reset (state_of w.ioc)) w.ioc.enabled (how_many is_port_enable w.ioc.requests) w.fabric.on w.fabric.tasks w.fabric.notices (out_line w) (rest ++ w.fabric.out) → In i (rest ++ w.fabric.out)
  behind_back i rest st d y =
      let a = ap is_operational st in let c = ap is_reset st in let e = d.enabled_is in let r = d.requests_are in let o = d.out_is in
      rw (a, c, e, r, o) y

  -- the state stays, but for a link that is taken
  state_stays : (x : Back) (o : Happening Ioc) → Rattle.law_moves.proofs.IocSpeaks.News Rattle.law_moves.proofs.IocSpeaks.never_out w.ioc x o → is_linked x ≡ false → state_of o.part ≡ state_of w.ioc
  state_stays x o (Rattle.law_moves.proofs.IocSpeaks.Speaks l q) n = ap (λ d. d.state) q.door_is
  state_stays x o (Rattle.law_moves.proofs.IocSpeaks.Unlinked g i z e) n = ap (λ (y : Happening Ioc). state_of y.part) e
  state_stays x o (Rattle.law_moves.proofs.IocSpeaks.LinkedUp g i z r e) n = absurd (false_true (is_linked x) n (ap is_linked i))
  state_stays x o (Rattle.law_moves.proofs.IocSpeaks.CalmTold i e) n = ap (λ (y : Happening Ioc). state_of y.part) e

  nw : (x : Back) → Rattle.law_moves.proofs.IocSpeaks.News Rattle.law_moves.proofs.IocSpeaks.never_out w.ioc x (adapter.takes_back w.ioc x)
  nw x = Rattle.law_moves.proofs.IocSpeaks.news Rattle.law_moves.proofs.IocSpeaks.never_out w.ioc x

  -- the end of a discovery
  discovered : (rest : List Back) → w.back ≡ back.Discovered ∷ rest → In (adapter.takes_back w.ioc back.Discovered).part (rest ++ w.fabric.out)
  discovered rest e = by_live (is_live w) refl
    where
      g : back_line w ≡ back.Discovered ∷ (rest ++ w.fabric.out)
      g = back_of back.Discovered rest e

      many : how_many is_discovered (back_line w) ≡ 1 + how_many is_discovered (rest ++ w.fabric.out)
      many = ap (how_many is_discovered) g ∙ how_many-cons is_discovered back.Discovered (rest ++ w.fabric.out)

      fewer_calm : others is_calm (back_line w) ≡ 0 → ⊥
      fewer_calm z = let o = others-cons is_calm back.Discovered (rest ++ w.fabric.out) in let oa = ap (others is_calm) g in absurd (omega (arith, z, o, oa))

      -- with n port enables left
      left : (n : ℕ) → (is_reset (state_of w.ioc) ≡ false → n + 1 ≡ how_many is_port_enable w.ioc.requests) → (1 ≤ n → w.ioc.enabled ≡ true) → FabricStands (is_live w) (is_reset (state_of w.ioc)) w.ioc.enabled n w.fabric.on w.fabric.tasks w.fabric.notices (out_line w) (rest ++ w.fabric.out)
      left n m af =
          let mm = many in let am = s.at_most in
          record {
            dark = λ y. absurd (fewer_calm (s.dark y).only_calm);
            lit = s.lit;
            orders = s.orders;
            one = λ y. let t = s.one y in let u = m y in omega (arith, t, u, mm);
            at_most = omega (arith, am, mm);
            asked = af;
          }

      by_place : is_live w ≡ true → (o : Option ℕ) → position is_port_enable w.ioc.requests ≡ o → In (from_back.takes_discovered w.ioc o) (rest ++ w.fabric.out)
      by_place v None p =
          let z = none_enable w.ioc.requests p in
          let t = s.one (is_operational_state (state_of w.ioc) v) in let mm = many in
          absurd (omega (arith, z, t, mm))
      by_place v (Some j) p =
          let fe = position-Some is_port_enable w.ioc.requests j None p in
          let l : j + 1 - 1 ≡ j = omega arith in
          let c = count_set is_port_enable w.ioc.requests j None None fe.0 in
          let i1 : one_if (is_port_enable (get_or w.ioc.requests j None)) ≡ 1 = ap one_if fe.1 in
          let st : how_many is_port_enable (set w.ioc.requests (j + 1 - 1) None) ≡ how_many is_port_enable (set w.ioc.requests j None) = ap (λ m. how_many is_port_enable (set w.ioc.requests m None)) l in
          left (how_many is_port_enable (set w.ioc.requests (j + 1 - 1) None)) (λ y. omega (arith, c, i1, st)) (λ y. s.asked (omega (arith, c, i1)))

      unheard : is_live w ≡ false → In w.ioc (rest ++ w.fabric.out)
      unheard v = by_reset (is_reset (state_of w.ioc)) refl
        where
          dark_then : (a c y : Bool) → a ≡ false → c ≡ false → ((not a && not c) || (a && not y)) ≡ true
          dark_then false false y e f = refl
          dark_then true c y e f = absurd (cc)
          dark_then false true y e f = absurd (cc)

          by_reset : (c : Bool) → is_reset (state_of w.ioc) ≡ c → In w.ioc (rest ++ w.fabric.out)
          by_reset false r = absurd (fewer_calm (s.dark (dark_then (is_live w) (is_reset (state_of w.ioc)) (has_asked_of w.ioc.enabled (out_line w)) v r)).only_calm)
          by_reset true r = left (how_many is_port_enable w.ioc.requests) (λ y. absurd (false_true (is_reset (state_of w.ioc)) y r)) s.asked

      by_live : (c : Bool) → is_live w ≡ c → In (if c then from_back.hears w.ioc back.Discovered else table.silently w.ioc).part (rest ++ w.fabric.out)
      by_live true v = by_place v (position is_port_enable w.ioc.requests) refl
      by_live false v = unheard v

  -- a link: the controller is READY, and all is dark
  linked : (g : ℕ) (rest : List Back) → w.back ≡ back.Linked g ∷ rest → In (adapter.takes_back w.ioc (back.Linked g)).part (rest ++ w.fabric.out)
  linked g rest e = by_news (adapter.takes_back w.ioc (back.Linked g)) (nw (back.Linked g))
    where
      lk : Rattle.law_clock.proofs.LinkKept.LinkStands (state_of w.ioc) w.ioc.generation (out_line w) (back_line w) w.fabric.on w.fabric.tasks w.fabric.notices
      lk = link_of_world w (phased_of w k.phase_table) k.one_link

      gb : back_line w ≡ back.Linked g ∷ (rest ++ w.fabric.out)
      gb = back_of (back.Linked g) rest e

      here : how_many is_linked (back_line w) ≡ 1 + how_many is_linked (rest ++ w.fabric.out)
      here = ap (how_many is_linked) gb ∙ how_many-cons is_linked (back.Linked g) (rest ++ w.fabric.out)

      le_one : (c : Bool) → one_if c ≤ 1
      le_one true = omega arith
      le_one false = omega arith

      calm_rest : others is_calm (rest ++ w.fabric.out) ≡ 0
      calm_rest = others-is is_calm (rest ++ w.fabric.out) ∙ Rattle.law_moves.proofs.Counted.later-opened is_linked (λ x. not (is_calm x)) (back.Linked g) (rest ++ w.fabric.out) refl (sym (ap (Rattle.law_moves.proofs.Counted.later is_linked (λ x. not (is_calm x))) gb) ∙ lk.behind_linked)

      clean : Rattle.law_clock.proofs.LinkKept.Clean w.fabric.on w.fabric.tasks w.fabric.notices (out_line w)
      clean = lk.linked (let o = lk.one in let y = here in let l = le_one (is_reset (state_of w.ioc)) in omega (arith, o, y, l))

      only_stop : others is_stop (out_line w) ≡ 0
      only_stop = others-is is_stop (out_line w) ∙ clean.only_stop

      stop_some : (x : Out) → is_stop x ≡ true → is_discover_or_stop x ≡ true
      stop_some out.Stop f = refl
      stop_some out.Discover f = absurd (cc)
      stop_some (out.Link n) f = absurd (cc)
      stop_some (out.Task tag address command) f = absurd (cc)
      stop_some (out.Abort smid task) f = absurd (cc)
      stop_some (out.TargetReset smid address) f = absurd (cc)

      stop_no_discover : (x : Out) → is_stop x ≡ true → is_discover x ≡ false
      stop_no_discover out.Stop f = refl
      stop_no_discover out.Discover f = absurd (cc)
      stop_no_discover (out.Link n) f = refl
      stop_no_discover (out.Task tag address command) f = refl
      stop_no_discover (out.Abort smid task) f = refl
      stop_no_discover (out.TargetReset smid address) f = refl

      dk : Dark w.fabric.on w.fabric.tasks w.fabric.notices (out_line w) (rest ++ w.fabric.out)
      dk = record { off = clean.off; no_tasks = clean.no_tasks; no_notices = clean.no_notices; only_calm = calm_rest; only_discover = all_pass is_stop is_discover_or_stop stop_some (out_line w) only_stop }

      ready : is_reset (state_of w.ioc) ≡ true → (i : Ioc) → state_of i ≡ ioc_state.Ready → i.enabled ≡ w.ioc.enabled → i.requests ≡ w.ioc.requests → i.out ≡ w.ioc.out → In i (rest ++ w.fabric.out)
      ready r i st en rq ou =
          let none = none_passes is_stop is_discover stop_no_discover (out_line w) only_stop in
          let da = dark_answers (rest ++ w.fabric.out) dk in
          let no = dark_orders (out_line w) dk in
          let nt : length w.fabric.tasks ≡ 0 = ap length clean.no_tasks in
          let te = k.tables_empty (reset_bare (state_of w.ioc) r) in
          let rs = te.requests in
          let ne = fewer_pass is_port_enable is_some enable_some w.ioc.requests in
          let lv : is_operational (state_of i) ≡ false = ap is_operational st in let rr : is_reset (state_of i) ≡ false = ap is_reset st in let rn = ap (how_many is_port_enable) rq in
          rw (lv, rr, en, rn, ou)
          (record {
            dark = λ y. dk;
            lit = λ l y. absurd (cc);
            orders = λ l. absurd (omega (arith, l, nt, no));
            one = λ y. omega (arith, none, da, rs, ne);
            at_most = omega (arith, none, da);
            asked = s.asked;
          })
        where
          reset_bare : (c : IocState) → is_reset c ≡ true → is_bare c ≡ true
          reset_bare ioc_state.Reset f = refl
          reset_bare ioc_state.Ready f = absurd (cc)
          reset_bare ioc_state.Operational f = absurd (cc)
          reset_bare (ioc_state.Fault code) f = absurd (cc)

          enable_some : (o : Option AtFabric) → is_port_enable o ≡ true → is_some o ≡ true
          enable_some (Some at.PortEnable) f = refl
          enable_some (Some (at.Command a c d n)) f = absurd (cc)
          enable_some (Some (at.Abort a)) f = absurd (cc)
          enable_some (Some (at.TargetReset a)) f = absurd (cc)
          enable_some None f = absurd (cc)

      by_news : (o : Happening Ioc) → Rattle.law_moves.proofs.IocSpeaks.News Rattle.law_moves.proofs.IocSpeaks.never_out w.ioc (back.Linked g) o → In o.part (rest ++ w.fabric.out)
      by_news o (Rattle.law_moves.proofs.IocSpeaks.Speaks l q) = absurd (cc)
      by_news o (Rattle.law_moves.proofs.IocSpeaks.Unlinked m i z f) = subst (λ (y : Happening Ioc). In y.part (rest ++ w.fabric.out)) (sym f) (passed (back.Linked g) rest e refl)
      by_news o (Rattle.law_moves.proofs.IocSpeaks.LinkedUp m i z r f) =
          subst (λ (y : Happening Ioc). In y.part (rest ++ w.fabric.out)) (sym f) (ready r (record w.ioc { door = Rattle.mpi_doorbell.specs.DoorRegisters.linked_up w.ioc.door }) (linked_is w.ioc.door b.facts.doorbell.sound.hold) refl refl refl)
      by_news o (Rattle.law_moves.proofs.IocSpeaks.CalmTold i f) = absurd (not_calm i)
        where
          not_calm : back.Linked g ≡ back.Calm → ⊥
          not_calm i = cc

  back_taken : (x : Back) (rest : List Back) → w.back ≡ x ∷ rest → In (adapter.takes_back w.ioc x).part (rest ++ w.fabric.out)
  back_taken back.Discovered rest e = discovered rest e
  back_taken (back.Linked g) rest e = linked g rest e
  back_taken back.Calm rest e = behind_back (adapter.takes_back w.ioc back.Calm).part rest (state_stays back.Calm _ (nw back.Calm) refl) (taken_back w.ioc back.Calm refl) (passed back.Calm rest e refl)
  back_taken (back.Result s r) rest e = behind_back (adapter.takes_back w.ioc (back.Result s r)).part rest (state_stays (back.Result s r) _ (nw (back.Result s r)) refl) (taken_back w.ioc (back.Result s r) refl) (passed (back.Result s r) rest e refl)
  back_taken (back.Gone s) rest e = behind_back (adapter.takes_back w.ioc (back.Gone s)).part rest (state_stays (back.Gone s) _ (nw (back.Gone s)) refl) (taken_back w.ioc (back.Gone s) refl) (passed (back.Gone s) rest e refl)
  back_taken (back.Terminated s) rest e = behind_back (adapter.takes_back w.ioc (back.Terminated s)).part rest (state_stays (back.Terminated s) _ (nw (back.Terminated s)) refl) (taken_back w.ioc (back.Terminated s) refl) (passed (back.Terminated s) rest e refl)
  back_taken (back.Aborted s found) rest e = behind_back (adapter.takes_back w.ioc (back.Aborted s found)).part rest (state_stays (back.Aborted s found) _ (nw (back.Aborted s found)) refl) (taken_back w.ioc (back.Aborted s found) refl) (passed (back.Aborted s found) rest e refl)
  back_taken (back.Cleared s count) rest e = behind_back (adapter.takes_back w.ioc (back.Cleared s count)).part rest (state_stays (back.Cleared s count) _ (nw (back.Cleared s count)) refl) (taken_back w.ioc (back.Cleared s count) refl) (passed (back.Cleared s count) rest e refl)
  back_taken (back.Plugged a p x y) rest e = behind_back (adapter.takes_back w.ioc (back.Plugged a p x y)).part rest (state_stays (back.Plugged a p x y) _ (nw (back.Plugged a p x y)) refl) (taken_back w.ioc (back.Plugged a p x y) refl) (passed (back.Plugged a p x y) rest e refl)
  back_taken (back.Unplugged a p x y) rest e = behind_back (adapter.takes_back w.ioc (back.Unplugged a p x y)).part rest (state_stays (back.Unplugged a p x y) _ (nw (back.Unplugged a p x y)) refl) (taken_back w.ioc (back.Unplugged a p x y) refl) (passed (back.Unplugged a p x y) rest e refl)

  -- ---- the fabric

  abbrev At : Fabric → List Out → List Back → Type 0
  At g o bk = FabricStands (is_live w) (is_reset (state_of w.ioc)) w.ioc.enabled (how_many is_port_enable w.ioc.requests) g.on g.tasks g.notices (o ++ w.ioc.out) (bk ++ g.out)

  out_of : (x : Out) (rest : List Out) → w.out ≡ x ∷ rest → FabricStands (is_live w) (is_reset (state_of w.ioc)) w.ioc.enabled (how_many is_port_enable w.ioc.requests) w.fabric.on w.fabric.tasks w.fabric.notices (x ∷ (rest ++ w.ioc.out)) (back_line w)
  out_of x rest e = subst (λ xs. FabricStands (is_live w) (is_reset (state_of w.ioc)) w.ioc.enabled (how_many is_port_enable w.ioc.requests) w.fabric.on w.fabric.tasks w.fabric.notices (xs ++ w.ioc.out) (back_line w)) e s

  live_reset : is_live w ≡ true → is_reset (state_of w.ioc) ≡ false
  live_reset v = is_operational_state (state_of w.ioc) v

  -- the question that is taken: the port was enabled
  question : (rest : List Out) → w.out ≡ out.Discover ∷ rest → is_reset (state_of w.ioc) ≡ false → (w.ioc.enabled ≡ true) × (is_live w ≡ true)
  question rest e r =
      let o = s.one r in
      let a = ap (λ xs. how_many is_discover (xs ++ w.ioc.out)) e in let c = how_many-cons is_discover out.Discover (rest ++ w.ioc.out) in
      let one1 : 1 ≤ how_many is_port_enable w.ioc.requests = omega (arith, o, a, c) in
      (s.asked one1, by_live (is_live w) refl one1)
    where
      enable_some : (o : Option AtFabric) → is_port_enable o ≡ true → is_some o ≡ true
      enable_some (Some at.PortEnable) f = refl
      enable_some (Some (at.Command a c d n)) f = absurd (cc)
      enable_some (Some (at.Abort a)) f = absurd (cc)
      enable_some (Some (at.TargetReset a)) f = absurd (cc)
      enable_some None f = absurd (cc)

      by_live : (c : Bool) → is_live w ≡ c → 1 ≤ how_many is_port_enable w.ioc.requests → c ≡ true
      by_live true v l = refl
      by_live false v l = let z = (k.tables_empty (ready_live (state_of w.ioc) k.phase_table.whole v)).requests in let y = fewer_pass is_port_enable is_some enable_some w.ioc.requests in absurd (omega (arith, z, y, l))

  link_reset : (g : ℕ) (rest : List Out) → w.out ≡ out.Link g ∷ rest → (is_reset (state_of w.ioc) ≡ true) × (others is_stop (rest ++ w.ioc.out) ≡ 0)
  link_reset g rest e =
      let lk = link_of_world w (phased_of w k.phase_table) k.one_link in
      let f : out_line w ≡ out.Link g ∷ (rest ++ w.ioc.out) = ap (λ xs. xs ++ w.ioc.out) e in
      let a = ap (how_many is_link) f in let c = how_many-cons is_link (out.Link g) (rest ++ w.ioc.out) in let o = lk.one in (
        Rattle.law_moves.proofs.Counted.true_by_one (is_reset (state_of w.ioc)) (omega (arith, a, c, o)),
        others-is is_stop (rest ++ w.ioc.out) ∙ Rattle.law_moves.proofs.Counted.later-opened is_link (λ x. not (is_stop x)) (out.Link g) (rest ++ w.ioc.out) refl (sym (ap (Rattle.law_moves.proofs.Counted.later is_link (λ x. not (is_stop x))) f) ∙ lk.behind_link),
      )

  reset_live : is_reset (state_of w.ioc) ≡ true → is_live w ≡ false
  reset_live r = by_state (state_of w.ioc) r
    where
      by_state : (c : IocState) → is_reset c ≡ true → is_operational c ≡ false
      by_state ioc_state.Reset f = refl
      by_state ioc_state.Ready f = refl
      by_state ioc_state.Operational f = absurd (cc)
      by_state (ioc_state.Fault code) f = refl

  fabric_takes : (x : Out) (rest : List Out) → w.out ≡ x ∷ rest → At (fab.takes_out w.fabric x) rest w.back
  fabric_takes (out.Task tag address command) rest e = takes_order (is_live w) (is_reset (state_of w.ioc)) w.ioc.enabled (how_many is_port_enable w.ioc.requests) w.back w.fabric (rest ++ w.ioc.out) (out.Task tag address command) refl refl refl (out_of (out.Task tag address command) rest e)
  fabric_takes (out.Abort smid task) rest e = takes_order (is_live w) (is_reset (state_of w.ioc)) w.ioc.enabled (how_many is_port_enable w.ioc.requests) w.back w.fabric (rest ++ w.ioc.out) (out.Abort smid task) refl refl refl (out_of (out.Abort smid task) rest e)
  fabric_takes (out.TargetReset smid address) rest e = takes_order (is_live w) (is_reset (state_of w.ioc)) w.ioc.enabled (how_many is_port_enable w.ioc.requests) w.back w.fabric (rest ++ w.ioc.out) (out.TargetReset smid address) refl refl refl (out_of (out.TargetReset smid address) rest e)
  fabric_takes out.Discover rest e =
      takes_discover (is_live w) (is_reset (state_of w.ioc)) w.ioc.enabled (how_many is_port_enable w.ioc.requests) w.back w.fabric (rest ++ w.ioc.out) (λ r. (question rest e r).0) (λ r. (question rest e r).1) live_reset (out_of out.Discover rest e)
  fabric_takes (out.Link g) rest e =
      let t = link_reset g rest e in
      takes_link (is_live w) (is_reset (state_of w.ioc)) w.ioc.enabled (how_many is_port_enable w.ioc.requests) w.back w.fabric (rest ++ w.ioc.out) g t.0 (reset_live t.0) t.1 (out_of (out.Link g) rest e)
  fabric_takes out.Stop rest e = takes_stop (is_live w) (is_reset (state_of w.ioc)) w.ioc.enabled (how_many is_port_enable w.ioc.requests) w.back w.fabric (rest ++ w.ioc.out) (out_of out.Stop rest e)

  -- the fabric's lists move while the line out stays
  fabric_moves : (queued_count : List Task) (notices o : List Back) → how_many is_discovered o ≡ how_many is_discovered w.fabric.out → (1 ≤ length queued_count → 1 ≤ length w.fabric.tasks) → (Dark w.fabric.on w.fabric.tasks w.fabric.notices (out_line w) (back_line w) → Dark w.fabric.on queued_count notices (out_line w) (w.back ++ o))
      → FabricStands (is_live w) (is_reset (state_of w.ioc)) w.ioc.enabled (how_many is_port_enable w.ioc.requests) w.fabric.on queued_count notices (out_line w) (w.back ++ o)
  fabric_moves queued_count notices o d l dk =
      let a = how_many-append is_discovered w.back o in let c = how_many-append is_discovered w.back w.fabric.out in
      moved (is_live w) (is_reset (state_of w.ioc)) w.ioc.enabled (how_many is_port_enable w.ioc.requests) w.fabric.on w.fabric.tasks queued_count w.fabric.notices notices (out_line w) (out_line w) (back_line w) (w.back ++ o) refl (omega (arith, a, c, d))
      (λ y. by_length (length queued_count) refl y l) dk s
    where
      by_length : (m : ℕ) → length queued_count ≡ m → 1 ≤ length queued_count + how_many is_order (out_line w) → (1 ≤ length queued_count → 1 ≤ length w.fabric.tasks) → 1 ≤ length w.fabric.tasks + how_many is_order (out_line w)
      by_length zero z y l = omega (arith, z, y)
      by_length (suc m) z y l = let t = l (omega (arith, z)) in omega (arith, t)

  fabric_says : (x : Back) (rest : List Back) → w.fabric.notices ≡ x ∷ rest → At (record w.fabric { notices = rest; out = w.fabric.out ++ x ∷ [] }) w.out w.back
  fabric_says x rest e =
      let n = notice_told x (let z = b.facts.notices.fit.kinds in let a = ap (others is_notice) e in let c = others-cons is_notice x rest in omega (arith, z, a, c)) in
      let o = one_more is_discovered w.fabric.out x in let z : one_if (is_discovered x) ≡ 0 = ap one_if n in
      fabric_moves w.fabric.tasks rest (w.fabric.out ++ x ∷ []) (omega (arith, o, z)) (λ y. y) (λ m. absurd (no_notice (sym m.no_notices ∙ e)))
    where
      no_notice : [] ≡ x ∷ rest → ⊥
      no_notice z = cc

      notice_told : (y : Back) → one_if (not (is_notice y)) ≡ 0 → is_discovered y ≡ false
      notice_told back.Discovered z = absurd (omega (arith, z))
      notice_told (back.Result tag r) z = refl
      notice_told (back.Gone tag) z = refl
      notice_told (back.Terminated tag) z = refl
      notice_told (back.Aborted smid found) z = refl
      notice_told (back.Cleared smid count) z = refl
      notice_told (back.Plugged a p c d) z = refl
      notice_told (back.Unplugged a p c d) z = refl
      notice_told (back.Linked g) z = refl
      notice_told back.Calm z = refl

  calmed : At (fab.calms w.fabric) w.out w.back
  calmed =
      let o = one_more is_discovered w.fabric.out back.Calm in
      let z = other_more is_calm (back_line w) back.Calm in let g = append_assoc w.back w.fabric.out (back.Calm ∷ []) in
      fabric_moves w.fabric.tasks w.fabric.notices (w.fabric.out ++ back.Calm ∷ []) (omega (arith, o)) (λ y. y)
      (λ m. let c = m.only_calm in record { off = m.off; no_tasks = m.no_tasks; no_notices = m.no_notices; only_calm = ap (others is_calm) (sym g) ∙ omega (arith, z, c); only_discover = m.only_discover })

  -- a task runs
  ran : (o : Option Task) (tag : ℕ) → find (tasks.has_tag tag) w.fabric.tasks ≡ o → (address : ℕ) → (tasks.runs_task w.fabric o).answer ≡ Some address → At (tasks.runs_task w.fabric o).part w.out w.back
  ran None tag e address a = absurd (none_some a)
    where
      none_some : None ≡ Some address → ⊥
      none_some z = cc
  ran (Some t) tag e address a =
      let o = one_more is_discovered w.fabric.out (back.Result t.tag (tasks.performed_at w.fabric t.address t.command).result) in
      let l = filter_length (λ (task : Task). not (tasks.has_tag t.tag task)) w.fabric.tasks in
      fabric_moves (tasks.tasks_without t.tag w.fabric.tasks) w.fabric.notices (w.fabric.out ++ back.Result t.tag (tasks.performed_at w.fabric t.address t.command).result ∷ []) (omega (arith, o)) (λ y. omega (arith, y, l))
      (λ m. absurd (no_task (sym (ap (find (tasks.has_tag tag)) m.no_tasks) ∙ e)))
    where
      no_task : None ≡ Some t → ⊥
      no_task z = cc

  -- a plug and an unplug
  same_fabric : At w.fabric w.out w.back
  same_fabric = s

  noticed : (y : Back) (queued_count : List Task) (o : List Back) (disks : List Rattle.mpt_rules.specs.Fabric.Parts.FabricDisk) (on : Bool) → w.fabric.on ≡ on → how_many is_discovered o ≡ how_many is_discovered w.fabric.out → (1 ≤ length queued_count → 1 ≤ length w.fabric.tasks) → (w.fabric.tasks ≡ [] → queued_count ≡ []) → (w.fabric.tasks ≡ [] → o ≡ w.fabric.out)
      → At (fab.with_notice on y (record w.fabric { disks = disks; tasks = queued_count; out = o })) w.out w.back
  noticed y queued_count o disks true e d l t q = fabric_moves queued_count (w.fabric.notices ++ y ∷ []) o d l (λ m. absurd (false_true w.fabric.on m.off e))
  noticed y queued_count o disks false e d l t q = fabric_moves queued_count w.fabric.notices o d l (λ m. record { off = m.off; no_tasks = t m.no_tasks; no_notices = m.no_notices; only_calm = ap (λ xs. others is_calm (w.back ++ xs)) (q m.no_tasks) ∙ m.only_calm; only_discover = m.only_discover })

  after_plug : (address expander phy : ℕ) → At (fab.fabric_plugs w.fabric address expander phy).part w.out w.back
  after_plug address expander phy = by_disk (Rattle.mpt_rules.specs.Fabric.Disks.disk_of w.fabric address)
    where
      by_cause : (o : Option fab.PlugRefusal) (d : Rattle.mpt_rules.specs.Fabric.Parts.FabricDisk) (p : Rattle.mpt_rules.specs.Fabric.Parts.Place) → At (fab.plugs_unless o w.fabric d p).part w.out w.back
      by_cause (Some cause) d p = s
      by_cause None d p = noticed (Rattle.mpt_rules.specs.Fabric.Disks.plugged_news (fab.plugged_once_more p d) p) w.fabric.tasks w.fabric.out (Rattle.mpt_rules.specs.Fabric.Disks.with_disk d.address (fab.plugged_once_more p) w.fabric.disks) w.fabric.on refl refl (λ y. y) (λ y. y) (λ y. refl)

      by_disk : (o : Option Rattle.mpt_rules.specs.Fabric.Parts.FabricDisk) → At (fab.plugs_disk o w.fabric expander phy).part w.out w.back
      by_disk None = s
      by_disk (Some d) = by_cause (fab.plug_refusal w.fabric d expander phy) d (record { expander = expander; phy = phy })

  after_unplug : (address : ℕ) → At (fab.fabric_unplugs w.fabric address).part w.out w.back
  after_unplug address = by_disk (Rattle.mpt_rules.specs.Fabric.Disks.disk_of w.fabric address)
    where
      by_place : (o : Option Rattle.mpt_rules.specs.Fabric.Parts.Place) (d : Rattle.mpt_rules.specs.Fabric.Parts.FabricDisk) → At (fab.fabric_unplugs_from o w.fabric d).part w.out w.back
      by_place None d = s
      by_place (Some p) d =
          let a = how_many-append is_discovered w.fabric.out (map tasks.gone (tasks.tasks_for d.address w.fabric.tasks)) in
          let g = gone_told (tasks.tasks_for d.address w.fabric.tasks) in
          let l = filter_length (λ (task : Task). not (tasks.is_for d.address task)) w.fabric.tasks in
          noticed (Rattle.mpt_rules.specs.Fabric.Disks.unplugged_news d p) (tasks.tasks_for_others d.address w.fabric.tasks) (w.fabric.out ++ map tasks.gone (tasks.tasks_for d.address w.fabric.tasks)) (Rattle.mpt_rules.specs.Fabric.Disks.with_disk d.address (λ (old : Rattle.mpt_rules.specs.Fabric.Parts.FabricDisk). record old { at = None }) w.fabric.disks) w.fabric.on refl
          (omega (arith, a, g)) (λ y. omega (arith, y, l)) (λ y. ap (tasks.tasks_for_others d.address) y)
          (λ y. ap (λ ts. w.fabric.out ++ map tasks.gone (tasks.tasks_for d.address ts)) y ∙ Rattle.std.proofs.Common.append-nil w.fabric.out)

      by_disk : (o : Option Rattle.mpt_rules.specs.Fabric.Parts.FabricDisk) → At (fab.unplugs_disk o w.fabric).part w.out w.back
      by_disk None = s
      by_disk (Some d) = by_place d.at d

  puts_out : (x : Out) (rest : List Out) → w.ioc.out ≡ x ∷ rest → FabricWorld (record w { ioc = record w.ioc { out = rest }; out = w.out ++ x ∷ [] })
  puts_out x rest e = subst (λ o. FabricStands (is_live w) (is_reset (state_of w.ioc)) w.ioc.enabled (how_many is_port_enable w.ioc.requests) w.fabric.on w.fabric.tasks w.fabric.notices o (back_line w)) (ap (λ xs. w.out ++ xs) e ∙ sym (append_assoc w.out (x ∷ []) rest)) s

  puts_back : (x : Back) (rest : List Back) → w.fabric.out ≡ x ∷ rest → FabricWorld (record w { fabric = record w.fabric { out = rest }; back = w.back ++ x ∷ [] })
  puts_back x rest e = subst (λ o. FabricStands (is_live w) (is_reset (state_of w.ioc)) w.ioc.enabled (how_many is_port_enable w.ioc.requests) w.fabric.on w.fabric.tasks w.fabric.notices (out_line w) o) (ap (λ xs. w.back ++ xs) e ∙ sym (append_assoc w.back (x ∷ []) rest)) s

  put : (x : Down) (rest : List Down) → FabricWorld (record w { host = after_sent w.host x rest; down = w.down ++ x ∷ [] })
  put (down.Return address index) rest = s
  put (down.Write reg value) rest = s
  put (down.Read reg) rest = s
  put (down.Post d f q) rest = s
  put down.Stop rest = s

  owes : Owes Kept w
  owes =
      record {
        host_puts = λ x rest e v. put x rest;
        host_takes = λ queue x rest e y v. s;
        host_told = λ i t v. s;
        host_looks = λ e v. s;
        host_stops = λ e v. s;
        ioc_takes = λ x rest e v. taken x (adapter.takes_down w.ioc x).part (takes w.ioc b.facts.doorbell.sound.waits k.phase_table.whole x) v.whole;
        ioc_high = λ p rest e v. high p rest e;
        ioc_normal = λ p rest e v. normal p rest e;
        ioc_puts_out = λ x rest e v. puts_out x rest e;
        ioc_takes_back = λ x rest e v. back_taken x rest e;
        ioc_puts = λ queue y rest z e u v. s;
        fabric_takes = λ x rest e v. fabric_takes x rest e;
        fabric_says = λ x rest e v. fabric_says x rest e;
        fabric_puts = λ x rest e v. puts_back x rest e;
        fabric_runs = λ tag address e v. ran (find (tasks.has_tag tag) w.fabric.tasks) tag refl address e;
        plugs = λ address expander phy v. after_plug address expander phy;
        unplugs = λ address v. after_unplug address;
        calms = λ v. calmed;
      }

  pub fabric_kept : (c : Case) → Behind (happens w c) → OffBut (happens w c)
  fabric_kept c v = off_of_stands (happens w c) (reset_is (happens w c) (phase.phase_kept w h b c v)) (kept Kept w b.plain owes (λ y. s) c v)
