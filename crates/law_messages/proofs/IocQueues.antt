-- What the controller does with its queues: a post that it takes goes behind one of them, a work step takes posts off, a
-- reset empties them, and nothing else touches them.
use Rattle.std.proofs.Common.{◌≡◌, ℕ, ◌==◌, ◌&&◌, ◌||◌, not, nat_lt, Bool, true, false, if◌then◌else◌, List, [], ◌∷◌, length, Option, Some, None, refl, ap, sym, subst}
use Rattle.std.specs.Prelude.{All}
use Rattle.std.specs.List.{position}
use Rattle.std.proofs.lemmas.List.Elements.{All-filter, All-nil}
use Rattle.mpi_doorbell.specs.DoorRegisters.{is_fault}
use Rattle.mpi_rings.specs.declared.request_descriptor.PostKind.{PostKind}
use Rattle.mpi_rings.specs.declared.request_descriptor.PostKind.TheVariants as post
use Rattle.scsi_disk.specs.declared.scsi_result.ScsiResult.{ScsiResult}
use Rattle.mpt_wire.specs.Messages.Fields.{controlled_handle_in, dev_handle_in, kind_in, smid_in, task_mid_in}
use Rattle.mpt_trace.specs.declared.item.Back.{Back}
use Rattle.mpt_trace.specs.declared.item.Back.TheVariants as back
use Rattle.mpt_trace.specs.declared.item.Down.{Down}
use Rattle.mpt_trace.specs.declared.item.Down.TheVariants as down
use Rattle.mpt_rules.specs.declared.at_fabric.AtFabric.{AtFabric}
use Rattle.mpt_rules.specs.declared.at_fabric.AtFabric.TheVariants as at
use Rattle.mpt_rules.specs.declared.binding.Binding.{Binding}
use Rattle.mpt_rules.specs.declared.binding.Binding.TheVariants as binding
use Rattle.mpt_rules.specs.declared.binding.Waiting.{Waiting}
use Rattle.mpt_rules.specs.declared.post.Post.{Post}
use Rattle.mpt_rules.specs.declared.status.TheConstants.{IOC_STATUS_SUCCESS}
use Rattle.mpt_rules.specs.Ioc.Back as from_back
use Rattle.mpt_rules.specs.Ioc.Bindings as bind
use Rattle.mpt_rules.specs.Ioc.Commands as commands
use Rattle.mpt_rules.specs.Ioc.Parts.{Ioc}
use Rattle.mpt_rules.specs.Ioc.Posts as posts
use Rattle.mpt_rules.specs.Ioc.Replies as say
use Rattle.mpt_rules.specs.Ioc.Requests as ask
use Rattle.mpt_rules.specs.Ioc.Steps as step
use Rattle.mpt_rules.specs.Ioc.Tables as table
use Rattle.mpt_rules.specs.Ioc.Takes as adapter
use Rattle.mpt_rules.specs.Ioc.Tasks as tasks
use Rattle.mpt_rules.specs.Outcome.{Happening}
use Rattle.law_facts.specs.Words.{is_post}
use Rattle.law_flights.proofs.WorkLeaves.{AbortEnds, AbortSends, Acks, Dropped, Enables, EndsPlainly, Notifies, PageEnds, PageGiven, Refuses, RemovalEnds, Removes, ResetEnds, ResetHolds, ResetSends, ScsiEnds, ScsiSends, Stops, Strays, TaskFails, Works, works_leaf}
use Rattle.law_moves.proofs.IocTakes as leaf
use Rattle.law_moves.proofs.IocTakes.{Takes, takes}
use Rattle.law_messages.proofs.Agreeing.{all_more}

module _ (P : Post → Type 0) where
  -- each queued post has it
  abbrev pub Queued : Ioc → Type 0
  Queued i = All P i.high × All P i.normal

  same_queues : (i k : Ioc) → k.high ≡ i.high → k.normal ≡ i.normal → Queued i → Queued k
  same_queues i k e f a = (subst (All P) (sym e) a.0, subst (All P) (sym f) a.1)

  -- ---- what the fabric tells

  releases : (i : Ioc) (handle : ℕ) → Queued i → Queued (commands.releases i handle)
  releases i handle a = by_commands (table.has_commands i handle)
    where
      by_commands : (b : Bool) → Queued (if b then i else commands.answers_held i handle)
      by_commands true = a
      by_commands false = a

  changes : (i : Ioc) (handle expander phy : ℕ) (added : Bool) → Queued i → Queued (bind.changes i handle expander phy added)
  changes i handle expander phy added a = by_through i.through
    where
      by_through : (b : Bool) → Queued (if b then bind.tells_change i handle expander phy added else i)
      by_through true = a
      by_through false = a

  binds_to : (i : Ioc) (disk : Waiting) (o : Option ℕ) → Queued i → Queued (bind.binds_to i disk o).part
  binds_to i disk None a = a
  binds_to i disk (Some handle) a = changes (table.with_binding i handle (binding.Present disk.address disk.plug disk.expander disk.phy)) handle disk.expander disk.phy true a

  binds_first : (i : Ioc) (ds : List Waiting) → Queued i → Queued (bind.binds_first i ds).part
  binds_first i [] a = a
  binds_first i (d ∷ ds) a = binds_to (record i { waiting = ds }) d (table.least_unbound (record i { waiting = ds })) a

  ended : (i : Ioc) (tag status : ℕ) (o : Option AtFabric) → Queued i → Queued (from_back.takes_end i tag status o)
  ended i tag status None a = a
  ended i tag status (Some (at.Command handle queue len written)) a = releases (say.says_on (table.without_request i tag) queue _) handle a
  ended i tag status (Some (at.Abort handle)) a = a
  ended i tag status (Some (at.TargetReset handle)) a = a
  ended i tag status (Some at.PortEnable) a = a

  performed : (i : Ioc) (tag : ℕ) (r : ScsiResult) (o : Option AtFabric) → Queued i → Queued (from_back.takes_result i tag r o)
  performed i tag r None a = a
  performed i tag r (Some (at.Command handle queue len written)) a = releases (say.says_on (table.without_request i tag) queue _) handle a
  performed i tag r (Some (at.Abort handle)) a = a
  performed i tag r (Some (at.TargetReset handle)) a = a
  performed i tag r (Some at.PortEnable) a = a

  aborted : (i : Ioc) (smid : ℕ) (found : Bool) (o : Option AtFabric) → Queued i → Queued (from_back.takes_aborted i smid found o)
  aborted i smid found None a = a
  aborted i smid found (Some (at.Command handle queue len written)) a = a
  aborted i smid found (Some (at.Abort handle)) a = a
  aborted i smid found (Some (at.TargetReset handle)) a = a
  aborted i smid found (Some at.PortEnable) a = a

  cleared : (i : Ioc) (smid count : ℕ) (o : Option AtFabric) → Queued i → Queued (from_back.takes_cleared i smid count o)
  cleared i smid count None a = a
  cleared i smid count (Some (at.Command handle queue len written)) a = a
  cleared i smid count (Some (at.Abort handle)) a = a
  cleared i smid count (Some (at.TargetReset handle)) a = a
  cleared i smid count (Some at.PortEnable) a = a

  discovered : (i : Ioc) (o : Option ℕ) → Queued i → Queued (from_back.takes_discovered i o)
  discovered i None a = a
  discovered i (Some place) a = a

  plugged : (i : Ioc) (disk : Waiting) (b : Bool) → Queued i → Queued (if b then table.silently i else bind.binds i disk).part
  plugged i disk true a = a
  plugged i disk false a = binds_to i disk (table.least_unbound i) a

  lost : (i : Ioc) (handle : ℕ) (b : Binding) → Queued i → Queued (bind.ioc_loses i handle b)
  lost i handle binding.Unbound a = a
  lost i handle (binding.Present address plug expander phy) a = changes (table.with_binding i handle (binding.Gone address)) handle expander phy false a
  lost i handle (binding.Gone address) a = a

  unplugged : (i : Ioc) (address : ℕ) (o : Option ℕ) → Queued i → Queued (bind.ioc_unplugs_from i address o)
  unplugged i address None a = a
  unplugged i address (Some handle) a = lost i handle (table.binding_of i handle) a

  if_queued : (b : Bool) (x y : Ioc) → Queued x → Queued y → Queued (if b then x else y)
  if_queued true x y a c = a
  if_queued false x y a c = c

  if_happens : (b : Bool) (x y : Happening Ioc) → Queued x.part → Queued y.part → Queued (if b then x else y).part
  if_happens true x y a c = a
  if_happens false x y a c = c

  heard : (i : Ioc) (x : Back) → Queued i → Queued (from_back.hears i x).part
  heard i (back.Result tag r) a = performed i tag r (table.request_at i tag) a
  heard i (back.Gone tag) a = ended i tag _ (table.request_at i tag) a
  heard i (back.Terminated tag) a = ended i tag _ (table.request_at i tag) a
  heard i (back.Aborted smid found) a = aborted i smid found (table.request_at i smid) a
  heard i (back.Cleared smid count) a = cleared i smid count (table.request_at i smid) a
  heard i (back.Plugged address plug expander phy) a = plugged i (record { address = address; plug = plug; expander = expander; phy = phy }) (bind.is_known i address || not (nat_lt expander (length i.phys))) a
  heard i (back.Unplugged address plug expander phy) a = unplugged i address (table.handle_of i address) a
  heard i back.Discovered a = discovered i (position from_back.is_port_enable i.requests) a
  heard i (back.Linked generation) a = if_queued (table.is_reset i.door.state && generation == i.generation) _ i a a
  heard i back.Calm a = if_queued (is_fault i.door.state) i _ a a

  pub queued_back : (i : Ioc) (x : Back) → Queued i → Queued (adapter.takes_back i x).part
  queued_back i x a = if_happens (from_back.is_heard_in i.door.state x) (from_back.hears i x) (table.silently i) (heard i x a) a

  -- ---- a work step

  to : (o x : Happening Ioc) → o ≡ x → Queued x.part → Queued o.part
  to o x e a = subst (λ (y : Happening Ioc). Queued y.part) (sym e) a

  works : (i : Ioc) (p : Post) (o : Happening Ioc) → Works i p o → Queued i → Queued o.part
  works i p o (Dropped k e) a = to o _ e a
  works i p o (Refuses k f d r e) a = to o _ e a
  works i p o (ScsiEnds status k c e) a = to o _ e a
  works i p o (ScsiSends address plug expander phy k c b e) a = to o _ e a
  works i p o (Stops stop k f e) a = to o _ e (a.0, All-filter (λ other. not (tasks.is_scsi_post (task_mid_in p.frame) (dev_handle_in p.frame) other)) P i.normal a.1)
  works i p o (AbortSends k f t e) a = to o _ e a
  works i p o (AbortEnds k f t e) a = to o _ e a
  works i p o (ResetSends address plug expander phy k b e) a = to o _ e a
  works i p o (ResetHolds address k b t e) a = to o _ e a
  works i p o (ResetEnds status k e) a = to o _ e a
  works i p o (TaskFails k e) a = to o _ e a
  works i p o (PageEnds status k e) a = to o _ e a
  works i p o (PageGiven page k w e) a = to o _ e a
  works i p o (Enables k n e) a = to o _ e a
  works i p o (Notifies k e) a = to o _ e a
  works i p o (Acks k t e) a = to o _ e a
  works i p o (EndsPlainly f status k e) a = to o _ e a
  works i p o (RemovalEnds status k e) a = to o _ e a
  works i p o (Removes address k f b c e) a = to o _ e (binds_first (ask.ioc_ends_removal (table.with_binding i (controlled_handle_in p.frame) binding.Unbound) p IOC_STATUS_SUCCESS) i.waiting a)
  works i p o (Strays k r e) a = to o _ e a

  pub queued_works : (i : Ioc) (p : Post) → Queued i → Queued (step.works_on i p).part
  queued_works i p a = works i p (step.works_on i p) (works_leaf i p) a

  -- ---- what the host sends

  with_post : (i : Ioc) (p : Post) (k : PostKind) → P p → Queued i → Queued (posts.with_post_queued i p k)
  with_post i p post.ScsiIo x a = (a.0, all_more P i.normal p a.1 x)
  with_post i p post.HighPriority x a = (all_more P i.high p a.0 x, a.1)
  with_post i p post.Default x a = (a.0, all_more P i.normal p a.1 x)

  posted_as : (i : Ioc) (p : Post) (k : PostKind) → P p → Queued i → Queued (posts.posts_as i p k)
  posted_as i p k x a = by_tests (not (posts.is_in_class (posts.class_of k) (smid_in p.descriptor))) (table.is_unanswered i (smid_in p.descriptor))
    where
      by_tests : (b c : Bool) → Queued (if b then table.faults i posts.bad_post else if c then table.faults i posts.identifier_in_use else posts.with_post_queued i p k)
      by_tests true c = a
      by_tests false true = a
      by_tests false false = with_post i p k x a

  posted_if : (i : Ioc) (p : Post) (o : Option PostKind) → P p → Queued i → Queued (posts.posts_if i p o)
  posted_if i p None x a = a
  posted_if i p (Some k) x a = posted_as i p k x a

  posted : (i : Ioc) (d : ℕ) (f p : List ℕ) → P (record { descriptor = d; frame = f; payload = p }) → Queued i → Queued (adapter.posts_if_operational i d f p)
  posted i d f p x a = if_queued (table.is_operational i.door.state) (posts.ioc_takes_post i d f p) i (posted_if i (record { descriptor = d; frame = f; payload = p }) (kind_in d) x a) a

  not_both : {T : Type 0} (b : Bool) → b ≡ false → b ≡ true → T
  not_both true e f = absurd (cc)
  not_both false e f = absurd (cc)

  others_taken : (i : Ioc) (x : Down) (k : Ioc) → Takes i x k → is_post x ≡ false → is_fault k.door.state ≡ false → Queued i → Queued k
  others_taken i x k (leaf.Faults y m e) n w a = not_both (is_fault k.door.state) w e
  others_taken i x k (leaf.Written reg value m r s e) n w a = same_queues i k (ap (λ (y : Ioc). y.high) e) (ap (λ (y : Ioc). y.normal) e) a
  others_taken i x k (leaf.Operates value m r s t e) n w a = same_queues i k (ap (λ (y : Ioc). y.high) e) (ap (λ (y : Ioc). y.normal) e) a
  others_taken i x k (leaf.Forgets reg value d e) n w a = (All-nil P, All-nil P)
  others_taken i x k (leaf.Reads reg value) n w a = a
  others_taken i x k (leaf.Posts d f p m l e) n w a = absurd (cc)
  others_taken i x k (leaf.DropsPost d f p e) n w a = absurd (cc)
  others_taken i x k (leaf.Returns address index m l e) n w a = same_queues i k (ap (λ (y : Ioc). y.high) e) (ap (λ (y : Ioc). y.normal) e) a
  others_taken i x k (leaf.DropsReturn address index e) n w a = a
  others_taken i x k leaf.Stops n w a = a

  pub queued_down : (i : Ioc) (x : Down) → i.door.link_waits ≡ false → is_fault i.door.state ≡ false → is_fault (adapter.takes_down i x).part.door.state ≡ false
      → ((d : ℕ) (f p : List ℕ) → x ≡ down.Post d f p → P (record { descriptor = d; frame = f; payload = p })) → Queued i → Queued (adapter.takes_down i x).part
  queued_down i (down.Post d f p) l w v g a = posted i d f p (g d f p refl) a
  queued_down i (down.Write reg value) l w v g a = others_taken i (down.Write reg value) (adapter.takes_down i (down.Write reg value)).part (takes i l w (down.Write reg value)) refl v a
  queued_down i (down.Read reg) l w v g a = a
  queued_down i (down.Return address index) l w v g a = others_taken i (down.Return address index) (adapter.takes_down i (down.Return address index)).part (takes i l w (down.Return address index)) refl v a
  queued_down i down.Stop l w v g a = others_taken i down.Stop (adapter.takes_down i down.Stop).part (takes i l w down.Stop) refl v a
