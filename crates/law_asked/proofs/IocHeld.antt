-- What the controller does to the target resets that wait.
use Rattle.std.proofs.Common.{◌≡◌, ℕ, ◌==◌, ◌&&◌, ◌||◌, not, nat_lt, Bool, true, false, if◌then◌else◌, List, [], ◌∷◌, ◌++◌, length, Option, Some, None, refl, ap, sym, ◌∙◌, subst}
use Rattle.std.specs.Prelude.{All}
use Rattle.std.specs.List.{find, position}
use Rattle.std.proofs.lemmas.List.Elements.{All-filter, All-nil}
use Rattle.mpi_doorbell.specs.DoorRegisters.{is_fault, linked_up}
use Rattle.mpi_rings.specs.declared.request_descriptor.PostKind.{PostKind}
use Rattle.mpi_rings.specs.declared.request_descriptor.PostKind.TheVariants as post
use Rattle.scsi_disk.specs.declared.scsi_result.ScsiResult.{ScsiResult}
use Rattle.mpt_messages.specs.Refusal.{request_refusal}
use Rattle.mpt_messages.specs.declared.fault.MsgFault.{MsgFault}
use Rattle.mpt_wire.specs.Messages.Fields.{abort_task, dev_handle_in, kind_in, smid_in, target_reset, task_mid_in, task_type_in}
use Rattle.mpt_trace.specs.declared.item.Back.{Back}
use Rattle.mpt_trace.specs.declared.item.Back.TheVariants as back
use Rattle.mpt_trace.specs.declared.item.Down.{Down}
use Rattle.mpt_rules.specs.declared.at_fabric.AtFabric.{AtFabric}
use Rattle.mpt_rules.specs.declared.at_fabric.AtFabric.TheVariants as at
use Rattle.mpt_rules.specs.declared.at_fabric.HeldReset.{HeldReset}
use Rattle.mpt_rules.specs.declared.binding.Binding.{Binding}
use Rattle.mpt_rules.specs.declared.binding.Binding.TheVariants as binding
use Rattle.mpt_rules.specs.declared.binding.Waiting.{Waiting}
use Rattle.mpt_rules.specs.declared.post.Post.{Post}
use Rattle.mpt_rules.specs.Ioc.Back as from_back
use Rattle.mpt_rules.specs.Ioc.Bindings as bind
use Rattle.mpt_rules.specs.Ioc.Commands as commands
use Rattle.mpt_rules.specs.Ioc.Parts.{Ioc}
use Rattle.mpt_rules.specs.Ioc.Replies as say
use Rattle.mpt_rules.specs.Ioc.Requests as ask
use Rattle.mpt_rules.specs.Ioc.Steps as step
use Rattle.mpt_rules.specs.Ioc.Tables as table
use Rattle.mpt_rules.specs.Ioc.Takes as adapter
use Rattle.mpt_rules.specs.Ioc.Tasks as tasks
use Rattle.mpt_rules.specs.Outcome.{Happening}
use Rattle.law_flights.proofs.WorkLeaves.{AbortEnds, AbortSends, Acks, Dropped, Enables, EndsPlainly, Notifies, PageEnds, PageGiven, Refuses, RemovalEnds, Removes, ResetEnds, ResetHolds, ResetSends, ScsiEnds, ScsiSends, Stops, Strays, TaskFails, Works, works_leaf}
use Rattle.law_messages.proofs.Agreeing.{all_more, not_both}
use Rattle.law_moves.proofs.IocTakes as leaf
use Rattle.law_moves.proofs.IocTakes.{Takes}

-- the target reset of a post, where it is to wait
abbrev pub held_of : Post → HeldReset
held_of p = record { smid = smid_in p.descriptor; handle = dev_handle_in p.frame }

module _ (P : HeldReset → Type 0) where
  abbrev pub Held : Ioc → Type 0
  Held i = All P i.held

  pub same_held : (i k : Ioc) → k.held ≡ i.held → Held i → Held k
  same_held i k e a = subst (All P) (sym e) a

  -- ---- what the fabric tells

  releases : (i : Ioc) (handle : ℕ) → Held i → Held (commands.releases i handle)
  releases i handle a = by_commands (table.has_commands i handle)
    where
      by_commands : (b : Bool) → Held (if b then i else commands.answers_held i handle)
      by_commands true = a
      by_commands false = All-filter (λ held. not (commands.is_held_for handle held)) P i.held a

  changes : (i : Ioc) (handle expander phy : ℕ) (added : Bool) → Held i → Held (bind.changes i handle expander phy added)
  changes i handle expander phy added a = by_through i.through
    where
      by_through : (b : Bool) → Held (if b then bind.tells_change i handle expander phy added else i)
      by_through true = a
      by_through false = a

  binds_to : (i : Ioc) (disk : Waiting) (o : Option ℕ) → Held i → Held (bind.binds_to i disk o).part
  binds_to i disk None a = a
  binds_to i disk (Some handle) a = changes (table.with_binding i handle (binding.Present disk.address disk.plug disk.expander disk.phy)) handle disk.expander disk.phy true a

  binds_first : (i : Ioc) (ds : List Waiting) → Held i → Held (bind.binds_first i ds).part
  binds_first i [] a = a
  binds_first i (d ∷ ds) a = binds_to (record i { waiting = ds }) d (table.least_unbound (record i { waiting = ds })) a

  ended : (i : Ioc) (tag status : ℕ) (o : Option AtFabric) → Held i → Held (from_back.takes_end i tag status o)
  ended i tag status None a = a
  ended i tag status (Some (at.Command handle queue len written)) a = releases (say.says_on (table.without_request i tag) queue _) handle a
  ended i tag status (Some (at.Abort handle)) a = a
  ended i tag status (Some (at.TargetReset handle)) a = a
  ended i tag status (Some at.PortEnable) a = a

  performed : (i : Ioc) (tag : ℕ) (r : ScsiResult) (o : Option AtFabric) → Held i → Held (from_back.takes_result i tag r o)
  performed i tag r None a = a
  performed i tag r (Some (at.Command handle queue len written)) a = releases (say.says_on (table.without_request i tag) queue _) handle a
  performed i tag r (Some (at.Abort handle)) a = a
  performed i tag r (Some (at.TargetReset handle)) a = a
  performed i tag r (Some at.PortEnable) a = a

  aborted : (i : Ioc) (smid : ℕ) (found : Bool) (o : Option AtFabric) → Held i → Held (from_back.takes_aborted i smid found o)
  aborted i smid found None a = a
  aborted i smid found (Some (at.Command handle queue len written)) a = a
  aborted i smid found (Some (at.Abort handle)) a = a
  aborted i smid found (Some (at.TargetReset handle)) a = a
  aborted i smid found (Some at.PortEnable) a = a

  cleared : (i : Ioc) (smid count : ℕ) (o : Option AtFabric) → Held i → Held (from_back.takes_cleared i smid count o)
  cleared i smid count None a = a
  cleared i smid count (Some (at.Command handle queue len written)) a = a
  cleared i smid count (Some (at.Abort handle)) a = a
  cleared i smid count (Some (at.TargetReset handle)) a = a
  cleared i smid count (Some at.PortEnable) a = a

  discovered : (i : Ioc) (o : Option ℕ) → Held i → Held (from_back.takes_discovered i o)
  discovered i None a = a
  discovered i (Some place) a = a

  plugged : (i : Ioc) (disk : Waiting) (b : Bool) → Held i → Held (if b then table.silently i else bind.binds i disk).part
  plugged i disk true a = a
  plugged i disk false a = binds_to i disk (table.least_unbound i) a

  lost : (i : Ioc) (handle : ℕ) (b : Binding) → Held i → Held (bind.ioc_loses i handle b)
  lost i handle binding.Unbound a = a
  lost i handle (binding.Present address plug expander phy) a = changes (table.with_binding i handle (binding.Gone address)) handle expander phy false a
  lost i handle (binding.Gone address) a = a

  unplugged : (i : Ioc) (address : ℕ) (o : Option ℕ) → Held i → Held (bind.ioc_unplugs_from i address o)
  unplugged i address None a = a
  unplugged i address (Some handle) a = lost i handle (table.binding_of i handle) a

  if_held : (b : Bool) (x y : Ioc) → Held x → Held y → Held (if b then x else y)
  if_held true x y a c = a
  if_held false x y a c = c

  if_happens : (b : Bool) (x y : Happening Ioc) → Held x.part → Held y.part → Held (if b then x else y).part
  if_happens true x y a c = a
  if_happens false x y a c = c

  heard : (i : Ioc) (x : Back) → Held i → Held (from_back.hears i x).part
  heard i (back.Result tag r) a = performed i tag r (table.request_at i tag) a
  heard i (back.Gone tag) a = ended i tag _ (table.request_at i tag) a
  heard i (back.Terminated tag) a = ended i tag _ (table.request_at i tag) a
  heard i (back.Aborted smid found) a = aborted i smid found (table.request_at i smid) a
  heard i (back.Cleared smid count) a = cleared i smid count (table.request_at i smid) a
  heard i (back.Plugged address plug expander phy) a = plugged i (record { address = address; plug = plug; expander = expander; phy = phy }) (bind.is_known i address || not (nat_lt expander (length i.phys))) a
  heard i (back.Unplugged address plug expander phy) a = unplugged i address (table.handle_of i address) a
  heard i back.Discovered a = discovered i (position from_back.is_port_enable i.requests) a
  heard i (back.Linked generation) a = if_held (table.is_reset i.door.state && generation == i.generation) (record i { door = linked_up i.door }) i a a
  heard i back.Calm a = if_held (is_fault i.door.state) i (say.says_on i 0 _) a a

  pub held_back : (i : Ioc) (x : Back) → Held i → Held (adapter.takes_back i x).part
  held_back i x a = if_happens (from_back.is_heard_in i.door.state x) (from_back.hears i x) (table.silently i) (heard i x a) a

  -- ---- a work step

  to : (o x : Happening Ioc) → o ≡ x → Held x.part → Held o.part
  to o x e a = subst (λ (y : Happening Ioc). Held y.part) (sym e) a

  no_high : {T : Type 0} (p : Post) → (kind_in p.descriptor ≡ Some post.HighPriority → ⊥) → kind_in p.descriptor ≡ Some post.HighPriority → T
  no_high p n k = absurd (n k)

  others_work : (i : Ioc) (p : Post) (o : Happening Ioc) → Works i p o → (kind_in p.descriptor ≡ Some post.HighPriority → ⊥) → Held i → Held o.part
  others_work i p o (Dropped k e) n a = to o _ e a
  others_work i p o (Refuses k g d x e) n a = to o _ e a
  others_work i p o (ScsiEnds status k c e) n a = to o _ e a
  others_work i p o (ScsiSends address plug expander phy k c b e) n a = to o _ e a
  others_work i p o (Stops stop k g e) n a = no_high p n k
  others_work i p o (AbortSends k g t e) n a = no_high p n k
  others_work i p o (AbortEnds k g t e) n a = no_high p n k
  others_work i p o (ResetSends address plug expander phy k b e) n a = no_high p n k
  others_work i p o (ResetHolds address k b t e) n a = no_high p n k
  others_work i p o (ResetEnds status k e) n a = no_high p n k
  others_work i p o (TaskFails k e) n a = no_high p n k
  others_work i p o (PageEnds status k e) n a = to o _ e a
  others_work i p o (PageGiven page k g e) n a = to o _ e a
  others_work i p o (Enables k x e) n a = to o _ e a
  others_work i p o (Notifies k e) n a = to o _ e a
  others_work i p o (Acks k t e) n a = to o _ e a
  others_work i p o (EndsPlainly g status k e) n a = to o _ e a
  others_work i p o (RemovalEnds status k e) n a = to o _ e a
  others_work i p o (Removes address k g b c e) n a = to o _ e (binds_first (ask.ioc_ends_removal (table.with_binding i _ binding.Unbound) p _) i.waiting a)
  others_work i p o (Strays k x e) n a = to o _ e a

  aborts : (i : Ioc) (p : Post) (o : Option Post) → Held i → Held (tasks.ioc_aborts_if i (smid_in p.descriptor) (task_mid_in p.frame) (dev_handle_in p.frame) o)
  aborts i p (Some q) a = a
  aborts i p None a = if_held (table.is_command_of (dev_handle_in p.frame) (table.request_at i (task_mid_in p.frame))) (tasks.sends_abort i (smid_in p.descriptor) (task_mid_in p.frame) (dev_handle_in p.frame)) (tasks.ioc_ends_abort i (smid_in p.descriptor) (dev_handle_in p.frame) 0) a a

  resets : (i : Ioc) (p : Post) (b : Binding) → P (held_of p) → Held i → Held (tasks.ioc_resets_target i (smid_in p.descriptor) (dev_handle_in p.frame) b)
  resets i p binding.Unbound x a = a
  resets i p (binding.Present address plug expander phy) x a = a
  resets i p (binding.Gone address) x a = if_held (table.has_commands i (dev_handle_in p.frame)) (record i { held = i.held ++ held_of p ∷ [] }) (tasks.ends_target_reset i (smid_in p.descriptor) (dev_handle_in p.frame) _ 0) (all_more P i.held (held_of p) a x) a

  task_works : (i : Ioc) (p : Post) → ((task_type_in p.frame == target_reset) ≡ true → P (held_of p)) → Held i → Held (tasks.works_task i p)
  task_works i p x a = by_types (task_type_in p.frame == abort_task) (task_type_in p.frame == target_reset) refl
    where
      by_types : (b c : Bool) → (task_type_in p.frame == target_reset) ≡ c → Held (if b then tasks.ioc_aborts i (smid_in p.descriptor) (task_mid_in p.frame) (dev_handle_in p.frame)
          else if c then tasks.ioc_resets_target i (smid_in p.descriptor) (dev_handle_in p.frame) (table.binding_of i (dev_handle_in p.frame)) else tasks.fails_task i (smid_in p.descriptor) (dev_handle_in p.frame) (task_type_in p.frame))
      by_types true c e = aborts i p (find (tasks.is_scsi_post (task_mid_in p.frame) (dev_handle_in p.frame)) i.normal) a
      by_types false true e = resets i p (table.binding_of i (dev_handle_in p.frame)) (x e) a
      by_types false false e = a

  high_works : (i : Ioc) (p : Post) → ((task_type_in p.frame == target_reset) ≡ true → P (held_of p)) → Held i → Held (step.works_kind i p (Some post.HighPriority)).part
  high_works i p x a = by_refusal (request_refusal (step.way_of post.HighPriority) p.frame)
    where
      by_refusal : (o : Option MsgFault) → Held (step.works_unless i p post.HighPriority o).part
      by_refusal (Some g) = a
      by_refusal None = task_works i p x a

  pub held_works : (i : Ioc) (p : Post) → (kind_in p.descriptor ≡ Some post.HighPriority → (task_type_in p.frame == target_reset) ≡ true → P (held_of p)) → Held i → Held (step.works_on i p).part
  held_works i p x a = by_kind (kind_in p.descriptor) refl
    where
      same_kind : (o : Option PostKind) → kind_in p.descriptor ≡ o → (o ≡ Some post.HighPriority → ⊥) → kind_in p.descriptor ≡ Some post.HighPriority → ⊥
      same_kind o e n k = n (sym e ∙ k)

      by_kind : (o : Option PostKind) → kind_in p.descriptor ≡ o → Held (step.works_on i p).part
      by_kind None e = others_work i p (step.works_on i p) (works_leaf i p) (same_kind None e (λ z. absurd (cc))) a
      by_kind (Some post.ScsiIo) e = others_work i p (step.works_on i p) (works_leaf i p) (same_kind (Some post.ScsiIo) e (λ z. absurd (cc))) a
      by_kind (Some post.Default) e = others_work i p (step.works_on i p) (works_leaf i p) (same_kind (Some post.Default) e (λ z. absurd (cc))) a
      by_kind (Some post.HighPriority) e = subst (λ o. Held (step.works_kind i p o).part) (sym e) (high_works i p (x e) a)

  -- ---- what the host sends

  pub held_taken : (i : Ioc) (x : Down) (k : Ioc) → Takes i x k → is_fault k.door.state ≡ false → Held i → Held k
  held_taken i x k (leaf.Faults y m e) w a = not_both (is_fault k.door.state) w e
  held_taken i x k (leaf.Written reg value m r s e) w a = same_held i k (ap (λ (y : Ioc). y.held) e) a
  held_taken i x k (leaf.Operates value m r s t e) w a = same_held i k (ap (λ (y : Ioc). y.held) e) a
  held_taken i x k (leaf.Forgets reg value d e) w a = All-nil P
  held_taken i x k (leaf.Reads reg value) w a = a
  held_taken i x k (leaf.Posts d f p m l e) w a = same_held i k (ap (λ (y : Ioc). y.held) e) a
  held_taken i x k (leaf.DropsPost d f p e) w a = a
  held_taken i x k (leaf.Returns address index m l e) w a = same_held i k (ap (λ (y : Ioc). y.held) e) a
  held_taken i x k (leaf.DropsReturn address index e) w a = a
  held_taken i x k leaf.Stops w a = a
