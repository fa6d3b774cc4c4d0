-- A controller that was enabled and lets events through: that no work of its, and no item of the fabric, changes it.
use Rattle.std.proofs.Common.{◌≡◌, ℕ, zero, suc, ◌+◌, ◌-◌, ◌%◌, ◌^◌, ◌==◌, ◌&&◌, ◌||◌, not, nat_lt, Bool, true, false, if◌then◌else◌, List, [], ◌∷◌, ◌++◌, length, map, set, Option, Some, None, refl, ap, sym, ◌∙◌, subst, arith}
use Rattle.std.specs.List.{filter, position}
use Rattle.scsi_disk.specs.declared.scsi_result.ScsiResult.{ScsiResult}
use Rattle.mpi_rings.specs.declared.request_descriptor.PostKind.{PostKind}
use Rattle.mpi_rings.specs.declared.request_descriptor.PostKind.TheVariants as post
use Rattle.mpt_messages.specs.Function.{byte_of, function_of}
use Rattle.mpt_messages.specs.Refusal.{request_refusal}
use Rattle.mpt_messages.specs.declared.fault.MsgFault.{MsgFault}
use Rattle.mpt_messages.specs.declared.function.Function.{Function}
use Rattle.mpt_messages.specs.declared.function.Function.TheVariants as function
use Rattle.mpt_wire.specs.Messages.Fields.{controlled_handle_in, function_in, kind_in, operation_in, remove_device, smid_in}
use Rattle.mpt_trace.specs.declared.item.Back.{Back}
use Rattle.mpt_trace.specs.declared.item.Back.TheVariants as back
use Rattle.mpt_rules.specs.declared.at_fabric.AtFabric.{AtFabric}
use Rattle.mpt_rules.specs.declared.at_fabric.AtFabric.TheVariants as at
use Rattle.mpt_rules.specs.declared.binding.Binding.{Binding}
use Rattle.mpt_rules.specs.declared.binding.Binding.TheVariants as binding
use Rattle.mpt_rules.specs.declared.binding.Waiting.{Waiting}
use Rattle.mpt_rules.specs.declared.post.Post.{Post}
use Rattle.mpt_rules.specs.declared.said.Said.{Said}
use Rattle.mpt_rules.specs.declared.said.Said.TheVariants as said
use Rattle.mpt_rules.specs.declared.status.TheConstants.{IOC_STATUS_BUSY, IOC_STATUS_CONFIG_INVALID_ACTION, IOC_STATUS_CONFIG_INVALID_TYPE, IOC_STATUS_INVALID_FIELD, IOC_STATUS_INVALID_STATE, IOC_STATUS_SUCCESS}
use Rattle.mpt_rules.specs.Ioc.Back as from_back
use Rattle.mpt_rules.specs.Ioc.Back.{is_port_enable}
use Rattle.mpt_rules.specs.Ioc.Bindings as bind
use Rattle.mpt_rules.specs.Ioc.Commands as commands
use Rattle.mpt_rules.specs.Ioc.Configuration as config
use Rattle.mpt_rules.specs.Ioc.Parts.{Ioc}
use Rattle.mpt_rules.specs.Ioc.Replies as say
use Rattle.mpt_rules.specs.Ioc.Requests as ask
use Rattle.mpt_rules.specs.Ioc.Steps as step
use Rattle.mpt_rules.specs.Ioc.Tables as table
use Rattle.mpt_rules.specs.Outcome.{Happening}
use Rattle.mpt_rules.specs.World.Counts.{how_many, one_if}
use Rattle.mpt_wire.specs.Messages.Fields as fields
use Rattle.law_flights.proofs.WorkLeaves.{AbortEnds, AbortSends, Acks, Dropped, Enables, EndsPlainly, Notifies, PageEnds, PageGiven, Refuses, RemovalEnds, Removes, ResetEnds, ResetHolds, ResetSends, ScsiEnds, ScsiSends, Stops, Strays, TaskFails, Works, works_leaf}
use Rattle.law_moves.proofs.Counted.{how_many-cons}

-- enabled, with its port enable answered, and with events let through
pub record IsUpIoc (i : Ioc) : Type 0 where
  pub enabled : i.enabled ≡ true
  pub through : i.through ≡ true
  pub done : how_many is_port_enable i.requests ≡ 0

-- another request in a table without a port enable
set_none : (xs : List (Option AtFabric)) (n : ℕ) (y : Option AtFabric) → is_port_enable y ≡ false → how_many is_port_enable xs ≡ 0 → how_many is_port_enable (set xs n y) ≡ 0
set_none [] n y e z = z
set_none (x ∷ xs) zero y e z = let a = how_many-cons is_port_enable x xs in let c = how_many-cons is_port_enable y xs in let o : one_if (is_port_enable y) ≡ 0 = ap one_if e in omega (arith, z, a, c, o)
set_none (x ∷ xs) (suc n) y e z =
    let a = how_many-cons is_port_enable x xs in let h = set_none xs n y e (omega (arith, z, a)) in let c = how_many-cons is_port_enable x (set xs n y) in
    omega (arith, z, a, c, h)

module _ (i : Ioc) (u : IsUpIoc i) where
  same : (j : Ioc) → j.enabled ≡ i.enabled → j.through ≡ i.through → j.requests ≡ i.requests → IsUpIoc j
  same j a c d = record { enabled = a ∙ u.enabled; through = c ∙ u.through; done = ap (how_many is_port_enable) d ∙ u.done }

  -- a request comes, or goes
  asked : (j : Ioc) (n : ℕ) (y : Option AtFabric) → is_port_enable y ≡ false → j.enabled ≡ i.enabled → j.through ≡ i.through → j.requests ≡ set i.requests n y → IsUpIoc j
  asked j n y e a c d = record { enabled = a ∙ u.enabled; through = c ∙ u.through; done = ap (how_many is_port_enable) d ∙ set_none i.requests n y e u.done }

-- ---- disks

changes_up : (i : Ioc) (handle expander phy : ℕ) (added : Bool) → IsUpIoc i → IsUpIoc (bind.changes i handle expander phy added)
changes_up i handle expander phy added u = by_through i.through
  where
    by_through : (c : Bool) → IsUpIoc (if c then bind.tells_change i handle expander phy added else i)
    by_through true = same i u (bind.tells_change i handle expander phy added) refl refl refl
    by_through false = u

binds_up : (i : Ioc) (disk : Waiting) (o : Option ℕ) → IsUpIoc i → IsUpIoc (bind.binds_to i disk o).part
binds_up i disk None u = same i u (record i { waiting = i.waiting ++ disk ∷ [] }) refl refl refl
binds_up i disk (Some handle) u =
    changes_up (table.with_binding i handle (binding.Present disk.address disk.plug disk.expander disk.phy)) handle disk.expander disk.phy true (same i u (table.with_binding i handle (binding.Present disk.address disk.plug disk.expander disk.phy)) refl refl refl)

first_up : (i : Ioc) (ds : List Waiting) → IsUpIoc i → IsUpIoc (bind.binds_first i ds).part
first_up i [] u = u
first_up i (d ∷ ds) u = binds_up (record i { waiting = ds }) d (table.least_unbound (record i { waiting = ds })) (same i u (record i { waiting = ds }) refl refl refl)

loses_up : (i : Ioc) (handle : ℕ) (b : Binding) → IsUpIoc i → IsUpIoc (bind.ioc_loses i handle b)
loses_up i handle binding.Unbound u = u
loses_up i handle (binding.Gone address) u = u
loses_up i handle (binding.Present address plug expander phy) u = changes_up (table.with_binding i handle (binding.Gone address)) handle expander phy false (same i u (table.with_binding i handle (binding.Gone address)) refl refl refl)

-- ---- a post is processed

module _ (i : Ioc) (p : Post) (u : IsUpIoc i) where
  abbrev Kept : Happening Ioc → Type 0
  Kept o = IsUpIoc o.part

  to : (o x : Happening Ioc) → o ≡ x → Kept x → Kept o
  to o x e k = subst Kept (sym e) k

  still : (o x : Happening Ioc) → o ≡ x → x.part.enabled ≡ i.enabled → x.part.through ≡ i.through → x.part.requests ≡ i.requests → Kept o
  still o x e a c d = to o x e (same i u x.part a c d)

  sends : (o x : Happening Ioc) (y : Option AtFabric) → o ≡ x → is_port_enable y ≡ false → x.part.enabled ≡ i.enabled → x.part.through ≡ i.through → x.part.requests ≡ set i.requests (smid_in p.descriptor - 1) y → Kept o
  sends o x y e n a c d = to o x e (asked i u x.part (smid_in p.descriptor - 1) y n a c d)

  -- of another class than the default
  other : (o : Happening Ioc) → Works i p o → (kind_in p.descriptor ≡ Some post.Default → ⊥) → Kept o
  other o (Dropped k e) n = still o _ e refl refl refl
  other o (Refuses k f d r e) n = still o _ e refl refl refl
  other o (ScsiEnds status k c e) n = still o _ e refl refl refl
  other o (ScsiSends address plug expander phy k c b e) n = sends o _ _ e refl refl refl refl
  other o (Stops stop k f e) n = still o _ e refl refl refl
  other o (AbortSends k f t e) n = sends o _ _ e refl refl refl refl
  other o (AbortEnds k f t e) n = still o _ e refl refl refl
  other o (ResetSends address plug expander phy k b e) n = sends o _ _ e refl refl refl refl
  other o (ResetHolds address k b t e) n = still o _ e refl refl refl
  other o (ResetEnds status k e) n = still o _ e refl refl refl
  other o (TaskFails k e) n = still o _ e refl refl refl
  other o (PageEnds status k e) n = absurd (n k)
  other o (PageGiven page k q e) n = absurd (n k)
  other o (Enables k q e) n = absurd (n k)
  other o (Notifies k e) n = absurd (n k)
  other o (Acks k t e) n = absurd (n k)
  other o (EndsPlainly f status k e) n = absurd (n k)
  other o (RemovalEnds status k e) n = absurd (n k)
  other o (Removes address k f b c e) n = absurd (n k)
  other o (Strays k r e) n = absurd (n k)

  page : Kept (table.silently (config.works_config i p))
  page = by_tests (config.is_other_action p.frame) (config.is_other_type p.frame) (config.page_wanted i p.frame)
    where
      by_tests : (a c : Bool) (o : Option (List ℕ)) → IsUpIoc (if a then config.ends_config i p IOC_STATUS_CONFIG_INVALID_ACTION [] else if c then config.ends_config i p IOC_STATUS_CONFIG_INVALID_TYPE [] else config.gives_page i p o)
      by_tests true c o = same i u _ refl refl refl
      by_tests false true o = same i u _ refl refl refl
      by_tests false false None = same i u _ refl refl refl
      by_tests false false (Some page) = same i u _ refl refl refl

  enable : Kept (table.silently (ask.works_enable i p))
  enable = by_enabled i.enabled u.enabled
    where
      by_enabled : (c : Bool) → c ≡ true → IsUpIoc (if c then ask.ends_plainly i p (byte_of function.PortEnable) IOC_STATUS_INVALID_STATE else ask.enables i (smid_in p.descriptor))
      by_enabled true e = same i u _ refl refl refl
      by_enabled false e = absurd (cc)

  ack : Kept (table.silently (ask.works_ack i p))
  ack = by_event (ask.is_of_event i p.frame)
    where
      by_event : (c : Bool)
          → IsUpIoc (if c then ask.ends_plainly (record i { unacked = Rattle.std.specs.FinSet.remove i.unacked (fields.acked_context_in p.frame) }) p (byte_of function.EventAck) IOC_STATUS_SUCCESS else ask.ends_plainly i p (byte_of function.EventAck) IOC_STATUS_INVALID_FIELD)
      by_event true = same i u _ refl refl refl
      by_event false = same i u _ refl refl refl

  removes : Kept (ask.removes i p)
  removes =
      first_up (ask.ioc_ends_removal (table.with_binding i (controlled_handle_in p.frame) binding.Unbound) p IOC_STATUS_SUCCESS) i.waiting
      (same i u (ask.ioc_ends_removal (table.with_binding i (controlled_handle_in p.frame) binding.Unbound) p IOC_STATUS_SUCCESS) refl refl refl)

  removal : Kept (ask.works_unit_control i p)
  removal = by_operation (operation_in p.frame == remove_device) (table.binding_of i (controlled_handle_in p.frame))
    where
      gone : (c : Bool) → Kept (if c then table.silently (ask.ioc_ends_removal i p IOC_STATUS_BUSY) else ask.removes i p)
      gone true = same i u (ask.ioc_ends_removal i p IOC_STATUS_BUSY) refl refl refl
      gone false = removes

      by_operation : (a : Bool) (b : Binding) → Kept (if a then ask.removes_if i p b else table.silently (ask.ioc_ends_removal i p IOC_STATUS_INVALID_FIELD))
      by_operation false b = same i u (ask.ioc_ends_removal i p IOC_STATUS_INVALID_FIELD) refl refl refl
      by_operation true binding.Unbound = same i u (ask.ioc_ends_removal i p _) refl refl refl
      by_operation true (binding.Present address plug expander phy) = same i u (ask.ioc_ends_removal i p _) refl refl refl
      by_operation true (binding.Gone address) = gone (table.has_commands i (controlled_handle_in p.frame))

  -- of the default class, but an event notification
  defaults : (f : Option Function) → (f ≡ Some function.EventNotification → ⊥) → Kept (step.works_default i p f)
  defaults None n = u
  defaults (Some function.Config) n = page
  defaults (Some function.PortEnable) n = enable
  defaults (Some function.EventNotification) n = absurd (n refl)
  defaults (Some function.EventAck) n = ack
  defaults (Some function.UnitControl) n = removal
  defaults (Some function.ScsiIo) n = u
  defaults (Some function.TaskManagement) n = u
  defaults (Some function.IocInit) n = u
  defaults (Some function.IocFacts) n = u
  defaults (Some function.PortFacts) n = u

  pub works_up : (kind_in p.descriptor ≡ Some post.Default → function_of (function_in p.frame) ≡ Some function.EventNotification → ⊥) → IsUpIoc (step.works_on i p).part
  works_up n = by_kind (kind_in p.descriptor) refl
    where
      refused : (k : PostKind) (r : Option MsgFault) → ((f : MsgFault) → r ≡ Some f → Kept (table.silently (step.refuses i p k f))) → (r ≡ None → Kept (step.works_as i p k)) → Kept (step.works_unless i p k r)
      refused k (Some f) a c = a f refl
      refused k None a c = c refl

      by_kind : (k : Option PostKind) → kind_in p.descriptor ≡ k → Kept (step.works_kind i p k)
      by_kind None e = u
      by_kind (Some post.Default) e =
          refused post.Default (request_refusal (step.way_of post.Default) p.frame) (λ f q. same i u (step.refuses i p post.Default f) refl refl refl) (λ q. defaults (function_of (function_in p.frame)) (n e))
      by_kind (Some post.ScsiIo) e = subst (λ k. Kept (step.works_kind i p k)) e (other (step.works_on i p) (works_leaf i p) (λ q. never (sym e ∙ q)))
        where
          never : Some post.ScsiIo ≡ Some post.Default → ⊥
          never q = cc
      by_kind (Some post.HighPriority) e = subst (λ k. Kept (step.works_kind i p k)) e (other (step.works_on i p) (works_leaf i p) (λ q. never (sym e ∙ q)))
        where
          never : Some post.HighPriority ≡ Some post.Default → ⊥
          never q = cc

-- ---- an item of the fabric

module _ (i : Ioc) (u : IsUpIoc i) where
  without : (s : ℕ) → IsUpIoc (table.without_request i s)
  without s = asked i u (table.without_request i s) (s - 1) None refl refl refl refl

  answers : (j : Ioc) → IsUpIoc j → (queue : ℕ) (items : List Said) → IsUpIoc (say.says_on j queue items)
  answers j k queue items = same j k (say.says_on j queue items) refl refl refl

  ends : (tag handle queue : ℕ) (y : Said) → IsUpIoc (commands.ends_command i tag handle queue y)
  ends tag handle queue y = by_commands (table.has_commands (say.says_on (table.without_request i tag) queue (y ∷ [])) handle)
    where
      said_so : IsUpIoc (say.says_on (table.without_request i tag) queue (y ∷ []))
      said_so = answers (table.without_request i tag) (without tag) queue (y ∷ [])

      by_commands : (c : Bool) → IsUpIoc (if c then say.says_on (table.without_request i tag) queue (y ∷ []) else commands.answers_held (say.says_on (table.without_request i tag) queue (y ∷ [])) handle)
      by_commands true = said_so
      by_commands false = same (say.says_on (table.without_request i tag) queue (y ∷ [])) said_so _ refl refl refl

  result : (tag : ℕ) (r : ScsiResult) (o : Option AtFabric) → IsUpIoc (from_back.takes_result i tag r o)
  result tag r None = u
  result tag r (Some (at.Command handle queue len written)) = ends tag handle queue _
  result tag r (Some (at.Abort handle)) = u
  result tag r (Some (at.TargetReset handle)) = u
  result tag r (Some at.PortEnable) = u

  ended : (tag status : ℕ) (o : Option AtFabric) → IsUpIoc (from_back.takes_end i tag status o)
  ended tag status None = u
  ended tag status (Some (at.Command handle queue len written)) = ends tag handle queue _
  ended tag status (Some (at.Abort handle)) = u
  ended tag status (Some (at.TargetReset handle)) = u
  ended tag status (Some at.PortEnable) = u

  aborted : (s : ℕ) (found : Bool) (o : Option AtFabric) → IsUpIoc (from_back.takes_aborted i s found o)
  aborted s found None = u
  aborted s found (Some (at.Abort handle)) = same (table.without_request i s) (without s) _ refl refl refl
  aborted s found (Some (at.Command handle queue len written)) = u
  aborted s found (Some (at.TargetReset handle)) = u
  aborted s found (Some at.PortEnable) = u

  cleared : (s count : ℕ) (o : Option AtFabric) → IsUpIoc (from_back.takes_cleared i s count o)
  cleared s count None = u
  cleared s count (Some (at.TargetReset handle)) = same (table.without_request i s) (without s) _ refl refl refl
  cleared s count (Some (at.Command handle queue len written)) = u
  cleared s count (Some (at.Abort handle)) = u
  cleared s count (Some at.PortEnable) = u

  discovered : (o : Option ℕ) → IsUpIoc (from_back.takes_discovered i o)
  discovered None = u
  discovered (Some place) = same (table.without_request i (place + 1)) (without (place + 1)) _ refl refl refl

  plugged : (disk : Waiting) (c : Bool) → IsUpIoc (if c then table.silently i else bind.binds i disk).part
  plugged disk true = u
  plugged disk false = binds_up i disk (table.least_unbound i) u

  unplugged : (address : ℕ) (o : Option ℕ) → IsUpIoc (bind.ioc_unplugs_from i address o)
  unplugged address None = same i u _ refl refl refl
  unplugged address (Some handle) = loses_up i handle (table.binding_of i handle) u

  linked : (c : Bool) → IsUpIoc (if c then record i { door = Rattle.mpi_doorbell.specs.DoorRegisters.linked_up i.door } else i)
  linked true = same i u (record i { door = Rattle.mpi_doorbell.specs.DoorRegisters.linked_up i.door }) refl refl refl
  linked false = u

  calm : (c : Bool) → IsUpIoc (if c then i else say.says_on i 0 (said.Calm ∷ []))
  calm true = u
  calm false = answers i u 0 (said.Calm ∷ [])

  heard : (x : Back) → IsUpIoc (from_back.hears i x).part
  heard (back.Result tag r) = result tag r (table.request_at i tag)
  heard (back.Gone tag) = ended tag _ (table.request_at i tag)
  heard (back.Terminated tag) = ended tag _ (table.request_at i tag)
  heard (back.Aborted smid found) = aborted smid found (table.request_at i smid)
  heard (back.Cleared smid count) = cleared smid count (table.request_at i smid)
  heard (back.Plugged address plug expander phy) = plugged (record { address = address; plug = plug; expander = expander; phy = phy }) (bind.is_known i address || not (nat_lt expander (length i.phys)))
  heard (back.Unplugged address plug expander phy) = unplugged address (table.handle_of i address)
  heard back.Discovered = discovered (position is_port_enable i.requests)
  heard (back.Linked generation) = linked (table.is_reset i.door.state && generation == i.generation)
  heard back.Calm = calm (Rattle.mpi_doorbell.specs.DoorRegisters.is_fault i.door.state)

  pub taken_up : (x : Back) → IsUpIoc (from_back.takes_back i x).part
  taken_up x = by_state (from_back.is_heard_in i.door.state x)
    where
      by_state : (c : Bool) → IsUpIoc (if c then from_back.hears i x else table.silently i).part
      by_state true = heard x
      by_state false = u
