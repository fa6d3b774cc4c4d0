-- What the controller tells: binds and unbinds, and that all are unbound where it is reset.
use Rattle.std.proofs.Common.{ℕ, ◌==◌, Bool, true, false, if◌then◌else◌, List, [], ◌∷◌, Option, Some, None, arith}
use Rattle.mpi_doorbell.specs.declared.effect.Effect.TheVariants as effect
use Rattle.mpi_doorbell.specs.declared.effect.Effect.{Effect}
use Rattle.mpi_rings.specs.declared.request_descriptor.PostKind.TheVariants as post
use Rattle.mpi_rings.specs.declared.request_descriptor.PostKind.{PostKind}
use Rattle.mpt_messages.specs.Function.{function_of}
use Rattle.mpt_messages.specs.Refusal.{request_refusal}
use Rattle.mpt_messages.specs.declared.fault.MsgFault.{MsgFault}
use Rattle.mpt_messages.specs.declared.function.Function.TheVariants as function
use Rattle.mpt_messages.specs.declared.function.Function.{Function}
use Rattle.mpt_rules.specs.Ioc.Takes.{takes_down}
use Rattle.mpt_rules.specs.Ioc.Back.{hears, takes_back}
use Rattle.mpt_rules.specs.Ioc.Bindings.{binds_to, binds_first}
use Rattle.mpt_rules.specs.Ioc.Parts.{Ioc}
use Rattle.mpt_rules.specs.Ioc.Registers.{after_effect}
use Rattle.mpt_rules.specs.Ioc.Requests.{ioc_ends_removal, removes, removes_if}
use Rattle.mpt_rules.specs.Ioc.Steps.{works_default, works_as, works_unless, works_kind, works_on}
use Rattle.mpt_rules.specs.Ioc.Tables.{binding_of, has_commands, silently, least_unbound, with_binding}
use Rattle.mpt_rules.specs.Outcome.{Happening}
use Rattle.mpt_rules.specs.declared.binding.Binding.TheVariants as binding
use Rattle.mpt_rules.specs.declared.binding.Binding.{Binding}
use Rattle.mpt_rules.specs.declared.binding.Waiting.{Waiting}
use Rattle.mpt_rules.specs.declared.post.Post.{Post}
use Rattle.mpt_rules.specs.declared.status.TheConstants.{IOC_STATUS_BUSY, IOC_STATUS_INVALID_FIELD, IOC_STATUS_SUCCESS}
use Rattle.mpt_wire.specs.Messages.Fields.{controlled_handle_in, function_in, kind_in, operation_in, remove_device}
use Rattle.mpt_wire.specs.Walks.Passes.{EachEntry}
use Rattle.mpt_trace.specs.declared.entry.Entry.TheVariants as entry
use Rattle.mpt_trace.specs.declared.entry.Entry.{Entry}
use Rattle.mpt_trace.specs.declared.item.Back.TheVariants as back
use Rattle.mpt_trace.specs.declared.item.Back.{Back}
use Rattle.mpt_trace.specs.declared.item.Down.TheVariants as down
use Rattle.mpt_trace.specs.declared.item.Down.{Down}

abbrev pub IsIocWord : Entry → Type 0
IsIocWord (entry.Bind handle address plug) = Unit {0}
IsIocWord (entry.Unbind handle) = Unit {0}
IsIocWord _ = ⊥

-- ---- binds and unbinds

word_binds_to : (ioc : Ioc) (disk : Waiting) (o : Option ℕ) → EachEntry IsIocWord (binds_to ioc disk o).entries
word_binds_to ioc disk None = tt
word_binds_to ioc disk (Some handle) = (tt, tt)

word_binds_first : (ioc : Ioc) (xs : List Waiting) → EachEntry IsIocWord (binds_first ioc xs).entries
word_binds_first ioc [] = tt
word_binds_first ioc (disk ∷ others) = word_binds_to (record ioc { waiting = others }) disk (least_unbound (record ioc { waiting = others }))

word_if : (b : Bool) (x y : Happening Ioc) → EachEntry IsIocWord x.entries → EachEntry IsIocWord y.entries → EachEntry IsIocWord (if b then x else y).entries
word_if true x y s t = s
word_if false x y s t = t

word_removes_if : (ioc : Ioc) (p : Post) (b : Binding) → EachEntry IsIocWord (removes_if ioc p b).entries
word_removes_if ioc p binding.Unbound = tt
word_removes_if ioc p (binding.Present address plug expander phy) = tt
word_removes_if ioc p (binding.Gone address) =
    let l = word_binds_first (ioc_ends_removal (with_binding ioc (controlled_handle_in p.frame) binding.Unbound) p IOC_STATUS_SUCCESS) ioc.waiting in
    word_if (has_commands ioc (controlled_handle_in p.frame)) (silently (ioc_ends_removal ioc p IOC_STATUS_BUSY)) (removes ioc p) tt (tt, l)

-- ---- requests

word_default : (ioc : Ioc) (p : Post) (f : Option Function) → EachEntry IsIocWord (works_default ioc p f).entries
word_default ioc p None = tt
word_default ioc p (Some function.ScsiIo) = tt
word_default ioc p (Some function.TaskManagement) = tt
word_default ioc p (Some function.IocInit) = tt
word_default ioc p (Some function.IocFacts) = tt
word_default ioc p (Some function.PortFacts) = tt
word_default ioc p (Some function.Config) = tt
word_default ioc p (Some function.PortEnable) = tt
word_default ioc p (Some function.EventNotification) = tt
word_default ioc p (Some function.EventAck) = tt
word_default ioc p (Some function.UnitControl) = word_if (operation_in p.frame == remove_device) (removes_if ioc p (binding_of ioc (controlled_handle_in p.frame))) (silently (ioc_ends_removal ioc p IOC_STATUS_INVALID_FIELD)) (word_removes_if ioc p (binding_of ioc (controlled_handle_in p.frame))) tt

word_as : (ioc : Ioc) (p : Post) (k : PostKind) → EachEntry IsIocWord (works_as ioc p k).entries
word_as ioc p post.ScsiIo = tt
word_as ioc p post.HighPriority = tt
word_as ioc p post.Default = word_default ioc p (function_of (function_in p.frame))

word_works_if : (ioc : Ioc) (p : Post) (k : PostKind) (r : Option MsgFault) → EachEntry IsIocWord (works_unless ioc p k r).entries
word_works_if ioc p k None = word_as ioc p k
word_works_if ioc p k (Some refusal) = tt

word_works : (ioc : Ioc) (p : Post) (k : Option PostKind) → EachEntry IsIocWord (works_kind ioc p k).entries
word_works ioc p None = tt
word_works ioc p (Some k) = word_works_if ioc p k (request_refusal (Rattle.mpt_rules.specs.Ioc.Steps.way_of k) p.frame)

pub works_words : (ioc : Ioc) (p : Post) → EachEntry IsIocWord (works_on ioc p).entries
works_words ioc p = word_works ioc p (kind_in p.descriptor)

-- ---- what the fabric tells

word_hears : (ioc : Ioc) (item : Back) → EachEntry IsIocWord (hears ioc item).entries
word_hears ioc (back.Result tag result) = tt
word_hears ioc (back.Gone tag) = tt
word_hears ioc (back.Terminated tag) = tt
word_hears ioc (back.Aborted smid found) = tt
word_hears ioc (back.Cleared smid count) = tt
word_hears ioc (back.Plugged address plug expander phy) =
    let disk : Waiting = record { address = address; plug = plug; expander = expander; phy = phy } in
    let l = word_binds_to ioc disk (least_unbound ioc) in
    grind (arith, l)
word_hears ioc (back.Unplugged address plug expander phy) = tt
word_hears ioc back.Discovered = tt
word_hears ioc (back.Linked generation) = tt
word_hears ioc back.Calm = tt

pub back_words : (ioc : Ioc) (item : Back) → EachEntry IsIocWord (takes_back ioc item).entries
back_words ioc item = word_if (Rattle.mpt_rules.specs.Ioc.Back.is_heard_in ioc.door.state item) (hears ioc item) (silently ioc) (word_hears ioc item) tt
