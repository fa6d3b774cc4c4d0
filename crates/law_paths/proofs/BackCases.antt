-- Where what the fabric tells the controller leaves its command.
use Rattle.std.proofs.Common.{◌≡◌, ℕ, suc, ◌+◌, ◌^◌, ◌<◌, ◌≤◌, ◌==◌, ◌&&◌, ◌||◌, nat_lt, not, Bool, true, false, if◌then◌else◌, List, [], ◌∷◌, ◌++◌, length, Option, Some, None, refl, ap, sym, ◌∙◌, subst, arith}
use Rattle.std.specs.Prelude.{All}
use Rattle.std.specs.FinMap as finmap
use Rattle.std.specs.List.{position}
use Rattle.std.proofs.lemmas.List.Elements.{All-head, All-tail}
use Rattle.scsi_disk.specs.Command.{fits}
use Rattle.scsi_disk.specs.declared.command.Command.{Command}
use Rattle.scsi_disk.specs.declared.scsi_result.ScsiResult.{ScsiResult}
use Rattle.scsi_disk.specs.declared.scsi_result.TheConstants.{GOOD}
use Rattle.smid_pool.specs.Pool.{Free, Open, Parked, Slot}
use Rattle.mpi_doorbell.specs.DoorRegisters.{is_fault, linked_up}
use Rattle.mpt_messages.specs.Function.{byte_of}
use Rattle.mpt_messages.specs.IocFrames.{reply_frame}
use Rattle.mpt_messages.specs.declared.function.Function.TheVariants as function
use Rattle.mpt_messages.specs.declared.ioc_reply.IocReply.TheVariants as reply
use Rattle.mpt_trace.specs.declared.entry.Entry.{Entry}
use Rattle.mpt_trace.specs.declared.entry.Entry.TheVariants as entry
use Rattle.mpt_trace.specs.declared.item.Back.{Back}
use Rattle.mpt_trace.specs.declared.item.Back.TheVariants as back
use Rattle.mpt_trace.specs.declared.item.Item.TheVariants as item
use Rattle.mpt_trace.specs.declared.lane.LaneName.TheVariants as lane
use Rattle.mpt_wire.specs.Machine.State.{OpenRequest}
use Rattle.mpt_wire.specs.Messages.Fields.{abort_task, target_reset}
use Rattle.mpt_wire.specs.Messages.Naming.{AResult, NotThere, Says, Stopped, said_in, says_status}
use Rattle.mpt_wire.specs.Paths.Commands.{Live}
use Rattle.mpt_wire.specs.Paths.Stages.{AtController, HasGone, HasResult, HasTerminated, PathStage}
use Rattle.mpt_wire.specs.Paths.Table.{TakesGone, TakesResult, TakesTerminated}
use Rattle.mpt_wire.specs.Walks.Passes.{EachEntry}
use Rattle.mpt_rules.specs.declared.at_fabric.AtFabric.{AtFabric}
use Rattle.mpt_rules.specs.declared.at_fabric.AtFabric.TheVariants as at
use Rattle.mpt_rules.specs.declared.at_fabric.HeldReset.{HeldReset}
use Rattle.mpt_rules.specs.declared.binding.Binding.{Binding}
use Rattle.mpt_rules.specs.declared.binding.Binding.TheVariants as binding
use Rattle.mpt_rules.specs.declared.request.Request.{Request}
use Rattle.mpt_rules.specs.declared.request.Request.TheVariants as request
use Rattle.mpt_rules.specs.declared.said.Said.{Said}
use Rattle.mpt_rules.specs.declared.said.Said.TheVariants as said
use Rattle.mpt_rules.specs.declared.status.TheConstants.{IOC_STATUS_SCSI_DATA_UNDERRUN, IOC_STATUS_SCSI_DEVICE_NOT_THERE, IOC_STATUS_SCSI_TASK_TERMINATED, IOC_STATUS_SUCCESS}
use Rattle.mpt_rules.specs.Host.Parts.{Cmd}
use Rattle.mpt_rules.specs.Ioc.Back as from_back
use Rattle.mpt_rules.specs.Ioc.Bindings as bind
use Rattle.mpt_rules.specs.Ioc.Commands as commands
use Rattle.mpt_rules.specs.Ioc.Parts.{Ioc}
use Rattle.mpt_rules.specs.Ioc.Replies as say
use Rattle.mpt_rules.specs.Ioc.Tables as table
use Rattle.mpt_rules.specs.Ioc.Takes as adapter
use Rattle.mpt_rules.specs.World.Counts.{one_if}
use Rattle.mpt_rules.specs.World.State.{World}
use Rattle.law_facts.specs.Facts.{Facts}
use Rattle.law_facts.specs.History.{History, history_after}
use Rattle.law_facts.specs.Messages.{AbortAt, BackIs, CommandAt, HasOutcome, HeldIs, HeldIsOf, IsTarget, KeptIs, RequestIs}
use Rattle.law_facts.specs.Paths.{BackStage, HasItsResult, MayReply, RepliesAt, SaidStage, stage_of}
use Rattle.law_facts.specs.Words.{is_command_asked, is_enable_asked, slot}
use Rattle.law_flights.proofs.IocTold.{told_back}
use Rattle.law_machine.proofs.Decoded.{scsi_fields}
use Rattle.law_messages.proofs.Agreeing.{all_same, not_both}
use Rattle.law_messages.proofs.IocQueues.{queued_back}
use Rattle.law_messages.proofs.Known.{inside}
use Rattle.law_messages.proofs.PostsKept.{live_is_open}
use Rattle.law_messages.proofs.TameTold.{back_tame}
use Rattle.law_standing.specs.Written.{OutcomesFit}
use Rattle.law_paths.specs.Staged.{OutAt, PostAt, Staged}
use Rattle.law_paths.specs.Tags.{HasTag, TagsFit}
use Rattle.law_paths.proofs.Alone.{alone, on_back, spots}
use Rattle.law_paths.proofs.Entries.{IsQuiet, Silent, first_leads, same, silent}
use Rattle.law_paths.proofs.FabricCases.{begin, by_name, leads_to, on_back-cons, one_back, quietly, tame_out}
use Rattle.law_paths.proofs.Giving.{Gives, binds_to, changes, one, releases}
use Rattle.law_paths.proofs.IocCases.{ended_says, no_events, no_orders, told_quiet}
use Rattle.law_paths.proofs.Moves.{asked_is}
use Rattle.law_paths.proofs.PostKinds.{none_high}
use Rattle.law_paths.proofs.TagsKept.{lane_tags}

abort_no_command : (w : World) (handle : ℕ) (x : Slot Request) → AbortAt w handle x → is_command_asked x ≡ false
abort_no_command w handle Free a = absurd a
abort_no_command w handle Parked a = absurd a
abort_no_command w handle (Open (request.Command n)) a = absurd a
abort_no_command w handle (Open (request.Abort n task)) a = refl
abort_no_command w handle (Open (request.TargetReset address)) a = absurd a
abort_no_command w handle (Open (request.Leave g)) a = absurd a
abort_no_command w handle (Open (request.Page g)) a = absurd a
abort_no_command w handle (Open (request.Remove g)) a = absurd a
abort_no_command w handle (Open (request.Ack event context)) a = absurd a
abort_no_command w handle (Open request.Notification) a = absurd a
abort_no_command w handle (Open request.PortEnable) a = absurd a

target_no_command : (x : Slot Request) → IsTarget x → is_command_asked x ≡ false
target_no_command Free a = absurd a
target_no_command Parked a = absurd a
target_no_command (Open (request.Command n)) a = absurd a
target_no_command (Open (request.Abort n task)) a = absurd a
target_no_command (Open (request.TargetReset address)) a = refl
target_no_command (Open (request.Leave g)) a = absurd a
target_no_command (Open (request.Page g)) a = absurd a
target_no_command (Open (request.Remove g)) a = absurd a
target_no_command (Open (request.Ack event context)) a = absurd a
target_no_command (Open request.Notification) a = absurd a
target_no_command (Open request.PortEnable) a = absurd a

held_no_command : (handle : ℕ) (x : Slot Request) → HeldIsOf handle x → is_command_asked x ≡ false
held_no_command handle Free a = absurd a
held_no_command handle Parked a = absurd a
held_no_command handle (Open (request.Command n)) a = absurd a
held_no_command handle (Open (request.Abort n task)) a = absurd a
held_no_command handle (Open (request.TargetReset address)) a = refl
held_no_command handle (Open (request.Leave g)) a = refl
held_no_command handle (Open (request.Page g)) a = absurd a
held_no_command handle (Open (request.Remove g)) a = absurd a
held_no_command handle (Open (request.Ack event context)) a = absurd a
held_no_command handle (Open request.Notification) a = absurd a
held_no_command handle (Open request.PortEnable) a = absurd a

enable_no_command : (x : Slot Request) → is_enable_asked x ≡ true → is_command_asked x ≡ false
enable_no_command Free a = absurd (cc)
enable_no_command Parked a = absurd (cc)
enable_no_command (Open (request.Command n)) a = absurd (cc)
enable_no_command (Open (request.Abort n task)) a = absurd (cc)
enable_no_command (Open (request.TargetReset address)) a = absurd (cc)
enable_no_command (Open (request.Leave g)) a = absurd (cc)
enable_no_command (Open (request.Page g)) a = absurd (cc)
enable_no_command (Open (request.Remove g)) a = absurd (cc)
enable_no_command (Open (request.Ack event context)) a = absurd (cc)
enable_no_command (Open request.Notification) a = absurd (cc)
enable_no_command (Open request.PortEnable) a = refl

-- how much a command moved fits a reply
pub moved_fits : (c : Command) → fits c ≡ true → (r : ScsiResult) → length r.payload ≤ 4096 → commands.moved_by (commands.written_by c) r < 2 ^ 32
moved_fits c f r l = by_write (Rattle.scsi_disk.specs.Command.is_write c.cdb) refl
  where
    written_few : Rattle.scsi_disk.specs.Command.is_write c.cdb ≡ true → length c.payload ≤ 4096
    written_few t = grind (arith, f, t)

    by_good : (b : Bool) (n : ℕ) → n ≤ 4096 → (if b then n else 0) < 2 ^ 32
    by_good true n m = omega (arith, m)
    by_good false n m = omega arith

    by_write : (b : Bool) → Rattle.scsi_disk.specs.Command.is_write c.cdb ≡ b → commands.moved_by (if b then Some (length c.payload) else None) r < 2 ^ 32
    by_write true t = by_good (r.status == GOOD) (length c.payload) (written_few t)
    by_write false t = omega (arith, l)

result_says : (moved len : ℕ) → says_status (commands.result_status moved len) ≡ AResult
result_says moved len = by_test (nat_lt moved len)
  where
    by_test : (b : Bool) → says_status (if b then IOC_STATUS_SCSI_DATA_UNDERRUN else IOC_STATUS_SUCCESS) ≡ AResult
    by_test true = refl
    by_test false = refl

result_short : (moved len : ℕ) → commands.result_status moved len < 2 ^ 16
result_short moved len = by_test (nat_lt moved len)
  where
    by_test : (b : Bool) → (if b then IOC_STATUS_SCSI_DATA_UNDERRUN else IOC_STATUS_SUCCESS) < 2 ^ 16
    by_test true = omega arith
    by_test false = omega arith

module _ (w : World) (h : History) (f : Facts w h) (tags : TagsFit w) (fit : OutcomesFit h) where
  asked : (s : ℕ) (r : AtFabric) → table.request_at w.ioc s ≡ Some r → RequestIs w h s (Some r)
  asked s r e = subst (RequestIs w h s) e (f.messages.requests s)

  outcome_within : (tag : ℕ) (r : ScsiResult) → HasOutcome h (h.walk tag).known.live r → (1 ≤ tag) × (tag ≤ 280)
  outcome_within tag r a = by_live (h.walk tag).known.live refl a
    where
      by_live : (o : Option Live) → (h.walk tag).known.live ≡ o → HasOutcome h o r → (1 ≤ tag) × (tag ≤ 280)
      by_live None e a = absurd a
      by_live (Some l) e a = inside w h f tag (request.Command l.number) (live_is_open w h f tag l e)

  -- a result on its way is the open command's
  outcome_is : (tag n : ℕ) (r : ScsiResult) → slot w.host tag ≡ Open (request.Command n) → HasOutcome h (h.walk tag).known.live r → h.machine.outcome n ≡ Some r
  outcome_is tag n r o a = by_live (h.walk tag).known.live refl a
    where
      same_number : (l : Live) → Open (request.Command l.number) ≡ Open (request.Command n) → l.number ≡ n
      same_number l e = cc

      by_live : (o : Option Live) → (h.walk tag).known.live ≡ o → HasOutcome h o r → h.machine.outcome n ≡ Some r
      by_live None e a = absurd a
      by_live (Some l) e a = subst (λ j. h.machine.outcome j ≡ Some r) (same_number l (sym (live_is_open w h f tag l e) ∙ o)) a

  -- what the controller keeps of a command that is at the fabric
  record Sent (handle len : ℕ) (written : Option ℕ) : Type 0 where
    small : handle < 2 ^ 16
    moved : (r : ScsiResult) → length r.payload ≤ 4096 → commands.moved_by written r < 2 ^ 32

  sent_of : (s handle queue len n : ℕ) (written : Option ℕ) → slot w.host s ≡ Open (request.Command n) → table.request_at w.ioc s ≡ Some (at.Command handle queue len written) → Sent handle len written
  sent_of s handle queue len n written o e = by_tables (finmap.get w.host.cmds n) (finmap.get h.machine.requests n) refl refl (subst (CommandAt w h s handle queue len written) o (asked s (at.Command handle queue len written) e))
    where
      by_tables : (c : Option Cmd) (r : Option OpenRequest) → finmap.get w.host.cmds n ≡ c → finmap.get h.machine.requests n ≡ r → KeptIs w s handle queue len written c r → Sent handle len written
      by_tables None r g i a = absurd a
      by_tables (Some c) None g i a = absurd a
      by_tables (Some c) (Some r) g i a =
          let l = (f.limits.cmds n c g) in
          record {
            small = let z = a.0 in omega (arith, l, z);
            moved = λ x m. subst (λ j. commands.moved_by j x < 2 ^ 32) (sym a.3) (moved_fits r.command ((f.messages.named n).fit r i) x m);
          }

  highs_none : All (λ (p : Rattle.mpt_rules.specs.declared.post.Post.Post). is_command_asked (slot w.host (Rattle.mpt_wire.specs.Messages.Fields.smid_in p.descriptor)) ≡ false) w.ioc.high
  highs_none = none_high w h f w.ioc.high f.flights.sorted.high f.messages.high

  module _ (x : Back) (rest : List Back) (e : w.back ≡ x ∷ rest) where
    abbrev V : World
    V = record w { ioc = (adapter.takes_back w.ioc x).part; back = rest }

    abbrev T : List Entry
    T = entry.Take lane.Back (item.Back x) ∷ (adapter.takes_back w.ioc x).entries

    abbrev K : History
    K = history_after h (entry.Take lane.Back (item.Back x) ∷ (adapter.takes_back w.ioc x).entries)

    told : EachEntry IsQuiet (adapter.takes_back w.ioc x).entries
    told = told_quiet (adapter.takes_back w.ioc x).entries (told_back w.ioc x) (back_tame w.ioc x)

    not_one : (s : ℕ) (frame page sense : List ℕ) → is_command_asked (slot w.host s) ≡ false → SaidStage V K (said.Framed s frame page sense)
    not_one s frame page sense n = λ c. not_both (is_command_asked (slot w.host s)) n c

    held : (xs : List HeldReset) → All (HeldIs w) xs → All (λ r. SaidStage V K (commands.held_answered r)) xs
    held xs a = all_same (HeldIs w) (λ r. SaidStage V K (commands.held_answered r)) (λ r i. not_one r.smid _ [] [] (held_no_command r.handle (slot w.host r.smid) i)) xs a

    module _ (g : Gives (SaidStage V K) (OutAt V K AtController) w.ioc.up w.ioc.out) where
      abbrev Now : Ioc → Type 0
      Now i = Gives (SaidStage V K) (OutAt V K AtController) i.up i.out

      ended : (s handle queue : ℕ) (answer : Said) → SaidStage V K answer → Now (commands.ends_command w.ioc s handle queue answer)
      ended s handle queue answer y =
          releases (SaidStage V K) (OutAt V K AtController) (no_events V K) (no_orders V K) (say.says_on (table.without_request w.ioc s) queue (answer ∷ [])) handle (held w.ioc.held f.messages.held)
          (one (SaidStage V K) (OutAt V K AtController) (table.without_request w.ioc s) queue answer y g)

      answers : (s : ℕ) (r : Rattle.mpt_messages.specs.declared.ioc_reply.IocReply.IocReply) → is_command_asked (slot w.host s) ≡ false → Now (say.ioc_answers (table.without_request w.ioc s) s r)
      answers s r n = one (SaidStage V K) (OutAt V K AtController) (table.without_request w.ioc s) 0 (say.framed s r) (not_one s (reply_frame r) [] [] n) g

      by_result : (s : ℕ) (r : ScsiResult) (o : Option AtFabric) → table.request_at w.ioc s ≡ o → ((handle queue len : ℕ) (written : Option ℕ) → table.request_at w.ioc s ≡ Some (at.Command handle queue len written) → SaidStage V K (commands.result_said s handle len (commands.moved_by written r) r)) → Now (from_back.takes_result w.ioc s r o)
      by_result s r None i a = g
      by_result s r (Some (at.Command handle queue len written)) i a = ended s handle queue (commands.result_said s handle len (commands.moved_by written r) r) (a handle queue len written i)
      by_result s r (Some (at.Abort handle)) i a = g
      by_result s r (Some (at.TargetReset handle)) i a = g
      by_result s r (Some at.PortEnable) i a = g

      by_end : (s status : ℕ) (o : Option AtFabric) → table.request_at w.ioc s ≡ o → ((handle queue len : ℕ) (written : Option ℕ) → table.request_at w.ioc s ≡ Some (at.Command handle queue len written) → SaidStage V K (say.scsi_ended s handle status)) → Now (from_back.takes_end w.ioc s status o)
      by_end s status None i a = g
      by_end s status (Some (at.Command handle queue len written)) i a = ended s handle queue (say.scsi_ended s handle status) (a handle queue len written i)
      by_end s status (Some (at.Abort handle)) i a = g
      by_end s status (Some (at.TargetReset handle)) i a = g
      by_end s status (Some at.PortEnable) i a = g

      by_abort : (s : ℕ) (found : Bool) (o : Option AtFabric) → table.request_at w.ioc s ≡ o → Now (from_back.takes_aborted w.ioc s found o)
      by_abort s found None i = g
      by_abort s found (Some (at.Command handle queue len written)) i = g
      by_abort s found (Some (at.Abort handle)) i = answers s (say.task_ended handle abort_task IOC_STATUS_SUCCESS (if found then 1 else 0)) (abort_no_command w handle (slot w.host s) (asked s (at.Abort handle) i))
      by_abort s found (Some (at.TargetReset handle)) i = g
      by_abort s found (Some at.PortEnable) i = g

      by_clear : (s count : ℕ) (o : Option AtFabric) → table.request_at w.ioc s ≡ o → Now (from_back.takes_cleared w.ioc s count o)
      by_clear s count None i = g
      by_clear s count (Some (at.Command handle queue len written)) i = g
      by_clear s count (Some (at.Abort handle)) i = g
      by_clear s count (Some (at.TargetReset handle)) i = answers s (say.task_ended handle target_reset IOC_STATUS_SUCCESS count) (target_no_command (slot w.host s) (asked s (at.TargetReset handle) i))
      by_clear s count (Some at.PortEnable) i = g

      by_discovery : (o : Option ℕ) → position from_back.is_port_enable w.ioc.requests ≡ o → Now (from_back.takes_discovered w.ioc o)
      by_discovery None i = g
      by_discovery (Some place) i =
          let same_place : suc place ≡ place + 1 = omega arith in
          let there = subst (λ s. table.request_at w.ioc s ≡ Some at.PortEnable) same_place (Rattle.law_flights.proofs.Leaves.enable_at w.ioc place i) in
          answers (place + 1) (reply.Plain (byte_of function.PortEnable) IOC_STATUS_SUCCESS) (enable_no_command (slot w.host (place + 1)) (asked (place + 1) at.PortEnable there))

      lost : (handle : ℕ) (b : Binding) → Now (bind.ioc_loses w.ioc handle b)
      lost handle binding.Unbound = g
      lost handle (binding.Present address plug expander phy) = changes (SaidStage V K) (OutAt V K AtController) (no_events V K) (no_orders V K) (table.with_binding w.ioc handle (binding.Gone address)) handle expander phy false g
      lost handle (binding.Gone address) = g

      by_state : (b : Bool) (y z : Rattle.mpt_rules.specs.Outcome.Happening Ioc) → Now y.part → Now z.part → Now (if b then y else z).part
      by_state true y z a c = a
      by_state false y z a c = c

      if_now : (b : Bool) (y z : Ioc) → Now y → Now z → Now (if b then y else z)
      if_now true y z a c = a
      if_now false y z a c = c

      heard : ((tag : ℕ) (r : ScsiResult) → x ≡ back.Result tag r → (handle queue len : ℕ) (written : Option ℕ) → table.request_at w.ioc tag ≡ Some (at.Command handle queue len written) → SaidStage V K (commands.result_said tag handle len (commands.moved_by written r) r))
          → ((tag : ℕ) → x ≡ back.Gone tag → (handle queue len : ℕ) (written : Option ℕ) → table.request_at w.ioc tag ≡ Some (at.Command handle queue len written) → SaidStage V K (say.scsi_ended tag handle IOC_STATUS_SCSI_DEVICE_NOT_THERE))
          → ((tag : ℕ) → x ≡ back.Terminated tag → (handle queue len : ℕ) (written : Option ℕ) → table.request_at w.ioc tag ≡ Some (at.Command handle queue len written) → SaidStage V K (say.scsi_ended tag handle IOC_STATUS_SCSI_TASK_TERMINATED))
          → (y : Back) → x ≡ y → Now (from_back.hears w.ioc y).part
      heard a b c (back.Result tag r) i = by_result tag r (table.request_at w.ioc tag) refl (a tag r i)
      heard a b c (back.Gone tag) i = by_end tag IOC_STATUS_SCSI_DEVICE_NOT_THERE (table.request_at w.ioc tag) refl (b tag i)
      heard a b c (back.Terminated tag) i = by_end tag IOC_STATUS_SCSI_TASK_TERMINATED (table.request_at w.ioc tag) refl (c tag i)
      heard a b c (back.Aborted smid found) i = by_abort smid found (table.request_at w.ioc smid) refl
      heard a b c (back.Cleared smid count) i = by_clear smid count (table.request_at w.ioc smid) refl
      heard a b c (back.Plugged address plug expander phy) i =
          let d : Rattle.mpt_rules.specs.declared.binding.Waiting.Waiting = record { address = address; plug = plug; expander = expander; phy = phy } in
          by_state (bind.is_known w.ioc address || not (nat_lt expander (length w.ioc.phys))) (table.silently w.ioc) (bind.binds w.ioc d) g (binds_to (SaidStage V K) (OutAt V K AtController) (no_events V K) (no_orders V K) w.ioc d (table.least_unbound w.ioc) g)
      heard a b c (back.Unplugged address plug expander phy) i = by_handle (table.handle_of w.ioc address)
        where
          by_handle : (o : Option ℕ) → Now (bind.ioc_unplugs_from w.ioc address o)
          by_handle None = g
          by_handle (Some handle) = lost handle (table.binding_of w.ioc handle)
      heard a b c back.Discovered i = by_discovery (position from_back.is_port_enable w.ioc.requests) refl
      heard a b c (back.Linked generation) i = if_now (table.is_reset w.ioc.door.state && generation == w.ioc.generation) (record w.ioc { door = linked_up w.ioc.door }) w.ioc g g
      heard a b c back.Calm i = if_now (is_fault w.ioc.door.state) w.ioc (say.says_on w.ioc 0 (said.Calm ∷ [])) g (one (SaidStage V K) (OutAt V K AtController) w.ioc 0 said.Calm tt g)

      took : ((tag : ℕ) (r : ScsiResult) → x ≡ back.Result tag r → (handle queue len : ℕ) (written : Option ℕ) → table.request_at w.ioc tag ≡ Some (at.Command handle queue len written) → SaidStage V K (commands.result_said tag handle len (commands.moved_by written r) r))
          → ((tag : ℕ) → x ≡ back.Gone tag → (handle queue len : ℕ) (written : Option ℕ) → table.request_at w.ioc tag ≡ Some (at.Command handle queue len written) → SaidStage V K (say.scsi_ended tag handle IOC_STATUS_SCSI_DEVICE_NOT_THERE))
          → ((tag : ℕ) → x ≡ back.Terminated tag → (handle queue len : ℕ) (written : Option ℕ) → table.request_at w.ioc tag ≡ Some (at.Command handle queue len written) → SaidStage V K (say.scsi_ended tag handle IOC_STATUS_SCSI_TASK_TERMINATED))
          → Now (adapter.takes_back w.ioc x).part
      took a b c = by_state (from_back.is_heard_in w.ioc.door.state x) (from_back.hears w.ioc x) (table.silently w.ioc) (heard a b c x refl) g

    -- what is left of the lane, with the replies that are made
    into : Staged V K (record w { back = rest })
        → ((tag : ℕ) (r : ScsiResult) → x ≡ back.Result tag r → (handle queue len : ℕ) (written : Option ℕ) → table.request_at w.ioc tag ≡ Some (at.Command handle queue len written) → SaidStage V K (commands.result_said tag handle len (commands.moved_by written r) r))
        → ((tag : ℕ) → x ≡ back.Gone tag → (handle queue len : ℕ) (written : Option ℕ) → table.request_at w.ioc tag ≡ Some (at.Command handle queue len written) → SaidStage V K (say.scsi_ended tag handle IOC_STATUS_SCSI_DEVICE_NOT_THERE))
        → ((tag : ℕ) → x ≡ back.Terminated tag → (handle queue len : ℕ) (written : Option ℕ) → table.request_at w.ioc tag ≡ Some (at.Command handle queue len written) → SaidStage V K (say.scsi_ended tag handle IOC_STATUS_SCSI_TASK_TERMINATED))
        → Staged V K V
    into z a b c =
        let g = took (record { said = z.said; out = z.sending }) a b c in
        let q =
        queued_back (PostAt V K AtController) w.ioc x
        (all_same (λ (p : Rattle.mpt_rules.specs.declared.post.Post.Post). is_command_asked (slot w.host (Rattle.mpt_wire.specs.Messages.Fields.smid_in p.descriptor)) ≡ false) (PostAt V K AtController) (λ p n c. not_both (is_command_asked (slot w.host (Rattle.mpt_wire.specs.Messages.Fields.smid_in p.descriptor))) n c) w.ioc.high highs_none, z.normal) in
        record { out = z.out; down = z.down; normal = q.1; sending = g.out; sent = z.sent; tasks = z.tasks; made = z.made; back = z.back; said = g.said; up = z.up }

    plainly : ((s : ℕ) → Silent s T) → Staged V K (record w { back = rest })
    plainly q =
        let z = quietly w h f tags V T refl q (tt, back_tame w.ioc x) in
        record { out = z.out; down = z.down; normal = z.normal; sending = z.sending; sent = z.sent; tasks = z.tasks; made = z.made; back = All-tail (BackStage K) x rest (subst (All (BackStage K)) e z.back); said = z.said; up = z.up }

    named : (q : ℕ) → (1 ≤ q) × (q ≤ 280) → one_back q x ≡ 1 → ((s : ℕ) → (s == q) ≡ false → Silent s T) → Staged V K (record w { back = rest })
    named q i o s =
        let y : World = record w { back = rest } in
        let g = begin w h f tags in
        let left : Staged w h y = record { out = g.out; down = g.down; normal = g.normal; sending = g.sending; sent = g.sent; tasks = g.tasks; made = g.made; back = All-tail (BackStage h) x rest (subst (All (BackStage h)) e g.back); said = g.said; up = g.up } in
        let a = alone w h f.flights q i.0 i.1 in
        let c = on_back-cons q x rest in
        let m = ap (on_back q) e in
        let n : spots y q ≡ 0 = omega (arith, a, c, m, o) in
        by_name w h f tags q V T y refl s (tt, back_tame w.ioc x) n left

    -- a reply that follows what was taken
    follows : (s : ℕ) (frame : Option (List ℕ)) (a : Rattle.mpt_wire.specs.Messages.Naming.Says) (c : PathStage) → (is_command_asked (slot w.host s) ≡ true → said_in frame ≡ a) → stage_of K s ≡ c → MayReply K s a c → (is_command_asked (slot w.host s) ≡ true → HasItsResult K s c (slot w.host s)) → RepliesAt V K s frame
    follows s frame a c y g m r n =
        (subst (λ j. MayReply K s j (stage_of K s)) (sym (y n)) (subst (MayReply K s a) (sym g) m), subst (λ j. HasItsResult K s j (slot w.host s)) (sym g) (r n))

  pub takes_back : (x : Back) (rest : List Back) → w.back ≡ x ∷ rest
      → Staged (record w { ioc = (adapter.takes_back w.ioc x).part; back = rest }) (history_after h (entry.Take lane.Back (item.Back x) ∷ (adapter.takes_back w.ioc x).entries)) (record w { ioc = (adapter.takes_back w.ioc x).part; back = rest })
  takes_back (back.Result tag r) rest e =
      let x = back.Result tag r in
      let a = All-head (BackIs h) x (rest ++ w.fabric.out) (subst (λ xs. All (BackIs h) (xs ++ w.fabric.out)) e f.messages.back) in
      into x rest e (named x rest e tag (outcome_within tag r a) (let one : one_if (tag == tag) ≡ 1 = ap one_if (same tag) in omega (arith, one)) (λ s n. (n, silent s (adapter.takes_back w.ioc x).entries (told x rest e))))
      (λ tag2 r2 i. subst_result (λ j u. (handle queue len : ℕ) (written : Option ℕ) → table.request_at w.ioc j ≡ Some (at.Command handle queue len written) → SaidStage (record w { ioc = (adapter.takes_back w.ioc (back.Result tag r)).part; back = rest }) (history_after h (entry.Take lane.Back (item.Back (back.Result tag r)) ∷ (adapter.takes_back w.ioc (back.Result tag r)).entries)) (commands.result_said j handle len (commands.moved_by written u) u)) tag r tag2 r2 i (λ handle queue len written q. result_stage a handle queue len written q)) (λ tag2 i. absurd (cc)) (λ tag2 i. absurd (cc))
    where
      subst_result : (P : ℕ → ScsiResult → Type 0) (tag : ℕ) (r : ScsiResult) (tag2 : ℕ) (r2 : ScsiResult) → back.Result tag r ≡ back.Result tag2 r2 → P tag r → P tag2 r2
      subst_result P tag r tag2 r2 i p = let j : tag ≡ tag2 = cc in let l : r ≡ r2 = cc in subst (λ q. P q r2) j (subst (P tag) l p)

      result_stage : HasOutcome h (h.walk tag).known.live r → (handle queue len : ℕ) (written : Option ℕ) → table.request_at w.ioc tag ≡ Some (at.Command handle queue len written)
          → SaidStage (record w { ioc = (adapter.takes_back w.ioc (back.Result tag r)).part; back = rest }) (history_after h (entry.Take lane.Back (item.Back (back.Result tag r)) ∷ (adapter.takes_back w.ioc (back.Result tag r)).entries)) (commands.result_said tag handle len (commands.moved_by written r) r)
      result_stage a handle queue len written q = by_test (r.status == GOOD && commands.moved_by written r == len)
        where
          lead : stage_of (history_after h (entry.Take lane.Back (item.Back (back.Result tag r)) ∷ (adapter.takes_back w.ioc (back.Result tag r)).entries)) tag ≡ HasResult r
          lead = first_leads h tag (entry.Take lane.Back (item.Back (back.Result tag r))) (adapter.takes_back w.ioc (back.Result tag r)).entries (told (back.Result tag r) rest e) ∙ leads_to (stage_of h tag) (tag == tag) (TakesResult r) (same tag)

          its : is_command_asked (slot w.host tag) ≡ true → HasItsResult (history_after h (entry.Take lane.Back (item.Back (back.Result tag r)) ∷ (adapter.takes_back w.ioc (back.Result tag r)).entries)) tag (HasResult r) (slot w.host tag)
          its c =
              let n = asked_is (slot w.host tag) c in
              subst (HasItsResult (history_after h (entry.Take lane.Back (item.Back (back.Result tag r)) ∷ (adapter.takes_back w.ioc (back.Result tag r)).entries)) tag (HasResult r)) (sym n.1)
              (tame_out w h f tags (entry.Take lane.Back (item.Back (back.Result tag r)) ∷ (adapter.takes_back w.ioc (back.Result tag r)).entries) (tt, back_tame w.ioc (back.Result tag r)) n.0 r (outcome_is tag n.0 r n.1 a))

          framed : is_command_asked (slot w.host tag) ≡ true → said_in (Some (reply_frame (reply.Scsi handle tag r.status (commands.result_status (commands.moved_by written r) len) (commands.moved_by written r) (length r.sense)))) ≡ AResult
          framed c =
              let n = asked_is (slot w.host tag) c in
              let z = sent_of tag handle queue len n.0 written n.1 q in
              let u = fit n.0 r (outcome_is tag n.0 r n.1 a) in
              let i = inside w h f tag (request.Command n.0) n.1 in
              let m = z.moved r u.1 in
              ap says_status (scsi_fields handle tag r.status (commands.result_status (commands.moved_by written r) len) (commands.moved_by written r) (length r.sense) z.small (omega (arith, i)) u.0 (result_short (commands.moved_by written r) len) m (omega (arith, u))).0 ∙ result_says (commands.moved_by written r) len

          by_test : (b : Bool) → SaidStage (record w { ioc = (adapter.takes_back w.ioc (back.Result tag r)).part; back = rest }) (history_after h (entry.Take lane.Back (item.Back (back.Result tag r)) ∷ (adapter.takes_back w.ioc (back.Result tag r)).entries))
              (if b then said.Success tag r.payload r.sense else said.Framed tag (reply_frame (reply.Scsi handle tag r.status (commands.result_status (commands.moved_by written r) len) (commands.moved_by written r) (length r.sense))) r.payload r.sense)
          by_test true = follows (back.Result tag r) rest e tag None AResult (HasResult r) (λ c. refl) lead tt its
          by_test false = follows (back.Result tag r) rest e tag (Some (reply_frame (reply.Scsi handle tag r.status (commands.result_status (commands.moved_by written r) len) (commands.moved_by written r) (length r.sense)))) AResult (HasResult r) framed lead tt its
  takes_back (back.Gone tag) rest e =
      into (back.Gone tag) rest e (named (back.Gone tag) rest e tag (All-head HasTag (back.Gone tag) rest (subst (All HasTag) e (lane_tags w h f tags))) (let one : one_if (tag == tag) ≡ 1 = ap one_if (same tag) in omega (arith, one)) (λ s n. (n, silent s (adapter.takes_back w.ioc (back.Gone tag)).entries (told (back.Gone tag) rest e))))
      (λ tag2 r2 i. absurd (cc)) (λ tag2 i. subst (λ j. (handle queue len : ℕ) (written : Option ℕ) → table.request_at w.ioc j ≡ Some (at.Command handle queue len written) → SaidStage (record w { ioc = (adapter.takes_back w.ioc (back.Gone tag)).part; back = rest }) (history_after h (entry.Take lane.Back (item.Back (back.Gone tag)) ∷ (adapter.takes_back w.ioc (back.Gone tag)).entries)) (say.scsi_ended j handle IOC_STATUS_SCSI_DEVICE_NOT_THERE)) (own tag2 i) (λ handle queue len written q. end_stage handle queue len written q)) (λ tag2 i. absurd (cc))
    where
      own : (tag2 : ℕ) → back.Gone tag ≡ back.Gone tag2 → tag ≡ tag2
      own tag2 i = cc

      end_stage : (handle queue len : ℕ) (written : Option ℕ) → table.request_at w.ioc tag ≡ Some (at.Command handle queue len written) → SaidStage (record w { ioc = (adapter.takes_back w.ioc (back.Gone tag)).part; back = rest }) (history_after h (entry.Take lane.Back (item.Back (back.Gone tag)) ∷ (adapter.takes_back w.ioc (back.Gone tag)).entries)) (say.scsi_ended tag handle IOC_STATUS_SCSI_DEVICE_NOT_THERE)
      end_stage handle queue len written q =
          follows (back.Gone tag) rest e tag (Some (reply_frame (reply.Scsi handle tag 0 IOC_STATUS_SCSI_DEVICE_NOT_THERE 0 0))) NotThere HasGone
          (λ c. let n = asked_is (slot w.host tag) c in let z = sent_of tag handle queue len n.0 written n.1 q in let i = inside w h f tag (request.Command n.0) n.1 in ended_says tag handle IOC_STATUS_SCSI_DEVICE_NOT_THERE z.small (omega (arith, i)) (omega arith))
          (first_leads h tag (entry.Take lane.Back (item.Back (back.Gone tag))) (adapter.takes_back w.ioc (back.Gone tag)).entries (told (back.Gone tag) rest e) ∙ leads_to (stage_of h tag) (tag == tag) TakesGone (same tag)) tt (λ c. tt)
  takes_back (back.Terminated tag) rest e =
      into (back.Terminated tag) rest e (named (back.Terminated tag) rest e tag (All-head HasTag (back.Terminated tag) rest (subst (All HasTag) e (lane_tags w h f tags))) (let one : one_if (tag == tag) ≡ 1 = ap one_if (same tag) in omega (arith, one)) (λ s n. (n, silent s (adapter.takes_back w.ioc (back.Terminated tag)).entries (told (back.Terminated tag) rest e))))
      (λ tag2 r2 i. absurd (cc)) (λ tag2 i. absurd (cc)) (λ tag2 i. subst (λ j. (handle queue len : ℕ) (written : Option ℕ) → table.request_at w.ioc j ≡ Some (at.Command handle queue len written) → SaidStage (record w { ioc = (adapter.takes_back w.ioc (back.Terminated tag)).part; back = rest }) (history_after h (entry.Take lane.Back (item.Back (back.Terminated tag)) ∷ (adapter.takes_back w.ioc (back.Terminated tag)).entries)) (say.scsi_ended j handle IOC_STATUS_SCSI_TASK_TERMINATED)) (own tag2 i) (λ handle queue len written q. end_stage handle queue len written q))
    where
      own : (tag2 : ℕ) → back.Terminated tag ≡ back.Terminated tag2 → tag ≡ tag2
      own tag2 i = cc

      end_stage : (handle queue len : ℕ) (written : Option ℕ) → table.request_at w.ioc tag ≡ Some (at.Command handle queue len written) → SaidStage (record w { ioc = (adapter.takes_back w.ioc (back.Terminated tag)).part; back = rest }) (history_after h (entry.Take lane.Back (item.Back (back.Terminated tag)) ∷ (adapter.takes_back w.ioc (back.Terminated tag)).entries)) (say.scsi_ended tag handle IOC_STATUS_SCSI_TASK_TERMINATED)
      end_stage handle queue len written q =
          follows (back.Terminated tag) rest e tag (Some (reply_frame (reply.Scsi handle tag 0 IOC_STATUS_SCSI_TASK_TERMINATED 0 0))) Stopped HasTerminated
          (λ c. let n = asked_is (slot w.host tag) c in let z = sent_of tag handle queue len n.0 written n.1 q in let i = inside w h f tag (request.Command n.0) n.1 in ended_says tag handle IOC_STATUS_SCSI_TASK_TERMINATED z.small (omega (arith, i)) (omega arith))
          (first_leads h tag (entry.Take lane.Back (item.Back (back.Terminated tag))) (adapter.takes_back w.ioc (back.Terminated tag)).entries (told (back.Terminated tag) rest e) ∙ leads_to (stage_of h tag) (tag == tag) TakesTerminated (same tag)) tt (λ c. tt)
  takes_back (back.Aborted smid found) rest e = into (back.Aborted smid found) rest e (plainly (back.Aborted smid found) rest e (λ s. (refl, silent s (adapter.takes_back w.ioc (back.Aborted smid found)).entries (told (back.Aborted smid found) rest e)))) (λ tag r i. absurd (cc)) (λ tag i. absurd (cc)) (λ tag i. absurd (cc))
  takes_back (back.Cleared smid count) rest e = into (back.Cleared smid count) rest e (plainly (back.Cleared smid count) rest e (λ s. (refl, silent s (adapter.takes_back w.ioc (back.Cleared smid count)).entries (told (back.Cleared smid count) rest e)))) (λ tag r i. absurd (cc)) (λ tag i. absurd (cc)) (λ tag i. absurd (cc))
  takes_back (back.Plugged address plug expander phy) rest e = into (back.Plugged address plug expander phy) rest e (plainly (back.Plugged address plug expander phy) rest e (λ s. (refl, silent s (adapter.takes_back w.ioc (back.Plugged address plug expander phy)).entries (told (back.Plugged address plug expander phy) rest e)))) (λ tag r i. absurd (cc)) (λ tag i. absurd (cc)) (λ tag i. absurd (cc))
  takes_back (back.Unplugged address plug expander phy) rest e = into (back.Unplugged address plug expander phy) rest e (plainly (back.Unplugged address plug expander phy) rest e (λ s. (refl, silent s (adapter.takes_back w.ioc (back.Unplugged address plug expander phy)).entries (told (back.Unplugged address plug expander phy) rest e)))) (λ tag r i. absurd (cc)) (λ tag i. absurd (cc)) (λ tag i. absurd (cc))
  takes_back back.Discovered rest e = into back.Discovered rest e (plainly back.Discovered rest e (λ s. (refl, silent s (adapter.takes_back w.ioc back.Discovered).entries (told back.Discovered rest e)))) (λ tag r i. absurd (cc)) (λ tag i. absurd (cc)) (λ tag i. absurd (cc))
  takes_back (back.Linked generation) rest e = into (back.Linked generation) rest e (plainly (back.Linked generation) rest e (λ s. (refl, silent s (adapter.takes_back w.ioc (back.Linked generation)).entries (told (back.Linked generation) rest e)))) (λ tag r i. absurd (cc)) (λ tag i. absurd (cc)) (λ tag i. absurd (cc))
  takes_back back.Calm rest e = into back.Calm rest e (plainly back.Calm rest e (λ s. (refl, silent s (adapter.takes_back w.ioc back.Calm).entries (told back.Calm rest e)))) (λ tag r i. absurd (cc)) (λ tag i. absurd (cc)) (λ tag i. absurd (cc))
