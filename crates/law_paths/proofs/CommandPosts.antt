-- What the controller reads of a command's post: it is no message that it refuses, and its handle is bound.
use Rattle.std.proofs.Common.{◌≡◌, ℕ, ◌+◌, ◌-◌, ◌%◌, ◌*◌, ◌/◌, ◌^◌, ◌<◌, ◌≤◌, ◌==◌, ◌||◌, nat_lt, not, if◌then◌else◌, Bool, true, false, List, [], ◌∷◌, get_or, length, slice_index, Option, Some, None, option_map, refl, ap, sym, ◌∙◌, subst, arith, mod-lt}
use Rattle.std.specs.FinMap as finmap
use Rattle.smid_pool.specs.Pool.{Open}
use Rattle.hex.specs.Hex.{IsBytes}
use Rattle.mpi_layout.specs.Rows.{field}
use Rattle.mpi_layout.proofs.Moves.{Stands-no_fault}
use Rattle.mpi_rings.specs.declared.request_descriptor.PostKind.TheVariants as post
use Rattle.mpt_messages.specs.Fault.{message_fault}
use Rattle.mpt_messages.specs.Function.{function_of}
use Rattle.mpt_messages.specs.HostFrames.{direction, element_flags, host_message, scsi_io_asked}
use Rattle.mpt_messages.specs.Refusal.{request_refusal, request_refusal_as}
use Rattle.mpt_messages.specs.declared.fault.MsgFault.TheVariants as refusal
use Rattle.mpt_messages.specs.declared.function.Function.TheVariants as function
use Rattle.mpt_messages.specs.declared.function.Kind.TheVariants as kind
use Rattle.mpt_messages.proofs.FrameStands.{host_frame_stands}
use Rattle.mpt_messages.proofs.FunctionByte.{request_known}
use Rattle.scsi_disk.specs.Command.{fits, is_write}
use Rattle.scsi_disk.specs.declared.command.Command.{Command}
use Rattle.scsi_msgs.specs.ScsiIo.{scsi_io_layout, scsi_io_values}
use Rattle.mpi_doorbell.specs.DoorRegisters.{is_fault}
use Rattle.mpi_doorbell.specs.declared.state.IocState.{IocState}
use Rattle.mpi_doorbell.specs.declared.state.IocState.TheVariants as ioc_state
use Rattle.mpt_wire.specs.Handles.Bindings.{Plug}
use Rattle.mpt_wire.specs.Machine.State.{OpenRequest}
use Rattle.mpt_wire.specs.Messages.Fields.{data_length_in, dev_handle_in, direction_in, element_flags_in, element_length_in, handle_in, post_descriptor, smid_in}
use Rattle.mpt_rules.specs.declared.binding.Binding.TheVariants as binding
use Rattle.mpt_rules.specs.declared.post.Post.{Post}
use Rattle.mpt_rules.specs.declared.request.Request.TheVariants as request
use Rattle.mpt_rules.specs.Host.Parts.{Cmd, host_queue_count}
use Rattle.mpt_rules.specs.Host.Posts.{command_asked, frame_asked, is_data_to_disk, padded_cdb}
use Rattle.mpt_rules.specs.Ioc.Commands as commands
use Rattle.mpt_rules.specs.Ioc.Parts.{state_of}
use Rattle.mpt_rules.specs.Ioc.Steps as step
use Rattle.mpt_rules.specs.Ioc.Tables.{binding_of, is_operational}
use Rattle.mpt_rules.specs.World.Counts.{one_if, queued_count}
use Rattle.mpt_rules.specs.World.Lines.{down_line, normal_line, normal_posts}
use Rattle.mpt_rules.specs.World.State.{World}
use Rattle.mpt_rules.proofs.Counts.{queued_count-append, queued_count-cons}
use Rattle.law_facts.specs.Clock.{is_live}
use Rattle.law_facts.specs.Facts.{Facts}
use Rattle.law_facts.specs.Handles.{BindingIs}
use Rattle.law_facts.specs.History.{History}
use Rattle.law_facts.specs.Messages.{CommandPost, PostIs, PostIsRecord}
use Rattle.law_facts.specs.Words.{is_bare, slot}
use Rattle.law_asked.proofs.ReadBack.{few, fit, handle_read, length_read}
use Rattle.law_messages.proofs.Agreeing.{same}
use Rattle.law_messages.proofs.Known.{classed, command_of}
use Rattle.law_paths.specs.Plain.{CommandsArePlain}
use Rattle.law_paths.proofs.IocCases.{CommandReads}

module _ (c : Command) (f : fits c ≡ true) (b : IsBytes c.cdb) (s handle : ℕ) (low : 1 ≤ s) (most : s ≤ 256) (small : handle < 2 ^ 16) (unit : c.lun ≡ 0) where
  direction_read : direction_in (frame_asked (command_asked s handle c)) ≡ direction c.len (is_data_to_disk c)
  unfolding scsi_io_layout scsi_io_values
  direction_read = ap (λ vs. get_or vs 30 0) (host_frame_stands (command_asked s handle c) (fit c f b s handle low most small unit)).numbers

  element_read : element_length_in (frame_asked (command_asked s handle c)) ≡ c.len
  unfolding scsi_io_layout scsi_io_values
  element_read = ap (λ vs. get_or vs 35 0) (host_frame_stands (command_asked s handle c) (fit c f b s handle low most small unit)).numbers

  flags_read : element_flags_in (frame_asked (command_asked s handle c)) ≡ element_flags (is_data_to_disk c)
  unfolding scsi_io_layout scsi_io_values
  flags_read = ap (λ vs. get_or vs 36 0) (host_frame_stands (command_asked s handle c) (fit c f b s handle low most small unit)).numbers

  unrefused : request_refusal (step.way_of post.ScsiIo) (frame_asked (command_asked s handle c)) ≡ None
  unrefused =
      let x = host_frame_stands (command_asked s handle c) (fit c f b s handle low most small unit) in
      let r = request_known kind.ScsiIo (host_message (command_asked s handle c)) (frame_asked (command_asked s handle c)) refl x in
      by_parts (frame_asked (command_asked s handle c)) r.enough (r.byte ∙ sym r.of_message) (Stands-no_fault scsi_io_layout (scsi_io_values (scsi_io_asked s handle c.lun (padded_cdb c.cdb) (length c.cdb) c.len (is_data_to_disk c))) (frame_asked (command_asked s handle c)) x)
    where
      by_length : (b : Bool) (n : ℕ) → nat_lt n 12 ≡ b → 12 ≤ n → b ≡ false
      by_length false n t e = refl
      by_length true n t e = absurd (grind (arith, t, e))

      by_parts : (bytes : List ℕ) → 12 ≤ length bytes → function_of (slice_index bytes 3) ≡ Some function.ScsiIo → Rattle.mpi_layout.specs.Rows.first_fault scsi_io_layout bytes ≡ None → request_refusal (step.way_of post.ScsiIo) bytes ≡ None
      by_parts bytes e g n =
          ap (λ b. if b then Some (refusal.Short 12 (length bytes)) else request_refusal_as (step.way_of post.ScsiIo) bytes (function_of (slice_index bytes 3))) (by_length (nat_lt (length bytes) 12) (length bytes) refl e)
          ∙ (ap (request_refusal_as (step.way_of post.ScsiIo) bytes) g ∙ ap (option_map message_fault) n)

  -- the parts of the transfer go together
  consistent : commands.is_inconsistent (frame_asked (command_asked s handle c)) c.payload ≡ false
  consistent =
      by_numbers (element_length_in F) (data_length_in F) (direction_in F) (element_flags_in F) element_read (length_read c f b s handle low most small unit) direction_read flags_read
    where
      F : List ℕ
      F = frame_asked (command_asked s handle c)

      payload_is : length c.payload ≡ (if is_write c.cdb then c.len else 0)
      payload_is = grind (arith, f)

      few_bytes : c.len ≤ 4096
      few_bytes = few c f b s handle low most small unit

      by_tests : (w z : Bool) → is_write c.cdb ≡ w → (c.len == 0) ≡ z
          → (not (c.len == c.len) || nat_lt commands.most_data c.len || commands.differ (direction c.len (is_data_to_disk c) == commands.no_data) (c.len == 0)
          || commands.differ (element_flags (is_data_to_disk c) == element_flags true) (direction c.len (is_data_to_disk c) == commands.to_disk)
          || not (length c.payload == (if direction c.len (is_data_to_disk c) == commands.to_disk then c.len else 0))) ≡ false
      by_tests w z t u = grind (arith, t, u, payload_is, few_bytes)

      by_numbers : (l d r g : ℕ) → l ≡ c.len → d ≡ c.len → r ≡ direction c.len (is_data_to_disk c) → g ≡ element_flags (is_data_to_disk c)
          → (not (l == d) || nat_lt commands.most_data d || commands.differ (r == commands.no_data) (d == 0) || commands.differ (g == element_flags true) (r == commands.to_disk) || not (length c.payload == (if r == commands.to_disk then d else 0))) ≡ false
      by_numbers l d r g i j k m =
          subst (λ x. (not (x == d) || nat_lt commands.most_data d || commands.differ (r == commands.no_data) (d == 0) || commands.differ (g == element_flags true) (r == commands.to_disk) || not (length c.payload == (if r == commands.to_disk then d else 0))) ≡ false) (sym i)
          (subst (λ x. (not (c.len == x) || nat_lt commands.most_data x || commands.differ (r == commands.no_data) (x == 0) || commands.differ (g == element_flags true) (r == commands.to_disk) || not (length c.payload == (if r == commands.to_disk then x else 0))) ≡ false) (sym j)
          (subst (λ x. (not (c.len == c.len) || nat_lt commands.most_data c.len || commands.differ (x == commands.no_data) (c.len == 0) || commands.differ (g == element_flags true) (x == commands.to_disk) || not (length c.payload == (if x == commands.to_disk then c.len else 0))) ≡ false) (sym k)
          (subst (λ x. (not (c.len == c.len) || nat_lt commands.most_data c.len || commands.differ (direction c.len (is_data_to_disk c) == commands.no_data) (c.len == 0) || commands.differ (x == element_flags true) (direction c.len (is_data_to_disk c) == commands.to_disk) || not (length c.payload == (if direction c.len (is_data_to_disk c) == commands.to_disk then c.len else 0))) ≡ false) (sym m)
          (by_tests (is_write c.cdb) (c.len == 0) refl refl))))

handle_of_descriptor : (m s handle : ℕ) → m < 256 → s < 65536 → handle_in (post_descriptor post.ScsiIo m s handle) ≡ handle
handle_of_descriptor m s handle a b = whole (0 + m * 2 ^ 8 + s * 2 ^ 16) handle (omega (arith, a, b))
  where
    whole : (x y : ℕ) → x < 2 ^ 48 → (x + y * 2 ^ 48) / 2 ^ 48 ≡ y
    whole x y l = omega (arith, l)

module _ (w : World) (h : History) (f : Facts w h) (plain : CommandsArePlain h) where
  pub reads : (p : Post) (n : ℕ) → PostIsRecord w h p → slot w.host (smid_in p.descriptor) ≡ Open (request.Command n) → CommandReads p
  reads p n a e = by_tables (finmap.get w.host.cmds n) (finmap.get h.machine.requests n) refl refl (subst (PostIs w h p) e a)
    where
      by_tables : (c : Option Cmd) (r : Option OpenRequest) → finmap.get w.host.cmds n ≡ c → finmap.get h.machine.requests n ≡ r → CommandPost w p c r → CommandReads p
      by_tables None r g i a = absurd a
      by_tables (Some c) None g i a = absurd a
      by_tables (Some c) (Some r) g i a =
          let k = classed w h f c.smid (request.Command n) ((f.flights.numbers n).command c g) in
          let l = f.limits.cmds n c g in
          let z = plain n r i in
          let t = (f.messages.named n).fit r i in
          let q = f.flights.sizes.some_queue in let few = f.flights.sizes.few_queues in
          let m : (c.smid - 1) % host_queue_count w.host < host_queue_count w.host = mod-lt (c.smid - 1) (let y : 0 < host_queue_count w.host = omega (arith, q) in y) in
          let hd = handle_of_descriptor ((c.smid - 1) % host_queue_count w.host) c.smid c.handle (omega (arith, m, few)) (omega (arith, k)) in
          let hr = handle_read r.command t z.0 c.smid c.handle (omega (arith, k)) (omega (arith, k)) (omega (arith, l)) z.1 in
          record {
            unrefused = ap (request_refusal (step.way_of post.ScsiIo)) a.1 ∙ unrefused r.command t z.0 c.smid c.handle (omega (arith, k)) (omega (arith, k)) (omega (arith, l)) z.1;
            handles = ap (λ d. handle_in d == dev_handle_in p.frame) a.0 ∙ (ap (λ x. x == dev_handle_in p.frame) hd ∙ (ap (λ x. c.handle == dev_handle_in x) a.1 ∙ (ap (λ x. c.handle == x) hr ∙ same c.handle)));
            consistent = ap (λ x. commands.is_inconsistent x p.payload) a.1 ∙ (ap (commands.is_inconsistent (frame_asked (command_asked c.smid c.handle r.command))) a.2 ∙ consistent r.command t z.0 c.smid c.handle (omega (arith, k)) (omega (arith, k)) (omega (arith, l)) z.1);
          }

  operational : (x : IocState) → is_fault x ≡ false → (is_bare x ≡ true → ⊥) → is_operational x ≡ true
  operational ioc_state.Operational a b = refl
  operational ioc_state.Reset a b = absurd (b refl)
  operational ioc_state.Ready a b = absurd (b refl)
  operational (ioc_state.Fault code) a b = absurd (cc)

  -- the handle of a command that is to be processed stands for a disk
  pub bound : (p : Post) (rest : List Post) (n : ℕ) → w.ioc.normal ≡ p ∷ rest → slot w.host (smid_in p.descriptor) ≡ Open (request.Command n) → binding_of w.ioc (dev_handle_in p.frame) ≡ binding.Unbound → ⊥
  bound p rest n e o u = by_tables (finmap.get w.host.cmds n) (finmap.get h.machine.requests n) refl refl (subst (PostIs w h p) o written)
    where
      written : PostIsRecord w h p
      written = Rattle.std.proofs.lemmas.List.Elements.All-head (PostIsRecord w h) p rest (subst (Rattle.std.specs.Prelude.All (PostIsRecord w h)) e f.messages.normal)

      live : is_live w ≡ true
      live = operational (state_of w.ioc) f.clock.phase_table.whole (λ b. none (f.clock.tables_empty b).normal)
        where
          none : w.ioc.normal ≡ [] → ⊥
          none z = let y : [] ≡ p ∷ rest = sym z ∙ e in cc

      under_way : (s : ℕ) → s ≡ smid_in p.descriptor → Rattle.law_facts.specs.Handles.is_under_way w s ≡ true
      under_way s i =
          let a = queued_count-append s w.ioc.normal (normal_posts (down_line w)) in
          let b = ap (queued_count s) e in
          let c = queued_count-cons s p rest in
          let d : one_if (smid_in p.descriptor == s) ≡ 1 = ap one_if (ap (λ x. smid_in p.descriptor == x) i ∙ same (smid_in p.descriptor)) in
          some (queued_count s (normal_line w)) (Rattle.law_facts.specs.Words.is_command (Rattle.mpt_rules.specs.Ioc.Tables.request_at w.ioc s)) (omega (arith, a, b, c, d))
        where
          some : (n : ℕ) (b : Bool) → 1 ≤ n → (not (n == 0) || b) ≡ true
          some n b l = by_test (n == 0) refl
            where
              by_test : (z : Bool) → (n == 0) ≡ z → (not z || b) ≡ true
              by_test false t = refl
              by_test true t = let y = Rattle.law_paths.proofs.Entries.equal n 0 t in absurd (omega (arith, l, y))

      unbound : (handle : ℕ) (plug : Option Plug) (q : Plug) → binding_of w.ioc handle ≡ binding.Unbound → BindingIs (binding_of w.ioc handle) plug → plug ≡ Some q → ⊥
      unbound handle plug q i b g = let y = subst (λ x. BindingIs x plug) i b in let z : None ≡ Some q = sym y ∙ g in cc

      by_tables : (c : Option Cmd) (r : Option OpenRequest) → finmap.get w.host.cmds n ≡ c → finmap.get h.machine.requests n ≡ r → CommandPost w p c r → ⊥
      by_tables None r g i a = a
      by_tables (Some c) None g i a = a
      by_tables (Some c) (Some r) g i a =
          let k = classed w h f c.smid (request.Command n) ((f.flights.numbers n).command c g) in
          let l = f.limits.cmds n c g in
          let z = plain n r i in
          let t = (f.messages.named n).fit r i in
          let hr = handle_read r.command t z.0 c.smid c.handle (omega (arith, k)) (omega (arith, k)) (omega (arith, l)) z.1 in
          let hd : dev_handle_in p.frame ≡ c.handle = ap dev_handle_in a.1 ∙ hr in
          let sm : c.smid ≡ smid_in p.descriptor = same_smid c (ap (option_map (λ (x : Cmd). x.smid)) (sym g) ∙ command_of w h f n (smid_in p.descriptor) o) in
          let b = f.handles.bound n c r live g i (under_way c.smid sm) in
          unbound c.handle (h.serving.bound c.handle) _ (subst (λ x. binding_of w.ioc x ≡ binding.Unbound) hd u) (f.handles.each c.handle l).binds.served b
        where
          same_smid : (c : Cmd) → Some c.smid ≡ Some (smid_in p.descriptor) → c.smid ≡ smid_in p.descriptor
          same_smid c e = cc
