-- What the descriptor of a post says of its record, and what the frame of task management names.
use Rattle.std.proofs.Common.{◌≡◌, ℕ, ◌+◌, ◌-◌, ◌%◌, ◌*◌, ◌^◌, ◌<◌, ◌≤◌, ◌==◌, ◌⊎◌, inl, inr, Bool, true, false, List, [], ◌∷◌, mod-lt, Option, Some, None, option_map, refl, ap, sym, ◌∙◌, subst, arith}
use Rattle.std.specs.Prelude.{All}
use Rattle.std.specs.FinMap as finmap
use Rattle.std.proofs.lemmas.List.Elements.{All-cons, All-head, All-nil, All-tail}
use Rattle.hex.specs.Hex.{IsBytes}
use Rattle.smid_pool.specs.Pool.{Free, Open, Parked, Slot}
use Rattle.mpi_rings.specs.declared.request_descriptor.PostKind.{PostKind}
use Rattle.mpi_rings.specs.declared.request_descriptor.PostKind.TheVariants as post
use Rattle.mpt_messages.specs.HostFrames.{scsi_io_asked, task_asked}
use Rattle.mpt_messages.specs.declared.host_ask.HostAsk.TheVariants as ask
use Rattle.mpt_messages.proofs.FrameStands.{host_frame_stands}
use Rattle.mpt_messages.proofs.HostFits.{task_fits}
use Rattle.scsi_disk.specs.declared.command.Command.{Command}
use Rattle.scsi_msgs.specs.ScsiIo.{scsi_io_layout, scsi_io_values}
use Rattle.scsi_msgs.specs.TaskAsk.{task_ask_layout, task_ask_values}
use Rattle.mpt_wire.specs.Machine.State.{OpenRequest}
use Rattle.mpt_wire.specs.Messages.Fields.{abort_task, dev_handle_in, kind_in, smid_in, target_reset, task_mid_in}
use Rattle.mpt_rules.specs.declared.post.Post.{Post}
use Rattle.mpt_rules.specs.declared.request.Request.{Request}
use Rattle.mpt_rules.specs.declared.request.Request.TheVariants as request
use Rattle.mpt_rules.specs.Host.Parts.{Cmd, host_queue_count}
use Rattle.mpt_rules.specs.Host.Posts.{command_asked, frame_asked, is_data_to_disk, padded_cdb}
use Rattle.mpt_rules.specs.World.Counts.{one_if}
use Rattle.mpt_rules.specs.World.Lines.{is_high}
use Rattle.mpt_rules.specs.World.State.{World}
use Rattle.law_facts.specs.Facts.{Facts}
use Rattle.law_facts.specs.History.{History}
use Rattle.law_facts.specs.Messages.{CommandPost, DefaultPost, PostIs, PostIsRecord, TaskPost}
use Rattle.law_facts.specs.Words.{is_command_asked, others, slot}
use Rattle.law_flights.proofs.Decode.{mid_asked}
use Rattle.law_flights.proofs.Descriptors.{kind_posted}
use Rattle.law_moves.proofs.Counted.{others-cons}
use Rattle.law_messages.proofs.Known.{command_of}
use Rattle.law_standing.proofs.FrameBytes.{field_lt, layout}
use Rattle.law_standing.proofs.PostsPass.{named}

-- ---- frames are bytes

command_bytes : (s handle : ℕ) (c : Command) → IsBytes (frame_asked (command_asked s handle c))
command_bytes s handle c = layout scsi_io_layout (scsi_io_values (scsi_io_asked s handle c.lun (padded_cdb c.cdb) (Rattle.std.proofs.Common.length c.cdb) c.len (is_data_to_disk c))) (128 - 108)

task_bytes : (handle task_type task : ℕ) → IsBytes (frame_asked (ask.Task handle task_type task))
task_bytes handle task_type task = layout task_ask_layout (task_ask_values (task_asked handle task_type task)) (128 - 52)

pub small_of_command : (s handle : ℕ) (c : Command) → dev_handle_in (frame_asked (command_asked s handle c)) < 2 ^ 16
small_of_command s handle c = field_lt (frame_asked (command_asked s handle c)) 0 2 (command_bytes s handle c)

pub small_of_task : (handle task_type task : ℕ) → dev_handle_in (frame_asked (ask.Task handle task_type task)) < 2 ^ 16
small_of_task handle task_type task = field_lt (frame_asked (ask.Task handle task_type task)) 0 2 (task_bytes handle task_type task)

reset_mid : (handle : ℕ) → handle < 2 ^ 16 → task_mid_in (frame_asked (ask.Task handle target_reset 0)) ≡ 0
unfolding task_ask_layout task_ask_values
reset_mid handle l = ap (λ vs. Rattle.std.proofs.Common.get_or vs 15 0) (host_frame_stands (ask.Task handle target_reset 0) (task_fits handle target_reset 0 l (inr (refl, refl)))).numbers

short : (d : ℕ) → smid_in d < 65536
short d = mod-lt _ (let z : 0 < 65536 = omega arith in z)

module _ (w : World) (h : History) (f : Facts w h) where
  -- a SCSI IO's post is a command's, and no other is
  pub data KindOf (p : Post) : Type 0 where
    OfCommand : (n : ℕ) → slot w.host (smid_in p.descriptor) ≡ Open (request.Command n) → kind_in p.descriptor ≡ Some post.ScsiIo → KindOf p
    OfOther : is_command_asked (slot w.host (smid_in p.descriptor)) ≡ false → (k : PostKind) → kind_in p.descriptor ≡ Some k → (k ≡ post.ScsiIo → ⊥) → KindOf p

  pub task_kind : (p : Post) (task_type task : ℕ) → TaskPost p task_type task → kind_in p.descriptor ≡ Some post.HighPriority
  task_kind p task_type task a = ap kind_in a.0 ∙ kind_posted post.HighPriority 0 (smid_in p.descriptor) 0 (omega arith) (short p.descriptor)

  default_kind : (p : Post) (a : Rattle.mpt_messages.specs.declared.host_ask.HostAsk.HostAsk) → DefaultPost p a → kind_in p.descriptor ≡ Some post.Default
  default_kind p a d = ap kind_in d.0 ∙ kind_posted post.Default 0 (smid_in p.descriptor) 0 (omega arith) (short p.descriptor)

  command_kind : (p : Post) (n : ℕ) → slot w.host (smid_in p.descriptor) ≡ Open (request.Command n) → (c : Option Cmd) (r : Option OpenRequest) → finmap.get w.host.cmds n ≡ c → CommandPost w p c r → kind_in p.descriptor ≡ Some post.ScsiIo
  command_kind p n e None r g a = absurd a
  command_kind p n e (Some c) None g a = absurd a
  command_kind p n e (Some c) (Some r) g a =
      let z : c.smid ≡ smid_in p.descriptor = same_smid c (ap (option_map (λ (x : Cmd). x.smid)) (sym g) ∙ command_of w h f n (smid_in p.descriptor) e) in
      let q = f.flights.sizes.some_queue in let few = f.flights.sizes.few_queues in
      let m : (c.smid - 1) % host_queue_count w.host < host_queue_count w.host = mod-lt (c.smid - 1) (let y : 0 < host_queue_count w.host = omega (arith, q) in y) in
      let s = short p.descriptor in
      ap kind_in a.0 ∙ kind_posted post.ScsiIo ((c.smid - 1) % host_queue_count w.host) c.smid c.handle (omega (arith, m, few)) (omega (arith, s, z))
    where
      same_smid : (c : Cmd) → Some c.smid ≡ Some (smid_in p.descriptor) → c.smid ≡ smid_in p.descriptor
      same_smid c e = cc

  high_apart : post.HighPriority ≡ post.ScsiIo → ⊥
  high_apart e = cc

  default_apart : post.Default ≡ post.ScsiIo → ⊥
  default_apart e = cc

  pub kind_of : (p : Post) → PostIsRecord w h p → KindOf p
  kind_of p a = by_slot (slot w.host (smid_in p.descriptor)) refl a
    where
      by_slot : (x : Slot Request) → slot w.host (smid_in p.descriptor) ≡ x → PostIs w h p x → KindOf p
      by_slot Free e a = absurd a
      by_slot Parked e a = absurd a
      by_slot (Open (request.Command n)) e a = OfCommand n e (command_kind p n e (finmap.get w.host.cmds n) (finmap.get h.machine.requests n) refl a)
      by_slot (Open (request.Abort n task)) e a = OfOther (ap is_command_asked e) post.HighPriority (task_kind p abort_task task a.0) high_apart
      by_slot (Open (request.TargetReset address)) e a = OfOther (ap is_command_asked e) post.HighPriority (task_kind p target_reset 0 a) high_apart
      by_slot (Open (request.Leave handle)) e a = OfOther (ap is_command_asked e) post.HighPriority (task_kind p target_reset 0 a.0) high_apart
      by_slot (Open (request.Page handle)) e a = OfOther (ap is_command_asked e) post.Default (default_kind p (ask.PageRead (smid_in p.descriptor) handle) a) default_apart
      by_slot (Open (request.Remove handle)) e a = OfOther (ap is_command_asked e) post.Default (default_kind p (ask.Remove handle) a) default_apart
      by_slot (Open (request.Ack event context)) e a = OfOther (ap is_command_asked e) post.Default (default_kind p (ask.Ack event context) a) default_apart
      by_slot (Open request.Notification) e a = OfOther (ap is_command_asked e) post.Default (default_kind p ask.Notification a) default_apart
      by_slot (Open request.PortEnable) e a = OfOther (ap is_command_asked e) post.Default (default_kind p ask.PortEnable a) default_apart

  some_kind : (a b : PostKind) → Some a ≡ Some b → a ≡ b
  some_kind a b e = cc

  -- a post of another kind names no command
  pub no_command : (p : Post) (k : PostKind) → PostIsRecord w h p → kind_in p.descriptor ≡ Some k → (k ≡ post.ScsiIo → ⊥) → is_command_asked (slot w.host (smid_in p.descriptor)) ≡ false
  no_command p k a e n = by_kind (kind_of p a)
    where
      by_kind : KindOf p → is_command_asked (slot w.host (smid_in p.descriptor)) ≡ false
      by_kind (OfCommand m o g) = absurd (n (some_kind k post.ScsiIo (sym e ∙ g)))
      by_kind (OfOther o j g m) = o

  -- a SCSI IO's post is a command's
  pub command_there : (p : Post) → PostIsRecord w h p → kind_in p.descriptor ≡ Some post.ScsiIo → (n : ℕ) × (slot w.host (smid_in p.descriptor) ≡ Open (request.Command n))
  command_there p a e = by_kind (kind_of p a)
    where
      by_kind : KindOf p → (n : ℕ) × (slot w.host (smid_in p.descriptor) ≡ Open (request.Command n))
      by_kind (OfCommand m o g) = (m, o)
      by_kind (OfOther o j g m) = absurd (m (some_kind j post.ScsiIo (sym g ∙ e)))

  pub scsi_kind : (p : Post) → PostIsRecord w h p → is_command_asked (slot w.host (smid_in p.descriptor)) ≡ true → kind_in p.descriptor ≡ Some post.ScsiIo
  scsi_kind p a c = by_kind (kind_of p a)
    where
      by_kind : KindOf p → kind_in p.descriptor ≡ Some post.ScsiIo
      by_kind (OfCommand m o g) = g
      by_kind (OfOther o j g m) = Rattle.law_messages.proofs.Agreeing.not_both (is_command_asked (slot w.host (smid_in p.descriptor))) o c

  high_kind : (d : ℕ) → is_high d ≡ true → kind_in d ≡ Some post.HighPriority
  high_kind d e = grind (arith, e)

  -- the high queue has no command
  pub none_high : (xs : List Post) → others (λ (p : Post). is_high p.descriptor) xs ≡ 0 → All (PostIsRecord w h) xs → All (λ (p : Post). is_command_asked (slot w.host (smid_in p.descriptor)) ≡ false) xs
  none_high [] z a = All-nil (λ (p : Post). is_command_asked (slot w.host (smid_in p.descriptor)) ≡ false)
  none_high (p ∷ xs) z a =
      let c = others-cons (λ (p : Post). is_high p.descriptor) p xs in
      All-cons (λ (p : Post). is_command_asked (slot w.host (smid_in p.descriptor)) ≡ false) p xs
      (no_command p post.HighPriority (All-head (PostIsRecord w h) p xs a) (high_kind p.descriptor (by_test (is_high p.descriptor) (omega (arith, c, z)))) high_apart)
      (none_high xs (omega (arith, c, z)) (All-tail (PostIsRecord w h) p xs a))
    where
      by_test : (b : Bool) → one_if (Rattle.std.proofs.Common.not b) ≡ 0 → b ≡ true
      by_test true z = refl
      by_test false z = absurd (omega (arith, z))

  pub high_is : (p : Post) (rest : List Post) → w.ioc.high ≡ p ∷ rest → kind_in p.descriptor ≡ Some post.HighPriority
  high_is p rest e =
      let c = others-cons (λ (p : Post). is_high p.descriptor) p rest in
      let z = subst (λ xs. others (λ (p : Post). is_high p.descriptor) xs ≡ 0) e f.flights.sorted.high in
      high_kind p.descriptor (by_test (is_high p.descriptor) (omega (arith, c, z)))
    where
      by_test : (b : Bool) → one_if (Rattle.std.proofs.Common.not b) ≡ 0 → b ≡ true
      by_test true z = refl
      by_test false z = absurd (omega (arith, z))

  -- what a post of task management names is what its record names
  pub mid_is : (p : Post) → PostIsRecord w h p → kind_in p.descriptor ≡ Some post.HighPriority → 1 ≤ task_mid_in p.frame → (n : ℕ) × (slot w.host (smid_in p.descriptor) ≡ Open (request.Abort n (task_mid_in p.frame)))
  mid_is p a k l = by_slot (slot w.host (smid_in p.descriptor)) refl a
    where
      resets : TaskPost p target_reset 0 → (n : ℕ) × (slot w.host (smid_in p.descriptor) ≡ Open (request.Abort n (task_mid_in p.frame)))
      resets a = let z = ap task_mid_in a.1 ∙ reset_mid (dev_handle_in p.frame) (subst (λ x. dev_handle_in x < 2 ^ 16) (sym a.1) (small_of_task (dev_handle_in p.frame) target_reset 0)) in absurd (omega (arith, l, z))

      others_not : (j : PostKind) → kind_in p.descriptor ≡ Some j → (j ≡ post.HighPriority → ⊥) → (n : ℕ) × (slot w.host (smid_in p.descriptor) ≡ Open (request.Abort n (task_mid_in p.frame)))
      others_not j e n = absurd (n (some_kind j post.HighPriority (sym e ∙ k)))

      by_slot : (x : Slot Request) → slot w.host (smid_in p.descriptor) ≡ x → PostIs w h p x → (n : ℕ) × (slot w.host (smid_in p.descriptor) ≡ Open (request.Abort n (task_mid_in p.frame)))
      by_slot Free e a = absurd a
      by_slot Parked e a = absurd a
      by_slot (Open (request.Command n)) e a = others_not post.ScsiIo (command_kind p n e (finmap.get w.host.cmds n) (finmap.get h.machine.requests n) refl a) (λ i. let c : post.ScsiIo ≡ post.HighPriority = i in cc)
      by_slot (Open (request.Abort n task)) e a =
          let t = a.0 in
          let b = named w h f (smid_in p.descriptor) n task e in
          let z = ap task_mid_in t.1 ∙ mid_asked (dev_handle_in p.frame) task (subst (λ x. dev_handle_in x < 2 ^ 16) (sym t.1) (small_of_task (dev_handle_in p.frame) abort_task task)) (omega (arith, b)) in
          (n, e ∙ ap (λ j. Open (request.Abort n j)) (sym z))
      by_slot (Open (request.TargetReset address)) e a = resets a
      by_slot (Open (request.Leave handle)) e a = resets a.0
      by_slot (Open (request.Page handle)) e a = others_not post.Default (default_kind p (ask.PageRead (smid_in p.descriptor) handle) a) (λ i. let c : post.Default ≡ post.HighPriority = i in cc)
      by_slot (Open (request.Remove handle)) e a = others_not post.Default (default_kind p (ask.Remove handle) a) (λ i. let c : post.Default ≡ post.HighPriority = i in cc)
      by_slot (Open (request.Ack event context)) e a = others_not post.Default (default_kind p (ask.Ack event context) a) (λ i. let c : post.Default ≡ post.HighPriority = i in cc)
      by_slot (Open request.Notification) e a = others_not post.Default (default_kind p ask.Notification a) (λ i. let c : post.Default ≡ post.HighPriority = i in cc)
      by_slot (Open request.PortEnable) e a = others_not post.Default (default_kind p ask.PortEnable a) (λ i. let c : post.Default ≡ post.HighPriority = i in cc)

  -- the handle in a command's frame fits
  pub small_handle : (p : Post) (n : ℕ) → slot w.host (smid_in p.descriptor) ≡ Open (request.Command n) → PostIsRecord w h p → dev_handle_in p.frame < 2 ^ 16
  small_handle p n e a = by_tables (finmap.get w.host.cmds n) (finmap.get h.machine.requests n) (subst (PostIs w h p) e a)
    where
      by_tables : (c : Option Cmd) (r : Option OpenRequest) → CommandPost w p c r → dev_handle_in p.frame < 2 ^ 16
      by_tables None r a = absurd a
      by_tables (Some c) None a = absurd a
      by_tables (Some c) (Some r) a = subst (λ x. dev_handle_in x < 2 ^ 16) (sym a.1) (small_of_command c.smid c.handle r.command)
