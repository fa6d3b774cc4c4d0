-- Where the controller's cases leave commands.
use Rattle.std.proofs.Common.{◌≡◌, ℕ, zero, suc, ◌+◌, ◌^◌, ◌<◌, ◌≤◌, ◌==◌, ◌&&◌, ◌||◌, not, Bool, true, false, if◌then◌else◌, List, [], ◌∷◌, ◌++◌, Option, Some, None, refl, ap, sym, ◌∙◌, subst, arith}
use Rattle.std.specs.Prelude.{All}
use Rattle.std.specs.List.{find}
use Rattle.std.proofs.lemmas.List.Elements.{All-head, All-tail}
use Rattle.smid_pool.specs.Pool.{Open}
use Rattle.mpi_rings.specs.declared.request_descriptor.PostKind.TheVariants as post
use Rattle.mpt_messages.specs.IocFrames.{reply_frame}
use Rattle.mpt_messages.specs.Refusal.{request_refusal}
use Rattle.mpt_messages.specs.declared.fault.MsgFault.{MsgFault}
use Rattle.mpt_messages.specs.declared.ioc_reply.IocReply.TheVariants as reply
use Rattle.mpt_trace.specs.declared.entry.Entry.{Entry}
use Rattle.mpt_trace.specs.declared.entry.Entry.TheVariants as entry
use Rattle.mpt_trace.specs.declared.item.Out.{Out}
use Rattle.mpt_trace.specs.declared.item.Out.TheVariants as out
use Rattle.mpt_wire.specs.Messages.Fields.{dev_handle_in, flags_in, handle_in, kind_in, smid_in, task_mid_in}
use Rattle.mpt_wire.specs.Messages.Naming.{NotThere, Stopped, said_in, says_status}
use Rattle.mpt_wire.specs.Paths.Stages.{AtController}
use Rattle.mpt_wire.specs.Walks.Passes.{EachEntry}
use Rattle.mpt_rules.specs.declared.binding.Binding.TheVariants as binding
use Rattle.mpt_rules.specs.declared.post.Post.{Post}
use Rattle.mpt_rules.specs.declared.request.Request.TheVariants as request
use Rattle.mpt_rules.specs.declared.said.Said.TheVariants as said
use Rattle.mpt_rules.specs.declared.status.TheConstants.{IOC_STATUS_SCSI_DEVICE_NOT_THERE, IOC_STATUS_SCSI_TASK_TERMINATED}
use Rattle.mpt_rules.specs.Ioc.Commands as commands
use Rattle.mpt_rules.specs.Ioc.Parts.{Ioc}
use Rattle.mpt_rules.specs.Ioc.Replies as say
use Rattle.mpt_rules.specs.Ioc.Steps as step
use Rattle.mpt_rules.specs.Ioc.Tables as table
use Rattle.mpt_rules.specs.Ioc.Tasks as tasks
use Rattle.mpi_rings.specs.RequestDescriptor.{flags_of}
use Rattle.mpt_rules.specs.World.Counts.{how_many, one_if, queued_count}
use Rattle.mpt_rules.specs.World.Lines.{is_high}
use Rattle.mpt_rules.proofs.Counts.{queued_count-cons}
use Rattle.law_moves.proofs.Counted.{how_many-cons}
use Rattle.mpt_rules.specs.World.State.{World}
use Rattle.law_facts.specs.Facts.{Facts}
use Rattle.law_facts.specs.History.{History, history_after}
use Rattle.law_facts.specs.Messages.{PostIsRecord}
use Rattle.law_facts.specs.Paths.{AbortWasTaken, HasItsResult, MayReply, SaidStage, stage_of}
use Rattle.law_facts.specs.Words.{is_command_asked, slot}
use Rattle.law_flights.proofs.IocTold.{told_high, told_normal}
use Rattle.law_flights.proofs.Told.{IsTold}
use Rattle.law_flights.proofs.WorkLeaves.{GoneHandle, Inconsistent, NoHandle, OtherHandle, ScsiCause, works_leaf}
use Rattle.law_machine.proofs.Decoded.{scsi_fields}
use Rattle.law_messages.proofs.Agreeing.{all_same, not_both}
use Rattle.law_messages.proofs.IocQueues.{queued_works}
use Rattle.law_messages.proofs.PostsKept.{found_all, found_passes}
use Rattle.law_messages.proofs.Requests.{IsTame}
use Rattle.law_messages.proofs.TameTold.{works_tame}
use Rattle.law_paths.specs.Staged.{At, OutAt, PostAt, Staged}
use Rattle.law_paths.specs.Tags.{TagsFit}
use Rattle.law_paths.proofs.Entries.{IsQuiet, equal, mark_stays, same, silent}
use Rattle.law_paths.proofs.FabricCases.{quietly}
use Rattle.law_paths.proofs.Giving.{Gives, is_task, works}
use Rattle.law_paths.proofs.PostKinds.{command_there, high_is, mid_is, no_command, none_high, small_handle}
use Rattle.law_paths.proofs.Moves.{asked_is, is_asked}

-- entries that a party tells and that accept, answer and run nothing name no command
pub told_quiet : (t : List Entry) → EachEntry IsTold t → EachEntry IsTame t → EachEntry IsQuiet t
told_quiet [] a b = tt
told_quiet (e ∷ t) a b = (one e a.0 b.0, told_quiet t a.1 b.1)
  where
    one : (e : Entry) → IsTold e → IsTame e → IsQuiet e
    one (entry.Given i) p q = tt
    one (entry.Idle x) p q = tt
    one (entry.Put l x) p q = absurd p
    one (entry.Take l x) p q = absurd p
    one (entry.Bind handle a k) p q = tt
    one (entry.Unbind handle) p q = tt
    one entry.UnbindAll p q = tt
    one (entry.Run a k) p q = absurd q
    one entry.HostUp p q = tt
    one (entry.Ready a handle) p q = tt
    one (entry.Lost a handle) p q = tt
    one (entry.Accept n a k) p q = absurd q
    one (entry.RefuseSubmit n cause) p q = tt
    one (entry.Refuse call cause) p q = tt
    one (entry.Answer n how) p q = absurd q
    one (entry.AbortEnd n how) p q = tt
    one (entry.TargetEnd a how) p q = tt
    one entry.ResetDone p q = absurd p

-- a command's post is read as it was written
pub record CommandReads (p : Post) : Type 0 where
  pub unrefused : request_refusal (step.way_of post.ScsiIo) p.frame ≡ None
  pub handles : (handle_in p.descriptor == dev_handle_in p.frame) ≡ true
  pub consistent : commands.is_inconsistent p.frame p.payload ≡ false

pub no_events : (v : World) (k : History) (frame page sense : List ℕ) → SaidStage v k (said.Framed 0 frame page sense)
no_events v k frame page sense = λ e. absurd (cc)

pub no_orders : (v : World) (k : History) (x : Out) → is_task x ≡ false → OutAt v k AtController x
no_orders v k (out.Task tag a c) e = absurd (cc)
no_orders v k (out.Abort q task) e = tt
no_orders v k (out.TargetReset q a) e = tt
no_orders v k out.Discover e = tt
no_orders v k (out.Link generation) e = tt
no_orders v k out.Stop e = tt

-- what the reply to a command that moved nothing says
pub ended_says : (s handle status : ℕ) → handle < 2 ^ 16 → s < 2 ^ 16 → status < 2 ^ 16 → said_in (Some (reply_frame (reply.Scsi handle s 0 status 0 0))) ≡ says_status status
ended_says s handle status a b c = ap says_status (scsi_fields handle s 0 status 0 0 a b (omega arith) c (omega arith) (omega arith)).0

pub short_smid : (d : ℕ) → smid_in d < 2 ^ 16
short_smid d = Rattle.std.proofs.Common.mod-lt _ (let z : 0 < 65536 = omega arith in z)

none_some : {X T : Type 0} (o : Option X) (x : X) → o ≡ None → o ≡ Some x → T
none_some None x a b = absurd (cc)
none_some (Some y) x a b = absurd (cc)

is_high_kind : (d : ℕ) → kind_in d ≡ Some post.HighPriority → is_high d ≡ true
is_high_kind d e = by_tests (flags_in d == flags_of post.ScsiIo) (flags_in d == flags_of post.HighPriority) (flags_in d == flags_of post.Default) refl e
  where
    by_tests : (a b c : Bool) → (flags_in d == flags_of post.HighPriority) ≡ b → (if a then Some post.ScsiIo else (if b then Some post.HighPriority else (if c then Some post.Default else None))) ≡ Some post.HighPriority → (flags_in d == flags_of post.HighPriority) ≡ true
    by_tests true b c t e = absurd (cc)
    by_tests false true c t e = t
    by_tests false false true t e = absurd (cc)
    by_tests false false false t e = absurd (cc)

middle_true : (a b c : Bool) → (a && b && c) ≡ true → b ≡ true
middle_true true true c e = refl
middle_true true false c e = absurd (cc)
middle_true false b c e = absurd (cc)

module _ (w : World) (h : History) (f : Facts w h) (tags : TagsFit w)
    (reads : (p : Post) (n : ℕ) → PostIsRecord w h p → slot w.host (smid_in p.descriptor) ≡ Open (request.Command n) → CommandReads p)
    (bound : (p : Post) (rest : List Post) (n : ℕ) → w.ioc.normal ≡ p ∷ rest → slot w.host (smid_in p.descriptor) ≡ Open (request.Command n) → table.binding_of w.ioc (dev_handle_in p.frame) ≡ binding.Unbound → ⊥) where
  -- ---- a step of work, on a controller that has the queues still to come

  module _ (i : Ioc) (alike : i ≡ record w.ioc { high = i.high; normal = i.normal }) (p : Post) (there : PostIsRecord w h p) (highs : All (λ (p : Post). is_command_asked (slot w.host (smid_in p.descriptor)) ≡ false) i.high) (normals : All (PostIsRecord w h) i.normal) where
    abbrev V : World
    V = record w { ioc = (step.works_on i p).part }

    abbrev K : History
    K = history_after h (step.works_on i p).entries

    module _ (quiet : EachEntry IsQuiet (step.works_on i p).entries) (z : Staged V K w)
        (queues : All (PostAt V K AtController) i.normal)
        (sent : kind_in p.descriptor ≡ Some post.ScsiIo → At V K AtController (smid_in p.descriptor))
        (bound_here : (n : ℕ) → slot w.host (smid_in p.descriptor) ≡ Open (request.Command n) → table.binding_of i (dev_handle_in p.frame) ≡ binding.Unbound → ⊥)
        (marked : kind_in p.descriptor ≡ Some post.HighPriority → 1 ≤ queued_count (smid_in p.descriptor) w.ioc.high) where
      stopped : (stop : Post) → kind_in p.descriptor ≡ Some post.HighPriority → find (tasks.is_scsi_post (task_mid_in p.frame) (dev_handle_in p.frame)) i.normal ≡ Some stop → SaidStage V K (say.scsi_ended (smid_in stop.descriptor) (dev_handle_in stop.frame) IOC_STATUS_SCSI_TASK_TERMINATED)
      stopped stop kd e c =
          let n = asked_is (slot w.host (smid_in stop.descriptor)) c in
          let b = found_all (PostIsRecord w h) (tasks.is_scsi_post (task_mid_in p.frame) (dev_handle_in p.frame)) i.normal stop e normals in
          let g = found_all (PostAt V K AtController) (tasks.is_scsi_post (task_mid_in p.frame) (dev_handle_in p.frame)) i.normal stop e queues c in
          let y = ended_says (smid_in stop.descriptor) (dev_handle_in stop.frame) IOC_STATUS_SCSI_TASK_TERMINATED (small_handle w h f stop n.0 n.1 b) (short_smid stop.descriptor) (omega arith) in
          let t : smid_in stop.descriptor ≡ task_mid_in p.frame = is_mid (found_passes (tasks.is_scsi_post (task_mid_in p.frame) (dev_handle_in p.frame)) i.normal stop e) in
          let l = Rattle.law_messages.proofs.Known.inside w h f (smid_in stop.descriptor) (request.Command n.0) n.1 in
          let o = mid_is w h f p there kd (omega (arith, l, t)) in
          let m = subst (AbortWasTaken w h (smid_in p.descriptor)) o.1 (f.paths.taken (smid_in p.descriptor)) (marked kd) (subst (λ j. is_command_asked (slot w.host j) ≡ true) t c) in
          let mk = mark_stays h (step.works_on i p).entries (smid_in stop.descriptor) (silent (smid_in stop.descriptor) (step.works_on i p).entries quiet) (subst (λ j. (h.walk j).stopped ≡ true) (sym t) m) in (
            subst (λ a. MayReply K (smid_in stop.descriptor) a (stage_of K (smid_in stop.descriptor))) (sym y)
                (subst (MayReply K (smid_in stop.descriptor) Stopped) (sym g) mk),
            subst (λ a. HasItsResult K (smid_in stop.descriptor) a (slot w.host (smid_in stop.descriptor))) (sym g) tt,
          )
        where
          is_mid : tasks.is_scsi_post (task_mid_in p.frame) (dev_handle_in p.frame) stop ≡ true → smid_in stop.descriptor ≡ task_mid_in p.frame
          is_mid e = equal (smid_in stop.descriptor) (task_mid_in p.frame) (middle_true (flags_in stop.descriptor == flags_of post.ScsiIo) (smid_in stop.descriptor == task_mid_in p.frame) (dev_handle_in stop.frame == dev_handle_in p.frame) e)

      ends : (status : ℕ) → kind_in p.descriptor ≡ Some post.ScsiIo → ScsiCause i p status → SaidStage V K (say.scsi_ended (smid_in p.descriptor) (dev_handle_in p.frame) status)
      ends status kd cause c = by_cause cause
        where
          n : (n : ℕ) × (slot w.host (smid_in p.descriptor) ≡ Open (request.Command n))
          n = asked_is (slot w.host (smid_in p.descriptor)) c

          r : CommandReads p
          r = reads p (asked_is (slot w.host (smid_in p.descriptor)) c).0 there (asked_is (slot w.host (smid_in p.descriptor)) c).1

          by_cause : ScsiCause i p status → MayReply K (smid_in p.descriptor) (said_in (Some (reply_frame (reply.Scsi (dev_handle_in p.frame) (smid_in p.descriptor) 0 status 0 0)))) (stage_of K (smid_in p.descriptor))
              × HasItsResult K (smid_in p.descriptor) (stage_of K (smid_in p.descriptor)) (slot w.host (smid_in p.descriptor))
          by_cause (OtherHandle a s) = not_both (handle_in p.descriptor == dev_handle_in p.frame) a r.handles
          by_cause (Inconsistent a s) = not_both (commands.is_inconsistent p.frame p.payload) r.consistent a
          by_cause (NoHandle a s) = absurd (bound_here n.0 n.1 a)
          by_cause (GoneHandle address a s) =
              let y = ended_says (smid_in p.descriptor) (dev_handle_in p.frame) IOC_STATUS_SCSI_DEVICE_NOT_THERE (small_handle w h f p n.0 n.1 there) (short_smid p.descriptor) (omega arith) in
              let g = sent kd c in (
                subst (λ j. MayReply K (smid_in p.descriptor) (said_in (Some (reply_frame (reply.Scsi (dev_handle_in p.frame) (smid_in p.descriptor) 0 j 0 0)))) (stage_of K (smid_in p.descriptor))) (sym s)
                    (subst (λ j. MayReply K (smid_in p.descriptor) j (stage_of K (smid_in p.descriptor))) (sym y)
                    (subst (MayReply K (smid_in p.descriptor) NotThere) (sym g) tt)),
                subst (λ j. HasItsResult K (smid_in p.descriptor) j (slot w.host (smid_in p.descriptor))) (sym g) tt,
              )

      unrefused : (r : MsgFault) → kind_in p.descriptor ≡ Some post.ScsiIo → request_refusal (step.way_of post.ScsiIo) p.frame ≡ Some r → ⊥
      unrefused r kd e = let n = command_there w h f p there kd in none_some (request_refusal (step.way_of post.ScsiIo) p.frame) r (reads p n.0 there n.1).unrefused e

      gives : Gives (SaidStage V K) (OutAt V K AtController) i.up i.out
      gives =
          subst (λ (x : Ioc). Gives (SaidStage V K) (OutAt V K AtController) x.up x.out) (sym alike)
          (record { said = z.said; out = z.sending })

      pub worked : Staged V K V
      worked =
          let g =
          works (SaidStage V K) (OutAt V K AtController)
          (no_events V K) (no_orders V K) i p
          (λ kd frame page sense c. not_both (is_command_asked (slot w.host (smid_in p.descriptor))) (no_command w h f p post.HighPriority there kd (λ x. let y : post.HighPriority ≡ post.ScsiIo = x in cc)) c)
          (λ kd frame page sense c. not_both (is_command_asked (slot w.host (smid_in p.descriptor))) (no_command w h f p post.Default there kd (λ x. let y : post.Default ≡ post.ScsiIo = x in cc)) c)
          unrefused ends (λ kd address command. sent kd) stopped (step.works_on i p) (works_leaf i p) gives in
          let q = queued_works (PostAt V K AtController) i p (all_same (λ (p : Post). is_command_asked (slot w.host (smid_in p.descriptor)) ≡ false) (PostAt V K AtController) (λ p n c. not_both (is_command_asked (slot w.host (smid_in p.descriptor))) n c) i.high highs, queues) in
          record { out = z.out; down = z.down; normal = q.1; sending = g.out; sent = z.sent; tasks = z.tasks; made = z.made; back = z.back; said = g.said; up = z.up }

  high_record : (p : Post) (rest : List Post) → w.ioc.high ≡ p ∷ rest → PostIsRecord w h p
  high_record p rest e = All-head (PostIsRecord w h) p rest (subst (All (PostIsRecord w h)) e f.messages.high)

  normal_record : (p : Post) (rest : List Post) → w.ioc.normal ≡ p ∷ rest → PostIsRecord w h p
  normal_record p rest e = All-head (PostIsRecord w h) p rest (subst (All (PostIsRecord w h)) e f.messages.normal)

  highs_none : All (λ (p : Post). is_command_asked (slot w.host (smid_in p.descriptor)) ≡ false) w.ioc.high
  highs_none = none_high w h f w.ioc.high f.flights.sorted.high f.messages.high

  pub works_high : (p : Post) (rest : List Post) → w.ioc.high ≡ p ∷ rest
      → Staged (record w { ioc = (step.works_on (record w.ioc { high = rest }) p).part }) (history_after h (step.works_on (record w.ioc { high = rest }) p).entries) (record w { ioc = (step.works_on (record w.ioc { high = rest }) p).part })
  works_high p rest e =
      let i : Ioc = record w.ioc { high = rest } in
      let quiet = told_quiet (step.works_on i p).entries (told_high w.ioc (p ∷ rest)) (works_tame i p) in
      let z = quietly w h f tags (record w { ioc = (step.works_on i p).part }) (step.works_on i p).entries refl (λ s. silent s (step.works_on i p).entries quiet) (works_tame i p) in
      let kd = high_is w h f p rest e in
      worked i refl p (high_record p rest e) (All-tail (λ (p : Post). is_command_asked (slot w.host (smid_in p.descriptor)) ≡ false) p rest (subst (All (λ (p : Post). is_command_asked (slot w.host (smid_in p.descriptor)) ≡ false)) e highs_none)) f.messages.normal quiet z z.normal
      (λ g. no_scsi p kd g) (λ n o u. no_scsi_there p rest e kd n o)
      (λ g. let c = queued_count-cons (smid_in p.descriptor) p rest in let o : one_if (smid_in p.descriptor == smid_in p.descriptor) ≡ 1 = ap one_if (same (smid_in p.descriptor)) in let y = ap (queued_count (smid_in p.descriptor)) e in omega (arith, c, o, y))
    where
      no_scsi : {T : Type 0} (p : Post) → kind_in p.descriptor ≡ Some post.HighPriority → kind_in p.descriptor ≡ Some post.ScsiIo → T
      no_scsi p a b = let c : Some post.HighPriority ≡ Some post.ScsiIo = sym a ∙ b in absurd (cc)

      no_scsi_there : (p : Post) (rest : List Post) → w.ioc.high ≡ p ∷ rest → kind_in p.descriptor ≡ Some post.HighPriority → (n : ℕ) → slot w.host (smid_in p.descriptor) ≡ Open (request.Command n) → ⊥
      no_scsi_there p rest e kd n o =
          not_both (is_command_asked (slot w.host (smid_in p.descriptor))) (no_command w h f p post.HighPriority (high_record p rest e) kd (λ x. let y : post.HighPriority ≡ post.ScsiIo = x in cc)) (is_asked (slot w.host (smid_in p.descriptor)) n o)

  pub works_normal : (p : Post) (rest : List Post) → w.ioc.normal ≡ p ∷ rest
      → Staged (record w { ioc = (step.works_on (record w.ioc { normal = rest }) p).part }) (history_after h (step.works_on (record w.ioc { normal = rest }) p).entries) (record w { ioc = (step.works_on (record w.ioc { normal = rest }) p).part })
  works_normal p rest e =
      let i : Ioc = record w.ioc { normal = rest } in
      let v : World = record w { ioc = (step.works_on i p).part } in
      let k = history_after h (step.works_on i p).entries in
      let quiet = told_quiet (step.works_on i p).entries (told_normal w.ioc (p ∷ rest)) (works_tame i p) in
      let z = quietly w h f tags v (step.works_on i p).entries refl (λ s. silent s (step.works_on i p).entries quiet) (works_tame i p) in
      let n = subst (All (PostAt v k AtController)) e z.normal in
      worked i refl p (normal_record p rest e) highs_none (All-tail (PostIsRecord w h) p rest (subst (All (PostIsRecord w h)) e f.messages.normal)) quiet z (All-tail (PostAt v k AtController) p rest n)
      (λ g. All-head (PostAt v k AtController) p rest n) (λ m o u. bound p rest m e o u) (λ g. not_high p rest e g)
    where
      not_high : {T : Type 0} (p : Post) (rest : List Post) → w.ioc.normal ≡ p ∷ rest → kind_in p.descriptor ≡ Some post.HighPriority → T
      not_high {T} p rest e g = by_test (is_high p.descriptor) refl
        where
          by_test : (b : Bool) → is_high p.descriptor ≡ b → T
          by_test false t = let z : is_high p.descriptor ≡ true = is_high_kind p.descriptor g in not_both (is_high p.descriptor) t z
          by_test true t =
              let z = subst (λ xs. how_many (λ (p : Post). is_high p.descriptor) xs ≡ 0) e f.flights.sorted.normal in
              let c = how_many-cons (λ (p : Post). is_high p.descriptor) p rest in
              let o : one_if (is_high p.descriptor) ≡ 1 = ap one_if t in
              absurd (omega (arith, z, c, o))
