-- What a post opens for the rule of counts and for the view: what the record of its identifier names.
use Rattle.std.proofs.Common.{◌≡◌, ℕ, ◌==◌, ◌&&◌, inl, inr, Bool, true, false, if◌then◌else◌, List, Option, Some, None, refl, ap, sym, ◌∙◌, arith}
use Rattle.std.specs.FinMap as finmap
use Rattle.mpi_rings.specs.declared.request_descriptor.PostKind.TheVariants as post
use Rattle.mpt_messages.specs.Function.{byte_of}
use Rattle.mpt_messages.specs.declared.function.Function.TheVariants as function
use Rattle.smid_pool.specs.Pool.{Slot, Free, Open, Parked}
use Rattle.mpt_wire.specs.Machine.SoFar.{asks_target_reset}
use Rattle.mpt_wire.specs.Machine.State.{OpenRequest}
use Rattle.mpt_wire.specs.Messages.Fields.{abort_task, function_in, kind_in, post_descriptor, smid_in, target_reset, task_mid_in, task_type_in}
use Rattle.mpt_wire.specs.Messages.Naming.{is_high_priority}
use Rattle.mpt_wire.specs.Paths.TerminationCounts.{AReset, AnAbort, HighPost, NoPost, NotSent, opened_by}
use Rattle.mpt_rules.specs.declared.post.Post.{Post}
use Rattle.mpt_rules.specs.declared.request.Request.{Request}
use Rattle.mpt_rules.specs.declared.request.Request.TheVariants as request
use Rattle.mpt_rules.specs.Host.Parts.{Cmd}
use Rattle.mpt_rules.specs.World.State.{World}
use Rattle.law_facts.specs.Facts.{Facts}
use Rattle.law_facts.specs.History.{History}
use Rattle.law_facts.specs.Messages.{CommandPost, PostIs, PostIsRecord}
use Rattle.law_facts.specs.Words.{slot}
use Rattle.law_flights.proofs.Descriptors.{kind_posted}
use Rattle.law_messages.proofs.Known.{inside}
use Rattle.law_standing.proofs.PostsPass as passed
use Rattle.law_counts.proofs.Frames.{TaskReads, ack_no_task, command_no_task, enable_no_task, notification_no_task, page_no_task, removal_no_task, task_reads}

-- what a request opens, and whether it is a target reset
abbrev pub opened_for : Request → HighPost
opened_for (request.Abort n task) = AnAbort task NotSent
opened_for (request.TargetReset address) = AReset NotSent
opened_for (request.Leave handle) = AReset NotSent
opened_for r = NoPost

abbrev pub resets_a_target : Request → Bool
resets_a_target (request.TargetReset address) = true
resets_a_target (request.Leave handle) = true
resets_a_target r = false

pub record PostSays (p : Post) (r : Request) : Type 0 where
  pub opens : opened_by p.descriptor p.frame ≡ opened_for r
  pub resets : asks_target_reset p.frame ≡ resets_a_target r

-- by tests of the frame and the descriptor
opened_if : (high task abort reset : Bool) (mid : ℕ) → HighPost
opened_if high task abort reset mid = if high && task && abort then AnAbort mid NotSent else (if high && task && reset then AReset NotSent else NoPost)

pub says_none : (p : Post) (r : Request) → opened_for r ≡ NoPost → resets_a_target r ≡ false → (function_in p.frame == byte_of function.TaskManagement) ≡ false → PostSays p r
says_none p r a b e = by_tests (is_high_priority (kind_in p.descriptor)) (function_in p.frame == byte_of function.TaskManagement) (task_type_in p.frame == abort_task) (task_type_in p.frame == target_reset) refl refl refl refl e
  where
    by_tests : (x y u v : Bool) → is_high_priority (kind_in p.descriptor) ≡ x → (function_in p.frame == byte_of function.TaskManagement) ≡ y → (task_type_in p.frame == abort_task) ≡ u → (task_type_in p.frame == target_reset) ≡ v → y ≡ false → PostSays p r
    by_tests x true u v e1 e2 e3 e4 z = absurd (cc)
    by_tests true false u v e1 e2 e3 e4 z =
        record {
          opens = ap (λ k. if is_high_priority (kind_in p.descriptor) && k && (task_type_in p.frame == abort_task) then AnAbort (task_mid_in p.frame) NotSent else (if is_high_priority (kind_in p.descriptor) && k && (task_type_in p.frame == target_reset) then AReset NotSent else NoPost)) e2 ∙ (ap (λ k. if k && false && (task_type_in p.frame == abort_task) then AnAbort (task_mid_in p.frame) NotSent else (if k && false && (task_type_in p.frame == target_reset) then AReset NotSent else NoPost)) e1 ∙ sym a);
          resets = ap (λ k. k && (task_type_in p.frame == target_reset)) e2 ∙ sym b;
        }
    by_tests false false u v e1 e2 e3 e4 z =
        record {
          opens = ap (λ k. if k && (function_in p.frame == byte_of function.TaskManagement) && (task_type_in p.frame == abort_task) then AnAbort (task_mid_in p.frame) NotSent else (if k && (function_in p.frame == byte_of function.TaskManagement) && (task_type_in p.frame == target_reset) then AReset NotSent else NoPost)) e1 ∙ sym a;
          resets = ap (λ k. k && (task_type_in p.frame == target_reset)) e2 ∙ sym b;
        }

high_is : (p : Post) → kind_in p.descriptor ≡ Some post.HighPriority → is_high_priority (kind_in p.descriptor) ≡ true
high_is p k = ap is_high_priority k

says_abort : (p : Post) (n task : ℕ) → kind_in p.descriptor ≡ Some post.HighPriority → TaskReads p.frame abort_task task → PostSays p (request.Abort n task)
says_abort p n task k t =
    let a = high_is p k in
    let b = t.function in let c = t.kind in let d = t.names in
    record {
      opens = ap (λ x. if x && (function_in p.frame == byte_of function.TaskManagement) && (task_type_in p.frame == abort_task) then AnAbort (task_mid_in p.frame) NotSent else (if x && (function_in p.frame == byte_of function.TaskManagement) && (task_type_in p.frame == target_reset) then AReset NotSent else NoPost)) a
          ∙ (ap (λ x. if (x == byte_of function.TaskManagement) && (task_type_in p.frame == abort_task) then AnAbort (task_mid_in p.frame) NotSent else (if (x == byte_of function.TaskManagement) && (task_type_in p.frame == target_reset) then AReset NotSent else NoPost)) b
          ∙ (ap (λ x. if x == abort_task then AnAbort (task_mid_in p.frame) NotSent else (if x == target_reset then AReset NotSent else NoPost)) c ∙ ap (λ x. AnAbort x NotSent) d));
      resets = ap (λ x. (x == byte_of function.TaskManagement) && (task_type_in p.frame == target_reset)) b ∙ ap (λ x. x == target_reset) c;
    }

says_reset : (p : Post) (r : Request) → opened_for r ≡ AReset NotSent → resets_a_target r ≡ true → kind_in p.descriptor ≡ Some post.HighPriority → TaskReads p.frame target_reset 0 → PostSays p r
says_reset p r y z k t =
    let a = high_is p k in
    let b = t.function in let c = t.kind in
    record {
      opens = ap (λ x. if x && (function_in p.frame == byte_of function.TaskManagement) && (task_type_in p.frame == abort_task) then AnAbort (task_mid_in p.frame) NotSent else (if x && (function_in p.frame == byte_of function.TaskManagement) && (task_type_in p.frame == target_reset) then AReset NotSent else NoPost)) a
          ∙ (ap (λ x. if (x == byte_of function.TaskManagement) && (task_type_in p.frame == abort_task) then AnAbort (task_mid_in p.frame) NotSent else (if (x == byte_of function.TaskManagement) && (task_type_in p.frame == target_reset) then AReset NotSent else NoPost)) b
          ∙ (ap (λ x. if x == abort_task then AnAbort (task_mid_in p.frame) NotSent else (if x == target_reset then AReset NotSent else NoPost)) c ∙ sym y));
      resets = ap (λ x. (x == byte_of function.TaskManagement) && (task_type_in p.frame == target_reset)) b ∙ (ap (λ x. x == target_reset) c ∙ sym z);
    }

module _ (w : World) (h : History) (f : Facts w h) where
  pub high : (p : Post) (r : Request) → slot w.host (smid_in p.descriptor) ≡ Open r → p.descriptor ≡ post_descriptor post.HighPriority 0 (smid_in p.descriptor) 0 → kind_in p.descriptor ≡ Some post.HighPriority
  high p r e a = let l = inside w h f (smid_in p.descriptor) r e in ap kind_in a ∙ kind_posted post.HighPriority 0 (smid_in p.descriptor) 0 (omega arith) (omega (arith, l))

  of_command : (p : Post) (n : ℕ) (c : Option Cmd) (r : Option OpenRequest) → CommandPost w p c r → PostSays p (request.Command n)
  of_command p n None r a = absurd a
  of_command p n (Some c) None a = absurd a
  of_command p n (Some c) (Some r) a = says_none p (request.Command n) refl refl (ap (λ x. function_in x == byte_of function.TaskManagement) a.1 ∙ command_no_task c.smid c.handle r.command)

  default : (p : Post) (r : Request) (frame : List ℕ) → opened_for r ≡ NoPost → resets_a_target r ≡ false → p.frame ≡ frame → (function_in frame == byte_of function.TaskManagement) ≡ false → PostSays p r
  default p r frame a b e n = says_none p r a b (ap (λ x. function_in x == byte_of function.TaskManagement) e ∙ n)

  pub says : (p : Post) (r : Request) → slot w.host (smid_in p.descriptor) ≡ Open r → PostIs w h p (Open r) → PostSays p r
  says p (request.Command n) e a = of_command p n (finmap.get w.host.cmds n) (finmap.get h.machine.requests n) a
  says p (request.Abort n task) e a =
      let u = passed.named w h f (smid_in p.descriptor) n task e in
      says_abort p n task (high p (request.Abort n task) e a.0.0) (task_reads p.frame abort_task task a.0.1 (inl (refl, u.0, u.1)))
  says p (request.TargetReset address) e a = says_reset p (request.TargetReset address) refl refl (high p (request.TargetReset address) e a.0) (task_reads p.frame target_reset 0 a.1 (inr (refl, refl)))
  says p (request.Leave handle) e a = says_reset p (request.Leave handle) refl refl (high p (request.Leave handle) e a.0.0) (task_reads p.frame target_reset 0 a.0.1 (inr (refl, refl)))
  says p (request.Page handle) e a = default p (request.Page handle) _ refl refl a.1 (page_no_task (smid_in p.descriptor) handle)
  says p (request.Remove handle) e a = default p (request.Remove handle) _ refl refl a.1 (removal_no_task handle)
  says p (request.Ack event context) e a = default p (request.Ack event context) _ refl refl a.1 (ack_no_task event context)
  says p request.Notification e a = default p request.Notification _ refl refl a.1 notification_no_task
  says p request.PortEnable e a = default p request.PortEnable _ refl refl a.1 enable_no_task

  -- a post is of what is open
  pub record Posted (p : Post) : Type 0 where
    pub asks : Request
    pub opens : slot w.host (smid_in p.descriptor) ≡ Open asks
    pub is : PostIs w h p (Open asks)
    pub tells : PostSays p asks

  pub posted : (p : Post) → PostIsRecord w h p → Posted p
  posted p a = by_slot (slot w.host (smid_in p.descriptor)) refl a
    where
      by_slot : (x : Slot Request) → slot w.host (smid_in p.descriptor) ≡ x → PostIs w h p x → Posted p
      by_slot Free e b = absurd b
      by_slot Parked e b = absurd b
      by_slot (Open r) e b = record { asks = r; opens = e; is = b; tells = says p r e b }
