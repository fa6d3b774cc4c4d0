-- The identifier of a post is of the class of its descriptor's kind; a reply that names none is an event.
use Rattle.std.proofs.Common.{◌≡◌, ℕ, zero, suc, ◌-◌, ◌%◌, ◌≤◌, ◌==◌, ◌⊎◌, inl, inr, Bool, true, false, List, Option, Some, None, option_map, refl, ap, sym, ◌∙◌, subst, arith}
use Rattle.std.specs.Bool.{MatchBool}
use Rattle.std.specs.FinMap as finmap
use native.Mathlib.Nat.{mod-lt}
use Rattle.event_msgs.specs.EventReply.{event_reply_layout, event_reply_values}
use Rattle.event_msgs.specs.Topology.{topology_layout, topology_values}
use Rattle.event_msgs.specs.TopologyEntry.{topology_entry_layout, topology_entry_values}
use Rattle.mpi_layout.specs.Rows.{field}
use Rattle.mpi_rings.specs.declared.request_descriptor.PostKind.{PostKind}
use Rattle.mpi_rings.specs.declared.request_descriptor.PostKind.TheVariants as post
use Rattle.mpt_messages.specs.IocFrames.{reply_frame}
use Rattle.mpt_messages.specs.declared.ioc_reply.IocReply.TheVariants as reply
use Rattle.smid_pool.specs.Class.{IsIn}
use Rattle.smid_pool.specs.Pool.{Free, Open, Parked, Slot}
use Rattle.smid_pool.specs.declared.class.Class.TheVariants as class
use Rattle.mpt_wire.specs.Machine.State.{OpenRequest}
use Rattle.mpt_wire.specs.Messages.Fields.{address_descriptor, kind_in, smid_in, success_descriptor}
use Rattle.mpt_wire.specs.Queues.Identifiers.{IsEvent, IsOfKind, first_smid, last_smid}
use Rattle.mpt_rules.specs.declared.post.Post.{Post}
use Rattle.mpt_rules.specs.declared.request.Request.{Request}
use Rattle.mpt_rules.specs.declared.request.Request.TheVariants as request
use Rattle.mpt_rules.specs.declared.said.Said.TheVariants as said
use Rattle.mpt_rules.specs.Host.Parts.{Cmd, host_queue_count}
use Rattle.mpt_rules.specs.World.State.{World}
use Rattle.law_facts.specs.Facts.{Facts}
use Rattle.law_facts.specs.History.{History}
use Rattle.law_facts.specs.Messages.{AnswersBy, CommandPost, PostIs, PostIsRecord, SaidIs, event_like}
use Rattle.law_facts.specs.Words.{slot}
use Rattle.law_flights.proofs.Descriptors.{kind_posted, smid_addressed, smid_succeeded}
use Rattle.law_messages.proofs.Known.{classed, command_of, inside}

of_kind : (d s : ℕ) (kind : PostKind) → kind_in d ≡ Some kind → (first_smid kind ≤ s) × (s ≤ last_smid kind) → IsOfKind (kind_in d) s
of_kind d s kind e l = subst (λ o. IsOfKind o s) (sym e) l

in_scsi : (s : ℕ) → IsIn class.ScsiIo s → (first_smid post.ScsiIo ≤ s) × (s ≤ last_smid post.ScsiIo)
in_scsi s k = (omega (arith, k), omega (arith, k))

in_high : (s : ℕ) → IsIn class.High s → (first_smid post.HighPriority ≤ s) × (s ≤ last_smid post.HighPriority)
in_high s k = (omega (arith, k), omega (arith, k))

in_internal : (s : ℕ) → IsIn class.Internal s → (first_smid post.Default ≤ s) × (s ≤ last_smid post.Default)
in_internal s k = (omega (arith, k), omega (arith, k))

-- an event's frame
topology_is : (context handle expander phys phy : ℕ) (added : Bool) → IsEvent (Some (reply_frame (reply.Topology context handle expander phys phy added)))
unfolding event_reply_layout event_reply_values topology_layout topology_values topology_entry_layout topology_entry_values field
topology_is context handle expander phys phy added = (refl, refl)

event_is : (frame : List ℕ) (added : Bool) → frame ≡ event_like frame added → IsEvent (Some frame)
event_is frame added e = subst (λ x. IsEvent (Some x)) (sym e) (topology_is _ _ _ _ _ added)

at_zero : (n : ℕ) (X : Type 0) → X → MatchBool (n == 0) X (Unit {0})
at_zero n X x = by_test (n == 0)
  where
    by_test : (b : Bool) → MatchBool b X (Unit {0})
    by_test true = x
    by_test false = tt

above_zero : (n : ℕ) (X : Type 0) → 1 ≤ n → MatchBool (n == 0) X (Unit {0})
above_zero n X l = by_test (n == 0) refl
  where
    by_test : (b : Bool) → (n == 0) ≡ b → MatchBool b X (Unit {0})
    by_test true e = let z : n ≡ 0 = grind (arith, e) in absurd (omega (arith, z, l))
    by_test false e = tt

module _ (w : World) (h : History) (f : Facts w h) where
  command : (p : Post) (n : ℕ) → slot w.host (smid_in p.descriptor) ≡ Open (request.Command n) → (c : Option Cmd) (r : Option OpenRequest) → finmap.get w.host.cmds n ≡ c → CommandPost w p c r → kind_in p.descriptor ≡ Some post.ScsiIo
  command p n e None r g a = absurd a
  command p n e (Some c) None g a = absurd a
  command p n e (Some c) (Some r) g a =
      let k = inside w h f (smid_in p.descriptor) (request.Command n) e in
      let z = same c (ap (option_map (λ (x : Cmd). x.smid)) (sym g) ∙ command_of w h f n (smid_in p.descriptor) e) in
      let few = f.flights.sizes.few_queues in let some = f.flights.sizes.some_queue in
      let l = mod-lt (c.smid - 1) some in
      ap kind_in a.0 ∙ kind_posted post.ScsiIo ((c.smid - 1) % host_queue_count w.host) c.smid c.handle (omega (arith, l, few)) (omega (arith, k, z))
    where
      same : (c : Cmd) → Some c.smid ≡ Some (smid_in p.descriptor) → c.smid ≡ smid_in p.descriptor
      same c e = cc

  -- the kind of what is open under it
  abbrev pub kind_of : Request → PostKind
  kind_of (request.Command n) = post.ScsiIo
  kind_of (request.Abort n task) = post.HighPriority
  kind_of (request.TargetReset address) = post.HighPriority
  kind_of (request.Leave handle) = post.HighPriority
  kind_of _ = post.Default

  posts_by : (p : Post) (r : Request) (kind : PostKind) → slot w.host (smid_in p.descriptor) ≡ Open r → p.descriptor ≡ Rattle.mpt_wire.specs.Messages.Fields.post_descriptor kind 0 (smid_in p.descriptor) 0 → kind_in p.descriptor ≡ Some kind
  posts_by p r kind e a = let l = inside w h f (smid_in p.descriptor) r e in ap kind_in a ∙ kind_posted kind 0 (smid_in p.descriptor) 0 (omega arith) (omega (arith, l))

  pub posted_kind : (p : Post) (r : Request) → slot w.host (smid_in p.descriptor) ≡ Open r → PostIs w h p (Open r) → kind_in p.descriptor ≡ Some (kind_of r)
  posted_kind p (request.Command n) e a = command p n e (finmap.get w.host.cmds n) (finmap.get h.machine.requests n) refl a
  posted_kind p (request.Abort n task) e a = posts_by p (request.Abort n task) post.HighPriority e a.0.0
  posted_kind p (request.TargetReset address) e a = posts_by p (request.TargetReset address) post.HighPriority e a.0
  posted_kind p (request.Leave handle) e a = posts_by p (request.Leave handle) post.HighPriority e a.0.0
  posted_kind p (request.Page handle) e a = posts_by p (request.Page handle) post.Default e a.0
  posted_kind p (request.Remove handle) e a = posts_by p (request.Remove handle) post.Default e a.0
  posted_kind p (request.Ack event context) e a = posts_by p (request.Ack event context) post.Default e a.0
  posted_kind p request.Notification e a = posts_by p request.Notification post.Default e a.0
  posted_kind p request.PortEnable e a = posts_by p request.PortEnable post.Default e a.0

  pub post_class : (p : Post) → PostIsRecord w h p → IsOfKind (kind_in p.descriptor) (smid_in p.descriptor)
  post_class p a = by_slot (slot w.host (smid_in p.descriptor)) refl a
    where
      posted : (r : Request) (kind : PostKind) → slot w.host (smid_in p.descriptor) ≡ Open r → p.descriptor ≡ Rattle.mpt_wire.specs.Messages.Fields.post_descriptor kind 0 (smid_in p.descriptor) 0 → kind_in p.descriptor ≡ Some kind
      posted r kind e a = let l = inside w h f (smid_in p.descriptor) r e in ap kind_in a ∙ kind_posted kind 0 (smid_in p.descriptor) 0 (omega arith) (omega (arith, l))

      by_slot : (x : Slot Request) → slot w.host (smid_in p.descriptor) ≡ x → PostIs w h p x → IsOfKind (kind_in p.descriptor) (smid_in p.descriptor)
      by_slot Free e a = absurd a
      by_slot Parked e a = absurd a
      by_slot (Open (request.Command n)) e a = of_kind p.descriptor (smid_in p.descriptor) post.ScsiIo (command p n e (finmap.get w.host.cmds n) (finmap.get h.machine.requests n) refl a) (in_scsi (smid_in p.descriptor) (classed w h f (smid_in p.descriptor) (request.Command n) e))
      by_slot (Open (request.Abort n task)) e a = of_kind p.descriptor (smid_in p.descriptor) post.HighPriority (posted (request.Abort n task) post.HighPriority e a.0.0) (in_high (smid_in p.descriptor) (classed w h f (smid_in p.descriptor) (request.Abort n task) e))
      by_slot (Open (request.TargetReset address)) e a = of_kind p.descriptor (smid_in p.descriptor) post.HighPriority (posted (request.TargetReset address) post.HighPriority e a.0) (in_high (smid_in p.descriptor) (classed w h f (smid_in p.descriptor) (request.TargetReset address) e))
      by_slot (Open (request.Leave handle)) e a = of_kind p.descriptor (smid_in p.descriptor) post.HighPriority (posted (request.Leave handle) post.HighPriority e a.0.0) (in_high (smid_in p.descriptor) (classed w h f (smid_in p.descriptor) (request.Leave handle) e))
      by_slot (Open (request.Page handle)) e a = of_kind p.descriptor (smid_in p.descriptor) post.Default (posted (request.Page handle) post.Default e a.0) (in_internal (smid_in p.descriptor) (classed w h f (smid_in p.descriptor) (request.Page handle) e))
      by_slot (Open (request.Remove handle)) e a = of_kind p.descriptor (smid_in p.descriptor) post.Default (posted (request.Remove handle) post.Default e a.0) (in_internal (smid_in p.descriptor) (classed w h f (smid_in p.descriptor) (request.Remove handle) e))
      by_slot (Open (request.Ack event context)) e a = of_kind p.descriptor (smid_in p.descriptor) post.Default (posted (request.Ack event context) post.Default e a.0) (in_internal (smid_in p.descriptor) (classed w h f (smid_in p.descriptor) (request.Ack event context) e))
      by_slot (Open request.Notification) e a = of_kind p.descriptor (smid_in p.descriptor) post.Default (posted request.Notification post.Default e a.0) (in_internal (smid_in p.descriptor) (classed w h f (smid_in p.descriptor) request.Notification e))
      by_slot (Open request.PortEnable) e a = of_kind p.descriptor (smid_in p.descriptor) post.Default (posted request.PortEnable post.Default e a.0) (in_internal (smid_in p.descriptor) (classed w h f (smid_in p.descriptor) request.PortEnable e))

  -- a reply with a frame
  pub framed_class : (queue s a : ℕ) (frame page sense : List ℕ) → SaidIs w h queue (said.Framed s frame page sense) → MatchBool (smid_in (address_descriptor s a) == 0) (IsEvent (Some frame)) (Unit {0})
  framed_class queue zero a frame page sense x = at_zero (smid_in (address_descriptor 0 a)) (IsEvent (Some frame)) (by_change x.4)
    where
      by_change : (frame ≡ event_like frame true) ⊎ (frame ≡ event_like frame false) → IsEvent (Some frame)
      by_change (inl e) = event_is frame true e
      by_change (inr e) = event_is frame false e
  framed_class queue (suc i) a frame page sense x = by_slot (slot w.host (suc i)) refl x
    where
      by_slot : (y : Slot Request) → slot w.host (suc i) ≡ y → AnswersBy w h queue (suc i) (said.Framed (suc i) frame page sense) y → MatchBool (smid_in (address_descriptor (suc i) a) == 0) (IsEvent (Some frame)) (Unit {0})
      by_slot Free e z = absurd z
      by_slot Parked e z = absurd z
      by_slot (Open r) e z = let l = inside w h f (suc i) r e in let q = smid_addressed (suc i) a (omega (arith, l)) in above_zero (smid_in (address_descriptor (suc i) a)) (IsEvent (Some frame)) (omega (arith, q))

  -- one without
  pub success_class : (queue s : ℕ) (page sense : List ℕ) → SaidIs w h queue (said.Success s page sense) → MatchBool (smid_in (success_descriptor s) == 0) (IsEvent None) (Unit {0})
  success_class queue s page sense x = by_slot (slot w.host s) refl x
    where
      by_slot : (y : Slot Request) → slot w.host s ≡ y → AnswersBy w h queue s (said.Success s page sense) y → MatchBool (smid_in (success_descriptor s) == 0) (IsEvent None) (Unit {0})
      by_slot Free e z = absurd z
      by_slot Parked e z = absurd z
      by_slot (Open r) e z = let l = inside w h f s r e in let q = smid_succeeded s (omega (arith, l)) in above_zero (smid_in (success_descriptor s)) (IsEvent None) (omega (arith, q, l))
