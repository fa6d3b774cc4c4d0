-- Each case keeps that the replies in the controller's outboxes are written as it writes them.
use Rattle.std.proofs.Common.{◌≡◌, ◌≢◌, ℕ, zero, suc, ◌+◌, ◌^◌, ◌<◌, ◌≤◌, ◌==◌, ◌&&◌, ◌||◌, not, cond, nat_lt, Bool, true, false, if◌then◌else◌, List, [], ◌∷◌, ◌++◌, drop, get_or, length, map, replicate, slice_index, Option, Some, None, refl, ap, sym, ◌∙◌, subst, arith}
use Rattle.std.specs.Prelude.{All}
use Rattle.std.specs.List.{filter, position}
use Rattle.std.proofs.lemmas.List.Elements.{All-append, All-cons, All-filter, All-get_or, All-head, All-nil, All-tail}
use Rattle.mpi_doorbell.specs.DoorRegisters.{is_fault}
use Rattle.smid_pool.specs.Pool.{Slot, Free, Open, Parked}
use Rattle.scsi_disk.specs.declared.scsi_result.ScsiResult.{ScsiResult}
use Rattle.scsi_disk.specs.declared.scsi_result.TheConstants.{GOOD}
use Rattle.mpt_messages.specs.Function.{byte_of}
use Rattle.mpt_messages.specs.declared.function.Function.TheVariants as function
use Rattle.mpt_messages.specs.declared.ioc_reply.IocReply.TheVariants as reply
use Rattle.mpt_wire.specs.Messages.Fields.{abort_task, target_reset}
use Rattle.mpt_trace.specs.declared.item.Down.{Down}
use Rattle.mpt_trace.specs.declared.item.Back.{Back}
use Rattle.mpt_trace.specs.declared.item.Back.TheVariants as back
use Rattle.mpt_rules.specs.declared.at_fabric.AtFabric.{AtFabric}
use Rattle.mpt_rules.specs.declared.at_fabric.AtFabric.TheVariants as at
use Rattle.mpt_rules.specs.declared.at_fabric.HeldReset.{HeldReset}
use Rattle.mpt_rules.specs.declared.post.Post.{Post}
use Rattle.mpt_rules.specs.declared.request.Request.{Request}
use Rattle.mpt_rules.specs.declared.request.Request.TheVariants as request
use Rattle.mpt_rules.specs.declared.said.Said.{Said}
use Rattle.mpt_rules.specs.declared.said.Said.TheVariants as said
use Rattle.mpt_rules.specs.declared.status.TheConstants.{IOC_STATUS_SUCCESS}
use Rattle.mpt_rules.specs.Ioc.Back as from_back
use Rattle.mpt_rules.specs.Ioc.Bindings as bind
use Rattle.mpt_rules.specs.Ioc.Commands as commands
use Rattle.mpt_rules.specs.Ioc.Parts.{Ioc}
use Rattle.mpt_rules.specs.Ioc.Replies as say
use Rattle.mpt_rules.specs.Ioc.Replies.{outbox_of}
use Rattle.mpt_rules.specs.Ioc.Resets.{marked, outlives_reset, next_generation}
use Rattle.mpt_rules.specs.Ioc.Steps as step
use Rattle.mpt_rules.specs.Ioc.Tables as table
use Rattle.mpt_rules.specs.Ioc.Takes as adapter
use Rattle.mpt_rules.specs.Ioc.Tasks as tasks
use Rattle.mpt_rules.specs.Law.{NothingIsStrange}
use Rattle.mpt_rules.specs.World.Cases.{Case, happens}
use Rattle.mpt_rules.specs.World.Settings.{IsFromTo, Setting, first_world}
use Rattle.mpt_rules.specs.World.State.{World}
use Rattle.law_facts.specs.Facts.{Facts}
use Rattle.law_facts.specs.History.{History}
use Rattle.law_facts.specs.Limits.{NoticeFits}
use Rattle.law_facts.specs.Messages.{AbortAt, CommandAt, HeldIs, HeldIsOf, IsTarget, PostIsRecord, RequestIs}
use Rattle.law_facts.specs.Words.{slot}
use Rattle.law_moves.proofs.Cases.{Owes, kept}
use Rattle.law_moves.proofs.IocTakes as leaf
use Rattle.law_moves.proofs.IocTakes.{Takes, takes}
use Rattle.law_flights.proofs.Tables.{get_or-set_any}
use Rattle.law_flights.proofs.WorkLeaves.{works_leaf}
use Rattle.law_doors.proofs.Whole.{whole_kept}
use Rattle.law_messages.proofs.Known.{classed, inside}
use Rattle.law_standing.specs.Written.{IsWritten, RepliesAreWritten}
use Rattle.law_standing.proofs.FrameBytes.{APlain, ATask}
use Rattle.law_standing.proofs.WrittenKept.{Outboxes, Sound, binding_fits, binds_to, handle_short, lost, low, one, said_on, short, works}

not_true : {T : Type 0} (b : Bool) → b ≡ false → b ≡ true → T
not_true true e f = absurd (cc)
not_true false e f = absurd (cc)

-- ---- tables of outboxes

abbrev Boxes : List (List Said) → Type 0
Boxes up = (queue : ℕ) → All IsWritten (get_or up queue [])

filtered : (up : List (List Said)) → Boxes up → Boxes (map (filter outlives_reset) up)
filtered [] a q = a q
filtered (x ∷ xs) a zero = All-filter outlives_reset IsWritten x (a 0)
filtered (x ∷ xs) a (suc q) = filtered xs (λ n. a (suc n)) q

with_marks : (g : ℕ) (up : List (List Said)) → Boxes up → Boxes (map (λ outbox. outbox ++ said.Mark g ∷ []) up)
with_marks g [] a q = a q
with_marks g (x ∷ xs) a zero = All-append IsWritten x (said.Mark g ∷ []) (a 0) (All-cons IsWritten (said.Mark g) [] tt (All-nil IsWritten))
with_marks g (x ∷ xs) a (suc q) = with_marks g xs (λ n. a (suc n)) q

behind_first : (g : ℕ) (up : List (List Said)) → Boxes up → Boxes (marked g up)
behind_first g [] a q = a q
behind_first g (x ∷ xs) a zero = a 0
behind_first g (x ∷ xs) a (suc q) = with_marks g xs (λ n. a (suc n)) q

dropped : (xs : List Said) → All IsWritten xs → All IsWritten (drop 1 xs)
dropped [] a = a
dropped (x ∷ xs) a = All-tail IsWritten x xs a

sent : (up : List (List Said)) (q : ℕ) → Boxes up → Boxes (Rattle.std.proofs.Common.set up q (drop 1 (get_or up q [])))
sent up q a queue = subst (All IsWritten) (sym (get_or-set_any up q queue (drop 1 (get_or up q [])) [])) (by_tests (queue == q) (nat_lt q (length up)))
  where
    by_tests : (b c : Bool) → All IsWritten (cond b (cond c (drop 1 (get_or up q [])) (get_or up queue [])) (get_or up queue []))
    by_tests false c = a queue
    by_tests true false = a queue
    by_tests true true = dropped (get_or up q []) (a q)

same_boxes : (i k : Ioc) → k.up ≡ i.up → Outboxes i → Outboxes k
same_boxes i k e a queue = subst (λ (x : List (List Said)). All IsWritten (get_or x queue [])) (sym e) (a queue)

none_at : (n q : ℕ) → All IsWritten (get_or (replicate n []) q [])
none_at zero q = All-nil IsWritten
none_at (suc n) zero = All-nil IsWritten
none_at (suc n) (suc q) = none_at n q

-- ---- what is taken of the host

taken : (i : Ioc) (x : Down) (k : Ioc) → Takes i x k → is_fault k.door.state ≡ false → Outboxes i → Outboxes k
taken i x k (leaf.Faults y m e) n a = not_true (is_fault k.door.state) n e
taken i x k (leaf.Written reg value m r s e) n a = same_boxes i k (ap (λ (y : Ioc). y.up) e) a
taken i x k (leaf.Operates value m r s t e) n a = same_boxes i k (ap (λ (y : Ioc). y.up) e) a
taken i x k (leaf.Forgets reg value d e) n a = behind_first (next_generation i) (map (filter outlives_reset) i.up) (filtered i.up a)
taken i x k (leaf.Reads reg value) n a = one i 0 (said.Value value) tt a
taken i x k (leaf.Posts d f p m l e) n a = same_boxes i k (ap (λ (y : Ioc). y.up) e) a
taken i x k (leaf.DropsPost d f p e) n a = a
taken i x k (leaf.Returns address index m l e) n a = same_boxes i k (ap (λ (y : Ioc). y.up) e) a
taken i x k (leaf.DropsReturn address index e) n a = a
taken i x k leaf.Stops n a = a

phys_small : (xs : List ℕ) → All (IsFromTo 1 22) xs → (e : ℕ) → slice_index xs e < 2 ^ 8
phys_small xs a e = by_less (nat_lt e (length xs)) refl
  where
    by_less : (b : Bool) → nat_lt e (length xs) ≡ b → slice_index xs e < 2 ^ 8
    by_less true t = let z = All-get_or (IsFromTo 1 22) xs e 0 (let l : e < length xs = grind (arith, t) in l) a in omega (arith, z)
    by_less false t = let z = Rattle.std.proofs.lemmas.List.get_or_past xs e 0 (let l : length xs ≤ e = grind (arith, t) in l) in omega (arith, z)

module _ (w : World) (h : History) (f : Facts w h) where
  sound : Sound w.ioc
  sound = record { context = f.limits.context; bindings = f.limits.bindings; few = f.flights.sizes.bindings; waiting = f.limits.waiting; phys = phys_small w.ioc.phys f.limits.phys }

  -- ---- what the fabric tells

  asked : (s : ℕ) (x : AtFabric) → table.request_at w.ioc s ≡ Some x → RequestIs w h s (Some x)
  asked s x e = subst (RequestIs w h s) e (f.messages.requests s)

  of_command : (s handle queue len : ℕ) (written : Option ℕ) → table.request_at w.ioc s ≡ Some (at.Command handle queue len written) → (1 ≤ s) × (s ≤ 256)
  of_command s handle queue len written e = by_slot (slot w.host s) refl (asked s (at.Command handle queue len written) e)
    where
      by_slot : (x : Slot Request) → slot w.host s ≡ x → CommandAt w h s handle queue len written x → (1 ≤ s) × (s ≤ 256)
      by_slot Free g a = absurd a
      by_slot Parked g a = absurd a
      by_slot (Open (request.Command n)) g a = let i = inside w h f s (request.Command n) g in let c = classed w h f s (request.Command n) g in (i.0, omega (arith, c))
      by_slot (Open (request.Abort n task)) g a = absurd a
      by_slot (Open (request.TargetReset address)) g a = absurd a
      by_slot (Open (request.Leave h2)) g a = absurd a
      by_slot (Open (request.Page h2)) g a = absurd a
      by_slot (Open (request.Remove h2)) g a = absurd a
      by_slot (Open (request.Ack event context)) g a = absurd a
      by_slot (Open request.Notification) g a = absurd a
      by_slot (Open request.PortEnable) g a = absurd a

  of_abort : (s handle : ℕ) → table.request_at w.ioc s ≡ Some (at.Abort handle) → 1 ≤ s
  of_abort s handle e = by_slot (slot w.host s) refl (asked s (at.Abort handle) e)
    where
      by_slot : (x : Slot Request) → slot w.host s ≡ x → AbortAt w handle x → 1 ≤ s
      by_slot Free g a = absurd a
      by_slot Parked g a = absurd a
      by_slot (Open r) g a = (inside w h f s r g).0

  of_reset : (s handle : ℕ) → table.request_at w.ioc s ≡ Some (at.TargetReset handle) → 1 ≤ s
  of_reset s handle e = by_slot (slot w.host s) refl (asked s (at.TargetReset handle) e)
    where
      by_slot : (x : Slot Request) → slot w.host s ≡ x → IsTarget x → 1 ≤ s
      by_slot Free g a = absurd a
      by_slot Parked g a = absurd a
      by_slot (Open r) g a = (inside w h f s r g).0

  of_held : (r : HeldReset) → HeldIs w r → 1 ≤ r.smid
  of_held r a = by_slot (slot w.host r.smid) refl a
    where
      by_slot : (x : Slot Request) → slot w.host r.smid ≡ x → HeldIsOf r.handle x → 1 ≤ r.smid
      by_slot Free g a = absurd a
      by_slot Parked g a = absurd a
      by_slot (Open r2) g a = (inside w h f r.smid r2 g).0

  held_said : (xs : List HeldReset) → All (HeldIs w) xs → All IsWritten (map commands.held_answered xs)
  held_said [] a = All-nil IsWritten
  held_said (x ∷ xs) a = All-cons IsWritten (commands.held_answered x) (map commands.held_answered xs) (short x.smid (say.task_ended x.handle target_reset IOC_STATUS_SUCCESS 0) (of_held x (All-head (HeldIs w) x xs a)) (ATask x.handle target_reset IOC_STATUS_SUCCESS 0 0)) (held_said xs (All-tail (HeldIs w) x xs a))

  released : (i : Ioc) (handle : ℕ) → All (HeldIs w) i.held → Outboxes i → Outboxes (commands.releases i handle)
  released i handle d a = by_test (table.has_commands i handle)
    where
      by_test : (b : Bool) → Outboxes (if b then i else commands.answers_held i handle)
      by_test true = a
      by_test false = said_on (record i { held = filter (λ held. not (commands.is_held_for handle held)) i.held }) 0 (map commands.held_answered (filter (commands.is_held_for handle) i.held)) (held_said (filter (commands.is_held_for handle) i.held) (All-filter (commands.is_held_for handle) (HeldIs w) i.held d)) a

  ended : (s handle queue : ℕ) (answer : Said) → IsWritten answer → Outboxes w.ioc → Outboxes (commands.ends_command w.ioc s handle queue answer)
  ended s handle queue answer y a = released (say.says_on (table.without_request w.ioc s) queue (answer ∷ [])) handle f.messages.held (one (table.without_request w.ioc s) queue answer y a)

  result_written : (s handle len moved : ℕ) (result : ScsiResult) → 1 ≤ s → s ≤ 256 → IsWritten (commands.result_said s handle len moved result)
  result_written s handle len moved result l m = by_test (result.status == GOOD && moved == len)
    where
      by_test : (b : Bool) → IsWritten (if b then said.Success s result.payload result.sense else said.Framed s (Rattle.mpt_messages.specs.IocFrames.reply_frame (reply.Scsi handle s result.status (commands.result_status moved len) moved (length result.sense))) result.payload result.sense)
      by_test true = tt
      by_test false = low s _ _ l m

  by_result : (s : ℕ) (result : ScsiResult) (o : Option AtFabric) → table.request_at w.ioc s ≡ o → Outboxes w.ioc → Outboxes (from_back.takes_result w.ioc s result o)
  by_result s result None e a = a
  by_result s result (Some (at.Command handle queue len written)) e a = let l = of_command s handle queue len written e in ended s handle queue (commands.result_said s handle len (commands.moved_by written result) result) (result_written s handle len (commands.moved_by written result) result l.0 l.1) a
  by_result s result (Some (at.Abort handle)) e a = a
  by_result s result (Some (at.TargetReset handle)) e a = a
  by_result s result (Some at.PortEnable) e a = a

  by_end : (s status : ℕ) (o : Option AtFabric) → table.request_at w.ioc s ≡ o → Outboxes w.ioc → Outboxes (from_back.takes_end w.ioc s status o)
  by_end s status None e a = a
  by_end s status (Some (at.Command handle queue len written)) e a = let l = of_command s handle queue len written e in ended s handle queue (say.scsi_ended s handle status) (low s _ _ l.0 l.1) a
  by_end s status (Some (at.Abort handle)) e a = a
  by_end s status (Some (at.TargetReset handle)) e a = a
  by_end s status (Some at.PortEnable) e a = a

  by_abort : (s : ℕ) (found : Bool) (o : Option AtFabric) → table.request_at w.ioc s ≡ o → Outboxes w.ioc → Outboxes (from_back.takes_aborted w.ioc s found o)
  by_abort s found None e a = a
  by_abort s found (Some (at.Command handle queue len written)) e a = a
  by_abort s found (Some (at.Abort handle)) e a = counted found
    where
      of_count : (n : ℕ) → n ≤ 1 → Outboxes (tasks.ioc_ends_abort (table.without_request w.ioc s) s handle n)
      of_count n l = one (table.without_request w.ioc s) 0 (say.framed s (say.task_ended handle abort_task IOC_STATUS_SUCCESS n)) (short s (say.task_ended handle abort_task IOC_STATUS_SUCCESS n) (of_abort s handle e) (ATask handle abort_task IOC_STATUS_SUCCESS 0 n)) a

      counted : (b : Bool) → Outboxes (tasks.ioc_ends_abort (table.without_request w.ioc s) s handle (if b then 1 else 0))
      counted true = of_count 1 (omega arith)
      counted false = of_count 0 (omega arith)
  by_abort s found (Some (at.TargetReset handle)) e a = a
  by_abort s found (Some at.PortEnable) e a = a

  by_clear : (s count : ℕ) (o : Option AtFabric) → table.request_at w.ioc s ≡ o → Outboxes w.ioc → Outboxes (from_back.takes_cleared w.ioc s count o)
  by_clear s count None e a = a
  by_clear s count (Some (at.Command handle queue len written)) e a = a
  by_clear s count (Some (at.Abort handle)) e a = a
  by_clear s count (Some (at.TargetReset handle)) e a = one (table.without_request w.ioc s) 0 (say.framed s (say.task_ended handle target_reset IOC_STATUS_SUCCESS count)) (short s (say.task_ended handle target_reset IOC_STATUS_SUCCESS count) (of_reset s handle e) (ATask handle target_reset IOC_STATUS_SUCCESS 0 count)) a
  by_clear s count (Some at.PortEnable) e a = a

  by_discovery : (o : Option ℕ) → Outboxes w.ioc → Outboxes (from_back.takes_discovered w.ioc o)
  by_discovery None a = a
  by_discovery (Some place) a = one (table.without_request w.ioc (place + 1)) 0 (say.framed (place + 1) (reply.Plain (byte_of function.PortEnable) IOC_STATUS_SUCCESS)) (short (place + 1) (reply.Plain (byte_of function.PortEnable) IOC_STATUS_SUCCESS) (omega arith) (APlain (byte_of function.PortEnable) IOC_STATUS_SUCCESS)) a

  heard : (x : Back) → NoticeFits x → Outboxes w.ioc → Outboxes (from_back.hears w.ioc x).part
  heard (back.Result tag result) n a = by_result tag result (table.request_at w.ioc tag) refl a
  heard (back.Gone tag) n a = by_end tag _ (table.request_at w.ioc tag) refl a
  heard (back.Terminated tag) n a = by_end tag _ (table.request_at w.ioc tag) refl a
  heard (back.Aborted smid found) n a = by_abort smid found (table.request_at w.ioc smid) refl a
  heard (back.Cleared smid count) n a = by_clear smid count (table.request_at w.ioc smid) refl a
  heard (back.Plugged address plug expander phy) n a = by_test (bind.is_known w.ioc address || not (nat_lt expander (length w.ioc.phys)))
    where
      by_test : (b : Bool) → Outboxes (if b then table.silently w.ioc else bind.binds w.ioc (record { address = address; plug = plug; expander = expander; phy = phy })).part
      by_test true = a
      by_test false = binds_to w.ioc (record { address = address; plug = plug; expander = expander; phy = phy }) (table.least_unbound w.ioc) refl sound n a
  heard (back.Unplugged address plug expander phy) n a = by_handle (table.handle_of w.ioc address) refl
    where
      by_handle : (o : Option ℕ) → table.handle_of w.ioc address ≡ o → Outboxes (bind.ioc_unplugs_from w.ioc address o)
      by_handle None e = a
      by_handle (Some handle) e = lost w.ioc handle (table.binding_of w.ioc handle) refl (handle_short w.ioc address handle f.flights.sizes.bindings e) (binding_fits w.ioc handle sound) sound a
  heard back.Discovered n a = by_discovery (position from_back.is_port_enable w.ioc.requests) a
  heard (back.Linked generation) n a = by_test (table.is_reset w.ioc.door.state && generation == w.ioc.generation)
    where
      by_test : (b : Bool) → Outboxes (if b then record w.ioc { door = Rattle.mpi_doorbell.specs.DoorRegisters.linked_up w.ioc.door } else w.ioc)
      by_test true = a
      by_test false = a
  heard back.Calm n a = by_test (is_fault w.ioc.door.state)
    where
      by_test : (b : Bool) → Outboxes (if b then w.ioc else say.says_on w.ioc 0 (said.Calm ∷ []))
      by_test true = a
      by_test false = one w.ioc 0 said.Calm tt a

  told : (x : Back) → NoticeFits x → Outboxes w.ioc → Outboxes (adapter.takes_back w.ioc x).part
  told x n a = by_test (from_back.is_heard_in w.ioc.door.state x)
    where
      by_test : (b : Bool) → Outboxes (if b then from_back.hears w.ioc x else table.silently w.ioc).part
      by_test true = heard x n a
      by_test false = a

  noticed : (x : Back) (rest : List Back) → w.back ≡ x ∷ rest → NoticeFits x
  noticed x rest e = All-head NoticeFits x ((rest ++ w.fabric.out) ++ w.fabric.notices) (subst (λ (b : List Back). All NoticeFits ((b ++ w.fabric.out) ++ w.fabric.notices)) e f.limits.notices)

  -- ---- each case

  abbrev Stays : World → Type 0
  Stays v = is_fault v.ioc.door.state ≡ false → Outboxes v.ioc

  high : (p : Post) (rest : List Post) → w.ioc.high ≡ p ∷ rest → Outboxes w.ioc → Outboxes (step.works_on (record w.ioc { high = rest }) p).part
  high p rest e a =
      works w h f (record w.ioc { high = rest }) p (step.works_on (record w.ioc { high = rest }) p) (works_leaf (record w.ioc { high = rest }) p)
      (All-head (PostIsRecord w h) p rest (subst (All (PostIsRecord w h)) e f.messages.high)) f.messages.normal
      (record { context = f.limits.context; bindings = f.limits.bindings; few = f.flights.sizes.bindings; waiting = f.limits.waiting; phys = phys_small w.ioc.phys f.limits.phys }) a

  normal : (p : Post) (rest : List Post) → w.ioc.normal ≡ p ∷ rest → Outboxes w.ioc → Outboxes (step.works_on (record w.ioc { normal = rest }) p).part
  normal p rest e a =
      let z = subst (All (PostIsRecord w h)) e f.messages.normal in
      works w h f (record w.ioc { normal = rest }) p (step.works_on (record w.ioc { normal = rest }) p) (works_leaf (record w.ioc { normal = rest }) p)
      (All-head (PostIsRecord w h) p rest z) (All-tail (PostIsRecord w h) p rest z)
      (record { context = f.limits.context; bindings = f.limits.bindings; few = f.flights.sizes.bindings; waiting = f.limits.waiting; phys = phys_small w.ioc.phys f.limits.phys }) a

  owes : RepliesAreWritten w → Owes Stays w
  owes a = record {
    host_puts = λ x rest e v. a;
    host_takes = λ queue x rest e s v. a;
    host_told = λ i c v. a;
    host_looks = λ e v. a;
    host_stops = λ e v. a;
    ioc_takes = λ x rest e v. taken w.ioc x (adapter.takes_down w.ioc x).part (takes w.ioc f.doorbell.sound.waits f.clock.phase_table.whole x) v a;
    ioc_high = λ p rest e v. high p rest e a;
    ioc_normal = λ p rest e v. normal p rest e a;
    ioc_puts_out = λ x rest e v. a;
    ioc_takes_back = λ x rest e v. told x (noticed x rest e) a;
    ioc_puts = λ queue y rest z e g v. sent w.ioc.up queue a;
    fabric_takes = λ x rest e v. a;
    fabric_says = λ x rest e v. a;
    fabric_puts = λ x rest e v. a;
    fabric_runs = λ tag address e v. a;
    plugs = λ address expander phy v. a;
    unplugs = λ address v. a;
    calms = λ v. a;
  }

  pub replies_kept : NothingIsStrange w → RepliesAreWritten w → (c : Case) → RepliesAreWritten (happens w c)
  replies_kept plain a c = kept Stays w plain (owes a) (λ v. a) c (whole_kept w h f plain c)

pub replies_at_first : (s : Setting) → RepliesAreWritten (first_world s)
replies_at_first s queue = none_at _ queue
