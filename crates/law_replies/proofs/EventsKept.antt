-- Each case keeps that what waits in the controller's outboxes without an identifier is an event: of one change of a disk's handle, on queue 0.
use Rattle.std.proofs.Common.{◌≡◌, ◌≢◌, ℕ, zero, suc, ◌+◌, ◌-◌, ◌*◌, ◌%◌, ◌^◌, ◌<◌, ◌≤◌, ◌==◌, ◌&&◌, ◌||◌, not, cond, nat_lt, nat_le, Bool, true, false, if◌then◌else◌, List, [], ◌∷◌, ◌++◌, drop, get_or, length, map, set, slice_get, slice_index, slice_set, take, Option, Some, None, is_none, option_map, refl, ap, sym, ◌∙◌, subst, arith, replicate}
use Rattle.std.specs.Prelude.{All}
use Rattle.std.specs.List.{filter, find, position}
use Rattle.std.proofs.lemmas.List.Elements.{All-append, All-cons, All-get_or, All-head, All-nil, All-tail, All-filter}
use Rattle.std.proofs.lemmas.List.Quantifiers.{position-Some}
use Rattle.smid_pool.specs.Pool.{Slot, Free, Open, Parked}
use Rattle.mpt_messages.specs.Function.{byte_of}
use Rattle.mpt_messages.specs.IocFrames.{reply_frame}
use Rattle.mpt_wire.specs.Messages.Fields.{abort_task, controlled_handle_in, dev_handle_in, function_in, operation_in, action_in, ext_page_type_in, smid_in, target_reset, task_mid_in}
use Rattle.mpt_rules.specs.declared.binding.Binding.{Binding}
use Rattle.mpt_rules.specs.declared.binding.Waiting.{Waiting}
use Rattle.mpt_rules.specs.declared.post.Post.{Post}
use Rattle.mpt_rules.specs.declared.request.Request.{Request}
use Rattle.mpt_rules.specs.declared.said.Said.{Said}
use Rattle.mpt_rules.specs.declared.status.TheConstants.{IOC_STATUS_SCSI_TASK_TERMINATED, IOC_STATUS_SUCCESS}
use Rattle.mpt_rules.specs.Ioc.Parts.{Ioc}
use Rattle.mpt_rules.specs.Outcome.{Happening}
use Rattle.mpt_rules.specs.World.State.{World}
use Rattle.law_flights.proofs.Tables.{get_or-set_any}
use Rattle.law_facts.specs.Facts.{Facts}
use Rattle.law_facts.specs.History.{History}
use Rattle.law_facts.specs.Limits.{BindingFits, WaitingFits, NoticeFits}
use Rattle.law_facts.specs.Messages.{PostIs, PostIsRecord, AbortAt, CommandAt, HeldIs, HeldIsOf, IsTarget, RequestIs}
use Rattle.law_facts.specs.Words.{slot}
use Rattle.law_flights.proofs.WorkLeaves.{AbortEnds, AbortSends, Acks, Dropped, Enables, EndsPlainly, Notifies, PageEnds, PageGiven, Refuses, RemovalEnds, Removes, ResetEnds, ResetHolds, ResetSends, ScsiEnds, ScsiSends, Stops, Strays, TaskFails, Works, works_leaf}
use Rattle.law_messages.proofs.Agreeing.{all_more}
use Rattle.law_messages.proofs.Known.{classed, inside}
use Rattle.law_messages.proofs.PostsKept.{found_all}
use Rattle.mpi_doorbell.specs.DoorRegisters.{is_fault}
use Rattle.scsi_disk.specs.declared.scsi_result.ScsiResult.{ScsiResult}
use Rattle.scsi_disk.specs.declared.scsi_result.TheConstants.{GOOD}
use Rattle.mpt_trace.specs.declared.item.Down.{Down}
use Rattle.mpt_trace.specs.declared.item.Back.{Back}
use Rattle.mpt_rules.specs.declared.at_fabric.AtFabric.{AtFabric}
use Rattle.mpt_rules.specs.declared.at_fabric.HeldReset.{HeldReset}
use Rattle.mpt_rules.specs.Ioc.Replies.{outbox_of}
use Rattle.mpt_rules.specs.Ioc.Resets.{marked, outlives_reset, next_generation}
use Rattle.mpt_rules.specs.Law.{NothingIsStrange}
use Rattle.mpt_rules.specs.World.Cases.{Case, happens}
use Rattle.mpt_rules.specs.World.Settings.{IsFromTo, Setting, first_world}
use Rattle.law_moves.proofs.Cases.{Owes, kept}
use Rattle.law_moves.proofs.IocTakes.{Takes, takes}
use Rattle.law_doors.proofs.Whole.{whole_kept}
use Rattle.law_standing.proofs.WrittenKept.{Sound, binding_fits}
use Rattle.law_replies.specs.Events.{EventsStand, IsEventOn}
use Rattle.law_replies.proofs.Events.{event_is}
use Rattle.removal.specs.Handles.{IsHandle}
use Rattle.std.specs.FinSet as set_of
use Rattle.mpt_messages.specs.declared.function.Function.TheVariants as function
use Rattle.mpt_messages.specs.declared.ioc_reply.IocReply.TheVariants as reply
use Rattle.mpt_rules.specs.declared.binding.Binding.TheVariants as binding
use Rattle.mpt_rules.specs.declared.request.Request.TheVariants as request
use Rattle.mpt_rules.specs.declared.said.Said.TheVariants as said
use Rattle.mpt_rules.specs.Ioc.Bindings as bind
use Rattle.mpt_rules.specs.Ioc.Commands as commands
use Rattle.mpt_rules.specs.Ioc.Configuration as config
use Rattle.mpt_rules.specs.Ioc.Replies as say
use Rattle.mpt_rules.specs.Ioc.Requests as ask
use Rattle.mpt_rules.specs.Ioc.Tables as table
use Rattle.mpt_rules.specs.Ioc.Tasks as tasks
use Rattle.mpt_trace.specs.declared.item.Back.TheVariants as back
use Rattle.mpt_rules.specs.declared.at_fabric.AtFabric.TheVariants as at
use Rattle.mpt_rules.specs.Ioc.Back as from_back
use Rattle.mpt_rules.specs.Ioc.Steps as step
use Rattle.mpt_rules.specs.Ioc.Takes as adapter
use Rattle.law_moves.proofs.IocTakes as leaf

all_set : {X : Type 0} (P : X → Type 0) (xs : List X) (n : ℕ) (y : X) → All P xs → P y → All P (set xs n y)
all_set P [] n y a p = All-nil P
all_set P (x ∷ xs) zero y a p = All-cons P y xs p (All-tail P x xs a)
all_set P (x ∷ xs) (suc n) y a p = All-cons P x (set xs n y) (All-head P x xs a) (all_set P xs n y (All-tail P x xs a) p)

-- what answers an identifier
abbrev IsPositive : Said → Type 0
IsPositive (said.Framed s frame page sense) = 1 ≤ s
IsPositive item = Unit {0}

no_event : (q : ℕ) (y : Said) → IsPositive y → IsEventOn q y
no_event q (said.Framed zero frame page sense) l = absurd (omega (arith, l))
no_event q (said.Framed (suc s) frame page sense) l = tt
no_event q (said.Success s page sense) l = tt
no_event q said.Calm l = tt
no_event q (said.Value v) l = tt
no_event q (said.Mark g) l = tt

none_events : (q : ℕ) (ys : List Said) → All IsPositive ys → All (IsEventOn q) ys
none_events q [] a = All-nil (IsEventOn q)
none_events q (y ∷ ys) a = All-cons (IsEventOn q) y ys (no_event q y (All-head IsPositive y ys a)) (none_events q ys (All-tail IsPositive y ys a))

-- ---- what the outboxes have

abbrev Outboxes : Ioc → Type 0
Outboxes i = (queue : ℕ) → All (IsEventOn queue) (get_or i.up queue [])

said_events : (i : Ioc) (q : ℕ) (items : List Said) → All (IsEventOn q) items → Outboxes i → Outboxes (say.says_on i q items)
said_events i q items a w queue = subst (All (IsEventOn queue)) (sym (get_or-set_any i.up q queue (get_or i.up q [] ++ items) [])) (by_tests (queue == q) (nat_lt q (length i.up)) refl)
  where
    by_tests : (b c : Bool) → (queue == q) ≡ b → All (IsEventOn queue) (cond b (cond c (get_or i.up q [] ++ items) (get_or i.up queue [])) (get_or i.up queue []))
    by_tests false c t = w queue
    by_tests true false t = w queue
    by_tests true true t = let z : q ≡ queue = grind (arith, t) in subst (λ k. All (IsEventOn k) (get_or i.up q [] ++ items)) z (All-append (IsEventOn q) (get_or i.up q []) items (w q) a)

said_on : (i : Ioc) (q : ℕ) (items : List Said) → All IsPositive items → Outboxes i → Outboxes (say.says_on i q items)
said_on i q items a w = said_events i q items (none_events q items a) w

one : (i : Ioc) (q : ℕ) (y : Said) → IsPositive y → Outboxes i → Outboxes (say.says_on i q (y ∷ []))
one i q y a w = said_on i q (y ∷ []) (all_more IsPositive [] y (All-nil IsPositive) a) w

-- ---- what is told of a disk

changed : (i : Ioc) (handle expander phy : ℕ) (added : Bool) → i.context < 2 ^ 32 → IsHandle handle → expander < 16 → phy < 2 ^ 8 → ((e : ℕ) → slice_index i.phys e < 2 ^ 8) → Outboxes i → Outboxes (bind.changes i handle expander phy added)
changed i handle expander phy added c l e p ps w = by_through i.through
  where
    by_through : (b : Bool) → Outboxes (if b then bind.tells_change i handle expander phy added else i)
    by_through false = w
    by_through true =
        said_events (record i { context = (i.context + 1) % 2 ^ 32; unacked = set_of.insert i.unacked i.context }) 0 (say.framed 0 (reply.Topology i.context handle expander (slice_index i.phys expander) phy added) ∷ [])
        (all_more (IsEventOn 0) [] (say.framed 0 (reply.Topology i.context handle expander (slice_index i.phys expander) phy added)) (All-nil (IsEventOn 0)) (event_is i.context handle expander (slice_index i.phys expander) phy added c l e (ps expander) p)) w

least_handle : (i : Ioc) (handle : ℕ) → length i.bindings ≡ 64 → table.least_unbound i ≡ Some handle → IsHandle handle
least_handle i handle l e = by_place (position table.is_unbound i.bindings) refl e
  where
    by_place : (o : Option ℕ) → position table.is_unbound i.bindings ≡ o → option_map table.handle_at o ≡ Some handle → IsHandle handle
    by_place None p e = absurd (cc)
    by_place (Some place) p e = let q = (position-Some table.is_unbound i.bindings place binding.Unbound p).0 in let z : table.handle_at place ≡ handle = cc in omega (arith, q, l, z)

known_handle : (i : Ioc) (address handle : ℕ) → length i.bindings ≡ 64 → table.handle_of i address ≡ Some handle → IsHandle handle
known_handle i address handle l e = by_place (position (table.is_present_at address) i.bindings) refl e
  where
    by_place : (o : Option ℕ) → position (table.is_present_at address) i.bindings ≡ o → option_map table.handle_at o ≡ Some handle → IsHandle handle
    by_place None p e = absurd (cc)
    by_place (Some place) p e = let q = (position-Some (table.is_present_at address) i.bindings place binding.Unbound p).0 in let z : table.handle_at place ≡ handle = cc in omega (arith, q, l, z)

binds_to : (i : Ioc) (disk : Waiting) (o : Option ℕ) → table.least_unbound i ≡ o → Sound i → WaitingFits disk → Outboxes i → Outboxes (bind.binds_to i disk o).part
binds_to i disk None e s d w = w
binds_to i disk (Some handle) e s d w =
    let p = d.1 in
    changed (table.with_binding i handle (binding.Present disk.address disk.plug disk.expander disk.phy)) handle disk.expander disk.phy true s.context (least_handle i handle s.few e) p.0 (let y = p.1 in omega (arith, y)) s.phys w

binds_first : (i : Ioc) (ds : List Waiting) → Sound i → All WaitingFits ds → Outboxes i → Outboxes (bind.binds_first i ds).part
binds_first i [] s a w = w
binds_first i (d ∷ ds) s a w =
    binds_to (record i { waiting = ds }) d (table.least_unbound (record i { waiting = ds })) refl
    (record { context = s.context; bindings = s.bindings; few = s.few; waiting = All-tail WaitingFits d ds a; phys = s.phys }) (All-head WaitingFits d ds a) w

lost : (i : Ioc) (handle : ℕ) (b : Binding) → table.binding_of i handle ≡ b → IsHandle handle → BindingFits b → Sound i → Outboxes i → Outboxes (bind.ioc_loses i handle b)
lost i handle binding.Unbound e l d s w = w
lost i handle (binding.Gone address) e l d s w = w
lost i handle (binding.Present address plug expander phy) e l d s w = let p = d.1 in changed (table.with_binding i handle (binding.Gone address)) handle expander phy false s.context l p.0 (let y = p.1 in omega (arith, y)) s.phys w

-- ---- identifiers

module _ (w : World) (h : History) (f : Facts w h) where
  -- a queued post is of an open identifier
  open_post : (p : Post) → PostIsRecord w h p → (r : Request) × (slot w.host (smid_in p.descriptor) ≡ Open r)
  open_post p a = by_slot (slot w.host (smid_in p.descriptor)) refl a
    where
      by_slot : (x : Slot Request) → slot w.host (smid_in p.descriptor) ≡ x → PostIs w h p x → (r : Request) × (slot w.host (smid_in p.descriptor) ≡ Open r)
      by_slot Free e a = absurd a
      by_slot Parked e a = absurd a
      by_slot (Open r) e a = (r, e)

  positive : (p : Post) → PostIsRecord w h p → 1 ≤ smid_in p.descriptor
  positive p a = let o = open_post p a in let i = inside w h f (smid_in p.descriptor) o.0 o.1 in omega (arith, i)

  -- ---- a work step

  to : (o x : Happening Ioc) → o ≡ x → Outboxes x.part → Outboxes o.part
  to o x e a = subst (λ (y : Happening Ioc). Outboxes y.part) (sym e) a

  -- the SCSI IO that an abort finds in the queue
  stopped : (i : Ioc) (task handle : ℕ) (stop : Post) → All (PostIsRecord w h) i.normal → find (tasks.is_scsi_post task handle) i.normal ≡ Some stop → 1 ≤ smid_in stop.descriptor
  stopped i task handle stop a e = positive stop (found_all (PostIsRecord w h) (tasks.is_scsi_post task handle) i.normal stop e a)

  works : (i : Ioc) (p : Post) (o : Happening Ioc) → Works i p o → PostIsRecord w h p → All (PostIsRecord w h) i.normal → Sound i → Outboxes i → Outboxes o.part
  works i p o (Dropped k e) r q s a = to o _ e a
  works i p o (Refuses k g d x e) r q s a = to o _ e (one i (say.ioc_queue_of i k p.descriptor) (say.framed (smid_in p.descriptor) (reply.Plain (function_in p.frame) (say.refusal_status g))) (positive p r) a)
  works i p o (ScsiEnds status k c e) r q s a = to o _ e (one i (commands.scsi_queue i p) (say.scsi_ended (smid_in p.descriptor) (dev_handle_in p.frame) status) (positive p r) a)
  works i p o (ScsiSends address plug expander phy k c b e) r q s a = to o _ e a
  works i p o (Stops stop k g e) r q s a =
      let l = stopped i (task_mid_in p.frame) (dev_handle_in p.frame) stop q g in
      to o _ e (one (commands.ends_scsi (record i { normal = filter (λ other. not (tasks.is_scsi_post (task_mid_in p.frame) (dev_handle_in p.frame) other)) i.normal }) stop IOC_STATUS_SCSI_TASK_TERMINATED) 0 (say.framed (smid_in p.descriptor) (say.task_ended (dev_handle_in p.frame) abort_task IOC_STATUS_SUCCESS 1))
      (positive p r)
      (one (record i { normal = filter (λ other. not (tasks.is_scsi_post (task_mid_in p.frame) (dev_handle_in p.frame) other)) i.normal }) (commands.scsi_queue i stop) (say.scsi_ended (smid_in stop.descriptor) (dev_handle_in stop.frame) IOC_STATUS_SCSI_TASK_TERMINATED) l a))
  works i p o (AbortSends k g t e) r q s a = to o _ e a
  works i p o (AbortEnds k g t e) r q s a = to o _ e (one i 0 (say.framed (smid_in p.descriptor) (say.task_ended (dev_handle_in p.frame) abort_task IOC_STATUS_SUCCESS 0)) (positive p r) a)
  works i p o (ResetSends address plug expander phy k b e) r q s a = to o _ e a
  works i p o (ResetHolds address k b t e) r q s a = to o _ e a
  works i p o (ResetEnds status k e) r q s a = to o _ e (one i 0 (say.framed (smid_in p.descriptor) (say.task_ended (dev_handle_in p.frame) target_reset status 0)) (positive p r) a)
  works i p o (TaskFails k e) r q s a = to o _ e (one i 0 _ (positive p r) a)
  works i p o (PageEnds status k e) r q s a = to o _ e (one i 0 (said.Framed (smid_in p.descriptor) (reply_frame (reply.Config (action_in p.frame) (ext_page_type_in p.frame) status)) [] []) (positive p r) a)
  works i p o (PageGiven page k g e) r q s a = to o _ e (one i 0 (said.Framed (smid_in p.descriptor) (reply_frame (reply.Config (action_in p.frame) (ext_page_type_in p.frame) IOC_STATUS_SUCCESS)) (config.page_given p.frame page) []) (positive p r) a)
  works i p o (Enables k n e) r q s a = to o _ e a
  works i p o (Notifies k e) r q s a = to o _ e (one i 0 (say.framed (smid_in p.descriptor) reply.Notified) (positive p r) a)
  works i p o (Acks k t e) r q s a = to o _ e (one i 0 (say.framed (smid_in p.descriptor) (reply.Plain (byte_of function.EventAck) IOC_STATUS_SUCCESS)) (positive p r) a)
  works i p o (EndsPlainly g status k e) r q s a = to o _ e (one i 0 (say.framed (smid_in p.descriptor) (reply.Plain g status)) (positive p r) a)
  works i p o (RemovalEnds status k e) r q s a = to o _ e (one i 0 (say.framed (smid_in p.descriptor) (reply.Removed (controlled_handle_in p.frame) (operation_in p.frame) status)) (positive p r) a)
  works i p o (Removes address k g b c e) r q s a =
      to o _ e (binds_first (ask.ioc_ends_removal (table.with_binding i (controlled_handle_in p.frame) binding.Unbound) p IOC_STATUS_SUCCESS) i.waiting
      (record { context = s.context; bindings = unbound_fits; few = Rattle.std.proofs.Common.length-set i.bindings (controlled_handle_in p.frame - table.first_handle) binding.Unbound ∙ s.few; waiting = s.waiting; phys = s.phys }) s.waiting
      (one (table.with_binding i (controlled_handle_in p.frame) binding.Unbound) 0 (say.framed (smid_in p.descriptor) (reply.Removed (controlled_handle_in p.frame) (operation_in p.frame) IOC_STATUS_SUCCESS)) (positive p r) a))
    where
      unbound_fits : All BindingFits (set i.bindings (controlled_handle_in p.frame - table.first_handle) binding.Unbound)
      unbound_fits = all_set BindingFits i.bindings (controlled_handle_in p.frame - table.first_handle) binding.Unbound s.bindings tt
  works i p o (Strays k x e) r q s a = to o _ e a

not_true : {T : Type 0} (b : Bool) → b ≡ false → b ≡ true → T
not_true true e f = absurd (cc)
not_true false e f = absurd (cc)

-- ---- tables of outboxes

abbrev Boxes : (ℕ → Said → Type 0) → List (List Said) → Type 0
Boxes P up = (queue : ℕ) → All (P queue) (get_or up queue [])

filtered : (P : ℕ → Said → Type 0) (up : List (List Said)) → Boxes P up → Boxes P (map (filter outlives_reset) up)
filtered P [] a q = a q
filtered P (x ∷ xs) a zero = All-filter outlives_reset (P 0) x (a 0)
filtered P (x ∷ xs) a (suc q) = filtered (λ n. P (suc n)) xs (λ n. a (suc n)) q

with_marks : (P : ℕ → Said → Type 0) (g : ℕ) → ((q : ℕ) → P q (said.Mark g)) → (up : List (List Said)) → Boxes P up → Boxes P (map (λ outbox. outbox ++ said.Mark g ∷ []) up)
with_marks P g m [] a q = a q
with_marks P g m (x ∷ xs) a zero = All-append (P 0) x (said.Mark g ∷ []) (a 0) (All-cons (P 0) (said.Mark g) [] (m 0) (All-nil (P 0)))
with_marks P g m (x ∷ xs) a (suc q) = with_marks (λ n. P (suc n)) g (λ n. m (suc n)) xs (λ n. a (suc n)) q

behind_first : (P : ℕ → Said → Type 0) (g : ℕ) → ((q : ℕ) → P q (said.Mark g)) → (up : List (List Said)) → Boxes P up → Boxes P (marked g up)
behind_first P g m [] a q = a q
behind_first P g m (x ∷ xs) a zero = a 0
behind_first P g m (x ∷ xs) a (suc q) = with_marks (λ n. P (suc n)) g (λ n. m (suc n)) xs (λ n. a (suc n)) q

dropped : (P : Said → Type 0) (xs : List Said) → All P xs → All P (drop 1 xs)
dropped P [] a = a
dropped P (x ∷ xs) a = All-tail P x xs a

sent : (up : List (List Said)) (q : ℕ) → Boxes IsEventOn up → Boxes IsEventOn (set up q (drop 1 (get_or up q [])))
sent up q a queue = subst (All (IsEventOn queue)) (sym (get_or-set_any up q queue (drop 1 (get_or up q [])) [])) (by_tests (queue == q) (nat_lt q (length up)) refl)
  where
    by_tests : (b c : Bool) → (queue == q) ≡ b → All (IsEventOn queue) (cond b (cond c (drop 1 (get_or up q [])) (get_or up queue [])) (get_or up queue []))
    by_tests false c t = a queue
    by_tests true false t = a queue
    by_tests true true t = let z : q ≡ queue = grind (arith, t) in subst (λ k. All (IsEventOn k) (drop 1 (get_or up q []))) z (dropped (IsEventOn q) (get_or up q []) (a q))

same_boxes : (i k : Ioc) → k.up ≡ i.up → Outboxes i → Outboxes k
same_boxes i k e a queue = subst (λ (x : List (List Said)). All (IsEventOn queue) (get_or x queue [])) (sym e) (a queue)

none_at : (P : Said → Type 0) (n q : ℕ) → All P (get_or (replicate n []) q [])
none_at P zero q = All-nil P
none_at P (suc n) zero = All-nil P
none_at P (suc n) (suc q) = none_at P n q

-- ---- what is taken of the host

taken : (i : Ioc) (x : Down) (k : Ioc) → Takes i x k → is_fault k.door.state ≡ false → Outboxes i → Outboxes k
taken i x k (leaf.Faults y m e) n a = not_true (is_fault k.door.state) n e
taken i x k (leaf.Written reg value m r s e) n a = same_boxes i k (ap (λ (y : Ioc). y.up) e) a
taken i x k (leaf.Operates value m r s t e) n a = same_boxes i k (ap (λ (y : Ioc). y.up) e) a
taken i x k (leaf.Forgets reg value d e) n a = behind_first IsEventOn (next_generation i) (λ q. tt) (map (filter outlives_reset) i.up) (filtered IsEventOn i.up a)
taken i x k (leaf.Reads reg value) n a = one i 0 (said.Value value) tt a
taken i x k (leaf.Posts d f p m l e) n a = same_boxes i k (ap (λ (y : Ioc). y.up) e) a
taken i x k (leaf.DropsPost d f p e) n a = a
taken i x k (leaf.Returns address index m l e) n a = same_boxes i k (ap (λ (y : Ioc). y.up) e) a
taken i x k (leaf.DropsReturn address index e) n a = a
taken i x k leaf.Stops n a = a

phys_small : (xs : List ℕ) → All (IsFromTo 1 22) xs → (e : ℕ) → slice_index xs e < 2 ^ 8
phys_small xs a e = by_less (nat_lt e (length xs)) refl
  where
    by_less : (b : Bool) → nat_lt e (length xs) ≡ b → slice_index xs e < 2 ^ 8
    by_less true t = let z = All-get_or (IsFromTo 1 22) xs e 0 (let l : e < length xs = grind (arith, t) in l) a in omega (arith, z)
    by_less false t = let z = Rattle.std.proofs.lemmas.List.get_or_past xs e 0 (let l : length xs ≤ e = grind (arith, t) in l) in omega (arith, z)

module _ (w : World) (h : History) (f : Facts w h) where
  sound : Sound w.ioc
  sound = record { context = f.limits.context; bindings = f.limits.bindings; few = f.flights.sizes.bindings; waiting = f.limits.waiting; phys = phys_small w.ioc.phys f.limits.phys }

  -- ---- what the fabric tells

  asked : (s : ℕ) (x : AtFabric) → table.request_at w.ioc s ≡ Some x → RequestIs w h s (Some x)
  asked s x e = subst (RequestIs w h s) e (f.messages.requests s)

  of_command : (s handle queue len : ℕ) (written : Option ℕ) → table.request_at w.ioc s ≡ Some (at.Command handle queue len written) → (1 ≤ s) × (s ≤ 256)
  of_command s handle queue len written e = by_slot (slot w.host s) refl (asked s (at.Command handle queue len written) e)
    where
      by_slot : (x : Slot Request) → slot w.host s ≡ x → CommandAt w h s handle queue len written x → (1 ≤ s) × (s ≤ 256)
      by_slot Free g a = absurd a
      by_slot Parked g a = absurd a
      by_slot (Open (request.Command n)) g a = let i = inside w h f s (request.Command n) g in let c = classed w h f s (request.Command n) g in (i.0, omega (arith, c))
      by_slot (Open (request.Abort n task)) g a = absurd a
      by_slot (Open (request.TargetReset address)) g a = absurd a
      by_slot (Open (request.Leave h2)) g a = absurd a
      by_slot (Open (request.Page h2)) g a = absurd a
      by_slot (Open (request.Remove h2)) g a = absurd a
      by_slot (Open (request.Ack event context)) g a = absurd a
      by_slot (Open request.Notification) g a = absurd a
      by_slot (Open request.PortEnable) g a = absurd a

  of_abort : (s handle : ℕ) → table.request_at w.ioc s ≡ Some (at.Abort handle) → 1 ≤ s
  of_abort s handle e = by_slot (slot w.host s) refl (asked s (at.Abort handle) e)
    where
      by_slot : (x : Slot Request) → slot w.host s ≡ x → AbortAt w handle x → 1 ≤ s
      by_slot Free g a = absurd a
      by_slot Parked g a = absurd a
      by_slot (Open r) g a = (inside w h f s r g).0

  of_reset : (s handle : ℕ) → table.request_at w.ioc s ≡ Some (at.TargetReset handle) → 1 ≤ s
  of_reset s handle e = by_slot (slot w.host s) refl (asked s (at.TargetReset handle) e)
    where
      by_slot : (x : Slot Request) → slot w.host s ≡ x → IsTarget x → 1 ≤ s
      by_slot Free g a = absurd a
      by_slot Parked g a = absurd a
      by_slot (Open r) g a = (inside w h f s r g).0

  of_held : (r : HeldReset) → HeldIs w r → 1 ≤ r.smid
  of_held r a = by_slot (slot w.host r.smid) refl a
    where
      by_slot : (x : Slot Request) → slot w.host r.smid ≡ x → HeldIsOf r.handle x → 1 ≤ r.smid
      by_slot Free g a = absurd a
      by_slot Parked g a = absurd a
      by_slot (Open r2) g a = (inside w h f r.smid r2 g).0

  held_said : (xs : List HeldReset) → All (HeldIs w) xs → All IsPositive (map commands.held_answered xs)
  held_said [] a = All-nil IsPositive
  held_said (x ∷ xs) a = All-cons IsPositive (commands.held_answered x) (map commands.held_answered xs) (of_held x (All-head (HeldIs w) x xs a)) (held_said xs (All-tail (HeldIs w) x xs a))

  released : (i : Ioc) (handle : ℕ) → All (HeldIs w) i.held → Outboxes i → Outboxes (commands.releases i handle)
  released i handle d a = by_test (table.has_commands i handle)
    where
      by_test : (b : Bool) → Outboxes (if b then i else commands.answers_held i handle)
      by_test true = a
      by_test false = said_on (record i { held = filter (λ held. not (commands.is_held_for handle held)) i.held }) 0 (map commands.held_answered (filter (commands.is_held_for handle) i.held)) (held_said (filter (commands.is_held_for handle) i.held) (All-filter (commands.is_held_for handle) (HeldIs w) i.held d)) a

  ended : (s handle queue : ℕ) (answer : Said) → IsPositive answer → Outboxes w.ioc → Outboxes (commands.ends_command w.ioc s handle queue answer)
  ended s handle queue answer y a = released (say.says_on (table.without_request w.ioc s) queue (answer ∷ [])) handle f.messages.held (one (table.without_request w.ioc s) queue answer y a)

  result_written : (s handle len moved : ℕ) (result : ScsiResult) → 1 ≤ s → s ≤ 256 → IsPositive (commands.result_said s handle len moved result)
  result_written s handle len moved result l m = by_test (result.status == GOOD && moved == len)
    where
      by_test : (b : Bool) → IsPositive (if b then said.Success s result.payload result.sense else said.Framed s (Rattle.mpt_messages.specs.IocFrames.reply_frame (reply.Scsi handle s result.status (commands.result_status moved len) moved (length result.sense))) result.payload result.sense)
      by_test true = tt
      by_test false = l

  by_result : (s : ℕ) (result : ScsiResult) (o : Option AtFabric) → table.request_at w.ioc s ≡ o → Outboxes w.ioc → Outboxes (from_back.takes_result w.ioc s result o)
  by_result s result None e a = a
  by_result s result (Some (at.Command handle queue len written)) e a = let l = of_command s handle queue len written e in ended s handle queue (commands.result_said s handle len (commands.moved_by written result) result) (result_written s handle len (commands.moved_by written result) result l.0 l.1) a
  by_result s result (Some (at.Abort handle)) e a = a
  by_result s result (Some (at.TargetReset handle)) e a = a
  by_result s result (Some at.PortEnable) e a = a

  by_end : (s status : ℕ) (o : Option AtFabric) → table.request_at w.ioc s ≡ o → Outboxes w.ioc → Outboxes (from_back.takes_end w.ioc s status o)
  by_end s status None e a = a
  by_end s status (Some (at.Command handle queue len written)) e a = let l = of_command s handle queue len written e in ended s handle queue (say.scsi_ended s handle status) l.0 a
  by_end s status (Some (at.Abort handle)) e a = a
  by_end s status (Some (at.TargetReset handle)) e a = a
  by_end s status (Some at.PortEnable) e a = a

  by_abort : (s : ℕ) (found : Bool) (o : Option AtFabric) → table.request_at w.ioc s ≡ o → Outboxes w.ioc → Outboxes (from_back.takes_aborted w.ioc s found o)
  by_abort s found None e a = a
  by_abort s found (Some (at.Command handle queue len written)) e a = a
  by_abort s found (Some (at.Abort handle)) e a = counted found
    where
      of_count : (n : ℕ) → n ≤ 1 → Outboxes (tasks.ioc_ends_abort (table.without_request w.ioc s) s handle n)
      of_count n l = one (table.without_request w.ioc s) 0 (say.framed s (say.task_ended handle abort_task IOC_STATUS_SUCCESS n)) (of_abort s handle e) a

      counted : (b : Bool) → Outboxes (tasks.ioc_ends_abort (table.without_request w.ioc s) s handle (if b then 1 else 0))
      counted true = of_count 1 (omega arith)
      counted false = of_count 0 (omega arith)
  by_abort s found (Some (at.TargetReset handle)) e a = a
  by_abort s found (Some at.PortEnable) e a = a

  by_clear : (s count : ℕ) (o : Option AtFabric) → table.request_at w.ioc s ≡ o → Outboxes w.ioc → Outboxes (from_back.takes_cleared w.ioc s count o)
  by_clear s count None e a = a
  by_clear s count (Some (at.Command handle queue len written)) e a = a
  by_clear s count (Some (at.Abort handle)) e a = a
  by_clear s count (Some (at.TargetReset handle)) e a = one (table.without_request w.ioc s) 0 (say.framed s (say.task_ended handle target_reset IOC_STATUS_SUCCESS count)) (of_reset s handle e) a
  by_clear s count (Some at.PortEnable) e a = a

  by_discovery : (o : Option ℕ) → Outboxes w.ioc → Outboxes (from_back.takes_discovered w.ioc o)
  by_discovery None a = a
  by_discovery (Some place) a = one (table.without_request w.ioc (place + 1)) 0 (say.framed (place + 1) (reply.Plain (byte_of function.PortEnable) IOC_STATUS_SUCCESS)) (omega arith) a

  heard : (x : Back) → NoticeFits x → Outboxes w.ioc → Outboxes (from_back.hears w.ioc x).part
  heard (back.Result tag result) n a = by_result tag result (table.request_at w.ioc tag) refl a
  heard (back.Gone tag) n a = by_end tag _ (table.request_at w.ioc tag) refl a
  heard (back.Terminated tag) n a = by_end tag _ (table.request_at w.ioc tag) refl a
  heard (back.Aborted smid found) n a = by_abort smid found (table.request_at w.ioc smid) refl a
  heard (back.Cleared smid count) n a = by_clear smid count (table.request_at w.ioc smid) refl a
  heard (back.Plugged address plug expander phy) n a = by_test (bind.is_known w.ioc address || not (nat_lt expander (length w.ioc.phys)))
    where
      by_test : (b : Bool) → Outboxes (if b then table.silently w.ioc else bind.binds w.ioc (record { address = address; plug = plug; expander = expander; phy = phy })).part
      by_test true = a
      by_test false = binds_to w.ioc (record { address = address; plug = plug; expander = expander; phy = phy }) (table.least_unbound w.ioc) refl sound n a
  heard (back.Unplugged address plug expander phy) n a = by_handle (table.handle_of w.ioc address) refl
    where
      by_handle : (o : Option ℕ) → table.handle_of w.ioc address ≡ o → Outboxes (bind.ioc_unplugs_from w.ioc address o)
      by_handle None e = a
      by_handle (Some handle) e = lost w.ioc handle (table.binding_of w.ioc handle) refl (known_handle w.ioc address handle f.flights.sizes.bindings e) (binding_fits w.ioc handle sound) sound a
  heard back.Discovered n a = by_discovery (position from_back.is_port_enable w.ioc.requests) a
  heard (back.Linked generation) n a = by_test (table.is_reset w.ioc.door.state && generation == w.ioc.generation)
    where
      by_test : (b : Bool) → Outboxes (if b then record w.ioc { door = Rattle.mpi_doorbell.specs.DoorRegisters.linked_up w.ioc.door } else w.ioc)
      by_test true = a
      by_test false = a
  heard back.Calm n a = by_test (is_fault w.ioc.door.state)
    where
      by_test : (b : Bool) → Outboxes (if b then w.ioc else say.says_on w.ioc 0 (said.Calm ∷ []))
      by_test true = a
      by_test false = one w.ioc 0 said.Calm tt a

  told : (x : Back) → NoticeFits x → Outboxes w.ioc → Outboxes (adapter.takes_back w.ioc x).part
  told x n a = by_test (from_back.is_heard_in w.ioc.door.state x)
    where
      by_test : (b : Bool) → Outboxes (if b then from_back.hears w.ioc x else table.silently w.ioc).part
      by_test true = heard x n a
      by_test false = a

  noticed : (x : Back) (rest : List Back) → w.back ≡ x ∷ rest → NoticeFits x
  noticed x rest e = All-head NoticeFits x ((rest ++ w.fabric.out) ++ w.fabric.notices) (subst (λ (b : List Back). All NoticeFits ((b ++ w.fabric.out) ++ w.fabric.notices)) e f.limits.notices)

  -- ---- each case

  abbrev Stays : World → Type 0
  Stays v = is_fault v.ioc.door.state ≡ false → Outboxes v.ioc

  high : (p : Post) (rest : List Post) → w.ioc.high ≡ p ∷ rest → Outboxes w.ioc → Outboxes (step.works_on (record w.ioc { high = rest }) p).part
  high p rest e a =
      works w h f (record w.ioc { high = rest }) p (step.works_on (record w.ioc { high = rest }) p) (works_leaf (record w.ioc { high = rest }) p)
      (All-head (PostIsRecord w h) p rest (subst (All (PostIsRecord w h)) e f.messages.high)) f.messages.normal
      (record { context = f.limits.context; bindings = f.limits.bindings; few = f.flights.sizes.bindings; waiting = f.limits.waiting; phys = phys_small w.ioc.phys f.limits.phys }) a

  normal : (p : Post) (rest : List Post) → w.ioc.normal ≡ p ∷ rest → Outboxes w.ioc → Outboxes (step.works_on (record w.ioc { normal = rest }) p).part
  normal p rest e a =
      let z = subst (All (PostIsRecord w h)) e f.messages.normal in
      works w h f (record w.ioc { normal = rest }) p (step.works_on (record w.ioc { normal = rest }) p) (works_leaf (record w.ioc { normal = rest }) p)
      (All-head (PostIsRecord w h) p rest z) (All-tail (PostIsRecord w h) p rest z)
      (record { context = f.limits.context; bindings = f.limits.bindings; few = f.flights.sizes.bindings; waiting = f.limits.waiting; phys = phys_small w.ioc.phys f.limits.phys }) a

  owes : EventsStand w → Owes Stays w
  owes a = record {
    host_puts = λ x rest e v. a;
    host_takes = λ queue x rest e s v. a;
    host_told = λ i c v. a;
    host_looks = λ e v. a;
    host_stops = λ e v. a;
    ioc_takes = λ x rest e v. taken w.ioc x (adapter.takes_down w.ioc x).part (takes w.ioc f.doorbell.sound.waits f.clock.phase_table.whole x) v a;
    ioc_high = λ p rest e v. high p rest e a;
    ioc_normal = λ p rest e v. normal p rest e a;
    ioc_puts_out = λ x rest e v. a;
    ioc_takes_back = λ x rest e v. told x (noticed x rest e) a;
    ioc_puts = λ queue y rest z e g v. sent w.ioc.up queue a;
    fabric_takes = λ x rest e v. a;
    fabric_says = λ x rest e v. a;
    fabric_puts = λ x rest e v. a;
    fabric_runs = λ tag address e v. a;
    plugs = λ address expander phy v. a;
    unplugs = λ address v. a;
    calms = λ v. a;
  }

  pub events_kept : NothingIsStrange w → EventsStand w → (c : Case) → EventsStand (happens w c)
  events_kept plain a c = kept Stays w plain (owes a) (λ v. a) c (whole_kept w h f plain c)

pub events_at_first : (s : Setting) → EventsStand (first_world s)
events_at_first s queue = none_at (IsEventOn queue) _ queue
