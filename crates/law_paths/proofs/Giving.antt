-- What the controller gives its outboxes: a fact of each item there stays where each new item has it.
use Rattle.std.proofs.Common.{◌≡◌, ℕ, zero, suc, ◌==◌, ◌&&◌, nat_lt, not, cond, Bool, true, false, if◌then◌else◌, List, [], ◌∷◌, ◌++◌, drop, get_or, length, map, set, Option, Some, None, refl, ap, sym, subst}
use Rattle.std.specs.Prelude.{All}
use Rattle.std.specs.List.{filter, find}
use Rattle.law_flights.proofs.Tables.{get_or-set_any}
use Rattle.std.proofs.lemmas.List.Elements.{All-append, All-cons, All-filter, All-head, All-nil, All-tail}
use Rattle.mpi_doorbell.specs.DoorRegisters.{is_fault}
use Rattle.mpi_rings.specs.declared.request_descriptor.PostKind.TheVariants as post
use Rattle.mpt_messages.specs.Refusal.{request_refusal}
use Rattle.mpt_messages.specs.declared.fault.MsgFault.{MsgFault}
use Rattle.mpt_messages.specs.declared.ioc_reply.IocReply.{IocReply}
use Rattle.mpt_wire.specs.Messages.Fields.{dev_handle_in, kind_in, smid_in, task_mid_in}
use Rattle.mpt_trace.specs.declared.item.Down.{Down}
use Rattle.mpt_trace.specs.declared.item.Out.{Out}
use Rattle.mpt_trace.specs.declared.item.Out.TheVariants as out
use Rattle.scsi_disk.specs.declared.command.Command.{Command}
use Rattle.mpt_rules.specs.declared.at_fabric.HeldReset.{HeldReset}
use Rattle.mpt_rules.specs.declared.binding.Binding.TheVariants as binding
use Rattle.mpt_rules.specs.declared.binding.Waiting.{Waiting}
use Rattle.mpt_rules.specs.declared.post.Post.{Post}
use Rattle.mpt_rules.specs.declared.said.Said.{Said}
use Rattle.mpt_rules.specs.declared.said.Said.TheVariants as said
use Rattle.mpt_rules.specs.declared.status.TheConstants.{IOC_STATUS_SCSI_TASK_TERMINATED, IOC_STATUS_SUCCESS}
use Rattle.mpt_rules.specs.Ioc.Bindings as bind
use Rattle.mpt_rules.specs.Ioc.Commands as commands
use Rattle.mpt_rules.specs.Ioc.Parts.{Ioc}
use Rattle.mpt_rules.specs.Ioc.Replies as say
use Rattle.mpt_rules.specs.Ioc.Requests as ask
use Rattle.mpt_rules.specs.Ioc.Resets.{marked, next_generation, outlives_reset}
use Rattle.mpt_rules.specs.Ioc.Steps as step
use Rattle.mpt_rules.specs.Ioc.Tables as table
use Rattle.mpt_rules.specs.Ioc.Tasks as tasks
use Rattle.mpt_rules.specs.Outcome.{Happening}
use Rattle.law_flights.proofs.WorkLeaves.{AbortEnds, AbortSends, Acks, Dropped, Enables, EndsPlainly, Notifies, PageEnds, PageGiven, Refuses, RemovalEnds, Removes, ResetEnds, ResetHolds, ResetSends, ScsiCause, ScsiEnds, ScsiSends, Stops, Strays, TaskFails, Works}
use Rattle.law_messages.proofs.Agreeing.{all_more, all_one, not_both}
use Rattle.law_moves.proofs.IocTakes as leaf
use Rattle.law_moves.proofs.IocTakes.{Takes}

abbrev pub is_task : Out → Bool
is_task (out.Task tag address command) = true
is_task item = false

module _ (S : Said → Type 0) (O : Out → Type 0) where
  pub record Gives (up : List (List Said)) (sent : List Out) : Type 0 where
    pub said : (queue : ℕ) → All S (get_or up queue [])
    pub out : All O sent

  abbrev pub GivesBy : Ioc → Type 0
  GivesBy i = Gives i.up i.out

  pub says : (i : Ioc) (q : ℕ) (items : List Said) → All S items → GivesBy i → GivesBy (say.says_on i q items)
  says i q items a g = record { said = λ queue. subst (All S) (sym (get_or-set_any i.up q queue (get_or i.up q [] ++ items) [])) (by_tests queue (queue == q) (nat_lt q (length i.up))); out = g.out }
    where
      by_tests : (queue : ℕ) (b c : Bool) → All S (cond b (cond c (get_or i.up q [] ++ items) (get_or i.up queue [])) (get_or i.up queue []))
      by_tests queue false c = g.said queue
      by_tests queue true false = g.said queue
      by_tests queue true true = All-append S (get_or i.up q []) items (g.said q) a

  pub one : (i : Ioc) (q : ℕ) (y : Said) → S y → GivesBy i → GivesBy (say.says_on i q (y ∷ []))
  one i q y a g = says i q (y ∷ []) (all_one S y a) g

  sends : (i : Ioc) (x : Out) → O x → GivesBy i → GivesBy (say.with_out_item i x)
  sends i x a g = record { said = g.said; out = all_more O i.out x g.out a }

  by : (o p : Happening Ioc) → o ≡ p → GivesBy p.part → GivesBy o.part
  by o p e g = subst (λ (x : Happening Ioc). GivesBy x.part) (sym e) g

  -- the front of an outbox is put
  dropped : (xs : List Said) → All S xs → All S (drop 1 xs)
  dropped [] a = a
  dropped (x ∷ xs) a = All-tail S x xs a

  pub put : (up : List (List Said)) (sent : List Out) (q : ℕ) → Gives up sent → Gives (set up q (drop 1 (get_or up q []))) sent
  put up sent q g = record { said = λ queue. subst (All S) (sym (get_or-set_any up q queue (drop 1 (get_or up q [])) [])) (by_tests queue (queue == q) (nat_lt q (length up))); out = g.out }
    where
      by_tests : (queue : ℕ) (b c : Bool) → All S (cond b (cond c (drop 1 (get_or up q [])) (get_or up queue [])) (get_or up queue []))
      by_tests queue false c = g.said queue
      by_tests queue true false = g.said queue
      by_tests queue true true = dropped (get_or up q []) (g.said q)

  module _ (events : (frame page sense : List ℕ) → S (said.Framed 0 frame page sense)) (orders : (x : Out) → is_task x ≡ false → O x) where
    pub changes : (i : Ioc) (handle expander phy : ℕ) (added : Bool) → GivesBy i → GivesBy (bind.changes i handle expander phy added)
    changes i handle expander phy added g = by_through i.through
      where
        by_through : (b : Bool) → GivesBy (if b then bind.tells_change i handle expander phy added else i)
        by_through false = g
        by_through true = record { said = (one i 0 (say.framed 0 (Rattle.mpt_messages.specs.declared.ioc_reply.IocReply.TheVariants.Topology i.context handle expander (Rattle.std.proofs.Common.slice_index i.phys expander) phy added)) (events _ [] []) g).said; out = g.out }

    pub binds_to : (i : Ioc) (disk : Waiting) (o : Option ℕ) → GivesBy i → GivesBy (bind.binds_to i disk o).part
    binds_to i disk None g = g
    binds_to i disk (Some handle) g = changes (table.with_binding i handle (binding.Present disk.address disk.plug disk.expander disk.phy)) handle disk.expander disk.phy true g

    binds_first : (i : Ioc) (ds : List Waiting) → GivesBy i → GivesBy (bind.binds_first i ds).part
    binds_first i [] g = g
    binds_first i (d ∷ ds) g = binds_to (record i { waiting = ds }) d (table.least_unbound (record i { waiting = ds })) g

    -- ---- a post is processed

    module _ (i : Ioc) (p : Post)
        (high : kind_in p.descriptor ≡ Some post.HighPriority → (frame page sense : List ℕ) → S (said.Framed (smid_in p.descriptor) frame page sense))
        (default : kind_in p.descriptor ≡ Some post.Default → (frame page sense : List ℕ) → S (said.Framed (smid_in p.descriptor) frame page sense))
        (unrefused : (f : MsgFault) → kind_in p.descriptor ≡ Some post.ScsiIo → request_refusal (step.way_of post.ScsiIo) p.frame ≡ Some f → ⊥)
        (ends : (status : ℕ) → kind_in p.descriptor ≡ Some post.ScsiIo → ScsiCause i p status → S (say.scsi_ended (smid_in p.descriptor) (dev_handle_in p.frame) status))
        (sent : kind_in p.descriptor ≡ Some post.ScsiIo → (address : ℕ) (command : Command) → O (out.Task (smid_in p.descriptor) address command))
        (stopped : (stop : Post) → kind_in p.descriptor ≡ Some post.HighPriority → find (tasks.is_scsi_post (task_mid_in p.frame) (dev_handle_in p.frame)) i.normal ≡ Some stop → S (say.scsi_ended (smid_in stop.descriptor) (dev_handle_in stop.frame) IOC_STATUS_SCSI_TASK_TERMINATED)) where
      pub works : (o : Happening Ioc) → Works i p o → GivesBy i → GivesBy o.part
      works o (Dropped k e) g = by o (table.silently i) e g
      works o (Refuses post.ScsiIo f k r e) g = absurd (unrefused f k r)
      works o (Refuses post.HighPriority f k r e) g = by o (table.silently (step.refuses i p post.HighPriority f)) e (one i 0 _ (high k _ [] []) g)
      works o (Refuses post.Default f k r e) g = by o (table.silently (step.refuses i p post.Default f)) e (one i 0 _ (default k _ [] []) g)
      works o (ScsiEnds status k c e) g = by o (table.silently (commands.ends_scsi i p status)) e (one i (commands.scsi_queue i p) _ (ends status k c) g)
      works o (ScsiSends address plug expander phy k c b e) g =
          by o (table.silently (commands.sends_command i p address (commands.command_in p.frame p.payload))) e (sends i (out.Task (smid_in p.descriptor) address (commands.command_in p.frame p.payload)) (sent k address (commands.command_in p.frame p.payload)) g)
      works o (Stops stop k f e) g =
          let q : Ioc = record i { normal = filter (λ other. not (tasks.is_scsi_post (task_mid_in p.frame) (dev_handle_in p.frame) other)) i.normal } in
          by o (table.silently (tasks.stops_queued i (smid_in p.descriptor) (task_mid_in p.frame) (dev_handle_in p.frame) stop)) e
          (one (commands.ends_scsi q stop IOC_STATUS_SCSI_TASK_TERMINATED) 0 _ (high k _ [] []) (one q (commands.scsi_queue q stop) _ (stopped stop k f) g))
      works o (AbortSends k f c e) g = by o (table.silently (tasks.sends_abort i (smid_in p.descriptor) (task_mid_in p.frame) (dev_handle_in p.frame))) e (sends i (out.Abort (smid_in p.descriptor) (task_mid_in p.frame)) (orders (out.Abort (smid_in p.descriptor) (task_mid_in p.frame)) refl) g)
      works o (AbortEnds k f c e) g = by o (table.silently (tasks.ioc_ends_abort i (smid_in p.descriptor) (dev_handle_in p.frame) 0)) e (one i 0 _ (high k _ [] []) g)
      works o (ResetSends address plug expander phy k b e) g = by o (table.silently (tasks.ioc_resets_target i (smid_in p.descriptor) (dev_handle_in p.frame) (binding.Present address plug expander phy))) e (sends i (out.TargetReset (smid_in p.descriptor) address) (orders (out.TargetReset (smid_in p.descriptor) address) refl) g)
      works o (ResetHolds address k b c e) g = by o (table.silently (record i { held = i.held ++ record { smid = smid_in p.descriptor; handle = dev_handle_in p.frame } ∷ [] })) e g
      works o (ResetEnds status k e) g = by o (table.silently (tasks.ends_target_reset i (smid_in p.descriptor) (dev_handle_in p.frame) status 0)) e (one i 0 _ (high k _ [] []) g)
      works o (TaskFails k e) g = by o (table.silently (tasks.fails_task i (smid_in p.descriptor) (dev_handle_in p.frame) (Rattle.mpt_wire.specs.Messages.Fields.task_type_in p.frame))) e (one i 0 _ (high k _ [] []) g)
      works o (PageEnds status k e) g = by o (table.silently (Rattle.mpt_rules.specs.Ioc.Configuration.ends_config i p status [])) e (one i 0 _ (default k _ [] []) g)
      works o (PageGiven page k w e) g = by o (table.silently (Rattle.mpt_rules.specs.Ioc.Configuration.ends_config i p IOC_STATUS_SUCCESS (Rattle.mpt_rules.specs.Ioc.Configuration.page_given p.frame page))) e (one i 0 _ (default k _ (Rattle.mpt_rules.specs.Ioc.Configuration.page_given p.frame page) []) g)
      works o (Enables k n e) g = by o (table.silently (ask.enables i (smid_in p.descriptor))) e (sends (record i { enabled = true }) out.Discover (orders out.Discover refl) g)
      works o (Notifies k e) g = by o (table.silently (ask.works_notification i p)) e (one i 0 _ (default k _ [] []) g)
      works o (Acks k t e) g = by o (table.silently (ask.ends_plainly (record i { unacked = _ }) p _ IOC_STATUS_SUCCESS)) e (one i 0 _ (default k _ [] []) g)
      works o (EndsPlainly f status k e) g = by o (table.silently (ask.ends_plainly i p f status)) e (one i 0 _ (default k _ [] []) g)
      works o (RemovalEnds status k e) g = by o (table.silently (ask.ioc_ends_removal i p status)) e (one i 0 _ (default k _ [] []) g)
      works o (Removes address k f b c e) g =
          by o (ask.removes i p) e
          (binds_first (ask.ioc_ends_removal (table.with_binding i (Rattle.mpt_wire.specs.Messages.Fields.controlled_handle_in p.frame) binding.Unbound) p IOC_STATUS_SUCCESS) i.waiting
          (one (table.with_binding i (Rattle.mpt_wire.specs.Messages.Fields.controlled_handle_in p.frame) binding.Unbound) 0 _ (default k _ [] []) g))
      works o (Strays k r e) g = by o (table.silently i) e g

    -- ---- the fabric tells something

    held_said : (xs : List HeldReset) → All (λ r. S (commands.held_answered r)) xs → All S (map commands.held_answered xs)
    held_said [] a = All-nil S
    held_said (x ∷ xs) a = All-cons S (commands.held_answered x) (map commands.held_answered xs) (All-head (λ r. S (commands.held_answered r)) x xs a) (held_said xs (All-tail (λ r. S (commands.held_answered r)) x xs a))

    pub releases : (i : Ioc) (handle : ℕ) → All (λ r. S (commands.held_answered r)) i.held → GivesBy i → GivesBy (commands.releases i handle)
    releases i handle a g = by_test (table.has_commands i handle)
      where
        by_test : (b : Bool) → GivesBy (if b then i else commands.answers_held i handle)
        by_test true = g
        by_test false = says (record i { held = filter (λ held. not (commands.is_held_for handle held)) i.held }) 0 (map commands.held_answered (filter (commands.is_held_for handle) i.held)) (held_said (filter (commands.is_held_for handle) i.held) (All-filter (commands.is_held_for handle) (λ r. S (commands.held_answered r)) i.held a)) g

    -- ---- an item of the host is taken

    module _ (values : (n : ℕ) → S (said.Value n)) (marks : (n : ℕ) → S (said.Mark n)) where
      abbrev Boxes : List (List Said) → Type 0
      Boxes up = (queue : ℕ) → All S (get_or up queue [])

      filtered : (up : List (List Said)) → Boxes up → Boxes (map (filter outlives_reset) up)
      filtered [] a q = a q
      filtered (x ∷ xs) a zero = All-filter outlives_reset S x (a 0)
      filtered (x ∷ xs) a (suc q) = filtered xs (λ n. a (suc n)) q

      with_marks : (g : ℕ) (up : List (List Said)) → Boxes up → Boxes (map (λ outbox. outbox ++ said.Mark g ∷ []) up)
      with_marks g [] a q = a q
      with_marks g (x ∷ xs) a zero = All-append S x (said.Mark g ∷ []) (a 0) (all_one S (said.Mark g) (marks g))
      with_marks g (x ∷ xs) a (suc q) = with_marks g xs (λ n. a (suc n)) q

      behind_first : (g : ℕ) (up : List (List Said)) → Boxes up → Boxes (marked g up)
      behind_first g [] a q = a q
      behind_first g (x ∷ xs) a zero = a 0
      behind_first g (x ∷ xs) a (suc q) = with_marks g xs (λ n. a (suc n)) q

      same : (i k : Ioc) → k.up ≡ i.up → k.out ≡ i.out → GivesBy i → GivesBy k
      same i k e f g = subst (λ up. Gives up k.out) (sym e) (subst (λ o. Gives i.up o) (sym f) g)

      pub takes : (i : Ioc) (x : Down) (k : Ioc) → Takes i x k → is_fault k.door.state ≡ false → GivesBy i → GivesBy k
      takes i x k (leaf.Faults y m e) n g = not_both (is_fault k.door.state) n e
      takes i x k (leaf.Written reg value m r s e) n g = same i k (ap (λ (y : Ioc). y.up) e) (ap (λ (y : Ioc). y.out) e) g
      takes i x k (leaf.Operates value m r s t e) n g = same i k (ap (λ (y : Ioc). y.up) e) (ap (λ (y : Ioc). y.out) e) g
      takes i x k (leaf.Forgets reg value d e) n g = record { said = behind_first (next_generation i) (map (filter outlives_reset) i.up) (filtered i.up g.said); out = all_one O (out.Link (next_generation i)) (orders (out.Link (next_generation i)) refl) }
      takes i x k (leaf.Reads reg value) n g = one i 0 (said.Value value) (values value) g
      takes i x k (leaf.Posts d f p m l e) n g = same i k (ap (λ (y : Ioc). y.up) e) (ap (λ (y : Ioc). y.out) e) g
      takes i x k (leaf.DropsPost d f p e) n g = g
      takes i x k (leaf.Returns address index m l e) n g = same i k (ap (λ (y : Ioc). y.up) e) (ap (λ (y : Ioc). y.out) e) g
      takes i x k (leaf.DropsReturn address index e) n g = g
      takes i x k leaf.Stops n g = sends i out.Stop (orders out.Stop refl) g
