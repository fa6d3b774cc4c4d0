-- The controller's queues behind a work step and behind an item of the fabric: they stay, but for what an abort takes off.
use Rattle.std.proofs.Common.{◌≡◌, ℕ, Bool, true, false, not, if◌then◌else◌, List, [], ◌∷◌, Option, Some, None, refl, sym, subst}
use Rattle.std.specs.List.{filter}
use Rattle.mpt_wire.specs.Messages.Fields.{controlled_handle_in, dev_handle_in, task_mid_in}
use Rattle.mpt_trace.specs.declared.item.Back.{Back}
use Rattle.mpt_rules.specs.declared.binding.Binding.TheVariants as binding
use Rattle.mpt_rules.specs.declared.binding.Waiting.{Waiting}
use Rattle.mpt_rules.specs.declared.post.Post.{Post}
use Rattle.mpt_rules.specs.declared.status.TheConstants.{IOC_STATUS_SUCCESS}
use Rattle.mpt_rules.specs.Outcome.{Happening}
use Rattle.mpt_rules.specs.Ioc.Back as news
use Rattle.mpt_rules.specs.Ioc.Bindings as bind
use Rattle.mpt_rules.specs.Ioc.Commands as commands
use Rattle.mpt_rules.specs.Ioc.Parts.{Ioc}
use Rattle.mpt_rules.specs.Ioc.Replies as say
use Rattle.mpt_rules.specs.Ioc.Requests as ask
use Rattle.mpt_rules.specs.Ioc.Steps as step
use Rattle.mpt_rules.specs.Ioc.Tables as table
use Rattle.mpt_rules.specs.Ioc.Tasks as tasks
use Rattle.law_flights.proofs.Leaves.{Bound, Calmed, Done, Ended, Hears, Linked, Lost, Passed, Unawaited, Waits, back_leaf, reply_made}
use Rattle.law_flights.proofs.WorkLeaves.{AbortEnds, AbortSends, Acks, Dropped, Enables, EndsPlainly, Notifies, PageEnds, PageGiven, Refuses, RemovalEnds, Removes, ResetEnds, ResetHolds, ResetSends, ScsiEnds, ScsiSends, Stops, Strays, TaskFails, Works, works_leaf}

-- a list, or what a test leaves of it
pub data Shrinks (xs : List Post) : List Post → Type 0 where
  Stays : Shrinks xs xs
  Loses : (test : Post → Bool) → Shrinks xs (filter test xs)

-- both queues as they were
pub record SameQueues (i k : Ioc) : Type 0 where
  pub high : k.high ≡ i.high
  pub normal : k.normal ≡ i.normal

still : (i : Ioc) → SameQueues i i
still i = record { high = refl; normal = refl }

releases : (i : Ioc) (handle : ℕ) → SameQueues i (commands.releases i handle)
releases i handle = by_commands (table.has_commands i handle)
  where
    by_commands : (b : Bool) → SameQueues i (if b then i else commands.answers_held i handle)
    by_commands true = still i
    by_commands false = record { high = refl; normal = refl }

changes : (i : Ioc) (handle expander phy : ℕ) (added : Bool) → SameQueues i (bind.changes i handle expander phy added)
changes i handle expander phy added = by_through i.through
  where
    by_through : (b : Bool) → SameQueues i (if b then bind.tells_change i handle expander phy added else i)
    by_through true = record { high = refl; normal = refl }
    by_through false = still i

binds_to : (i : Ioc) (disk : Waiting) (o : Option ℕ) → SameQueues i (bind.binds_to i disk o).part
binds_to i disk None = record { high = refl; normal = refl }
binds_to i disk (Some handle) = let c = changes (table.with_binding i handle (binding.Present disk.address disk.plug disk.expander disk.phy)) handle disk.expander disk.phy true in record { high = c.high; normal = c.normal }

binds_first : (i : Ioc) (ds : List Waiting) → SameQueues i (bind.binds_first i ds).part
binds_first i [] = still i
binds_first i (d ∷ ds) = let c = binds_to (record i { waiting = ds }) d (table.least_unbound (record i { waiting = ds })) in record { high = c.high; normal = c.normal }

module _ (i : Ioc) where
  to : (o x : Happening Ioc) → o ≡ x → SameQueues i x.part → SameQueues i o.part
  to o x e q = subst (λ (y : Happening Ioc). SameQueues i y.part) (sym e) q

  heard : (x : Back) (o : Happening Ioc) → Hears i x o → SameQueues i o.part
  heard x o (Passed e) = to o (table.silently i) e (still i)
  heard x o (Ended tag handle queue len written r e) = to o _ e (let c = releases (say.says_on (table.without_request i tag) queue (reply_made x handle len written ∷ [])) handle in record { high = c.high; normal = c.normal })
  heard x o (Done smid r answer q e) = to o _ e (record { high = refl; normal = refl })
  heard x o (Bound disk handle l k e) = to o _ e (binds_to i disk (Some handle))
  heard x o (Waits disk l k e) = to o _ e (record { high = refl; normal = refl })
  heard x o (Lost handle address plug expander phy b e) = to o _ e (let c = changes (table.with_binding i handle (binding.Gone address)) handle expander phy false in record { high = c.high; normal = c.normal })
  heard x o (Unawaited address u e) = to o _ e (record { high = refl; normal = refl })
  heard x o (Linked generation r e) = to o _ e (record { high = refl; normal = refl })
  heard x o (Calmed e) = to o _ e (record { high = refl; normal = refl })

  pub back_queues : (x : Back) → SameQueues i (news.takes_back i x).part
  back_queues x = heard x (news.takes_back i x) (back_leaf i x)

  -- ---- work

  pub record Worked (k : Ioc) : Type 0 where
    pub high : k.high ≡ i.high
    pub normal : Shrinks i.normal k.normal

  plain : (k : Ioc) → k.high ≡ i.high → k.normal ≡ i.normal → Worked k
  plain k e f = record { high = e; normal = subst (Shrinks i.normal) (sym f) Stays }

  at : (o x : Happening Ioc) → o ≡ x → Worked x.part → Worked o.part
  at o x e q = subst (λ (y : Happening Ioc). Worked y.part) (sym e) q

  worked : (p : Post) (o : Happening Ioc) → Works i p o → Worked o.part
  worked p o (Dropped k e) = at o _ e (plain _ refl refl)
  worked p o (Refuses k f d r e) = at o _ e (plain _ refl refl)
  worked p o (ScsiEnds status k c e) = at o _ e (plain _ refl refl)
  worked p o (ScsiSends address plug expander phy k c b e) = at o _ e (plain _ refl refl)
  worked p o (Stops stop k f e) = at o _ e (record { high = refl; normal = Loses (λ other. not (tasks.is_scsi_post (task_mid_in p.frame) (dev_handle_in p.frame) other)) })
  worked p o (AbortSends k f t e) = at o _ e (plain _ refl refl)
  worked p o (AbortEnds k f t e) = at o _ e (plain _ refl refl)
  worked p o (ResetSends address plug expander phy k b e) = at o _ e (plain _ refl refl)
  worked p o (ResetHolds address k b t e) = at o _ e (plain _ refl refl)
  worked p o (ResetEnds status k e) = at o _ e (plain _ refl refl)
  worked p o (TaskFails k e) = at o _ e (plain _ refl refl)
  worked p o (PageEnds status k e) = at o _ e (plain _ refl refl)
  worked p o (PageGiven page k w e) = at o _ e (plain _ refl refl)
  worked p o (Enables k n e) = at o _ e (plain _ refl refl)
  worked p o (Notifies k e) = at o _ e (plain _ refl refl)
  worked p o (Acks k t e) = at o _ e (plain _ refl refl)
  worked p o (EndsPlainly f status k e) = at o _ e (plain _ refl refl)
  worked p o (RemovalEnds status k e) = at o _ e (plain _ refl refl)
  worked p o (Removes address k f b c e) =
      at o (ask.removes i p) e (let q = binds_first (ask.ioc_ends_removal (table.with_binding i (controlled_handle_in p.frame) binding.Unbound) p IOC_STATUS_SUCCESS) i.waiting in plain (ask.removes i p).part q.high q.normal)
  worked p o (Strays k r e) = at o _ e (plain _ refl refl)

  pub work_queues : (p : Post) → Worked (step.works_on i p).part
  work_queues p = worked p (step.works_on i p) (works_leaf i p)
