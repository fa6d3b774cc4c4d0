-- What the controller's cases tell beside what they take: handles that are bound or unbound, and all at a reset.
use Rattle.std.proofs.Common.{◌≡◌, ℕ, ◌&&◌, Bool, true, List, [], ◌∷◌, Option, Some, None, refl, ap, sym, subst, ◌∙◌}
use Rattle.std.specs.List.{list_all}
use Rattle.mpi_doorbell.specs.DoorRegisters.{register_written}
use Rattle.mpi_doorbell.specs.declared.effect.Effect.{Effect}
use Rattle.mpi_doorbell.specs.declared.effect.Effect.TheVariants as effect
use Rattle.mpt_trace.specs.declared.entry.Entry.{Entry}
use Rattle.mpt_trace.specs.declared.entry.Entry.TheVariants as entry
use Rattle.mpt_trace.specs.declared.item.Back.{Back}
use Rattle.mpt_trace.specs.declared.item.Down.{Down}
use Rattle.mpt_trace.specs.declared.item.Down.TheVariants as down
use Rattle.mpt_trace.specs.declared.item.Item.TheVariants as item
use Rattle.mpt_trace.specs.declared.lane.LaneName.TheVariants as lane
use Rattle.mpt_wire.specs.Fits.Blocks.{is_bind, is_binding, is_one_take}
use Rattle.mpt_wire.specs.Messages.Fields.{controlled_handle_in}
use Rattle.mpt_rules.specs.declared.binding.Binding.TheVariants as binding
use Rattle.mpt_rules.specs.declared.binding.Waiting.{Waiting}
use Rattle.mpt_rules.specs.declared.post.Post.{Post}
use Rattle.mpt_rules.specs.declared.status.TheConstants.{IOC_STATUS_SUCCESS}
use Rattle.mpt_rules.specs.Ioc.Back.{takes_back}
use Rattle.mpt_rules.specs.Ioc.Bindings as bind
use Rattle.mpt_rules.specs.Ioc.Parts.{Ioc}
use Rattle.mpt_rules.specs.Ioc.Registers.{after_effect}
use Rattle.mpt_rules.specs.Ioc.Requests as ask
use Rattle.mpt_rules.specs.Ioc.Steps as step
use Rattle.mpt_rules.specs.Ioc.Tables as table
use Rattle.mpt_rules.specs.Ioc.Takes.{takes_down}
use Rattle.mpt_rules.specs.Outcome.{Happening}
use Rattle.law_flights.proofs.Leaves.{Bound, Calmed, Done, Ended, Hears, Linked, Lost, Passed, Unawaited, Waits, back_leaf}
use Rattle.law_flights.proofs.WorkLeaves.{AbortEnds, AbortSends, Acks, Dropped, Enables, EndsPlainly, Notifies, PageEnds, PageGiven, Refuses, RemovalEnds, Removes, ResetEnds, ResetHolds, ResetSends, ScsiEnds, ScsiSends, Stops, Strays, TaskFails, Works, works_leaf}

-- a test that a bind and an unbind pass
module _ (test : Entry → Bool) (binds : (handle address plug : ℕ) → test (entry.Bind handle address plug) ≡ true) (unbinds : (handle : ℕ) → test (entry.Unbind handle) ≡ true) where
  abbrev Pass : List Entry → Type 0
  Pass told = list_all test told ≡ true

  silent : (i k : Ioc) (o : Happening Ioc) → o ≡ table.silently k → Pass o.entries
  silent i k o e = subst (λ (x : Happening Ioc). Pass x.entries) (sym e) refl

  bound : (i : Ioc) (disk : Waiting) (o : Option ℕ) → Pass (bind.binds_to i disk o).entries
  bound i disk None = refl
  bound i disk (Some handle) = ap (λ (b : Bool). b && true) (binds handle disk.address disk.plug)

  first : (i : Ioc) (ds : List Waiting) → Pass (bind.binds_first i ds).entries
  first i [] = refl
  first i (d ∷ ds) = bound (record i { waiting = ds }) d (table.least_unbound (record i { waiting = ds }))

  removed : (i : Ioc) (p : Post) → Pass (ask.removes i p).entries
  removed i p =
      let k = ask.ioc_ends_removal (table.with_binding i (controlled_handle_in p.frame) binding.Unbound) p IOC_STATUS_SUCCESS in
      ap (λ (b : Bool). b && list_all test (bind.binds_waiting k).entries) (unbinds (controlled_handle_in p.frame)) ∙ first k k.waiting

  work_tells : (i : Ioc) (p : Post) (o : Happening Ioc) → Works i p o → Pass o.entries
  work_tells i p o (Dropped k e) = silent i _ o e
  work_tells i p o (Refuses k f d r e) = silent i _ o e
  work_tells i p o (ScsiEnds status k c e) = silent i _ o e
  work_tells i p o (ScsiSends address plug expander phy k c b e) = silent i _ o e
  work_tells i p o (Stops stop k f e) = silent i _ o e
  work_tells i p o (AbortSends k f t e) = silent i _ o e
  work_tells i p o (AbortEnds k f t e) = silent i _ o e
  work_tells i p o (ResetSends address plug expander phy k b e) = silent i _ o e
  work_tells i p o (ResetHolds address k b t e) = silent i _ o e
  work_tells i p o (ResetEnds status k e) = silent i _ o e
  work_tells i p o (TaskFails k e) = silent i _ o e
  work_tells i p o (PageEnds status k e) = silent i _ o e
  work_tells i p o (PageGiven page k w e) = silent i _ o e
  work_tells i p o (Enables k a e) = silent i _ o e
  work_tells i p o (Notifies k e) = silent i _ o e
  work_tells i p o (Acks k t e) = silent i _ o e
  work_tells i p o (EndsPlainly f status k e) = silent i _ o e
  work_tells i p o (RemovalEnds status k e) = silent i _ o e
  work_tells i p o (Removes address k f b c e) = subst (λ (x : Happening Ioc). Pass x.entries) (sym e) (removed i p)
  work_tells i p o (Strays k r e) = silent i _ o e

  news_tells : (i : Ioc) (x : Back) (o : Happening Ioc) → Hears i x o → Pass o.entries
  news_tells i x o (Passed e) = silent i _ o e
  news_tells i x o (Ended tag handle queue len written r e) = silent i _ o e
  news_tells i x o (Done smid r answer a e) = silent i _ o e
  news_tells i x o (Bound disk handle l k e) = subst (λ (y : Happening Ioc). Pass y.entries) (sym e) (bound i disk (Some handle))
  news_tells i x o (Waits disk l k e) = silent i _ o e
  news_tells i x o (Lost handle address plug expander phy b e) = silent i _ o e
  news_tells i x o (Unawaited address n e) = silent i _ o e
  news_tells i x o (Linked generation r e) = silent i _ o e
  news_tells i x o (Calmed e) = silent i _ o e

-- a step of a queue
pub step_block : (i : Ioc) (p : Post) → list_all is_bind (step.works_on i p).entries ≡ true
step_block i p = work_tells is_bind (λ handle address plug. refl) (λ handle. refl) i p (step.works_on i p) (works_leaf i p)

-- an item of the fabric
pub back_block : (i : Ioc) (x : Back) → is_one_take lane.Back is_binding (entry.Take lane.Back (item.Back x) ∷ (takes_back i x).entries) ≡ true
back_block i x = news_tells is_binding (λ handle address plug. refl) (λ handle. refl) i x (takes_back i x) (back_leaf i x)

-- an item of the host
pub down_block : (i : Ioc) (x : Down) → is_one_take lane.Down is_binding (entry.Take lane.Down (item.Down x) ∷ (takes_down i x).entries) ≡ true
down_block i (down.Write reg value) = by_effect (register_written i.door reg value).effect
  where
    j : Ioc
    j = record i { door = (register_written i.door reg value).registers }

    by_effect : (f : Effect) → list_all is_binding (after_effect j f).entries ≡ true
    by_effect effect.None = refl
    by_effect (effect.Asked count bytes) = refl
    by_effect effect.UnitReset = refl
    by_effect effect.AdapterReset = refl
    by_effect (effect.Fault code) = refl
down_block i (down.Read reg) = refl
down_block i (down.Post descriptor frame payload) = refl
down_block i (down.Return address index) = refl
down_block i down.Stop = refl
