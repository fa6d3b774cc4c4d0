-- The plugs of disks that are present, and of those that wait, are numbered from 1 on, over every case.
use Rattle.std.proofs.Common.{◌≡◌, ℕ, zero, suc, ◌+◌, ◌-◌, ◌≤◌, ◌==◌, nat_lt, ◌||◌, not, Bool, true, false, if◌then◌else◌, List, [], ◌∷◌, ◌++◌, length, get_or, set, take, Option, Some, None, refl, ap, sym, ◌∙◌, subst, arith}
use Rattle.std.specs.Prelude.{All}
use Rattle.std.proofs.lemmas.List.Elements.{All-append, All-cons, All-filter, All-head, All-nil, All-replicate, All-set, All-tail}
use Rattle.mpi_doorbell.specs.DoorRegisters.{register_written}
use Rattle.mpi_doorbell.specs.declared.effect.Effect.{Effect}
use Rattle.mpi_doorbell.specs.declared.effect.Effect.TheVariants as effect
use Rattle.mpt_messages.specs.Function.{function_of}
use Rattle.mpt_messages.specs.Refusal.{request_refusal_as}
use Rattle.mpt_messages.specs.declared.function.Kind.TheVariants as kind
use Rattle.mpt_wire.specs.Messages.Fields.{controlled_handle_in}
use Rattle.mpt_trace.specs.declared.item.Back.{Back}
use Rattle.mpt_trace.specs.declared.item.Back.TheVariants as back
use Rattle.mpt_trace.specs.declared.item.Down.{Down}
use Rattle.mpt_trace.specs.declared.item.Down.TheVariants as downward
use Rattle.mpt_rules.specs.declared.binding.Binding.{Binding}
use Rattle.mpt_rules.specs.declared.binding.Binding.TheVariants as binding
use Rattle.mpt_rules.specs.declared.binding.Waiting.{Waiting}
use Rattle.mpt_rules.specs.declared.post.Post.{Post}
use Rattle.mpt_rules.specs.declared.status.TheConstants.{IOC_STATUS_SUCCESS}
use Rattle.mpt_rules.specs.Ioc.Back as from_back
use Rattle.mpt_rules.specs.Ioc.Bindings as bind
use Rattle.mpt_rules.specs.Ioc.Parts.{Ioc}
use Rattle.mpt_rules.specs.Ioc.Registers as registers
use Rattle.mpt_rules.specs.Ioc.Requests as ask
use Rattle.mpt_rules.specs.Ioc.Steps.{works_on}
use Rattle.mpt_rules.specs.Ioc.Tables as table
use Rattle.mpt_rules.specs.Ioc.Tables.{first_handle}
use Rattle.mpt_rules.specs.Ioc.Takes as adapter
use Rattle.mpt_rules.specs.Law.{NothingIsStrange}
use Rattle.mpt_rules.specs.Outcome.{Happening}
use Rattle.mpt_rules.specs.World.Cases.{Case, happens}
use Rattle.mpt_rules.specs.World.News.{notices_of}
use Rattle.mpt_rules.specs.World.Settings.{Setting, first_world}
use Rattle.mpt_rules.specs.World.State.{World}
use Rattle.mpt_rules.proofs.Lines.{notices_of-cons}
use Rattle.law_facts.specs.Clock.{is_live}
use Rattle.law_facts.specs.Facts.{Facts}
use Rattle.law_facts.specs.History.{History}
use Rattle.law_facts.specs.Notices.{Standing, known}
use Rattle.law_flights.proofs.WorkLeaves.{AbortEnds, AbortSends, Acks, Dropped, Enables, EndsPlainly, Notifies, PageEnds, PageGiven, Refuses, RemovalEnds, Removes, ResetEnds, ResetHolds, ResetSends, ScsiEnds, ScsiSends, Stops, Strays, TaskFails, Works, works_leaf}
use Rattle.law_handles.proofs.Plugged as plugged
use Rattle.law_handles.proofs.TablesSame as same
use Rattle.law_handles.proofs.TablesSame.{IsOfNoDisk, Same, of_no_disk}
use Rattle.law_moves.proofs.Cases.{Owes, kept}
use Rattle.law_notices.specs.Further.{BoundWasPlugged, DisksWerePlugged, WaitingWasPlugged, WerePlugged}
use Rattle.law_notices.proofs.Calls.{unheard}
use Rattle.law_notices.proofs.Known.{present}
use Rattle.law_notices.proofs.Leading.{before, news, standing}
use Rattle.law_notices.proofs.Told.{Leads, comes}

abbrev Plugs : Ioc → Type 0
Plugs i = WerePlugged i.bindings i.waiting

alike : (x y : Ioc) → Same x y → Plugs y → Plugs x
alike x y s z = subst (λ b. WerePlugged b x.waiting) (sym s.bindings) (subst (WerePlugged y.bindings) (sym s.waiting) z)

put : (i : Ioc) (handle : ℕ) (b : Binding) → BoundWasPlugged b → Plugs i → Plugs (table.with_binding i handle b)
put i handle b t z = record { bound = All-set BoundWasPlugged i.bindings (handle - first_handle) b t z.bound; awaited = z.awaited }

changes : (i : Ioc) (handle expander phy : ℕ) (added : Bool) → Plugs i → Plugs (bind.changes i handle expander phy added)
changes i handle expander phy added z = alike (bind.changes i handle expander phy added) i (same.changed i handle expander phy added) z

binds : (i : Ioc) (disk : Waiting) (o : Option ℕ) → 1 ≤ disk.plug → Plugs i → Plugs (bind.binds_to i disk o).part
binds i disk None p z = record { bound = z.bound; awaited = All-append WaitingWasPlugged i.waiting (disk ∷ []) z.awaited (All-cons WaitingWasPlugged disk [] p (All-nil WaitingWasPlugged)) }
binds i disk (Some handle) p z = changes (table.with_binding i handle (present disk)) handle disk.expander disk.phy true (put i handle (present disk) p z)

first : (i : Ioc) (ds : List Waiting) → All WaitingWasPlugged ds → Plugs i → Plugs (bind.binds_first i ds).part
first i [] a z = z
first i (d ∷ ds) a z = binds (record i { waiting = ds }) d (table.least_unbound (record i { waiting = ds })) (All-head WaitingWasPlugged d ds a) (record { bound = z.bound; awaited = All-tail WaitingWasPlugged d ds a })

-- ---- what the host sends

does : (i : Ioc) (e : Effect) → Plugs i → Plugs (registers.after_effect i e).part
does i effect.None z = z
does i (effect.Asked count bytes) z = alike _ i (same.handshakes i (take count bytes) (request_refusal_as kind.Handshake (take count bytes) (function_of (Rattle.std.proofs.Common.slice_index (take count bytes) 3)))) z
does i effect.UnitReset z = record { bound = All-replicate BoundWasPlugged 64 binding.Unbound tt; awaited = All-nil WaitingWasPlugged }
does i effect.AdapterReset z = record { bound = All-replicate BoundWasPlugged 64 binding.Unbound tt; awaited = All-nil WaitingWasPlugged }
does i (effect.Fault code) z = z

down_plugged : (i : Ioc) (x : Down) → Plugs i → Plugs (adapter.takes_down i x).part
down_plugged i (downward.Write r value) z = does (record i { door = (register_written i.door r value).registers }) (register_written i.door r value).effect z
down_plugged i (downward.Read r) z = z
down_plugged i (downward.Post d frame payload) z = alike _ i (same.posted i d frame payload) z
down_plugged i (downward.Return address index) z = alike _ i (same.returned i address) z
down_plugged i downward.Stop z = alike _ i (same.stopped i) z

-- ---- work

to : (o x : Happening Ioc) → o ≡ x → Plugs x.part → Plugs o.part
to o x e z = subst (λ (y : Happening Ioc). Plugs y.part) (sym e) z

works_plugged : (i : Ioc) (p : Post) (o : Happening Ioc) → Works i p o → Plugs i → Plugs o.part
works_plugged i p o (Dropped k e) z = to o _ e z
works_plugged i p o (Refuses k f kind r e) z = to o _ e z
works_plugged i p o (ScsiEnds status k c e) z = to o _ e z
works_plugged i p o (ScsiSends address plug expander phy k c b e) z = to o _ e z
works_plugged i p o (Stops stop k f e) z = to o _ e z
works_plugged i p o (AbortSends k f b e) z = to o _ e z
works_plugged i p o (AbortEnds k f b e) z = to o _ e z
works_plugged i p o (ResetSends address plug expander phy k b e) z = to o _ e z
works_plugged i p o (ResetHolds address k b c e) z = to o _ e z
works_plugged i p o (ResetEnds status k e) z = to o _ e z
works_plugged i p o (TaskFails k e) z = to o _ e z
works_plugged i p o (PageEnds status k e) z = to o _ e z
works_plugged i p o (PageGiven page k w e) z = to o _ e z
works_plugged i p o (Enables k b e) z = to o _ e z
works_plugged i p o (Notifies k e) z = to o _ e z
works_plugged i p o (Acks k b e) z = to o _ e z
works_plugged i p o (EndsPlainly f status k e) z = to o _ e z
works_plugged i p o (RemovalEnds status k e) z = to o _ e z
works_plugged i p o (Removes address k f b c e) z =
    to o (ask.removes i p) e (first (ask.ioc_ends_removal (table.with_binding i (controlled_handle_in p.frame) binding.Unbound) p IOC_STATUS_SUCCESS) i.waiting z.awaited (put i (controlled_handle_in p.frame) binding.Unbound tt z))
works_plugged i p o (Strays k r e) z = to o _ e z

-- ---- news

-- a plug that is taken is numbered from 1 on
pub plugged_since : (w : World) (h : History) → Facts w h → is_live w ≡ true → (address plug expander phy : ℕ) (rest : List Back) → w.back ≡ back.Plugged address plug expander phy ∷ rest → 1 ≤ plug
plugged_since w h f l address plug expander phy rest e = by_disk (standing w address) (subst (λ ns. Leads (known w.ioc address) ns (standing w address)) seen (before w h f l (plugged.on w h f address plug expander phy rest e l) address).leads)
  where
    seen : news w address ≡ back.Plugged address plug expander phy ∷ notices_of address ((rest ++ w.fabric.out) ++ w.fabric.notices)
    seen =
        ap (λ xs. notices_of address ((xs ++ w.fabric.out) ++ w.fabric.notices)) e
        ∙ (notices_of-cons address (back.Plugged address plug expander phy) ((rest ++ w.fabric.out) ++ w.fabric.notices)
        ∙ (let t : (address == address) ≡ true = grind arith in
        ap (λ b. if b then back.Plugged address plug expander phy ∷ notices_of address ((rest ++ w.fabric.out) ++ w.fabric.notices) else notices_of address ((rest ++ w.fabric.out) ++ w.fabric.notices)) t))

    by_disk : (s : Option Standing) → Leads (known w.ioc address) (back.Plugged address plug expander phy ∷ notices_of address ((rest ++ w.fabric.out) ++ w.fabric.notices)) s → 1 ≤ plug
    by_disk None k = let z = k.1 in absurd (cc)
    by_disk (Some d) k = (comes (known w.ioc address) d address plug expander phy (notices_of address ((rest ++ w.fabric.out) ++ w.fabric.notices)) k).0.since

loses : (i : Ioc) (handle : ℕ) (b : Binding) → Plugs i → Plugs (bind.ioc_loses i handle b)
loses i handle binding.Unbound z = z
loses i handle (binding.Present address plug expander phy) z = changes (table.with_binding i handle (binding.Gone address)) handle expander phy false (put i handle (binding.Gone address) tt z)
loses i handle (binding.Gone address) z = z

unplugs : (i : Ioc) (address : ℕ) (o : Option ℕ) → Plugs i → Plugs (bind.ioc_unplugs_from i address o)
unplugs i address None z = record { bound = z.bound; awaited = All-filter (λ disk. not (bind.waits_at address disk)) WaitingWasPlugged i.waiting z.awaited }
unplugs i address (Some handle) z = loses i handle (table.binding_of i handle) z

if_either : (b : Bool) (x y : Happening Ioc) → Plugs x.part → Plugs y.part → Plugs (if b then x else y).part
if_either true x y s t = s
if_either false x y s t = t

module _ (w : World) (h : History) (f : Facts w h) (z : DisksWerePlugged w) where
  back_plugged : (x : Back) (rest : List Back) → w.back ≡ x ∷ rest → Plugs (adapter.takes_back w.ioc x).part
  back_plugged (back.Plugged address plug expander phy) rest e = by_live (is_live w) refl
    where
      disk : Waiting
      disk = record { address = address; plug = plug; expander = expander; phy = phy }

      by_live : (b : Bool) → is_live w ≡ b → Plugs (adapter.takes_back w.ioc (back.Plugged address plug expander phy)).part
      by_live true l =
          if_either (is_live w) (from_back.hears w.ioc (back.Plugged address plug expander phy)) (table.silently w.ioc)
          (if_either (bind.is_known w.ioc address || not (nat_lt expander (length w.ioc.phys))) (table.silently w.ioc) (bind.binds w.ioc disk) z (binds w.ioc disk (table.least_unbound w.ioc) (plugged_since w h f l address plug expander phy rest e) z)) z
      by_live false l = alike _ w.ioc (unheard w.ioc (back.Plugged address plug expander phy) l) z
  back_plugged (back.Unplugged address plug expander phy) rest e =
      if_either (is_live w) (from_back.hears w.ioc (back.Unplugged address plug expander phy)) (table.silently w.ioc) (unplugs w.ioc address (table.handle_of w.ioc address) z) z
  back_plugged (back.Result tag r) rest e = alike _ w.ioc (of_no_disk w.ioc (back.Result tag r) tt).0 z
  back_plugged (back.Gone tag) rest e = alike _ w.ioc (of_no_disk w.ioc (back.Gone tag) tt).0 z
  back_plugged (back.Terminated tag) rest e = alike _ w.ioc (of_no_disk w.ioc (back.Terminated tag) tt).0 z
  back_plugged (back.Aborted smid seen) rest e = alike _ w.ioc (of_no_disk w.ioc (back.Aborted smid seen) tt).0 z
  back_plugged (back.Cleared smid count) rest e = alike _ w.ioc (of_no_disk w.ioc (back.Cleared smid count) tt).0 z
  back_plugged back.Discovered rest e = alike _ w.ioc (of_no_disk w.ioc back.Discovered tt).0 z
  back_plugged (back.Linked generation) rest e = alike _ w.ioc (of_no_disk w.ioc (back.Linked generation) tt).0 z
  back_plugged back.Calm rest e = alike _ w.ioc (of_no_disk w.ioc back.Calm tt).0 z

  -- ---- every case

  abbrev Were : World → Type 0
  Were v = WerePlugged v.ioc.bindings v.ioc.waiting

  owed : Owes Were w
  owed =
      record {
        host_puts = λ x rest e. z;
        host_takes = λ queue x rest e s. z;
        host_told = λ i k. z;
        host_looks = λ e. z;
        host_stops = λ e. z;
        ioc_takes = λ x rest e. down_plugged w.ioc x z;
        ioc_high = λ q rest e. works_plugged (record w.ioc { high = rest }) q (works_on (record w.ioc { high = rest }) q) (works_leaf (record w.ioc { high = rest }) q) z;
        ioc_normal = λ q rest e. works_plugged (record w.ioc { normal = rest }) q (works_on (record w.ioc { normal = rest }) q) (works_leaf (record w.ioc { normal = rest }) q) z;
        ioc_puts_out = λ x rest e. z;
        ioc_takes_back = λ x rest e. back_plugged x rest e;
        ioc_puts = λ queue y rest x e g. z;
        fabric_takes = λ x rest e. z;
        fabric_says = λ x rest e. z;
        fabric_puts = λ x rest e. z;
        fabric_runs = λ tag address e. z;
        plugs = λ address expander phy. z;
        unplugs = λ address. z;
        calms = z;
      }

  pub were_kept : NothingIsStrange w → (c : Case) → DisksWerePlugged (happens w c)
  were_kept plain c = kept Were w plain owed z c

pub were_at_first : (s : Setting) → DisksWerePlugged (first_world s)
were_at_first s = record { bound = All-replicate BoundWasPlugged 64 binding.Unbound tt; awaited = All-nil WaitingWasPlugged }
