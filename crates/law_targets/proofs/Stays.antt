-- What a handle is bound to stays, but where an unbind of it is told, or of all.
use Rattle.std.proofs.Common.{◌≡◌, ℕ, ◌-◌, ◌==◌, Bool, true, false, cond, if◌then◌else◌, List, [], ◌∷◌, length, set, Option, Some, None, refl, ap, sym, ◌∙◌, subst, length-set}
use Rattle.std.proofs.lemmas.Bool.{eqb-true}
use Rattle.mpi_doorbell.specs.DoorRegisters.{register_written}
use Rattle.mpi_doorbell.specs.declared.effect.Effect.{Effect}
use Rattle.mpi_doorbell.specs.declared.effect.Effect.TheVariants as effect
use Rattle.mpi_rings.specs.declared.request_descriptor.PostKind.TheVariants as post
use Rattle.removal.specs.Handles.{IsHandle}
use Rattle.mpt_messages.specs.Function.{function_of}
use Rattle.mpt_messages.specs.declared.function.Function.TheVariants as function
use Rattle.mpt_wire.specs.Handles.Bindings.{Plug, bound_next}
use Rattle.mpt_wire.specs.Handles.Plugs.{Serving, served_next}
use Rattle.mpt_wire.specs.Machine.State.{put_at}
use Rattle.mpt_wire.specs.Messages.Fields.{controlled_handle_in, function_in, kind_in}
use Rattle.mpt_wire.specs.Walks.Passes.{EachEntry, state_after}
use Rattle.mpt_trace.specs.declared.entry.Entry.{Entry}
use Rattle.mpt_trace.specs.declared.entry.Entry.TheVariants as entry
use Rattle.mpt_trace.specs.declared.item.Back.{Back}
use Rattle.mpt_trace.specs.declared.item.Down.{Down}
use Rattle.mpt_trace.specs.declared.item.Down.TheVariants as down
use Rattle.mpt_rules.specs.declared.binding.Binding.{Binding}
use Rattle.mpt_rules.specs.declared.binding.Binding.TheVariants as binding
use Rattle.mpt_rules.specs.declared.binding.Waiting.{Waiting}
use Rattle.mpt_rules.specs.declared.post.Post.{Post}
use Rattle.mpt_rules.specs.declared.status.TheConstants.{IOC_STATUS_SUCCESS}
use Rattle.mpt_rules.specs.Ioc.Bindings as bind
use Rattle.mpt_rules.specs.Ioc.Parts.{Ioc, state_of}
use Rattle.mpt_rules.specs.Ioc.Registers as registers
use Rattle.mpt_rules.specs.Ioc.Requests as ask
use Rattle.mpt_rules.specs.Ioc.Tables as table
use Rattle.mpt_rules.specs.Ioc.Tables.{binding_of, first_handle, is_operational, is_unbound}
use Rattle.mpt_rules.specs.Ioc.Takes as adapter
use Rattle.mpt_rules.specs.Outcome.{Happening}
use Rattle.law_flights.proofs.Leaves.{Bound, Calmed, Done, Ended, Hears, Linked, Lost, Passed, Unawaited, Waits, back_leaf}
use Rattle.law_flights.proofs.WorkLeaves.{AbortEnds, AbortSends, Acks, Dropped, Enables, EndsPlainly, Notifies, PageEnds, PageGiven, Refuses, RemovalEnds, Removes, ResetEnds, ResetHolds, ResetSends, ScsiEnds, ScsiSends, Stops, Strays, TaskFails, Works, works_leaf}
use Rattle.law_handles.proofs.Aimed.{served_bound}
use Rattle.law_handles.proofs.Serving.{least_is}
use Rattle.law_handles.proofs.Silent.{IsQuiet}
use Rattle.law_handles.proofs.Tables.{at, at-set, stands}

-- an entry that leaves what the handle is bound to
abbrev pub KeepsBound : ℕ → Entry → Type 0
KeepsBound g (entry.Bind k a n) = (g == k) ≡ false
KeepsBound g (entry.Unbind k) = (g == k) ≡ false
KeepsBound g entry.UnbindAll = ⊥
KeepsBound g _ = Unit {0}

put_other : (k g : ℕ) (x : Option Plug) (b : ℕ → Option Plug) → (g == k) ≡ false → put_at k x b g ≡ b g
put_other k g x b e = ap (λ c. if c then x else b g) e

stays_next : (g : ℕ) (b : ℕ → Option Plug) (e : Entry) → KeepsBound g e → bound_next b e g ≡ b g
stays_next g b (entry.Bind k a n) t = put_other k g (Some (record { address = a; number = n })) b t
stays_next g b (entry.Unbind k) t = put_other k g None b t
stays_next g b entry.UnbindAll t = absurd t
stays_next g b (entry.Put l x) t = refl
stays_next g b (entry.Take l x) t = refl
stays_next g b (entry.Given i) t = refl
stays_next g b (entry.Idle x) t = refl
stays_next g b (entry.Run a tag) t = refl
stays_next g b entry.HostUp t = refl
stays_next g b (entry.Ready a k) t = refl
stays_next g b (entry.Lost a k) t = refl
stays_next g b (entry.Accept n a s) t = refl
stays_next g b (entry.RefuseSubmit n cause) t = refl
stays_next g b (entry.Refuse call cause) t = refl
stays_next g b (entry.Answer n how) t = refl
stays_next g b (entry.AbortEnd n how) t = refl
stays_next g b (entry.TargetEnd a how) t = refl
stays_next g b entry.ResetDone t = refl

pub bound_stays : (g : ℕ) (t : List Entry) (s : Serving) → EachEntry (KeepsBound g) t → (state_after served_next s t).bound g ≡ s.bound g
bound_stays g [] s k = refl
bound_stays g (e ∷ t) s k = bound_stays g t (served_next s e) k.1 ∙ (ap (λ f. f g) (served_bound s e) ∙ stays_next g s.bound e k.0)

-- entries that bind nothing and unbind nothing
quiet_one : (g : ℕ) (e : Entry) → IsQuiet e → KeepsBound g e
quiet_one g (entry.Bind k a n) t = absurd t
quiet_one g (entry.Unbind k) t = absurd t
quiet_one g entry.UnbindAll t = absurd t
quiet_one g (entry.Put l x) t = absurd t
quiet_one g (entry.Take l x) t = absurd t
quiet_one g (entry.Given i) t = tt
quiet_one g (entry.Idle x) t = tt
quiet_one g (entry.Run a tag) t = tt
quiet_one g entry.HostUp t = tt
quiet_one g (entry.Ready a k) t = tt
quiet_one g (entry.Lost a k) t = tt
quiet_one g (entry.Accept n a s) t = tt
quiet_one g (entry.RefuseSubmit n cause) t = tt
quiet_one g (entry.Refuse call cause) t = tt
quiet_one g (entry.Answer n how) t = tt
quiet_one g (entry.AbortEnd n how) t = tt
quiet_one g (entry.TargetEnd a how) t = tt
quiet_one g entry.ResetDone t = tt

pub quiet_keeps : (g : ℕ) (t : List Entry) → EachEntry IsQuiet t → EachEntry (KeepsBound g) t
quiet_keeps g [] q = tt
quiet_keeps g (e ∷ t) q = (quiet_one g e q.0, quiet_keeps g t q.1)

-- ---- an item of the host that leaves the controller OPERATIONAL

effect_keeps : (g : ℕ) (i : Ioc) (e : Effect) → is_operational (state_of (registers.after_effect i e).part) ≡ true → EachEntry (KeepsBound g) (registers.after_effect i e).entries
effect_keeps g i effect.None l = tt
effect_keeps g i (effect.Asked count bytes) l = tt
effect_keeps g i effect.UnitReset l = absurd (cc)
effect_keeps g i effect.AdapterReset l = absurd (cc)
effect_keeps g i (effect.Fault code) l = tt

pub taken_keeps : (g : ℕ) (i : Ioc) (x : Down) → is_operational (state_of (adapter.takes_down i x).part) ≡ true → EachEntry (KeepsBound g) (adapter.takes_down i x).entries
taken_keeps g i (down.Write reg value) l = effect_keeps g (record i { door = (register_written i.door reg value).registers }) (register_written i.door reg value).effect l
taken_keeps g i (down.Read reg) l = tt
taken_keeps g i (down.Post d f p) l = tt
taken_keeps g i (down.Return address index) l = tt
taken_keeps g i down.Stop l = tt

-- ---- what the controller binds is unbound before

differ_by : (g k : ℕ) (bs : List Binding) → is_unbound (at bs g) ≡ false → at bs k ≡ binding.Unbound → (g == k) ≡ false
differ_by g k bs u e = by_key (g == k) refl
  where
    by_key : (b : Bool) → (g == k) ≡ b → b ≡ false
    by_key false t = refl
    by_key true t = let z : is_unbound (at bs g) ≡ true = ap (λ j. is_unbound (at bs j)) (eqb-true g k t) ∙ ap is_unbound e in absurd (cc)

module _ (g : ℕ) where
  to : (o x : Happening Ioc) → o ≡ x → EachEntry (KeepsBound g) x.entries → EachEntry (KeepsBound g) o.entries
  to o x e k = subst (λ (y : Happening Ioc). EachEntry (KeepsBound g) y.entries) (sym e) k

  binds_keeps : (i : Ioc) (disk : Waiting) (o : Option ℕ) → length i.bindings ≡ 64 → is_unbound (at i.bindings g) ≡ false → table.least_unbound i ≡ o → EachEntry (KeepsBound g) (bind.binds_to i disk o).entries
  binds_keeps i disk None n u e = tt
  binds_keeps i disk (Some k) n u e = (differ_by g k i.bindings u (least_is i.bindings k n e).1, tt)

  first_keeps : (i : Ioc) (ds : List Waiting) → length i.bindings ≡ 64 → is_unbound (at i.bindings g) ≡ false → EachEntry (KeepsBound g) (bind.binds_first i ds).entries
  first_keeps i [] n u = tt
  first_keeps i (d ∷ ds) n u = binds_keeps (record i { waiting = ds }) d (table.least_unbound (record i { waiting = ds })) n u refl

  module _ (i : Ioc) (sized : length i.bindings ≡ 64) (handle : IsHandle g) (there : is_unbound (at i.bindings g) ≡ false) where
    back_by : (x : Back) (o : Happening Ioc) → Hears i x o → EachEntry (KeepsBound g) o.entries
    back_by x o (Passed e) = to o _ e tt
    back_by x o (Ended tag k queue len written r e) = to o _ e tt
    back_by x o (Done smid r answer q e) = to o _ e tt
    back_by x o (Bound disk k l n e) = to o _ e (binds_keeps i disk (Some k) sized there l)
    back_by x o (Waits disk l n e) = to o _ e tt
    back_by x o (Lost k address plug expander phy b e) = to o _ e tt
    back_by x o (Unawaited address n e) = to o _ e tt
    back_by x o (Linked generation r e) = to o _ e tt
    back_by x o (Calmed e) = to o _ e tt

    pub back_keeps : (x : Back) → EachEntry (KeepsBound g) (adapter.takes_back i x).entries
    back_keeps x = back_by x (adapter.takes_back i x) (back_leaf i x)

    module _ (p : Post) (other : kind_in p.descriptor ≡ Some post.Default → function_of (function_in p.frame) ≡ Some function.UnitControl → (g == controlled_handle_in p.frame) ≡ false) where
      removes : (address : ℕ) → kind_in p.descriptor ≡ Some post.Default → function_of (function_in p.frame) ≡ Some function.UnitControl → binding_of i (controlled_handle_in p.frame) ≡ binding.Gone address → EachEntry (KeepsBound g) (ask.removes i p).entries
      removes address k f b =
          let h0 : ℕ = controlled_handle_in p.frame in
          let j : Ioc = ask.ioc_ends_removal (table.with_binding i (controlled_handle_in p.frame) binding.Unbound) p IOC_STATUS_SUCCESS in
          let d = other k f in
          let s = stands i (controlled_handle_in p.frame) (binding.Gone address) sized b refl in
          let q : at (set i.bindings (controlled_handle_in p.frame - first_handle) binding.Unbound) g ≡ at i.bindings g = at-set i.bindings (controlled_handle_in p.frame) g binding.Unbound sized s.0 handle ∙ ap (λ c. cond c binding.Unbound (at i.bindings g)) d in
          (d, first_keeps j i.waiting (length-set i.bindings (controlled_handle_in p.frame - first_handle) binding.Unbound ∙ sized) (ap is_unbound q ∙ there))

      by_work : (o : Happening Ioc) → Works i p o → EachEntry (KeepsBound g) o.entries
      by_work o (Dropped k e) = to o _ e tt
      by_work o (Refuses k f kind r e) = to o _ e tt
      by_work o (ScsiEnds status k c e) = to o _ e tt
      by_work o (ScsiSends address plug expander phy k c b e) = to o _ e tt
      by_work o (Stops stop k f e) = to o _ e tt
      by_work o (AbortSends k f b e) = to o _ e tt
      by_work o (AbortEnds k f b e) = to o _ e tt
      by_work o (ResetSends address plug expander phy k b e) = to o _ e tt
      by_work o (ResetHolds address k b c e) = to o _ e tt
      by_work o (ResetEnds status k e) = to o _ e tt
      by_work o (TaskFails k e) = to o _ e tt
      by_work o (PageEnds status k e) = to o _ e tt
      by_work o (PageGiven page k w e) = to o _ e tt
      by_work o (Enables k b e) = to o _ e tt
      by_work o (Notifies k e) = to o _ e tt
      by_work o (Acks k b e) = to o _ e tt
      by_work o (EndsPlainly f status k e) = to o _ e tt
      by_work o (RemovalEnds status k e) = to o _ e tt
      by_work o (Removes address k f b c e) = to o _ e (removes address k f b)
      by_work o (Strays k r e) = to o _ e tt

      pub work_keeps : EachEntry (KeepsBound g) (Rattle.mpt_rules.specs.Ioc.Steps.works_on i p).entries
      work_keeps = by_work (Rattle.mpt_rules.specs.Ioc.Steps.works_on i p) (works_leaf i p)
