-- The entries of a case bind only what is due, to the least unbound handle, and at once.
use Rattle.std.proofs.Common.{◌≡◌, ℕ, zero, suc, ◌+◌, ◌-◌, ◌<◌, ◌≤◌, nat_lt, ◌||◌, not, Bool, true, false, if◌then◌else◌, List, [], ◌∷◌, length, get_or, set, Option, Some, None, is_none, refl, ap, sym, ◌∙◌, subst, arith}
use Rattle.std.specs.List.{position}
use Rattle.std.specs.Option.{option_map}
use Rattle.std.proofs.lemmas.List.Quantifiers.{position-Some}
use Rattle.removal.specs.Handles.{IsHandle}
use Rattle.mpi_doorbell.specs.DoorRegisters.{register_written}
use Rattle.mpi_doorbell.specs.declared.effect.Effect.{Effect}
use Rattle.mpi_doorbell.specs.declared.effect.Effect.TheVariants as effect
use Rattle.mpt_wire.specs.Handles.Bindings.{Plug, least_unbound_from, least_unbound_in}
use Rattle.mpt_wire.specs.Handles.Plugs.{BindsNothing, DueAsks, ServedAsks, Serving, first_of, plug_served, plug_taken, served_next}
use Rattle.mpt_wire.specs.Machine.State.{put_at}
use Rattle.mpt_wire.specs.Messages.Fields.{controlled_handle_in}
use Rattle.mpt_wire.specs.Walks.Passes.{EachEntry, Passes}
use Rattle.mpt_trace.specs.declared.entry.Entry.{Entry}
use Rattle.mpt_trace.specs.declared.entry.Entry.TheVariants as entry
use Rattle.mpt_trace.specs.declared.item.Back.{Back}
use Rattle.mpt_trace.specs.declared.item.Back.TheVariants as back
use Rattle.mpt_trace.specs.declared.item.Down.{Down}
use Rattle.mpt_trace.specs.declared.item.Down.TheVariants as downward
use Rattle.mpt_trace.specs.declared.item.Item.TheVariants as item
use Rattle.mpt_trace.specs.declared.item.Up.{Up}
use Rattle.mpt_trace.specs.declared.lane.LaneName.{LaneName}
use Rattle.mpt_trace.specs.declared.lane.LaneName.TheVariants as lane
use Rattle.mpt_rules.specs.declared.binding.Binding.{Binding}
use Rattle.mpt_rules.specs.declared.binding.Binding.TheVariants as binding
use Rattle.mpt_rules.specs.declared.binding.Waiting.{Waiting}
use Rattle.mpt_rules.specs.declared.post.Post.{Post}
use Rattle.mpt_rules.specs.declared.status.TheConstants.{IOC_STATUS_SUCCESS}
use Rattle.mpt_rules.specs.Host.Takes.{hears_up}
use Rattle.mpt_rules.specs.Ioc.Back as news
use Rattle.mpt_rules.specs.Ioc.Bindings as bind
use Rattle.mpt_rules.specs.Ioc.Parts.{Ioc}
use Rattle.mpt_rules.specs.Ioc.Registers as registers
use Rattle.mpt_rules.specs.Ioc.Requests as ask
use Rattle.mpt_rules.specs.Ioc.Steps.{works_on}
use Rattle.mpt_rules.specs.Ioc.Tables as table
use Rattle.mpt_rules.specs.Ioc.Tables.{first_handle, is_unbound}
use Rattle.mpt_rules.specs.Ioc.Takes as adapter
use Rattle.mpt_rules.specs.Law.{NothingIsStrange}
use Rattle.mpt_rules.specs.Outcome.{Happening}
use Rattle.mpt_rules.specs.World.Cases.{Case, entries}
use Rattle.mpt_rules.specs.World.Inputs.{host_told}
use Rattle.mpt_rules.specs.World.State.{World, up_lane}
use Rattle.law_facts.specs.Clock.{is_live}
use Rattle.law_facts.specs.Facts.{Facts}
use Rattle.law_facts.specs.Handles.{BindingIs, plug_of}
use Rattle.law_facts.specs.History.{History}
use Rattle.law_flights.proofs.WorkLeaves.{AbortEnds, AbortSends, Acks, Dropped, Enables, EndsPlainly, Notifies, PageEnds, PageGiven, Refuses, RemovalEnds, Removes, ResetEnds, ResetHolds, ResetSends, ScsiEnds, ScsiSends, Stops, Strays, TaskFails, Works, works_leaf}
use Rattle.law_handles.proofs.HostSays.{told_input}
use Rattle.law_handles.proofs.HostSilent.{quiet, quiet_taken}
use Rattle.law_handles.proofs.Silent.{IsQuiet}
use Rattle.law_handles.proofs.Tables as change
use Rattle.law_handles.proofs.Tables.{Tables, at, binding_is, stands, unbound_in_both}
use Rattle.law_handles.proofs.TablesSame.{IsOfNoDisk, of_no_disk}
use Rattle.law_moves.proofs.CasesTold.{IsPlugWord, OwesTold, kept_told}
use Rattle.law_notices.proofs.Calls.{not_in_reset}

-- ---- the least unbound handle is the controller's

least_first : (h n i : ℕ) (bound : ℕ → Option Plug) → i < n → is_none (bound (h + i)) ≡ true → ((k : ℕ) → k < i → is_none (bound (h + k)) ≡ false) → least_unbound_from h n bound ≡ Some (h + i)
unfolding least_unbound_from
least_first h zero i bound l t f = absurd (omega (arith, l))
least_first h (suc n) zero bound l t f = let e : h + 0 ≡ h = omega arith in let s : is_none (bound h) ≡ true = subst (λ j. is_none (bound j) ≡ true) e t in rw s (ap Some (sym e))
least_first h (suc n) (suc i) bound l t f =
    let e : h + 0 ≡ h = omega arith in
    let s : is_none (bound h) ≡ false = subst (λ j. is_none (bound j) ≡ false) e (f 0 (omega arith)) in
    let g : h + 1 + i ≡ h + suc i = omega arith in
    rw s (least_first (h + 1) n i bound (omega (arith, l)) (subst (λ j. is_none (bound j) ≡ true) (sym g) t) (λ k m. let q : h + 1 + k ≡ h + suc k = omega arith in subst (λ j. is_none (bound j) ≡ false) (sym q) (f (suc k) (omega (arith, m)))) ∙ ap Some g)

least_same : (bindings : List Binding) (bound : ℕ → Option Plug) (h1 : ℕ) → Tables bindings bound → option_map table.handle_at (position is_unbound bindings) ≡ Some h1 → least_unbound_in bound ≡ Some h1
least_same bindings bound h1 t e = by_place (position is_unbound bindings) refl e
  where
    both : (k : ℕ) → k < 64 → is_none (bound (0x0009 + k)) ≡ is_unbound (get_or bindings k binding.Unbound)
    both k l =
        let i : IsHandle (0x0009 + k) = (omega arith, omega (arith, l)) in
        let s : 0x0009 + k - first_handle ≡ k = omega arith in
        unbound_in_both (at bindings (0x0009 + k)) (bound (0x0009 + k)) (t.served (0x0009 + k) i) ∙ ap (λ j. is_unbound (get_or bindings j binding.Unbound)) s

    by_place : (o : Option ℕ) → position is_unbound bindings ≡ o → option_map table.handle_at o ≡ Some h1 → least_unbound_in bound ≡ Some h1
    by_place None p m = absurd (cc)
    by_place (Some i) p m =
        let q = position-Some is_unbound bindings i binding.Unbound p in
        let l = q.0 in let n = t.table in
        let low : i < 64 = omega (arith, l, n) in
        let here : Some (0x0009 + i) ≡ Some h1 = m in
        least_first 0x0009 64 i bound low (both i low ∙ q.1) (λ k j. both k (omega (arith, low, j)) ∙ q.2 k j) ∙ here

-- ---- entries while nothing is due

nothing_asked : (g : Serving) (e : Entry) → g.due ≡ None → BindsNothing e → ServedAsks g e
nothing_asked g e d b = subst (λ o. DueAsks g.bound o e) (sym d) b

quiet_one : (g : Serving) (e : Entry) (t : List Entry) → g.due ≡ None → IsQuiet e → Passes served_next ServedAsks g t → Passes served_next ServedAsks g (e ∷ t)
quiet_one g (entry.Given i) t d q p = (nothing_asked g (entry.Given i) d tt, p)
quiet_one g (entry.Idle x) t d q p = (nothing_asked g (entry.Idle x) d tt, p)
quiet_one g (entry.Put l x) t d q p = absurd q
quiet_one g (entry.Take l x) t d q p = absurd q
quiet_one g (entry.Bind handle address plug) t d q p = absurd q
quiet_one g (entry.Unbind handle) t d q p = absurd q
quiet_one g entry.UnbindAll t d q p = absurd q
quiet_one g (entry.Run address tag) t d q p = (nothing_asked g (entry.Run address tag) d tt, p)
quiet_one g entry.HostUp t d q p = (nothing_asked g entry.HostUp d tt, p)
quiet_one g (entry.Ready address handle) t d q p = (nothing_asked g (entry.Ready address handle) d tt, p)
quiet_one g (entry.Lost address handle) t d q p = (nothing_asked g (entry.Lost address handle) d tt, p)
quiet_one g (entry.Accept n address smid) t d q p = (nothing_asked g (entry.Accept n address smid) d tt, p)
quiet_one g (entry.RefuseSubmit n cause) t d q p = (nothing_asked g (entry.RefuseSubmit n cause) d tt, p)
quiet_one g (entry.Refuse call cause) t d q p = (nothing_asked g (entry.Refuse call cause) d tt, p)
quiet_one g (entry.Answer n outcome) t d q p = (nothing_asked g (entry.Answer n outcome) d tt, p)
quiet_one g (entry.AbortEnd n outcome) t d q p = (nothing_asked g (entry.AbortEnd n outcome) d tt, p)
quiet_one g (entry.TargetEnd address outcome) t d q p = (nothing_asked g (entry.TargetEnd address outcome) d tt, p)
quiet_one g entry.ResetDone t d q p = (nothing_asked g entry.ResetDone d tt, p)

quiet_passes : (g : Serving) (t : List Entry) → g.due ≡ None → EachEntry IsQuiet t → Passes served_next ServedAsks g t
quiet_passes g [] d q = tt
quiet_passes g (e ∷ t) d q = quiet_one g e t d q.0 (quiet_passes g t d q.1)

word_quiet : (e : Entry) → IsPlugWord e → IsQuiet e
word_quiet (entry.Given i) q = tt
word_quiet (entry.Refuse call cause) q = tt
word_quiet (entry.Idle x) q = absurd q
word_quiet (entry.Put l x) q = absurd q
word_quiet (entry.Take l x) q = absurd q
word_quiet (entry.Bind k a n) q = absurd q
word_quiet (entry.Unbind k) q = absurd q
word_quiet entry.UnbindAll q = absurd q
word_quiet (entry.Run a tag) q = absurd q
word_quiet entry.HostUp q = absurd q
word_quiet (entry.Ready a k) q = absurd q
word_quiet (entry.Lost a k) q = absurd q
word_quiet (entry.Accept n a s) q = absurd q
word_quiet (entry.RefuseSubmit n cause) q = absurd q
word_quiet (entry.Answer n how) q = absurd q
word_quiet (entry.AbortEnd n how) q = absurd q
word_quiet (entry.TargetEnd a how) q = absurd q
word_quiet entry.ResetDone q = absurd q

words_quiet : (t : List Entry) → EachEntry IsPlugWord t → EachEntry IsQuiet t
words_quiet [] q = tt
words_quiet (e ∷ t) q = (word_quiet e q.0, words_quiet t q.1)

take_up : (g : Serving) (l : LaneName) (y : Up) → served_next g (entry.Take l (item.Up y)) ≡ g
take_up g lane.Down y = refl
take_up g lane.Up y = refl
take_up g (lane.UpOn i) y = refl
take_up g (lane.Ask i) y = refl
take_up g (lane.Tell i) y = refl
take_up g lane.Out y = refl
take_up g lane.Back y = refl

-- ---- a bind of what is due

-- with the handle that is the rule's least, and this plug due
bind_passes : (bound : ℕ → Option Plug) (waiting : List Plug) (d : Bool) (disk : Waiting) (i : Ioc) (o : Option ℕ) → table.least_unbound i ≡ o → Tables i.bindings bound
    → Passes served_next ServedAsks (record { bound = bound; waiting = waiting; due = Some (plug_of disk); dropping = d }) (bind.binds_to i disk o).entries
bind_passes bound waiting d disk i None e t = tt
bind_passes bound waiting d disk i (Some h1) e t = ((least_same i.bindings bound h1 t e, refl), tt)

module _ (w : World) (h : History) (f : Facts w h) where
  due : h.serving.due ≡ None
  due = f.handles.served.due

  tables : Tables w.ioc.bindings h.serving.bound
  tables =
      record {
        table = f.flights.sizes.bindings;
        served = λ g i. subst (λ x. BindingIs x (h.serving.bound g)) (binding_is w.ioc g i) ((f.handles.each g i).binds.served);
        outside = f.handles.outside;
        differ = λ j k p d a e. f.handles.differ j k p d a e;
      }

  abbrev Pass : List Entry → Type 0
  Pass t = Passes served_next ServedAsks h.serving t

  abbrev Passed : World → List Entry → Type 0
  Passed v t = Passes served_next ServedAsks h.serving t

  -- ---- what the host sends

  effects : (i : Ioc) (e : Effect) → Passes served_next ServedAsks h.serving (registers.after_effect i e).entries
  effects i effect.None = tt
  effects i (effect.Asked count bytes) = tt
  effects i effect.UnitReset = (nothing_asked h.serving entry.UnbindAll due tt, tt)
  effects i effect.AdapterReset = (nothing_asked h.serving entry.UnbindAll due tt, tt)
  effects i (effect.Fault code) = tt

  downs : (x : Down) → Passes served_next ServedAsks h.serving (adapter.takes_down w.ioc x).entries
  downs (downward.Write reg value) = effects (record w.ioc { door = (register_written w.ioc.door reg value).registers }) (register_written w.ioc.door reg value).effect
  downs (downward.Read reg) = tt
  downs (downward.Post d frame payload) = tt
  downs (downward.Return address index) = tt
  downs downward.Stop = tt

  taken : (x : Down) → Passes served_next ServedAsks h.serving (entry.Take lane.Down (item.Down x) ∷ (adapter.takes_down w.ioc x).entries)
  taken x = (nothing_asked h.serving (entry.Take lane.Down (item.Down x)) due tt, downs x)

  -- ---- work

  freed : (ioc : Ioc) (p : Post) (address : ℕ) → ioc.bindings ≡ w.ioc.bindings → ioc.waiting ≡ w.ioc.waiting → table.binding_of ioc (controlled_handle_in p.frame) ≡ binding.Gone address → Passes served_next ServedAsks h.serving (ask.removes ioc p).entries
  freed ioc p address sb sw b = (nothing_asked h.serving (entry.Unbind h0) due tt, by_list ioc.waiting (sym (f.handles.served.waiting) ∙ ap (Rattle.std.proofs.Common.map plug_of) (sym sw)))
    where
      h0 : ℕ
      h0 = controlled_handle_in p.frame

      left : Ioc
      left = ask.ioc_ends_removal (table.with_binding ioc h0 binding.Unbound) p IOC_STATUS_SUCCESS

      here : Tables ioc.bindings h.serving.bound
      here = subst (λ bs. Tables bs h.serving.bound) (sym sb) tables

      unbound : Tables (set ioc.bindings (h0 - first_handle) binding.Unbound) (put_at h0 None h.serving.bound)
      unbound = change.unbind ioc.bindings h.serving.bound h0 (stands ioc h0 (binding.Gone address) here.table b refl).0 here

      by_list : (xs : List Waiting) → h.serving.waiting ≡ Rattle.std.proofs.Common.map plug_of xs → Passes served_next ServedAsks (record h.serving { bound = put_at h0 None h.serving.bound; due = first_of h.serving.waiting }) (bind.binds_first left xs).entries
      by_list [] e = tt
      by_list (disk ∷ rest) e =
          subst (λ ps. Passes served_next ServedAsks (record h.serving { bound = put_at h0 None h.serving.bound; due = first_of ps }) (bind.binds_to (record left { waiting = rest }) disk (table.least_unbound (record left { waiting = rest }))).entries) (sym e)
          (bind_passes (put_at h0 None h.serving.bound) h.serving.waiting h.serving.dropping disk (record left { waiting = rest }) (table.least_unbound (record left { waiting = rest })) refl unbound)

  to : (o x : Happening Ioc) → o ≡ x → Passes served_next ServedAsks h.serving x.entries → Passes served_next ServedAsks h.serving o.entries
  to o x e p = subst (λ (y : Happening Ioc). Passes served_next ServedAsks h.serving y.entries) (sym e) p

  worked : (ioc : Ioc) (p : Post) → ioc.bindings ≡ w.ioc.bindings → ioc.waiting ≡ w.ioc.waiting → (o : Happening Ioc) → Works ioc p o → Passes served_next ServedAsks h.serving o.entries
  worked ioc p sb sw o (Dropped k e) = to o _ e tt
  worked ioc p sb sw o (Refuses k n kind r e) = to o _ e tt
  worked ioc p sb sw o (ScsiEnds status k c e) = to o _ e tt
  worked ioc p sb sw o (ScsiSends address plug expander phy k c b e) = to o _ e tt
  worked ioc p sb sw o (Stops stop k n e) = to o _ e tt
  worked ioc p sb sw o (AbortSends k n b e) = to o _ e tt
  worked ioc p sb sw o (AbortEnds k n b e) = to o _ e tt
  worked ioc p sb sw o (ResetSends address plug expander phy k b e) = to o _ e tt
  worked ioc p sb sw o (ResetHolds address k b c e) = to o _ e tt
  worked ioc p sb sw o (ResetEnds status k e) = to o _ e tt
  worked ioc p sb sw o (TaskFails k e) = to o _ e tt
  worked ioc p sb sw o (PageEnds status k e) = to o _ e tt
  worked ioc p sb sw o (PageGiven page k n e) = to o _ e tt
  worked ioc p sb sw o (Enables k b e) = to o _ e tt
  worked ioc p sb sw o (Notifies k e) = to o _ e tt
  worked ioc p sb sw o (Acks k b e) = to o _ e tt
  worked ioc p sb sw o (EndsPlainly n status k e) = to o _ e tt
  worked ioc p sb sw o (RemovalEnds status k e) = to o _ e tt
  worked ioc p sb sw o (Removes address k n b c e) = to o (ask.removes ioc p) e (freed ioc p address sb sw b)
  worked ioc p sb sw o (Strays k r e) = to o _ e tt

  -- ---- news

  plugged : (address plug expander phy : ℕ) → Passes served_next ServedAsks (plug_taken h.serving (record { address = address; number = plug }) h.serving.dropping) (news.takes_back w.ioc (back.Plugged address plug expander phy)).entries
  plugged address plug expander phy = by_heard (is_live w) (bind.is_known w.ioc address || not (nat_lt expander (length w.ioc.phys))) refl
    where
      disk : Waiting
      disk = record { address = address; plug = plug; expander = expander; phy = phy }

      by_free : (o : Option ℕ) → table.least_unbound w.ioc ≡ o → Passes served_next ServedAsks (plug_served h.serving (record { address = address; number = plug }) (least_unbound_in h.serving.bound)) (bind.binds_to w.ioc disk o).entries
      by_free None e = tt
      by_free (Some h1) e =
          subst (λ m. Passes served_next ServedAsks (plug_served h.serving (record { address = address; number = plug }) m) (bind.binds_to w.ioc disk (Some h1)).entries) (sym (least_same w.ioc.bindings h.serving.bound h1 tables e))
          (bind_passes h.serving.bound h.serving.waiting h.serving.dropping disk w.ioc (Some h1) e tables)

      by_heard : (x y : Bool) → is_live w ≡ x → Passes served_next ServedAsks (plug_taken h.serving (record { address = address; number = plug }) h.serving.dropping) (if x then (if y then table.silently w.ioc else bind.binds w.ioc disk) else table.silently w.ioc).entries
      by_heard true true l = tt
      by_heard true false l =
          let d : h.serving.dropping ≡ false = f.clock.resets_seen.dropping ∙ not_in_reset w l in
          subst (λ b. Passes served_next ServedAsks (plug_taken h.serving (record { address = address; number = plug }) b) (bind.binds w.ioc disk).entries) (sym d) (by_free (table.least_unbound w.ioc) refl)
      by_heard false y l = tt

  other : (x : Back) → IsOfNoDisk x → Passes served_next ServedAsks (served_next h.serving (entry.Take lane.Back (item.Back x))) (news.takes_back w.ioc x).entries
  other x n = subst (λ es. Passes served_next ServedAsks (served_next h.serving (entry.Take lane.Back (item.Back x))) es) (sym (of_no_disk w.ioc x n).1) tt

  unplugged : (address plug expander phy : ℕ) → Passes served_next ServedAsks (served_next h.serving (entry.Take lane.Back (item.Back (back.Unplugged address plug expander phy)))) (news.takes_back w.ioc (back.Unplugged address plug expander phy)).entries
  unplugged address plug expander phy = by_heard (is_live w)
    where
      by_heard : (x : Bool) → Passes served_next ServedAsks (served_next h.serving (entry.Take lane.Back (item.Back (back.Unplugged address plug expander phy)))) (if x then table.silently (bind.ioc_unplugs w.ioc address) else table.silently w.ioc).entries
      by_heard true = tt
      by_heard false = tt

  told : (x : Back) → Passes served_next ServedAsks (served_next h.serving (entry.Take lane.Back (item.Back x))) (news.takes_back w.ioc x).entries
  told (back.Plugged address plug expander phy) = plugged address plug expander phy
  told (back.Unplugged address plug expander phy) = unplugged address plug expander phy
  told (back.Linked generation) = other (back.Linked generation) tt
  told (back.Result tag r) = other (back.Result tag r) tt
  told (back.Gone tag) = other (back.Gone tag) tt
  told (back.Terminated tag) = other (back.Terminated tag) tt
  told (back.Aborted smid seen) = other (back.Aborted smid seen) tt
  told (back.Cleared smid count) = other (back.Cleared smid count) tt
  told back.Discovered = other back.Discovered tt
  told back.Calm = other back.Calm tt

  -- ---- every case

  one : (e : Entry) → BindsNothing e → Passes served_next ServedAsks h.serving (e ∷ [])
  one e b = (nothing_asked h.serving e due b, tt)

  owed : OwesTold Passed w
  owed =
      record {
        idles = λ c. one (entry.Idle c) tt;
        host_puts = λ x rest e. one _ tt;
        host_takes = λ queue x rest e y.
            (nothing_asked h.serving (entry.Take (up_lane queue) (item.Up x)) due tt, subst (λ g. Passes served_next ServedAsks g (hears_up w.host queue x).entries) (sym (take_up h.serving (up_lane queue) x)) (quiet_passes h.serving (hears_up w.host queue x).entries due (quiet_taken w.host queue x None)));
        host_told = λ i c. quiet_passes h.serving (host_told w.host i).entries due (quiet (host_told w.host i).entries (told_input w.host i));
        host_looks = λ e. tt;
        host_stops = λ e. tt;
        no_session = tt;
        ioc_takes = λ x rest e. taken x;
        ioc_high = λ p rest e. worked (record w.ioc { high = rest }) p refl refl (works_on (record w.ioc { high = rest }) p) (works_leaf (record w.ioc { high = rest }) p);
        ioc_normal = λ p rest e. worked (record w.ioc { normal = rest }) p refl refl (works_on (record w.ioc { normal = rest }) p) (works_leaf (record w.ioc { normal = rest }) p);
        ioc_puts_out = λ x rest e. one _ tt;
        ioc_takes_back = λ x rest e. (nothing_asked h.serving (entry.Take lane.Back (item.Back x)) due tt, told x);
        ioc_puts = λ queue y rest z e u. one _ tt;
        fabric_takes = λ x rest e. one _ tt;
        fabric_says = λ x rest e. tt;
        fabric_puts = λ x rest e. one _ tt;
        fabric_runs = λ tag address e. one _ tt;
        plugs = λ address expander phy t p. quiet_passes h.serving t due (words_quiet t p);
        unplugs = λ address t p. quiet_passes h.serving t due (words_quiet t p);
        calms = tt;
      }

  pub served : NothingIsStrange w → (c : Case) → Passes served_next ServedAsks h.serving (entries w c)
  served plain c = kept_told Passed w plain owed c
