-- A command that was posted is aimed at its handle: what the rule of tasks knows of a post is what its record names.
use Rattle.std.proofs.Common.{◌≡◌, ℕ, ◌+◌, ◌^◌, ◌<◌, ◌≤◌, ◌⊎◌, inl, inr, ◌==◌, Bool, true, false, if◌then◌else◌, List, [], ◌∷◌, ◌++◌, Some, None, refl, ap, sym, ◌∙◌, subst, arith}
use Rattle.std.specs.Prelude.{All}
use Rattle.std.proofs.lemmas.Bool.{eqb-true}
use Rattle.std.proofs.lemmas.List.Elements.{All-head}
use Rattle.mpi_layout.specs.Rows.{field}
use Rattle.scsi_disk.specs.declared.command.Command.{Command}
use Rattle.scsi_msgs.specs.ScsiIo.{scsi_io_layout, scsi_io_values}
use Rattle.mpt_wire.specs.Handles.Tasks.{Aiming, aiming_next}
use Rattle.mpt_wire.specs.Messages.Fields.{dev_handle_in, smid_in}
use Rattle.mpt_wire.specs.Walks.Passes.{EachEntry, state_after}
use Rattle.mpt_trace.specs.declared.entry.Entry.{Entry}
use Rattle.mpt_trace.specs.declared.entry.Entry.TheVariants as entry
use Rattle.mpt_trace.specs.declared.item.Down.{Down}
use Rattle.mpt_trace.specs.declared.item.Down.TheVariants as down
use Rattle.mpt_trace.specs.declared.item.Item.TheVariants as item
use Rattle.mpt_trace.specs.declared.lane.LaneName.TheVariants as lane
use Rattle.mpt_rules.specs.declared.post.Post.{Post}
use Rattle.mpt_rules.specs.Fabric.Calls as fab
use Rattle.mpt_rules.specs.Host.Posts.{command_asked, frame_asked}
use Rattle.mpt_rules.specs.Host.Returns.{after_sent}
use Rattle.mpt_rules.specs.Host.Takes.{hears_up, looks, stops}
use Rattle.mpt_rules.specs.Ioc.Steps as step
use Rattle.mpt_rules.specs.Ioc.Takes as adapter
use Rattle.mpt_rules.specs.Law.{NothingIsStrange}
use Rattle.mpt_rules.specs.World.Cases.{Case, entries, happens}
use Rattle.mpt_rules.specs.World.Counts.{one_if, post_count}
use Rattle.mpt_rules.specs.World.Inputs.{host_told}
use Rattle.mpt_rules.specs.World.State.{World, up_lane, up_on, with_up}
use Rattle.mpt_rules.proofs.Counts.{post_count-append, post_count-cons, post_count-nil}
use Rattle.law_facts.specs.Clock.{is_live}
use Rattle.law_facts.specs.Facts.{Facts}
use Rattle.law_facts.specs.History.{History}
use Rattle.law_facts.specs.Messages.{DownIsRecord, PostIsRecord}
use Rattle.law_flights.proofs.HostQuiet as calm
use Rattle.law_flights.proofs.HostTold.{told_input}
use Rattle.law_flights.proofs.IocTold.{told_back, told_down, told_high, told_normal}
use Rattle.law_flights.proofs.Told.{IsTold}
use Rattle.law_messages.proofs.Agreeing.{all_last}
use Rattle.law_moves.proofs.CasesTold.{IsPlugWord, OwesTold, kept_told}
use Rattle.law_targets.proofs.Under.{high_works, normal_works}
use Rattle.law_targets.proofs.Working.{back_working, by_same, taken_working, working}

-- the handle in a command's frame
pub handle_commanded : (s handle : ℕ) (c : Command) → handle < 2 ^ 16 → dev_handle_in (frame_asked (command_asked s handle c)) ≡ handle
unfolding field scsi_io_layout scsi_io_values
handle_commanded s handle c l = omega (arith, l)

-- ---- entries that put nothing for the controller

abbrev pub NoPost : Entry → Type 0
NoPost (entry.Put l (item.Down x)) = ⊥
NoPost _ = Unit {0}

next_same : (g : Aiming) (e : Entry) → NoPost e → (aiming_next g e).handle ≡ g.handle
next_same g (entry.Put l (item.Down x)) t = absurd t
next_same g (entry.Put l (item.Up x)) t = refl
next_same g (entry.Put l (item.Out x)) t = refl
next_same g (entry.Put l (item.Back x)) t = refl
next_same g (entry.Put l (item.Ask x)) t = refl
next_same g (entry.Put l (item.Tell x)) t = refl
next_same g (entry.Take l x) t = refl
next_same g (entry.Bind k a n) t = refl
next_same g (entry.Unbind k) t = refl
next_same g entry.UnbindAll t = refl
next_same g (entry.Given i) t = refl
next_same g (entry.Idle x) t = refl
next_same g (entry.Run a tag) t = refl
next_same g entry.HostUp t = refl
next_same g (entry.Ready a k) t = refl
next_same g (entry.Lost a k) t = refl
next_same g (entry.Accept n a s) t = refl
next_same g (entry.RefuseSubmit n cause) t = refl
next_same g (entry.Refuse call cause) t = refl
next_same g (entry.Answer n how) t = refl
next_same g (entry.AbortEnd n how) t = refl
next_same g (entry.TargetEnd a how) t = refl
next_same g entry.ResetDone t = refl

handle_same : (t : List Entry) (g : Aiming) → EachEntry NoPost t → (state_after aiming_next g t).handle ≡ g.handle
handle_same [] g a = refl
handle_same (e ∷ t) g a = handle_same t (aiming_next g e) a.1 ∙ next_same g e a.0

told_one : (e : Entry) → IsTold e → NoPost e
told_one (entry.Put l x) t = absurd t
told_one (entry.Take l x) t = tt
told_one (entry.Bind k a n) t = tt
told_one (entry.Unbind k) t = tt
told_one entry.UnbindAll t = tt
told_one (entry.Given i) t = tt
told_one (entry.Idle x) t = tt
told_one (entry.Run a tag) t = tt
told_one entry.HostUp t = tt
told_one (entry.Ready a k) t = tt
told_one (entry.Lost a k) t = tt
told_one (entry.Accept n a s) t = tt
told_one (entry.RefuseSubmit n cause) t = tt
told_one (entry.Refuse call cause) t = tt
told_one (entry.Answer n how) t = tt
told_one (entry.AbortEnd n how) t = tt
told_one (entry.TargetEnd a how) t = tt
told_one entry.ResetDone t = tt

told_none : (t : List Entry) → EachEntry IsTold t → EachEntry NoPost t
told_none [] a = tt
told_none (e ∷ t) a = (told_one e a.0, told_none t a.1)

quiet_one : (e : Entry) → calm.IsQuiet e → NoPost e
quiet_one (entry.Put l x) t = absurd t
quiet_one (entry.Take l x) t = tt
quiet_one (entry.Bind k a n) t = tt
quiet_one (entry.Unbind k) t = tt
quiet_one entry.UnbindAll t = tt
quiet_one (entry.Given i) t = tt
quiet_one (entry.Idle x) t = tt
quiet_one (entry.Run a tag) t = tt
quiet_one entry.HostUp t = tt
quiet_one (entry.Ready a k) t = tt
quiet_one (entry.Lost a k) t = tt
quiet_one (entry.Accept n a s) t = tt
quiet_one (entry.RefuseSubmit n cause) t = tt
quiet_one (entry.Refuse call cause) t = tt
quiet_one (entry.Answer n how) t = tt
quiet_one (entry.AbortEnd n how) t = tt
quiet_one (entry.TargetEnd a how) t = tt
quiet_one entry.ResetDone t = tt

quiet_none : (t : List Entry) → EachEntry calm.IsQuiet t → EachEntry NoPost t
quiet_none [] a = tt
quiet_none (e ∷ t) a = (quiet_one e a.0, quiet_none t a.1)

plug_one : (e : Entry) → IsPlugWord e → NoPost e
plug_one (entry.Put l x) t = absurd t
plug_one (entry.Take l x) t = tt
plug_one (entry.Bind k a n) t = tt
plug_one (entry.Unbind k) t = tt
plug_one entry.UnbindAll t = tt
plug_one (entry.Given i) t = tt
plug_one (entry.Idle x) t = tt
plug_one (entry.Run a tag) t = tt
plug_one entry.HostUp t = tt
plug_one (entry.Ready a k) t = tt
plug_one (entry.Lost a k) t = tt
plug_one (entry.Accept n a s) t = tt
plug_one (entry.RefuseSubmit n cause) t = tt
plug_one (entry.Refuse call cause) t = tt
plug_one (entry.Answer n how) t = tt
plug_one (entry.AbortEnd n how) t = tt
plug_one (entry.TargetEnd a how) t = tt
plug_one entry.ResetDone t = tt

plug_none : (t : List Entry) → EachEntry IsPlugWord t → EachEntry NoPost t
plug_none [] a = tt
plug_none (e ∷ t) a = (plug_one e a.0, plug_none t a.1)

-- put, or at the controller
abbrev pub posted : World → ℕ → ℕ
posted w s = post_count s w.down + working s w.ioc

module _ (w : World) (h : History) (f : Facts w h) (plain : NothingIsStrange w) (s : ℕ) where
  -- the post of the identifier is put
  pub record IsPut (t : List Entry) : Type 0 where
    pub put : Post
    pub its : smid_in put.descriptor ≡ s
    pub record_is : PostIsRecord w h put
    pub aimed : (state_after aiming_next h.aiming t).handle s ≡ Some (dev_handle_in put.frame)

  abbrev pub Aims : World → List Entry → Type 0
  Aims v t = is_live v ≡ true → 1 ≤ posted v s → ((1 ≤ posted w s) × ((state_after aiming_next h.aiming t).handle s ≡ h.aiming.handle s)) ⊎ IsPut t

  OnPosted : World → List Entry → Type 0
  OnPosted v t = Aims v t

  stays : (v : World) (t : List Entry) → EachEntry NoPost t → posted v s ≤ posted w s → Aims v t
  stays v t a l live p = inl (omega (arith, l, p), ap (λ g. g s) (handle_same t h.aiming a))

  put : (x : Down) (rest : List Down) → w.host.out ≡ x ∷ rest → Aims (record w { host = after_sent w.host x rest; down = w.down ++ x ∷ [] }) (entry.Put lane.Down (item.Down x) ∷ [])
  put (down.Post d g p) rest e live l = by_key (smid_in d == s) refl
    where
      by_key : (b : Bool) → (smid_in d == s) ≡ b → ((1 ≤ posted w s) × ((state_after aiming_next h.aiming (entry.Put lane.Down (item.Down (down.Post d g p)) ∷ [])).handle s ≡ h.aiming.handle s)) ⊎ IsPut (entry.Put lane.Down (item.Down (down.Post d g p)) ∷ [])
      by_key true t =
          let i = eqb-true (smid_in d) s t in
          inr (record {
            put = record { descriptor = d; frame = g; payload = p };
            its = i;
            record_is = All-head (DownIsRecord w h) (down.Post d g p) rest (subst (All (DownIsRecord w h)) e (all_last (DownIsRecord w h) w.down w.host.out f.messages.down));
            aimed = (let y : (s == smid_in d) ≡ true = subst (λ j. (s == j) ≡ true) (sym i) (same s) in ap (λ b. if b then Some (dev_handle_in g) else h.aiming.handle s) y);
          })
        where
          same : (n : ℕ) → (n == n) ≡ true
          same n = grind arith
      by_key false t =
          let a = post_count-append s w.down (down.Post d g p ∷ []) in let c = post_count-cons s (down.Post d g p) [] in let n = post_count-nil s in let o = ap one_if t in
          let y : (s == smid_in d) ≡ false = grind (arith, t) in
          inl (omega (arith, l, a, c, n, o), ap (λ b. if b then Some (dev_handle_in g) else h.aiming.handle s) y)
  put (down.Write reg value) rest e live l = let a = post_count-append s w.down (down.Write reg value ∷ []) in let c = post_count-cons s (down.Write reg value) [] in let n = post_count-nil s in inl (omega (arith, l, a, c, n), refl)
  put (down.Read reg) rest e live l = let a = post_count-append s w.down (down.Read reg ∷ []) in let c = post_count-cons s (down.Read reg) [] in let n = post_count-nil s in inl (omega (arith, l, a, c, n), refl)
  put (down.Return address index) rest e live l = let a = post_count-append s w.down (down.Return address index ∷ []) in let c = post_count-cons s (down.Return address index) [] in let n = post_count-nil s in inl (omega (arith, l, a, c, n), refl)
  put down.Stop rest e live l = let a = post_count-append s w.down (down.Stop ∷ []) in let c = post_count-cons s down.Stop [] in let n = post_count-nil s in inl (omega (arith, l, a, c, n), refl)

  taken : (x : Down) (rest : List Down) → w.down ≡ x ∷ rest → is_live (record w { ioc = (adapter.takes_down w.ioc x).part; down = rest }) ≡ true → posted (record w { ioc = (adapter.takes_down w.ioc x).part; down = rest }) s ≤ posted w s
  taken x rest e l =
      let d = ap (post_count s) e in let g = post_count-cons s x rest in
      let k = taken_working s w.ioc x f.doorbell.sound.waits f.clock.phase_table.whole l in
      omega (arith, d, g, k)

  owes : OwesTold OnPosted w
  unfolding OnPosted
  owes =
      record {
        idles = λ c. stays w (entry.Idle c ∷ []) (tt, tt) (omega arith);
        host_puts = λ x rest e. put x rest e;
        host_takes = λ queue x rest e y. stays (record (with_up w queue rest) { host = (hears_up w.host queue x).part }) (entry.Take (up_lane queue) (item.Up x) ∷ (hears_up w.host queue x).entries) (tt, quiet_none (hears_up w.host queue x).entries (calm.quiet_taken w.host queue x None)) (omega arith);
        host_told = λ i c. stays (record w { host = (host_told w.host i).part }) (host_told w.host i).entries (told_none (host_told w.host i).entries (told_input w.host i)) (omega arith);
        host_looks = λ e. stays (record w { host = looks w.host }) [] tt (omega arith);
        host_stops = λ e. stays (record w { host = stops w.host }) [] tt (omega arith);
        no_session = stays w [] tt (omega arith);
        ioc_takes = λ x rest e live. stays (record w { ioc = (adapter.takes_down w.ioc x).part; down = rest }) (entry.Take lane.Down (item.Down x) ∷ (adapter.takes_down w.ioc x).entries) (tt, told_none (adapter.takes_down w.ioc x).entries (told_down w.ioc x)) (taken x rest e live) live;
        ioc_high = λ p rest e. stays (record w { ioc = (step.works_on (record w.ioc { high = rest }) p).part }) (step.works_on (record w.ioc { high = rest }) p).entries (told_none (step.works_on (record w.ioc { high = rest }) p).entries (told_high w.ioc (p ∷ rest))) (let a = high_works w h f plain s p rest e in omega (arith, a));
        ioc_normal = λ p rest e. stays (record w { ioc = (step.works_on (record w.ioc { normal = rest }) p).part }) (step.works_on (record w.ioc { normal = rest }) p).entries (told_none (step.works_on (record w.ioc { normal = rest }) p).entries (told_normal w.ioc (p ∷ rest))) (let a = normal_works w h f plain s p rest e in omega (arith, a));
        ioc_puts_out = λ x rest e. stays (record w { ioc = record w.ioc { out = rest }; out = w.out ++ x ∷ [] }) (entry.Put lane.Out (item.Out x) ∷ []) (tt, tt) (let a = by_same s w.ioc (record w.ioc { out = rest }) refl refl in omega (arith, a));
        ioc_takes_back = λ x rest e. stays (record w { ioc = (adapter.takes_back w.ioc x).part; back = rest }) (entry.Take lane.Back (item.Back x) ∷ (adapter.takes_back w.ioc x).entries) (tt, told_none (adapter.takes_back w.ioc x).entries (told_back w.ioc x)) (let a = back_working s w.ioc x in omega (arith, a));
        ioc_puts = λ queue y rest z e u. stays (with_up (record w { ioc = adapter.up_sent_on w.ioc queue }) queue (up_on w queue ++ z ∷ [])) (entry.Put (up_lane queue) (item.Up z) ∷ []) (tt, tt) (let a = by_same s w.ioc (adapter.up_sent_on w.ioc queue) refl refl in omega (arith, a));
        fabric_takes = λ x rest e. stays (record w { fabric = fab.takes_out w.fabric x; out = rest }) (entry.Take lane.Out (item.Out x) ∷ []) (tt, tt) (omega arith);
        fabric_says = λ x rest e. stays (record w { fabric = record w.fabric { notices = rest; out = w.fabric.out ++ x ∷ [] } }) [] tt (omega arith);
        fabric_puts = λ x rest e. stays (record w { fabric = record w.fabric { out = rest }; back = w.back ++ x ∷ [] }) (entry.Put lane.Back (item.Back x) ∷ []) (tt, tt) (omega arith);
        fabric_runs = λ tag address e. stays (record w { fabric = (fab.runs w.fabric tag).part }) (entry.Run address tag ∷ []) (tt, tt) (omega arith);
        plugs = λ address expander phy t p. stays (record w { fabric = (fab.fabric_plugs w.fabric address expander phy).part }) t (plug_none t p) (omega arith);
        unplugs = λ address t p. stays (record w { fabric = (fab.fabric_unplugs w.fabric address).part }) t (plug_none t p) (omega arith);
        calms = stays (record w { fabric = fab.calms w.fabric }) [] tt (omega arith);
      }

  pub aims : (c : Case) → Aims (happens w c) (entries w c)
  unfolding OnPosted
  aims c = kept_told OnPosted w plain owes c
