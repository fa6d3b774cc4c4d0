-- What a handle is bound to was plugged and told, and the plug of a gone one has ended: where it was so before.
use Rattle.std.proofs.Common.{◌≡◌, ℕ, ◌+◌, ◌-◌, ◌<◌, ◌==◌, nat_lt, ◌||◌, ◌⊎◌, inl, inr, not, Bool, true, false, cond, if◌then◌else◌, List, [], ◌∷◌, ◌++◌, length, get_or, set, Option, Some, None, refl, ap, sym, ◌∙◌, subst, arith, length-set}
use Rattle.std.specs.List.{find, position}
use Rattle.std.specs.Option.{option_map}
use Rattle.std.proofs.lemmas.Bool.{eqb-true}
use Rattle.std.proofs.lemmas.List.Quantifiers.{position-Some}
use Rattle.removal.specs.Handles.{IsHandle}
use Rattle.mpt_wire.specs.Handles.Bindings.{Plug}
use Rattle.mpt_wire.specs.Messages.Fields.{controlled_handle_in}
use Rattle.mpt_wire.specs.Walks.Passes.{EachEntry}
use Rattle.mpt_trace.specs.declared.entry.Entry.{Entry}
use Rattle.mpt_trace.specs.declared.entry.Entry.TheVariants as entry
use Rattle.mpt_trace.specs.declared.item.Back.{Back}
use Rattle.mpt_trace.specs.declared.item.Back.TheVariants as back
use Rattle.mpt_trace.specs.declared.item.Out.{Out}
use Rattle.mpt_trace.specs.declared.item.Out.TheVariants as out
use Rattle.mpt_trace.specs.declared.item.Item.TheVariants as item
use Rattle.mpt_trace.specs.declared.lane.LaneName.TheVariants as lane
use Rattle.mpt_rules.specs.declared.binding.Binding.{Binding}
use Rattle.mpt_rules.specs.declared.binding.Binding.TheVariants as binding
use Rattle.mpt_rules.specs.declared.binding.Waiting.{Waiting}
use Rattle.mpt_rules.specs.declared.post.Post.{Post}
use Rattle.mpt_rules.specs.declared.status.TheConstants.{IOC_STATUS_SUCCESS}
use Rattle.mpt_rules.specs.Fabric.Calls as fab
use Rattle.mpt_rules.specs.Fabric.Parts.{Fabric}
use Rattle.mpt_rules.specs.Host.Takes.{hears_up}
use Rattle.mpt_rules.specs.Ioc.Bindings as bind
use Rattle.mpt_rules.specs.Ioc.Bindings.{waits_at}
use Rattle.mpt_rules.specs.Ioc.Parts.{Ioc}
use Rattle.mpt_rules.specs.Ioc.Requests as ask
use Rattle.mpt_rules.specs.Ioc.Steps.{works_on}
use Rattle.mpt_rules.specs.Ioc.Tables as table
use Rattle.mpt_rules.specs.Ioc.Tables.{first_handle, is_present_at, is_unbound}
use Rattle.mpt_rules.specs.Ioc.Takes as adapter
use Rattle.mpt_rules.specs.Law.{NothingIsStrange}
use Rattle.mpt_rules.specs.Outcome.{Happening}
use Rattle.mpt_rules.specs.World.Cases.{Case, entries, happens}
use Rattle.mpt_rules.specs.World.Inputs.{host_told}
use Rattle.mpt_rules.specs.World.News.{notices_of}
use Rattle.mpt_rules.specs.World.State.{World}
use Rattle.mpt_rules.specs.World.Weight.{is_gone_binding}
use Rattle.mpt_rules.proofs.Lines.{notices_of-cons}
use Rattle.law_facts.specs.Clock.{is_live}
use Rattle.law_facts.specs.Facts.{Facts}
use Rattle.law_facts.specs.Handles.{BindingIs}
use Rattle.law_facts.specs.History.{History}
use Rattle.law_facts.specs.Notices.{Standing, is_plug, known}
use Rattle.law_flights.proofs.WorkLeaves.{AbortEnds, AbortSends, Acks, Dropped, Enables, EndsPlainly, Notifies, PageEnds, PageGiven, Refuses, RemovalEnds, Removes, ResetEnds, ResetHolds, ResetSends, ScsiEnds, ScsiSends, Stops, Strays, TaskFails, Works, works_leaf}
use Rattle.law_handles.proofs.HostSays.{told_input}
use Rattle.law_handles.proofs.HostSilent.{quiet, quiet_taken}
use Rattle.law_handles.proofs.Serving.{least_is}
use Rattle.law_handles.proofs.Tables.{at, at-set, binding_is, stands}
use Rattle.law_handles.proofs.TablesSame.{IsOfNoDisk, changed, of_no_disk}
use Rattle.law_moves.proofs.CasesTold.{IsPlugWord, OwesTold, kept_told}
use Rattle.law_moves.proofs.Counted.{how_many-cons}
use Rattle.law_targets.proofs.Stays.{KeepsBound, back_keeps, quiet_keeps, taken_keeps, work_keeps}
use Rattle.law_notices.proofs.Calls.{down_same, no_discovery, nothing_now, unbound_at}
use Rattle.law_notices.proofs.FabricMoves.{Moves, calm_moves, out_moves, plug_moves, run_moves, unplug_moves}
use Rattle.law_notices.proofs.Fit.{moved_on}
use Rattle.law_notices.proofs.Found.{found_at, same_is}
use Rattle.law_notices.proofs.Known.{present}
use Rattle.law_notices.proofs.Leading.{HasEnded, before, news, standing}
use Rattle.law_notices.proofs.Lit.{live_back, live_down, live_high, live_normal}
use Rattle.law_notices.proofs.Told.{Leads, goes, told_so_far}

gone_there : (b : Binding) → is_gone_binding b ≡ true → is_unbound b ≡ false
gone_there binding.Unbound e = absurd (cc)
gone_there (binding.Present address plug expander phy) e = refl
gone_there (binding.Gone address) e = refl

-- a gone handle isn't one that was written as something else
gone_else : (bs : List Binding) (h0 g : ℕ) (b : Binding) → length bs ≡ 64 → IsHandle h0 → IsHandle g → is_gone_binding b ≡ false → is_gone_binding (at (set bs (h0 - first_handle) b) g) ≡ true → ((g == h0) ≡ false) × (is_gone_binding (at bs g) ≡ true)
gone_else bs h0 g b n i j e t = by_key (g == h0) refl (at-set bs h0 g b n i j)
  where
    by_key : (c : Bool) → (g == h0) ≡ c → at (set bs (h0 - first_handle) b) g ≡ cond (g == h0) b (at bs g) → ((g == h0) ≡ false) × (is_gone_binding (at bs g) ≡ true)
    by_key true s a = let x : at (set bs (h0 - first_handle) b) g ≡ b = a ∙ ap (λ c. cond c b (at bs g)) s in let y = ap is_gone_binding x in absurd (cc)
    by_key false s a = let x : at (set bs (h0 - first_handle) b) g ≡ at bs g = a ∙ ap (λ c. cond c b (at bs g)) s in (s, sym (ap is_gone_binding x) ∙ t)

plug_words : (g : ℕ) (t : List Entry) → EachEntry IsPlugWord t → EachEntry (KeepsBound g) t
plug_words g [] p = tt
plug_words g (e ∷ t) p = (one e p.0, plug_words g t p.1)
  where
    one : (e : Entry) → IsPlugWord e → KeepsBound g e
    one (entry.Given i) q = tt
    one (entry.Refuse call cause) q = tt
    one (entry.Idle x) q = absurd q
    one (entry.Put l x) q = absurd q
    one (entry.Take l x) q = absurd q
    one (entry.Bind k a n) q = absurd q
    one (entry.Unbind k) q = absurd q
    one entry.UnbindAll q = absurd q
    one (entry.Run a tag) q = absurd q
    one entry.HostUp q = absurd q
    one (entry.Ready a k) q = absurd q
    one (entry.Lost a k) q = absurd q
    one (entry.Accept n a s) q = absurd q
    one (entry.RefuseSubmit n cause) q = absurd q
    one (entry.Answer n how) q = absurd q
    one (entry.AbortEnd n how) q = absurd q
    one (entry.TargetEnd a how) q = absurd q
    one entry.ResetDone q = absurd q

module _ (w : World) (h : History) (f : Facts w h) (g : ℕ) (handle : IsHandle g) where
  -- the handle's plug has ended as the fabric goes
  abbrev pub Ended : Type 0
  Ended = (p : Plug) (s : Standing) → h.serving.bound g ≡ Some p → standing w p.address ≡ Some s → HasEnded s p.number

  -- a handle that is gone: it was, or its disk goes now, and what it is bound to stays
  pub record GoneBefore (t : List Entry) : Type 0 where
    pub keeps : EachEntry (KeepsBound g) t
    pub was : (is_gone_binding (at w.ioc.bindings g) ≡ true) ⊎ Ended
    pub live : is_live w ≡ true
    pub on : w.fabric.on ≡ true

  abbrev Was : World → List Entry → Type 0
  Was v t = is_live v ≡ true → v.fabric.on ≡ true → is_gone_binding (at v.ioc.bindings g) ≡ true → GoneBefore t

  still : (t : List Entry) → EachEntry (KeepsBound g) t → is_live w ≡ true → w.fabric.on ≡ true → is_gone_binding (at w.ioc.bindings g) ≡ true → GoneBefore t
  still t k l o e = record { keeps = k; was = inl e; live = l; on = o }

  -- ---- work

  freed : (ioc : Ioc) (p : Post) (address : ℕ) → ioc.bindings ≡ w.ioc.bindings → table.binding_of ioc (controlled_handle_in p.frame) ≡ binding.Gone address
      → is_gone_binding (at (ask.removes ioc p).part.bindings g) ≡ true → ((g == controlled_handle_in p.frame) ≡ false) × (is_gone_binding (at ioc.bindings g) ≡ true)
  freed ioc p address same b e = by_list ioc.waiting e
    where
      h0 : ℕ
      h0 = controlled_handle_in p.frame

      n : length ioc.bindings ≡ 64
      n = ap length same ∙ f.flights.sizes.bindings

      i : IsHandle h0
      i = (stands ioc h0 (binding.Gone address) n b refl).0

      left : Ioc
      left = ask.ioc_ends_removal (table.with_binding ioc h0 binding.Unbound) p IOC_STATUS_SUCCESS

      n2 : length (set ioc.bindings (h0 - first_handle) binding.Unbound) ≡ 64
      n2 = length-set ioc.bindings (h0 - first_handle) binding.Unbound ∙ n

      by_free : (disk : Waiting) (rest : List Waiting) (o : Option ℕ) → table.least_unbound (record left { waiting = rest }) ≡ o → is_gone_binding (at (bind.binds_to (record left { waiting = rest }) disk o).part.bindings g) ≡ true
          → ((g == h0) ≡ false) × (is_gone_binding (at ioc.bindings g) ≡ true)
      by_free disk rest None q t = gone_else ioc.bindings h0 g binding.Unbound n i handle refl t
      by_free disk rest (Some h1) q t =
          let made : Ioc = table.with_binding (record left { waiting = rest }) h1 (present disk) in
          let s = changed made h1 disk.expander disk.phy true in
          let t2 : is_gone_binding (at made.bindings g) ≡ true = sym (ap (λ bs. is_gone_binding (at bs g)) s.bindings) ∙ t in
          let l = least_is (set ioc.bindings (h0 - first_handle) binding.Unbound) h1 n2 q in
          gone_else ioc.bindings h0 g binding.Unbound n i handle refl (gone_else (set ioc.bindings (h0 - first_handle) binding.Unbound) h1 g (present disk) n2 l.0 handle refl t2).1

      by_list : (xs : List Waiting) → is_gone_binding (at (bind.binds_first left xs).part.bindings g) ≡ true → ((g == h0) ≡ false) × (is_gone_binding (at ioc.bindings g) ≡ true)
      by_list [] t = gone_else ioc.bindings h0 g binding.Unbound n i handle refl t
      by_list (disk ∷ rest) t = by_free disk rest (table.least_unbound (record left { waiting = rest })) refl t

  module _ (ioc : Ioc) (p : Post) (same : ioc.bindings ≡ w.ioc.bindings) (l : is_live w ≡ true) (o : w.fabric.on ≡ true) (gone : is_gone_binding (at (works_on ioc p).part.bindings g) ≡ true) where
    silent : (x : Happening Ioc) → works_on ioc p ≡ x → x.part.bindings ≡ ioc.bindings → x.entries ≡ [] → GoneBefore (works_on ioc p).entries
    silent x e b t =
        let q : (works_on ioc p).part.bindings ≡ w.ioc.bindings = ap (λ (y : Happening Ioc). y.part.bindings) e ∙ (b ∙ same) in
        let es : (works_on ioc p).entries ≡ [] = ap (λ (y : Happening Ioc). y.entries) e ∙ t in
        subst GoneBefore (sym es) (still [] tt l o (sym (ap (λ bs. is_gone_binding (at bs g)) q) ∙ gone))

    worked : Works ioc p (works_on ioc p) → GoneBefore (works_on ioc p).entries
    worked (Dropped k e) = silent _ e refl refl
    worked (Refuses k fault kind r e) = silent _ e refl refl
    worked (ScsiEnds status k c e) = silent _ e refl refl
    worked (ScsiSends address plug expander phy k c b e) = silent _ e refl refl
    worked (Stops stop k n e) = silent _ e refl refl
    worked (AbortSends k n b e) = silent _ e refl refl
    worked (AbortEnds k n b e) = silent _ e refl refl
    worked (ResetSends address plug expander phy k b e) = silent _ e refl refl
    worked (ResetHolds address k b c e) = silent _ e refl refl
    worked (ResetEnds status k e) = silent _ e refl refl
    worked (TaskFails k e) = silent _ e refl refl
    worked (PageEnds status k e) = silent _ e refl refl
    worked (PageGiven page k n e) = silent _ e refl refl
    worked (Enables k b e) = silent _ e refl refl
    worked (Notifies k e) = silent _ e refl refl
    worked (Acks k b e) = silent _ e refl refl
    worked (EndsPlainly n status k e) = silent _ e refl refl
    worked (RemovalEnds status k e) = silent _ e refl refl
    worked (Removes address k n b c e) =
        let t : is_gone_binding (at (ask.removes ioc p).part.bindings g) ≡ true = sym (ap (λ (y : Happening Ioc). is_gone_binding (at y.part.bindings g)) e) ∙ gone in
        let r = freed ioc p address same b t in
        record {
          keeps = work_keeps g ioc (ap length same ∙ f.flights.sizes.bindings) handle (gone_there (at ioc.bindings g) r.1) p (λ a d. r.0);
          was = inl (ap (λ bs. is_gone_binding (at bs g)) (sym same) ∙ r.1);
          live = l;
          on = o;
        }
    worked (Strays k r e) = silent _ e refl refl

  -- ---- news

  sized : length w.ioc.bindings ≡ 64
  sized = f.flights.sizes.bindings

  told_back : (x : Back) → is_live w ≡ true → w.fabric.on ≡ true → (was : (is_gone_binding (at w.ioc.bindings g) ≡ true) ⊎ Ended) → is_unbound (at w.ioc.bindings g) ≡ false → GoneBefore (entry.Take lane.Back (item.Back x) ∷ (adapter.takes_back w.ioc x).entries)
  told_back x l o was t = record { keeps = (tt, back_keeps g w.ioc sized handle t x); was = was; live = l; on = o }

  was_gone : (x : Back) → is_live w ≡ true → w.fabric.on ≡ true → is_gone_binding (at w.ioc.bindings g) ≡ true → GoneBefore (entry.Take lane.Back (item.Back x) ∷ (adapter.takes_back w.ioc x).entries)
  was_gone x l o e = told_back x l o (inl e) (gone_there (at w.ioc.bindings g) e)

  other : (x : Back) → IsOfNoDisk x → is_live w ≡ true → w.fabric.on ≡ true → is_gone_binding (at (adapter.takes_back w.ioc x).part.bindings g) ≡ true → is_gone_binding (at w.ioc.bindings g) ≡ true
  other x n l o e = sym (ap (λ bs. is_gone_binding (at bs g)) (of_no_disk w.ioc x n).0.bindings) ∙ e

  bound_else : (disk : Waiting) (o : Option ℕ) → table.least_unbound w.ioc ≡ o → is_gone_binding (at (bind.binds_to w.ioc disk o).part.bindings g) ≡ true → is_gone_binding (at w.ioc.bindings g) ≡ true
  bound_else disk None q t = t
  bound_else disk (Some h1) q t =
      let made : Ioc = table.with_binding w.ioc h1 (present disk) in
      let t2 : is_gone_binding (at made.bindings g) ≡ true = sym (ap (λ bs. is_gone_binding (at bs g)) (changed made h1 disk.expander disk.phy true).bindings) ∙ t in
      (gone_else w.ioc.bindings h1 g (present disk) sized (least_is w.ioc.bindings h1 sized q).0 handle refl t2).1

  plugged_else : (address plug expander phy : ℕ) → is_gone_binding (at (adapter.takes_back w.ioc (back.Plugged address plug expander phy)).part.bindings g) ≡ true → is_gone_binding (at w.ioc.bindings g) ≡ true
  plugged_else address plug expander phy e = by_heard (is_live w) (bind.is_known w.ioc address || not (nat_lt expander (length w.ioc.phys))) e
    where
      by_heard : (x y : Bool) → is_gone_binding (at (if x then (if y then table.silently w.ioc else bind.binds w.ioc (record { address = address; plug = plug; expander = expander; phy = phy })) else table.silently w.ioc).part.bindings g) ≡ true → is_gone_binding (at w.ioc.bindings g) ≡ true
      by_heard true true t = t
      by_heard true false t = bound_else (record { address = address; plug = plug; expander = expander; phy = phy }) (table.least_unbound w.ioc) refl t
      by_heard false y t = t

  -- the handle's disk is unplugged: the plug is the last that was told, and has ended
  module _ (address plug expander phy : ℕ) (rest : List Back) (front : w.back ≡ back.Unplugged address plug expander phy ∷ rest) (l : is_live w ≡ true) (o : w.fabric.on ≡ true) where
    seen : news w address ≡ back.Unplugged address plug expander phy ∷ notices_of address ((rest ++ w.fabric.out) ++ w.fabric.notices)
    seen =
        ap (λ xs. notices_of address ((xs ++ w.fabric.out) ++ w.fabric.notices)) front
        ∙ (notices_of-cons address (back.Unplugged address plug expander phy) ((rest ++ w.fabric.out) ++ w.fabric.notices)
        ∙ ap (λ b. if b then back.Unplugged address plug expander phy ∷ notices_of address ((rest ++ w.fabric.out) ++ w.fabric.notices) else notices_of address ((rest ++ w.fabric.out) ++ w.fabric.notices)) (same_is address))

    over : (q x y : ℕ) → at w.ioc.bindings g ≡ binding.Present address q x y → Ended
    over q x y e p s b d =
        let same : Some p ≡ Some (record { address = address; number = q }) = sym b ∙ subst (λ c. BindingIs c (h.serving.bound g)) (binding_is w.ioc g handle ∙ e) (f.handles.each g handle).binds.served in
        let here : p ≡ record { address = address; number = q } = cc in
        let d2 : standing w address ≡ Some s = ap (λ (r : Plug). standing w r.address) (sym here) ∙ d in
        let k = (before w h f l o address).leads in
        let k2 : Leads (known w.ioc address) (back.Unplugged address plug expander phy ∷ notices_of address ((rest ++ w.fabric.out) ++ w.fabric.notices)) (Some s) =
        subst (Leads (known w.ioc address) (back.Unplugged address plug expander phy ∷ notices_of address ((rest ++ w.fabric.out) ++ w.fabric.notices))) d2 (subst (λ ms. Leads (known w.ioc address) ms (standing w address)) seen k) in
        let a : is_present_at address (at w.ioc.bindings g) ≡ true = ap (is_present_at address) e ∙ same_is address in
        let i = handle.0 in let j = handle.1 in let n = sized in
        let c = f.handles.known_once address in
        let found : find (is_present_at address) w.ioc.bindings ≡ Some (at w.ioc.bindings g) = found_at (is_present_at address) w.ioc.bindings (g - first_handle) binding.Unbound (omega (arith, c)) (omega (arith, i, j, n)) a in
        let known_is : known w.ioc address ≡ Some (record { address = address; plug = q; expander = x; phy = y }) = ap (λ m. Rattle.law_facts.specs.Notices.by_binding m (find (waits_at address) w.ioc.waiting)) (found ∙ ap Some e) in
        let q_is : q ≡ told_so_far s.plugs (back.Unplugged address plug expander phy ∷ notices_of address ((rest ++ w.fabric.out) ++ w.fabric.notices)) = k2.1 (record { address = address; plug = q; expander = x; phy = y }) known_is in
        let m = how_many-cons is_plug (back.Unplugged address plug expander phy) (notices_of address ((rest ++ w.fabric.out) ++ w.fabric.notices)) in
        let r = (goes (known w.ioc address) s address plug expander phy (notices_of address ((rest ++ w.fabric.out) ++ w.fabric.notices)) k2).0 in
        let last = r.last in
        let number : p.number ≡ plug = ap (λ (z : Plug). z.number) here ∙ omega (arith, q_is, m, last) in
        by_over number r.over
      where
        by_over : p.number ≡ plug → (plug < s.plugs) ⊎ ((plug ≡ s.plugs) × (s.at ≡ None)) → HasEnded s p.number
        by_over n (inl u) = inl (omega (arith, n, u))
        by_over n (inr u) = inr (n ∙ u.0, u.1)

    abbrev Answer : Type 0
    Answer = (is_gone_binding (at w.ioc.bindings g) ≡ true) ⊎ ((q : ℕ) × (x : ℕ) × (y : ℕ) × (at w.ioc.bindings g ≡ binding.Present address q x y))

    lost : (h1 : ℕ) (b : Binding) → IsHandle h1 → at w.ioc.bindings h1 ≡ b → is_present_at address b ≡ true → is_gone_binding (at (bind.ioc_loses w.ioc h1 b).bindings g) ≡ true → Answer
    lost h1 binding.Unbound i e p t = absurd (cc)
    lost h1 (binding.Gone b) i e p t = absurd (cc)
    lost h1 (binding.Present b q x y) i e p t =
        let made : Ioc = table.with_binding w.ioc h1 (binding.Gone b) in
        let t2 : is_gone_binding (at made.bindings g) ≡ true = sym (ap (λ bs. is_gone_binding (at bs g)) (changed made h1 x y false).bindings) ∙ t in
        by_key (g == h1) refl t2
      where
        by_key : (c : Bool) → (g == h1) ≡ c → is_gone_binding (at (set w.ioc.bindings (h1 - first_handle) (binding.Gone b)) g) ≡ true → Answer
        by_key true s u =
            let this : b ≡ address = eqb-true b address p in
            inr (q, x, y, ap (at w.ioc.bindings) (eqb-true g h1 s) ∙ (e ∙ ap (λ k. binding.Present k q x y) this))
        by_key false s u =
            let a = at-set w.ioc.bindings h1 g (binding.Gone b) sized i handle in
            inl (sym (ap is_gone_binding (a ∙ ap (λ c. cond c (binding.Gone b) (at w.ioc.bindings g)) s)) ∙ u)

    by_place : (h1 : ℕ) (m : Option ℕ) → position (is_present_at address) w.ioc.bindings ≡ m → option_map table.handle_at m ≡ Some h1 → is_gone_binding (at (bind.ioc_loses w.ioc h1 (table.binding_of w.ioc h1)).bindings g) ≡ true → Answer
    by_place h1 None p m t = absurd (cc)
    by_place h1 (Some j) p m t =
        let q = position-Some (is_present_at address) w.ioc.bindings j binding.Unbound p in
        let k = q.0 in let n = sized in
        let this : h1 ≡ 0x0009 + j = grind (arith, m) in
        let place : h1 - first_handle ≡ j = omega (arith, this) in
        let i : IsHandle h1 = (omega (arith, this), omega (arith, this, k, n)) in
        let there : is_present_at address (at w.ioc.bindings h1) ≡ true = subst (λ x. is_present_at address (get_or w.ioc.bindings x binding.Unbound) ≡ true) (sym place) q.1 in
        lost h1 (at w.ioc.bindings h1) i refl there (ap (λ b. is_gone_binding (at (bind.ioc_loses w.ioc h1 b).bindings g)) (sym (binding_is w.ioc h1 i)) ∙ t)

    by_handle : (m : Option ℕ) → table.handle_of w.ioc address ≡ m → is_gone_binding (at (bind.ioc_unplugs_from w.ioc address m).bindings g) ≡ true → Answer
    by_handle None e t = inl t
    by_handle (Some h1) e t = by_place h1 (position (is_present_at address) w.ioc.bindings) refl e t

    unplugged_else : is_gone_binding (at (adapter.takes_back w.ioc (back.Unplugged address plug expander phy)).part.bindings g) ≡ true → Answer
    unplugged_else t = by_heard (is_live w) t
      where
        by_heard : (x : Bool) → is_gone_binding (at (if x then table.silently (bind.ioc_unplugs w.ioc address) else table.silently w.ioc).part.bindings g) ≡ true → Answer
        by_heard true t = by_handle (table.handle_of w.ioc address) refl t
        by_heard false t = inl t

    leaves : is_gone_binding (at (adapter.takes_back w.ioc (back.Unplugged address plug expander phy)).part.bindings g) ≡ true
        → GoneBefore (entry.Take lane.Back (item.Back (back.Unplugged address plug expander phy)) ∷ (adapter.takes_back w.ioc (back.Unplugged address plug expander phy)).entries)
    leaves t = by_answer (unplugged_else t)
      where
        by_answer : Answer → GoneBefore (entry.Take lane.Back (item.Back (back.Unplugged address plug expander phy)) ∷ (adapter.takes_back w.ioc (back.Unplugged address plug expander phy)).entries)
        by_answer (inl e) = was_gone (back.Unplugged address plug expander phy) l o e
        by_answer (inr r) = told_back (back.Unplugged address plug expander phy) l o (inr (over r.0 r.1 r.2 r.3)) (ap is_unbound r.3)

  back_gone : (x : Back) (rest : List Back) → w.back ≡ x ∷ rest → is_live w ≡ true → w.fabric.on ≡ true → is_gone_binding (at (adapter.takes_back w.ioc x).part.bindings g) ≡ true
      → GoneBefore (entry.Take lane.Back (item.Back x) ∷ (adapter.takes_back w.ioc x).entries)
  back_gone (back.Plugged address plug expander phy) rest e l o t = was_gone (back.Plugged address plug expander phy) l o (plugged_else address plug expander phy t)
  back_gone (back.Unplugged address plug expander phy) rest e l o t = leaves address plug expander phy rest e l o t
  back_gone (back.Result tag r) rest e l o t = was_gone (back.Result tag r) l o (other (back.Result tag r) tt l o t)
  back_gone (back.Gone tag) rest e l o t = was_gone (back.Gone tag) l o (other (back.Gone tag) tt l o t)
  back_gone (back.Terminated tag) rest e l o t = was_gone (back.Terminated tag) l o (other (back.Terminated tag) tt l o t)
  back_gone (back.Aborted smid found) rest e l o t = was_gone (back.Aborted smid found) l o (other (back.Aborted smid found) tt l o t)
  back_gone (back.Cleared smid count) rest e l o t = was_gone (back.Cleared smid count) l o (other (back.Cleared smid count) tt l o t)
  back_gone back.Discovered rest e l o t = was_gone back.Discovered l o (other back.Discovered tt l o t)
  back_gone (back.Linked generation) rest e l o t = was_gone (back.Linked generation) l o (other (back.Linked generation) tt l o t)
  back_gone back.Calm rest e l o t = was_gone back.Calm l o (other back.Calm tt l o t)

  -- ---- the fabric, and every case

  moved : (k : Fabric) (t : List Entry) → Moves w.fabric k → EachEntry (KeepsBound g) t → is_live w ≡ true → k.on ≡ true → is_gone_binding (at w.ioc.bindings g) ≡ true → GoneBefore t
  moved k t m e l o q = still t e l (sym (moved_on w h f k m) ∙ o) q

  found : (rest : List Out) (t : List Entry) → w.out ≡ out.Discover ∷ rest → EachEntry (KeepsBound g) t → is_live w ≡ true → is_gone_binding (at w.ioc.bindings g) ≡ true → GoneBefore t
  found rest t e k l q = by_on w.fabric.on refl
    where
      by_on : (b : Bool) → w.fabric.on ≡ b → GoneBefore t
      by_on true o = absurd (no_discovery w h f rest e l o)
      by_on false o =
          let u : is_unbound (at w.ioc.bindings g) ≡ true = sym (ap is_unbound (binding_is w.ioc g handle)) ∙ unbound_at w.ioc g (nothing_now w h f o) in
          let n = gone_there (at w.ioc.bindings g) q in
          absurd (cc)

  taken : (x : Out) (rest : List Out) (t : List Entry) → w.out ≡ x ∷ rest → EachEntry (KeepsBound g) t → is_live w ≡ true → (fab.takes_out w.fabric x).on ≡ true → is_gone_binding (at w.ioc.bindings g) ≡ true → GoneBefore t
  taken out.Discover rest t e k l o q = found rest t e k l q
  taken (out.Link generation) rest t e k l o q = absurd (cc)
  taken (out.Task tag address command) rest t e k l o q = moved _ t (out_moves w.fabric (out.Task tag address command) refl) k l o q
  taken (out.Abort smid task) rest t e k l o q = moved _ t (out_moves w.fabric (out.Abort smid task) refl) k l o q
  taken (out.TargetReset smid address) rest t e k l o q = moved _ t (out_moves w.fabric (out.TargetReset smid address) refl) k l o q
  taken out.Stop rest t e k l o q = still t k l o q

  owed : OwesTold Was w
  owed =
      record {
        idles = λ c l o q. still _ (tt, tt) l o q;
        host_puts = λ x rest e l o q. still _ (tt, tt) l o q;
        host_takes = λ queue x rest e y l o q. still _ (tt, quiet_keeps g (hears_up w.host queue x).entries (quiet_taken w.host queue x None)) l o q;
        host_told = λ i c l o q. still _ (quiet_keeps g (host_told w.host i).entries (quiet (host_told w.host i).entries (told_input w.host i))) l o q;
        host_looks = λ e l o q. still [] tt l o q;
        host_stops = λ e l o q. still [] tt l o q;
        no_session = λ l o q. still [] tt l o q;
        ioc_takes = λ x rest e l o q. still _ (tt, taken_keeps g w.ioc x l) (live_down w h f x o l) o (sym (ap (λ bs. is_gone_binding (at bs g)) (down_same w h f x l).bindings) ∙ q);
        ioc_high = λ p rest e l o q. worked (record w.ioc { high = rest }) p refl (live_high w h f p rest e) o q (works_leaf (record w.ioc { high = rest }) p);
        ioc_normal = λ p rest e l o q. worked (record w.ioc { normal = rest }) p refl (live_normal w h f p rest e) o q (works_leaf (record w.ioc { normal = rest }) p);
        ioc_puts_out = λ x rest e l o q. still _ (tt, tt) l o q;
        ioc_takes_back = λ x rest e l o q. back_gone x rest e (live_back w h f x o l) o q;
        ioc_puts = λ queue y rest z e u l o q. still _ (tt, tt) l o q;
        fabric_takes = λ x rest e l o q. taken x rest _ e (tt, tt) l o q;
        fabric_says = λ x rest e l o q. still [] tt l o q;
        fabric_puts = λ x rest e l o q. still _ (tt, tt) l o q;
        fabric_runs = λ tag address e l o q. moved _ _ (run_moves w.fabric tag) (tt, tt) l o q;
        plugs = λ address expander phy t p l o q. moved _ t (plug_moves w.fabric address expander phy) (plug_words g t p) l o q;
        unplugs = λ address t p l o q. moved _ t (unplug_moves w.fabric address) (plug_words g t p) l o q;
        calms = λ l o q. moved _ [] (calm_moves w.fabric) tt l o q;
      }

  pub gone_before : NothingIsStrange w → (c : Case) → is_live (happens w c) ≡ true → (happens w c).fabric.on ≡ true → is_gone_binding (at (happens w c).ioc.bindings g) ≡ true → GoneBefore (entries w c)
  gone_before plain c = kept_told Was w plain owed c
