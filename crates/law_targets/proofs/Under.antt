-- A command that is under way behind a case was so before, and its handle is bound as before.
use Rattle.std.proofs.Common.{◌≡◌, ◌≢◌, ℕ, zero, suc, ◌+◌, ◌≤◌, ◌==◌, inl, inr, Bool, true, false, not, if◌then◌else◌, List, [], ◌∷◌, ◌++◌, append_assoc, Option, Some, None, refl, ap, sym, ◌∙◌, subst, arith}
use Rattle.std.specs.Prelude.{All}
use Rattle.std.specs.FinMap as finmap
use Rattle.std.proofs.lemmas.List.Elements.{All-head}
use Rattle.mpi_rings.specs.declared.request_descriptor.PostKind.{PostKind}
use Rattle.mpi_rings.specs.declared.request_descriptor.PostKind.TheVariants as post
use Rattle.smid_pool.specs.Pool.{Open, slot_of}
use Rattle.removal.specs.Handles.{IsHandle}
use Rattle.mpt_messages.specs.Function.{function_of}
use Rattle.mpt_messages.specs.declared.function.Function.TheVariants as function
use Rattle.mpt_wire.specs.Handles.Bindings.{Plug}
use Rattle.mpt_wire.specs.Messages.Fields.{controlled_handle_in, flags_in, function_in, kind_in, smid_in}
use Rattle.mpt_wire.specs.Walks.Passes.{EachEntry}
use Rattle.mpt_trace.specs.declared.entry.Entry.{Entry}
use Rattle.mpt_trace.specs.declared.entry.Entry.TheVariants as entry
use Rattle.mpt_trace.specs.declared.item.Down.{Down}
use Rattle.mpt_trace.specs.declared.item.Down.TheVariants as down
use Rattle.mpt_trace.specs.declared.item.Up.{Up}
use Rattle.mpt_rules.specs.declared.binding.Binding.{Binding}
use Rattle.mpt_rules.specs.declared.binding.Binding.TheVariants as binding
use Rattle.mpt_rules.specs.declared.post.Post.{Post}
use Rattle.mpt_rules.specs.declared.request.Request.TheVariants as request
use Rattle.mpt_rules.specs.Host.Parts.{Host}
use Rattle.mpt_rules.specs.Host.Returns.{after_sent}
use Rattle.mpt_rules.specs.Host.Takes.{hears_up, looks, stops}
use Rattle.mpt_rules.specs.Ioc.Parts.{Ioc}
use Rattle.mpt_rules.specs.Ioc.Steps as step
use Rattle.mpt_rules.specs.Ioc.Tables.{is_post_of, is_unbound, request_at}
use Rattle.mpt_rules.specs.Ioc.Takes as adapter
use Rattle.mpt_rules.specs.Law.{NothingIsStrange}
use Rattle.mpt_rules.specs.World.Cases.{Case, entries, happens}
use Rattle.mpt_rules.specs.World.Counts.{one_if, post_count, queued_count}
use Rattle.mpt_rules.specs.World.Inputs.{host_told}
use Rattle.mpt_rules.specs.World.Lines.{down_line, is_high}
use Rattle.mpt_rules.specs.World.State.{World, up_on}
use Rattle.mpt_rules.proofs.Counts.{post_count-append, post_count-cons, queued_count-cons}
use Rattle.law_facts.specs.Clock.{is_live}
use Rattle.law_facts.specs.Facts.{Facts}
use Rattle.law_facts.specs.Handles.{BindingIs}
use Rattle.law_facts.specs.History.{History}
use Rattle.law_facts.specs.Messages.{PostIsRecord}
use Rattle.law_facts.specs.Words.{is_command, others, slot}
use Rattle.law_handles.proofs.HostSays.{told_input}
use Rattle.law_handles.proofs.HostSilent.{quiet, quiet_taken}
use Rattle.law_handles.proofs.Tables.{at, binding_is}
use Rattle.law_moves.proofs.CasesTold.{IsPlugWord, OwesTold, kept_told}
use Rattle.law_moves.proofs.Counted.{others-cons}
use Rattle.law_places.specs.Further.{VectorsFit}
use Rattle.law_places.proofs.Standing.{named_post}
use Rattle.law_targets.proofs.HostPosts as host
use Rattle.law_targets.proofs.Stays.{KeepsBound, back_keeps, quiet_keeps, taken_keeps, work_keeps}
use Rattle.law_targets.proofs.Working.{back_working, by_same, taken_working, work_goes, working}

-- ---- kinds and queues

abbrev kind_by : Bool → Bool → Bool → Option PostKind
kind_by a b c = if a then Some post.ScsiIo else (if b then Some post.HighPriority else (if c then Some post.Default else None))

pub low_kind : (d : ℕ) (k : PostKind) → kind_in d ≡ Some k → k ≢ post.HighPriority → is_high d ≡ false
low_kind d k e n = by_tests (flags_in d == 0) (flags_in d == 6) (flags_in d == 8) refl refl e
  where
    apart : (m : ℕ) → (m == 0) ≡ true → (m == 6) ≡ false
    apart m t = grind (arith, t)

    high : {T : Type 0} → Some post.HighPriority ≡ Some k → T
    high z = let q : k ≡ post.HighPriority = cc in absurd (n q)

    by_tests : (a b c : Bool) → (flags_in d == 0) ≡ a → (flags_in d == 6) ≡ b → kind_by a b c ≡ Some k → b ≡ false
    by_tests a false c x y z = refl
    by_tests true true c x y z = let q : true ≡ false = sym y ∙ apart (flags_in d) x in absurd (cc)
    by_tests false true c x y z = high z

pub scsi_low : post.ScsiIo ≢ post.HighPriority
scsi_low e = cc

pub default_low : post.Default ≢ post.HighPriority
default_low e = cc

plug_keeps : (g : ℕ) (t : List Entry) → EachEntry IsPlugWord t → EachEntry (KeepsBound g) t
plug_keeps g [] p = tt
plug_keeps g (e ∷ t) p = (one e p.0, plug_keeps g t p.1)
  where
    one : (e : Entry) → IsPlugWord e → KeepsBound g e
    one (entry.Given i) p = tt
    one (entry.Refuse call cause) p = tt
    one (entry.Accept n a s) p = absurd p
    one (entry.Answer n how) p = absurd p
    one (entry.Idle x) p = absurd p
    one (entry.Put l x) p = absurd p
    one (entry.Take l x) p = absurd p
    one (entry.Bind k a n) p = absurd p
    one (entry.Unbind k) p = absurd p
    one entry.UnbindAll p = absurd p
    one (entry.Run a tag) p = absurd p
    one entry.HostUp p = absurd p
    one (entry.Ready a k) p = absurd p
    one (entry.Lost a k) p = absurd p
    one (entry.RefuseSubmit n cause) p = absurd p
    one (entry.AbortEnd n how) p = absurd p
    one (entry.TargetEnd a how) p = absurd p
    one entry.ResetDone p = absurd p

out_sent : (x : Host) (y : Down) (rest : List Down) → (after_sent x y rest).out ≡ rest
out_sent x (down.Post d f p) rest = refl
out_sent x (down.Write reg value) rest = refl
out_sent x (down.Read reg) rest = refl
out_sent x (down.Return address index) rest = refl
out_sent x down.Stop rest = refl

-- on their way and at the controller
abbrev pub used : World → ℕ → ℕ
used w s = post_count s (down_line w) + working s w.ioc

module _ (w : World) (h : History) (f : Facts w h) (plain : NothingIsStrange w) where
  -- a post at the front of a queue
  high_front : (p : Post) (rest : List Post) → w.ioc.high ≡ p ∷ rest → is_high p.descriptor ≡ true
  high_front p rest e = by_test (is_high p.descriptor) refl
    where
      by_test : (b : Bool) → is_high p.descriptor ≡ b → b ≡ true
      by_test true t = refl
      by_test false t =
          let z = f.flights.sorted.high in let a = ap (others (λ (q : Post). is_high q.descriptor)) e in
          let c = others-cons (λ (q : Post). is_high q.descriptor) p rest in let o = ap (λ b. one_if (not b)) t in
          absurd (omega (arith, z, a, c, o))

  high_is : {T : Type 0} (k : PostKind) (p : Post) (rest : List Post) → w.ioc.high ≡ p ∷ rest → kind_in p.descriptor ≡ Some k → k ≢ post.HighPriority → T
  high_is k p rest e d n = let a = high_front p rest e in let c = low_kind p.descriptor k d n in absurd (cc)

  recorded_high : (p : Post) (rest : List Post) → w.ioc.high ≡ p ∷ rest → PostIsRecord w h p
  recorded_high p rest e = All-head (PostIsRecord w h) p rest (subst (All (PostIsRecord w h)) e f.messages.high)

  pub recorded_normal : (p : Post) (rest : List Post) → w.ioc.normal ≡ p ∷ rest → PostIsRecord w h p
  recorded_normal p rest e = All-head (PostIsRecord w h) p rest (subst (All (PostIsRecord w h)) e f.messages.normal)

  named : (p : Post) → PostIsRecord w h p → 1 ≤ smid_in p.descriptor
  named p r = (named_post w h f p (smid_in p.descriptor) r).0

  -- ---- work steps

  pub high_works : (s : ℕ) (p : Post) (rest : List Post) → w.ioc.high ≡ p ∷ rest → working s (step.works_on (record w.ioc { high = rest }) p).part ≤ working s w.ioc
  high_works s p rest e = by_goes (work_goes s (record w.ioc { high = rest }) p (named p (recorded_high p rest e)))
    where
      by_goes : Rattle.law_targets.proofs.Working.Goes s (record w.ioc { high = rest }) p (named p (recorded_high p rest e)) (step.works_on (record w.ioc { high = rest }) p) → working s (step.works_on (record w.ioc { high = rest }) p).part ≤ working s w.ioc
      by_goes (inl l) = let a = by_same s w.ioc (record w.ioc { high = rest }) refl refl in omega (arith, l, a)
      by_goes (inr k) = high_is post.ScsiIo p rest e k.0 scsi_low

  pub normal_works : (s : ℕ) (p : Post) (rest : List Post) → w.ioc.normal ≡ p ∷ rest → working s (step.works_on (record w.ioc { normal = rest }) p).part ≤ working s w.ioc
  normal_works s p rest e = by_goes (work_goes s (record w.ioc { normal = rest }) p (named p (recorded_normal p rest e)))
    where
      same_request : (j : ℕ) → one_if (is_command (request_at (record w.ioc { normal = rest }) j)) ≡ one_if (is_command (request_at w.ioc j))
      same_request zero = refl
      same_request (suc j) = refl

      less : working s (record w.ioc { normal = rest }) + one_if (is_post_of s p) ≤ working s w.ioc
      less = let a = ap (queued_count s) e in let c = queued_count-cons s p rest in let g = same_request s in omega (arith, a, c, g)

      by_goes : Rattle.law_targets.proofs.Working.Goes s (record w.ioc { normal = rest }) p (named p (recorded_normal p rest e)) (step.works_on (record w.ioc { normal = rest }) p) → working s (step.works_on (record w.ioc { normal = rest }) p).part ≤ working s w.ioc
      by_goes (inl l) = let a = less in omega (arith, l, a)
      by_goes (inr k) = let a = less in let l = k.1 in omega (arith, l, a)

  -- ---- no more of a command is under way

  module _ (vectors : VectorsFit w) (n s : ℕ) (least : 1 ≤ s) (open_before : slot w.host s ≡ Open (request.Command n)) where
    OnUsed : World → List Entry → Type 0
    OnUsed v t = is_live v ≡ true → (m : ℕ) → slot v.host s ≡ Open (request.Command m) → (finmap.get v.host.cmds n ≡ None → ⊥) → used v s ≤ used w s

    put : (x : Down) (rest : List Down) → w.host.out ≡ x ∷ rest → used (record w { host = after_sent w.host x rest; down = w.down ++ x ∷ [] }) s ≤ used w s
    put x rest e =
        let line : (w.down ++ x ∷ []) ++ (after_sent w.host x rest).out ≡ w.down ++ w.host.out = append_assoc w.down (x ∷ []) (after_sent w.host x rest).out ∙ (ap (λ xs. w.down ++ x ∷ xs) (out_sent w.host x rest) ∙ ap (λ xs. w.down ++ xs) (sym e)) in
        let a = ap (post_count s) line in omega (arith, a)

    by_host : (x : Host) → post_count s x.out ≤ post_count s w.host.out → used (record w { host = x }) s ≤ used w s
    by_host x l = let a = post_count-append s w.down x.out in let c = post_count-append s w.down w.host.out in omega (arith, a, c, l)

    heard : (queue : ℕ) (x : Up) (rest : List Up) → up_on w queue ≡ x ∷ rest → is_live w ≡ true → (m : ℕ) → slot_of (hears_up w.host queue x).part.pool s ≡ Open (request.Command m)
        → (finmap.get (hears_up w.host queue x).part.cmds n ≡ None → ⊥) → used (record w { host = (hears_up w.host queue x).part }) s ≤ used w s
    heard queue x rest e l m o c =
        by_host (hears_up w.host queue x).part (host.takes_fewer w h f plain vectors s least (request.Command n) open_before queue x rest e l (request.Command m) o
        (λ d g page sense i k. c (subst (λ y. finmap.get (hears_up w.host queue y).part.cmds n ≡ None) (sym i) (host.answered_ends w.host queue d g page sense n (subst (λ j. slot w.host j ≡ Open (request.Command n)) k open_before)))))

    taken : (x : Down) (rest : List Down) → w.down ≡ x ∷ rest → is_live (record w { ioc = (adapter.takes_down w.ioc x).part; down = rest }) ≡ true → used (record w { ioc = (adapter.takes_down w.ioc x).part; down = rest }) s ≤ used w s
    taken x rest e l =
        let a = post_count-append s w.down w.host.out in let c = post_count-append s rest w.host.out in
        let d = ap (post_count s) e in let g = post_count-cons s x rest in
        let k = taken_working s w.ioc x f.doorbell.sound.waits f.clock.phase_table.whole l in
        omega (arith, a, c, d, g, k)

    highs : (p : Post) (rest : List Post) → w.ioc.high ≡ p ∷ rest → used (record w { ioc = (step.works_on (record w.ioc { high = rest }) p).part }) s ≤ used w s
    highs p rest e = let a = high_works s p rest e in omega (arith, a)

    normals : (p : Post) (rest : List Post) → w.ioc.normal ≡ p ∷ rest → used (record w { ioc = (step.works_on (record w.ioc { normal = rest }) p).part }) s ≤ used w s
    normals p rest e = let a = normal_works s p rest e in omega (arith, a)

    by_ioc : (x : Ioc) → working s x ≤ working s w.ioc → used (record w { ioc = x }) s ≤ used w s
    by_ioc x l = omega (arith, l)

    used_owes : OwesTold OnUsed w
    unfolding OnUsed
    used_owes =
        record {
          idles = λ c l m o k. omega arith;
          host_puts = λ x rest e l m o k. put x rest e;
          host_takes = λ queue x rest e y l m o k. heard queue x rest e l m o k;
          host_told = λ i c l m o k. by_host (host_told w.host i).part (host.told_fewer w h f plain vectors s least (request.Command n) open_before i (request.Command m) o);
          host_looks = λ e l m o k. by_host (looks w.host) (host.looks_fewer w h f plain vectors s least (request.Command n) open_before (request.Command m) o);
          host_stops = λ e l m o k. by_host (stops w.host) (host.stops_fewer w h f plain vectors s least (request.Command n) open_before (request.Command m) o);
          no_session = λ l m o k. omega arith;
          ioc_takes = λ x rest e l m o k. taken x rest e l;
          ioc_high = λ p rest e l m o k. highs p rest e;
          ioc_normal = λ p rest e l m o k. normals p rest e;
          ioc_puts_out = λ x rest e l m o k. by_ioc (record w.ioc { out = rest }) (by_same s w.ioc (record w.ioc { out = rest }) refl refl);
          ioc_takes_back = λ x rest e l m o k. by_ioc (adapter.takes_back w.ioc x).part (back_working s w.ioc x);
          ioc_puts = λ queue y rest z e u l m o k. by_ioc (adapter.up_sent_on w.ioc queue) (by_same s w.ioc (adapter.up_sent_on w.ioc queue) refl refl);
          fabric_takes = λ x rest e l m o k. omega arith;
          fabric_says = λ x rest e l m o k. omega arith;
          fabric_puts = λ x rest e l m o k. omega arith;
          fabric_runs = λ tag address e l m o k. omega arith;
          plugs = λ address expander phy t p l m o k. omega arith;
          unplugs = λ address t p l m o k. omega arith;
          calms = λ l m o k. omega arith;
        }

    pub used_before : (c : Case) → is_live (happens w c) ≡ true → (m : ℕ) → slot (happens w c).host s ≡ Open (request.Command m) → (finmap.get (happens w c).host.cmds n ≡ None → ⊥) → used (happens w c) s ≤ used w s
    unfolding OnUsed
    used_before c = kept_told OnUsed w plain used_owes c

  -- ---- what a handle is bound to stays

  module _ (g : ℕ) (handle : IsHandle g) (plug : Plug) (bound : h.serving.bound g ≡ Some plug)
      (other : (p : Post) (rest : List Post) → w.ioc.normal ≡ p ∷ rest → kind_in p.descriptor ≡ Some post.Default → function_of (function_in p.frame) ≡ Some function.UnitControl → (g == controlled_handle_in p.frame) ≡ false) where
    there : is_unbound (at w.ioc.bindings g) ≡ false
    there = by_binding (at w.ioc.bindings g) (subst (λ b. BindingIs b (h.serving.bound g)) (binding_is w.ioc g handle) (f.handles.each g handle).binds.served)
      where
        by_binding : (b : Binding) → BindingIs b (h.serving.bound g) → is_unbound b ≡ false
        by_binding binding.Unbound e = let z : None ≡ Some plug = sym e ∙ bound in absurd (cc)
        by_binding (binding.Present a p x y) e = refl
        by_binding (binding.Gone a) e = refl

    OnBound : World → List Entry → Type 0
    OnBound v t = is_live v ≡ true → EachEntry (KeepsBound g) t

    bound_owes : OwesTold OnBound w
    unfolding OnBound
    bound_owes =
        record {
          idles = λ c l. (tt, tt);
          host_puts = λ x rest e l. (tt, tt);
          host_takes = λ queue x rest e y l. (tt, quiet_keeps g (hears_up w.host queue x).entries (quiet_taken w.host queue x None));
          host_told = λ i c l. quiet_keeps g (host_told w.host i).entries (quiet (host_told w.host i).entries (told_input w.host i));
          host_looks = λ e l. tt;
          host_stops = λ e l. tt;
          no_session = λ l. tt;
          ioc_takes = λ x rest e l. (tt, taken_keeps g w.ioc x l);
          ioc_high = λ p rest e l. work_keeps g (record w.ioc { high = rest }) f.flights.sizes.bindings handle there p (λ k u. high_is post.Default p rest e k default_low);
          ioc_normal = λ p rest e l. work_keeps g (record w.ioc { normal = rest }) f.flights.sizes.bindings handle there p (λ k u. other p rest e k u);
          ioc_puts_out = λ x rest e l. (tt, tt);
          ioc_takes_back = λ x rest e l. (tt, back_keeps g w.ioc f.flights.sizes.bindings handle there x);
          ioc_puts = λ queue y rest z e u l. (tt, tt);
          fabric_takes = λ x rest e l. (tt, tt);
          fabric_says = λ x rest e l. tt;
          fabric_puts = λ x rest e l. (tt, tt);
          fabric_runs = λ tag address e l. (tt, tt);
          plugs = λ address expander phy t p l. plug_keeps g t p;
          unplugs = λ address t p l. plug_keeps g t p;
          calms = λ l. tt;
        }

    pub keeps_bound : (c : Case) → is_live (happens w c) ≡ true → EachEntry (KeepsBound g) (entries w c)
    unfolding OnBound
    keeps_bound c = kept_told OnBound w plain bound_owes c
