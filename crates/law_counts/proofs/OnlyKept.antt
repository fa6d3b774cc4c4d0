-- Each case keeps that nothing is known of identifiers that aren't of task management.
use Rattle.std.proofs.Common.{◌≡◌, ℕ, ◌<◌, ◌≤◌, ◌==◌, ◌⊎◌, inl, inr, Bool, true, false, if◌then◌else◌, List, [], ◌∷◌, None, refl, ap, sym, ◌∙◌, subst, arith}
use Rattle.std.specs.Prelude.{All}
use Rattle.std.proofs.lemmas.Bool.{eqb-true}
use Rattle.std.proofs.lemmas.List.Elements.{All-head}
use Rattle.smid_pool.specs.Pool.{Open}
use Rattle.mpt_trace.specs.declared.entry.Entry.{Entry}
use Rattle.mpt_trace.specs.declared.entry.Entry.TheVariants as entry
use Rattle.mpt_trace.specs.declared.item.Down.{Down}
use Rattle.mpt_trace.specs.declared.item.Down.TheVariants as downward
use Rattle.mpt_trace.specs.declared.item.Item.TheVariants as item
use Rattle.mpt_trace.specs.declared.lane.LaneName.TheVariants as lane
use Rattle.mpt_wire.specs.Machine.SoFar.{asks_target_reset}
use Rattle.mpt_wire.specs.Messages.Fields.{smid_in}
use Rattle.mpt_wire.specs.Paths.TerminationCounts.{HighPost, NoPost, high_next, opened_by}
use Rattle.mpt_wire.specs.Walks.Passes.{EachEntry, state_after}
use Rattle.mpt_rules.specs.declared.post.Post.{Post}
use Rattle.mpt_rules.specs.declared.request.Request.{Request}
use Rattle.mpt_rules.specs.declared.request.Request.TheVariants as request
use Rattle.mpt_rules.specs.Host.Takes.{hears_up}
use Rattle.mpt_rules.specs.Ioc.Steps as step
use Rattle.mpt_rules.specs.Ioc.Takes as adapter
use Rattle.mpt_rules.specs.Law.{NothingIsStrange}
use Rattle.mpt_rules.specs.World.Cases.{Case, entries}
use Rattle.mpt_rules.specs.World.Inputs.{host_told}
use Rattle.mpt_rules.specs.World.State.{World, up_lane}
use Rattle.law_facts.specs.Facts.{Facts}
use Rattle.law_facts.specs.History.{History, history_after}
use Rattle.law_facts.specs.Messages.{DownIsRecord}
use Rattle.law_facts.specs.Words.{slot}
use Rattle.law_flights.proofs.HostQuiet.{IsQuiet, quiet, quiet_taken}
use Rattle.law_flights.proofs.HostTold.{told_input}
use Rattle.law_flights.proofs.IocTold.{told_back, told_down, told_high, told_normal}
use Rattle.law_moves.proofs.CasesTold.{OwesTold, kept_told}
use Rattle.law_messages.proofs.Agreeing.{all_last}
use Rattle.law_messages.proofs.Known.{classed}
use Rattle.law_counts.specs.Counted.{KnowsHighAlone}
use Rattle.law_counts.proofs.Opens.{Posted, opened_for, posted, resets_a_target}
use Rattle.law_counts.proofs.Quiet.{quiet_plug}
use Rattle.law_counts.proofs.Rules.{IsNoPost, none_stays, quiet_no_posts, resets_stay}

-- it isn't of task management
abbrev Other : ℕ → Type 0
Other s = (s ≤ 256) ⊎ (265 ≤ s)

module _ (w : World) (h : History) (f : Facts w h) where
  OnCase : World → List Entry → Type 0
  OnCase v t = KnowsHighAlone (history_after h t)

  none_open : (s : ℕ) (t : List Entry) → EachEntry IsNoPost t → (g : HighPost) → g ≡ NoPost → state_after (high_next s) g t ≡ NoPost
  none_open s [] a g e = e
  none_open s (x ∷ t) a g e = none_open s t a.1 (high_next s g x) (ap (λ y. high_next s y x) e ∙ none_stays s x a.0)

  -- no post is put
  without : (v : World) (t : List Entry) → EachEntry IsNoPost t → OnCase v t
  unfolding OnCase
  without v t a s o = let k = f.paths.only_high s o in (ap (λ g. g s) (resets_stay h t a) ∙ k.0, none_open s t a (h.high s) k.1)

  -- a request that isn't of task management
  none_of : (s : ℕ) (r : Request) → slot w.host s ≡ Open r → Other s → (opened_for r ≡ NoPost) × (resets_a_target r ≡ false)
  none_of s (request.Command n) e o = (refl, refl)
  none_of s (request.Abort n task) e o = absurd (apart (classed w h f s (request.Abort n task) e) o)
    where
      apart : (256 < s) × (s ≤ 264) → Other s → ⊥
      apart c (inl l) = omega (arith, c, l)
      apart c (inr l) = omega (arith, c, l)
  none_of s (request.TargetReset address) e o = absurd (apart (classed w h f s (request.TargetReset address) e) o)
    where
      apart : (256 < s) × (s ≤ 264) → Other s → ⊥
      apart c (inl l) = omega (arith, c, l)
      apart c (inr l) = omega (arith, c, l)
  none_of s (request.Leave handle) e o = absurd (apart (classed w h f s (request.Leave handle) e) o)
    where
      apart : (256 < s) × (s ≤ 264) → Other s → ⊥
      apart c (inl l) = omega (arith, c, l)
      apart c (inr l) = omega (arith, c, l)
  none_of s (request.Page handle) e o = (refl, refl)
  none_of s (request.Remove handle) e o = (refl, refl)
  none_of s (request.Ack event context) e o = (refl, refl)
  none_of s request.Notification e o = (refl, refl)
  none_of s request.PortEnable e o = (refl, refl)

  post : (v : World) (d : ℕ) (g pl : List ℕ) → DownIsRecord w h (downward.Post d g pl) → OnCase v (entry.Put lane.Down (item.Down (downward.Post d g pl)) ∷ [])
  unfolding OnCase
  post v d g pl a s o = by_key (smid_in d == s) refl
    where
      p : Post
      p = record { descriptor = d; frame = g; payload = pl }

      is : Posted w h f p
      is = posted w h f p a

      k : (h.so_far.is_target_reset s ≡ false) × (h.high s ≡ NoPost)
      k = f.paths.only_high s o

      by_view : (b : Bool) → (s == smid_in d) ≡ b → (b ≡ true → asks_target_reset g ≡ false) → (if b then asks_target_reset g else h.so_far.is_target_reset s) ≡ false
      by_view true e x = x refl
      by_view false e x = k.0

      by_key : (b : Bool) → (smid_in d == s) ≡ b → ((if s == smid_in d then asks_target_reset g else h.so_far.is_target_reset s) ≡ false) × ((if smid_in d == s then opened_by d g else h.high s) ≡ NoPost)
      by_key true e =
          let z = eqb-true (smid_in d) s e in
          let n = none_of s is.asks (subst (λ j. slot w.host j ≡ Open is.asks) z is.opens) o in
          (by_view (s == smid_in d) refl (λ y. is.tells.resets ∙ n.1), ap (λ b. if b then opened_by d g else h.high s) e ∙ (is.tells.opens ∙ n.0))
      by_key false e = (by_view (s == smid_in d) refl (λ y. absurd (apart y)), ap (λ b. if b then opened_by d g else h.high s) e ∙ k.1)
        where
          apart : (s == smid_in d) ≡ true → ⊥
          apart y = let z : s ≡ smid_in d = eqb-true s (smid_in d) y in let q : (smid_in d == smid_in d) ≡ false = ap (λ j. smid_in d == j) (sym z) ∙ e in let r : (smid_in d == smid_in d) ≡ true = grind arith in let u : true ≡ false = sym r ∙ q in cc

  put : (v : World) (x : Down) (rest : List Down) → w.host.out ≡ x ∷ rest → OnCase v (entry.Put lane.Down (item.Down x) ∷ [])
  put v x rest e = by_item x (All-head (DownIsRecord w h) x rest (subst (All (DownIsRecord w h)) e (all_last (DownIsRecord w h) w.down w.host.out f.messages.down)))
    where
      by_item : (x : Down) → DownIsRecord w h x → OnCase v (entry.Put lane.Down (item.Down x) ∷ [])
      by_item (downward.Post d g pl) a = post v d g pl a
      by_item (downward.Write reg value) a = without v (entry.Put lane.Down (item.Down (downward.Write reg value)) ∷ []) (tt, tt)
      by_item (downward.Read reg) a = without v (entry.Put lane.Down (item.Down (downward.Read reg)) ∷ []) (tt, tt)
      by_item (downward.Return address index) a = without v (entry.Put lane.Down (item.Down (downward.Return address index)) ∷ []) (tt, tt)
      by_item downward.Stop a = without v (entry.Put lane.Down (item.Down downward.Stop) ∷ []) (tt, tt)

  silent : (v : World) (t : List Entry) → EachEntry IsQuiet t → OnCase v t
  silent v t a = without v t (quiet_no_posts t a)

  behind : (v : World) (e : Entry) (t : List Entry) → IsNoPost e → EachEntry IsQuiet t → OnCase v (e ∷ t)
  behind v e t a b = without v (e ∷ t) (a, quiet_no_posts t b)

  owes : OwesTold OnCase w
  owes =
      record {
        idles = λ c. silent _ (entry.Idle c ∷ []) (tt, tt);
        host_puts = λ x rest e. put _ x rest e;
        host_takes = λ queue x rest e y. behind _ (entry.Take (up_lane queue) (item.Up x)) (hears_up w.host queue x).entries tt (quiet_taken w.host queue x None);
        host_told = λ i c. silent _ (host_told w.host i).entries (quiet (host_told w.host i).entries (told_input w.host i));
        host_looks = λ e. silent _ [] tt;
        host_stops = λ e. silent _ [] tt;
        no_session = silent _ [] tt;
        ioc_takes = λ x rest e. behind _ (entry.Take lane.Down (item.Down x)) (adapter.takes_down w.ioc x).entries tt (quiet _ (told_down w.ioc x));
        ioc_high = λ p rest e. silent _ (step.works_on (record w.ioc { high = rest }) p).entries (quiet _ (told_high w.ioc (p ∷ rest)));
        ioc_normal = λ p rest e. silent _ (step.works_on (record w.ioc { normal = rest }) p).entries (quiet _ (told_normal w.ioc (p ∷ rest)));
        ioc_puts_out = λ x rest e. behind _ (entry.Put lane.Out (item.Out x)) [] tt tt;
        ioc_takes_back = λ x rest e. behind _ (entry.Take lane.Back (item.Back x)) (adapter.takes_back w.ioc x).entries tt (quiet _ (told_back w.ioc x));
        ioc_puts = λ queue y rest z e u. behind _ (entry.Put (up_lane queue) (item.Up z)) [] tt tt;
        fabric_takes = λ x rest e. behind _ (entry.Take lane.Out (item.Out x)) [] tt tt;
        fabric_says = λ x rest e. silent _ [] tt;
        fabric_puts = λ x rest e. behind _ (entry.Put lane.Back (item.Back x)) [] tt tt;
        fabric_runs = λ tag address e. silent _ (entry.Run address tag ∷ []) (tt, tt);
        plugs = λ address expander phy t p. silent _ t (quiet_plug t p);
        unplugs = λ address t p. silent _ t (quiet_plug t p);
        calms = silent _ [] tt;
      }

  pub only_kept : NothingIsStrange w → (c : Case) → KnowsHighAlone (history_after h (entries w c))
  unfolding OnCase
  only_kept plain c = kept_told OnCase w plain owes c
