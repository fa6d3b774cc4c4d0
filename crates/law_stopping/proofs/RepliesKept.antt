-- Each case keeps what is known of a command to which no reply was put: that it has a task exactly where its path says so, and that nothing was said of it.
use Rattle.std.proofs.Common.{◌≡◌, ◌≢◌, ℕ, ◌+◌, ◌-◌, ◌<◌, ◌≤◌, ◌==◌, ◌&&◌, nat_le, Bool, true, false, cond, if◌then◌else◌, List, [], ◌∷◌, ◌++◌, get_or, length, slice_get, Option, Some, None, refl, ap, sym, ◌∙◌, subst, arith}
use Rattle.std.specs.FinMap as finmap
use Rattle.std.specs.List.{sum_by}
use Rattle.std.proofs.lemmas.Bool.{eqb-true}
use Rattle.smid_pool.specs.Pool.{Slot, Free, Open, Parked, record_of, slot_of}
use Rattle.mpt_trace.specs.declared.command_form.CommandForm.{CommandForm}
use Rattle.mpt_trace.specs.declared.entry.Entry.{Entry}
use Rattle.mpt_trace.specs.declared.entry.Entry.TheVariants as entry
use Rattle.mpt_trace.specs.declared.input.Input.{Input}
use Rattle.mpt_trace.specs.declared.input.Input.TheVariants as input
use Rattle.mpt_trace.specs.declared.item.Down.{Down}
use Rattle.mpt_trace.specs.declared.item.Down.TheVariants as downward
use Rattle.mpt_trace.specs.declared.item.Item.TheVariants as item
use Rattle.mpt_trace.specs.declared.item.Out.{Out}
use Rattle.mpt_trace.specs.declared.item.Up.{Up}
use Rattle.mpt_trace.specs.declared.item.Up.TheVariants as upward
use Rattle.mpt_trace.specs.declared.lane.LaneName.TheVariants as lane
use Rattle.mpt_wire.specs.Messages.Fields.{smid_in}
use Rattle.mpt_wire.specs.Messages.Naming.{names_command}
use Rattle.mpt_wire.specs.Paths.Stages.{WalkAsks, walk_next}
use Rattle.mpt_wire.specs.Paths.Stops.{stopping_next}
use Rattle.mpt_wire.specs.Walks.Passes.{EachEntry, Passes, state_after}
use Rattle.mpt_rules.specs.declared.request.Request.{Request}
use Rattle.mpt_rules.specs.declared.request.Request.TheVariants as request
use Rattle.mpt_rules.specs.declared.said.Said.{Said}
use Rattle.mpt_rules.specs.Host.Parts.{Host}
use Rattle.mpt_rules.specs.Host.Replies as replies
use Rattle.mpt_rules.specs.Host.Returns as returns
use Rattle.mpt_rules.specs.Host.Returns.{after_sent}
use Rattle.mpt_rules.specs.Host.Takes.{hears_up, looks, stops}
use Rattle.mpt_rules.specs.Ioc.Places.{is_reply_of}
use Rattle.mpt_rules.specs.Ioc.Replies.{outbox_of}
use Rattle.mpt_rules.specs.Ioc.Sending.{up_of}
use Rattle.mpt_rules.specs.Ioc.Steps as step
use Rattle.mpt_rules.specs.Ioc.Takes as adapter
use Rattle.mpt_rules.specs.Law.{NothingIsStrange}
use Rattle.mpt_rules.specs.World.Cases.{Case, entries, happens}
use Rattle.mpt_rules.specs.World.Inputs.{host_told}
use Rattle.mpt_rules.specs.World.Lines.{said_of}
use Rattle.mpt_rules.specs.World.PlaceCounts.{replies_on}
use Rattle.mpt_rules.specs.World.State.{World, up_lane, up_on, with_up}
use Rattle.law_facts.specs.Facts.{Facts}
use Rattle.law_facts.specs.Flights.{Flights}
use Rattle.law_facts.specs.History.{History, history_after}
use Rattle.law_facts.specs.Paths.{has_task, replies_put, stage_of}
use Rattle.law_facts.specs.Words.{is_command_asked, slot}
use Rattle.law_flights.proofs.HostHolds.{slot_of-set}
use Rattle.law_flights.proofs.HostQuiet.{IsQuiet, quiet, quiet_taken}
use Rattle.law_flights.proofs.HostTold.{told_input}
use Rattle.law_flights.proofs.IocTold.{told_back, told_down, told_high, told_normal}
use Rattle.law_moves.proofs.CasesTold.{IsPlugWord, OwesTold, kept_told}
use Rattle.law_messages.proofs.Agreeing.{not_both, same, turned_true}
use Rattle.law_messages.proofs.Known.{classed, inside}
use Rattle.law_messages.proofs.Leads.{Accepted, Accepts, Ends, Goes, Leads}
use Rattle.law_messages.proofs.Shown.{leads}
use Rattle.law_counts.proofs.Quiet.{quiet_plug}
use Rattle.law_paths.specs.Paths.{FurtherPaths}
use Rattle.law_paths.proofs.Alone.{followed}
use Rattle.law_paths.proofs.HostCases.{all_are_free}
use Rattle.law_paths.proofs.Moves.{asked_is}
use Rattle.law_paths.proofs.WalksPass.{walks_pass}
use Rattle.law_returns.proofs.Whole.{flights_kept}
use Rattle.law_stopping.specs.Stopping.{RepliesAwaited}
use Rattle.law_stopping.proofs.HostSlots.{reply_of}
use Rattle.law_stopping.proofs.LaneSums.{lane_gains, lane_taken, lanes_grow, there_is}
use Rattle.law_stopping.proofs.LifeSteps.{IsCalm, LifeOf, accept_step, all_calm, back_calm, calm_all, down_calm, out_step, take_calm, up_calm}

-- ---- a reply frees the command's identifier, or parks it

frame_pool : (k : Host) (d : ℕ) (g : Option (List ℕ)) → (replies.with_frame_heard k d g).pool ≡ k.pool
frame_pool k d None = refl
frame_pool k d (Some g) = by_bool k.returning
  where
    by_bool : (b : Bool) → (if b then returns.with_return k (returns.frame_of (Rattle.mpt_wire.specs.Messages.Fields.frame_address_in d)) else returns.keeps k (returns.frame_of (Rattle.mpt_wire.specs.Messages.Fields.frame_address_in d))).pool ≡ k.pool
    by_bool true = refl
    by_bool false = refl

not_asked : (o : Option ℕ) → is_command_asked (replies.slot_after o) ≡ false
not_asked None = refl
not_asked (Some a) = refl

abbrev entry_taken : Host → ℕ → ℕ → Option (List ℕ) → Host
entry_taken k queue d g = replies.takes_entry (replies.with_frame_heard k d g) queue

module _ (w : World) (h : History) (f : Facts w h) where
  answered_by : (queue d : ℕ) (g : Option (List ℕ)) (page sense : List ℕ) (n : ℕ) → slot w.host (smid_in d) ≡ Open (request.Command n) → is_command_asked (slot (hears_up w.host queue (upward.Reply d g page sense)).part (smid_in d)) ≡ false
  answered_by queue d g page sense n e =
      subst (λ x. is_command_asked (slot (replies.hears_reply_to (entry_taken w.host queue d g) (smid_in d) (record_of x) (replies.heard_of d g page sense)).part (smid_in d)) ≡ false) (sym e)
      (ap is_command_asked (slot_of-set (entry_taken w.host queue d g).pool (smid_in d) (smid_in d) (replies.slot_after (finmap.get (entry_taken w.host queue d g).aborts n)) (inside w h f (smid_in d) (request.Command n) e).0 short)
      ∙ (ap (λ b. is_command_asked (cond b (replies.slot_after (finmap.get (entry_taken w.host queue d g).aborts n)) (slot_of (entry_taken w.host queue d g).pool (smid_in d)))) (same (smid_in d)) ∙ not_asked (finmap.get (entry_taken w.host queue d g).aborts n)))
    where
      short : smid_in d - 1 < length (replies.with_frame_heard w.host d g).pool
      short = let i = inside w h f (smid_in d) (request.Command n) e in let a = ap length (frame_pool w.host d g) in let t = f.flights.sizes.pool in omega (arith, i, a, t)

  answered : (queue : ℕ) (x : Up) (s n : ℕ) → is_reply_of s (said_of x) ≡ true → slot w.host s ≡ Open (request.Command n) → is_command_asked (slot (hears_up w.host queue x).part s) ≡ false
  answered queue (upward.Reply d g page sense) s n t e =
      let z = eqb-true (smid_in d) s (sym (reply_of s d g page sense) ∙ t) in
      subst (λ j. is_command_asked (slot (hears_up w.host queue (upward.Reply d g page sense)).part j) ≡ false) z (answered_by queue d g page sense n (subst (λ j. slot w.host j ≡ Open (request.Command n)) (sym z) e))
  answered queue (upward.Value value) s n t e = absurd (cc)
  answered queue (upward.Mark generation) s n t e = absurd (cc)
  answered queue upward.Calm s n t e = absurd (cc)

  -- ---- each case

  here : (s n : ℕ) → slot w.host s ≡ Open (request.Command n) → replies_put w s ≡ 0 → LifeOf (h.stopping s) (h.walk s)
  here s n e z =
      let c = classed w h f s (request.Command n) e in let c0 = c.0 in let c1 = c.1 in
      let st = f.paths.stops s (omega (arith, c0)) (omega (arith, c1)) in let r = st.replied (ap is_command_asked e) z in
      record { tasked = st.tasked (ap is_command_asked e) z; stopped = r.0; other = r.1 }

  OnCase : World → List Entry → Type 0
  OnCase v t = Leads w h v.host (history_after h t) → Flights v (history_after h t) → (s n : ℕ) → Passes (walk_next s) (WalkAsks s) (h.walk s) t → slot v.host s ≡ Open (request.Command n) → replies_put v s ≡ 0
      → LifeOf ((history_after h t).stopping s) ((history_after h t).walk s)

  -- the host has its slots still
  calmly : (v : World) (t : List Entry) → ((s : ℕ) → EachEntry (IsCalm s) t) → ((s : ℕ) → slot v.host s ≡ slot w.host s) → ((s : ℕ) → replies_put v s ≡ 0 → replies_put w s ≡ 0) → OnCase v t
  unfolding OnCase
  calmly v t c q r l z s n p e o = calm_all s (h.stopping s) (h.walk s) t (c s) p (here s n (sym (q s) ∙ e) (r s o))

  silent : (v : World) (t : List Entry) → EachEntry IsQuiet t → ((s : ℕ) → slot v.host s ≡ slot w.host s) → ((s : ℕ) → replies_put v s ≡ replies_put w s) → OnCase v t
  silent v t a q r = calmly v t (λ s. all_calm s t a) q (λ s o. sym (r s) ∙ o)

  behind : (v : World) (e : Entry) (t : List Entry) → ((s : ℕ) → IsCalm s e) → EachEntry IsQuiet t → ((s : ℕ) → slot v.host s ≡ slot w.host s) → ((s : ℕ) → replies_put v s ≡ replies_put w s) → OnCase v (e ∷ t)
  behind v e t c a q r = calmly v (e ∷ t) (λ s. (c s, all_calm s t a)) q (λ s o. sym (r s) ∙ o)

  -- the host's calls
  hosted : (v : World) (t : List Entry) → ((s : ℕ) → EachEntry (IsCalm s) t) → ((s n : ℕ) → slot w.host s ≡ Open (request.Command n) → slot v.host s ≡ Open (request.Command n) → replies_put v s ≡ 0 → replies_put w s ≡ 0) → OnCase v t
  unfolding OnCase
  hosted v t c r l z s n p e o = by_leads l
    where
      was : slot w.host s ≡ Open (request.Command n) → LifeOf ((history_after h t).stopping s) ((history_after h t).walk s)
      was a = calm_all s (h.stopping s) (h.walk s) t (c s) p (here s n a (r s n a e o))

      by_leads : Leads w h v.host (history_after h t) → LifeOf ((history_after h t).stopping s) ((history_after h t).walk s)
      by_leads (Goes hand a fo) = was (followed w h f v (history_after h t) z hand fo s n e).0
      by_leads (Ends i q g u y) = let b : Free ≡ Open (request.Command n) = sym (ap (λ x. slot_of x s) q ∙ all_are_free s) ∙ e in absurd (cc)
      by_leads (Accepts m a q handle plug form y) = by_key (s == q) refl
        where
          at : slot v.host s ≡ cond (s == q) (Open (request.Command m)) (slot w.host s)
          at = ap (λ x. slot x s) y.host ∙ (let i = y.least.inside in let k = f.flights.sizes.pool in slot_of-set w.host.pool q s (Open (request.Command m)) (omega (arith, i)) (omega (arith, i, k)))

          by_key : (b : Bool) → (s == q) ≡ b → LifeOf ((history_after h t).stopping s) ((history_after h t).walk s)
          by_key false g = was (sym (at ∙ ap (λ b. cond b (Open (request.Command m)) (slot w.host s)) g) ∙ e)
          by_key true g =
              subst (λ k. LifeOf (k.stopping s) (k.walk s)) (sym y.told)
              (accept_step s (stopping_next s (h.stopping s) (entry.Given (input.Submit m a form))) (walk_next s (h.walk s) (entry.Given (input.Submit m a form))) (entry.Accept m a q) (turned_true s q g))

  takes : (queue : ℕ) (x : Up) (rest : List Up) → up_on w queue ≡ x ∷ rest → OnCase (record (with_up w queue rest) { host = (hears_up w.host queue x).part }) (entry.Take (up_lane queue) (item.Up x) ∷ (hears_up w.host queue x).entries)
  takes queue x rest e =
      hosted (record (with_up w queue rest) { host = (hears_up w.host queue x).part }) (entry.Take (up_lane queue) (item.Up x) ∷ (hears_up w.host queue x).entries)
      (λ s. (take_calm s (up_lane queue) (item.Up x), all_calm s (hears_up w.host queue x).entries (quiet_taken w.host queue x None))) unread
    where
      unread : (s n : ℕ) → slot w.host s ≡ Open (request.Command n) → slot (hears_up w.host queue x).part s ≡ Open (request.Command n) → replies_put (with_up w queue rest) s ≡ 0 → replies_put w s ≡ 0
      unread s n a b o = by_key (is_reply_of s (said_of x)) refl
        where
          by_key : (c : Bool) → is_reply_of s (said_of x) ≡ c → replies_put w s ≡ 0
          by_key false t = lane_taken s w.up queue x rest e t ∙ o
          by_key true t = not_both (is_command_asked (slot (hears_up w.host queue x).part s)) (answered queue x s n t a) (ap is_command_asked b)

  puts_out : (x : Out) (rest : List Out) → OnCase (record w { ioc = record w.ioc { out = rest }; out = w.out ++ x ∷ [] }) (entry.Put lane.Out (item.Out x) ∷ [])
  unfolding OnCase
  puts_out x rest l z s n p e o = out_step s lane.Out x (h.stopping s) (h.walk s) p.0 (here s n e o)

  named_is : (s d : ℕ) (b : Bool) → names_command s d ≡ b → (b ≡ true → (smid_in d == s) ≡ true)
  named_is s d b e t = by_tests (nat_le 1 s) (nat_le s 256) (smid_in d == s) (e ∙ t)
    where
      by_tests : (x y z : Bool) → (x && y && z) ≡ true → z ≡ true
      by_tests true true z t = t
      by_tests true false z t = absurd (cc)
      by_tests false y z t = absurd (cc)

  puts_up : (queue : ℕ) (y : Said) (rest : List Said) (z : Up) → outbox_of w.ioc queue ≡ y ∷ rest → OnCase (with_up (record w { ioc = adapter.up_sent_on w.ioc queue }) queue (up_on w queue ++ z ∷ [])) (entry.Put (up_lane queue) (item.Up z) ∷ [])
  unfolding OnCase
  puts_up queue y rest z e l fl s n p a o = calm_all s (h.stopping s) (h.walk s) (entry.Put (up_lane queue) (item.Up z) ∷ []) (up_calm s (up_lane queue) z unnamed, tt) p (here s n a (let g = lanes_grow s w.up queue (z ∷ []) in omega (arith, g, o)))
    where
      short : queue < length w.up
      short = let c = there_is w.ioc.up queue y rest e in let i = f.flights.sizes.outboxes in let k = f.flights.sizes.lanes in omega (arith, c, i, k)

      unnamed : (d : ℕ) (g : Option (List ℕ)) (page sense : List ℕ) → z ≡ upward.Reply d g page sense → names_command s d ≡ false
      unnamed d g page sense q = by_key (names_command s d) refl
        where
          by_key : (b : Bool) → names_command s d ≡ b → b ≡ false
          by_key false t = refl
          by_key true t =
              let c : is_reply_of s (said_of z) ≡ true = ap (λ x. is_reply_of s (said_of x)) q ∙ (reply_of s d g page sense ∙ named_is s d true t refl) in
              let m = lane_gains s w.up queue z short c in absurd (omega (arith, m, o))

  sent : (x : Down) (rest : List Down) (s : ℕ) → slot (after_sent w.host x rest) s ≡ slot w.host s
  sent (downward.Post d g p) rest s = refl
  sent (downward.Write reg value) rest s = refl
  sent (downward.Read reg) rest s = refl
  sent (downward.Return address index) rest s = refl
  sent downward.Stop rest s = refl

  owes : OwesTold OnCase w
  owes =
      record {
        idles = λ c. silent _ (entry.Idle c ∷ []) (tt, tt) (λ s. refl) (λ s. refl);
        host_puts = λ x rest e. behind (record w { host = after_sent w.host x rest; down = w.down ++ x ∷ [] }) (entry.Put lane.Down (item.Down x)) [] (λ s. down_calm s lane.Down x) tt (sent x rest) (λ s. refl);
        host_takes = λ queue x rest e y. takes queue x rest e;
        host_told = λ i c. hosted (record w { host = (host_told w.host i).part }) (host_told w.host i).entries (λ s. all_calm s (host_told w.host i).entries (quiet (host_told w.host i).entries (told_input w.host i))) (λ s n a b o. o);
        host_looks = λ e. hosted (record w { host = looks w.host }) [] (λ s. tt) (λ s n a b o. o);
        host_stops = λ e. hosted (record w { host = stops w.host }) [] (λ s. tt) (λ s n a b o. o);
        no_session = silent _ [] tt (λ s. refl) (λ s. refl);
        ioc_takes = λ x rest e. behind _ (entry.Take lane.Down (item.Down x)) (adapter.takes_down w.ioc x).entries (λ s. take_calm s lane.Down (item.Down x)) (quiet _ (told_down w.ioc x)) (λ s. refl) (λ s. refl);
        ioc_high = λ p rest e. silent _ (step.works_on (record w.ioc { high = rest }) p).entries (quiet _ (told_high w.ioc (p ∷ rest))) (λ s. refl) (λ s. refl);
        ioc_normal = λ p rest e. silent _ (step.works_on (record w.ioc { normal = rest }) p).entries (quiet _ (told_normal w.ioc (p ∷ rest))) (λ s. refl) (λ s. refl);
        ioc_puts_out = λ x rest e. puts_out x rest;
        ioc_takes_back = λ x rest e. behind _ (entry.Take lane.Back (item.Back x)) (adapter.takes_back w.ioc x).entries (λ s. take_calm s lane.Back (item.Back x)) (quiet _ (told_back w.ioc x)) (λ s. refl) (λ s. refl);
        ioc_puts = λ queue y rest z e u. puts_up queue y rest z e;
        fabric_takes = λ x rest e. behind _ (entry.Take lane.Out (item.Out x)) [] (λ s. take_calm s lane.Out (item.Out x)) tt (λ s. refl) (λ s. refl);
        fabric_says = λ x rest e. silent _ [] tt (λ s. refl) (λ s. refl);
        fabric_puts = λ x rest e. behind _ (entry.Put lane.Back (item.Back x)) [] (λ s. back_calm s lane.Back x) tt (λ s. refl) (λ s. refl);
        fabric_runs = λ tag address e. silent _ (entry.Run address tag ∷ []) (tt, tt) (λ s. refl) (λ s. refl);
        plugs = λ address expander phy t p. silent _ t (quiet_plug t p) (λ s. refl) (λ s. refl);
        unplugs = λ address t p. silent _ t (quiet_plug t p) (λ s. refl) (λ s. refl);
        calms = silent _ [] tt (λ s. refl) (λ s. refl);
      }

  module _ (plain : NothingIsStrange w) (more : FurtherPaths w h) (c : Case) where
    kept : (s n : ℕ) → slot (happens w c).host s ≡ Open (request.Command n) → replies_put (happens w c) s ≡ 0 → LifeOf ((history_after h (entries w c)).stopping s) ((history_after h (entries w c)).walk s)
    unfolding OnCase
    kept s n e o = kept_told OnCase w plain owes c (leads w h c f plain more.flights.aborts) (flights_kept w h c f plain more.flights) s n (walks_pass w h f more.tags more.outcomes plain c s) e o

    pub replies_kept : RepliesAwaited (happens w c) (history_after h (entries w c))
    replies_kept =
        record {
          tasked = λ s e o. let a = asked_is (slot (happens w c).host s) e in (kept s a.0 a.1 o).tasked;
          replied = λ s e o. let a = asked_is (slot (happens w c).host s) e in let k = kept s a.0 a.1 o in (k.stopped, k.other);
        }
