-- Each case keeps what the view knows of target resets.
use Rattle.std.proofs.Common.{◌≡◌, ◌≢◌, ℕ, ◌+◌, ◌%◌, ◌≤◌, ◌==◌, not, Bool, true, false, if◌then◌else◌, List, [], ◌∷◌, ◌++◌, Option, Some, None, refl, ap, sym, ◌∙◌, subst, arith}
use Rattle.std.specs.Prelude.{All}
use Rattle.std.proofs.lemmas.Bool.{eqb-true}
use Rattle.std.proofs.lemmas.List.Elements.{All-head}
use Rattle.smid_pool.specs.Pool.{Slot, Free, Open, Parked, is_open, slot_of}
use Rattle.mpt_trace.specs.declared.entry.Entry.{Entry}
use Rattle.mpt_trace.specs.declared.entry.Entry.TheVariants as entry
use Rattle.mpt_trace.specs.declared.item.Down.{Down}
use Rattle.mpt_trace.specs.declared.item.Down.TheVariants as downward
use Rattle.mpt_trace.specs.declared.item.Item.TheVariants as item
use Rattle.mpt_trace.specs.declared.item.Up.{Up}
use Rattle.mpt_trace.specs.declared.input.Input.{Input}
use Rattle.mpt_trace.specs.declared.lane.LaneName.TheVariants as lane
use Rattle.mpt_wire.specs.Machine.SoFar.{asks_target_reset}
use Rattle.mpt_wire.specs.Messages.Fields.{smid_in}
use Rattle.mpt_wire.specs.Queues.Identifiers.{smid_stage}
use Rattle.mpt_wire.specs.Walks.Cycles.{CountAsks, count_next}
use Rattle.mpt_wire.specs.Walks.Passes.{EachEntry, Passes, state_after}
use Rattle.mpt_rules.specs.declared.post.Post.{Post}
use Rattle.mpt_rules.specs.declared.request.Request.{Request}
use Rattle.mpt_rules.specs.declared.request.Request.TheVariants as request
use Rattle.mpt_rules.specs.Host.Parts.{Host}
use Rattle.mpt_rules.specs.Host.Returns.{after_sent}
use Rattle.mpt_rules.specs.Host.Takes.{hears_up, looks, stops}
use Rattle.mpt_rules.specs.Ioc.Steps as step
use Rattle.mpt_rules.specs.Ioc.Takes as adapter
use Rattle.mpt_rules.specs.Law.{NothingIsStrange}
use Rattle.mpt_rules.specs.World.Cases.{Case, entries, happens}
use Rattle.mpt_rules.specs.World.Counts.{one_if, post_count}
use Rattle.mpt_rules.specs.World.Inputs.{host_told}
use Rattle.mpt_rules.specs.World.PlaceCounts.{smid_count}
use Rattle.mpt_rules.specs.World.Settings.{Setting, first_world}
use Rattle.mpt_rules.specs.World.State.{World, up_lane, up_on, with_up}
use Rattle.mpt_rules.proofs.Counts.{post_count-append}
use Rattle.law_facts.specs.Facts.{Facts}
use Rattle.law_facts.specs.History.{History, first_history, history_after}
use Rattle.law_facts.specs.Messages.{DownIsRecord}
use Rattle.law_facts.specs.Paths.{is_open_high}
use Rattle.law_facts.specs.Words.{is_abort_asked, slot}
use Rattle.law_flights.proofs.HostQuiet.{quiet, quiet_taken}
use Rattle.law_flights.proofs.HostTold.{told_input}
use Rattle.law_flights.proofs.IocTold.{told_back, told_down, told_high, told_normal}
use Rattle.law_flights.proofs.Standing.{Asks, next}
use Rattle.law_flights.proofs.Told.{IsTold}
use Rattle.law_moves.proofs.Cases.{IsHosts}
use Rattle.law_moves.proofs.CasesTold.{IsPlugWord, OwesTold, kept_told}
use Rattle.law_messages.proofs.Agreeing.{all_last, not_both, same}
use Rattle.law_messages.proofs.Known.{classed}
use Rattle.law_counts.proofs.Opens.{Posted, posted, resets_a_target}
use Rattle.law_counts.proofs.Quiet.{quiet_plug}
use Rattle.law_counts.proofs.Rules.{IsNoPost, quiet_no_posts, resets_stay}
use Rattle.law_paths.proofs.HostCases.{all_are_free}
use Rattle.law_places.specs.Further.{VectorsFit}
use Rattle.law_places.specs.Shown.{IsPlaced}
use Rattle.law_places.proofs.Kept.{placed_kept, turns_pass}
use Rattle.law_stopping.specs.Stopping.{ResetsKnown, TargetsKnown, TurnsKnown}
use Rattle.law_stopping.proofs.HostSlots.{Anew, Hears, Keeps, StaysOpen, item_slots, look_slots, stop_slots, told_slots}
use Rattle.law_stopping.proofs.Turns.{NotHeard, not_begun, not_heard, put_up, take_down, turn_told}

plug_told : (e : Entry) → IsPlugWord e → IsTold e
plug_told (entry.Given i) h = tt
plug_told (entry.Refuse call cause) h = tt
plug_told (entry.Put l i) h = absurd h
plug_told (entry.Take l i) h = absurd h
plug_told entry.ResetDone h = absurd h
plug_told _ h = tt

pub plugs_told : (t : List Entry) → EachEntry IsPlugWord t → EachEntry IsTold t
plugs_told [] h = tt
plugs_told (e ∷ t) h = (plug_told e h.0, plugs_told t h.1)

open_of : (x : Slot Request) → one_if (not (is_open x)) ≡ 0 → (r : Request) × (x ≡ Open r)
open_of (Open r) e = (r, refl)
open_of Free e = absurd (omega (arith, e))
open_of Parked e = absurd (omega (arith, e))

is_open_one : (x : Slot Request) → is_open_high x ≡ true → one_if (not (is_open x)) ≡ 0
is_open_one (Open r) e = refl
is_open_one Free e = absurd (cc)
is_open_one Parked e = absurd (cc)

-- an identifier whose turn isn't its first is open
pub open_by_turn : (w : World) (h : History) → Facts w h → (q : ℕ) → 1 ≤ q → q ≤ 280 → (h.turn q % 4 ≡ 0 → ⊥) → (r : Request) × (slot w.host q ≡ Open r)
open_by_turn w h f q l m n = open_of (slot w.host q) (by_count (one_if (not (is_open (slot w.host q)))) refl)
  where
    by_count : (k : ℕ) → one_if (not (is_open (slot w.host q))) ≡ k → k ≡ 0
    by_count Rattle.std.proofs.Common.zero e = refl
    by_count (Rattle.std.proofs.Common.suc k) e =
        let i = f.flights.identifiers q l m in let a = i.at_most in let c = post_count-append q w.down w.host.out in
        let t = i.turn (omega (arith, a, e)) in
        absurd (n (omega (arith, a, e, c, t)))

module _ (w : World) (h : History) (f : Facts w h) (known : TurnsKnown w h) where
  Known : World → History → ℕ → Type 0
  Known v k q = is_open_high (slot v.host q) ≡ true → (k.turn q % 4 ≡ 0 → ⊥) → k.so_far.is_target_reset q ≡ not (is_abort_asked (slot v.host q))

  OnCase : World → List Entry → Type 0
  OnCase v t = (q : ℕ) → 257 ≤ q → q ≤ 264 → Passes (next q) (Asks q) (h.turn q) t → Known v (history_after h t) q

  -- an identifier that has its slot, where no post is put
  as_was : (v : World) (t : List Entry) (q : ℕ) → 257 ≤ q → q ≤ 264 → EachEntry IsNoPost t → slot v.host q ≡ slot w.host q → ((history_after h t).turn q ≡ h.turn q) → Known v (history_after h t) q
  unfolding Known
  as_was v t q l m a e g o n =
      ap (λ y. y q) (resets_stay h t a) ∙ (known q l m (sym (ap is_open_high e) ∙ o) (λ z. n (ap (λ x. x % 4) g ∙ z)) ∙ ap (λ x. not (is_abort_asked x)) (sym e))

  told : (v : World) (t : List Entry) → EachEntry IsTold t → ((q : ℕ) → slot v.host q ≡ slot w.host q) → OnCase v t
  unfolding OnCase
  told v t a e q l m p = as_was v t q l m (quiet_no_posts t (quiet t a)) (e q) (turn_told q (h.turn q) t a)

  -- an entry that begins no turn
  behind : (v : World) (e : Entry) (t : List Entry) → IsNoPost e → ((q c : ℕ) → next q c e ≡ count_next c (smid_stage q e)) → ((q c : ℕ) → Asks q c e → CountAsks c (smid_stage q e)) → ((q : ℕ) → smid_stage q e ≡ Some 0 → ⊥)
      → EachEntry IsTold t → ((q : ℕ) → slot v.host q ≡ slot w.host q) → OnCase v (e ∷ t)
  unfolding OnCase Known
  behind v e t a nx way starts b s q l m p o n =
      ap (λ y. y q) (resets_stay h (e ∷ t) (a, quiet_no_posts t (quiet t b)))
      ∙ (known q l m (sym (ap is_open_high (s q)) ∙ o) (not_begun (h.turn q) (smid_stage q e) (way q (h.turn q) p.0) (starts q) (λ z. n (ap (λ x. x % 4) (turn_told q (next q (h.turn q) e) t b ∙ nx q (h.turn q)) ∙ z)))
      ∙ ap (λ x. not (is_abort_asked x)) (sym (s q)))

  -- ---- the host puts

  high_is : (q : ℕ) (r : Request) → slot w.host q ≡ Open r → 257 ≤ q → q ≤ 264 → resets_a_target r ≡ not (is_abort_asked (Open r))
  high_is q (request.Abort n task) e l m = refl
  high_is q (request.TargetReset address) e l m = refl
  high_is q (request.Leave handle) e l m = refl
  high_is q (request.Command n) e l m = let c = classed w h f q (request.Command n) e in absurd (omega (arith, c, l))
  high_is q (request.Page handle) e l m = let c = classed w h f q (request.Page handle) e in absurd (omega (arith, c, m))
  high_is q (request.Remove handle) e l m = let c = classed w h f q (request.Remove handle) e in absurd (omega (arith, c, m))
  high_is q (request.Ack event context) e l m = let c = classed w h f q (request.Ack event context) e in absurd (omega (arith, c, m))
  high_is q request.Notification e l m = let c = classed w h f q request.Notification e in absurd (omega (arith, c, m))
  high_is q request.PortEnable e l m = let c = classed w h f q request.PortEnable e in absurd (omega (arith, c, m))

  sent : (x : Down) (rest : List Down) (q : ℕ) → slot (after_sent w.host x rest) q ≡ slot w.host q
  sent (downward.Post d g p) rest q = refl
  sent (downward.Write reg value) rest q = refl
  sent (downward.Read reg) rest q = refl
  sent (downward.Return address index) rest q = refl
  sent downward.Stop rest q = refl

  post : (v : World) (d : ℕ) (g pl : List ℕ) → DownIsRecord w h (downward.Post d g pl) → ((q : ℕ) → slot v.host q ≡ slot w.host q) → OnCase v (entry.Put lane.Down (item.Down (downward.Post d g pl)) ∷ [])
  unfolding OnCase Known
  post v d g pl a s q l m p o n = by_key (smid_in d == q) refl
    where
      is : Posted w h f (record { descriptor = d; frame = g; payload = pl })
      is = posted w h f (record { descriptor = d; frame = g; payload = pl }) a

      turned : (b : Bool) → (smid_in d == q) ≡ b → (q == smid_in d) ≡ b
      turned true e = let z = eqb-true (smid_in d) q e in ap (λ j. q == j) z ∙ same q
      turned false e = by_test (q == smid_in d) refl
        where
          by_test : (b : Bool) → (q == smid_in d) ≡ b → b ≡ false
          by_test false z = refl
          by_test true z = not_both (smid_in d == q) e (ap (λ j. smid_in d == j) (eqb-true q (smid_in d) z) ∙ same (smid_in d))

      by_key : (b : Bool) → (smid_in d == q) ≡ b → (if q == smid_in d then asks_target_reset g else h.so_far.is_target_reset q) ≡ not (is_abort_asked (slot v.host q))
      by_key true e =
          let z : slot w.host q ≡ Open is.asks = subst (λ j. slot w.host j ≡ Open is.asks) (eqb-true (smid_in d) q e) is.opens in
          ap (λ b. if b then asks_target_reset g else h.so_far.is_target_reset q) (turned true e) ∙ (is.tells.resets ∙ (high_is q is.asks z l m ∙ ap (λ x. not (is_abort_asked x)) (sym (s q ∙ z))))
      by_key false e =
          ap (λ b. if b then asks_target_reset g else h.so_far.is_target_reset q) (turned false e)
          ∙ (known q l m (sym (ap is_open_high (s q)) ∙ o) (λ z. n (ap (λ b. count_next (h.turn q) (if b then Some 0 else None) % 4) e ∙ z)) ∙ ap (λ x. not (is_abort_asked x)) (sym (s q)))

  put : (x : Down) (rest : List Down) → w.host.out ≡ x ∷ rest → OnCase (record w { host = after_sent w.host x rest; down = w.down ++ x ∷ [] }) (entry.Put lane.Down (item.Down x) ∷ [])
  put x rest e = by_item x (sent x rest) (All-head (DownIsRecord w h) x rest (subst (All (DownIsRecord w h)) e (all_last (DownIsRecord w h) w.down w.host.out f.messages.down)))
    where
      by_item : (y : Down) → ((q : ℕ) → slot (after_sent w.host x rest) q ≡ slot w.host q) → DownIsRecord w h y → OnCase (record w { host = after_sent w.host x rest; down = w.down ++ x ∷ [] }) (entry.Put lane.Down (item.Down y) ∷ [])
      by_item (downward.Post d g pl) s a = post _ d g pl a s
      by_item (downward.Write reg value) s a = behind _ (entry.Put lane.Down (item.Down (downward.Write reg value))) [] tt (λ q c. refl) (λ q c z. z) (λ q z. absurd (cc)) tt s
      by_item (downward.Read reg) s a = behind _ (entry.Put lane.Down (item.Down (downward.Read reg))) [] tt (λ q c. refl) (λ q c z. z) (λ q z. absurd (cc)) tt s
      by_item (downward.Return address index) s a = behind _ (entry.Put lane.Down (item.Down (downward.Return address index))) [] tt (λ q c. refl) (λ q c z. z) (λ q z. absurd (cc)) tt s
      by_item downward.Stop s a = behind _ (entry.Put lane.Down (item.Down downward.Stop)) [] tt (λ q c. refl) (λ q c z. z) (λ q z. absurd (cc)) tt s

  -- ---- the host's calls

  stays : (v : World) (t : List Entry) → EachEntry IsTold t → StaysOpen w h f v.host → OnCase v t
  unfolding OnCase Known
  stays v t a s q l m p o n =
      let n0 = λ (z : h.turn q % 4 ≡ 0). n (ap (λ x. x % 4) (turn_told q (h.turn q) t a) ∙ z) in
      let r = open_by_turn w h f q (omega (arith, l)) (omega (arith, m)) n0 in
      as_was v t q l m (quiet_no_posts t (quiet t a)) (s q r.0 r.1 ∙ sym r.1) (turn_told q (h.turn q) t a) o n

  takes : (queue : ℕ) (x : Up) (rest : List Up) → up_on w queue ≡ x ∷ rest → OnCase (record (with_up w queue rest) { host = (hears_up w.host queue x).part }) (entry.Take (up_lane queue) (item.Up x) ∷ (hears_up w.host queue x).entries)
  unfolding OnCase Known
  takes queue x rest e q l m p o n = by_slots (item_slots w h f queue x rest e)
    where
      k : NotHeard q (h.turn q) x (hears_up w.host queue x).entries
      k = not_heard q (h.turn q) (omega (arith, l)) w.host queue x p.0 n

      n0 : h.turn q % 4 ≡ 0 → ⊥
      n0 z = n (ap (λ y. y % 4) k.stays ∙ z)

      by_slots : Hears w h f (hears_up w.host queue x).part x → (history_after h (entry.Take (up_lane queue) (item.Up x) ∷ (hears_up w.host queue x).entries)).so_far.is_target_reset q ≡ not (is_abort_asked (slot (hears_up w.host queue x).part q))
      by_slots (Keeps s) =
          let r = open_by_turn w h f q (omega (arith, l)) (omega (arith, m)) n0 in
          as_was (record (with_up w queue rest) { host = (hears_up w.host queue x).part }) (entry.Take (up_lane queue) (item.Up x) ∷ (hears_up w.host queue x).entries) q l m
          (tt, quiet_no_posts (hears_up w.host queue x).entries (quiet_taken w.host queue x None)) (s q r.0 k.other r.1 ∙ sym r.1) k.stays o n
      by_slots (Anew z) = let y : slot (hears_up w.host queue x).part q ≡ Free = ap (λ p. slot_of p q) z ∙ all_are_free q in absurd (closed (slot (hears_up w.host queue x).part q) y o)
        where
          closed : (y : Slot Request) → y ≡ Free → is_open_high y ≡ true → ⊥
          closed y z o = let a : false ≡ true = sym (ap is_open_high z) ∙ o in cc

  -- ---- each case

  here : (v : World) (t : List Entry) → EachEntry IsTold t → v.host ≡ w.host → OnCase v t
  here v t a e = told v t a (λ q. ap (λ x. slot x q) e)

  owes : OwesTold OnCase w
  owes =
      record {
        idles = λ c. told _ (entry.Idle c ∷ []) (tt, tt) (λ q. refl);
        host_puts = put;
        host_takes = λ queue x rest e y. takes queue x rest e;
        host_told = λ i c. stays (record w { host = (host_told w.host i).part }) (host_told w.host i).entries (told_input w.host i) (told_slots w h f i c);
        host_looks = λ e. stays (record w { host = looks w.host }) [] tt (look_slots w h f);
        host_stops = λ e. stays (record w { host = stops w.host }) [] tt (stop_slots w h f);
        no_session = told _ [] tt (λ q. refl);
        ioc_takes = λ x rest e. behind _ (entry.Take lane.Down (item.Down x)) (adapter.takes_down w.ioc x).entries tt (λ q c. refl) (λ q c z. z) (λ q. take_down q x) (told_down w.ioc x) (λ q. refl);
        ioc_high = λ p rest e. told _ (step.works_on (record w.ioc { high = rest }) p).entries (told_high w.ioc (p ∷ rest)) (λ q. refl);
        ioc_normal = λ p rest e. told _ (step.works_on (record w.ioc { normal = rest }) p).entries (told_normal w.ioc (p ∷ rest)) (λ q. refl);
        ioc_puts_out = λ x rest e. behind _ (entry.Put lane.Out (item.Out x)) [] tt (λ q c. refl) (λ q c z. z) (λ q z. absurd (cc)) tt (λ q. refl);
        ioc_takes_back = λ x rest e. behind _ (entry.Take lane.Back (item.Back x)) (adapter.takes_back w.ioc x).entries tt (λ q c. refl) (λ q c z. z) (λ q z. absurd (cc)) (told_back w.ioc x) (λ q. refl);
        ioc_puts = λ queue y rest z e u. behind _ (entry.Put (up_lane queue) (item.Up z)) [] tt (λ q c. refl) (λ q c z. z) (λ q. put_up q z) tt (λ q. refl);
        fabric_takes = λ x rest e. behind _ (entry.Take lane.Out (item.Out x)) [] tt (λ q c. refl) (λ q c z. z) (λ q z. absurd (cc)) tt (λ q. refl);
        fabric_says = λ x rest e. told _ [] tt (λ q. refl);
        fabric_puts = λ x rest e. behind _ (entry.Put lane.Back (item.Back x)) [] tt (λ q c. refl) (λ q c z. z) (λ q z. absurd (cc)) tt (λ q. refl);
        fabric_runs = λ tag address e. told _ (entry.Run address tag ∷ []) (tt, tt) (λ q. refl);
        plugs = λ address expander phy t p. told _ t (plugs_told t p) (λ q. refl);
        unplugs = λ address t p. told _ t (plugs_told t p) (λ q. refl);
        calms = told _ [] tt (λ q. refl);
      }

  module _ (plain : NothingIsStrange w) (vectors : VectorsFit w) (c : Case) where
    turns_known : TurnsKnown (happens w c) (history_after h (entries w c))
    unfolding OnCase Known
    turns_known q l m o n = kept_told OnCase w plain owes c q l m (turns_pass w h f plain vectors c q (omega (arith, l)) (omega (arith, m))) o n

    pub targets_known : TargetsKnown (happens w c) (history_after h (entries w c))
    targets_known = record { resets = resets; further = turns_known }
      where
        resets : ResetsKnown (happens w c) (history_after h (entries w c))
        resets q l m s z o = turns_known q l m o (λ t.
            let i = placed_kept w h f plain vectors c q (omega (arith, l)) (omega (arith, m)) in
            let a = i.at_most in let y = i.turn (omega (arith, a, s)) in let u = is_open_one (slot (happens w c).host q) o in
            let b = post_count-append q (happens w c).down (happens w c).host.out in
            omega (arith, t, y, u, s, z, b))

pub targets_at_first : (s : Setting) → TurnsKnown (first_world s) (first_history s.disks)
targets_at_first s q l m o n = absurd (n refl)
