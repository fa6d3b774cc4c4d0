-- Each case keeps that the rule of the reply free ring has the controller's ring, and each reply takes the frame that waits longest.
use Rattle.std.proofs.Common.{◌≡◌, ℕ, zero, suc, ◌<◌, ◌==◌, ◌||◌, not, Bool, true, false, if◌then◌else◌, List, [], ◌∷◌, ◌++◌, drop, map, slice_get, Some, None, refl, ap, sym, ◌∙◌, subst, arith}
use Rattle.std.specs.Bool.{MatchBool}
use Rattle.std.specs.List.{list_any}
use Rattle.mpi_doorbell.specs.DoorRegisters.{register_written}
use Rattle.mpi_doorbell.specs.declared.effect.Effect.{Effect}
use Rattle.mpi_doorbell.specs.declared.effect.Effect.TheVariants as effect
use Rattle.mpt_wire.specs.Messages.Fields.{address_descriptor, address_flags, flags_in, frame_address_in, reply_frame_address, success_descriptor}
use Rattle.mpt_wire.specs.Messages.Registers.{RingAsks, ring_next}
use Rattle.mpt_wire.specs.Queues.Lanes.{IsFirst}
use Rattle.mpt_wire.specs.Walks.Passes.{EachEntry, Passes, state_after}
use Rattle.mpt_trace.specs.declared.entry.Entry.{Entry}
use Rattle.mpt_trace.specs.declared.entry.Entry.TheVariants as entry
use Rattle.mpt_trace.specs.declared.item.Down.{Down}
use Rattle.mpt_trace.specs.declared.item.Down.TheVariants as down
use Rattle.mpt_trace.specs.declared.item.Item.TheVariants as item
use Rattle.mpt_trace.specs.declared.item.Up.{Up}
use Rattle.mpt_trace.specs.declared.item.Up.TheVariants as up
use Rattle.mpt_trace.specs.declared.lane.LaneName.TheVariants as lane
use Rattle.mpt_rules.specs.declared.said.Said.{Said}
use Rattle.mpt_rules.specs.declared.said.Said.TheVariants as said
use Rattle.mpt_rules.specs.Ioc.Parts.{Ioc, state_of}
use Rattle.mpt_rules.specs.Ioc.Posts as posts
use Rattle.mpt_rules.specs.Ioc.Registers.{after_effect}
use Rattle.mpt_rules.specs.Ioc.Replies.{outbox_of}
use Rattle.mpt_rules.specs.Ioc.Sending.{framed_up, needs_frame, up_of, up_sent_on}
use Rattle.mpt_rules.specs.Ioc.Steps as step
use Rattle.mpt_rules.specs.Ioc.Tables as table
use Rattle.mpt_rules.specs.Ioc.Takes as adapter
use Rattle.mpt_rules.specs.Host.Returns.{frame_of}
use Rattle.mpt_rules.specs.Law.{NothingIsStrange}
use Rattle.mpt_rules.specs.World.Cases.{Case, entries, happens}
use Rattle.mpt_rules.specs.World.Counts.{how_many, one_if}
use Rattle.mpt_rules.specs.World.PlaceCounts.{is_this_number}
use Rattle.mpt_rules.specs.World.Places.{is_return_of}
use Rattle.mpt_rules.specs.World.State.{World, up_lane, up_on, with_up}
use Rattle.mpt_rules.proofs.Counts.{return_count-append, return_count-cons}
use Rattle.law_facts.specs.Facts.{Facts}
use Rattle.law_facts.specs.Flights.{names_a_frame}
use Rattle.law_facts.specs.History.{History, history_after}
use Rattle.law_facts.specs.Ties.{RingsTied}
use Rattle.law_facts.specs.Words.{others}
use Rattle.law_frames.specs.Asked.{Asked}
use Rattle.law_frames.proofs.FrameHolds.{address_is}
use Rattle.law_frames.proofs.IocRing as ring
use Rattle.law_frames.proofs.IocRing.{Rings}
use Rattle.law_frames.proofs.Premises.{asks}
use Rattle.law_moves.proofs.CasesTold.{OwesTold, kept_told}
use Rattle.law_moves.proofs.Counted.{how_many-cons, others-append, others-cons}
use Rattle.law_places.proofs.Premises.{frames_before}
use Rattle.law_ties.specs.Shown.{IndicesAreOfQueues}
use Rattle.law_ties.proofs.IndicesKept as indices
use Rattle.law_ties.proofs.Quiet.{passes_over, state_stays}
use Rattle.law_ties.proofs.Steady.{IsSteady, steady_back, steady_input, steady_item, steady_plug, steady_work}

-- ---- small things

any_none : {X : Type 0} (test : X → Bool) (xs : List X) → how_many test xs ≡ 0 → list_any test xs ≡ false
any_none test [] z = refl
any_none test (x ∷ xs) z = let c = how_many-cons test x xs in by_test (test x) (omega (arith, c, z)) (any_none test xs (omega (arith, c, z)))
  where
    by_test : (b : Bool) → one_if b ≡ 0 → list_any test xs ≡ false → (b || list_any test xs) ≡ false
    by_test true z h = absurd (omega (arith, z))
    by_test false z h = h

addressed : (s x : ℕ) → s < 65536 → frame_address_in (address_descriptor s x) ≡ x
addressed s x l = omega (arith, l)

flags_addressed : (s x : ℕ) → (flags_in (address_descriptor s x) == address_flags) ≡ true
flags_addressed s x = let e : flags_in (address_descriptor s x) ≡ 1 = omega arith in ap (λ m. m == address_flags) e

flags_succeeded : (s : ℕ) → (flags_in (success_descriptor s) == address_flags) ≡ false
flags_succeeded s = let e : flags_in (success_descriptor s) ≡ 0 = omega arith in ap (λ m. m == address_flags) e

map_append : (f : ℕ → ℕ) (xs : List ℕ) (x : ℕ) → map f (xs ++ x ∷ []) ≡ map f xs ++ f x ∷ []
map_append f [] x = refl
map_append f (y ∷ xs) x = ap (λ zs. f y ∷ zs) (map_append f xs x)

-- ---- the rule

steady_stays : (g : List ℕ) (e : Entry) → IsSteady e → ring_next g e ≡ g
steady_stays g (entry.Put l i) h = absurd h
steady_stays g (entry.Take l i) h = absurd h
steady_stays g entry.UnbindAll h = absurd h
steady_stays g (entry.Given i) h = refl
steady_stays g (entry.Refuse call cause) h = refl
steady_stays g (entry.Idle x) h = refl
steady_stays g (entry.Bind handle address plug) h = refl
steady_stays g (entry.Unbind handle) h = refl
steady_stays g (entry.Run address tag) h = refl
steady_stays g entry.HostUp h = refl
steady_stays g (entry.Ready address handle) h = refl
steady_stays g (entry.Lost address handle) h = refl
steady_stays g (entry.Accept n address smid) h = refl
steady_stays g (entry.RefuseSubmit n cause) h = refl
steady_stays g (entry.Answer n outcome) h = refl
steady_stays g (entry.AbortEnd n outcome) h = refl
steady_stays g (entry.TargetEnd address outcome) h = refl
steady_stays g entry.ResetDone h = refl

steady_free : (g : List ℕ) (e : Entry) → IsSteady e → RingAsks g e
steady_free g (entry.Put l i) h = absurd h
steady_free g (entry.Take l i) h = absurd h
steady_free g entry.UnbindAll h = absurd h
steady_free g (entry.Given i) h = tt
steady_free g (entry.Refuse call cause) h = tt
steady_free g (entry.Idle x) h = tt
steady_free g (entry.Bind handle address plug) h = tt
steady_free g (entry.Unbind handle) h = tt
steady_free g (entry.Run address tag) h = tt
steady_free g entry.HostUp h = tt
steady_free g (entry.Ready address handle) h = tt
steady_free g (entry.Lost address handle) h = tt
steady_free g (entry.Accept n address smid) h = tt
steady_free g (entry.RefuseSubmit n cause) h = tt
steady_free g (entry.Answer n outcome) h = tt
steady_free g (entry.AbortEnd n outcome) h = tt
steady_free g (entry.TargetEnd address outcome) h = tt
steady_free g entry.ResetDone h = tt

module _ (w : World) (h : History) (f : Facts w h) (plain : NothingIsStrange w) where
  pub record Goes (k : World) (t : List Entry) : Type 0 where
    pub ring : map reply_frame_address k.ioc.ring ≡ state_after ring_next h.ring t
    pub passes : Passes ring_next RingAsks h.ring t

  a : Asked w
  a = asks w h (frames_before w h f plain)

  still : map reply_frame_address w.ioc.ring ≡ h.ring
  still = f.ties.rings.ring

  told : (k : World) (t : List Entry) → EachEntry IsSteady t → map reply_frame_address k.ioc.ring ≡ h.ring → Goes k t
  told k t q r = record { ring = r ∙ sym (state_stays IsSteady ring_next RingAsks steady_stays steady_free h.ring t q); passes = passes_over IsSteady ring_next RingAsks steady_stays steady_free h.ring t q }

  behind : (k : World) (e : Entry) (g : List ℕ) (t : List Entry) → RingAsks h.ring e → ring_next h.ring e ≡ g → EachEntry IsSteady t → map reply_frame_address k.ioc.ring ≡ g → Goes k (e ∷ t)
  behind k e g t free is q r =
      record {
        ring = r ∙ (sym (state_stays IsSteady ring_next RingAsks steady_stays steady_free g t q) ∙ ap (λ y. state_after ring_next y t) (sym is));
        passes = (free, subst (λ y. Passes ring_next RingAsks y t) (sym is) (passes_over IsSteady ring_next RingAsks steady_stays steady_free g t q));
      }

  as_it_is : (k : Ioc) → Rings w.ioc.ring w.ioc.generation k.ring k.generation → map reply_frame_address k.ring ≡ h.ring
  as_it_is k r = ap (map reply_frame_address) r.ring_is ∙ still

  own : Rings w.ioc.ring w.ioc.generation w.ioc.ring w.ioc.generation
  own = record { ring_is = refl; generation_is = refl }

  -- ---- the controller takes an item

  written : (reg value : ℕ) (rest : List Down) (x : Effect) → Goes (record w { ioc = (after_effect (record w.ioc { door = (register_written w.ioc.door reg value).registers }) x).part; down = rest }) (entry.Take lane.Down (item.Down (down.Write reg value)) ∷ (after_effect (record w.ioc { door = (register_written w.ioc.door reg value).registers }) x).entries)
  written reg value rest effect.None = behind _ _ h.ring [] tt refl tt still
  written reg value rest (effect.Asked count bytes) = behind _ _ h.ring [] tt refl tt (as_it_is (after_effect (record w.ioc { door = (register_written w.ioc.door reg value).registers }) (effect.Asked count bytes)).part (ring.asked w.ioc.ring w.ioc.generation (record w.ioc { door = (register_written w.ioc.door reg value).registers }) count bytes own))
  written reg value rest (effect.Fault code) = behind _ _ h.ring [] tt refl tt still
  written reg value rest effect.UnitReset = record { ring = refl; passes = (tt, (tt, tt)) }
  written reg value rest effect.AdapterReset = record { ring = refl; passes = (tt, (tt, tt)) }

  returned : (address index : ℕ) (rest : List Down) → w.down ≡ down.Return address index ∷ rest → Goes (record w { ioc = (adapter.takes_down w.ioc (down.Return address index)).part; down = rest }) (entry.Take lane.Down (item.Down (down.Return address index)) ∷ [])
  returned address index rest e = by_tests (table.is_operational (state_of w.ioc)) (not (posts.is_frame_address address) || posts.frame_here w.ioc (posts.frame_near address)) (a.live address index rest e) (ap (λ b. not b || posts.frame_here w.ioc (posts.frame_near address)) named ∙ absent)
    where
      named : names_a_frame (down.Return address index) ≡ true
      named =
          let z = f.flights.frames_are_frames.returned in
          let z1 = others-append names_a_frame w.down w.host.out in
          let z2 = ap (others names_a_frame) e in
          let z3 = others-cons names_a_frame (down.Return address index) rest in
          by_test (names_a_frame (down.Return address index)) (omega (arith, z, z1, z2, z3))
        where
          by_test : (b : Bool) → one_if (not b) ≡ 0 → b ≡ true
          by_test true x = refl
          by_test false x = absurd (omega (arith, x))

      -- the frame isn't in the ring
      absent : posts.frame_here w.ioc (posts.frame_near address) ≡ false
      absent =
          let i = address_is address named in
          let m = (f.flights.frames (frame_of address) i.1).at_most in
          let r1 = return_count-append (frame_of address) w.down w.host.out in
          let r2 = ap (Rattle.mpt_rules.specs.World.Counts.return_count (frame_of address)) e in
          let r3 = return_count-cons (frame_of address) (down.Return address index) rest in
          let k : (address == reply_frame_address (frame_of address)) ≡ true = ap (λ y. address == y) i.0 ∙ grind arith in
          let o : one_if (is_return_of (frame_of address) (down.Return address index)) ≡ 1 = ap one_if k in
          any_none (is_this_number (frame_of address)) w.ioc.ring (omega (arith, m, r1, r2, r3, o))

      grown : Goes (record w { ioc = record w.ioc { ring = w.ioc.ring ++ posts.frame_near address ∷ [] }; down = rest }) (entry.Take lane.Down (item.Down (down.Return address index)) ∷ [])
      grown =
          let i = address_is address named in
          behind _ _ (h.ring ++ address ∷ []) [] tt refl tt
          (map_append reply_frame_address w.ioc.ring (posts.frame_near address) ∙ (ap (λ xs. xs ++ reply_frame_address (posts.frame_near address) ∷ []) still ∙ ap (λ x. h.ring ++ x ∷ []) i.0))

      by_tests : (b d : Bool) → b ≡ true → d ≡ false → Goes (record w { ioc = if b then (if d then table.faults w.ioc posts.bad_return else record w.ioc { ring = w.ioc.ring ++ posts.frame_near address ∷ [] }) else w.ioc; down = rest }) (entry.Take lane.Down (item.Down (down.Return address index)) ∷ [])
      by_tests true false t u = grown
      by_tests true true t u = absurd (cc)
      by_tests false d t u = absurd (cc)

  ioc_takes : (x : Down) (rest : List Down) → w.down ≡ x ∷ rest → Goes (record w { ioc = (adapter.takes_down w.ioc x).part; down = rest }) (entry.Take lane.Down (item.Down x) ∷ (adapter.takes_down w.ioc x).entries)
  ioc_takes (down.Write reg value) rest e = written reg value rest (register_written w.ioc.door reg value).effect
  ioc_takes (down.Read reg) rest e = behind _ _ h.ring [] tt refl tt still
  ioc_takes (down.Post d g p) rest e = behind _ _ h.ring [] tt refl tt (as_it_is (adapter.posts_if_operational w.ioc d g p) (ring.takes_post w.ioc.ring w.ioc.generation w.ioc d g p own))
  ioc_takes (down.Return address index) rest e = returned address index rest e
  ioc_takes down.Stop rest e = behind _ _ h.ring [] tt refl tt (as_it_is (adapter.takes_stop w.ioc) (ring.takes_stop w.ioc.ring w.ioc.generation w.ioc own))

  -- ---- a reply is put

  -- the world behind it
  abbrev Sent : ℕ → Up → World
  Sent queue z = with_up (record w { ioc = up_sent_on w.ioc queue }) queue (up_on w queue ++ z ∷ [])

  -- an item without a frame
  plain_put : (queue : ℕ) (y : Said) (rest : List Said) (z : Up) → outbox_of w.ioc queue ≡ y ∷ rest → needs_frame (Some y) ≡ false → RingAsks h.ring (entry.Put (up_lane queue) (item.Up z)) → ring_next h.ring (entry.Put (up_lane queue) (item.Up z)) ≡ h.ring
      → Goes (Sent queue z) (entry.Put (up_lane queue) (item.Up z) ∷ [])
  plain_put queue y rest z e n free is =
      behind (Sent queue z) _ h.ring [] free is tt (ap (λ b. map reply_frame_address (if b then drop 1 w.ioc.ring else w.ioc.ring)) (ap (λ xs. needs_frame (slice_get xs 0)) e ∙ n) ∙ still)

  ioc_puts : (queue : ℕ) (y : Said) (rest : List Said) (z : Up) → outbox_of w.ioc queue ≡ y ∷ rest → up_of y (slice_get w.ioc.ring 0) ≡ Some z → Goes (Sent queue z) (entry.Put (up_lane queue) (item.Up z) ∷ [])
  ioc_puts queue (said.Value value) rest z e u = let q : up.Value value ≡ z = cc in subst (λ v. Goes (Sent queue v) (entry.Put (up_lane queue) (item.Up v) ∷ [])) q (plain_put queue (said.Value value) rest (up.Value value) e refl tt refl)
  ioc_puts queue (said.Mark generation) rest z e u = let q : up.Mark generation ≡ z = cc in subst (λ v. Goes (Sent queue v) (entry.Put (up_lane queue) (item.Up v) ∷ [])) q (plain_put queue (said.Mark generation) rest (up.Mark generation) e refl tt refl)
  ioc_puts queue said.Calm rest z e u = let q : up.Calm ≡ z = cc in subst (λ v. Goes (Sent queue v) (entry.Put (up_lane queue) (item.Up v) ∷ [])) q (plain_put queue said.Calm rest up.Calm e refl tt refl)
  ioc_puts queue (said.Success smid page sense) rest z e u =
      let q : up.Reply (success_descriptor smid) None page sense ≡ z = cc in
      let fl = flags_succeeded smid in
      subst (λ v. Goes (Sent queue v) (entry.Put (up_lane queue) (item.Up v) ∷ [])) q
      (plain_put queue (said.Success smid page sense) rest (up.Reply (success_descriptor smid) None page sense) e refl
      (subst (λ b. MatchBool b (IsFirst (frame_address_in (success_descriptor smid)) h.ring) (Unit {0})) (sym fl) tt) (ap (λ b. if b then drop 1 h.ring else h.ring) fl))
  ioc_puts queue (said.Framed smid bytes page sense) rest z e u = by_ring w.ioc.ring refl u
    where
      framed : (n : ℕ) (ns : List ℕ) → w.ioc.ring ≡ n ∷ ns → Goes (Sent queue (up.Reply (address_descriptor smid (reply_frame_address n)) (Some bytes) page sense)) (entry.Put (up_lane queue) (item.Up (up.Reply (address_descriptor smid (reply_frame_address n)) (Some bytes) page sense)) ∷ [])
      framed n ns r =
          let fl = flags_addressed smid (reply_frame_address n) in
          let at = addressed smid (reply_frame_address n) (a.fits queue smid bytes page sense rest e) in
          let front : h.ring ≡ reply_frame_address n ∷ map reply_frame_address ns = sym still ∙ ap (map reply_frame_address) r in
          let after : (if needs_frame (slice_get (outbox_of w.ioc queue) 0) then drop 1 w.ioc.ring else w.ioc.ring) ≡ ns = ap (λ b. if b then drop 1 w.ioc.ring else w.ioc.ring) (ap (λ xs. needs_frame (slice_get xs 0)) e) ∙ ap (drop 1) r in
          behind (Sent queue (up.Reply (address_descriptor smid (reply_frame_address n)) (Some bytes) page sense)) _ (map reply_frame_address ns) []
          (subst (λ b. MatchBool b (IsFirst (frame_address_in (address_descriptor smid (reply_frame_address n))) h.ring) (Unit {0})) (sym fl) (map reply_frame_address ns, front ∙ ap (λ x. x ∷ map reply_frame_address ns) (sym at)))
          (ap (λ b. if b then drop 1 h.ring else h.ring) fl ∙ ap (drop 1) front) tt (ap (map reply_frame_address) after)

      by_ring : (xs : List ℕ) → w.ioc.ring ≡ xs → framed_up smid bytes page sense (slice_get xs 0) ≡ Some z → Goes (Sent queue z) (entry.Put (up_lane queue) (item.Up z) ∷ [])
      by_ring [] r u = absurd (cc)
      by_ring (n ∷ ns) r u =
          let q : up.Reply (address_descriptor smid (reply_frame_address n)) (Some bytes) page sense ≡ z = cc in
          subst (λ v. Goes (Sent queue v) (entry.Put (up_lane queue) (item.Up v) ∷ [])) q (framed n ns r)

  -- ---- each case

  up_taken : (queue : ℕ) (x : Up) → (RingAsks h.ring (entry.Take (up_lane queue) (item.Up x))) × (ring_next h.ring (entry.Take (up_lane queue) (item.Up x)) ≡ h.ring)
  up_taken zero x = (tt, refl)
  up_taken (suc queue) x = (tt, refl)

  owed : OwesTold Goes w
  owed =
      record {
        idles = λ c. told w (entry.Idle c ∷ []) (tt, tt) still;
        host_puts = λ x rest e. behind _ _ h.ring [] tt refl tt still;
        host_takes = λ queue x rest e s. behind _ _ h.ring _ (up_taken queue x).0 (up_taken queue x).1 (steady_item w.host queue x) still;
        host_told = λ i t. told _ _ (steady_input w.host i) still;
        host_looks = λ e. told _ [] tt still;
        host_stops = λ e. told _ [] tt still;
        no_session = told w [] tt still;
        ioc_takes = ioc_takes;
        ioc_high = λ p rest e. told _ _ (steady_work _ p) (as_it_is (step.works_on (record w.ioc { high = rest }) p).part (ring.works_on w.ioc.ring w.ioc.generation (record w.ioc { high = rest }) p own));
        ioc_normal = λ p rest e. told _ _ (steady_work _ p) (as_it_is (step.works_on (record w.ioc { normal = rest }) p).part (ring.works_on w.ioc.ring w.ioc.generation (record w.ioc { normal = rest }) p own));
        ioc_puts_out = λ x rest e. behind _ _ h.ring [] tt refl tt still;
        ioc_takes_back = λ x rest e. behind _ _ h.ring _ tt refl (steady_back w.ioc x) (as_it_is (adapter.takes_back w.ioc x).part (ring.takes_back w.ioc.ring w.ioc.generation w.ioc x own));
        ioc_puts = ioc_puts;
        fabric_takes = λ x rest e. behind _ _ h.ring [] tt refl tt still;
        fabric_says = λ x rest e. told _ [] tt still;
        fabric_puts = λ x rest e. behind _ _ h.ring [] tt refl tt still;
        fabric_runs = λ tag address e. told _ (entry.Run address tag ∷ []) (tt, tt) still;
        plugs = λ address expander phy t q. told _ t (steady_plug t q) still;
        unplugs = λ address t q. told _ t (steady_plug t q) still;
        calms = told _ [] tt still;
      }

  pub ring_goes : (c : Case) → Goes (happens w c) (entries w c)
  ring_goes c = kept_told Goes w plain owed c

  pub rings_kept : IndicesAreOfQueues w → (c : Case) → RingsTied (happens w c) (history_after h (entries w c))
  rings_kept further c = let r = (indices.goes w h f plain further c).rings in record { ring = (ring_goes c).ring; returned = r.returned_is; returns = r.returns }
