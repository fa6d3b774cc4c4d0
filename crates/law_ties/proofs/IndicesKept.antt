-- Each case keeps the indices of the host's rings, and its entries go on with them.
use Rattle.std.proofs.Common.{◌≡◌, ◌≢◌, ℕ, zero, suc, ◌+◌, ◌*◌, ◌%◌, ◌^◌, ◌<◌, ◌≤◌, ◌==◌, ◌&&◌, ◌||◌, not, nat_lt, Bool, true, false, if◌then◌else◌, List, [], ◌∷◌, ◌++◌, length, length-set, slice_index, slice_set, Option, None, refl, ap, sym, ◌∙◌, subst, arith, get_or-set_other, get_or-set_same}
use Rattle.std.specs.Bool.{MatchBool}
use Rattle.std.proofs.lemmas.Bool.{eqb-true}
use Rattle.std.proofs.lemmas.List.{get_or_past}
use Rattle.mpi_doorbell.specs.declared.registers.TheConstants.{REPLY_POST_HOST_INDEX}
use Rattle.mpi_names.specs.declared.memory.TheConstants.{FREE_RING_ENTRIES, POST_RING_ENTRIES}
use Rattle.mpt_wire.specs.Messages.Registers.{Indices, IndicesAsk, IsNextIndex, indices_next, lane_number, one_more, queue_in}
use Rattle.mpt_wire.specs.Walks.Passes.{EachEntry, Passes, state_after}
use Rattle.mpt_trace.specs.declared.entry.Entry.{Entry}
use Rattle.mpt_trace.specs.declared.entry.Entry.TheVariants as entry
use Rattle.mpt_trace.specs.declared.item.Down.{Down}
use Rattle.mpt_trace.specs.declared.item.Down.TheVariants as down
use Rattle.mpt_trace.specs.declared.item.Item.TheVariants as item
use Rattle.mpt_trace.specs.declared.item.Up.{Up}
use Rattle.mpt_trace.specs.declared.item.Up.TheVariants as upward
use Rattle.mpt_trace.specs.declared.lane.LaneName.TheVariants as lane
use Rattle.mpt_wire.specs.Messages.Fields.{smid_in}
use Rattle.mpt_rules.specs.Host.Parts.{Host, host_queue_count}
use Rattle.mpt_rules.specs.Host.Replies as replies
use Rattle.mpt_rules.specs.Host.Returns.{after_sent}
use Rattle.mpt_rules.specs.Host.Strange.{why_strange}
use Rattle.mpt_rules.specs.Host.Takes.{hears_up}
use Rattle.mpt_rules.specs.Law.{NothingIsStrange}
use Rattle.mpt_rules.specs.World.Cases.{Case, entries, happens}
use Rattle.mpt_rules.specs.World.Counts.{how_many, one_if}
use Rattle.mpt_rules.specs.World.Settings.{Setting, first_world}
use Rattle.mpt_rules.specs.World.State.{World, up_lane, up_on, with_up}
use Rattle.mpt_rules.proofs.Counts.{how_many-append}
use Rattle.law_facts.specs.Facts.{Facts}
use Rattle.law_facts.specs.History.{History, history_after}
use Rattle.law_facts.specs.Ties.{IndicesGoOn, ReturnsGoOn, is_index_of, is_return}
use Rattle.law_facts.specs.Words.{others}
use Rattle.law_flights.proofs.HostQuiet.{IsQuiet, quiet}
use Rattle.law_flights.proofs.IocTold.{told_back, told_down, told_high, told_normal}
use Rattle.law_moves.proofs.CasesTold.{OwesTold, kept_told}
use Rattle.law_moves.proofs.Counted.{how_many-cons, how_many-nil, others-append, others-cons, others-nil}
use Rattle.law_ties.specs.Shown.{IndicesAreOfQueues, IndicesKept, is_index_within}
use Rattle.law_ties.proofs.Indices.{Indexed, Rings, alone, go_on-append, go_on-put, plain, returned, returns-append, returns-put, without}
use Rattle.law_ties.proofs.Quiet.{passes_over, quiet_input, quiet_item, quiet_plug, state_stays}
use Rattle.law_ties.proofs.RingWalk as walk

-- ---- what the rule makes of an entry

quiet_stays : (g : Indices) (e : Entry) → IsQuiet e → indices_next g e ≡ g
quiet_stays g (entry.Put l i) h = absurd h
quiet_stays g (entry.Take l i) h = absurd h
quiet_stays g (entry.Given i) h = refl
quiet_stays g (entry.Refuse call cause) h = refl
quiet_stays g (entry.Idle x) h = refl
quiet_stays g (entry.Bind handle address plug) h = refl
quiet_stays g (entry.Unbind handle) h = refl
quiet_stays g entry.UnbindAll h = refl
quiet_stays g (entry.Run address tag) h = refl
quiet_stays g entry.HostUp h = refl
quiet_stays g (entry.Ready address handle) h = refl
quiet_stays g (entry.Lost address handle) h = refl
quiet_stays g (entry.Accept n address smid) h = refl
quiet_stays g (entry.RefuseSubmit n cause) h = refl
quiet_stays g (entry.Answer n outcome) h = refl
quiet_stays g (entry.AbortEnd n outcome) h = refl
quiet_stays g (entry.TargetEnd address outcome) h = refl
quiet_stays g entry.ResetDone h = refl

quiet_free : (g : Indices) (e : Entry) → IsQuiet e → IndicesAsk g e
quiet_free g (entry.Put l i) h = absurd h
quiet_free g (entry.Take l i) h = absurd h
quiet_free g (entry.Given i) h = tt
quiet_free g (entry.Refuse call cause) h = tt
quiet_free g (entry.Idle x) h = tt
quiet_free g (entry.Bind handle address plug) h = tt
quiet_free g (entry.Unbind handle) h = tt
quiet_free g entry.UnbindAll h = tt
quiet_free g (entry.Run address tag) h = tt
quiet_free g entry.HostUp h = tt
quiet_free g (entry.Ready address handle) h = tt
quiet_free g (entry.Lost address handle) h = tt
quiet_free g (entry.Accept n address smid) h = tt
quiet_free g (entry.RefuseSubmit n cause) h = tt
quiet_free g (entry.Answer n outcome) h = tt
quiet_free g (entry.AbortEnd n outcome) h = tt
quiet_free g (entry.TargetEnd address outcome) h = tt
quiet_free g entry.ResetDone h = tt

-- ---- an item of the host is put

after_put : Indices → Down → Indices
after_put g x = indices_next g (entry.Put lane.Down (item.Down x))

same_key : (a b : ℕ) → (a == b) ≡ (b == a)
same_key a b = grind arith

module _ (n : ℕ) (g : Indices) (o : List Down) (i : List ℕ) (r : ℕ) where
  abbrev After : Down → Indices
  After x = indices_next g (entry.Put lane.Down (item.Down x))

  heard_stays : (x : Down) (q : ℕ) → (After x).heard q ≡ g.heard q
  heard_stays (down.Write reg value) q = by_test (reg == REPLY_POST_HOST_INDEX)
    where
      by_test : (b : Bool) → (if b then record g { written = one_more (queue_in value) g.written } else g).heard q ≡ g.heard q
      by_test true = refl
      by_test false = refl
  heard_stays (down.Read reg) q = refl
  heard_stays (down.Post d f p) q = refl
  heard_stays (down.Return address j) q = refl
  heard_stays down.Stop q = refl

  written_grows : (x : Down) (q : ℕ) → (After x).written q ≡ g.written q + one_if (is_index_of q x)
  written_grows (down.Write reg value) q = by_tests (reg == REPLY_POST_HOST_INDEX) (q == queue_in value) refl
    where
      by_tests : (b c : Bool) → (q == queue_in value) ≡ c
          → (if b then record g { written = one_more (queue_in value) g.written } else g).written q ≡ g.written q + one_if (b && (queue_in value == q))
      by_tests false c e = omega arith
      by_tests true true e =
          let k : q ≡ queue_in value = eqb-true q (queue_in value) e in
          let t : one_if (queue_in value == q) ≡ 1 = ap one_if (same_key (queue_in value) q ∙ e) in
          let s : (if (q == queue_in value) then g.written (queue_in value) + 1 else g.written q) ≡ g.written (queue_in value) + 1 = ap (λ b. if b then g.written (queue_in value) + 1 else g.written q) e in
          let w : g.written q ≡ g.written (queue_in value) = ap g.written k in
          omega (arith, s, t, w)
      by_tests true false e =
          let t : one_if (queue_in value == q) ≡ 0 = ap one_if (same_key (queue_in value) q ∙ e) in
          let s : (if (q == queue_in value) then g.written (queue_in value) + 1 else g.written q) ≡ g.written q = ap (λ b. if b then g.written (queue_in value) + 1 else g.written q) e in
          omega (arith, s, t)
  written_grows (down.Read reg) q = omega arith
  written_grows (down.Post d f p) q = omega arith
  written_grows (down.Return address j) q = omega arith
  written_grows down.Stop q = omega arith

  returned_grows : (x : Down) → (After x).returned ≡ g.returned + one_if (is_return x)
  returned_grows (down.Write reg value) = by_test (reg == REPLY_POST_HOST_INDEX)
    where
      by_test : (b : Bool) → (if b then record g { written = one_more (queue_in value) g.written } else g).returned ≡ g.returned + 0
      by_test true = omega arith
      by_test false = omega arith
  returned_grows (down.Read reg) = omega arith
  returned_grows (down.Post d f p) = omega arith
  returned_grows (down.Return address j) = refl
  returned_grows down.Stop = omega arith

  -- the first item is put
  pub puts : (x : Down) → Rings n g (x ∷ o) i r → Rings n (After x) o i r
  puts x a =
      let w = a.within in let wc = others-cons (is_index_within n) x o in
      let c = how_many-cons is_return x o in let k = returned_grows x in
      let s : g.returned + how_many is_return (x ∷ o) ≡ (After x).returned + how_many is_return o = omega (arith, c, k) in
      record {
        queues = a.queues;
        each = each;
        within = omega (arith, w, wc);
        returned_is = a.returned_is ∙ ap (λ m. m % FREE_RING_ENTRIES) s;
        returns = subst (λ m. ReturnsGoOn m o) (sym k) (returns-put g.returned x o a.returns);
      }
    where
      each : (q : ℕ) → q < n → Indexed q ((After x).written q) ((After x).heard q) o i
      each q l =
          let b = a.each q l in
          let h = b.heard_is in let c = how_many-cons (is_index_of q) x o in let y = heard_stays x q in let z = written_grows x q in
          record {
            heard_is = omega (arith, h, c, y, z);
            next = b.next ∙ ap (λ m. m % POST_RING_ENTRIES) (sym y);
            go_on = subst (λ m. IndicesGoOn q m o) (sym z) (go_on-put q (g.written q) x o b.go_on);
          }

  -- as the rule asks
  pub put_asked : (x : Down) → Rings n g (x ∷ o) i r → IndicesAsk g (entry.Put lane.Down (item.Down x))
  put_asked (down.Read reg) a = tt
  put_asked (down.Post d f p) a = tt
  put_asked down.Stop a = tt
  put_asked (down.Return address j) a = a.returns.0
  put_asked (down.Write reg value) a = by_test (reg == REPLY_POST_HOST_INDEX) refl
    where
      of_queue : (reg == REPLY_POST_HOST_INDEX) ≡ true → queue_in value < n
      of_queue e =
          let w = a.within in let c = others-cons (is_index_within n) (down.Write reg value) o in
          let t : one_if (not (is_index_within n (down.Write reg value))) ≡ one_if (not (nat_lt (queue_in value) n)) = ap (λ b. one_if (not (not b || nat_lt (queue_in value) n))) e in
          inside (nat_lt (queue_in value) n) refl (omega (arith, w, c, t))
        where
          inside : (b : Bool) → nat_lt (queue_in value) n ≡ b → one_if (not b) ≡ 0 → queue_in value < n
          inside true y z = grind (arith, y)
          inside false y z = absurd (omega (arith, z))

      asked : (b : Bool) → is_index_of (queue_in value) (down.Write reg value) ≡ b → b ≡ true
          → MatchBool b ((value ≡ queue_in value * 2 ^ 24 + (g.written (queue_in value) + 1) % POST_RING_ENTRIES) × IndicesGoOn (queue_in value) (g.written (queue_in value) + 1) o) (IndicesGoOn (queue_in value) (g.written (queue_in value)) o)
          → value ≡ queue_in value * 2 ^ 24 + (g.written (queue_in value) + 1) % POST_RING_ENTRIES
      asked true e t g = g.0
      asked false e t g = absurd (cc)

      is_its : (reg == REPLY_POST_HOST_INDEX) ≡ true → is_index_of (queue_in value) (down.Write reg value) ≡ true
      is_its e = ap (λ b. b && (queue_in value == queue_in value)) e ∙ grind arith

      by_test : (b : Bool) → (reg == REPLY_POST_HOST_INDEX) ≡ b → MatchBool b (IsNextIndex g (queue_in value) value) (Unit {0})
      by_test false e = tt
      by_test true e =
          let b = a.each (queue_in value) (of_queue e) in
          let h = b.heard_is in let c = how_many-cons (is_index_of (queue_in value)) (down.Write reg value) o in
          let t : one_if (is_index_of (queue_in value) (down.Write reg value)) ≡ 1 = ap one_if (is_its e) in
          (asked (is_index_of (queue_in value) (down.Write reg value)) refl (is_its e) b.go_on, omega (arith, h, c, t))

-- ---- a reply is taken

-- the rule's state after a reply on a queue
after_reply : Indices → ℕ → Indices
after_reply g queue = record g { heard = one_more queue g.heard }

takes_entry : (n : ℕ) (g : Indices) (queue : ℕ) (h : Host) → queue < n → Rings n g h.out h.indices h.returned
    → Rings n (record g { heard = one_more queue g.heard }) (replies.takes_entry h queue).out (replies.takes_entry h queue).indices (replies.takes_entry h queue).returned
takes_entry n g queue h l a =
    let c1 = how_many-append is_return h.out (x ∷ []) in let c2 = how_many-cons is_return x [] in let c3 = how_many-nil {X = Down} is_return in
    let c : how_many is_return h.out ≡ how_many is_return (h.out ++ x ∷ []) = omega (arith, c1, c2, c3) in
    let w = a.within in let w1 = others-append (is_index_within n) h.out (x ∷ []) in let w2 = others-cons (is_index_within n) x [] in let w3 = others-nil {X = Down} (is_index_within n) in
    let w4 : one_if (not (is_index_within n x)) ≡ 0 = ap (λ b. one_if (not b)) within in
    record {
      queues = length-set h.indices queue (replies.next_index h queue) ∙ a.queues;
      each = each;
      within = omega (arith, w, w1, w2, w3, w4);
      returned_is = a.returned_is ∙ ap (λ m. (g.returned + m) % FREE_RING_ENTRIES) c;
      returns = returns-append g.returned h.out (x ∷ []) a.returns tt;
    }
  where
    v : ℕ
    v = replies.index_value queue (replies.next_index h queue)

    x : Down
    x = down.Write REPLY_POST_HOST_INDEX (replies.index_value queue (replies.next_index h queue))

    queue_is : queue_in (queue * 2 ^ 24 + (slice_index h.indices queue + 1) % 352) ≡ queue
    queue_is = omega arith

    within : is_index_within n (down.Write REPLY_POST_HOST_INDEX (replies.index_value queue (replies.next_index h queue))) ≡ true
    within = ap (λ m. nat_lt m n) queue_is ∙ grind (arith, l)

    index_is : (q : ℕ) → is_index_of q (down.Write REPLY_POST_HOST_INDEX (replies.index_value queue (replies.next_index h queue))) ≡ (queue == q)
    index_is q = ap (λ m. m == q) queue_is

    each : (q : ℕ) → q < n → Indexed q (g.written q) (one_more queue g.heard q) (h.out ++ x ∷ []) (slice_set h.indices queue (replies.next_index h queue))
    each q m = by_key (q == queue) refl
      where
        b : Indexed q (g.written q) (g.heard q) h.out h.indices
        b = a.each q m

        by_key : (k : Bool) → (q == queue) ≡ k → Indexed q (g.written q) (if k then g.heard queue + 1 else g.heard q) (h.out ++ x ∷ []) (slice_set h.indices queue (replies.next_index h queue))
        by_key false e =
            let f : is_index_of q x ≡ false = index_is q ∙ (same_key queue q ∙ e) in
            let d = b.heard_is in let h1 = how_many-append (is_index_of q) h.out (x ∷ []) in let h2 = how_many-cons (is_index_of q) x [] in let h3 = how_many-nil {X = Down} (is_index_of q) in let h4 : one_if (is_index_of q x) ≡ 0 = ap one_if f in
            let other : q ≢ queue = λ z. grind (arith, e, z) in
            record { heard_is = omega (arith, d, h1, h2, h3, h4); next = get_or-set_other h.indices queue q (replies.next_index h queue) 0 other ∙ b.next; go_on = go_on-append q (g.written q) h.out (x ∷ []) b.go_on (alone q (g.written q + how_many (is_index_of q) h.out) x f) }
        by_key true e = subst (λ j. Indexed j (g.written j) (g.heard queue + 1) (h.out ++ x ∷ []) (slice_set h.indices queue (replies.next_index h queue))) (sym (eqb-true q queue e)) own
          where
            own : Indexed queue (g.written queue) (g.heard queue + 1) (h.out ++ x ∷ []) (slice_set h.indices queue (replies.next_index h queue))
            own =
                let c = a.each queue l in
                let d = c.heard_is in let s = a.queues in let nx = c.next in
                let f : is_index_of queue x ≡ true = index_is queue ∙ grind arith in
                let h1 = how_many-append (is_index_of queue) h.out (x ∷ []) in let h2 = how_many-cons (is_index_of queue) x [] in let h3 = how_many-nil {X = Down} (is_index_of queue) in let h4 : one_if (is_index_of queue x) ≡ 1 = ap one_if f in
                let m : (slice_index h.indices queue + 1) % 352 ≡ (g.heard queue + 1) % 352 = omega (arith, nx) in
                let value : v ≡ queue * 2 ^ 24 + (g.written queue + how_many (is_index_of queue) h.out + 1) % 352 = omega (arith, m, d) in
                record {
                  heard_is = omega (arith, d, h1, h2, h3, h4);
                  next = get_or-set_same h.indices queue (replies.next_index h queue) 0 (omega (arith, s, l)) ∙ m;
                  go_on = go_on-append queue (g.written queue) h.out (x ∷ []) c.go_on (first (is_index_of queue x) f value);
                }
              where
                first : (t : Bool) → t ≡ true → v ≡ queue * 2 ^ 24 + (g.written queue + how_many (is_index_of queue) h.out + 1) % 352
                    → MatchBool t ((v ≡ queue * 2 ^ 24 + (g.written queue + how_many (is_index_of queue) h.out + 1) % POST_RING_ENTRIES) × Unit {0}) (Unit {0})
                first true e w = (w, tt)
                first false e w = absurd (cc)

-- ---- each case

lane_is : (queue : ℕ) → lane_number (up_lane queue) ≡ queue
lane_is zero = refl
lane_is (suc queue) = refl

pub on_lane : (w : World) (i : ℕ) (x : Up) (rest : List Up) → up_on w i ≡ x ∷ rest → i < length w.up
on_lane w i x rest e = by_place (nat_lt i (length w.up)) refl
  where
    by_place : (b : Bool) → nat_lt i (length w.up) ≡ b → i < length w.up
    by_place true t = grind (arith, t)
    by_place false t = let far : length w.up ≤ i = grind (arith, t) in let z = get_or_past w.up i [] far in absurd (cc)

module _ (w : World) (h : History) (f : Facts w h) (plain_up : NothingIsStrange w) (further : IndicesAreOfQueues w) where
  n : ℕ
  n = host_queue_count w.host

  abbrev Are : Indices → Host → Type 0
  Are g k = Rings (host_queue_count w.host) g k.out k.indices k.returned

  are : Are h.indices w.host
  are =
      record {
        queues = refl;
        each = λ q l. let x = f.ties.index q l in record { heard_is = x.heard; next = x.next; go_on = x.go_on };
        within = further;
        returned_is = f.ties.rings.returned;
        returns = f.ties.rings.returns;
      }

  pub record Goes (k : World) (t : List Entry) : Type 0 where
    pub rings : Are (state_after indices_next h.indices t) k.host
    pub passes : Passes indices_next IndicesAsk h.indices t

  told : (k : World) (t : List Entry) → EachEntry IsQuiet t → Are h.indices k.host → Goes k t
  told k t q a = record { rings = subst (λ g. Are g k.host) (sym (state_stays IsQuiet indices_next IndicesAsk quiet_stays quiet_free h.indices t q)) a; passes = passes_over IsQuiet indices_next IndicesAsk quiet_stays quiet_free h.indices t q }

  -- behind one entry that isn't asked anything
  behind : (k : World) (e : Entry) (g : Indices) (t : List Entry) → IndicesAsk h.indices e → indices_next h.indices e ≡ g → EachEntry IsQuiet t → Are g k.host → Goes k (e ∷ t)
  behind k e g t free is q a =
      record {
        rings = subst (λ y. Are (state_after indices_next y t) k.host) (sym is) (subst (λ y. Are y k.host) (sym (state_stays IsQuiet indices_next IndicesAsk quiet_stays quiet_free g t q)) a);
        passes = (free, subst (λ y. Passes indices_next IndicesAsk y t) (sym is) (passes_over IsQuiet indices_next IndicesAsk quiet_stays quiet_free g t q));
      }

  abbrev P : Indices → List Down → List ℕ → ℕ → Type 0
  P g o i r = Rings (host_queue_count w.host) g o i r

  host_puts : (x : Down) (rest : List Down) → w.host.out ≡ x ∷ rest → Goes (record w { host = after_sent w.host x rest; down = w.down ++ x ∷ [] }) (entry.Put lane.Down (item.Down x) ∷ [])
  host_puts x rest e =
      let a = subst (λ xs. P h.indices xs w.host.indices w.host.returned) e are in
      record { rings = sent x (puts (host_queue_count w.host) h.indices rest w.host.indices w.host.returned x a); passes = (put_asked (host_queue_count w.host) h.indices rest w.host.indices w.host.returned x a, tt) }
    where
      sent : (x : Down) → P (indices_next h.indices (entry.Put lane.Down (item.Down x))) rest w.host.indices w.host.returned → Are (indices_next h.indices (entry.Put lane.Down (item.Down x))) (after_sent w.host x rest)
      sent (down.Write reg value) a = a
      sent (down.Read reg) a = a
      sent (down.Post d g p) a = a
      sent (down.Return address j) a = a
      sent down.Stop a = a

  replied : (queue d : ℕ) (g : Option (List ℕ)) (page sense : List ℕ) → queue < host_queue_count w.host → Are (record h.indices { heard = one_more queue h.indices.heard }) (hears_up w.host queue (upward.Reply d g page sense)).part
  replied queue d g page sense l =
      let i1 : Indices = record h.indices { heard = one_more queue h.indices.heard } in
      let framed = walk.frame_keeps (P h.indices) (plain (host_queue_count w.host) h.indices) (without (host_queue_count w.host) h.indices) (returned (host_queue_count w.host) h.indices) w.host d g are in
      walk.reply_keeps (P i1) (plain (host_queue_count w.host) i1) (without (host_queue_count w.host) i1) (returned (host_queue_count w.host) i1) (replies.takes_entry (replies.with_frame_heard w.host d g) queue) (smid_in d) (replies.request_of w.host (smid_in d)) (replies.heard_of d g page sense)
      (takes_entry (host_queue_count w.host) h.indices queue (replies.with_frame_heard w.host d g) l framed)

  host_takes : (queue : ℕ) (x : Up) (rest : List Up) → up_on w queue ≡ x ∷ rest → why_strange w.host queue x ≡ None
      → Goes (record (with_up w queue rest) { host = (hears_up w.host queue x).part }) (entry.Take (up_lane queue) (item.Up x) ∷ (hears_up w.host queue x).entries)
  host_takes queue (upward.Value v) rest e s =
      behind _ (entry.Take (up_lane queue) (item.Up (upward.Value v))) h.indices _ tt refl (quiet_item w.host queue (upward.Value v))
      (walk.value_keeps (P h.indices) (plain (host_queue_count w.host) h.indices) (without (host_queue_count w.host) h.indices) (returned (host_queue_count w.host) h.indices) w.host v are)
  host_takes queue (upward.Mark generation) rest e s =
      behind _ (entry.Take (up_lane queue) (item.Up (upward.Mark generation))) h.indices _ tt refl (quiet_item w.host queue (upward.Mark generation))
      (walk.mark_keeps (P h.indices) (plain (host_queue_count w.host) h.indices) (without (host_queue_count w.host) h.indices) (returned (host_queue_count w.host) h.indices) w.host queue are)
  host_takes queue upward.Calm rest e s = behind _ (entry.Take (up_lane queue) (item.Up upward.Calm)) h.indices _ tt refl (quiet_item w.host queue upward.Calm) are
  host_takes queue (upward.Reply d g page sense) rest e s =
      let sizes = f.flights.sizes.lanes in let l0 = on_lane w queue (upward.Reply d g page sense) rest e in
      behind _ (entry.Take (up_lane queue) (item.Up (upward.Reply d g page sense))) (record h.indices { heard = one_more queue h.indices.heard }) _ tt (ap (λ m. record h.indices { heard = one_more m h.indices.heard }) (lane_is queue)) (quiet_item w.host queue (upward.Reply d g page sense))
      (replied queue d g page sense (omega (arith, sizes, l0)))

  owed : OwesTold Goes w
  owed =
      record {
        idles = λ c. told w (entry.Idle c ∷ []) (tt, tt) are;
        host_puts = host_puts;
        host_takes = host_takes;
        host_told = λ i t. told _ _ (quiet_input w.host i) (walk.input_keeps (P h.indices) (plain (host_queue_count w.host) h.indices) (without (host_queue_count w.host) h.indices) (returned (host_queue_count w.host) h.indices) w.host i are);
        host_looks = λ e. told _ [] tt (walk.look_keeps (P h.indices) (plain (host_queue_count w.host) h.indices) (without (host_queue_count w.host) h.indices) (returned (host_queue_count w.host) h.indices) w.host are);
        host_stops = λ e. told _ [] tt (walk.stop_keeps (P h.indices) (plain (host_queue_count w.host) h.indices) (without (host_queue_count w.host) h.indices) (returned (host_queue_count w.host) h.indices) w.host are);
        no_session = told w [] tt are;
        ioc_takes = λ x rest e. behind _ (entry.Take lane.Down (item.Down x)) h.indices _ tt refl (quiet _ (told_down w.ioc x)) are;
        ioc_high = λ p rest e. told _ _ (quiet _ (told_high w.ioc (p ∷ rest))) are;
        ioc_normal = λ p rest e. told _ _ (quiet _ (told_normal w.ioc (p ∷ rest))) are;
        ioc_puts_out = λ x rest e. behind _ (entry.Put lane.Out (item.Out x)) h.indices [] tt refl tt are;
        ioc_takes_back = λ x rest e. behind _ (entry.Take lane.Back (item.Back x)) h.indices _ tt refl (quiet _ (told_back w.ioc x)) are;
        ioc_puts = λ queue y rest z e u. behind _ (entry.Put (up_lane queue) (item.Up z)) h.indices [] (put_free queue z) (put_stays queue z) tt are;
        fabric_takes = λ x rest e. behind _ (entry.Take lane.Out (item.Out x)) h.indices [] tt refl tt are;
        fabric_says = λ x rest e. told _ [] tt are;
        fabric_puts = λ x rest e. behind _ (entry.Put lane.Back (item.Back x)) h.indices [] tt refl tt are;
        fabric_runs = λ tag address e. told _ (entry.Run address tag ∷ []) (tt, tt) are;
        plugs = λ address expander phy t q. told _ t (quiet_plug t q) are;
        unplugs = λ address t q. told _ t (quiet_plug t q) are;
        calms = told _ [] tt are;
      }
    where
      put_free : (queue : ℕ) (z : Up) → IndicesAsk h.indices (entry.Put (up_lane queue) (item.Up z))
      put_free zero z = tt
      put_free (suc queue) z = tt

      put_stays : (queue : ℕ) (z : Up) → indices_next h.indices (entry.Put (up_lane queue) (item.Up z)) ≡ h.indices
      put_stays zero z = refl
      put_stays (suc queue) z = refl

  pub goes : (c : Case) → Goes (happens w c) (entries w c)
  goes c = kept_told Goes w plain_up owed c

  pub indices_kept : (c : Case) → IndicesKept (happens w c) (history_after h (entries w c))
  indices_kept c =
      let a = (goes c).rings in
      record {
        queues = λ q l. let s = a.queues in let x = a.each q (omega (arith, s, l)) in record { heard = x.heard_is; next = x.next; go_on = x.go_on };
        further = subst (λ m. others (is_index_within m) (happens w c).host.out ≡ 0) (sym a.queues) a.within;
      }

pub indices_at_first : (s : Setting) → IndicesAreOfQueues (first_world s)
indices_at_first s = others-nil (is_index_within (host_queue_count (first_world s).host))
