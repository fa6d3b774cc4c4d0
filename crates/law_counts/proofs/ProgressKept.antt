-- Each case keeps how far aborts and target resets are: nothing is asked of the fabric for what is before it, and for what it has the count is awaited.
use Rattle.std.proofs.Common.{◌≡◌, ◌≢◌, ℕ, ◌+◌, ◌<◌, ◌≤◌, ◌==◌, not, Bool, true, false, if◌then◌else◌, List, [], ◌∷◌, ◌++◌, get_or, slice_get, Option, Some, None, refl, ap, sym, ◌∙◌, subst, arith}
use Rattle.std.specs.Prelude.{All}
use Rattle.std.specs.List.{sum_by}
use Rattle.std.proofs.lemmas.Bool.{eqb-true}
use Rattle.std.proofs.lemmas.List.Elements.{All-head}
use Rattle.std.proofs.lemmas.List.Sums.{sum_by-cons}
use Rattle.mpi_doorbell.specs.DoorRegisters.{is_fault}
use Rattle.mpi_rings.specs.declared.request_descriptor.PostKind.TheVariants as post
use Rattle.smid_pool.specs.Pool.{Slot, Free, Open, Parked}
use Rattle.mpt_wire.specs.Messages.Fields.{kind_in, smid_in}
use Rattle.mpt_wire.specs.Paths.TerminationCounts.{Awaited, Counted, HighPost, NotSent, Progress, closed, count_found, high_next, opened_by, with_progress}
use Rattle.mpt_wire.specs.Walks.Passes.{EachEntry}
use Rattle.mpt_trace.specs.declared.entry.Entry.{Entry}
use Rattle.mpt_trace.specs.declared.entry.Entry.TheVariants as entry
use Rattle.mpt_trace.specs.declared.item.Back.{Back}
use Rattle.mpt_trace.specs.declared.item.Back.TheVariants as back
use Rattle.mpt_trace.specs.declared.item.Down.{Down}
use Rattle.mpt_trace.specs.declared.item.Down.TheVariants as downward
use Rattle.mpt_trace.specs.declared.item.Item.TheVariants as item
use Rattle.mpt_trace.specs.declared.item.Out.{Out}
use Rattle.mpt_trace.specs.declared.item.Out.TheVariants as out
use Rattle.mpt_trace.specs.declared.item.Up.{Up}
use Rattle.mpt_trace.specs.declared.item.Up.TheVariants as upward
use Rattle.mpt_trace.specs.declared.lane.LaneName.TheVariants as lane
use Rattle.mpt_rules.specs.declared.post.Post.{Post}
use Rattle.mpt_rules.specs.declared.request.Request.{Request}
use Rattle.mpt_rules.specs.declared.request.Request.TheVariants as request
use Rattle.mpt_rules.specs.declared.said.Said.{Said}
use Rattle.mpt_rules.specs.declared.said.Said.TheVariants as said
use Rattle.mpt_rules.specs.Fabric.Calls as fab
use Rattle.mpt_rules.specs.Fabric.Parts.{Fabric}
use Rattle.mpt_rules.specs.Host.Returns.{after_sent}
use Rattle.mpt_rules.specs.Host.Takes.{hears_up, looks, stops}
use Rattle.mpt_rules.specs.Ioc.Places.{is_reply_of}
use Rattle.mpt_rules.specs.Ioc.Replies.{outbox_of}
use Rattle.mpt_rules.specs.Ioc.Sending.{up_of}
use Rattle.mpt_rules.specs.Ioc.Steps as step
use Rattle.mpt_rules.specs.Ioc.Tables.{is_held_as}
use Rattle.mpt_rules.specs.Ioc.Takes as adapter
use Rattle.mpt_rules.specs.Law.{NothingIsStrange}
use Rattle.mpt_rules.specs.World.Cases.{Case, entries, happens}
use Rattle.mpt_rules.specs.World.Counts.{how_many, one_if, post_count, queued_count, reply_count}
use Rattle.mpt_rules.specs.World.FabricCounts.{is_abort_by, is_abort_end_of, is_reset_by, is_reset_end_of}
use Rattle.mpt_rules.specs.World.Inputs.{host_told}
use Rattle.mpt_rules.specs.World.Lines.{back_line, down_line, is_high, said_of}
use Rattle.mpt_rules.specs.World.Places.{is_posted_as}
use Rattle.mpt_rules.specs.World.State.{World, up_lane, up_on, with_up}
use Rattle.mpt_rules.proofs.Counts.{post_count-append, post_count-cons, post_count-nil, queued_count-cons, reply_count-cons}
use Rattle.law_facts.specs.Facts.{Facts}
use Rattle.law_facts.specs.History.{History, history_after}
use Rattle.law_facts.specs.Messages.{AbortSent, AnswersBy, DownIsRecord, OutIs, SaidIs}
use Rattle.law_facts.specs.Paths.{before_fabric, opened}
use Rattle.law_facts.specs.Notices.{is_notice}
use Rattle.law_facts.specs.Words.{others, slot}
use Rattle.law_flights.proofs.HostQuiet.{IsQuiet, quiet, quiet_taken}
use Rattle.law_flights.proofs.HostTold.{told_input}
use Rattle.law_flights.proofs.IocTold.{told_back, told_down, told_high, told_normal}
use Rattle.law_flights.proofs.Rising.{same_identifier}
use Rattle.law_moves.proofs.CasesTold.{OwesTold, kept_told}
use Rattle.law_moves.proofs.Counted.{how_many-cons, others-cons}
use Rattle.law_moves.proofs.IocTakes.{takes}
use Rattle.law_messages.proofs.Agreeing.{all_last, same}
use Rattle.law_messages.proofs.Known.{classed, inside}
use Rattle.law_messages.proofs.Leads.{Leads}
use Rattle.law_asked.proofs.Firm.{stays}
use Rattle.law_counts.specs.Counted.{AwaitsCount, FabricAnswers, asked_tokens}
use Rattle.law_counts.proofs.FabricAsks as told
use Rattle.law_counts.proofs.FabricAsks.{ends}
use Rattle.law_counts.proofs.IocAsks as own
use Rattle.law_counts.proofs.IocAsks.{asked_out, in_ioc}
use Rattle.law_counts.proofs.Opens.{Posted, opened_for, posted}
use Rattle.law_counts.proofs.Placed as placed
use Rattle.law_counts.proofs.Quiet.{quiet_plug}
use Rattle.law_counts.proofs.Rules.{state_stays}

pub opened_on : (a b : Progress) (x : Slot Request) → with_progress a (opened b x) ≡ opened a x
opened_on a b (Open (request.Abort n task)) = refl
opened_on a b (Open (request.Command n)) = refl
opened_on a b (Open (request.TargetReset address)) = refl
opened_on a b (Open (request.Leave handle)) = refl
opened_on a b (Open (request.Page handle)) = refl
opened_on a b (Open (request.Remove handle)) = refl
opened_on a b (Open (request.Ack event context)) = refl
opened_on a b (Open request.Notification) = refl
opened_on a b (Open request.PortEnable) = refl
opened_on a b Free = refl
opened_on a b Parked = refl

-- a reply in an outbox is counted
pub boxed : (q : ℕ) (boxes : List (List Said)) (queue : ℕ) (y : Said) (rest : List Said) → get_or boxes queue [] ≡ y ∷ rest → is_reply_of q y ≡ true → 1 ≤ sum_by (reply_count q) boxes
boxed q [] queue y rest e t = absurd (cc)
boxed q (b ∷ bs) Rattle.std.proofs.Common.zero y rest e t =
    let z : b ≡ y ∷ rest = e in let a = sum_by-cons (reply_count q) b bs in let c = ap (reply_count q) z in let d = reply_count-cons q y rest in let o : one_if (is_reply_of q y) ≡ 1 = ap one_if t in
    omega (arith, a, c, d, o)
boxed q (b ∷ bs) (Rattle.std.proofs.Common.suc i) y rest e t = let a = sum_by-cons (reply_count q) b bs in let c = boxed q bs i y rest e t in omega (arith, a, c)

module _ (w : World) (h : History) (f : Facts w h) (further : FabricAnswers w h) where
  -- ---- one identifier

  pub record Kept (v : World) (k : History) (q : ℕ) : Type 0 where
    pub before : 257 ≤ q → q ≤ 264 → 1 ≤ before_fabric v q → k.high q ≡ opened NotSent (slot v.host q)
    pub answers : AwaitsCount v k q

  unfoldable OnCase : World → List Entry → Type 0
  OnCase v t = is_fault v.ioc.door.state ≡ false → Leads w h v.host (history_after h t) → (q : ℕ) → Kept v (history_after h t) q

  -- it has its record still
  still : (v : World) (k : History) → Leads w h v.host k → (q : ℕ) → 257 ≤ q → q ≤ 264 → 1 ≤ before_fabric w q + asked_tokens w q → slot v.host q ≡ slot w.host q
  still v k l q a b c = let z = placed.firmly w h f q (omega (arith, a)) (omega (arith, b)) c in (stays w h f v q z.asks z.firm k l).opens ∙ sym z.firm.opens

  -- as it was
  like : (v : World) (k : History) → Leads w h v.host k → (q : ℕ) → before_fabric v q ≤ before_fabric w q → asked_tokens v q ≤ asked_tokens w q → k.high q ≡ h.high q → Kept v k q
  like v k l q b t e =
      record {
        before = λ x y c. e ∙ ((f.paths.high q x y).before (omega (arith, b, c)) ∙ ap (opened NotSent) (sym (still v k l q x y (omega (arith, b, c)))));
        answers = record {
          high = λ c. (further q).high (omega (arith, t, c));
          awaited = λ c. let y = (further q).high (omega (arith, t, c)) in e ∙ ((further q).awaited (omega (arith, t, c)) ∙ ap (opened Awaited) (sym (still v k l q y.0 y.1 (omega (arith, t, c)))));
        };
      }

  -- it is nowhere of these
  nothing : (v : World) (k : History) (q : ℕ) → (257 ≤ q → q ≤ 264 → before_fabric v q ≡ 0) → asked_tokens v q ≡ 0 → Kept v k q
  nothing v k q b t =
      record {
        before = λ x y c. let z = b x y in absurd (omega (arith, z, c));
        answers = record { high = λ c. absurd (omega (arith, t, c)); awaited = λ c. absurd (omega (arith, t, c)) };
      }

  -- no entry names any
  all_like : (v : World) (t : List Entry) → ((q : ℕ) → before_fabric v q ≤ before_fabric w q) → ((q : ℕ) → asked_tokens v q ≤ asked_tokens w q) → ((q : ℕ) → (history_after h t).high q ≡ h.high q) → OnCase v t
  unfolding OnCase
  all_like v t b s e n l q = like v (history_after h t) l q (b q) (s q) (e q)

  silent : (t : List Entry) → EachEntry IsQuiet t → (q : ℕ) → (history_after h t).high q ≡ h.high q
  silent t a q = state_stays q (h.high q) t a

  -- ---- the host puts

  posts : (d : ℕ) (g pl : List ℕ) (rest : List Down) → w.host.out ≡ downward.Post d g pl ∷ rest → DownIsRecord w h (downward.Post d g pl)
      → OnCase (record w { host = after_sent w.host (downward.Post d g pl) rest; down = w.down ++ downward.Post d g pl ∷ [] }) (entry.Put lane.Down (item.Down (downward.Post d g pl)) ∷ [])
  unfolding OnCase
  posts d g pl rest e a n l q = by_key (smid_in d == q) refl
    where
      x : Down
      x = downward.Post d g pl

      v : World
      v = record w { host = after_sent w.host x rest; down = w.down ++ x ∷ [] }

      k : History
      k = history_after h (entry.Put lane.Down (item.Down x) ∷ [])

      is : Posted w h f (record { descriptor = d; frame = g; payload = pl })
      is = posted w h f (record { descriptor = d; frame = g; payload = pl }) a

      opens : (r : Request) → slot w.host q ≡ Open r → 257 ≤ q → q ≤ 264 → opened_for r ≡ opened NotSent (Open r)
      opens (request.Abort m task) s u y = refl
      opens (request.TargetReset address) s u y = refl
      opens (request.Leave handle) s u y = refl
      opens (request.Command m) s u y = let c = classed w h f q (request.Command m) s in absurd (omega (arith, c, u))
      opens (request.Page handle) s u y = let c = classed w h f q (request.Page handle) s in absurd (omega (arith, c, y))
      opens (request.Remove handle) s u y = let c = classed w h f q (request.Remove handle) s in absurd (omega (arith, c, y))
      opens (request.Ack event context) s u y = let c = classed w h f q (request.Ack event context) s in absurd (omega (arith, c, y))
      opens request.Notification s u y = let c = classed w h f q request.Notification s in absurd (omega (arith, c, y))
      opens request.PortEnable s u y = let c = classed w h f q request.PortEnable s in absurd (omega (arith, c, y))

      by_key : (b : Bool) → (smid_in d == q) ≡ b → Kept v k q
      by_key true z =
          let s : slot w.host q ≡ Open is.asks = subst (λ j. slot w.host j ≡ Open is.asks) (eqb-true (smid_in d) q z) is.opens in
          let i = inside w h f q is.asks s in
          let p = post_count-append q w.down w.host.out in let p1 = ap (post_count q) e in let p2 = post_count-cons q x rest in let o : one_if (smid_in d == q) ≡ 1 = ap one_if z in
          let t = placed.tokens_are w h f q i.0 i.1 in
          let none : asked_tokens w q ≡ 0 = by_tokens i (placed.tokens w h f q i.0 i.1) refl p p1 p2 o t in
          record {
            before = λ u y c. ap (λ b. if b then opened_by d g else h.high q) z ∙ (is.tells.opens ∙ (opens is.asks s u y ∙ ap (opened NotSent) (sym s)));
            answers = record { high = λ c. absurd (omega (arith, none, c)); awaited = λ c. absurd (omega (arith, none, c)) };
          }
        where
          by_tokens : (i : (1 ≤ q) × (q ≤ 280)) (m : ℕ) → placed.tokens w h f q i.0 i.1 ≡ m → post_count q (down_line w) ≡ post_count q w.down + post_count q w.host.out → post_count q w.host.out ≡ post_count q (x ∷ rest) → post_count q (x ∷ rest) ≡ one_if (smid_in d == q) + post_count q rest
              → one_if (smid_in d == q) ≡ 1 → placed.tokens w h f q i.0 i.1 ≡ (asked_out q w.out + asked_out q w.ioc.out) + ends q (back_line w) → asked_tokens w q ≡ 0
          by_tokens i Rattle.std.proofs.Common.zero m p p1 p2 o t = omega (arith, m, t)
          by_tokens i (Rattle.std.proofs.Common.suc j) m p p1 p2 o t = let u = (placed.apart w h f q i.0 i.1 (omega (arith, m))).nowhere in absurd (omega (arith, u, p, p1, p2, o))
      by_key false z =
          let p = post_count-append q w.down (x ∷ []) in let p2 = post_count-cons q x [] in let p3 = post_count-nil q in let o : one_if (smid_in d == q) ≡ 0 = ap one_if z in
          like v k l q (omega (arith, p, p2, p3, o)) (omega arith) (ap (λ b. if b then opened_by d g else h.high q) z)

  puts : (x : Down) (rest : List Down) → w.host.out ≡ x ∷ rest → OnCase (record w { host = after_sent w.host x rest; down = w.down ++ x ∷ [] }) (entry.Put lane.Down (item.Down x) ∷ [])
  puts x rest e = by_item x e (All-head (DownIsRecord w h) x rest (subst (All (DownIsRecord w h)) e (all_last (DownIsRecord w h) w.down w.host.out f.messages.down)))
    where
      other : (x : Down) → ((q : ℕ) → is_posted_as q x ≡ false) → ((q : ℕ) → (history_after h (entry.Put lane.Down (item.Down x) ∷ [])).high q ≡ h.high q) → OnCase (record w { host = after_sent w.host x rest; down = w.down ++ x ∷ [] }) (entry.Put lane.Down (item.Down x) ∷ [])
      other x z g =
          all_like (record w { host = after_sent w.host x rest; down = w.down ++ x ∷ [] }) (entry.Put lane.Down (item.Down x) ∷ [])
          (λ q. let p = post_count-append q w.down (x ∷ []) in let p2 = post_count-cons q x [] in let p3 = post_count-nil q in let o : one_if (is_posted_as q x) ≡ 0 = ap one_if (z q) in omega (arith, p, p2, p3, o))
          (λ q. omega arith) g

      by_item : (x : Down) → w.host.out ≡ x ∷ rest → DownIsRecord w h x → OnCase (record w { host = after_sent w.host x rest; down = w.down ++ x ∷ [] }) (entry.Put lane.Down (item.Down x) ∷ [])
      by_item (downward.Post d g pl) e a = posts d g pl rest e a
      by_item (downward.Write reg value) e a = other (downward.Write reg value) (λ q. refl) (λ q. refl)
      by_item (downward.Read reg) e a = other (downward.Read reg) (λ q. refl) (λ q. refl)
      by_item (downward.Return address index) e a = other (downward.Return address index) (λ q. refl) (λ q. refl)
      by_item downward.Stop e a = other downward.Stop (λ q. refl) (λ q. refl)

  -- ---- the controller

  takes_down : (x : Down) (rest : List Down) → w.down ≡ x ∷ rest → OnCase (record w { ioc = (adapter.takes_down w.ioc x).part; down = rest }) (entry.Take lane.Down (item.Down x) ∷ (adapter.takes_down w.ioc x).entries)
  unfolding OnCase
  takes_down x rest e n l q =
      like (record w { ioc = (adapter.takes_down w.ioc x).part; down = rest }) (history_after h (entry.Take lane.Down (item.Down x) ∷ (adapter.takes_down w.ioc x).entries)) l q
      (let p = ap (post_count q) e in let p2 = post_count-cons q x rest in
      let z = own.takes_few q (in_ioc q w.ioc + one_if (is_posted_as q x)) w.ioc x (takes w.ioc f.doorbell.sound.waits f.clock.phase_table.whole x) n (omega arith) in
      omega (arith, p, p2, z))
      (omega arith) (silent (adapter.takes_down w.ioc x).entries (quiet _ (told_down w.ioc x)) q)

  works_high : (p : Post) (rest : List Post) → w.ioc.high ≡ p ∷ rest → OnCase (record w { ioc = (step.works_on (record w.ioc { high = rest }) p).part }) (step.works_on (record w.ioc { high = rest }) p).entries
  unfolding OnCase
  works_high p rest e n l q =
      let a = ap (queued_count q) e in let b = queued_count-cons q p rest in
      let z = own.works_few q (in_ioc q w.ioc) (record w.ioc { high = rest }) p (omega (arith, a, b)) (λ k. omega (arith, a, b)) in
      like (record w { ioc = (step.works_on (record w.ioc { high = rest }) p).part }) (history_after h (step.works_on (record w.ioc { high = rest }) p).entries) l q (omega (arith, z)) (omega arith)
      (silent (step.works_on (record w.ioc { high = rest }) p).entries (quiet _ (told_high w.ioc (p ∷ rest))) q)

  works_normal : (p : Post) (rest : List Post) → w.ioc.normal ≡ p ∷ rest → OnCase (record w { ioc = (step.works_on (record w.ioc { normal = rest }) p).part }) (step.works_on (record w.ioc { normal = rest }) p).entries
  unfolding OnCase
  works_normal p rest e n l q =
      let z = own.works_few q (in_ioc q w.ioc) (record w.ioc { normal = rest }) p (omega arith) (λ k. absurd (no_high k)) in
      like (record w { ioc = (step.works_on (record w.ioc { normal = rest }) p).part }) (history_after h (step.works_on (record w.ioc { normal = rest }) p).entries) l q (omega (arith, z)) (omega arith)
      (silent (step.works_on (record w.ioc { normal = rest }) p).entries (quiet _ (told_normal w.ioc (p ∷ rest))) q)
    where
      no_high : kind_in p.descriptor ≡ Some post.HighPriority → ⊥
      no_high k =
          let a = f.flights.sorted.normal in let b = ap (how_many (λ (p : Post). is_high p.descriptor)) e in let c = how_many-cons (λ (p : Post). is_high p.descriptor) p rest in
          let o : one_if (is_high p.descriptor) ≡ 1 = ap one_if (high_flags p.descriptor k) in omega (arith, a, b, c, o)
        where
          high_flags : (d : ℕ) → kind_in d ≡ Some post.HighPriority → is_high d ≡ true
          high_flags d k = by_tests (Rattle.mpt_wire.specs.Messages.Fields.flags_in d == 0) (Rattle.mpt_wire.specs.Messages.Fields.flags_in d == 6) (Rattle.mpt_wire.specs.Messages.Fields.flags_in d == Rattle.mpi_rings.specs.RequestDescriptor.flags_of post.Default) refl k
            where
              by_tests : (a b c : Bool) → (Rattle.mpt_wire.specs.Messages.Fields.flags_in d == 6) ≡ b → (if a then Some post.ScsiIo else if b then Some post.HighPriority else if c then Some post.Default else None) ≡ Some post.HighPriority → (Rattle.mpt_wire.specs.Messages.Fields.flags_in d == 6) ≡ true
              by_tests true b c x y = absurd (cc)
              by_tests false true c x y = x
              by_tests false false true x y = absurd (cc)
              by_tests false false false x y = absurd (cc)

  -- what is put for the fabric
  asks_out : (x : Out) (rest : List Out) (smid : ℕ) → w.ioc.out ≡ x ∷ rest → 257 ≤ smid → smid ≤ 264 → one_if (is_abort_by smid x) + one_if (is_reset_by smid x) ≡ 1
      → ((q : ℕ) → (smid == q) ≡ false → (is_abort_by q x ≡ false) × (is_reset_by q x ≡ false)) → ((q : ℕ) → (history_after h (entry.Put lane.Out (item.Out x) ∷ [])).high q ≡ (if smid == q then with_progress Awaited (h.high q) else h.high q))
      → OnCase (record w { ioc = record w.ioc { out = rest }; out = w.out ++ x ∷ [] }) (entry.Put lane.Out (item.Out x) ∷ [])
  unfolding OnCase
  asks_out x rest smid e u y one other is n l q = by_key (smid == q) refl
    where
      v : World
      v = record w { ioc = record w.ioc { out = rest }; out = w.out ++ x ∷ [] }

      k : History
      k = history_after h (entry.Put lane.Out (item.Out x) ∷ [])

      by_key : (b : Bool) → (smid == q) ≡ b → Kept v k q
      by_key false z =
          let g = other q z in let o1 : one_if (is_abort_by q x) ≡ 0 = ap one_if g.0 in let o2 : one_if (is_reset_by q x) ≡ 0 = ap one_if g.1 in
          let a = ap (asked_out q) e in let b = own.first_out q x rest in let c = own.one_out q w.out x in
          like v k l q (omega (arith, a, b)) (omega (arith, c, o1, o2)) (is q ∙ ap (λ b. if b then with_progress Awaited (h.high q) else h.high q) z)
      by_key true z = subst (Kept v k) (eqb-true smid q z) mine
        where
          mine : Kept v k smid
          mine =
              let a = ap (asked_out smid) e in let b = own.first_out smid x rest in
              let t = placed.tokens_are w h f smid (omega (arith, u)) (omega (arith, y)) in
              let ap1 = placed.apart w h f smid (omega (arith, u)) (omega (arith, y)) (omega (arith, t, a, b, one)) in
              let nw = ap1.nowhere in let most = ap1.one in
              let p = post_count-append smid w.down w.host.out in
              let none : before_fabric v smid ≡ 0 = omega (arith, nw, most, p, t, a, b, one) in
              let was = (f.paths.high smid u y).before (omega (arith, a, b, one)) in
              record {
                before = λ c1 c2 c. absurd (omega (arith, none, c));
                answers = record {
                  high = λ c. (u, y);
                  awaited = λ c. is smid ∙ (ap (λ b. if b then with_progress Awaited (h.high smid) else h.high smid) (same smid) ∙ (ap (with_progress Awaited) was ∙ opened_on Awaited NotSent (slot w.host smid)));
                };
              }

  pub abort_there : (smid task : ℕ) (x : Slot Request) → slot w.host smid ≡ x → AbortSent task x → (257 ≤ smid) × (smid ≤ 264)
  abort_there smid task (Open (request.Abort n t)) e a = let c = classed w h f smid (request.Abort n t) e in (omega (arith, c), omega (arith, c))
  abort_there smid task Free e a = absurd a
  abort_there smid task Parked e a = absurd a
  abort_there smid task (Open (request.Command n)) e a = absurd a
  abort_there smid task (Open (request.TargetReset address)) e a = absurd a
  abort_there smid task (Open (request.Leave handle)) e a = absurd a
  abort_there smid task (Open (request.Page handle)) e a = absurd a
  abort_there smid task (Open (request.Remove handle)) e a = absurd a
  abort_there smid task (Open (request.Ack event context)) e a = absurd a
  abort_there smid task (Open request.Notification) e a = absurd a
  abort_there smid task (Open request.PortEnable) e a = absurd a

  puts_out : (x : Out) (rest : List Out) → w.ioc.out ≡ x ∷ rest → OnCase (record w { ioc = record w.ioc { out = rest }; out = w.out ++ x ∷ [] }) (entry.Put lane.Out (item.Out x) ∷ [])
  puts_out x rest e = by_item x e (All-head (OutIs w h) x rest (subst (All (OutIs w h)) e (all_last (OutIs w h) w.out w.ioc.out f.messages.out)))
    where
      others : (x : Out) → w.ioc.out ≡ x ∷ rest → ((q : ℕ) → (is_abort_by q x ≡ false) × (is_reset_by q x ≡ false)) → ((q : ℕ) → (history_after h (entry.Put lane.Out (item.Out x) ∷ [])).high q ≡ h.high q) → OnCase (record w { ioc = record w.ioc { out = rest }; out = w.out ++ x ∷ [] }) (entry.Put lane.Out (item.Out x) ∷ [])
      others x e z g =
          all_like (record w { ioc = record w.ioc { out = rest }; out = w.out ++ x ∷ [] }) (entry.Put lane.Out (item.Out x) ∷ [])
          (λ q. let a = ap (asked_out q) e in let b = own.first_out q x rest in omega (arith, a, b))
          (λ q. let c = own.one_out q w.out x in let y = z q in let o1 : one_if (is_abort_by q x) ≡ 0 = ap one_if y.0 in let o2 : one_if (is_reset_by q x) ≡ 0 = ap one_if y.1 in omega (arith, c, o1, o2)) g

      by_item : (x : Out) → w.ioc.out ≡ x ∷ rest → OutIs w h x → OnCase (record w { ioc = record w.ioc { out = rest }; out = w.out ++ x ∷ [] }) (entry.Put lane.Out (item.Out x) ∷ [])
      by_item (out.Abort smid task) e a =
          let c = abort_there smid task (slot w.host smid) refl a in
          asks_out (out.Abort smid task) rest smid e c.0 c.1 (let o : one_if (smid == smid) ≡ 1 = ap one_if (same smid) in omega (arith, o)) (λ q z. (z, refl)) (λ q. refl)
      by_item (out.TargetReset smid address) e a =
          let c = classed w h f smid (request.TargetReset address) a in
          asks_out (out.TargetReset smid address) rest smid e (omega (arith, c)) (omega (arith, c)) (let o : one_if (smid == smid) ≡ 1 = ap one_if (same smid) in omega (arith, o)) (λ q z. (refl, z)) (λ q. refl)
      by_item (out.Task tag address command) e a = others (out.Task tag address command) e (λ q. (refl, refl)) (λ q. refl)
      by_item out.Discover e a = others out.Discover e (λ q. (refl, refl)) (λ q. refl)
      by_item (out.Link generation) e a = others (out.Link generation) e (λ q. (refl, refl)) (λ q. refl)
      by_item out.Stop e a = others out.Stop e (λ q. (refl, refl)) (λ q. refl)

  -- what is taken from the fabric
  hears_end : (x : Back) (rest : List Back) (smid : ℕ) → w.back ≡ x ∷ rest → one_if (is_abort_end_of smid x) + one_if (is_reset_end_of smid x) ≡ 1
      → (g : HighPost → HighPost) → ((q : ℕ) → high_next q (h.high q) (entry.Take lane.Back (item.Back x)) ≡ (if smid == q then g (h.high q) else h.high q))
      → OnCase (record w { ioc = (adapter.takes_back w.ioc x).part; back = rest }) (entry.Take lane.Back (item.Back x) ∷ (adapter.takes_back w.ioc x).entries)
  unfolding OnCase
  hears_end x rest smid e one g is n l q = by_key (smid == q) refl
    where
      v : World
      v = record w { ioc = (adapter.takes_back w.ioc x).part; back = rest }

      k : History
      k = history_after h (entry.Take lane.Back (item.Back x) ∷ (adapter.takes_back w.ioc x).entries)

      after : (j : ℕ) → k.high j ≡ high_next j (h.high j) (entry.Take lane.Back (item.Back x))
      after j = state_stays j (high_next j (h.high j) (entry.Take lane.Back (item.Back x))) (adapter.takes_back w.ioc x).entries (quiet _ (told_back w.ioc x))

      line : (j : ℕ) → ends j (back_line w) ≡ (one_if (is_abort_end_of j x) + one_if (is_reset_end_of j x)) + ends j (rest ++ w.fabric.out)
      line j = ap (λ xs. ends j (xs ++ w.fabric.out)) e ∙ told.first_end j x (rest ++ w.fabric.out)

      by_key : (b : Bool) → (smid == q) ≡ b → Kept v k q
      by_key false z =
          let a = line q in let c = own.back_few q (in_ioc q w.ioc) w.ioc x (omega arith) in
          like v k l q (omega (arith, c)) (omega (arith, a)) (after q ∙ (is q ∙ ap (λ b. if b then g (h.high q) else h.high q) z))
      by_key true z = subst (Kept v k) (eqb-true smid q z) mine
        where
          mine : Kept v k smid
          mine =
              let a = line smid in
              let i = (further smid).high (omega (arith, a, one)) in let i0 = i.0 in let i1 = i.1 in
              let t = placed.tokens_are w h f smid (omega (arith, i0)) (omega (arith, i1)) in
              let ap1 = placed.apart w h f smid (omega (arith, i0)) (omega (arith, i1)) (omega (arith, t, a, one)) in
              let nw = ap1.nowhere in let most = ap1.one in
              let p = post_count-append smid w.down w.host.out in
              let c = own.back_few smid (in_ioc smid w.ioc) w.ioc x (omega arith) in
              nothing v k smid (λ u y. omega (arith, nw, most, p, t, a, one, c)) (omega (arith, most, t, a, one))

  hears_back : (x : Back) (rest : List Back) → w.back ≡ x ∷ rest → OnCase (record w { ioc = (adapter.takes_back w.ioc x).part; back = rest }) (entry.Take lane.Back (item.Back x) ∷ (adapter.takes_back w.ioc x).entries)
  hears_back x rest e = by_item x e
    where
      others : (x : Back) → w.back ≡ x ∷ rest → ((q : ℕ) → high_next q (h.high q) (entry.Take lane.Back (item.Back x)) ≡ h.high q) → OnCase (record w { ioc = (adapter.takes_back w.ioc x).part; back = rest }) (entry.Take lane.Back (item.Back x) ∷ (adapter.takes_back w.ioc x).entries)
      others x e is =
          all_like (record w { ioc = (adapter.takes_back w.ioc x).part; back = rest }) (entry.Take lane.Back (item.Back x) ∷ (adapter.takes_back w.ioc x).entries)
          (λ q. let c = own.back_few q (in_ioc q w.ioc) w.ioc x (omega arith) in omega (arith, c))
          (λ q. let a : ends q (back_line w) ≡ (one_if (is_abort_end_of q x) + one_if (is_reset_end_of q x)) + ends q (rest ++ w.fabric.out) = ap (λ xs. ends q (xs ++ w.fabric.out)) e ∙ told.first_end q x (rest ++ w.fabric.out) in omega (arith, a))
          (λ q. state_stays q (high_next q (h.high q) (entry.Take lane.Back (item.Back x))) (adapter.takes_back w.ioc x).entries (quiet _ (told_back w.ioc x)) ∙ is q)

      by_item : (x : Back) → w.back ≡ x ∷ rest → OnCase (record w { ioc = (adapter.takes_back w.ioc x).part; back = rest }) (entry.Take lane.Back (item.Back x) ∷ (adapter.takes_back w.ioc x).entries)
      by_item (back.Aborted smid found) e = hears_end (back.Aborted smid found) rest smid e (let o : one_if (smid == smid) ≡ 1 = ap one_if (same smid) in omega (arith, o)) (with_progress (Counted (count_found found))) (λ q. refl)
      by_item (back.Cleared smid count) e = hears_end (back.Cleared smid count) rest smid e (let o : one_if (smid == smid) ≡ 1 = ap one_if (same smid) in omega (arith, o)) (with_progress (Counted count)) (λ q. refl)
      by_item (back.Result tag r) e = others (back.Result tag r) e (λ q. refl)
      by_item (back.Gone tag) e = others (back.Gone tag) e (λ q. refl)
      by_item (back.Terminated tag) e = others (back.Terminated tag) e (λ q. refl)
      by_item (back.Plugged a p c d) e = others (back.Plugged a p c d) e (λ q. refl)
      by_item (back.Unplugged a p c d) e = others (back.Unplugged a p c d) e (λ q. refl)
      by_item back.Discovered e = others back.Discovered e (λ q. refl)
      by_item (back.Linked generation) e = others (back.Linked generation) e (λ q. refl)
      by_item back.Calm e = others back.Calm e (λ q. refl)

  -- ---- a reply is put

  pub low : (queue : ℕ) (y : Said) → SaidIs w h queue y → (s : ℕ) → is_reply_of s y ≡ true → s < 65536
  low queue (said.Framed Rattle.std.proofs.Common.zero frame page sense) a s t = let z : 0 ≡ s = eqb-true 0 s t in omega (arith, z)
  low queue (said.Framed (Rattle.std.proofs.Common.suc j) frame page sense) a s t = by_slot (slot w.host (Rattle.std.proofs.Common.suc j)) refl a
    where
      by_slot : (x : Slot Request) → slot w.host (Rattle.std.proofs.Common.suc j) ≡ x → AnswersBy w h queue (Rattle.std.proofs.Common.suc j) (said.Framed (Rattle.std.proofs.Common.suc j) frame page sense) x → s < 65536
      by_slot (Open r) e b = let i = inside w h f (Rattle.std.proofs.Common.suc j) r e in let z : Rattle.std.proofs.Common.suc j ≡ s = eqb-true (Rattle.std.proofs.Common.suc j) s t in omega (arith, i, z)
      by_slot Free e b = absurd b
      by_slot Parked e b = absurd b
  low queue (said.Success j page sense) a s t = by_slot (slot w.host j) refl a
    where
      by_slot : (x : Slot Request) → slot w.host j ≡ x → AnswersBy w h queue j (said.Success j page sense) x → s < 65536
      by_slot (Open r) e b = let i = inside w h f j r e in let z : j ≡ s = eqb-true j s t in omega (arith, i, z)
      by_slot Free e b = absurd b
      by_slot Parked e b = absurd b
  low queue (said.Value value) a s t = absurd (cc)
  low queue (said.Mark generation) a s t = absurd (cc)
  low queue said.Calm a s t = absurd (cc)

  abbrev behind_put : ℕ → Up → World
  behind_put queue x = with_up (record w { ioc = adapter.up_sent_on w.ioc queue }) queue (up_on w queue ++ x ∷ [])

  abbrev said_put : ℕ → Up → History
  said_put queue x = history_after h (entry.Put (up_lane queue) (item.Up x) ∷ [])

  puts_up : (queue : ℕ) (y : Said) (rest : List Said) (z : Up) → outbox_of w.ioc queue ≡ y ∷ rest → up_of y (slice_get w.ioc.ring 0) ≡ Some z
      → OnCase (with_up (record w { ioc = adapter.up_sent_on w.ioc queue }) queue (up_on w queue ++ z ∷ [])) (entry.Put (up_lane queue) (item.Up z) ∷ [])
  unfolding OnCase
  puts_up queue y rest z e u n l q = by_item z (same_identifier q y (slice_get w.ioc.ring 0) z (low queue y is) u) l
    where
      is : SaidIs w h queue y
      is = All-head (SaidIs w h queue) y rest (subst (All (SaidIs w h queue)) e (all_last (SaidIs w h queue) (Rattle.std.proofs.Common.map said_of (up_on w queue)) (outbox_of w.ioc queue) (f.messages.said queue)))

      as_was : (x : Up) → Leads w h w.host (said_put queue x) → (said_put queue x).high q ≡ h.high q → Kept (behind_put queue x) (said_put queue x) q
      as_was x l g = like (behind_put queue x) (said_put queue x) l q (omega arith) (omega arith) g

      replied : (d : ℕ) (frame : Option (List ℕ)) (page sense : List ℕ) → (smid_in d == q) ≡ is_reply_of q y → Leads w h w.host (said_put queue (upward.Reply d frame page sense)) → Kept (behind_put queue (upward.Reply d frame page sense)) (said_put queue (upward.Reply d frame page sense)) q
      replied d frame page sense g l = by_key (smid_in d == q) refl
        where
          by_key : (b : Bool) → (smid_in d == q) ≡ b → Kept (behind_put queue (upward.Reply d frame page sense)) (said_put queue (upward.Reply d frame page sense)) q
          by_key false t = as_was (upward.Reply d frame page sense) l (ap (λ b. if b then closed (h.high q) else h.high q) t)
          by_key true t = nothing (behind_put queue (upward.Reply d frame page sense)) (said_put queue (upward.Reply d frame page sense)) q none_before (by_tokens (asked_tokens w q) refl)
            where
              counted : 1 ≤ sum_by (reply_count q) w.ioc.up
              counted = boxed q w.ioc.up queue y rest e (sym g ∙ t)

              none : (257 ≤ q) → (q ≤ 264) → before_fabric w q + asked_tokens w q ≡ 0
              none a b =
                  let m = (f.flights.identifiers q (omega (arith, a)) (omega (arith, b))).at_most in let c = counted in
                  let p = post_count-append q w.down w.host.out in
                  let t = placed.tokens_are w h f q (omega (arith, a)) (omega (arith, b)) in
                  by_all (placed.tokens w h f q (omega (arith, a)) (omega (arith, b))) refl (omega (arith, m, c, p)) t
                where
                  by_all : (j : ℕ) → placed.tokens w h f q (omega (arith, a)) (omega (arith, b)) ≡ j → post_count q w.down + (queued_count q w.ioc.high + how_many (is_held_as q) w.ioc.held) ≡ 0
                      → placed.tokens w h f q (omega (arith, a)) (omega (arith, b)) ≡ (asked_out q w.out + asked_out q w.ioc.out) + ends q (back_line w) → before_fabric w q + asked_tokens w q ≡ 0
                  by_all Rattle.std.proofs.Common.zero r s t = omega (arith, r, s, t)
                  by_all (Rattle.std.proofs.Common.suc j) r s t = let x = (placed.apart w h f q (omega (arith, a)) (omega (arith, b)) (omega (arith, r))).nowhere in let c = counted in absurd (omega (arith, x, c))

              none_before : 257 ≤ q → q ≤ 264 → before_fabric w q ≡ 0
              none_before a b = let z = none a b in omega (arith, z)

              by_tokens : (j : ℕ) → asked_tokens w q ≡ j → asked_tokens w q ≡ 0
              by_tokens Rattle.std.proofs.Common.zero r = r
              by_tokens (Rattle.std.proofs.Common.suc j) r = let i = (further q).high (omega (arith, r)) in let z = none i.0 i.1 in omega (arith, z)

      by_item : (x : Up) → is_reply_of q (said_of x) ≡ is_reply_of q y → Leads w h w.host (said_put queue x) → Kept (behind_put queue x) (said_put queue x) q
      by_item (upward.Reply d None page sense) g l = replied d None page sense g l
      by_item (upward.Reply d (Some frame) page sense) g l = replied d (Some frame) page sense g l
      by_item (upward.Value value) g l = as_was (upward.Value value) l refl
      by_item (upward.Mark generation) g l = as_was (upward.Mark generation) l refl
      by_item upward.Calm g l = as_was upward.Calm l refl

  -- ---- the fabric

  by_fabric : (g : Fabric) (lane : List Out) (t : List Entry) → ((q : ℕ) → asked_out q lane + ends q g.out ≤ asked_out q w.out + ends q w.fabric.out) → ((q : ℕ) → (history_after h t).high q ≡ h.high q) → OnCase (record w { fabric = g; out = lane }) t
  by_fabric g lane t c e =
      all_like (record w { fabric = g; out = lane }) t (λ q. omega arith)
      (λ q. let a = told.both_ends q w.back g.out in let b = told.both_ends q w.back w.fabric.out in let d = c q in omega (arith, a, b, d)) e

  fabric_takes : (x : Out) (rest : List Out) → w.out ≡ x ∷ rest → OnCase (record w { fabric = fab.takes_out w.fabric x; out = rest }) (entry.Take lane.Out (item.Out x) ∷ [])
  fabric_takes x rest e =
      by_fabric (fab.takes_out w.fabric x) rest (entry.Take lane.Out (item.Out x) ∷ [])
      (λ q. let a = told.takes_ends q w.fabric x in let b = ap (asked_out q) e in let c = own.first_out q x rest in omega (arith, a, b, c)) (λ q. refl)

  notice_is : (x : Back) (rest : List Back) → w.fabric.notices ≡ x ∷ rest → is_notice x ≡ true
  notice_is x rest e = by_one (is_notice x) (let a = f.notices.fit.kinds in let b = ap (others is_notice) e in let c = others-cons is_notice x rest in omega (arith, a, b, c))
    where
      by_one : (b : Bool) → one_if (not b) ≡ 0 → b ≡ true
      by_one true z = refl
      by_one false z = absurd (omega (arith, z))

  no_end_noticed : (q : ℕ) (x : Back) → is_notice x ≡ true → one_if (is_abort_end_of q x) + one_if (is_reset_end_of q x) ≡ 0
  no_end_noticed q (back.Plugged a p c d) e = refl
  no_end_noticed q (back.Unplugged a p c d) e = refl
  no_end_noticed q (back.Result tag r) e = absurd (cc)
  no_end_noticed q (back.Gone tag) e = absurd (cc)
  no_end_noticed q (back.Terminated tag) e = absurd (cc)
  no_end_noticed q (back.Aborted smid found) e = absurd (cc)
  no_end_noticed q (back.Cleared smid count) e = absurd (cc)
  no_end_noticed q back.Discovered e = absurd (cc)
  no_end_noticed q (back.Linked generation) e = absurd (cc)
  no_end_noticed q back.Calm e = absurd (cc)

  fabric_says : (x : Back) (rest : List Back) → w.fabric.notices ≡ x ∷ rest → OnCase (record w { fabric = record w.fabric { notices = rest; out = w.fabric.out ++ x ∷ [] } }) []
  fabric_says x rest e =
      by_fabric (record w.fabric { notices = rest; out = w.fabric.out ++ x ∷ [] }) w.out []
      (λ q. let a = told.last_end q w.fabric.out x in let b = no_end_noticed q x (notice_is x rest e) in omega (arith, a, b)) (λ q. refl)

  fabric_puts : (x : Back) (rest : List Back) → w.fabric.out ≡ x ∷ rest → OnCase (record w { fabric = record w.fabric { out = rest }; back = w.back ++ x ∷ [] }) (entry.Put lane.Back (item.Back x) ∷ [])
  fabric_puts x rest e =
      all_like (record w { fabric = record w.fabric { out = rest }; back = w.back ++ x ∷ [] }) (entry.Put lane.Back (item.Back x) ∷ []) (λ q. omega arith)
      (λ q. let a = told.both_ends q (w.back ++ x ∷ []) rest in let b = told.last_end q w.back x in let c = told.both_ends q w.back w.fabric.out in let d = ap (ends q) e in let g = told.first_end q x rest in omega (arith, a, b, c, d, g)) (λ q. refl)

  -- ---- each case

  host_only : (x : Rattle.mpt_rules.specs.Host.Parts.Host) (lanes : List (List Up)) (t : List Entry) → ((q : ℕ) → (history_after h t).high q ≡ h.high q) → OnCase (record w { host = x; up = lanes }) t
  host_only x lanes t e = all_like (record w { host = x; up = lanes }) t (λ q. omega arith) (λ q. omega arith) e

  owes : OwesTold OnCase w
  owes =
      record {
        idles = λ c. all_like w (entry.Idle c ∷ []) (λ q. omega arith) (λ q. omega arith) (λ q. refl);
        host_puts = puts;
        host_takes = λ queue x rest e y. host_only (hears_up w.host queue x).part (with_up w queue rest).up (entry.Take (up_lane queue) (item.Up x) ∷ (hears_up w.host queue x).entries) (λ q. state_stays q (h.high q) (hears_up w.host queue x).entries (quiet_taken w.host queue x None));
        host_told = λ i c. host_only (host_told w.host i).part w.up (host_told w.host i).entries (silent (host_told w.host i).entries (quiet (host_told w.host i).entries (told_input w.host i)));
        host_looks = λ e. host_only (looks w.host) w.up [] (λ q. refl);
        host_stops = λ e. host_only (stops w.host) w.up [] (λ q. refl);
        no_session = all_like w [] (λ q. omega arith) (λ q. omega arith) (λ q. refl);
        ioc_takes = takes_down;
        ioc_high = works_high;
        ioc_normal = works_normal;
        ioc_puts_out = puts_out;
        ioc_takes_back = hears_back;
        ioc_puts = puts_up;
        fabric_takes = fabric_takes;
        fabric_says = fabric_says;
        fabric_puts = fabric_puts;
        fabric_runs = λ tag address e. by_fabric (fab.runs w.fabric tag).part w.out (entry.Run address tag ∷ []) (λ q. let a = told.runs_ends q w.fabric tag in omega (arith, a)) (λ q. refl);
        plugs = λ address expander phy t p. by_fabric (fab.fabric_plugs w.fabric address expander phy).part w.out t (λ q. let a = told.plugs_ends q w.fabric address expander phy in omega (arith, a)) (silent t (quiet_plug t p));
        unplugs = λ address t p. by_fabric (fab.fabric_unplugs w.fabric address).part w.out t (λ q. let a = told.unplugs_ends q w.fabric address in omega (arith, a)) (silent t (quiet_plug t p));
        calms = by_fabric (fab.calms w.fabric) w.out [] (λ q. let a = told.last_end q w.fabric.out back.Calm in omega (arith, a)) (λ q. refl);
      }

  pub progress_kept : NothingIsStrange w → (c : Case) → is_fault (happens w c).ioc.door.state ≡ false → Leads w h (happens w c).host (history_after h (entries w c)) → (q : ℕ) → Kept (happens w c) (history_after h (entries w c)) q
  unfolding OnCase
  progress_kept plain c n l = kept_told OnCase w plain owes c n l
