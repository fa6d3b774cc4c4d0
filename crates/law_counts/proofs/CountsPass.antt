-- The entries of a case pass the rule of counts.
use Rattle.std.proofs.Common.{◌≡◌, ℕ, ◌+◌, ◌<◌, ◌≤◌, ◌==◌, nat_le, not, Bool, true, false, if◌then◌else◌, List, [], ◌∷◌, ◌++◌, map, slice_get, Option, Some, None, refl, ap, sym, ◌∙◌, subst, arith}
use Rattle.std.specs.Bool.{MatchBool}
use Rattle.std.specs.Prelude.{All}
use Rattle.std.proofs.lemmas.Bool.{eqb-true}
use Rattle.std.proofs.lemmas.List.Elements.{All-head}
use Rattle.smid_pool.specs.Pool.{Slot, Free, Open, Parked}
use Rattle.mpt_wire.specs.Messages.Fields.{address_descriptor, reply_frame_address, smid_in, success_descriptor, termination_count_in}
use Rattle.mpt_wire.specs.Paths.TerminationCounts.{AReset, AbortIsAwaited, AnAbort, Awaited, CountIs, HighAsks, NoPost, NotSent, high_next}
use Rattle.mpt_wire.specs.Walks.Passes.{EachEntry, Passes}
use Rattle.mpt_trace.specs.declared.entry.Entry.{Entry}
use Rattle.mpt_trace.specs.declared.entry.Entry.TheVariants as entry
use Rattle.mpt_trace.specs.declared.item.Back.{Back}
use Rattle.mpt_trace.specs.declared.item.Back.TheVariants as back
use Rattle.mpt_trace.specs.declared.item.Down.{Down}
use Rattle.mpt_trace.specs.declared.item.Down.TheVariants as downward
use Rattle.mpt_trace.specs.declared.item.Item.TheVariants as item
use Rattle.mpt_trace.specs.declared.item.Out.{Out}
use Rattle.mpt_trace.specs.declared.item.Out.TheVariants as out
use Rattle.mpt_trace.specs.declared.item.Up.{Up}
use Rattle.mpt_trace.specs.declared.item.Up.TheVariants as upward
use Rattle.mpt_trace.specs.declared.lane.LaneName.TheVariants as lane
use Rattle.mpt_rules.specs.declared.request.Request.{Request}
use Rattle.mpt_rules.specs.declared.request.Request.TheVariants as request
use Rattle.mpt_rules.specs.declared.said.Said.{Said}
use Rattle.mpt_rules.specs.declared.said.Said.TheVariants as said
use Rattle.mpt_rules.specs.Host.Takes.{hears_up}
use Rattle.mpt_rules.specs.Ioc.Replies.{outbox_of}
use Rattle.mpt_rules.specs.Ioc.Sending.{framed_up, up_of}
use Rattle.mpt_rules.specs.Ioc.Steps as step
use Rattle.mpt_rules.specs.Ioc.Takes as adapter
use Rattle.mpt_rules.specs.Law.{NothingIsStrange}
use Rattle.mpt_rules.specs.World.Cases.{Case, entries}
use Rattle.mpt_rules.specs.World.Counts.{one_if}
use Rattle.mpt_rules.specs.World.FabricCounts.{abort_end_count, reset_end_count}
use Rattle.mpt_rules.specs.World.Inputs.{host_told}
use Rattle.mpt_rules.specs.World.Lines.{said_of}
use Rattle.mpt_rules.specs.World.State.{World, up_lane, up_on}
use Rattle.mpt_rules.proofs.FabricCounts.{abort_end_count-cons, reset_end_count-cons}
use Rattle.law_facts.specs.Facts.{Facts}
use Rattle.law_facts.specs.History.{History}
use Rattle.law_facts.specs.Messages.{AbortSent, AnswersBy, OutIs, SaidIs}
use Rattle.law_facts.specs.Paths.{CountOf, opened}
use Rattle.law_facts.specs.Words.{is_abort_asked, is_target_asked, slot}
use Rattle.law_flights.proofs.Descriptors.{smid_addressed, smid_succeeded}
use Rattle.law_flights.proofs.HostQuiet.{IsQuiet, quiet, quiet_taken}
use Rattle.law_flights.proofs.HostTold.{told_input}
use Rattle.law_flights.proofs.IocTold.{told_back, told_down, told_high, told_normal}
use Rattle.law_moves.proofs.CasesTold.{OwesTold, kept_told}
use Rattle.law_messages.proofs.Agreeing.{all_last, same}
use Rattle.law_messages.proofs.Known.{classed}
use Rattle.law_counts.specs.Counted.{FabricAnswers}
use Rattle.law_counts.proofs.IocAsks as own
use Rattle.law_counts.proofs.Placed as placed
use Rattle.law_counts.proofs.ProgressKept as progress
use Rattle.law_counts.proofs.Quiet.{quiet_plug}
use Rattle.law_counts.proofs.Rules.{passes_over}

matches : (b : Bool) (X : Type 0) → (b ≡ true → X) → MatchBool b X (Unit {0})
matches true X x = x refl
matches false X x = tt

abort_awaited : (x : Slot Request) → is_abort_asked x ≡ true → AbortIsAwaited (opened Awaited x)
abort_awaited (Open (request.Abort n task)) e = tt
abort_awaited Free e = absurd (cc)
abort_awaited Parked e = absurd (cc)
abort_awaited (Open (request.Command n)) e = absurd (cc)
abort_awaited (Open (request.TargetReset address)) e = absurd (cc)
abort_awaited (Open (request.Leave handle)) e = absurd (cc)
abort_awaited (Open (request.Page handle)) e = absurd (cc)
abort_awaited (Open (request.Remove handle)) e = absurd (cc)
abort_awaited (Open (request.Ack event context)) e = absurd (cc)
abort_awaited (Open request.Notification) e = absurd (cc)
abort_awaited (Open request.PortEnable) e = absurd (cc)

reset_awaited : (x : Slot Request) → is_target_asked x ≡ true → opened Awaited x ≡ AReset Awaited
reset_awaited (Open (request.TargetReset address)) e = refl
reset_awaited Free e = absurd (cc)
reset_awaited Parked e = absurd (cc)
reset_awaited (Open (request.Command n)) e = absurd (cc)
reset_awaited (Open (request.Abort n task)) e = absurd (cc)
reset_awaited (Open (request.Leave handle)) e = absurd (cc)
reset_awaited (Open (request.Page handle)) e = absurd (cc)
reset_awaited (Open (request.Remove handle)) e = absurd (cc)
reset_awaited (Open (request.Ack event context)) e = absurd (cc)
reset_awaited (Open request.Notification) e = absurd (cc)
reset_awaited (Open request.PortEnable) e = absurd (cc)

abort_unsent : (task : ℕ) (x : Slot Request) → AbortSent task x → opened NotSent x ≡ AnAbort task NotSent
abort_unsent task (Open (request.Abort n t)) a = ap (λ m. AnAbort m NotSent) a
abort_unsent task Free a = absurd a
abort_unsent task Parked a = absurd a
abort_unsent task (Open (request.Command n)) a = absurd a
abort_unsent task (Open (request.TargetReset address)) a = absurd a
abort_unsent task (Open (request.Leave handle)) a = absurd a
abort_unsent task (Open (request.Page handle)) a = absurd a
abort_unsent task (Open (request.Remove handle)) a = absurd a
abort_unsent task (Open (request.Ack event context)) a = absurd a
abort_unsent task (Open request.Notification) a = absurd a
abort_unsent task (Open request.PortEnable) a = absurd a

module _ (w : World) (h : History) (f : Facts w h) (further : FabricAnswers w h) (q : ℕ) where
  OnCase : World → List Entry → Type 0
  OnCase v t = Passes (high_next q) (HighAsks q) (h.high q) t

  silent : (v : World) (t : List Entry) → EachEntry IsQuiet t → OnCase v t
  unfolding OnCase
  silent v t a = passes_over q (h.high q) t a

  behind : (v : World) (e : Entry) (t : List Entry) → HighAsks q (h.high q) e → EachEntry IsQuiet t → OnCase v (e ∷ t)
  unfolding OnCase
  behind v e t a b = (a, passes_over q (high_next q (h.high q) e) t b)

  puts : (x : Down) → HighAsks q (h.high q) (entry.Put lane.Down (item.Down x))
  puts (downward.Post d g p) = tt
  puts (downward.Write reg value) = tt
  puts (downward.Read reg) = tt
  puts (downward.Return address index) = tt
  puts downward.Stop = tt

  -- ---- what is put for the fabric

  out_asks : (x : Out) (rest : List Out) → w.ioc.out ≡ x ∷ rest → HighAsks q (h.high q) (entry.Put lane.Out (item.Out x))
  out_asks x rest e = by_item x e (All-head (OutIs w h) x rest (subst (All (OutIs w h)) e (all_last (OutIs w h) w.out w.ioc.out f.messages.out)))
    where
      by_item : (x : Out) → w.ioc.out ≡ x ∷ rest → OutIs w h x → HighAsks q (h.high q) (entry.Put lane.Out (item.Out x))
      by_item (out.Abort smid task) e a = matches (smid == q) (h.high q ≡ AnAbort task NotSent) asks
        where
          asks : (smid == q) ≡ true → h.high q ≡ AnAbort task NotSent
          asks z =
              let m = eqb-true smid q z in
              let s = subst (λ j. AbortSent task (slot w.host j)) m a in
              let c = progress.abort_there w h f further q task (slot w.host q) refl s in
              let b = own.first_out q (out.Abort smid task) rest in let d = ap (own.asked_out q) e in let o : one_if (smid == q) ≡ 1 = ap one_if z in
              (f.paths.high q c.0 c.1).before (omega (arith, b, d, o)) ∙ abort_unsent task (slot w.host q) s
      by_item (out.TargetReset smid address) e a = matches (smid == q) (h.high q ≡ AReset NotSent) asks
        where
          asks : (smid == q) ≡ true → h.high q ≡ AReset NotSent
          asks z =
              let s = subst (λ j. slot w.host j ≡ Open (request.TargetReset address)) (eqb-true smid q z) a in
              let c = classed w h f q (request.TargetReset address) s in
              let b = own.first_out q (out.TargetReset smid address) rest in let d = ap (own.asked_out q) e in let o : one_if (smid == q) ≡ 1 = ap one_if z in
              (f.paths.high q (omega (arith, c)) (omega (arith, c))).before (omega (arith, b, d, o)) ∙ ap (opened NotSent) s
      by_item (out.Task tag address command) e a = tt
      by_item out.Discover e a = tt
      by_item (out.Link generation) e a = tt
      by_item out.Stop e a = tt

  -- ---- what the fabric tells

  back_asks : (x : Back) (rest : List Back) → w.back ≡ x ∷ rest → HighAsks q (h.high q) (entry.Take lane.Back (item.Back x))
  back_asks (back.Aborted smid found) rest e = matches (smid == q) (AbortIsAwaited (h.high q)) asks
    where
      asks : (smid == q) ≡ true → AbortIsAwaited (h.high q)
      asks z =
          let o : one_if (smid == q) ≡ 1 = ap one_if z in
          let a = abort_end_count-cons q (back.Aborted smid found) (rest ++ w.fabric.out) in
          let b = ap (λ xs. abort_end_count q (xs ++ w.fabric.out)) e in
          let i = (further q).high (omega (arith, o, a, b)) in let i0 = i.0 in let i1 = i.1 in
          let n = (further q).awaited (omega (arith, o, a, b)) in
          let s = placed.abort_asked w h f q (omega (arith, i0)) (omega (arith, i1)) (omega (arith, o, a, b)) in
          subst AbortIsAwaited (sym n) (abort_awaited (slot w.host q) s)
  back_asks (back.Cleared smid count) rest e = matches (smid == q) (h.high q ≡ AReset Awaited) asks
    where
      asks : (smid == q) ≡ true → h.high q ≡ AReset Awaited
      asks z =
          let o : one_if (smid == q) ≡ 1 = ap one_if z in
          let a = reset_end_count-cons q (back.Cleared smid count) (rest ++ w.fabric.out) in
          let b = ap (λ xs. reset_end_count q (xs ++ w.fabric.out)) e in
          let i = (further q).high (omega (arith, o, a, b)) in let i0 = i.0 in let i1 = i.1 in
          let n = (further q).awaited (omega (arith, o, a, b)) in
          let s = placed.reset_asked w h f q (omega (arith, i0)) (omega (arith, i1)) (omega (arith, o, a, b)) in
          n ∙ reset_awaited (slot w.host q) s
  back_asks (back.Result tag r) rest e = tt
  back_asks (back.Gone tag) rest e = tt
  back_asks (back.Terminated tag) rest e = tt
  back_asks (back.Plugged a p c d) rest e = tt
  back_asks (back.Unplugged a p c d) rest e = tt
  back_asks back.Discovered rest e = tt
  back_asks (back.Linked generation) rest e = tt
  back_asks back.Calm rest e = tt

  -- ---- a reply

  -- of what isn't of task management nothing is asked
  unasked : (n : ℕ) → ((257 ≤ q) → (q ≤ 264) → CountIs (h.high q) n) → CountIs (h.high q) n
  unasked n c = by_tests (nat_le 257 q) (nat_le q 264) refl refl
    where
      known : h.high q ≡ NoPost → CountIs (h.high q) n
      known e = subst (λ g. CountIs g n) (sym e) tt

      by_tests : (a b : Bool) → nat_le 257 q ≡ a → nat_le q 264 ≡ b → CountIs (h.high q) n
      by_tests true true x y = c (grind (arith, x)) (grind (arith, y))
      by_tests false b x y = known (f.paths.only_high q (Rattle.std.proofs.Common.inl (grind (arith, x)))).1
      by_tests true false x y = known (f.paths.only_high q (Rattle.std.proofs.Common.inr (grind (arith, y)))).1

  up_asks : (queue : ℕ) (y : Said) (rest : List Said) (z : Up) → outbox_of w.ioc queue ≡ y ∷ rest → up_of y (slice_get w.ioc.ring 0) ≡ Some z → HighAsks q (h.high q) (entry.Put (up_lane queue) (item.Up z))
  up_asks queue y rest z e u = by_item y e u (All-head (SaidIs w h queue) y rest (subst (All (SaidIs w h queue)) e (all_last (SaidIs w h queue) (map said_of (up_on w queue)) (outbox_of w.ioc queue) (f.messages.said queue))))
    where
      some_is : (x y : Up) → Some x ≡ Some y → x ≡ y
      some_is x y e = cc

      other : (x : Up) → HighAsks q (h.high q) (entry.Put (up_lane queue) (item.Up x)) → Some x ≡ Some z → HighAsks q (h.high q) (entry.Put (up_lane queue) (item.Up z))
      other x a e = subst (λ j. HighAsks q (h.high q) (entry.Put (up_lane queue) (item.Up j))) (some_is x z e) a

      framed : (s : ℕ) (g page sense : List ℕ) (free : Option ℕ) → outbox_of w.ioc queue ≡ said.Framed s g page sense ∷ rest → framed_up s g page sense free ≡ Some z → SaidIs w h queue (said.Framed s g page sense) → HighAsks q (h.high q) (entry.Put (up_lane queue) (item.Up z))
      framed s g page sense None e u a = absurd (cc)
      framed s g page sense (Some n) e u a =
          other (upward.Reply (address_descriptor s (reply_frame_address n)) (Some g) page sense)
          (matches (smid_in (address_descriptor s (reply_frame_address n)) == q) (CountIs (h.high q) (termination_count_in g)) (λ z. unasked (termination_count_in g) (counted z))) u
        where
          counted : (smid_in (address_descriptor s (reply_frame_address n)) == q) ≡ true → 257 ≤ q → q ≤ 264 → CountIs (h.high q) (termination_count_in g)
          counted z b c =
              let l = progress.low w h f further queue (said.Framed s g page sense) a s (same s) in
              let m : s ≡ q = sym (smid_addressed s (reply_frame_address n) l) ∙ eqb-true (smid_in (address_descriptor s (reply_frame_address n))) q z in
              let k = queue_zero s m a in
              subst (λ j. CountIs (h.high j) (termination_count_in g)) m
              (All-head (CountOf w h) (said.Framed s g page sense) rest (subst (All (CountOf w h)) (subst (λ j. outbox_of w.ioc j ≡ said.Framed s g page sense ∷ rest) k e) f.paths.counts) (omega (arith, m, b)) (omega (arith, m, c)))
            where
              queue_zero : (s : ℕ) → s ≡ q → SaidIs w h queue (said.Framed s g page sense) → queue ≡ 0
              queue_zero Rattle.std.proofs.Common.zero m a = a.0
              queue_zero (Rattle.std.proofs.Common.suc j) m a = by_slot (slot w.host (Rattle.std.proofs.Common.suc j)) refl a
                where
                  by_slot : (x : Slot Request) → slot w.host (Rattle.std.proofs.Common.suc j) ≡ x → AnswersBy w h queue (Rattle.std.proofs.Common.suc j) (said.Framed (Rattle.std.proofs.Common.suc j) g page sense) x → queue ≡ 0
                  by_slot Free e x = absurd x
                  by_slot Parked e x = absurd x
                  by_slot (Open (request.Command n)) e x = let i = classed w h f (Rattle.std.proofs.Common.suc j) (request.Command n) e in absurd (omega (arith, i, m, b))
                  by_slot (Open (request.Abort n task)) e x = x.0
                  by_slot (Open (request.TargetReset address)) e x = x.0
                  by_slot (Open (request.Leave handle)) e x = x.0
                  by_slot (Open (request.Page handle)) e x = x.0
                  by_slot (Open (request.Remove handle)) e x = x.0
                  by_slot (Open (request.Ack event context)) e x = x.0
                  by_slot (Open request.Notification) e x = x.0
                  by_slot (Open request.PortEnable) e x = x.0

      success : (s : ℕ) (page sense : List ℕ) → SaidIs w h queue (said.Success s page sense) → Some (upward.Reply (success_descriptor s) None page sense) ≡ Some z → HighAsks q (h.high q) (entry.Put (up_lane queue) (item.Up z))
      success s page sense a u =
          other (upward.Reply (success_descriptor s) None page sense)
          (matches (smid_in (success_descriptor s) == q) (CountIs (h.high q) 0) (λ z. unasked 0 (λ b c. absurd (none z b)))) u
        where
          none : (smid_in (success_descriptor s) == q) ≡ true → 257 ≤ q → ⊥
          none z b =
              let l = progress.low w h f further queue (said.Success s page sense) a s (same s) in
              let m : s ≡ q = sym (smid_succeeded s l) ∙ eqb-true (smid_in (success_descriptor s)) q z in
              by_slot m (slot w.host s) refl a
            where
              by_slot : s ≡ q → (x : Slot Request) → slot w.host s ≡ x → AnswersBy w h queue s (said.Success s page sense) x → ⊥
              by_slot m (Open (request.Command n)) e x = let i = classed w h f s (request.Command n) e in omega (arith, i, m, b)
              by_slot m Free e x = x
              by_slot m Parked e x = x
              by_slot m (Open (request.Abort n task)) e x = x
              by_slot m (Open (request.TargetReset address)) e x = x
              by_slot m (Open (request.Leave handle)) e x = x
              by_slot m (Open (request.Page handle)) e x = x
              by_slot m (Open (request.Remove handle)) e x = x
              by_slot m (Open (request.Ack event context)) e x = x
              by_slot m (Open request.Notification) e x = x
              by_slot m (Open request.PortEnable) e x = x

      by_item : (y : Said) → outbox_of w.ioc queue ≡ y ∷ rest → up_of y (slice_get w.ioc.ring 0) ≡ Some z → SaidIs w h queue y → HighAsks q (h.high q) (entry.Put (up_lane queue) (item.Up z))
      by_item (said.Framed s g page sense) e u a = framed s g page sense (slice_get w.ioc.ring 0) e u a
      by_item (said.Success s page sense) e u a = success s page sense a u
      by_item (said.Value value) e u a = other (upward.Value value) tt u
      by_item (said.Mark generation) e u a = other (upward.Mark generation) tt u
      by_item said.Calm e u a = other upward.Calm tt u

  -- ---- each case

  owes : OwesTold OnCase w
  owes =
      record {
        idles = λ c. silent _ (entry.Idle c ∷ []) (tt, tt);
        host_puts = λ x rest e. behind _ (entry.Put lane.Down (item.Down x)) [] (puts x) tt;
        host_takes = λ queue x rest e y. behind _ (entry.Take (up_lane queue) (item.Up x)) (hears_up w.host queue x).entries tt (quiet_taken w.host queue x None);
        host_told = λ i c. silent _ (host_told w.host i).entries (quiet (host_told w.host i).entries (told_input w.host i));
        host_looks = λ e. silent _ [] tt;
        host_stops = λ e. silent _ [] tt;
        no_session = silent _ [] tt;
        ioc_takes = λ x rest e. behind _ (entry.Take lane.Down (item.Down x)) (adapter.takes_down w.ioc x).entries tt (quiet _ (told_down w.ioc x));
        ioc_high = λ p rest e. silent _ (step.works_on (record w.ioc { high = rest }) p).entries (quiet _ (told_high w.ioc (p ∷ rest)));
        ioc_normal = λ p rest e. silent _ (step.works_on (record w.ioc { normal = rest }) p).entries (quiet _ (told_normal w.ioc (p ∷ rest)));
        ioc_puts_out = λ x rest e. behind _ (entry.Put lane.Out (item.Out x)) [] (out_asks x rest e) tt;
        ioc_takes_back = λ x rest e. behind _ (entry.Take lane.Back (item.Back x)) (adapter.takes_back w.ioc x).entries (back_asks x rest e) (quiet _ (told_back w.ioc x));
        ioc_puts = λ queue y rest z e u. behind _ (entry.Put (up_lane queue) (item.Up z)) [] (up_asks queue y rest z e u) tt;
        fabric_takes = λ x rest e. behind _ (entry.Take lane.Out (item.Out x)) [] tt tt;
        fabric_says = λ x rest e. silent _ [] tt;
        fabric_puts = λ x rest e. behind _ (entry.Put lane.Back (item.Back x)) [] tt tt;
        fabric_runs = λ tag address e. silent _ (entry.Run address tag ∷ []) (tt, tt);
        plugs = λ address expander phy t p. silent _ t (quiet_plug t p);
        unplugs = λ address t p. silent _ t (quiet_plug t p);
        calms = silent _ [] tt;
      }

  pub counts_pass : NothingIsStrange w → (c : Case) → Passes (high_next q) (HighAsks q) (h.high q) (entries w c)
  unfolding OnCase
  counts_pass plain c = kept_told OnCase w plain owes c
