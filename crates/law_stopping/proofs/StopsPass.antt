-- The entries of each case pass the rule of what aborts stop.
use Rattle.std.proofs.Common.{◌≡◌, ℕ, zero, suc, ◌+◌, ◌-◌, ◌<◌, ◌≤◌, ◌==◌, ◌&&◌, ◌||◌, ◌⊎◌, inl, inr, nat_le, not, Bool, true, false, if◌then◌else◌, List, [], ◌∷◌, map, slice_get, Option, Some, None, is_some, refl, ap, sym, ◌∙◌, subst, arith}
use Rattle.std.specs.Prelude.{All}
use Rattle.std.specs.List.{sum_by}
use Rattle.std.proofs.lemmas.Bool.{eqb-true}
use Rattle.std.proofs.lemmas.List.Elements.{All-head, All-tail}
use Rattle.smid_pool.specs.Pool.{Slot, Free, Open, Parked}
use Rattle.mpt_trace.specs.declared.entry.Entry.{Entry}
use Rattle.mpt_trace.specs.declared.entry.Entry.TheVariants as entry
use Rattle.mpt_trace.specs.declared.item.Down.{Down}
use Rattle.mpt_trace.specs.declared.item.Down.TheVariants as downward
use Rattle.mpt_trace.specs.declared.item.Item.TheVariants as item
use Rattle.mpt_trace.specs.declared.item.Out.{Out}
use Rattle.mpt_trace.specs.declared.item.Out.TheVariants as out
use Rattle.mpt_trace.specs.declared.item.Up.{Up}
use Rattle.mpt_trace.specs.declared.item.Up.TheVariants as upward
use Rattle.mpt_trace.specs.declared.lane.LaneName.TheVariants as lane
use Rattle.scsi_disk.specs.declared.command.Command.{Command}
use Rattle.mpt_wire.specs.Messages.Fields.{address_descriptor, reply_frame_address, smid_in, success_descriptor, termination_count_in}
use Rattle.mpt_wire.specs.Messages.Naming.{AResult, NotThere, Says, Stopped, is_abort_of, names_command, said_in}
use Rattle.mpt_wire.specs.Paths.Commands.{Live}
use Rattle.mpt_wire.specs.Paths.Stops.{AbortIsPut, AbortIsReplied, HasTask, IsAwaited, IsFair, IsReplied, LifeMark, StopAsks, StopLife, abort_replied, is_post_sent, took_out, life_after, life_mark, life_with, stopping_next}
use Rattle.mpt_wire.specs.Paths.TerminationCounts.{AReset, AnAbort, Awaited, Counted, HighPost, NoPost, NotSent, Progress, Replied, count_of}
use Rattle.mpt_wire.specs.Walks.Passes.{EachEntry, Passes}
use Rattle.mpt_rules.specs.declared.request.Request.{Request}
use Rattle.mpt_rules.specs.declared.request.Request.TheVariants as request
use Rattle.mpt_rules.specs.declared.said.Said.{Said}
use Rattle.mpt_rules.specs.declared.said.Said.TheVariants as said
use Rattle.mpt_rules.specs.Host.Takes.{hears_up}
use Rattle.mpt_rules.specs.Ioc.Places.{is_reply_of}
use Rattle.mpt_rules.specs.Ioc.Replies.{outbox_of}
use Rattle.mpt_rules.specs.Ioc.Sending.{framed_up, up_of}
use Rattle.mpt_rules.specs.Ioc.Steps as step
use Rattle.mpt_rules.specs.Ioc.Tables.{request_at}
use Rattle.mpt_rules.specs.Ioc.Takes as adapter
use Rattle.mpt_rules.specs.Law.{NothingIsStrange}
use Rattle.mpt_rules.specs.World.Cases.{Case, entries}
use Rattle.mpt_rules.specs.World.Counts.{how_many, one_if, reply_count}
use Rattle.mpt_rules.specs.World.Inputs.{host_told}
use Rattle.mpt_rules.specs.World.Lines.{said_of}
use Rattle.mpt_rules.specs.World.State.{World, up_lane, up_on}
use Rattle.mpt_rules.proofs.Counts.{reply_count-cons}
use Rattle.mpt_rules.proofs.FabricCounts.{sent_task_count-append, sent_task_count-cons}
use Rattle.law_facts.specs.Clock.{is_live}
use Rattle.law_facts.specs.Facts.{Facts}
use Rattle.law_facts.specs.Flights.{OneAtFabric}
use Rattle.law_facts.specs.History.{History, history_after}
use Rattle.law_facts.specs.Messages.{AnswersBy, IsLiveTask, OutIs, SaidIs}
use Rattle.law_facts.specs.Paths.{CountOfKind, StopsStand, is_held_slot, is_stop, is_unsent, stops, takes_out, taking_out, waiting_aborts, was_stopped}
use Rattle.law_facts.specs.Words.{is_command, is_command_asked, is_order, is_reply, slot}
use Rattle.law_flights.proofs.Descriptors.{smid_addressed, smid_succeeded}
use Rattle.law_flights.proofs.HostQuiet.{IsQuiet, quiet, quiet_taken}
use Rattle.law_flights.proofs.HostTold.{told_input}
use Rattle.law_flights.proofs.IocTold.{told_back, told_down, told_high, told_normal}
use Rattle.law_flights.proofs.Rising.{same_identifier}
use Rattle.law_moves.proofs.CasesTold.{IsPlugWord, OwesTold, kept_told}
use Rattle.law_moves.proofs.Counted.{how_many-cons}
use Rattle.law_messages.proofs.Agreeing.{all_last, same}
use Rattle.law_messages.proofs.Known.{classed}
use Rattle.law_messages.proofs.PostsKept.{live_is_open}
use Rattle.law_counts.proofs.CountsKept.{first_box}
use Rattle.law_counts.proofs.ProgressKept.{boxed}
use Rattle.law_stops.specs.Stops.{EndsAgree}
use Rattle.law_stops.proofs.OneEnd as ends
use Rattle.law_targets.specs.Targets.{NoOrdersBeforeInit}
use Rattle.law_stopping.proofs.Lives.{IsNothing, asks_nothing, asks_of, fair_behind, passes_nothing, plug_nothing, quiet_nothing}
use Rattle.law_stopping.proofs.Waiting as waits
use Rattle.law_stopping.proofs.Waiting.{HeldAt, le_false, le_true, Naming, command_held, first_of, first_stops, named_held, stops_less, sums_few, waiting_here}
use Rattle.law_stopping.proofs.FairLives.{asked_held, either, no_zero, one_most, one_of, other_fair, put_fair, replied_fair, replies, second_not, stopped_fair, tasked_fair}
use Rattle.law_stopping.proofs.Taken as taken

module _ (w : World) (h : History) (f : Facts w h) (orders : NoOrdersBeforeInit w) (agree : EndsAgree h) (s : ℕ) where
  abbrev life : StopLife
  life = (h.stopping s).life

  fair : IsFair (h.stopping s).life
  fair = (f.paths.fair s).fair

  -- an entry and its mark
  marked : (e : Entry) (m : Option LifeMark) → life_mark s (h.stopping s).highs e ≡ m → IsAwaited life m → IsFair (life_after life m) → StopAsks s (h.stopping s) e
  marked e m g a b = asks_of s (h.stopping s) e (subst (IsAwaited life) (sym g) a) (subst (λ x. IsFair (life_after life x)) (sym g) b)

  out_asks : (x : Out) (rest : List Out) → w.ioc.out ≡ x ∷ rest → StopAsks s (h.stopping s) (entry.Put lane.Out (item.Out x))
  out_asks (out.Task tag address command) rest e = by_key (tag == s) refl
    where
      by_key : (b : Bool) → (tag == s) ≡ b → StopAsks s (h.stopping s) (entry.Put lane.Out (item.Out (out.Task tag address command)))
      by_key true t = marked (entry.Put lane.Out (item.Out (out.Task tag address command))) (Some HasTask) (ap (λ b. if b then Some HasTask else None) t) tt (tasked_fair life fair (taken.puts_task w h f orders agree s tag address command rest e t))
      by_key false t = marked (entry.Put lane.Out (item.Out (out.Task tag address command))) None (ap (λ b. if b then Some HasTask else None) t) tt fair
  out_asks (out.Abort smid task) rest e = asks_nothing s (h.stopping s) (entry.Put lane.Out (item.Out (out.Abort smid task))) (λ g. refl) fair
  out_asks (out.TargetReset smid address) rest e = asks_nothing s (h.stopping s) (entry.Put lane.Out (item.Out (out.TargetReset smid address))) (λ g. refl) fair
  out_asks out.Discover rest e = asks_nothing s (h.stopping s) (entry.Put lane.Out (item.Out out.Discover)) (λ g. refl) fair
  out_asks (out.Link generation) rest e = asks_nothing s (h.stopping s) (entry.Put lane.Out (item.Out (out.Link generation))) (λ g. refl) fair
  out_asks out.Stop rest e = asks_nothing s (h.stopping s) (entry.Put lane.Out (item.Out out.Stop)) (λ g. refl) fair

  -- ---- a post

  down_asks : (x : Down) → StopAsks s (h.stopping s) (entry.Put lane.Down (item.Down x))
  down_asks (downward.Post d g p) = by_key (is_abort_of s (item.Down (downward.Post d g p))) refl
    where
      by_key : (b : Bool) → is_abort_of s (item.Down (downward.Post d g p)) ≡ b → StopAsks s (h.stopping s) (entry.Put lane.Down (item.Down (downward.Post d g p)))
      by_key true t = marked (entry.Put lane.Down (item.Down (downward.Post d g p))) (Some AbortIsPut) (ap (λ b. if b then Some AbortIsPut else None) t) tt (put_fair life fair)
      by_key false t = marked (entry.Put lane.Down (item.Down (downward.Post d g p))) None (ap (λ b. if b then Some AbortIsPut else None) t) tt fair
  down_asks (downward.Write reg value) = asks_nothing s (h.stopping s) (entry.Put lane.Down (item.Down (downward.Write reg value))) (λ g. refl) fair
  down_asks (downward.Read reg) = asks_nothing s (h.stopping s) (entry.Put lane.Down (item.Down (downward.Read reg))) (λ g. refl) fair
  down_asks (downward.Return address index) = asks_nothing s (h.stopping s) (entry.Put lane.Down (item.Down (downward.Return address index))) (λ g. refl) fair
  down_asks downward.Stop = asks_nothing s (h.stopping s) (entry.Put lane.Down (item.Down downward.Stop)) (λ g. refl) fair

  -- a reply put, by what is open under its identifier
  module _ (queue q d : ℕ) (o : Option (List ℕ)) (page sense : List ℕ) (y : Said) (rest : List Said) (e : outbox_of w.ioc queue ≡ y ∷ rest) (is : SaidIs w h queue y) (key : smid_in d ≡ q)
      (mine : (q == s) ≡ is_reply_of s y) (means : (q == s) ≡ true → stops (said_in o) ≡ is_stop s y)
      (others : (p : Progress) → h.high q ≡ AnAbort s p → (1 ≤ (h.stopping s).life.waiting) × IsFair (life_with life (AbortIsReplied (is_post_sent p) (count_of o)))) where
    of_abort : names_command s d ≡ false → StopAsks s (h.stopping s) (entry.Put (up_lane queue) (item.Up (upward.Reply d o page sense)))
    of_abort n = by_high (h.high q) refl
      where
        mark : (x : HighPost) → h.high q ≡ x → life_mark s (h.stopping s).highs (entry.Put (up_lane queue) (item.Up (upward.Reply d o page sense))) ≡ abort_replied s x (count_of o)
        mark x z =
            ap (λ b. if b then Some (IsReplied (said_in o)) else abort_replied s ((h.stopping s).highs (smid_in d)) (count_of o)) n
            ∙ ap (λ j. abort_replied s j (count_of o)) (ap (h.stopping s).highs key ∙ ((f.paths.fair s).highs q ∙ z))

        nothing : (x : HighPost) → h.high q ≡ x → abort_replied s x (count_of o) ≡ None → StopAsks s (h.stopping s) (entry.Put (up_lane queue) (item.Up (upward.Reply d o page sense)))
        nothing x z a = marked (entry.Put (up_lane queue) (item.Up (upward.Reply d o page sense))) None (mark x z ∙ a) tt fair

        by_high : (x : HighPost) → h.high q ≡ x → StopAsks s (h.stopping s) (entry.Put (up_lane queue) (item.Up (upward.Reply d o page sense)))
        by_high NoPost z = nothing NoPost z refl
        by_high Replied z = nothing Replied z refl
        by_high (AReset p) z = nothing (AReset p) z refl
        by_high (AnAbort task p) z = by_task (task == s) refl
          where
            by_task : (b : Bool) → (task == s) ≡ b → StopAsks s (h.stopping s) (entry.Put (up_lane queue) (item.Up (upward.Reply d o page sense)))
            by_task false t = nothing (AnAbort task p) z (ap (λ b. if b then Some (AbortIsReplied (is_post_sent p) (count_of o)) else None) t)
            by_task true t =
                let a = others p (z ∙ ap (λ m. AnAbort m p) (eqb-true task s t)) in
                marked (entry.Put (up_lane queue) (item.Up (upward.Reply d o page sense))) (Some (AbortIsReplied (is_post_sent p) (count_of o)))
                (mark (AnAbort task p) z ∙ ap (λ b. if b then Some (AbortIsReplied (is_post_sent p) (count_of o)) else None) t) (let x = a.0 in omega (arith, x)) a.1

    reply_asks : StopAsks s (h.stopping s) (entry.Put (up_lane queue) (item.Up (upward.Reply d o page sense)))
    reply_asks = by_tests (nat_le 1 s) (nat_le s 256) (smid_in d == s) refl refl refl
      where
        by_tests : (a b c : Bool) → nat_le 1 s ≡ a → nat_le s 256 ≡ b → (smid_in d == s) ≡ c → StopAsks s (h.stopping s) (entry.Put (up_lane queue) (item.Up (upward.Reply d o page sense)))
        by_tests false b c x z t = of_abort (ap (λ k. k && nat_le s 256 && (smid_in d == s)) x)
        by_tests true false c x z t = of_abort (ap (λ k. k && nat_le s 256 && (smid_in d == s)) x ∙ ap (λ k. k && (smid_in d == s)) z)
        by_tests true true false x z t = of_abort (ap (λ k. k && nat_le s 256 && (smid_in d == s)) x ∙ (ap (λ k. k && (smid_in d == s)) z ∙ t))
        by_tests true true true x z t =
            let here : (q == s) ≡ true = ap (λ j. j == s) (sym key) ∙ t in
            marked (entry.Put (up_lane queue) (item.Up (upward.Reply d o page sense))) (Some (IsReplied (said_in o)))
            (ap (λ b. if b then Some (IsReplied (said_in o)) else abort_replied s ((h.stopping s).highs (smid_in d)) (count_of o)) (ap (λ k. k && nat_le s 256 && (smid_in d == s)) x ∙ (ap (λ k. k && (smid_in d == s)) z ∙ t))) tt
            (taken.own w h f orders agree s queue y rest e is (le_true 1 s x) (le_true s 256 z) (sym mine ∙ here) (said_in o) (means here))

  up_asks : (queue : ℕ) (y : Said) (rest : List Said) (z : Up) → outbox_of w.ioc queue ≡ y ∷ rest → up_of y (slice_get w.ioc.ring 0) ≡ Some z → StopAsks s (h.stopping s) (entry.Put (up_lane queue) (item.Up z))
  up_asks queue y rest z e u = by_item y e u (All-head (SaidIs w h queue) y rest (subst (All (SaidIs w h queue)) e (all_last (SaidIs w h queue) (map said_of (up_on w queue)) (outbox_of w.ioc queue) (f.messages.said queue))))
    where
      some_is : (x y : Up) → Some x ≡ Some y → x ≡ y
      some_is x y e = cc

      to : (x : Up) → StopAsks s (h.stopping s) (entry.Put (up_lane queue) (item.Up x)) → Some x ≡ Some z → StopAsks s (h.stopping s) (entry.Put (up_lane queue) (item.Up z))
      to x a e = subst (λ j. StopAsks s (h.stopping s) (entry.Put (up_lane queue) (item.Up j))) (some_is x z e) a

      framed : (q : ℕ) (g page sense : List ℕ) (free : Option ℕ) → outbox_of w.ioc queue ≡ said.Framed q g page sense ∷ rest → framed_up q g page sense free ≡ Some z → SaidIs w h queue (said.Framed q g page sense) → StopAsks s (h.stopping s) (entry.Put (up_lane queue) (item.Up z))
      framed q g page sense None e u a = absurd (cc)
      framed q g page sense (Some n) e u a =
          to (upward.Reply (address_descriptor q (reply_frame_address n)) (Some g) page sense)
          (reply_asks queue q (address_descriptor q (reply_frame_address n)) (Some g) page sense (said.Framed q g page sense) rest e a
          (smid_addressed q (reply_frame_address n) (ends.low w h f agree queue (said.Framed q g page sense) a q (same q))) refl
          (λ t. sym (ap (λ b. b && stops (said_in (Some g))) t))
          (λ p x. (taken.awaited w h f orders agree s queue q g page sense rest e a p x, taken.theirs w h f orders agree s queue q g page sense rest e a p x))) u

      success : (q : ℕ) (page sense : List ℕ) → outbox_of w.ioc queue ≡ said.Success q page sense ∷ rest → SaidIs w h queue (said.Success q page sense) → Some (upward.Reply (success_descriptor q) None page sense) ≡ Some z → StopAsks s (h.stopping s) (entry.Put (up_lane queue) (item.Up z))
      success q page sense e a u =
          to (upward.Reply (success_descriptor q) None page sense)
          (reply_asks queue q (success_descriptor q) None page sense (said.Success q page sense) rest e a
          (smid_succeeded q (ends.low w h f agree queue (said.Success q page sense) a q (same q))) refl (λ t. refl) (λ p x. absurd (none (slot w.host q) refl a p x))) u
        where
          none : (x : Slot Request) → slot w.host q ≡ x → AnswersBy w h queue q (said.Success q page sense) x → (p : Progress) → h.high q ≡ AnAbort s p → ⊥
          none (Open (request.Command n)) i x p g = let c = classed w h f q (request.Command n) i in let k = (f.paths.only_high q (inl (omega (arith, c)))).1 in let b : NoPost ≡ AnAbort s p = sym k ∙ g in absurd (cc)
          none Free i x p g = x
          none Parked i x p g = x
          none (Open (request.Abort n task)) i x p g = x
          none (Open (request.TargetReset address)) i x p g = x
          none (Open (request.Leave handle)) i x p g = x
          none (Open (request.Page handle)) i x p g = x
          none (Open (request.Remove handle)) i x p g = x
          none (Open (request.Ack event context)) i x p g = x
          none (Open request.Notification) i x p g = x
          none (Open request.PortEnable) i x p g = x

      by_item : (y : Said) → outbox_of w.ioc queue ≡ y ∷ rest → up_of y (slice_get w.ioc.ring 0) ≡ Some z → SaidIs w h queue y → StopAsks s (h.stopping s) (entry.Put (up_lane queue) (item.Up z))
      by_item (said.Framed q g page sense) e u a = framed q g page sense (slice_get w.ioc.ring 0) e u a
      by_item (said.Success q page sense) e u a = success q page sense e a u
      by_item (said.Value value) e u a = to (upward.Value value) (asks_nothing s (h.stopping s) (entry.Put (up_lane queue) (item.Up (upward.Value value))) (λ g. refl) fair) u
      by_item (said.Mark generation) e u a = to (upward.Mark generation) (asks_nothing s (h.stopping s) (entry.Put (up_lane queue) (item.Up (upward.Mark generation))) (λ g. refl) fair) u
      by_item said.Calm e u a = to upward.Calm (asks_nothing s (h.stopping s) (entry.Put (up_lane queue) (item.Up upward.Calm)) (λ g. refl) fair) u

  -- ---- each case

  OnCase : World → List Entry → Type 0
  OnCase v t = Passes (stopping_next s) (StopAsks s) (h.stopping s) t

  silent : (v : World) (t : List Entry) → EachEntry IsQuiet t → OnCase v t
  unfolding OnCase
  silent v t a = passes_nothing s (h.stopping s) t (quiet_nothing s t a) fair

  behind : (v : World) (e : Entry) (t : List Entry) → StopAsks s (h.stopping s) e → EachEntry IsQuiet t → OnCase v (e ∷ t)
  unfolding OnCase
  behind v e t a b = (a, passes_nothing s (stopping_next s (h.stopping s) e) t (quiet_nothing s t b) a.1)

  plugged : (v : World) (t : List Entry) → EachEntry IsPlugWord t → OnCase v t
  unfolding OnCase
  plugged v t a = passes_nothing s (h.stopping s) t (plug_nothing s t a) fair

  owes : OwesTold OnCase w
  owes =
      record {
        idles = λ c. silent _ (entry.Idle c ∷ []) (tt, tt);
        host_puts = λ x rest e. behind _ (entry.Put lane.Down (item.Down x)) [] (down_asks x) tt;
        host_takes = λ queue x rest e y. behind _ (entry.Take (up_lane queue) (item.Up x)) (hears_up w.host queue x).entries (asks_nothing s (h.stopping s) (entry.Take (up_lane queue) (item.Up x)) (λ g. refl) fair) (quiet_taken w.host queue x None);
        host_told = λ i c. silent _ (host_told w.host i).entries (quiet (host_told w.host i).entries (told_input w.host i));
        host_looks = λ e. silent _ [] tt;
        host_stops = λ e. silent _ [] tt;
        no_session = silent _ [] tt;
        ioc_takes = λ x rest e. behind _ (entry.Take lane.Down (item.Down x)) (adapter.takes_down w.ioc x).entries (asks_nothing s (h.stopping s) (entry.Take lane.Down (item.Down x)) (λ g. refl) fair) (quiet _ (told_down w.ioc x));
        ioc_high = λ p rest e. silent _ (step.works_on (record w.ioc { high = rest }) p).entries (quiet _ (told_high w.ioc (p ∷ rest)));
        ioc_normal = λ p rest e. silent _ (step.works_on (record w.ioc { normal = rest }) p).entries (quiet _ (told_normal w.ioc (p ∷ rest)));
        ioc_puts_out = λ x rest e. behind _ (entry.Put lane.Out (item.Out x)) [] (out_asks x rest e) tt;
        ioc_takes_back = λ x rest e. behind _ (entry.Take lane.Back (item.Back x)) (adapter.takes_back w.ioc x).entries (asks_nothing s (h.stopping s) (entry.Take lane.Back (item.Back x)) (λ g. refl) fair) (quiet _ (told_back w.ioc x));
        ioc_puts = λ queue y rest z e u. behind _ (entry.Put (up_lane queue) (item.Up z)) [] (up_asks queue y rest z e u) tt;
        fabric_takes = λ x rest e. behind _ (entry.Take lane.Out (item.Out x)) [] (asks_nothing s (h.stopping s) (entry.Take lane.Out (item.Out x)) (λ g. refl) fair) tt;
        fabric_says = λ x rest e. silent _ [] tt;
        fabric_puts = λ x rest e. behind _ (entry.Put lane.Back (item.Back x)) [] (asks_nothing s (h.stopping s) (entry.Put lane.Back (item.Back x)) (λ g. refl) fair) tt;
        fabric_runs = λ tag address e. silent _ (entry.Run address tag ∷ []) (tt, tt);
        plugs = λ address expander phy t p. plugged _ t p;
        unplugs = λ address t p. plugged _ t p;
        calms = silent _ [] tt;
      }

  pub stops_passed : NothingIsStrange w → (c : Case) → Passes (stopping_next s) (StopAsks s) (h.stopping s) (entries w c)
  unfolding OnCase
  stops_passed plain c = kept_told OnCase w plain owes c

  pub lives_fair : NothingIsStrange w → (c : Case) → IsFair ((history_after h (entries w c)).stopping s).life
  lives_fair plain c = fair_behind s (h.stopping s) (entries w c) fair (stops_passed plain c)
