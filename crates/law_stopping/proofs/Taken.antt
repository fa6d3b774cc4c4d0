-- What took a command out of the queue, where a task is put of it, or a reply to it or to its abort.
use Rattle.std.proofs.Common.{◌≡◌, ℕ, zero, suc, ◌+◌, ◌-◌, ◌<◌, ◌≤◌, ◌==◌, ◌&&◌, ◌||◌, ◌⊎◌, inl, inr, nat_le, not, Bool, true, false, if◌then◌else◌, List, [], ◌∷◌, map, slice_get, Option, Some, None, is_some, refl, ap, sym, ◌∙◌, subst, arith}
use Rattle.std.specs.Prelude.{All}
use Rattle.std.specs.List.{sum_by}
use Rattle.std.proofs.lemmas.Bool.{eqb-true}
use Rattle.std.proofs.lemmas.List.Elements.{All-head, All-tail}
use Rattle.smid_pool.specs.Pool.{Slot, Free, Open, Parked}
use Rattle.mpt_trace.specs.declared.entry.Entry.{Entry}
use Rattle.mpt_trace.specs.declared.entry.Entry.TheVariants as entry
use Rattle.mpt_trace.specs.declared.item.Down.{Down}
use Rattle.mpt_trace.specs.declared.item.Down.TheVariants as downward
use Rattle.mpt_trace.specs.declared.item.Item.TheVariants as item
use Rattle.mpt_trace.specs.declared.item.Out.{Out}
use Rattle.mpt_trace.specs.declared.item.Out.TheVariants as out
use Rattle.mpt_trace.specs.declared.item.Up.{Up}
use Rattle.mpt_trace.specs.declared.item.Up.TheVariants as upward
use Rattle.mpt_trace.specs.declared.lane.LaneName.TheVariants as lane
use Rattle.scsi_disk.specs.declared.command.Command.{Command}
use Rattle.mpt_wire.specs.Messages.Fields.{address_descriptor, reply_frame_address, smid_in, success_descriptor, termination_count_in}
use Rattle.mpt_wire.specs.Messages.Naming.{AResult, NotThere, Says, Stopped, is_abort_of, names_command, said_in}
use Rattle.mpt_wire.specs.Paths.Commands.{Live}
use Rattle.mpt_wire.specs.Paths.Stops.{AbortIsPut, AbortIsReplied, HasTask, IsAwaited, IsFair, IsReplied, LifeMark, StopAsks, StopLife, abort_replied, is_post_sent, took_out, life_after, life_mark, life_with, stopping_next}
use Rattle.mpt_wire.specs.Paths.TerminationCounts.{AReset, AnAbort, Awaited, Counted, HighPost, NoPost, NotSent, Progress, Replied, count_of}
use Rattle.mpt_wire.specs.Walks.Passes.{EachEntry, Passes}
use Rattle.mpt_rules.specs.declared.request.Request.{Request}
use Rattle.mpt_rules.specs.declared.request.Request.TheVariants as request
use Rattle.mpt_rules.specs.declared.said.Said.{Said}
use Rattle.mpt_rules.specs.declared.said.Said.TheVariants as said
use Rattle.mpt_rules.specs.Host.Takes.{hears_up}
use Rattle.mpt_rules.specs.Ioc.Places.{is_reply_of}
use Rattle.mpt_rules.specs.Ioc.Replies.{outbox_of}
use Rattle.mpt_rules.specs.Ioc.Sending.{framed_up, up_of}
use Rattle.mpt_rules.specs.Ioc.Steps as step
use Rattle.mpt_rules.specs.Ioc.Tables.{request_at}
use Rattle.mpt_rules.specs.Ioc.Takes as adapter
use Rattle.mpt_rules.specs.Law.{NothingIsStrange}
use Rattle.mpt_rules.specs.World.Cases.{Case, entries}
use Rattle.mpt_rules.specs.World.Counts.{how_many, one_if, reply_count}
use Rattle.mpt_rules.specs.World.Inputs.{host_told}
use Rattle.mpt_rules.specs.World.Lines.{said_of}
use Rattle.mpt_rules.specs.World.State.{World, up_lane, up_on}
use Rattle.mpt_rules.proofs.Counts.{reply_count-cons}
use Rattle.mpt_rules.proofs.FabricCounts.{sent_task_count-append, sent_task_count-cons}
use Rattle.law_facts.specs.Clock.{is_live}
use Rattle.law_facts.specs.Facts.{Facts}
use Rattle.law_facts.specs.Flights.{OneAtFabric}
use Rattle.law_facts.specs.History.{History, history_after}
use Rattle.law_facts.specs.Messages.{AnswersBy, IsLiveTask, OutIs, SaidIs}
use Rattle.law_facts.specs.Paths.{CountOfKind, StopsStand, is_held_slot, is_stop, is_unsent, stops, takes_out, taking_out, waiting_aborts, was_stopped}
use Rattle.law_facts.specs.Words.{is_command, is_command_asked, is_order, is_reply, slot}
use Rattle.law_flights.proofs.Descriptors.{smid_addressed, smid_succeeded}
use Rattle.law_flights.proofs.HostQuiet.{IsQuiet, quiet, quiet_taken}
use Rattle.law_flights.proofs.HostTold.{told_input}
use Rattle.law_flights.proofs.IocTold.{told_back, told_down, told_high, told_normal}
use Rattle.law_flights.proofs.Rising.{same_identifier}
use Rattle.law_moves.proofs.CasesTold.{IsPlugWord, OwesTold, kept_told}
use Rattle.law_moves.proofs.Counted.{how_many-cons}
use Rattle.law_messages.proofs.Agreeing.{all_last, same}
use Rattle.law_messages.proofs.Known.{classed}
use Rattle.law_messages.proofs.PostsKept.{live_is_open}
use Rattle.law_counts.proofs.CountsKept.{first_box}
use Rattle.law_counts.proofs.ProgressKept.{boxed}
use Rattle.law_stops.specs.Stops.{EndsAgree}
use Rattle.law_stops.proofs.OneEnd as ends
use Rattle.law_targets.specs.Targets.{NoOrdersBeforeInit}
use Rattle.law_stopping.proofs.Lives.{IsNothing, asks_nothing, asks_of, fair_behind, passes_nothing, plug_nothing, quiet_nothing}
use Rattle.law_stopping.proofs.Waiting as waits
use Rattle.law_stopping.proofs.Waiting.{HeldAt, le_false, le_true, Naming, command_held, first_of, first_stops, named_held, stops_less, sums_few, waiting_here}
use Rattle.law_stopping.proofs.FairLives.{asked_held, either, no_zero, one_most, one_of, other_fair, put_fair, replied_fair, replies, second_not, stopped_fair, tasked_fair}

module _ (w : World) (h : History) (f : Facts w h) (orders : NoOrdersBeforeInit w) (agree : EndsAgree h) (s : ℕ) where
  abbrev life : StopLife
  life = (h.stopping s).life

  fair : IsFair (h.stopping s).life
  fair = (f.paths.fair s).fair

  -- ---- a task

  module _ (m : HeldAt w h f s) (live : is_live w ≡ true) where
    st : StopsStand w h s
    st = f.paths.stops s m.least m.most

    -- of what took it out, put and to be put
    sum : (h.stopping s).life.taken_out + taking_out w h s ≡ one_if (was_stopped w h s)
    sum = st.taken live m.held

    -- nothing did where its reply says nothing of it
    untaken : (h.stopping s).life.stopped ≡ false → sum_by (how_many (is_stop s)) w.ioc.up ≡ 0 → (h.stopping s).life.taken_out ≡ 0
    untaken a b = let c = sum in let z : one_if (was_stopped w h s) ≡ 0 = ap (λ x. one_if ((x || not (sum_by (how_many (is_stop s)) w.ioc.up == 0)) && not (h.stopping s).life.tasked)) a ∙ ap (λ n. one_if (not (n == 0) && not (h.stopping s).life.tasked)) b in omega (arith, c, z)

  pub puts_task : (tag address : ℕ) (command : Command) (rest : List Out) → w.ioc.out ≡ out.Task tag address command ∷ rest → (tag == s) ≡ true → (h.stopping s).life.taken_out ≡ 0
  puts_task tag address command rest e t = by_live (h.walk tag).known.live refl is
    where
      z : tag ≡ s
      z = eqb-true tag s t

      is : OutIs w h (out.Task tag address command)
      is = All-head (OutIs w h) (out.Task tag address command) rest (subst (All (OutIs w h)) e (all_last (OutIs w h) w.out w.ioc.out f.messages.out))

      live : is_live w ≡ true
      live = by_bool (is_live w) refl
        where
          by_bool : (b : Bool) → is_live w ≡ b → b ≡ true
          by_bool true l = refl
          by_bool false l = let o = orders l in let a = ap (how_many is_order) e in let c = how_many-cons is_order (out.Task tag address command) rest in absurd (omega (arith, o, a, c))

      by_live : (o : Option Live) → (h.walk tag).known.live ≡ o → IsLiveTask address command o → (h.stopping s).life.taken_out ≡ 0
      by_live None g a = absurd a
      by_live (Some l) g a = untaken m live unsaid nothing
        where
          opens : slot w.host s ≡ Open (request.Command l.number)
          opens = subst (λ j. slot w.host j ≡ Open (request.Command l.number)) z (live_is_open w h f tag l g)

          m : HeldAt w h f s
          m = command_held w h f s l.number opens

          at : OneAtFabric w s
          at = f.flights.fabric s m.least (let x = m.most in omega (arith, x))

          there : 1 ≤ one_if (is_command (request_at w.ioc s))
          there =
              let c = at.commands live in let p = sent_task_count-append s w.out w.ioc.out in let q = ap (Rattle.mpt_rules.specs.World.FabricCounts.sent_task_count s) e in
              let r = sent_task_count-cons s (out.Task tag address command) rest in let o : one_if (tag == s) ≡ 1 = ap one_if t in
              omega (arith, c, p, q, r, o)

          some : (x : Option Rattle.mpt_rules.specs.declared.at_fabric.AtFabric.AtFabric) → 1 ≤ one_if (is_command x) → one_if (is_some x) ≡ 1
          some (Some y) c = refl
          some None c = absurd (omega (arith, c))

          most : Rattle.mpt_rules.specs.World.PlaceCounts.smid_count w s ≤ 1
          most = (f.flights.identifiers s m.least (let x = m.most in omega (arith, x))).at_most

          unsaid : (h.stopping s).life.stopped ≡ false
          unsaid = let n = most in let y = some (request_at w.ioc s) there in ((f.paths.stops s m.least m.most).replied (ap is_command_asked opens) (omega (arith, n, y))).0

          nothing : sum_by (how_many (is_stop s)) w.ioc.up ≡ 0
          nothing = let n = most in let y = some (request_at w.ioc s) there in let x = sums_few s w.ioc.up in omega (arith, n, y, x)

  -- ---- a reply

  -- the reply to the command itself
  module _ (queue : ℕ) (y : Said) (rest : List Said) (e : outbox_of w.ioc queue ≡ y ∷ rest) (is : SaidIs w h queue y) (l : 1 ≤ s) (m : s ≤ 256) (t : is_reply_of s y ≡ true) where
    unsaid : ((h.stopping s).life.stopped ≡ false) × ((h.stopping s).life.other ≡ false)
    unsaid = ends.unsaid w h f agree queue y rest e is s l m t

    own_held : HeldAt w h f s
    own_held = record { least = l; most = m; held = asked_held (slot w.host s) (by_slot (ends.of_slot w h f agree queue y is s t)) }
      where
        by_slot : (s ≡ 0) ⊎ ((r : Request) × (slot w.host s ≡ Open r)) → is_command_asked (slot w.host s) ≡ true
        by_slot (inl z) = absurd (omega (arith, z, l))
        by_slot (inr o) = ends.command_there w h f agree s o.0 o.1 m

    own_live : is_live w ≡ true
    own_live = waits.live_by_reply w h f queue y rest e (replies s y t)

    pub own : (says : Says) → stops says ≡ is_stop s y → IsFair (life_with life (IsReplied says))
    own Stopped j = stopped_fair life fair (λ a b.
        let c = sum own_held own_live in
        let n = first_stops s w.ioc.up queue y rest e (sym j) in
        let z : one_if (was_stopped w h s) ≡ 1 =
        ap (λ x. one_if ((x || not (sum_by (how_many (is_stop s)) w.ioc.up == 0)) && not (h.stopping s).life.tasked)) unsaid.0
        ∙ (ap (λ x. one_if (x && not (h.stopping s).life.tasked)) (waits.not_zero (sum_by (how_many (is_stop s)) w.ioc.up) n) ∙ ap (λ x. one_if (not x)) a) in
        let k = (f.paths.stops s l m).at_least own_live own_held.held in
        let none = waits.none_takes w h f s (omega (arith, k, b)) in
        omega (arith, c, z, none))
    own NotThere j = other_fair life fair (untaken own_held own_live unsaid.0 (let n = stops_less s w.ioc.up queue y rest e t (sym j) in let x = (f.flights.identifiers s l (omega (arith, m))).at_most in omega (arith, n, x)))
    own AResult j = other_fair life fair (untaken own_held own_live unsaid.0 (let n = stops_less s w.ioc.up queue y rest e t (sym j) in let x = (f.flights.identifiers s l (omega (arith, m))).at_most in omega (arith, n, x)))

  first_queue : (queue q : ℕ) (frame page sense : List ℕ) → 257 ≤ q → SaidIs w h queue (said.Framed q frame page sense) → queue ≡ 0
  first_queue queue zero frame page sense l a = absurd (omega (arith, l))
  first_queue queue (suc j) frame page sense l a = by_slot (slot w.host (suc j)) refl a
    where
      by_slot : (x : Slot Request) → slot w.host (suc j) ≡ x → AnswersBy w h queue (suc j) (said.Framed (suc j) frame page sense) x → queue ≡ 0
      by_slot Free e x = absurd x
      by_slot Parked e x = absurd x
      by_slot (Open (request.Command n)) e x = let c = classed w h f (suc j) (request.Command n) e in absurd (omega (arith, c, l))
      by_slot (Open (request.Abort n task)) e x = x.0
      by_slot (Open (request.TargetReset address)) e x = x.0
      by_slot (Open (request.Leave handle)) e x = x.0
      by_slot (Open (request.Page handle)) e x = x.0
      by_slot (Open (request.Remove handle)) e x = x.0
      by_slot (Open (request.Ack event context)) e x = x.0
      by_slot (Open request.Notification) e x = x.0
      by_slot (Open request.PortEnable) e x = x.0

  module _ (queue q : ℕ) (frame page sense : List ℕ) (rest : List Said) (e : outbox_of w.ioc queue ≡ said.Framed q frame page sense ∷ rest) (is : SaidIs w h queue (said.Framed q frame page sense)) (p : Progress) (g : h.high q ≡ AnAbort s p) where
    high : 257 ≤ q
    high = by_test (nat_le 257 q) refl
      where
        none : h.high q ≡ NoPost → 257 ≤ q
        none z = let a : NoPost ≡ AnAbort s p = sym z ∙ g in absurd (cc)

        by_test : (b : Bool) → nat_le 257 q ≡ b → 257 ≤ q
        by_test true x = le_true 257 q x
        by_test false x = let l = le_false 257 q x in none (f.paths.only_high q (inl (omega (arith, l)))).1

    zeroth : queue ≡ 0
    zeroth = first_queue queue q frame page sense high is

    at_zero : outbox_of w.ioc 0 ≡ said.Framed q frame page sense ∷ rest
    at_zero = subst (λ n. outbox_of w.ioc n ≡ said.Framed q frame page sense ∷ rest) zeroth e

    kinds : All (CountOfKind w h) (said.Framed q frame page sense ∷ rest)
    kinds = subst (All (CountOfKind w h)) at_zero f.paths.kinds

    named : Naming w h f s q
    named = waits.naming w h f s q frame page sense p (All-head (CountOfKind w h) (said.Framed q frame page sense) rest kinds) g

    their_held : HeldAt w h f s
    their_held = named_held w h f q named.number s named.opens

    their_live : is_live w ≡ true
    their_live = waits.live_by_reply w h f queue (said.Framed q frame page sense) rest e refl

    said_once : 1 ≤ sum_by (reply_count q) w.ioc.up
    said_once = boxed q w.ioc.up queue (said.Framed q frame page sense) rest e (same q)

    pub awaited : 1 ≤ (h.stopping s).life.waiting
    awaited =
        let a = waiting_here w s q named.number named.opens (let c = said_once in omega (arith, c)) in
        let k = (f.paths.stops s their_held.least their_held.most).at_least their_live their_held.held in omega (arith, a, k)

    same_took : (r : Progress) → h.high q ≡ AnAbort s r → takes_out h s (said.Framed q frame page sense) ≡ took_out (AbortIsReplied (is_post_sent r) (termination_count_in frame))
    same_took NotSent z = ap (λ x. is_unsent x s && (termination_count_in frame == 1)) z ∙ ap (λ b. b && (termination_count_in frame == 1)) (same s)
    same_took Awaited z = ap (λ x. is_unsent x s && (termination_count_in frame == 1)) z
    same_took (Counted n) z = ap (λ x. is_unsent x s && (termination_count_in frame == 1)) z

    total : ((h.stopping s).life.taken_out + one_if (took_out (AbortIsReplied (is_post_sent p) (termination_count_in frame)))) + how_many (takes_out h s) rest ≡ one_if (was_stopped w h s)
    total =
        let c = sum their_held their_live in
        let a = ap (how_many (takes_out h s)) at_zero in let b = how_many-cons (takes_out h s) (said.Framed q frame page sense) rest in
        let d = ap one_if (same_took p g) in
        omega (arith, c, a, b, d)

    -- no other abort takes it out
    no_other_takes : how_many (takes_out h s) rest ≡ 0
    no_other_takes = by_count (how_many (takes_out h s) rest) refl
      where
        by_count : (n : ℕ) → how_many (takes_out h s) rest ≡ n → n ≡ 0
        by_count zero z = refl
        by_count (suc n) z =
            let k = waits.taker w h f s rest (All-tail (CountOfKind w h) (said.Framed q frame page sense) rest kinds) (omega (arith, z)) in
            let i = eqb-true q k.key (waits.one_names w h f s their_held.least their_held.most q k.key named.number k.names.number named.opens k.names.opens) in
            let c = subst (λ j. 1 ≤ reply_count j rest) (sym i) k.counted in
            let a = ap (reply_count q) at_zero in let b = reply_count-cons q (said.Framed q frame page sense) rest in let o : one_if (q == q) ≡ 1 = ap one_if (same q) in
            let x = first_box q w.ioc.up in let u = high in let v = named.most in let m = (f.flights.identifiers q (omega (arith, u)) (omega (arith, v))).at_most in
            absurd (omega (arith, c, a, b, o, x, m))

    shown : 1 ≤ one_if (was_stopped w h s) → ((h.stopping s).life.tasked ≡ false) × ((h.stopping s).life.other ≡ false)
    shown c =
        let z = one_of (was_stopped w h s) c in
        let d = second_not ((h.stopping s).life.stopped || not (sum_by (how_many (is_stop s)) w.ioc.up == 0)) (h.stopping s).life.tasked z in
        (d.1, by_either (either (h.stopping s).life.stopped (not (sum_by (how_many (is_stop s)) w.ioc.up == 0)) d.0))
      where
        by_slot : (x : Slot Request) → slot w.host s ≡ x → is_held_slot x ≡ true → 1 ≤ sum_by (reply_count s) w.ioc.up → (h.stopping s).life.other ≡ false
        by_slot Parked i k c =
            let m = (f.flights.identifiers s their_held.least (let x = their_held.most in omega (arith, x))).at_most in let o : one_if (not (Rattle.smid_pool.specs.Pool.is_open (slot w.host s))) ≡ 1 = ap (λ x. one_if (not (Rattle.smid_pool.specs.Pool.is_open x))) i in
            absurd (omega (arith, m, o, c))
        by_slot (Open (request.Command n)) i k c =
            let m = (f.flights.identifiers s their_held.least (let x = their_held.most in omega (arith, x))).at_most in
            ((f.paths.stops s their_held.least their_held.most).replied (ap is_command_asked i) (omega (arith, m, c))).1
        by_slot Free i k c = absurd (cc)
        by_slot (Open (request.Abort n task)) i k c = absurd (cc)
        by_slot (Open (request.TargetReset address)) i k c = absurd (cc)
        by_slot (Open (request.Leave handle)) i k c = absurd (cc)
        by_slot (Open (request.Page handle)) i k c = absurd (cc)
        by_slot (Open (request.Remove handle)) i k c = absurd (cc)
        by_slot (Open (request.Ack event context)) i k c = absurd (cc)
        by_slot (Open request.Notification) i k c = absurd (cc)
        by_slot (Open request.PortEnable) i k c = absurd (cc)

        by_either : ((h.stopping s).life.stopped ≡ true) ⊎ (not (sum_by (how_many (is_stop s)) w.ioc.up == 0) ≡ true) → (h.stopping s).life.other ≡ false
        by_either (inl x) = agree s x
        by_either (inr x) = let n = no_zero (sum_by (how_many (is_stop s)) w.ioc.up) x in let d = sums_few s w.ioc.up in by_slot (slot w.host s) refl their_held.held (omega (arith, n, d))

    pub theirs : IsFair (life_with life (AbortIsReplied (is_post_sent p) (termination_count_in frame)))
    theirs = replied_fair life (took_out (AbortIsReplied (is_post_sent p) (termination_count_in frame))) awaited
        (let t = total in let m = one_most (was_stopped w h s) in omega (arith, t, m))
        (λ c. shown (let t = total in omega (arith, t, c)))
        (λ a b c.
        let t = total in let z = no_other_takes in
        let x : one_if (was_stopped w h s) ≡ 1 = ap (λ x. one_if ((x || not (sum_by (how_many (is_stop s)) w.ioc.up == 0)) && not (h.stopping s).life.tasked)) a ∙ ap (λ x. one_if (not x)) b in
        omega (arith, t, z, x))
