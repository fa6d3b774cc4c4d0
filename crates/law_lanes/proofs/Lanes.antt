-- Each reply, value and mark that a case puts is on its lane.
use Rattle.std.proofs.Common.{◌≡◌, ℕ, zero, suc, ◌+◌, ◌-◌, ◌%◌, ◌<◌, ◌≤◌, ◌==◌, ◌&&◌, nat_le, if◌then◌else◌, map, Bool, true, false, List, [], ◌∷◌, ◌++◌, drop, get_or, length, slice_get, Option, Some, None, refl, ap, sym, ◌∙◌, subst, arith}
use Rattle.std.specs.Prelude.{All}
use Rattle.std.proofs.lemmas.Bool.{and_from, le-leb, lt-leb, ltb-true, ne_eqb}
use Rattle.std.proofs.lemmas.List.Elements.{All-head}
use Rattle.mpi_doorbell.specs.declared.effect.Effect.TheVariants as effect
use Rattle.mpi_doorbell.specs.declared.effect.Effect.{Effect}
use Rattle.mpi_doorbell.specs.DoorRegisters.{register_written}
use Rattle.mpt_wire.specs.Messages.Fields.{address_descriptor, reply_frame_address, smid_in, success_descriptor}
use Rattle.mpt_wire.specs.Queues.Marks.{ReplyLaneAsks, is_command, queue_lane, reply_queue_of}
use Rattle.mpt_wire.specs.Walks.Passes.{EachEntry}
use Rattle.mpt_trace.specs.declared.entry.Entry.{Entry}
use Rattle.mpt_trace.specs.declared.entry.Entry.TheVariants as entry
use Rattle.mpt_trace.specs.declared.item.Down.{Down}
use Rattle.mpt_trace.specs.declared.item.Down.TheVariants as down
use Rattle.mpt_trace.specs.declared.item.Item.TheVariants as item
use Rattle.mpt_trace.specs.declared.item.Up.{Up}
use Rattle.mpt_trace.specs.declared.item.Up.TheVariants as up
use Rattle.mpt_trace.specs.declared.lane.LaneName.TheVariants as lane
use Rattle.mpt_rules.specs.declared.request.Request.{Request}
use Rattle.mpt_rules.specs.declared.request.Request.TheVariants as request
use Rattle.mpt_rules.specs.declared.said.Said.{Said}
use Rattle.mpt_rules.specs.declared.said.Said.TheVariants as said
use Rattle.mpt_rules.specs.Host.Parts.{host_queue_count}
use Rattle.mpt_rules.specs.Host.Takes.{hears_up}
use Rattle.mpt_rules.specs.Ioc.Parts.{Ioc}
use Rattle.mpt_rules.specs.Ioc.Registers.{after_effect}
use Rattle.mpt_rules.specs.Ioc.Replies.{outbox_of}
use Rattle.mpt_rules.specs.Ioc.Sending.{framed_up, up_of}
use Rattle.mpt_rules.specs.Ioc.Steps as step
use Rattle.mpt_rules.specs.Ioc.Takes as adapter
use Rattle.mpt_rules.specs.Law.{NothingIsStrange}
use Rattle.mpt_rules.specs.World.Cases.{Case, entries}
use Rattle.mpt_rules.specs.World.Counts.{how_many, is_mark, mark_count, value_count}
use Rattle.mpt_rules.specs.World.Inputs.{host_told}
use Rattle.mpt_rules.specs.World.Lines.{said_of}
use Rattle.mpt_rules.specs.World.State.{World, queues_of, up_lane, up_on}
use Rattle.mpt_rules.specs.World.Weight.{is_said_value}
use Rattle.mpt_rules.proofs.Counts.{how_many-append}
use Rattle.smid_pool.specs.Pool.{Slot, Free, Open, Parked}
use Rattle.law_facts.specs.Facts.{Facts}
use Rattle.law_facts.specs.History.{History}
use Rattle.law_facts.specs.Messages.{AnswersBy, SaidIs}
use Rattle.law_facts.specs.Words.{slot}
use Rattle.law_flights.proofs.Descriptors.{smid_addressed, smid_succeeded}
use Rattle.law_moves.proofs.Counted.{how_many-cons, how_many-nil}
use Rattle.law_moves.proofs.UpChanges.{within}
use Rattle.law_moves.proofs.CasesTold.{IsPlugWord, OwesTold, kept_told}
use Rattle.law_moves.proofs.HostWords.{EndsIt, HostTells, IsHostWord, Words, host_tells}
use Rattle.law_moves.proofs.InputWords.{IsInputWord, input_words}
use Rattle.law_moves.proofs.IocWords.{IsIocWord, back_words, works_words}
use Rattle.law_messages.proofs.Agreeing.{all_last}
use Rattle.law_messages.proofs.Known.{classed, inside}

module _ (q : ℕ) where
  abbrev Asks : List Entry → Type 0
  Asks t = EachEntry (ReplyLaneAsks q) t

  -- ---- what is told puts nothing

  host_word : (e : Entry) → IsHostWord e → ReplyLaneAsks q e
  host_word entry.HostUp w = tt
  host_word (entry.Ready address handle) w = tt
  host_word (entry.Lost address handle) w = tt
  host_word (entry.Answer n how) w = tt
  host_word (entry.AbortEnd n how) w = tt
  host_word (entry.TargetEnd address how) w = tt
  host_word (entry.Put l x) w = absurd w
  host_word (entry.Take l x) w = absurd w
  host_word _ w = absurd w

  host_words : (t : List Entry) → EachEntry IsHostWord t → Asks t
  host_words [] a = tt
  host_words (e ∷ t) a = (host_word e a.0, host_words t a.1)

  asks_append : (t u : List Entry) → Asks t → Asks u → Asks (t ++ u)
  asks_append [] u a b = b
  asks_append (e ∷ t) u a b = (a.0, asks_append t u a.1 b)

  host_told_asks : (t : List Entry) → HostTells t → Asks t
  host_told_asks t (Words a) = host_words t a
  host_told_asks t (EndsIt u a e) = subst Asks (sym e) (asks_append u (entry.ResetDone ∷ []) (host_words u a) (tt, tt))

  input_word : (e : Entry) → IsInputWord e → ReplyLaneAsks q e
  input_word (entry.Given i) w = tt
  input_word (entry.Accept n address smid) w = tt
  input_word (entry.RefuseSubmit n cause) w = tt
  input_word (entry.Refuse call cause) w = tt
  input_word (entry.Put l x) w = absurd w
  input_word _ w = absurd w

  input_asks : (t : List Entry) → EachEntry IsInputWord t → Asks t
  input_asks [] a = tt
  input_asks (e ∷ t) a = (input_word e a.0, input_asks t a.1)

  ioc_word : (e : Entry) → IsIocWord e → ReplyLaneAsks q e
  ioc_word (entry.Bind handle address plug) w = tt
  ioc_word (entry.Unbind handle) w = tt
  ioc_word (entry.Put l x) w = absurd w
  ioc_word _ w = absurd w

  ioc_asks : (t : List Entry) → EachEntry IsIocWord t → Asks t
  ioc_asks [] a = tt
  ioc_asks (e ∷ t) a = (ioc_word e a.0, ioc_asks t a.1)

  plug_word : (e : Entry) → IsPlugWord e → ReplyLaneAsks q e
  plug_word (entry.Given i) w = tt
  plug_word (entry.Refuse call cause) w = tt
  plug_word (entry.Put l x) w = absurd w
  plug_word _ w = absurd w

  plug_asks : (t : List Entry) → EachEntry IsPlugWord t → Asks t
  plug_asks [] a = tt
  plug_asks (e ∷ t) a = (plug_word e a.0, plug_asks t a.1)

  effect_asks : (i : Ioc) (f : Effect) → Asks (after_effect i f).entries
  effect_asks i effect.None = tt
  effect_asks i (effect.Asked count bytes) = tt
  effect_asks i effect.UnitReset = (tt, tt)
  effect_asks i effect.AdapterReset = (tt, tt)
  effect_asks i (effect.Fault code) = tt

  down_asks : (i : Ioc) (x : Down) → Asks (adapter.takes_down i x).entries
  down_asks i (down.Write reg value) = effect_asks (record i { door = (register_written i.door reg value).registers }) (register_written i.door reg value).effect
  down_asks i (down.Read reg) = tt
  down_asks i (down.Post d f p) = tt
  down_asks i (down.Return address index) = tt
  down_asks i down.Stop = tt

lane_is : (n : ℕ) → up_lane n ≡ queue_lane n
lane_is zero = refl
lane_is (suc n) = sym (ap (λ c. if c then lane.Up else lane.UpOn (suc n)) (ne_eqb (suc n) 0 (λ z. omega (arith, z))))

-- the queue of an identifier
commanded : (q s : ℕ) → 1 ≤ s → s ≤ 256 → reply_queue_of q s ≡ (s - 1) % q
commanded q s a b = ap (λ c. if c then (s - 1) % q else 0) (and_from _ _ (le-leb 1 s a) (le-leb s 256 b))

uncommanded : (q s : ℕ) → 257 ≤ s → reply_queue_of q s ≡ 0
uncommanded q s a = ap (λ c. if c then (s - 1) % q else 0) (and_last (nat_le 1 s) (nat_le s 256) (lt-leb s 256 (omega (arith, a))))
  where
    and_last : (a c : Bool) → c ≡ false → (a && c) ≡ false
    and_last true c e = e
    and_last false c e = refl

module _ (w : World) (h : History) (f : Facts w h) (plain : NothingIsStrange w) where
  abbrev Q : ℕ
  Q = queues_of w

  abbrev Put : ℕ → Up → Type 0
  Put queue z = ReplyLaneAsks (queues_of w) (entry.Put (up_lane queue) (item.Up z))

  on_lane : (queue n : ℕ) → queue ≡ n → up_lane queue ≡ queue_lane n
  on_lane queue n e = lane_is queue ∙ ap queue_lane e

  commands : (queue s n : ℕ) → slot w.host s ≡ Open (request.Command n) → queue ≡ (s - 1) % host_queue_count w.host → queue ≡ reply_queue_of (queues_of w) s
  commands queue s n e a =
      let k = classed w h f s (request.Command n) e in
      a ∙ (ap (λ m. (s - 1) % m) (sym f.flights.sizes.lanes) ∙ sym (commanded (queues_of w) s (omega (arith, k)) (omega (arith, k))))

  other : (queue s : ℕ) → 257 ≤ s → queue ≡ 0 → queue ≡ reply_queue_of (queues_of w) s
  other queue s l a = a ∙ sym (uncommanded (queues_of w) s l)

  -- the queue of what is said
  framed_by : (queue s : ℕ) (g page sense : List ℕ) (r : Request) → slot w.host s ≡ Open r → AnswersBy w h queue s (said.Framed s g page sense) (Open r) → queue ≡ reply_queue_of (queues_of w) s
  framed_by queue s g page sense (request.Command n) e a = commands queue s n e a.0
  framed_by queue s g page sense (request.Abort n t) e a = let k = classed w h f s (request.Abort n t) e in other queue s (omega (arith, k)) a.0
  framed_by queue s g page sense (request.TargetReset address) e a = let k = classed w h f s (request.TargetReset address) e in other queue s (omega (arith, k)) a.0
  framed_by queue s g page sense (request.Leave handle) e a = let k = classed w h f s (request.Leave handle) e in other queue s (omega (arith, k)) a.0
  framed_by queue s g page sense (request.Page handle) e a = let k = classed w h f s (request.Page handle) e in other queue s (omega (arith, k)) a.0
  framed_by queue s g page sense (request.Remove handle) e a = let k = classed w h f s (request.Remove handle) e in other queue s (omega (arith, k)) a.0
  framed_by queue s g page sense (request.Ack ev context) e a = let k = classed w h f s (request.Ack ev context) e in other queue s (omega (arith, k)) a.0
  framed_by queue s g page sense request.Notification e a = let k = classed w h f s request.Notification e in other queue s (omega (arith, k)) a.0
  framed_by queue s g page sense request.PortEnable e a = let k = classed w h f s request.PortEnable e in other queue s (omega (arith, k)) a.0

  success_by : (queue s : ℕ) (page sense : List ℕ) (r : Request) → slot w.host s ≡ Open r → AnswersBy w h queue s (said.Success s page sense) (Open r) → queue ≡ reply_queue_of (queues_of w) s
  success_by queue s page sense (request.Command n) e a = commands queue s n e a.0
  success_by queue s page sense (request.Abort n t) e a = absurd a
  success_by queue s page sense (request.TargetReset address) e a = absurd a
  success_by queue s page sense (request.Leave handle) e a = absurd a
  success_by queue s page sense (request.Page handle) e a = absurd a
  success_by queue s page sense (request.Remove handle) e a = absurd a
  success_by queue s page sense (request.Ack ev context) e a = absurd a
  success_by queue s page sense request.Notification e a = absurd a
  success_by queue s page sense request.PortEnable e a = absurd a

  some_is : (x y : Up) → Some x ≡ Some y → x ≡ y
  some_is x y e = cc

  success_asks : (queue s : ℕ) (page sense : List ℕ) → SaidIs w h queue (said.Success s page sense) → Put queue (up.Reply (success_descriptor s) None page sense)
  success_asks queue s page sense a = by_slot (slot w.host s) refl a
    where
      by_slot : (y : Slot Request) → slot w.host s ≡ y → AnswersBy w h queue s (said.Success s page sense) y → up_lane queue ≡ queue_lane (reply_queue_of (queues_of w) (smid_in (success_descriptor s)))
      by_slot Free e z = absurd z
      by_slot Parked e z = absurd z
      by_slot (Open r) e z = let l = inside w h f s r e in on_lane queue _ (success_by queue s page sense r e z ∙ ap (reply_queue_of (queues_of w)) (sym (smid_succeeded s (omega (arith, l)))))

  framed_asks : (queue s a : ℕ) (g page sense : List ℕ) → SaidIs w h queue (said.Framed s g page sense) → Put queue (up.Reply (address_descriptor s a) (Some g) page sense)
  framed_asks queue zero a g page sense x = on_lane queue _ (x.0 ∙ ap (reply_queue_of (queues_of w)) (sym (smid_addressed 0 a (omega arith))))
  framed_asks queue (suc i) a g page sense x = by_slot (slot w.host (suc i)) refl x
    where
      by_slot : (y : Slot Request) → slot w.host (suc i) ≡ y → AnswersBy w h queue (suc i) (said.Framed (suc i) g page sense) y → up_lane queue ≡ queue_lane (reply_queue_of (queues_of w) (smid_in (address_descriptor (suc i) a)))
      by_slot Free e z = absurd z
      by_slot Parked e z = absurd z
      by_slot (Open r) e z = let l = inside w h f (suc i) r e in on_lane queue _ (framed_by queue (suc i) g page sense r e z ∙ ap (reply_queue_of (queues_of w)) (sym (smid_addressed (suc i) a (omega (arith, l)))))

  -- values are on the first lane, and marks on the others
  value_first : (queue v : ℕ) (rest : List Said) → outbox_of w.ioc queue ≡ said.Value v ∷ rest → up_lane queue ≡ lane.Up
  unfolding value_count
  value_first zero v rest e = refl
  value_first (suc n) v rest e =
      let o = f.clock.one_read.above (suc n) (omega arith) in let p = how_many-append is_said_value (map said_of (up_on w (suc n))) (outbox_of w.ioc (suc n)) in
      let a = ap (how_many is_said_value) e in let d = how_many-cons is_said_value (said.Value v) rest in absurd (omega (arith, o, p, a, d))

  mark_above : (queue g : ℕ) (rest : List Said) → outbox_of w.ioc queue ≡ said.Mark g ∷ rest → Put queue (up.Mark g)
  unfolding mark_count
  mark_above zero g rest e =
      let o = f.clock.marks.first in let p = how_many-append is_mark (map said_of (up_on w 0)) (outbox_of w.ioc 0) in
      let a = ap (how_many is_mark) e in let d = how_many-cons is_mark (said.Mark g) rest in absurd (omega (arith, o, p, a, d))
  mark_above (suc n) g rest e =
      let l = ltb-true (suc n) (length w.ioc.up) (within w.ioc.up (suc n) (said.Mark g) rest e) in let o = f.flights.sizes.outboxes in let p = f.flights.sizes.lanes in
      (suc n, refl, omega arith, omega (arith, l, o, p))

  up_asks : (queue : ℕ) (y : Said) (rest : List Said) (z : Up) → outbox_of w.ioc queue ≡ y ∷ rest → up_of y (slice_get w.ioc.ring 0) ≡ Some z → Put queue z
  up_asks queue y rest z e u = by_item y e u (All-head (SaidIs w h queue) y rest (subst (All (SaidIs w h queue)) e (all_last (SaidIs w h queue) (map said_of (up_on w queue)) (outbox_of w.ioc queue) (f.messages.said queue))))
    where
      by_free : (s : ℕ) (g page sense : List ℕ) (free : Option ℕ) → framed_up s g page sense free ≡ Some z → SaidIs w h queue (said.Framed s g page sense) → Put queue z
      by_free s g page sense None e a = absurd (cc)
      by_free s g page sense (Some n) e a = subst (Put queue) (some_is _ z e) (framed_asks queue s (reply_frame_address n) g page sense a)

      by_item : (y : Said) → outbox_of w.ioc queue ≡ y ∷ rest → up_of y (slice_get w.ioc.ring 0) ≡ Some z → SaidIs w h queue y → Put queue z
      by_item (said.Value value) e u a = subst (Put queue) (some_is _ z u) (value_first queue value rest e)
      by_item (said.Mark generation) e u a = subst (Put queue) (some_is _ z u) (mark_above queue generation rest e)
      by_item said.Calm e u a = subst (Put queue) (some_is _ z u) tt
      by_item (said.Success s page sense) e u a = subst (Put queue) (some_is _ z u) (success_asks queue s page sense a)
      by_item (said.Framed s g page sense) e u a = by_free s g page sense (slice_get w.ioc.ring 0) u a

  -- ---- all cases

  OnCase : World → List Entry → Type 0
  OnCase v t = EachEntry (ReplyLaneAsks (queues_of w)) t

  owes : OwesTold OnCase w
  unfolding OnCase
  owes =
      record {
        idles = λ c. (tt, tt);
        host_puts = λ x rest e. (tt, tt);
        host_takes = λ queue x rest e y. (tt, host_told_asks (queues_of w) (hears_up w.host queue x).entries (host_tells w.host queue x));
        host_told = λ i c. input_asks (queues_of w) (host_told w.host i).entries (input_words w.host i);
        host_looks = λ e. tt;
        host_stops = λ e. tt;
        no_session = tt;
        ioc_takes = λ x rest e. (tt, down_asks (queues_of w) w.ioc x);
        ioc_high = λ p rest e. ioc_asks (queues_of w) (step.works_on (record w.ioc { high = rest }) p).entries (works_words (record w.ioc { high = rest }) p);
        ioc_normal = λ p rest e. ioc_asks (queues_of w) (step.works_on (record w.ioc { normal = rest }) p).entries (works_words (record w.ioc { normal = rest }) p);
        ioc_puts_out = λ x rest e. (tt, tt);
        ioc_takes_back = λ x rest e. (tt, ioc_asks (queues_of w) (adapter.takes_back w.ioc x).entries (back_words w.ioc x));
        ioc_puts = λ queue y rest z e u. (up_asks queue y rest z e u, tt);
        fabric_takes = λ x rest e. (tt, tt);
        fabric_says = λ x rest e. tt;
        fabric_puts = λ x rest e. (tt, tt);
        fabric_runs = λ tag address e. (tt, tt);
        plugs = λ address expander phy t p. plug_asks (queues_of w) t p;
        unplugs = λ address t p. plug_asks (queues_of w) t p;
        calms = tt;
      }

  pub lanes_kept : (c : Case) → EachEntry (ReplyLaneAsks (queues_of w)) (entries w c)
  unfolding OnCase
  lanes_kept c = kept_told OnCase w plain owes c
