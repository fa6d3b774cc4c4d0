-- Each case keeps that the rule of marks knows the resets and their marks.
use Rattle.std.proofs.Common.{◌≡◌, ℕ, zero, suc, ◌+◌, ◌%◌, ◌^◌, ◌<◌, ◌≤◌, ◌==◌, ◌&&◌, ◌||◌, ◌⊎◌, inl, inr, not, cond, if◌then◌else◌, nat_lt, Bool, true, false, List, [], ◌∷◌, ◌++◌, map, length, get_or, set, drop, slice_get, slice_index_or, slice_set, Option, Some, None, refl, ap, sym, ◌∙◌, subst, arith, append_assoc}
use Rattle.std.specs.List.{filter}
use Rattle.std.proofs.lemmas.Bool.{eqb-true}
use Rattle.mpi_doorbell.specs.DoorRegisters.{is_fault}
use Rattle.mpt_wire.specs.Queues.Marks.{Awaits, Marking, Taken, wait_after_take, marks_next}
use Rattle.mpt_wire.specs.Queues.Marks as rule
use Rattle.mpt_wire.specs.Walks.Passes.{EachEntry, state_after}
use Rattle.mpt_trace.specs.declared.choice.Choice.{Choice}
use Rattle.mpt_trace.specs.declared.entry.Entry.{Entry}
use Rattle.mpt_trace.specs.declared.entry.Entry.TheVariants as entry
use Rattle.mpt_trace.specs.declared.item.Item.TheVariants as item
use Rattle.mpt_trace.specs.declared.lane.LaneName.TheVariants as lane
use Rattle.mpt_trace.specs.declared.item.Back.{Back}
use Rattle.mpt_trace.specs.declared.item.Down.{Down}
use Rattle.mpt_trace.specs.declared.item.Down.TheVariants as down
use Rattle.mpt_trace.specs.declared.item.Up.{Up}
use Rattle.mpt_trace.specs.declared.item.Up.TheVariants as upward
use Rattle.mpt_rules.specs.declared.said.Said.{Said}
use Rattle.mpt_rules.specs.declared.said.Said.TheVariants as said
use Rattle.mpt_rules.specs.declared.why.Why.{Why}
use Rattle.mpt_rules.specs.World.Cases.{Case, entries, happens}
use Rattle.mpt_rules.specs.World.Counts.{how_many, is_mark, mark_count, one_if}
use Rattle.mpt_rules.specs.Host.Takes.{hears_up}
use Rattle.mpt_rules.specs.Host.Parts.{Host}
use Rattle.mpt_rules.specs.Host.Returns.{after_sent}
use Rattle.mpt_rules.specs.Host.Strange.{why_strange}
use Rattle.mpt_rules.specs.Ioc.Takes as adapter
use Rattle.mpt_rules.specs.Ioc.Parts.{Ioc, state_of}
use Rattle.mpt_rules.specs.Ioc.Replies as say
use Rattle.mpt_rules.specs.Ioc.Replies.{outbox_of}
use Rattle.mpt_rules.specs.Ioc.Resets.{marked, next_generation, outlives_reset}
use Rattle.mpt_rules.specs.Ioc.Sending.{up_of}
use Rattle.mpt_rules.specs.Ioc.Steps as step
use Rattle.mpt_rules.specs.World.Lines.{said_of, up_line}
use Rattle.mpt_rules.specs.Outcome.{Happening}
use Rattle.mpt_rules.specs.World.State.{World, queues_of, up_lane, up_on, with_up}
use Rattle.mpt_rules.proofs.Counts.{how_many-append}
use Rattle.law_facts.specs.Clock.{Clock, MarkIsDue, has_mark, in_asked, in_begun, is_live}
use Rattle.law_facts.specs.History.{History, history_after}
use Rattle.law_facts.specs.Words.{is_bare, is_reply, is_reply_or_mark, others}
use Rattle.law_flights.proofs.Tables.{get_or-set_any}
use Rattle.law_flights.proofs.Told.{IsTold, told_state}
use Rattle.law_clock.specs.Premises.{Before, Behind}
use Rattle.law_moves.proofs.CasesTold.{OwesTold, kept_told}
use Rattle.law_moves.proofs.Counted.{Grown, grown-count, how_many-cons, how_many-nil, others-append}
use Rattle.law_moves.proofs.HostGoes as goes
use Rattle.law_moves.proofs.HostGoes.{AMark, AValue, Heard, HostGoes, NoNews, heard_of}
use Rattle.law_moves.proofs.HostWords.{EndsIt, HostTells, IsHostWord, Words, host_tells}
use Rattle.law_moves.proofs.IocSpeaks.{CalmSaid, Deaf, IocSpeaks, News, Silent, Speaks as SpeaksBack, Unlinked, LinkedUp, CalmTold, deaf, is_asked_out, never_out, news}
use Rattle.law_moves.proofs.IocTakes.{Takes, Faults, Written, Operates, Forgets, Reads, Posts, DropsPost, Returns, DropsReturn, Stops, takes}
use Rattle.law_moves.proofs.IocWords.{IsIocWord, back_words, works_words}
use Rattle.law_moves.proofs.Phases.{and_false, begun_of, off_second, phased_of, same_is}
use Rattle.law_moves.proofs.UpChanges.{within}
use Rattle.law_moves.proofs.UpLines as lines
use Rattle.law_resets.proofs.MarksKept.{AsksIt, Keeps, MarkLine, Marked, MarksIt, OverMark, OverValue, line_stands, marked_by, marked_outbox, suc_not}
use Rattle.law_clock.proofs.NoReplyKept as replies
use Rattle.law_clock.proofs.PhaseKept as phase
use Rattle.law_clock.proofs.ValueKept.{BegunOf, false_true}
use Rattle.mpt_wire.specs.Machine.Causes.{is_resetting}

-- ---- what words do to a rule

pub state_append : {G : Type 0} (next : G → Entry → G) (g : G) (t u : List Entry) → state_after next g (t ++ u) ≡ state_after next (state_after next g t) u
state_append next g [] u = refl
state_append next g (e ∷ t) u = state_append next (next g e) t u

module _ {G : Type 0} (next : G → Entry → G) (Q : Entry → Type 0) (stays : (g : G) (e : Entry) → Q e → next g e ≡ g) where
  pub state_stays : (g : G) (t : List Entry) → EachEntry Q t → state_after next g t ≡ g
  state_stays g [] h = refl
  state_stays g (e ∷ t) h = ap (λ x. state_after next x t) (stays g e h.0) ∙ state_stays g t h.1

host_word : (q : ℕ) (g : Marking) (e : Entry) → IsHostWord e → marks_next q g e ≡ g
host_word q g entry.HostUp h = refl
host_word q g (entry.Ready address handle) h = refl
host_word q g (entry.Lost address handle) h = refl
host_word q g (entry.Answer n how) h = refl
host_word q g (entry.AbortEnd n how) h = refl
host_word q g (entry.TargetEnd address how) h = refl
host_word q g (entry.Given i) h = absurd h
host_word q g (entry.Idle x) h = absurd h
host_word q g (entry.Put l i) h = absurd h
host_word q g (entry.Take l i) h = absurd h
host_word q g (entry.Bind handle address plug) h = absurd h
host_word q g (entry.Unbind handle) h = absurd h
host_word q g entry.UnbindAll h = absurd h
host_word q g (entry.Run address tag) h = absurd h
host_word q g (entry.Accept n address smid) h = absurd h
host_word q g (entry.RefuseSubmit n cause) h = absurd h
host_word q g (entry.Refuse call cause) h = absurd h
host_word q g entry.ResetDone h = absurd h

ioc_word : (q : ℕ) (g : Marking) (e : Entry) → IsIocWord e → marks_next q g e ≡ g
ioc_word q g (entry.Bind handle address plug) h = refl
ioc_word q g (entry.Unbind handle) h = refl
ioc_word q g entry.HostUp h = absurd h
ioc_word q g (entry.Ready address handle) h = absurd h
ioc_word q g (entry.Lost address handle) h = absurd h
ioc_word q g (entry.Answer n how) h = absurd h
ioc_word q g (entry.AbortEnd n how) h = absurd h
ioc_word q g (entry.TargetEnd address how) h = absurd h
ioc_word q g (entry.Given i) h = absurd h
ioc_word q g (entry.Idle x) h = absurd h
ioc_word q g (entry.Put l i) h = absurd h
ioc_word q g (entry.Take l i) h = absurd h
ioc_word q g entry.UnbindAll h = absurd h
ioc_word q g (entry.Run address tag) h = absurd h
ioc_word q g (entry.Accept n address smid) h = absurd h
ioc_word q g (entry.RefuseSubmit n cause) h = absurd h
ioc_word q g (entry.Refuse call cause) h = absurd h
ioc_word q g entry.ResetDone h = absurd h

host_told_state : (q : ℕ) (g : Marking) (t : List Entry) → HostTells t → state_after (marks_next q) g t ≡ g
host_told_state q g t (Words w) = state_stays (marks_next q) IsHostWord (host_word q) g t w
host_told_state q g t (EndsIt told w e) =
    ap (state_after (marks_next q) g) e ∙ (state_append (marks_next q) g told (entry.ResetDone ∷ []) ∙ ap (λ x. state_after (marks_next q) x (entry.ResetDone ∷ [])) (state_stays (marks_next q) IsHostWord (host_word q) g told w))

-- an entry that is neither a put, nor a take, nor a reset of the controller
abbrev pub IsApart : Entry → Type 0
IsApart (entry.Put l i) = ⊥
IsApart (entry.Take l i) = ⊥
IsApart entry.UnbindAll = ⊥
IsApart _ = Unit {0}

apart_stays : (q : ℕ) (g : Marking) (e : Entry) → IsApart e → marks_next q g e ≡ g
apart_stays q g (entry.Bind handle address plug) h = refl
apart_stays q g (entry.Unbind handle) h = refl
apart_stays q g entry.HostUp h = refl
apart_stays q g (entry.Ready address handle) h = refl
apart_stays q g (entry.Lost address handle) h = refl
apart_stays q g (entry.Answer n how) h = refl
apart_stays q g (entry.AbortEnd n how) h = refl
apart_stays q g (entry.TargetEnd address how) h = refl
apart_stays q g (entry.Given i) h = refl
apart_stays q g (entry.Idle x) h = refl
apart_stays q g (entry.Put l i) h = absurd h
apart_stays q g (entry.Take l i) h = absurd h
apart_stays q g entry.UnbindAll h = absurd h
apart_stays q g (entry.Run address tag) h = refl
apart_stays q g (entry.Accept n address smid) h = refl
apart_stays q g (entry.RefuseSubmit n cause) h = refl
apart_stays q g (entry.Refuse call cause) h = refl
apart_stays q g entry.ResetDone h = refl

-- ---- over fields

pub record DueStands (g : ℕ) (begun has : Bool) (m : Marking) (outbox : List Said) : Type 0 where
  pub resets : m.resets ≡ g
  pub due : 1 ≤ how_many is_mark outbox → (m.due ≡ g ∷ []) × (slice_get outbox 0 ≡ Some (said.Mark g))
  pub none : how_many is_mark outbox ≡ 0 → m.due ≡ []
  pub awaits : begun ≡ true → has ≡ false → m.wait ≡ Awaits g
  pub taken : begun ≡ true → has ≡ true → m.wait ≡ Taken

-- an item that is taken from a lane
take_calm : (wait : rule.MarkWait) (o : Option Rattle.mpt_trace.specs.declared.item.Item.Item) → ((n : ℕ) (it : Rattle.mpt_trace.specs.declared.item.Item.Item) → o ≡ Some it → rule.is_mark_item n it ≡ false) → wait_after_take wait o ≡ wait
take_calm rule.NoReset o f = refl
take_calm rule.Taken o f = refl
take_calm (rule.Awaits n) None f = refl
take_calm (rule.Awaits n) (Some it) f = ap (λ c. if c then rule.Taken else rule.Awaits n) (f n it refl)

module _ (w : World) (h : History) (b : Before w h) (n : ℕ) (below : suc n < queues_of w) where
  k : Clock w h
  k = b.facts.clock

  g0 : Marking
  g0 = h.marking (suc n)

  abbrev DueWorld : World → Marking → Type 0
  DueWorld v m = DueStands v.ioc.generation (in_begun v) (has_mark v (suc n)) m (outbox_of v.ioc (suc n))

  s : DueStands w.ioc.generation (in_begun w) (has_mark w (suc n)) (h.marking (suc n)) (outbox_of w.ioc (suc n))
  unfolding mark_count
  s = let d = k.resets_seen.each (suc n) (omega arith) below in record { resets = d.resets; due = d.due; none = d.none; awaits = d.awaits; taken = d.taken }

  line : MarkLine (in_begun w) (in_asked w) (has_mark w (suc n)) w.ioc.generation (up_line w (suc n))
  line = line_stands w (suc n) (k.marks.each (suc n) (omega arith) below)

  abbrev After : List Entry → Marking
  After t = state_after (marks_next (suc n)) (h.marking (suc n)) t

  abbrev Kept : World → List Entry → Type 0
  Kept v t = Behind v → DueWorld v (After t)

  -- the same by another road
  same_state : (v : World) (m : Marking) → m ≡ h.marking (suc n) → DueWorld v (h.marking (suc n)) → DueWorld v m
  same_state v m e d = subst (DueWorld v) (sym e) d

  apart : (t : List Entry) → EachEntry IsApart t → After t ≡ h.marking (suc n)
  apart t a = state_stays (marks_next (suc n)) IsApart (apart_stays (suc n)) (h.marking (suc n)) t a

  -- ---- the host

  abbrev On : Host → Marking → Type 0
  On x m = DueStands w.ioc.generation (BegunOf w x) (slice_index_or x.marks (suc n) true) m (outbox_of w.ioc (suc n))

  keeps : (x : Host) → BegunOf w x ≡ in_begun w → x.marks ≡ w.host.marks → On x (h.marking (suc n))
  keeps x e m = let f = ap (λ ms. slice_index_or ms (suc n) true) m in rw (e, f) s

  unbegun : (x : Host) → BegunOf w x ≡ false → On x (h.marking (suc n))
  unbegun x e = record { resets = s.resets; due = s.due; none = s.none; awaits = λ y. absurd (false_true (BegunOf w x) e y); taken = λ y. absurd (false_true (BegunOf w x) e y) }

  calmly : (x : Host) (t : Heard) → goes.is_mark_heard t ≡ false → Marked w x t → On x (h.marking (suc n))
  calmly x t i (Keeps u e f m y) = keeps x e m
  calmly x t i (MarksIt queue e f m) = absurd (cc)
  calmly x t i (OverValue y e f a) = unbegun x e
  calmly x t i (OverMark queue y e f a) = absurd (cc)
  calmly x t i (AsksIt m e mk) = unbegun x e

  by_host : (x : Host) (t : List Entry) → EachEntry IsApart t → HostGoes w x NoNews → On x (After t)
  by_host x t a y = subst (On x) (sym (apart t a)) (calmly x NoNews refl (marked_by w h b x y))

  -- what it hears of another lane, or that is no mark, leaves the rule as it was
  hear_calm : (queue : ℕ) (x : Up) → ((m : ℕ) → x ≡ upward.Mark m → (suc n == queue) ≡ false) → marks_next (suc n) (h.marking (suc n)) (entry.Take (up_lane queue) (item.Up x)) ≡ h.marking (suc n)
  hear_calm queue x f = ap (λ y. record (h.marking (suc n)) { wait = y }) (take_calm (h.marking (suc n)).wait (rule.taken_on_queue (suc n) (entry.Take (up_lane queue) (item.Up x))) (by_lane queue f))
    where
      no_item : (it : Rattle.mpt_trace.specs.declared.item.Item.Item) → None ≡ Some it → ⊥
      no_item it e = cc

      of_item : (c : Bool) (y : Up) → ((m : ℕ) → y ≡ upward.Mark m → c ≡ false) → (i : ℕ) (it : Rattle.mpt_trace.specs.declared.item.Item.Item) → (if c then Some (item.Up y) else None) ≡ Some it → rule.is_mark_item i it ≡ false
      of_item false y f i it e = absurd (no_item it e)
      of_item true (upward.Value v) f i it e = let z : item.Up (upward.Value v) ≡ it = cc in subst (λ t. rule.is_mark_item i t ≡ false) z refl
      of_item true (upward.Reply d fr page sense) f i it e = let z : item.Up (upward.Reply d fr page sense) ≡ it = cc in subst (λ t. rule.is_mark_item i t ≡ false) z refl
      of_item true upward.Calm f i it e = let z : item.Up upward.Calm ≡ it = cc in subst (λ t. rule.is_mark_item i t ≡ false) z refl
      of_item true (upward.Mark m) f i it e = absurd (false_true true (f m refl) refl)

      flip : (a c : ℕ) → (a == c) ≡ false → (c == a) ≡ false
      flip a c e = by_test (c == a) refl
        where
          by_test : (y : Bool) → (c == a) ≡ y → y ≡ false
          by_test true z = let i : c ≡ a = eqb-true c a z in absurd (false_true (a == c) e (ap (λ m. m == c) (sym i) ∙ same_is c))
          by_test false z = refl

      by_lane : (queue : ℕ) → ((m : ℕ) → x ≡ upward.Mark m → (suc n == queue) ≡ false) → (i : ℕ) (it : Rattle.mpt_trace.specs.declared.item.Item.Item) → rule.taken_on_queue (suc n) (entry.Take (up_lane queue) (item.Up x)) ≡ Some it → rule.is_mark_item i it ≡ false
      by_lane zero f i it e = absurd (no_item it e)
      by_lane (suc q) f i it e = of_item (suc q == suc n) x (λ m z. flip (suc n) (suc q) (f m z)) i it e

  -- the mark of this lane is this reset's
  due_now : (queue m : ℕ) → why_strange w.host queue (upward.Mark m) ≡ None → m ≡ w.host.asked
  due_now queue m e = eqb-true m w.host.asked (same (m == w.host.asked) (is_resetting w.host.mode) (slice_index_or w.host.marks queue true) (goes.no_where (not (is_resetting w.host.mode) || (not (m == w.host.asked) || slice_index_or w.host.marks queue true)) _ (goes.none_of_or (Rattle.mpt_rules.specs.Host.Strange.bad_mark w.host queue m) None (goes.none_of_or (Rattle.mpt_rules.specs.Host.Strange.wrong_queue_of_mark queue) _ e).1).0))
    where
      same : (c d f : Bool) → (not d || (not c || f)) ≡ false → c ≡ true
      same true d f e = refl
      same false true f e = absurd (cc)
      same false false f e = absurd (cc)

  mark_here : (x : Host) (queue m : ℕ) → (suc n == queue) ≡ true → m ≡ w.host.asked → (begun : in_begun w ≡ true) → has_mark w (suc n) ≡ false → (slice_index_or x.marks (suc n) true ≡ true) ⊎ (BegunOf w x ≡ false) → On x (marks_next (suc n) (h.marking (suc n)) (entry.Take (up_lane queue) (item.Up (upward.Mark m))))
  mark_here x queue m i e bg hm y =
      let q : suc n ≡ queue = eqb-true (suc n) queue i in
      let a = s.awaits bg hm in
      let lv : w.host.asked ≡ w.ioc.generation = eqb-true _ _ (and_false _ _ bg).1 in
      let heard : (if rule.is_mark_item w.ioc.generation (item.Up (upward.Mark m)) then Taken else Awaits w.ioc.generation) ≡ Taken = ap (λ c. if c then Taken else Awaits w.ioc.generation) (ap (λ z. z == w.ioc.generation) (e ∙ lv) ∙ same_is w.ioc.generation) in
      subst (λ z. On x (marks_next (suc n) (h.marking (suc n)) (entry.Take (up_lane z) (item.Up (upward.Mark m))))) q
      (record {
        resets = s.resets;
        due = s.due;
        none = s.none;
        awaits = λ u v. absurd (either y u v);
        taken = λ u v. ap (λ c. wait_after_take (h.marking (suc n)).wait (if c then Some (item.Up (upward.Mark m)) else None)) (same_is (suc n)) ∙ (ap (λ z. wait_after_take z (Some (item.Up (upward.Mark m)))) a ∙ heard);
      })
    where
      either : (slice_index_or x.marks (suc n) true ≡ true) ⊎ (BegunOf w x ≡ false) → BegunOf w x ≡ true → slice_index_or x.marks (suc n) true ≡ false → ⊥
      either (inl t) u v = false_true (slice_index_or x.marks (suc n) true) v t
      either (inr t) u v = false_true (BegunOf w x) t u

  set_here : (queue : ℕ) → (suc n == queue) ≡ true → slice_index_or (slice_set w.host.marks queue true) (suc n) true ≡ true
  set_here = Rattle.law_resets.proofs.MarksKept.set_here w h b n below

  set_other : (queue : ℕ) → (suc n == queue) ≡ false → slice_index_or (slice_set w.host.marks queue true) (suc n) true ≡ has_mark w (suc n)
  set_other = Rattle.law_resets.proofs.MarksKept.set_other w h b n below

  abbrev Hear : ℕ → Up → Marking
  Hear queue x = marks_next (suc n) (h.marking (suc n)) (entry.Take (up_lane queue) (item.Up x))

  -- a mark of this lane is due
  unmarked : (queue m : ℕ) (rest : List Up) → up_on w queue ≡ upward.Mark m ∷ rest → (suc n == queue) ≡ true → in_begun w ≡ true → has_mark w (suc n) ≡ false
  unmarked queue m rest e i bg =
      let a = line.one bg in
      let f : up_line w (suc n) ≡ said.Mark m ∷ (map said_of rest ++ get_or w.ioc.up (suc n) []) = ap (λ xs. map said_of xs ++ get_or w.ioc.up (suc n) []) (ap (λ z. up_on w z) (eqb-true (suc n) queue i) ∙ e) in
      let c = ap (how_many is_mark) f in
      let d = how_many-cons is_mark (said.Mark m) (map said_of rest ++ get_or w.ioc.up (suc n) []) in
      by_test (has_mark w (suc n)) refl (omega (arith, a, c, d))
    where
      by_test : (y : Bool) → has_mark w (suc n) ≡ y → 1 ≤ one_if (not (has_mark w (suc n))) → y ≡ false
      by_test true z l = let o : one_if (not (has_mark w (suc n))) ≡ 0 = ap (λ c. one_if (not c)) z in absurd (omega (arith, o, l))
      by_test false z l = refl

  never_here : (queue m : ℕ) (rest : List Up) → up_on w queue ≡ upward.Mark m ∷ rest → (suc n == queue) ≡ true → (c : Bool) → in_begun w ≡ c → c ≡ true
  never_here queue m rest e i true g = refl
  never_here queue m rest e i false g =
      let a = line.none g in
      let f : up_line w (suc n) ≡ said.Mark m ∷ (map said_of rest ++ get_or w.ioc.up (suc n) []) = ap (λ xs. map said_of xs ++ get_or w.ioc.up (suc n) []) (ap (λ z. up_on w z) (eqb-true (suc n) queue i) ∙ e) in
      let c = ap (how_many is_mark) f in
      let d = how_many-cons is_mark (said.Mark m) (map said_of rest ++ get_or w.ioc.up (suc n) []) in
      absurd (omega (arith, a, c, d))

  hears_mark : (x : Host) (queue m : ℕ) (rest : List Up) → up_on w queue ≡ upward.Mark m ∷ rest → why_strange w.host queue (upward.Mark m) ≡ None → Marked w x (AMark queue) → (c : Bool) → (suc n == queue) ≡ c → On x (Hear queue (upward.Mark m))
  hears_mark x queue m rest e y (Keeps u f g z i) c q = absurd (cc)
  hears_mark x queue m rest e y (MarksIt u f g z) true q = let bg = never_here queue m rest e q (in_begun w) refl in mark_here x queue m q (due_now queue m y) bg (unmarked queue m rest e q bg) (inl (ap (λ ms. slice_index_or ms (suc n) true) z ∙ set_here queue q))
  hears_mark x queue m rest e y (OverMark u bg f g a) true q = mark_here x queue m q (due_now queue m y) bg (unmarked queue m rest e q bg) (inr f)
  hears_mark x queue m rest e y (MarksIt u f g z) false q =
      subst (On x) (sym (hear_calm queue (upward.Mark m) (λ i j. q))) (let hm = ap (λ ms. slice_index_or ms (suc n) true) z ∙ set_other queue q in rw (f, hm) s)
  hears_mark x queue m rest e y (OverMark u bg f g a) false q = subst (On x) (sym (hear_calm queue (upward.Mark m) (λ i j. q))) (unbegun x f)

  host_hears : (x : Host) (queue : ℕ) (y : Up) (rest : List Up) → up_on w queue ≡ y ∷ rest → why_strange w.host queue y ≡ None → Marked w x (heard_of queue y) → On x (Hear queue y)
  host_hears x queue (upward.Value v) rest e z g = subst (On x) (sym (hear_calm queue (upward.Value v) (λ i j. cc))) (calmly x AValue refl g)
  host_hears x queue (upward.Reply d f page sense) rest e z g = subst (On x) (sym (hear_calm queue (upward.Reply d f page sense) (λ i j. cc))) (calmly x NoNews refl g)
  host_hears x queue upward.Calm rest e z g = subst (On x) (sym (hear_calm queue upward.Calm (λ i j. cc))) (calmly x NoNews refl g)
  host_hears x queue (upward.Mark m) rest e z g = hears_mark x queue m rest e z g (suc n == queue) refl

  host_takes : (x : Host) (queue : ℕ) (y : Up) (rest : List Up) (t : List Entry) → up_on w queue ≡ y ∷ rest → why_strange w.host queue y ≡ None → Marked w x (heard_of queue y) → HostTells t → On x (After (entry.Take (up_lane queue) (item.Up y) ∷ t))
  host_takes x queue y rest t e z g u = subst (On x) (sym (host_told_state (suc n) (Hear queue y) t u)) (host_hears x queue y rest e z g)

  -- ---- the controller

  abbrev In : Ioc → Marking → Type 0
  In i m = DueStands i.generation (is_resetting w.host.mode && (w.host.asked == i.generation)) (has_mark w (suc n)) m (outbox_of i (suc n))

  same_ioc : (i : Ioc) → i.generation ≡ w.ioc.generation → outbox_of i (suc n) ≡ outbox_of w.ioc (suc n) → In i (h.marking (suc n))
  same_ioc i g e = rw (g, e) s

  same_up : (i : Ioc) → i.up ≡ w.ioc.up → outbox_of i (suc n) ≡ outbox_of w.ioc (suc n)
  same_up i e = ap (λ us. get_or us (suc n) []) e

  first_said : (items : List Said) → get_or (set w.ioc.up 0 (get_or w.ioc.up 0 [] ++ items)) (suc n) [] ≡ outbox_of w.ioc (suc n)
  first_said items = get_or-set_any w.ioc.up 0 (suc n) (get_or w.ioc.up 0 [] ++ items) [] ∙ ap (λ c. cond c (cond (nat_lt 0 (length w.ioc.up)) (get_or w.ioc.up 0 [] ++ items) (get_or w.ioc.up (suc n) [])) (get_or w.ioc.up (suc n) [])) (suc_not n)

  -- while no reset is begun there is no mark
  speaks : (i : Ioc) → in_begun w ≡ false → i.generation ≡ w.ioc.generation → Grown is_reply (get_or w.ioc.up (suc n) []) (get_or i.up (suc n) []) → In i (h.marking (suc n))
  speaks i nb g gr =
      let a = line.none nb in
      let c = how_many-append is_mark (map said_of (get_or w.up (suc n) [])) (get_or w.ioc.up (suc n) []) in
      let z = grown-count is_reply is_mark (get_or w.ioc.up (suc n) []) (get_or i.up (suc n) []) Rattle.law_resets.proofs.MarksKept.reply_no_mark gr in
      let none0 : how_many is_mark (get_or w.ioc.up (suc n) []) ≡ 0 = omega (arith, a, c) in
      let f : (is_resetting w.host.mode && (w.host.asked == i.generation)) ≡ false = ap (λ m. is_resetting w.host.mode && (w.host.asked == m)) g ∙ nb in
      record {
        resets = s.resets ∙ sym g;
        due = λ l. absurd (omega (arith, z, none0, l));
        none = λ l. s.none none0;
        awaits = λ y. absurd (false_true (is_resetting w.host.mode && (w.host.asked == i.generation)) f y);
        taken = λ y. absurd (false_true (is_resetting w.host.mode && (w.host.asked == i.generation)) f y);
      }

  live_speaks : (i : Ioc) → is_live w ≡ true → IocSpeaks is_asked_out w.ioc i → In i (h.marking (suc n))
  live_speaks i v p = speaks i (k.phase_table.live v).0 p.generation_is (p.says (suc n))

  -- an entry of the controller that takes from below is nothing to the lane
  took_down : (x : Down) → marks_next (suc n) (h.marking (suc n)) (entry.Take lane.Down (item.Down x)) ≡ h.marking (suc n)
  took_down x = ap (λ y. record (h.marking (suc n)) { wait = y }) (take_calm (h.marking (suc n)).wait None (λ i it e. absurd (nothing it e)))
    where
      nothing : (it : Rattle.mpt_trace.specs.declared.item.Item.Item) → None ≡ Some it → ⊥
      nothing it e = cc

  took_back : (x : Back) → marks_next (suc n) (h.marking (suc n)) (entry.Take lane.Back (item.Back x)) ≡ h.marking (suc n)
  took_back x = ap (λ y. record (h.marking (suc n)) { wait = y }) (take_calm (h.marking (suc n)).wait None (λ i it e. absurd (nothing it e)))
    where
      nothing : (it : Rattle.mpt_trace.specs.declared.item.Item.Item) → None ≡ Some it → ⊥
      nothing it e = cc

  took_out : (x : Rattle.mpt_trace.specs.declared.item.Out.Out) → marks_next (suc n) (h.marking (suc n)) (entry.Take lane.Out (item.Out x)) ≡ h.marking (suc n)
  took_out x = ap (λ y. record (h.marking (suc n)) { wait = y }) (take_calm (h.marking (suc n)).wait None (λ i it e. absurd (nothing it e)))
    where
      nothing : (it : Rattle.mpt_trace.specs.declared.item.Item.Item) → None ≡ Some it → ⊥
      nothing it e = cc

  -- after these entries of the controller
  abbrev AfterDown : Down → List Entry → Marking
  AfterDown x t = state_after (marks_next (suc n)) (marks_next (suc n) (h.marking (suc n)) (entry.Take lane.Down (item.Down x))) t

  quietly : (x : Down) (i : Ioc) → In i (h.marking (suc n)) → In i (AfterDown x [])
  quietly x i d = subst (In i) (sym (took_down x)) d

  resets_now : (reg value : ℕ) (rest : List Down) → w.down ≡ down.Write reg value ∷ rest → (d : Rattle.mpi_doorbell.specs.DoorRegisters.DoorRegisters) → (Rattle.mpt_rules.specs.Host.Doorbell.is_reset_item (down.Write reg value) || Rattle.law_facts.specs.Words.is_stray_reset (down.Write reg value)) ≡ true
      → In (Rattle.mpt_rules.specs.Ioc.Resets.forgets (record w.ioc { door = d })) (AfterDown (down.Write reg value) (entry.UnbindAll ∷ []))
  resets_now reg value rest e d r =
      let a = phase.asked_now w h b (down.Write reg value) rest e r in
      let ak = (and_false (is_resetting w.host.mode && not (w.host.asked == w.ioc.generation)) (not w.host.returning) a).0 in
      let p = phase.asked_phase w.host.mode w.host.asked w.ioc.generation (state_of w.ioc) (phased_of w k.phase_table) ak in
      let nb : in_begun w ≡ false = let t = and_false _ _ ak in off_second (is_resetting w.host.mode) (w.host.asked == w.ioc.generation) (opposite (w.host.asked == w.ioc.generation) t.1) in
      let hm = line.early ak in
      let kd = line.kinds in let ka = others-append is_reply_or_mark (map said_of (get_or w.up (suc n) [])) (get_or w.ioc.up (suc n) []) in
      let mk = line.none nb in let ma = how_many-append is_mark (map said_of (get_or w.up (suc n) [])) (get_or w.ioc.up (suc n) []) in
      let sz = b.facts.flights.sizes.lanes in let so = b.facts.flights.sizes.outboxes in
      let ob = marked_outbox (next_generation w.ioc) n w.ioc.up (omega (arith, sz, so, below)) (omega (arith, kd, ka)) in
      let due0 = s.none (omega (arith, mk, ma)) in
      let rs : ((h.marking (suc n)).resets + 1) % 2 ^ 32 ≡ (w.ioc.generation + 1) % 2 ^ 32 = ap (λ m. (m + 1) % 2 ^ 32) s.resets in
      let c1 = how_many-cons is_mark (said.Mark ((w.ioc.generation + 1) % 2 ^ 32)) [] in let c0 = how_many-nil {X = Said} is_mark in
      subst (λ m. In (Rattle.mpt_rules.specs.Ioc.Resets.forgets (record w.ioc { door = d })) (marks_next (suc n) m entry.UnbindAll)) (sym (took_down (down.Write reg value)))
      (subst (λ xs. DueStands ((w.ioc.generation + 1) % 2 ^ 32) (is_resetting w.host.mode && (w.host.asked == (w.ioc.generation + 1) % 2 ^ 32)) (has_mark w (suc n)) (marks_next (suc n) (h.marking (suc n)) entry.UnbindAll) xs) (sym ob)
      (record {
        resets = rs;
        due = λ l. (ap (λ m. m ∷ (h.marking (suc n)).due) rs ∙ ap (λ ds. (w.ioc.generation + 1) % 2 ^ 32 ∷ ds) due0, refl);
        none = λ l. absurd (omega (arith, c1, c0, l));
        awaits = λ y z. ap Awaits rs;
        taken = λ y z. absurd (false_true (has_mark w (suc n)) hm z);
      }))
    where
      opposite : (c : Bool) → not c ≡ true → c ≡ false
      opposite true e = absurd (cc)
      opposite false e = refl

  by_shook : (reg value : ℕ) (j i : Ioc) → j.generation ≡ w.ioc.generation → j.up ≡ w.ioc.up → Rattle.law_moves.proofs.IocTakes.Shook j i → In i (AfterDown (down.Write reg value) [])
  by_shook reg value j i g u (Rattle.law_moves.proofs.IocTakes.Stays a e) = quietly (down.Write reg value) i (same_ioc i (ap (λ (y : Ioc). y.generation) e ∙ g) (same_up i (ap (λ (y : Ioc). y.up) e ∙ u)))
  by_shook reg value j i g u (Rattle.law_moves.proofs.IocTakes.ComesUp a c e) = quietly (down.Write reg value) i (same_ioc i (ap (λ (y : Ioc). y.generation) e ∙ g) (same_up i (ap (λ (y : Ioc). y.up) e ∙ u)))

  writes : (reg value : ℕ) (rest : List Down) → w.down ≡ down.Write reg value ∷ rest → (f : Rattle.mpi_doorbell.specs.declared.effect.Effect.Effect) → (Rattle.mpi_doorbell.specs.DoorRegisters.register_written w.ioc.door reg value).effect ≡ f
      → In (Rattle.mpt_rules.specs.Ioc.Registers.after_effect (record w.ioc { door = (Rattle.mpi_doorbell.specs.DoorRegisters.register_written w.ioc.door reg value).registers }) f).part
      (AfterDown (down.Write reg value) (Rattle.mpt_rules.specs.Ioc.Registers.after_effect (record w.ioc { door = (Rattle.mpi_doorbell.specs.DoorRegisters.register_written w.ioc.door reg value).registers }) f).entries)
  writes reg value rest e f q = by_effect f q
    where
      d : Rattle.mpi_doorbell.specs.DoorRegisters.DoorRegisters
      d = (Rattle.mpi_doorbell.specs.DoorRegisters.register_written w.ioc.door reg value).registers

      resets : Rattle.law_flights.specs.Given.Resets (Rattle.mpi_doorbell.specs.DoorRegisters.register_written w.ioc.door reg value).effect → In (Rattle.mpt_rules.specs.Ioc.Resets.forgets (record w.ioc { door = d })) (AfterDown (down.Write reg value) (entry.UnbindAll ∷ []))
      resets y = resets_now reg value rest e d ((Rattle.law_moves.proofs.Registers.writes_are w.ioc.door reg value b.facts.doorbell.sound.waits).resets y)

      by_effect : (f : Rattle.mpi_doorbell.specs.declared.effect.Effect.Effect) → (Rattle.mpi_doorbell.specs.DoorRegisters.register_written w.ioc.door reg value).effect ≡ f
          → In (Rattle.mpt_rules.specs.Ioc.Registers.after_effect (record w.ioc { door = d }) f).part (AfterDown (down.Write reg value) (Rattle.mpt_rules.specs.Ioc.Registers.after_effect (record w.ioc { door = d }) f).entries)
      by_effect Rattle.mpi_doorbell.specs.declared.effect.Effect.TheVariants.None q = quietly (down.Write reg value) (record w.ioc { door = d }) s
      by_effect (Rattle.mpi_doorbell.specs.declared.effect.Effect.TheVariants.Asked count bytes) q = by_shook reg value (record w.ioc { door = d }) _ refl refl (Rattle.law_moves.proofs.IocTakes.shook (record w.ioc { door = d }) (Rattle.std.proofs.Common.take count bytes))
      by_effect Rattle.mpi_doorbell.specs.declared.effect.Effect.TheVariants.UnitReset q = resets (subst Rattle.law_flights.specs.Given.Resets (sym q) tt)
      by_effect Rattle.mpi_doorbell.specs.declared.effect.Effect.TheVariants.AdapterReset q = resets (subst Rattle.law_flights.specs.Given.Resets (sym q) tt)
      by_effect (Rattle.mpi_doorbell.specs.declared.effect.Effect.TheVariants.Fault code) q = quietly (down.Write reg value) (Rattle.mpt_rules.specs.Ioc.Tables.faults (record w.ioc { door = d }) code) s

  -- an item that is no write: the leaf says what becomes of the controller
  by_leaf : (x : Down) (i : Ioc) → ((reg value : ℕ) → x ≡ down.Write reg value → ⊥) → Takes w.ioc x i → is_fault (state_of i) ≡ false → In i (AfterDown x [])
  by_leaf x i never (Faults y j f) z = absurd (cc)
  by_leaf x i never (Written reg value j nr st sa) z = absurd (never reg value refl)
  by_leaf x i never (Operates value j nr r st sa) z = absurd (never _ value refl)
  by_leaf x i never (Forgets reg value d r) z = absurd (never reg value refl)
  by_leaf x i never (Reads reg value) z = quietly (down.Read reg) (say.says_on w.ioc 0 (said.Value value ∷ [])) (same_ioc (say.says_on w.ioc 0 (said.Value value ∷ [])) refl (first_said (said.Value value ∷ [])))
  by_leaf x i never (Posts d f p j o sa) z = quietly (down.Post d f p) i (same_ioc i (ap (λ (y : Ioc). y.generation) sa) (same_up i (ap (λ (y : Ioc). y.up) sa)))
  by_leaf x i never (DropsPost d f p o) z = quietly (down.Post d f p) w.ioc s
  by_leaf x i never (Returns address index j o sa) z = quietly (down.Return address index) i (same_ioc i (ap (λ (y : Ioc). y.generation) sa) (same_up i (ap (λ (y : Ioc). y.up) sa)))
  by_leaf x i never (DropsReturn address index o) z = quietly (down.Return address index) w.ioc s
  by_leaf x i never Stops z = quietly down.Stop (say.with_out_item w.ioc Rattle.mpt_trace.specs.declared.item.Out.TheVariants.Stop) s

  ioc_takes : (x : Down) (rest : List Down) → w.down ≡ x ∷ rest → is_fault (state_of (adapter.takes_down w.ioc x).part) ≡ false → In (adapter.takes_down w.ioc x).part (AfterDown x (adapter.takes_down w.ioc x).entries)
  ioc_takes (down.Write reg value) rest e z = writes reg value rest e (Rattle.mpi_doorbell.specs.DoorRegisters.register_written w.ioc.door reg value).effect refl
  ioc_takes (down.Read reg) rest e z = by_leaf (down.Read reg) (adapter.takes_down w.ioc (down.Read reg)).part (λ r v e. cc) (takes w.ioc b.facts.doorbell.sound.waits k.phase_table.whole (down.Read reg)) z
  ioc_takes (down.Post d f p) rest e z = by_leaf (down.Post d f p) (adapter.takes_down w.ioc (down.Post d f p)).part (λ r v e. cc) (takes w.ioc b.facts.doorbell.sound.waits k.phase_table.whole (down.Post d f p)) z
  ioc_takes (down.Return a i) rest e z = by_leaf (down.Return a i) (adapter.takes_down w.ioc (down.Return a i)).part (λ r v e. cc) (takes w.ioc b.facts.doorbell.sound.waits k.phase_table.whole (down.Return a i)) z
  ioc_takes down.Stop rest e z = by_leaf down.Stop (adapter.takes_down w.ioc down.Stop).part (λ r v e. cc) (takes w.ioc b.facts.doorbell.sound.waits k.phase_table.whole down.Stop) z

  -- an item of the fabric
  by_deaf : (i : Ioc) → i.generation ≡ w.ioc.generation → Deaf w.ioc i.up → In i (h.marking (suc n))
  by_deaf i g (Silent e) = same_ioc i g (same_up i e)
  by_deaf i g (CalmSaid e) = same_ioc i g (ap (λ us. get_or us (suc n) []) e ∙ first_said (said.Calm ∷ []))

  said_by : (x : Back) (o : Happening Ioc) → News never_out w.ioc x o → is_live w ≡ true → In o.part (h.marking (suc n))
  said_by x o (SpeaksBack l p) v = speaks o.part (k.phase_table.live v).0 p.generation_is (p.says (suc n))
  said_by x o (Unlinked m i z e) v = subst (λ (y : Happening Ioc). In y.part (h.marking (suc n))) (sym e) s
  said_by x o (LinkedUp m i g r e) v = subst (λ (y : Happening Ioc). In y.part (h.marking (suc n))) (sym e) s
  said_by x o (CalmTold i e) v = subst (λ (y : Happening Ioc). In y.part (h.marking (suc n))) (sym e) (same_ioc (say.says_on w.ioc 0 (said.Calm ∷ [])) refl (first_said (said.Calm ∷ [])))

  told : (x : Back) → In (adapter.takes_back w.ioc x).part (h.marking (suc n))
  told x = by_live (is_live w) refl
    where
      nw : News never_out w.ioc x (adapter.takes_back w.ioc x)
      nw = news never_out w.ioc x

      by_live : (c : Bool) → is_live w ≡ c → In (adapter.takes_back w.ioc x).part (h.marking (suc n))
      by_live true v = said_by x (adapter.takes_back w.ioc x) nw v
      by_live false v = by_deaf (adapter.takes_back w.ioc x).part (replies.generation_is w h b x (adapter.takes_back w.ioc x) nw) (deaf w.ioc v x)

  ioc_takes_back : (x : Back) → In (adapter.takes_back w.ioc x).part (After (entry.Take lane.Back (item.Back x) ∷ (adapter.takes_back w.ioc x).entries))
  ioc_takes_back x =
      let a = state_stays (marks_next (suc n)) IsIocWord (ioc_word (suc n)) (marks_next (suc n) (h.marking (suc n)) (entry.Take lane.Back (item.Back x))) (adapter.takes_back w.ioc x).entries (back_words w.ioc x) in
      subst (In (adapter.takes_back w.ioc x).part) (sym (a ∙ took_back x)) (told x)

  worked : (i : Ioc) (t : List Entry) → EachEntry IsIocWord t → IocSpeaks is_asked_out w.ioc i → (xs : List Rattle.mpt_rules.specs.declared.post.Post.Post) (x : Rattle.mpt_rules.specs.declared.post.Post.Post) (rest : List Rattle.mpt_rules.specs.declared.post.Post.Post) → xs ≡ x ∷ rest → (is_bare (state_of w.ioc) ≡ true → xs ≡ []) → In i (After t)
  worked i t a p xs x rest e f = subst (In i) (sym (state_stays (marks_next (suc n)) IsIocWord (ioc_word (suc n)) (h.marking (suc n)) t a)) (by_live (is_live w) refl)
    where
      by_live : (c : Bool) → is_live w ≡ c → In i (h.marking (suc n))
      by_live true v = live_speaks i v p
      by_live false v = let c = f (replies.ready_live (state_of w.ioc) k.phase_table.whole v) in absurd (cc)

  -- an item is put on a lane up
  put_up : (queue : ℕ) (y : Said) (rest : List Said) (z : Up) → outbox_of w.ioc queue ≡ y ∷ rest → In (Rattle.mpt_rules.specs.Ioc.Sending.up_sent_on w.ioc queue) (After (entry.Put (up_lane queue) (item.Up z) ∷ []))
  put_up queue y rest z e = by_lane queue e
    where
      other : (q : ℕ) → (suc n == q) ≡ false → outbox_of (Rattle.mpt_rules.specs.Ioc.Sending.up_sent_on w.ioc q) (suc n) ≡ outbox_of w.ioc (suc n)
      other q i = get_or-set_any w.ioc.up q (suc n) (drop 1 (get_or w.ioc.up q [])) [] ∙ ap (λ c. cond c (cond (nat_lt q (length w.ioc.up)) (drop 1 (get_or w.ioc.up q [])) (get_or w.ioc.up (suc n) [])) (get_or w.ioc.up (suc n) [])) i

      here : (q : ℕ) → outbox_of w.ioc q ≡ y ∷ rest → (suc n == q) ≡ true → (outbox_of (Rattle.mpt_rules.specs.Ioc.Sending.up_sent_on w.ioc q) (suc n) ≡ rest) × (outbox_of w.ioc (suc n) ≡ y ∷ rest)
      here q f i =
          let m = eqb-true (suc n) q i in (
            get_or-set_any w.ioc.up q (suc n) (drop 1 (get_or w.ioc.up q [])) [] ∙ (ap (λ c. cond c (cond (nat_lt q (length w.ioc.up)) (drop 1 (get_or w.ioc.up q [])) (get_or w.ioc.up (suc n) [])) (get_or w.ioc.up (suc n) [])) i ∙ (ap (λ c. cond c (drop 1 (get_or w.ioc.up q [])) (get_or w.ioc.up (suc n) [])) (within w.ioc.up q y rest f) ∙ ap (drop 1) f)),
            ap (λ j. get_or w.ioc.up j []) m ∙ f,
          )

      -- one mark at most is on a line
      few : how_many is_mark (up_line w (suc n)) ≤ 1
      few = by_begun (in_begun w) refl
        where
          le_one : (c : Bool) → one_if c ≤ 1
          le_one true = omega arith
          le_one false = omega arith

          by_begun : (c : Bool) → in_begun w ≡ c → how_many is_mark (up_line w (suc n)) ≤ 1
          by_begun true g = let a = line.one g in let c = le_one (not (has_mark w (suc n))) in omega (arith, a, c)
          by_begun false g = let a = line.none g in omega (arith, a)

      gone : outbox_of w.ioc (suc n) ≡ y ∷ rest → how_many is_mark rest ≡ 0
      gone f = by_mark (is_mark y) refl
        where
          l : how_many is_mark (up_line w (suc n)) ≡ how_many is_mark (map said_of (get_or w.up (suc n) [])) + how_many is_mark (get_or w.ioc.up (suc n) [])
          l = how_many-append is_mark (map said_of (get_or w.up (suc n) [])) (get_or w.ioc.up (suc n) [])

          c : how_many is_mark (y ∷ rest) ≡ one_if (is_mark y) + how_many is_mark rest
          c = how_many-cons is_mark y rest

          front_mark : how_many is_mark (y ∷ rest) ≡ how_many is_mark rest → 1 ≤ how_many is_mark rest → is_mark y ≡ false → how_many is_mark rest ≡ 0
          front_mark u v i =
              let fo = ap (how_many is_mark) f in
              let d = (s.due (omega (arith, fo, u, v))).1 in
              let sg : Some y ≡ Some (said.Mark w.ioc.generation) = ap (λ xs. slice_get xs 0) (sym f) ∙ d in
              let yy : y ≡ said.Mark w.ioc.generation = some_is y (said.Mark w.ioc.generation) sg in
              absurd (false_true (is_mark y) i (ap is_mark yy))
            where
              some_is : (a c : Said) → Some a ≡ Some c → a ≡ c
              some_is a c e = cc

          by_count : (m : ℕ) → how_many is_mark rest ≡ m → is_mark y ≡ false → how_many is_mark rest ≡ 0
          by_count zero u i = u
          by_count (suc m) u i = let cc0 = c in let o : one_if (is_mark y) ≡ 0 = ap one_if i in front_mark (omega (arith, cc0, o)) (omega (arith, u)) i

          by_mark : (t : Bool) → is_mark y ≡ t → how_many is_mark rest ≡ 0
          by_mark true i = let a = few in let ll = l in let cc0 = c in let fo = ap (how_many is_mark) f in let o : one_if (is_mark y) ≡ 1 = ap one_if i in omega (arith, a, ll, cc0, fo, o)
          by_mark false i = by_count (how_many is_mark rest) refl i

      put_other : (q : ℕ) → (suc n == q) ≡ false → In (Rattle.mpt_rules.specs.Ioc.Sending.up_sent_on w.ioc q) (h.marking (suc n))
      put_other q i = same_ioc (Rattle.mpt_rules.specs.Ioc.Sending.up_sent_on w.ioc q) refl (other q i)

      flip : (a c : ℕ) (t : Bool) → (a == c) ≡ t → (c == a) ≡ t
      flip a c true e = ap (λ m. c == m) (eqb-true a c e) ∙ same_is c
      flip a c false e = by_test (c == a) refl
        where
          by_test : (y : Bool) → (c == a) ≡ y → y ≡ false
          by_test true z = let i : c ≡ a = eqb-true c a z in absurd (false_true (a == c) e (ap (λ m. m == c) (sym i) ∙ same_is c))
          by_test false z = refl

      put_here : (q : ℕ) → outbox_of w.ioc (suc q) ≡ y ∷ rest → (suc n == suc q) ≡ true → In (Rattle.mpt_rules.specs.Ioc.Sending.up_sent_on w.ioc (suc q)) (record (h.marking (suc n)) { due = [] })
      put_here q f i =
          let o = here (suc q) f i in
          let z0 = gone o.1 in
          let c = ap (how_many is_mark) o.0 in
          record {
            resets = s.resets;
            due = λ l. absurd (omega (arith, z0, c, l));
            none = λ l. refl;
            awaits = s.awaits;
            taken = s.taken;
          }

      by_lane : (q : ℕ) → outbox_of w.ioc q ≡ y ∷ rest → In (Rattle.mpt_rules.specs.Ioc.Sending.up_sent_on w.ioc q) (After (entry.Put (up_lane q) (item.Up z) ∷ []))
      by_lane zero f = put_other 0 (suc_not n)
      by_lane (suc q) f = by_queue (suc n == suc q) refl
        where
          by_queue : (c : Bool) → (suc n == suc q) ≡ c → In (Rattle.mpt_rules.specs.Ioc.Sending.up_sent_on w.ioc (suc q)) (After (entry.Put (lane.UpOn (suc q)) (item.Up z) ∷ []))
          by_queue true i = subst (λ c. In (Rattle.mpt_rules.specs.Ioc.Sending.up_sent_on w.ioc (suc q)) (record (h.marking (suc n)) { due = rule.due_after_put (h.marking (suc n)).due (if c then Some (item.Up z) else None) })) (sym (flip (suc n) (suc q) true i)) (put_here q f i)
          by_queue false i = subst (λ c. In (Rattle.mpt_rules.specs.Ioc.Sending.up_sent_on w.ioc (suc q)) (record (h.marking (suc n)) { due = rule.due_after_put (h.marking (suc n)).due (if c then Some (item.Up z) else None) })) (sym (flip (suc n) (suc q) false i)) (put_other (suc q) i)

  host_puts : (x : Down) (rest : List Down) → DueWorld (record w { host = after_sent w.host x rest; down = w.down ++ x ∷ [] }) (After (entry.Put lane.Down (item.Down x) ∷ []))
  host_puts (down.Return address index) rest = s
  host_puts (down.Write reg value) rest = s
  host_puts (down.Read reg) rest = s
  host_puts (down.Post d f p) rest = s
  host_puts down.Stop rest = s

  input_apart : (i : Rattle.mpt_trace.specs.declared.input.Input.Input) → EachEntry IsApart (Rattle.mpt_rules.specs.World.Inputs.host_told w.host i).entries
  input_apart i = each (Rattle.mpt_rules.specs.World.Inputs.host_told w.host i).entries (Rattle.law_moves.proofs.InputWords.input_words w.host i)
    where
      one : (e : Entry) → Rattle.law_moves.proofs.InputWords.IsInputWord e → IsApart e
      one = Rattle.law_moves.proofs.InputWords.any_of IsApart (λ i. tt) (λ n a q. tt) (λ n c. tt) (λ c x. tt)

      each : (t : List Entry) → EachEntry Rattle.law_moves.proofs.InputWords.IsInputWord t → EachEntry IsApart t
      each [] h = tt
      each (e ∷ t) h = (one e h.0, each t h.1)

  plug_apart : (t : List Entry) → EachEntry Rattle.law_moves.proofs.CasesTold.IsPlugWord t → EachEntry IsApart t
  plug_apart [] h = tt
  plug_apart (entry.Given i ∷ t) h = (tt, plug_apart t h.1)
  plug_apart (entry.Refuse c x ∷ t) h = (tt, plug_apart t h.1)
  plug_apart (entry.Bind handle address plug ∷ t) h = absurd h.0
  plug_apart (entry.Unbind handle ∷ t) h = absurd h.0
  plug_apart (entry.HostUp ∷ t) h = absurd h.0
  plug_apart (entry.Ready address handle ∷ t) h = absurd h.0
  plug_apart (entry.Lost address handle ∷ t) h = absurd h.0
  plug_apart (entry.Answer k how ∷ t) h = absurd h.0
  plug_apart (entry.AbortEnd k how ∷ t) h = absurd h.0
  plug_apart (entry.TargetEnd address how ∷ t) h = absurd h.0
  plug_apart (entry.Idle x ∷ t) h = absurd h.0
  plug_apart (entry.Put l i ∷ t) h = absurd h.0
  plug_apart (entry.Take l i ∷ t) h = absurd h.0
  plug_apart (entry.UnbindAll ∷ t) h = absurd h.0
  plug_apart (entry.Run address tag ∷ t) h = absurd h.0
  plug_apart (entry.Accept k address smid ∷ t) h = absurd h.0
  plug_apart (entry.RefuseSubmit k cause ∷ t) h = absurd h.0
  plug_apart (entry.ResetDone ∷ t) h = absurd h.0

  owes : OwesTold Kept w
  owes =
      record {
        idles = λ c v. s;
        host_puts = λ x rest e v. host_puts x rest;
        host_takes = λ queue x rest e y v. host_takes (hears_up w.host queue x).part queue x rest (hears_up w.host queue x).entries e y (marked_by w h b (hears_up w.host queue x).part (phase.takes_item w h b queue x rest e y v.stage)) (host_tells w.host queue x);
        host_told = λ i t v. by_host _ (Rattle.mpt_rules.specs.World.Inputs.host_told w.host i).entries (input_apart i) (goes.told w i t);
        host_looks = λ e v. by_host _ [] tt (goes.looks_on w e);
        host_stops = λ e v. by_host _ [] tt (goes.stops_now w e);
        no_session = λ v. s;
        ioc_takes = λ x rest e v. ioc_takes x rest e v.whole;
        ioc_high = λ p rest e v. worked (step.works_on (record w.ioc { high = rest }) p).part (step.works_on (record w.ioc { high = rest }) p).entries (works_words (record w.ioc { high = rest }) p) (phase.high_words w h b p rest) w.ioc.high p rest e (λ c. (k.tables_empty c).high);
        ioc_normal = λ p rest e v. worked (step.works_on (record w.ioc { normal = rest }) p).part (step.works_on (record w.ioc { normal = rest }) p).entries (works_words (record w.ioc { normal = rest }) p) (phase.normal_words w h b p rest) w.ioc.normal p rest e (λ c. (k.tables_empty c).normal);
        ioc_puts_out = λ x rest e v. s;
        ioc_takes_back = λ x rest e v. ioc_takes_back x;
        ioc_puts = λ queue y rest z e u v. put_up queue y rest z e;
        fabric_takes = λ x rest e v. same_state (record w { fabric = Rattle.mpt_rules.specs.Fabric.Calls.takes_out w.fabric x; out = rest }) _ (took_out x) s;
        fabric_says = λ x rest e v. s;
        fabric_puts = λ x rest e v. s;
        fabric_runs = λ tag address e v. s;
        plugs = λ address expander phy t a v. same_state (record w { fabric = (Rattle.mpt_rules.specs.Fabric.Calls.fabric_plugs w.fabric address expander phy).part }) (After t) (apart t (plug_apart t a)) s;
        unplugs = λ address t a v. same_state (record w { fabric = (Rattle.mpt_rules.specs.Fabric.Calls.fabric_unplugs w.fabric address).part }) (After t) (apart t (plug_apart t a)) s;
        calms = λ v. s;
      }

  pub due_kept : (c : Case) → Behind (happens w c) → MarkIsDue (happens w c) (history_after h (entries w c)) (suc n)
  unfolding mark_count
  due_kept c v = let d = kept_told Kept w b.plain owes c v in record { resets = d.resets; due = d.due; none = d.none; awaits = d.awaits; taken = d.taken }
