-- Each case keeps that no reply to a command says something else, once one said that it was stopped.
use Rattle.std.proofs.Common.{◌≡◌, ℕ, zero, suc, ◌<◌, ◌≤◌, ◌==◌, ◌&&◌, ◌⊎◌, inl, inr, nat_le, Bool, true, false, if◌then◌else◌, List, [], ◌∷◌, get_or, map, slice_get, Option, Some, None, refl, ap, sym, ◌∙◌, subst, arith}
use Rattle.std.specs.Prelude.{All}
use Rattle.std.specs.List.{sum_by}
use Rattle.std.proofs.lemmas.Bool.{eqb-true}
use Rattle.std.proofs.lemmas.List.Elements.{All-head}
use Rattle.std.proofs.lemmas.List.Sums.{sum_by-cons}
use Rattle.smid_pool.specs.Pool.{Slot, Free, Open, Parked}
use Rattle.mpt_trace.specs.declared.entry.Entry.{Entry}
use Rattle.mpt_trace.specs.declared.entry.Entry.TheVariants as entry
use Rattle.mpt_trace.specs.declared.item.Down.TheVariants as downward
use Rattle.mpt_trace.specs.declared.item.Item.{Item}
use Rattle.mpt_trace.specs.declared.item.Item.TheVariants as item
use Rattle.mpt_trace.specs.declared.item.Out.TheVariants as out
use Rattle.mpt_trace.specs.declared.item.Up.{Up}
use Rattle.mpt_trace.specs.declared.item.Up.TheVariants as upward
use Rattle.mpt_trace.specs.declared.lane.LaneName.{LaneName}
use Rattle.mpt_trace.specs.declared.lane.LaneName.TheVariants as lane
use Rattle.mpt_wire.specs.Messages.Fields.{smid_in}
use Rattle.mpt_wire.specs.Messages.Naming.{Says, is_abort_of, names_command, said_in}
use Rattle.mpt_wire.specs.Paths.Stops.{AbortIsPut, AbortIsReplied, HasTask, IsReplied, LifeMark, StopLife, Stopping, abort_replied, is_stopped, life_after, life_mark, life_with, new_life, stopping_next}
use Rattle.mpt_wire.specs.Paths.TerminationCounts.{AReset, AnAbort, HighPost, NoPost, Replied, count_of}
use Rattle.mpt_wire.specs.Queues.LeastFree.{is_accept_with}
use Rattle.mpt_wire.specs.Walks.Passes.{EachEntry, state_after}
use Rattle.mpt_rules.specs.declared.request.Request.{Request}
use Rattle.mpt_rules.specs.declared.request.Request.TheVariants as request
use Rattle.mpt_rules.specs.declared.said.Said.{Said}
use Rattle.mpt_rules.specs.declared.said.Said.TheVariants as said
use Rattle.mpt_rules.specs.Host.Takes.{hears_up}
use Rattle.mpt_rules.specs.Ioc.Places.{is_reply_of}
use Rattle.mpt_rules.specs.Ioc.Replies.{outbox_of}
use Rattle.mpt_rules.specs.Ioc.Sending.{up_of}
use Rattle.mpt_rules.specs.Ioc.Steps as step
use Rattle.mpt_rules.specs.Ioc.Takes as adapter
use Rattle.mpt_rules.specs.Law.{NothingIsStrange}
use Rattle.mpt_rules.specs.World.Cases.{Case, entries}
use Rattle.mpt_rules.specs.World.Counts.{one_if, reply_count}
use Rattle.mpt_rules.specs.World.Inputs.{host_told}
use Rattle.mpt_rules.specs.World.Lines.{said_of}
use Rattle.mpt_rules.specs.World.Settings.{Setting}
use Rattle.mpt_rules.specs.World.State.{World, up_lane, up_on}
use Rattle.mpt_rules.proofs.Counts.{reply_count-cons}
use Rattle.law_facts.specs.Facts.{Facts}
use Rattle.law_facts.specs.History.{History, first_history, history_after}
use Rattle.law_facts.specs.Messages.{AnswersBy, SaidIs}
use Rattle.law_facts.specs.Words.{is_command_asked, slot}
use Rattle.law_flights.proofs.HostQuiet.{IsQuiet, quiet, quiet_taken}
use Rattle.law_flights.proofs.HostTold.{told_input}
use Rattle.law_flights.proofs.IocTold.{told_back, told_down, told_high, told_normal}
use Rattle.law_flights.proofs.Rising.{same_identifier}
use Rattle.law_moves.proofs.CasesTold.{IsPlugWord, OwesTold, kept_told}
use Rattle.law_messages.proofs.Agreeing.{all_last}
use Rattle.law_messages.proofs.Known.{classed, inside}
use Rattle.law_stops.specs.Stops.{EndsAgree}

abbrev One : StopLife → Type 0
One l = l.stopped ≡ true → l.other ≡ false

-- a mark that is no reply to the command
abbrev IsNoReply : Option LifeMark → Type 0
IsNoReply (Some (IsReplied said)) = ⊥
IsNoReply m = Unit {0}

one_after : (l : StopLife) (m : Option LifeMark) → IsNoReply m → One l → One (life_after l m)
one_after l None n o = o
one_after l (Some HasTask) n o = o
one_after l (Some AbortIsPut) n o = o
one_after l (Some (AbortIsReplied sent count)) n o = o
one_after l (Some (IsReplied said)) n o = absurd n

accepts : (b : Bool) (l : StopLife) → One l → One (if b then new_life else l)
accepts true l o = λ e. absurd (cc)
accepts false l o = o

-- an entry that puts no reply
abbrev PutsNoReply : Entry → Type 0
PutsNoReply (entry.Put l (item.Up (upward.Reply d frame page sense))) = ⊥
PutsNoReply _ = Unit {0}

if_none : (b : Bool) (m : LifeMark) → IsNoReply (Some m) → IsNoReply (if b then Some m else None)
if_none true m n = n
if_none false m n = tt

item_none : (s : ℕ) (highs : ℕ → HighPost) (l : LaneName) (x : Item) → PutsNoReply (entry.Put l x) → IsNoReply (life_mark s highs (entry.Put l x))
item_none s highs l (item.Down (downward.Post d f p)) h = if_none (is_abort_of s (item.Down (downward.Post d f p))) AbortIsPut tt
item_none s highs l (item.Down (downward.Write reg value)) h = tt
item_none s highs l (item.Down (downward.Read reg)) h = tt
item_none s highs l (item.Down (downward.Return a i)) h = tt
item_none s highs l (item.Down downward.Stop) h = tt
item_none s highs l (item.Up (upward.Reply d f page sense)) h = absurd h
item_none s highs l (item.Up (upward.Value value)) h = tt
item_none s highs l (item.Up (upward.Mark generation)) h = tt
item_none s highs l (item.Up upward.Calm) h = tt
item_none s highs l (item.Out (out.Task tag address command)) h = if_none (tag == s) HasTask tt
item_none s highs l (item.Out (out.Abort smid task)) h = tt
item_none s highs l (item.Out (out.TargetReset smid address)) h = tt
item_none s highs l (item.Out out.Discover) h = tt
item_none s highs l (item.Out (out.Link generation)) h = tt
item_none s highs l (item.Out out.Stop) h = tt
item_none s highs l (item.Back x) h = tt
item_none s highs l (item.Ask x) h = tt
item_none s highs l (item.Tell x) h = tt

mark_none : (s : ℕ) (highs : ℕ → HighPost) (e : Entry) → PutsNoReply e → IsNoReply (life_mark s highs e)
mark_none s highs (entry.Put l x) h = item_none s highs l x h
mark_none s highs (entry.Take l x) h = tt
mark_none s highs (entry.Given i) h = tt
mark_none s highs (entry.Idle x) h = tt
mark_none s highs (entry.Bind handle address plug) h = tt
mark_none s highs (entry.Unbind handle) h = tt
mark_none s highs entry.UnbindAll h = tt
mark_none s highs (entry.Run address tag) h = tt
mark_none s highs entry.HostUp h = tt
mark_none s highs (entry.Ready address handle) h = tt
mark_none s highs (entry.Lost address handle) h = tt
mark_none s highs (entry.Accept n address smid) h = tt
mark_none s highs (entry.RefuseSubmit n cause) h = tt
mark_none s highs (entry.Refuse call cause) h = tt
mark_none s highs (entry.Answer n outcome) h = tt
mark_none s highs (entry.AbortEnd n outcome) h = tt
mark_none s highs (entry.TargetEnd address outcome) h = tt
mark_none s highs entry.ResetDone h = tt

quiet_none : (e : Entry) → IsQuiet e → PutsNoReply e
quiet_none (entry.Put l i) h = absurd h
quiet_none (entry.Take l i) h = tt
quiet_none (entry.Given i) h = tt
quiet_none (entry.Idle x) h = tt
quiet_none (entry.Bind handle address plug) h = tt
quiet_none (entry.Unbind handle) h = tt
quiet_none entry.UnbindAll h = tt
quiet_none (entry.Run address tag) h = tt
quiet_none entry.HostUp h = tt
quiet_none (entry.Ready address handle) h = tt
quiet_none (entry.Lost address handle) h = tt
quiet_none (entry.Accept n address smid) h = tt
quiet_none (entry.RefuseSubmit n cause) h = tt
quiet_none (entry.Refuse call cause) h = tt
quiet_none (entry.Answer n outcome) h = tt
quiet_none (entry.AbortEnd n outcome) h = tt
quiet_none (entry.TargetEnd address outcome) h = tt
quiet_none entry.ResetDone h = tt

quiet_all : (t : List Entry) → EachEntry IsQuiet t → EachEntry PutsNoReply t
quiet_all [] h = tt
quiet_all (e ∷ t) h = (quiet_none e h.0, quiet_all t h.1)

plug_none : (e : Entry) → IsPlugWord e → PutsNoReply e
plug_none (entry.Given i) h = tt
plug_none (entry.Refuse call cause) h = tt
plug_none (entry.Put l i) h = absurd h
plug_none _ h = tt

plug_all : (t : List Entry) → EachEntry IsPlugWord t → EachEntry PutsNoReply t
plug_all [] h = tt
plug_all (e ∷ t) h = (plug_none e h.0, plug_all t h.1)

one_stays : (s : ℕ) (g : Stopping) (t : List Entry) → EachEntry PutsNoReply t → One g.life → One (state_after (stopping_next s) g t).life
one_stays s g [] a o = o
one_stays s g (e ∷ t) a o = one_stays s (stopping_next s g e) t a.1 (accepts (is_accept_with s e) (life_after g.life (life_mark s g.highs e)) (one_after g.life (life_mark s g.highs e) (mark_none s g.highs e a.0) o))

replied_one : (l : StopLife) (x : Says) → l.stopped ≡ false → l.other ≡ false → One (life_with l (IsReplied x))
replied_one l x a b = by_test (is_stopped x)
  where
    by_test : (c : Bool) → One (if c then record l { stopped = true } else record l { other = true })
    by_test true = λ e. b
    by_test false = λ e. let z : true ≡ false = sym e ∙ a in absurd (cc)

abort_none : (s : ℕ) (g : HighPost) (n : ℕ) → IsNoReply (abort_replied s g n)
abort_none s (AnAbort task p) n = by_key (task == s)
  where
    by_key : (b : Bool) → IsNoReply (if b then Some (AbortIsReplied (Rattle.mpt_wire.specs.Paths.Stops.is_post_sent p) n) else None)
    by_key true = tt
    by_key false = tt
abort_none s (AReset p) n = tt
abort_none s NoPost n = tt
abort_none s Replied n = tt

boxed : (q : ℕ) (boxes : List (List Said)) (queue : ℕ) (y : Said) (rest : List Said) → get_or boxes queue [] ≡ y ∷ rest → is_reply_of q y ≡ true → 1 ≤ sum_by (reply_count q) boxes
boxed q [] queue y rest e t = absurd (cc)
boxed q (b ∷ bs) zero y rest e t =
    let a = sum_by-cons (reply_count q) b bs in let c = ap (reply_count q) e in let d = reply_count-cons q y rest in let o : one_if (is_reply_of q y) ≡ 1 = ap one_if t in
    omega (arith, a, c, d, o)
boxed q (b ∷ bs) (suc i) y rest e t = let a = sum_by-cons (reply_count q) b bs in let c = boxed q bs i y rest e t in omega (arith, a, c)

module _ (w : World) (h : History) (f : Facts w h) (ends : EndsAgree h) where
  OnCase : World → List Entry → Type 0
  OnCase v t = EndsAgree (history_after h t)

  without : (v : World) (t : List Entry) → EachEntry PutsNoReply t → OnCase v t
  unfolding OnCase
  without v t a s = one_stays s (h.stopping s) t a (ends s)

  silent : (v : World) (t : List Entry) → EachEntry IsQuiet t → OnCase v t
  silent v t a = without v t (quiet_all t a)

  behind : (v : World) (e : Entry) (t : List Entry) → PutsNoReply e → EachEntry IsQuiet t → OnCase v (e ∷ t)
  behind v e t a b = without v (e ∷ t) (a, quiet_all t b)

  -- an item that names s is of what is open under it
  pub of_slot : (queue : ℕ) (y : Said) → SaidIs w h queue y → (s : ℕ) → is_reply_of s y ≡ true → (s ≡ 0) ⊎ ((r : Request) × (slot w.host s ≡ Open r))
  of_slot queue (said.Framed zero frame page sense) a s t = inl (sym (eqb-true 0 s t))
  of_slot queue (said.Framed (suc j) frame page sense) a s t = inr (by_slot (slot w.host (suc j)) refl a)
    where
      by_slot : (x : Slot Request) → slot w.host (suc j) ≡ x → AnswersBy w h queue (suc j) (said.Framed (suc j) frame page sense) x → (r : Request) × (slot w.host s ≡ Open r)
      by_slot (Open r) e b = (r, subst (λ n. slot w.host n ≡ Open r) (eqb-true (suc j) s t) e)
      by_slot Free e b = absurd b
      by_slot Parked e b = absurd b
  of_slot queue (said.Success j page sense) a s t = inr (by_slot (slot w.host j) refl a)
    where
      by_slot : (x : Slot Request) → slot w.host j ≡ x → AnswersBy w h queue j (said.Success j page sense) x → (r : Request) × (slot w.host s ≡ Open r)
      by_slot (Open r) e b = (r, subst (λ n. slot w.host n ≡ Open r) (eqb-true j s t) e)
      by_slot Free e b = absurd b
      by_slot Parked e b = absurd b
  of_slot queue (said.Value value) a s t = absurd (cc)
  of_slot queue (said.Mark generation) a s t = absurd (cc)
  of_slot queue said.Calm a s t = absurd (cc)

  pub low : (queue : ℕ) (y : Said) → SaidIs w h queue y → (s : ℕ) → is_reply_of s y ≡ true → s < 65536
  low queue y a s t = by_either (of_slot queue y a s t)
    where
      by_either : (s ≡ 0) ⊎ ((r : Request) × (slot w.host s ≡ Open r)) → s < 65536
      by_either (inl z) = omega (arith, z)
      by_either (inr o) = let i = inside w h f s o.0 o.1 in omega (arith, i)

  pub command_there : (s : ℕ) (r : Request) → slot w.host s ≡ Open r → s ≤ 256 → is_command_asked (slot w.host s) ≡ true
  command_there s (request.Command n) e m = ap is_command_asked e
  command_there s (request.Abort n task) e m = let c = classed w h f s (request.Abort n task) e in absurd (omega (arith, c, m))
  command_there s (request.TargetReset address) e m = let c = classed w h f s (request.TargetReset address) e in absurd (omega (arith, c, m))
  command_there s (request.Leave handle) e m = let c = classed w h f s (request.Leave handle) e in absurd (omega (arith, c, m))
  command_there s (request.Page handle) e m = let c = classed w h f s (request.Page handle) e in absurd (omega (arith, c, m))
  command_there s (request.Remove handle) e m = let c = classed w h f s (request.Remove handle) e in absurd (omega (arith, c, m))
  command_there s (request.Ack event context) e m = let c = classed w h f s (request.Ack event context) e in absurd (omega (arith, c, m))
  command_there s request.Notification e m = let c = classed w h f s request.Notification e in absurd (omega (arith, c, m))
  command_there s request.PortEnable e m = let c = classed w h f s request.PortEnable e in absurd (omega (arith, c, m))

  -- nothing was said of a command whose reply waits
  pub unsaid : (queue : ℕ) (y : Said) (rest : List Said) → outbox_of w.ioc queue ≡ y ∷ rest → SaidIs w h queue y → (s : ℕ) → 1 ≤ s → s ≤ 256 → is_reply_of s y ≡ true → ((h.stopping s).life.stopped ≡ false) × ((h.stopping s).life.other ≡ false)
  unsaid queue y rest e a s l m t = by_either (of_slot queue y a s t)
    where
      by_either : (s ≡ 0) ⊎ ((r : Request) × (slot w.host s ≡ Open r)) → ((h.stopping s).life.stopped ≡ false) × ((h.stopping s).life.other ≡ false)
      by_either (inl z) = absurd (omega (arith, z, l))
      by_either (inr o) =
          let n = (f.flights.identifiers s l (omega (arith, m))).at_most in let c = boxed s w.ioc.up queue y rest e t in
          (f.paths.stops s l m).replied (command_there s o.0 o.1 m) (omega (arith, n, c))

  puts_up : (queue : ℕ) (y : Said) (rest : List Said) (z : Up) (v : World) → outbox_of w.ioc queue ≡ y ∷ rest → up_of y (slice_get w.ioc.ring 0) ≡ Some z → OnCase v (entry.Put (up_lane queue) (item.Up z) ∷ [])
  unfolding OnCase
  puts_up queue y rest z v e u s = by_item z (same_identifier s y (slice_get w.ioc.ring 0) z (low queue y is) u)
    where
      is : SaidIs w h queue y
      is = All-head (SaidIs w h queue) y rest (subst (All (SaidIs w h queue)) e (all_last (SaidIs w h queue) (map said_of (up_on w queue)) (outbox_of w.ioc queue) (f.messages.said queue)))

      replied : (d : ℕ) (frame : Option (List ℕ)) → (smid_in d == s) ≡ is_reply_of s y → One (life_after (h.stopping s).life (if names_command s d then Some (IsReplied (said_in frame)) else abort_replied s ((h.stopping s).highs (smid_in d)) (count_of frame)))
      replied d frame g = by_tests (nat_le 1 s) (nat_le s 256) (smid_in d == s) refl refl refl
        where
          by_tests : (a b c : Bool) → nat_le 1 s ≡ a → nat_le s 256 ≡ b → (smid_in d == s) ≡ c → One (life_after (h.stopping s).life (if a && b && c then Some (IsReplied (said_in frame)) else abort_replied s ((h.stopping s).highs (smid_in d)) (count_of frame)))
          by_tests true true true x y2 z2 = let n = unsaid queue y rest e is s (grind (arith, x)) (grind (arith, y2)) (sym g ∙ z2) in replied_one (h.stopping s).life (said_in frame) n.0 n.1
          by_tests false b c x y2 z2 = one_after (h.stopping s).life (abort_replied s ((h.stopping s).highs (smid_in d)) (count_of frame)) (abort_none s ((h.stopping s).highs (smid_in d)) (count_of frame)) (ends s)
          by_tests true false c x y2 z2 = one_after (h.stopping s).life (abort_replied s ((h.stopping s).highs (smid_in d)) (count_of frame)) (abort_none s ((h.stopping s).highs (smid_in d)) (count_of frame)) (ends s)
          by_tests true true false x y2 z2 = one_after (h.stopping s).life (abort_replied s ((h.stopping s).highs (smid_in d)) (count_of frame)) (abort_none s ((h.stopping s).highs (smid_in d)) (count_of frame)) (ends s)

      by_item : (x : Up) → is_reply_of s (said_of x) ≡ is_reply_of s y → One (state_after (stopping_next s) (h.stopping s) (entry.Put (up_lane queue) (item.Up x) ∷ [])).life
      by_item (upward.Reply d None page sense) g = replied d None g
      by_item (upward.Reply d (Some frame) page sense) g = replied d (Some frame) g
      by_item (upward.Value value) g = ends s
      by_item (upward.Mark generation) g = ends s
      by_item upward.Calm g = ends s

  owes : OwesTold OnCase w
  owes =
      record {
        idles = λ c. silent _ (entry.Idle c ∷ []) (tt, tt);
        host_puts = λ x rest e. behind _ (entry.Put lane.Down (item.Down x)) [] tt tt;
        host_takes = λ queue x rest e y. behind _ (entry.Take (up_lane queue) (item.Up x)) (hears_up w.host queue x).entries tt (quiet_taken w.host queue x None);
        host_told = λ i c. silent _ (host_told w.host i).entries (quiet (host_told w.host i).entries (told_input w.host i));
        host_looks = λ e. silent _ [] tt;
        host_stops = λ e. silent _ [] tt;
        no_session = silent _ [] tt;
        ioc_takes = λ x rest e. behind _ (entry.Take lane.Down (item.Down x)) (adapter.takes_down w.ioc x).entries tt (quiet _ (told_down w.ioc x));
        ioc_high = λ p rest e. silent _ (step.works_on (record w.ioc { high = rest }) p).entries (quiet _ (told_high w.ioc (p ∷ rest)));
        ioc_normal = λ p rest e. silent _ (step.works_on (record w.ioc { normal = rest }) p).entries (quiet _ (told_normal w.ioc (p ∷ rest)));
        ioc_puts_out = λ x rest e. behind _ (entry.Put lane.Out (item.Out x)) [] tt tt;
        ioc_takes_back = λ x rest e. behind _ (entry.Take lane.Back (item.Back x)) (adapter.takes_back w.ioc x).entries tt (quiet _ (told_back w.ioc x));
        ioc_puts = λ queue y rest z e u. puts_up queue y rest z _ e u;
        fabric_takes = λ x rest e. behind _ (entry.Take lane.Out (item.Out x)) [] tt tt;
        fabric_says = λ x rest e. silent _ [] tt;
        fabric_puts = λ x rest e. behind _ (entry.Put lane.Back (item.Back x)) [] tt tt;
        fabric_runs = λ tag address e. silent _ (entry.Run address tag ∷ []) (tt, tt);
        plugs = λ address expander phy t p. without _ t (plug_all t p);
        unplugs = λ address t p. without _ t (plug_all t p);
        calms = silent _ [] tt;
      }

  pub ends_kept : NothingIsStrange w → (c : Case) → EndsAgree (history_after h (entries w c))
  unfolding OnCase
  ends_kept plain c = kept_told OnCase w plain owes c

pub ends_at_first : (s : Setting) → EndsAgree (first_history s.disks)
ends_at_first s k e = refl
