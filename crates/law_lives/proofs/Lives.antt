-- What is on its way leads from each handle's phase to its binding, in every case.
use Rattle.std.proofs.Common.{◌≡◌, ℕ, zero, suc, ◌+◌, ◌-◌, ◌≤◌, get_or, length, is_some, slice_get, ◌&&◌, ◌||◌, Bool, true, false, if◌then◌else◌, List, [], ◌∷◌, ◌++◌, map, Option, Some, None, refl, ap, sym, ◌∙◌, subst, arith, append_assoc, get_or-set_same, get_or-set_other}
use Rattle.std.specs.Prelude.{All}
use Rattle.std.proofs.lemmas.List.Elements.{All-head}
use Rattle.smid_pool.specs.Pool.{Slot, Free, Open, Parked, least_free, record_of}
use Rattle.smid_pool.specs.declared.class.Class.TheVariants as class
use Rattle.removal.specs.Handles.{IsHandle, phase_at}
use Rattle.removal.specs.declared.phase.Phase.{Phase}
use Rattle.removal.specs.declared.phase.Phase.TheVariants as phase
use Rattle.mpt_rules.specs.Host.Removal.{is_absent}
use Rattle.mpi_doorbell.specs.HostDoor.{HostDoor}
use Rattle.mpi_doorbell.specs.declared.state.IocState.{IocState}
use Rattle.mpi_doorbell.specs.declared.state.IocState.TheVariants as ioc_state
use Rattle.mpi_doorbell.specs.DoorRegisters.{is_fault}
use Rattle.mpt_wire.specs.Machine.Causes.{is_resetting, is_up}
use Rattle.mpt_wire.specs.Messages.Fields.{smid_in}
use Rattle.mpt_trace.specs.declared.choice.Choice.TheVariants as choice
use Rattle.mpt_trace.specs.declared.host_state.HostState.{HostState}
use Rattle.mpt_trace.specs.declared.host_state.HostState.TheVariants as state
use Rattle.mpt_trace.specs.declared.input.Input.{Input}
use Rattle.mpt_trace.specs.declared.item.Down.{Down}
use Rattle.mpt_trace.specs.declared.item.Down.TheVariants as down
use Rattle.mpt_trace.specs.declared.item.Up.{Up}
use Rattle.mpt_trace.specs.declared.item.Up.TheVariants as upward
use Rattle.mpt_rules.specs.declared.request.Request.{Request}
use Rattle.mpt_rules.specs.declared.request.Request.TheVariants as request
use Rattle.mpt_rules.specs.declared.said.Said.{Said}
use Rattle.mpt_rules.specs.declared.said.Said.TheVariants as said
use Rattle.mpt_rules.specs.Host.Parts.{Host}
use Rattle.mpt_rules.specs.Host.Posts as asks
use Rattle.mpt_rules.specs.Host.Replies as replies
use Rattle.mpt_rules.specs.Host.Returns.{after_sent}
use Rattle.mpt_rules.specs.Host.Takes.{hears_up, is_starting, looks, stops}
use Rattle.mpt_rules.specs.Ioc.Parts.{Ioc, state_of}
use Rattle.mpt_rules.specs.Ioc.Replies.{outbox_of}
use Rattle.mpt_rules.specs.declared.binding.Binding.{Binding}
use Rattle.mpt_rules.specs.declared.binding.Binding.TheVariants as binding
use Rattle.mpt_rules.specs.Ioc.Replies as say
use Rattle.mpt_rules.specs.Ioc.Sending.{front_up_of, up_of, up_sent_on}
use Rattle.mpt_rules.specs.Ioc.Steps as step
use Rattle.mpt_rules.specs.Ioc.Tables.{binding_of, first_handle, is_operational, is_ready, is_unbound}
use Rattle.mpt_rules.specs.Ioc.Takes.{takes_down}
use Rattle.mpt_rules.specs.Law.{NothingIsStrange}
use Rattle.mpt_rules.specs.World.Cases.{Case, happens, moves_or_idles}
use Rattle.mpt_rules.specs.World.Counts.{how_many, one_if}
use Rattle.mpt_rules.specs.World.Inputs.{host_told}
use Rattle.mpt_rules.specs.World.Lines.{said_of, said_reply, up_line}
use Rattle.mpt_rules.specs.World.Moves as move
use Rattle.mpt_rules.specs.World.News.{news_in}
use Rattle.mpt_rules.specs.World.State.{World, up_on, with_up}
use Rattle.law_facts.specs.Clock.{are_level, in_begun, in_normal, is_linked_up, is_live}
use Rattle.law_facts.specs.Facts.{Facts}
use Rattle.law_facts.specs.Handles.{LifeOfHandle, Vacant, freed_in, phase_of, removal_of, replayed, side_of_binding, side_of_phase, turn_of, turns_of}
use Rattle.law_facts.specs.History.{History}
use Rattle.law_facts.specs.Messages.{AnswersBy, SaidIs}
use Rattle.law_facts.specs.Words.{is_off, is_reply, others, slot}
use Rattle.law_moves.proofs.Cases.{Owes, kept}
use Rattle.law_moves.proofs.Counted.{how_many-cons}
use Rattle.law_moves.proofs.HostGoes as goes
use Rattle.law_moves.proofs.HostGoes.{HostGoes, NoNews}
use Rattle.law_moves.proofs.HostSpeaks.{Rises}
use Rattle.law_moves.proofs.HostSpeaks as speaks
use Rattle.law_moves.proofs.IocTakes as leaf
use Rattle.law_moves.proofs.IocTakes.{Takes, takes}
use Rattle.law_places.proofs.Premises as premises
use Rattle.law_handles.proofs.Life.{turns_append, turns_cons, turns_nil}
use Rattle.law_handles.proofs.LifeCases as cases
use Rattle.law_handles.proofs.ServingWorld.{bare}
use Rattle.law_handles.proofs.Tables.{binding_is}
use Rattle.law_handles.proofs.LifeWorld as lives
use Rattle.law_lives.specs.Standing.{LivesStand}
use Rattle.law_lives.proofs.HostDoes as does
use Rattle.law_lives.proofs.HostDoes.{Accepts, Alike, AsksAbort, AsksTarget, Begins, GivesUp, HostDoes, IsNoReply, Notifies, Renews, Rests}

clash : {X : Type 0} (b : Bool) → b ≡ true → b ≡ false → X
clash true x y = absurd (cc)
clash false x y = absurd (cc)

and_second : (a b : Bool) → (a && b) ≡ true → b ≡ true
and_second true b t = t
and_second false b t = absurd (cc)

-- ---- items that tell nothing of a handle

record IsSilent (x : Said) : Type 0 where
  frees : (s : ℕ) → freed_in s x ≡ []
  tells : (g : ℕ) → news_in g x ≡ []

silent_value : (v : ℕ) → IsSilent (said.Value v)
silent_value v = record { frees = λ s. none s; tells = λ g. refl }
  where
    none : (s : ℕ) → freed_in s (said.Value v) ≡ []
    none zero = refl
    none (suc s) = refl

silent_mark : (v : ℕ) → IsSilent (said.Mark v)
silent_mark v = record { frees = λ s. none s; tells = λ g. refl }
  where
    none : (s : ℕ) → freed_in s (said.Mark v) ≡ []
    none zero = refl
    none (suc s) = refl

silent_calm : IsSilent said.Calm
silent_calm = record { frees = λ s. none s; tells = λ g. refl }
  where
    none : (s : ℕ) → freed_in s said.Calm ≡ []
    none zero = refl
    none (suc s) = refl

silent_first : (s g : ℕ) (x : Said) (xs : List Said) → IsSilent x → turns_of s g (x ∷ xs) ≡ turns_of s g xs
silent_first s g x xs z = turns_cons s g x xs ∙ (ap (λ ts. ts ++ (map turn_of (news_in g x) ++ turns_of s g xs)) (z.frees s) ∙ ap (λ ns. map turn_of ns ++ turns_of s g xs) (z.tells g))

silent_one : (s g : ℕ) (x : Said) → IsSilent x → turns_of s g (x ∷ []) ≡ []
silent_one s g x z = silent_first s g x [] z ∙ turns_nil s g

-- ---- tables

outbox_said : (ioc : Ioc) (xs : List Said) → 1 ≤ length ioc.up → outbox_of (say.says_on ioc 0 xs) 0 ≡ outbox_of ioc 0 ++ xs
outbox_said ioc xs l = get_or-set_same ioc.up 0 (outbox_of ioc 0 ++ xs) [] (omega (arith, l))

at_absent : (phases : List Phase) (j : ℕ) → others is_absent phases ≡ 0 → get_or phases j phase.Absent ≡ phase.Absent
unfolding others
at_absent [] j z = refl
at_absent (p ∷ ps) j z = by_place j p z (λ k e. at_absent ps k e)
  where
    by_place : (j : ℕ) (p : Phase) → (if is_absent p then 0 else 1) + others is_absent ps ≡ 0 → ((k : ℕ) → others is_absent ps ≡ 0 → get_or ps k phase.Absent ≡ phase.Absent) → get_or (p ∷ ps) j phase.Absent ≡ phase.Absent
    by_place zero phase.Absent z f = refl
    by_place (suc j) phase.Absent z f = f j (omega (arith, z))
    by_place j phase.WaitRead z f = absurd (omega (arith, z))
    by_place j (phase.Reading s) z f = absurd (omega (arith, z))
    by_place j (phase.Ready a) z f = absurd (omega (arith, z))
    by_place j phase.WaitHigh z f = absurd (omega (arith, z))
    by_place j (phase.Resetting s) z f = absurd (omega (arith, z))
    by_place j phase.WaitInternal z f = absurd (omega (arith, z))
    by_place j (phase.Removing s) z f = absurd (omega (arith, z))

at_unbound : (bs : List Binding) (j : ℕ) → others is_unbound bs ≡ 0 → get_or bs j binding.Unbound ≡ binding.Unbound
unfolding others
at_unbound [] j z = refl
at_unbound (b ∷ bs) j z = by_place j b z (λ k e. at_unbound bs k e)
  where
    by_place : (j : ℕ) (b : Binding) → (if is_unbound b then 0 else 1) + others is_unbound bs ≡ 0 → ((k : ℕ) → others is_unbound bs ≡ 0 → get_or bs k binding.Unbound ≡ binding.Unbound) → get_or (b ∷ bs) j binding.Unbound ≡ binding.Unbound
    by_place zero binding.Unbound z f = refl
    by_place (suc j) binding.Unbound z f = f j (omega (arith, z))
    by_place j (binding.Present a p e y) z f = absurd (omega (arith, z))
    by_place j (binding.Gone a) z f = absurd (omega (arith, z))

-- ---- modes

normal_apart : (m : HostState) → (is_starting m || is_up m) ≡ true → is_resetting m ≡ false
normal_apart state.Off t = refl
normal_apart state.Starting t = refl
normal_apart state.Up t = refl
normal_apart state.Resetting t = absurd (cc)

off_apart : (m : HostState) → is_off m ≡ false → is_resetting m ≡ false → (is_starting m || is_up m) ≡ true
off_apart state.Off o r = absurd (cc)
off_apart state.Starting o r = refl
off_apart state.Up o r = refl
off_apart state.Resetting o r = absurd (cc)

notified_phases : (m : Host) → (asks.asks_internal m request.Notification).phases ≡ m.phases
notified_phases m = by_free (least_free class.Internal m.pool)
  where
    by_free : (o : Option ℕ) → (asks.posts_internal_or_waits m request.Notification o).phases ≡ m.phases
    by_free None = refl
    by_free (Some s) = refl

module _ (w : World) (h : History) (f : Facts w h) (plain : NothingIsStrange w) (g : ℕ) (i : IsHandle g) where
  same : LifeOfHandle w g
  same = (f.handles.each g i).life

  abbrev Says : Host → Ioc → List Said → Type 0
  Says k ioc line = replayed (Some (side_of_phase (phase_at k.phases g))) (turns_of (removal_of (phase_at k.phases g)) g line) ≡ Some (side_of_binding (binding_of ioc g))

  -- a host with the same phases, and a line that tells the same
  says_same : (k : Host) (line : List Said) → k.phases ≡ w.host.phases → ((s : ℕ) → turns_of s g line ≡ turns_of s g (up_line w 0)) → in_normal w ≡ true → is_live w ≡ true → Says k w.ioc line
  says_same k line e t n l =
      subst (λ ps. replayed (Some (side_of_phase (phase_at ps g))) (turns_of (removal_of (phase_at ps g)) g line) ≡ Some (side_of_binding (binding_of w.ioc g))) (sym e)
      (ap (replayed (Some (side_of_phase (phase_of w g)))) (t (removal_of (phase_of w g))) ∙ same n l)

  linked_dead : is_linked_up w ≡ true → is_live w ≡ true → ⊥
  linked_dead l v = by_state (state_of w.ioc) (and_second _ _ l) v
    where
      by_state : (x : IocState) → is_ready x ≡ true → is_operational x ≡ true → ⊥
      by_state ioc_state.Reset a b = cc
      by_state ioc_state.Ready a b = cc
      by_state ioc_state.Operational a b = cc
      by_state (ioc_state.Fault code) a b = cc

  not_off : is_live w ≡ true → is_off w.host.mode ≡ false
  not_off l = (f.clock.phase_table.live l).1

  -- whatever the host does but with a reply
  by_does : (k : Host) (line : List Said) → HostDoes w k → ((s : ℕ) → turns_of s g line ≡ turns_of s g (up_line w 0)) → (is_starting k.mode || is_up k.mode) ≡ true → is_live w ≡ true → Says k w.ioc line
  by_does k line (Rests a) t n l = says_same k line a.phases_are t (sym (ap (λ m. is_starting m || is_up m) a.mode_is) ∙ n) l
  by_does k line (Begins m a) t n l = clash (is_off w.host.mode) (ap is_off m) (not_off l)
  by_does k line (GivesUp s m a) t n l = clash (is_resetting k.mode) (ap is_resetting a.mode_is) (normal_apart k.mode n)
  by_does k line (Renews r u a) t n l = absurd (linked_dead u l)
  by_does k line (Notifies m st a e) t n l =
      says_same k line (ap (λ (x : Host). x.phases) e ∙ (notified_phases m ∙ a.phases_are)) t (ap (λ x. is_starting x || is_up x) st) l
  by_does k line (Accepts s n2 address handle command u c r free e) t n l = says_same k line (ap (λ (x : Host). x.phases) e) t (sym (ap (λ (x : Host). is_starting x.mode || is_up x.mode) e) ∙ n) l
  by_does k line (AsksAbort s n2 cmd u c r free e) t n l = says_same k line (ap (λ (x : Host). x.phases) e) t (sym (ap (λ (x : Host). is_starting x.mode || is_up x.mode) e) ∙ n) l
  by_does k line (AsksTarget s address handle u r free e) t n l = says_same k line (ap (λ (x : Host). x.phases) e) t (sym (ap (λ (x : Host). is_starting x.mode || is_up x.mode) e) ∙ n) l

  -- ---- lanes

  lane_zero : (rest : List Up) → up_on (with_up w 0 rest) 0 ≡ rest
  lane_zero rest = let q = f.flights.sizes.some_queue in let v = f.flights.sizes.lanes in get_or-set_same w.up 0 rest [] (omega (arith, q, v))

  lane_above : (q : ℕ) (rest : List Up) → up_on (with_up w (suc q) rest) 0 ≡ up_on w 0
  lane_above q rest = get_or-set_other w.up (suc q) 0 rest [] (λ e. absurd (cc))

  -- the line of queue 0 once an item was taken
  taken_line : (queue : ℕ) (x : Up) (rest : List Up) → up_on w queue ≡ x ∷ rest → IsSilent (said_of x) → (s : ℕ) → turns_of s g (up_line (with_up w queue rest) 0) ≡ turns_of s g (up_line w 0)
  taken_line zero x rest e z s =
      ap (λ xs. turns_of s g (map said_of xs ++ outbox_of w.ioc 0)) (lane_zero rest)
      ∙ (sym (silent_first s g (said_of x) (map said_of rest ++ outbox_of w.ioc 0) z) ∙ sym (ap (λ xs. turns_of s g (map said_of xs ++ outbox_of w.ioc 0)) e))
  taken_line (suc q) x rest e z s = ap (λ xs. turns_of s g (map said_of xs ++ outbox_of w.ioc 0)) (lane_above q rest)

  silent_item : (x : Up) → IsNoReply x → IsSilent (said_of x)
  silent_item (upward.Value v) n = silent_value v
  silent_item (upward.Mark v) n = silent_mark v
  silent_item upward.Calm n = silent_calm
  silent_item (upward.Reply d o page sense) n = absurd n

  no_reply : (queue : ℕ) (x : Up) (rest : List Up) → up_on w queue ≡ x ∷ rest → IsNoReply x → LifeOfHandle (record (with_up w queue rest) { host = (hears_up w.host queue x).part }) g
  no_reply queue x rest e z n l = by_does (hears_up w.host queue x).part (up_line (with_up w queue rest) 0) (does.takes w h f plain queue x rest e z) (taken_line queue x rest e (silent_item x z)) n l

  -- ---- replies

  -- a reply ends no reset
  still_resets : (k : Host) → HostGoes w k NoNews → is_resetting w.host.mode ≡ true → is_resetting k.mode ≡ true
  still_resets k (goes.Same e) r = ap (λ (x : Host). is_resetting x.mode) e ∙ r
  still_resets k (goes.Says m o en s u) r = clash (is_resetting w.host.mode) r m
  still_resets k (goes.Hands m s j fr) r = by_rise k.mode s.rises
    where
      by_rise : (m : HostState) → Rises false w.host.mode m → is_resetting m ≡ true
      by_rise m (speaks.Stays e) = ap is_resetting e ∙ r
      by_rise m (speaks.ComesUp y u e) = absurd (cc)
  still_resets k (goes.Starts o t) r = clash (is_resetting w.host.mode) r (ap is_resetting o)
  still_resets k (goes.Asks s m o y e) r = clash (is_resetting w.host.mode) r m
  still_resets k (goes.AsksNow s c m o y q t z) r = clash (is_resetting w.host.mode) r m
  still_resets k (goes.Looks u y t) r = clash (is_resetting w.host.mode) r (goes.up_normal w.host.mode u).0
  still_resets k (goes.StopsNow u e) r = clash (is_resetting w.host.mode) r (goes.up_normal w.host.mode u).0

  normal_before : (k : Host) → HostGoes w k NoNews → (is_starting k.mode || is_up k.mode) ≡ true → is_live w ≡ true → in_normal w ≡ true
  normal_before k x n l = off_apart w.host.mode (not_off l) (by_reset (is_resetting w.host.mode) refl)
    where
      by_reset : (b : Bool) → is_resetting w.host.mode ≡ b → b ≡ false
      by_reset false r = refl
      by_reset true r = clash (is_resetting k.mode) (still_resets k x r) (normal_apart k.mode n)

  reply_zero : (d : ℕ) (o : Option (List ℕ)) (page sense : List ℕ) (rest : List Up) → up_on w 0 ≡ upward.Reply d o page sense ∷ rest → LifeOfHandle (record (with_up w 0 rest) { host = (hears_up w.host 0 (upward.Reply d o page sense)).part }) g
  reply_zero d o page sense rest e n l =
      lives.after_reply w h f (normal_before (hears_up w.host 0 (upward.Reply d o page sense)).part (premises.goes w h f plain 0 (upward.Reply d o page sense) rest e) n l) l d o page sense rest e g i

  -- above queue 0 only commands are answered
  of_command : (q s : ℕ) (item : Said) (r : Request) → AnswersBy w h (suc q) s item (Open r) → (n : ℕ) × (r ≡ request.Command n)
  of_command q s item (request.Command n) a = (n, refl)
  of_command q s (said.Framed x fr page sense) (request.Abort n t) a = let z = a.0 in absurd (cc)
  of_command q s (said.Framed x fr page sense) (request.TargetReset t) a = let z = a.0 in absurd (cc)
  of_command q s (said.Framed x fr page sense) (request.Leave t) a = let z = a.0 in absurd (cc)
  of_command q s (said.Framed x fr page sense) (request.Page t) a = let z = a.0 in absurd (cc)
  of_command q s (said.Framed x fr page sense) (request.Remove t) a = let z = a.0 in absurd (cc)
  of_command q s (said.Framed x fr page sense) (request.Ack t c) a = let z = a.0 in absurd (cc)
  of_command q s (said.Framed x fr page sense) request.Notification a = let z = a.0 in absurd (cc)
  of_command q s (said.Framed x fr page sense) request.PortEnable a = let z = a.0 in absurd (cc)
  of_command q s item r a = absurd a

  command_open : (q s : ℕ) (item : Said) (y : Slot Request) → AnswersBy w h (suc q) s item y → (n : ℕ) × (y ≡ Open (request.Command n))
  command_open q s item (Open r) a = let z = of_command q s item r a in (z.0, ap (λ x. Open x) z.1)
  command_open q s (said.Framed x fr page sense) Free a = absurd a
  command_open q s (said.Framed x fr page sense) Parked a = absurd a
  command_open q s (said.Success x page sense) Free a = absurd a
  command_open q s (said.Success x page sense) Parked a = absurd a
  command_open q s (said.Value v) Free a = absurd a
  command_open q s (said.Value v) Parked a = absurd a
  command_open q s (said.Mark v) Free a = absurd a
  command_open q s (said.Mark v) Parked a = absurd a
  command_open q s said.Calm Free a = absurd a
  command_open q s said.Calm Parked a = absurd a

  above_open : (q s : ℕ) (o : Option (List ℕ)) (page sense : List ℕ) → SaidIs w h (suc q) (said_reply s o page sense) → (n : ℕ) × (slot w.host s ≡ Open (request.Command n))
  above_open q s None page sense a = command_open q s (said.Success s page sense) (slot w.host s) a
  above_open q zero (Some fr) page sense a = let z = a.0 in absurd (cc)
  above_open q (suc s) (Some fr) page sense a = command_open q (suc s) (said.Framed (suc s) fr page sense) (slot w.host (suc s)) a

  reply_above : (q d : ℕ) (o : Option (List ℕ)) (page sense : List ℕ) (rest : List Up) → up_on w (suc q) ≡ upward.Reply d o page sense ∷ rest
      → LifeOfHandle (record (with_up w (suc q) rest) { host = (hears_up w.host (suc q) (upward.Reply d o page sense)).part }) g
  reply_above q d o page sense rest e n l =
      let like = does.entry_taken w.host (suc q) d o in
      let line = λ (s : ℕ). ap (λ xs. turns_of s g (map said_of xs ++ outbox_of w.ioc 0)) (lane_above q rest) in
      says_same (hears_up w.host (suc q) (upward.Reply d o page sense)).part (up_line (with_up w (suc q) rest) 0) (ap (λ (y : Slot Request). (replies.hears_reply_to x1 (smid_in d) (record_of y) (replies.heard_of d o page sense)).part.phases) there.1 ∙ like.phases_are) line
      (normal_before (hears_up w.host (suc q) (upward.Reply d o page sense)).part (premises.goes w h f plain (suc q) (upward.Reply d o page sense) rest e) n l) l
    where
      x1 : Host
      x1 = replies.takes_entry (replies.with_frame_heard w.host d o) (suc q)

      first_of_line : (xs : List Up) → up_on w (suc q) ≡ xs → All (SaidIs w h (suc q)) (map said_of xs ++ outbox_of w.ioc (suc q))
      first_of_line xs e = subst (λ ys. All (SaidIs w h (suc q)) (map said_of ys ++ outbox_of w.ioc (suc q))) e (f.messages.said (suc q))

      there : (n : ℕ) × (slot w.host (smid_in d) ≡ Open (request.Command n))
      there = above_open q (smid_in d) o page sense (All-head (SaidIs w h (suc q)) (said_reply (smid_in d) o page sense) (map said_of rest ++ outbox_of w.ioc (suc q)) (first_of_line (upward.Reply d o page sense ∷ rest) e))

  taken : (queue : ℕ) (x : Up) (rest : List Up) → up_on w queue ≡ x ∷ rest → LifeOfHandle (record (with_up w queue rest) { host = (hears_up w.host queue x).part }) g
  taken queue (upward.Value v) rest e = no_reply queue (upward.Value v) rest e tt
  taken queue (upward.Mark v) rest e = no_reply queue (upward.Mark v) rest e tt
  taken queue upward.Calm rest e = no_reply queue upward.Calm rest e tt
  taken zero (upward.Reply d o page sense) rest e = reply_zero d o page sense rest e
  taken (suc q) (upward.Reply d o page sense) rest e = reply_above q d o page sense rest e

  told : (j : Input) → LifeOfHandle (record w { host = (host_told w.host j).part }) g
  told j n l = by_does (host_told w.host j).part (up_line w 0) (does.told w j) (λ s. refl) n l

  -- ---- the controller takes an item of the host's

  others_first : (xs : List Said) → how_many is_reply xs ≡ 0 → (s : ℕ) → turns_of s g xs ≡ []
  others_first [] z s = turns_nil s g
  others_first (x ∷ xs) z s = (let c = how_many-cons is_reply x xs in silent_first s g x xs (by_item x (omega (arith, c, z))) ∙ others_first xs (omega (arith, c, z)) s)
    where
      by_item : (x : Said) → one_if (is_reply x) ≡ 0 → IsSilent x
      by_item (said.Value v) u = silent_value v
      by_item (said.Mark v) u = silent_mark v
      by_item said.Calm u = silent_calm
      by_item (said.Success s page sense) u = absurd (omega (arith, u))
      by_item (said.Framed s fr page sense) u = absurd (omega (arith, u))

  -- one that was just started has no handle bound, nor the host any phase
  while_dead : in_normal w ≡ true → is_live w ≡ false → Says w.host w.ioc (up_line w 0)
  while_dead n d =
      let b : in_begun w ≡ false = not_begun in
      let z = f.clock.no_reply_before_init.before b d 0 in
      let t = others_first (up_line w 0) z in
      let p : phase_of w g ≡ phase.Absent = at_absent w.host.phases (g - 0x0009) (f.doorbell.fresh_start.fresh starts has_machine).phases in
      let u : binding_of w.ioc g ≡ binding.Unbound = binding_is w.ioc g i ∙ at_unbound w.ioc.bindings (g - first_handle) (f.clock.tables_empty (bare w f.clock.phase_table.whole d)).bindings in
      subst (λ x. replayed (Some (side_of_phase x)) (turns_of (removal_of x) g (up_line w 0)) ≡ Some (side_of_binding (binding_of w.ioc g))) (sym p)
      (ap (replayed (Some Vacant)) (t 0) ∙ sym (ap (λ x. Some (side_of_binding x)) u))
    where
      not_begun : in_begun w ≡ false
      not_begun = by_mode (is_resetting w.host.mode) (normal_apart w.host.mode n)
        where
          by_mode : (c : Bool) → c ≡ false → (c && are_level w) ≡ false
          by_mode true e = absurd (cc)
          by_mode false e = refl

      by_mode : (m : HostState) → w.host.mode ≡ m → (is_starting m || is_up m) ≡ true → is_starting m ≡ true
      by_mode state.Off e t = absurd (cc)
      by_mode state.Starting e t = refl
      by_mode state.Up e t = clash (is_live w) (f.clock.fabric_off.up (ap is_up e)).live d
      by_mode state.Resetting e t = absurd (cc)

      starts : is_starting w.host.mode ≡ true
      starts = by_mode w.host.mode refl n

      has_machine : is_some w.host.machine ≡ true
      has_machine = by_machine w.host.machine refl
        where
          by_machine : (o : Option HostDoor) → w.host.machine ≡ o → is_some o ≡ true
          by_machine None e = clash (is_live w) (f.doorbell.rests.started starts e) d
          by_machine (Some x) e = refl

  -- the tables stay
  says_tables : (k : Ioc) → outbox_of k 0 ≡ outbox_of w.ioc 0 → binding_of k g ≡ binding_of w.ioc g → in_normal w ≡ true → is_live w ≡ true → Says w.host k (map said_of (up_on w 0) ++ outbox_of k 0)
  says_tables k e b n l =
      subst (λ xs. replayed (Some (side_of_phase (phase_of w g))) (turns_of (removal_of (phase_of w g)) g (map said_of (up_on w 0) ++ xs)) ≡ Some (side_of_binding (binding_of k g))) (sym e)
      (same n l ∙ sym (ap (λ x. Some (side_of_binding x)) b))

  dead_ready : is_ready (state_of w.ioc) ≡ true → is_live w ≡ false
  dead_ready r = by_state (state_of w.ioc) r
    where
      by_state : (x : IocState) → is_ready x ≡ true → is_operational x ≡ false
      by_state ioc_state.Reset a = refl
      by_state ioc_state.Ready a = refl
      by_state ioc_state.Operational a = absurd (cc)
      by_state (ioc_state.Fault code) a = refl

  no_fault : (x : IocState) → is_fault x ≡ true → is_operational x ≡ true → ⊥
  no_fault ioc_state.Reset a b = cc
  no_fault ioc_state.Ready a b = cc
  no_fault ioc_state.Operational a b = cc
  no_fault (ioc_state.Fault code) a b = cc

  by_takes : (x : Down) (k : Ioc) → Takes w.ioc x k → in_normal w ≡ true → is_operational k.door.state ≡ true → Says w.host k (map said_of (up_on w 0) ++ outbox_of k 0)
  by_takes x k (leaf.Faults y m e) n l = absurd (no_fault k.door.state e l)
  by_takes x k (leaf.Written reg value m r s e) n l = says_tables k (ap (λ (y : Ioc). outbox_of y 0) e) (ap (λ (y : Ioc). binding_of y g) e) n (sym (ap is_operational s) ∙ l)
  by_takes x k (leaf.Operates value m r s t e) n l =
      subst (λ xs. replayed (Some (side_of_phase (phase_of w g))) (turns_of (removal_of (phase_of w g)) g (map said_of (up_on w 0) ++ xs)) ≡ Some (side_of_binding (binding_of k g))) (sym (ap (λ (y : Ioc). outbox_of y 0) e))
      (while_dead n (dead_ready s) ∙ sym (ap (λ (y : Ioc). Some (side_of_binding (binding_of y g))) e))
  by_takes x k (leaf.Forgets reg value d e) n l = absurd (cc)
  by_takes x k (leaf.Reads reg value) n l =
      let line = outbox_said w.ioc (said.Value value ∷ []) (let q = f.flights.sizes.some_queue in let u = f.flights.sizes.outboxes in omega (arith, q, u)) in
      subst (λ xs. replayed (Some (side_of_phase (phase_of w g))) (turns_of (removal_of (phase_of w g)) g (map said_of (up_on w 0) ++ xs)) ≡ Some (side_of_binding (binding_of w.ioc g))) (sym line)
      (ap (replayed (Some (side_of_phase (phase_of w g)))) (one_more_value (removal_of (phase_of w g)) value) ∙ same n l)
    where
      one_more_value : (s v : ℕ) → turns_of s g (map said_of (up_on w 0) ++ (outbox_of w.ioc 0 ++ said.Value v ∷ [])) ≡ turns_of s g (up_line w 0)
      one_more_value s v =
          ap (turns_of s g) (sym (append_assoc (map said_of (up_on w 0)) (outbox_of w.ioc 0) (said.Value v ∷ [])))
          ∙ (turns_append s g (up_line w 0) (said.Value v ∷ []) ∙ does.append_none (turns_of s g (up_line w 0)) (turns_of s g (said.Value v ∷ [])) (silent_one s g (said.Value v) (silent_value v)))
  by_takes x k (leaf.Posts d fr p m s e) n l = says_tables k (ap (λ (y : Ioc). outbox_of y 0) e) (ap (λ (y : Ioc). binding_of y g) e) n s
  by_takes x k (leaf.DropsPost d fr p e) n l = says_tables k refl refl n l
  by_takes x k (leaf.Returns a j m s e) n l = says_tables k (ap (λ (y : Ioc). outbox_of y 0) e) (ap (λ (y : Ioc). binding_of y g) e) n s
  by_takes x k (leaf.DropsReturn a j e) n l = says_tables k refl refl n l
  by_takes x k leaf.Stops n l = says_tables k refl refl n l

  ioc_takes : (x : Down) (rest : List Down) → w.down ≡ x ∷ rest → LifeOfHandle (record w { ioc = (takes_down w.ioc x).part; down = rest }) g
  ioc_takes x rest e n l = by_takes x (takes_down w.ioc x).part (takes w.ioc f.doorbell.sound.waits f.clock.phase_table.whole x) n l

  -- ---- every case

  abbrev Keeps : World → Type 0
  Keeps v = LifeOfHandle v g

  sends : (x : Down) (rest : List Down) → Keeps (record w { host = after_sent w.host x rest; down = w.down ++ x ∷ [] })
  sends (down.Return address index) rest = same
  sends (down.Write reg value) rest = same
  sends (down.Read reg) rest = same
  sends (down.Post d fr p) rest = same
  sends down.Stop rest = same

  puts : (queue : ℕ) (y : Said) (rest : List Said) (z : Up) → outbox_of w.ioc queue ≡ y ∷ rest → up_of y (slice_get w.ioc.ring 0) ≡ Some z → Keeps (with_up (record w { ioc = up_sent_on w.ioc queue }) queue (up_on w queue ++ z ∷ []))
  puts zero y rest z e u =
      subst (λ o. Keeps (moves_or_idles w choice.IocPut (move.ioc_puts w 0 o)).part) u
      (subst (λ xs. Keeps (moves_or_idles w choice.IocPut (move.ioc_puts w 0 (front_up_of (slice_get xs 0) (slice_get w.ioc.ring 0)))).part) e (cases.life_put w h f g i))
  puts (suc q) y rest z e u =
      subst (λ o. Keeps (moves_or_idles w (choice.IocPutOn (suc q)) (move.ioc_puts w (suc q) o)).part) u
      (subst (λ xs. Keeps (moves_or_idles w (choice.IocPutOn (suc q)) (move.ioc_puts w (suc q) (front_up_of (slice_get xs 0) (slice_get w.ioc.ring 0)))).part) e (cases.life_put_above w h f g i (suc q)))

  owed : Owes Keeps w
  owed =
      record {
        host_puts = λ x rest e. sends x rest;
        host_takes = λ queue x rest e s. taken queue x rest e;
        host_told = λ j k. told j;
        host_looks = λ e n l. by_does (looks w.host) (up_line w 0) (does.looks w) (λ s. refl) n l;
        host_stops = λ e n l. by_does (stops w.host) (up_line w 0) (does.stops w) (λ s. refl) n l;
        ioc_takes = λ x rest e. ioc_takes x rest e;
        ioc_high = λ p rest e. subst (λ xs. Keeps (moves_or_idles w choice.IocHigh (move.ioc_works w (step.steps_high_on w.ioc xs))).part) e (cases.life_high w h f g i);
        ioc_normal = λ p rest e. subst (λ xs. Keeps (moves_or_idles w choice.IocNormal (move.ioc_works w (step.steps_normal_on w.ioc xs))).part) e (cases.life_normal w h f g i);
        ioc_puts_out = λ x rest e. same;
        ioc_takes_back = λ x rest e. subst (λ xs. Keeps (moves_or_idles w choice.IocBack (move.ioc_takes_back w xs)).part) e (cases.life_back w h f g i);
        ioc_puts = λ queue y rest z e u. puts queue y rest z e u;
        fabric_takes = λ x rest e. same;
        fabric_says = λ x rest e. same;
        fabric_puts = λ x rest e. same;
        fabric_runs = λ tag address e. same;
        plugs = λ address expander phy. same;
        unplugs = λ address. same;
        calms = same;
      }

  pub life : (c : Case) → LifeOfHandle (happens w c) g
  life c = kept Keeps w plain owed same c

-- LifeOfHandle, in every case
pub lives_stand : (w : World) (h : History) (c : Case) → Facts w h → NothingIsStrange w → LivesStand (happens w c)
lives_stand w h c f plain g i = life w h f plain g i c
