-- Each case keeps what a host that is up has of its controller: it is OPERATIONAL and enabled, lets events through, and has answered the port enable.
use Rattle.std.proofs.Common.{◌≡◌, ◌≢◌, ℕ, zero, suc, ◌+◌, ◌-◌, ◌%◌, ◌^◌, ◌<◌, ◌≤◌, ◌==◌, ◌&&◌, ◌||◌, Bool, true, false, List, [], ◌∷◌, ◌++◌, map, get_or, length, mod-lt, Option, Some, None, is_some, refl, ap, sym, ◌∙◌, subst, arith}
use Rattle.std.specs.Prelude.{All}
use Rattle.std.specs.FinMap as finmap
use Rattle.std.specs.List.{sum_by}
use Rattle.std.proofs.lemmas.List.Elements.{All-get_or, All-head}
use Rattle.smid_pool.specs.Pool.{Slot, Free, Open, Parked, record_of, slot_of}
use Rattle.config_pages.specs.ConfigAsk.{config_ask_layout, config_ask_values}
use Rattle.event_msgs.specs.EventAck.{event_ack_layout, event_ack_values}
use Rattle.ioc_msgs.specs.PortEnable.{port_enable_layout, port_enable_values}
use Rattle.ioc_msgs.specs.UnitControl.{unit_control_layout, unit_control_values}
use Rattle.mpi_doorbell.specs.DoorRegisters.{DoorRegisters, is_fault}
use Rattle.mpi_rings.specs.declared.request_descriptor.PostKind.TheVariants as post
use Rattle.mpt_messages.specs.Function.{function_of}
use Rattle.mpt_messages.specs.declared.function.Function.{Function}
use Rattle.mpt_messages.specs.declared.function.Function.TheVariants as function
use Rattle.mpt_messages.specs.declared.host_ask.HostAsk.TheVariants as ask
use Rattle.mpt_messages.proofs.FrameStands.{host_frame_stands}
use Rattle.mpt_messages.proofs.HostFits.{ack_fits, page_fits, port_enable_fits, removal_fits}
use Rattle.mpt_wire.specs.Machine.Causes.{is_resetting, is_up}
use Rattle.mpt_wire.specs.Machine.State.{OpenRequest}
use Rattle.mpt_wire.specs.Messages.Fields.{function_in, kind_in, post_descriptor, smid_in}
use Rattle.mpt_trace.specs.declared.host_state.HostState.{HostState}
use Rattle.mpt_trace.specs.declared.host_state.HostState.TheVariants as state
use Rattle.mpt_trace.specs.declared.item.Back.{Back}
use Rattle.mpt_trace.specs.declared.item.Down.{Down}
use Rattle.mpt_trace.specs.declared.item.Down.TheVariants as down
use Rattle.mpt_trace.specs.declared.item.Out.{Out}
use Rattle.mpt_trace.specs.declared.item.Up.{Up}
use Rattle.mpt_trace.specs.declared.item.Up.TheVariants as upward
use Rattle.mpt_rules.specs.declared.at_fabric.AtFabric.{AtFabric}
use Rattle.mpt_rules.specs.declared.at_fabric.AtFabric.TheVariants as at_fabric
use Rattle.mpt_rules.specs.declared.post.Post.{Post}
use Rattle.mpt_rules.specs.declared.request.Request.{Request}
use Rattle.mpt_rules.specs.declared.request.Request.TheVariants as request
use Rattle.mpt_rules.specs.declared.said.Said.TheVariants as said
use Rattle.mpt_rules.specs.Host.Parts.{Cmd, Host, host_queue_count}
use Rattle.mpt_rules.specs.Host.Posts.{frame_asked}
use Rattle.mpt_rules.specs.Host.Replies as replies
use Rattle.mpt_rules.specs.Host.Returns.{after_sent}
use Rattle.mpt_rules.specs.Host.Takes.{hears_up, is_starting, looks, stops}
use Rattle.mpt_rules.specs.Ioc.Back.{is_port_enable}
use Rattle.mpt_rules.specs.Ioc.Parts.{Ioc, state_of}
use Rattle.mpt_rules.specs.Ioc.Replies as say
use Rattle.mpt_rules.specs.Ioc.Sending.{up_sent_on}
use Rattle.mpt_rules.specs.Ioc.Steps as ioc_step
use Rattle.mpt_rules.specs.Ioc.Tables.{is_operational, request_at}
use Rattle.mpt_rules.specs.Ioc.Places.{is_reply_of}
use Rattle.mpt_rules.specs.Ioc.Takes as adapter
use Rattle.mpt_rules.specs.Outcome.{Happening}
use Rattle.mpt_rules.specs.World.Cases.{Case, happens}
use Rattle.mpt_rules.specs.World.Counts.{how_many, one_if, post_count, queued_count, reply_count}
use Rattle.mpt_rules.specs.World.Inputs.{host_told}
use Rattle.mpt_rules.specs.World.Lines.{down_line, normal_line, normal_posts, said_of, up_line}
use Rattle.mpt_rules.specs.World.PlaceCounts.{replies_on, smid_count}
use Rattle.mpt_rules.specs.World.State.{World, up_on}
use Rattle.mpt_rules.proofs.Counts.{queued_count-append, reply_count-cons, reply_count-nil}
use Rattle.law_facts.specs.Clock.{IsUpNow, are_level, in_begun, in_normal, is_live}
use Rattle.law_facts.specs.Facts.{Facts}
use Rattle.law_facts.specs.History.{History}
use Rattle.law_facts.specs.Limits.{RecordFits}
use Rattle.law_facts.specs.Messages.{CommandPost, PostIs, PostIsRecord, RequestIs, enables_before, port_enables}
use Rattle.law_facts.specs.Words.{is_enable_asked, is_notification_asked, is_off, is_reply, slot}
use Rattle.law_flights.proofs.Descriptors.{kind_posted}
use Rattle.law_flights.proofs.HostHolds.{in_table}
use Rattle.law_moves.proofs.Cases.{Owes, kept}
use Rattle.law_moves.proofs.Counted.{how_many-cons}
use Rattle.law_moves.proofs.HostGoes as goes
use Rattle.law_moves.proofs.HostGoes.{Answered, Asks, AsksNow, Front, Hands, Heard, HostGoes, IsUp, Looks, MarkOver, MarkTaken, Same, Says, Speaking, Starts, StopsNow, Values}
use Rattle.law_moves.proofs.HostSpeaks.{ComesUp, Rises, Stays, is_enable}
use Rattle.law_moves.proofs.IocSpeaks.{CalmTold, IocSpeaks, LinkedUp, News, Speaks as SpeaksBack, Unlinked, never_out, news}
use Rattle.law_moves.proofs.IocTakes as leaf
use Rattle.law_moves.proofs.IocTakes.{Takes, takes}
use Rattle.law_moves.proofs.Phases.{and_false}
use Rattle.law_moves.proofs.Valuing.{HearsValue, IsOverNow, IsReady, SpeaksOn, TurnsOn, UnitLate}
use Rattle.law_clock.specs.Premises.{Before, Behind}
use Rattle.law_clock.proofs.PhaseKept as phase
use Rattle.law_clock.proofs.PhaseKept.{asked_now, high_words, normal_words}
use Rattle.law_lights.proofs.Ones.{all_but, none_of, normal_few, one_of, some_of, sum_at}
use Rattle.law_lights.proofs.Through.{IsUpIoc, taken_up, works_up}

-- ---- modes

contrary : {T : Type 0} (c : Bool) → c ≡ false → c ≡ true → T
contrary true e f = absurd (cc)
contrary false e f = absurd (cc)

up_resets : (m : HostState) → is_up m ≡ true → is_resetting m ≡ false
up_resets state.Up e = refl
up_resets state.Off e = absurd (cc)
up_resets state.Starting e = absurd (cc)
up_resets state.Resetting e = absurd (cc)

normal_mode : (w : World) → is_resetting w.host.mode ≡ false → is_off w.host.mode ≡ false → in_normal w ≡ true
normal_mode w r o = by_mode w.host.mode r o
  where
    by_mode : (m : HostState) → is_resetting m ≡ false → is_off m ≡ false → (is_starting m || is_up m) ≡ true
    by_mode state.Up r o = refl
    by_mode state.Starting r o = refl
    by_mode state.Off r o = absurd (cc)
    by_mode state.Resetting r o = absurd (cc)

-- ---- the functions of the messages that the host posts, but the event notification

function_of_page : (s g : ℕ) → s ≤ 280 → g < 2 ^ 16 → function_of (function_in (frame_asked (ask.PageRead s g))) ≡ Some function.Config
unfolding config_ask_layout config_ask_values
function_of_page s g a l = ap (λ vs. function_of (get_or vs 3 0)) (host_frame_stands (ask.PageRead s g) (page_fits s g a l)).numbers

function_of_removal : (g : ℕ) → g < 2 ^ 16 → function_of (function_in (frame_asked (ask.Remove g))) ≡ Some function.UnitControl
unfolding unit_control_layout unit_control_values
function_of_removal g l = ap (λ vs. function_of (get_or vs 3 0)) (host_frame_stands (ask.Remove g) (removal_fits g l)).numbers

function_of_ack : (event context : ℕ) → event < 2 ^ 16 → context < 2 ^ 32 → function_of (function_in (frame_asked (ask.Ack event context))) ≡ Some function.EventAck
unfolding event_ack_layout event_ack_values
function_of_ack event context a l = ap (λ vs. function_of (get_or vs 2 0)) (host_frame_stands (ask.Ack event context) (ack_fits event context a l)).numbers

function_of_enable : function_of (function_in (frame_asked ask.PortEnable)) ≡ Some function.PortEnable
unfolding port_enable_layout port_enable_values
function_of_enable = ap (λ vs. function_of (get_or vs 2 0)) (host_frame_stands ask.PortEnable port_enable_fits).numbers

place_of : (pool : List (Slot Request)) (s : ℕ) → 1 ≤ s → get_or pool (s - 1) Free ≡ slot_of pool s
place_of pool zero l = absurd (omega (arith, l))
place_of pool (suc s) l = let e : suc s - 1 ≡ s = omega arith in ap (λ j. get_or pool j Free) e

module _ (w : World) (h : History) (b : Before w h) where
  f : Facts w h
  f = b.facts

  -- of a controller
  record StaysUp (i : Ioc) : Type 0 where
    live : is_operational (state_of i) ≡ true
    up : IsUpIoc i

  was : is_up w.host.mode ≡ true → StaysUp w.ioc
  was u = let p = f.clock.fabric_off.up u in record { live = p.live; up = record { enabled = p.enabled; through = p.through; done = p.done } }

  in_pool : (s : ℕ) (y : Slot Request) → slot w.host s ≡ y → y ≢ Free → (1 ≤ s) × (s ≤ 280)
  in_pool s y o n = let x = in_table w.host.pool s y o n in let l = f.flights.sizes.pool in (x.0, omega (arith, x, l))

  -- ---- the reply to the port enable comes

  module _ (queue d : ℕ) (g : Option (List ℕ)) (page sense : List ℕ) (fr : Front w queue (upward.Reply d g page sense)) (r : is_resetting w.host.mode ≡ false) (o : is_off w.host.mode ≡ false) (e : is_enable (replies.request_of w.host (smid_in d)) ≡ true) where
    asked : is_enable_asked (slot w.host (smid_in d)) ≡ true
    asked = by_slot (slot w.host (smid_in d)) e
      where
        by_slot : (y : Slot Request) → is_enable (record_of y) ≡ true → is_enable_asked y ≡ true
        by_slot (Open request.PortEnable) e = refl
        by_slot (Open request.Notification) e = absurd (cc)
        by_slot (Open (request.Command n)) e = absurd (cc)
        by_slot (Open (request.Abort n task)) e = absurd (cc)
        by_slot (Open (request.TargetReset address)) e = absurd (cc)
        by_slot (Open (request.Leave handle)) e = absurd (cc)
        by_slot (Open (request.Page handle)) e = absurd (cc)
        by_slot (Open (request.Remove handle)) e = absurd (cc)
        by_slot (Open (request.Ack event context)) e = absurd (cc)
        by_slot Free e = absurd (cc)
        by_slot Parked e = absurd (cc)

    place : (1 ≤ smid_in d) × (smid_in d - 1 < length w.host.pool)
    place = in_table w.host.pool (smid_in d) (slot w.host (smid_in d)) refl (λ z. contrary (is_enable_asked (slot w.host (smid_in d))) (ap is_enable_asked z) asked)

    low : smid_in d ≤ 280
    low = let p = place in let l = f.flights.sizes.pool in omega (arith, p, l)

    at_place : is_enable_asked (get_or w.host.pool (smid_in d - 1) Free) ≡ true
    at_place = ap is_enable_asked (place_of w.host.pool (smid_in d) place.0) ∙ asked

    some : 1 ≤ port_enables w
    some = some_of is_enable_asked Free w.host.pool (smid_in d - 1) place.1 at_place

    few : port_enables w ≤ 1
    few = let m = f.messages.bring_up.at_most in omega (arith, m)

    front : up_line w queue ≡ said_of (upward.Reply d g page sense) ∷ (map said_of fr.rest ++ get_or w.ioc.up queue [])
    front = ap (λ xs. map said_of xs ++ get_or w.ioc.up queue []) fr.is

    live : is_live w ≡ true
    live = by_live (is_live w) refl
      where
        begun : in_begun w ≡ false
        begun = ap (λ c. c && are_level w) r

        replied : (o : Option (List ℕ)) → is_reply (said_of (upward.Reply d o page sense)) ≡ true
        replied None = refl
        replied (Some x) = refl

        by_live : (c : Bool) → is_live w ≡ c → c ≡ true
        by_live true q = refl
        by_live false q =
            let z = f.clock.no_reply_before_init.before begun q queue in
            let a = ap (how_many is_reply) front in let c = how_many-cons is_reply (said_of (upward.Reply d g page sense)) (map said_of fr.rest ++ get_or w.ioc.up queue []) in
            let t : one_if (is_reply (said_of (upward.Reply d g page sense))) ≡ 1 = ap one_if (replied g) in
            absurd (omega (arith, z, a, c, t))

    -- so the identifier is nowhere else
    replied : 1 ≤ sum_by (replies_on (smid_in d)) w.up
    replied =
        let a : replies_on (smid_in d) (up_on w queue) ≡ reply_count (smid_in d) (said_of (upward.Reply d g page sense) ∷ map said_of fr.rest) = ap (replies_on (smid_in d)) fr.is in
        let c = reply_count-cons (smid_in d) (said_of (upward.Reply d g page sense)) (map said_of fr.rest) in
        let t : one_if (is_reply_of (smid_in d) (said_of (upward.Reply d g page sense))) ≡ 1 = ap one_if (its g) in
        let m = sum_at (replies_on (smid_in d)) [] (reply_count-nil (smid_in d)) w.up queue in
        omega (arith, a, c, t, m)
      where
        same : (n : ℕ) → (n == n) ≡ true
        same n = grind arith

        its : (o : Option (List ℕ)) → is_reply_of (smid_in d) (said_of (upward.Reply d o page sense)) ≡ true
        its None = same (smid_in d)
        its (Some x) = same (smid_in d)

    at_most : smid_count w (smid_in d) ≤ 1
    at_most = (f.flights.identifiers (smid_in d) place.0 low).at_most

    record Nowhere : Type 0 where
      posted : post_count (smid_in d) (down_line w) ≡ 0
      queued : queued_count (smid_in d) w.ioc.normal ≡ 0
      requested : one_if (is_some (request_at w.ioc (smid_in d))) ≡ 0

    nowhere : Nowhere
    nowhere = let m = at_most in let p = replied in record { posted = omega (arith, m, p); queued = omega (arith, m, p); requested = omega (arith, m, p) }

    unqueued : queued_count (smid_in d) (normal_line w) ≡ 0
    unqueued =
        let n = nowhere in let p = n.posted in let q = n.queued in let a = queued_count-append (smid_in d) w.ioc.normal (normal_posts (down_line w)) in let c = normal_few (smid_in d) (down_line w) in
        omega (arith, p, q, a, c)

    processed : enables_before w 1 w.host.pool ≡ 0
    processed =
        let p = place.0 in let i : 1 + (smid_in d - 1) ≡ smid_in d = omega (arith, p) in
        let n = all_but w 1 w.host.pool (smid_in d - 1) place.1 at_place (ap (λ n. queued_count n (normal_line w)) i ∙ unqueued) in
        let m = few in
        omega (arith, n, m)

    through : w.ioc.through ≡ true
    through = let p = some in f.messages.bring_up.through live (omega (arith, p))

    done : how_many is_port_enable w.ioc.requests ≡ 0
    done = none_of is_port_enable None w.ioc.requests each
      where
        enables : (i : ℕ) (y : Option AtFabric) → RequestIs w h (suc i) y → is_port_enable y ≡ true → is_enable_asked (slot w.host (suc i)) ≡ true
        enables i (Some at_fabric.PortEnable) q t = q
        enables i (Some (at_fabric.Command handle n len written)) q t = absurd (cc)
        enables i (Some (at_fabric.Abort handle)) q t = absurd (cc)
        enables i (Some (at_fabric.TargetReset handle)) q t = absurd (cc)
        enables i None q t = absurd (cc)

        there : (y : Option AtFabric) → is_port_enable y ≡ true → is_some y ≡ true
        there (Some y) t = refl
        there None t = absurd (cc)

        each : (i : ℕ) → i < length w.ioc.requests → is_port_enable (get_or w.ioc.requests i None) ≡ false
        each i l = by_test (is_port_enable (get_or w.ioc.requests i None)) refl
          where
            by_test : (c : Bool) → is_port_enable (get_or w.ioc.requests i None) ≡ c → c ≡ false
            by_test false t = refl
            by_test true t =
                let x = f.flights.sizes.requests in let y = f.flights.sizes.pool in let p = place in
                let q : i ≡ smid_in d - 1 = one_of is_enable_asked Free w.host.pool i (smid_in d - 1) (omega (arith, l, x, y)) p.1 (enables i (get_or w.ioc.requests i None) (f.messages.requests (suc i)) t) at_place few in
                let p0 = p.0 in let z : suc i ≡ smid_in d = omega (arith, q, p0) in
                let a : one_if (is_some (request_at w.ioc (suc i))) ≡ 1 = ap one_if (there (get_or w.ioc.requests i None) t) in
                let c : one_if (is_some (request_at w.ioc (suc i))) ≡ 0 = ap (λ n. one_if (is_some (request_at w.ioc n))) z ∙ nowhere.requested in
                absurd (omega (arith, a, c))

    came : StaysUp w.ioc
    came = record { live = live; up = record { enabled = f.messages.bring_up.processed (normal_mode w r o) live some processed; through = through; done = done } }

  -- ---- the host

  rises_by : {c : Bool} (x m : HostState) → Rises c m x → m ≡ w.host.mode → (c ≡ true → StaysUp w.ioc) → is_up x ≡ true → StaysUp w.ioc
  rises_by x m (Stays q) e k u = was (ap is_up (sym (q ∙ e)) ∙ u)
  rises_by x m (ComesUp y r q) e k u = k y

  mode_was : (x : HostState) → x ≡ w.host.mode → is_up x ≡ true → StaysUp w.ioc
  mode_was x e u = was (ap is_up (sym e) ∙ u)

  mode_not : (x m : HostState) → x ≡ m → is_up m ≡ false → is_up x ≡ true → StaysUp w.ioc
  mode_not x m e n u = contrary (is_up x) (ap is_up e ∙ n) u

  never_true : {T : Type 0} → false ≡ true → T
  never_true e = absurd (cc)

  spoken : {c : Bool} → Speaking w c → is_resetting w.host.mode ≡ false → is_off w.host.mode ≡ false → c ≡ true → StaysUp w.ioc
  spoken (IsUp u) r o e = was u
  spoken (Answered queue d g page sense fr) r o e = came queue d g page sense fr r o e

  valued : (x : Host) → HearsValue w x → is_up x.mode ≡ true → StaysUp w.ioc
  valued x (TurnsOn c g t p q) u = mode_was x.mode t.mode_is u
  valued x (UnitLate m r t) u = mode_was x.mode t.turn.mode_is u
  valued x (SpeaksOn m i t n p) u = rises_by x.mode m.mode p.rises t.mode_is (λ y. never_true y) u
  valued x (IsReady m r l t n a p q) u = mode_was x.mode (ap (λ (y : Host). y.mode) q ∙ t.mode_is) u
  valued x (IsOverNow m r l t n a t2) u = mode_not x.mode state.Starting t2.mode_is refl u

  by_leaf : {t : Heard} (x : Host) → HostGoes w x t → is_up x.mode ≡ true → StaysUp w.ioc
  by_leaf x (Same q) u = mode_was x.mode (ap (λ (y : Host). y.mode) q) u
  by_leaf x (Says r o en p q) u = rises_by x.mode w.host.mode p.rises refl (spoken q r o) u
  by_leaf x (Hands r p i z) u = rises_by x.mode w.host.mode p.rises refl (λ y. never_true y) u
  by_leaf x (Values r v fr p) u = valued x p u
  by_leaf x (MarkTaken queue r q) u = mode_was x.mode (ap (λ (y : Host). y.mode) q) u
  by_leaf x (MarkOver queue r g fr a c t) u = mode_not x.mode state.Starting t.mode_is refl u
  by_leaf x (Starts q t) u = mode_not x.mode state.Starting t.mode_is refl u
  by_leaf x (Asks z r o a q) u = mode_not x.mode state.Resetting (ap (λ (y : Host). y.mode) q) refl u
  by_leaf x (AsksNow z c r o a q t y) u = mode_not x.mode state.Resetting t.mode_is refl u
  by_leaf x (Looks q r t) u = was q
  by_leaf x (StopsNow q g) u = was q

  -- ---- the controller

  module _ (u : is_up w.host.mode ≡ true) where
    here : StaysUp w.ioc
    here = was u

    door_alone : (i : Ioc) → is_operational (state_of i) ≡ is_operational (state_of w.ioc) → i.enabled ≡ w.ioc.enabled → i.through ≡ w.ioc.through → i.requests ≡ w.ioc.requests → StaysUp i
    door_alone i a c d g =
        let p = here in
        record { live = a ∙ p.live; up = record { enabled = c ∙ p.up.enabled; through = d ∙ p.up.through; done = ap (how_many is_port_enable) g ∙ p.up.done } }

    taken : (x : Down) (rest : List Down) (i : Ioc) → w.down ≡ x ∷ rest → Takes w.ioc x i → is_fault (state_of i) ≡ false → StaysUp i
    taken x rest i e (leaf.Faults y j n) v = contrary (is_fault (state_of i)) v n
    taken x rest i e (leaf.Written reg value j nr c sa) v = door_alone i (ap is_operational c) (ap (λ (y : Ioc). y.enabled) sa) (ap (λ (y : Ioc). y.through) sa) (ap (λ (y : Ioc). y.requests) sa)
    taken x rest i e (leaf.Operates value j nr c d sa) v =
        let p = here in
        record {
          live = ap is_operational d;
          up = record { enabled = ap (λ (y : Ioc). y.enabled) sa ∙ p.up.enabled; through = ap (λ (y : Ioc). y.through) sa ∙ p.up.through; done = ap (λ (y : Ioc). how_many is_port_enable y.requests) sa ∙ p.up.done };
        }
    taken x rest i e (leaf.Forgets reg value d c) v = contrary (is_resetting w.host.mode) (up_resets w.host.mode u) (and_false _ _ (and_false _ _ (asked_now w h b x rest e c)).0).0
    taken x rest i e (leaf.Reads reg value) v = door_alone i refl refl refl refl
    taken x rest i e (leaf.Posts d g p j o sa) v = door_alone i (ap (λ (y : Ioc). is_operational (state_of y)) sa) (ap (λ (y : Ioc). y.enabled) sa) (ap (λ (y : Ioc). y.through) sa) (ap (λ (y : Ioc). y.requests) sa)
    taken x rest i e (leaf.DropsPost d g p o) v = here
    taken x rest i e (leaf.Returns address index j o sa) v = door_alone i (ap (λ (y : Ioc). is_operational (state_of y)) sa) (ap (λ (y : Ioc). y.enabled) sa) (ap (λ (y : Ioc). y.through) sa) (ap (λ (y : Ioc). y.requests) sa)
    taken x rest i e (leaf.DropsReturn address index o) v = here
    taken x rest i e leaf.Stops v = door_alone i refl refl refl refl

    -- no event notification is queued any more
    high_kind : (q : Post) (y : Slot Request) → slot w.host (smid_in q.descriptor) ≡ y → y ≢ Free → q.descriptor ≡ post_descriptor post.HighPriority 0 (smid_in q.descriptor) 0 → kind_in q.descriptor ≡ Some post.HighPriority
    high_kind q y o n e = let z = (in_pool (smid_in q.descriptor) y o n).1 in let l : smid_in q.descriptor < 65536 = omega (arith, z) in ap kind_in e ∙ kind_posted post.HighPriority 0 (smid_in q.descriptor) 0 (omega arith) l

    command_kind : (q : Post) (n : ℕ) (c : Option Cmd) (r : Option OpenRequest) → finmap.get w.host.cmds n ≡ c → CommandPost w q c r → kind_in q.descriptor ≡ Some post.ScsiIo
    command_kind q n None r e k = absurd k
    command_kind q n (Some c) None e k = absurd k
    command_kind q n (Some c) (Some r) e k =
        let z = (in_pool c.smid (Open (request.Command n)) ((f.flights.numbers n).command c e) (λ a. absurd (cc))).1 in
        let l : c.smid < 65536 = omega (arith, z) in
        let x = f.flights.sizes.some_queue in let y = f.flights.sizes.few_queues in
        let m : (c.smid - 1) % host_queue_count w.host < 256 = (let pos : 0 < host_queue_count w.host = omega (arith, x) in let z2 = mod-lt (c.smid - 1) pos in omega (arith, z2, y)) in
        ap kind_in k.0 ∙ kind_posted post.ScsiIo ((c.smid - 1) % host_queue_count w.host) c.smid c.handle m l

    not_notified : (q : Post) → PostIsRecord w h q → kind_in q.descriptor ≡ Some post.Default → function_of (function_in q.frame) ≡ Some function.EventNotification → ⊥
    not_notified q k kd fn = by_slot (slot w.host (smid_in q.descriptor)) refl k
      where
        of_kind : (x : Rattle.mpi_rings.specs.declared.request_descriptor.PostKind.PostKind) → kind_in q.descriptor ≡ Some x → x ≢ post.Default → ⊥
        of_kind x e n = n (cc)

        apart : (g : Function) → function_of (function_in q.frame) ≡ Some g → g ≢ function.EventNotification → ⊥
        apart g e n = n (cc)

        fits : (y : Slot Request) → slot w.host (smid_in q.descriptor) ≡ y → y ≢ Free → RecordFits y
        fits y o n =
            let x = in_table w.host.pool (smid_in q.descriptor) y o n in
            subst RecordFits (place_of w.host.pool (smid_in q.descriptor) x.0 ∙ o) (All-get_or RecordFits w.host.pool (smid_in q.descriptor - 1) Free x.1 f.limits.records)

        by_slot : (y : Slot Request) → slot w.host (smid_in q.descriptor) ≡ y → PostIs w h q y → ⊥
        by_slot (Open (request.Command n)) o k = of_kind post.ScsiIo (command_kind q n (finmap.get w.host.cmds n) (finmap.get h.machine.requests n) refl k) (λ e. absurd (cc))
        by_slot (Open (request.Abort n t)) o k = of_kind post.HighPriority (high_kind q (Open (request.Abort n t)) o (λ e. absurd (cc)) k.0.0) (λ e. absurd (cc))
        by_slot (Open (request.TargetReset a)) o k = of_kind post.HighPriority (high_kind q (Open (request.TargetReset a)) o (λ e. absurd (cc)) k.0) (λ e. absurd (cc))
        by_slot (Open (request.Leave g)) o k = of_kind post.HighPriority (high_kind q (Open (request.Leave g)) o (λ e. absurd (cc)) k.0.0) (λ e. absurd (cc))
        by_slot (Open (request.Page g)) o k =
            let z = (in_pool (smid_in q.descriptor) (Open (request.Page g)) o (λ e. absurd (cc))).1 in
            let i = fits (Open (request.Page g)) o (λ e. absurd (cc)) in let low : g < 2 ^ 16 = (let c = i.1 in omega (arith, c)) in
            apart function.Config (ap (λ x. function_of (function_in x)) k.1 ∙ function_of_page (smid_in q.descriptor) g z low) (λ e. absurd (cc))
        by_slot (Open (request.Remove g)) o k =
            let i = fits (Open (request.Remove g)) o (λ e. absurd (cc)) in let low : g < 2 ^ 16 = (let c = i.1 in omega (arith, c)) in
            apart function.UnitControl (ap (λ x. function_of (function_in x)) k.1 ∙ function_of_removal g low) (λ e. absurd (cc))
        by_slot (Open (request.Ack event context)) o k =
            let i = fits (Open (request.Ack event context)) o (λ e. absurd (cc)) in let low : event < 2 ^ 16 = (let c = i.0 in omega (arith, c)) in
            apart function.EventAck (ap (λ x. function_of (function_in x)) k.1 ∙ function_of_ack event context low i.1) (λ e. absurd (cc))
        by_slot (Open request.Notification) o k =
            let x = in_table w.host.pool (smid_in q.descriptor) (Open request.Notification) o (λ e. absurd (cc)) in
            let n = some_of is_notification_asked Free w.host.pool (smid_in q.descriptor - 1) x.1 (ap is_notification_asked (place_of w.host.pool (smid_in q.descriptor) x.0 ∙ o)) in
            let z = f.messages.bring_up.up u in
            absurd (omega (arith, n, z))
        by_slot (Open request.PortEnable) o k = apart function.PortEnable (ap (λ x. function_of (function_in x)) k.1 ∙ function_of_enable) (λ e. absurd (cc))
        by_slot Free o k = absurd k
        by_slot Parked o k = absurd k

    words : (test : Out → Bool) (i : Ioc) → IocSpeaks test w.ioc i → IsUpIoc i → StaysUp i
    words test i g p = record { live = ap (λ (y : DoorRegisters). is_operational y.state) g.door_is ∙ here.live; up = p }

    high : (p : Post) (rest : List Post) → w.ioc.high ≡ p ∷ rest → StaysUp (ioc_step.works_on (record w.ioc { high = rest }) p).part
    high p rest e =
        words _ (ioc_step.works_on (record w.ioc { high = rest }) p).part (high_words w h b p rest)
        (works_up (record w.ioc { high = rest }) p (record { enabled = here.up.enabled; through = here.up.through; done = here.up.done }) (not_notified p (All-head (PostIsRecord w h) p rest (subst (All (PostIsRecord w h)) e f.messages.high))))

    normal : (p : Post) (rest : List Post) → w.ioc.normal ≡ p ∷ rest → StaysUp (ioc_step.works_on (record w.ioc { normal = rest }) p).part
    normal p rest e =
        words _ (ioc_step.works_on (record w.ioc { normal = rest }) p).part (normal_words w h b p rest)
        (works_up (record w.ioc { normal = rest }) p (record { enabled = here.up.enabled; through = here.up.through; done = here.up.done }) (not_notified p (All-head (PostIsRecord w h) p rest (subst (All (PostIsRecord w h)) e f.messages.normal))))

    took_back : (x : Back) → StaysUp (adapter.takes_back w.ioc x).part
    took_back x = by_news (adapter.takes_back w.ioc x) (news never_out w.ioc x) refl
      where
        by_news : (o : Happening Ioc) → News never_out w.ioc x o → o ≡ adapter.takes_back w.ioc x → StaysUp o.part
        by_news o (SpeaksBack n g) q = words never_out o.part g (subst (λ (y : Happening Ioc). IsUpIoc y.part) (sym q) (taken_up w.ioc here.up x))
        by_news o (Unlinked g i z r) q = subst (λ (y : Happening Ioc). StaysUp y.part) (sym r) here
        by_news o (LinkedUp g i z r t) q = contrary (is_resetting w.host.mode) (up_resets w.host.mode u) (and_false _ _ (f.clock.phase_table.reset r)).0
        by_news o (CalmTold i r) q = subst (λ (y : Happening Ioc). StaysUp y.part) (sym r) (door_alone (say.says_on w.ioc 0 (said.Calm ∷ [])) refl refl refl refl)

  -- ---- all cases

  abbrev Kept : World → Type 0
  Kept v = Behind v → is_up v.host.mode ≡ true → StaysUp v.ioc

  -- what is put leaves the mode as it is
  put : (x : Down) (rest : List Down) → is_up (after_sent w.host x rest).mode ≡ true → StaysUp w.ioc
  put (down.Return address index) rest u = was u
  put (down.Write reg value) rest u = was u
  put (down.Read reg) rest u = was u
  put (down.Post d g q) rest u = was u
  put down.Stop rest u = was u

  owes : Owes Kept w
  owes =
      record {
        host_puts = λ x rest e v u. put x rest u;
        host_takes = λ queue x rest e y v u. by_leaf (hears_up w.host queue x).part (phase.takes_item w h b queue x rest e y v.stage) u;
        host_told = λ i t v u. by_leaf (host_told w.host i).part (goes.told w i t) u;
        host_looks = λ e v u. by_leaf (looks w.host) (goes.looks_on w e) u;
        host_stops = λ e v u. by_leaf (stops w.host) (goes.stops_now w e) u;
        ioc_takes = λ x rest e v u. taken u x rest (adapter.takes_down w.ioc x).part e (takes w.ioc f.doorbell.sound.waits f.clock.phase_table.whole x) v.whole;
        ioc_high = λ p rest e v u. high u p rest e;
        ioc_normal = λ p rest e v u. normal u p rest e;
        ioc_puts_out = λ x rest e v u. door_alone u (record w.ioc { out = rest }) refl refl refl refl;
        ioc_takes_back = λ x rest e v u. took_back u x;
        ioc_puts = λ queue y rest z e g v u. door_alone u (up_sent_on w.ioc queue) refl refl refl refl;
        fabric_takes = λ x rest e v u. was u;
        fabric_says = λ x rest e v u. was u;
        fabric_puts = λ x rest e v u. was u;
        fabric_runs = λ tag address e v u. was u;
        plugs = λ address expander phy v u. was u;
        unplugs = λ address v u. was u;
        calms = λ v u. was u;
      }

  pub up_kept : (c : Case) → Behind (happens w c) → is_up (happens w c).host.mode ≡ true → IsUpNow (happens w c)
  up_kept c v u = let p = kept Kept w b.plain owes (λ y z. was z) c v u in record { live = p.live; enabled = p.up.enabled; through = p.up.through; done = p.up.done }
