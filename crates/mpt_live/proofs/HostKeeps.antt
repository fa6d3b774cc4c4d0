-- The cases of the host keep its journal and its lanes together.
use Rattle.std.proofs.Common.{◌≡◌, ◌∙◌, ◌<◌, ◌==◌, ℕ, zero, suc, Bool, true, false, List, [], ◌∷◌, ◌++◌, append-nil, arith, get_or, length, refl, set, subst, sym, ap}
use Rattle.std.specs.Prelude.{Err, IfOk, None, Ok, Option, Result, Some, slice_get}
use Rattle.std.specs.List.{cons_option}
use Rattle.std.proofs.lemmas.Bool.Decides.{nat_tests}
use Rattle.std.proofs.lemmas.List.{set-get_or}
use Rattle.scsi_disk.specs.declared.command.Command.{Command}
use Rattle.smid_pool.specs.declared.class.Class.TheVariants as class
use Rattle.mpt_trace.specs.Command.{command_named}
use Rattle.mpt_trace.specs.declared.entry.Entry.{Entry}
use Rattle.mpt_trace.specs.declared.entry.Entry.TheVariants as entry
use Rattle.mpt_trace.specs.declared.host_state.HostState.{HostState}
use Rattle.mpt_trace.specs.declared.host_state.HostState.TheVariants as state
use Rattle.mpt_trace.specs.declared.input.Input.{Input}
use Rattle.mpt_trace.specs.declared.input.Input.TheVariants as input
use Rattle.mpt_trace.specs.declared.item.Ask.{Ask}
use Rattle.mpt_trace.specs.declared.item.Down.{Down}
use Rattle.mpt_trace.specs.declared.item.Item.TheVariants as item
use Rattle.mpt_trace.specs.declared.item.Tell.{Tell}
use Rattle.mpt_trace.specs.declared.item.Up.{Up}
use Rattle.mpt_trace.specs.declared.lane.LaneName.{LaneName}
use Rattle.mpt_trace.specs.declared.lane.LaneName.TheVariants as lane
use Rattle.mpt_trace.specs.declared.refusal.Refusal.{Refusal}
use Rattle.mpt_trace.specs.declared.refusal.RefusedCall.TheVariants as call
use Rattle.mpt_wire.specs.Messages.Fields.{target_reset}
use Rattle.mpt_wire.specs.Walks.Passes.{EachEntry}
use Rattle.mpt_rules.specs.declared.request.Request.TheVariants as request
use Rattle.mpt_rules.specs.declared.why.Why.{Why}
use Rattle.mpt_rules.specs.Host.Inputs.{cmd_of, diag_resets_in, given, granted_unless, host_cause_of_abort, host_cause_of_submit, host_cause_of_target_reset, next_smid, ready_handle_at, starts_in, unit_resets_in, with_abort_asked, with_accepted}
use Rattle.mpt_rules.specs.Host.Parts.{Host}
use Rattle.mpt_rules.specs.Host.Posts.{posts_task}
use Rattle.mpt_rules.specs.Host.Strange.{why_strange}
use Rattle.mpt_rules.specs.Host.Takes.{hears_up, takes_unless, takes_up}
use Rattle.mpt_rules.specs.Outcome.{Called}
use Rattle.mpt_rules.specs.Session.Journals.{at_if}
use Rattle.mpt_rules.specs.Session.OpenCases.{HostCase, host_does, puts_down}
use Rattle.mpt_rules.specs.World.Inputs.{by_option, by_result, cause_of, host_told, refused_or}
use Rattle.mpt_rules.specs.World.Moves.{told_of}
use Rattle.mpt_rules.specs.World.State.{up_lane}
use Rattle.law_moves.proofs.HostWords.{EndsIt, HostTells, IsHostWord, Words, host_tells}
use Rattle.mpt_live.specs.Ends.{End, EndSteps, host_account}
use Rattle.mpt_live.specs.Lanes.{HasSent, LaneEnd, WasGiven, with_item}
use Rattle.mpt_live.specs.Recorded.{Made, Recorded, after_case, next_stamp, stamp_after, stamped_with}
use Rattle.mpt_live.specs.Traffic.{Account, HostLanes, KeepsLanes, host_lanes, host_received, host_sent, host_traffic, lanes_of}
use Rattle.mpt_live.specs.declared.sent.Sent.{Sent}
use Rattle.mpt_live.proofs.Kept.{AreOffLanes, IsOffLanes, Receives, Sends, items_with, keeps_off, keeps_put, keeps_take, one_on}
use Rattle.mpt_live.proofs.Leads.{leads_by, steps_made}
use Rattle.mpt_live.proofs.Led.{bare}
use Rattle.mpt_live.proofs.Several.{IsAt, several_items, several_same}

-- ---- entries

off_append : (es fs : List Entry) → AreOffLanes es → AreOffLanes fs → AreOffLanes (es ++ fs)
off_append [] fs h k = k
off_append (e ∷ es) fs h k = (h.0, off_append es fs h.1 k)

word_off : (e : Entry) → IsHostWord e → IsOffLanes e
word_off entry.HostUp h = tt
word_off (entry.Ready address handle) h = tt
word_off (entry.Lost address handle) h = tt
word_off (entry.Answer n how) h = tt
word_off (entry.AbortEnd n how) h = tt
word_off (entry.TargetEnd address how) h = tt
word_off _ h = absurd h

words_off : (es : List Entry) → EachEntry IsHostWord es → AreOffLanes es
words_off [] h = tt
words_off (e ∷ es) h = (word_off e h.0, words_off es h.1)

tells_off : (es : List Entry) → HostTells es → AreOffLanes es
tells_off es (Words words) = words_off es words
tells_off es (EndsIt told words is) = subst AreOffLanes (sym is) (off_append told (entry.ResetDone ∷ []) (words_off told words) (tt, tt))

took_off : (host : Host) (queue : ℕ) (next : Up) (why : Option Why) → AreOffLanes (told_of (takes_unless host queue next why).answer (takes_unless host queue next why).told)
took_off host queue next None = tells_off (hears_up host queue next).entries (host_tells host queue next)
took_off host queue next (Some why) = tt

-- an input, and its refusal or what is told of it
answered_off : (i : Input) (refused : Refusal → Entry) (cause : Option Refusal) (told : List Entry) → ((c : Refusal) → IsOffLanes (refused c)) → AreOffLanes told
    → AreOffLanes (entry.Given i ∷ refused_or refused cause told)
answered_off i refused (Some cause) told named off = (tt, (named cause, tt))
answered_off i refused None told named off = (tt, off)

granted_off : (i : Input) (refused : Refusal → Entry) (cause : Option Refusal) (host : Host) (granted : Called Host (Result ℕ Refusal)) → ((c : Refusal) → IsOffLanes (refused c))
    → AreOffLanes granted.told → AreOffLanes (by_result i refused (granted_unless cause host granted)).entries
granted_off i refused (Some cause) host granted named off = (tt, (named cause, tt))
granted_off i refused None host granted named off = answered_off i refused (cause_of granted.answer) granted.told named off

started_off : (host : Host) (m : HostState) → AreOffLanes (by_option input.Start call.Start (starts_in host m)).entries
started_off host state.Off = (tt, tt)
started_off host state.Starting = (tt, (tt, tt))
started_off host state.Up = (tt, (tt, tt))
started_off host state.Resetting = (tt, (tt, tt))

reset_off : (host : Host) (m : HostState) → AreOffLanes (by_option input.Reset call.Reset (diag_resets_in host m)).entries
reset_off host state.Off = (tt, (tt, tt))
reset_off host state.Starting = (tt, tt)
reset_off host state.Up = (tt, tt)
reset_off host state.Resetting = (tt, (tt, tt))

unit_reset_off : (host : Host) (m : HostState) → AreOffLanes (by_option input.UnitReset call.UnitReset (unit_resets_in host m)).entries
unit_reset_off host state.Off = (tt, (tt, tt))
unit_reset_off host state.Starting = (tt, (tt, tt))
unit_reset_off host state.Up = (tt, tt)
unit_reset_off host state.Resetting = (tt, (tt, tt))

told_off : (host : Host) (i : Input) → AreOffLanes (host_told host i).entries
told_off host input.Start = started_off host host.mode
told_off host (input.Submit n address form) =
    let command : Command = command_named form in
    let handle : ℕ = ready_handle_at host address in
    let smid : ℕ = next_smid host class.ScsiIo in
    granted_off (input.Submit n address form) (entry.RefuseSubmit n) (host_cause_of_submit host n address command) host
    (given (with_accepted host n address command handle smid) (entry.Accept n address smid ∷ []) smid) (λ c. tt) (tt, tt)
told_off host (input.Abort n) =
    let smid : ℕ = next_smid host class.High in
    granted_off (input.Abort n) (entry.Refuse (call.Abort n)) (host_cause_of_abort host n) host (given (with_abort_asked host n (cmd_of host n) smid) [] smid) (λ c. tt) tt
told_off host (input.TargetReset address) =
    let smid : ℕ = next_smid host class.High in
    granted_off (input.TargetReset address) (entry.Refuse (call.TargetReset address)) (host_cause_of_target_reset host address) host
    (given (posts_task host smid (request.TargetReset address) (ready_handle_at host address) target_reset 0) [] smid) (λ c. tt) tt
told_off host input.Reset = reset_off host host.mode
told_off host input.UnitReset = unit_reset_off host host.mode
told_off host (input.Plug address expander phy) = tt
told_off host (input.Unplug address) = tt

-- a case that puts nothing and takes nothing
abbrev pub IsOff : HostCase → Type 0
IsOff (HostCase.Told input) = Unit {0}
IsOff HostCase.Looks = Unit {0}
IsOff HostCase.Stops = Unit {0}
IsOff _ = ⊥

case_off : (host : Host) (c : HostCase) → IsOff c → AreOffLanes (host_does host c).entries
case_off host (HostCase.Told i) h = told_off host i
case_off host HostCase.Looks h = tt
case_off host HostCase.Stops h = tt
case_off host HostCase.Puts h = absurd h
case_off host (HostCase.Takes queue next) h = absurd h
case_off host (HostCase.TakesAsk submitter ask) h = absurd h
case_off host (HostCase.PutsTell submitter tell) h = absurd h

put_entries : (host : Host) (items : List Down) (x : Down) → slice_get items 0 ≡ Some x → (puts_down host items).entries ≡ entry.Put lane.Down (item.Down x) ∷ []
put_entries host [] x e = cc
put_entries host (y ∷ ys) x e = let same : y ≡ x = (cc) in ap (λ z. entry.Put lane.Down (item.Down z) ∷ []) same

-- ---- an item through a lane

module _ (l : HostLanes) where
  abbrev with_down : Sent Down → HostLanes
  with_down sent = record { down = with_item l.down sent; ups = l.ups; asks = l.asks; tells = l.tells }

  abbrev with_ups : List (LaneEnd Up) → HostLanes
  with_ups ups = record { down = l.down; ups = ups; asks = l.asks; tells = l.tells }

  abbrev with_asks : List (LaneEnd Ask) → HostLanes
  with_asks asks = record { down = l.down; ups = l.ups; asks = asks; tells = l.tells }

  abbrev with_tells : List (LaneEnd Tell) → HostLanes
  with_tells tells = record { down = l.down; ups = l.ups; asks = l.asks; tells = tells }

  sent_on : (name : LaneName) → host_sent l name ≡ host_sent l name ++ []
  sent_on name = sym (append-nil (host_sent l name))

  received_on : (name : LaneName) → host_received l name ≡ host_received l name ++ []
  received_on name = sym (append-nil (host_received l name))

  down_sent : (sent : Sent Down) → Sends lane.Down (record { stamp = sent.stamp; value = item.Down sent.item }) (host_traffic l) (host_traffic (with_down sent))
  down_sent sent = record { sent = own; received = other }
    where
      other : (name : LaneName) → host_received (with_down sent) name ≡ host_received l name
      other lane.Up = refl
      other (lane.UpOn zero) = refl
      other (lane.UpOn (suc i)) = refl
      other (lane.Ask i) = refl
      other _ = refl

      own : (name : LaneName) → host_sent (with_down sent) name ≡ host_sent l name ++ one_on lane.Down (record { stamp = sent.stamp; value = item.Down sent.item }) name
      own lane.Down = items_with item.Down l.down sent
      own (lane.Tell i) = sent_on (lane.Tell i)
      own _ = refl

  tell_sent : (submitter : ℕ) (end : LaneEnd Tell) (sent : Sent Tell) → submitter < length l.tells → end ≡ get_or l.tells submitter end
      → Sends (lane.Tell submitter) (record { stamp = sent.stamp; value = item.Tell sent.item }) (host_traffic l) (host_traffic (with_tells (set l.tells submitter (with_item end sent))))
  tell_sent submitter end sent here is = record { sent = own; received = other }
    where
      other : (name : LaneName) → host_received (with_tells (set l.tells submitter (with_item end sent))) name ≡ host_received l name
      other lane.Up = refl
      other (lane.UpOn zero) = refl
      other (lane.UpOn (suc i)) = refl
      other (lane.Ask i) = refl
      other _ = refl

      own : (name : LaneName) → host_sent (with_tells (set l.tells submitter (with_item end sent))) name
          ≡ host_sent l name ++ one_on (lane.Tell submitter) (record { stamp = sent.stamp; value = item.Tell sent.item }) name
      own lane.Down = sent_on lane.Down
      own (lane.Tell i) = several_items item.Tell l.tells submitter end sent here is i (i == submitter) refl
      own _ = refl

  ask_received : (submitter : ℕ) (end : LaneEnd Ask) (sent : Sent Ask) → submitter < length l.asks → end ≡ get_or l.asks submitter end
      → Receives (lane.Ask submitter) (record { stamp = sent.stamp; value = item.Ask sent.item }) (host_traffic l) (host_traffic (with_asks (set l.asks submitter (with_item end sent))))
  ask_received submitter end sent here is = record { sent = other; received = own }
    where
      other : (name : LaneName) → host_sent (with_asks (set l.asks submitter (with_item end sent))) name ≡ host_sent l name
      other lane.Down = refl
      other (lane.Tell i) = refl
      other _ = refl

      own : (name : LaneName) → host_received (with_asks (set l.asks submitter (with_item end sent))) name
          ≡ host_received l name ++ one_on (lane.Ask submitter) (record { stamp = sent.stamp; value = item.Ask sent.item }) name
      own lane.Up = received_on lane.Up
      own (lane.UpOn zero) = refl
      own (lane.UpOn (suc i)) = received_on (lane.UpOn (suc i))
      own (lane.Ask i) = several_items item.Ask l.asks submitter end sent here is i (i == submitter) refl
      own _ = refl

  up_received : (queue : ℕ) (end : LaneEnd Up) (sent : Sent Up) → queue < length l.ups → end ≡ get_or l.ups queue end
      → Receives (up_lane queue) (record { stamp = sent.stamp; value = item.Up sent.item }) (host_traffic l) (host_traffic (with_ups (set l.ups queue (with_item end sent))))
  up_received queue end sent here is = record { sent = other; received = own queue refl }
    where
      zero_other : (q : ℕ) → (0 == suc q) ≡ false
      zero_other q = grind (arith, nat_tests)

      other : (name : LaneName) → host_sent (with_ups (set l.ups queue (with_item end sent))) name ≡ host_sent l name
      other lane.Down = refl
      other (lane.Tell i) = refl
      other _ = refl

      own : (q : ℕ) → q ≡ queue → (name : LaneName) → host_received (with_ups (set l.ups queue (with_item end sent))) name
          ≡ host_received l name ++ one_on (up_lane q) (record { stamp = sent.stamp; value = item.Up sent.item }) name
      own zero e lane.Up = several_items item.Up l.ups queue end sent here is 0 true (grind (arith, nat_tests, e))
      own (suc q) e lane.Up = several_items item.Up l.ups queue end sent here is 0 false (grind (arith, nat_tests, e))
      own zero e (lane.UpOn zero) = refl
      own (suc q) e (lane.UpOn zero) = sym (ap (λ on. cons_option (at_if on sent.stamp (item.Up sent.item)) []) (zero_other q))
      own zero e (lane.UpOn (suc i)) = several_items item.Up l.ups queue end sent here is (suc i) false (grind (arith, nat_tests, e))
      own (suc q) e (lane.UpOn (suc i)) = several_items item.Up l.ups queue end sent here is (suc i) (suc i == suc q) (ap (λ k. suc i == k) (sym e))
      own zero e (lane.Ask i) = received_on (lane.Ask i)
      own (suc q) e (lane.Ask i) = received_on (lane.Ask i)
      own zero e lane.Down = refl
      own (suc q) e lane.Down = refl
      own zero e lane.Out = refl
      own (suc q) e lane.Out = refl
      own zero e lane.Back = refl
      own (suc q) e lane.Back = refl
      own zero e (lane.Tell i) = refl
      own (suc q) e (lane.Tell i) = refl

-- ---- the cases

-- the host's account, of its parts
abbrev pub host_books : Recorded Host → HostLanes → Account
host_books recorded lanes = record { row = recorded.row; traffic = host_traffic lanes; lanes = host_lanes lanes }

module _ (a_recorded : Recorded Host) (a_lanes : HostLanes) (b_recorded : Recorded Host) (b_lanes : HostLanes) where
  abbrev a : End Host HostLanes
  a = bare a_recorded a_lanes

  abbrev b : End Host HostLanes
  b = bare b_recorded b_lanes

  pub makes_case : (c : HostCase) (made : Bool) → IsOff c → Made host_does c a.recorded made b.recorded → b.lanes ≡ a.lanes → EndSteps host_does host_account a made b
  makes_case c true off is lanes = (
    steps_made host_does c a.recorded b.recorded true is,
    keeps_off (host_account a) (host_account b) (next_stamp a.recorded) (ap host_lanes lanes) (host_does a.recorded.part c).entries (ap (λ (r : Recorded Host). r.row) is) (case_off a.recorded.part c off)
        (ap host_traffic lanes),
  )
  makes_case c false off is lanes = (is, lanes)

  pub if_makes : {E : Type 0} (r : Result Bool E) (c : HostCase) → IsOff c → IfOk r (λ made. Made host_does c a.recorded made b.recorded) → b.lanes ≡ a.lanes → IfOk r (λ made. EndSteps host_does host_account a made b)
  if_makes (Ok made) c off is lanes = makes_case c made off is lanes
  if_makes (Err e) c off is lanes = tt

  sent_down : (sent : Sent Down) → slice_get a.recorded.part.out 0 ≡ Some sent.item → b.recorded ≡ after_case host_does a.recorded (record { stamp = sent.stamp; value = HostCase.Puts })
      → b.lanes ≡ with_down a.lanes sent → KeepsLanes (host_account a) (host_account b)
  sent_down sent first is lanes =
      keeps_put (host_account a) (host_account b) sent.stamp (ap host_lanes lanes) lane.Down (item.Down sent.item)
      (ap (λ (r : Recorded Host). r.row) is ∙ ap (λ es. stamped_with a.recorded.row sent.stamp es) (put_entries a.recorded.part a.recorded.part.out sent.item first))
      (subst (Sends lane.Down (record { stamp = sent.stamp; value = item.Down sent.item }) (host_traffic a.lanes)) (sym (ap host_traffic lanes)) (down_sent a.lanes sent))

  puts_down_item : (put : Bool) (down : LaneEnd Down) → Made host_does HostCase.Puts a.recorded put b.recorded → WasGiven (slice_get a.recorded.part.out 0) a.lanes.down (next_stamp a.recorded) put down
      → b.lanes ≡ record { down = down; ups = a.lanes.ups; asks = a.lanes.asks; tells = a.lanes.tells } → EndSteps host_does host_account a put b
  puts_down_item true down is given lanes =
      let sent : HasSent a.lanes.down (next_stamp a.recorded) given.0 down = given.2 in (
        steps_made host_does HostCase.Puts a.recorded b.recorded true is,
        sent_down sent.sent (given.1 ∙ ap (λ x. Some x) (sym sent.carries)) (is ∙ λ i. after_case host_does a.recorded (record { stamp = sym sent.stamped i; value = HostCase.Puts }))
            (lanes ∙ λ i. record { down = sent.put i; ups = a.lanes.ups; asks = a.lanes.asks; tells = a.lanes.tells }),
      )
  puts_down_item false down is given lanes = (is, lanes ∙ λ i. record { down = given i; ups = a.lanes.ups; asks = a.lanes.asks; tells = a.lanes.tells })

  pub if_puts_down : {E : Type 0} (r : Result Bool E) (down : LaneEnd Down) → IfOk r (λ put. Made host_does HostCase.Puts a.recorded put b.recorded)
      → IfOk r (λ put. WasGiven (slice_get a.recorded.part.out 0) a.lanes.down (next_stamp a.recorded) put down)
      → b.lanes ≡ record { down = down; ups = a.lanes.ups; asks = a.lanes.asks; tells = a.lanes.tells } → IfOk r (λ put. EndSteps host_does host_account a put b)
  if_puts_down (Ok put) down is given lanes = puts_down_item put down is given lanes
  if_puts_down (Err e) down is given lanes = tt

  -- from a lane up
  pub takes_item_up : (index queue : ℕ) → index ≡ queue → (end after : LaneEnd Up) → IsAt a.lanes.ups queue end → (sent : Sent Up)
      → b.recorded ≡ after_case host_does a.recorded (record { stamp = stamp_after a.recorded sent.stamp; value = HostCase.Takes queue sent.item })
      → after ≡ with_item end sent → b.lanes ≡ with_ups a.lanes (set a.lanes.ups index after) → EndSteps host_does host_account a true b
  takes_item_up index queue same end after stands sent is got lanes =
      let here : queue < length a.lanes.ups = stands.within in
      let at : end ≡ get_or a.lanes.ups queue end = stands.is in
      let stamp : ℕ = stamp_after a.recorded sent.stamp in
      let left : b.lanes ≡ with_ups a.lanes (set a.lanes.ups queue (with_item end sent)) = lanes ∙ (λ i. with_ups a.lanes (set a.lanes.ups (same i) (got i))) in (
        leads_by host_does a.recorded b.recorded (record { stamp = stamp; value = HostCase.Takes queue sent.item }) (omega arith) is,
        keeps_take (host_account a) (host_account b) stamp
            (ap host_lanes left ∙ ap (λ ids. (a.lanes.down.lane ∷ []) ∷ ids ∷ lanes_of a.lanes.asks ∷ lanes_of a.lanes.tells ∷ []) (several_same item.Up a.lanes.ups queue end sent here at)) (up_lane queue)
            (record { stamp = sent.stamp; value = item.Up sent.item }) (told_of (takes_up a.recorded.part queue sent.item).answer (takes_up a.recorded.part queue sent.item).told)
            (ap (λ (r : Recorded Host). r.row) is) (omega arith) (took_off a.recorded.part queue sent.item (why_strange a.recorded.part queue sent.item))
            (subst (Receives (up_lane queue) (record { stamp = sent.stamp; value = item.Up sent.item }) (host_traffic a.lanes)) (sym (ap host_traffic left))
            (up_received a.lanes queue end sent here at)),
      )

  -- from a lane ask
  pub takes_item_ask : (index submitter : ℕ) → index ≡ submitter → (end after : LaneEnd Ask) → IsAt a.lanes.asks submitter end → (sent : Sent Ask)
      → b.recorded ≡ after_case host_does a.recorded (record { stamp = stamp_after a.recorded sent.stamp; value = HostCase.TakesAsk submitter sent.item })
      → after ≡ with_item end sent → b.lanes ≡ with_asks a.lanes (set a.lanes.asks index after) → EndSteps host_does host_account a true b
  takes_item_ask index submitter same end after stands sent is got lanes =
      let here : submitter < length a.lanes.asks = stands.within in
      let at : end ≡ get_or a.lanes.asks submitter end = stands.is in
      let stamp : ℕ = stamp_after a.recorded sent.stamp in
      let left : b.lanes ≡ with_asks a.lanes (set a.lanes.asks submitter (with_item end sent)) = lanes ∙ (λ i. with_asks a.lanes (set a.lanes.asks (same i) (got i))) in (
        leads_by host_does a.recorded b.recorded (record { stamp = stamp; value = HostCase.TakesAsk submitter sent.item }) (omega arith) is,
        keeps_take (host_account a) (host_account b) stamp
            (ap host_lanes left ∙ ap (λ ids. (a.lanes.down.lane ∷ []) ∷ lanes_of a.lanes.ups ∷ ids ∷ lanes_of a.lanes.tells ∷ []) (several_same item.Ask a.lanes.asks submitter end sent here at))
            (lane.Ask submitter) (record { stamp = sent.stamp; value = item.Ask sent.item }) [] (ap (λ (r : Recorded Host). r.row) is) (omega arith) tt
            (subst (Receives (lane.Ask submitter) (record { stamp = sent.stamp; value = item.Ask sent.item }) (host_traffic a.lanes)) (sym (ap host_traffic left))
            (ask_received a.lanes submitter end sent here at)),
      )

  module _ (index submitter : ℕ) (same_place : index ≡ submitter) (end : LaneEnd Tell) (stands : IsAt a_lanes.tells submitter end) where
    here : submitter < length a.lanes.tells
    here = stands.within

    at : end ≡ get_or a.lanes.tells submitter end
    at = stands.is

    sent_tell : (sent : Sent Tell) → b.recorded ≡ after_case host_does a.recorded (record { stamp = sent.stamp; value = HostCase.PutsTell submitter sent.item })
        → b.lanes ≡ with_tells a.lanes (set a.lanes.tells submitter (with_item end sent)) → KeepsLanes (host_account a) (host_account b)
    sent_tell sent is lanes =
        keeps_put (host_account a) (host_account b) sent.stamp
        (ap host_lanes lanes ∙ ap (λ ids. (a.lanes.down.lane ∷ []) ∷ lanes_of a.lanes.ups ∷ lanes_of a.lanes.asks ∷ ids ∷ []) (several_same item.Tell a.lanes.tells submitter end sent here at))
        (lane.Tell submitter) (item.Tell sent.item) (ap (λ (r : Recorded Host). r.row) is)
        (subst (Sends (lane.Tell submitter) (record { stamp = sent.stamp; value = item.Tell sent.item }) (host_traffic a.lanes)) (sym (ap host_traffic lanes)) (tell_sent a.lanes submitter end sent here at))

    pub puts_tell_item : (tell : Tell) (put : Bool) (after : LaneEnd Tell) → Made host_does (HostCase.PutsTell submitter tell) a.recorded put b.recorded
        → WasGiven (Some tell) end (next_stamp a.recorded) put after → b.lanes ≡ with_tells a.lanes (set a.lanes.tells index after) → EndSteps host_does host_account a put b
    puts_tell_item tell true after is given lanes =
        let sent : HasSent end (next_stamp a.recorded) given.0 after = given.2 in
        let same : tell ≡ sent.sent.item = (cc) in (
          steps_made host_does (HostCase.PutsTell submitter tell) a.recorded b.recorded true is,
          sent_tell sent.sent (is ∙ λ i. after_case host_does a.recorded (record { stamp = sym sent.stamped i; value = HostCase.PutsTell submitter (same i) }))
              (lanes ∙ λ i. with_tells a.lanes (set a.lanes.tells (same_place i) (sent.put i))),
        )
    puts_tell_item tell false after is given lanes = (
      is,
      lanes ∙ (λ i. with_tells a.lanes (set a.lanes.tells (same_place i) (given i))) ∙ (λ i. with_tells a.lanes (set a.lanes.tells submitter (at i))) ∙ ap (with_tells a.lanes) (set-get_or a.lanes.tells submitter end),
    )
