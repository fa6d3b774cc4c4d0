-- The cases of a submitter, whose number stays.
use Rattle.std.proofs.Common.{◌≡◌, ◌∙◌, ℕ, Bool, true, false, [], ◌++◌, arith, if◌then◌else◌, refl, subst, sym, ap}
use Rattle.std.specs.Prelude.{Some}
use Rattle.std.specs.List.{cons_option}
use Rattle.mpt_trace.specs.declared.item.Ask.{Ask}
use Rattle.mpt_trace.specs.declared.item.Tell.{Tell}
use Rattle.mpt_trace.specs.declared.item.Item.{Item}
use Rattle.mpt_trace.specs.declared.item.Item.TheVariants as item
use Rattle.mpt_trace.specs.declared.lane.LaneName.TheVariants as lane
use Rattle.mpt_wire.specs.Queues.Lanes.{same_lane}
use Rattle.mpt_rules.specs.Session.Journals.{at_if}
use Rattle.mpt_rules.specs.Session.OpenCases.{PutsAsk, TakesTell}
use Rattle.mpt_live.specs.Lanes.{HasSent, LaneEnd, WasGiven, with_item}
use Rattle.mpt_live.specs.Recorded.{LeadsTo, Made, Recorded, after_case, next_stamp, stamp_after, submitter_enters}
use Rattle.mpt_live.specs.Submitters.{NumberedEnd, SubmitterSteps, submitter_account}
use Rattle.mpt_live.specs.Traffic.{Account, KeepsLanes, SubmitterLanes, items_as, submitter_lanes, submitter_traffic}
use Rattle.mpt_live.specs.declared.sent.Sent.{Sent}
use Rattle.mpt_live.proofs.Farther.{goes_farther}
use Rattle.mpt_live.proofs.Kept.{Receives, Sends, items_with, keeps_on, keeps_put, keeps_still, keeps_take}
use Rattle.mpt_live.proofs.Leads.{leads_by, leads_nowhere, steps_made}

-- ---- an item through a lane

item_if : {T : Type 0} (kind : T → Item) (on : Bool) (end : LaneEnd T) (sent : Sent T)
    → (if on then items_as kind (with_item end sent) else []) ≡ (if on then items_as kind end else []) ++ cons_option (at_if on sent.stamp (kind sent.item)) []
item_if kind true end sent = items_with kind end sent
item_if kind false end sent = refl

module _ (n : ℕ) (l : SubmitterLanes) where
  tell_received : (sent : Sent Tell) → Receives (lane.Tell n) (record { stamp = sent.stamp; value = item.Tell sent.item }) (submitter_traffic n l) (submitter_traffic n (record { ask = l.ask; tell = with_item l.tell sent }))
  tell_received sent = record { sent = λ name. refl; received = λ name. item_if item.Tell (same_lane name (lane.Tell n)) l.tell sent }

  ask_sent : (sent : Sent Ask) → Sends (lane.Ask n) (record { stamp = sent.stamp; value = item.Ask sent.item }) (submitter_traffic n l) (submitter_traffic n (record { ask = with_item l.ask sent; tell = l.tell }))
  ask_sent sent = record { sent = λ name. item_if item.Ask (same_lane name (lane.Ask n)) l.ask sent; received = λ name. refl }

-- ---- the cases

module _ (a b : NumberedEnd) (number : b.number ≡ a.number) where
  traffic_is : (l : SubmitterLanes) → b.lanes ≡ l → (submitter_account b).traffic ≡ submitter_traffic a.number l
  traffic_is l is = λ i. submitter_traffic (number i) (is i)

  takes_tell : (sent : Sent Tell) → b.recorded ≡ after_case (submitter_enters a.number) a.recorded (record { stamp = stamp_after a.recorded sent.stamp; value = TakesTell sent.item })
      → b.lanes ≡ record { ask = a.lanes.ask; tell = with_item a.lanes.tell sent } → SubmitterSteps a true b
  takes_tell sent is lanes =
      let stamp : ℕ = stamp_after a.recorded sent.stamp in (
        leads_by (submitter_enters a.number) a.recorded b.recorded (record { stamp = stamp; value = TakesTell sent.item }) (omega arith) is,
        keeps_take (submitter_account a) (submitter_account b) stamp (ap submitter_lanes lanes) (lane.Tell a.number) (record { stamp = sent.stamp; value = item.Tell sent.item }) []
            (ap (λ (r : Recorded (Unit {0})). r.row) is) (omega arith) tt
            (subst (Receives (lane.Tell a.number) (record { stamp = sent.stamp; value = item.Tell sent.item }) (submitter_traffic a.number a.lanes))
            (sym (traffic_is (record { ask = a.lanes.ask; tell = with_item a.lanes.tell sent }) lanes)) (tell_received a.number a.lanes sent)),
      )

  puts_sent : (sent : Sent Ask) → b.recorded ≡ after_case (submitter_enters a.number) a.recorded (record { stamp = sent.stamp; value = PutsAsk sent.item })
      → b.lanes ≡ record { ask = with_item a.lanes.ask sent; tell = a.lanes.tell } → KeepsLanes (submitter_account a) (submitter_account b)
  puts_sent sent is lanes =
      keeps_put (submitter_account a) (submitter_account b) sent.stamp (ap submitter_lanes lanes) (lane.Ask a.number) (item.Ask sent.item) (ap (λ (r : Recorded (Unit {0})). r.row) is)
      (subst (Sends (lane.Ask a.number) (record { stamp = sent.stamp; value = item.Ask sent.item }) (submitter_traffic a.number a.lanes))
      (sym (traffic_is (record { ask = with_item a.lanes.ask sent; tell = a.lanes.tell }) lanes)) (ask_sent a.number a.lanes sent))

  puts_ask : (ask : Ask) (put : Bool) → Made (submitter_enters a.number) (PutsAsk ask) a.recorded put b.recorded
      → WasGiven (Some ask) a.lanes.ask (next_stamp a.recorded) put b.lanes.ask → b.lanes.tell ≡ a.lanes.tell → SubmitterSteps a put b
  puts_ask ask true is given tell =
      let sent : HasSent a.lanes.ask (next_stamp a.recorded) given.0 b.lanes.ask = given.2 in
      let same : ask ≡ sent.sent.item = (cc) in (
        steps_made (submitter_enters a.number) (PutsAsk ask) a.recorded b.recorded true is,
        puts_sent sent.sent
            (is ∙ λ i. after_case (submitter_enters a.number) a.recorded (record { stamp = sym sent.stamped i; value = PutsAsk (same i) }))
            (λ i. record { ask = sent.put i; tell = tell i }),
      )
  puts_ask ask false is given tell = (is, λ i. record { ask = given i; tell = tell i })

-- ---- one after the other

-- what a submitter was led to, and that its journal and its lanes were kept together
pub record IsLed (first to : NumberedEnd) : Type 0 where
  pub number : to.number ≡ first.number
  pub cases : LeadsTo (submitter_enters first.number) first.recorded to.recorded
  pub lanes : KeepsLanes (submitter_account first) (submitter_account to)

pub goes_on : (first a to : NumberedEnd) (made : Bool) → IsLed first a → SubmitterSteps a made to → to.number ≡ a.number → IsLed first to
goes_on first a to true h q number = record {
  number = number ∙ h.number;
  cases = goes_farther a.number first.number h.number first.recorded a.recorded to.recorded h.cases q.0;
  lanes = keeps_on (submitter_account first) (submitter_account a) (submitter_account to) h.lanes q.1;
}
goes_on first a to false h q number = record {
  number = number ∙ h.number;
  cases = subst (λ (r : Recorded (Unit {0})). LeadsTo (submitter_enters first.number) first.recorded r) (sym q.0) h.cases;
  lanes = subst (λ (x : Account). KeepsLanes (submitter_account first) x)
      (λ i. record { row = (sym q.0 i).row; traffic = submitter_traffic (sym number i) (sym q.1 i); lanes = submitter_lanes (sym q.1 i) }) h.lanes;
}

pub goes_far : (first a to : NumberedEnd) → IsLed first a → LeadsTo (submitter_enters a.number) a.recorded to.recorded → KeepsLanes (submitter_account a) (submitter_account to)
    → to.number ≡ a.number → IsLed first to
goes_far first a to h cases lanes number = record {
  number = number ∙ h.number;
  cases = goes_farther a.number first.number h.number first.recorded a.recorded to.recorded h.cases cases;
  lanes = keeps_on (submitter_account first) (submitter_account a) (submitter_account to) h.lanes lanes;
}

pub goes_nowhere : (first : NumberedEnd) → IsLed first first
goes_nowhere first = record {
  number = refl;
  cases = leads_nowhere (submitter_enters first.number) first.recorded;
  lanes = keeps_still (submitter_account first) (submitter_account first) refl;
}

-- ---- the submitter, whatever it is called before the case

-- a submitter of which nothing is told but its journal and its lanes
abbrev bare : ℕ → Recorded (Unit {0}) → SubmitterLanes → NumberedEnd
bare number recorded lanes = record { number = number; recorded = recorded; lanes = lanes; has_ended = true; is_spent = true }

module _ (a now : NumberedEnd) (number : ℕ) (recorded : Recorded (Unit {0})) (lanes : SubmitterLanes) (is : a ≡ now) (same : number ≡ a.number) where
  pub takes_tell_from : (sent : Sent Tell) → recorded ≡ after_case (submitter_enters a.number) a.recorded (record { stamp = stamp_after a.recorded sent.stamp; value = TakesTell sent.item })
      → lanes ≡ record { ask = a.lanes.ask; tell = with_item a.lanes.tell sent } → SubmitterSteps now true (bare number recorded lanes)
  takes_tell_from sent p q = subst (λ (x : NumberedEnd). SubmitterSteps x true (bare number recorded lanes)) is (takes_tell a (bare number recorded lanes) same sent p q)

  pub puts_ask_from : (ask : Ask) (put : Bool) → Made (submitter_enters a.number) (PutsAsk ask) a.recorded put recorded → WasGiven (Some ask) a.lanes.ask (next_stamp a.recorded) put lanes.ask
      → lanes.tell ≡ a.lanes.tell → SubmitterSteps now true (bare number recorded lanes)
  puts_ask_from ask put made given tell =
      let led : IsLed a (bare number recorded lanes) = goes_on a a (bare number recorded lanes) put (goes_nowhere a) (puts_ask a (bare number recorded lanes) same ask put made given tell) same in
      subst (λ (x : NumberedEnd). SubmitterSteps x true (bare number recorded lanes)) is (led.cases, led.lanes)

-- the submitter as it was, called otherwise before
pub led_by_name : (a now : NumberedEnd) → a ≡ now → IsLed now a
led_by_name a now is = subst (λ (x : NumberedEnd). IsLed x a) is (goes_nowhere a)
