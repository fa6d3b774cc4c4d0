-- The cases of the controller keep its journal and its lanes together.
use Rattle.std.proofs.Common.{◌≡◌, ◌∙◌, ◌<◌, ◌==◌, ℕ, zero, suc, Bool, true, false, List, [], ◌∷◌, ◌++◌, append-nil, arith, get_or, length, refl, set, subst, sym, ap}
use Rattle.std.specs.Prelude.{Err, IfOk, None, Ok, Option, Result, Some}
use Rattle.std.specs.List.{cons_option}
use Rattle.std.proofs.lemmas.Bool.Decides.{nat_tests}
use Rattle.std.proofs.lemmas.List.{set-get_or}
use Rattle.mpi_doorbell.specs.DoorRegisters.{register_written}
use Rattle.mpi_doorbell.specs.declared.effect.Effect.{Effect}
use Rattle.mpi_doorbell.specs.declared.effect.Effect.TheVariants as effect
use Rattle.mpt_trace.specs.declared.entry.Entry.{Entry}
use Rattle.mpt_trace.specs.declared.entry.Entry.TheVariants as entry
use Rattle.mpt_trace.specs.declared.item.Back.{Back}
use Rattle.mpt_trace.specs.declared.item.Down.{Down}
use Rattle.mpt_trace.specs.declared.item.Down.TheVariants as down
use Rattle.mpt_trace.specs.declared.item.Item.TheVariants as item
use Rattle.mpt_trace.specs.declared.item.Out.{Out}
use Rattle.mpt_trace.specs.declared.item.Up.{Up}
use Rattle.mpt_trace.specs.declared.lane.LaneName.{LaneName}
use Rattle.mpt_trace.specs.declared.lane.LaneName.TheVariants as lane
use Rattle.mpt_wire.specs.Walks.Passes.{EachEntry}
use Rattle.mpt_rules.specs.declared.post.Post.{Post}
use Rattle.mpt_rules.specs.Ioc.Parts.{Ioc}
use Rattle.mpt_rules.specs.Ioc.Registers.{after_effect}
use Rattle.mpt_rules.specs.Ioc.Steps.{steps_high_on, steps_normal_on, works_on}
use Rattle.mpt_rules.specs.Session.Journals.{at_if}
use Rattle.mpt_rules.specs.Ioc.Takes.{front_out, front_up_on, takes_back, takes_down}
use Rattle.mpt_rules.specs.Session.OpenCases.{IocCase, PutsOut, PutsUp, TakesBack, TakesDown, WorksHigh, WorksNormal, ioc_does, open_worked, puts_out, puts_up}
use Rattle.mpt_rules.specs.World.State.{up_lane}
use Rattle.law_moves.proofs.IocWords.{IsIocWord, back_words, works_words}
use Rattle.mpt_live.specs.Ends.{End, EndSteps, ioc_account}
use Rattle.mpt_live.specs.Lanes.{HasSent, LaneEnd, WasGiven, with_item}
use Rattle.mpt_live.specs.Recorded.{Made, Recorded, after_case, next_stamp, stamp_after, stamped_with}
use Rattle.mpt_live.specs.Traffic.{Account, IocLanes, KeepsLanes, ioc_lanes, ioc_received, ioc_sent, ioc_traffic}
use Rattle.mpt_live.specs.declared.sent.Sent.{Sent}
use Rattle.mpt_live.proofs.Kept.{AreOffLanes, IsOffLanes, Receives, Sends, items_with, keeps_off, keeps_put, keeps_take, one_on}
use Rattle.mpt_live.proofs.Leads.{leads_by, steps_made}
use Rattle.mpt_live.proofs.Led.{bare}
use Rattle.mpt_live.proofs.Several.{IsAt, several_items, several_same}

-- ---- entries

word_off : (e : Entry) → IsIocWord e → IsOffLanes e
word_off (entry.Bind handle address plug) h = tt
word_off (entry.Unbind handle) h = tt
word_off _ h = absurd h

words_off : (es : List Entry) → EachEntry IsIocWord es → AreOffLanes es
words_off [] h = tt
words_off (e ∷ es) h = (word_off e h.0, words_off es h.1)

written_off : (ioc : Ioc) (e : Effect) → AreOffLanes (after_effect ioc e).entries
written_off ioc effect.None = tt
written_off ioc (effect.Asked count bytes) = tt
written_off ioc effect.UnitReset = (tt, tt)
written_off ioc effect.AdapterReset = (tt, tt)
written_off ioc (effect.Fault code) = tt

took_off : (ioc : Ioc) (next : Down) → AreOffLanes (takes_down ioc next).entries
took_off ioc (down.Write reg value) = written_off (record ioc { door = (register_written ioc.door reg value).registers }) (register_written ioc.door reg value).effect
took_off ioc (down.Read reg) = tt
took_off ioc (down.Post descriptor frame payload) = tt
took_off ioc (down.Return address index) = tt
took_off ioc down.Stop = tt

high_off : (ioc : Ioc) (posts : List Post) → AreOffLanes (open_worked ioc (steps_high_on ioc posts)).entries
high_off ioc [] = tt
high_off ioc (p ∷ rest) = words_off (works_on (record ioc { high = rest }) p).entries (works_words (record ioc { high = rest }) p)

normal_off : (ioc : Ioc) (posts : List Post) → AreOffLanes (open_worked ioc (steps_normal_on ioc posts)).entries
normal_off ioc [] = tt
normal_off ioc (p ∷ rest) = words_off (works_on (record ioc { normal = rest }) p).entries (works_words (record ioc { normal = rest }) p)

-- a work step
abbrev pub IsWork : IocCase → Type 0
IsWork WorksHigh = Unit {0}
IsWork WorksNormal = Unit {0}
IsWork _ = ⊥

work_off : (ioc : Ioc) (c : IocCase) → IsWork c → AreOffLanes (ioc_does ioc c).entries
work_off ioc WorksHigh h = high_off ioc ioc.high
work_off ioc WorksNormal h = normal_off ioc ioc.normal
work_off ioc (TakesDown next) h = absurd h
work_off ioc PutsOut h = absurd h
work_off ioc (TakesBack next) h = absurd h
work_off ioc (PutsUp queue) h = absurd h

out_entries : (ioc : Ioc) (o : Option Out) (x : Out) → o ≡ Some x → (puts_out ioc o).entries ≡ entry.Put lane.Out (item.Out x) ∷ []
out_entries ioc None x e = cc
out_entries ioc (Some y) x e = let same : y ≡ x = (cc) in ap (λ z. entry.Put lane.Out (item.Out z) ∷ []) same

up_entries : (ioc : Ioc) (queue : ℕ) (o : Option Up) (x : Up) → o ≡ Some x → (puts_up ioc queue o).entries ≡ entry.Put (up_lane queue) (item.Up x) ∷ []
up_entries ioc queue None x e = cc
up_entries ioc queue (Some y) x e = let same : y ≡ x = (cc) in ap (λ z. entry.Put (up_lane queue) (item.Up z) ∷ []) same

-- ---- an item through a lane

module _ (l : IocLanes) where
  abbrev with_down : Sent Down → IocLanes
  with_down sent = record { down = with_item l.down sent; ups = l.ups; out = l.out; back = l.back }

  abbrev with_out : Sent Out → IocLanes
  with_out sent = record { down = l.down; ups = l.ups; out = with_item l.out sent; back = l.back }

  abbrev with_back : Sent Back → IocLanes
  with_back sent = record { down = l.down; ups = l.ups; out = l.out; back = with_item l.back sent }

  abbrev with_ups : List (LaneEnd Up) → IocLanes
  with_ups ups = record { down = l.down; ups = ups; out = l.out; back = l.back }

  down_received : (sent : Sent Down) → Receives lane.Down (record { stamp = sent.stamp; value = item.Down sent.item }) (ioc_traffic l) (ioc_traffic (with_down sent))
  down_received sent = record { sent = other; received = own }
    where
      other : (name : LaneName) → ioc_sent (with_down sent) name ≡ ioc_sent l name
      other lane.Out = refl
      other lane.Up = refl
      other (lane.UpOn zero) = refl
      other (lane.UpOn (suc i)) = refl
      other _ = refl

      own : (name : LaneName) → ioc_received (with_down sent) name ≡ ioc_received l name ++ one_on lane.Down (record { stamp = sent.stamp; value = item.Down sent.item }) name
      own lane.Down = items_with item.Down l.down sent
      own lane.Back = sym (append-nil (ioc_received l lane.Back))
      own _ = refl

  back_received : (sent : Sent Back) → Receives lane.Back (record { stamp = sent.stamp; value = item.Back sent.item }) (ioc_traffic l) (ioc_traffic (with_back sent))
  back_received sent = record { sent = other; received = own }
    where
      other : (name : LaneName) → ioc_sent (with_back sent) name ≡ ioc_sent l name
      other lane.Out = refl
      other lane.Up = refl
      other (lane.UpOn zero) = refl
      other (lane.UpOn (suc i)) = refl
      other _ = refl

      own : (name : LaneName) → ioc_received (with_back sent) name ≡ ioc_received l name ++ one_on lane.Back (record { stamp = sent.stamp; value = item.Back sent.item }) name
      own lane.Back = items_with item.Back l.back sent
      own lane.Down = sym (append-nil (ioc_received l lane.Down))
      own _ = refl

  out_sent : (sent : Sent Out) → Sends lane.Out (record { stamp = sent.stamp; value = item.Out sent.item }) (ioc_traffic l) (ioc_traffic (with_out sent))
  out_sent sent = record { sent = own; received = other }
    where
      other : (name : LaneName) → ioc_received (with_out sent) name ≡ ioc_received l name
      other lane.Down = refl
      other lane.Back = refl
      other _ = refl

      own : (name : LaneName) → ioc_sent (with_out sent) name ≡ ioc_sent l name ++ one_on lane.Out (record { stamp = sent.stamp; value = item.Out sent.item }) name
      own lane.Out = items_with item.Out l.out sent
      own lane.Up = sym (append-nil (ioc_sent l lane.Up))
      own (lane.UpOn zero) = refl
      own (lane.UpOn (suc i)) = sym (append-nil (ioc_sent l (lane.UpOn (suc i))))
      own _ = refl

  up_sent : (queue : ℕ) (end : LaneEnd Up) (sent : Sent Up) → queue < length l.ups → end ≡ get_or l.ups queue end
      → Sends (up_lane queue) (record { stamp = sent.stamp; value = item.Up sent.item }) (ioc_traffic l) (ioc_traffic (with_ups (set l.ups queue (with_item end sent))))
  up_sent queue end sent here is = record { sent = own queue refl; received = other }
    where
      zero_other : (q : ℕ) → (0 == suc q) ≡ false
      zero_other q = grind (arith, nat_tests)

      other : (name : LaneName) → ioc_received (with_ups (set l.ups queue (with_item end sent))) name ≡ ioc_received l name
      other lane.Down = refl
      other lane.Back = refl
      other _ = refl

      of_other : (name : LaneName) → ioc_sent l name ≡ ioc_sent l name ++ []
      of_other name = sym (append-nil (ioc_sent l name))

      own : (q : ℕ) → q ≡ queue → (name : LaneName) → ioc_sent (with_ups (set l.ups queue (with_item end sent))) name
          ≡ ioc_sent l name ++ one_on (up_lane q) (record { stamp = sent.stamp; value = item.Up sent.item }) name
      own zero e lane.Up = several_items item.Up l.ups queue end sent here is 0 true (grind (arith, nat_tests, e))
      own (suc q) e lane.Up = several_items item.Up l.ups queue end sent here is 0 false (grind (arith, nat_tests, e))
      own zero e (lane.UpOn zero) = refl
      own (suc q) e (lane.UpOn zero) = sym (ap (λ on. cons_option (at_if on sent.stamp (item.Up sent.item)) []) (zero_other q))
      own zero e (lane.UpOn (suc i)) = several_items item.Up l.ups queue end sent here is (suc i) false (grind (arith, nat_tests, e))
      own (suc q) e (lane.UpOn (suc i)) = several_items item.Up l.ups queue end sent here is (suc i) (suc i == suc q) (ap (λ k. suc i == k) (sym e))
      own zero e lane.Out = of_other lane.Out
      own (suc q) e lane.Out = of_other lane.Out
      own zero e lane.Down = refl
      own (suc q) e lane.Down = refl
      own zero e lane.Back = refl
      own (suc q) e lane.Back = refl
      own zero e (lane.Ask i) = refl
      own (suc q) e (lane.Ask i) = refl
      own zero e (lane.Tell i) = refl
      own (suc q) e (lane.Tell i) = refl

-- ---- the cases

-- the controller's account, of its parts
abbrev pub ioc_books : Recorded Ioc → IocLanes → Account
ioc_books recorded lanes = record { row = recorded.row; traffic = ioc_traffic lanes; lanes = ioc_lanes lanes }

module _ (a_recorded : Recorded Ioc) (a_lanes : IocLanes) (b_recorded : Recorded Ioc) (b_lanes : IocLanes) where
  abbrev a : End Ioc IocLanes
  a = bare a_recorded a_lanes

  abbrev b : End Ioc IocLanes
  b = bare b_recorded b_lanes

  pub works : (c : IocCase) (made : Bool) → IsWork c → Made ioc_does c a.recorded made b.recorded → b.lanes ≡ a.lanes → EndSteps ioc_does ioc_account a made b
  works c true off is lanes = (
    steps_made ioc_does c a.recorded b.recorded true is,
    keeps_off (ioc_account a) (ioc_account b) (next_stamp a.recorded) (ap ioc_lanes lanes) (ioc_does a.recorded.part c).entries (ap (λ (r : Recorded Ioc). r.row) is) (work_off a.recorded.part c off)
        (ap ioc_traffic lanes),
  )
  works c false off is lanes = (is, lanes)

  pub if_works : {E : Type 0} (r : Result Bool E) (c : IocCase) → IsWork c → IfOk r (λ made. Made ioc_does c a.recorded made b.recorded) → b.lanes ≡ a.lanes → IfOk r (λ made. EndSteps ioc_does ioc_account a made b)
  if_works (Ok made) c off is lanes = works c made off is lanes
  if_works (Err e) c off is lanes = tt

  pub takes_from_host : (sent : Sent Down) → b.recorded ≡ after_case ioc_does a.recorded (record { stamp = stamp_after a.recorded sent.stamp; value = TakesDown sent.item })
      → b.lanes ≡ with_down a.lanes sent → EndSteps ioc_does ioc_account a true b
  takes_from_host sent is lanes =
      let stamp : ℕ = stamp_after a.recorded sent.stamp in (
        leads_by ioc_does a.recorded b.recorded (record { stamp = stamp; value = TakesDown sent.item }) (omega arith) is,
        keeps_take (ioc_account a) (ioc_account b) stamp (ap ioc_lanes lanes) lane.Down (record { stamp = sent.stamp; value = item.Down sent.item }) (takes_down a.recorded.part sent.item).entries
            (ap (λ (r : Recorded Ioc). r.row) is) (omega arith) (took_off a.recorded.part sent.item)
            (subst (Receives lane.Down (record { stamp = sent.stamp; value = item.Down sent.item }) (ioc_traffic a.lanes)) (sym (ap ioc_traffic lanes)) (down_received a.lanes sent)),
      )

  pub takes_from_fabric : (sent : Sent Back) → b.recorded ≡ after_case ioc_does a.recorded (record { stamp = stamp_after a.recorded sent.stamp; value = TakesBack sent.item })
      → b.lanes ≡ with_back a.lanes sent → EndSteps ioc_does ioc_account a true b
  takes_from_fabric sent is lanes =
      let stamp : ℕ = stamp_after a.recorded sent.stamp in (
        leads_by ioc_does a.recorded b.recorded (record { stamp = stamp; value = TakesBack sent.item }) (omega arith) is,
        keeps_take (ioc_account a) (ioc_account b) stamp (ap ioc_lanes lanes) lane.Back (record { stamp = sent.stamp; value = item.Back sent.item }) (takes_back a.recorded.part sent.item).entries
            (ap (λ (r : Recorded Ioc). r.row) is) (omega arith) (words_off (takes_back a.recorded.part sent.item).entries (back_words a.recorded.part sent.item))
            (subst (Receives lane.Back (record { stamp = sent.stamp; value = item.Back sent.item }) (ioc_traffic a.lanes)) (sym (ap ioc_traffic lanes)) (back_received a.lanes sent)),
      )

  sent_out : (sent : Sent Out) → front_out a.recorded.part ≡ Some sent.item → b.recorded ≡ after_case ioc_does a.recorded (record { stamp = sent.stamp; value = PutsOut })
      → b.lanes ≡ with_out a.lanes sent → KeepsLanes (ioc_account a) (ioc_account b)
  sent_out sent first is lanes =
      keeps_put (ioc_account a) (ioc_account b) sent.stamp (ap ioc_lanes lanes) lane.Out (item.Out sent.item)
      (ap (λ (r : Recorded Ioc). r.row) is ∙ ap (λ es. stamped_with a.recorded.row sent.stamp es) (out_entries a.recorded.part (front_out a.recorded.part) sent.item first))
      (subst (Sends lane.Out (record { stamp = sent.stamp; value = item.Out sent.item }) (ioc_traffic a.lanes)) (sym (ap ioc_traffic lanes)) (out_sent a.lanes sent))

  puts_out_item : (put : Bool) (out : LaneEnd Out) → Made ioc_does PutsOut a.recorded put b.recorded → WasGiven (front_out a.recorded.part) a.lanes.out (next_stamp a.recorded) put out
      → b.lanes ≡ record { down = a.lanes.down; ups = a.lanes.ups; out = out; back = a.lanes.back } → EndSteps ioc_does ioc_account a put b
  puts_out_item true out is given lanes =
      let sent : HasSent a.lanes.out (next_stamp a.recorded) given.0 out = given.2 in (
        steps_made ioc_does PutsOut a.recorded b.recorded true is,
        sent_out sent.sent (given.1 ∙ ap (λ x. Some x) (sym sent.carries)) (is ∙ λ i. after_case ioc_does a.recorded (record { stamp = sym sent.stamped i; value = PutsOut }))
            (lanes ∙ λ i. record { down = a.lanes.down; ups = a.lanes.ups; out = sent.put i; back = a.lanes.back }),
      )
  puts_out_item false out is given lanes = (is, lanes ∙ λ i. record { down = a.lanes.down; ups = a.lanes.ups; out = given i; back = a.lanes.back })

  pub if_puts_out : {E : Type 0} (r : Result Bool E) (out : LaneEnd Out) → IfOk r (λ put. Made ioc_does PutsOut a.recorded put b.recorded)
      → IfOk r (λ put. WasGiven (front_out a.recorded.part) a.lanes.out (next_stamp a.recorded) put out)
      → b.lanes ≡ record { down = a.lanes.down; ups = a.lanes.ups; out = out; back = a.lanes.back } → IfOk r (λ put. EndSteps ioc_does ioc_account a put b)
  if_puts_out (Ok put) out is given lanes = puts_out_item put out is given lanes
  if_puts_out (Err e) out is given lanes = tt

  module _ (index queue : ℕ) (same : index ≡ queue) (end : LaneEnd Up) (stands : IsAt a_lanes.ups queue end) where
    here : queue < length a.lanes.ups
    here = stands.within

    at : end ≡ get_or a.lanes.ups queue end
    at = stands.is

    sent_up : (sent : Sent Up) → front_up_on a.recorded.part queue ≡ Some sent.item → b.recorded ≡ after_case ioc_does a.recorded (record { stamp = sent.stamp; value = PutsUp queue })
        → b.lanes ≡ with_ups a.lanes (set a.lanes.ups queue (with_item end sent)) → KeepsLanes (ioc_account a) (ioc_account b)
    sent_up sent first is lanes =
        keeps_put (ioc_account a) (ioc_account b) sent.stamp
        (ap ioc_lanes lanes ∙ ap (λ ids. (a.lanes.down.lane ∷ []) ∷ ids ∷ (a.lanes.out.lane ∷ []) ∷ (a.lanes.back.lane ∷ []) ∷ []) (several_same item.Up a.lanes.ups queue end sent here at))
        (up_lane queue) (item.Up sent.item)
        (ap (λ (r : Recorded Ioc). r.row) is ∙ ap (λ es. stamped_with a.recorded.row sent.stamp es) (up_entries a.recorded.part queue (front_up_on a.recorded.part queue) sent.item first))
        (subst (Sends (up_lane queue) (record { stamp = sent.stamp; value = item.Up sent.item }) (ioc_traffic a.lanes)) (sym (ap ioc_traffic lanes)) (up_sent a.lanes queue end sent here at))

    puts_up_item : (put : Bool) (after : LaneEnd Up) → Made ioc_does (PutsUp queue) a.recorded put b.recorded → WasGiven (front_up_on a.recorded.part queue) end (next_stamp a.recorded) put after
        → b.lanes ≡ with_ups a.lanes (set a.lanes.ups queue after) → EndSteps ioc_does ioc_account a put b
    puts_up_item true after is given lanes =
        let sent : HasSent end (next_stamp a.recorded) given.0 after = given.2 in (
          steps_made ioc_does (PutsUp queue) a.recorded b.recorded true is,
          sent_up sent.sent (given.1 ∙ ap (λ x. Some x) (sym sent.carries)) (is ∙ λ i. after_case ioc_does a.recorded (record { stamp = sym sent.stamped i; value = PutsUp queue }))
              (lanes ∙ λ i. with_ups a.lanes (set a.lanes.ups queue (sent.put i))),
        )
    puts_up_item false after is given lanes = (
      is,
      lanes ∙ (λ i. with_ups a.lanes (set a.lanes.ups queue (given i))) ∙ (λ i. with_ups a.lanes (set a.lanes.ups queue (at i))) ∙ ap (with_ups a.lanes) (set-get_or a.lanes.ups queue end),
    )

    pub if_puts_up : {E : Type 0} (r : Result Bool E) (after : LaneEnd Up) → IfOk r (λ put. Made ioc_does (PutsUp queue) a.recorded put b.recorded)
        → IfOk r (λ put. WasGiven (front_up_on a.recorded.part queue) end (next_stamp a.recorded) put after) → b.lanes ≡ with_ups a.lanes (set a.lanes.ups index after)
        → IfOk r (λ put. EndSteps ioc_does ioc_account a put b)
    if_puts_up (Ok put) after is given lanes = puts_up_item put after is given (lanes ∙ λ i. with_ups a.lanes (set a.lanes.ups (same i) after))
    if_puts_up (Err e) after is given lanes = tt
