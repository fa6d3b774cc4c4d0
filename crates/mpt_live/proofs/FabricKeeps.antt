-- The cases of the fabric keep its journal and its lanes together.
use Rattle.std.proofs.Common.{◌≡◌, ◌∙◌, ℕ, Bool, true, false, List, [], ◌∷◌, ◌++◌, arith, refl, subst, sym, ap}
use Rattle.std.specs.Prelude.{Err, IfOk, None, Ok, Option, Result, Some, slice_get}
use Rattle.mpt_trace.specs.declared.entry.Entry.TheVariants as entry
use Rattle.mpt_trace.specs.declared.input.Input.{Input}
use Rattle.mpt_trace.specs.declared.input.Input.TheVariants as input
use Rattle.mpt_trace.specs.declared.item.Back.{Back}
use Rattle.mpt_trace.specs.declared.item.Item.TheVariants as item
use Rattle.mpt_trace.specs.declared.item.Out.{Out}
use Rattle.mpt_trace.specs.declared.lane.LaneName.{LaneName}
use Rattle.mpt_trace.specs.declared.lane.LaneName.TheVariants as lane
use Rattle.mpt_trace.specs.declared.refusal.Refusal.{Refusal}
use Rattle.mpt_trace.specs.declared.refusal.RefusedCall.{RefusedCall}
use Rattle.mpt_trace.specs.declared.refusal.RefusedCall.TheVariants as call
use Rattle.mpt_rules.specs.Fabric.Calls.{PlugRefusal, announces, fabric_plugs, fabric_unplugs, runs}
use Rattle.mpt_rules.specs.Fabric.Parts.{Fabric}
use Rattle.mpt_rules.specs.Outcome.{Called}
use Rattle.mpt_rules.specs.Session.OpenCases.{FabricCase, fabric_does, puts_back, ran, says_or_not}
use Rattle.mpt_rules.specs.World.Inputs.{by_plug, fabric_told, refused_plug_entered, told_cause}
use Rattle.mpt_live.specs.Ends.{End, EndSteps, fabric_account}
use Rattle.mpt_live.specs.Lanes.{HasSent, WasGiven, with_item}
use Rattle.mpt_live.specs.Recorded.{Made, MadeOf, Recorded, after_case, next_stamp, stamp_after, stamped_with}
use Rattle.mpt_live.specs.Traffic.{Account, FabricLanes, KeepsLanes, fabric_lanes, fabric_received, fabric_sent, fabric_traffic}
use Rattle.mpt_live.specs.declared.sent.Sent.{Sent}
use Rattle.mpt_live.proofs.Kept.{AreOffLanes, Receives, Sends, items_with, keeps_off, keeps_put, keeps_take, one_on}
use Rattle.mpt_live.proofs.Leads.{leads_by, steps_made}
use Rattle.mpt_live.proofs.Led.{bare}

-- ---- entries

refused_off : (fabric : Fabric) (i : Input) (c : RefusedCall) (cause : Option Refusal) → AreOffLanes (refused_plug_entered fabric i c cause).entries
refused_off fabric i c None = tt
refused_off fabric i c (Some cause) = (tt, (tt, tt))

plugged_off : (i : Input) (c : RefusedCall) (o : Option PlugRefusal) (fabric : Fabric) → AreOffLanes (by_plug i c o fabric).entries
plugged_off i c None fabric = (tt, tt)
plugged_off i c (Some r) fabric = refused_off fabric i c (told_cause r)

told_off : (fabric : Fabric) (i : Input) → AreOffLanes (fabric_told fabric i).entries
told_off fabric (input.Plug address expander phy) =
    let called : Called Fabric (Option PlugRefusal) = fabric_plugs fabric address expander phy in
    plugged_off (input.Plug address expander phy) (call.Plug address) called.answer called.part
told_off fabric (input.Unplug address) =
    let called : Called Fabric (Option PlugRefusal) = fabric_unplugs fabric address in
    plugged_off (input.Unplug address) (call.Unplug address) called.answer called.part
told_off fabric _ = tt

said_off : (fabric : Fabric) (o : Option Fabric) → AreOffLanes (says_or_not fabric o).entries
said_off fabric None = tt
said_off fabric (Some after) = tt

ran_off : (fabric : Fabric) (tag : ℕ) (o : Option ℕ) (after : Fabric) → AreOffLanes (ran fabric tag o after).entries
ran_off fabric tag None after = tt
ran_off fabric tag (Some address) after = (tt, tt)

-- a case that puts nothing and takes nothing
abbrev pub IsOff : FabricCase → Type 0
IsOff (FabricCase.Takes next) = ⊥
IsOff FabricCase.Puts = ⊥
IsOff _ = Unit {0}

case_off : (fabric : Fabric) (c : FabricCase) → IsOff c → AreOffLanes (fabric_does fabric c).entries
case_off fabric (FabricCase.Told i) h = told_off fabric i
case_off fabric (FabricCase.Takes next) h = absurd h
case_off fabric FabricCase.Says h = said_off fabric (announces fabric)
case_off fabric FabricCase.Puts h = absurd h
case_off fabric (FabricCase.Runs tag) h = ran_off fabric tag (runs fabric tag).answer (runs fabric tag).part
case_off fabric FabricCase.Calms h = tt

put_entries : (fabric : Fabric) (items : List Back) (x : Back) → slice_get items 0 ≡ Some x → (puts_back fabric items).entries ≡ entry.Put lane.Back (item.Back x) ∷ []
put_entries fabric [] x e = cc
put_entries fabric (y ∷ ys) x e = let same : y ≡ x = (cc) in ap (λ z. entry.Put lane.Back (item.Back z) ∷ []) same

-- ---- an item through a lane

module _ (l : FabricLanes) where
  out_received : (sent : Sent Out) → Receives lane.Out (record { stamp = sent.stamp; value = item.Out sent.item }) (fabric_traffic l) (fabric_traffic (record { out = with_item l.out sent; back = l.back }))
  out_received sent = record { sent = other; received = own }
    where
      other : (name : LaneName) → fabric_sent (record { out = with_item l.out sent; back = l.back }) name ≡ fabric_sent l name
      other lane.Back = refl
      other _ = refl

      own : (name : LaneName) → fabric_received (record { out = with_item l.out sent; back = l.back }) name
          ≡ fabric_received l name ++ one_on lane.Out (record { stamp = sent.stamp; value = item.Out sent.item }) name
      own lane.Out = items_with item.Out l.out sent
      own _ = refl

  back_sent : (sent : Sent Back) → Sends lane.Back (record { stamp = sent.stamp; value = item.Back sent.item }) (fabric_traffic l) (fabric_traffic (record { out = l.out; back = with_item l.back sent }))
  back_sent sent = record { sent = own; received = other }
    where
      other : (name : LaneName) → fabric_received (record { out = l.out; back = with_item l.back sent }) name ≡ fabric_received l name
      other lane.Out = refl
      other _ = refl

      own : (name : LaneName) → fabric_sent (record { out = l.out; back = with_item l.back sent }) name
          ≡ fabric_sent l name ++ one_on lane.Back (record { stamp = sent.stamp; value = item.Back sent.item }) name
      own lane.Back = items_with item.Back l.back sent
      own _ = refl

-- ---- the cases

module _ (a_recorded : Recorded Fabric) (a_lanes : FabricLanes) (b_recorded : Recorded Fabric) (b_lanes : FabricLanes) where
  abbrev a : End Fabric FabricLanes
  a = bare a_recorded a_lanes

  abbrev b : End Fabric FabricLanes
  b = bare b_recorded b_lanes

  keeps_case : (c : FabricCase) (stamp : ℕ) → IsOff c → b.recorded ≡ after_case fabric_does a.recorded (record { stamp = stamp; value = c }) → b.lanes ≡ a.lanes → KeepsLanes (fabric_account a) (fabric_account b)
  keeps_case c stamp off is lanes =
      keeps_off (fabric_account a) (fabric_account b) stamp (ap fabric_lanes lanes) (fabric_does a.recorded.part c).entries (ap (λ (r : Recorded Fabric). r.row) is) (case_off a.recorded.part c off) (ap fabric_traffic lanes)

  pub makes_case : (c : FabricCase) (made : Bool) → IsOff c → Made fabric_does c a.recorded made b.recorded → b.lanes ≡ a.lanes → EndSteps fabric_does fabric_account a made b
  makes_case c true off is lanes = (steps_made fabric_does c a.recorded b.recorded true is, keeps_case c (next_stamp a.recorded) off is lanes)
  makes_case c false off is lanes = (is, lanes)

  pub makes_run : (tag : Option ℕ) (made : Bool) → MadeOf fabric_does FabricCase.Runs tag a.recorded made b.recorded → b.lanes ≡ a.lanes → EndSteps fabric_does fabric_account a made b
  makes_run (Some tag) made is lanes = makes_case (FabricCase.Runs tag) made tt is lanes
  makes_run None made is lanes = rw is.0 (is.1, lanes)

  pub takes_item : (sent : Sent Out) → b.recorded ≡ after_case fabric_does a.recorded (record { stamp = stamp_after a.recorded sent.stamp; value = FabricCase.Takes sent.item })
      → b.lanes ≡ record { out = with_item a.lanes.out sent; back = a.lanes.back } → EndSteps fabric_does fabric_account a true b
  takes_item sent is lanes =
      let stamp : ℕ = stamp_after a.recorded sent.stamp in (
        leads_by fabric_does a.recorded b.recorded (record { stamp = stamp; value = FabricCase.Takes sent.item }) (omega arith) is,
        keeps_take (fabric_account a) (fabric_account b) stamp (ap fabric_lanes lanes) lane.Out (record { stamp = sent.stamp; value = item.Out sent.item }) []
            (ap (λ (r : Recorded Fabric). r.row) is) (omega arith) tt
            (subst (Receives lane.Out (record { stamp = sent.stamp; value = item.Out sent.item }) (fabric_traffic a.lanes)) (sym (ap fabric_traffic lanes)) (out_received a.lanes sent)),
      )

  puts_sent : (sent : Sent Back) → slice_get a.recorded.part.out 0 ≡ Some sent.item → b.recorded ≡ after_case fabric_does a.recorded (record { stamp = sent.stamp; value = FabricCase.Puts })
      → b.lanes ≡ record { out = a.lanes.out; back = with_item a.lanes.back sent } → KeepsLanes (fabric_account a) (fabric_account b)
  puts_sent sent first is lanes =
      keeps_put (fabric_account a) (fabric_account b) sent.stamp (ap fabric_lanes lanes) lane.Back (item.Back sent.item)
      (ap (λ (r : Recorded Fabric). r.row) is ∙ ap (λ es. stamped_with a.recorded.row sent.stamp es) (put_entries a.recorded.part a.recorded.part.out sent.item first))
      (subst (Sends lane.Back (record { stamp = sent.stamp; value = item.Back sent.item }) (fabric_traffic a.lanes)) (sym (ap fabric_traffic lanes)) (back_sent a.lanes sent))

  puts_item : (put : Bool) → Made fabric_does FabricCase.Puts a.recorded put b.recorded → WasGiven (slice_get a.recorded.part.out 0) a.lanes.back (next_stamp a.recorded) put b.lanes.back
      → b.lanes.out ≡ a.lanes.out → EndSteps fabric_does fabric_account a put b
  puts_item true is given out =
      let sent : HasSent a.lanes.back (next_stamp a.recorded) given.0 b.lanes.back = given.2 in (
        steps_made fabric_does FabricCase.Puts a.recorded b.recorded true is,
        puts_sent sent.sent (given.1 ∙ ap (λ x. Some x) (sym sent.carries)) (is ∙ λ i. after_case fabric_does a.recorded (record { stamp = sym sent.stamped i; value = FabricCase.Puts }))
            (λ i. record { out = out i; back = sent.put i }),
      )
  puts_item false is given out = (is, λ i. record { out = out i; back = given i })

  pub if_puts : {E : Type 0} (r : Result Bool E) → IfOk r (λ put. Made fabric_does FabricCase.Puts a.recorded put b.recorded)
      → IfOk r (λ put. WasGiven (slice_get a.recorded.part.out 0) a.lanes.back (next_stamp a.recorded) put b.lanes.back) → b.lanes.out ≡ a.lanes.out → IfOk r (λ put. EndSteps fabric_does fabric_account a put b)
  if_puts (Ok put) is given out = puts_item put is given out
  if_puts (Err e) is given out = tt

  pub if_makes : {E : Type 0} (r : Result Bool E) (c : FabricCase) → IsOff c → IfOk r (λ made. Made fabric_does c a.recorded made b.recorded) → b.lanes ≡ a.lanes → IfOk r (λ made. EndSteps fabric_does fabric_account a made b)
  if_makes (Ok made) c off is lanes = makes_case c made off is lanes
  if_makes (Err e) c off is lanes = tt

  pub if_runs : {E : Type 0} (r : Result Bool E) (tag : Option ℕ) → IfOk r (λ made. MadeOf fabric_does FabricCase.Runs tag a.recorded made b.recorded) → b.lanes ≡ a.lanes → IfOk r (λ made. EndSteps fabric_does fabric_account a made b)
  if_runs (Ok made) tag is lanes = makes_run tag made is lanes
  if_runs (Err e) tag is lanes = tt

-- the fabric's account, of its parts
abbrev pub fabric_books : Recorded Fabric → FabricLanes → Account
fabric_books recorded lanes = record { row = recorded.row; traffic = fabric_traffic lanes; lanes = fabric_lanes lanes }
