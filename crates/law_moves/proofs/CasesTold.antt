-- The walk over all cases, with their entries.
use Rattle.std.proofs.Common.{◌≡◌, ℕ, zero, suc, Bool, true, false, List, [], ◌∷◌, ◌++◌, Option, Some, None, refl, ap, sym, subst, slice_get, drop}
use Rattle.mpt_trace.specs.declared.choice.Choice.{Choice}
use Rattle.mpt_trace.specs.declared.choice.Choice.TheVariants as choice
use Rattle.mpt_trace.specs.declared.input.Input.{Input}
use Rattle.mpt_trace.specs.declared.input.Input.TheVariants as input
use Rattle.mpt_trace.specs.declared.item.Down.{Down}
use Rattle.mpt_trace.specs.declared.item.Up.{Up}
use Rattle.mpt_trace.specs.declared.item.Out.{Out}
use Rattle.mpt_trace.specs.declared.item.Back.{Back}
use Rattle.mpt_trace.specs.declared.refusal.RefusedCall.{RefusedCall}
use Rattle.mpt_rules.specs.declared.post.Post.{Post}
use Rattle.mpt_rules.specs.declared.said.Said.{Said}
use Rattle.mpt_rules.specs.declared.why.Why.{Why}
use Rattle.mpt_rules.specs.Outcome.{Happening}
use Rattle.mpt_trace.specs.declared.entry.Entry.{Entry}
use Rattle.mpt_trace.specs.declared.entry.Entry.TheVariants as entry
use Rattle.mpt_trace.specs.declared.item.Item.TheVariants as item
use Rattle.mpt_trace.specs.declared.lane.LaneName.TheVariants as lane
use Rattle.mpt_wire.specs.Walks.Passes.{EachEntry}
use Rattle.law_moves.proofs.Cases.{IsHosts}
use Rattle.mpt_rules.specs.World.Cases.{Case, Told, Chosen, HostLooks, HostStops, FabricCalms, case_of, entries, happens, moves_or_idles, is_free, looks_if, stops_if}
use Rattle.mpt_rules.specs.Fabric.Calls as fab
use Rattle.mpt_rules.specs.Fabric.Parts.{Fabric}
use Rattle.mpt_rules.specs.Host.Takes.{hears_up, takes_unless, looks, stops}
use Rattle.mpt_rules.specs.Host.Returns.{after_sent}
use Rattle.mpt_rules.specs.Host.Strange.{why_strange}
use Rattle.mpt_rules.specs.World.Inputs.{host_told, by_plug}
use Rattle.mpt_rules.specs.Ioc.Takes as adapter
use Rattle.mpt_rules.specs.Ioc.Replies.{outbox_of}
use Rattle.mpt_rules.specs.Ioc.Sending.{front_up_of, up_of}
use Rattle.mpt_rules.specs.Ioc.Steps as step
use Rattle.mpt_rules.specs.Law.{NothingIsStrange}
use Rattle.mpt_rules.specs.World.Moves as move
use Rattle.mpt_rules.specs.World.State.{World, up_lane, up_on, with_up}

-- of a plug or an unplug: what was asked, and its refusal
abbrev pub IsPlugWord : Entry → Type 0
IsPlugWord (entry.Given (input.Plug address expander phy)) = Unit {0}
IsPlugWord (entry.Given (input.Unplug address)) = Unit {0}
IsPlugWord (entry.Refuse call cause) = Unit {0}
IsPlugWord _ = ⊥

-- what is owed, case by case: of the world behind it, and of its entries
pub record OwesTold (P : World → List Entry → Type 0) (w : World) : Type 0 where
  pub idles : (c : Choice) → P w (entry.Idle c ∷ [])
  pub host_puts : (x : Down) (rest : List Down) → w.host.out ≡ x ∷ rest → P (record w { host = after_sent w.host x rest; down = w.down ++ x ∷ [] }) (entry.Put lane.Down (item.Down x) ∷ [])
  pub host_takes : (queue : ℕ) (x : Up) (rest : List Up) → up_on w queue ≡ x ∷ rest → why_strange w.host queue x ≡ None
      → P (record (with_up w queue rest) { host = (hears_up w.host queue x).part }) (entry.Take (up_lane queue) (item.Up x) ∷ (hears_up w.host queue x).entries)
  pub host_told : (i : Input) → IsHosts i → P (record w { host = (host_told w.host i).part }) (host_told w.host i).entries
  pub host_looks : is_free w.host ≡ true → P (record w { host = looks w.host }) []
  pub host_stops : is_free w.host ≡ true → P (record w { host = stops w.host }) []
  pub no_session : P w []
  pub ioc_takes : (x : Down) (rest : List Down) → w.down ≡ x ∷ rest → P (record w { ioc = (adapter.takes_down w.ioc x).part; down = rest }) (entry.Take lane.Down (item.Down x) ∷ (adapter.takes_down w.ioc x).entries)
  pub ioc_high : (p : Post) (rest : List Post) → w.ioc.high ≡ p ∷ rest → P (record w { ioc = (step.works_on (record w.ioc { high = rest }) p).part }) (step.works_on (record w.ioc { high = rest }) p).entries
  pub ioc_normal : (p : Post) (rest : List Post) → w.ioc.normal ≡ p ∷ rest → P (record w { ioc = (step.works_on (record w.ioc { normal = rest }) p).part }) (step.works_on (record w.ioc { normal = rest }) p).entries
  pub ioc_puts_out : (x : Out) (rest : List Out) → w.ioc.out ≡ x ∷ rest → P (record w { ioc = record w.ioc { out = rest }; out = w.out ++ x ∷ [] }) (entry.Put lane.Out (item.Out x) ∷ [])
  pub ioc_takes_back : (x : Back) (rest : List Back) → w.back ≡ x ∷ rest → P (record w { ioc = (adapter.takes_back w.ioc x).part; back = rest }) (entry.Take lane.Back (item.Back x) ∷ (adapter.takes_back w.ioc x).entries)
  pub ioc_puts : (queue : ℕ) (y : Said) (rest : List Said) (z : Up) → outbox_of w.ioc queue ≡ y ∷ rest → up_of y (slice_get w.ioc.ring 0) ≡ Some z
      → P (with_up (record w { ioc = adapter.up_sent_on w.ioc queue }) queue (up_on w queue ++ z ∷ [])) (entry.Put (up_lane queue) (item.Up z) ∷ [])
  pub fabric_takes : (x : Out) (rest : List Out) → w.out ≡ x ∷ rest → P (record w { fabric = fab.takes_out w.fabric x; out = rest }) (entry.Take lane.Out (item.Out x) ∷ [])
  pub fabric_says : (x : Back) (rest : List Back) → w.fabric.notices ≡ x ∷ rest → P (record w { fabric = record w.fabric { notices = rest; out = w.fabric.out ++ x ∷ [] } }) []
  pub fabric_puts : (x : Back) (rest : List Back) → w.fabric.out ≡ x ∷ rest → P (record w { fabric = record w.fabric { out = rest }; back = w.back ++ x ∷ [] }) (entry.Put lane.Back (item.Back x) ∷ [])
  pub fabric_runs : (tag address : ℕ) → (fab.runs w.fabric tag).answer ≡ Some address → P (record w { fabric = (fab.runs w.fabric tag).part }) (entry.Run address tag ∷ [])
  pub plugs : (address expander phy : ℕ) (t : List Entry) → EachEntry IsPlugWord t → P (record w { fabric = (fab.fabric_plugs w.fabric address expander phy).part }) t
  pub unplugs : (address : ℕ) (t : List Entry) → EachEntry IsPlugWord t → P (record w { fabric = (fab.fabric_unplugs w.fabric address).part }) t
  pub calms : P (record w { fabric = fab.calms w.fabric }) []

module _ (P : World → List Entry → Type 0) (w : World) (plain : NothingIsStrange w) (owes : OwesTold P w) where
  abbrev Kept : Happening World → Type 0
  Kept o = P o.part o.entries

  host_put : (xs : List Down) → w.host.out ≡ xs → Kept (moves_or_idles w choice.HostPut (move.host_puts w xs))
  host_put [] e = owes.idles choice.HostPut
  host_put (x ∷ rest) e = subst (λ h. P (record w { host = h; down = w.down ++ x ∷ [] }) (entry.Put lane.Down (item.Down x) ∷ [])) (sym (ap (λ xs. Rattle.mpt_rules.specs.Host.Returns.sends_first w.host xs) e)) (owes.host_puts x rest e)

  host_took : (i : ℕ) (x : Up) (rest : List Up) → up_on w i ≡ x ∷ rest → (why : Option Why) → why_strange w.host i x ≡ why → (takes_unless w.host i x why).answer ≡ None → Kept (move.host_took (with_up w i rest) i x (takes_unless w.host i x why))
  host_took i x rest e None s a = owes.host_takes i x rest e s
  host_took i x rest e (Some why) s a = cc

  host_take : (c : Choice) (i : ℕ) (xs : List Up) → up_on w i ≡ xs → Kept (moves_or_idles w c (move.host_takes w i xs))
  host_take c i [] e = owes.idles c
  host_take c i (x ∷ rest) e = host_took i x rest e (why_strange w.host i x) refl (plain i x rest e)

  take_above : (i : ℕ) → Kept (moves_or_idles w (choice.HostTakeOn i) (move.host_takes_above w i))
  take_above zero = owes.idles (choice.HostTakeOn 0)
  take_above (suc i) = host_take (choice.HostTakeOn (suc i)) (suc i) (up_on w (suc i)) refl

  ioc_take : (xs : List Down) → w.down ≡ xs → Kept (moves_or_idles w choice.IocTake (move.ioc_takes w xs))
  ioc_take [] e = owes.idles choice.IocTake
  ioc_take (x ∷ rest) e = owes.ioc_takes x rest e

  high : (xs : List Post) → w.ioc.high ≡ xs → Kept (moves_or_idles w choice.IocHigh (move.ioc_works w (step.steps_high_on w.ioc xs)))
  high [] e = owes.idles choice.IocHigh
  high (x ∷ rest) e = owes.ioc_high x rest e

  normal : (xs : List Post) → w.ioc.normal ≡ xs → Kept (moves_or_idles w choice.IocNormal (move.ioc_works w (step.steps_normal_on w.ioc xs)))
  normal [] e = owes.idles choice.IocNormal
  normal (x ∷ rest) e = owes.ioc_normal x rest e

  out_put : (xs : List Out) → w.ioc.out ≡ xs → Kept (moves_or_idles w choice.IocOut (move.ioc_puts_out w (slice_get xs 0)))
  out_put [] e = owes.idles choice.IocOut
  out_put (x ∷ rest) e = subst (λ r. P (record w { ioc = record w.ioc { out = r }; out = w.out ++ x ∷ [] }) (entry.Put lane.Out (item.Out x) ∷ [])) (sym (ap (drop 1) e)) (owes.ioc_puts_out x rest e)

  back_take : (xs : List Back) → w.back ≡ xs → Kept (moves_or_idles w choice.IocBack (move.ioc_takes_back w xs))
  back_take [] e = owes.idles choice.IocBack
  back_take (x ∷ rest) e = owes.ioc_takes_back x rest e

  up_put : (c : Choice) (i : ℕ) (xs : List Said) → outbox_of w.ioc i ≡ xs → Kept (moves_or_idles w c (move.ioc_puts w i (front_up_of (slice_get xs 0) (slice_get w.ioc.ring 0))))
  up_put c i [] e = owes.idles c
  up_put c i (y ∷ rest) e = by_front (up_of y (slice_get w.ioc.ring 0)) refl
    where
      by_front : (o : Option Up) → up_of y (slice_get w.ioc.ring 0) ≡ o → Kept (moves_or_idles w c (move.ioc_puts w i o))
      by_front None h = owes.idles c
      by_front (Some z) h = owes.ioc_puts i y rest z e h

  put_above : (i : ℕ) → Kept (moves_or_idles w (choice.IocPutOn i) (move.ioc_puts_above w i))
  put_above zero = owes.idles (choice.IocPutOn 0)
  put_above (suc i) = up_put (choice.IocPutOn (suc i)) (suc i) (outbox_of w.ioc (suc i)) refl

  out_take : (xs : List Out) → w.out ≡ xs → Kept (moves_or_idles w choice.FabricTake (move.fabric_takes w xs))
  out_take [] e = owes.idles choice.FabricTake
  out_take (x ∷ rest) e = owes.fabric_takes x rest e

  back_put : (xs : List Back) → w.fabric.out ≡ xs → Kept (moves_or_idles w choice.FabricPut (move.fabric_puts w xs))
  back_put [] e = owes.idles choice.FabricPut
  back_put (x ∷ rest) e = subst (λ r. P (record w { fabric = record w.fabric { out = r }; back = w.back ++ x ∷ [] }) (entry.Put lane.Back (item.Back x) ∷ [])) (sym (ap (drop 1) e)) (owes.fabric_puts x rest e)

  say : (xs : List Back) → w.fabric.notices ≡ xs → Kept (moves_or_idles w choice.FabricSay (move.fabric_says w (fab.says_first xs w.fabric)))
  say [] e = owes.idles choice.FabricSay
  say (x ∷ rest) e = owes.fabric_says x rest e

  run : (tag : ℕ) (o : Option ℕ) → (fab.runs w.fabric tag).answer ≡ o → Kept (moves_or_idles w (choice.FabricRun tag) (move.fabric_ran w tag o (fab.runs w.fabric tag).part))
  run tag None e = owes.idles (choice.FabricRun tag)
  run tag (Some address) e = owes.fabric_runs tag address e

  chosen : (c : Choice) → Kept (case_of w (Chosen c))
  chosen choice.HostPut = host_put w.host.out refl
  chosen choice.HostTake = host_take choice.HostTake 0 (up_on w 0) refl
  chosen (choice.HostTakeOn i) = take_above i
  chosen choice.IocTake = ioc_take w.down refl
  chosen choice.IocHigh = high w.ioc.high refl
  chosen choice.IocNormal = normal w.ioc.normal refl
  chosen choice.IocOut = out_put w.ioc.out refl
  chosen choice.IocBack = back_take w.back refl
  chosen choice.IocPut = up_put choice.IocPut 0 (outbox_of w.ioc 0) refl
  chosen (choice.IocPutOn i) = put_above i
  chosen choice.FabricTake = out_take w.out refl
  chosen choice.FabricSay = say w.fabric.notices refl
  chosen choice.FabricPut = back_put w.fabric.out refl
  chosen (choice.FabricRun tag) = run tag (fab.runs w.fabric tag).answer refl

  -- a plug or an unplug leaves the fabric as it answered, and puts and takes nothing
  plugged : (i : Input) → IsPlugWord (entry.Given i) → (r : RefusedCall) (o : Option fab.PlugRefusal) (f : Fabric) → ((t : List Entry) → EachEntry IsPlugWord t → P (record w { fabric = f }) t) → P (record w { fabric = (by_plug i r o f).part }) (by_plug i r o f).entries
  plugged i g r None f h = h (entry.Given i ∷ []) (g, tt)
  plugged i g r (Some fab.PlugRefusal.NoSuchDisk) f h = h [] tt
  plugged i g r (Some fab.PlugRefusal.NoSuchPhy) f h = h [] tt
  plugged i g r (Some fab.PlugRefusal.Occupied) f h = h (entry.Given i ∷ entry.Refuse r _ ∷ []) (g, (tt, tt))
  plugged i g r (Some fab.PlugRefusal.AlreadyPlugged) f h = h (entry.Given i ∷ entry.Refuse r _ ∷ []) (g, (tt, tt))
  plugged i g r (Some fab.PlugRefusal.PlugsSpent) f h = h (entry.Given i ∷ entry.Refuse r _ ∷ []) (g, (tt, tt))
  plugged i g r (Some fab.PlugRefusal.NotPlugged) f h = h (entry.Given i ∷ entry.Refuse r _ ∷ []) (g, (tt, tt))

  told : (i : Input) → Kept (case_of w (Told i))
  told (input.Plug address expander phy) = let o = fab.fabric_plugs w.fabric address expander phy in plugged (input.Plug address expander phy) tt (Rattle.mpt_trace.specs.declared.refusal.RefusedCall.TheVariants.Plug address) o.answer o.part (λ t e. owes.plugs address expander phy t e)
  told (input.Unplug address) = let o = fab.fabric_unplugs w.fabric address in plugged (input.Unplug address) tt (Rattle.mpt_trace.specs.declared.refusal.RefusedCall.TheVariants.Unplug address) o.answer o.part (λ t e. owes.unplugs address t e)
  told input.Start = owes.host_told input.Start tt
  told (input.Submit n address form) = owes.host_told (input.Submit n address form) tt
  told (input.Abort n) = owes.host_told (input.Abort n) tt
  told (input.TargetReset address) = owes.host_told (input.TargetReset address) tt
  told input.Reset = owes.host_told input.Reset tt
  told input.UnitReset = owes.host_told input.UnitReset tt

  looked : (b : Bool) → is_free w.host ≡ b → P (record w { host = looks_if b w.host }) []
  looked true e = owes.host_looks e
  looked false e = owes.no_session

  stopped : (b : Bool) → is_free w.host ≡ b → P (record w { host = stops_if b w.host }) []
  stopped true e = owes.host_stops e
  stopped false e = owes.no_session

  -- so it is of each case
  pub kept_told : (c : Case) → P (happens w c) (entries w c)
  kept_told (Told i) = told i
  kept_told (Chosen c) = chosen c
  kept_told HostLooks = looked (is_free w.host) refl
  kept_told HostStops = stopped (is_free w.host) refl
  kept_told FabricCalms = owes.calms
