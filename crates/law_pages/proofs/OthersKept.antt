-- The rule of pages knows no page of what is no disk's handle.
use Rattle.std.proofs.Common.{◌≡◌, ℕ, ◌⊎◌, inl, inr, Bool, true, false, List, [], ◌∷◌, ◌++◌, Option, Some, None, option_map, refl, ap, sym, ◌∙◌, subst}
use Rattle.mpt_wire.specs.Handles.Bindings.{Plug}
use Rattle.mpt_wire.specs.Handles.Pages.{pages_taken}
use Rattle.mpt_wire.specs.Machine.Causes.{is_resetting}
use Rattle.mpt_wire.specs.Messages.Fields.{smid_in}
use Rattle.mpt_wire.specs.Walks.Passes.{EachEntry}
use Rattle.mpt_trace.specs.declared.entry.Entry.{Entry}
use Rattle.mpt_trace.specs.declared.entry.Entry.TheVariants as entry
use Rattle.mpt_trace.specs.declared.item.Down.{Down}
use Rattle.mpt_trace.specs.declared.item.Down.TheVariants as down
use Rattle.mpt_trace.specs.declared.item.Item.TheVariants as item
use Rattle.mpt_trace.specs.declared.item.Up.{Up}
use Rattle.mpt_trace.specs.declared.item.Up.TheVariants as upward
use Rattle.mpt_trace.specs.declared.lane.LaneName.TheVariants as lane
use Rattle.mpt_rules.specs.Fabric.Calls as fab
use Rattle.mpt_rules.specs.Host.Replies as replies
use Rattle.mpt_rules.specs.Host.Returns.{after_sent}
use Rattle.mpt_rules.specs.Host.Takes.{hears_up, looks, stops}
use Rattle.mpt_rules.specs.Ioc.Steps as step
use Rattle.mpt_rules.specs.Ioc.Takes as adapter
use Rattle.mpt_rules.specs.Law.{NothingIsStrange}
use Rattle.mpt_rules.specs.World.Cases.{Case, entries, happens}
use Rattle.mpt_rules.specs.World.Inputs.{host_told}
use Rattle.mpt_rules.specs.World.Settings.{Setting, first_world}
use Rattle.mpt_rules.specs.World.State.{World, up_lane, up_on, with_up}
use Rattle.law_facts.specs.Facts.{Facts}
use Rattle.law_facts.specs.History.{History, first_history, history_after}
use Rattle.law_flights.proofs.IocTold.{told_back, told_down, told_high, told_normal}
use Rattle.law_handles.proofs.HostSays.{ends_reset_told, told_input, told_reply_to}
use Rattle.law_messages.proofs.Agreeing.{not_both}
use Rattle.law_moves.proofs.CasesTold.{OwesTold, kept_told}
use Rattle.law_pages.specs.Paged.{OtherPagesUnknown}
use Rattle.law_pages.proofs.Taken.{bound_at, known_or_bound}
use Rattle.law_targets.proofs.Heard as trace
use Rattle.law_targets.proofs.Heard.{Dull}
use Rattle.law_targets.proofs.KnownKept.{mode_reply}
use Rattle.law_targets.proofs.Views as view
use Rattle.law_targets.proofs.Views.{Hears, Over, Stays}

pub others_at_first : (s : Setting) → OtherPagesUnknown (first_world s) (first_history s.disks)
others_at_first s m j a n = refl

module _ (w : World) (h : History) (f : Facts w h) (plain : NothingIsStrange w) (other : OtherPagesUnknown w h) where
  abbrev OnOthers : World → List Entry → Type 0
  OnOthers v t = OtherPagesUnknown v (history_after h t)

  -- entries that tell nothing of handles
  dull : (v : World) (t : List Entry) → EachEntry Dull t → (is_resetting v.host.mode ≡ false → is_resetting w.host.mode ≡ false) → OnOthers v t
  dull v t d e m j a n = ap (λ z. z j a) (trace.dull_pages t h.paged d) ∙ other (e m) j a n

  -- an item without a page
  silent : (queue : ℕ) (x : Up) (rest : List Up) → ((j a : ℕ) → pages_taken h.paged.pages x j a ≡ h.paged.pages j a) → Hears w.host (hears_up w.host queue x)
      → OnOthers (record (with_up w queue rest) { host = (hears_up w.host queue x).part }) (entry.Take (up_lane queue) (item.Up x) ∷ (hears_up w.host queue x).entries)
  silent queue x rest s (Stays k e) m j a n =
      let d : EachEntry Dull (hears_up w.host queue x).entries = subst (EachEntry Dull) (sym e) tt in
      ap (λ r. r j a) (trace.taken_pages queue x (hears_up w.host queue x).entries h.paged d) ∙ (s j a ∙ other (ap is_resetting (sym k.mode) ∙ m) j a n)
  silent queue x rest s (Over k p e) m j a n =
      let r = ends_reset_told k in
      let t : entry.Take (up_lane queue) (item.Up x) ∷ (hears_up w.host queue x).entries ≡ (entry.Take (up_lane queue) (item.Up x) ∷ r.told) ++ entry.ResetDone ∷ [] = ap (λ q. entry.Take (up_lane queue) (item.Up x) ∷ q) (e ∙ r.is) in
      ap (λ l. (history_after h l).paged.pages j a) t ∙ ap (λ q. q j a) (trace.over_pages (entry.Take (up_lane queue) (item.Up x) ∷ r.told) h.paged)

  reply : (queue d : ℕ) (fr : Option (List ℕ)) (page sense : List ℕ) (rest : List Up) → up_on w queue ≡ upward.Reply d fr page sense ∷ rest
      → OnOthers (record (with_up w queue rest) { host = (hears_up w.host queue (upward.Reply d fr page sense)).part }) (entry.Take (up_lane queue) (item.Up (upward.Reply d fr page sense)) ∷ (hears_up w.host queue (upward.Reply d fr page sense)).entries)
  reply queue d fr page sense rest front m j a n = by_mode (is_resetting w.host.mode) refl
    where
      x : Up
      x = upward.Reply d fr page sense

      told_dull : EachEntry Dull (hears_up w.host queue x).entries
      told_dull =
          trace.told_dull (hears_up w.host queue x).entries
          (told_reply_to (replies.takes_entry (replies.with_frame_heard w.host d fr) queue) (smid_in d) (replies.request_of w.host (smid_in d)) (replies.heard_of d fr page sense))

      by_known : is_resetting w.host.mode ≡ false → (b : Bool) → pages_taken h.paged.pages x j a ≡ b → ((h.paged.pages j a ≡ true) ⊎ (bound_at h j ≡ Some a) → b ≡ false) → b ≡ false
      by_known z false t k = refl
      by_known z true t k = k (known_or_bound w h f queue d fr page sense rest front z j a t)

      neither : is_resetting w.host.mode ≡ false → {T : Type 0} → (h.paged.pages j a ≡ true) ⊎ (bound_at h j ≡ Some a) → T
      neither z (inl e) = not_both (h.paged.pages j a) (other z j a n) e
      neither z (inr e) = let y : None ≡ Some a = sym (ap (option_map (λ (p : Plug). p.address)) (f.handles.outside j n)) ∙ e in absurd (cc)

      by_mode : (b : Bool) → is_resetting w.host.mode ≡ b → (history_after h (entry.Take (up_lane queue) (item.Up x) ∷ (hears_up w.host queue x).entries)).paged.pages j a ≡ false
      by_mode false z = ap (λ r. r j a) (trace.taken_pages queue x (hears_up w.host queue x).entries h.paged told_dull) ∙ by_known z (pages_taken h.paged.pages x j a) refl (λ k. neither z k)
      by_mode true z =
          let l = view.framed w.host queue d fr in
          let k = mode_reply (replies.takes_entry (replies.with_frame_heard w.host d fr) queue) (smid_in d) (replies.request_of w.host (smid_in d)) (replies.heard_of d fr page sense) (ap is_resetting l.mode ∙ z) in
          not_both (is_resetting (hears_up w.host queue (upward.Reply d fr page sense)).part.mode) m (ap is_resetting k ∙ (ap is_resetting l.mode ∙ z))

  taken : (queue : ℕ) (x : Up) (rest : List Up) → up_on w queue ≡ x ∷ rest → OnOthers (record (with_up w queue rest) { host = (hears_up w.host queue x).part }) (entry.Take (up_lane queue) (item.Up x) ∷ (hears_up w.host queue x).entries)
  taken queue (upward.Value v) rest e = silent queue (upward.Value v) rest (λ j a. refl) (view.value w.host v)
  taken queue (upward.Mark v) rest e = silent queue (upward.Mark v) rest (λ j a. refl) (view.mark w.host queue)
  taken queue upward.Calm rest e = silent queue upward.Calm rest (λ j a. refl) (Stays (record { phases = refl; mode = refl }) refl)
  taken queue (upward.Reply d fr page sense) rest e = reply queue d fr page sense rest e

  sent_mode : (x : Down) (rest : List Down) → (after_sent w.host x rest).mode ≡ w.host.mode
  sent_mode (down.Post d g p) rest = refl
  sent_mode (down.Write reg value) rest = refl
  sent_mode (down.Read reg) rest = refl
  sent_mode (down.Return address index) rest = refl
  sent_mode down.Stop rest = refl

  owes : OwesTold OnOthers w
  owes =
      record {
        idles = λ c. dull w (entry.Idle c ∷ []) (tt, tt) (λ m. m);
        host_puts = λ x rest e. dull (record w { host = after_sent w.host x rest; down = w.down ++ x ∷ [] }) (entry.Put lane.Down (item.Down x) ∷ []) (tt, tt) (λ m. sym (ap is_resetting (sent_mode x rest)) ∙ m);
        host_takes = λ queue x rest e y. taken queue x rest e;
        host_told = λ i c. dull (record w { host = (host_told w.host i).part }) (host_told w.host i).entries (trace.told_dull (host_told w.host i).entries (told_input w.host i)) (view.told w.host i c).before;
        host_looks = λ e. dull (record w { host = looks w.host }) [] tt (λ m. ap is_resetting (sym (view.looks_still w.host).mode) ∙ m);
        host_stops = λ e. dull (record w { host = stops w.host }) [] tt (λ m. ap is_resetting (sym (view.stops_still w.host).mode) ∙ m);
        no_session = dull w [] tt (λ m. m);
        ioc_takes = λ x rest e. dull (record w { ioc = (adapter.takes_down w.ioc x).part; down = rest }) (entry.Take lane.Down (item.Down x) ∷ (adapter.takes_down w.ioc x).entries) (tt, trace.moved_dull (adapter.takes_down w.ioc x).entries (told_down w.ioc x)) (λ m. m);
        ioc_high = λ p rest e. dull (record w { ioc = (step.works_on (record w.ioc { high = rest }) p).part }) (step.works_on (record w.ioc { high = rest }) p).entries (trace.moved_dull (step.works_on (record w.ioc { high = rest }) p).entries (told_high w.ioc (p ∷ rest))) (λ m. m);
        ioc_normal = λ p rest e. dull (record w { ioc = (step.works_on (record w.ioc { normal = rest }) p).part }) (step.works_on (record w.ioc { normal = rest }) p).entries (trace.moved_dull (step.works_on (record w.ioc { normal = rest }) p).entries (told_normal w.ioc (p ∷ rest))) (λ m. m);
        ioc_puts_out = λ x rest e. dull (record w { ioc = record w.ioc { out = rest }; out = w.out ++ x ∷ [] }) (entry.Put lane.Out (item.Out x) ∷ []) (tt, tt) (λ m. m);
        ioc_takes_back = λ x rest e. dull (record w { ioc = (adapter.takes_back w.ioc x).part; back = rest }) (entry.Take lane.Back (item.Back x) ∷ (adapter.takes_back w.ioc x).entries) (tt, trace.moved_dull (adapter.takes_back w.ioc x).entries (told_back w.ioc x)) (λ m. m);
        ioc_puts = λ queue y rest z e u. dull (with_up (record w { ioc = adapter.up_sent_on w.ioc queue }) queue (up_on w queue ++ z ∷ [])) (entry.Put (up_lane queue) (item.Up z) ∷ []) (tt, tt) (λ m. m);
        fabric_takes = λ x rest e. dull (record w { fabric = fab.takes_out w.fabric x; out = rest }) (entry.Take lane.Out (item.Out x) ∷ []) (tt, tt) (λ m. m);
        fabric_says = λ x rest e. dull (record w { fabric = record w.fabric { notices = rest; out = w.fabric.out ++ x ∷ [] } }) [] tt (λ m. m);
        fabric_puts = λ x rest e. dull (record w { fabric = record w.fabric { out = rest }; back = w.back ++ x ∷ [] }) (entry.Put lane.Back (item.Back x) ∷ []) (tt, tt) (λ m. m);
        fabric_runs = λ tag address e. dull (record w { fabric = (fab.runs w.fabric tag).part }) (entry.Run address tag ∷ []) (tt, tt) (λ m. m);
        plugs = λ address expander phy t p. dull (record w { fabric = (fab.fabric_plugs w.fabric address expander phy).part }) t (trace.plug_dull t p) (λ m. m);
        unplugs = λ address t p. dull (record w { fabric = (fab.fabric_unplugs w.fabric address).part }) t (trace.plug_dull t p) (λ m. m);
        calms = dull (record w { fabric = fab.calms w.fabric }) [] tt (λ m. m);
      }

  pub others_kept : (c : Case) → OtherPagesUnknown (happens w c) (history_after h (entries w c))
  others_kept c = kept_told OnOthers w plain owes c
