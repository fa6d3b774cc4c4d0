-- Each remove device is put where a target reset of its handle was answered.
use Rattle.std.proofs.Common.{◌≡◌, ℕ, ◌||◌, ◌⊎◌, inl, inr, true, List, [], ◌∷◌, length, refl, ap, sym, ◌∙◌, subst, arith}
use Rattle.std.specs.Prelude.{All}
use Rattle.std.proofs.Common.{length-append}
use Rattle.std.proofs.lemmas.List.Elements.{All-head}
use Rattle.smid_pool.specs.Pool.{Open}
use Rattle.mpt_wire.specs.Handles.Leaving.{Answered, LeaveAsks, Leaving, leaving_next}
use Rattle.mpt_wire.specs.Handles.Leaving as rule
use Rattle.mpt_wire.specs.Handles.Names.{removal_posted}
use Rattle.mpt_wire.specs.Machine.Causes.{is_resetting, is_up}
use Rattle.mpt_wire.specs.Messages.Fields.{smid_in}
use Rattle.mpt_wire.specs.Walks.Passes.{EachEntry, Passes}
use Rattle.mpt_trace.specs.declared.entry.Entry.{Entry}
use Rattle.mpt_trace.specs.declared.entry.Entry.TheVariants as entry
use Rattle.mpt_trace.specs.declared.host_state.HostState.{HostState}
use Rattle.mpt_trace.specs.declared.host_state.HostState.TheVariants as state
use Rattle.mpt_trace.specs.declared.item.Down.{Down}
use Rattle.mpt_trace.specs.declared.item.Down.TheVariants as down
use Rattle.mpt_trace.specs.declared.item.Item.TheVariants as item
use Rattle.mpt_trace.specs.declared.item.Up.{Up}
use Rattle.mpt_trace.specs.declared.item.Up.TheVariants as upward
use Rattle.mpt_trace.specs.declared.lane.LaneName.TheVariants as lane
use Rattle.mpt_rules.specs.declared.request.Request.TheVariants as request
use Rattle.mpt_rules.specs.Host.Replies as replies
use Rattle.mpt_rules.specs.Host.Resets as resets
use Rattle.mpt_rules.specs.Host.Takes.{hears_up, is_starting}
use Rattle.mpt_rules.specs.Ioc.Steps as step
use Rattle.mpt_rules.specs.Ioc.Takes as adapter
use Rattle.mpt_rules.specs.Law.{NothingIsStrange}
use Rattle.mpt_rules.specs.World.Cases.{Case, entries}
use Rattle.mpt_rules.specs.World.Counts.{how_many}
use Rattle.mpt_rules.specs.World.Inputs.{host_told}
use Rattle.mpt_rules.specs.World.State.{World, up_lane}
use Rattle.law_facts.specs.Clock.{in_normal}
use Rattle.law_facts.specs.Facts.{Facts}
use Rattle.law_facts.specs.Handles.{LeavingIs, RecordHasPhase}
use Rattle.law_facts.specs.History.{History}
use Rattle.law_facts.specs.Messages.{DownIsRecord, PostIsRecord}
use Rattle.law_facts.specs.Words.{is_off, is_post}
use Rattle.law_flights.proofs.HostTold.{ends_reset_told, told_input, told_reply_to}
use Rattle.law_flights.proofs.IocTold.{told_back, told_down, told_high, told_normal}
use Rattle.law_flights.proofs.Told.{IsTold}
use Rattle.law_messages.proofs.Agreeing.{all_last}
use Rattle.law_moves.proofs.CasesTold.{OwesTold, kept_told}
use Rattle.law_moves.proofs.Counted.{how_many-cons}
use Rattle.law_targets.proofs.Views as view
use Rattle.law_targets.proofs.Views.{Hears, Over, Stays}
use Rattle.law_leaving.proofs.News.{ended_passes, plug_told, put_asks, removal_named, take_asks, told_lets_pass}

pub which_mode : (m : HostState) → ((is_off m ≡ true) ⊎ (is_resetting m ≡ true)) ⊎ ((is_starting m || is_up m) ≡ true)
which_mode state.Off = inl (inl refl)
which_mode state.Starting = inr refl
which_mode state.Up = inr refl
which_mode state.Resetting = inl (inr refl)

module _ (w : World) (h : History) (f : Facts w h) where
  -- a post that the host puts
  pub out_record : (d : ℕ) (fr p : List ℕ) (rest : List Down) → w.host.out ≡ down.Post d fr p ∷ rest → PostIsRecord w h (record { descriptor = d; frame = fr; payload = p })
  out_record d fr p rest e = All-head (DownIsRecord w h) (down.Post d fr p) rest (subst (All (DownIsRecord w h)) e (all_last (DownIsRecord w h) w.down w.host.out f.messages.down))

  -- the host starts or is up then
  pub posting : (d : ℕ) (fr p : List ℕ) (rest : List Down) → w.host.out ≡ down.Post d fr p ∷ rest → in_normal w ≡ true
  posting d fr p rest e = by_mode (which_mode w.host.mode)
    where
      by_mode : ((is_off w.host.mode ≡ true) ⊎ (is_resetting w.host.mode ≡ true)) ⊎ ((is_starting w.host.mode || is_up w.host.mode) ≡ true) → in_normal w ≡ true
      by_mode (inr x) = x
      by_mode (inl (inl o)) = let z = (f.clock.phase_table.off o).down in let a = length-append w.down w.host.out in absurd (omega (arith, z, a, ap length e))
      by_mode (inl (inr o)) = let z = f.clock.loads_before_reset.outbox o in let a = ap (how_many is_post) e in let c = how_many-cons is_post (down.Post d fr p) rest in absurd (omega (arith, z, a, c))

module _ (w : World) (h : History) (f : Facts w h) (plain : NothingIsStrange w) (g : ℕ) where
  abbrev Lets : List Entry → Type 0
  Lets t = Passes (leaving_next g) (LeaveAsks g) (h.leaving g) t

  OnLeft : World → List Entry → Type 0
  OnLeft v t = Lets t

  answered : (d : ℕ) (fr p : List ℕ) (rest : List Down) → w.host.out ≡ down.Post d fr p ∷ rest → rule.names_handle g (removal_posted (down.Post d fr p)) ≡ true → h.leaving g ≡ Answered
  answered d fr p rest e t =
      let n = posting w h f d fr p rest e in
      let r = removal_named w h f (record { descriptor = d; frame = fr; payload = p }) (out_record w h f d fr p rest e) g t in
      let k : RecordHasPhase w (smid_in d) (Open (request.Remove g)) = subst (RecordHasPhase w (smid_in d)) r (f.handles.records n (smid_in d)) in
      subst (LeavingIs w (h.leaving g)) k.1 ((f.handles.each g k.0).known.leaving n)

  put : (x : Down) (rest : List Down) → w.host.out ≡ x ∷ rest → Lets (entry.Put lane.Down (item.Down x) ∷ [])
  put (down.Post d fr p) rest e = (put_asks g (h.leaving g) d fr p (answered d fr p rest e), tt)
  put (down.Write reg value) rest e = (tt, tt)
  put (down.Read reg) rest e = (tt, tt)
  put (down.Return address index) rest e = (tt, tt)
  put down.Stop rest e = (tt, tt)

  heard : (l : Leaving) (t : List Entry) → (EachEntry IsTold t) ⊎ ((j : Rattle.mpt_rules.specs.Host.Parts.Host) × (t ≡ resets.reset_told j)) → Passes (leaving_next g) (LeaveAsks g) l t
  heard l t (inl a) = told_lets_pass g l t a
  heard l t (inr (j, e)) = let r = ends_reset_told j in subst (Passes (leaving_next g) (LeaveAsks g) l) (sym (e ∙ r.is)) (ended_passes g l r.told r.are_told)

  words : (x : Up) (queue : ℕ) → (EachEntry IsTold (hears_up w.host queue x).entries) ⊎ ((j : Rattle.mpt_rules.specs.Host.Parts.Host) × ((hears_up w.host queue x).entries ≡ resets.reset_told j))
  words (upward.Reply d fr page sense) queue = inl (told_reply_to (replies.takes_entry (replies.with_frame_heard w.host d fr) queue) (smid_in d) (replies.request_of w.host (smid_in d)) (replies.heard_of d fr page sense))
  words (upward.Value value) queue = of_hears (hears_up w.host queue (upward.Value value)) (view.value w.host value)
    where
      of_hears : (o : Rattle.mpt_rules.specs.Outcome.Happening Rattle.mpt_rules.specs.Host.Parts.Host) → Hears w.host o → (EachEntry IsTold o.entries) ⊎ ((j : Rattle.mpt_rules.specs.Host.Parts.Host) × (o.entries ≡ resets.reset_told j))
      of_hears o (Stays s e) = inl (subst (EachEntry IsTold) (sym e) tt)
      of_hears o (Over j p e) = inr (j, e)
  words (upward.Mark generation) queue = of_hears (hears_up w.host queue (upward.Mark generation)) (view.mark w.host queue)
    where
      of_hears : (o : Rattle.mpt_rules.specs.Outcome.Happening Rattle.mpt_rules.specs.Host.Parts.Host) → Hears w.host o → (EachEntry IsTold o.entries) ⊎ ((j : Rattle.mpt_rules.specs.Host.Parts.Host) × (o.entries ≡ resets.reset_told j))
      of_hears o (Stays s e) = inl (subst (EachEntry IsTold) (sym e) tt)
      of_hears o (Over j p e) = inr (j, e)
  words upward.Calm queue = inl tt

  owes : OwesTold OnLeft w
  unfolding OnLeft
  owes =
      record {
        idles = λ c. (tt, tt);
        host_puts = λ x rest e. put x rest e;
        host_takes = λ queue x rest e y. (take_asks g (h.leaving g) (up_lane queue) x, heard (leaving_next g (h.leaving g) (entry.Take (up_lane queue) (item.Up x))) (hears_up w.host queue x).entries (words x queue));
        host_told = λ i c. told_lets_pass g (h.leaving g) (host_told w.host i).entries (told_input w.host i);
        host_looks = λ e. tt;
        host_stops = λ e. tt;
        no_session = tt;
        ioc_takes = λ x rest e. (tt, told_lets_pass g (h.leaving g) (adapter.takes_down w.ioc x).entries (told_down w.ioc x));
        ioc_high = λ p rest e. told_lets_pass g (h.leaving g) (step.works_on (record w.ioc { high = rest }) p).entries (told_high w.ioc (p ∷ rest));
        ioc_normal = λ p rest e. told_lets_pass g (h.leaving g) (step.works_on (record w.ioc { normal = rest }) p).entries (told_normal w.ioc (p ∷ rest));
        ioc_puts_out = λ x rest e. (tt, tt);
        ioc_takes_back = λ x rest e. (tt, told_lets_pass g (h.leaving g) (adapter.takes_back w.ioc x).entries (told_back w.ioc x));
        ioc_puts = λ queue y rest z e u. (tt, tt);
        fabric_takes = λ x rest e. (tt, tt);
        fabric_says = λ x rest e. tt;
        fabric_puts = λ x rest e. (tt, tt);
        fabric_runs = λ tag address e. (tt, tt);
        plugs = λ address expander phy t p. told_lets_pass g (h.leaving g) t (plug_told t p);
        unplugs = λ address t p. told_lets_pass g (h.leaving g) t (plug_told t p);
        calms = tt;
      }

  pub leaving_passes : (c : Case) → Passes (leaving_next g) (LeaveAsks g) (h.leaving g) (entries w c)
  unfolding OnLeft
  leaving_passes c = kept_told OnLeft w plain owes c
