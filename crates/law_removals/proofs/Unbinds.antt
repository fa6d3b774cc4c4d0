-- Each handle that is freed is that of a remove device that was taken and isn't answered.
use Rattle.std.proofs.Common.{◌≡◌, ◌≢◌, ℕ, ◌-◌, ◌%◌, ◌≤◌, ◌<◌, ◌^◌, ◌==◌, mod-lt, List, [], ◌∷◌, Option, Some, None, get_or, refl, ap, sym, ◌∙◌, subst, arith}
use Rattle.std.specs.Prelude.{All}
use Rattle.std.specs.FinMap as finmap
use Rattle.std.proofs.lemmas.List.Elements.{All-head}
use Rattle.config_pages.specs.ConfigAsk.{config_ask_layout, config_ask_values}
use Rattle.event_msgs.specs.EventAck.{event_ack_layout, event_ack_values}
use Rattle.event_msgs.specs.EventAsk.{event_ask_layout, event_ask_values}
use Rattle.ioc_msgs.specs.PortEnable.{port_enable_layout, port_enable_values}
use Rattle.smid_pool.specs.Pool.{Slot, Free, Open, Parked}
use Rattle.removal.specs.Handles.{IsHandle}
use Rattle.mpi_doorbell.specs.DoorRegisters.{register_written}
use Rattle.mpi_doorbell.specs.declared.effect.Effect.{Effect}
use Rattle.mpi_doorbell.specs.declared.effect.Effect.TheVariants as effect
use Rattle.mpi_rings.specs.declared.request_descriptor.PostKind.TheVariants as post
use Rattle.mpi_rings.specs.RequestDescriptor.{flags_of}
use Rattle.mpt_messages.specs.Function.{function_of}
use Rattle.mpt_messages.specs.declared.function.Function.{Function}
use Rattle.mpt_messages.specs.declared.function.Function.TheVariants as function
use Rattle.mpt_messages.specs.declared.host_ask.HostAsk.TheVariants as ask
use Rattle.mpt_messages.proofs.FrameStands.{host_frame_stands}
use Rattle.mpt_messages.proofs.HostFits.{ack_fits, notification_fits, page_fits, port_enable_fits}
use Rattle.mpt_wire.specs.Handles.Removals.{UnbindAsks, removals_next}
use Rattle.mpt_wire.specs.Machine.State.{OpenRequest}
use Rattle.mpt_wire.specs.Messages.Fields.{controlled_handle_in, flags_in, function_in, kind_by_flags, kind_in, post_descriptor, smid_in}
use Rattle.mpt_wire.specs.Walks.Passes.{EachEntry, Passes}
use Rattle.mpt_trace.specs.declared.entry.Entry.{Entry}
use Rattle.mpt_trace.specs.declared.entry.Entry.TheVariants as entry
use Rattle.mpt_trace.specs.declared.item.Back.{Back}
use Rattle.mpt_trace.specs.declared.item.Down.{Down}
use Rattle.mpt_trace.specs.declared.item.Down.TheVariants as down
use Rattle.mpt_trace.specs.declared.item.Item.TheVariants as item
use Rattle.mpt_trace.specs.declared.lane.LaneName.TheVariants as lane
use Rattle.mpt_rules.specs.declared.binding.Waiting.{Waiting}
use Rattle.mpt_rules.specs.declared.post.Post.{Post}
use Rattle.mpt_rules.specs.declared.request.Request.{Request}
use Rattle.mpt_rules.specs.declared.request.Request.TheVariants as request
use Rattle.mpt_rules.specs.Outcome.{Happening}
use Rattle.mpt_rules.specs.Host.Parts.{Cmd, host_queue_count}
use Rattle.mpt_rules.specs.Host.Posts.{frame_asked}
use Rattle.mpt_rules.specs.Host.Takes.{hears_up}
use Rattle.mpt_rules.specs.Ioc.Back as news
use Rattle.mpt_rules.specs.Ioc.Bindings as bind
use Rattle.mpt_rules.specs.Ioc.Parts.{Ioc}
use Rattle.mpt_rules.specs.Ioc.Registers as registers
use Rattle.mpt_rules.specs.Ioc.Requests as asked
use Rattle.mpt_rules.specs.Ioc.Takes as adapter
use Rattle.mpt_rules.specs.Law.{NothingIsStrange}
use Rattle.mpt_rules.specs.World.Cases.{Case, entries}
use Rattle.mpt_rules.specs.World.Counts.{one_if, queued_count}
use Rattle.mpt_rules.specs.World.Inputs.{host_told}
use Rattle.mpt_rules.specs.World.Lines.{is_high}
use Rattle.mpt_rules.specs.World.State.{World}
use Rattle.mpt_rules.proofs.Counts.{queued_count-cons}
use Rattle.law_facts.specs.Facts.{Facts}
use Rattle.law_facts.specs.Handles.{RemovalIsKnown}
use Rattle.law_facts.specs.History.{History}
use Rattle.law_facts.specs.Messages.{CommandPost, PostIs, PostIsRecord}
use Rattle.law_facts.specs.Words.{others, slot}
use Rattle.law_flights.proofs.Descriptors.{kind_posted}
use Rattle.law_flights.proofs.Leaves.{Bound, Calmed, Done, Ended, Hears, Linked, Lost, Passed, Unawaited, Waits, back_leaf}
use Rattle.law_flights.proofs.WorkLeaves.{AbortEnds, AbortSends, Acks, Dropped, Enables, EndsPlainly, Notifies, PageEnds, PageGiven, Refuses, RemovalEnds, Removes, ResetEnds, ResetHolds, ResetSends, ScsiEnds, ScsiSends, Stops, Strays, TaskFails, Works, works_leaf}
use Rattle.law_handles.proofs.HostSays.{told_input}
use Rattle.law_handles.proofs.HostSilent.{quiet, quiet_taken}
use Rattle.law_handles.proofs.LifeRemoves.{equal_keys}
use Rattle.law_handles.proofs.Plugged.{front_passes}
use Rattle.law_handles.proofs.Silent.{IsQuiet}
use Rattle.law_moves.proofs.CasesTold.{IsPlugWord, OwesTold, kept_told}
use Rattle.law_removals.proofs.Behind.{in_range}
use Rattle.law_removals.proofs.Removed.{record_fits, removal_frame}

abbrev Pass : (ℕ → Option ℕ) → List Entry → Type 0
Pass r t = Passes removals_next UnbindAsks r t

-- ---- entries that free no handle

abbrev FreesNone : Entry → Type 0
FreesNone (entry.Unbind handle) = ⊥
FreesNone e = Unit {0}

one_asks : (r : ℕ → Option ℕ) (e : Entry) → FreesNone e → UnbindAsks r e
one_asks r (entry.Unbind handle) n = absurd n
one_asks r e n = tt

each_asks : (Q : Entry → Type 0) → ((e : Entry) → Q e → FreesNone e) → (t : List Entry) → EachEntry Q t → (r : ℕ → Option ℕ) → Pass r t
each_asks Q n [] q r = tt
each_asks Q n (e ∷ t) q r = (one_asks r e (n e q.0), each_asks Q n t q.1 (removals_next r e))

quiet_frees : (e : Entry) → IsQuiet e → FreesNone e
quiet_frees (entry.Unbind handle) q = q
quiet_frees e q = tt

plug_frees : (e : Entry) → IsPlugWord e → FreesNone e
plug_frees (entry.Unbind handle) q = absurd q
plug_frees e q = tt

binds_pass : (i : Ioc) (disk : Waiting) (o : Option ℕ) (r : ℕ → Option ℕ) → Pass r (bind.binds_to i disk o).entries
binds_pass i disk None r = tt
binds_pass i disk (Some handle) r = (tt, tt)

first_pass : (i : Ioc) (ds : List Waiting) (r : ℕ → Option ℕ) → Pass r (bind.binds_first i ds).entries
first_pass i [] r = tt
first_pass i (d ∷ ds) r = binds_pass (record i { waiting = ds }) d (Rattle.mpt_rules.specs.Ioc.Tables.least_unbound (record i { waiting = ds })) r

to : (r : ℕ → Option ℕ) (o x : Happening Ioc) → o ≡ x → Pass r x.entries → Pass r o.entries
to r o x e p = subst (λ (y : Happening Ioc). Pass r y.entries) (sym e) p

heard : (i : Ioc) (r : ℕ → Option ℕ) (x : Back) (o : Happening Ioc) → Hears i x o → Pass r o.entries
heard i r x o (Passed e) = to r o _ e tt
heard i r x o (Ended tag handle queue len written q e) = to r o _ e tt
heard i r x o (Done smid q answer z e) = to r o _ e tt
heard i r x o (Bound disk handle l k e) = to r o _ e (tt, tt)
heard i r x o (Waits disk l k e) = to r o _ e tt
heard i r x o (Lost handle address plug expander phy b e) = to r o _ e tt
heard i r x o (Unawaited address u e) = to r o _ e tt
heard i r x o (Linked generation q e) = to r o _ e tt
heard i r x o (Calmed e) = to r o _ e tt

-- a work step, where what it frees is known
worked : (i : Ioc) (r : ℕ → Option ℕ) (p : Post) (o : Happening Ioc) → (kind_in p.descriptor ≡ Some post.Default → function_of (function_in p.frame) ≡ Some function.UnitControl → r (smid_in p.descriptor) ≡ Some (controlled_handle_in p.frame)) → Works i p o → Pass r o.entries
worked i r p o n (Dropped k e) = to r o _ e tt
worked i r p o n (Refuses k f d q e) = to r o _ e tt
worked i r p o n (ScsiEnds status k c e) = to r o _ e tt
worked i r p o n (ScsiSends address plug expander phy k c b e) = to r o _ e tt
worked i r p o n (Stops stop k f e) = to r o _ e tt
worked i r p o n (AbortSends k f t e) = to r o _ e tt
worked i r p o n (AbortEnds k f t e) = to r o _ e tt
worked i r p o n (ResetSends address plug expander phy k b e) = to r o _ e tt
worked i r p o n (ResetHolds address k b t e) = to r o _ e tt
worked i r p o n (ResetEnds status k e) = to r o _ e tt
worked i r p o n (TaskFails k e) = to r o _ e tt
worked i r p o n (PageEnds status k e) = to r o _ e tt
worked i r p o n (PageGiven page k w e) = to r o _ e tt
worked i r p o n (Enables k m e) = to r o _ e tt
worked i r p o n (Notifies k e) = to r o _ e tt
worked i r p o n (Acks k t e) = to r o _ e tt
worked i r p o n (EndsPlainly f status k e) = to r o _ e tt
worked i r p o n (RemovalEnds status k e) = to r o _ e tt
worked i r p o n (Removes address k f b c e) =
    to r o (asked.removes i p) e
    ((smid_in p.descriptor, n k f), first_pass (asked.ioc_ends_removal (Rattle.mpt_rules.specs.Ioc.Tables.with_binding i (controlled_handle_in p.frame) Rattle.mpt_rules.specs.declared.binding.Binding.TheVariants.Unbound) p Rattle.mpt_rules.specs.declared.status.TheConstants.IOC_STATUS_SUCCESS) i.waiting r)
worked i r p o n (Strays k q e) = to r o _ e tt

-- ---- functions of other posts

function_of_page : (s g : ℕ) → s ≤ 280 → g < 2 ^ 16 → function_of (function_in (frame_asked (ask.PageRead s g))) ≡ Some function.Config
unfolding config_ask_layout config_ask_values
function_of_page s g a l = ap (λ vs. function_of (get_or vs 3 0)) (host_frame_stands (ask.PageRead s g) (page_fits s g a l)).numbers

function_of_ack : (event context : ℕ) → event < 2 ^ 16 → context < 2 ^ 32 → function_of (function_in (frame_asked (ask.Ack event context))) ≡ Some function.EventAck
unfolding event_ack_layout event_ack_values
function_of_ack event context a l = ap (λ vs. function_of (get_or vs 2 0)) (host_frame_stands (ask.Ack event context) (ack_fits event context a l)).numbers

function_of_notification : function_of (function_in (frame_asked ask.Notification)) ≡ Some function.EventNotification
unfolding event_ask_layout event_ask_values
function_of_notification = ap (λ vs. function_of (get_or vs 2 0)) (host_frame_stands ask.Notification notification_fits).numbers

function_of_enable : function_of (function_in (frame_asked ask.PortEnable)) ≡ Some function.PortEnable
unfolding port_enable_layout port_enable_values
function_of_enable = ap (λ vs. function_of (get_or vs 2 0)) (host_frame_stands ask.PortEnable port_enable_fits).numbers

-- the post of a remove device
abbrev pub IsRemovalPost : World → Post → Type 0
IsRemovalPost w q = (g : ℕ) × (slot w.host (smid_in q.descriptor) ≡ Open (request.Remove g)) × (q.frame ≡ frame_asked (ask.Remove g))

module _ (w : World) (h : History) (f : Facts w h) where
  high_kind : (q : Post) (r : Request) → slot w.host (smid_in q.descriptor) ≡ Open r → q.descriptor ≡ post_descriptor post.HighPriority 0 (smid_in q.descriptor) 0 → kind_in q.descriptor ≡ Some post.HighPriority
  high_kind q r o e = let b = (in_range w h f (smid_in q.descriptor) r o).1 in let l : smid_in q.descriptor < 65536 = omega (arith, b) in ap kind_in e ∙ kind_posted post.HighPriority 0 (smid_in q.descriptor) 0 (omega arith) l

  command_kind : (q : Post) (n : ℕ) (c : Option Cmd) (r : Option OpenRequest) → finmap.get w.host.cmds n ≡ c → CommandPost w q c r → kind_in q.descriptor ≡ Some post.ScsiIo
  command_kind q n None r e k = absurd k
  command_kind q n (Some c) None e k = absurd k
  command_kind q n (Some c) (Some r) e k =
      let b = (in_range w h f c.smid (request.Command n) ((f.flights.numbers n).command c e)).1 in
      let l : c.smid < 65536 = omega (arith, b) in
      let u = f.flights.sizes.some_queue in let v = f.flights.sizes.few_queues in
      let m : (c.smid - 1) % host_queue_count w.host < 256 = (let pos : 0 < host_queue_count w.host = omega (arith, u) in let z = mod-lt (c.smid - 1) pos in omega (arith, z, v)) in
      ap kind_in k.0 ∙ kind_posted post.ScsiIo ((c.smid - 1) % host_queue_count w.host) c.smid c.handle m l

  -- a post that is worked on as a remove device is of a removal's record
  pub of_removal : (q : Post) → PostIsRecord w h q → kind_in q.descriptor ≡ Some post.Default → function_of (function_in q.frame) ≡ Some function.UnitControl → IsRemovalPost w q
  of_removal q k d u = by_slot (slot w.host (smid_in q.descriptor)) refl k
    where
      apart : (x : Function) → function_of (function_in q.frame) ≡ Some x → x ≢ function.UnitControl → IsRemovalPost w q
      apart x e n = absurd (n (cc))

      by_slot : (y : Slot Request) → slot w.host (smid_in q.descriptor) ≡ y → PostIs w h q y → IsRemovalPost w q
      by_slot (Open (request.Remove g)) o k = (g, o, k.1)
      by_slot (Open (request.Command n)) o k = (let z = command_kind q n (finmap.get w.host.cmds n) (finmap.get h.machine.requests n) refl k in absurd (cc))
      by_slot (Open (request.Abort n t)) o k = (let z = high_kind q (request.Abort n t) o k.0.0 in absurd (cc))
      by_slot (Open (request.TargetReset a)) o k = (let z = high_kind q (request.TargetReset a) o k.0 in absurd (cc))
      by_slot (Open (request.Leave g)) o k = (let z = high_kind q (request.Leave g) o k.0.0 in absurd (cc))
      by_slot (Open (request.Page g)) o k =
          let b = (in_range w h f (smid_in q.descriptor) (request.Page g) o).1 in
          let i : IsHandle g = record_fits w h f (smid_in q.descriptor) (request.Page g) o in
          let low : g < 2 ^ 16 = (let c = i.1 in omega (arith, c)) in
          apart function.Config (ap (λ x. function_of (function_in x)) k.1 ∙ function_of_page (smid_in q.descriptor) g b low) (λ e. absurd (cc))
      by_slot (Open (request.Ack event context)) o k =
          let z = record_fits w h f (smid_in q.descriptor) (request.Ack event context) o in
          let low : event < 2 ^ 16 = (let c = z.0 in omega (arith, c)) in
          apart function.EventAck (ap (λ x. function_of (function_in x)) k.1 ∙ function_of_ack event context low z.1) (λ e. absurd (cc))
      by_slot (Open request.Notification) o k = apart function.EventNotification (ap (λ x. function_of (function_in x)) k.1 ∙ function_of_notification) (λ e. absurd (cc))
      by_slot (Open request.PortEnable) o k = apart function.PortEnable (ap (λ x. function_of (function_in x)) k.1 ∙ function_of_enable) (λ e. absurd (cc))
      by_slot Free o k = absurd k
      by_slot Parked o k = absurd k

  own_post : (s : ℕ) → one_if (s == s) ≡ 1
  own_post s = grind arith

  known : (p : Post) (rest : List Post) → w.ioc.normal ≡ p ∷ rest → kind_in p.descriptor ≡ Some post.Default → function_of (function_in p.frame) ≡ Some function.UnitControl → h.removals (smid_in p.descriptor) ≡ Some (controlled_handle_in p.frame)
  known p rest e k u =
      let z = of_removal p (All-head (PostIsRecord w h) p rest (subst (All (PostIsRecord w h)) e f.messages.normal)) k u in
      let a = ap (queued_count (smid_in p.descriptor)) e in let c = queued_count-cons (smid_in p.descriptor) p rest in let o = own_post (smid_in p.descriptor) in
      let i = record_fits w h f (smid_in p.descriptor) (request.Remove z.0) z.1 in
      (subst (RemovalIsKnown w h (smid_in p.descriptor)) z.1 (f.handles.removals (smid_in p.descriptor))) (omega (arith, a, c, o)) ∙ sym (ap Some (removal_frame z.0 p.frame i z.2).1)

  -- the high queue has no remove device
  not_high : (q : Post) (rest : List Post) → w.ioc.high ≡ q ∷ rest → kind_in q.descriptor ≡ Some post.Default → function_of (function_in q.frame) ≡ Some function.UnitControl → h.removals (smid_in q.descriptor) ≡ Some (controlled_handle_in q.frame)
  not_high q rest e k u =
      let z = front_passes (λ (x : Post). is_high x.descriptor) q rest (sym (ap (others (λ (x : Post). is_high x.descriptor)) e) ∙ f.flights.sorted.high) in
      let flags : flags_in q.descriptor ≡ flags_of post.HighPriority = equal_keys (flags_in q.descriptor) (flags_of post.HighPriority) z in
      let v = ap kind_by_flags flags in
      absurd (cc)

  written : (reg value : ℕ) (x : Effect) (r : ℕ → Option ℕ) → Pass r (registers.after_effect (record w.ioc { door = (register_written w.ioc.door reg value).registers }) x).entries
  written reg value effect.None r = tt
  written reg value (effect.Fault code) r = tt
  written reg value (effect.Asked count bytes) r = tt
  written reg value effect.UnitReset r = (tt, tt)
  written reg value effect.AdapterReset r = (tt, tt)

  taken : (x : Down) → Pass h.removals (entry.Take lane.Down (item.Down x) ∷ (adapter.takes_down w.ioc x).entries)
  taken (down.Write reg value) = (tt, written reg value (register_written w.ioc.door reg value).effect h.removals)
  taken (down.Post d fr p) = (tt, tt)
  taken (down.Read reg) = (tt, tt)
  taken (down.Return address index) = (tt, tt)
  taken down.Stop = (tt, tt)

  owed : OwesTold (λ v t. Pass h.removals t) w
  owed =
      record {
        idles = λ c. (tt, tt);
        host_puts = λ x rest e. (tt, tt);
        host_takes = λ queue x rest e k. (tt, each_asks IsQuiet quiet_frees (hears_up w.host queue x).entries (quiet_taken w.host queue x None) h.removals);
        host_told = λ i k. each_asks IsQuiet quiet_frees (host_told w.host i).entries (quiet (host_told w.host i).entries (told_input w.host i)) h.removals;
        host_looks = λ e. tt;
        host_stops = λ e. tt;
        no_session = tt;
        ioc_takes = λ x rest e. taken x;
        ioc_high = λ p rest e. worked (record w.ioc { high = rest }) h.removals p _ (not_high p rest e) (works_leaf (record w.ioc { high = rest }) p);
        ioc_normal = λ p rest e. worked (record w.ioc { normal = rest }) h.removals p _ (known p rest e) (works_leaf (record w.ioc { normal = rest }) p);
        ioc_puts_out = λ x rest e. (tt, tt);
        ioc_takes_back = λ x rest e. (tt, heard w.ioc _ x (news.takes_back w.ioc x) (back_leaf w.ioc x));
        ioc_puts = λ queue y rest z e u. (tt, tt);
        fabric_takes = λ x rest e. (tt, tt);
        fabric_says = λ x rest e. tt;
        fabric_puts = λ x rest e. (tt, tt);
        fabric_runs = λ tag address e. (tt, tt);
        plugs = λ address expander phy t q. each_asks IsPlugWord plug_frees t q h.removals;
        unplugs = λ address t q. each_asks IsPlugWord plug_frees t q h.removals;
        calms = tt;
      }

-- the pass of the rule of removals
pub unbinds_pass : (w : World) (h : History) (c : Case) → Facts w h → NothingIsStrange w → Passes removals_next UnbindAsks h.removals (entries w c)
unbinds_pass w h c f plain = kept_told (λ v t. Pass h.removals t) w plain (owed w h f) c
