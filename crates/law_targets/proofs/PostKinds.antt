-- A post that the controller works as a remove device is one of the host's records, and a command's post is of no high priority.
use Rattle.std.proofs.Common.{◌≡◌, ◌≢◌, ℕ, zero, suc, ◌+◌, ◌-◌, ◌%◌, ◌^◌, ◌<◌, ◌≤◌, ◌==◌, Bool, true, false, List, [], ◌∷◌, ◌++◌, get_or, Option, Some, None, refl, ap, sym, ◌∙◌, subst, mod-lt, arith}
use Rattle.std.specs.Prelude.{All}
use Rattle.std.specs.FinMap as finmap
use Rattle.std.proofs.lemmas.Bool.{eqb-true}
use Rattle.std.proofs.lemmas.List.Elements.{All-get_or, All-head, All-tail}
use Rattle.smid_pool.specs.Pool.{Free, Open, Parked, Slot}
use Rattle.removal.specs.Handles.{IsHandle}
use Rattle.mpi_rings.specs.declared.request_descriptor.PostKind.TheVariants as post
use Rattle.config_pages.specs.ConfigAsk.{config_ask_layout, config_ask_values}
use Rattle.event_msgs.specs.EventAck.{event_ack_layout, event_ack_values}
use Rattle.event_msgs.specs.EventAsk.{event_ask_layout, event_ask_values}
use Rattle.ioc_msgs.specs.PortEnable.{port_enable_layout, port_enable_values}
use Rattle.mpt_messages.specs.Function.{function_of}
use Rattle.mpt_messages.specs.declared.function.Function.{Function}
use Rattle.mpt_messages.specs.declared.function.Function.TheVariants as function
use Rattle.mpt_messages.specs.declared.host_ask.HostAsk.TheVariants as ask
use Rattle.mpt_messages.proofs.FrameStands.{host_frame_stands}
use Rattle.mpt_messages.proofs.HostFits.{ack_fits, notification_fits, page_fits, port_enable_fits}
use Rattle.mpt_wire.specs.Messages.Fields.{controlled_handle_in, function_in, kind_in, post_descriptor, smid_in}
use Rattle.mpt_wire.specs.Machine.State.{OpenRequest}
use Rattle.mpt_trace.specs.declared.item.Down.{Down}
use Rattle.mpt_trace.specs.declared.item.Down.TheVariants as down
use Rattle.mpt_rules.specs.declared.post.Post.{Post}
use Rattle.mpt_rules.specs.declared.request.Request.{Request}
use Rattle.mpt_rules.specs.declared.request.Request.TheVariants as request
use Rattle.mpt_rules.specs.Host.Parts.{Cmd, host_queue_count}
use Rattle.mpt_rules.specs.Host.Posts.{frame_asked}
use Rattle.mpt_rules.specs.World.Counts.{one_if, post_count, queued_count}
use Rattle.mpt_rules.specs.World.Lines.{is_high, normal_posts}
use Rattle.mpt_rules.specs.World.State.{World}
use Rattle.mpt_rules.proofs.Counts.{post_count-cons, post_count-nil, queued_count-cons}
use Rattle.law_facts.specs.Facts.{Facts}
use Rattle.law_facts.specs.History.{History}
use Rattle.law_facts.specs.Limits.{RecordFits}
use Rattle.law_facts.specs.Messages.{CommandPost, DownIsRecord, PostIs, PostIsRecord}
use Rattle.law_facts.specs.Words.{slot}
use Rattle.law_flights.proofs.Descriptors.{kind_posted}
use Rattle.law_flights.proofs.HostHolds.{in_table}
use Rattle.law_handles.proofs.LifeWork.{handle_removed}
use Rattle.law_targets.proofs.Under.{low_kind, scsi_low}

function_of_page : (s g : ℕ) → s ≤ 280 → g < 2 ^ 16 → function_of (function_in (frame_asked (ask.PageRead s g))) ≡ Some function.Config
unfolding config_ask_layout config_ask_values
function_of_page s g a l = ap (λ vs. function_of (get_or vs 3 0)) (host_frame_stands (ask.PageRead s g) (page_fits s g a l)).numbers

function_of_ack : (event context : ℕ) → event < 2 ^ 16 → context < 2 ^ 32 → function_of (function_in (frame_asked (ask.Ack event context))) ≡ Some function.EventAck
unfolding event_ack_layout event_ack_values
function_of_ack event context a l = ap (λ vs. function_of (get_or vs 2 0)) (host_frame_stands (ask.Ack event context) (ack_fits event context a l)).numbers

function_of_notification : function_of (function_in (frame_asked ask.Notification)) ≡ Some function.EventNotification
unfolding event_ask_layout event_ask_values
function_of_notification = ap (λ vs. function_of (get_or vs 2 0)) (host_frame_stands ask.Notification notification_fits).numbers

function_of_enable : function_of (function_in (frame_asked ask.PortEnable)) ≡ Some function.PortEnable
unfolding port_enable_layout port_enable_values
function_of_enable = ap (λ vs. function_of (get_or vs 2 0)) (host_frame_stands ask.PortEnable port_enable_fits).numbers

module _ (w : World) (h : History) (f : Facts w h) where
  -- a remove device's record, or a post that isn't worked as one
  pub data Kinds (q : Post) : Type 0 where
    IsRemoval : (g : ℕ) → IsHandle g → slot w.host (smid_in q.descriptor) ≡ Open (request.Remove g) → controlled_handle_in q.frame ≡ g → Kinds q
    IsOther : (kind_in q.descriptor ≡ Some post.Default → function_of (function_in q.frame) ≡ Some function.UnitControl → ⊥) → Kinds q

  in_pool : (s : ℕ) (r : Request) → slot w.host s ≡ Open r → (1 ≤ s) × (s ≤ 280)
  in_pool s r o = let x = in_table w.host.pool s (Open r) o (λ e. absurd (cc)) in let l = f.flights.sizes.pool in (x.0, omega (arith, x, l))

  -- what the limits say of it
  pub fits : (s : ℕ) (r : Request) → slot w.host s ≡ Open r → RecordFits (Open r)
  fits s r o =
      let z = in_table w.host.pool s (Open r) o (λ e. absurd (cc)) in
      subst RecordFits (place_of s o) (All-get_or RecordFits w.host.pool (s - 1) Free z.1 f.limits.records)
    where
      place_of : (s : ℕ) → slot w.host s ≡ Open r → get_or w.host.pool (s - 1) Free ≡ Open r
      place_of zero o = absurd (cc)
      place_of (suc s) o = let e : suc s - 1 ≡ s = omega arith in ap (λ j. get_or w.host.pool j Free) e ∙ o

  high_kind : (q : Post) (r : Request) → slot w.host (smid_in q.descriptor) ≡ Open r → q.descriptor ≡ post_descriptor post.HighPriority 0 (smid_in q.descriptor) 0 → kind_in q.descriptor ≡ Some post.HighPriority
  high_kind q r o e = let b = (in_pool (smid_in q.descriptor) r o).1 in let l : smid_in q.descriptor < 65536 = omega (arith, b) in ap kind_in e ∙ kind_posted post.HighPriority 0 (smid_in q.descriptor) 0 (omega arith) l

  command_kind : (q : Post) (n : ℕ) (c : Option Cmd) (r : Option OpenRequest) → finmap.get w.host.cmds n ≡ c → CommandPost w q c r → kind_in q.descriptor ≡ Some post.ScsiIo
  command_kind q n None r e k = absurd k
  command_kind q n (Some c) None e k = absurd k
  command_kind q n (Some c) (Some r) e k =
      let b = (in_pool c.smid (request.Command n) ((f.flights.numbers n).command c e)).1 in
      let l : c.smid < 65536 = omega (arith, b) in
      let u = f.flights.sizes.some_queue in let v = f.flights.sizes.few_queues in
      let m : (c.smid - 1) % host_queue_count w.host < 256 = (let pos : 0 < host_queue_count w.host = omega (arith, u) in let z = mod-lt (c.smid - 1) pos in omega (arith, z, v)) in
      ap kind_in k.0 ∙ kind_posted post.ScsiIo ((c.smid - 1) % host_queue_count w.host) c.smid c.handle m l

  pub kinds : (q : Post) → PostIsRecord w h q → Kinds q
  kinds q k = by_slot (slot w.host (smid_in q.descriptor)) refl k
    where
      apart : (e : Function) → function_of (function_in q.frame) ≡ Some e → e ≢ function.UnitControl → kind_in q.descriptor ≡ Some post.Default → function_of (function_in q.frame) ≡ Some function.UnitControl → ⊥
      apart e a d k u = d (cc)

      by_slot : (y : Slot Request) → slot w.host (smid_in q.descriptor) ≡ y → PostIs w h q y → Kinds q
      by_slot (Open (request.Command n)) o k = IsOther (λ e u. let z = command_kind q n (finmap.get w.host.cmds n) (finmap.get h.machine.requests n) refl k in absurd (cc))
      by_slot (Open (request.Abort n t)) o k = IsOther (λ e u. let z = high_kind q (request.Abort n t) o k.0.0 in absurd (cc))
      by_slot (Open (request.TargetReset a)) o k = IsOther (λ e u. let z = high_kind q (request.TargetReset a) o k.0 in absurd (cc))
      by_slot (Open (request.Leave g)) o k = IsOther (λ e u. let z = high_kind q (request.Leave g) o k.0.0 in absurd (cc))
      by_slot (Open (request.Page g)) o k =
          let b = (in_pool (smid_in q.descriptor) (request.Page g) o).1 in
          let i : IsHandle g = fits (smid_in q.descriptor) (request.Page g) o in
          let low : g < 2 ^ 16 = (let c = i.1 in omega (arith, c)) in
          IsOther (apart function.Config (ap (λ x. function_of (function_in x)) k.1 ∙ function_of_page (smid_in q.descriptor) g b low) (λ e. absurd (cc)))
      by_slot (Open (request.Remove g)) o k =
          let i : IsHandle g = fits (smid_in q.descriptor) (request.Remove g) o in
          let low : g < 2 ^ 16 = (let c = i.1 in omega (arith, c)) in
          IsRemoval g i o (ap controlled_handle_in k.1 ∙ handle_removed g low)
      by_slot (Open (request.Ack event context)) o k =
          let z : RecordFits (Open (request.Ack event context)) = fits (smid_in q.descriptor) (request.Ack event context) o in
          let low : event < 2 ^ 16 = (let c = z.0 in omega (arith, c)) in
          IsOther (apart function.EventAck (ap (λ x. function_of (function_in x)) k.1 ∙ function_of_ack event context low z.1) (λ e. absurd (cc)))
      by_slot (Open request.Notification) o k = IsOther (apart function.EventNotification (ap (λ x. function_of (function_in x)) k.1 ∙ function_of_notification) (λ e. absurd (cc)))
      by_slot (Open request.PortEnable) o k = IsOther (apart function.PortEnable (ap (λ x. function_of (function_in x)) k.1 ∙ function_of_enable) (λ e. absurd (cc)))
      by_slot Free o k = absurd k
      by_slot Parked o k = absurd k

  -- ---- posts of a command are among those that go to the normal queue

  module _ (n s : ℕ) (is_open : slot w.host s ≡ Open (request.Command n)) where
    pub command_post : (p : Post) → smid_in p.descriptor ≡ s → PostIsRecord w h p → CommandPost w p (finmap.get w.host.cmds n) (finmap.get h.machine.requests n)
    command_post p e k = subst (PostIs w h p) (ap (slot w.host) e ∙ is_open) k

    command_low : (p : Post) → smid_in p.descriptor ≡ s → PostIsRecord w h p → is_high p.descriptor ≡ false
    command_low p e k = low_kind p.descriptor post.ScsiIo (command_kind p n (finmap.get w.host.cmds n) (finmap.get h.machine.requests n) refl (command_post p e k)) scsi_low

    pub normal_all : (xs : List Down) → All (DownIsRecord w h) xs → post_count s xs ≤ queued_count s (normal_posts xs)
    unfolding normal_posts
    normal_all [] a = let c = post_count-nil s in omega (arith, c)
    normal_all (down.Post d g p ∷ xs) a = by_high (is_high d) refl (normal_all xs (All-tail (DownIsRecord w h) (down.Post d g p) xs a))
      where
        x : Post
        x = record { descriptor = d; frame = g; payload = p }

        other : (b : Bool) → (smid_in d == s) ≡ b → is_high d ≡ true → b ≡ false
        other false t e = refl
        other true t e = let z = command_low (record { descriptor = d; frame = g; payload = p }) (eqb-true (smid_in d) s t) (All-head (DownIsRecord w h) (down.Post d g p) xs a) in absurd (cc)

        by_high : (c : Bool) → is_high d ≡ c → post_count s xs ≤ queued_count s (normal_posts xs) → post_count s (down.Post d g p ∷ xs) ≤ queued_count s (normal_posts (down.Post d g p ∷ xs))
        by_high true e l =
            let a : normal_posts (down.Post d g p ∷ xs) ≡ normal_posts xs = ap (λ c. Rattle.std.specs.List.cons_option (Rattle.std.proofs.Common.cond c None (Some (record { descriptor = d; frame = g; payload = p }))) (normal_posts xs)) e in
            let q = ap (queued_count s) a in let c = post_count-cons s (down.Post d g p) xs in let o = ap one_if (other (smid_in d == s) refl e) in omega (arith, l, q, c, o)
        by_high false e l =
            let a : normal_posts (down.Post d g p ∷ xs) ≡ (record { descriptor = d; frame = g; payload = p }) ∷ normal_posts xs = ap (λ c. Rattle.std.specs.List.cons_option (Rattle.std.proofs.Common.cond c None (Some (record { descriptor = d; frame = g; payload = p }))) (normal_posts xs)) e in
            let q = ap (queued_count s) a in let r = queued_count-cons s (record { descriptor = d; frame = g; payload = p }) (normal_posts xs) in let c = post_count-cons s (down.Post d g p) xs in omega (arith, l, q, r, c)
    normal_all (down.Write reg value ∷ xs) a = let l = normal_all xs (All-tail (DownIsRecord w h) (down.Write reg value) xs a) in let c = post_count-cons s (down.Write reg value) xs in omega (arith, l, c)
    normal_all (down.Read reg ∷ xs) a = let l = normal_all xs (All-tail (DownIsRecord w h) (down.Read reg) xs a) in let c = post_count-cons s (down.Read reg) xs in omega (arith, l, c)
    normal_all (down.Return i j ∷ xs) a = let l = normal_all xs (All-tail (DownIsRecord w h) (down.Return i j) xs a) in let c = post_count-cons s (down.Return i j) xs in omega (arith, l, c)
    normal_all (down.Stop ∷ xs) a = let l = normal_all xs (All-tail (DownIsRecord w h) down.Stop xs a) in let c = post_count-cons s down.Stop xs in omega (arith, l, c)
