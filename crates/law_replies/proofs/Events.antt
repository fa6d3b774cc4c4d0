-- An event's frame is that of the numbers that are read from it.
use Rattle.std.proofs.Common.{◌≡◌, ℕ, zero, suc, ◌+◌, ◌-◌, ◌^◌, ◌<◌, ◌≤◌, ◌⊎◌, inl, inr, take, drop, get_or-take, get_or-drop, Bool, true, false, List, [], ◌∷◌, get_or, refl, ap, sym, ◌∙◌, subst, arith}
use Rattle.std.specs.Prelude.{All}
use Rattle.std.proofs.lemmas.List.Elements.{All-cons, All-head, All-nil, All-tail}
use Rattle.mpi_layout.specs.Rows.{field}
use Rattle.event_msgs.specs.EventReply.{event_reply_layout, event_reply_values}
use Rattle.event_msgs.specs.Topology.{topology_layout, topology_values}
use Rattle.event_msgs.specs.TopologyEntry.{blank}
use Rattle.mpt_messages.specs.DevicePage.{expander_handle}
use Rattle.mpt_messages.specs.IocFrames.{reply_frame}
use Rattle.mpt_messages.specs.declared.ioc_reply.IocReply.TheVariants as reply
use Rattle.mpt_messages.proofs.FrameStands.{reply_frame_stands}
use Rattle.mpt_messages.proofs.IocFits.{topology_fits}
use Rattle.mpt_wire.specs.Messages.Fields.{event_context_in}
use Rattle.mpt_rules.specs.declared.said.Said.{Said}
use Rattle.mpt_rules.specs.declared.said.Said.TheVariants as said
use Rattle.mpt_rules.specs.Law.{NothingIsStrange}
use Rattle.mpt_rules.specs.Ioc.Replies.{outbox_of}
use Rattle.mpt_rules.specs.World.Cases.{Case, happens}
use Rattle.mpt_rules.specs.World.State.{World}
use Rattle.law_facts.specs.Facts.{Facts}
use Rattle.law_facts.specs.History.{History}
use Rattle.law_facts.specs.Messages.{IsEvent, event_like}
use Rattle.removal.specs.Handles.{IsHandle}
use Rattle.law_standing.specs.Written.{EventIsWritten, IsWritten, RepliesAreWritten}
use Rattle.law_standing.proofs.Shown.{replies_stay_written}
use Rattle.law_replies.specs.Events.{EventsTellChanges, TellsChange}

-- ---- fields of the event's data

byte_cut : (xs : List ℕ) (k n i : ℕ) → i < n → get_or (take n (drop k xs)) i 0 ≡ get_or xs (k + i) 0
byte_cut xs k n i l = grind (arith, get_or-take, get_or-drop)

field_cut : (xs : List ℕ) (k n at w : ℕ) → at + w ≤ n → field (take n (drop k xs)) at w ≡ field xs (k + at) w
unfolding field
field_cut xs k n at zero l = refl
field_cut xs k n at (suc i) l =
    let h = field_cut xs k n at i (omega arith) in
    let b = byte_cut xs k n (at + i) (omega arith) in
    let place : k + (at + i) ≡ k + at + i = omega arith in
    let c = b ∙ ap (λ j. get_or xs j 0) place in
    grind (arith, h, c)

-- what is read of an event
record IsRead (context handle expander phys phy : ℕ) (frame : List ℕ) : Type 0 where
  context_is : event_context_in frame ≡ context
  handle_is : field frame 0x28 2 ≡ handle
  expander_is : field frame 0x1e 2 ≡ expander_handle expander
  phys_is : field frame 0x20 1 ≡ phys
  phy_is : field frame 0x25 1 ≡ phy

read : (context handle expander phys phy : ℕ) (added : Bool) → context < 2 ^ 32 → handle < 2 ^ 16 → expander < 16 → phys < 2 ^ 8 → phy < 2 ^ 8
    → IsRead context handle expander phys phy (reply_frame (reply.Topology context handle expander phys phy added))
unfolding event_reply_layout event_reply_values topology_layout topology_values
read context handle expander phys phy added c h e p q =
    let frame = reply_frame (reply.Topology context handle expander phys phy added) in
    let s = reply_frame_stands (reply.Topology context handle expander phys phy added) (topology_fits context handle expander phys phy added c h e p q) h in
    let told = take 16 (drop 28 frame) in
    let contexts : field frame 0x18 4 ≡ context = ap (λ vs. get_or vs 14 0) s.fixed.numbers in
    let handles : field told 12 2 ≡ handle = ap (λ es. (get_or es 0 blank).attached_dev_handle) (sym s.event_data.entries) in
    let expanders : field told 0x02 2 ≡ expander_handle expander = ap (λ vs. get_or vs 1 0) s.event_data.rows.numbers in
    let counts : field told 0x04 1 ≡ phys = ap (λ vs. get_or vs 2 0) s.event_data.rows.numbers in
    let places : field told 0x09 1 ≡ phy = ap (λ vs. get_or vs 6 0) s.event_data.rows.numbers in
    record {
      context_is = contexts;
      handle_is = sym (field_cut frame 28 16 12 2 (omega arith)) ∙ handles;
      expander_is = sym (field_cut frame 28 16 0x02 2 (omega arith)) ∙ expanders;
      phys_is = sym (field_cut frame 28 16 0x04 1 (omega arith)) ∙ counts;
      phy_is = sym (field_cut frame 28 16 0x09 1 (omega arith)) ∙ places;
    }

five : {X : Type 0} (f : ℕ → ℕ → ℕ → ℕ → ℕ → X) (a a2 b b2 c c2 d d2 e e2 : ℕ) → a ≡ a2 → b ≡ b2 → c ≡ c2 → d ≡ d2 → e ≡ e2 → f a b c d e ≡ f a2 b2 c2 d2 e2
five f a a2 b b2 c c2 d d2 e e2 x y z u v = rw x (rw y (rw z (rw u (rw v refl))))

-- an event that is written so is that of what is read of it
pub event_read : (frame : List ℕ) (e : EventIsWritten frame) → frame ≡ event_like frame e.added
event_read frame e =
    let l = e.fits in
    let r = subst (IsRead e.context e.handle e.expander e.phys e.phy) (sym e.is) (read e.context e.handle e.expander e.phys e.phy e.added l.0 l.1 l.2 l.3 l.4) in
    let x = r.expander_is in
    let place : field frame 0x1e 2 - expander_handle 0 ≡ e.expander = omega (arith, x) in
    e.is ∙ five (λ a b c d g. reply_frame (reply.Topology a b c d g e.added)) e.context (event_context_in frame) e.handle (field frame 0x28 2) e.expander (field frame 0x1e 2 - expander_handle 0) e.phys (field frame 0x20 1) e.phy (field frame 0x25 1)
    (sym r.context_is) (sym r.handle_is) (sym place) (sym r.phys_is) (sym r.phy_is)

-- an event of one change of a disk's handle, as it is told
pub event_is : (context handle expander phys phy : ℕ) (added : Bool) → context < 2 ^ 32 → IsHandle handle → expander < 16 → phys < 2 ^ 8 → phy < 2 ^ 8
    → IsEvent 0 (reply_frame (reply.Topology context handle expander phys phy added)) [] []
event_is context handle expander phys phy added c l e p q =
    (refl, refl, refl, subst IsHandle (sym r.handle_is) l, by_added added refl)
  where
    frame : List ℕ
    frame = reply_frame (reply.Topology context handle expander phys phy added)

    small : handle < 2 ^ 16
    small = let b = l.1 in omega (arith, b)

    r : IsRead context handle expander phys phy frame
    r = read context handle expander phys phy added c small e p q

    same : frame ≡ event_like frame added
    same = event_read frame (record { context = context; handle = handle; expander = expander; phys = phys; phy = phy; added = added; fits = (c, small, e, p, q); is = refl })

    by_added : (b : Bool) → added ≡ b → (frame ≡ event_like frame true) ⊎ (frame ≡ event_like frame false)
    by_added true z = inl (subst (λ x. frame ≡ event_like frame x) z same)
    by_added false z = inr (subst (λ x. frame ≡ event_like frame x) z same)

one_told : (y : Said) → IsWritten y → TellsChange y
one_told (said.Framed zero frame page sense) w = let e = w.event refl in by_added e.added (event_read frame e)
  where
    by_added : (b : Bool) → frame ≡ event_like frame b → (frame ≡ event_like frame true) ⊎ (frame ≡ event_like frame false)
    by_added true e = inl e
    by_added false e = inr e
one_told (said.Framed (suc s) frame page sense) w = tt
one_told (said.Success s page sense) w = tt
one_told said.Calm w = tt
one_told (said.Value v) w = tt
one_told (said.Mark m) w = tt

all_told : (ys : List Said) → All IsWritten ys → All TellsChange ys
all_told [] a = All-nil TellsChange
all_told (y ∷ ys) a = All-cons TellsChange y ys (one_told y (All-head IsWritten y ys a)) (all_told ys (All-tail IsWritten y ys a))

pub events_tell_one_change : (w : World) (h : History) (c : Case) → Facts w h → NothingIsStrange w → RepliesAreWritten w → EventsTellChanges (happens w c)
events_tell_one_change w h c f n r queue = all_told (outbox_of (happens w c).ioc queue) (replies_stay_written w h c f n r queue)
