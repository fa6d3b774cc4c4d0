-- A page that the host takes is of the address to which its handle is bound.
use Rattle.std.proofs.Common.{◌≡◌, ℕ, ◌==◌, ◌&&◌, ◌||◌, ◌⊎◌, inl, inr, not, Bool, true, false, if◌then◌else◌, List, ◌∷◌, ◌++◌, map, Option, Some, None, option_map, refl, ap, sym, ◌∙◌, subst, arith}
use Rattle.std.specs.Prelude.{All}
use Rattle.std.specs.Bool.{then_some}
use Rattle.std.specs.List.{list_any}
use Rattle.std.proofs.lemmas.Bool.{eqb-true}
use Rattle.std.proofs.lemmas.List.Elements.{All-head}
use Rattle.mpt_wire.specs.Handles.Bindings.{Plug}
use Rattle.mpt_wire.specs.Handles.Names.{Disk, changes_told, is_device_page, page_carried}
use Rattle.mpt_wire.specs.Handles.Pages.{is_gone_change, pages_taken, with_page, without_pages}
use Rattle.mpt_wire.specs.Machine.Causes.{is_resetting, is_up}
use Rattle.mpt_wire.specs.Machine.State.{put_at}
use Rattle.mpt_wire.specs.Messages.Fields.{page_dev_handle_in, page_sas_address_in, smid_in}
use Rattle.mpt_trace.specs.declared.host_state.HostState.{HostState}
use Rattle.mpt_trace.specs.declared.host_state.HostState.TheVariants as state
use Rattle.mpt_trace.specs.declared.item.Up.{Up}
use Rattle.mpt_trace.specs.declared.item.Up.TheVariants as upward
use Rattle.mpt_rules.specs.declared.said.Said.TheVariants as said
use Rattle.mpt_rules.specs.Host.Takes.{is_starting}
use Rattle.mpt_rules.specs.Ioc.Replies.{outbox_of}
use Rattle.mpt_rules.specs.World.Counts.{how_many, one_if}
use Rattle.mpt_rules.specs.World.Lines.{said_of, said_reply, up_line}
use Rattle.mpt_rules.specs.World.State.{World, up_on}
use Rattle.law_facts.specs.Clock.{in_begun, in_normal, is_live}
use Rattle.law_facts.specs.Facts.{Facts}
use Rattle.law_facts.specs.Handles.{PageIs}
use Rattle.law_facts.specs.History.{History}
use Rattle.law_facts.specs.Messages.{SaidIs}
use Rattle.law_facts.specs.Words.{is_calm_said, is_off, is_reply, others}
use Rattle.law_messages.proofs.Agreeing.{not_both}
use Rattle.law_moves.proofs.Counted.{how_many-cons, others-cons}
use Rattle.law_targets.proofs.Passed.{page_above}

either_mode : (m : HostState) → is_resetting m ≡ false → (is_off m ≡ true) ⊎ ((is_starting m || is_up m) ≡ true)
either_mode state.Off e = inl refl
either_mode state.Starting e = inr refl
either_mode state.Up e = inr refl
either_mode state.Resetting e = absurd (cc)

-- the address to which a handle is bound
abbrev pub bound_at : History → ℕ → Option ℕ
bound_at h j = option_map (λ (p : Plug). p.address) (h.serving.bound j)

module _ (w : World) (h : History) (f : Facts w h) (queue d : ℕ) (fr : Option (List ℕ)) (page sense : List ℕ) (rest : List Up) (front : up_on w queue ≡ upward.Reply d fr page sense ∷ rest) (m : is_resetting w.host.mode ≡ false) where
  line_is : up_line w queue ≡ said_reply (smid_in d) fr page sense ∷ (map said_of rest ++ outbox_of w.ioc queue)
  line_is = ap (λ ys. map said_of ys ++ outbox_of w.ioc queue) front

  pub reply_live : is_live w ≡ true
  reply_live = by_live (is_live w) refl
    where
      not_begun : in_begun w ≡ false
      not_begun = ap (λ b. b && (w.host.asked == w.ioc.generation)) m

      reply_there : (o : Option (List ℕ)) → is_reply (said_reply (smid_in d) o page sense) ≡ true
      reply_there None = refl
      reply_there (Some g) = refl

      by_live : (b : Bool) → is_live w ≡ b → b ≡ true
      by_live true e = refl
      by_live false e =
          let z = f.clock.no_reply_before_init.before not_begun e queue in
          let a = ap (how_many is_reply) line_is in let c = how_many-cons is_reply (said_reply (smid_in d) fr page sense) (map said_of rest ++ outbox_of w.ioc queue) in let o = ap one_if (reply_there fr) in
          absurd (omega (arith, z, a, c, o))

  pub reply_normal : in_normal w ≡ true
  reply_normal = by_mode (either_mode w.host.mode m)
    where
      calm : (o : Option (List ℕ)) → one_if (not (is_calm_said (said_reply (smid_in d) o page sense))) ≡ 1
      calm None = refl
      calm (Some g) = refl

      by_mode : (is_off w.host.mode ≡ true) ⊎ ((is_starting w.host.mode || is_up w.host.mode) ≡ true) → in_normal w ≡ true
      by_mode (inr e) = e
      by_mode (inl e) =
          let z = (f.clock.phase_table.off e).up queue in
          let a = ap (others is_calm_said) line_is in
          let c = others-cons is_calm_said (said_reply (smid_in d) fr page sense) (map said_of rest ++ outbox_of w.ioc queue) in
          let o = calm fr in
          absurd (omega (arith, z, a, c, o))

  -- its page's handle is bound
  framed_bound : (frame : List ℕ) → fr ≡ Some frame → is_device_page frame page ≡ true → bound_at h (page_dev_handle_in page) ≡ Some (page_sas_address_in page)
  framed_bound frame e t = by_queue (queue == 0) refl
    where
      framed : up_line w queue ≡ said.Framed (smid_in d) frame page sense ∷ (map said_of rest ++ outbox_of w.ioc queue)
      framed = line_is ∙ ap (λ o. said_reply (smid_in d) o page sense ∷ (map said_of rest ++ outbox_of w.ioc queue)) e

      by_queue : (b : Bool) → (queue == 0) ≡ b → bound_at h (page_dev_handle_in page) ≡ Some (page_sas_address_in page)
      by_queue true z =
          let line : up_line w 0 ≡ said.Framed (smid_in d) frame page sense ∷ (map said_of rest ++ outbox_of w.ioc queue) = ap (up_line w) (sym (eqb-true queue 0 z)) ∙ framed in
          (All-head (PageIs w h) (said.Framed (smid_in d) frame page sense) (map said_of rest ++ outbox_of w.ioc queue) (subst (All (PageIs w h)) line (f.handles.pages reply_live)) t).0
      by_queue false z =
          let its : SaidIs w h queue (said.Framed (smid_in d) frame page sense) = All-head (SaidIs w h queue) (said.Framed (smid_in d) frame page sense) (map said_of rest ++ outbox_of w.ioc queue) (subst (All (SaidIs w h queue)) framed (f.messages.said queue)) in
          not_both (is_device_page frame page) (page_above w h queue (smid_in d) frame page sense its (λ q. let u : (queue == 0) ≡ true = ap (λ k. k == 0) q in not_both (queue == 0) z u)) t

  carried_bound : (disk : Disk) → page_carried (upward.Reply d fr page sense) ≡ Some disk → bound_at h disk.handle ≡ Some disk.address
  carried_bound disk c = by_frame fr refl c
    where
      by_page : (frame : List ℕ) → fr ≡ Some frame → (b : Bool) → is_device_page frame page ≡ b → then_some b (record { handle = page_dev_handle_in page; address = page_sas_address_in page }) ≡ Some disk → bound_at h disk.handle ≡ Some disk.address
      by_page frame e true t z = let y : record { handle = page_dev_handle_in page; address = page_sas_address_in page } ≡ disk = cc in subst (λ (x : Disk). bound_at h x.handle ≡ Some x.address) y (framed_bound frame e t)
      by_page frame e false t z = absurd (cc)

      by_frame : (o : Option (List ℕ)) → fr ≡ o → page_carried (upward.Reply d o page sense) ≡ Some disk → bound_at h disk.handle ≡ Some disk.address
      by_frame None e z = absurd (cc)
      by_frame (Some frame) e z = by_page frame e (is_device_page frame page) refl z

  -- a page that is known then was known before, or its handle is bound to its address
  pub known_or_bound : (j a : ℕ) → pages_taken h.paged.pages (upward.Reply d fr page sense) j a ≡ true → (h.paged.pages j a ≡ true) ⊎ (bound_at h j ≡ Some a)
  known_or_bound j a = by_carried (page_carried (upward.Reply d fr page sense)) refl
    where
      left : ℕ → ℕ → Bool
      left = without_pages h.paged.pages (changes_told (upward.Reply d fr page sense))

      kept : (k : ℕ) → left k a ≡ true → h.paged.pages k a ≡ true
      kept k t = by_gone (list_any (is_gone_change k) (changes_told (upward.Reply d fr page sense))) t
        where
          by_gone : (b : Bool) → (if b then false else h.paged.pages k a) ≡ true → h.paged.pages k a ≡ true
          by_gone true t = absurd (cc)
          by_gone false t = t

      of_disk : (disk : Disk) → page_carried (upward.Reply d fr page sense) ≡ Some disk → (b c : Bool) → (j == disk.handle) ≡ b → (a == disk.address) ≡ c → (if b then put_at disk.address true (left disk.handle) else left j) a ≡ true → (h.paged.pages j a ≡ true) ⊎ (bound_at h j ≡ Some a)
      of_disk disk e false c u v t = inl (kept j t)
      of_disk disk e true true u v t = inr (ap (bound_at h) (eqb-true j disk.handle u) ∙ (carried_bound disk e ∙ ap Some (sym (eqb-true a disk.address v))))
      of_disk disk e true false u v t =
          let z : left disk.handle a ≡ true = sym (ap (λ x. if x then true else left disk.handle a) v) ∙ t in
          inl (ap (λ k. h.paged.pages k a) (eqb-true j disk.handle u) ∙ kept disk.handle z)

      by_carried : (o : Option Disk) → page_carried (upward.Reply d fr page sense) ≡ o → pages_taken h.paged.pages (upward.Reply d fr page sense) j a ≡ true → (h.paged.pages j a ≡ true) ⊎ (bound_at h j ≡ Some a)
      by_carried None e t = inl (kept j (sym (ap (λ o. with_page left o j a) e) ∙ t))
      by_carried (Some disk) e t = of_disk disk e (j == disk.handle) (a == disk.address) refl refl (sym (ap (λ o. with_page left o j a) e) ∙ t)
