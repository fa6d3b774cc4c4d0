-- A page that is read where the rule allows it is that of the plug to which its handle is bound.
use Rattle.std.proofs.Common.{◌≡◌, ◌⊎◌, inl, inr, ℕ, ◌==◌, Bool, true, false, if◌then◌else◌, List, Option, Some, None, refl, sym, ap, subst, arith}
use Rattle.std.specs.Bool.{MatchBool}
use Rattle.std.specs.List.{list_any}
use Rattle.std.proofs.lemmas.Grind.{common_steps}
use Rattle.mpt_messages.specs.FrameBytes.{message_frame}
use Rattle.mpt_messages.specs.HostFrames.{host_message}
use Rattle.mpt_messages.specs.declared.host_ask.HostAsk.TheVariants as ask
use Rattle.mpt_trace.specs.declared.item.Item.TheVariants as item
use Rattle.mpt_trace.specs.declared.item.Down.TheVariants as down
use Rattle.mpt_trace.specs.declared.item.Up.TheVariants as up
use Rattle.mpt_trace.specs.declared.item.Back.TheVariants as back
use Rattle.mpt_trace.specs.declared.entry.Entry.{Entry}
use Rattle.mpt_trace.specs.declared.entry.Entry.TheVariants as entry
use Rattle.mpt_wire.specs.Ties.Attached.{Attachment, Plugged, WasPluggedAt, attachment_of, plugged_taken}
use Rattle.mpt_wire.specs.Handles.Bindings.{BindsTo, Plug, ends_binding}
use Rattle.mpt_wire.specs.Messages.Fields.{smid_in}
use Rattle.mpt_wire.specs.Ties.LastPosts.{IsLastPost, frame_posted, is_posted}
use Rattle.mpt_wire.specs.Walks.Lasting.{never}
use Rattle.mpt_wire.specs.Machine.State.{Place, put_at}
use Rattle.mpt_wire.specs.Ties.PagesTold.{IsPageAsked, IsPageOfPlug, PageReadAsks, PageReads, PagesAreOfDisks, PagesAreOfPlugs, is_read_reply, no_page_reads, page_reads_next}
use Rattle.mpt_wire.specs.Walks.Passes.{state_after}
use Rattle.mpt_wire.proofs.Lasting.{MadeAt, asked_in, lasts, made_at}

-- numbers that are one, in either order
same : (a b : ℕ) → (a == b) ≡ true → a ≡ b
same a b e = grind (arith, common_steps)

turned : (a b : ℕ) → (a == b) ≡ false → (b == a) ≡ false
turned a b e = grind (arith, common_steps)

abbrev plug_of : ℕ → ℕ → Plug
plug_of address number = record { address = address; number = number }

abbrev phy_of : ℕ → ℕ → Place
phy_of expander phy = record { expander = expander; phy = phy }

-- ---- the disk under a handle

abbrev HasDisk : ℕ → Attachment → PageReads → Type 0
HasDisk h d g = g.attached.disk h ≡ Some d

-- the plug stands at the disk's place
abbrev StandsAt : Attachment → PageReads → Type 0
StandsAt d g = g.attached.plugged d.plug.address d.plug.number ≡ Some d.place

abbrev Binds : ℕ → Attachment → Entry → Type 0
Binds h d e = BindsTo h d.plug e

attached_as : (d : Attachment) (plug : Plug) (o : Option Place) → attachment_of plug o ≡ Some d → (d.plug ≡ plug) × (o ≡ Some d.place)
attached_as d plug None e = absurd cc
attached_as d plug (Some place) e = let is : record { plug = plug; place = place } ≡ d = cc in (sym (ap (λ (x : Attachment). x.plug) is), ap (λ (x : Attachment). Some x.place) is)

disk_came : (h : ℕ) (d : Attachment) (g : PageReads) (e : Entry) → HasDisk h d (page_reads_next g e) → (Binds h d e × StandsAt d g) ⊎ (HasDisk h d g × (ends_binding h e ≡ false))
disk_came h d g (entry.Bind handle address number) f = by_handle (h == handle) refl f
  where
    by_handle : (b : Bool) → (h == handle) ≡ b → (if b then attachment_of (plug_of address number) (g.attached.plugged address number) else g.attached.disk h) ≡ Some d
        → (Binds h d (entry.Bind handle address number) × StandsAt d g) ⊎ (HasDisk h d g × (ends_binding h (entry.Bind handle address number) ≡ false))
    by_handle true t f =
        let r = attached_as d (plug_of address number) (g.attached.plugged address number) f in
        inl ((sym (same h handle t), r.0), subst (λ (p : Plug). g.attached.plugged p.address p.number ≡ Some d.place) (sym r.0) r.1)
    by_handle false t f = inr (f, turned h handle t)
disk_came h d g (entry.Unbind handle) f = by_handle (h == handle) refl f
  where
    by_handle : (b : Bool) → (h == handle) ≡ b → (if b then None else g.attached.disk h) ≡ Some d
        → (Binds h d (entry.Unbind handle) × StandsAt d g) ⊎ (HasDisk h d g × (ends_binding h (entry.Unbind handle) ≡ false))
    by_handle true t f = absurd cc
    by_handle false t f = inr (f, turned h handle t)
disk_came h d g entry.UnbindAll f = absurd cc
disk_came h d g (entry.Take lane (item.Back (back.Plugged address number expander phy))) f = inr (f, refl)
disk_came h d g (entry.Take lane (item.Back (back.Unplugged address number expander phy))) f = inr (f, refl)
disk_came h d g (entry.Take lane (item.Back i)) f = inr (f, refl)
disk_came h d g (entry.Take lane i) f = inr (f, refl)
disk_came h d g _ f = inr (f, refl)

-- ---- where a plug stands

abbrev plugged_as : ℕ → ℕ → Place → Option Plugged
plugged_as address number place = Some (record { plug = plug_of address number; place = place })

abbrev IsThere : ℕ → ℕ → Place → PageReads → Type 0
IsThere a k place g = g.attached.plugged a k ≡ Some place

abbrev Takes : ℕ → ℕ → Place → Entry → Type 0
Takes a k place e = plugged_taken e ≡ Some (record { plug = record { address = a; number = k }; place = place })

plug_came : (a k : ℕ) (place : Place) (g : PageReads) (e : Entry) → IsThere a k place (page_reads_next g e) → Takes a k place e ⊎ (IsThere a k place g × (never e ≡ false))
plug_came a k place g (entry.Take lane (item.Back (back.Plugged address number expander phy))) f = by_address (a == address) refl f
  where
    by_number : (c : Bool) → a ≡ address → (k == number) ≡ c → (if c then Some (phy_of expander phy) else g.attached.plugged address k) ≡ Some place
        → Takes a k place (entry.Take lane (item.Back (back.Plugged address number expander phy))) ⊎ (IsThere a k place g × (false ≡ false))
    by_number true s t f =
        let is : phy_of expander phy ≡ place = cc in
        inl (subst (λ (x : ℕ). plugged_as address number (phy_of expander phy) ≡ plugged_as x k place) (sym s)
        (subst (λ (x : ℕ). plugged_as address number (phy_of expander phy) ≡ plugged_as address x place) (sym (same k number t))
        (ap (plugged_as address number) is)))
    by_number false s t f = inr (subst (λ (x : ℕ). g.attached.plugged x k ≡ Some place) (sym s) f, refl)

    by_address : (b : Bool) → (a == address) ≡ b
        → (if b then put_at number (Some (phy_of expander phy)) (g.attached.plugged address) else g.attached.plugged a) k ≡ Some place
        → Takes a k place (entry.Take lane (item.Back (back.Plugged address number expander phy))) ⊎ (IsThere a k place g × (false ≡ false))
    by_address true s f = by_number (k == number) (same a address s) refl f
    by_address false s f = inr (f, refl)
plug_came a k place g _ f = inr (f, refl)

was_plugged : (before : List Entry) (d : Attachment) → StandsAt d (state_after page_reads_next no_page_reads before) → WasPluggedAt before d.plug d.place
was_plugged before d f =
    lasts page_reads_next (IsThere d.plug.address d.plug.number d.place) (Takes d.plug.address d.plug.number d.place) never (plug_came d.plug.address d.plug.number d.place) no_page_reads (λ n. cc) before f

-- ---- the last post

abbrev HasPost : ℕ → List ℕ → PageReads → Type 0
HasPost s request g = g.asked s ≡ Some request

post_came : (s : ℕ) (request : List ℕ) (g : PageReads) (e : Entry) → HasPost s request (page_reads_next g e) → (frame_posted s e ≡ Some request) ⊎ (HasPost s request g × (is_posted s e ≡ false))
post_came s request g (entry.Put lane (item.Down (down.Post descriptor frame payload))) f = by_smid (s == smid_in descriptor) refl f
  where
    by_smid : (b : Bool) → (s == smid_in descriptor) ≡ b → (if b then Some frame else g.asked s) ≡ Some request
        → ((if smid_in descriptor == s then Some frame else None) ≡ Some request) ⊎ (HasPost s request g × ((smid_in descriptor == s) ≡ false))
    by_smid true t f = inl (grind (arith, common_steps))
    by_smid false t f = inr (f, turned s (smid_in descriptor) t)
post_came s request g _ f = inr (f, refl)

is_last_post : (before : List Entry) (s : ℕ) (request : List ℕ) → (state_after page_reads_next no_page_reads before).asked s ≡ Some request → IsLastPost before s request
is_last_post before s request f =
    lasts page_reads_next (HasPost s request) (λ e. frame_posted s e ≡ Some request) (is_posted s) (post_came s request) no_page_reads (λ n. cc) before f

-- ---- all of it

bound_there : (before : List Entry) (h : ℕ) (d : Attachment) → HasDisk h d (state_after page_reads_next no_page_reads before)
    → MadeAt page_reads_next (HasDisk h d) (StandsAt d) (Binds h d) (ends_binding h) no_page_reads before
bound_there before h d f = made (made_at page_reads_next (HasDisk h d) (StandsAt d) (Binds h d) (ends_binding h) (disk_came h d) no_page_reads before f)
  where
    made : MadeAt page_reads_next (HasDisk h d) (StandsAt d) (Binds h d) (ends_binding h) no_page_reads before ⊎ (HasDisk h d no_page_reads × (list_any (ends_binding h) before ≡ false))
        → MadeAt page_reads_next (HasDisk h d) (StandsAt d) (Binds h d) (ends_binding h) no_page_reads before
    made (inl m) = m
    made (inr p) = let none = p.0 in absurd cc

of_plug : (before : List Entry) (s : ℕ) (page : List ℕ)
    → IsPageAsked (state_after page_reads_next no_page_reads before).attached s ((state_after page_reads_next no_page_reads before).asked s) page → IsPageOfPlug before s page
of_plug before s page a =
    let m = bound_there before a.handle a.disk a.bound in
    record {
      handle = a.handle;
      disk = a.disk;
      asked = is_last_post before s (message_frame (host_message (ask.PageRead s a.handle))) a.asked;
      bound = m.0;
      plugged = was_plugged m.0.earlier a.disk m.1;
      bytes = a.bytes;
    }

asked_if : {P : Type 0} (b : Bool) → MatchBool b P (Unit {0}) → b ≡ true → P
asked_if true p e = p
asked_if false p e = absurd cc

pub pages_are_of_plugs : (t : List Entry) → PagesAreOfDisks t → PagesAreOfPlugs t
pages_are_of_plugs t p before after lane descriptor frame page sense split read =
    let a = asked_in page_reads_next PageReadAsks no_page_reads t before after (entry.Put lane (item.Up (up.Reply descriptor (Some frame) page sense))) p split in
    of_plug before (smid_in descriptor) page (asked_if (is_read_reply frame) a read)
