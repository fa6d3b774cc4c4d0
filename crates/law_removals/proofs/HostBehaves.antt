-- In each case of the host its line of posts keeps what it had, but for what a reset drops, with what is new behind that.
use Rattle.std.proofs.Common.{◌≡◌, ℕ, zero, suc, ◌+◌, ◌≤◌, ◌||◌, Bool, true, false, List, [], ◌∷◌, ◌++◌, map, Option, Some, None, refl, ap, sym, ◌∙◌, subst, arith, append_assoc, append-nil}
use Rattle.std.specs.Prelude.{All}
use Rattle.mpt_wire.specs.Machine.Causes.{is_resetting, is_up}
use Rattle.mpt_wire.specs.Messages.Fields.{smid_in}
use Rattle.mpt_trace.specs.declared.host_state.HostState.{HostState}
use Rattle.mpt_trace.specs.declared.host_state.HostState.TheVariants as state
use Rattle.mpt_trace.specs.declared.item.Down.{Down}
use Rattle.mpt_trace.specs.declared.item.Down.TheVariants as down
use Rattle.mpt_trace.specs.declared.item.Up.{Up}
use Rattle.mpt_trace.specs.declared.item.Up.TheVariants as upward
use Rattle.mpt_rules.specs.declared.post.Post.{Post}
use Rattle.mpt_rules.specs.Host.Parts.{Host}
use Rattle.mpt_rules.specs.Host.Replies as replies
use Rattle.mpt_trace.specs.declared.input.Input.{Input}
use Rattle.mpt_rules.specs.Host.Takes.{hears_up, is_starting, looks, stops}
use Rattle.mpt_rules.specs.World.Inputs.{host_told}
use Rattle.mpt_rules.specs.Ioc.Replies.{outbox_of}
use Rattle.mpt_rules.specs.Law.{NothingIsStrange}
use Rattle.mpt_rules.specs.World.Counts.{one_if}
use Rattle.mpt_rules.specs.World.Lines.{down_line, high_line, high_posts, normal_line, normal_posts, said_of}
use Rattle.mpt_rules.specs.World.State.{World, up_on, with_up}
use Rattle.mpt_rules.proofs.Lines.{high_posts-append, normal_posts-append}
use Rattle.law_facts.specs.Clock.{in_normal}
use Rattle.law_facts.specs.Facts.{Facts}
use Rattle.law_facts.specs.History.{History}
use Rattle.law_facts.specs.Words.{is_calm_said, is_off, is_post, slot}
use Rattle.law_moves.proofs.Counted.{none_passes, others-cons}
use Rattle.law_moves.proofs.HostSpeaks.{Rises, hands_back, is_enable, is_handed_back, says_back}
use Rattle.law_moves.proofs.HostSpeaks as speaks
use Rattle.law_lives.proofs.HostDoes as does
use Rattle.law_lives.proofs.HostDoes.{Alike, HostDoes}
use Rattle.law_removals.proofs.Grown as grown
use Rattle.law_removals.proofs.HostLines.{Anew, FreshHigh, FreshNormal, HostLine, LessOf, MoreOf, SameOf, by_does, of_reply}
use Rattle.law_removals.proofs.Lines.{Part, part_append, part_itself, part_none}

handed_no_post : (x : Down) → is_handed_back x ≡ true → is_post x ≡ false
handed_no_post (down.Post d f p) e = absurd (cc)
handed_no_post (down.Write reg value) e = refl
handed_no_post (down.Read reg) e = refl
handed_no_post (down.Return address i) e = refl
handed_no_post down.Stop e = refl

off_apart : (m : HostState) → is_off m ≡ false → is_resetting m ≡ false → (is_starting m || is_up m) ≡ true
off_apart state.Off o r = absurd (cc)
off_apart state.Starting o r = refl
off_apart state.Up o r = refl
off_apart state.Resetting o r = absurd (cc)

risen : {b : Bool} (x m : HostState) → Rises b x m → (is_starting x || is_up x) ≡ true → (is_starting m || is_up m) ≡ true
risen x m (speaks.Stays e) n = ap (λ y. is_starting y || is_up y) e ∙ n
risen x m (speaks.ComesUp y u e) n = ap (λ y. is_starting y || is_up y) e

-- how the line of a host behaves
pub data Behaves (w v : World) : Type 0 where
  Fewer : Part (normal_line v) (normal_line w) → Part (high_line v) (high_line w) → Behaves w v
  More : in_normal v ≡ true → (hand : ℕ) (news above : List Post) → normal_line v ≡ normal_line w ++ news → high_line v ≡ high_line w ++ above
      → All (λ (p : Post). FreshNormal w hand v.host (slot v.host (smid_in p.descriptor))) news → All (λ (p : Post). FreshHigh w hand v.host p (slot v.host (smid_in p.descriptor))) above → Behaves w v

module _ (w : World) (h : History) (f : Facts w h) (plain : NothingIsStrange w) where
  -- ---- lines of a host that has another outbox

  line_is : (k : Host) → normal_posts k.out ≡ normal_posts w.host.out → w.ioc.normal ++ normal_posts (w.down ++ k.out) ≡ normal_line w
  line_is k e = ap (λ ps. w.ioc.normal ++ ps) (normal_posts-append w.down k.out ∙ (ap (λ ps. normal_posts w.down ++ ps) e ∙ sym (normal_posts-append w.down w.host.out)))

  line_more : (k : Host) (news : List Post) → normal_posts k.out ≡ normal_posts w.host.out ++ news → w.ioc.normal ++ normal_posts (w.down ++ k.out) ≡ normal_line w ++ news
  line_more k news e =
      ap (λ ps. w.ioc.normal ++ ps) (normal_posts-append w.down k.out ∙ (ap (λ ps. normal_posts w.down ++ ps) e ∙ (sym (append_assoc (normal_posts w.down) (normal_posts w.host.out) news) ∙ ap (λ ps. ps ++ news) (sym (normal_posts-append w.down w.host.out)))))
      ∙ sym (append_assoc w.ioc.normal (normal_posts (down_line w)) news)

  line_less : (k : Host) → normal_posts k.out ≡ [] → Part (w.ioc.normal ++ normal_posts (w.down ++ k.out)) (normal_line w)
  line_less k e =
      part_append w.ioc.normal w.ioc.normal (normal_posts (w.down ++ k.out)) (normal_posts (down_line w)) (part_itself w.ioc.normal)
      (subst (λ ps. Part ps (normal_posts (down_line w))) (sym (normal_posts-append w.down k.out)) (subst (λ ps. Part (normal_posts w.down ++ normal_posts k.out) ps) (sym (normal_posts-append w.down w.host.out))
      (part_append (normal_posts w.down) (normal_posts w.down) (normal_posts k.out) (normal_posts w.host.out) (part_itself (normal_posts w.down)) (subst (λ ps. Part ps (normal_posts w.host.out)) (sym e) (part_none (normal_posts w.host.out))))))

  line_same : (k : Host) → normal_posts k.out ≡ normal_posts w.host.out → Part (w.ioc.normal ++ normal_posts (w.down ++ k.out)) (normal_line w)
  line_same k e = subst (λ ps. Part ps (normal_line w)) (sym (line_is k e)) (part_itself (normal_line w))

  high_is : (k : Host) → high_posts k.out ≡ high_posts w.host.out → w.ioc.high ++ high_posts (w.down ++ k.out) ≡ high_line w
  high_is k e = ap (λ ps. w.ioc.high ++ ps) (high_posts-append w.down k.out ∙ (ap (λ ps. high_posts w.down ++ ps) e ∙ sym (high_posts-append w.down w.host.out)))

  high_more : (k : Host) (news : List Post) → high_posts k.out ≡ high_posts w.host.out ++ news → w.ioc.high ++ high_posts (w.down ++ k.out) ≡ high_line w ++ news
  high_more k news e =
      ap (λ ps. w.ioc.high ++ ps) (high_posts-append w.down k.out ∙ (ap (λ ps. high_posts w.down ++ ps) e ∙ (sym (append_assoc (high_posts w.down) (high_posts w.host.out) news) ∙ ap (λ ps. ps ++ news) (sym (high_posts-append w.down w.host.out)))))
      ∙ sym (append_assoc w.ioc.high (high_posts (down_line w)) news)

  high_less : (k : Host) → high_posts k.out ≡ [] → Part (w.ioc.high ++ high_posts (w.down ++ k.out)) (high_line w)
  high_less k e =
      part_append w.ioc.high w.ioc.high (high_posts (w.down ++ k.out)) (high_posts (down_line w)) (part_itself w.ioc.high)
      (subst (λ ps. Part ps (high_posts (down_line w))) (sym (high_posts-append w.down k.out)) (subst (λ ps. Part (high_posts w.down ++ high_posts k.out) ps) (sym (high_posts-append w.down w.host.out))
      (part_append (high_posts w.down) (high_posts w.down) (high_posts k.out) (high_posts w.host.out) (part_itself (high_posts w.down)) (subst (λ ps. Part ps (high_posts w.host.out)) (sym e) (part_none (high_posts w.host.out))))))

  high_same : (k : Host) → high_posts k.out ≡ high_posts w.host.out → Part (w.ioc.high ++ high_posts (w.down ++ k.out)) (high_line w)
  high_same k e = subst (λ ps. Part ps (high_line w)) (sym (high_is k e)) (part_itself (high_line w))

  -- whatever the host does but with a reply; u is the lanes up behind it
  pub host_does : (u : List (List Up)) (k : Host) → HostLine w k → Behaves w (record w { up = u; host = k })
  host_does u k (SameOf e o p) = Fewer (line_same k e) (high_same k o)
  host_does u k (LessOf e o) = Fewer (line_less k e) (high_less k o)
  host_does u k (Anew l e o) = Fewer (line_same k e) (high_same k o)
  host_does u k (MoreOf n r) = More n 0 r.normal_news r.high_news (line_more k r.normal_news r.normal_is) (high_more k r.high_news r.high_is) r.normal_new r.high_new

  -- ---- a reply

  not_off : (queue d : ℕ) (o : Option (List ℕ)) (page sense : List ℕ) (rest : List Up) → up_on w queue ≡ upward.Reply d o page sense ∷ rest → is_off w.host.mode ≡ false
  not_off queue d o page sense rest e = by_mode (is_off w.host.mode) refl
    where
      loud : (o : Option (List ℕ)) → one_if (Rattle.std.proofs.Common.not (is_calm_said (said_of (upward.Reply d o page sense)))) ≡ 1
      loud None = refl
      loud (Some x) = refl

      by_mode : (b : Bool) → is_off w.host.mode ≡ b → b ≡ false
      by_mode false t = refl
      by_mode true t =
          let z = (f.clock.phase_table.off t).up queue in
          let y = ap (λ xs. Rattle.law_facts.specs.Words.others is_calm_said (map said_of xs ++ outbox_of w.ioc queue)) e in
          let c = others-cons is_calm_said (said_of (upward.Reply d o page sense)) (map said_of rest ++ outbox_of w.ioc queue) in
          let l = loud o in
          absurd (omega (arith, z, y, c, l))

  replied : (u : List (List Up)) (queue d : ℕ) (o : Option (List ℕ)) (page sense : List ℕ) (rest : List Up) → up_on w queue ≡ upward.Reply d o page sense ∷ rest → Behaves w (record w { up = u; host = (hears_up w.host queue (upward.Reply d o page sense)).part })
  replied u queue d o page sense rest e = by_mode (is_resetting w.host.mode) refl
    where
      by_mode : (b : Bool) → is_resetting w.host.mode ≡ b → Behaves w (record w { up = u; host = (hears_up w.host queue (upward.Reply d o page sense)).part })
      by_mode true m =
          let s = (hands_back w.host m (f.doorbell.fresh_start.given_up m).0 is_handed_back (λ v. refl) (λ e a i. refl) queue d o page sense).grows in
          let z = does.none_normal s.added (none_passes is_handed_back is_post handed_no_post s.added s.mild) in
          let y = does.none_high s.added (none_passes is_handed_back is_post handed_no_post s.added s.mild) in
          Fewer
          (line_same (hears_up w.host queue (upward.Reply d o page sense)).part (ap normal_posts s.is ∙ (normal_posts-append w.host.out s.added ∙ (ap (λ ps. normal_posts w.host.out ++ ps) z ∙ append-nil (normal_posts w.host.out)))))
          (high_same (hears_up w.host queue (upward.Reply d o page sense)).part (ap high_posts s.is ∙ (high_posts-append w.host.out s.added ∙ (ap (λ ps. high_posts w.host.out ++ ps) y ∙ append-nil (high_posts w.host.out)))))
      by_mode false m =
          let n : in_normal w ≡ true = off_apart w.host.mode (not_off queue d o page sense rest e) m in
          let y = does.entry_taken w.host queue d o in
          let r = of_reply w (smid_in d) (hears_up w.host queue (upward.Reply d o page sense)).part
          (grown.reply w h f n d (replies.takes_entry (replies.with_frame_heard w.host d o) queue) y (ap is_resetting y.mode_is ∙ m) (replies.heard_of d o page sense) (slot w.host (smid_in d)) refl) in
          let s = (says_back (is_enable (replies.request_of w.host (smid_in d))) w.host m queue d o page sense refl).rises in
          More (risen w.host.mode (hears_up w.host queue (upward.Reply d o page sense)).part.mode s n) (smid_in d) r.normal_news r.high_news (line_more (hears_up w.host queue (upward.Reply d o page sense)).part r.normal_news r.normal_is)
          (high_more (hears_up w.host queue (upward.Reply d o page sense)).part r.high_news r.high_is) r.normal_new r.high_new

  pub taken : (queue : ℕ) (x : Up) (rest : List Up) → up_on w queue ≡ x ∷ rest → Behaves w (record (with_up w queue rest) { host = (hears_up w.host queue x).part })
  taken queue (upward.Reply d o page sense) rest e = replied (with_up w queue rest).up queue d o page sense rest e
  taken queue (upward.Value v) rest e = host_does (with_up w queue rest).up (hears_up w.host queue (upward.Value v)).part (by_does w h f _ (does.takes w h f plain queue (upward.Value v) rest e tt))
  taken queue (upward.Mark v) rest e = host_does (with_up w queue rest).up (hears_up w.host queue (upward.Mark v)).part (by_does w h f _ (does.takes w h f plain queue (upward.Mark v) rest e tt))
  taken queue upward.Calm rest e = host_does (with_up w queue rest).up (hears_up w.host queue upward.Calm).part (by_does w h f _ (does.takes w h f plain queue upward.Calm rest e tt))

  pub told : (j : Input) → Behaves w (record w { host = (host_told w.host j).part })
  told j = host_does w.up (host_told w.host j).part (by_does w h f _ (does.told w j))

  pub looked : Behaves w (record w { host = looks w.host })
  looked = host_does w.up (looks w.host) (by_does w h f _ (does.looks w))

  pub stopped : Behaves w (record w { host = stops w.host })
  stopped = host_does w.up (stops w.host) (by_does w h f _ (does.stops w))
