-- Each case keeps that no mark comes on queue 0, and that there are as many queues.
use Rattle.std.proofs.Common.{◌≡◌, ℕ, ◌+◌, Bool, true, false, List, [], ◌∷◌, ◌++◌, map, length, get_or, set, length-set, Option, Some, None, refl, ap, sym, ◌∙◌, subst, arith}
use Rattle.std.specs.List.{filter}
use Rattle.mpi_doorbell.specs.DoorRegisters.{is_fault}
use Rattle.mpt_trace.specs.declared.item.Back.{Back}
use Rattle.mpt_trace.specs.declared.item.Down.{Down}
use Rattle.mpt_trace.specs.declared.item.Down.TheVariants as down
use Rattle.mpt_trace.specs.declared.item.Up.{Up}
use Rattle.mpt_rules.specs.declared.said.Said.{Said}
use Rattle.mpt_rules.specs.declared.said.Said.TheVariants as said
use Rattle.mpt_rules.specs.World.Cases.{Case, happens}
use Rattle.mpt_rules.specs.World.Counts.{how_many, is_mark, mark_count, one_if}
use Rattle.mpt_rules.specs.Host.Returns.{after_sent}
use Rattle.mpt_rules.specs.Ioc.Takes as adapter
use Rattle.mpt_rules.specs.Ioc.Parts.{Ioc, state_of}
use Rattle.mpt_rules.specs.Ioc.Replies as say
use Rattle.mpt_rules.specs.Ioc.Resets.{marked, next_generation, outlives_reset}
use Rattle.mpt_rules.specs.Ioc.Steps as step
use Rattle.mpt_rules.specs.World.Lines.{said_of, up_line}
use Rattle.mpt_rules.specs.Outcome.{Happening}
use Rattle.mpt_rules.specs.World.State.{World, queues_of, up_on, with_up}
use Rattle.mpt_rules.proofs.Counts.{how_many-append}
use Rattle.law_facts.specs.Clock.{Clock}
use Rattle.law_facts.specs.History.{History}
use Rattle.law_facts.specs.Words.{is_reply}
use Rattle.law_clock.specs.Premises.{Before, Behind}
use Rattle.law_moves.proofs.Cases.{Owes, kept}
use Rattle.law_moves.proofs.Counted.{Grown, filter_passes, grown-before, grown-count, how_many-cons, how_many-nil, none_passes}
use Rattle.law_moves.proofs.IocSpeaks.{IocSpeaks, News, Speaks as SpeaksBack, Unlinked, LinkedUp, CalmTold, is_asked_out, never_out, news}
use Rattle.law_moves.proofs.IocTakes.{Takes, Faults, Written, Operates, Forgets, Reads, Posts, DropsPost, Returns, DropsReturn, Stops, takes}
use Rattle.law_clock.proofs.PhaseKept as phase
use Rattle.law_moves.proofs.UpChanges.{line_of, put_of, said_of_more, swapped, taken_of}
use Rattle.law_moves.proofs.UpLines as lines
use Rattle.law_resets.proofs.MarksKept.{reply_no_mark}

outlives_no_mark : (x : Said) → outlives_reset x ≡ true → is_mark x ≡ false
outlives_no_mark (said.Mark n) e = absurd (cc)
outlives_no_mark (said.Value v) e = refl
outlives_no_mark (said.Success s p q) e = absurd (cc)
outlives_no_mark (said.Framed s f p q) e = absurd (cc)
outlives_no_mark said.Calm e = refl

first_left : (g : ℕ) (us : List (List Said)) → how_many is_mark (get_or (marked g (map (filter outlives_reset) us)) 0 []) ≡ 0
first_left g [] = how_many-nil is_mark
first_left g (u ∷ us) = none_passes outlives_reset is_mark outlives_no_mark (filter outlives_reset u) (filter_passes outlives_reset u)

module _ (w : World) (h : History) (b : Before w h) where
  k : Clock w h
  k = b.facts.clock

  abbrev Kept : World → Type 0
  Kept v = Behind v → how_many is_mark (up_line v 0) ≡ 0

  s : how_many is_mark (up_line w 0) ≡ 0
  unfolding mark_count
  s = k.marks.first

  parts : how_many is_mark (up_line w 0) ≡ how_many is_mark (map said_of (get_or w.up 0 [])) + how_many is_mark (get_or w.ioc.up 0 [])
  parts = how_many-append is_mark (map said_of (get_or w.up 0 [])) (get_or w.ioc.up 0 [])

  abbrev In : Ioc → Type 0
  In i = how_many is_mark (line_of w.up i.up 0) ≡ 0

  same_up : (i : Ioc) → i.up ≡ w.ioc.up → In i
  same_up i e = ap (λ us. how_many is_mark (line_of w.up us 0)) e ∙ s

  more : (x : Said) → is_mark x ≡ false → how_many is_mark (line_of w.up (set w.ioc.up 0 (get_or w.ioc.up 0 [] ++ x ∷ [])) 0) ≡ 0
  more x e =
      let o = how_many-cons is_mark x [] in let n = how_many-nil {X = Said} is_mark in let z : one_if (is_mark x) ≡ 0 = ap one_if e in
      said_of_more w.up w.ioc.up 0 0 (λ ys. how_many is_mark ys ≡ 0) (x ∷ []) (λ ys p. let a = how_many-append is_mark ys (x ∷ []) in omega (arith, a, o, n, z, p)) s

  grown : (i : Ioc) → Grown is_reply (get_or w.ioc.up 0 []) (get_or i.up 0 []) → In i
  grown i g = grown-count is_reply is_mark (up_line w 0) (line_of w.up i.up 0) reply_no_mark (grown-before is_reply (map said_of (get_or w.up 0 [])) (get_or w.ioc.up 0 []) (get_or i.up 0 []) g) ∙ s

  taken : (x : Down) (i : Ioc) → Takes w.ioc x i → is_fault (state_of i) ≡ false → In i
  taken x i (Faults y j f) z = absurd (cc)
  taken x i (Written reg value j nr st sa) z = same_up i (ap (λ (y : Ioc). y.up) sa)
  taken x i (Operates value j nr r st sa) z = same_up i (ap (λ (y : Ioc). y.up) sa)
  taken x i (Forgets reg value d r) z =
      let a = s in let p = parts in
      let c = how_many-append is_mark (map said_of (get_or w.up 0 [])) (get_or (marked (next_generation w.ioc) (map (filter outlives_reset) w.ioc.up)) 0 []) in
      let f = first_left (next_generation w.ioc) w.ioc.up in
      omega (arith, a, p, c, f)
  taken x i (Reads reg value) z = more (said.Value value) refl
  taken x i (Posts d f p j o sa) z = same_up i (ap (λ (y : Ioc). y.up) sa)
  taken x i (DropsPost d f p o) z = s
  taken x i (Returns address index j o sa) z = same_up i (ap (λ (y : Ioc). y.up) sa)
  taken x i (DropsReturn address index o) z = s
  taken x i Stops z = s

  told : (x : Back) (o : Happening Ioc) → News never_out w.ioc x o → In o.part
  told x o (SpeaksBack l p) = grown o.part (p.says 0)
  told x o (Unlinked m i z e) = subst (λ (y : Happening Ioc). In y.part) (sym e) s
  told x o (LinkedUp m i g r e) = subst (λ (y : Happening Ioc). In y.part) (sym e) s
  told x o (CalmTold i e) = subst (λ (y : Happening Ioc). In y.part) (sym e) (more said.Calm refl)

  put : (x : Down) (rest : List Down) → how_many is_mark (up_line (record w { host = after_sent w.host x rest; down = w.down ++ x ∷ [] }) 0) ≡ 0
  put (down.Return address index) rest = s
  put (down.Write reg value) rest = s
  put (down.Read reg) rest = s
  put (down.Post d f p) rest = s
  put down.Stop rest = s

  owes : Owes Kept w
  owes =
      record {
        host_puts = λ x rest e v. put x rest;
        host_takes = λ queue x rest e y v. taken_of w.up w.ioc.up queue 0 (λ xs. how_many is_mark xs ≡ 0) x rest e (λ xs p. let a = how_many-cons is_mark (said_of x) xs in omega (arith, a, p)) s;
        host_told = λ i t v. s;
        host_looks = λ e v. s;
        host_stops = λ e v. s;
        ioc_takes = λ x rest e v. taken x (adapter.takes_down w.ioc x).part (takes w.ioc b.facts.doorbell.sound.waits k.phase_table.whole x) v.whole;
        ioc_high = λ p rest e v. grown (step.works_on (record w.ioc { high = rest }) p).part ((phase.high_words w h b p rest).says 0);
        ioc_normal = λ p rest e v. grown (step.works_on (record w.ioc { normal = rest }) p).part ((phase.normal_words w h b p rest).says 0);
        ioc_puts_out = λ x rest e v. s;
        ioc_takes_back = λ x rest e v. told x (adapter.takes_back w.ioc x) (news never_out w.ioc x);
        ioc_puts = λ queue y rest z e u v.
            let a = lines.put_alike y (Rattle.std.proofs.Common.slice_get w.ioc.ring 0) z u in
            put_of w.up w.ioc.up queue 0 (λ xs. how_many is_mark xs ≡ 0) y rest z e (b.facts.flights.sizes.lanes ∙ sym b.facts.flights.sizes.outboxes) (λ xs ys p. swapped (said_of z) y is_mark a.mark xs ys ∙ p) s;
        fabric_takes = λ x rest e v. s;
        fabric_says = λ x rest e v. s;
        fabric_puts = λ x rest e v. s;
        fabric_runs = λ tag address e v. s;
        plugs = λ address expander phy v. s;
        unplugs = λ address v. s;
        calms = λ v. s;
      }

  pub first_kept : (c : Case) → Behind (happens w c) → mark_count (up_line (happens w c) 0) ≡ 0
  unfolding mark_count
  first_kept c v = kept Kept w b.plain owes (λ y. s) c v

  abbrev AsMany : World → Type 0
  AsMany v = queues_of v ≡ queues_of w

  put_down : (x : Down) (rest : List Down) → queues_of (record w { host = after_sent w.host x rest; down = w.down ++ x ∷ [] }) ≡ queues_of w
  put_down (down.Return address index) rest = refl
  put_down (down.Write reg value) rest = refl
  put_down (down.Read reg) rest = refl
  put_down (down.Post d f p) rest = refl
  put_down down.Stop rest = refl

  many : Owes AsMany w
  many =
      record {
        host_puts = λ x rest e. put_down x rest;
        host_takes = λ queue x rest e y. length-set w.up queue rest;
        host_told = λ i t. refl;
        host_looks = λ e. refl;
        host_stops = λ e. refl;
        ioc_takes = λ x rest e. refl;
        ioc_high = λ p rest e. refl;
        ioc_normal = λ p rest e. refl;
        ioc_puts_out = λ x rest e. refl;
        ioc_takes_back = λ x rest e. refl;
        ioc_puts = λ queue y rest z e u. length-set w.up queue (up_on w queue ++ z ∷ []);
        fabric_takes = λ x rest e. refl;
        fabric_says = λ x rest e. refl;
        fabric_puts = λ x rest e. refl;
        fabric_runs = λ tag address e. refl;
        plugs = λ address expander phy. refl;
        unplugs = λ address. refl;
        calms = refl;
      }

  pub queues_kept : (c : Case) → queues_of (happens w c) ≡ queues_of w
  queues_kept c = kept AsMany w b.plain many refl c
