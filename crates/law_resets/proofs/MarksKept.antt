-- Each case keeps a reset's mark: it is the last on each lane above the first, until it was taken.
use Rattle.std.proofs.Common.{◌≡◌, ℕ, zero, suc, ◌+◌, ◌%◌, ◌^◌, ◌<◌, ◌≤◌, ◌==◌, ◌&&◌, ◌||◌, not, cond, if◌then◌else◌, nat_lt, Bool, true, false, List, [], ◌∷◌, ◌++◌, map, length, get_or, replicate, set, slice_index_or, slice_set, Option, Some, None, refl, ap, sym, ◌∙◌, subst, arith, append_assoc}
use Rattle.std.specs.List.{filter, list_all}
use Rattle.std.proofs.lemmas.Bool.{eqb-true}
use Rattle.mpi_doorbell.specs.DoorRegisters.{is_fault}
use Rattle.mpt_trace.specs.declared.host_state.HostState.{HostState}
use Rattle.mpt_trace.specs.declared.item.Back.{Back}
use Rattle.mpt_trace.specs.declared.item.Down.{Down}
use Rattle.mpt_trace.specs.declared.item.Down.TheVariants as down
use Rattle.mpt_trace.specs.declared.item.Up.{Up}
use Rattle.mpt_trace.specs.declared.item.Up.TheVariants as upward
use Rattle.mpt_rules.specs.declared.said.Said.{Said}
use Rattle.mpt_rules.specs.declared.said.Said.TheVariants as said
use Rattle.mpt_rules.specs.World.Cases.{Case, happens}
use Rattle.mpt_rules.specs.World.Counts.{how_many, is_mark, is_mark_of, mark_count, mark_count_of, one_if}
use Rattle.mpt_rules.specs.Host.Parts.{Host, host_queue_count}
use Rattle.mpt_rules.specs.Host.Resets as resets
use Rattle.mpt_rules.specs.Host.Returns.{after_sent}
use Rattle.mpt_rules.specs.Ioc.Takes as adapter
use Rattle.mpt_rules.specs.Ioc.Parts.{Ioc, state_of}
use Rattle.mpt_rules.specs.Ioc.Replies as say
use Rattle.mpt_rules.specs.Ioc.Resets.{marked, next_generation, outlives_reset}
use Rattle.mpt_rules.specs.Ioc.Steps as step
use Rattle.mpt_rules.specs.World.Lines.{said_of, up_line}
use Rattle.mpt_rules.specs.Outcome.{Happening}
use Rattle.mpt_rules.specs.World.State.{World, queues_of, up_on, with_up}
use Rattle.mpt_rules.proofs.Counts.{how_many-append}
use Rattle.law_facts.specs.Clock.{Clock, MarkStands, Marks, has_mark, in_asked, in_begun, is_live}
use Rattle.law_facts.specs.History.{History}
use Rattle.law_facts.specs.Words.{is_bare, is_reply, is_reply_or_mark, others}
use Rattle.law_flights.proofs.Tables.{get_or-set_any}
use Rattle.law_clock.specs.Premises.{Before, Behind}
use Rattle.law_moves.proofs.Cases.{Owes, kept}
use Rattle.law_moves.proofs.Counted.{Grown, all_pass, fewer_pass, filtered, filter_passes, grown-before, grown-count, how_many-cons, how_many-nil, later, later-first, later-is, later-none, later-open, later-opened, later-taken, none_passes, others-append, others-cons, others-nil}
use Rattle.law_moves.proofs.HostGoes as goes
use Rattle.law_moves.proofs.HostGoes.{AMark, AValue, Front, Heard, HostGoes, NoNews, Same, Says, Hands, Values, MarkTaken, MarkOver, Starts, Asks, AsksNow, Looks, StopsNow, heard_of}
use Rattle.law_moves.proofs.HostSpeaks.{Rises, Stays, ComesUp}
use Rattle.law_moves.proofs.IocSpeaks.{CalmSaid, Deaf, IocSpeaks, News, Silent, Speaks as SpeaksBack, Unlinked, LinkedUp, CalmTold, deaf, is_asked_out, never_out, news}
use Rattle.law_moves.proofs.IocTakes.{Takes, Faults, Written, Operates, Forgets, Reads, Posts, DropsPost, Returns, DropsReturn, Stops, takes}
use Rattle.law_clock.proofs.NoReplyKept as replies
use Rattle.law_clock.proofs.PhaseKept as phase
use Rattle.law_moves.proofs.Phases.{and_false, begun_of, not_begun, off_second, off_test, phased_of}
use Rattle.law_moves.proofs.UpChanges.{line_of, put_mark_of, put_of, said_elsewhere, said_of_more, swapped, swapped_later, swapped_others, taken_here, taken_of, taken_other}
use Rattle.law_moves.proofs.UpLines as lines
use Rattle.law_moves.proofs.Valuing.{HearsValue, IsOverNow, IsReady, SpeaksOn, TurnsOn, UnitLate}
use Rattle.law_clock.proofs.ValueKept.{BegunOf, false_true, keeps_begun, normal_rise}
use Rattle.mpt_wire.specs.Machine.Causes.{is_resetting}

-- ---- what a call of the host does to the phase and to the marks that were taken

abbrev pub AskedOf : World → Host → Bool
AskedOf w x = is_resetting x.mode && not (x.asked == w.ioc.generation)

pub data Marked (w : World) (x : Host) : Heard → Type 0 where
  Keeps : (t : Heard) → BegunOf w x ≡ in_begun w → AskedOf w x ≡ in_asked w → x.marks ≡ w.host.marks → goes.is_mark_heard t ≡ false → Marked w x t
  MarksIt : (queue : ℕ) → BegunOf w x ≡ in_begun w → AskedOf w x ≡ in_asked w → x.marks ≡ slice_set w.host.marks queue true → Marked w x (AMark queue)
  OverValue : in_begun w ≡ true → BegunOf w x ≡ false → AskedOf w x ≡ false → list_all (λ t. t) (Rattle.std.proofs.Common.drop 1 w.host.marks) ≡ true → Marked w x AValue
  OverMark : (queue : ℕ) → in_begun w ≡ true → BegunOf w x ≡ false → AskedOf w x ≡ false → list_all (λ t. t) (Rattle.std.proofs.Common.drop 1 (slice_set w.host.marks queue true)) ≡ true → Marked w x (AMark queue)
  AsksIt : is_resetting w.host.mode ≡ false → BegunOf w x ≡ false → x.marks ≡ resets.marks_not_taken w.host → Marked w x NoNews

module _ (w : World) (h : History) (b : Before w h) where
  k : Clock w h
  k = b.facts.clock

  same_begun : (x : Host) → x.mode ≡ w.host.mode → x.asked ≡ w.host.asked → BegunOf w x ≡ in_begun w
  same_begun x m a = ap (λ y. is_resetting y && (x.asked == w.ioc.generation)) m ∙ ap (λ y. is_resetting w.host.mode && (y == w.ioc.generation)) a

  same_asked : (x : Host) → x.mode ≡ w.host.mode → x.asked ≡ w.host.asked → AskedOf w x ≡ in_asked w
  same_asked x m a = ap (λ y. is_resetting y && not (x.asked == w.ioc.generation)) m ∙ ap (λ y. is_resetting w.host.mode && not (y == w.ioc.generation)) a

  as_before : (t : Heard) (x : Host) → goes.is_mark_heard t ≡ false → x.mode ≡ w.host.mode → x.asked ≡ w.host.asked → x.marks ≡ w.host.marks → Marked w x t
  as_before t x i m a e = Keeps t (same_begun x m a) (same_asked x m a) e i

  normal_on : (t : Heard) (x : Host) → goes.is_mark_heard t ≡ false → is_resetting w.host.mode ≡ false → is_resetting x.mode ≡ false → x.marks ≡ w.host.marks → Marked w x t
  normal_on t x i m n e =
      Keeps t (off_test (is_resetting x.mode) (x.asked == w.ioc.generation) n ∙ sym (off_test (is_resetting w.host.mode) (w.host.asked == w.ioc.generation) m))
      (off_test (is_resetting x.mode) (not (x.asked == w.ioc.generation)) n ∙ sym (off_test (is_resetting w.host.mode) (not (w.host.asked == w.ioc.generation)) m)) e i

  asking : (x : Host) → is_resetting w.host.mode ≡ false → x.asked ≡ (w.host.asked + 1) % 2 ^ 32 → x.marks ≡ resets.marks_not_taken w.host → Marked w x NoNews
  asking x m a e =
      let p = phased_of w k.phase_table in
      let lev = phase.level_phase w.host.mode w.host.asked w.ioc.generation (state_of w.ioc) p m in
      AsksIt m (off_second (is_resetting x.mode) (x.asked == w.ioc.generation) (not_begun x.mode x.asked w.ioc.generation p.generation_fits (a ∙ ap (λ i. (i + 1) % 2 ^ 32) lev.0))) e

  valued : (x : Host) → HearsValue w x → Marked w x AValue
  valued x (TurnsOn c u t d lst) = as_before AValue x refl t.mode_is t.asked_is t.marks_is
  valued x (UnitLate m r u) = as_before AValue x refl u.turn.mode_is u.turn.asked_is u.turn.marks_is
  valued x (SpeaksOn m e t n q) = normal_on AValue x refl (ap is_resetting e) (normal_rise w h b m.mode x.mode (ap is_resetting (t.mode_is ∙ e)) q.rises) (q.marks_is ∙ t.marks_is)
  valued x (IsReady m r l t n a d e) = as_before AValue x refl (ap (λ (y : Host). y.mode) e ∙ t.mode_is) (ap (λ (y : Host). y.asked) e ∙ t.asked_is) (ap (λ (y : Host). y.marks) e ∙ t.marks_is)
  valued x (IsOverNow m r l t n a t2) =
      OverValue (and_false _ _ l).0 (off_test (is_resetting x.mode) (x.asked == w.ioc.generation) (ap is_resetting t2.mode_is)) (off_test (is_resetting x.mode) (not (x.asked == w.ioc.generation)) (ap is_resetting t2.mode_is))
      (ap (λ xs. list_all (λ t. t) (Rattle.std.proofs.Common.drop 1 xs)) (sym t.marks_is) ∙ a)

  pub marked_by : {t : Heard} (x : Host) → HostGoes w x t → Marked w x t
  marked_by x (Same e) = as_before NoNews x refl (ap (λ (y : Host). y.mode) e) (ap (λ (y : Host). y.asked) e) (ap (λ (y : Host). y.marks) e)
  marked_by x (Says m o en q sp) = normal_on NoNews x refl m (normal_rise w h b w.host.mode x.mode m q.rises) q.marks_is
  marked_by x (Hands m q ix rf) = by_rise q.rises
    where
      by_rise : Rises false w.host.mode x.mode → Marked w x NoNews
      by_rise (Stays e) = as_before NoNews x refl e q.asked_is q.marks_is
      by_rise (ComesUp u r e) = absurd (cc)
  marked_by x (Values r vl fr v) = valued x v
  marked_by x (MarkTaken queue m e) = let md = ap (λ (y : Host). y.mode) e in let a = ap (λ (y : Host). y.asked) e in MarksIt queue (same_begun x md a) (same_asked x md a) (ap (λ (y : Host). y.marks) e)
  marked_by x (MarkOver queue m gn fr d a t) =
      OverMark queue (and_false _ _ (k.value_is_last.ready d).linked).0 (off_test (is_resetting x.mode) (x.asked == w.ioc.generation) (ap is_resetting t.mode_is)) (off_test (is_resetting x.mode) (not (x.asked == w.ioc.generation)) (ap is_resetting t.mode_is)) a
  marked_by x (Starts e t) = normal_on NoNews x refl (ap is_resetting e) (ap is_resetting t.mode_is) t.marks_is
  marked_by x (Asks st m o r e) = asking x m (ap (λ (y : Host). y.asked) e) (ap (λ (y : Host). y.marks) e)
  marked_by x (AsksNow st c m o r cs t y) = asking x m t.asked_is t.marks_is
  marked_by x (Looks u r t) = as_before NoNews x refl t.mode_is t.asked_is t.marks_is
  marked_by x (StopsNow u e) = as_before NoNews x refl (ap (λ (y : Host). y.mode) e) (ap (λ (y : Host). y.asked) e) (ap (λ (y : Host). y.marks) e)

-- ---- a line, over fields

pub record MarkLine (begun asked has : Bool) (g : ℕ) (xs : List Said) : Type 0 where
  pub kinds : others is_reply_or_mark xs ≡ 0
  pub this : begun ≡ true → how_many (is_mark_of g) xs ≡ one_if (not has)
  pub one : begun ≡ true → how_many is_mark xs ≡ one_if (not has)
  pub last : later is_mark is_reply xs ≡ 0
  pub over : begun ≡ true → has ≡ true → how_many is_reply xs ≡ 0
  pub none : begun ≡ false → how_many is_mark xs ≡ 0
  pub early : asked ≡ true → has ≡ false

mark_of : (g : ℕ) (x : Said) → is_mark_of g x ≡ true → is_mark x ≡ true
mark_of g (said.Mark n) e = refl
mark_of g (said.Value v) e = absurd (cc)
mark_of g (said.Success s p q) e = absurd (cc)
mark_of g (said.Framed s f p q) e = absurd (cc)
mark_of g said.Calm e = absurd (cc)

no_mark_of : (g : ℕ) (x : Said) → is_mark x ≡ false → one_if (is_mark_of g x) ≡ 0
no_mark_of g (said.Mark n) e = absurd (cc)
no_mark_of g (said.Value v) e = refl
no_mark_of g (said.Success s p q) e = refl
no_mark_of g (said.Framed s f p q) e = refl
no_mark_of g said.Calm e = refl

reply_kind : (x : Said) → is_reply x ≡ true → is_reply_or_mark x ≡ true
reply_kind (said.Mark n) e = refl
reply_kind (said.Value v) e = absurd (cc)
reply_kind (said.Success s p q) e = refl
reply_kind (said.Framed s f p q) e = refl
reply_kind said.Calm e = absurd (cc)

pub reply_no_mark : (x : Said) → is_reply x ≡ true → is_mark x ≡ false
reply_no_mark (said.Mark n) e = absurd (cc)
reply_no_mark (said.Value v) e = absurd (cc)
reply_no_mark (said.Success s p q) e = refl
reply_no_mark (said.Framed s f p q) e = refl
reply_no_mark said.Calm e = absurd (cc)

-- an item that is no mark is taken
passed : (begun asked has : Bool) (g : ℕ) (y : Said) (xs : List Said) → is_mark y ≡ false → MarkLine begun asked has g (y ∷ xs) → MarkLine begun asked has g xs
passed begun asked has g y xs n l =
    let a = others-cons is_reply_or_mark y xs in let a0 = l.kinds in
    let c = how_many-cons (is_mark_of g) y xs in let c0 = no_mark_of g y n in
    let d = how_many-cons is_mark y xs in let d0 : one_if (is_mark y) ≡ 0 = ap one_if n in
    let r = how_many-cons is_reply y xs in
    record {
      kinds = omega (arith, a, a0);
      this = λ e. let z = l.this e in omega (arith, c, c0, z);
      one = λ e. let z = l.one e in omega (arith, d, d0, z);
      last = later-taken is_mark is_reply y xs l.last;
      over = λ e f. let z = l.over e f in omega (arith, r, z);
      none = λ e. let z = l.none e in omega (arith, d, z);
      early = l.early;
    }

-- the mark is taken
mark_passed : (begun asked has : Bool) (g n : ℕ) (xs : List Said) → (begun ≡ true → asked ≡ false) → MarkLine begun asked has g (said.Mark n ∷ xs) → (begun ≡ true) × (how_many is_mark xs ≡ 0) × MarkLine begun asked true g xs
mark_passed true asked has g n xs f l =
    let a = others-cons is_reply_or_mark (said.Mark n) xs in let a0 = l.kinds in
    let d = how_many-cons is_mark (said.Mark n) xs in let o = l.one refl in
    let z : how_many is_mark xs ≡ 0 = at_most has (omega (arith, d, o)) in
    let u = fewer_pass (is_mark_of g) is_mark (mark_of g) xs in
    let r = later-opened is_mark is_reply (said.Mark n) xs refl l.last in (
      refl,
      z,
      record {
        kinds = omega (arith, a, a0);
        this = λ e. omega (arith, u, z);
        one = λ e. z;
        last = later-none is_mark is_reply xs z;
        over = λ e q. r;
        none = λ e. absurd (cc);
        early = λ e. absurd (false_true asked (f refl) e);
      },
    )
  where
    at_most : (c : Bool) → 1 + how_many is_mark xs ≡ one_if (not c) → how_many is_mark xs ≡ 0
    at_most true e = absurd (omega (arith, e))
    at_most false e = omega (arith, e)
mark_passed false asked has g n xs f l = let d = how_many-cons is_mark (said.Mark n) xs in let z = l.none refl in absurd (omega (arith, d, z))

-- no reset is begun any more, and none is asked
ended : (begun asked has has2 : Bool) (g : ℕ) (xs : List Said) → how_many is_mark xs ≡ 0 → MarkLine begun asked has g xs → MarkLine false false has2 g xs
ended begun asked has has2 g xs z l = record { kinds = l.kinds; this = λ e. absurd (cc); one = λ e. absurd (cc); last = l.last; over = λ e f. absurd (cc); none = λ e. z; early = λ e. absurd (cc) }

-- one is asked
asked_now : (asked has asked2 : Bool) (g : ℕ) (xs : List Said) → MarkLine false asked has g xs → MarkLine false asked2 false g xs
asked_now asked has asked2 g xs l = record { kinds = l.kinds; this = λ e. absurd (cc); one = λ e. absurd (cc); last = l.last; over = λ e f. absurd (cc); none = l.none; early = λ e. refl }

-- more replies, while none is begun
grown_by : (asked has : Bool) (g : ℕ) (xs ys : List Said) → Grown is_reply xs ys → MarkLine false asked has g xs → MarkLine false asked has g ys
grown_by asked has g xs ys w l =
    let z = grown-count is_reply is_mark xs ys reply_no_mark w in let z0 = l.none refl in
    let a = ap (others is_reply_or_mark) w.is in let c = others-append is_reply_or_mark xs w.added in let d = all_pass is_reply is_reply_or_mark reply_kind w.added w.mild in let e = l.kinds in
    record { kinds = omega (arith, a, c, d, e); this = λ f. absurd (cc); one = λ f. absurd (cc); last = later-none is_mark is_reply ys (omega (arith, z, z0)); over = λ f y. absurd (cc); none = λ f. omega (arith, z, z0); early = l.early }

-- one item for another of its kind
swaps : (begun asked has : Bool) (g : ℕ) (a b : Said) (xs ys : List Said) → is_reply_or_mark a ≡ is_reply_or_mark b → is_mark_of g a ≡ is_mark_of g b → is_mark a ≡ is_mark b → is_reply a ≡ is_reply b → MarkLine begun asked has g (xs ++ b ∷ ys) → MarkLine begun asked has g (xs ++ a ∷ ys)
swaps begun asked has g a b xs ys k o m r l =
    record {
      kinds = swapped_others a b is_reply_or_mark k xs ys ∙ l.kinds;
      this = λ e. swapped a b (is_mark_of g) o xs ys ∙ l.this e;
      one = λ e. swapped a b is_mark m xs ys ∙ l.one e;
      last = swapped_later a b is_mark is_reply m r xs ys ∙ l.last;
      over = λ e f. swapped a b is_reply r xs ys ∙ l.over e f;
      none = λ e. swapped a b is_mark m xs ys ∙ l.none e;
      early = l.early;
    }

kind_is : (a b : Said) → is_mark a ≡ is_mark b → is_reply a ≡ is_reply b → is_reply_or_mark a ≡ is_reply_or_mark b
kind_is a b m r = either a ∙ (ap (λ c. c || is_reply a) m ∙ (ap (λ c. is_mark b || c) r ∙ sym (either b)))
  where
    either : (x : Said) → is_reply_or_mark x ≡ (is_mark x || is_reply x)
    either (said.Mark n) = refl
    either (said.Value v) = refl
    either (said.Success s p q) = refl
    either (said.Framed s f p q) = refl
    either said.Calm = refl

-- ---- a reset's mark is put behind what it leaves

outlives_kind : (x : Said) → outlives_reset x ≡ true → is_reply_or_mark x ≡ false
outlives_kind (said.Mark n) e = absurd (cc)
outlives_kind (said.Value v) e = refl
outlives_kind (said.Success s p q) e = absurd (cc)
outlives_kind (said.Framed s f p q) e = absurd (cc)
outlives_kind said.Calm e = refl

nothing_outlives : (us : List Said) → others is_reply_or_mark us ≡ 0 → filter outlives_reset us ≡ []
nothing_outlives [] z = refl
nothing_outlives (u ∷ us) z = by_test (outlives_reset u) refl (nothing_outlives us (let p = others-cons is_reply_or_mark u us in omega (arith, p, z)))
  where
    o : others is_reply_or_mark (u ∷ us) ≡ one_if (not (is_reply_or_mark u)) + others is_reply_or_mark us
    o = others-cons is_reply_or_mark u us

    by_test : (c : Bool) → outlives_reset u ≡ c → filter outlives_reset us ≡ [] → (if c then u ∷ filter outlives_reset us else filter outlives_reset us) ≡ []
    by_test false e r = r
    by_test true e r = let f : one_if (not (is_reply_or_mark u)) ≡ 1 = ap (λ c. one_if (not c)) (outlives_kind u e) in let p = o in absurd (omega (arith, p, z, f))

marked_above : (g n : ℕ) (us : List (List Said)) → n < length us → get_or (map (λ o. o ++ said.Mark g ∷ []) (map (filter outlives_reset) us)) n [] ≡ filter outlives_reset (get_or us n []) ++ said.Mark g ∷ []
marked_above g n [] l = absurd (omega (arith, l))
marked_above g zero (u ∷ us) l = refl
marked_above g (suc n) (u ∷ us) l = marked_above g n us (omega (arith, l))

marked_at : (g n : ℕ) (us : List (List Said)) → suc n < length us → get_or (marked g (map (filter outlives_reset) us)) (suc n) [] ≡ filter outlives_reset (get_or us (suc n) []) ++ said.Mark g ∷ []
marked_at g n [] l = absurd (omega (arith, l))
marked_at g n (u ∷ us) l = marked_above g n us (omega (arith, l))

pub marked_outbox : (g n : ℕ) (us : List (List Said)) → suc n < length us → others is_reply_or_mark (get_or us (suc n) []) ≡ 0 → get_or (marked g (map (filter outlives_reset) us)) (suc n) [] ≡ said.Mark g ∷ []
marked_outbox g n us l z = marked_at g n us l ∙ ap (λ xs. xs ++ said.Mark g ∷ []) (nothing_outlives (get_or us (suc n) []) z)

-- the mark at the end of a line
marked_line : (has : Bool) (g : ℕ) (xs : List Said) → has ≡ false → others is_reply_or_mark xs ≡ 0 → how_many is_mark xs ≡ 0 → MarkLine true false has g (xs ++ said.Mark g ∷ [])
marked_line has g xs e z m =
    let a = others-append is_reply_or_mark xs (said.Mark g ∷ []) in let a1 = others-cons is_reply_or_mark (said.Mark g) [] in let a0 = others-nil {X = Said} is_reply_or_mark in
    let c = how_many-append is_mark xs (said.Mark g ∷ []) in let c1 = how_many-cons is_mark (said.Mark g) [] in let c0 = how_many-nil {X = Said} is_mark in
    let d = how_many-append (is_mark_of g) xs (said.Mark g ∷ []) in let d1 = how_many-cons (is_mark_of g) (said.Mark g) [] in let d0 = how_many-nil {X = Said} (is_mark_of g) in
    let s : one_if (g == g) ≡ 1 = ap one_if (Rattle.law_moves.proofs.Phases.same_is g) in
    let u = fewer_pass (is_mark_of g) is_mark (mark_of g) xs in
    let h : one_if (not has) ≡ 1 = ap (λ c. one_if (not c)) e in
    record {
      kinds = omega (arith, a, a1, a0, z);
      this = λ f. omega (arith, d, d1, d0, s, u, m, h);
      one = λ f. omega (arith, c, c1, c0, m, h);
      last = later-first is_mark is_reply xs (said.Mark g ∷ []) m ∙ (later-open is_mark is_reply (said.Mark g) [] refl ∙ how_many-nil is_reply);
      over = λ f y. absurd (false_true has e y);
      none = λ f. absurd (cc);
      early = λ f. absurd (cc);
    }

pub suc_not : (n : ℕ) → (suc n == 0) ≡ false
suc_not n = by_test (suc n == 0) refl
  where
    by_test : (c : Bool) → (suc n == 0) ≡ c → c ≡ false
    by_test true e = let z : suc n ≡ 0 = eqb-true (suc n) 0 e in absurd (omega (arith, z))
    by_test false e = refl

-- ---- all cases

abbrev pub MarkWorld : World → ℕ → Type 0
MarkWorld v q = MarkLine (in_begun v) (in_asked v) (has_mark v q) v.ioc.generation (up_line v q)

pub line_stands : (w : World) (q : ℕ) → MarkStands w q → MarkWorld w q
unfolding mark_count mark_count_of
line_stands w q m = record { kinds = m.kinds; this = m.this; one = m.one; last = sym (later-is is_mark is_reply (up_line w q)) ∙ m.last; over = m.over; none = m.none; early = m.early }

mark_stands : (w : World) (q : ℕ) → MarkWorld w q → MarkStands w q
unfolding mark_count mark_count_of
mark_stands w q m = record { kinds = m.kinds; this = m.this; one = m.one; last = later-is is_mark is_reply (up_line w q) ∙ m.last; over = m.over; none = m.none; early = m.early }

replicated : (n q : ℕ) → q < n → get_or (replicate n false) q true ≡ false
replicated zero q l = absurd (omega (arith, l))
replicated (suc n) zero l = refl
replicated (suc n) (suc q) l = replicated n q (omega (arith, l))

module _ (w : World) (h : History) (b : Before w h) (n : ℕ) (below : suc n < queues_of w) where
  q : ℕ
  q = suc n

  s : MarkWorld w (suc n)
  s = line_stands w (suc n) ((k w h b).marks.each (suc n) (omega arith) below)

  abbrev Kept : World → Type 0
  Kept v = Behind v → MarkWorld v (suc n)

  apart : in_begun w ≡ true → in_asked w ≡ false
  apart e = let t = and_false _ _ e in off_second (is_resetting w.host.mode) (not (w.host.asked == w.ioc.generation)) (ap not t.1)

  abbrev On : Host → List Said → Type 0
  On x xs = MarkLine (BegunOf w x) (AskedOf w x) (slice_index_or x.marks (suc n) true) w.ioc.generation xs

  as_it_was : (x : Host) (xs : List Said) (has : Bool) → BegunOf w x ≡ in_begun w → AskedOf w x ≡ in_asked w → slice_index_or x.marks (suc n) true ≡ has → MarkLine (in_begun w) (in_asked w) has w.ioc.generation xs → On x xs
  as_it_was x xs has e f m l = rw (e, f, m) l

  pub set_here : (queue : ℕ) → (suc n == queue) ≡ true → slice_index_or (slice_set w.host.marks queue true) (suc n) true ≡ true
  set_here queue e = get_or-set_any w.host.marks queue (suc n) true true ∙ (ap (λ c. cond c (cond (nat_lt queue (length w.host.marks)) true (get_or w.host.marks (suc n) true)) (get_or w.host.marks (suc n) true)) e ∙ by_length (nat_lt queue (length w.host.marks)) refl)
    where
      by_length : (c : Bool) → nat_lt queue (length w.host.marks) ≡ c → cond c true (get_or w.host.marks (suc n) true) ≡ true
      by_length true f = refl
      by_length false f =
          let i = eqb-true (suc n) queue e in
          let far : length w.host.marks ≤ suc n = let z : length w.host.marks ≤ queue = grind (arith, f) in subst (λ m. length w.host.marks ≤ m) (sym i) z in
          Rattle.std.proofs.lemmas.List.get_or_past w.host.marks (suc n) true far

  pub set_other : (queue : ℕ) → (suc n == queue) ≡ false → slice_index_or (slice_set w.host.marks queue true) (suc n) true ≡ has_mark w (suc n)
  set_other queue e = get_or-set_any w.host.marks queue (suc n) true true ∙ ap (λ c. cond c (cond (nat_lt queue (length w.host.marks)) true (get_or w.host.marks (suc n) true)) (get_or w.host.marks (suc n) true)) e

  -- a call that takes no mark
  calmly : (x : Host) (t : Heard) (xs : List Said) → goes.is_mark_heard t ≡ false → MarkLine (in_begun w) (in_asked w) (has_mark w (suc n)) w.ioc.generation xs → how_many is_mark xs ≤ how_many is_mark (up_line w (suc n)) → Marked w x t → On x xs
  calmly x t xs i l le (Keeps u e f m g) = as_it_was x xs (has_mark w (suc n)) e f (ap (λ ms. slice_index_or ms (suc n) true) m) l
  calmly x t xs i l le (MarksIt queue e f m) = absurd (cc)
  calmly x t xs i l le (OverValue g e f a) =
      let hm = replies.all_behind w.host.marks n a in
      let z = s.one g in let z0 : one_if (not (has_mark w (suc n))) ≡ 0 = ap (λ c. one_if (not c)) hm in
      rw (e, f) (ended (in_begun w) (in_asked w) (has_mark w (suc n)) (slice_index_or x.marks (suc n) true) w.ioc.generation xs (omega (arith, le, z, z0)) l)
  calmly x t xs i l le (OverMark queue g e f a) = absurd (cc)
  calmly x t xs i l le (AsksIt m e mk) =
      let nb : in_begun w ≡ false = off_test (is_resetting w.host.mode) (w.host.asked == w.ioc.generation) m in
      let c = b.facts.flights.sizes.lanes in
      let fresh : slice_index_or x.marks (suc n) true ≡ false = ap (λ ms. slice_index_or ms (suc n) true) mk ∙ replicated (host_queue_count w.host) (suc n) (omega (arith, c, below)) in
      rw (e, fresh) (asked_now (in_asked w) (has_mark w (suc n)) (AskedOf w x) w.ioc.generation xs (subst (λ z. MarkLine z (in_asked w) (has_mark w (suc n)) w.ioc.generation xs) nb l))

  -- a mark is taken of this queue
  marks_here : (x : Host) (queue g : ℕ) (xs : List Said) → (suc n == queue) ≡ true → MarkLine (in_begun w) (in_asked w) (has_mark w (suc n)) w.ioc.generation (said.Mark g ∷ xs) → Marked w x (AMark queue) → On x xs
  marks_here x queue g xs i l (Keeps u e f m y) = absurd (cc)
  marks_here x queue g xs i l (MarksIt u e f m) = let r = mark_passed (in_begun w) (in_asked w) (has_mark w (suc n)) w.ioc.generation g xs apart l in as_it_was x xs true e f (ap (λ ms. slice_index_or ms (suc n) true) m ∙ set_here queue i) r.2
  marks_here x queue g xs i l (OverMark u y e f a) = let r = mark_passed (in_begun w) (in_asked w) (has_mark w (suc n)) w.ioc.generation g xs apart l in rw (e, f) (ended (in_begun w) (in_asked w) true (slice_index_or x.marks (suc n) true) w.ioc.generation xs r.1 r.2)

  -- a mark is taken of another
  marks_other : (x : Host) (queue : ℕ) → (suc n == queue) ≡ false → Marked w x (AMark queue) → On x (up_line w (suc n))
  marks_other x queue i (Keeps u e f m y) = absurd (cc)
  marks_other x queue i (MarksIt u e f m) = as_it_was x (up_line w (suc n)) (has_mark w (suc n)) e f (ap (λ ms. slice_index_or ms (suc n) true) m ∙ set_other queue i) s
  marks_other x queue i (OverMark u y e f a) =
      let hm : has_mark w (suc n) ≡ true = sym (set_other queue i) ∙ replies.all_behind (slice_set w.host.marks queue true) n a in
      let z = s.one y in let z0 : one_if (not (has_mark w (suc n))) ≡ 0 = ap (λ c. one_if (not c)) hm in
      rw (e, f) (ended (in_begun w) (in_asked w) (has_mark w (suc n)) (slice_index_or x.marks (suc n) true) w.ioc.generation (up_line w (suc n)) (omega (arith, z, z0)) s)

  abbrev Rest : ℕ → List Up → List Said
  Rest queue rest = line_of (set w.up queue rest) w.ioc.up (suc n)

  takes_calm : (x : Host) (queue : ℕ) (y : Up) (rest : List Up) → up_on w queue ≡ y ∷ rest → (t : Heard) → goes.is_mark_heard t ≡ false → is_mark (said_of y) ≡ false → Marked w x t → On x (Rest queue rest)
  takes_calm x queue y rest e t i m g =
      calmly x t (Rest queue rest) i
      (taken_of w.up w.ioc.up queue (suc n) (λ xs. MarkLine (in_begun w) (in_asked w) (has_mark w (suc n)) w.ioc.generation xs) y rest e (λ xs p. passed (in_begun w) (in_asked w) (has_mark w (suc n)) w.ioc.generation (said_of y) xs m p) s)
      (taken_of w.up w.ioc.up queue (suc n) (λ xs. how_many is_mark xs ≤ how_many is_mark (up_line w (suc n))) y rest e (λ xs p. let a = how_many-cons is_mark (said_of y) xs in omega (arith, a, p)) (omega arith))
      g

  host_takes : (x : Host) (queue : ℕ) (y : Up) (rest : List Up) → up_on w queue ≡ y ∷ rest → Marked w x (heard_of queue y) → On x (Rest queue rest)
  host_takes x queue (upward.Value v) rest e g = takes_calm x queue (upward.Value v) rest e AValue refl refl g
  host_takes x queue (upward.Reply d None page sense) rest e g = takes_calm x queue (upward.Reply d None page sense) rest e NoNews refl refl g
  host_takes x queue (upward.Reply d (Some f) page sense) rest e g = takes_calm x queue (upward.Reply d (Some f) page sense) rest e NoNews refl refl g
  host_takes x queue upward.Calm rest e g = takes_calm x queue upward.Calm rest e NoNews refl refl g
  host_takes x queue (upward.Mark m) rest e g = by_queue (suc n == queue) refl
    where
      by_queue : (c : Bool) → (suc n == queue) ≡ c → On x (Rest queue rest)
      by_queue true i = marks_here x queue m (Rest queue rest) i (subst (λ xs. MarkLine (in_begun w) (in_asked w) (has_mark w (suc n)) w.ioc.generation xs) (taken_here w.up w.ioc.up queue (suc n) (upward.Mark m) rest e i) s) g
      by_queue false i = subst (On x) (sym (taken_other w.up w.ioc.up queue (suc n) rest i)) (marks_other x queue i g)

  by_host : (x : Host) → HostGoes w x NoNews → On x (up_line w (suc n))
  by_host x g = calmly x NoNews (up_line w (suc n)) refl s (omega arith) (marked_by w h b x g)

  -- ---- the controller

  abbrev In : Ioc → Type 0
  In i = MarkLine (is_resetting w.host.mode && (w.host.asked == i.generation)) (is_resetting w.host.mode && not (w.host.asked == i.generation)) (has_mark w (suc n)) i.generation (line_of w.up i.up (suc n))

  same_ioc : (i : Ioc) → i.generation ≡ w.ioc.generation → line_of w.up i.up (suc n) ≡ up_line w (suc n) → In i
  same_ioc i g e = rw (g, e) s

  same_up : (i : Ioc) → i.up ≡ w.ioc.up → line_of w.up i.up (suc n) ≡ up_line w (suc n)
  same_up i e = ap (λ us. line_of w.up us (suc n)) e

  first_said : (items : List Said) → line_of w.up (set w.ioc.up 0 (get_or w.ioc.up 0 [] ++ items)) (suc n) ≡ up_line w (suc n)
  first_said items = said_elsewhere w.up w.ioc.up 0 (suc n) items (suc_not n)

  -- a controller that is OPERATIONAL
  speaks : (i : Ioc) → is_live w ≡ true → i.generation ≡ w.ioc.generation → ((queue : ℕ) → Grown is_reply (get_or w.ioc.up queue []) (get_or i.up queue [])) → In i
  speaks i v g gr =
      let nb = (k w h b).phase_table.live v in
      let z : MarkLine false (in_asked w) (has_mark w (suc n)) w.ioc.generation (up_line w (suc n)) = subst (λ c. MarkLine c (in_asked w) (has_mark w (suc n)) w.ioc.generation (up_line w (suc n))) nb.0 s in
      let y = grown_by (in_asked w) (has_mark w (suc n)) w.ioc.generation (up_line w (suc n)) (line_of w.up i.up (suc n)) (grown-before is_reply (map said_of (get_or w.up (suc n) [])) (get_or w.ioc.up (suc n) []) (get_or i.up (suc n) []) (gr (suc n))) z in
      rw g (subst (λ c. MarkLine c (in_asked w) (has_mark w (suc n)) w.ioc.generation (line_of w.up i.up (suc n))) (sym nb.0) y)

  taken : (x : Down) (rest : List Down) (i : Ioc) → w.down ≡ x ∷ rest → Takes w.ioc x i → is_fault (state_of i) ≡ false → In i
  taken x rest i e (Faults y j f) z = absurd (cc)
  taken x rest i e (Written reg value j nr st sa) z = same_ioc i (ap (λ (y : Ioc). y.generation) sa) (same_up i (ap (λ (y : Ioc). y.up) sa))
  taken x rest i e (Operates value j nr r st sa) z = same_ioc i (ap (λ (y : Ioc). y.generation) sa) (same_up i (ap (λ (y : Ioc). y.up) sa))
  taken x rest i e (Forgets reg value d r) z =
      let a = phase.asked_now w h b (down.Write reg value) rest e r in
      let ak = (and_false (is_resetting w.host.mode && not (w.host.asked == w.ioc.generation)) (not w.host.returning) a).0 in
      let p = phase.asked_phase w.host.mode w.host.asked w.ioc.generation (state_of w.ioc) (phased_of w (k w h b).phase_table) ak in
      let bg : (is_resetting w.host.mode && (w.host.asked == (w.ioc.generation + 1) % 2 ^ 32)) ≡ true = begun_of w.host.mode w.host.asked ((w.ioc.generation + 1) % 2 ^ 32) p.0 p.1 in
      let na : (is_resetting w.host.mode && not (w.host.asked == (w.ioc.generation + 1) % 2 ^ 32)) ≡ false = let t = and_false _ _ bg in off_second (is_resetting w.host.mode) (not (w.host.asked == (w.ioc.generation + 1) % 2 ^ 32)) (ap not t.1) in
      let nb : in_begun w ≡ false = let t = and_false _ _ ak in off_second (is_resetting w.host.mode) (w.host.asked == w.ioc.generation) (opposite (w.host.asked == w.ioc.generation) t.1) in
      let hm = s.early ak in
      let kd = s.kinds in let ka = others-append is_reply_or_mark (map said_of (get_or w.up (suc n) [])) (get_or w.ioc.up (suc n) []) in
      let mk = s.none nb in let ma = how_many-append is_mark (map said_of (get_or w.up (suc n) [])) (get_or w.ioc.up (suc n) []) in
      let sz = b.facts.flights.sizes.lanes in let so = b.facts.flights.sizes.outboxes in
      let ob = marked_outbox (next_generation w.ioc) n w.ioc.up (omega (arith, sz, so, below)) (omega (arith, kd, ka)) in
      rw (bg, na) (subst (λ xs. MarkLine true false (has_mark w (suc n)) ((w.ioc.generation + 1) % 2 ^ 32) (map said_of (get_or w.up (suc n) []) ++ xs)) (sym ob)
      (marked_line (has_mark w (suc n)) ((w.ioc.generation + 1) % 2 ^ 32) (map said_of (get_or w.up (suc n) [])) hm (omega (arith, kd, ka)) (omega (arith, mk, ma))))
    where
      opposite : (c : Bool) → not c ≡ true → c ≡ false
      opposite true e = absurd (cc)
      opposite false e = refl
  taken x rest i e (Reads reg value) z = same_ioc (say.says_on w.ioc 0 (said.Value value ∷ [])) refl (first_said (said.Value value ∷ []))
  taken x rest i e (Posts d f p j o sa) z = same_ioc i (ap (λ (y : Ioc). y.generation) sa) (same_up i (ap (λ (y : Ioc). y.up) sa))
  taken x rest i e (DropsPost d f p o) z = s
  taken x rest i e (Returns address index j o sa) z = same_ioc i (ap (λ (y : Ioc). y.generation) sa) (same_up i (ap (λ (y : Ioc). y.up) sa))
  taken x rest i e (DropsReturn address index o) z = s
  taken x rest i e Stops z = s

  by_deaf : (i : Ioc) → i.generation ≡ w.ioc.generation → Deaf w.ioc i.up → In i
  by_deaf i g (Silent e) = same_ioc i g (same_up i e)
  by_deaf i g (CalmSaid e) = same_ioc i g (same_up_to i e)
    where
      same_up_to : (i : Ioc) → i.up ≡ set w.ioc.up 0 (get_or w.ioc.up 0 [] ++ said.Calm ∷ []) → line_of w.up i.up (suc n) ≡ up_line w (suc n)
      same_up_to i e = ap (λ us. line_of w.up us (suc n)) e ∙ first_said (said.Calm ∷ [])

  said_by : (x : Back) (o : Happening Ioc) → News never_out w.ioc x o → is_live w ≡ true → In o.part
  said_by x o (SpeaksBack l p) v = speaks o.part v p.generation_is p.says
  said_by x o (Unlinked m i z e) v = subst (λ (y : Happening Ioc). In y.part) (sym e) s
  said_by x o (LinkedUp m i g r e) v = subst (λ (y : Happening Ioc). In y.part) (sym e) s
  said_by x o (CalmTold i e) v = subst (λ (y : Happening Ioc). In y.part) (sym e) (same_ioc (say.says_on w.ioc 0 (said.Calm ∷ [])) refl (first_said (said.Calm ∷ [])))

  told : (x : Back) → In (adapter.takes_back w.ioc x).part
  told x = by_live (is_live w) refl
    where
      nw : News never_out w.ioc x (adapter.takes_back w.ioc x)
      nw = news never_out w.ioc x

      by_live : (c : Bool) → is_live w ≡ c → In (adapter.takes_back w.ioc x).part
      by_live true v = said_by x (adapter.takes_back w.ioc x) nw v
      by_live false v = by_deaf (adapter.takes_back w.ioc x).part (replies.generation_is w h b x (adapter.takes_back w.ioc x) nw) (deaf w.ioc v x)

  worked : (i : Ioc) → IocSpeaks is_asked_out w.ioc i → (xs : List Rattle.mpt_rules.specs.declared.post.Post.Post) (x : Rattle.mpt_rules.specs.declared.post.Post.Post) (rest : List Rattle.mpt_rules.specs.declared.post.Post.Post) → xs ≡ x ∷ rest → (is_bare (state_of w.ioc) ≡ true → xs ≡ []) → In i
  worked i p xs x rest e f = by_live (is_live w) refl
    where
      by_live : (c : Bool) → is_live w ≡ c → In i
      by_live true v = speaks i v p.generation_is p.says
      by_live false v = let c = f (replies.ready_live (state_of w.ioc) (k w h b).phase_table.whole v) in absurd (cc)

  put_up : (queue : ℕ) (y : Said) (rest : List Said) (z : Up) → say.outbox_of w.ioc queue ≡ y ∷ rest → Rattle.mpt_rules.specs.Ioc.Sending.up_of y (Rattle.std.proofs.Common.slice_get w.ioc.ring 0) ≡ Some z
      → MarkWorld (with_up (record w { ioc = Rattle.mpt_rules.specs.Ioc.Sending.up_sent_on w.ioc queue }) queue (up_on w queue ++ z ∷ [])) (suc n)
  put_up queue y rest z e u =
      let a = lines.put_alike y (Rattle.std.proofs.Common.slice_get w.ioc.ring 0) z u in
      put_of w.up w.ioc.up queue (suc n) (λ xs. MarkLine (in_begun w) (in_asked w) (has_mark w (suc n)) w.ioc.generation xs) y rest z e (b.facts.flights.sizes.lanes ∙ sym b.facts.flights.sizes.outboxes)
      (λ xs ys p. swaps (in_begun w) (in_asked w) (has_mark w (suc n)) w.ioc.generation (said_of z) y xs ys (kind_is (said_of z) y a.mark a.reply) (put_mark_of w.ioc.generation y (Rattle.std.proofs.Common.slice_get w.ioc.ring 0) z u) a.mark a.reply p)
      s

  put : (x : Down) (rest : List Down) → MarkWorld (record w { host = after_sent w.host x rest; down = w.down ++ x ∷ [] }) (suc n)
  put (down.Return address index) rest = s
  put (down.Write reg value) rest = s
  put (down.Read reg) rest = s
  put (down.Post d f p) rest = s
  put down.Stop rest = s

  owes : Owes Kept w
  owes =
      record {
        host_puts = λ x rest e v. put x rest;
        host_takes = λ queue x rest e y v. host_takes (Rattle.mpt_rules.specs.Host.Takes.hears_up w.host queue x).part queue x rest e (marked_by w h b (Rattle.mpt_rules.specs.Host.Takes.hears_up w.host queue x).part (phase.takes_item w h b queue x rest e y v.stage));
        host_told = λ i t v. by_host _ (goes.told w i t);
        host_looks = λ e v. by_host _ (goes.looks_on w e);
        host_stops = λ e v. by_host _ (goes.stops_now w e);
        ioc_takes = λ x rest e v. taken x rest (adapter.takes_down w.ioc x).part e (takes w.ioc b.facts.doorbell.sound.waits (k w h b).phase_table.whole x) v.whole;
        ioc_high = λ p rest e v. worked (step.works_on (record w.ioc { high = rest }) p).part (phase.high_words w h b p rest) w.ioc.high p rest e (λ c. ((k w h b).tables_empty c).high);
        ioc_normal = λ p rest e v. worked (step.works_on (record w.ioc { normal = rest }) p).part (phase.normal_words w h b p rest) w.ioc.normal p rest e (λ c. ((k w h b).tables_empty c).normal);
        ioc_puts_out = λ x rest e v. s;
        ioc_takes_back = λ x rest e v. told x;
        ioc_puts = λ queue y rest z e u v. put_up queue y rest z e u;
        fabric_takes = λ x rest e v. s;
        fabric_says = λ x rest e v. s;
        fabric_puts = λ x rest e v. s;
        fabric_runs = λ tag address e v. s;
        plugs = λ address expander phy v. s;
        unplugs = λ address v. s;
        calms = λ v. s;
      }

  pub mark_kept : (c : Case) → Behind (happens w c) → MarkStands (happens w c) (suc n)
  mark_kept c v = mark_stands (happens w c) (suc n) (kept Kept w b.plain owes (λ y. s) c v)
