-- A key that nothing on its way names stands in no entry of a case, so that the case passes the rule of its cycle.
use Rattle.std.proofs.Common.{◌≡◌, ℕ, zero, suc, ◌+◌, ◌<◌, ◌≤◌, ◌==◌, ◌&&◌, ◌||◌, nat_le, Bool, true, false, not, if◌then◌else◌, List, [], ◌∷◌, ◌++◌, get_or, map, sum_by, All, Option, Some, None, refl, ap, ◌∙◌, subst, arith, slice_get}
use Rattle.std.specs.Bool.{MatchBool}
use Rattle.std.proofs.lemmas.Bool.{eqb-true}
use Rattle.std.proofs.lemmas.List.Elements.{All-head, All-tail}
use Rattle.std.proofs.lemmas.List.Sums.{sum_by-cons}
use Rattle.mpt_wire.specs.Messages.Fields.{address_descriptor, address_flags, flags_in, frame_address_in, reply_frame_address, smid_in, success_descriptor, success_flags}
use Rattle.mpt_wire.specs.Queues.Frames.{frame_stage, frame_turn, names_frame}
use Rattle.mpt_wire.specs.Queues.Identifiers.{identifier_turn, smid_stage}
use Rattle.mpt_wire.specs.Walks.Cycles.{CountAsks, TurnAsks, is_reset_end, turn_next}
use Rattle.mpt_wire.specs.Walks.Passes.{EachEntry, Passes}
use Rattle.mpt_trace.specs.declared.entry.Entry.{Entry}
use Rattle.mpt_trace.specs.declared.entry.Entry.TheVariants as entry
use Rattle.mpt_trace.specs.declared.item.Back.{Back}
use Rattle.mpt_trace.specs.declared.item.Down.{Down}
use Rattle.mpt_trace.specs.declared.item.Down.TheVariants as down
use Rattle.mpt_trace.specs.declared.item.Item.TheVariants as item
use Rattle.mpt_trace.specs.declared.item.Out.{Out}
use Rattle.mpt_trace.specs.declared.item.Up.{Up}
use Rattle.mpt_trace.specs.declared.item.Up.TheVariants as up
use Rattle.mpt_trace.specs.declared.lane.LaneName.{LaneName}
use Rattle.mpt_rules.specs.declared.said.Said.{Said}
use Rattle.mpt_rules.specs.declared.said.Said.TheVariants as said
use Rattle.mpt_rules.specs.Host.Returns.{is_frame_address}
use Rattle.mpt_rules.specs.Host.Strange as strange
use Rattle.mpt_rules.specs.Host.Strange.{why_strange}
use Rattle.mpt_rules.specs.Ioc.Places.{is_reply_of}
use Rattle.mpt_rules.specs.Ioc.Replies.{outbox_of}
use Rattle.mpt_rules.specs.Ioc.Sending.{up_of}
use Rattle.mpt_rules.specs.Law.{NothingIsStrange}
use Rattle.mpt_rules.specs.World.Cases.{Case, entries}
use Rattle.mpt_rules.specs.World.Counts.{one_if}
use Rattle.mpt_rules.specs.World.Lines.{down_line, said_of}
use Rattle.mpt_rules.specs.World.State.{World, up_on}
use Rattle.law_facts.specs.Facts.{Facts}
use Rattle.law_facts.specs.Flights.{is_frame_number, is_in_a_frame, names_a_frame}
use Rattle.law_facts.specs.History.{History}
use Rattle.law_facts.specs.Messages.{AnswersBy, DownIsRecord, PostIs, SaidIs}
use Rattle.law_facts.specs.Words.{others}
use Rattle.law_flights.proofs.HostQuiet.{IsQuiet, quiet, quiet_taken}
use Rattle.law_flights.proofs.HostTold.{told_input}
use Rattle.law_flights.proofs.IocTold.{told_back, told_down, told_high, told_normal}
use Rattle.law_flights.proofs.Rising.{same_identifier}
use Rattle.law_flights.proofs.Standing.{stage_up}
use Rattle.law_frames.proofs.FrameCases.{plain_reply}
use Rattle.law_moves.proofs.CasesTold.{IsPlugWord, OwesTold, kept_told}
use Rattle.law_moves.proofs.Counted.{others-append, others-cons, others-nil}
use Rattle.law_places.proofs.Standing.{far_free}

clash : {X : Type 0} (b : Bool) → b ≡ true → b ≡ false → X
clash true x y = absurd (cc)
clash false x y = absurd (cc)

small_one : (i : ℕ) → nat_le i 280 ≡ true → i ≤ 280
small_one i t = grind (arith, t)

large_one : (i : ℕ) → nat_le i 280 ≡ false → 280 < i
large_one i t = grind (arith, t)

-- ---- entries that have no stage

module _ (stage : Entry → Option ℕ) where
  abbrev pub IsSilent : Entry → Type 0
  IsSilent e = stage e ≡ None

  pub silent_passes : (c : ℕ) (t : List Entry) → EachEntry IsSilent t → Passes (turn_next stage) (TurnAsks stage) c t
  silent_passes c [] h = tt
  silent_passes c (e ∷ t) h = (by_end (is_reset_end e) (stage e) h.0, silent_passes (turn_next stage c e) t h.1)
    where
      by_end : (b : Bool) (o : Option ℕ) → o ≡ None → MatchBool b (Unit {0}) (CountAsks c o)
      by_end true o z = tt
      by_end false None z = tt
      by_end false (Some i) z = absurd (cc)

  module _ (silent : (e : Entry) → IsQuiet e → IsSilent e) where
    all_silent : (t : List Entry) → EachEntry IsQuiet t → EachEntry IsSilent t
    all_silent [] h = tt
    all_silent (e ∷ t) h = (silent e h.0, all_silent t h.1)

    plug_word : (t : List Entry) → EachEntry IsPlugWord t → EachEntry IsSilent t
    plug_word [] h = tt
    plug_word (e ∷ t) h = (silent e (one e h.0), plug_word t h.1)
      where
        one : (e : Entry) → IsPlugWord e → IsQuiet e
        one (entry.Given i) h = tt
        one (entry.Refuse call cause) h = tt
        one (entry.Idle x) h = absurd h
        one (entry.Put l i) h = h
        one (entry.Take l i) h = h
        one (entry.Bind handle address plug) h = absurd h
        one (entry.Unbind handle) h = absurd h
        one entry.UnbindAll h = absurd h
        one (entry.Run address tag) h = absurd h
        one entry.HostUp h = absurd h
        one (entry.Ready address handle) h = absurd h
        one (entry.Lost address handle) h = absurd h
        one (entry.Accept n address smid) h = absurd h
        one (entry.RefuseSubmit n cause) h = absurd h
        one (entry.Answer n outcome) h = absurd h
        one (entry.AbortEnd n outcome) h = absurd h
        one (entry.TargetEnd address outcome) h = absurd h
        one entry.ResetDone h = absurd h

    -- what is put and taken has no stage
    pub record NoneNames (w : World) : Type 0 where
      pub puts : (l : LaneName) (x : Down) (rest : List Down) → w.host.out ≡ x ∷ rest → IsSilent (entry.Put l (item.Down x))
      pub takes : (l : LaneName) (x : Down) (rest : List Down) → w.down ≡ x ∷ rest → IsSilent (entry.Take l (item.Down x))
      pub up_puts : (l : LaneName) (queue : ℕ) (y : Said) (rest : List Said) (z : Up) → outbox_of w.ioc queue ≡ y ∷ rest → up_of y (slice_get w.ioc.ring 0) ≡ Some z → IsSilent (entry.Put l (item.Up z))
      pub up_takes : (l : LaneName) (queue : ℕ) (x : Up) (rest : List Up) → up_on w queue ≡ x ∷ rest → why_strange w.host queue x ≡ None → IsSilent (entry.Take l (item.Up x))
      pub out_puts : (l : LaneName) (x : Out) → IsSilent (entry.Put l (item.Out x))
      pub out_takes : (l : LaneName) (x : Out) → IsSilent (entry.Take l (item.Out x))
      pub back_puts : (l : LaneName) (x : Back) → IsSilent (entry.Put l (item.Back x))
      pub back_takes : (l : LaneName) (x : Back) → IsSilent (entry.Take l (item.Back x))

    module _ (w : World) (plain : NothingIsStrange w) (n : NoneNames w) where
      owed : OwesTold (λ k t. EachEntry IsSilent t) w
      owed =
          record {
            idles = λ c. (silent (entry.Idle c) tt, tt);
            host_puts = λ x rest e. (n.puts _ x rest e, tt);
            host_takes = λ queue x rest e s. (n.up_takes _ queue x rest e s, all_silent _ (quiet_taken w.host queue x None));
            host_told = λ i g. all_silent _ (quiet _ (told_input w.host i));
            host_looks = λ e. tt;
            host_stops = λ e. tt;
            no_session = tt;
            ioc_takes = λ x rest e. (n.takes _ x rest e, all_silent _ (quiet _ (told_down w.ioc x)));
            ioc_high = λ p rest e. all_silent _ (quiet _ (told_high w.ioc (p ∷ rest)));
            ioc_normal = λ p rest e. all_silent _ (quiet _ (told_normal w.ioc (p ∷ rest)));
            ioc_puts_out = λ x rest e. (n.out_puts _ x, tt);
            ioc_takes_back = λ x rest e. (n.back_takes _ x, all_silent _ (quiet _ (told_back w.ioc x)));
            ioc_puts = λ queue y rest z e u. (n.up_puts _ queue y rest z e u, tt);
            fabric_takes = λ x rest e. (n.out_takes _ x, tt);
            fabric_says = λ x rest e. tt;
            fabric_puts = λ x rest e. (n.back_puts _ x, tt);
            fabric_runs = λ tag address e. (silent (entry.Run address tag) tt, tt);
            plugs = λ address expander phy t g. plug_word t g;
            unplugs = λ address t g. plug_word t g;
            calms = tt;
          }

      pub unnamed : (c : Case) → EachEntry IsSilent (entries w c)
      unnamed c = kept_told (λ k t. EachEntry IsSilent t) w plain owed c

-- ---- what is no identifier

smid_silent : (s : ℕ) (e : Entry) → IsQuiet e → smid_stage s e ≡ None
smid_silent s (entry.Put l i) h = absurd h
smid_silent s (entry.Take l i) h = absurd h
smid_silent s _ h = refl

none_if : (b : Bool) (i : ℕ) → b ≡ false → (if b then Some i else None) ≡ None
none_if true i e = absurd (cc)
none_if false i e = refl

module _ (w : World) (h : History) (f : Facts w h) (plain : NothingIsStrange w) where
  -- the front of an outbox is one of its line
  line_front : (queue : ℕ) (y : Said) (rest : List Said) → outbox_of w.ioc queue ≡ y ∷ rest → SaidIs w h queue y
  line_front queue y rest e = All-head (SaidIs w h queue) y rest (subst (All (SaidIs w h queue)) e (all_second (SaidIs w h queue) (map said_of (up_on w queue)) (outbox_of w.ioc queue) (f.messages.said queue)))
    where
      all_second : (P : Said → Type 0) (xs ys : List Said) → All P (xs ++ ys) → All P ys
      all_second P [] ys a = a
      all_second P (x ∷ xs) ys a = all_second P xs ys (All-tail P x (xs ++ ys) a)

  lane_front : (queue : ℕ) (x : Up) (rest : List Up) → up_on w queue ≡ x ∷ rest → SaidIs w h queue (said_of x)
  lane_front queue x rest e = All-head (SaidIs w h queue) (said_of x) (map said_of rest ++ outbox_of w.ioc queue) (subst (λ xs. All (SaidIs w h queue) (map said_of xs ++ outbox_of w.ioc queue)) e (f.messages.said queue))

  -- the identifier of a reply on a line is one of the table
  low : (queue : ℕ) (y : Said) → SaidIs w h queue y → (i : ℕ) → is_reply_of i y ≡ true → i ≤ 280
  low queue y a i e = by_test (nat_le i 280) refl
    where
      none : (i : ℕ) (y : Said) → 280 < i → SaidIs w h queue y → is_reply_of i y ≡ true → ⊥
      none i (said.Success q page sense) l a e = let same : q ≡ i = eqb-true q i e in subst (AnswersBy w h queue q (said.Success q page sense)) (far_free w h f q (omega (arith, same, l))) a
      none i (said.Framed zero g page sense) l a e = let same : 0 ≡ i = eqb-true 0 i e in absurd (omega (arith, same, l))
      none i (said.Framed (suc q) g page sense) l a e = let same : suc q ≡ i = eqb-true (suc q) i e in subst (AnswersBy w h queue (suc q) (said.Framed (suc q) g page sense)) (far_free w h f (suc q) (omega (arith, same, l))) a
      none i (said.Value v) l a e = absurd (cc)
      none i (said.Mark g) l a e = absurd (cc)
      none i said.Calm l a e = absurd (cc)

      by_test : (b : Bool) → nat_le i 280 ≡ b → i ≤ 280
      by_test true t = small_one i t
      by_test false t = absurd (none i y (large_one i t) a e)

  module _ (s : ℕ) (far : 280 < s) where
    posted : (d : ℕ) (g p : List ℕ) → DownIsRecord w h (down.Post d g p) → (smid_in d == s) ≡ false
    posted d g p i = by_bool (smid_in d == s) refl
      where
        by_bool : (b : Bool) → (smid_in d == s) ≡ b → b ≡ false
        by_bool true e = let same : smid_in d ≡ s = eqb-true (smid_in d) s e in absurd (subst (PostIs w h (record { descriptor = d; frame = g; payload = p })) (far_free w h f (smid_in d) (omega (arith, same, far))) i)
        by_bool false e = refl

    of_down : (x : Down) → DownIsRecord w h x → (i j : ℕ) → identifier_turn s i j (item.Down x) ≡ None
    of_down (down.Post d g p) a i j = none_if (smid_in d == s) i (posted d g p a)
    of_down (down.Write reg value) a i j = refl
    of_down (down.Read reg) a i j = refl
    of_down (down.Return address index) a i j = refl
    of_down down.Stop a i j = refl

    of_up : (queue : ℕ) (y : Said) (z : Up) → SaidIs w h queue y → is_reply_of s (said_of z) ≡ is_reply_of s y → (i j : ℕ) → identifier_turn s i j (item.Up z) ≡ None
    of_up queue y z a same i j = stage_up s i j z (omega (arith, far)) ∙ none_if (is_reply_of s (said_of z)) j (same ∙ by_bool (is_reply_of s y) refl)
      where
        by_bool : (b : Bool) → is_reply_of s y ≡ b → b ≡ false
        by_bool true e = let m = low queue y a s e in absurd (omega (arith, m, far))
        by_bool false e = refl

    unnamed_smid : NoneNames (smid_stage s) (smid_silent s) w
    unnamed_smid =
        record {
          puts = λ l x rest e. of_down x (down_front x rest e) 0 2;
          takes = λ l x rest e. of_down x (All-head (DownIsRecord w h) x (rest ++ w.host.out) (subst (λ xs. All (DownIsRecord w h) (xs ++ w.host.out)) e f.messages.down)) 1 3;
          up_puts = λ l queue y rest z e u. let a = line_front queue y rest e in of_up queue y z a (same_identifier s y (slice_get w.ioc.ring 0) z (λ i t. let m = low queue y a i t in omega (arith, m)) u) 0 2;
          up_takes = λ l queue x rest e q. of_up queue (said_of x) x (lane_front queue x rest e) refl 1 3;
          out_puts = λ l x. refl;
          out_takes = λ l x. refl;
          back_puts = λ l x. refl;
          back_takes = λ l x. refl;
        }
      where
        all_second : (P : Down → Type 0) (xs ys : List Down) → All P (xs ++ ys) → All P ys
        all_second P [] ys a = a
        all_second P (x ∷ xs) ys a = all_second P xs ys (All-tail P x (xs ++ ys) a)

        down_front : (x : Down) (rest : List Down) → w.host.out ≡ x ∷ rest → DownIsRecord w h x
        down_front x rest e = All-head (DownIsRecord w h) x rest (subst (All (DownIsRecord w h)) e (all_second (DownIsRecord w h) w.down w.host.out f.messages.down))

    pub far_passes : (c : Case) → Passes (turn_next (smid_stage s)) (TurnAsks (smid_stage s)) (h.turn s) (entries w c)
    far_passes c = silent_passes (smid_stage s) (h.turn s) (entries w c) (unnamed (smid_stage s) (smid_silent s) w plain unnamed_smid c)

-- ---- what is no frame's address

frame_silent : (a : ℕ) (e : Entry) → IsQuiet e → frame_stage a e ≡ None
frame_silent a (entry.Put l i) h = absurd h
frame_silent a (entry.Take l i) h = absurd h
frame_silent a _ h = refl

true_of : (b : Bool) → one_if (not b) ≡ 0 → b ≡ true
true_of true z = refl
true_of false z = absurd (omega (arith, z))

apart_flags : (n : ℕ) → (n == success_flags) ≡ true → (n == address_flags) ≡ false
apart_flags n e = grind (arith, e)

same_one : (n : ℕ) → (n == n) ≡ true
same_one n = grind arith

addressed : (s x : ℕ) → s < 65536 → frame_address_in (address_descriptor s x) ≡ x
addressed s x l = omega arith

flags_succeeded : (s : ℕ) → flags_in (success_descriptor s) ≡ 0
flags_succeeded s = omega arith

module _ (w : World) (h : History) (f : Facts w h) (plain : NothingIsStrange w) (a : ℕ) (none : is_frame_address a ≡ false) where
  not_it : (x : ℕ) → is_frame_address x ≡ true → (x == a) ≡ false
  not_it x e = by_bool (x == a) refl
    where
      by_bool : (b : Bool) → (x == a) ≡ b → b ≡ false
      by_bool true t = let same : x ≡ a = eqb-true x a t in clash (is_frame_address x) e (ap is_frame_address same ∙ none)
      by_bool false t = refl

  no_name : (d : ℕ) → (names_frame a d) ≡ false → (i : ℕ) → (if names_frame a d then Some i else None) ≡ None
  no_name d e i = none_if (names_frame a d) i e

  and_none : (x y : Bool) → y ≡ false → (x && y) ≡ false
  and_none true y e = e
  and_none false y e = refl

  first_none : (x y : Bool) → x ≡ false → (x && y) ≡ false
  first_none true y e = absurd (cc)
  first_none false y e = refl

  returned : (x : Down) → names_a_frame x ≡ true → (i j : ℕ) → frame_turn a i j (item.Down x) ≡ None
  returned (down.Return address index) e i j = none_if (address == a) i (not_it address e)
  returned (down.Post d g p) e i j = refl
  returned (down.Write reg value) e i j = refl
  returned (down.Read reg) e i j = refl
  returned down.Stop e i j = refl

  -- a reply on a lane up names a frame where it has one, and else says that it has none
  replied : (queue : ℕ) (x : Up) → is_in_a_frame x ≡ true → why_strange w.host queue x ≡ None → (i j : ℕ) → frame_turn a i j (item.Up x) ≡ None
  replied queue (up.Reply d (Some g) page sense) e q i j = no_name d (and_none (flags_in d == address_flags) (frame_address_in d == a) (not_it (frame_address_in d) e)) j
  replied queue (up.Reply d None page sense) e q i j =
      no_name d (first_none (flags_in d == address_flags) (frame_address_in d == a) (by_tests (flags_in d == success_flags) (flags_in d == address_flags) refl refl (plain_reply w.host queue d None page sense q).0)) j
    where
      by_tests : (x y : Bool) → (flags_in d == success_flags) ≡ x → (flags_in d == address_flags) ≡ y → ((x && (true && strange.is_scsi_smid (smid_in d))) || (y && false)) ≡ true → y ≡ false
      by_tests x false s t e = refl
      by_tests true true s t e = clash (flags_in d == address_flags) t (apart_flags (flags_in d) s)
      by_tests false true s t e = absurd (cc)
  replied queue (up.Value v) e q i j = refl
  replied queue (up.Mark g) e q i j = refl
  replied queue up.Calm e q i j = refl

  -- one that is put names the first of the ring
  put : (queue : ℕ) (y : Said) (rest : List Said) (z : Up) → outbox_of w.ioc queue ≡ y ∷ rest → up_of y (slice_get w.ioc.ring 0) ≡ Some z → (i j : ℕ) → frame_turn a i j (item.Up z) ≡ None
  put queue (said.Value v) rest z e u i j = let q : up.Value v ≡ z = cc in subst (λ x. frame_turn a i j (item.Up x) ≡ None) q refl
  put queue (said.Mark g) rest z e u i j = let q : up.Mark g ≡ z = cc in subst (λ x. frame_turn a i j (item.Up x) ≡ None) q refl
  put queue said.Calm rest z e u i j = let q : up.Calm ≡ z = cc in subst (λ x. frame_turn a i j (item.Up x) ≡ None) q refl
  put queue (said.Success s page sense) rest z e u i j =
      let q : up.Reply (success_descriptor s) None page sense ≡ z = cc in
      let g : (flags_in (success_descriptor s) == address_flags) ≡ false = ap (λ x. x == address_flags) (flags_succeeded s) in
      subst (λ x. frame_turn a i j (item.Up x) ≡ None) q (no_name (success_descriptor s) (first_none (flags_in (success_descriptor s) == address_flags) (frame_address_in (success_descriptor s) == a) g) j)
  put queue (said.Framed s bytes page sense) rest z e u i j = by_ring w.ioc.ring f.flights.frames_are_frames.ring u
    where
      fits : s < 65536
      fits = let m = low w h f plain queue (said.Framed s bytes page sense) (line_front w h f plain queue (said.Framed s bytes page sense) rest e) s (same_one s) in omega (arith, m)

      by_ring : (xs : List ℕ) → others is_frame_number xs ≡ 0 → up_of (said.Framed s bytes page sense) (slice_get xs 0) ≡ Some z → frame_turn a i j (item.Up z) ≡ None
      by_ring [] r u = absurd (cc)
      by_ring (n ∷ ns) r u =
          let q : up.Reply (address_descriptor s (reply_frame_address n)) (Some bytes) page sense ≡ z = cc in
          let c = others-cons is_frame_number n ns in
          let fr : is_frame_address (reply_frame_address n) ≡ true = true_of (is_frame_number n) (omega (arith, r, c)) in
          let at = addressed s (reply_frame_address n) fits in
          let d : ℕ = address_descriptor s (reply_frame_address n) in
          subst (λ x. frame_turn a i j (item.Up x) ≡ None) q (no_name d (and_none (flags_in d == address_flags) (frame_address_in d == a) (not_it (frame_address_in d) (ap is_frame_address at ∙ fr))) j)

  in_frame : (queue : ℕ) (x : Up) (rest : List Up) → up_on w queue ≡ x ∷ rest → is_in_a_frame x ≡ true
  in_frame queue x rest e =
      let z = on_lane w.up queue f.flights.frames_are_frames.lanes in
      let g = ap (others is_in_a_frame) e in
      let c = others-cons is_in_a_frame x rest in
      true_of (is_in_a_frame x) (omega (arith, z, g, c))
    where
      on_lane : (xs : List (List Up)) (i : ℕ) → sum_by (others is_in_a_frame) xs ≡ 0 → others is_in_a_frame (get_or xs i []) ≡ 0
      on_lane [] i z = others-nil is_in_a_frame
      on_lane (x ∷ xs) zero z = let c = sum_by-cons (others is_in_a_frame) x xs in omega (arith, z, c)
      on_lane (x ∷ xs) (suc i) z = let c = sum_by-cons (others is_in_a_frame) x xs in on_lane xs i (omega (arith, z, c))

  unnamed_address : NoneNames (frame_stage a) (frame_silent a) w
  unnamed_address =
      record {
        puts = λ l x rest e. returned x (front x rest (omega (arith, line, out, ap (others names_a_frame) e))) 0 2;
        takes = λ l x rest e. returned x (front x rest (omega (arith, line, out, ap (others names_a_frame) e))) 1 3;
        up_puts = λ l queue y rest z e u. put queue y rest z e u 0 2;
        up_takes = λ l queue x rest e q. replied queue x (in_frame queue x rest e) q 1 3;
        out_puts = λ l x. refl;
        out_takes = λ l x. refl;
        back_puts = λ l x. refl;
        back_takes = λ l x. refl;
      }
    where
      line : others names_a_frame (down_line w) ≡ 0
      line = f.flights.frames_are_frames.returned

      out : others names_a_frame (down_line w) ≡ others names_a_frame w.down + others names_a_frame w.host.out
      out = others-append names_a_frame w.down w.host.out

      front : (x : Down) (rest : List Down) → others names_a_frame (x ∷ rest) ≡ 0 → names_a_frame x ≡ true
      front x rest z = let c = others-cons names_a_frame x rest in true_of (names_a_frame x) (omega (arith, z, c))

  pub other_passes : (c : Case) → Passes (turn_next (frame_stage a)) (TurnAsks (frame_stage a)) (h.frame_turn a) (entries w c)
  other_passes c = silent_passes (frame_stage a) (h.frame_turn a) (entries w c) (unnamed (frame_stage a) (frame_silent a) w plain unnamed_address c)
