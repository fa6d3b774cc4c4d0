-- Each case keeps what the facts say of the start's two requests.
use Rattle.std.proofs.Common.{◌≡◌, ◌≢◌, ℕ, zero, suc, ◌+◌, ◌-◌, ◌^◌, ◌<◌, ◌≤◌, ◌==◌, ◌&&◌, not, cond, Bool, true, false, if◌then◌else◌, List, [], ◌∷◌, ◌++◌, append_assoc, map, set, slice_get, Option, Some, None, is_some, refl, ap, sym, ◌∙◌, subst, arith}
use Rattle.std.specs.Prelude.{All}
use Rattle.std.proofs.lemmas.Bool.{eqb-true}
use Rattle.std.proofs.lemmas.List.Elements.{All-head, All-tail}
use Rattle.smid_pool.specs.Pool.{Free, Open, Parked, Slot}
use Rattle.mpi_doorbell.specs.HostDoor.{HostDoor}
use Rattle.mpi_doorbell.specs.DoorRegisters.{DoorRegisters, is_fault, linked_up}
use Rattle.mpi_doorbell.specs.declared.state.IocState.{IocState}
use Rattle.mpi_doorbell.specs.declared.state.IocState.TheVariants as ioc_state
use Rattle.mpi_rings.specs.declared.request_descriptor.PostKind.{PostKind}
use Rattle.mpi_rings.specs.declared.request_descriptor.PostKind.TheVariants as post
use Rattle.mpi_rings.specs.RequestDescriptor.{flags_of}
use Rattle.mpt_messages.specs.declared.function.Function.TheVariants as function
use Rattle.mpt_messages.specs.Function.{function_of}
use Rattle.mpt_messages.specs.Refusal.{request_refusal}
use Rattle.mpt_wire.specs.Machine.Causes.{is_resetting}
use Rattle.mpt_wire.specs.Messages.Fields.{event_masks_in, flags_in, function_in, kind_in, post_descriptor, smid_in, topology_change_list}
use Rattle.mpi_doorbell.specs.Bytes.{has}
use Rattle.mpt_trace.specs.declared.item.Back.{Back}
use Rattle.mpt_trace.specs.declared.item.Back.TheVariants as back
use Rattle.mpt_trace.specs.declared.item.Down.{Down}
use Rattle.mpt_trace.specs.declared.item.Down.TheVariants as down
use Rattle.mpt_trace.specs.declared.item.Out.TheVariants as out
use Rattle.mpt_trace.specs.declared.item.Up.{Up}
use Rattle.mpt_rules.specs.declared.post.Post.{Post}
use Rattle.mpt_rules.specs.declared.request.Request.{Request}
use Rattle.mpt_rules.specs.declared.request.Request.TheVariants as request
use Rattle.mpt_rules.specs.declared.said.Said.{Said}
use Rattle.mpt_rules.specs.declared.said.Said.TheVariants as said
use Rattle.mpt_rules.specs.Host.Parts.{Host}
use Rattle.mpt_rules.specs.Host.Returns.{after_sent}
use Rattle.mpt_rules.specs.Host.Takes.{hears_up, is_starting, looks, stops}
use Rattle.mpt_rules.specs.Ioc.Parts.{Ioc, state_of}
use Rattle.mpt_rules.specs.Ioc.Places.{is_reply_of}
use Rattle.mpt_rules.specs.Ioc.Posts as posts
use Rattle.mpt_rules.specs.Ioc.Replies as say
use Rattle.mpt_rules.specs.Ioc.Replies.{outbox_of}
use Rattle.mpt_rules.specs.Ioc.Requests as asked
use Rattle.mpt_rules.specs.Ioc.Sending.{up_of, up_sent_on}
use Rattle.mpt_rules.specs.Ioc.Steps as step
use Rattle.mpt_rules.specs.Ioc.Tables as table
use Rattle.mpt_rules.specs.Ioc.Tables.{is_operational, is_post_of, is_ready, is_reset}
use Rattle.mpt_rules.specs.Ioc.Takes as adapter
use Rattle.mpt_rules.specs.Law.{NothingIsStrange}
use Rattle.mpt_rules.specs.World.Cases.{Case, happens}
use Rattle.mpt_rules.specs.World.Counts.{how_many, one_if, queued_count, reply_count}
use Rattle.mpt_rules.specs.World.Inputs.{host_told}
use Rattle.mpt_rules.specs.World.Lines.{down_line, is_high, normal_line, normal_posts, said_of, up_line}
use Rattle.mpt_rules.specs.World.Settings.{Setting, first_world}
use Rattle.mpt_rules.specs.World.State.{World, up_on, with_up}
use Rattle.mpt_rules.proofs.Counts.{queued_count-append, queued_count-cons, queued_count-nil}
use Rattle.law_facts.specs.Clock.{in_begun, is_live}
use Rattle.law_facts.specs.Facts.{Facts}
use Rattle.law_facts.specs.History.{History}
use Rattle.law_facts.specs.Messages.{AnswersBy, BringUp, PostIs, PostIsRecord, SaidIs, is_enable_waiting}
use Rattle.law_facts.specs.Words.{is_enable_asked, is_load, is_notification_asked, slot}
use Rattle.law_flights.proofs.Descriptors.{kind_posted}
use Rattle.law_flights.proofs.Rising.{same_identifier}
use Rattle.law_moves.proofs.Cases.{Owes, kept}
use Rattle.law_moves.proofs.Counted.{how_many-cons, how_many-nil}
use Rattle.law_moves.proofs.IocTakes as leaf
use Rattle.law_moves.proofs.IocTakes.{Takes, takes}
use Rattle.law_moves.proofs.UpLines as up_lines
use Rattle.law_moves.proofs.UpLines.{on_line}
use Rattle.law_clock.specs.Premises.{IsStarted}
use Rattle.law_doors.proofs.DoorsKept.{resets_heeded}
use Rattle.law_doors.proofs.Started.{started_kept}
use Rattle.law_doors.proofs.Whole.{whole_kept}
use Rattle.law_lights.proofs.ClocksKept.{clocks_kept}
use Rattle.law_lights.proofs.Ones.{one_of}
use Rattle.law_messages.proofs.Agreeing.{all_last}
use Rattle.law_messages.proofs.Known.{inside}
use Rattle.law_fresh.specs.Bare.{StartsBare}
use Rattle.law_classes.specs.Made.{NotificationsStand}
use Rattle.law_bring_up.specs.Enables.{EnablesStand}
use Rattle.law_bring_up.proofs.Controller as controller
use Rattle.law_bring_up.proofs.Controller.{Enable, Note, Stays}
use Rattle.law_bring_up.proofs.Hosts as hosts
use Rattle.law_bring_up.proofs.Hosts.{Good, Whole}
use Rattle.law_bring_up.proofs.Keys.{One, Sound, SoundAt, alike, blank, bring_up_of, counts, enables_of, sound_of}
use Rattle.law_bring_up.proofs.Opening.{asked_in, no_post, normal_count, normal_count-append, normal_count-is, normal_count-one, place_of, post_count-low}

contrary : {T : Type 0} (c : Bool) → c ≡ false → c ≡ true → T
contrary true e f = absurd (cc)
contrary false e f = absurd (cc)

apart_is : (a b : ℕ) → a ≢ b → (a == b) ≡ false
apart_is a b d = by_test (a == b) refl
  where
    by_test : (c : Bool) → (a == b) ≡ c → c ≡ false
    by_test true e = absurd (d (eqb-true a b e))
    by_test false e = refl

-- ---- a post that the controller takes

kind_high : (d : ℕ) (k : PostKind) → kind_in d ≡ Some k → (k ≡ post.HighPriority → ⊥) → is_high d ≡ false
kind_high d k e n = by_flags (flags_in d == flags_of post.ScsiIo) refl (flags_in d == flags_of post.HighPriority) refl (flags_in d == flags_of post.Default) e
  where
    by_flags : (a : Bool) → (flags_in d == flags_of post.ScsiIo) ≡ a → (b : Bool) → (flags_in d == flags_of post.HighPriority) ≡ b → (c : Bool) → (if a then Some post.ScsiIo else (if b then Some post.HighPriority else (if c then Some post.Default else None))) ≡ Some k → b ≡ false
    by_flags a p false q c g = refl
    by_flags true p true q c g = let x : 0 ≡ 6 = sym (eqb-true (flags_in d) (flags_of post.ScsiIo) p) ∙ eqb-true (flags_in d) (flags_of post.HighPriority) q in absurd (omega (arith, x))
    by_flags false p true q c g = let x : post.HighPriority ≡ k = cc in absurd (n (sym x))

kind_is_high : (d : ℕ) → kind_in d ≡ Some post.HighPriority → is_high d ≡ true
kind_is_high d e = by_flags (flags_in d == flags_of post.ScsiIo) (flags_in d == flags_of post.HighPriority) (flags_in d == flags_of post.Default) e
  where
    by_flags : (a b c : Bool) → (if a then Some post.ScsiIo else (if b then Some post.HighPriority else (if c then Some post.Default else None))) ≡ Some post.HighPriority → b ≡ true
    by_flags true b c g = absurd (cc)
    by_flags false true c g = refl
    by_flags false false true g = absurd (cc)
    by_flags false false false g = absurd (cc)

post_high : (s d : ℕ) (f p : List ℕ) → is_high d ≡ true → normal_count s (down.Post d f p ∷ []) ≡ 0
post_high s d f p e =
    let x : Post = record { descriptor = d; frame = f; payload = p } in
    normal_count-one s (down.Post d f p) ∙ (ap (λ c. queued_count s (Rattle.std.specs.List.cons_option (cond c None (Some x)) [])) e ∙ queued_count-nil s)

abbrev GainsPost : Ioc → ℕ → List ℕ → List ℕ → ℕ → Ioc → Type 0
GainsPost i d f p s j = is_fault j.door.state ≡ false → queued_count s j.normal ≡ queued_count s i.normal + normal_count s (down.Post d f p ∷ [])

post_normal : (i : Ioc) (d : ℕ) (f p : List ℕ) (s : ℕ) → is_operational i.door.state ≡ true → is_fault (adapter.posts_if_operational i d f p).door.state ≡ false → queued_count s (adapter.posts_if_operational i d f p).normal ≡ queued_count s i.normal + normal_count s (down.Post d f p ∷ [])
post_normal i d f p s o n = by_state (is_operational i.door.state) o n
  where
    x : Post
    x = record { descriptor = d; frame = f; payload = p }

    more : is_high d ≡ false → queued_count s (i.normal ++ record { descriptor = d; frame = f; payload = p } ∷ []) ≡ queued_count s i.normal + normal_count s (down.Post d f p ∷ [])
    more e =
        let y : Post = record { descriptor = d; frame = f; payload = p } in
        let a = queued_count-append s i.normal (y ∷ []) in let c = queued_count-cons s y [] in let z = queued_count-nil s in let g = post_count-low s d f p e in
        omega (arith, a, c, z, g)

    queued : (k : PostKind) → kind_in d ≡ Some k → GainsPost i d f p s (posts.with_post_queued i (record { descriptor = d; frame = f; payload = p }) k)
    queued post.ScsiIo e m = more (kind_high d post.ScsiIo e (λ q. cc))
    queued post.Default e m = more (kind_high d post.Default e (λ q. cc))
    queued post.HighPriority e m = let z = post_high s d f p (kind_is_high d e) in omega (arith, z)

    by_tests : (a b : Bool) (k : PostKind) → kind_in d ≡ Some k → GainsPost i d f p s (if not a then table.faults i posts.bad_post else if b then table.faults i posts.identifier_in_use else posts.with_post_queued i (record { descriptor = d; frame = f; payload = p }) k)
    by_tests false b k e m = absurd (cc)
    by_tests true true k e m = absurd (cc)
    by_tests true false k e m = queued k e m

    by_kind : (k : Option PostKind) → kind_in d ≡ k → GainsPost i d f p s (posts.posts_if i (record { descriptor = d; frame = f; payload = p }) k)
    by_kind None e m = absurd (cc)
    by_kind (Some k) e m = by_tests (posts.is_in_class (posts.class_of k) (smid_in d)) (table.is_unanswered i (smid_in d)) k e m

    by_state : (b : Bool) → b ≡ true → GainsPost i d f p s (if b then posts.ioc_takes_post i d f p else i)
    by_state true e m = by_kind (kind_in d) refl m
    by_state false e m = absurd (cc)

-- ---- what the clock and the doorbell say of the world behind

record Ahead (v : World) : Type 0 where
  begun : is_reset (state_of v.ioc) ≡ true → in_begun v ≡ true
  live : is_live v ≡ true → in_begun v ≡ false
  whole : is_fault (state_of v.ioc) ≡ false
  started : IsStarted v

module _ (w : World) (h : History) (f : Facts w h) (plain : NothingIsStrange w) (bare : StartsBare w) (stand : NotificationsStand w) (enables : EnablesStand w) where
  sound : Sound w
  sound = sound_of w f.messages.bring_up enables

  one : One w
  one = f.messages.bring_up.one

  abbrev Kept : World → Type 0
  Kept v = Ahead v → Sound v × One v

  -- ---- the host

  line_is : (s : ℕ) (v : World) → reply_count s (up_line v 0) ≡ on_line (is_reply_of s) v.up v.ioc.up 0
  unfolding reply_count
  line_is s v = refl

  told_host : (x : Host) → Whole w h f bare stand sound one x → Sound (record w { host = x }) × One (record w { host = x })
  told_host x a = (
    alike (is_live w) w.ioc.enabled w.ioc.through w.ioc.generation (λ s. queued_count s (w.ioc.normal ++ normal_posts (w.down ++ x.out))) (λ s. reply_count s (up_line w 0)) refl refl refl refl (λ l s e. hosts.line_of w h f bare stand sound one s x.out) (λ l s e. omega arith) a.0,
    a.1,
  )

  took_host : (queue : ℕ) (y : Up) (rest : List Up) → up_on w queue ≡ y ∷ rest → (x : Host) → Whole w h f bare stand sound one x → Sound (record (with_up w queue rest) { host = x }) × One (record (with_up w queue rest) { host = x })
  took_host queue y rest e x a = (
    alike (is_live w) w.ioc.enabled w.ioc.through w.ioc.generation (λ s. queued_count s (w.ioc.normal ++ normal_posts (w.down ++ x.out))) (λ s. reply_count s (up_line (record (with_up w queue rest) { host = x }) 0)) refl refl refl refl (λ l s e. hosts.line_of w h f bare stand sound one s x.out) (λ l s e. fewer s) a.0,
    a.1,
  )
    where
      fewer : (s : ℕ) → reply_count s (up_line (record (with_up w queue rest) { host = x }) 0) ≤ reply_count s (up_line w 0)
      fewer s =
          let t = up_lines.taken (is_reply_of s) w.up w.ioc.up queue 0 y rest e in
          let a = line_is s (record (with_up w queue rest) { host = x }) in let c = line_is s w in
          by_test (0 == queue) t a c
        where
          by_test : (b : Bool) → on_line (is_reply_of s) (set w.up queue rest) w.ioc.up 0 + cond b (one_if (is_reply_of s (said_of y))) 0 ≡ on_line (is_reply_of s) w.up w.ioc.up 0 → reply_count s (up_line (record (with_up w queue rest) { host = x }) 0) ≡ on_line (is_reply_of s) (set w.up queue rest) w.ioc.up 0
              → reply_count s (up_line w 0) ≡ on_line (is_reply_of s) w.up w.ioc.up 0 → reply_count s (up_line (record (with_up w queue rest) { host = x }) 0) ≤ reply_count s (up_line w 0)
          by_test true t a c = omega (arith, t, a, c)
          by_test false t a c = omega (arith, t, a, c)

  put_line : (x : Down) (rest : List Down) → w.host.out ≡ x ∷ rest → (w.down ++ x ∷ []) ++ rest ≡ w.down ++ w.host.out
  put_line x rest e = append_assoc w.down (x ∷ []) rest ∙ ap (λ ys. w.down ++ ys) (sym e)

  sent : (x : Down) (rest : List Down) → w.host.out ≡ x ∷ rest → Sound (record w { host = after_sent w.host x rest; down = w.down ++ x ∷ [] }) × One (record w { host = after_sent w.host x rest; down = w.down ++ x ∷ [] })
  sent x rest e = by_item x (put_line x rest e)
    where
      moved : (y : Down) → (w.down ++ y ∷ []) ++ rest ≡ w.down ++ w.host.out → SoundAt (is_live w) w.ioc.enabled w.ioc.through w.ioc.generation (λ s. queued_count s (w.ioc.normal ++ normal_posts ((w.down ++ y ∷ []) ++ rest))) (λ s. reply_count s (up_line w 0)) w.host.mode w.host.pool w.host.wait_internal w.host.asked
      moved y q = alike (is_live w) w.ioc.enabled w.ioc.through w.ioc.generation (λ s. queued_count s (w.ioc.normal ++ normal_posts ((w.down ++ y ∷ []) ++ rest))) (λ s. reply_count s (up_line w 0)) refl refl refl refl (λ l s e. ap (λ ys. queued_count s (w.ioc.normal ++ normal_posts ys)) q) (λ l s e. omega arith) sound

      by_item : (y : Down) → (w.down ++ y ∷ []) ++ rest ≡ w.down ++ w.host.out → Sound (record w { host = after_sent w.host y rest; down = w.down ++ y ∷ [] }) × One (record w { host = after_sent w.host y rest; down = w.down ++ y ∷ [] })
      by_item (down.Return address index) q = (moved (down.Return address index) q, one)
      by_item (down.Write reg value) q = (moved (down.Write reg value) q, one)
      by_item (down.Read reg) q = (moved (down.Read reg) q, one)
      by_item (down.Post d g p) q = (moved (down.Post d g p) q, one)
      by_item down.Stop q = (moved down.Stop q, one)

  -- ---- the controller

  -- it begins a reset
  dead : (i : Ioc) (rest : List Down) (bk : List Back) → in_begun (record w { ioc = i; down = rest; back = bk }) ≡ true → Ahead (record w { ioc = i; down = rest; back = bk }) → Sound (record w { ioc = i; down = rest; back = bk })
  dead i rest bk b a =
      let v = record w { ioc = i; down = rest; back = bk } in
      record {
        few = sound.few;
        idle = sound.idle;
        up = sound.up;
        enabled = λ l s e k. contrary (in_begun v) (a.live l) b;
        processed = λ m l s e k. contrary (in_begun v) (a.live l) b;
        before = λ l s e. contrary (in_begun v) (a.live l) b;
        opened = λ l s e. contrary (in_begun v) (a.live l) b;
        answered = λ l s e k. contrary (in_begun v) (a.live l) b;
        waiting = λ l k. contrary (in_begun v) (a.live l) b;
        none = λ g l. contrary (in_begun v) g b;
      }

  -- its words are the same
  same_words : (i : Ioc) (rest : List Down) (bk : List Back) → is_operational (state_of i) ≡ is_live w → i.enabled ≡ w.ioc.enabled → i.through ≡ w.ioc.through → i.generation ≡ w.ioc.generation
      → (is_live w ≡ true → (s : ℕ) → Enable w h f stand s → queued_count s (i.normal ++ normal_posts (rest ++ w.host.out)) ≡ queued_count s (normal_line w)) → ((s : ℕ) → Note w h f stand s → on_line (is_reply_of s) w.up i.up 0 ≡ on_line (is_reply_of s) w.up w.ioc.up 0)
      → Sound (record w { ioc = i; down = rest; back = bk })
  same_words i rest bk el ee et eg eq er =
      alike (is_operational (state_of i)) i.enabled i.through i.generation (λ s. queued_count s (i.normal ++ normal_posts (rest ++ w.host.out))) (λ s. reply_count s (up_line (record w { ioc = i; down = rest; back = bk }) 0)) el ee et eg eq (λ l s n. let c = er s n in let a = line_is s (record w { ioc = i; down = rest; back = bk }) in let d = line_is s w in omega (arith, c, a, d)) sound

  -- the front of the lane down is taken
  taken_line : (x : Down) (rest : List Down) → w.down ≡ x ∷ rest → (s : ℕ) (N : List Post) → queued_count s N ≡ queued_count s w.ioc.normal + normal_count s (x ∷ []) → queued_count s (N ++ normal_posts (rest ++ w.host.out)) ≡ queued_count s (normal_line w)
  taken_line x rest e s N q =
      let a = queued_count-append s N (normal_posts (rest ++ w.host.out)) in
      let c = queued_count-append s w.ioc.normal (normal_posts (w.down ++ w.host.out)) in
      let n = normal_count-is s (rest ++ w.host.out) in
      let g : queued_count s (normal_posts (w.down ++ w.host.out)) ≡ normal_count s (x ∷ []) + normal_count s (rest ++ w.host.out) =
      sym (normal_count-is s (w.down ++ w.host.out)) ∙ (ap (λ ys. normal_count s (ys ++ w.host.out)) e ∙ normal_count-append s (x ∷ []) (rest ++ w.host.out)) in
      omega (arith, a, c, n, g, q)

  no_post_line : (x : Down) (rest : List Down) → w.down ≡ x ∷ rest → Rattle.law_bring_up.proofs.Opening.IsNoPost x → (s : ℕ) (N : List Post) → N ≡ w.ioc.normal → queued_count s (N ++ normal_posts (rest ++ w.host.out)) ≡ queued_count s (normal_line w)
  no_post_line x rest e p s N n = taken_line x rest e s N (let z = no_post s x p in let q = ap (queued_count s) n in omega (arith, z, q))

  ready_not_live : (s : IocState) → is_ready s ≡ true → is_operational s ≡ false
  ready_not_live ioc_state.Ready e = refl
  ready_not_live ioc_state.Operational e = absurd (cc)
  ready_not_live ioc_state.Reset e = absurd (cc)
  ready_not_live (ioc_state.Fault code) e = absurd (cc)

  loaded : (x : Down) (rest : List Down) → w.down ≡ x ∷ rest → is_load x ≡ true → is_live w ≡ true
  loaded x rest e l =
      let c = how_many-cons is_load x (rest ++ w.host.out) in let o : one_if (is_load x) ≡ 1 = ap one_if l in
      let g = ap (λ ys. how_many is_load (ys ++ w.host.out)) e in
      f.clock.loads_before_reset.live (omega (arith, c, o, g))

  -- no port enable waits while the controller isn't OPERATIONAL
  none_waits : is_live w ≡ false → how_many is_enable_waiting w.host.wait_internal ≡ 0
  none_waits l = by_count (how_many is_enable_waiting w.host.wait_internal) refl
    where
      by_count : (n : ℕ) → how_many is_enable_waiting w.host.wait_internal ≡ n → how_many is_enable_waiting w.host.wait_internal ≡ 0
      by_count zero e = e
      by_count (suc n) e = by_start (is_starting w.host.mode) refl
        where
          by_machine : is_starting w.host.mode ≡ true → (o : Option HostDoor) → w.host.machine ≡ o → how_many is_enable_waiting w.host.wait_internal ≡ 0
          by_machine s None m = contrary (is_live w) l (f.doorbell.rests.started s m)
          by_machine s (Some d) m = let z = one s ∙ ap (λ (o : Option HostDoor). one_if (not (is_some o))) m in omega (arith, z)

          by_start : (c : Bool) → is_starting w.host.mode ≡ c → how_many is_enable_waiting w.host.wait_internal ≡ 0
          by_start false s = sound.idle s
          by_start true s = by_machine s w.host.machine refl

  taken : (x : Down) (rest : List Down) (i : Ioc) → w.down ≡ x ∷ rest → Takes w.ioc x i → ((d : ℕ) (g p : List ℕ) → x ≡ down.Post d g p → is_live w ≡ true → is_fault (state_of i) ≡ false → (s : ℕ) → queued_count s i.normal ≡ queued_count s w.ioc.normal + normal_count s (down.Post d g p ∷ []))
      → Ahead (record w { ioc = i; down = rest }) → Sound (record w { ioc = i; down = rest })
  taken x rest i e (leaf.Faults y j n) pq a = contrary (is_fault (state_of i)) a.whole n
  taken x rest i e (leaf.Written reg value j nr c sa) pq a =
      same_words i rest w.back (ap is_operational c) (ap (λ (y : Ioc). y.enabled) sa) (ap (λ (y : Ioc). y.through) sa) (ap (λ (y : Ioc). y.generation) sa) (λ l s n. no_post_line (down.Write reg value) rest e tt s i.normal (ap (λ (y : Ioc). y.normal) sa)) (λ s n. ap (λ (y : Ioc). on_line (is_reply_of s) w.up y.up 0) sa)
  taken x rest i e (leaf.Operates value j nr r c sa) pq a =
      let l = ready_not_live w.ioc.door.state r in
      let g : in_begun w ≡ false = ap (λ (y : Ioc). is_resetting w.host.mode && (w.host.asked == y.generation)) (sym sa) ∙ a.live (ap is_operational c) in
      blank (is_operational (state_of i)) i.enabled i.through i.generation (λ s. queued_count s (i.normal ++ normal_posts (rest ++ w.host.out))) (λ s. reply_count s (up_line (record w { ioc = i; down = rest }) 0)) w.host.mode w.host.pool w.host.wait_internal w.host.asked (sound.none g l) (none_waits l)
  taken x rest i e (leaf.Forgets reg value d c) pq a = dead _ rest w.back (a.begun refl) a
  taken x rest i e (leaf.Reads reg value) pq a =
      let y = controller.says_one w h f stand w.ioc w.ioc 0 (said.Value value) (λ s n. refl) (controller.itself w h f stand w.ioc) in
      same_words (say.says_on w.ioc 0 (said.Value value ∷ [])) rest w.back refl refl refl refl (λ l s n. no_post_line (down.Read reg) rest e tt s w.ioc.normal refl) y.quiet
  taken x rest i e (leaf.Posts d g p j o sa) pq a =
      same_words i rest w.back (ap (λ (y : Ioc). is_operational (state_of y)) sa) (ap (λ (y : Ioc). y.enabled) sa) (ap (λ (y : Ioc). y.through) sa) (ap (λ (y : Ioc). y.generation) sa)
      (λ l s n. taken_line (down.Post d g p) rest e s i.normal (pq d g p refl l a.whole s)) (λ s n. ap (λ (y : Ioc). on_line (is_reply_of s) w.up y.up 0) sa)
  taken x rest i e (leaf.DropsPost d g p o) pq a = contrary (is_live w) o (loaded (down.Post d g p) rest e refl)
  taken x rest i e (leaf.Returns address index j o sa) pq a =
      same_words i rest w.back (ap (λ (y : Ioc). is_operational (state_of y)) sa) (ap (λ (y : Ioc). y.enabled) sa) (ap (λ (y : Ioc). y.through) sa) (ap (λ (y : Ioc). y.generation) sa) (λ l s n. no_post_line (down.Return address index) rest e tt s i.normal (ap (λ (y : Ioc). y.normal) sa)) (λ s n. ap (λ (y : Ioc). on_line (is_reply_of s) w.up y.up 0) sa)
  taken x rest i e (leaf.DropsReturn address index o) pq a = same_words w.ioc rest w.back refl refl refl refl (λ l s n. no_post_line (down.Return address index) rest e tt s w.ioc.normal refl) (λ s n. refl)
  taken x rest i e leaf.Stops pq a = same_words (say.with_out_item w.ioc out.Stop) rest w.back refl refl refl refl (λ l s n. no_post_line down.Stop rest e tt s w.ioc.normal refl) (λ s n. refl)

  posted : (x : Down) (d : ℕ) (g p : List ℕ) → x ≡ down.Post d g p → is_live w ≡ true → is_fault (state_of (adapter.takes_down w.ioc x).part) ≡ false → (s : ℕ) → queued_count s (adapter.takes_down w.ioc x).part.normal ≡ queued_count s w.ioc.normal + normal_count s (down.Post d g p ∷ [])
  posted x d g p e l n s =
      let q : (adapter.takes_down w.ioc x).part ≡ adapter.posts_if_operational w.ioc d g p = ap (λ y. (adapter.takes_down w.ioc y).part) e in
      ap (λ (y : Ioc). queued_count s y.normal) q ∙ post_normal w.ioc d g p s l (ap (λ (y : Ioc). is_fault (state_of y)) (sym q) ∙ n)

  -- ---- its work

  by_stays : (i0 i : Ioc) → i0.enabled ≡ w.ioc.enabled → i0.through ≡ w.ioc.through → i0.door ≡ w.ioc.door → i0.generation ≡ w.ioc.generation → i0.up ≡ w.ioc.up → ((s : ℕ) → Enable w h f stand s → queued_count s i0.normal ≡ queued_count s w.ioc.normal) → (bk : List Back) → Stays w h f stand i0 i → Sound (record w { ioc = i; back = bk })
  by_stays i0 i ee et ed eg eu eq bk a =
      same_words i w.down bk (ap (λ (d : DoorRegisters). is_operational d.state) (a.door ∙ ed)) (a.enabled ∙ ee) (a.through ∙ et) (a.generation ∙ eg)
      (λ l s n. let x = queued_count-append s i.normal (normal_posts (w.down ++ w.host.out)) in let y = queued_count-append s w.ioc.normal (normal_posts (w.down ++ w.host.out)) in let z = a.queued s n in let q = eq s n in omega (arith, x, y, z, q))
      (λ s n. a.quiet s n ∙ ap (λ u. on_line (is_reply_of s) w.up u 0) eu)

  default_not_high : (p : Post) (r : Request) → slot w.host (smid_in p.descriptor) ≡ Open r → p.descriptor ≡ post_descriptor post.Default 0 (smid_in p.descriptor) 0 → is_high p.descriptor ≡ false
  default_not_high p r o e = let j = inside w h f (smid_in p.descriptor) r o in kind_high p.descriptor post.Default (ap kind_in e ∙ kind_posted post.Default 0 (smid_in p.descriptor) 0 (omega arith) (omega (arith, j))) (λ q. cc)

  high : (p : Post) (rest : List Post) → w.ioc.high ≡ p ∷ rest → Sound (record w { ioc = (step.works_on (record w.ioc { high = rest }) p).part })
  high p rest e =
      by_stays (record w.ioc { high = rest }) (step.works_on (record w.ioc { high = rest }) p).part refl refl refl refl refl (λ s n. refl) w.back
      (controller.works w h f stand (record w.ioc { high = rest }) p record_is f.messages.normal (λ o. is_not request.Notification o (default_not_high p request.Notification o (subst (PostIs w h p) o record_is).0)) (λ o. is_not request.PortEnable o (default_not_high p request.PortEnable o (subst (PostIs w h p) o record_is).0)))
    where
      record_is : PostIsRecord w h p
      record_is = All-head (PostIsRecord w h) p rest (subst (All (PostIsRecord w h)) e f.messages.high)

      is_not : (r : Request) → slot w.host (smid_in p.descriptor) ≡ Open r → is_high p.descriptor ≡ false → ⊥
      is_not r o g =
          let z = subst (λ xs. Rattle.law_facts.specs.Words.others (λ (y : Post). is_high y.descriptor) xs ≡ 0) e f.flights.sorted.high in
          let c = Rattle.law_moves.proofs.Counted.others-cons (λ (y : Post). is_high y.descriptor) p rest in
          let n : one_if (not (is_high p.descriptor)) ≡ 1 = ap (λ b. one_if (not b)) g in
          omega (arith, z, c, n)

  module _ (p : Post) (rest : List Post) (e : w.ioc.normal ≡ p ∷ rest) where
    all_posts : All (PostIsRecord w h) (p ∷ rest)
    all_posts = subst (All (PostIsRecord w h)) e f.messages.normal

    its_record : PostIsRecord w h p
    its_record = All-head (PostIsRecord w h) p rest all_posts

    i : Ioc
    i = record w.ioc { normal = rest }

    fewer : (s : ℕ) → (smid_in p.descriptor ≡ s → ⊥) → queued_count s rest ≡ queued_count s w.ioc.normal
    fewer s d = let c = queued_count-cons s p rest in let o : one_if (is_post_of s p) ≡ 0 = ap one_if (apart_is (smid_in p.descriptor) s d) in let g = ap (queued_count s) e in omega (arith, c, o, g)

    another : (slot w.host (smid_in p.descriptor) ≡ Open request.Notification → ⊥) → (slot w.host (smid_in p.descriptor) ≡ Open request.PortEnable → ⊥) → Sound (record w { ioc = (step.works_on (record w.ioc { normal = rest }) p).part })
    another nn ne =
        by_stays (record w.ioc { normal = rest }) (step.works_on (record w.ioc { normal = rest }) p).part refl refl refl refl refl (λ s n. fewer s (λ q. ne (ap (slot w.host) q ∙ n))) w.back
        (controller.works w h f stand (record w.ioc { normal = rest }) p its_record (All-tail (PostIsRecord w h) p rest all_posts) nn ne)

    its_kind : (r : Request) → slot w.host (smid_in p.descriptor) ≡ Open r → p.descriptor ≡ post_descriptor post.Default 0 (smid_in p.descriptor) 0 → kind_in p.descriptor ≡ Some post.Default
    its_kind r o d = let j = inside w h f (smid_in p.descriptor) r o in ap kind_in d ∙ kind_posted post.Default 0 (smid_in p.descriptor) 0 (omega arith) (omega (arith, j))

    both : {T : Type 0} (s t : ℕ) → slot w.host s ≡ Open request.Notification → slot w.host t ≡ Open request.PortEnable → T
    both s t a c =
        let x = counts is_notification_asked w.host.pool s request.Notification a refl in let y = counts is_enable_asked w.host.pool t request.PortEnable c refl in let z = sound.few in
        absurd (omega (arith, x, y, z))

    none_waits_now : {T : Type 0} (s : ℕ) → slot w.host s ≡ Open request.PortEnable → 1 ≤ how_many is_enable_waiting w.host.wait_internal → T
    none_waits_now s c k = let y = counts is_enable_asked w.host.pool s request.PortEnable c refl in let z = sound.few in absurd (omega (arith, y, z, k))

    more_line : (s : ℕ) (N : List Post) → queued_count s N ≡ queued_count s w.ioc.normal → queued_count s (N ++ normal_posts (w.down ++ w.host.out)) ≡ queued_count s (normal_line w)
    more_line s N q = let x = queued_count-append s N (normal_posts (w.down ++ w.host.out)) in let y = queued_count-append s w.ioc.normal (normal_posts (w.down ++ w.host.out)) in omega (arith, x, y, q)

    -- the event notification
    noticed : slot w.host (smid_in p.descriptor) ≡ Open request.Notification → (x : PostIs w h p (Open request.Notification)) → Sound (record w { ioc = (step.works_on (record w.ioc { normal = rest }) p).part })
    noticed o x = subst (λ (y : Rattle.mpt_rules.specs.Outcome.Happening Ioc). Sound (record w { ioc = y.part })) (sym work) now
      where
        work : step.works_on (record w.ioc { normal = rest }) p ≡ table.silently (asked.works_notification (record w.ioc { normal = rest }) p)
        work =
            ap (step.works_kind (record w.ioc { normal = rest }) p) (its_kind request.Notification o x.0)
            ∙ (ap (step.works_unless (record w.ioc { normal = rest }) p post.Default) (ap (request_refusal (step.way_of post.Default)) x.1 ∙ controller.notice_accepted)
            ∙ ap (step.works_default (record w.ioc { normal = rest }) p) (ap (λ g. function_of (function_in g)) x.1 ∙ controller.function_of_notice))

        lets : not (has (event_masks_in p.frame) (2 ^ topology_change_list)) ≡ true
        lets = ap (λ g. not (has (event_masks_in g) (2 ^ topology_change_list))) x.1 ∙ ap (λ m. not (has m (2 ^ topology_change_list))) controller.masks_of_notice

        apart : (s : ℕ) → slot w.host s ≡ Open request.PortEnable → smid_in p.descriptor ≡ s → ⊥
        apart s c q = both (smid_in p.descriptor) s o c

        now : Sound (record w { ioc = asked.works_notification (record w.ioc { normal = rest }) p })
        now =
            record {
              few = sound.few;
              idle = sound.idle;
              up = sound.up;
              enabled = λ l s c k. let q = more_line s rest (fewer s (apart s c)) in sound.enabled l s c (omega (arith, k, q));
              processed = λ m l s c k. let q = more_line s rest (fewer s (apart s c)) in sound.processed m l s c (omega (arith, k, q));
              before = sound.before;
              opened = λ l s c. lets;
              answered = λ l s c k. lets;
              waiting = λ l k. ((sound.waiting l k).0, lets);
              none = sound.none;
            }

    -- the port enable
    enabled : slot w.host (smid_in p.descriptor) ≡ Open request.PortEnable → (x : PostIs w h p (Open request.PortEnable)) → Sound (record w { ioc = (step.works_on (record w.ioc { normal = rest }) p).part })
    enabled o x = by_live (is_live w) refl
      where
        queued_once : 1 ≤ queued_count (smid_in p.descriptor) w.ioc.normal
        queued_once =
            let c = queued_count-cons (smid_in p.descriptor) p rest in let g = ap (queued_count (smid_in p.descriptor)) e in
            let t : one_if (is_post_of (smid_in p.descriptor) p) ≡ 1 = ap one_if (same (smid_in p.descriptor)) in
            omega (arith, c, g, t)
          where
            same : (n : ℕ) → (n == n) ≡ true
            same n = grind arith

        in_line : 1 ≤ queued_count (smid_in p.descriptor) (normal_line w)
        in_line = let a = queued_count-append (smid_in p.descriptor) w.ioc.normal (normal_posts (w.down ++ w.host.out)) in let q = queued_once in omega (arith, a, q)

        work : w.ioc.enabled ≡ false → step.works_on (record w.ioc { normal = rest }) p ≡ table.silently (asked.enables (record w.ioc { normal = rest }) (smid_in p.descriptor))
        work n =
            ap (step.works_kind (record w.ioc { normal = rest }) p) (its_kind request.PortEnable o x.0)
            ∙ (ap (step.works_unless (record w.ioc { normal = rest }) p post.Default) (ap (request_refusal (step.way_of post.Default)) x.1 ∙ controller.enable_accepted)
            ∙ (ap (step.works_default (record w.ioc { normal = rest }) p) (ap (λ g. function_of (function_in g)) x.1 ∙ controller.function_of_enable)
            ∙ ap (λ b. table.silently (if b then asked.ends_plainly (record w.ioc { normal = rest }) p (Rattle.mpt_messages.specs.Function.byte_of function.PortEnable) Rattle.mpt_rules.specs.declared.status.TheConstants.IOC_STATUS_INVALID_STATE else asked.enables (record w.ioc { normal = rest }) (smid_in p.descriptor))) n))

        one_enable : (s : ℕ) → slot w.host s ≡ Open request.PortEnable → s ≡ smid_in p.descriptor
        one_enable s c =
            let a = Rattle.law_flights.proofs.HostHolds.in_table w.host.pool s (Open request.PortEnable) c (λ q. cc) in
            let d = Rattle.law_flights.proofs.HostHolds.in_table w.host.pool (smid_in p.descriptor) (Open request.PortEnable) o (λ q. cc) in
            let z = sound.few in
            let q = one_of is_enable_asked Free w.host.pool (s - 1) (smid_in p.descriptor - 1) a.1 d.1 (ap is_enable_asked (place_of w.host.pool s a.0 ∙ c)) (ap is_enable_asked (place_of w.host.pool (smid_in p.descriptor) d.0 ∙ o)) (omega (arith, z)) in
            omega (arith, a, d, q)

        -- no other post of it is on its way
        last : (s : ℕ) → slot w.host s ≡ Open request.PortEnable → queued_count s (rest ++ normal_posts (w.down ++ w.host.out)) ≡ 0
        last s c =
            subst (λ j. queued_count j (rest ++ normal_posts (w.down ++ w.host.out)) ≡ 0) (sym (one_enable s c))
            (let j = inside w h f (smid_in p.descriptor) request.PortEnable o in
            let m = (f.flights.identifiers (smid_in p.descriptor) j.0 j.1).at_most in
            let a = queued_count-append (smid_in p.descriptor) rest (normal_posts (w.down ++ w.host.out)) in
            let n = Rattle.law_lights.proofs.Ones.normal_few (smid_in p.descriptor) (down_line w) in
            let k = queued_count-cons (smid_in p.descriptor) p rest in let g = ap (queued_count (smid_in p.descriptor)) e in
            let t : one_if (is_post_of (smid_in p.descriptor) p) ≡ 1 = ap one_if (same (smid_in p.descriptor)) in
            omega (arith, m, a, n, k, g, t))
          where
            same : (n : ℕ) → (n == n) ≡ true
            same n = grind arith

        by_live : (b : Bool) → is_live w ≡ b → Sound (record w { ioc = (step.works_on (record w.ioc { normal = rest }) p).part })
        by_live false l = contrary (is_live w) l (queued_live)
          where
            queued_live : is_live w ≡ true
            queued_live = by_bare w.ioc.door.state refl
              where
                by_bare : (s : IocState) → w.ioc.door.state ≡ s → is_operational s ≡ true
                by_bare ioc_state.Operational q = refl
                by_bare ioc_state.Ready q = let z = (f.clock.tables_empty (ap Rattle.law_facts.specs.Words.is_bare q)).normal in let u : p ∷ rest ≡ [] = sym e ∙ z in absurd (cc)
                by_bare ioc_state.Reset q = let z = (f.clock.tables_empty (ap Rattle.law_facts.specs.Words.is_bare q)).normal in let u : p ∷ rest ≡ [] = sym e ∙ z in absurd (cc)
                by_bare (ioc_state.Fault code) q = contrary (is_fault w.ioc.door.state) f.clock.phase_table.whole (ap is_fault q)
        by_live true l = subst (λ (y : Rattle.mpt_rules.specs.Outcome.Happening Ioc). Sound (record w { ioc = y.part })) (sym (work (sound.enabled l (smid_in p.descriptor) o in_line))) now
          where
            now : Sound (record w { ioc = asked.enables (record w.ioc { normal = rest }) (smid_in p.descriptor) })
            now =
                record {
                  few = sound.few;
                  idle = sound.idle;
                  up = sound.up;
                  enabled = λ l s c k. let z = last s c in absurd (omega (arith, z, k));
                  processed = λ m l s c k. refl;
                  before = λ l s c. both s (smid_in p.descriptor) c o;
                  opened = sound.opened;
                  answered = sound.answered;
                  waiting = λ l k. none_waits_now (smid_in p.descriptor) o k;
                  none = sound.none;
                }

    normal : Sound (record w { ioc = (step.works_on (record w.ioc { normal = rest }) p).part })
    normal = by_slot (slot w.host (smid_in p.descriptor)) refl
      where
        mine : (y : Slot Request) → slot w.host (smid_in p.descriptor) ≡ y → PostIs w h p y
        mine y o = subst (PostIs w h p) o its_record

        is_another : (y : Slot Request) → slot w.host (smid_in p.descriptor) ≡ y → (y ≡ Open request.Notification → ⊥) → (y ≡ Open request.PortEnable → ⊥) → Sound (record w { ioc = (step.works_on (record w.ioc { normal = rest }) p).part })
        is_another y o nn ne = another (λ q. nn (sym o ∙ q)) (λ q. ne (sym o ∙ q))

        by_slot : (y : Slot Request) → slot w.host (smid_in p.descriptor) ≡ y → Sound (record w { ioc = (step.works_on (record w.ioc { normal = rest }) p).part })
        by_slot (Open request.Notification) o = noticed o (mine (Open request.Notification) o)
        by_slot (Open request.PortEnable) o = enabled o (mine (Open request.PortEnable) o)
        by_slot (Open (request.Command n)) o = is_another (Open (request.Command n)) o (λ q. cc) (λ q. cc)
        by_slot (Open (request.Abort n task)) o = is_another (Open (request.Abort n task)) o (λ q. cc) (λ q. cc)
        by_slot (Open (request.TargetReset address)) o = is_another (Open (request.TargetReset address)) o (λ q. cc) (λ q. cc)
        by_slot (Open (request.Leave handle)) o = is_another (Open (request.Leave handle)) o (λ q. cc) (λ q. cc)
        by_slot (Open (request.Page handle)) o = is_another (Open (request.Page handle)) o (λ q. cc) (λ q. cc)
        by_slot (Open (request.Remove handle)) o = is_another (Open (request.Remove handle)) o (λ q. cc) (λ q. cc)
        by_slot (Open (request.Ack event context)) o = is_another (Open (request.Ack event context)) o (λ q. cc) (λ q. cc)
        by_slot Free o = absurd (mine Free o)
        by_slot Parked o = absurd (mine Parked o)

  -- ---- an item of the fabric

  from_fabric : (x : Back) (bk : List Back) → Ahead (record w { ioc = (adapter.takes_back w.ioc x).part; back = bk }) → Sound (record w { ioc = (adapter.takes_back w.ioc x).part; back = bk })
  from_fabric (back.Linked generation) bk a = by_test (is_reset (state_of w.ioc)) refl (generation == w.ioc.generation) a
    where
      by_test : (b : Bool) → is_reset (state_of w.ioc) ≡ b → (c : Bool) → Ahead (record w { ioc = if b && c then record w.ioc { door = linked_up w.ioc.door } else w.ioc; back = bk }) → Sound (record w { ioc = if b && c then record w.ioc { door = linked_up w.ioc.door } else w.ioc; back = bk })
      by_test false e c a = sound
      by_test true e false a = sound
      by_test true e true a = dead (record w.ioc { door = linked_up w.ioc.door }) w.down bk (f.clock.phase_table.reset e) a
  from_fabric (back.Result tag result) bk a = by_stays w.ioc (adapter.takes_back w.ioc (back.Result tag result)).part refl refl refl refl refl (λ s n. refl) bk (controller.told w h f stand (back.Result tag result) tt)
  from_fabric (back.Gone tag) bk a = by_stays w.ioc (adapter.takes_back w.ioc (back.Gone tag)).part refl refl refl refl refl (λ s n. refl) bk (controller.told w h f stand (back.Gone tag) tt)
  from_fabric (back.Terminated tag) bk a = by_stays w.ioc (adapter.takes_back w.ioc (back.Terminated tag)).part refl refl refl refl refl (λ s n. refl) bk (controller.told w h f stand (back.Terminated tag) tt)
  from_fabric (back.Aborted smid found) bk a = by_stays w.ioc (adapter.takes_back w.ioc (back.Aborted smid found)).part refl refl refl refl refl (λ s n. refl) bk (controller.told w h f stand (back.Aborted smid found) tt)
  from_fabric (back.Cleared smid count) bk a = by_stays w.ioc (adapter.takes_back w.ioc (back.Cleared smid count)).part refl refl refl refl refl (λ s n. refl) bk (controller.told w h f stand (back.Cleared smid count) tt)
  from_fabric (back.Plugged address plug expander phy) bk a = by_stays w.ioc (adapter.takes_back w.ioc (back.Plugged address plug expander phy)).part refl refl refl refl refl (λ s n. refl) bk (controller.told w h f stand (back.Plugged address plug expander phy) tt)
  from_fabric (back.Unplugged address plug expander phy) bk a = by_stays w.ioc (adapter.takes_back w.ioc (back.Unplugged address plug expander phy)).part refl refl refl refl refl (λ s n. refl) bk (controller.told w h f stand (back.Unplugged address plug expander phy) tt)
  from_fabric back.Discovered bk a = by_stays w.ioc (adapter.takes_back w.ioc back.Discovered).part refl refl refl refl refl (λ s n. refl) bk (controller.told w h f stand back.Discovered tt)
  from_fabric back.Calm bk a = by_stays w.ioc (adapter.takes_back w.ioc back.Calm).part refl refl refl refl refl (λ s n. refl) bk (controller.told w h f stand back.Calm tt)

  -- ---- a reply that is put

  said_small : (queue : ℕ) (y : Said) → SaidIs w h queue y → (s : ℕ) → is_reply_of s y ≡ true → s < 65536
  said_small queue (said.Value v) a s e = absurd (cc)
  said_small queue (said.Mark g) a s e = absurd (cc)
  said_small queue said.Calm a s e = absurd (cc)
  said_small queue (said.Framed zero frame page sense) a s e = let q = eqb-true 0 s e in omega (arith, q)
  said_small queue (said.Framed (suc k) frame page sense) a s e = let q = eqb-true (suc k) s e in by_slot (slot w.host (suc k)) refl a q
    where
      by_slot : (x : Slot Request) → slot w.host (suc k) ≡ x → AnswersBy w h queue (suc k) (said.Framed (suc k) frame page sense) x → suc k ≡ s → s < 65536
      by_slot (Open r) o z q = let j = inside w h f (suc k) r o in omega (arith, j, q)
      by_slot Free o z q = absurd z
      by_slot Parked o z q = absurd z
  said_small queue (said.Success k page sense) a s e = let q = eqb-true k s e in by_slot (slot w.host k) refl a q
    where
      by_slot : (x : Slot Request) → slot w.host k ≡ x → AnswersBy w h queue k (said.Success k page sense) x → k ≡ s → s < 65536
      by_slot (Open r) o z q = let j = inside w h f k r o in omega (arith, j, q)
      by_slot Free o z q = absurd z
      by_slot Parked o z q = absurd z

  put_up : (queue : ℕ) (y : Said) (rest : List Said) (z : Up) → outbox_of w.ioc queue ≡ y ∷ rest → up_of y (slice_get w.ioc.ring 0) ≡ Some z → Sound (with_up (record w { ioc = up_sent_on w.ioc queue }) queue (up_on w queue ++ z ∷ []))
  put_up queue y rest z e g =
      alike (is_live w) w.ioc.enabled w.ioc.through w.ioc.generation (λ s. queued_count s (normal_line w)) (λ s. reply_count s (up_line (with_up (record w { ioc = up_sent_on w.ioc queue }) queue (up_on w queue ++ z ∷ [])) 0)) refl refl refl refl (λ l s n. refl) (λ l s n. same s) sound
    where
      its : SaidIs w h queue y
      its = All-head (SaidIs w h queue) y rest (subst (All (SaidIs w h queue)) e (all_last (SaidIs w h queue) (map said_of (up_on w queue)) (outbox_of w.ioc queue) (f.messages.said queue)))

      same : (s : ℕ) → reply_count s (up_line (with_up (record w { ioc = up_sent_on w.ioc queue }) queue (up_on w queue ++ z ∷ [])) 0) ≤ reply_count s (up_line w 0)
      same s =
          let a = line_is s (with_up (record w { ioc = up_sent_on w.ioc queue }) queue (up_on w queue ++ z ∷ [])) in let c = line_is s w in
          let p = up_lines.put (is_reply_of s) w.up w.ioc.up queue 0 y rest z e (f.flights.sizes.lanes ∙ sym f.flights.sizes.outboxes) (same_identifier s y (slice_get w.ioc.ring 0) z (said_small queue y its) g) in
          omega (arith, a, c, p)

  -- ---- all cases

  owes : Owes Kept w
  owes =
      record {
        host_puts = λ x rest e a. sent x rest e;
        host_takes = λ queue x rest e y a. took_host queue x rest e (hears_up w.host queue x).part (hosts.took w h f bare stand sound one queue x rest e y a.started);
        host_told = λ i t a. told_host (host_told w.host i).part (hosts.told w h f bare stand sound one i);
        host_looks = λ e a. told_host (looks w.host) (hosts.looked w h f bare stand sound one e);
        host_stops = λ e a. told_host (stops w.host) (hosts.stopped w h f bare stand sound one);
        ioc_takes = λ x rest e a. (taken x rest (adapter.takes_down w.ioc x).part e (takes w.ioc f.doorbell.sound.waits f.clock.phase_table.whole x) (posted x) a, one);
        ioc_high = λ p rest e a. (high p rest e, one);
        ioc_normal = λ p rest e a. (normal p rest e, one);
        ioc_puts_out = λ x rest e a. (sound, one);
        ioc_takes_back = λ x rest e a. (from_fabric x rest a, one);
        ioc_puts = λ queue y rest z e g a. (put_up queue y rest z e g, one);
        fabric_takes = λ x rest e a. (sound, one);
        fabric_says = λ x rest e a. (sound, one);
        fabric_puts = λ x rest e a. (sound, one);
        fabric_runs = λ tag address e a. (sound, one);
        plugs = λ address expander phy a. (sound, one);
        unplugs = λ address a. (sound, one);
        calms = λ a. (sound, one);
      }

  behind : (c : Case) → Sound (happens w c) × One (happens w c)
  behind c =
      let k = clocks_kept w h c f plain in
      kept Kept w plain owes (λ a. (sound, one)) c
      (record {
        begun = k.phase_table.reset;
        live = λ l. (k.phase_table.live l).0;
        whole = whole_kept w h f plain c;
        started = started_kept w h (record { facts = f; plain = plain; heeded = resets_heeded w h f }) c;
      })

  pub brought_up : (c : Case) → BringUp (happens w c)
  brought_up c = let z = behind c in bring_up_of (happens w c) z.0 z.1

  pub enables_stay : (c : Case) → EnablesStand (happens w c)
  enables_stay c = let z = behind c in enables_of (happens w c) z.0

pub enables_first : (s : Setting) → EnablesStand (first_world s)
enables_first s =
    record {
      waiting = λ l k. let z = how_many-nil is_enable_waiting in absurd (omega (arith, z, k));
      none = λ b l. let p = hosts.none_free is_notification_asked refl 280 in let q = hosts.none_free is_enable_asked refl 280 in omega (arith, p, q);
    }
