-- Each task that a controller puts was sent to the address to which its post's handle was bound then.
use Rattle.std.proofs.Common.{◌≡◌, ℕ, zero, suc, ◌+◌, Bool, true, false, if◌then◌else◌, not, ◌||◌, ◌⊎◌, inl, inr, List, [], ◌∷◌, ◌++◌, length, Option, Some, None, refl, ap, sym, subst, ◌∙◌, arith, append_assoc}
use Rattle.std.specs.Prelude.{Contains, drop, slice_get, take}
use Rattle.std.proofs.lemmas.List.Elements.{Contains-append_cases}
use Rattle.scsi_disk.specs.declared.command.Command.{Command}
use Rattle.mpi_doorbell.specs.DoorRegisters.{is_fault, register_written}
use Rattle.mpi_doorbell.specs.declared.effect.Effect.{Effect}
use Rattle.mpi_doorbell.specs.declared.effect.Effect.TheVariants as effect
use Rattle.mpi_rings.specs.declared.request_descriptor.PostKind.{PostKind}
use Rattle.mpi_rings.specs.declared.request_descriptor.PostKind.TheVariants as post
use Rattle.mpt_trace.specs.declared.item.Back.{Back}
use Rattle.mpt_trace.specs.declared.item.Down.{Down}
use Rattle.mpt_trace.specs.declared.item.Down.TheVariants as down
use Rattle.mpt_trace.specs.declared.item.Out.{Out}
use Rattle.mpt_trace.specs.declared.item.Out.TheVariants as out
use Rattle.mpt_trace.specs.declared.item.Up.{Up}
use Rattle.mpt_wire.specs.Messages.Fields.{controlled_handle_in, dev_handle_in, kind_in, smid_in}
use Rattle.mpt_rules.specs.declared.binding.Binding.TheVariants as binding
use Rattle.mpt_rules.specs.declared.binding.Waiting.{Waiting}
use Rattle.mpt_rules.specs.declared.post.Post.{Post}
use Rattle.mpt_rules.specs.Ioc.Bindings as bind
use Rattle.mpt_rules.specs.Ioc.Commands as commands
use Rattle.mpt_rules.specs.Ioc.Parts.{Ioc, new_ioc}
use Rattle.mpt_rules.specs.Ioc.Posts as posts
use Rattle.mpt_rules.specs.Ioc.Registers.{after_effect, handshakes}
use Rattle.mpt_rules.specs.Ioc.Replies as say
use Rattle.mpt_rules.specs.Ioc.Requests as ask
use Rattle.mpt_rules.specs.Ioc.Sending.{front_out, front_up_on}
use Rattle.mpt_rules.specs.Ioc.Steps.{steps_high_on, steps_normal_on, works_on}
use Rattle.mpt_rules.specs.Ioc.Tables as table
use Rattle.mpt_rules.specs.Ioc.Takes.{takes_back, takes_down}
use Rattle.mpt_rules.specs.Outcome.{Happening}
use Rattle.ioc_core.specs.Plays.{after_moves, moved, placed, puts_out, puts_up, talk_from}
use Rattle.ioc_core.specs.declared.moves.IocMove.{IocMove}
use Rattle.ioc_core.specs.declared.moves.IocMove.TheVariants as move
use Rattle.ioc_core.specs.declared.moves.IocSaid.{IocSaid}
use Rattle.ioc_core.specs.declared.moves.IocSaid.TheVariants as said
use Rattle.law_flights.proofs.Leaves.{Bound, Calmed, Done, Ended, Hears, Linked, Lost, Passed, Unawaited, Waits, back_leaf, reply_made}
use Rattle.law_flights.proofs.WorkLeaves.{AbortEnds, AbortSends, Acks, Dropped, Enables, EndsPlainly, Notifies, PageEnds, PageGiven, Refuses, RemovalEnds, Removes, ResetEnds, ResetHolds, ResetSends, ScsiEnds, ScsiSends, Stops, Strays, TaskFails, Works, works_leaf}
use Rattle.law_moves.proofs.IocTakes.{ComesUp, Shook, Stays, shook}
use Rattle.law_ends.specs.IocEnds.{ioc_reached}
use Rattle.law_ends.specs.IocTasks.{IsSentFor, TasksGoWhereBound, post_worked}

parts : (p q : ℕ) (x y : IocSaid) → ◌≡◌ {A = ℕ × IocSaid} (p, x) (q, y) → (p ≡ q) × (x ≡ y)
parts p q x y e = (ap (λ (z : ℕ × IocSaid). z.0) e, ap (λ (z : ℕ × IocSaid). z.1) e)

apart : (y : Up) (x : Out) → said.Up y ≡ said.Out x → ⊥
apart y x e = cc

same_item : (y x : Out) → said.Out y ≡ said.Out x → y ≡ x
same_item y x e = cc

-- a relation of a task's identifier, its address and its command
module _ (A : ℕ → ℕ → Command → Type 0) where
  abbrev pub IsSent : Out → Type 0
  IsSent (out.Task tag address command) = A tag address command
  IsSent _ = Unit {0}

  abbrev pub AreSent : List Out → Type 0
  AreSent [] = Unit {0}
  AreSent (x ∷ xs) = IsSent x × AreSent xs

  abbrev pub HasSent : Ioc → Type 0
  HasSent ioc = AreSent ioc.out

  one_more : (xs : List Out) (x : Out) → IsSent x → AreSent xs → AreSent (xs ++ x ∷ [])
  one_more [] x a h = (a, tt)
  one_more (y ∷ xs) x a h = (h.0, one_more xs x a h.1)

  without_first : (xs : List Out) → AreSent xs → AreSent (drop 1 xs)
  without_first [] h = tt
  without_first (x ∷ xs) h = h.1

  to : (x o : Happening Ioc) → o ≡ x → HasSent x.part → HasSent o.part
  to x o e h = subst (λ (y : Happening Ioc). HasSent y.part) (sym e) h

  if_so : (b : Bool) (x y : Ioc) → HasSent x → HasSent y → HasSent (if b then x else y)
  if_so true x y s t = s
  if_so false x y s t = t

  -- ---- what is taken of the host

  after_handshake : (i k : Ioc) → Shook i k → HasSent i → HasSent k
  after_handshake i k (Stays s e) h = subst HasSent (sym e) h
  after_handshake i k (ComesUp r s e) h = subst HasSent (sym e) h

  after_write : (ioc : Ioc) (e : Effect) → HasSent ioc → HasSent (after_effect ioc e).part
  after_write ioc effect.None h = h
  after_write ioc (effect.Asked count bytes) h = after_handshake ioc (handshakes ioc (take count bytes)) (shook ioc (take count bytes)) h
  after_write ioc effect.UnitReset h = (tt, tt)
  after_write ioc effect.AdapterReset h = (tt, tt)
  after_write ioc (effect.Fault code) h = h

  posted : (ioc : Ioc) (p : Post) (o : Option PostKind) → HasSent ioc → HasSent (posts.posts_if ioc p o)
  posted ioc p None h = h
  posted ioc p (Some k) h =
      if_so (not (posts.is_in_class (posts.class_of k) (smid_in p.descriptor))) (table.faults ioc posts.bad_post) (if table.is_unanswered ioc (smid_in p.descriptor) then table.faults ioc posts.identifier_in_use else posts.with_post_queued ioc p k) h
      (if_so (table.is_unanswered ioc (smid_in p.descriptor)) (table.faults ioc posts.identifier_in_use) (posts.with_post_queued ioc p k) h (by_kind k))
    where
      by_kind : (x : PostKind) → HasSent (posts.with_post_queued ioc p x)
      by_kind post.ScsiIo = h
      by_kind post.HighPriority = h
      by_kind post.Default = h

  after_down : (ioc : Ioc) (next : Down) → HasSent ioc → HasSent (takes_down ioc next).part
  after_down ioc (down.Write reg value) h = after_write (record ioc { door = (register_written ioc.door reg value).registers }) (register_written ioc.door reg value).effect h
  after_down ioc (down.Read reg) h = h
  after_down ioc (down.Post descriptor frame payload) h =
      if_so (table.is_operational ioc.door.state) (posts.ioc_takes_post ioc descriptor frame payload) ioc
      (posted ioc (record { descriptor = descriptor; frame = frame; payload = payload }) (kind_in descriptor) h) h
  after_down ioc (down.Return address index) h =
      if_so (table.is_operational ioc.door.state) (posts.ioc_takes_return ioc address) ioc
      (if_so (not (posts.is_frame_address address) || posts.frame_here ioc (posts.frame_near address)) (table.faults ioc posts.bad_return) (record ioc { ring = ioc.ring ++ posts.frame_near address ∷ [] }) h h) h
  after_down ioc down.Stop h = if_so (is_fault ioc.door.state) ioc (say.with_out_item ioc out.Stop) h (one_more ioc.out out.Stop tt h)

  -- ---- what is taken of the fabric

  changed : (ioc : Ioc) (handle expander phy : ℕ) (is_added : Bool) → HasSent ioc → HasSent (bind.changes ioc handle expander phy is_added)
  changed ioc handle expander phy is_added h = if_so ioc.through (bind.tells_change ioc handle expander phy is_added) ioc h h

  released : (ioc : Ioc) (handle : ℕ) → HasSent ioc → HasSent (commands.releases ioc handle)
  released ioc handle h = if_so (table.has_commands ioc handle) ioc (commands.answers_held ioc handle) h h

  heard : (ioc : Ioc) (next : Back) (o : Happening Ioc) → Hears ioc next o → HasSent ioc → HasSent o.part
  heard ioc next o (Passed e) h = to _ o e h
  heard ioc next o (Ended tag handle queue len written at e) h = to _ o e (released (say.says_on (table.without_request ioc tag) queue (reply_made next handle len written ∷ [])) handle h)
  heard ioc next o (Done smid r answer at e) h = to _ o e h
  heard ioc next o (Bound disk handle l k e) h =
      to (bind.binds_to ioc disk (Some handle)) o e (changed (table.with_binding ioc handle (binding.Present disk.address disk.plug disk.expander disk.phy)) handle disk.expander disk.phy true h)
  heard ioc next o (Waits disk l k e) h = to _ o e h
  heard ioc next o (Lost handle address plug expander phy b e) h =
      to (table.silently (bind.changes (table.with_binding ioc handle (binding.Gone address)) handle expander phy false)) o e (changed (table.with_binding ioc handle (binding.Gone address)) handle expander phy false h)
  heard ioc next o (Unawaited address n e) h = to _ o e h
  heard ioc next o (Linked generation r e) h = to _ o e h
  heard ioc next o (Calmed e) h = to _ o e h

  -- ---- work steps

  bound_first : (ioc : Ioc) (xs : List Waiting) → HasSent ioc → HasSent (bind.binds_first ioc xs).part
  bound_first ioc [] h = h
  bound_first ioc (disk ∷ others) h = by_free (table.least_unbound (record ioc { waiting = others }))
    where
      by_free : (o : Option ℕ) → HasSent (bind.binds_to (record ioc { waiting = others }) disk o).part
      by_free None = h
      by_free (Some handle) = changed (table.with_binding (record ioc { waiting = others }) handle (binding.Present disk.address disk.plug disk.expander disk.phy)) handle disk.expander disk.phy true h

  -- a post whose handle is bound is sent to the address
  abbrev Sends : Ioc → Post → Type 0
  Sends ioc p = (address plug expander phy : ℕ) → table.binding_of ioc (dev_handle_in p.frame) ≡ binding.Present address plug expander phy → A (smid_in p.descriptor) address (commands.command_in p.frame p.payload)

  worked : (ioc : Ioc) (p : Post) (o : Happening Ioc) → Works ioc p o → Sends ioc p → HasSent ioc → HasSent o.part
  worked ioc p o (Dropped k e) a h = to _ o e h
  worked ioc p o (Refuses k f i r e) a h = to _ o e h
  worked ioc p o (ScsiEnds status k c e) a h = to _ o e h
  worked ioc p o (ScsiSends address plug expander phy k i b e) a h = to _ o e (one_more ioc.out (out.Task (smid_in p.descriptor) address (commands.command_in p.frame p.payload)) (a address plug expander phy b) h)
  worked ioc p o (Stops stop k f e) a h = to _ o e h
  worked ioc p o (AbortSends k f r e) a h = to _ o e (one_more ioc.out _ tt h)
  worked ioc p o (AbortEnds k f r e) a h = to _ o e h
  worked ioc p o (ResetSends address plug expander phy k b e) a h = to _ o e (one_more ioc.out (out.TargetReset (smid_in p.descriptor) address) tt h)
  worked ioc p o (ResetHolds address k b c e) a h = to _ o e h
  worked ioc p o (ResetEnds status k e) a h = to _ o e h
  worked ioc p o (TaskFails k e) a h = to _ o e h
  worked ioc p o (PageEnds status k e) a h = to _ o e h
  worked ioc p o (PageGiven page k x e) a h = to _ o e h
  worked ioc p o (Enables k n e) a h = to _ o e (one_more ioc.out out.Discover tt h)
  worked ioc p o (Notifies k e) a h = to _ o e h
  worked ioc p o (Acks k v e) a h = to _ o e h
  worked ioc p o (EndsPlainly f status k e) a h = to _ o e h
  worked ioc p o (RemovalEnds status k e) a h = to _ o e h
  worked ioc p o (Removes address k f b c e) a h =
      to (ask.removes ioc p) o e (bound_first (ask.ioc_ends_removal (table.with_binding ioc (controlled_handle_in p.frame) binding.Unbound) p 0) ioc.waiting h)
  worked ioc p o (Strays k r e) a h = to _ o e h

  -- ---- every move

  after_high : (ioc : Ioc) (ps : List Post) → ((p : Post) → slice_get ps 0 ≡ Some p → Sends ioc p) → HasSent ioc → HasSent (steps_high_on ioc ps).part
  after_high ioc [] a h = h
  after_high ioc (p ∷ rest) a h = worked (record ioc { high = rest }) p (works_on (record ioc { high = rest }) p) (works_leaf (record ioc { high = rest }) p) (a p refl) h

  after_normal : (ioc : Ioc) (ps : List Post) → ((p : Post) → slice_get ps 0 ≡ Some p → Sends ioc p) → HasSent ioc → HasSent (steps_normal_on ioc ps).part
  after_normal ioc [] a h = h
  after_normal ioc (p ∷ rest) a h = worked (record ioc { normal = rest }) p (works_on (record ioc { normal = rest }) p) (works_leaf (record ioc { normal = rest }) p) (a p refl) h

  after_up : (ioc : Ioc) (queue : ℕ) (o : Option Up) → HasSent ioc → HasSent (puts_up ioc queue o).part
  after_up ioc queue None h = h
  after_up ioc queue (Some y) h = h

  after_out : (ioc : Ioc) (o : Option Out) → HasSent ioc → HasSent (puts_out ioc o).part
  after_out ioc None h = h
  after_out ioc (Some y) h = without_first ioc.out h

  pub sent_after : (ioc : Ioc) (m : IocMove) → ((p : Post) → post_worked ioc m ≡ Some p → Sends ioc p) → HasSent ioc → HasSent (moved ioc m).part
  sent_after ioc (move.Down item) a h = after_down ioc item h
  sent_after ioc (move.Back item) a h = heard ioc item (takes_back ioc item) (back_leaf ioc item) h
  sent_after ioc move.High a h = after_high ioc ioc.high a h
  sent_after ioc move.Normal a h = after_normal ioc ioc.normal a h
  sent_after ioc move.PutUp a h = after_up ioc 0 (front_up_on ioc 0) h
  sent_after ioc (move.PutUpOn queue) a h = after_up ioc queue (front_up_on ioc queue) h
  sent_after ioc move.PutOut a h = after_out ioc (front_out ioc) h

  -- a task that a move puts was sent
  up_said : (ioc : Ioc) (queue place p : ℕ) (x : Out) (o : Option Up) → Contains (placed place (puts_up ioc queue o).said) (p, said.Out x) → ⊥
  up_said ioc queue place p x None (k, l, e) = omega (arith, l)
  up_said ioc queue place p x (Some y) (zero, l, e) = apart y x (parts place p (said.Up y) (said.Out x) e).1
  up_said ioc queue place p x (Some y) (suc k, l, e) = omega (arith, l)

  out_said : (ioc : Ioc) (place p : ℕ) (x : Out) (xs : List Out) → AreSent xs → Contains (placed place (puts_out ioc (slice_get xs 0)).said) (p, said.Out x) → (p ≡ place) × IsSent x
  out_said ioc place p x [] h (k, l, e) = absurd (omega (arith, l))
  out_said ioc place p x (y ∷ xs) h (zero, l, e) =
      let b = parts place p (said.Out y) (said.Out x) e in
      (sym b.0, subst IsSent (same_item y x b.1) h.0)
  out_said ioc place p x (y ∷ xs) h (suc k, l, e) = absurd (omega (arith, l))

  none_said : (place p : ℕ) (x : Out) → Contains (placed place []) (p, said.Out x) → ⊥
  none_said place p x (k, l, e) = omega (arith, l)

  pub said_sent : (ioc : Ioc) (m : IocMove) (place p : ℕ) (x : Out) → HasSent ioc → Contains (placed place (moved ioc m).said) (p, said.Out x) → (p ≡ place) × IsSent x
  said_sent ioc (move.Down item) place p x h c = absurd (none_said place p x c)
  said_sent ioc (move.Back item) place p x h c = absurd (none_said place p x c)
  said_sent ioc move.High place p x h c = absurd (none_said place p x c)
  said_sent ioc move.Normal place p x h c = absurd (none_said place p x c)
  said_sent ioc move.PutUp place p x h c = absurd (up_said ioc 0 place p x (front_up_on ioc 0) c)
  said_sent ioc (move.PutUpOn queue) place p x h c = absurd (up_said ioc queue place p x (front_up_on ioc queue) c)
  said_sent ioc move.PutOut place p x h c = out_said ioc place p x ioc.out h c

mono : (A B : ℕ → ℕ → Command → Type 0) → ((t a : ℕ) (c : Command) → A t a c → B t a c) → (xs : List Out) → AreSent A xs → AreSent B xs
mono A B f [] h = tt
mono A B f (x ∷ xs) h = (by_item x h.0, mono A B f xs h.1)
  where
    by_item : (y : Out) → IsSent A y → IsSent B y
    by_item (out.Task tag address command) s = f tag address command s
    by_item (out.Abort smid task) s = tt
    by_item (out.TargetReset smid address) s = tt
    by_item out.Discover s = tt
    by_item (out.Link generation) s = tt
    by_item out.Stop s = tt

-- ---- over a list of moves

after-append : (ioc : Ioc) (a b : List IocMove) → after_moves ioc (a ++ b) ≡ after_moves (after_moves ioc a) b
unfolding after_moves
after-append ioc [] b = refl
after-append ioc (m ∷ a) b = after-append (moved ioc m).part a b

one_move : (ioc : Ioc) (a : List IocMove) (m : IocMove) → after_moves ioc (a ++ m ∷ []) ≡ (moved (after_moves ioc a) m).part
unfolding after_moves
one_move ioc a m = after-append ioc a (m ∷ [])

at_length : (a : List IocMove) (m : IocMove) (b : List IocMove) → slice_get (a ++ m ∷ b) (length a) ≡ Some m
at_length [] m b = refl
at_length (x ∷ a) m b = at_length a m b

taken : (a b : List IocMove) → take (length a) (a ++ b) ≡ a
taken [] b = refl
taken (x ∷ a) b = ap (λ t. x ∷ t) (taken a b)

length_one : (a : List IocMove) (m : IocMove) → length (a ++ m ∷ []) ≡ length a + 1
length_one [] m = refl
length_one (x ∷ a) m = let h = length_one a m in omega (arith, h)

module _ (phys : List ℕ) (q : ℕ) where
  later : (moves : List IocMove) (place t a : ℕ) (c : Command) → IsSentFor phys q moves place t a c → IsSentFor phys q moves (place + 1) t a c
  later moves place t a c s =
      let l = s.earlier in
      record {
        sent_at = s.sent_at;
        earlier = omega (arith, l);
        played = s.played;
        is_played = s.is_played;
        posted = s.posted;
        works = s.works;
        names = s.names;
        asks = s.asks;
        plug = s.plug;
        expander = s.expander;
        phy = s.phy;
        bound = s.bound;
      }

  found : (done moves : List IocMove) (place : ℕ) → place ≡ length done → AreSent (IsSentFor phys q (done ++ moves) place) (ioc_reached phys q done).out → (p tag address : ℕ) (command : Command)
      → Contains (talk_from place (ioc_reached phys q done) moves) (p, said.Out (out.Task tag address command)) → IsSentFor phys q (done ++ moves) p tag address command
  unfolding talk_from
  found done [] place at h p tag address command (k, l, e) = absurd (omega (arith, l))
  found done (m ∷ moves) place at h p tag address command c =
      let ioc : Ioc = ioc_reached phys q done in
      let whole : List IocMove = done ++ m ∷ moves in
      let sends : (x : Post) → post_worked ioc m ≡ Some x → (a plug expander phy : ℕ) → table.binding_of ioc (dev_handle_in x.frame) ≡ binding.Present a plug expander phy → IsSentFor phys q whole (place + 1) (smid_in x.descriptor) a (commands.command_in x.frame x.payload) =
      λ x w a plug expander phy b.
      let there : ioc ≡ ioc_reached phys q (take place whole) = sym (ap (λ (k : ℕ). ioc_reached phys q (take k whole)) at ∙ ap (ioc_reached phys q) (taken done (m ∷ moves))) in
      record {
        sent_at = place;
        earlier = omega arith;
        played = m;
        is_played = ap (slice_get whole) at ∙ at_length done m moves;
        posted = x;
        works = subst (λ (i : Ioc). post_worked i m ≡ Some x) there w;
        names = refl;
        asks = refl;
        plug = plug;
        expander = expander;
        phy = phy;
        bound = subst (λ (i : Ioc). table.binding_of i (dev_handle_in x.frame) ≡ binding.Present a plug expander phy) there b;
      } in
      let after : AreSent (IsSentFor phys q whole (place + 1)) (moved ioc m).part.out =
      sent_after (IsSentFor phys q whole (place + 1)) ioc m sends (mono (IsSentFor phys q whole place) (IsSentFor phys q whole (place + 1)) (λ t a x s. later whole place t a x s) ioc.out h) in
      let joined : (done ++ m ∷ []) ++ moves ≡ whole = append_assoc done (m ∷ []) moves in
      let next : (moved ioc m).part ≡ ioc_reached phys q (done ++ m ∷ []) = sym (one_move (new_ioc phys q) done m) in
      let long = length_one done m in
      by_side (said_sent (IsSentFor phys q whole place) ioc m place p (out.Task tag address command) h)
      (λ x. subst (λ (w : List IocMove). IsSentFor phys q w p tag address command) joined
      (found (done ++ m ∷ []) moves (place + 1) (omega (arith, at, long))
      (subst (λ (w : List IocMove). AreSent (IsSentFor phys q w (place + 1)) (ioc_reached phys q (done ++ m ∷ [])).out) (sym joined)
      (subst (λ (i : Ioc). AreSent (IsSentFor phys q whole (place + 1)) i.out) next after))
      p tag address command (subst (λ (i : Ioc). Contains (talk_from (place + 1) i moves) (p, said.Out (out.Task tag address command))) next x)))
      (Contains-append_cases (placed place (moved ioc m).said) (talk_from (place + 1) (moved ioc m).part moves) (p, said.Out (out.Task tag address command)) c)
    where
      by_side : {here rest : Type 0} → (here → (p ≡ place) × IsSentFor phys q (done ++ m ∷ moves) place tag address command) → (rest → IsSentFor phys q (done ++ m ∷ moves) p tag address command) → here ⊎ rest → IsSentFor phys q (done ++ m ∷ moves) p tag address command
      by_side f g (inl x) = let b = f x in subst (λ (k : ℕ). IsSentFor phys q (done ++ m ∷ moves) k tag address command) (sym b.0) b.1
      by_side f g (inr x) = g x

pub tasks_law : TasksGoWhereBound
unfolding after_moves
tasks_law phys q moves place tag address command c = found phys q [] moves 0 refl tt place tag address command c
