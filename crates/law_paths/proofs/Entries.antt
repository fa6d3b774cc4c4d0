-- What entries make of how far a command is on its path: only those that name its identifier lead it on.
use Rattle.std.proofs.Common.{◌≡◌, ℕ, ◌≤◌, ◌==◌, ◌&&◌, nat_le, Bool, true, false, if◌then◌else◌, List, [], ◌∷◌, Option, Some, None, refl, ap, ◌∙◌, arith}
use Rattle.mpi_rings.specs.declared.request_descriptor.PostKind.TheVariants as post
use Rattle.mpt_trace.specs.declared.entry.Entry.{Entry}
use Rattle.mpt_trace.specs.declared.entry.Entry.TheVariants as entry
use Rattle.mpt_trace.specs.declared.item.Back.TheVariants as back
use Rattle.mpt_trace.specs.declared.item.Down.TheVariants as down
use Rattle.mpt_trace.specs.declared.item.Item.{Item}
use Rattle.mpt_trace.specs.declared.item.Item.TheVariants as item
use Rattle.mpt_trace.specs.declared.item.Out.TheVariants as out
use Rattle.mpt_trace.specs.declared.item.Up.TheVariants as up
use Rattle.mpt_trace.specs.declared.outcome.Outcome.{Outcome}
use Rattle.mpt_wire.specs.Messages.Fields.{smid_in}
use Rattle.mpt_wire.specs.Messages.Naming.{is_abort_of, names_command}
use Rattle.mpt_wire.specs.Paths.Commands.{Live, answer_mark, live_mark, mark_if, path_mark_of, put_mark, take_mark}
use Rattle.mpt_wire.specs.Paths.Stages.{PathStage, Walk, stage_after, stage_if, stopped_if, walk_next}
use Rattle.mpt_wire.specs.Paths.Table.{PathMark, Answers, TakesAbort}
use Rattle.mpt_wire.specs.Queues.Identifiers.{first_smid, last_smid}
use Rattle.mpt_wire.specs.Walks.Passes.{EachEntry, state_after}
use Rattle.law_facts.specs.History.{History, history_after}
use Rattle.law_facts.specs.Paths.{stage_of}

-- ---- which identifier an entry names

abbrev pub of_item : ℕ → Item → Bool
of_item s (item.Down (down.Post descriptor frame payload)) = names_command s descriptor
of_item s (item.Up (up.Reply descriptor frame page sense)) = names_command s descriptor
of_item s (item.Out (out.Task tag address command)) = s == tag
of_item s (item.Back (back.Result tag result)) = s == tag
of_item s (item.Back (back.Gone tag)) = s == tag
of_item s (item.Back (back.Terminated tag)) = s == tag
of_item s x = false

abbrev pub names : ℕ → Entry → Bool
names s (entry.Put lane x) = of_item s x
names s (entry.Take lane x) = of_item s x
names s (entry.Run address tag) = s == tag
names s (entry.Accept n address smid) = s == smid
names s e = false

abbrev pub Silent : ℕ → List Entry → Type 0
Silent s t = EachEntry (λ e. names s e ≡ false) t

-- an entry that names none
abbrev pub IsQuiet : Entry → Type 0
IsQuiet (entry.Put lane x) = ⊥
IsQuiet (entry.Take lane x) = ⊥
IsQuiet (entry.Run address tag) = ⊥
IsQuiet (entry.Accept n address smid) = ⊥
IsQuiet e = Unit {0}

quiet_names : (s : ℕ) (e : Entry) → IsQuiet e → names s e ≡ false
quiet_names s (entry.Given i) q = refl
quiet_names s (entry.Accept n a k) q = absurd q
quiet_names s (entry.Answer n how) q = refl
quiet_names s (entry.Idle x) q = refl
quiet_names s (entry.Put l x) q = absurd q
quiet_names s (entry.Take l x) q = absurd q
quiet_names s (entry.Bind handle a p) q = refl
quiet_names s (entry.Unbind handle) q = refl
quiet_names s entry.UnbindAll q = refl
quiet_names s (entry.Run a k) q = absurd q
quiet_names s entry.HostUp q = refl
quiet_names s (entry.Ready a handle) q = refl
quiet_names s (entry.Lost a handle) q = refl
quiet_names s (entry.RefuseSubmit n cause) q = refl
quiet_names s (entry.Refuse call cause) q = refl
quiet_names s (entry.AbortEnd n how) q = refl
quiet_names s (entry.TargetEnd a how) q = refl
quiet_names s entry.ResetDone q = refl

pub silent : (s : ℕ) (t : List Entry) → EachEntry IsQuiet t → Silent s t
silent s [] q = tt
silent s (e ∷ t) q = (quiet_names s e q.0, silent s t q.1)

-- ---- tests of identifiers

pub same : (n : ℕ) → (n == n) ≡ true
same n = grind arith

pub equal : (n m : ℕ) → (n == m) ≡ true → n ≡ m
equal n m e = grind (arith, e)

pub turned : (n m : ℕ) → (n == m) ≡ false → (m == n) ≡ false
turned n m e = grind (arith, e)

never : (b : Bool) → (b && false) ≡ false
never true = refl
never false = refl

pub not_named : (s d : ℕ) → (s == smid_in d) ≡ false → names_command s d ≡ false
not_named s d e = ap (λ b. nat_le (first_smid post.ScsiIo) s && nat_le s (last_smid post.ScsiIo) && b) (turned s (smid_in d) e) ∙ never (nat_le (first_smid post.ScsiIo) s && nat_le s (last_smid post.ScsiIo))

pub is_named : (d : ℕ) → 1 ≤ smid_in d → smid_in d ≤ 256 → names_command (smid_in d) d ≡ true
is_named d l m = grind (arith, l, m)

-- ---- an entry that doesn't name it

-- no mark that leads on
abbrev Still : PathStage → Option PathMark → Type 0
Still k None = Unit {0}
Still k (Some (Answers how)) = Unit {0}
Still k (Some TakesAbort) = Unit {0}
Still k (Some m) = ⊥

stays : (k : PathStage) (o : Option PathMark) → Still k o → stage_if k o ≡ k
stays k None s = refl
stays k (Some (Answers how)) s = refl
stays k (Some TakesAbort) s = refl
stays k (Some m) s = absurd s

unmarked : (k : PathStage) (b : Bool) (m : PathMark) → b ≡ false → Still k (mark_if b m)
unmarked k false m e = tt
unmarked k true m e = absurd (cc)

put_still : (k : PathStage) (s : ℕ) (x : Item) → of_item s x ≡ false → Still k (put_mark s x)
put_still k s (item.Down (down.Post d f p)) e = unmarked k (names_command s d) _ e
put_still k s (item.Down (down.Write reg value)) e = tt
put_still k s (item.Down (down.Read reg)) e = tt
put_still k s (item.Down (down.Return address index)) e = tt
put_still k s (item.Down down.Stop) e = tt
put_still k s (item.Up (up.Reply d f p q)) e = unmarked k (names_command s d) _ e
put_still k s (item.Up (up.Value value)) e = tt
put_still k s (item.Up (up.Mark generation)) e = tt
put_still k s (item.Up up.Calm) e = tt
put_still k s (item.Out (out.Task tag a c)) e = unmarked k (tag == s) _ (turned s tag e)
put_still k s (item.Out (out.Abort q task)) e = tt
put_still k s (item.Out (out.TargetReset q a)) e = tt
put_still k s (item.Out out.Discover) e = tt
put_still k s (item.Out (out.Link generation)) e = tt
put_still k s (item.Out out.Stop) e = tt
put_still k s (item.Back (back.Result tag r)) e = unmarked k (tag == s) _ (turned s tag e)
put_still k s (item.Back (back.Gone tag)) e = unmarked k (tag == s) _ (turned s tag e)
put_still k s (item.Back (back.Terminated tag)) e = unmarked k (tag == s) _ (turned s tag e)
put_still k s (item.Back (back.Aborted q found)) e = tt
put_still k s (item.Back (back.Cleared q count)) e = tt
put_still k s (item.Back (back.Plugged a p x y)) e = tt
put_still k s (item.Back (back.Unplugged a p x y)) e = tt
put_still k s (item.Back back.Discovered) e = tt
put_still k s (item.Back (back.Linked generation)) e = tt
put_still k s (item.Back back.Calm) e = tt
put_still k s (item.Ask x) e = tt
put_still k s (item.Tell x) e = tt

by_abort : (k : PathStage) (b : Bool) (live : Option Live) (o : Option PathMark) → Still k o → Still k (if b then live_mark live TakesAbort else o)
by_abort k true None o s = tt
by_abort k true (Some live) o s = tt
by_abort k false live o s = s

take_still : (k : PathStage) (s : ℕ) (x : Item) → of_item s x ≡ false → Still k (take_mark s x)
take_still k s (item.Down (down.Post d f p)) e = unmarked k (names_command s d) _ e
take_still k s (item.Down (down.Write reg value)) e = tt
take_still k s (item.Down (down.Read reg)) e = tt
take_still k s (item.Down (down.Return address index)) e = tt
take_still k s (item.Down down.Stop) e = tt
take_still k s (item.Up (up.Reply d f p q)) e = unmarked k (names_command s d) _ e
take_still k s (item.Up (up.Value value)) e = tt
take_still k s (item.Up (up.Mark generation)) e = tt
take_still k s (item.Up up.Calm) e = tt
take_still k s (item.Out (out.Task tag a c)) e = unmarked k (tag == s) _ (turned s tag e)
take_still k s (item.Out (out.Abort q task)) e = tt
take_still k s (item.Out (out.TargetReset q a)) e = tt
take_still k s (item.Out out.Discover) e = tt
take_still k s (item.Out (out.Link generation)) e = tt
take_still k s (item.Out out.Stop) e = tt
take_still k s (item.Back (back.Result tag r)) e = unmarked k (tag == s) _ (turned s tag e)
take_still k s (item.Back (back.Gone tag)) e = unmarked k (tag == s) _ (turned s tag e)
take_still k s (item.Back (back.Terminated tag)) e = unmarked k (tag == s) _ (turned s tag e)
take_still k s (item.Back (back.Aborted q found)) e = tt
take_still k s (item.Back (back.Cleared q count)) e = tt
take_still k s (item.Back (back.Plugged a p x y)) e = tt
take_still k s (item.Back (back.Unplugged a p x y)) e = tt
take_still k s (item.Back back.Discovered) e = tt
take_still k s (item.Back (back.Linked generation)) e = tt
take_still k s (item.Back back.Calm) e = tt
take_still k s (item.Ask x) e = tt
take_still k s (item.Tell x) e = tt

answer_still : (k : PathStage) (live : Option Live) (n : ℕ) (how : Outcome) → Still k (answer_mark live n how)
answer_still k None n how = tt
answer_still k (Some live) n how = by_test (live.number == n)
  where
    by_test : (b : Bool) → Still k (mark_if b (Answers how))
    by_test true = tt
    by_test false = tt

-- its stage stays, and that an abort which names it was taken
record Left (g : Walk) (x : Walk) : Type 0 where
  stage : x.stage ≡ g.stage
  stopped : g.stopped ≡ true → x.stopped ≡ true

pub stopped_stays : (b : Bool) (o : Option PathMark) → b ≡ true → stopped_if b o ≡ true
stopped_stays b None e = e
stopped_stays b (Some TakesAbort) e = refl
stopped_stays b (Some m) e = e

entry_left : (s : ℕ) (g : Walk) (e : Entry) → names s e ≡ false → Left g (walk_next s g e)
entry_left s g (entry.Given i) n = record { stage = refl; stopped = λ y. y }
entry_left s g (entry.Idle x) n = record { stage = refl; stopped = λ y. y }
entry_left s g (entry.Bind handle a p) n = record { stage = refl; stopped = λ y. y }
entry_left s g (entry.Unbind handle) n = record { stage = refl; stopped = λ y. y }
entry_left s g entry.UnbindAll n = record { stage = refl; stopped = λ y. y }
entry_left s g entry.HostUp n = record { stage = refl; stopped = λ y. y }
entry_left s g (entry.Ready a handle) n = record { stage = refl; stopped = λ y. y }
entry_left s g (entry.Lost a handle) n = record { stage = refl; stopped = λ y. y }
entry_left s g (entry.RefuseSubmit m cause) n = record { stage = refl; stopped = λ y. y }
entry_left s g (entry.Refuse call cause) n = record { stage = refl; stopped = λ y. y }
entry_left s g (entry.AbortEnd m how) n = record { stage = refl; stopped = λ y. y }
entry_left s g (entry.TargetEnd a how) n = record { stage = refl; stopped = λ y. y }
entry_left s g entry.ResetDone n = record { stage = refl; stopped = λ y. y }
entry_left s g (entry.Answer m how) n = record { stage = stays g.stage (answer_mark g.known.live m how) (answer_still g.stage g.known.live m how); stopped = stopped_stays g.stopped (answer_mark g.known.live m how) }
entry_left s g (entry.Put l x) n = record { stage = stays g.stage (put_mark s x) (put_still g.stage s x n); stopped = stopped_stays g.stopped (put_mark s x) }
entry_left s g (entry.Take l x) n =
    record {
      stage = stays g.stage (path_mark_of s g.known.live (entry.Take l x)) (by_abort g.stage (is_abort_of s x) g.known.live (take_mark s x) (take_still g.stage s x n));
      stopped = stopped_stays g.stopped (path_mark_of s g.known.live (entry.Take l x));
    }
entry_left s g (entry.Run a tag) n = record { stage = stays g.stage (path_mark_of s g.known.live (entry.Run a tag)) (unmarked g.stage (tag == s) _ (turned s tag n)); stopped = stopped_stays g.stopped (path_mark_of s g.known.live (entry.Run a tag)) }
entry_left s g (entry.Accept m a k) n = by_test (k == s) (turned s k n)
  where
    by_test : (b : Bool) → b ≡ false → Left g (record {
      known = if b then record { submitted = g.known.submitted; live = Some (record { number = m; address = a; command = g.known.submitted }) } else g.known;
      stage = if b then Rattle.mpt_wire.specs.Paths.Stages.Accepted else stage_if g.stage (if b then live_mark g.known.live Rattle.mpt_wire.specs.Paths.Table.IsAcceptedAgain else None);
      stopped = if b then false else stopped_if g.stopped (if b then live_mark g.known.live Rattle.mpt_wire.specs.Paths.Table.IsAcceptedAgain else None);
    })
    by_test false e = record { stage = refl; stopped = λ y. y }
    by_test true e = absurd (cc)

left_behind : (s : ℕ) (g : Walk) (t : List Entry) → Silent s t → Left g (state_after (walk_next s) g t)
left_behind s g [] q = record { stage = refl; stopped = λ y. y }
left_behind s g (e ∷ t) q = let a = entry_left s g e q.0 in let z = left_behind s (walk_next s g e) t q.1 in record { stage = z.stage ∙ a.stage; stopped = λ y. z.stopped (a.stopped y) }

-- ---- over the entries of a case

module _ (h : History) (t : List Entry) where
  pub stage_stays : (s : ℕ) → Silent s t → stage_of (history_after h t) s ≡ stage_of h s
  stage_stays s q = (left_behind s (h.walk s) t q).stage

  pub mark_stays : (s : ℕ) → Silent s t → (h.walk s).stopped ≡ true → ((history_after h t).walk s).stopped ≡ true
  mark_stays s q = (left_behind s (h.walk s) t q).stopped

-- behind the first entry
pub first_leads : (h : History) (s : ℕ) (e : Entry) (t : List Entry) → EachEntry IsQuiet t → stage_of (history_after h (e ∷ t)) s ≡ (walk_next s (h.walk s) e).stage
first_leads h s e t q = (left_behind s (walk_next s (h.walk s) e) t (silent s t q)).stage

pub first_marks : (h : History) (s : ℕ) (e : Entry) (t : List Entry) → EachEntry IsQuiet t → (walk_next s (h.walk s) e).stopped ≡ true → ((history_after h (e ∷ t)).walk s).stopped ≡ true
first_marks h s e t q = (left_behind s (walk_next s (h.walk s) e) t (silent s t q)).stopped
