-- How items stay staged: where an identifier's stage and record stay, so does what each item says of it.
use Rattle.std.proofs.Common.{◌≡◌, ℕ, true, List, [], ◌∷◌, Option, Some, None, refl, ap, sym, ◌∙◌, subst}
use Rattle.std.specs.Prelude.{All}
use Rattle.std.proofs.lemmas.List.Elements.{All-cons, All-head, All-nil, All-tail}
use Rattle.scsi_disk.specs.declared.scsi_result.ScsiResult.{ScsiResult}
use Rattle.smid_pool.specs.Pool.{Free, Open, Parked, Slot}
use Rattle.mpt_trace.specs.declared.item.Back.{Back}
use Rattle.mpt_trace.specs.declared.item.Back.TheVariants as back
use Rattle.mpt_trace.specs.declared.item.Down.{Down}
use Rattle.mpt_trace.specs.declared.item.Down.TheVariants as down
use Rattle.mpt_trace.specs.declared.item.Out.{Out}
use Rattle.mpt_trace.specs.declared.item.Out.TheVariants as out
use Rattle.mpt_trace.specs.declared.item.Up.{Up}
use Rattle.mpt_trace.specs.declared.item.Up.TheVariants as up
use Rattle.mpt_wire.specs.Messages.Fields.{smid_in}
use Rattle.mpt_wire.specs.Messages.Naming.{Says, NotThere, Stopped, AResult, said_in}
use Rattle.mpt_wire.specs.Paths.Stages.{PathStage, Accepted, Posted, AtController, Sent, AtDisk, HasRun, SaysResult, HasResult, SaysGone, HasGone, SaysTerminated, HasTerminated, Replied, Heard}
use Rattle.mpt_rules.specs.declared.post.Post.{Post}
use Rattle.mpt_rules.specs.declared.request.Request.{Request}
use Rattle.mpt_rules.specs.declared.request.Request.TheVariants as request
use Rattle.mpt_rules.specs.declared.said.Said.{Said}
use Rattle.mpt_rules.specs.declared.said.Said.TheVariants as said
use Rattle.mpt_rules.specs.declared.task.Task.{Task}
use Rattle.mpt_rules.specs.Host.Replies.{ended}
use Rattle.mpt_rules.specs.Ioc.Replies.{outbox_of}
use Rattle.mpt_rules.specs.World.State.{World, up_on}
use Rattle.law_facts.specs.History.{History}
use Rattle.law_facts.specs.Paths.{BackStage, HasItsResult, MayReply, RepliesAt, SaidStage, UpStage, stage_of}
use Rattle.law_facts.specs.Words.{is_command_asked, slot}
use Rattle.law_paths.specs.Staged.{At, DownAt, MadeAt, OutAt, PostAt, Staged, TaskAt}

pub asked_is : (x : Slot Request) → is_command_asked x ≡ true → (n : ℕ) × (x ≡ Open (request.Command n))
asked_is Free e = absurd (cc)
asked_is Parked e = absurd (cc)
asked_is (Open (request.Command n)) e = (n, refl)
asked_is (Open (request.Abort a t)) e = absurd (cc)
asked_is (Open (request.TargetReset a)) e = absurd (cc)
asked_is (Open (request.Leave a)) e = absurd (cc)
asked_is (Open (request.Page a)) e = absurd (cc)
asked_is (Open (request.Remove a)) e = absurd (cc)
asked_is (Open (request.Ack a t)) e = absurd (cc)
asked_is (Open request.Notification) e = absurd (cc)
asked_is (Open request.PortEnable) e = absurd (cc)

pub is_asked : (x : Slot Request) (n : ℕ) → x ≡ Open (request.Command n) → is_command_asked x ≡ true
is_asked x n e = ap is_command_asked e

-- what stays of the identifiers that are apart from the one that a case leads on
pub record Kept (w : World) (h : History) (v : World) (k : History) (Apart : ℕ → Type 0) : Type 0 where
  pub stage : (s : ℕ) → Apart s → stage_of k s ≡ stage_of h s
  pub mark : (s : ℕ) → Apart s → (h.walk s).stopped ≡ true → (k.walk s).stopped ≡ true
  pub was : (s n : ℕ) → Apart s → slot v.host s ≡ Open (request.Command n) → slot w.host s ≡ Open (request.Command n)
  pub outcome : (s n : ℕ) (r : ScsiResult) → Apart s → slot v.host s ≡ Open (request.Command n) → h.machine.outcome n ≡ Some r → k.machine.outcome n ≡ Some r

may_moves : (h k : History) (s : ℕ) → ((h.walk s).stopped ≡ true → (k.walk s).stopped ≡ true) → (a : Says) (c : PathStage) → MayReply h s a c → MayReply k s a c
may_moves h k s m AResult Accepted g = absurd g
may_moves h k s m AResult Posted g = absurd g
may_moves h k s m AResult AtController g = absurd g
may_moves h k s m AResult Sent g = absurd g
may_moves h k s m AResult AtDisk g = absurd g
may_moves h k s m AResult HasRun g = absurd g
may_moves h k s m AResult (SaysResult x) g = absurd g
may_moves h k s m AResult (HasResult x) g = tt
may_moves h k s m AResult SaysGone g = absurd g
may_moves h k s m AResult HasGone g = absurd g
may_moves h k s m AResult SaysTerminated g = absurd g
may_moves h k s m AResult HasTerminated g = absurd g
may_moves h k s m AResult (Replied y z) g = absurd g
may_moves h k s m AResult (Heard z) g = absurd g
may_moves h k s m NotThere Accepted g = absurd g
may_moves h k s m NotThere Posted g = absurd g
may_moves h k s m NotThere AtController g = tt
may_moves h k s m NotThere Sent g = absurd g
may_moves h k s m NotThere AtDisk g = absurd g
may_moves h k s m NotThere HasRun g = absurd g
may_moves h k s m NotThere (SaysResult x) g = absurd g
may_moves h k s m NotThere (HasResult x) g = absurd g
may_moves h k s m NotThere SaysGone g = absurd g
may_moves h k s m NotThere HasGone g = tt
may_moves h k s m NotThere SaysTerminated g = absurd g
may_moves h k s m NotThere HasTerminated g = absurd g
may_moves h k s m NotThere (Replied y z) g = absurd g
may_moves h k s m NotThere (Heard z) g = absurd g
may_moves h k s m Stopped Accepted g = absurd g
may_moves h k s m Stopped Posted g = absurd g
may_moves h k s m Stopped AtController g = m g
may_moves h k s m Stopped Sent g = absurd g
may_moves h k s m Stopped AtDisk g = absurd g
may_moves h k s m Stopped HasRun g = absurd g
may_moves h k s m Stopped (SaysResult x) g = absurd g
may_moves h k s m Stopped (HasResult x) g = absurd g
may_moves h k s m Stopped SaysGone g = absurd g
may_moves h k s m Stopped HasGone g = absurd g
may_moves h k s m Stopped SaysTerminated g = absurd g
may_moves h k s m Stopped HasTerminated g = tt
may_moves h k s m Stopped (Replied y z) g = absurd g
may_moves h k s m Stopped (Heard z) g = absurd g

its_moves : (h k : History) (s n : ℕ) → ((r : ScsiResult) → h.machine.outcome n ≡ Some r → k.machine.outcome n ≡ Some r) → (c : PathStage) → HasItsResult h s c (Open (request.Command n)) → HasItsResult k s c (Open (request.Command n))
its_moves h k s n g (HasResult r) a = g r a
its_moves h k s n g Accepted a = tt
its_moves h k s n g Posted a = tt
its_moves h k s n g AtController a = tt
its_moves h k s n g Sent a = tt
its_moves h k s n g AtDisk a = tt
its_moves h k s n g HasRun a = tt
its_moves h k s n g (SaysResult x) a = tt
its_moves h k s n g SaysGone a = tt
its_moves h k s n g HasGone a = tt
its_moves h k s n g SaysTerminated a = tt
its_moves h k s n g HasTerminated a = tt
its_moves h k s n g (Replied y z) a = tt
its_moves h k s n g (Heard z) a = tt

-- items that name none but identifiers that are apart
module _ (Apart : ℕ → Type 0) where
  abbrev pub DownApart : Down → Type 0
  DownApart (down.Post d f p) = Apart (smid_in d)
  DownApart x = Unit {0}

  abbrev pub OutApart : Out → Type 0
  OutApart (out.Task tag a c) = Apart tag
  OutApart x = Unit {0}

  abbrev pub BackApart : Back → Type 0
  BackApart (back.Result tag r) = Apart tag
  BackApart (back.Gone tag) = Apart tag
  BackApart (back.Terminated tag) = Apart tag
  BackApart x = Unit {0}

  abbrev pub SaidApart : Said → Type 0
  SaidApart (said.Success s page sense) = Apart s
  SaidApart (said.Framed s frame page sense) = Apart s
  SaidApart x = Unit {0}

  abbrev pub UpApart : Up → Type 0
  UpApart (up.Reply d frame page sense) = Apart (smid_in d)
  UpApart x = Unit {0}

  -- of a world
  pub record Clear (x : World) : Type 0 where
    pub out : All DownApart x.host.out
    pub down : All DownApart x.down
    pub normal : All (λ (p : Post). Apart (smid_in p.descriptor)) x.ioc.normal
    pub sending : All OutApart x.ioc.out
    pub sent : All OutApart x.out
    pub tasks : All (λ (t : Task). Apart t.tag) x.fabric.tasks
    pub made : All BackApart x.fabric.out
    pub back : All BackApart x.back
    pub said : (queue : ℕ) → All SaidApart (outbox_of x.ioc queue)
    pub up : (queue : ℕ) → All UpApart (up_on x queue)

all_moves : {X : Type 0} (R P Q : X → Type 0) → ((x : X) → R x → P x → Q x) → (xs : List X) → All R xs → All P xs → All Q xs
all_moves R P Q f [] a b = All-nil Q
all_moves R P Q f (x ∷ xs) a b = All-cons Q x xs (f x (All-head R x xs a) (All-head P x xs b)) (all_moves R P Q f xs (All-tail R x xs a) (All-tail P x xs b))

module _ (w : World) (h : History) (v : World) (k : History) (Apart : ℕ → Type 0) (m : Kept w h v k Apart) where
  pub at_moves : (c : PathStage) (s : ℕ) → Apart s → At w h c s → At v k c s
  at_moves c s p a e = let x = asked_is (slot v.host s) e in m.stage s p ∙ a (is_asked (slot w.host s) x.0 (m.was s x.0 p x.1))

  pub down_moves : (c : PathStage) (x : Down) → DownApart Apart x → DownAt w h c x → DownAt v k c x
  down_moves c (down.Post d f p) z a = at_moves c (smid_in d) z a
  down_moves c (down.Write reg value) z a = tt
  down_moves c (down.Read reg) z a = tt
  down_moves c (down.Return address index) z a = tt
  down_moves c down.Stop z a = tt

  pub post_moves : (c : PathStage) (p : Post) → Apart (smid_in p.descriptor) → PostAt w h c p → PostAt v k c p
  post_moves c p z a = at_moves c (smid_in p.descriptor) z a

  pub out_moves : (c : PathStage) (x : Out) → OutApart Apart x → OutAt w h c x → OutAt v k c x
  out_moves c (out.Task tag a d) z i = at_moves c tag z i
  out_moves c (out.Abort q task) z i = tt
  out_moves c (out.TargetReset q a) z i = tt
  out_moves c out.Discover z i = tt
  out_moves c (out.Link generation) z i = tt
  out_moves c out.Stop z i = tt

  pub task_moves : (t : Task) → Apart t.tag → TaskAt w h t → TaskAt v k t
  task_moves t z i = at_moves AtDisk t.tag z i

  pub made_moves : (x : Back) → BackApart Apart x → MadeAt w h x → MadeAt v k x
  made_moves (back.Result tag r) z i = at_moves HasRun tag z i
  made_moves (back.Gone tag) z i = at_moves AtDisk tag z i
  made_moves (back.Terminated tag) z i = at_moves AtDisk tag z i
  made_moves (back.Aborted q found) z i = tt
  made_moves (back.Cleared q count) z i = tt
  made_moves (back.Plugged a p x y) z i = tt
  made_moves (back.Unplugged a p x y) z i = tt
  made_moves back.Discovered z i = tt
  made_moves (back.Linked generation) z i = tt
  made_moves back.Calm z i = tt

  pub back_moves : (x : Back) → BackApart Apart x → BackStage h x → BackStage k x
  back_moves (back.Result tag r) z i = m.stage tag z ∙ i
  back_moves (back.Gone tag) z i = m.stage tag z ∙ i
  back_moves (back.Terminated tag) z i = m.stage tag z ∙ i
  back_moves (back.Aborted q found) z i = tt
  back_moves (back.Cleared q count) z i = tt
  back_moves (back.Plugged a p x y) z i = tt
  back_moves (back.Unplugged a p x y) z i = tt
  back_moves back.Discovered z i = tt
  back_moves (back.Linked generation) z i = tt
  back_moves back.Calm z i = tt

  pub replies_move : (s : ℕ) (frame : Option (List ℕ)) → Apart s → RepliesAt w h s frame → RepliesAt v k s frame
  replies_move s frame z a e =
      let x = asked_is (slot v.host s) e in
      let o = m.was s x.0 z x.1 in
      let g = a (is_asked (slot w.host s) x.0 o) in
      let c = m.stage s z in (
        subst (MayReply k s (said_in frame)) (sym c) (may_moves h k s (m.mark s z) (said_in frame) (stage_of h s) g.0),
        subst (λ y. HasItsResult k s (stage_of k s) y) (sym x.1) (subst (λ d. HasItsResult k s d (Open (request.Command x.0))) (sym c) (its_moves h k s x.0 (λ r q. m.outcome s x.0 r z x.1 q) (stage_of h s) (subst (HasItsResult h s (stage_of h s)) o g.1))),
      )

  pub said_moves : (x : Said) → SaidApart Apart x → SaidStage w h x → SaidStage v k x
  said_moves (said.Success s page sense) z a = replies_move s None z a
  said_moves (said.Framed s frame page sense) z a = replies_move s (Some frame) z a
  said_moves (said.Value value) z a = tt
  said_moves (said.Mark generation) z a = tt
  said_moves said.Calm z a = tt

  pub up_moves : (x : Up) → UpApart Apart x → UpStage w h x → UpStage v k x
  up_moves (up.Reply d frame page sense) z a = at_moves (Replied (said_in frame) (ended frame page sense)) (smid_in d) z a
  up_moves (up.Value value) z a = tt
  up_moves (up.Mark generation) z a = tt
  up_moves up.Calm z a = tt

  -- all items of a world
  pub moved : (x : World) → Clear Apart x → Staged w h x → Staged v k x
  moved x c z =
      record {
        out = all_moves (DownApart Apart) (DownAt w h Accepted) (DownAt v k Accepted) (down_moves Accepted) x.host.out c.out z.out;
        down = all_moves (DownApart Apart) (DownAt w h Posted) (DownAt v k Posted) (down_moves Posted) x.down c.down z.down;
        normal = all_moves (λ (p : Post). Apart (smid_in p.descriptor)) (PostAt w h AtController) (PostAt v k AtController) (post_moves AtController) x.ioc.normal c.normal z.normal;
        sending = all_moves (OutApart Apart) (OutAt w h AtController) (OutAt v k AtController) (out_moves AtController) x.ioc.out c.sending z.sending;
        sent = all_moves (OutApart Apart) (OutAt w h Sent) (OutAt v k Sent) (out_moves Sent) x.out c.sent z.sent;
        tasks = all_moves (λ (t : Task). Apart t.tag) (TaskAt w h) (TaskAt v k) task_moves x.fabric.tasks c.tasks z.tasks;
        made = all_moves (BackApart Apart) (MadeAt w h) (MadeAt v k) made_moves x.fabric.out c.made z.made;
        back = all_moves (BackApart Apart) (BackStage h) (BackStage k) back_moves x.back c.back z.back;
        said = λ queue. all_moves (SaidApart Apart) (SaidStage w h) (SaidStage v k) said_moves (outbox_of x.ioc queue) (c.said queue) (z.said queue);
        up = λ queue. all_moves (UpApart Apart) (UpStage w h) (UpStage v k) up_moves (up_on x queue) (c.up queue) (z.up queue);
      }
