-- Where the two ends stand as they should, they go on in lock step.
use Rattle.std.proofs.Common.{◌≡◌, ℕ, ◌%◌, ◌<◌, ◌≤◌, ◌⊎◌, inl, inr, true, false, List, [], ◌++◌, length, Option, Some, None, refl, ap, sym, ◌∙◌, subst, arith}
use Rattle.std.proofs.lemmas.List.{append-nil}
use Rattle.mpi_doorbell.specs.DoorRegisters.{DoorRegisters, is_fault, register_value}
use Rattle.mpi_doorbell.specs.Handshake.{Asked, Collects, Handshake, Idle, Replies}
use Rattle.mpi_doorbell.specs.HostDoor.{HostDoor, register_of}
use Rattle.mpi_doorbell.specs.Meeting.{AsksAndEnds, IsDoneWith, LeadsTo, Talk}
use Rattle.mpi_doorbell.specs.declared.registers.TheConstants.{DOORBELL, HOST_INTERRUPT_STATUS}
use Rattle.mpi_doorbell.specs.declared.stage.Reading.{Reading}
use Rattle.mpi_doorbell.specs.declared.stage.Reading.TheVariants as reading
use Rattle.mpi_doorbell.specs.declared.stage.Stage.{Stage as DoorStage}
use Rattle.mpi_doorbell.specs.declared.stage.Stage.TheVariants as door_stage
use Rattle.mpt_messages.specs.declared.host_ask.HostAsk.{HostAsk}
use Rattle.mpt_messages.specs.declared.host_ask.HostAsk.TheVariants as ask
use Rattle.mpt_messages.specs.declared.ioc_reply.IocReply.TheVariants as reply
use Rattle.mpt_wire.specs.Machine.Causes.{is_resetting}
use Rattle.mpt_wire.specs.Messages.DoorbellWords.{asked_bytes, replied_bytes}
use Rattle.mpt_rules.specs.declared.stage.Stage.{Stage}
use Rattle.mpt_rules.specs.declared.stage.Stage.TheVariants as stage
use Rattle.mpt_rules.specs.Host.Parts.{host_queue_count}
use Rattle.mpt_rules.specs.World.State.{World, queues_of}
use Rattle.law_facts.specs.DoorAhead.{AsksAhead, InStep, LockStep, ReadsReply, StageFits, StateBehind, WaitsAt, answer_to, asked_in, awaits, door_ahead, value_at, value_coming}
use Rattle.law_facts.specs.Flights.{Sizes}
use Rattle.law_starts.specs.Starts.{KnowsNoHost}
use Rattle.law_starts.proofs.QueuesTurns.{AsksFor, ForFacts, ForInit, ForPortFacts}
use Rattle.law_locks.specs.Locks.{Collected, HandshakesStand, HasAnswered, HeardOut, IsHearing, IsSending, IsUnasked, ShakesAt, ask_of_stage, reply_due, state_behind, who_init_behind}
use Rattle.law_locks.proofs.Asks.{AskFits, ReplyFits, ask_is, reply_is, small_behind, whole_behind}
use Rattle.law_locks.proofs.Leading.{dwords_lead, left_leads, left_words, news_leads, opened_leads, replies_left, taken_leads, used_leads, word_leads}
use Rattle.law_locks.proofs.LocksHost.{asks_for}

-- the words that are left of a reply
record WordsLeft (said heard : List ℕ) (h : Handshake) : Type 0 where
  left : List ℕ
  handshake : h ≡ left_words left
  whole : heard ++ left ≡ said
  even : length left % 2 ≡ 0

words_left : (said heard : List ℕ) (h : Handshake) → HeardOut said heard h → WordsLeft said heard h
unfolding left_words
words_left said heard Idle e = record { left = []; handshake = refl; whole = append-nil heard ∙ e; even = refl }
words_left said heard (Replies left) e = record { left = left; handshake = replies_left left e.1.1; whole = e.0; even = e.1.0 }
words_left said heard (Collects missing message) e = absurd e
words_left said heard (Asked message) e = absurd e

module _ (w : World) (l : HandshakesStand w) (st : StageFits w) (z : Sizes w) (known : KnowsNoHost w) where
  counted : host_queue_count w.host ≡ queues_of w
  counted = sym z.lanes

  few : queues_of w ≤ 8
  few = subst (λ n. n ≤ 8) counted z.few_queues

  -- what is asked, by the lanes
  asked_so : (s : Stage) → asked_in w s ≡ ask_of_stage (queues_of w) s
  asked_so stage.Facts = refl
  asked_so stage.PortFacts = refl
  asked_so stage.Init = ap (λ n. let o : Option HostAsk = Some (ask.Init n) in o) counted
  asked_so stage.Idle = refl
  asked_so stage.Start = refl
  asked_so stage.StartReset = refl
  asked_so stage.Look = refl
  asked_so stage.DiagnosticReset = refl
  asked_so stage.UnitReset = refl

  answer_so : (a : HostAsk) → AsksFor (queues_of w) a → replied_bytes (reply_due (queues_of w) a) ≡ replied_bytes (answer_to w a)
  answer_so _ ForFacts = ap (λ n. replied_bytes (reply.Facts 0 n)) (sym counted)
  answer_so _ ForPortFacts = refl
  answer_so _ ForInit = refl

  behind_so : (a : HostAsk) → AsksFor (queues_of w) a → (door_ahead w).state ≡ state_behind a → StateBehind w a
  behind_so _ ForFacts e = e
  behind_so _ ForPortFacts e = e
  behind_so _ ForInit e = e

  module _ (d : HostDoor) (a : HostAsk) (g : AsksFor (queues_of w) a) (x : Reading) (at : d.stage ≡ door_stage.Awaits x) where
    asked_fits : AskFits (asked_bytes a)
    asked_fits = ask_is (queues_of w) few a g

    said_fits : ReplyFits (replied_bytes (reply_due (queues_of w) a))
    said_fits = reply_is (queues_of w) few a g

    value_of : value_at (door_ahead w) (awaits d.stage) ≡ register_value (door_ahead w) (register_of x)
    value_of = ap (λ c. value_at (door_ahead w) (awaits c)) at

    abbrev Now : Talk
    Now = record { host = d; value = Some (register_value (door_ahead w) (register_of x)); registers = door_ahead w }

    asks : IsUnasked (door_ahead w) → LeadsTo (AsksAndEnds (asked_bytes a) (replied_bytes (reply_due (queues_of w) a))) Now → InStep w d a
    asks u p =
        record {
          leads = inl (record {
            state = u.state;
            leads = subst (λ y. LeadsTo (AsksAndEnds (asked_bytes a) y) (record { host = d; value = Some (value_at (door_ahead w) (awaits d.stage)); registers = door_ahead w })) (answer_so a g)
                (subst (λ n. LeadsTo (AsksAndEnds (asked_bytes a) (replied_bytes (reply_due (queues_of w) a))) (record { host = d; value = Some n; registers = door_ahead w })) (sym value_of) p);
          });
        }

    reads : HasAnswered a (door_ahead w) → LeadsTo (IsDoneWith (replied_bytes (reply_due (queues_of w) a))) Now → InStep w d a
    reads u p =
        record {
          leads = inr (record {
            state = behind_so a g u.state;
            leads = subst (λ y. LeadsTo (IsDoneWith y) (record { host = d; value = Some (value_at (door_ahead w) (awaits d.stage)); registers = door_ahead w })) (answer_so a g)
                (subst (λ n. LeadsTo (IsDoneWith (replied_bytes (reply_due (queues_of w) a))) (record { host = d; value = Some n; registers = door_ahead w })) (sym value_of) p);
          });
        }

    unasked_whole : IsUnasked (door_ahead w) → is_fault (door_ahead w).state ≡ false
    unasked_whole u = ap is_fault u.state

    unasked_small : IsUnasked (door_ahead w) → (door_ahead w).who_init < 8
    unasked_small u = let e = u.who_init in omega (arith, e)

    whole : HasAnswered a (door_ahead w) → is_fault (door_ahead w).state ≡ false
    whole u = ap is_fault u.state ∙ whole_behind (queues_of w) a g

    small : HasAnswered a (door_ahead w) → (door_ahead w).who_init < 8
    small u = let e = u.who_init in let s = small_behind (queues_of w) a g in omega (arith, e, s)

  -- by what is awaited
  in_step : (d : HostDoor) (a : HostAsk) (g : AsksFor (queues_of w) a) (x : Reading) → d.stage ≡ door_stage.Awaits x → ShakesAt (queues_of w) a d (door_ahead w) x → InStep w d a
  in_step d a g reading.Used at p =
      let x = reading.Used in
      asks d a g x at p.unasked (used_leads (asked_bytes a) (asked_fits d a g x at) (replied_bytes (reply_due (queues_of w) a)) (said_fits d a g x at) d (door_ahead w) at (unasked_whole d a g x at p.unasked) (unasked_small d a g x at p.unasked) p.handshake p.reply p.unsent)
  in_step d a g reading.LeftOver at p =
      let x = reading.LeftOver in
      asks d a g x at p.unasked (left_leads (asked_bytes a) (asked_fits d a g x at) (replied_bytes (reply_due (queues_of w) a)) (said_fits d a g x at) d (door_ahead w) at (unasked_whole d a g x at p.unasked) (unasked_small d a g x at p.unasked) p.handshake p.reply p.unsent)
  in_step d a g reading.Opened at p = by_handshake (door_ahead w).handshake refl p.0.collected
    where
      by_handshake : (h : Handshake) → (door_ahead w).handshake ≡ h → Collected (asked_bytes a) d.unsent h → InStep w d a
      by_handshake (Collects k gone) e c =
          let x = reading.Opened in
          asks d a g x at p.0.unasked
          (opened_leads (asked_bytes a) (asked_fits d a g x at) (replied_bytes (reply_due (queues_of w) a)) (said_fits d a g x at) k gone d (door_ahead w) at (unasked_whole d a g x at p.0.unasked) (unasked_small d a g x at p.0.unasked) e p.1 p.0.reply c.0 c.1.0 c.1.1)
      by_handshake Idle e c = absurd c
      by_handshake (Asked m) e c = absurd c
      by_handshake (Replies left) e c = absurd c
  in_step d a g reading.Taken at (inl p) = by_handshake (door_ahead w).handshake refl p.collected
    where
      by_handshake : (h : Handshake) → (door_ahead w).handshake ≡ h → Collected (asked_bytes a) d.unsent h → InStep w d a
      by_handshake (Collects k gone) e c =
          let x = reading.Taken in
          asks d a g x at p.unasked
          (dwords_lead (asked_bytes a) (asked_fits d a g x at) (replied_bytes (reply_due (queues_of w) a)) (said_fits d a g x at) k gone d (door_ahead w) at (unasked_whole d a g x at p.unasked) (unasked_small d a g x at p.unasked) e p.reply c.0 c.1.0 c.1.1)
      by_handshake Idle e c = absurd c
      by_handshake (Asked m) e c = absurd c
      by_handshake (Replies left) e c = absurd c
  in_step d a g reading.Taken at (inr p) =
      let x = reading.Taken in let l = words_left (replied_bytes (reply_due (queues_of w) a)) d.reply (door_ahead w).handshake p.heard in
      reads d a g x at p.answered (taken_leads (replied_bytes (reply_due (queues_of w) a)) (said_fits d a g x at) l.left d (door_ahead w) (whole d a g x at p.answered) (small d a g x at p.answered) l.handshake l.whole l.even p.interrupt at p.unsent)
  in_step d a g reading.News at p =
      let x = reading.News in let l = words_left (replied_bytes (reply_due (queues_of w) a)) d.reply (door_ahead w).handshake p.heard in
      reads d a g x at p.answered (news_leads (replied_bytes (reply_due (queues_of w) a)) (said_fits d a g x at) l.left d (door_ahead w) (whole d a g x at p.answered) (small d a g x at p.answered) l.handshake l.whole l.even p.interrupt at)
  in_step d a g reading.Word at p =
      let x = reading.Word in let l = words_left (replied_bytes (reply_due (queues_of w) a)) d.reply (door_ahead w).handshake p.heard in
      reads d a g x at p.answered (word_leads (replied_bytes (reply_due (queues_of w) a)) (said_fits d a g x at) l.left d (door_ahead w) at (whole d a g x at p.answered) (small d a g x at p.answered) l.handshake l.whole l.even p.interrupt)
  in_step d a g reading.Unlocked at p = absurd p
  in_step d a g reading.ResetOver at p = absurd p
  in_step d a g (reading.State k) at p = absurd p
  in_step d a g reading.UnitReset at p = absurd p
  in_step d a g reading.Doorbell at p = absurd p

  -- each machine waits for a value
  waits : (d : HostDoor) → w.host.machine ≡ Some d → (x : Reading) × (d.stage ≡ door_stage.Awaits x)
  waits d m = by_stage d.stage refl (st.machine d m)
    where
      by_stage : (s : DoorStage) → d.stage ≡ s → WaitsAt w s → (x : Reading) × (d.stage ≡ door_stage.Awaits x)
      by_stage (door_stage.Awaits x) e q = (x, e)
      by_stage (door_stage.Reads x) e q = absurd q
      by_stage door_stage.Opens e q = absurd q
      by_stage (door_stage.WritesKey place) e q = absurd q
      by_stage door_stage.Locks e q = absurd q
      by_stage door_stage.ResetsUnit e q = absurd q
      by_stage door_stage.Finishes e q = absurd q
      by_stage door_stage.Ended e q = absurd q

  pub lock_steps : LockStep w
  lock_steps =
      record {
        steps = λ d a m e. let x = waits d m in let f = sym (asked_so w.host.stage) ∙ e in in_step d a (asks_for (queues_of w) w.host.stage a f) x.0 x.1 (l.stands d a x.0 m f x.1);
        value = λ d v m n c. let x = waits d m in l.value d x.0 v m n x.1 c ∙ sym (ap (λ q. value_at (door_ahead w) (awaits q)) x.1);
        who_init = λ n live. known live;
      }
