-- What the turn of a handshake's machine makes of the talk.
use Rattle.std.proofs.Common.{◌≡◌, ℕ, ◌*◌, ◌/◌, ◌%◌, ◌^◌, ◌<◌, ◌≤◌, ◌==◌, ◌⊎◌, inl, inr, Bool, true, false, if◌then◌else◌, List, [], ◌∷◌, ◌++◌, append-nil, append_assoc, drop, length, Some, refl, ap, sym, ◌∙◌, subst, arith}
use Rattle.std.proofs.lemmas.Bool.{le-leb, ne_eqb}
use Rattle.byteorder.specs.Endian.{little_bytes, little_number}
use Rattle.mpi_doorbell.specs.Bytes.{has, padded}
use Rattle.mpi_doorbell.specs.DoorRegisters.{DoorRegisters, register_value}
use Rattle.mpi_doorbell.specs.Handshake.{Handshake, Idle, Collects, Asked, Replies}
use Rattle.mpi_doorbell.specs.HostDoor.{HostDoor, Stepped, reads, refuses, register_of, writes}
use Rattle.mpi_doorbell.specs.HostHandshake.{hears_end, is_bad_length, is_whole, opening_dword, takes_word, with_word}
use Rattle.mpi_doorbell.specs.declared.registers.TheConstants.{DOORBELL, DOORBELL_USED, HOST_INTERRUPT_STATUS, IOC2SYS_DB_STATUS, SYS2IOC_DB_STATUS}
use Rattle.mpi_doorbell.specs.declared.stage.Reading.{Reading}
use Rattle.mpi_doorbell.specs.declared.stage.Reading.TheVariants as reading
use Rattle.mpi_doorbell.specs.declared.stage.Stage.{Stage as DoorStage}
use Rattle.mpi_doorbell.specs.declared.stage.Stage.TheVariants as door_stage
use Rattle.mpi_doorbell.specs.declared.state.IocState.TheVariants as ioc_state
use Rattle.mpi_doorbell.specs.declared.step.DoorStep.{DoorStep}
use Rattle.mpi_doorbell.specs.declared.step.DoorStep.TheVariants as step
use Rattle.mpi_doorbell.proofs.HostRuns.{FirstDword, first_dword}
use Rattle.mpt_messages.specs.declared.host_ask.HostAsk.{HostAsk}
use Rattle.mpt_wire.specs.Messages.DoorbellWords.{IsDoorAsk, IsDoorReply, IsTalk, Quiet, Talk, Talks, asked_bytes, doorbell_written, has_been_sent, is_over, opened, replied_bytes, value_heard, word_heard}
use Rattle.mpt_trace.specs.declared.item.Down.{Down}
use Rattle.mpt_trace.specs.declared.item.Down.TheVariants as down
use Rattle.mpt_rules.specs.Host.Doorbell.{DoorTurn, turn_from}
use Rattle.mpt_rules.specs.Ioc.Parts.{Ioc, ioc_queue_count}
use Rattle.law_facts.specs.DoorAhead.{awaits, written_ahead}
use Rattle.law_facts.specs.Ties.{IsSaid, SaidAt, talk_with}
use Rattle.law_starts.proofs.QueuesTurns.{AsksFor, ForFacts, ForInit, ForPortFacts}
use Rattle.law_starts.proofs.Resetting.{TurnAt}
use Rattle.law_locks.specs.Locks.{Collected, HeardOut, IsHearing, IsSending, ShakesAt, reply_due}
use Rattle.law_locks.proofs.Asks.{AskFits, ask_is}
use Rattle.law_locks.proofs.Rounds.{Goes, GoesOn, TurnGoes, all_sent_turn, bell_is, bytes_left, end_turn, interrupt_read, news_turn, none_left_turn, opened_turn, sent_turn, taken_read, turn_goes, unused, used_turn, word_turn}
use Rattle.law_talks.specs.Talking.{TalkGoesOn}
use Rattle.law_talks.proofs.Talking.{heard-over, talk-nil, talk-write}

-- ---- what was said, from where the two ends stand

same_talk : (k m : ℕ) (s t g h : List ℕ) → Talks k s g ≡ Talks m t h → (k ≡ m) × ((s ≡ t) × (g ≡ h))
same_talk k m s t g h e = (cc, (cc, cc))

never_quiet : (k : ℕ) (s g : List ℕ) → Talks k s g ≡ Quiet → ⊥
never_quiet k s g e = cc

pub said_so : (a : HostAsk) (d : HostDoor) (k : ℕ) (s g : List ℕ) → 4 * k ≡ length (asked_bytes a) → s ++ d.unsent ≡ asked_bytes a → g ≡ d.reply → IsSaid a d (Talks k s g)
said_so a d k s g size sent heard =
    record {
      size = λ m t h e. let q = same_talk k m s t g h e in ap (λ n. 4 * n) (sym q.0) ∙ size;
      sent = λ m t h e. let q = same_talk k m s t g h e in ap (λ xs. xs ++ d.unsent) (sym q.1.0) ∙ sent;
      heard = λ m t h e. let q = same_talk k m s t g h e in sym q.1.1 ∙ heard;
      open_talk = λ e. never_quiet k s g e;
    }

-- what is left of the reply
pub record IsLeft (q : ℕ) (a : HostAsk) (d : HostDoor) : Type 0 where
  pub left : List ℕ
  pub whole : d.reply ++ left ≡ replied_bytes (reply_due q a)

left_hearing : (q : ℕ) (a : HostAsk) (d : HostDoor) (h : Handshake) → HeardOut (replied_bytes (reply_due q a)) d.reply h → IsLeft q a d
left_hearing q a d Idle e = record { left = []; whole = append-nil d.reply ∙ e }
left_hearing q a d (Replies left) e = record { left = left; whole = e.0 }
left_hearing q a d (Collects m g) e = absurd e
left_hearing q a d (Asked m) e = absurd e

pub left_of : (q : ℕ) (a : HostAsk) (d : HostDoor) (r : DoorRegisters) (x : Reading) → ShakesAt q a d r x → IsLeft q a d
left_of q a d r reading.Used p = record { left = replied_bytes (reply_due q a); whole = ap (λ xs. xs ++ replied_bytes (reply_due q a)) p.reply }
left_of q a d r reading.LeftOver p = record { left = replied_bytes (reply_due q a); whole = ap (λ xs. xs ++ replied_bytes (reply_due q a)) p.reply }
left_of q a d r reading.Opened p = record { left = replied_bytes (reply_due q a); whole = ap (λ xs. xs ++ replied_bytes (reply_due q a)) p.0.reply }
left_of q a d r reading.Taken (inl p) = record { left = replied_bytes (reply_due q a); whole = ap (λ xs. xs ++ replied_bytes (reply_due q a)) p.reply }
left_of q a d r reading.Taken (inr p) = left_hearing q a d r.handshake p.heard
left_of q a d r reading.News p = left_hearing q a d r.handshake p.heard
left_of q a d r reading.Word p = left_hearing q a d r.handshake p.heard
left_of q a d r reading.Unlocked p = absurd p
left_of q a d r reading.ResetOver p = absurd p
left_of q a d r (reading.State k) p = absurd p
left_of q a d r reading.UnitReset p = absurd p
left_of q a d r reading.Doorbell p = absurd p

door_ask : (q : ℕ) (a : HostAsk) → AsksFor q a → IsDoorAsk q a × IsDoorReply q a (reply_due q a)
door_ask q _ ForFacts = (tt, refl)
door_ask q _ ForPortFacts = (tt, refl)
door_ask q _ ForInit = (refl, refl)

pub talk_of : (q : ℕ) (a : HostAsk) (d : HostDoor) (t : Talk) → AsksFor q a → IsSaid a d t → IsLeft q a d → IsTalk q t
talk_of q a d Quiet g s l = tt
talk_of q a d (Talks k sent heard) g s l =
    let p = door_ask q a g in
    record {
      ask = a;
      reply = reply_due q a;
      asked = p.0;
      replied = p.1;
      size = s.size k sent heard refl;
      unsent = d.unsent;
      message = s.sent k sent heard refl;
      unheard = l.left;
      words = ap (λ xs. xs ++ l.left) (s.heard k sent heard refl) ∙ l.whole;
    }

-- ---- a turn

-- what is said behind a turn: by the machine that reads on, or all of it
abbrev pub Says : HostAsk → Talk → DoorTurn → DoorStep → Type 0
Says a t u (step.Read reg) = SaidAt a u.door (talk_with t u.writes) (awaits u.door.stage)
Says a t u (step.Done count bytes) = is_over (talk_with t u.writes) ≡ true
Says a t u (step.Write reg value) = ⊥
Says a t u (step.Refused at value) = ⊥

pub record TurnSays (q : ℕ) (a : HostAsk) (t : Talk) (u : DoorTurn) : Type 0 where
  pub talk : IsTalk q t
  pub goes : (n : ℕ) → TalkGoesOn q n t u.writes
  pub says : Says a t u u.step

module _ (q : ℕ) (few : q ≤ 8) (some : 1 ≤ q) (a : HostAsk) (g : AsksFor q a) (i : Ioc) (n : ioc_queue_count i ≡ q) (d : HostDoor) (v : ℕ) (t : Talk) (began : IsTalk q t) where
  abbrev Turned : Reading → Type 0
  Turned x = TurnSays q a (value_heard t (Some (register_of x)) v) (TurnAt d v (door_stage.Awaits x))

  -- the two ends behind the turn
  abbrev Meets : Reading → Type 0
  Meets x = TurnGoes q a i (TurnAt d v (door_stage.Awaits x))

  no_write : (c : Talk) → talk_with c [] ≡ c
  no_write c = talk-nil c

  one_status : (c : Talk) → talk_with c (down.Write HOST_INTERRUPT_STATUS 0 ∷ []) ≡ c
  one_status c = talk-write c HOST_INTERRUPT_STATUS 0 [] ∙ talk-nil c

  one_word : (c : Talk) (value : ℕ) → talk_with c (down.Write DOORBELL value ∷ []) ≡ doorbell_written c value
  one_word c value = talk-write c DOORBELL value [] ∙ talk-nil (doorbell_written c value)

  -- the turn is this one
  module _ (x : Reading) (ws : List Down) (e : HostDoor) (s : DoorStep) (is : TurnAt d v (door_stage.Awaits x) ≡ record { writes = ws; door = e; step = s }) where
    quietly : ws ≡ [] → IsTalk q (value_heard t (Some (register_of x)) v) → Says a (value_heard t (Some (register_of x)) v) (record { writes = []; door = e; step = s }) s → Turned x
    quietly w k p = subst (TurnSays q a (value_heard t (Some (register_of x)) v)) (sym (is ∙ ap (λ xs. let u : DoorTurn = record { writes = xs; door = e; step = s } in u) w)) (record { talk = k; goes = λ m. tt; says = p })

    status : ws ≡ down.Write HOST_INTERRUPT_STATUS 0 ∷ [] → IsTalk q (value_heard t (Some (register_of x)) v) → Says a (value_heard t (Some (register_of x)) v) (record { writes = down.Write HOST_INTERRUPT_STATUS 0 ∷ []; door = e; step = s }) s → Turned x
    status w k p = subst (TurnSays q a (value_heard t (Some (register_of x)) v)) (sym (is ∙ ap (λ xs. let u : DoorTurn = record { writes = xs; door = e; step = s } in u) w)) (record { talk = k; goes = λ m. (tt, (k, tt)); says = p })

    word : (value : ℕ) → ws ≡ down.Write DOORBELL value ∷ [] → IsTalk q (value_heard t (Some (register_of x)) v) → IsTalk q (doorbell_written (value_heard t (Some (register_of x)) v) value)
        → Says a (value_heard t (Some (register_of x)) v) (record { writes = down.Write DOORBELL value ∷ []; door = e; step = s }) s → Turned x
    word value w k l p = subst (TurnSays q a (value_heard t (Some (register_of x)) v)) (sym (is ∙ ap (λ xs. let u : DoorTurn = record { writes = xs; door = e; step = s } in u) w)) (record { talk = k; goes = λ m. (tt, (l, tt)); says = p })

  -- the machine that reads on
  left_on : (x : Reading) (ws : List Down) (e : HostDoor) (reg : ℕ) → TurnAt d v (door_stage.Awaits x) ≡ record { writes = ws; door = e; step = step.Read reg } → Meets x → IsLeft q a e
  left_on x ws e reg is m =
      let p : GoesOn q a e (written_ahead i ws).door reg = subst (TurnGoes q a i) is m in
      left_of q a e (written_ahead i ws).door p.x p.shakes

  used : has v DOORBELL_USED ≡ false → is_over t ≡ true → Turned reading.Used
  used f o =
      let h : value_heard t (Some DOORBELL) v ≡ t = heard-over t (Some DOORBELL) v o in
      quietly reading.Used [] (record d { stage = door_stage.Awaits reading.LeftOver }) (step.Read HOST_INTERRUPT_STATUS) (used_turn d v f) refl (subst (IsTalk q) (sym h) began)
      (ap is_over (no_write (value_heard t (Some DOORBELL) v) ∙ h) ∙ o)

  -- ---- the handshake is opened

  opens : (k : ℕ) → length d.unsent / 4 ≡ k → k < 256 → (value : ℕ) → value ≡ opening_dword d.unsent → opened value ≡ Talks k [] []
  opens k e l value f =
      ap (λ m. let u : Talk = if m == 0x42 then Talks (value / 2 ^ 16 % 256) [] [] else Quiet in u) fn ∙ ap (λ m. Talks m [] []) size
    where
      fn : value / 2 ^ 24 ≡ 0x42
      fn = omega (arith, f, e, l)

      size : value / 2 ^ 16 % 256 ≡ k
      size = omega (arith, f, e, l)

  over_opens : (value : ℕ) → is_over t ≡ true → doorbell_written t value ≡ opened value
  over_opens value o = by_talk t o
    where
      by_talk : (t : Talk) → is_over t ≡ true → doorbell_written t value ≡ opened value
      by_talk Quiet o = refl
      by_talk (Talks k s h) o = ap (λ c. let u : Talk = if c then opened value else Talks k (s ++ little_bytes 4 value) h in u) o

  fits : AskFits (asked_bytes a)
  fits = ask_is q few a g

  left_over : has v IOC2SYS_DB_STATUS ≡ false → d.unsent ≡ asked_bytes a → d.reply ≡ [] → is_over t ≡ true → Meets reading.LeftOver → Turned reading.LeftOver
  left_over f u r o m =
      word reading.LeftOver (down.Write DOORBELL (opening_dword d.unsent) ∷ []) e (step.Read HOST_INTERRUPT_STATUS) is (opening_dword d.unsent) refl began (subst (IsTalk q) (sym now) (talk_of q a e (Talks (length d.unsent / 4) [] []) g so (left_on reading.LeftOver (down.Write DOORBELL (opening_dword d.unsent) ∷ []) e HOST_INTERRUPT_STATUS is m)))
      (subst (IsSaid a e) (sym (one_word t (opening_dword d.unsent) ∙ now)) so)
    where
      e : HostDoor
      e = record d { stage = door_stage.Awaits reading.Opened }

      is : TurnAt d v (door_stage.Awaits reading.LeftOver) ≡ record { writes = down.Write DOORBELL (opening_dword d.unsent) ∷ []; door = record d { stage = door_stage.Awaits reading.Opened }; step = step.Read HOST_INTERRUPT_STATUS }
      is = none_left_turn d v f

      size : length d.unsent ≡ length (asked_bytes a)
      size = ap length u

      now : doorbell_written t (opening_dword d.unsent) ≡ Talks (length d.unsent / 4) [] []
      now = over_opens (opening_dword d.unsent) o ∙ opens (length d.unsent / 4) refl (let l = fits.most in let s = size in omega (arith, l, s)) (opening_dword d.unsent) refl

      so : IsSaid a (record d { stage = door_stage.Awaits reading.Opened }) (Talks (length d.unsent / 4) [] [])
      so = said_so a (record d { stage = door_stage.Awaits reading.Opened }) (length d.unsent / 4) [] [] (let l = fits.whole in let s = size in omega (arith, l, s)) u (sym r)

  -- the same was said with another stage
  restaged : (z : DoorStage) (c : Talk) → IsSaid a d c → IsSaid a (record d { stage = z }) c
  restaged z c s = record { size = s.size; sent = s.sent; heard = s.heard; open_talk = s.open_talk }

  opened_on : has v IOC2SYS_DB_STATUS ≡ true → IsSaid a d t → Turned reading.Opened
  opened_on f s =
      status reading.Opened (down.Write HOST_INTERRUPT_STATUS 0 ∷ []) (record d { stage = door_stage.Awaits reading.Taken }) (step.Read HOST_INTERRUPT_STATUS) (opened_turn d v f) refl began
      (subst (IsSaid a (record d { stage = door_stage.Awaits reading.Taken })) (sym (one_status t)) (restaged (door_stage.Awaits reading.Taken) t s))

  -- ---- the next dword

  sends : has v SYS2IOC_DB_STATUS ≡ false → (length d.unsent == 0) ≡ false → FirstDword d.unsent → d.reply ≡ [] → IsSaid a d t → Meets reading.Taken → Turned reading.Taken
  sends f z first r s m =
      word reading.Taken (down.Write DOORBELL (little_number 4 d.unsent) ∷ []) e (step.Read HOST_INTERRUPT_STATUS) is (little_number 4 d.unsent) refl began (talk_of q a e (doorbell_written t (little_number 4 d.unsent)) g (so t s) (left_on reading.Taken (down.Write DOORBELL (little_number 4 d.unsent) ∷ []) e HOST_INTERRUPT_STATUS is m))
      (subst (IsSaid a e) (sym (one_word t (little_number 4 d.unsent))) (so t s))
    where
      e : HostDoor
      e = record d { stage = door_stage.Awaits reading.Taken; unsent = drop 4 d.unsent }

      is : TurnAt d v (door_stage.Awaits reading.Taken) ≡ record { writes = down.Write DOORBELL (little_number 4 d.unsent) ∷ []; door = record d { stage = door_stage.Awaits reading.Taken; unsent = drop 4 d.unsent }; step = step.Read HOST_INTERRUPT_STATUS }
      is = sent_turn d v f z

      so : (t : Talk) → IsSaid a d t → IsSaid a (record d { stage = door_stage.Awaits reading.Taken; unsent = drop 4 d.unsent }) (doorbell_written t (little_number 4 d.unsent))
      so Quiet s = absurd (s.open_talk refl)
      so (Talks k sent heard) s =
          let part : is_whole heard ≡ false = ap is_whole (s.heard k sent heard refl ∙ r) in
          subst (IsSaid a (record d { stage = door_stage.Awaits reading.Taken; unsent = drop 4 d.unsent }))
          (sym (ap (λ c. let u : Talk = if c then opened (little_number 4 d.unsent) else Talks k (sent ++ little_bytes 4 (little_number 4 d.unsent)) heard in u) part))
          (said_so a (record d { stage = door_stage.Awaits reading.Taken; unsent = drop 4 d.unsent }) k (sent ++ little_bytes 4 (little_number 4 d.unsent)) heard (s.size k sent heard refl)
          (append_assoc sent (little_bytes 4 (little_number 4 d.unsent)) (drop 4 d.unsent) ∙ (ap (λ xs. sent ++ xs) first.split ∙ s.sent k sent heard refl)) (s.heard k sent heard refl))

  sent_all : has v SYS2IOC_DB_STATUS ≡ false → (length d.unsent == 0) ≡ true → IsSaid a d t → Turned reading.Taken
  sent_all f z s =
      quietly reading.Taken [] (record d { stage = door_stage.Awaits reading.News }) (step.Read HOST_INTERRUPT_STATUS) (all_sent_turn d v f z) refl began
      (subst (IsSaid a (record d { stage = door_stage.Awaits reading.News })) (sym (no_write t)) (restaged (door_stage.Awaits reading.News) t s))

  -- ---- the reply

  news : has v IOC2SYS_DB_STATUS ≡ true → IsSaid a d t → Turned reading.News
  news f s =
      quietly reading.News [] (record d { stage = door_stage.Awaits reading.Word }) (step.Read DOORBELL) (news_turn d v f) refl began
      (subst (IsSaid a (record d { stage = door_stage.Awaits reading.Word })) (sym (no_write t)) (restaged (door_stage.Awaits reading.Word) t s))

  -- the handshake isn't over yet, though its reply is whole
  again_turn : is_whole d.reply ≡ true → has v DOORBELL_USED ≡ true → TurnAt d v (door_stage.Awaits reading.Word) ≡ record { writes = []; door = record d { stage = door_stage.Awaits reading.Word }; step = step.Read DOORBELL }
  unfolding turn_from
  again_turn e f =
      ap (λ (b : Bool). let s : Stepped = if b then hears_end d v else takes_word d v in turn_from 8 s.door s.step) e
      ∙ ap (λ (b : Bool). let s : Stepped = if b then reads d reading.Word else writes d door_stage.Finishes HOST_INTERRUPT_STATUS 0 in turn_from 8 s.door s.step) f

  bad_turn : is_whole d.reply ≡ false → is_bad_length d.reply v ≡ true → (TurnAt d v (door_stage.Awaits reading.Word)).step ≡ step.Refused 6 v
  unfolding turn_from
  bad_turn e f =
      ap (λ (b : Bool). let s : Stepped = if b then hears_end d v else takes_word d v in (turn_from 8 s.door s.step).step) e
      ∙ ap (λ (b : Bool). let s : Stepped = if b then refuses d 6 v else writes (with_word d v) (door_stage.Reads reading.News) HOST_INTERRUPT_STATUS 0 in (turn_from 8 s.door s.step).step) f

  whole_over : is_whole d.reply ≡ true → (t : Talk) → IsSaid a d t → is_over t ≡ true
  whole_over e Quiet s = refl
  whole_over e (Talks k sent heard) s = ap is_whole (s.heard k sent heard refl) ∙ e

  next_word : is_whole d.reply ≡ false → d.unsent ≡ [] → (t : Talk) → IsSaid a d t → IsSaid a (record (with_word d v) { stage = door_stage.Awaits reading.News }) (word_heard t v)
  next_word e u Quiet s = absurd (s.open_talk refl)
  next_word e u (Talks k sent heard) s =
      let part : is_whole heard ≡ false = ap is_whole (s.heard k sent heard refl) ∙ e in
      let all : sent ≡ asked_bytes a = sym (append-nil sent) ∙ (ap (λ xs. sent ++ xs) (sym u) ∙ s.sent k sent heard refl) in
      let size = s.size k sent heard refl in let l = ap length all in
      let been : has_been_sent k sent ≡ true = le-leb (4 * k) (length sent) (omega (arith, size, l)) in
      subst (IsSaid a (record (with_word d v) { stage = door_stage.Awaits reading.News }))
      (sym
      (ap (λ c. let y : Talk = if c then Talks k sent heard else (if has_been_sent k sent then Talks k sent (heard ++ little_bytes 2 v) else Talks k sent heard) in y) part
      ∙ ap (λ c. let y : Talk = if c then Talks k sent (heard ++ little_bytes 2 v) else Talks k sent heard in y) been))
      (said_so a (record (with_word d v) { stage = door_stage.Awaits reading.News }) k sent (heard ++ little_bytes 2 v) size (s.sent k sent heard refl) (ap (λ xs. xs ++ little_bytes 2 v) (s.heard k sent heard refl)))

  heard_word : d.unsent ≡ [] → IsSaid a d t → Meets reading.Word → Turned reading.Word
  heard_word u s m = by_whole (is_whole d.reply) refl
    where
      by_used : is_whole d.reply ≡ true → (c : Bool) → has v DOORBELL_USED ≡ c → Turned reading.Word
      by_used e true f =
          let o = whole_over e t s in let h = heard-over t (Some DOORBELL) v o in
          quietly reading.Word [] (record d { stage = door_stage.Awaits reading.Word }) (step.Read DOORBELL) (again_turn e f) refl (subst (IsTalk q) (sym h) began)
          (subst (IsSaid a (record d { stage = door_stage.Awaits reading.Word })) (sym (no_write (value_heard t (Some DOORBELL) v) ∙ h)) (restaged (door_stage.Awaits reading.Word) t s))
      by_used e false f =
          let o = whole_over e t s in let h = heard-over t (Some DOORBELL) v o in
          status reading.Word (down.Write HOST_INTERRUPT_STATUS 0 ∷ []) (record d { stage = door_stage.Ended }) (step.Done (length d.reply) (padded d.reply)) (end_turn d v e f) refl (subst (IsTalk q) (sym h) began)
          (ap is_over (one_status (value_heard t (Some DOORBELL) v) ∙ h) ∙ o)

      by_bad : is_whole d.reply ≡ false → (c : Bool) → is_bad_length d.reply v ≡ c → Turned reading.Word
      by_bad e true f = absurd (subst (Goes q a (TurnAt d v (door_stage.Awaits reading.Word)).door (written_ahead i (TurnAt d v (door_stage.Awaits reading.Word)).writes).door) (bad_turn e f) m)
      by_bad e false f =
          let so = next_word e u t s in
          let l = left_on reading.Word (down.Write HOST_INTERRUPT_STATUS 0 ∷ []) (record (with_word d v) { stage = door_stage.Awaits reading.News }) HOST_INTERRUPT_STATUS (word_turn d v e f) m in
          status reading.Word (down.Write HOST_INTERRUPT_STATUS 0 ∷ []) (record (with_word d v) { stage = door_stage.Awaits reading.News }) (step.Read HOST_INTERRUPT_STATUS) (word_turn d v e f) refl (talk_of q a (record (with_word d v) { stage = door_stage.Awaits reading.News }) (word_heard t v) g so l)
          (subst (IsSaid a (record (with_word d v) { stage = door_stage.Awaits reading.News })) (sym (one_status (word_heard t v))) so)

      by_whole : (c : Bool) → is_whole d.reply ≡ c → Turned reading.Word
      by_whole true e = by_used e (has v DOORBELL_USED) refl
      by_whole false e = by_bad e (is_bad_length d.reply v) refl

  -- ---- wherever it stands

  taken : v ≡ register_value i.door HOST_INTERRUPT_STATUS → IsSending a d i.door ⊎ IsHearing q a d i.door → IsSaid a d t → Meets reading.Taken → Turned reading.Taken
  taken e p s m = by_half p
    where
      f : has v SYS2IOC_DB_STATUS ≡ false
      f = ap (λ n. has n SYS2IOC_DB_STATUS) e ∙ taken_read i.door

      by_collected : (h : Handshake) → Collected (asked_bytes a) d.unsent h → d.reply ≡ [] → Turned reading.Taken
      by_collected (Collects k gone) c r =
          let size = c.1.0 in let l = c.1.1 in
          sends f (ne_eqb (length d.unsent) 0 (λ z. omega (arith, size, l, z))) (first_dword d.unsent (record { bytes = bytes_left gone d.unsent (asked_bytes a) c.0 fits.bytes; whole = omega (arith, size) }) (λ z. omega (arith, size, l, z))) r s m
      by_collected Idle c r = absurd c
      by_collected (Asked x) c r = absurd c
      by_collected (Replies x) c r = absurd c

      by_half : IsSending a d i.door ⊎ IsHearing q a d i.door → Turned reading.Taken
      by_half (inl p) = by_collected i.door.handshake p.collected p.reply
      by_half (inr p) = sent_all f (ap (λ xs. length xs == 0) p.unsent) s

  pub turn_says : (x : Reading) → v ≡ register_value i.door (register_of x) → ShakesAt q a d i.door x → SaidAt a d t (Some x) → TurnSays q a (value_heard t (Some (register_of x)) v) (TurnAt d v (door_stage.Awaits x))
  turn_says reading.Used e p s =
      used (ap (λ n. has n DOORBELL_USED) (e ∙ bell_is i.door ioc_state.Ready 0 Idle p.unasked.state p.unasked.who_init p.handshake) ∙ unused ioc_state.Ready 0 refl (omega arith)) s
  turn_says reading.LeftOver e p s = left_over (ap (λ n. has n IOC2SYS_DB_STATUS) e ∙ (interrupt_read i.door ∙ p.status)) p.unsent p.reply s (turn_goes q few some a g i n d v reading.LeftOver e p)
  turn_says reading.Opened e p s = opened_on (ap (λ n. has n IOC2SYS_DB_STATUS) e ∙ (interrupt_read i.door ∙ p.1)) s
  turn_says reading.Taken e p s = taken e p s (turn_goes q few some a g i n d v reading.Taken e p)
  turn_says reading.News e p s = news (ap (λ n. has n IOC2SYS_DB_STATUS) e ∙ (interrupt_read i.door ∙ p.interrupt)) s
  turn_says reading.Word e p s = heard_word p.unsent s (turn_goes q few some a g i n d v reading.Word e p)
  turn_says reading.Unlocked e p s = absurd p
  turn_says reading.ResetOver e p s = absurd p
  turn_says (reading.State k) e p s = absurd p
  turn_says reading.UnitReset e p s = absurd p
  turn_says reading.Doorbell e p s = absurd p
