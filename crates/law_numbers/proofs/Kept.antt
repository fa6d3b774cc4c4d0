-- Numbers and target resets are the host's, over every case.
use Rattle.std.proofs.Common.{◌≡◌, ℕ, ◌-◌, ◌≤◌, ◌==◌, ◌&&◌, Bool, true, false, if◌then◌else◌, List, [], ◌∷◌, ◌++◌, length, set, Option, Some, None, is_some, refl, ap, sym, ◌∙◌, subst, arith}
use Rattle.std.specs.FinMap as finmap
use Rattle.std.specs.FinSet as finset
use Rattle.scsi_disk.specs.Command.{fits}
use Rattle.scsi_disk.specs.declared.command.Command.{Command}
use Rattle.smid_pool.specs.Pool.{Slot, Free, Open, Parked, least_free, record_of, slot_of}
use Rattle.smid_pool.specs.declared.class.Class.TheVariants as class
use Rattle.removal.specs.Handles.{ready_handle}
use Rattle.mpi_doorbell.specs.HostSteps.{diagnostic_reset, look_at_doorbell, unit_reset}
use Rattle.mpt_wire.specs.Machine.Causes as calls
use Rattle.mpt_wire.specs.Machine.Causes.{is_up}
use Rattle.mpt_wire.specs.Machine.State.{Machine}
use Rattle.mpt_wire.specs.Machine.Steps.{Fails, Grants, Refuses, accepted, after_all}
use Rattle.mpt_wire.specs.Machine.View.{Seen, seen_next, step_if}
use Rattle.mpt_wire.specs.Messages.Fields.{smid_in}
use Rattle.mpt_wire.specs.Walks.Ahead.{next_own, state_ahead}
use Rattle.mpt_wire.specs.Walks.Passes.{EachEntry}
use Rattle.mpt_trace.specs.Command.{command_named}
use Rattle.mpt_trace.specs.declared.command_form.CommandForm.{CommandForm}
use Rattle.mpt_trace.specs.declared.entry.Entry.{Entry}
use Rattle.mpt_trace.specs.declared.entry.Entry.TheVariants as entry
use Rattle.mpt_trace.specs.declared.host_state.HostState.{HostState}
use Rattle.mpt_trace.specs.declared.host_state.HostState.TheVariants as state
use Rattle.mpt_trace.specs.declared.input.Input.{Input}
use Rattle.mpt_trace.specs.declared.input.Input.TheVariants as input
use Rattle.mpt_trace.specs.declared.item.Down.{Down}
use Rattle.mpt_trace.specs.declared.item.Down.TheVariants as down
use Rattle.mpt_trace.specs.declared.item.Item.TheVariants as item
use Rattle.mpt_trace.specs.declared.item.Up.{Up}
use Rattle.mpt_trace.specs.declared.lane.LaneName.TheVariants as lane
use Rattle.mpt_trace.specs.declared.item.Up.TheVariants as upward
use Rattle.mpt_trace.specs.declared.refusal.Refusal.{Refusal}
use Rattle.mpt_trace.specs.declared.refusal.Refusal.TheVariants as refusal
use Rattle.mpt_trace.specs.declared.refusal.RefusedCall.TheVariants as refused
use Rattle.mpt_rules.specs.declared.request.Request.{Request}
use Rattle.mpt_rules.specs.declared.request.Request.TheVariants as request
use Rattle.mpt_rules.specs.declared.stage.Stage.TheVariants as stage
use Rattle.mpt_rules.specs.Host.Inputs as inputs
use Rattle.mpt_rules.specs.Host.Parts.{Cmd, Host}
use Rattle.mpt_rules.specs.Host.Replies as replies
use Rattle.mpt_rules.specs.Host.Resets as resets
use Rattle.mpt_rules.specs.Host.Returns.{after_sent}
use Rattle.mpt_rules.specs.Host.Takes.{hears_up}
use Rattle.mpt_rules.specs.Law.{NothingIsStrange}
use Rattle.mpt_rules.specs.Outcome.{Happening}
use Rattle.mpt_rules.specs.World.Cases.{Case, entries, happens}
use Rattle.mpt_rules.specs.World.Counts.{how_many, one_if}
use Rattle.mpt_rules.specs.World.Inputs.{by_option, by_result, host_told}
use Rattle.mpt_rules.specs.World.State.{World, up_lane, up_on}
use Rattle.mpt_rules.proofs.HostCalls.{aborts_by, resets_target_by, submits_by}
use Rattle.law_facts.specs.Disks.{SameNumber, SameResets}
use Rattle.law_facts.specs.Facts.{Facts}
use Rattle.law_facts.specs.History.{History, history_after}
use Rattle.law_facts.specs.Words.{resets_address, slot}
use Rattle.law_flights.proofs.Least.{IsLeast, least_is}
use Rattle.law_machine.proofs.Inputs.{seen}
use Rattle.law_machine.proofs.IocSilent.{told_back, told_down}
use Rattle.law_machine.proofs.Lane.{taking}
use Rattle.law_machine.proofs.NumbersTold.{abort_keeps, submit_keeps}
use Rattle.law_machine.proofs.Opened.{inside}
use Rattle.law_machine.proofs.Silent.{IsSilent, Passed}
use Rattle.law_machine.proofs.Values.{mark_passes, value_passes}
use Rattle.law_moves.proofs.Cases.{IsHosts}
use Rattle.law_moves.proofs.CasesTold.{IsPlugWord, OwesTold, kept_told}
use Rattle.law_moves.proofs.IocWords.{IsIocWord, works_words}
use Rattle.law_numbers.proofs.Agree.{Agree, Agrees, IsCalm, Like, Num, agrees_like, alike, calm_all, from_facts, like_then, slot_count, slot_same, target_asked, taken, to_number, to_resets}
use Rattle.law_numbers.proofs.Calls.{Behind, Calmly, answer, calmly, entry_taken, none_asked}
use Rattle.law_numbers.proofs.Ends.{behind, behind_cons, behind_is, renewed_agrees}
use Rattle.law_numbers.proofs.Turns.{Ended, Over, Quiet, begun, facts_begin, mark_ends, reset_asked, value_ends}

same : (n : ℕ) → (n == n) ≡ true
same n = grind arith

-- ---- entries of the controller, and of plugs

silent_calm : (e : Entry) → IsSilent e → IsCalm e
silent_calm (entry.Given i) w = absurd w
silent_calm (entry.Accept n a s) w = absurd w
silent_calm (entry.Answer n how) w = absurd w
silent_calm (entry.AbortEnd n how) w = absurd w
silent_calm (entry.TargetEnd a how) w = absurd w
silent_calm entry.ResetDone w = absurd w
silent_calm _ w = tt

silents_calm : (t : List Entry) → EachEntry IsSilent t → EachEntry IsCalm t
silents_calm [] w = tt
silents_calm (e ∷ t) w = (silent_calm e w.0, silents_calm t w.1)

word_calm : (e : Entry) → IsIocWord e → IsCalm e
word_calm (entry.Given i) w = absurd w
word_calm (entry.Accept n a s) w = absurd w
word_calm (entry.Answer n how) w = absurd w
word_calm (entry.AbortEnd n how) w = absurd w
word_calm (entry.TargetEnd a how) w = absurd w
word_calm entry.ResetDone w = absurd w
word_calm _ w = tt

words_calm : (t : List Entry) → EachEntry IsIocWord t → EachEntry IsCalm t
words_calm [] w = tt
words_calm (e ∷ t) w = (word_calm e w.0, words_calm t w.1)

plug_calm : (e : Entry) → IsPlugWord e → IsCalm e
plug_calm (entry.Given (input.Plug a e p)) w = tt
plug_calm (entry.Given (input.Unplug a)) w = tt
plug_calm (entry.Given input.Start) w = absurd w
plug_calm (entry.Given (input.Submit n a form)) w = absurd w
plug_calm (entry.Given (input.Abort n)) w = absurd w
plug_calm (entry.Given (input.TargetReset a)) w = absurd w
plug_calm (entry.Given input.Reset) w = absurd w
plug_calm (entry.Given input.UnitReset) w = absurd w
plug_calm (entry.Accept n a s) w = absurd w
plug_calm (entry.Answer n how) w = absurd w
plug_calm (entry.AbortEnd n how) w = absurd w
plug_calm (entry.TargetEnd a how) w = absurd w
plug_calm entry.ResetDone w = absurd w
plug_calm _ w = tt

plugs_calm : (t : List Entry) → EachEntry IsPlugWord t → EachEntry IsCalm t
plugs_calm [] w = tt
plugs_calm (e ∷ t) w = (plug_calm e w.0, plugs_calm t w.1)

sent_same : (x : Host) (i : Down) (rest : List Down) → Like x (after_sent x i rest)
sent_same x (down.Return address index) rest = alike x (after_sent x (down.Return address index) rest) refl refl refl refl
sent_same x (down.Write reg value) rest = alike x (after_sent x (down.Write reg value) rest) refl refl refl refl
sent_same x (down.Read reg) rest = alike x (after_sent x (down.Read reg) rest) refl refl refl refl
sent_same x (down.Post d f p) rest = alike x (after_sent x (down.Post d f p) rest) refl refl refl refl
sent_same x down.Stop rest = alike x (after_sent x down.Stop rest) refl refl refl refl

module _ (w : World) (h : History) (facts : Facts w h) where
  agrees : Agrees h.machine w.host
  agrees = from_facts w h facts

  abbrev P : World → List Entry → Type 0
  P v t = Agrees (state_ahead seen_next (seen h) t []).machine v.host

  -- a case whose entries say nothing of these, and whose host has as much
  quiet : (x : Host) (t : List Entry) → EachEntry IsCalm t → Like w.host x → Agrees (state_ahead seen_next (seen h) t []).machine x
  quiet x t c l = agrees_like (state_ahead seen_next (seen h) t []).machine w.host x l (calm_all w.host (seen h) t c agrees)

  -- ---- an item is taken

  module _ (queue : ℕ) (i : Up) where
    -- what follows, from the state behind the taking
    then_told : (o : Happening Host) → ((g : Seen) → Agrees g.machine w.host → Behind g o) → Agrees (state_ahead seen_next (seen h) (taking queue i ∷ o.entries) []).machine o.part
    then_told o f =
        let e = taking queue i in
        let ahead = next_own e (o.entries ++ []) in
        f (seen_next (seen h) e ahead) (taken w.host h.machine h.so_far (up_lane queue) (item.Up i) ahead agrees)

    ended : (o : Happening Host) → Ended w.host o → Passed (seen h) (taking queue i ∷ o.entries) → Agrees (state_ahead seen_next (seen h) (taking queue i ∷ o.entries) []).machine o.part
    ended o (Quiet e l) p = subst (λ t. Agrees (state_ahead seen_next (seen h) (taking queue i ∷ t) []).machine o.part) (sym e) (quiet o.part (taking queue i ∷ []) (tt, tt) l)
    ended o (Over k l e) p = subst (λ (y : Happening Host). Agrees (state_ahead seen_next (seen h) (taking queue i ∷ y.entries) []).machine y.part) (sym e) over
      where
        over : Agrees (state_ahead seen_next (seen h) (taking queue i ∷ resets.reset_told k) []).machine (resets.ends_reset k).part
        over =
            let e0 = taking queue i in
            let t = resets.reset_told k in
            let g = seen_next (seen h) e0 (next_own e0 t) in
            let p2 : Passed (seen h) (e0 ∷ t) = subst (λ (y : Happening Host). Passed (seen h) (e0 ∷ y.entries)) e p in
            let s = taken w.host h.machine h.so_far (up_lane queue) (item.Up i) (next_own e0 t) agrees in
            let r = renewed_agrees g k p2.1 (agrees_like g.machine w.host k l s) in
            subst (λ (z : Seen). Agrees z.machine (resets.ends_reset k).part) (sym (behind_is (seen h) (e0 ∷ t) ∙ behind_cons (seen h) e0 t))
            (agrees_like (behind g t).machine (resets.renewed k) (resets.ends_reset k).part (facts_begin (resets.renewed k)) r)

  -- a reply
  replied : (queue d : ℕ) (f : Option (List ℕ)) (page sense : List ℕ) (y : Slot Request) → slot w.host (smid_in d) ≡ y
      → Agrees (state_ahead seen_next (seen h) (taking queue (upward.Reply d f page sense) ∷ (replies.hears_reply_to (replies.takes_entry (replies.with_frame_heard w.host d f) queue) (smid_in d) (record_of y) (replies.heard_of d f page sense)).entries) []).machine
      (replies.hears_reply_to (replies.takes_entry (replies.with_frame_heard w.host d f) queue) (smid_in d) (record_of y) (replies.heard_of d f page sense)).part
  replied queue d f page sense y e =
      then_told queue (upward.Reply d f page sense) (replies.hears_reply_to x (smid_in d) (record_of y) (replies.heard_of d f page sense)) (λ g s. by_slot y e g (agrees_like g.machine w.host x (entry_taken w.host queue d f) s))
    where
      x : Host
      x = replies.takes_entry (replies.with_frame_heard w.host d f) queue

      pool_is : (f : Option (List ℕ)) → (replies.takes_entry (replies.with_frame_heard w.host d f) queue).pool ≡ w.host.pool
      pool_is None = refl
      pool_is (Some b) = by_returning w.host.returning
        where
          by_returning : (c : Bool) → (if c then Rattle.mpt_rules.specs.Host.Returns.with_return w.host (Rattle.mpt_rules.specs.Host.Returns.frame_of (Rattle.mpt_wire.specs.Messages.Fields.frame_address_in d)) else Rattle.mpt_rules.specs.Host.Returns.keeps w.host (Rattle.mpt_rules.specs.Host.Returns.frame_of (Rattle.mpt_wire.specs.Messages.Fields.frame_address_in d))).pool ≡ w.host.pool
          by_returning true = refl
          by_returning false = refl

      by_slot : (y : Slot Request) → slot w.host (smid_in d) ≡ y → (g : Seen) → Agrees g.machine (replies.takes_entry (replies.with_frame_heard w.host d f) queue) → Behind g (replies.hears_reply_to (replies.takes_entry (replies.with_frame_heard w.host d f) queue) (smid_in d) (record_of y) (replies.heard_of d f page sense))
      by_slot Free e g s = none_asked g (replies.takes_entry (replies.with_frame_heard w.host d f) queue) (smid_in d) (replies.heard_of d f page sense) s
      by_slot Parked e g s = none_asked g (replies.takes_entry (replies.with_frame_heard w.host d f) queue) (smid_in d) (replies.heard_of d f page sense) s
      by_slot (Open r) e g s =
          let x = replies.takes_entry (replies.with_frame_heard w.host d f) queue in
          let q = pool_is f in
          let i = inside w.host.pool (smid_in d) r facts.flights.sizes.pool e in
          let n = facts.flights.sizes.pool in
          let len : length x.pool ≡ 280 = ap length q ∙ n in
          let a = i.0 in let b = i.1 in
          answer g x (smid_in d) a (omega (arith, a, b, len)) s r (replies.heard_of d f page sense) (ap (λ p. slot_of p (smid_in d)) q ∙ e)
          (λ n k. ap (λ c. is_some (finmap.get c n)) (entry_taken w.host queue d f).cmds ∙ opened n (smid_in d) (e ∙ ap Open k))
        where
          opened : (n s : ℕ) → slot w.host s ≡ Open (request.Command n) → is_some (finmap.get w.host.cmds n) ≡ true
          opened n s e = let o = Rattle.law_machine.proofs.Opened.opened w h facts n s e in ap is_some o.named

  host_takes : (queue : ℕ) (i : Up) (rest : List Up) → up_on w queue ≡ i ∷ rest → Agrees (state_ahead seen_next (seen h) (taking queue i ∷ (hears_up w.host queue i).entries) []).machine (hears_up w.host queue i).part
  host_takes queue (upward.Value v) rest e = ended queue (upward.Value v) (hears_up w.host queue (upward.Value v)) (value_ends w.host v) (value_passes w h facts queue v)
  host_takes queue (upward.Mark generation) rest e = ended queue (upward.Mark generation) (hears_up w.host queue (upward.Mark generation)) (mark_ends w.host queue) (mark_passes w h facts queue generation)
  host_takes queue upward.Calm rest e = quiet w.host (taking queue upward.Calm ∷ []) (tt, tt) (alike w.host w.host refl refl refl refl)
  host_takes queue (upward.Reply d f page sense) rest e = replied queue d f page sense (slot w.host (smid_in d)) refl

  -- ---- inputs

  numbers_and : (m : Machine) (x : Host) → ((n : ℕ) → SameNumber (record w { host = x }) (record h { machine = m }) n) → ((a : ℕ) → m.resets a ≡ how_many (resets_address a) x.pool) → Agrees m x
  numbers_and m x f t = record { numbers = λ n. let s = f n in record { opens = s.requests; abort_is = s.aborts; over = s.closed; was = s.accepted; unused = s.unused }; targets = t }

  starts : (m : HostState) → Calmly w.host (by_option input.Start refused.Start (inputs.starts_in w.host m))
  starts state.Off = let y : Host = record w.host { mode = state.Starting } in record { told = (tt, tt); like = like_then w.host y (Rattle.mpt_rules.specs.Host.Values.looks_to_start y) (alike w.host y refl refl refl refl) (begun y stage.Start look_at_doorbell) }
  starts state.Starting = record { told = (tt, (tt, tt)); like = alike w.host w.host refl refl refl refl }
  starts state.Up = record { told = (tt, (tt, tt)); like = alike w.host w.host refl refl refl refl }
  starts state.Resetting = record { told = (tt, (tt, tt)); like = alike w.host w.host refl refl refl refl }

  diag : (m : HostState) → Calmly w.host (by_option input.Reset refused.Reset (inputs.diag_resets_in w.host m))
  diag state.Off = record { told = (tt, (tt, tt)); like = alike w.host w.host refl refl refl refl }
  diag state.Starting = record { told = (tt, tt); like = reset_asked w.host stage.DiagnosticReset diagnostic_reset }
  diag state.Up = record { told = (tt, tt); like = reset_asked w.host stage.DiagnosticReset diagnostic_reset }
  diag state.Resetting = record { told = (tt, (tt, tt)); like = alike w.host w.host refl refl refl refl }

  unit : (m : HostState) → Calmly w.host (by_option input.UnitReset refused.UnitReset (inputs.unit_resets_in w.host m))
  unit state.Off = record { told = (tt, (tt, tt)); like = alike w.host w.host refl refl refl refl }
  unit state.Starting = record { told = (tt, (tt, tt)); like = alike w.host w.host refl refl refl refl }
  unit state.Up = record { told = (tt, tt); like = reset_asked w.host stage.UnitReset unit_reset }
  unit state.Resetting = record { told = (tt, (tt, tt)); like = alike w.host w.host refl refl refl refl }

  -- what a free slot is written over with
  at_free : (c : Rattle.smid_pool.specs.declared.class.Class.Class) (s : ℕ) (r : Request) → 1 ≤ s → slot_of w.host.pool s ≡ Free → Rattle.law_numbers.proofs.Agree.is_target r ≡ false → (a : ℕ) → how_many (resets_address a) (set w.host.pool (s - 1) (Open r)) ≡ how_many (resets_address a) w.host.pool
  at_free c s r l e t a = slot_same (resets_address a) refl w.host.pool s (Open r) l (ap (resets_address a) e) (Rattle.law_numbers.proofs.Agree.not_reset a r t)

  opened_resets : (n a : ℕ) (command : Command) (o : Option ℕ) → (accepted h.machine n a command o).resets ≡ h.machine.resets
  opened_resets n a command None = refl
  opened_resets n a command (Some plug) = refl

  granted_resets : (n a : ℕ) (command : Command) (b d : Bool) → (after_all (after_all h.machine (if b then [] else Fails ∷ [])) (step_if (if b && d then Some (calls.Submit n a command) else None) Grants ∷ [])).resets ≡ h.machine.resets
  granted_resets n a command true true = opened_resets n a command (h.machine.ready a)
  granted_resets n a command true false = refl
  granted_resets n a command false d = refl

  submits : (n a : ℕ) (form : CommandForm) (used up : Bool) (handle : Option ℕ) (fit : Bool) (least : Option ℕ) → ((s : ℕ) → least ≡ Some s → IsLeast class.ScsiIo w.host.pool s)
      → ((k : ℕ) → let o = by_result (input.Submit n a form) (entry.RefuseSubmit n) (submits_by w.host n a (command_named form) used up handle fit least) in SameNumber (record w { host = o.part }) (history_after h o.entries) k)
      → Behind (seen h) (by_result (input.Submit n a form) (entry.RefuseSubmit n) (submits_by w.host n a (command_named form) used up handle fit least))
  submits n a form true up handle fit least f k = quiet w.host (entry.Given (input.Submit n a form) ∷ entry.RefuseSubmit n _ ∷ []) (tt, (tt, tt)) (alike w.host w.host refl refl refl refl)
  submits n a form false false handle fit least f k = quiet w.host (entry.Given (input.Submit n a form) ∷ entry.RefuseSubmit n _ ∷ []) (tt, (tt, tt)) (alike w.host w.host refl refl refl refl)
  submits n a form false true None fit least f k = quiet w.host (entry.Given (input.Submit n a form) ∷ entry.RefuseSubmit n _ ∷ []) (tt, (tt, tt)) (alike w.host w.host refl refl refl refl)
  submits n a form false true (Some x) false least f k = quiet w.host (entry.Given (input.Submit n a form) ∷ entry.RefuseSubmit n _ ∷ []) (tt, (tt, tt)) (alike w.host w.host refl refl refl refl)
  submits n a form false true (Some x) true None f k = quiet w.host (entry.Given (input.Submit n a form) ∷ entry.RefuseSubmit n _ ∷ []) (tt, (tt, tt)) (alike w.host w.host refl refl refl refl)
  submits n a form false true (Some x) true (Some s) f k =
      let l = f s refl in
      let i = l.inside in
      record {
        numbers = λ j. let z = k j in record { opens = z.requests; abort_is = z.aborts; over = z.closed; was = z.accepted; unused = z.unused };
        targets = λ b. ap (λ q. q b) (granted_resets n a (command_named form) (n == n) (a == a)) ∙ (facts.disks.resets b ∙ sym (at_free class.ScsiIo s (request.Command n) (omega (arith, i)) l.free refl b));
      }

  refused_resets : (n : ℕ) (c : Refusal) (b : Bool) → (after_all (after_all h.machine (if b then [] else Grants (calls.Abort n) ∷ [])) (Refuses (calls.Abort n) c ∷ [])).resets ≡ h.machine.resets
  refused_resets n c true = refl
  refused_resets n c false = refl

  aborts : (n : ℕ) (up : Bool) (c : Option Cmd) (there least : Option ℕ) → ((s : ℕ) → least ≡ Some s → IsLeast class.High w.host.pool s)
      → ((k : ℕ) → let o = by_result (input.Abort n) (entry.Refuse (refused.Abort n)) (aborts_by w.host n up c there least) in SameNumber (record w { host = o.part }) (history_after h o.entries) k)
      → Behind (seen h) (by_result (input.Abort n) (entry.Refuse (refused.Abort n)) (aborts_by w.host n up c there least))
  aborts n false c there least f k = record { numbers = λ j. let z = k j in record { opens = z.requests; abort_is = z.aborts; over = z.closed; was = z.accepted; unused = z.unused }; targets = λ b. ap (λ q. q b) (refused_resets n refusal.NotOperational (n == n)) ∙ facts.disks.resets b }
  aborts n true None there least f k = record { numbers = λ j. let z = k j in record { opens = z.requests; abort_is = z.aborts; over = z.closed; was = z.accepted; unused = z.unused }; targets = λ b. ap (λ q. q b) (refused_resets n refusal.NotOpen (n == n)) ∙ facts.disks.resets b }
  aborts n true (Some c) (Some x) least f k = record { numbers = λ j. let z = k j in record { opens = z.requests; abort_is = z.aborts; over = z.closed; was = z.accepted; unused = z.unused }; targets = λ b. ap (λ q. q b) (refused_resets n refusal.AbortOpen (n == n)) ∙ facts.disks.resets b }
  aborts n true (Some c) None None f k = record { numbers = λ j. let z = k j in record { opens = z.requests; abort_is = z.aborts; over = z.closed; was = z.accepted; unused = z.unused }; targets = λ b. ap (λ q. q b) (refused_resets n refusal.NoIdentifier (n == n)) ∙ facts.disks.resets b }
  aborts n true (Some c) None (Some s) f k =
      let l = f s refl in
      let i = l.inside in
      record {
        numbers = λ j. let z = k j in record { opens = z.requests; abort_is = z.aborts; over = z.closed; was = z.accepted; unused = z.unused };
        targets = λ b. facts.disks.resets b ∙ sym (at_free class.High s (request.Abort n c.smid) (omega (arith, i)) l.free refl b);
      }

  refused_target : (a : ℕ) (c : Refusal) (b : Bool) → b ≡ true → Agrees (after_all (after_all h.machine (if b then [] else Grants (calls.TargetReset a) ∷ [])) (Refuses (calls.TargetReset a) c ∷ [])) w.host
  refused_target a c true t = agrees
  refused_target a c false t = absurd (cc)

  targets : (a : ℕ) (up : Bool) (handle least : Option ℕ) → ((s : ℕ) → least ≡ Some s → IsLeast class.High w.host.pool s)
      → Behind (seen h) (by_result (input.TargetReset a) (entry.Refuse (refused.TargetReset a)) (resets_target_by w.host a up handle least))
  targets a false handle least f = refused_target a refusal.NotOperational (a == a) (same a)
  targets a true None least f = refused_target a refusal.NoDevice (a == a) (same a)
  targets a true (Some x) None f = refused_target a refusal.NoIdentifier (a == a) (same a)
  targets a true (Some x) (Some s) f =
      let l = f s refl in
      let i = l.inside in
      let n = facts.flights.sizes.pool in
      target_asked h.machine w.host a (set w.host.pool (s - 1) (Open (request.TargetReset a)))
      (λ b. let c = slot_count (resets_address b) refl w.host.pool s (Open (request.TargetReset a)) (omega (arith, i)) (omega (arith, i, n)) in let d = ap (λ y. one_if (resets_address b y)) l.free in omega (arith, c, d))
      agrees

  host_told_kept : (i : Input) → IsHosts i → Behind (seen h) (host_told w.host i)
  host_told_kept input.Start k = calmly (seen h) w.host (host_told w.host input.Start) (starts w.host.mode) agrees
  host_told_kept (input.Submit n a form) k =
      submits n a form (finset.contains w.host.accepted n) (is_up w.host.mode) (ready_handle w.host.phases a) (fits (command_named form)) (least_free class.ScsiIo w.host.pool) (λ s e. least_is class.ScsiIo w.host.pool s e) (λ j. submit_keeps w h facts j n a form)
  host_told_kept (input.Abort n) k =
      aborts n (is_up w.host.mode) (finmap.get w.host.cmds n) (finmap.get w.host.aborts n) (least_free class.High w.host.pool) (λ s e. least_is class.High w.host.pool s e) (λ j. abort_keeps w h facts j n)
  host_told_kept (input.TargetReset a) k = targets a (is_up w.host.mode) (ready_handle w.host.phases a) (least_free class.High w.host.pool) (λ s e. least_is class.High w.host.pool s e)
  host_told_kept input.Reset k = calmly (seen h) w.host (host_told w.host input.Reset) (diag w.host.mode) agrees
  host_told_kept input.UnitReset k = calmly (seen h) w.host (host_told w.host input.UnitReset) (unit w.host.mode) agrees
  host_told_kept (input.Plug a e p) k = absurd k
  host_told_kept (input.Unplug a) k = absurd k

  -- ---- every case

  itself : Like w.host w.host
  itself = alike w.host w.host refl refl refl refl

  owed : OwesTold P w
  owed =
      record {
        idles = λ c. quiet w.host (entry.Idle c ∷ []) (tt, tt) itself;
        host_puts = λ x rest e. quiet (after_sent w.host x rest) (entry.Put lane.Down (item.Down x) ∷ []) (tt, tt) (sent_same w.host x rest);
        host_takes = λ queue x rest e s. host_takes queue x rest e;
        host_told = λ i k. host_told_kept i k;
        host_looks = λ e. quiet (inputs.looks w.host) [] tt (begun w.host stage.Look look_at_doorbell);
        host_stops = λ e. quiet (inputs.stops w.host) [] tt (alike w.host (inputs.stops w.host) refl refl refl refl);
        no_session = agrees;
        ioc_takes = λ x rest e. quiet w.host (entry.Take lane.Down (item.Down x) ∷ (Rattle.mpt_rules.specs.Ioc.Takes.takes_down w.ioc x).entries) (tt, silents_calm (Rattle.mpt_rules.specs.Ioc.Takes.takes_down w.ioc x).entries (told_down w.ioc x)) itself;
        ioc_high = λ p rest e. let i = record w.ioc { high = rest } in quiet w.host (Rattle.mpt_rules.specs.Ioc.Steps.works_on i p).entries (words_calm (Rattle.mpt_rules.specs.Ioc.Steps.works_on i p).entries (works_words i p)) itself;
        ioc_normal = λ p rest e. let i = record w.ioc { normal = rest } in quiet w.host (Rattle.mpt_rules.specs.Ioc.Steps.works_on i p).entries (words_calm (Rattle.mpt_rules.specs.Ioc.Steps.works_on i p).entries (works_words i p)) itself;
        ioc_puts_out = λ x rest e. quiet w.host (entry.Put lane.Out (item.Out x) ∷ []) (tt, tt) itself;
        ioc_takes_back = λ x rest e. quiet w.host (entry.Take lane.Back (item.Back x) ∷ (Rattle.mpt_rules.specs.Ioc.Takes.takes_back w.ioc x).entries) (tt, silents_calm (Rattle.mpt_rules.specs.Ioc.Takes.takes_back w.ioc x).entries (told_back w.ioc x)) itself;
        ioc_puts = λ queue y rest z e f. quiet w.host (entry.Put (up_lane queue) (item.Up z) ∷ []) (tt, tt) itself;
        fabric_takes = λ x rest e. quiet w.host (entry.Take lane.Out (item.Out x) ∷ []) (tt, tt) itself;
        fabric_says = λ x rest e. agrees;
        fabric_puts = λ x rest e. quiet w.host (entry.Put lane.Back (item.Back x) ∷ []) (tt, tt) itself;
        fabric_runs = λ tag address e. quiet w.host (entry.Run address tag ∷ []) (tt, tt) itself;
        plugs = λ address expander phy t e. quiet w.host t (plugs_calm t e) itself;
        unplugs = λ address t e. quiet w.host t (plugs_calm t e) itself;
        calms = agrees;
      }

pub agrees_kept : (w : World) (h : History) → Facts w h → NothingIsStrange w → (c : Case) → Agrees (history_after h (entries w c)).machine (happens w c).host
agrees_kept w h f plain c = kept_told (P w h f) w plain (owed w h f) c

pub number_kept : (w : World) (h : History) → Facts w h → NothingIsStrange w → (c : Case) (n : ℕ) → SameNumber (happens w c) (history_after h (entries w c)) n
number_kept w h f plain c n = to_number (happens w c) (history_after h (entries w c)) n (agrees_kept w h f plain c)

pub resets_kept : (w : World) (h : History) → Facts w h → NothingIsStrange w → (c : Case) (a : ℕ) → SameResets (happens w c) (history_after h (entries w c)) a
resets_kept w h f plain c a = to_resets (happens w c) (history_after h (entries w c)) a (agrees_kept w h f plain c)
