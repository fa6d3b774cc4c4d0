-- As many numbers and target resets are open at the host, and it has the machine's mode, over every case.
use Rattle.std.proofs.Common.{◌≡◌, inl, inr, cond, map, filter_map, take, drop, count_by, ℕ, zero, suc, ◌+◌, ◌-◌, ◌≤◌, ◌==◌, ◌&&◌, Bool, true, false, if◌then◌else◌, List, [], ◌∷◌, ◌++◌, length, Option, Some, None, is_some, refl, ap, sym, ◌∙◌, subst, arith}
use Rattle.std.specs.FinMap as finmap
use Rattle.std.specs.FinSet as finset
use Rattle.scsi_disk.specs.Command.{fits}
use Rattle.scsi_disk.specs.declared.command.Command.{Command}
use Rattle.smid_pool.specs.Pool.{Slot, Free, Open, Parked, all_free, is_open, least_free, record_of, slot_of, slots_in}
use Rattle.std.proofs.lemmas.Cmp.{nat_cmp_total}
use Rattle.smid_pool.specs.declared.class.Class.TheVariants as class
use Rattle.removal.specs.Handles.{ready_handle}
use Rattle.mpi_doorbell.specs.HostSteps.{diagnostic_reset, look_at_doorbell, unit_reset}
use Rattle.mpt_wire.specs.Machine.Causes as calls
use Rattle.mpt_wire.specs.Machine.Causes.{is_up}
use Rattle.mpt_wire.specs.Machine.State.{Machine}
use Rattle.mpt_wire.specs.Machine.Steps.{Fails, Grants, Refuses, accepted, after_all}
use Rattle.mpt_wire.specs.Machine.View.{Seen, seen_next, step_if}
use Rattle.mpt_wire.specs.Messages.Fields.{smid_in}
use Rattle.mpt_wire.specs.Walks.Ahead.{next_own, state_ahead}
use Rattle.mpt_wire.specs.Walks.Passes.{EachEntry}
use Rattle.mpt_trace.specs.Command.{command_named}
use Rattle.mpt_trace.specs.declared.command_form.CommandForm.{CommandForm}
use Rattle.mpt_trace.specs.declared.entry.Entry.{Entry}
use Rattle.mpt_trace.specs.declared.entry.Entry.TheVariants as entry
use Rattle.mpt_trace.specs.declared.host_state.HostState.{HostState}
use Rattle.mpt_trace.specs.declared.host_state.HostState.TheVariants as state
use Rattle.mpt_trace.specs.declared.input.Input.{Input}
use Rattle.mpt_trace.specs.declared.input.Input.TheVariants as input
use Rattle.mpt_trace.specs.declared.item.Down.{Down}
use Rattle.mpt_trace.specs.declared.item.Down.TheVariants as down
use Rattle.mpt_trace.specs.declared.item.Item.TheVariants as item
use Rattle.mpt_trace.specs.declared.item.Up.{Up}
use Rattle.mpt_trace.specs.declared.lane.LaneName.TheVariants as lane
use Rattle.mpt_trace.specs.declared.item.Up.TheVariants as upward
use Rattle.mpt_trace.specs.declared.refusal.Refusal.{Refusal}
use Rattle.mpt_trace.specs.declared.refusal.Refusal.TheVariants as refusal
use Rattle.mpt_trace.specs.declared.refusal.RefusedCall.TheVariants as refused
use Rattle.mpt_rules.specs.declared.request.Request.{Request}
use Rattle.mpt_rules.specs.declared.request.Request.TheVariants as request
use Rattle.mpt_rules.specs.declared.stage.Stage.TheVariants as stage
use Rattle.mpt_rules.specs.Host.Inputs as inputs
use Rattle.mpt_rules.specs.Host.Parts.{Cmd, Host}
use Rattle.mpt_rules.specs.Host.Replies as replies
use Rattle.mpt_rules.specs.Host.Resets as resets
use Rattle.mpt_rules.specs.Host.Returns.{after_sent}
use Rattle.mpt_rules.specs.Host.Takes.{hears_up}
use Rattle.mpt_rules.specs.Law.{NothingIsStrange}
use Rattle.mpt_rules.specs.Outcome.{Happening}
use Rattle.mpt_rules.specs.World.Cases.{Case, entries, happens}
use Rattle.mpt_rules.specs.World.Counts.{how_many, one_if}
use Rattle.mpt_rules.specs.World.Inputs.{by_option, by_result, host_told}
use Rattle.mpt_rules.specs.World.State.{World, up_lane, up_on}
use Rattle.mpt_rules.proofs.HostCalls.{aborts_by, resets_target_by, submits_by}
use Rattle.law_facts.specs.Facts.{Facts}
use Rattle.law_facts.specs.History.{History, history_after}
use Rattle.law_facts.specs.Words.{slot}
use Rattle.law_flights.proofs.Least.{IsLeast, least_is}
use Rattle.law_machine.proofs.Inputs.{seen}
use Rattle.law_machine.proofs.IocSilent.{told_back, told_down}
use Rattle.law_machine.proofs.Lane.{taking}
use Rattle.law_machine.proofs.Opened.{inside}
use Rattle.law_machine.proofs.Silent.{IsSilent, Passed}
use Rattle.law_machine.proofs.Values.{mark_passes, value_passes}
use Rattle.law_moves.proofs.Cases.{IsHosts}
use Rattle.law_moves.proofs.CasesTold.{IsPlugWord, OwesTold, kept_told}
use Rattle.law_moves.proofs.IocWords.{IsIocWord, works_words}
use Rattle.law_disks.proofs.Takes.{take_leaves}
use Rattle.law_facts.specs.Disks.{is_target}
use Rattle.law_facts.specs.Flights.{RecordStands}
use Rattle.law_machine.proofs.Counted.{count-cons, one_more}
use Rattle.law_moves.proofs.Counted.{how_many-nil}
use Rattle.law_numbers.specs.Tallies.{SameTallies}
use Rattle.law_numbers.proofs.Ends.{behind, behind_cons, behind_is, behind_nil, told_bare, told_splits}
use Rattle.law_numbers.proofs.Tally.{Alike, Counts, IsStill, Tallies, alike, kept_outside, moved_inside, still_all, taken_still, tallies_alike, write}
use Rattle.law_numbers.proofs.TallyCalls.{Behind, Placed, answer, entry_taken, none_asked}
use Rattle.law_numbers.proofs.TallyTurns.{Ended, Over, Quiet, begun, facts_begin, mark_ends, reset_asked, value_ends}

same : (n : ℕ) → (n == n) ≡ true
same n = grind arith

-- ---- entries of the controller, and of plugs

silent_calm : (e : Entry) → IsSilent e → IsStill e
silent_calm (entry.Given i) w = absurd w
silent_calm entry.HostUp w = absurd w
silent_calm (entry.Accept n a s) w = absurd w
silent_calm (entry.Answer n how) w = absurd w
silent_calm (entry.AbortEnd n how) w = absurd w
silent_calm (entry.TargetEnd a how) w = absurd w
silent_calm entry.ResetDone w = absurd w
silent_calm _ w = tt

silents_calm : (t : List Entry) → EachEntry IsSilent t → EachEntry IsStill t
silents_calm [] w = tt
silents_calm (e ∷ t) w = (silent_calm e w.0, silents_calm t w.1)

word_calm : (e : Entry) → IsIocWord e → IsStill e
word_calm (entry.Given i) w = absurd w
word_calm entry.HostUp w = absurd w
word_calm (entry.Accept n a s) w = absurd w
word_calm (entry.Answer n how) w = absurd w
word_calm (entry.AbortEnd n how) w = absurd w
word_calm (entry.TargetEnd a how) w = absurd w
word_calm entry.ResetDone w = absurd w
word_calm _ w = tt

words_calm : (t : List Entry) → EachEntry IsIocWord t → EachEntry IsStill t
words_calm [] w = tt
words_calm (e ∷ t) w = (word_calm e w.0, words_calm t w.1)

plug_calm : (e : Entry) → IsPlugWord e → IsStill e
plug_calm (entry.Given (input.Plug a e p)) w = tt
plug_calm (entry.Given (input.Unplug a)) w = tt
plug_calm (entry.Given input.Start) w = absurd w
plug_calm (entry.Given (input.Submit n a form)) w = absurd w
plug_calm (entry.Given (input.Abort n)) w = absurd w
plug_calm (entry.Given (input.TargetReset a)) w = absurd w
plug_calm (entry.Given input.Reset) w = absurd w
plug_calm (entry.Given input.UnitReset) w = absurd w
plug_calm entry.HostUp w = absurd w
plug_calm (entry.Accept n a s) w = absurd w
plug_calm (entry.Answer n how) w = absurd w
plug_calm (entry.AbortEnd n how) w = absurd w
plug_calm (entry.TargetEnd a how) w = absurd w
plug_calm entry.ResetDone w = absurd w
plug_calm _ w = tt

plugs_calm : (t : List Entry) → EachEntry IsPlugWord t → EachEntry IsStill t
plugs_calm [] w = tt
plugs_calm (e ∷ t) w = (plug_calm e w.0, plugs_calm t w.1)

sent_same : (x : Host) (i : Down) (rest : List Down) → Alike x (after_sent x i rest)
sent_same x (down.Return address index) rest = alike x (after_sent x (down.Return address index) rest) refl refl
sent_same x (down.Write reg value) rest = alike x (after_sent x (down.Write reg value) rest) refl refl
sent_same x (down.Read reg) rest = alike x (after_sent x (down.Read reg) rest) refl refl
sent_same x (down.Post d f p) rest = alike x (after_sent x (down.Post d f p) rest) refl refl
sent_same x down.Stop rest = alike x (after_sent x down.Stop rest) refl refl

-- ---- what the end of a reset leaves

module _ (u : List Entry) (n : ℕ) where
  -- answers and ends of aborts before it
  told_first : (f : ℕ → Entry) → ((g : Seen) (q : ℕ) (ahead : Option Entry) → (seen_next g (f q) ahead).machine.all_resets ≡ g.machine.all_resets) → ((g : Seen) → (behind g u).machine.all_resets ≡ g.machine.all_resets - n)
      → (ns : List ℕ) (g : Seen) → (behind g (map f ns ++ u)).machine.all_resets ≡ g.machine.all_resets - n
  told_first f s c [] g = c g
  told_first f s c (q ∷ ns) g =
      let ahead = next_own (f q) (map f ns ++ u) in
      ap (λ (z : Seen). z.machine.all_resets) (behind_cons g (f q) (map f ns ++ u)) ∙ (told_first f s c ns (seen_next g (f q) ahead) ∙ ap (λ a. a - n) (s g q ahead))

minus_none : (a k : ℕ) → k ≡ 0 → a ≡ a - k
minus_none a k e = omega (arith, e)

targets_told : (xs : List (Slot Request)) (g : Seen) → (behind g (filter_map resets.reset_target xs ++ entry.ResetDone ∷ [])).machine.all_resets ≡ g.machine.all_resets - how_many is_target xs
targets_told [] g = ap (λ (z : Seen). z.machine.all_resets) (behind_cons g entry.ResetDone [] ∙ behind_nil (seen_next g entry.ResetDone None)) ∙ minus_none g.machine.all_resets (how_many is_target []) (how_many-nil is_target)
targets_told (x ∷ xs) g = by_slot x (targets_told xs)
  where
    passed : (y : Slot Request) → is_target y ≡ false → (behind g (filter_map resets.reset_target xs ++ entry.ResetDone ∷ [])).machine.all_resets ≡ g.machine.all_resets - how_many is_target xs → (behind g (filter_map resets.reset_target xs ++ entry.ResetDone ∷ [])).machine.all_resets ≡ g.machine.all_resets - how_many is_target (y ∷ xs)
    passed y e h = let c = one_more is_target y xs in let d = ap one_if e in h ∙ ap (λ k. g.machine.all_resets - k) (sym (c ∙ (let z : one_if (is_target y) + how_many is_target xs ≡ how_many is_target xs = omega (arith, d) in z)))

    by_slot : (y : Slot Request) → ((g : Seen) → (behind g (filter_map resets.reset_target xs ++ entry.ResetDone ∷ [])).machine.all_resets ≡ g.machine.all_resets - how_many is_target xs)
        → (behind g (filter_map resets.reset_target (y ∷ xs) ++ entry.ResetDone ∷ [])).machine.all_resets ≡ g.machine.all_resets - how_many is_target (y ∷ xs)
    by_slot (Open (request.TargetReset b)) h =
        let e = entry.TargetEnd b Rattle.mpt_trace.specs.declared.outcome.TargetOutcome.TheVariants.Reset in
        let t = filter_map resets.reset_target xs ++ entry.ResetDone ∷ [] in
        let c = one_more is_target (Open (request.TargetReset b)) xs in
        let k : (g.machine.all_resets - 1) - how_many is_target xs ≡ g.machine.all_resets - how_many is_target (Open (request.TargetReset b) ∷ xs) = omega (arith, c) in
        ap (λ (z : Seen). z.machine.all_resets) (behind_cons g e t) ∙ (h (seen_next g e (next_own e t)) ∙ k)
    by_slot Free h = passed Free refl (h g)
    by_slot Parked h = passed Parked refl (h g)
    by_slot (Open (request.Command n)) h = passed (Open (request.Command n)) refl (h g)
    by_slot (Open (request.Abort n task)) h = passed (Open (request.Abort n task)) refl (h g)
    by_slot (Open (request.Leave handle)) h = passed (Open (request.Leave handle)) refl (h g)
    by_slot (Open (request.Page handle)) h = passed (Open (request.Page handle)) refl (h g)
    by_slot (Open (request.Remove handle)) h = passed (Open (request.Remove handle)) refl (h g)
    by_slot (Open (request.Ack ev context)) h = passed (Open (request.Ack ev context)) refl (h g)
    by_slot (Open request.Notification) h = passed (Open request.Notification) refl (h g)
    by_slot (Open request.PortEnable) h = passed (Open request.PortEnable) refl (h g)

resets_told : (k : Host) (g : Seen) → (behind g (resets.reset_told k)).machine.all_resets ≡ g.machine.all_resets - how_many is_target k.pool
resets_told k g =
    told_first (map resets.reset_abort (finmap.keys k.aborts) ++ (filter_map resets.reset_target k.pool ++ entry.ResetDone ∷ [])) (how_many is_target k.pool) resets.reset_answer (λ g q ahead. refl)
    (told_first (filter_map resets.reset_target k.pool ++ entry.ResetDone ∷ []) (how_many is_target k.pool) resets.reset_abort (λ g q ahead. refl) (targets_told k.pool) (finmap.keys k.aborts))
    (finmap.keys k.cmds) g

-- a region has no more than all
region_le : (b n : ℕ) (xs : List (Slot Request)) → count_by is_target (take n (drop b xs)) ≤ how_many is_target xs
region_le zero zero [] = omega arith
region_le zero (suc n) [] = omega arith
region_le (suc b) zero [] = omega arith
region_le (suc b) (suc n) [] = omega arith
region_le zero zero (x ∷ xs) = omega arith
region_le zero (suc n) (x ∷ xs) = let a = count-cons is_target x (take n xs) in let c = one_more is_target x xs in let h = region_le zero n xs in omega (arith, a, c, h)
region_le (suc b) n (x ∷ xs) = let c = one_more is_target x xs in let h = region_le b n xs in omega (arith, c, h)

starting : (t : List Entry) (g : Seen) → (behind g (t ++ entry.ResetDone ∷ [])).machine.mode ≡ state.Starting
starting [] g = ap (λ (z : Seen). z.machine.mode) (behind_cons g entry.ResetDone [] ∙ behind_nil (seen_next g entry.ResetDone None))
starting (e ∷ t) g = ap (λ (z : Seen). z.machine.mode) (behind_cons g e (t ++ entry.ResetDone ∷ [])) ∙ starting t (seen_next g e (next_own e (t ++ entry.ResetDone ∷ [])))

abbrev free_pool : List (Slot Request)
free_pool = all_free

free_opens : count_by is_open (slots_in class.ScsiIo free_pool) ≡ 0
free_opens = refl

free_targets : count_by is_target (slots_in class.High free_pool) ≡ 0
free_targets = refl

renewed_tallies : (g : Seen) (k : Host) → Passed g (resets.reset_told k) → Tallies g.machine k → Tallies (behind g (resets.reset_told k)).machine (resets.renewed k)
renewed_tallies g k p s =
    let b = told_bare k g p in
    let e = told_splits k in
    let r = resets_told k g in
    let t = s.targets in
    let l = region_le 256 8 k.pool in
    let f = free_targets in
    record {
      modes = ap (λ u. (behind g u).machine.mode) e.1 ∙ starting e.0 g;
      opens = b.requests ∙ sym free_opens;
      targets = omega (arith, r, t, l, f);
    }

module _ (w : World) (h : History) (facts : Facts w h) where
  agrees : Tallies h.machine w.host
  agrees = let c = facts.disks.counts in record { modes = c.mode; opens = c.requests; targets = c.resets }

  abbrev P : World → List Entry → Type 0
  P v t = Tallies (state_ahead seen_next (seen h) t []).machine v.host

  -- a case whose entries say nothing of these, and whose host has as much
  quiet : (x : Host) (t : List Entry) → EachEntry IsStill t → Alike w.host x → Tallies (state_ahead seen_next (seen h) t []).machine x
  quiet x t c l = tallies_alike (state_ahead seen_next (seen h) t []).machine w.host x l (still_all w.host (seen h) t c agrees)

  -- ---- an item is taken

  module _ (queue : ℕ) (i : Up) where
    -- what follows, from the state behind the taking
    then_told : (o : Happening Host) → ((g : Seen) → g.machine.requests ≡ h.machine.requests → Tallies g.machine w.host → Behind g o) → Tallies (state_ahead seen_next (seen h) (taking queue i ∷ o.entries) []).machine o.part
    then_told o f =
        let e = taking queue i in
        let ahead = next_own e (o.entries ++ []) in
        let t = take_leaves h.machine h.so_far (up_lane queue) (item.Up i) ahead in
        f (seen_next (seen h) e ahead) (ap (λ (m : Machine). m.requests) t.1) (taken_still w.host h.machine h.so_far (up_lane queue) (item.Up i) ahead agrees)

    ended : (o : Happening Host) → Ended w.host o → Passed (seen h) (taking queue i ∷ o.entries) → Tallies (state_ahead seen_next (seen h) (taking queue i ∷ o.entries) []).machine o.part
    ended o (Quiet e l) p = subst (λ t. Tallies (state_ahead seen_next (seen h) (taking queue i ∷ t) []).machine o.part) (sym e) (quiet o.part (taking queue i ∷ []) (tt, tt) l)
    ended o (Over k l e) p = subst (λ (y : Happening Host). Tallies (state_ahead seen_next (seen h) (taking queue i ∷ y.entries) []).machine y.part) (sym e) over
      where
        over : Tallies (state_ahead seen_next (seen h) (taking queue i ∷ resets.reset_told k) []).machine (resets.ends_reset k).part
        over =
            let e0 = taking queue i in
            let t = resets.reset_told k in
            let g = seen_next (seen h) e0 (next_own e0 t) in
            let p2 : Passed (seen h) (e0 ∷ t) = subst (λ (y : Happening Host). Passed (seen h) (e0 ∷ y.entries)) e p in
            let s = taken_still w.host h.machine h.so_far (up_lane queue) (item.Up i) (next_own e0 t) agrees in
            let r = renewed_tallies g k p2.1 (tallies_alike g.machine w.host k l s) in
            subst (λ (z : Seen). Tallies z.machine (resets.ends_reset k).part) (sym (behind_is (seen h) (e0 ∷ t) ∙ behind_cons (seen h) e0 t))
            (tallies_alike (behind g t).machine (resets.renewed k) (resets.ends_reset k).part (facts_begin (resets.renewed k)) r)

  recorded : (s : ℕ) (r : Request) → slot w.host s ≡ Open r → RecordStands w s (Open r)
  recorded s r e = let i = inside w.host.pool s r facts.flights.sizes.pool e in subst (RecordStands w s) e (facts.flights.identifiers s i.0 i.1).recorded

  placed : (g : Seen) (x : Host) (s : ℕ) → g.machine.requests ≡ h.machine.requests → (r : Request) → slot w.host s ≡ Open r → Placed g x s r
  placed g x s q (request.Command n) e =
      let i = (recorded s (request.Command n) e).0 in let a = i.0 in let b = i.1 in
      let o = Rattle.law_machine.proofs.Opened.opened w h facts n s e in
      (omega (arith, a), omega (arith, b), ap (λ m. is_some (finmap.get m n)) q ∙ ap is_some o.asked)
  placed g x s q (request.Abort n task) e = let i = (recorded s (request.Abort n task) e).0 in let a = i.0 in omega (arith, a)
  placed g x s q (request.TargetReset b) e = let i = recorded s (request.TargetReset b) e in let a = i.0 in let c = i.1 in (omega (arith, a), omega (arith, c))
  placed g x s q (request.Leave handle) e = let i = recorded s (request.Leave handle) e in let a = i.0 in omega (arith, a)
  placed g x s q (request.Page handle) e = let i = recorded s (request.Page handle) e in let a = i.0 in omega (arith, a)
  placed g x s q (request.Remove handle) e = let i = recorded s (request.Remove handle) e in let a = i.0 in omega (arith, a)
  placed g x s q (request.Ack ev context) e = let i = recorded s (request.Ack ev context) e in let a = i.0 in omega (arith, a)
  placed g x s q request.Notification e = let i = recorded s request.Notification e in let a = i.0 in omega (arith, a)
  placed g x s q request.PortEnable e = let i = recorded s request.PortEnable e in let a = i.0 in omega (arith, a)

  -- a reply
  replied : (queue d : ℕ) (f : Option (List ℕ)) (page sense : List ℕ) (y : Slot Request) → slot w.host (smid_in d) ≡ y
      → Tallies (state_ahead seen_next (seen h) (taking queue (upward.Reply d f page sense) ∷ (replies.hears_reply_to (replies.takes_entry (replies.with_frame_heard w.host d f) queue) (smid_in d) (record_of y) (replies.heard_of d f page sense)).entries) []).machine
      (replies.hears_reply_to (replies.takes_entry (replies.with_frame_heard w.host d f) queue) (smid_in d) (record_of y) (replies.heard_of d f page sense)).part
  replied queue d f page sense y e =
      then_told queue (upward.Reply d f page sense) (replies.hears_reply_to x (smid_in d) (record_of y) (replies.heard_of d f page sense)) (λ g q s. by_slot y e g q (tallies_alike g.machine w.host x (entry_taken w.host queue d f) s))
    where
      x : Host
      x = replies.takes_entry (replies.with_frame_heard w.host d f) queue

      pool_is : (f : Option (List ℕ)) → (replies.takes_entry (replies.with_frame_heard w.host d f) queue).pool ≡ w.host.pool
      pool_is None = refl
      pool_is (Some b) = by_returning w.host.returning
        where
          by_returning : (c : Bool) → (if c then Rattle.mpt_rules.specs.Host.Returns.with_return w.host (Rattle.mpt_rules.specs.Host.Returns.frame_of (Rattle.mpt_wire.specs.Messages.Fields.frame_address_in d)) else Rattle.mpt_rules.specs.Host.Returns.keeps w.host (Rattle.mpt_rules.specs.Host.Returns.frame_of (Rattle.mpt_wire.specs.Messages.Fields.frame_address_in d))).pool ≡ w.host.pool
          by_returning true = refl
          by_returning false = refl

      by_slot : (y : Slot Request) → slot w.host (smid_in d) ≡ y → (g : Seen) → g.machine.requests ≡ h.machine.requests → Tallies g.machine (replies.takes_entry (replies.with_frame_heard w.host d f) queue) → Behind g (replies.hears_reply_to (replies.takes_entry (replies.with_frame_heard w.host d f) queue) (smid_in d) (record_of y) (replies.heard_of d f page sense))
      by_slot Free e g q s = none_asked g (replies.takes_entry (replies.with_frame_heard w.host d f) queue) (smid_in d) (replies.heard_of d f page sense) s
      by_slot Parked e g q s = none_asked g (replies.takes_entry (replies.with_frame_heard w.host d f) queue) (smid_in d) (replies.heard_of d f page sense) s
      by_slot (Open r) e g q s =
          let x = replies.takes_entry (replies.with_frame_heard w.host d f) queue in
          let p = pool_is f in
          let i = inside w.host.pool (smid_in d) r facts.flights.sizes.pool e in
          let n = facts.flights.sizes.pool in
          let len : length x.pool ≡ 280 = ap length p ∙ n in
          let a = i.0 in let b = i.1 in
          answer g x (smid_in d) (omega (arith, a, b, len)) s r (replies.heard_of d f page sense) (ap (λ p. slot_of p (smid_in d)) p ∙ e) (placed g x (smid_in d) q r e)

  host_takes : (queue : ℕ) (i : Up) (rest : List Up) → up_on w queue ≡ i ∷ rest → Tallies (state_ahead seen_next (seen h) (taking queue i ∷ (hears_up w.host queue i).entries) []).machine (hears_up w.host queue i).part
  host_takes queue (upward.Value v) rest e = ended queue (upward.Value v) (hears_up w.host queue (upward.Value v)) (value_ends w.host v) (value_passes w h facts queue v)
  host_takes queue (upward.Mark generation) rest e = ended queue (upward.Mark generation) (hears_up w.host queue (upward.Mark generation)) (mark_ends w.host queue) (mark_passes w h facts queue generation)
  host_takes queue upward.Calm rest e = quiet w.host (taking queue upward.Calm ∷ []) (tt, tt) (alike w.host w.host refl refl)
  host_takes queue (upward.Reply d f page sense) rest e = replied queue d f page sense (slot w.host (smid_in d)) refl

  -- ---- inputs

  with_mode : (m : HostState) (x : Host) → Alike (record w.host { mode = m }) x → Counts m h.machine.requests h.machine.all_resets x.mode x.pool
  with_mode m x l = let g = agrees in record { modes = sym l.modes; opens = g.opens ∙ sym l.opens; targets = g.targets ∙ sym l.targets }

  starts : (m : HostState) → Behind (seen h) (by_option input.Start refused.Start (inputs.starts_in w.host m))
  starts state.Off = let y : Host = record w.host { mode = state.Starting } in with_mode state.Starting (Rattle.mpt_rules.specs.Host.Values.looks_to_start y) (begun y stage.Start look_at_doorbell)
  starts state.Starting = agrees
  starts state.Up = agrees
  starts state.Resetting = agrees

  diag : (m : HostState) → Behind (seen h) (by_option input.Reset refused.Reset (inputs.diag_resets_in w.host m))
  diag state.Off = agrees
  diag state.Starting = with_mode state.Resetting (resets.with_reset_asked w.host stage.DiagnosticReset diagnostic_reset) (reset_asked w.host stage.DiagnosticReset diagnostic_reset)
  diag state.Up = with_mode state.Resetting (resets.with_reset_asked w.host stage.DiagnosticReset diagnostic_reset) (reset_asked w.host stage.DiagnosticReset diagnostic_reset)
  diag state.Resetting = agrees

  unit : (m : HostState) → Behind (seen h) (by_option input.UnitReset refused.UnitReset (inputs.unit_resets_in w.host m))
  unit state.Off = agrees
  unit state.Starting = agrees
  unit state.Up = with_mode state.Resetting (resets.with_reset_asked w.host stage.UnitReset unit_reset) (reset_asked w.host stage.UnitReset unit_reset)
  unit state.Resetting = agrees

  -- a number that wasn't accepted isn't open
  not_open : (n : ℕ) → finset.contains w.host.accepted n ≡ false → is_some (finmap.get h.machine.requests n) ≡ false
  not_open n e = (facts.disks.numbers n).requests ∙ by_cmd (is_some (finmap.get w.host.cmds n)) refl
    where
      by_cmd : (b : Bool) → is_some (finmap.get w.host.cmds n) ≡ b → b ≡ false
      by_cmd false t = refl
      by_cmd true t = let z : true ≡ false = sym ((facts.disks.numbers n).accepted t) ∙ e in absurd (cc)

  accepts : (n a handle s : ℕ) (command : Command) (o : Option ℕ) → is_some o ≡ true → finset.contains w.host.accepted n ≡ false → 1 ≤ s → s ≤ 256 → slot_of w.host.pool s ≡ Free → Tallies (accepted h.machine n a command o) (inputs.with_accepted w.host n a command handle s)
  accepts n a handle s command None e u l m f = absurd (cc)
  accepts n a handle s command (Some plug) e u l m f =
      let g = agrees in
      let k = facts.flights.sizes.pool in
      let y : Slot Request = Open (request.Command n) in
      let c = moved_inside is_open 0 256 w.host.pool s y l (omega arith) (omega (arith, l, m)) (omega (arith, l, m, k)) in
      let d = ap (λ q. one_if (is_open q)) f in
      let q = g.opens in
      let r = finmap.len-insert nat_cmp_total h.machine.requests n (record { address = a; plug = plug; command = command }) ∙ ap (λ b. cond b (finmap.len h.machine.requests) (finmap.len h.machine.requests + 1)) (not_open n u) in
      record { modes = g.modes; opens = omega (arith, c, d, q, r); targets = g.targets ∙ sym (kept_outside is_target 256 8 w.host.pool s y (inl (omega (arith, l, m)))) }

  granted : (x : Host) (n a : ℕ) (command : Command) (b d : Bool) → b ≡ true → d ≡ true → Tallies (accepted h.machine n a command (h.machine.ready a)) x → Tallies (after_all (after_all h.machine (if b then [] else Fails ∷ [])) (step_if (if b && d then Some (calls.Submit n a command) else None) Grants ∷ [])) x
  granted x n a command true true s t g = g
  granted x n a command true false s t g = absurd (cc)
  granted x n a command false d s t g = absurd (cc)

  both : (b c : Bool) → (b && c) ≡ true → b ≡ true
  both true c t = refl
  both false c t = absurd (cc)

  submits : (n a : ℕ) (form : CommandForm) (used up : Bool) (handle : Option ℕ) (fit : Bool) (least : Option ℕ) → finset.contains w.host.accepted n ≡ used → is_up w.host.mode ≡ up → ready_handle w.host.phases a ≡ handle → ((s : ℕ) → least ≡ Some s → IsLeast class.ScsiIo w.host.pool s)
      → Behind (seen h) (by_result (input.Submit n a form) (entry.RefuseSubmit n) (submits_by w.host n a (command_named form) used up handle fit least))
  submits n a form true up handle fit least u v r f = quiet w.host (entry.Given (input.Submit n a form) ∷ entry.RefuseSubmit n _ ∷ []) (tt, (tt, tt)) (alike w.host w.host refl refl)
  submits n a form false false handle fit least u v r f = quiet w.host (entry.Given (input.Submit n a form) ∷ entry.RefuseSubmit n _ ∷ []) (tt, (tt, tt)) (alike w.host w.host refl refl)
  submits n a form false true None fit least u v r f = quiet w.host (entry.Given (input.Submit n a form) ∷ entry.RefuseSubmit n _ ∷ []) (tt, (tt, tt)) (alike w.host w.host refl refl)
  submits n a form false true (Some x) false least u v r f = quiet w.host (entry.Given (input.Submit n a form) ∷ entry.RefuseSubmit n _ ∷ []) (tt, (tt, tt)) (alike w.host w.host refl refl)
  submits n a form false true (Some x) true None u v r f = quiet w.host (entry.Given (input.Submit n a form) ∷ entry.RefuseSubmit n _ ∷ []) (tt, (tt, tt)) (alike w.host w.host refl refl)
  submits n a form false true (Some x) true (Some s) u v r f =
      let l = f s refl in
      let i = l.inside in
      let d = Rattle.law_machine.proofs.Causes.device w h facts a v ∙ ap is_some r in
      granted (inputs.with_accepted w.host n a (command_named form) x s) n a (command_named form) (n == n) (a == a) (same n) (same a)
      (accepts n a x s (command_named form) (h.machine.ready a) (both (is_some (h.machine.ready a)) (is_some (h.machine.disks a)) d) u (omega (arith, i)) (omega (arith, i)) l.free)

  aborts : (n : ℕ) (up : Bool) (c : Option Cmd) (there least : Option ℕ) → ((s : ℕ) → least ≡ Some s → IsLeast class.High w.host.pool s)
      → Behind (seen h) (by_result (input.Abort n) (entry.Refuse (refused.Abort n)) (aborts_by w.host n up c there least))
  aborts n false c there least f = quiet w.host (entry.Given (input.Abort n) ∷ entry.Refuse (refused.Abort n) refusal.NotOperational ∷ []) (tt, (tt, tt)) (alike w.host w.host refl refl)
  aborts n true None there least f = quiet w.host (entry.Given (input.Abort n) ∷ entry.Refuse (refused.Abort n) refusal.NotOpen ∷ []) (tt, (tt, tt)) (alike w.host w.host refl refl)
  aborts n true (Some c) (Some x) least f = quiet w.host (entry.Given (input.Abort n) ∷ entry.Refuse (refused.Abort n) refusal.AbortOpen ∷ []) (tt, (tt, tt)) (alike w.host w.host refl refl)
  aborts n true (Some c) None None f = quiet w.host (entry.Given (input.Abort n) ∷ entry.Refuse (refused.Abort n) refusal.NoIdentifier ∷ []) (tt, (tt, tt)) (alike w.host w.host refl refl)
  aborts n true (Some c) None (Some s) f =
      let l = f s refl in
      let i = l.inside in
      let p = write w.host s (Open (request.Abort n c.smid)) (omega (arith, i)) (ap is_target l.free) refl in
      quiet (inputs.with_abort_asked w.host n c s) (entry.Given (input.Abort n) ∷ []) (tt, tt) (record { modes = p.modes; opens = p.opens; targets = p.targets })

  refused_target : (a : ℕ) (c : Refusal) (b : Bool) → b ≡ true → Tallies (after_all (after_all h.machine (if b then [] else Grants (calls.TargetReset a) ∷ [])) (Refuses (calls.TargetReset a) c ∷ [])) w.host
  refused_target a c true t = agrees
  refused_target a c false t = absurd (cc)

  targets : (a : ℕ) (up : Bool) (handle least : Option ℕ) → ((s : ℕ) → least ≡ Some s → IsLeast class.High w.host.pool s)
      → Behind (seen h) (by_result (input.TargetReset a) (entry.Refuse (refused.TargetReset a)) (resets_target_by w.host a up handle least))
  targets a false handle least f = refused_target a refusal.NotOperational (a == a) (same a)
  targets a true None least f = refused_target a refusal.NoDevice (a == a) (same a)
  targets a true (Some x) None f = refused_target a refusal.NoIdentifier (a == a) (same a)
  targets a true (Some x) (Some s) f =
      let l = f s refl in
      let i = l.inside in
      let n = facts.flights.sizes.pool in
      let g = agrees in
      let y : Slot Request = Open (request.TargetReset a) in
      let c = moved_inside is_target 256 8 w.host.pool s y (omega (arith, i)) (omega (arith, i)) (omega (arith, i)) (omega (arith, i, n)) in
      let d = ap (λ q. one_if (is_target q)) l.free in
      let q = g.targets in
      record { modes = g.modes; opens = g.opens ∙ sym (kept_outside is_open 0 256 w.host.pool s y (inr (omega (arith, i)))); targets = omega (arith, c, d, q) }

  host_told_kept : (i : Input) → IsHosts i → Behind (seen h) (host_told w.host i)
  host_told_kept input.Start k = starts w.host.mode
  host_told_kept (input.Submit n a form) k =
      submits n a form (finset.contains w.host.accepted n) (is_up w.host.mode) (ready_handle w.host.phases a) (fits (command_named form)) (least_free class.ScsiIo w.host.pool) refl refl refl (λ s e. least_is class.ScsiIo w.host.pool s e)
  host_told_kept (input.Abort n) k =
      aborts n (is_up w.host.mode) (finmap.get w.host.cmds n) (finmap.get w.host.aborts n) (least_free class.High w.host.pool) (λ s e. least_is class.High w.host.pool s e)
  host_told_kept (input.TargetReset a) k = targets a (is_up w.host.mode) (ready_handle w.host.phases a) (least_free class.High w.host.pool) (λ s e. least_is class.High w.host.pool s e)
  host_told_kept input.Reset k = diag w.host.mode
  host_told_kept input.UnitReset k = unit w.host.mode
  host_told_kept (input.Plug a e p) k = absurd k
  host_told_kept (input.Unplug a) k = absurd k

  -- ---- every case

  itself : Alike w.host w.host
  itself = alike w.host w.host refl refl

  owed : OwesTold P w
  owed =
      record {
        idles = λ c. quiet w.host (entry.Idle c ∷ []) (tt, tt) itself;
        host_puts = λ x rest e. quiet (after_sent w.host x rest) (entry.Put lane.Down (item.Down x) ∷ []) (tt, tt) (sent_same w.host x rest);
        host_takes = λ queue x rest e s. host_takes queue x rest e;
        host_told = λ i k. host_told_kept i k;
        host_looks = λ e. quiet (inputs.looks w.host) [] tt (begun w.host stage.Look look_at_doorbell);
        host_stops = λ e. quiet (inputs.stops w.host) [] tt (alike w.host (inputs.stops w.host) refl refl);
        no_session = agrees;
        ioc_takes = λ x rest e. quiet w.host (entry.Take lane.Down (item.Down x) ∷ (Rattle.mpt_rules.specs.Ioc.Takes.takes_down w.ioc x).entries) (tt, silents_calm (Rattle.mpt_rules.specs.Ioc.Takes.takes_down w.ioc x).entries (told_down w.ioc x)) itself;
        ioc_high = λ p rest e. let i = record w.ioc { high = rest } in quiet w.host (Rattle.mpt_rules.specs.Ioc.Steps.works_on i p).entries (words_calm (Rattle.mpt_rules.specs.Ioc.Steps.works_on i p).entries (works_words i p)) itself;
        ioc_normal = λ p rest e. let i = record w.ioc { normal = rest } in quiet w.host (Rattle.mpt_rules.specs.Ioc.Steps.works_on i p).entries (words_calm (Rattle.mpt_rules.specs.Ioc.Steps.works_on i p).entries (works_words i p)) itself;
        ioc_puts_out = λ x rest e. quiet w.host (entry.Put lane.Out (item.Out x) ∷ []) (tt, tt) itself;
        ioc_takes_back = λ x rest e. quiet w.host (entry.Take lane.Back (item.Back x) ∷ (Rattle.mpt_rules.specs.Ioc.Takes.takes_back w.ioc x).entries) (tt, silents_calm (Rattle.mpt_rules.specs.Ioc.Takes.takes_back w.ioc x).entries (told_back w.ioc x)) itself;
        ioc_puts = λ queue y rest z e f. quiet w.host (entry.Put (up_lane queue) (item.Up z) ∷ []) (tt, tt) itself;
        fabric_takes = λ x rest e. quiet w.host (entry.Take lane.Out (item.Out x) ∷ []) (tt, tt) itself;
        fabric_says = λ x rest e. agrees;
        fabric_puts = λ x rest e. quiet w.host (entry.Put lane.Back (item.Back x) ∷ []) (tt, tt) itself;
        fabric_runs = λ tag address e. quiet w.host (entry.Run address tag ∷ []) (tt, tt) itself;
        plugs = λ address expander phy t e. quiet w.host t (plugs_calm t e) itself;
        unplugs = λ address t e. quiet w.host t (plugs_calm t e) itself;
        calms = agrees;
      }

pub tallies_kept : (w : World) (h : History) → Facts w h → NothingIsStrange w → (c : Case) → SameTallies (happens w c) (history_after h (entries w c))
tallies_kept w h f plain c = let t = kept_told (P w h f) w plain (owed w h f) c in record { mode = t.modes; requests = t.opens; resets = t.targets }
