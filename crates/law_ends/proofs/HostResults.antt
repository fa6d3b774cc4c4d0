-- Each result that a host tells is of a reply that its move brings.
use Rattle.std.proofs.Common.{◌≡◌, ℕ, suc, ◌+◌, ◌<◌, ◌==◌, ◌⊎◌, inl, inr, Bool, true, false, ◌||◌, ◌&&◌, if◌then◌else◌, List, [], ◌∷◌, ◌++◌, length, map, take, filter_map, slice_set, Option, Some, None, refl, ap, sym, subst, ◌∙◌, arith, append_assoc}
use Rattle.std.specs.Prelude.{All, Contains, nat_lt, slice_get}
use Rattle.std.specs.FinMap as finmap
use Rattle.std.proofs.lemmas.List.Elements.{All-cons, All-contains, All-nil, Contains-append_cases, Contains-append_left, Contains-append_right}
use Rattle.scsi_disk.specs.declared.scsi_result.ScsiResult.{ScsiResult}
use Rattle.mpi_doorbell.specs.HostDoor.{HostDoor}
use Rattle.mpi_doorbell.specs.declared.step.DoorStep.{DoorStep}
use Rattle.mpi_doorbell.specs.declared.step.DoorStep.TheVariants as step
use Rattle.mpt_trace.specs.declared.entry.Entry.{Entry}
use Rattle.mpt_trace.specs.declared.entry.Entry.TheVariants as entry
use Rattle.mpt_trace.specs.declared.item.Down.{Down}
use Rattle.mpt_trace.specs.declared.item.Up.{Up}
use Rattle.mpt_trace.specs.declared.item.Up.TheVariants as up
use Rattle.mpt_trace.specs.declared.outcome.Outcome.{Outcome as Ending}
use Rattle.mpt_trace.specs.declared.outcome.Outcome.TheVariants as ending
use Rattle.mpt_wire.specs.Machine.Causes.{is_resetting}
use Rattle.mpt_wire.specs.Messages.Fields.{changes_in, event_context_in, event_in, smid_in}
use Rattle.mpt_wire.specs.Walks.Passes.{EachEntry}
use Rattle.removal.specs.Handles.{phase_at}
use Rattle.smid_pool.specs.Pool.{Free, Open, Parked, Slot, record_of, slot_of}
use Rattle.mpt_rules.specs.declared.request.Request.{Request}
use Rattle.mpt_rules.specs.declared.request.Request.TheVariants as request
use Rattle.mpt_rules.specs.declared.stage.Stage.{Stage}
use Rattle.mpt_rules.specs.declared.stage.Stage.TheVariants as stage
use Rattle.mpt_rules.specs.declared.status.TheConstants.{IOC_STATUS_SCSI_DATA_UNDERRUN, IOC_STATUS_SCSI_TASK_TERMINATED, IOC_STATUS_SUCCESS}
use Rattle.mpt_rules.specs.declared.why.Why.{Why}
use Rattle.mpt_rules.specs.Host.Doorbell as door
use Rattle.mpt_rules.specs.Host.Parts.{Host, new_host}
use Rattle.mpt_rules.specs.Host.Posts as asks
use Rattle.mpt_rules.specs.Host.Removal as removal
use Rattle.mpt_rules.specs.Host.Replies as replies
use Rattle.mpt_rules.specs.Host.Replies.{Heard}
use Rattle.mpt_rules.specs.Host.Resets as resets
use Rattle.mpt_rules.specs.Host.Strange.{why_strange}
use Rattle.mpt_rules.specs.Host.Takes.{hears_up, takes_unless, takes_up}
use Rattle.mpt_rules.specs.Host.Values as values
use Rattle.mpt_rules.specs.Outcome.{Happening}
use Rattle.host_core.specs.Plays.{moved, passed_over, placed, puts_down, taken_move, talk_from}
use Rattle.host_core.specs.declared.moves.HostMove.{HostMove}
use Rattle.host_core.specs.declared.moves.HostMove.TheVariants as move
use Rattle.host_core.specs.declared.moves.HostSaid.{HostSaid}
use Rattle.host_core.specs.declared.moves.HostSaid.TheVariants as said
use Rattle.law_moves.proofs.InputWords.{IsInputWord}
use Rattle.law_parties.proofs.Tallies.{IsBy}
use Rattle.law_parties.proofs.TallyReplies.{changes_by, ready_by}
use Rattle.law_ends.proofs.Commands.{Has, after_move, all_are_free}
use Rattle.law_ends.proofs.HostAnswers.{answer_entry, input_entries, move_entries}
use Rattle.law_ends.specs.HostResults.{ResultsAreOfReplies, item_brought, result_said}

-- ---- the entries of a move

-- the result that a host tells is what a reply says that the move brings, to an identifier that is open for the command
pub record IsSaidBy (host : Host) (m : HostMove) (n : ℕ) (result : ScsiResult) : Type 0 where
  pub descriptor : ℕ
  pub frame : Option (List ℕ)
  pub payload : List ℕ
  pub sense : List ℕ
  pub brings : item_brought m ≡ Some (up.Reply descriptor frame payload sense)
  pub open_for : slot_of host.pool (smid_in descriptor) ≡ Open (request.Command n)
  pub says : result ≡ result_said frame payload sense

-- an entry that tells a result is such
abbrev pub IsBacked : Host → HostMove → Entry → Type 0
IsBacked host m (entry.Answer n (ending.Done result)) = IsSaidBy host m n result
IsBacked host m _ = Unit {0}

-- no result is told
abbrev pub IsNoResult : Entry → Type 0
IsNoResult (entry.Answer n (ending.Done result)) = ⊥
IsNoResult _ = Unit {0}

backed_without : (host : Host) (m : HostMove) (e : Entry) → IsNoResult e → IsBacked host m e
backed_without host m (entry.Answer n (ending.Done result)) h = absurd h
backed_without host m _ h = tt

all_backed : (host : Host) (m : HostMove) (es : List Entry) → EachEntry IsNoResult es → EachEntry (IsBacked host m) es
all_backed host m [] h = tt
all_backed host m (e ∷ es) h = (backed_without host m e h.0, all_backed host m es h.1)

by_no_result : (e : Entry) → IsBy e → IsNoResult e
by_no_result (entry.Answer n how) h = absurd h
by_no_result _ h = tt

no_results : (es : List Entry) → EachEntry IsBy es → EachEntry IsNoResult es
no_results [] h = tt
no_results (e ∷ es) h = (by_no_result e h.0, no_results es h.1)

append_none : (t u : List Entry) → EachEntry IsNoResult t → EachEntry IsNoResult u → EachEntry IsNoResult (t ++ u)
append_none [] u a b = b
append_none (e ∷ t) u a b = (a.0, append_none t u a.1 b)

-- ---- the end of a reset, and values

each_none : (f : ℕ → Entry) → ((n : ℕ) → IsNoResult (f n)) → (ns : List ℕ) → EachEntry IsNoResult (map f ns)
each_none f h [] = tt
each_none f h (n ∷ ns) = (h n, each_none f h ns)

targets_none : (xs : List (Slot Request)) → EachEntry IsNoResult (filter_map resets.reset_target xs)
targets_none [] = tt
targets_none (Free ∷ xs) = targets_none xs
targets_none (Parked ∷ xs) = targets_none xs
targets_none (Open (request.TargetReset address) ∷ xs) = (tt, targets_none xs)
targets_none (Open (request.Command n) ∷ xs) = targets_none xs
targets_none (Open (request.Abort n task) ∷ xs) = targets_none xs
targets_none (Open (request.Leave handle) ∷ xs) = targets_none xs
targets_none (Open (request.Page handle) ∷ xs) = targets_none xs
targets_none (Open (request.Remove handle) ∷ xs) = targets_none xs
targets_none (Open (request.Ack event context) ∷ xs) = targets_none xs
targets_none (Open request.Notification ∷ xs) = targets_none xs
targets_none (Open request.PortEnable ∷ xs) = targets_none xs

over_none : (host : Host) → EachEntry IsNoResult (resets.ends_reset_if_over host).entries
over_none host = by_end (host.door_ready && resets.has_all_marks host)
  where
    by_end : (b : Bool) → EachEntry IsNoResult (if b then resets.ends_reset host else record { part = host; entries = [] }).entries
    by_end true =
        append_none (map resets.reset_answer (finmap.keys host.cmds)) _ (each_none resets.reset_answer (λ n. tt) (finmap.keys host.cmds))
        (append_none (map resets.reset_abort (finmap.keys host.aborts)) _ (each_none resets.reset_abort (λ n. tt) (finmap.keys host.aborts))
        (append_none (filter_map resets.reset_target host.pool) (entry.ResetDone ∷ []) (targets_none host.pool) (tt, tt)))
    by_end false = tt

stage_none : (host : Host) (s : Stage) (bytes : List ℕ) → EachEntry IsNoResult (values.ends_stage host s bytes).entries
stage_none host stage.Idle bytes = tt
stage_none host stage.Start bytes = tt
stage_none host stage.StartReset bytes = tt
stage_none host stage.Facts bytes = tt
stage_none host stage.PortFacts bytes = tt
stage_none host stage.Init bytes = tt
stage_none host stage.Look bytes = tt
stage_none host stage.DiagnosticReset bytes = over_none (record host { door_ready = true })
stage_none host stage.UnitReset bytes = over_none (record host { door_ready = true })

turn_none : (host : Host) (s : Stage) (x : DoorStep) → EachEntry IsNoResult (values.after_turn host s x).entries
turn_none host s (step.Done count bytes) = stage_none host s (take count bytes)
turn_none host s (step.Read reg) = tt
turn_none host s (step.Write reg value) = tt
turn_none host s (step.Refused at value) = tt

value_none : (host : Host) (d : Option HostDoor) (value : ℕ) → EachEntry IsNoResult (values.hears_value_at host d value).entries
value_none host None value = tt
value_none host (Some d) value = turn_none (door.puts_turn host (door.next_turn d (Some value))) host.stage (door.next_turn d (Some value)).step

-- ---- replies

done_by : (status : ℕ) (r result : ScsiResult) → replies.ended_by status r ≡ ending.Done result → result ≡ r
done_by status r result e = by_tests ((status == IOC_STATUS_SUCCESS) || (status == IOC_STATUS_SCSI_DATA_UNDERRUN)) (status == IOC_STATUS_SCSI_TASK_TERMINATED) e
  where
    by_tests : (a b : Bool) → (if a then ending.Done r else if b then ending.Terminated else ending.Gone) ≡ ending.Done result → result ≡ r
    by_tests true b e = cc
    by_tests false true e = absurd (cc)
    by_tests false false e = absurd (cc)

done_of : (frame : Option (List ℕ)) (payload sense : List ℕ) (result : ScsiResult) → replies.ended frame payload sense ≡ ending.Done result → result ≡ result_said frame payload sense
done_of None payload sense result e = cc
done_of (Some frame) payload sense result e = done_by (replies.reply_status frame) (result_said (Some frame) payload sense) result e

module _ (host : Host) (m : HostMove) (d : ℕ) (f : Option (List ℕ)) (page sense : List ℕ) (brings : item_brought m ≡ Some (up.Reply d f page sense)) where
  v : Heard
  v = replies.heard_of d f page sense

  answered : (n : ℕ) (how : Ending) → replies.ended f page sense ≡ how → slot_of host.pool (smid_in d) ≡ Open (request.Command n) → IsBacked host m (entry.Answer n how)
  answered n (ending.Done result) e open_for = record { descriptor = d; frame = f; payload = page; sense = sense; brings = brings; open_for = open_for; says = done_of f page sense result e }
  answered n ending.Terminated e open_for = tt
  answered n ending.Gone e open_for = tt
  answered n ending.Reset e open_for = tt

  unless_none : (k : Host) (s : ℕ) (o : Happening Host) → EachEntry IsNoResult o.entries → EachEntry IsNoResult (replies.unless_resetting k s o).entries
  unless_none k s o h = by_mode (is_resetting k.mode)
    where
      by_mode : (b : Bool) → EachEntry IsNoResult (if b then removal.quietly (asks.frees k s) else o).entries
      by_mode true = tt
      by_mode false = h

  request_backed : (k : Host) (s : ℕ) (r : Request) → ((n : ℕ) → r ≡ request.Command n → slot_of host.pool (smid_in d) ≡ Open (request.Command n)) → EachEntry (IsBacked host m) (replies.hears_answer k s r v).entries
  unfolding v
  request_backed k s (request.Command n) h = (answered n (replies.ended f page sense) refl (h n refl), tt)
  request_backed k s (request.Abort n task) h = (tt, tt)
  request_backed k s (request.TargetReset address) h = (tt, tt)
  request_backed k s (request.Leave handle) h = all_backed host m _ (unless_none k s (removal.quietly (removal.left k s handle)) tt)
  request_backed k s (request.Page handle) h =
      all_backed host m _ (unless_none k s (removal.reads_page k s handle (replies.address_read (replies.reply_bytes v) page))
      (no_results _ (ready_by 0 (record { accepts = 0; answers = 0 }) handle s (phase_at k.phases handle) (replies.address_read (replies.reply_bytes v) page))))
  request_backed k s (request.Remove handle) h = all_backed host m _ (unless_none k s (removal.quietly (removal.removed k s handle)) tt)
  request_backed k s (request.Ack event context) h = all_backed host m _ (unless_none k s (removal.quietly (asks.frees_internal k s)) tt)
  request_backed k s request.Notification h = all_backed host m _ (unless_none k s (removal.quietly (replies.hears_notified k s)) tt)
  request_backed k s request.PortEnable h = all_backed host m _ (unless_none k s (replies.after_port_enable k s) (tt, tt))

  event_backed : (k : Host) → EachEntry (IsBacked host m) (if is_resetting k.mode then removal.quietly k else removal.hears_event k (replies.reply_bytes v)).entries
  unfolding v
  event_backed k = by_mode (is_resetting k.mode)
    where
      frame : List ℕ
      frame = replies.reply_bytes v

      by_mode : (b : Bool) → EachEntry (IsBacked host m) (if b then removal.quietly k else removal.hears_event k frame).entries
      by_mode true = tt
      by_mode false = all_backed host m _ (no_results _ (changes_by 0 (record { accepts = 0; answers = 0 }) (asks.asks_internal k (request.Ack (event_in frame) (event_context_in frame))) (changes_in frame)))

  slot_backed : (k : Host) (slot : Slot Request) → slot_of host.pool (smid_in d) ≡ slot → EachEntry (IsBacked host m) (replies.hears_reply_to k (smid_in d) (record_of slot) v).entries
  slot_backed k Free e = event_backed k
  slot_backed k Parked e = event_backed k
  slot_backed k (Open r) e = request_backed k (smid_in d) r (λ n is. e ∙ ap (λ (x : Request). Open x) is)

  pub reply_backed : (queue : ℕ) → EachEntry (IsBacked host m) (hears_up host queue (up.Reply d f page sense)).entries
  unfolding v
  reply_backed queue = slot_backed (replies.takes_entry (replies.with_frame_heard host d f) queue) (slot_of host.pool (smid_in d)) refl

-- ---- every move

taken_backed : (host : Host) (m : HostMove) (queue : ℕ) (item : Up) → item_brought m ≡ Some item → EachEntry (IsBacked host m) (hears_up host queue item).entries
taken_backed host m queue (up.Value value) e = all_backed host m _ (value_none (record host { reading = false }) host.machine value)
taken_backed host m queue (up.Reply d f page sense) e = reply_backed host m d f page sense e queue
taken_backed host m queue (up.Mark generation) e = all_backed host m _ (over_none (record host { marks = slice_set host.marks queue true }))
taken_backed host m queue up.Calm e = tt

word_no_result : (e : Entry) → IsInputWord e → IsNoResult e
word_no_result (entry.Answer n how) h = absurd h
word_no_result _ h = tt

words_no_result : (es : List Entry) → EachEntry IsInputWord es → EachEntry IsNoResult es
words_no_result [] h = tt
words_no_result (e ∷ es) h = (word_no_result e h.0, words_no_result es h.1)

take_backed : (host : Host) (m : HostMove) (queue : ℕ) (item : Up) → item_brought m ≡ Some item → EachEntry (IsBacked host m) (move_entries (taken_move (takes_up host queue item)))
take_backed host m queue item e = by_why (why_strange host queue item)
  where
    by_why : (o : Option Why) → EachEntry (IsBacked host m) (move_entries (taken_move (takes_unless host queue item o)))
    by_why None = taken_backed host m queue item e
    by_why (Some why) = tt

move_backed : (host : Host) (m : HostMove) → EachEntry (IsBacked host m) (move_entries (moved host m))
move_backed host (move.Input i) = all_backed host (move.Input i) _ (words_no_result _ (input_entries host i))
move_backed host (move.Up item) = take_backed host (move.Up item) 0 item refl
move_backed host (move.UpOn queue item) = by_queue (nat_lt queue (length host.indices))
  where
    by_queue : (b : Bool) → EachEntry (IsBacked host (move.UpOn queue item)) (move_entries (if b then taken_move (takes_up host queue item) else passed_over host))
    by_queue true = take_backed host (move.UpOn queue item) queue item refl
    by_queue false = tt
move_backed host move.PutDown = by_item (slice_get host.out 0)
  where
    by_item : (o : Option Down) → EachEntry (IsBacked host move.PutDown) (move_entries (puts_down host o))
    by_item None = tt
    by_item (Some x) = tt

-- ---- what is said at a place

abbrev SaidBacked : Host → HostMove → HostSaid → Type 0
SaidBacked host m (said.Told e) = IsBacked host m e
SaidBacked host m _ = Unit {0}

abbrev SaidAt : Host → HostMove → ℕ → ℕ × HostSaid → Type 0
SaidAt host m place x = (x.0 ≡ place) × SaidBacked host m x.1

told_at : (host : Host) (m : HostMove) (place : ℕ) (es : List Entry) → EachEntry (IsBacked host m) es → All (SaidAt host m place) (map (λ (s : HostSaid). (place, s)) (map said.Told es))
told_at host m place [] h = All-nil (SaidAt host m place)
told_at host m place (e ∷ es) h = All-cons (SaidAt host m place) (place, said.Told e) _ (refl, h.0) (told_at host m place es h.1)

said_at : (host : Host) (m : HostMove) (place : ℕ) (answer : Option HostSaid) (told : List Entry) → EachEntry (IsBacked host m) (answer_entry answer ++ told) → All (SaidAt host m place) (placed place answer told)
said_at host m place None told h = told_at host m place told h
said_at host m place (Some (said.Down item)) told h = All-cons (SaidAt host m place) (place, said.Down item) _ (refl, tt) (told_at host m place told h)
said_at host m place (Some (said.Told e)) told h = All-cons (SaidAt host m place) (place, said.Told e) _ (refl, h.0) (told_at host m place told h.1)
said_at host m place (Some (said.Strange why)) told h = All-cons (SaidAt host m place) (place, said.Strange why) _ (refl, tt) (told_at host m place told h)

-- ---- what was said before

-- the number was accepted under the identifier before a place
record WasAccepted (place : ℕ) (talk : List (ℕ × HostSaid)) (s n : ℕ) : Type 0 where
  accepted_at : ℕ
  address : ℕ
  accepted : Contains talk (accepted_at, said.Told (entry.Accept n address s))
  earlier : accepted_at < place

first_told : (place : ℕ) (answer : Option HostSaid) (e : Entry) → Contains (placed place answer (e ∷ [])) (place, said.Told e)
first_told place None e = (0, omega arith, refl)
first_told place (Some x) e = (1, omega arith, refl)

also_before : (place : ℕ) (talk more : List (ℕ × HostSaid)) (s n : ℕ) → WasAccepted place talk s n → WasAccepted (place + 1) (talk ++ more) s n
also_before place talk more s n w =
    let l = w.earlier in
    record { accepted_at = w.accepted_at; address = w.address; accepted = Contains-append_left talk more (w.accepted_at, said.Told (entry.Accept n w.address s)) w.accepted; earlier = omega (arith, l) }

here_before : (place : ℕ) (talk : List (ℕ × HostSaid)) (answer : Option HostSaid) (told : List Entry) (n address s : ℕ) → told ≡ entry.Accept n address s ∷ [] → WasAccepted (place + 1) (talk ++ placed place answer told) s n
here_before place talk answer told n address s e =
    record {
      accepted_at = place;
      address = address;
      accepted = Contains-append_right talk (placed place answer told) (place, said.Told (entry.Accept n address s))
          (subst (λ (t : List Entry). Contains (placed place answer t) (place, said.Told (entry.Accept n address s))) (sym e) (first_told place answer (entry.Accept n address s)));
      earlier = omega arith;
    }

-- ---- over a list of moves

-- the result is of a reply, the first move being at a place
record Found (place : ℕ) (moves : List HostMove) (talk : List (ℕ × HostSaid)) (p n : ℕ) (result : ScsiResult) : Type 0 where
  nth : ℕ
  at : p ≡ place + nth
  smid : ℕ
  was : WasAccepted p talk smid n
  played : HostMove
  descriptor : ℕ
  frame : Option (List ℕ)
  payload : List ℕ
  sense : List ℕ
  is_played : slice_get moves nth ≡ Some played
  brings : item_brought played ≡ Some (up.Reply descriptor frame payload sense)
  names : smid_in descriptor ≡ smid
  says : result ≡ result_said frame payload sense

found : (place : ℕ) (host : Host) (moves : List HostMove) (done : List (ℕ × HostSaid)) → Has (WasAccepted place done) host → (p n : ℕ) (result : ScsiResult)
    → Contains (talk_from place host [] moves) (p, said.Told (entry.Answer n (ending.Done result))) → Found place moves (done ++ talk_from place host [] moves) p n result
unfolding talk_from
found place host [] done h p n result c = absurd (grind (arith, c))
found place host (m ∷ moves) done h p n result c =
    let here : List (ℕ × HostSaid) = placed place (moved host m).answer (moved host m).told in
    let rest : List (ℕ × HostSaid) = talk_from (place + 1) (moved host m).part [] moves in
    let after : Has (WasAccepted (place + 1) (done ++ here)) (moved host m).part =
    after_move (WasAccepted (place + 1) (done ++ here)) host m (λ k address s e. here_before place done (moved host m).answer (moved host m).told k address s e)
    (λ s k e. also_before place done here s k (h s k e)) in
    by_side here rest (said_at host m place (moved host m).answer (moved host m).told (move_backed host m)) (λ later. found (place + 1) (moved host m).part moves (done ++ here) after p n result later)
    (Contains-append_cases here rest (p, said.Told (entry.Answer n (ending.Done result))) c)
  where
    by_side : (here rest : List (ℕ × HostSaid)) → All (SaidAt host m place) here
        → (Contains rest (p, said.Told (entry.Answer n (ending.Done result))) → Found (place + 1) moves ((done ++ here) ++ rest) p n result)
        → Contains here (p, said.Told (entry.Answer n (ending.Done result))) ⊎ Contains rest (p, said.Told (entry.Answer n (ending.Done result))) → Found place (m ∷ moves) (done ++ (here ++ rest)) p n result
    by_side here rest all ih (inl at_once) =
        let b = All-contains (SaidAt host m place) here (p, said.Told (entry.Answer n (ending.Done result))) all at_once in
        let by : IsSaidBy host m n result = b.1 in
        let w = h (smid_in by.descriptor) n by.open_for in
        let e : p ≡ place = b.0 in
        let l = w.earlier in
        record {
          nth = 0;
          at = omega (arith, e);
          smid = smid_in by.descriptor;
          was = record { accepted_at = w.accepted_at; address = w.address; accepted = Contains-append_left done (here ++ rest) (w.accepted_at, said.Told (entry.Accept n w.address (smid_in by.descriptor))) w.accepted; earlier = omega (arith, e, l) };
          played = m;
          descriptor = by.descriptor;
          frame = by.frame;
          payload = by.payload;
          sense = by.sense;
          is_played = refl;
          brings = by.brings;
          names = refl;
          says = by.says;
        }
    by_side here rest all ih (inr later) =
        let f = ih later in
        let at = f.at in
        record {
          nth = suc f.nth;
          at = omega (arith, at);
          smid = f.smid;
          was = subst (λ (t : List (ℕ × HostSaid)). WasAccepted p t f.smid n) (append_assoc done here rest) f.was;
          played = f.played;
          descriptor = f.descriptor;
          frame = f.frame;
          payload = f.payload;
          sense = f.sense;
          is_played = f.is_played;
          brings = f.brings;
          names = f.names;
          says = f.says;
        }

pub results_law : ResultsAreOfReplies
results_law q moves place n result c =
    let f = found 0 (new_host q) moves [] (all_are_free (WasAccepted 0 [])) place n result c in
    let at = f.at in
    let same : f.nth ≡ place = omega (arith, at) in
    record {
      accepted_at = f.was.accepted_at;
      address = f.was.address;
      smid = f.smid;
      accepted = f.was.accepted;
      earlier = f.was.earlier;
      played = f.played;
      descriptor = f.descriptor;
      frame = f.frame;
      payload = f.payload;
      sense = f.sense;
      is_played = subst (λ (k : ℕ). slice_get moves k ≡ Some f.played) same f.is_played;
      brings = f.brings;
      names = f.names;
      says = f.says;
    }
