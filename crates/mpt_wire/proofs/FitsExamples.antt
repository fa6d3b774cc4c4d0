-- Traces that fit a schedule and a plan, and traces that don't; a report.
use Rattle.std.proofs.Common.{◌≡◌, inl, inr, List, [], ◌∷◌, ◌++◌, Bool, true, false, Option, Some, refl, replicate, ap, subst, sym, ◌∙◌}
use Rattle.std.specs.Prelude.{codes}
use Rattle.std.specs.FinMap as finmap
use Rattle.std.specs.Fmt.{digits}
use Rattle.std.specs.Ordering.{nat_cmp}
use Rattle.hex.specs.Hex.{encode_with}
use Rattle.mpt_trace.specs.declared.choice.Choice.TheVariants as choice
use Rattle.mpt_trace.specs.declared.command_form.CommandForm.TheVariants as form
use Rattle.mpt_trace.specs.declared.host_state.HostState.TheVariants as state
use Rattle.mpt_trace.specs.declared.input.Input.{Input}
use Rattle.mpt_trace.specs.declared.input.Input.TheVariants as input
use Rattle.mpt_trace.specs.declared.lane.LaneName.{LaneName}
use Rattle.mpt_trace.specs.declared.lane.LaneName.TheVariants as lane
use Rattle.mpt_trace.specs.declared.item.Ask.TheVariants as ask
use Rattle.mpt_trace.specs.declared.item.Tell.TheVariants as tell
use Rattle.mpt_trace.specs.declared.item.Down.TheVariants as down
use Rattle.mpt_trace.specs.declared.item.Up.TheVariants as up
use Rattle.mpt_trace.specs.declared.item.Item.{Item}
use Rattle.mpt_trace.specs.declared.item.Item.TheVariants as item
use Rattle.mpt_trace.specs.declared.refusal.Refusal.TheVariants as refusal
use Rattle.mpt_trace.specs.declared.entry.Entry.{Entry}
use Rattle.mpt_trace.specs.declared.entry.Entry.TheVariants as entry
use Rattle.mpt_trace.specs.declared.summary.Summary.{Summary}
use Rattle.mpt_trace.specs.Entries.{entry_lines}
use Rattle.mpt_wire.specs.Fits.Blocks.{IsToldAs, finds_nothing, IsAsked, IsStep, Past, all_taken, no_past, past_after}
use Rattle.mpt_wire.specs.Fits.Plan.{AsksAreDone, AsksPut, HostDoesAsks, TellsPut}
use Rattle.mpt_wire.specs.Fits.Schedule.{AreBlocks, FitsSchedule, joined}
use Rattle.mpt_wire.specs.Machine.State.{OpenRequest}
use Rattle.mpt_wire.specs.Fits.Lines.{Line, Asked, Stepped, Drained, Asks, Steps}
use Rattle.mpt_wire.specs.Machine.Reports.{SummaryOf, byte_sum, report}

-- ---- schedules

abbrev puts_read : Entry
puts_read = entry.Put lane.Down (item.Down (down.Read 0x00))

abbrev takes_read : Entry
takes_read = entry.Take lane.Down (item.Down (down.Read 0x00))

abbrev puts_value : Entry
puts_value = entry.Put lane.Up (item.Up (up.Value 0x10000000))

abbrev takes_value : Entry
takes_value = entry.Take lane.Up (item.Up (up.Value 0x10000000))

-- the first look at the Doorbell, and a take that finds nothing
abbrev first_look : List Line
first_look =
    Asked input.Start ∷ Stepped choice.HostPut 1 ∷ Stepped choice.IocTake 1 ∷ Stepped choice.IocPut 1
    ∷ Stepped choice.HostTake 1 ∷ Stepped choice.HostTake 1 ∷ []

abbrev first_trace : List Entry
first_trace = entry.Given input.Start ∷ puts_read ∷ takes_read ∷ puts_value ∷ takes_value ∷ entry.Idle choice.HostTake ∷ []

first_text : entry_lines first_trace ≡ codes "in start\nput down read 0000\ntake down read 0000\nput up value 10000000\ntake up value 10000000\nidle host-take\n"
unfolding encode_with
first_text = refl

first_fits : FitsSchedule 1 first_look first_trace
first_fits = (
  [],
  (
    (entry.Given input.Start ∷ []) ∷ (puts_read ∷ []) ∷ (takes_read ∷ []) ∷ (puts_value ∷ []) ∷ (takes_value ∷ []) ∷ (entry.Idle choice.HostTake ∷ []) ∷ [],
    refl,
    ((refl, refl), (inr (refl, refl), (inr (refl, refl), (inr (tt, refl), (inr (refl, refl), (inl (refl, refl), tt)))))),
  ),
)

-- the same steps in a round of a drain, which has no idle entries
a_round_fits : FitsSchedule 1 (Asked input.Start ∷ Drained ∷ []) (entry.Given input.Start ∷ puts_read ∷ takes_read ∷ puts_value ∷ takes_value ∷ [])
a_round_fits = (
  1 ∷ [],
  (
    (entry.Given input.Start ∷ []) ∷ (puts_read ∷ []) ∷ (takes_read ∷ []) ∷ [] ∷ [] ∷ [] ∷ [] ∷ [] ∷ [] ∷ [] ∷ [] ∷ (puts_value ∷ []) ∷ (takes_value ∷ []) ∷ [],
    refl,
    (
      (refl, refl),
      (
        inr (refl, refl),
        (
          inr (refl, refl),
          (
            inl (refl, refl),
            (
              inl (refl, refl),
              (
                inl (tt, refl),
                (
                  inl (refl, refl),
                  (refl, (inl (refl, refl), (inl (refl, refl), (inl (refl, refl), (inr (tt, refl), (inr (refl, refl), tt)))))),
                ),
              ),
            ),
          ),
        ),
      ),
    ),
  ),
)

-- a body that calls a take idle where an item waits
abbrev idle_trace : List Entry
idle_trace = entry.Given input.Start ∷ puts_read ∷ entry.Idle choice.IocTake ∷ []

abbrev after_one : List Entry → Past
after_one b1 = past_after no_past (Asks input.Start) b1

abbrev after_two : List Entry → List Entry → Past
after_two b1 b2 = past_after (after_one b1) (Steps choice.HostPut) b2

true_isnt : false ≡ true → ⊥
true_isnt e = absurd (cc)

take_idle : (x : Entry) (l : LaneName) (i : Item) (b3 : List Entry) → idle_trace ≡ x ∷ entry.Put l i ∷ (b3 ++ []) → IsStep (after_two (x ∷ []) (entry.Put l i ∷ [])) choice.IocTake (entry.Idle choice.IocTake ∷ []) b3 → ⊥
take_idle x l i b3 e (inl a) =
    let first : x ≡ entry.Given input.Start = cc in
    let second : entry.Put l i ≡ puts_read = cc in
    let told : all_taken lane.Down (entry.Given input.Start ∷ puts_read ∷ []) ≡ true = ap (λ (ys : List Entry). all_taken lane.Down ys) (λ j. sym first j ∷ sym second j ∷ []) ∙ a.0
    in true_isnt told
take_idle x l i (entry.Take m k ∷ told) e (inr a) = absurd (cc)
take_idle x l i b3 e (inr a) = true_isnt a.1

put_done : (x : Entry) (b2 b3 : List Entry) → idle_trace ≡ x ∷ (b2 ++ (b3 ++ [])) → IsStep (after_one (x ∷ [])) choice.HostPut (entry.Idle choice.HostPut ∷ []) b2 → IsStep (after_two (x ∷ []) b2) choice.IocTake (entry.Idle choice.IocTake ∷ []) b3 → ⊥
put_done x b2 b3 e (inl a) c = let f : idle_trace ≡ x ∷ entry.Idle choice.HostPut ∷ (b3 ++ []) = e ∙ ap (λ b. x ∷ (b ++ (b3 ++ []))) a.1 in absurd (cc)
put_done x (entry.Put l i ∷ []) b3 e (inr a) c = take_idle x l i b3 e c
put_done x b2 b3 e (inr a) c = true_isnt a.1

asked : (b1 b2 b3 : List Entry) → idle_trace ≡ b1 ++ (b2 ++ (b3 ++ [])) → IsAsked input.Start b1 → IsStep (after_one b1) choice.HostPut (entry.Idle choice.HostPut ∷ []) b2 → IsStep (after_two b1 b2) choice.IocTake (entry.Idle choice.IocTake ∷ []) b3 → ⊥
asked [] b2 b3 e a b c = a
asked (x ∷ []) b2 b3 e a b c = put_done x b2 b3 e b c
asked (x ∷ entry.Refuse call cause ∷ []) b2 b3 e a b c = absurd (cc)
asked (x ∷ y ∷ rest) b2 b3 e a b c = true_isnt a.1

idle_does_not_fit : FitsSchedule 1 (Asked input.Start ∷ Stepped choice.HostPut 1 ∷ Stepped choice.IocTake 1 ∷ []) idle_trace → ⊥
idle_does_not_fit p = by_blocks p.1.0 p.1.1 p.1.2
  where
    by_blocks : (blocks : List (List Entry)) → idle_trace ≡ joined blocks → AreBlocks no_past (Asks input.Start ∷ Steps choice.HostPut ∷ Steps choice.IocTake ∷ []) blocks → ⊥
    by_blocks [] e a = a
    by_blocks (b1 ∷ []) e a = a.1
    by_blocks (b1 ∷ b2 ∷ []) e a = a.1.1
    by_blocks (b1 ∷ b2 ∷ b3 ∷ []) e a = asked b1 b2 b3 e a.0 a.1.0 a.1.1.0
    by_blocks (b1 ∷ b2 ∷ b3 ∷ b4 ∷ rest) e a = a.1.1.1

-- a body that answers every choice by idle: the host has its first read to put
idle_put : (x : Entry) → x ≡ entry.Given input.Start → finds_nothing (after_one (x ∷ [])) choice.HostPut ≡ Some false
idle_put x e = ap (λ (y : Entry). finds_nothing (after_one (y ∷ [])) choice.HostPut) e

all_idle : List Entry
all_idle = entry.Given input.Start ∷ entry.Idle choice.HostPut ∷ []

all_idle_does_not_fit : FitsSchedule 1 (Asked input.Start ∷ Stepped choice.HostPut 1 ∷ []) all_idle → ⊥
unfolding all_idle
all_idle_does_not_fit p = by_blocks p.1.0 p.1.1 p.1.2
  where
    by_step : (x : Entry) (b2 : List Entry) → all_idle ≡ x ∷ (b2 ++ []) → IsStep (after_one (x ∷ [])) choice.HostPut (entry.Idle choice.HostPut ∷ []) b2 → ⊥
    by_step x b2 e (inl a) = true_isnt (subst (λ (o : Option Bool). IsToldAs o true) (idle_put x (cc)) a.0)
    by_step x (entry.Put l i ∷ []) e (inr a) = absurd (cc)
    by_step x b2 e (inr a) = true_isnt a.1

    by_blocks : (blocks : List (List Entry)) → all_idle ≡ joined blocks → AreBlocks no_past (Asks input.Start ∷ Steps choice.HostPut ∷ []) blocks → ⊥
    by_blocks [] e a = a
    by_blocks (b1 ∷ []) e a = a.1
    by_blocks (b1 ∷ b2 ∷ b3 ∷ rest) e a = a.1.1
    by_blocks ([] ∷ b2 ∷ []) e a = a.0
    by_blocks ((x ∷ []) ∷ b2 ∷ []) e a = by_step x b2 e a.1.0
    by_blocks ((x ∷ entry.Refuse call cause ∷ []) ∷ b2 ∷ []) e a = absurd (cc)
    by_blocks ((x ∷ y ∷ rest) ∷ b2 ∷ []) e a = true_isnt a.0.1

-- an input that is taken without being told what became of it
submit_untold : FitsSchedule 1 (Asked (input.Submit 1 5 form.Tur) ∷ []) (entry.Given (input.Submit 1 5 form.Tur) ∷ []) → ⊥
submit_untold p = by_blocks p.1.0 p.1.1 p.1.2
  where
    by_blocks : (blocks : List (List Entry)) → entry.Given (input.Submit 1 5 form.Tur) ∷ [] ≡ joined blocks → AreBlocks no_past (Asks (input.Submit 1 5 form.Tur) ∷ []) blocks → ⊥
    by_blocks [] e a = a
    by_blocks (b1 ∷ b2 ∷ rest) e a = a.1
    by_blocks ([] ∷ []) e a = a.0
    by_blocks ((x ∷ []) ∷ []) e a = true_isnt a.0.1
    by_blocks ((x ∷ y ∷ rest) ∷ []) e a = absurd (cc)

-- ---- plans

abbrev line_0 : Input
line_0 = input.Submit 1 5 form.Tur

-- a submitter with one line, which the host refuses
abbrev session_trace : List Entry
session_trace =
    entry.Given input.Start
    ∷ entry.Put (lane.Ask 0) (item.Ask (ask.Line line_0)) ∷ entry.Take (lane.Ask 0) (item.Ask (ask.Line line_0))
    ∷ entry.Put (lane.Ask 0) (item.Ask ask.Bye)
    ∷ entry.Given line_0 ∷ entry.RefuseSubmit 1 refusal.NotOperational
    ∷ entry.Put (lane.Tell 0) (item.Tell (tell.RefuseSubmit 1 refusal.NotOperational))
    ∷ entry.Take (lane.Tell 0) (item.Tell (tell.RefuseSubmit 1 refusal.NotOperational))
    ∷ entry.Take (lane.Ask 0) (item.Ask ask.Bye) ∷ []

session_asks : AsksPut 0 ((line_0 ∷ []) ∷ []) session_trace
session_asks = (refl, tt)

session_inputs : HostDoesAsks session_trace
session_inputs = refl

session_next : AsksAreDone session_trace
session_next = (tt, (tt, (refl, (tt, (tt, (tt, (tt, (tt, (tt, tt)))))))))

session_tells : TellsPut 0 ((line_0 ∷ []) ∷ []) session_trace
session_tells = (refl, tt)

-- a line that the host takes and doesn't do next
undone : AsksAreDone (entry.Take (lane.Ask 0) (item.Ask (ask.Line line_0)) ∷ entry.Given input.Reset ∷ []) → ⊥
undone p = let e : Some (entry.Given input.Reset) ≡ Some (entry.Given line_0) = p.0 in absurd (cc)

-- ---- reports

-- a block of bytes 0x11
a_block : byte_sum (replicate 512 0x11) ≡ 2232576
a_block = refl

abbrev empty_summary : Summary
empty_summary =
    record { disks = []; done = 0; gone = 0; terminated = 0; reset = 0; refused = 0; unanswered = 0; reading = 0; ready = 0; waiting = 0; resetting = 0; removing = 0; state = state.Off; quiet = true }

empty_report : report [] empty_summary ≡ codes "answers done 0 gone 0 terminated 0 reset 0 refused 0 open 0\nphases reading 0 ready 0 waiting 0 resetting 0 removing 0\nstate off quiet yes\n"
unfolding digits
empty_report = refl

empty_is_right : SummaryOf [] [] empty_summary
empty_is_right = record { disks = refl; done = refl; gone = refl; terminated = refl; reset = refl; refused = refl; unanswered = sym (finmap.len-empty nat_cmp OpenRequest); ready = refl; state = refl }
