-- The block of a turn: the entries that an input or a step of a choice makes, judged by the model of what is queued
-- (`Queued`) and by the entries alone.
use Rattle.std.specs.Prelude.{◌≡◌, ℕ, ◌⊎◌, ◌==◌, ◌&&◌, ◌||◌, not, nat_lt, Bool, true, false, if◌then◌else◌, List, [], ◌∷◌, ◌++◌, filter_map, length, Option, Some, None, MatchOption}
use Rattle.std.specs.List.{list_all, list_any}
use Rattle.mpt_trace.specs.declared.input.Input.{Input}
use Rattle.mpt_trace.specs.declared.input.Input.TheVariants as input
use Rattle.mpt_trace.specs.declared.choice.Choice.{Choice}
use Rattle.mpt_trace.specs.declared.choice.Choice.TheVariants as choice
use Rattle.mpt_trace.specs.declared.lane.LaneName.{LaneName}
use Rattle.mpt_trace.specs.declared.lane.LaneName.TheVariants as lane
use Rattle.mpt_trace.specs.declared.entry.Entry.{Entry}
use Rattle.mpt_trace.specs.declared.entry.Entry.TheVariants as entry
use Rattle.mpt_wire.specs.Machine.Calls.{call_of, is_of_call}
use Rattle.mpt_wire.specs.Queues.Lanes.{put_on_lane, same_lane, taken_from}
use Rattle.mpt_wire.specs.Fits.Lines.{Chooses, RunsOldest, LineTurn, Asks, Steps, Tries}
use Rattle.mpt_wire.specs.Fits.Queued.{Queued, QueuedTask, announced, has_queued_tag, high_processed, input_granted, normal_processed, nothing_queued, queued_after}

-- the entries of the blocks so far, and what is queued after them
pub record Past : Type 0 where
  pub entries : List Entry
  pub queued : Queued

abbrev pub no_past : Past
no_past = record { entries = []; queued = nothing_queued }

-- ---- when a choice finds nothing

-- all that was put on the lane was taken
abbrev pub all_taken : LaneName → List Entry → Bool
all_taken lane t = length (filter_map (put_on_lane lane) t) == length (filter_map (taken_from lane) t)

abbrev pub is_empty : {X : Type 0} → List X → Bool
is_empty [] = true
is_empty (x ∷ xs) = false

-- the host has its first read to put, or the post of an accepted command
abbrev pub has_to_put : Queued → Bool
has_to_put g = g.starts || nat_lt 0 g.unposted

-- whether the choice finds nothing, where the entries and lines so far tell it. They tell it of a take, of a step of
-- the controller's queues and of each step of the fabric; of the host's puts they tell where it has something to put
abbrev pub finds_nothing : Past → Choice → Option Bool
finds_nothing past choice.HostTake = Some (all_taken lane.Up past.entries)
finds_nothing past (choice.HostTakeOn queue) = Some (all_taken (lane.UpOn queue) past.entries)
finds_nothing past choice.IocTake = Some (all_taken lane.Down past.entries)
finds_nothing past choice.IocBack = Some (all_taken lane.Back past.entries)
finds_nothing past choice.FabricTake = Some (all_taken lane.Out past.entries)
finds_nothing past choice.IocHigh = Some (is_empty past.queued.high)
finds_nothing past choice.IocNormal = Some (is_empty past.queued.normal)
finds_nothing past choice.FabricSay = Some (past.queued.notices == 0)
finds_nothing past choice.FabricPut = Some (past.queued.to_put == 0)
finds_nothing past (choice.FabricRun tag) = Some (not (list_any (has_queued_tag tag) past.queued.tasks))
finds_nothing past choice.HostPut = if has_to_put past.queued then Some false else None
finds_nothing past _ = None

-- where it is told, it is this
abbrev pub IsToldAs : Option Bool → Bool → Type 0
IsToldAs told b = MatchOption told (Unit {0}) (λ known. known ≡ b)

-- ---- what a choice does where it finds something

-- what the host tells of what it took
abbrev pub is_told_by_host : Entry → Bool
is_told_by_host entry.HostUp = true
is_told_by_host (entry.Ready address handle) = true
is_told_by_host (entry.Lost address handle) = true
is_told_by_host (entry.Answer n outcome) = true
is_told_by_host (entry.AbortEnd n outcome) = true
is_told_by_host (entry.TargetEnd address outcome) = true
is_told_by_host entry.ResetDone = true
is_told_by_host _ = false

abbrev pub is_bind : Entry → Bool
is_bind (entry.Bind handle address plug) = true
is_bind (entry.Unbind handle) = true
is_bind _ = false

abbrev pub is_binding : Entry → Bool
is_binding entry.UnbindAll = true
is_binding e = is_bind e

-- nothing is told after it
abbrev pub is_nothing : Entry → Bool
is_nothing e = false

-- one put on the lane
abbrev pub is_one_put : LaneName → List Entry → Bool
is_one_put lane (entry.Put l item ∷ []) = same_lane l lane
is_one_put lane _ = false

-- one take of the lane, then entries that pass the test
abbrev pub is_one_take : LaneName → (Entry → Bool) → List Entry → Bool
is_one_take lane test (entry.Take l item ∷ told) = same_lane l lane && list_all test told
is_one_take lane test _ = false

abbrev pub is_one_run : ℕ → List Entry → Bool
is_one_run tag (entry.Run address t ∷ []) = t == tag
is_one_run tag _ = false

abbrev pub is_block_of : Choice → List Entry → Bool
is_block_of choice.HostPut block = is_one_put lane.Down block
is_block_of choice.IocOut block = is_one_put lane.Out block
is_block_of choice.FabricPut block = is_one_put lane.Back block
is_block_of choice.IocPut block = is_one_put lane.Up block
is_block_of (choice.IocPutOn queue) block = is_one_put (lane.UpOn queue) block
is_block_of choice.IocTake block = is_one_take lane.Down is_binding block
is_block_of choice.IocBack block = is_one_take lane.Back is_binding block
is_block_of choice.IocHigh block = list_all is_bind block
is_block_of choice.IocNormal block = list_all is_bind block
is_block_of choice.FabricTake block = is_one_take lane.Out is_nothing block
is_block_of choice.FabricSay block = is_empty block
is_block_of (choice.FabricRun tag) block = is_one_run tag block
is_block_of choice.HostTake block = is_one_take lane.Up is_told_by_host block
is_block_of (choice.HostTakeOn queue) block = is_one_take (lane.UpOn queue) is_told_by_host block

-- ---- the block of an input

-- what is told of an input: a submission is accepted or refused; any other input is refused, or nothing is told
abbrev pub is_told : Input → List Entry → Bool
is_told (input.Submit n address form) (entry.Accept k a smid ∷ []) = k == n && a == address
is_told (input.Submit n address form) (entry.RefuseSubmit k cause ∷ []) = k == n
is_told (input.Submit n address form) told = false
is_told given [] = true
is_told given (entry.Refuse call cause ∷ []) = is_of_call (call_of given) call
is_told given told = false

abbrev pub IsAsked : Input → List Entry → Type 0
IsAsked given [] = ⊥
IsAsked given (e ∷ told) = (e ≡ entry.Given given) × (is_told given told ≡ true)

-- ---- blocks

-- the choice finds nothing, and the block says so by these entries; or it finds something, and does it
abbrev pub IsStep : Past → Choice → List Entry → List Entry → Type 0
IsStep past chosen idle block =
    (IsToldAs (finds_nothing past chosen) true × (block ≡ idle)) ⊎ (IsToldAs (finds_nothing past chosen) false × (is_block_of chosen block ≡ true))

-- a step has an idle entry where it finds nothing, and a try of a drain has none
abbrev pub IsOldest : Past → List QueuedTask → List Entry → Type 0
IsOldest past [] block = block ≡ []
IsOldest past (task ∷ tasks) block = IsStep past (choice.FabricRun task.tag) [] block

abbrev pub IsBlock : Past → LineTurn → List Entry → Type 0
IsBlock past (Asks given) block = IsAsked given block
IsBlock past (Steps chosen) block = IsStep past chosen (entry.Idle chosen ∷ []) block
IsBlock past (Tries (Chooses chosen)) block = IsStep past chosen [] block
IsBlock past (Tries RunsOldest) block = IsOldest past past.queued.tasks block

-- ---- what is queued after a block

-- the work of a step that no entry shows
abbrev pub after_work : Choice → Queued → Queued
after_work choice.IocHigh g = high_processed g g.high
after_work choice.IocNormal g = normal_processed g
after_work choice.FabricSay g = announced g
after_work _ g = g

abbrev pub after_work_if : Option Bool → Choice → Queued → Queued
after_work_if (Some false) chosen g = after_work chosen g
after_work_if _ chosen g = g

-- an input that isn't refused is granted
abbrev pub granted_if : Input → List Entry → Queued → Queued
granted_if given (e ∷ []) g = input_granted given g
granted_if given _ g = g

abbrev pub queued_of : Past → LineTurn → List Entry → Queued
queued_of past (Asks given) block = granted_if given block (queued_after past.queued block)
queued_of past (Steps chosen) block = queued_after (after_work_if (finds_nothing past chosen) chosen past.queued) block
queued_of past (Tries (Chooses chosen)) block = queued_after (after_work_if (finds_nothing past chosen) chosen past.queued) block
queued_of past (Tries RunsOldest) block = queued_after past.queued block

abbrev pub past_after : Past → LineTurn → List Entry → Past
past_after past turn block = record { entries = past.entries ++ block; queued = queued_of past turn block }
