-- The forms of a line, with the ranges of their numbers.
use Rattle.std.specs.Prelude.{ℕ, List, [], ◌∷◌, ◌++◌, map, Result, Ok, Err, codes}
use Rattle.mpt_trace.specs.declared.choice.Choice.{Choice}
use Rattle.mpt_trace.specs.declared.choice.Choice.TheVariants as choice
use Rattle.mpt_trace.specs.declared.input.Input.TheVariants as input
use Rattle.mpt_lines.specs.declared.fault.Cause.{Cause}
use Rattle.mpt_lines.specs.declared.fault.Cause.TheVariants.{Form}
use Rattle.mpt_lines.specs.declared.statement.Statement.{Statement}
use Rattle.mpt_lines.specs.declared.statement.Statement.TheVariants as statement
use Rattle.mpt_lines.specs.declared.statement.PlanStatement.{PlanStatement}
use Rattle.mpt_lines.specs.declared.statement.PlanStatement.TheVariants as plan
use Rattle.mpt_lines.specs.Numbers.{◌>>=◌, number, within, address}
use Rattle.mpt_lines.specs.Words.{Keyword, keyword, nothing, one, read_by, two, three}
use Rattle.mpt_lines.specs.Commands.{command}

-- `queues <q>`
abbrev pub queues : List (List ℕ) → Result Statement Cause
queues words = do
  word ← one words
  count ← number word
  q ← within 1 8 count
  Ok (statement.Queues q)

-- `disk <address> <blocks>`
abbrev pub disk : List (List ℕ) → Result Statement Cause
disk words = do
  w ← two words
  at ← address w.0
  count ← number w.1
  blocks ← within 1 1024 count
  Ok (statement.Disk (record { address = at; blocks = blocks }))

-- `expander <e> <phys>`
abbrev pub expander : List (List ℕ) → Result Statement Cause
expander words = do
  w ← two words
  e ← number w.0
  count ← number w.1
  phys ← within 1 22 count
  Ok (statement.Expander e phys)

-- `plug <address> <e> <phy>`
abbrev pub plug : List (List ℕ) → Result Statement Cause
plug words = do
  w ← three words
  at ← address w.0
  e ← number w.1
  phy ← number w.2
  Ok (statement.Plug at e phy)

-- `unplug <address>`
abbrev pub unplug : List (List ℕ) → Result Statement Cause
unplug words = do
  word ← one words
  at ← address word
  Ok (statement.Unplug at)

-- `start`
abbrev pub start : List (List ℕ) → Result Statement Cause
start words = do
  none ← nothing words
  Ok (statement.Host input.Start)

-- `reset`
abbrev pub reset : List (List ℕ) → Result Statement Cause
reset words = do
  none ← nothing words
  Ok (statement.Host input.Reset)

-- `unit`
abbrev pub unit : List (List ℕ) → Result Statement Cause
unit words = do
  none ← nothing words
  Ok (statement.Host input.UnitReset)

-- `treset <address>`
abbrev pub treset : List (List ℕ) → Result Statement Cause
treset words = do
  word ← one words
  at ← address word
  Ok (statement.Host (input.TargetReset at))

-- `submit <n> <address> <command>`
abbrev pub submit : List (List ℕ) → Result Statement Cause
submit (first ∷ second ∷ others) = do
  count ← number first
  at ← address second
  form ← command others
  n ← within 0 4294967295 count
  Ok (statement.Host (input.Submit n at form))
submit _ = Err Form

-- `abort <n>`
abbrev pub abort : List (List ℕ) → Result Statement Cause
abort words = do
  word ← one words
  count ← number word
  n ← within 0 4294967295 count
  Ok (statement.Host (input.Abort n))

-- `drain`
abbrev pub drain : List (List ℕ) → Result Statement Cause
drain words = do
  none ← nothing words
  Ok statement.Drain

-- `fabric-run <tag>`
abbrev pub fabric_run : List (List ℕ) → Result Statement Cause
fabric_run words = do
  word ← one words
  count ← number word
  tag ← within 0 65535 count
  Ok (statement.Choice (choice.FabricRun tag) 1)

-- an optional count: 1 where no word is left
abbrev pub optional_count : List (List ℕ) → Result ℕ Cause
optional_count [] = Ok 1
optional_count (word ∷ others) = do
  none ← nothing others
  number word

-- a choice with its optional count
abbrev pub counted : Choice → List (List ℕ) → Result Statement Cause
counted chosen words = do
  times ← optional_count words
  count ← within 1 64 times
  Ok (statement.Choice chosen count)

-- a queue above the first, and an optional count
abbrev pub on_queue : List (List ℕ) → Result (ℕ × ℕ) Cause
on_queue [] = Err Form
on_queue (word ∷ others) = do
  i ← number word
  times ← optional_count others
  queue ← within 1 7 i
  count ← within 1 64 times
  Ok (queue, count)

-- `ioc-put-on <i>`, with an optional count
abbrev pub ioc_put_on : List (List ℕ) → Result Statement Cause
ioc_put_on words = do
  q ← on_queue words
  Ok (statement.Choice (choice.IocPutOn q.0) q.1)

-- `host-take-on <i>`, with an optional count
abbrev pub host_take_on : List (List ℕ) → Result Statement Cause
host_take_on words = do
  q ← on_queue words
  Ok (statement.Choice (choice.HostTakeOn q.0) q.1)

-- ---- keywords

-- the lines that a plan has too
abbrev pub shared_words : List (Keyword Statement)
shared_words =
    keyword (codes "queues") queues
    ∷ keyword (codes "disk") disk
    ∷ keyword (codes "expander") expander
    ∷ keyword (codes "plug") plug
    ∷ keyword (codes "unplug") unplug
    ∷ keyword (codes "reset") reset
    ∷ keyword (codes "treset") treset
    ∷ keyword (codes "submit") submit
    ∷ keyword (codes "abort") abort
    ∷ []

-- the lines that are a schedule's alone
abbrev pub schedule_words : List (Keyword Statement)
schedule_words =
    keyword (codes "start") start
    ∷ keyword (codes "unit") unit
    ∷ keyword (codes "drain") drain
    ∷ keyword (codes "host-put") (counted choice.HostPut)
    ∷ keyword (codes "host-take") (counted choice.HostTake)
    ∷ keyword (codes "host-take-on") host_take_on
    ∷ keyword (codes "ioc-take") (counted choice.IocTake)
    ∷ keyword (codes "ioc-high") (counted choice.IocHigh)
    ∷ keyword (codes "ioc-normal") (counted choice.IocNormal)
    ∷ keyword (codes "ioc-out") (counted choice.IocOut)
    ∷ keyword (codes "ioc-back") (counted choice.IocBack)
    ∷ keyword (codes "ioc-put") (counted choice.IocPut)
    ∷ keyword (codes "ioc-put-on") ioc_put_on
    ∷ keyword (codes "fabric-take") (counted choice.FabricTake)
    ∷ keyword (codes "fabric-run") fabric_run
    ∷ keyword (codes "fabric-say") (counted choice.FabricSay)
    ∷ keyword (codes "fabric-put") (counted choice.FabricPut)
    ∷ []

-- a line of a schedule by its words
abbrev pub schedule_line : List (List ℕ) → Result Statement Cause
schedule_line words = read_by (schedule_words ++ shared_words) words

-- `submitter <i>`
abbrev pub submitter : List (List ℕ) → Result PlanStatement Cause
submitter words = do
  word ← one words
  i ← number word
  Ok (plan.Submitter i)

-- `fabric`
abbrev pub fabric : List (List ℕ) → Result PlanStatement Cause
fabric words = do
  none ← nothing words
  Ok plan.Fabric

-- a shared line says in a plan what it says in a schedule
abbrev pub in_a_plan : Keyword Statement → Keyword PlanStatement
in_a_plan k = keyword k.word (λ words. k.reads words >>= (λ said. Ok (plan.Line said)))

-- the lines that are a plan's alone
abbrev pub plan_words : List (Keyword PlanStatement)
plan_words = keyword (codes "submitter") submitter ∷ keyword (codes "fabric") fabric ∷ []

-- a line of a plan by its words
abbrev pub plan_line : List (List ℕ) → Result PlanStatement Cause
plan_line words = read_by (plan_words ++ map in_a_plan shared_words) words
