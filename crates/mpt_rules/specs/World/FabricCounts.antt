-- What the lines between controller and fabric hold, counted one key at a time.
use Rattle.std.specs.Prelude.{ℕ, ◌==◌, Bool, true, false, List}
use Rattle.mpt_trace.specs.declared.item.Out.{Out}
use Rattle.mpt_trace.specs.declared.item.Out.TheVariants as out
use Rattle.mpt_trace.specs.declared.item.Back.{Back}
use Rattle.mpt_trace.specs.declared.item.Back.TheVariants as back
use Rattle.mpt_rules.specs.declared.task.Task.{Task}
use Rattle.mpt_rules.specs.Fabric.Tasks.{has_tag}
use Rattle.mpt_rules.specs.World.Counts.{how_many}

-- ---- which items are meant

-- a task of this tag
abbrev pub is_task_of : ℕ → Out → Bool
is_task_of s (out.Task tag address command) = tag == s
is_task_of s _ = false

-- an abort that was asked under this identifier
abbrev pub is_abort_by : ℕ → Out → Bool
is_abort_by s (out.Abort smid task) = smid == s
is_abort_by s _ = false

-- a target reset that was asked under this identifier
abbrev pub is_reset_by : ℕ → Out → Bool
is_reset_by s (out.TargetReset smid address) = smid == s
is_reset_by s _ = false

-- the question which disks are plugged
abbrev pub is_discover : Out → Bool
is_discover out.Discover = true
is_discover _ = false

-- a link
abbrev pub is_link : Out → Bool
is_link (out.Link generation) = true
is_link _ = false

-- the link of a generation
abbrev pub is_link_of : ℕ → Out → Bool
is_link_of g (out.Link generation) = generation == g
is_link_of g _ = false

-- the result of the task of this tag
abbrev pub is_result_of : ℕ → Back → Bool
is_result_of s (back.Result tag outcome) = tag == s
is_result_of s _ = false

-- the task of this tag is gone
abbrev pub is_gone_of : ℕ → Back → Bool
is_gone_of s (back.Gone tag) = tag == s
is_gone_of s _ = false

-- the task of this tag was terminated
abbrev pub is_termination_of : ℕ → Back → Bool
is_termination_of s (back.Terminated tag) = tag == s
is_termination_of s _ = false

-- the abort of this identifier is done
abbrev pub is_abort_end_of : ℕ → Back → Bool
is_abort_end_of s (back.Aborted smid found) = smid == s
is_abort_end_of s _ = false

-- the target reset of this identifier is done
abbrev pub is_reset_end_of : ℕ → Back → Bool
is_reset_end_of s (back.Cleared smid count) = smid == s
is_reset_end_of s _ = false

-- all plugged disks were named
abbrev pub is_discovered : Back → Bool
is_discovered back.Discovered = true
is_discovered _ = false

-- a link was taken
abbrev pub is_linked : Back → Bool
is_linked (back.Linked generation) = true
is_linked _ = false

-- the link of a generation was taken
abbrev pub is_linked_of : ℕ → Back → Bool
is_linked_of g (back.Linked generation) = generation == g
is_linked_of g _ = false

-- ---- how many there are

-- the tasks of a tag that are sent
unfoldable pub sent_task_count : ℕ → List Out → ℕ
sent_task_count tag items = how_many (is_task_of tag) items

-- the aborts that are sent for an identifier
unfoldable pub sent_abort_count : ℕ → List Out → ℕ
sent_abort_count smid items = how_many (is_abort_by smid) items

-- the target resets that are sent for an identifier
unfoldable pub sent_reset_count : ℕ → List Out → ℕ
sent_reset_count smid items = how_many (is_reset_by smid) items

-- the requests to name each plugged disk
unfoldable pub discover_count : List Out → ℕ
discover_count items = how_many is_discover items

-- the links
unfoldable pub link_count : List Out → ℕ
link_count items = how_many is_link items

-- the links of a generation
unfoldable pub link_count_of : ℕ → List Out → ℕ
link_count_of generation items = how_many (is_link_of generation) items

-- the queued tasks of a tag
unfoldable pub task_count : ℕ → List Task → ℕ
task_count tag items = how_many (has_tag tag) items

-- the results of a tag
unfoldable pub result_count : ℕ → List Back → ℕ
result_count tag items = how_many (is_result_of tag) items

-- the news that the task of a tag is gone
unfoldable pub gone_count : ℕ → List Back → ℕ
gone_count tag items = how_many (is_gone_of tag) items

-- the news that the task of a tag was terminated
unfoldable pub terminated_count : ℕ → List Back → ℕ
terminated_count tag items = how_many (is_termination_of tag) items

-- the ends of the abort of an identifier
unfoldable pub abort_end_count : ℕ → List Back → ℕ
abort_end_count smid items = how_many (is_abort_end_of smid) items

-- the ends of the target reset of an identifier
unfoldable pub reset_end_count : ℕ → List Back → ℕ
reset_end_count smid items = how_many (is_reset_end_of smid) items

-- the news that each plugged disk was named
unfoldable pub discovered_count : List Back → ℕ
discovered_count items = how_many is_discovered items

-- the links that were taken
unfoldable pub linked_count : List Back → ℕ
linked_count items = how_many is_linked items

-- the links of a generation that were taken
unfoldable pub linked_count_of : ℕ → List Back → ℕ
linked_count_of generation items = how_many (is_linked_of generation) items
