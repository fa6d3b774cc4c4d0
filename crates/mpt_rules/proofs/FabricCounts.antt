-- What is counted between controller and fabric: of an empty list, of an item before others, and of one list
-- after another.
use Rattle.std.proofs.Common.{◌≡◌, ℕ, ◌+◌, List, [], ◌∷◌, ◌++◌, refl}
use Rattle.mpt_trace.specs.declared.item.Out.{Out}
use Rattle.mpt_trace.specs.declared.item.Back.{Back}
use Rattle.mpt_rules.specs.declared.task.Task.{Task}
use Rattle.mpt_rules.specs.Fabric.Tasks.{has_tag}
use Rattle.mpt_rules.specs.World.Counts.{one_if, how_many}
use Rattle.mpt_rules.specs.World.FabricCounts.{is_task_of, is_abort_by, is_reset_by, is_discover, is_link, is_link_of, is_result_of, is_gone_of, is_termination_of, is_abort_end_of, is_reset_end_of, is_discovered, is_linked, is_linked_of, sent_task_count, sent_abort_count, sent_reset_count, discover_count, link_count, link_count_of, task_count, result_count, gone_count, terminated_count, abort_end_count, reset_end_count, discovered_count, linked_count, linked_count_of}
use Rattle.mpt_rules.proofs.Counts.{how_many-append}

-- the tasks of a tag that are sent
pub sent_task_count-nil : (tag : ℕ) → sent_task_count tag [] ≡ 0
unfolding sent_task_count how_many
sent_task_count-nil tag = refl

pub sent_task_count-cons : (tag : ℕ) (x : Out) (xs : List Out) → sent_task_count tag (x ∷ xs) ≡ one_if (is_task_of tag x) + sent_task_count tag xs
unfolding sent_task_count how_many
sent_task_count-cons tag x xs = refl

pub sent_task_count-append : (tag : ℕ) (xs ys : List Out) → sent_task_count tag (xs ++ ys) ≡ sent_task_count tag xs + sent_task_count tag ys
unfolding sent_task_count
sent_task_count-append tag xs ys = how_many-append (is_task_of tag) xs ys

-- the aborts that are sent for an identifier
pub sent_abort_count-nil : (smid : ℕ) → sent_abort_count smid [] ≡ 0
unfolding sent_abort_count how_many
sent_abort_count-nil smid = refl

pub sent_abort_count-cons : (smid : ℕ) (x : Out) (xs : List Out) → sent_abort_count smid (x ∷ xs) ≡ one_if (is_abort_by smid x) + sent_abort_count smid xs
unfolding sent_abort_count how_many
sent_abort_count-cons smid x xs = refl

pub sent_abort_count-append : (smid : ℕ) (xs ys : List Out) → sent_abort_count smid (xs ++ ys) ≡ sent_abort_count smid xs + sent_abort_count smid ys
unfolding sent_abort_count
sent_abort_count-append smid xs ys = how_many-append (is_abort_by smid) xs ys

-- the target resets that are sent for an identifier
pub sent_reset_count-nil : (smid : ℕ) → sent_reset_count smid [] ≡ 0
unfolding sent_reset_count how_many
sent_reset_count-nil smid = refl

pub sent_reset_count-cons : (smid : ℕ) (x : Out) (xs : List Out) → sent_reset_count smid (x ∷ xs) ≡ one_if (is_reset_by smid x) + sent_reset_count smid xs
unfolding sent_reset_count how_many
sent_reset_count-cons smid x xs = refl

pub sent_reset_count-append : (smid : ℕ) (xs ys : List Out) → sent_reset_count smid (xs ++ ys) ≡ sent_reset_count smid xs + sent_reset_count smid ys
unfolding sent_reset_count
sent_reset_count-append smid xs ys = how_many-append (is_reset_by smid) xs ys

-- the requests to name each plugged disk
pub discover_count-nil : discover_count [] ≡ 0
unfolding discover_count how_many
discover_count-nil = refl

pub discover_count-cons : (x : Out) (xs : List Out) → discover_count (x ∷ xs) ≡ one_if (is_discover x) + discover_count xs
unfolding discover_count how_many
discover_count-cons x xs = refl

pub discover_count-append : (xs ys : List Out) → discover_count (xs ++ ys) ≡ discover_count xs + discover_count ys
unfolding discover_count
discover_count-append xs ys = how_many-append is_discover xs ys

-- the links
pub link_count-nil : link_count [] ≡ 0
unfolding link_count how_many
link_count-nil = refl

pub link_count-cons : (x : Out) (xs : List Out) → link_count (x ∷ xs) ≡ one_if (is_link x) + link_count xs
unfolding link_count how_many
link_count-cons x xs = refl

pub link_count-append : (xs ys : List Out) → link_count (xs ++ ys) ≡ link_count xs + link_count ys
unfolding link_count
link_count-append xs ys = how_many-append is_link xs ys

-- the links of a generation
pub link_count_of-nil : (generation : ℕ) → link_count_of generation [] ≡ 0
unfolding link_count_of how_many
link_count_of-nil generation = refl

pub link_count_of-cons : (generation : ℕ) (x : Out) (xs : List Out) → link_count_of generation (x ∷ xs) ≡ one_if (is_link_of generation x) + link_count_of generation xs
unfolding link_count_of how_many
link_count_of-cons generation x xs = refl

pub link_count_of-append : (generation : ℕ) (xs ys : List Out) → link_count_of generation (xs ++ ys) ≡ link_count_of generation xs + link_count_of generation ys
unfolding link_count_of
link_count_of-append generation xs ys = how_many-append (is_link_of generation) xs ys

-- the queued tasks of a tag
pub task_count-nil : (tag : ℕ) → task_count tag [] ≡ 0
unfolding task_count how_many
task_count-nil tag = refl

pub task_count-cons : (tag : ℕ) (x : Task) (xs : List Task) → task_count tag (x ∷ xs) ≡ one_if (has_tag tag x) + task_count tag xs
unfolding task_count how_many
task_count-cons tag x xs = refl

pub task_count-append : (tag : ℕ) (xs ys : List Task) → task_count tag (xs ++ ys) ≡ task_count tag xs + task_count tag ys
unfolding task_count
task_count-append tag xs ys = how_many-append (has_tag tag) xs ys

-- the results of a tag
pub result_count-nil : (tag : ℕ) → result_count tag [] ≡ 0
unfolding result_count how_many
result_count-nil tag = refl

pub result_count-cons : (tag : ℕ) (x : Back) (xs : List Back) → result_count tag (x ∷ xs) ≡ one_if (is_result_of tag x) + result_count tag xs
unfolding result_count how_many
result_count-cons tag x xs = refl

pub result_count-append : (tag : ℕ) (xs ys : List Back) → result_count tag (xs ++ ys) ≡ result_count tag xs + result_count tag ys
unfolding result_count
result_count-append tag xs ys = how_many-append (is_result_of tag) xs ys

-- the news that the task of a tag is gone
pub gone_count-nil : (tag : ℕ) → gone_count tag [] ≡ 0
unfolding gone_count how_many
gone_count-nil tag = refl

pub gone_count-cons : (tag : ℕ) (x : Back) (xs : List Back) → gone_count tag (x ∷ xs) ≡ one_if (is_gone_of tag x) + gone_count tag xs
unfolding gone_count how_many
gone_count-cons tag x xs = refl

pub gone_count-append : (tag : ℕ) (xs ys : List Back) → gone_count tag (xs ++ ys) ≡ gone_count tag xs + gone_count tag ys
unfolding gone_count
gone_count-append tag xs ys = how_many-append (is_gone_of tag) xs ys

-- the news that the task of a tag was terminated
pub terminated_count-nil : (tag : ℕ) → terminated_count tag [] ≡ 0
unfolding terminated_count how_many
terminated_count-nil tag = refl

pub terminated_count-cons : (tag : ℕ) (x : Back) (xs : List Back) → terminated_count tag (x ∷ xs) ≡ one_if (is_termination_of tag x) + terminated_count tag xs
unfolding terminated_count how_many
terminated_count-cons tag x xs = refl

pub terminated_count-append : (tag : ℕ) (xs ys : List Back) → terminated_count tag (xs ++ ys) ≡ terminated_count tag xs + terminated_count tag ys
unfolding terminated_count
terminated_count-append tag xs ys = how_many-append (is_termination_of tag) xs ys

-- the ends of the abort of an identifier
pub abort_end_count-nil : (smid : ℕ) → abort_end_count smid [] ≡ 0
unfolding abort_end_count how_many
abort_end_count-nil smid = refl

pub abort_end_count-cons : (smid : ℕ) (x : Back) (xs : List Back) → abort_end_count smid (x ∷ xs) ≡ one_if (is_abort_end_of smid x) + abort_end_count smid xs
unfolding abort_end_count how_many
abort_end_count-cons smid x xs = refl

pub abort_end_count-append : (smid : ℕ) (xs ys : List Back) → abort_end_count smid (xs ++ ys) ≡ abort_end_count smid xs + abort_end_count smid ys
unfolding abort_end_count
abort_end_count-append smid xs ys = how_many-append (is_abort_end_of smid) xs ys

-- the ends of the target reset of an identifier
pub reset_end_count-nil : (smid : ℕ) → reset_end_count smid [] ≡ 0
unfolding reset_end_count how_many
reset_end_count-nil smid = refl

pub reset_end_count-cons : (smid : ℕ) (x : Back) (xs : List Back) → reset_end_count smid (x ∷ xs) ≡ one_if (is_reset_end_of smid x) + reset_end_count smid xs
unfolding reset_end_count how_many
reset_end_count-cons smid x xs = refl

pub reset_end_count-append : (smid : ℕ) (xs ys : List Back) → reset_end_count smid (xs ++ ys) ≡ reset_end_count smid xs + reset_end_count smid ys
unfolding reset_end_count
reset_end_count-append smid xs ys = how_many-append (is_reset_end_of smid) xs ys

-- the news that each plugged disk was named
pub discovered_count-nil : discovered_count [] ≡ 0
unfolding discovered_count how_many
discovered_count-nil = refl

pub discovered_count-cons : (x : Back) (xs : List Back) → discovered_count (x ∷ xs) ≡ one_if (is_discovered x) + discovered_count xs
unfolding discovered_count how_many
discovered_count-cons x xs = refl

pub discovered_count-append : (xs ys : List Back) → discovered_count (xs ++ ys) ≡ discovered_count xs + discovered_count ys
unfolding discovered_count
discovered_count-append xs ys = how_many-append is_discovered xs ys

-- the links that were taken
pub linked_count-nil : linked_count [] ≡ 0
unfolding linked_count how_many
linked_count-nil = refl

pub linked_count-cons : (x : Back) (xs : List Back) → linked_count (x ∷ xs) ≡ one_if (is_linked x) + linked_count xs
unfolding linked_count how_many
linked_count-cons x xs = refl

pub linked_count-append : (xs ys : List Back) → linked_count (xs ++ ys) ≡ linked_count xs + linked_count ys
unfolding linked_count
linked_count-append xs ys = how_many-append is_linked xs ys

-- the links of a generation that were taken
pub linked_count_of-nil : (generation : ℕ) → linked_count_of generation [] ≡ 0
unfolding linked_count_of how_many
linked_count_of-nil generation = refl

pub linked_count_of-cons : (generation : ℕ) (x : Back) (xs : List Back) → linked_count_of generation (x ∷ xs) ≡ one_if (is_linked_of generation x) + linked_count_of generation xs
unfolding linked_count_of how_many
linked_count_of-cons generation x xs = refl

pub linked_count_of-append : (generation : ℕ) (xs ys : List Back) → linked_count_of generation (xs ++ ys) ≡ linked_count_of generation xs + linked_count_of generation ys
unfolding linked_count_of
linked_count_of-append generation xs ys = how_many-append (is_linked_of generation) xs ys

pub ruleset fabric_counts = (sent_task_count-nil, sent_task_count-cons, sent_task_count-append, sent_abort_count-nil, sent_abort_count-cons, sent_abort_count-append, sent_reset_count-nil, sent_reset_count-cons, sent_reset_count-append, discover_count-nil, discover_count-cons, discover_count-append, link_count-nil, link_count-cons, link_count-append, link_count_of-nil, link_count_of-cons, link_count_of-append, task_count-nil, task_count-cons, task_count-append, result_count-nil, result_count-cons, result_count-append, gone_count-nil, gone_count-cons, gone_count-append, terminated_count-nil, terminated_count-cons, terminated_count-append, abort_end_count-nil, abort_end_count-cons, abort_end_count-append, reset_end_count-nil, reset_end_count-cons, reset_end_count-append, discovered_count-nil, discovered_count-cons, discovered_count-append, linked_count-nil, linked_count-cons, linked_count-append, linked_count_of-nil, linked_count_of-cons, linked_count_of-append)
