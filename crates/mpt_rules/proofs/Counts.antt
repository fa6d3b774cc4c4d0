-- What is counted between host and controller: of an empty list, of an item before others, and of one list
-- after another.
use Rattle.std.proofs.Common.{◌≡◌, ℕ, ◌+◌, Bool, List, [], ◌∷◌, ◌++◌, refl, arith}
use Rattle.mpt_trace.specs.declared.item.Down.{Down}
use Rattle.mpt_trace.specs.declared.item.Up.{Up}
use Rattle.mpt_rules.specs.declared.post.Post.{Post}
use Rattle.mpt_rules.specs.declared.said.Said.{Said}
use Rattle.mpt_rules.specs.Host.Doorbell.{is_reset_item}
use Rattle.mpt_rules.specs.Ioc.Tables.{is_post_of}
use Rattle.mpt_rules.specs.Ioc.Places.{is_reply_of}
use Rattle.mpt_rules.specs.World.Places.{is_posted_as, is_return_of, is_in_frame}
use Rattle.mpt_rules.specs.World.Weight.{is_read, is_said_value}
use Rattle.mpt_rules.specs.World.Counts.{one_if, how_many, is_register_write, is_event, is_mark, is_mark_of, post_count, return_count, read_count, register_write_count, reset_write_count, queued_count, reply_count, event_count, value_count, mark_count, mark_count_of, use_count}

pub how_many-append : {X : Type 0} (test : X → Bool) (xs ys : List X) → how_many test (xs ++ ys) ≡ how_many test xs + how_many test ys
unfolding how_many
how_many-append test [] ys = omega arith
how_many-append test (x ∷ xs) ys = let h = how_many-append test xs ys in omega (arith, h)

-- the posts under an identifier
pub post_count-nil : (smid : ℕ) → post_count smid [] ≡ 0
unfolding post_count how_many
post_count-nil smid = refl

pub post_count-cons : (smid : ℕ) (x : Down) (xs : List Down) → post_count smid (x ∷ xs) ≡ one_if (is_posted_as smid x) + post_count smid xs
unfolding post_count how_many
post_count-cons smid x xs = refl

pub post_count-append : (smid : ℕ) (xs ys : List Down) → post_count smid (xs ++ ys) ≡ post_count smid xs + post_count smid ys
unfolding post_count
post_count-append smid xs ys = how_many-append (is_posted_as smid) xs ys

-- the returns of a reply frame
pub return_count-nil : (number : ℕ) → return_count number [] ≡ 0
unfolding return_count how_many
return_count-nil number = refl

pub return_count-cons : (number : ℕ) (x : Down) (xs : List Down) → return_count number (x ∷ xs) ≡ one_if (is_return_of number x) + return_count number xs
unfolding return_count how_many
return_count-cons number x xs = refl

pub return_count-append : (number : ℕ) (xs ys : List Down) → return_count number (xs ++ ys) ≡ return_count number xs + return_count number ys
unfolding return_count
return_count-append number xs ys = how_many-append (is_return_of number) xs ys

-- the register reads
pub read_count-nil : read_count [] ≡ 0
unfolding read_count how_many
read_count-nil = refl

pub read_count-cons : (x : Down) (xs : List Down) → read_count (x ∷ xs) ≡ one_if (is_read x) + read_count xs
unfolding read_count how_many
read_count-cons x xs = refl

pub read_count-append : (xs ys : List Down) → read_count (xs ++ ys) ≡ read_count xs + read_count ys
unfolding read_count
read_count-append xs ys = how_many-append is_read xs ys

-- the register writes, but that of the reply post index
pub register_write_count-nil : register_write_count [] ≡ 0
unfolding register_write_count how_many
register_write_count-nil = refl

pub register_write_count-cons : (x : Down) (xs : List Down) → register_write_count (x ∷ xs) ≡ one_if (is_register_write x) + register_write_count xs
unfolding register_write_count how_many
register_write_count-cons x xs = refl

pub register_write_count-append : (xs ys : List Down) → register_write_count (xs ++ ys) ≡ register_write_count xs + register_write_count ys
unfolding register_write_count
register_write_count-append xs ys = how_many-append is_register_write xs ys

-- the writes that begin a reset
pub reset_write_count-nil : reset_write_count [] ≡ 0
unfolding reset_write_count how_many
reset_write_count-nil = refl

pub reset_write_count-cons : (x : Down) (xs : List Down) → reset_write_count (x ∷ xs) ≡ one_if (is_reset_item x) + reset_write_count xs
unfolding reset_write_count how_many
reset_write_count-cons x xs = refl

pub reset_write_count-append : (xs ys : List Down) → reset_write_count (xs ++ ys) ≡ reset_write_count xs + reset_write_count ys
unfolding reset_write_count
reset_write_count-append xs ys = how_many-append is_reset_item xs ys

-- the posts of a queue under an identifier
pub queued_count-nil : (smid : ℕ) → queued_count smid [] ≡ 0
unfolding queued_count how_many
queued_count-nil smid = refl

pub queued_count-cons : (smid : ℕ) (x : Post) (xs : List Post) → queued_count smid (x ∷ xs) ≡ one_if (is_post_of smid x) + queued_count smid xs
unfolding queued_count how_many
queued_count-cons smid x xs = refl

pub queued_count-append : (smid : ℕ) (xs ys : List Post) → queued_count smid (xs ++ ys) ≡ queued_count smid xs + queued_count smid ys
unfolding queued_count
queued_count-append smid xs ys = how_many-append (is_post_of smid) xs ys

-- the replies to an identifier
pub reply_count-nil : (smid : ℕ) → reply_count smid [] ≡ 0
unfolding reply_count how_many
reply_count-nil smid = refl

pub reply_count-cons : (smid : ℕ) (x : Said) (xs : List Said) → reply_count smid (x ∷ xs) ≡ one_if (is_reply_of smid x) + reply_count smid xs
unfolding reply_count how_many
reply_count-cons smid x xs = refl

pub reply_count-append : (smid : ℕ) (xs ys : List Said) → reply_count smid (xs ++ ys) ≡ reply_count smid xs + reply_count smid ys
unfolding reply_count
reply_count-append smid xs ys = how_many-append (is_reply_of smid) xs ys

-- the events
pub event_count-nil : event_count [] ≡ 0
unfolding event_count how_many
event_count-nil = refl

pub event_count-cons : (x : Said) (xs : List Said) → event_count (x ∷ xs) ≡ one_if (is_event x) + event_count xs
unfolding event_count how_many
event_count-cons x xs = refl

pub event_count-append : (xs ys : List Said) → event_count (xs ++ ys) ≡ event_count xs + event_count ys
unfolding event_count
event_count-append xs ys = how_many-append is_event xs ys

-- the values of reads
pub value_count-nil : value_count [] ≡ 0
unfolding value_count how_many
value_count-nil = refl

pub value_count-cons : (x : Said) (xs : List Said) → value_count (x ∷ xs) ≡ one_if (is_said_value x) + value_count xs
unfolding value_count how_many
value_count-cons x xs = refl

pub value_count-append : (xs ys : List Said) → value_count (xs ++ ys) ≡ value_count xs + value_count ys
unfolding value_count
value_count-append xs ys = how_many-append is_said_value xs ys

-- the marks of resets
pub mark_count-nil : mark_count [] ≡ 0
unfolding mark_count how_many
mark_count-nil = refl

pub mark_count-cons : (x : Said) (xs : List Said) → mark_count (x ∷ xs) ≡ one_if (is_mark x) + mark_count xs
unfolding mark_count how_many
mark_count-cons x xs = refl

pub mark_count-append : (xs ys : List Said) → mark_count (xs ++ ys) ≡ mark_count xs + mark_count ys
unfolding mark_count
mark_count-append xs ys = how_many-append is_mark xs ys

-- the marks of the reset of a generation
pub mark_count_of-nil : (generation : ℕ) → mark_count_of generation [] ≡ 0
unfolding mark_count_of how_many
mark_count_of-nil generation = refl

pub mark_count_of-cons : (generation : ℕ) (x : Said) (xs : List Said) → mark_count_of generation (x ∷ xs) ≡ one_if (is_mark_of generation x) + mark_count_of generation xs
unfolding mark_count_of how_many
mark_count_of-cons generation x xs = refl

pub mark_count_of-append : (generation : ℕ) (xs ys : List Said) → mark_count_of generation (xs ++ ys) ≡ mark_count_of generation xs + mark_count_of generation ys
unfolding mark_count_of
mark_count_of-append generation xs ys = how_many-append (is_mark_of generation) xs ys

-- the replies in a reply frame
pub use_count-nil : (number : ℕ) → use_count number [] ≡ 0
unfolding use_count how_many
use_count-nil number = refl

pub use_count-cons : (number : ℕ) (x : Up) (xs : List Up) → use_count number (x ∷ xs) ≡ one_if (is_in_frame number x) + use_count number xs
unfolding use_count how_many
use_count-cons number x xs = refl

pub use_count-append : (number : ℕ) (xs ys : List Up) → use_count number (xs ++ ys) ≡ use_count number xs + use_count number ys
unfolding use_count
use_count-append number xs ys = how_many-append (is_in_frame number) xs ys

pub ruleset counts = (post_count-nil, post_count-cons, post_count-append, return_count-nil, return_count-cons, return_count-append, read_count-nil, read_count-cons, read_count-append, register_write_count-nil, register_write_count-cons, register_write_count-append, reset_write_count-nil, reset_write_count-cons, reset_write_count-append, queued_count-nil, queued_count-cons, queued_count-append, reply_count-nil, reply_count-cons, reply_count-append, event_count-nil, event_count-cons, event_count-append, value_count-nil, value_count-cons, value_count-append, mark_count-nil, mark_count-cons, mark_count-append, mark_count_of-nil, mark_count_of-cons, mark_count_of-append, use_count-nil, use_count-cons, use_count-append)
