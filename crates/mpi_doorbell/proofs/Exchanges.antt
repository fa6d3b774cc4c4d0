-- How an exchange's array goes on as its handshake does.
use Rattle.std.proofs.Common.{◌≡◌, ℕ, ◌+◌, ◌-◌, ◌*◌, ◌/◌, ◌%◌, ◌<◌, ◌≤◌, List, ◌++◌, length, take, drop, replicate, slice_range, ap, sym, ◌∙◌, append_assoc, length-append, arith}
use Rattle.std.proofs.lemmas.Bool.Decides.{nat_tests}
use Rattle.std.proofs.lemmas.List.{drop-drop, drop-replicate, drop-take, length-take, length-drop, length-take-le, take_at}
use Rattle.byteorder.specs.Endian.{little_bytes}
use Rattle.mpi_doorbell.specs.declared.exchange.Progress.TheVariants as progress
use Rattle.mpi_doorbell.specs.Exchange.{handshake_of}
use Rattle.mpi_doorbell.specs.Handshake.{Idle, Collects, Asked, Replies, asked_by, dword_taken, next_word}
use Rattle.mpi_doorbell.specs.declared.effect.Effect.TheVariants as effect
use Rattle.mpi_doorbell.specs.Bytes.{padded}
use borrow.Rule.Slice.PartMut.{put_mid, post_of}

-- zeros behind a message
pub pad_is : (new message zeros : List ℕ) (n : ℕ) → new ≡ message → zeros ≡ replicate n 0
    → new ++ drop (length message) zeros ≡ message ++ replicate (n - length message) 0
pad_is new message zeros n is zero =
    ap (λ x. x ++ drop (length message) zeros) is
    ∙ ap (λ z. message ++ drop (length message) z) zero
    ∙ ap (λ z. message ++ z) (drop-replicate (length message) n 0)

-- what is written behind the first n bytes
take_written : (n m : ℕ) (bytes w rest : List ℕ) → m ≡ n + length w → n ≤ length bytes
    → take m (take n bytes ++ (w ++ rest)) ≡ take n bytes ++ w
take_written n m bytes w rest to within =
    let at : length (take n bytes ++ w) ≡ m = grind (arith, length-append {A = ℕ}, length-take-le {A = ℕ}) in
    ap (take m) (sym (append_assoc (take n bytes) w rest)) ∙ take_at (take n bytes ++ w) rest m at

shifted : (a b c : ℕ) (xs : List ℕ) → c ≡ a + 2 → c ≤ b → drop 2 (slice_range xs a b) ≡ slice_range xs c b
shifted a b c xs at within =
    let split : b - a ≡ 2 + (b - c) = omega arith in
    ap (λ n. drop 2 (take n (drop a xs))) split
    ∙ drop-take 2 (b - c) (drop a xs)
    ∙ ap (take (b - c)) (drop-drop 2 a xs ∙ ap (λ n. drop n xs) (sym at))

goes_on : (left rest : List ℕ) → 2 < length left → drop 2 left ≡ rest → Replies rest ≡ next_word (Replies left)
goes_on left rest more e = grind (arith, nat_tests)

pub advance_more : (word words : ℕ) (bytes : List ℕ) → word + 1 < words → 2 * words ≤ length bytes
    → handshake_of (progress.Replies (word + 1) words) bytes ≡ next_word (handshake_of (progress.Replies word words) bytes)
advance_more word words bytes more within =
    let l : 2 < length (slice_range bytes (2 * word) (2 * words)) = omega (arith, length-take (2 * words - 2 * word) (drop (2 * word) bytes), length-drop (2 * word) bytes) in
    goes_on _ _ l (shifted (2 * word) (2 * words) (2 * (word + 1)) bytes (omega arith) (omega arith))

ends : (left : List ℕ) → length left ≤ 2 → Idle ≡ next_word (Replies left)
ends left last = grind (arith, nat_tests)

pub advance_end : (word words : ℕ) (bytes : List ℕ) → words ≤ word + 1
    → Idle ≡ next_word (handshake_of (progress.Replies word words) bytes)
advance_end word words bytes last =
    ends _ (omega (arith, length-take (2 * words - 2 * word) (drop (2 * word) bytes)))

more_missing : (missing dword : ℕ) (message after : List ℕ) → 1 < missing → after ≡ message ++ little_bytes 4 dword
    → Collects (missing - 1) after ≡ dword_taken (Collects missing message) dword
more_missing missing dword message after more e = grind (arith, nat_tests)

none_missing : (missing dword : ℕ) (message after : List ℕ) → missing ≤ 1 → after ≡ message ++ little_bytes 4 dword
    → Asked after ≡ dword_taken (Collects missing message) dword
none_missing missing dword message after more e = grind (arith, nat_tests)

-- the message after a dword was written into the array behind it
pub collected : (got at k m dword : ℕ) (bytes buf rest : List ℕ) → at ≡ got → m ≡ 4 * got + 4 → 4 * got ≤ length bytes → buf ≡ little_bytes 4 dword ++ rest
    → take m (put_mid (4 * at) k bytes buf) ≡ take (4 * got) bytes ++ little_bytes 4 dword
collected got at k m dword bytes buf rest same to within e =
    ap (λ n. take m (put_mid (4 * n) k bytes buf)) same
    ∙ ap (λ b. take m (put_mid (4 * got) k bytes b)) e
    ∙ take_written (4 * got) m bytes (little_bytes 4 dword) (rest ++ post_of (4 * got) k bytes) to within

pub taken_more : (got missing dword : ℕ) (bytes after : List ℕ) → 1 < missing → after ≡ take (4 * got) bytes ++ little_bytes 4 dword
    → Collects (missing - 1) after ≡ dword_taken (handshake_of (progress.Collects got missing) bytes) dword
taken_more got missing dword bytes after more e = more_missing missing dword (take (4 * got) bytes) after more e

pub taken_last : (got missing dword : ℕ) (bytes after : List ℕ) → missing ≤ 1 → after ≡ take (4 * got) bytes ++ little_bytes 4 dword
    → Asked after ≡ dword_taken (handshake_of (progress.Collects got missing) bytes) dword
taken_last got missing dword bytes after last e = none_missing missing dword (take (4 * got) bytes) after last e

asked_last : (missing dword count : ℕ) (message out : List ℕ) → missing ≤ 1 → count ≡ length (message ++ little_bytes 4 dword)
    → out ≡ padded (message ++ little_bytes 4 dword) → effect.Asked count out ≡ asked_by (Collects missing message) dword
asked_last missing dword count message out last n e = grind (arith, nat_tests)

pub asked_now : (got missing dword : ℕ) (bytes after out : List ℕ) → missing ≤ 1 → 4 * got ≤ length bytes
    → after ≡ take (4 * got) bytes ++ little_bytes 4 dword → out ≡ padded after
    → effect.Asked (4 * (got + 1)) out ≡ asked_by (handshake_of (progress.Collects got missing) bytes) dword
asked_now got missing dword bytes after out last within e o =
    let n : 4 * (got + 1) ≡ length (take (4 * got) bytes ++ little_bytes 4 dword) = omega (arith, length-append (take (4 * got) bytes) (little_bytes 4 dword), length-take-le (4 * got) bytes within) in
    asked_last missing dword (4 * (got + 1)) (take (4 * got) bytes) out last n (o ∙ ap padded e)

-- a word has the low 16 bits of the value
same_word : (word value : ℕ) → word ≡ value % 65536 → little_bytes 2 word ≡ little_bytes 2 value
same_word word value e =
    let low : word % 256 ≡ value % 256 = omega arith in
    let high : word / 256 % 256 ≡ value / 256 % 256 = omega arith in
    cc

-- the reply after a word was written into the array behind it
pub appended : (words at k m word value : ℕ) (reply buf rest : List ℕ) → at ≡ words → m ≡ 2 * words + 2 → 2 * words ≤ length reply
    → word ≡ value % 65536 → buf ≡ little_bytes 2 word ++ rest
    → take m (put_mid (2 * at) k reply buf) ≡ take (2 * words) reply ++ little_bytes 2 value
appended words at k m word value reply buf rest same to within low e =
    ap (λ n. take m (put_mid (2 * n) k reply buf)) same
    ∙ ap (λ b. take m (put_mid (2 * words) k reply b)) e
    ∙ take_written (2 * words) m reply (little_bytes 2 word) (rest ++ post_of (2 * words) k reply) to within
    ∙ ap (λ w. take (2 * words) reply ++ w) (same_word word value low)
