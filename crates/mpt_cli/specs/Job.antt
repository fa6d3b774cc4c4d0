-- The words of the command line.
use Rattle.std.specs.Prelude.{ℕ, List, [], ◌∷◌, bytes_eq, Option, Some, None, codes, if◌then◌else◌}
use Rattle.std.specs.Option.{option_map}
use Rattle.mpt_lines.specs.Numbers.{word_number}
use Rattle.mpt_messages.specs.declared.function.Kind.TheVariants as kind
use Rattle.mpt_cli.specs.declared.job.Decoded.{Decoded}
use Rattle.mpt_cli.specs.declared.job.Decoded.TheVariants as decoded
use Rattle.mpt_cli.specs.declared.job.Job.{Job}
use Rattle.mpt_cli.specs.declared.job.Job.TheVariants as job
use Rattle.mpt_cli.specs.declared.job.Question.TheVariants as question

-- what a word after `decode` names
abbrev pub decoded_of : List ℕ → Option Decoded
decoded_of word =
    if bytes_eq word (codes "scsi") then Some (decoded.Request kind.ScsiIo)
    else if bytes_eq word (codes "high") then Some (decoded.Request kind.HighPriority)
    else if bytes_eq word (codes "default") then Some (decoded.Request kind.Default)
    else if bytes_eq word (codes "door") then Some (decoded.Request kind.Handshake)
    else if bytes_eq word (codes "reply") then Some decoded.Reply
    else if bytes_eq word (codes "post") then Some decoded.Post
    else if bytes_eq word (codes "answer") then Some decoded.Answer
    else if bytes_eq word (codes "page0") then Some decoded.Page0
    else if bytes_eq word (codes "sgl") then Some decoded.ScatterList
    else None

abbrev pub decode_job : Decoded → Job
decode_job what = job.Answer (question.Decode what)

-- the job that the words name
abbrev pub job_of : List (List ℕ) → Option Job
job_of (word ∷ []) =
    if bytes_eq word (codes "replay") then Some (job.Answer question.Replay)
    else if bytes_eq word (codes "show") then Some (job.Answer question.Show)
    else None
job_of (first ∷ second ∷ []) =
    if bytes_eq first (codes "decode") then option_map decode_job (decoded_of second)
    else if bytes_eq first (codes "gen") then option_map job.Gen (word_number second)
    else None
job_of _ = None
