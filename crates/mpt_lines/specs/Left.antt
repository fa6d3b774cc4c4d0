-- The pieces that are left of a text.
use Rattle.std.specs.Prelude.{ℕ, List, [], Option, Some, None}
use Rattle.mpt_lines.specs.Words.{pieces}
use denote.Ref.{Bor}

-- those of what is left of the text, if a separator stood before it
abbrev pub pieces_left : ℕ → Option (Bor (List ℕ)) → List (List ℕ)
pieces_left separator None = []
pieces_left separator (Some rest) = pieces separator rest.now
