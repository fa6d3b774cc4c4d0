-- The words of the command line.
use Rattle.std.specs.Prelude.{ℕ, List, [], ◌∷◌, bytes_eq, Option, Some, None, codes, if◌then◌else◌}
use Rattle.mptlive.specs.declared.kind.ReportKind.{ReportKind}
use Rattle.mptlive.specs.declared.kind.ReportKind.TheVariants.{Short, Whole}

-- what the words ask for
abbrev pub kind_of : List (List ℕ) → Option ReportKind
kind_of [] = Some Whole
kind_of (word ∷ []) = if bytes_eq word (codes "show") then Some Short else None
kind_of _ = None
