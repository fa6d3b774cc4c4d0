-- What an entry of a trace made so, and no entry behind it ended.
use Rattle.std.specs.Prelude.{◌≡◌, Bool, false, List, ◌∷◌, ◌++◌}
use Rattle.std.specs.List.{list_any}
use Rattle.mpt_trace.specs.declared.entry.Entry.{Entry}

-- an entry that makes it so stands among these, and none behind that one ends it
pub record Lasts (Makes : Entry → Type 0) (ends : Entry → Bool) (before : List Entry) : Type 0 where
  pub earlier : List Entry
  pub maker : Entry
  pub since : List Entry
  pub split : before ≡ earlier ++ maker ∷ since
  pub makes : Makes maker
  pub kept : list_any ends since ≡ false

-- no entry ends it
abbrev pub never : Entry → Bool
never e = false
