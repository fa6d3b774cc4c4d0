-- The commands of a `submit` line, by their words.
use Rattle.std.specs.Prelude.{ℕ, List, [], ◌∷◌, Result, Ok, codes}
use Rattle.mpt_trace.specs.declared.command_form.CommandForm.{CommandForm}
use Rattle.mpt_trace.specs.declared.command_form.CommandForm.TheVariants.{Tur, Inquiry, Capacity, Read, Write, Read16, Write16, Raw}
use Rattle.mpt_lines.specs.declared.fault.Cause.{Cause}
use Rattle.mpt_lines.specs.Numbers.{◌>>=◌, number, within, byte, cdb, checked_bytes}
use Rattle.mpt_lines.specs.Words.{Keyword, keyword, nothing, one, read_by, two, three}

-- `tur`
abbrev pub tur : List (List ℕ) → Result CommandForm Cause
tur words = do
  none ← nothing words
  Ok Tur

-- `inquiry <len>`
abbrev pub inquiry : List (List ℕ) → Result CommandForm Cause
inquiry words = do
  word ← one words
  length ← number word
  len ← within 0 65535 length
  Ok (Inquiry len)

-- `capacity`
abbrev pub capacity : List (List ℕ) → Result CommandForm Cause
capacity words = do
  none ← nothing words
  Ok Capacity

-- `<lba> <blocks>`: the first block, at most this, and how many
abbrev pub extent : ℕ → List (List ℕ) → Result (ℕ × ℕ) Cause
extent most words = do
  w ← two words
  first ← number w.0
  count ← number w.1
  lba ← within 0 most first
  blocks ← within 0 65535 count
  Ok (lba, blocks)

-- `<lba> <blocks> <hh>`: with the byte that is written to each
abbrev pub filled_extent : ℕ → List (List ℕ) → Result (ℕ × ℕ × ℕ) Cause
filled_extent most words = do
  w ← three words
  first ← number w.0
  count ← number w.1
  fill ← byte w.2
  lba ← within 0 most first
  blocks ← within 0 65535 count
  Ok (lba, blocks, fill)

-- `read <lba> <blocks>`
abbrev pub read : List (List ℕ) → Result CommandForm Cause
read words = do
  e ← extent 4294967295 words
  Ok (Read e.0 e.1)

-- `write <lba> <blocks> <hh>`
abbrev pub write : List (List ℕ) → Result CommandForm Cause
write words = do
  e ← filled_extent 4294967295 words
  Ok (Write e.0 e.1 e.2)

-- `read16 <lba> <blocks>`
abbrev pub read16 : List (List ℕ) → Result CommandForm Cause
read16 words = do
  e ← extent 18446744073709551615 words
  Ok (Read16 e.0 e.1)

-- `write16 <lba> <blocks> <hh>`
abbrev pub write16 : List (List ℕ) → Result CommandForm Cause
write16 words = do
  e ← filled_extent 18446744073709551615 words
  Ok (Write16 e.0 e.1 e.2)

-- `raw <hex> <len>`
abbrev pub raw : List (List ℕ) → Result CommandForm Cause
raw words = do
  w ← two words
  named ← checked_bytes w.0
  length ← number w.1
  block ← cdb w.0
  len ← within 0 4294967295 length
  Ok (Raw block len)

-- the commands by their names
abbrev pub commands : List (Keyword CommandForm)
commands =
    keyword (codes "tur") tur
    ∷ keyword (codes "inquiry") inquiry
    ∷ keyword (codes "capacity") capacity
    ∷ keyword (codes "read") read
    ∷ keyword (codes "write") write
    ∷ keyword (codes "read16") read16
    ∷ keyword (codes "write16") write16
    ∷ keyword (codes "raw") raw
    ∷ []

-- a command by its first word and the words after it
abbrev pub command : List (List ℕ) → Result CommandForm Cause
command words = read_by commands words
