-- The schedules that numbers name.
use Rattle.std.specs.Prelude.{ℕ, ◌+◌, ◌-◌, ◌*◌, ◌/◌, ◌%◌, ◌==◌, ◌&&◌, not, nat_le, nat_lt, Bool, true, false, if◌then◌else◌, List, [], ◌∷◌, ◌++◌, map, set, zero, suc}
use Rattle.std.specs.List.{slice_index_or}
use Rattle.mpt_trace.specs.declared.command_form.CommandForm.TheVariants as form
use Rattle.mpt_trace.specs.declared.input.Input.TheVariants as input
use Rattle.mpt_script.specs.declared.generator.Generator.{Generator}
use Rattle.mpt_script.specs.declared.line.Line.{Line}
use Rattle.mpt_script.specs.declared.line.Line.TheVariants as line

-- the linear congruential generator's next state
abbrev pub next_state : ℕ → ℕ
next_state x = (1103515245 * x + 12345) % 2147483648

-- the draw of a state
abbrev pub draw_of : ℕ → ℕ
draw_of x = x / 65536

-- the addresses of the eight disks, by their places from 0
abbrev pub disk_address : ℕ → ℕ
disk_address place = 0x5000_c500_0000_0001 + place

abbrev pub places : List ℕ
places = 0 ∷ 1 ∷ 2 ∷ 3 ∷ 4 ∷ 5 ∷ 6 ∷ 7 ∷ []

abbrev pub disk_line : ℕ → Line
disk_line place = line.Disk (record { address = disk_address place; blocks = 64 })

-- each disk is plugged at the phy of its place
abbrev pub plug_line : ℕ → Line
plug_line place = line.Input (input.Plug (disk_address place) 0 place)

-- eight disks of 64 blocks, one expander, each disk plugged, and the start
abbrev pub head : List Line
head = map disk_line places ++ (line.Expander 8 ∷ []) ++ map plug_line places ++ (line.Input input.Start ∷ line.Drain ∷ [])

-- the first, second and third draw from here on
abbrev pub first : Generator → ℕ
first g = draw_of (next_state g.state)

abbrev pub second : Generator → ℕ
second g = draw_of (next_state (next_state g.state))

abbrev pub third : Generator → ℕ
third g = draw_of (next_state (next_state (next_state g.state)))

-- what the first draw chooses, the place of the disk by the second and the block by the third
abbrev pub kind : Generator → ℕ
kind g = first g % 16

abbrev pub place : Generator → ℕ
place g = second g % 8

abbrev pub block : Generator → ℕ
block g = third g % 64

abbrev pub is_plugged : Generator → Bool
is_plugged g = slice_index_or g.plugged (place g) false

-- the line of turn t
abbrev pub turn_line : ℕ → Generator → Line
turn_line t g =
    if nat_le (kind g) 5 then line.Input (input.Submit t (disk_address (place g)) (form.Write (block g) 1 (t % 256)))
    else if nat_le (kind g) 10 then line.Input (input.Submit t (disk_address (place g)) (form.Read (block g) 1))
    else if kind g == 11 then line.Input (input.Abort (t - 1))
    else if kind g == 12 then line.Input (input.TargetReset (disk_address (place g)))
    else if kind g == 13 then (if is_plugged g then line.Input (input.Unplug (disk_address (place g))) else plug_line (place g))
    else if kind g == 15 && nat_lt g.resets 8 then line.Input input.Reset
    else line.Drain

-- which disks the lines so far leave plugged
abbrev pub plugged_after : Generator → List Bool
plugged_after g = if kind g == 13 then set g.plugged (place g) (not (is_plugged g)) else g.plugged

-- how many resets the lines so far have
abbrev pub resets_after : Generator → ℕ
resets_after g = if kind g == 15 && nat_lt g.resets 8 then g.resets + 1 else g.resets

-- after a turn
abbrev pub turned : Generator → Generator
turned g = record { state = next_state (next_state (next_state g.state)); plugged = plugged_after g; resets = resets_after g }

-- the lines of turn t: after each turn that is a multiple of 64 the system is drained
abbrev pub turn_lines : ℕ → Generator → List Line
turn_lines t g = turn_line t g ∷ (if t % 64 == 0 then line.Drain ∷ [] else [])

-- the lines of so many turns from turn t on, and the last drain
unfoldable pub turns : ℕ → ℕ → Generator → List Line
turns zero t g = line.Drain ∷ []
turns (suc more) t g = turn_lines t g ++ turns more (t + 1) (turned g)

-- the first state that a number names
abbrev pub started : ℕ → Generator
started number = record { state = number % 2147483648; plugged = true ∷ true ∷ true ∷ true ∷ true ∷ true ∷ true ∷ true ∷ []; resets = 0 }

-- the schedule that a number names: the head, and 1,000 turns
abbrev pub generated : ℕ → List Line
generated number = head ++ turns 1000 1 (started number)
