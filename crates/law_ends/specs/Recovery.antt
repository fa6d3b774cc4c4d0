-- How a host gets back a controller that may be in any state, and what it reads then.
use Rattle.std.specs.Prelude.{◌≡◌, ℕ, ◌+◌, ◌≤◌, List, [], ◌∷◌, ◌++◌, None, map, replicate}
use Rattle.mpi_doorbell.specs.Keys.{unlock_keys}
use Rattle.mpi_doorbell.specs.declared.registers.TheConstants.{DIAG_RESET_ADAPTER, DIAG_WRITE_ENABLE, DOORBELL, HOST_DIAGNOSTIC, IOC_STATE_READY, WRITE_SEQUENCE}
use Rattle.mpt_trace.specs.declared.item.Back.TheVariants as back
use Rattle.mpt_trace.specs.declared.item.Down.TheVariants as down
use Rattle.mpt_trace.specs.declared.item.Out.TheVariants as out
use Rattle.mpt_trace.specs.declared.item.Up.TheVariants as up
use Rattle.mpt_rules.specs.Ioc.Parts.{Ioc}
use Rattle.mpt_rules.specs.Ioc.Takes.{front_up_on}
use Rattle.ioc_core.specs.Plays.{after_moves}
use Rattle.ioc_core.specs.declared.moves.IocMove.{IocMove}
use Rattle.ioc_core.specs.declared.moves.IocMove.TheVariants as move
use Rattle.ioc_core.specs.declared.moves.IocSaid.{IocSaid}
use Rattle.ioc_core.specs.declared.moves.IocSaid.TheVariants as said
use Rattle.law_ends.specs.IocEnds.{ioc_reached, ioc_talk}

-- ---- the moves

-- the host writes a register
abbrev pub write_move : ℕ → ℕ → IocMove
write_move reg value = move.Down (down.Write reg value)

-- it writes a key that makes the sequence begin anew, then the sequence, and then resets the adapter
abbrev pub reset_moves : List IocMove
reset_moves =
    map (write_move WRITE_SEQUENCE) (0 ∷ unlock_keys) ++ write_move HOST_DIAGNOSTIC (DIAG_WRITE_ENABLE + DIAG_RESET_ADAPTER) ∷ []

-- the link of this generation is put, and answered
abbrev pub link_moves : ℕ → List IocMove
link_moves generation = move.PutOut ∷ move.Back (back.Linked generation) ∷ []

-- the host ends the reset and reads the Doorbell
abbrev pub read_moves : List IocMove
read_moves = write_move HOST_DIAGNOSTIC DIAG_WRITE_ENABLE ∷ move.Down (down.Read DOORBELL) ∷ []

-- all of them
abbrev pub restart_moves : ℕ → List IocMove
restart_moves generation = reset_moves ++ (link_moves generation ++ read_moves)

-- all of them, and then so many items of reply queue 0 are put
abbrev pub recovery : ℕ → ℕ → List IocMove
recovery generation puts = restart_moves generation ++ replicate puts move.PutUp

-- ---- what comes of them

-- the last thing that is said is the Doorbell's value in READY
pub record EndsReady (talk : List (ℕ × IocSaid)) : Type 0 where
  pub earlier : List (ℕ × IocSaid)
  pub place : ℕ
  pub last : talk ≡ earlier ++ (place, said.Up (up.Value IOC_STATE_READY)) ∷ []

-- reply queue 0 says nothing any more behind the recovery with so many items put
abbrev pub IsSilent : Ioc → ℕ → ℕ → Type 0
IsSilent ioc generation puts = front_up_on (after_moves ioc (recovery generation puts)) 0 ≡ None

-- behind the reset the controller says the link of a generation to the fabric, and nothing else; and behind the whole
-- recovery of that generation, once some items were put and nothing more is said, the last thing said is READY
pub record ComesBack (ioc : Ioc) : Type 0 where
  pub generation : ℕ
  pub links : ioc_talk (after_moves ioc reset_moves) (move.PutOut ∷ move.PutOut ∷ []) ≡ (0, said.Out (out.Link generation)) ∷ []
  pub enough : ℕ
  pub silent : IsSilent ioc generation enough
  pub ready : (puts : ℕ) → IsSilent ioc generation puts → EndsReady (ioc_talk ioc (recovery generation puts))

-- it is so behind any list of moves of a new controller, whatever state they left it in
abbrev pub ControllersComeBack : Type 0
ControllersComeBack = (phys : List ℕ) (q : ℕ) (moves : List IocMove) → 1 ≤ q → ComesBack (ioc_reached phys q moves)
