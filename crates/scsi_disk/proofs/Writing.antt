-- What READ and WRITE promise together.
use Rattle.std.proofs.Common.{◌≡◌, ◌⊎◌, ℕ, ◌+◌, ◌*◌, ◌≤◌, true, false, eqb, min, List, [], ◌++◌, length, take, drop, Option, Some, None, refl, sym, ap, ◌∙◌, inl, inr, arith}
use Rattle.std.proofs.lemmas.List.{places, same_lists, length-take, length-drop, length-append, drop_at, take_at, length-take-le, append_assoc}
use Rattle.std.proofs.lemmas.Bool.{cases_Bool, eqb-true}
use Rattle.std.proofs.lemmas.Bool.Decides.{nat_tests}
use Rattle.scsi_disk.specs.declared.command.Command.{Command}
use Rattle.scsi_disk.specs.declared.operation.Transfer.{Transfer}
use Rattle.scsi_disk.specs.declared.operation.Operation.{Operation}
use Rattle.scsi_disk.specs.declared.operation.Operation.TheVariants.{TestUnitReady, Inquiry, ReadCapacity, Read, Write}
use Rattle.scsi_disk.specs.Operation.{operation_of}
use Rattle.scsi_disk.specs.Disk.{is_in_range, block_at, with_data}
use Rattle.scsi_disk.specs.Performed.{Outcome, good, performed, answered, write_outcome, read_result}
use Rattle.scsi_disk.specs.Laws.{IsOutside, ReadAfterWrite, OtherBlocksStay, SizeStays, CheckChangesNothing}

-- bytes with others in their place keep their number
length-pasted : (at : ℕ) (ys xs : List ℕ) → at + length ys ≤ length xs → length (take at xs ++ ys ++ drop (at + length ys) xs) ≡ length xs
length-pasted at ys xs within =
    omega (arith, length-append (take at xs ++ ys) (drop (at + length ys) xs), length-append (take at xs) ys, length-take at xs, length-drop (at + length ys) xs)

-- what was put in stands there
at_pasted : (at n : ℕ) (ys xs : List ℕ) → at ≤ length xs → n ≡ length ys → take n (drop at (take at xs ++ ys ++ drop (at + length ys) xs)) ≡ ys
at_pasted at n ys xs within is =
    rw (append_assoc (take at xs) ys (drop (at + length ys) xs), drop_at (take at xs) (ys ++ drop (at + length ys) xs) at (length-take-le at xs within))
    (take_at ys (drop (at + length ys) xs) n (sym is))

-- and what stands elsewhere stays
beside_pasted : (i n at : ℕ) (ys xs : List ℕ) → at + length ys ≤ length xs → (i + n ≤ at) ⊎ (at + length ys ≤ i) → take n (drop i (take at xs ++ ys ++ drop (at + length ys) xs)) ≡ take n (drop i xs)
beside_pasted i n at ys xs within beside =
    same_lists _ _ (let e = length-pasted at ys xs within in grind (arith, length-take, length-drop))
    (λ k d h. grind (arith, places))

-- the blocks of a transfer in range lie within the bytes
in_range : (bytes : List ℕ) (transfer : Transfer) → is_in_range bytes transfer ≡ true → 512 * transfer.address + 512 * transfer.blocks ≤ length bytes
in_range bytes transfer is =
    grind (arith, nat_tests)

-- a WRITE puts its data in place, or it is refused and changes nothing
written_cases : (bytes payload : List ℕ) (transfer : Transfer) →
    ((write_outcome bytes payload transfer ≡ record { bytes = with_data transfer.address payload bytes; result = good [] })
    × (512 * transfer.address + length payload ≤ length bytes) × (length payload ≡ 512 * transfer.blocks))
    ⊎ (((write_outcome bytes payload transfer).bytes ≡ bytes) × ((write_outcome bytes payload transfer).result.status ≡ 2))
written_cases bytes payload transfer =
    elim (cases_Bool (is_in_range bytes transfer)) [
      | inr beyond ↦ inr (rw beyond refl, rw beyond refl)
      | inl inside ↦
          elim (cases_Bool (eqb (length payload) (512 * transfer.blocks))) [
            | inr differs ↦ inr (rw (inside, differs) refl, rw (inside, differs) refl)
            | inl same ↦
                let is : length payload ≡ 512 * transfer.blocks = eqb-true _ _ same in
                let within = in_range bytes transfer inside in
                inl (rw (inside, same) refl, omega arith, is)
          ]
    ]

-- the logical unit is there
performed_at : (bytes : List ℕ) (command : Command) → command.lun ≡ 0 → performed bytes command ≡ answered bytes command (operation_of command.cdb)
performed_at bytes command is = rw is refl

-- a command for another logical unit changes nothing
unperformed : (bytes : List ℕ) (command : Command) → eqb command.lun 0 ≡ false → (performed bytes command).bytes ≡ bytes
unperformed bytes command differs = rw differs refl

answered_size : (bytes : List ℕ) (command : Command) (o : Option Operation) → length (answered bytes command o).bytes ≡ length bytes
answered_size bytes command None = refl
answered_size bytes command (Some TestUnitReady) = refl
answered_size bytes command (Some (Inquiry evpd allocated)) = refl
answered_size bytes command (Some ReadCapacity) = refl
answered_size bytes command (Some (Read transfer)) = refl
answered_size bytes command (Some (Write transfer)) =
    elim (written_cases bytes command.payload transfer) [
      | inl done ↦ rw done.0 (length-pasted (512 * transfer.address) command.payload bytes done.1)
      | inr refused ↦ ap length refused.0
    ]

pub size_stays : SizeStays
size_stays bytes command =
    elim (cases_Bool (eqb command.lun 0)) [
      | inl same ↦ let is = eqb-true command.lun 0 same in rw (performed_at bytes command is) (answered_size bytes command (operation_of command.cdb))
      | inr differs ↦ ap length (unperformed bytes command differs)
    ]

answered_check : (bytes : List ℕ) (command : Command) (o : Option Operation) → (answered bytes command o).result.status ≡ 2 → (answered bytes command o).bytes ≡ bytes
answered_check bytes command None check = refl
answered_check bytes command (Some TestUnitReady) check = refl
answered_check bytes command (Some (Inquiry evpd allocated)) check = refl
answered_check bytes command (Some ReadCapacity) check = refl
answered_check bytes command (Some (Read transfer)) check = refl
answered_check bytes command (Some (Write transfer)) check =
    elim (written_cases bytes command.payload transfer) [
      | inl done ↦ absurd (omega (arith, sym (ap (λ (o : Outcome). o.result.status) done.0) ∙ check))
      | inr refused ↦ refused.0
    ]

pub check_changes_nothing : CheckChangesNothing
check_changes_nothing bytes command check =
    elim (cases_Bool (eqb command.lun 0)) [
      | inl same ↦
          let run = performed_at bytes command (eqb-true command.lun 0 same) in
          ap (λ (o : Outcome). o.bytes) run
          ∙ answered_check bytes command (operation_of command.cdb) (sym (ap (λ (o : Outcome). o.result.status) run) ∙ check)
      | inr differs ↦ unperformed bytes command differs
    ]

answered_block : (bytes : List ℕ) (command : Command) (block : ℕ) (o : Option Operation) → ((transfer : Transfer) → o ≡ Some (Write transfer) → IsOutside block transfer) → block_at block (answered bytes command o).bytes ≡ block_at block bytes
answered_block bytes command block None outside = refl
answered_block bytes command block (Some TestUnitReady) outside = refl
answered_block bytes command block (Some (Inquiry evpd allocated)) outside = refl
answered_block bytes command block (Some ReadCapacity) outside = refl
answered_block bytes command block (Some (Read transfer)) outside = refl
answered_block bytes command block (Some (Write transfer)) outside =
    elim (written_cases bytes command.payload transfer) [
      | inl done ↦
          rw done.0
          (beside_pasted (512 * block) 512 (512 * transfer.address) command.payload bytes done.1
          (elim (outside transfer refl) [ inl before ↦ inl (omega arith) | inr past ↦ inr (omega (arith, done.2)) ]))
      | inr refused ↦ ap (block_at block) refused.0
    ]

pub other_blocks_stay : OtherBlocksStay
other_blocks_stay bytes command block outside =
    elim (cases_Bool (eqb command.lun 0)) [
      | inl same ↦
          let is = eqb-true command.lun 0 same in
          rw (performed_at bytes command is)
          (answered_block bytes command block (operation_of command.cdb) (λ transfer asks. outside transfer (is, asks)))
      | inr differs ↦ ap (block_at block) (unperformed bytes command differs)
    ]

-- what a READ in range gives
read_back : (bytes payload : List ℕ) (len : ℕ) (transfer : Transfer) → 512 * transfer.address + length payload ≤ length bytes → length payload ≡ 512 * transfer.blocks → length payload ≤ 4096 → length payload ≤ len → is_in_range (with_data transfer.address payload bytes) transfer ≡ true → read_result (with_data transfer.address payload bytes) len transfer ≡ good payload
read_back bytes payload len transfer within is few takes in_range =
    let count : min (min len 4096) (512 * transfer.blocks) ≡ length payload = omega arith in
    rw in_range (ap good (at_pasted (512 * transfer.address) (min (min len 4096) (512 * transfer.blocks)) payload bytes (omega arith) count))

-- the blocks of a transfer that were in range still are, on a disk of the same size
still_in_range : (bytes payload : List ℕ) (transfer : Transfer) → is_in_range bytes transfer ≡ true → 512 * transfer.address + length payload ≤ length bytes → is_in_range (with_data transfer.address payload bytes) transfer ≡ true
still_in_range bytes payload transfer is within =
    rw (length-pasted (512 * transfer.address) payload bytes within) is

-- a WRITE that was GOOD was in range
good_in_range : (bytes payload : List ℕ) (transfer : Transfer) → (write_outcome bytes payload transfer).result.status ≡ 0 → is_in_range bytes transfer ≡ true
good_in_range bytes payload transfer done =
    elim (cases_Bool (is_in_range bytes transfer)) [
      | inl inside ↦ inside
      | inr beyond ↦ absurd (let status : (write_outcome bytes payload transfer).result.status ≡ 2 = rw beyond refl in omega arith)
    ]

read_after_good : (bytes payload : List ℕ) (len : ℕ) (transfer : Transfer) → length payload ≤ 4096 → length payload ≤ len → (write_outcome bytes payload transfer).result.status ≡ 0 → read_result (write_outcome bytes payload transfer).bytes len transfer ≡ good payload
read_after_good bytes payload len transfer few takes done =
    elim (written_cases bytes payload transfer) [
      | inr refused ↦ absurd (omega (arith, refused.1))
      | inl put ↦
          rw put.0
          (read_back bytes payload len transfer put.1 put.2 few takes
          (still_in_range bytes payload transfer (good_in_range bytes payload transfer done) put.1))
    ]

pub read_after_write : ReadAfterWrite
read_after_write bytes write read transfer writes reads few takes done =
    let wrote : performed bytes write ≡ write_outcome bytes write.payload transfer =
    performed_at bytes write writes.0 ∙ ap (answered bytes write) writes.1 in
    let status = sym (ap (λ (o : Outcome). o.result.status) wrote) ∙ done in
    rw wrote
    (ap (λ (o : Outcome). o.result) (performed_at _ read reads.0 ∙ ap (answered _ read) reads.1)
    ∙ read_after_good bytes write.payload read.len transfer few takes status)
