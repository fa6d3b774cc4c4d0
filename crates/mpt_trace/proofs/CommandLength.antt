-- The CDB of a form names the form's length.
use Rattle.std.proofs.Common.{ℕ, ◌*◌, ◌^◌, ◌<◌, Some, [], ◌∷◌, refl, ap, arith}
use Rattle.byteorder.specs.Numbers.{big_number-reads_back}
use Rattle.scsi_disk.specs.Operation.{operation_of}
use Rattle.mpt_trace.specs.declared.command_form.CommandForm.{CommandForm}
use Rattle.mpt_trace.specs.declared.command_form.CommandForm.TheVariants as form
use Rattle.mpt_trace.specs.Command.{FitsItsCdb, NamesItsLength}

wide_4 : (n : ℕ) → n < 2 ^ 16 → n < 256 ^ 4
wide_4 n h = omega arith

pub names_its_length : (f : CommandForm) → FitsItsCdb f → NamesItsLength f
unfolding operation_of
names_its_length form.Tur h = refl
names_its_length (form.Inquiry len) h = ap Some (big_number-reads_back 2 len (0 ∷ []) h)
names_its_length form.Capacity h = refl
names_its_length (form.Read lba blocks) h = ap (λ n. Some (512 * n)) (big_number-reads_back 2 blocks (0 ∷ []) h)
names_its_length (form.Write lba blocks fill) h = ap (λ n. Some (512 * n)) (big_number-reads_back 2 blocks (0 ∷ []) h)
names_its_length (form.Read16 lba blocks) h = ap (λ n. Some (512 * n)) (big_number-reads_back 4 blocks (0 ∷ 0 ∷ []) (wide_4 blocks h))
names_its_length (form.Write16 lba blocks fill) h = ap (λ n. Some (512 * n)) (big_number-reads_back 4 blocks (0 ∷ 0 ∷ []) (wide_4 blocks h))
names_its_length (form.Raw cdb len) h = tt
