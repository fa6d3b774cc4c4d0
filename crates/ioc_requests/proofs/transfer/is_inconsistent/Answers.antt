use Rattle.std.proofs.Common.{◌≡◌, ◌≢◌, ℕ, ◌==◌, false, if◌then◌else◌, arith}
use Rattle.std.proofs.lemmas.Bool.Decides.{nat_tests}
use Rattle.ioc_requests.proofs.Transfers.{inconsistent_is}
use Rattle.ioc_requests.proofs.transfer.is_inconsistent.Goals as goal
use Rattle.ioc_requests.proofs.transfer.is_inconsistent.Goals.{then-to_disk, else-to_disk}

apart : (a : ℕ) → a ≢ 1 → (a == 1) ≡ false
apart a differs = grind (arith, nat_tests, differs)

pub returns : goal.returns
returns c =
    let io = c.args.io.now in
    let held : c.if-to_disk.held ≡ (if io.control_direction == 1 then io.data_length else 0) =
    elim c.if-to_disk.branch [
      | then-to_disk w ↦ rw w.if-to_disk.true w.held-is
      | else-to_disk w ↦ rw (apart io.control_direction w.if-to_disk.false) w.held-is
    ] in
    rw c.len.ensures.value (inconsistent_is io c.args.post.now.frame c.args.post.now.payload c.differ.result c.differ-2.result c.if-to_disk.held c.requires c.differ.ensures c.differ-2.ensures held)
