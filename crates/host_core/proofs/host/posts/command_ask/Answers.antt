use Rattle.std.proofs.Common.{◌≡◌, ◌∙◌, ℕ, ◌++◌, length, drop, replicate, refl, sym, true, false}
use Rattle.std.proofs.lemmas.List.{drop-replicate}
use Rattle.mpt_rules.specs.Host.Posts.{is_data_to_disk, padded_cdb}
use Rattle.host_core.proofs.Commands.{is_command, sends_data, sends_no_data}
use Rattle.host_core.proofs.host.posts.command_ask.Goals as goal

pub returns-in-Write-clause-value : goal.returns-in-Write-clause-value
returns-in-Write-clause-value c =
    rw (c.copy_from_slice.ensures.after, c.as_slice-bytes.ensures.value, sends_data c.args.command.now c.in-Write.ensures, drop-replicate {X = ℕ} (length c.args.command.now.cdb) 16 0) refl

pub returns-in-Write-clause-known : goal.returns-in-Write-clause-known
returns-in-Write-clause-known c =
    let padded : c.copy_from_slice.new.self ++ drop (length c.as_slice-bytes.result.now) (replicate 16 0) ≡ padded_cdb c.args.command.now.cdb =
    rw (c.copy_from_slice.ensures.after, c.as_slice-bytes.ensures.value, drop-replicate {X = ℕ} (length c.args.command.now.cdb) 16 0) refl in
    rw (padded, c.as_slice-bytes.ensures.value)
    (is_command c.args.command.now c.args.smid _ true c.requires.smid c.requires.fits refl (sym (sends_data c.args.command.now c.in-Write.ensures)))

pub returns-in_default : goal.returns-in_default
returns-in_default c =
    let none : is_data_to_disk c.args.command.now ≡ false = sends_no_data c.args.command.now (λ is. c.in_default.not-Write (c.direction.ensures ∙ is)) in
    let padded : c.copy_from_slice.new.self ++ drop (length c.as_slice-bytes.result.now) (replicate 16 0) ≡ padded_cdb c.args.command.now.cdb =
    rw (c.copy_from_slice.ensures.after, c.as_slice-bytes.ensures.value, drop-replicate {X = ℕ} (length c.args.command.now.cdb) 16 0) refl in
    record {
      value = rw (padded, c.as_slice-bytes.ensures.value, none) refl;
      known = rw (padded, c.as_slice-bytes.ensures.value)
          (is_command c.args.command.now c.args.smid _ false c.requires.smid c.requires.fits refl (sym none));
    }
