use Rattle.std.proofs.Common.{◌≡◌, ◌-◌, ◌++◌, OnOk, length, take, drop, subst, ap, ◌∙◌, arith}
use Rattle.std.proofs.lemmas.List.{take_all, length-drop}
use Rattle.byteorder.specs.Endian.{big_bytes}
use Rattle.hex.specs.Hex.{encode_lower}
use Rattle.mpt_text.proofs.LowBytes.{low_big_bytes}
use Rattle.mpt_text.proofs.text.Text.push_hex.Goals as goal

pub returns-clause-ok : goal.returns-clause-ok
returns-clause-ok c =
    let low : drop (8 - c.args.width) c.to_be_bytes-bytes.result ≡ big_bytes c.args.width c.args.number = ap (drop (8 - c.args.width)) c.to_be_bytes-bytes.ensures ∙ low_big_bytes c.args.width c.args.number c.requires in
    let whole : take (8 - (8 - c.args.width)) (drop (8 - c.args.width) c.to_be_bytes-bytes.result) ≡ drop (8 - c.args.width) c.to_be_bytes-bytes.result = take_all (8 - (8 - c.args.width)) (drop (8 - c.args.width) c.to_be_bytes-bytes.result) (simp length-drop (omega (arith, ap length c.to_be_bytes-bytes.ensures))) in
    subst (λ xs. OnOk c.push_digits.result (c.push_digits.new.self ≡ c.args.self.now ++ encode_lower xs)) (whole ∙ low) c.push_digits.ensures.ok
