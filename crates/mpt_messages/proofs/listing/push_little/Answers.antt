use Rattle.std.proofs.Common.{◌≡◌, ◌++◌, OnOk, take, subst, ap, ◌∙◌}
use Rattle.byteorder.specs.Endian.{little_bytes}
use Rattle.mpt_text.specs.Words.{bytes_text}
use Rattle.mpt_text.proofs.LowBytes.{low_little_bytes}
use Rattle.mpt_messages.proofs.listing.push_little.Goals as goal

pub returns : goal.returns
returns c =
    let low : take c.args.width c.to_le_bytes-bytes.result ≡ little_bytes c.args.width c.args.value = ap (take c.args.width) c.to_le_bytes-bytes.ensures ∙ low_little_bytes c.args.width c.args.value c.requires in
    subst (λ xs. OnOk c.push_bytes.result (c.push_bytes.new.self ≡ c.args.text.now ++ bytes_text xs)) low c.push_bytes.ensures.ok
