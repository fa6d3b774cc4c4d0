use Rattle.std.proofs.Common.{◌≡◌, ◌-◌, length, take, drop, ap, ◌∙◌}
use Rattle.std.specs.Prelude.{slice_index}
use Rattle.std.proofs.lemmas.List.{take_rest}
use Rattle.mpt_cli.specs.ScatterInput.{frames_begun, frames_in}
use Rattle.mpt_cli.proofs.scatter_input.chained_in.Goals as goal

pub returns : goal.returns
returns c =
    let bytes = c.args.bytes.now in
    let first : c.first_area.result ≡ take 32 (drop 1 bytes) = c.first_area.ensures ∙ ap (take 32) (take_rest bytes 1) in
    let frames : c.new.result ≡ frames_in (frames_begun (length bytes)) (drop 33 bytes) = c.new.ensures ∙ c.in_ok-frames.ensures ∙ ap (λ n. frames_in n (take (length bytes - 33) (drop 33 bytes))) c.frames_begun.ensures ∙ ap (frames_in (frames_begun (length bytes))) (take_rest bytes 33) in
    ap (λ area. record { offset = slice_index bytes 0; first = area; frames = c.new.result }) first ∙ ap (λ fs. record { offset = slice_index bytes 0; first = take 32 (drop 1 bytes); frames = fs }) frames
