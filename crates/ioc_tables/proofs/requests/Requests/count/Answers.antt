use Rattle.std.proofs.Common.{◌≡◌, ℕ, count_by, is_some, length, take, sym, ap, ◌∙◌, arith}
use Rattle.std.proofs.Math.Seq.{take-length}
use Rattle.std.proofs.lemmas.List.{length-map}
use Rattle.ioc_tables.specs.Keys.{record_under}
use Rattle.ioc_tables.proofs.requests.Requests.count.Goals as goal

pub returns-clause-value : goal.returns-clause-value
returns-clause-value c =
    let size : length c.args.self.now ≡ 280 =
    ap length (sym c.self.view_is) ∙ length-map c.self.inside.keys.items (record_under c.self.inside.records) ∙ c.self.invariant.sound.size in
    let all : c.loop-place.place ≡ length c.args.self.now = omega (arith, size) in
    c.loop-place.invariant.counted ∙ ap (λ (n : ℕ). count_by is_some (take n c.args.self.now)) all ∙ ap (count_by is_some) (take-length c.args.self.now)
