use Rattle.std.proofs.Common.{◌≡◌, List, ◌∷◌, ℕ, IsTrue, bytes_eq, codes, false, refl, sym, ◌∙◌}
use Rattle.std.specs.List.{list_any}
use Rattle.mpt_lines.specs.Words.{is_name, read_by}
use Rattle.mpt_lines.specs.Statements.{schedule_words, shared_words}
use Rattle.mpt_lines.proofs.Names.{not_named, passed_over}
use Rattle.mpt_lines.proofs.statement.schedule_line.Goals as goal

-- the word is none of a schedule's own
pub returns-in_default-text_of : goal.returns-in_default-text_of
returns-in_default-text_of c =
    let word : List ℕ = c.in-Some.word.now in
    let other : (name : List ℕ) → IsTrue (is_name name) → (c.text_of.result.now ≡ name → ⊥) → bytes_eq word name ≡ false = λ name n o. not_named c.text_of.result.now word name (c.text_of.ensures name n) o in
    let k0 = other (codes "start") refl c.in_default-text_of.not-start in
    let k1 = other (codes "unit") refl c.in_default-text_of.not-unit in
    let k2 = other (codes "drain") refl c.in_default-text_of.not-drain in
    let k3 = other (codes "host-put") refl c.in_default-text_of.not-text in
    let k4 = other (codes "host-take") refl c.in_default-text_of.not-text-2 in
    let k5 = other (codes "host-take-on") refl c.in_default-text_of.not-text-3 in
    let k6 = other (codes "ioc-take") refl c.in_default-text_of.not-text-4 in
    let k7 = other (codes "ioc-high") refl c.in_default-text_of.not-text-5 in
    let k8 = other (codes "ioc-normal") refl c.in_default-text_of.not-text-6 in
    let k9 = other (codes "ioc-out") refl c.in_default-text_of.not-text-7 in
    let k10 = other (codes "ioc-back") refl c.in_default-text_of.not-text-8 in
    let k11 = other (codes "ioc-put") refl c.in_default-text_of.not-text-9 in
    let k12 = other (codes "ioc-put-on") refl c.in_default-text_of.not-text-10 in
    let k13 = other (codes "fabric-take") refl c.in_default-text_of.not-text-11 in
    let k14 = other (codes "fabric-run") refl c.in_default-text_of.not-text-12 in
    let k15 = other (codes "fabric-say") refl c.in_default-text_of.not-text-13 in
    let k16 = other (codes "fabric-put") refl c.in_default-text_of.not-text-14 in
    let none : list_any (λ k. bytes_eq word k.word) schedule_words ≡ false = rw (k0, k1, k2, k3, k4, k5, k6, k7, k8, k9, k10, k11, k12, k13, k14, k15, k16) refl in
    let said : c.shared_line.result ≡ read_by shared_words (word ∷ c.take.new.self) = c.shared_line.ensures in
    let whole : c.args.words ≡ word ∷ c.take.new.self = c.in-Some.ensures in
    rw whole (said ∙ sym (passed_over schedule_words shared_words word c.take.new.self none))
