-- A word that isn't UTF-8 is no keyword.
use Rattle.std.proofs.Common.{◌≡◌, ℕ, zero, suc, ◌<◌, nat_lt, ◌&&◌, ◌||◌, Bool, true, false, cond, List, [], ◌∷◌, ◌++◌, find, Some, IsTrue, bytes_eq, slice_index, refl, sym, ◌∙◌, subst, arith}
use Rattle.std.specs.Prelude.{IsUtf8}
use Rattle.std.specs.List.{list_all, list_any}
use Rattle.std.proofs.lemmas.Slice.Eq.{bytes_eq-Decides}
use Rattle.std.proofs.lemmas.Str.{IsUtf8-from_ascii}
use Rattle.mpt_lines.specs.Words.{Keyword, is_name, read_by, read_with}

both : (a b : Bool) → IsTrue (a && b) → IsTrue a × IsTrue b
both true b t = (refl, t)
both false b t = absurd (cc)

below : (c : ℕ) (b : Bool) → nat_lt c 128 ≡ b → IsTrue b → c < 128
below c true e t = grind (arith, e)
below c false e t = absurd (cc)

ascii : (cs : List ℕ) → IsTrue (list_all (λ b. nat_lt b 128) cs) → (i : ℕ) → slice_index cs i < 128
ascii [] t i = search arith
ascii (c ∷ cs) t zero = below c (nat_lt c 128) refl (both (nat_lt c 128) (list_all (λ b. nat_lt b 128) cs) t).0
ascii (c ∷ cs) t (suc i) = ascii cs (both (nat_lt c 128) (list_all (λ b. nat_lt b 128) cs) t).1 i

pub none_named : (word name : List ℕ) → (IsUtf8 word → ⊥) → IsTrue (is_name name) → bytes_eq [] name ≡ bytes_eq word name
none_named word [] bad n = absurd (cc)
none_named word (c ∷ cs) bad n = sym (no_match (bytes_eq word (c ∷ cs)) refl)
  where
    no_match : (b : Bool) → bytes_eq word (c ∷ cs) ≡ b → b ≡ false
    no_match false e = refl
    no_match true e = absurd (bad (subst IsUtf8 (sym ((bytes_eq-Decides word (c ∷ cs)).0 e)) (IsUtf8-from_ascii (c ∷ cs) (ascii (c ∷ cs) n))))

-- a word whose text isn't this name isn't this name
pub not_named : (text word name : List ℕ) → bytes_eq text name ≡ bytes_eq word name → (text ≡ name → ⊥) → bytes_eq word name ≡ false
not_named text word name same other = sym same ∙ no_match (bytes_eq text name) refl
  where
    no_match : (b : Bool) → bytes_eq text name ≡ b → b ≡ false
    no_match false e = refl
    no_match true e = absurd (other ((bytes_eq-Decides text name).0 e))

-- keywords of which the word is none don't count
pub passed_over : {A : Type 0} (keywords others : List (Keyword A)) (word : List ℕ) (words : List (List ℕ)) → list_any (λ k. bytes_eq word k.word) keywords ≡ false
    → read_by (keywords ++ others) (word ∷ words) ≡ read_by others (word ∷ words)
passed_over [] others word words e = refl
passed_over (k ∷ keywords) others word words e = by_word (bytes_eq word k.word) e (λ f. passed_over keywords others word words f)
  where
    by_word : (b : Bool) → (b || list_any (λ j. bytes_eq word j.word) keywords) ≡ false
        → (list_any (λ j. bytes_eq word j.word) keywords ≡ false → read_by (keywords ++ others) (word ∷ words) ≡ read_by others (word ∷ words))
        → read_with (cond b (Some k) (find (λ j. bytes_eq word j.word) (keywords ++ others))) words ≡ read_by others (word ∷ words)
    by_word true e rest = absurd (cc)
    by_word false e rest = rest e
