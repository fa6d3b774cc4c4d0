-- What writes make of a talk.
use Rattle.std.proofs.Common.{◌≡◌, ℕ, ◌<◌, ◌==◌, not, Bool, true, false, if◌then◌else◌, List, [], ◌∷◌, ◌++◌, Option, Some, None, refl, ap, sym, ◌∙◌, subst, arith}
use Rattle.std.specs.Bool.{MatchBool}
use Rattle.std.specs.List.{filter}
use Rattle.std.proofs.lemmas.Bool.{eqb-true}
use Rattle.byteorder.specs.Endian.{little_bytes}
use Rattle.mpi_doorbell.specs.declared.registers.TheConstants.{DOORBELL, REPLY_POST_HOST_INDEX, WRITE_SEQUENCE}
use Rattle.mpt_wire.specs.Messages.DoorbellWords.{IsTalk, MayCut, Quiet, Talk, Talks, doorbell_written, has_been_sent, is_over, opened, value_heard, word_heard, written}
use Rattle.mpt_trace.specs.declared.item.Down.{Down}
use Rattle.mpt_trace.specs.declared.item.Down.TheVariants as down
use Rattle.mpt_rules.specs.Host.Doorbell.{unit_reset_dword}
use Rattle.mpt_rules.specs.Host.Resets as resets
use Rattle.mpt_rules.specs.World.Counts.{how_many, is_register_write, one_if}
use Rattle.law_facts.specs.Ties.{talk_with}
use Rattle.law_facts.specs.Words.{is_doorbell_write}
use Rattle.law_moves.proofs.Counted.{false_by_none, how_many-cons}
use Rattle.law_talks.specs.Talking.{TalkGoesOn}

pub talk-nil : (t : Talk) → talk_with t [] ≡ t
unfolding talk_with
talk-nil t = refl

pub talk-write : (t : Talk) (reg value : ℕ) (xs : List Down) → talk_with t (down.Write reg value ∷ xs) ≡ talk_with (written t reg value) xs
unfolding talk_with
talk-write t reg value xs = refl

pub talk-append : (t : Talk) (xs ys : List Down) → talk_with t (xs ++ ys) ≡ talk_with (talk_with t xs) ys
unfolding talk_with
talk-append t [] ys = refl
talk-append t (down.Write reg value ∷ xs) ys = talk-append (written t reg value) xs ys
talk-append t (down.Read reg ∷ xs) ys = talk-append t xs ys
talk-append t (down.Post d f p ∷ xs) ys = talk-append t xs ys
talk-append t (down.Return a i ∷ xs) ys = talk-append t xs ys
talk-append t (down.Stop ∷ xs) ys = talk-append t xs ys

pub talk-filter : (t : Talk) (xs : List Down) → talk_with t (filter resets.is_no_post xs) ≡ talk_with t xs
unfolding talk_with
talk-filter t [] = refl
talk-filter t (down.Write reg value ∷ xs) = talk-filter (written t reg value) xs
talk-filter t (down.Read reg ∷ xs) = talk-filter t xs
talk-filter t (down.Post d f p ∷ xs) = talk-filter t xs
talk-filter t (down.Return a i ∷ xs) = talk-filter t xs
talk-filter t (down.Stop ∷ xs) = talk-filter t xs

-- an index is nothing to a talk
index_written : (t : Talk) (reg value : ℕ) → (reg == REPLY_POST_HOST_INDEX) ≡ true → written t reg value ≡ t
index_written t reg value e = subst (λ n. written t n value ≡ t) (sym (eqb-true reg REPLY_POST_HOST_INDEX e)) refl

index_is : (reg : ℕ) → one_if (not (reg == REPLY_POST_HOST_INDEX)) ≡ 0 → (reg == REPLY_POST_HOST_INDEX) ≡ true
index_is reg z = by_test (reg == REPLY_POST_HOST_INDEX) z
  where
    by_test : (c : Bool) → one_if (not c) ≡ 0 → c ≡ true
    by_test true e = refl
    by_test false e = absurd (omega (arith, e))

-- no register is written
pub talk-quiet : (t : Talk) (xs : List Down) → how_many is_register_write xs ≡ 0 → talk_with t xs ≡ t
unfolding talk_with
talk-quiet t [] z = refl
talk-quiet t (down.Write reg value ∷ xs) z =
    let c = how_many-cons is_register_write (down.Write reg value) xs in
    ap (λ u. talk_with u xs) (index_written t reg value (index_is reg (omega (arith, c, z)))) ∙ talk-quiet t xs (omega (arith, c, z))
talk-quiet t (down.Read reg ∷ xs) z = let c = how_many-cons is_register_write (down.Read reg) xs in talk-quiet t xs (omega (arith, c, z))
talk-quiet t (down.Post d f p ∷ xs) z = let c = how_many-cons is_register_write (down.Post d f p) xs in talk-quiet t xs (omega (arith, c, z))
talk-quiet t (down.Return a i ∷ xs) z = let c = how_many-cons is_register_write (down.Return a i) xs in talk-quiet t xs (omega (arith, c, z))
talk-quiet t (down.Stop ∷ xs) z = let c = how_many-cons is_register_write down.Stop xs in talk-quiet t xs (omega (arith, c, z))

module _ (q : ℕ) where
  pub goes-append : (n : ℕ) (t : Talk) (xs ys : List Down) → TalkGoesOn q n t xs → TalkGoesOn q n (talk_with t xs) ys → TalkGoesOn q n t (xs ++ ys)
  unfolding talk_with
  goes-append n t [] ys g k = k
  goes-append n t (down.Write reg value ∷ xs) ys g k = (g.0, (g.1.0, goes-append n (written t reg value) xs ys g.1.1 k))
  goes-append n t (down.Read reg ∷ xs) ys g k = goes-append n t xs ys g k
  goes-append n t (down.Post d f p ∷ xs) ys g k = goes-append n t xs ys g k
  goes-append n t (down.Return a i ∷ xs) ys g k = goes-append n t xs ys g k
  goes-append n t (down.Stop ∷ xs) ys g k = goes-append n t xs ys g k

  pub goes-filter : (n : ℕ) (t : Talk) (xs : List Down) → TalkGoesOn q n t xs → TalkGoesOn q n t (filter resets.is_no_post xs)
  goes-filter n t [] g = tt
  goes-filter n t (down.Write reg value ∷ xs) g = (g.0, (g.1.0, goes-filter n (written t reg value) xs g.1.1))
  goes-filter n t (down.Read reg ∷ xs) g = goes-filter n t xs g
  goes-filter n t (down.Post d f p ∷ xs) g = goes-filter n t xs g
  goes-filter n t (down.Return a i ∷ xs) g = goes-filter n t xs g
  goes-filter n t (down.Stop ∷ xs) g = goes-filter n t xs g

  -- as more resets were asked
  may_cut : (n m : ℕ) → (0 < n → 0 < m) → (c : Bool) → MayCut c n → MayCut c m
  may_cut n m f true g = tt
  may_cut n m f false g = f g

  match_cut : (n m : ℕ) → (0 < n → 0 < m) → (a c : Bool) → MatchBool a (MayCut c n) (Unit {0}) → MatchBool a (MayCut c m) (Unit {0})
  match_cut n m f true c g = may_cut n m f c g
  match_cut n m f false c g = g

  pub goes-more : (n m : ℕ) → (0 < n → 0 < m) → (t : Talk) (xs : List Down) → TalkGoesOn q n t xs → TalkGoesOn q m t xs
  goes-more n m f t [] g = tt
  goes-more n m f t (down.Write reg value ∷ xs) g = (match_cut n m f (reg == WRITE_SEQUENCE) (is_over t) g.0, (g.1.0, goes-more n m f (written t reg value) xs g.1.1))
  goes-more n m f t (down.Read reg ∷ xs) g = goes-more n m f t xs g
  goes-more n m f t (down.Post d h p ∷ xs) g = goes-more n m f t xs g
  goes-more n m f t (down.Return a i ∷ xs) g = goes-more n m f t xs g
  goes-more n m f t (down.Stop ∷ xs) g = goes-more n m f t xs g

  pub talks-on : (n : ℕ) (t : Talk) (xs : List Down) → TalkGoesOn q n t xs → IsTalk q t → IsTalk q (talk_with t xs)
  unfolding talk_with
  talks-on n t [] g k = k
  talks-on n t (down.Write reg value ∷ xs) g k = talks-on n (written t reg value) xs g.1.1 g.1.0
  talks-on n t (down.Read reg ∷ xs) g k = talks-on n t xs g k
  talks-on n t (down.Post d f p ∷ xs) g k = talks-on n t xs g k
  talks-on n t (down.Return a i ∷ xs) g k = talks-on n t xs g k
  talks-on n t (down.Stop ∷ xs) g k = talks-on n t xs g k

  pub goes-quiet : (n : ℕ) (t : Talk) (xs : List Down) → how_many is_register_write xs ≡ 0 → IsTalk q t → TalkGoesOn q n t xs
  goes-quiet n t [] z k = tt
  goes-quiet n t (down.Write reg value ∷ xs) z k =
      let c = how_many-cons is_register_write (down.Write reg value) xs in
      let i = index_is reg (omega (arith, c, z)) in let w = index_written t reg value i in
      (subst (λ m. MatchBool (m == WRITE_SEQUENCE) (MayCut (is_over t) n) (Unit {0})) (sym (eqb-true reg REPLY_POST_HOST_INDEX i)) tt, (subst (IsTalk q) (sym w) k, subst (λ u. TalkGoesOn q n u xs) (sym w) (goes-quiet n t xs (omega (arith, c, z)) k)))
  goes-quiet n t (down.Read reg ∷ xs) z k = let c = how_many-cons is_register_write (down.Read reg) xs in goes-quiet n t xs (omega (arith, c, z)) k
  goes-quiet n t (down.Post d f p ∷ xs) z k = let c = how_many-cons is_register_write (down.Post d f p) xs in goes-quiet n t xs (omega (arith, c, z)) k
  goes-quiet n t (down.Return a i ∷ xs) z k = let c = how_many-cons is_register_write (down.Return a i) xs in goes-quiet n t xs (omega (arith, c, z)) k
  goes-quiet n t (down.Stop ∷ xs) z k = let c = how_many-cons is_register_write down.Stop xs in goes-quiet n t xs (omega (arith, c, z)) k

  -- a talk that is over stays so but for the Doorbell
  other_over : (t : Talk) (reg value : ℕ) → (reg == DOORBELL) ≡ false → is_over t ≡ true → IsTalk q t → (is_over (written t reg value) ≡ true) × IsTalk q (written t reg value)
  other_over t reg value n o k = by_tests (reg == DOORBELL) n (reg == WRITE_SEQUENCE)
    where
      by_tests : (a : Bool) → a ≡ false → (c : Bool) → (let u : Talk = if a then doorbell_written t value else (if c then Quiet else t) in (is_over u ≡ true) × IsTalk q u)
      by_tests true e c = absurd (cc)
      by_tests false e true = (refl, tt)
      by_tests false e false = (o, k)

  cut_over : (a c : Bool) (n : ℕ) → c ≡ true → MatchBool a (MayCut c n) (Unit {0})
  cut_over true true n e = tt
  cut_over true false n e = absurd (cc)
  cut_over false c n e = tt

  pub goes-over : (n : ℕ) (t : Talk) (xs : List Down) → how_many is_doorbell_write xs ≡ 0 → is_over t ≡ true → IsTalk q t → TalkGoesOn q n t xs × (is_over (talk_with t xs) ≡ true)
  unfolding talk_with
  goes-over n t [] z o k = (tt, o)
  goes-over n t (down.Write reg value ∷ xs) z o k =
      let c = how_many-cons is_doorbell_write (down.Write reg value) xs in
      let w = other_over t reg value (false_by_none (reg == DOORBELL) (omega (arith, c, z))) o k in
      let r = goes-over n (written t reg value) xs (omega (arith, c, z)) w.0 w.1 in
      ((cut_over (reg == WRITE_SEQUENCE) (is_over t) n o, (w.1, r.0)), r.1)
  goes-over n t (down.Read reg ∷ xs) z o k = let c = how_many-cons is_doorbell_write (down.Read reg) xs in goes-over n t xs (omega (arith, c, z)) o k
  goes-over n t (down.Post d f p ∷ xs) z o k = let c = how_many-cons is_doorbell_write (down.Post d f p) xs in goes-over n t xs (omega (arith, c, z)) o k
  goes-over n t (down.Return a i ∷ xs) z o k = let c = how_many-cons is_doorbell_write (down.Return a i) xs in goes-over n t xs (omega (arith, c, z)) o k
  goes-over n t (down.Stop ∷ xs) z o k = let c = how_many-cons is_doorbell_write down.Stop xs in goes-over n t xs (omega (arith, c, z)) o k

  -- the keys of a reset cut a talk off
  pub goes-cut : (n : ℕ) (t : Talk) (value : ℕ) (xs : List Down) → 0 < n → how_many is_doorbell_write xs ≡ 0 → TalkGoesOn q n t (down.Write WRITE_SEQUENCE value ∷ xs) × (is_over (talk_with t (down.Write WRITE_SEQUENCE value ∷ xs)) ≡ true)
  unfolding talk_with
  goes-cut n t value xs l z = let r = goes-over n Quiet xs z refl tt in ((cut (is_over t), (tt, r.0)), r.1)
    where
      cut : (c : Bool) → MayCut c n
      cut true = tt
      cut false = l

  -- and a reset of the message unit follows one that is over
  unit_written : (t : Talk) → is_over t ≡ true → doorbell_written t unit_reset_dword ≡ Quiet
  unit_written Quiet o = refl
  unit_written (Talks dwords sent heard) o = ap (λ c. let u : Talk = if c then opened unit_reset_dword else Talks dwords (sent ++ little_bytes 4 unit_reset_dword) heard in u) o

  pub goes-unit : (n : ℕ) (t : Talk) → is_over t ≡ true → TalkGoesOn q n t (down.Write DOORBELL unit_reset_dword ∷ []) × (is_over (talk_with t (down.Write DOORBELL unit_reset_dword ∷ [])) ≡ true)
  unfolding talk_with
  goes-unit n t o = let e = unit_written t o in ((tt, (subst (IsTalk q) (sym e) tt, tt)), ap is_over e)

-- what is read is no word of a talk that is over
word_over : (t : Talk) (v : ℕ) → is_over t ≡ true → word_heard t v ≡ t
word_over Quiet v o = refl
word_over (Talks dwords sent heard) v o =
    ap (λ c. let u : Talk = if c then Talks dwords sent heard else (if has_been_sent dwords sent then Talks dwords sent (heard ++ little_bytes 2 v) else Talks dwords sent heard) in u) o

pub heard-over : (t : Talk) (r : Option ℕ) (v : ℕ) → is_over t ≡ true → value_heard t r v ≡ t
heard-over t None v o = refl
heard-over t (Some reg) v o = by_test (reg == DOORBELL)
  where
    by_test : (c : Bool) → (let u : Talk = if c then word_heard t v else t in u ≡ t)
    by_test true = word_over t v o
    by_test false = refl
