-- The value that is on its way, as a line up changes.
use Rattle.std.proofs.Common.{◌≡◌, ℕ, false, List, [], ◌∷◌, ◌++◌, Option, Some, None, refl, sym, ◌∙◌, subst, arith}
use Rattle.mpt_trace.specs.declared.item.Up.{Up}
use Rattle.mpt_trace.specs.declared.item.Up.TheVariants as upward
use Rattle.mpt_rules.specs.declared.said.Said.{Said}
use Rattle.mpt_rules.specs.declared.said.Said.TheVariants as said
use Rattle.mpt_rules.specs.Ioc.Sending.{up_of}
use Rattle.mpt_rules.specs.World.Counts.{how_many}
use Rattle.mpt_rules.specs.World.Lines.{said_of}
use Rattle.mpt_rules.specs.World.Weight.{is_said_value}
use Rattle.law_facts.specs.DoorAhead.{first_value}
use Rattle.law_moves.proofs.Counted.{how_many-cons}

-- there is none
pub no_first : (xs : List Said) → how_many is_said_value xs ≡ 0 → first_value xs ≡ None
unfolding first_value
no_first [] z = refl
no_first (said.Value v ∷ xs) z = let c = how_many-cons is_said_value (said.Value v) xs in absurd (omega (arith, z, c))
no_first (said.Success s p q ∷ xs) z = let c = how_many-cons is_said_value (said.Success s p q) xs in no_first xs (omega (arith, z, c))
no_first (said.Framed s f p q ∷ xs) z = let c = how_many-cons is_said_value (said.Framed s f p q) xs in no_first xs (omega (arith, z, c))
no_first (said.Mark m ∷ xs) z = let c = how_many-cons is_said_value (said.Mark m) xs in no_first xs (omega (arith, z, c))
no_first (said.Calm ∷ xs) z = let c = how_many-cons is_said_value said.Calm xs in no_first xs (omega (arith, z, c))

-- a front that is none
pub first_pass : (x : Said) (xs : List Said) → is_said_value x ≡ false → first_value (x ∷ xs) ≡ first_value xs
unfolding first_value
first_pass (said.Value v) xs e = absurd (cc)
first_pass (said.Success s p q) xs e = refl
first_pass (said.Framed s f p q) xs e = refl
first_pass (said.Mark m) xs e = refl
first_pass said.Calm xs e = refl

-- more behind
pub first_before : (xs ys : List Said) → how_many is_said_value ys ≡ 0 → first_value (xs ++ ys) ≡ first_value xs
unfolding first_value
first_before [] ys z = no_first ys z
first_before (said.Value v ∷ xs) ys z = refl
first_before (said.Success s p q ∷ xs) ys z = first_before xs ys z
first_before (said.Framed s f p q ∷ xs) ys z = first_before xs ys z
first_before (said.Mark m ∷ xs) ys z = first_before xs ys z
first_before (said.Calm ∷ xs) ys z = first_before xs ys z

-- the first of all
pub first_said : (xs : List Said) (v : ℕ) → how_many is_said_value xs ≡ 0 → first_value (xs ++ said.Value v ∷ []) ≡ Some v
unfolding first_value
first_said [] v z = refl
first_said (said.Value u ∷ xs) v z = let c = how_many-cons is_said_value (said.Value u) xs in absurd (omega (arith, z, c))
first_said (said.Success s p q ∷ xs) v z = let c = how_many-cons is_said_value (said.Success s p q) xs in first_said xs v (omega (arith, z, c))
first_said (said.Framed s f p q ∷ xs) v z = let c = how_many-cons is_said_value (said.Framed s f p q) xs in first_said xs v (omega (arith, z, c))
first_said (said.Mark m ∷ xs) v z = let c = how_many-cons is_said_value (said.Mark m) xs in first_said xs v (omega (arith, z, c))
first_said (said.Calm ∷ xs) v z = let c = how_many-cons is_said_value said.Calm xs in first_said xs v (omega (arith, z, c))

-- the last of all, where no other comes first
pub last_said : (xs : List Said) (n u : ℕ) → ((m : ℕ) → first_value xs ≡ Some m → m ≡ n) → first_value (xs ++ said.Value n ∷ []) ≡ Some u → u ≡ n
unfolding first_value
last_said [] n u f e = some_is u n e
  where
    some_is : (u n : ℕ) → Some n ≡ Some u → u ≡ n
    some_is u n e = cc
last_said (said.Value v ∷ xs) n u f e = f u e
last_said (said.Success s p q ∷ xs) n u f e = last_said xs n u f e
last_said (said.Framed s g p q ∷ xs) n u f e = last_said xs n u f e
last_said (said.Mark m ∷ xs) n u f e = last_said xs n u f e
last_said (said.Calm ∷ xs) n u f e = last_said xs n u f e

-- one item for the other that it is on the lane
swapped : (a b : Said) → ((xs : List Said) → first_value (a ∷ xs) ≡ first_value (b ∷ xs)) → (xs ys : List Said) → first_value (xs ++ a ∷ ys) ≡ first_value (xs ++ b ∷ ys)
unfolding first_value
swapped a b e [] ys = e ys
swapped a b e (said.Value v ∷ xs) ys = refl
swapped a b e (said.Success s p q ∷ xs) ys = swapped a b e xs ys
swapped a b e (said.Framed s f p q ∷ xs) ys = swapped a b e xs ys
swapped a b e (said.Mark m ∷ xs) ys = swapped a b e xs ys
swapped a b e (said.Calm ∷ xs) ys = swapped a b e xs ys

both_none : (a b : Said) → is_said_value a ≡ false → is_said_value b ≡ false → (xs ys : List Said) → first_value (xs ++ a ∷ ys) ≡ first_value (xs ++ b ∷ ys)
both_none a b e f xs ys = swapped a b (λ zs. first_pass a zs e ∙ sym (first_pass b zs f)) xs ys

pub first_put : (y : Said) (free : Option ℕ) (z : Up) → up_of y free ≡ Some z → (xs ys : List Said) → first_value (xs ++ y ∷ ys) ≡ first_value (xs ++ said_of z ∷ ys)
first_put (said.Value v) free z e xs ys = let f : upward.Value v ≡ z = cc in subst (λ x. first_value (xs ++ said.Value v ∷ ys) ≡ first_value (xs ++ said_of x ∷ ys)) f refl
first_put (said.Mark m) free z e xs ys = let f : upward.Mark m ≡ z = cc in subst (λ x. first_value (xs ++ said.Mark m ∷ ys) ≡ first_value (xs ++ said_of x ∷ ys)) f refl
first_put said.Calm free z e xs ys = let f : upward.Calm ≡ z = cc in subst (λ x. first_value (xs ++ said.Calm ∷ ys) ≡ first_value (xs ++ said_of x ∷ ys)) f refl
first_put (said.Success smid page sense) free z e xs ys = both_none (said.Success smid page sense) (said_of z) refl (plain z e) xs ys
  where
    plain : (z : Up) → up_of (said.Success smid page sense) free ≡ Some z → is_said_value (said_of z) ≡ false
    plain (upward.Reply d (Some b) page2 sense2) e = refl
    plain (upward.Reply d None page2 sense2) e = refl
    plain (upward.Value v) e = absurd (cc)
    plain (upward.Mark m) e = refl
    plain upward.Calm e = refl
first_put (said.Framed smid frame page sense) None z e xs ys = absurd (cc)
first_put (said.Framed smid frame page sense) (Some f) z e xs ys = both_none (said.Framed smid frame page sense) (said_of z) refl (framed z e) xs ys
  where
    framed : (z : Up) → up_of (said.Framed smid frame page sense) (Some f) ≡ Some z → is_said_value (said_of z) ≡ false
    framed (upward.Reply d (Some b) page2 sense2) e = refl
    framed (upward.Reply d None page2 sense2) e = refl
    framed (upward.Value v) e = absurd (cc)
    framed (upward.Mark m) e = refl
    framed upward.Calm e = refl
