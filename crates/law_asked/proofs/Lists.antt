-- Lists of which each element is counted.
use Rattle.std.proofs.Common.{◌≡◌, ◌≤◌, Bool, true, List, [], ◌∷◌, map, ap, arith}
use Rattle.std.specs.Prelude.{All}
use Rattle.std.proofs.lemmas.List.Elements.{All-cons, All-head, All-nil, All-tail}
use Rattle.mpt_rules.specs.World.Counts.{how_many, one_if}
use Rattle.law_moves.proofs.Counted.{how_many-cons}
use Rattle.law_messages.proofs.Agreeing.{all_same}

pub all_both : {X : Type 0} (P Q : X → Type 0) (xs : List X) → All P xs → All Q xs → All (λ x. P x × Q x) xs
all_both P Q [] a b = All-nil (λ x. P x × Q x)
all_both P Q (x ∷ xs) a b = All-cons (λ x. P x × Q x) x xs (All-head P x xs a, All-head Q x xs b) (all_both P Q xs (All-tail P x xs a) (All-tail Q x xs b))

pub each_counted : {X : Type 0} (C : X → List X → Type 0) → ((x : X) (xs : List X) → C x (x ∷ xs)) → ((x y : X) (xs : List X) → C x xs → C x (y ∷ xs)) → (xs : List X) → All (λ x. C x xs) xs
each_counted C a b [] = All-nil (λ x. C x [])
each_counted C a b (x ∷ xs) = All-cons (λ y. C y (x ∷ xs)) x xs (a x xs) (all_same (λ y. C y xs) (λ y. C y (x ∷ xs)) (λ y c. b y x xs c) xs (each_counted C a b xs))

pub counts_first : {X : Type 0} (test : X → Bool) (x : X) (xs : List X) → test x ≡ true → 1 ≤ how_many test (x ∷ xs)
counts_first test x xs e = let c = how_many-cons test x xs in let o : one_if (test x) ≡ 1 = ap one_if e in omega (arith, c, o)

pub counts_more : {X : Type 0} (test : X → Bool) (x : X) (xs : List X) → 1 ≤ how_many test xs → 1 ≤ how_many test (x ∷ xs)
counts_more test x xs e = let c = how_many-cons test x xs in omega (arith, c, e)

pub all_each : {X : Type 0} (P : X → Type 0) → ((x : X) → P x) → (xs : List X) → All P xs
all_each P f [] = All-nil P
all_each P f (x ∷ xs) = All-cons P x xs (f x) (all_each P f xs)

pub all_mapped : {X Y : Type 0} (P : Y → Type 0) (g : X → Y) → ((x : X) → P (g x)) → (xs : List X) → All P (map g xs)
all_mapped P g f [] = All-nil P
all_mapped P g f (x ∷ xs) = All-cons P (g x) (map g xs) (f x) (all_mapped P g f xs)
